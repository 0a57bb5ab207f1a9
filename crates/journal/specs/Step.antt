-- One step: which entries are allowed in a world, and the world after one.
use Rattle.std.specs.Prelude.{◌≡◌, ℕ, zero, suc, ◌+◌, ◌-◌, ◌≤◌, ◌^◌, ◌==◌, nat_lt, Bool, true, false, cond, List, ◌∷◌, Option, None}
use Rattle.std.specs.Prelude.{Some, is_some, IsSomeAnd, IfSome}
use Rattle.std.specs.Ordering.{nat_cmp}
use Rattle.capability.specs.declared.Uid.{Uid}
use Rattle.eden_value.specs.Datum.{Datum}
use Rattle.eden_value.specs.declared.status.Status.{Status}
use Rattle.eden_model.specs.Map.{with_item, changed_at}
use Rattle.eden_model.specs.Traffic.{Call, call_at, names_of, broken_by_node, broken_by_link}
use Rattle.journal.specs.declared.command.Command.{Command}
use Rattle.journal.specs.declared.event.Key.{Key}
use Rattle.journal.specs.declared.event.Event.{Event}
use Rattle.journal.specs.declared.event.Event.TheVariants as event
use Rattle.journal.specs.declared.event.Entry.{Entry}
use Rattle.journal.specs.declared.event.StartEnd.TheVariants as start_end
use Rattle.journal.specs.declared.event.RequestEnd.TheVariants as request_end
use Rattle.journal.specs.World.{World, Eject, Active, Site, at_node, site_at, node_at, eject_in, reaches}
use Rattle.journal.specs.Deliveries.{AllowsRequest, AllowsReply, requested, heard, received, meaning_of_reply}
use Rattle.journal.specs.Processes.{AllowsStart, AllowsTurn, start, process_turn, worker_at}
use Rattle.journal.specs.Settling.{first_request, to_settle}
use Rattle.journal.specs.Crashes.{crashed, crash_by, linked}
use Rattle.journal.specs.Stores.{AllowsStore, store_turn, work_of, makes_call}
use Rattle.journal.specs.Starts.{AllowsActivate, activation_turn}
use Rattle.journal.specs.Boots.{AllowsBoot, boot_turn}
use Rattle.journal.specs.Commands.{AllowsCommand, asked_by, bound, made, type_name_of}
use Rattle.journal.specs.Enabled.{no_uid}

-- 1. Events at a node: what its turn allows and changes is a matter of its site alone

-- P holds of the Eject, and of its active part
abbrev pub IsActiveAnd : Site → Uid → (Eject → Active → Type 0) → Type 0
IsActiveAnd s u P = IsSomeAnd (eject_in s u) (λ e. IsSomeAnd e.active (λ it. P e it))

-- the event, one of the five kinds of turns, a boot or a power cut, may happen at this site; no other event may
abbrev pub AllowsAt : Site → Event → Type 0
AllowsAt s (event.Request k a b refused) = AllowsRequest s k a b refused
AllowsAt s (event.Reply k a b name status values) = AllowsReply s.traffic k a b name status values
AllowsAt s (event.Activate u how p) = IsSomeAnd (eject_in s u) (λ e. AllowsActivate s u how p e)
AllowsAt s (event.Start k u p) = IsActiveAnd s u (λ e it. AllowsStart s.traffic k p e it)
AllowsAt s (event.Process u p said) = IsActiveAnd s u (λ e it. IsSomeAnd (worker_at it p) (λ q. AllowsTurn s u p said it q))
AllowsAt s (event.Store u clock how p) = IsSomeAnd (first_request s.node) (λ r. AllowsStore s u how p r)
AllowsAt s (event.Boot n e how p began) = AllowsBoot s e how p began
AllowsAt s (event.Crash n) = s.node.up ≡ true
AllowsAt s _ = ⊥

-- the site after an event there; `reach` says which nodes are reached from this one
abbrev pub site_turn : (ℕ → Bool) → Event → Site → Site
site_turn reach (event.Request k a b refused) s = requested k refused s
site_turn reach (event.Reply k a b name status values) s = heard k status values s
site_turn reach (event.Activate u how p) s = activation_turn u how p s
site_turn reach (event.Start k u p) s = start u k p s
site_turn reach (event.Process u p said) s = process_turn reach u p s
site_turn reach (event.Store u clock how p) s = store_turn how p s
site_turn reach (event.Boot n e how p began) s = boot_turn e how p began s
site_turn reach (event.Crash n) s = crashed s
site_turn reach _ s = s

-- which events a turn allows in a world
abbrev pub AllowsInTurn : World → Event → Type 0
AllowsInTurn w (event.Request k a b refused) = IsSomeAnd (site_at w b) (λ s. AllowsAt s (event.Request k a b refused))
AllowsInTurn w (event.Reply k a b name status values) = AllowsReply w.traffic k a b name status values
AllowsInTurn w (event.Activate u how p) = IsSomeAnd (site_at w u.node) (λ s. AllowsAt s (event.Activate u how p))
AllowsInTurn w (event.Start k u p) = IsSomeAnd (site_at w u.node) (λ s. AllowsAt s (event.Start k u p))
AllowsInTurn w (event.Process u p said) = IsSomeAnd (site_at w u.node) (λ s. AllowsAt s (event.Process u p said))
AllowsInTurn w (event.Store u clock how p) = IsSomeAnd (site_at w u.node) (λ s. AllowsAt s (event.Store u clock how p))
AllowsInTurn w event.Quiet = Unit {0}
AllowsInTurn w event.Spent = Unit {0}
AllowsInTurn w _ = ⊥

-- Which events are allowed in a world: those of the command that is carried out, or those of a turn where none is.
abbrev pub AllowsEvent : World → Option Command → Event → Type 0
AllowsEvent w None e = AllowsInTurn w e
AllowsEvent w (Some c) e = AllowsCommand w c e

-- 2. Which disk an event touches: by a boot, a device call of a turn, a power cut or an arming

-- the node where the test holds; else 0, which stands for none
abbrev pub node_if : Bool → ℕ → ℕ
node_if true n = n
node_if false n = 0

-- whether an activation makes a device call: it settles, or reads what is kept
abbrev pub touches_start : Site → Uid → Bool
touches_start s u = cond (to_settle s) true (with_item (eject_in s u) (λ e. is_some e.kept) false)

-- whether a turn of the store makes a device call, for its first request or for the settling before it
abbrev pub touches_store : Site → Bool
touches_store s = with_item (first_request s.node) (λ r. makes_call (work_of s r)) false

-- the node whose disk the event touches; a boot always touches its own, also where it makes no device call; 0 for none
abbrev pub touched : World → Event → ℕ
touched w (event.Boot n e how p began) = n
touched w (event.Crash n) = n
touched w (event.Armed n what) = n
touched w (event.Activate u how p) = with_item (site_at w u.node) (λ s. node_if (touches_start s u) u.node) 0
touched w (event.Store u clock how p) = with_item (site_at w u.node) (λ s. node_if (touches_store s) u.node) 0
touched w _ = 0

-- 3. The clock of that disk

-- the clock at which a disk stands still: 2^64 - 1 device calls
abbrev pub last_clock : ℕ
last_clock = 2 ^ 64 - 1

-- one more, up to the last
abbrev pub one_more : ℕ → ℕ
one_more c = cond (nat_lt c last_clock) (c + 1) c

-- the clock of the last entry on the disk of this node; None where there was none yet
abbrev pub clock_before : World → ℕ → Option ℕ
clock_before w n = with_item (node_at w n) (λ it. it.clock) None

-- the clock does not fall
abbrev pub NotBefore : ℕ → Option ℕ → Type 0
NotBefore c before = IfSome before (λ b. b ≤ c)

-- the clock that an entry may show: from the last one of the disk that it touched on, and 0 where it touched none
abbrev pub ClockFits : World → ℕ → ℕ → Type 0
ClockFits w zero c = c ≡ 0
ClockFits w (suc n) c = NotBefore c (clock_before w (suc n))

-- A store's turn shows the disk's clock; with a device call it is one more, and without one it is what it was. A node with a request has
-- been booted, so its disk has a clock.
abbrev pub StoreClockFits : ℕ → Option ℕ → ℕ → ℕ → Type 0
StoreClockFits zero before shown c = IfSome before (λ b. shown ≡ b)
StoreClockFits (suc n) before shown c = (shown ≡ c) × IfSome before (λ b. c ≡ one_more b)

-- where the event is a turn of a store, the clock that it shows goes with the device call that it made, if it made one
abbrev pub StoreClock : World → Event → ℕ → Type 0
StoreClock w (event.Store u shown how p) c = StoreClockFits (touched w (event.Store u shown how p)) (clock_before w u.node) shown c
StoreClock w _ c = Unit {0}

-- 4. Which calls of the shell an event answers `broken`

-- whether the event breaks this call: an open one from elsewhere to the node that falls, or over the link that is cut
abbrev pub breaks : Event → Call → Bool
breaks (event.Crash n) c = broken_by_node n c
breaks (event.Link a b false) c = broken_by_link a b c
breaks (event.Activate u start_end.Stop p) c = broken_by_node u.node c
breaks (event.Store u clock request_end.Stop p) c = broken_by_node u.node c
breaks _ c = false

-- 5. An entry that is allowed

-- the world allows this entry, of this command, or of a turn where there is none; which command or turn is due is not asked here
pub record Allows (w : World) (c : Option Command) (e : Entry) : Type 0 where
  -- its event may come of the command, or of a turn
  pub event : AllowsEvent w c e.event
  -- its names are those of the shell's calls that the event breaks, by call number
  pub broken : e.broken ≡ names_of (breaks e.event) w.traffic
  -- its node is the one whose disk the event touches, or 0
  pub disk : e.node ≡ touched w e.event
  -- its clock is not before the last one of that disk; it is 0 where no disk is touched
  pub clock : ClockFits w e.node e.clock
  -- a store's turn shows the clock of its disk, and where it made a device call that is the entry's clock
  pub store_clock : StoreClock w e.event e.clock

-- 6. The world after an event

-- the world after an event at node n, which changes nothing but its site
abbrev pub at_site : World → ℕ → Event → World
at_site w n e = at_node n (site_turn (reaches w n) e) w

-- the world after an event that crashes node n: the processes elsewhere whose calls it breaks are told so
abbrev pub stopped_at : World → ℕ → Event → World
stopped_at w n e = crash_by n (site_turn (reaches w n) e) w

-- a reply to the shell gives the name its meaning, where the call is open
abbrev pub heard_by_shell : ℕ → List ℕ → Status → List Datum → World → World
heard_by_shell k name status values w = record w {
  traffic = received k w.traffic;
  names = cond (with_item (call_at w.traffic k) (λ c. c.open_) false) ((name, meaning_of_reply status values) ∷ w.names) w.names;
}

-- a reply is delivered: with the name of its call to the shell, without one to a process at node b
abbrev pub replied : ℕ → ℕ → ℕ → Option (List ℕ) → Status → List Datum → World → World
replied k a b None status values w = at_site w b (event.Reply k a b None status values)
replied k a b (Some name) status values w = heard_by_shell k name status values w

-- the world after an event of a turn
abbrev pub after_turn : World → Event → World
after_turn w (event.Request k a b refused) = at_site w b (event.Request k a b refused)
after_turn w (event.Reply k a b name status values) = replied k a b name status values w
after_turn w (event.Activate u start_end.Stop p) = stopped_at w u.node (event.Activate u start_end.Stop p)
after_turn w (event.Activate u how p) = at_site w u.node (event.Activate u how p)
after_turn w (event.Start k u p) = at_site w u.node (event.Start k u p)
after_turn w (event.Process u p said) = at_site w u.node (event.Process u p said)
after_turn w (event.Store u clock request_end.Stop p) = stopped_at w u.node (event.Store u clock request_end.Stop p)
after_turn w (event.Store u clock how p) = at_site w u.node (event.Store u clock how p)
after_turn w _ = w

-- the world after the event of a command
abbrev pub after_command : World → Command → Event → World
after_command w c (event.Boot n e how p began) = at_site w n (event.Boot n e how p began)
after_command w c (event.Crash n) = stopped_at w n (event.Crash n)
after_command w c (event.Link a b joined) = linked a b joined w
after_command w c (event.Made name s u) = made name (type_name_of c) u w
after_command w c (event.Bound name held) = bound c held w
after_command w c (event.Asked k name at_once) = asked_by c k at_once w
after_command w c _ = w

-- the world after what happened, by this command, or in a turn where there is none
abbrev pub happened : World → Option Command → Event → World
happened w None e = after_turn w e
happened w (Some c) e = after_command w c e

-- 7. Turns and clocks

-- the key of a turn, by its event; None where that is no turn
abbrev pub key_of : Event → Option Key
key_of (event.Request k a b refused) = Some (record { station = b; kind = 1; sender = a; uid = no_uid; process = 0 })
key_of (event.Reply k a b name s results) = Some (record { station = b; kind = 1; sender = a; uid = no_uid; process = 0 })
key_of (event.Activate u how p) = Some (record { station = u.node; kind = 2; sender = 0; uid = u; process = 0 })
key_of (event.Start k u p) = Some (record { station = u.node; kind = 3; sender = 0; uid = u; process = 0 })
key_of (event.Process u p said) = Some (record { station = u.node; kind = 4; sender = 0; uid = u; process = p })
key_of (event.Store u c how p) = Some (record { station = u.node; kind = 5; sender = 0; uid = no_uid; process = 0 })
key_of _ = None

-- one more turn was taken, by this key; where there is no key, none was
abbrev pub counted : Option Key → World → World
counted None w = w
counted (Some k) w = record w { turns = w.turns + 1; last = Some k }

-- this clock is the last one of the node's disk; for node 0 nothing changes
abbrev pub clocked : ℕ → ℕ → World → World
clocked n c w = record w { nodes = cond (n == 0) w.nodes (changed_at nat_cmp n (λ it. record it { clock = Some c }) w.nodes) }

-- the world after an entry: what happened, then its clock as the last one of its disk, and one more turn where it is one
abbrev pub next : World → Option Command → Entry → World
next w c e = counted (key_of e.event) (clocked e.node e.clock (happened w c e.event))
