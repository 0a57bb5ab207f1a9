-- The ways in which a node goes down: a crash by command, and a stop in a turn of the store or in an activation.
use Rattle.std.proofs.Common.{◌≡◌, ◌==◌, ◌≤◌, ◌+◌, ℕ, zero, suc, Bool, true, false, cond, List, [], ◌∷◌, Option, None, Some, is_some}
use Rattle.std.proofs.Common.{refl, sym}
use Rattle.std.proofs.Common.{◌∙◌, ap, subst, arith}
use Rattle.std.specs.Prelude.{IsSomeAnd, IfSome}
use Rattle.std.specs.List.{filter_map}
use Rattle.std.specs.Option.{option_map}
use Rattle.std.proofs.lemmas.List.{append-nil}
use Rattle.std.proofs.lemmas.Bool.Decides.{nat_tests}
use Rattle.std.proofs.lemmas.Bool.{eqb-true, eq-eqb}
use Rattle.capability.specs.declared.Uid.{Uid}
use Rattle.eden_disk.specs.Calls.{Counts, more_by}
use Rattle.eden_disk.specs.declared.disk.ImageMode.{ImageMode}
use Rattle.eden_model.specs.Map.{with_item, first}
use Rattle.eden_model.specs.Traffic.{broken_by_node}
use Rattle.epl_syntax.specs.Rules.OfTypes.{TypeList}
use Rattle.invocation.specs.Mail.{Mail}
use Rattle.passive_store.specs.declared.store.Doubt.{Doubt}
use Rattle.passive_store.specs.declared.store.Pick.{Pick}
use Rattle.passive_store.specs.Kept.{Layout, doubt_in}
use Rattle.passive_store.specs.Seen.{DiskSeen}
use Rattle.journal.specs.declared.command.Command.TheVariants as command
use Rattle.journal.specs.declared.event.Event.{Event}
use Rattle.journal.specs.declared.event.Event.TheVariants as event
use Rattle.journal.specs.declared.event.Entry.{Entry}
use Rattle.journal.specs.declared.event.StartEnd.{StartEnd}
use Rattle.journal.specs.declared.event.StartEnd.TheVariants as start_end
use Rattle.journal.specs.declared.event.RequestEnd.{RequestEnd}
use Rattle.journal.specs.declared.event.RequestEnd.TheVariants as end
use Rattle.journal.specs.World.{World, Node, Site, Eject, StoreRequest, node_at, site_at, site_of, eject_in, reaches}
use Rattle.journal.specs.Crashes.{crashed}
use Rattle.journal.specs.Kept.{crashes}
use Rattle.journal.specs.Settling.{first_request, to_settle}
use Rattle.journal.specs.Sites.{AllSound, AllThere, IsSoundSite}
use Rattle.journal.specs.Standing.{Standing, Stands, epoch_put, with_changes, unfinished_at}
use Rattle.journal.specs.Starts.{StartsFrom, StartsSo, AllowsActivate}
use Rattle.journal.specs.Step.{AllowsAt, AllowsEvent, AllowsInTurn, StoreClock, after_turn, breaks, happened, key_of, site_turn}
use Rattle.journal.specs.Step.{stopped_at, touched, touches_start}
use Rattle.journal.specs.Step.{touches_store, node_if, StoreClockFits, clock_before, one_more}
use Rattle.journal.specs.Stores.{Work, syncs, reads, unkept, without_room, calls, work_of, makes_call, EndsSo, AllowsStore}
use Rattle.history_laws.proofs.StaysUp.{up-store_turn, up-activation}
use Rattle.checkpoint.specs.Asked.{noted_in}
use Rattle.checkpoint.specs.StoreStands.{NodeOnDisk, state_of}
use Rattle.checkpoint.specs.Turns.{with_clock, RestStands}
use Rattle.eden_disk.proofs.Held.{moments_weaker}
use Rattle.checkpoint.proofs.Lifts.{ends-unfinished, past-last}
use Rattle.checkpoint.proofs.Throughout.{stands-more}
use Rattle.eden_kernel.specs.Boots.{IsAsleep}
use Rattle.eden_kernel.specs.Stands.{Held, NodeStands}
use Rattle.eden_kernel.specs.Turns.{Falls, Crashes, clock_of}
use Rattle.eden_kernel.specs.DiskTurns.{Stops}
use Rattle.eden_world.specs.Worlds.{up, down, InHand, IsNumber, WorldStands, UpStands}
use Rattle.eden_world.specs.Steps.{disk_of, CallsSo, CallsAsDue, Goes, EachEnds}
use Rattle.eden_world.specs.Told.{Reseats, Fell, EntryShows, name_at, SameDisks, IsTelling}
use Rattle.eden_world.proofs.Falls.{up-timed, node-of, up-at, its-node, fall-begins, fall-ends, ends-besides}
use Rattle.eden_disk.specs.Told.{LeavesOnly, contents}
use Rattle.journal.specs.Opening.{IsToldFor}
use Rattle.checkpoint.specs.Throughout.{EndsOnDisk}
use Rattle.journal.specs.Standing.{unfinished}
use Rattle.checkpoint.proofs.Rooms.{kept-room}
use Rattle.eden_world.proofs.SeatRoom.{kept-less}

-- 1. A crash by command

-- what a crash of the kernel leaves
abbrev pub CrashesSo : Layout → Held → Option Doubt → DiskSeen → Type 0
CrashesSo layout a noted d = (ts : TypeList) (m : Mail) (s : Site) → NodeStands layout ts a m s → Crashes layout a s noted d.counts d.told

pub crash-begins : (layout : Layout) (more : ℕ) (old mid : InHand) (w : World) (n : ℕ) (a : Held) (noted : Option Doubt) (d : DiskSeen)
    (numbers : List ℕ) → WorldStands layout (suc more) old w → AllSound w → IsNumber n → Fell n a noted d numbers old mid
    → CrashesSo layout a noted d → ((s : Site) (clock : ℕ) → IsAsleep (with_clock clock (crashed s)))
    → IsTelling layout more None n d.counts.clock (stopped_at w n (event.Crash n)) mid numbers
crash-begins layout more old mid w n a noted d numbers is sound number fell kernel asleep =
    let y = node-of layout (suc more) old w n is fell.was_up in
    let here : UpStands layout old.types old.mail (suc more) (site_of w n y.0) a = up-at layout (suc more) old w n y.0 a is y.1 fell.was_up
    in
    let x : Crashes layout a (site_of w n y.0) noted d.counts d.told = kernel old.types old.mail (site_of w n y.0) here.stands in
    fall-begins layout more old mid w n y.0 (event.Crash n) noted d a.seen.more numbers is sound y.1 x.allowed (eq-eqb n n refl)
    (subst (λ k. RestStands layout k a.seen.more (with_clock d.counts.clock (crashed (site_of w n y.0))) noted d.counts.size d.counts.clock
    d.told) (its-node layout (suc more) n old w y.0 a here) x.falls.rests) (omega (arith, here.told))
    (asleep (site_of w n y.0) d.counts.clock) a fell None

pub crash-goes : (layout : Layout) (more : ℕ) (old mid new : InHand) (w : World) (n : ℕ) (mode : ImageMode) (e : Entry) (a : Held)
    (noted : Option Doubt) (d : DiskSeen) (numbers : List ℕ) → WorldStands layout (suc more) old w → AllSound w → IsNumber n
    → Fell n a noted d numbers old mid → CrashesSo layout a noted d → e.event ≡ event.Crash n → EntryShows n d.counts.clock
    (filter_map (name_at mid.mail) numbers) e
    → SameDisks mid new → IsTelling layout more None n d.counts.clock (stopped_at w n (event.Crash n)) new []
    → Goes layout more w (Some (command.Crash n mode)) e old new
crash-goes layout more old mid new w n mode e a noted d numbers is sound number fell kernel its_event shows same telling =
    let y = node-of layout (suc more) old w n is fell.was_up in
    let here : UpStands layout old.types old.mail (suc more) (site_of w n y.0) a = up-at layout (suc more) old w n y.0 a is y.1 fell.was_up
    in
    let x : Crashes layout a (site_of w n y.0) noted d.counts d.told = kernel old.types old.mail (site_of w n y.0) here.stands in
    fall-ends layout more old mid new w (Some (command.Crash n mode)) e n y.0 a noted d a.seen.more numbers is sound y.1 fell
    (subst (AllowsEvent w (Some (command.Crash n mode))) (sym its_event)
    (refl, ap (λ o. with_item o (λ (z : Node). z.up) false) y.1 ∙ here.stands.disk.up))
    (ap (happened w (Some (command.Crash n mode))) its_event ∙ ap (stopped_at w n) (sym its_event)) (ap (touched w) its_event)
    (ap breaks its_event) (subst (λ ev. StoreClock w ev e.clock) (sym its_event) tt) (ap (epoch_put n w) its_event) shows
    (subst (λ ev. Falls layout a (site_of w n y.0) (site_turn (reaches w n) ev (site_of w n y.0)) a.seen.more noted d.counts d.told)
    (sym its_event) x.falls) same
    (subst (λ ev. IsTelling layout more (key_of ev) n d.counts.clock (stopped_at w n ev) new []) (sym its_event) telling)

-- There was no memory behind the fall of the node: the run ends.
fallen-ends : (layout : Layout) (more least n : ℕ) (old new : InHand) (w : World) (it later : Node) (a : Held) (y : DiskSeen)
    → least ≤ more → WorldStands layout more old w → node_at w n ≡ Some it → it.clock ≡ Some (clock_of a) → old.seats n ≡ Some (up a)
    → NodeOnDisk layout n it [] later a.seen.disk.told (clock_of a) y.told y.counts.clock
    → LeavesOnly (IsToldFor layout n least) (contents y.told) → option_map disk_of (new.seats n) ≡ Some y
    → ((m : ℕ) → (m == n) ≡ false → option_map disk_of (new.seats m) ≡ option_map disk_of (old.seats m)) → EachEnds layout least w old new
fallen-ends layout more least n old new w it later a y less is at its_clock was on_disk room now same =
    ends-besides layout more least n old new w a.seen.disk y less is (ap (option_map disk_of) was) now (record { ends = ends; room = room })
    same
  where
    none-added : (layout : Layout) (n : ℕ) (st : Standing) (image : List ℕ) → Stands layout n (with_changes [] st) image
        → Stands layout n st image
    none-added layout n st image = subst (λ cs. Stands layout n (record st { changes = cs }) image) (append-nil st.changes)

    ends : EndsOnDisk layout n w (unfinished w) a.seen.disk.told (clock_of a) y.told y.counts.clock
    ends = ends-unfinished layout n w it a.seen.disk.told y.told (clock_of a) y.counts.clock at
        (λ m h. past-last it (clock_of a) m (subst (λ o. IfSome o (λ c. c ≡ clock_of a)) (sym its_clock) refl) h) on_disk.timed
        (moments_weaker (Stands layout n (with_changes [] (state_of n it)))
        (Stands layout n (with_changes (unfinished_at n it) (state_of n it)))
        a.seen.disk.told y.told
        (λ image stood. stands-more layout n (unfinished_at n it) (state_of n it) image (none-added layout n (state_of n it) image stood))
        on_disk.moments)

pub crash-starves : (layout : Layout) (more : ℕ) (old mid new : InHand) (w : World) (n : ℕ) (a : Held) (noted : Option Doubt) (d : DiskSeen)
    → WorldStands layout (suc more) old w → IsNumber n → old.seats n ≡ Some (up a) → CrashesSo layout a noted d
    → Reseats n (down noted d) old mid → SameDisks mid new → EachEnds layout more w old new
crash-starves layout more old mid new w n a noted d is number was kernel seats same =
    let y = node-of layout (suc more) old w n is was in
    let here : UpStands layout old.types old.mail (suc more) (site_of w n y.0) a = up-at layout (suc more) old w n y.0 a is y.1 was in
    let x : Crashes layout a (site_of w n y.0) noted d.counts d.told = kernel old.types old.mail (site_of w n y.0) here.stands in
    fallen-ends layout (suc more) more n old new w y.0 (crashed (site_of w n y.0)).node a d (omega arith) is y.1
    here.stands.disk.its_clock was
    (subst (λ k. NodeOnDisk layout k y.0 [] (crashed (site_of w n y.0)).node a.seen.disk.told (clock_of a) d.told d.counts.clock)
    (its-node layout (suc more) n old w y.0 a here) x.falls.disk)
    (subst (λ k. LeavesOnly (IsToldFor layout k more) (contents d.told)) (its-node layout (suc more) n old w y.0 a here)
    (kept-less layout a.seen.node (suc more) more d.told (omega arith)
    (kept-room layout a.seen.node (suc more) a.seen.more x.falls.rests.kept _ d.told
    (let enough : suc more ≤ a.seen.more = here.told in omega (arith, enough)) x.falls.rests.stands)))
    (same n ∙ ap (option_map disk_of) seats.here) (λ m other. same m ∙ ap (option_map disk_of) (seats.others m other))

-- 2. A turn that stops

-- a turn of the store, or an activation
abbrev pub IsDiskTurn : Event → Type 0
IsDiskTurn (event.Store u clock how p) = Unit {0}
IsDiskTurn (event.Activate u how p) = Unit {0}
IsDiskTurn _ = ⊥

down-up : {A : Type 0} (b : Bool) → b ≡ true → b ≡ false → A
down-up b on off = absurd (let bad : true ≡ false = sym on ∙ off in cc bad)

asked-here : (s : Site) (u : Uid) (how : RequestEnd) (p : Option Pick) → IsSoundSite s
    → IsSomeAnd (first_request s.node) (λ r. AllowsStore s u how p r) → u.node ≡ s.number
asked-here s u how p sound allowed = go s.node.requests sound.node.there allowed
  where
    go : (rs : List StoreRequest) → AllThere rs s.node.ejects → IsSomeAnd (first rs) (λ r. AllowsStore s u how p r) → u.node ≡ s.number
    go [] there a = absurd a
    go (r ∷ rs) there a = ap (λ (v : Uid). v.node) a.of_uid ∙ sound.node.of_node r.uid there.0

queued-here : (s : Site) (u : Uid) (how : StartEnd) (p : Option Pick) → IsSoundSite s
    → IsSomeAnd (eject_in s u) (λ e. AllowsActivate s u how p e) → u.node ≡ s.number
queued-here s u how p sound allowed = sound.node.of_node u (go (eject_in s u) allowed)
  where
    go : (o : Option Eject) → IsSomeAnd o (λ e. AllowsActivate s u how p e) → is_some o ≡ true
    go None a = absurd a
    go (Some e) a = refl

-- it went down, so it stopped
pub stop-crashes : (reach : ℕ → Bool) (e : Event) (s : Site) → IsDiskTurn e → IsSoundSite s → AllowsAt s e → s.node.up ≡ true
    → (site_turn reach e s).node.up ≡ false → crashes s.number e ≡ true
stop-crashes reach (event.Store u clock end.Stop p) s is sound allowed on off =
    eq-eqb u.node s.number (asked-here s u end.Stop p sound allowed)
stop-crashes reach (event.Store u clock end.Part p) s is sound allowed on off = down-up _ (up-store_turn end.Part p s refl on) off
stop-crashes reach (event.Store u clock end.Done p) s is sound allowed on off = down-up _ (up-store_turn end.Done p s refl on) off
stop-crashes reach (event.Store u clock end.Fault p) s is sound allowed on off = down-up _ (up-store_turn end.Fault p s refl on) off
stop-crashes reach (event.Store u clock end.Full p) s is sound allowed on off = down-up _ (up-store_turn end.Full p s refl on) off
stop-crashes reach (event.Activate u start_end.Stop p) s is sound allowed on off =
    eq-eqb u.node s.number (queued-here s u start_end.Stop p sound allowed)
stop-crashes reach (event.Activate u start_end.Ok p) s is sound allowed on off = down-up _ (up-activation u start_end.Ok p s refl on) off
stop-crashes reach (event.Activate u start_end.Gone p) s is sound allowed on off = down-up _ (up-activation u start_end.Gone p s refl on)
    off
stop-crashes reach (event.Activate u start_end.Fault p) s is sound allowed on off = down-up _ (up-activation u start_end.Fault p s refl on)
    off
stop-crashes reach (event.Activate u start_end.Damaged p) s is sound allowed on off =
    down-up _ (up-activation u start_end.Damaged p s refl on) off
stop-crashes reach _ s is sound allowed on off = absurd is

-- what its event is in the world
pub record StopsIn (w : World) (n : ℕ) (e : Event) : Type 0 where
  pub allowed : AllowsInTurn w e
  pub happens : after_turn w e ≡ stopped_at w n e
  pub touches : touched w e ≡ n
  pub hits : breaks e ≡ broken_by_node n
  pub puts : epoch_put n w e ≡ []

in-site : (w : World) (n : ℕ) (it : Node) (P : Site → Type 0) → node_at w n ≡ Some it → P (site_of w n it) → IsSomeAnd (site_at w n) P
in-site w n it P at h = subst (λ o. IsSomeAnd (with_item o (λ x. Some (site_of w n x)) None) P) (sym at) h

-- a turn of the store that stopped made a device call
touches-stop : (s : Site) (u : Uid) (clock : ℕ) (p : Option Pick) → AllowsAt s (event.Store u clock end.Stop p) → touches_store s ≡ true
touches-stop s u clock p allowed = by_request (first_request s.node) allowed
  where
    by_work : (k : Work) → EndsSo k end.Stop p → makes_call k ≡ true
    by_work syncs e = refl
    by_work reads e = refl
    by_work unkept e = absurd e
    by_work without_room e = absurd e
    by_work calls e = refl

    by_request : (o : Option StoreRequest) → IsSomeAnd o (λ r. AllowsStore s u end.Stop p r)
        → with_item o (λ r. makes_call (work_of s r)) false ≡ true
    by_request None a = absurd a
    by_request (Some r) a = by_work (work_of s r) a.ends

stops-store : (w : World) (u : Uid) (clock : ℕ) (p : Option Pick) (it : Node) → node_at w u.node ≡ Some it
    → AllowsAt (site_of w u.node it) (event.Store u clock end.Stop p) → StopsIn w u.node (event.Store u clock end.Stop p)
stops-store w u clock p it at allowed = record {
  allowed = in-site w u.node it (λ s. AllowsAt s (event.Store u clock end.Stop p)) at allowed;
  happens = refl;
  touches = ap (λ o. with_item (with_item o (λ x. Some (site_of w u.node x)) None) (λ s. node_if (touches_store s) u.node) 0) at
      ∙ ap (λ b. node_if b u.node) (touches-stop (site_of w u.node it) u clock p allowed);
  hits = refl;
  puts = refl;
}

stops-start : (w : World) (u : Uid) (p : Option Pick) (it : Node) → node_at w u.node ≡ Some it
    → AllowsAt (site_of w u.node it) (event.Activate u start_end.Stop p) → StopsIn w u.node (event.Activate u start_end.Stop p)
stops-start w u p it at allowed = record {
  allowed = in-site w u.node it (λ s. AllowsAt s (event.Activate u start_end.Stop p)) at allowed;
  happens = refl;
  touches = ap (λ o. with_item (with_item o (λ x. Some (site_of w u.node x)) None) (λ s. node_if (touches_start s u) u.node) 0) at
      ∙ ap (λ b. node_if b u.node) (by_eject (eject_in s u) allowed);
  hits = refl;
  puts = refl;
}
  where
    s : Site
    s = site_of w u.node it

    kept : (o : Option (List ℕ)) → StartsSo s.types u o start_end.Stop → is_some o ≡ true
    kept None h = absurd h
    kept (Some bytes) h = refl

    of-eject : (o : Option Eject) → IsSomeAnd o (λ e. StartsSo s.types u e.kept start_end.Stop) → with_item o (λ e. is_some e.kept) false ≡
        true
    of-eject None h = absurd h
    of-eject (Some e) h = kept e.kept h

    by_settling : (b : Bool) → StartsFrom s u b start_end.Stop p → cond b true (with_item (eject_in s u) (λ e. is_some e.kept) false) ≡ true
    by_settling true h = refl
    by_settling false h = of-eject (eject_in s u) h.1

    by_eject : (o : Option Eject) → IsSomeAnd o (λ e. AllowsActivate s u start_end.Stop p e) → touches_start s u ≡ true
    by_eject None a = absurd a
    by_eject (Some e) a = by_settling (to_settle s) a.starts

pub stops-in : (w : World) (n : ℕ) (e : Event) (it : Node) → IsDiskTurn e → crashes n e ≡ true → node_at w n ≡ Some it
    → AllowsAt (site_of w n it) e → StopsIn w n e
stops-in w n (event.Store u clock end.Stop p) it is falls at allowed =
    subst (λ m. node_at w m ≡ Some it → AllowsAt (site_of w m it) (event.Store u clock end.Stop p)
    → StopsIn w m (event.Store u clock end.Stop p)) (eqb-true u.node n falls) (stops-store w u clock p it) at allowed
stops-in w n (event.Activate u start_end.Stop p) it is falls at allowed =
    subst (λ m. node_at w m ≡ Some it → AllowsAt (site_of w m it) (event.Activate u start_end.Stop p)
    → StopsIn w m (event.Activate u start_end.Stop p)) (eqb-true u.node n falls) (stops-start w u p it) at allowed
stops-in w n (event.Crash m) it is falls at allowed = absurd is
stops-in w n _ it is falls at allowed = absurd (let bad : false ≡ true = falls in cc bad)

-- What a turn of the kernel that stopped leaves, at the site of the node: the node is to be closed, and took one at most of the changes for
-- which the room is told.
abbrev pub StopsSo : Layout → TypeList → Mail → World → ℕ → Held → Held → Event → Type 0
StopsSo layout ts m w n a b e = (it : Node) → node_at w n ≡ Some it → IsSoundSite (site_of w n it) → 1 ≤ a.seen.more
    → NodeStands layout ts a m (site_of w n it) → Stops layout b (reaches w n) a (site_of w n it) e × (a.seen.more ≤ b.seen.more + 1)

-- what is noted of its doubt as it is closed
abbrev pub noted_of : Held → Option Doubt
noted_of b = noted_in (doubt_in b.seen.work) b.seen.kept

module _ (layout : Layout) (more : ℕ) (old mid : InHand) (w : World) (n : ℕ) (it : Node) (e : Event) (a b : Held) (numbers : List ℕ)
    (is : WorldStands layout (suc more) old w) (sound : AllSound w) (at : node_at w n ≡ Some it) (turn : IsDiskTurn e)
    (fell : Fell n a (noted_of b) b.seen.disk numbers old mid) (kernel : StopsSo layout old.types old.mail w n a b e) where
  here : UpStands layout old.types old.mail (suc more) (site_of w n it) a
  here = up-at layout (suc more) old w n it a is at fell.was_up

  behind : Stops layout b (reaches w n) a (site_of w n it) e × (a.seen.more ≤ b.seen.more + 1)
  behind = kernel it at (sound n it at) (omega (arith, here.told)) here.stands

  rests : RestStands layout n b.seen.more (with_clock (clock_of b) (site_turn (reaches w n) e (site_of w n it)))
      (noted_of b) b.seen.disk.counts.size b.seen.disk.counts.clock b.seen.disk.told
  rests = subst (λ k. RestStands layout k b.seen.more (with_clock (clock_of b) (site_turn (reaches w n) e (site_of w n it)))
      (noted_of b) b.seen.disk.counts.size b.seen.disk.counts.clock b.seen.disk.told)
      (its-node layout (suc more) n old w it a here) behind.0.falls.rests

  falls : crashes n e ≡ true
  falls = stop-crashes (reaches w n) e (site_of w n it) turn (sound n it at) behind.0.allowed here.stands.disk.up
      (sym (up-timed (clock_of b) (site_turn (reaches w n) e (site_of w n it))) ∙ rests.is_down)

  stop-begins-at : IsTelling layout more (key_of e) n (clock_of b) (stopped_at w n e) mid numbers
  stop-begins-at = fall-begins layout more old mid w n it e (noted_of b) b.seen.disk b.seen.more numbers is sound at
      behind.0.allowed falls rests (omega (arith, here.told, behind.1)) behind.0.asleep a fell (key_of e)

  stop-goes-at : (new : InHand) (entry : Entry) → entry.event ≡ e → StoreClock w e entry.clock → EntryShows n (clock_of b)
      (filter_map (name_at mid.mail) numbers) entry
      → SameDisks mid new → IsTelling layout more (key_of e) n (clock_of b) (stopped_at w n e) new [] → Goes layout more w None entry old
      new
  stop-goes-at new entry its_event store_clock shows same telling =
      let x : StopsIn w n e = stops-in w n e it turn falls at behind.0.allowed in
      fall-ends layout more old mid new w None entry n it a (noted_of b) b.seen.disk b.seen.more numbers is sound at
      fell (subst (AllowsInTurn w) (sym its_event) x.allowed)
      (ap (after_turn w) its_event ∙ x.happens ∙ ap (stopped_at w n) (sym its_event)) (ap (touched w) its_event ∙ x.touches)
      (ap breaks its_event ∙ x.hits) (subst (λ ev. StoreClock w ev entry.clock) (sym its_event) store_clock)
      (ap (epoch_put n w) its_event ∙ x.puts) shows
      (subst (λ ev. Falls layout a (site_of w n it) (site_turn (reaches w n) ev (site_of w n it)) b.seen.more
      (noted_of b) b.seen.disk.counts b.seen.disk.told) (sym its_event) behind.0.falls) same
      (subst (λ ev. IsTelling layout more (key_of ev) n (clock_of b) (stopped_at w n ev) new []) (sym its_event) telling)

-- a stop begins: of the store, or of an activation
pub stop-begins : (layout : Layout) (more : ℕ) (old mid : InHand) (w : World) (n : ℕ) (e : Event) (a b : Held) (numbers : List ℕ)
    → WorldStands layout (suc more) old w → AllSound w → IsNumber n → IsDiskTurn e
    → Fell n a (noted_of b) b.seen.disk numbers old mid → StopsSo layout old.types old.mail w n a b e
    → IsTelling layout more (key_of e) n (clock_of b) (stopped_at w n e) mid numbers
stop-begins layout more old mid w n e a b numbers is sound number turn fell kernel =
    let y = node-of layout (suc more) old w n is fell.was_up in
    stop-begins-at layout more old mid w n y.0 e a b numbers is sound y.1 turn fell kernel

one-later : (c : ℕ) → more_by 1 c ≡ one_more c
one-later c = grind (arith, nat_tests)

fits-later : (m : ℕ) (o : Option ℕ) (before after : ℕ) → 1 ≤ m → o ≡ Some before → after ≡ one_more before → StoreClockFits m o after after
fits-later zero o before after some was is_more = absurd (omega (arith, some))
fits-later (suc m) o before after some was is_more = (refl, subst (λ z. IfSome z (λ c. after ≡ one_more c)) (sym was) is_more)

-- the clock of a store's turn that stopped is one later
stop-clock : (w : World) (n : ℕ) (it : Node) (u : Uid) (how : RequestEnd) (p : Option Pick) (x y : Counts) → 1 ≤ n → node_at w n ≡ Some it
    → it.clock ≡ Some x.clock → crashes n (event.Store u y.clock how p) ≡ true
    → AllowsAt (site_of w n it) (event.Store u y.clock how p) → CallsAsDue (site_of w n it) how x y
    → StoreClock w (event.Store u y.clock how p) y.clock
stop-clock w n it u end.Stop p x y some at was fell allowed due =
    let its_number : u.node ≡ n = eqb-true u.node n fell in
    let so : CallsSo true end.Stop x y = subst (λ t. CallsSo t end.Stop x y) (touches-stop (site_of w n it) u y.clock p allowed) due in
    subst (λ t. StoreClockFits t (clock_before w u.node) y.clock y.clock)
    (sym (stops-in w n (event.Store u y.clock end.Stop p) it tt fell at allowed).touches)
    (fits-later n (clock_before w u.node) x.clock y.clock some
    (ap (clock_before w) its_number ∙ ap (λ o. with_item o (λ (z : Node). z.clock) None) at ∙ was) (so.clock ∙ one-later x.clock))
stop-clock w n it u end.Part p x y some at was fell allowed due = absurd (let bad : false ≡ true = fell in cc bad)
stop-clock w n it u end.Done p x y some at was fell allowed due = absurd (let bad : false ≡ true = fell in cc bad)
stop-clock w n it u end.Fault p x y some at was fell allowed due = absurd (let bad : false ≡ true = fell in cc bad)
stop-clock w n it u end.Full p x y some at was fell allowed due = absurd (let bad : false ≡ true = fell in cc bad)

store-stops-at : (layout : Layout) (more : ℕ) (old mid new : InHand) (w : World) (n : ℕ) (it : Node) (entry : Entry) (u : Uid)
    (how : RequestEnd)
    (p : Option Pick) (a b : Held) (numbers : List ℕ) → WorldStands layout (suc more) old w → AllSound w → IsNumber n
    → node_at w n ≡ Some it
    → Fell n a (noted_of b) b.seen.disk numbers old mid → StopsSo layout old.types old.mail w n a b (event.Store u (clock_of b) how p)
    → ((s : Site) → IsSoundSite s → NodeStands layout old.types a old.mail s → CallsAsDue s how a.seen.disk.counts b.seen.disk.counts)
    → entry.event ≡ event.Store u (clock_of b) how p → EntryShows n (clock_of b) (filter_map (name_at mid.mail) numbers) entry → SameDisks
    mid new
    → IsTelling layout more (key_of (event.Store u (clock_of b) how p)) n (clock_of b) (stopped_at w n (event.Store u (clock_of b) how p))
    new []
    → Goes layout more w None entry old new
store-stops-at layout more old mid new w n it entry u how p a b numbers is sound number at fell kernel due its_event shows same telling =
    let ev : Event = event.Store u (clock_of b) how p in
    let stood : UpStands layout old.types old.mail (suc more) (site_of w n it) a = up-at layout (suc more) old w n it a is at fell.was_up in
    stop-goes-at layout more old mid w n it ev a b numbers is sound at tt fell kernel new entry its_event
    (subst (StoreClock w ev) (sym shows.clock) (stop-clock w n it u how p a.seen.disk.counts b.seen.disk.counts number.first at
    stood.stands.disk.its_clock (falls layout more old mid w n it ev a b numbers is sound at tt fell kernel)
    (behind layout more old mid w n it ev a b numbers is sound at tt fell kernel).0.allowed
    (due (site_of w n it) (sound n it at) stood.stands))) shows same telling

-- The end of a stop in a turn of the store, whose device call was made where the work of the site's store makes one.
pub store-stops : (layout : Layout) (more : ℕ) (old mid new : InHand) (w : World) (n : ℕ) (entry : Entry) (u : Uid) (how : RequestEnd)
    (p : Option Pick) (a b : Held) (numbers : List ℕ) → WorldStands layout (suc more) old w → AllSound w → IsNumber n
    → Fell n a (noted_of b) b.seen.disk numbers old mid → StopsSo layout old.types old.mail w n a b (event.Store u (clock_of b) how p)
    → ((s : Site) → IsSoundSite s → NodeStands layout old.types a old.mail s → CallsAsDue s how a.seen.disk.counts b.seen.disk.counts)
    → entry.event ≡ event.Store u (clock_of b) how p → EntryShows n (clock_of b) (filter_map (name_at mid.mail) numbers) entry → SameDisks
    mid new
    → IsTelling layout more (key_of (event.Store u (clock_of b) how p)) n (clock_of b) (stopped_at w n (event.Store u (clock_of b) how p))
    new []
    → Goes layout more w None entry old new
store-stops layout more old mid new w n entry u how p a b numbers is sound number fell kernel due its_event shows same telling =
    let y = node-of layout (suc more) old w n is fell.was_up in
    store-stops-at layout more old mid new w n y.0 entry u how p a b numbers is sound number y.1 fell kernel due its_event shows same
    telling

-- The end of a stop in an activation.
pub start-stops : (layout : Layout) (more : ℕ) (old mid new : InHand) (w : World) (n : ℕ) (entry : Entry) (u : Uid) (how : StartEnd)
    (p : Option Pick) (a b : Held) (numbers : List ℕ) → WorldStands layout (suc more) old w → AllSound w → IsNumber n
    → Fell n a (noted_of b) b.seen.disk numbers old mid → StopsSo layout old.types old.mail w n a b (event.Activate u how p)
    → entry.event ≡ event.Activate u how p → EntryShows n (clock_of b) (filter_map (name_at mid.mail) numbers) entry → SameDisks mid new
    → IsTelling layout more (key_of (event.Activate u how p)) n (clock_of b) (stopped_at w n (event.Activate u how p)) new []
    → Goes layout more w None entry old new
start-stops layout more old mid new w n entry u how p a b numbers is sound number fell kernel its_event shows same telling =
    let y = node-of layout (suc more) old w n is fell.was_up in
    stop-goes-at layout more old mid w n y.0 (event.Activate u how p) a b numbers is sound y.1 tt fell kernel new entry its_event tt shows
    same
    telling

-- There was no memory behind the stop: the run ends.
pub stop-starves : (layout : Layout) (more : ℕ) (old mid new : InHand) (w : World) (n : ℕ) (e : Event) (a b : Held)
    → WorldStands layout (suc more) old w → AllSound w → IsNumber n → old.seats n ≡ Some (up a) → StopsSo layout old.types old.mail w n a
    b e
    → Reseats n (down (noted_of b) b.seen.disk) old mid → SameDisks mid new → EachEnds layout more w old new
stop-starves layout more old mid new w n e a b is sound number was kernel seats same =
    let y = node-of layout (suc more) old w n is was in
    let here : UpStands layout old.types old.mail (suc more) (site_of w n y.0) a = up-at layout (suc more) old w n y.0 a is y.1 was in
    let both = kernel y.0 y.1 (sound n y.0 y.1) (omega (arith, here.told)) here.stands in
    let x : Stops layout b (reaches w n) a (site_of w n y.0) e = both.0 in
    fallen-ends layout (suc more) more n old new w y.0 (site_turn (reaches w n) e (site_of w n y.0)).node a b.seen.disk (omega arith) is y.1
    here.stands.disk.its_clock was
    (subst (λ k. NodeOnDisk layout k y.0 [] (site_turn (reaches w n) e (site_of w n y.0)).node a.seen.disk.told (clock_of a)
    b.seen.disk.told
    b.seen.disk.counts.clock) (its-node layout (suc more) n old w y.0 a here) x.falls.disk)
    (subst (λ k. LeavesOnly (IsToldFor layout k more) (contents b.seen.disk.told)) (its-node layout (suc more) n old w y.0 a here)
    (kept-less layout a.seen.node (suc more) more b.seen.disk.told (omega arith)
    (kept-room layout a.seen.node (suc more) b.seen.more x.falls.rests.kept _ b.seen.disk.told
    (let enough : suc more ≤ a.seen.more = here.told in omega (arith, enough, both.1)) x.falls.rests.stands)))
    (same n ∙ ap (option_map disk_of) seats.here) (λ m other. same m ∙ ap (option_map disk_of) (seats.others m other))
