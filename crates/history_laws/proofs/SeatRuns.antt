-- In every world of every history each process is in its place: inside of the monitor that it holds, waits to enter, or has a condition of.
use Rattle.std.proofs.Common.{◌≡◌, ◌+◌, ◌-◌, ◌<◌, ℕ, zero, suc, Bool, true, false, cond, List, [], ◌∷◌, map, length, replicate, Option}
use Rattle.std.proofs.Common.{None, Some, is_some, refl, sym, ◌∙◌, ap, subst, arith}
use Rattle.std.specs.Prelude.{IsSomeAnd, IfSome, slice_get}
use Rattle.std.specs.Option.{option_map}
use Rattle.std.specs.Ordering.{nat_cmp}
use Rattle.std.proofs.lemmas.Bool.{eq-eqb, eqb-true}
use Rattle.capability.specs.declared.Uid.{Uid}
use Rattle.capability.specs.declared.Cap.{Cap}
use Rattle.eden_value.specs.Datum.{Datum}
use Rattle.eden_value.specs.declared.status.Status.{Status}
use Rattle.eden_value.specs.declared.status.Status.TheVariants as status
use Rattle.eden_model.specs.Map.{with_item, value_at, uid_cmp}
use Rattle.eden_model.specs.Crew.{Waiting, nothing, outside, entry, condition, Process as Worker, Monitor, Condition, Holds, is_held_by}
use Rattle.eden_model.specs.Crew.{quiet_at}
use Rattle.eden_model.specs.Traffic.{Traffic, without_node, processes_of, broken_by_node, broken_by_link, without_link}
use Rattle.epl_syntax.specs.declared.effect.Answer.{Answer}
use Rattle.epl_syntax.specs.declared.effect.Answer.TheVariants.{Reply as Told}
use Rattle.epl_syntax.specs.declared.effect.Effect.{Effect}
use Rattle.epl_syntax.specs.declared.effect.Effect.TheVariants as effect
use Rattle.epl_syntax.specs.declared.tree.CondDecl.{CondDecl}
use Rattle.epl_syntax.specs.declared.types.Native.{Native}
use Rattle.epl_syntax.specs.Edentype.{Edentype, native, declared}
use Rattle.epl_syntax.specs.Tree.{TypeTree}
use Rattle.epl_syntax.specs.Natives.{native_turn}
use Rattle.epl_syntax.specs.Turns.{process_turn}
use Rattle.epl_syntax.specs.Rules.OfTypes.{KeepRules, HaveMonitors}
use Rattle.epl_syntax.specs.Monitors.{inside_rest, monitor_of, Moves, IsAllowed}
use Rattle.epl_syntax.specs.Meaning.{Rest, of_native, of_declared, Turned, turn, type_of, first_values}
use Rattle.epl_syntax.proofs.GuardedSteps.{turn_stays_guarded}
use Rattle.passive_store.specs.Kept.{Layout}
use Rattle.passive_store.specs.Layout.{IsLayout}
use Rattle.journal.specs.declared.command.Command.{Command}
use Rattle.journal.specs.declared.command.Command.TheVariants as command
use Rattle.journal.specs.declared.command.Script.{Script}
use Rattle.journal.specs.declared.event.Key.{Key}
use Rattle.journal.specs.declared.event.StartEnd.TheVariants as start_end
use Rattle.journal.specs.declared.event.RequestEnd.TheVariants as end
use Rattle.journal.specs.declared.event.Event.{Event}
use Rattle.journal.specs.declared.event.Event.TheVariants as event
use Rattle.journal.specs.declared.event.Entry.{Entry}
use Rattle.journal.specs.World.{World, Node, Eject, Active, Task, node_at, site_of, site_at, at_node, on_eject, reaches}
use Rattle.journal.specs.Ejects.{tells, fresh, born}
use Rattle.journal.specs.Processes.{turn_of}
use Rattle.journal.specs.Crashes.{tells_each, linked}
use Rattle.journal.specs.References.{cap_at}
use Rattle.journal.specs.Commands.{AllowsCommand, asked_by, ready_call, born_as, made, type_name_of, held_by, restricted_by}
use Rattle.journal.specs.Step.{AllowsAt, AllowsInTurn, AllowsEvent, Allows, next, after_turn, after_command, happened, at_site}
use Rattle.journal.specs.Step.{stopped_at, site_turn, clocked, counted, key_of}
use Rattle.journal.specs.Run.{AllowsLookUp, looked_up, beginning}
use Rattle.journal.specs.Standing.{DiskRun}
use Rattle.journal.specs.LegalRun.{AreHandedIn, images, numbered, opening_world, last_world}
use Rattle.journal.specs.Laws.{Begins}
use Rattle.journal.specs.Monitors.{held_from, monitor_for, IsInItsMonitor, AreInTheirMonitors}
use Rattle.journal.specs.Sites.{Everywhere}
use Rattle.history_laws.proofs.Runs.{Any, of-any, end-keeps, world-booting, nodes-looked_up}
use Rattle.history_laws.proofs.EveryNode.{IsNext, at-its-site, made-next, all-at_node, all-clocked, all-same_nodes}
use Rattle.history_laws.proofs.UidLaw.{fit-on_eject}
use Rattle.history_laws.proofs.NativeTurns.{IsPlain, plain-native}
use Rattle.history_laws.proofs.Tasks.{FitsRest, FitsActive}
use Rattle.history_laws.proofs.CallsKeep.{kept-itself}
use Rattle.history_laws.proofs.Seats.{IsOpenAt}
use Rattle.history_laws.proofs.SeatTurns.{inside_at, PartSeated, settled_so, Steps, AllStep, seats-tells, seats-born, seats-crashed}
use Rattle.history_laws.proofs.SeatTurns.{seats-boot, seats-site_turn}
use Rattle.history_laws.proofs.SiteWorlds.{AllSites, AllCan, all-can-after, cans-crash, cans-cut}
use Rattle.history_laws.proofs.SiteRuns.{SiteWorld, new-by, traffic-crashed, traffic-started, traffic-stopped}
use Rattle.history_laws.proofs.SiteRuns.{some-site, up-there, site-next}
use Rattle.history_laws.proofs.SiteRuns.{site-looked_up, rests-opening, site-opening}

-- 1. How a turn moves its process

pub some-monitor : (n i : ℕ) → i < n
    → is_some (option_map (λ (m : Monitor). m.holder) (slice_get (replicate n (record { holder = None; entering = [] })) i)) ≡ true
some-monitor zero i less = absurd (omega (arith, less))
some-monitor (suc n) zero less = refl
some-monitor (suc n) (suc i) less = some-monitor n i (omega (arith, less))

pub its-condition : (cs : List CondDecl) (c : ℕ) → c < length cs
    → option_map (λ (it : Condition). it.monitor) (slice_get (map quiet_at (map (λ c. c.monitor) cs)) c)
    ≡ Some (with_item (slice_get cs c) (λ it. it.monitor) 0)
its-condition [] c less = absurd (omega (arith, less))
its-condition (d ∷ cs) zero less = refl
its-condition (d ∷ cs) (suc c) less = its-condition cs c (omega (arith, less))

moves-steps : (earlier : List (List ℕ)) (t : TypeTree) (returns : Bool) (e : Effect) (before after : Option ℕ) → Moves t before e after
    → IsAllowed earlier t returns e → Steps (declared t) e before after
moves-steps earlier t returns (effect.Lock m) before after moves allowed =
    (moves.0, moves.1, allowed.0, some-monitor (length t.monitors) (m - 1) (omega (arith, allowed.0, allowed.1)))
moves-steps earlier t returns (effect.Leave m) before after moves allowed = (moves.0, moves.1)
moves-steps earlier t returns (effect.Wait c) before after moves allowed =
    (monitor_of t c, moves.0, its-condition t.conditions c allowed.0, moves.1)
moves-steps earlier t returns (effect.Signal c) before after moves allowed = moves.1
moves-steps earlier t returns (effect.Return results) before after moves allowed = tt
moves-steps earlier t returns effect.End before after moves allowed = tt
moves-steps earlier t returns (effect.Fault cause) before after moves allowed = tt
moves-steps earlier t returns _ before after moves allowed = moves

plain-steps : (n : Native) (e : Effect) → IsPlain e → Steps (native n) e None None
plain-steps n (effect.Return results) plain = tt
plain-steps n effect.Checkpoint plain = refl
plain-steps n effect.Destroy plain = refl
plain-steps n effect.Deactivate plain = refl
plain-steps n (effect.Invoke target operation args) plain = refl
plain-steps n _ plain = absurd plain

rest-steps : (types : List Edentype) (t : Edentype) (serves : Bool) (vars : List Datum) (rest : Rest) (told : Answer) (me : Uid)
    → FitsRest types t serves rest
    → Steps t (turn t vars rest told me).effect (inside_rest rest) (inside_rest (turn t vars rest told me).rest)
rest-steps types (native n) serves vars (of_native stage) told me h =
    plain-steps n (native_turn n vars stage told).2 (plain-native n vars stage told)
rest-steps types (declared t) serves vars (of_declared left) told me h =
    let stays = turn_stays_guarded h.earlier t left vars told me h.guarded in
    moves-steps h.earlier t left.returns (process_turn t vars left told me).2 _ _ stays.moves stays.allowed
rest-steps types (native n) serves vars (of_declared left) told me h = absurd h
rest-steps types (declared t) serves vars (of_native stage) told me h = absurd h

part-steps : (types : List Edentype) (later : Traffic) (queued : List ℕ) (v : Uid) (p : ℕ) (it : Active) (t : Turned)
    → turn_of v it p ≡ Some t
    → FitsActive types later queued it → Steps it.kind t.effect (inside_at it.tasks p) (inside_rest t.rest)
part-steps types later queued v p it t is h = go (value_at nat_cmp p it.tasks) refl is
  where
    go : (o : Option Task) → value_at nat_cmp p it.tasks ≡ o
        → with_item o (λ x. Some (turn it.kind it.vars x.rest x.answer v)) None ≡ Some t
        → Steps it.kind t.effect (inside_at it.tasks p) (inside_rest t.rest)
    go None at same = absurd (cc same)
    go (Some x) at same =
        let here : inside_at it.tasks p ≡ inside_rest x.rest = ap (λ o. with_item o (λ (t : Task). inside_rest t.rest) None) at in
        subst (λ b. Steps it.kind t.effect b (inside_rest t.rest)) (sym here)
        (subst (λ o. IfSome o (λ (y : Turned). Steps it.kind y.effect (inside_rest x.rest) (inside_rest y.rest))) same
        (rest-steps types it.kind _ it.vars x.rest x.answer v (h.tasks p x at)))

-- 2. Worlds

abbrev pub NodeSeats : Node → Type 0
NodeSeats it = (u : Uid) (e : Eject) → value_at uid_cmp u it.ejects ≡ Some e → IfSome e.active (PartSeated (settled_so u))

abbrev pub SeatsWorld : World → Type 0
SeatsWorld w = Everywhere (λ n it. NodeSeats it) w

all-step : (H : ℕ → Bool) (w : World) → SiteWorld H w → (n : ℕ) (it : Node) → node_at w n ≡ Some it → AllStep (site_of w n it)
all-step H w h n it at v p e is a is_a t is_t = part-steps w.types w.traffic e.queued v p a t is_t
    (subst (λ o. IfSome o (FitsActive w.types w.traffic e.queued)) is_a (h.tasks w.traffic (kept-itself w.traffic) n it at v e is))

seats-site : (H : ℕ → Bool) (w : World) (n : ℕ) (e : Event) → SiteWorld H w
    → ((it : Node) → node_at w n ≡ Some it → AllowsAt (site_of w n it) e)
    → SeatsWorld w → SeatsWorld (at_site w n e)
seats-site H w n e h allowed seats = all-at_node (λ n it. NodeSeats it) w n (site_turn (reaches w n) e) (λ it is x.
    seats-site_turn (reaches w n) e (site_of w n it) (allowed it is) (h.known.sound.nodes n it is).of_node (h.sites n it is)
    (all-step H w h n it is)
    (λ v f. new-by (on_eject v f (site_of w n it)) (fit-on_eject v f (site_of w n it) (h.known.fit n it is))) x) seats

seats-tells_each : (qs : List (Uid × ℕ)) (w : World) → AllCan w qs → SeatsWorld w → SeatsWorld (tells_each qs w)
seats-tells_each [] w can seats = seats
seats-tells_each (q ∷ qs) w can seats = seats-tells_each qs (at_node q.0.node (tells q.0 q.1 (Told status.Broken [])) w)
    (all-can-after w q (Told status.Broken []) qs can.1)
    (all-at_node (λ n it. NodeSeats it) w q.0.node (tells q.0 q.1 (Told status.Broken [])) (λ it is x.
    seats-tells settled_so q.0 q.1 (Told status.Broken []) (site_of w q.0.node it) (can.0 it is).loose x) seats)

seats-stopped : (w : World) (n : ℕ) (e : Event) → IsSomeAnd (site_at w n) (λ s. Unit {0})
    → ((it : Node) → node_at w n ≡ Some it → (site_turn (reaches w n) e (site_of w n it)).traffic ≡ without_node n w.traffic) → AllSites w
    → SeatsWorld (at_site w n e) → SeatsWorld (stopped_at w n e)
seats-stopped w n e there lost all seats = go (node_at w n) refl there
  where
    go : (o : Option Node) → node_at w n ≡ o → IsSomeAnd (with_item o (λ it. Some (site_of w n it)) None) (λ s. Unit {0})
        → SeatsWorld (stopped_at w n e)
    go None at a = absurd a
    go (Some it) at a = seats-tells_each (processes_of (broken_by_node n) w.traffic) (at_site w n e)
        (cans-crash w n (site_turn (reaches w n) e) it at (lost it at) all) seats

its-site : (w : World) (n : ℕ) (e : Event) → IsSomeAnd (site_at w n) (λ s. AllowsAt s e) → (it : Node) → node_at w n ≡ Some it
    → AllowsAt (site_of w n it) e
its-site w n e allowed it is = at-its-site w n (λ s. AllowsAt s e) it is allowed

-- an event of a turn at a node, by what it allows
seats-in_turn : (H : ℕ → Bool) (w : World) (n : ℕ) (e : Event) → SiteWorld H w → IsSomeAnd (site_at w n) (λ s. AllowsAt s e) → SeatsWorld w
    → SeatsWorld (at_site w n e)
seats-in_turn H w n e h allowed seats = seats-site H w n e h (its-site w n e allowed) seats

seats-turn : (H : ℕ → Bool) (w : World) (e : Event) → SiteWorld H w → AllowsInTurn w e → SeatsWorld w → SeatsWorld (after_turn w e)
seats-turn H w (event.Request k a b refused) h allowed seats = seats-in_turn H w b (event.Request k a b refused) h allowed seats
seats-turn H w (event.Reply k a b None why values) h allowed seats =
    seats-site H w b (event.Reply k a b None why values) h (λ it is. allowed) seats
seats-turn H w (event.Reply k a b (Some name) why values) h allowed seats = seats
seats-turn H w (event.Activate v start_end.Ok p) h allowed seats =
    seats-in_turn H w v.node (event.Activate v start_end.Ok p) h allowed seats
seats-turn H w (event.Activate v start_end.Gone p) h allowed seats =
    seats-in_turn H w v.node (event.Activate v start_end.Gone p) h allowed seats
seats-turn H w (event.Activate v start_end.Fault p) h allowed seats =
    seats-in_turn H w v.node (event.Activate v start_end.Fault p) h allowed seats
seats-turn H w (event.Activate v start_end.Damaged p) h allowed seats =
    seats-in_turn H w v.node (event.Activate v start_end.Damaged p) h allowed seats
seats-turn H w (event.Activate v start_end.Stop p) h allowed seats = seats-stopped w v.node (event.Activate v start_end.Stop p)
    (some-site (site_at w v.node) (λ s. AllowsAt s (event.Activate v start_end.Stop p)) allowed)
    (λ it is. traffic-started p (site_of w v.node it)) h.sites
    (seats-in_turn H w v.node (event.Activate v start_end.Stop p) h allowed seats)
seats-turn H w (event.Start k v p) h allowed seats = seats-in_turn H w v.node (event.Start k v p) h allowed seats
seats-turn H w (event.Process v p said) h allowed seats = seats-in_turn H w v.node (event.Process v p said) h allowed seats
seats-turn H w (event.Store v clock end.Part p) h allowed seats = seats-in_turn H w v.node (event.Store v clock end.Part p) h allowed seats
seats-turn H w (event.Store v clock end.Done p) h allowed seats = seats-in_turn H w v.node (event.Store v clock end.Done p) h allowed seats
seats-turn H w (event.Store v clock end.Fault p) h allowed seats =
    seats-in_turn H w v.node (event.Store v clock end.Fault p) h allowed seats
seats-turn H w (event.Store v clock end.Full p) h allowed seats = seats-in_turn H w v.node (event.Store v clock end.Full p) h allowed seats
seats-turn H w (event.Store v clock end.Stop p) h allowed seats = seats-stopped w v.node (event.Store v clock end.Stop p)
    (some-site (site_at w v.node) (λ s. AllowsAt s (event.Store v clock end.Stop p)) allowed)
    (λ it is. traffic-stopped v p (site_of w v.node it) (its-site w v.node (event.Store v clock end.Stop p) allowed it is)) h.sites
    (seats-in_turn H w v.node (event.Store v clock end.Stop p) h allowed seats)
seats-turn H w event.Quiet h allowed seats = seats
seats-turn H w event.Spent h allowed seats = seats
seats-turn H w _ h allowed seats = absurd allowed

-- 3. Commands

seats-item : {X : Type 0} (w : World) (o : Option X) (f : X → World) → ((x : X) → SeatsWorld (f x)) → SeatsWorld w
    → SeatsWorld (with_item o f w)
seats-item w None f each seats = seats
seats-item w (Some x) f each seats = each x

seats-held : (c : Command) (w : World) → SeatsWorld w → SeatsWorld (held_by c w)
seats-held (command.Hold name v) w seats = seats
seats-held _ w seats = seats

seats-restricted : (c : Command) (w : World) → SeatsWorld w → SeatsWorld (restricted_by c w)
seats-restricted (command.Restrict name target mask) w seats = seats-item w (cap_at w target) _ (λ c. seats) seats
seats-restricted _ w seats = seats

seats-asked : (c : Command) (k : ℕ) (at_once : Option Status) (w : World) → SeatsWorld w → SeatsWorld (asked_by c k at_once w)
seats-asked (command.Call name target operation args) k at_once w seats =
    seats-item w (ready_call w (command.Call name target operation args)) _ (λ c. seats) seats
seats-asked _ k at_once w seats = seats

seats-linked : (H : ℕ → Bool) (a b : ℕ) (joined : Bool) (w : World) → SiteWorld H w → SeatsWorld w → SeatsWorld (linked a b joined w)
seats-linked H a b true w h seats = seats
seats-linked H a b false w h seats = seats-tells_each (processes_of (broken_by_link a b) w.traffic)
    (record w { cuts = (a, b) ∷ w.cuts; traffic = without_link a b w.traffic })
    (cans-cut w a b ((a, b) ∷ w.cuts) h.sites h.known.numbered) seats

seats-born_as : (H : ℕ → Bool) (u : Uid) (t : Option Edentype) (w : World) → SiteWorld H w → IsNext w u → SeatsWorld w
    → SeatsWorld (born_as u t w)
seats-born_as H u None w h is seats = seats
seats-born_as H u (Some t) w h is seats = all-at_node (λ n it. NodeSeats it) w u.node (born u (fresh t (first_values t))) (λ it at x.
    seats-born settled_so u t (first_values t) (site_of w u.node it)
    (new-by (site_of w u.node it) (h.known.fit u.node it at) u (at-its-site w u.node _ it at is)) (λ q. refl) x) seats

seats-made : (H : ℕ → Bool) (w : World) (c : Command) (name : List ℕ) (why : Status) (u : Option Uid) → SiteWorld H w
    → AllowsCommand w c (event.Made name why u) → SeatsWorld w → SeatsWorld (made name (type_name_of c) u w)
seats-made H w c name why None h allowed seats = seats
seats-made H w c name why (Some u) h allowed seats =
    seats-born_as H u (type_of w.types (type_name_of c)) w h (made-next w c name why u allowed) seats

seats-crash : (w : World) (c : Command) (n : ℕ) → AllowsCommand w c (event.Crash n) → AllSites w → SeatsWorld w
    → SeatsWorld (stopped_at w n (event.Crash n))
seats-crash w (command.Crash m mode) n allowed all seats = seats-stopped w n (event.Crash n)
    (up-there w n (ap (λ k. with_item (node_at w k) (λ (it : Node). it.up) false) allowed.0 ∙ allowed.1))
    (λ it is. traffic-crashed (site_of w n it)) all
    (all-at_node (λ n it. NodeSeats it) w n (site_turn (reaches w n) (event.Crash n)) (λ it is x. seats-crashed (site_of w n it) x) seats)
seats-crash w _ n allowed all seats = absurd allowed

seats-command : (H : ℕ → Bool) (w : World) (c : Command) (e : Event) → SiteWorld H w → AllowsCommand w c e → SeatsWorld w
    → SeatsWorld (after_command w c e)
seats-command H w c (event.Boot n e how q began) h allowed seats =
    all-at_node (λ n it. NodeSeats it) w n (site_turn (reaches w n) (event.Boot n e how q began)) (λ it is x.
    seats-boot e how q began (site_of w n it) x) seats
seats-command H w c (event.Crash n) h allowed seats = seats-crash w c n allowed h.sites seats
seats-command H w c (event.Link a b joined) h allowed seats = seats-linked H a b joined w h seats
seats-command H w c (event.Made name why v) h allowed seats = seats-made H w c name why v h allowed seats
seats-command H w c (event.Bound name true) h allowed seats = seats-held c w seats
seats-command H w c (event.Bound name false) h allowed seats = seats-restricted c w seats
seats-command H w c (event.Asked k name at_once) h allowed seats = seats-asked c k at_once w seats
seats-command H w c (event.Still n up) h allowed seats = seats
seats-command H w c (event.Armed n what) h allowed seats = seats
seats-command H w c (event.Void name) h allowed seats = seats
seats-command H w c (event.Request k a b refused) h allowed seats = seats
seats-command H w c (event.Reply k a b name why values) h allowed seats = seats
seats-command H w c (event.Activate v how q) h allowed seats = seats
seats-command H w c (event.Start k v q) h allowed seats = seats
seats-command H w c (event.Process v q said) h allowed seats = seats
seats-command H w c (event.Store v clock how q) h allowed seats = seats
seats-command H w c event.Quiet h allowed seats = seats
seats-command H w c event.Spent h allowed seats = seats
seats-command H w c (event.Left names) h allowed seats = seats

seats-happened : (H : ℕ → Bool) (w : World) (c : Option Command) (e : Event) → SiteWorld H w → AllowsEvent w c e → SeatsWorld w
    → SeatsWorld (happened w c e)
seats-happened H w None e h allowed seats = seats-turn H w e h allowed seats
seats-happened H w (Some c) e h allowed seats = seats-command H w c e h allowed seats

-- 4. Every history

seats-counted : (k : Option Key) (w : World) → SeatsWorld w → SeatsWorld (counted k w)
seats-counted None w seats = seats
seats-counted (Some k) w seats = seats

pub record SeatWorld (H : ℕ → Bool) (w : World) : Type 0 where
  pub site : SiteWorld H w
  pub seats : SeatsWorld w

pub seat-next : (H : ℕ → Bool) (w : World) (c : Option Command) (e : Entry) → Allows w c e → SeatWorld H w → SeatWorld H (next w c e)
seat-next H w c e allowed h = record {
  site = site-next H w c e allowed h.site;
  seats = seats-counted (key_of e.event) (clocked e.node e.clock (happened w c e.event))
      (all-clocked (λ n it. NodeSeats it) (λ n c it x. x) e.node e.clock (happened w c e.event)
      (seats-happened H w c e.event h.site allowed.event h.seats));
}

pub seat-looked_up : (H : ℕ → Bool) (w : World) (name : List ℕ) (target : Option Cap) (path : List (List ℕ)) (e : Event)
    → AllowsLookUp w name target path e → SeatWorld H w → SeatWorld H (looked_up w name target path e)
seat-looked_up H w name target path e allowed h = record {
  site = site-looked_up H w name target path e allowed h.site;
  seats = all-same_nodes (λ n it. NodeSeats it) w (looked_up w name target path e) (nodes-looked_up w name target path e) h.seats;
}

pub seat-opening : (layout : Layout) (script : Script) (disks : List DiskRun) → IsLayout layout → AreHandedIn layout disks
    → KeepRules script.types → HaveMonitors script.types
    → SeatWorld (λ n. is_some (node_at (opening_world layout script disks) n)) (opening_world layout script disks)
seat-opening layout script disks lays fits rules monitors = record {
  site = site-opening layout script disks lays fits rules monitors;
  seats = λ n it at u e is. rw ((rests-opening layout (images (numbered disks)) n it at).idle u e is).no_active tt;
}

-- 5. The law

-- the first monitor that the process holds is the one that it is inside of
held-is : (p : ℕ) (r : Option ℕ) (k : ℕ) (ms : List Monitor)
    → ((i : ℕ) → option_map (λ (m : Monitor). m.holder) (slice_get ms i) ≡ Some (Some p) → r ≡ Some (k + i))
    → ((m : ℕ) → r ≡ Some m → (i : ℕ) × (m ≡ k + i) × (option_map (λ (x : Monitor). x.holder) (slice_get ms i) ≡ Some (Some p)))
    → held_from p k ms ≡ r
held-is p r k [] held holds = go r refl
  where
    go : (o : Option ℕ) → r ≡ o → None ≡ r
    go None is = sym is
    go (Some m) is = absurd (let x = holds m is in cc (x.2))
held-is p r k (m ∷ ms) held holds = go (is_held_by p m.holder) refl (λ apart. held-is p r (suc k) ms
    (λ i at. held (suc i) at ∙ ap Some (omega arith)) (λ n is. later apart n (holds n is)))
  where
    holder : (o : Option ℕ) → is_held_by p o ≡ true → o ≡ Some p
    holder None is = absurd (cc is)
    holder (Some h) is = ap Some (eqb-true h p is)

    held-by : (o : Option ℕ) → o ≡ Some p → is_held_by p o ≡ true
    held-by None is = absurd (cc is)
    held-by (Some h) is = eq-eqb h p (cc is)

    later : (is_held_by p m.holder ≡ false) → (n : ℕ)
        → (i : ℕ) × (n ≡ k + i) × (option_map (λ (x : Monitor). x.holder) (slice_get (m ∷ ms) i) ≡ Some (Some p))
        → (i : ℕ) × (n ≡ suc k + i) × (option_map (λ (x : Monitor). x.holder) (slice_get ms i) ≡ Some (Some p))
    later apart n x = by x.0 x.1 x.2
      where
        by : (i : ℕ) → n ≡ k + i → option_map (λ (x : Monitor). x.holder) (slice_get (m ∷ ms) i) ≡ Some (Some p)
            → (i : ℕ) × (n ≡ suc k + i) × (option_map (λ (x : Monitor). x.holder) (slice_get ms i) ≡ Some (Some p))
        by zero number at = absurd (let mine : m.holder ≡ Some p = (let e : Some m.holder ≡ Some (Some p) = at in cc e) in
            let bad : true ≡ false = sym (held-by m.holder mine) ∙ apart in cc bad)
        by (suc i) number at = (i, omega (arith, number), at)

    go : (b : Bool) → is_held_by p m.holder ≡ b → ((is_held_by p m.holder ≡ false) → held_from p (suc k) ms ≡ r)
        → cond b (Some k) (held_from p (suc k) ms) ≡ r
    go true is next = sym (held 0 (ap Some (holder m.holder is)) ∙ ap Some (omega arith))
    go false is next = next is

in-its-monitor : (u : Uid) (it : Active) → PartSeated (settled_so u) it → IsInItsMonitor it
in-its-monitor u it h = record { each = λ p t q task worker. each p t q task worker; only = λ p m t holds task. only p m t holds task }
  where
    inside-is : (p : ℕ) (t : Task) → value_at nat_cmp p it.tasks ≡ Some t → inside_at it.tasks p ≡ inside_rest t.rest
    inside-is p t task = ap (λ o. with_item o (λ (t : Task). inside_rest t.rest) None) task

    waits-is : (p : ℕ) (q : Worker) → value_at nat_cmp p it.crew.processes ≡ Some q
        → option_map (λ (x : Worker). x.waits) (value_at nat_cmp p it.crew.processes) ≡ Some q.waits
    waits-is p q worker = ap (option_map (λ (x : Worker). x.waits)) worker

    held : (p : ℕ) (w : Waiting) → option_map (λ (x : Worker). x.waits) (value_at nat_cmp p it.crew.processes) ≡ Some w → IsOpenAt (Some w)
        → inside_at it.tasks p ≡ held_from p 1 it.crew.monitors
    held p w waits opened = sym (held-is p (inside_at it.tasks p) 1 it.crew.monitors
        (λ i at. (h.seated.held i p at).0 ∙ ap Some (omega arith))
        (λ m is. let x = h.seated.holds p m (subst IsOpenAt (sym waits) opened) is in (m - 1, omega (arith, x.0), x.1)))

    on-condition : (c : ℕ) (o : Option Condition)
        → with_item o (λ (x : Condition). Some x.monitor) None ≡ option_map (λ (x : Condition). x.monitor) o
    on-condition c None = refl
    on-condition c (Some x) = refl

    by : (p : ℕ) (w : Waiting) → option_map (λ (x : Worker). x.waits) (value_at nat_cmp p it.crew.processes) ≡ Some w
        → inside_at it.tasks p ≡ monitor_for it.crew p w
    by p nothing waits = held p nothing waits tt
    by p outside waits = held p outside waits tt
    by p (entry m) waits = h.seated.enters p m waits
    by p (condition c) waits = h.seated.waits p c waits ∙ sym (h.conditions c) ∙ sym (on-condition c (slice_get it.crew.conditions c))

    each : (p : ℕ) (t : Task) (q : Worker) → value_at nat_cmp p it.tasks ≡ Some t → value_at nat_cmp p it.crew.processes ≡ Some q
        → inside_rest t.rest ≡ monitor_for it.crew p q.waits
    each p t q task worker = sym (inside-is p t task) ∙ by p q.waits (waits-is p q worker)

    only : (p m : ℕ) (t : Task) → Holds it.crew p m → value_at nat_cmp p it.tasks ≡ Some t → inside_rest t.rest ≡ Some m
    only p m t holds task = sym (inside-is p t task) ∙ (h.seated.held (m - 1) p holds.holder).0 ∙ ap Some (omega (arith, holds.from))

in-their-monitors : (w : World) → SeatsWorld w → AreInTheirMonitors w
in-their-monitors w seats u = go (node_at w u.node) refl
  where
    two : (it : Node) → node_at w u.node ≡ Some it → (o : Option Eject) → value_at uid_cmp u it.ejects ≡ o
        → IfSome o (λ e. IfSome e.active IsInItsMonitor)
    two it at None is = tt
    two it at (Some e) is = three e.active (seats u.node it at u e is)
      where
        three : (o : Option Active) → IfSome o (PartSeated (settled_so u)) → IfSome o IsInItsMonitor
        three None x = tt
        three (Some a) x = in-its-monitor u a x

    go : (o : Option Node) → node_at w u.node ≡ o
        → IfSome (with_item o (λ it. value_at uid_cmp u it.ejects) None) (λ e. IfSome e.active IsInItsMonitor)
    go None at = tt
    go (Some it) at = two it at (value_at uid_cmp u it.ejects) refl

-- the last world of a history so far, with the nodes of the opening one
pub seat-last : (layout : Layout) (script : Script) (disks : List DiskRun) (history : List Entry) → IsLayout layout
    → AreHandedIn layout disks → KeepRules script.types → HaveMonitors script.types → Begins layout script disks history
    → SeatWorld (λ n. is_some (node_at (opening_world layout script disks) n))
    (last_world (opening_world layout script disks) script history)
seat-last layout script disks history lays fits rules monitors begins = end-keeps Any (SeatWorld here) (record {
  entries = λ past w c e any allowed i. (tt, seat-next here w c e allowed i);
  look_ups = λ past w name target path e any allowed plain i. (tt, seat-looked_up here w name target path e.event allowed i);
}) (beginning w script.nodes script.commands) [] history (of-any 1 script.nodes w script.commands)
    (subst (SeatWorld here) (sym (world-booting 1 script.nodes w script.commands))
    (seat-opening layout script disks lays fits rules monitors)) begins
  where
    w : World
    w = opening_world layout script disks

    here : ℕ → Bool
    here n = is_some (node_at w n)

pub monitors-are-held : (layout : Layout) (script : Script) (disks : List DiskRun) (history : List Entry) → IsLayout layout
    → AreHandedIn layout disks → KeepRules script.types → HaveMonitors script.types → Begins layout script disks history
    → AreInTheirMonitors (last_world (opening_world layout script disks) script history)
monitors-are-held layout script disks history lays fits rules monitors begins = in-their-monitors
    (last_world (opening_world layout script disks) script history)
    (seat-last layout script disks history lays fits rules monitors begins).seats
