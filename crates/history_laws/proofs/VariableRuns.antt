-- In every step of every history the variables of an active part stay as they were, but for those that the turn of one of its processes may
-- touch.
use Rattle.std.proofs.Common.{◌≡◌, ℕ, Bool, List, [], Option, None, Some, is_some, refl, sym, ◌∙◌, ap, subst}
use Rattle.std.specs.Prelude.{IsSomeAnd, IfSome}
use Rattle.std.proofs.lemmas.Cmp.{tied_itself}
use Rattle.capability.specs.declared.Uid.{Uid}
use Rattle.capability.proofs.Uids.{uid_cmp_total}
use Rattle.eden_value.specs.Datum.{Datum}
use Rattle.eden_model.specs.Map.{with_item, value_at, uid_cmp}
use Rattle.epl_syntax.specs.Edentype.{declared}
use Rattle.epl_syntax.specs.Rules.OfTypes.{KeepRules, HaveMonitors}
use Rattle.epl_syntax.specs.Meaning.{Turned, first_values}
use Rattle.epl_syntax.proofs.GuardedValues.{same_everywhere}
use Rattle.passive_store.specs.Kept.{Layout}
use Rattle.passive_store.specs.Layout.{IsLayout}
use Rattle.journal.specs.declared.command.Command.{Command}
use Rattle.journal.specs.declared.command.Script.{Script}
use Rattle.journal.specs.declared.event.Shown.{Shown}
use Rattle.journal.specs.declared.event.Event.{Event}
use Rattle.journal.specs.declared.event.Event.TheVariants as event
use Rattle.journal.specs.declared.event.Entry.{Entry}
use Rattle.journal.specs.World.{World, Node, Eject, Active, node_at, site_of, on_eject, reaches}
use Rattle.journal.specs.Processes.{turn_of}
use Rattle.journal.specs.Step.{Allows, AllowsAt, next}
use Rattle.journal.specs.Run.{EachStep, beginning, looked_up}
use Rattle.journal.specs.Standing.{DiskRun}
use Rattle.journal.specs.LegalRun.{AreHandedIn, opening_world, run_of}
use Rattle.journal.specs.Laws.{Begins}
use Rattle.journal.specs.Monitors.{may_not_touch, TouchesItsOwn, KeepsMonitors, active_at, whose_turn, Leaves, LeavesVariables}
use Rattle.journal.specs.Sites.{Everywhere, active_in}
use Rattle.history_laws.proofs.Runs.{Any, of-any, each-step, nodes-looked_up, world-booting}
use Rattle.history_laws.proofs.EveryNode.{IsKeptAt, all-next, all-same_nodes}
use Rattle.history_laws.proofs.Uids.{Fit, OfNode, CreatedIn}
use Rattle.history_laws.proofs.UidLaw.{fit-on_eject}
use Rattle.history_laws.proofs.UidTurns.{kept-fit}
use Rattle.history_laws.proofs.Tasks.{HasValues, FitsActive}
use Rattle.history_laws.proofs.CallsKeep.{kept-itself}
use Rattle.history_laws.proofs.SiteRuns.{new-by}
use Rattle.history_laws.proofs.SeatRuns.{SeatWorld, seat-next, seat-looked_up, seat-opening}
use Rattle.history_laws.proofs.MonitorTurns.{keeps-at}
use Rattle.history_laws.proofs.VariableTurns.{VarsOf, Gives, vars-site_turn, vars-fallen, vars-told, vars-born}

-- 1. What was there before the event

-- an Eject of this node was not active
abbrev pub WasPassive : World → ℕ → Uid → Type 0
WasPassive w n u = u.node ≡ n → active_at w u ≡ None

-- these values of an Eject of this node are left of those that it had
abbrev pub AreLeft : World → Event → ℕ → Uid → List Datum → Type 0
AreLeft w e n u vars = u.node ≡ n → (it : Active) → active_at w u ≡ Some it → Leaves (whose_turn u e) it vars

abbrev pub NodeLeaves : World → Event → ℕ → Node → Type 0
NodeLeaves w e n node = (u : Uid) → VarsOf (WasPassive w n) (AreLeft w e n) u (value_at uid_cmp u node.ejects)

pub left-any : (w : World) (e : Event) (n : ℕ) (u : Uid) → WasPassive w n u → (vars : List Datum) → AreLeft w e n u vars
left-any w e n u none vars here it is = absurd (let bad : None ≡ Some it = sym (none here) ∙ is in cc bad)

pub active-here : (w : World) (n : ℕ) (node : Node) (u : Uid) → node_at w n ≡ Some node → u.node ≡ n
    → active_at w u ≡ active_in (value_at uid_cmp u node.ejects)
active-here w n node u at here = ap active_in (ap (λ m. with_item (node_at w m) (λ it. value_at uid_cmp u it.ejects) None) here
    ∙ ap (λ o. with_item o (λ (it : Node). value_at uid_cmp u it.ejects) None) at)

-- the active part that an Eject had
pub same-active : (w : World) (n : ℕ) (node : Node) (u : Uid) → node_at w n ≡ Some node → u.node ≡ n
    → (x : Eject) → value_at uid_cmp u node.ejects ≡ Some x → (a b : Active) → x.active ≡ Some a → active_at w u ≡ Some b → a ≡ b
same-active w n node u at here x is a b mine was =
    let e : Some a ≡ Some b = sym mine ∙ sym (ap active_in is) ∙ sym (active-here w n node u at here) ∙ was in cc e

-- 2. At first

pub leaves-itself : (c : Option ℕ) (it : Active) → HasValues it.kind it.vars → Leaves c it it.vars
leaves-itself None it many = refl
leaves-itself (Some p) it many = λ t kind. same_everywhere (may_not_touch it.crew p) t.vars it.vars
    (let values : HasValues (declared t) it.vars = subst (λ k. HasValues k it.vars) kind many in values)

pub leaves-first : (H : ℕ → Bool) (w : World) (e : Event) → SeatWorld H w → Everywhere (NodeLeaves w e) w
leaves-first H w e h n node at u = go (value_at uid_cmp u node.ejects) refl
  where
    part : (x : Eject) → value_at uid_cmp u node.ejects ≡ Some x → (o : Option Active) → x.active ≡ o
        → IfSome o (λ it. AreLeft w e n u it.vars)
    part x is None none = tt
    part x is (Some a) mine = λ here b was.
        let fits : FitsActive w.types w.traffic x.queued a = subst (λ o. IfSome o (FitsActive w.types w.traffic x.queued)) mine
        (h.site.tasks w.traffic (kept-itself w.traffic) n node at u x is) in
        subst (λ (it : Active). Leaves (whose_turn u e) it a.vars) (same-active w n node u at here x is a b mine was)
        (leaves-itself (whose_turn u e) a fits.values)

    go : (o : Option Eject) → value_at uid_cmp u node.ejects ≡ o → VarsOf (WasPassive w n) (AreLeft w e n) u o
    go None is = λ here. active-here w n node u at here ∙ ap active_in is
    go (Some x) is = part x is x.active refl

-- 3. A turn

pub turn-left : (u : Uid) (p : ℕ) (it : Active) (now : Turned) → KeepsMonitors u p it → turn_of u it p ≡ Some now
    → Leaves (Some p) it now.vars
turn-left u p it now keeps is t kind = (let own : TouchesItsOwn u p it t now =
    subst (λ o. IsSomeAnd o (TouchesItsOwn u p it t)) is (keeps t kind) in own.changes_no_other)

pub whose-own : (u : Uid) (p : ℕ) (said : Shown) → whose_turn u (event.Process u p said) ≡ Some p
whose-own u p said = rw (tied_itself uid_cmp_total u) refl

pub gives-left : (H : ℕ → Bool) (w : World) (e : Event) (n : ℕ) (node : Node) → SeatWorld H w → node_at w n ≡ Some node
    → AllowsAt (site_of w n node) e → (v : Uid) (p : ℕ) (said : Shown) → e ≡ event.Process v p said
    → Gives (AreLeft w e n) (site_of w n node) v p
gives-left H w e n node h at allowed v p said same x is a mine now turned here b was =
    subst (λ (it : Active). Leaves (whose_turn v e) it now.vars) (same-active w n node v at here x is a b mine was)
    (subst (λ o. Leaves o a now.vars) (sym (ap (whose_turn v) same ∙ whose-own v p said)) (turn-left v p a now keeps turned))
  where
    keeps : KeepsMonitors v p a
    keeps = subst (λ o. IsSomeAnd o (KeepsMonitors v p)) (ap active_in is ∙ mine)
        (keeps-at H w n node v p said h at (subst (AllowsAt (site_of w n node)) same allowed))

-- 4. An entry

pub kept-variables : (H : ℕ → Bool) (w : World) (e : Event) → SeatWorld H w
    → IsKeptAt (λ n it. Fit (OfNode (CreatedIn []) n) it × NodeLeaves w e n it) w e
kept-variables H w e h = let fits = kept-fit (CreatedIn []) w e in record {
  turns = λ n it at place allowed x. (
    fits.turns n it at place allowed x.0,
    vars-site_turn (WasPassive w n) (AreLeft w e n) (left-any w e n) (reaches w n) e (site_of w n it) allowed
        (λ v f. new-by (on_eject v f (site_of w n it)) (fit-on_eject v f (site_of w n it) x.0))
        (λ u y is none here. active-here w n it u at here ∙ ap active_in is ∙ none)
        (gives-left H w e n it h at allowed) x.1,
  );
  crashes = λ n s is number x. (
    fits.crashes n s is number x.0,
    vars-fallen (WasPassive w s.number) (AreLeft w e s.number) (left-any w e s.number) s x.1,
  );
  tellings = λ u p a s x. (
    fits.tellings u p a s x.0,
    vars-told (WasPassive w s.number) (AreLeft w e s.number) (left-any w e s.number) u p a s x.1,
  );
  births = λ u t s is on known x. (
    fits.births u t s is on known x.0,
    vars-born (WasPassive w s.number) (AreLeft w e s.number) (left-any w e s.number) u t (first_values t) s (new-by s x.0 u is) x.1,
  );
  clocks = λ n c it x. (fits.clocks n c it x.0, x.1);
}

pub left-later : (w later : World) (e : Event) → Everywhere (NodeLeaves w e) later → LeavesVariables w e later
left-later w later e all u it after was now = go (node_at later u.node) refl now
  where
    part : (x : Eject) → x.active ≡ Some after → VarsOf (WasPassive w u.node) (AreLeft w e u.node) u (Some x)
        → Leaves (whose_turn u e) it after.vars
    part x is h = (let own : AreLeft w e u.node u after.vars =
        subst (λ o. IfSome o (λ (a : Active). AreLeft w e u.node u a.vars)) is h in own refl it was)

    eject : (o : Option Eject) → active_in o ≡ Some after → VarsOf (WasPassive w u.node) (AreLeft w e u.node) u o
        → Leaves (whose_turn u e) it after.vars
    eject None is h = absurd (cc is)
    eject (Some x) is h = part x is h

    go : (o : Option Node) → node_at later u.node ≡ o
        → active_in (with_item o (λ n. value_at uid_cmp u n.ejects) None) ≡ Some after → Leaves (whose_turn u e) it after.vars
    go None at is = absurd (cc is)
    go (Some node) at is = eject (value_at uid_cmp u node.ejects) is (all u.node node at u)

pub leaves-entry : (H : ℕ → Bool) (w : World) (c : Option Command) (e : Entry) → SeatWorld H w → Allows w c e
    → LeavesVariables w e.event (next w c e)
leaves-entry H w c e h allowed = left-later w (next w c e) e.event (λ n jt is. (all-next (λ n it. Fit (OfNode (CreatedIn []) n) it
    × NodeLeaves w e.event n it) w c e (kept-variables H w e.event h) allowed
    (λ n it at. (h.site.known.fit n it at, leaves-first H w e.event h n it at)) n jt is).1)

-- 5. The law

pub variables-stay : (layout : Layout) (script : Script) (disks : List DiskRun) (history : List Entry) → IsLayout layout
    → AreHandedIn layout disks → KeepRules script.types → HaveMonitors script.types → Begins layout script disks history
    → EachStep (λ past s. LeavesVariables s.world s.entry.event s.later) [] (run_of (opening_world layout script disks) script history)
variables-stay layout script disks history lays fits rules monitors begins =
    each-step Any (λ past w. SeatWorld here w) (λ past s. LeavesVariables s.world s.entry.event s.later) (record {
      entries = λ past w c e any allowed i. (leaves-entry here w c e i allowed, seat-next here w c e allowed i);
      look_ups = λ past w name target path e any allowed plain i. (
        left-later w (looked_up w name target path e.event) e.event (all-same_nodes (NodeLeaves w e.event) w
            (looked_up w name target path e.event) (nodes-looked_up w name target path e.event) (leaves-first here w e.event i)),
        seat-looked_up here w name target path e.event allowed i,
      );
    }) (beginning w script.nodes script.commands) [] history (of-any 1 script.nodes w script.commands)
    (subst (SeatWorld here) (sym (world-booting 1 script.nodes w script.commands))
    (seat-opening layout script disks lays fits rules monitors)) begins
  where
    w : World
    w = opening_world layout script disks

    here : ℕ → Bool
    here n = is_some (node_at w n)
