-- In every history of a script over fit images, no uid is given twice.
use Rattle.std.proofs.Common.{◌≡◌, ◌⊎◌, inl, inr, ◌==◌, ◌≤◌, ℕ, Bool, true, false, cond, List, [], ◌∷◌, Option, None, Some, Ok, is_some}
use Rattle.std.proofs.Common.{refl, sym, ◌∙◌, ap, arith}
use Rattle.std.specs.Prelude.{IsSomeAnd}
use Rattle.std.specs.Option.{option_map}
use Rattle.std.specs.Ordering.{nat_cmp, eq_by_cmp}
use Rattle.std.specs.Cmp.{nat_cmp_total}
use Rattle.std.specs.FinMap.{nat_cmp-IsAntisymmetric}
use Rattle.capability.specs.declared.Uid.{Uid}
use Rattle.capability.specs.declared.Cap.{Cap}
use Rattle.eden_model.specs.Map.{with_item, uid_cmp, value_at, changed_at}
use Rattle.eden_model.proofs.Laws.{value-changed}
use Rattle.journal.specs.declared.command.Command.{Command}
use Rattle.journal.specs.declared.event.Key.{Key}
use Rattle.journal.specs.declared.event.Shown.TheVariants as shown
use Rattle.journal.specs.declared.event.Event.{Event}
use Rattle.journal.specs.declared.event.Event.TheVariants as event
use Rattle.journal.specs.declared.event.Entry.{Entry}
use Rattle.journal.specs.World.{World, Node, Eject, node_at, eject_at, site_of, reaches}
use Rattle.journal.specs.Ejects.{next_uid}
use Rattle.journal.specs.Ejects.{epoch_or_zero}
use Rattle.journal.specs.Commands.{AllowsCommand}
use Rattle.journal.specs.Step.{AllowsAt, AllowsInTurn, AllowsEvent, next, after_turn, after_command, happened, counted, clocked, key_of}
use Rattle.journal.specs.LegalRun.{created_by, IsNew, NotCreatedIn}
use Rattle.journal.specs.Run.{beginning, Step, AllowsLookUp, looked_up, Leads, EachStep, steps}
use Rattle.history_laws.proofs.Uids.{IsBehind, Fit, OfNode, AllFit, CreatedIn}
use Rattle.history_laws.proofs.NoneRolledBack.{with_clock}
use Rattle.history_laws.proofs.Runs.{Any, of-any, no-turn, each-step, nodes-looked_up}
use Rattle.history_laws.proofs.EveryNode.{IsNext, following_uid, next-following, made-next, all-next, all-same_nodes}
use Rattle.history_laws.proofs.UidTurns.{kept-fit}
use Rattle.history_laws.proofs.Creations.{process-makes, process-there, made-there}

-- 1. A uid that comes next

-- a uid that comes next is no Eject's, and none that was given
pub new-next : (G : Uid → Type 0) (w : World) (u : Uid) → AllFit G w → IsNext w u → (eject_at w u ≡ None) × (G u → ⊥)
new-next G w u all is = go (node_at w u.node) refl is
  where
    clash : (it : Node) → u ≡ following_uid (site_of w u.node it) → IsBehind u (epoch_or_zero it.epoch) it.last_serial → ⊥
    clash it same b =
        let s : u.serial ≤ it.last_serial = b.serial_given (ap (λ (v : Uid). v.epoch) same) in
        omega (arith, s, ap (λ (v : Uid). v.serial) same)

    held : (it : Node) → Fit (OfNode G u.node) it → u ≡ following_uid (site_of w u.node it) → (o : Option Eject)
        → value_at uid_cmp u it.ejects ≡ o → value_at uid_cmp u it.ejects ≡ None
    held it fit same None at = at
    held it fit same (Some e) at = absurd (clash it same (fit.behind u (ap is_some at)))

    go : (o : Option Node) → node_at w u.node ≡ o
        → IsSomeAnd (with_item o (λ it. Some (site_of w u.node it)) None) (λ s. next_uid s ≡ Ok u) → (eject_at w u ≡ None) × (G u → ⊥)
    go None at a = absurd a
    go (Some it) at a = let same = next-following (site_of w u.node it) u a in (
      rw at (held it (all u.node it at) same (value_at uid_cmp u it.ejects) refl),
      λ g. clash it same ((all u.node it at).all_given u (refl, g)),
    )

-- 2. What is created

-- it came next, and it is there now
abbrev pub IsGiven : World → World → Option Uid → Type 0
IsGiven w later None = Unit {0}
IsGiven w later (Some v) = IsNext w v × (is_some (eject_at later v) ≡ true)

pub given-turn : (G : Uid → Type 0) (w : World) (e : Event) → AllowsInTurn w e → AllFit G w → IsGiven w (after_turn w e) (created_by e)
given-turn G w (event.Process u p (shown.Created v)) allowed all = go (node_at w u.node) refl allowed
  where
    go : (o : Option Node) → node_at w u.node ≡ o
        → IsSomeAnd (with_item o (λ it. Some (site_of w u.node it)) None) (λ s. AllowsAt s (event.Process u p (shown.Created v)))
        → IsGiven w (after_turn w (event.Process u p (shown.Created v))) (Some v)
    go None at a = absurd a
    go (Some it) at a = process-there w u.node (reaches w u.node) u p it v at
        (process-makes (site_of w u.node it) u p v (all u.node it at).in_order a)
given-turn G w (event.Made name why u) allowed all = absurd allowed
given-turn G w _ allowed all = tt

pub given-command : (w : World) (c : Command) (e : Event) → AllowsCommand w c e → IsGiven w (after_command w c e) (created_by e)
given-command w c (event.Made name why None) allowed = tt
given-command w c (event.Made name why (Some u)) allowed = (made-next w c name why u allowed, made-there w c name why u allowed)
given-command w c (event.Process u p (shown.Created v)) allowed = absurd (no-turn w c (event.Process u p (shown.Created v)) refl allowed)
given-command w c _ allowed = tt

pub given : (G : Uid → Type 0) (w : World) (c : Option Command) (e : Event) → AllowsEvent w c e → AllFit G w
    → IsGiven w (happened w c e) (created_by e)
given G w None e allowed all = given-turn G w e allowed all
given G w (Some c) e allowed all = given-command w c e allowed

-- the clock and the key of an entry leave it there
abbrev pub there_via : Uid → Option Node → Bool
there_via u o = is_some (with_item o (λ it. value_at uid_cmp u it.ejects) None)

pub there-clocked : (n c : ℕ) (w : World) (u : Uid) → is_some (eject_at (clocked n c w) u) ≡ is_some (eject_at w u)
there-clocked n c w u = elim (n == 0) as (λ b. there_via u
    (value_at nat_cmp u.node (cond b w.nodes (changed_at nat_cmp n (with_clock c) w.nodes))) ≡ there_via u (node_at w u.node)) [
      | true ↦ refl
      | false ↦ ap (there_via u) (value-changed nat_cmp nat_cmp_total nat_cmp-IsAntisymmetric u.node n (with_clock c) w.nodes) ∙ same
          (eq_by_cmp nat_cmp u.node n) (node_at w u.node)
    ]
  where
    same : (b : Bool) (o : Option Node) → there_via u (cond b (option_map (with_clock c) o) o) ≡ there_via u o
    same true None = refl
    same true (Some it) = refl
    same false o = refl

pub there-counted : (k : Option Key) (w : World) (u : Uid) → is_some (eject_at (counted k w) u) ≡ is_some (eject_at w u)
there-counted None w u = refl
there-counted (Some k) w u = refl

pub there-next : (w : World) (c : Option Command) (e : Entry) (new : Option Uid) → IsGiven w (happened w c e.event) new
    → IsGiven w (next w c e) new
there-next w c e None x = tt
there-next w c e (Some v) x = (
  x.0,
  there-counted (key_of e.event) (clocked e.node e.clock (happened w c e.event)) v
      ∙ there-clocked e.node e.clock (happened w c e.event) v ∙ x.1,
)

-- 3. What was given so far

with-given : (G : Uid → Type 0) (w later : World) (new : Option Uid) → IsGiven w later new → AllFit G later
    → AllFit (λ u. (new ≡ Some u) ⊎ G u) later
with-given G w later new x all n it is = let fit : Fit (OfNode G n) it = all n it is in record {
  up_keeps = fit.up_keeps;
  doubt_is_next = fit.doubt_is_next;
  in_order = fit.in_order;
  behind = fit.behind;
  all_given = λ u g. by_origin fit u g.0 g.1;
}
  where
    here : (u : Uid) → u.node ≡ n → is_some (eject_at later u) ≡ true → is_some (value_at uid_cmp u it.ejects) ≡ true
    here u number there = sym (ap (there_via u) (ap (node_at later) number ∙ is)) ∙ there

    by_new : Fit (OfNode G n) it → (u : Uid) → u.node ≡ n → (o : Option Uid) → IsGiven w later o → o ≡ Some u
        → IsBehind u (epoch_or_zero it.epoch) it.last_serial
    by_new fit u number None x same = absurd (cc same)
    by_new fit u number (Some v) x same = let e : v ≡ u = cc same in
        fit.behind u (here u number (ap (λ (y : Uid). is_some (eject_at later y)) (sym e) ∙ x.1))

    by_origin : Fit (OfNode G n) it → (u : Uid) → u.node ≡ n → (new ≡ Some u) ⊎ G u → IsBehind u (epoch_or_zero it.epoch) it.last_serial
    by_origin fit u number (inl same) = by_new fit u number new x same
    by_origin fit u number (inr g) = fit.all_given u (number, g)

not-created : (past : List Step) (v : Uid) → (CreatedIn past v → ⊥) → NotCreatedIn past v
not-created [] v none = tt
not-created (s ∷ past) v none = (λ is. none (inl is), not-created past v (λ x. none (inr x)))

is-new : (w later : World) (past : List Step) (new : Option Uid) → IsGiven w later new → AllFit (CreatedIn past) w → IsNew w past new
is-new w later past None x all = tt
is-new w later past (Some v) x all = let y = new-next (CreatedIn past) w v all x.0 in (y.0, not-created past v y.1)

-- 4. Every history

asks-none : (w : World) (name : List ℕ) (target : Option Cap) (path : List (List ℕ)) (e : Event) → AllowsLookUp w name target path e
    → created_by e ≡ None
asks-none w name (Some target) path (event.Asked k said at_once) allowed = refl
asks-none w name None path (event.Void said) allowed = refl
asks-none w name target path _ allowed = absurd allowed

nothing-new : (w later : World) (o : Option Uid) → o ≡ None → IsGiven w later o
nothing-new w later None is = tt
nothing-new w later (Some v) is = absurd (cc is)

-- of each step of every history that leads from a world whose uids are behind
pub each-uid-new : (w : World) (nodes : ℕ) (cs : List Command) (history : List Entry) → AllFit (CreatedIn []) (beginning w nodes cs).world
    → Leads (beginning w nodes cs) history
    → EachStep (λ past s. IsNew s.world past (created_by s.entry.event)) [] (steps (beginning w nodes cs) history)
each-uid-new w nodes cs history all leads = each-step Any (λ past w. AllFit (CreatedIn past) w)
    (λ past s. IsNew s.world past (created_by s.entry.event)) (record {
      entries = λ past w c e any allowed i. let x = there-next w c e (created_by e.event)
          (given (CreatedIn past) w c e.event allowed.event i) in (
            is-new w (next w c e) past (created_by e.event) x i,
            with-given (CreatedIn past) w (next w c e) (created_by e.event) x
                (all-next (λ n it. Fit (OfNode (CreatedIn past) n) it) w c e (kept-fit (CreatedIn past) w e.event) allowed i),
          );
      look_ups = λ past w name target path e any allowed plain i. let x = nothing-new w (looked_up w name target path e.event)
          (created_by e.event) (asks-none w name target path e.event allowed) in (
            is-new w (looked_up w name target path e.event) past (created_by e.event) x i,
            with-given (CreatedIn past) w (looked_up w name target path e.event) (created_by e.event) x
                (all-same_nodes (λ n it. Fit (OfNode (CreatedIn past) n) it) w (looked_up w name target path e.event)
                (nodes-looked_up w name target path e.event) i),
          );
    }) (beginning w nodes cs) [] history (of-any 1 nodes w cs) all leads
