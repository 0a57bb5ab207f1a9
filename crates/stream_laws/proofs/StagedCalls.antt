-- A stage in the world: what each entry leaves of the calls to it and of those that it made.
use Rattle.std.proofs.Common.{◌≡◌, ℕ, ◌+◌, ◌≤◌, Bool, false, List, [], ◌∷◌, Option, None, Some, is_some}
use Rattle.std.proofs.Common.{refl, ap, sym, ◌∙◌, subst, arith}
use Rattle.std.specs.Prelude.{IsSomeAnd, IfSome}
use Rattle.std.specs.Ordering.{nat_cmp}
use Rattle.capability.specs.declared.Uid.{Uid}
use Rattle.capability.specs.declared.Cap.{Cap}
use Rattle.eden_value.specs.Datum.{Datum}
use Rattle.eden_value.specs.declared.status.Status.{Status}
use Rattle.eden_value.specs.declared.status.Status.TheVariants as status
use Rattle.eden_model.specs.Map.{with_item, value_at, uid_cmp}
use Rattle.eden_model.proofs.Numbers.{same-self}
use Rattle.eden_model.specs.Crew.{Process as Worker, Invocation}
use Rattle.eden_model.specs.declared.Asker.{Asker}
use Rattle.eden_model.specs.declared.Asker.TheVariants.{Shell, Eject as Process}
use Rattle.eden_model.specs.Traffic.{Call, held, answered, call_at}
use Rattle.epl_syntax.specs.declared.effect.Effect.{Effect}
use Rattle.epl_syntax.specs.declared.effect.Effect.TheVariants as effect
use Rattle.epl_syntax.specs.Natives.{native_turn}
use Rattle.epl_syntax.specs.Meaning.{Turned}
use Rattle.journal.specs.declared.event.Event.{Event}
use Rattle.journal.specs.declared.event.Event.TheVariants as event
use Rattle.journal.specs.declared.event.Shown.{Shown}
use Rattle.journal.specs.World.{World, Node, Eject, Active, node_at, eject_at, site_of, eject_in, reaches}
use Rattle.journal.specs.Processes.{AllowsTurn, turn_of, worker_at, serving}
use Rattle.journal.specs.Step.{AllowsAt}
use Rattle.journal.specs.Sites.{Everywhere, active_in, runs_of, IsHeldAt}
use Rattle.history_laws.proofs.Fits.{times}
use Rattle.history_laws.proofs.SiteCrews.{runs-served}
use Rattle.history_laws.proofs.SiteRuns.{SiteWorld}
use Rattle.stream_laws.proofs.Roles.{Role, IsLawful, TurnEnds}
use Rattle.stream_laws.proofs.Stage.{IsActive, IsEject, Turn, turn-of-it}
use Rattle.value_laws.proofs.AnswerCalls.{MayDo, process_turn-on}
use Rattle.value_laws.proofs.WorldCalls.{KeepsTurn}
use Rattle.stream_laws.proofs.StagedNodes.{kept_now, own-eject, OnNode}
use Rattle.stream_laws.proofs.Items.{same-some, there-some}

-- what a process serves is held at its Eject
pub held-by : (H : ℕ → Bool) (w : World) → SiteWorld H w → (v : Uid) (it : Node) → node_at w v.node ≡ Some it → (e : Eject) (a : Active)
    → value_at uid_cmp v it.ejects ≡ Some e → e.active ≡ Some a → (p : ℕ) (i : Invocation) → serving a p ≡ Some i
    → IsHeldAt w.traffic v i.call
held-by H w site v it at e a is some p i serves = ((site.sites v.node it at).fits v refl).held i.call
    (subst (λ o. 1 ≤ times i.call (runs_of (active_in o)) + times i.call (with_item o (λ (e : Eject). e.queued) [])) (sym is)
    (subst (λ o. 1 ≤ times i.call (runs_of o) + times i.call e.queued) (sym some)
    (omega (arith, runs-served p i a.crew serves))))

module _ (R : Role) (L : IsLawful R) (u : Uid) (A : ℕ → List Datum) where
  -- the answers to calls of it
  abbrev pub SaidOn : World → Type 0
  SaidOn w = (k : ℕ) (c : Call) (st : Status) (results : List Datum) → call_at w.traffic k ≡ Some c → c.target.uid ≡ u
      → c.place ≡ answered st results → R.Said (kept_now w u) (A k) st results

  module _ (w : World) (ev : Event) where
    -- what may be new of an answer: what it is to say, if it is asked
    abbrev pub NewAnswer : ℕ → Status → List Datum → Type 0
    NewAnswer k st results = IsSomeAnd (call_at w.traffic k) (λ c. c.target.uid ≡ u → R.Said (kept_now w u) (A k) st results)

    -- the event is a turn of it that asks this
    pub record IsOwnCall (target : Cap) (operation : List ℕ) (args : List Datum) : Type 0 where
      pub process : ℕ
      pub said : Shown
      pub is : ev ≡ event.Process u process said
      pub eject : Eject
      pub active : Active
      pub turned : Turned
      pub at : eject_at w u ≡ Some eject
      pub some : eject.active ≡ Some active
      pub turns : turn_of u active process ≡ Some turned
      pub effect_is : turned.effect ≡ effect.Invoke target operation args
      pub asks : R.Asks turned.vars target operation args

    -- a call of it is new only then
    abbrev pub NewCall : ℕ → Asker → Cap → List ℕ → List Datum → Type 0
    NewCall k a target operation args = (q : ℕ) → a ≡ Process u q → IsOwnCall target operation args

    pub by-shell : (k : ℕ) (name : List ℕ) (target : Cap) (operation : List ℕ) (args : List Datum)
        → NewCall k (Shell name) target operation args
    by-shell k name target operation args q is = absurd (cc is)

    module _ (H : ℕ → Bool) (site : SiteWorld H w) (staged : Everywhere (OnNode R L u A (kept_now w u)) w)
        (turning : (p : ℕ) (said : Shown) → ev ≡ event.Process u p said → R.Turns) where
      -- the process that takes the turn is there
      worker-there : (v : Uid) (p : ℕ) (said : Shown) (it : Node) (e : Eject) (a : Active)
          → AllowsAt (site_of w v.node it) (event.Process v p said)
          → value_at uid_cmp v it.ejects ≡ Some e → e.active ≡ Some a
          → IsSomeAnd (worker_at a p) (λ q. AllowsTurn (site_of w v.node it) v p said a q)
      worker-there v p said it e a allowed is some = subst (λ o. IsSomeAnd o (λ a. IsSomeAnd (worker_at a p)
          (λ q. AllowsTurn (site_of w v.node it) v p said a q))) some
          (subst (λ o. IsSomeAnd o (λ e. IsSomeAnd e.active (λ a. IsSomeAnd (worker_at a p)
          (λ q. AllowsTurn (site_of w v.node it) v p said a q)))) is allowed)

      -- the turn of a process of it
      pub own-turn : (v : Uid) (p : ℕ) (said : Shown) (it : Node) (e : Eject) (a : Active) (t : Turned) → ev ≡ event.Process v p said
          → v ≡ u → node_at w v.node ≡ Some it
          → AllowsAt (site_of w v.node it) (event.Process v p said) → value_at uid_cmp v it.ejects ≡ Some e → e.active ≡ Some a
          → turn_of v a p ≡ Some t → Turn R u A (kept_now w u) L e a p t
      own-turn v p said it e a t of same at allowed is some turns = turn-of-it R u A (kept_now w u) L
          (turning p said (of ∙ ap (λ z. event.Process z p said) same)) e a p t
          (subst (λ o. IfSome o (IsActive R u A (kept_now w u) (is_some e.kept))) some
          (subst (λ o. IfSome o (IsEject R u A (kept_now w u) it.requests)) (ap (λ z. value_at uid_cmp z it.ejects) (sym same) ∙ is)
          (staged v.node it at (ap (λ (z : Uid). z.node) same)).eject).active)
          (there-some (λ q. AllowsTurn (site_of w v.node it) v p said a q) (worker_at a p) (worker-there v p said it e a allowed is some))
          (ap (λ z. turn_of z a p) (sym same) ∙ turns)

      kept-there : (v : Uid) (it : Node) (e : Eject) → v ≡ u → node_at w v.node ≡ Some it → value_at uid_cmp v it.ejects ≡ Some e
          → is_some e.kept ≡ kept_now w u
      kept-there v it e same at is = sym (ap (λ z. with_item (eject_at w z) (λ (e : Eject). is_some e.kept) false) (sym same)
          ∙ ap (λ o. with_item o (λ (e : Eject). is_some e.kept) false) (own-eject w v.node it v at refl ∙ is))

      says : (v : Uid) (p : ℕ) (said : Shown) (it : Node) → ev ≡ event.Process v p said → node_at w v.node ≡ Some it
          → AllowsAt (site_of w v.node it) (event.Process v p said) → (e : Eject) (a : Active) (t : Turned)
          → eject_in (site_of w v.node it) v ≡ Some e → e.active ≡ Some a → turn_of v a p ≡ Some t
          → MayDo NewAnswer NewCall v p (serving a p) t.effect
      says v p said it of at allowed e a t is some turns = go t.effect refl
        where
          answer : (results : List Datum) → t.effect ≡ effect.Return results → (i : Invocation) → serving a p ≡ Some i
              → (o : Option Call) → IsSomeAnd o (λ c. (c.place ≡ held) × (c.target.uid ≡ v))
              → IsSomeAnd o (λ c. c.target.uid ≡ u → R.Said (kept_now w u) (A i.call) status.Ok results)
          answer results returns i serves None h = absurd h
          answer results returns i serves (Some c) h = λ to_u.
              let same : v ≡ u = sym h.1 ∙ to_u in
              let x = own-turn v p said it e a t of same at allowed is some turns in
              let call : x.busy.call ≡ i = same-some (sym x.busy.serves ∙ sym (ap (λ o. with_item o (λ (q : Worker). q.serves) None)
              (found x)) ∙ serves) in
              subst (λ (j : Invocation). R.Said (kept_now w u) (A j.call) status.Ok results) call
              (subst (λ b. R.Said b (A x.busy.call.call) status.Ok results) (kept-there v it e same at is)
              (subst (TurnEnds R (is_some e.kept) (native_turn R.kind a.vars x.stage x.answer).0 (A x.busy.call.call)
              (native_turn R.kind a.vars x.stage x.answer).1) (sym x.effect_is ∙ returns) x.keeps.ends).0)
            where
              found : (x : Turn R u A (kept_now w u) L e a p t) → worker_at a p ≡ Some x.busy.worker
              found x = ap (λ ps. value_at nat_cmp p ps) x.busy.alone
                  ∙ ap (λ q. value_at nat_cmp p ((q, x.busy.worker) ∷ [])) (sym x.number) ∙ rw (same-self p) refl

          served : (results : List Datum) → t.effect ≡ effect.Return results → (o : Option Invocation) → serving a p ≡ o
              → MayDo NewAnswer NewCall v p o (effect.Return results)
          served results returns None serves = tt
          served results returns (Some i) serves = answer results returns i serves (call_at w.traffic i.call)
              (held-by H w site v it at e a is some p i serves)

          asked : (target : Cap) (operation : List ℕ) (args : List Datum) → t.effect ≡ effect.Invoke target operation args
              → (k : ℕ) → NewCall k (Process v p) target operation args
          asked target operation args eq k q by =
              let same : v ≡ u = (let e : Process v p ≡ Process u q = by in cc e) in
              let x = own-turn v p said it e a t of same at allowed is some turns in
              record {
                process = p;
                said = said;
                is = of ∙ ap (λ z. event.Process z p said) same;
                eject = e;
                active = a;
                turned = t;
                at = ap (eject_at w) (sym same) ∙ own-eject w v.node it v at refl ∙ is;
                some = some;
                turns = ap (λ z. turn_of z a p) (sym same) ∙ turns;
                effect_is = eq;
                asks = subst (λ vars. R.Asks vars target operation args) (sym x.vars)
                    (subst (TurnEnds R (is_some e.kept) (native_turn R.kind a.vars x.stage x.answer).0 (A x.busy.call.call)
                    (native_turn R.kind a.vars x.stage x.answer).1) (sym x.effect_is ∙ eq) x.keeps.ends).0;
              }

          go : (eff : Effect) → t.effect ≡ eff → MayDo NewAnswer NewCall v p (serving a p) eff
          go (effect.Return results) eq = served results eq (serving a p) refl
          go (effect.Invoke target operation args) eq = asked target operation args eq
          go _ eq = tt

      pub turn-keeps : (e' : Event) → ev ≡ e' → ((it : Node) (v : Uid) (p : ℕ) (said : Shown) → e' ≡ event.Process v p said
          → node_at w v.node ≡ Some it
          → AllowsAt (site_of w v.node it) (event.Process v p said)) → KeepsTurn NewAnswer NewCall w e'
      turn-keeps (event.Process v p said) is allowed = λ it at. process_turn-on NewAnswer NewCall (reaches w v.node) v p
          (site_of w v.node it)
          (λ e a t is_e some turns. says v p said it is at (allowed it v p said refl at) e a t is_e some turns)
      turn-keeps _ is allowed = tt
