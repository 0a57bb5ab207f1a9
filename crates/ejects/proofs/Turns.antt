-- A turn of a process in the node is that turn at the site.
use Rattle.std.proofs.Common.{◌≡◌, ℕ, nat_le, Bool, true, false, cond, List, [], Option, None, Some, refl, sym, ◌∙◌, ap, subst}
use Rattle.std.specs.List.{AllByRecursion}
use Rattle.capability.specs.declared.Uid.{Uid}
use Rattle.capability.specs.declared.Cap.{Cap}
use Rattle.capability.proofs.Uids.{uid_cmp_total}
use Rattle.eden_value.specs.Datum.{Datum}
use Rattle.eden_codec.specs.Spelling.{values_size}
use Rattle.capability.specs.declared.TheConstants.{MESSAGE_LIMIT}
use Rattle.eden_value.specs.declared.status.Status.{Status}
use Rattle.eden_value.specs.declared.status.Status.TheVariants as status
use Rattle.eden_model.specs.Map.{uid_cmp, with_item}
use Rattle.eden_model.proofs.Laws.{changed-changed}
use Rattle.eden_model.specs.Crew.{Crew, Invocation}
use Rattle.eden_model.specs.declared.Asker.TheVariants.{Eject as Process}
use Rattle.eden_model.specs.Traffic.{Traffic, call_at, replied, next_call, with_call}
use Rattle.epl_syntax.specs.declared.effect.Effect.{Effect}
use Rattle.epl_syntax.specs.declared.effect.Effect.TheVariants as effect
use Rattle.epl_syntax.specs.Meaning.{Turned}
use Rattle.journal.specs.World.{Active, Eject, Site, on_eject, on_traffic}
use Rattle.journal.specs.Ejects.{on_active, on_crew}
use Rattle.journal.specs.Processes.{turn_of, turned, without_process, answers, refused_at_once, waits_or_told, invokes, effected}
use Rattle.journal.specs.Processes.{serving, turn_taken, active_turn, process_turn}
use Rattle.active_part.specs.Body.{Body, active_of, calls_of}
use Rattle.ejects.specs.Parts.{Parts, known, body_at, HasClass, HasClasses, Stands}
use Rattle.active_part.specs.Bodies.{turned_body, ended_body, asking_body, crewed_body}
use Rattle.active_part.specs.View.{effect_of, stepped}
use Rattle.active_part.specs.declared.Step.{Step}
use Rattle.active_part.specs.declared.Step.TheVariants.{Lock, Leave, Wait, Signal}
use Rattle.ejects.proofs.Stays.{Keeps, stays-on_traffic}
use Rattle.ejects.proofs.Keeping.{keeps-same, keeps-replied, keeps-with_call}
use Rattle.ejects.specs.View.{with_body}
use Rattle.ejects.proofs.Delivered.{stays-body, IsActiveAs, active-as, known_body, same-known, class-now, found-active}

-- 1. Which turn it is

module _ (n : Parts) (s : Site) (u : Uid) (p : ℕ) (b : Body) (h : Stands n s) (at : body_at n u ≡ Some b) where
  pub turn-is : (reach : ℕ → Bool) (t : Turned) → turn_of u (active_of b) p ≡ Some t
      → process_turn reach u p s ≡ turn_taken reach u p (active_of b) t s
  turn-is reach t is =
      let f = found-active n s u b h at in
      let was = active-as n u b f.eject (ap known (sym f.is) ∙ h.ejects u) at in
      ap (λ o. with_item o (λ e. with_item e.active (λ it. active_turn reach u p it s) s) s) f.is
      ∙ ap (λ o. with_item o (λ it. active_turn reach u p it s) s) was.active
      ∙ ap (λ o. with_item o (λ t. turn_taken reach u p (active_of b) t s) s) is

-- 2. A change of the active part alone

pub on_eject-twice : (u : Uid) (f g : Eject → Eject) (s : Site) → on_eject u g (on_eject u f s) ≡ on_eject u (λ e. g (f e)) s
unfolding on_eject
on_eject-twice u f g s = ap (λ es. record s { node = record s.node { ejects = es } })
    (changed-changed uid_cmp uid_cmp_total u f g s.node.ejects)

pub stays-active : (n : Parts) (s : Site) (u : Uid) (b new : Body) (f : Active → Active) → Stands n s → body_at n u ≡ Some b
    → active_of new ≡ f (active_of b) → new.crew.queued ≡ b.crew.queued → new.kind ≡ b.kind
    → Stands (with_body u new n) (on_eject u (on_active f) s)
stays-active n s u b new f h at changed queued kind = stays-body n s u b new (on_active f) h at alike classes
  where
    alike : (e : Eject) → IsActiveAs b e → known (Some (on_active f e)) ≡ known_body new
    alike e was = rw (was.active, was.queued) (same-known (ap (λ it. Some it) (sym changed)) (ap calls_of (sym queued)) refl)

    classes : HasClasses s.traffic (Some new)
    classes = subst (λ is. AllByRecursion (HasClass s.traffic new.kind) is) (sym queued)
        (subst (λ k. AllByRecursion (HasClass s.traffic k) b.crew.queued) (sym kind) (class-now n s u b h at))

on_active-twice : (f g : Active → Active) (e : Eject) → on_active g (on_active f e) ≡ on_active (λ it. g (f it)) e
on_active-twice f g e = go e.active refl
  where
    go : (o : Option Active) → e.active ≡ o → on_active g (on_active f e) ≡ on_active (λ it. g (f it)) e
    go None is = rw is refl
    go (Some it) is = rw is refl

-- two changes, one behind the other
pub stays-active-twice : (n : Parts) (s : Site) (u : Uid) (b new : Body) (f g : Active → Active) → Stands n s → body_at n u ≡ Some b
    → active_of new ≡ g (f (active_of b)) → new.crew.queued ≡ b.crew.queued → new.kind ≡ b.kind
    → Stands (with_body u new n) (on_eject u (on_active g) (on_eject u (on_active f) s))
stays-active-twice n s u b new f g h at changed queued kind =
    rw (on_eject-twice u (on_active f) (on_active g) s)
    (subst (λ (x : Eject → Eject). Stands (with_body u new n) (on_eject u x s)) (λ i e. sym (on_active-twice f g e) i)
    (stays-active n s u b new (λ it. g (f it)) h at changed queued kind))

-- 3. The turn returns, or ends

keeps-answers : (i : Option Invocation) (results : List Datum) (t : Traffic) → Keeps t (answers i results t)
keeps-answers None results t = keeps-same t t refl
keeps-answers (Some i) results t = go (nat_le (values_size results) MESSAGE_LIMIT)
  where
    go : (b : Bool) → Keeps t (cond b (replied status.Ok results i.call t) (replied status.TooLarge [] i.call t))
    go true = keeps-replied status.Ok results i.call t
    go false = keeps-replied status.TooLarge [] i.call t

module _ (n : Parts) (s : Site) (u : Uid) (p : ℕ) (b : Body) (h : Stands n s) (at : body_at n u ≡ Some b) (reach : ℕ → Bool) (t : Turned)
    (is : turn_of u (active_of b) p ≡ Some t) where
  pub effect-is : (e : Effect) → t.effect ≡ e
      → process_turn reach u p s ≡ effected reach u p (serving (active_of b) p) b.kind t.vars e (on_eject u (on_active (turned p t)) s)
  effect-is e same = turn-is n s u p b h at reach t is ∙ ap
      (λ x. effected reach u p (serving (active_of b) p) b.kind t.vars x (on_eject u (on_active (turned p t)) s)) same

  ended-stands : Stands (with_body u (ended_body p (turned_body p t b)) n)
      (on_eject u (on_active (without_process p)) (on_eject u (on_active (turned p t)) s))
  ended-stands = stays-active-twice n s u b (ended_body p (turned_body p t b)) (turned p t) (without_process p) h at refl refl refl

  pub returns-stands : (results : List Datum) → t.effect ≡ effect.Return results
      → Stands (with_body u (ended_body p (turned_body p t b)) n) (process_turn reach u p s)
  returns-stands results same = rw (effect-is (effect.Return results) same)
      (stays-on_traffic _ _ (answers (serving (active_of b) p) results) (keeps-answers (serving (active_of b) p) results _) ended-stands)

  pub returns-traffic : (results : List Datum) → t.effect ≡ effect.Return results
      → (process_turn reach u p s).traffic ≡ answers (serving (active_of b) p) results s.traffic
  unfolding on_traffic on_eject
  returns-traffic results same = rw (effect-is (effect.Return results) same) refl

  pub ends-stands : t.effect ≡ effect.End → Stands (with_body u (ended_body p (turned_body p t b)) n) (process_turn reach u p s)
  ends-stands same = rw (effect-is effect.End same) ended-stands

  pub ends-traffic : t.effect ≡ effect.End → (process_turn reach u p s).traffic ≡ s.traffic
  unfolding on_eject
  ends-traffic same = rw (effect-is effect.End same) refl

  -- it does something at its monitors, or yields
  crewed-stands : (f : Crew → Crew)
      → Stands (with_body u (crewed_body f (turned_body p t b)) n)
      (on_eject u (on_active (on_crew f)) (on_eject u (on_active (turned p t)) s))
  crewed-stands f = stays-active-twice n s u b (crewed_body f (turned_body p t b)) (turned p t) (on_crew f) h at refl refl refl

  crewed-traffic : (f : Crew → Crew) → (on_eject u (on_active (on_crew f)) (on_eject u (on_active (turned p t)) s)).traffic ≡ s.traffic
  unfolding on_eject
  crewed-traffic f = refl

  step-is : (step : Step) → t.effect ≡ effect_of step
      → process_turn reach u p s ≡ on_eject u (on_active (on_crew (stepped step p))) (on_eject u (on_active (turned p t)) s)
  step-is (Lock m) same = effect-is (effect.Lock m) same
  step-is (Leave m) same = effect-is (effect.Leave m) same
  step-is (Wait c) same = effect-is (effect.Wait c) same
  step-is (Signal c) same = effect-is (effect.Signal c) same

  pub steps-stands : (step : Step) → t.effect ≡ effect_of step
      → Stands (with_body u (crewed_body (stepped step p) (turned_body p t b)) n) (process_turn reach u p s)
  steps-stands step same = rw (step-is step same) (crewed-stands (stepped step p))

  pub steps-traffic : (step : Step) → t.effect ≡ effect_of step → (process_turn reach u p s).traffic ≡ s.traffic
  steps-traffic step same = ap (λ (x : Site). x.traffic) (step-is step same) ∙ crewed-traffic (stepped step p)

  pub yields-stands : t.effect ≡ effect.Yield → Stands (with_body u (turned_body p t b) n) (process_turn reach u p s)
  yields-stands same = rw (effect-is effect.Yield same) (stays-active n s u b (turned_body p t b) (turned p t) h at refl refl refl)

  pub yields-traffic : t.effect ≡ effect.Yield → (process_turn reach u p s).traffic ≡ s.traffic
  unfolding on_eject
  yields-traffic same = rw (effect-is effect.Yield same) refl

  -- 4. It invokes

  asks : Cap → List Datum → Option Status
  asks target args = refused_at_once (reach target.uid.node) args

  asking-active : (at_once : Option Status)
      → active_of (asking_body p at_once (turned_body p t b)) ≡ waits_or_told p at_once (turned p t (active_of b))
  asking-active None = refl
  asking-active (Some why) = refl

  asking-queued : (at_once : Option Status) → (asking_body p at_once (turned_body p t b)).crew.queued ≡ b.crew.queued
  asking-queued None = refl
  asking-queued (Some why) = refl

  asking-kind : (at_once : Option Status) → (asking_body p at_once (turned_body p t b)).kind ≡ b.kind
  asking-kind None = refl
  asking-kind (Some why) = refl

  pub invokes-stands : (target : Cap) (operation : List ℕ) (args : List Datum) (at_once : Option Status)
      → t.effect ≡ effect.Invoke target operation args → at_once ≡ refused_at_once (reach target.uid.node) args
      → call_at s.traffic (next_call s.traffic) ≡ None
      → Stands (with_body u (asking_body p at_once (turned_body p t b)) n) (process_turn reach u p s)
  unfolding on_eject
  invokes-stands target operation args at_once same once none =
      subst (Stands (with_body u (asking_body p at_once (turned_body p t b)) n))
      (sym (effect-is (effect.Invoke target operation args) same ∙ ap
      (λ o. invokes u p target operation args o (on_eject u (on_active (turned p t)) s)) (sym once)))
      (stays-on_traffic _ _ (λ x. with_call (next_call x) (Process u p) target operation args at_once x)
      (keeps-with_call (next_call s.traffic) (Process u p) target operation args at_once s.traffic none)
      (stays-active-twice n s u b (asking_body p at_once (turned_body p t b)) (turned p t) (waits_or_told p at_once) h at
      (asking-active at_once) (asking-queued at_once) (asking-kind at_once)))

  pub invokes-traffic : (target : Cap) (operation : List ℕ) (args : List Datum) (at_once : Option Status)
      → t.effect ≡ effect.Invoke target operation args → at_once ≡ refused_at_once (reach target.uid.node) args
      → (process_turn reach u p s).traffic ≡ with_call (next_call s.traffic) (Process u p) target operation args at_once s.traffic
  unfolding on_traffic on_eject
  invokes-traffic target operation args at_once same once = rw (effect-is (effect.Invoke target operation args) same, once) refl
