-- A start, whole.
use Rattle.std.proofs.Common.{◌≡◌, ◌==◌, ℕ, Bool, not, List, [], ◌∷◌, ◌++◌, Option, None, Some, refl, sym, ◌∙◌, ap, subst}
use Rattle.std.specs.Prelude.{IsSomeAnd}
use Rattle.std.specs.List.{AllByRecursion, filter}
use Rattle.std.specs.Option.{option_map}
use Rattle.capability.specs.declared.Uid.{Uid}
use Rattle.coordinator.specs.declared.parts.Started.{Started}
use Rattle.eden_model.specs.Map.{with_item}
use Rattle.eden_model.specs.Crew.{Invocation, startable, least_free, running}
use Rattle.eden_model.specs.Traffic as traffic
use Rattle.eden_model.specs.Traffic.{Traffic, held, call_at}
use Rattle.epl_syntax.specs.Meaning.{begin}
use Rattle.invocation.specs.declared.call.Call.{Call}
use Rattle.invocation.specs.Mail.{Mail}
use Rattle.invocation.specs.Numbers.{item_in}
use Rattle.invocation.specs.Carries.{Carries}
use Rattle.journal.specs.declared.event.Event.TheVariants as event
use Rattle.journal.specs.World.{Site, on_eject}
use Rattle.journal.specs.Ejects.{on_active}
use Rattle.journal.specs.Processes.{start, with_start}
use Rattle.journal.specs.Sites.{IsSoundSite, IsHeldAt, runs_of}
use Rattle.active_part.specs.Body.{Body, calls_of}
use Rattle.ejects.specs.Parts.{Parts, known, body_at, Stands, IsAt, IsStep}
use Rattle.active_part.specs.Bodies.{started_body}
use Rattle.ejects.specs.View.{call_at_place, with_body}
use Rattle.active_part.specs.View.{IsStarted}
use Rattle.ejects.specs.Replies.{StartsAt}
use Rattle.ejects.proofs.Delivered.{active-as, found-active}
use Rattle.ejects.proofs.Requested.{found-at-place}
use Rattle.ejects.proofs.Started.{startable-all, start-stands, start-allowed}

pub all-first : {X : Type 0} (P : X → Type 0) (xs ys : List X) → AllByRecursion P (xs ++ ys) → AllByRecursion P xs
all-first P [] ys h = tt
all-first P (x ∷ xs) ys h = (h.0, all-first P xs ys h.1)

pub all-second : {X : Type 0} (P : X → Type 0) (xs ys : List X) → AllByRecursion P (xs ++ ys) → AllByRecursion P ys
all-second P [] ys h = h
all-second P (x ∷ xs) ys h = all-second P xs ys h.1

all-calls : (P : ℕ → Type 0) (is : List Invocation) → AllByRecursion P (calls_of is) → AllByRecursion (λ (i : Invocation). P i.call) is
all-calls P [] h = tt
all-calls P (i ∷ is) h = (h.0, all-calls P is h.1)

-- the calls of an active Eject are held there
pub record HoldsAll (t : Traffic) (u : Uid) (b : Body) : Type 0 where
  pub running_ : AllByRecursion (IsHeldAt t u) (running b.crew.crew)
  pub queued : AllByRecursion (IsHeldAt t u) (calls_of b.crew.queued)

pub holds-all : (n : Parts) (s : Site) (u : Uid) (b : Body) → IsSoundSite s → Stands n s → body_at n u ≡ Some b → HoldsAll s.traffic u b
holds-all n s u b sound h at =
    let f = found-active n s u b h at in
    let was = active-as n u b f.eject (ap known (sym f.is) ∙ h.ejects u) at in
    let all = (sound.ejects u f.eject f.is).held in
    record {
      running_ = subst (λ o. AllByRecursion (IsHeldAt s.traffic u) (runs_of o)) was.active
          (all-first (IsHeldAt s.traffic u) (runs_of f.eject.active) f.eject.queued all);
      queued = subst (λ ks. AllByRecursion (IsHeldAt s.traffic u) ks) was.queued
          (all-second (IsHeldAt s.traffic u) (runs_of f.eject.active) f.eject.queued all);
    }

pub held-place : (t : Traffic) (u : Uid) (k : ℕ) → IsHeldAt t u k → option_map (λ (c : traffic.Call). c.place) (call_at t k) ≡ Some held
held-place t u k h = go (call_at t k) h
  where
    go : (o : Option traffic.Call) → IsSomeAnd o (λ c. (c.place ≡ held) × (c.target.uid ≡ u))
        → option_map (λ (c : traffic.Call). c.place) o ≡ Some held
    go None h = absurd h
    go (Some c) h = ap (λ p. Some p) h.0

start-traffic : (s : Site) (u : Uid) (k p : ℕ) → (start u k p s).traffic ≡ s.traffic
unfolding on_eject
start-traffic s u k p = go (call_at s.traffic k) refl
  where
    go : (o : Option traffic.Call) → call_at s.traffic k ≡ o → (start u k p s).traffic ≡ s.traffic
    go None is = ap (λ o. (with_item o (λ c. on_eject u
        (λ e. record (on_active (with_start s.traffic k p c) e) { queued = filter (λ j. not (j == k)) e.queued }) s) s).traffic) is
    go (Some c) is = ap (λ o. (with_item o (λ c. on_eject u
        (λ e. record (on_active (with_start s.traffic k p c) e) { queued = filter (λ j. not (j == k)) e.queued }) s) s).traffic) is

module _ (reach : ℕ → Bool) (n new : Parts) (m : Mail) (s : Site) (u : Uid) (k : ℕ) (x : Call) (st : Started) (sound : IsSoundSite s)
    (at : IsAt n m s) (item : item_in k m.calls ≡ Some x) where
  pub start-step : StartsAt (body_at n u) k
      → ((b : Body) → body_at n u ≡ Some b → (now : Body) × IsStarted b now x st × (new ≡ with_body u now n))
      → IsStep reach new m s (event.Start k u st.process)
  start-step starts began = go (body_at n u) refl starts
    where
      by : (b : Body) → body_at n u ≡ Some b → (i : Invocation) → startable b.crew.crew b.crew.queued ≡ Some i → k ≡ i.call
          → IsStep reach new m s (event.Start k u st.process)
      by b is i chosen same =
          let h = at.parts in
          let held_there = startable-all b.crew.crew (λ (j : Invocation). IsHeldAt s.traffic u j.call) b.crew.queued i
          (all-calls (IsHeldAt s.traffic u) b.crew.queued (holds-all n s u b sound h is).queued) chosen in
          let found : call_at s.traffic i.call ≡ Some (call_at_place held x) = found-at-place m s.traffic i.call x held at.calls
          (ap (λ j. item_in j m.calls) (sym same) ∙ item) (held-place s.traffic u i.call held_there) refl in
          let r = began b is in
          let now = r.1 i chosen in
          let is_new : new ≡ with_body u (started_body (least_free b.crew.crew) (begin b.kind x.operation x.args) i b) n = r.2 ∙ ap
          (λ y. with_body u y n) now.2 in
          let step : IsStep reach (with_body u (started_body (least_free b.crew.crew) (begin b.kind x.operation x.args) i b) n) m s
          (event.Start i.call u (least_free b.crew.crew)) = record {
            allowed = start-allowed n s u b i (call_at_place held x) h is chosen found;
            is_at = record {
              parts = start-stands n s u b i (call_at_place held x) h is chosen found;
              calls = subst (Carries m) (sym (same-traffic i.call (least_free b.crew.crew))) at.calls;
            };
          } in
          subst (λ y. IsStep reach y m s (event.Start k u st.process)) (sym is_new)
          (subst (λ j. IsStep reach (with_body u (started_body (least_free b.crew.crew) (begin b.kind x.operation x.args) i b) n) m s
          (event.Start j u st.process)) (sym same)
          (subst (λ p. IsStep reach (with_body u (started_body (least_free b.crew.crew) (begin b.kind x.operation x.args) i b) n) m s
          (event.Start i.call u p)) (sym now.1) step))
        where
          same-traffic : (j p : ℕ) → (start u j p s).traffic ≡ s.traffic
          same-traffic j p = start-traffic s u j p

      at_invocation : (b : Body) → body_at n u ≡ Some b → (o : Option Invocation) → startable b.crew.crew b.crew.queued ≡ o
          → IsSomeAnd o (λ i. k ≡ i.call) → IsStep reach new m s (event.Start k u st.process)
      at_invocation b is None chosen h = absurd h
      at_invocation b is (Some i) chosen h = by b is i chosen h

      go : (o : Option Body) → body_at n u ≡ o → StartsAt o k → IsStep reach new m s (event.Start k u st.process)
      go None is h = absurd h
      go (Some b) is h = at_invocation b is (startable b.crew.crew b.crew.queued) refl h
