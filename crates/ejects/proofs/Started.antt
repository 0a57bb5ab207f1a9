-- An invocation that starts in the node starts at the site.
use Rattle.std.proofs.Common.{◌≡◌, ◌==◌, ℕ, nat_lt, Bool, true, false, cond, not, List, [], ◌∷◌, map, length, Option, None, Some, refl}
use Rattle.std.proofs.Common.{sym, ◌∙◌, ap, subst}
use Rattle.std.specs.Prelude.{IsSomeAnd}
use Rattle.std.specs.List.{AllByRecursion, find, filter}
use Rattle.std.specs.Ordering.{nat_cmp}
use Rattle.capability.specs.declared.Uid.{Uid}
use Rattle.eden_model.specs.Map.{with_item, put_at}
use Rattle.eden_model.specs.Crew.{Crew, Invocation, may_start, startable, without_call, least_free, started}
use Rattle.eden_model.specs.Traffic.{Traffic, Call, call_at}
use Rattle.epl_syntax.specs.Edentype.{Edentype}
use Rattle.epl_syntax.specs.declared.effect.Answer.TheVariants.{Go}
use Rattle.epl_syntax.specs.Meaning.{Rest, begin}
use Rattle.journal.specs.World.{Eject, Site, on_eject}
use Rattle.journal.specs.Ejects.{on_active}
use Rattle.journal.specs.Processes.{class_of, invocation, AllowsStart, with_start, start}
use Rattle.journal.specs.Step.{IsActiveAnd}
use Rattle.active_part.specs.Body.{Body, active_of, calls_of}
use Rattle.ejects.specs.Parts.{Parts, known, body_at, HasClass, Stands}
use Rattle.active_part.specs.Bodies.{started_body}
use Rattle.ejects.specs.View.{with_body}
use Rattle.ejects.proofs.Delivered.{stays-body, IsActiveAs, active-as, known_body, same-known, class-now, found-active}

-- 1. The invocation that starts

pub same-class : (t : Traffic) (kind : Edentype) (i : Invocation) → HasClass t kind i → invocation kind t i.call ≡ i
same-class t kind i h = go (call_at t i.call) refl h
  where
    go : (o : Option Call) → call_at t i.call ≡ o → IsSomeAnd o (λ c. i.class ≡ class_of kind c) → invocation kind t i.call ≡ i
    go None at h = absurd h
    go (Some c) at h = rw at (λ j. record { call = i.call; class = sym h j })

pub same-classes : (t : Traffic) (kind : Edentype) (is : List Invocation) → AllByRecursion (HasClass t kind) is
    → map (invocation kind t) (calls_of is) ≡ is
same-classes t kind [] h = refl
same-classes t kind (i ∷ is) h = λ j. same-class t kind i h.0 j ∷ same-classes t kind is h.1 j

find-all : (p : Invocation → Bool) (P : Invocation → Type 0) (is : List Invocation) (i : Invocation) → AllByRecursion P is
    → find p is ≡ Some i → P i
find-all p P [] i h is = absurd (cc is)
find-all p P (x ∷ xs) i h is = go (p x) refl is (λ e. find-all p P xs i h.1 e)
  where
    go : (b : Bool) → p x ≡ b → find p (x ∷ xs) ≡ Some i → (find p xs ≡ Some i → P i) → P i
    go true at is later = let same : x ≡ i = (let e : Some x ≡ Some i = rw at at is in cc) in subst P same h.0
    go false at is later = later (rw at at is)

pub startable-all : (crew : Crew) (P : Invocation → Type 0) (is : List Invocation) (i : Invocation) → AllByRecursion P is
    → startable crew is ≡ Some i → P i
startable-all crew P is i h at = go (nat_lt (length crew.processes) 16) at
  where
    go : (b : Bool) → cond b (find (may_start crew) is) None ≡ Some i → P i
    go true at = find-all (may_start crew) P is i h at
    go false at = absurd (cc at)

-- 2. The queue without it

calls-left : (k : ℕ) (is : List Invocation) → filter (λ j. not (j == k)) (calls_of is) ≡ calls_of (without_call k is)
calls-left k [] = refl
calls-left k (i ∷ is) = go (not (i.call == k)) refl (calls-left k is)
  where
    go : (b : Bool) → not (i.call == k) ≡ b → filter (λ j. not (j == k)) (calls_of is) ≡ calls_of (without_call k is)
        → filter (λ j. not (j == k)) (calls_of (i ∷ is)) ≡ calls_of (without_call k (i ∷ is))
    go true at h = rw at (ap (λ l. i.call ∷ l) h)
    go false at h = rw at h

classes-left : (P : Invocation → Type 0) (k : ℕ) (is : List Invocation) → AllByRecursion P is → AllByRecursion P (without_call k is)
classes-left P k [] h = tt
classes-left P k (i ∷ is) h = go (not (i.call == k)) refl (classes-left P k is h.1)
  where
    go : (b : Bool) → not (i.call == k) ≡ b → AllByRecursion P (without_call k is) → AllByRecursion P (without_call k (i ∷ is))
    go true at later = rw at (h.0, later)
    go false at later = rw at later

-- 3. The start

module _ (n : Parts) (s : Site) (u : Uid) (b : Body) (i : Invocation) (c : Call) (h : Stands n s) (at : body_at n u ≡ Some b)
    (chosen : startable b.crew.crew b.crew.queued ≡ Some i)
    (found : call_at s.traffic i.call ≡ Some c) where
  class-of-it : invocation b.kind s.traffic i.call ≡ i
  class-of-it = same-class s.traffic b.kind i
      (startable-all b.crew.crew (HasClass s.traffic b.kind) b.crew.queued i (class-now n s u b h at) chosen)

  abbrev started_eject : Call → Eject → Eject
  started_eject d e = record (on_active (with_start s.traffic i.call (least_free b.crew.crew) d) e)
      { queued = filter (λ j. not (j == i.call)) e.queued }

  pub start-stands : Stands (with_body u (started_body (least_free b.crew.crew) (begin b.kind c.operation c.args) i b) n)
      (start u i.call (least_free b.crew.crew) s)
  start-stands = subst (Stands (with_body u (started_body p rest i b) n))
      (sym (ap (λ o. with_item o (λ d. on_eject u (started_eject d) s) s) found))
      (stays-body n s u b (started_body p rest i b) (started_eject c) h at alike
      (classes-left (HasClass s.traffic b.kind) i.call b.crew.queued (class-now n s u b h at)))
    where
      p : ℕ
      p = least_free b.crew.crew

      rest : Rest
      rest = begin b.kind c.operation c.args

      alike : (e : Eject) → IsActiveAs b e → known (Some (started_eject c e)) ≡ known_body (started_body p rest i b)
      alike e was = rw (was.active, was.queued) (same-known (ap (λ (x : Invocation). Some (record (active_of b) {
        tasks = put_at nat_cmp p (record { rest = rest; answer = Go }) b.tasks;
        crew = started x b.crew.crew;
      })) class-of-it) (calls-left i.call b.crew.queued) refl)

  pub start-allowed : IsActiveAnd s u (λ e it. AllowsStart s.traffic i.call (least_free b.crew.crew) e it)
  start-allowed =
      let f = found-active n s u b h at in
      let was = active-as n u b f.eject (ap known (sym f.is) ∙ h.ejects u) at in
      rw (f.is, was.active) (record {
        earliest =
            rw (was.queued, same-classes s.traffic b.kind b.crew.queued (class-now n s u b h at), class-of-it) chosen;
        number = refl;
      })
