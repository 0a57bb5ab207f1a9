-- Calls keep their operations, and so queued invocations their classes.
use Rattle.std.proofs.Common.{◌≡◌, ℕ, List, [], ◌∷◌, Option, None, Some, refl}
use Rattle.std.specs.Prelude.{IsSomeAnd}
use Rattle.std.specs.List.{AllByRecursion}
use Rattle.eden_model.specs.Crew.{Invocation}
use Rattle.eden_model.specs.Traffic.{Traffic, Call, call_at}
use Rattle.epl_syntax.specs.Edentype.{Edentype}
use Rattle.journal.specs.Processes.{class_of}
use Rattle.active_part.specs.Body.{Body}
use Rattle.ejects.specs.Parts.{HasClass, HasClasses}

pub record Keeps (t later : Traffic) : Type 0 where
  pub at : (k : ℕ) (c : Call) → call_at t k ≡ Some c → IsSomeAnd (call_at later k) (λ d. d.operation ≡ c.operation)

pub class-kept : (t later : Traffic) → Keeps t later → (kind : Edentype) (i : Invocation) → HasClass t kind i → HasClass later kind i
class-kept t later keeps kind i h = go (call_at t i.call) refl h
  where
    on : (c : Call) → i.class ≡ class_of kind c → (o : Option Call) → IsSomeAnd o (λ d. d.operation ≡ c.operation)
        → IsSomeAnd o (λ d. i.class ≡ class_of kind d)
    on c is None h = absurd h
    on c is (Some d) h = rw h is

    go : (o : Option Call) → call_at t i.call ≡ o → IsSomeAnd o (λ c. i.class ≡ class_of kind c) → HasClass later kind i
    go None at h = absurd h
    go (Some c) at h = on c h (call_at later i.call) (keeps.at i.call c at)

pub all-mapped : {X : Type 0} (P Q : X → Type 0) (xs : List X) → ((x : X) → P x → Q x) → AllByRecursion P xs → AllByRecursion Q xs
all-mapped P Q [] f h = tt
all-mapped P Q (x ∷ xs) f h = (f x h.0, all-mapped P Q xs f h.1)

pub classes-kept : (t later : Traffic) → Keeps t later → (o : Option Body) → HasClasses t o → HasClasses later o
classes-kept t later keeps None h = tt
classes-kept t later keeps (Some b) h = all-mapped (HasClass t b.kind) (HasClass later b.kind) b.crew.queued
    (λ i. class-kept t later keeps b.kind i) h
