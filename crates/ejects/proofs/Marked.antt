-- What an Eject may do, by its part.
use Rattle.std.proofs.Common.{◌≡◌, ℕ, nat_lt, Bool, true, false, List, [], ◌∷◌, Option, None, Some, refl, sym, ◌∙◌, ap, arith}
use Rattle.std.specs.Prelude.{is_some}
use Rattle.std.proofs.lemmas.Bool.Decides.{nat_tests}
use Rattle.std.specs.Option.{option_map}
use Rattle.std.specs.List.{list_any}
use Rattle.coordinator.specs.Ready.{AscendPast, next_ready}
use Rattle.coordinator.specs.Ready.{is_ready as is_idle}
use Rattle.eden_model.specs.Crew.{Process, Invocation, Waiting, nothing, outside, entry, condition, startable}
use Rattle.journal.specs.Enabled.{is_ready}
use Rattle.active_part.specs.Body.{Body}
use Rattle.ejects.specs.Marks.{may_start, may_run}

pub some-mapped : {X Y : Type 0} (f : X → Y) (o : Option X) → is_some (option_map f o) ≡ is_some o
some-mapped f None = refl
some-mapped f (Some x) = refl

pub same-ready : (w : Waiting) → is_idle w ≡ is_ready w
same-ready nothing = refl
same-ready outside = refl
same-ready (entry m) = refl
same-ready (condition c) = refl

any-past : (k : ℕ) (ps : List (ℕ × Process)) → AscendPast k ps → is_some (next_ready 0 ps) ≡ list_any (λ q. is_ready q.1.waits) ps
any-past k [] h = refl
any-past k (e ∷ es) h = go (is_ready e.1.waits) refl (any-past e.0 es h.2)
  where
    past : nat_lt 0 e.0 ≡ true
    past = grind (arith, nat_tests, h.0)

    go : (a : Bool) → is_ready e.1.waits ≡ a → is_some (next_ready 0 es) ≡ list_any (λ q. is_ready q.1.waits) es
        → is_some (next_ready 0 (e ∷ es)) ≡ list_any (λ q. is_ready q.1.waits) (e ∷ es)
    go true a ih = rw (past, same-ready e.1.waits, a) refl
    go false a ih = rw (past, same-ready e.1.waits, a) ih

-- a process is ready where the first past 0 is
pub may-run-by : (o : Option Body) (b : Body) → o ≡ Some b → AscendPast 0 b.crew.crew.processes
    → is_some (next_ready 0 b.crew.crew.processes) ≡ may_run o
may-run-by o b at h = any-past 0 b.crew.crew.processes h ∙ ap may_run (sym at)

-- an invocation may start where a call does
pub may-start-by : (o : Option Body) (b : Body) → o ≡ Some b
    → is_some (option_map (λ (i : Invocation). i.call) (startable b.crew.crew b.crew.queued)) ≡ may_start o
may-start-by o b at = some-mapped (λ (i : Invocation). i.call) (startable b.crew.crew b.crew.queued) ∙ ap may_start (sym at)
