use Rattle.std.proofs.Common.{map, ◌∙◌, length, refl, arith}
use Rattle.std.proofs.lemmas.Bool.{lt-ltb}
use Rattle.std.proofs.lemmas.List.{length-map}
use Rattle.coordinator.specs.View.{process_of}
use Rattle.coordinator.proofs.Table.{startable-found}
use Rattle.coordinator.proofs.slots.next_to_start.Goals as goal

pub returns-then-slots-lt16-clause-found : goal.returns-then-slots-lt16-clause-found
returns-then-slots-lt16-clause-found c ms cs =
    c.first_to_start.ensures ∙ startable-found c.args.slots.now c.args.limits.now ms cs c.args.queued.now
    ∙ rw (lt-ltb (length (map process_of c.args.slots.now)) 16
    (omega (arith, length-map c.args.slots.now process_of, c.if-slots-lt16.true))) refl
