use Rattle.std.proofs.Common.{◌≤◌, length, map, ap, ◌∙◌, subst}
use Rattle.std.specs.Map.{values_of}
use Rattle.std.proofs.lemmas.List.{take_all}
use Rattle.eden_value.specs.Datum.{cap}
use Rattle.directory_eject.proofs.Turns.{held_of_values}
use Rattle.directory_eject.proofs.directory.held.Goals as goal

pub returns : goal.returns
returns c =
    let es = c.args.entries.now.entries in
    let i = c.loop-cap.cap-index in
    let end = subst (λ l. length l ≤ i) (c.as_slice-cap-items.ensures ∙ c.values.ensures.rest) c.loop-cap-test.false in
    c.loop-cap.invariant ∙ ap (λ vs. map cap vs) (take_all i (values_of es) end) ∙ held_of_values es
