use Rattle.std.proofs.Common.{◌≤◌, length, map, ap, ◌∙◌, subst}
use Rattle.std.specs.Map.{keys_of}
use Rattle.std.proofs.lemmas.List.{take_all}
use Rattle.eden_value.specs.Datum.{text}
use Rattle.directory_eject.proofs.Turns.{names_of_keys}
use Rattle.directory_eject.proofs.directory.names.Goals as goal

pub returns : goal.returns
returns c =
    let es = c.args.entries.now.entries in
    let i = c.loop-name.name-index in
    let end = subst (λ l. length l ≤ i) (c.as_slice-name-items.ensures ∙ c.keys.ensures.rest) c.loop-name-test.false in
    c.loop-name.invariant ∙ ap (λ ks. map (λ k. text k.items) ks) (take_all i (keys_of es) end) ∙ names_of_keys es
