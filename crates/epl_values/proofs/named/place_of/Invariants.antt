use Rattle.std.proofs.Common.{◌≡◌, map, drop}
use Rattle.std.specs.List.{position_from}
use Rattle.eden_model.specs.Map.{same_text}
use Rattle.epl_syntax.specs.Bindings as bindings
use Rattle.epl_values.proofs.named.place_of.Given as goal

abbrev pub invariant-loop-i : goal.invariant-loop-i
invariant-loop-i g l =
    position_from (λ n. same_text n.text l.text) l.i (map g.T.Named.named (drop l.i l.items))
    ≡ bindings.place_of (map g.T.Named.named l.items) l.text
