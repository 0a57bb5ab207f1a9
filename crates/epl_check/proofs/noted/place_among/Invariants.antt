use Rattle.std.proofs.Common.{◌≡◌, map, drop}
use Rattle.std.specs.List.{position_from}
use Rattle.eden_model.specs.Map.{same_text}
use Rattle.epl_syntax.specs.Bindings.{place_of}
use Rattle.epl_check.proofs.noted.place_among.Given as goal

abbrev pub invariant-loop-i : goal.invariant-loop-i
invariant-loop-i g l =
    position_from (λ n. same_text n.text l.text) l.i (map g.T.Named.named (drop l.i l.items))
    ≡ place_of (map g.T.Named.named l.items) l.text
