-- The types of the worked histories break no rule of the language, so a script may declare each of them.
use Rattle.std.proofs.Common.{◌≡◌, List, [], ◌∷◌, refl}
use Rattle.std.specs.List.{flat_map}
use Rattle.epl_syntax.specs.Tree.{TypeTree}
use Rattle.epl_syntax.specs.Rules.Scopes.{variable_named, monitor_named, condition_named, is_type}
use Rattle.epl_syntax.specs.Rules.InItems.{broken_program}
use Rattle.journal.proofs.TypeTexts.{gate, peer, half, spin, once, tally, later_tally, from_first, doubled, by_zero, box}

abbrev types : List TypeTree
types = gate ∷ peer ∷ half ∷ spin ∷ once ∷ box ∷ tally
    ∷ later_tally (from_first doubled ∷ []) ∷ later_tally (from_first by_zero ∷ []) ∷ later_tally [] ∷ []

-- each of them, with no type before it
keep_the_rules : flat_map (broken_program []) types ≡ []
unfolding broken_program variable_named monitor_named condition_named is_type
keep_the_rules = refl
