-- How bodies begin.
use Rattle.std.specs.Prelude.{◌≡◌, List, [], ◌∷◌, map}
use Rattle.eden_value.specs.Datum.{Datum}
use Rattle.epl_syntax.specs.Tree.{Local}
use Rattle.epl_syntax.specs.Memory.{value_of_constant}
use Rattle.epl_values.specs.declared.variables.Owner.{Owner}
use Rattle.epl_run.specs.declared.rest.Branch.TheVariants.{Whole}
use Rattle.epl_run.specs.declared.rest.Rest.{Rest}

-- the values with which variables of a body begin
abbrev pub local_starts : List Local → List Datum
local_starts vs = map (λ v. value_of_constant v.start.value) vs

-- nothing of a body is done
pub record IsWhole (o : Owner) (args values : List Datum) (r : Rest) : Type 0 where
  pub owner : r.variables.owner ≡ o
  pub params : r.variables.params ≡ args
  pub locals : r.variables.locals ≡ values
  pub frames : r.frames.items ≡ record { entered = 0; branch = Whole; next = 0 } ∷ []
