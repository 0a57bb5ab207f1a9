-- What an argument of a script's call is: a value, what a name stands for, or a list.
use Rattle.std.specs.Prelude.{ℕ, suc, ◌+◌, List, [], ◌∷◌}
use Rattle.eden_value.specs.Datum.{Datum}

mutual
  -- an argument of a script's call
  pub data Argument : Type 0 where
    -- a value that is written out
    plain : Datum → Argument
    -- what a name of the script stands for: alone, which is 0, or its k-th result, from 1 on
    named : List ℕ → ℕ → Argument
    -- a list of arguments
    several : Arguments → Argument

  -- the items of a list
  pub data Arguments : Type 0 where
    -- there is none
    no_arguments : Arguments
    -- the first item, and those behind it
    argument_and : Argument → Arguments → Arguments

-- the arguments in a list, as a list
abbrev pub arguments_in : Arguments → List Argument
arguments_in no_arguments = []
arguments_in (argument_and g gs) = g ∷ arguments_in gs

-- arguments in a row, as the items of a list
abbrev pub arguments_of : List Argument → Arguments
arguments_of [] = no_arguments
arguments_of (g ∷ gs) = argument_and g (arguments_of gs)

abbrev mutual
  -- how many arguments an argument is made of: itself and, of a list, all those in it
  pub weight : Argument → ℕ
  weight (plain d) = 1
  weight (named name k) = 1
  weight (several gs) = suc (weights gs)

  -- and the items of a list together
  pub weights : Arguments → ℕ
  weights no_arguments = 0
  weights (argument_and g gs) = weight g + weights gs

-- and arguments in a row together
abbrev pub weight_of : List Argument → ℕ
weight_of [] = 0
weight_of (g ∷ gs) = weight g + weight_of gs
