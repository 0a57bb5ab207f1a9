-- Values of given kinds, one each.
use Rattle.std.specs.Prelude.{Bool, true, false, ◌&&◌, List, [], ◌∷◌}
use Rattle.eden_value.specs.Datum.{Datum}
use Rattle.eden_value.specs.Shape.{Shape, has_shape}

-- whether there are as many values as kinds, and each value is of its kind
abbrev pub have_shapes : List Datum → List Shape → Bool
have_shapes [] [] = true
have_shapes (d ∷ ds) (s ∷ shapes) = has_shape d s && have_shapes ds shapes
have_shapes _ _ = false
