-- Kinds as plain data, and which values are of them.
use Rattle.std.specs.Prelude.{Bool, true, false, ◌&&◌, List, [], ◌∷◌}
use Rattle.eden_value.specs.Datum.{Datum, Data, number, truth, text, cap, list, no_data, data_and}
use Rattle.eden_value.specs.declared.kind.Kind.{Kind, Int, Bool as Truth, Text, Cap, List' as Listed}

-- a kind, without where its parts lie in memory
pub data Shape : Type 0 where
  ints truths texts caps : Shape
  lists : Shape → Shape

-- the kind that one of the code stands for
abbrev pub shape : Kind → Shape
shape Int = ints
shape Truth = truths
shape Text = texts
shape Cap = caps
shape (Listed p k) = lists (shape k)

abbrev mutual
  -- whether a value is of a kind
  pub has_shape : Datum → Shape → Bool
  has_shape (number n) ints = true
  has_shape (truth b) truths = true
  has_shape (text t) texts = true
  has_shape (cap c) caps = true
  has_shape (list ds) (lists s) = data_shape ds s
  has_shape _ _ = false

  -- whether each item of a list is of a kind
  pub data_shape : Data → Shape → Bool
  data_shape no_data s = true
  data_shape (data_and d ds) s = has_shape d s && data_shape ds s

-- whether each of values in a row is of a kind
abbrev pub have_shape : List Datum → Shape → Bool
have_shape [] s = true
have_shape (d ∷ ds) s = has_shape d s && have_shape ds s
