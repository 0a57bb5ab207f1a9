-- Laws of the definitions of specs/Shape.
use Rattle.std.specs.Prelude.{◌≡◌, ℕ, zero, suc, refl}
use Rattle.std.specs.Coded.{Coded, code_by, coded×, coded_ℕ}
use Rattle.std.proofs.Common.{ap}
use Rattle.eden_value.specs.Shape.{Shape, caps, ints, lists, texts, truths}

-- ---- a kind as two numbers, for types that hold one: how many lists, and of what
abbrev pub shape_numbers : Shape → ℕ × ℕ
shape_numbers ints = (0, 0)
shape_numbers truths = (0, 1)
shape_numbers texts = (0, 2)
shape_numbers caps = (0, 3)
shape_numbers (lists s) = (suc (shape_numbers s).0, (shape_numbers s).1)

-- the kind that is no list, by its number
abbrev pub plain_shape : ℕ → Shape
plain_shape zero = ints
plain_shape (suc zero) = truths
plain_shape (suc (suc zero)) = texts
plain_shape (suc (suc (suc n))) = caps

-- so many lists round the kind of a number
abbrev pub shape_from : ℕ → ℕ → Shape
shape_from zero of_what = plain_shape of_what
shape_from (suc levels) of_what = lists (shape_from levels of_what)

-- the two numbers give the kind again
pub shape_again : (s : Shape) → shape_from (shape_numbers s).0 (shape_numbers s).1 ≡ s
shape_again ints = refl
shape_again truths = refl
shape_again texts = refl
shape_again caps = refl
shape_again (lists s) = ap lists (shape_again s)

-- kinds are told apart by their two numbers
abbrev pub coded_shape : Coded Shape
coded_shape = code_by (ℕ × ℕ) (coded× coded_ℕ coded_ℕ) shape_numbers (λ p. shape_from p.0 p.1) shape_again
