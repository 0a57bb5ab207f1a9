-- Words of digits in the code.
use Rattle.std.specs.Prelude.{◌≡◌, ℕ, true, List, map}
use Rattle.std.specs.Borrow.{Bor}
use Rattle.std.specs.List.{list_all}
use Rattle.script_words.specs.Form.{is_digit, number_of}

-- the bytes of borrowed words
abbrev pub nows : List (Bor (List ℕ)) → List (List ℕ)
nows ws = map (λ w. w.now) ws

-- each word is of digits
abbrev pub AllDigits : List (Bor (List ℕ)) → Type 0
AllDigits ws = list_all (λ w. list_all is_digit w.now) ws ≡ true

-- the numbers of some words
abbrev pub numbers_of : List (Bor (List ℕ)) → List ℕ
numbers_of ws = map number_of (nows ws)
