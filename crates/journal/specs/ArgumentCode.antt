-- How arguments are told apart: each is written as a list of marks, from which it is read again.
use Rattle.std.specs.Prelude.{◌≡◌, ℕ, Bool, true, false, List, [], ◌∷◌, ◌⊎◌, refl}
use Rattle.std.specs.Coded.{Coded, code_by, coded×, coded⊎, coded_ℕ, coded_bool, coded_list}
use Rattle.std.proofs.Common.{ap, ◌∙◌, inl, inr}
use Rattle.eden_value.specs.Datum.{Datum}
use Rattle.eden_value.specs.Code.{coded_datum}
use Rattle.journal.specs.Argument.{Argument, Arguments, plain, named, several, no_arguments, argument_and, arguments_in, arguments_of}

-- an argument that is no list, the begin of a list (true) or its end
abbrev pub Mark : Type 0
Mark = (Datum ⊎ (List ℕ × ℕ)) ⊎ Bool

-- marks are told apart
abbrev pub coded_mark : Coded Mark
coded_mark = coded⊎ (coded⊎ coded_datum (coded× (coded_list coded_ℕ) coded_ℕ)) coded_bool

-- the marks of an argument, before those of what follows it
abbrev mutual
  -- an argument that is no list is one mark; a list is the mark of its begin, and then those of its items and its end
  pub marks : Argument → List Mark → List Mark
  marks (plain d) rest = inl (inl d) ∷ rest
  marks (named name k) rest = inl (inr (name, k)) ∷ rest
  marks (several gs) rest = inr true ∷ list_marks gs rest

  -- the marks of a list's items and of its end, before those of what follows the list
  pub list_marks : Arguments → List Mark → List Mark
  list_marks no_arguments rest = inr false ∷ rest
  list_marks (argument_and g gs) rest = marks g (list_marks gs rest)

-- the lists that are open, the innermost first, gain an argument
abbrev pub gain : Argument → List Arguments → List Arguments
gain g [] = []
gain g (gs ∷ outer) = argument_and g gs ∷ outer

-- the innermost list is whole, and the one round it gains it
abbrev pub close : List Arguments → List Arguments
close [] = []
close (gs ∷ outer) = gain (several gs) outer

-- what one more mark makes of the lists that are open: read backwards, an end opens a list, and a begin closes it
abbrev pub read_mark : Mark → List Arguments → List Arguments
read_mark (inl (inl d)) open_lists = gain (plain d) open_lists
read_mark (inl (inr p)) open_lists = gain (named p.0 p.1) open_lists
read_mark (inr true) open_lists = close open_lists
read_mark (inr false) open_lists = no_arguments ∷ open_lists

-- the lists that are open behind marks, which are read from the last to the first
abbrev pub read_marks : List Mark → List Arguments
read_marks [] = []
read_marks (m ∷ ms) = read_mark m (read_marks ms)

mutual
  -- the marks of an argument put it in front of the items of the innermost open list
  marks_read : (g : Argument) (rest : List Mark) (gs : Arguments) (outer : List Arguments) → read_marks rest ≡ gs ∷ outer
      → read_marks (marks g rest) ≡ argument_and g gs ∷ outer
  marks_read (plain d) rest gs outer e = ap (gain (plain d)) e
  marks_read (named name k) rest gs outer e = ap (gain (named name k)) e
  marks_read (several hs) rest gs outer e = ap close (list_marks_read hs rest) ∙ ap (gain (several hs)) e

  -- and those of a list's items and its end open a list of these items
  list_marks_read : (gs : Arguments) (rest : List Mark) → read_marks (list_marks gs rest) ≡ gs ∷ read_marks rest
  list_marks_read no_arguments rest = refl
  list_marks_read (argument_and g gs) rest = marks_read g (list_marks gs rest) gs (read_marks rest) (list_marks_read gs rest)

-- the innermost open list, empty where none is open
abbrev pub first_list : List Arguments → Arguments
first_list [] = no_arguments
first_list (gs ∷ outer) = gs

-- arguments in a row that are made a list and taken out of it again are the same
givens_again : (gs : List Argument) → arguments_in (arguments_of gs) ≡ gs
givens_again [] = refl
givens_again (g ∷ gs) = ap (λ hs. g ∷ hs) (givens_again gs)

-- the marks of arguments in a row give them again
pub read_again : (gs : List Argument) → arguments_in (first_list (read_marks (list_marks (arguments_of gs) []))) ≡ gs
read_again gs = ap (λ l. arguments_in (first_list l)) (list_marks_read (arguments_of gs) []) ∙ givens_again gs

-- arguments in a row are told apart by their marks
abbrev pub coded_arguments : Coded (List Argument)
coded_arguments =
    code_by (List Mark) (coded_list coded_mark) (λ gs. list_marks (arguments_of gs) [])
    (λ ms. arguments_in (first_list (read_marks ms))) read_again

-- the first item of a list, the empty name alone where there is none
abbrev pub first_given : Arguments → Argument
first_given no_arguments = named [] 0
first_given (argument_and g gs) = g

-- the marks of one argument give it again
pub given_again : (g : Argument) → first_given (first_list (read_marks (marks g (inr false ∷ [])))) ≡ g
given_again g = ap (λ l. first_given (first_list l)) (marks_read g (inr false ∷ []) no_arguments [] refl)

-- one argument is told from another by its marks
abbrev pub coded_argument : Coded Argument
coded_argument =
    code_by (List Mark) (coded_list coded_mark) (λ g. marks g (inr false ∷ [])) (λ ms. first_given (first_list (read_marks ms))) given_again
