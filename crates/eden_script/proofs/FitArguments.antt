-- The arguments of a script are fit, and no capability is written in them.
use Rattle.std.proofs.Common.{◌≡◌, ◌∙◌, ap, refl, subst, ℕ, zero, suc, ◌≤◌, ℤ, pos, negsuc, List, [], ◌∷◌, ◌++◌, map, length, Some, None}
use Rattle.std.proofs.Common.{arith}
use Rattle.std.specs.Prelude.{FitsSigned}
use Rattle.std.specs.Int.{w64}
use Rattle.capability.specs.declared.Cap.{Cap}
use Rattle.eden_value.specs.Datum.{Datum, number, truth, text, cap, list}
use Rattle.journal.specs.Argument.{Argument, Arguments, plain, named, several, no_arguments, argument_and, arguments_in, arguments_of}
use Rattle.journal.specs.Laws.{written_in, written_in_each}
use Rattle.journal.specs.Fit.{IsPlain, IsArgument, AreArguments, names_in, names_in_each}
use Rattle.script_words.specs.Tree.{Row, and_more, size, depth, row_depth, row_of}
use Rattle.script_words.specs.Grammar.{Plain, Value, Values, Behind}
use Rattle.script_words.specs.Causes as causes
use Rattle.script_words.specs.Causes.{ResultFits, IntFits, PlainFits, WrittenFits, RowFits}
use Rattle.script_words.specs.Meaning.{result_of, written_arg, row_from}

-- ## Values that are written out

in_64_bits : (n : ℤ) → IntFits n → FitsSigned w64 n
in_64_bits (pos n) h = record { sfits = h }
in_64_bits (negsuc n) h = record { sfits = h }

plain_fits : (d : Datum) (bytes : List ℕ) → Plain d bytes → PlainFits d → IsPlain d
plain_fits (number n) bytes h f = record { in_range = in_64_bits n f; no_list = tt; no_capability = refl }
plain_fits (truth b) bytes h f = record { in_range = tt; no_list = tt; no_capability = refl }
plain_fits (text t) bytes h f = record { in_range = tt; no_list = h.1; no_capability = refl }
plain_fits (cap None) bytes h f = record { in_range = tt; no_list = tt; no_capability = refl }
plain_fits (cap (Some c)) bytes h f = absurd h
plain_fits (list ds) bytes h f = absurd h

pub result_fits : (k : ℕ) → ResultFits (result_of k) → k ≤ 8
result_fits zero f = omega arith
result_fits (suc k) f = f.1

-- ## Arguments

sizes : (gs : Arguments) → size (row_from gs) ≡ length (arguments_in gs)
sizes no_arguments = refl
sizes (argument_and g gs) = ap suc (sizes gs)

mutual
  argument_fits : (deep : ℕ) (g : Argument) (bytes : List ℕ) → Value (written_arg g) bytes → WrittenFits (written_arg g)
      → depth (written_arg g) ≤ deep → IsArgument deep g
  argument_fits deep (plain d) bytes h f shallow = plain_fits d bytes h f
  argument_fits deep (named name k) bytes h f shallow = result_fits k f
  argument_fits zero (several gs) bytes h f shallow = absurd (omega (arith, shallow))
  argument_fits (suc deep) (several gs) bytes h f shallow =
      (omega (arith, h.1, sizes gs), row_fits deep gs h.0.3.0 h.0.3.2 f (omega (arith, shallow)))

  row_fits : (deep : ℕ) (gs : Arguments) (bytes : List ℕ) → Values (row_from gs) bytes → RowFits (row_from gs)
      → row_depth (row_from gs) ≤ deep
      → AreArguments deep gs
  row_fits deep no_arguments bytes h f shallow = tt
  row_fits deep (argument_and g gs) bytes h f shallow =
      (argument_fits deep g h.0 h.2 f.0 (omega (arith, shallow)), behind_fits deep gs h.1 h.3 f.1 (omega (arith, shallow)))

  behind_fits : (deep : ℕ) (gs : Arguments) (bytes : List ℕ) → Behind (row_from gs) bytes → RowFits (row_from gs)
      → row_depth (row_from gs) ≤ deep → AreArguments deep gs
  behind_fits deep no_arguments bytes h f shallow = tt
  behind_fits deep (argument_and g gs) bytes h f shallow =
      (argument_fits deep g h.3.0 h.3.2 f.0 (omega (arith, shallow)), behind_fits deep gs h.3.1 h.3.3 f.1 (omega (arith, shallow)))

pub same_row : (gs : List Argument) → row_of (map written_arg gs) ≡ row_from (arguments_of gs)
same_row [] = refl
same_row (g ∷ gs) = ap (λ (r : Row). and_more (written_arg g) r) (same_row gs)

pub arguments_fit : (gs : List Argument) (bytes : List ℕ) → Values (row_of (map written_arg gs)) bytes
    → RowFits (row_of (map written_arg gs))
    → row_depth (row_of (map written_arg gs)) ≤ 4 → AreArguments 4 (arguments_of gs)
arguments_fit gs bytes h f shallow =
    let e = same_row gs in
    row_fits 4 (arguments_of gs) bytes (subst (λ (r : Row). Values r bytes) e h) (subst RowFits e f)
    (subst (λ (r : Row). row_depth r ≤ 4) e shallow)

-- ## The names in arguments

mutual
  same_names_in : (g : Argument) → causes.names_in (written_arg g) ≡ names_in g
  same_names_in (plain d) = refl
  same_names_in (named name k) = refl
  same_names_in (several gs) = same_names_of gs

  same_names_of : (gs : Arguments) → causes.names_of (row_from gs) ≡ names_in_each gs
  same_names_of no_arguments = refl
  same_names_of (argument_and g gs) =
      ap (λ (l : List (List ℕ)). l ++ causes.names_of (row_from gs)) (same_names_in g)
      ∙ ap (λ (l : List (List ℕ)). names_in g ++ l) (same_names_of gs)

pub names_of_arguments : (gs : List Argument) → causes.names_of (row_of (map written_arg gs)) ≡ names_in_each (arguments_of gs)
names_of_arguments gs = ap causes.names_of (same_row gs) ∙ same_names_of (arguments_of gs)

-- ## No capability is written

mutual
  bare_argument : (deep : ℕ) (g : Argument) → IsArgument deep g → written_in g ≡ []
  bare_argument deep (plain d) h = h.no_capability
  bare_argument deep (named name k) h = refl
  bare_argument zero (several gs) h = absurd h
  bare_argument (suc deep) (several gs) h = bare_arguments deep gs h.1

  pub bare_arguments : (deep : ℕ) (gs : Arguments) → AreArguments deep gs → written_in_each gs ≡ []
  bare_arguments deep no_arguments h = refl
  bare_arguments deep (argument_and g gs) h =
      ap (λ (l : List Cap). l ++ written_in_each gs) (bare_argument deep g h.0) ∙ bare_arguments deep gs h.1
