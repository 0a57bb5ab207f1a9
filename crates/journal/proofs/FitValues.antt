-- What a fit command hands to a world is within the limits of values.
use Rattle.std.proofs.Common.{◌≡◌, ap, refl, subst, ℕ, zero, suc, ◌+◌, ◌≤◌, ◌==◌, nat_le, Bool, true, false, cond, List, [], ◌∷◌, length}
use Rattle.std.proofs.Common.{Option, None, Some, arith}
use Rattle.std.specs.List.{All, list_all}
use Rattle.std.proofs.lemmas.Bool.{leb-true, and_parts, and_from}
use Rattle.std.proofs.lemmas.List.Elements.{All-nil, All-cons, All-head, All-tail, All-weaker}
use Rattle.eden_value.specs.Datum.{Datum, Data, list, no_data, data_and, items_of}
use Rattle.eden_value.specs.Limits.{is_printable, IsText, depth, depths, IsValue, DataAreValues, AreValues}
use Rattle.eden_value.specs.Range.{InRange, DataInRange, AllInRange}
use Rattle.eden_value.proofs.Laws.{depth-value, value_at_depth, data_at_depth, values_of_list, range_of_list}
use Rattle.eden_value.specs.declared.value.TheConstants.{DEPTH_LIMIT, LIST_LIMIT}
use Rattle.eden_model.specs.Map.{with_item}
use Rattle.journal.specs.Argument.{Argument, Arguments, plain, named, several, no_arguments, argument_and, arguments_in, arguments_of}
use Rattle.journal.specs.World.{World}
use Rattle.journal.specs.References.{value_of, values_of}
use Rattle.journal.specs.Run.{joined_to, components}
use Rattle.journal.specs.Fit.{IsArgument, AreArguments, NamesAreValues, ArgumentsAreValues, ComponentsAreTexts, HeldAreEjects}

-- 1. Arguments

-- a value with at most so many lists in one another besides those that names stand for
abbrev Fine : ℕ → Datum → Type 0
Fine deep d = IsValue (deep + 4) d × InRange d

-- as many as there are arguments
abbrev FineData : ℕ → Arguments → Data → Type 0
FineData deep gs ds = DataAreValues (deep + 4) ds × DataInRange ds × (length (items_of ds) ≡ length (arguments_in gs))

listed : (deep : ℕ) (gs : Arguments) (o : Option Data) (d : Datum) → length (arguments_in gs) ≤ LIST_LIMIT
    → with_item o (λ ds. Some (list ds)) None ≡ Some d → ((ds : Data) → o ≡ Some ds → FineData deep gs ds) → Fine (suc deep) d
listed deep gs None d short is each = absurd (cc is)
listed deep gs (Some ds) d short is each =
    let same : list ds ≡ d = cc is in
    let fine = each ds refl in
    let value : IsValue (suc (deep + 4)) (list ds) = (omega (arith, short, fine.2), fine.0) in
    let levels : suc (deep + 4) ≡ suc deep + 4 = omega arith in
    subst (Fine (suc deep)) same (subst (λ (n : ℕ). IsValue n (list ds)) levels value, fine.1)

joined : (deep : ℕ) (g : Argument) (gs : Arguments) (a : Option Datum) (b : Option Data) (ds : Data)
    → with_item a (λ d. with_item b (λ es. Some (data_and d es)) None) None ≡ Some ds
    → ((d : Datum) → a ≡ Some d → Fine deep d) → ((es : Data) → b ≡ Some es → FineData deep gs es) → FineData deep (argument_and g gs) ds
joined deep g gs None b ds is x y = absurd (cc is)
joined deep g gs (Some d) None ds is x y = absurd (cc is)
joined deep g gs (Some d) (Some es) ds is x y =
    let same : data_and d es ≡ ds = cc is in
    let fine = x d refl in
    let rest = y es refl in
    subst (FineData deep (argument_and g gs)) same ((fine.0, rest.0), (fine.1, rest.1), ap suc rest.2)

mutual
  argument-fine : (w : World) → NamesAreValues w → (deep : ℕ) (g : Argument) (d : Datum) → IsArgument deep g → value_of w g ≡ Some d
      → Fine deep d
  argument-fine w names deep (plain x) d h is =
      let same : x ≡ d = cc is in
      let shallow = depth-value 0 x h.no_list in
      subst (Fine deep) same (value_at_depth 0 (deep + 4) x h.no_list (omega (arith, shallow)), h.in_range)
  argument-fine w names deep (named name k) d h is =
      let fine = names name k d is in
      let shallow : depth d ≤ 4 = depth-value 4 d fine.0 in
      (value_at_depth 4 (deep + 4) d fine.0 (omega (arith, shallow)), fine.1)
  argument-fine w names zero (several gs) d h is = absurd h
  argument-fine w names (suc deep) (several gs) d h is =
      listed deep gs (values_of w gs) d h.0 is (λ ds at. arguments-fine w names deep gs ds h.1 at)

  arguments-fine : (w : World) → NamesAreValues w → (deep : ℕ) (gs : Arguments) (ds : Data) → AreArguments deep gs
      → values_of w gs ≡ Some ds
      → FineData deep gs ds
  arguments-fine w names deep no_arguments ds h is = let same : no_data ≡ ds = cc is in
      subst (FineData deep no_arguments) same (tt, tt, refl)
  arguments-fine w names deep (argument_and g gs) ds h is =
      joined deep g gs (value_of w g) (values_of w gs) ds is (λ d at. argument-fine w names deep g d h.0 at)
      (λ es at. arguments-fine w names deep gs es h.1 at)

pub arguments-are-values : ArgumentsAreValues
arguments-are-values w args ds names h is =
    go (values_of w (arguments_of args)) is (λ es at. arguments-fine w names 4 (arguments_of args) es h at)
  where
    within : (es : Data) (b : Bool) → nat_le (depths es) DEPTH_LIMIT ≡ b → cond b (Some (items_of es)) None ≡ Some ds
        → FineData 4 (arguments_of args) es → AreValues DEPTH_LIMIT ds × AllInRange ds
    within es true shallow e fine =
        let same : items_of es ≡ ds = cc e in
        let deep : depths es ≤ 4 = leb-true (depths es) DEPTH_LIMIT shallow in
        subst (λ (l : List Datum). AreValues DEPTH_LIMIT l × AllInRange l) same
        (values_of_list 4 es (data_at_depth 8 4 es fine.0 deep), range_of_list es fine.1)
    within es false shallow e fine = absurd (cc e)

    go : (o : Option Data) → with_item o (λ es. cond (nat_le (depths es) DEPTH_LIMIT) (Some (items_of es)) None) None ≡ Some ds
        → ((es : Data) → o ≡ Some es → FineData 4 (arguments_of args) es) → AreValues DEPTH_LIMIT ds × AllInRange ds
    go None e each = absurd (cc e)
    go (Some es) e each = within es (nat_le (depths es) DEPTH_LIMIT) refl e (each es refl)

-- 2. Components

-- printable, and at most so long
abbrev Short : ℕ → List ℕ → Type 0
Short most c = (list_all is_printable c ≡ true) × (length c ≤ most)

longer : (n : ℕ) (cs : List (List ℕ)) → All (Short n) cs → All (Short (suc n)) cs
longer n cs h = All-weaker (Short n) (Short (suc n)) (λ c s. (s.0, omega (arith, s.1))) cs h

joined-short : (b n : ℕ) (cs : List (List ℕ)) → is_printable b ≡ true → All (Short n) cs → All (Short (suc n)) (joined_to b cs)
joined-short b n [] p h =
    All-cons (Short (suc n)) (b ∷ []) [] (and_from (is_printable b) true p refl, omega arith) (All-nil (Short (suc n)))
joined-short b n (c ∷ cs) p h =
    let first = All-head (Short n) c cs h in
    All-cons (Short (suc n)) (b ∷ c) cs (and_from (is_printable b) (list_all is_printable c) p first.0, omega (arith, first.1))
    (longer n cs (All-tail (Short n) c cs h))

component-short : (is : Bool) (b n : ℕ) (cs : List (List ℕ)) → is_printable b ≡ true → All (Short n) cs
    → All (Short (suc n)) (cond is ([] ∷ cs) (joined_to b cs))
component-short true b n cs p h = All-cons (Short (suc n)) [] cs (refl, omega arith) (longer n cs h)
component-short false b n cs p h = joined-short b n cs p h

components-short : (path : List ℕ) → list_all is_printable path ≡ true → All (Short (length path)) (components path)
components-short [] h = All-cons (Short 0) [] [] (refl, omega arith) (All-nil (Short 0))
components-short (b ∷ path) h =
    let parts = and_parts (is_printable b) (list_all is_printable path) h in
    component-short (b == 47) b (length path) (components path) parts.0 (components-short path parts.1)

pub components-are-texts : ComponentsAreTexts
components-are-texts path h =
    All-weaker (Short (length path)) IsText (λ c s. record { printable = s.0; short = omega (arith, s.1, h.short) }) (components path)
    (components-short path h.printable)

-- 3. Uids

pub held-are-ejects : HeldAreEjects
held-are-ejects nodes name u few h = record { node_least = h.0.0; node_most = omega (arith, h.0.1, few); epoch = h.1.0; serial = h.2.0 }
