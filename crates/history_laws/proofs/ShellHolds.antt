-- The capabilities that the names of a script stand for are below those that were granted to the shell, and so is what its calls use.
use Rattle.std.proofs.Common.{◌≡◌, inl, inr, ℕ, zero, suc, nat_le, Bool, true, false, cond, List, [], ◌∷◌, ◌++◌, Option, None, Some}
use Rattle.std.proofs.Common.{slice_get, refl, sym, ◌∙◌, ap, subst}
use Rattle.std.specs.List.{find}
use Rattle.std.specs.Ordering.{nat_cmp}
use Rattle.std.specs.Cmp.{nat_cmp_total, eq_by_cmp_equiv}
use Rattle.std.specs.Cmp.Lexicographic.{nat_list_cmp_total}
use Rattle.std.specs.FinMap.Entries.{find-put}
use Rattle.std.proofs.lemmas.Cmp.{tied_itself}
use Rattle.capability.specs.declared.Cap.{Cap}
use Rattle.capability.specs.declared.Rights.{Rights}
use Rattle.capability.specs.Capability.{restricted}
use Rattle.capability.proofs.Laws.{below_through, restricted_below}
use Rattle.eden_value.specs.Datum.{Datum, Data, number, truth, text, cap, list, no_data, data_and, items_of}
use Rattle.eden_value.specs.Caps.{caps, data_caps, caps_of}
use Rattle.eden_value.specs.Limits.{depths}
use Rattle.eden_value.specs.declared.value.TheConstants.{DEPTH_LIMIT}
use Rattle.eden_value.specs.declared.status.Status.{Status}
use Rattle.eden_model.specs.Map.{with_item, same_text}
use Rattle.eden_model.specs.declared.Asker.TheVariants.{Shell}
use Rattle.eden_model.specs.Traffic.{Traffic, call_at, new_call, with_call}
use Rattle.journal.specs.Argument.{Argument, Arguments, plain, named, several, no_arguments, argument_and, arguments_of}
use Rattle.journal.specs.declared.command.Ref.{Ref}
use Rattle.journal.specs.World.{World, Meaning, capability, results, nothing}
use Rattle.journal.specs.References.{meaning_of, value_of_meaning, value_at_name, present_cap, cap_at, value_of, values_of, args_of}
use Rattle.journal.specs.Granted.{the_shell, IsBelowOne, AllBelow, AllGranted, call_uses, granted}
use Rattle.journal.specs.Run.{Step}
use Rattle.journal.specs.Laws.{written_in, written_in_each}
use Rattle.history_laws.proofs.Runs.{IsNamed}
use Rattle.history_laws.proofs.Held.{below-more, below-both}

-- 1. What a name stands for

abbrev pub meant_caps : Meaning → List Cap
meant_caps (capability c) = c ∷ []
meant_caps (results ds) = caps_of ds
meant_caps nothing = []

abbrev Named : Type 0
Named = List (List ℕ × Meaning)

abbrev pub meaning_in : Named → List ℕ → Option Meaning
meaning_in names name = with_item (find (λ e. same_text e.0 name) names) (λ e. Some e.1) None

-- each name stands for what D has
pub record NamesHold (D : List Cap) (names : Named) : Type 0 where
  pub at : (name : List ℕ) (m : Meaning) → meaning_in names name ≡ Some m → AllBelow (meant_caps m) D

pub names-more : (D more : List Cap) (names : Named) → NamesHold D names → NamesHold (D ++ more) names
names-more D more names h = record { at = λ name m is. below-more (meant_caps m) D more (h.at name m is) }

pub names-with : (D : List Cap) (name : List ℕ) (m : Meaning) (names : Named) → AllBelow (meant_caps m) D → NamesHold D names
    → NamesHold D ((name, m) ∷ names)
names-with D name m names new h = record { at = λ q x is. go q x (same_text name q) is }
  where
    go : (q : List ℕ) (x : Meaning) (b : Bool)
        → with_item (cond b (Some (name, m)) (find (λ e. same_text e.0 q) names)) (λ e. Some e.1) None ≡ Some x → AllBelow (meant_caps x) D
    go q x true e = let same : m ≡ x = cc e in subst (λ y. AllBelow (meant_caps y) D) same new
    go q x false e = h.at q x e

pub same-text : (name : List ℕ) → same_text name name ≡ true
same-text name = (eq_by_cmp_equiv nat_list_cmp_total).refl name

-- 2. Values of names

get-caps : (ds : List Datum) (k : ℕ) (d : Datum) (D : List Cap) → slice_get ds k ≡ Some d → AllBelow (caps_of ds) D → AllBelow (caps d) D
get-caps [] k d D is h = absurd (cc is)
get-caps (x ∷ xs) zero d D is h = let same : x ≡ d = cc is in subst (λ y. AllBelow (caps y) D) same (first-part (caps x) h)
  where
    first-part : (cs : List Cap) → AllBelow (cs ++ caps_of xs) D → AllBelow cs D
    first-part [] h = tt
    first-part (c ∷ cs) h = (h.0, first-part cs h.1)
get-caps (x ∷ xs) (suc k) d D is h = get-caps xs k d D is (second-part (caps x) h)
  where
    second-part : (cs : List Cap) → AllBelow (cs ++ caps_of xs) D → AllBelow (caps_of xs) D
    second-part [] h = h
    second-part (c ∷ cs) h = second-part cs h.1

meaning-value : (m : Meaning) (k : ℕ) (d : Datum) (D : List Cap) → value_of_meaning m k ≡ Some d → AllBelow (meant_caps m) D
    → AllBelow (caps d) D
meaning-value (capability c) zero d D is h = let same : cap (Some c) ≡ d = cc is in subst (λ y. AllBelow (caps y) D) same h
meaning-value (capability c) (suc k) d D is h = absurd (cc is)
meaning-value (results ds) zero d D is h = absurd (cc is)
meaning-value (results ds) (suc k) d D is h = get-caps ds k d D is h
meaning-value nothing zero d D is h = absurd (cc is)
meaning-value nothing (suc k) d D is h = absurd (cc is)

value-held : (w : World) (D : List Cap) → NamesHold D w.names → (name : List ℕ) (k : ℕ) (d : Datum) → value_at_name w name k ≡ Some d
    → AllBelow (caps d) D
value-held w D h name k d is = go (meaning_of w name) refl is
  where
    go : (o : Option Meaning) → meaning_of w name ≡ o → with_item o (λ m. value_of_meaning m k) None ≡ Some d → AllBelow (caps d) D
    go None at e = absurd (cc e)
    go (Some m) at e = meaning-value m k d D e (h.at name m at)

pub named-held : (w : World) (D : List Cap) → NamesHold D w.names → (c : Cap) → IsNamed w c → IsBelowOne c D
named-held w D h c is = go (value_at_name w is.0 is.1) refl is.2
  where
    present : (d : Datum) → present_cap d ≡ Some c → AllBelow (caps d) D → IsBelowOne c D
    present (cap None) e x = absurd (cc e)
    present (cap (Some b)) e x = let same : b ≡ c = cc e in subst (λ y. IsBelowOne y D) same x.0
    present (number n) e x = absurd (cc e)
    present (truth b) e x = absurd (cc e)
    present (text t) e x = absurd (cc e)
    present (list ds) e x = absurd (cc e)

    go : (o : Option Datum) → value_at_name w is.0 is.1 ≡ o → with_item o present_cap None ≡ Some c → IsBelowOne c D
    go None at e = absurd (cc e)
    go (Some d) at e = present d e (value-held w D h is.0 is.1 d at)

pub cap-held : (w : World) (D : List Cap) → NamesHold D w.names → (r : Ref) (c : Cap) → cap_at w r ≡ Some c → IsBelowOne c D
cap-held w D h r c is = named-held w D h c (r.name, r.result, is)

pub restricted-held : (c : Cap) (mask : Rights) (D : List Cap) → IsBelowOne c D → IsBelowOne (restricted c mask) D
restricted-held c mask [] h = absurd h
restricted-held c mask (d ∷ ds) (inl h) = inl (below_through (restricted c mask) c d (restricted_below c mask) h)
restricted-held c mask (d ∷ ds) (inr h) = inr (restricted-held c mask ds h)

-- 3. Arguments

empty-first : (xs ys : List Cap) → xs ++ ys ≡ [] → xs ≡ []
empty-first [] ys e = refl
empty-first (x ∷ xs) ys e = absurd (cc e)

empty-second : (xs ys : List Cap) → xs ++ ys ≡ [] → ys ≡ []
empty-second [] ys e = e
empty-second (x ∷ xs) ys e = absurd (cc e)

none-below : (cs D : List Cap) → cs ≡ [] → AllBelow cs D
none-below cs D e = subst (λ x. AllBelow x D) (sym e) tt

listed : (D : List Cap) (o : Option Data) (d : Datum) → with_item o (λ ds. Some (list ds)) None ≡ Some d
    → ((ds : Data) → o ≡ Some ds → AllBelow (data_caps ds) D) → AllBelow (caps d) D
listed D None d is each = absurd (cc is)
listed D (Some ds) d is each = let same : list ds ≡ d = cc is in subst (λ y. AllBelow (caps y) D) same (each ds refl)

joined : (D : List Cap) (a : Option Datum) (b : Option Data) (ds : Data)
    → with_item a (λ d. with_item b (λ es. Some (data_and d es)) None) None ≡ Some ds
    → ((d : Datum) → a ≡ Some d → AllBelow (caps d) D) → ((es : Data) → b ≡ Some es → AllBelow (data_caps es) D) → AllBelow (data_caps ds) D
joined D None b ds is x y = absurd (cc is)
joined D (Some d) None ds is x y = absurd (cc is)
joined D (Some d) (Some es) ds is x y = let same : data_and d es ≡ ds = cc is in
    subst (λ z. AllBelow (data_caps z) D) same (below-both (caps d) (data_caps es) D (x d refl) (y es refl))

mutual
  given-held : (w : World) (D : List Cap) → NamesHold D w.names → (g : Argument) (d : Datum) → written_in g ≡ [] → value_of w g ≡ Some d
      → AllBelow (caps d) D
  given-held w D h (plain x) d none is = let same : x ≡ d = cc is in subst (λ y. AllBelow (caps y) D) same (none-below (caps x) D none)
  given-held w D h (named name k) d none is = value-held w D h name k d is
  given-held w D h (several gs) d none is = listed D (values_of w gs) d is (λ ds at. givens-held w D h gs ds none at)

  givens-held : (w : World) (D : List Cap) → NamesHold D w.names → (gs : Arguments) (ds : Data) → written_in_each gs ≡ []
      → values_of w gs ≡ Some ds → AllBelow (data_caps ds) D
  givens-held w D h no_arguments ds none is = let same : no_data ≡ ds = cc is in subst (λ y. AllBelow (data_caps y) D) same tt
  givens-held w D h (argument_and g gs) ds none is = joined D (value_of w g) (values_of w gs) ds is
      (λ d at. given-held w D h g d (empty-first (written_in g) (written_in_each gs) none) at)
      (λ es at. givens-held w D h gs es (empty-second (written_in g) (written_in_each gs) none) at)

items-caps : (ds : Data) → caps_of (items_of ds) ≡ data_caps ds
items-caps no_data = refl
items-caps (data_and d ds) = ap (λ cs. caps d ++ cs) (items-caps ds)

pub args-held : (w : World) (D : List Cap) → NamesHold D w.names → (gs : List Argument) (ds : List Datum)
    → written_in_each (arguments_of gs) ≡ [] → args_of w gs ≡ Some ds → AllBelow (caps_of ds) D
args-held w D h gs ds none is = go (values_of w (arguments_of gs)) is (λ es at. givens-held w D h (arguments_of gs) es none at)
  where
    one : (es : Data) (b : Bool) → cond b (Some (items_of es)) None ≡ Some ds → AllBelow (data_caps es) D → AllBelow (caps_of ds) D
    one es true e x = let same : items_of es ≡ ds = cc e in
        subst (λ y. AllBelow (caps_of y) D) same (subst (λ cs. AllBelow cs D) (sym (items-caps es)) x)
    one es false e x = absurd (cc e)

    go : (o : Option Data) → with_item o (λ es. cond (nat_le (depths es) DEPTH_LIMIT) (Some (items_of es)) None) None ≡ Some ds
        → ((es : Data) → o ≡ Some es → AllBelow (data_caps es) D) → AllBelow (caps_of ds) D
    go None e each = absurd (cc e)
    go (Some es) e each = one es (nat_le (depths es) DEPTH_LIMIT) e (each es refl)

-- 4. What a call of the shell uses

call-uses : (past : List Step) (name : List ℕ) (target : Cap) (operation : List ℕ) (args : List Datum) (at_once : Option Status)
    → IsBelowOne target (granted the_shell past) → AllBelow (caps_of args) (granted the_shell past)
    → AllGranted (call_uses (new_call (Shell name) target operation args at_once) ∷ []) past
call-uses past name target operation args None t a = ((t, a), tt)
call-uses past name target operation args (Some s) t a = ((t, a), tt)

pub shell-uses : (past : List Step) (k : ℕ) (name : List ℕ) (target : Cap) (operation : List ℕ) (args : List Datum)
    (at_once : Option Status) (t : Traffic) → IsBelowOne target (granted the_shell past)
    → AllBelow (caps_of args) (granted the_shell past)
    → AllGranted (with_item (call_at (with_call k (Shell name) target operation args at_once t) k) (λ c. call_uses c ∷ []) []) past
shell-uses past k name target operation args at_once t below held =
    let found : call_at (with_call k (Shell name) target operation args at_once t) k ≡ Some
    (new_call (Shell name) target operation args at_once)
    = find-put nat_cmp nat_cmp_total k k (new_call (Shell name) target operation args at_once) t.calls
    ∙ rw (tied_itself nat_cmp_total k) refl in
    subst (λ o. AllGranted (with_item o (λ c. call_uses c ∷ []) []) past) (sym found)
    (call-uses past name target operation args at_once below held)
