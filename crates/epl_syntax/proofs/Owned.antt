-- Values whose capabilities are below those that are held.
use Rattle.std.proofs.Common.{ℕ, zero, suc, Bool, true, false, cond, List, [], ◌∷◌, ◌++◌, take, drop, slice_get, slice_set, Result, Ok, Err}
use Rattle.std.specs.Prelude.{IfOk, IfSome}
use Rattle.capability.specs.declared.Cap.{Cap}
use Rattle.eden_value.specs.Datum.{Datum, Data, list, no_data, data_and, items_of, data_of}
use Rattle.eden_value.specs.Caps.{caps, data_caps, caps_of}
use Rattle.epl_syntax.specs.declared.effect.FaultCause.{FaultCause}
use Rattle.epl_syntax.specs.Operators.{found}
use Rattle.epl_syntax.specs.Authority.{AllBelow}

pub both_below : (xs ys ds : List Cap) → AllBelow xs ds → AllBelow ys ds → AllBelow (xs ++ ys) ds
both_below [] ys ds h k = k
both_below (x ∷ xs) ys ds h k = (h.0, both_below xs ys ds h.1 k)

pub first_below : (xs ys ds : List Cap) → AllBelow (xs ++ ys) ds → AllBelow xs ds
first_below [] ys ds h = tt
first_below (x ∷ xs) ys ds h = (h.0, first_below xs ys ds h.1)

pub second_below : (xs ys ds : List Cap) → AllBelow (xs ++ ys) ds → AllBelow ys ds
second_below [] ys ds h = h
second_below (x ∷ xs) ys ds h = second_below xs ys ds h.1

-- the capabilities of a value, and of each of several
abbrev pub Owned : List Cap → Datum → Type 0
Owned held d = AllBelow (caps d) held

abbrev pub AllOwned : List Cap → List Datum → Type 0
AllOwned held [] = Unit {0}
AllOwned held (d ∷ ds) = Owned held d × AllOwned held ds

pub owned_caps : (held : List Cap) (ds : List Datum) → AllOwned held ds → AllBelow (caps_of ds) held
owned_caps held [] h = tt
owned_caps held (d ∷ ds) h = both_below (caps d) (caps_of ds) held h.0 (owned_caps held ds h.1)

pub caps_owned : (held : List Cap) (ds : List Datum) → AllBelow (caps_of ds) held → AllOwned held ds
caps_owned held [] h = tt
caps_owned held (d ∷ ds) h = (first_below (caps d) (caps_of ds) held h, caps_owned held ds (second_below (caps d) (caps_of ds) held h))

pub list_owned : (held : List Cap) (ds : List Datum) → AllOwned held ds → Owned held (list (data_of ds))
list_owned held [] h = tt
list_owned held (d ∷ ds) h = both_below (caps d) (data_caps (data_of ds)) held h.0 (list_owned held ds h.1)

pub items_owned : (held : List Cap) (ds : Data) → Owned held (list ds) → AllOwned held (items_of ds)
items_owned held no_data h = tt
items_owned held (data_and d ds) h =
    (first_below (caps d) (data_caps ds) held h, items_owned held ds (second_below (caps d) (data_caps ds) held h))

pub append_owned : (held : List Cap) (xs ys : List Datum) → AllOwned held xs → AllOwned held ys → AllOwned held (xs ++ ys)
append_owned held [] ys h k = k
append_owned held (x ∷ xs) ys h k = (h.0, append_owned held xs ys h.1 k)

pub take_owned : (held : List Cap) (n : ℕ) (ds : List Datum) → AllOwned held ds → AllOwned held (take n ds)
take_owned held zero ds h = tt
take_owned held (suc n) [] h = tt
take_owned held (suc n) (d ∷ ds) h = (h.0, take_owned held n ds h.1)

pub drop_owned : (held : List Cap) (n : ℕ) (ds : List Datum) → AllOwned held ds → AllOwned held (drop n ds)
drop_owned held zero ds h = h
drop_owned held (suc n) [] h = tt
drop_owned held (suc n) (d ∷ ds) h = drop_owned held n ds h.1

pub item_owned : (held : List Cap) (ds : List Datum) (i : ℕ) → AllOwned held ds → IfSome (slice_get ds i) (Owned held)
item_owned held [] i h = tt
item_owned held (d ∷ ds) zero h = h.0
item_owned held (d ∷ ds) (suc i) h = item_owned held ds i h.1

pub set_owned : (held : List Cap) (ds : List Datum) (i : ℕ) (d : Datum) → AllOwned held ds → Owned held d → AllOwned held (slice_set ds i d)
set_owned held [] i d h k = tt
set_owned held (x ∷ ds) zero d h k = (k, h.1)
set_owned held (x ∷ ds) (suc i) d h k = (h.0, set_owned held ds i d h.1 k)

-- ---- where a test decides, and where a fault may come
pub either : {X : Type 0} (P : X → Type 0) (b : Bool) (x y : X) → P x → P y → P (cond b x y)
either P true x y h k = h
either P false x y h k = k

pub found_through : {X Y : Type 0} (P : X → Type 0) (Q : Y → Type 0) (r : Result X FaultCause) (f : X → Result Y FaultCause) → IfOk r P
    → ((x : X) → P x → IfOk (f x) Q) → IfOk (found r f) Q
found_through P Q (Ok x) f h k = k x h
found_through P Q (Err cause) f h k = tt
