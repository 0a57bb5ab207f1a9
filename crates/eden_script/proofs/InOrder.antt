-- The names of a set, seen as lists of bytes.
use Rattle.std.proofs.Common.{◌≡◌, ◌∙◌, ap, refl, ℕ, Bool, List, [], ◌∷◌, map, Vec, Global}
use Rattle.std.specs.Prelude.{◌||◌}
use Rattle.std.specs.List.{list_any}
use Rattle.std.specs.Str.{bytes_eq}
use Rattle.std.specs.BTreeSet.{insert_key}
use Rattle.std.specs.Cmp.Lexicographic.{slice_cmp, nat_list_eq_equiv}
use Rattle.std.specs.Ordering.{is_eq, match_ordering, nat_cmp}
use Rattle.std.specs.declared.cmp.Ordering.{Ordering}
use Rattle.std.specs.declared.cmp.Ordering.TheVariants.{Less, Equal, Greater}
use Rattle.std.proofs.lemmas.Map.Text.{is_eq-slice_cmp}
use Rattle.script_words.specs.Form.{is_among}
use Rattle.eden_script.specs.Names.{with_name}

abbrev pub Bytes : Type 0
Bytes = Vec ℕ Global

abbrev pub bytes_of : Bytes → List ℕ
bytes_of v = v.items

-- a name is at its place in the order exactly where it is the name that is asked for
level : (a b : List ℕ) → is_eq (slice_cmp nat_cmp a b) ≡ bytes_eq b a
level a b = is_eq-slice_cmp a b ∙ nat_list_eq_equiv.symm a b

pub found_name : (name : List ℕ) (ks : List Bytes)
    → list_any (λ (k : Bytes). is_eq (slice_cmp nat_cmp name k.items)) ks ≡ is_among (map bytes_of ks) name
found_name name [] = refl
found_name name (k ∷ ks) =
    ap (λ (b : Bool). b || list_any (λ (k : Bytes). is_eq (slice_cmp nat_cmp name k.items)) ks) (level name k.items)
    ∙ ap (λ (b : Bool). bytes_eq k.items name || b) (found_name name ks)

abbrev in_order : Bytes → Bytes → Ordering
in_order x y = slice_cmp nat_cmp x.items y.items

pub name_kept : (ks : List Bytes) (v : Bytes) → map bytes_of (insert_key in_order ks v) ≡ with_name (map bytes_of ks) v.items
name_kept [] v = refl
name_kept (k ∷ ks) v = chosen (in_order v k) (name_kept ks v)
  where
    chosen : (o : Ordering) → map bytes_of (insert_key in_order ks v) ≡ with_name (map bytes_of ks) v.items
        → map bytes_of (match_ordering o (v ∷ k ∷ ks) (k ∷ ks) (k ∷ insert_key in_order ks v))
        ≡ match_ordering o (v.items ∷ k.items ∷ map bytes_of ks) (k.items ∷ map bytes_of ks) (k.items ∷ with_name (map bytes_of ks) v.items)
    chosen Less later = refl
    chosen Equal later = refl
    chosen Greater later = ap (λ (l : List (List ℕ)). k.items ∷ l) later
