-- Properties of all elements of lists: of entries that a look-up finds, of those that pass a test, and of several lists behind each other.
use Rattle.std.proofs.Common.{◌≡◌, ℕ, Bool, true, false, cond, ◌&&◌, T, List, [], ◌∷◌, map, Some, slice_index_or, refl, sym, ◌∙◌, ap, arith}
use Rattle.std.specs.List.{All, filter, find, flat_map}
use Rattle.std.specs.declared.cmp.Ordering.{Ordering}
use Rattle.std.specs.declared.cmp.Ordering.TheVariants.{Less, Equal, Greater}
use Rattle.std.specs.Ordering.{is_eq, is_lt, ordering_reverse}
use Rattle.std.specs.Cmp.{IsTotalOrder}
use Rattle.std.specs.FinMap.Entries.{is_sorted, below_all}
use Rattle.std.proofs.lemmas.Cmp.{tied_itself}
use Rattle.std.proofs.lemmas.List.Elements.{All-cons, All-head, All-tail, All-append}
use Rattle.eden_model.specs.Map.{first, value_at}

pub all-none : {X : Type 0} (P : X → Type 0) → All P []
all-none P k d h = absurd (omega (arith, h))

pub all-one : {X : Type 0} (P : X → Type 0) (x : X) → P x → All P (x ∷ [])
all-one P x p = All-cons P x [] p (all-none P)

-- those that pass a test
pub all-where : {X : Type 0} (P Q : X → Type 0) (p : X → Bool) → ((x : X) → P x → p x ≡ true → Q x) → (xs : List X) → All P xs
    → All Q (filter p xs)
all-where P Q p each [] all = all-none Q
all-where {X = X} P Q p each (x ∷ xs) all = go (p x) refl (all-where P Q p each xs (All-tail P x xs all)) (All-head P x xs all)
  where
    go : (b : Bool) → p x ≡ b → All Q (filter p xs) → P x → All Q (cond b (x ∷ filter p xs) (filter p xs))
    go true is later here = All-cons Q x (filter p xs) (each x here is) later
    go false is later here = later

-- the lists of all elements behind each other
pub all-flat : {X A : Type 0} (P : X → Type 0) (Q : A → Type 0) (f : X → List A) → ((x : X) → P x → All Q (f x)) → (xs : List X)
    → All P xs → All Q (flat_map f xs)
all-flat P Q f each [] all = all-none Q
all-flat P Q f each (x ∷ xs) all = All-append Q (f x) (flat_map f xs) (each x (All-head P x xs all))
    (all-flat P Q f each xs (All-tail P x xs all))

-- an entry of a list in ascending order is what a look-up of its key finds
pub all-found : {K X : Type 0} (R : K → K → Ordering) → IsTotalOrder R → (es : List (K × X)) → T (is_sorted R es)
    → All (λ e. value_at R e.0 es ≡ Some e.1) es
all-found R o [] h = all-none (λ e. value_at R e.0 [] ≡ Some e.1)
all-found {K = K} {X = X} R o (e ∷ es) h = All-cons (λ f. value_at R f.0 (e ∷ es) ≡ Some f.1) e es (rw (tied_itself o e.0) refl)
    (λ k d lt. later (slice_index_or es k d) (below es (first-part (below_all R e.0 es) h) k d lt)
    (all-found R o es (second-part (below_all R e.0 es) h) k d lt))
  where
    first-part : (b : Bool) → T (b && is_sorted R es) → T b
    first-part true h = tt
    first-part false h = h

    second-part : (b : Bool) → T (b && is_sorted R es) → T (is_sorted R es)
    second-part true h = h
    second-part false h = absurd h

    split : (b c : Bool) → T (b && c) → T b × T c
    split true c h = (tt, h)
    split false c h = absurd h

    below : (fs : List (K × X)) → T (below_all R e.0 fs) → All (λ f. T (is_lt (R e.0 f.0))) fs
    below [] h = all-none (λ f. T (is_lt (R e.0 f.0)))
    below (f ∷ fs) h = let x = split (is_lt (R e.0 f.0)) (below_all R e.0 fs) h in
        All-cons (λ f. T (is_lt (R e.0 f.0))) f fs x.0 (below fs x.1)

    apart : (x y : Ordering) → T (is_lt x) → y ≡ ordering_reverse x → is_eq y ≡ false
    apart Less y lt is = ap is_eq is
    apart Equal y lt is = absurd lt
    apart Greater y lt is = absurd lt

    later : (f : K × X) → T (is_lt (R e.0 f.0)) → value_at R f.0 es ≡ Some f.1 → value_at R f.0 (e ∷ es) ≡ Some f.1
    later f lt found = rw (apart (R e.0 f.0) (R f.0 e.0) lt (o.antisymm f.0 e.0)) found

-- the first that passes a test passes it
pub first-passes : (p : ℕ → Bool) (ks : List ℕ) (k : ℕ) → first (filter p ks) ≡ Some k → p k ≡ true
first-passes p [] k is = absurd (cc is)
first-passes p (j ∷ ks) k is = go (p j) refl (first-passes p ks k) is
  where
    go : (b : Bool) → p j ≡ b → (first (filter p ks) ≡ Some k → p k ≡ true) → first (cond b (j ∷ filter p ks) (filter p ks)) ≡ Some k
        → p k ≡ true
    go true at later e = let same : j ≡ k = cc e in ap p (sym same) ∙ at
    go false at later e = later e

-- what is found among images is one
pub found-mapped : {X Y : Type 0} (f : X → Y) (p : Y → Bool) (xs : List X) (y : Y) → find p (map f xs) ≡ Some y → (x : X) × (f x ≡ y)
found-mapped f p [] y is = absurd (cc is)
found-mapped {X = X} {Y = Y} f p (x ∷ xs) y is = go (p (f x)) (found-mapped f p xs y) is
  where
    go : (b : Bool) → (find p (map f xs) ≡ Some y → (x : X) × (f x ≡ y)) → cond b (Some (f x)) (find p (map f xs)) ≡ Some y → (x : X)
        × (f x ≡ y)
    go true later e = (x, cc e)
    go false later e = later e
