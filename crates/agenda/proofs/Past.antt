-- The first item that passes, in lists one behind another.
use Rattle.std.proofs.Common.{◌≡◌, Bool, true, false, List, [], ◌∷◌, ◌++◌, refl}
use Rattle.std.specs.List.{find, flat_map}
use Rattle.eden_model.specs.Map.{or_else, first}

pub find-append : {X : Type 0} (p : X → Bool) (xs ys : List X) → find p (xs ++ ys) ≡ or_else (find p xs) (find p ys)
find-append p [] ys = refl
find-append p (x ∷ xs) ys = go (p x) refl (find-append p xs ys)
  where
    go : (b : Bool) → p x ≡ b → find p (xs ++ ys) ≡ or_else (find p xs) (find p ys)
        → find p (x ∷ xs ++ ys) ≡ or_else (find p (x ∷ xs)) (find p ys)
    go true is h = rw is refl
    go false is h = rw is h

pub first-append : {X : Type 0} (xs ys : List X) → first (xs ++ ys) ≡ or_else (first xs) (first ys)
first-append [] ys = refl
first-append (x ∷ xs) ys = refl

-- the first past one in lists that come one after another is that of the first list that has one
pub find-flat : {X Y : Type 0} (p : Y → Bool) (f : X → List Y) (x : X) (xs : List X)
    → find p (flat_map f (x ∷ xs)) ≡ or_else (find p (f x)) (find p (flat_map f xs))
find-flat p f x xs = find-append p (f x) (flat_map f xs)
