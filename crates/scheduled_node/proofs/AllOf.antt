-- Of each in a list.
use Rattle.std.proofs.Common.{◌≡◌, zero, suc, Bool, true, false, List, [], ◌∷◌, ◌++◌, map, refl, subst, arith}
use Rattle.std.specs.List.{AllByRecursion, Contains, filter, flat_map}

pub append-all : {X : Type 0} (P : X → Type 0) (xs ys : List X) → AllByRecursion P xs → AllByRecursion P ys → AllByRecursion P (xs ++ ys)
append-all P [] ys a b = b
append-all P (x ∷ xs) ys a b = (a.0, append-all P xs ys a.1 b)

pub flat-all : {X A : Type 0} (P : A → Type 0) (Q : X → Type 0) (f : X → List A) (xs : List X) → ((x : X) → Q x → AllByRecursion P (f x))
    → AllByRecursion Q xs → AllByRecursion P (flat_map f xs)
flat-all P Q f [] each all = tt
flat-all P Q f (x ∷ xs) each all = append-all P (f x) (flat_map f xs) (each x all.0) (flat-all P Q f xs each all.1)

pub map-all : {X A : Type 0} (P : A → Type 0) (Q : X → Type 0) (f : X → A) (xs : List X) → ((x : X) → Q x → P (f x)) → AllByRecursion Q xs
    → AllByRecursion P (map f xs)
map-all P Q f [] each all = tt
map-all P Q f (x ∷ xs) each all = (each x all.0, map-all P Q f xs each all.1)

pub image-all : {X A : Type 0} (P : A → Type 0) (f : X → A) (xs : List X) → ((x : X) → P (f x)) → AllByRecursion P (map f xs)
image-all P f [] each = tt
image-all P f (x ∷ xs) each = (each x, image-all P f xs each)

pub weaker-all : {X : Type 0} (P Q : X → Type 0) (xs : List X) → ((x : X) → P x → Q x) → AllByRecursion P xs → AllByRecursion Q xs
weaker-all P Q [] each all = tt
weaker-all P Q (x ∷ xs) each all = (each x all.0, weaker-all P Q xs each all.1)

pub from-all : {X : Type 0} (P : X → Type 0) (xs : List X) (x : X) → Contains xs x → AllByRecursion P xs → P x
from-all P [] x (k, within, is) all = absurd (omega (arith, within))
from-all P (y ∷ ys) x (zero, within, is) all = subst P is all.0
from-all P (y ∷ ys) x (suc k, within, is) all = from-all P ys x (k, omega (arith, within), is) all.1

pub both-all : {X : Type 0} (P Q : X → Type 0) (xs : List X) → AllByRecursion P xs → AllByRecursion Q xs
    → AllByRecursion (λ x. P x × Q x) xs
both-all P Q [] a b = tt
both-all P Q (x ∷ xs) a b = ((a.0, b.0), both-all P Q xs a.1 b.1)

-- of what is made of those that pass a test
pub passed-all : {X A : Type 0} (P : A → Type 0) (Q : X → Type 0) (test : X → Bool) (f : X → A) (xs : List X)
    → ((x : X) → Q x → test x ≡ true → P (f x)) → AllByRecursion Q xs → AllByRecursion P (map f (filter test xs))
passed-all P Q test f [] each all = tt
passed-all {X = X} {A = A} P Q test f (x ∷ xs) each all = go (test x) refl (passed-all P Q test f xs each all.1)
  where
    go : (b : Bool) → test x ≡ b → AllByRecursion P (map f (filter test xs)) → AllByRecursion P (map f (filter test (x ∷ xs)))
    go true is later = rw is (each x all.0 is, later)
    go false is later = rw is later
