-- Tests that answer with a proof: none where the test fails. They compute, so that `refl` decides what they test of closed values.
use Rattle.std.proofs.Common.{◌≡◌, ◌≤◌, ◌<◌, ◌==◌, ℕ, Bool, true, false, cond, List, [], ◌∷◌, Option, None, Some, is_some, refl, ap, sym}
use Rattle.std.proofs.Common.{◌∙◌, arith, inl, inr}
use Rattle.std.specs.Prelude.{ℤ, pos, negsuc, nat_le, nat_lt, ◌⊎◌, IsTrue, IsSomeAnd, IfSome}
use Rattle.std.proofs.lemmas.Bool.Decides.{nat_tests}
use Rattle.capability.specs.declared.Uid.{Uid}
use Rattle.capability.specs.declared.Cap.{Cap}
use Rattle.eden_value.specs.Datum.{Datum, Data, number, truth, text, cap, list, no_data, data_and}
use Rattle.eden_value.specs.Status.{status_number}
use Rattle.eden_value.specs.declared.status.Status.{Status}
use Rattle.eden_value.specs.declared.status.Status.TheVariants as status

-- 1. Several tests

-- both pass
abbrev pub both : {A B : Type 0} → Option A → Option B → Option (A × B)
both None q = None
both (Some a) None = None
both (Some a) (Some b) = Some (a, b)

-- what follows from what was tested
abbrev pub then : {A B : Type 0} → Option A → (A → B) → Option B
then None f = None
then (Some a) f = Some (f a)

-- one of two passes
abbrev pub either : {A B : Type 0} → Option A → Option B → Option (A ⊎ B)
either (Some a) q = Some (inl a)
either None None = None
either None (Some b) = Some (inr b)

-- there is an item, and the test passes for it
abbrev pub some-and : {X : Type 0} {P : X → Type 0} (o : Option X) → ((x : X) → Option (P x)) → Option (IsSomeAnd o P)
some-and None test = None
some-and (Some x) test = test x

-- there is none, or the test passes for it
abbrev pub if-some : {X : Type 0} {P : X → Type 0} (o : Option X) → ((x : X) → Option (P x)) → Option (IfSome o P)
if-some None test = Some tt
if-some (Some x) test = test x

pub passed : {P : Type 0} (o : Option P) → is_some o ≡ true → P
passed None is = absurd (cc is)
passed (Some p) is = p

-- 2. Numbers and truth values

abbrev decided : {P : Type 0} (b : Bool) → (b ≡ true → P) → Option P
decided true f = Some (f refl)
decided false f = None

pub equal : (a b : ℕ) → (a == b) ≡ true → a ≡ b
equal a b e = grind (arith, nat_tests, e)

pub at-most : (a b : ℕ) → nat_le a b ≡ true → a ≤ b
at-most a b e = grind (arith, nat_tests, e)

abbrev pub same-number : (a b : ℕ) → Option (a ≡ b)
same-number a b = decided (a == b) (equal a b)

pub below : (a b : ℕ) → nat_lt a b ≡ true → a < b
below a b e = grind (arith, nat_tests, e)

abbrev pub is-at-most : (a b : ℕ) → Option (a ≤ b)
is-at-most a b = decided (nat_le a b) (at-most a b)

abbrev pub is-below : (a b : ℕ) → Option (a < b)
is-below a b = decided (nat_lt a b) (below a b)

abbrev pub is-true : (b : Bool) → Option (IsTrue b)
is-true true = Some refl
is-true false = None

abbrev pub same-bool : (a b : Bool) → Option (a ≡ b)
same-bool true true = Some refl
same-bool false false = Some refl
same-bool _ _ = None

-- 3. Lists and options

abbrev pub same-list : {X : Type 0} → ((a b : X) → Option (a ≡ b)) → (xs ys : List X) → Option (xs ≡ ys)
same-list same [] [] = Some refl
same-list same (x ∷ xs) (y ∷ ys) = then (both (same x y) (same-list same xs ys)) (λ p i. p.0 i ∷ p.1 i)
same-list same _ _ = None

abbrev pub same-option : {X : Type 0} → ((a b : X) → Option (a ≡ b)) → (a b : Option X) → Option (a ≡ b)
same-option same None None = Some refl
same-option same (Some x) (Some y) = then (same x y) (λ e i. Some (e i))
same-option same _ _ = None

abbrev pub is-none : {X : Type 0} (o : Option X) → Option (o ≡ None)
is-none None = Some refl
is-none (Some x) = None

abbrev pub is-empty : {X : Type 0} (xs : List X) → Option (xs ≡ [])
is-empty [] = Some refl
is-empty (x ∷ xs) = None

abbrev pub same-text : (a b : List ℕ) → Option (a ≡ b)
same-text a b = same-list same-number a b

-- 4. Values

abbrev same-integer : (a b : ℤ) → Option (a ≡ b)
same-integer (pos m) (pos n) = then (same-number m n) (ap pos)
same-integer (negsuc m) (negsuc n) = then (same-number m n) (ap negsuc)
same-integer _ _ = None

abbrev pub same-uid : (u v : Uid) → Option (u ≡ v)
same-uid u v = then (both (same-number u.node v.node) (both (same-number u.epoch v.epoch) (same-number u.serial v.serial)))
    (λ p i. record { node = p.0 i; epoch = p.1.0 i; serial = p.1.1 i })

abbrev same-cap : (c d : Cap) → Option (c ≡ d)
same-cap c d = then (both (same-uid c.uid d.uid) (same-number c.rights.bits d.rights.bits))
    (λ p i. record { uid = p.0 i; rights = record { bits = p.1 i } })

abbrev mutual
  pub same-value : (d e : Datum) → Option (d ≡ e)
  same-value (number m) (number n) = then (same-integer m n) (ap number)
  same-value (truth a) (truth b) = then (same-bool a b) (ap truth)
  same-value (text s) (text t) = then (same-text s t) (ap text)
  same-value (cap c) (cap d) = then (same-option same-cap c d) (ap cap)
  same-value (list ds) (list es) = then (same-data ds es) (ap list)
  same-value _ _ = None

  same-data : (ds es : Data) → Option (ds ≡ es)
  same-data no_data no_data = Some refl
  same-data (data_and d ds) (data_and e es) = then (both (same-value d e) (same-data ds es)) (λ p i. data_and (p.0 i) (p.1 i))
  same-data _ _ = None

-- by number

abbrev status-of : ℕ → Status
status-of n = cond (n == 1) status.NoRight (cond (n == 2) status.NoOperation (cond (n == 3) status.BadArguments (
    cond (n == 4) status.Gone (cond (n == 5) status.Unreachable (cond (n == 6) status.Broken (
    cond (n == 7) status.StoreFault (cond (n == 8) status.Damaged (cond (n == 9) status.Dropped (
    cond (n == 10) status.Busy (cond (n == 11) status.TooLarge (cond (n == 12) status.Full (
    cond (n == 13) status.TooMany (cond (n == 14) status.SerialsSpent (status.Ok))))))))))))))

pub back : (s : Status) → status-of (status_number s) ≡ s
back status.Ok = refl
back status.NoRight = refl
back status.NoOperation = refl
back status.BadArguments = refl
back status.Gone = refl
back status.Unreachable = refl
back status.Broken = refl
back status.StoreFault = refl
back status.Damaged = refl
back status.Dropped = refl
back status.Busy = refl
back status.TooLarge = refl
back status.Full = refl
back status.TooMany = refl
back status.SerialsSpent = refl

abbrev pub same-status : (s t : Status) → Option (s ≡ t)
same-status s t = then (same-number (status_number s) (status_number t)) (λ e. sym (back s) ∙ ap status-of e ∙ back t)
