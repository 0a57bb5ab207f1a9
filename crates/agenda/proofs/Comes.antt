-- Which keys come behind the last one, and which is the first of an index.
use Rattle.std.proofs.Common.{◌≡◌, ℕ, Bool, true, false, cond, not, ◌&&◌, List, [], ◌∷◌, map, Option, None, Some, refl, sym, ◌∙◌, ap}
use Rattle.std.proofs.Common.{subst, T, arith}
use Rattle.std.proofs.lemmas.Bool.Decides.{nat_tests}
use Rattle.std.proofs.lemmas.Cmp.{tied_itself}
use Rattle.std.specs.declared.cmp.Ordering.{Ordering}
use Rattle.std.specs.declared.cmp.Ordering.TheVariants.{Less, Equal, Greater}
use Rattle.std.specs.Ordering.{nat_cmp, ordering_then, is_lt}
use Rattle.std.specs.Option.{option_map}
use Rattle.std.specs.List.{find, flat_map}
use Rattle.std.specs.FinMap.Entries.{is_sorted, below_all}
use Rattle.capability.specs.declared.Uid.{Uid}
use Rattle.capability.proofs.Uids.{uid_cmp_total, uid_cmp-IsAntisymmetric}
use Rattle.eden_model.specs.Map.{uid_cmp, same_uid}
use Rattle.eden_model.proofs.Laws.{eq-same}
use Rattle.journal.specs.declared.event.Key.{Key}
use Rattle.agenda.specs.Keys.{entries_of, key_unless}
use Rattle.agenda.specs.Indexed.{comes, is_it}
use Rattle.agenda.specs.declared.behind.Behind.{Behind}
use Rattle.agenda.specs.declared.behind.Behind.TheVariants.{All, Past, Nothing}

-- 1. Orders

pub three : (a b c d : Ordering) → ordering_then a (ordering_then b (ordering_then c d))
    ≡ ordering_then (ordering_then a (ordering_then b c)) d
three Less b c d = refl
three Greater b c d = refl
three Equal Less c d = refl
three Equal Greater c d = refl
three Equal Equal c d = refl

not-less : (p : ℕ) → is_lt (nat_cmp p 0) ≡ false
not-less p = go (nat_cmp p 0) refl
  where
    go : (o : Ordering) → nat_cmp p 0 ≡ o → is_lt o ≡ false
    go Less is = absurd (grind (arith, nat_tests, is))
    go Equal is = refl
    go Greater is = refl

then-not-less : (o q : Ordering) → is_lt q ≡ false → is_lt (ordering_then o q) ≡ is_lt o
then-not-less Less q h = refl
then-not-less Equal q h = h
then-not-less Greater q h = refl

-- a key of no process comes behind where its Eject does
pub then-zero : (o : Ordering) (p : ℕ) → is_lt (ordering_then o (nat_cmp p 0)) ≡ is_lt o
then-zero o p = then-not-less o (nat_cmp p 0) (not-less p)

-- 2. The first of a list

pub find-same : {X : Type 0} (p q : X → Bool) (xs : List X) → ((x : X) → p x ≡ q x) → find p xs ≡ find q xs
find-same p q [] same = refl
find-same p q (x ∷ xs) same = go (q x) refl (find-same p q xs same)
  where
    go : (b : Bool) → q x ≡ b → find p xs ≡ find q xs → find p (x ∷ xs) ≡ find q (x ∷ xs)
    go true is ih = rw (same x, is) refl
    go false is ih = rw (same x, is) ih

-- where none passes, none passes a test that asks for more
pub none-more : {X : Type 0} (w c : X → Bool) (xs : List X) → find c xs ≡ None → find (λ x. not (w x) && c x) xs ≡ None
none-more w c [] none = refl
none-more {X} w c (x ∷ xs) none = go (c x) refl none (λ rest. none-more w c xs rest)
  where
    go : (b : Bool) → c x ≡ b → cond b (Some x) (find c xs) ≡ None → (find c xs ≡ None → find (λ x. not (w x) && c x) xs ≡ None)
        → find (λ x. not (w x) && c x) (x ∷ xs) ≡ None
    go true is bad ih = absurd (let no : Some x ≡ None = bad in cc no)
    go false is rest ih = rw is (by (w x) (ih rest))
      where
        by : (b : Bool) → find (λ x. not (w x) && c x) xs ≡ None
            → cond (not b && false) (Some x) (find (λ x. not (w x) && c x) xs) ≡ None
        by true ih = ih
        by false ih = ih

-- the first that passes is the first of those that also pass another test, where it does
pub same-more : {X : Type 0} (w c : X → Bool) (y : X) (xs : List X) → find c xs ≡ Some y → w y ≡ false
    → find (λ x. not (w x) && c x) xs ≡ Some y
same-more w c y [] found out = absurd (let no : None ≡ Some y = found in cc no)
same-more {X} w c y (x ∷ xs) found out = go (c x) refl found (λ later. same-more w c y xs later out)
  where
    go : (b : Bool) → c x ≡ b → cond b (Some x) (find c xs) ≡ Some y → (find c xs ≡ Some y → find (λ x. not (w x) && c x) xs ≡ Some y)
        → find (λ x. not (w x) && c x) (x ∷ xs) ≡ Some y
    go true is here ih =
        let same : x ≡ y = cc here in
        rw (is, ap w same ∙ out) here
    go false is later ih = rw is (by (w x) (ih later))
      where
        by : (b : Bool) → find (λ x. not (w x) && c x) xs ≡ Some y
            → cond (not b && false) (Some x) (find (λ x. not (w x) && c x) xs) ≡ Some y
        by true ih = ih
        by false ih = ih

left_part : (a b : Bool) → T (a && b) → T a
left_part true b p = tt
left_part false b p = p

right_part : (a b : Bool) → T (a && b) → T b
right_part true b p = p
right_part false b p = absurd p

is-less : (o : Ordering) → T (is_lt o) → o ≡ Less
is-less Less p = refl
is-less Equal p = absurd p
is-less Greater p = absurd p

-- those past y are not y
module _ (c : Uid → Bool) (y : Uid) (grows : (u : Uid) → uid_cmp y u ≡ Less → c u ≡ true) where
  abbrev pub wanted : Uid → Bool
  wanted u = not (same_uid y u) && c u

  abbrev pub past_it : Uid → Bool
  past_it u = is_lt (uid_cmp y u)

  -- past y both tests pass
  past-same : (us : List Uid) → T (below_all uid_cmp y (entries_of us)) → find wanted us ≡ find past_it us
  past-same [] below = refl
  past-same (u ∷ us) below =
      let less : uid_cmp y u ≡ Less = is-less (uid_cmp y u) (left_part _ _ below) in
      rw (less, grows u less) refl

  -- one of which y is the first that passes
  pub but-first : (us : List Uid) → T (is_sorted uid_cmp (entries_of us)) → find c us ≡ Some y → find wanted us ≡ find past_it us
  but-first [] sorted found = absurd (let no : None ≡ Some y = found in cc no)
  but-first (u ∷ us) sorted found = go (c u) refl found (λ later. but-first us (right_part _ _ sorted) later)
    where
      go : (b : Bool) → c u ≡ b → cond b (Some u) (find c us) ≡ Some y → (find c us ≡ Some y → find wanted us ≡ find past_it us)
          → find wanted (u ∷ us) ≡ find past_it (u ∷ us)
      go true is here ih =
          let same : u ≡ y = cc here in
          let tied : uid_cmp y u ≡ Equal = ap (λ v. uid_cmp y v) same ∙ tied_itself uid_cmp_total y in
          let below : T (below_all uid_cmp y (entries_of us)) = subst (λ v. T (below_all uid_cmp v (entries_of us))) same
          (left_part _ _ sorted) in
          rw tied (past-same us below)
      go false is later ih = by (uid_cmp y u) refl (ih later)
        where
          by : (o : Ordering) → uid_cmp y u ≡ o → find wanted us ≡ find past_it us → find wanted (u ∷ us) ≡ find past_it (u ∷ us)
          by Less less h = absurd (let bad : true ≡ false = sym (grows u less) ∙ is in cc bad)
          by Equal tied h = rw tied h
          by Greater more h = rw (more, is) h

-- 3. Keys

pub find-unless : (P : Key → Bool) (f : Uid → Key) (w c : Uid → Bool) (us : List Uid) → ((u : Uid) → P (f u) ≡ c u)
    → find P (flat_map (λ u. key_unless (w u) (f u)) us) ≡ option_map f (find (λ u. not (w u) && c u) us)
find-unless P f w c [] same = refl
find-unless P f w c (u ∷ us) same = go (w u) refl (c u) refl (find-unless P f w c us same)
  where
    go : (a : Bool) → w u ≡ a → (b : Bool) → c u ≡ b
        → find P (flat_map (λ u. key_unless (w u) (f u)) us) ≡ option_map f (find (λ u. not (w u) && c u) us)
        → find P (flat_map (λ u. key_unless (w u) (f u)) (u ∷ us)) ≡ option_map f (find (λ u. not (w u) && c u) (u ∷ us))
    go true skip b is ih = rw skip ih
    go false keep true is ih = rw (keep, same u, is) refl
    go false keep false is ih = rw (keep, same u, is) ih

pub find-none : {X : Type 0} (xs : List X) → find (λ x. false) xs ≡ None
find-none [] = refl
find-none (x ∷ xs) = find-none xs

pub find-map : {X Y : Type 0} (p : Y → Bool) (f : X → Y) (q : X → Bool) (xs : List X) → ((x : X) → p (f x) ≡ q x)
    → find p (map f xs) ≡ option_map f (find q xs)
find-map p f q [] same = refl
find-map {X} {Y} p f q (x ∷ xs) same = go (q x) refl (find-map p f q xs same)
  where
    go : (b : Bool) → q x ≡ b → find p (map f xs) ≡ option_map f (find q xs) → find p (map f (x ∷ xs)) ≡ option_map f (find q (x ∷ xs))
    go true is h = rw (same x, is) refl
    go false is h = rw (same x, is) h

-- an Eject behind the last key, and those past it, whatever its number of process
pub grows-behind : (b : Behind) (y u : Uid) → comes b y 0 ≡ true → uid_cmp y u ≡ Less → comes b u 0 ≡ true
grows-behind All y u h less = refl
grows-behind Nothing y u h less = absurd (let bad : false ≡ true = h in cc bad)
grows-behind (Past v p) y u h less =
    let first_less : is_lt (uid_cmp v y) ≡ true = sym (then-zero (uid_cmp v y) p) ∙ h in
    then-zero (uid_cmp v u) p ∙ ap is_lt (uid_cmp_total.trans v y u (less-of (uid_cmp v y) first_less) less)
  where
    less-of : (o : Ordering) → is_lt o ≡ true → o ≡ Less
    less-of Less e = refl
    less-of Equal e = absurd (let bad : false ≡ true = e in cc bad)
    less-of Greater e = absurd (let bad : false ≡ true = e in cc bad)

-- what is found passes
pub found-passes : {X : Type 0} (c : X → Bool) (y : X) (xs : List X) → find c xs ≡ Some y → c y ≡ true
found-passes c y [] found = absurd (let bad : None ≡ Some y = found in cc bad)
found-passes {X} c y (x ∷ xs) found = go (c x) refl found (λ later. found-passes c y xs later)
  where
    go : (b : Bool) → c x ≡ b → cond b (Some x) (find c xs) ≡ Some y → (find c xs ≡ Some y → c y ≡ true) → c y ≡ true
    go true is here ih = let same : x ≡ y = cc here in sym (ap c same) ∙ is
    go false is later ih = ih later

-- passing over one Eject: it was the first, or was not
pub over-first : (b : Behind) (but : Option Uid) (y : Uid) (us : List Uid) → T (is_sorted uid_cmp (entries_of us))
    → find (λ u. comes b u 0) us ≡ Some y → is_it but y ≡ true
    → find (λ u. not (is_it but u) && comes b u 0) us ≡ find (λ v. is_lt (uid_cmp y v)) us
over-first b None y us sorted found it = absurd (let bad : false ≡ true = it in cc bad)
over-first b (Some x) y us sorted found it =
    let same : x ≡ y = eq-same uid_cmp uid_cmp-IsAntisymmetric x y it in
    ap (λ z. find (λ u. not (same_uid z u) && comes b u 0) us) same
    ∙ but-first (λ u. comes b u 0) y (λ u less. grows-behind b y u (found-passes (λ u. comes b u 0) y us found) less) us sorted found
