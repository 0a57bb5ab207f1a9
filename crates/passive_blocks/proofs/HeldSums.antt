-- What is summed over the heads that keep a value, when a head is opened or closed.
use Rattle.std.proofs.Common.{◌≡◌, ℕ, suc, zero, ◌+◌, ◌≤◌, ◌<◌, Bool, true, false, ◌||◌, ◌&&◌, not, List, [], ◌∷◌, ◌++◌}
use Rattle.std.proofs.Common.{length, map, set, take, drop, refl, sym, ap, subst, ◌∙◌, arith, Option, None, Some}
use Rattle.std.specs.Prelude.{if◌then◌else◌, filter, nat_le, sum_by}
use Rattle.std.specs.List.{list_all}
use Rattle.std.specs.Ordering.{eq_by_cmp}
use Rattle.std.specs.Cmp.{eq_by_cmp_equiv}
use Rattle.std.proofs.lemmas.Bool.{false≢true, and_from, and_parts, both_ways, false_from_ne_true, leb-true, le-leb}
use Rattle.std.proofs.lemmas.Bool.{lt-ltb}
use Rattle.std.proofs.lemmas.List.Sums.{sum_by-cons, sum_by-append}
use Rattle.std.proofs.lemmas.List.Elements.{filter-append}
use Rattle.capability.specs.declared.Uid.{Uid}
use Rattle.capability.specs.Uids.{uid_cmp}
use Rattle.capability.proofs.Uids.{uid_cmp_total}
use Rattle.block_tables.specs.declared.heads.HeadFields.{HeadFields}
use Rattle.block_tables.specs.Blocks.{Head, same_uid, counts, keeping}
use Rattle.block_tables.specs.HeadSeen.{head_of}
use Rattle.block_tables.specs.HeadState.{heads_in, slot_at, is_open, is_open_of, IsLatest, kept_slot}
use Rattle.passive_blocks.specs.HeldState.{AreApart}
use Rattle.block_tables.proofs.Closing.{lets, all_append}
use Rattle.block_tables.proofs.Heading.{keeps_beside, is_earlier, keeping_with}
use Rattle.block_tables.proofs.Slots.{same_uids, slot_same, latest_late}
use Rattle.block_tables.proofs.OpenHeads.{open_is}

pub head_step : (b : Bool) (s : HeadFields) (rest : List HeadFields)
    → map head_of (if b then s ∷ rest else rest) ≡ (if b then head_of s ∷ map head_of rest else map head_of rest)
head_step true s rest = refl
head_step false s rest = refl

pulled : (b : Bool) (h : Head) (front rest : List Head)
    → (if b then h ∷ (front ++ rest) else (front ++ rest)) ≡ ((if b then h ∷ front else front) ++ rest)
pulled true h front rest = refl
pulled false h front rest = refl

-- the open heads before a number and behind it
abbrev pub front_of : List HeadFields → ℕ → List Head
front_of slots n = heads_in (take n slots)

abbrev pub back_of : List HeadFields → ℕ → List Head
back_of slots n = heads_in (drop (suc n) slots)

-- The open heads once what stands under a number is another: those before it and behind it, and that one if it is open.
pub heads_with : (slots : List HeadFields) (n : ℕ) (x : HeadFields) → n < length slots
    → heads_in (set slots n x) ≡ front_of slots n ++ (if is_open x then head_of x ∷ back_of slots n else back_of slots n)
heads_with [] n x within = absurd (omega (arith, within))
heads_with (s ∷ slots) zero x within = head_step (is_open x) x (filter is_open slots)
heads_with (s ∷ slots) (suc n) x within =
    let rest : List Head = if is_open x then head_of x ∷ back_of slots n else back_of slots n in
    head_step (is_open s) s (filter is_open (set slots n x))
    ∙ ap (λ hs. if is_open s then head_of s ∷ hs else hs) (heads_with slots n x (omega (arith, within)))
    ∙ pulled (is_open s) (head_of s) (front_of slots n) rest
    ∙ sym (ap (λ hs. hs ++ rest) (head_step (is_open s) s (filter is_open (take n slots))))

pub heads_at : (slots : List HeadFields) (n : ℕ) → n < length slots
    → heads_in slots ≡ front_of slots n ++ (if is_open (slot_at slots n) then head_of (slot_at slots n) ∷ back_of slots n
    else back_of slots n)
heads_at [] n within = absurd (omega (arith, within))
heads_at (s ∷ slots) zero within = head_step (is_open s) s (filter is_open slots)
heads_at (s ∷ slots) (suc n) within =
    let x : HeadFields = slot_at slots n in
    let rest : List Head = if is_open x then head_of x ∷ back_of slots n else back_of slots n in
    head_step (is_open s) s (filter is_open slots)
    ∙ ap (λ hs. if is_open s then head_of s ∷ hs else hs) (heads_at slots n (omega (arith, within)))
    ∙ pulled (is_open s) (head_of s) (front_of slots n) rest
    ∙ sym (ap (λ hs. hs ++ rest) (head_step (is_open s) s (filter is_open (take n slots))))

-- the same where it is known whether it is open
pub heads_with_open : (slots : List HeadFields) (n : ℕ) (x : HeadFields) → n < length slots → is_open x ≡ true
    → heads_in (set slots n x) ≡ front_of slots n ++ head_of x ∷ back_of slots n
heads_with_open slots n x within opened =
    heads_with slots n x within ∙ ap (λ b. front_of slots n ++ (if b then head_of x ∷ back_of slots n else back_of slots n)) opened

pub heads_with_shut : (slots : List HeadFields) (n : ℕ) (x : HeadFields) → n < length slots → is_open x ≡ false
    → heads_in (set slots n x) ≡ front_of slots n ++ back_of slots n
heads_with_shut slots n x within shut =
    heads_with slots n x within ∙ ap (λ b. front_of slots n ++ (if b then head_of x ∷ back_of slots n else back_of slots n)) shut

pub heads_at_open : (slots : List HeadFields) (n : ℕ) → n < length slots → is_open (slot_at slots n) ≡ true
    → heads_in slots ≡ front_of slots n ++ head_of (slot_at slots n) ∷ back_of slots n
heads_at_open slots n within opened =
    let x : HeadFields = slot_at slots n in
    heads_at slots n within ∙ ap (λ b. front_of slots n ++ (if b then head_of x ∷ back_of slots n else back_of slots n)) opened

pub heads_at_shut : (slots : List HeadFields) (n : ℕ) → n < length slots → is_open (slot_at slots n) ≡ false
    → heads_in slots ≡ front_of slots n ++ back_of slots n
heads_at_shut slots n within shut =
    let x : HeadFields = slot_at slots n in
    heads_at slots n within ∙ ap (λ b. front_of slots n ++ (if b then head_of x ∷ back_of slots n else back_of slots n)) shut

-- what holds of each open head holds of all, and back
pub each_open : (q : Head → Bool) (slots : List HeadFields)
    → ((k : ℕ) → is_open (slot_at slots k) ≡ true → q (head_of (slot_at slots k)) ≡ true) → list_all q (heads_in slots) ≡ true
each_open q [] all = refl
each_open q (s ∷ slots) all =
    ap (list_all q) (head_step (is_open s) s (filter is_open slots))
    ∙ joins (is_open s) refl (each_open q slots (λ k there. all (suc k) there))
  where
    joins : (b : Bool) → is_open s ≡ b → list_all q (heads_in slots) ≡ true
        → list_all q (if b then head_of s ∷ heads_in slots else heads_in slots) ≡ true
    joins true is rest = and_from (q (head_of s)) (list_all q (heads_in slots)) (all zero is) rest
    joins false is rest = rest

pub of_open : (q : Head → Bool) (slots : List HeadFields) (k : ℕ) → list_all q (heads_in slots) ≡ true
    → is_open (slot_at slots k) ≡ true → q (head_of (slot_at slots k)) ≡ true
of_open q [] k all there = absurd (false≢true there)
of_open q (s ∷ slots) k all there =
    go (is_open s) refl k there (sym (ap (list_all q) (head_step (is_open s) s (filter is_open slots))) ∙ all)
    (λ j rest open_there. of_open q slots j rest open_there)
  where
    go : (b : Bool) → is_open s ≡ b → (k : ℕ) → is_open (slot_at (s ∷ slots) k) ≡ true
        → list_all q (if b then head_of s ∷ heads_in slots else heads_in slots) ≡ true
        → ((j : ℕ) → list_all q (heads_in slots) ≡ true → is_open (slot_at slots j) ≡ true → q (head_of (slot_at slots j)) ≡ true)
        → q (head_of (slot_at (s ∷ slots) k)) ≡ true
    go true is zero open_there rest behind = (and_parts (q (head_of s)) (list_all q (heads_in slots)) rest).0
    go true is (suc j) open_there rest behind = behind j (and_parts (q (head_of s)) (list_all q (heads_in slots)) rest).1 open_there
    go false is zero open_there rest behind = absurd (both_ways (is_open s) is open_there)
    go false is (suc j) open_there rest behind = behind j rest open_there

pub implied : (b l : Bool) → (b ≡ true → l ≡ true) → (not b || l) ≡ true
implied true l h = h refl
implied false l h = refl

pub implies : (b l : Bool) → (not b || l) ≡ true → b ≡ true → l ≡ true
implies true l h is = h
implies false l h is = absurd (false≢true is)

pub uid_is : (s : HeadFields) (uid : Uid) → is_open_of uid s ≡ true → s.uid ≡ uid
uid_is s uid is = same_uids s.uid uid (and_parts (is_open s) (eq_by_cmp uid_cmp s.uid uid) is).1

pub same_itself : (uid : Uid) → eq_by_cmp uid_cmp uid uid ≡ true
same_itself uid = (eq_by_cmp_equiv uid_cmp_total).refl uid

pub is_of : (s : HeadFields) (uid : Uid) → is_open s ≡ true → s.uid ≡ uid → is_open_of uid s ≡ true
is_of s uid opened same =
    and_from (is_open s) (eq_by_cmp uid_cmp s.uid uid) opened (ap (λ u. eq_by_cmp uid_cmp u uid) same ∙ same_itself uid)

-- the head that counts in memory counts among the open heads
pub latest_counts : (slots : List HeadFields) (uid : Uid) (m : ℕ) → IsLatest slots uid (Some m)
    → counts (heads_in slots) (head_of (slot_at slots m)) ≡ true
latest_counts slots uid m is =
    each_open (λ g. lets (head_of (slot_at slots m)) g) slots (λ k there.
    implied (eq_by_cmp uid_cmp (slot_at slots k).uid (slot_at slots m).uid) (nat_le (slot_at slots k).sequence (slot_at slots m).sequence)
    (λ same. le-leb (slot_at slots k).sequence (slot_at slots m).sequence
    (is.1 k (is_of (slot_at slots k) uid there
    (same_uids (slot_at slots k).uid (slot_at slots m).uid same ∙ uid_is (slot_at slots m) uid is.0)))))

-- and no other of its uid does
pub other_counts_not : (slots : List HeadFields) (uid : Uid) (m k : ℕ) → AreApart slots → IsLatest slots uid (Some m)
    → is_open_of uid (slot_at slots k) ≡ true → (k ≡ m → ⊥) → counts (heads_in slots) (head_of (slot_at slots k)) ≡ false
other_counts_not slots uid m k apart is there other =
    false_from_ne_true (counts (heads_in slots) (head_of (slot_at slots k))) (λ does.
    let opened : is_open (slot_at slots m) ≡ true = open_is (slot_at slots m) uid is.0 in
    let same : eq_by_cmp uid_cmp (slot_at slots m).uid (slot_at slots k).uid ≡ true =
    ap (λ u. eq_by_cmp uid_cmp u (slot_at slots k).uid) (uid_is (slot_at slots m) uid is.0 ∙ sym (uid_is (slot_at slots k) uid there))
    ∙ same_itself (slot_at slots k).uid in
    let less : (slot_at slots m).sequence ≤ (slot_at slots k).sequence =
    leb-true (slot_at slots m).sequence (slot_at slots k).sequence
    (implies (eq_by_cmp uid_cmp (slot_at slots m).uid (slot_at slots k).uid) (nat_le (slot_at slots m).sequence (slot_at slots k).sequence)
    (of_open (λ g. lets (head_of (slot_at slots k)) g) slots m does opened) same) in
    let more : (slot_at slots k).sequence ≤ (slot_at slots m).sequence = is.1 k there in
    other (sym (apart m k opened (omega (arith, less, more)))))

-- of the heads at most one passes
none_passes : (p : Head → Bool) (slots : List HeadFields)
    → ((k : ℕ) → is_open (slot_at slots k) ≡ true → p (head_of (slot_at slots k)) ≡ false) → filter p (heads_in slots) ≡ []
none_passes p [] none = refl
none_passes p (s ∷ slots) none =
    ap (filter p) (head_step (is_open s) s (filter is_open slots)) ∙ go (is_open s) refl (none_passes p slots (λ k there. none
    (suc k) there))
  where
    go : (b : Bool) → is_open s ≡ b → filter p (heads_in slots) ≡ []
        → filter p (if b then head_of s ∷ heads_in slots else heads_in slots) ≡ []
    go true is rest = ap (λ c. if c then head_of s ∷ filter p (heads_in slots) else filter p (heads_in slots)) (none zero is) ∙ rest
    go false is rest = rest

one_passes : (p : Head → Bool) (slots : List HeadFields) (m : ℕ)
    → ((k : ℕ) → is_open (slot_at slots k) ≡ true → (k ≡ m → ⊥) → p (head_of (slot_at slots k)) ≡ false) → is_open (slot_at slots m) ≡ true
    → filter p (heads_in slots) ≡ (if p (head_of (slot_at slots m)) then head_of (slot_at slots m) ∷ [] else [])
one_passes p [] m none opened = absurd (false≢true opened)
one_passes p (s ∷ slots) zero none opened =
    ap (filter p) (head_step (is_open s) s (filter is_open slots))
    ∙ ap (λ b. filter p (if b then head_of s ∷ heads_in slots else heads_in slots)) opened
    ∙ ap (λ hs. if p (head_of s) then head_of s ∷ hs else hs)
    (none_passes p slots (λ k there. none (suc k) there (λ same. omega (arith, same))))
one_passes p (s ∷ slots) (suc m) none opened =
    ap (filter p) (head_step (is_open s) s (filter is_open slots))
    ∙ go (is_open s) refl (one_passes p slots m (λ k there other. none (suc k) there (λ same. other (omega (arith, same)))) opened)
  where
    go : (b : Bool) → is_open s ≡ b
        → filter p (heads_in slots) ≡ (if p (head_of (slot_at slots m)) then head_of (slot_at slots m) ∷ [] else [])
        → filter p (if b then head_of s ∷ heads_in slots else heads_in slots)
        ≡ (if p (head_of (slot_at slots m)) then head_of (slot_at slots m) ∷ [] else [])
    go true is rest =
        ap (λ c. if c then head_of s ∷ filter p (heads_in slots) else filter p (heads_in slots)) (none zero is (λ same. omega
        (arith, same))) ∙ rest
    go false is rest = rest

-- a head keeps the value of a uid
abbrev pub keeps_under : List Head → Uid → Head → Bool
keeps_under heads uid g = (counts heads g && not g.removal) && eq_by_cmp uid_cmp uid g.uid

abbrev pub heads_under : Option HeadFields → List Head
heads_under None = []
heads_under (Some s) = head_of s ∷ []

third : (a b c : Bool) → (c ≡ true → a ≡ false) → ((a && b) && c) ≡ false
third true b true h = absurd (false≢true (sym (h refl)))
third true true false h = refl
third true false false h = refl
third false b c h = refl

value_or_none : (c r e : Bool) (s : HeadFields) → c ≡ true → e ≡ true
    → (if (c && not r) && e then head_of s ∷ [] else []) ≡ heads_under (if r then None else Some s)
value_or_none true true true s p q = refl
value_or_none true false true s p q = refl
value_or_none false r e s p q = absurd (false≢true p)
value_or_none true true false s p q = absurd (false≢true q)
value_or_none true false false s p q = absurd (false≢true q)

-- The head that keeps the value of a uid in memory is the only one of the open heads that does.
pub kept_one : (slots : List HeadFields) (uid : Uid) (latest : Option ℕ) → AreApart slots → IsLatest slots uid latest
    → filter (keeps_under (heads_in slots) uid) (heads_in slots) ≡ heads_under (kept_slot slots latest)
kept_one slots uid None apart is =
    none_passes (keeps_under (heads_in slots) uid) slots (λ k there.
    third (counts (heads_in slots) (head_of (slot_at slots k))) (not (slot_at slots k).removal) (eq_by_cmp uid_cmp uid
    (slot_at slots k).uid)
    (λ same. absurd (both_ways (is_open_of uid (slot_at slots k)) (is k)
    (is_of (slot_at slots k) uid there (sym (same_uids uid (slot_at slots k).uid same))))))
kept_one slots uid (Some m) apart is =
    let s : HeadFields = slot_at slots m in
    one_passes (keeps_under (heads_in slots) uid) slots m (λ k there other.
    third (counts (heads_in slots) (head_of (slot_at slots k))) (not (slot_at slots k).removal) (eq_by_cmp uid_cmp uid
    (slot_at slots k).uid)
    (λ same. other_counts_not slots uid m k apart is
    (is_of (slot_at slots k) uid there (sym (same_uids uid (slot_at slots k).uid same))) other)) (open_is s uid is.0)
    ∙ value_or_none (counts (heads_in slots) (head_of s)) s.removal (eq_by_cmp uid_cmp uid s.uid) s (latest_counts slots uid m is)
    (ap (eq_by_cmp uid_cmp uid) (uid_is s uid is.0) ∙ same_itself uid)

pub sum_parts : (w : Head → ℕ) (p q : Head → Bool) (hs : List Head)
    → sum_by w (filter (λ h. p h && not (q h)) hs) + sum_by w (filter (λ h. p h && q h) hs) ≡ sum_by w (filter p hs)
sum_parts w p q [] = omega arith
sum_parts w p q (h ∷ hs) = go (p h) (q h) (sum_parts w p q hs)
  where
    out : List Head
    out = filter (λ g. p g && not (q g)) hs

    both : List Head
    both = filter (λ g. p g && q g) hs

    go : (a b : Bool) → sum_by w out + sum_by w both ≡ sum_by w (filter p hs)
        → sum_by w (if a && not b then h ∷ out else out) + sum_by w (if a && b then h ∷ both else both)
        ≡ sum_by w (if a then h ∷ filter p hs else filter p hs)
    go true true rest = omega (arith, rest, sum_by-cons w h both, sum_by-cons w h (filter p hs))
    go true false rest = omega (arith, rest, sum_by-cons w h out, sum_by-cons w h (filter p hs))
    go false b rest = rest

sum_joined : (w : Head → ℕ) (front back : List Head) (h : Head) (b : Bool)
    → sum_by w (front ++ (if b then back else h ∷ back)) ≡ sum_by w (front ++ back) + (if b then 0 else w h)
sum_joined w front back h true = omega arith
sum_joined w front back h false =
    omega (arith, sum_by-append w front (h ∷ back), sum_by-append w front back, sum_by-cons w h back)

-- of the head that keeps a value, or none
abbrev pub weight_of : (Head → ℕ) → Option HeadFields → ℕ
weight_of w None = 0
weight_of w (Some s) = w (head_of s)

pub sum_under : (w : Head → ℕ) (o : Option HeadFields) → sum_by w (heads_under o) ≡ weight_of w o
sum_under w None = omega arith
sum_under w (Some s) = omega (arith, sum_by-cons w (head_of s) [])

-- A change is made: what is summed loses what was kept under its uid, and gains its value.
pub sum_when_joined : (w : Head → ℕ) (slots : List HeadFields) (x : HeadFields) (latest : Option ℕ) → AreApart slots
    → x.number < length slots → is_open (slot_at slots x.number) ≡ false → is_open x ≡ true
    → ((k : ℕ) → (slot_at slots k).sequence < x.sequence) → IsLatest slots x.uid latest
    → sum_by w (keeping (heads_in (set slots x.number x))) + weight_of w (kept_slot slots latest)
    ≡ sum_by w (keeping (heads_in slots)) + (if x.removal then 0 else w (head_of x))
sum_when_joined w slots x latest apart within shut opened later is =
    let n : ℕ = x.number in
    let h : Head = head_of x in
    let front : List Head = front_of slots n in
    let back : List Head = back_of slots n in
    let all : heads_in slots ≡ front ++ back = heads_at_shut slots n within shut in
    let new : heads_in (set slots n x) ≡ front ++ h ∷ back = heads_with_open slots n x within opened in
    let earlier : list_all (is_earlier h) (front ++ back) ≡ true =
    subst (λ hs. list_all (is_earlier h) hs ≡ true) all
    (each_open (is_earlier h) slots (λ k there. lt-ltb (slot_at slots k).sequence x.sequence (later k))) in
    let parts = and_parts (list_all (is_earlier h) front) (list_all (is_earlier h) back)
    (sym (all_append (is_earlier h) front back) ∙ earlier) in
    let counting : counts (front ++ h ∷ back) h ≡ true =
    subst (λ hs. counts hs h ≡ true) new
    (ap (λ s. counts (heads_in (set slots n x)) (head_of s)) (sym (slot_same slots n x within))
    ∙ latest_counts (set slots n x) x.uid n (latest_late slots x.uid n x within (is_of x x.uid opened refl)
    (λ k there. omega (arith, later k)))) in
    let keeps : Head → Bool = λ g. counts (front ++ back) g && not g.removal in
    let beside : Head → Bool = keeps_beside (front ++ back) h in
    let list : keeping (front ++ h ∷ back) ≡ filter beside front ++ (if h.removal then filter beside back else h ∷ filter beside back) =
    keeping_with front back h parts.0 parts.1 counting in
    let one : filter (keeps_under (front ++ back) x.uid) (front ++ back) ≡ heads_under (kept_slot slots latest) =
    subst (λ hs. filter (keeps_under hs x.uid) hs ≡ heads_under (kept_slot slots latest)) all (kept_one slots x.uid latest apart is) in
    let before : sum_by w (keeping (heads_in slots)) ≡ sum_by w (keeping (front ++ back)) = ap (λ hs. sum_by w (keeping hs)) all in
    let after : sum_by w (keeping (heads_in (set slots n x)))
    ≡ sum_by w (filter beside front ++ (if h.removal then filter beside back else h ∷ filter beside back)) =
    ap (λ hs. sum_by w (keeping hs)) new ∙ ap (sum_by w) list in
    let apart_sum : sum_by w (filter beside (front ++ back)) ≡ sum_by w (filter beside front ++ filter beside back) =
    ap (sum_by w) (filter-append beside front back) in
    let under : sum_by w (filter (keeps_under (front ++ back) x.uid) (front ++ back)) ≡ weight_of w (kept_slot slots latest) =
    ap (sum_by w) one ∙ sum_under w (kept_slot slots latest) in
    let two = sum_parts w keeps (same_uid h) (front ++ back) in
    let three = sum_joined w (filter beside front) (filter beside back) h x.removal in
    omega (arith, before, after, apart_sum, under, two, three)
