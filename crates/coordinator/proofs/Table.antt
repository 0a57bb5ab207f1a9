-- The slots as the processes of a crew.
use Rattle.std.proofs.Common.{◌≡◌, ◌≤◌, ◌<◌, ℕ, zero, suc, ◌+◌, ◌-◌, ◌==◌, Bool, true, false, cond, not, List, [], ◌∷◌, ◌++◌, map, length}
use Rattle.std.proofs.Common.{take, get_or, Option, None, Some, refl, sym, ◌∙◌, ap, arith}
use Rattle.std.proofs.lemmas.Bool.{eqb-true}
use Rattle.std.proofs.lemmas.Bool.Decides.{nat_tests}
use Rattle.std.proofs.lemmas.List.Sums.{sum_by-cons}
use Rattle.std.proofs.lemmas.List.{map-append, take_more}
use Rattle.std.proofs.lemmas.List.Elements.{filter_map-append}
use Rattle.std.proofs.Common.{append_assoc}
use Rattle.std.specs.Prelude.{◌||◌, ◌↔◌, count_by, filter_map, option_to_list}
use Rattle.std.specs.List.{filter, find, list_any, insert, cons_option}
use Rattle.std.specs.Option.{option_map}
use Rattle.std.specs.Ordering.{nat_cmp, eq_by_cmp}
use Rattle.std.specs.declared.cmp.Ordering.{Ordering}
use Rattle.std.specs.declared.cmp.Ordering.TheVariants.{Less, Equal, Greater}
use Rattle.std.specs.FinMap.Entries.{by_order}
use Rattle.std.specs.FinMap.{nat_cmp-IsAntisymmetric}
use Rattle.eden_model.specs.Map.{value_at, put_at, where_key, with_item}
use Rattle.eden_model.specs.Crew.{Process, Monitor, Condition, Invocation, nothing, outside, waits_at, with_waits, declared_from, is_taken}
use Rattle.eden_model.specs.Crew.{class_is, serves_class, may_start, pair_of, serving_pairs}
use Rattle.eden_model.proofs.Numbers.{same-true, same-self}
use Rattle.coordinator.specs.declared.slots.Slot.{Slot}
use Rattle.coordinator.specs.declared.slots.Serving.{Serving}
use Rattle.coordinator.specs.declared.slots.Waits.{Waits}
use Rattle.coordinator.specs.declared.slots.Waits.TheVariants as waits
use Rattle.coordinator.specs.Fields.{slot_pair, with_slot, is_class, slot_serves, next_serving, is_slot_past}
use Rattle.coordinator.specs.Ready.{call_served, is_ready, is_ready_past, next_ready}
use Rattle.coordinator.specs.View.{process_of, invocation_of, waiting_of}

-- 1. New slots

pub declared-more : (k n d : ℕ) → n < d
    → declared_from k (d - n) ≡ (k, record { serves = None; waits = nothing }) ∷ declared_from (k + 1) (d - (n + 1))
declared-more k n d h = let e : d - n ≡ suc (d - (n + 1)) = omega arith in rw e refl

pub declared-end : (k n d : ℕ) → d ≤ n → declared_from k (d - n) ≡ []
declared-end k n d h = let e : d - n ≡ 0 = omega arith in rw e refl

-- 2. Who waits

slot-waits : (p : ℕ) (w : Waits) (s : Slot) → process_of (with_slot p w s) ≡ with_waits p (waiting_of w) (process_of s)
slot-waits p w s = elim (s.number == p) as (λ b. process_of (cond b (record s { waits = w }) s) ≡
    (s.number, cond b (record (process_of s).1 { waits = waiting_of w }) (process_of s).1)) [ true ↦ refl | false ↦ refl ]

pub slots-wait : (p : ℕ) (w : Waits) (slots : List Slot)
    → map process_of (map (with_slot p w) slots) ≡ map (with_waits p (waiting_of w)) (map process_of slots)
slots-wait p w [] = refl
slots-wait p w (s ∷ slots) = rw (slot-waits p w s, slots-wait p w slots) refl

pub value-found : (p : ℕ) (slots : List Slot)
    → value_at nat_cmp p (map process_of slots) ≡ option_map (λ (s : Slot). (process_of s).1) (find (λ s. s.number == p) slots)
value-found p [] = refl
value-found p (s ∷ slots) = go (eq_by_cmp nat_cmp p s.number) refl (s.number == p) refl (value-found p slots)
  where
    go : (a : Bool) → eq_by_cmp nat_cmp p s.number ≡ a → (b : Bool) → (s.number == p) ≡ b
        → value_at nat_cmp p (map process_of slots) ≡ option_map (λ (t : Slot). (process_of t).1) (find (λ t. t.number == p) slots)
        → cond (eq_by_cmp nat_cmp p s.number) (Some (process_of s).1) (value_at nat_cmp p (map process_of slots))
        ≡ option_map (λ (t : Slot). (process_of t).1) (cond (s.number == p) (Some s) (find (λ t. t.number == p) slots))
    go true a true b ih = rw (a, b) refl
    go true a false b ih = let x : p ≡ s.number = same-true p s.number a in
        absurd (let bad : true ≡ false = sym (grind (arith, x)) ∙ b in cc)
    go false a true b ih = let x : s.number ≡ p = eqb-true s.number p b in
        let bad : true ≡ false = sym (same-self p) ∙ ap (λ k. eq_by_cmp nat_cmp p k) (sym x) ∙ a in cc
    go false a false b ih = rw (a, b) ih

pub waits-found : (p : ℕ) (slots : List Slot)
    → waits_at p (map process_of slots) ≡ option_map (λ (s : Slot). waiting_of s.waits) (find (λ s. s.number == p) slots)
waits-found p slots = ap (option_map (λ (it : Process). it.waits)) (value-found p slots) ∙ go (find (λ s. s.number == p) slots)
  where
    go : (o : Option Slot) → option_map (λ (it : Process). it.waits) (option_map (λ (s : Slot). (process_of s).1) o) ≡ option_map
        (λ (s : Slot). waiting_of s.waits) o
    go None = refl
    go (Some s) = refl

-- the call that a process serves is that of its slot
pub served-found : (p : ℕ) (slots : List Slot)
    → call_served p (map process_of slots) ≡ with_item (find (λ s. s.number == p) slots)
    (λ (s : Slot). option_map (λ (t : Serving). t.call) s.serves) None
served-found p slots = ap (λ o. with_item o (λ (it : Process). option_map (λ (i : Invocation). i.call) it.serves) None)
    (value-found p slots) ∙ go (find (λ s. s.number == p) slots)
  where
    by : (o : Option Serving) → option_map (λ (i : Invocation). i.call) (option_map invocation_of o) ≡ option_map
        (λ (t : Serving). t.call) o
    by None = refl
    by (Some t) = refl

    go : (o : Option Slot) → with_item (option_map (λ (s : Slot). (process_of s).1) o)
        (λ (it : Process). option_map (λ (i : Invocation). i.call) it.serves) None ≡ with_item o
        (λ (s : Slot). option_map (λ (t : Serving). t.call) s.serves) None
    go None = refl
    go (Some s) = by s.serves

-- the first process past a number that waits for nothing is that of the first such slot
pub ready-found : (n : ℕ) (slots : List Slot)
    → next_ready n (map process_of slots) ≡ option_map (λ (s : Slot). s.number) (find (is_slot_past n) slots)
ready-found n [] = refl
ready-found n (s ∷ slots) = go (is_slot_past n s) (ready-found n slots)
  where
    go : (b : Bool) → next_ready n (map process_of slots) ≡ option_map (λ (t : Slot). t.number) (find (is_slot_past n) slots)
        → option_map (λ (e : ℕ × Process). e.0) (cond b (Some (process_of s)) (find (is_ready_past n) (map process_of slots))) ≡ option_map
        (λ (t : Slot). t.number) (cond b (Some s) (find (is_slot_past n) slots))
    go true ih = refl
    go false ih = ih

pub is-nothing : (w : Waits) → waiting_of w ≡ nothing → w ≡ waits.Nothing
is-nothing waits.Nothing e = refl
is-nothing waits.Outside e = cc
is-nothing (waits.Entry m) e = cc
is-nothing (waits.Condition c) e = cc

pub is-outside : (w : Waits) → waiting_of w ≡ outside → w ≡ waits.Outside
is-outside waits.Nothing e = cc
is-outside waits.Outside e = refl
is-outside (waits.Entry m) e = cc
is-outside (waits.Condition c) e = cc

-- it waits for nothing where its slot says so
pub ready-is : (w : Waits) → (is_ready (waiting_of w) ≡ true) ↔ (w ≡ waits.Nothing)
ready-is waits.Nothing = (λ h. refl, λ h. refl)
ready-is waits.Outside = (λ h. absurd (let bad : false ≡ true = h in cc), λ h. cc)
ready-is (waits.Entry m) = (λ h. absurd (let bad : false ≡ true = h in cc), λ h. cc)
ready-is (waits.Condition c) = (λ h. absurd (let bad : false ≡ true = h in cc), λ h. cc)

-- 3. Free numbers

pub taken-slots : (n : ℕ) (slots : List Slot) → list_any (λ s. s.number == n) slots ≡ is_taken n (map process_of slots)
taken-slots n [] = refl
taken-slots n (s ∷ slots) = ap (λ b. (s.number == n) || b) (taken-slots n slots)

nat-less : (a b : ℕ) → a < b → nat_cmp a b ≡ Less
nat-less a b h = grind (arith, nat_tests)

pub put-insert : (slots : List Slot) (i n : ℕ) (s : Slot) → s.number ≡ n → i ≤ length slots
    → ((k : ℕ) (d : Slot) → k < i → (get_or slots k d).number ≤ n) → ((d : Slot) → i < length slots → n < (get_or slots i d).number)
    → is_taken n (map process_of slots) ≡ false
    → map process_of (insert slots i s) ≡ put_at nat_cmp n (process_of s).1 (map process_of slots)
put-insert [] zero n s same within before behind free = rw same refl
put-insert [] (suc i) n s same within before behind free = absurd (omega arith)
put-insert (t ∷ slots) zero n s same within before behind free = rw (same, nat-less n t.number (behind t (omega arith))) refl
put-insert (t ∷ slots) (suc i) n s same within before behind free =
    go (nat_cmp n t.number) refl (t.number == n) refl (put-insert slots i n s same (omega arith) (λ k d h. before (suc k) d (omega arith))
    (λ d h. behind d (omega arith)))
  where
    is : (t.number == n || is_taken n (map process_of slots)) ≡ false
    is = free

    go : (o : Ordering) → nat_cmp n t.number ≡ o → (b : Bool) → (t.number == n) ≡ b
        → (is_taken n (map process_of slots) ≡ false
        → map process_of (insert slots i s) ≡ put_at nat_cmp n (process_of s).1 (map process_of slots))
        → process_of t ∷ map process_of (insert slots i s) ≡ by_order (nat_cmp n t.number)
        ((n, (process_of s).1) ∷ process_of t ∷ map process_of slots) ((t.number, (process_of s).1) ∷ map process_of slots)
        (process_of t ∷ put_at nat_cmp n (process_of s).1 (map process_of slots))
    go o e true b ih = let bad : true ≡ false = rw b at is in cc
    go Less e false b ih = absurd (let least = before 0 t (omega arith) in omega (arith, less-than n t.number e))
      where
        less-than : (a b : ℕ) → nat_cmp a b ≡ Less → a < b
        less-than a b h = grind (arith, nat_tests)
    go Equal e false b ih = let same : n ≡ t.number = nat_cmp-IsAntisymmetric n t.number e in
        absurd (let bad : true ≡ false = sym (grind (arith, same)) ∙ b in cc)
    go Greater e false b ih = rw e (ap (λ xs. process_of t ∷ xs) (ih (rw b at is)))

-- 4. Starts

class-is : (c : ℕ) (o : Option Serving) → class_is c (option_map invocation_of o) ≡ is_class c o
class-is c None = refl
class-is c (Some s) = refl

served-is : (c : ℕ) (slots : List Slot)
    → count_by (λ (e : ℕ × Process). serves_class c e.1) (map process_of slots) ≡ count_by (slot_serves c) slots
served-is c [] = refl
served-is c (s ∷ slots) =
    sum_by-cons (λ (e : ℕ × Process). cond (serves_class c e.1) 1 0) (process_of s) (map process_of slots)
    ∙ ap (λ b. cond b 1 0 + count_by (λ (e : ℕ × Process). serves_class c e.1) (map process_of slots)) (class-is c s.serves)
    ∙ ap (λ n. cond (is_class c s.serves) 1 0 + n) (served-is c slots)
    ∙ sym (sum_by-cons (λ (t : Slot). cond (slot_serves c t) 1 0) s slots)

pub startable-found : (slots : List Slot) (limits : List ℕ) (ms : List Monitor) (cs : List Condition) (queued : List Invocation)
    → find (next_serving slots limits) queued ≡ find
    (may_start (record { limits = limits; processes = map process_of slots; monitors = ms; conditions = cs })) queued
startable-found slots limits ms cs [] = refl
startable-found slots limits ms cs (q ∷ queued) = rw (served-is q.class slots)
    (ap (cond (next_serving slots limits q) (Some q)) (startable-found slots limits ms cs queued))

pub slots-removed : (p : ℕ) (slots : List Slot)
    → map process_of (filter (λ s. not (s.number == p)) slots) ≡ where_key nat_cmp (λ k. not (k == p)) (map process_of slots)
slots-removed p [] = refl
slots-removed p (s ∷ slots) = go (s.number == p) (slots-removed p slots)
  where
    go : (b : Bool) → map process_of (filter (λ t. not (t.number == p)) slots) ≡ where_key nat_cmp (λ k. not (k == p))
        (map process_of slots)
        → map process_of (cond (not b) (s ∷ filter (λ t. not (t.number == p)) slots) (filter (λ t. not (t.number == p)) slots)) ≡ cond
        (not b) (process_of s ∷ where_key nat_cmp (λ k. not (k == p)) (map process_of slots))
        (where_key nat_cmp (λ k. not (k == p)) (map process_of slots))
    go true ih = ih
    go false ih = ap (λ xs. process_of s ∷ xs) ih

pub length-filter_le : {X : Type 0} (p : X → Bool) (xs : List X) → length (filter p xs) ≤ length xs
length-filter_le p [] = omega arith
length-filter_le p (x ∷ xs) = go (p x) (length-filter_le p xs)
  where
    go : (b : Bool) → length (filter p xs) ≤ length xs → length (cond b (x ∷ filter p xs) (filter p xs)) ≤ length (x ∷ xs)
    go true ih = omega arith
    go false ih = omega arith

pub declared-pushed : (slots : List Slot) (s : Slot) (n d : ℕ) → n < d → process_of s ≡ (n + 1, record { serves = None; waits = nothing })
    → map process_of slots ++ declared_from (n + 1) (d - n) ≡ declared_from 1 d
    → map process_of (slots ++ s ∷ []) ++ declared_from (n + 1 + 1) (d - (n + 1)) ≡ declared_from 1 d
declared-pushed slots s n d h same before =
    rw (
      map-append process_of slots (s ∷ []),
      append_assoc (map process_of slots) (process_of s ∷ [])
          (declared_from (n + 1 + 1) (d - (n + 1))),
      same,
      ← declared-more (n + 1) n d h,
    ) before

-- 5. Parts

pair-is : (s : Slot) → pair_of (process_of s) ≡ slot_pair s
pair-is s = go s.serves
  where
    go : (o : Option Serving) → option_map {U = ℕ × ℕ} (λ (i : Invocation). (s.number, i.call)) (option_map invocation_of o)
        ≡ option_map {U = ℕ × ℕ} (λ (t : Serving). (s.number, t.call)) o
    go None = refl
    go (Some t) = refl

pub pairs-are : (slots : List Slot) → filter_map slot_pair slots ≡ serving_pairs (map process_of slots)
pairs-are [] = refl
pairs-are (s ∷ slots) = rw (pair-is s, pairs-are slots) refl

pub pairs-more : (slots : List Slot) (i : ℕ) (d : Slot) → i < length slots
    → filter_map slot_pair (take (i + 1) slots) ≡ filter_map slot_pair (take i slots) ++ option_to_list (slot_pair (get_or slots i d))
pairs-more slots i d h = ap (filter_map slot_pair) (take_more slots i d h)
    ∙ filter_map-append slot_pair (take i slots) (get_or slots i d ∷ [])
    ∙ ap (λ xs. filter_map slot_pair (take i slots) ++ xs) (go (slot_pair (get_or slots i d)))
  where
    go : (o : Option (ℕ × ℕ)) → cons_option o [] ≡ option_to_list o
    go None = refl
    go (Some x) = refl
