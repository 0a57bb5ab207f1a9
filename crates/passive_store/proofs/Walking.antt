-- The walk of an opening over the records of a log.
use Rattle.std.proofs.Common.{◌≡◌, ℕ, ◌+◌, ◌-◌, ◌≤◌, ◌<◌, Bool, true, false, cond, IsTrue, List, [], ◌∷◌, ◌++◌, length, take, drop, refl}
use Rattle.std.proofs.Common.{sym, ap, subst, ◌∙◌, arith, append_assoc, length-append, length-drop}
use Rattle.std.specs.Prelude.{◌==◌, ◌&&◌, ◌||◌, not, nat_le, Option, None, Some, IfSome, Result, Ok, Err, map, slice_index, slice_range}
use Rattle.std.specs.Prelude.{if◌then◌else◌}
use Rattle.std.specs.FinMap as finite
use Rattle.std.specs.Ordering.{eq_by_cmp}
use Rattle.std.specs.BTreeMap.{BTreeMap, is_at}
use Rattle.std.specs.Map.{lookup}
use Rattle.std.specs.Option.{option_map, option_and_then}
use Rattle.std.proofs.lemmas.Bool.Decides.{nat_tests}
use Rattle.std.proofs.lemmas.List.{take-append-drop, drop_more, take_at, length-take-le, drop-drop}
use Rattle.capability.specs.declared.Uid.{Uid}
use Rattle.capability.specs.Uids.{uid_cmp}
use Rattle.eden_disk.specs.Told.{Told, contents}
use Rattle.eden_disk.specs.Calls.{Counts, Due, DeviceCalls, Obeyed, Fine}
use Rattle.eden_disk.specs.Timed.{Timed}
use Rattle.eden_disk.proofs.Timed.{timed_join}
use Rattle.passive_store.proofs.Joining.{timed_still}
use Rattle.passive_store.specs.declared.index.Slot.{Slot}
use Rattle.passive_store.specs.declared.records.Header.{Header}
use Rattle.passive_store.specs.Kept.{StoreChange, nothing_kept, kept_after}
use Rattle.passive_store.specs.Kept.{kept_from}
use Rattle.passive_store.specs.Log.{length_of, uid_of, kind_of, body_of, records_of, records_behind, with_record, with_records}
use Rattle.passive_store.specs.Log.{record_of, log_grows, IsFront}
use Rattle.passive_store.specs.LogLayout.{records_before, used_by, body_length}
use Rattle.passive_store.specs.LogState.{IsIndex, SetsSlot, slot_at, slot_of}
use Rattle.passive_store.specs.Records.{IsHeaderAt, IsDamagedAt}
use Rattle.passive_store.specs.Opening.{IsWalk, IsBounded, AreWithinLimit}
use Rattle.passive_store.proofs.Walk.{passed_over, front_more, front_closed, opened_gate, kept_from_more}
use Rattle.passive_store.proofs.Parsing.{parsed, split_test}
use Rattle.passive_store.proofs.Tails.{before_is, index_set, used_more}

-- a list round one of its places
pub around : (bytes : List ℕ) (place : ℕ) → place < length bytes
    → bytes ≡ take place bytes ++ slice_index bytes place ∷ drop (place + 1) bytes
around bytes place h = sym (take-append-drop place bytes) ∙ ap (λ r. take place bytes ++ r) (drop_more bytes place 0 h)

with_none : (found : Result (List StoreChange) ℕ) → with_records [] found ≡ found
with_none (Ok rs) = refl
with_none (Err place) = refl

-- before the first record there is none
first_front : (node : ℕ) (front : List ℕ) → length front ≡ 16 → IsFront node front []
first_front node front long gate rest =
    ap (λ n. records_behind node n 0 (front ++ gate ∷ rest)) (sym long) ∙ passed_over node 0 front (gate ∷ rest)
    ∙ ap (λ n. records_behind node 0 n (gate ∷ rest)) (omega arith) ∙ sym (with_none (records_behind node 0 (length front) (gate ∷ rest)))

pub empty_slots : (index : BTreeMap Uid (Option Slot)) (uid : Uid) → index.entries ≡ [] → slot_at index uid ≡ None
empty_slots index uid none = ap (λ (es : List (Uid × Option Slot)). option_and_then (λ (slot : Option Slot). slot)
    (lookup (is_at (uid_cmp uid)) es)) none

pub walk_begun : (node size : ℕ) (bytes : List ℕ) (index : BTreeMap Uid (Option Slot)) → 17 ≤ size → length bytes ≡ size
    → index.entries ≡ [] → IsWalk node size 16 bytes index × (records_before node 16 bytes ≡ [])
walk_begun node size bytes index room whole none =
    let front : IsFront node (take 16 bytes) [] = first_front node (take 16 bytes) (length-take-le 16 bytes (omega (arith, whole, room))) in
    let found : records_before node 16 bytes ≡ [] = before_is node 16 bytes (take 16 bytes) [] refl front in (
      record {
        whole = whole;
        front = subst (IsFront node (take 16 bytes)) (sym found) front;
        indexed = subst (λ rs. IsIndex index (kept_from nothing_kept rs) 16 bytes) (sym found) (record {
          marks = λ uid. finite.get-empty uid_cmp uid ∙ sym (ap (option_map (λ (s : Slot). s.gate)) (empty_slots index uid none));
          bodies = λ uid. finite.get-empty uid_cmp uid ∙ sym
              (ap (option_map (λ (s : Slot). slice_range bytes (s.gate + 15) (s.gate + 15 + s.length))) (empty_slots index uid none));
        });
        sum = sym (ap (λ rs. 16 + used_by (map body_length rs)) found);
      },
      found,
    )

-- the record that a header tells of
abbrev pub change_at : ℕ → List ℕ → StoreChange
change_at place bytes = let bs = drop (place + 1) bytes in
    record { uid = uid_of bs; body = body_of bs; mark = place; wrote = log_grows (body_of bs) }

empty_removal : (node size uid_node epoch serial kind : ℕ) →
    (nat_le size 262144 && (kind == 1 || (kind == 2 && size == 0)) && uid_node == node &&
    ((epoch == 0 && serial == 0 && kind == 1 && size == 4) || (not (epoch == 0) && not (serial == 0)))) ≡ true → (kind == 1) ≡ false
    → size ≡ 0
empty_removal node size uid_node epoch serial kind fields other = grind (arith, nat_tests)

long_body : (tail size : ℕ) (bs : List ℕ) (uid : Uid) (b : Bool) → (b ≡ false → size ≡ 0) → 14 + size ≤ length bs →
    body_length (record {
      uid = uid;
      body = (if b then Some (slice_range bs 14 (14 + size)) else None);
      mark = tail;
      wrote = log_grows (if b then Some (slice_range bs 14 (14 + size)) else None);
    }) ≡ size
long_body tail size bs uid true empty fits = ap (λ m. length (take m (drop 14 bs))) (omega arith) ∙ length-take-le size (drop 14 bs)
    (omega (arith, fits, length-drop 14 bs))
long_body tail size bs uid false empty fits = sym (empty refl)

-- the body that a header tells of
body_by : (b : Bool) (body : List ℕ) → (if b then Some body else None) ≡ cond (not b) None (Some body)
body_by true body = refl
body_by false body = refl

pub sets_same : (old mid new : BTreeMap Uid (Option Slot)) (uid : Uid) (slot given : Option Slot)
    → ((q : Uid) → slot_at mid q ≡ slot_at old q) → given ≡ slot → SetsSlot mid new uid given → SetsSlot old new uid slot
sets_same old mid new uid slot given same is sets = subst (SetsSlot old new uid) is
    (λ q. sets q ∙ ap (cond (eq_by_cmp uid_cmp q uid) given) (same q))

-- the walk goes on over a record
pub walk_more : (node size tail : ℕ) (bytes : List ℕ) (old mid new : BTreeMap Uid (Option Slot)) (h : Header) (slot : Option Slot)
    → ((uid : Uid) → IfSome (slot_at old uid) (λ (s : Slot). s.gate + 15 + s.length ≤ tail)) →
    tail < size → IsWalk node size tail bytes old → IsHeaderAt node bytes tail (Some h) → ((q : Uid) → slot_at mid q ≡ slot_at old q)
    → slot ≡ slot_of h.removal tail h.length → SetsSlot mid new h.uid slot →
    IsWalk node size (tail + h.length + 15) bytes new
    × (records_before node (tail + h.length + 15) bytes ≡ records_before node tail bytes ++ change_at tail bytes ∷ [])
walk_more node size tail bytes old mid new h slot within ends w at same slots sets =
    let bs : List ℕ = drop (tail + 1) bytes in
    let len : ℕ = length_of bs in
    let size_is : h.length ≡ len = at.2.size in
    let fits = split_test node bs at.1 in
    let bytes_of : List ℕ = take (14 + len) bs in
    let front : List ℕ = take tail bytes in
    let more : List ℕ = front ++ 225 ∷ bytes_of in
    let rs : List StoreChange = records_before node tail bytes in
    let change : StoreChange = change_at tail bytes in
    let long : length bytes_of ≡ 14 + len = length-take-le (14 + len) bs (omega (arith, fits.0)) in
    let front_long : length front ≡ tail = length-take-le tail bytes (omega (arith, w.whole, ends)) in
    let more_long : length more ≡ tail + h.length + 15 = omega (arith, front_long, long, size_is, length-append front (225 ∷ bytes_of)) in
    let split : bytes ≡ more ++ drop (14 + len) bs =
    around bytes tail (omega (arith, w.whole, ends)) ∙ ap (λ g. front ++ g ∷ bs) at.0 ∙ ap (λ l. front ++ 225 ∷ l)
    (sym (take-append-drop (14 + len) bs)) ∙ sym (append_assoc front (225 ∷ bytes_of) (drop (14 + len) bs)) in
    let new_front : take (tail + h.length + 15) bytes ≡ more = ap (take (tail + h.length + 15)) split ∙ take_at more (drop (14 + len) bs)
    (tail + h.length + 15) more_long in
    let goes_on : IsFront node more (rs ++ change ∷ []) =
    subst (λ n. IsFront node more (rs ++ record { uid = uid_of bs; body = body_of bs; mark = n; wrote = log_grows (body_of bs) } ∷ []))
    front_long (front_more node front bytes_of rs (uid_of bs) (body_of bs) w.front (parsed node bs at.1)) in
    let found : records_before node (tail + h.length + 15) bytes ≡ rs ++ change ∷ [] = before_is node (tail + h.length + 15) bytes more
    (rs ++ change ∷ []) new_front goes_on in
    let body : List ℕ = slice_range bytes (tail + 15) (tail + 15 + h.length) in
    let part : slice_range bs 14 (14 + len) ≡ body =
    ap (λ m. take m (drop 14 bs)) (omega (arith, size_is)) ∙ ap (take (tail + 15 + h.length - (tail + 15)))
    (drop-drop 14 (tail + 1) bytes ∙ ap (λ n. drop n bytes) (omega arith)) in
    let of_body : Uid → Option (List ℕ) → StoreChange = λ u b. record { uid = u; body = b; mark = tail; wrote = log_grows b } in
    let change_is : of_body h.uid (cond h.removal None (Some body)) ≡ change =
    ap (λ u. of_body u (cond h.removal None (Some body))) at.2.uid
    ∙ ap (λ b. of_body (uid_of bs) (cond b None (Some body))) at.2.removal
    ∙ ap (λ b. of_body (uid_of bs) b) (sym (body_by (kind_of bs == 1) body) ∙ ap (λ l. if kind_of bs == 1 then Some l else None)
    (sym part)) in
    let set : SetsSlot old new h.uid (slot_of h.removal tail h.length) = sets_same old mid new h.uid
    (slot_of h.removal tail h.length) slot same slots sets in (
      record {
        whole = w.whole;
        front = subst (IsFront node (take (tail + h.length + 15) bytes)) (sym found)
            (subst (λ f. IsFront node f (rs ++ change ∷ [])) (sym new_front) goes_on);
        indexed = subst (λ k. IsIndex new k (tail + h.length + 15) bytes)
            (ap (λ c. kept_after c (kept_from nothing_kept rs)) change_is ∙ sym
            (ap (kept_from nothing_kept) found ∙ kept_from_more nothing_kept rs change))
            (index_set old new (kept_from nothing_kept rs) tail
            (tail + h.length + 15) h.length bytes bytes h.uid h.removal body refl within refl w.indexed set);
        sum = omega (
          arith,
          w.sum,
          size_is,
          used_more rs change,
          long_body tail len bs (uid_of bs) (kind_of bs == 1)
              (λ other. empty_removal node len (uid_of bs).node (uid_of bs).epoch (uid_of bs).serial (kind_of bs) fits.1 other)
              (omega (arith, fits.0)),
        )
            ∙ ap (λ r. 16 + used_by (map body_length r)) (sym found);
      },
      found,
    )

-- the walk ends at a closed gate
pub walk_closed : (node size tail : ℕ) (bytes : List ℕ) (index : BTreeMap Uid (Option Slot)) → tail < size
    → IsWalk node size tail bytes index → (slice_index bytes tail == 225) ≡ false
    → records_of node bytes ≡ Ok (records_before node tail bytes)
walk_closed node size tail bytes index ends w shut =
    ap (records_of node) (around bytes tail (omega (arith, w.whole, ends)))
    ∙ front_closed node (slice_index bytes tail) (take tail bytes) (drop (tail + 1) bytes) (records_before node tail bytes) w.front shut

-- or at a damaged record
pub walk_damaged : (node size tail : ℕ) (bytes : List ℕ) (index : BTreeMap Uid (Option Slot)) → tail < size
    → IsWalk node size tail bytes index → IsDamagedAt node bytes tail → records_of node bytes ≡ Err tail
walk_damaged node size tail bytes index ends w bad =
    let front : List ℕ = take tail bytes in
    let bs : List ℕ = drop (tail + 1) bytes in
    let rs : List StoreChange = records_before node tail bytes in
    ap (records_of node) (around bytes tail (omega (arith, w.whole, ends)) ∙ ap (λ g. front ++ g ∷ bs) bad.0)
    ∙ w.front 225 bs
    ∙ ap (with_records rs) (opened_gate node (length front) bs)
    ∙ ap (λ b. with_records rs (if b then with_record (record_of (length front) bs)
    (records_behind node (14 + length_of bs) (length front + 1) bs) else Err (length front))) bad.1
    ∙ ap (λ n. Err n) (length-take-le tail bytes (omega (arith, w.whole, ends)))

either_slot : (P : Slot → Type 0) (b : Bool) (x y : Option Slot) → IfSome x P → IfSome y P → IfSome (cond b x y) P
either_slot P true x y hx hy = hx
either_slot P false x y hx hy = hy

slot_weaker : (P Q : Slot → Type 0) (slot : Option Slot) → ((s : Slot) → P s → Q s) → IfSome slot P → IfSome slot Q
slot_weaker P Q None h p = tt
slot_weaker P Q (Some s) h p = h s p

slot_made : (P : Slot → Type 0) (removal : Bool) (gate length : ℕ) → P (record { gate = gate; length = length })
    → IfSome (slot_of removal gate length) P
slot_made P true gate length p = tt
slot_made P false gate length p = p

-- a slot that was set keeps what holds of each
slots_set : (P : Slot → Type 0) (old new : BTreeMap Uid (Option Slot)) (uid : Uid) (slot : Option Slot)
    → ((u : Uid) → IfSome (slot_at old u) P) → IfSome slot P → SetsSlot old new uid slot → (u : Uid) → IfSome (slot_at new u) P
slots_set P old new uid slot before here sets u =
    subst (λ o. IfSome o P) (sym (sets u)) (either_slot P (eq_by_cmp uid_cmp u uid) slot (slot_at old u) here (before u))

-- the walk stays within its bounds over a record
pub bounded_more : (size tail length : ℕ) (old new : BTreeMap Uid (Option Slot)) (uid : Uid) (removal : Bool) → IsBounded size tail old
    → tail + length + 16 ≤ size → SetsSlot old new uid (slot_of removal tail length) → IsBounded size (tail + length + 15) new
bounded_more size tail length old new uid removal b fits sets = record {
  begins = omega (arith, b.begins);
  ends = omega (arith, fits);
  slots = slots_set (λ (s : Slot). s.gate + 15 + s.length ≤ tail + length + 15) old new uid (slot_of removal tail length)
      (λ u. slot_weaker (λ (s : Slot). s.gate + 15 + s.length ≤ tail) (λ (s : Slot). s.gate + 15 + s.length ≤ tail + length + 15)
      (slot_at old u) (λ s h. omega (arith, h)) (b.slots u))
      (slot_made (λ (s : Slot). s.gate + 15 + s.length ≤ tail + length + 15) removal tail length (omega arith)) sets;
}

pub limit_more : (tail length : ℕ) (old new : BTreeMap Uid (Option Slot)) (uid : Uid) (removal : Bool) → AreWithinLimit old
    → length ≤ 262144 → SetsSlot old new uid (slot_of removal tail length) → AreWithinLimit new
limit_more tail length old new uid removal before here sets =
    slots_set (λ (s : Slot). s.length ≤ 262144) old new uid (slot_of removal tail length) before
    (slot_made (λ (s : Slot). s.length ≤ 262144) removal tail length here) sets

-- The walk has made some device calls, none of which was refused.
pub record Walking (tells obeys : Bool) (node size tail : ℕ) (start here : Told) (before after : Counts) (due_then due_now : Due)
    (index : BTreeMap Uid (Option Slot)) : Type 0 where
  pub made : ℕ
  pub counts : DeviceCalls made before after Fine
  pub obeyed : IsTrue obeys → Obeyed due_then due_now before after Fine
  pub placed : IsBounded size tail index
  pub limit : AreWithinLimit index
  pub same : IsTrue tells → here ≡ start
  pub walk : IsTrue tells → IsWalk node size tail (take size (contents start).now) index
  pub number : IsTrue tells → made ≡ length (records_before node tail (take size (contents start).now))

-- one more read, however it ended
pub walk_timed : (tells obeys : Bool) (node size tail : ℕ) (start here next : Told) (before between : Counts) (after : ℕ)
    (due_then due_now : Due) (index : BTreeMap Uid (Option Slot)) → IsTrue tells →
    Walking tells obeys node size tail start here before between due_then due_now index → Timed between.clock here after next
    → Timed before.clock start after next
walk_timed tells obeys node size tail start here next before between after due_then due_now index so w timed =
    timed_join before.clock between.clock after start here next
    (timed_still before.clock between.clock start here (omega (arith, w.counts.clock)) (w.same so)) timed
