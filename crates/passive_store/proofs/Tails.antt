-- How the log of a store stands after its device calls.
use Rattle.std.proofs.Common.{◌≡◌, ℕ, ◌+◌, ◌-◌, ◌≤◌, ◌<◌, Bool, true, false, cond, List, [], ◌∷◌, ◌++◌, length, take, drop, get_or, refl}
use Rattle.std.proofs.Common.{sym, ap, subst, ◌∙◌, inl, inr, arith, append_assoc, length-append}
use Rattle.std.specs.Prelude.{◌==◌, IfSome, map, Option, None, Some, slice_index, slice_range, Ok, if◌then◌else◌}
use Rattle.std.specs.Option.{option_map}
use Rattle.std.specs.FinMap as finite
use Rattle.std.specs.FinMap.{FinMap}
use Rattle.std.specs.Ordering.{eq_by_cmp}
use Rattle.std.specs.Cmp.{eq_by_cmp_equiv}
use Rattle.std.specs.BTreeMap.{BTreeMap}
use Rattle.std.proofs.lemmas.List.{length-take-le, take-append-drop, drop_more, take_all, take_at, drop_at, get_or_at, get_or-take}
use Rattle.std.proofs.lemmas.List.{drop-drop, drop-append-le, take-append-le, length-drop, drop-take, take-take}
use Rattle.std.proofs.lemmas.Bool.{cases_lt, false≢true}
use Rattle.capability.specs.declared.Uid.{Uid}
use Rattle.capability.specs.Uids.{uid_cmp}
use Rattle.capability.proofs.Uids.{uid_cmp_total}
use Rattle.eden_disk.specs.Told.{Told, Contents, contents, at_rest, LeavesOnly}
use Rattle.eden_disk.specs.Told.{Left, EachMoment}
use Rattle.eden_disk.specs.Calls.{Counts}
use Rattle.eden_disk.specs.Held.{Holds}
use Rattle.eden_disk.proofs.Held.{only_now, moments_weaker}
use Rattle.passive_store.specs.declared.index.Slot.{Slot}
use Rattle.passive_store.specs.declared.log_store.Pending.{Pending}
use Rattle.passive_store.specs.Kept.{StoreChange, Kept, Idle, nothing_kept, kept_after, kept_from, kept_by, marks_after, bodies_after}
use Rattle.passive_store.specs.Kept.{IsAnyOf, IsFresh, Stands, changes_in, doubt_in}
use Rattle.passive_store.specs.Log.{records_of, IsFront, HalfWritten, Unwritten, log_map, log_grows}
use Rattle.passive_store.specs.declared.log_store.Stage.{Stage}
use Rattle.passive_store.specs.declared.log_store.Stage.TheVariants.{Begun, Written, Synced, Opened, Ended}
use Rattle.passive_store.specs.LogLayout.{log_layout, log_changes, records_before, records_or_none, records_found, used_by, body_length}
use Rattle.passive_store.specs.LogState.{pending_body, slot_at, slot_of, SetsSlot, IsIndex, IsTailOf, IsPendingOf, IsLog, IsPlaced}
use Rattle.passive_store.specs.LogState.{IsUntouched, staged, change_of, pending_work}
use Rattle.passive_store.proofs.Walk.{front_more, front_closed, kept_from_more, log_stands_there}

-- an image in which a record is being written begins with its front
pub half_front : (size : ℕ) (front bytes image : List ℕ) → HalfWritten size front bytes image → take (length front) image ≡ front
half_front size front bytes image (whole, inl closed) = ap (take (length front)) closed.3 ∙ take_at front (closed.0 ∷ closed.1)
    (length front) refl
half_front size front bytes image (whole, inr opened) = ap (take (length front)) opened.1 ∙ take_at front (225 ∷ (bytes ++ opened.0))
    (length front) refl

-- a record that is being written stands behind its front
half_long : (size : ℕ) (front bytes image : List ℕ) → HalfWritten size front bytes image → length front + 1 ≤ length image
half_long size front bytes image (whole, inl closed) = omega (arith, ap length closed.3, length-append front (closed.0 ∷ closed.1))
half_long size front bytes image (whole, inr opened) = omega (arith, ap length opened.1, length-append front (225 ∷ (bytes ++ opened.0)))

-- what the walk before the tail finds
pub before_is : (node tail : ℕ) (bytes front : List ℕ) (rs : List StoreChange) → take tail bytes ≡ front → IsFront node front rs
    → records_before node tail bytes ≡ rs
before_is node tail bytes front rs same f = ap (λ l. records_or_none (records_of node (l ++ 0 ∷ []))) same ∙ ap records_or_none
    (front_closed node 0 front [] rs f refl)

-- the place of the gate where the log ends
pub gate_behind : (front rest : List ℕ) (gate : ℕ) → slice_index (front ++ gate ∷ rest) (length front) ≡ gate
gate_behind front rest gate = get_or_at front gate rest 0 (length front) refl

-- bytes below a place are the same in lists with the same front
pub same_below : (xs ys : List ℕ) (n k : ℕ) → take n xs ≡ take n ys → k < n → slice_index xs k ≡ slice_index ys k
same_below xs ys n k same below = sym (get_or-take n xs k 0 below) ∙ ap (λ l. get_or l k 0) same ∙ get_or-take n ys k 0 below

part_below : (xs : List ℕ) (i m n : ℕ) → i + m ≤ n → take m (drop i xs) ≡ take m (drop i (take n xs))
part_below xs i m n h = sym (drop-take i m xs) ∙ ap (drop i) (sym (take-take (i + m) n xs h)) ∙ drop-take i m (take n xs)

pub same_part : (xs ys : List ℕ) (n i j : ℕ) → take n xs ≡ take n ys → j ≤ n → slice_range xs i j ≡ slice_range ys i j
same_part xs ys n i j same within = elim (cases_lt j i) [
  | inl none ↦ let zero_long : j - i ≡ 0 = omega arith in
      ap (λ m. take m (drop i xs)) zero_long ∙ sym (ap (λ m. take m (drop i ys)) zero_long)
  | inr some ↦ let fits : i + (j - i) ≤ n = omega arith in
      part_below xs i (j - i) n fits ∙ ap (λ l. take (j - i) (drop i l)) same ∙ sym (part_below ys i (j - i) n fits)
]

moved_slot : (tail : ℕ) (xs ys : List ℕ) → take tail xs ≡ take tail ys → (slot : Option Slot)
    → IfSome slot (λ (s : Slot). s.gate + 15 + s.length ≤ tail) →
    option_map (λ (s : Slot). slice_range xs (s.gate + 15) (s.gate + 15 + s.length)) slot ≡ option_map
    (λ (s : Slot). slice_range ys (s.gate + 15) (s.gate + 15 + s.length)) slot
moved_slot tail xs ys same None within = refl
moved_slot tail xs ys same (Some s) within = ap (λ l. Some l) (same_part xs ys tail (s.gate + 15) (s.gate + 15 + s.length) same within)

-- with the same front the same is kept, under the same index
pub same_index : (index : BTreeMap Uid (Option Slot)) (kept : Kept) (tail : ℕ) (xs ys : List ℕ) → take tail xs ≡ take tail ys
    → ((uid : Uid) → IfSome (slot_at index uid) (λ (s : Slot). s.gate + 15 + s.length ≤ tail)) → IsIndex index kept tail xs
    → IsIndex index kept tail ys
same_index index kept tail xs ys same within i =
    record { marks = i.marks; bodies = λ uid. i.bodies uid ∙ moved_slot tail xs ys same (slot_at index uid) (within uid) }

-- After a device call that keeps the record half written, the same log stands there.
pub moved : (node size tail : ℕ) (c d : Contents) (index : BTreeMap Uid (Option Slot)) (q : Option Pending) (p : Pending) →
    16 ≤ tail → tail + 1 ≤ size → ((uid : Uid) → IfSome (slot_at index uid) (λ (s : Slot). s.gate + 15 + s.length ≤ tail)) →
    IsLog node size tail c index q → Holds (HalfWritten size (take tail c.now) p.bytes.items) d
    → IsPendingOf node tail (kept_from nothing_kept (records_before node tail c.now)) p → IsUntouched tail d p.stage →
    IsLog node size tail d index (Some p)
moved node size tail c d index q p begins ends within l h is untouched =
    let at : length (take tail c.now) ≡ tail = length-take-le tail c.now (omega (arith, l.whole)) in
    let same : take tail d.now ≡ take tail c.now = subst (λ n. take n d.now ≡ take tail c.now) at
    (half_front size (take tail c.now) p.bytes.items d.now h.now) in
    let rs : records_before node tail d.now ≡ records_before node tail c.now = ap
    (λ f. records_or_none (records_of node (f ++ 0 ∷ []))) same in
    record {
      whole = h.now.0;
      header = same_below d.now c.now tail 0 same (omega arith) ∙ l.header;
      front = subst (λ r. IsFront node (take tail d.now) r) (sym rs)
          (subst (λ f. IsFront node f (records_before node tail c.now)) (sym same) l.front);
      indexed = subst (λ r. IsIndex index (kept_from nothing_kept r) tail d.now) (sym rs)
          (same_index index (kept_from nothing_kept (records_before node tail c.now)) tail c.now d.now (sym same) within l.indexed);
      sum = l.sum ∙ ap (λ r. 16 + used_by (map body_length r)) (sym rs);
      end = (
        subst (λ f. Holds (HalfWritten size f p.bytes.items) d) (sym same) h,
        subst (λ r. IsPendingOf node tail (kept_from nothing_kept r) p) (sym rs) is,
        untouched,
      );
    }

-- The record was not written.
pub found_shut : (node size tail : ℕ) (c : Contents) (index : BTreeMap Uid (Option Slot)) (q : Option Pending) →
    IsLog node size tail c index q → (slice_index c.now tail == 225) ≡ false → IsLog node size tail (at_rest c.now) index None
found_shut node size tail c index q l shut =
    record { whole = l.whole; header = l.header; front = l.front; indexed = l.indexed; sum = l.sum; end = (refl, shut) }

map_choice : {A B : Type 0} (f : A → B) (b : Bool) (x y : Option A) → option_map f (cond b x y) ≡ cond b (option_map f x) (option_map f y)
map_choice f true x y = refl
map_choice f false x y = refl

marks_set : (removal : Bool) (uid q : Uid) (body : List ℕ) (mark length : ℕ) (m : FinMap uid_cmp ℕ) →
    finite.get (marks_after uid (cond removal None (Some body)) mark m) q ≡ cond (eq_by_cmp uid_cmp q uid)
    (option_map (λ (s : Slot). s.gate) (slot_of removal mark length)) (finite.get m q)
marks_set true uid q body mark length m = finite.get-remove uid_cmp_total m uid q
marks_set false uid q body mark length m = finite.get-insert uid_cmp_total m uid mark q

bodies_set : (removal : Bool) (uid q : Uid) (body : List ℕ) (part : Slot → List ℕ) (mark length : ℕ) (m : FinMap uid_cmp (List ℕ))
    → part (record { gate = mark; length = length }) ≡ body →
    finite.get (bodies_after uid (cond removal None (Some body)) m) q ≡ cond (eq_by_cmp uid_cmp q uid)
    (option_map part (slot_of removal mark length)) (finite.get m q)
bodies_set true uid q body part mark length m is = finite.get-remove uid_cmp_total m uid q
bodies_set false uid q body part mark length m is = finite.get-insert uid_cmp_total m uid body q ∙ ap
    (λ b. cond (eq_by_cmp uid_cmp q uid) (Some b) (finite.get m q)) (sym is)

-- the index goes along with what is kept
pub index_set : (old new : BTreeMap Uid (Option Slot)) (kept : Kept) (tail end length : ℕ) (xs ys : List ℕ) (uid : Uid) (removal : Bool)
    (body : List ℕ) →
    take tail ys ≡ take tail xs → ((q : Uid) → IfSome (slot_at old q) (λ (s : Slot). s.gate + 15 + s.length ≤ tail)) →
    slice_range ys (tail + 15) (tail + 15 + length) ≡ body →
    IsIndex old kept tail xs → SetsSlot old new uid (slot_of removal tail length) →
    IsIndex new (kept_after (record {
      uid = uid;
      body = cond removal None (Some body);
      mark = tail;
      wrote = log_grows (cond removal None (Some body));
    }) kept) end ys
index_set old new kept tail end length xs ys uid removal body same within part i sets = record {
  marks = λ q. marks_set removal uid q body tail length kept.marks ∙ ap (cond (eq_by_cmp uid_cmp q uid) _) (i.marks q)
      ∙ sym (ap (option_map (λ (s : Slot). s.gate)) (sets q) ∙ map_choice (λ (s : Slot). s.gate) (eq_by_cmp uid_cmp q uid)
      (slot_of removal tail length) (slot_at old q));
  bodies = λ q. bodies_set removal uid q body (λ s. slice_range ys (s.gate + 15) (s.gate + 15 + s.length)) tail length kept.bodies part
      ∙ ap (cond (eq_by_cmp uid_cmp q uid) _) (i.bodies q ∙ moved_slot tail xs ys (sym same) (slot_at old q) (within q))
      ∙ sym (ap (option_map (λ (s : Slot). slice_range ys (s.gate + 15) (s.gate + 15 + s.length))) (sets q) ∙ map_choice
      (λ (s : Slot). slice_range ys (s.gate + 15) (s.gate + 15 + s.length)) (eq_by_cmp uid_cmp q uid) (slot_of removal tail length)
      (slot_at old q));
}

part_behind : (front record_bytes rest : List ℕ) (tail len : ℕ) → length front ≡ tail → 14 + len ≤ length record_bytes →
    take len (drop (tail + 15) (front ++ 225 ∷ (record_bytes ++ rest))) ≡ take len (drop 14 record_bytes)
part_behind front record_bytes rest tail len at long =
    let gate : length (front ++ 225 ∷ []) ≡ tail + 1 = omega (arith, at, length-append front (225 ∷ [])) in
    let whole : List ℕ = front ++ 225 ∷ (record_bytes ++ rest) in
    let behind : drop (tail + 1) whole ≡ record_bytes ++ rest = ap (drop (tail + 1))
    (sym (append_assoc front (225 ∷ []) (record_bytes ++ rest))) ∙ drop_at (front ++ 225 ∷ []) (record_bytes ++ rest) (tail + 1) gate in
    let body : drop (tail + 15) whole ≡ drop 14 record_bytes ++ rest =
    ap (λ n. drop n whole) (omega arith) ∙ sym (drop-drop 14 (tail + 1) whole) ∙ ap (drop 14) behind ∙ drop-append-le 14 record_bytes rest
    (omega arith) in
    ap (take len) body ∙ take-append-le len (drop 14 record_bytes) rest (omega (arith, length-drop 14 record_bytes))

pub used_more : (rs : List StoreChange) (r : StoreChange)
    → used_by (map body_length (rs ++ r ∷ [])) ≡ used_by (map body_length rs) + (15 + body_length r)
used_more [] r = omega arith
used_more (x ∷ rs) r = ap (λ n. 15 + body_length x + n) (used_more rs r) ∙ omega arith

-- The record stands at the tail: the log has it.
pub grown : (node size tail : ℕ) (c : Contents) (bytes rest : List ℕ) (old new : BTreeMap Uid (Option Slot)) (q : Option Pending)
    (p : Pending) →
    16 ≤ tail → tail + 1 ≤ size → ((uid : Uid) → IfSome (slot_at old uid) (λ (s : Slot). s.gate + 15 + s.length ≤ tail)) →
    IsLog node size tail c old q → IsPendingOf node tail (kept_from nothing_kept (records_before node tail c.now)) p →
    length bytes ≡ size → bytes ≡ take tail c.now ++ 225 ∷ (p.bytes.items ++ rest)
    → SetsSlot old new p.uid (slot_of p.removal tail p.length) →
    IsLog node size (tail + p.length + 15) (at_rest bytes) new None
    × (records_before node (tail + p.length + 15) bytes ≡ records_before node tail c.now ++ change_of tail p ∷ [])
grown node size tail c bytes rest old new q p begins ends within l is whole stands sets =
    let front : List ℕ = take tail c.now in
    let at : length front ≡ tail = length-take-le tail c.now (omega (arith, l.whole)) in
    let more : List ℕ = front ++ 225 ∷ is.bytes in
    let change : StoreChange = change_of tail p in
    let rs : List StoreChange = records_before node tail c.now in
    let split : bytes ≡ more ++ 0 ∷ rest = stands ∙ ap (λ r. front ++ 225 ∷ (r ++ rest)) is.is ∙ ap (λ r. front ++ 225 ∷ r)
    (append_assoc is.bytes (0 ∷ []) rest) ∙ sym (append_assoc front (225 ∷ is.bytes) (0 ∷ rest)) in
    let size_is : length more ≡ tail + p.length + 15 = omega (arith, at, is.size, length-append front (225 ∷ is.bytes)) in
    let new_front : take (tail + p.length + 15) bytes ≡ more = ap (take (tail + p.length + 15)) split ∙ take_at more (0 ∷ rest)
    (tail + p.length + 15) size_is in
    let same : take tail bytes ≡ take tail c.now = ap (take tail) stands ∙ take_at front (225 ∷ (p.bytes.items ++ rest)) tail at in
    let goes_on : IsFront node more (rs ++ change ∷ []) = subst (λ n. IsFront node more (rs ++ change_of n p ∷ [])) at
    (front_more node front is.bytes rs p.uid (pending_body p) l.front is.spells) in
    let found : records_before node (tail + p.length + 15) bytes ≡ rs ++ change ∷ [] = before_is node (tail + p.length + 15) bytes more
    (rs ++ change ∷ []) new_front goes_on in
    let part : slice_range bytes (tail + 15) (tail + 15 + p.length) ≡ slice_range p.bytes.items 14 (14 + p.length) =
    ap (λ n. take n (drop (tail + 15) bytes)) (omega arith) ∙ ap (λ l. take p.length (drop (tail + 15) l)) stands
    ∙ part_behind front p.bytes.items rest tail p.length at (omega (arith, ap length is.is, length-append is.bytes (0 ∷ []), is.size))
    ∙ ap (λ n. take n (drop 14 p.bytes.items)) (omega arith) in (
      record {
        whole = whole;
        header = same_below bytes c.now tail 0 same (omega arith) ∙ l.header;
        front = subst (λ r. IsFront node (take (tail + p.length + 15) bytes) r) (sym found)
            (subst (λ f. IsFront node f (rs ++ change ∷ [])) (sym new_front) goes_on);
        indexed = subst (λ k. IsIndex new k (tail + p.length + 15) bytes)
            (sym (ap (kept_from nothing_kept) found ∙ kept_from_more nothing_kept rs change))
            (index_set old new (kept_from nothing_kept rs) tail (tail + p.length + 15) p.length c.now bytes p.uid p.removal
            (slice_range p.bytes.items 14 (14 + p.length)) same within part l.indexed sets);
        sum = omega (arith, l.sum, is.long, used_more rs change) ∙ ap (λ r. 16 + used_by (map body_length r)) (sym found);
        end = (
          refl,
          ap (λ g. g == 225) (ap (λ n. slice_index bytes n) (sym size_is) ∙ ap (λ l. slice_index l (length more)) split
              ∙ gate_behind more rest 0),
        );
      },
      found,
    )

-- An image of a log can be opened, and its room is told for ever.
pub log_image : (node : ℕ) (kept : Kept) (changes : List StoreChange) (image : List ℕ) → IsAnyOf kept changes (log_map node image)
    → Stands log_layout node log_changes kept changes image
log_image node kept changes image found = record { found = found; opens = refl; told = omega arith }

-- While the gate of a record is closed, an image stands for what is kept.
pub shut_stands : (node size tail : ℕ) (front : List ℕ) (rs : List StoreChange) (image : List ℕ) → length front ≡ tail → 16 ≤ tail
    → slice_index front 0 ≡ 237 → IsFront node front rs → Unwritten size front image →
    log_map node image ≡ Ok (kept_from nothing_kept rs)
shut_stands node size tail front rs image at begins header f (whole, closed) =
    let half : HalfWritten size front [] image = (whole, inl closed) in
    let first : slice_index image 0 ≡ 237 = same_below image front (length front) 0
    (half_front size front [] image half ∙ sym (take_all (length front) front (omega arith))) (omega arith) ∙ header in
    log_stands_there node image (omega (arith, at, begins, half_long size front [] image half)) first ∙ ap kept_by
    (ap (records_of node) closed.3 ∙ front_closed node closed.0 front closed.1 rs f closed.2)

-- While a record is being written, an image stands for what is kept, with its change or without.
pub half_stands : (node size tail : ℕ) (kept_front : List ℕ) (rs : List StoreChange) (p : Pending) (image : List ℕ) →
    length kept_front ≡ tail → 16 ≤ tail → slice_index kept_front 0 ≡ 237 → IsFront node kept_front rs
    → IsPendingOf node tail (kept_from nothing_kept rs) p →
    HalfWritten size kept_front p.bytes.items image →
    Stands log_layout node log_changes (kept_from nothing_kept rs) (change_of tail p ∷ []) image
half_stands node size tail front rs p image at begins header f is half =
    let change : StoreChange = change_of tail p in
    let first : slice_index image 0 ≡ 237 = same_below image front (length front) 0
    (half_front size front p.bytes.items image half ∙ sym (take_all (length front) front (omega arith))) (omega arith) ∙ header in
    let opened_log : log_map node image ≡ kept_by (records_of node image) = log_stands_there node image
    (omega (arith, at, begins, half_long size front p.bytes.items image half)) first in
    log_image node (kept_from nothing_kept rs) (change ∷ []) image (elim half.1 [
      | inl closed ↦ inl (shut_stands node size tail front rs image at begins header f (half.0, closed))
      | inr opened ↦ inr (
        is.fresh,
        opened_log ∙ ap kept_by (
            ap (records_of node) (opened.1 ∙ ap (λ r. front ++ 225 ∷ (r ++ opened.0)) is.is ∙ ap (λ r. front ++ 225 ∷ r)
            (append_assoc is.bytes (0 ∷ []) opened.0) ∙ sym (append_assoc front (225 ∷ is.bytes) (0 ∷ opened.0)))
            ∙ front_closed node 0 (front ++ 225 ∷ is.bytes) opened.0 (rs ++ change ∷ [])
            (subst (λ n. IsFront node (front ++ 225 ∷ is.bytes) (rs ++ change_of n p ∷ [])) at
            (front_more node front is.bytes rs p.uid (pending_body p) f is.spells)) refl)
            ∙ ap (λ k. Ok k) (kept_from_more nothing_kept rs change),
      )
    ])

-- where the log ends with a closed gate, the whole image is the log
pub whole_map : (node size tail : ℕ) (c : Contents) (index : BTreeMap Uid (Option Slot)) (q : Option Pending) → 16 ≤ tail
    → tail + 1 ≤ size → IsLog node size tail c index q → (slice_index c.now tail == 225) ≡ false →
    log_map node c.now ≡ Ok (kept_from nothing_kept (records_before node tail c.now))
whole_map node size tail c index q begins ends l shut =
    let at : length (take tail c.now) ≡ tail = length-take-le tail c.now (omega (arith, l.whole)) in
    let here : tail < length c.now = omega (arith, l.whole) in
    let split : c.now ≡ take tail c.now ++ slice_index c.now tail ∷ drop (tail + 1) c.now = sym (take-append-drop tail c.now) ∙ ap
    (λ r. take tail c.now ++ r) (drop_more c.now tail 0 here) in
    log_stands_there node c.now (omega (arith, l.whole, begins, ends)) l.header
    ∙ ap kept_by (ap (records_of node) split ∙ front_closed node (slice_index c.now tail) (take tail c.now) (drop (tail + 1) c.now)
    (records_before node tail c.now) l.front shut)

-- and its records are those before the tail
pub whole_records : (node size tail : ℕ) (c : Contents) (index : BTreeMap Uid (Option Slot)) (q : Option Pending) → 16 ≤ tail
    → tail + 1 ≤ size → IsLog node size tail c index q → (slice_index c.now tail == 225) ≡ false →
    records_found node c.now ≡ records_before node tail c.now
whole_records node size tail c index q begins ends l shut =
    let here : tail < length c.now = omega (arith, l.whole) in
    let split : c.now ≡ take tail c.now ++ slice_index c.now tail ∷ drop (tail + 1) c.now = sym (take-append-drop tail c.now) ∙ ap
    (λ r. take tail c.now ++ r) (drop_more c.now tail 0 here) in
    ap (λ x. if x == 237 then records_or_none (records_of node c.now) else []) l.header
    ∙ ap records_or_none (ap (records_of node) split ∙ front_closed node (slice_index c.now tail) (take tail c.now)
    (drop (tail + 1) c.now) (records_before node tail c.now) l.front shut)

pub rest_stands : (node size tail : ℕ) (c : Contents) (index : BTreeMap Uid (Option Slot)) → 16 ≤ tail → tail + 1 ≤ size
    → IsLog node size tail c index None →
    log_map node c.now ≡ Ok (kept_from nothing_kept (records_before node tail c.now))
rest_stands node size tail c index begins ends l = whole_map node size tail c index None begins ends l l.end.1

half_map : (node size tail : ℕ) (c : Contents) (index : BTreeMap Uid (Option Slot)) (p : Pending) (image : List ℕ) → 16 ≤ tail
    → tail + 1 ≤ size → IsLog node size tail c index (Some p) → Left c image →
    Stands log_layout node log_changes (kept_from nothing_kept (records_before node tail c.now)) (change_of tail p ∷ []) image
half_map node size tail c index p image begins ends l left =
    let at : length (take tail c.now) ≡ tail = length-take-le tail c.now (omega (arith, l.whole)) in
    half_stands node size tail (take tail c.now) (records_before node tail c.now) p image at begins
    (get_or-take tail c.now 0 0 (omega arith) ∙ l.header) l.front l.end.1 (l.end.0.left image left)

-- a job that has made no call leaves nothing in doubt, and any other its change
rests_or_not : (node size tail : ℕ) (c : Contents) (index : BTreeMap Uid (Option Slot)) (p : Pending) (stage : Stage) → 16 ≤ tail
    → tail + 1 ≤ size →
    IsLog node size tail c index (Some p) → IsUntouched tail c stage
    → LeavesOnly (Stands log_layout node log_changes (kept_from nothing_kept (records_before node tail c.now))
    (changes_in (doubt_in (staged tail p.bytes.items (change_of tail p) stage)))) c
rests_or_not node size tail c index p Begun begins ends l untouched = λ image left.
    log_image node (kept_from nothing_kept (records_before node tail c.now)) [] image
    (ap (log_map node) (only_now c.now image (subst (λ d. Left d image) untouched.0 left)) ∙ whole_map node size tail c index
    (Some p) begins ends l untouched.1)
rests_or_not node size tail c index p Written begins ends l untouched =
    λ image left. half_map node size tail c index p image begins ends l left
rests_or_not node size tail c index p Synced begins ends l untouched =
    λ image left. half_map node size tail c index p image begins ends l left
rests_or_not node size tail c index p Opened begins ends l untouched =
    λ image left. half_map node size tail c index p image begins ends l left
rests_or_not node size tail c index p (Ended synced) begins ends l untouched =
    λ image left. half_map node size tail c index p image begins ends l left

-- A crash leaves only images that stand for what the store shows.
pub log_stands : (node size tail : ℕ) (c : Contents) (counts : Counts) (index : BTreeMap Uid (Option Slot)) (q : Option Pending) →
    IsPlaced size tail counts index q → IsLog node size tail c index q →
    LeavesOnly (Stands log_layout node log_changes (kept_from nothing_kept (records_before node tail c.now))
    (changes_in (doubt_in (pending_work tail q)))) c
log_stands node size tail c counts index None placed l = λ image left.
    let same : image ≡ c.now = only_now c.now image (subst (λ d. Left d image) l.end.0 left) in
    log_image node (kept_from nothing_kept (records_before node tail c.now)) [] image
    (ap (log_map node) same ∙ rest_stands node size tail c index placed.begins placed.ends l)
log_stands node size tail c counts index (Some p) placed l =
    rests_or_not node size tail c index p p.stage placed.begins placed.ends l l.end.2

pub is_half : (node size tail : ℕ) (c : Contents) (index : BTreeMap Uid (Option Slot)) (q : Option Pending) (p : Pending) → q ≡ Some p
    → IsLog node size tail c index q →
    Holds (HalfWritten size (take tail c.now) p.bytes.items) c
is_half node size tail c index q p e l = (subst (IsTailOf node size tail c) e l.end).0

pub same_records : (node size tail : ℕ) (c d : Contents) (p : Pending) → tail ≤ length c.now
    → HalfWritten size (take tail c.now) p.bytes.items d.now → records_before node tail d.now ≡ records_before node tail c.now
same_records node size tail c d p long h =
    let at : length (take tail c.now) ≡ tail = length-take-le tail c.now long in
    ap (λ f. records_or_none (records_of node (f ++ 0 ∷ [])))
    (subst (λ n. take n d.now ≡ take tail c.now) at (half_front size (take tail c.now) p.bytes.items d.now h))

-- The gate was found open: the record was written.
pub found_open : (node size tail : ℕ) (c : Contents) (counts : Counts) (old new : BTreeMap Uid (Option Slot)) (q : Option Pending)
    (p : Pending) →
    q ≡ Some p → IsPlaced size tail counts old q → IsLog node size tail c old q → (slice_index c.now tail == 225) ≡ true
    → SetsSlot old new p.uid (slot_of p.removal tail p.length) →
    IsLog node size (tail + p.length + 15) (at_rest c.now) new None
    × (records_before node (tail + p.length + 15) c.now ≡ records_before node tail c.now ++ change_of tail p ∷ [])
found_open node size tail c counts old new q p e placed l is_open sets =
    let at : length (take tail c.now) ≡ tail = length-take-le tail c.now (omega (arith, l.whole, placed.ends)) in
    let tail_is : IsTailOf node size tail c (Some p) = subst (IsTailOf node size tail c) e l.end in
    elim tail_is.0.now.1 [
      | inl closed ↦ absurd (false≢true (sym closed.2 ∙ ap (λ g. g == 225)
          (sym (gate_behind (take tail c.now) closed.1 closed.0) ∙ ap (λ n. slice_index (take tail c.now ++ closed.0 ∷ closed.1) n) at
          ∙ ap (λ b. slice_index b tail) (sym closed.3)) ∙ is_open))
      | inr opened ↦ grown node size tail c c.now opened.0 old new q p placed.begins placed.ends placed.slots l tail_is.1 l.whole opened.1
          sets
    ]

within_more : (slot : Option Slot) (tail more : ℕ) → IfSome slot (λ (s : Slot). s.gate + 15 + s.length ≤ tail)
    → IfSome slot (λ (s : Slot). s.gate + 15 + s.length ≤ tail + more + 15)
within_more None tail more h = tt
within_more (Some s) tail more h = omega arith

within_new : (removal : Bool) (tail length : ℕ)
    → IfSome (slot_of removal tail length) (λ (s : Slot). s.gate + 15 + s.length ≤ tail + length + 15)
within_new true tail length = tt
within_new false tail length = omega arith

within_choice : (b : Bool) (x y : Option Slot) (n : ℕ) → IfSome x (λ (s : Slot). s.gate + 15 + s.length ≤ n)
    → IfSome y (λ (s : Slot). s.gate + 15 + s.length ≤ n) → IfSome (cond b x y) (λ (s : Slot). s.gate + 15 + s.length ≤ n)
within_choice true x y n hx hy = hx
within_choice false x y n hx hy = hy

-- The places go along.
pub placed_more : (size tail length : ℕ) (before after : Counts) (old new : BTreeMap Uid (Option Slot)) (q : Option Pending) (uid : Uid)
    (removal : Bool) →
    IsPlaced size tail before old q → after.size ≡ before.size → tail + length + 16 ≤ size
    → SetsSlot old new uid (slot_of removal tail length) →
    IsPlaced size (tail + length + 15) after new None
placed_more size tail length before after old new q uid removal placed same fits sets = record {
  sized = same ∙ placed.sized;
  begins = omega (arith, placed.begins);
  ends = omega arith;
  slots = λ u. subst (λ o. IfSome o (λ (s : Slot). s.gate + 15 + s.length ≤ tail + length + 15)) (sym (sets u))
      (within_choice (eq_by_cmp uid_cmp u uid) (slot_of removal tail length) (slot_at old u) (tail + length + 15)
      (within_new removal tail length) (within_more (slot_at old u) tail length (placed.slots u)));
  placed = tt;
}

pub placed_same : (size tail : ℕ) (before after : Counts) (index : BTreeMap Uid (Option Slot)) (q r : Option Pending) → q ≡ r
    → after.size ≡ before.size → IsPlaced size tail before index q → IsPlaced size tail after index r
placed_same size tail before after index q r e same placed =
    subst (IsPlaced size tail after index) e (record {
      sized = same ∙ placed.sized;
      begins = placed.begins;
      ends = placed.ends;
      slots = placed.slots;
      placed = placed.placed;
    })

-- the contents of a log at rest, round its gate
pub rest_is : (node size tail : ℕ) (c : Contents) (counts : Counts) (index : BTreeMap Uid (Option Slot))
    → IsPlaced size tail counts index None → IsLog node size tail c index None →
    c.now ≡ take tail c.now ++ slice_index c.now tail ∷ drop (tail + 1) c.now
rest_is node size tail c counts index placed l =
    let here : tail < length c.now = omega (arith, l.whole, placed.ends) in
    sym (take-append-drop tail c.now) ∙ ap (λ r. take tail c.now ++ r) (drop_more c.now tail 0 here)

-- a place within the log is not its tail
not_tail : (slot : Option Slot) (tail : ℕ) → IfSome slot (λ (s : Slot). s.gate + 15 + s.length ≤ tail)
    → Some tail ≡ option_map (λ (s : Slot). s.gate) slot → ⊥
not_tail None tail within e = cc
not_tail (Some s) tail within e = let same : tail ≡ s.gate = cc in omega (arith, same, within)

-- a new value at the tail has a mark of its own
pub fresh_value : (index : BTreeMap Uid (Option Slot)) (kept : Kept) (tail : ℕ) (bytes body : List ℕ) (uid : Uid)
    → ((u : Uid) → IfSome (slot_at index u) (λ (s : Slot). s.gate + 15 + s.length ≤ tail)) → IsIndex index kept tail bytes →
    IsFresh (record { uid = uid; body = Some body; mark = tail; wrote = log_grows (Some body) }) kept
fresh_value index kept tail bytes body uid within i = λ same.
    not_tail (slot_at index uid) tail (within uid)
    (sym (finite.get-insert uid_cmp_total kept.marks uid tail uid ∙ ap (λ b. cond b (Some tail) (finite.get kept.marks uid))
    ((eq_by_cmp_equiv uid_cmp_total).refl uid)) ∙ same ∙ i.marks uid)

-- what a crash leaves while a record is written
pub writing_moments : (node size tail : ℕ) (old new : Told) (counts : Counts) (index : BTreeMap Uid (Option Slot)) (q : Option Pending)
    (p : Pending) →
    IsPlaced size tail counts index q → IsLog node size tail (contents old) index q
    → IsPendingOf node tail (kept_from nothing_kept (records_before node tail (contents old).now)) p →
    EachMoment (HalfWritten size (take tail (contents old).now) p.bytes.items) old new →
    EachMoment (Stands log_layout node log_changes (kept_from nothing_kept (records_before node tail (contents old).now))
    (change_of tail p ∷ [])) old new
writing_moments node size tail old new counts index q p placed l is m =
    let c : Contents = contents old in
    let at : length (take tail c.now) ≡ tail = length-take-le tail c.now (omega (arith, l.whole, placed.ends)) in
    moments_weaker (HalfWritten size (take tail c.now) p.bytes.items) _ old new
    (λ image half. half_stands node size tail (take tail c.now) (records_before node tail c.now) p image at placed.begins
    (get_or-take tail c.now 0 0 (omega (arith, placed.begins)) ∙ l.header) l.front is half) m

-- what a crash leaves while nothing of a record counts
pub unwritten_moments : (node size tail : ℕ) (old new : Told) (counts : Counts) (index : BTreeMap Uid (Option Slot)) (q : Option Pending) →
    IsPlaced size tail counts index q → IsLog node size tail (contents old) index q
    → EachMoment (Unwritten size (take tail (contents old).now)) old new →
    EachMoment (Stands log_layout node log_changes (kept_from nothing_kept (records_before node tail (contents old).now)) []) old new
unwritten_moments node size tail old new counts index q placed l m =
    let c : Contents = contents old in
    let at : length (take tail c.now) ≡ tail = length-take-le tail c.now (omega (arith, l.whole, placed.ends)) in
    moments_weaker (Unwritten size (take tail c.now)) _ old new
    (λ image shut. log_image node (kept_from nothing_kept (records_before node tail c.now)) [] image
    (shut_stands node size tail (take tail c.now) (records_before node tail c.now) image at placed.begins
    (get_or-take tail c.now 0 0 (omega (arith, placed.begins)) ∙ l.header) l.front shut)) m

-- the log once the record was written
pub written_log : (node size tail : ℕ) (c d : Contents) (rest : List ℕ) (counts : Counts) (old new : BTreeMap Uid (Option Slot))
    (q : Option Pending) (p : Pending) →
    IsPlaced size tail counts old q → IsLog node size tail c old q
    → IsPendingOf node tail (kept_from nothing_kept (records_before node tail c.now)) p →
    d ≡ at_rest (take tail c.now ++ 225 ∷ (p.bytes.items ++ rest)) → length d.now ≡ size
    → SetsSlot old new p.uid (slot_of p.removal tail p.length) →
    IsLog node size (tail + p.length + 15) d new None
    × (records_before node (tail + p.length + 15) d.now ≡ records_before node tail c.now ++ change_of tail p ∷ [])
written_log node size tail c d rest counts old new q p placed l is stands whole sets =
    let bytes : List ℕ = take tail c.now ++ 225 ∷ (p.bytes.items ++ rest) in
    let done = grown node size tail c bytes rest old new q p placed.begins placed.ends placed.slots l is
    (sym (ap (λ (x : Contents). length x.now) stands) ∙ whole) refl sets in (
      subst (λ x. IsLog node size (tail + p.length + 15) x new None) (sym stands) done.0,
      ap (λ (x : Contents). records_before node (tail + p.length + 15) x.now) stands ∙ done.1,
    )

staged_idle : (tail : ℕ) (bytes : List ℕ) (c : StoreChange) (stage : Stage) → staged tail bytes c stage ≡ Idle → ⊥
staged_idle tail bytes c Begun e = cc
staged_idle tail bytes c Written e = cc
staged_idle tail bytes c Synced e = cc
staged_idle tail bytes c Opened e = cc
staged_idle tail bytes c (Ended synced) e = cc

pub none_pending : (tail : ℕ) (q : Option Pending) → pending_work tail q ≡ Idle → q ≡ None
none_pending tail None e = refl
none_pending tail (Some p) e = absurd (staged_idle tail p.bytes.items (change_of tail p) p.stage e)
