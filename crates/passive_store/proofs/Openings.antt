-- What the device calls of an opening leave on a disk.
use Rattle.std.proofs.Common.{◌≡◌, ◌⊎◌, ℕ, zero, suc, ◌+◌, ◌-◌, ◌≤◌, ◌<◌, Bool, true, false, List, [], ◌∷◌, ◌++◌, length, take, drop}
use Rattle.std.proofs.Common.{get_or, replicate, refl, sym, ap, subst, ◌∙◌, inl, inr, arith, length-append, length-drop}
use Rattle.std.specs.Prelude.{◌==◌, Option, None, Result, Ok, Err, OnOk, slice_index, nat_lt, if◌then◌else◌}
use Rattle.std.specs.BTreeMap.{BTreeMap}
use Rattle.std.proofs.lemmas.Bool.{false≢true}
use Rattle.std.proofs.lemmas.List.{length-replicate, length-take-le, get_or-take, get_or_append_left, get_or-append_right, get_or-drop}
use Rattle.capability.specs.declared.Uid.{Uid}
use Rattle.eden_disk.specs.declared.disk.DiskRefusal.{DiskRefusal}
use Rattle.eden_disk.specs.Told.{Told, Contents, contents, at_rest, after_act, Wrote, Left, overlay}
use Rattle.eden_disk.specs.Calls.{Counts, End, Fine, AtFault, AtStop, end_of, ReadTold, SyncTold}
use Rattle.eden_disk.specs.declared.disk.DiskRefusal.TheVariants.{Failed, Stopped}
use Rattle.eden_disk.specs.Calls.{DeviceCalls}
use Rattle.eden_disk.specs.Held.{Holds, Passes}
use Rattle.eden_disk.proofs.Held.{holds_at_rest, passes_write, passes_sync, passes_read, passes_join, passes_weaker, calls_more}
use Rattle.std.proofs.lemmas.Bool.Decides.{eqb_tells, nat_tests}
use Rattle.passive_store.specs.declared.store.StoreRefusal.{StoreRefusal}
use Rattle.passive_store.specs.declared.store.StoreRefusal.TheVariants.{Failed as StoreFailed, Stopped as StoreStopped, Full, Damaged}
use Rattle.passive_store.specs.declared.store.StoreRefusal.TheVariants.{OutOfMemory}
use Rattle.passive_store.specs.Kept.{IsDiskRefusal}
use Rattle.passive_store.specs.declared.index.Slot.{Slot}
use Rattle.passive_store.specs.Kept.{StoreChange, Kept, Stands, IsDamagedFrom, IsAnyOf, nothing_kept, refused, end_of_store, OpeningMade}
use Rattle.passive_store.specs.Kept.{OpeningTold}
use Rattle.passive_store.specs.declared.opening.Found.{Found}
use Rattle.passive_store.specs.Kept.{kept_by, kept_from}
use Rattle.passive_store.specs.Log.{log_map, records_of, records_behind}
use Rattle.passive_store.specs.LogLayout.{log_layout, log_changes, records_before, records_or_none, records_up_to, records_read}
use Rattle.passive_store.specs.LogLayout.{log_opening, looks}
use Rattle.passive_store.specs.LogState.{IsLog}
use Rattle.passive_store.specs.Acts.{DiskCall, Sync, Read, AllTold, SomeTold, CallsTold}
use Rattle.passive_store.proofs.Joining.{all_more, all_some, some_more, call_done}
use Rattle.passive_store.specs.Opening.{IsWalk, IsThrough, ThroughTold, IsEmptyImage, IsBlank, IsNewLog, OnFine, IsReadied}
use Rattle.passive_store.specs.Opening.{IsKeptThrough, ReadsMade}
use Rattle.passive_store.proofs.Walk.{long_enough, log_stands_there, closed, passed_over}
use Rattle.passive_store.proofs.Walking.{walk_closed, around}
use Rattle.passive_store.proofs.Images.{outside_range}

-- a write and a sync keep what holds whichever bytes the write leaves
passes_done : (P : List ℕ → Type 0) (at : ℕ) (bytes : List ℕ) (old new : Told) (end : End) → Holds P (contents old)
    → ((clock : ℕ) (left : List ℕ) → length left ≡ length bytes → Holds P (after_act (Wrote clock at left) (contents old))) →
    IsThrough at bytes old new end → Passes P old new
passes_done P at bytes old new end h torn t =
    let wrote : Passes P old t.0 = passes_write P t.1 at bytes old t.0 Fine h (torn t.1) t.3 in
    passes_join P old t.0 new wrote (passes_sync P t.2 t.0 new end wrote.after t.4)

pub passes_through : (P : List ℕ → Type 0) (at : ℕ) (bytes : List ℕ) (old new : Told) (end : End) → Holds P (contents old)
    → ((clock : ℕ) (left : List ℕ) → length left ≡ length bytes → Holds P (after_act (Wrote clock at left) (contents old))) →
    ThroughTold at bytes old new end → Passes P old new
passes_through P at bytes old new Fine h torn t = passes_done P at bytes old new Fine h torn t
passes_through P at bytes old new AtFault h torn (inl refused) = passes_write P refused.0 at bytes old new AtFault h
    (torn refused.0) refused.1
passes_through P at bytes old new AtFault h torn (inr t) = passes_done P at bytes old new AtFault h torn t
passes_through P at bytes old new AtStop h torn (inl refused) = passes_write P refused.0 at bytes old new AtStop h
    (torn refused.0) refused.1
passes_through P at bytes old new AtStop h torn (inr t) = passes_done P at bytes old new AtStop h torn t

pub through_done : (at : ℕ) (bytes : List ℕ) (old new : Told) → IsThrough at bytes old new Fine
    → contents new ≡ at_rest (overlay at bytes (contents old).now)
through_done at bytes old new t = ap contents t.4 ∙ ap (λ x. at_rest (contents x).now) t.3

-- a byte outside of what is written over stays
overlay_outside : (at k : ℕ) (bytes old : List ℕ) → at + length bytes ≤ length old → (k < at) ⊎ (at + length bytes ≤ k)
    → get_or (overlay at bytes old) k 0 ≡ get_or old k 0
overlay_outside at k bytes old fits (inl below) =
    let long : length (take at old) ≡ at = length-take-le at old (omega arith) in
    get_or_append_left (take at old ++ bytes) (drop (at + length bytes) old) 0 k
    (omega (arith, below, long, length-append (take at old) bytes))
    ∙ get_or_append_left (take at old) bytes 0 k (omega (arith, below, long)) ∙ get_or-take at old k 0 below
overlay_outside at k bytes old fits (inr above) =
    let long : length (take at old) ≡ at = length-take-le at old (omega arith) in
    get_or-append_right (take at old ++ bytes) (drop (at + length bytes) old) (at + length bytes) k 0
    (omega (arith, long, length-append (take at old) bytes)) above
    ∙ get_or-drop (at + length bytes) old (k - (at + length bytes)) 0 ∙ ap (λ n. get_or old n 0) (omega (arith, above))

overlay_long : (at : ℕ) (bytes old : List ℕ) → at + length bytes ≤ length old → length (overlay at bytes old) ≡ length old
overlay_long at bytes old fits = omega (
  arith,
  length-append (take at old) bytes,
  length-append (take at old ++ bytes) (drop (at + length bytes) old),
  length-take-le at old (omega arith),
  length-drop (at + length bytes) old,
)

-- what a write leaves at a place outside its range, of a disk at rest
written_outside : (clock at k : ℕ) (left now image : List ℕ) → Left (after_act (Wrote clock at left) (at_rest now)) image
    → (k < at) ⊎ (at + length left ≤ k) → get_or image k 0 ≡ get_or now k 0
written_outside clock at k left now image l apart = l.outside k (outside_range k at (length left) apart)

-- the two writes of a format
clearing : (clock : ℕ) (now left : List ℕ) → 17 ≤ length now → (slice_index now 0 == 237) ≡ false → length left ≡ 16
    → Holds IsEmptyImage (after_act (Wrote clock 1 left) (at_rest now))
clearing clock now left long blank size = record {
  now = (
    omega (arith, overlay_long 1 left now (omega arith), long),
    inl (ap (λ g. g == 237) (overlay_outside 1 0 left now (omega arith) (inl (omega arith))) ∙ blank),
  );
  left = λ image l. (
    omega (arith, l.size, long),
    inl (ap (λ g. g == 237) (written_outside clock 1 0 left now image l (inl (omega arith))) ∙ blank),
  );
}

marking : (clock : ℕ) (now left : List ℕ) → 17 ≤ length now → (slice_index now 16 == 225) ≡ false → length left ≡ 1
    → Holds IsEmptyImage (after_act (Wrote clock 0 left) (at_rest now))
marking clock now left long shut size = record {
  now = (
    omega (arith, overlay_long 0 left now (omega arith), long),
    inr (ap (λ g. g == 225) (overlay_outside 0 16 left now (omega arith) (inr (omega (arith, size)))) ∙ shut),
  );
  left = λ image l. (
    omega (arith, l.size, long),
    inr (ap (λ g. g == 225) (written_outside clock 0 16 left now image l (inr (omega (arith, size)))) ∙ shut),
  );
}

-- the bytes after the first of them
cleared : (now : List ℕ) → 17 ≤ length now → slice_index (overlay 1 (replicate 16 0) now) 16 ≡ 0
cleared now long =
    let one : length (take 1 now) ≡ 1 = length-take-le 1 now (omega arith) in
    get_or_append_left (take 1 now ++ replicate 16 0) (drop 17 now) 0 16 (omega (arith, one, length-append (take 1 now) (replicate 16 0)))
    ∙ get_or-append_right (take 1 now) (replicate 16 0) 1 16 0 one (omega arith)

marked : (now : List ℕ) → slice_index (overlay 0 (237 ∷ []) now) 0 ≡ 237
marked now = refl

pub blank_holds : (c : Contents) → IsBlank c → Holds IsEmptyImage c
blank_holds c b = subst (Holds IsEmptyImage) (sym b.rest) (holds_at_rest IsEmptyImage c.now (b.long, inl b.blank))

pub first_passes : (old new : Told) (end : End) → IsBlank (contents old) → ThroughTold 1 (replicate 16 0) old new end
    → Passes IsEmptyImage old new
first_passes old new end b told =
    passes_through IsEmptyImage 1 (replicate 16 0) old new end (blank_holds (contents old) b)
    (λ clock left size. subst (λ c. Holds IsEmptyImage (after_act (Wrote clock 1 left) c)) (sym b.rest)
    (clearing clock (contents old).now left b.long b.blank size)) told

-- a disk whose first gate is closed, and that has no header yet
pub record IsCleared (c : Contents) : Type 0 where
  pub rest : c ≡ at_rest c.now
  pub long : 17 ≤ length c.now
  pub shut : (slice_index c.now 16 == 225) ≡ false

pub first_done : (old new : Told) → IsBlank (contents old) → ThroughTold 1 (replicate 16 0) old new Fine → IsCleared (contents new)
first_done old new b told =
    let is : contents new ≡ at_rest (overlay 1 (replicate 16 0) (contents old).now) = through_done 1 (replicate 16 0) old new told in
    subst IsCleared (sym is) (record {
      rest = refl;
      long = omega (arith, overlay_long 1 (replicate 16 0) (contents old).now (omega (arith, b.long)), b.long);
      shut = ap (λ g. g == 225) (cleared (contents old).now b.long);
    })

pub second_passes : (old new : Told) (end : End) → IsCleared (contents old) → ThroughTold 0 (237 ∷ []) old new end
    → Passes IsEmptyImage old new
second_passes old new end b told =
    passes_through IsEmptyImage 0 (237 ∷ []) old new end
    (subst (Holds IsEmptyImage) (sym b.rest) (holds_at_rest IsEmptyImage (contents old).now (b.long, inr b.shut)))
    (λ clock left size. subst (λ c. Holds IsEmptyImage (after_act (Wrote clock 0 left) c)) (sym b.rest)
    (marking clock (contents old).now left b.long b.shut size)) told

pub second_done : (old new : Told) → IsCleared (contents old) → ThroughTold 0 (237 ∷ []) old new Fine → IsNewLog (contents new)
second_done old new b told =
    let is : contents new ≡ at_rest (overlay 0 (237 ∷ []) (contents old).now) = through_done 0 (237 ∷ []) old new told in
    subst IsNewLog (sym is) (record {
      rest = refl;
      long = omega (arith, overlay_long 0 (237 ∷ []) (contents old).now (omega (arith, b.long)), b.long);
      header = marked (contents old).now;
      shut = ap (λ g. g == 225) (overlay_outside 0 16 (237 ∷ []) (contents old).now (omega (arith, b.long)) (inr (omega arith))) ∙ b.shut;
    })

-- the map of an image without a record
empty_records : (node : ℕ) (image : List ℕ) → 17 ≤ length image → (slice_index image 16 == 225) ≡ false → records_of node image ≡ Ok []
empty_records node image long shut =
    let front_long : length (take 16 image) ≡ 16 = length-take-le 16 image (omega arith) in
    ap (records_of node) (around image 16 (omega arith))
    ∙ ap (λ n. records_behind node n 0 (take 16 image ++ slice_index image 16 ∷ drop 17 image)) (sym front_long)
    ∙ passed_over node 0 (take 16 image) (slice_index image 16 ∷ drop 17 image)
    ∙ closed node (0 + length (take 16 image)) (slice_index image 16) (drop 17 image) shut

header_or_not : (b : Bool) (found : Result (List StoreChange) ℕ) → found ≡ Ok []
    → (if b then kept_by found else Ok nothing_kept) ≡ Ok nothing_kept
header_or_not true found none = ap kept_by none
header_or_not false found none = refl

pub empty_map : (node : ℕ) (image : List ℕ) → IsEmptyImage image → log_map node image ≡ Ok nothing_kept
empty_map node image (long, inl blank) = long_enough node image long ∙ ap
    (λ b. if b then kept_by (records_of node image) else Ok nothing_kept) blank
empty_map node image (long, inr shut) = long_enough node image long ∙ header_or_not (slice_index image 0 == 237) (records_of node image)
    (empty_records node image long shut)

-- Whatever holds of the maps of images goes on holding.
keeps_by : (node : ℕ) (Q : Result Kept ℕ → Type 0) (old new : Told) (end : End) → Holds (λ image. Q (log_map node image)) (contents old)
    → 17 ≤ length (contents old).now → IsReadied old new end → Passes (λ image. Q (log_map node image)) old new
keeps_by node Q old new end h long (inl log) = passes_read (λ image. Q (log_map node image)) log.1.0 old new end h log.1.1
keeps_by node Q old new end h long (inr blank) =
    let empty : Q (Ok nothing_kept) = subst Q (empty_map node (contents old).now (long, inl blank.0)) h.now in
    passes_weaker IsEmptyImage (λ image. Q (log_map node image)) old new (λ image e. subst Q (sym (empty_map node image e)) empty) blank.1

-- what of a log stands or is damaged, by its map
stands_by : (node told : ℕ) (kept : Kept) (changes : List StoreChange) (old new : Told) → told ≤ log_changes
    → Passes (λ image. IsAnyOf kept changes (log_map node image)) old new → Passes (Stands log_layout node told kept changes) old new
stands_by node told kept changes old new most p =
    passes_weaker (λ image. IsAnyOf kept changes (log_map node image)) (Stands log_layout node told kept changes) old new
    (λ image found. record { found = found; opens = refl; told = most }) p

found_by : (node told : ℕ) (kept : Kept) (changes : List StoreChange) (c : Contents) → Holds (Stands log_layout node told kept changes) c
    → Holds (λ image. IsAnyOf kept changes (log_map node image)) c
found_by node told kept changes c h = record { now = h.now.found; left = λ image l. (h.left image l).found }

pub keeps_ready : (node : ℕ) (old new : Told) (end : End) → 17 ≤ length (contents old).now → IsReadied old new end
    → IsKeptThrough node old new
keeps_ready node old new end long r = record {
  mapped = λ told kept changes h. stands_by node told kept changes old new h.now.told
      (keeps_by node (λ found. IsAnyOf kept changes found) old new end (found_by node told kept changes (contents old) h) long r);
  unmapped = λ place h. keeps_by node (λ found. found ≡ Err place) old new end h long r;
}

pub keeps_sync : (node clock : ℕ) (old new : Told) (end : End) → SyncTold clock old new end → IsKeptThrough node old new
keeps_sync node clock old new end synced = record {
  mapped = λ told kept changes h. passes_sync (Stands log_layout node told kept changes) clock old new end h synced;
  unmapped = λ place h. passes_sync (IsDamagedFrom log_layout node place) clock old new end h synced;
}

pub keeps_read : (node clock : ℕ) (old new : Told) (end : End) → ReadTold clock old new end → IsKeptThrough node old new
keeps_read node clock old new end read = record {
  mapped = λ told kept changes h. passes_read (Stands log_layout node told kept changes) clock old new end h read;
  unmapped = λ place h. passes_read (IsDamagedFrom log_layout node place) clock old new end h read;
}

pub keeps_join : (node : ℕ) (old mid new : Told) → IsKeptThrough node old mid → IsKeptThrough node mid new → IsKeptThrough node old new
keeps_join node old mid new a b = record {
  mapped = λ told kept changes h. let first = a.mapped told kept changes h in
      passes_join (Stands log_layout node told kept changes) old mid new first (b.mapped told kept changes first.after);
  unmapped = λ place h. let first = a.unmapped place h in
      passes_join (IsDamagedFrom log_layout node place) old mid new first (b.unmapped place first.after);
}

pub keeps_none : (node : ℕ) (t : Told) → IsKeptThrough node t t
keeps_none node t = keeps_read node 0 t t Fine refl

-- how a refusal of the disk is counted
pub refused_calls : (T U : Type 0) (e : DiskRefusal) (made : ℕ) (before after : Counts)
    → DeviceCalls made before after (end_of {T = T} (Err e)) → DeviceCalls made before after (end_of_store {T = U} (Err (refused e)))
refused_calls T U Failed made before after d = d
refused_calls T U Stopped made before after d = d

pub always_ok : {T E P : Type 0} (r : Result T E) → P → OnOk r P
always_ok (Ok x) p = p
always_ok (Err e) p = tt

pub ran_more : (T : Type 0) (made number : ℕ) (old mid new : Counts) (r : Result T DiskRefusal) → DeviceCalls made old mid Fine
    → (ran : (m : ℕ) × (DeviceCalls m mid new (end_of r) × OnOk r (m ≡ number))) →
    (m : ℕ) × (DeviceCalls m old new (end_of r) × OnOk r (m ≡ made + number))
ran_more T made number old mid new (Ok x) first ran =
    (made + ran.0, (calls_more made ran.0 old mid new Fine first ran.1.0, ap (λ n. made + n) ran.1.1))
ran_more T made number old mid new (Err e) first ran =
    (made + ran.0, (calls_more made ran.0 old mid new (end_of {T = T} (Err e)) first ran.1.0, tt))

pub second_log : (old new : Told) (r : Result (Unit {0}) DiskRefusal) → IsCleared (contents old)
    → ThroughTold 0 (237 ∷ []) old new (end_of r) → OnOk r (IsNewLog (contents new))
second_log old new (Ok x) b told = second_done old new b told
second_log old new (Err e) b told = tt

-- a look that was refused
refused_look : (old new : Told) (e : DiskRefusal) → OnFine (end_of {T = Unit {0}} (Err e)) (IsNewLog (contents new))
refused_look old new Failed = tt
refused_look old new Stopped = tt

pub look_refused : (clock : ℕ) (old new : Told) (e : DiskRefusal) → contents old ≡ at_rest (contents old).now
    → 17 ≤ length (contents old).now → ReadTold clock old new (end_of {T = Unit {0}} (Err e))
    → IsReadied old new (end_of {T = Unit {0}} (Err e))
look_refused clock old new e rest long told = elim (eqb_tells (slice_index (contents old).now 0) 237) [
  | inl log ↦ inl (log.0, (clock, told))
  | inr blank ↦ inr (
    blank.0,
    passes_read IsEmptyImage clock old new (end_of {T = Unit {0}} (Err e))
        (blank_holds (contents old) (record { rest = rest; long = long; blank = blank.0 })) told,
    refused_look old new e,
  )
]

pub damaged_at : (e : StoreRefusal) (tail place : ℕ) → IsDiskRefusal e ⊎ (e ≡ Damaged tail) → e ≡ Damaged place → (e ≡ Damaged tail)
    × (tail ≡ place)
damaged_at e tail place (inl (inl f)) is = absurd (let bad : StoreFailed ≡ Damaged place = sym f ∙ is in cc)
damaged_at e tail place (inl (inr s)) is = absurd (let bad : StoreStopped ≡ Damaged place = sym s ∙ is in cc)
damaged_at e tail place (inr d) is = (d, let same : Damaged tail ≡ Damaged place = sym d ∙ is in cc)

pub synced_now : (c : Contents) (bytes : List ℕ) → c ≡ at_rest bytes → c ≡ at_rest c.now
synced_now c bytes e = e ∙ sym (ap (λ (d : Contents). at_rest d.now) e)

-- A log was opened.
pub record IsOpened (node size tail : ℕ) (before : List ℕ) (c : Contents) (index : BTreeMap Uid (Option Slot)) : Type 0 where
  pub log : IsLog node size tail c index None
  pub map_is : log_map node before ≡ Ok (kept_from nothing_kept (records_before node tail c.now))
  pub read : records_before node tail c.now ≡ records_read node before

same_number : (x y : ℕ) → (x == y) ≡ true → x ≡ y
same_number x y h = elim (eqb_tells x y) [ inl p ↦ p.1 | inr p ↦ absurd (false≢true (sym p.0 ∙ h)) ]

pub opened_old : (node size tail : ℕ) (bytes : List ℕ) (index : BTreeMap Uid (Option Slot)) → 17 ≤ length bytes → tail < size
    → (slice_index bytes 0 == 237) ≡ true → IsWalk node size tail bytes index → (slice_index bytes tail == 225) ≡ false →
    IsOpened node size tail bytes (at_rest bytes) index
opened_old node size tail bytes index long ends header w shut =
    let records : records_of node bytes ≡ Ok (records_before node tail bytes) = walk_closed node size tail bytes index ends w shut in
    let first : slice_index bytes 0 ≡ 237 = same_number (slice_index bytes 0) 237 header in
    record {
      log = record { whole = w.whole; header = first; front = w.front; indexed = w.indexed; sum = w.sum; end = (refl, shut) };
      map_is = log_stands_there node bytes long first ∙ ap kept_by records;
      read = sym (ap (λ b. if b then records_up_to node bytes (records_of node bytes) else []) header ∙ ap
          (records_up_to node bytes) records);
    }

no_records : (rs : List StoreChange) (found : Result (List StoreChange) ℕ) → found ≡ Ok rs → found ≡ Ok [] → rs ≡ []
no_records rs found a b = ap records_or_none (sym a ∙ b)

no_damage : (place : ℕ) (found : Result (List StoreChange) ℕ) → found ≡ Err place → found ≡ Ok [] → ⊥
no_damage place found a b = cc

opened_new : (node size tail : ℕ) (before : List ℕ) (c : Contents) (index : BTreeMap Uid (Option Slot)) → 17 ≤ length before → tail < size
    → (slice_index before 0 == 237) ≡ false → IsNewLog c → IsWalk node size tail c.now index → (slice_index c.now tail == 225) ≡ false →
    IsOpened node size tail before c index
opened_new node size tail before c index long ends blank new w shut =
    let none : records_before node tail c.now ≡ [] = no_records (records_before node tail c.now) (records_of node c.now)
    (walk_closed node size tail c.now index ends w shut) (empty_records node c.now new.long new.shut) in
    record {
      log = record { whole = w.whole; header = new.header; front = w.front; indexed = w.indexed; sum = w.sum; end = (new.rest, shut) };
      map_is = empty_map node before (long, inl blank) ∙ ap (λ rs. Ok (kept_from nothing_kept rs)) (sym none);
      read = none ∙ sym (ap (λ b. if b then records_up_to node before (records_of node before) else []) blank);
    }

pub opened_log : (node size tail : ℕ) (t0 t1 t2 t3 : Told) (index : BTreeMap Uid (Option Slot)) → contents t1 ≡ at_rest (contents t0).now
    → 17 ≤ length (contents t0).now → IsReadied t1 t2 Fine → t3 ≡ t2 → tail < size →
    IsWalk node size tail (contents t2).now index → (slice_index (contents t2).now tail == 225) ≡ false
    → IsOpened node size tail (contents t0).now (contents t3) index
opened_log node size tail t0 t1 t2 t3 index synced long (inl old) same ends w shut =
    let is : contents t2 ≡ at_rest (contents t0).now = ap contents old.1.1 ∙ synced in
    let now : (contents t2).now ≡ (contents t0).now = ap (λ (c : Contents). c.now) is in
    subst (λ c. IsOpened node size tail (contents t0).now c index) (sym (ap contents same ∙ is))
    (opened_old node size tail (contents t0).now index long ends (ap (λ (c : Contents). slice_index c.now 0 == 237) (sym synced) ∙ old.0)
    (subst (λ b. IsWalk node size tail b index) now w) (subst (λ b. (slice_index b tail == 225) ≡ false) now shut))
opened_log node size tail t0 t1 t2 t3 index synced long (inr new) same ends w shut =
    subst (λ c. IsOpened node size tail (contents t0).now c index) (sym (ap contents same))
    (opened_new node size tail (contents t0).now (contents t2) index long ends
    (ap (λ (c : Contents). slice_index c.now 0 == 237) (sym synced) ∙ new.0) new.2 w shut)

-- a damaged record of a log that stands there
pub damaged_map : (node place : ℕ) (bytes : List ℕ) → 17 ≤ length bytes → (slice_index bytes 0 == 237) ≡ true
    → records_of node bytes ≡ Err place → log_map node bytes ≡ Err place
damaged_map node place bytes long header bad =
    log_stands_there node bytes long (same_number (slice_index bytes 0) 237 header) ∙ ap kept_by bad

-- or a damaged record was found
pub opened_damaged : (node place : ℕ) (t0 t1 t2 : Told) → contents t1 ≡ at_rest (contents t0).now → 17 ≤ length (contents t0).now
    → IsReadied t1 t2 Fine → records_of node (contents t2).now ≡ Err place → log_map node (contents t0).now ≡ Err place
opened_damaged node place t0 t1 t2 synced long (inl old) bad =
    let is : contents t2 ≡ at_rest (contents t0).now = ap contents old.1.1 ∙ synced in
    log_stands_there node (contents t0).now long
    (same_number (slice_index (contents t0).now 0) 237 (ap (λ (c : Contents). slice_index c.now 0 == 237) (sym synced) ∙ old.0))
    ∙ ap kept_by (ap (λ (c : Contents). records_of node c.now) (sym is) ∙ bad)
opened_damaged node place t0 t1 t2 synced long (inr new) bad =
    absurd (no_damage place (records_of node (contents t2).now) bad (empty_records node (contents t2).now new.2.long new.2.shut))

-- the number of calls of an opening
calls_by : (b : Bool) (ready reads records : ℕ) → ready ≡ (if b then 1 else 5) → reads ≡ records + 1
    → 1 + (ready + reads) ≡ length (Sync ∷ (looks b ++ replicate (records + 1) Read))
calls_by true ready reads records e r = omega (arith, length-replicate (records + 1) Read)
calls_by false ready reads records e r = omega (arith, length-replicate (records + 1) Read)

-- of a disk that is not too small
pub opening_is : (node : ℕ) (image : List ℕ) → 17 ≤ length image
    → log_opening node image ≡ Sync ∷ (looks (slice_index image 0 == 237) ++ replicate (length (records_read node image) + 1) Read)
opening_is node image long = let t : nat_lt (length image) 17 ≡ false = grind (arith, nat_tests) in
    ap (λ b. if b then [] else (Sync ∷ (looks (slice_index image 0 == 237) ++ replicate (length (records_read node image) + 1) Read))) t

pub too_small : (node : ℕ) (image : List ℕ) → length image < 17 → log_opening node image ≡ []
too_small node image short = let t : nat_lt (length image) 17 ≡ true = grind (arith, nat_tests) in
    ap (λ b. if b then [] else (Sync ∷ (looks (slice_index image 0 == 237) ++ replicate (length (records_read node image) + 1) Read))) t

-- reads change nothing
reads_told : (n : ℕ) (t : Told) → AllTold (replicate n Read) t t
reads_told zero t = refl
reads_told (suc n) t = (t, 0, refl, reads_told n t)

pub look_told : (b : Bool) (clock : ℕ) (old new : Told) (e : DiskRefusal) → ReadTold clock old new (end_of {T = Bool} (Err e))
    → CallsTold (looks b) old new (end_of {T = Unit {0}} (Err e))
look_told true clock old new Failed told = inl (clock, told)
look_told true clock old new Stopped told = inl (clock, told)
look_told false clock old new Failed told = inl (clock, told)
look_told false clock old new Stopped told = inl (clock, told)

-- the calls of an opening whose walk was refused, and of a whole one
pub walk_ended : (first : List DiskCall) (n clock : ℕ) (old mid new : Told) → AllTold first old mid → ReadTold clock mid new Fine
    → AllTold (first ++ replicate n Read) old new
walk_ended first n clock old mid new all told = subst (AllTold (first ++ replicate n Read) old) (sym told)
    (all_more first (replicate n Read) old mid mid all (reads_told n mid))

pub walk_refused : (first : List DiskCall) (n clock : ℕ) (old mid new : Told) (e : StoreRefusal) → AllTold first old mid → (e ≡ Full → ⊥)
    → ReadTold clock mid new (end_of_store {T = Found} (Err e)) → OpeningTold {S = Found} (first ++ replicate (suc n) Read) old new (Err e)
walk_refused first n clock old mid new StoreFailed all full told = all_some first (replicate (suc n) Read) old mid new AtFault all
    (inl (clock, told))
walk_refused first n clock old mid new StoreStopped all full told = all_some first (replicate (suc n) Read) old mid new AtStop all
    (inl (clock, told))
walk_refused first n clock old mid new Full all full told = absurd (full refl)
walk_refused first n clock old mid new (Damaged place) all full told = walk_ended first (suc n) clock old mid new all told
walk_refused first n clock old mid new OutOfMemory all full told =
    (first, replicate (suc n) Read, refl, subst (AllTold first old) (sym told) all)

-- the same of all its calls
sync_then_look : (t0 t1 t2 : Told) (b : Bool) (clock : ℕ) → SyncTold clock t0 t1 Fine → AllTold (looks b) t1 t2
    → AllTold (Sync ∷ looks b) t0 t2
sync_then_look t0 t1 t2 b clock synced looked = (t1, clock, synced, looked)

pub sync_told_refused : (rest : List DiskCall) (clock node : ℕ) (t0 t1 : Told) (e : DiskRefusal)
    → log_opening node (contents t0).now ≡ Sync ∷ rest → SyncTold clock t0 t1 (end_of {T = Unit {0}} (Err e))
    → OpeningTold {S = Found} (log_opening node (contents t0).now) t0 t1 (Err (refused e))
sync_told_refused rest clock node t0 t1 Failed is told = subst (λ l. SomeTold l t0 t1 AtFault) (sym is) (inl (clock, told))
sync_told_refused rest clock node t0 t1 Stopped is told = subst (λ l. SomeTold l t0 t1 AtStop) (sym is) (inl (clock, told))

pub look_told_refused : (b : Bool) (rest : List DiskCall) (clock node : ℕ) (t0 t1 t2 : Told) (e : DiskRefusal)
    → log_opening node (contents t0).now ≡ Sync ∷ (looks b ++ rest) → SyncTold clock t0 t1 Fine →
    CallsTold (looks b) t1 t2 (end_of {T = Unit {0}} (Err e))
    → OpeningTold {S = Found} (log_opening node (contents t0).now) t0 t2 (Err (refused e))
look_told_refused b rest clock node t0 t1 t2 Failed is synced told =
    subst (λ l. SomeTold l t0 t2 AtFault) (sym is)
    (all_some (Sync ∷ []) (looks b ++ rest) t0 t1 t2 AtFault (call_done Sync clock t0 t1 synced)
    (some_more (looks b) rest t1 t2 AtFault told))
look_told_refused b rest clock node t0 t1 t2 Stopped is synced told =
    subst (λ l. SomeTold l t0 t2 AtStop) (sym is)
    (all_some (Sync ∷ []) (looks b ++ rest) t0 t1 t2 AtStop (call_done Sync clock t0 t1 synced)
    (some_more (looks b) rest t1 t2 AtStop told))

pub walk_told_refused : (b : Bool) (n clock later node : ℕ) (t0 t1 t2 t3 : Told) (e : StoreRefusal)
    → log_opening node (contents t0).now ≡ Sync ∷ (looks b ++ replicate (n + 1) Read) → SyncTold clock t0 t1 Fine
    → AllTold (looks b) t1 t2 → (e ≡ Full → ⊥) →
    ReadTold later t2 t3 (end_of_store {T = Found} (Err e)) → OpeningTold {S = Found} (log_opening node (contents t0).now) t0 t3 (Err e)
walk_told_refused b n clock later node t0 t1 t2 t3 e is synced looked full told =
    let more : n + 1 ≡ suc n = omega arith in
    subst (λ l. OpeningTold {S = Found} l t0 t3 (Err e)) (sym (is ∙ ap (λ m. Sync ∷ (looks b ++ replicate m Read)) more))
    (walk_refused (Sync ∷ looks b) n later t0 t2 t3 e (sync_then_look t0 t1 t2 b clock synced looked) full told)

pub walk_told_whole : (b : Bool) (n clock later node : ℕ) (t0 t1 t2 t3 : Told)
    → log_opening node (contents t0).now ≡ Sync ∷ (looks b ++ replicate (n + 1) Read) → SyncTold clock t0 t1 Fine
    → AllTold (looks b) t1 t2 →
    ReadTold later t2 t3 Fine → AllTold (log_opening node (contents t0).now) t0 t3
walk_told_whole b n clock later node t0 t1 t2 t3 is synced looked told =
    subst (λ l. AllTold l t0 t3) (sym is) (walk_ended (Sync ∷ looks b) (n + 1) later t0 t2 t3
    (sync_then_look t0 t1 t2 b clock synced looked) told)

pub opening_number : (node tail ready reads : ℕ) (t0 t1 t2 : Told) (c : Contents) → 17 ≤ length (contents t0).now
    → contents t1 ≡ at_rest (contents t0).now → ready ≡ (if slice_index (contents t1).now 0 == 237 then 1 else 5)
    → reads ≡ length (records_before node tail (contents t2).now) + 1 →
    c ≡ contents t2 → records_before node tail c.now ≡ records_read node (contents t0).now
    → 1 + (ready + reads) ≡ length (log_opening node (contents t0).now)
opening_number node tail ready reads t0 t1 t2 c long synced e r same found =
    calls_by (slice_index (contents t0).now 0 == 237) ready reads (length (records_read node (contents t0).now))
    (e ∙ ap (λ (x : Contents). if slice_index x.now 0 == 237 then 1 else 5) synced)
    (r ∙ ap (λ (x : Contents). length (records_before node tail x.now) + 1) (sym same) ∙ ap (λ rs. length rs + 1) found)
    ∙ sym (ap length (opening_is node (contents t0).now long))

-- the same where a record is damaged
damaged_number : (node place ready reads : ℕ) (t0 t1 t2 : Told) → 17 ≤ length (contents t0).now → contents t1 ≡ at_rest (contents t0).now
    → ready ≡ (if slice_index (contents t1).now 0 == 237 then 1 else 5) →
    reads ≡ length (records_before node place (contents t2).now) + 1 → IsReadied t1 t2 Fine
    → records_of node (contents t2).now ≡ Err place → 1 + (ready + reads) ≡ length (log_opening node (contents t0).now)
damaged_number node place ready reads t0 t1 t2 long synced e r (inl old) bad =
    let is : contents t2 ≡ at_rest (contents t0).now = ap contents old.1.1 ∙ synced in
    let header : (slice_index (contents t0).now 0 == 237) ≡ true = ap (λ (c : Contents). slice_index c.now 0 == 237) (sym synced) ∙ old.0 in
    let damage : records_of node (contents t0).now ≡ Err place = ap (λ (c : Contents). records_of node c.now) (sym is) ∙ bad in
    calls_by (slice_index (contents t0).now 0 == 237) ready reads (length (records_read node (contents t0).now))
    (e ∙ ap (λ (x : Contents). if slice_index x.now 0 == 237 then 1 else 5) synced)
    (r ∙ ap (λ (x : Contents). length (records_before node place x.now) + 1) is
    ∙ ap (λ rs. length rs + 1) (sym (ap (λ b. if b then records_up_to node (contents t0).now (records_of node (contents t0).now) else [])
    header ∙ ap (records_up_to node (contents t0).now) damage)))
    ∙ sym (ap length (opening_is node (contents t0).now long))
damaged_number node place ready reads t0 t1 t2 long synced e r (inr new) bad =
    absurd (no_damage place (records_of node (contents t2).now) bad (empty_records node (contents t2).now new.2.long new.2.shut))

-- and where the walk was refused, however it was
pub refused_number : (node ready reads : ℕ) (e : StoreRefusal) (t0 t1 t2 : Told) → 17 ≤ length (contents t0).now
    → contents t1 ≡ at_rest (contents t0).now → ready ≡ (if slice_index (contents t1).now 0 == 237 then 1 else 5) →
    ReadsMade node (contents t2).now (Err e) reads → IsReadied t1 t2 Fine → (e ≡ Full → ⊥)
    → ((place : ℕ) → e ≡ Damaged place → records_of node (contents t2).now ≡ Err place) →
    OpeningMade {S = Found} (length (log_opening node (contents t0).now)) (Err e) (1 + (ready + reads))
refused_number node ready reads StoreFailed t0 t1 t2 long synced e r readied full bad = omega arith
refused_number node ready reads StoreStopped t0 t1 t2 long synced e r readied full bad = omega arith
refused_number node ready reads Full t0 t1 t2 long synced e r readied full bad = absurd (full refl)
refused_number node ready reads (Damaged place) t0 t1 t2 long synced e r readied full bad =
    damaged_number node place ready reads t0 t1 t2 long synced e r readied (bad place refl)
refused_number node ready reads OutOfMemory t0 t1 t2 long synced e r readied full bad = tt

pub refused_made : (S : Type 0) (calls made : ℕ) (e : DiskRefusal) → 1 ≤ made → OpeningMade {S = S} calls (Err (refused e)) made
refused_made S calls made Failed some = some
refused_made S calls made Stopped some = some

-- the reads of a walk that was refused at a place
pub refused_reads : (node tail made : ℕ) (bytes : List ℕ) (e : StoreRefusal) → IsDiskRefusal e ⊎ (e ≡ Damaged tail)
    → made ≡ length (records_before node tail bytes) → ReadsMade node bytes (Err e) (made + 1)
refused_reads node tail made bytes StoreFailed only number = omega arith
refused_reads node tail made bytes StoreStopped only number = omega arith
refused_reads node tail made bytes Full only number = tt
refused_reads node tail made bytes (Damaged place) only number =
    let at = damaged_at (Damaged place) tail place only refl in
    ap (λ n. n + 1) number ∙ ap (λ n. length (records_before node n bytes) + 1) at.1
refused_reads node tail made bytes OutOfMemory only number = tt
