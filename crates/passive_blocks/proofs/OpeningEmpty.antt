-- What the layout says of a disk on which nothing is kept.
use Rattle.std.proofs.Common.{◌≡◌, ◌⊎◌, ℕ, suc, zero, ◌+◌, ◌-◌, ◌/◌, ◌≤◌, ◌<◌, Bool, true, false, ◌&&◌, ◌==◌, ◌^◌, List, [], ◌++◌}
use Rattle.std.proofs.Common.{length, drop, replicate, refl, sym, ap, subst, ◌∙◌, arith, inl, inr}
use Rattle.std.specs.Prelude.{slice_index, Ok, Err, if◌then◌else◌}
use Rattle.std.proofs.lemmas.Bool.{false≢true, both_ways}
use Rattle.std.proofs.lemmas.List.{get_or-take, get_or-drop}
use Rattle.eden_disk.specs.Told.{Told, Contents, contents}
use Rattle.eden_disk.specs.Held.{Passes}
use Rattle.eden_disk.specs.Calls.{End, Fine, SyncTold, ReadTold}
use Rattle.eden_disk.proofs.Held.{passes_sync, passes_read, passes_join, passes_weaker}
use Rattle.passive_store.specs.Acts.{Read}
use Rattle.passive_store.specs.Kept.{StoreChange, Kept, Stands, IsOverfull, IsDamagedFrom, IsAnyOf, nothing_kept, kept_by}
use Rattle.block_tables.specs.Blocks.{numbers, is_block_size, head_place, head_bytes, heads_among, heads_of, heads_or_none}
use Rattle.block_tables.specs.Blocks.{chains_of, chains_among}
use Rattle.block_tables.specs.Blocks.{taken_by, kept_in_blocks, changes_on}
use Rattle.passive_blocks.specs.BlockLayout.{Blocks, Staged, OldLog, Foreign, Blank, format_of, map_by, block_map, overfull_by}
use Rattle.passive_blocks.specs.BlockLayout.{heads_by}
use Rattle.passive_blocks.specs.BlockLayout.{changes_left, block_changes, reads_of_blocks, opening_by, format_calls, block_layout}
use Rattle.passive_blocks.specs.NewBlocks.{IsEmptyImage, IsBlankDisk, IsNewBlocks}
use Rattle.passive_blocks.specs.Preparing.{IsPrepared, KeepsThrough, making_by}
use Rattle.passive_blocks.proofs.OpeningReads.{step_shut}

-- the first byte of a head is its gate
gate_at : (image : List ℕ) (n : ℕ) → slice_index (head_bytes image n) 0 ≡ slice_index image (head_place n)
gate_at image n =
    let some : 0 < head_place n + 32 - head_place n = omega arith in
    let first : head_place n + 0 ≡ head_place n = omega arith in
    get_or-take (head_place n + 32 - head_place n) (drop (head_place n) image) 0 0 some
    ∙ get_or-drop (head_place n) image 0 0 ∙ ap (slice_index image) first

shut_among : (node from count : ℕ) (image before : List ℕ)
    → ((n : ℕ) → from ≤ n → n < from + count → (slice_index image (head_place n) == 225) ≡ false)
    → heads_among node image before (numbers from count) ≡ Ok []
unfolding heads_among numbers
shut_among node from zero image before shut = refl
shut_among node from (suc count) image before shut =
    step_shut node from image before (numbers (from + 1) count)
    (ap (λ b. b == 225) (gate_at image from) ∙ shut from (omega arith) (omega arith))
    ∙ shut_among node (from + 1) count image before (λ n above below. shut n (omega (arith, above)) (omega (arith, below)))

pub no_heads : (node size : ℕ) (image : List ℕ) → length image ≡ size
    → ((n : ℕ) → n < size / 1024 → (slice_index image (head_place n) == 225) ≡ false) → heads_of node image ≡ Ok []
no_heads node size image long shut =
    shut_among node 0 (length image / 1024) image [] (λ n above below. shut n (omega (arith, below, long)))

no_chains : (image : List ℕ) → chains_of image [] ≡ []
unfolding chains_among
no_chains image = refl

-- nothing stands there, or blocks without a head
empty_format : (node size : ℕ) (image : List ℕ) → IsEmptyImage size image
    → (format_of image ≡ Blank) ⊎ ((format_of image ≡ Blocks) × (heads_of node image ≡ Ok []))
empty_format node size image e = go (slice_index image 1 == 235) refl e.heads
  where
    no_log : (b : Bool) → b ≡ false
        → (if b then (if length image == 4194304 then (if slice_index image 2 == 234 then Staged else OldLog) else Foreign) else Blank)
        ≡ Blank
    no_log true is = absurd (false≢true (sym is))
    no_log false is = refl

    blank : (slice_index image 1 == 235) ≡ false → format_of image ≡ Blank
    blank is =
        ap (λ b. if b then Blocks else (if slice_index image 0 == 237
        then (if length image == 4194304 then (if slice_index image 2 == 234 then Staged else OldLog) else Foreign) else Blank)) is
        ∙ no_log (slice_index image 0 == 237) e.log

    blocks : (slice_index image 1 == 235) ≡ true → format_of image ≡ Blocks
    blocks is =
        ap (λ b. if b then Blocks else (if slice_index image 0 == 237
        then (if length image == 4194304 then (if slice_index image 2 == 234 then Staged else OldLog) else Foreign) else Blank)) is

    go : (b : Bool) → (slice_index image 1 == 235) ≡ b
        → ((slice_index image 1 == 235) ≡ false) ⊎ ((n : ℕ) → n < size / 1024 → (slice_index image (head_place n) == 225) ≡ false)
        → (format_of image ≡ Blank) ⊎ ((format_of image ≡ Blocks) × (heads_of node image ≡ Ok []))
    go true is (inl none) = absurd (both_ways (slice_index image 1 == 235) none is)
    go true is (inr shut) = inr (blocks is, no_heads node size image e.long shut)
    go false is which = inl (blank is)

-- What is found of an image on which nothing is kept, for so many further changes its room is told.
abbrev pub changes_of_none : ℕ → ℕ → ℕ
changes_of_none node size = changes_left size [] (Ok nothing_kept)

pub record KeepsNothing (node size : ℕ) (image : List ℕ) : Type 0 where
  pub map : block_map node image ≡ Ok nothing_kept
  pub opens : block_layout.is_overfull node image ≡ false
  pub told : block_changes node image ≡ changes_of_none node size

pub keeps_nothing : (node size : ℕ) (image : List ℕ) → is_block_size size ≡ true → IsEmptyImage size image → KeepsNothing node size image
keeps_nothing node size image allowed e =
    let on : is_block_size (length image) ≡ true = ap is_block_size e.long ∙ allowed in
    let mapped : block_map node image ≡ map_by (format_of image) node image =
    ap (λ b. if b then map_by (format_of image) node image else Err 0) on in
    elim (empty_format node size image e) [
      | inl blank ↦
          let map_is : block_map node image ≡ Ok nothing_kept = mapped ∙ ap (λ f. map_by f node image) blank in
          record {
            map = map_is;
            opens = ap (λ f. is_block_size (length image) && overfull_by f node image) blank
                ∙ never (is_block_size (length image));
            told = ap (λ f. if overfull_by f node image then 2 ^ 63 else changes_left (length image) (heads_by f node image)
                (block_map node image)) blank
                ∙ ap (changes_left (length image) []) map_is
                ∙ ap (λ n. changes_left n [] (Ok nothing_kept)) e.long;
          }
      | inr blocks ↦
          let map_is : block_map node image ≡ Ok nothing_kept =
          mapped ∙ ap (λ f. map_by f node image) blocks.0 ∙ ap (kept_in_blocks image) blocks.1
          ∙ ap (λ cs. kept_by (changes_on image cs)) (no_chains image) in
          record {
            map = map_is;
            opens = ap (λ f. is_block_size (length image) && overfull_by f node image) blocks.0
                ∙ never (is_block_size (length image));
            told = ap (λ f. if overfull_by f node image then 2 ^ 63 else changes_left (length image) (heads_by f node image)
                (block_map node image)) blocks.0
                ∙ ap (λ hs. changes_left (length image) (heads_or_none hs) (block_map node image)) blocks.1
                ∙ ap (changes_left (length image) []) map_is
                ∙ ap (λ n. changes_left n [] (Ok nothing_kept)) e.long;
          }
    ]
  where
    never : (b : Bool) → (b && false) ≡ false
    never true = refl
    never false = refl

-- images of which the layout says the same
pub record SaysTheSame (node : ℕ) (old new : List ℕ) : Type 0 where
  pub map : block_map node new ≡ block_map node old
  pub opens : block_layout.is_overfull node new ≡ block_layout.is_overfull node old
  pub told : block_changes node new ≡ block_changes node old

pub empty_says_same : (node size : ℕ) (old new : List ℕ) → is_block_size size ≡ true → IsEmptyImage size old → IsEmptyImage size new
    → SaysTheSame node old new
empty_says_same node size old new allowed o n =
    let a = keeps_nothing node size old allowed o in
    let b = keeps_nothing node size new allowed n in
    record { map = b.map ∙ sym a.map; opens = b.opens ∙ sym a.opens; told = b.told ∙ sym a.told }

stands_same : (node told : ℕ) (kept : Kept) (changes : List StoreChange) (old new : List ℕ) → SaysTheSame node old new
    → Stands block_layout node told kept changes old → Stands block_layout node told kept changes new
stands_same node told kept changes old new same s = record {
  found = subst (IsAnyOf kept changes) (sym same.map) s.found;
  opens = same.opens ∙ s.opens;
  told = subst (λ n. told ≤ n) (sym same.told) s.told;
}

-- What stands for nothing goes on standing for nothing.
pub keeps_empty : (node size : ℕ) (old new : Told) → is_block_size size ≡ true → IsEmptyImage size (contents old).now
    → Passes (IsEmptyImage size) old new → KeepsThrough node old new
keeps_empty node size old new allowed e p = record {
  mapped = λ told kept changes h. passes_weaker (IsEmptyImage size) (Stands block_layout node told kept changes) old new
      (λ image i. stands_same node told kept changes (contents old).now image
      (empty_says_same node size (contents old).now image allowed e i) h.now) p;
  overfull = λ kept h. passes_weaker (IsEmptyImage size) (IsOverfull block_layout node kept) old new
      (λ image i. let same = empty_says_same node size (contents old).now image allowed e i in
      (same.map ∙ h.now.0, same.opens ∙ h.now.1)) p;
  unmapped = λ place h. passes_weaker (IsEmptyImage size) (IsDamagedFrom block_layout node place) old new
      (λ image i. (empty_says_same node size (contents old).now image allowed e i).map ∙ h.now) p;
}

pub keeps_sync : (node clock : ℕ) (old new : Told) (end : End) → SyncTold clock old new end → KeepsThrough node old new
keeps_sync node clock old new end synced = record {
  mapped = λ told kept changes h. passes_sync (Stands block_layout node told kept changes) clock old new end h synced;
  overfull = λ kept h. passes_sync (IsOverfull block_layout node kept) clock old new end h synced;
  unmapped = λ place h. passes_sync (IsDamagedFrom block_layout node place) clock old new end h synced;
}

pub keeps_read : (node clock : ℕ) (old new : Told) (end : End) → ReadTold clock old new end → KeepsThrough node old new
keeps_read node clock old new end read = record {
  mapped = λ told kept changes h. passes_read (Stands block_layout node told kept changes) clock old new end h read;
  overfull = λ kept h. passes_read (IsOverfull block_layout node kept) clock old new end h read;
  unmapped = λ place h. passes_read (IsDamagedFrom block_layout node place) clock old new end h read;
}

pub keeps_join : (node : ℕ) (old mid new : Told) → KeepsThrough node old mid → KeepsThrough node mid new → KeepsThrough node old new
keeps_join node old mid new a b = record {
  mapped = λ told kept changes h. let first = a.mapped told kept changes h in
      passes_join (Stands block_layout node told kept changes) old mid new first (b.mapped told kept changes first.after);
  overfull = λ kept h. let first = a.overfull kept h in
      passes_join (IsOverfull block_layout node kept) old mid new first (b.overfull kept first.after);
  unmapped = λ place h. let first = a.unmapped place h in
      passes_join (IsDamagedFrom block_layout node place) old mid new first (b.unmapped place first.after);
}

pub keeps_none : (node : ℕ) (t : Told) → KeepsThrough node t t
keeps_none node t = keeps_read node 0 t t Fine refl

-- a blank disk is empty, and new blocks are
pub blank_image : (size : ℕ) (c : Contents) → IsBlankDisk size c → IsEmptyImage size c.now
blank_image size c b = record { long = b.long; log = b.log; heads = inl b.format }

-- Blocks were made of a blank disk.
pub made_new : (node size : ℕ) (image : List ℕ) (c : Contents) → is_block_size size ≡ true → length image ≡ size
    → (slice_index image 0 == 237) ≡ false → (slice_index image 1 == 235) ≡ false → IsEmptyImage size c.now → IsNewBlocks size c
    → IsPrepared node image c.now
made_new node size image c allowed long log format empty new =
    let e : IsEmptyImage size image = record { long = long; log = log; heads = inl format } in
    let same = empty_says_same node size image c.now allowed e empty in
    let heads : heads_of node c.now ≡ Ok [] = no_heads node size c.now new.long new.shut in
    let is_blank : format_of image ≡ Blank = blank_of node size image e format in
    let reads : reads_of_blocks c.now (heads_of node c.now) ≡ length image / 1024 =
    ap (reads_of_blocks c.now) heads ∙ ap (λ cs. length c.now / 1024 + length (taken_by cs)) (no_chains c.now)
    ∙ (let n : length c.now / 1024 + 0 ≡ length image / 1024 = omega (arith, new.long, long) in n) in
    record {
      format = new.format;
      long = new.long ∙ sym long;
      map = same.map;
      told = same.told;
      fits = ap (λ f. overfull_by f node image) is_blank;
      calls = ap (λ f. opening_by f node image) is_blank
          ∙ sym (ap (λ n. format_calls (length image) ++ replicate n Read) reads)
          ∙ sym (ap (λ f. making_by f node image ++ replicate (reads_of_blocks c.now (heads_of node c.now)) Read) is_blank);
    }
  where
    not_both : (b l s t : Bool) → b ≡ false
        → (if b then Blocks else (if l then (if s then (if t then Staged else OldLog) else Foreign) else Blank)) ≡ Blocks → ⊥
    not_both true l s t none is = false≢true (sym none)
    not_both false true true true none is = let bad : Staged ≡ Blocks = is in cc
    not_both false true true false none is = let bad : OldLog ≡ Blocks = is in cc
    not_both false true false t none is = let bad : Foreign ≡ Blocks = is in cc
    not_both false false s t none is = let bad : Blank ≡ Blocks = is in cc

    blank_of : (node size : ℕ) (image : List ℕ) → IsEmptyImage size image → (slice_index image 1 == 235) ≡ false → format_of image ≡ Blank
    blank_of node size image e none = elim (empty_format node size image e) [
      | inl blank ↦ blank
      | inr blocks ↦ absurd (not_both (slice_index image 1 == 235) (slice_index image 0 == 237) (length image == 4194304)
          (slice_index image 2 == 234) none blocks.0)
    ]
