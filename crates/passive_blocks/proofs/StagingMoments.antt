-- The calls that copy values and stage their heads: at each moment an opening finds what it found before them.
use Rattle.std.specs.Prelude.{◌≡◌, ◌⊎◌, ℕ, suc, zero, ◌+◌, ◌-◌, ◌*◌, ◌≤◌, ◌<◌, ◌==◌, false, List, [], ◌∷◌, ◌++◌, length, take, drop}
use Rattle.std.specs.Prelude.{map, flat_map, slice_index, slice_range, Ok}
use Rattle.std.specs.List.{AllByRecursion}
use Rattle.std.proofs.Common.{refl, sym, ap, subst, ◌∙◌, inl, inr, arith, length-append}
use Rattle.std.proofs.lemmas.List.{append_assoc, get_or-drop, length-drop, length-take-le}
use Rattle.std.specs.Int.{w16, to_be_bytes}
use Rattle.std.specs.FinMap as finite
use Rattle.capability.specs.declared.Uid.{Uid}
use Rattle.eden_disk.specs.Told.{Told, Contents, contents, at_rest, overlay, noted, Synced}
use Rattle.eden_disk.specs.Calls.{End}
use Rattle.eden_disk.specs.Held.{Passes}
use Rattle.eden_disk.proofs.Held.{passes_join, passes_weaker}
use Rattle.eden_disk.proofs.Overlay.{length-overlay, overlay_outside, overlay_inside}
use Rattle.passive_store.specs.Kept.{Kept}
use Rattle.passive_store.specs.Log.{log_map}
use Rattle.passive_store.specs.Acts.{DiskCall, Write, Sync, CallsTold, AllTold}
use Rattle.block_tables.specs.Blocks.{Head, numbers, blocks_of}
use Rattle.block_tables.specs.Changes.{chain_writes, first_or_zero}
use Rattle.passive_blocks.specs.Conversion.{moved, moved_from, moved_heads, move_calls, part_of, heads_spelled, staged_bytes}
use Rattle.passive_blocks.specs.Conversion.{staging_calls, is_too_much, old_log, blocks_moved}
use Rattle.passive_blocks.specs.Fits.{Fits}
use Rattle.passive_blocks.specs.Converting.{SaysSame, IsOldLog, IsStagedLog, IsGoodEntry}
use Rattle.passive_blocks.proofs.ConvertStages.{AreWritten, blocks_for_all, may_copy, may_write}
use Rattle.passive_blocks.proofs.SameParts.{same_take}
use Rattle.passive_blocks.proofs.StagedBytes.{spelled_long}
use Rattle.passive_blocks.proofs.Moving.{stage_call, staged_stay}
use Rattle.passive_blocks.proofs.Converting.{copying_says, staging_says}
use Rattle.passive_blocks.proofs.ConvertMoments.{EachMay, each_append, rest_fits, same_trans, some_pass, all_pass, calls_pass, all_parted}
use Rattle.passive_blocks.proofs.ConvertMoments.{Parted, parted, take_equals}
use Rattle.passive_blocks.proofs.StagedSays.{staged_says_log, moved_sum, not_more}
use Rattle.passive_blocks.proofs.StagedTold.{part_long, written_on, copies_told, stages_told, AreCopied, AreStaged, joined}

-- 1. All of them write behind the log

chain_may : (start : List ℕ) (block count : ℕ) (body : List ℕ) → 1024 ≤ block → block + count ≤ 3968
    → EachMay (may_copy start) 4194304 (chain_writes (numbers block count) body)
unfolding numbers chain_writes
chain_may start block zero body from to = tt
chain_may start block (suc m) body from to =
    let size : length (to_be_bytes w16 (first_or_zero (numbers (block + 1) m)) ++ take 1022 body) ≡ 2 + length (take 1022 body) =
    length-append (to_be_bytes w16 (first_or_zero (numbers (block + 1) m))) (take 1022 body) in (
      (omega (arith, to, size, part_long body), λ k b low high inside. absurd (omega (arith, from, low, inside))),
      chain_may start (block + 1) m (drop 1022 body) (omega (arith, from)) (omega (arith, to)),
    )

pub copies_may : (start : List ℕ) (number first : ℕ) (es : List (Uid × List ℕ)) → 1024 ≤ first → first + blocks_for_all es ≤ 3968
    → EachMay (may_copy start) 4194304 (flat_map move_calls (moved_from number first es))
unfolding moved_from
copies_may start number first [] from to = tt
copies_may start number first (e ∷ es) from to = (
  tt,
  each_append (may_copy start) 4194304 (chain_writes (numbers first (blocks_of (length e.1))) e.1)
      (flat_map move_calls (moved_from (number + 1) (first + blocks_of (length e.1)) es))
      (chain_may start first (blocks_of (length e.1)) e.1 from (omega (arith, to)))
      (copies_may start (number + 1) (first + blocks_of (length e.1)) es (omega (arith, from)) (omega (arith, to))),
)

pub stages_may : (start : List ℕ) (heads : List Head) (n : ℕ) → n ≤ 128
    → EachMay (may_copy start) 4194304 (map (stage_call heads) (numbers 0 n))
unfolding numbers
stages_may start heads zero few = tt
stages_may start heads (suc n) few =
    let long : length (heads_spelled 4096 heads) ≡ 131072 = spelled_long 4096 heads in
    let size : length (part_of (heads_spelled 4096 heads) n) ≡ n * 1024 + 1024 - n * 1024 =
    length-take-le (n * 1024 + 1024 - n * 1024) (drop (n * 1024) (heads_spelled 4096 heads))
    (omega (arith, few, long, length-drop (n * 1024) (heads_spelled 4096 heads))) in
    subst (λ calls. EachMay (may_copy start) 4194304 calls) (sym (joined heads n))
    (each_append (may_copy start) 4194304 (map (stage_call heads) (numbers 0 n)) (stage_call heads n ∷ [])
    (stages_may start heads n (omega (arith, few)))
    ((omega (arith, few, size), λ k b low high inside. absurd (omega (arith, low, inside))), tt))

-- 2. What stands on the disk then

record IsReadyFor (start : List ℕ) (kept : Kept) (now : List ℕ) : Type 0 where
  pub fits : Fits (may_copy start) 4194304 now
  pub spelled : slice_range now 4063232 4194304 ≡ staged_bytes kept
  pub written : AreWritten now (moved kept)

all_on : (xs ys : List ℕ) (number first : ℕ) (es : List (Uid × List ℕ)) → length xs ≡ length ys
    → ((k : ℕ) → first * 1024 ≤ k → k < (first + blocks_for_all es) * 1024 → slice_index xs k ≡ slice_index ys k)
    → AreWritten ys (moved_from number first es) → AreWritten xs (moved_from number first es)
unfolding moved_from
all_on xs ys number first [] long same w = tt
all_on xs ys number first (e ∷ es) long same w = (
  written_on xs ys first (blocks_of (length e.1)) e.1 long (λ k low high. same k low (omega (arith, high))) w.0,
  all_on xs ys (number + 1) (first + blocks_of (length e.1)) es long (λ k low high. same k (omega (arith, low)) (omega (arith, high))) w.1,
)

ready : (start one now : List ℕ) (kept : Kept) → length start ≡ 4194304 → 1024 + blocks_for_all (finite.entries kept.bodies) ≤ 3968
    → Fits (may_copy start) 4194304 now → AreCopied 1024 (moved kept) (blocks_for_all (finite.entries kept.bodies)) start one
    → AreStaged (moved_heads kept) 128 one now → IsReadyFor start kept now
ready start one now kept whole room fits c s = record {
  fits = fits;
  spelled = take_equals 131072 (drop 4063232 now) (staged_bytes kept) (spelled_long 4096 (moved_heads kept))
      (omega (arith, fits.long, length-drop 4063232 now)) (λ k below. get_or-drop 4063232 now k 0 ∙ s.same k (omega (arith, below)));
  written = all_on now one 0 1024 (finite.entries kept.bodies) s.long (λ k low high. s.below k (omega (arith, high, room))) c.written;
}

-- 3. The byte that says that heads are staged

staged_image : List ℕ → List ℕ
staged_image now = overlay 2 (234 ∷ []) now

staged_image_is : (now : List ℕ) → IsOldLog now → IsStagedLog (staged_image now)
unfolding staged_image
staged_image_is now is = record {
  long = length-overlay 2 (234 ∷ []) now (omega (arith, is.long)) ∙ is.long;
  log = overlay_outside 2 0 (234 ∷ []) now (omega (arith, is.long)) (inl (omega arith)) ∙ is.log;
  none = ap (λ b. b == 235) (overlay_outside 2 1 (234 ∷ []) now (omega (arith, is.long)) (inl (omega arith))) ∙ is.none;
  staged = overlay_inside 2 2 (234 ∷ []) now (omega (arith, is.long)) (omega arith) (omega arith);
}

beside_two : (k : ℕ) → (k ≡ 2 → ⊥) → (k < 2) ⊎ (3 ≤ k)
beside_two zero other = inl (omega arith)
beside_two (suc zero) other = inl (omega arith)
beside_two (suc (suc zero)) other = absurd (other refl)
beside_two (suc (suc (suc k))) other = inr (omega arith)

staged_image_fits : (now : List ℕ) → IsOldLog now → Fits (may_write 2 now) 4194304 (staged_image now)
unfolding staged_image
staged_image_fits now is = record {
  long = length-overlay 2 (234 ∷ []) now (omega (arith, is.long)) ∙ is.long;
  bytes = λ k other. overlay_outside 2 k (234 ∷ []) now (omega (arith, is.long)) (beside_two k other);
}

two_may : (now : List ℕ) → EachMay (may_write 2 now) 4194304 (Write 2 (234 ∷ []) ∷ Sync ∷ [])
two_may now = ((omega arith, λ k b from to other. absurd (other (omega (arith, from, to)))), (tt, tt))

byte_says : (node : ℕ) (start now image : List ℕ) (kept : Kept) → IsOldLog start → log_map node (old_log start) ≡ Ok kept
    → is_too_much (Ok kept) ≡ false
    → AllByRecursion (λ (e : Uid × List ℕ). IsGoodEntry node e.0 (length e.1)) (finite.entries kept.bodies)
    → 1024 + blocks_for_all (finite.entries kept.bodies) ≤ 3968
    → IsReadyFor start kept now → Fits (may_write 2 now) 4194304 image → SaysSame node image start
unfolding staged_image
byte_says node start now image kept is log fits good room r image_fits =
    let old : IsOldLog now = record {
      long = r.fits.long;
      log = r.fits.bytes 0 (omega arith) ∙ is.log;
      none = ap (λ b. b == 235) (r.fits.bytes 1 (omega arith)) ∙ is.none;
      unstaged = ap (λ b. b == 234) (r.fits.bytes 2 (omega arith)) ∙ is.unstaged;
    } in
    let same : old_log now ≡ old_log start = same_take 1048576 now start (r.fits.long ∙ sym is.long) (λ k below. r.fits.bytes k below) in
    let there : log_map node (old_log now) ≡ Ok kept = ap (λ xs. log_map node xs) same ∙ log in
    let staged : SaysSame node (staged_image now) now =
    staged_says_log node now (staged_image now) kept old there fits (staged_image_is now old) good
    (staged_stay 2 (234 ∷ []) now (omega arith) old.long ∙ r.spelled)
    (all_on (staged_image now) now 0 1024 (finite.entries kept.bodies) (length-overlay 2 (234 ∷ []) now (omega (arith, old.long)))
    (λ k low high. overlay_outside 2 k (234 ∷ []) now (omega (arith, old.long)) (inr (omega (arith, low)))) r.written) in
    same_trans node image now start
    (staging_says node now (staged_image now) image old (staged_image_is now old) (staged_image_fits now old) staged image_fits)
    (copying_says node start now is r.fits)

-- what stands there before that byte is written
ready_told : (start : List ℕ) (kept : Kept) (old mid : Told) → contents old ≡ at_rest start → IsOldLog start
    → 1024 + blocks_for_all (finite.entries kept.bodies) ≤ 3968
    → AllTold (flat_map move_calls (moved kept) ++ (map (stage_call (moved_heads kept)) (numbers 0 128) ++ Sync ∷ [])) old mid
    → IsReadyFor start kept (contents mid).now
ready_told start kept old mid rest is room all =
    let es : List (Uid × List ℕ) = finite.entries kept.bodies in
    let copies : List DiskCall = flat_map move_calls (moved kept) in
    let stages : List DiskCall = map (stage_call (moved_heads kept)) (numbers 0 128) in
    let may : EachMay (may_copy start) 4194304 (copies ++ (stages ++ Sync ∷ [])) =
    each_append (may_copy start) 4194304 copies (stages ++ Sync ∷ []) (copies_may start 0 1024 es (omega arith) room)
    (each_append (may_copy start) 4194304 stages (Sync ∷ []) (stages_may start (moved_heads kept) 128 (omega arith)) (tt, tt)) in
    let first : Passes (Fits (may_copy start) 4194304) old mid = all_pass (may_copy start) 4194304 (copies ++ (stages ++ Sync ∷ [])) old mid
    may (rest_fits (may_copy start) 4194304 start old rest (record { long = is.long; bytes = λ k below. refl })) all in
    let one = all_parted copies (stages ++ Sync ∷ []) old mid all in
    let two = all_parted stages (Sync ∷ []) one.0 mid one.2 in
    let synced : mid ≡ noted (Synced two.2.1) two.0 = two.2.3 ∙ two.2.2 in
    let same : (contents mid).now ≡ (contents two.0).now = ap (λ t. (contents t).now) synced in
    let size : (contents old).now ≡ start = ap (λ (c : Contents). c.now) rest in
    let copied : AreCopied 1024 (moved kept) (blocks_for_all es) start (contents one.0).now =
    subst (λ xs. AreCopied 1024 (moved kept) (blocks_for_all es) xs (contents one.0).now) size
    (copies_told 0 1024 es old one.0 (omega (arith, room)) (omega (arith, room, is.long, ap (λ xs. length xs) size)) one.1) in
    let staged : AreStaged (moved_heads kept) 128 (contents one.0).now (contents mid).now =
    subst (λ xs. AreStaged (moved_heads kept) 128 (contents one.0).now xs) (sym same)
    (stages_told (moved_heads kept) 128 one.0 two.0 (omega arith) (copied.long ∙ is.long) (spelled_long 4096 (moved_heads kept)) two.1) in
    ready start (contents one.0).now (contents mid).now kept is.long room first.after.now copied staged

-- and behind it
pub record AreStagedOn (kept : Kept) (c : Contents) : Type 0 where
  pub rest : c ≡ at_rest c.now
  pub staged : IsStagedLog c.now
  pub spelled : slice_range c.now 4063232 4194304 ≡ staged_bytes kept
  pub written : AreWritten c.now (moved kept)

staged_on : (start now : List ℕ) (kept : Kept) → IsOldLog start → 1024 + blocks_for_all (finite.entries kept.bodies) ≤ 3968
    → IsReadyFor start kept now → AreStagedOn kept (at_rest (staged_image now))
unfolding staged_image
staged_on start now kept is room r =
    let old : IsOldLog now = record {
      long = r.fits.long;
      log = r.fits.bytes 0 (omega arith) ∙ is.log;
      none = ap (λ b. b == 235) (r.fits.bytes 1 (omega arith)) ∙ is.none;
      unstaged = ap (λ b. b == 234) (r.fits.bytes 2 (omega arith)) ∙ is.unstaged;
    } in
    record {
      rest = refl;
      staged = staged_image_is now old;
      spelled = staged_stay 2 (234 ∷ []) now (omega arith) old.long ∙ r.spelled;
      written = all_on (staged_image now) now 0 1024 (finite.entries kept.bodies)
          (length-overlay 2 (234 ∷ []) now (omega (arith, old.long)))
          (λ k low high. overlay_outside 2 k (234 ∷ []) now (omega (arith, old.long)) (inr (omega (arith, low)))) r.written;
    }

pub staged_told : (start : List ℕ) (kept : Kept) (old new : Told) → contents old ≡ at_rest start → IsOldLog start
    → is_too_much (Ok kept) ≡ false → AllTold (staging_calls kept) old new → AreStagedOn kept (contents new)
unfolding staged_image
staged_told start kept old new rest is fits told =
    let copies : List DiskCall = flat_map move_calls (moved kept) in
    let stages : List DiskCall = map (stage_call (moved_heads kept)) (numbers 0 128) in
    let room : 1024 + blocks_for_all (finite.entries kept.bodies) ≤ 3968 =
    omega (arith, moved_sum 0 1024 (finite.entries kept.bodies), not_more 2944 (blocks_moved kept) fits) in
    let together : copies ++ (stages ++ (Sync ∷ Write 2 (234 ∷ []) ∷ Sync ∷ []))
    ≡ (copies ++ (stages ++ Sync ∷ [])) ++ (Write 2 (234 ∷ []) ∷ Sync ∷ []) =
    ap (λ xs. copies ++ xs) (sym (append_assoc stages (Sync ∷ []) (Write 2 (234 ∷ []) ∷ Sync ∷ [])))
    ∙ sym (append_assoc copies (stages ++ Sync ∷ []) (Write 2 (234 ∷ []) ∷ Sync ∷ [])) in
    let two = all_parted (copies ++ (stages ++ Sync ∷ [])) (Write 2 (234 ∷ []) ∷ Sync ∷ []) old new
    (subst (λ calls. AllTold calls old new) together told) in
    let e = two.2 in
    let last : contents new ≡ at_rest (staged_image (contents two.0).now) =
    ap (λ t. contents t) (e.3.3 ∙ e.3.2) ∙ ap (λ t. at_rest (contents t).now) e.2 in
    subst (λ c. AreStagedOn kept c) (sym last)
    (staged_on start (contents two.0).now kept is room (ready_told start kept old two.0 rest is room two.1))

-- 4. All calls

pub staging_keeps : (node : ℕ) (start : List ℕ) (kept : Kept) (old new : Told) (end : End) → contents old ≡ at_rest start → IsOldLog start
    → log_map node (old_log start) ≡ Ok kept → is_too_much (Ok kept) ≡ false
    → AllByRecursion (λ (e : Uid × List ℕ). IsGoodEntry node e.0 (length e.1)) (finite.entries kept.bodies)
    → CallsTold (staging_calls kept) old new end → Passes (λ image. SaysSame node image start) old new
staging_keeps node start kept old new end rest is log fits good told =
    by_parts (parted before (Write 2 (234 ∷ []) ∷ Sync ∷ []) old new end (subst (λ calls. CallsTold calls old new end) together told))
  where
    es : List (Uid × List ℕ)
    es = finite.entries kept.bodies

    copies : List DiskCall
    copies = flat_map move_calls (moved kept)

    stages : List DiskCall
    stages = map (stage_call (moved_heads kept)) (numbers 0 128)

    before : List DiskCall
    before = copies ++ (stages ++ Sync ∷ [])

    together : copies ++ (stages ++ (Sync ∷ Write 2 (234 ∷ []) ∷ Sync ∷ [])) ≡ before ++ (Write 2 (234 ∷ []) ∷ Sync ∷ [])
    together = ap (λ xs. copies ++ xs) (sym (append_assoc stages (Sync ∷ []) (Write 2 (234 ∷ []) ∷ Sync ∷ [])))
        ∙ sym (append_assoc copies (stages ++ Sync ∷ []) (Write 2 (234 ∷ []) ∷ Sync ∷ []))

    room : 1024 + blocks_for_all es ≤ 3968
    room = omega (arith, moved_sum 0 1024 es, not_more 2944 (blocks_moved kept) fits)

    may : EachMay (may_copy start) 4194304 before
    may = each_append (may_copy start) 4194304 copies (stages ++ Sync ∷ []) (copies_may start 0 1024 es (omega arith) room)
        (each_append (may_copy start) 4194304 stages (Sync ∷ []) (stages_may start (moved_heads kept) 128 (omega arith)) (tt, tt))

    begun : Fits (may_copy start) 4194304 start
    begun = record { long = is.long; bytes = λ k below. refl }

    says : (to : Told) → Passes (Fits (may_copy start) 4194304) old to → Passes (λ image. SaysSame node image start) old to
    says to passes = passes_weaker (Fits (may_copy start) 4194304) (λ image. SaysSame node image start) old to
        (λ image f. copying_says node start image is f) passes

    made : (mid : Told) → AllTold before old mid → CallsTold (Write 2 (234 ∷ []) ∷ Sync ∷ []) mid new end
        → Passes (λ image. SaysSame node image start) old new
    made mid all end_told =
        let first : Passes (Fits (may_copy start) 4194304) old mid = all_pass (may_copy start) 4194304 before old mid may
        (rest_fits (may_copy start) 4194304 start old rest begun) all in
        let one = all_parted copies (stages ++ Sync ∷ []) old mid all in
        let two = all_parted stages (Sync ∷ []) one.0 mid one.2 in
        let sync = two.2 in
        let synced : mid ≡ noted (Synced sync.1) two.0 = sync.3 ∙ sync.2 in
        let same : (contents mid).now ≡ (contents two.0).now = ap (λ t. (contents t).now) synced in
        let at : contents mid ≡ at_rest (contents mid).now = ap (λ t. contents t) synced ∙ ap (λ xs. at_rest xs) (sym same) in
        let size : (contents old).now ≡ start = ap (λ (c : Contents). c.now) rest in
        let copied : AreCopied 1024 (moved kept) (blocks_for_all es) start (contents one.0).now =
        subst (λ xs. AreCopied 1024 (moved kept) (blocks_for_all es) xs (contents one.0).now) size
        (copies_told 0 1024 es old one.0 (omega (arith, room)) (omega (arith, room, is.long, ap (λ xs. length xs) size)) one.1) in
        let staged : AreStaged (moved_heads kept) 128 (contents one.0).now (contents mid).now =
        subst (λ xs. AreStaged (moved_heads kept) 128 (contents one.0).now xs) (sym same)
        (stages_told (moved_heads kept) 128 one.0 two.0 (omega arith) (copied.long ∙ is.long) (spelled_long 4096 (moved_heads kept)) two.1)
        in
        let there : IsReadyFor start kept (contents mid).now =
        ready start (contents one.0).now (contents mid).now kept is.long room first.after.now copied staged in
        passes_join (λ image. SaysSame node image start) old mid new (says mid first)
        (passes_weaker (Fits (may_write 2 (contents mid).now) 4194304) (λ image. SaysSame node image start) mid new
        (λ image f. byte_says node start (contents mid).now image kept is log fits good room there f)
        (calls_pass (may_write 2 (contents mid).now) 4194304 (Write 2 (234 ∷ []) ∷ Sync ∷ []) mid new end (two_may (contents mid).now)
        (rest_fits (may_write 2 (contents mid).now) 4194304 (contents mid).now mid at
        (record { long = there.fits.long; bytes = λ k other. refl }))
        end_told))

    by_parts : Parted before (Write 2 (234 ∷ []) ∷ Sync ∷ []) old new end → Passes (λ image. SaysSame node image start) old new
    by_parts (inl some) = says new (some_pass (may_copy start) 4194304 before old new end may (rest_fits
        (may_copy start) 4194304 start old rest begun) some)
    by_parts (inr all) = made all.0 all.1 all.2
