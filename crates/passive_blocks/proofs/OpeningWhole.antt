-- A whole opening of blocks: its sync, what makes them, and the reads.
use Rattle.std.proofs.Common.{◌≡◌, ℕ, suc, zero, ◌+◌, ◌-◌, ◌≤◌, true, false, ◌&&◌, ◌==◌, List, [], ◌∷◌, ◌++◌}
use Rattle.std.proofs.Common.{length, replicate, refl, sym, ap, subst, ◌∙◌, arith, inl, inr, length-append}
use Rattle.std.specs.Prelude.{slice_index, Result, Ok, Err, IfOk, IfErr, OnOk, if◌then◌else◌}
use Rattle.std.proofs.lemmas.Bool.{eq-eqb}
use Rattle.std.proofs.lemmas.List.{length-replicate}
use Rattle.eden_disk.specs.declared.disk.DiskRefusal.{DiskRefusal}
use Rattle.eden_disk.specs.declared.disk.DiskRefusal.TheVariants.{Failed as DiskFailed, Stopped as DiskStopped}
use Rattle.eden_disk.specs.Told.{Told, Contents, contents}
use Rattle.eden_disk.specs.Calls.{Fine, AtFault, AtStop, ReadTold, SyncTold, end_of}
use Rattle.passive_store.specs.declared.store.StoreRefusal.{StoreRefusal}
use Rattle.passive_store.specs.declared.store.StoreRefusal.TheVariants.{Failed, Stopped, Full, Damaged, OutOfMemory}
use Rattle.passive_store.specs.Acts.{DiskCall, Read, Sync, AllTold, SomeTold}
use Rattle.passive_store.specs.Kept.{OpeningMade, OpeningTold, IsOverfullBy, refused, end_of_store}
use Rattle.passive_store.proofs.Joining.{all_more, all_some}
use Rattle.block_tables.specs.declared.table.Table.{Table}
use Rattle.block_tables.specs.Blocks.{Head, is_block_size, heads_of, blocks_map}
use Rattle.passive_blocks.specs.BlockLayout.{Blocks, Staged, OldLog, Foreign, Blank, format_of, map_by, block_map, block_layout}
use Rattle.passive_blocks.specs.BlockLayout.{block_opening}
use Rattle.passive_blocks.specs.BlockLayout.{overfull_by, opening_by, reads_of_blocks}
use Rattle.passive_blocks.specs.StoreState.{IsTableOf}
use Rattle.passive_blocks.specs.Preparing.{AreReady, IsSynced, calls_to_blocks, calls_behind_sync}
use Rattle.passive_blocks.proofs.OpeningRead.{size_parts}

-- the device calls of an image whose size is allowed, and of another
pub calls_are : (node : ℕ) (image : List ℕ) → is_block_size (length image) ≡ true → block_opening node image
    ≡ Sync ∷ calls_behind_sync node image
calls_are node image allowed = ap (λ b. if b then Sync ∷ Read ∷ opening_by (format_of image) node image else []) allowed

pub calls_none_there : (node : ℕ) (image : List ℕ) → is_block_size (length image) ≡ false → block_opening node image ≡ []
calls_none_there node image not_allowed = ap (λ b. if b then Sync ∷ Read ∷ opening_by (format_of image) node image else []) not_allowed

pub map_none : (node place : ℕ) (image : List ℕ) → is_block_size (length image) ≡ false → Damaged 0 ≡ Damaged place
    → block_map node image ≡ Err place
map_none node place image not_allowed is =
    ap (λ b. if b then map_by (format_of image) node image else Err 0) not_allowed ∙ ap (λ n. Err n) (let same : 0 ≡ place = cc in same)

pub fits_none : (node : ℕ) (image : List ℕ) → is_block_size (length image) ≡ false → block_layout.is_overfull node image ≡ false
fits_none node image not_allowed = ap (λ b. b && overfull_by (format_of image) node image) not_allowed

pub fits_is : (node : ℕ) (image : List ℕ) → is_block_size (length image) ≡ true
    → block_layout.is_overfull node image ≡ overfull_by (format_of image) node image
fits_is node image allowed = ap (λ b. b && overfull_by (format_of image) node image) allowed

pub full_is : (S T : Type 0) (node : ℕ) (image : List ℕ) (e : StoreRefusal) → is_block_size (length image) ≡ true
    → IsOverfullBy {S = S} (overfull_by (format_of image) node image) (Err e) → IsOverfullBy {S = T}
    (block_layout.is_overfull node image) (Err e)
full_is S T node image Failed allowed h = tt
full_is S T node image Stopped allowed h = tt
full_is S T node image Full allowed h = fits_is node image allowed ∙ h
full_is S T node image (Damaged place) allowed h = fits_is node image allowed ∙ h
full_is S T node image OutOfMemory allowed h = tt

-- the sync was refused
pub sync_refused : (S : Type 0) (rest : List DiskCall) (clock : ℕ) (old new : Told) (e : DiskRefusal)
    → SyncTold clock old new (end_of {T = Unit {0}} (Err e)) → OpeningTold {S = S} (Sync ∷ rest) old new (Err (refused e))
sync_refused S rest clock old new DiskFailed told = inl (clock, told)
sync_refused S rest clock old new DiskStopped told = inl (clock, told)

-- what comes behind the sync was refused
pub made_more : (S T : Type 0) (calls made : ℕ) (e : StoreRefusal) → OpeningMade {S = S} calls (Err e) made
    → OpeningMade {S = T} (1 + calls) (Err e) (1 + made)
made_more S T calls made Failed m = omega (arith, m)
made_more S T calls made Stopped m = omega (arith, m)
made_more S T calls made Full m = ap (λ n. 1 + n) m
made_more S T calls made (Damaged place) m = ap (λ n. 1 + n) m
made_more S T calls made OutOfMemory m = tt

pub told_more : (S T : Type 0) (rest : List DiskCall) (clock : ℕ) (t0 t1 t2 : Told) (e : StoreRefusal) → SyncTold clock t0 t1 Fine
    → OpeningTold {S = S} rest t1 t2 (Err e) → OpeningTold {S = T} (Sync ∷ rest) t0 t2 (Err e)
told_more S T rest clock t0 t1 t2 Failed synced told = inr (t1, clock, synced, told)
told_more S T rest clock t0 t1 t2 Stopped synced told = inr (t1, clock, synced, told)
told_more S T rest clock t0 t1 t2 Full synced told = (t1, clock, synced, told)
told_more S T rest clock t0 t1 t2 (Damaged place) synced told = (t1, clock, synced, told)
told_more S T rest clock t0 t1 t2 OutOfMemory synced told =
    (Sync ∷ told.0, told.1, ap (λ l. Sync ∷ l) told.2, (t1, clock, synced, told.3))

-- reads change nothing
reads_told : (n : ℕ) (t : Told) → AllTold (replicate n Read) t t
reads_told zero t = refl
reads_told (suc n) t = (t, 0, refl, reads_told n t)

one_read : (n : ℕ) → 1 ≤ n → replicate n Read ≡ Read ∷ replicate (n - 1) Read
one_read n some = let one : n ≡ suc (n - 1) = omega (arith, some) in ap (λ m. replicate m Read) one

reads_some : (image : List ℕ) (found : Result (List Head) ℕ) → 32768 ≤ length image → 1 ≤ reads_of_blocks image found
reads_some image (Ok heads) least = omega (arith, least)
reads_some image (Err place) least = omega arith

-- The reads, however they ended, behind calls that were made.
reads_ended : (S : Type 0) (first : List DiskCall) (n clock : ℕ) (t0 t2 t3 : Told) (r : Result S StoreRefusal) → 1 ≤ n → AllTold first t0 t2
    → ReadTold clock t2 t3 (end_of_store r) → OpeningTold (first ++ replicate n Read) t0 t3 r
reads_ended S first n clock t0 t2 t3 r some all told = go r told
  where
    fine : t3 ≡ t2 → AllTold (first ++ replicate n Read) t0 t3
    fine same = subst (AllTold (first ++ replicate n Read) t0) (sym same) (all_more first (replicate n Read) t0 t2 t2 all (reads_told n t2))

    go : (q : Result S StoreRefusal) → ReadTold clock t2 t3 (end_of_store q) → OpeningTold (first ++ replicate n Read) t0 t3 q
    go (Ok x) same = fine same
    go (Err Failed) same = subst (λ l. SomeTold (first ++ l) t0 t3 AtFault) (sym (one_read n some))
        (all_some first (Read ∷ replicate (n - 1) Read) t0 t2 t3 AtFault all (inl (clock, same)))
    go (Err Stopped) cut = subst (λ l. SomeTold (first ++ l) t0 t3 AtStop) (sym (one_read n some))
        (all_some first (Read ∷ replicate (n - 1) Read) t0 t2 t3 AtStop all (inl (clock, cut)))
    go (Err Full) same = fine same
    go (Err (Damaged place)) same = fine same
    go (Err OutOfMemory) same = (first, replicate n Read, refl, subst (AllTold first t0) (sym same) all)

-- all calls of an opening, whose blocks were made ready
whole_calls : (node : ℕ) (image : List ℕ) (c : Contents) → is_block_size (length image) ≡ true → AreReady node image c
    → block_opening node image ≡ (Sync ∷ calls_to_blocks node image) ++ replicate (reads_of_blocks c.now (heads_of node c.now)) Read
whole_calls node image c allowed ready = calls_are node image allowed ∙ ap (λ l. Sync ∷ Read ∷ l) ready.prepared.calls

pub whole_told : (node clock later : ℕ) (t0 t1 t2 t3 : Told) (r : Result Table StoreRefusal) → is_block_size (length (contents t0).now)
    ≡ true
    → SyncTold clock t0 t1 Fine → AllTold (calls_to_blocks node (contents t0).now) t1 t2 → AreReady node (contents t0).now (contents t2)
    → ReadTold later t2 t3 (end_of_store r) → OpeningTold (block_opening node (contents t0).now) t0 t3 r
whole_told node clock later t0 t1 t2 t3 r allowed synced made ready told =
    let least : 32768 ≤ length (contents t2).now =
    omega (arith, (size_parts (length (contents t0).now) allowed).0, ready.prepared.long) in
    subst (λ l. OpeningTold l t0 t3 r) (sym (whole_calls node (contents t0).now (contents t2) allowed ready))
    (reads_ended Table (Sync ∷ calls_to_blocks node (contents t0).now)
    (reads_of_blocks (contents t2).now (heads_of node (contents t2).now)) later t0 t2 t3 r
    (reads_some (contents t2).now (heads_of node (contents t2).now) least) (t1, clock, synced, made) told)

pub whole_made : (node made reads : ℕ) (image : List ℕ) (c : Contents) (r : Result Table StoreRefusal) → is_block_size (length image) ≡ true
    → AreReady node image c → made ≡ length (calls_to_blocks node image)
    → OpeningMade (reads_of_blocks c.now (heads_of node c.now)) r reads → OpeningMade (length (block_opening node image)) r (1 +
    (made + reads))
whole_made node made reads image c r allowed ready first behind = go r behind
  where
    total : length (block_opening node image) ≡ 1 + (made + reads_of_blocks c.now (heads_of node c.now))
    total = ap length (whole_calls node image c allowed ready) ∙ (let sum : length ((Sync ∷ calls_to_blocks node image)
        ++ replicate (reads_of_blocks c.now (heads_of node c.now)) Read) ≡ 1 + (made + reads_of_blocks c.now
        (heads_of node c.now)) = omega (
          arith,
          length-append (Sync ∷ calls_to_blocks node image) (replicate (reads_of_blocks c.now (heads_of node c.now)) Read),
          length-replicate {A = DiskCall} (reads_of_blocks c.now (heads_of node c.now)) Read,
          first,
        ) in sum)

    all : reads ≡ reads_of_blocks c.now (heads_of node c.now) → 1 + (made + reads) ≡ length (block_opening node image)
    all same = ap (λ n. 1 + (made + n)) same ∙ sym total

    go : (q : Result Table StoreRefusal) → OpeningMade (reads_of_blocks c.now (heads_of node c.now)) q reads
        → OpeningMade (length (block_opening node image)) q (1 + (made + reads))
    go (Ok x) m = all m
    go (Err Failed) m = omega arith
    go (Err Stopped) m = omega arith
    go (Err Full) m = all m
    go (Err (Damaged place)) m = all m
    go (Err OutOfMemory) m = tt

-- what the blocks keep is what stood there
pub map_read : (node place : ℕ) (image : List ℕ) (c : Contents) → is_block_size (length image) ≡ true → AreReady node image c
    → blocks_map node c.now ≡ Err place → block_map node image ≡ Err place
map_read node place image c allowed ready bad = sym ready.prepared.map ∙ blocks_there node c ready.prepared.format long ∙ bad
  where
    long : is_block_size (length c.now) ≡ true
    long = ap is_block_size ready.prepared.long ∙ allowed

    blocks_there : (n : ℕ) (d : Contents) → slice_index d.now 1 ≡ 235 → is_block_size (length d.now) ≡ true → block_map n d.now
        ≡ blocks_map n d.now
    blocks_there n d format on =
        ap (λ b. if b then map_by (format_of d.now) n d.now else Err 0) on
        ∙ ap (λ b. map_by (if b then Blocks else (if slice_index d.now 0 == 237
        then (if length d.now == 4194304 then (if slice_index d.now 2 == 234 then Staged else OldLog) else Foreign) else Blank)) n d.now)
        (eq-eqb (slice_index d.now 1) 235 format)

pub full_read : (node : ℕ) (image : List ℕ) (c : Contents) (r : Result Table StoreRefusal) → is_block_size (length image) ≡ true
    → AreReady node image c → IfErr r (λ e. e ≡ Full → ⊥) → IsOverfullBy (block_layout.is_overfull node image) r
full_read node image c r allowed ready never = go r never
  where
    fits : block_layout.is_overfull node image ≡ false
    fits = fits_is node image allowed ∙ ready.prepared.fits

    go : (q : Result Table StoreRefusal) → IfErr q (λ e. e ≡ Full → ⊥) → IsOverfullBy (block_layout.is_overfull node image) q
    go (Ok x) n = fits
    go (Err Failed) n = tt
    go (Err Stopped) n = tt
    go (Err Full) n = absurd (n refl)
    go (Err (Damaged place)) n = fits
    go (Err OutOfMemory) n = tt

pub ready_read : (node clock : ℕ) (image : List ℕ) (t2 t3 : Told) (r : Result Table StoreRefusal) → AreReady node image (contents t2)
    → ReadTold clock t2 t3 (end_of_store r) → OnOk r (AreReady node image (contents t3))
ready_read node clock image t2 t3 (Ok t) ready told = subst (λ x. AreReady node image (contents x)) (sym told) ready
ready_read node clock image t2 t3 (Err e) ready told = tt

pub table_read : (node clock : ℕ) (t2 t3 : Told) (r : Result Table StoreRefusal) → IfOk r (IsTableOf node (contents t2).now)
    → ReadTold clock t2 t3 (end_of_store r) → IfOk r (IsTableOf node (contents t3).now)
table_read node clock t2 t3 (Ok t) is told = subst (λ x. IsTableOf node (contents x).now t) (sym told) is
table_read node clock t2 t3 (Err e) is told = tt

pub damaged_read : (node : ℕ) (image : List ℕ) (c : Contents) (r : Result Table StoreRefusal) → is_block_size (length image) ≡ true
    → AreReady node image c → IfErr r (λ e. (place : ℕ) → e ≡ Damaged place → blocks_map node c.now ≡ Err place)
    → IfErr r (λ e. (place : ℕ) → e ≡ Damaged place → block_map node image ≡ Err place)
damaged_read node image c (Ok t) allowed ready bad = tt
damaged_read node image c (Err e) allowed ready bad = λ place is. map_read node place image c allowed ready (bad place is)

pub made_by_length : (calls : List DiskCall) (made : ℕ) (e : StoreRefusal) → OpeningMade {S = Unit {0}} (length calls) (Err e) made
    → OpeningMade {S = Table} (length (Sync ∷ calls)) (Err e) (1 + made)
made_by_length calls made e m =
    let one : 1 + length calls ≡ length (Sync ∷ calls) = omega arith in
    subst (λ n. OpeningMade {S = Table} n (Err e) (1 + made)) one (made_more (Unit {0}) Table (length calls) made e m)

-- a disk is at rest behind a sync
pub synced_disk : (size clock : ℕ) (old new : Told) → SyncTold clock old new Fine → length (contents old).now ≡ size → IsSynced size
    (contents new)
synced_disk size clock old new told long =
    subst (IsSynced size) (sym (ap contents told)) (record { rest = refl; long = long })

pub sync_refused_all : (node clock : ℕ) (t0 t1 : Told) (e : DiskRefusal) → is_block_size (length (contents t0).now) ≡ true
    → SyncTold clock t0 t1 (end_of {T = Unit {0}} (Err e)) → OpeningTold {S = Table} (block_opening node (contents t0).now) t0 t1 (Err
    (refused e))
sync_refused_all node clock t0 t1 e allowed told =
    subst (λ l. OpeningTold {S = Table} l t0 t1 (Err (refused e))) (sym (calls_are node (contents t0).now allowed))
    (sync_refused Table (calls_behind_sync node (contents t0).now) clock t0 t1 e told)
