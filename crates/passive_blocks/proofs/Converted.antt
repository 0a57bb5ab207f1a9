-- A log keeps under each uid what its conversion keeps there.
use Rattle.std.proofs.Common.{◌≡◌, ℕ, ◌+◌, Bool, true, false, cond, List, [], ◌∷◌, length, map, refl, sym, ap, ◌∙◌}
use Rattle.std.specs.Prelude.{Option, None, Some, Result, Ok, Err, T, if◌then◌else◌}
use Rattle.std.specs.FinMap as finite
use Rattle.std.specs.FinMap.Entries.{find, is_sorted, below_all}
use Rattle.std.specs.Ordering.{eq_by_cmp}
use Rattle.capability.specs.declared.Uid.{Uid}
use Rattle.capability.specs.Uids.{uid_cmp}
use Rattle.capability.proofs.Uids.{uid_cmp_total, uid_cmp-IsAntisymmetric}
use Rattle.passive_store.specs.Kept.{Kept, kept_after, kept_from, nothing_kept}
use Rattle.block_tables.specs.Blocks.{blocks_of, is_block_size}
use Rattle.passive_store.specs.Log.{log_map}
use Rattle.passive_blocks.specs.Conversion.{moved_from, moved_change, moved, moved_map, old_log}
use Rattle.passive_blocks.specs.BlockLayout.{OldLog, format_of, map_by, block_map, KeepsAsLog}
use Rattle.passive_blocks.proofs.Keeping.{found_above, right_part, left_part, tied}

or_else : Option (List ℕ) → Option (List ℕ) → Option (List ℕ)
or_else (Some body) other = Some body
or_else None other = other

-- a value that stands once is found whether it was put first or last
put_once : (here : Bool) (body : List ℕ) (found old : Option (List ℕ)) → (here ≡ true → found ≡ None)
    → or_else found (cond here (Some body) old) ≡ or_else (cond here (Some body) found) old
unfolding or_else
put_once true body found old none = ap (λ f. or_else f (Some body)) (none refl)
put_once false body found old none = refl

not_behind : (q : Uid) (e : Uid × List ℕ) (es : List (Uid × List ℕ)) → T (below_all uid_cmp e.0 es) → eq_by_cmp uid_cmp q e.0 ≡ true
    → find uid_cmp q es ≡ None
not_behind q e es below is =
    ap (λ u. find uid_cmp u es) (uid_cmp-IsAntisymmetric q e.0 (tied (uid_cmp q e.0) is)) ∙ found_above e.0 es below

moved_finds : (q : Uid) (number first : ℕ) (es : List (Uid × List ℕ)) (kept : Kept) → T (is_sorted uid_cmp es)
    → finite.get (kept_from kept (map moved_change (moved_from number first es))).bodies q
    ≡ or_else (find uid_cmp q es) (finite.get kept.bodies q)
unfolding moved_from or_else
moved_finds q number first [] kept sorted = refl
moved_finds q number first (e ∷ es) kept sorted =
    let here : Bool = eq_by_cmp uid_cmp q e.0 in
    moved_finds q (number + 1) (first + blocks_of (length e.1)) es
    (kept_after (moved_change (record {
      head = record { number = number; uid = e.0; removal = false; sequence = number + 1; size = length e.1; first = first };
      body = e.1;
    })) kept)
    (right_part (below_all uid_cmp e.0 es) (is_sorted uid_cmp es) sorted)
    ∙ ap (or_else (find uid_cmp q es)) (finite.get-insert uid_cmp_total kept.bodies e.0 e.1 q)
    ∙ put_once here e.1 (find uid_cmp q es) (finite.get kept.bodies q)
    (not_behind q e es (left_part (below_all uid_cmp e.0 es) (is_sorted uid_cmp es) sorted))

or_nothing : (found : Option (List ℕ)) → or_else found None ≡ found
unfolding or_else
or_nothing None = refl
or_nothing (Some body) = refl

same_bodies : (log : Kept) → (kept_from nothing_kept (map moved_change (moved log))).bodies ≡ log.bodies
same_bodies log =
    finite.same_map uid_cmp_total uid_cmp-IsAntisymmetric _ log.bodies
    (λ q. moved_finds q 0 1024 (finite.entries log.bodies) nothing_kept (finite.entries_sorted log.bodies)
    ∙ ap (or_else (find uid_cmp q (finite.entries log.bodies))) (finite.get-empty uid_cmp q)
    ∙ or_nothing (find uid_cmp q (finite.entries log.bodies))
    ∙ sym (finite.get-entries log.bodies q))

found_as_log : (node : ℕ) (image : List ℕ) (found : Result Kept ℕ) → is_block_size (length image) ≡ true → format_of image ≡ OldLog
    → log_map node (old_log image) ≡ found → block_map node image ≡ moved_map found
found_as_log node image found sized old is =
    ap (λ b. if b then map_by (format_of image) node image else Err 0) sized
    ∙ ap (λ f. map_by f node image) old
    ∙ ap moved_map is

-- an image on which a log stands that is to be converted keeps the bodies of the log, or is damaged where the log is
pub keeps_as_log : (node : ℕ) (image : List ℕ) (found : Result Kept ℕ) → is_block_size (length image) ≡ true → format_of image ≡ OldLog
    → log_map node (old_log image) ≡ found → KeepsAsLog found (block_map node image)
keeps_as_log node image (Ok log) sized old is = (
  kept_from nothing_kept (map moved_change (moved log)),
  found_as_log node image (Ok log) sized old is,
  same_bodies log,
)
keeps_as_log node image (Err place) sized old is = found_as_log node image (Err place) sized old is
