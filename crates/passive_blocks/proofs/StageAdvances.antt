-- The record of a call of a job: that it goes on, that it is done, and that it was refused.
use Rattle.std.specs.Prelude.{◌≡◌, ℕ, suc, ◌+◌, ◌≤◌, Bool, false, nat_le, IsTrue, List, [], ◌∷◌, length}
use Rattle.std.specs.Prelude.{Option, None, Some, Ok, Err}
use Rattle.std.proofs.Common.{refl, sym, ap, subst, arith}
use Rattle.std.proofs.lemmas.Bool.Decides.{nat_tests}
use Rattle.eden_disk.specs.Told.{contents, LeavesOnly, EachMoment}
use Rattle.eden_disk.specs.Calls.{DeviceCalls, Obeyed, End, Fine}
use Rattle.eden_disk.specs.Timed.{Timed}
use Rattle.passive_store.specs.declared.store.Pick.{Pick}
use Rattle.passive_store.specs.declared.store.Progress.{Progress}
use Rattle.passive_store.specs.declared.store.Progress.TheVariants.{Going, Done}
use Rattle.passive_store.specs.declared.store.StoreRefusal.{StoreRefusal}
use Rattle.passive_store.specs.Acts.{DiskCall, CallTold}
use Rattle.passive_store.specs.Kept.{Kept, StoreChange, Work, Idle, Busy, Unsettled, Stands, changes_in, doubt_in, kept_after, progress_at}
use Rattle.passive_store.specs.Kept.{end_of_store, IsDiskRefusal}
use Rattle.passive_store.specs.Seen.{Seen, DiskSeen, Advances}
use Rattle.passive_store.proofs.Joining.{none_refused_after}
use Rattle.passive_blocks.specs.BlockLayout.{block_layout}

-- what is seen of a store of blocks with this work, over a disk
abbrev pub seen_with : ℕ → Work → Option Pick → Kept → ℕ → DiskSeen → Seen
seen_with node work picked kept more disk = record {
  node = node;
  work = work;
  picked = picked;
  kept = kept;
  more = more;
  refused_at = None;
  disk = disk;
}

-- what is known of one device call
pub record OneCall (tells obeys : Bool) (call : DiskCall) (end : End) (old new : DiskSeen) : Type 0 where
  pub counts : DeviceCalls 1 old.counts new.counts end
  pub obeyed : IsTrue obeys → Obeyed old.due new.due old.counts new.counts end
  pub timed : IsTrue tells → Timed old.counts.clock old.told new.counts.clock new.told
  pub told : IsTrue tells → CallTold call new.counts.clock old.told new.told end

more_left : (n : ℕ) → 1 ≤ n → nat_le (suc n) 1 ≡ false
more_left n some = grind (arith, nat_tests, some)

doubt_then : (c : StoreChange) (made : ℕ) (rest : List DiskCall) → doubt_in (Busy c (made + 1) rest) ≡ Some c
doubt_then c made rest = ap (λ n. doubt_in (Busy c n rest)) (let e : made + 1 ≡ suc made = omega arith in e)

pub going_record : (tells obeys : Bool) (node more made : ℕ) (c : StoreChange) (call : DiskCall) (rest : List DiskCall) (w v : Work)
    (picked : Option Pick) (kept then_kept : Kept) (old new : DiskSeen) → w ≡ Busy c made (call ∷ rest) → v ≡ Busy c (made + 1) rest
    → 1 ≤ length rest → OneCall tells obeys call Fine old new → (IsTrue tells → then_kept ≡ kept)
    → (IsTrue tells → LeavesOnly (Stands block_layout node more then_kept (c ∷ [])) (contents new.told))
    → (IsTrue tells → EachMoment (Stands block_layout node more kept (changes_in (doubt_in w))) old.told new.told)
    → Advances tells obeys block_layout (Ok Going) (seen_with node w picked kept more old) (seen_with node v picked then_kept more new)
going_record tells obeys node more made c call rest w v picked kept then_kept old new is behind some one same stands moments =
    subst (λ w. Advances tells obeys block_layout (Ok Going) (seen_with node w picked kept more old)
    (seen_with node v picked then_kept more new)) (sym is)
    (subst (λ v. Advances tells obeys block_layout (Ok Going) (seen_with node (Busy c made (call ∷ rest)) picked kept more old)
    (seen_with node v picked then_kept more new)) (sym behind) (record {
      goes = record {
        node = refl;
        obeyed = one.obeyed;
        timed = one.timed;
        stands = λ tells. subst (λ d. LeavesOnly (Stands block_layout node more then_kept (changes_in d)) (contents new.told))
            (sym (doubt_then c made rest)) (stands tells);
      };
      only = tt;
      counts = one.counts;
      last = sym (ap progress_at (more_left (length rest) some));
      told = one.told;
      work = refl;
      picked = refl;
      more = refl;
      at = none_refused_after (call ∷ rest) (Ok Going);
      kept = same;
      moments = λ tells. subst (λ w. EachMoment (Stands block_layout node more kept (changes_in (doubt_in w))) old.told new.told) is
          (moments tells);
    }))

pub done_record : (tells obeys : Bool) (node more made : ℕ) (c : StoreChange) (call : DiskCall) (w : Work)
    (picked : Option Pick) (kept then_kept : Kept) (old new : DiskSeen) → w ≡ Busy c made (call ∷ [])
    → OneCall tells obeys call Fine old new → (IsTrue tells → then_kept ≡ kept_after c kept)
    → (IsTrue tells → LeavesOnly (Stands block_layout node more then_kept []) (contents new.told))
    → (IsTrue tells → EachMoment (Stands block_layout node more kept (changes_in (doubt_in w))) old.told new.told)
    → Advances tells obeys block_layout (Ok Done) (seen_with node w picked kept more old) (seen_with node Idle picked then_kept more new)
done_record tells obeys node more made c call w picked kept then_kept old new is one after stands moments =
    subst (λ w. Advances tells obeys block_layout (Ok Done) (seen_with node w picked kept more old)
    (seen_with node Idle picked then_kept more new)) (sym is)
    (record {
      goes = record { node = refl; obeyed = one.obeyed; timed = one.timed; stands = stands };
      only = tt;
      counts = one.counts;
      last = refl;
      told = one.told;
      work = refl;
      picked = refl;
      more = refl;
      at = none_refused_after (call ∷ []) (Ok Done);
      kept = after;
      moments = λ tells. subst (λ w. EachMoment (Stands block_layout node more kept (changes_in (doubt_in w))) old.told new.told) is
          (moments tells);
    })

pub refused_record : (tells obeys : Bool) (node more made : ℕ) (c : StoreChange) (call : DiskCall) (rest : List DiskCall) (w : Work)
    (picked : Option Pick) (kept then_kept : Kept) (old new : DiskSeen) (e : StoreRefusal) → w ≡ Busy c made (call ∷ rest)
    → IsDiskRefusal e → OneCall tells obeys call (end_of_store {T = Progress} (Err e)) old new → (IsTrue tells → then_kept ≡ kept)
    → (IsTrue tells → LeavesOnly (Stands block_layout node more then_kept (c ∷ [])) (contents new.told))
    → (IsTrue tells → EachMoment (Stands block_layout node more kept (changes_in (doubt_in w))) old.told new.told)
    → Advances tells obeys block_layout (Err e) (seen_with node w picked kept more old)
    (seen_with node (Unsettled c false) picked then_kept more new)
refused_record tells obeys node more made c call rest w picked kept then_kept old new e is refusal one same stands moments =
    subst (λ w. Advances tells obeys block_layout (Err e) (seen_with node w picked kept more old)
    (seen_with node (Unsettled c false) picked then_kept more new)) (sym is)
    (record {
      goes = record { node = refl; obeyed = one.obeyed; timed = one.timed; stands = stands };
      only = refusal;
      counts = one.counts;
      last = tt;
      told = one.told;
      work = refl;
      picked = refl;
      more = refl;
      at = none_refused_after (call ∷ rest) (Err e);
      kept = same;
      moments = λ tells. subst (λ w. EachMoment (Stands block_layout node more kept (changes_in (doubt_in w))) old.told new.told) is
          (moments tells);
    })
