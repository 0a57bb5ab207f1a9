-- The disks of a run by the numbers of their nodes.
use Rattle.std.proofs.Common.{◌≡◌, ◌+◌, ◌<◌, ℕ, suc, Bool, true, false, cond, List, [], ◌∷◌, length, Some, refl, sym, ap}
use Rattle.std.proofs.Common.{arith}
use Rattle.std.specs.Prelude.{slice_get}
use Rattle.std.specs.Option.{option_map}
use Rattle.std.specs.Ordering.{nat_cmp, eq_by_cmp}
use Rattle.eden_model.specs.Map.{value_at}
use Rattle.eden_model.proofs.Numbers.{same-true}
use Rattle.passive_store.specs.Seen.{DiskSeen}
use Rattle.journal.specs.LegalRun.{numbered_from}
use Rattle.journal.specs.Standing.{DiskRun}
use Rattle.eden_world.specs.Legal.{disk_run, disk_runs}

-- 1. The disk of a number stands at its place in both lists

pub record IsPair {D : Type 0} (obeys : Bool) (look : D → DiskSeen) (before after : List D) (k n : ℕ) (d : DiskRun) : Type 0 where
  pub index : ℕ
  pub number : n ≡ k + index
  pub within : index < length before
  pub old : DiskSeen
  pub new : DiskSeen
  pub was : option_map look (slice_get before index) ≡ Some old
  pub is : option_map look (slice_get after index) ≡ Some new
  pub run : d ≡ disk_run obeys old new

pub paired : {D : Type 0} (obeys : Bool) (look : D → DiskSeen) (before after : List D) (k n : ℕ) (d : DiskRun)
    → value_at nat_cmp n (numbered_from k (disk_runs obeys look before after)) ≡ Some d → IsPair obeys look before after k n d
paired obeys look [] after k n d there = absurd (cc there)
paired obeys look (b ∷ before) [] k n d there = absurd (cc there)
paired obeys look (b ∷ before) (a ∷ after) k n d there =
    go (eq_by_cmp nat_cmp n k) refl there (paired obeys look before after (k + 1) n d)
  where
    go : (t : Bool) → eq_by_cmp nat_cmp n k ≡ t
        → cond t (Some (disk_run obeys (look b) (look a))) (value_at nat_cmp n (numbered_from (k + 1) (disk_runs obeys look before after)))
        ≡ Some d
        → (value_at nat_cmp n (numbered_from (k + 1) (disk_runs obeys look before after)) ≡ Some d
        → IsPair obeys look before after (k + 1) n d)
        → IsPair obeys look (b ∷ before) (a ∷ after) k n d
    go true at found later = record {
      index = 0;
      number = let same : n ≡ k = same-true n k at in omega (arith, same);
      within = omega arith;
      old = look b;
      new = look a;
      was = refl;
      is = refl;
      run = let same : disk_run obeys (look b) (look a) ≡ d = cc found in sym same;
    }
    go false at found later = let r = later found in record {
      index = suc r.index;
      number = omega (arith, r.number);
      within = omega (arith, r.within);
      old = r.old;
      new = r.new;
      was = r.was;
      is = r.is;
      run = r.run;
    }

-- 2. Their number, and what was seen of them

pub runs-length : {D : Type 0} (obeys : Bool) (look : D → DiskSeen) (before after : List D) → length after ≡ length before
    → length (disk_runs obeys look before after) ≡ length before
runs-length obeys look [] after same = refl
runs-length obeys look (b ∷ before) [] same = absurd (omega (arith, same))
runs-length obeys look (b ∷ before) (a ∷ after) same =
    let more : length after ≡ length before = omega (arith, same) in ap suc (runs-length obeys look before after more)
