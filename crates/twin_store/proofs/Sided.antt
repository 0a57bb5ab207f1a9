-- One call on one disk of a pair.
use Rattle.std.specs.Prelude.{◌≡◌, ℕ, Bool, false, is_some, List, Option, None, Some, Result, Ok, Err}
use Rattle.std.proofs.Common.{refl, sym, ap, ◌∙◌, cond}
use Rattle.std.specs.FinMap as map
use Rattle.std.specs.Ordering.{eq_by_cmp}
use Rattle.std.proofs.lemmas.Bool.{false≢true}
use Rattle.capability.specs.declared.Uid.{Uid}
use Rattle.capability.specs.Uids.{uid_cmp}
use Rattle.capability.proofs.Uids.{uid_cmp_total}
use Rattle.eden_disk.specs.Calls.{faults_after, one_more}
use Rattle.passive_store.specs.Kept.{Layout, bodies_after}
use Rattle.passive_store.specs.Seen.{Seen, Asked}
use Rattle.twin_store.specs.declared.served.TwinRefusal.{TwinRefusal}
use Rattle.twin_store.specs.declared.served.TwinRefusal.TheVariants.{Lost, Stopped, Full, GenerationsSpent, OutOfMemory}
use Rattle.twin_store.specs.Vouched.{Bodies, changed_by}
use Rattle.twin_store.specs.Serving.{Serves, end_of_served}
use Rattle.twin_store.proofs.Stopping.{stops_end}
use Rattle.twin_store.specs.Sides.{InUse, Away, opened_side, SideSeen, is_in_use, SideGoes, SideServes}

-- what a change makes of one uid depends on what was there
after_alike : (uid : Uid) (body : Option (List ℕ)) (m n : Bodies) (q : Uid) → map.get m q ≡ map.get n q
    → map.get (bodies_after uid body m) q ≡ map.get (bodies_after uid body n) q
after_alike uid None m n q e =
    map.get-remove uid_cmp_total m uid q ∙ (ap (cond (eq_by_cmp uid_cmp q uid) None) e ∙ sym (map.get-remove uid_cmp_total n uid q))
after_alike uid (Some body) m n q e =
    map.get-insert uid_cmp_total m uid body q
    ∙ (ap (cond (eq_by_cmp uid_cmp q uid) (Some body)) e ∙ sym (map.get-insert uid_cmp_total n uid body q))

pub changed_alike : (c : Option Asked) (m n : Bodies) (q : Uid) → map.get m q ≡ map.get n q
    → map.get (changed_by c m) q ≡ map.get (changed_by c n) q
changed_alike None m n q e = e
changed_alike (Some c) m n q e = after_alike c.uid c.body m n q e

same_end : {T : Type 0} (r : Result (Option T) TwinRefusal) (e : TwinRefusal) (n : ℕ) → r ≡ Err e → faults_after (end_of_served r) n ≡ n
same_end (Ok v) e n is = cc
same_end (Err Lost) e n is = refl
same_end (Err Stopped) e n is = refl
same_end (Err Full) e n is = refl
same_end (Err GenerationsSpent) e n is = refl
same_end (Err OutOfMemory) e n is = refl

-- a disk that stays in use
stays : (old new : Seen) → new.disk.counts.size ≡ old.disk.counts.size → new.disk.counts.faults ≡ old.disk.counts.faults
    → SideGoes (InUse old) (InUse new)
stays old new size faults = record {
  size = size;
  left = λ e. refl;
  rose = λ used gone. absurd (false≢true (sym gone));
  same = λ e. faults;
  still = λ e. absurd (false≢true (sym e));
}

-- a disk that leaves use
leaves_use : (old new : Seen) → new.disk.counts.size ≡ old.disk.counts.size → new.disk.counts.faults ≡ one_more old.disk.counts.faults
    → SideGoes (InUse old) (Away new.disk)
leaves_use old new size faults = record {
  size = size;
  left = λ e. refl;
  rose = λ used gone. faults;
  same = λ e. absurd (false≢true e);
  still = λ e. absurd (false≢true (sym e));
}

pub side_served : {T : Type 0} (tells : Bool) (layout : Layout) (node : ℕ) (c : Option Asked) (found : Option T) (old new : Seen)
    → Serves tells layout node c (Ok found) old new
    → SideServes tells layout node c (Ok found) (InUse old) (opened_side (is_some found) new)
side_served tells layout node c (Some value) old new s = record {
  only = tt;
  full = tt;
  stops = s.counts.stops;
  goes = stays old new s.counts.size s.counts.faults;
  used = refl;
  ready = s.served.0;
  kept = s.served.1;
  leaves = λ so on. s.leaves so;
}
side_served tells layout node c None old new s = record {
  only = tt;
  full = tt;
  stops = s.counts.stops;
  goes = leaves_use old new s.counts.size s.counts.faults;
  used = refl;
  ready = tt;
  kept = λ so. tt;
  leaves = λ so on. s.leaves so;
}

pub side_refused : {T : Type 0} (tells : Bool) (layout : Layout) (node : ℕ) (c : Option Asked) (e : TwinRefusal) (old new : Seen)
    → Serves {T = T} tells layout node c (Err e) old new → SideServes {T = T} tells layout node c (Err e) (InUse old) (InUse new)
side_refused {T} tells layout node c e old new s = record {
  only = s.only;
  full = s.full;
  stops = s.counts.stops ∙ stops_end {T = T} (Err e) old.disk.counts.stops;
  goes = stays old new s.counts.size (s.counts.faults ∙ same_end {T = T} (Err e) e old.disk.counts.faults refl);
  used = refl;
  ready = tt;
  kept = λ so. tt;
  leaves = λ so on. s.leaves so;
}

-- a disk out of use is not called
pub side_away : {T : Type 0} (tells : Bool) (layout : Layout) (node : ℕ) (c : Option Asked) (side : SideSeen) → is_in_use side ≡ false
    → SideServes {T = T} tells layout node c (Ok None) side side
side_away tells layout node c (InUse s) off = absurd (false≢true (sym off))
side_away tells layout node c (Away d) off = record {
  only = tt;
  full = tt;
  stops = refl;
  goes = record { size = refl; left = λ e. e; rose = λ used gone. absurd (false≢true used); same = λ e. refl; still = λ e. refl };
  used = refl;
  ready = tt;
  kept = λ so. tt;
  leaves = λ so on. absurd (false≢true on);
}
