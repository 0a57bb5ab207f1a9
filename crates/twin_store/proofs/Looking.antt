-- A look at what a pair of disks keeps.
use Rattle.std.specs.Prelude.{◌≡◌, ◌⊎◌, ℕ, Bool, true, false, IsTrue, List, Option, None, Some, Result, Ok, Err, IfErr}
use Rattle.std.proofs.Common.{refl, ◌∙◌, inl, inr}
use Rattle.std.specs.FinMap as map
use Rattle.capability.specs.declared.Uid.{Uid}
use Rattle.passive_store.specs.Kept.{Layout, IsEject}
use Rattle.twin_store.specs.declared.served.TwinRefusal.{TwinRefusal}
use Rattle.twin_store.specs.declared.served.TwinRefusal.TheVariants.{Lost, Full}
use Rattle.twin_store.specs.Sides.{SideSeen, InUse, Away, is_in_use, disk_of, bodies_on, SideGoes, SideServes, IsFullOn, HasLeft}
use Rattle.twin_store.specs.Twins.{TwinSeen, pair, IsTwinReady, TwinChanges, ChangesFirst, ChangesSecond, LooksFirst}
use Rattle.twin_store.specs.Twins.{TwinGets, Raises, IsFullTwin, IsSpent}
use Rattle.twin_store.proofs.Vouching.{one_of}
use Rattle.twin_store.proofs.Going.{both_ways, goes_none, goes_on}
use Rattle.twin_store.proofs.Changing.{vouched_as, leaves_none, call_may, left_from}
use Rattle.twin_store.proofs.Stopping.{stopped_on}
use Rattle.twin_store.proofs.Raising.{lost_spent}
use Rattle.twin_store.proofs.Changing as change

-- a change of nothing
first_changes : {U : Type 0} (tells : Bool) (layout : Layout) (r : Result U TwinRefusal) (a b : TwinSeen)
    → ChangesFirst {T = U} tells layout None r a b → TwinChanges {T = U} tells layout None r a b
first_changes tells layout r a b f =
    record { goes = f.goes; full = f.full; spent = f.spent; held = f.held; sure = f.sure; vouched = f.vouched }

full_second : {U : Type 0} (tells : Bool) (layout : Layout) (r : Result U TwinRefusal) (a b : TwinSeen)
    → IfErr r (λ e. e ≡ Full → IsFullOn tells layout None a.second ⊎ HasLeft a.second b.second)
    → IfErr r (λ e. e ≡ Full → IsFullTwin tells layout None a b)
full_second tells layout (Ok value) a b h = tt
full_second tells layout (Err e) a b h = λ is. one_of (h is) (λ f. inl (inr f)) (λ left. inr (inr left))

second_changes : {U : Type 0} (tells : Bool) (layout : Layout) (r : Result U TwinRefusal) (a b : TwinSeen)
    → ChangesSecond {T = U} tells layout None r a b → TwinChanges {T = U} tells layout None r a b
second_changes tells layout r a b f =
    record {
      goes = f.goes;
      full = full_second tells layout r a b f.full;
      spent = f.spent;
      held = f.held;
      sure = f.sure;
      vouched = f.vouched;
    }

module _ (tells : Bool) (layout : Layout) (uid : Uid) (node generation : ℕ) where
  -- 1. The first disk

  pub first_out : (first second : SideSeen) → IsTwinReady (pair node generation first second) → is_in_use first ≡ false
      → LooksFirst tells layout uid (Ok None) (pair node generation first second) (pair node generation first second)
  first_out first second ready off = record {
    changes = first_changes tells layout _ _ _ (change.first_out tells layout None node generation tt None first second ready off);
    gone = off;
    found = λ so held h. tt;
  }

  pub first_refused : (e : TwinRefusal) (old new second : SideSeen) → is_in_use old ≡ true
      → SideServes {T = Option (List ℕ)} tells layout node None (Err e) old new
      → LooksFirst tells layout uid (Err e) (pair node generation old second) (pair node generation new second)
  first_refused e old new second on s = record {
    changes = first_changes tells layout _ _ _ (change.first_refused tells layout None node generation tt e old new second on s);
    gone = tt;
    found = λ so held h. tt;
  }

  pub first_found : (body : Option (List ℕ)) (old new second : SideSeen) → IsTwinReady (pair node generation old second) → IsEject node uid
      → is_in_use old ≡ true → SideServes {T = Option (List ℕ)} tells layout node None (Ok (Some body)) old new
      → (IsTrue tells → is_in_use old ≡ true → body ≡ map.get (bodies_on old) uid)
      → LooksFirst tells layout uid (Ok (Some body)) (pair node generation old second) (pair node generation new second)
  first_found body old new second ready own on s found = record {
    changes = first_changes tells layout _ _ _
        (change.first_done tells layout None node generation tt body (Some body) old new second ready s);
    gone = tt;
    found = λ so held h. found so on ∙ (h.first on).same uid own;
  }

  pub raise_failed : (e : TwinRefusal) (old new second behind : SideSeen) → is_in_use old ≡ true
      → SideServes {T = Option (List ℕ)} tells layout node None (Ok None) old new
      → Raises tells layout node generation (Err e) second behind
      → LooksFirst tells layout uid (Err e) (pair node generation old second) (pair node generation new behind)
  raise_failed e old new second behind on s r = record {
    changes = first_changes tells layout _ _ _ (change.first_spent tells layout None node generation tt e old new second behind on s r);
    gone = tt;
    found = λ so held h. tt;
  }

  pub first_left : (n : ℕ) (old new second behind : SideSeen) → IsTwinReady (pair node generation old second) → is_in_use old ≡ true
      → SideServes {T = Option (List ℕ)} tells layout node None (Ok None) old new → Raises tells layout node generation (Ok n) second behind
      → LooksFirst tells layout uid (Ok None) (pair node generation old second) (pair node n new behind)
  first_left n old new second behind ready on s r = record {
    changes = first_changes tells layout _ _ _
        (change.first_left tells layout None node generation tt n None old new second behind ready on s r);
    gone = s.used;
    found = λ so held h. tt;
  }

  -- 2. The second disk

  pub second_refused : (e : TwinRefusal) (first old new : SideSeen) → is_in_use old ≡ true
      → SideServes {T = Option (List ℕ)} tells layout node None (Err e) old new
      → TwinGets tells layout uid (Err e) (pair node generation first old) (pair node generation first new)
  second_refused e first old new on s = record {
    changes = second_changes tells layout _ _ _ (change.second_refused tells layout None node generation tt e first old new on s);
    found = λ so. tt;
  }

  pub second_found : (body : Option (List ℕ)) (first old new : SideSeen) → IsTwinReady (pair node generation first old) → IsEject node uid
      → SideServes {T = Option (List ℕ)} tells layout node None (Ok (Some body)) old new
      → (IsTrue tells → is_in_use old ≡ true → body ≡ map.get (bodies_on old) uid)
      → TwinGets tells layout uid (Ok body) (pair node generation first old) (pair node generation first new)
  second_found body first old new ready own s found = record {
    changes = second_changes tells layout _ _ _ (change.second_done tells layout None node generation tt body body first old new ready s);
    found = λ so held h. let on : is_in_use old ≡ true = s.goes.left s.used in found so on ∙ (h.second on).same uid own;
  }

  pub second_lost : (first old new : SideSeen) → is_in_use first ≡ false → is_in_use old ≡ true
      → SideServes {T = Option (List ℕ)} tells layout node None (Ok None) old new
      → TwinGets tells layout uid (Err Lost) (pair node generation first old) (pair node generation first new)
  second_lost first old new off on s = record {
    changes = record {
      goes = record {
        node = refl;
        first = goes_none first;
        second = s.goes;
        ready = tt;
        lost = λ is. (off, s.used);
        stopped = inl (refl, s.stops);
      };
      full = λ is. inr (inr (on, s.used));
      spent = (
        λ is. absurd (lost_spent is),
        λ q. absurd (one_of q.1 (λ h. both_ways (is_in_use first) h.0.0 off) (λ h. both_ways (is_in_use first) h.1 off)),
      );
      held = λ so. tt;
      sure = λ so. tt;
      vouched = λ so held h sure.
          vouched_as layout node held None false false (is_in_use first) (is_in_use new) (disk_of first).told (disk_of new).told off s.used
          (leaves_none layout node held None _ _ (disk_of first).told (disk_of new).told (sure.first off)
          (call_may {T = Option (List ℕ)} tells layout node generation held None (Ok None) old new s so tt on (h.second on)));
    };
    found = λ so. tt;
  }

-- 3. Both

pub got_first : (tells : Bool) (layout : Layout) (uid : Uid) (body : Option (List ℕ)) (a b : TwinSeen)
    → LooksFirst tells layout uid (Ok (Some body)) a b → TwinGets tells layout uid (Ok body) a b
got_first tells layout uid body a b l = record {
  changes = record {
    goes = record {
      node = l.changes.goes.node;
      first = l.changes.goes.first;
      second = l.changes.goes.second;
      ready = l.changes.goes.ready;
      lost = tt;
      stopped = l.changes.goes.stopped;
    };
    full = tt;
    spent = l.changes.spent;
    held = l.changes.held;
    sure = l.changes.sure;
    vouched = λ so. tt;
  };
  found = l.found;
}

pub got_none : (tells : Bool) (layout : Layout) (uid : Uid) (e : TwinRefusal) (a b : TwinSeen) → LooksFirst tells layout uid (Err e) a b
    → TwinGets tells layout uid (Err e) a b
got_none tells layout uid e a b l = record {
  changes = record {
    goes = record {
      node = l.changes.goes.node;
      first = l.changes.goes.first;
      second = l.changes.goes.second;
      ready = tt;
      lost = l.changes.goes.lost;
      stopped = l.changes.goes.stopped;
    };
    full = l.changes.full;
    spent = l.changes.spent;
    held = λ so. tt;
    sure = λ so. tt;
    vouched = l.changes.vouched;
  };
  found = λ so. tt;
}

-- a look finds no room only where a disk left use
no_full : (tells : Bool) (layout : Layout) (side : SideSeen) → IsFullOn tells layout None side → ⊥
no_full tells layout (InUse s) h = h
no_full tells layout (Away d) h = h

full_look : (tells : Bool) (layout : Layout) (a b c : TwinSeen) → SideGoes a.first b.first → SideGoes a.second b.second
    → IsFullTwin tells layout None b c → IsFullTwin tells layout None a c
full_look tells layout a b c first second (inl (inl h)) = absurd (no_full tells layout b.first h)
full_look tells layout a b c first second (inl (inr h)) = absurd (no_full tells layout b.second h)
full_look tells layout a b c first second (inr (inl h)) = inr (inl (left_from a.first b.first c.first first h))
full_look tells layout a b c first second (inr (inr h)) = inr (inr (left_from a.second b.second c.second second h))

-- a look at the second disk alone is never refused as spent
spent_alone : (a b c : TwinSeen) → is_in_use b.first ≡ false → SideGoes b.first c.first → SideGoes b.second c.second
    → (IsSpent a b → ⊥) → IsSpent a c → ⊥
spent_alone a b c off first second before q =
    one_of q.1 (λ h. before (q.0, inl ((h.0.0, off), second.left h.1))) (λ h. both_ways (is_in_use b.first) (first.left h.1) off)

none_alone : (b c : TwinSeen) → is_in_use b.first ≡ false → SideGoes b.first c.first → IsSpent b c → ⊥
none_alone b c off first q =
    one_of q.1 (λ h. both_ways (is_in_use b.first) h.0.0 off) (λ h. both_ways (is_in_use b.first) (first.left h.1) off)

pub got_second : (tells : Bool) (layout : Layout) (uid : Uid) (r : Result (Option (List ℕ)) TwinRefusal) (a b c : TwinSeen)
    → LooksFirst tells layout uid (Ok None) a b → TwinGets tells layout uid r b c → TwinGets tells layout uid r a c
got_second tells layout uid (Ok body) a b c l g = record {
  changes = record {
    goes = record {
      node = g.changes.goes.node
          ∙ l.changes.goes.node;
      first = goes_on a.first b.first c.first l.changes.goes.first g.changes.goes.first;
      second = goes_on a.second b.second c.second l.changes.goes.second g.changes.goes.second;
      ready = g.changes.goes.ready;
      lost = tt;
      stopped = stopped_on {T = Option (Option (List ℕ))} None (Ok body) (disk_of a.first) (disk_of b.first) (disk_of c.first)
          (disk_of a.second) (disk_of b.second) (disk_of c.second) l.changes.goes.stopped g.changes.goes.stopped;
    };
    full = tt;
    spent = spent_alone a b c l.gone g.changes.goes.first g.changes.goes.second l.changes.spent;
    held = λ so held h. g.changes.held so held (l.changes.held so held h);
    sure = λ so held h sure. g.changes.sure so held (l.changes.held so held h) (l.changes.sure so held h sure);
    vouched = λ so. tt;
  };
  found = λ so held h. g.found so held (l.changes.held so held h);
}
got_second tells layout uid (Err e) a b c l g = record {
  changes = record {
    goes = record {
      node = g.changes.goes.node
          ∙ l.changes.goes.node;
      first = goes_on a.first b.first c.first l.changes.goes.first g.changes.goes.first;
      second = goes_on a.second b.second c.second l.changes.goes.second g.changes.goes.second;
      ready = tt;
      lost = g.changes.goes.lost;
      stopped = stopped_on {T = Option (Option (List ℕ))} {U = Option (List ℕ)} None (Err e) (disk_of a.first) (disk_of b.first)
          (disk_of c.first) (disk_of a.second) (disk_of b.second) (disk_of c.second) l.changes.goes.stopped g.changes.goes.stopped;
    };
    full = λ is. full_look tells layout a b c l.changes.goes.first l.changes.goes.second (g.changes.full is);
    spent = (
      λ is. absurd (none_alone b c l.gone g.changes.goes.first (g.changes.spent.0 is)),
      λ q. absurd (spent_alone a b c l.gone g.changes.goes.first g.changes.goes.second l.changes.spent q),
    );
    held = λ so. tt;
    sure = λ so. tt;
    vouched = λ so held h sure. g.changes.vouched so held (l.changes.held so held h) (l.changes.sure so held h sure);
  };
  found = λ so. tt;
}

pub second_in_use : (t : TwinSeen) → IsTwinReady t → is_in_use t.first ≡ false → is_in_use t.second ≡ true
second_in_use t ready off = one_of ready.some (λ on. absurd (both_ways (is_in_use t.first) on off)) (λ on. on)
