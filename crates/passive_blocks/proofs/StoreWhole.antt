-- A whole put and a whole removal, made of a settling, a beginning and the calls of its job, by what is seen of each.
use Rattle.std.proofs.Common.{◌≡◌, ◌⊎◌, ℕ, ◌+◌, ◌≤◌, Bool, false, IsTrue, List, refl, sym, ap, subst, ◌∙◌, inl, inr, arith}
use Rattle.std.specs.Prelude.{◌≢◌, Option, None, IsSome, IfErr, Result, Ok, Err, is_some}
use Rattle.eden_disk.specs.Told.{Told, EachMoment}
use Rattle.eden_disk.specs.Calls.{End, Fine, DeviceCalls, Obeyed}
use Rattle.eden_disk.specs.Timed.{Timed}
use Rattle.eden_disk.proofs.Timed.{timed_join}
use Rattle.eden_disk.proofs.Held.{obeyed_more}
use Rattle.passive_store.specs.declared.store.Pick.{Pick}
use Rattle.passive_store.specs.declared.store.StoreRefusal.{StoreRefusal}
use Rattle.passive_store.specs.declared.store.StoreRefusal.TheVariants.{Full}
use Rattle.passive_store.specs.Acts.{DiskCall}
use Rattle.passive_store.specs.Kept.{Kept, Layout, Stands, IsDiskRefusal, IsRefusedIn, LeavesKept, body_at, changes_in, doubt_in}
use Rattle.passive_store.specs.Kept.{Work, Idle, KeepsTelling, end_of_store, is_busy, reserved_uid, settled}
use Rattle.passive_store.specs.Seen.{Seen, Asked, Settled, Begins, Finishes, Whole, Puts, Deletes}
use Rattle.passive_store.specs.Seen.{has_room_for}
use Rattle.passive_store.proofs.Changing.{after_memory, unless_memory, undamaged_whole, first_settled, first_refused, fresh_settled}
use Rattle.passive_store.proofs.Changing.{fresh_finished, fresh_idle, idle_then, match_disk, room_had, room_unknown, never_full}
use Rattle.passive_store.proofs.Changing.{refused_more, settling_order, unchanged_work, on_done}
use Rattle.passive_blocks.proofs.StoreChanges.{IsJobAsked, begun_changes, unsettled_changes, full_changes}

-- what was found before does not matter to a settling
pub settled_anew : (tells obeys : Bool) (layout : Layout) (result : Result (Unit {0}) StoreRefusal) (old new : Seen) (pick : Option Pick)
    → Settled tells obeys layout result (record old { picked = pick }) new → Settled tells obeys layout result old new
settled_anew tells obeys layout result old new pick s = record {
  goes = record { node = s.goes.node; obeyed = s.goes.obeyed; timed = s.goes.timed; stands = s.goes.stands };
  only = s.only;
  refused = s.refused;
  ran = s.ran;
  order = s.order;
  work = s.work;
  picked = s.picked;
  more = s.more;
  at = s.at;
  kept = s.kept;
  fresh = s.fresh;
  moments = s.moments;
}

-- behind a settling nothing waits
pub settled_idle : (tells obeys : Bool) (layout : Layout) (old mid : Seen) → is_busy old.work ≡ false
    → Settled tells obeys layout (Ok tt) old mid → mid.work ≡ Idle
settled_idle tells obeys layout old mid idle s = idle_then mid.picked old.work mid.work idle s.picked s.work

disk_or_full : (result : Result (Unit {0}) StoreRefusal) → IfErr result IsDiskRefusal
    → IfErr result (λ e. IsDiskRefusal e ⊎ (e ≡ Full))
disk_or_full (Ok done) only = tt
disk_or_full (Err e) only = inl only

-- A change whose job was begun.
begun_whole : (tells obeys : Bool) (layout : Layout) (ask : Asked) (result : Result (Unit {0}) StoreRefusal) (old mid began new : Seen)
    → Settled tells obeys layout (Ok tt) old mid → Begins tells layout ask (Ok tt) mid began
    → Finishes tells obeys layout result began new → Whole tells obeys layout ask result old new
begun_whole tells obeys layout ask result old mid began new s b f =
    let end : End = end_of_store result in
    let pk : new.picked ≡ mid.picked = f.picked ∙ b.picked in
    let only = disk_or_full result f.only in
    record {
      goes = record {
        node = f.goes.node ∙ b.node ∙ s.goes.node;
        obeyed = λ so. obeyed_more s.ran.made f.ran.made old.disk.due mid.disk.due new.disk.due old.disk.counts mid.disk.counts
            new.disk.counts
            end s.ran.counts (subst (λ d. DeviceCalls f.ran.made d.counts new.disk.counts end) b.disk f.ran.counts) (s.goes.obeyed so)
            (subst (λ d. Obeyed d.due new.disk.due d.counts new.disk.counts end) b.disk (f.goes.obeyed so));
        timed = λ so. timed_join old.disk.counts.clock mid.disk.counts.clock new.disk.counts.clock old.disk.told mid.disk.told new.disk.told
            (s.goes.timed so)
            (subst (λ d. Timed d.counts.clock d.told new.disk.counts.clock new.disk.told) b.disk (f.goes.timed so));
        stands = f.goes.stands;
      };
      picked = after_memory new.picked old.work result only
          (first_settled new.picked old.work result (match_disk result f.only) (ap is_some pk ∙ s.picked));
      undamaged = undamaged_whole result only;
      unchanged = unless_memory _ result only;
      one = λ other. omega (arith, b.one (subst (λ n. ask.uid ≢ reserved_uid n) (sym s.goes.node) other), s.more, f.more);
      first = λ so keeps. omega (
        arith,
        b.first so (subst (λ n. KeepsTelling n mid.kept) (sym s.goes.node)
            (subst (KeepsTelling old.node) (ap (λ x. settled x old.work old.kept) pk ∙ sym (s.kept so)) keeps)),
        s.more,
        f.more,
      );
      fresh = λ so. fresh_finished (Unit {0}) began.work new.work began.kept new.kept result f.work (f.kept so) (b.fresh so);
    }

-- One whose settling was refused.
refused_whole : (tells obeys : Bool) (layout : Layout) (ask : Asked) (e : StoreRefusal) (old new : Seen)
    → Settled tells obeys layout (Err e) old new → Whole tells obeys layout ask (Err e) old new
refused_whole tells obeys layout ask e old new s = record {
  goes = s.goes;
  picked = after_memory new.picked old.work (Err e) (inl s.only) (first_refused (Unit {0}) new.picked old.work e s.only s.picked);
  undamaged = inl s.only;
  unchanged = unless_memory _ (Err e) (inl s.only);
  one = λ other. omega (arith, s.more);
  first = λ so keeps. omega (arith, s.more);
  fresh = λ so. fresh_settled new.picked old.work new.work old.kept new.kept s.work (s.kept so) (s.fresh so);
}

-- One that had no room.
full_whole : (tells obeys : Bool) (layout : Layout) (ask : Asked) (old mid new : Seen) → is_busy old.work ≡ false
    → Settled tells obeys layout (Ok tt) old mid → Begins tells layout ask (Err Full) mid new
    → Whole tells obeys layout ask (Err Full) old new
full_whole tells obeys layout ask old mid new idle s b =
    let more : new.more ≡ mid.more = b.same in
    let same : IsTrue tells → new ≡ mid = λ so i. record {
      node = b.node i;
      work = b.work i;
      picked = b.picked i;
      kept = b.kept so i;
      more = more i;
      refused_at = b.at i;
      disk = b.disk i;
    } in
    record {
      goes = record {
        node = b.node ∙ s.goes.node;
        obeyed = λ so. subst (λ d. Obeyed old.disk.due d.due old.disk.counts d.counts Fine) (sym b.disk) (s.goes.obeyed so);
        timed = λ so. subst (λ d. Timed old.disk.counts.clock old.disk.told d.counts.clock d.told) (sym b.disk) (s.goes.timed so);
        stands = λ so. subst (λ (x : Seen). LeavesKept layout x.node x.more x.kept x.work x.disk.told) (sym (same so)) (s.goes.stands so);
      };
      picked = ap is_some b.picked ∙ s.picked;
      undamaged = inr (inl refl);
      unchanged = unless_memory _ (Err Full) (inr refl);
      one = λ other. omega (arith, more, s.more);
      first = λ so keeps. omega (arith, more, s.more);
      fresh = λ so. fresh_idle new.work new.kept (b.work ∙ settled_idle tells obeys layout old mid idle s);
    }

-- the room that is looked for is that of what is kept once the doubt is settled
same_room : (tells obeys : Bool) (layout : Layout) (ask : Asked) (old mid : Seen) (pick : Option Pick)
    → Settled tells obeys layout (Ok tt) old mid → pick ≡ mid.picked → IsTrue tells
    → has_room_for layout mid.disk.counts.size mid.kept ask ≡ has_room_for layout old.disk.counts.size (settled pick old.work old.kept) ask
same_room tells obeys layout ask old mid pick s found so =
    ap (λ n. has_room_for layout n mid.kept ask) s.ran.counts.size
    ∙ ap (λ (k : Kept). has_room_for layout old.disk.counts.size k ask) (s.kept so ∙ ap (λ x. settled x old.work old.kept) (sym found))

-- A whole put.
pub begun_puts : (tells obeys : Bool) (layout : Layout) (ask : Asked) (result : Result (Unit {0}) StoreRefusal) (old mid began new : Seen)
    → is_busy old.work ≡ false → ((calls : List DiskCall) → IsRefusedIn calls old.refused_at new.refused_at)
    → began.more ≤ mid.more
    → Settled tells obeys layout (Ok tt) old mid → Begins tells layout ask (Ok tt) mid began
    → Finishes tells obeys layout result began new → Puts tells obeys layout ask result old new
begun_puts tells obeys layout ask result old mid began new idle at fewer s b f =
    let pk : new.picked ≡ mid.picked = f.picked ∙ b.picked in
    record {
      whole = begun_whole tells obeys layout ask result old mid began new s b f;
      changes = begun_changes tells obeys layout ask result old mid began new idle at s b fewer f;
      full = λ so some. room_had _ new.picked old.work result (match_disk result f.only)
          (sym (same_room tells obeys layout ask old mid new.picked s pk so) ∙ b.room so (omega (arith, some, s.more)));
    }

pub refused_puts : (tells obeys : Bool) (layout : Layout) (ask : Asked) (e : StoreRefusal) (old new : Seen)
    → ((calls : List DiskCall) → IsRefusedIn calls old.refused_at new.refused_at) → IsJobAsked tells layout ask old
    → Settled tells obeys layout (Err e) old new → Puts tells obeys layout ask (Err e) old new
refused_puts tells obeys layout ask e old new at j s = record {
  whole = refused_whole tells obeys layout ask e old new s;
  changes = unsettled_changes tells obeys layout ask e old new at j s;
  full = λ so some. room_unknown _ new.picked old.work e s.only s.picked s.refused;
}

pub full_puts : (tells obeys : Bool) (layout : Layout) (ask : Asked) (old mid new : Seen) → is_busy old.work ≡ false
    → ((calls : List DiskCall) → IsRefusedIn calls old.refused_at new.refused_at) → IsJobAsked tells layout ask old
    → Settled tells obeys layout (Ok tt) old mid → Begins tells layout ask (Err Full) mid new
    → Puts tells obeys layout ask (Err Full) old new
full_puts tells obeys layout ask old mid new idle at j s b = record {
  whole = full_whole tells obeys layout ask old mid new idle s b;
  changes = full_changes tells obeys layout ask old mid new idle at j s b;
  full = λ so some. sym (same_room tells obeys layout ask old mid new.picked s b.picked so) ∙ b.full so (omega (arith, some, s.more)) refl;
}

-- what was looked up once the doubt was settled
same_body : (tells obeys : Bool) (layout : Layout) (ask : Asked) (old mid : Seen) (pick : Option Pick)
    → Settled tells obeys layout (Ok tt) old mid → pick ≡ mid.picked → IsTrue tells
    → body_at (settled pick old.work old.kept) ask.uid ≡ body_at mid.kept ask.uid
same_body tells obeys layout ask old mid pick s found so =
    ap (λ (k : Kept). body_at k ask.uid) (ap (λ x. settled x old.work old.kept) found ∙ sym (s.kept so))

-- A whole removal of what is kept.
pub begun_deletes : (tells obeys : Bool) (layout : Layout) (ask : Asked) (result : Result (Unit {0}) StoreRefusal)
    (old mid began new : Seen)
    → is_busy old.work ≡ false → ((calls : List DiskCall) → IsRefusedIn calls old.refused_at new.refused_at) → new.refused_at ≡ None
    → began.more ≤ mid.more
    → (IsTrue tells → IsSome (body_at mid.kept ask.uid))
    → Settled tells obeys layout (Ok tt) old mid → Begins tells layout ask (Ok tt) mid began
    → Finishes tells obeys layout result began new → Deletes tells obeys layout ask result old new
begun_deletes tells obeys layout ask result old mid began new idle at none fewer there s b f =
    let pk : new.picked ≡ mid.picked = f.picked ∙ b.picked in
    record {
      whole = begun_whole tells obeys layout ask result old mid began new s b f;
      at = on_done _ result (inl none);
      changes = inr (record {
        changes = begun_changes tells obeys layout ask result old mid began new idle at s b fewer f;
        some = λ so. ap is_some (same_body tells obeys layout ask old mid new.picked s pk so) ∙ there so;
        full = λ so some. room_had _ new.picked old.work result (match_disk result f.only)
            (sym (same_room tells obeys layout ask old mid new.picked s pk so) ∙ b.room so (omega (arith, some, s.more)));
      });
    }

pub full_deletes : (tells obeys : Bool) (layout : Layout) (ask : Asked) (old mid new : Seen) → is_busy old.work ≡ false
    → ((calls : List DiskCall) → IsRefusedIn calls old.refused_at new.refused_at) → IsJobAsked tells layout ask old
    → (IsTrue tells → IsSome (body_at mid.kept ask.uid))
    → Settled tells obeys layout (Ok tt) old mid → Begins tells layout ask (Err Full) mid new
    → Deletes tells obeys layout ask (Err Full) old new
full_deletes tells obeys layout ask old mid new idle at j there s b = record {
  whole = full_whole tells obeys layout ask old mid new idle s b;
  at = tt;
  changes = inr (record {
    changes = full_changes tells obeys layout ask old mid new idle at j s b;
    some = λ so. ap is_some (same_body tells obeys layout ask old mid new.picked s b.picked so) ∙ there so;
    full = λ so some. sym (same_room tells obeys layout ask old mid new.picked s b.picked so)
        ∙ b.full so (omega (arith, some, s.more)) refl;
  });
}

-- the same moments, for so many more changes as are told behind them
moments_told : (layout : Layout) (node more less : ℕ) (kept : Kept) (old new : Told) (work : Work) → less ≡ more
    → EachMoment (Stands layout node more kept (changes_in (doubt_in work))) old new
    → EachMoment (Stands layout node less kept (changes_in (doubt_in work))) old new
moments_told layout node more less kept old new work same each =
    subst (λ n. EachMoment (Stands layout node n kept (changes_in (doubt_in work))) old new) (sym same) each

pub refused_deletes : (tells obeys : Bool) (layout : Layout) (ask : Asked) (e : StoreRefusal) (old new : Seen)
    → Settled tells obeys layout (Err e) old new → Deletes tells obeys layout ask (Err e) old new
refused_deletes tells obeys layout ask e old new s = record {
  whole = refused_whole tells obeys layout ask e old new s;
  at = tt;
  changes = inl (record {
    settles = record {
      ran = refused_more old.work 0 e old.disk.counts new.disk.counts s.only s.ran;
      order = λ so. settling_order old.work e old.disk.told new.disk.told s.only (s.order so);
      work = unchanged_work new.picked old.work new.work e s.only s.work;
      kept = s.kept;
      moments = λ so. moments_told layout old.node old.more new.more old.kept old.disk.told new.disk.told old.work s.more (s.moments so);
    };
    room = never_full (Err e) s.only;
    none = λ so. tt;
  });
}

-- A removal of what is not kept.
pub nothing_deletes : (tells obeys : Bool) (layout : Layout) (ask : Asked) (old new : Seen)
    → (IsTrue tells → body_at new.kept ask.uid ≡ None)
    → Settled tells obeys layout (Ok tt) old new → Deletes tells obeys layout ask (Ok tt) old new
nothing_deletes tells obeys layout ask old new none s = record {
  whole = record {
    goes = s.goes;
    picked = s.picked;
    undamaged = tt;
    unchanged = tt;
    one = λ other. omega (arith, s.more);
    first = λ so keeps. omega (arith, s.more);
    fresh = λ so. fresh_settled new.picked old.work new.work old.kept new.kept s.work (s.kept so) (s.fresh so);
  };
  at = inr s.at;
  changes = inl (record {
    settles = record {
      ran = s.ran;
      order = s.order;
      work = s.work;
      kept = s.kept;
      moments = λ so. moments_told layout old.node old.more new.more old.kept old.disk.told new.disk.told old.work s.more (s.moments so);
    };
    room = tt;
    none = λ so. same_body tells obeys layout ask old new new.picked s refl so ∙ none so;
  });
}
