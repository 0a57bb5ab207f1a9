-- What device calls leave of the disk.
use Rattle.std.proofs.Common.{◌≡◌, inl, inr, ℕ, Bool, true, false, List, [], length, Option, None, Some, refl, sym, ◌∙◌, ap, subst}
use Rattle.std.proofs.Common.{arith}
use Rattle.std.specs.Prelude.{IsTrue, Result, Ok, Err, IfErr}
use Rattle.eden_disk.specs.Calls.{End, Fine, AtFault, AtStop, faults_after, stops_after, more_by}
use Rattle.eden_disk.specs.Told.{contents}
use Rattle.capability.specs.declared.Uid.{Uid}
use Rattle.passive_store.specs.Acts.{DiskCall}
use Rattle.passive_store.specs.declared.store.StoreRefusal.{StoreRefusal}
use Rattle.passive_store.specs.declared.store.StoreRefusal.TheVariants as store
use Rattle.passive_store.specs.Kept.{Layout, Idle, Ran, CallsMade, end_of_store, settling_calls, settling_before}
use Rattle.passive_store.specs.Seen.{Seen}
use Rattle.eden_move.specs.declared.refusal.MoveRefusal.{MoveRefusal}
use Rattle.eden_move.specs.declared.refusal.MoveRefusal.TheVariants.{OutOfMemory}
use Rattle.eden_move.specs.Calls.{refusal_by, end_by, end_of}
use Rattle.eden_move.specs.Shown.{Goes, Made, MadeOf, AreOfReading, AreOfJob, Stands}

-- 1. Numbers of device calls

more-none : (n : ℕ) → more_by 0 n ≡ n
more-none n = omega arith

-- none of two parts
still : (a b n : ℕ) → a ≡ 0 → b ≡ 0 → more_by a (more_by b n) ≡ n
still a b n p r =
    ap (λ k. more_by k (more_by b n)) p ∙ more-none (more_by b n) ∙ ap (λ k. more_by k n) r ∙ more-none n

-- none were made
none-of : (end : End) (all : ℕ) → MadeOf end all 0
none-of Fine all = inl refl
none-of AtFault all = omega arith
none-of AtStop all = omega arith

-- the calls behind those that ended well may end in any way
fine-of : (end : End) (all made : ℕ) → MadeOf Fine all made → MadeOf end all made
fine-of Fine all made m = m
fine-of AtFault all made (inl e) = omega (arith, e)
fine-of AtFault all made (inr e) = omega (arith, e)
fine-of AtStop all made (inl e) = omega (arith, e)
fine-of AtStop all made (inr e) = omega (arith, e)

no-reading : (layout : Layout) (end : End) → AreOfReading layout end 0
no-reading layout end = (None, none-of end (layout.reading_calls None))

no-job : (layout : Layout) (end : End) → AreOfJob layout end 0
no-job layout end =
    let u : Uid = record { node = 0; epoch = 0; serial = 0 } in
    (0, None, [], u, [], none-of end (length (layout.job_calls 0 None [] u (Some []))))

-- calls behind no settling
calls-of : {T : Type 0} (settling calls : ℕ) (result : Result T StoreRefusal) (made : ℕ) → settling ≡ 0
    → CallsMade settling calls result made → MadeOf (end_of_store result) calls made
calls-of settling calls (Ok done) made none m = inr (omega (arith, m, none))
calls-of settling calls (Err store.Failed) made none m = let few = m.1 in omega (arith, few, none)
calls-of settling calls (Err store.Stopped) made none m = let few = m.1 in omega (arith, few, none)
calls-of settling calls (Err store.Full) made none m = inl (m ∙ none)
calls-of settling calls (Err (store.Damaged place)) made none m = inl (m ∙ none)
calls-of settling calls (Err store.OutOfMemory) made none m = inl (m ∙ none)

-- calls of a settling alone
settling-of : {T : Type 0} (settling : ℕ) (result : Result T StoreRefusal) (made : ℕ) → CallsMade settling 0 result made
    → MadeOf (end_of_store result) settling made
settling-of settling (Ok done) made m = inr (omega (arith, m))
settling-of settling (Err store.Failed) made m = let few = m.1 in omega (arith, few)
settling-of settling (Err store.Stopped) made m = let few = m.1 in omega (arith, few)
settling-of settling (Err store.Full) made m = inr m
settling-of settling (Err (store.Damaged place)) made m = inr m
settling-of settling (Err store.OutOfMemory) made m = inr m

settled-before : {T : Type 0} (result : Result T StoreRefusal) → settling_before Idle result ≡ 0
settled-before (Ok done) = refl
settled-before (Err store.Failed) = refl
settled-before (Err store.Stopped) = refl
settled-before (Err store.Full) = refl
settled-before (Err (store.Damaged place)) = refl
settled-before (Err store.OutOfMemory) = refl

-- 2. Parts

-- a part that is not made makes no device calls
made-wide : (settling reading putting reading2 putting2 tells : Bool) (layout : Layout) (end : End) (old new : Seen)
    → (reading2 ≡ false → reading ≡ false) → (putting2 ≡ false → putting ≡ false) → Made settling reading putting tells layout end old new
    → Made settling reading2 putting2 tells layout end old new
made-wide settling reading putting reading2 putting2 tells layout end old new r p m = record {
  settles = m.settles;
  reads = m.reads;
  puts = m.puts;
  clock = m.clock;
  of_settling = m.of_settling;
  of_reading = m.of_reading;
  of_job = m.of_job;
  unsettled = m.unsettled;
  unread = λ e. m.unread (r e);
  unput = λ e. m.unput (p e);
}

pub goes-wide : (settling reading putting reading2 putting2 tells : Bool) (layout : Layout) (end : End) (old new : Seen)
    → (reading2 ≡ false → reading ≡ false) → (putting2 ≡ false → putting ≡ false)
    → Goes settling reading putting tells layout end old new → Goes settling reading2 putting2 tells layout end old new
goes-wide settling reading putting reading2 putting2 tells layout end old new r p g = record {
  made = made-wide settling reading putting reading2 putting2 tells layout end old new r p g.made;
  size = g.size;
  power = g.power;
  faults = g.faults;
  stops = g.stops;
  stands = g.stands;
}

-- a settling
pub goes-settle : (tells : Bool) (layout : Layout) (result : Result (Unit {0}) StoreRefusal) (old new : Seen)
    → (ran : Ran (settling_calls old.work) 0 result old.disk.counts new.disk.counts) → (IsTrue tells → Stands layout new)
    → Goes true false false tells layout (end_of_store result) old new
goes-settle tells layout result old new ran stands =
    let d = ran.counts in
    record {
      made = record {
        settles = ran.made;
        reads = 0;
        puts = 0;
        clock = d.clock ∙ sym (still 0 0 (more_by ran.made old.disk.counts.clock) refl refl);
        of_settling = settling-of (settling_calls old.work) result ran.made ran.number;
        of_reading = λ t. no-reading layout (end_of_store result);
        of_job = λ t. no-job layout (end_of_store result);
        unsettled = λ e. absurd (cc e);
        unread = λ e. refl;
        unput = λ e. refl;
      };
      size = d.size;
      power = d.power;
      faults = d.faults;
      stops = d.stops;
      stands = λ t before. stands t;
    }

-- the reading of what is kept, where nothing is in doubt
pub goes-read : (tells : Bool) (layout : Layout) (result : Result (Option (List ℕ)) StoreRefusal) (calls : ℕ) (body : Option (List ℕ))
    (old new : Seen) → old.work ≡ Idle → (ran : Ran (settling_calls old.work) calls result old.disk.counts new.disk.counts)
    → (IsTrue tells → calls ≡ layout.reading_calls body) → (IsTrue tells → Stands layout new)
    → Goes false true false tells layout (end_of_store result) old new
goes-read tells layout result calls body old new idle ran by_layout stands =
    let d = ran.counts in
    let most : MadeOf (end_of_store result) calls ran.made =
    calls-of (settling_calls old.work) calls result ran.made (ap settling_calls idle) ran.number in
    record {
      made = record {
        settles = 0;
        reads = ran.made;
        puts = 0;
        clock = d.clock
            ∙ sym (more-none (more_by ran.made (more_by 0 old.disk.counts.clock))
            ∙ ap (more_by ran.made) (more-none old.disk.counts.clock));
        of_settling = none-of (end_of_store result) (settling_calls old.work);
        of_reading = λ t. (body, subst (λ n. MadeOf (end_of_store result) n ran.made) (by_layout t) most);
        of_job = λ t. no-job layout (end_of_store result);
        unsettled = λ e. refl;
        unread = λ e. absurd (cc e);
        unput = λ e. refl;
      };
      size = d.size;
      power = d.power;
      faults = d.faults;
      stops = d.stops;
      stands = λ t before. stands t;
    }

-- a put, where nothing is in doubt
pub goes-put : (tells : Bool) (layout : Layout) (result : Result (Unit {0}) StoreRefusal) (uid : Uid) (body : List ℕ)
    (calls : List DiskCall) (old new : Seen) → old.work ≡ Idle
    → (ran : Ran (settling_before old.work result) (length calls) result old.disk.counts new.disk.counts)
    → (IsTrue tells → calls ≡ layout.job_calls old.node old.refused_at (contents old.disk.told).now uid (Some body))
    → (IsTrue tells → Stands layout new) → Goes false false true tells layout (end_of_store result) old new
goes-put tells layout result uid body calls old new idle ran by_layout stands =
    let d = ran.counts in
    let none : settling_before old.work result ≡ 0 = ap (λ w. settling_before w result) idle ∙ settled-before result in
    let most : MadeOf (end_of_store result) (length calls) ran.made =
    calls-of (settling_before old.work result) (length calls) result ran.made none ran.number in
    record {
      made = record {
        settles = 0;
        reads = 0;
        puts = ran.made;
        clock = d.clock ∙ sym (ap (more_by ran.made) (still 0 0 old.disk.counts.clock refl refl));
        of_settling = none-of (end_of_store result) (settling_calls old.work);
        of_reading = λ t. no-reading layout (end_of_store result);
        of_job = λ t. (
          old.node,
          old.refused_at,
          (contents old.disk.told).now,
          uid,
          body,
          subst (λ (l : List DiskCall). MadeOf (end_of_store result) (length l) ran.made) (by_layout t) most,
        );
        unsettled = λ e. refl;
        unread = λ e. refl;
        unput = λ e. absurd (cc e);
      };
      size = d.size;
      power = d.power;
      faults = d.faults;
      stops = d.stops;
      stands = λ t before. stands t;
    }

-- no device call was made
pub goes-none : (settling reading putting tells : Bool) (layout : Layout) (s : Seen) → IsTrue s.disk.counts.power
    → Goes settling reading putting tells layout Fine s s
goes-none settling reading putting tells layout s power = record {
  made = record {
    settles = 0;
    reads = 0;
    puts = 0;
    clock = sym (still 0 0 (more_by 0 s.disk.counts.clock) refl refl ∙ more-none s.disk.counts.clock);
    of_settling = inl refl;
    of_reading = λ t. no-reading layout Fine;
    of_job = λ t. no-job layout Fine;
    unsettled = λ e. refl;
    unread = λ e. refl;
    unput = λ e. refl;
  };
  size = refl;
  power = power;
  faults = refl;
  stops = refl;
  stands = λ t before. before;
}

-- 3. One part behind another

-- a reading behind a settling that ended well
pub goes-looks : (reading tells : Bool) (layout : Layout) (end : End) (old mid new : Seen) → Goes true false false tells layout Fine old mid
    → Goes false reading false tells layout end mid new → Goes true reading false tells layout end old new
goes-looks reading tells layout end old mid new a b = record {
  made = record {
    settles = a.made.settles;
    reads = b.made.reads;
    puts = b.made.puts;
    clock = b.made.clock
        ∙ ap (λ n. more_by b.made.puts (more_by b.made.reads n))
        (ap (λ k. more_by k mid.disk.counts.clock) (b.made.unsettled refl) ∙ more-none mid.disk.counts.clock ∙ a.made.clock
        ∙ still a.made.puts a.made.reads (more_by a.made.settles old.disk.counts.clock) (a.made.unput refl) (a.made.unread refl));
    of_settling = fine-of end (settling_calls old.work) a.made.settles a.made.of_settling;
    of_reading = b.made.of_reading;
    of_job = b.made.of_job;
    unsettled = λ e. absurd (cc e);
    unread = b.made.unread;
    unput = b.made.unput;
  };
  size = b.size ∙ a.size;
  power = b.power;
  faults = b.faults ∙ ap (faults_after end) a.faults;
  stops = b.stops ∙ ap (stops_after end) a.stops;
  stands = λ t before. b.stands t (a.stands t before);
}

-- a put behind these, which ended well
pub goes-then : (reading putting tells : Bool) (layout : Layout) (end : End) (old mid new : Seen)
    → Goes true reading false tells layout Fine old mid
    → Goes false false putting tells layout end mid new → Goes true reading putting tells layout end old new
goes-then reading putting tells layout end old mid new a b = record {
  made = record {
    settles = a.made.settles;
    reads = a.made.reads;
    puts = b.made.puts;
    clock = b.made.clock
        ∙ ap (more_by b.made.puts)
        (still b.made.reads b.made.settles mid.disk.counts.clock (b.made.unread refl) (b.made.unsettled refl) ∙ a.made.clock
        ∙ ap (λ k. more_by k (more_by a.made.reads (more_by a.made.settles old.disk.counts.clock))) (a.made.unput refl)
        ∙ more-none (more_by a.made.reads (more_by a.made.settles old.disk.counts.clock)));
    of_settling = fine-of end (settling_calls old.work) a.made.settles a.made.of_settling;
    of_reading = λ t. let r = a.made.of_reading t in (r.0, fine-of end (layout.reading_calls r.0) a.made.reads r.1);
    of_job = b.made.of_job;
    unsettled = λ e. absurd (cc e);
    unread = a.made.unread;
    unput = b.made.unput;
  };
  size = b.size ∙ a.size;
  power = b.power;
  faults = b.faults ∙ ap (faults_after end) a.faults;
  stops = b.stops ∙ ap (stops_after end) a.stops;
  stands = λ t before. b.stands t (a.stands t before);
}

-- 4. Ends

-- the refusal of a store ends as that of a node
pub end-alike : (e : StoreRefusal) (r : MoveRefusal) → r ≡ refusal_by e → end_of_store {T = Unit {0}} (Err e) ≡ end_by r
end-alike e r is = go e ∙ ap end_by (sym is)
  where
    go : (e : StoreRefusal) → end_of_store {T = Unit {0}} (Err e) ≡ end_by (refusal_by e)
    go store.Failed = refl
    go store.Stopped = refl
    go store.Full = refl
    go (store.Damaged place) = refl
    go store.OutOfMemory = refl

-- a call that the store refused
pub goes-refused : (settling reading putting tells : Bool) (layout : Layout) (end : End) (r : MoveRefusal) (old mid new : Seen)
    → end ≡ end_by r → new ≡ mid
    → Goes settling reading putting tells layout end old mid → Goes settling reading putting tells layout (end_by r) old new
goes-refused settling reading putting tells layout end r old mid new is same g =
    subst (λ s. Goes settling reading putting tells layout (end_by r) old s) (sym same)
    (subst (λ e. Goes settling reading putting tells layout e old mid) is g)

-- what was read was found, or memory was wanting
pub goes-found : {T : Type 0} (settling reading putting tells : Bool) (layout : Layout) (result : Result T MoveRefusal) (old new : Seen)
    → IfErr result (λ e. e ≡ OutOfMemory) → Goes settling reading putting tells layout Fine old new
    → Goes settling reading putting tells layout (end_of result) old new
goes-found settling reading putting tells layout (Ok done) old new only g = g
goes-found settling reading putting tells layout (Err e) old new only g =
    subst (λ end. Goes settling reading putting tells layout end old new) (ap end_by (sym only)) g

-- a call that was refused without a device call
pub goes-declined : (settling reading putting tells : Bool) (layout : Layout) (r : MoveRefusal) (s : Seen) → end_by r ≡ Fine
    → IsTrue s.disk.counts.power → Goes settling reading putting tells layout (end_by r) s s
goes-declined settling reading putting tells layout r s is power =
    subst (λ end. Goes settling reading putting tells layout end s s) (sym is) (goes-none settling reading putting tells layout s power)
