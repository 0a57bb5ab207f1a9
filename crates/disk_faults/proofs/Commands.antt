-- Each fault and each stop that an entry shows has its command.
use Rattle.std.proofs.Common.{◌≡◌, ℕ, ◌+◌, ◌==◌, ◌≤◌, ◌<◌, Bool, true, false, cond, List, [], ◌∷◌, Option, None, Some}
use Rattle.std.proofs.Common.{refl, sym, ap}
use Rattle.std.proofs.Common.{subst, ◌∙◌, arith}
use Rattle.std.specs.Prelude.{IsTrue, IsSomeAnd, IfSome}
use Rattle.eden_disk.specs.declared.disk.Arm.{Arm}
use Rattle.eden_disk.specs.declared.disk.Arm.TheVariants as arm
use Rattle.eden_model.specs.Map.{with_item, or_else}
use Rattle.eden_disk.specs.Calls.{Counts, Due, armed}
use Rattle.passive_store.specs.Seen.{DiskSeen}
use Rattle.journal.specs.declared.event.Entry.{Entry}
use Rattle.journal.specs.declared.event.Event.{Event}
use Rattle.journal.specs.declared.event.Event.TheVariants as event
use Rattle.journal.specs.Run.{Step, EachStep}
use Rattle.journal.specs.Standing.{DiskRun}
use Rattle.journal.specs.Faults.{shows_fault, shows_stop, fail_after, stop_after, due_clock, last_due, clock_of, IsAsked, HasItsCommand}
use Rattle.journal.specs.Faults.{EachHasItsCommand}
use Rattle.disk_faults.specs.Shows.{HasFallen, IsTelling, NoneFalls, due_behind}
use Rattle.disk_faults.specs.Runs.{EntryShows, RunShows, handed_in, RunsLeaveArmed, RunsShowClocks}
use Rattle.journal.specs.Faults.{ShowsClockBefore, makes_no_call, past_of, due_left}
use Rattle.journal.specs.Run.{steps}
use Rattle.disk_faults.proofs.Sums.{falls-none, entry-level, run-level}

-- 1. What falls due behind an entry is what its arming asked for, or what fell due before it

arm-failure : (what : Arm) (shown clock : ℕ) (due : Due) → shown ≡ clock
    → (armed what clock due).failure ≡ or_else (with_item (fail_after what) (λ k. Some (shown + k)) None) due.failure
arm-failure (arm.Fail k) shown clock due same = ap (λ c. Some (c + k)) (sym same)
arm-failure (arm.Stop k mode) shown clock due same = refl

arm-stop : (what : Arm) (shown clock : ℕ) (due : Due) → shown ≡ clock
    → (armed what clock due).stop ≡ or_else (with_item (stop_after what) (λ k. Some (shown + k)) None) due.stop
arm-stop (arm.Fail k) shown clock due same = refl
arm-stop (arm.Stop k mode) shown clock due same = ap (λ c. Some (c + k)) (sym same)

failure-behind : (n : ℕ) (e : Entry) (v : Event) (clock : ℕ) (due : Due) → (IsTrue (makes_no_call n v) → e.clock ≡ clock)
    → (due_behind n v clock due).failure ≡ or_else (due_clock fail_after n e v) due.failure
failure-behind n e (event.Armed m what) clock due counted = go (m == n) counted
  where
    go : (b : Bool) → (IsTrue b → e.clock ≡ clock)
        → (cond b (armed what clock due) due).failure
        ≡ or_else (cond b (with_item (fail_after what) (λ k. Some (e.clock + k)) None) None) due.failure
    go true here = arm-failure what e.clock clock due (here refl)
    go false here = refl
failure-behind n e (event.Boot m k how p began) clock due counted = refl
failure-behind n e (event.Crash m) clock due counted = refl
failure-behind n e (event.Still m up) clock due counted = refl
failure-behind n e (event.Link a b joined) clock due counted = refl
failure-behind n e (event.Made name status uid) clock due counted = refl
failure-behind n e (event.Bound name held) clock due counted = refl
failure-behind n e (event.Void name) clock due counted = refl
failure-behind n e (event.Asked k name at_once) clock due counted = refl
failure-behind n e (event.Request k a b refused) clock due counted = refl
failure-behind n e (event.Reply k a b name status results) clock due counted = refl
failure-behind n e (event.Activate u how p) clock due counted = refl
failure-behind n e (event.Start k u p) clock due counted = refl
failure-behind n e (event.Process u p said) clock due counted = refl
failure-behind n e (event.Store u c how p) clock due counted = refl
failure-behind n e event.Quiet clock due counted = refl
failure-behind n e event.Spent clock due counted = refl
failure-behind n e (event.Left names) clock due counted = refl

stop-behind : (n : ℕ) (e : Entry) (v : Event) (clock : ℕ) (due : Due) → (IsTrue (makes_no_call n v) → e.clock ≡ clock)
    → (due_behind n v clock due).stop ≡ or_else (due_clock stop_after n e v) due.stop
stop-behind n e (event.Armed m what) clock due counted = go (m == n) counted
  where
    go : (b : Bool) → (IsTrue b → e.clock ≡ clock)
        → (cond b (armed what clock due) due).stop ≡ or_else (cond b (with_item (stop_after what) (λ k. Some
        (e.clock + k)) None) None) due.stop
    go true here = arm-stop what e.clock clock due (here refl)
    go false here = refl
stop-behind n e (event.Boot m k how p began) clock due counted = refl
stop-behind n e (event.Crash m) clock due counted = refl
stop-behind n e (event.Still m up) clock due counted = refl
stop-behind n e (event.Link a b joined) clock due counted = refl
stop-behind n e (event.Made name status uid) clock due counted = refl
stop-behind n e (event.Bound name held) clock due counted = refl
stop-behind n e (event.Void name) clock due counted = refl
stop-behind n e (event.Asked k name at_once) clock due counted = refl
stop-behind n e (event.Request k a b refused) clock due counted = refl
stop-behind n e (event.Reply k a b name status results) clock due counted = refl
stop-behind n e (event.Activate u how p) clock due counted = refl
stop-behind n e (event.Start k u p) clock due counted = refl
stop-behind n e (event.Process u p said) clock due counted = refl
stop-behind n e (event.Store u c how p) clock due counted = refl
stop-behind n e event.Quiet clock due counted = refl
stop-behind n e event.Spent clock due counted = refl
stop-behind n e (event.Left names) clock due counted = refl

or-else-both : {X : Type 0} (a b c : Option X) → or_else a (or_else b c) ≡ or_else (or_else a b) c
or-else-both None b c = refl
or-else-both (Some x) b c = refl

-- 2. The disk in a run, by the entries before

-- Its clock is that of the last entry on it, and what falls due is what was asked for last, or what was to come as it was handed in.
record Reaches (n : ℕ) (first : Due) (began : ℕ) (past : List Step) (now : DiskSeen) : Type 0 where
  clock : clock_of n began past ≡ now.counts.clock
  since : began ≤ now.counts.clock
  failure : now.due.failure ≡ or_else (last_due fail_after n past) first.failure
  stop : now.due.stop ≡ or_else (last_due stop_after n past) first.stop

clock-next : (obeys : Bool) (n began : ℕ) (past : List Step) (s : Step) (old mid : DiskSeen) → clock_of n began past ≡ old.counts.clock
    → EntryShows obeys n s.entry old mid → clock_of n began (s ∷ past) ≡ mid.counts.clock
clock-next obeys n began past s old mid is e = go (s.entry.node == n) refl
  where
    go : (b : Bool) → (s.entry.node == n) ≡ b → cond (s.entry.node == n) s.entry.clock (clock_of n began past) ≡ mid.counts.clock
    go true here = ap (λ b. cond b s.entry.clock (clock_of n began past)) here ∙ e.shown here
    go false there = ap (λ b. cond b s.entry.clock (clock_of n began past)) there ∙ is ∙ sym (e.elsewhere there)

reaches-next : (n : ℕ) (first : Due) (began : ℕ) (past : List Step) (s : Step) (old mid : DiskSeen) → Reaches n first began past old
    → EntryShows true n s.entry old mid → Reaches n first began (s ∷ past) mid
reaches-next n first began past s old mid r e = record {
  clock = clock-next true n began past s old mid r.clock e;
  since = omega (arith, r.since, e.shows.clock);
  failure = ap (λ (d : Due). d.failure) (e.shows.due refl) ∙ failure-behind n s.entry s.entry.event old.counts.clock old.due e.counted
      ∙ ap (or_else (due_clock fail_after n s.entry s.entry.event)) r.failure
      ∙ or-else-both (due_clock fail_after n s.entry s.entry.event) (last_due fail_after n past) first.failure;
  stop = ap (λ (d : Due). d.stop) (e.shows.due refl) ∙ stop-behind n s.entry s.entry.event old.counts.clock old.due e.counted
      ∙ ap (or_else (due_clock stop_after n s.entry s.entry.event)) r.stop
      ∙ or-else-both (due_clock stop_after n s.entry s.entry.event) (last_due stop_after n past) first.stop;
}

-- 3. What fell due was asked for

-- the entry is on the disk, since its clock rose
on-disk : (n : ℕ) (s : Step) (old mid : DiskSeen) → EntryShows true n s.entry old mid → old.counts.clock < mid.counts.clock
    → s.entry.clock ≡ mid.counts.clock
on-disk n s old mid e rose = go (s.entry.node == n) refl
  where
    go : (b : Bool) → (s.entry.node == n) ≡ b → s.entry.clock ≡ mid.counts.clock
    go true here = e.shown here
    go false there = let same : mid.counts.clock ≡ old.counts.clock = e.elsewhere there in absurd (omega (arith, same, rose))

was-asked : (o due first : Option ℕ) (began before after shown clock : ℕ) → due ≡ or_else o first → IfSome first (λ c. c ≤ began)
    → began ≤ before → clock ≡ before → shown ≡ after → HasFallen due before after → IsSomeAnd o (λ k. (clock < k) × (k ≡ shown))
was-asked None due None began before after shown clock is none since same at fell =
    absurd (let bad : None ≡ Some after = sym is ∙ fell.at in cc bad)
was-asked None due (Some c) began before after shown clock is none since same at fell =
    let here : c ≡ after = (let both : Some c ≡ Some after = sym is ∙ fell.at in cc both) in
    let rose : before < after = fell.rose in
    absurd (omega (arith, here, none, since, rose))
was-asked (Some k) due first began before after shown clock is none since same at fell =
    let here : k ≡ after = (let both : Some k ≡ Some after = sym is ∙ fell.at in cc both) in
    let rose : before < after = fell.rose in (omega (arith, same, here, rose), here ∙ sym at)

asked-fault : (n : ℕ) (first : Due) (began : ℕ) (past : List Step) (s : Step) (old mid : DiskSeen) → IfSome first.failure (λ c. c ≤ began)
    → Reaches n first began past old → EntryShows true n s.entry old mid → IsTelling old.counts mid.counts
    → IsAsked fail_after (shows_fault n s.entry.event) n began past s
asked-fault n first began past s old mid none r e t = go (shows_fault n s.entry.event) refl
  where
    go : (b : Bool) → shows_fault n s.entry.event ≡ b → IsAsked fail_after b n began past s
    go false is = tt
    go true is =
        let fell : HasFallen old.due.failure old.counts.clock mid.counts.clock = e.shows.fault_due refl t is in
        was-asked (last_due fail_after n past) old.due.failure first.failure began old.counts.clock mid.counts.clock s.entry.clock
        (clock_of n began past) r.failure none r.since r.clock (on-disk n s old mid e fell.rose) fell

asked-stop : (n : ℕ) (first : Due) (began : ℕ) (past : List Step) (s : Step) (old mid : DiskSeen) → IfSome first.stop (λ c. c ≤ began)
    → Reaches n first began past old → EntryShows true n s.entry old mid → IsTelling old.counts mid.counts
    → IsAsked stop_after (shows_stop n s.entry.event) n began past s
asked-stop n first began past s old mid none r e t = go (shows_stop n s.entry.event) refl
  where
    go : (b : Bool) → shows_stop n s.entry.event ≡ b → IsAsked stop_after b n began past s
    go false is = tt
    go true is =
        let fell : HasFallen old.due.stop old.counts.clock mid.counts.clock = e.shows.stop_due refl t is in
        was-asked (last_due stop_after n past) old.due.stop first.stop began old.counts.clock mid.counts.clock s.entry.clock
        (clock_of n began past) r.stop none r.since r.clock (on-disk n s old mid e fell.rose) fell

-- 4. Each of them

-- between two counts of which the second tells, nothing wanted memory
telling-part : (old mid last : Counts) → NoneFalls old mid → NoneFalls mid last → IsTelling old last → IsTelling old mid
telling-part old mid last a b t = record {
  wants = let first = a.wants in let then = b.wants in let whole = t.wants in omega (arith, first, then, whole);
  wants_told = t.wants_told;
  below = let then = b.clock in let whole = t.below in omega (arith, then, whole);
}

telling-rest : (old mid last : Counts) → NoneFalls old mid → NoneFalls mid last → IsTelling old last → IsTelling mid last
telling-rest old mid last a b t = record {
  wants = let first = a.wants in let then = b.wants in let whole = t.wants in omega (arith, first, then, whole);
  wants_told = let first = a.wants in let then = b.wants in let whole = t.wants in let told = t.wants_told in omega
      (arith, first, then, whole, told);
  below = t.below;
}

each : (n : ℕ) (first : Due) (began : ℕ) (past run : List Step) (old new : DiskSeen) (last : Counts) → IfSome first.failure (λ c. c ≤ began)
    → IfSome first.stop (λ c. c ≤ began)
    → Reaches n first began past old → RunShows true n run old new → NoneFalls new.counts last → IsTelling old.counts last
    → EachStep (HasItsCommand n began) past run
each n first began past [] old new last none quiet r shows more t = tt
each n first began past (s ∷ run) old new last none quiet r (mid, e, rest) more t =
    let here : NoneFalls old.counts mid.counts = entry-level true n s.entry old mid e in
    let behind : NoneFalls mid.counts last = falls-none mid.counts new.counts last (run-level true n run mid new rest) more in
    let told : IsTelling old.counts mid.counts = telling-part old.counts mid.counts last here behind t in (
      record {
        fault = asked-fault n first began past s old mid none r e told;
        stop = asked-stop n first began past s old mid quiet r e told;
      },
      each n first began (s ∷ past) run mid new last none quiet (reaches-next n first began past s old mid r e) rest more
          (telling-rest old.counts mid.counts last here behind t),
    )

pub has-commands : (run : List Step) (n : ℕ) (d : DiskRun) (last : DiskSeen) → RunShows d.obeys n run (handed_in d) last
    → NoneFalls last.counts d.last → EachHasItsCommand run n d
has-commands run n d last r more = λ o.
    each n d.due d.first.clock [] run (handed_in d) last d.last o.no_failure o.no_stop
    (record { clock = refl; since = omega arith; failure = refl; stop = refl })
    (subst (λ b. RunShows b n run (handed_in d) last) o.obeys r) more
    (record { wants = o.no_wants; wants_told = o.wants_told; below = o.below })

-- 5. The clocks of armings and of power cuts

each-counted : (obeys : Bool) (n began : ℕ) (past run : List Step) (old new : DiskSeen) → clock_of n began past ≡ old.counts.clock
    → RunShows obeys n run old new → EachStep (ShowsClockBefore n began) past run
each-counted obeys n began past [] old new is r = tt
each-counted obeys n began past (s ∷ run) old new is (mid, e, more) = (
  (λ still. e.counted still ∙ sym is),
  each-counted obeys n began (s ∷ past) run mid new (clock-next obeys n began past s old mid is e) more,
)

pub shows-clocks : RunsShowClocks
shows-clocks n p history d last shows = each-counted d.obeys n d.first.clock [] (steps p history) (handed_in d) last refl shows

-- 6. What is armed at the end

reaches-last : (n : ℕ) (first : Due) (began : ℕ) (past run : List Step) (old new : DiskSeen) → Reaches n first began past old
    → RunShows true n run old new → Reaches n first began (past_of past run) new
reaches-last n first began past [] old new r same = subst (Reaches n first began past) (sym same) r
reaches-last n first began past (s ∷ run) old new r (mid, e, more) =
    reaches-last n first began (s ∷ past) run mid new (reaches-next n first began past s old mid r e) more

pub left-armed : RunsLeaveArmed
left-armed n p history d last shows back = λ obeys. sym (back obeys)
    ∙ go (reaches-last n d.due d.first.clock [] (steps p history) (handed_in d) last
    (record { clock = refl; since = omega arith; failure = refl; stop = refl })
    (subst (λ b. RunShows b n (steps p history) (handed_in d) last) obeys shows))
  where
    go : Reaches n d.due d.first.clock (past_of [] (steps p history)) last → last.due ≡ due_left n d.due (steps p history)
    go r = λ i. record { failure = r.failure i; stop = r.stop i }
