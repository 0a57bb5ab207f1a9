-- A disk stands for a run throughout, once each of its entries does what it may to the disk.
use Rattle.std.proofs.Common.{◌≡◌, ℕ, ◌-◌, ◌<◌, ◌≤◌, ◌==◌, nat_lt, Bool, true, false, cond, ◌&&◌, List, [], ◌∷◌, ◌++◌, Option, None}
use Rattle.std.proofs.Common.{Some, refl, sym, ap, subst, inl, inr, arith}
use Rattle.std.specs.Prelude.{Result, Ok}
use Rattle.std.specs.List.{AllByRecursion}
use Rattle.std.proofs.lemmas.List.Elements.{All-from_recursion}
use Rattle.std.proofs.lemmas.Bool.{cases_lt, eq-eqb}
use Rattle.std.proofs.lemmas.Bool.Decides.{nat_tests}
use Rattle.capability.specs.declared.Uid.{Uid}
use Rattle.eden_disk.specs.Told.{Told, contents, Left}
use Rattle.eden_disk.specs.Moments.{LeftBehind, LeftAfter, LeftIn}
use Rattle.eden_disk.proofs.Moments.{since_is, each_moment_behind, each_moment_within}
use Rattle.eden_disk.specs.Timed.{Timed}
use Rattle.eden_disk.proofs.Timed.{order_rises, timed_join, after_earlier, in_earlier, after_later, in_later}
use Rattle.passive_store.specs.Kept.{Layout}
use Rattle.journal.specs.EjectChange.{EjectChange}
use Rattle.journal.specs.declared.event.Entry.{Entry}
use Rattle.journal.specs.World.{World}
use Rattle.journal.specs.Opening.{found_in}
use Rattle.journal.specs.Run.{Position, Step, steps, end_of, lead}
use Rattle.journal.specs.Standing.{Standing, ShowsItsClock, Stands, StandsFor, IsAnyOf, changed_map, Added, state, at, from_past}
use Rattle.journal.specs.Standing.{is_past, state_before, epoch_put, with_changes}
use Rattle.checkpoint.specs.Throughout.{state_in, StepOnDisk, RunOnDisk, EndsOnDisk, RunsStand}

-- 1. What stands goes on standing where more changes may have been made

none-made : (kept : List (Uid × List ℕ)) (cs : List (Uid × EjectChange)) (found : Result (List (Uid × List ℕ)) ℕ) → found ≡ Ok kept
    → IsAnyOf kept cs found
none-made kept [] found is = is
none-made kept (c ∷ cs) found is = inl (none-made kept cs found is)

more-made : (kept : List (Uid × List ℕ)) (cs more : List (Uid × EjectChange)) (found : Result (List (Uid × List ℕ)) ℕ)
    → IsAnyOf kept cs found → IsAnyOf kept (cs ++ more) found
more-made kept [] more found is = none-made kept more found is
more-made kept (c ∷ cs) more found (inl is) = inl (more-made kept cs more found is)
more-made kept (c ∷ cs) more found (inr is) = inr (more-made (changed_map c kept) cs more found is)

more-for : (kept : Option (List (Uid × List ℕ))) (cs more : List (Uid × EjectChange)) (found : Result (List (Uid × List ℕ)) ℕ)
    → StandsFor kept cs found → StandsFor kept (cs ++ more) found
more-for None cs more found is = is
more-for (Some kept) cs more found is = more-made kept cs more found is

pub stands-more : (layout : Layout) (n : ℕ) (more : List (Uid × EjectChange)) (s : Standing) (image : List ℕ) → Stands layout n s image
    → Stands layout n (with_changes more s) image
stands-more layout n more s image is = more-for s.kept s.changes more (found_in layout n image) is

-- 2. The clocks of a run

pub run-timed : (layout : Layout) (n : ℕ) (run : List Step) (old new : Told) (before after : ℕ)
    → RunOnDisk layout n run old before new after → Timed before old after new
run-timed layout n [] old new before after r = subst (λ t. Timed before old after t) (sym r.0)
    (record { acts = []; image = refl; since = refl; order = omega (arith, r.1) })
run-timed layout n (s ∷ run) old new before after (mid, between, one, more) = timed_join before between after old mid new one.timed
    (run-timed layout n run mid new between after more)

-- an entry with device calls is on the disk
on-disk : (layout : Layout) (n : ℕ) (s : Step) (old new : Told) (before after : ℕ) → StepOnDisk layout n s old before new after
    → before < after → (s.entry.node == n) ≡ true
on-disk layout n s old new before after one rises = go (s.entry.node == n) refl
  where
    go : (b : Bool) → (s.entry.node == n) ≡ b → b ≡ true
    go true is = refl
    go false is = absurd (omega (arith, rises, one.elsewhere is))

past : (layout : Layout) (n : ℕ) (s : Step) (old new : Told) (before after m : ℕ) → StepOnDisk layout n s old before new after
    → before < after → m < after → is_past n m s ≡ true
past layout n s old new before after m one rises h =
    let here : (s.entry.node == n) ≡ true = on-disk layout n s old new before after one rises in
    let clock : s.entry.clock ≡ after = one.shown here in
    rw (here, clock) (grind (arith, nat_tests, h))

not-past : (layout : Layout) (n : ℕ) (s : Step) (old new : Told) (before after m : ℕ) → StepOnDisk layout n s old before new after
    → after ≤ m → is_past n m s ≡ false
not-past layout n s old new before after m one h = go (s.entry.node == n) refl
  where
    go : (b : Bool) → (s.entry.node == n) ≡ b → (b && nat_lt m s.entry.clock) ≡ false
    go false is = refl
    go true is = let clock : s.entry.clock ≡ after = one.shown is in rw clock (grind (arith, nat_tests, h))

-- 3. The state at a device call of a step, and behind it

at-past : (n m : ℕ) (last : World) (s : Step) (run : List Step) → is_past n m s ≡ true → at last (s ∷ run) n m ≡ state_in n s
at-past n m last s run is = ap (λ b. state_before n last (cond b (s ∷ run) (from_past n m run))) is

at-later : (n m : ℕ) (last : World) (s : Step) (run : List Step) → is_past n m s ≡ false → at last (s ∷ run) n m ≡ at last run n m
at-later n m last s run is = ap (λ b. state_before n last (cond b (s ∷ run) (from_past n m run))) is

-- each step begins in the world in which the one before it ended
abbrev pub Joined : World → List Step → World → Type 0
Joined w [] last = last ≡ w
Joined w (s ∷ run) last = (s.world ≡ w) × Joined s.later run last

pub steps-joined : (p : Position) (history : List Entry) → Joined p.world (steps p history) (end_of p history).world
steps-joined p [] = refl
steps-joined p (e ∷ es) = (refl, steps-joined (lead p e) es)

-- 4. What is left behind each call

-- clocks never fall
pub timed-rises : (before after : ℕ) (old new : Told) → Timed before old after new → before ≤ after
timed-rises before after old new t = order_rises (contents old) before after t.acts t.order

-- each image that a crash behind this call may have left stands for the state in this world
abbrev IsReached : Layout → ℕ → World → Told → ℕ → Told → ℕ → Type 0
IsReached layout n w first began old before = (image : List ℕ) → LeftAfter first began old before image → Stands layout n (state w n) image

-- what was reached before a step is reached behind it
step-reached : (layout : Layout) (n : ℕ) (s : Step) (first old new : Told) (began before after : ℕ)
    → StepOnDisk layout n s old before new after → Timed began first before old
    → IsReached layout n s.world first began old before → IsReached layout n s.later first began new after
step-reached layout n s first old new began before after one earlier here image left = elim (cases_lt before after) [
  | inl rises ↦ one.behind rises image (after_later began before after first old new image earlier one.timed.acts one.timed.since rises
      left)
  | inr not_below ↦
      let same : after ≡ before = omega (arith, not_below, timed-rises before after old new one.timed) in
      let at_clock : LeftAfter first began new before image = subst (λ m. LeftAfter first began new m image) same left in
      one.level same image (here image ((after_earlier began before after before first old new image earlier one.timed (omega arith)).0
      at_clock))
]

-- 5. Behind each call

-- at a call of this step, or at the clock before it
behind-here : (layout : Layout) (n : ℕ) (last : World) (added : Added) (s : Step) (run : List Step) (first old mid new : Told)
    (began before between after : ℕ) (m : ℕ) (image : List ℕ)
    → StepOnDisk layout n s old before mid between → Timed began first before old → Timed between mid after new
    → IsReached layout n s.world first began old before
    → before ≤ m → m < between → LeftAfter first began new m image
    → Stands layout n (with_changes (added n m) (at last (s ∷ run) n m)) image
behind-here layout n last added s run first old mid new began before between after m image one earlier later here low high left =
    let rises : before < between = omega (arith, low, high) in
    let whole : Timed began first between mid = timed_join began before between first old mid earlier one.timed in
    let then_left : LeftAfter first began mid m image =
    (after_earlier began between after m first mid new image whole later (omega (arith, high))).0 left in
    let state_is : at last (s ∷ run) n m ≡ state_in n s = at-past n m last s run
    (past layout n s old mid before between m one rises high) in
    subst (λ x. Stands layout n (with_changes (added n m) x) image) (sym state_is)
    (stands-more layout n (added n m) (state_in n s) image (elim (cases_lt before m) [
      | inl inside ↦ each_moment_behind (Stands layout n (state_in n s)) old mid before m image (one.moments rises)
          (after_later began before m first old mid image earlier one.timed.acts one.timed.since inside then_left)
      | inr edge ↦
          let same : m ≡ before = omega (arith, low, edge) in
          let at_clock : LeftAfter first began mid before image = subst (λ k. LeftAfter first began mid k image) same then_left in
          stands-more layout n (epoch_put n s.world s.entry.event) (state s.world n) image
          (here image ((after_earlier began before between before first old mid image earlier one.timed (omega arith)).0 at_clock))
    ]))

-- at the end
behind-end : (layout : Layout) (n : ℕ) (last : World) (added : Added) (first old new : Told) (began before after m : ℕ) (image : List ℕ)
    → EndsOnDisk layout n last added old before new after → Timed began first before old → IsReached layout n last first began old before
    → before ≤ m → m ≤ after → LeftAfter first began new m image → Stands layout n (with_changes (added n m) (state last n)) image
behind-end layout n last added first old new began before after m image ends earlier here low high left = elim (cases_lt before m) [
  | inl inside ↦ each_moment_behind (Stands layout n (with_changes (added n m) (state last n))) old new before m image
      (ends.moments m inside high)
      (after_later began before m first old new image earlier ends.timed.acts ends.timed.since inside left)
  | inr edge ↦
      let same : m ≡ before = omega (arith, low, edge) in
      let at_clock : LeftAfter first began new before image = subst (λ k. LeftAfter first began new k image) same left in
      stands-more layout n (added n m) (state last n) image
      (here image ((after_earlier began before after before first old new image earlier ends.timed (omega arith)).0 at_clock))
]

behind-all : (layout : Layout) (n : ℕ) (last : World) (added : Added) (run : List Step) (w : World) (first old told new : Told)
    (began before clock after m : ℕ) (image : List ℕ)
    → Joined w run last → RunOnDisk layout n run old before told clock → EndsOnDisk layout n last added told clock new after
    → Timed began first before old
    → IsReached layout n w first began old before → before ≤ m → m ≤ after → LeftAfter first began new m image
    → Stands layout n (with_changes (added n m) (at last run n m)) image
behind-all layout n last added [] w first old told new began before clock after m image joined r ends earlier here low high left =
    behind-end layout n last added first old new began before after m image
    (subst (λ c. EndsOnDisk layout n last added old c new after) r.1
    (subst (λ t. EndsOnDisk layout n last added t clock new after) r.0 ends)) earlier
    (subst (λ x. IsReached layout n x first began old before) (sym joined) here) low high left
behind-all layout n last added (s ∷ run) w first old told new began before clock after m image joined
    (mid, between, one, more) ends earlier here low high left =
    let whole : Timed began first between mid = timed_join began before between first old mid earlier one.timed in
    let reached : IsReached layout n s.world first began old before = subst (λ x. IsReached layout n x first began old before)
    (sym joined.0) here in
    let later : Timed between mid after new = timed_join between clock after mid told new
    (run-timed layout n run mid told between clock more) ends.timed in
    elim (cases_lt m between) [
      | inl under ↦ behind-here layout n last added s run first old mid new began before between after m image one earlier later reached low
          under left
      | inr over ↦ subst (λ x. Stands layout n (with_changes (added n m) x) image)
          (sym (at-later n m last s run (not-past layout n s old mid before between m one over)))
          (behind-all layout n last added run s.later first mid told new began between clock after m image joined.1 more ends whole
          (step-reached layout n s first old mid began before between one earlier reached) over high left)
    ]

-- 6. In the middle of each

within-all : (layout : Layout) (n : ℕ) (last : World) (added : Added) (run : List Step) (first old told new : Told)
    (began before clock after m : ℕ) (image : List ℕ)
    → RunOnDisk layout n run old before told clock → EndsOnDisk layout n last added told clock new after → Timed began first before old
    → before < m → m ≤ after → LeftIn first began new m image → Stands layout n (with_changes (added n m) (at last run n (m - 1))) image
within-all layout n last added [] first old told new began before clock after m image r ends earlier low top left =
    let e : EndsOnDisk layout n last added old before new after = subst (λ c. EndsOnDisk layout n last added old c new after) r.1
    (subst (λ t. EndsOnDisk layout n last added t clock new after) r.0 ends) in
    each_moment_within (Stands layout n (with_changes (added n m) (state last n))) old new before m image (e.moments m low top)
    (in_later began before m first old new image earlier e.timed.acts e.timed.since low left)
within-all layout n last added (s ∷ run) first old told new began before clock after m image
    (mid, between, one, more) ends earlier low top left =
    let whole : Timed began first between mid = timed_join began before between first old mid earlier one.timed in
    let later : Timed between mid after new = timed_join between clock after mid told new
    (run-timed layout n run mid told between clock more) ends.timed in
    elim (cases_lt between m) [
      | inl over ↦ subst (λ x. Stands layout n (with_changes (added n m) x) image)
          (sym (at-later n (m - 1) last s run (not-past layout n s old mid before between (m - 1) one (omega (arith, over)))))
          (within-all layout n last added run first mid told new began between clock after m image more ends whole over top left)
      | inr high ↦
          let rises : before < between = omega (arith, low, high) in
          let state_is : at last (s ∷ run) n (m - 1) ≡ state_in n s = at-past n (m - 1) last s run
          (past layout n s old mid before between (m - 1) one rises (omega (arith, low, high))) in
          subst (λ x. Stands layout n (with_changes (added n m) x) image) (sym state_is)
          (stands-more layout n (added n m) (state_in n s) image
          (each_moment_within (Stands layout n (state_in n s)) old mid before m image (one.moments rises)
          (in_later began before m first old mid image earlier one.timed.acts one.timed.since low
          ((in_earlier began between after m first mid new image whole later high).0 left))))
    ]

-- 7. The clocks of its entries

one-clock : (layout : Layout) (n : ℕ) (s : Step) (old new : Told) (began before between ended : ℕ)
    → StepOnDisk layout n s old before new between
    → began ≤ between → between ≤ ended → s.entry.node ≡ n → (began ≤ s.entry.clock) × (s.entry.clock ≤ ended)
one-clock layout n s old new began before between ended one low high here =
    let is : s.entry.clock ≡ between = one.shown (eq-eqb s.entry.node n here) in
    (omega (arith, is, low), omega (arith, is, high))

run-clocks : (layout : Layout) (n began ended : ℕ) (run : List Step) (old new : Told) (before after : ℕ) → began ≤ before → after ≤ ended
    → RunOnDisk layout n run old before new after
    → AllByRecursion (λ s. s.entry.node ≡ n → (began ≤ s.entry.clock) × (s.entry.clock ≤ ended)) run
run-clocks layout n began ended [] old new before after low high r = tt
run-clocks layout n began ended (s ∷ run) old new before after low high (mid, between, one, more) =
    let first : before ≤ between = timed-rises before between old mid one.timed in
    let second : between ≤ after = timed-rises between after mid new (run-timed layout n run mid new between after more) in (
      one-clock layout n s old mid began before between ended one (omega (arith, low, first)) (omega (arith, second, high)),
      run-clocks layout n began ended run mid new between after (omega (arith, low, first)) high more,
    )

-- 8. The law

pub runs-stand : RunsStand
runs-stand layout n p history added d last clock first run ends =
    let nothing : Timed d.first.clock d.before d.first.clock d.before =
    record { acts = []; image = refl; since = refl; order = omega arith } in
    record {
      same = timed_join d.first.clock clock d.last.clock d.before last d.after whole ends.timed;
      clocks = All-from_recursion (ShowsItsClock n d) (steps p history)
          (run-clocks layout n d.first.clock d.last.clock (steps p history) d.before last d.first.clock clock (omega arith)
          (timed-rises clock d.last.clock last d.after ends.timed) run);
      behind = λ m image low high left. behind-all layout n (end_of p history).world added
          (steps p history) p.world d.before d.before last d.after
          d.first.clock d.first.clock clock d.last.clock m image
          (steps-joined p history) run ends nothing (λ i l. first i (reached-first d.before d.first.clock i l)) low high left;
      within = λ m image low high left. within-all layout n (end_of p history).world added (steps p history) d.before d.before last d.after
          d.first.clock d.first.clock clock d.last.clock m image run ends nothing low high left;
    }
  where
    whole : Timed d.first.clock d.before clock last
    whole = run-timed layout n (steps p history) d.before last d.first.clock clock run

    reached-first : (t : Told) (c : ℕ) (i : List ℕ) → LeftAfter t c t c i → Left (contents t) i
    reached-first t c i l = (subst (λ acts. LeftBehind (contents t) c acts c i) (since_is t t [] refl) l).1
