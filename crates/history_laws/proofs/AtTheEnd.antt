-- At the end of a legal run each disk stands for the state of its node.
use Rattle.std.proofs.Common.{◌≡◌, ℕ, suc, ◌≤◌, ◌==◌, Bool, true, false, List, [], ◌∷◌, refl, arith, inl, subst, sym, append-nil, ◌-◌}
use Rattle.std.specs.Prelude.{nat_lt}
use Rattle.std.proofs.lemmas.Bool.Decides.{nat_tests}
use Rattle.std.specs.List.{All}
use Rattle.eden_disk.specs.Told.{Act, Wrote, Synced, Cut, Told, Contents, contents, contents_from, Left}
use Rattle.eden_disk.proofs.Held.{contents_since}
use Rattle.eden_disk.specs.Moments.{LeftBehind, LeftAfter}
use Rattle.eden_disk.proofs.Moments.{since_is}
use Rattle.eden_disk.specs.Timed.{Timed, InOrder}
use Rattle.passive_store.specs.Kept.{Layout}
use Rattle.journal.specs.Run.{Step}
use Rattle.journal.specs.World.{World}
use Rattle.journal.specs.Standing.{DiskRun, Stands, StandsThroughout, ShowsItsClock, state, state_before, at, from_past, is_past}
use Rattle.capability.specs.declared.Uid.{Uid}
use Rattle.journal.specs.EjectChange.{EjectChange}
use Rattle.journal.specs.Standing.{Added, nothing_added, with_changes}
use Rattle.journal.specs.LegalRun.{opening_world, last_world, run_of}
use Rattle.journal.specs.Laws.{DisksStandAtTheEnd, LeavesItsState}

-- behind the last act, what stands there may be left
behind-last : (c : Contents) (began : ℕ) (acts : List Act) (ended : ℕ) (image : List ℕ) → InOrder c began acts ended
    → Left (contents_from c acts) image → LeftBehind c began acts ended image
behind-last c began [] ended image o l = (o, l)
behind-last c began (act ∷ acts) ended image o l = inl (o.0, l)

left-last : (began ended : ℕ) (before after : Told) (image : List ℕ) → Timed began before ended after → Left (contents after) image
    → LeftAfter before began after ended image
left-last began ended before after image t l =
    subst (λ acts. LeftBehind (contents before) began acts ended image) (sym (since_is before after t.acts t.since))
    (behind-last (contents before) began t.acts ended image t.order
    (subst (λ c. Left c image) (contents_since before after t.acts t.image t.since) l))

not-past : (n : ℕ) (d : DiskRun) (s : Step) → ShowsItsClock n d s → is_past n d.last.clock s ≡ false
not-past n d s shows = go (s.entry.node == n) refl
  where
    go : (b : Bool) → (s.entry.node == n) ≡ b → is_past n d.last.clock s ≡ false
    go false e = rw e refl
    go true e =
        let here : s.entry.node ≡ n = grind (arith, nat_tests, e) in
        let most : s.entry.clock ≤ d.last.clock = (shows here).1 in
        let not_later : nat_lt d.last.clock s.entry.clock ≡ false = grind (arith, nat_tests, most) in
        rw (e, not_later) refl

none-past : (n : ℕ) (d : DiskRun) (run : List Step) → All (ShowsItsClock n d) run → from_past n d.last.clock run ≡ []
none-past n d [] all = refl
none-past n d (s ∷ run) all =
    rw (not-past n d s (all 0 s (omega arith))) (none-past n d run (λ k other h. all (suc k) other (omega (arith, h))))

rises : (c : Contents) (before after : ℕ) (acts : List Act) → InOrder c before acts after → before ≤ after
rises c before after [] o = o
rises c before after (Wrote k at bytes ∷ acts) o = omega (arith, o.0, rises c before (k - 1) acts o.2)
rises c before after (Synced k ∷ acts) o = omega (arith, o.0, rises c before (k - 1) acts o.2)
rises c before after (Cut k image ∷ acts) o = omega (arith, o.0, rises c before k acts o.2)

stands-last : (layout : Layout) (n : ℕ) (last : World) (cs : List (Uid × EjectChange)) (steps : List Step) (image : List ℕ) → steps ≡ []
    → Stands layout n (with_changes cs (state_before n last steps)) image → Stands layout n (with_changes cs (state last n)) image
stands-last layout n last cs [] image e there = there
stands-last layout n last cs (s ∷ steps) image e there = absurd cc

-- with what is added under way at the last clock
pub left-stands-with : (layout : Layout) (last : World) (run : List Step) (added : Added) (n : ℕ) (d : DiskRun)
    → StandsThroughout layout last run added n d → (image : List ℕ) → Left (contents d.after) image
    → Stands layout n (with_changes (added n d.last.clock) (state last n)) image
left-stands-with layout last run added n d stands image left =
    stands-last layout n last (added n d.last.clock) (from_past n d.last.clock run) image (none-past n d run stands.clocks)
    (stands.behind d.last.clock image (rises (contents d.before) d.first.clock d.last.clock stands.same.acts stands.same.order)
    (omega arith)
    (left-last d.first.clock d.last.clock d.before d.after image stands.same left))

pub left-stands : (layout : Layout) (last : World) (run : List Step) (n : ℕ) (d : DiskRun)
    → StandsThroughout layout last run nothing_added n d → LeavesItsState layout last n d.after
left-stands layout last run n d stands image left =
    subst (λ cs. Stands layout n (record (state last n) { changes = cs }) image) (append-nil (state last n).changes)
    (left-stands-with layout last run nothing_added n d stands image left)

pub at-the-end : DisksStandAtTheEnd
at-the-end layout script disks history legal n d is =
    left-stands layout (last_world (opening_world layout script disks) script history)
    (run_of (opening_world layout script disks) script history) n d (legal.safe.each_disk_stands n d is)
