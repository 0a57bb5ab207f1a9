-- Want of memory in a turn: there is no entry, and each disk stands for the last world at each moment behind its last entry.
use Rattle.std.proofs.Common.{◌≡◌, ℕ, suc, ◌==◌, ◌≤◌, Bool, true, false, List, [], Option, Some, refl, sym, ◌∙◌, subst, arith, None}
use Rattle.std.proofs.lemmas.Bool.{eqb-true}
use Rattle.std.proofs.lemmas.List.{append-nil}
use Rattle.eden_disk.specs.Told.{EachMoment, LeavesOnly, contents}
use Rattle.eden_disk.proofs.Held.{moments_weaker}
use Rattle.passive_store.specs.Kept.{Layout}
use Rattle.journal.specs.World.{World, Node, node_at, site_of}
use Rattle.journal.specs.Opening.{IsToldFor}
use Rattle.journal.specs.Standing.{Standing, Stands, with_changes, unfinished, unfinished_at}
use Rattle.checkpoint.specs.StoreStands.{state_of}
use Rattle.checkpoint.specs.Throughout.{EndsOnDisk}
use Rattle.checkpoint.specs.Turns.{ClockStands}
use Rattle.checkpoint.proofs.Lifts.{ends-unfinished, ends-whole, past-last}
use Rattle.checkpoint.proofs.Throughout.{stands-more}
use Rattle.eden_kernel.specs.DiskTurns.{Starves}
use Rattle.eden_kernel.specs.Stands.{Held, NodeStands}
use Rattle.eden_kernel.specs.Turns.{clock_of}
use Rattle.eden_world.specs.Worlds.{Seat, up, InHand, IsNumber, WorldStands}
use Rattle.eden_world.specs.Steps.{disk_of, DiskEnds, SeatEnds, EachEnds}
use Rattle.eden_world.proofs.InWorld.{IsThere, sits-there}
use Rattle.eden_world.proofs.SeatRoom.{kept-less, seat-room, told-less}
use Rattle.eden_world.proofs.TurnEntries.{IsUp, is-up}

none-added : (layout : Layout) (n : ℕ) (st : Standing) (image : List ℕ) → Stands layout n (with_changes [] st) image
    → Stands layout n st image
none-added layout n st image = subst (λ cs. Stands layout n (record st { changes = cs }) image) (append-nil st.changes)

both-ends : (layout : Layout) (more n : ℕ) (w : World) (o p : Option Seat) (a b : Seat) → o ≡ Some a → p ≡ Some b
    → DiskEnds layout more n w (disk_of a) (disk_of b) → SeatEnds layout more n w o p
both-ends layout more n w o p a b is_a is_b ends = subst (λ x. SeatEnds layout more n w x p) (sym is_a)
    (subst (λ y. SeatEnds layout more n w (Some a) y) (sym is_b) ends)

still-ends : (layout : Layout) (more : ℕ) (old new : InHand) (w : World) (m : ℕ) → WorldStands layout (suc more) old w
    → new.seats m ≡ old.seats m → SeatEnds layout more m w (old.seats m) (new.seats m)
still-ends layout more old new w m stands same = by_seat (old.seats m) refl
  where
    on : IsThere layout (suc more) old w m → SeatEnds layout more m w (old.seats m) (new.seats m)
    on here = both-ends layout more m w (old.seats m) (new.seats m) here.seat here.seat here.sits (same ∙ here.sits) (record {
      ends = ends-whole layout m w (unfinished w) (disk_of here.seat).told (disk_of here.seat).counts.clock;
      room = told-less layout m (suc more) more (disk_of here.seat).told (omega arith)
          (seat-room layout old.types old.mail (suc more) (site_of w m here.it) here.seat here.stands);
    })

    by_seat : (o : Option Seat) → old.seats m ≡ o → SeatEnds layout more m w (old.seats m) (new.seats m)
    by_seat None none = subst (λ x. SeatEnds layout more m w x (new.seats m)) (sym none) tt
    by_seat (Some seat) sits = on (sits-there layout (suc more) old w m seat stands sits)

-- in an activation, or in a turn of the store
pub turn-starves : (layout : Layout) (more : ℕ) (old new : InHand) (w : World) (n : ℕ) (h x : Held) → WorldStands layout (suc more) old w
    → IsNumber n → old.seats n ≡ Some (up h) → new.seats n ≡ Some (up x) → ((m : ℕ) → (m == n) ≡ false → new.seats m ≡ old.seats m)
    → ((it : Node) → node_at w n ≡ Some it → 1 ≤ h.seen.more → NodeStands layout old.types h old.mail (site_of w n it)
    → Starves layout (site_of w n it) h.seen x.seen) → EachEnds layout more w old new
turn-starves layout more old new w n h x stands is_number sits here others starves m number = go (m == n) refl
  where
    was : IsUp layout (suc more) old w n h
    was = is-up layout (suc more) old w n h stands sits

    its : Starves layout (site_of w n was.it) h.seen x.seen
    its = starves was.it was.at (omega (arith, was.stands.told)) was.stands.stands

    node_is : h.seen.node ≡ n
    node_is = sym was.stands.whole.number ∙ was.stands.number

    clock_is : ClockStands was.it.clock (clock_of h)
    clock_is = subst (λ o. ClockStands o (clock_of h)) (sym was.stands.stands.disk.its_clock) refl

    moments : EachMoment (Stands layout n (with_changes [] (state_of n was.it))) h.seen.disk.told x.seen.disk.told
    moments = subst (λ j. EachMoment (Stands layout j (with_changes [] (state_of j was.it))) h.seen.disk.told x.seen.disk.told) node_is
        its.moments

    ends : EndsOnDisk layout n w (unfinished w) h.seen.disk.told (clock_of h) x.seen.disk.told (clock_of x)
    ends = ends-unfinished layout n w was.it h.seen.disk.told x.seen.disk.told (clock_of h) (clock_of x) was.at
        (λ j rises. past-last was.it (clock_of h) j clock_is rises) its.timed
        (moments_weaker (Stands layout n (with_changes [] (state_of n was.it)))
        (Stands layout n (with_changes (unfinished_at n was.it) (state_of n was.it))) h.seen.disk.told x.seen.disk.told
        (λ image stood. stands-more layout n (unfinished_at n was.it) (state_of n was.it) image
        (none-added layout n (state_of n was.it) image stood)) moments)

    room : LeavesOnly (IsToldFor layout n more) (contents x.seen.disk.told)
    room = subst (λ j. LeavesOnly (IsToldFor layout j more) (contents x.seen.disk.told)) node_is
        (kept-less layout h.seen.node h.seen.more more x.seen.disk.told (omega (arith, was.stands.told)) its.room)

    go : (b : Bool) → (m == n) ≡ b → SeatEnds layout more m w (old.seats m) (new.seats m)
    go false apart = still-ends layout more old new w m stands (others m apart)
    go true is = subst (λ j. SeatEnds layout more j w (old.seats j) (new.seats j)) (sym (eqb-true m n is))
        (both-ends layout more n w (old.seats n) (new.seats n) (up h) (up x) sits here (record { ends = ends; room = room }))
