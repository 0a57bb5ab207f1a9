-- The disk at a place of a program: as it was handed in, what a run did to it and shows of it, and as it is given back.
use Rattle.std.proofs.Common.{◌≡◌, ◌≤◌, inl, inr, ℕ, suc, Bool, true, false, List, length, Option, None, Some, is_some, refl, sym}
use Rattle.std.proofs.Common.{◌∙◌, ap, subst, arith}
use Rattle.std.specs.Prelude.{IfSome, IsSomeAnd, slice_get}
use Rattle.std.specs.Option.{option_map}
use Rattle.std.specs.Ordering.{nat_cmp}
use Rattle.eden_model.specs.Map.{value_at}
use Rattle.epl_syntax.specs.Rules.OfTypes.{TypeList}
use Rattle.passive_store.specs.Kept.{Layout}
use Rattle.passive_store.specs.Seen.{Seen, DiskSeen}
use Rattle.journal.specs.declared.event.Entry.{Entry}
use Rattle.journal.specs.LegalRun.{numbered}
use Rattle.journal.specs.Run.{Step}
use Rattle.journal.specs.Standing.{DiskRun}
use Rattle.journal.specs.World.{World, Node, node_at, site_of}
use Rattle.disk_faults.specs.Runs.{EntryShows}
use Rattle.disk_faults.specs.Shows.{IsLeftOf}
use Rattle.eden_world.specs.InHand.{Did, Ends, place_at, seen_at}
use Rattle.eden_world.specs.Legal.{disk_run, disk_runs}
use Rattle.eden_world.specs.Seated.{AreGiven, Begins, EachShows, KeepsDisks, StaysSo}
use Rattle.eden_world.specs.Steps.{SeatEnds, SeatStep, disk_of}
use Rattle.eden_world.specs.Worlds.{Seat, up, down, InHand, IsNumber, SeatStands, WorldStands}
use Rattle.eden_world.specs.declared.World.{World as Program}
use Rattle.eden_world.proofs.AlongRuns.{EachEndsOn, EachOn, EndsOn, StepOn}
use Rattle.eden_world.proofs.Closing.{seat-of}
use Rattle.eden_world.proofs.DiskPairs.{paired}
use Rattle.eden_world.proofs.ShownRuns.{EachLeft, EachShown}
use Rattle.eden_world.proofs.Untouched.{AreLeft}

abbrev pub disk_at : {T D : Type 0} → (T → Seen) → (D → DiskSeen) → ℕ → Program T D → Option DiskSeen
disk_at seen look n p = option_map disk_of (seen_at seen look (place_at p n))

-- 1. What is said of a place is said of its disk

seat-steps : (layout : Layout) (n : ℕ) (s : Step) (o p : Option Seat) → is_some (option_map disk_of o) ≡ true → SeatStep layout n s o p
    → StepOn layout n s (option_map disk_of o) (option_map disk_of p)
seat-steps layout n s None p there one = absurd (let bad : false ≡ true = there in cc bad)
seat-steps layout n s (Some a) None there one = absurd one
seat-steps layout n s (Some a) (Some b) there one = one

seat-ends : (layout : Layout) (more n : ℕ) (w : World) (o p : Option Seat) → is_some (option_map disk_of o) ≡ true
    → SeatEnds layout more n w o p → EndsOn layout n w (option_map disk_of o) (option_map disk_of p)
seat-ends layout more n w None p there one = absurd (let bad : false ≡ true = there in cc bad)
seat-ends layout more n w (Some a) None there one = absurd one
seat-ends layout more n w (Some a) (Some b) there one = one.ends

seat-shows : (obeys : Bool) (n : ℕ) (e : Entry) (o p : Option Seat) → StaysSo (EntryShows obeys n e) o p
    → IfSome (option_map disk_of o) (λ a. IsSomeAnd (option_map disk_of p) (λ b. EntryShows obeys n e a b))
seat-shows obeys n e None p one = tt
seat-shows obeys n e (Some a) None one = absurd one
seat-shows obeys n e (Some a) (Some b) one = one

seat-left : (obeys : Bool) (o p : Option Seat) → AreLeft obeys o p
    → IfSome (option_map disk_of o) (λ a. IfSome (option_map disk_of p) (IsLeftOf obeys a))
seat-left obeys None p one = tt
seat-left obeys (Some a) None one = tt
seat-left obeys (Some a) (Some b) one = one

-- a place does not come to be, and does not go
pub seat-same : (P : DiskSeen → DiskSeen → Type 0) (o p : Option Seat) → StaysSo P o p
    → is_some (option_map disk_of p) ≡ is_some (option_map disk_of o)
seat-same P None p stays = ap (λ q. is_some (option_map disk_of q)) stays
seat-same P (Some a) None stays = absurd stays
seat-same P (Some a) (Some b) stays = refl

pub did-on : {T D : Type 0} (layout : Layout) (seen : T → Seen) (look : D → DiskSeen) (n : ℕ) → IsNumber n
    → EachOn {M = Program T D} layout n (Did layout seen look) (disk_at seen look n)
did-on layout seen look n number old new s there did =
    seat-steps layout n s (seen_at seen look (place_at old n)) (seen_at seen look (place_at new n)) there (did n number)

pub ends-on : {T D : Type 0} (layout : Layout) (seen : T → Seen) (look : D → DiskSeen) (n : ℕ) → IsNumber n
    → EachEndsOn {M = Program T D} layout n (Ends layout seen look) (disk_at seen look n)
ends-on layout seen look n number old new more w there ends =
    seat-ends layout more n w (seen_at seen look (place_at old n)) (seen_at seen look (place_at new n)) there (ends n number)

pub shown-on : {T D : Type 0} (obeys : Bool) (seen : T → Seen) (look : D → DiskSeen) (n : ℕ) → IsNumber n
    → EachShown {M = Program T D} obeys n (EachShows obeys seen look) (disk_at seen look n)
shown-on obeys seen look n number old new e shows =
    seat-shows obeys n e (seen_at seen look (place_at old n)) (seen_at seen look (place_at new n)) (shows n number)

pub left-on : {T D : Type 0} (obeys : Bool) (seen : T → Seen) (look : D → DiskSeen) (n : ℕ) → IsNumber n
    → EachLeft {M = Program T D} obeys (KeepsDisks obeys seen look) (disk_at seen look n)
left-on obeys seen look n number old new left =
    seat-left obeys (seen_at seen look (place_at old n)) (seen_at seen look (place_at new n)) (left.left n number)

-- 2. Before the first event, and at the end

pub first-disk : {T D : Type 0} (seen : T → Seen) (look : D → DiskSeen) (types : TypeList) (before : List D) (p : Program T D)
    → Begins types before p → (m : ℕ) → disk_at seen look (suc m) p ≡ option_map look (slice_get before m)
first-disk {T = T} {D = D} seen look types before p begins m =
    ap (λ o. option_map disk_of (seen_at seen look o)) (begins.seats (suc m)) ∙ go (slice_get before m)
  where
    go : (o : Option D) → option_map disk_of (seen_at seen look (option_map (seat-of {T = T} {D = D}) o)) ≡ option_map look o
    go None = refl
    go (Some d) = refl

-- the disk of a run, as it is at its place in the first program and in the last
pub record IsAtPlace {T D : Type 0} (obeys : Bool) (seen : T → Seen) (look : D → DiskSeen) (first last : Program T D) (n : ℕ)
    (d : DiskRun) : Type 0 where
  pub number : IsNumber n
  pub old : DiskSeen
  pub new : DiskSeen
  pub was : disk_at seen look n first ≡ Some old
  pub is : disk_at seen look n last ≡ Some new
  pub run : d ≡ disk_run obeys old new

pub at-place : {T D : Type 0} (obeys : Bool) (seen : T → Seen) (look : D → DiskSeen) (types : TypeList) (before after : List D)
    (first last : Program T D) (n : ℕ) (d : DiskRun) → length before ≤ 8 → Begins types before first → AreGiven seen look last after
    → value_at nat_cmp n (numbered (disk_runs obeys look before after)) ≡ Some d → IsAtPlace obeys seen look first last n d
at-place obeys seen look types before after first last n d few begins given there =
    let r = paired obeys look before after 1 n d there in
    let number : n ≡ suc r.index = omega (arith, r.number) in
    record {
      number = record { first = omega (arith, number); last = omega (arith, number, r.within, few) };
      old = r.old;
      new = r.new;
      was = ap (λ m. disk_at seen look m first) number ∙ first-disk seen look types before first begins r.index ∙ r.was;
      is = ap (λ m. disk_at seen look m last) number ∙ sym (given r.index) ∙ r.is;
      run = r.run;
    }

-- 3. While the program stands for a world, the clock of a node, if it has one, is that of its disk

seat-clock : (layout : Layout) (more : ℕ) (h : InHand) (w : World) (n : ℕ) (it : Node) (seat : Seat)
    → SeatStands layout h.types h.mail more (site_of w n it) seat → IfSome it.clock (λ c. c ≡ (disk_of seat).counts.clock)
seat-clock layout more h w n it (up a) x =
    subst (λ o. IfSome o (λ c. c ≡ a.seen.disk.counts.clock)) (sym x.stands.disk.its_clock) refl
seat-clock layout more h w n it (down noted d) x = elim x.disk [ inl r ↦ r.2.its_clock | inr b ↦ b.2.its_clock ]

pub clock-stands : (layout : Layout) (more : ℕ) (h : InHand) (w : World) (n : ℕ) (it : Node) (y : DiskSeen) → WorldStands layout more h w
    → node_at w n ≡ Some it → option_map disk_of (h.seats n) ≡ Some y → IfSome it.clock (λ c. c ≡ y.counts.clock)
clock-stands layout more h w n it y is at there = go (h.seats n) (is.nodes n it at) there
  where
    go : (o : Option Seat) → IsSomeAnd o (SeatStands layout h.types h.mail more (site_of w n it)) → option_map disk_of o ≡ Some y
        → IfSome it.clock (λ c. c ≡ y.counts.clock)
    go None x there = absurd x
    go (Some seat) x there = let same : disk_of seat ≡ y = cc there in
        subst (λ (z : DiskSeen). IfSome it.clock (λ c. c ≡ z.counts.clock)) same (seat-clock layout more h w n it seat x)
