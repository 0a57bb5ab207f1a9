-- What an entry does to the disks of the nodes: to one of them what its step says, and to the others nothing.
use Rattle.std.proofs.Common.{◌≡◌, ◌⊎◌, inl, inr, ℕ, ◌==◌, Bool, true, false, Option, Some, refl, sym, ◌∙◌, ap, subst, None}
use Rattle.std.proofs.lemmas.Bool.{eqb-true, eq-eqb}
use Rattle.eden_model.specs.Map.{with_item}
use Rattle.passive_store.specs.Kept.{Layout}
use Rattle.journal.specs.declared.command.Command.{Command}
use Rattle.journal.specs.declared.event.Entry.{Entry}
use Rattle.journal.specs.World.{World, Site, node_at, at_node}
use Rattle.journal.specs.Step.{happened, next}
use Rattle.journal.specs.Run.{Step}
use Rattle.journal.specs.Standing.{state, kept_of_node, nothing_stands}
use Rattle.journal.specs.Settling.{doubts}
use Rattle.history_laws.proofs.Frame.{node-at_other}
use Rattle.checkpoint.specs.Throughout.{StepOnDisk}
use Rattle.checkpoint.proofs.Lifts.{lift-elsewhere}
use Rattle.checkpoint.proofs.WorldTurns.{node-next_other}
use Rattle.eden_world.specs.Worlds.{Seat, InHand, IsNumber, WorldStands}
use Rattle.eden_world.specs.Steps.{disk_of, step_by, SeatStep, EachDisk}
use Rattle.eden_world.proofs.Numbers.{not-zero}

-- the other way round
not-same : (m n : ℕ) → (m == n) ≡ false → (n == m) ≡ false
not-same m n apart = go (n == m) refl
  where
    go : (b : Bool) → (n == m) ≡ b → b ≡ false
    go true is = let bad : true ≡ false = sym (eq-eqb m n (sym (eqb-true n m is))) ∙ apart in cc bad
    go false is = refl

-- the node that it touched, if any
abbrev pub Touches : Entry → ℕ → Type 0
Touches e n = (e.node ≡ n) ⊎ (e.node ≡ 0)

untouched : (e : Entry) (n m : ℕ) → Touches e n → IsNumber m → (m == n) ≡ false → (e.node == m) ≡ false
untouched e n m (inl here) number apart = ap (λ j. j == m) here ∙ not-same m n apart
untouched e n m (inr none) number apart = ap (λ j. j == m) none ∙ not-zero m number

-- what is seen of both places of a node
both-seats : (layout : Layout) (n : ℕ) (s : Step) (o p : Option Seat) (a b : Seat) → o ≡ Some a → p ≡ Some b
    → StepOnDisk layout n s (disk_of a).told (disk_of a).counts.clock (disk_of b).told (disk_of b).counts.clock → SeatStep layout n s o p
both-seats layout n s o p a b is_a is_b step = subst (λ x. SeatStep layout n s x p) (sym is_a)
    (subst (λ y. SeatStep layout n s (Some a) y) (sym is_b) step)

-- a node whose state stays
still-seat : (layout : Layout) (old new : InHand) (s : Step) (m : ℕ) → new.seats m ≡ old.seats m → (s.entry.node == m) ≡ false
    → state s.later m ≡ state s.world m → SeatStep layout m s (old.seats m) (new.seats m)
still-seat layout old new s m seats apart same = go (old.seats m) refl
  where
    go : (o : Option Seat) → old.seats m ≡ o → SeatStep layout m s (old.seats m) (new.seats m)
    go None none = subst (λ x. SeatStep layout m s x (new.seats m)) (sym none) tt
    go (Some seat) sits = both-seats layout m s (old.seats m) (new.seats m) seat seat sits (seats ∙ sits)
        (lift-elsewhere layout m s (disk_of seat).told (disk_of seat).counts.clock apart same)

-- 1. An entry of node n

pub each-disk : (layout : Layout) (more : ℕ) (old new : InHand) (w : World) (c : Option Command) (e : Entry) (n : ℕ) (was seat : Seat)
    → WorldStands layout more old w → old.seats n ≡ Some was → new.seats n ≡ Some seat
    → ((m : ℕ) → (m == n) ≡ false → new.seats m ≡ old.seats m) → Touches e n
    → ((m : ℕ) → IsNumber m → (m == n) ≡ false → state (next w c e) m ≡ state w m)
    → StepOnDisk layout n (step_by w c e) (disk_of was).told (disk_of was).counts.clock (disk_of seat).told (disk_of seat).counts.clock
    → EachDisk layout (step_by w c e) old new
each-disk layout more old new w c e n was seat stands sits here others touches elsewhere step m number = go (m == n) refl
  where
    go : (b : Bool) → (m == n) ≡ b → SeatStep layout m (step_by w c e) (old.seats m) (new.seats m)
    go false apart = still-seat layout old new (step_by w c e) m (others m apart) (untouched e n m touches number apart)
        (elsewhere m number apart)
    go true same = subst (λ j. SeatStep layout j (step_by w c e) (old.seats j) (new.seats j)) (sym (eqb-true m n same))
        (both-seats layout n (step_by w c e) (old.seats n) (new.seats n) was seat sits here step)

-- where it changed one node alone, the states of the others stay
pub state-same : (n : ℕ) (w v : World) → node_at v n ≡ node_at w n → state v n ≡ state w n
state-same n w v same = ap (λ o. with_item o (λ it. record { kept = kept_of_node n it; changes = doubts n it }) nothing_stands) same

pub states-elsewhere : (w : World) (c : Option Command) (e : Entry) (n : ℕ) (f : Site → Site) → happened w c e.event ≡ at_node n f w
    → Touches e n → (m : ℕ) → IsNumber m → (m == n) ≡ false → state (next w c e) m ≡ state w m
states-elsewhere w c e n f happens touches m number apart = state-same m w (next w c e)
    (node-next_other m w c e (not-same e.node m (untouched e n m touches number apart))
    ∙ ap (λ v. node_at v m) happens ∙ node-at_other m n f w apart)

-- 2. An entry of none

pub no-disk : (layout : Layout) (more : ℕ) (old new : InHand) (s : Step) → WorldStands layout more old s.world
    → ((m : ℕ) → new.seats m ≡ old.seats m) → s.entry.node ≡ 0 → ((m : ℕ) → node_at s.later m ≡ node_at s.world m)
    → EachDisk layout s old new
no-disk layout more old new s stands seats none same m number =
    still-seat layout old new s m (seats m) (ap (λ j. j == m) none ∙ not-zero m number)
    (state-same m s.world s.later (same m))
