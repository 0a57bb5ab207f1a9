-- From what an entry does at a node to a step of the run, and runs one behind another.
use Rattle.std.proofs.Common.{◌≡◌, ℕ, ◌<◌, ◌==◌, nat_lt, true, false, cond, List, [], ◌∷◌, ◌++◌, Option, None, Some, refl, sym, ap}
use Rattle.std.proofs.Common.{subst, ◌∙◌, arith}
use Rattle.std.specs.Prelude.{IfSome}
use Rattle.std.proofs.lemmas.Bool.Decides.{nat_tests}
use Rattle.std.proofs.lemmas.Bool.{false≢true}
use Rattle.capability.specs.declared.Uid.{Uid}
use Rattle.eden_model.specs.Map.{with_item}
use Rattle.eden_disk.specs.Told.{Told, EachMoment}
use Rattle.eden_disk.specs.Timed.{Timed}
use Rattle.passive_store.specs.Kept.{Layout}
use Rattle.journal.specs.EjectChange.{EjectChange}
use Rattle.journal.specs.declared.event.Entry.{Entry}
use Rattle.journal.specs.World.{World, Node, node_at}
use Rattle.journal.specs.Run.{Position, Step, steps, end_of, lead}
use Rattle.journal.specs.Standing.{Stands, Added, state, epoch_put, with_changes, unfinished, unfinished_at, is_past_last}
use Rattle.checkpoint.specs.Throughout.{StepOnDisk, RunOnDisk, EndsOnDisk}
use Rattle.checkpoint.specs.StoreStands.{state_of, NodeOnDisk}

state-at : (w : World) (n : ℕ) (it : Node) → node_at w n ≡ Some it → state w n ≡ state_of n it
state-at w n it is = ap (λ o. with_item o (λ x. state_of n x) (record { kept = None; changes = [] })) is

-- 1. An entry on the disk of node n

pub lift-node : (layout : Layout) (n : ℕ) (s : Step) (it later : Node) (put : List (Uid × EjectChange)) (old new : Told) (before after : ℕ)
    → node_at s.world n ≡ Some it → node_at s.later n ≡ Some later → epoch_put n s.world s.entry.event ≡ put
    → ((s.entry.node == n) ≡ true → s.entry.clock ≡ after) → ((s.entry.node == n) ≡ false → after ≡ before)
    → NodeOnDisk layout n it put later old before new after → StepOnDisk layout n s old before new after
lift-node layout n s it later put old new before after is is_later puts shown elsewhere d = record {
  timed = d.timed;
  shown = shown;
  elsewhere = elsewhere;
  moments = λ rises. subst (λ x. EachMoment (Stands layout n x) old new)
      (sym (ap (with_changes (epoch_put n s.world s.entry.event)) (state-at s.world n it is)
      ∙ ap (λ cs. with_changes cs (state_of n it)) puts)) d.moments;
  behind = λ rises image left. subst (λ x. Stands layout n x image) (sym (state-at s.later n later is_later)) (d.behind rises image left);
  level = λ same image stood. subst (λ x. Stands layout n x image) (sym (state-at s.later n later is_later))
      (d.level same image (subst (λ x. Stands layout n x image) (state-at s.world n it is) stood));
}

-- 2. An entry elsewhere, which leaves what is kept and in doubt here

pub lift-elsewhere : (layout : Layout) (n : ℕ) (s : Step) (told : Told) (clock : ℕ) → (s.entry.node == n) ≡ false
    → state s.later n ≡ state s.world n → StepOnDisk layout n s told clock told clock
lift-elsewhere layout n s told clock other same = record {
  timed = record { acts = []; image = refl; since = refl; order = omega arith };
  shown = λ here. absurd (false≢true (sym other ∙ here));
  elsewhere = λ h. refl;
  moments = λ rises. absurd (omega (arith, rises));
  behind = λ rises image left. absurd (omega (arith, rises));
  level = λ h image stood. subst (λ x. Stands layout n x image) (sym same) stood;
}

-- 3. Runs one behind another

pub run-append : (layout : Layout) (n : ℕ) (run more : List Step) (old mid new : Told) (before between after : ℕ)
    → RunOnDisk layout n run old before mid between → RunOnDisk layout n more mid between new after
    → RunOnDisk layout n (run ++ more) old before new after
run-append layout n [] more old mid new before between after r q = subst (λ c. RunOnDisk layout n more old c new after) r.1
    (subst (λ t. RunOnDisk layout n more t between new after) r.0 q)
run-append layout n (s ∷ run) more old mid new before between after (told, clock, one, r) q =
    (told, clock, one, run-append layout n run more told mid new clock between after r q)

pub steps-append : (p : Position) (es fs : List Entry) → steps p (es ++ fs) ≡ steps p es ++ steps (end_of p es) fs
steps-append p [] fs = refl
steps-append p (e ∷ es) fs = ap (λ l. record { world = p.world; entry = e; later = (lead p e).world } ∷ l) (steps-append (lead p e) es fs)

-- one entry more
pub run-more : (layout : Layout) (n : ℕ) (p : Position) (es : List Entry) (e : Entry) (old mid new : Told) (before between after : ℕ)
    → RunOnDisk layout n (steps p es) old before mid between
    → StepOnDisk layout n (record { world = (end_of p es).world; entry = e; later = (lead (end_of p es) e).world }) mid between new after
    → RunOnDisk layout n (steps p (es ++ e ∷ [])) old before new after
run-more layout n p es e old mid new before between after r one = subst (λ l. RunOnDisk layout n l old before new after)
    (sym (steps-append p es (e ∷ [])))
    (run-append layout n (steps p es) (steps (end_of p es) (e ∷ [])) old mid new before between after r (new, after, one, (refl, refl)))

-- 4. The end of a run: one that was finished, and one that want of memory ended

pub ends-whole : (layout : Layout) (n : ℕ) (last : World) (added : Added) (told : Told) (clock : ℕ)
    → EndsOnDisk layout n last added told clock told clock
ends-whole layout n last added told clock =
    record {
      timed = record { acts = []; image = refl; since = refl; order = omega arith };
      moments = λ m past most. absurd
          (omega (arith, past, most));
    }

added-past : (last : World) (n : ℕ) (it : Node) (m : ℕ) → node_at last n ≡ Some it → is_past_last it m ≡ true
    → unfinished last n m ≡ unfinished_at n it
added-past last n it m is past = ap (λ o. with_item o (λ x. cond (is_past_last x m) (unfinished_at n x) []) []) is
    ∙ ap (λ b. cond b (unfinished_at n it) []) past

-- the clock of the last entry is that of the disk, or there was none
pub past-last : (it : Node) (clock m : ℕ) → IfSome it.clock (λ c. c ≡ clock) → clock < m → is_past_last it m ≡ true
past-last it clock m is past = go it.clock is
  where
    go : (o : Option ℕ) → IfSome o (λ c. c ≡ clock) → with_item o (λ c. nat_lt c m) true ≡ true
    go None is = refl
    go (Some c) is = grind (arith, nat_tests, past, is)

pub ends-unfinished : (layout : Layout) (n : ℕ) (last : World) (it : Node) (old new : Told) (before after : ℕ) → node_at last n ≡ Some it
    → ((m : ℕ) → before < m → is_past_last it m ≡ true)
    → Timed before old after new → EachMoment (Stands layout n (with_changes (unfinished_at n it) (state_of n it))) old new
    → EndsOnDisk layout n last (unfinished last) old before new after
ends-unfinished layout n last it old new before after is past timed moments = record {
  timed = timed;
  moments = λ m h most. subst (λ cs. EachMoment (Stands layout n (with_changes cs (state last n))) old new)
      (sym (added-past last n it m is (past m h)))
      (subst (λ x. EachMoment (Stands layout n (with_changes (unfinished_at n it) x)) old new) (sym (state-at last n it is)) moments);
}
