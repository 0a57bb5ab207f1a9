-- In every world of every history each process that waits for nothing has a turn that can be carried out.
use Rattle.std.proofs.Common.{◌≡◌, ◌-◌, ◌<◌, ◌≤◌, ℕ, zero, suc, true, List, [], ◌∷◌, length, Option, None, Some, is_some, refl, sym, ◌∙◌}
use Rattle.std.proofs.Common.{ap, subst, arith, Bool}
use Rattle.std.specs.Prelude.{IfSome, slice_get}
use Rattle.std.specs.Option.{option_map}
use Rattle.std.specs.Ordering.{nat_cmp}
use Rattle.capability.specs.declared.Uid.{Uid}
use Rattle.eden_value.specs.Datum.{Datum}
use Rattle.eden_model.specs.Map.{with_item, value_at}
use Rattle.eden_model.specs.Crew.{Runs, Holds, Monitor, Condition}
use Rattle.epl_syntax.specs.declared.effect.Answer.{Answer}
use Rattle.epl_syntax.specs.declared.effect.Effect.{Effect}
use Rattle.epl_syntax.specs.declared.effect.Effect.TheVariants as effect
use Rattle.epl_syntax.specs.Edentype.{Edentype, native, declared}
use Rattle.epl_syntax.specs.Natives.{native_turn}
use Rattle.epl_syntax.specs.Tree.{TypeTree}
use Rattle.epl_syntax.specs.Turns.{process_turn}
use Rattle.epl_syntax.specs.Monitors.{inside_rest, monitor_of, Moves, IsAllowed}
use Rattle.epl_syntax.specs.Meaning.{Rest, of_native, of_declared, Turned, turn}
use Rattle.epl_syntax.proofs.GuardedSteps.{turn_stays_guarded}
use Rattle.journal.specs.World.{World, Node, Active, Eject, Task, node_at, site_of, eject_in}
use Rattle.journal.specs.Processes.{turn_of, serving}
use Rattle.journal.specs.LegalRun.{opening_world, last_world}
use Rattle.journal.specs.FitTurns.{HoldsFor, MayStep, TurnsAreFit}
use Rattle.journal.specs.SiteLaws.{EveryTurnIsFit}
use Rattle.history_laws.proofs.CallsKeep.{kept-itself}
use Rattle.history_laws.proofs.EnabledTurns.{creates-known}
use Rattle.history_laws.proofs.NativeTurns.{IsPlain, plain-native}
use Rattle.history_laws.proofs.SeatRuns.{SeatWorld, some-monitor, its-condition, seat-last}
use Rattle.history_laws.proofs.SeatTurns.{PartSeated, settled_so, has_monitor, condition_of, inside_at}
use Rattle.history_laws.proofs.Seats.{IsOpenAt}
use Rattle.history_laws.proofs.TaskParts.{fits-effect}
use Rattle.history_laws.proofs.Tasks.{FitsRest, FitsActive}

-- 1. Places in lists

there : {X : Type 0} (xs : List X) (i : ℕ) → is_some (slice_get xs i) ≡ true → i < length xs
there [] i is = absurd (cc is)
there (x ∷ xs) zero is = omega arith
there (x ∷ xs) (suc i) is = omega (arith, there xs i is)

mapped : {X Y : Type 0} (f : X → Y) (o : Option X) → is_some (option_map f o) ≡ true → is_some o ≡ true
mapped f None is = is
mapped f (Some x) is = refl

-- 2. A process that waits for nothing holds the monitor that it is inside of

module _ (u : Uid) (it : Active) (seated : PartSeated (settled_so u) it) (p : ℕ) (runs : Runs it.crew p) where
  holds-inside : (m : ℕ) → inside_at it.tasks p ≡ Some m → Holds it.crew p m
  holds-inside m is = let x = seated.seated.holds p m (subst IsOpenAt (sym runs) tt) is in record { from = x.0; holder = x.1 }

  has-it : (m : ℕ) → 1 ≤ m → has_monitor it.kind (m - 1) ≡ true → m ≤ length it.crew.monitors
  has-it m from is = let i = there it.crew.monitors (m - 1) (mapped (λ (x : Monitor). x.holder) (slice_get it.crew.monitors (m - 1))
      (seated.monitors (m - 1) ∙ is)) in omega (arith, from, i)

  holds-for : (c m : ℕ) → condition_of it.kind c ≡ Some m → inside_at it.tasks p ≡ Some m → HoldsFor it.crew p c
  holds-for c m of is = go (slice_get it.crew.conditions c) refl (seated.conditions c ∙ of)
    where
      go : (o : Option Condition) → slice_get it.crew.conditions c ≡ o → option_map (λ (x : Condition). x.monitor) o ≡ Some m
          → HoldsFor it.crew p c
      go None at same = absurd (cc same)
      go (Some x) at same = let its : m ≡ x.monitor = (let e : Some x.monitor ≡ Some m = same in cc e) in
          rw at (subst (Holds it.crew p) its (holds-inside m is))

  steps-declared : (earlier : List (List ℕ)) (t : TypeTree) (returns : Bool) (e : Effect) (before after : Option ℕ) → it.kind ≡ declared t
      → inside_at it.tasks p ≡ before → Moves t before e after → IsAllowed earlier t returns e → MayStep it.crew p e
  steps-declared earlier t returns (effect.Lock m) before after kind here moves allowed =
      (allowed.0, has-it m allowed.0 (rw kind (some-monitor (length t.monitors) (m - 1) (omega (arith, allowed.0, allowed.1)))))
  steps-declared earlier t returns (effect.Leave m) before after kind here moves allowed = holds-inside m (here ∙ moves.0)
  steps-declared earlier t returns (effect.Wait c) before after kind here moves allowed =
      holds-for c (monitor_of t c) (rw kind (its-condition t.conditions c allowed.0)) (here ∙ moves.0)
  steps-declared earlier t returns (effect.Signal c) before after kind here moves allowed =
      holds-for c (monitor_of t c) (rw kind (its-condition t.conditions c allowed.0)) (here ∙ moves.0)
  steps-declared earlier t returns _ before after kind here moves allowed = tt

  steps-plain : (e : Effect) → IsPlain e → MayStep it.crew p e
  steps-plain (effect.Lock m) plain = absurd plain
  steps-plain (effect.Leave m) plain = absurd plain
  steps-plain (effect.Wait c) plain = absurd plain
  steps-plain (effect.Signal c) plain = absurd plain
  steps-plain _ plain = tt

  steps-rest : (types : List Edentype) (t : Edentype) (serves : Bool) (vars : List Datum) (rest : Rest) (told : Answer) → it.kind ≡ t
      → inside_at it.tasks p ≡ inside_rest rest → FitsRest types t serves rest → MayStep it.crew p (turn t vars rest told u).effect
  steps-rest types (native n) serves vars (of_native stage) told kind here h =
      steps-plain (native_turn n vars stage told).2 (plain-native n vars stage told)
  steps-rest types (declared t) serves vars (of_declared left) told kind here h =
      let stays = turn_stays_guarded h.earlier t left vars told u h.guarded in
      steps-declared h.earlier t left.returns (process_turn t vars left told u).2 _ _ kind here stays.moves stays.allowed
  steps-rest types (native n) serves vars (of_declared left) told kind here h = absurd h
  steps-rest types (declared t) serves vars (of_native stage) told kind here h = absurd h

  steps-part : (types : List Edentype) (calls : _) (queued : List ℕ) (t : Turned) → turn_of u it p ≡ Some t
      → FitsActive types calls queued it → MayStep it.crew p t.effect
  steps-part types calls queued t is h = go (value_at nat_cmp p it.tasks) refl is
    where
      go : (o : Option Task) → value_at nat_cmp p it.tasks ≡ o
          → with_item o (λ x. Some (turn it.kind it.vars x.rest x.answer u)) None ≡ Some t → MayStep it.crew p t.effect
      go None at same = absurd (cc same)
      go (Some x) at same = subst (λ o. IfSome o (λ (y : Turned). MayStep it.crew p y.effect)) same
          (steps-rest types it.kind _ it.vars x.rest x.answer refl (ap (λ o. with_item o (λ (t : Task). inside_rest t.rest) None) at)
          (h.tasks p x at))

-- 3. Sites

module _ (H : ℕ → Bool) (w : World) (h : SeatWorld H w) (n : ℕ) (it : Node) (at : node_at w n ≡ Some it) where
  fits-there : (u : Uid) (e : Eject) (a : Active) → eject_in (site_of w n it) u ≡ Some e → e.active ≡ Some a
      → FitsActive w.types w.traffic e.queued a
  fits-there u e a is active = subst (λ o. IfSome o (FitsActive w.types w.traffic e.queued)) active
      (h.site.tasks w.traffic (kept-itself w.traffic) n it at u e is)

  seated-there : (u : Uid) (e : Eject) (a : Active) → eject_in (site_of w n it) u ≡ Some e → e.active ≡ Some a
      → PartSeated (settled_so u) a
  seated-there u e a is active = subst (λ o. IfSome o (PartSeated (settled_so u))) active (h.seats n it at u e is)

  fit-there : TurnsAreFit (site_of w n it)
  fit-there = record {
    known = λ u e a p t is active turned. creates-known w.types (is_some (serving a p)) t.effect
        (fits-effect w.types w.traffic e.queued u p a t turned (fits-there u e a is active));
    steps = λ u e a p t is active runs turned. steps-part u a (seated-there u e a is active) p runs w.types w.traffic e.queued t turned
        (fits-there u e a is active);
  }

pub every-turn-is-fit : EveryTurnIsFit
every-turn-is-fit layout script disks history lays fits rules monitors begins = λ n it at. fit-there
    (λ n. is_some (node_at (opening_world layout script disks) n)) (last_world (opening_world layout script disks) script history)
    (seat-last layout script disks history lays fits rules monitors begins) n it at
