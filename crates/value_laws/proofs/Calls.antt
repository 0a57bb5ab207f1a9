-- The targets, the arguments and the results of all calls stay within the limits around every entry.
use Rattle.std.proofs.Common.{◌≡◌, ◌⊎◌, inl, inr, ℕ, List, Option, None, Some, refl, sym, subst}
use Rattle.std.specs.Prelude.{IsSomeAnd, IfSome}
use Rattle.capability.specs.declared.Cap.{Cap}
use Rattle.capability.specs.declared.Uid.{Uid}
use Rattle.eden_value.specs.Datum.{Datum, cap}
use Rattle.eden_value.specs.declared.status.Status.{Status}
use Rattle.eden_model.specs.Crew.{Invocation}
use Rattle.eden_model.specs.Traffic.{Traffic, Call, call_at, answered}
use Rattle.eden_model.specs.declared.Asker.{Asker}
use Rattle.epl_syntax.specs.declared.effect.Effect.{Effect}
use Rattle.epl_syntax.specs.declared.effect.Effect.TheVariants as effect
use Rattle.journal.specs.Processes.{serving}
use Rattle.journal.specs.Step.{Allows, next}
use Rattle.journal.specs.World.{World, Node, Eject, Active, node_at, site_of, eject_in, reaches}
use Rattle.journal.specs.declared.command.Command.{Command}
use Rattle.journal.specs.declared.event.Entry.{Entry}
use Rattle.journal.specs.declared.event.Event.{Event}
use Rattle.journal.specs.declared.event.Event.TheVariants as event
use Rattle.value_laws.specs.Limited.{IsLimited, AreLimited, EffectFits}
use Rattle.value_laws.specs.Worlds.{ActiveLimited, CallLimited}
use Rattle.value_laws.proofs.ActiveParts.{ActiveHolds, turn-left}
use Rattle.value_laws.proofs.AnswerCalls.{GoOn, Was, IsNew, IsNews, MayDo, process_turn-on}
use Rattle.value_laws.proofs.Nodes.{AllHold, EntryHolds, EjectHolds}
use Rattle.value_laws.proofs.WorldCalls.{KeepsTurn, ShellAsks, keeps-next}

-- what may be new of an answer, and of a call
abbrev pub Answered : ℕ → Status → List Datum → Type 0
Answered k s results = AreLimited results

abbrev pub Asked : ℕ → Asker → Cap → List ℕ → List Datum → Type 0
Asked k a target operation args = IsLimited (cap (Some target)) × AreLimited args

abbrev pub CallsLimited : Traffic → Type 0
CallsLimited t = (k : ℕ) (c : Call) → call_at t k ≡ Some c → CallLimited c

news-limited : (k : ℕ) (s : Status) (results : List Datum) → IsNews Answered k s results → AreLimited results
news-limited k s results (inl none) = subst AreLimited (sym none) tt
news-limited k s results (inr x) = x

pub calls-go_on : (t new : Traffic) → GoOn Answered Asked t new → CallsLimited t → CallsLimited new
calls-go_on t new goes h k d is = go (goes.back k d is)
  where
    was : (o : Option Call) → call_at t k ≡ o → IsSomeAnd o (λ c. Was Answered Asked k c d) → CallLimited d
    was None at x = absurd x
    was (Some c) at x = let before = h k c at in record {
      target = subst (λ (u : Cap). IsLimited (cap (Some u))) x.target before.target;
      args = subst AreLimited x.args before.args;
      results = λ s results place. answers s results (x.answer s results place);
    }
      where
        answers : (s : Status) (results : List Datum) → (c.place ≡ answered s results) ⊎ IsNews Answered k s results → AreLimited results
        answers s results (inl y) = (h k c at).results s results y
        answers s results (inr y) = news-limited k s results y

    go : IsSomeAnd (call_at t k) (λ c. Was Answered Asked k c d) ⊎ IsNew Answered Asked k d → CallLimited d
    go (inl x) = was (call_at t k) refl x
    go (inr x) = record {
      target = x.asker.0;
      args = x.asker.1;
      results = λ s results place. news-limited k s results (x.answer s results place);
    }

effect-does : (v : Uid) (p : ℕ) (i : Option Invocation) (e : Effect) → EffectFits e → MayDo Answered Asked v p i e
effect-does v p None (effect.Return results) h = tt
effect-does v p (Some i) (effect.Return results) h = h
effect-does v p i (effect.Invoke target operation args) h = λ k. h
effect-does v p i _ h = tt

-- a turn of a process on a node that holds only values within the limits
turn-keeps : (w : World) (e : Event) → ((n : ℕ) (it : Node) → node_at w n ≡ Some it → AllHold it.ejects) → KeepsTurn Answered Asked w e
turn-keeps w (event.Process v p said) all = λ nd at. process_turn-on Answered Asked (reaches w v.node) v p (site_of w v.node nd)
    (λ e it t is is_it is_t. let x = own nd at e is in
    effect-does v p (serving it p) t.effect (turn-left v it p t is_t x.own (of-active e it is_it x)).effect)
  where
    own : (nd : Node) → node_at w v.node ≡ Some nd → (e : Eject) → eject_in (site_of w v.node nd) v ≡ Some e → EjectHolds v e
    own nd at e is = subst (λ o. EntryHolds v o) is ((all v.node nd at).at v)

    of-active : (e : Eject) (it : Active) → e.active ≡ Some it → EjectHolds v e → ActiveLimited it
    of-active e it is_it x = (subst (λ o. IfSome o ActiveHolds) is_it x.active).limited
turn-keeps w _ all = tt

pub calls-next : (w : World) (c : Option Command) (e : Entry) → ((n : ℕ) (it : Node) → node_at w n ≡ Some it → AllHold it.ejects)
    → IfSome c (ShellAsks Answered Asked w) → Allows w c e → CallsLimited w.traffic → CallsLimited (next w c e).traffic
calls-next w c e all shell allowed h = calls-go_on w.traffic (next w c e).traffic
    (keeps-next Answered Asked w c e (turn-keeps w e.event all) shell allowed) h
