-- A call that waits for no answer any more waits for none behind an entry: a call that is new has a number that none had.
use Rattle.std.proofs.Common.{◌≡◌, ◌⊎◌, inl, inr, ℕ, Bool, true, List, Option, None, Some, refl, ap, sym, ◌∙◌, subst, arith}
use Rattle.std.specs.Prelude.{IsSomeAnd, IfSome}
use Rattle.capability.specs.declared.Uid.{Uid}
use Rattle.capability.specs.declared.Cap.{Cap}
use Rattle.eden_value.specs.Datum.{Datum}
use Rattle.eden_value.specs.declared.status.Status.{Status}
use Rattle.eden_model.specs.Map.{with_item}
use Rattle.eden_model.specs.Crew.{Invocation}
use Rattle.eden_model.specs.declared.Asker.{Asker}
use Rattle.eden_model.specs.declared.Asker.TheVariants.{Shell, Eject as Process}
use Rattle.eden_model.specs.Traffic.{Traffic, Call, call_at, next_call, with_call}
use Rattle.epl_syntax.specs.declared.effect.Effect.{Effect}
use Rattle.epl_syntax.specs.declared.effect.Effect.TheVariants as effect
use Rattle.epl_syntax.specs.Meaning.{Turned}
use Rattle.journal.specs.Commands.{AllowsCommand, AllowsAsked, ready_call, asked as asks}
use Rattle.journal.specs.declared.command.Command.{Command}
use Rattle.journal.specs.declared.command.Command.TheVariants as command
use Rattle.journal.specs.declared.event.Event.{Event}
use Rattle.journal.specs.declared.event.Event.TheVariants as event
use Rattle.journal.specs.declared.event.Entry.{Entry}
use Rattle.journal.specs.World.{World, Site, Eject, Active, site_of, eject_in, on_eject, reaches}
use Rattle.journal.specs.Ejects.{on_active}
use Rattle.journal.specs.Processes.{turn_of, turned, serving, effected, process_turn, refused_at_once, waits_or_told}
use Rattle.journal.specs.Step.{AllowsEvent, Allows, next, happened, after_command, key_of}
use Rattle.history_laws.proofs.CutOff.{traffic-counted}
use Rattle.history_laws.proofs.Frame.{traffic-on_eject, traffic-on_traffic}
use Rattle.history_laws.proofs.SeatRuns.{SeatWorld}
use Rattle.history_laws.proofs.Times.{none-behind}
use Rattle.value_laws.proofs.AnswerCalls.{GoOn, Was, IsNew, MayDo, on-same, on-call, process_turn-on, unanswered}
use Rattle.value_laws.proofs.WorldCalls.{KeepsTurn, ShellAsks, keeps-next}
use Rattle.stream_laws.proofs.Items.{same-some}
use Rattle.stream_laws.proofs.Sites.{turn-is}

module _ (H : ℕ → Bool) (w : World) (c : Option Command) (e : Entry) (seat : SeatWorld H w) (allowed : Allows w c e) where
  -- an answer that is new may be any
  abbrev AnyAnswer : ℕ → Status → List Datum → Type 0
  AnyAnswer k st results = Unit {0}

  -- and a call that is new was not there
  abbrev IsNumbered : ℕ → Asker → Cap → List ℕ → List Datum → Type 0
  IsNumbered k a target operation args = call_at w.traffic k ≡ None

  abbrev Goes : Traffic → Type 0
  Goes t = GoOn AnyAnswer IsNumbered w.traffic t

  none-next : (k : ℕ) → k ≡ next_call w.traffic → call_at w.traffic k ≡ None
  none-next k is = none-behind 1 w.traffic.calls seat.site.known.numbered k (omega (arith, is))

  -- 1. A turn of a process
  module _ (reach : ℕ → Bool) (v : Uid) (p : ℕ) (s : Site) (same : s.traffic ≡ w.traffic) where
    abbrev Turns : Type 0
    Turns = Goes (process_turn reach v p s).traffic

    by-turn : ((y : Eject) (a : Active) (t : Turned) → eject_in s v ≡ Some y → y.active ≡ Some a → turn_of v a p ≡ Some t
        → MayDo AnyAnswer IsNumbered v p (serving a p) t.effect) → Turns
    by-turn may = subst (λ t. GoOn AnyAnswer IsNumbered t (process_turn reach v p s).traffic) same
        (process_turn-on AnyAnswer IsNumbered reach v p s may)

    module _ (y : Eject) (a : Active) (t : Turned) (is : eject_in s v ≡ Some y) (some : y.active ≡ Some a)
        (turns : turn_of v a p ≡ Some t) where
      -- it calls none
      calls-none : MayDo AnyAnswer IsNumbered v p (serving a p) t.effect → Turns
      calls-none may = by-turn (λ z b u is_z some_z turns_z.
          (let one : y ≡ z = same-some (sym is ∙ is_z) in
          let two : a ≡ b = same-some (sym some ∙ ap (λ (d : Eject). d.active) one ∙ some_z) in
          let three : t ≡ u = same-some (sym turns ∙ ap (λ d. turn_of v d p) two ∙ turns_z) in
          subst (λ d. MayDo AnyAnswer IsNumbered v p (serving d p) u.effect) two
          (subst (λ (d : Turned). MayDo AnyAnswer IsNumbered v p (serving a p) d.effect) three may)))

      -- or it calls
      calls-one : (target : Cap) (operation : List ℕ) (args : List Datum) → t.effect ≡ effect.Invoke target operation args → Turns
      calls-one target operation args eq = subst Goes (sym sent_so)
          (on-call AnyAnswer IsNumbered (next_call w.traffic) (Process v p) target operation args at_once w.traffic
          (none-next (next_call w.traffic) refl))
        where
          at_once : Option Status
          at_once = refused_at_once (reach target.uid.node) args

          mid : Site
          mid = on_eject v (on_active (turned p t)) s

          sent_so : (process_turn reach v p s).traffic
              ≡ with_call (next_call w.traffic) (Process v p) target operation args at_once w.traffic
          sent_so = ap (λ (z : Site). z.traffic) (turn-is reach v p s y a t is some turns)
              ∙ ap (λ eff. (effected reach v p (serving a p) a.kind t.vars eff mid).traffic) eq
              ∙ traffic-on_traffic (λ t. with_call (next_call t) (Process v p) target operation args at_once t)
              (on_eject v (on_active (waits_or_told p at_once)) mid)
              ∙ ap (λ t. with_call (next_call t) (Process v p) target operation args at_once t)
              (traffic-on_eject v (on_active (waits_or_told p at_once)) mid ∙ traffic-on_eject v (on_active (turned p t)) s ∙ same)

      result : (o : Option Invocation) (results : List Datum) → MayDo AnyAnswer IsNumbered v p o (effect.Return results)
      result None results = tt
      result (Some i) results = tt

      by : (eff : Effect) → t.effect ≡ eff → Turns
      by (effect.Invoke target operation args) eq = calls-one target operation args eq
      by (effect.Return results) eq = calls-none (subst (MayDo AnyAnswer IsNumbered v p (serving a p)) (sym eq)
          (result (serving a p) results))
      by _ eq = calls-none (subst (MayDo AnyAnswer IsNumbered v p (serving a p)) (sym eq) tt)

    turn-so : Turns
    turn-so = go (eject_in s v) refl
      where
        taken : (y : Eject) → eject_in s v ≡ Some y → (a : Active) → y.active ≡ Some a → (o : Option Turned) → turn_of v a p ≡ o → Turns
        taken y is a some None none = by-turn (λ z b u is_z some_z turns_z. absurd
            (let one : y ≡ z = same-some (sym is ∙ is_z) in
            let two : a ≡ b = same-some (sym some ∙ ap (λ (d : Eject). d.active) one ∙ some_z) in
            let bad : None ≡ Some u = sym none ∙ ap (λ d. turn_of v d p) two ∙ turns_z in cc bad))
        taken y is a some (Some t) turns = by y a t is some turns t.effect refl

        active : (y : Eject) → eject_in s v ≡ Some y → (o : Option Active) → y.active ≡ o → Turns
        active y is None none = by-turn (λ z b u is_z some_z turns_z. absurd
            (let one : y ≡ z = same-some (sym is ∙ is_z) in
            let bad : None ≡ Some b = sym none ∙ ap (λ (d : Eject). d.active) one ∙ some_z in cc bad))
        active y is (Some a) some = taken y is a some (turn_of v a p) refl

        go : (o : Option Eject) → eject_in s v ≡ o → Turns
        go None none = by-turn (λ z b u is_z some_z turns_z. absurd (let bad : None ≡ Some z = sym none ∙ is_z in cc bad))
        go (Some y) is = active y is y.active refl

  turns : (ev : Event) → KeepsTurn AnyAnswer IsNumbered w ev
  turns (event.Process v p said) = λ it at. turn-so (reaches w v.node) v p (site_of w v.node it) refl
  turns _ = tt

  -- 2. Every entry
  calls-on : Goes (next w c e).traffic
  calls-on = go c refl
    where
      other : (o : Option Command) → c ≡ o → IfSome o (ShellAsks AnyAnswer IsNumbered w) → Goes (next w c e).traffic
      other o eq shell = keeps-next AnyAnswer IsNumbered w c e (turns e.event)
          (subst (λ o. IfSome o (ShellAsks AnyAnswer IsNumbered w)) (sym eq) shell) allowed

      go : (o : Option Command) → c ≡ o → Goes (next w c e).traffic
      go None eq = other None eq tt
      go (Some x) eq = by x eq
        where
          -- what comes of a call of the shell
          sends : (x : Command) (ev : Event) → c ≡ Some x → e.event ≡ ev → (next w c e).traffic ≡ (after_command w x ev).traffic
          sends x ev is at = traffic-counted (key_of e.event) e.node e.clock (happened w c e.event)
              ∙ ap (λ o. (happened w o e.event).traffic) is ∙ ap (λ z. (happened w (Some x) z).traffic) at

          by : (x : Command) → c ≡ Some x → Goes (next w c e).traffic
          by (command.Call name target operation args) is = event_so e.event refl
              (subst (λ o. AllowsEvent w o e.event) is allowed.event)
            where
              asking : Command
              asking = command.Call name target operation args

              asked_so : (k : ℕ) (said : List ℕ) (at_once : Option Status) → e.event ≡ event.Asked k said at_once
                  → (o : Option (Cap × List Datum)) → ready_call w asking ≡ o → IsSomeAnd o (λ z. AllowsAsked w k at_once z.0 z.1)
                  → Goes (with_item o (λ z. asks name z.0 operation z.1 k at_once w) w).traffic
              asked_so k said at_once at None ready h = absurd h
              asked_so k said at_once at (Some z) ready h = on-call AnyAnswer IsNumbered k (Shell name) z.0 operation z.1 at_once w.traffic
                  (none-next k h.number)

              event_so : (ev : Event) → e.event ≡ ev → AllowsCommand w asking ev → Goes (next w c e).traffic
              event_so (event.Asked k said at_once) at a = subst Goes (sym (sends asking (event.Asked k said at_once) is at))
                  (asked_so k said at_once at (ready_call w asking) refl a.1)
              event_so (event.Void said) at a = subst Goes (sym (sends asking (event.Void said) is at))
                  (on-same AnyAnswer IsNumbered w.traffic)
              event_so _ at a = absurd a
          by x is = other (Some x) is tt

  -- 3. So it waits no more
  pub once-answered : (k : ℕ) (a d : Call) → call_at w.traffic k ≡ Some a → call_at (next w c e).traffic k ≡ Some d
      → unanswered d.place ≡ true → unanswered a.place ≡ true
  once-answered k a d was is waits = go (calls-on.back k d is)
    where
      go : IsSomeAnd (call_at w.traffic k) (λ b. Was AnyAnswer IsNumbered k b d) ⊎ IsNew AnyAnswer IsNumbered k d
          → unanswered a.place ≡ true
      go (inl h) = (subst (λ o. IsSomeAnd o (λ b. Was AnyAnswer IsNumbered k b d)) was h).waits waits
      go (inr h) = absurd (let bad : None ≡ Some a = sym h.asker ∙ was in cc bad)
