-- A pipeline whose Pump took two items, held against the count: a worked history of a Lines, a Number and a Sink. Wrong counts are refused,
-- and so is a filter that asks once more. Its Pump is the first that the Sink starts, and nothing else is.
use Rattle.std.proofs.Common.{◌≡◌, ◌≢◌, ◌+◌, ◌*◌, ℕ, pos, Bool, true, false, cond, ◌&&◌, List, [], ◌∷◌, take, Option}
use Rattle.std.proofs.Common.{None, Some, is_some, length}
use Rattle.std.proofs.Common.{refl, ap, sym, ◌∙◌, subst, inl, inr}
use Rattle.std.specs.Prelude.{codes, slice_get, IsSomeAnd}
use Rattle.std.specs.Fmt.{digits}
use Rattle.std.specs.Ordering.{nat_cmp, eq_by_cmp}
use Rattle.std.proofs.lemmas.Cmp.{tied_itself}
use Rattle.capability.proofs.Uids.{uid_cmp_total, uid_cmp-IsAntisymmetric}
use Rattle.capability.specs.declared.Uid.{Uid}
use Rattle.capability.specs.Capability.{full}
use Rattle.eden_value.specs.Datum.{number}
use Rattle.eden_model.specs.Crew.{least_number}
use Rattle.eden_model.specs.declared.Asker.TheVariants.{Eject as Process}
use Rattle.eden_model.specs.Map.{with_item, same_uid, same_text, uid_cmp}
use Rattle.eden_model.proofs.Laws.{eq-same}
use Rattle.eden_model.proofs.Numbers.{same-true}
use Rattle.eden_model.specs.Traffic.{Traffic, Call, call_at, next_call, with_call}
use Rattle.epl_syntax.specs.declared.effect.Effect.TheVariants as effect
use Rattle.epl_syntax.specs.declared.types.Native.TheVariants as native
use Rattle.epl_syntax.specs.Edentype.{native as native_type}
use Rattle.epl_syntax.specs.Meaning.{Turned, of_native}
use Rattle.epl_syntax.specs.Natives.{first_stage}
use Rattle.epl_syntax.specs.Pipelines.{numbers}
use Rattle.journal.specs.declared.event.Event.{Event}
use Rattle.journal.specs.declared.event.Event.TheVariants as event
use Rattle.journal.specs.declared.event.Shown.TheVariants as shown
use Rattle.journal.specs.Ejects.{fresh}
use Rattle.journal.specs.Processes.{turn_of, serving}
use Rattle.journal.specs.Sites.{active_in}
use Rattle.journal.specs.World.{World, Active, eject_at, at_node, on_eject, on_node, on_traffic}
use Rattle.journal.specs.Run.{Step, beginning, end_of, steps}
use Rattle.journal.proofs.Scenes.{one_node, eject, quiet}
use Rattle.journal.proofs.NumberedStream as stream
use Rattle.stream_laws.specs.Chains.{Chain}
use Rattle.stream_laws.specs.Counts.{transfers_by, transfers_by_all, HaveAsked, StartsPump, StartsNoPump, IsFirstPump, FirstPumpAnswers}
use Rattle.stream_laws.proofs.Items.{some-and, same-texts}
use Rattle.stream_laws.proofs.FirstPump.{one-first}

-- the filter, and the chain
abbrev n : Uid
n = eject 1 2

abbrev chain : Chain
chain = record { lines = eject 1 1; filters = record { uid = n; sieve = numbers } ∷ []; sink = eject 1 3 }

-- the calls of the history
abbrev calls : Traffic
calls = (end_of (beginning one_node 1 stream.commands) stream.history).world.traffic

-- two items took two Transfers of the Sink and two of the filter, four together
pub counted : HaveAsked chain calls 2
unfolding stream.commands stream.history digits at_node on_eject on_node on_traffic least_number
counted = record { sink = refl; filters = (refl, tt); together = refl }

-- it is not one item more, nor one Transfer for each item and filter
pub not_three : HaveAsked chain calls 3 → ⊥
unfolding stream.commands stream.history digits at_node on_eject on_node on_traffic least_number
not_three h = let bad : 2 ≡ 3 = h.sink in cc bad

pub not_by_filters_alone : transfers_by chain.sink calls + transfers_by_all chain.filters calls ≢ length chain.filters * 2
unfolding stream.commands stream.history digits at_node on_eject on_node on_traffic least_number
not_by_filters_alone same = let bad : 4 ≡ 2 = same in cc bad

-- and a filter that asks the Lines once more breaks it
abbrev asked_twice : Traffic
asked_twice = with_call (next_call calls) (Process n 1) (full chain.lines) (codes "Transfer") (number (pos 1) ∷ []) None calls

pub asks_twice : HaveAsked chain asked_twice 2 → ⊥
unfolding stream.commands stream.history digits at_node on_eject on_node on_traffic least_number
asks_twice h = let bad : 3 ≡ 2 = h.filters.0 in cc bad

-- Which Pump is the first

-- the call of the Pump that an event starts
abbrev pump_of : Uid → World → Event → Option ℕ
pump_of u w (event.Start k v p) =
    cond (same_uid v u && with_item (call_at w.traffic k) (λ c. same_text c.operation (codes "Pump")) false) (Some k) None
pump_of u w _ = None

none-of : (u : Uid) (s : Step) → pump_of u s.world s.entry.event ≡ None → (k : ℕ) → StartsPump u k s → ⊥
none-of u s is k x = let bad : Some k ≡ None = sym started ∙ is in cc bad
  where
    own : same_uid u u ≡ true
    own = rw (tied_itself uid_cmp_total u) refl

    d : (c : Call) × (call_at s.world.traffic k ≡ Some c) × (c.operation ≡ codes "Pump")
    d = some-and (call_at s.world.traffic k) x.is_pump

    started : pump_of u s.world s.entry.event ≡ Some k
    started = ap (pump_of u s.world) x.event_is
        ∙ ap (λ b. cond (b && with_item (call_at s.world.traffic k) (λ (c : Call). same_text c.operation (codes "Pump")) false)
        (Some k) None) own
        ∙ ap (λ o. cond (with_item o (λ (c : Call). same_text c.operation (codes "Pump")) false) (Some k) None) d.1
        ∙ ap (λ o. cond (same_text o (codes "Pump")) (Some k) None) d.2

one-of : (u : Uid) (s : Step) (k : ℕ) → pump_of u s.world s.entry.event ≡ Some k → StartsPump u k s
one-of u s k is = go s.entry.event refl is
  where
    started : (j p : ℕ) (v : Uid) → s.entry.event ≡ event.Start j v p → (b : Bool) → same_uid v u ≡ b → (o : Option Call)
        → call_at s.world.traffic j ≡ o → (t : Bool) → with_item o (λ (c : Call). same_text c.operation (codes "Pump")) false ≡ t
        → cond (b && t) (Some j) None ≡ Some k → StartsPump u k s
    started j p v at false apart o is_o t is_t eq = absurd (cc eq)
    started j p v at true same o is_o false is_t eq = absurd (cc eq)
    started j p v at true same None is_o true is_t eq = absurd (cc is_t)
    started j p v at true same (Some c) is_o true is_t eq = record {
      process = p;
      event_is = at ∙ ap (λ z. event.Start j z p) (eq-same uid_cmp uid_cmp-IsAntisymmetric v u same)
          ∙ ap (λ z. event.Start z u p) number;
      is_pump = subst (λ o. IsSomeAnd o (λ (c : Call). c.operation ≡ codes "Pump"))
          (sym (ap (call_at s.world.traffic) (sym number) ∙ is_o)) (same-texts c.operation (codes "Pump") is_t);
    }
      where
        number : j ≡ k
        number = let both : Some j ≡ Some k = eq in cc both

    go : (ev : Event) → s.entry.event ≡ ev → pump_of u s.world ev ≡ Some k → StartsPump u k s
    go (event.Start j v p) at eq = started j p v at (same_uid v u) refl (call_at s.world.traffic j) refl
        (with_item (call_at s.world.traffic j) (λ (c : Call). same_text c.operation (codes "Pump")) false) refl eq
    go _ at eq = absurd (cc eq)

-- whether the first that these steps start is call k
abbrev begins : Uid → ℕ → List Step → Bool
begins u k [] = false
begins u k (s ∷ run) = with_item (pump_of u s.world s.entry.event) (λ j. eq_by_cmp nat_cmp j k) (begins u k run)

-- the newest of them first
abbrev newest_first : List Step → List Step → List Step
newest_first [] past = past
newest_first (s ∷ run) past = newest_first run (s ∷ past)

first-still : (u : Uid) (k : ℕ) (run past : List Step) → IsFirstPump u k past → IsFirstPump u k (newest_first run past)
first-still u k [] past h = h
first-still u k (s ∷ run) past h = first-still u k run (s ∷ past) (inr h)

first-of : (u : Uid) (k : ℕ) (run past : List Step) → StartsNoPump u past → begins u k run ≡ true
    → IsFirstPump u k (newest_first run past)
first-of u k [] past none is = absurd (cc is)
first-of u k (s ∷ run) past none is = go (λ silent more. first-of u k run (s ∷ past) (silent, none) more)
    (pump_of u s.world s.entry.event) refl is
  where
    go : (((j : ℕ) → StartsPump u j s → ⊥) → begins u k run ≡ true → IsFirstPump u k (newest_first run (s ∷ past)))
        → (o : Option ℕ) → pump_of u s.world s.entry.event ≡ o → with_item o (λ j. eq_by_cmp nat_cmp j k) (begins u k run) ≡ true
        → IsFirstPump u k (newest_first run (s ∷ past))
    go later None at eq = later (none-of u s at) eq
    go later (Some j) at eq = first-still u k run (s ∷ past) (inl (one-of u s k (at ∙ ap Some (same-true j k eq)), none))

-- the steps of the history before the Pump is answered
abbrev before : List Step
before = newest_first (take 80 (steps (beginning one_node 1 stream.commands) stream.history)) []

pub is_first : IsFirstPump chain.sink 4 before
unfolding stream.commands stream.history digits at_node on_eject on_node on_traffic least_number
is_first = first-of chain.sink 4 (take 80 (steps (beginning one_node 1 stream.commands) stream.history)) [] tt refl

-- the Open that the Sink started before it is not
pub not_the_open : IsFirstPump chain.sink 3 before → ⊥
not_the_open h = let bad : 3 ≡ 4 = one-first chain.sink 3 4 before h is_first in cc bad

-- and behind these steps that one is answered
abbrev answering : Step
answering = with_item (slice_get (steps (beginning one_node 1 stream.commands) stream.history) 80) (λ s. s)
    (record { world = one_node; entry = quiet; later = one_node })

there : {X : Type 0} (o : Option X) (other : X) → is_some o ≡ true → o ≡ Some (with_item o (λ x. x) other)
there None other is = absurd (cc is)
there (Some x) other is = refl

abbrev at_work : Active
at_work = with_item (active_in (eject_at answering.world chain.sink)) (λ a. a) (fresh (native_type native.Sink) [])

is_at_work : active_in (eject_at answering.world chain.sink) ≡ Some at_work
unfolding stream.commands stream.history digits at_node on_eject on_node on_traffic least_number
is_at_work = there (active_in (eject_at answering.world chain.sink)) (fresh (native_type native.Sink) []) refl

no_turn : Turned
no_turn = record { vars = []; rest = of_native (first_stage native.Sink [] []); effect = effect.Yield }

its_turn : (t : Turned) × (turn_of chain.sink at_work 1 ≡ Some t) × (t.effect ≡ effect.Return (number (pos 0) ∷ number (pos 2) ∷ []))
unfolding stream.commands stream.history digits at_node on_eject on_node on_traffic least_number
its_turn = (with_item (turn_of chain.sink at_work 1) (λ t. t) no_turn, there (turn_of chain.sink at_work 1) no_turn refl, refl)

its_event : answering.entry.event ≡ event.Process chain.sink 1 (shown.Return 4)
unfolding stream.commands stream.history digits at_node on_eject on_node on_traffic least_number
its_event = refl

its_call : IsSomeAnd (serving at_work 1) (λ i. i.call ≡ 4)
unfolding stream.commands stream.history digits at_node on_eject on_node on_traffic least_number
its_call = refl

pub first_answers : (t : Turned) × FirstPumpAnswers chain.sink before answering t (pos 0) (pos 2)
first_answers = (
  its_turn.0,
  record {
    call = 4;
    first = is_first;
    answers = record {
      process = 1;
      said = shown.Return 4;
      event_is = its_event;
      active = at_work;
      is_active = is_at_work;
      turn = its_turn.1;
      answers = its_turn.2;
    };
    serves = its_call;
  },
)
