-- The first Pump that a Sink starts is the first that it answers: the one process of the Sink serves it until then.
use Rattle.std.proofs.Common.{◌≡◌, ◌⊎◌, inl, inr, ℕ, ℤ, Bool, true, false, cond, List, [], ◌∷◌, Option, None, Some, is_some, refl, ap, ap₂}
use Rattle.std.proofs.Common.{pos, sym, ◌∙◌, subst, ◌||◌}
use Rattle.std.specs.Prelude.{codes, IsSomeAnd}
use Rattle.capability.specs.declared.Uid.{Uid}
use Rattle.eden_value.specs.Datum.{Datum, number}
use Rattle.eden_value.specs.declared.status.Status.TheVariants as status
use Rattle.eden_model.specs.Map.{with_item, value_at, uid_cmp, same_text, is_none}
use Rattle.eden_model.specs.Crew.{Invocation}
use Rattle.eden_model.specs.Traffic.{Call, Place, held, call_at}
use Rattle.epl_syntax.specs.declared.effect.Answer.{Answer}
use Rattle.epl_syntax.specs.declared.effect.Answer.TheVariants.{Go}
use Rattle.epl_syntax.specs.declared.effect.Effect.{Effect}
use Rattle.epl_syntax.specs.declared.effect.Effect.TheVariants as effect
use Rattle.epl_syntax.specs.declared.types.Native.TheVariants as native
use Rattle.epl_syntax.specs.Natives.{Stage, in_cell, in_directory, in_lines, in_filter, in_sink, native_turn}
use Rattle.epl_syntax.specs.Natives as natives
use Rattle.epl_syntax.specs.Meaning.{Turned}
use Rattle.epl_syntax.specs.Simple.{argument, number_in, cap_in, is_fine}
use Rattle.epl_syntax.specs.Sink.{Moved, Stage as SinkStage, sink_turn, drain, values_of}
use Rattle.epl_syntax.specs.Sink as sink
use Rattle.journal.specs.declared.command.Command.{Command}
use Rattle.journal.specs.declared.event.Event.TheVariants as event
use Rattle.journal.specs.declared.event.Entry.{Entry}
use Rattle.journal.specs.declared.event.Shown.{Shown}
use Rattle.journal.specs.declared.event.StartEnd.{StartEnd}
use Rattle.passive_store.specs.declared.store.Pick.{Pick}
use Rattle.journal.specs.World.{World, Node, Eject, node_at}
use Rattle.journal.specs.Sites.{GoesOn, IsHeldAt, active_in}
use Rattle.journal.specs.Run.{Step}
use Rattle.journal.specs.Processes.{turn_of, serving}
use Rattle.journal.specs.Step.{Allows, next}
use Rattle.history_laws.proofs.CallsKeep.{keeps-next as calls-keep}
use Rattle.history_laws.proofs.SiteRuns.{is-known}
use Rattle.history_laws.proofs.SeatRuns.{SeatWorld}
use Rattle.value_laws.proofs.AnswerCalls.{unanswered}
use Rattle.stream_laws.specs.Streams.{PumpAnswers}
use Rattle.stream_laws.specs.Counts.{AnswersNone, StartsPump, StartsNoPump, IsFirstPump}
use Rattle.stream_laws.proofs.Items.{same-some, same-texts, some-and}
use Rattle.stream_laws.proofs.Roles.{SinkTask, sink_role, sink-lawful}
use Rattle.stream_laws.proofs.StagedNodes.{Around}
use Rattle.stream_laws.proofs.StagedCalls.{held-by}
use Rattle.stream_laws.proofs.Staged.{Staged}
use Rattle.stream_laws.proofs.States.{State, absent, asleep, idle, busy, state_of}
use Rattle.stream_laws.proofs.Moves.{TakesTurn, Ends, IsLeft, sleeps, stays_absent, is_born, stays_idle, starts, goes_on, moves, busy-then}
use Rattle.stream_laws.proofs.Counting.{Stands, GivenBack, answered-place}
use Rattle.stream_laws.proofs.CountLooks.{Looks}
use Rattle.stream_laws.proofs.OnceAnswered.{once-answered}

-- 1. Where the first Pump that the Sink started, call k, stands in a world behind these steps
pub data StandsAt (w : World) (u : Uid) (past : List Step) (k : ℕ) : Type 0 where
  -- it is served, and none was answered
  is_served : (d : Call) (st : Stage) (a : Answer) (vars : List Datum) → call_at w.traffic k ≡ Some d → state_of w u ≡ busy k st a vars
      → AnswersNone u past → StandsAt w u past k
  -- it waits for no answer any more
  is_over : (d : Call) → call_at w.traffic k ≡ Some d → unanswered d.place ≡ false → StandsAt w u past k
  -- the Sink is not active, and so for ever
  is_gone : state_of w u ≡ asleep → StandsAt w u past k

-- 2. Other operations than Pump
abbrev pub IsNoPump : SinkStage → Type 0
IsNoPump (sink.opens src) = Unit {0}
IsNoPump sink.open_saved = Unit {0}
IsNoPump sink.reads = Unit {0}
IsNoPump (sink.pumps wanted) = ⊥
IsNoPump (sink.asked wanted taken) = ⊥
IsNoPump (sink.item_saved wanted taken) = ⊥

abbrev pub ServesNoPump : State → Type 0
ServesNoPump absent = Unit {0}
ServesNoPump asleep = Unit {0}
ServesNoPump (idle vars) = Unit {0}
ServesNoPump (busy k (in_sink st) a vars) = IsNoPump st
ServesNoPump (busy k _ a vars) = Unit {0}

-- they return no code with a number
abbrev NoPumpEnds : SinkStage → Effect → Type 0
NoPumpEnds st (effect.Return results) = (code has : ℤ) → results ≡ number code ∷ number has ∷ [] → ⊥
NoPumpEnds st effect.Checkpoint = IsNoPump st
NoPumpEnds st _ = ⊥

no-pump-turn : (vars : List Datum) (st : SinkStage) (a : Answer) → IsNoPump st
    → let x = sink_turn vars st a in NoPumpEnds x.1 x.2
no-pump-turn vars (sink.opens src) a none = go (is_some (drain vars).src || is_none src)
  where
    go : (b : Bool) → let x = cond {A = Moved} b (values_of (drain vars), sink.reads, effect.Return (number (pos 1) ∷ []))
        (values_of (record (drain vars) { src = src; saved = false }), sink.open_saved, effect.Checkpoint) in NoPumpEnds x.1 x.2
    go true = λ code has is. cc is
    go false = tt
no-pump-turn vars sink.open_saved a none = go (is_fine a)
  where
    go : (b : Bool) → let x = cond {A = Moved} b
        (values_of (record (drain vars) { saved = true }), sink.reads, effect.Return (number (pos 0) ∷ []))
        (values_of (drain vars), sink.reads, effect.Return (number (pos 3) ∷ [])) in NoPumpEnds x.1 x.2
    go true = λ code has is. cc is
    go false = λ code has is. cc is
no-pump-turn vars sink.reads a none = λ code has is. cc is
no-pump-turn vars (sink.pumps wanted) a none = absurd none
no-pump-turn vars (sink.asked wanted taken) a none = absurd none
no-pump-turn vars (sink.item_saved wanted taken) a none = absurd none

place-over : (place : Place) (results : List Datum) → GivenBack status.Ok results place ⊎ GivenBack status.TooLarge [] place
    → unanswered place ≡ false
place-over place results (inl (inl is)) = ap unanswered is
place-over place results (inl (inr is)) = ap unanswered is
place-over place results (inr (inl is)) = ap unanswered is
place-over place results (inr (inr is)) = ap unanswered is

module _ (A : ℕ → List Datum) (H : ℕ → Bool) (w : World) (c : Option Command) (e : Entry) (seat : SeatWorld H w) (allowed : Allows w c e)
    (before : Uid) (items : List (List ℕ)) (u : Uid)
    (around : Around (sink_role before items) (sink-lawful before items) u A H w c e.event)
    (staged : Staged (sink_role before items) (sink-lawful before items) u A w)
    (unmoved : (how : StartEnd) (p : Option Pick) → e.event ≡ event.Activate u how p → ⊥) where
  abbrev later : World
  later = next w c e

  abbrev this_step : Step
  this_step = record { world = w; entry = e; later = later }

  abbrev Takes : Type 0
  Takes = TakesTurn (sink_role before items) (sink-lawful before items) u A H w c e seat allowed around staged

  abbrev TurnEndsSo : ℕ → List Datum → Stage → Effect → Type 0
  TurnEndsSo = Ends (sink_role before items) (sink-lawful before items) u A H w c e seat allowed around staged

  abbrev Left : State → State → Type 0
  Left = IsLeft (sink_role before items) (sink-lawful before items) u A H w c e seat allowed around staged

  abbrev Moves : Type 0
  Moves = Takes ⊎ (((p : ℕ) (said : Shown) → e.event ≡ event.Process u p said → ⊥) × Left (state_of w u) (state_of later u))

  moves-so : Moves
  moves-so = moves (sink_role before items) (sink-lawful before items) u A H w c e seat allowed around staged unmoved

  -- 3. What a step answers
  abbrev turn-by : Takes → List Datum × Stage × Effect
  turn-by y = native_turn native.Sink y.vars y.stage y.answer

  answer-is : (y : Takes) (t : Turned) (code has : ℤ) → PumpAnswers u this_step t code has
      → y.turned.effect ≡ effect.Return (number code ∷ number has ∷ [])
  answer-is y t code has x = ap (λ (z : Turned). z.effect) (sym one) ∙ x.answers
    where
      number_is : x.process ≡ y.process
      number_is = let both : event.Process u x.process x.said ≡ event.Process u y.process y.said = sym x.event_is ∙ y.event_is in cc both

      one : t ≡ y.turned
      one = same-some (sym x.turn ∙ ap₂ (λ a p. turn_of u a p) (same-some (sym x.is_active ∙ y.is_active)) number_is ∙ y.turns)

  -- no Pump, where no process of the Sink takes a turn
  none-turns : (past : List Step) → ((p : ℕ) (said : Shown) → e.event ≡ event.Process u p said → ⊥) → AnswersNone u past
      → AnswersNone u (this_step ∷ past)
  none-turns past other none = (λ t code has x. absurd (other x.process x.said x.event_is), none)

  -- nor where its turn has no such answer
  none-so : (past : List Step) (y : Takes) (eff : Effect) → y.turned.effect ≡ eff
      → ((code has : ℤ) → eff ≡ effect.Return (number code ∷ number has ∷ []) → ⊥) → AnswersNone u past → AnswersNone u (this_step ∷ past)
  none-so past y eff eq never none = (λ t code has x. absurd (never code has (sym eq ∙ answer-is y t code has x)), none)

  -- 4. The first one goes on
  later-call : (k : ℕ) (d : Call) → call_at w.traffic k ≡ Some d → (z : Call) × (call_at later.traffic k ≡ Some z) × GoesOn d z
  later-call k d at = some-and (call_at later.traffic k) ((calls-keep w c e (is-known H w seat.site.known) allowed).kept k d at)

  module _ (past : List Step) (k : ℕ) where
    abbrev Now : Type 0
    Now = StandsAt later u (this_step ∷ past) k

    gone-left : (s t : State) → Left s t → s ≡ asleep → t ≡ asleep
    gone-left _ _ (sleeps s) eq = refl
    gone-left _ _ stays_absent eq = absurd (cc eq)
    gone-left _ _ is_born eq = absurd (cc eq)
    gone-left _ _ (stays_idle vars) eq = absurd (cc eq)
    gone-left _ _ (starts vars j d a st) eq = absurd (cc eq)
    gone-left _ _ (goes_on j st a b vars told) eq = absurd (cc eq)

    gone-next : state_of w u ≡ asleep → Moves → Now
    gone-next gone (inl y) = absurd (let bad : asleep ≡ busy y.call y.stage y.answer y.vars = sym gone ∙ y.was in cc bad)
    gone-next gone (inr y) = is_gone (gone-left (state_of w u) (state_of later u) y.1 gone)

    over-next : (d z : Call) → call_at w.traffic k ≡ Some d → unanswered d.place ≡ false → call_at later.traffic k ≡ Some z → Now
    over-next d z at over is = go (unanswered z.place) refl
      where
        go : (b : Bool) → unanswered z.place ≡ b → Now
        go false eq = is_over z is eq
        go true eq = absurd (let bad : false ≡ true = sym over ∙ once-answered H w c e seat allowed k d z at is eq in cc bad)

    module _ (d z : Call) (at : call_at w.traffic k ≡ Some d) (is : call_at later.traffic k ≡ Some z) (none : AnswersNone u past) where
      served-left : (st : Stage) (a : Answer) (vars : List Datum) → AnswersNone u (this_step ∷ past) → (s t : State) → Left s t
          → s ≡ busy k st a vars → state_of later u ≡ t → Now
      served-left st a vars zero _ _ (sleeps s) eq now = is_gone now
      served-left st a vars zero _ _ stays_absent eq now = absurd (cc eq)
      served-left st a vars zero _ _ is_born eq now = absurd (cc eq)
      served-left st a vars zero _ _ (stays_idle vs) eq now = absurd (cc eq)
      served-left st a vars zero _ _ (starts vs j b x how) eq now = absurd (cc eq)
      served-left st a vars zero _ _ (goes_on j stage x y vs told) eq now =
          is_served z stage y vs is (now ∙ ap (λ i. busy i stage y vs) (let same : j ≡ k = cc eq in same)) zero

      served-own : (y : Takes) → y.call ≡ k → (m : List Datum × Stage × Effect) → y.turned.effect ≡ m.2
          → TurnEndsSo y.call m.0 m.1 m.2 → Now
      served-own y number_is m eq ends = go m.2 refl ends
        where
          go : (eff : Effect) → m.2 ≡ eff → TurnEndsSo y.call m.0 m.1 eff → Now
          go (effect.Return results) is_eff ends = is_over z is (by (answered-place ends.1.0 results w.traffic k d z at
              (ap (λ t. call_at t k) (sym ends.1.2) ∙ is)))
            where
              by : Stands k ends.1.0.call d z (GivenBack status.Ok results z.place ⊎ GivenBack status.TooLarge [] z.place)
                  → unanswered z.place ≡ false
              by (inl x) = absurd (x.0 (sym (ends.1.1 ∙ number_is)))
              by (inr x) = place-over z.place results x.1
          go effect.Checkpoint is_eff ends = is_served z m.1 ends.0.0 m.0 is (ends.0.2 ∙ ap (λ i. busy i m.1 ends.0.0 m.0) number_is)
              (none-so past y effect.Checkpoint (eq ∙ is_eff) (λ code has bad. cc bad) none)
          go (effect.Invoke target operation args) is_eff ends =
              is_served z m.1 ends.0.0 m.0 is (ends.0.2 ∙ ap (λ i. busy i m.1 ends.0.0 m.0) number_is)
              (none-so past y (effect.Invoke target operation args) (eq ∙ is_eff) (λ code has bad. cc bad) none)
          go _ is_eff ends = absurd ends

      served-next : (st : Stage) (a : Answer) (vars : List Datum) → state_of w u ≡ busy k st a vars → Moves → Now
      served-next st a vars was (inl y) = served-own y
          (let both : busy y.call y.stage y.answer y.vars ≡ busy k st a vars = sym y.was ∙ was in let one : y.call ≡ k = cc both in one)
          (turn-by y) y.effect_is y.ends
      served-next st a vars was (inr y) = served-left st a vars (none-turns past y.0 none) (state_of w u) (state_of later u) y.1 was refl

    pub first-next : StandsAt w u past k → Now
    first-next (is_gone gone) = gone-next gone moves-so
    first-next (is_over d at over) = let z = later-call k d at in over-next d z.0 at over z.1
    first-next (is_served d st a vars at was none) = let z = later-call k d at in served-next d z.0 at z.1 none st a vars was moves-so

    -- 5. It starts
    pub first-starts : StartsPump u k this_step → AnswersNone u past → Now
    first-starts x none =
        let d = some-and (call_at w.traffic k) x.is_pump in
        let z = later-call k d.0 d.1 in
        let b = busy-then (sink_role before items) (sink-lawful before items) u A H w c e seat allowed around staged k x.process x.event_is
        d.0 d.1 in
        is_served z.0 b.0 Go b.1 z.1 b.2 (none-turns past (λ p said is.
        (let bad : event.Start k u x.process ≡ event.Process u p said = sym x.event_is ∙ is in cc bad)) none)

    -- 6. As it is answered, none was before
    pub none-before : StandsAt w u past k → (t : Turned) (code has : ℤ) → (x : PumpAnswers u this_step t code has)
        → IsSomeAnd (serving x.active x.process) (λ i. i.call ≡ k) → AnswersNone u past
    none-before (is_served d st a vars at was none) t code has x serves = none
    none-before (is_gone gone) t code has x serves = go moves-so
      where
        go : Moves → AnswersNone u past
        go (inl y) = absurd (let bad : asleep ≡ busy y.call y.stage y.answer y.vars = sym gone ∙ y.was in cc bad)
        go (inr y) = absurd (y.0 x.process x.said x.event_is)
    none-before (is_over d at over) t code has x serves = absurd
        (let bad : false ≡ true = sym over ∙ ap unanswered held_so in cc bad)
      where
        i : (i : Invocation) × (serving x.active x.process ≡ Some i) × (i.call ≡ k)
        i = some-and (serving x.active x.process) serves

        there : (o : Option Node) → node_at w u.node ≡ o → active_in (with_item o (λ (nd : Node). value_at uid_cmp u nd.ejects) None)
            ≡ Some x.active → IsHeldAt w.traffic u i.0.call
        there None node_is is = absurd (cc is)
        there (Some nd) node_is is = by (value_at uid_cmp u nd.ejects) refl is
          where
            by : (o : Option Eject) → value_at uid_cmp u nd.ejects ≡ o → active_in o ≡ Some x.active → IsHeldAt w.traffic u i.0.call
            by None eject_is is = absurd (cc is)
            by (Some y) eject_is is = held-by H w seat.site u nd node_is y x.active eject_is is x.process i.0 i.1

        held_so : d.place ≡ held
        held_so = (subst (λ o. IsSomeAnd o (λ (b : Call). (b.place ≡ held) × (b.target.uid ≡ u))) at
            (subst (IsHeldAt w.traffic u) i.2 (there (node_at w u.node) refl x.is_active))).0

  -- 7. As long as none is started, none is served, and so none answered
  module _ (past : List Step) (none_starts : (k : ℕ) → StartsPump u k this_step → ⊥) (none : AnswersNone u past) where
    abbrev Early : Type 0
    Early = AnswersNone u (this_step ∷ past) × ServesNoPump (state_of later u)

    early-left : (s t : State) → Left s t → ServesNoPump s → ServesNoPump t
    early-left _ _ (sleeps s) h = tt
    early-left _ _ stays_absent h = tt
    early-left _ _ is_born h = tt
    early-left _ _ (stays_idle vars) h = tt
    early-left _ _ (starts vars k d a st) h = go (same_text d.operation (codes "Open")) (same_text d.operation (codes "Pump")) refl
      where
        go : (o p : Bool) → same_text d.operation (codes "Pump") ≡ p
            → ServesNoPump (busy k (in_sink (cond o (sink.opens (cap_in (argument 0 d.args)))
            (cond p (sink.pumps (number_in (argument 0 d.args))) sink.reads))) a vars)
        go true p is = tt
        go false false is = tt
        go false true is = absurd (none_starts k (record {
          process = st.process;
          event_is = st.event_is;
          is_pump = subst (λ o. IsSomeAnd o (λ (b : Call). b.operation ≡ codes "Pump")) (sym st.at)
              (same-texts d.operation (codes "Pump") is);
        }))
    early-left _ _ (goes_on k (in_sink st) a b vars told) h = h
    early-left _ _ (goes_on k (in_cell st) a b vars told) h = tt
    early-left _ _ (goes_on k (in_directory st) a b vars told) h = tt
    early-left _ _ (goes_on k (in_lines st) a b vars told) h = tt
    early-left _ _ (goes_on k (in_filter st) a b vars told) h = tt

    early-ends : (y : Takes) (m : List Datum × SinkStage × Effect) → y.turned.effect ≡ m.2 → TurnEndsSo y.call m.0 (in_sink m.1) m.2
        → NoPumpEnds m.1 m.2 → Early
    early-ends y m eq ends h = go m.2 refl ends h
      where
        go : (eff : Effect) → m.2 ≡ eff → TurnEndsSo y.call m.0 (in_sink m.1) eff → NoPumpEnds m.1 eff → Early
        go (effect.Return results) is_eff ends h = (
          none-so past y (effect.Return results) (eq ∙ is_eff) (λ code has is. h code has
              (let same : results ≡ number code ∷ number has ∷ [] = cc is in same)) none,
          subst ServesNoPump (sym ends.0) tt,
        )
        go effect.Checkpoint is_eff ends h = (
          none-so past y effect.Checkpoint (eq ∙ is_eff) (λ code has bad. cc bad) none,
          subst ServesNoPump (sym ends.0.2) h,
        )
        go _ is_eff ends h = absurd h

    early-own : (y : Takes) → ServesNoPump (state_of w u) → Early
    early-own y h = go y.stage refl y.task
      where
        go : (stage : Stage) → y.stage ≡ stage → SinkTask before items y.vars (A y.call) stage y.answer → Early
        go (in_sink st) is task = early-ends y (sink_turn y.vars st y.answer)
            (y.effect_is ∙ ap (λ (x : List Datum × Stage × Effect). x.2) (of-sink st is))
            (subst (λ (x : List Datum × Stage × Effect). TurnEndsSo y.call x.0 x.1 x.2) (of-sink st is) y.ends)
            (no-pump-turn y.vars st y.answer (subst ServesNoPump (y.was ∙ ap (λ z. busy y.call z y.answer y.vars) is) h))
          where
            of-sink : (st : SinkStage) → y.stage ≡ in_sink st → turn-by y ≡ natives.among in_sink (sink_turn y.vars st y.answer)
            of-sink st is = ap (λ z. native_turn native.Sink y.vars z y.answer) is
        go _ is task = absurd task

    pub early-next : ServesNoPump (state_of w u) → Early
    early-next h = go moves-so
      where
        go : Moves → Early
        go (inl y) = early-own y h
        go (inr y) = (none-turns past y.0 none, early-left (state_of w u) (state_of later u) y.1 h)

-- 8. A look-up of a walk starts and answers none
module _ (w v : World) (same : Looks w v) (u : Uid) (past : List Step) (s : Step)
    (silent : (p : ℕ) (said : Shown) → s.entry.event ≡ event.Process u p said → ⊥) where
  none-looked : AnswersNone u past → AnswersNone u (s ∷ past)
  none-looked none = (λ t code has x. absurd (silent x.process x.said x.event_is), none)

  pub first-looked : (k : ℕ) → StandsAt w u past k → StandsAt v u (s ∷ past) k
  first-looked k (is_served d st a vars at was none) =
      is_served d st a vars (same.kept k d at) (sym (same.state u) ∙ was) (none-looked none)
  first-looked k (is_over d at over) = is_over d (same.kept k d at) over
  first-looked k (is_gone gone) = is_gone (sym (same.state u) ∙ gone)

  pub early-looked : AnswersNone u past → ServesNoPump (state_of w u) → AnswersNone u (s ∷ past) × ServesNoPump (state_of v u)
  early-looked none h = (none-looked none, subst ServesNoPump (same.state u) h)

-- 9. There is one first Pump at most
first-none : (u : Uid) (k : ℕ) (past : List Step) → StartsNoPump u past → IsFirstPump u k past → ⊥
first-none u k [] none h = h
first-none u k (s ∷ past) none (inl h) = none.0 k h.0
first-none u k (s ∷ past) none (inr h) = first-none u k past none.1 h

pub one-first : (u : Uid) (j k : ℕ) (past : List Step) → IsFirstPump u j past → IsFirstPump u k past → j ≡ k
one-first u j k [] a b = absurd a
one-first u j k (s ∷ past) (inl a) (inl b) =
    let both : event.Start j u a.0.process ≡ event.Start k u b.0.process = sym a.0.event_is ∙ b.0.event_is in cc both
one-first u j k (s ∷ past) (inl a) (inr b) = absurd (first-none u k past a.1 b)
one-first u j k (s ∷ past) (inr a) (inl b) = absurd (first-none u j past b.1 a)
one-first u j k (s ∷ past) (inr a) (inr b) = one-first u j k past a b
