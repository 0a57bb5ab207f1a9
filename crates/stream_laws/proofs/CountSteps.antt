-- Each entry of a history keeps what holds of the filters of a pipeline and of its Sink, where none of them is activated, each filter is
-- asked by the stage after it alone, and each Pump comes with code 0.
use Rattle.std.proofs.Common.{◌≡◌, ◌⊎◌, inl, inr, ℕ, ◌+◌, ℤ, pos, Bool, true, false, cond, List, [], ◌∷◌, Option, None, Some}
use Rattle.std.proofs.Common.{refl, ap, ap₂, sym, ◌∙◌, subst, arith}
use Rattle.std.specs.Prelude.{codes, IsSomeAnd}
use Rattle.std.specs.Ordering.{nat_cmp, eq_by_cmp}
use Rattle.capability.specs.declared.Uid.{Uid}
use Rattle.capability.specs.declared.Cap.{Cap}
use Rattle.eden_value.specs.Datum.{Datum, number}
use Rattle.eden_value.specs.declared.status.Status.{Status}
use Rattle.eden_value.specs.declared.status.Status.TheVariants as status
use Rattle.eden_model.specs.Map.{same_text}
use Rattle.eden_model.proofs.Numbers.{same-true}
use Rattle.eden_model.specs.declared.Asker.TheVariants.{Eject as Process}
use Rattle.eden_model.specs.Traffic.{Call, Place, asked as on_its_way, held, answered, done, call_at}
use Rattle.eden_model.specs.Traffic.{next_call, new_call, with_call}
use Rattle.epl_syntax.specs.declared.effect.Answer.{Answer}
use Rattle.epl_syntax.specs.declared.effect.Answer.TheVariants.{Reply as Told}
use Rattle.epl_syntax.specs.declared.effect.Effect.{Effect}
use Rattle.epl_syntax.specs.declared.effect.Effect.TheVariants as effect
use Rattle.epl_syntax.specs.Natives.{in_cell, in_directory, in_lines, in_filter, in_sink, native_turn, first_stage}
use Rattle.epl_syntax.specs.Natives as natives
use Rattle.epl_syntax.specs.Meaning.{Turned}
use Rattle.epl_syntax.specs.Simple.{argument, number_in, cap_in}
use Rattle.epl_syntax.specs.Streams.{Came, an_item, the_end, nothing, came}
use Rattle.epl_syntax.specs.Filters.{Stage as FilterStage, opens, open_saved, transfers, transfer_saved, asked, item_saved, filter}
use Rattle.epl_syntax.specs.Filters.{filter_turn}
use Rattle.epl_syntax.specs.declared.types.Native.TheVariants as native
use Rattle.epl_syntax.specs.Sink.{Stage as SinkStage, sink_turn}
use Rattle.epl_syntax.specs.Sink as sink
use Rattle.epl_syntax.specs.Pipelines.{rule_of}
use Rattle.journal.specs.declared.command.Command.{Command}
use Rattle.journal.specs.declared.event.Event.TheVariants as event
use Rattle.journal.specs.declared.event.Entry.{Entry}
use Rattle.journal.specs.declared.event.Shown.{Shown}
use Rattle.journal.specs.declared.event.StartEnd.{StartEnd}
use Rattle.passive_store.specs.declared.store.Pick.{Pick}
use Rattle.journal.specs.World.{World, Active, eject_at}
use Rattle.journal.specs.Sites.{active_in}
use Rattle.journal.specs.Run.{Step}
use Rattle.journal.specs.Processes.{turn_of}
use Rattle.journal.specs.Step.{Allows, next}
use Rattle.history_laws.proofs.SeatRuns.{SeatWorld}
use Rattle.history_laws.proofs.Times.{call-more, none-behind}
use Rattle.value_laws.proofs.AnswerCalls.{unanswered, Was, IsNew, IsNews}
use Rattle.stream_laws.specs.Chains.{Stage, type_of_sieve}
use Rattle.stream_laws.specs.Counts.{transfers_by, IsTakeOrNumber, IsAskedBy}
use Rattle.stream_laws.specs.Streams.{PumpAnswers}
use Rattle.stream_laws.proofs.Items.{same-some}
use Rattle.stream_laws.proofs.FilterTurns.{Holds, IsLeft}
use Rattle.stream_laws.proofs.Roles.{FilterTask, SinkTask, TurnEnds, sink_role, sink-lawful, filter_role, filter-lawful, same-rule}
use Rattle.stream_laws.proofs.Roles.{came-nothing}
use Rattle.stream_laws.proofs.Instances.{position, filter-first}
use Rattle.stream_laws.proofs.StagedNodes.{Around}
use Rattle.stream_laws.proofs.Staged.{Staged}
use Rattle.stream_laws.proofs.Still.{MayBeTold, as_before, a_code, no_results, what_came}
use Rattle.stream_laws.proofs.States.{State, absent, asleep, idle, busy, state_of}
use Rattle.stream_laws.proofs.Asking.{AsksNow, Answered, Asked, calls-go, asked-same, asked-more}
use Rattle.stream_laws.proofs.Moves.{TakesTurn, Ends, Goes, IsStarted, sleeps, stays_absent, is_born, stays_idle, starts, goes_on, moves}
use Rattle.stream_laws.proofs.Moves as moved
use Rattle.stream_laws.proofs.CountTurns.{got_in, got-first, IsNone, IsOpening, OpeningEnds, opening-turn, AskingEnds, transfer-turn}
use Rattle.stream_laws.proofs.SinkCounts.{held_in, IsResting, RestingEnds, resting-turn, zero-turn}
use Rattle.stream_laws.proofs.SinkCounts as of_sink
use Rattle.stream_laws.proofs.CountTurns.{transfer_saved-turn, TakingEnds, taking-turn, HandingEnds, handing-turn}
use Rattle.stream_laws.proofs.Counting.{IsPending, NonePending, OnlyPending, StillState, Quiet, IfItem, OpenCalls, Coming, At}
use Rattle.stream_laws.proofs.Counting.{WorkingState, AsksFor, Working, SinkAt, Pumping, if-map, if-so, if-none, if-nothing, asker-of}
use Rattle.stream_laws.proofs.Counting.{transfer-op}
use Rattle.stream_laws.proofs.Counting.{Stands, GivenBack, answered-place, given-back, coming-nothing}

module _ (A : ℕ → List Datum) (H : ℕ → Bool) (w : World) (c : Option Command) (e : Entry) (seat : SeatWorld H w) (allowed : Allows w c e)
    (args : (k : ℕ) (d : Call) → call_at w.traffic k ≡ Some d → d.args ≡ A k) (lines : Uid) where
  abbrev later : World
  later = next w c e

  -- 1. What is known of each filter: of f, which stands between b and v
  pub record Fact (v : Uid) (f : Stage) (b : Uid) : Type 0 where
    pub items : List (List ℕ)
    pub around : Around (filter_role b f.sieve items) (filter-lawful b f.sieve items) f.uid A H w c e.event
    pub staged : Staged (filter_role b f.sieve items) (filter-lawful b f.sieve items) f.uid A w
    pub unmoved : (how : StartEnd) (p : Option Pick) → e.event ≡ event.Activate f.uid how p → ⊥
    pub asked : IsAskedBy later.traffic v f.uid
    pub plain : IsTakeOrNumber f.sieve

  -- the stage before the first of these
  abbrev pub source : List Stage → Uid
  source [] = lines
  source (f ∷ fs) = f.uid

  abbrev pub Facts : Uid → List Stage → Type 0
  Facts v [] = Unit {0}
  Facts v (f ∷ fs) = Fact v f (source fs) × Facts f.uid fs

  module _ (v : Uid) (f : Stage) (b : Uid) (x : Fact v f b) where
    abbrev FilterEnds : ℕ → List Datum → natives.Stage → Effect → Type 0
    FilterEnds = Ends (filter_role b f.sieve x.items) (filter-lawful b f.sieve x.items) f.uid A H w c e seat allowed x.around x.staged

    abbrev FilterLeft : State → State → Type 0
    FilterLeft = moved.IsLeft (filter_role b f.sieve x.items) (filter-lawful b f.sieve x.items) f.uid A H w c e seat allowed x.around
        x.staged

    -- its turn
    record FilterTakes : Type 0 where
      call : ℕ
      st : FilterStage
      answer : Answer
      vars : List Datum
      was : state_of w f.uid ≡ busy call (in_filter st) answer vars
      holds : Holds b f.sieve x.items (filter (rule_of f.sieve) vars)
      left : IsLeft b f.sieve (position (A call)) (filter (rule_of f.sieve) vars) st
      ends : let y = filter_turn (rule_of f.sieve) vars st answer in FilterEnds call y.0 (in_filter y.1) y.2
      only : AsksNow w e.event f.uid → (target : Cap) × (operation : List ℕ) × (given : List Datum)
          × ((filter_turn (rule_of f.sieve) vars st answer).2 ≡ effect.Invoke target operation given)
      asks_so : (target : Cap) (operation : List ℕ) (given : List Datum)
          → (filter_turn (rule_of f.sieve) vars st answer).2 ≡ effect.Invoke target operation given → target.uid ≡ b
      none_open : (i q : ℕ) (d : Call) → call_at w.traffic i ≡ Some d → d.open_ ≡ true → d.asker ≡ Process f.uid q → ⊥

    filter-takes : TakesTurn (filter_role b f.sieve x.items)
        (filter-lawful b f.sieve x.items) f.uid A H w c e seat allowed x.around x.staged
        → FilterTakes
    filter-takes t = go t.stage refl t.task
      where
        of-rule : (st : FilterStage) → t.stage ≡ in_filter st
            → native_turn (type_of_sieve f.sieve) t.vars t.stage t.answer
            ≡ natives.among in_filter (filter_turn (rule_of f.sieve) t.vars st t.answer)
        of-rule st is = ap (λ z. native_turn (type_of_sieve f.sieve) t.vars z t.answer) is
            ∙ ap (λ r. natives.among in_filter (filter_turn r t.vars st t.answer)) (same-rule f.sieve)

        asks-before : (m : List Datum × natives.Stage × Effect) (target : Cap) (operation : List ℕ) (given : List Datum)
            → TurnEnds (filter_role b f.sieve x.items) t.kept m.0 (A t.call) m.1 m.2 → m.2 ≡ effect.Invoke target operation given
            → target.uid ≡ b
        asks-before m target operation given ends is =
            (subst (TurnEnds (filter_role b f.sieve x.items) t.kept m.0 (A t.call) m.1) is ends).0.of_before

        go : (stage : natives.Stage) → t.stage ≡ stage → FilterTask b f.sieve x.items t.vars (A t.call) stage t.answer → FilterTakes
        go (in_filter st) is task = record {
          call = t.call;
          st = st;
          answer = t.answer;
          vars = t.vars;
          was = t.was ∙ ap (λ z. busy t.call z t.answer t.vars) is;
          holds = t.held_vars.holds;
          left = task.0;
          ends = subst (λ (y : List Datum × natives.Stage × Effect). FilterEnds t.call y.0 y.1 y.2) (of-rule st is) t.ends;
          only = λ n. (let z = t.only n in (
            z.0,
            z.1,
            z.2,
            sym (ap (λ (y : List Datum × natives.Stage × Effect). y.2) (of-rule st is)) ∙ z.3,
          ));
          asks_so = λ target operation given is_asked. asks-before (native_turn (type_of_sieve f.sieve) t.vars t.stage t.answer) target
              operation given t.keeps.ends (ap (λ (y : List Datum × natives.Stage × Effect). y.2) (of-rule st is) ∙ is_asked);
          none_open = t.none_open;
        }
        go _ is task = absurd task

    abbrev Moves : Type 0
    Moves = FilterTakes ⊎ (((p : ℕ) (said : Shown) → e.event ≡ event.Process f.uid p said → ⊥) × FilterLeft (state_of w f.uid)
        (state_of later f.uid))

    filter-moves : Moves
    filter-moves = go (moves (filter_role b f.sieve x.items)
        (filter-lawful b f.sieve x.items) f.uid A H w c e seat allowed x.around x.staged
        x.unmoved)
      where
        go : TakesTurn (filter_role b f.sieve x.items) (filter-lawful b f.sieve x.items) f.uid A H w c e seat allowed x.around x.staged
            ⊎ (((p : ℕ) (said : Shown) → e.event ≡ event.Process f.uid p said → ⊥) × FilterLeft (state_of w f.uid) (state_of later f.uid))
            → Moves
        go (inl t) = inl (filter-takes t)
        go (inr t) = inr t

    -- 2. A call of it that waits did so before, or is new
    was-pending : (AsksNow w e.event v → ⊥) → (k : ℕ) (d : Call) → call_at later.traffic k ≡ Some d → IsPending f.uid d
        → (a : Call) × (call_at w.traffic k ≡ Some a) × IsPending f.uid a
    was-pending mute k d is pending = go ((calls-go H w c e seat allowed).back k d is)
      where
        old : (o : Option Call) → call_at w.traffic k ≡ o → IsSomeAnd o (λ a. Was (Answered w e.event) (Asked w e.event) k a d)
            → (a : Call) × (call_at w.traffic k ≡ Some a) × IsPending f.uid a
        old None was h = absurd h
        old (Some a) was h = (
          a,
          was,
          (ap (λ (z : Cap). z.uid) h.target ∙ pending.0, h.operation ∙ pending.1, h.waits pending.2),
        )

        go : IsSomeAnd (call_at w.traffic k) (λ a. Was (Answered w e.event) (Asked w e.event) k a d)
            ⊎ IsNew (Answered w e.event) (Asked w e.event) k d → (a : Call) × (call_at w.traffic k ≡ Some a) × IsPending f.uid a
        go (inl h) = old (call_at w.traffic k) refl h
        go (inr h) = let q = asker-of v d.asker (x.asked k d is pending.0 pending.1) in absurd (mute (h.asker v q.0 q.1))

    -- 3. It is quiet still
    still-left : (m : ℕ) → NonePending w f.uid → (s t : State) → FilterLeft s t → StillState f.sieve m s → StillState f.sieve m t
    still-left m none _ _ (sleeps s) h = tt
    still-left m none _ _ stays_absent h = h
    still-left m none _ _ is_born h = got-first f.sieve ∙ ap pos (sym h)
    still-left m none _ _ (stays_idle vars) h = h
    still-left m none _ _ (starts vars k d a st) h = subst (λ z. StillState f.sieve m (busy k z a vars))
        (sym (filter-first f.sieve d.operation d.args)) (go (same_text d.operation (codes "Open")) refl)
      where
        go : (o : Bool) → same_text d.operation (codes "Open") ≡ o
            → StillState f.sieve m (busy k (in_filter (cond o (opens d.args) (transfers (position d.args)))) a vars)
        go true is = (h, tt)
        go false is = absurd (none k d st.at (st.to, transfer-op f.sieve d st.fits is, ap unanswered st.held_there))
    still-left m none _ _ (goes_on k (in_filter st) a b vars told) h = h
    still-left m none _ _ (goes_on k (in_cell st) a b vars told) h = h
    still-left m none _ _ (goes_on k (in_directory st) a b vars told) h = h
    still-left m none _ _ (goes_on k (in_lines st) a b vars told) h = h
    still-left m none _ _ (goes_on k (in_sink st) a b vars told) h = h

    still-own : (m : ℕ) (call : ℕ) (vars : List Datum) (st : FilterStage) (eff : Effect) (got : ℤ) → got ≡ pos m
        → FilterEnds call vars (in_filter st) eff → OpeningEnds f.sieve got vars st eff → StillState f.sieve m (state_of later f.uid)
    still-own m call vars st (effect.Return results) got is ends h = subst (StillState f.sieve m) (sym ends.0) (h.0 ∙ is)
    still-own m call vars st effect.Checkpoint got is ends h = subst (StillState f.sieve m) (sym ends.0.2) (h.0 ∙ is, h.1)
    still-own m call vars st _ got is ends h = absurd h

    no-opening : (got : ℤ) (vars : List Datum) (st : FilterStage) (eff : Effect) (target : Cap) (operation : List ℕ) (given : List Datum)
        → OpeningEnds f.sieve got vars st eff → eff ≡ effect.Invoke target operation given → ⊥
    no-opening got vars st eff target operation given h is = subst (OpeningEnds f.sieve got vars st) is h

    still-state : (m : ℕ) → NonePending w f.uid → StillState f.sieve m (state_of w f.uid)
        → StillState f.sieve m (state_of later f.uid) × (AsksNow w e.event f.uid → ⊥)
    still-state m none h = go filter-moves
      where
        own : (t : FilterTakes) → StillState f.sieve m (busy t.call (in_filter t.st) t.answer t.vars)
            → StillState f.sieve m (state_of later f.uid) × (AsksNow w e.event f.uid → ⊥)
        own t s =
            let y = filter_turn (rule_of f.sieve) t.vars t.st t.answer in
            let z = opening-turn b f.sieve (position (A t.call)) t.vars t.st t.answer t.holds.arg t.left s.1 in (
              still-own m t.call y.0 y.1 y.2 (got_in f.sieve t.vars) s.0 t.ends z,
              λ n. (let a = t.only n in no-opening (got_in f.sieve t.vars) y.0 y.1 y.2 a.0 a.1 a.2 z a.3),
            )

        go : Moves → StillState f.sieve m (state_of later f.uid) × (AsksNow w e.event f.uid → ⊥)
        go (inl t) = own t (subst (StillState f.sieve m) t.was h)
        go (inr t) = (
          still-left m none (state_of w f.uid) (state_of later f.uid) t.1 h,
          λ n. t.0 n.process n.said n.is,
        )

  pub quiet-next : (v : Uid) (m : ℕ) (fs : List Stage) → Facts v fs → (AsksNow w e.event v → ⊥) → Quiet w m fs → Quiet later m fs
  quiet-next v m [] facts mute q = tt
  quiet-next v m (f ∷ fs) facts mute q = let s = still-state v f (source fs) facts.0 m q.0.none q.0.state in (
    record {
      count = asked-same H w c e seat allowed f.uid s.1 ∙ q.0.count;
      none = λ k d is pending. (let a = was-pending v f (source fs) facts.0 mute k d is pending in q.0.none k a.0 a.1 a.2);
      state = s.0;
    },
    quiet-next f.uid m fs facts.1 s.1 q.1,
  )

  -- 4. A call for item m that has an answer, or comes to have one

  -- a new answer is to a call that was held, and comes of a turn of the Eject that was called
  answered-of : (k : ℕ) (a : Call) (s : Status) (results : List Datum) → call_at w.traffic k ≡ Some a → Answered w e.event k s results
      → (a.place ≡ held) × ((p : ℕ) × (said : Shown) × (e.event ≡ event.Process a.target.uid p said))
  answered-of k a s results at x = subst (λ o. IsSomeAnd o (λ c. (c.place ≡ held)
      × ((p : ℕ) × (said : Shown) × (e.event ≡ event.Process c.target.uid p said)))) at x

  pub coming-later : (m : ℕ) (fs : List Stage) (R S : Type 0) (k : ℕ) (a d : Call) → call_at w.traffic k ≡ Some a
      → Was (Answered w e.event) (Asked w e.event) k a d → Coming w m fs R a.place → (Quiet w (m + 1) fs → Quiet later (m + 1) fs)
      → (unanswered a.place ≡ true → R → Coming later m fs S d.place) → Coming later m fs S d.place
  coming-later m fs R S k a d at was coming quiet waits = go a.place refl coming
    where
      over : (p : Place) → a.place ≡ p → unanswered p ≡ false → Coming w m fs R p → (l : Place) → d.place ≡ l → Coming later m fs S l
      over p was_at out h on_its_way at_d = absurd (let bad : true ≡ false = sym (was.waits (ap unanswered at_d))
          ∙ ap unanswered was_at ∙ out in cc bad)
      over p was_at out h held at_d = absurd (let bad : true ≡ false = sym (was.waits (ap unanswered at_d))
          ∙ ap unanswered was_at ∙ out in cc bad)
      over p was_at out h (answered s results) at_d = by (was.answer s results at_d)
        where
          by : (a.place ≡ answered s results) ⊎ IsNews (Answered w e.event) k s results
              → IfItem (came (Told s results)) (Quiet later (m + 1) fs)
          by (inl same) = if-map (came (Told s results)) (Quiet w (m + 1) fs) (Quiet later (m + 1) fs) quiet
              (subst (Coming w m fs R) (sym was_at ∙ same) h)
          by (inr (inl empty)) = if-nothing (came (Told s results)) (Quiet later (m + 1) fs)
              (ap (λ z. came (Told s z)) empty ∙ came-nothing s)
          by (inr (inr x)) = absurd (let bad : true ≡ false = sym (ap unanswered (answered-of k a s results at x).0)
              ∙ ap unanswered was_at ∙ out in cc bad)
      over p was_at out h done at_d = tt

      go : (p : Place) → a.place ≡ p → Coming w m fs R p → Coming later m fs S d.place
      go on_its_way was_at h = waits (ap unanswered was_at) h
      go held was_at h = waits (ap unanswered was_at) h
      go (answered s results) was_at h = over (answered s results) was_at refl h d.place refl
      go done was_at h = over done was_at refl h d.place refl

  coming-waits : (m : ℕ) (fs : List Stage) (S : Type 0) (p : Place) → unanswered p ≡ true → S → Coming later m fs S p
  coming-waits m fs S on_its_way waits h = h
  coming-waits m fs S held waits h = h
  coming-waits m fs S (answered s results) waits h = absurd (cc waits)
  coming-waits m fs S done waits h = absurd (cc waits)

  -- 5. A filter that is quiet is asked
  from-still : (m i : ℕ) (g : Stage) (gs : List Stage) (R : ℕ → Type 0) (s : State) → StillState g.sieve m s
      → transfers_by g.uid later.traffic ≡ m → Quiet later m gs → WorkingState later m i g gs R s
  from-still m i g gs R absent h n q = (h, n, q)
  from-still m i g gs R asleep h n q = tt
  from-still m i g gs R (idle vars) h n q = (h, n, q)
  from-still m i g gs R (busy j (in_filter (opens given)) a vars) h n q = (h.0, n, q)
  from-still m i g gs R (busy j (in_filter open_saved) a vars) h n q = (h.0, n, q)
  from-still m i g gs R (busy j (in_filter (transfers p)) a vars) h n q = absurd h.1
  from-still m i g gs R (busy j (in_filter (transfer_saved p)) a vars) h n q = absurd h.1
  from-still m i g gs R (busy j (in_filter asked) a vars) h n q = absurd h.1
  from-still m i g gs R (busy j (in_filter (item_saved b)) a vars) h n q = absurd h.1
  from-still m i g gs R (busy j (in_cell st) a vars) h n q = absurd h
  from-still m i g gs R (busy j (in_directory st) a vars) h n q = absurd h
  from-still m i g gs R (busy j (in_lines st) a vars) h n q = absurd h
  from-still m i g gs R (busy j (in_sink st) a vars) h n q = absurd h

  -- a new call, and no other is new
  record IsNewCall (v : Uid) (target : Cap) (given : List Datum) (i : ℕ) : Type 0 where
    made_so : (d : Call) → call_at later.traffic i ≡ Some d → (d.target ≡ target) × (d.args ≡ given)
    rest : (j : ℕ) (d : Call) → call_at later.traffic j ≡ Some d → (j ≡ i) ⊎ (call_at w.traffic j ≡ Some d)

  becomes-working : (v : Uid) (m i : ℕ) (gs : List Stage) (target : Cap) (given : List Datum) → Facts v gs → IsNewCall v target given i
      → target.uid ≡ source gs → position given ≡ pos m → Quiet w m gs → Working later m i gs
  becomes-working v m i [] target given facts new to at q = tt
  becomes-working v m i (g ∷ gs) target given facts new to at q =
      let s = still-state v g (source gs) facts.0 m q.0.none q.0.state in (
        λ d is. (let x = new.made_so d is in (ap (λ (z : Cap). z.uid) x.0 ∙ to, ap position x.1 ∙ at)),
        λ j d is pending. only j d pending (new.rest j d is),
        from-still m i g gs (λ j. Working later m j gs) (state_of later g.uid) s.0
            (asked-same H w c e seat allowed g.uid s.1 ∙ q.0.count) (quiet-next g.uid m gs facts.1 s.1 q.1),
      )
    where
      only : (j : ℕ) (d : Call) → IsPending g.uid d → (j ≡ i) ⊎ (call_at w.traffic j ≡ Some d) → j ≡ i
      only j d pending (inl same) = same
      only j d pending (inr old) = absurd (q.0.none j d old pending)

  -- an Eject makes a call
  module _ (u : Uid) (p : ℕ) (target : Cap) (operation : List ℕ) (given : List Datum) (at_once : Option Status)
      (sent_so : later.traffic ≡ with_call (next_call w.traffic) (Process u p) target operation given at_once w.traffic) where
    abbrev made_call : Call
    made_call = new_call (Process u p) target operation given at_once

    pub old-call : (j : ℕ) (b : Call) → call_at w.traffic j ≡ Some b
        → call_at (with_call (next_call w.traffic) (Process u p) target operation given at_once w.traffic) j ≡ Some b
    old-call j b at_b = call-more (next_call w.traffic) (Process u p) target operation given at_once w.traffic j
        ∙ go (eq_by_cmp nat_cmp j (next_call w.traffic)) refl
      where
        go : (t : Bool) → eq_by_cmp nat_cmp j (next_call w.traffic) ≡ t → cond t (Some made_call) (call_at w.traffic j) ≡ Some b
        go true same = absurd (let bad : None ≡ Some b = sym (none-behind 1 w.traffic.calls seat.site.known.numbered j
            (let one : j ≡ next_call w.traffic = same-true j (next_call w.traffic) same in omega (arith, one))) ∙ at_b in cc bad)
        go false apart = at_b

    either : (j : ℕ) (z : Call) → call_at later.traffic j ≡ Some z
        → ((j ≡ next_call w.traffic) × (made_call ≡ z)) ⊎ (call_at w.traffic j ≡ Some z)
    either j z is_z = go (eq_by_cmp nat_cmp j (next_call w.traffic)) refl (sym (ap (λ t. call_at t j) sent_so
        ∙ call-more (next_call w.traffic) (Process u p) target operation given at_once w.traffic j) ∙ is_z)
      where
        go : (t : Bool) → eq_by_cmp nat_cmp j (next_call w.traffic) ≡ t → cond t (Some made_call) (call_at w.traffic j) ≡ Some z
            → ((j ≡ next_call w.traffic) × (made_call ≡ z)) ⊎ (call_at w.traffic j ≡ Some z)
        go true same h = inl (same-true j (next_call w.traffic) same, same-some h)
        go false apart h = inr h

    new-target : (o : Option Status) → (new_call (Process u p) target operation given o).target ≡ target
    new-target None = refl
    new-target (Some why) = refl

    new-args : (o : Option Status) → (new_call (Process u p) target operation given o).args ≡ given
    new-args None = refl
    new-args (Some why) = refl

    is-new : IsNewCall u target given (next_call w.traffic)
    is-new = record {
      made_so = λ z is_z. made z (either (next_call w.traffic) z is_z);
      rest = λ j z is_z. rest-of j z (either j z is_z);
    }
      where
        made : (z : Call) → ((next_call w.traffic ≡ next_call w.traffic) × (made_call ≡ z))
            ⊎ (call_at w.traffic (next_call w.traffic) ≡ Some z)
            → (z.target ≡ target) × (z.args ≡ given)
        made z (inl h) = (
          ap (λ (y : Call). y.target) (sym h.1) ∙ new-target at_once,
          ap (λ (y : Call). y.args) (sym h.1) ∙ new-args at_once,
        )
        made z (inr h) = absurd (let bad : None ≡ Some z = sym (none-behind 1 w.traffic.calls seat.site.known.numbered
            (next_call w.traffic) (omega arith)) ∙ h in cc bad)

        rest-of : (j : ℕ) (z : Call) → ((j ≡ next_call w.traffic) × (made_call ≡ z)) ⊎ (call_at w.traffic j ≡ Some z)
            → (j ≡ next_call w.traffic) ⊎ (call_at w.traffic j ≡ Some z)
        rest-of j z (inl h) = inl h.0
        rest-of j z (inr h) = inr h

    pub count-now : operation ≡ codes "Transfer" → (n : ℕ) → transfers_by u w.traffic ≡ n → transfers_by u later.traffic ≡ n + 1
    count-now transfer n h = ap (transfers_by u) sent_so
        ∙ ap (λ o. transfers_by u (with_call (next_call w.traffic) (Process u p) target o given at_once w.traffic)) transfer
        ∙ asked-more u p target given at_once w.traffic seat.site.known.numbered ∙ ap (λ z. z + 1) h

    -- and no other call of it is open
    pub asked-now : (m : ℕ) (fs : List Stage) → Facts u fs
        → ((i q : ℕ) (z : Call) → call_at w.traffic i ≡ Some z → z.open_ ≡ true → z.asker ≡ Process u q → ⊥) → target.uid ≡ source fs
        → position given ≡ pos m → Quiet w m fs → OpenCalls later u (λ i c. Coming later m fs (Working later m i fs) c.place)
    asked-now m fs facts none_open to at q j r z is_z opened asker = go (either j z is_z)
      where
        place : (o : Option Status) → new_call (Process u p) target operation given o ≡ z
            → Coming later m fs (Working later m (next_call w.traffic) fs) z.place
        place None same = subst (Coming later m fs (Working later m (next_call w.traffic) fs)) (ap (λ (y : Call). y.place) same)
            (becomes-working u m (next_call w.traffic) fs target given facts is-new to at q)
        place (Some why) same = absurd (let bad : false ≡ true = ap (λ (y : Call). y.open_) same ∙ opened in cc bad)

        go : ((j ≡ next_call w.traffic) × (made_call ≡ z)) ⊎ (call_at w.traffic j ≡ Some z)
            → Coming later m fs (Working later m j fs) z.place
        go (inl h) = subst (λ j. Coming later m fs (Working later m j fs) z.place) (sym h.0) (place at_once h.1)
        go (inr h) = absurd (none_open j r z h opened asker)

  -- 6. What comes to an Eject that asks nothing
  module _ (u : Uid) (fs : List Stage) (facts : Facts u fs) (m : ℕ) (silent : AsksNow w e.event u → ⊥)
      (before : (i : ℕ) → Working w m i fs → (b z : Call) → call_at w.traffic i ≡ Some b
      → call_at later.traffic i ≡ Some z → Was (Answered w e.event) (Asked w e.event) i b z → unanswered b.place ≡ true
      → Coming later m fs (Working later m i fs) z.place) where
    abbrev OldCalls : Type 0
    OldCalls = OpenCalls w u (λ i c. Coming w m fs (Working w m i fs) c.place)

    still-quiet : Quiet w (m + 1) fs → Quiet later (m + 1) fs
    still-quiet q = quiet-next u (m + 1) fs facts silent q

    item-so : (x y : Answer) → MayBeTold w e.event u x y → IfItem (came x) (Quiet w (m + 1) fs) → OldCalls
        → IfItem (came y) (Quiet later (m + 1) fs)
    item-so _ _ (as_before x) h calls = if-map (came x) (Quiet w (m + 1) fs) (Quiet later (m + 1) fs) still-quiet h
    item-so _ _ (a_code x s) h calls = tt
    item-so _ _ (no_results x s) h calls = if-nothing (came (Told s [])) (Quiet later (m + 1) fs) (came-nothing s)
    item-so _ _ (what_came x s results coming) h calls = if-map (came (Told s results)) (Quiet w (m + 1) fs) (Quiet later (m + 1) fs)
        still-quiet (subst (Coming w m fs (Working w m coming.number fs)) coming.place
        (calls coming.number coming.process coming.call coming.at coming.opened coming.asker))

    calls-so : OldCalls → OpenCalls later u (λ i c. Coming later m fs (Working later m i fs) c.place)
    calls-so calls i p z is_z opened asker = go ((calls-go H w c e seat allowed).back i z is_z)
      where
        old : (o : Option Call) → call_at w.traffic i ≡ o → IsSomeAnd o (λ b. Was (Answered w e.event) (Asked w e.event) i b z)
            → Coming later m fs (Working later m i fs) z.place
        old None at_b h = absurd h
        old (Some b) at_b h = coming-later m fs (Working w m i fs) (Working later m i fs) i b z at_b h
            (calls i p b at_b (h.opened opened) (h.asker ∙ asker)) still-quiet
            (λ wait work. before i work b z at_b is_z h wait)

        go : IsSomeAnd (call_at w.traffic i) (λ b. Was (Answered w e.event) (Asked w e.event) i b z)
            ⊎ IsNew (Answered w e.event) (Asked w e.event) i z → Coming later m fs (Working later m i fs) z.place
        go (inl h) = old (call_at w.traffic i) refl h
        go (inr h) = absurd (silent (h.asker u p asker))

  -- 7. The first filter, asked by call k for item m
  module _ (v : Uid) (f : Stage) (fs : List Stage) (facts : Facts v (f ∷ fs)) (m k : ℕ) (mute : AsksNow w e.event v → ⊥) (a d : Call)
      (at : call_at w.traffic k ≡ Some a) (is : call_at later.traffic k ≡ Some d) (was : Was (Answered w e.event) (Asked w e.event) k a d)
      (waits : unanswered a.place ≡ true) (asks_for : AsksFor w k m f.uid) (only : OnlyPending w f.uid k)
      (before : (AsksNow w e.event f.uid → ⊥) → (i : ℕ) → Working w m i fs → (b z : Call) → call_at w.traffic i ≡ Some b
      → call_at later.traffic i ≡ Some z → Was (Answered w e.event) (Asked w e.event) i b z → unanswered b.place ≡ true
      → Coming later m fs (Working later m i fs) z.place) where
    abbrev Now : Type 0
    Now = Coming later m (f ∷ fs) (Working later m k (f ∷ fs)) d.place

    abbrev OldState : State → Type 0
    OldState = WorkingState w m k f fs (λ i. Working w m i fs)

    abbrev NewState : State → Type 0
    NewState = WorkingState later m k f fs (λ i. Working later m i fs)

    working : NewState (state_of later f.uid) → Working later m k (f ∷ fs)
    working state = (
      λ b is_b. (let same : d ≡ b = same-some (sym is ∙ is_b) in let x = asks_for a at in (
        ap (λ (z : Call). z.target.uid) (sym same) ∙ ap (λ (z : Cap). z.uid) (sym was.target) ∙ x.0,
        ap (λ (z : Call). position z.args) (sym same) ∙ ap position (sym was.args) ∙ x.1,
      )),
      (λ j b is_b pending. (let z = was-pending v f (source fs) facts.0 mute j b is_b pending in only j z.0 z.1 z.2)),
      state,
    )

    -- it goes on so where it is as it was
    unanswered-so : d ≡ a → NewState (state_of later f.uid) → Now
    unanswered-so same state = coming-waits m (f ∷ fs) (Working later m k (f ∷ fs)) d.place
        (ap (λ (z : Call). unanswered z.place) same ∙ waits) (working state)

    -- a turn is of no process of it
    module _ (other : (p : ℕ) (said : Shown) → e.event ≡ event.Process f.uid p said → ⊥) where
      silent : AsksNow w e.event f.uid → ⊥
      silent n = other n.process n.said n.is

      count : (n : ℕ) → transfers_by f.uid w.traffic ≡ n → transfers_by f.uid later.traffic ≡ n
      count n h = asked-same H w c e seat allowed f.uid silent ∙ h

      quiet : (n : ℕ) → Quiet w n fs → Quiet later n fs
      quiet n q = quiet-next f.uid n fs facts.1 silent q

      at-left : (j : ℕ) (st : FilterStage) (x y : Answer) (vars : List Datum) → MayBeTold w e.event f.uid x y
          → At w m k f fs (λ i. Working w m i fs) j st x vars → At later m k f fs (λ i. Working later m i fs) j st y vars
      at-left j asked x y vars told h = (
        h.0,
        h.1,
        count (m + 1) h.2,
        item-so f.uid fs facts.1 m silent (before silent) x y told h.3 h.4,
        calls-so f.uid fs facts.1 m silent (before silent) h.4,
      )
      at-left j (item_saved true) x y vars told h = (h.0, h.1, count (m + 1) h.2, quiet (m + 1) h.3)
      at-left j (item_saved false) x y vars told h = h
      at-left j (transfers p) x y vars told h = (h.0, h.1, count m h.2, quiet m h.3)
      at-left j (transfer_saved p) x y vars told h = (h.0, h.1, count m h.2, quiet m h.3)
      at-left j (opens given) x y vars told h = (h.0, count m h.1, quiet m h.2)
      at-left j open_saved x y vars told h = (h.0, count m h.1, quiet m h.2)

      left-state : (s t : State) → FilterLeft v f (source fs) facts.0 s t → OldState s → NewState t
      left-state _ _ (sleeps s) h = tt
      left-state _ _ stays_absent h = (h.0, count m h.1, quiet m h.2)
      left-state _ _ is_born h = (got-first f.sieve ∙ ap pos (sym h.0), count m h.1, quiet m h.2)
      left-state _ _ (stays_idle vars) h = (h.0, count m h.1, quiet m h.2)
      left-state _ _ (starts vars j b x st) h = subst (λ z. NewState (busy j z x vars)) (sym (filter-first f.sieve b.operation b.args))
          (go (same_text b.operation (codes "Open")) refl)
        where
          go : (o : Bool) → same_text b.operation (codes "Open") ≡ o
              → NewState (busy j (in_filter (cond o (opens b.args) (transfers (position b.args)))) x vars)
          go true is_open = (h.0, count m h.1, quiet m h.2)
          go false no_open = (
            only j b st.at (st.to, transfer-op f.sieve b st.fits no_open, ap unanswered st.held_there),
            h.0,
            count m h.1,
            quiet m h.2,
          )
      left-state _ _ (goes_on j (in_filter st) x y vars told) h = at-left j st x y vars told h
      left-state _ _ (goes_on j (in_cell st) x y vars told) h = absurd h
      left-state _ _ (goes_on j (in_directory st) x y vars told) h = absurd h
      left-state _ _ (goes_on j (in_lines st) x y vars told) h = absurd h
      left-state _ _ (goes_on j (in_sink st) x y vars told) h = absurd h

      left-so : FilterLeft v f (source fs) facts.0 (state_of w f.uid) (state_of later f.uid) → OldState (state_of w f.uid) → Now
      left-so left h = go d.place refl
        where
          state : Working later m k (f ∷ fs)
          state = working (left-state (state_of w f.uid) (state_of later f.uid) left h)

          by : (s : Status) (results : List Datum) → (a.place ≡ answered s results) ⊎ IsNews (Answered w e.event) k s results
              → IfItem (came (Told s results)) (Quiet later (m + 1) (f ∷ fs))
          by s results (inl same) = absurd (let bad : true ≡ false = sym waits ∙ ap unanswered same in cc bad)
          by s results (inr (inl empty)) = if-nothing (came (Told s results)) (Quiet later (m + 1) (f ∷ fs))
              (ap (λ z. came (Told s z)) empty ∙ came-nothing s)
          by s results (inr (inr x)) = let y = answered-of k a s results at x in
              absurd (other y.1.0 y.1.1 (y.1.2 ∙ ap (λ z. event.Process z y.1.0 y.1.1) (asks_for a at).0))

          go : (p : Place) → d.place ≡ p → Coming later m (f ∷ fs) (Working later m k (f ∷ fs)) p
          go on_its_way at_d = state
          go held at_d = state
          go (answered s results) at_d = by s results (was.answer s results at_d)
          go done at_d = tt

    -- a turn of a process of it, which serves this call and comes to these values, what is left to do, and this effect
    module _ (call : ℕ) (vars : List Datum) (st : FilterStage) (eff : Effect)
        (ends : FilterEnds v f (source fs) facts.0 call vars (in_filter st) eff)
        (only_so : AsksNow w e.event f.uid → (target : Cap) × (operation : List ℕ) × (given : List Datum)
        × (eff ≡ effect.Invoke target operation given)) where
      -- it answers, and no item
      returns-none : (results : List Datum) → eff ≡ effect.Return results → IsNone (came (Told status.Ok results))
          → ((k ≡ call → ⊥) → NewState (idle vars)) → Now
      returns-none results eq none state = by (subst (FilterEnds v f (source fs) facts.0 call vars (in_filter st)) eq ends)
        where
          by : FilterEnds v f (source fs) facts.0 call vars (in_filter st) (effect.Return results) → Now
          by h = go (answered-place h.1.0 results w.traffic k a d at (ap (λ t. call_at t k) (sym h.1.2) ∙ is))
            where
              go : Stands k h.1.0.call a d (GivenBack status.Ok results d.place ⊎ GivenBack status.TooLarge [] d.place) → Now
              go (inl x) = unanswered-so x.1 (subst NewState (sym h.0) (state (λ one. x.0 (one ∙ sym h.1.1))))
              go (inr x) = given-back later m (f ∷ fs) (Working later m k (f ∷ fs)) results d.place
                  (if-none (came (Told status.Ok results)) (Quiet later (m + 1) (f ∷ fs)) none) x.1

      -- it is saved
      saves-so : eff ≡ effect.Checkpoint → ((y : Answer) → came y ≡ nothing → NewState (busy call (in_filter st) y vars)) → Now
      saves-so eq state = by (subst (FilterEnds v f (source fs) facts.0 call vars (in_filter st)) eq ends)
        where
          by : FilterEnds v f (source fs) facts.0 call vars (in_filter st) effect.Checkpoint → Now
          by h = unanswered-so (same-some (sym is ∙ ap (λ t. call_at t k) h.1 ∙ at)) (subst NewState (sym h.0.2) (state h.0.0 h.0.1))

      -- and where it asks nothing, the others are as they were
      mutely : ((target : Cap) (operation : List ℕ) (given : List Datum) → eff ≡ effect.Invoke target operation given → ⊥)
          → AsksNow w e.event f.uid → ⊥
      mutely none n = let x = only_so n in none x.0 x.1 x.2 x.3

      own-opening : (got : ℤ) → got ≡ pos m → OpeningEnds f.sieve got vars st eff → transfers_by f.uid w.traffic ≡ m → Quiet w m fs → Now
      own-opening got got_is h n q = go eff refl h
        where
          none : (target : Cap) (operation : List ℕ) (given : List Datum) → eff ≡ effect.Invoke target operation given → ⊥
          none target operation given eq = subst (OpeningEnds f.sieve got vars st) eq h

          n' : transfers_by f.uid later.traffic ≡ m
          n' = asked-same H w c e seat allowed f.uid (mutely none) ∙ n

          q' : Quiet later m fs
          q' = quiet-next f.uid m fs facts.1 (mutely none) q

          opening : (st : FilterStage) → IsOpening st → got_in f.sieve vars ≡ pos m → (y : Answer)
              → NewState (busy call (in_filter st) y vars)
          opening (opens given) o g y = (g, n', q')
          opening open_saved o g y = (g, n', q')
          opening _ o g y = absurd o

          go : (x : Effect) → eff ≡ x → OpeningEnds f.sieve got vars st x → Now
          go (effect.Return results) eq x = returns-none results eq x.1 (λ other. (x.0 ∙ got_is, n', q'))
          go effect.Checkpoint eq x = saves-so eq (λ y nothing_came. opening st x.1 (x.0 ∙ got_is) y)
          go _ eq x = absurd x

      own-asking : call ≡ k → AskingEnds f.sieve m vars st eff → transfers_by f.uid w.traffic ≡ m → Quiet w m fs
          → ((target : Cap) (operation : List ℕ) (given : List Datum) → eff ≡ effect.Invoke target operation given
          → target.uid ≡ source fs)
          → ((i q : ℕ) (z : Call) → call_at w.traffic i ≡ Some z → z.open_ ≡ true → z.asker ≡ Process f.uid q → ⊥) → Now
      own-asking serves h n q of_before none_open = go st refl eff refl h
        where
          go : (s : FilterStage) → st ≡ s → (x : Effect) → eff ≡ x → AskingEnds f.sieve m vars s x → Now
          go s at_s (effect.Return results) eq x = returns-none results eq x.1 (λ other. absurd (other (sym serves)))
          go (transfer_saved p) at_s effect.Checkpoint eq x = saves-so eq (λ y nothing_came. subst
              (λ z. NewState (busy call (in_filter z) y vars)) (sym at_s) (
                serves,
                x,
                asked-same H w c e seat allowed f.uid (mutely none) ∙ n,
                quiet-next f.uid m fs facts.1 (mutely none) q,
              ))
            where
              none : (target : Cap) (operation : List ℕ) (given : List Datum) → eff ≡ effect.Invoke target operation given → ⊥
              none target operation given asked_so = let bad : effect.Checkpoint ≡ effect.Invoke target operation given = sym eq
                  ∙ asked_so in cc bad
          go asked at_s (effect.Invoke target operation given) eq x =
              by (subst (FilterEnds v f (source fs) facts.0 call vars (in_filter st)) eq ends)
            where
              by : FilterEnds v f (source fs) facts.0 call vars (in_filter st) (effect.Invoke target operation given) → Now
              by ends = unanswered-so (same-some (sym is ∙ ap (λ t. call_at t k) ends.1.2
                  ∙ old-call f.uid ends.1.0 target operation given ends.1.1 ends.1.2 k a at))
                  (subst NewState (sym ends.0.2) (subst (λ z. NewState (busy call (in_filter z) ends.0.0 vars)) (sym at_s) (
                    serves,
                    x.0,
                    count-now f.uid ends.1.0 target operation given ends.1.1 ends.1.2 x.1 m n,
                    if-nothing (came ends.0.0) (Quiet later (m + 1) fs) ends.0.1,
                    asked-now f.uid ends.1.0 target operation given ends.1.1 ends.1.2 m fs facts.1 none_open
                        (of_before target operation given eq) x.2 q,
                  )))
          go _ at_s _ eq x = absurd x

      own-taking : call ≡ k → (x : Came) → TakingEnds f.sieve m x vars st eff → transfers_by f.uid w.traffic ≡ m + 1
          → IfItem x (Quiet w (m + 1) fs) → Now
      own-taking serves x h n q = go x st refl eff refl h q
        where
          go : (x : Came) (s : FilterStage) → st ≡ s → (y : Effect) → eff ≡ y → TakingEnds f.sieve m x vars s y
              → IfItem x (Quiet w (m + 1) fs) → Now
          go (an_item t) (item_saved true) at_s effect.Checkpoint eq h q = saves-so eq (λ y nothing_came. subst
              (λ z. NewState (busy call (in_filter z) y vars)) (sym at_s) (
                serves,
                h,
                asked-same H w c e seat allowed f.uid (mutely none) ∙ n,
                quiet-next f.uid (m + 1) fs facts.1 (mutely none) q,
              ))
            where
              none : (target : Cap) (operation : List ℕ) (given : List Datum) → eff ≡ effect.Invoke target operation given → ⊥
              none target operation given asked_so = let bad : effect.Checkpoint ≡ effect.Invoke target operation given = sym eq
                  ∙ asked_so in cc bad
          go the_end s at_s (effect.Return results) eq h q = returns-none results eq h (λ other. absurd (other (sym serves)))
          go nothing s at_s (effect.Return results) eq h q = returns-none results eq h (λ other. absurd (other (sym serves)))
          go _ _ at_s _ eq h q = absurd h

      own-handing : call ≡ k → HandingEnds f.sieve (m + 1) vars eff → transfers_by f.uid w.traffic ≡ m + 1 → Quiet w (m + 1) fs → Now
      own-handing serves h n q = go eff refl h
        where
          go : (y : Effect) → eff ≡ y → HandingEnds f.sieve (m + 1) vars y → Now
          go (effect.Return results) eq h = by (subst (FilterEnds v f (source fs) facts.0 call vars (in_filter st)) eq ends)
            where
              none : (target : Cap) (operation : List ℕ) (given : List Datum) → eff ≡ effect.Invoke target operation given → ⊥
              none target operation given asked_so = let bad : effect.Return results ≡ effect.Invoke target operation given = sym eq
                  ∙ asked_so in
                  cc bad

              by : FilterEnds v f (source fs) facts.0 call vars (in_filter st) (effect.Return results) → Now
              by ends = which (answered-place ends.1.0 results w.traffic k a d at (ap (λ t. call_at t k) (sym ends.1.2) ∙ is))
                where
                  over : GivenBack status.Ok results d.place ⊎ GivenBack status.TooLarge [] d.place → unanswered d.place ≡ false
                  over (inl (inl at_d)) = ap unanswered at_d
                  over (inl (inr at_d)) = ap unanswered at_d
                  over (inr (inl at_d)) = ap unanswered at_d
                  over (inr (inr at_d)) = ap unanswered at_d

                  all-quiet : unanswered d.place ≡ false → Quiet later (m + 1) (f ∷ fs)
                  all-quiet out = (
                    record {
                      count = asked-same H w c e seat allowed f.uid (mutely none) ∙ n;
                      none = λ j b is_b pending. (let z = was-pending v f (source fs) facts.0 mute j b is_b pending in
                          let same : d ≡ b = same-some (sym is ∙ sym (ap (call_at later.traffic) (only j z.0 z.1 z.2)) ∙ is_b) in
                          let bad : true ≡ false = sym pending.2 ∙ ap (λ (y : Call). unanswered y.place) (sym same) ∙ out in cc bad);
                      state = subst (StillState f.sieve (m + 1)) (sym ends.0) h;
                    },
                    quiet-next f.uid (m + 1) fs facts.1 (mutely none) q,
                  )

                  which : Stands k ends.1.0.call a d (GivenBack status.Ok results d.place ⊎ GivenBack status.TooLarge [] d.place) → Now
                  which (inl x) = absurd (x.0 (sym serves ∙ sym ends.1.1))
                  which (inr x) = given-back later m (f ∷ fs) (Working later m k (f ∷ fs)) results d.place
                      (if-so (came (Told status.Ok results)) (Quiet later (m + 1) (f ∷ fs)) (all-quiet (over x.1))) x.1
          go _ eq h = absurd h

    -- whatever it is at
    own-at : (call : ℕ) (st : FilterStage) (answer : Answer) (vars : List Datum)
        → Holds (source fs) f.sieve facts.0.items (filter (rule_of f.sieve) vars)
        → IsLeft (source fs) f.sieve (position (A call)) (filter (rule_of f.sieve) vars) st
        → let y = filter_turn (rule_of f.sieve) vars st answer in FilterEnds v f (source fs) facts.0 call y.0 (in_filter y.1) y.2
        → (AsksNow w e.event f.uid → (target : Cap) × (operation : List ℕ) × (given : List Datum)
        × ((filter_turn (rule_of f.sieve) vars st answer).2 ≡ effect.Invoke target operation given))
        → ((target : Cap) (operation : List ℕ) (given : List Datum)
        → (filter_turn (rule_of f.sieve) vars st answer).2 ≡ effect.Invoke target operation given → target.uid ≡ source fs)
        → ((i q : ℕ) (z : Call) → call_at w.traffic i ≡ Some z → z.open_ ≡ true → z.asker ≡ Process f.uid q → ⊥)
        → At w m k f fs (λ i. Working w m i fs) call st answer vars → Now
    own-at call (opens given) answer vars holds left ends only_so of_before none_open h =
        let y = filter_turn (rule_of f.sieve) vars (opens given) answer in own-opening call y.0 y.1 y.2 ends only_so (got_in f.sieve vars)
        h.0 (opening-turn (source fs) f.sieve (position (A call)) vars (opens given) answer holds.arg left tt) h.1 h.2
    own-at call open_saved answer vars holds left ends only_so of_before none_open h =
        let y = filter_turn (rule_of f.sieve) vars open_saved answer in own-opening call y.0 y.1 y.2 ends only_so (got_in f.sieve vars)
        h.0 (opening-turn (source fs) f.sieve (position (A call)) vars open_saved answer holds.arg left tt) h.1 h.2
    own-at call (transfers p) answer vars holds left ends only_so of_before none_open h =
        let y = filter_turn (rule_of f.sieve) vars (transfers p) answer in own-asking call y.0 y.1 y.2 ends only_so h.0
        (transfer-turn (source fs) f.sieve facts.0.items vars m p answer facts.0.plain holds h.1
        (left ∙ ap (λ j. position (A j)) h.0 ∙ ap position (sym (args k a at)) ∙ (asks_for a at).1)) h.2 h.3 of_before none_open
    own-at call (transfer_saved p) answer vars holds left ends only_so of_before none_open h =
        let y = filter_turn (rule_of f.sieve) vars (transfer_saved p) answer in own-asking call y.0 y.1 y.2 ends only_so h.0
        (transfer_saved-turn (source fs) f.sieve facts.0.items vars m p answer facts.0.plain holds h.1
        (left.0 ∙ ap (λ j. position (A j)) h.0 ∙ ap position (sym (args k a at)) ∙ (asks_for a at).1)) h.2 h.3 of_before none_open
    own-at call asked answer vars holds left ends only_so of_before none_open h =
        let y = filter_turn (rule_of f.sieve) vars asked answer in own-taking call y.0 y.1 y.2 ends only_so h.0 (came answer)
        (taking-turn (source fs) f.sieve facts.0.items vars m answer facts.0.plain holds left.3 h.1) h.2 h.3
    own-at call (item_saved true) answer vars holds left ends only_so of_before none_open h =
        let y = filter_turn (rule_of f.sieve) vars (item_saved true) answer in own-handing call y.0 y.1 y.2 ends only_so h.0
        (handing-turn f.sieve vars (m + 1) answer holds.arg h.1) h.2 h.3
    own-at call (item_saved false) answer vars holds left ends only_so of_before none_open h = absurd h

    one-coming : OldState (state_of w f.uid) → Now
    one-coming h = go (filter-moves v f (source fs) facts.0)
      where
        go : Moves v f (source fs) facts.0 → Now
        go (inl t) = own-at t.call t.st t.answer t.vars t.holds t.left t.ends t.only t.asks_so t.none_open (subst OldState t.was h)
        go (inr x) = left-so x.0 x.1 h

  -- 8. All of them
  pub coming-next : (v : Uid) (m k : ℕ) (gs : List Stage) → Facts v gs → (AsksNow w e.event v → ⊥) → Working w m k gs → (a d : Call)
      → call_at w.traffic k ≡ Some a → call_at later.traffic k ≡ Some d → Was (Answered w e.event) (Asked w e.event) k a d
      → unanswered a.place ≡ true → Coming later m gs (Working later m k gs) d.place
  coming-next v m k [] facts mute h a d at is was waits = coming-nothing later m d.place
  coming-next v m k (f ∷ fs) facts mute h a d at is was waits = one-coming v f fs facts m k mute a d at is was waits h.0 h.1
      (λ silent i working b z at_b is_z was_b wait. coming-next f.uid m i fs facts.1 silent working b z at_b is_z was_b wait) h.2

  -- 9. The Sink
  pub record SinkFact (u b : Uid) : Type 0 where
    pub items : List (List ℕ)
    pub around : Around (sink_role b items) (sink-lawful b items) u A H w c e.event
    pub staged : Staged (sink_role b items) (sink-lawful b items) u A w
    pub unmoved : (how : StartEnd) (p : Option Pick) → e.event ≡ event.Activate u how p → ⊥

  module _ (u : Uid) (fs : List Stage) (facts : Facts u fs) (x : SinkFact u (source fs)) where
    abbrev SinkEnds : ℕ → List Datum → natives.Stage → Effect → Type 0
    SinkEnds = Ends (sink_role (source fs) x.items) (sink-lawful (source fs) x.items) u A H w c e seat allowed x.around x.staged

    abbrev SinkLeft : State → State → Type 0
    SinkLeft = moved.IsLeft (sink_role (source fs) x.items) (sink-lawful (source fs) x.items) u A H w c e seat allowed x.around x.staged

    abbrev pub Before : State → Type 0
    Before = Pumping w u fs

    abbrev pub Behind : State → Type 0
    Behind = Pumping later u fs

    -- nothing of it asks
    module _ (silent : AsksNow w e.event u → ⊥) where
      sink-count : (n : ℕ) → transfers_by u w.traffic ≡ n → transfers_by u later.traffic ≡ n
      sink-count n h = asked-same H w c e seat allowed u silent ∙ h

      sink-quiet : (n : ℕ) → Quiet w n fs → Quiet later n fs
      sink-quiet n q = quiet-next u n fs facts silent q

      before-it : (m i : ℕ) → Working w m i fs → (b z : Call) → call_at w.traffic i ≡ Some b
          → call_at later.traffic i ≡ Some z → Was (Answered w e.event) (Asked w e.event) i b z → unanswered b.place ≡ true
          → Coming later m fs (Working later m i fs) z.place
      before-it m i working b z at_b is_z was wait = coming-next u m i fs facts silent working b z at_b is_z was wait

      sink-at-left : (st : SinkStage) (a b : Answer) (vars : List Datum) → MayBeTold w e.event u a b → SinkAt w u fs st a vars
          → SinkAt later u fs st b vars
      sink-at-left (sink.asked wanted taken) a b vars told h = (
        sink-count (held_in vars + 1) h.0,
        item-so u fs facts (held_in vars) silent (before-it (held_in vars)) a b told h.1 h.2,
        calls-so u fs facts (held_in vars) silent (before-it (held_in vars)) h.2,
      )
      sink-at-left (sink.opens src) a b vars told h = (sink-count (held_in vars) h.0, sink-quiet (held_in vars) h.1)
      sink-at-left sink.open_saved a b vars told h = (sink-count (held_in vars) h.0, sink-quiet (held_in vars) h.1)
      sink-at-left (sink.pumps wanted) a b vars told h = (sink-count (held_in vars) h.0, sink-quiet (held_in vars) h.1)
      sink-at-left (sink.item_saved wanted taken) a b vars told h = (sink-count (held_in vars) h.0, sink-quiet (held_in vars) h.1)
      sink-at-left sink.reads a b vars told h = (sink-count (held_in vars) h.0, sink-quiet (held_in vars) h.1)

      sink-left : (s t : State) → SinkLeft s t → Before s → Behind t
      sink-left _ _ (sleeps s) h = tt
      sink-left _ _ stays_absent h = (sink-count 0 h.0, sink-quiet 0 h.1)
      sink-left _ _ is_born h = (sink-count 0 h.0, sink-quiet 0 h.1)
      sink-left _ _ (stays_idle vars) h = (sink-count (held_in vars) h.0, sink-quiet (held_in vars) h.1)
      sink-left _ _ (starts vars j b a st) h =
          go (same_text b.operation (codes "Open")) (same_text b.operation (codes "Pump"))
        where
          go : (o p : Bool) → Behind (busy j (in_sink (cond o (sink.opens (cap_in (argument 0 b.args)))
              (cond p (sink.pumps (number_in (argument 0 b.args))) sink.reads))) a vars)
          go true p = (sink-count (held_in vars) h.0, sink-quiet (held_in vars) h.1)
          go false true = (sink-count (held_in vars) h.0, sink-quiet (held_in vars) h.1)
          go false false = (sink-count (held_in vars) h.0, sink-quiet (held_in vars) h.1)
      sink-left _ _ (goes_on j (in_sink st) a b vars told) h = sink-at-left st a b vars told h
      sink-left _ _ (goes_on j (in_cell st) a b vars told) h = absurd h
      sink-left _ _ (goes_on j (in_directory st) a b vars told) h = absurd h
      sink-left _ _ (goes_on j (in_lines st) a b vars told) h = absurd h
      sink-left _ _ (goes_on j (in_filter st) a b vars told) h = absurd h

    -- its turn
    record SinkTakes : Type 0 where
      call : ℕ
      st : SinkStage
      answer : Answer
      vars : List Datum
      was : state_of w u ≡ busy call (in_sink st) answer vars
      ends : let y = sink_turn vars st answer in SinkEnds call y.0 (in_sink y.1) y.2
      only : AsksNow w e.event u → (target : Cap) × (operation : List ℕ) × (given : List Datum)
          × ((sink_turn vars st answer).2 ≡ effect.Invoke target operation given)
      asks_so : (target : Cap) (operation : List ℕ) (given : List Datum)
          → (sink_turn vars st answer).2 ≡ effect.Invoke target operation given → target.uid ≡ source fs
      none_open : (i q : ℕ) (d : Call) → call_at w.traffic i ≡ Some d → d.open_ ≡ true → d.asker ≡ Process u q → ⊥
      -- the turn itself
      process : ℕ
      said : Shown
      event_is : e.event ≡ event.Process u process said
      active : Active
      is_active : active_in (eject_at w u) ≡ Some active
      turned : Turned
      turns : turn_of u active process ≡ Some turned
      effect_is : turned.effect ≡ (sink_turn vars st answer).2

    sink-takes : TakesTurn (sink_role (source fs) x.items) (sink-lawful (source fs) x.items) u A H w c e seat allowed x.around x.staged
        → SinkTakes
    sink-takes t = go t.stage refl t.task
      where
        of-sink : (st : SinkStage) → t.stage ≡ in_sink st
            → native_turn native.Sink t.vars t.stage t.answer ≡ natives.among in_sink (sink_turn t.vars st t.answer)
        of-sink st is = ap (λ z. native_turn native.Sink t.vars z t.answer) is

        asks-before : (m : List Datum × natives.Stage × Effect) (target : Cap) (operation : List ℕ) (given : List Datum)
            → TurnEnds (sink_role (source fs) x.items) t.kept m.0 (A t.call) m.1 m.2 → m.2 ≡ effect.Invoke target operation given
            → target.uid ≡ source fs
        asks-before m target operation given ends is =
            (subst (TurnEnds (sink_role (source fs) x.items) t.kept m.0 (A t.call) m.1) is ends).0.of_before

        go : (stage : natives.Stage) → t.stage ≡ stage → SinkTask (source fs) x.items t.vars (A t.call) stage t.answer → SinkTakes
        go (in_sink st) is task = record {
          call = t.call;
          st = st;
          answer = t.answer;
          vars = t.vars;
          was = t.was ∙ ap (λ z. busy t.call z t.answer t.vars) is;
          ends = subst (λ (y : List Datum × natives.Stage × Effect). SinkEnds t.call y.0 y.1 y.2) (of-sink st is) t.ends;
          only = λ n. (let z = t.only n in (
            z.0,
            z.1,
            z.2,
            sym (ap (λ (y : List Datum × natives.Stage × Effect). y.2) (of-sink st is)) ∙ z.3,
          ));
          asks_so = λ target operation given is_asked. asks-before (native_turn native.Sink t.vars t.stage t.answer) target operation given
              t.keeps.ends (ap (λ (y : List Datum × natives.Stage × Effect). y.2) (of-sink st is) ∙ is_asked);
          none_open = t.none_open;
          process = t.process;
          said = t.said;
          event_is = t.event_is;
          active = t.active;
          is_active = t.is_active;
          turned = t.turned;
          turns = t.turns;
          effect_is = t.effect_is ∙ ap (λ (y : List Datum × natives.Stage × Effect). y.2) (of-sink st is);
        }
        go _ is task = absurd task

    -- what it comes to
    module _ (call : ℕ) (vars : List Datum) (st : SinkStage) (eff : Effect) (ends : SinkEnds call vars (in_sink st) eff)
        (only_so : AsksNow w e.event u → (target : Cap) × (operation : List ℕ) × (given : List Datum)
        × (eff ≡ effect.Invoke target operation given)) (m : ℕ) where
      mute-by : (y : Effect) → eff ≡ y
          → ((target : Cap) (operation : List ℕ) (given : List Datum) → y ≡ effect.Invoke target operation given → ⊥)
          → AsksNow w e.event u → ⊥
      mute-by y eq never n = let z = only_so n in never z.0 z.1 z.2 (sym eq ∙ z.3)

      resting-at : (st : SinkStage) (a : Answer) → IsResting st → held_in vars ≡ m → transfers_by u later.traffic ≡ m → Quiet later m fs
          → SinkAt later u fs st a vars
      resting-at (sink.opens src) a r has n q = (n ∙ sym has, subst (λ z. Quiet later z fs) (sym has) q)
      resting-at sink.open_saved a r has n q = (n ∙ sym has, subst (λ z. Quiet later z fs) (sym has) q)
      resting-at (sink.pumps wanted) a r has n q = (n ∙ sym has, subst (λ z. Quiet later z fs) (sym has) q)
      resting-at (sink.item_saved wanted taken) a r has n q = (n ∙ sym has, subst (λ z. Quiet later z fs) (sym has) q)
      resting-at sink.reads a r has n q = (n ∙ sym has, subst (λ z. Quiet later z fs) (sym has) q)
      resting-at (sink.asked wanted taken) a r has n q = absurd r

      saved-so : eff ≡ effect.Checkpoint → held_in vars ≡ m → IsResting st → transfers_by u w.traffic ≡ m → Quiet w m fs
          → Behind (state_of later u)
      saved-so eq has rests n q = by (subst (SinkEnds call vars (in_sink st)) eq ends)
        where
          silent : AsksNow w e.event u → ⊥
          silent = mute-by effect.Checkpoint eq (λ target operation given is. cc is)

          by : SinkEnds call vars (in_sink st) effect.Checkpoint → Behind (state_of later u)
          by h = subst Behind (sym h.0.2) (resting-at st h.0.0 rests has (sink-count silent m n) (sink-quiet silent m q))

      own-resting : RestingEnds m vars st eff → transfers_by u w.traffic ≡ m → Quiet w m fs
          → ((target : Cap) (operation : List ℕ) (given : List Datum) → eff ≡ effect.Invoke target operation given
          → target.uid ≡ source fs)
          → ((i q : ℕ) (z : Call) → call_at w.traffic i ≡ Some z → z.open_ ≡ true → z.asker ≡ Process u q → ⊥) → Behind (state_of later u)
      own-resting h n q of_before none_open = go st refl eff refl h
        where
          go : (s : SinkStage) → st ≡ s → (y : Effect) → eff ≡ y → RestingEnds m vars s y → Behind (state_of later u)
          go s at_s (effect.Return results) eq h = by (subst (SinkEnds call vars (in_sink st)) eq ends)
            where
              silent : AsksNow w e.event u → ⊥
              silent = mute-by (effect.Return results) eq (λ target operation given is. cc is)

              by : SinkEnds call vars (in_sink st) (effect.Return results) → Behind (state_of later u)
              by ends = subst Behind (sym ends.0) (
                sink-count silent m n ∙ sym h,
                subst (λ z. Quiet later z fs) (sym h) (sink-quiet silent m q),
              )
          go s at_s effect.Checkpoint eq h = saved-so eq h.0 (subst IsResting (sym at_s) h.1) n q
          go (sink.asked wanted taken) at_s (effect.Invoke target operation given) eq h =
              by (subst (SinkEnds call vars (in_sink st)) eq ends)
            where
              by : SinkEnds call vars (in_sink st) (effect.Invoke target operation given) → Behind (state_of later u)
              by ends = subst Behind (sym ends.0.2) (subst (λ z. Behind (busy call (in_sink z) ends.0.0 vars)) (sym at_s) (
                count-now u ends.1.0 target operation given ends.1.1 ends.1.2 h.1 m n ∙ ap (λ z. z + 1) (sym h.0),
                if-nothing (came ends.0.0) (Quiet later (held_in vars + 1) fs) ends.0.1,
                subst (λ z. OpenCalls later u (λ i c. Coming later z fs (Working later z i fs) c.place)) (sym h.0)
                    (asked-now u ends.1.0 target operation given ends.1.1 ends.1.2 m fs facts none_open
                    (of_before target operation given eq) h.2 q),
              ))
          go _ at_s _ eq h = absurd h

      own-taken : (y : Came) → of_sink.TakingEnds m y vars st eff → transfers_by u w.traffic ≡ m + 1 → IfItem y (Quiet w (m + 1) fs)
          → ((code has : ℤ) → eff ≡ effect.Return (number code ∷ number has ∷ []) → code ≡ pos 0) → (eff ≡ effect.Checkpoint)
          × (held_in vars ≡ m + 1) × IsResting st × Quiet w (m + 1) fs
      own-taken y h n q zero = go y eff refl h q
        where
          go : (y : Came) (z : Effect) → eff ≡ z → of_sink.TakingEnds m y vars st z → IfItem y (Quiet w (m + 1) fs)
              → (eff ≡ effect.Checkpoint) × (held_in vars ≡ m + 1) × IsResting st × Quiet w (m + 1) fs
          go (an_item t) effect.Checkpoint eq h q = (eq, h.0, h.1, q)
          go the_end (effect.Return results) eq h q = absurd (h.3 (zero h.0 h.1 (eq ∙ ap effect.Return h.2)))
          go nothing (effect.Return results) eq h q = absurd (h.3 (zero h.0 h.1 (eq ∙ ap effect.Return h.2)))
          go _ _ eq h q = absurd h

    abbrev pub this_step : Step
    this_step = record { world = w; entry = e; later = later }

    sink-own : ((t : Turned) (code has : ℤ) → PumpAnswers u this_step t code has → code ≡ pos 0) → (t : SinkTakes)
        → Before (busy t.call (in_sink t.st) t.answer t.vars) → Behind (state_of later u)
    sink-own zero t h = go t.st t.ends t.only t.asks_so zeros h
      where
        zeros : (code has : ℤ) → (sink_turn t.vars t.st t.answer).2 ≡ effect.Return (number code ∷ number has ∷ []) → code ≡ pos 0
        zeros code has eq = zero t.turned code has (record {
          process = t.process;
          said = t.said;
          event_is = t.event_is;
          active = t.active;
          is_active = t.is_active;
          turn = t.turns;
          answers = t.effect_is ∙ eq;
        })

        resting : (st : SinkStage) → IsResting st → (let y = sink_turn t.vars st t.answer in SinkEnds t.call y.0 (in_sink y.1) y.2)
            → (AsksNow w e.event u → (target : Cap) × (operation : List ℕ) × (given : List Datum)
            × ((sink_turn t.vars st t.answer).2 ≡ effect.Invoke target operation given))
            → ((target : Cap) (operation : List ℕ) (given : List Datum)
            → (sink_turn t.vars st t.answer).2 ≡ effect.Invoke target operation given → target.uid ≡ source fs)
            → (transfers_by u w.traffic ≡ held_in t.vars) × Quiet w (held_in t.vars) fs → Behind (state_of later u)
        resting st r ends only_so of_before h = let y = sink_turn t.vars st t.answer in
            own-resting t.call y.0 y.1 y.2 ends only_so (held_in t.vars) (resting-turn t.vars st t.answer r) h.0 h.1 of_before t.none_open

        go : (st : SinkStage) → (let y = sink_turn t.vars st t.answer in SinkEnds t.call y.0 (in_sink y.1) y.2)
            → (AsksNow w e.event u → (target : Cap) × (operation : List ℕ) × (given : List Datum)
            × ((sink_turn t.vars st t.answer).2 ≡ effect.Invoke target operation given))
            → ((target : Cap) (operation : List ℕ) (given : List Datum)
            → (sink_turn t.vars st t.answer).2 ≡ effect.Invoke target operation given → target.uid ≡ source fs)
            → ((code has : ℤ) → (sink_turn t.vars st t.answer).2 ≡ effect.Return (number code ∷ number has ∷ []) → code ≡ pos 0)
            → SinkAt w u fs st t.answer t.vars → Behind (state_of later u)
        go (sink.asked wanted taken) ends only_so of_before all_zero h =
            let y = sink_turn t.vars (sink.asked wanted taken) t.answer in
            let z = own-taken t.call y.0 y.1 y.2 ends only_so (held_in t.vars) (came t.answer)
            (of_sink.taking-turn t.vars wanted taken t.answer) h.0 h.1 all_zero in
            saved-so t.call y.0 y.1 y.2 ends only_so (held_in t.vars + 1) z.0 z.1 z.2 h.0 z.3
        go (sink.opens src) ends only_so of_before all_zero h = resting (sink.opens src) tt ends only_so of_before h
        go sink.open_saved ends only_so of_before all_zero h = resting sink.open_saved tt ends only_so of_before h
        go (sink.pumps wanted) ends only_so of_before all_zero h = resting (sink.pumps wanted) tt ends only_so of_before h
        go (sink.item_saved wanted taken) ends only_so of_before all_zero h =
            resting (sink.item_saved wanted taken) tt ends only_so of_before h
        go sink.reads ends only_so of_before all_zero h = resting sink.reads tt ends only_so of_before h

    abbrev SinkMoves : Type 0
    SinkMoves = SinkTakes ⊎ (((p : ℕ) (said : Shown) → e.event ≡ event.Process u p said → ⊥) × SinkLeft (state_of w u) (state_of later u))

    sink-moves : SinkMoves
    sink-moves = go (moves (sink_role (source fs) x.items) (sink-lawful (source fs) x.items) u A H w c e seat allowed x.around x.staged
        x.unmoved)
      where
        go : TakesTurn (sink_role (source fs) x.items) (sink-lawful (source fs) x.items) u A H w c e seat allowed x.around x.staged
            ⊎ (((p : ℕ) (said : Shown) → e.event ≡ event.Process u p said → ⊥) × SinkLeft (state_of w u) (state_of later u)) → SinkMoves
        go (inl t) = inl (sink-takes t)
        go (inr t) = inr t

    pub pumping-next : ((t : Turned) (code has : ℤ) → PumpAnswers u this_step t code has → code ≡ pos 0) → Before (state_of w u)
        → Behind (state_of later u)
    pumping-next zero h = go sink-moves
      where
        go : SinkMoves → Behind (state_of later u)
        go (inl t) = sink-own zero t (subst Before t.was h)
        go (inr y) = sink-left (λ n. y.0 n.process n.said n.is) (state_of w u) (state_of later u) y.1 h

    -- 10. As a Pump is answered 0
    pub counted : Before (state_of w u) → (t : Turned) (items : ℕ) → PumpAnswers u this_step t (pos 0) (pos items)
        → (transfers_by u later.traffic ≡ items) × Quiet later items fs
    counted h t items answers_so = go sink-moves
      where
        at-rest : (y : SinkTakes) → (st : SinkStage) → IsResting st → SinkAt w u fs st y.answer y.vars
            → (transfers_by u w.traffic ≡ held_in y.vars) × Quiet w (held_in y.vars) fs
        at-rest y (sink.opens src) r h = h
        at-rest y sink.open_saved r h = h
        at-rest y (sink.pumps wanted) r h = h
        at-rest y (sink.item_saved wanted taken) r h = h
        at-rest y sink.reads r h = h
        at-rest y (sink.asked wanted taken) r h = absurd r

        own : (y : SinkTakes) → (transfers_by u later.traffic ≡ items) × Quiet later items fs
        own y = (
          sink-count silent (held_in y.vars) old.0 ∙ sym z.1,
          subst (λ m. Quiet later m fs) (sym z.1) (sink-quiet silent (held_in y.vars) old.1),
        )
          where
            number_is : answers_so.process ≡ y.process
            number_is = let both : event.Process u answers_so.process answers_so.said ≡ event.Process u y.process y.said =
                sym answers_so.event_is ∙ y.event_is in cc both

            one : t ≡ y.turned
            one = same-some (sym answers_so.turn ∙ ap₂ (λ a p. turn_of u a p)
                (same-some (sym answers_so.is_active ∙ y.is_active)) number_is ∙ y.turns)

            is_zero : (sink_turn y.vars y.st y.answer).2 ≡ effect.Return (number (pos 0) ∷ number (pos items) ∷ [])
            is_zero = sym y.effect_is ∙ ap (λ (z : Turned). z.effect) (sym one) ∙ answers_so.answers

            z : IsResting y.st × (items ≡ held_in y.vars)
            z = zero-turn y.vars y.st y.answer items is_zero

            old : (transfers_by u w.traffic ≡ held_in y.vars) × Quiet w (held_in y.vars) fs
            old = at-rest y y.st z.0 (subst Before y.was h)

            silent : AsksNow w e.event u → ⊥
            silent n = let a = y.only n in let bad : effect.Return (number (pos 0) ∷ number (pos items) ∷ []) ≡ effect.Invoke a.0 a.1 a.2 =
                sym is_zero ∙ a.3 in cc bad

        go : SinkMoves → (transfers_by u later.traffic ≡ items) × Quiet later items fs
        go (inl y) = own y
        go (inr y) = absurd (y.0 answers_so.process answers_so.said answers_so.event_is)
