-- How many invocations the Pumps of a Sink take, in each step of every history.
use Rattle.std.proofs.Common.{suc, ap₂, inl, inr}
use Rattle.std.proofs.Common.{◌≡◌, ℕ, ◌+◌, ◌*◌, ℤ, pos, Bool, true, List, [], ◌∷◌, length, Option, None, Some, is_some, refl, ap}
use Rattle.std.proofs.Common.{sym, ◌∙◌, subst, arith}
use Rattle.std.specs.Prelude.{IsSomeAnd}
use Rattle.capability.specs.declared.Uid.{Uid}
use Rattle.capability.specs.declared.Cap.{Cap}
use Rattle.eden_value.specs.Datum.{Datum}
use Rattle.eden_model.specs.Traffic.{Traffic, Call, call_at, asks}
use Rattle.epl_syntax.specs.Meaning.{Turned}
use Rattle.epl_syntax.specs.Pipelines.{sifted, argument_of}
use Rattle.passive_store.specs.declared.store.Pick.{Pick}
use Rattle.journal.specs.declared.command.Command.{Command}
use Rattle.journal.specs.declared.event.Entry.{Entry}
use Rattle.journal.specs.declared.event.Event.TheVariants as event
use Rattle.journal.specs.declared.event.Shown.{Shown}
use Rattle.journal.specs.declared.event.StartEnd.{StartEnd}
use Rattle.journal.specs.World.{World, node_at}
use Rattle.journal.specs.Sites.{GoesOn}
use Rattle.journal.specs.Step.{Allows, next}
use Rattle.journal.specs.Run.{Step, beginning, AllowsLookUp, looked_up}
use Rattle.journal.specs.LegalRun.{opening_world}
use Rattle.history_laws.proofs.CallsKeep.{keeps-next as calls-keep, keeps-looked_up as calls-looked_up}
use Rattle.history_laws.proofs.Runs.{Any, of-any, each-step, world-booting}
use Rattle.history_laws.proofs.SiteRuns.{is-known}
use Rattle.history_laws.proofs.SeatRuns.{SeatWorld}
use Rattle.stream_laws.specs.Chains.{Stage, Chain, made_by, last_of, EachFilter, type_of_sieve}
use Rattle.stream_laws.specs.Streams.{PumpAnswers}
use Rattle.stream_laws.specs.Counts.{transfers_by, transfers_by_all, IsTakeOrNumber, AreTakesOrNumbers, IsNotActivated, AreNotActivated}
use Rattle.stream_laws.specs.Counts.{IsAskedBy}
use Rattle.stream_laws.specs.Counts.{AreAskedInOrder, AnswersZero, EachAsked, HaveAsked, IsUndisturbed, PumpsTakeSoMany}
use Rattle.stream_laws.specs.Counts.{StartsPump, StartsNoPump, IsFirstPump, FirstPumpAnswers, FirstPumpTakesSoMany, AnswersNone}
use Rattle.stream_laws.specs.Counts.{FirstPumpIsFirst}
use Rattle.stream_laws.proofs.Pipelines.{IsStage, IsPipeline, AreNewIn, IsNewIn}
use Rattle.stream_laws.proofs.Roles.{filter_role, filter-lawful, sink_role, sink-lawful}
use Rattle.stream_laws.proofs.StagedNodes.{Around}
use Rattle.stream_laws.proofs.Staged.{Staged}
use Rattle.stream_laws.proofs.Instances.{HandsOver, around-filter, around-sink, filter-hands, lines-hands}
use Rattle.stream_laws.proofs.Flows.{FilterOn, Rest, Flow, args-back, opens-back, pre-back, given, kept-calls, arguments_in}
use Rattle.stream_laws.proofs.Flows.{arguments-are, Inv, entry-inv, look-inv, opening-inv, no-look, OfNewPipelines}
use Rattle.stream_laws.proofs.Laws.{of-each}
use Rattle.stream_laws.proofs.States.{state_in, state_of}
use Rattle.stream_laws.proofs.Counting.{StillState, Quiet, Pumping}
use Rattle.stream_laws.proofs.CountSteps.{Fact, Facts, source, SinkFact, pumping-next, counted}
use Rattle.stream_laws.proofs.CountLooks.{pumping-looked, look-up-looks}
use Rattle.stream_laws.proofs.FirstPump.{StandsAt, ServesNoPump, first-next, first-starts, none-before, early-next, first-looked}
use Rattle.stream_laws.proofs.FirstPump.{early-looked}

-- 1. The filters from the Sink on
abbrev turned_over : List Stage → List Stage → List Stage
turned_over [] done = done
turned_over (f ∷ fs) done = turned_over fs (f ∷ done)

each-turned : (fs done : List Stage) (t : Traffic) (n : ℕ) → EachAsked (turned_over fs done) t n → EachAsked fs t n × EachAsked done t n
each-turned [] done t n h = (tt, h)
each-turned (f ∷ fs) done t n h = let x = each-turned fs (f ∷ done) t n h in ((x.1.0, x.0), x.1.1)

each-quiet : (w : World) (m : ℕ) (fs : List Stage) → Quiet w m fs → EachAsked fs w.traffic m
each-quiet w m [] q = tt
each-quiet w m (f ∷ fs) q = (q.0.count, each-quiet w m fs q.1)

sum-each : (fs : List Stage) (t : Traffic) (m : ℕ) → EachAsked fs t m → transfers_by_all fs t ≡ length fs * m
sum-each [] t m h = omega arith
sum-each (f ∷ fs) t m h = ap₂ (λ a b. a + b) h.0 (sum-each fs t m h.1) ∙ more (length fs) m
  where
    more : (n m : ℕ) → m + n * m ≡ suc n * m
    more n m = omega arith

asked-so-many : (c : Chain) (w : World) (items : ℕ) → transfers_by c.sink w.traffic ≡ items → Quiet w items (turned_over c.filters [])
    → HaveAsked c w.traffic items
asked-so-many c w items sink quiet = record {
  sink = sink;
  filters = each.0;
  together = ap₂ (λ a b. a + b) sink (sum-each c.filters w.traffic items each.0) ∙ total (length c.filters) items;
}
  where
    each : EachAsked c.filters w.traffic items × EachAsked [] w.traffic items
    each = each-turned c.filters [] w.traffic items (each-quiet w items (turned_over c.filters []) quiet)

    total : (n m : ℕ) → m + n * m ≡ (n + 1) * m
    total n m = omega arith

-- 2. What is known of them around an entry
module _ (A : ℕ → List Datum) (here : ℕ → Bool) (w : World) (x : Option Command) (e : Entry) (seat : SeatWorld here w)
    (allowed : Allows w x e) (args : (k : ℕ) (d : Call) → call_at w.traffic k ≡ Some d → d.args ≡ A k) (lines : Uid) where
  abbrev later : World
  later = next w x e

  abbrev Known : Uid → List (List ℕ) → Stage → Type 0
  Known before items f = Around (filter_role before f.sieve items) (filter-lawful before f.sieve items) f.uid A here w x e.event
      × Staged (filter_role before f.sieve items) (filter-lawful before f.sieve items) f.uid A w

  filters-known : (past : List Step) (before : Uid) (any items : List (List ℕ)) (fs : List Stage) → HandsOver w.traffic before items A
      → EachFilter (λ before items f. IsStage (record { world = w; entry = e; later = later } ∷ past) later.traffic before f.uid
      (type_of_sieve f.sieve) (argument_of f.sieve)) before any fs
      → EachFilter (FilterOn A w) before items fs
      → EachFilter Known before items fs × HandsOver w.traffic (last_of before fs) (made_by fs items) A
  filters-known past before any items [] hands pipe old = (tt, hands)
  filters-known past before any items (f ∷ fs) hands pipe old =
      let more = filters-known past f.uid (sifted f.sieve any) (sifted f.sieve items) fs
      (filter-hands before f.sieve items f.uid A w old.0) pipe.1 old.1 in (
        (
          (
            around-filter before f.sieve items f.uid A here w x e.event
                (given A here w x e seat allowed (filter_role before f.sieve items)
                (filter-lawful before f.sieve items) f.uid pipe.0.steps.0
                args) hands (opens-back A w later (kept-calls A here w x e seat allowed) f.uid before (argument_of f.sieve) pipe.0.opened),
            old.0,
          ),
          more.0,
        ),
        more.1,
      )

  abbrev Unmoved : List Stage → Type 0
  Unmoved [] = Unit {0}
  Unmoved (f ∷ fs) = ((how : StartEnd) (p : Option Pick) → e.event ≡ event.Activate f.uid how p → ⊥) × Unmoved fs

  fact : (items : List (List ℕ)) (v : Uid) (f : Stage) (b : Uid) → Known b items f → IsAskedBy later.traffic v f.uid
      → IsTakeOrNumber f.sieve
      → ((how : StartEnd) (p : Option Pick) → e.event ≡ event.Activate f.uid how p → ⊥) → Fact A here w x e seat allowed args lines v f b
  fact items v f b known asked plain unmoved = record {
    items = items;
    around = known.0;
    staged = known.1;
    unmoved = unmoved;
    asked = asked;
    plain = plain;
  }

  collect : (sink : Uid) (f : Stage) (fs done : List Stage) (items : List (List ℕ))
      → EachFilter Known (source A here w x e seat allowed args lines done) items (f ∷ fs) → AreAskedInOrder later.traffic (f ∷ fs) sink
      → AreTakesOrNumbers (f ∷ fs) → Unmoved (f ∷ fs) → Facts A here w x e seat allowed args lines f.uid done
      → Facts A here w x e seat allowed args lines sink (turned_over (f ∷ fs) done)
  collect sink f [] done items known asked plain unmoved facts = (
    fact items sink f (source A here w x e seat allowed args lines done) known.0 asked plain.0 unmoved.0,
    facts,
  )
  collect sink f (g ∷ fs) done items known asked plain unmoved facts = collect sink g fs (f ∷ done) (sifted f.sieve items) known.1 asked.1
      plain.1 unmoved.1 (
        fact items g.uid f (source A here w x e seat allowed args lines done) known.0 asked.0 plain.0 unmoved.0,
        facts,
      )

  facts-of : (sink : Uid) (fs : List Stage) (items : List (List ℕ)) → EachFilter Known lines items fs
      → AreAskedInOrder later.traffic fs sink
      → AreTakesOrNumbers fs → Unmoved fs → Facts A here w x e seat allowed args lines sink (turned_over fs [])
  facts-of sink [] items known asked plain unmoved = tt
  facts-of sink (f ∷ fs) items known asked plain unmoved = collect sink f fs [] items known asked plain unmoved tt

  last-is : (before : Uid) (fs done : List Stage) → before ≡ source A here w x e seat allowed args lines done
      → last_of before fs ≡ source A here w x e seat allowed args lines (turned_over fs done)
  last-is before [] done same = same
  last-is before (f ∷ fs) done same = last-is f.uid fs (f ∷ done) refl

-- 3. A chain that nothing disturbs, in the steps so far
record Calm (c : Chain) (past : List Step) (t : Traffic) : Type 0 where
  pipe : IsPipeline past t c
  plain : AreTakesOrNumbers c.filters
  asked : AreAskedInOrder t c.filters c.sink
  filters_stay : AreNotActivated c.filters past
  sink_stays : IsNotActivated c.sink past

asked-back : (t new : Traffic) → ((k : ℕ) (a : Call) → call_at t k ≡ Some a → IsSomeAnd (call_at new k) (GoesOn a)) → (v u : Uid)
    → IsAskedBy new v u → IsAskedBy t v u
asked-back t new kept v u h k a at to op = go (call_at new k) refl (kept k a at)
  where
    go : (o : Option Call) → call_at new k ≡ o → IsSomeAnd o (GoesOn a) → asks v a.asker ≡ true
    go None is x = absurd x
    go (Some d) is x = ap (asks v) (sym x.asker) ∙ h k d is (ap (λ (z : Cap). z.uid) x.target ∙ to) (x.operation ∙ op)

order-back : (t new : Traffic) → ((k : ℕ) (a : Call) → call_at t k ≡ Some a → IsSomeAnd (call_at new k) (GoesOn a)) → (fs : List Stage)
    (sink : Uid) → AreAskedInOrder new fs sink → AreAskedInOrder t fs sink
order-back t new kept [] sink h = tt
order-back t new kept (f ∷ []) sink h = asked-back t new kept sink f.uid h
order-back t new kept (f ∷ g ∷ fs) sink h = (asked-back t new kept g.uid f.uid h.0, order-back t new kept (g ∷ fs) sink h.1)

stay-back : (s : Step) (past : List Step) (fs : List Stage) → AreNotActivated fs (s ∷ past) → AreNotActivated fs past
stay-back s past [] h = tt
stay-back s past (f ∷ fs) h = (h.0.1, stay-back s past fs h.1)

calm-back : (c : Chain) (w later : World) → ((k : ℕ) (a : Call) → call_at w.traffic k ≡ Some a
    → IsSomeAnd (call_at later.traffic k) (GoesOn a))
    → (s : Step) (past : List Step) → Calm c (s ∷ past) later.traffic → Calm c past w.traffic
calm-back c w later kept s past h = record {
  pipe = (pre-back (arguments_in later.traffic) c w later kept s past
      (record { args = arguments-are later.traffic; pipe = h.pipe })).pipe;
  plain = h.plain;
  asked = order-back w.traffic later.traffic kept c.filters c.sink h.asked;
  filters_stay = stay-back s past c.filters h.filters_stay;
  sink_stays = h.sink_stays.1;
}

-- 4. An entry
module _ (here : ℕ → Bool) (c : Chain) (past : List Step) (w : World) (x : Option Command) (e : Entry) (allowed : Allows w x e)
    (i : Inv here c past w) (calm : Calm c (record { world = w; entry = e; later = next w x e } ∷ past) (next w x e).traffic) where
  abbrev behind : World
  behind = next w x e

  abbrev A : ℕ → List Datum
  A = arguments_in behind.traffic

  kept-so : (k : ℕ) (a : Call) → call_at w.traffic k ≡ Some a → IsSomeAnd (call_at behind.traffic k) (GoesOn a)
  kept-so = (calls-keep w x e (is-known here w i.seat.site.known) allowed).kept

  args-so : (k : ℕ) (d : Call) → call_at w.traffic k ≡ Some d → d.args ≡ A k
  args-so = args-back A w behind kept-so (arguments-are behind.traffic)

  flow : Flow A c w
  flow = i.flow A (pre-back A c w behind kept-so (record { world = w; entry = e; later = behind }) past
      (record { args = arguments-are behind.traffic; pipe = calm.pipe }))

  rest : Rest A c flow.lists.texts w
  rest = flow.rest flow.lists.texts (λ k. refl)

  known : EachFilter (Known A here w x e i.seat allowed args-so c.lines) c.lines flow.lists.texts c.filters
      × HandsOver w.traffic (last_of c.lines c.filters) (made_by c.filters flow.lists.texts) A
  known = filters-known A here w x e i.seat allowed args-so c.lines past c.lines [] flow.lists.texts c.filters
      (lines-hands flow.lists.texts c.lines A w flow.lists.texts (λ k. refl) flow.lists.lists) calm.pipe.filters rest.filters

  unmoved : (fs : List Stage) → AreNotActivated fs (record { world = w; entry = e; later = behind } ∷ past)
      → Unmoved A here w x e i.seat allowed args-so c.lines fs
  unmoved [] h = tt
  unmoved (f ∷ fs) h = (h.0.0, unmoved fs h.1)

  facts : Facts A here w x e i.seat allowed args-so c.lines c.sink (turned_over c.filters [])
  facts = facts-of A here w x e i.seat allowed args-so c.lines c.sink c.filters flow.lists.texts known.0 calm.asked calm.plain
      (unmoved c.filters calm.filters_stay)

  -- what is known of the Sink
  sink-around : Around (sink_role (last_of c.lines c.filters) (made_by c.filters flow.lists.texts))
      (sink-lawful (last_of c.lines c.filters) (made_by c.filters flow.lists.texts)) c.sink A here w x e.event
  sink-around = around-sink (last_of c.lines c.filters) (made_by c.filters flow.lists.texts) c.sink A here w x e.event
      (given A here w x e i.seat allowed (sink_role (last_of c.lines c.filters) (made_by c.filters flow.lists.texts))
      (sink-lawful (last_of c.lines c.filters) (made_by c.filters flow.lists.texts)) c.sink calm.pipe.sink.steps.0 args-so) known.1
      (opens-back A w behind kept-so c.sink (last_of c.lines c.filters) [] calm.pipe.sink.opened)

  sink-fact : SinkFact A here w x e i.seat allowed args-so c.lines c.sink
      (source A here w x e i.seat allowed args-so c.lines (turned_over c.filters []))
  sink-fact = subst (SinkFact A here w x e i.seat allowed args-so c.lines c.sink)
      (last-is A here w x e i.seat allowed args-so c.lines c.lines c.filters [] refl)
      (record {
        items = made_by c.filters flow.lists.texts;
        around = sink-around;
        staged = rest.drained;
        unmoved = calm.sink_stays.0;
      })

  calm-before : Calm c past w.traffic
  calm-before = calm-back c w behind kept-so (record { world = w; entry = e; later = behind }) past calm

  pumping-so : ((t : Turned) (code held : ℤ) → PumpAnswers c.sink (record { world = w; entry = e; later = behind }) t code held
      → code ≡ pos 0) → Pumping w c.sink (turned_over c.filters []) (state_of w c.sink)
      → Pumping behind c.sink (turned_over c.filters []) (state_of behind c.sink)
  pumping-so zero h = pumping-next A here w x e i.seat allowed args-so c.lines c.sink (turned_over c.filters []) facts sink-fact zero h

  counted-so : Pumping w c.sink (turned_over c.filters []) (state_of w c.sink) → (t : Turned) (items : ℕ)
      → PumpAnswers c.sink (record { world = w; entry = e; later = behind }) t (pos 0) (pos items)
      → HaveAsked c behind.traffic items
  counted-so h t items answers =
      let y = counted A here w x e i.seat allowed args-so c.lines c.sink (turned_over c.filters []) facts sink-fact h t items answers in
      asked-so-many c behind items y.0 y.1

  -- the first Pump of the Sink
  abbrev this_step : Step
  this_step = record { world = w; entry = e; later = behind }

  early-so : ((k : ℕ) → StartsPump c.sink k this_step → ⊥) → AnswersNone c.sink past × ServesNoPump (state_of w c.sink)
      → AnswersNone c.sink (this_step ∷ past) × ServesNoPump (state_of behind c.sink)
  early-so none h = early-next A here w x e i.seat allowed (last_of c.lines c.filters) (made_by c.filters flow.lists.texts) c.sink
      sink-around rest.drained calm.sink_stays.0 past none h.0 h.1

  starts-so : (k : ℕ) → StartsPump c.sink k this_step → AnswersNone c.sink past → StandsAt behind c.sink (this_step ∷ past) k
  starts-so k = first-starts A here w x e i.seat allowed (last_of c.lines c.filters) (made_by c.filters flow.lists.texts) c.sink
      sink-around rest.drained calm.sink_stays.0 past k

  first-so : (k : ℕ) → StandsAt w c.sink past k → StandsAt behind c.sink (this_step ∷ past) k
  first-so k = first-next A here w x e i.seat allowed (last_of c.lines c.filters) (made_by c.filters flow.lists.texts) c.sink
      sink-around rest.drained calm.sink_stays.0 past k

  none-so : (t : Turned) (code has : ℤ) → (h : FirstPumpAnswers c.sink past this_step t code has) → StandsAt w c.sink past h.call
      → AnswersNone c.sink past
  none-so t code has h stands = none-before A here w x e i.seat allowed (last_of c.lines c.filters) (made_by c.filters flow.lists.texts)
      c.sink sink-around rest.drained calm.sink_stays.0 past h.call stands t code has h.answers h.serves

-- 5. The law
record Counts (here : ℕ → Bool) (c : Chain) (past : List Step) (w : World) : Type 0 where
  inv : Inv here c past w
  pumping : Calm c past w.traffic → AnswersZero c.sink past → Pumping w c.sink (turned_over c.filters []) (state_of w c.sink)
  -- as long as the Sink started no Pump, and where the first one is then
  early : Calm c past w.traffic → StartsNoPump c.sink past → AnswersNone c.sink past × ServesNoPump (state_of w c.sink)
  first : Calm c past w.traffic → (k : ℕ) → IsFirstPump c.sink k past → StandsAt w c.sink past k

calm-of : (c : Chain) (past : List Step) (s : Step) → IsPipeline (s ∷ past) s.later.traffic c → IsUndisturbed c past s
    → Calm c (s ∷ past) s.later.traffic
calm-of c past s pipe h = record {
  pipe = pipe;
  plain = h.filters;
  asked = h.asked;
  filters_stay = h.filters_stay;
  sink_stays = h.sink_stays;
}

entry-counts : (here : ℕ → Bool) (c : Chain) (past : List Step) (w : World) (x : Option Command) (e : Entry) → Allows w x e
    → Counts here c past w → Counts here c (record { world = w; entry = e; later = next w x e } ∷ past) (next w x e)
entry-counts here c past w x e allowed i = record {
  inv = entry-inv here c past w x e allowed i.inv;
  pumping = λ calm zero. pumping-so here c past w x e allowed i.inv calm zero.0
      (i.pumping (calm-before here c past w x e allowed i.inv calm) zero.1);
  early = λ calm none. early-so here c past w x e allowed i.inv calm none.0
      (i.early (calm-before here c past w x e allowed i.inv calm) none.1);
  first = λ calm k is_first. by calm k is_first;
}
  where
    by : Calm c (record { world = w; entry = e; later = next w x e } ∷ past) (next w x e).traffic → (k : ℕ)
        → IsFirstPump c.sink k (record { world = w; entry = e; later = next w x e } ∷ past)
        → StandsAt (next w x e) c.sink (record { world = w; entry = e; later = next w x e } ∷ past) k
    by calm k (inl h) = starts-so here c past w x e allowed i.inv calm k h.0
        (i.early (calm-before here c past w x e allowed i.inv calm) h.1).0
    by calm k (inr h) = first-so here c past w x e allowed i.inv calm k
        (i.first (calm-before here c past w x e allowed i.inv calm) k h)

no-look-start : (w : World) (name : List ℕ) (target : Option Cap) (path : List (List ℕ)) (k : ℕ) (v : Uid) (p : ℕ)
    → AllowsLookUp w name target path (event.Start k v p) → ⊥
no-look-start w name None path k v p a = a
no-look-start w name (Some target) path k v p a = a

look-counts : (here : ℕ → Bool) (c : Chain) (past : List Step) (w : World) (name : List ℕ) (target : Option Cap) (path : List (List ℕ))
    (e : Entry) → AllowsLookUp w name target path e.event → Counts here c past w
    → Counts here c (record { world = w; entry = e; later = looked_up w name target path e.event } ∷ past)
    (looked_up w name target path e.event)
look-counts here c past w name target path e allowed i = record {
  inv = look-inv here c past w name target path e allowed i.inv;
  pumping = λ calm zero. pumping-looked w name target path e.event i.inv.seat.site.known.numbered allowed c.sink (turned_over c.filters [])
      (i.pumping (before calm) zero.1);
  early = λ calm none. (let h = i.early (before calm) none.1 in
      early-looked w behind (look-up-looks w name target path e.event i.inv.seat.site.known.numbered allowed) c.sink past this_step silent
      h.0 h.1);
  first = λ calm k is_first. by calm k is_first;
}
  where
    behind : World
    behind = looked_up w name target path e.event

    this_step : Step
    this_step = record { world = w; entry = e; later = behind }

    before : Calm c (this_step ∷ past) behind.traffic → Calm c past w.traffic
    before calm = calm-back c w behind
        (calls-looked_up w name target path e.event i.inv.seat.site.known.numbered allowed).kept this_step past calm

    silent : (p : ℕ) (said : Shown) → e.event ≡ event.Process c.sink p said → ⊥
    silent p said is = no-look w name target path c.sink p said (subst (AllowsLookUp w name target path) is allowed)

    by : Calm c (this_step ∷ past) behind.traffic → (k : ℕ) → IsFirstPump c.sink k (this_step ∷ past)
        → StandsAt behind c.sink (this_step ∷ past) k
    by calm k (inl h) = absurd (no-look-start w name target path k c.sink h.0.process
        (subst (AllowsLookUp w name target path) h.0.event_is allowed))
    by calm k (inr h) = first-looked w behind (look-up-looks w name target path e.event i.inv.seat.site.known.numbered allowed) c.sink past
        this_step silent k (i.first (before calm) k h)

new-quiet : (w : World) → w.traffic.calls ≡ [] → (fs done : List Stage) → AreNewIn w fs → Quiet w 0 done → Quiet w 0 (turned_over fs done)
new-quiet w none [] done new q = q
new-quiet w none (f ∷ fs) done new q = new-quiet w none fs (f ∷ done) new.1 (
  record {
    count = ap (λ cs. transfers_by f.uid (record w.traffic { calls = cs })) none;
    none = λ k d at pending. (let bad : None ≡ Some d = sym (ap (λ cs. call_at (record w.traffic { calls = cs }) k) none) ∙ at in cc bad);
    state = subst (λ o. StillState f.sieve 0 (state_in o)) (sym new.0) refl;
  },
  q,
)

opening-counts : (here : ℕ → Bool) (c : Chain) (w : World) → w.traffic.calls ≡ [] → IsNewIn w c → Inv here c [] w → Counts here c [] w
opening-counts here c w none new inv = record {
  inv = inv;
  pumping = λ calm zero. subst (λ o. Pumping w c.sink (turned_over c.filters []) (state_in o)) (sym new.sink) (
    ap (λ cs. transfers_by c.sink (record w.traffic { calls = cs })) none,
    new-quiet w none c.filters [] new.filters tt,
  );
  early = λ calm started. (tt, subst (λ o. ServesNoPump (state_in o)) (sym new.sink) tt);
  first = λ calm k is_first. absurd is_first;
}

-- what holds of each step behind what holds before it holds in each history
of-counts : (P : Chain → List Step → Step → Type 0)
    → ((here : ℕ → Bool) (c : Chain) (past : List Step) (w : World) (x : Option Command) (e : Entry) → Allows w x e → Counts here c past w
    → IsPipeline (record { world = w; entry = e; later = next w x e } ∷ past) (next w x e).traffic c
    → P c past (record { world = w; entry = e; later = next w x e }))
    → ((c : Chain) (past : List Step) (w : World) (name : List ℕ) (target : Option Cap) (path : List (List ℕ)) (e : Entry)
    → AllowsLookUp w name target path e.event → P c past (record { world = w; entry = e; later = looked_up w name target path e.event }))
    → OfNewPipelines P
of-counts P entries looks layout script disks history lays fits rules monitors begins c new =
    each-step Any (λ past w. Counts here c past w) (λ past s. IsPipeline (s ∷ past) s.later.traffic c → P c past s) (record {
      entries = λ past w x e any allowed i. (
        λ pipe. entries here c past w x e allowed i pipe,
        entry-counts here c past w x e allowed i,
      );
      look_ups = λ past w name target path e any allowed plain i. (
        λ pipe. looks c past w name target path e allowed,
        look-counts here c past w name target path e allowed i,
      );
    }) (beginning w0 script.nodes script.commands) [] history (of-any 1 script.nodes w0 script.commands)
    (subst (Counts here c []) (sym (world-booting 1 script.nodes w0 script.commands))
    (opening-counts here c w0 refl new (opening-inv layout script disks lays fits rules monitors c new))) begins
  where
    w0 : World
    w0 = opening_world layout script disks

    here : ℕ → Bool
    here n = is_some (node_at w0 n)

-- no Pump is answered in a look-up
no-look-answers : (c : Chain) (w : World) (name : List ℕ) (target : Option Cap) (path : List (List ℕ)) (e : Entry)
    → AllowsLookUp w name target path e.event → (t : Turned) (code has : ℤ)
    → PumpAnswers c.sink (record { world = w; entry = e; later = looked_up w name target path e.event }) t code has → ⊥
no-look-answers c w name target path e allowed t code has answers = no-look w name target path c.sink answers.process answers.said
    (subst (AllowsLookUp w name target path) answers.event_is allowed)

pub pumps-take-so-many : PumpsTakeSoMany
pumps-take-so-many = of-each _ (of-counts _
    (λ here c past w x e allowed i pipe h zero t items answers.
    (let calm = calm-of c past (record { world = w; entry = e; later = next w x e }) pipe h in
    counted-so here c past w x e allowed i.inv calm (i.pumping (calm-before here c past w x e allowed i.inv calm) zero) t items answers))
    (λ c past w name target path e allowed h zero t items answers.
    absurd (no-look-answers c w name target path e allowed t (pos 0) (pos items) answers)))

-- where none was answered, each came with code 0
zero-of : (u : Uid) (past : List Step) → AnswersNone u past → AnswersZero u past
zero-of u [] none = tt
zero-of u (s ∷ past) none = (λ t code has x. absurd (none.0 t code has x), zero-of u past none.1)

pub first-pump-takes-so-many : FirstPumpTakesSoMany
first-pump-takes-so-many = of-each _ (of-counts _
    (λ here c past w x e allowed i pipe h t items answers.
    (let calm = calm-of c past (record { world = w; entry = e; later = next w x e }) pipe h in
    let before = calm-before here c past w x e allowed i.inv calm in
    counted-so here c past w x e allowed i.inv calm (i.pumping before (zero-of c.sink past (none-so here c past w x e allowed i.inv calm t
    (pos 0) (pos items) answers (i.first before answers.call answers.first)))) t items answers.answers))
    (λ c past w name target path e allowed h t items answers.
    absurd (no-look-answers c w name target path e allowed t (pos 0) (pos items) answers.answers)))

pub first-pump-is-first : FirstPumpIsFirst
first-pump-is-first = of-each _ (of-counts _
    (λ here c past w x e allowed i pipe h t code has answers.
    (let calm = calm-of c past (record { world = w; entry = e; later = next w x e }) pipe h in
    none-so here c past w x e allowed i.inv calm t code has answers
    (i.first (calm-before here c past w x e allowed i.inv calm) answers.call answers.first)))
    (λ c past w name target path e allowed h t code has answers.
    absurd (no-look-answers c w name target path e allowed t code has answers.answers)))
