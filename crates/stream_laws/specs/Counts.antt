-- How many invocations the Pumps of a Sink take: each item is asked for once by the Sink, and once by each filter.
use Rattle.std.specs.Prelude.{◌⊎◌, ◌≡◌, ℕ, ◌+◌, ◌*◌, ℤ, pos, Bool, true, ◌&&◌, List, [], ◌∷◌, length, Option, Some, codes, IsSomeAnd}
use Rattle.std.specs.List.{count_by}
use Rattle.capability.specs.declared.Uid.{Uid}
use Rattle.eden_model.specs.Map.{same_text}
use Rattle.eden_model.specs.Traffic.{Traffic, Call, call_at, asks}
use Rattle.epl_syntax.specs.Meaning.{Turned}
use Rattle.epl_syntax.specs.Pipelines.{Sieve, takes, numbers}
use Rattle.passive_store.specs.declared.store.Pick.{Pick}
use Rattle.journal.specs.declared.event.Event.TheVariants as event
use Rattle.journal.specs.declared.event.StartEnd.{StartEnd}
use Rattle.journal.specs.Processes.{serving}
use Rattle.journal.specs.Run.{Step}
use Rattle.stream_laws.specs.Chains.{Stage, Chain}
use Rattle.stream_laws.specs.Streams.{OfEachPipeline, PumpAnswers}

-- 1. Counting

-- a Transfer that this Eject asks
abbrev pub is_transfer_by : Uid → Call → Bool
is_transfer_by u c = asks u c.asker && same_text c.operation (codes "Transfer")

-- how many it asked so far
abbrev pub transfers_by : Uid → Traffic → ℕ
transfers_by u t = count_by (λ (e : ℕ × Call). is_transfer_by u e.1) t.calls

-- how many all of these filters did, together
abbrev pub transfers_by_all : List Stage → Traffic → ℕ
transfers_by_all [] t = 0
transfers_by_all (f ∷ filters) t = transfers_by f.uid t + transfers_by_all filters t

-- each of these filters asked so many
abbrev pub EachAsked : List Stage → Traffic → ℕ → Type 0
EachAsked [] t n = Unit {0}
EachAsked (f ∷ filters) t n = (transfers_by f.uid t ≡ n) × EachAsked filters t n

-- what so many items took
pub record HaveAsked (c : Chain) (t : Traffic) (items : ℕ) : Type 0 where
  -- one Transfer of the Sink for each
  pub sink : transfers_by c.sink t ≡ items
  -- and one of each filter
  pub filters : EachAsked c.filters t items
  -- and so one more than there are filters, together
  pub together : transfers_by c.sink t + transfers_by_all c.filters t ≡ (length c.filters + 1) * items

-- 2. Where it is so

-- a filter that hands on each item that it takes in
abbrev pub IsTakeOrNumber : Sieve → Type 0
IsTakeOrNumber (takes count) = Unit {0}
IsTakeOrNumber numbers = Unit {0}
IsTakeOrNumber _ = ⊥

-- and each of these
abbrev pub AreTakesOrNumbers : List Stage → Type 0
AreTakesOrNumbers [] = Unit {0}
AreTakesOrNumbers (f ∷ filters) = IsTakeOrNumber f.sieve × AreTakesOrNumbers filters

-- the Eject was not activated in these steps
abbrev pub IsNotActivated : Uid → List Step → Type 0
IsNotActivated u [] = Unit {0}
IsNotActivated u (s ∷ past) =
    ((how : StartEnd) (p : Option Pick) → s.entry.event ≡ event.Activate u how p → ⊥) × IsNotActivated u past

-- and none of these
abbrev pub AreNotActivated : List Stage → List Step → Type 0
AreNotActivated [] past = Unit {0}
AreNotActivated (f ∷ filters) past = IsNotActivated f.uid past × AreNotActivated filters past

-- each Transfer of the stage u is asked by a process of the stage after it
abbrev pub IsAskedBy : Traffic → Uid → Uid → Type 0
IsAskedBy t after u = (k : ℕ) (c : Call) → call_at t k ≡ Some c → c.target.uid ≡ u → c.operation ≡ codes "Transfer"
    → asks after c.asker ≡ true

-- and so of each of these filters, the one next to the Sink last
abbrev pub AreAskedInOrder : Traffic → List Stage → Uid → Type 0
AreAskedInOrder t [] sink = Unit {0}
AreAskedInOrder t (f ∷ []) sink = IsAskedBy t sink f.uid
AreAskedInOrder t (f ∷ g ∷ filters) sink = IsAskedBy t g.uid f.uid × AreAskedInOrder t (g ∷ filters) sink

-- each Pump that the Sink answered in these steps came with code 0; so it is where none was answered
abbrev pub AnswersZero : Uid → List Step → Type 0
AnswersZero u [] = Unit {0}
AnswersZero u (s ∷ past) = ((t : Turned) (code held : ℤ) → PumpAnswers u s t code held → code ≡ pos 0) × AnswersZero u past

-- So it is with a chain in a step behind these.
pub record IsUndisturbed (c : Chain) (past : List Step) (s : Step) : Type 0 where
  -- its filters hand on each item that they take in
  pub filters : AreTakesOrNumbers c.filters
  -- each Transfer of one, of all calls ever made, is asked by the stage after it
  pub asked : AreAskedInOrder s.later.traffic c.filters c.sink
  -- no filter was activated
  pub filters_stay : AreNotActivated c.filters (s ∷ past)
  -- nor was the Sink
  pub sink_stays : IsNotActivated c.sink (s ∷ past)

-- 3. The first Pump

-- In this step the Sink starts to serve call k, a Pump.
pub record StartsPump (u : Uid) (k : ℕ) (s : Step) : Type 0 where
  -- the process that is to serve it
  pub process : ℕ
  -- the event is its start
  pub event_is : s.entry.event ≡ event.Start k u process
  -- and the call is a Pump
  pub is_pump : IsSomeAnd (call_at s.world.traffic k) (λ c. c.operation ≡ codes "Pump")

-- none of these steps starts one
abbrev pub StartsNoPump : Uid → List Step → Type 0
StartsNoPump u [] = Unit {0}
StartsNoPump u (s ∷ past) = ((k : ℕ) → StartsPump u k s → ⊥) × StartsNoPump u past

-- the first that these steps start is call k; the latest step stands first
abbrev pub IsFirstPump : Uid → ℕ → List Step → Type 0
IsFirstPump u k [] = ⊥
IsFirstPump u k (s ∷ past) = (StartsPump u k s × StartsNoPump u past) ⊎ IsFirstPump u k past

-- the Sink answered no Pump in these steps
abbrev pub AnswersNone : Uid → List Step → Type 0
AnswersNone u [] = Unit {0}
AnswersNone u (s ∷ past) = ((t : Turned) (code held : ℤ) → PumpAnswers u s t code held → ⊥) × AnswersNone u past

-- In a step behind these the first Pump that the Sink started is answered, with this code.
pub record FirstPumpAnswers (u : Uid) (past : List Step) (s : Step) (t : Turned) (code held : ℤ) : Type 0 where
  -- the Pump
  pub call : ℕ
  -- no other was started before
  pub first : IsFirstPump u call past
  -- a Pump is answered
  pub answers : PumpAnswers u s t code held
  -- by the process that serves this one
  pub serves : IsSomeAnd (serving answers.active answers.process) (λ i. i.call ≡ call)

-- 4. The laws

-- As a Pump answers 0, and how many items are held, where each Pump before came with code 0, each of these items took one Transfer of the
-- Sink and one of each filter, of all that they asked since the beginning.
abbrev pub PumpsTakeSoMany : Type 0
PumpsTakeSoMany = OfEachPipeline (λ c past s. IsUndisturbed c past s → AnswersZero c.sink past → (t : Turned) (items : ℕ)
    → PumpAnswers c.sink s t (pos 0) (pos items) → HaveAsked c s.later.traffic items)

-- And so did those of the first Pump that the Sink starts, as this one answers 0.
abbrev pub FirstPumpTakesSoMany : Type 0
FirstPumpTakesSoMany = OfEachPipeline (λ c past s. IsUndisturbed c past s → (t : Turned) (items : ℕ)
    → FirstPumpAnswers c.sink past s t (pos 0) (pos items) → HaveAsked c s.later.traffic items)

-- The first Pump that the Sink starts is the first that it answers, with whatever code.
abbrev pub FirstPumpIsFirst : Type 0
FirstPumpIsFirst = OfEachPipeline (λ c past s. IsUndisturbed c past s → (t : Turned) (code held : ℤ)
    → FirstPumpAnswers c.sink past s t code held → AnswersNone c.sink past)
