-- Streams under crashes: what the stages of a pipeline hand out and what its Sink holds, in every world of a history.
use Rattle.std.specs.Prelude.{Bool, true, false, is_some, ◌≡◌, ◌≤◌, ℕ, zero, suc, ℤ, pos, negsuc, List, [], ◌∷◌, length, map, Option, None}
use Rattle.std.specs.Prelude.{Some}
use Rattle.std.specs.Prelude.{slice_get, codes, IfSome, IsSomeAnd}
use Rattle.capability.specs.declared.Uid.{Uid}
use Rattle.eden_value.specs.Datum.{Datum, number, text}
use Rattle.eden_value.specs.declared.status.Status.TheVariants as status
use Rattle.eden_codec.specs.Reading.{reading}
use Rattle.eden_model.specs.Map.{with_item}
use Rattle.eden_model.specs.Traffic.{Traffic, Call, call_at, answered}
use Rattle.epl_syntax.specs.declared.effect.Effect.TheVariants as effect
use Rattle.epl_syntax.specs.declared.types.Native.{Native}
use Rattle.epl_syntax.specs.Edentype.{native as of_native}
use Rattle.epl_syntax.specs.Meaning.{Turned}
use Rattle.epl_syntax.specs.Simple.{argument, number_in, text_in, items_in}
use Rattle.epl_syntax.specs.Pipelines.{IsFront, sifted}
use Rattle.passive_store.specs.Kept.{Layout}
use Rattle.passive_store.specs.Layout.{IsLayout}
use Rattle.journal.specs.EjectChange.{kept_of}
use Rattle.journal.specs.declared.command.Script.{Script}
use Rattle.journal.specs.declared.event.Entry.{Entry}
use Rattle.journal.specs.declared.event.Event.TheVariants as event
use Rattle.journal.specs.declared.event.Shown.{Shown}
use Rattle.journal.specs.World.{World, Active, Eject, eject_at}
use Rattle.journal.specs.Sites.{active_in}
use Rattle.journal.specs.Processes.{turn_of}
use Rattle.journal.specs.Standing.{DiskRun}
use Rattle.journal.specs.LegalRun.{created_by, kept_at, AreHandedIn, opening_world, run_over}
use Rattle.journal.specs.Laws.{Begins}
use Rattle.journal.specs.Fit.{IsFit}
use Rattle.journal.specs.Run.{Step, EachStep}
use Rattle.stream_laws.specs.Chains.{Chain, made_by, EachFilter, type_at, IsCreatedIn, AreCreated, AreJoined}

-- 1. Items

-- the texts in a list
abbrev pub texts_in : Datum → List (List ℕ)
texts_in d = map text_in (items_in d)

-- of values of the variables of a Lines or a Sink the items, which stand second in both
abbrev pub items_held : List Datum → List (List ℕ)
items_held vars = texts_in (argument 1 vars)

-- the same of bytes that are kept
abbrev pub items_stored : List ℕ → List (List ℕ)
items_stored bytes = with_item (reading bytes) (λ rep. items_held rep.values) []

-- the list that a Lines has kept; it is empty as long as it has kept none
abbrev pub list_kept : World → Uid → List (List ℕ)
list_kept w u = with_item (kept_at w u) items_stored []

-- 2. What a stage answers

-- the item at a position
abbrev pub item_in : List (List ℕ) → ℤ → Option (List ℕ)
item_in items (pos i) = slice_get items i
item_in items (negsuc i) = None

-- what the results of a Transfer say for a position: beside code 0 stands the item there, alone; code 1 comes right behind the last item
abbrev pub IsAnswer : List (List ℕ) → ℤ → List Datum → Type 0
IsAnswer items p (number (pos zero) ∷ d ∷ more) = IsSomeAnd (item_in items p) (λ t. d ∷ more ≡ text t ∷ [])
IsAnswer items p (number (pos (suc zero)) ∷ d ∷ more) = p ≡ pos (length items)
IsAnswer items p _ = Unit {0}

-- the position that a call asks for
abbrev pub position_of : Call → ℤ
position_of c = number_in (argument 0 c.args)

-- of each Transfer of the stage u the answer that is on its way
abbrev pub HandsOut : Traffic → Uid → List (List ℕ) → Type 0
HandsOut t u items = (k : ℕ) (c : Call) (results : List Datum) → call_at t k ≡ Some c → c.target.uid ≡ u
    → c.operation ≡ codes "Transfer" → c.place ≡ answered status.Ok results → IsAnswer items (position_of c) results

-- of each Pump of the Sink u the answer that is on its way: where it came to the end, all items are held
abbrev pub PumpsAll : Traffic → Uid → List (List ℕ) → Type 0
PumpsAll t u items = (k : ℕ) (c : Call) (held : ℤ) → call_at t k ≡ Some c → c.target.uid ≡ u → c.operation ≡ codes "Pump"
    → c.place ≡ answered status.Ok (number (pos 1) ∷ number held ∷ []) → held ≡ pos (length items)

-- 3. What a Sink holds: active, kept or in doubt it is a beginning of these items
pub record HoldsFront (items : List (List ℕ)) (e : Eject) : Type 0 where
  -- where it is active, its list is
  pub active : IfSome e.active (λ it. IsFront (items_held it.vars) items)
  -- what is kept of it, where something is
  pub kept : IfSome e.kept (λ bytes. IsFront (items_stored bytes) items)
  -- and what may be kept instead
  pub doubt : IfSome e.doubt (λ c. IfSome (kept_of c) (λ bytes. IsFront (items_stored bytes) items))

-- 4. A world in which the pipeline does what its functions say, of this list of its Lines
pub record Flows (w : World) (c : Chain) (list : List (List ℕ)) : Type 0 where
  -- the Lines hands out the items of its list
  pub lines : HandsOut w.traffic c.lines list
  -- each filter hands out what its function makes of the items of the stage before
  pub filters : EachFilter (λ before items f. HandsOut w.traffic f.uid (sifted f.sieve items)) c.lines list c.filters
  -- the Sink holds a beginning of what the last of them makes
  pub sink : IfSome (eject_at w c.sink) (HoldsFront (made_by c.filters list))
  -- and where a Pump came to the end, all of it
  pub pumps : PumpsAll w.traffic c.sink (made_by c.filters list)

-- 5. The laws

-- So it is with every pipeline in each step of every history of a fit script, over at most eight disks that are handed in as they have to
-- be and a layout that keeps what layouts owe: with each chain whose stages are all created in the history, and are joined in the world
-- behind the step. `P` sees the steps before it too.
abbrev pub OfEachPipeline : (Chain → List Step → Step → Type 0) → Type 0
OfEachPipeline P = (layout : Layout) (script : Script) (disks : List DiskRun) (history : List Entry) → IsLayout layout
    → AreHandedIn layout disks → length disks ≤ 8 → IsFit script → Begins layout script disks history
    → (c : Chain) → AreCreated (run_over layout script disks history) c
    → EachStep (λ past s. AreJoined s.later.traffic c → P c past s) [] (run_over layout script disks history)

-- it does what its functions say, of the list that its Lines has kept
abbrev pub PipelinesFlow : Type 0
PipelinesFlow = OfEachPipeline (λ c past s. Flows s.later c (list_kept s.later c.lines))

-- whether something is kept of an Eject
abbrev pub has_kept : World → Uid → Bool
has_kept w u = with_item (eject_at w u) (λ e. is_some e.kept) false

-- and that list stays, once the Lines has kept one
abbrev pub ListsStay : Type 0
ListsStay = OfEachPipeline (λ c past s. has_kept s.world c.lines ≡ true → list_kept s.later c.lines ≡ list_kept s.world c.lines)

-- In this step a Pump of the Sink u is answered with this code, and with how many items are held.
pub record PumpAnswers (u : Uid) (s : Step) (t : Turned) (code held : ℤ) : Type 0 where
  -- the process that serves the Pump
  pub process : ℕ
  -- what the event shows of its turn
  pub said : Shown
  -- the event is a turn of that process
  pub event_is : s.entry.event ≡ event.Process u process said
  -- the active part of the Sink before it
  pub active : Active
  -- which it has there
  pub is_active : active_in (eject_at s.world u) ≡ Some active
  -- what the turn comes to
  pub turn : turn_of u active process ≡ Some t
  -- its answer, which no other operation of a Sink has
  pub answers : t.effect ≡ effect.Return (number code ∷ number held ∷ [])

-- it comes to the end: it answers 1, and how many are held
abbrev pub ComesToTheEnd : Uid → Step → Turned → ℤ → Type 0
ComesToTheEnd u s t held = PumpAnswers u s t (pos 1) held

-- and then the Sink holds all that its pipeline makes of the list
abbrev pub SinksHoldAll : Type 0
SinksHoldAll = OfEachPipeline (λ c past s. (t : Turned) (held : ℤ) → ComesToTheEnd c.sink s t held
    → items_held t.vars ≡ made_by c.filters (list_kept s.later c.lines))

-- An Eject that is created in a history, of a type, is held by no image, and whatever creates it creates it of that type.
abbrev pub CreatedAreNew : Type 0
CreatedAreNew = (layout : Layout) (script : Script) (disks : List DiskRun) (history : List Entry) → IsLayout layout
    → AreHandedIn layout disks → Begins layout script disks history
    → (u : Uid) (n : Native) → IsCreatedIn (run_over layout script disks history) u n
    → (eject_at (opening_world layout script disks) u ≡ None)
    × EachStep (λ past s. created_by s.entry.event ≡ Some u → type_at s.later u ≡ Some (of_native n)) []
    (run_over layout script disks history)
