-- What holds of all calls: an index of those that cuts and crashes may change, a note of each Eject's open calls, stations within 0 to 8,
-- a queue for each pair of stations, in them numbers that were given, and a note of the stations to which a message may be on its way.
use Rattle.std.specs.Prelude.{◌≡◌, ℕ, ◌≤◌, Bool, true, false, List, length, slice_index_or, []}
use Rattle.std.specs.List.{All}
use Rattle.eden_model.specs.Traffic.{asking_station}
use Rattle.invocation.specs.declared.call.Call.{Call}
use Rattle.invocation.specs.declared.call.Message.{Message}
use Rattle.invocation.specs.Mail.{IsGiven, is_open, number_of, target_of}
use Rattle.invocation.specs.Queues.{Rows, row}
use Rattle.invocation.specs.declared.lists.Index.{Index}
use Rattle.invocation.specs.Listed.{IsIndex}
use Rattle.invocation.specs.Made.{Made, AreMade}

-- the asker is at a station, and so is the target of an open call
abbrev pub IsBetween : Call → Type 0
IsBetween c = (asking_station c.asker ≤ 8) × (is_open c ≡ true → target_of c ≤ 8)

-- the messages are of calls that were asked
abbrev pub AllGiven : List Call → List Message → Type 0
AllGiven calls ms = All (λ m. IsGiven calls (number_of m)) ms

-- each station has a note, and where that says no, no message is on its way to it
pub record IsMailNoted (stations : List Bool) (rows : Rows) : Type 0 where
  pub nine : length stations ≡ 9
  pub none : (to : ℕ) → to ≤ 8 → slice_index_or stations to false ≡ false → (from : ℕ) → from ≤ 8 → row from to rows ≡ []

-- what holds of all calls together
pub record IsWhole (calls : List Call) (known : Index) (noted : Made) (stations : List Bool) (queues : Rows) : Type 0 where
  pub few : length calls ≤ 4294967295
  pub index : IsIndex calls known
  pub made : AreMade calls noted
  pub between : All IsBetween calls
  pub pairs : length queues ≡ 81
  pub given : (i : ℕ) → AllGiven calls (slice_index_or queues i [])
  pub mail : IsMailNoted stations queues
