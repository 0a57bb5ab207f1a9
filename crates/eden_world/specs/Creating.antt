-- A creation by command, by whether its node is reached, and what its entry says of it.
use Rattle.std.specs.Prelude.{◌≡◌, ◌&&◌, ℕ, Bool, true, false, List, Result, Ok, Err, is_some}
use Rattle.capability.specs.declared.Uid.{Uid}
use Rattle.eden_value.specs.declared.status.Status.{Status}
use Rattle.eden_value.specs.declared.status.Status.TheVariants as status
use Rattle.epl_syntax.specs.Meaning.{type_of, types_in}
use Rattle.locator.specs.Reach.{reaches}
use Rattle.passive_store.specs.Kept.{Layout}
use Rattle.passive_store.specs.Seen.{Seen}
use Rattle.eden_world.specs.Carried.{CreatesIn}
use Rattle.eden_world.specs.Seated.{station_at}
use Rattle.eden_world.specs.declared.World.{World as Program}

-- the status with which a creation ended
abbrev pub status_of : Result Uid Status → Status
status_of (Ok u) = status.Ok
status_of (Err why) = why

-- an Eject of this type is created on a node that is reached and up, where the script has a type of this name
abbrev pub creates_at : {T D : Type 0} → Program T D → ℕ → List ℕ → Bool
creates_at p n type_name = (reaches p.places 0 n && is_some (station_at p n)) && is_some (type_of (types_in p.types) type_name)

-- The node created it; else nothing changed.
abbrev pub MadeAt : {T D : Type 0} → Bool → Bool → Layout → (T → Seen) → ℕ → List ℕ → Program T D → Program T D → Result Uid Status
    → Type 0
MadeAt true tells layout seen n type_name old new made = CreatesIn tells layout seen n type_name old new made
MadeAt false tells layout seen n type_name old new made = (made ≡ Err status.Unreachable) × (new ≡ old)
