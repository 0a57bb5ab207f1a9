-- The device calls of one call of this crate.
use Rattle.std.specs.Prelude.{ℕ, true, Option, None, Some, Err}
use Rattle.eden_disk.specs.Calls.{Counts, DeviceCalls, End, Fine, AtFault, AtStop}
use Rattle.passive_store.specs.declared.store.StoreRefusal.{StoreRefusal}
use Rattle.passive_store.specs.Kept.{end_of_store}
use Rattle.journal.specs.declared.event.BootEnd.{BootEnd}
use Rattle.journal.specs.declared.event.BootEnd.TheVariants as end

-- Some device calls, none of which but the last was refused. So the call ends in a fault or a stop exactly where that count rose.
pub record MakesCalls (before after : Counts) (end : End) : Type 0 where
  pub made : ℕ
  pub counts : DeviceCalls made before after end

-- a disk that was given power
abbrev pub powered : Counts → Counts
powered counts = record counts { power = true }

-- how the last device call ended of a store's call that was refused so
abbrev pub call_of_refusal : StoreRefusal → End
call_of_refusal e = end_of_store {T = Unit {0}} (Err e)

-- of a boot that did not bring its node up
abbrev pub call_of_fall : Option BootEnd → End
call_of_fall None = Fine
call_of_fall (Some end.Up) = Fine
call_of_fall (Some end.DiskFault) = AtFault
call_of_fall (Some end.Stop) = AtStop
call_of_fall (Some (end.Damaged place)) = Fine
call_of_fall (Some end.EpochsSpent) = Fine
call_of_fall (Some end.Full) = Fine
