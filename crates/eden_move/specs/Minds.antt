-- What a node has in memory of the Ejects that are here.
use Rattle.std.specs.Prelude.{ℕ, Bool, false, is_some, Option, None, Some, if◌then◌else◌}
use Rattle.std.specs.Option.{option_map}
use Rattle.std.specs.BTreeMap.{get}
use Rattle.capability.specs.declared.Uid.{Uid}
use Rattle.capability.specs.Uids.{uid_cmp, uid_eq}
use Rattle.eden_value.specs.Datum.{Datum}
use Rattle.eden_value.specs.View.{datum}
use Rattle.move_laws.specs.World.{Mind as Becomes, Forgotten, Same, Learnt}
use Rattle.eden_move.specs.declared.mind.Known.{Known}
use Rattle.eden_move.specs.declared.mind.Mind.{Mind}
use Rattle.eden_move.specs.declared.due.Memory.{Memory}
use Rattle.eden_move.specs.declared.due.Memory.TheVariants.{Forgotten as CodedForgotten, Same as CodedSame, Learnt as CodedLearnt}

-- what is in memory of an Eject that is here: its generation, its value, and whether it is active
pub record Remembered : Type 0 where
  pub generation : ℕ
  pub value : Datum
  pub active : Bool

abbrev pub seen_known : Known → Remembered
seen_known k = record { generation = k.generation; value = datum k.value; active = k.active }

-- what a place of memory has, which may be empty
abbrev pub in_place : Option (Option Known) → Option Remembered
in_place None = None
in_place (Some known) = option_map seen_known known

-- what is in memory of an Eject
abbrev pub remembered : Mind → Uid → Option Remembered
remembered m q = in_place (get uid_cmp m.slots q)

-- whether an Eject has a place there
abbrev pub has_place : Mind → Uid → Bool
has_place m q = is_some (get uid_cmp m.slots q)

-- generation and value
abbrev pub as_memory : Option Remembered → Option (ℕ × Datum)
as_memory None = None
as_memory (Some k) = Some (k.generation, k.value)

abbrev pub value_known : Option Remembered → Option Datum
value_known None = None
value_known (Some k) = Some k.value

abbrev pub as_active : Option Remembered → Bool
as_active None = false
as_active (Some k) = k.active

-- what becomes of memory, as plain data
abbrev pub memory_seen : Memory → Becomes Datum
memory_seen CodedForgotten = Forgotten
memory_seen CodedSame = Same
memory_seen (CodedLearnt active g v) = Learnt active g (datum v)

-- memory of which this became of one Eject
abbrev pub mind_by : Becomes Datum → Uid → (Uid → Option Remembered) → Uid → Option Remembered
mind_by Forgotten u f q = if uid_eq q u then None else f q
mind_by Same u f q = f q
mind_by (Learnt active g v) u f q = if uid_eq q u then Some (record { generation = g; value = v; active = active }) else f q
