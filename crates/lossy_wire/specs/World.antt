-- What the code of a run keeps: the ends of all pairs, where in the script the values begin that were sent, and the headers of all packets
-- that were put on the wire.
use Rattle.std.specs.Prelude.{◌≡◌, ℕ, ◌≤◌, ◌-◌, ◌<◌, ◌^◌, Bool, List, [], ◌++◌, map, codes, Option, Some, None, if◌then◌else◌}
use Rattle.eden_value.specs.Datum.{Datum}
use Rattle.lossy_wire.specs.Wire.{Pair, Wire, quiet}
use Rattle.lossy_wire.specs.Commands.{Command, AllInReach}
use Rattle.lossy_wire.specs.Held.{Keeps, held_at}
use Rattle.lossy_wire.specs.Lists.{item_in}
use Rattle.lossy_wire.specs.Spots.{IsValueAt, AllValuesAt}
use Rattle.lossy_wire.specs.Texts.{wire_after, delivery}
use Rattle.lossy_wire.specs.View.{header}
use Rattle.lossy_wire.specs.declared.commands.Script.{Script}
use Rattle.lossy_wire.specs.declared.packet.Header.{Header}
use Rattle.lossy_wire.specs.declared.packet.Header.TheVariants as code
use Rattle.lossy_wire.specs.declared.run.World.{World}

-- what was sent from a station to another
abbrev pub sent_of : Pair → List Datum
sent_of p = p.sent

-- the headers of the packets of a pair
abbrev pub headers : Pair → List Header
headers p = map header p.packets

-- some commands in reach have led to this wire
abbrev pub IsReached : Wire → Type 0
IsReached w = (commands : List Command) × AllInReach commands × (wire_after quiet commands ≡ w)

-- what is kept is of this wire, to which commands have led, and whose values stand in this script
pub record IsOf (script : Script) (world : World) (w : Wire) : Type 0 where
  pub keeps : Keeps world.ends w
  pub packets : world.packets ≡ map headers w
  pub sent : AllValuesAt script world.sent (map sent_of w)
  pub reached : IsReached w

-- so it is of whichever wire is kept
abbrev pub OfAny : Script → World → (Wire → Type 0) → Type 0
OfAny script world P = (w : Wire) → IsOf script world w → P w

-- what is kept is of some wire
abbrev pub IsHeld : Script → World → Type 0
IsHeld script world = (w : Wire) × IsOf script world w

-- no station has sent as many values to another as a number can count
abbrev pub HasRoom : World → Type 0
HasRoom world = (a b : ℕ) → (held_at world.ends a b).sent < 2 ^ 32 - 1

-- ## Lines

-- the line of what is sent again, by its header
abbrev pub again_text : Option Header → List ℕ
again_text None = codes "nothing\n"
again_text (Some x) = []

-- the line of a packet that is not there
abbrev pub no_packet : List ℕ
no_packet = codes "no packet\n"

-- the number of the value behind a header, if it is delivered
abbrev pub number_by : Header → Bool → Option ℕ
number_by (code.Carried n) delivers = if delivers then Some n else None
number_by (code.Known n) delivers = None

-- the value with this number, of those that were sent from one station to another, is this one
abbrev pub IsSent : Script → List (List ℕ) → (a b n : ℕ) → Datum → Type 0
IsSent script sent a b n d = (spot : ℕ) × (item_in sent a b n ≡ Some spot) × IsValueAt script spot d

-- there is a value with this number, if there is a number
abbrev pub HasValue : Script → List (List ℕ) → (a b : ℕ) → Option ℕ → Type 0
HasValue script sent a b None = Unit {0}
HasValue script sent a b (Some n) = (1 ≤ n) × ((d : Datum) × IsSent script sent a b n d)

-- the line of the value with this number is written behind a text, if there is a number
abbrev pub Shows : Script → List (List ℕ) → (a b : ℕ) → Option ℕ → (old new : List ℕ) → Type 0
Shows script sent a b None old new = new ≡ old
Shows script sent a b (Some n) old new = (d : Datum) → IsSent script sent a b n d → new ≡ old ++ delivery a b d
