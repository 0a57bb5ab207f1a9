-- A wire between stations that loses, repeats and reorders: what was sent, delivered and known for each ordered pair of them.
use Rattle.std.specs.Prelude.{◌≡◌, ℕ, ◌+◌, ◌-◌, ◌*◌, ◌≤◌, ◌==◌, ◌&&◌, nat_lt, nat_le, Bool, List, [], ◌∷◌, ◌++◌, length, replicate, slice_set}
use Rattle.std.specs.Prelude.{slice_index_or, slice_get, Option, Some, None, if◌then◌else◌}
use Rattle.eden_value.specs.Datum.{Datum}

-- a packet: a value with its number, or how many values were delivered
pub data Packet : Type 0 where
  carried : ℕ → Datum → Packet
  heard : ℕ → Packet

-- What there is of an ordered pair of stations: the values that the first has sent and those that the second had delivered, in
-- order; how many of them the first knows to be delivered; and every packet that was ever put on the wire from the first to the second.
pub record Pair : Type 0 where
  pub sent : List Datum
  pub delivered : List Datum
  pub known : ℕ
  pub packets : List Packet

-- nothing was sent
abbrev pub at_rest : Pair
at_rest = record { sent = []; delivered = []; known = 0; packets = [] }

-- all pairs of eight stations, in ascending order of the first and then of the second
abbrev pub Wire : Type 0
Wire = List Pair

-- before the first command
abbrev pub quiet : Wire
quiet = replicate 64 at_rest

-- a station has a number from 1 to 8
abbrev pub IsStation : ℕ → Type 0
IsStation n = (1 ≤ n) × (n ≤ 8)

-- the place of a pair of stations
abbrev pub slot : ℕ → ℕ → ℕ
slot a b = (a - 1) * 8 + (b - 1)

-- a pair of stations
abbrev pub pair_at : Wire → ℕ → ℕ → Pair
pair_at w a b = slice_index_or w (slot a b) at_rest

-- the wire with this in place of a pair
abbrev pub with_pair : Wire → ℕ → ℕ → Pair → Wire
with_pair w a b p = slice_set w (slot a b) p

-- a packet is put on the wire
abbrev pub put : Wire → ℕ → ℕ → Packet → Wire
put w a b x = with_pair w a b (record (pair_at w a b) { packets = (pair_at w a b).packets ++ x ∷ [] })

-- so is one that may be missing
abbrev pub put_by : Option Packet → Wire → ℕ → ℕ → Wire
put_by None w a b = w
put_by (Some x) w a b = put w a b x

-- ## Sending

-- a value is sent, and goes with its number
abbrev pub send : Wire → ℕ → ℕ → Datum → Wire
send w a b d =
    put (with_pair w a b (record (pair_at w a b) { sent = (pair_at w a b).sent ++ d ∷ [] })) a b
    (carried (length (pair_at w a b).sent + 1) d)

-- a value with its number, if there is one
abbrev pub numbered : ℕ → Option Datum → Option Packet
numbered n None = None
numbered n (Some d) = Some (carried n d)

-- the first value that is not known to be delivered, with its number
abbrev pub due : Pair → Option Packet
due p = numbered (p.known + 1) (slice_get p.sent p.known)

-- ## Taking

-- a value with this number is the next one that the second station waits for
abbrev pub is_next : Pair → ℕ → Bool
is_next p n = n == length p.delivered + 1

-- it is delivered where it is the next one
abbrev pub delivered_to : Pair → ℕ → Datum → Pair
delivered_to p n d = if is_next p n then record p { delivered = p.delivered ++ d ∷ [] } else p

-- the first station is told how many values were delivered: it knows of so many, if they are more than it knew of and it sent as many
abbrev pub told : Pair → ℕ → Pair
told p n = if nat_lt p.known n && nat_le n (length p.sent) then record p { known = n } else p

-- the value that a packet delivers at the second station, if it delivers one
abbrev pub arriving : Pair → Packet → Option Datum
arriving p (carried n d) = if is_next p n then Some d else None
arriving p (heard n) = None

-- the packet that answers it: each value is answered by how many were delivered
abbrev pub reply_to : Pair → Packet → Option Packet
reply_to p (carried n d) = Some (heard (length (delivered_to p n d).delivered))
reply_to p (heard n) = None

-- the pairs behind a packet from one station to another
abbrev pub arrived : Wire → ℕ → ℕ → Packet → Wire
arrived w a b (carried n d) = with_pair w a b (delivered_to (pair_at w a b) n d)
arrived w a b (heard n) = with_pair w b a (told (pair_at w b a) n)

-- a packet comes, and its answer is put on the wire back
abbrev pub taken : Wire → ℕ → ℕ → Packet → Wire
taken w a b x = put_by (reply_to (pair_at w a b) x) (arrived w a b x) b a

-- the packet from one station to another that has this number, from 1, if there is one
abbrev pub packet_at : Wire → ℕ → ℕ → ℕ → Option Packet
packet_at w a b i = slice_get (pair_at w a b).packets (i - 1)

-- ## What is promised

-- one list is a front of another
abbrev pub IsFront : List Datum → List Datum → Type 0
IsFront xs ys = (rest : List Datum) × (ys ≡ xs ++ rest)

-- What was delivered is a front of what was sent, so that each value comes once and in order; and no more is known than was delivered.
pub record IsOrderly (p : Pair) : Type 0 where
  pub front : IsFront p.delivered p.sent
  pub known : p.known ≤ length p.delivered
