-- What the two ends of an ordered pair of stations keep: three numbers, and nothing of packets and values.
use Rattle.std.specs.Prelude.{◌≡◌, refl, ℕ, ◌+◌, ◌==◌, ◌&&◌, nat_lt, nat_le, Bool, List, length, map, slice_set, slice_index_or}
use Rattle.std.specs.Prelude.{Option, Some, None, if◌then◌else◌}
use Rattle.std.specs.Coded.{Coded, code_by, coded×, coded_list, coded_ℕ}
use Rattle.lossy_wire.specs.Wire.{Pair, Wire, slot}
use Rattle.lossy_wire.specs.declared.packet.Header.{Header}
use Rattle.lossy_wire.specs.declared.packet.Header.TheVariants as code

-- At the first station, how many values were sent, and how many of them are known to be delivered; at the second one, how many were
-- delivered.
pub record Held : Type 0 where
  pub sent : ℕ
  pub known : ℕ
  pub delivered : ℕ

-- by which a proof tells ends apart
abbrev pub coded_held : Coded Held
coded_held =
    code_by (ℕ × (ℕ × ℕ)) (coded× coded_ℕ (coded× coded_ℕ coded_ℕ)) (λ h. (h.sent, (h.known, h.delivered)))
    (λ x. record { sent = x.0; known = x.1.0; delivered = x.1.1 }) (λ h. refl)

-- by which it tells those of all pairs apart
abbrev pub coded_ends : Coded (List Held)
coded_ends = coded_list coded_held

-- nothing was sent
abbrev pub fresh : Held
fresh = record { sent = 0; known = 0; delivered = 0 }

-- the ends of a pair of stations
abbrev pub held_at : List Held → ℕ → ℕ → Held
held_at es a b = slice_index_or es (slot a b) fresh

-- these in place of the ends of a pair
abbrev pub with_held : List Held → ℕ → ℕ → Held → List Held
with_held es a b h = slice_set es (slot a b) h

-- ## What they keep of a wire

-- what is kept of a pair
abbrev pub held : Pair → Held
held p = record { sent = length p.sent; known = p.known; delivered = length p.delivered }

-- these are the ends of this wire
abbrev pub Keeps : List Held → Wire → Type 0
Keeps ends w = ends ≡ map held w

-- so it is of whichever wire these are the ends
abbrev pub OfWire : List Held → (Wire → Type 0) → Type 0
OfWire ends P = (w : Wire) → Keeps ends w → P w

-- ## One pair

-- a value was sent
abbrev pub held_sent : Held → Held
held_sent h = record h { sent = h.sent + 1 }

-- the header of the first value that is not known to be delivered
abbrev pub held_due : Held → Option Header
held_due h = if nat_lt h.known h.sent then Some (code.Carried (h.known + 1)) else None

-- a value with this number is the next one
abbrev pub held_next : Held → ℕ → Bool
held_next h n = n == h.delivered + 1

-- a value with this number came
abbrev pub held_delivered : Held → ℕ → Held
held_delivered h n = if held_next h n then record h { delivered = n } else h

-- so many values are said to be delivered
abbrev pub held_told : Held → ℕ → Held
held_told h n = if nat_lt h.known n && nat_le n h.sent then record h { known = n } else h
