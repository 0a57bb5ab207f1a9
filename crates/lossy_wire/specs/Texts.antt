-- What a script of a wire writes.
use Rattle.std.specs.Prelude.{◌≡◌, ℕ, suc, ◌+◌, ◌/◌, ◌%◌, List, [], ◌∷◌, ◌++◌, length, map, codes, Option, Some, None, nat_lt}
use Rattle.std.specs.Prelude.{if◌then◌else◌}
use Rattle.std.specs.Fmt.{decimal}
use Rattle.eden_value.specs.Datum.{Datum}
use Rattle.eden_value.specs.Printed.{printed}
use Rattle.line_forms.specs.Forms.{Row}
use Rattle.line_forms.specs.Scripts.{IsScript}
use Rattle.lossy_wire.specs.Wire.{Packet, Pair, Wire, IsStation, IsOrderly, quiet, pair_at, put_by, send, due, arriving, taken, packet_at}
use Rattle.lossy_wire.specs.Commands.{Command, sends, repeats, carries, wire_kind, command_of}

-- ## Commands

-- the wire behind a packet, if there is one
abbrev pub carried_by : Option Packet → Wire → ℕ → ℕ → Wire
carried_by None w a b = w
carried_by (Some x) w a b = taken w a b x

-- the wire behind a command
abbrev pub next : Wire → Command → Wire
next w (sends a b d) = send w a b d
next w (repeats a b) = put_by (due (pair_at w a b)) w a b
next w (carries a b i) = carried_by (packet_at w a b i) w a b

-- the wire behind some commands
abbrev pub wire_after : Wire → List Command → Wire
wire_after w [] = w
wire_after w (c ∷ cs) = wire_after (next w c) cs

-- ## Lines

-- `B from A V`
abbrev pub delivery : ℕ → ℕ → Datum → List ℕ
delivery a b d = decimal b ++ (codes " from " ++ (decimal a ++ (codes " " ++ (printed d ++ codes "\n"))))

-- the line of a value that is delivered, if one is
abbrev pub delivery_by : Option Datum → ℕ → ℕ → List ℕ
delivery_by None a b = []
delivery_by (Some d) a b = delivery a b d

-- the line of a packet, if there is one
abbrev pub arrival_line : Option Packet → Wire → ℕ → ℕ → List ℕ
arrival_line None w a b = codes "no packet\n"
arrival_line (Some x) w a b = delivery_by (arriving (pair_at w a b) x) a b

-- the line of what is sent again
abbrev pub again_line : Option Packet → List ℕ
again_line None = codes "nothing\n"
again_line (Some x) = []

-- the line of a command, if it has one
abbrev pub lines : Wire → Command → List ℕ
lines w (sends a b d) = []
lines w (repeats a b) = again_line (due (pair_at w a b))
lines w (carries a b i) = arrival_line (packet_at w a b i) w a b

-- `A B sent S`
abbrev pub sum_front : (a b sent : ℕ) → List ℕ
sum_front a b sent = decimal a ++ (codes " " ++ (decimal b ++ (codes " sent " ++ decimal sent)))

-- ` known K delivered D`
abbrev pub sum_back : (known delivered : ℕ) → List ℕ
sum_back known delivered = codes " known " ++ (decimal known ++ (codes " delivered " ++ (decimal delivered ++ codes "\n")))

-- the last line of a pair at a place, from how many values were sent, known and delivered, if some were sent
abbrev pub sum_line : (place sent known delivered : ℕ) → List ℕ
sum_line k sent known delivered =
    if nat_lt 0 sent then sum_front (k / 8 + 1) (k % 8 + 1) sent ++ sum_back known delivered else []

-- the last line of a pair at a place
abbrev pub sum_of : ℕ → Pair → List ℕ
sum_of k p = sum_line k (length p.sent) p.known (length p.delivered)

-- the last lines, of the pairs from the one at this place on
abbrev pub sums : ℕ → Wire → List ℕ
sums k [] = []
sums k (p ∷ ps) = sum_of k p ++ sums (suc k) ps

-- what is written from a wire on
abbrev pub text_from : Wire → List Command → List ℕ
text_from w [] = sums 0 w
text_from w (c ∷ cs) = lines w c ++ text_from (next w c) cs

-- ## Texts

-- The bytes spell a script of a wire with these commands, and this is its text. Of each two stations, what was delivered in the end is a
-- front of what was sent, each value once, and no more is known than was delivered.
pub record IsText (bytes text : List ℕ) : Type 0 where
  pub stations : ℕ
  pub rows : List Row
  pub commands : List Command
  pub script : IsScript wire_kind bytes stations rows
  pub meant : map command_of rows ≡ map (λ c. Some c) commands
  pub written : text ≡ text_from quiet commands
  pub orderly : (a b : ℕ) → IsStation a → IsStation b → IsOrderly (pair_at (wire_after quiet commands) a b)
