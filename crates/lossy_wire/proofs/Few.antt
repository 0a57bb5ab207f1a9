-- A command sends one value at most.
use Rattle.std.proofs.Common.{◌≡◌, ap, ℕ, ◌+◌, ◌≤◌, Bool, true, false, cond, List, [], ◌∷◌, ◌++◌, length, slice_set, get_or, Option, Some, None}
use Rattle.std.proofs.Common.{inl, inr, arith, length-append}
use Rattle.std.specs.Prelude.{nat_lt, nat_le, ◌&&◌}
use Rattle.eden_value.specs.Datum.{Datum}
use Rattle.lossy_wire.specs.Wire.{Packet, carried, heard, Pair, at_rest, Wire, quiet, slot, pair_at, with_pair, put_by, send, due, is_next}
use Rattle.lossy_wire.specs.Wire.{delivered_to, told, arrived, reply_to, taken, packet_at}
use Rattle.lossy_wire.specs.Commands.{Command, sends, repeats, carries}
use Rattle.lossy_wire.specs.Texts.{carried_by, next, wire_after}
use Rattle.lossy_wire.proofs.Orderly.{set_cases, quiet_at}

abbrev sent_at : Wire → ℕ → ℕ
sent_at w k = length (get_or w k at_rest).sent

-- of each pair, at most so many more were sent
abbrev More : ℕ → Wire → Wire → Type 0
More m w v = (k : ℕ) → sent_at v k ≤ m + sent_at w k

more_set : (m : ℕ) (w : Wire) (s : ℕ) (p : Pair) → length p.sent ≤ m + sent_at w s → More m w (slice_set w s p)
more_set m w s p h k =
    elim (set_cases w s k p) [
      | inl e ↦
          (let a : sent_at (slice_set w s p) k ≡ length p.sent = ap (λ (q : Pair). length q.sent) e.0 in
          let b : sent_at w k ≡ sent_at w s = ap (sent_at w) e.1 in
          omega (arith, a, b, h))
      | inr e ↦
          (let a : sent_at (slice_set w s p) k ≡ sent_at w k = ap (λ (q : Pair). length q.sent) e in
          omega (arith, a))
    ]

more_put_by : (w : Wire) (a b : ℕ) (o : Option Packet) → More 0 w (put_by o w a b)
more_put_by w a b None = λ k. omega arith
more_put_by w a b (Some x) =
    more_set 0 w (slot a b) (record (pair_at w a b) { packets = (pair_at w a b).packets ++ x ∷ [] }) (omega arith)

more_then : (m n : ℕ) (w v u : Wire) → More m w v → More n v u → More (m + n) w u
more_then m n w v u h g k = omega (arith, h k, g k)

delivered_sent : (b : Bool) (p : Pair) (d : Datum) → length (cond b (record p { delivered = p.delivered ++ d ∷ [] }) p).sent ≤ 0 + length p.sent
delivered_sent true p d = omega arith
delivered_sent false p d = omega arith

told_sent : (b : Bool) (p : Pair) (n : ℕ) → length (cond b (record p { known = n }) p).sent ≤ 0 + length p.sent
told_sent true p n = omega arith
told_sent false p n = omega arith

more_arrived : (w : Wire) (a b : ℕ) (x : Packet) → More 0 w (arrived w a b x)
more_arrived w a b (carried n d) =
    more_set 0 w (slot a b) (delivered_to (pair_at w a b) n d) (delivered_sent (is_next (pair_at w a b) n) (pair_at w a b) d)
more_arrived w a b (heard n) =
    let p = pair_at w b a in
    more_set 0 w (slot b a) (told p n) (told_sent (nat_lt p.known n && nat_le n (length p.sent)) p n)

more_carried : (w : Wire) (a b : ℕ) (o : Option Packet) → More 0 w (carried_by o w a b)
more_carried w a b None = λ k. omega arith
more_carried w a b (Some x) =
    more_then 0 0 w (arrived w a b x) (taken w a b x) (more_arrived w a b x)
    (more_put_by (arrived w a b x) b a (reply_to (pair_at w a b) x))

more_send : (w : Wire) (a b : ℕ) (d : Datum) → More 1 w (send w a b d)
more_send w a b d =
    let p = pair_at w a b in
    let v = with_pair w a b (record p { sent = p.sent ++ d ∷ [] }) in
    more_then 1 0 w v (send w a b d)
    (more_set 1 w (slot a b) (record p { sent = p.sent ++ d ∷ [] }) (omega (arith, length-append p.sent (d ∷ []))))
    (more_put_by v a b (Some (carried (length p.sent + 1) d)))

more_next : (w : Wire) (c : Command) → More 1 w (next w c)
more_next w (sends a b d) = more_send w a b d
more_next w (repeats a b) = λ k. omega (arith, more_put_by w a b (due (pair_at w a b)) k)
more_next w (carries a b i) = λ k. omega (arith, more_carried w a b (packet_at w a b i) k)

more_after : (w : Wire) (cs : List Command) → More (length cs) w (wire_after w cs)
more_after w [] = λ k. omega arith
more_after w (c ∷ cs) = λ k. omega (arith, more_next w c k, more_after (next w c) cs k)

pub sent_few : (cs : List Command) (a b : ℕ) → length (pair_at (wire_after quiet cs) a b).sent ≤ length cs
sent_few cs a b =
    let none : sent_at quiet (slot a b) ≡ 0 = ap (λ (p : Pair). length p.sent) (quiet_at (slot a b)) in
    omega (arith, more_after quiet cs (slot a b), none)
