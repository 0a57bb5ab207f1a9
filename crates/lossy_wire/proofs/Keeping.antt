-- What the ends keep goes the way of the wire.
use Rattle.std.proofs.Common.{◌≡◌, ◌∙◌, ap, sym, refl, ℕ, zero, suc, ◌+◌, Bool, true, false, cond, List, [], ◌∷◌, ◌++◌, map, length}
use Rattle.std.proofs.Common.{slice_set, get_or, Option, Some, None, length-append, inl, inr, arith, ◌≤◌}
use Rattle.std.specs.Prelude.{slice_get, nat_lt, nat_le, ◌&&◌, ◌==◌, is_some}
use Rattle.std.specs.Option.{option_map}
use Rattle.std.proofs.lemmas.Bool.{eqb-true, leb-true, le-leb, cases_Bool}
use Rattle.std.proofs.lemmas.List.{map-set}
use Rattle.std.proofs.Math.ListN.{get_or-map}
use Rattle.std.proofs.Math.Seq.{map-set_same}
use Rattle.eden_value.specs.Datum.{Datum}
use Rattle.lossy_wire.specs.Wire.{Packet, carried, heard, Pair, at_rest, Wire, slot, pair_at, with_pair, put, put_by, send, numbered}
use Rattle.lossy_wire.specs.Wire.{due, is_next, delivered_to, told, arriving, reply_to, arrived, taken}
use Rattle.lossy_wire.specs.Held.{Held, fresh, held_at, with_held, held, Keeps, held_sent, held_due, held_next, held_delivered, held_told}
use Rattle.lossy_wire.specs.View.{header}
use Rattle.lossy_wire.specs.declared.packet.Header.{Header}
use Rattle.lossy_wire.specs.declared.packet.Header.TheVariants as code

-- ## One pair

sent_held : (p : Pair) (d : Datum) → held (record p { sent = p.sent ++ d ∷ [] }) ≡ held_sent (held p)
sent_held p d =
    ap {B = Held} (λ (n : ℕ). record { sent = n; known = p.known; delivered = length p.delivered }) (length-append p.sent (d ∷ []))

both : true ≡ false → ⊥
both e = cc

due_by : (xs : List Datum) (k m : ℕ) (b : Bool) → nat_lt k (length xs) ≡ b
    → cond b (Some (code.Carried m)) None ≡ option_map header (numbered m (slice_get xs k))
due_by [] zero m true e = absurd (omega (arith, leb-true 1 0 e))
due_by [] (suc k) m true e = absurd (omega (arith, leb-true (suc (suc k)) 0 e))
due_by [] zero m false e = refl
due_by [] (suc k) m false e = refl
due_by (x ∷ xs) zero m true e = refl
due_by (x ∷ xs) zero m false e = absurd (both (sym (le-leb 1 (suc (length xs)) (omega arith)) ∙ e))
due_by (x ∷ xs) (suc k) m true e =
    let less : suc (suc k) ≤ suc (length xs) = leb-true (suc (suc k)) (suc (length xs)) e in
    due_by xs k m true (le-leb (suc k) (length xs) (omega (arith, less)))
due_by (x ∷ xs) (suc k) m false e =
    elim (cases_Bool (nat_lt k (length xs))) [
      | inl t ↦
          (let less : suc k ≤ length xs = leb-true (suc k) (length xs) t in
          absurd (both (sym (le-leb (suc (suc k)) (suc (length xs)) (omega (arith, less))) ∙ e)))
      | inr f ↦ due_by xs k m false f
    ]

due_held : (p : Pair) → held_due (held p) ≡ option_map header (due p)
due_held p = due_by p.sent p.known (p.known + 1) (nat_lt p.known (length p.sent)) refl

delivered_by : (b : Bool) (p : Pair) (n : ℕ) (d : Datum) → (n == length p.delivered + 1) ≡ b
    → held (cond b (record p { delivered = p.delivered ++ d ∷ [] }) p) ≡ cond b (record (held p) { delivered = n }) (held p)
delivered_by true p n d e =
    ap {B = Held} (λ (m : ℕ). record { sent = length p.sent; known = p.known; delivered = m })
    (length-append p.delivered (d ∷ []) ∙ sym (eqb-true n (length p.delivered + 1) e))
delivered_by false p n d e = refl

delivered_held : (p : Pair) (n : ℕ) (d : Datum) → held (delivered_to p n d) ≡ held_delivered (held p) n
delivered_held p n d = delivered_by (is_next p n) p n d refl

told_by : (b : Bool) (p : Pair) (n : ℕ) → held (cond b (record p { known = n }) p) ≡ cond b (record (held p) { known = n }) (held p)
told_by true p n = refl
told_by false p n = refl

told_held : (p : Pair) (n : ℕ) → held (told p n) ≡ held_told (held p) n
told_held p n = told_by (nat_lt p.known n && nat_le n (length p.sent)) p n

-- ## All pairs

pub held_same : (es : List Held) (w : Wire) → Keeps es w → (a b : ℕ) → held_at es a b ≡ held (pair_at w a b)
held_same es w k a b = ap (λ (l : List Held). get_or l (slot a b) fresh) k ∙ get_or-map held w (slot a b) at_rest

keeps_pair : (es : List Held) (w : Wire) → Keeps es w → (a b : ℕ) (p : Pair) (h : Held) → held p ≡ h
    → Keeps (with_held es a b h) (with_pair w a b p)
keeps_pair es w k a b p h e =
    ap (λ (l : List Held). slice_set l (slot a b) h) k ∙ ap (λ (g : Held). slice_set (map held w) (slot a b) g) (sym e)
    ∙ sym (map-set held w (slot a b) p)

keeps_put : (es : List Held) (w : Wire) → Keeps es w → (a b : ℕ) (x : Packet) → Keeps es (put w a b x)
keeps_put es w k a b x =
    let p : Pair = record (pair_at w a b) { packets = (pair_at w a b).packets ++ x ∷ [] } in
    k ∙ sym (map-set_same held w (slot a b) p at_rest refl)

pub keeps_put_by : (es : List Held) (w : Wire) → Keeps es w → (a b : ℕ) (o : Option Packet) → Keeps es (put_by o w a b)
keeps_put_by es w k a b None = k
keeps_put_by es w k a b (Some x) = keeps_put es w k a b x

pub keeps_send : (es : List Held) (w : Wire) → Keeps es w → (a b : ℕ) (d : Datum)
    → Keeps (with_held es a b (held_sent (held_at es a b))) (send w a b d)
keeps_send es w k a b d =
    let p = pair_at w a b in
    let q : Pair = record p { sent = p.sent ++ d ∷ [] } in
    keeps_put (with_held es a b (held_sent (held_at es a b))) (with_pair w a b q)
    (keeps_pair es w k a b q (held_sent (held_at es a b)) (sent_held p d ∙ ap held_sent (sym (held_same es w k a b))))
    a b (carried (length p.sent + 1) d)

pub keeps_delivered : (es : List Held) (w : Wire) → Keeps es w → (a b n : ℕ) (d : Datum)
    → Keeps (with_held es a b (held_delivered (held_at es a b) n)) (taken w a b (carried n d))
keeps_delivered es w k a b n d =
    let p = pair_at w a b in
    let es' = with_held es a b (held_delivered (held_at es a b) n) in
    keeps_put_by es' (arrived w a b (carried n d))
    (keeps_pair es w k a b (delivered_to p n d) (held_delivered (held_at es a b) n)
    (delivered_held p n d ∙ ap (λ (h : Held). held_delivered h n) (sym (held_same es w k a b))))
    b a (reply_to p (carried n d))

pub keeps_told : (es : List Held) (w : Wire) → Keeps es w → (a b n : ℕ)
    → Keeps (with_held es b a (held_told (held_at es b a) n)) (taken w a b (heard n))
keeps_told es w k a b n =
    let p = pair_at w b a in
    keeps_pair es w k b a (told p n) (held_told (held_at es b a) n)
    (told_held p n ∙ ap (λ (h : Held). held_told h n) (sym (held_same es w k b a)))

-- ## What calls answer

pub sent_same : (es : List Held) (w : Wire) → Keeps es w → (a b : ℕ) → (held_at es a b).sent ≡ length (pair_at w a b).sent
sent_same es w k a b = ap (λ (h : Held). h.sent) (held_same es w k a b)

pub due_same : (es : List Held) (w : Wire) → Keeps es w → (a b : ℕ) → held_due (held_at es a b) ≡ option_map header (due (pair_at w a b))
due_same es w k a b = ap held_due (held_same es w k a b) ∙ due_held (pair_at w a b)

some_if : (b : Bool) (d : Datum) → b ≡ is_some (cond b (Some d) None)
some_if true d = refl
some_if false d = refl

pub next_same : (es : List Held) (w : Wire) → Keeps es w → (a b n : ℕ) (d : Datum)
    → held_next (held_at es a b) n ≡ is_some (arriving (pair_at w a b) (carried n d))
next_same es w k a b n d = ap (λ (h : Held). held_next h n) (held_same es w k a b) ∙ some_if (is_next (pair_at w a b) n) d

pub reply_same : (es : List Held) (w : Wire) → Keeps es w → (a b n : ℕ) (d : Datum)
    → Some (code.Known (held_delivered (held_at es a b) n).delivered) ≡ option_map header (reply_to (pair_at w a b) (carried n d))
reply_same es w k a b n d =
    ap {B = Option Header} (λ (h : Held). Some (code.Known h.delivered))
    (ap (λ (h : Held). held_delivered h n) (held_same es w k a b) ∙ sym (delivered_held (pair_at w a b) n d))
