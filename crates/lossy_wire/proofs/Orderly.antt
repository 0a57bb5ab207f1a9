-- Values are delivered once and in order.
use Rattle.std.proofs.Common.{◌≡◌, ◌∙◌, ap, sym, refl, subst, ℕ, zero, suc, ◌+◌, ◌-◌, ◌≤◌, ◌<◌, Bool, true, false, cond, List, []}
use Rattle.std.proofs.Common.{◌∷◌, ◌++◌, length, slice_set, get_or, Option, Some, None, inl, inr, ◌⊎◌, arith, append_assoc, length-append}
use Rattle.std.specs.Prelude.{replicate, slice_get, nat_lt, nat_le, ◌&&◌, ◌==◌}
use Rattle.std.proofs.lemmas.Bool.{eqb-true}
use Rattle.std.proofs.lemmas.Option.{same_Some}
use Rattle.std.proofs.lemmas.List.{length-set}
use Rattle.eden_value.specs.Datum.{Datum}
use Rattle.lossy_wire.specs.Wire.{Packet, carried, heard, Pair, at_rest, Wire, quiet, IsStation, IsFront, slot, pair_at, with_pair}
use Rattle.lossy_wire.specs.Wire.{put, put_by, send, numbered, is_next, delivered_to, taken, packet_at}
use Rattle.lossy_wire.specs.Commands.{Command, sends, repeats, carries, IsInReach, AllInReach}
use Rattle.lossy_wire.specs.Texts.{carried_by, next, wire_after}
use Rattle.lossy_wire.specs.Laws.{WiresAreOrderly}

-- ## Lists

get_last : {A : Type 0} (xs : List A) (y x : A) (i : ℕ) → slice_get (xs ++ y ∷ []) i ≡ Some x → (slice_get xs i ≡ Some x) ⊎ (y ≡ x)
get_last [] y x zero h = inr (same_Some y x h)
get_last [] y x (suc i) h = absurd cc
get_last (z ∷ xs) y x zero h = inl h
get_last (z ∷ xs) y x (suc i) h = get_last xs y x i h

get_more : {A : Type 0} (xs ys : List A) (x : A) (i : ℕ) → slice_get xs i ≡ Some x → slice_get (xs ++ ys) i ≡ Some x
get_more [] ys x i h = absurd cc
get_more (z ∷ xs) ys x zero h = h
get_more (z ∷ xs) ys x (suc i) h = get_more xs ys x i h

get_at : {A : Type 0} (xs : List A) (y : A) → slice_get (xs ++ y ∷ []) (length xs) ≡ Some y
get_at [] y = refl
get_at (z ∷ xs) y = get_at xs y

get_seam : {A : Type 0} (xs rest : List A) (y : A) → slice_get (xs ++ rest) (length xs) ≡ Some y → (more : List A) × (rest ≡ y ∷ more)
get_seam [] [] y h = absurd cc
get_seam [] (z ∷ rest) y h = (rest, ap (λ x. x ∷ rest) (same_Some z y h))
get_seam (z ∷ xs) rest y h = get_seam xs rest y h

pub set_cases : (w : Wire) (s k : ℕ) (p : Pair)
    → ((get_or (slice_set w s p) k at_rest ≡ p) × (k ≡ s)) ⊎ (get_or (slice_set w s p) k at_rest ≡ get_or w k at_rest)
set_cases [] s k p = inr refl
set_cases (x ∷ w) zero zero p = inl (refl, refl)
set_cases (x ∷ w) zero (suc k) p = inr refl
set_cases (x ∷ w) (suc s) zero p = inr refl
set_cases (x ∷ w) (suc s) (suc k) p = elim (set_cases w s k p) [ inl e ↦ inl (e.0, ap suc e.1) | inr e ↦ inr e ]

set_same : (w : Wire) (s : ℕ) (p : Pair) → s < length w → get_or (slice_set w s p) s at_rest ≡ p
set_same [] s p h = absurd (omega (arith, h))
set_same (x ∷ w) zero p h = refl
set_same (x ∷ w) (suc s) p h = set_same w s p (omega (arith, h))

slot_small : (a b : ℕ) → IsStation a → IsStation b → slot a b < 64
slot_small a b h g = omega (arith, h.0, h.1, g.0, g.1)

slot_first : (a b c d : ℕ) → IsStation a → IsStation b → IsStation c → IsStation d → slot a b ≡ slot c d → a ≡ c
slot_first a b c d h g i j e = omega (arith, h.0, h.1, g.0, g.1, i.0, i.1, j.0, j.1, e)

slot_second : (a b c d : ℕ) → IsStation a → IsStation b → IsStation c → IsStation d → slot a b ≡ slot c d → b ≡ d
slot_second a b c d h g i j e = omega (arith, h.0, h.1, g.0, g.1, i.0, i.1, j.0, j.1, e)

-- ## What is kept true

-- a packet of these values that were sent
abbrev Sound : List Datum → Packet → Type 0
Sound sent (carried n d) = (1 ≤ n) × (slice_get sent (n - 1) ≡ Some d)
Sound sent (heard n) = Unit {0}

-- a packet that says at most that so many are delivered
abbrev Modest : ℕ → Packet → Type 0
Modest m (carried n d) = Unit {0}
Modest m (heard n) = n ≤ m

sound_more : (sent more : List Datum) (x : Packet) → Sound sent x → Sound (sent ++ more) x
sound_more sent more (carried n d) h = (h.0, get_more sent more d (n - 1) h.1)
sound_more sent more (heard n) h = tt

modest_more : (m k : ℕ) (x : Packet) → m ≤ k → Modest m x → Modest k x
modest_more m k (carried n d) l h = tt
modest_more m k (heard n) l h = omega (arith, l, h)

record Own (p : Pair) : Type 0 where
  front : IsFront p.delivered p.sent
  known : p.known ≤ length p.delivered
  sound : (i : ℕ) (x : Packet) → slice_get p.packets i ≡ Some x → Sound p.sent x

-- no packet says more than was delivered of the pair
abbrev Acks : Pair → Pair → Type 0
Acks p q = (i : ℕ) (x : Packet) → slice_get q.packets i ≡ Some x → Modest (length p.delivered) x

record Good (w : Wire) : Type 0 where
  size : length w ≡ 64
  own : (k : ℕ) → Own (get_or w k at_rest)
  acks : (a b : ℕ) → IsStation a → IsStation b → Acks (pair_at w a b) (pair_at w b a)

own_rest : Own at_rest
own_rest = record { front = ([], refl); known = omega arith; sound = λ i x h. absurd cc }

module _ (w : Wire) (good : Good w) (c d : ℕ) (first : IsStation c) (second : IsStation d) where
  grown : (a b : ℕ) → IsStation a → IsStation b → (p : Pair) → length (pair_at w c d).delivered ≤ length p.delivered
      → length (pair_at w a b).delivered ≤ length (pair_at (with_pair w c d p) a b).delivered
  grown a b h g p more =
      elim (set_cases w (slot c d) (slot a b) p) [
        | inl e ↦
            (let i : a ≡ c = slot_first a b c d h g first second e.1 in
            let j : b ≡ d = slot_second a b c d h g first second e.1 in
            let now : length (pair_at (with_pair w c d p) a b).delivered ≡ length p.delivered = ap (λ (q : Pair). length q.delivered) e.0 in
            let was : length (pair_at w a b).delivered ≡ length (pair_at w c d).delivered =
            ap (λ (k : ℕ). length (get_or w k at_rest).delivered) e.1 in
            omega (arith, now, was, more))
        | inr e ↦
            (let now : length (pair_at (with_pair w c d p) a b).delivered ≡ length (pair_at w a b).delivered =
            ap (λ (q : Pair). length q.delivered) e in
            omega (arith, now))
      ]

  good_set : (p : Pair) → Own p → length (pair_at w c d).delivered ≤ length p.delivered → Acks (pair_at w d c) p
      → Good (with_pair w c d p)
  good_set p own more acks = record {
    size = length-set w (slot c d) p ∙ good.size;
    own = λ k. elim (set_cases w (slot c d) k p) [ inl e ↦ subst Own (sym e.0) own | inr e ↦ subst Own (sym e) (good.own k) ];
    acks =
        λ a b h g i x is. elim (set_cases w (slot c d) (slot b a) p) [
          | inl e ↦
              (let u : b ≡ c = slot_first b a c d g h first second e.1 in
              let v : a ≡ d = slot_second b a c d g h first second e.1 in
              let m : Modest (length (pair_at w d c).delivered) x =
              acks i x (sym (ap (λ (q : Pair). slice_get q.packets i) e.0) ∙ is) in
              let n : Modest (length (pair_at w a b).delivered) x =
              subst (λ (k : ℕ). Modest (length (pair_at w k b).delivered) x) (sym v)
              (subst (λ (k : ℕ). Modest (length (pair_at w d k).delivered) x) (sym u) m) in
              modest_more _ _ x (grown a b h g p more) n)
          | inr e ↦ modest_more _ _ x (grown a b h g p more)
              (good.acks a b h g i x (sym (ap (λ (q : Pair). slice_get q.packets i) e) ∙ is))
        ];
  }

  good_put : (x : Packet) → Sound (pair_at w c d).sent x → Modest (length (pair_at w d c).delivered) x → Good (put w c d x)
  good_put x sound modest =
      let p = pair_at w c d in
      let own = good.own (slot c d) in
      good_set (record p { packets = p.packets ++ x ∷ [] })
      (record {
        front = own.front;
        known = own.known;
        sound = λ i y is. elim (get_last p.packets x y i is) [
          | inl h ↦ own.sound i y h
          | inr e ↦ subst (Sound p.sent) e sound
        ];
      })
      (omega arith)
      (λ i y is. elim (get_last p.packets x y i is) [
        | inl h ↦ good.acks d c second first i y h
        | inr e ↦ subst (Modest (length (pair_at w d c).delivered)) e modest
      ])

  good_send : (v : Datum) → Good (with_pair w c d (record (pair_at w c d) { sent = (pair_at w c d).sent ++ v ∷ [] }))
  good_send v =
      let p = pair_at w c d in
      let own = good.own (slot c d) in
      good_set (record p { sent = p.sent ++ v ∷ [] })
      (record {
        front = (
          own.front.0 ++ v ∷ [],
          ap (λ (l : List Datum). l ++ v ∷ []) own.front.1 ∙ append_assoc p.delivered own.front.0 (v ∷ []),
        );
        known = own.known;
        sound = λ i x is. sound_more p.sent (v ∷ []) x (own.sound i x is);
      })
      (omega arith)
      (good.acks d c second first)

  -- a pair that was told, or had a value delivered
  deliver_by : (b : Bool) (n : ℕ) (v : Datum) → (n == length (pair_at w c d).delivered + 1) ≡ b → Sound (pair_at w c d).sent (carried n v)
      → Good (with_pair w c d (cond b (record (pair_at w c d) { delivered = (pair_at w c d).delivered ++ v ∷ [] }) (pair_at w c d)))
  deliver_by false n v e sound =
      good_set (pair_at w c d) (good.own (slot c d)) (omega arith) (good.acks d c second first)
  deliver_by true n v e sound =
      let p = pair_at w c d in
      let own = good.own (slot c d) in
      let next_ : n ≡ length p.delivered + 1 = eqb-true n (length p.delivered + 1) e in
      let place : n - 1 ≡ length p.delivered = omega (arith, next_) in
      let there : slice_get (p.delivered ++ own.front.0) (length p.delivered) ≡ Some v =
      sym (ap (λ (l : List Datum). slice_get l (length p.delivered)) own.front.1)
      ∙ sym (ap (λ (k : ℕ). slice_get p.sent k) place) ∙ sound.1 in
      let more = get_seam p.delivered own.front.0 v there in
      let longer : length (p.delivered ++ v ∷ []) ≡ length p.delivered + 1 = length-append p.delivered (v ∷ []) in
      good_set (record p { delivered = p.delivered ++ v ∷ [] })
      (record {
        front = (more.0, own.front.1 ∙ ap (λ (l : List Datum). p.delivered ++ l) more.1 ∙ sym (append_assoc p.delivered (v ∷ []) more.0));
        known = omega (arith, own.known, longer);
        sound = own.sound;
      })
      (omega (arith, longer))
      (good.acks d c second first)

  tell_by : (b : Bool) (n : ℕ) → n ≤ length (pair_at w c d).delivered
      → Good (with_pair w c d (cond b (record (pair_at w c d) { known = n }) (pair_at w c d)))
  tell_by false n m = good_set (pair_at w c d) (good.own (slot c d)) (omega arith) (good.acks d c second first)
  tell_by true n m =
      let own = good.own (slot c d) in
      good_set (record (pair_at w c d) { known = n }) (record { front = own.front; known = m; sound = own.sound }) (omega arith)
      (good.acks d c second first)

-- ## Commands

good_sent : (w : Wire) → Good w → (a b : ℕ) → IsStation a → IsStation b → (v : Datum) → Good (send w a b v)
good_sent w good a b h g v =
    let p : Pair = record (pair_at w a b) { sent = (pair_at w a b).sent ++ v ∷ [] } in
    let n = length (pair_at w a b).sent in
    let small = slot_small a b h g in
    let is : pair_at (with_pair w a b p) a b ≡ p = set_same w (slot a b) p (omega (arith, small, good.size)) in
    let place : n + 1 - 1 ≡ n = omega arith in
    let s : Sound p.sent (carried (n + 1) v) =
    (omega arith, ap (λ (k : ℕ). slice_get p.sent k) place ∙ get_at (pair_at w a b).sent v) in
    good_put (with_pair w a b p) (good_send w good a b h g v) a b h g (carried (n + 1) v)
    (subst (λ (q : Pair). Sound q.sent (carried (n + 1) v)) (sym is) s) tt

good_again : (w : Wire) → Good w → (a b : ℕ) → IsStation a → IsStation b → (o : Option Datum)
    → slice_get (pair_at w a b).sent (pair_at w a b).known ≡ o → Good (put_by (numbered ((pair_at w a b).known + 1) o) w a b)
good_again w good a b h g None e = good
good_again w good a b h g (Some v) e =
    let k = (pair_at w a b).known in
    let place : k + 1 - 1 ≡ k = omega arith in
    good_put w good a b h g (carried (k + 1) v) (omega arith, ap (λ (j : ℕ). slice_get (pair_at w a b).sent j) place ∙ e) tt

good_taken : (w : Wire) → Good w → (a b : ℕ) → IsStation a → IsStation b → (x : Packet) → Sound (pair_at w a b).sent x
    → Modest (length (pair_at w b a).delivered) x → Good (taken w a b x)
good_taken w good a b h g (carried n v) sound modest =
    let q = delivered_to (pair_at w a b) n v in
    let small = slot_small a b h g in
    let is : pair_at (with_pair w a b q) a b ≡ q = set_same w (slot a b) q (omega (arith, small, good.size)) in
    let same : length (pair_at (with_pair w a b q) a b).delivered ≡ length q.delivered = ap (λ (p : Pair). length p.delivered) is in
    good_put (with_pair w a b q) (deliver_by w good a b h g (is_next (pair_at w a b) n) n v refl sound) b a g h (heard (length q.delivered)) tt
    (omega (arith, same))
good_taken w good a b h g (heard n) sound modest =
    tell_by w good b a g h (nat_lt (pair_at w b a).known n && nat_le n (length (pair_at w b a).sent)) n modest

good_carried : (w : Wire) → Good w → (a b i : ℕ) → IsStation a → IsStation b → (o : Option Packet)
    → slice_get (pair_at w a b).packets i ≡ o → Good (carried_by o w a b)
good_carried w good a b i h g None e = good
good_carried w good a b i h g (Some x) e =
    good_taken w good a b h g x ((good.own (slot a b)).sound i x e) (good.acks b a g h i x e)

good_next : (w : Wire) → Good w → (c : Command) → IsInReach c → Good (next w c)
good_next w good (sends a b v) r = good_sent w good a b r.0 r.1 v
good_next w good (repeats a b) r = good_again w good a b r.0 r.1 (slice_get (pair_at w a b).sent (pair_at w a b).known) refl
good_next w good (carries a b i) r = good_carried w good a b (i - 1) r.0 r.1 (packet_at w a b i) refl

good_after : (w : Wire) → Good w → (cs : List Command) → AllInReach cs → Good (wire_after w cs)
good_after w good [] r = good
good_after w good (c ∷ cs) r = good_after (next w c) (good_next w good c r.0) cs r.1

rest_at : (n k : ℕ) → get_or (replicate n at_rest) k at_rest ≡ at_rest
rest_at zero k = refl
rest_at (suc n) zero = refl
rest_at (suc n) (suc k) = rest_at n k

pub quiet_at : (k : ℕ) → get_or quiet k at_rest ≡ at_rest
quiet_at k = rest_at 64 k

good_quiet : Good quiet
good_quiet = record {
  size = refl;
  own = λ k. subst Own (sym (quiet_at k)) own_rest;
  acks =
      λ a b h g i x is. absurd (none x (sym (ap (λ (q : Pair). slice_get q.packets i) (quiet_at (slot b a))) ∙ is));
}
  where
    none : (x : Packet) → ◌≡◌ {A = Option Packet} None (Some x) → ⊥
    none x h = cc

pub orderly : WiresAreOrderly
orderly cs a b r h g =
    let own = (good_after quiet good_quiet cs r).own (slot a b) in
    record { front = own.front; known = own.known }

-- a value on the wire is the one that was sent with its number
pub sound_after : (cs : List Command) → AllInReach cs → (a b i n : ℕ) (v : Datum) → packet_at (wire_after quiet cs) a b i ≡ Some (carried n v)
    → (1 ≤ n) × (slice_get (pair_at (wire_after quiet cs) a b).sent (n - 1) ≡ Some v)
sound_after cs r a b i n v is = ((good_after quiet good_quiet cs r).own (slot a b)).sound (i - 1) (carried n v) is
