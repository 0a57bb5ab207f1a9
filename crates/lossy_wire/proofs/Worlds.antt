-- What is kept of a wire goes the way of the wire.
use Rattle.std.proofs.Common.{◌≡◌, ◌∙◌, ap, sym, refl, subst, ℕ, zero, suc, ◌+◌, ◌-◌, ◌≤◌, Bool, true, false, cond, List, [], ◌∷◌, ◌++◌, map}
use Rattle.std.proofs.Common.{length, slice_set, get_or, Option, Some, None, append-nil, ◌⊎◌, inl, inr}
use Rattle.std.specs.Prelude.{slice_get, nat_lt, nat_le, ◌&&◌, is_some, replicate}
use Rattle.std.specs.Option.{option_map}
use Rattle.std.proofs.lemmas.List.{map-set, map-append}
use Rattle.std.proofs.lemmas.Option.{same_Some}
use Rattle.std.proofs.Math.ListN.{get_or-map}
use Rattle.std.proofs.Math.Seq.{map-set_same}
use Rattle.eden_value.specs.Datum.{Datum, truth}
use Rattle.line_forms.specs.Forms.{Last, nothing, datum, words, mode}
use Rattle.lossy_wire.specs.Wire.{Packet, carried, heard, Pair, at_rest, Wire, quiet, IsStation, slot, pair_at, with_pair, put, put_by, send}
use Rattle.lossy_wire.specs.Wire.{due, is_next, delivered_to, told, arriving, reply_to, arrived, taken, packet_at}
use Rattle.lossy_wire.specs.Held.{Held, Keeps, OfWire}
use Rattle.lossy_wire.specs.Lists.{items_at, with_item, with_item_by, item_in}
use Rattle.lossy_wire.specs.Commands.{Command, sends, repeats, carries, IsInReach, AllInReach, command_by}
use Rattle.lossy_wire.specs.Spots.{IsCommandAt, IsValueAt, AreValuesAt, AllValuesAt}
use Rattle.lossy_wire.specs.Texts.{delivery, delivery_by, again_line, arrival_line, carried_by, next, wire_after, lines}
use Rattle.lossy_wire.specs.View.{header, with_value}
use Rattle.lossy_wire.specs.World.{sent_of, headers, IsReached, IsOf, OfAny, again_text, number_by, IsSent, HasValue, Shows}
use Rattle.lossy_wire.specs.declared.commands.Script.{Script}
use Rattle.lossy_wire.specs.declared.packet.Header.{Header}
use Rattle.lossy_wire.specs.declared.packet.Header.TheVariants as code
use Rattle.lossy_wire.specs.declared.run.World.{World}
use Rattle.lossy_wire.proofs.Keeping.{keeps_put_by}
use Rattle.lossy_wire.proofs.Orderly.{sound_after}

-- ## Packets

headers_pair : (w : Wire) (a b : ℕ) (p : Pair) → p.packets ≡ (pair_at w a b).packets → map headers (with_pair w a b p) ≡ map headers w
headers_pair w a b p e = map-set_same headers w (slot a b) p at_rest (ap (map header) e)

at_same : (w : Wire) (a b : ℕ) → items_at (map headers w) a b ≡ headers (pair_at w a b)
at_same w a b = get_or-map headers w (slot a b) at_rest

headers_put : (w : Wire) (a b : ℕ) (x : Packet) → map headers (put w a b x) ≡ with_item (map headers w) a b (header x)
headers_put w a b x =
    map-set headers w (slot a b) (record (pair_at w a b) { packets = (pair_at w a b).packets ++ x ∷ [] })
    ∙ ap (λ (l : List Header). slice_set (map headers w) (slot a b) l)
    (map-append header (pair_at w a b).packets (x ∷ []) ∙ ap (λ (l : List Header). l ++ header x ∷ []) (sym (at_same w a b)))

headers_put_by : (w : Wire) (a b : ℕ) (o : Option Packet)
    → map headers (put_by o w a b) ≡ with_item_by (map headers w) a b (option_map header o)
headers_put_by w a b None = refl
headers_put_by w a b (Some x) = headers_put w a b x

delivered_packets : (b : Bool) (p : Pair) (d : Datum) → (cond b (record p { delivered = p.delivered ++ d ∷ [] }) p).packets ≡ p.packets
delivered_packets true p d = refl
delivered_packets false p d = refl

told_packets : (b : Bool) (p : Pair) (n : ℕ) → (cond b (record p { known = n }) p).packets ≡ p.packets
told_packets true p n = refl
told_packets false p n = refl

headers_arrived : (w : Wire) (a b : ℕ) (x : Packet) → map headers (arrived w a b x) ≡ map headers w
headers_arrived w a b (carried n d) =
    headers_pair w a b (delivered_to (pair_at w a b) n d) (delivered_packets (is_next (pair_at w a b) n) (pair_at w a b) d)
headers_arrived w a b (heard n) =
    let p = pair_at w b a in
    headers_pair w b a (told p n) (told_packets (nat_lt p.known n && nat_le n (length p.sent)) p n)

headers_taken : (w : Wire) (a b : ℕ) (x : Packet)
    → map headers (taken w a b x) ≡ with_item_by (map headers w) b a (option_map header (reply_to (pair_at w a b) x))
headers_taken w a b x =
    let reply = reply_to (pair_at w a b) x in
    headers_put_by (arrived w a b x) b a reply
    ∙ ap (λ (l : List (List Header)). with_item_by l b a (option_map header reply)) (headers_arrived w a b x)

get_map : (xs : List Packet) (i : ℕ) → slice_get (map header xs) i ≡ option_map header (slice_get xs i)
get_map [] zero = refl
get_map [] (suc i) = refl
get_map (x ∷ xs) zero = refl
get_map (x ∷ xs) (suc i) = get_map xs i

header_same : (w : Wire) (a b i : ℕ) → item_in (map headers w) a b i ≡ option_map header (packet_at w a b i)
header_same w a b i = ap (λ (l : List Header). slice_get l (i - 1)) (at_same w a b) ∙ get_map (pair_at w a b).packets (i - 1)

-- ## What was sent

sent_pair : (w : Wire) (a b : ℕ) (p : Pair) → p.sent ≡ (pair_at w a b).sent → map sent_of (with_pair w a b p) ≡ map sent_of w
sent_pair w a b p e = map-set_same sent_of w (slot a b) p at_rest e

sent_put_by : (w : Wire) (a b : ℕ) (o : Option Packet) → map sent_of (put_by o w a b) ≡ map sent_of w
sent_put_by w a b None = refl
sent_put_by w a b (Some x) = sent_pair w a b (record (pair_at w a b) { packets = (pair_at w a b).packets ++ x ∷ [] }) refl

delivered_sent : (b : Bool) (p : Pair) (d : Datum) → (cond b (record p { delivered = p.delivered ++ d ∷ [] }) p).sent ≡ p.sent
delivered_sent true p d = refl
delivered_sent false p d = refl

told_sent : (b : Bool) (p : Pair) (n : ℕ) → (cond b (record p { known = n }) p).sent ≡ p.sent
told_sent true p n = refl
told_sent false p n = refl

sent_arrived : (w : Wire) (a b : ℕ) (x : Packet) → map sent_of (arrived w a b x) ≡ map sent_of w
sent_arrived w a b (carried n d) =
    sent_pair w a b (delivered_to (pair_at w a b) n d) (delivered_sent (is_next (pair_at w a b) n) (pair_at w a b) d)
sent_arrived w a b (heard n) =
    let p = pair_at w b a in
    sent_pair w b a (told p n) (told_sent (nat_lt p.known n && nat_le n (length p.sent)) p n)

sent_taken : (w : Wire) (a b : ℕ) (x : Packet) → map sent_of (taken w a b x) ≡ map sent_of w
sent_taken w a b x = sent_put_by (arrived w a b x) b a (reply_to (pair_at w a b) x) ∙ sent_arrived w a b x

module _ (s : Script) where
  none_sent : (n : ℕ) → AllValuesAt s (replicate n []) (map sent_of (replicate n at_rest))
  none_sent zero = tt
  none_sent (suc n) = (tt, none_sent n)

  all_get : (ls : List (List ℕ)) (all : List (List Datum)) → AllValuesAt s ls all → (k : ℕ)
      → AreValuesAt s (get_or ls k []) (get_or all k [])
  all_get [] [] h k = tt
  all_get [] (ds ∷ all) h k = absurd h
  all_get (l ∷ ls) [] h k = absurd h
  all_get (l ∷ ls) (ds ∷ all) h zero = h.0
  all_get (l ∷ ls) (ds ∷ all) h (suc k) = all_get ls all h.1 k

  all_set : (ls : List (List ℕ)) (all : List (List Datum)) → AllValuesAt s ls all → (k : ℕ) (l : List ℕ) (ds : List Datum)
      → AreValuesAt s l ds → AllValuesAt s (slice_set ls k l) (slice_set all k ds)
  all_set [] [] h k l ds g = tt
  all_set [] (es ∷ all) h k l ds g = absurd h
  all_set (m ∷ ls) [] h k l ds g = absurd h
  all_set (m ∷ ls) (es ∷ all) h zero l ds g = (g, h.1)
  all_set (m ∷ ls) (es ∷ all) h (suc k) l ds g = (h.0, all_set ls all h.1 k l ds g)

  values_more : (l : List ℕ) (ds : List Datum) (spot : ℕ) (d : Datum) → AreValuesAt s l ds → IsValueAt s spot d
      → AreValuesAt s (l ++ spot ∷ []) (ds ++ d ∷ [])
  values_more [] [] spot d h g = (g, tt)
  values_more [] (e ∷ ds) spot d h g = absurd h
  values_more (x ∷ l) [] spot d h g = absurd h
  values_more (x ∷ l) (e ∷ ds) spot d h g = (h.0, values_more l ds spot d h.1 g)

  value_get : (l : List ℕ) (ds : List Datum) (i : ℕ) (d : Datum) → AreValuesAt s l ds → slice_get ds i ≡ Some d
      → (spot : ℕ) × (slice_get l i ≡ Some spot) × IsValueAt s spot d
  value_get [] [] i d h e = absurd cc
  value_get [] (x ∷ ds) i d h e = absurd h
  value_get (x ∷ l) [] i d h e = absurd h
  value_get (x ∷ l) (y ∷ ds) zero d h e = (x, refl, subst (IsValueAt s x) (same_Some y d e) h.0)
  value_get (x ∷ l) (y ∷ ds) (suc i) d h e = value_get l ds i d h.1 e

  values_at : (sent : List (List ℕ)) (w : Wire) → AllValuesAt s sent (map sent_of w) → (a b : ℕ)
      → AreValuesAt s (items_at sent a b) (pair_at w a b).sent
  values_at sent w h a b =
      subst (AreValuesAt s (items_at sent a b)) (get_or-map sent_of w (slot a b) at_rest) (all_get sent (map sent_of w) h (slot a b))

-- ## Commands that led to a wire

after_more : (w : Wire) (cs : List Command) (c : Command) → wire_after w (cs ++ c ∷ []) ≡ next (wire_after w cs) c
after_more w [] c = refl
after_more w (d ∷ cs) c = after_more (next w d) cs c

pub reach_more : (cs : List Command) (c : Command) → AllInReach cs → IsInReach c → AllInReach (cs ++ c ∷ [])
reach_more [] c h r = (r, tt)
reach_more (d ∷ cs) c h r = (h.0, reach_more cs c h.1 r)

reached_next : (w : Wire) (c : Command) → IsReached w → IsInReach c → IsReached (next w c)
reached_next w c h r =
    (h.0 ++ c ∷ [], reach_more h.0 c h.1 r, after_more quiet h.0 c ∙ ap (λ (v : Wire). next v c) h.2)

-- a value on the wire is the one that was sent with its number
reached_sound : (w : Wire) → IsReached w → (a b i n : ℕ) (d : Datum) → packet_at w a b i ≡ Some (carried n d)
    → (1 ≤ n) × (slice_get (pair_at w a b).sent (n - 1) ≡ Some d)
reached_sound w h a b i n d is =
    subst (λ (v : Wire). (1 ≤ n) × (slice_get (pair_at v a b).sent (n - 1) ≡ Some d)) h.2
    (sound_after h.0 h.1 a b i n d (ap (λ (v : Wire). packet_at v a b i) h.2 ∙ is))

-- ## The value of a row

abbrev last_by : Option Command → Last
last_by (Some (sends a b d)) = datum d
last_by _ = nothing

last_is : (k : ℕ) (ns : List ℕ) (l : Last) → (last_by (command_by k ns l) ≡ l) ⊎ (last_by (command_by k ns l) ≡ nothing)
last_is zero [] l = inr refl
last_is zero (a ∷ []) l = inr refl
last_is zero (a ∷ b ∷ []) nothing = inr refl
last_is zero (a ∷ b ∷ []) (datum d) = inl refl
last_is zero (a ∷ b ∷ []) (words t) = inr refl
last_is zero (a ∷ b ∷ []) (mode how) = inr refl
last_is zero (a ∷ b ∷ c ∷ ns) l = inr refl
last_is (suc zero) [] l = inr refl
last_is (suc zero) (a ∷ []) l = inr refl
last_is (suc zero) (a ∷ b ∷ []) nothing = inr refl
last_is (suc zero) (a ∷ b ∷ []) (datum d) = inr refl
last_is (suc zero) (a ∷ b ∷ []) (words t) = inr refl
last_is (suc zero) (a ∷ b ∷ []) (mode how) = inr refl
last_is (suc zero) (a ∷ b ∷ c ∷ ns) l = inr refl
last_is (suc (suc zero)) [] l = inr refl
last_is (suc (suc zero)) (a ∷ []) l = inr refl
last_is (suc (suc zero)) (a ∷ b ∷ []) l = inr refl
last_is (suc (suc zero)) (a ∷ b ∷ i ∷ []) nothing = inr refl
last_is (suc (suc zero)) (a ∷ b ∷ i ∷ []) (datum d) = inr refl
last_is (suc (suc zero)) (a ∷ b ∷ i ∷ []) (words t) = inr refl
last_is (suc (suc zero)) (a ∷ b ∷ i ∷ []) (mode how) = inr refl
last_is (suc (suc zero)) (a ∷ b ∷ i ∷ j ∷ ns) l = inr refl
last_is (suc (suc (suc k))) ns l = inr refl

no_value : (d : Datum) → nothing ≡ datum d → ⊥
no_value d e = cc

value_of : (s : Script) (spot a b : ℕ) (d : Datum) → IsCommandAt s spot (sends a b d) → IsValueAt s spot d
value_of s spot a b d h =
    let r = h.0 in
    let is : last_by (command_by r.form r.numbers r.last) ≡ datum d = ap last_by h.2 in (
      r,
      h.1,
      elim (last_is r.form r.numbers r.last) [
        | inl e ↦ sym e ∙ is
        | inr e ↦ absurd (no_value d (sym e ∙ is))
      ],
    )

-- ## Worlds

pub is_quiet : (world : World) → Keeps world.ends quiet → world.packets ≡ replicate 64 [] → world.sent ≡ replicate 64 []
    → (s : Script) → IsOf s world quiet
is_quiet world keeps packets sent s = record {
  keeps = keeps;
  packets = packets;
  sent = subst (λ (l : List (List ℕ)). AllValuesAt s l (map sent_of quiet)) (sym sent) (none_sent s 64);
  reached = ([], tt, refl);
}

pub is_sent : (old new : World) (a b spot : ℕ) (x : Header) → IsStation a → IsStation b
    → OfWire old.ends (λ w. (d : Datum) → Keeps new.ends (send w a b d))
    → OfWire old.ends (λ w. (d : Datum) → x ≡ header (carried (length (pair_at w a b).sent + 1) d))
    → new.sent ≡ with_item old.sent a b spot → new.packets ≡ with_item old.packets a b x
    → (s : Script) (d : Datum) → IsCommandAt s spot (sends a b d) → OfAny s old (λ w. IsOf s new (next w (sends a b d)))
is_sent old new a b spot x first second keeps is sent packets s d there w h =
    let p = pair_at w a b in
    let q : Pair = record p { sent = p.sent ++ d ∷ [] } in
    let y = carried (length p.sent + 1) d in
    record {
      keeps = keeps w h.keeps d;
      packets =
          packets ∙ ap (λ (l : List (List Header)). with_item l a b x) h.packets ∙ ap (with_item (map headers w) a b) (is w h.keeps d)
          ∙ ap (λ (l : List (List Header)). with_item l a b (header y)) (sym (headers_pair w a b q refl))
          ∙ sym (headers_put (with_pair w a b q) a b y);
      sent =
          subst (λ (l : List (List ℕ)). AllValuesAt s l (map sent_of (send w a b d))) (sym sent)
          (subst (AllValuesAt s (with_item old.sent a b spot))
          (sym (sent_put_by (with_pair w a b q) a b (Some y) ∙ map-set sent_of w (slot a b) q))
          (all_set s old.sent (map sent_of w) h.sent (slot a b) (items_at old.sent a b ++ spot ∷ []) (p.sent ++ d ∷ [])
          (values_more s (items_at old.sent a b) p.sent spot d (values_at s old.sent w h.sent a b)
          (value_of s spot a b d there))));
      reached = reached_next w (sends a b d) h.reached (first, second);
    }

pub is_again : (old new : World) (a b : ℕ) (o : Option Header) → IsStation a → IsStation b → new.ends ≡ old.ends → new.sent ≡ old.sent
    → OfWire old.ends (λ w. o ≡ option_map header (due (pair_at w a b))) → new.packets ≡ with_item_by old.packets a b o
    → (s : Script) → OfAny s old (λ w. IsOf s new (next w (repeats a b)))
is_again old new a b o first second ends sent is packets s w h = record {
  keeps =
      subst (λ (l : List Held). Keeps l (next w (repeats a b))) (sym ends)
      (keeps_put_by old.ends w h.keeps a b (due (pair_at w a b)));
  packets =
      packets ∙ ap (λ (l : List (List Header)). with_item_by l a b o) h.packets ∙ ap (with_item_by (map headers w) a b) (is w h.keeps)
      ∙ sym (headers_put_by w a b (due (pair_at w a b)));
  sent =
      subst (λ (l : List (List ℕ)). AllValuesAt s l (map sent_of (next w (repeats a b)))) (sym sent)
      (subst (AllValuesAt s old.sent) (sym (sent_put_by w a b (due (pair_at w a b)))) h.sent);
  reached = reached_next w (repeats a b) h.reached (first, second);
}

again_same : (o : Option Packet) → again_text (option_map header o) ≡ again_line o
again_same None = refl
again_same (Some x) = refl

pub is_again_text : (old : World) (a b : ℕ) (o : Option Header) (text now : List ℕ)
    → OfWire old.ends (λ w. o ≡ option_map header (due (pair_at w a b))) → now ≡ text ++ again_text o
    → (s : Script) → OfAny s old (λ w. now ≡ text ++ lines w (repeats a b))
is_again_text old a b o text now is same s w h =
    same ∙ ap (λ (l : List ℕ). text ++ l) (ap again_text (is w h.keeps) ∙ again_same (due (pair_at w a b)))

-- ## A packet comes

-- the packet that is carried, by what is kept of it
found_by : (o : Option Packet) (x : Header) → Some x ≡ option_map header o → (y : Packet) × (o ≡ Some y) × (header y ≡ x)
found_by None x h = absurd cc
found_by (Some y) x h = (y, refl, sym (same_Some x (header y) h))

module _ (s : Script) (old : World) (w : Wire) (h : IsOf s old w) (a b i : ℕ) where
  pub found : (x : Header) → Some x ≡ item_in old.packets a b i → (y : Packet) × (packet_at w a b i ≡ Some y) × (header y ≡ x)
  found x at =
      found_by (packet_at w a b i) x (at ∙ ap (λ (l : List (List Header)). item_in l a b i) h.packets ∙ header_same w a b i)

  none_by : (o : Option Packet) → None ≡ option_map header o → o ≡ None
  none_by None e = refl
  none_by (Some y) e = absurd cc

  found_none : None ≡ item_in old.packets a b i → packet_at w a b i ≡ None
  found_none at =
      none_by (packet_at w a b i) (at ∙ ap (λ (l : List (List Header)). item_in l a b i) h.packets ∙ header_same w a b i)

  sent_there : (n : ℕ) (d : Datum) → packet_at w a b i ≡ Some (carried n d) → (1 ≤ n) × IsSent s old.sent a b n d
  sent_there n d is =
      let r = reached_sound w h.reached a b i n d is in
      (r.0, value_get s (items_at old.sent a b) (pair_at w a b).sent (n - 1) d (values_at s old.sent w h.sent a b) r.1)

  value_by : (x : Header) (delivers : Bool) (y : Packet) → packet_at w a b i ≡ Some y → header y ≡ x
      → HasValue s old.sent a b (number_by x delivers)
  value_by x true (carried n d) is e =
      subst (λ (z : Header). HasValue s old.sent a b (number_by z true)) e
      (let r = sent_there n d is in (r.0, (d, r.1)))
  value_by x false (carried n d) is e = subst (λ (z : Header). HasValue s old.sent a b (number_by z false)) e tt
  value_by x delivers (heard n) is e = subst (λ (z : Header). HasValue s old.sent a b (number_by z delivers)) e tt

  arrival_by : (n : ℕ) (d : Datum) (delivers next_ : Bool) (text now : List ℕ) → delivers ≡ is_some (cond next_ (Some d) None)
      → Shows s old.sent a b (number_by (code.Carried n) delivers) text now → IsSent s old.sent a b n d
      → now ≡ text ++ delivery_by (cond next_ (Some d) None) a b
  arrival_by n d delivers true text now e shows is =
      subst (λ (t : Bool). Shows s old.sent a b (number_by (code.Carried n) t) text now) e shows d is
  arrival_by n d delivers false text now e shows is =
      subst (λ (t : Bool). Shows s old.sent a b (number_by (code.Carried n) t) text now) e shows ∙ sym (append-nil text)

  text_by : (x : Header) (delivers : Bool) (y : Packet) (text now : List ℕ) → packet_at w a b i ≡ Some y → header y ≡ x
      → ((d : Datum) → delivers ≡ is_some (arriving (pair_at w a b) (with_value d x)))
      → Shows s old.sent a b (number_by x delivers) text now → now ≡ text ++ arrival_line (Some y) w a b
  text_by x delivers (carried n d) text now is e next_ shows =
      arrival_by n d delivers (is_next (pair_at w a b) n) text now
      (subst (λ (z : Header). delivers ≡ is_some (arriving (pair_at w a b) (with_value d z))) (sym e) (next_ d))
      (subst (λ (z : Header). Shows s old.sent a b (number_by z delivers) text now) (sym e) shows) (sent_there n d is).1
  text_by x delivers (heard n) text now is e next_ shows =
      subst (λ (z : Header). Shows s old.sent a b (number_by z delivers) text now) (sym e) shows ∙ sym (append-nil text)

-- the value that is delivered stands in the script
pub has_value : (s : Script) (old : World) (held : (w : Wire) × IsOf s old w) (a b i : ℕ) (x : Header) (delivers : Bool)
    → Some x ≡ item_in old.packets a b i → HasValue s old.sent a b (number_by x delivers)
has_value s old held a b i x delivers at =
    let r = found s old held.0 held.1 a b i x at in value_by s old held.0 held.1 a b i x delivers r.0 r.1 r.2

pub carried_text : (s : Script) (old : World) (a b i : ℕ) (x : Header) (delivers : Bool) (text now : List ℕ)
    → Some x ≡ item_in old.packets a b i
    → OfWire old.ends (λ w. (d : Datum) → delivers ≡ is_some (arriving (pair_at w a b) (with_value d x)))
    → Shows s old.sent a b (number_by x delivers) text now → OfAny s old (λ w. now ≡ text ++ lines w (carries a b i))
carried_text s old a b i x delivers text now at next_ shows w h =
    let r = found s old w h a b i x at in
    text_by s old w h a b i x delivers r.0 text now r.1 r.2 (next_ w h.keeps) shows
    ∙ ap (λ (o : Option Packet). text ++ arrival_line o w a b) (sym r.1)

-- the value that is read is the one that was sent with the number
pub shown : (s : Script) (sent : List (List ℕ)) (a b n spot : ℕ) (v : Datum) (old new : List ℕ) → Some spot ≡ item_in sent a b n
    → ((d : Datum) → IsValueAt s spot d → v ≡ d) → new ≡ old ++ delivery a b v → Shows s sent a b (Some n) old new
shown s sent a b n spot v old new at is same d h =
    let one : spot ≡ h.0 = same_Some spot h.0 (at ∙ h.1) in
    same ∙ ap (λ (e : Datum). old ++ delivery a b e) (is d (subst (λ (k : ℕ). IsValueAt s k d) (sym one) h.2))

-- what holds of a header with any value holds of its packet
whole : (P : Packet → Type 0) (x : Header) → ((d : Datum) → P (with_value d x)) → (y : Packet) → header y ≡ x → P y
whole P x f (carried n d) e = subst (λ (z : Header). P (with_value d z)) (sym e) (f d)
whole P x f (heard n) e = subst (λ (z : Header). P (with_value (truth true) z)) (sym e) (f (truth true))

pub is_carried : (s : Script) (old new : World) (a b i : ℕ) (x : Header) (reply : Option Header) → IsStation a → IsStation b → 1 ≤ i
    → Some x ≡ item_in old.packets a b i → OfWire old.ends (λ w. (d : Datum) → Keeps new.ends (taken w a b (with_value d x)))
    → OfWire old.ends (λ w. (d : Datum) → reply ≡ option_map header (reply_to (pair_at w a b) (with_value d x)))
    → new.sent ≡ old.sent → new.packets ≡ with_item_by old.packets b a reply
    → OfAny s old (λ w. IsOf s new (next w (carries a b i)))
is_carried s old new a b i x reply first second number at keeps is sent packets w h =
    let r = found s old w h a b i x at in
    let y = r.0 in
    let answer : reply ≡ option_map header (reply_to (pair_at w a b) y) =
    whole (λ z. reply ≡ option_map header (reply_to (pair_at w a b) z)) x (is w h.keeps) y r.2 in
    let kept : Keeps new.ends (taken w a b y) = whole (λ z. Keeps new.ends (taken w a b z)) x (keeps w h.keeps) y r.2 in
    let v = next w (carries a b i) in
    let led : v ≡ taken w a b y = ap (λ (o : Option Packet). carried_by o w a b) r.1 in
    record {
      keeps = subst (λ (u : Wire). Keeps new.ends u) (sym led) kept;
      packets =
          packets ∙ ap (λ (l : List (List Header)). with_item_by l b a reply) h.packets ∙ ap (with_item_by (map headers w) b a) answer
          ∙ sym (headers_taken w a b y) ∙ ap (map headers) (sym led);
      sent =
          subst (λ (l : List (List ℕ)). AllValuesAt s l (map sent_of v)) (sym sent)
          (subst (AllValuesAt s old.sent) (sym (ap (map sent_of) led ∙ sent_taken w a b y)) h.sent);
      reached = reached_next w (carries a b i) h.reached (first, second, number);
    }

pub is_none : (s : Script) (old new : World) (a b i : ℕ) → IsStation a → IsStation b → 1 ≤ i → None ≡ item_in old.packets a b i → new ≡ old
    → OfAny s old (λ w. IsOf s new (next w (carries a b i)))
is_none s old new a b i first second number at same w h =
    let led : next w (carries a b i) ≡ w = ap (λ (o : Option Packet). carried_by o w a b) (found_none s old w h a b i at) in
    subst (λ (v : World). IsOf s v (next w (carries a b i))) (sym same) (subst (IsOf s old) (sym led) h)

pub none_text : (s : Script) (old : World) (a b i : ℕ) (text now : List ℕ) → None ≡ item_in old.packets a b i
    → now ≡ text ++ arrival_line None quiet a b → OfAny s old (λ w. now ≡ text ++ lines w (carries a b i))
none_text s old a b i text now at same w h =
    same ∙ ap (λ (o : Option Packet). text ++ arrival_line o w a b) (sym (found_none s old w h a b i at))
