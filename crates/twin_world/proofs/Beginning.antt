-- The world before its first command, and the disks that it gives back.
use Rattle.std.proofs.Common.{◌≡◌, ◌∙◌, ap, sym, refl, subst, ℕ, zero, suc, List, [], ◌∷◌, ◌++◌, map, length, arith}
use Rattle.std.proofs.Common.{true, Option, None, Some, inl, inr, append_assoc}
use Rattle.std.specs.Prelude.{Result, Ok}
use Rattle.std.specs.Option.{option_map}
use Rattle.std.specs.FinMap as finite
use Rattle.std.proofs.lemmas.List.{length-append, map-append}
use Rattle.capability.specs.Uids.{uid_cmp}
use Rattle.passive_store.specs.Kept.{Layout, Kept}
use Rattle.passive_store.specs.Seen.{Seen, DiskSeen}
use Rattle.twin_store.specs.Footings.{Standing as StandingOn}
use Rattle.twin_store.specs.Vouched.{Bodies, bodies_found, IsVouched}
use Rattle.twin_store.specs.Twins.{vow}
use Rattle.twin_world.specs.Commands.{IsNode}
use Rattle.twin_world.specs.Disks.{KeepsNothing, KeepNothing, CanRise}
use Rattle.twin_world.specs.InHand.{uid_of, texts_in, Rests}
use Rattle.twin_world.specs.Logs.{blank_pair, no_texts, SameTexts}
use Rattle.twin_world.specs.Places.{Standing, Serving, Resting, Away, IsSound, StandsFor, disks_at, given_by}
use Rattle.twin_world.specs.Worlds.{standings, standing_at, IsWorld, CanGoOn, AreBlank, LastPair, all_disks}
use Rattle.twin_world.specs.declared.place.Place.{Place}
use Rattle.twin_world.specs.declared.place.Place.TheVariants as place

-- 1. Two disks that keep nothing

no-texts : (n : ℕ) → SameTexts (texts_in n finite.empty) no_texts
no-texts n zero = refl
no-texts n (suc s) = finite.get-empty uid_cmp (uid_of n (suc s))

found-empty : (kept : Kept) (r : Result Kept ℕ) → kept.bodies ≡ finite.empty → r ≡ Ok kept → Some finite.empty ≡ bodies_found r
found-empty kept r none is = sym (ap bodies_found is ∙ ap (λ (m : Bodies). Some m) none)

both-empty : (n : ℕ) → IsVouched (vow n finite.empty None true true) (Some finite.empty) (Some finite.empty)
both-empty n = (
  (inl (λ uid own. refl), inr ((λ uid own. refl), refl)),
  (inl (λ uid own. refl), inr ((λ uid own. refl), refl)),
  inl refl,
)

rests : (layout : Layout) (n : ℕ) (a b : DiskSeen) → KeepsNothing layout n a.told → KeepsNothing layout n b.told
    → Rests layout n blank_pair no_texts a b
rests layout n a b h k = record {
  down = refl;
  bodies = finite.empty;
  texts = no-texts n;
  vouching = λ sure still. record {
    own = tt;
    vouched = record {
      first = StandingOn h.kept [];
      second = StandingOn k.kept [];
      first_is = h.stands;
      second_is = k.stands;
      vouched = λ x y fx fy.
          subst (λ (o : Option Bodies). IsVouched (vow n finite.empty None true true) o (bodies_found y)) (found-empty h.kept x h.none fx)
          (subst (λ (o : Option Bodies). IsVouched (vow n finite.empty None true true) (Some finite.empty) o)
          (found-empty k.kept y k.none fy) (both-empty n));
    };
  };
}

-- 2. Four places of eight disks

pub record Eight {T D : Type 0} (disks : List D) (places : List (Place T D)) : Type 0 where
  a : D
  b : D
  c : D
  d : D
  e : D
  f : D
  g : D
  h : D
  disks_are : disks ≡ a ∷ b ∷ c ∷ d ∷ e ∷ f ∷ g ∷ h ∷ []
  places_are : places ≡ place.Rest a b ∷ place.Rest c d ∷ place.Rest e f ∷ place.Rest g h ∷ []

none-left : {X : Type 0} (l : List X) (a b c d e f g h : X)
    → length ((((l ++ a ∷ b ∷ []) ++ c ∷ d ∷ []) ++ e ∷ f ∷ []) ++ g ∷ h ∷ []) ≡ 8 → l ≡ []
none-left [] a b c d e f g h eight = refl
none-left (x ∷ l) a b c d e f g h eight =
    absurd (omega (
      arith,
      eight,
      length-append (((l ++ a ∷ b ∷ []) ++ c ∷ d ∷ []) ++ e ∷ f ∷ []) (g ∷ h ∷ []),
      length-append ((l ++ a ∷ b ∷ []) ++ c ∷ d ∷ []) (e ∷ f ∷ []),
      length-append (l ++ a ∷ b ∷ []) (c ∷ d ∷ []),
      length-append l (a ∷ b ∷ []),
    ))

pub eight-of : {T D : Type 0} (disks three two one none : List D) (fourth third second first : Place T D) (places : List (Place T D))
    → length disks ≡ 8 → LastPair disks three fourth → LastPair three two third → LastPair two one second → LastPair one none first
    → places ≡ first ∷ second ∷ third ∷ fourth ∷ [] → Eight disks places
eight-of disks three two one none fourth third second first places eight w x y z is =
    let whole : disks ≡ (((none ++ z.0 ∷ z.1 ∷ []) ++ y.0 ∷ y.1 ∷ []) ++ x.0 ∷ x.1 ∷ []) ++ w.0 ∷ w.1 ∷ [] =
    w.2 ∙ ap (λ l. l ++ w.0 ∷ w.1 ∷ []) (x.2 ∙ ap (λ l. l ++ x.0 ∷ x.1 ∷ []) (y.2 ∙ ap (λ l. l ++ y.0 ∷ y.1 ∷ []) z.2)) in
    let empty = none-left none z.0 z.1 y.0 y.1 x.0 x.1 w.0 w.1 (sym (ap length whole) ∙ eight) in
    record {
      a = z.0;
      b = z.1;
      c = y.0;
      d = y.1;
      e = x.0;
      f = x.1;
      g = w.0;
      h = w.1;
      disks_are = whole ∙ ap (λ l. (((l ++ z.0 ∷ z.1 ∷ []) ++ y.0 ∷ y.1 ∷ []) ++ x.0 ∷ x.1 ∷ []) ++ w.0 ∷ w.1 ∷ []) empty;
      places_are = is ∙ ap (λ p. p ∷ second ∷ third ∷ fourth ∷ []) z.3
          ∙ ap (λ p. place.Rest z.0 z.1 ∷ p ∷ third ∷ fourth ∷ []) y.3
          ∙ ap (λ p. place.Rest z.0 z.1 ∷ place.Rest y.0 y.1 ∷ p ∷ fourth ∷ []) x.3
          ∙ ap (λ p. place.Rest z.0 z.1 ∷ place.Rest y.0 y.1 ∷ place.Rest x.0 x.1 ∷ p ∷ []) w.3;
    }

-- something of each of four nodes
pub by-node : (P : ℕ → Type 0) → P 1 → P 2 → P 3 → P 4 → (n : ℕ) → IsNode n → P n
by-node P one two three four zero is = absurd (omega (arith, is.0))
by-node P one two three four (suc zero) is = one
by-node P one two three four (suc (suc zero)) is = two
by-node P one two three four (suc (suc (suc zero))) is = three
by-node P one two three four (suc (suc (suc (suc zero)))) is = four
by-node P one two three four (suc (suc (suc (suc (suc k))))) is = absurd (omega (arith, is.1))

module _ (a b c d e f g h : DiskSeen) where
  abbrev four_rest : List Standing
  four_rest = Resting a b ∷ Resting c d ∷ Resting e f ∷ Resting g h ∷ []

  abbrev all_eight : List DiskSeen
  all_eight = a ∷ b ∷ c ∷ d ∷ e ∷ f ∷ g ∷ h ∷ []

  rest-world : IsWorld four_rest
  rest-world = record { places = refl; sound = by-node (λ n. IsSound n (standing_at four_rest n)) tt tt tt tt }

  rest-rise : (k : ℕ) → CanRise k all_eight → CanGoOn k four_rest
  rest-rise k r = by-node (λ n. CanRise k (disks_at (standing_at four_rest n))) (r.0, (r.1.0, tt)) (r.1.1.0, (r.1.1.1.0, tt))
      (r.1.1.1.1.0, (r.1.1.1.1.1.0, tt)) (r.1.1.1.1.1.1.0, (r.1.1.1.1.1.1.1.0, tt))

  rest-blank : (layout : Layout) → KeepNothing layout all_eight → AreBlank layout four_rest
  rest-blank layout none = by-node (λ n. StandsFor layout n blank_pair no_texts (standing_at four_rest n))
      (rests layout 1 a b (none 1 a (omega arith, omega arith) refl) (none 2 b (omega arith, omega arith) refl))
      (rests layout 2 c d (none 3 c (omega arith, omega arith) refl) (none 4 d (omega arith, omega arith) refl))
      (rests layout 3 e f (none 5 e (omega arith, omega arith) refl) (none 6 f (omega arith, omega arith) refl))
      (rests layout 4 g h (none 7 g (omega arith, omega arith) refl) (none 8 h (omega arith, omega arith) refl))

module _ {T D : Type 0} (seen : T → Seen) (look : D → DiskSeen) (disks : List D) (places : List (Place T D)) (x : Eight disks places) where
  abbrev seen_places : List Standing
  seen_places = four_rest (look x.a) (look x.b) (look x.c) (look x.d) (look x.e) (look x.f) (look x.g) (look x.h)

  abbrev seen_disks : List DiskSeen
  seen_disks = all_eight (look x.a) (look x.b) (look x.c) (look x.d) (look x.e) (look x.f) (look x.g) (look x.h)

  stand : standings seen look places ≡ seen_places
  stand = ap (standings seen look) x.places_are

  shown : map look disks ≡ seen_disks
  shown = ap (map look) x.disks_are

  pub new-world : IsWorld (standings seen look places)
  new-world = subst IsWorld (sym stand)
      (rest-world (look x.a) (look x.b) (look x.c) (look x.d) (look x.e) (look x.f) (look x.g) (look x.h))

  pub new-disks : all_disks (standings seen look places) ≡ map look disks
  new-disks = ap all_disks stand ∙ sym shown

  pub new-rise : (k : ℕ) → CanRise k (map look disks) → CanGoOn k (standings seen look places)
  new-rise k r = subst (CanGoOn k) (sym stand)
      (rest-rise (look x.a) (look x.b) (look x.c) (look x.d) (look x.e) (look x.f) (look x.g) (look x.h) k (subst (CanRise k) shown r))

  pub new-blank : (layout : Layout) → KeepNothing layout (map look disks) → AreBlank layout (standings seen look places)
  new-blank layout none = subst (AreBlank layout) (sym stand)
      (rest-blank (look x.a) (look x.b) (look x.c) (look x.d) (look x.e) (look x.f) (look x.g) (look x.h) layout
      (subst (KeepNothing layout) shown none))

-- 3. Disks are given back

-- something stands at each of these places
abbrev pub AllStand : List Standing → Type 0
AllStand [] = Unit {0}
AllStand (Serving t ∷ ss) = AllStand ss
AllStand (Resting a b ∷ ss) = AllStand ss
AllStand (Away ∷ ss) = ⊥

pub world-stands : (ss : List Standing) → IsWorld ss → AllStand ss
world-stands ss w = go ss w.places (w.sound 1 (omega arith, omega arith)) (w.sound 2 (omega arith, omega arith))
    (w.sound 3 (omega arith, omega arith)) (w.sound 4 (omega arith, omega arith))
  where
    more : (n : ℕ) (s : Standing) (ss : List Standing) → IsSound n s → AllStand ss → AllStand (s ∷ ss)
    more n (Serving t) ss h k = k
    more n (Resting a b) ss h k = k
    more n Away ss h k = h

    go : (ss : List Standing) → length ss ≡ 4 → IsSound 1 (standing_at ss 1) → IsSound 2 (standing_at ss 2) → IsSound 3 (standing_at ss 3)
        → IsSound 4 (standing_at ss 4) → AllStand ss
    go [] four o p q r = absurd (cc four)
    go (a ∷ []) four o p q r = absurd (omega (arith, four))
    go (a ∷ b ∷ []) four o p q r = absurd (omega (arith, four))
    go (a ∷ b ∷ c ∷ []) four o p q r = absurd (omega (arith, four))
    go (a ∷ b ∷ c ∷ d ∷ []) four o p q r =
        more 1 a (b ∷ c ∷ d ∷ []) o (more 2 b (c ∷ d ∷ []) p (more 3 c (d ∷ []) q (more 4 d [] r tt)))
    go (a ∷ b ∷ c ∷ d ∷ e ∷ ss) four o p q r = absurd (omega (arith, four))

pub rest-stands : (s : Standing) (ss : List Standing) → AllStand (s ∷ ss) → AllStand ss
rest-stands (Serving t) ss h = h
rest-stands (Resting a b) ss h = h
rest-stands Away ss h = absurd h

pub stands-given : {X : Type 0} (s : Standing) (ss : List Standing) (o : Option (DiskSeen × DiskSeen)) → AllStand (s ∷ ss)
    → given_by o ≡ disks_at s → o ≡ None → X
stands-given (Serving t) ss o h e none = absurd (cc (sym (ap given_by none) ∙ e))
stands-given (Resting a b) ss o h e none = absurd (cc (sym (ap given_by none) ∙ e))
stands-given Away ss o h e none = absurd h

pub none-of : {X : Type 0} (o : Option X) → ((x : X) → o ≡ Some x → ⊥) → o ≡ None
none-of None never = refl
none-of (Some x) never = absurd (never x refl)

pub none-shown : {X Y : Type 0} (f : X → Y) (o : Option X) → o ≡ None → option_map f o ≡ None
none-shown f o e = ap (option_map f) e

pub four-pushed : {X : Type 0} (a b p q r s : List X) (w x y z : X) → a ≡ [] → b ≡ a → p ≡ b ++ w ∷ [] → q ≡ p ++ x ∷ []
    → r ≡ q ++ y ∷ [] → s ≡ r ++ z ∷ [] → s ≡ w ∷ x ∷ y ∷ z ∷ []
four-pushed a b p q r s w x y z none same first second third fourth =
    fourth ∙ ap (λ l. l ++ z ∷ []) (third ∙ ap (λ l. l ++ y ∷ []) (second ∙ ap (λ l. l ++ x ∷ []) (first ∙ ap (λ l. l ++ w ∷ [])
    (same ∙ none))))

-- the disks of a place are put behind those so far
pub given-on : {D : Type 0} (look : D → DiskSeen) (s : Standing) (ss : List Standing) (before : List D) (first second : D)
    (all : List DiskSeen) → map look before ++ all_disks (s ∷ ss) ≡ all → look first ∷ look second ∷ [] ≡ disks_at s
    → map look ((before ++ first ∷ []) ++ second ∷ []) ++ all_disks ss ≡ all
given-on look s ss before first second all is same =
    ap (λ l. l ++ all_disks ss) (map-append look (before ++ first ∷ []) (second ∷ [])
    ∙ ap (λ l. l ++ look second ∷ []) (map-append look before (first ∷ [])))
    ∙ append_assoc (map look before ++ look first ∷ []) (look second ∷ []) (all_disks ss)
    ∙ append_assoc (map look before) (look first ∷ []) (look second ∷ all_disks ss)
    ∙ ap (λ l. map look before ++ (l ++ all_disks ss)) same ∙ is
