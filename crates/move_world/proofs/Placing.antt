-- One place of the world changes.
use Rattle.std.proofs.Math.Seq.{map-set_same}
use Rattle.std.proofs.Common.{◌≡◌, ◌≢◌, ◌⊎◌, inl, inr, ℕ, zero, suc, ◌-◌, ◌<◌, Bool, true, false, List, [], ◌∷◌, ◌++◌, map, length}
use Rattle.std.proofs.Common.{Option, None, Some, refl, sym, ap, subst, ◌∙◌, arith, slice_set, get_or, get_or-set_same, get_or-set_other}
use Rattle.std.proofs.Common.{Vec, Global}
use Rattle.std.specs.Prelude.{slice_get, ◌==◌, ◌&&◌, if◌then◌else◌, Result, Ok, Err, IfOk, OnErr, IfSome}
use Rattle.std.specs.Option.{option_map}
use Rattle.move_world.specs.declared.ask.Ask.{Ask}
use Rattle.std.proofs.lemmas.Bool.{eqb-true, eqb-false}
use Rattle.std.proofs.lemmas.Option.{same_Some}
use Rattle.std.proofs.lemmas.List.{map-append, length-set, map-set, get_or-map, length-map}
use Rattle.capability.specs.declared.Uid.{Uid}
use Rattle.eden_value.specs.Datum.{Datum}
use Rattle.std.specs.declared.alloc.AllocError.{AllocError}
use Rattle.passive_store.specs.Kept.{Layout}
use Rattle.passive_store.specs.Seen.{Seen, DiskSeen}
use Rattle.script_words.specs.Tree.{WrittenMode}
use Rattle.move_laws.specs.Wander.{Contains}
use Rattle.move_laws.specs.World.{fallen, at_node, Node, World, Post, Call, Make, Wake, Save, Lend, Again, Ended, sending}
use Rattle.eden_move.specs.declared.letter.Letter.{Letter}
use Rattle.eden_move.specs.declared.letter.Letter.TheVariants.{Take as CodedTake, Known as CodedKnown}
use Rattle.eden_move.specs.Calls.{own_uid, uid_of, seen_letter, letter_call}
use Rattle.eden_move.specs.Shown.{IsWanderer, IsFitPost, IsFitCall}
use Rattle.move_world.specs.Commands.{Command, makes, wakes, saves, moves, repeats, carries, crashes, restarts, fails, stops, IsNode}
use Rattle.move_world.specs.Logs.{Answer, Ends, NoLetter, WrongState, Calls, IsCarried, receiver, goes_between}
use Rattle.move_world.specs.Logs.{letters_between, letter_at, call_by}
use Rattle.move_world.specs.InHand.{ArePostsFit}
use Rattle.move_world.specs.View.{answer_of}
use Rattle.move_world.specs.Kept.{slot, sent_between, with_letter, post_from, posts_between, HasLetters, IsSent}
use Rattle.move_world.specs.Asking.{how_in, IsAbout, uid_in, call_in, MayAsk}
use Rattle.move_world.specs.Seats.{Standing, Serving, Resting, Away, standing, is_serving, IsSound, StandsFor, IsReplyOf, Turned, AskedAt}
use Rattle.move_world.specs.Seats.{CrashedAt, OpenedAt, ArmedAt}
use Rattle.move_world.specs.declared.seat.Seat.{Seat}
use Rattle.move_world.specs.Worlds.{standing_at, IsWorld, IsOf, Steps, given, IsNoted, AskedIn, DeliveredIn, ArmedIn, came_as, asked_by}
use Rattle.eden_disk.specs.Calls.{End}
use Rattle.move_world.specs.Counting.{end_in}
use Rattle.move_world.specs.Counted.{Counted, CountedAt}
use Rattle.move_world.proofs.Counts.{counted-at}
use Rattle.move_world.proofs.Posted.{IsFound, found}
use Rattle.move_world.specs.declared.answer.Answer.{Answer as CodedAnswer}
use Rattle.move_world.specs.declared.answer.Answer.TheVariants as answer
use Rattle.move_world.specs.declared.answer.Ended.TheVariants as ended

-- 1. Places

same? : (m n : ℕ) → (m ≡ n) ⊎ (m ≢ n)
same? m n = go (m == n) refl
  where
    go : (b : Bool) → (m == n) ≡ b → (m ≡ n) ⊎ (m ≢ n)
    go true e = inl (eqb-true m n e)
    go false e = inr (λ h. absurd (eqb-false m n e h))

at-own : (ss : List Standing) (n : ℕ) (s : Standing) → length ss ≡ 8 → IsNode n → standing_at (slice_set ss (n - 1) s) n ≡ s
at-own ss n s eight is = let within : n - 1 < length ss = omega (arith, eight, is.0, is.1) in get_or-set_same ss (n - 1) s Away within

at-other : (ss : List Standing) (n m : ℕ) (s : Standing) → IsNode n → IsNode m → m ≢ n
    → standing_at (slice_set ss (n - 1) s) m ≡ standing_at ss m
at-other ss n m s is on d = let apart : m - 1 ≢ n - 1 = λ e. d (omega (arith, e, is.0, on.0)) in get_or-set_other ss (n - 1) (m - 1) s
    Away apart

-- one place counted a command
set-counted : (ss : List Standing) (n : ℕ) (s : Standing) (end : End) → IsNode n → length ss ≡ 8 → Counted end (standing_at ss n) s
    → CountedAt n end ss (slice_set ss (n - 1) s)
set-counted ss n s end is eight h =
    counted-at ss (slice_set ss (n - 1) s) n end (subst (Counted end (standing_at ss n)) (sym (at-own ss n s eight is)) h)
    (λ m on d. at-other ss n m s is on d)

-- one place has something else
pub set-sound : (ss : List Standing) (ls ls2 : List (List Letter)) (n : ℕ) (s : Standing) → IsNode n → IsSound n s → IsWorld ss ls
    → length ls2 ≡ 64
    → ((a b k : ℕ) (p : Post Datum) → IsNode a → IsNode b → slice_get (posts_between ls2 a b) k ≡ Some p → IsWanderer p.uid)
    → IsWorld (slice_set ss (n - 1) s) ls2
set-sound ss ls ls2 n s is sound h letters wander = record {
  seats = length-set ss (n - 1) s ∙ h.seats;
  letters = letters;
  sound = λ m on. go m on (same? m n);
  wander = wander;
}
  where
    go : (m : ℕ) → IsNode m → (m ≡ n) ⊎ (m ≢ n) → IsSound m (standing_at (slice_set ss (n - 1) s) m)
    go m on (inl e) = subst (λ k. IsSound k (standing_at (slice_set ss (n - 1) s) k)) (sym e)
        (subst (IsSound n) (sym (at-own ss n s h.seats is)) sound)
    go m on (inr d) = subst (IsSound m) (sym (at-other ss n m s is on d)) (h.sound m on)

pub set-of : (layout : Layout) (ss : List Standing) (ls ls2 : List (List Letter)) (n : ℕ) (s : Standing) (w x : World Datum) → IsNode n
    → length ss ≡ 8 → IsOf layout ss ls w → Turned layout n s w x → HasLetters ls2 x.posted → ArePostsFit x.posted
    → IsOf layout (slice_set ss (n - 1) s) ls2 x
set-of layout ss ls ls2 n s w x is eight h t letters fit = record {
  seats = λ m on. go m on (same? m n);
  letters = letters;
  fit = fit;
}
  where
    go : (m : ℕ) → IsNode m → (m ≡ n) ⊎ (m ≢ n) → StandsFor layout m (standing_at (slice_set ss (n - 1) s) m) (x.node m)
    go m on (inl e) = subst (λ k. StandsFor layout k (standing_at (slice_set ss (n - 1) s) k) (x.node k)) (sym e)
        (subst (λ z. StandsFor layout n z (x.node n)) (sym (at-own ss n s eight is)) t.stands)
    go m on (inr d) = subst (λ z. StandsFor layout m z (x.node m)) (sym (at-other ss n m s is on d))
        (subst (StandsFor layout m (standing_at ss m)) (sym (t.others m d)) (h.seats m on))

-- nothing changed in the world
pub set-same : (layout : Layout) (ss : List Standing) (ls : List (List Letter)) (n : ℕ) (s : Standing) (w : World Datum) → IsNode n
    → length ss ≡ 8 → IsOf layout ss ls w → StandsFor layout n s (w.node n) → IsOf layout (slice_set ss (n - 1) s) ls w
set-same layout ss ls n s w is eight h stands =
    set-of layout ss ls ls n s w w is eight h (record { others = λ k d. refl; stands = stands }) h.letters h.fit

-- 2. Letters

slot-one : (a b c d : ℕ) → IsNode a → IsNode b → IsNode c → IsNode d → slot a b ≡ slot c d → (a ≡ c) × (b ≡ d)
slot-one a b c d x y z t e =
    (omega (arith, e, x.0, x.1, y.0, y.1, z.0, z.1, t.0, t.1), omega (arith, e, x.0, x.1, y.0, y.1, z.0, z.1, t.0, t.1))

slot-within : (a b : ℕ) → IsNode a → IsNode b → slot a b < 64
slot-within a b x y = omega (arith, x.0, x.1, y.0, y.1)

sent-own : (ls : List (List Letter)) (a b : ℕ) (l : Letter) → length ls ≡ 64 → IsNode a → IsNode b
    → sent_between (with_letter ls a b l) a b ≡ sent_between ls a b ++ l ∷ []
sent-own ls a b l count x y =
    let within : slot a b < length ls = subst (λ k. slot a b < k) (sym count) (slot-within a b x y) in
    get_or-set_same ls (slot a b) (sent_between ls a b ++ l ∷ []) [] within

sent-other : (ls : List (List Letter)) (a b c d : ℕ) (l : Letter) → slot c d ≢ slot a b
    → sent_between (with_letter ls a b l) c d ≡ sent_between ls c d
sent-other ls a b c d l apart = get_or-set_other ls (slot a b) (slot c d) (sent_between ls a b ++ l ∷ []) [] apart

-- whether a letter goes between two nodes
goes-yes : (a b : ℕ) (p : Post Datum) → p.from ≡ a → receiver p.letter ≡ b → goes_between a b p ≡ true
goes-yes a b p from to = go (p.from == a) (receiver p.letter == b) refl refl
  where
    go : (s t : Bool) → (p.from == a) ≡ s → (receiver p.letter == b) ≡ t → (s && t) ≡ true
    go true true e f = refl
    go true false e f = absurd (eqb-false (receiver p.letter) b f to)
    go false t e f = absurd (eqb-false p.from a e from)

goes-no : (a b : ℕ) (p : Post Datum) → ((p.from ≡ a) × (receiver p.letter ≡ b) → ⊥) → goes_between a b p ≡ false
goes-no a b p never = go (p.from == a) (receiver p.letter == b) refl refl
  where
    go : (s t : Bool) → (p.from == a) ≡ s → (receiver p.letter == b) ≡ t → (s && t) ≡ false
    go true true e f = absurd (never (eqb-true p.from a e, eqb-true (receiver p.letter) b f))
    go true false e f = refl
    go false t e f = refl

-- a letter more that was sent
pub sent-more : (n : ℕ) (l : Letter) (ls ls2 : List (List Letter)) (ps : List (Post Datum)) → IsNode n → length ls ≡ 64
    → IsSent n l ls ls2 → HasLetters ls ps → HasLetters ls2 (post_from n l ∷ ps)
sent-more n l ls ls2 ps is count (inr none) h c d x y =
    ap (λ z. posts_between z c d) none.1 ∙ h c d x y
    ∙ sym (ap (λ t. if t then letters_between c d ps ++ post_from n l ∷ [] else letters_between c d ps)
    (goes-no c d (post_from n l) (λ e. none.0 (subst IsNode (sym e.1) y))))
sent-more n l ls ls2 ps is count (inl some) h c d x y = go (same? c n) (same? d to)
  where
    to : ℕ
    to = receiver (seen_letter l)

    kept : List (Post Datum)
    kept = letters_between c d ps

    other : ((n ≡ c) × (to ≡ d) → ⊥) → posts_between ls2 c d ≡ letters_between c d (post_from n l ∷ ps)
    other never =
        ap (λ z. posts_between z c d) some.1
        ∙ ap (map (post_from c)) (sent-other ls n to c d l (λ e. let k = slot-one c d n to x y is some.0 e in never (sym k.0, sym k.1)))
        ∙ h c d x y
        ∙ sym (ap (λ t. if t then kept ++ post_from n l ∷ [] else kept) (goes-no c d (post_from n l) never))

    own : c ≡ n → d ≡ to → posts_between ls2 c d ≡ letters_between c d (post_from n l ∷ ps)
    own e f =
        ap (λ z. posts_between z c d) some.1
        ∙ ap (map (post_from c)) (subst (λ p. sent_between (with_letter ls n to l) p d ≡ sent_between ls p d ++ l ∷ []) (sym e)
        (subst (λ q. sent_between (with_letter ls n to l) n q ≡ sent_between ls n q ++ l ∷ []) (sym f) (sent-own ls n to l count is
        some.0)))
        ∙ map-append (post_from c) (sent_between ls c d) (l ∷ [])
        ∙ ap (λ z. z ++ post_from c l ∷ []) (h c d x y)
        ∙ ap (λ z. kept ++ post_from z l ∷ []) e
        ∙ sym (ap (λ t. if t then kept ++ post_from n l ∷ [] else kept) (goes-yes c d (post_from n l) (sym e) (sym f)))

    go : (c ≡ n) ⊎ (c ≢ n) → (d ≡ to) ⊎ (d ≢ to) → posts_between ls2 c d ≡ letters_between c d (post_from n l ∷ ps)
    go (inl e) (inl f) = own e f
    go (inl e) (inr g) = other (λ k. g (sym k.1))
    go (inr g) f = other (λ k. g (sym k.0))

-- the letters behind an answer
pub noted : (n : ℕ) (u : Uid) (a : CodedAnswer) (ls ls2 : List (List Letter)) (ps : List (Post Datum)) → IsNode n → length ls ≡ 64
    → IsAbout u a → IsNoted n (given a) ls ls2 → HasLetters ls ps → HasLetters ls2 (sending n u (how_in (answer_of a)) ps)
noted n u (answer.Ends (ended.Refused r)) ls ls2 ps is count about e h = subst (λ z. HasLetters z ps) (sym e) h
noted n u (answer.Ends (ended.Answered put None)) ls ls2 ps is count about e h = subst (λ z. HasLetters z ps) (sym e) h
noted n u (answer.Ends (ended.Answered put (Some l))) ls ls2 ps is count about e h =
    subst (λ (p : Post Datum). HasLetters ls2 (p ∷ ps))
    (λ i. record { uid = (e.1 ∙ about) i; from = n; letter = e.2 i })
    (sent-more n e.0 ls ls2 ps is count e.3 h)
noted n u a ls ls2 ps is count about e h = subst (λ z. HasLetters z ps) (sym e) h

-- letters are about Ejects that can wander
in-more : {X : Type 0} (xs : List X) (y p : X) (k : ℕ) → slice_get (xs ++ y ∷ []) k ≡ Some p → (slice_get xs k ≡ Some p) ⊎ (y ≡ p)
in-more [] y p zero e = inr (same_Some y p e)
in-more [] y p (suc k) e = absurd (cc e)
in-more (x ∷ xs) y p zero e = inl e
in-more (x ∷ xs) y p (suc k) e = in-more xs y p k e

abbrev pub AllWander : List (List Letter) → Type 0
AllWander ls = (a b k : ℕ) (p : Post Datum) → IsNode a → IsNode b → slice_get (posts_between ls a b) k ≡ Some p → IsWanderer p.uid

wander-sent : (n : ℕ) (l : Letter) (ls ls2 : List (List Letter)) → IsNode n → length ls ≡ 64 → IsWanderer (uid_of l) → IsSent n l ls ls2
    → AllWander ls → AllWander ls2
wander-sent n l ls ls2 is count w (inr none) h c d k p x y e = subst AllWander (sym none.1) h c d k p x y e
wander-sent n l ls ls2 is count w (inl some) h c d k p x y e = go (same? c n) (same? d to)
  where
    to : ℕ
    to = receiver (seen_letter l)

    was : slice_get (posts_between (with_letter ls n to l) c d) k ≡ Some p
    was = ap (λ z. slice_get (posts_between z c d) k) (sym some.1) ∙ e

    other : ((n ≡ c) × (to ≡ d) → ⊥) → IsWanderer p.uid
    other never = h c d k p x y
        (ap (λ z. slice_get (map (post_from c) z) k)
        (sym (sent-other ls n to c d l (λ e. let k = slot-one c d n to x y is some.0 e in never (sym k.0, sym k.1)))) ∙ was)

    own : c ≡ n → d ≡ to → IsWanderer p.uid
    own e f =
        let more : posts_between (with_letter ls n to l) c d ≡ posts_between ls c d ++ post_from c l ∷ [] =
        ap (map (post_from c)) (subst (λ p. sent_between (with_letter ls n to l) p d ≡ sent_between ls p d ++ l ∷ []) (sym e)
        (subst (λ q. sent_between (with_letter ls n to l) n q ≡ sent_between ls n q ++ l ∷ []) (sym f)
        (sent-own ls n to l count is some.0)))
        ∙ map-append (post_from c) (sent_between ls c d) (l ∷ [])
        in
        elim (in-more (posts_between ls c d) (post_from c l) p k (ap (λ z. slice_get z k) (sym more) ∙ was)) [
          | inl old ↦ h c d k p x y old
          | inr new ↦ subst (λ (z : Post Datum). IsWanderer z.uid) new w
        ]

    go : (c ≡ n) ⊎ (c ≢ n) → (d ≡ to) ⊎ (d ≢ to) → IsWanderer p.uid
    go (inl e) (inl f) = own e f
    go (inl e) (inr g) = other (λ k. g (sym k.1))
    go (inr g) f = other (λ k. g (sym k.0))

pub wander-noted : (n : ℕ) (u : Uid) (a : CodedAnswer) (ls ls2 : List (List Letter)) → IsNode n → length ls ≡ 64 → IsWanderer u
    → IsAbout u a
    → IsNoted n (given a) ls ls2 → AllWander ls → AllWander ls2
wander-noted n u (answer.Ends (ended.Refused r)) ls ls2 is count w about e h = subst AllWander (sym e) h
wander-noted n u (answer.Ends (ended.Answered put None)) ls ls2 is count w about e h = subst AllWander (sym e) h
wander-noted n u (answer.Ends (ended.Answered put (Some l))) ls ls2 is count w about e h =
    wander-sent n e.0 ls ls2 is count (subst IsWanderer (sym (e.1 ∙ about)) w) e.3 h
wander-noted n u a ls ls2 is count w about e h = subst AllWander (sym e) h

-- 3. Calls

-- an answer that is none of a call gives no letter
noted-same : (n : ℕ) (a : CodedAnswer) (ls ls2 : List (List Letter)) → answer_of a ≡ WrongState → IsNoted n (given a) ls ls2 → ls2 ≡ ls
noted-same n answer.WrongState ls ls2 e h = h
noted-same n a ls ls2 e h = absurd (cc e)

pub asked-in : (layout : Layout) (ss : List Standing) (ls ls2 : List (List Letter)) (n : ℕ) (u : Uid) (c : Call Datum) (a : CodedAnswer)
    (s : Standing) (w : World Datum) → IsNode n → IsWorld ss ls → IsOf layout ss ls w → IsAbout u a → IsNoted n (given a) ls ls2
    → AskedAt layout n u c (answer_of a) s w → AskedIn layout n u c (answer_of a) (slice_set ss (n - 1) s) ls2 w
asked-in layout ss ls ls2 n u c a s w is z h about e (inl p) = inl (
  p.misplaced,
  set-of layout ss ls ls2 n s w w is z.seats h (record { others = λ k d. refl; stands = p.stands })
      (subst (λ l. HasLetters l w.posted) (sym (noted-same n a ls ls2 p.misplaced.answer e)) h.letters) h.fit,
)
asked-in layout ss ls ls2 n u c a s w is z h about e (inr p) = inr (
  p.up,
  p.how,
  p.world,
  p.calls,
  p.reply,
  set-of layout ss ls ls2 n s w p.world is z.seats h p.turned
      (subst (HasLetters ls2) (sym posted) (noted n u a ls ls2 w.posted is z.letters about e h.letters)) p.fit,
)
  where
    posted : p.world.posted ≡ sending n u (how_in (answer_of a)) w.posted
    posted = ap (λ (x : World Datum). x.posted) p.calls.world ∙ ap (λ x. sending n u x w.posted) p.named

-- 4. Commands

module _ (layout : Layout) (a : Answer) (ss : List Standing) (ls : List (List Letter)) (w : World Datum) where
  steps-make : (n serial : ℕ) (v : Datum) → AskedIn layout n (own_uid n serial) (Make v) a ss ls w
      → Steps layout (makes n serial v) a ss ls w
  steps-make n serial v p = elim p [ inl m ↦ (w, inl m.0, m.1) | inr d ↦ (d.2, inr (d.0, (d.1, d.4, d.3)), d.5) ]

  steps-wake : (n : ℕ) (u : Uid) → AskedIn layout n u Wake a ss ls w → Steps layout (wakes n u) a ss ls w
  steps-wake n u p = elim p [ inl m ↦ (w, inl m.0, m.1) | inr d ↦ (d.2, inr (d.0, (d.1, d.3, d.4)), d.5) ]

  steps-save : (n : ℕ) (u : Uid) (v : Datum) → AskedIn layout n u (Save v) a ss ls w → Steps layout (saves n u v) a ss ls w
  steps-save n u v p = elim p [ inl m ↦ (w, inl m.0, m.1) | inr d ↦ (d.2, inr (d.0, (d.1, d.4, d.3)), d.5) ]

  steps-lend : (n : ℕ) (u : Uid) (to : ℕ) → AskedIn layout n u (Lend to) a ss ls w → Steps layout (moves n u to) a ss ls w
  steps-lend n u to p = elim p [ inl m ↦ (w, inl m.0, m.1) | inr d ↦ (d.2, inr (d.0, (d.1, d.4, d.3)), d.5) ]

  steps-again : (n : ℕ) (u : Uid) → AskedIn layout n u Again a ss ls w → Steps layout (repeats n u) a ss ls w
  steps-again n u p = elim p [ inl m ↦ (w, inl m.0, m.1) | inr d ↦ (d.2, inr (d.0, (d.1, d.4, d.3)), d.5) ]

  -- the call is that of the command
  so-asked : (x y : ℕ × Uid × Call Datum) → Some x ≡ Some y → AskedIn layout y.0 y.1 y.2 a ss ls w → AskedIn layout x.0 x.1 x.2 a ss ls w
  so-asked x y e p = subst (λ (z : ℕ × Uid × Call Datum). AskedIn layout z.0 z.1 z.2 a ss ls w) (sym (same_Some x y e)) p

  pub steps-asked : (c : Command) (n : ℕ) (u : Uid) (k : Call Datum) → asked_by c ≡ Some (n, u, k) → AskedIn layout n u k a ss ls w
      → Steps layout c a ss ls w
  steps-asked (makes m s v) n u k e p = steps-make m s v (so-asked (m, own_uid m s, Make v) (n, u, k) e p)
  steps-asked (wakes m q) n u k e p = steps-wake m q (so-asked (m, q, Wake) (n, u, k) e p)
  steps-asked (saves m q v) n u k e p = steps-save m q v (so-asked (m, q, Save v) (n, u, k) e p)
  steps-asked (moves m q to) n u k e p = steps-lend m q to (so-asked (m, q, Lend to) (n, u, k) e p)
  steps-asked (repeats m q) n u k e p = steps-again m q (so-asked (m, q, Again) (n, u, k) e p)
  steps-asked (carries x y i) n u k e p = absurd (cc e)
  steps-asked (crashes m how) n u k e p = absurd (cc e)
  steps-asked (restarts m) n u k e p = absurd (cc e)
  steps-asked (fails m after) n u k e p = absurd (cc e)
  steps-asked (stops m after how) n u k e p = absurd (cc e)

-- 5. The lists of the code

pub put-slot : (ps : List (Vec Letter Global)) (a b i : ℕ) (d u v : Vec Letter Global) (l : Letter) → i ≡ slot a b → i < 64
    → length ps ≡ 64 → u ≡ get_or ps i d → v.items ≡ u.items ++ l ∷ []
    → map (λ (x : Vec Letter Global). x.items) (slice_set ps i v) ≡ with_letter (map (λ (x : Vec Letter Global). x.items) ps) a b l
put-slot ps a b i d u v l place within full same more =
    let old : u.items ≡ sent_between (map (λ (x : Vec Letter Global). x.items) ps) a b =
    ap (λ (x : Vec Letter Global). x.items) same
    ∙ sym (get_or-map (λ (x : Vec Letter Global). x.items) ps i d [] (omega (arith, within, full)))
    ∙ ap (λ (j : ℕ). get_or (map (λ (x : Vec Letter Global). x.items) ps) j []) place in
    map-set (λ (x : Vec Letter Global). x.items) ps i v
    ∙ ap (λ (j : ℕ). slice_set (map (λ (x : Vec Letter Global). x.items) ps) j v.items) place
    ∙ ap (λ (z : List Letter). slice_set (map (λ (x : Vec Letter Global). x.items) ps) (slot a b) z)
    (more ∙ ap (λ (z : List Letter). z ++ l ∷ []) old)

-- a list that is as it was
pub same-slot : (ps : List (Vec Letter Global)) (i : ℕ) (d u v : Vec Letter Global) → u ≡ get_or ps i d → v.items ≡ u.items
    → map (λ (x : Vec Letter Global). x.items) (slice_set ps i v) ≡ map (λ (x : Vec Letter Global). x.items) ps
same-slot ps i d u v same more =
    map-set_same (λ (x : Vec Letter Global). x.items) ps i v d (more ∙ ap (λ (x : Vec Letter Global). x.items) same)

pub err-any : {T E : Type 0} (r : Result T E) (P : Type 0) → P → OnErr r P
err-any (Ok x) P p = tt
err-any (Err e) P p = p

-- 6. Commands that are no calls

pub crashed-in : (layout : Layout) (n : ℕ) (how : WrittenMode) (a : Answer) (ss : List Standing) (ls : List (List Letter)) (s : Standing)
    (w : World Datum) → IsNode n → length ss ≡ 8 → IsOf layout ss ls w → CrashedAt layout n a s w
    → Steps layout (crashes n how) a (slice_set ss (n - 1) s) ls w
crashed-in layout n how a ss ls s w is eight h (inl p) = (w, inl p.misplaced, set-same layout ss ls n s w is eight h p.stands)
crashed-in layout n how a ss ls s w is eight h (inr p) = (
  at_node n (fallen (w.node n)) w,
  inr (p.0, (p.1, refl)),
  set-of layout ss ls ls n s w (at_node n (fallen (w.node n)) w) is eight h p.2 h.letters h.fit,
)

pub opened-in : (layout : Layout) (n : ℕ) (a : Answer) (ss : List Standing) (ls : List (List Letter)) (s : Standing) (w : World Datum)
    → IsNode n → length ss ≡ 8 → IsOf layout ss ls w → OpenedAt layout n a s w → Steps layout (restarts n) a (slice_set ss (n - 1) s) ls w
opened-in layout n a ss ls s w is eight h (inl p) = (w, inl p.misplaced, set-same layout ss ls n s w is eight h p.stands)
opened-in layout n a ss ls s w is eight h (inr p) = (
  p.1,
  inr (p.0, p.2),
  set-of layout ss ls ls n s w p.1 is eight h p.3 (subst (HasLetters ls) (sym p.4) h.letters) (subst ArePostsFit (sym p.4) h.fit),
)

pub armed-in : (layout : Layout) (n : ℕ) (a : Answer) (ss : List Standing) (ls : List (List Letter)) (s : Standing) (w : World Datum)
    → IsNode n → length ss ≡ 8 → IsOf layout ss ls w → ArmedAt layout n a s w → ArmedIn layout n a (slice_set ss (n - 1) s) ls w
armed-in layout n a ss ls s w is eight h (inl p) = (inl p.misplaced, set-same layout ss ls n s w is eight h p.stands)
armed-in layout n a ss ls s w is eight h (inr p) = (inr (p.0, p.1), set-same layout ss ls n s w is eight h p.2)

pub steps-fail : (layout : Layout) (n after : ℕ) (a : Answer) (ss : List Standing) (ls : List (List Letter)) (w : World Datum)
    → ArmedIn layout n a ss ls w → Steps layout (fails n after) a ss ls w
steps-fail layout n after a ss ls w p = elim (p.0) [ inl m ↦ (w, inl m, p.1) | inr d ↦ (w, inr (d.0, (d.1, refl)), p.1) ]

pub steps-stop : (layout : Layout) (n after : ℕ) (how : WrittenMode) (a : Answer) (ss : List Standing) (ls : List (List Letter))
    (w : World Datum) → ArmedIn layout n a ss ls w → Steps layout (stops n after how) a ss ls w
steps-stop layout n after how a ss ls w p = elim (p.0) [ inl m ↦ (w, inl m, p.1) | inr d ↦ (w, inr (d.0, (d.1, refl)), p.1) ]

-- 7. A letter

call-same : (a : ℕ) (l : Letter) → letter_call a l ≡ call_by a (seen_letter l)
call-same a (CodedTake u to g v) = refl
call-same a (CodedKnown u to g) = refl

-- whether the node that stands somewhere is up
pub up-as : (layout : Layout) (n : ℕ) (s : Standing) (x : Node Datum) → StandsFor layout n s x → x.up ≡ is_serving s
up-as layout n (Serving m) x h = h.up
up-as layout n (Resting d) x h = h.down
up-as layout n Away x h = absurd h

pub carried-down : (layout : Layout) (a b i : ℕ) (ss : List Standing) (ls : List (List Letter)) (w : World Datum) → IsNode b
    → is_serving (standing_at ss b) ≡ false → IsOf layout ss ls w → Steps layout (carries a b i) WrongState ss ls w
carried-down layout a b i ss ls w is down h = (
  w,
  inl (record {
    state = λ up. cc (sym down ∙ sym (up-as layout b (standing_at ss b) (w.node b) (h.seats b is)) ∙ up);
    answer = refl;
    same = refl;
  }),
  h,
)

is-at : (a b i : ℕ) (ls : List (List Letter)) (ps : List (Post Datum)) (o : Option (Post Datum)) → IsNode a → IsNode b → HasLetters ls ps
    → o ≡ slice_get (posts_between ls a b) (i - 1) → letter_at a b i ps ≡ o
is-at a b i ls ps o x y h e = ap (λ z. slice_get z (i - 1)) (sym (h a b x y)) ∙ sym e

pub carried-none : (layout : Layout) (a b i : ℕ) (ss : List Standing) (ls : List (List Letter)) (w : World Datum) → IsNode a → IsNode b
    → is_serving (standing_at ss b) ≡ true → None ≡ slice_get (posts_between ls a b) (i - 1) → IsOf layout ss ls w
    → Steps layout (carries a b i) NoLetter ss ls w
carried-none layout a b i ss ls w x y up none h = (
  w,
  inr (
    up-as layout b (standing_at ss b) (w.node b) (h.seats b y) ∙ up,
    subst (λ o. IsCarried b o NoLetter w w) (sym (is-at a b i ls w.posted None x y h.letters none)) (refl, refl),
  ),
  h,
)

pub carried-some : (layout : Layout) (a b i : ℕ) (l : Letter) (answer : Answer) (ss ss2 : List Standing) (ls ls2 : List (List Letter))
    (w : World Datum) → IsNode a → IsNode b → Some (post_from a l) ≡ slice_get (posts_between ls a b) (i - 1) → IsOf layout ss ls w
    → DeliveredIn layout a b l answer ss2 ls2 w → Steps layout (carries a b i) answer ss2 ls2 w
carried-some layout a b i l answer ss ss2 ls ls2 w x y some h (inl p) = (w, inl p.0, p.1)
carried-some layout a b i l answer ss ss2 ls ls2 w x y some h (inr p) = (
  p.2,
  inr (
    p.0,
    subst (λ o. IsCarried b o answer w p.2) (sym (is-at a b i ls w.posted (Some (post_from a l)) x y h.letters some))
        (p.1, p.3, subst (λ c. Calls b (uid_of l) c p.1 w p.2) (call-same a l) p.4),
  ),
  p.5,
)

-- a letter that was found is within its limits
fit-in : (ps : List (Post Datum)) (p : Post Datum) → Contains ps p → ArePostsFit ps → IsFitPost (Some p.letter)
fit-in [] p c h = absurd c
fit-in (q ∷ ps) p c h = elim c [
  | inl e ↦ subst (λ (z : Post Datum). IsFitPost (Some z.letter)) e h.0
  | inr more ↦ fit-in ps p more h.1
]

pub fit-found : (layout : Layout) (a b i : ℕ) (l : Letter) (ss : List Standing) (ls : List (List Letter)) (w : World Datum) → IsNode a
    → IsNode b → Some (post_from a l) ≡ slice_get (posts_between ls a b) (i - 1) → IsOf layout ss ls w → IsFitPost (Some (seen_letter l))
fit-found layout a b i l ss ls w x y some h =
    fit-in w.posted (post_from a l)
    (IsFound.sent (found a b i w.posted (post_from a l) (is-at a b i ls w.posted (Some (post_from a l)) x y h.letters some))) h.fit

-- what a letter asks is within its limits where the letter is
pub fit-letter : (a : ℕ) (l m : Letter) → seen_letter m ≡ seen_letter l → IsFitPost (Some (seen_letter l)) → IsFitCall (letter_call a m)
fit-letter a l m same fits = go m (subst (λ z. IsFitPost (Some z)) (sym same) fits)
  where
    go : (m : Letter) → IsFitPost (Some (seen_letter m)) → IsFitCall (letter_call a m)
    go (CodedTake u to g v) h = h
    go (CodedKnown u to g) h = h

pub delivered : (layout : Layout) (a b : ℕ) (l m : Letter) (x : Answer) (ss : List Standing) (ls : List (List Letter)) (w : World Datum)
    → uid_of m ≡ uid_of l → seen_letter m ≡ seen_letter l → AskedIn layout b (uid_of m) (letter_call a m) x ss ls w
    → DeliveredIn layout a b l (came_as (uid_of l) (seen_letter l) x) ss ls w
delivered layout a b l m x ss ls w about same (inl p) = inl (
  record {
    state = p.0.state;
    answer = ap (came_as (uid_of l) (seen_letter l)) p.0.answer;
    same = refl;
  },
  p.1,
)
delivered layout a b l m x ss ls w about same (inr p) =
    inr (
      p.0,
      p.1,
      p.2,
      ap (came_as (uid_of l) (seen_letter l)) (plain-reply a m ((p.2.node b).memory (uid_of m)) p.1 x p.4),
      subst (λ u. Calls b u (letter_call a l) p.1 w p.2) about
          (subst (λ c. Calls b (uid_of m) c p.1 w p.2) calls p.3),
      p.5,
    )
  where
    calls : letter_call a m ≡ letter_call a l
    calls = call-same a m ∙ ap (call_by a) same ∙ sym (call-same a l)

    plain-reply : (a : ℕ) (m : Letter) (memory : Option (ℕ × Datum)) (how : Ended Datum) (x : Answer)
        → IsReplyOf (letter_call a m) memory how x → x ≡ Ends how
    plain-reply a (CodedTake u to g v) memory how x e = e
    plain-reply a (CodedKnown u to g) memory how x e = e

-- 8. One place of the code

module _ {T D : Type 0} (seen : T → Seen) (look : D → DiskSeen) (seats : List (Seat T D)) (ls : List (List Letter)) (n i : ℕ)
    (d old new : Seat T D) (at : i ≡ n - 1) (is : IsNode n) (eight : length (map (standing seen look) seats) ≡ 8) (same : old ≡ get_or
    seats i d)
  where
    abbrev shown : List Standing
    shown = map (standing seen look) seats

    pub place-old : standing_at shown n ≡ standing seen look old
    place-old =
        ap (λ k. get_or shown k Away) (sym at)
        ∙ get_or-map (standing seen look) seats i d Away (omega (arith, at, is.0, is.1, eight, length-map seats (standing seen look)))
        ∙ ap (standing seen look) (sym same)

    pub place-new : map (standing seen look) (slice_set seats i new) ≡ slice_set shown (n - 1) (standing seen look new)
    place-new = map-set (standing seen look) seats i new ∙ ap (λ k. slice_set shown k (standing seen look new)) at

    pub place-sound : IsWorld shown ls → IsSound n (standing seen look old)
    place-sound h = subst (IsSound n) place-old (h.sound n is)

    pub place-stands : (layout : Layout) (w : World Datum) → IsOf layout shown ls w → StandsFor layout n (standing seen look old) (w.node n)
    place-stands layout w h = subst (λ s. StandsFor layout n s (w.node n)) place-old (h.seats n is)

    pub place-world : IsWorld shown ls → IsSound n (standing seen look new) → IsWorld (map (standing seen look) (slice_set seats i new)) ls
    place-world h sound =
        subst (λ z. IsWorld z ls) (sym place-new) (set-sound shown ls ls n (standing seen look new) is sound h h.letters h.wander)

    pub place-counted : (end : End) → Counted end (standing seen look old) (standing seen look new)
        → CountedAt n end shown (map (standing seen look) (slice_set seats i new))
    place-counted end h =
        subst (CountedAt n end shown) (sym place-new)
        (set-counted shown n (standing seen look new) end is eight
        (subst (λ s. Counted end s (standing seen look new)) (sym place-old) h))

    pub place-counted-ok : (r : Result CodedAnswer AllocError)
        → IfOk r (λ a. Counted (end_in (answer_of a)) (standing seen look old) (standing seen look new))
        → IfOk r (λ a. CountedAt n (end_in (answer_of a)) shown (map (standing seen look) (slice_set seats i new)))
    place-counted-ok (Ok a) h = place-counted (end_in (answer_of a)) h
    place-counted-ok (Err e) h = tt

    pub place-kept : (ls2 : List (List Letter)) → IsWorld shown ls → IsSound n (standing seen look new) → ls2 ≡ ls
        → IsWorld (map (standing seen look) (slice_set seats i new)) ls2
    place-kept ls2 h sound same =
        subst (λ l. IsWorld (map (standing seen look) (slice_set seats i new)) l) (sym same) (place-world h sound)

    pub place-asked : (ls2 : List (List Letter)) (u : Uid) (a : CodedAnswer) → IsWorld shown ls → IsSound n (standing seen look new)
        → length ls2 ≡ 64 → IsWanderer u → IsAbout u a → IsNoted n (given a) ls ls2
        → IsWorld (map (standing seen look) (slice_set seats i new)) ls2
    place-asked ls2 u a h sound count w about e =
        subst (λ z. IsWorld z ls2) (sym place-new)
        (set-sound shown ls ls2 n (standing seen look new) is sound h count (wander-noted n u a ls ls2 is h.letters w about e h.wander))

    pub place-asked-in : (layout : Layout) (ls2 : List (List Letter)) (u : Uid) (c : Call Datum) (a : CodedAnswer) (w : World Datum)
        → IsWorld shown ls → IsOf layout shown ls w → IsAbout u a → IsNoted n (given a) ls ls2
        → AskedAt layout n u c (answer_of a) (standing seen look new) w
        → AskedIn layout n u c (answer_of a) (map (standing seen look) (slice_set seats i new)) ls2 w
    place-asked-in layout ls2 u c a w z h about e p =
        subst (λ x. AskedIn layout n u c (answer_of a) x ls2 w) (sym place-new)
        (asked-in layout shown ls ls2 n u c a (standing seen look new) w is z h about e p)

    pub place-crashed : (layout : Layout) (how : WrittenMode) (a : Answer) (w : World Datum) → IsOf layout shown ls w
        → CrashedAt layout n a (standing seen look new) w
        → Steps layout (crashes n how) a (map (standing seen look) (slice_set seats i new)) ls w
    place-crashed layout how a w h p =
        subst (λ x. Steps layout (crashes n how) a x ls w) (sym place-new)
        (crashed-in layout n how a shown ls (standing seen look new) w is eight h p)

    pub place-opened : (layout : Layout) (r : Result CodedAnswer AllocError) (w : World Datum) → IsOf layout shown ls w
        → IfOk r (λ a. OpenedAt layout n (answer_of a) (standing seen look new) w)
        → IfOk r (λ a. Steps layout (restarts n) (answer_of a) (map (standing seen look) (slice_set seats i new)) ls w)
    place-opened layout (Ok a) w h p =
        subst (λ x. Steps layout (restarts n) (answer_of a) x ls w) (sym place-new)
        (opened-in layout n (answer_of a) shown ls (standing seen look new) w is eight h p)
    place-opened layout (Err e) w h p = tt

    pub place-armed : (layout : Layout) (a : Answer) (w : World Datum) → IsOf layout shown ls w
        → ArmedAt layout n a (standing seen look new) w → ArmedIn layout n a (map (standing seen look) (slice_set seats i new)) ls w
    place-armed layout a w h p =
        subst (λ x. ArmedIn layout n a x ls w) (sym place-new) (armed-in layout n a shown ls (standing seen look new) w is eight h p)

-- 9. Ends

pub carried-ok : (layout : Layout) (a b i : ℕ) (l : Letter) (o : Option Letter) (r : Result CodedAnswer AllocError) (ss ss2 : List Standing)
    (ls ls2 : List (List Letter)) (w : World Datum) → IsNode a → IsNode b → o ≡ Some l
    → option_map (post_from a) o ≡ slice_get (posts_between ls a b) (i - 1) → IsOf layout ss ls w
    → (IsFitPost (Some (seen_letter l)) → IfOk r (λ x. DeliveredIn layout a b l (answer_of x) ss2 ls2 w))
    → IfOk r (λ x. Steps layout (carries a b i) (answer_of x) ss2 ls2 w)
carried-ok layout a b i l o (Err e) ss ss2 ls ls2 w x y is at h d = tt
carried-ok layout a b i l o (Ok r) ss ss2 ls ls2 w x y is at h d =
    let some = ap (option_map (post_from a)) (sym is) ∙ at in
    carried-some layout a b i l (answer_of r) ss ss2 ls ls2 w x y some h (d (fit-found layout a b i l ss ls w x y some h))

pub stepped-ok : (layout : Layout) (c : Command) (n : ℕ) (what : Ask) (o : Option (ℕ × Ask)) (r : Result CodedAnswer AllocError)
    (ss : List Standing) (ls : List (List Letter)) (w : World Datum) → o ≡ Some (n, what)
    → option_map (λ p. (p.0, uid_in p.0 p.1, call_in p.1)) o ≡ asked_by c
    → IfOk r (λ a. AskedIn layout n (uid_in n what) (call_in what) (answer_of a) ss ls w)
    → IfOk r (λ a. Steps layout c (answer_of a) ss ls w)
stepped-ok layout c n what o (Err e) ss ls w is same p = tt
stepped-ok layout c n what o (Ok a) ss ls w is same p =
    steps-asked layout (answer_of a) ss ls w c n (uid_in n what) (call_in what)
    (sym same ∙ ap (option_map (λ p. (p.0, uid_in p.0 p.1, call_in p.1))) is) p

pub may-fit : (n : ℕ) (what : Ask) (o : Option (ℕ × Ask)) → o ≡ Some (n, what)
    → IfSome o (λ p. IsNode p.0 × MayAsk p.0 p.1 × IsFitCall (call_in p.1)) → IsFitCall (call_in what)
may-fit n what o is may = (subst (λ z. IfSome z (λ p. IsNode p.0 × MayAsk p.0 p.1 × IsFitCall (call_in p.1))) is may).2
