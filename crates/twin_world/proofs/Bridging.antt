-- What the contract of each call of a twin says is the step of its command.
use Rattle.std.proofs.Common.{◌≡◌, ◌≢◌, ℕ, zero, suc, ◌≤◌, Bool, true, false, Option, None, Some, refl, sym, ap}
use Rattle.std.proofs.Common.{subst}
use Rattle.std.proofs.Common.{◌∙◌, arith}
use Rattle.std.specs.Prelude.{◌==◌, ◌&&◌, not, if◌then◌else◌, Ok, Err}
use Rattle.std.specs.FinMap as map
use Rattle.std.proofs.lemmas.Bool.{eqb-true, eqb-false}
use Rattle.capability.specs.declared.Uid.{Uid}
use Rattle.passive_store.specs.Kept.{Layout, IsEject, bodies_after}
use Rattle.passive_store.specs.Seen.{DiskSeen, Asked}
use Rattle.twin_store.specs.declared.served.TwinRefusal.{TwinRefusal}
use Rattle.twin_store.specs.declared.served.TwinRefusal.TheVariants.{OutOfMemory}
use Rattle.twin_store.specs.Vouched.{Bodies, IsOwnChange}
use Rattle.twin_store.specs.Footings.{AreVouched}
use Rattle.twin_store.specs.Sides.{SideSeen, is_in_use, disk_of, SideGoes}
use Rattle.twin_store.specs.Twins.{TwinSeen, TwinGoes, Holds, IsSure, vow, LeavesVouched, told_first, told_second}
use Rattle.twin_store.proofs.Vouching.{same_or_not, other, one_of}
use Rattle.twin_store.proofs.Finding.{at_change}
use Rattle.twin_store.proofs.Changing.{still_vouched}
use Rattle.twin_world.specs.Logs.{Entry, Texts, SameTexts, Change, texts_after, Pair, left_by, closed_by}
use Rattle.twin_world.specs.Logs.{served_by, MayRefuse}
use Rattle.twin_world.specs.InHand.{uid_of, texts_in, asked_by, Serves, Rests, has_left, IsNoted}
use Rattle.twin_world.specs.Steps.{MadeIsStep, RefusedIsStep, FoundIsStep, UnseenIsStep, ClosingIsStep}

-- 1. Texts of maps

pub own : (n serial : ℕ) → 1 ≤ serial → IsEject n (uid_of n serial)
own n serial some = let one : 1 ≤ 1 = omega arith in (refl, one, some)

serial-of : (n a b : ℕ) → uid_of n a ≡ uid_of n b → a ≡ b
serial-of n a b e = ap (λ (u : Uid). u.serial) e

-- the texts behind a change of a map are those behind the change of its texts
pub texts-changed : (n : ℕ) (c : Change) (bodies : Bodies) (m : Texts) → 1 ≤ c.serial → SameTexts (texts_in n bodies) m
    → SameTexts (texts_in n (bodies_after (uid_of n c.serial) c.text bodies)) (texts_after (Some c) m)
texts-changed n c bodies m some same zero = none (zero == c.serial) refl
  where
    none : (b : Bool) → (zero == c.serial) ≡ b → None ≡ (if b then c.text else m zero)
    none true e = let zeroes : zero ≡ c.serial = eqb-true zero c.serial e in absurd (omega (arith, zeroes, some))
    none false e = same zero
texts-changed n c bodies m some same (suc s) = go (suc s == c.serial) refl
  where
    go : (b : Bool) → (suc s == c.serial) ≡ b
        → map.get (bodies_after (uid_of n c.serial) c.text bodies) (uid_of n (suc s)) ≡ (if b then c.text else m (suc s))
    go true e = subst (λ k. map.get (bodies_after (uid_of n c.serial) c.text bodies) (uid_of n k) ≡ c.text)
        (sym (eqb-true (suc s) c.serial e)) (at_change (uid_of n c.serial) c.text bodies)
    go false e = one_of (same_or_not (uid_of n (suc s)) (uid_of n c.serial))
        (λ is. absurd (eqb-false (suc s) c.serial e (serial-of n (suc s) c.serial is)))
        (λ apart. other (uid_of n c.serial) c.text bodies (uid_of n (suc s)) apart ∙ same (suc s))

-- 2. Which disks are in use

on-or-left : (old new : Bool) → (new ≡ true → old ≡ true) → new ≡ left_by old (old && not new)
on-or-left true true h = refl
on-or-left true false h = refl
on-or-left false true h = absurd (cc (h refl))
on-or-left false false h = refl

-- a disk is in use behind a call as its entry says
used-behind : (a b : SideSeen) (used failed : Bool) → SideGoes a b → is_in_use a ≡ used → failed ≡ has_left a b
    → is_in_use b ≡ left_by used failed
used-behind a b used failed goes is noted =
    on-or-left (is_in_use a) (is_in_use b) goes.left
    ∙ (ap (λ u. left_by u (has_left a b)) is ∙ ap (λ f. left_by used f) (sym noted))

-- 3. Behind a call that was not refused

served : {T : Type 0} (done : T) (layout : Layout) (n : ℕ) (p : Pair) (m x : Texts) (e : Entry) (old new : TwinSeen) (bodies : Bodies)
    → Serves layout n p m old → TwinGoes (Ok done) old new → IsNoted e old new
    → SameTexts (texts_in n bodies) x → Holds layout bodies new → (p.sure ≡ true → IsSure layout new)
    → Serves layout n (served_by e p) x new
served done layout n p m x e old new bodies s goes noted texts holds sure = record {
  node_is = goes.node ∙ s.node_is;
  ready = goes.ready;
  up = refl;
  first_used = used-behind old.first new.first p.first e.first_failed goes.first s.first_used noted.first;
  second_used = used-behind old.second new.second p.second e.second_failed goes.second s.second_used noted.second;
  bodies = bodies;
  texts = texts;
  holds = holds;
  sure = sure;
  first_vouches = refl;
  second_vouches = refl;
  settled = refl;
}

pub made-is-step : MadeIsStep
made-is-step = λ layout n p m c e old new some s l noted. (
  λ serial. refl,
  served tt layout n p m (texts_after (Some c) m) e old new (bodies_after (uid_of n c.serial) c.text s.bodies) s l.goes noted
      (texts-changed n c s.bodies m some s.texts) (l.held refl s.bodies s.holds) (λ is. l.sure refl s.bodies s.holds (s.sure is)),
)

-- 4. Behind a refusal

pub vouched-as : (layout : Layout) (node n : ℕ) (bodies : Bodies) (c : Option Asked) (a b x y : Bool) (one two : DiskSeen)
    → node ≡ n → a ≡ x → b ≡ y → AreVouched layout (vow node bodies c a b) one.told two.told
    → AreVouched layout (vow n bodies c x y) one.told two.told
vouched-as layout node n bodies c a b x y one two is on too h =
    subst (λ k. AreVouched layout (vow k bodies c x y) one.told two.told) is
    (subst (λ u. AreVouched layout (vow node bodies c u y) one.told two.told) on
    (subst (λ u. AreVouched layout (vow node bodies c a u) one.told two.told) too h))

refused : {T : Type 0} (layout : Layout) (n : ℕ) (p : Pair) (m : Texts) (c : Option Change) (e : Entry) (r : TwinRefusal)
    (old new : TwinSeen) → IsOwnChange n (asked_by n c) → (s : Serves layout n p m old)
    → TwinGoes {T = T} (Err r) old new → IsNoted e old new
    → (p.sure ≡ true → LeavesVouched layout s.bodies (asked_by n c) new)
    → Rests layout n (closed_by c e p) m (disk_of new.first) (disk_of new.second)
refused layout n p m c e r old new mine s goes noted vouched = record {
  down = refl;
  bodies = s.bodies;
  texts = s.texts;
  vouching = λ is still. record {
    own = mine;
    vouched = vouched-as layout new.node n s.bodies (asked_by n c) (is_in_use new.first) (is_in_use new.second)
        (left_by p.first_vouches e.first_failed) (left_by p.second_vouches e.second_failed) (disk_of new.first) (disk_of new.second)
        (goes.node ∙ s.node_is)
        (used-behind old.first new.first p.first_vouches e.first_failed goes.first (s.first_used ∙ sym s.first_vouches) noted.first)
        (used-behind old.second new.second p.second_vouches e.second_failed goes.second (s.second_used ∙ sym s.second_vouches)
        noted.second) (vouched is);
  };
}

may-refuse : {T : Type 0} (layout : Layout) (n : ℕ) (p : Pair) (m : Texts) (e : Entry) (r : TwinRefusal) (old new : TwinSeen)
    → r ≢ OutOfMemory → Serves layout n p m old → TwinGoes {T = T} (Err r) old new → IsNoted e old new → MayRefuse r e p
may-refuse layout n p m e r old new memory s goes noted = record {
  memory = memory;
  lost = λ is. let gone : (is_in_use new.first ≡ false) × (is_in_use new.second ≡ false) = goes.lost is in (
    sym (used-behind old.first new.first p.first e.first_failed goes.first s.first_used noted.first) ∙ gone.0,
    sym (used-behind old.second new.second p.second e.second_failed goes.second s.second_used noted.second) ∙ gone.1,
  );
}

pub refused-is-step : RefusedIsStep
refused-is-step = λ layout n p m c r e old new some memory s l noted. (
  (may-refuse layout n p m e r old new memory s l.goes noted, λ serial. refl),
  refused layout n p m (Some c) e r old new (own n c.serial some) s l.goes noted (λ is. l.vouched refl s.bodies s.holds (s.sure is)),
)

-- 5. Looks

-- the text under a serial is what the map has under its uid
text-at : (n serial : ℕ) (bodies : Bodies) → 1 ≤ serial → texts_in n bodies serial ≡ map.get bodies (uid_of n serial)
text-at n zero bodies some = absurd (omega (arith, some))
text-at n (suc s) bodies some = refl

pub found-is-step : FoundIsStep
found-is-step = λ layout n p m serial body e old new some s l noted. (
  (l.found refl s.bodies s.holds ∙ (sym (text-at n serial s.bodies some) ∙ s.texts serial), λ k. refl),
  served body layout n p m m e old new s.bodies s l.changes.goes noted s.texts (l.changes.held refl s.bodies s.holds)
      (λ is. l.changes.sure refl s.bodies s.holds (s.sure is)),
)

pub unseen-is-step : UnseenIsStep
unseen-is-step = λ layout n p m serial r e old new memory s l noted. (
  (may-refuse layout n p m e r old new memory s l.changes.goes noted, λ k. refl),
  refused layout n p m None e r old new tt s l.changes.goes noted (λ is. l.changes.vouched refl s.bodies s.holds (s.sure is)),
)

-- 6. Closings

-- no change is begun on a pair that is open
none-begun : (n : ℕ) (c : Option Change) → c ≡ None → asked_by n c ≡ None
none-begun n c e = ap (asked_by n) e

pub closing-is-step : ClosingIsStep
closing-is-step = λ layout n p m t s. record {
  down = refl;
  bodies = s.bodies;
  texts = s.texts;
  vouching = λ is still. record {
    own = subst (IsOwnChange n) (sym (none-begun n p.begun s.settled)) tt;
    vouched = subst (λ c. AreVouched layout (vow n s.bodies c p.first_vouches p.second_vouches) (told_first t) (told_second t))
        (sym (none-begun n p.begun s.settled))
        (vouched-as layout t.node n s.bodies None (is_in_use t.first) (is_in_use t.second) p.first_vouches p.second_vouches
        (disk_of t.first) (disk_of t.second) s.node_is (s.first_used ∙ sym s.first_vouches) (s.second_used ∙ sym s.second_vouches)
        (still_vouched layout None t s.bodies s.holds (s.sure is)));
  };
}
