-- What the contract of an opening of a twin says is the step of its command.
use Rattle.std.proofs.Common.{◌≡◌, ◌⊎◌, inl, inr, ℕ, zero, suc, ◌≤◌, ◌<◌, Bool, true, false, Option, None, Some, refl, sym, ap}
use Rattle.std.proofs.Common.{subst}
use Rattle.std.proofs.Common.{◌∙◌, arith}
use Rattle.std.specs.Prelude.{◌&&◌, ◌||◌, not, nat_lt, Err}
use Rattle.std.proofs.lemmas.Bool.{ltb-true, lt-ltb}
use Rattle.eden_disk.specs.Calls.{one_more}
use Rattle.eden_disk.specs.Told.{contents}
use Rattle.passive_store.specs.Kept.{Layout}
use Rattle.passive_store.specs.Layout.{IsLayout}
use Rattle.passive_store.specs.Seen.{DiskSeen}
use Rattle.twin_store.specs.declared.served.TwinRefusal.{TwinRefusal}
use Rattle.twin_store.specs.Vouched.{Bodies, SameEjects, changed_by as bodies_by, bodies_found, Vow, IsHeld, IsOwnChange, VouchBy}
use Rattle.twin_store.specs.Vouched.{IsVouched}
use Rattle.twin_store.specs.Footings.{AreVouched}
use Rattle.twin_store.specs.Sides.{SideSeen, is_in_use, disk_of, IsOpenedBy, IsLostDisk}
use Rattle.twin_store.specs.Twins.{TwinSeen, vow, is_spared, spared, IsOpenedTwin, StaysVouched, IsCovered}
use Rattle.twin_store.proofs.Vouching.{one_of, images_are_vouched}
use Rattle.twin_world.specs.Logs.{Entry, Refused, Texts, SameTexts, Change, texts_after, Pair, left_by, is_claimed, is_covered, GivesHeld}
use Rattle.twin_world.specs.Logs.{open_by}
use Rattle.twin_world.specs.InHand.{texts_in, asked_by, uid_of, Vouching, Rests, IsNotedOpening}
use Rattle.twin_world.specs.Steps.{IsWhole, OpeningIsStep, ShutIsStep}
use Rattle.twin_world.proofs.Bridging.{own, texts-changed, vouched-as}

-- 1. Truth values

both-left : (a b : Bool) → (a && b) ≡ true → a ≡ true
both-left true b e = refl
both-left false b e = absurd (cc e)

both-right : (a b : Bool) → (a && b) ≡ true → b ≡ true
both-right true b e = e
both-right false b e = absurd (cc e)

one-or-other : (a b : Bool) → (a || b) ≡ true → (a ≡ true) ⊎ (b ≡ true)
one-or-other true b e = inl refl
one-or-other false b e = inr e

not-so : (a : Bool) → not a ≡ true → a ≡ false
not-so true e = absurd (cc e)
not-so false e = refl

used-or-not : (b : Bool) → (b ≡ true) ⊎ (b ≡ false)
used-or-not true = inl refl
used-or-not false = inr refl

-- a disk is left where it was spared
left-spared : (before failed spare : Bool) → failed ≡ not spare → left_by before failed ≡ (before && spare)
left-spared before failed spare e = ap (left_by before) e ∙ twice before spare
  where
    twice : (a b : Bool) → left_by a (not b) ≡ (a && b)
    twice true true = refl
    twice true false = refl
    twice false b = refl

-- 2. Texts

texts-same : (n : ℕ) (a b : Bodies) → SameEjects n a b → SameTexts (texts_in n a) (texts_in n b)
texts-same n a b same zero = refl
texts-same n a b same (suc s) = let some : 1 ≤ suc s = omega arith in same (uid_of n (suc s)) (own n (suc s) some)

texts-begun : (n : ℕ) (c : Option Change) (bodies : Bodies) (m : Texts) → IsOwnChange n (asked_by n c) → SameTexts (texts_in n bodies) m
    → SameTexts (texts_in n (bodies_by (asked_by n c) bodies)) (texts_after c m)
texts-begun n None bodies m mine same = same
texts-begun n (Some c) bodies m mine same = texts-changed n c bodies m mine.2 same

texts-held : (n : ℕ) (c : Option Change) (bodies has : Bodies) (m : Texts) (a b : Bool) → IsOwnChange n (asked_by n c)
    → SameTexts (texts_in n bodies) m → IsHeld (vow n bodies (asked_by n c) a b) has
    → SameTexts (texts_in n has) m ⊎ SameTexts (texts_in n has) (texts_after c m)
texts-held n c bodies has m a b mine texts (inl same) = inl (λ serial. texts-same n has bodies same serial ∙ texts serial)
texts-held n c bodies has m a b mine texts (inr same) =
    inr (λ serial. texts-same n has (bodies_by (asked_by n c) bodies) same serial ∙ texts-begun n c bodies m mine texts serial)

-- 3. A disk that vouches and is spared is in use

no-map-first : (v : Vow) (a b : Bool) (y : Option Bodies) → a ≡ true → VouchBy a b v None y → ⊥
no-map-first v true true y e h = h.0
no-map-first v true false y e h = h.0
no-map-first v false b y e h = cc e

no-map-second : (v : Vow) (a b : Bool) (x : Option Bodies) → b ≡ true → VouchBy a b v x None → ⊥
no-map-second v true true x e h = h.1
no-map-second v false true x e h = h.0
no-map-second v a false x e h = cc e

not-spared : (n : ℕ) → nat_lt n n ≡ true → ⊥
not-spared n e = let lt : n < n = ltb-true n n e in omega arith

met-more : (old new : ℕ) → new ≡ one_more old → nat_lt new (one_more old) ≡ true → ⊥
met-more old new e lt = not-spared (one_more old) (subst (λ k. nat_lt k (one_more old) ≡ true) e lt)

-- one that vouches and is spared is not lost
lost-first : (layout : Layout) (v : Vow) (first one second : DiskSeen) → IsWhole first → IsWhole second
    → AreVouched layout v first.told second.told → IsLostDisk true layout v.node first one → v.first ≡ true
    → is_spared first.counts one.counts ≡ true → ⊥
lost-first layout v first one second wf ws h lost vouches spare =
    one_of lost (λ e. met-more first.counts.faults one.counts.faults e spare)
    (λ r. let place : (place : ℕ) × (layout.map_of v.node (contents first.told).now ≡ Err place) = r.1 refl in
    no-map-first v v.first v.second (bodies_found (layout.map_of v.node (contents second.told).now)) vouches
    (subst (λ found. IsVouched v (bodies_found found) (bodies_found (layout.map_of v.node (contents second.told).now))) place.1
    (images_are_vouched layout v first.told second.told (contents first.told).now (contents second.told).now h wf.0 ws.0)))

lost-second : (layout : Layout) (v : Vow) (first second two : DiskSeen) → IsWhole first → IsWhole second
    → AreVouched layout v first.told second.told → IsLostDisk true layout v.node second two → v.second ≡ true
    → is_spared second.counts two.counts ≡ true → ⊥
lost-second layout v first second two wf ws h lost vouches spare =
    one_of lost (λ e. met-more second.counts.faults two.counts.faults e spare)
    (λ r. let place : (place : ℕ) × (layout.map_of v.node (contents second.told).now ≡ Err place) = r.1 refl in
    no-map-second v v.first v.second (bodies_found (layout.map_of v.node (contents first.told).now)) vouches
    (subst (λ found. IsVouched v (bodies_found (layout.map_of v.node (contents first.told).now)) (bodies_found found)) place.1
    (images_are_vouched layout v first.told second.told (contents first.told).now (contents second.told).now h wf.0 ws.0)))

first-in-use : (layout : Layout) (v : Vow) (first second : DiskSeen) (new : SideSeen) → IsWhole first → IsWhole second
    → AreVouched layout v first.told second.told → IsOpenedBy true layout v.node first new → v.first ≡ true
    → is_spared first.counts (disk_of new).counts ≡ true → is_in_use new ≡ true
first-in-use layout v first second new wf ws h by vouches spare = one_of (used-or-not (is_in_use new)) (λ on. on)
    (λ off. absurd (lost-first layout v first (disk_of new) second wf ws h (by.away off) vouches spare))

second-in-use : (layout : Layout) (v : Vow) (first second : DiskSeen) (new : SideSeen) → IsWhole first → IsWhole second
    → AreVouched layout v first.told second.told → IsOpenedBy true layout v.node second new → v.second ≡ true
    → is_spared second.counts (disk_of new).counts ≡ true → is_in_use new ≡ true
second-in-use layout v first second new wf ws h by vouches spare = one_of (used-or-not (is_in_use new)) (λ on. on)
    (λ off. absurd (lost-second layout v first second (disk_of new) wf ws h (by.away off) vouches spare))

-- a disk in use met no fault
unmet : (layout : Layout) (n : ℕ) (old : DiskSeen) (new : SideSeen) (failed : Bool) → IsWhole old → IsOpenedBy true layout n old new
    → failed ≡ not (is_spared old.counts (disk_of new).counts) → is_in_use new ≡ true → failed ≡ false
unmet layout n old new failed whole by noted on =
    let less : is_spared old.counts (disk_of new).counts ≡ true =
    ap (λ k. nat_lt k (one_more old.counts.faults)) (by.used on) ∙ lt-ltb old.counts.faults (one_more old.counts.faults) whole.1 in
    noted ∙ ap not less

-- 4. Openings

module _ (layout : Layout) (n : ℕ) (p : Pair) (m : Texts) (e : Entry) (first second : DiskSeen) (t : TwinSeen)
    (wf : IsWhole first) (ws : IsWhole second) (r : Rests layout n p m first second) (o : IsOpenedTwin true layout n first second t)
    (noted_first : e.first_failed ≡ not (is_spared first.counts (disk_of t.first).counts))
    (noted_second : e.second_failed ≡ not (is_spared second.counts (disk_of t.second).counts)) where
  first-left : left_by p.first_vouches e.first_failed ≡ (p.first_vouches && is_spared first.counts (disk_of t.first).counts)
  first-left = left-spared p.first_vouches e.first_failed (is_spared first.counts (disk_of t.first).counts) noted_first

  second-left : left_by p.second_vouches e.second_failed ≡ (p.second_vouches && is_spared second.counts (disk_of t.second).counts)
  second-left = left-spared p.second_vouches e.second_failed (is_spared second.counts (disk_of t.second).counts) noted_second

  sure-of : is_claimed p e ≡ true → p.sure ≡ true
  sure-of claimed = both-left p.sure _ claimed

  still-of : is_claimed p e ≡ true → p.spoiled ≡ false
  still-of claimed = not-so p.spoiled (both-left (not p.spoiled) _ (both-right p.sure _ claimed))

  left-of : is_claimed p e ≡ true → (left_by p.first_vouches e.first_failed ≡ true) ⊎ (left_by p.second_vouches e.second_failed ≡ true)
  left-of claimed = one-or-other _ _ (both-right (not p.spoiled) _ (both-right p.sure _ claimed))

  gives-held : (has : Bodies) (claimed : is_claimed p e ≡ true) (v : Vouching layout n p r.bodies first second)
      → IsHeld (vow n r.bodies (asked_by n p.begun) p.first_vouches p.second_vouches) has
      → GivesHeld (is_in_use t.first) (is_in_use t.second) e p m (texts_in n has)
  gives-held has claimed v held = record {
    held = texts-held n p.begun r.bodies has m p.first_vouches p.second_vouches v.own r.texts held;
    first_used = λ left. let on = sym first-left ∙ left in
        first-in-use layout (vow n r.bodies (asked_by n p.begun) p.first_vouches p.second_vouches) first second t.first wf ws v.vouched
        o.first_opened (both-left p.first_vouches _ on) (both-right p.first_vouches _ on);
    second_used = λ left. let on = sym second-left ∙ left in
        second-in-use layout (vow n r.bodies (asked_by n p.begun) p.first_vouches p.second_vouches) first second t.second wf ws v.vouched
        o.second_opened (both-left p.second_vouches _ on) (both-right p.second_vouches _ on);
  }

  -- what the contract says of the vow of the pair
  is-covered : is_claimed p e ≡ true
      → IsCovered (spared (vow n r.bodies (asked_by n p.begun) p.first_vouches p.second_vouches) first (disk_of t.first) second
      (disk_of t.second))
  is-covered claimed = one_of (left-of claimed) (λ left. inl (sym first-left ∙ left)) (λ left. inr (sym second-left ∙ left))

pub opening-is-step : OpeningIsStep
opening-is-step = λ layout n p m e first second t lawful wf ws r o noted.
    let right = o.right refl lawful in
    let vow_is = vow n r.bodies (asked_by n p.begun) p.first_vouches p.second_vouches in
    let vouching = λ (claimed : is_claimed p e ≡ true). r.vouching
    (sure-of layout n p m e first second t wf ws r o noted.first_met noted.second_met claimed)
    (still-of layout n p m e first second t wf ws r o noted.first_met noted.second_met claimed) in
    let covered = λ (claimed : is_claimed p e ≡ true). right.covered vow_is refl (vouching claimed).own (vouching claimed).vouched
    (is-covered layout n p m e first second t wf ws r o noted.first_met noted.second_met claimed) in (
      texts_in n right.has,
      record {
        some = o.ready.some;
        first_met = unmet layout n first t.first e.first_failed wf o.first_opened noted.first_met;
        second_met = unmet layout n second t.second e.second_failed ws o.second_opened noted.second_met;
        given = λ claimed. gives-held layout n p m e first second t wf ws r o noted.first_met noted.second_met right.has claimed
            (vouching claimed) (covered claimed).0;
      },
      record {
        node_is = o.node_is;
        ready = o.ready;
        up = refl;
        first_used = refl;
        second_used = refl;
        bodies = right.has;
        texts = λ serial. refl;
        holds = right.holds;
        sure = λ is. one_of (one-or-other (is_in_use t.first && is_in_use t.second) (is_claimed p e) is)
            (λ both. right.sure (both-left (is_in_use t.first) _ both) (both-right (is_in_use t.first) _ both))
            (λ claimed. (covered claimed).1);
        first_vouches = refl;
        second_vouches = refl;
        settled = refl;
      },
    )

shut-rests : (layout : Layout) (n : ℕ) (p : Pair) (m : Texts) (x : TwinRefusal) (e : Entry) (first one second two : DiskSeen)
    → IsLayout layout → Rests layout n p m first second → StaysVouched true layout n first one second two
    → IsNotedOpening e first one second two → Rests layout n (open_by (Refused x) e p) m one two
shut-rests layout n p m x e first one second two lawful r stays noted = record {
  down = refl;
  bodies = r.bodies;
  texts = r.texts;
  vouching = λ is still. let v = r.vouching is still in record {
    own = v.own;
    vouched = vouched-as layout n n r.bodies (asked_by n p.begun) (p.first_vouches && is_spared first.counts one.counts)
        (p.second_vouches && is_spared second.counts two.counts) (left_by p.first_vouches e.first_failed)
        (left_by p.second_vouches e.second_failed) one two refl
        (sym (left-spared p.first_vouches e.first_failed (is_spared first.counts one.counts) noted.first_met))
        (sym (left-spared p.second_vouches e.second_failed (is_spared second.counts two.counts) noted.second_met))
        (stays refl lawful (vow n r.bodies (asked_by n p.begun) p.first_vouches p.second_vouches) refl v.own v.vouched);
  };
}

-- where both disks are lost the opening is not claimed
module _ (layout : Layout) (n : ℕ) (p : Pair) (m : Texts) (e : Entry) (first one second two : DiskSeen) (wf : IsWhole first)
    (ws : IsWhole second) (r : Rests layout n p m first second) (noted : IsNotedOpening e first one second two)
    (lost : IsLostDisk true layout n first one × IsLostDisk true layout n second two) where
  none-left : (v : Vouching layout n p r.bodies first second)
      → (left_by p.first_vouches e.first_failed ≡ true) ⊎ (left_by p.second_vouches e.second_failed ≡ true) → ⊥
  none-left v h =
      let vow_is : Vow = vow n r.bodies (asked_by n p.begun) p.first_vouches p.second_vouches in
      one_of h
      (λ left. let on : (p.first_vouches && is_spared first.counts one.counts) ≡ true =
      sym (left-spared p.first_vouches e.first_failed (is_spared first.counts one.counts) noted.first_met) ∙ left in
      lost-first layout vow_is first one second wf ws v.vouched lost.0 (both-left p.first_vouches _ on) (both-right p.first_vouches _ on))
      (λ left. let on : (p.second_vouches && is_spared second.counts two.counts) ≡ true =
      sym (left-spared p.second_vouches e.second_failed (is_spared second.counts two.counts) noted.second_met) ∙ left in
      lost-second layout vow_is first second two wf ws v.vouched lost.1 (both-left p.second_vouches _ on)
      (both-right p.second_vouches _ on))

  unclaimed : is_claimed p e ≡ false
  unclaimed = one_of (used-or-not (is_claimed p e))
      (λ claimed. let covered : is_covered p e ≡ true = both-right p.sure _ claimed in
      absurd (none-left (r.vouching (both-left p.sure _ claimed) (not-so p.spoiled (both-left (not p.spoiled) _ covered)))
      (one-or-other _ _ (both-right (not p.spoiled) _ covered))))
      (λ none. none)

pub shut-is-step : ShutIsStep
shut-is-step = λ layout n p m x e first one second two lawful wf ws want r lost stays noted. (
  (
    record { memory = want; lost = λ is. unclaimed layout n p m e first one second two wf ws r noted (lost is) },
    λ serial. refl,
  ),
  shut-rests layout n p m x e first one second two lawful r stays noted,
)
