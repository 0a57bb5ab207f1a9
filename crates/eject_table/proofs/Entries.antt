-- Look-ups in the map that a slab and its places stand for.
use Rattle.std.proofs.Common.{◌≡◌, ◌≢◌, ℕ, zero, suc, ◌<◌, length, get_or, arith, Bool, true, false, cond, T, ◌&&◌, List, [], ◌∷◌}
use Rattle.std.proofs.Common.{Option, None, Some, IsSome, refl, sym, ◌∙◌, ap, map}
use Rattle.std.specs.declared.cmp.Ordering.{Ordering}
use Rattle.std.specs.declared.cmp.Ordering.TheVariants.{Less}
use Rattle.std.specs.Ordering.{eq_by_cmp, is_lt}
use Rattle.std.specs.Option.{option_map}
use Rattle.std.specs.List.Sorted.{IsStrictlySortedBy}
use Rattle.std.proofs.lemmas.Cmp.{tied_itself}
use Rattle.std.proofs.lemmas.List.{length-map, get_or-set_same, get_or-set_other}
use Rattle.std.specs.List.{AllByRecursion}
use Rattle.std.specs.FinMap.{FinMap, entries, len, len-entries, entries-from_sorted, get, insert, remove, empty, get-from_sorted}
use Rattle.std.specs.FinMap.{get-insert, get-remove, get-empty, same_map}
use Rattle.std.specs.FinMap.Entries.{is_sorted, below_all}
use Rattle.slab.specs.Slab.{Slab, get as get_slab, Updates, with_value}
use Rattle.capability.specs.declared.Uid.{Uid}
use Rattle.capability.specs.Uids.{uid_cmp}
use Rattle.capability.proofs.Uids.{uid_cmp_total, uid_cmp-IsAntisymmetric}
use Rattle.eden_model.specs.Map.{each_value, value_at, with_item}
use Rattle.eden_model.proofs.Laws.{eq-same}
use Rattle.eject_table.specs.Table.{item_of, map_of, IsWhole, active_in, dropped, dropped_in, place_standing, standing_of}
use Rattle.eject_table.specs.declared.EjectStanding.TheVariants.{Active}

pub value-each : {K X Y : Type 0} (R : K → K → Ordering) (f : X → Y) (q : K) (es : List (K × X))
    → value_at R q (each_value f es) ≡ option_map f (value_at R q es)
value-each R f q [] = refl
value-each R f q (e ∷ es) = elim (eq_by_cmp R q e.0) as
    (λ b. cond b (Some (f e.1)) (value_at R q (each_value f es)) ≡ option_map f (cond b (Some e.1) (value_at R q es)))
    [ true ↦ refl | false ↦ value-each R f q es ]

below-each : {K X Y : Type 0} (R : K → K → Ordering) (f : X → Y) (x : K) (es : List (K × X))
    → below_all R x (each_value f es) ≡ below_all R x es
below-each R f x [] = refl
below-each R f x (e ∷ es) = ap (λ b. is_lt (R x e.0) && b) (below-each R f x es)

pub sorted-each : {K X Y : Type 0} (R : K → K → Ordering) (f : X → Y) (es : List (K × X)) → is_sorted R (each_value f es) ≡ is_sorted R es
sorted-each R f [] = refl
sorted-each R f (e ∷ es) = rw (below-each R f e.0 es, sorted-each R f es) refl

-- what the map has at a uid
pub get-map : {A : Type 0} (slab : Slab A) (places : List (Uid × Option ℕ)) (q : Uid) → T (is_sorted uid_cmp places)
    → get (map_of slab places) q ≡ option_map (item_of slab) (value_at uid_cmp q places)
get-map slab places q sorted = get-from_sorted uid_cmp (each_value (item_of slab) places) q
    (rw (sorted-each uid_cmp (item_of slab) places) sorted) ∙ value-each uid_cmp (item_of slab) q places

pub map-empty : {A : Type 0} (slab : Slab A) → map_of slab [] ≡ empty
map-empty slab = same_map uid_cmp_total uid_cmp-IsAntisymmetric (map_of slab []) empty
    (λ q. get-map slab [] q tt ∙ sym (get-empty uid_cmp q))

-- two such maps with the same look-ups
pub same-maps : {A : Type 0} (slab : Slab A) (places : List (Uid × Option ℕ)) (m : FinMap uid_cmp (Option A)) → T (is_sorted uid_cmp places)
    → ((q : Uid) → option_map (item_of slab) (value_at uid_cmp q places) ≡ get m q) → map_of slab places ≡ m
same-maps slab places m sorted same = same_map uid_cmp_total uid_cmp-IsAntisymmetric (map_of slab places) m
    (λ q. get-map slab places q sorted ∙ same q)

-- 1. The order of std's map

below-from : {K X : Type 0} (R : K → K → Ordering) (x : K) (es : List (K × X)) → AllByRecursion (λ y. R x y ≡ Less) (map (λ e. e.0) es)
    → T (below_all R x es)
below-from R x [] h = tt
below-from R x (e ∷ es) h = rw h.0 (below-from R x es h.1)

pub sorted-from : {K X : Type 0} (R : K → K → Ordering) (es : List (K × X)) → IsStrictlySortedBy R (map (λ e. e.0) es) → T (is_sorted R es)
unfolding IsStrictlySortedBy
sorted-from R [] h = tt
sorted-from R (e ∷ es) h = both (below_all R e.0 es) (is_sorted R es) (below-from R e.0 es h.0) (sorted-from R es h.1)
  where
    both : (a b : Bool) → T a → T b → T (a && b)
    both true b p q = q
    both false b p q = absurd p

pub eq-comm : (u v : Uid) → eq_by_cmp uid_cmp u v ≡ eq_by_cmp uid_cmp v u
eq-comm u v = go (eq_by_cmp uid_cmp u v) refl (eq_by_cmp uid_cmp v u) refl
  where
    self : (x : Uid) → eq_by_cmp uid_cmp x x ≡ true
    self x = rw (tied_itself uid_cmp_total x) refl

    go : (a : Bool) → eq_by_cmp uid_cmp u v ≡ a → (b : Bool) → eq_by_cmp uid_cmp v u ≡ b → a ≡ b
    go true p true q = refl
    go false p false q = refl
    go true p false q = let e : u ≡ v = eq-same uid_cmp uid_cmp-IsAntisymmetric u v p in
        let bad : true ≡ false = sym (self v) ∙ ap (λ x. eq_by_cmp uid_cmp v x) (sym e) ∙ q in cc
    go false p true q = let e : v ≡ u = eq-same uid_cmp uid_cmp-IsAntisymmetric v u q in
        let bad : true ≡ false = sym (self u) ∙ ap (λ x. eq_by_cmp uid_cmp u x) (sym e) ∙ p in cc

-- 2. A change at one uid

pub record IsChanged {A : Type 0} (slab : Slab A) (places : List (Uid × Option ℕ)) (new : Slab A) (now : List (Uid × Option ℕ)) (u : Uid)
    (p : Option (Option ℕ)) : Type 0 where
  pub sorted : T (is_sorted uid_cmp now)
  pub at : (q : Uid) → value_at uid_cmp q now ≡ cond (eq_by_cmp uid_cmp u q) p (value_at uid_cmp q places)
  -- the parts of others stay
  pub others : (q : Uid) (k : ℕ) → eq_by_cmp uid_cmp u q ≡ false → value_at uid_cmp q places ≡ Some (Some k)
      → get_slab new k ≡ get_slab slab k
  -- the uid's place holds a part, and is no other's
  pub occupied : (k : ℕ) → p ≡ Some (Some k) → IsSome (get_slab new k)
  pub alone : (q : Uid) (k : ℕ) → p ≡ Some (Some k) → eq_by_cmp uid_cmp u q ≡ false → value_at uid_cmp q places ≡ Some (Some k) → ⊥

module _ {A : Type 0} (slab : Slab A) (places : List (Uid × Option ℕ)) (w : IsWhole slab places) (new : Slab A)
    (now : List (Uid × Option ℕ)) (u : Uid) (p : Option (Option ℕ)) (h : IsChanged slab places new now u p) where
  is-self : (q : Uid) → eq_by_cmp uid_cmp u q ≡ true → value_at uid_cmp q now ≡ p
  is-self q e = h.at q ∙ rw e refl

  is-other : (q : Uid) → eq_by_cmp uid_cmp u q ≡ false → value_at uid_cmp q now ≡ value_at uid_cmp q places
  is-other q e = h.at q ∙ rw e refl

  pub changed-whole : IsWhole new now
  changed-whole = record { sorted = h.sorted; occupied = occupied; apart = apart }
    where
      occupied : (v : Uid) (k : ℕ) → value_at uid_cmp v now ≡ Some (Some k) → IsSome (get_slab new k)
      occupied v k is = go (eq_by_cmp uid_cmp u v) refl
        where
          go : (b : Bool) → eq_by_cmp uid_cmp u v ≡ b → IsSome (get_slab new k)
          go true e = h.occupied k (sym (is-self v e) ∙ is)
          go false e = let was : value_at uid_cmp v places ≡ Some (Some k) = sym (is-other v e) ∙ is in
              rw (h.others v k e was) (w.occupied v k was)

      apart : (v z : Uid) (k : ℕ) → value_at uid_cmp v now ≡ Some (Some k) → value_at uid_cmp z now ≡ Some (Some k) → v ≡ z
      apart v z k i j = go (eq_by_cmp uid_cmp u v) refl (eq_by_cmp uid_cmp u z) refl
        where
          go : (b : Bool) → eq_by_cmp uid_cmp u v ≡ b → (d : Bool) → eq_by_cmp uid_cmp u z ≡ d → v ≡ z
          go true e true f = sym (eq-same uid_cmp uid_cmp-IsAntisymmetric u v e) ∙ eq-same uid_cmp uid_cmp-IsAntisymmetric u z f
          go true e false f = absurd (h.alone z k (sym (is-self v e) ∙ i) f (sym (is-other z f) ∙ j))
          go false e true f = absurd (h.alone v k (sym (is-self z f) ∙ j) e (sym (is-other v e) ∙ i))
          go false e false f = w.apart v z k (sym (is-other v e) ∙ i) (sym (is-other z f) ∙ j)

  lookups : (q : Uid) → option_map (item_of new) (value_at uid_cmp q now) ≡ cond (eq_by_cmp uid_cmp u q) (option_map (item_of new) p)
      (get (map_of slab places) q)
  lookups q = go (eq_by_cmp uid_cmp u q) refl (value_at uid_cmp q places) refl
    where
      go : (b : Bool) → eq_by_cmp uid_cmp u q ≡ b → (o : Option (Option ℕ)) → value_at uid_cmp q places ≡ o
          → option_map (item_of new) (value_at uid_cmp q now) ≡ cond (eq_by_cmp uid_cmp u q) (option_map (item_of new) p)
          (get (map_of slab places) q)
      go true e o is = rw (is-self q e, e) refl
      go false e None is = rw (is-other q e, e, get-map slab places q w.sorted, is) refl
      go false e (Some None) is = rw (is-other q e, e, get-map slab places q w.sorted, is) refl
      go false e (Some (Some k)) is = rw (is-other q e, e, get-map slab places q w.sorted, is) (ap (λ x. Some x) (h.others q k e is))

  pub changed-put : (a : Option A) → option_map (item_of new) p ≡ Some a → map_of new now ≡ insert (map_of slab places) u a
  changed-put a is = same-maps new now (insert (map_of slab places) u a) h.sorted
      (λ q. lookups q ∙ rw (is, eq-comm u q) (sym (get-insert uid_cmp_total (map_of slab places) u a q)))

  pub changed-gone : option_map (item_of new) p ≡ None → map_of new now ≡ remove (map_of slab places) u
  changed-gone is = same-maps new now (remove (map_of slab places) u) h.sorted
      (λ q. lookups q ∙ rw (is, eq-comm u q) (sym (get-remove uid_cmp_total (map_of slab places) u q)))

-- the same parts at the same keys
pub kept-slab : {A : Type 0} (slab : Slab A) (places : List (Uid × Option ℕ)) → IsWhole slab places → (other : Slab A)
    → ((k : ℕ) → get_slab other k ≡ get_slab slab k) → IsWhole other places × (map_of other places ≡ map_of slab places)
kept-slab slab places w other same = (
  record { sorted = w.sorted; occupied = λ u k h. rw (same k) (w.occupied u k h); apart = w.apart },
  same-maps other places (map_of slab places) w.sorted (λ q. go (value_at uid_cmp q places) ∙ sym (get-map slab places q w.sorted)),
)
  where
    go : (o : Option (Option ℕ)) → option_map (item_of other) o ≡ option_map (item_of slab) o
    go None = refl
    go (Some None) = refl
    go (Some (Some k)) = ap (λ x. Some x) (same k)

-- 3. The changes

module _ {A : Type 0} (slab : Slab A) (places : List (Uid × Option ℕ)) (w : IsWhole slab places) where
  self-eq : (u : Uid) → eq_by_cmp uid_cmp u u ≡ true
  self-eq u = rw (tied_itself uid_cmp_total u) refl

  pub added : (mid new : Slab A) (now : List (Uid × Option ℕ)) (u : Uid) (key : ℕ) (a : A) → ((k : ℕ) → get_slab mid k ≡ get_slab slab k)
      → get_slab mid key ≡ None → Updates mid new key (Some a)
      → T (is_sorted uid_cmp now) → ((q : Uid) → value_at uid_cmp q now ≡ cond (eq_by_cmp uid_cmp u q) (Some (Some key))
      (value_at uid_cmp q places)) → IsChanged slab places new now u (Some (Some key))
  added mid new now u key a same vacant up sorted at = record {
    sorted = sorted;
    at = at;
    others = λ q k e is. up.others k (λ n. none k n (w.occupied q k is)) ∙ same k;
    occupied = λ k is. let n : k ≡ key = cc in rw (n, up.changed) refl;
    alone = λ q k is e was. let n : k ≡ key = cc in none k n (w.occupied q k was);
  }
    where
      no-some : (o : Option A) → o ≡ None → IsSome o → ⊥
      no-some None e s = absurd (let bad = s in cc)
      no-some (Some x) e s = cc

      none : (k : ℕ) → k ≡ key → IsSome (get_slab slab k) → ⊥
      none k n some = no-some (get_slab slab k) (sym (same k) ∙ ap (get_slab mid) n ∙ vacant) some

  pub removed : (new : Slab A) (now : List (Uid × Option ℕ)) (u : Uid) (key : ℕ) (p : Option (Option ℕ))
      → value_at uid_cmp u places ≡ Some (Some key) → Updates slab new key None → ((k : ℕ) → p ≡ Some (Some k) → ⊥)
      → T (is_sorted uid_cmp now) → ((q : Uid) → value_at uid_cmp q now ≡ cond (eq_by_cmp uid_cmp u q) p (value_at uid_cmp q places))
      → IsChanged slab places new now u p
  removed new now u key p was up no_place sorted at = record {
    sorted = sorted;
    at = at;
    others = λ q k e is. up.others k (λ n. let same : u ≡ q = w.apart u q k (was ∙ ap (λ j. Some (Some j)) (sym n)) is in
        let bad : true ≡ false = sym (self-eq u) ∙ ap (λ x. eq_by_cmp uid_cmp u x) same ∙ e in cc);
    occupied = λ k is. absurd (no_place k is);
    alone = λ q k is e j. no_place k is;
  }

  pub unplaced : (now : List (Uid × Option ℕ)) (u : Uid) (p : Option (Option ℕ)) → ((k : ℕ) → p ≡ Some (Some k) → ⊥)
      → T (is_sorted uid_cmp now) → ((q : Uid) → value_at uid_cmp q now ≡ cond (eq_by_cmp uid_cmp u q) p (value_at uid_cmp q places))
      → IsChanged slab places slab now u p
  unplaced now u p no_place sorted at = record {
    sorted = sorted;
    at = at;
    others = λ q k e is. refl;
    occupied = λ k is. absurd (no_place k is);
    alone = λ q k is e j. no_place k is;
  }

  -- what is active
  pub place-active : (u : Uid) (key : ℕ) → Some key ≡ with_item (value_at uid_cmp u places) (λ k. k) None
      → (get_slab slab key ≡ active_in (get (map_of slab places) u)) × (value_at uid_cmp u places ≡ Some (Some key))
  place-active u key is = go (value_at uid_cmp u places) refl is
    where
      go : (o : Option (Option ℕ)) → value_at uid_cmp u places ≡ o → Some key ≡ with_item o (λ k. k) None
          → (get_slab slab key ≡ active_in (get (map_of slab places) u)) × (value_at uid_cmp u places ≡ Some (Some key))
      go None e n = cc
      go (Some None) e n = cc
      go (Some (Some k)) e n = let m : k ≡ key = cc in (rw (get-map slab places u w.sorted, e, m) refl, rw (e, m) refl)

  pub place-none : (u : Uid) → None ≡ with_item (value_at uid_cmp u places) (λ k. k) None → None ≡ active_in (get (map_of slab places) u)
  place-none u is = go (value_at uid_cmp u places) refl is
    where
      go : (o : Option (Option ℕ)) → value_at uid_cmp u places ≡ o → None ≡ with_item o (λ k. k) None
          → None ≡ active_in (get (map_of slab places) u)
      go None e n = rw (get-map slab places u w.sorted, e) refl
      go (Some None) e n = rw (get-map slab places u w.sorted, e) refl
      go (Some (Some k)) e n = cc

  pub place-stands : (u : Uid) → place_standing (value_at uid_cmp u places) ≡ standing_of (get (map_of slab places) u)
  place-stands u = go (value_at uid_cmp u places) refl
    where
      known : (k : ℕ) (o : Option A) → get_slab slab k ≡ o → IsSome o → Active ≡ standing_of (Some o)
      known k None e s = absurd (let bad = s in cc)
      known k (Some a) e s = refl

      go : (o : Option (Option ℕ)) → value_at uid_cmp u places ≡ o → place_standing o ≡ standing_of (get (map_of slab places) u)
      go None e = rw (get-map slab places u w.sorted, e) refl
      go (Some None) e = rw (get-map slab places u w.sorted, e) refl
      go (Some (Some k)) e = rw (get-map slab places u w.sorted, e) (known k (get_slab slab k) refl (w.occupied u k e))

  -- the part at the key leaves
  pub drop-part : (new : Slab A) (now : List (Uid × Option ℕ)) (u : Uid) (key : ℕ) (stays : Bool)
      → Some key ≡ with_item (value_at uid_cmp u places) (λ k. k) None → Updates slab new key None
      → T (is_sorted uid_cmp now) → ((q : Uid) → value_at uid_cmp q now ≡ cond (eq_by_cmp uid_cmp u q) (cond stays (Some None) None)
      (value_at uid_cmp q places))
      → IsWhole new now × (map_of new now ≡ dropped (map_of slab places) u stays)
  drop-part new now u key stays is up sorted at = (changed-whole slab places w new now u (cond stays (Some None) None) h, last stays refl)
    where
      no-place : (b : Bool) (k : ℕ) → cond b (Some None) None ≡ Some (Some k) → ⊥
      no-place true k e = cc
      no-place false k e = cc

      h : IsChanged slab places new now u (cond stays (Some None) None)
      h = removed new now u key (cond stays (Some None) None) (place-active u key is).1 up (no-place stays) sorted at

      some : (o : Option A) → IsSome o → (b : Bool)
          → dropped_in o (map_of slab places) u b ≡ cond b (insert (map_of slab places) u None) (remove (map_of slab places) u)
      some None i b = absurd (let bad = i in cc)
      some (Some x) i b = refl

      there : IsSome (active_in (get (map_of slab places) u))
      there = rw (← (place-active u key is).0) (w.occupied u key (place-active u key is).1)

      last : (b : Bool) → stays ≡ b → map_of new now ≡ dropped (map_of slab places) u stays
      last true e = rw (some (active_in (get (map_of slab places) u)) there stays, e)
          (changed-put slab places w new now u (cond stays (Some None) None) h None (rw e refl))
      last false e = rw (some (active_in (get (map_of slab places) u)) there stays, e)
          (changed-gone slab places w new now u (cond stays (Some None) None) h (rw e refl))

  pub some-place : (u : Uid) (key : ℕ) → Some key ≡ with_item (value_at uid_cmp u places) (λ k. k) None → IsSome (value_at uid_cmp u places)
  some-place u key is = rw (place-active u key is).1 refl

  pub no-drop : (u : Uid) (stays : Bool) → None ≡ with_item (value_at uid_cmp u places) (λ k. k) None
      → map_of slab places ≡ dropped (map_of slab places) u stays
  no-drop u stays is = rw (← place-none u is) refl

  -- how many, and which
  pub map-entries : entries (map_of slab places) ≡ each_value (item_of slab) places
  map-entries = entries-from_sorted uid_cmp (each_value (item_of slab) places) (rw (sorted-each uid_cmp (item_of slab) places) w.sorted)

  pub map-len : len (map_of slab places) ≡ length places
  map-len = len-entries (map_of slab places) ∙ ap length map-entries ∙ length-map places (λ (e : Uid × Option ℕ). (e.0, item_of slab e.1))

  pub map-keys : map (λ (e : Uid × Option A). e.0) (entries (map_of slab places)) ≡ map (λ (e : Uid × Option ℕ). e.0) places
  map-keys = ap (map (λ (e : Uid × Option A). e.0)) map-entries ∙ each-keys places
    where
      each-keys : (es : List (Uid × Option ℕ)) → map (λ (e : Uid × Option A). e.0) (each_value (item_of slab) es) ≡ map
          (λ (e : Uid × Option ℕ). e.0) es
      each-keys [] = refl
      each-keys (e ∷ es) = ap (λ xs. e.0 ∷ xs) (each-keys es)

  -- a write through the part at the key
  pub written : (u : Uid) (key : ℕ) (a : A) → Some key ≡ with_item (value_at uid_cmp u places) (λ k. k) None
      → IsWhole (with_value slab key a) places × (map_of (with_value slab key a) places ≡ insert (map_of slab places) u (Some a))
  written u key a is = (
    changed-whole slab places w (with_value slab key a) places u (Some (Some key)) h,
    changed-put slab places w (with_value slab key a) places u (Some (Some key)) h (Some a) (ap (λ x. Some x) at-key),
  )
    where
      some-within : (o : List (Option A)) (i : ℕ) → IsSome (get_or o i None) → i < length o
      some-within [] i s = absurd (let bad = s in cc)
      some-within (x ∷ o) zero s = omega arith
      some-within (x ∷ o) (suc i) s = omega (arith, some-within o i s)

      was : value_at uid_cmp u places ≡ Some (Some key)
      was = (place-active u key is).1

      within : key < length slab.slots
      within = some-within slab.slots key (w.occupied u key was)

      at-key : get_slab (with_value slab key a) key ≡ Some a
      at-key = get_or-set_same slab.slots key (Some a) None within

      at-other : (k : ℕ) → k ≢ key → get_slab (with_value slab key a) k ≡ get_slab slab k
      at-other k n = get_or-set_other slab.slots key k (Some a) None n

      here : (q : Uid) (b : Bool) → eq_by_cmp uid_cmp u q ≡ b
          → value_at uid_cmp q places ≡ cond b (Some (Some key)) (value_at uid_cmp q places)
      here q true e = ap (λ x. value_at uid_cmp x places) (sym (eq-same uid_cmp uid_cmp-IsAntisymmetric u q e)) ∙ was
      here q false e = refl

      h : IsChanged slab places (with_value slab key a) places u (Some (Some key))
      h = record {
        sorted = w.sorted;
        at = λ q. here q (eq_by_cmp uid_cmp u q) refl;
        others = λ q k e i. at-other k (λ n. let same : u ≡ q = w.apart u q k (was ∙ ap (λ j. Some (Some j)) (sym n)) i in
            let bad : true ≡ false = sym (self-eq u) ∙ ap (λ x. eq_by_cmp uid_cmp u x) same ∙ e in cc);
        occupied = λ k i. let n : k ≡ key = cc in rw (n, at-key) refl;
        alone = λ q k i e j. let n : key ≡ k = cc in let same : u ≡ q = w.apart u q k (was ∙ ap (λ m. Some (Some m)) n) j in
            let bad : true ≡ false = sym (self-eq u) ∙ ap (λ x. eq_by_cmp uid_cmp u x) same ∙ e in cc;
      }
