-- One place of the world changes.
use Rattle.std.proofs.Common.{◌≡◌, ◌≢◌, ◌⊎◌, inl, inr, ℕ, suc, ◌+◌, ◌-◌, ◌<◌, ◌^◌, Bool, true, false, List, [], ◌∷◌, map, length}
use Rattle.std.proofs.Common.{refl, sym, ap, subst, ◌∙◌, arith, slice_set, get_or, get_or-set_same, get_or-set_other}
use Rattle.std.specs.Prelude.{◌==◌, Result, Ok, Err, IfOk}
use Rattle.std.specs.declared.alloc.AllocError.{AllocError}
use Rattle.std.proofs.lemmas.Bool.{eqb-true, eqb-false}
use Rattle.std.proofs.lemmas.List.{length-set, map-set, get_or-map, length-map}
use Rattle.eden_disk.specs.Calls.{one_more}
use Rattle.passive_store.specs.Kept.{Layout}
use Rattle.passive_store.specs.Seen.{Seen, DiskSeen}
use Rattle.twin_world.specs.Commands.{Command, opens, puts, gets, deletes, closes, blanks, fails, stops, node_of, node_of_disk, IsNode}
use Rattle.twin_world.specs.Commands.{IsDisk, IsInReach}
use Rattle.twin_world.specs.Disks.{CanRise}
use Rattle.twin_world.specs.Causes.{IsTold}
use Rattle.twin_world.specs.Logs.{Entry, Texts, behind, Steps, is_of, known_behind}
use Rattle.twin_world.specs.Places.{Standing, Away, standing, IsSound, StandsFor, disks_at, AllRoseOnce, Turns, Acts, IsCaused}
use Rattle.twin_world.specs.View.{entry_by}
use Rattle.twin_world.specs.Worlds.{standing_at, IsWorld, CanGoOn, StepsAll, Moves, IsToldAt, TellsAll, IsCausedAt}
use Rattle.twin_world.specs.declared.answer.Done.{Done}
use Rattle.twin_world.specs.declared.place.Place.{Place}

-- 1. Nodes of commands

disk-node : (d : ℕ) → IsDisk d → IsNode (node_of_disk d)
disk-node d h = (omega (arith, h.0, h.1), omega (arith, h.0, h.1))

pub reach-node : (c : Command) → IsInReach c → IsNode (node_of c)
reach-node (opens n) h = h
reach-node (puts n serial text) h = h.0
reach-node (gets n serial) h = h.0
reach-node (deletes n serial) h = h.0
reach-node (closes n) h = h
reach-node (blanks d) h = disk-node d h
reach-node (fails d after) h = disk-node d h.0
reach-node (stops d after how) h = disk-node d h.0

same? : (m n : ℕ) → (m ≡ n) ⊎ (m ≢ n)
same? m n = go (m == n) refl
  where
    go : (b : Bool) → (m == n) ≡ b → (m ≡ n) ⊎ (m ≢ n)
    go true e = inl (eqb-true m n e)
    go false e = inr (λ h. absurd (eqb-false m n e h))

pub is-equal : (m n : ℕ) → m ≡ n → (m == n) ≡ true
is-equal m n h = go (m == n) refl
  where
    go : (b : Bool) → (m == n) ≡ b → b ≡ true
    go true e = refl
    go false e = absurd (eqb-false m n e h)

pub not-equal : (m n : ℕ) → m ≢ n → (m == n) ≡ false
not-equal m n d = go (m == n) refl
  where
    go : (b : Bool) → (m == n) ≡ b → b ≡ false
    go true e = absurd (d (eqb-true m n e))
    go false e = refl

-- 2. Counts of faults

rise-one : (old new k : ℕ) → (new ≡ old) ⊎ (new ≡ one_more old) → old + suc k < 2 ^ 64 - 1 → new + k < 2 ^ 64 - 1
rise-one old new k (inl e) h = omega (arith, e, h)
rise-one old new k (inr e) h = omega (arith, e, h)

rise-all : (k : ℕ) (old new : List DiskSeen) → AllRoseOnce old new → CanRise (suc k) old → CanRise k new
rise-all k [] [] r h = tt
rise-all k [] (e ∷ es) r h = absurd r
rise-all k (d ∷ ds) [] r h = absurd r
rise-all k (d ∷ ds) (e ∷ es) r h = (rise-one d.counts.faults e.counts.faults k r.0 h.0, rise-all k ds es r.1 h.1)

pub rise-less : (k : ℕ) (ds : List DiskSeen) → CanRise (suc k) ds → CanRise k ds
rise-less k [] h = tt
rise-less k (d ∷ ds) h = (omega (arith, h.0), rise-less k ds h.1)

pub rise-none : (k : ℕ) (ds : List DiskSeen) → CanRise k ds → CanRise 0 ds
rise-none k [] h = tt
rise-none k (d ∷ ds) h = (omega (arith, h.0), rise-none k ds h.1)

-- 3. Places

at-own : (ss : List Standing) (n : ℕ) (s : Standing) → length ss ≡ 4 → IsNode n → standing_at (slice_set ss (n - 1) s) n ≡ s
at-own ss n s four is = let within : n - 1 < length ss = omega (arith, four, is.0, is.1) in get_or-set_same ss (n - 1) s Away within

at-other : (ss : List Standing) (n m : ℕ) (s : Standing) → IsNode n → IsNode m → m ≢ n
    → standing_at (slice_set ss (n - 1) s) m ≡ standing_at ss m
at-other ss n m s is on d = let apart : m - 1 ≢ n - 1 = λ e. d (omega (arith, e, is.0, on.0)) in get_or-set_other ss (n - 1) (m - 1) s
    Away apart

module _ (ss : List Standing) (n : ℕ) (s : Standing) (is : IsNode n) (four : length ss ≡ 4) where
  abbrev behind_it : List Standing
  behind_it = slice_set ss (n - 1) s

  set-sound : ((m : ℕ) → IsNode m → IsSound m (standing_at ss m)) → IsSound n s → (m : ℕ) → IsNode m → IsSound m (standing_at behind_it m)
  set-sound h sound m on = go (same? m n)
    where
      go : (m ≡ n) ⊎ (m ≢ n) → IsSound m (standing_at behind_it m)
      go (inl e) = subst (λ k. IsSound k (standing_at behind_it k)) (sym e) (subst (IsSound n) (sym (at-own ss n s four is)) sound)
      go (inr d) = subst (IsSound m) (sym (at-other ss n m s is on d)) (h m on)

  set-rise : (k : ℕ) → CanGoOn (suc k) ss → CanRise k (disks_at s) → CanGoOn k behind_it
  set-rise k h can m on = go (same? m n)
    where
      go : (m ≡ n) ⊎ (m ≢ n) → CanRise k (disks_at (standing_at behind_it m))
      go (inl e) = subst (λ j. CanRise k (disks_at (standing_at behind_it j))) (sym e)
          (subst (λ z. CanRise k (disks_at z)) (sym (at-own ss n s four is)) can)
      go (inr d) = subst (λ z. CanRise k (disks_at z)) (sym (at-other ss n m s is on d))
          (rise-less k (disks_at (standing_at ss m)) (h m on))

  set-steps : (layout : Layout) (e : Entry) → node_of e.command ≡ n → Turns layout n e (standing_at ss n) s → StepsAll layout e ss behind_it
  set-steps layout e mine t m on p x h = go (same? m n)
    where
      go : (m ≡ n) ⊎ (m ≢ n)
          → (y : Texts) × Steps (is_of m e) e p x y × StandsFor layout m (known_behind (is_of m e) e p) y (standing_at behind_it m)
      go (inl q) =
          let r = t p x (subst (λ k. StandsFor layout k p x (standing_at ss k)) q h) in
          subst (λ b. (y : Texts) × Steps b e p x y × StandsFor layout m (known_behind b e p) y (standing_at behind_it m))
          (sym (is-equal (node_of e.command) m (mine ∙ sym q))) (
            r.0,
            r.1,
            subst (λ k. StandsFor layout k (behind e.command e.answer e p) r.0 (standing_at behind_it k)) (sym q)
                (subst (StandsFor layout n (behind e.command e.answer e p) r.0) (sym (at-own ss n s four is)) r.2),
          )
      go (inr d) =
          subst (λ b. (y : Texts) × Steps b e p x y × StandsFor layout m (known_behind b e p) y (standing_at behind_it m))
          (sym (not-equal (node_of e.command) m (λ q. d (sym q ∙ mine))))
          (x, (λ k. refl), subst (StandsFor layout m p x) (sym (at-other ss n m s is on d)) h)

  set-told : (e : Entry) → node_of e.command ≡ n → IsTold e (disks_at (standing_at ss n)) (disks_at s) → TellsAll e ss behind_it
  set-told e mine t m on = go (same? m n)
    where
      go : (m ≡ n) ⊎ (m ≢ n) → IsToldAt (is_of m e) e (disks_at (standing_at ss m)) (disks_at (standing_at behind_it m))
      go (inl q) =
          subst (λ b. IsToldAt b e (disks_at (standing_at ss m)) (disks_at (standing_at behind_it m)))
          (sym (is-equal (node_of e.command) m (mine ∙ sym q)))
          (subst (λ k. IsTold e (disks_at (standing_at ss k)) (disks_at (standing_at behind_it k))) (sym q)
          (subst (λ z. IsTold e (disks_at (standing_at ss n)) (disks_at z)) (sym (at-own ss n s four is)) t))
      go (inr d) =
          subst (λ b. IsToldAt b e (disks_at (standing_at ss m)) (disks_at (standing_at behind_it m)))
          (sym (not-equal (node_of e.command) m (λ q. d (sym q ∙ mine)))) (ap disks_at (at-other ss n m s is on d))

  pub moves : (tells : Bool) (layout : Layout) (c : Command) (r : Result Done AllocError) → node_of c ≡ n → IsWorld ss
      → Acts tells layout n c r (standing_at ss n) s → Moves tells layout c r ss behind_it
  moves tells layout c r mine world acts = record {
    world = record { places = length-set ss (n - 1) s ∙ four; sound = set-sound world.sound (acts.sound (world.sound n is)) };
    rise = λ k can. set-rise k can (rise-all k (disks_at (standing_at ss n)) (disks_at s) acts.rose (can n is));
    told = all-told r acts.told;
    caused = all-caused r acts.caused;
    steps = λ so l z can. all r (acts.turns so l z (can n is));
  }
    where
      all-told : (r : Result Done AllocError) → IfOk r (λ d. IsTold (entry_by c d) (disks_at (standing_at ss n)) (disks_at s))
          → IfOk r (λ d. TellsAll (entry_by c d) ss behind_it)
      all-told (Ok d) t = set-told (entry_by c d) mine t
      all-told (Err e) t = tt

      all-caused : (r : Result Done AllocError) → IfOk r (λ d. IsCaused tells layout (entry_by c d) (standing_at ss n))
          → IfOk r (λ d. IsCausedAt tells layout (entry_by c d) ss)
      all-caused (Ok d) h = subst (λ k. IsCaused tells layout (entry_by c d) (standing_at ss k)) (sym mine) h
      all-caused (Err e) h = tt

      all : (r : Result Done AllocError) → IfOk r (λ d. Turns layout n (entry_by c d) (standing_at ss n) s)
          → IfOk r (λ d. StepsAll layout (entry_by c d) ss behind_it)
      all (Ok d) t = set-steps layout (entry_by c d) mine t
      all (Err e) t = tt

-- 4. One place of the code

module _ {T D : Type 0} (seen : T → Seen) (look : D → DiskSeen) (places : List (Place T D)) (n i : ℕ) (d old new : Place T D)
    (at : i ≡ n - 1) (is : IsNode n) (four : length (map (standing seen look) places) ≡ 4) (same : old ≡ get_or places i d) where
  abbrev shown : List Standing
  shown = map (standing seen look) places

  place-old : standing_at shown n ≡ standing seen look old
  place-old =
      ap (λ k. get_or shown k Away) (sym at)
      ∙ get_or-map (standing seen look) places i d Away (omega (arith, at, is.0, is.1, four, length-map places (standing seen look)))
      ∙ ap (standing seen look) (sym same)

  place-new : map (standing seen look) (slice_set places i new) ≡ slice_set shown (n - 1) (standing seen look new)
  place-new = map-set (standing seen look) places i new ∙ ap (λ k. slice_set shown k (standing seen look new)) at

  pub place-sound : IsWorld shown → IsSound n (standing seen look old)
  place-sound h = subst (IsSound n) place-old (h.sound n is)

  pub place-moves : (tells : Bool) (layout : Layout) (c : Command) (r : Result Done AllocError) → node_of c ≡ n → IsWorld shown
      → Acts tells layout n c r (standing seen look old) (standing seen look new)
      → Moves tells layout c r shown (map (standing seen look) (slice_set places i new))
  place-moves tells layout c r mine world acts =
      subst (λ z. Moves tells layout c r shown z) (sym place-new)
      (moves shown n (standing seen look new) is four tells layout c r mine world
      (subst (λ z. Acts tells layout n c r z (standing seen look new)) (sym place-old) acts))
