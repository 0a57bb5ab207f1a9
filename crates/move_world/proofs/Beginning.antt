-- The world before its first command.
use Rattle.std.proofs.Common.{◌≡◌, ◌∙◌, ap, sym, refl, subst, ℕ, zero, suc, ◌-◌, ◌<◌, List, [], ◌∷◌, map, length, arith}
use Rattle.std.proofs.Common.{Bool, true, false, Some}
use Rattle.std.specs.List.{filter_map}
use Rattle.std.specs.Prelude.{replicate, slice_get, slice_index_or}
use Rattle.std.specs.Option.{option_map}
use Rattle.std.specs.FinMap as finite
use Rattle.std.proofs.lemmas.List.{length-map, length-replicate}
use Rattle.capability.specs.Uids.{uid_cmp}
use Rattle.eden_value.specs.Datum.{Datum}
use Rattle.passive_store.specs.Kept.{Layout, Idle}
use Rattle.passive_store.specs.Seen.{Seen, DiskSeen}
use Rattle.move_laws.specs.World.{Post}
use Rattle.eden_move.specs.declared.letter.Letter.{Letter}
use Rattle.eden_move.specs.Records.{record_in}
use Rattle.eden_move.specs.Shown.{key}
use Rattle.move_world.specs.Commands.{IsNode}
use Rattle.move_world.specs.Disks.{KeepsNothing, KeepNothing, disk_at, shown_in}
use Rattle.move_world.specs.InHand.{Rests}
use Rattle.move_world.specs.Kept.{slot, no_letters, post_from, posts_between}
use Rattle.move_world.specs.Logs.{blank_node, blank_world}
use Rattle.move_world.specs.Seats.{Standing, Resting, Away, standing, opened_as, IsSound, StandsFor}
use Rattle.move_world.specs.Asking.{Manned}
use Rattle.move_world.specs.Worlds.{standings, IsWorld, IsOf}
use Rattle.move_world.specs.Counted.{AreTheDisks}
use Rattle.move_world.specs.declared.seat.Seat.{Seat}
use Rattle.move_world.specs.declared.seat.Seat.TheVariants as seat

-- 1. Places

shut_stand : {T D : Type 0} (seen : T → Seen) (look : D → DiskSeen) (ds : List D)
    → standings seen look (map (λ d. seat.Shut d) ds) ≡ map Resting (map look ds)
shut_stand seen look [] = refl
shut_stand seen look (d ∷ ds) = ap (λ l. Resting (look d) ∷ l) (shut_stand seen look ds)

-- what stands at a place where disks rest
record Here (ds : List DiskSeen) (k : ℕ) : Type 0 where
  disk : DiskSeen
  there : slice_get ds k ≡ Some disk
  stands : slice_index_or (map Resting ds) k Away ≡ Resting disk

rest_at : (ds : List DiskSeen) (k : ℕ) → k < length ds → Here ds k
rest_at [] k h = absurd (omega (arith, h))
rest_at (d ∷ ds) zero h = record { disk = d; there = refl; stands = refl }
rest_at (d ∷ ds) (suc k) h = let r = rest_at ds k (omega (arith, h)) in record { disk = r.disk; there = r.there; stands = r.stands }

-- 2. Letters

none_at : (n k : ℕ) → slice_index_or (replicate {A = List Letter} n []) k [] ≡ []
none_at zero k = refl
none_at (suc n) zero = refl
none_at (suc n) (suc k) = none_at n k

none_between : (a b : ℕ) → posts_between no_letters a b ≡ []
none_between a b = ap (map (post_from a)) (none_at 64 (slot a b))

-- 3. Disks that keep nothing

rests : (layout : Layout) (n : ℕ) (d : DiskSeen) → KeepsNothing layout n d.told → Rests layout n d.told blank_node
rests layout n d h = record {
  down = refl;
  kept = h.kept;
  more = h.more;
  work = Idle;
  stands = h.stands;
  same = λ u wanders.
      sym (ap (option_map record_in) (ap (λ bodies. finite.get bodies (key n u)) h.none ∙ finite.get-empty uid_cmp (key n u)));
  doubt = tt;
}

-- 4. The world

module _ (ds : List DiskSeen) (eight : length ds ≡ 8) where
  here : (n : ℕ) → IsNode n → Here ds (n - 1)
  here n is = rest_at ds (n - 1) (omega (arith, eight, is.0, is.1))

  is_world : IsWorld (map Resting ds) no_letters
  is_world = record {
    seats = length-map ds Resting ∙ eight;
    letters = length-replicate {A = List Letter} 64 [];
    sound = λ n is. subst (IsSound n) (sym (here n is).stands) tt;
    wander = λ a b k p first second there.
        absurd (cc (sym (ap (λ (ps : List (Post Datum)). slice_get ps k) (none_between a b)) ∙ there));
  }

  is_blank : (layout : Layout) → KeepNothing layout ds → IsOf layout (map Resting ds) no_letters blank_world
  is_blank layout none = record {
    seats = λ n is.
        let at = here n is in
        subst (λ (s : Standing). StandsFor layout n s blank_node) (sym at.stands) (rests layout n at.disk (none n at.disk is at.there));
    letters = λ a b first second. none_between a b;
    fit = tt;
  }

module _ {T D : Type 0} (seen : T → Seen) (look : D → DiskSeen) (disks : List D) (seats : List (Seat T D)) (ls : List (List Letter))
    (eight : length disks ≡ 8) (same : seats ≡ map (λ d. seat.Shut d) disks) (letters : ls ≡ no_letters) where
  stand : standings seen look seats ≡ map Resting (map look disks)
  stand = ap (standings seen look) same ∙ shut_stand seen look disks

  many : length (map look disks) ≡ 8
  many = length-map disks look ∙ eight

  pub new_world : IsWorld (standings seen look seats) ls
  new_world =
      subst (λ (ss : List Standing). IsWorld ss ls) (sym stand)
      (subst (λ (l : List (List Letter)). IsWorld (map Resting (map look disks)) l) (sym letters) (is_world (map look disks) many))

  pub new_blank : (layout : Layout) → KeepNothing layout (map look disks) → IsOf layout (standings seen look seats) ls blank_world
  new_blank layout none =
      subst (λ (ss : List Standing). IsOf layout ss ls blank_world) (sym stand)
      (subst (λ (l : List (List Letter)). IsOf layout (map Resting (map look disks)) l blank_world) (sym letters)
      (is_blank (map look disks) many layout none))

  pub new_disks : AreTheDisks (map look disks) (standings seen look seats)
  new_disks = subst (AreTheDisks (map look disks)) (sym stand) (λ n is.
      let at = here (map look disks) many n is in at.there ∙ sym (ap disk_at at.stands))

-- 5. Disks are given back

module _ {T D : Type 0} (seen : T → Seen) (look : D → DiskSeen) where
  shown_count : (seats : List (Seat T D))
      → ((k : ℕ) → k < length seats → slice_index_or (standings seen look seats) k Away ≡ Away → ⊥)
      → length (filter_map (shown_in seen look) seats) ≡ length seats
  shown_count [] h = refl
  shown_count (seat.Opened n true ∷ seats) h = ap suc (shown_count seats (λ k small. h (suc k) (omega (arith, small))))
  shown_count (seat.Opened n false ∷ seats) h = ap suc (shown_count seats (λ k small. h (suc k) (omega (arith, small))))
  shown_count (seat.Shut d ∷ seats) h = ap suc (shown_count seats (λ k small. h (suc k) (omega (arith, small))))
  shown_count (seat.Moving ∷ seats) h = absurd (h 0 (omega arith) refl)

  pub none_away : (seats : List (Seat T D)) (ls : List (List Letter)) → IsWorld (standings seen look seats) ls → (k : ℕ) → k < length seats
      → slice_index_or (standings seen look seats) k Away ≡ Away → ⊥
  none_away seats ls h k small away =
      let eight : length seats ≡ 8 = sym (length-map seats (standing seen look)) ∙ h.seats in
      let place : (suc k) - 1 ≡ k = omega arith in
      subst (IsSound (suc k)) (ap (λ j. slice_index_or (standings seen look seats) j Away) place ∙ away)
      (h.sound (suc k) (omega arith, omega (arith, small, eight)))

  pub eight_given : (seats : List (Seat T D)) (ls : List (List Letter)) (disks : List D) → IsWorld (standings seen look seats) ls
      → map look disks ≡ filter_map (shown_in seen look) seats → length disks ≡ 8
  eight_given seats ls disks h is =
      sym (length-map disks look) ∙ ap length is ∙ shown_count seats (none_away seats ls h)
      ∙ sym (length-map seats (standing seen look)) ∙ h.seats

  shown_at : (seats : List (Seat T D))
      → ((k : ℕ) → k < length seats → slice_index_or (standings seen look seats) k Away ≡ Away → ⊥) → (k : ℕ)
      → slice_get (filter_map (shown_in seen look) seats) k ≡ disk_at (slice_index_or (standings seen look seats) k Away)
  shown_at [] h k = refl
  shown_at (seat.Opened n true ∷ seats) h zero = refl
  shown_at (seat.Opened n true ∷ seats) h (suc k) = shown_at seats (λ k small. h (suc k) (omega (arith, small))) k
  shown_at (seat.Opened n false ∷ seats) h zero = refl
  shown_at (seat.Opened n false ∷ seats) h (suc k) = shown_at seats (λ k small. h (suc k) (omega (arith, small))) k
  shown_at (seat.Shut d ∷ seats) h zero = refl
  shown_at (seat.Shut d ∷ seats) h (suc k) = shown_at seats (λ k small. h (suc k) (omega (arith, small))) k
  shown_at (seat.Moving ∷ seats) h k = absurd (h 0 (omega arith) refl)

  pub given_disks : (seats : List (Seat T D)) (ls : List (List Letter)) (disks : List D) → IsWorld (standings seen look seats) ls
      → map look disks ≡ filter_map (shown_in seen look) seats → AreTheDisks (map look disks) (standings seen look seats)
  given_disks seats ls disks h is n on = ap (λ l. slice_get l (n - 1)) is ∙ shown_at seats (none_away seats ls h) (n - 1)

  pub eight_seats : (seats : List (Seat T D)) (ls : List (List Letter)) → IsWorld (standings seen look seats) ls → length seats ≡ 8
  eight_seats seats ls h = sym (length-map seats (standing seen look)) ∙ h.seats

pub nothing_left : {X : Type 0} (l : List X) → length l ≡ 0 → l ≡ []
nothing_left [] h = refl
nothing_left (x ∷ xs) h = absurd (cc h)

pub shown_opened : (b : Bool) (m : Manned) → disk_at (opened_as b m) ≡ Some m.seen.disk
shown_opened true m = refl
shown_opened false m = refl
