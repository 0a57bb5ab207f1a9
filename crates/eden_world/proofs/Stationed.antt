-- The keys of a station of a world for which a program stands.
use Rattle.std.proofs.Common.{◌≡◌, ◌==◌, ◌&&◌, ◌||◌, ℕ, zero, suc, ◌≤◌, ◌<◌, Bool, true, false, List, [], ◌∷◌, ◌++◌, length, Option, None, Some, is_some}
use Rattle.std.proofs.Common.{refl, sym, ◌∙◌, ap, subst, arith}
use Rattle.std.specs.Prelude.{IsSomeAnd, slice_get}
use Rattle.std.specs.List.{flat_map}
use Rattle.eden_model.specs.Map.{with_item}
use Rattle.locator.specs.Reach.{joined_at, node_up_at, reaches}
use Rattle.passive_store.specs.Kept.{Layout}
use Rattle.passive_store.specs.Seen.{Seen, DiskSeen}
use Rattle.journal.specs.World.{World, Node, Site, node_at, site_of}
use Rattle.journal.specs.Enabled.{enabled, node_keys}
use Rattle.journal.specs.Sites.{IsSoundSite}
use Rattle.eden_kernel.specs.Stands.{held}
use Rattle.scheduled_node.specs.declared.ScheduledNode.{ScheduledNode}
use Rattle.scheduled_node.specs.Scheduled.{manned, ScheduledStands}
use Rattle.runs.specs.Reached.{IsReached}
use Rattle.eden_world.specs.Worlds.{up, down, SeatStands, WorldStands, numbers_from}
use Rattle.eden_world.specs.InHand.{place_at, seen_at, in_hand, Stands}
use Rattle.eden_world.specs.Seated.{FitsTogether, station_in, station_at}
use Rattle.eden_world.specs.Listed.{mail_keys, node_keys_at, keys_at, station_count}
use Rattle.eden_world.specs.declared.seats.Seat.{Seat as Place}
use Rattle.eden_world.specs.declared.seats.Seat.TheVariants as place
use Rattle.eden_world.specs.declared.World.{World as Program}
use Rattle.eden_world.proofs.NodeKeys.{number-of, node-there, node-within}
use Rattle.eden_world.proofs.InWorld.{IsThere, is-there, sits-there, seat-stands}
use Rattle.eden_world.proofs.KeyLists.{deliveries-are, enabled-are, down-no-keys, is-off}

-- 1. Places

pub station-up : {T D : Type 0} (o : Option (Place T D)) (s : ScheduledNode T D) → station_in o ≡ Some s → o ≡ Some (place.Up s)
station-up None s is = absurd (cc is)
station-up (Some (place.Up t)) s is = let same : t ≡ s = cc is in ap (λ x. Some (place.Up x)) same
station-up (Some (place.Down d doubt)) s is = absurd (cc is)
station-up (Some place.Moving) s is = absurd (cc is)

-- 2. A node that is up

-- its site has these keys, and it stands for that
pub record IsStationed {T D : Type 0} (layout : Layout) (seen : T → Seen) (p : Program T D) (w : World) (n : ℕ) (s : ScheduledNode T D) :
    Type 0
  where
    pub site : Site
    pub keys : node_keys_at w n ≡ node_keys site
    pub sound : IsSoundSite site
    pub stands : ScheduledStands layout p.types (manned seen s) p.calls site

pub is-stationed : {T D : Type 0} (tells : Bool) (layout : Layout) (seen : T → Seen) (look : D → DiskSeen) (p : Program T D) (more : ℕ)
    (w : World) (n : ℕ) (s : ScheduledNode T D) → IsReached w → Stands tells layout seen look p more w → n ≤ 8 → station_at p n ≡ Some s
    → IsStationed layout seen p w n s
is-stationed tells layout seen look p more w zero s reached stands few is = absurd (cc is)
is-stationed {T = T} {D = D} tells layout seen look p more w (suc n) s reached stands few is =
    on (sits-there layout more (in_hand seen look p) w (suc n) (up (held seen s.node)) stands.world (ap (seen_at seen look) there))
  where
    there : place_at p (suc n) ≡ Some (place.Up s)
    there = station-up (place_at p (suc n)) s is

    on : IsThere layout more (in_hand seen look p) w (suc n) → IsStationed layout seen p w (suc n) s
    on t =
        let node = seat-stands layout more (in_hand seen look p) w (suc n) (up (held seen s.node)) t (ap (seen_at seen look) there) in
        record {
          site = site_of w (suc n) t.it;
          keys = ap (λ o. with_item o (λ it. node_keys (site_of w (suc n) it)) []) t.at;
          sound = reached.sites (suc n) t.it t.at;
          stands = record { node = node.stands; agenda = stands.agendas (suc n) s there };
        }

-- a node that is reached is up at its place
pub reached-up : {T D : Type 0} (tells : Bool) (layout : Layout) (seen : T → Seen) (look : D → DiskSeen) (p : Program T D) (more : ℕ)
    (w : World) (n : ℕ) → Stands tells layout seen look p more w → reaches p.places 0 n ≡ true → is_some (station_at p n) ≡ true
reached-up {T = T} {D = D} tells layout seen look p more w n stands there = on (node_at w n) refl
    (sym (stands.world.ups n) ∙ first-true (node_up_at p.places n) ((0 == n) || joined_at p.places 0 n) there)
  where
    first-true : (a b : Bool) → (a && b) ≡ true → a ≡ true
    first-true true b is = refl
    first-true false b is = is

    at-place : (it : Node) → it.up ≡ true → (o : Option (Place T D)) → place_at p n ≡ o
        → IsSomeAnd (seen_at seen look o) (SeatStands layout p.types p.calls more (site_of w n it)) → is_some (station_in o) ≡ true
    at-place it powered None at none = absurd none
    at-place it powered (Some (place.Up s)) at sits = refl
    at-place it powered (Some (place.Down d doubt)) at sits =
        absurd (let bad : false ≡ true = sym (is-off layout more (site_of w n it) doubt (look d) sits) ∙ powered in cc bad)
    at-place it powered (Some place.Moving) at none = absurd none

    on : (o : Option Node) → node_at w n ≡ o → with_item o (λ it. it.up) false ≡ true → is_some (station_at p n) ≡ true
    on None at powered = absurd (cc powered)
    on (Some it) at powered = at-place it powered (place_at p n) refl (stands.world.nodes n it at)

-- 3. A place with no such node

pub no-station-keys : {T D : Type 0} (tells : Bool) (layout : Layout) (seen : T → Seen) (look : D → DiskSeen) (p : Program T D) (more : ℕ)
    (w : World) (n : ℕ) → IsReached w → Stands tells layout seen look p more w → n ≤ 8 → station_at p n ≡ None → node_keys_at w n ≡ []
no-station-keys tells layout seen look p more w zero reached stands few is = go (node_at w 0) refl
  where
    go : (o : Option Node) → node_at w 0 ≡ o → node_keys_at w 0 ≡ []
    go None at = ap (λ o. with_item o (λ it. node_keys (site_of w 0 it)) []) at
    go (Some it) at = absurd (let n = number-of w 0 it stands.world.numbers at in omega (arith, n.first))
no-station-keys {T = T} {D = D} tells layout seen look p more w (suc n) reached stands few is =
    by-node (node_at w (suc n)) refl
  where
    empty : (t : IsThere layout more (in_hand seen look p) w (suc n)) → (o : Option (Place T D)) → place_at p (suc n) ≡ o
        → station_in o ≡ None → seen_at seen look o ≡ Some t.seat → node_keys (site_of w (suc n) t.it) ≡ []
    empty t None at none sits = absurd (cc sits)
    empty t (Some (place.Up s)) at none sits = absurd (cc none)
    empty t (Some (place.Down d doubt)) at none sits =
        let same : t.seat ≡ down doubt (look d) = cc sits in
        down-no-keys layout more (site_of w (suc n) t.it) doubt (look d)
        (subst (SeatStands layout p.types p.calls more (site_of w (suc n) t.it)) same t.stands) (reached.sound.nodes (suc n) t.it t.at)
    empty t (Some place.Moving) at none sits = absurd (cc sits)

    on : IsThere layout more (in_hand seen look p) w (suc n) → node_keys_at w (suc n) ≡ []
    on t = ap (λ o. with_item o (λ it. node_keys (site_of w (suc n) it)) []) t.at
        ∙ empty t (place_at p (suc n)) refl is t.sits

    by-node : (o : Option Node) → node_at w (suc n) ≡ o → node_keys_at w (suc n) ≡ []
    by-node None at = ap (λ o. with_item o (λ it. node_keys (site_of w (suc n) it)) []) at
    by-node (Some it) at = on (is-there layout more (in_hand seen look p) w (suc n) it stands.world at)

-- 4. There are as many places as nodes

pub item-past : {X : Type 0} (xs : List X) (k : ℕ) → length xs ≤ k → slice_get xs k ≡ None
item-past [] k past = refl
item-past (x ∷ xs) zero past = absurd (omega (arith, past))
item-past (x ∷ xs) (suc k) past = item-past xs k (omega (arith, past))

pub item-there : {X : Type 0} (xs : List X) (k : ℕ) → k < length xs → is_some (slice_get xs k) ≡ true
item-there [] k within = absurd (omega (arith, within))
item-there (x ∷ xs) zero within = refl
item-there (x ∷ xs) (suc k) within = item-there xs k (omega (arith, within))

-- where nothing moves, what stands at a place is seen
seen-there : {T D : Type 0} (seen : T → Seen) (look : D → DiskSeen) (o : Option (Place T D)) → is_some o ≡ true
    → (o ≡ Some place.Moving → ⊥) → seen_at seen look o ≡ None → ⊥
seen-there seen look None there still none = let bad : false ≡ true = there in cc bad
seen-there seen look (Some (place.Up s)) there still none = cc none
seen-there seen look (Some (place.Down d doubt)) there still none = cc none
seen-there seen look (Some place.Moving) there still none = still refl

pub places-count : {T D : Type 0} (layout : Layout) (seen : T → Seen) (look : D → DiskSeen) (p : Program T D) (more : ℕ) (w : World)
    → FitsTogether seen p → (stands : WorldStands layout more (in_hand seen look p) w) → station_count p ≡ suc stands.numbers.count
places-count {T = T} {D = D} layout seen look p more w fits stands = omega (arith, no_more_places, no_more_nodes)
  where
    count : ℕ
    count = stands.numbers.count

    -- no place past the last node
    no_more_places : count < length p.seats.items → ⊥
    no_more_places many = go (node_at w (suc count)) refl
      where
        go : (o : Option Node) → node_at w (suc count) ≡ o → ⊥
        go None none = seen-there seen look (place_at p (suc count)) (item-there p.seats.items count many) (fits.seated (suc count))
            (stands.no_more (suc count) none)
        go (Some it) at = let within : suc count ≤ count = node-within w (suc count) it stands.numbers at in omega (arith, within)

    -- and no node past the last place
    no_more_nodes : length p.seats.items < count → ⊥
    no_more_nodes few = go (node_at w (suc (length p.seats.items))) refl
        (node-there w (suc (length p.seats.items)) stands.numbers (omega arith) few)
      where
        go : (o : Option Node) → node_at w (suc (length p.seats.items)) ≡ o → is_some (node_at w (suc (length p.seats.items))) ≡ true → ⊥
        go None none some = let bad : false ≡ true = sym (ap is_some none) ∙ some in cc bad
        go (Some it) at some = subst (λ o. IsSomeAnd (seen_at seen look o)
            (SeatStands layout p.types p.calls more (site_of w (suc (length p.seats.items)) it)))
            (item-past p.seats.items (length p.seats.items) (omega arith)) (stands.nodes (suc (length p.seats.items)) it at)

-- 5. A station

pub keys-there : {T D : Type 0} (tells : Bool) (layout : Layout) (seen : T → Seen) (look : D → DiskSeen) (p : Program T D) (more : ℕ)
    (w : World) (n : ℕ) → FitsTogether seen p → Stands tells layout seen look p more w → n ≤ 8
    → keys_at w n ≡ mail_keys (station_count p) p.calls n ++ node_keys_at w n
keys-there tells layout seen look p more w n fits stands few =
    ap (λ ks. ks ++ node_keys_at w n) (deliveries-are layout more (in_hand seen look p) w n (station_count p) stands.world few
    (places-count layout seen look p more w fits stands.world))

pub keys-first : {T D : Type 0} (tells : Bool) (layout : Layout) (seen : T → Seen) (look : D → DiskSeen) (p : Program T D) (more : ℕ)
    (w : World) → FitsTogether seen p → IsReached w → Stands tells layout seen look p more w
    → flat_map (keys_at w) (numbers_from 0 (station_count p)) ≡ enabled w
keys-first tells layout seen look p more w fits reached stands =
    sym (enabled-are layout more (in_hand seen look p) w (station_count p) stands.world reached
    (places-count layout seen look p more w fits stands.world))
