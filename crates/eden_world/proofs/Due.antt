-- A key that is enabled in a world has its turn in hand.
use Rattle.std.proofs.Common.{◌≡◌, ◌≤◌, inl, inr, ℕ, Bool, true, false, List, [], ◌∷◌, ◌++◌, Option, None, Some, is_some, refl, sym}
use Rattle.std.proofs.Common.{◌∙◌, ap, subst, arith}
use Rattle.std.specs.Prelude.{IfSome, IsSomeAnd}
use Rattle.std.specs.List.{AllByRecursion, Contains, flat_map}
use Rattle.std.specs.Ordering.{nat_cmp}
use Rattle.std.specs.Cmp.{nat_cmp_total}
use Rattle.std.proofs.lemmas.List.Elements.{recursion_from_All}
use Rattle.eden_model.specs.Map.{first, with_item}
use Rattle.eden_model.specs.Traffic.{Call, asking_station, call_at, next_message, target_station, waiting_process}
use Rattle.eden_model.specs.declared.Asker.{Asker}
use Rattle.eden_model.specs.declared.Asker.TheVariants.{Shell, Eject as Process}
use Rattle.invocation.specs.Carries.{message_of}
use Rattle.invocation.specs.Numbers.{item_in}
use Rattle.invocation.specs.declared.call.Message.{Message}
use Rattle.invocation.proofs.CarriesLaws.{asked-call}
use Rattle.passive_store.specs.Kept.{Layout}
use Rattle.passive_store.specs.Seen.{Seen, DiskSeen}
use Rattle.journal.specs.declared.event.Key.{Key}
use Rattle.journal.specs.World.{World, Node, Site, node_at, site_of}
use Rattle.journal.specs.Enabled.{deliveries, delivery, enabled, following, item, node_keys, stations}
use Rattle.journal.specs.Sites.{IsAskedAt}
use Rattle.history_laws.proofs.EntryLists.{all-found}
use Rattle.ejects.specs.Hears.{hears, is_heard}
use Rattle.ejects.specs.View.{number_of}
use Rattle.eden_kernel.specs.Stands.{held}
use Rattle.runs.specs.Reached.{IsReached}
use Rattle.runs.proofs.Leading.{following-Contains, item-Contains}
use Rattle.scheduled_node.specs.Keys.{HasTurn as NodeHasTurn}
use Rattle.scheduled_node.specs.Scheduled.{manned}
use Rattle.scheduled_node.specs.declared.ScheduledNode.{ScheduledNode}
use Rattle.scheduled_node.proofs.AllOf.{append-all, both-all, flat-all, from-all, passed-all, weaker-all}
use Rattle.scheduled_node.proofs.HasTurns.{keys-have-turns}
use Rattle.eden_world.specs.Breaking.{name_by, waiter_at, waiter_by}
use Rattle.eden_world.specs.InHand.{place_at, seen_at, Stands}
use Rattle.eden_world.specs.Listed.{HasTurn, is_for_shell, shell_hears}
use Rattle.eden_world.specs.Seated.{station_at, station_in}
use Rattle.eden_world.specs.Worlds.{SeatStands, UpStands}
use Rattle.eden_world.specs.declared.World.{World as Program}
use Rattle.eden_world.specs.declared.seats.Seat.{Seat as Place}
use Rattle.eden_world.specs.declared.seats.Seat.TheVariants as place
use Rattle.eden_world.proofs.Arriving.{Arrives, arrives, first-there}
use Rattle.eden_world.proofs.NodeKeys.{number-of}
use Rattle.eden_world.proofs.EnabledKeys.{IsAt, node-keys}
use Rattle.eden_world.proofs.KeyLists.{down-no-keys, few-stations, is-off}

-- 1. The key that is chosen is one of the keys

pub followed-there : (last : Option Key) (keys : List Key) (o : Option Key) → o ≡ following last keys → IfSome o (λ k. Contains keys k)
followed-there last keys None is = tt
followed-there last keys (Some k) is = following-Contains last keys k (sym is)

pub item-there : (i : ℕ) (keys : List Key) (o : Option Key) → o ≡ item i keys → IfSome o (λ k. Contains keys k)
item-there i keys None is = tt
item-there i keys (Some k) is = item-Contains keys _ k (sym is)

-- 2. Stations

module _ {T D : Type 0} (tells : Bool) (layout : Layout) (seen : T → Seen) (look : D → DiskSeen) (p : Program T D) (more : ℕ) (w : World)
    (reached : IsReached w) (stands : Stands tells layout seen look p more w) where
  abbrev Has : Key → Type 0
  Has = HasTurn seen p

  few-of-world : AllByRecursion (λ n. n ≤ 8) (stations w)
  few-of-world = subst (λ ns. AllByRecursion (λ n. n ≤ 8) (0 ∷ ns)) (sym stands.world.numbers.are)
      (omega arith, few-stations 1 stands.world.numbers.count (omega (arith, stands.world.numbers.few)))

  no-node : (it : Node) → node_at w 0 ≡ Some it → ⊥
  no-node it at = let n = number-of w 0 it stands.world.numbers at in omega (arith, n.first)

  -- 3. The shell

  is-shell : (k : ℕ) (c : Call) → call_at w.traffic k ≡ Some c → asking_station c.asker ≡ 0 → is_some (name_by (waiter_by c.asker)) ≡ true
  is-shell k c at from = go c.asker from (reached.askers k c at)
    where
      go : (a : Asker) → asking_station a ≡ 0 → (IsAskedAt 0 a → ⊥) → is_some (name_by (waiter_by a)) ≡ true
      go (Shell name) from none = refl
      go (Process u q) from none = absurd (none from)

  named : (k : ℕ) (c : Call) → call_at w.traffic k ≡ Some c → is_some (name_by (waiter_by c.asker)) ≡ true
      → is_some (name_by (waiter_at p.calls k)) ≡ true
  named k c at has = let found = asked-call p.calls w.traffic stands.world.calls k c at in
      rw found.is (ap (λ a. is_some (name_by (waiter_by a))) (sym found.same.asker) ∙ has)

  for-shell : (k : ℕ) (x : Message) → Arrives w.traffic 0 k x → is_for_shell p.calls x ≡ true
  for-shell k x (inl r) = absurd (none (node_at w 0) refl (reached.sound.asked.at k r.call r.at r.place))
    where
      none : (o : Option Node) → node_at w 0 ≡ o → is_some (node_at w (target_station r.call)) ≡ true → ⊥
      none None at some = let bad : false ≡ true = sym (ap is_some (ap (node_at w) r.target ∙ at)) ∙ some in cc bad
      none (Some it) at some = no-node it at
  for-shell k x (inr r) = rw r.message (named k r.call r.at (is-shell k r.call r.at r.asker))

  shell-hears : (from : ℕ) → from ≤ 8 → is_some (next_message w.traffic from 0) ≡ true → Has (delivery 0 from)
  shell-hears from few some = record {
    shell = λ at. (few, go (next_message w.traffic from 0) refl some);
    node = λ one. absurd (omega (arith, one));
  }
    where
      go : (o : Option ℕ) → next_message w.traffic from 0 ≡ o → is_some o ≡ true → shell_hears from p.calls ≡ true
      go None at some = absurd (cc some)
      go (Some k) at some =
          ap (λ o. with_item o (is_for_shell p.calls) false)
          (first-there p.calls w.traffic from 0 k stands.world.calls few (omega arith) at)
          ∙ for-shell k (message_of w.traffic k) (arrives w.traffic from 0 k at)

  -- 4. A node that is up

  module _ (n : ℕ) (it : Node) (at : node_at w n ≡ Some it) where
    abbrev site : Site
    site = site_of w n it

    one : 1 ≤ n
    one = (number-of w n it stands.world.numbers at).first

    least : n ≤ 8
    least = (number-of w n it stands.world.numbers at).last

    module _ (s : ScheduledNode T D) (there : place_at p n ≡ Some (place.Up s))
        (up : UpStands layout p.types p.calls more site (held seen s.node)) where
      of-node : (k : Key) → k.station ≡ n → NodeHasTurn p.types (held seen s.node) p.calls k → Has k
      of-node k here has = record {
        shell = λ none. absurd (let zero : n ≡ 0 = sym here ∙ none in omega (arith, one, zero));
        node = λ some. subst (λ o. IsSomeAnd o (λ x. NodeHasTurn p.types (held seen x.node) p.calls k))
            (sym (ap (λ j. station_at p j) here ∙ ap station_in there)) has;
      }

      asked-by : (k : ℕ) (c : Call) → call_at w.traffic k ≡ Some c → asking_station c.asker ≡ n
          → is_some (with_item (item_in k p.calls.calls) (λ x. waiting_process x.asker) None) ≡ true
      asked-by k c found from =
          let x = asked-call p.calls w.traffic stands.world.calls k c found in
          rw x.is (ap (λ a. is_some (waiting_process a)) (sym x.same.asker) ∙ go c.asker from)
        where
          go : (a : Asker) → asking_station a ≡ n → is_some (waiting_process a) ≡ true
          go (Shell name) from = absurd (omega (arith, one, from))
          go (Process u q) from = refl

      heard : (k : ℕ) (x : Message) → Arrives w.traffic n k x → is_heard p.calls.calls x ≡ true
      heard k x (inl r) = rw r.message refl
      heard k x (inr r) = rw r.message (asked-by k r.call r.at r.asker)

      node-hears : (from : ℕ) → from ≤ 8 → is_some (next_message w.traffic from n) ≡ true → Has (delivery n from)
      node-hears from few some = of-node (delivery n from) refl (record {
        kind = (omega arith, omega arith);
        delivery = λ is. (few, go (next_message w.traffic from n) refl some);
        activation = λ is. absurd (let bad : 1 ≡ 2 = is in omega (arith, bad));
        start = λ is. absurd (let bad : 1 ≡ 3 = is in omega (arith, bad));
        process = λ is. absurd (let bad : 1 ≡ 4 = is in omega (arith, bad));
        store = λ is. absurd (let bad : 1 ≡ 5 = is in omega (arith, bad));
      })
        where
          number : n ≡ number_of s.node.ejects
          number = up.stands.calls.parts.number

          go : (o : Option ℕ) → next_message w.traffic from n ≡ o → is_some o ≡ true
              → hears from (number_of s.node.ejects) p.calls ≡ true
          go None found some = absurd (cc some)
          go (Some k) found some = subst (λ j. hears from j p.calls ≡ true) number
              (ap (λ o. with_item o (is_heard p.calls.calls) false)
              (first-there p.calls w.traffic from n k stands.world.calls few least found)
              ∙ heard k (message_of w.traffic k) (arrives w.traffic from n k found))

      up-has : AllByRecursion Has (deliveries w n ++ node_keys site)
      up-has = append-all Has (deliveries w n) (node_keys site)
          (passed-all Has (λ from. from ≤ 8) (λ from. is_some (next_message w.traffic from n)) (delivery n) (stations w) node-hears
          few-of-world)
          (weaker-all (λ k. IsAt n k × NodeHasTurn p.types (held seen s.node) p.calls k) Has (node_keys site)
          (λ k both. of-node k both.0.station both.1)
          (both-all (IsAt n) (NodeHasTurn p.types (held seen s.node) p.calls) (node_keys site)
          (node-keys site (reached.sites n it at))
          (keys-have-turns layout p.types (manned seen s) p.calls site (reached.sites n it at) (reached.own_uids n it at) up.number
          (record { node = up.stands; agenda = stands.agendas n s there }))))

    -- 5. A node that is down

    none-comes : it.up ≡ false → (from : ℕ) → from ≤ 8 → is_some (next_message w.traffic from n) ≡ true → Has (delivery n from)
    none-comes off from few some = absurd (let none : false ≡ true =
        sym (ap (λ ks. is_some (first ks)) ((reached.rest n it at off).no_message from).0) ∙ some in cc none)

    down-has : it.up ≡ false → node_keys site ≡ [] → AllByRecursion Has (deliveries w n ++ node_keys site)
    down-has off none = append-all Has (deliveries w n) (node_keys site)
        (passed-all Has (λ from. from ≤ 8) (λ from. is_some (next_message w.traffic from n)) (delivery n) (stations w) (none-comes off)
        few-of-world) (subst (AllByRecursion Has) (sym none) tt)

    node-has : AllByRecursion Has (deliveries w n ++ node_keys site)
    node-has = go (place_at p n) refl (stands.world.nodes n it at)
      where
        go : (o : Option (Place T D)) → place_at p n ≡ o
            → IsSomeAnd (seen_at seen look o) (SeatStands layout p.types p.calls more site)
            → AllByRecursion Has (deliveries w n ++ node_keys site)
        go None there none = absurd none
        go (Some place.Moving) there none = absurd none
        go (Some (place.Up s)) there up = up-has s there up
        go (Some (place.Down d noted)) there down = down-has (is-off layout more site noted (look d) down)
            (down-no-keys layout more site noted (look d) down (reached.sites n it at).node)

  -- 6. All of them

  all-have : AllByRecursion Has (enabled w)
  all-have = append-all Has (deliveries w 0) (flat_map (λ e. deliveries w e.0 ++ node_keys (site_of w e.0 e.1)) w.nodes)
      (passed-all Has (λ from. from ≤ 8) (λ from. is_some (next_message w.traffic from 0)) (delivery 0) (stations w) shell-hears
      few-of-world)
      (flat-all Has (λ (e : ℕ × Node). node_at w e.0 ≡ Some e.1) (λ e. deliveries w e.0 ++ node_keys (site_of w e.0 e.1)) w.nodes
      (λ e at. node-has e.0 e.1 at)
      (recursion_from_All (λ (e : ℕ × Node). node_at w e.0 ≡ Some e.1) w.nodes
      (all-found nat_cmp nat_cmp_total w.nodes reached.sound.place.ordered)))

pub due-there : {T D : Type 0} (tells : Bool) (layout : Layout) (seen : T → Seen) (look : D → DiskSeen) (p : Program T D) (more : ℕ)
    (w : World) → IsReached w → Stands tells layout seen look p more w → (key : Key) → Contains (enabled w) key → HasTurn seen p key
due-there tells layout seen look p more w reached stands key there =
    from-all (HasTurn seen p) (enabled w) key there (all-have tells layout seen look p more w reached stands)
