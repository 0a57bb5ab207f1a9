-- An enabled key is one of the node of its station.
use Rattle.std.proofs.Common.{◌≡◌, ◌≢◌, inl, inr, ℕ, ◌≤◌, Bool, true, false, cond, List, [], ◌∷◌, ◌++◌, map}
use Rattle.std.proofs.Common.{Option, None, Some, is_some, refl, sym, ◌∙◌, ap, subst, arith}
use Rattle.std.specs.List.{AllByRecursion, Contains, filter, flat_map}
use Rattle.std.specs.Ordering.{nat_cmp}
use Rattle.std.specs.Cmp.{nat_cmp_total}
use Rattle.std.proofs.lemmas.List.Elements.{recursion_from_All}
use Rattle.capability.specs.declared.Uid.{Uid}
use Rattle.capability.proofs.Uids.{uid_cmp_total}
use Rattle.eden_model.specs.Map.{with_item, first, uid_cmp, value_at}
use Rattle.eden_model.specs.Traffic.{next_message}
use Rattle.journal.specs.declared.event.Key.{Key}
use Rattle.journal.specs.World.{World, Node, Site, Eject, Active, node_at, site_of}
use Rattle.journal.specs.Enabled.{delivery, deliveries, enabled, is_to_activate, is_startable, activity, ready, is_ready, no_uid, node_keys}
use Rattle.journal.specs.Enabled.{activations, starts, processes, store_of, stations}
use Rattle.journal.specs.Sites.{IsSoundSite}
use Rattle.history_laws.proofs.EntryLists.{all-found}
use Rattle.runs.specs.Reached.{IsReached}
use Rattle.scheduled_node.specs.Keys.{IsKeyOf}
use Rattle.scheduled_node.proofs.AllOf.{append-all, flat-all, from-all, image-all}
use Rattle.eden_world.specs.Worlds.{AreNumbers}
use Rattle.eden_world.proofs.NodeKeys.{number-of}

-- 1. The keys of a node

pub record IsAt (n : ℕ) (k : Key) : Type 0 where
  pub station : k.station ≡ n
  pub key : IsKeyOf n k

eject-at : (n kind p : ℕ) (u : Uid) → 2 ≤ kind → kind ≤ 4 → u.node ≡ n → (kind ≢ 4 → p ≡ 0) → IsAt n (activity n kind u p)
eject-at n kind p u low high of_node none = record {
  station = refl;
  key = inr (inr (record { kind = (low, high); of_node = of_node; key = refl; process = none }));
}

one-if : (n : ℕ) (b : Bool) (k : Key) → IsAt n k → AllByRecursion (IsAt n) (cond b (k ∷ []) [])
one-if n true k h = (h, tt)
one-if n false k h = tt

module _ (s : Site) (sound : IsSoundSite s) where
  abbrev Found : Uid × Eject → Type 0
  Found e = value_at uid_cmp e.0 s.node.ejects ≡ Some e.1

  each-found : AllByRecursion Found s.node.ejects
  each-found = recursion_from_All Found s.node.ejects (all-found uid_cmp uid_cmp_total s.node.ejects sound.node.in_order)

  of-node : (e : Uid × Eject) → Found e → e.0.node ≡ s.number
  of-node e found = sound.node.of_node e.0 (ap (λ (o : Option Eject). is_some o) found)

  waking : (e : Uid × Eject) → Found e
      → AllByRecursion (IsAt s.number) (cond (is_to_activate s e.0 e.1) (activity s.number 2 e.0 0 ∷ []) [])
  waking e found = one-if s.number (is_to_activate s e.0 e.1) (activity s.number 2 e.0 0)
      (eject-at s.number 2 0 e.0 (omega arith) (omega arith) (of-node e found) (λ other. refl))

  starting : (e : Uid × Eject) → Found e
      → AllByRecursion (IsAt s.number) (cond (is_startable s.traffic e.1) (activity s.number 3 e.0 0 ∷ []) [])
  starting e found = one-if s.number (is_startable s.traffic e.1) (activity s.number 3 e.0 0)
      (eject-at s.number 3 0 e.0 (omega arith) (omega arith) (of-node e found) (λ other. refl))

  running : (e : Uid × Eject) → Found e → AllByRecursion (IsAt s.number) (with_item e.1.active (ready e.0) [])
  running e found = go e.1.active
    where
      at : (p : ℕ) → IsAt s.number (activity e.0.node 4 e.0 p)
      at p = subst (λ m. IsAt s.number (activity m 4 e.0 p)) (sym (of-node e found))
          (eject-at s.number 4 p e.0 (omega arith) (omega arith) (of-node e found) (λ other. absurd (other refl)))

      go : (o : Option Active) → AllByRecursion (IsAt s.number) (with_item o (ready e.0) [])
      go None = tt
      go (Some it) = image-all (IsAt s.number) (λ q. activity e.0.node 4 e.0 q.0)
          (filter (λ q. is_ready q.1.waits) it.crew.processes) (λ q. at q.0)

  storing : AllByRecursion (IsAt s.number) (store_of s)
  storing = one-if s.number (is_some (first s.node.requests)) (activity s.number 5 no_uid 0)
      (record { station = refl; key = inr (inl refl) })

  pub node-keys : AllByRecursion (IsAt s.number) (node_keys s)
  node-keys = append-all (IsAt s.number) (activations s ++ starts s ++ processes s) (store_of s)
      (append-all (IsAt s.number) (activations s ++ starts s) (processes s)
      (append-all (IsAt s.number) (activations s) (starts s)
      (flat-all (IsAt s.number) Found (λ e. cond (is_to_activate s e.0 e.1) (activity s.number 2 e.0 0 ∷ []) []) s.node.ejects waking
      each-found)
      (flat-all (IsAt s.number) Found (λ e. cond (is_startable s.traffic e.1) (activity s.number 3 e.0 0 ∷ []) []) s.node.ejects starting
      each-found))
      (flat-all (IsAt s.number) Found (λ (e : Uid × Eject). with_item e.1.active (ready e.0) []) s.node.ejects running each-found)) storing

-- 2. Of a world

module _ (w : World) (reached : IsReached w) (n : ℕ) where
  abbrev Fits : Key → Type 0
  Fits k = k.station ≡ n → IsKeyOf n k

  fits-at : (m : ℕ) (ks : List Key) → AllByRecursion (IsAt m) ks → AllByRecursion Fits ks
  fits-at m [] all = tt
  fits-at m (k ∷ ks) all = ((λ at. subst (λ j. IsKeyOf j k) (sym all.0.station ∙ at) all.0.key), fits-at m ks all.1)

  pub deliveries-at : (m : ℕ) → AllByRecursion (IsAt m) (deliveries w m)
  deliveries-at m = image-all (IsAt m) (delivery m) (filter (λ from. is_some (next_message w.traffic from m)) (stations w))
      (λ from. record { station = refl; key = inl refl })

  abbrev There : ℕ × Node → Type 0
  There e = node_at w e.0 ≡ Some e.1

  at-node : (e : ℕ × Node) → There e → AllByRecursion Fits (deliveries w e.0 ++ node_keys (site_of w e.0 e.1))
  at-node e there = append-all Fits (deliveries w e.0) (node_keys (site_of w e.0 e.1)) (fits-at e.0 _ (deliveries-at e.0))
      (fits-at e.0 _ (node-keys (site_of w e.0 e.1) (reached.sites e.0 e.1 there)))

  pub key-of-enabled : (key : Key) → Contains (enabled w) key → key.station ≡ n → IsKeyOf n key
  key-of-enabled key there = from-all Fits (enabled w) key there (append-all Fits (deliveries w 0)
      (flat_map (λ e. deliveries w e.0 ++ node_keys (site_of w e.0 e.1)) w.nodes) (fits-at 0 _ (deliveries-at 0))
      (flat-all Fits There (λ e. deliveries w e.0 ++ node_keys (site_of w e.0 e.1)) w.nodes at-node
      (recursion_from_All There w.nodes (all-found nat_cmp nat_cmp_total w.nodes reached.sound.place.ordered))))

-- 3. Of the shell

-- a key of the shell is that of a delivery there
module _ (w : World) (reached : IsReached w) (numbers : AreNumbers (map (λ e. e.0) w.nodes)) where
  abbrev OfShell : Key → Type 0
  OfShell k = k.station ≡ 0 → k ≡ delivery 0 k.sender

  elsewhere : (m : ℕ) → 1 ≤ m → (ks : List Key) → AllByRecursion (IsAt m) ks → AllByRecursion OfShell ks
  elsewhere m some [] all = tt
  elsewhere m some (k ∷ ks) all = (
    (λ at. absurd (let none : m ≡ 0 = sym all.0.station ∙ at in omega (arith, some, none))),
    elsewhere m some ks all.1,
  )

  shell-apart : (e : ℕ × Node) → node_at w e.0 ≡ Some e.1 → AllByRecursion OfShell (deliveries w e.0 ++ node_keys (site_of w e.0 e.1))
  shell-apart e there = elsewhere e.0 (number-of w e.0 e.1 numbers there).first _
      (append-all (IsAt e.0) (deliveries w e.0) (node_keys (site_of w e.0 e.1)) (deliveries-at w reached e.0 e.0)
      (node-keys (site_of w e.0 e.1) (reached.sites e.0 e.1 there)))

  pub shell-key : (key : Key) → Contains (enabled w) key → key.station ≡ 0 → key ≡ delivery 0 key.sender
  shell-key key there = from-all OfShell (enabled w) key there (append-all OfShell (deliveries w 0)
      (flat_map (λ e. deliveries w e.0 ++ node_keys (site_of w e.0 e.1)) w.nodes)
      (image-all OfShell (delivery 0) (filter (λ from. is_some (next_message w.traffic from 0)) (stations w)) (λ from at. refl))
      (flat-all OfShell (λ (e : ℕ × Node). node_at w e.0 ≡ Some e.1) (λ e. deliveries w e.0 ++ node_keys (site_of w e.0 e.1)) w.nodes
      shell-apart
      (recursion_from_All (λ (e : ℕ × Node). node_at w e.0 ≡ Some e.1) w.nodes
      (all-found nat_cmp nat_cmp_total w.nodes reached.sound.place.ordered))))
