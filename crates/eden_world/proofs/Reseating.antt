-- One node of a world is another one, and so is the seat at its place: what is in hand stands for the new world.
use Rattle.std.proofs.Common.{◌≡◌, ◌==◌, ◌≤◌, ℕ, Bool, true, false, cond, not, List, map, Option, None, Some, refl, sym, ◌∙◌, ap}
use Rattle.std.proofs.Common.{subst}
use Rattle.std.specs.Prelude.{IsSomeAnd}
use Rattle.std.specs.List.{list_any, find}
use Rattle.std.specs.Option.{option_map}
use Rattle.std.specs.Ordering.{nat_cmp}
use Rattle.std.proofs.lemmas.Bool.{eqb-true}
use Rattle.std.specs.Cmp.{nat_cmp_total}
use Rattle.std.specs.FinMap.{nat_cmp-IsAntisymmetric}
use Rattle.eden_model.specs.Map.{with_item, value_at, changed_at, same_text}
use Rattle.eden_model.proofs.Laws.{value-changed_same, value-changed_other}
use Rattle.invocation.specs.Carries.{Carries}
use Rattle.locator.specs.Reach.{node_up_at, joined_at}
use Rattle.passive_store.specs.Kept.{Layout}
use Rattle.epl_syntax.specs.Meaning.{types_in}
use Rattle.journal.specs.declared.event.Key.{Key}
use Rattle.journal.specs.World.{World, Meaning, Site, Node, node_at, site_of, at_node, is_up, joins}
use Rattle.journal.specs.Step.{clocked}
use Rattle.history_laws.proofs.Frame.{after_at, node-at_same, node-at_other, other-node}
use Rattle.ejects.proofs.KeptClasses.{Keeps}
use Rattle.eden_world.specs.Worlds.{AreNumbers, Seat, InHand, WorldStands, SeatStands}
use Rattle.eden_world.specs.Told.{Reseats, marked}
use Rattle.eden_world.proofs.Alike.{seat-alike}
use Rattle.eden_world.proofs.NodeKeys.{keys-at_node, keys-marked, numbers-at_node, same-numbers}

-- 1. Worlds

-- node n is another one; the others stay, and so do types, layout, links and names
pub record Renodes (n : ℕ) (it : Node) (w later : World) : Type 0 where
  pub types : later.types ≡ w.types
  pub layout : later.layout ≡ w.layout
  pub cuts : later.cuts ≡ w.cuts
  pub names : later.names ≡ w.names
  pub numbers : map (λ e. e.0) later.nodes ≡ map (λ e. e.0) w.nodes
  pub here : node_at later n ≡ Some it
  pub others : (m : ℕ) → (m == n) ≡ false → node_at later m ≡ node_at w m

-- all that a change of one node leaves
pub record KeepsRest (w later : World) : Type 0 where
  pub types : later.types ≡ w.types
  pub layout : later.layout ≡ w.layout
  pub cuts : later.cuts ≡ w.cuts
  pub names : later.names ≡ w.names

pub rest-at_node : (n : ℕ) (f : Site → Site) (w : World) → KeepsRest w (at_node n f w)
unfolding at_node
rest-at_node n f w = go (node_at w n) refl
  where
    go : (o : Option Node) → node_at w n ≡ o → KeepsRest w (at_node n f w)
    go None is = rw is (record { types = refl; layout = refl; cuts = refl; names = refl })
    go (Some it) is = rw is (record { types = refl; layout = refl; cuts = refl; names = refl })

pub rest-marked : (key : Option Key) (n c : ℕ) (w : World) → KeepsRest w (marked key n c w)
rest-marked None n c w = record { types = refl; layout = refl; cuts = refl; names = refl }
rest-marked (Some k) n c w = record { types = refl; layout = refl; cuts = refl; names = refl }

pub traffic-marked : (key : Option Key) (n c : ℕ) (w : World) → (marked key n c w).traffic ≡ w.traffic
traffic-marked None n c w = refl
traffic-marked (Some k) n c w = refl

pub traffic-at_node : (n : ℕ) (f : Site → Site) (w : World) (it : Node) → node_at w n ≡ Some it
    → (at_node n f w).traffic ≡ (f (site_of w n it)).traffic
unfolding at_node
traffic-at_node n f w it is = rw is refl

nodes-marked : (key : Option Key) (n c : ℕ) (w : World) → (marked key n c w).nodes ≡ (clocked n c w).nodes
nodes-marked None n c w = refl
nodes-marked (Some k) n c w = refl

abbrev pub with_time : ℕ → Node → Node
with_time c it = record it { clock = Some c }

-- the clock is that of node n alone; with 0 for n it is none's
pub node-marked_at : (key : Option Key) (n c : ℕ) (w : World)
    → node_at (marked key n c w) n ≡ cond (n == 0) (node_at w n) (option_map (with_time c) (node_at w n))
node-marked_at key n c w = ap (λ ns. value_at nat_cmp n ns) (nodes-marked key n c w) ∙ go (n == 0)
  where
    go : (b : Bool) → value_at nat_cmp n (cond b w.nodes (changed_at nat_cmp n (with_time c) w.nodes))
        ≡ cond b (node_at w n) (option_map (with_time c) (node_at w n))
    go true = refl
    go false = value-changed_same nat_cmp nat_cmp_total nat_cmp-IsAntisymmetric n (with_time c) w.nodes

pub node-marked : (key : Option Key) (n c : ℕ) (w : World) (it : Node) → (n == 0) ≡ false → node_at w n ≡ Some it
    → node_at (marked key n c w) n ≡ Some (with_time c it)
node-marked key n c w it some is = node-marked_at key n c w
    ∙ ap (λ b. cond b (node_at w n) (option_map (with_time c) (node_at w n))) some ∙ ap (option_map (with_time c)) is

pub node-marked_other : (key : Option Key) (n c : ℕ) (w : World) (m : ℕ) → (m == n) ≡ false → node_at (marked key n c w) m ≡ node_at w m
node-marked_other key n c w m other = ap (λ ns. value_at nat_cmp m ns) (nodes-marked key n c w) ∙ go (n == 0)
  where
    go : (b : Bool) → value_at nat_cmp m (cond b w.nodes (changed_at nat_cmp n (with_time c) w.nodes)) ≡ node_at w m
    go true = refl
    go false = value-changed_other nat_cmp nat_cmp_total nat_cmp-IsAntisymmetric m n (with_time c) w.nodes (other-node m n other)

pub node-marked_none : (key : Option Key) (n c : ℕ) (w : World) (m : ℕ) → node_at w m ≡ None → node_at (marked key n c w) m ≡ None
node-marked_none key n c w m is = go (m == n) refl
  where
    none : (b : Bool) → cond b None (option_map (with_time c) None) ≡ None
    none true = refl
    none false = refl

    go : (b : Bool) → (m == n) ≡ b → node_at (marked key n c w) m ≡ None
    go false other = node-marked_other key n c w m other ∙ is
    go true same = let here : m ≡ n = eqb-true m n same in
        ap (node_at (marked key n c w)) here ∙ node-marked_at key n c w
        ∙ ap (λ o. cond (n == 0) o (option_map (with_time c) o)) (ap (node_at w) (sym here) ∙ is) ∙ none (n == 0)

-- a change of node n, whose entry shows the clock of its disk
pub renodes-turn : (key : Option Key) (n c : ℕ) (f : Site → Site) (w : World) (it : Node) → (n == 0) ≡ false
    → AreNumbers (map (λ e. e.0) w.nodes) → node_at w n ≡ Some it
    → Renodes n (with_time c (f (site_of w n it)).node) w (marked key n c (at_node n f w))
renodes-turn key n c f w it some numbers is = record {
  types = (rest-marked key n c (at_node n f w)).types ∙ (rest-at_node n f w).types;
  layout = (rest-marked key n c (at_node n f w)).layout ∙ (rest-at_node n f w).layout;
  cuts = (rest-marked key n c (at_node n f w)).cuts ∙ (rest-at_node n f w).cuts;
  names = (rest-marked key n c (at_node n f w)).names ∙ (rest-at_node n f w).names;
  numbers = keys-marked key n c (at_node n f w) (numbers-at_node n f w numbers) ∙ keys-at_node n f w numbers;
  here = node-marked key n c (at_node n f w) (f (site_of w n it)).node some (node-at_same n f w ∙ ap (option_map (after_at n f w)) is);
  others = λ m other. node-marked_other key n c (at_node n f w) m other ∙ node-at_other m n f w other;
}

-- a change of another node than the one whose clock the entry shows, as seen behind that
pub renodes-other : (key : Option Key) (n c m : ℕ) (f : Site → Site) (w : World) (it : Node) → (m == n) ≡ false
    → AreNumbers (map (λ e. e.0) w.nodes) → node_at w m ≡ Some it
    → Renodes m (f (site_of w m it)).node (marked key n c w) (marked key n c (at_node m f w))
renodes-other key n c m f w it other numbers is = record {
  types = (rest-marked key n c (at_node m f w)).types ∙ (rest-at_node m f w).types ∙ sym (rest-marked key n c w).types;
  layout = (rest-marked key n c (at_node m f w)).layout ∙ (rest-at_node m f w).layout ∙ sym (rest-marked key n c w).layout;
  cuts = (rest-marked key n c (at_node m f w)).cuts ∙ (rest-at_node m f w).cuts ∙ sym (rest-marked key n c w).cuts;
  names = (rest-marked key n c (at_node m f w)).names ∙ (rest-at_node m f w).names ∙ sym (rest-marked key n c w).names;
  numbers = keys-marked key n c (at_node m f w) (numbers-at_node m f w numbers) ∙ keys-at_node m f w numbers
      ∙ sym (keys-marked key n c w numbers);
  here = node-marked_other key n c (at_node m f w) m other ∙ node-at_same m f w ∙ ap (option_map (after_at m f w)) is;
  others = λ k apart. by_number k apart (k == n) refl;
}
  where
    by_number : (k : ℕ) → (k == m) ≡ false → (b : Bool) → (k == n) ≡ b
        → node_at (marked key n c (at_node m f w)) k ≡ node_at (marked key n c w) k
    by_number k apart false off = node-marked_other key n c (at_node m f w) k off ∙ node-at_other k m f w apart
        ∙ sym (node-marked_other key n c w k off)
    by_number k apart true same = let here : k ≡ n = eqb-true k n same in
        subst (λ j. node_at (marked key n c (at_node m f w)) j ≡ node_at (marked key n c w) j) (sym here)
        (node-marked_at key n c (at_node m f w)
        ∙ ap (λ o. cond (n == 0) o (option_map (with_time c) o)) (node-at_other n m f w (ap (λ j. j == m) (sym here) ∙ apart))
        ∙ sym (node-marked_at key n c w))

-- 2. What is in hand

some-and : {X : Type 0} (P Q : X → Type 0) (o : Option X) → IsSomeAnd o P → ((x : X) → P x → Q x) → IsSomeAnd o Q
some-and P Q None h f = absurd h
some-and P Q (Some x) h f = f x h

pub reseated : (layout : Layout) (more rest : ℕ) (old new : InHand) (w later : World) (n : ℕ) (seat : Seat) (it : Node)
    → WorldStands layout more old w → rest ≤ more → Reseats n seat old new → Renodes n it w later
    → SeatStands layout old.types new.mail rest (site_of later n it) seat → Carries new.mail later.traffic → Keeps w.traffic later.traffic
    → ((m : ℕ) → node_up_at new.places m ≡ is_up later m)
    → ((a b : ℕ) → a ≤ 8 → b ≤ 8 → joined_at new.places a b ≡ joined_at old.places a b)
    → WorldStands layout rest new later
reseated layout more rest old new w later n seat it is less seats nodes stands carries keeps ups joined = record {
  its_layout = nodes.layout ∙ is.its_layout;
  its_types = nodes.types ∙ is.its_types ∙ ap types_in (sym seats.types);
  numbers = same-numbers _ _ nodes.numbers is.numbers;
  no_more = λ k none. absent k none (k == n) refl;
  nodes = λ k jt at. subst (λ ts. IsSomeAnd (new.seats k) (SeatStands layout ts new.mail rest (site_of later k jt))) (sym seats.types)
      (go k jt at (k == n) refl);
  calls = carries;
  ups = ups;
  links = λ a b x y. joined a b x y ∙ is.links a b x y ∙ ap (λ cs. not (list_any (joins a b) cs)) (sym nodes.cuts);
  names = λ name. ap (λ (ns : List (List ℕ × Meaning)). with_item (find (λ e. same_text e.0 name) ns) (λ e. Some e.1) None) nodes.names
      ∙ is.names name ∙ sym (seats.names name);
}
  where
    here : IsSomeAnd (new.seats n) (SeatStands layout old.types new.mail rest (site_of later n it))
    here = subst (λ o. IsSomeAnd o (SeatStands layout old.types new.mail rest (site_of later n it))) (sym seats.here) stands

    absent : (k : ℕ) → node_at later k ≡ None → (b : Bool) → (k == n) ≡ b → new.seats k ≡ None
    absent k none true same =
        let bad : Some it ≡ None = sym nodes.here ∙ ap (node_at later) (sym (eqb-true k n same)) ∙ none in absurd (cc bad)
    absent k none false other = seats.others k other ∙ is.no_more k (sym (nodes.others k other) ∙ none)

    go : (k : ℕ) (jt : Node) → node_at later k ≡ Some jt → (b : Bool) → (k == n) ≡ b
        → IsSomeAnd (new.seats k) (SeatStands layout old.types new.mail rest (site_of later k jt))
    go k jt at true same =
        let number : k ≡ n = eqb-true k n same in
        let both : Some it ≡ Some jt = sym nodes.here ∙ ap (node_at later) (sym number) ∙ at in
        let node_is : it ≡ jt = cc both in
        subst (λ j. IsSomeAnd (new.seats j) (SeatStands layout old.types new.mail rest (site_of later j jt))) (sym number)
        (subst (λ x. IsSomeAnd (new.seats n) (SeatStands layout old.types new.mail rest (site_of later n x))) node_is here)
    go k jt at false other = subst (λ o. IsSomeAnd o (SeatStands layout old.types new.mail rest (site_of later k jt)))
        (sym (seats.others k other))
        (some-and (SeatStands layout old.types old.mail more (site_of w k jt))
        (SeatStands layout old.types new.mail rest (site_of later k jt))
        (old.seats k) (is.nodes k jt (sym (nodes.others k other) ∙ at))
        (λ x h. seat-alike layout old.types old.mail new.mail more rest (site_of w k jt) (site_of later k jt) x less
        (record { number = refl; types = nodes.types; layout = nodes.layout; node = refl }) keeps carries h))

-- what is up and what is down stays so
pub ups-kept : (n : ℕ) (it was : Node) (w later : World) → Renodes n it w later → node_at w n ≡ Some was → it.up ≡ was.up
    → (m : ℕ) → is_up later m ≡ is_up w m
ups-kept n it was w later nodes at same m = go (m == n) refl
  where
    go : (b : Bool) → (m == n) ≡ b → is_up later m ≡ is_up w m
    go true here = let number : m ≡ n = eqb-true m n here in
        ap (is_up later) number ∙ ap (λ o. with_item o (λ (x : Node). x.up) false) nodes.here ∙ same
        ∙ sym (ap (λ o. with_item o (λ (x : Node). x.up) false) at) ∙ ap (is_up w) (sym number)
    go false other = ap (λ o. with_item o (λ (x : Node). x.up) false) (nodes.others m other)
