-- One node and the calls change: what is in hand stands for the world after it, the other nodes with it.
use Rattle.std.proofs.Common.{◌≡◌, ℕ, suc, ◌≤◌, ◌==◌, Bool, true, false, cond, not, ◌&&◌, ◌||◌, List, map, Option, None, Some, is_some}
use Rattle.std.proofs.Common.{refl, sym, ◌∙◌, ap, subst}
use Rattle.std.specs.Prelude.{IsSomeAnd}
use Rattle.std.proofs.lemmas.Bool.{eqb-true}
use Rattle.std.specs.Ordering.{nat_cmp, eq_by_cmp}
use Rattle.std.specs.Cmp.{nat_cmp_total}
use Rattle.std.specs.FinMap.Entries.{find-put}
use Rattle.eden_model.specs.Map.{put_at, with_item}
use Rattle.eden_model.specs.Traffic.{Traffic}
use Rattle.eden_model.proofs.Numbers.{same-self}
use Rattle.epl_syntax.specs.Meaning.{types_in}
use Rattle.invocation.specs.Carries.{Carries}
use Rattle.locator.specs.Reach.{Stations, node_up_at, joined_at, reaches as reached}
use Rattle.passive_store.specs.Kept.{Layout}
use Rattle.journal.specs.declared.event.Key.{Key}
use Rattle.journal.specs.World.{World, Meaning, Site, Node, node_at, site_of, reaches, is_up, is_cut}
use Rattle.journal.specs.References.{meaning_of}
use Rattle.journal.specs.Step.{counted}
use Rattle.history_laws.proofs.Frame.{other-node}
use Rattle.ejects.proofs.KeptClasses.{Keeps}
use Rattle.eden_world.specs.Worlds.{AreNumbers, Seat, InHand, SeatStands, IsNumber, WorldStands}
use Rattle.eden_world.specs.Steps.{TakesMail}
use Rattle.eden_world.proofs.Messages.{carrying, seat-other}
use Rattle.eden_world.proofs.Numbers.{numbers-put, within-numbers, same-put}

-- 1. A place in hand

pub some-and : {X : Type 0} (P Q : X → Type 0) (o : Option X) → ((x : X) → P x → Q x) → IsSomeAnd o P → IsSomeAnd o Q
some-and P Q None f h = absurd h
some-and P Q (Some x) f h = f x h

-- the node of a number, and what is in hand of it
pub record IsThere (layout : Layout) (more : ℕ) (h : InHand) (w : World) (n : ℕ) : Type 0 where
  pub it : Node
  pub at : node_at w n ≡ Some it
  pub seat : Seat
  pub sits : h.seats n ≡ Some seat
  pub stands : SeatStands layout h.types h.mail more (site_of w n it) seat

-- where the world has it
pub is-there : (layout : Layout) (more : ℕ) (h : InHand) (w : World) (n : ℕ) (it : Node) → WorldStands layout more h w
    → node_at w n ≡ Some it → IsThere layout more h w n
is-there layout more h w n it stands at = on (h.seats n) refl (stands.nodes n it at)
  where
    on : (o : Option Seat) → h.seats n ≡ o → IsSomeAnd o (SeatStands layout h.types h.mail more (site_of w n it)) → IsThere layout more h w n
    on None sits h = absurd h
    on (Some seat) sits h = record { it = it; at = at; seat = seat; sits = sits; stands = h }

-- and so where there is a place
pub sits-there : (layout : Layout) (more : ℕ) (h : InHand) (w : World) (n : ℕ) (seat : Seat) → WorldStands layout more h w
    → h.seats n ≡ Some seat → IsThere layout more h w n
sits-there layout more h w n seat stands sits = go (node_at w n) refl
  where
    go : (o : Option Node) → node_at w n ≡ o → IsThere layout more h w n
    go None none = absurd (let bad : None ≡ Some seat = sym (stands.no_more n none) ∙ sits in cc bad)
    go (Some it) at = is-there layout more h w n it stands at

-- what stands there stands for the site of its node
pub seat-stands : (layout : Layout) (more : ℕ) (h : InHand) (w : World) (n : ℕ) (seat : Seat) → (x : IsThere layout more h w n)
    → h.seats n ≡ Some seat → SeatStands layout h.types h.mail more (site_of w n x.it) seat
seat-stands layout more h w n seat x sits =
    let both : Some x.seat ≡ Some seat = sym x.sits ∙ sits in
    let same : x.seat ≡ seat = cc both in
    subst (SeatStands layout h.types h.mail more (site_of w n x.it)) same x.stands

-- what stands at a place stands there with other messages
pub seat-moves : (layout : Layout) (more : ℕ) (old new : InHand) (k : ℕ) (s : Site) (t : Traffic)
    → IsSomeAnd (old.seats k) (SeatStands layout old.types old.mail (suc more) s) → new.seats k ≡ old.seats k → new.types ≡ old.types
    → Keeps s.traffic t → Carries new.mail t → IsSomeAnd (new.seats k) (SeatStands layout new.types new.mail more (carrying t s))
seat-moves layout more old new k s t h seats types keeps carries =
    subst (λ o. IsSomeAnd o (SeatStands layout new.types new.mail more (carrying t s))) (sym seats)
    (subst (λ ts. IsSomeAnd (old.seats k) (SeatStands layout ts new.mail more (carrying t s))) (sym types)
    (some-and (SeatStands layout old.types old.mail (suc more) s) (SeatStands layout old.types new.mail more (carrying t s)) (old.seats k)
    (λ x. seat-other layout old.types old.mail new.mail more s t x keeps carries) h))

-- 2. The world with another node under a number, and other messages

abbrev pub with_node : ℕ → Node → Traffic → World → World
with_node n x t w = record w { nodes = put_at nat_cmp n x w.nodes; traffic = t }

pub node-with : (n : ℕ) (x : Node) (t : Traffic) (w : World) (k : ℕ)
    → node_at (with_node n x t w) k ≡ cond (eq_by_cmp nat_cmp k n) (Some x) (node_at w k)
node-with n x t w k = find-put nat_cmp nat_cmp_total k n x w.nodes

-- the node itself put once more
pub with-itself : (layout : Layout) (more : ℕ) (h : InHand) (w : World) (n : ℕ) (it : Node) → WorldStands layout more h w → IsNumber n
    → node_at w n ≡ Some it → with_node n it w.traffic w ≡ w
with-itself layout more h w n it stands number at = ap (λ ns. record w { nodes = ns }) (same-put n it w.nodes stands.numbers number at)

-- where it is up as before, the same nodes are up
same-up : (n : ℕ) (it x : Node) (t : Traffic) (w : World) → node_at w n ≡ Some it → x.up ≡ it.up → (b : ℕ)
    → is_up (with_node n x t w) b ≡ is_up w b
same-up n it x t w at up b = go (b == n) refl
  where
    up_in : Option Node → Bool
    up_in o = with_item o (λ y. y.up) false

    go : (same : Bool) → (b == n) ≡ same → is_up (with_node n x t w) b ≡ is_up w b
    go false apart = ap (λ o. with_item o (λ y. y.up) false)
        (node-with n x t w b ∙ ap (λ c. cond c (Some x) (node_at w b)) (other-node b n apart))
    go true same =
        let is : b ≡ n = eqb-true b n same in
        ap (λ o. with_item o (λ y. y.up) false)
        (node-with n x t w b ∙ ap (λ c. cond c (Some x) (node_at w b)) (ap (λ j. eq_by_cmp nat_cmp j n) is ∙ same-self n))
        ∙ up ∙ sym (ap (λ o. with_item o (λ y. y.up) false) (ap (node_at w) is ∙ at))

-- the links in hand, as they stand for a world
pub record LinksStand (places : Stations) (w : World) : Type 0 where
  pub ups : (n : ℕ) → node_up_at places n ≡ is_up w n
  pub links : (a b : ℕ) → a ≤ 8 → b ≤ 8 → joined_at places a b ≡ not (is_cut w a b)

pub links-of : (layout : Layout) (more : ℕ) (h : InHand) (w : World) → WorldStands layout more h w → LinksStand h.places w
links-of layout more h w stands = record { ups = stands.ups; links = stands.links }

-- so the links go on standing
pub same-links : (n : ℕ) (it x : Node) (t : Traffic) (w : World) (old new : InHand) → node_at w n ≡ Some it → x.up ≡ it.up
    → new.places ≡ old.places → LinksStand old.places w → LinksStand new.places (with_node n x t w)
same-links n it x t w old new at up same links = subst (λ p. LinksStand p (with_node n x t w)) (sym same) (record {
  ups = λ b. links.ups b ∙ sym (same-up n it x t w at up b);
  links = links.links;
})

pub seat-in-world : (layout : Layout) (more : ℕ) (old new : InHand) (w : World) (n : ℕ) (x : Node) (t : Traffic) (seat : Seat)
    → WorldStands layout (suc more) old w → IsNumber n → is_some (node_at w n) ≡ true → new.types ≡ old.types → new.seats n ≡ Some seat
    → ((m : ℕ) → (m == n) ≡ false → new.seats m ≡ old.seats m) → ((name : List ℕ) → new.names name ≡ old.names name)
    → Keeps w.traffic t → Carries new.mail t → SeatStands layout old.types new.mail more (carrying t (site_of w n x)) seat
    → LinksStand new.places (with_node n x t w) → WorldStands layout more new (with_node n x t w)
seat-in-world layout more old new w n x t seat stands number had types here others names keeps carries sits links = record {
  its_layout = stands.its_layout;
  its_types = stands.its_types ∙ ap types_in (sym types);
  numbers = numbers-put n x w.nodes stands.numbers number.first had;
  nodes = λ k jt there. go k jt (k == n) refl (sym (node-with n x t w k) ∙ there);
  no_more = λ k none. absent k (k == n) refl (sym (node-with n x t w k) ∙ none);
  calls = carries;
  ups = links.ups;
  links = links.links;
  names = λ name. stands.names name ∙ sym (names name);
}
  where
    Stands : ℕ → Node → Type 0
    Stands k jt = IsSomeAnd (new.seats k) (SeatStands layout new.types new.mail more (carrying t (site_of w k jt)))

    at_n : IsSomeAnd (new.seats n) (SeatStands layout new.types new.mail more (carrying t (site_of w n x)))
    at_n = subst (λ o. IsSomeAnd o (SeatStands layout new.types new.mail more (carrying t (site_of w n x)))) (sym here)
        (subst (λ ts. SeatStands layout ts new.mail more (carrying t (site_of w n x)) seat) (sym types) sits)

    absent : (k : ℕ) (b : Bool) → (k == n) ≡ b → cond (eq_by_cmp nat_cmp k n) (Some x) (node_at w k) ≡ None → new.seats k ≡ None
    absent k false apart e = others k apart
        ∙ stands.no_more k (subst (λ c. cond c (Some x) (node_at w k) ≡ None) (other-node k n apart) e)
    absent k true same e =
        let is : k ≡ n = eqb-true k n same in
        let bad : Some x ≡ None = subst (λ c. cond c (Some x) (node_at w k) ≡ None)
        (ap (λ j. eq_by_cmp nat_cmp j n) is ∙ same-self n) e in
        absurd (cc bad)

    go : (k : ℕ) (jt : Node) (b : Bool) → (k == n) ≡ b → cond (eq_by_cmp nat_cmp k n) (Some x) (node_at w k) ≡ Some jt
        → IsSomeAnd (new.seats k) (SeatStands layout new.types new.mail more (carrying t (site_of w k jt)))
    go k jt false apart e =
        let back : node_at w k ≡ Some jt = subst (λ c. cond c (Some x) (node_at w k) ≡ Some jt) (other-node k n apart) e in
        seat-moves layout more old new k (site_of w k jt) t (stands.nodes k jt back) (others k apart) types keeps carries
    go k jt true same e =
        let is : k ≡ n = eqb-true k n same in
        let both : Some x ≡ Some jt = subst (λ c. cond c (Some x) (node_at w k) ≡ Some jt)
        (ap (λ j. eq_by_cmp nat_cmp j n) is ∙ same-self n) e in
        let node : x ≡ jt = cc both in
        subst (λ j. IsSomeAnd (new.seats j) (SeatStands layout new.types new.mail more (carrying t (site_of w j jt)))) (sym is)
        (subst (λ y. IsSomeAnd (new.seats n) (SeatStands layout new.types new.mail more (carrying t (site_of w n y)))) node at_n)

-- 3. No node changes: the calls go on, and names stand for something else

abbrev pub with_mail : Traffic → List (List ℕ × Meaning) → World → World
with_mail t names w = record w { traffic = t; names = names }

pub mail-in-world : (layout : Layout) (more : ℕ) (old new : InHand) (w : World) (t : Traffic) (names : List (List ℕ × Meaning))
    → WorldStands layout (suc more) old w → TakesMail new.mail old new → Keeps w.traffic t → Carries new.mail t
    → ((name : List ℕ) → meaning_of (with_mail t names w) name ≡ new.names name) → WorldStands layout more new (with_mail t names w)
mail-in-world layout more old new w t names stands takes keeps carries named = record {
  its_layout = stands.its_layout;
  its_types = stands.its_types ∙ ap types_in (sym takes.types);
  numbers = stands.numbers;
  nodes = λ k jt there. seat-moves layout more old new k (site_of w k jt) t (stands.nodes k jt there) (takes.seats k) takes.types keeps
      carries;
  no_more = λ k none. takes.seats k ∙ stands.no_more k none;
  calls = carries;
  ups = λ n. ap (λ p. node_up_at p n) takes.places ∙ stands.ups n;
  links = λ a b least most. ap (λ p. joined_at p a b) takes.places ∙ stands.links a b least most;
  names = named;
}

-- 4. The turns are counted

pub counted-stands : (layout : Layout) (more : ℕ) (h : InHand) (w : World) (k : Option Key) → WorldStands layout more h w
    → WorldStands layout more h (counted k w)
counted-stands layout more h w None stands = stands
counted-stands layout more h w (Some k) stands = record {
  its_layout = stands.its_layout;
  its_types = stands.its_types;
  numbers = stands.numbers;
  nodes = stands.nodes;
  no_more = stands.no_more;
  calls = stands.calls;
  ups = stands.ups;
  links = stands.links;
  names = stands.names;
}

-- 5. So each station reaches what it reaches by the links in hand

pub by-links : (places : Stations) (w : World) → LinksStand places w → ((n : ℕ) → is_up w n ≡ true → n ≤ 8) → (a b : ℕ) → a ≤ 8
    → reaches w a b ≡ reached places a b
by-links places w links nodes a b least = go (is_up w b) refl
  where
    same : b ≤ 8 → ((a == b) || not (is_cut w a b)) ≡ ((a == b) || joined_at places a b)
    same most = ap (λ z. (a == b) || z) (sym (links.links a b least most))

    go : (u : Bool) → is_up w b ≡ u → (is_up w b && ((a == b) || not (is_cut w a b))) ≡ (node_up_at places b &&
        ((a == b) || joined_at places a b))
    go true is = ap (λ u. u && ((a == b) || not (is_cut w a b))) is ∙ same (nodes b is)
        ∙ sym (ap (λ u. u && ((a == b) || joined_at places a b)) (links.ups b ∙ is))
    go false is = ap (λ u. u && ((a == b) || not (is_cut w a b))) is
        ∙ sym (ap (λ u. u && ((a == b) || joined_at places a b)) (links.ups b ∙ is))

-- a node that is up has a number
pub up-is-number : (w : World) → AreNumbers (map (λ e. e.0) w.nodes) → (n : ℕ) → is_up w n ≡ true → n ≤ 8
up-is-number w numbers n is = within-numbers n w.nodes numbers (go (node_at w n) is)
  where
    go : (o : Option Node) → with_item o (λ it. it.up) false ≡ true → is_some o ≡ true
    go None is = absurd (cc is)
    go (Some it) is = refl

pub reach-of : (layout : Layout) (more : ℕ) (h : InHand) (w : World) → WorldStands layout more h w → (a b : ℕ) → a ≤ 8
    → reaches w a b ≡ reached h.places a b
reach-of layout more h w stands = by-links h.places w (links-of layout more h w stands) (up-is-number w stands.numbers)
