-- A link is joined: more is reached, and nothing else changes.
use Rattle.std.proofs.Common.{◌≡◌, ℕ, suc, ◌≤◌, ◌==◌, Bool, true, false, cond, not, ◌&&◌, ◌||◌, List, [], ◌∷◌, Some, refl}
use Rattle.std.proofs.Common.{sym}
use Rattle.std.proofs.Common.{◌∙◌, ap, subst}
use Rattle.std.specs.List.{list_any, filter}
use Rattle.std.proofs.lemmas.Bool.{eqb-true}
use Rattle.epl_syntax.specs.Meaning.{types_in}
use Rattle.invocation.specs.Carries.{Carries}
use Rattle.locator.specs.Reach.{joined_at, node_up_at, same_link}
use Rattle.passive_store.specs.Kept.{Layout}
use Rattle.journal.specs.declared.command.Command.TheVariants as command
use Rattle.journal.specs.declared.event.Event.TheVariants as event
use Rattle.journal.specs.declared.event.Entry.{Entry}
use Rattle.journal.specs.Step.{AllowsEvent, ClockFits, StoreClock, breaks, clocked, counted, happened, key_of, next, touched}
use Rattle.journal.specs.World.{World, joins, is_cut, node_at, site_of}
use Rattle.ejects.proofs.Keeping.{keeps-same}
use Rattle.eden_world.specs.Worlds.{InHand, WorldStands}
use Rattle.eden_world.specs.Steps.{SameNames, TouchesNone, Goes, step_by}
use Rattle.eden_world.proofs.InWorld.{seat-moves}
use Rattle.eden_world.proofs.Disks.{no-disk}
use Rattle.eden_world.proofs.TurnEntries.{no-names}

-- the link is joined in hand, and nothing else changed there
pub record TakesLink (a b : ℕ) (old new : InHand) : Type 0 where
  pub types : new.types ≡ old.types
  pub seats : (m : ℕ) → new.seats m ≡ old.seats m
  pub mail : new.mail ≡ old.mail
  pub ups : (n : ℕ) → node_up_at new.places n ≡ node_up_at old.places n
  pub joined : (x y : ℕ) → x ≤ 8 → y ≤ 8 → joined_at new.places x y ≡ cond (same_link a b x y) true (joined_at old.places x y)
  pub names : SameNames old new

-- 1. The cuts that are left

is-pair : (l : ℕ × ℕ) (x y : ℕ) → ((l.0 == x) && (l.1 == y)) ≡ true → (l.0 ≡ x) × (l.1 ≡ y)
is-pair l x y h = (eqb-true l.0 x (left (l.0 == x) (l.1 == y) h), eqb-true l.1 y (right (l.0 == x) (l.1 == y) h))
  where
    left : (p q : Bool) → (p && q) ≡ true → p ≡ true
    left true q e = refl
    left false q e = absurd (cc e)

    right : (p q : Bool) → (p && q) ≡ true → q ≡ true
    right true q e = e
    right false q e = absurd (cc e)

-- two of three links that are the same make the third so
same-joins : (a b x y : ℕ) (l : ℕ × ℕ) → joins x y l ≡ true → joins a b l ≡ same_link a b x y
same-joins a b x y l h = go ((l.0 == x) && (l.1 == y)) refl h
  where
    other : (p q : Bool) → (p || q) ≡ true → p ≡ false → q ≡ true
    other p q e f = subst (λ z. (z || q) ≡ true) f e

    swapped : (p q : Bool) → (p || q) ≡ (q || p)
    swapped true true = refl
    swapped true false = refl
    swapped false true = refl
    swapped false false = refl

    as-and : (p q : Bool) → (p && q) ≡ (q && p)
    as-and true true = refl
    as-and true false = refl
    as-and false true = refl
    as-and false false = refl

    straight : (l.0 ≡ x) × (l.1 ≡ y) → joins a b l ≡ same_link a b x y
    straight (p, q) = ap (λ z. ((z == a) && (l.1 == b)) || ((z == b) && (l.1 == a))) p
        ∙ ap (λ z. ((x == a) && (z == b)) || ((x == b) && (z == a))) q

    crossed : (l.0 ≡ y) × (l.1 ≡ x) → joins a b l ≡ same_link a b x y
    crossed (p, q) = ap (λ z. ((z == a) && (l.1 == b)) || ((z == b) && (l.1 == a))) p
        ∙ ap (λ z. ((y == a) && (z == b)) || ((y == b) && (z == a))) q
        ∙ swapped ((y == a) && (x == b)) ((y == b) && (x == a))
        ∙ ap (λ z. z || ((y == a) && (x == b))) (as-and (y == b) (x == a))
        ∙ ap (λ z. ((x == a) && (y == b)) || z) (as-and (y == a) (x == b))

    go : (z : Bool) → ((l.0 == x) && (l.1 == y)) ≡ z → joins x y l ≡ true → joins a b l ≡ same_link a b x y
    go true at e = straight (is-pair l x y at)
    go false at e = crossed (is-pair l y x (other ((l.0 == x) && (l.1 == y)) ((l.0 == y) && (l.1 == x)) e at))

cuts-left : (a b x y : ℕ) (ls : List (ℕ × ℕ)) → list_any (joins x y) (filter (λ l. not (joins a b l)) ls)
    ≡ cond (same_link a b x y) false (list_any (joins x y) ls)
cuts-left a b x y [] = go (same_link a b x y)
  where
    go : (z : Bool) → false ≡ cond z false false
    go true = refl
    go false = refl
cuts-left a b x y (l ∷ ls) = go (joins x y l) refl (joins a b l) refl (cuts-left a b x y ls)
  where
    none : (z : Bool) → z ≡ true → (r : Bool) → cond z false r ≡ false
    none z e r = ap (λ c. cond c false r) e

    all : (z : Bool) → z ≡ false → (r : Bool) → cond z false r ≡ r
    all z e r = ap (λ c. cond c false r) e

    go : (p : Bool) → joins x y l ≡ p → (q : Bool) → joins a b l ≡ q
        → list_any (joins x y) (filter (λ l. not (joins a b l)) ls) ≡ cond (same_link a b x y) false (list_any (joins x y) ls)
        → list_any (joins x y) (cond (not (joins a b l)) (l ∷ filter (λ l. not (joins a b l)) ls) (filter (λ l. not (joins a b l)) ls))
        ≡ cond (same_link a b x y) false (joins x y l || list_any (joins x y) ls)
    go true at true is later = rw (is, at) (later ∙ none (same_link a b x y) (sym (same-joins a b x y l at) ∙ is) _
        ∙ sym (none (same_link a b x y) (sym (same-joins a b x y l at) ∙ is) true))
    go true at false is later = rw (is, at) (sym (all (same_link a b x y) (sym (same-joins a b x y l at) ∙ is) true))
    go false at true is later = rw (is, at) later
    go false at false is later = rw (is, at) later

opposite : (z r : Bool) → not (cond z false r) ≡ cond z true (not r)
opposite true r = refl
opposite false r = refl

-- 2. In the world

abbrev without_cut : ℕ → ℕ → World → World
without_cut a b w = record w { cuts = filter (λ l. not (joins a b l)) w.cuts }

pub join-goes : (layout : Layout) (more : ℕ) (old new : InHand) (w : World) (e : Entry) (a b : ℕ) → WorldStands layout (suc more) old w
    → TakesLink a b old new → TouchesNone e → e.event ≡ event.Link a b true → Goes layout more w (Some (command.Join a b)) e old new
join-goes layout more old new w e a b stands takes entry is = record {
  allowed = record {
    event = subst (AllowsEvent w (Some (command.Join a b))) (sym is) (refl, refl, refl);
    broken = entry.broken ∙ no-names (breaks e.event) w.traffic (λ k. ap (λ v. breaks v k) is);
    disk = entry.disk ∙ sym (ap (touched w) is);
    clock = subst (λ m. ClockFits w m e.clock) (sym entry.disk) entry.clock;
    store_clock = subst (λ v. StoreClock w v e.clock) (sym is) tt;
  };
  stands = subst (WorldStands layout more new) (sym next_is) (record {
    its_layout = stands.its_layout;
    its_types = stands.its_types ∙ ap types_in (sym takes.types);
    numbers = stands.numbers;
    nodes = λ k jt there. seat-moves layout more old new k (site_of w k jt) w.traffic (stands.nodes k jt there) (takes.seats k) takes.types
        (keeps-same w.traffic w.traffic refl) carries;
    no_more = λ k none. takes.seats k ∙ stands.no_more k none;
    calls = carries;
    ups = λ n. takes.ups n ∙ stands.ups n;
    links = λ x y least most. takes.joined x y least most ∙ ap (λ z. cond (same_link a b x y) true z) (stands.links x y least most)
        ∙ sym (opposite (same_link a b x y) (is_cut w x y)) ∙ sym (ap not (cuts-left a b x y w.cuts));
    names = λ name. stands.names name ∙ sym (takes.names name);
  });
  disks = no-disk layout (suc more) old new (step_by w (Some (command.Join a b)) e) stands takes.seats entry.disk
      (λ m. ap (λ v. node_at v m) next_is);
}
  where
    carries : Carries new.mail w.traffic
    carries = subst (λ m. Carries m w.traffic) (sym takes.mail) stands.calls

    next_is : next w (Some (command.Join a b)) e ≡ without_cut a b w
    next_is = ap (λ v. counted (key_of v) (clocked e.node e.clock (happened w (Some (command.Join a b)) v))) is
        ∙ ap (λ m. clocked m e.clock (without_cut a b w)) entry.disk
