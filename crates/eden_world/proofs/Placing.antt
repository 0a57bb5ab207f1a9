-- What stands at one place of a program is taken from there and another put in its stead: what is in hand then.
use Rattle.std.proofs.Common.{◌≡◌, ◌==◌, ℕ, zero, suc, Bool, true, false, length, Option, None, Some, refl, sym, ◌∙◌, ap, subst, ◌≤◌}
use Rattle.std.specs.Prelude.{◌≢◌, unwrap_or}
use Rattle.std.proofs.lemmas.Bool.{eqb-true}
use Rattle.invocation.specs.Mail.{Mail}
use Rattle.passive_store.specs.Seen.{Seen, DiskSeen}
use Rattle.ejects.specs.View.{parts_of}
use Rattle.agenda.specs.Keys.{IsAgenda}
use Rattle.agenda.specs.Indexed.{indices_of}
use Rattle.eden_kernel.specs.Stands.{held, IsWhole}
use Rattle.scheduled_node.specs.declared.ScheduledNode.{ScheduledNode}
use Rattle.shell_names.specs.Names.{meanings}
use Rattle.eden_world.specs.InHand.{place_at, seen_at, in_hand, IsWholeAt, AreWhole, HaveAgendas}
use Rattle.eden_world.specs.Seated.{TakesPlace, KeepsRest, FitsTogether, AreSeated, instead}
use Rattle.eden_world.specs.Steps.{TakesSeat}
use Rattle.eden_world.specs.Turning.{Swaps}
use Rattle.eden_world.specs.Worlds.{Seat}
use Rattle.eden_world.specs.declared.seats.Seat.{Seat as Place}
use Rattle.eden_world.specs.declared.seats.Seat.TheVariants as place
use Rattle.eden_world.specs.declared.World.{World as Program}

-- 1. From one to another

-- what was taken from there is a node that was up
pub was-up : {T D : Type 0} (o : Option (Place T D)) (s : ScheduledNode T D) → place.Up s ≡ unwrap_or o place.Moving → o ≡ Some (place.Up s)
was-up None s is = absurd (cc is)
was-up (Some a) s is = ap (λ x. Some x) (sym is)

pub same-places : {T D : Type 0} (p q : Program T D) → p.seats ≡ q.seats → (n : ℕ) → place_at p n ≡ place_at q n
same-places p q same zero = refl
same-places p q same (suc n) = ap (λ v. place_at (record p { seats = v }) (suc n)) same

pub swaps : {T D : Type 0} (n : ℕ) (a b : Place T D) (later : Mail) (old mid went new : Program T D) → place_at old n ≡ Some a
    → TakesPlace n place.Moving old mid → went ≡ record mid { calls = later } → TakesPlace n b went new → Swaps n a b later old new
swaps n a b later old mid went new was taken went_on put = record {
  was = was;
  here = put.here ∙ ap (instead b) (between n ∙ taken.here ∙ ap (instead place.Moving) was);
  others = λ m other. put.others m other ∙ between m ∙ taken.others m other;
  count = put.rest.count ∙ ap (λ (p : Program _ _). length p.seats.items) went_on ∙ taken.rest.count;
  types = put.rest.types ∙ ap (λ (p : Program _ _). p.types) went_on ∙ taken.rest.types;
  calls = put.rest.calls ∙ ap (λ (p : Program _ _). p.calls) went_on;
  places = put.rest.places ∙ ap (λ (p : Program _ _). p.places) went_on ∙ taken.rest.places;
  names = put.rest.names ∙ ap (λ (p : Program _ _). p.names) went_on ∙ taken.rest.names;
}
  where
    between : (m : ℕ) → place_at went m ≡ place_at mid m
    between m = same-places went mid (ap (λ (p : Program _ _). p.seats) went_on) m

-- where the calls stay
pub swaps-still : {T D : Type 0} (n : ℕ) (a b : Place T D) (old mid new : Program T D) → place_at old n ≡ Some a
    → TakesPlace n place.Moving old mid → TakesPlace n b mid new → Swaps n a b old.calls old new
swaps-still n a b old mid new was taken put = subst (λ later. Swaps n a b later old new) taken.rest.calls
    (swaps n a b mid.calls old mid mid new was taken refl put)

-- and then a third in the place of that
pub swaps-again : {T D : Type 0} (n : ℕ) (a b c : Place T D) (later : Mail) (old mid new : Program T D) → Swaps n a b later old mid
    → place_at new n ≡ Some c → ((m : ℕ) → (m == n) ≡ false → place_at new m ≡ place_at mid m) → KeepsRest mid new
    → Swaps n a c later old new
swaps-again n a b c later old mid new x there others rest = record {
  was = x.was;
  here = there;
  others = λ m other. others m other ∙ x.others m other;
  count = rest.count ∙ x.count;
  types = rest.types ∙ x.types;
  calls = rest.calls ∙ x.calls;
  places = rest.places ∙ x.places;
  names = rest.names ∙ x.names;
}

-- 2. The whole, and the agendas

whole-nodes : {T D : Type 0} (seen : T → Seen) (n : ℕ) (a b : Place T D) (later : Mail) (old new : Program T D) → Swaps n a b later old new
    → AreWhole seen old → ((t : ScheduledNode T D) → b ≡ place.Up t → IsWholeAt seen n t) → AreWhole seen new
whole-nodes seen n a b later old new x whole node m t at = go (m == n) refl
  where
    go : (y : Bool) → (m == n) ≡ y → IsWholeAt seen m t
    go true is = subst (λ j. IsWholeAt seen j t) (sym (eqb-true m n is))
        (node t (let e : Some b ≡ Some (place.Up t) = sym x.here ∙ ap (place_at new) (sym (eqb-true m n is)) ∙ at in cc e))
    go false other = whole m t (sym (x.others m other) ∙ at)

pub seated-behind : {T D : Type 0} (n : ℕ) (a b : Place T D) (later : Mail) (old new : Program T D) → Swaps n a b later old new
    → AreSeated old → b ≢ place.Moving → AreSeated new
seated-behind n a b later old new x seated still m at = go (m == n) refl
  where
    go : (y : Bool) → (m == n) ≡ y → ⊥
    go true is = still (let e : Some b ≡ Some place.Moving = sym x.here ∙ ap (place_at new) (sym (eqb-true m n is)) ∙ at in cc e)
    go false other = seated m (sym (x.others m other) ∙ at)

pub whole-behind : {T D : Type 0} (seen : T → Seen) (n : ℕ) (a b : Place T D) (later : Mail) (old new : Program T D)
    → Swaps n a b later old new → FitsTogether seen old → ((t : ScheduledNode T D) → b ≡ place.Up t → IsWholeAt seen n t)
    → b ≢ place.Moving → FitsTogether seen new
whole-behind seen n a b later old new x fits node still = record {
  nodes = whole-nodes seen n a b later old new x fits.nodes node;
  places = record {
    seats = subst (λ m. m ≤ 8) (sym x.count) fits.places.seats;
    nodes = ap (λ p. p.nodes) x.places ∙ fits.places.nodes;
  };
  seated = seated-behind n a b later old new x fits.seated still;
}

pub agendas-behind : {T D : Type 0} (n : ℕ) (a b : Place T D) (later : Mail) (old new : Program T D) → Swaps n a b later old new
    → HaveAgendas old → ((t : ScheduledNode T D) → b ≡ place.Up t → IsAgenda (indices_of t.agenda) (parts_of old.types t.node.ejects))
    → HaveAgendas new
agendas-behind n a b later old new x have node m t at = subst (λ ts. IsAgenda (indices_of t.agenda) (parts_of ts t.node.ejects))
    (sym x.types) (go (m == n) refl)
  where
    go : (y : Bool) → (m == n) ≡ y → IsAgenda (indices_of t.agenda) (parts_of old.types t.node.ejects)
    go true is = node t (let e : Some b ≡ Some (place.Up t) = sym x.here ∙ ap (place_at new) (sym (eqb-true m n is)) ∙ at in cc e)
    go false other = have m t (sym (x.others m other) ∙ at)

-- the node that stands there has the number of the place
pub number-kept : {T D : Type 0} (seen : T → Seen) (n : ℕ) (s t : ScheduledNode T D) → IsWholeAt seen n s → seen t.node.store
    ≡ seen s.node.store
    → IsWhole (held seen t.node) → IsWholeAt seen n t
number-kept seen n s t was same whole = record {
  whole = whole;
  number = whole.number ∙ ap (λ (x : Seen). x.node) same ∙ sym was.whole.number ∙ was.number;
}

-- 3. What is in hand

pub takes-seat : {T D : Type 0} (seen : T → Seen) (look : D → DiskSeen) (n : ℕ) (a b : Place T D) (seat : Seat) (later : Mail)
    (old new : Program T D) → Swaps n a b later old new → seen_at seen look (Some b) ≡ Some seat
    → TakesSeat n seat later (in_hand seen look old) (in_hand seen look new)
takes-seat seen look n a b seat later old new x is = record {
  types = x.types;
  here = ap (seen_at seen look) x.here ∙ is;
  others = λ m other. ap (seen_at seen look) (x.others m other);
  mail = x.calls;
  places = x.places;
  names = λ name. ap (λ ns. meanings ns name) x.names;
}
