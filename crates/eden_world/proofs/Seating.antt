-- What stands at a place changes, look-up by look-up.
use Rattle.std.proofs.Common.{◌≡◌, ℕ, zero, suc, ◌==◌, ◌<◌, ◌≤◌, Bool, true, false, length, Option, None, Some, refl, sym, ◌∙◌, ap}
use Rattle.std.proofs.Common.{subst, arith, get_or}
use Rattle.std.specs.Vec as vec
use Rattle.std.proofs.lemmas.List.{length-set}
use Rattle.std.proofs.lemmas.Option.{slice_get-get_or, slice_get_past}
use Rattle.eden_model.proofs.CrewLaws.{get-set_same, get-set_other}
use Rattle.passive_store.specs.Seen.{Seen}
use Rattle.ejects.specs.View.{parts_of}
use Rattle.agenda.specs.Keys.{IsAgenda}
use Rattle.agenda.specs.Indexed.{indices_of}
use Rattle.scheduled_node.specs.declared.ScheduledNode.{ScheduledNode}
use Rattle.eden_world.specs.InHand.{place_at, AreWhole, HaveAgendas, IsWholeAt}
use Rattle.eden_world.specs.Seated.{TakesPlace, KeepsRest, HasPlaces, instead, station_in}
use Rattle.eden_world.specs.declared.seats.Seat.{Seat as Place}
use Rattle.eden_world.specs.declared.seats.Seat.TheVariants as place
use Rattle.eden_world.specs.declared.World.{World as Program}

-- 1. One place

abbrev pub with-seat : {T D : Type 0} → Program T D → ℕ → Place T D → Program T D
with-seat p i new = record {
  types = p.types;
  seats = vec.with_item p.seats i new;
  calls = p.calls;
  places = p.places;
  names = p.names;
}

pub seat-taken : {T D : Type 0} (p : Program T D) (n i : ℕ) (new : Place T D) → n ≡ suc i → i < p.seats.len
    → TakesPlace n new p (with-seat p i new)
seat-taken p zero i new is inside = absurd (cc is)
seat-taken p (suc n) i new is inside =
    let same : n ≡ i = cc is in
    let within : i < length p.seats.items = subst (λ l. i < l) p.seats.ok.0 inside in
    subst (λ k. TakesPlace (suc k) new p (with-seat p i new)) (sym same) (record {
      here = let there = slice_get-get_or p.seats.items i new within in
          get-set_same p.seats.items i new (get_or p.seats.items i new) there ∙ sym (ap (instead new) there);
      others = others;
      rest = record {
        count = length-set p.seats.items i new;
        types = refl;
        calls = refl;
        places = refl;
        names = refl;
      };
    })
  where
    others : (m : ℕ) → (m == suc i) ≡ false → place_at (with-seat p i new) m ≡ place_at p m
    others zero apart = refl
    others (suc m) apart = get-set_other p.seats.items i m new (λ e. grind (arith, apart, e))

pub none-there : {T D : Type 0} (p : Program T D) (n i : ℕ) → n ≡ suc i → (i < p.seats.len → ⊥) → place_at p n ≡ None
none-there p zero i is past = absurd (cc is)
none-there p (suc n) i is past =
    let same : n ≡ i = cc is in
    slice_get_past p.seats.items n (behind (subst (λ l. i < l → ⊥) p.seats.ok.0 past) same)
  where
    behind : (i < length p.seats.items → ⊥) → n ≡ i → length p.seats.items ≤ n
    behind not_less same = omega (arith, not_less, same)

pub none-taken : {T D : Type 0} (p : Program T D) (n : ℕ) (new : Place T D) → place_at p n ≡ None → TakesPlace n new p p
none-taken p n new none = record {
  here = none ∙ sym (ap (instead new) none);
  others = λ m apart. refl;
  rest = record { count = refl; types = refl; calls = refl; places = refl; names = refl };
}

-- 2. The whole behind it

-- what holds of each node that is up holds behind it, if it holds of the new one
up-behind : {T D : Type 0} (Q : ℕ → ScheduledNode T D → Type 0) (old new : Program T D) (n : ℕ)
    → ((m : ℕ) → (m == n) ≡ false → place_at new m ≡ place_at old m)
    → ((s : ScheduledNode T D) → place_at new n ≡ Some (place.Up s) → Q n s)
    → ((m : ℕ) (s : ScheduledNode T D) → place_at old m ≡ Some (place.Up s) → Q m s) → (m : ℕ) (s : ScheduledNode T D)
    → place_at new m ≡ Some (place.Up s) → Q m s
up-behind Q old new n others here each m s at = go (m == n) refl
  where
    go : (b : Bool) → (m == n) ≡ b → Q m s
    go true is = let same : m ≡ n = grind (arith, is) in
        subst (λ k. Q k s) (sym same) (here s (subst (λ k. place_at new k ≡ Some (place.Up s)) same at))
    go false is = each m s (sym (others m is) ∙ at)

pub whole-behind : {T D : Type 0} (seen : T → Seen) (old new : Program T D) (n : ℕ)
    → ((m : ℕ) → (m == n) ≡ false → place_at new m ≡ place_at old m)
    → ((s : ScheduledNode T D) → place_at new n ≡ Some (place.Up s) → IsWholeAt seen n s) → AreWhole seen old → AreWhole seen new
whole-behind seen old new n others here each = up-behind (IsWholeAt seen) old new n others here each

pub agendas-behind : {T D : Type 0} (old new : Program T D) (n : ℕ)
    → ((m : ℕ) → (m == n) ≡ false → place_at new m ≡ place_at old m) → new.types ≡ old.types
    → ((s : ScheduledNode T D) → place_at new n ≡ Some (place.Up s) → IsAgenda (indices_of s.agenda) (parts_of new.types s.node.ejects))
    → HaveAgendas old → HaveAgendas new
agendas-behind old new n others types here each =
    up-behind (λ m s. IsAgenda (indices_of s.agenda) (parts_of new.types s.node.ejects)) old new n others here
    (λ m s at. subst (λ ts. IsAgenda (indices_of s.agenda) (parts_of ts s.node.ejects)) (sym types) (each m s at))

-- of a place that no node stands at
not-up : {T D : Type 0} (o : Option (Place T D)) (s : ScheduledNode T D) → station_in o ≡ None → o ≡ Some (place.Up s) → ⊥
not-up o s none at = let bad : None ≡ Some s = sym none ∙ ap station_in at in cc bad

pub whole-without : {T D : Type 0} (seen : T → Seen) (old new : Program T D) (n : ℕ)
    → ((m : ℕ) → (m == n) ≡ false → place_at new m ≡ place_at old m) → station_in (place_at new n) ≡ None
    → AreWhole seen old → AreWhole seen new
whole-without seen old new n others none =
    whole-behind seen old new n others (λ s at. absurd (not-up (place_at new n) s none at))

pub agendas-without : {T D : Type 0} (old new : Program T D) (n : ℕ)
    → ((m : ℕ) → (m == n) ≡ false → place_at new m ≡ place_at old m) → new.types ≡ old.types → station_in (place_at new n) ≡ None
    → HaveAgendas old → HaveAgendas new
agendas-without old new n others types none =
    agendas-behind old new n others types (λ s at. absurd (not-up (place_at new n) s none at))

pub places-behind : {T D : Type 0} (old new : Program T D) → KeepsRest old new → HasPlaces old → HasPlaces new
places-behind old new rest places = record {
  seats = subst (λ m. m ≤ 8) (sym rest.count) places.seats;
  nodes = ap (λ ps. ps.nodes) rest.places ∙ places.nodes;
}

-- nothing stands there that is up while it moves
pub moving-down : {T D : Type 0} (o p : Option (Place T D)) → o ≡ instead place.Moving p → station_in o ≡ None
moving-down o None is = ap station_in is
moving-down o (Some s) is = ap station_in is
