-- A node goes down, or a link is cut, in a program: what is in hand before and after all are told.
use Rattle.std.proofs.Common.{◌≡◌, ◌==◌, ℕ, suc, Bool, false, List, Option, Some, ◌∙◌, ap, subst, arith}
use Rattle.std.specs.Option.{option_map}
use Rattle.eden_disk.specs.declared.disk.ImageMode.{ImageMode}
use Rattle.eden_model.specs.Traffic.{Traffic, numbers_of, broken_by_node, without_node}
use Rattle.invocation.specs.Carries.{Carries}
use Rattle.passive_store.specs.Kept.{Layout}
use Rattle.passive_store.specs.Seen.{Seen, DiskSeen}
use Rattle.journal.specs.declared.event.Key.{Key}
use Rattle.scheduled_node.specs.declared.ScheduledNode.{ScheduledNode}
use Rattle.shell_names.specs.Names.{meanings}
use Rattle.eden_world.specs.Breaking.{Loses, Leaves, FallsAndTells}
use Rattle.eden_world.specs.InHand.{place_at, seen_at, in_hand, HaveAgendas}
use Rattle.eden_world.specs.Seated.{KeepsRest, Vacates, station_at}
use Rattle.eden_world.specs.Steps.{disk_of}
use Rattle.eden_world.specs.Told.{Reseats, SetsUp, SameDisks}
use Rattle.eden_world.specs.Worlds.{down}
use Rattle.eden_world.specs.declared.World.{World as Program}
use Rattle.eden_world.specs.Taken.{StarvesAtEach}
use Rattle.eden_world.proofs.Falls.{ends-level}
use Rattle.eden_world.proofs.Placing.{same-places}
use Rattle.eden_world.proofs.TellingAll.{node-up}

-- 1. A node goes down

module _ {T D : Type 0} (tells obeys : Bool) (layout : Layout) (seen : T → Seen) (look : D → DiskSeen) (mode : Option ImageMode) (n : ℕ)
    (s : ScheduledNode T D) (old mid new : Program T D) (was : station_at old n ≡ Some s)
    (v : Vacates tells obeys layout seen look mode s (place_at mid n))
    (others : (m : ℕ) → (m == n) ≡ false → place_at mid m ≡ place_at old m) (rest : KeepsRest old mid) where
  reseats : Reseats n (down v.noted (look v.disk)) (in_hand seen look old) (in_hand seen look mid)
  reseats = record {
    types = rest.types;
    here = ap (seen_at seen look) v.there;
    others = λ m other. ap (seen_at seen look) (others m other);
    names = λ name. ap (λ ns. meanings ns name) rest.names;
  }

  pub vacated-leaves : SameDisks (in_hand seen look mid) (in_hand seen look new)
      → Leaves tells obeys layout seen look mode n s old new
  vacated-leaves same = record {
    between = in_hand seen look mid;
    noted = v.noted;
    disk = look v.disk;
    left = v.left;
    seats = reseats;
    disks = same;
  }

  pub vacated-falls : (names : List (List ℕ)) → (HaveAgendas old → HaveAgendas mid) → Loses layout seen look n names mid new
      → FallsAndTells tells obeys layout seen look mode n s names old new
  vacated-falls names kept x = record {
    between = x.between;
    noted = v.noted;
    disk = look v.disk;
    numbers = x.numbers;
    left = v.left;
    fell = record {
      was_up = ap (seen_at seen look) (node-up (place_at old n) s was);
      seats = record {
        types = x.without.types ∙ reseats.types;
        here = x.without.seats n ∙ reseats.here;
        others = λ m other. x.without.seats m ∙ reseats.others m other;
        names = λ name. x.without.names name ∙ reseats.names name;
      };
      places = subst (λ pl. SetsUp n false pl x.between.places) rest.places x.without.places;
      calls = subst (λ y. (t : Traffic) → Carries y t → (x.numbers ≡ numbers_of (broken_by_node n) t)
          × Carries x.between.mail (without_node n t)) rest.calls x.without.calls;
    };
    told = x.tells;
    agendas = λ more key k clock last telling have. x.agendas more key k clock last telling (kept have);
  }

-- 2. Where no place changed

-- there was no memory, and the nodes and the disks are as they were
pub still-starves : {T D : Type 0} (tells : Bool) (layout : Layout) (seen : T → Seen) (look : D → DiskSeen) (key : Key)
    (old new : Program T D)
    → new.seats ≡ old.seats → StarvesAtEach tells layout seen look old new key
still-starves tells layout seen look key old new same more w reached stood there =
    ends-level layout (suc more) more (in_hand seen look old) (in_hand seen look new) w (omega arith) stood.world
    (λ m. ap (λ o. option_map disk_of (seen_at seen look o)) (same-places new old same m))
