-- A link is cut: its calls break, and the processes at both ends are told.
use Rattle.std.proofs.Common.{◌≡◌, ◌==◌, ℕ, suc, Bool, true, false, cond, not, ◌&&◌, ◌||◌, List, [], ◌∷◌, Option, None}
use Rattle.std.proofs.Common.{Some}
use Rattle.std.proofs.Common.{refl, sym, ◌∙◌, ap, subst, arith}
use Rattle.std.specs.Prelude.{IsSomeAnd, slice_index_or}
use Rattle.std.specs.List.{filter_map, list_any, AllByRecursion}
use Rattle.std.specs.Option.{option_map}
use Rattle.std.proofs.lemmas.Bool.{eqb-true, eq-eqb}
use Rattle.epl_syntax.specs.Meaning.{types_in}
use Rattle.eden_model.specs.Traffic.{without_link, broken_by_link, names_of, processes_of}
use Rattle.invocation.specs.Carries.{Carries}
use Rattle.locator.specs.Reach.{same_link}
use Rattle.passive_store.specs.Kept.{Layout}
use Rattle.journal.specs.declared.command.Command.TheVariants as command
use Rattle.journal.specs.declared.event.Event.TheVariants as event
use Rattle.journal.specs.declared.event.Entry.{Entry}
use Rattle.journal.specs.World.{World, Node, node_at, site_of, joins}
use Rattle.journal.specs.Commands.{AllowsCommand}
use Rattle.journal.specs.Crashes.{linked, tells_each}
use Rattle.journal.specs.Sites.{AllSound, AreNumbered}
use Rattle.journal.specs.Standing.{state}
use Rattle.journal.specs.Step.{ClockFits, StoreClock, breaks, touched, happened, next, key_of}
use Rattle.checkpoint.proofs.Lifts.{lift-elsewhere}
use Rattle.ejects.proofs.Keeping.{keeps-without_link}
use Rattle.eden_world.specs.Worlds.{Seat, InHand, IsNumber, WorldStands, SeatStands}
use Rattle.eden_world.specs.Steps.{disk_of, step_by, Goes}
use Rattle.eden_world.specs.Told.{Cuts, SameDisks, waiting_at, name_at, CanBeTold, marked, IsTelling}
use Rattle.eden_world.proofs.Alike.{seat-alike}
use Rattle.eden_world.proofs.Broken.{broken-names, broken-processes, askers-without_link, can-cut}
use Rattle.eden_world.proofs.NodeKeys.{number-of}
use Rattle.eden_world.proofs.Falls.{some-number, seat-level}
use Rattle.eden_world.proofs.States.{states-told}
use Rattle.eden_world.proofs.Telling.{telling-done}

-- 1. The links

same-order : (a b : ℕ) → (a == b) ≡ (b == a)
same-order a b = go (a == b) refl (b == a) refl
  where
    go : (x : Bool) → (a == b) ≡ x → (y : Bool) → (b == a) ≡ y → (a == b) ≡ (b == a)
    go true x true y = x ∙ sym y
    go false x false y = x ∙ sym y
    go true x false y = absurd (let bad : true ≡ false = sym (eq-eqb b a (sym (eqb-true a b x))) ∙ y in cc bad)
    go false x true y = absurd (let bad : true ≡ false = sym (eq-eqb a b (sym (eqb-true b a y))) ∙ x in cc bad)

either-way : (p q r s : Bool) → ((p && q) || (r && s)) ≡ ((p && q) || (s && r))
either-way p q true true = refl
either-way p q true false = refl
either-way p q false true = refl
either-way p q false false = refl

joins-same : (x y a b : ℕ) → joins x y (a, b) ≡ same_link a b x y
joins-same x y a b = ap (λ p. (p && (b == y)) || ((a == y) && (b == x))) (same-order a x)
    ∙ ap (λ p. ((x == a) && p) || ((a == y) && (b == x))) (same-order b y)
    ∙ ap (λ p. ((x == a) && (y == b)) || (p && (b == x))) (same-order a y)
    ∙ ap (λ p. ((x == a) && (y == b)) || ((y == a) && p)) (same-order b x)
    ∙ either-way (x == a) (y == b) (y == a) (x == b)

-- what is cut besides
cut-more : (x y a b : ℕ) (cuts : List (ℕ × ℕ)) → not (list_any (joins x y) ((a, b) ∷ cuts)) ≡ cond (same_link a b x y) false
    (not (list_any (joins x y) cuts))
cut-more x y a b cuts = ap (λ p. not (p || list_any (joins x y) cuts)) (joins-same x y a b) ∙ go (same_link a b x y)
  where
    go : (p : Bool) → not (p || list_any (joins x y) cuts) ≡ cond p false (not (list_any (joins x y) cuts))
    go true = refl
    go false = refl

-- 2. A cut begins: the calls over the link are broken, and the places know it

module _ (layout : Layout) (more : ℕ) (old mid : InHand) (w : World) (a b : ℕ) (numbers : List ℕ)
    (is : WorldStands layout (suc more) old w) (sound : AllSound w) (numbered : AreNumbered 1 w.traffic.calls)
    (cut : Cuts a b numbers old mid) where
  abbrev without : World
  without = record w { cuts = (a, b) ∷ w.cuts; traffic = without_link a b w.traffic }

  carries : Carries mid.mail (without_link a b w.traffic)
  carries = (cut.calls w.traffic is.calls).1

  waiters : filter_map (waiting_at mid.mail) numbers ≡ processes_of (broken_by_link a b) w.traffic
  waiters = ap (filter_map (waiting_at mid.mail)) (cut.calls w.traffic is.calls).0
      ∙ sym (broken-processes (broken_by_link a b) old.mail mid.mail w.traffic (without_link a b w.traffic) is.calls carries
      (askers-without_link a b w.traffic))

  seat-kept : (k : ℕ) (it : Node) → node_at w k ≡ Some it
      → IsSomeAnd (mid.seats k) (SeatStands layout mid.types mid.mail more (site_of without k it))
  seat-kept k it at = subst (λ ts. IsSomeAnd (mid.seats k) (SeatStands layout ts mid.mail more (site_of without k it))) (sym cut.types)
      (subst (λ o. IsSomeAnd o (SeatStands layout old.types mid.mail more (site_of without k it))) (sym (cut.seats k))
      (by_seat (old.seats k) (is.nodes k it at)))
    where
      by_seat : (o : Option Seat) → IsSomeAnd o (SeatStands layout old.types old.mail (suc more) (site_of w k it))
          → IsSomeAnd o (SeatStands layout old.types mid.mail more (site_of without k it))
      by_seat None h = absurd h
      by_seat (Some x) h = seat-alike layout old.types old.mail mid.mail (suc more) more (site_of w k it) (site_of without k it) x
          (omega arith)
          (record { number = refl; types = refl; layout = refl; node = refl }) (keeps-without_link a b w.traffic) carries h

  pub cut-begins : IsTelling layout more None 0 0 (linked a b false w) mid numbers
  cut-begins = record {
    world = without;
    numbers = is.numbers;
    stands = record {
      its_layout = is.its_layout;
      its_types = is.its_types ∙ ap types_in (sym cut.types);
      numbers = is.numbers;
      nodes = seat-kept;
      no_more = λ k none. cut.seats k ∙ is.no_more k none;
      calls = carries;
      ups = λ n. ap (λ us. not (n == 0) && slice_index_or us n false) cut.up ∙ is.ups n;
      links = λ x y to from. cut.links x y to from ∙ ap (cond (same_link a b x y) false) (is.links x y to from) ∙ sym
          (cut-more x y a b w.cuts);
      names = λ name. is.names name ∙ sym (cut.names name);
    };
    can = subst (AllByRecursion (CanBeTold 0 without)) (sym waiters)
        (can-cut w without a b sound numbered (λ m. refl) (λ m it at. some-number m (number-of w m it is.numbers at).first));
    ends = ap (λ qs. tells_each qs without) waiters;
  }

-- 3. It ends: all are told, and the entry is written

pub cut-goes : (layout : Layout) (more : ℕ) (old mid new : InHand) (w : World) (a b : ℕ) (numbers : List ℕ) (e : Entry)
    → WorldStands layout (suc more) old w → AllSound w → Cuts a b numbers old mid → e.event ≡ event.Link a b false → e.node ≡ 0
    → e.clock ≡ 0 → e.broken ≡ filter_map (name_at mid.mail) numbers → SameDisks mid new
    → IsTelling layout more None 0 0 (linked a b false w) new [] → Goes layout more w (Some (command.Cut a b)) e old new
cut-goes layout more old mid new w a b numbers e is sound cut its_event node clock names same telling = record {
  allowed = record {
    event = subst (AllowsCommand w (command.Cut a b)) (sym its_event) (refl, refl, refl);
    broken = names ∙ ap (filter_map (name_at mid.mail)) (cut.calls w.traffic is.calls).0
        ∙ sym (broken-names (broken_by_link a b) old.mail mid.mail w.traffic (without_link a b w.traffic) is.calls
        (cut.calls w.traffic is.calls).1 (askers-without_link a b w.traffic)) ∙ sym (ap (λ ev. names_of (breaks ev) w.traffic) its_event);
    disk = node ∙ sym (ap (touched w) its_event);
    clock = subst (λ k. ClockFits w k e.clock) (sym node) clock;
    store_clock = subst (λ ev. StoreClock w ev e.clock) (sym its_event) tt;
  };
  stands = subst (WorldStands layout more new) (sym next_is) (telling-done layout more None 0 0 (linked a b false w) new telling);
  disks = λ m number. seat-level layout m (step_by w (Some (command.Cut a b)) e) (old.seats m) (new.seats m)
      (same m ∙ ap (option_map disk_of) (cut.seats m))
      (λ d. lift-elsewhere layout m (step_by w (Some (command.Cut a b)) e) d.told d.counts.clock
      (ap (λ k. k == m) node ∙ none m number) (ap (λ v. state v m) next_is ∙ states-told (processes_of (broken_by_link a b) w.traffic)
      (record w { cuts = (a, b) ∷ w.cuts; traffic = without_link a b w.traffic })
      (λ k it at. (sound k it at).node.in_order) m));
}
  where
    next_is : next w (Some (command.Cut a b)) e ≡ marked None 0 0 (linked a b false w)
    next_is = ap (λ v. marked (key_of e.event) e.node e.clock v) (ap (happened w (Some (command.Cut a b))) its_event)
        ∙ ap (λ ev. marked (key_of ev) e.node e.clock (linked a b false w)) its_event
        ∙ ap (λ k. marked None k e.clock (linked a b false w)) node ∙ ap (λ k. marked None 0 k (linked a b false w)) clock

    none : (m : ℕ) → IsNumber m → (0 == m) ≡ false
    none m number = go (0 == m) refl
      where
        go : (x : Bool) → (0 == m) ≡ x → x ≡ false
        go false at = refl
        go true at = absurd (omega (arith, number.first, eqb-true 0 m at))
