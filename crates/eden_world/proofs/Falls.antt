-- A node goes down, by a crash or a stop: what is in hand is on the way to the world behind it, and stands for that once all are told.
use Rattle.journal.specs.Run.{Step}
use Rattle.std.proofs.Common.{◌≡◌, ◌==◌, ◌≤◌, ◌+◌, ◌*◌, inl, ℕ, zero, suc, Bool, true, false, List, [], Option, None}
use Rattle.std.proofs.Common.{Some, is_some}
use Rattle.std.proofs.Common.{refl, sym, ◌∙◌, ap, subst, arith}
use Rattle.std.specs.Prelude.{IsSomeAnd, IfSome, slice_index_or}
use Rattle.std.specs.List.{filter_map, AllByRecursion}
use Rattle.std.specs.Option.{option_map}
use Rattle.std.proofs.lemmas.Bool.{eqb-true, eq-eqb}
use Rattle.eden_model.specs.Map.{with_item}
use Rattle.eden_model.specs.Traffic.{without_node, broken_by_node, names_of, processes_of}
use Rattle.invocation.specs.Carries.{Carries}
use Rattle.passive_store.specs.declared.store.Doubt.{Doubt}
use Rattle.passive_store.specs.Kept.{Layout}
use Rattle.passive_store.specs.Seen.{DiskSeen}
use Rattle.journal.specs.declared.command.Command.{Command}
use Rattle.journal.specs.declared.event.Key.{Key}
use Rattle.journal.specs.declared.event.Event.{Event}
use Rattle.journal.specs.declared.event.Entry.{Entry}
use Rattle.journal.specs.World.{World, Node, Site, node_at, site_of, at_node, on_node, on_traffic, reaches}
use Rattle.journal.specs.Crashes.{crashed, tells_each}
use Rattle.journal.specs.Falls.{before_fall}
use Rattle.journal.specs.Kept.{crashes}
use Rattle.journal.specs.Sites.{AllSound, InOrder}
use Rattle.journal.specs.Standing.{state, epoch_put, unfinished}
use Rattle.journal.specs.Step.{AllowsAt, AllowsEvent, ClockFits, StoreClock, breaks, touched, happened}
use Rattle.journal.specs.Step.{next}
use Rattle.journal.specs.Step.{key_of, site_turn, stopped_at}
use Rattle.history_laws.proofs.Falling.{falls-turn, quiet-before}
use Rattle.history_laws.proofs.Frame.{after_at, node-at_same, node-at_other}
use Rattle.history_laws.proofs.SiteFrames.{keeps-site}
use Rattle.checkpoint.specs.Throughout.{StepOnDisk}
use Rattle.checkpoint.specs.StoreStands.{NodeOnDisk}
use Rattle.checkpoint.specs.Turns.{with_clock, RestStands}
use Rattle.checkpoint.proofs.Lifts.{lift-elsewhere, ends-whole}
use Rattle.checkpoint.proofs.Throughout.{timed-rises}
use Rattle.checkpoint.proofs.WorldTurns.{lift-down}
use Rattle.ejects.proofs.KeptClasses.{Keeps}
use Rattle.ejects.proofs.Keeping.{keeps-without_node}
use Rattle.eden_kernel.specs.Boots.{IsAsleep}
use Rattle.eden_kernel.specs.Stands.{Held}
use Rattle.eden_kernel.specs.Turns.{Falls}
use Rattle.eden_world.specs.Worlds.{Seat, up, down, InHand, IsNumber, WorldStands, SeatStands, UpStands}
use Rattle.eden_world.specs.Steps.{disk_of, step_by, SeatStep, EachDisk, Goes, DiskEnds, SeatEnds, EachEnds}
use Rattle.eden_world.specs.Told.{Fell, EntryShows, SameDisks, waiting_at, name_at, CanBeTold, marked, IsTelling}
use Rattle.eden_world.proofs.SeatRoom.{told-less, world-room}
use Rattle.eden_world.proofs.Alike.{Alike, rest-alike, asleep-alike}
use Rattle.eden_world.proofs.Broken.{broken-names, broken-processes, askers-without_node, can-fall}
use Rattle.eden_world.proofs.NodeKeys.{number-of, node-there, numbers-at_node}
use Rattle.eden_world.proofs.Reach.{ups-set}
use Rattle.eden_world.proofs.Reseating.{Renodes, renodes-turn, with_time, traffic-marked, traffic-at_node, node-marked_other}
use Rattle.eden_world.proofs.Reseating.{reseated}
use Rattle.eden_world.proofs.States.{IsOrderly, states-told, state-shown}
use Rattle.eden_world.proofs.Telling.{telling-done}

-- 1. The site behind the fall

pub alike-timed : (c n : ℕ) (s : Site) (w : World) → s.number ≡ n → s.types ≡ w.types → s.layout ≡ w.layout
    → Alike (with_clock c s) (site_of w n (with_time c s.node))
unfolding on_node
alike-timed c n s w number types layout = record { number = sym number; types = sym types; layout = sym layout; node = refl }

pub up-timed : (c : ℕ) (s : Site) → (with_clock c s).node.up ≡ s.node.up
unfolding on_node
up-timed c s = refl

crashed-traffic : (s : Site) → (crashed s).traffic ≡ without_node s.number s.traffic
unfolding on_node on_traffic
crashed-traffic s = refl

pub ordered-timed : (c : ℕ) (s : Site) → InOrder (with_clock c s).node.ejects → InOrder s.node.ejects
unfolding on_node
ordered-timed c s h = h

pub some-number : (n : ℕ) → 1 ≤ n → (n == 0) ≡ false
some-number n some = go (n == 0) refl
  where
    go : (b : Bool) → (n == 0) ≡ b → b ≡ false
    go false is = refl
    go true is = absurd (omega (arith, some, eqb-true n 0 is))

-- the node of a place
pub node-of : {seat : Seat} (layout : Layout) (more : ℕ) (h : InHand) (w : World) (n : ℕ) → WorldStands layout more h w
    → h.seats n ≡ Some seat → (it : Node) × (node_at w n ≡ Some it)
node-of {seat} layout more h w n is sits = go (node_at w n) refl
  where
    go : (o : Option Node) → node_at w n ≡ o → (it : Node) × (node_at w n ≡ Some it)
    go None none = absurd (let bad : None ≡ Some seat = sym (is.no_more n none) ∙ sits in cc bad)
    go (Some it) at = (it, at)

-- and of a disk
pub node-of_disk : {d : DiskSeen} (layout : Layout) (more : ℕ) (h : InHand) (w : World) (n : ℕ) → WorldStands layout more h w
    → option_map disk_of (h.seats n) ≡ Some d → (it : Node) × (node_at w n ≡ Some it)
node-of_disk {d} layout more h w n is there = go (h.seats n) refl there
  where
    go : (o : Option Seat) → h.seats n ≡ o → option_map disk_of o ≡ Some d → (it : Node) × (node_at w n ≡ Some it)
    go None sits has = absurd (cc has)
    go (Some seat) sits has = node-of layout more h w n is sits

-- there is a first one
pub first-node : (layout : Layout) (more : ℕ) (h : InHand) (w : World) → WorldStands layout more h w
    → (it : Node) × (node_at w 1 ≡ Some it)
first-node layout more h w is = go (node_at w 1) refl (node-there w 1 is.numbers (omega arith) is.numbers.some)
  where
    go : (o : Option Node) → node_at w 1 ≡ o → is_some (node_at w 1) ≡ true → (it : Node) × (node_at w 1 ≡ Some it)
    go None none some = absurd (let bad : false ≡ true = sym (ap is_some none) ∙ some in cc bad)
    go (Some it) at some = (it, at)

-- the node at the place is up
pub up-at : (layout : Layout) (more : ℕ) (h : InHand) (w : World) (n : ℕ) (it : Node) (a : Held) → WorldStands layout more h w
    → node_at w n ≡ Some it → h.seats n ≡ Some (up a) → UpStands layout h.types h.mail more (site_of w n it) a
up-at layout more h w n it a is at seat =
    subst (λ o. IsSomeAnd o (SeatStands layout h.types h.mail more (site_of w n it))) seat (is.nodes n it at)

pub its-node : (layout : Layout) (more n : ℕ) (h : InHand) (w : World) (it : Node) (a : Held)
    → UpStands layout h.types h.mail more (site_of w n it) a → a.seen.node ≡ n
its-node layout more n h w it a x = sym x.whole.number ∙ x.number

-- 2. A fall begins: the node is down, its calls are broken, and the places know it

module _ (layout : Layout) (more : ℕ) (old mid : InHand) (w : World) (n : ℕ) (it : Node) (event : Event) (noted : Option Doubt)
    (d : DiskSeen)
    (left : ℕ) (numbers : List ℕ) (is : WorldStands layout (suc more) old w) (sound : AllSound w) (at : node_at w n ≡ Some it)
    (allowed : AllowsAt (site_of w n it) event) (falls : crashes n event ≡ true)
    (rests : RestStands layout n left (with_clock d.counts.clock (site_turn (reaches w n) event (site_of w n it))) noted d.counts.size
    d.counts.clock d.told) (room : more ≤ left)
    (asleep : IsAsleep (with_clock d.counts.clock (site_turn (reaches w n) event (site_of w n it))))
    (a : Held) (fell : Fell n a noted d numbers old mid) where
  carries : Carries mid.mail (without_node n w.traffic)
  carries = (fell.calls w.traffic is.calls).1

  abbrev turned : Site
  turned = site_turn (reaches w n) event (site_of w n it)

  abbrev world : World
  world = at_node n (site_turn (reaches w n) event) w

  fallen_traffic : turned.traffic ≡ without_node n w.traffic
  fallen_traffic = ap (λ (s : Site). s.traffic) (falls-turn (reaches w n) event (site_of w n it) allowed falls)
      ∙ crashed-traffic (before_fall event (site_of w n it))
      ∙ ap (λ k. without_node k (before_fall event (site_of w n it)).traffic) (quiet-before event (site_of w n it) falls).number
      ∙ ap (without_node n) (quiet-before event (site_of w n it) falls).traffic

  waiters : filter_map (waiting_at mid.mail) numbers ≡ processes_of (broken_by_node n) w.traffic
  waiters = ap (filter_map (waiting_at mid.mail)) (fell.calls w.traffic is.calls).0
      ∙ sym (broken-processes (broken_by_node n) old.mail mid.mail w.traffic (without_node n w.traffic) is.calls carries
      (askers-without_node n w.traffic))

  pub fall-begins : (key : Option Key) → IsTelling layout more key n d.counts.clock (stopped_at w n event) mid numbers
  fall-begins key = record {
    world = world;
    numbers = numbers-at_node n (site_turn (reaches w n) event) w is.numbers;
    stands = reseated layout (suc more) more old mid w later n (down noted d) (with_time d.counts.clock turned.node) is (omega arith)
        fell.seats nodes
        (record {
          asleep = asleep-alike (with_clock d.counts.clock turned) (site_of later n (with_time d.counts.clock turned.node)) alike asleep;
          disk = inl (
            left,
            room,
            rest-alike layout n left (with_clock d.counts.clock turned)
                (site_of later n (with_time d.counts.clock turned.node)) noted d.counts.size d.counts.clock d.told alike rests,
          );
        }) (subst (Carries mid.mail) (sym traffic) carries) (subst (Keeps w.traffic) (sym traffic) (keeps-without_node n w.traffic))
        (ups-set n false old.places mid.places w later (some-number n number.first) fell.places is.ups
        (ap (λ o. with_item o (λ (x : Node). x.up) false) nodes.here ∙ sym (up-timed d.counts.clock turned) ∙ rests.is_down)
        (λ m other. ap (λ o. with_item o (λ (x : Node). x.up) false) (nodes.others m other)))
        (λ a b x y. ap (λ (js : List Bool). slice_index_or js (9 * a + b) false) fell.places.joined);
    can = subst (AllByRecursion (CanBeTold n world)) (sym waiters)
        (can-fall w world n sound (sound n it at).numbered (λ m other. node-at_other m n (site_turn (reaches w n) event) w other));
    ends = ap (λ qs. tells_each qs world) waiters;
  }
    where
      number : IsNumber n
      number = number-of w n it is.numbers at

      later : World
      later = marked key n d.counts.clock world

      nodes : Renodes n (with_time d.counts.clock turned.node) w later
      nodes = renodes-turn key n d.counts.clock (site_turn (reaches w n) event) w it (some-number n number.first) is.numbers at

      traffic : later.traffic ≡ without_node n w.traffic
      traffic = traffic-marked key n d.counts.clock world ∙ traffic-at_node n (site_turn (reaches w n) event) w it at ∙ fallen_traffic

      alike : Alike (with_clock d.counts.clock turned) (site_of later n (with_time d.counts.clock turned.node))
      alike = alike-timed d.counts.clock n turned later (keeps-site (reaches w n) event (site_of w n it)).number
          ((keeps-site (reaches w n) event (site_of w n it)).types ∙ sym nodes.types)
          ((keeps-site (reaches w n) event (site_of w n it)).layout ∙ sym nodes.layout)

-- 3. A fall ends: all are told, and the entry is written

pub clock-fits : (w : World) (n c : ℕ) (it : Node) → (n == 0) ≡ false → node_at w n ≡ Some it → IfSome it.clock (λ b. b ≤ c) → ClockFits w
    n c
clock-fits w zero c it some is h = absurd (let bad : true ≡ false = some in cc bad)
clock-fits w (suc n) c it some is h = subst (λ o. IfSome (with_item o (λ (x : Node). x.clock) None) (λ b. b ≤ c)) (sym is) h

pub seat-step : (layout : Layout) (n : ℕ) (w : World) (c : Option Command) (e : Entry) (o p : Option Seat) (x y : DiskSeen)
    → option_map disk_of o ≡ Some x → option_map disk_of p ≡ Some y
    → StepOnDisk layout n (step_by w c e) x.told x.counts.clock y.told y.counts.clock → SeatStep layout n (step_by w c e) o p
seat-step layout n w c e None p x y a b h = absurd (cc a)
seat-step layout n w c e (Some s) None x y a b h = absurd (cc b)
seat-step layout n w c e (Some s) (Some t) x y a b h =
    let here : disk_of s ≡ x = cc a in
    let there : disk_of t ≡ y = cc b in
    subst (λ (z : DiskSeen). StepOnDisk layout n (step_by w c e) z.told z.counts.clock (disk_of t).told (disk_of t).counts.clock) (sym here)
    (subst (λ (z : DiskSeen). StepOnDisk layout n (step_by w c e) x.told x.counts.clock z.told z.counts.clock) (sym there) h)

-- a disk that was not touched, if there is such a place
pub seat-level : (layout : Layout) (n : ℕ) (s : Step) (o p : Option Seat) → option_map disk_of p ≡ option_map disk_of o
    → ((d : DiskSeen) → StepOnDisk layout n s d.told d.counts.clock d.told d.counts.clock) → SeatStep layout n s o p
seat-level layout n s None p same each = tt
seat-level layout n s (Some a) None same each = absurd (cc same)
seat-level layout n s (Some a) (Some b) same each = let is : disk_of b ≡ disk_of a = cc same in
    subst (λ (z : DiskSeen). StepOnDisk layout n s (disk_of a).told (disk_of a).counts.clock z.told z.counts.clock) (sym is)
    (each (disk_of a))

-- an entry on the disk of one node, which leaves the state of all others, and touches no other disk
pub disks-besides : (layout : Layout) (more n : ℕ) (old new : InHand) (w : World) (c : Option Command) (e : Entry) (x y : DiskSeen)
    → WorldStands layout more old w → option_map disk_of (old.seats n) ≡ Some x → option_map disk_of (new.seats n) ≡ Some y
    → StepOnDisk layout n (step_by w c e) x.told x.counts.clock y.told y.counts.clock
    → ((m : ℕ) → (m == n) ≡ false → option_map disk_of (new.seats m) ≡ option_map disk_of (old.seats m))
    → ((m : ℕ) → IsNumber m → (m == n) ≡ false → ((e.node == m) ≡ false) × (state (next w c e) m ≡ state w m))
    → EachDisk layout (step_by w c e) old new
disks-besides layout more n old new w c e x y is was now step same others m number = go (m == n) refl
  where
    go : (b : Bool) → (m == n) ≡ b → SeatStep layout m (step_by w c e) (old.seats m) (new.seats m)
    go true here = let at : m ≡ n = eqb-true m n here in
        subst (λ j. SeatStep layout j (step_by w c e) (old.seats j) (new.seats j)) (sym at)
        (seat-step layout n w c e (old.seats n) (new.seats n) x y was now step)
    go false other =
        let o = others m number other in
        seat-level layout m (step_by w c e) (old.seats m) (new.seats m) (same m other)
        (λ d. lift-elsewhere layout m (step_by w c e) d.told d.counts.clock o.0 o.1)

-- a disk that was not touched
left-whole : (layout : Layout) (more least : ℕ) (old : InHand) (w : World) (m : ℕ) (d : DiskSeen) → least ≤ more
    → WorldStands layout more old w → option_map disk_of (old.seats m) ≡ Some d → DiskEnds layout least m w d d
left-whole layout more least old w m d less is there = record {
  ends = ends-whole layout m w (unfinished w) d.told d.counts.clock;
  room = let it = node-of_disk layout more old w m is there in
      told-less layout m more least d.told less (world-room layout more old w m it.0 d is it.1 there);
}

-- and at a place, if there is such a place
level-ends : (layout : Layout) (more least : ℕ) (old new : InHand) (w : World) (m : ℕ) → least ≤ more → WorldStands layout more old w
    → option_map disk_of (new.seats m) ≡ option_map disk_of (old.seats m) → SeatEnds layout least m w (old.seats m) (new.seats m)
level-ends layout more least old new w m less is same = go (old.seats m) (new.seats m) same (λ d there. left-whole layout more least old w
    m d less is there)
  where
    go : (o p : Option Seat) → option_map disk_of p ≡ option_map disk_of o
        → ((d : DiskSeen) → option_map disk_of o ≡ Some d → DiskEnds layout least m w d d) → SeatEnds layout least m w o p
    go None p even each = tt
    go (Some a) None even each = absurd (cc even)
    go (Some a) (Some b) even each = let here : disk_of b ≡ disk_of a = cc even in
        subst (λ (z : DiskSeen). DiskEnds layout least m w (disk_of a) z) (sym here) (each (disk_of a) refl)

-- There was no memory: what the disk of one node did is all that was done.
pub ends-besides : (layout : Layout) (more least n : ℕ) (old new : InHand) (w : World) (x y : DiskSeen) → least ≤ more
    → WorldStands layout more old w → option_map disk_of (old.seats n) ≡ Some x → option_map disk_of (new.seats n) ≡ Some y
    → DiskEnds layout least n w x y
    → ((m : ℕ) → (m == n) ≡ false → option_map disk_of (new.seats m) ≡ option_map disk_of (old.seats m)) → EachEnds layout least w old new
ends-besides layout more least n old new w x y less is was now ends same m number = go (m == n) refl
  where
    both : (k : ℕ) (o p : Option Seat) (a b : DiskSeen) → option_map disk_of o ≡ Some a → option_map disk_of p ≡ Some b
        → DiskEnds layout least k w a b → SeatEnds layout least k w o p
    both k None p a b at bt h = absurd (cc at)
    both k (Some s) None a b at bt h = absurd (cc bt)
    both k (Some s) (Some t) a b at bt h =
        let here : disk_of s ≡ a = cc at in
        let there : disk_of t ≡ b = cc bt in
        subst (λ (z : DiskSeen). DiskEnds layout least k w z (disk_of t)) (sym here) (subst (DiskEnds layout least k w a) (sym there) h)

    go : (b : Bool) → (m == n) ≡ b → SeatEnds layout least m w (old.seats m) (new.seats m)
    go true here = let at : m ≡ n = eqb-true m n here in
        subst (λ j. SeatEnds layout least j w (old.seats j) (new.seats j)) (sym at) (both n (old.seats n) (new.seats n) x y was now ends)
    go false other = level-ends layout more least old new w m less is (same m other)

-- and where no disk was touched
pub ends-level : (layout : Layout) (more least : ℕ) (old new : InHand) (w : World) → least ≤ more → WorldStands layout more old w
    → SameDisks old new → EachEnds layout least w old new
ends-level layout more least old new w less is same m number = level-ends layout more least old new w m less is (same m)

pub apart : (m n : ℕ) → (m == n) ≡ false → (n == m) ≡ false
apart m n h = go (n == m) refl
  where
    go : (b : Bool) → (n == m) ≡ b → b ≡ false
    go false is = refl
    go true is = absurd (let bad : true ≡ false = sym (eq-eqb m n (sym (eqb-true n m is))) ∙ h in cc bad)

pub fall-ends : (layout : Layout) (more : ℕ) (old mid new : InHand) (w : World) (c : Option Command) (e : Entry) (n : ℕ) (it : Node)
    (a : Held) (noted : Option Doubt) (d : DiskSeen) (left : ℕ) (numbers : List ℕ)
    → WorldStands layout (suc more) old w → AllSound w → node_at w n ≡ Some it → Fell n a noted d numbers old mid
    → AllowsEvent w c e.event → happened w c e.event ≡ stopped_at w n e.event → touched w e.event ≡ n
    → breaks e.event ≡ broken_by_node n → StoreClock w e.event e.clock → epoch_put n w e.event ≡ []
    → EntryShows n d.counts.clock (filter_map (name_at mid.mail) numbers) e
    → Falls layout a (site_of w n it) (site_turn (reaches w n) e.event (site_of w n it)) left noted d.counts d.told → SameDisks mid new
    → IsTelling layout more (key_of e.event) n d.counts.clock (stopped_at w n e.event) new []
    → Goes layout more w c e old new
fall-ends layout more old mid new w c e n it a noted d left numbers is sound at fell allowed happens touches hits store_clock puts shows
    falls
    same telling = record {
      allowed = record {
        event = allowed;
        broken = shows.broken ∙ ap (filter_map (name_at mid.mail)) (fell.calls w.traffic is.calls).0
            ∙ sym (broken-names (broken_by_node n) old.mail mid.mail w.traffic (without_node n w.traffic) is.calls
            (fell.calls w.traffic is.calls).1
            (askers-without_node n w.traffic)) ∙ ap (λ hits. names_of hits w.traffic) (sym hits);
        disk = shows.node ∙ sym touches;
        clock = subst (λ k. ClockFits w k e.clock) (sym shows.node) (subst (ClockFits w n) (sym shows.clock)
            (clock-fits w n d.counts.clock it some at
            (subst (λ o. IfSome o (λ b. b ≤ d.counts.clock)) (sym here.stands.disk.its_clock) rises)));
        store_clock = store_clock;
      };
      stands = subst (WorldStands layout more new) (sym next_is) (telling-done layout more (key_of e.event) n d.counts.clock
          (stopped_at w n e.event) new telling);
      disks = disks-besides layout (suc more) n old new w c e a.seen.disk d is (ap (option_map disk_of) fell.was_up)
          (same n ∙ ap (option_map disk_of) fell.seats.here) step
          (λ m other. same m ∙ ap (option_map disk_of) (fell.seats.others m other))
          (λ m number other. (ap (λ k. k == m) shows.node ∙ apart m n other, stays m other));
    }
  where
    number : IsNumber n
    number = number-of w n it is.numbers at

    some : (n == 0) ≡ false
    some = some-number n number.first

    here : UpStands layout old.types old.mail (suc more) (site_of w n it) a
    here = up-at layout (suc more) old w n it a is at fell.was_up

    its_node : a.seen.node ≡ n
    its_node = its-node layout (suc more) n old w it a here

    turned : Site
    turned = site_turn (reaches w n) e.event (site_of w n it)

    on_disk : NodeOnDisk layout n it [] turned.node a.seen.disk.told a.seen.disk.counts.clock d.told d.counts.clock
    on_disk = subst (λ k. NodeOnDisk layout k it [] turned.node a.seen.disk.told a.seen.disk.counts.clock d.told d.counts.clock) its_node
        falls.disk

    rests : RestStands layout n left (with_clock d.counts.clock turned) noted d.counts.size d.counts.clock d.told
    rests = subst (λ k. RestStands layout k left (with_clock d.counts.clock turned) noted d.counts.size d.counts.clock d.told) its_node
        falls.rests

    rises : a.seen.disk.counts.clock ≤ d.counts.clock
    rises = timed-rises a.seen.disk.counts.clock d.counts.clock a.seen.disk.told d.told on_disk.timed

    next_is : next w c e ≡ marked (key_of e.event) n d.counts.clock (stopped_at w n e.event)
    next_is = ap (λ v. marked (key_of e.event) e.node e.clock v) happens
        ∙ ap (λ k. marked (key_of e.event) k e.clock (stopped_at w n e.event)) shows.node
        ∙ ap (λ k. marked (key_of e.event) n k (stopped_at w n e.event)) shows.clock

    step : StepOnDisk layout n (step_by w c e) a.seen.disk.told a.seen.disk.counts.clock d.told d.counts.clock
    step = lift-down layout n w c e (site_turn (reaches w n) e.event) it [] a.seen.disk.told d.told a.seen.disk.counts.clock d.counts.clock
        noted
        left d.counts.size some at happens (keeps-site (reaches w n) e.event (site_of w n it)).layout (inl (shows.node, shows.clock)) puts
        rests on_disk

    behind : World
    behind = at_node n (site_turn (reaches w n) e.event) w

    orderly : IsOrderly behind
    orderly k jt is_there = go (k == n) refl
      where
        go : (b : Bool) → (k == n) ≡ b → InOrder jt.ejects
        go false other = (sound k jt (sym (node-at_other k n (site_turn (reaches w n) e.event) w other) ∙ is_there)).node.in_order
        go true same =
            let here : k ≡ n = eqb-true k n same in
            let both : Some turned.node ≡ Some jt = sym (ap (option_map (after_at n (site_turn (reaches w n) e.event) w)) at)
            ∙ sym (node-at_same n (site_turn (reaches w n) e.event) w) ∙ ap (node_at behind) (sym here) ∙ is_there in
            let node_is : turned.node ≡ jt = cc both in
            subst (λ (x : Node). InOrder x.ejects) node_is (ordered-timed d.counts.clock turned rests.keeps.ordered.in_order)

    stays : (m : ℕ) → (m == n) ≡ false → state (next w c e) m ≡ state w m
    stays m other = state-shown (stopped_at w n e.event) (next w c e) m
        (ap (λ v. node_at v m) next_is ∙ node-marked_other (key_of e.event) n d.counts.clock (stopped_at w n e.event) m other)
        ∙ states-told (processes_of (broken_by_node n) w.traffic) behind orderly m
        ∙ state-shown w behind m (node-at_other m n (site_turn (reaches w n) e.event) w other)
