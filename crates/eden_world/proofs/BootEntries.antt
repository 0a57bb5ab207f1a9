-- A node that is down boots: it comes up, or it stays down, and the world goes on.
use Rattle.std.proofs.Common.{◌≡◌, ◌==◌, ◌≤◌, ◌+◌, ◌*◌, ◌⊎◌, inl, inr, ℕ, suc, Bool, true, false, cond, not, ◌&&◌, List, []}
use Rattle.std.proofs.Common.{Option, None, Some}
use Rattle.std.proofs.Common.{refl}
use Rattle.std.proofs.Common.{sym, ◌∙◌, ap, subst, arith}
use Rattle.std.specs.Prelude.{IsSomeAnd, IfSome, slice_index_or}
use Rattle.std.specs.Option.{option_map}
use Rattle.std.proofs.lemmas.Bool.{eqb-true}
use Rattle.eden_model.specs.Map.{with_item, value_at, uid_cmp}
use Rattle.eden_model.specs.Traffic.{Traffic, names_of}
use Rattle.epl_syntax.specs.Meaning.{types_in}
use Rattle.epl_syntax.specs.Rules.OfTypes.{TypeList}
use Rattle.invocation.specs.Mail.{Mail}
use Rattle.invocation.specs.Carries.{Carries}
use Rattle.locator.specs.Reach.{Stations, up_at, node_up_at}
use Rattle.passive_store.specs.declared.store.Doubt.{Doubt}
use Rattle.passive_store.specs.declared.store.Pick.{Pick}
use Rattle.passive_store.specs.declared.store.Pick.TheVariants as pick
use Rattle.passive_store.specs.Kept.{Layout}
use Rattle.passive_store.specs.Layout.{IsLayout}
use Rattle.passive_store.specs.Seen.{DiskSeen}
use Rattle.journal.specs.declared.command.Command.TheVariants as command
use Rattle.journal.specs.declared.event.BootEnd.{BootEnd}
use Rattle.journal.specs.declared.event.BootEnd.TheVariants as end
use Rattle.journal.specs.declared.event.Event.TheVariants as event
use Rattle.journal.specs.declared.event.Entry.{Entry}
use Rattle.journal.specs.World.{World, Node, Site, Eject, node_at, site_of, at_node, on_node, eject_in, is_up, reaches}
use Rattle.journal.specs.Commands.{AllowsCommand}
use Rattle.journal.specs.Boots.{AllowsBoot, boot_turn, booted_node}
use Rattle.journal.specs.Settling.{settled, settled_eject}
use Rattle.journal.specs.Sites.{Everywhere, HasEpochs}
use Rattle.journal.specs.Standing.{state}
use Rattle.journal.specs.Step.{Allows, ClockFits, StoreClock, breaks, touched, happened, next, key_of, site_turn}
use Rattle.history_laws.proofs.KeptTurns.{value-each}
use Rattle.history_laws.proofs.SiteFrames.{keeps-site}
use Rattle.checkpoint.specs.BarredBoots.{Bar, BarStands, FallsBarred, StaysBarred}
use Rattle.checkpoint.specs.Boots.{put_after, BootsDown, FallsTo}
use Rattle.checkpoint.specs.StoreStands.{NodeOnDisk}
use Rattle.checkpoint.specs.Throughout.{StepOnDisk}
use Rattle.checkpoint.specs.Turns.{with_clock, RestStands, ClockStands}
use Rattle.checkpoint.specs.declared.up.BootNote.{BootNote}
use Rattle.checkpoint.proofs.Throughout.{timed-rises}
use Rattle.checkpoint.proofs.WorldTurns.{lift-boot, ends-boot}
use Rattle.ejects.proofs.Keeping.{keeps-same}
use Rattle.eden_kernel.specs.Boots.{IsIdle, IsAsleep, NodeBoots, BootsPut}
use Rattle.eden_kernel.specs.Stands.{Held, IsWhole}
use Rattle.eden_kernel.specs.Turns.{clock_of}
use Rattle.runs.specs.Reached.{NextInDoubt}
use Rattle.eden_world.specs.Worlds.{Seat, up, down, InHand, IsNumber, WorldStands, SeatStands, DownStands}
use Rattle.eden_world.specs.Steps.{disk_of, Goes, EachEnds}
use Rattle.eden_world.specs.Told.{Reseats, SetsUp, EntryShows, marked}
use Rattle.eden_world.proofs.Alike.{Alike, node-alike, rest-alike, bar-alike, asleep-alike}
use Rattle.eden_world.proofs.Broken.{no-names}
use Rattle.eden_world.proofs.NodeKeys.{number-of}
use Rattle.eden_world.proofs.Reach.{ups-set}
use Rattle.eden_world.proofs.Reseating.{Renodes, renodes-turn, with_time, traffic-marked, traffic-at_node, reseated}
use Rattle.eden_world.proofs.Falls.{alike-timed, up-timed, some-number, node-of, clock-fits, disks-besides, ends-besides, apart}
use Rattle.eden_world.proofs.States.{state-shown}
use Rattle.eden_world.proofs.Starving.{put-starves}
use Rattle.eden_world.specs.Steps.{DiskEnds}
use Rattle.eden_world.proofs.SeatRoom.{barred-room, kept-less}

-- 1. The site behind a boot

traffic-settled : (p : Option Pick) (s : Site) → (settled p s).traffic ≡ s.traffic
unfolding on_node
traffic-settled None s = refl
traffic-settled (Some p) s = refl

pub traffic-booted : (e : ℕ) (how : BootEnd) (p : Option Pick) (began : Bool) (s : Site) → (boot_turn e how p began s).traffic ≡ s.traffic
unfolding on_node
traffic-booted e how p began s = traffic-settled p s

idle-settled : (p : Pick) (e : Eject) → IsIdle e → IsIdle (settled_eject p e)
idle-settled pick.Old e h = record { passive = h.passive; unasked = h.unasked }
idle-settled pick.New e h = record { passive = h.passive; unasked = h.unasked }

asleep-settled : (p : Option Pick) (s : Site) → IsAsleep s → IsAsleep (settled p s)
unfolding on_node
asleep-settled None s h u e is = h u e is
asleep-settled (Some p) s h u e is = go (eject_in s u) refl (sym (value-each u (settled_eject p) s.node.ejects) ∙ is)
  where
    go : (o : Option Eject) → eject_in s u ≡ o → option_map (settled_eject p) o ≡ Some e → IsIdle e
    go None at found = absurd (let bad : None ≡ Some e = found in cc bad)
    go (Some x) at found = let same : Some (settled_eject p x) ≡ Some e = found in
        let here : settled_eject p x ≡ e = cc same in subst IsIdle here (idle-settled p x (h u x at))

same-ejects : (s : Site) (e : ℕ) (how : BootEnd) (began : Bool) (it : Node) → (booted_node s e how began it).ejects ≡ it.ejects
same-ejects s e end.Up began it = refl
same-ejects s e end.DiskFault began it = refl
same-ejects s e end.Stop began it = refl
same-ejects s e (end.Damaged place) began it = refl
same-ejects s e end.EpochsSpent began it = refl
same-ejects s e end.Full began it = refl

-- no Eject is active behind it, nor has it a queue
pub asleep-booted : (c e : ℕ) (how : BootEnd) (p : Option Pick) (began : Bool) (s : Site) → IsAsleep s
    → IsAsleep (with_clock c (boot_turn e how p began s))
unfolding on_node
asleep-booted c e how p began s h u x is = asleep-settled p s h u x
    (ap (value_at uid_cmp u) (sym (same-ejects s e how began (settled p s).node)) ∙ is)

traffic-timed : (c : ℕ) (s : Site) (t : Traffic) → s.traffic ≡ t → (with_clock c s).traffic ≡ t
unfolding on_node
traffic-timed c s t same = same

-- 2. In the world

-- the node at the place is down
pub down-at : (layout : Layout) (more : ℕ) (h : InHand) (w : World) (n : ℕ) (it : Node) (noted : Option Doubt) (d : DiskSeen)
    → WorldStands layout more h w → node_at w n ≡ Some it → h.seats n ≡ Some (down noted d)
    → DownStands layout more (site_of w n it) noted d
down-at layout more h w n it noted d is at seat =
    subst (λ o. IsSomeAnd o (SeatStands layout h.types h.mail more (site_of w n it))) seat (is.nodes n it at)

clock-stands : (o : Option ℕ) (before after : ℕ) → ClockStands o before → before ≤ after → IfSome o (λ c. c ≤ after)
clock-stands None before after is rises = tt
clock-stands (Some c) before after is rises = omega (arith, is, rises)

-- What a boot does, however it ends: the seat that is left at the place is `seat`, up or down.
module _ (layout : Layout) (more : ℕ) (old new : InHand) (w : World) (n : ℕ) (it : Node) (e : Entry) (epoch : ℕ) (how : BootEnd)
    (p : Option Pick) (began : Bool) (noted : Option Doubt) (d y : DiskSeen) (is_up_now : Bool) (seat : Seat)
    (is : WorldStands layout (suc more) old w) (at : node_at w n ≡ Some it) (was : old.seats n ≡ Some (down noted d))
    (its_event : e.event ≡ event.Boot n epoch how p began) (shows : EntryShows n y.counts.clock [] e)
    (seats : Reseats n seat old new) (mail : new.mail ≡ old.mail) (places : SetsUp n is_up_now old.places new.places)
    (allowed : AllowsBoot (site_of w n it) epoch how p began) (its_clock : ClockStands it.clock d.counts.clock)
    (on_disk : NodeOnDisk layout n it (put_after n (site_of w n it) p) (boot_turn epoch how p began (site_of w n it)).node d.told
    d.counts.clock
    y.told y.counts.clock) (ups : (boot_turn epoch how p began (site_of w n it)).node.up ≡ is_up_now) (disk : disk_of seat ≡ y)
    (stands : (later : World) → later.types ≡ w.types → later.layout ≡ w.layout → later.traffic ≡ w.traffic
    → SeatStands layout old.types new.mail more
    (site_of later n (with_time y.counts.clock (boot_turn epoch how p began (site_of w n it)).node))
    seat) where
  abbrev booted : Site
  booted = boot_turn epoch how p began (site_of w n it)

  abbrev f : Site → Site
  f = site_turn (reaches w n) (event.Boot n epoch how p began)

  number : IsNumber n
  number = number-of w n it is.numbers at

  some : (n == 0) ≡ false
  some = some-number n number.first

  abbrev later : World
  later = marked None n y.counts.clock (at_node n f w)

  nodes : Renodes n (with_time y.counts.clock booted.node) w later
  nodes = renodes-turn None n y.counts.clock f w it some is.numbers at

  traffic : later.traffic ≡ w.traffic
  traffic = traffic-marked None n y.counts.clock (at_node n f w) ∙ traffic-at_node n f w it at ∙ traffic-booted epoch how p began
      (site_of w n it)

  next_is : next w (Some (command.Restart n)) e ≡ later
  next_is = ap (λ v. marked (key_of e.event) e.node e.clock v) (ap (happened w (Some (command.Restart n))) its_event)
      ∙ ap (λ ev. marked (key_of ev) e.node e.clock (at_node n f w)) its_event
      ∙ ap (λ k. marked None k e.clock (at_node n f w)) shows.node ∙ ap (λ k. marked None n k (at_node n f w)) shows.clock

  stands_later : WorldStands layout more new later
  stands_later = reseated layout (suc more) more old new w later n seat (with_time y.counts.clock booted.node) is (omega arith) seats nodes
      (stands later nodes.types nodes.layout traffic)
      (subst (λ m. Carries m later.traffic) (sym mail) (subst (Carries old.mail) (sym traffic) is.calls))
      (keeps-same w.traffic later.traffic (ap (λ (t : Traffic). t.calls) traffic))
      (ups-set n is_up_now old.places new.places w later some places is.ups
      (ap (λ o. with_item o (λ (x : Node). x.up) false) nodes.here ∙ ups)
      (λ m other. ap (λ o. with_item o (λ (x : Node). x.up) false) (nodes.others m other)))
      (λ a b x z. ap (λ (js : List Bool). slice_index_or js (9 * a + b) false) places.joined)

  allows : Allows w (Some (command.Restart n)) e
  allows = record {
    event = subst (AllowsCommand w (command.Restart n)) (sym its_event) (
      refl,
      subst (λ o. IsSomeAnd (with_item o (λ x. Some (site_of w n x)) None) (λ s. AllowsBoot s epoch how p began)) (sym at)
          allowed,
    );
    broken = shows.broken ∙ sym (no-names w.traffic) ∙ ap (λ ev. names_of (breaks ev) w.traffic) (sym its_event);
    disk = shows.node ∙ sym (ap (touched w) its_event);
    clock = subst (λ k. ClockFits w k e.clock) (sym shows.node) (subst (ClockFits w n) (sym shows.clock)
        (clock-fits w n y.counts.clock it some at (clock-stands it.clock d.counts.clock y.counts.clock its_clock
        (timed-rises d.counts.clock y.counts.clock d.told y.told on_disk.timed))));
    store_clock = subst (λ ev. StoreClock w ev e.clock) (sym its_event) tt;
  }

  step : StepOnDisk layout n (record { world = w; entry = e; later = next w (Some (command.Restart n)) e }) d.told d.counts.clock y.told
      y.counts.clock
  step = lift-boot layout n w e epoch how p began it d.told y.told d.counts.clock y.counts.clock some at its_event
      (inl (shows.node, shows.clock)) on_disk

  pub boot-goes : Goes layout more w (Some (command.Restart n)) e old new
  boot-goes = record {
    allowed = allows;
    stands = subst (WorldStands layout more new) (sym next_is) stands_later;
    disks = disks-besides layout (suc more) n old new w (Some (command.Restart n)) e d y is (ap (option_map disk_of) was)
        (ap (option_map disk_of) seats.here ∙ ap (λ z. Some z) disk) step (λ m other. ap (option_map disk_of) (seats.others m other))
        (λ m its_number other. (
          ap (λ k. k == m) shows.node ∙ apart m n other,
          ap (λ v. state v m) next_is ∙ state-shown w later m (nodes.others m other),
        ));
  }

-- 3. It comes up

abbrev pub BootsSo : Layout → TypeList → ℕ → Option Doubt → DiskSeen → BootNote → Held → Type 0
BootsSo layout ts n noted d note new = (m : Mail) (s : Site) → IsLayout layout → HasEpochs s.node → (more : ℕ) → 1 ≤ more
    → s.types ≡ types_in ts → IsAsleep s → Carries m s.traffic
    → RestStands layout n more s noted d.counts.size d.counts.clock d.told
    → NodeBoots layout ts n more s d.told d.counts.clock note new m

-- nothing bars the disk
abbrev pub NotBarred : Layout → ℕ → DiskSeen → Type 0
NotBarred layout n d = (s : Site) → IsLayout layout → (bar : Bar) → BarStands layout n s bar d.counts.size d.counts.clock d.told → ⊥

up-goes-at : (layout : Layout) (more : ℕ) (old new : InHand) (w : World) (n : ℕ) (it : Node) (e : Entry) (note : BootNote)
    (noted : Option Doubt) (d : DiskSeen) (h : Held) → WorldStands layout (suc more) old w → node_at w n ≡ Some it → HasEpochs it
    → IsLayout layout → old.seats n ≡ Some (down noted d) → e.event ≡ event.Boot n note.epoch end.Up note.pick note.began
    → EntryShows n (clock_of h) [] e → Reseats n (up h) old new → new.mail ≡ old.mail → SetsUp n true old.places new.places → IsWhole h
    → h.number ≡ n → BootsSo layout old.types n noted d note h → NotBarred layout n d → Goes layout more w (Some (command.Restart n)) e old
    new
up-goes-at layout more old new w n it e note noted d h is at epochs lays was its_event shows seats mail places whole number kernel bars =
    go (down-at layout (suc more) old w n it noted d is at was)
  where
    s : Site
    s = site_of w n it

    booted : Site
    booted = boot_turn note.epoch end.Up note.pick note.began s

    go : DownStands layout (suc more) s noted d → Goes layout more w (Some (command.Restart n)) e old new
    go x = elim x.disk [
      | inl r ↦ by-boot r.0 r.1 r.2 (kernel old.mail s lays epochs r.0 (omega (arith, r.1)) is.its_types x.asleep is.calls r.2)
      | inr b ↦ absurd (bars s lays b.0 b.2)
    ]
      where
        by-boot : (told : ℕ) → suc more ≤ told → RestStands layout n told s noted d.counts.size d.counts.clock d.told
            → NodeBoots layout old.types n told s d.told d.counts.clock note h old.mail → Goes layout more w (Some (command.Restart n)) e
            old new
        by-boot told room rests boots = boot-goes layout more old new w n it e note.epoch end.Up note.pick note.began noted d h.seen.disk
            true (up h)
            is at was its_event shows seats mail places boots.allowed rests.its_clock boots.disk
            (sym (up-timed (clock_of h) booted) ∙ boots.stands.disk.up) refl
            (λ later types layout_same traffic. record {
              number = number;
              whole = whole;
              stands = node-alike layout old.types h old.mail new.mail (with_clock (clock_of h) booted)
                  (site_of later n (with_time (clock_of h) booted.node))
                  (alike-timed (clock_of h) n booted later
                  (keeps-site (reaches w n) (event.Boot n note.epoch end.Up note.pick note.began) s).number
                  ((keeps-site (reaches w n) (event.Boot n note.epoch end.Up note.pick note.began) s).types ∙ sym types)
                  ((keeps-site (reaches w n) (event.Boot n note.epoch end.Up note.pick note.began) s).layout ∙ sym layout_same))
                  (keeps-same _ later.traffic (ap (λ (t : Traffic). t.calls) (traffic ∙ sym (traffic-timed (clock_of h) booted w.traffic
                  (traffic-booted note.epoch end.Up note.pick note.began s)))))
                  (subst (λ m. Carries m later.traffic) (sym mail) (subst (Carries old.mail) (sym traffic) is.calls)) boots.stands;
              told = omega (arith, room, boots.told);
            })

-- 4. It stays down

-- What the kernel says of a boot that did not bring its node up: how it ended (with none, where there was no memory), and the doubt and the
-- disk that are left.
abbrev pub FallsSo : Layout → ℕ → Option Doubt → DiskSeen → Option BootEnd → BootNote → Option Doubt → DiskSeen → Type 0
FallsSo layout n noted d how note left y = (s : Site) → IsLayout layout → HasEpochs s.node → (more : ℕ) → 1 ≤ more
    → RestStands layout n more s noted d.counts.size d.counts.clock d.told
    → FallsTo layout n more s d.told d.counts.clock how note left y.told y.counts
    ⊎ ((how ≡ None) × BootsPut layout n more s d.told d.counts.clock note y.told y.counts.clock)

abbrev pub BarsSo : Layout → ℕ → Option Doubt → DiskSeen → Option BootEnd → BootNote → Option Doubt → DiskSeen → Type 0
BarsSo layout n noted d how note left y = (s : Site) → IsLayout layout → (bar : Bar)
    → BarStands layout n s bar d.counts.size d.counts.clock d.told
    → (left ≡ noted) × FallsBarred layout n s bar d.told d.counts.clock how note y.told y.counts

-- a node that is down is known to be
stays-down : (n : ℕ) (old new : Stations) (w : World) (it : Node) → (n == 0) ≡ false → node_at w n ≡ Some it → it.up ≡ false
    → ((m : ℕ) → node_up_at old m ≡ is_up w m) → new ≡ old → SetsUp n false old new
stays-down n old new w it some at off ups same = record {
  ups = λ m. ap (λ (p : Stations). up_at p m) same ∙ go m (m == n) refl;
  joined = ap (λ (p : Stations). p.joined) same;
}
  where
    known : up_at old n ≡ false
    known = ap (λ b. not b && up_at old n) (sym some) ∙ ups n ∙ ap (λ o. with_item o (λ (x : Node). x.up) false) at ∙ off

    go : (m : ℕ) (b : Bool) → (m == n) ≡ b → up_at old m ≡ cond (m == n) false (up_at old m)
    go m true is = ap (up_at old) (eqb-true m n is) ∙ known ∙ sym (ap (λ b. cond b false (up_at old m)) is)
    go m false is = sym (ap (λ b. cond b false (up_at old m)) is)

falls-goes-at : (layout : Layout) (more : ℕ) (old new : InHand) (w : World) (n : ℕ) (it : Node) (e : Entry) (how : BootEnd)
    (note : BootNote)
    (noted left : Option Doubt) (d y : DiskSeen) → WorldStands layout (suc more) old w → node_at w n ≡ Some it → HasEpochs it
    → IsLayout layout → old.seats n ≡ Some (down noted d) → e.event ≡ event.Boot n note.epoch how note.pick note.began
    → EntryShows n y.counts.clock [] e → Reseats n (down left y) old new → new.mail ≡ old.mail → new.places ≡ old.places
    → FallsSo layout n noted d (Some how) note left y → BarsSo layout n noted d (Some how) note left y
    → Goes layout more w (Some (command.Restart n)) e old new
falls-goes-at layout more old new w n it e how note noted left d y is at epochs lays was its_event shows seats mail places kernel bars =
    go (down-at layout (suc more) old w n it noted d is at was)
  where
    s : Site
    s = site_of w n it

    booted : Site
    booted = boot_turn note.epoch how note.pick note.began s

    some : (n == 0) ≡ false
    some = some-number n (number-of w n it is.numbers at).first

    alike : (later : World) → later.types ≡ w.types → later.layout ≡ w.layout
        → Alike (with_clock y.counts.clock booted) (site_of later n (with_time y.counts.clock booted.node))
    alike later types its_layout =
        let site = keeps-site (reaches w n) (event.Boot n note.epoch how note.pick note.began) s in
        alike-timed y.counts.clock n booted later site.number (site.types ∙ sym types) (site.layout ∙ sym its_layout)

    asleep : DownStands layout (suc more) s noted d → IsAsleep (with_clock y.counts.clock booted)
    asleep x = asleep-booted y.counts.clock note.epoch how note.pick note.began s x.asleep

    by-rest : (told : ℕ) → suc more ≤ told → RestStands layout n told s noted d.counts.size d.counts.clock d.told
        → DownStands layout (suc more) s noted d
        → (room : ℕ) × BootsDown layout n told s d.told d.counts.clock how note left room y.told y.counts
        → Goes layout more w (Some (command.Restart n)) e old new
    by-rest told enough rests x (room, b) = boot-goes layout more old new w n it e note.epoch how note.pick note.began noted d y false
        (down left y) is at was its_event shows seats mail (stays-down n old.places new.places w it some at rests.is_down is.ups places)
        b.allowed rests.its_clock b.disk (sym (up-timed y.counts.clock booted) ∙ b.rests.is_down) refl
        (λ later types its_layout traffic. record {
          asleep = asleep-alike (with_clock y.counts.clock booted) (site_of later n (with_time y.counts.clock booted.node))
              (alike later types its_layout) (asleep x);
          disk = inl (
            room,
            omega (arith, enough, b.told),
            rest-alike layout n room (with_clock y.counts.clock booted)
                (site_of later n (with_time y.counts.clock booted.node)) left y.counts.size y.counts.clock y.told
                (alike later types its_layout) b.rests,
          );
        })

    by-bar : (bar : Bar) → noted ≡ None → BarStands layout n s bar d.counts.size d.counts.clock d.told → DownStands layout (suc more) s
        noted d
        → (left ≡ noted) × StaysBarred layout n s bar d.told d.counts.clock how note y.told y.counts
        → Goes layout more w (Some (command.Restart n)) e old new
    by-bar bar none stood x (same, b) = boot-goes layout more old new w n it e note.epoch how note.pick note.began noted d y false
        (down left y) is at was its_event shows seats mail (stays-down n old.places new.places w it some at stood.is_down is.ups places)
        b.allowed stood.its_clock b.disk (sym (up-timed y.counts.clock booted) ∙ b.stands.is_down) refl
        (λ later types its_layout traffic. record {
          asleep = asleep-alike (with_clock y.counts.clock booted) (site_of later n (with_time y.counts.clock booted.node))
              (alike later types its_layout) (asleep x);
          disk = inr (
            bar,
            same ∙ none,
            bar-alike layout n (with_clock y.counts.clock booted)
                (site_of later n (with_time y.counts.clock booted.node)) bar y.counts.size y.counts.clock y.told
                (alike later types its_layout) b.stands,
          );
        })

    not-none : {A : Type 0} → Some how ≡ None → A
    not-none bad = absurd (cc bad)

    go : DownStands layout (suc more) s noted d → Goes layout more w (Some (command.Restart n)) e old new
    go x = elim x.disk [
      | inl r ↦ elim (kernel s lays epochs r.0 (omega (arith, r.1)) r.2) [
        | inl f ↦ by-rest r.0 r.1 r.2 x f
        | inr p ↦ not-none p.0
      ]
      | inr b ↦ by-bar b.0 b.1 b.2 x (bars s lays b.0 b.2)
    ]

-- 5. There was no memory for it: the run ends, and the disk does what the end of a run may do

boot-starves-at : (layout : Layout) (more : ℕ) (old : InHand) (w : World) (n : ℕ) (it : Node) (note : BootNote)
    (noted left : Option Doubt) (d y : DiskSeen) → WorldStands layout (suc more) old w → node_at w n ≡ Some it → HasEpochs it
    → NextInDoubt it → IsLayout layout → old.seats n ≡ Some (down noted d) → FallsSo layout n noted d None note left y
    → BarsSo layout n noted d None note left y → DiskEnds layout more n w d y
boot-starves-at layout more old w n it note noted left d y is at epochs next lays was kernel bars =
    go (down-at layout (suc more) old w n it noted d is at was)
  where
    s : Site
    s = site_of w n it

    go : DownStands layout (suc more) s noted d → DiskEnds layout more n w d y
    go x = elim x.disk [
      | inl r ↦ elim (kernel s lays epochs r.0 (omega (arith, r.1)) r.2) [
        | inl f ↦ record {
          ends = ends-boot layout n w it d.told y.told d.counts.clock y.counts.clock at r.2.its_clock f.0;
          room = kept-less layout n r.0 more y.told (omega (arith, r.1)) f.1;
        }
        | inr p ↦ record {
          ends = put-starves layout r.0 n w it noted d y note at next r.2 p.1;
          room = kept-less layout n r.0 more y.told (omega (arith, r.1)) p.1.room;
        }
      ]
      | inr b ↦ let f = (bars s lays b.0 b.2).1 in record {
        ends = ends-boot layout n w it d.told y.told d.counts.clock y.counts.clock at b.2.its_clock f.0;
        room = λ image left. barred-room layout n more b.0 image (f.1 image left);
      }
    ]

-- 6. The same of the node of a number, in a world that a history reaches

pub up-goes : (layout : Layout) (more : ℕ) (old new : InHand) (w : World) (n : ℕ) (e : Entry) (note : BootNote) (noted : Option Doubt)
    (d : DiskSeen) (h : Held) → WorldStands layout (suc more) old w → IsNumber n → Everywhere (λ m it. HasEpochs it) w → IsLayout layout
    → old.seats n ≡ Some (down noted d) → e.event ≡ event.Boot n note.epoch end.Up note.pick note.began → EntryShows n (clock_of h) [] e
    → Reseats n (up h) old new → new.mail ≡ old.mail → SetsUp n true old.places new.places → IsWhole h → h.number ≡ n
    → BootsSo layout old.types n noted d note h → NotBarred layout n d → Goes layout more w (Some (command.Restart n)) e old new
up-goes layout more old new w n e note noted d h is number epochs lays was its_event shows seats mail places whole its_number kernel bars =
    let x = node-of layout (suc more) old w n is was in
    up-goes-at layout more old new w n x.0 e note noted d h is x.1 (epochs n x.0 x.1) lays was its_event shows seats mail places whole
    its_number
    kernel bars

pub falls-goes : (layout : Layout) (more : ℕ) (old new : InHand) (w : World) (n : ℕ) (e : Entry) (how : BootEnd) (note : BootNote)
    (noted left : Option Doubt) (d y : DiskSeen) → WorldStands layout (suc more) old w → IsNumber n
    → Everywhere (λ m it. HasEpochs it) w → IsLayout layout → old.seats n ≡ Some (down noted d)
    → e.event ≡ event.Boot n note.epoch how note.pick note.began → EntryShows n y.counts.clock [] e → Reseats n (down left y) old new
    → new.mail ≡ old.mail → new.places ≡ old.places → FallsSo layout n noted d (Some how) note left y
    → BarsSo layout n noted d (Some how) note left y → Goes layout more w (Some (command.Restart n)) e old new
falls-goes layout more old new w n e how note noted left d y is number epochs lays was its_event shows seats mail places kernel bars =
    let x = node-of layout (suc more) old w n is was in
    falls-goes-at layout more old new w n x.0 e how note noted left d y is x.1 (epochs n x.0 x.1) lays was its_event shows seats mail places
    kernel bars

pub boot-starves : (layout : Layout) (more : ℕ) (old new : InHand) (w : World) (n : ℕ) (note : BootNote) (noted left : Option Doubt)
    (d y : DiskSeen) → WorldStands layout (suc more) old w → IsNumber n → Everywhere (λ m it. HasEpochs it) w
    → Everywhere (λ m it. NextInDoubt it) w → IsLayout layout → old.seats n ≡ Some (down noted d) → Reseats n (down left y) old new
    → FallsSo layout n noted d None note left y → BarsSo layout n noted d None note left y → EachEnds layout more w old new
boot-starves layout more old new w n note noted left d y is number epochs nexts lays was seats kernel bars =
    let x = node-of layout (suc more) old w n is was in
    ends-besides layout (suc more) more n old new w d y (omega arith) is (ap (option_map disk_of) was) (ap (option_map disk_of) seats.here)
    (boot-starves-at layout more old w n x.0 note noted left d y is x.1 (epochs n x.0 x.1) (nexts n x.0 x.1) lays was kernel bars)
    (λ m other. ap (option_map disk_of) (seats.others m other))
