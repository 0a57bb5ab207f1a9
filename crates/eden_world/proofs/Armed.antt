-- A failure or a stop is asked of a disk: its entry shows the disk's clock, and nothing else changes but what falls due.
use Rattle.std.proofs.Common.{◌≡◌, inl, inr, ℕ, zero, suc, ◌≤◌, ◌==◌, false, cond, [], Option, None, Some, refl, is_some}
use Rattle.std.proofs.Common.{sym, ◌∙◌, ap}
use Rattle.std.proofs.Common.{subst, arith}
use Rattle.std.specs.Prelude.{IfSome}
use Rattle.std.specs.Ordering.{nat_cmp, eq_by_cmp}
use Rattle.eden_disk.specs.Calls.{Counts}
use Rattle.eden_disk.specs.Told.{Told}
use Rattle.eden_disk.specs.declared.disk.Arm.{Arm}
use Rattle.eden_model.specs.Map.{with_item}
use Rattle.eden_model.proofs.Numbers.{same-self}
use Rattle.invocation.specs.Carries.{Carries}
use Rattle.passive_store.specs.Kept.{Layout, Kept}
use Rattle.passive_store.specs.Kept.{StoreChange}
use Rattle.passive_store.specs.Seen.{DiskSeen}
use Rattle.passive_store.specs.declared.store.Doubt.{Doubt}
use Rattle.journal.specs.declared.command.Command.{Command}
use Rattle.journal.specs.declared.event.Event.TheVariants as event
use Rattle.journal.specs.declared.event.Entry.{Entry}
use Rattle.journal.specs.Commands.{AllowsCommand}
use Rattle.journal.specs.Run.{Step}
use Rattle.journal.specs.Standing.{Stands, state, epoch_put, nothing_stands}
use Rattle.journal.specs.Step.{AllowsEvent, ClockFits, StoreClock, breaks, clocked, counted, happened, key_of}
use Rattle.journal.specs.Step.{next}
use Rattle.journal.specs.Step.{touched}
use Rattle.journal.specs.World.{World, Site, Node, node_at, site_of}
use Rattle.history_laws.proofs.Frame.{other-node}
use Rattle.checkpoint.specs.BarredBoots.{Bar, damaged, overfull, KnowsBar, BarStands}
use Rattle.checkpoint.specs.StoreStands.{MapStands, NodeOnDisk, state_of}
use Rattle.checkpoint.specs.Throughout.{StepOnDisk}
use Rattle.checkpoint.specs.Turns.{RestStands, ClockStands}
use Rattle.checkpoint.proofs.WorldTurns.{lift-entry}
use Rattle.ejects.proofs.Keeping.{keeps-same}
use Rattle.eden_kernel.specs.Stands.{Held, IsWhole, NodeStands}
use Rattle.eden_kernel.specs.Turns.{OnDisk, clock_of}
use Rattle.eden_world.specs.Worlds.{Seat, up, down, InHand, DownStands, DiskStands, SeatStands, IsNumber, WorldStands}
use Rattle.eden_world.specs.Steps.{TakesSeat, Goes, step_by, disk_of}
use Rattle.eden_world.proofs.Messages.{fewer}
use Rattle.eden_world.proofs.Numbers.{no-shell}
use Rattle.eden_world.proofs.InWorld.{IsThere, sits-there, seat-stands, with_node, node-with, with-itself, same-links, links-of, seat-in-world}
use Rattle.eden_world.proofs.Sites.{clocked_as, clocked-already, clocked-here}
use Rattle.eden_world.proofs.Disks.{each-disk, state-same}
use Rattle.eden_world.proofs.TurnEntries.{IsUp, is-up, no-names}

-- 1. In the world

fits-after : (w : World) (n : ℕ) (it : Node) (clock : ℕ) → 1 ≤ n → node_at w n ≡ Some it → ClockStands it.clock clock → ClockFits w n clock
fits-after w zero it clock some at stands = absurd (omega (arith, some))
fits-after w (suc n) it clock some at stands = subst (λ o. IfSome (with_item o (λ (x : Node). x.clock) None) (λ b. b ≤ clock)) (sym at)
    (go it.clock stands)
  where
    go : (o : Option ℕ) → ClockStands o clock → IfSome o (λ b. b ≤ clock)
    go None h = tt
    go (Some b) h = omega (arith, h)

-- the entry shows the disk of node n
pub record ShowsArmed (e : Entry) (n clock : ℕ) (what : Arm) : Type 0 where
  pub event : e.event ≡ event.Armed n what
  pub node : e.node ≡ n
  pub shown : e.clock ≡ clock
  pub broken : e.broken ≡ []

module _ (layout : Layout) (more : ℕ) (old new : InHand) (w : World) (c : Command) (e : Entry) (n clock : ℕ) (what : Arm) (it : Node)
    (was seat : Seat) (stands : WorldStands layout (suc more) old w) (number : IsNumber n) (at : node_at w n ≡ Some it)
    (sits : old.seats n ≡ Some was) (takes : TakesSeat n seat old.mail old new) (shows : ShowsArmed e n clock what)
    (allowed : AllowsCommand w c (event.Armed n what)) (its_clock : ClockStands it.clock clock)
    (sits_later : SeatStands layout old.types old.mail more (site_of w n (clocked_as clock it)) seat)
    (step : StepOnDisk layout n (step_by w (Some c) e) (disk_of was).told (disk_of was).counts.clock (disk_of seat).told
    (disk_of seat).counts.clock) where
  abbrev world_later : World
  world_later = with_node n (clocked_as clock it) w.traffic w

  next_is : next w (Some c) e ≡ world_later
  next_is = ap (λ v. counted (key_of v) (clocked e.node e.clock (happened w (Some c) v))) shows.event
      ∙ ap (clocked e.node e.clock) (sym (with-itself layout (suc more) old w n it stands number at))
      ∙ clocked-here e n clock it w.traffic w (no-shell n number) shows.node shows.shown

  node_later : (m : ℕ) → node_at (next w (Some c) e) m ≡ cond (eq_by_cmp nat_cmp m n) (Some (clocked_as clock it)) (node_at w m)
  node_later m = ap (λ v. node_at v m) next_is ∙ node-with n (clocked_as clock it) w.traffic w m

  others_later : (m : ℕ) → IsNumber m → (m == n) ≡ false → state (next w (Some c) e) m ≡ state w m
  others_later m its_number apart = state-same m w (next w (Some c) e)
      (node_later m ∙ ap (λ b. cond b (Some (clocked_as clock it)) (node_at w m)) (other-node m n apart))

  clock_fits : ClockFits w e.node e.clock
  clock_fits = subst (λ m. ClockFits w m e.clock) (sym shows.node) (subst (λ k. ClockFits w n k) (sym shows.shown)
      (fits-after w n it clock number.first at its_clock))

  pub armed-goes : Goes layout more w (Some c) e old new
  armed-goes = record {
    allowed = record {
      event = subst (AllowsEvent w (Some c)) (sym shows.event) allowed;
      broken = shows.broken ∙ no-names (breaks e.event) w.traffic (λ k. ap (λ v. breaks v k) shows.event);
      disk = shows.node ∙ sym (ap (touched w) shows.event);
      clock = clock_fits;
      store_clock = subst (λ v. StoreClock w v e.clock) (sym shows.event) tt;
    };
    stands = subst (WorldStands layout more new) (sym next_is) (seat-in-world layout more old new w n (clocked_as clock it) w.traffic seat
        stands number (ap is_some at) takes.types takes.here takes.others takes.names (keeps-same w.traffic w.traffic refl)
        (subst (λ m. Carries m w.traffic) (sym takes.mail) stands.calls)
        (subst (λ m. SeatStands layout old.types m more (site_of w n (clocked_as clock it)) seat) (sym takes.mail) sits_later)
        (same-links n it (clocked_as clock it) w.traffic w old new at refl takes.places (links-of layout (suc more) old w stands)));
    disks = each-disk layout (suc more) old new w (Some c) e n was seat stands sits takes.here takes.others (inl shows.node) others_later
        step;
  }

-- 2. Of a node that is up

pub armed-up-goes : (layout : Layout) (more : ℕ) (old new : InHand) (w : World) (c : Command) (e : Entry) (n : ℕ) (what : Arm) (h x : Held)
    → WorldStands layout (suc more) old w → IsNumber n → old.seats n ≡ Some (up h) → TakesSeat n (up x) old.mail old new
    → IsWhole x → x.seen.more ≡ h.seen.more → x.seen.disk.counts ≡ h.seen.disk.counts
    → ((s : Site) → NodeStands layout old.types h old.mail s → NodeStands layout old.types x old.mail s)
    → ((s : Site) → NodeStands layout old.types h old.mail s → OnDisk layout h x s s)
    → AllowsCommand w c (event.Armed n what) → ShowsArmed e n (clock_of x) what → Goes layout more w (Some c) e old new
armed-up-goes layout more old new w c e n what h x stands number sits takes whole room counts standing on_disk allowed shows =
    armed-goes layout more old new w c e n (clock_of x) what was.it (up h) (up x) stands number was.at sits takes shows allowed its_clock
    (record {
      number = whole.number ∙ sym (standing (site_of w n was.it) was.stands.stands).disk.number;
      whole = whole;
      stands = subst (λ y. NodeStands layout old.types x old.mail (site_of w n y)) (sym clocked)
          (standing (site_of w n was.it) was.stands.stands);
      told = fewer more x.seen.more (subst (λ m. suc more ≤ m) (sym room) was.stands.told);
    })
    (lift-entry layout n w (Some c) e was.it was.it [] h.seen.disk.told x.seen.disk.told (clock_of h) (clock_of x) (no-shell n number)
    was.at (ap (λ v. node_at v n) (ap (happened w (Some c)) shows.event) ∙ was.at) (inl (shows.node, shows.shown))
    (ap (epoch_put n w) shows.event)
    (subst (λ j. NodeOnDisk layout j was.it [] was.it h.seen.disk.told (clock_of h) x.seen.disk.told (clock_of x)) node_is
    (on_disk (site_of w n was.it) was.stands.stands)))
  where
    was : IsUp layout (suc more) old w n h
    was = is-up layout (suc more) old w n h stands sits

    node_is : h.seen.node ≡ n
    node_is = sym was.stands.whole.number ∙ was.stands.number

    clock_same : was.it.clock ≡ Some (clock_of x)
    clock_same = was.stands.stands.disk.its_clock ∙ sym (ap (λ (k : Counts). Some k.clock) counts)

    clocked : clocked_as (clock_of x) was.it ≡ was.it
    clocked = clocked-already (clock_of x) was.it clock_same

    its_clock : ClockStands was.it.clock (clock_of x)
    its_clock = subst (λ o. ClockStands o (clock_of x)) (sym clock_same) refl

-- 3. Of one that is down

map-clocked : (n k : ℕ) (s : Site) (kept : Kept) (c : Option StoreChange) → MapStands n s kept c
    → MapStands n (record s { node = clocked_as k s.node }) kept c
map-clocked n k s kept c m = record {
  undamaged = m.undamaged;
  not_untold = m.not_untold;
  ordered = m.ordered;
  facts = m.facts;
  epoch = m.epoch;
  epoch_doubt = m.epoch_doubt;
  ledger = m.ledger;
  wrote = m.wrote;
}

rest-clocked : (layout : Layout) (n more : ℕ) (s : Site) (noted : Option Doubt) (size clock : ℕ) (told : Told)
    → RestStands layout n more s noted size clock told
    → RestStands layout n more (record s { node = clocked_as clock s.node }) noted size clock
    told
rest-clocked layout n more s noted size clock told h = record {
  number = h.number;
  its_layout = h.its_layout;
  is_down = h.is_down;
  queue = h.queue;
  unsynced = h.unsynced;
  its_size = h.its_size;
  its_clock = refl;
  not_overfull = h.not_overfull;
  kept = h.kept;
  doubt = h.doubt;
  keeps = map-clocked n clock s h.kept h.doubt h.keeps;
  is_noted = h.is_noted;
  fresh = h.fresh;
  stands = h.stands;
}

known-clocked : (bar : Bar) (n k : ℕ) (s : Site) → KnowsBar bar n s → KnowsBar bar n (record s { node = clocked_as k s.node })
known-clocked (damaged place) n k s h = h
known-clocked (overfull kept) n k s h = (h.0, map-clocked n k s kept None h.1)

bar-clocked : (layout : Layout) (n : ℕ) (s : Site) (bar : Bar) (size clock : ℕ) (told : Told) → BarStands layout n s bar size clock told
    → BarStands layout n (record s { node = clocked_as clock s.node }) bar size clock told
bar-clocked layout n s bar size clock told h = record {
  number = h.number;
  its_layout = h.its_layout;
  is_down = h.is_down;
  queue = h.queue;
  its_size = h.its_size;
  its_clock = refl;
  known = known-clocked bar n clock s h.known;
  stands = h.stands;
}

disk-clocked : (layout : Layout) (more : ℕ) (s : Site) (noted : Option Doubt) (d : DiskSeen) → DiskStands layout (suc more) s noted d
    → DiskStands layout more (record s { node = clocked_as d.counts.clock s.node }) noted d
disk-clocked layout more s noted d (inl (told, most, rests)) =
    inl (told, fewer more told most, rest-clocked layout s.number told s noted d.counts.size d.counts.clock d.told rests)
disk-clocked layout more s noted d (inr (bar, none, stands)) =
    inr (bar, none, bar-clocked layout s.number s bar d.counts.size d.counts.clock d.told stands)

clock-of-disk : (layout : Layout) (more : ℕ) (s : Site) (noted : Option Doubt) (d : DiskSeen) → DiskStands layout more s noted d
    → ClockStands s.node.clock d.counts.clock
clock-of-disk layout more s noted d (inl (told, most, rests)) = rests.its_clock
clock-of-disk layout more s noted d (inr (bar, none, stands)) = stands.its_clock

-- without a device call the disk goes on standing
step-still : (layout : Layout) (n : ℕ) (s : Step) (told : Told) (clock : ℕ) → s.entry.node ≡ n → s.entry.clock ≡ clock
    → state s.later n ≡ state s.world n → StepOnDisk layout n s told clock told clock
step-still layout n s told clock here shown same = record {
  timed = record { acts = []; image = refl; since = refl; order = omega arith };
  shown = λ h. shown;
  elsewhere = λ h. refl;
  moments = λ rises. absurd (omega (arith, rises));
  behind = λ rises image left. absurd (omega (arith, rises));
  level = λ h image stood. subst (λ x. Stands layout n x image) (sym same) stood;
}

pub armed-down-goes : (layout : Layout) (more : ℕ) (old new : InHand) (w : World) (c : Command) (e : Entry) (n : ℕ) (what : Arm)
    (noted : Option Doubt) (d x : DiskSeen) → WorldStands layout (suc more) old w → IsNumber n → old.seats n ≡ Some (down noted d)
    → TakesSeat n (down noted x) old.mail old new → x.counts ≡ d.counts → x.told ≡ d.told
    → AllowsCommand w c (event.Armed n what) → ShowsArmed e n x.counts.clock what → Goes layout more w (Some c) e old new
armed-down-goes layout more old new w c e n what noted d x stands number sits takes counts told allowed shows =
    armed-goes layout more old new w c e n x.counts.clock what was.it (down noted d) (down noted x) stands number was.at sits takes shows
    allowed (clock-of-disk layout (suc more) (site_of w n was.it) noted x stood.disk)
    (record { asleep = stood.asleep; disk = disk-clocked layout more (site_of w n was.it) noted x stood.disk })
    (subst (λ k. StepOnDisk layout n (step_by w (Some c) e) d.told k x.told x.counts.clock) (ap (λ (z : Counts). z.clock) counts)
    (subst (λ z. StepOnDisk layout n (step_by w (Some c) e) z x.counts.clock x.told x.counts.clock) told
    (step-still layout n (step_by w (Some c) e) x.told x.counts.clock shows.node shows.shown state_later)))
  where
    was : IsThere layout (suc more) old w n
    was = sits-there layout (suc more) old w n (down noted d) stands sits

    stood_before : DownStands layout (suc more) (site_of w n was.it) noted d
    stood_before = seat-stands layout (suc more) old w n (down noted d) was sits

    -- what counts of the disk is the same
    stood : DownStands layout (suc more) (site_of w n was.it) noted x
    stood = record {
      asleep = stood_before.asleep;
      disk = alike (stood_before.disk);
    }
      where
        alike : DiskStands layout (suc more) (site_of w n was.it) noted d → DiskStands layout (suc more) (site_of w n was.it) noted x
        alike (inl (more_told, most, rests)) = inl (
          more_told,
          most,
          subst (λ z. RestStands layout n more_told (site_of w n was.it) noted
              x.counts.size x.counts.clock z) (sym told)
              (subst (λ (k : Counts). RestStands layout n more_told (site_of w n was.it) noted k.size k.clock d.told) (sym counts) rests),
        )
        alike (inr (bar, none, barred)) = inr (
          bar,
          none,
          subst (λ z. BarStands layout n (site_of w n was.it) bar
              x.counts.size x.counts.clock z) (sym told)
              (subst (λ (k : Counts). BarStands layout n (site_of w n was.it) bar k.size k.clock d.told) (sym counts) barred),
        )

    world_is : next w (Some c) e ≡ with_node n (clocked_as x.counts.clock was.it) w.traffic w
    world_is = ap (λ v. counted (key_of v) (clocked e.node e.clock (happened w (Some c) v))) shows.event
        ∙ ap (clocked e.node e.clock) (sym (with-itself layout (suc more) old w n was.it stands number was.at))
        ∙ clocked-here e n x.counts.clock was.it w.traffic w (no-shell n number) shows.node shows.shown

    node_is : node_at (next w (Some c) e) n ≡ Some (clocked_as x.counts.clock was.it)
    node_is = ap (λ v. node_at v n) world_is ∙ node-with n (clocked_as x.counts.clock was.it) w.traffic w n
        ∙ ap (λ b. cond b (Some (clocked_as x.counts.clock was.it)) (node_at w n)) (same-self n)

    state_later : state (next w (Some c) e) n ≡ state w n
    state_later = ap (λ o. with_item o (λ it. state_of n it) nothing_stands) node_is
        ∙ sym (ap (λ o. with_item o (λ it. state_of n it) nothing_stands) was.at)
