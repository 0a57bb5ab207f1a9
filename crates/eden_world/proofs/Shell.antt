-- Commands of the shell that leave all nodes up: a creation, a failure or a stop that is asked of a disk, a link that is joined.
use Rattle.std.proofs.Common.{◌≡◌, inr, ℕ, suc, ◌==◌, true, false, cond, List, Option}
use Rattle.std.proofs.Common.{None, Some}
use Rattle.std.proofs.Common.{Result, Ok, Err, is_some, refl, sym, ◌∙◌, ap, subst, arith}
use Rattle.std.specs.Ordering.{nat_cmp, eq_by_cmp}
use Rattle.eden_model.proofs.Numbers.{same-self}
use Rattle.history_laws.proofs.Frame.{other-node}
use Rattle.capability.specs.declared.Uid.{Uid}
use Rattle.capability.specs.Capability.{full}
use Rattle.eden_value.specs.declared.status.Status.{Status}
use Rattle.eden_value.specs.declared.status.Status.TheVariants as status
use Rattle.eden_model.specs.Map.{with_item, same_text}
use Rattle.eden_model.specs.Traffic.{Traffic}
use Rattle.epl_syntax.specs.Edentype.{Edentype}
use Rattle.epl_syntax.specs.Meaning.{type_of, first_values}
use Rattle.invocation.specs.Carries.{Carries}
use Rattle.locator.specs.Reach.{reaches as reached}
use Rattle.passive_store.specs.Kept.{Layout, doubt_in}
use Rattle.journal.specs.declared.command.Command.TheVariants as command
use Rattle.journal.specs.declared.event.Event.TheVariants as event
use Rattle.journal.specs.declared.event.Entry.{Entry}
use Rattle.journal.specs.Commands.{creation, IsCreation, born_as as born_in_world, made as made_in_world}
use Rattle.journal.specs.Ejects.{fresh, next_uid, born}
use Rattle.journal.specs.References.{with_name}
use Rattle.journal.specs.Step.{AllowsEvent, ClockFits, StoreClock, breaks, clocked, counted, happened, key_of, next, touched}
use Rattle.journal.specs.Sites.{AllSound, Everywhere}
use Rattle.journal.specs.Standing.{Standing, state, nothing_stands}
use Rattle.journal.specs.World.{World, Meaning, Site, Node, capability, nothing, node_at, site_of, site_at, at_node}
use Rattle.journal.specs.World.{on_node}
use Rattle.history_laws.proofs.EveryNode.{next-following}
use Rattle.history_laws.proofs.SiteFrames.{leaves-born}
use Rattle.history_laws.proofs.SiteTurns.{IsNew}
use Rattle.checkpoint.specs.StoreStands.{MapStands, state_of}
use Rattle.checkpoint.specs.Throughout.{StepOnDisk}
use Rattle.checkpoint.proofs.Lifts.{lift-elsewhere}
use Rattle.checkpoint.proofs.MapStands.{state-is}
use Rattle.ejects.specs.Creations.{HasNewUid, born_as}
use Rattle.ejects.proofs.Keeping.{keeps-same}
use Rattle.eden_kernel.specs.Stands.{Held, IsWhole, NodeStands}
use Rattle.eden_world.specs.Worlds.{Seat, up, InHand, SeatStands, IsNumber, WorldStands}
use Rattle.eden_world.specs.Creating.{status_of}
use Rattle.scheduled_node.specs.Scheduled.{uid_made}
use Rattle.eden_world.specs.Steps.{TakesNames, Names, TouchesNone, Goes, step_by}
use Rattle.eden_world.proofs.Messages.{carrying}
use Rattle.eden_world.proofs.Numbers.{not-zero}
use Rattle.eden_world.proofs.InWorld.{with_node, node-with, with-itself, links-of, same-links, seat-in-world}
use Rattle.eden_world.proofs.InWorld.{reach-of}
use Rattle.eden_world.proofs.Sites.{SamePlace, site-is, at-node-is}
use Rattle.eden_world.proofs.Disks.{each-disk, state-same}
use Rattle.eden_world.proofs.TurnEntries.{IsUp, is-up, no-names}
use Rattle.eden_world.proofs.Named.{newest, name-goes}

-- 1. A creation

-- the new Eject is at its node; the name stands for it, or for nothing where there is none
pub record TakesBorn (n : ℕ) (seat : Seat) (name : List ℕ) (m : Meaning) (old new : InHand) : Type 0 where
  pub types : new.types ≡ old.types
  pub here : new.seats n ≡ Some seat
  pub others : (k : ℕ) → (k == n) ≡ false → new.seats k ≡ old.seats k
  pub mail : new.mail ≡ old.mail
  pub places : new.places ≡ old.places
  pub names : Names name m old new

-- what the node answers, and that it stands for the site with the new Eject
pub record CreatesAt (layout : Layout) (t : Edentype) (made : Result Uid Status) (old : InHand) (x : Held) (s : Site) : Type 0 where
  pub next : next_uid s ≡ made
  pub stands : NodeStands layout old.types x old.mail (born_as made t s)

abbrev pub meaning_made : Option Uid → Meaning
meaning_made (Some u) = capability (full u)
meaning_made None = nothing

abbrev shown_state : ℕ → Option Node → Standing
shown_state n o = with_item o (λ it. state_of n it) nothing_stands

named-stands : (layout : Layout) (more : ℕ) (h new : InHand) (w : World) (name : List ℕ) (m : Meaning) → WorldStands layout more h w
    → Names name m h new → WorldStands layout more (record h { names = new.names }) (with_name name m w)
named-stands layout more h new w name m stands names = record {
  its_layout = stands.its_layout;
  its_types = stands.its_types;
  numbers = stands.numbers;
  nodes = stands.nodes;
  no_more = stands.no_more;
  calls = stands.calls;
  ups = stands.ups;
  links = stands.links;
  names = λ other. newest name m w w.traffic other ∙ ap (λ o. cond (same_text name other) (Some m) o) (stands.names other)
      ∙ sym (names other);
}

place-born : (made : Result Uid Status) (t : Edentype) (s : Site) → SamePlace s (born_as made t s)
place-born (Ok u) t s = let left = leaves-born u (fresh t (first_values t)) s in
    record { number = left.number; types = left.types; layout = left.layout }
place-born (Err why) t s = record { number = refl; types = refl; layout = refl }

traffic-born : (made : Result Uid Status) (t : Edentype) (s : Site) → (born_as made t s).traffic ≡ s.traffic
unfolding on_node
traffic-born (Ok u) t s = refl
traffic-born (Err why) t s = refl

module _ (layout : Layout) (more : ℕ) (old new : InHand) (w : World) (n : ℕ) (h x : Held) (e : Entry) (name type_name : List ℕ)
    (t : Edentype) (made : Result Uid Status) (sound : AllSound w) (ready : Everywhere (λ m it. IsNew (site_of w m it)) w)
    (stands : WorldStands layout (suc more) old w) (number : IsNumber n) (sits : old.seats n ≡ Some (up h))
    (typed : type_of w.types type_name ≡ Some t) (takes : TakesBorn n (up x) name (meaning_made (uid_made made)) old new)
    (whole : IsWhole x) (seen : x.seen ≡ h.seen)
    (creates : (s : Site) → HasNewUid s → NodeStands layout old.types h old.mail s → CreatesAt layout t made old x s)
    (entry : TouchesNone e) (its_event : e.event ≡ event.Made name (status_of made) (uid_made made))
    (there : reached old.places 0 n ≡ true) where
  abbrev was : IsUp layout (suc more) old w n h
  was = is-up layout (suc more) old w n h stands sits

  abbrev site : Site
  site = site_of w n was.it

  created : CreatesAt layout t made old x site
  created = creates site (record { in_order = (sound n was.it was.at).node.in_order; is_new = ready n was.it was.at }) was.stands.stands

  abbrev behind : Site
  behind = born_as made t site

  abbrev world_later : World
  world_later = with_node n behind.node behind.traffic w

  abbrev mid : InHand
  mid = record new { names = old.names }

  -- the world with the Eject
  abbrev world_with : Result Uid Status → World
  world_with (Ok u) = born_in_world u (type_of w.types type_name) w
  world_with (Err why) = w

  world-with : (r : Result Uid Status) → next_uid site ≡ r
      → world_with r ≡ with_node n (born_as r t site).node (born_as r t site).traffic w
  world-with (Ok u) at = ap (λ o. born_in_world u o w) typed
      ∙ ap (λ m. at_node m (born u (fresh t (first_values t))) w) (ap (λ (v : Uid). v.node) (next-following site u at))
      ∙ at-node-is n (born u (fresh t (first_values t))) w was.it was.at
  world-with (Err why) at = sym (with-itself layout (suc more) old w n was.it stands number was.at)

  named-is : (r : Result Uid Status) → made_in_world name type_name (uid_made r) w ≡ with_name name (meaning_made (uid_made r))
      (world_with r)
  named-is (Ok u) = refl
  named-is (Err why) = refl

  next_is : next w (Some (command.Create name n type_name)) e ≡ with_name name (meaning_made (uid_made made)) world_later
  next_is = ap (λ v. counted (key_of v) (clocked e.node e.clock (happened w (Some (command.Create name n type_name)) v))) its_event
      ∙ ap (λ k. clocked k e.clock (made_in_world name type_name (uid_made made) w)) entry.disk ∙ named-is made
      ∙ ap (with_name name (meaning_made (uid_made made))) (world-with made created.next)

  site_is : behind ≡ carrying behind.traffic (site_of w n behind.node)
  site_is = site-is w n was.it behind (place-born made t site)

  number_is : behind.number ≡ n
  number_is = (place-born made t site).number

  seat_stands : SeatStands layout old.types mid.mail more (carrying behind.traffic (site_of w n behind.node)) (up x)
  seat_stands = record {
    number = whole.number ∙ sym created.stands.disk.number ∙ number_is;
    whole = whole;
    stands = subst (λ m. NodeStands layout old.types x m (carrying behind.traffic (site_of w n behind.node))) (sym takes.mail)
        (subst (NodeStands layout old.types x old.mail) site_is created.stands);
    told = omega (arith, was.stands.told, ap (λ y. y.more) seen);
  }

  stands_later : WorldStands layout more new (next w (Some (command.Create name n type_name)) e)
  stands_later = subst (WorldStands layout more new) (sym next_is) (named-stands layout more mid new world_later name
      (meaning_made (uid_made made))
      (seat-in-world layout more old mid w n behind.node behind.traffic (up x) stands number (ap is_some was.at) takes.types takes.here takes.others
      (λ other. refl)
      (keeps-same w.traffic behind.traffic (ap (λ (z : Traffic). z.calls) (traffic-born made t site)))
      (subst (Carries mid.mail) (sym (traffic-born made t site)) (subst (λ m. Carries m w.traffic)
      (sym takes.mail) stands.calls)) seat_stands
      (same-links n was.it behind.node behind.traffic w old mid was.at (created.stands.disk.up ∙ sym was.stands.stands.disk.up) takes.places
      (links-of layout (suc more) old w stands))) takes.names)

  node_is : h.seen.node ≡ n
  node_is = sym was.stands.whole.number ∙ was.stands.number

  -- the disk knows nothing of it
  same_state : state_of n behind.node ≡ state_of n was.it
  same_state = subst (λ j. state_of j behind.node ≡ state_of j was.it) node_is
      (state-is h.seen.node behind h.seen.kept (doubt_in h.seen.work)
      (subst (λ y. MapStands y.node behind y.kept (doubt_in y.work)) seen created.stands.disk.keeps)
      ∙ sym (state-is h.seen.node site h.seen.kept (doubt_in h.seen.work) was.stands.stands.disk.keeps))

  node_later : (m : ℕ) → node_at (next w (Some (command.Create name n type_name)) e) m
      ≡ cond (eq_by_cmp nat_cmp m n) (Some behind.node) (node_at w m)
  node_later m = ap (λ v. node_at v m) next_is ∙ node-with n behind.node behind.traffic w m

  here_later : node_at (next w (Some (command.Create name n type_name)) e) n ≡ Some behind.node
  here_later = node_later n ∙ ap (λ b. cond b (Some behind.node) (node_at w n)) (same-self n)

  others_later : (m : ℕ) → IsNumber m → (m == n) ≡ false
      → state (next w (Some (command.Create name n type_name)) e) m ≡ state w m
  others_later m its_number apart = state-same m w (next w (Some (command.Create name n type_name)) e)
      (node_later m ∙ ap (λ b. cond b (Some behind.node) (node_at w m)) (other-node m n apart))

  state_later : state (next w (Some (command.Create name n type_name)) e) n ≡ state w n
  state_later = ap (shown_state n) here_later ∙ same_state ∙ sym (ap (shown_state n) was.at)

  disk_step : StepOnDisk layout n (step_by w (Some (command.Create name n type_name)) e) h.seen.disk.told h.seen.disk.counts.clock
      x.seen.disk.told x.seen.disk.counts.clock
  disk_step = subst (λ y. StepOnDisk layout n (step_by w (Some (command.Create name n type_name)) e) h.seen.disk.told
      h.seen.disk.counts.clock y.disk.told y.disk.counts.clock) (sym seen)
      (lift-elsewhere layout n (step_by w (Some (command.Create name n type_name)) e) h.seen.disk.told h.seen.disk.counts.clock
      (ap (λ j. j == n) entry.disk ∙ not-zero n number) state_later)

  creation_is : creation w n ≡ made
  creation_is = ap (λ b. cond b (with_item (site_at w n) next_uid (Err status.Unreachable)) (Err status.Unreachable))
      (reach-of layout (suc more) old w stands 0 n (omega arith) ∙ there)
      ∙ ap (λ o. with_item (with_item o (λ it. Some (site_of w n it)) None) next_uid (Err status.Unreachable)) was.at ∙ created.next

  is-creation : (r : Result Uid Status) → IsCreation r (status_of r) (uid_made r)
  is-creation (Ok u) = (refl, refl)
  is-creation (Err why) = (refl, refl)

  pub creation-goes : Goes layout more w (Some (command.Create name n type_name)) e old new
  creation-goes = record {
    allowed = record {
      event = subst (AllowsEvent w (Some (command.Create name n type_name))) (sym its_event) (
        refl,
        ap is_some typed,
        subst (λ r. IsCreation r (status_of made) (uid_made made)) (sym creation_is) (is-creation made),
      );
      broken = entry.broken ∙ no-names (breaks e.event) w.traffic (λ k. ap (λ v. breaks v k) its_event);
      disk = entry.disk ∙ sym (ap (touched w) its_event);
      clock = subst (λ m. ClockFits w m e.clock) (sym entry.disk) entry.clock;
      store_clock = subst (λ v. StoreClock w v e.clock) (sym its_event) tt;
    };
    stands = stands_later;
    disks = each-disk layout (suc more) old new w (Some (command.Create name n type_name)) e n (up h) (up x) stands sits takes.here
        takes.others (inr entry.disk) others_later disk_step;
  }

-- a node that is down, or behind a cut link
pub unreachable-goes : (layout : Layout) (more : ℕ) (old new : InHand) (w : World) (e : Entry) (name : List ℕ) (n : ℕ) (type_name : List ℕ)
    (t : Edentype) → WorldStands layout (suc more) old w → reached old.places 0 n ≡ false → type_of w.types type_name ≡ Some t
    → TakesNames old new → Names name nothing old new → TouchesNone e → e.event ≡ event.Made name status.Unreachable None
    → Goes layout more w (Some (command.Create name n type_name)) e old new
unreachable-goes layout more old new w e name n type_name t stands cut typed takes names entry is =
    name-goes layout more old new w (Some (command.Create name n type_name)) e name nothing stands
    (ap (happened w (Some (command.Create name n type_name))) is) takes names entry
    (subst (AllowsEvent w (Some (command.Create name n type_name))) (sym is) (
      refl,
      ap is_some typed,
      subst (λ r. IsCreation r status.Unreachable None) (sym creation_is) (refl, refl),
    )) (ap (touched w) is) (λ k. ap (λ v. breaks v k) is)
    (subst (λ v. StoreClock w v e.clock) (sym is) tt)
  where
    creation_is : creation w n ≡ Err status.Unreachable
    creation_is = ap (λ b. cond b (with_item (site_at w n) next_uid (Err status.Unreachable)) (Err status.Unreachable))
        (reach-of layout (suc more) old w stands 0 n (omega arith) ∙ cut)
