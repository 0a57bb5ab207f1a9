-- A turn of one node behind which it goes on: in the world, and to the disks.
use Rattle.std.proofs.Common.{◌≡◌, inl, inr, ℕ, zero, suc, ◌+◌, ◌≤◌, Bool, false, cond, List, [], ◌∷◌, Option, None, Some, is_some}
use Rattle.std.proofs.Common.{refl, sym, ◌∙◌, ap, subst, arith}
use Rattle.std.specs.Prelude.{IsSomeAnd, IfSome}
use Rattle.std.specs.List.{filter_map}
use Rattle.eden_model.specs.Map.{with_item}
use Rattle.eden_model.specs.Traffic.{Traffic, Call, call_at, names_of, shell_name}
use Rattle.invocation.specs.Mail.{Mail}
use Rattle.invocation.specs.Carries.{Carries}
use Rattle.passive_store.specs.Kept.{Layout}
use Rattle.journal.specs.declared.event.Event.{Event}
use Rattle.journal.specs.declared.event.Event.TheVariants as event
use Rattle.journal.specs.declared.event.Entry.{Entry}
use Rattle.journal.specs.declared.event.StartEnd.TheVariants as start_end
use Rattle.journal.specs.declared.event.RequestEnd.TheVariants as request_end
use Rattle.journal.specs.World.{World, Site, Node, node_at, site_of, site_at, at_node, reaches}
use Rattle.journal.specs.Step.{AllowsAt, AllowsInTurn, ClockFits, StoreClock, site_turn, at_site, after_turn, happened, next}
use Rattle.journal.specs.Step.{counted}
use Rattle.journal.specs.Step.{clocked, key_of, breaks, touched}
use Rattle.journal.specs.Sites.{AllSound, IsSoundSite, GoesOn, with_changes_of}
use Rattle.journal.specs.Standing.{epoch_put}
use Rattle.history_laws.proofs.EventCalls.{calls-go-on}
use Rattle.history_laws.proofs.Lifts.{holds-at_site}
use Rattle.history_laws.proofs.SiteFrames.{keeps-site}
use Rattle.checkpoint.specs.StoreStands.{NodeOnDisk}
use Rattle.checkpoint.specs.Throughout.{StepOnDisk}
use Rattle.checkpoint.specs.Turns.{with_clock}
use Rattle.checkpoint.proofs.Throughout.{timed-rises}
use Rattle.checkpoint.proofs.WorldTurns.{Placed, lift-turn}
use Rattle.ejects.proofs.KeptClasses.{Keeps}
use Rattle.eden_kernel.specs.Stands.{Held, IsWhole, NodeStands}
use Rattle.eden_kernel.specs.Turns.{Turns, clock_of}
use Rattle.eden_world.specs.Worlds.{up, InHand, UpStands, SeatStands, IsNumber, WorldStands}
use Rattle.eden_world.specs.Steps.{IsTurnAt, TurnsIn, TakesSeat, TurnsGo, Shows, Goes, EachDisk, step_by}
use Rattle.eden_world.proofs.Messages.{carrying}
use Rattle.eden_world.proofs.Numbers.{no-shell}
use Rattle.eden_world.proofs.InWorld.{IsThere, sits-there, seat-stands, with_node, LinksStand, links-of, same-links, seat-in-world, counted-stands}
use Rattle.eden_world.proofs.Sites.{SamePlace, site-is, at-node-is, clocked_as, clock-is, clocked-is}
use Rattle.eden_world.proofs.Disks.{Touches, each-disk, states-elsewhere}

-- 1. Events at a node

-- it is that at its site
pub turned-at : (w : World) (n : ℕ) (e : Event) → IsTurnAt n e → after_turn w e ≡ at_site w n e
turned-at w n (event.Request k a b refused) is = ap (λ m. at_site w m (event.Request k a b refused)) is
turned-at w n (event.Reply k a b None why values) is = ap (λ m. at_site w m (event.Reply k a b None why values)) is.0
turned-at w n (event.Reply k a b (Some name) why values) is = absurd (let bad : Some name ≡ None = is.1 in cc bad)
turned-at w n (event.Activate u start_end.Ok p) is = ap (λ m. at_site w m (event.Activate u start_end.Ok p)) is.0
turned-at w n (event.Activate u start_end.Gone p) is = ap (λ m. at_site w m (event.Activate u start_end.Gone p)) is.0
turned-at w n (event.Activate u start_end.Fault p) is = ap (λ m. at_site w m (event.Activate u start_end.Fault p)) is.0
turned-at w n (event.Activate u start_end.Damaged p) is = ap (λ m. at_site w m (event.Activate u start_end.Damaged p)) is.0
turned-at w n (event.Activate u start_end.Stop p) is = absurd is.1
turned-at w n (event.Start k u p) is = ap (λ m. at_site w m (event.Start k u p)) is
turned-at w n (event.Process u p said) is = ap (λ m. at_site w m (event.Process u p said)) is
turned-at w n (event.Store u clock request_end.Part p) is = ap (λ m. at_site w m (event.Store u clock request_end.Part p)) is.0
turned-at w n (event.Store u clock request_end.Done p) is = ap (λ m. at_site w m (event.Store u clock request_end.Done p)) is.0
turned-at w n (event.Store u clock request_end.Fault p) is = ap (λ m. at_site w m (event.Store u clock request_end.Fault p)) is.0
turned-at w n (event.Store u clock request_end.Full p) is = ap (λ m. at_site w m (event.Store u clock request_end.Full p)) is.0
turned-at w n (event.Store u clock request_end.Stop p) is = absurd is.1
turned-at w n _ is = absurd is

at-other : (w : World) (m n : ℕ) (it : Node) (P : Site → Type 0) → m ≡ n → node_at w n ≡ Some it → P (site_of w n it)
    → IsSomeAnd (site_at w m) P
at-other w m n it P is at p = subst (λ j. IsSomeAnd (site_at w j) P) (sym is) (holds-at_site w n it P at p)

-- and allowed in the world where it is allowed there
pub allowed-in : (w : World) (n : ℕ) (it : Node) (e : Event) → IsTurnAt n e → node_at w n ≡ Some it → AllowsAt (site_of w n it) e
    → AllowsInTurn w e
allowed-in w n it (event.Request k a b refused) is at h = at-other w b n it (λ s. AllowsAt s (event.Request k a b refused)) is at h
allowed-in w n it (event.Reply k a b name why values) is at h = h
allowed-in w n it (event.Activate u how p) is at h = at-other w u.node n it (λ s. AllowsAt s (event.Activate u how p)) is.0 at h
allowed-in w n it (event.Start k u p) is at h = at-other w u.node n it (λ s. AllowsAt s (event.Start k u p)) is at h
allowed-in w n it (event.Process u p said) is at h = at-other w u.node n it (λ s. AllowsAt s (event.Process u p said)) is at h
allowed-in w n it (event.Store u clock how p) is at h = at-other w u.node n it (λ s. AllowsAt s (event.Store u clock how p)) is.0 at h
allowed-in w n it _ is at h = absurd is

-- it breaks no call
unbroken : (n : ℕ) (e : Event) → IsTurnAt n e → (c : Call) → breaks e c ≡ false
unbroken n (event.Request k a b refused) is c = refl
unbroken n (event.Reply k a b name why values) is c = refl
unbroken n (event.Activate u start_end.Ok p) is c = refl
unbroken n (event.Activate u start_end.Gone p) is c = refl
unbroken n (event.Activate u start_end.Fault p) is c = refl
unbroken n (event.Activate u start_end.Damaged p) is c = refl
unbroken n (event.Activate u start_end.Stop p) is c = absurd is.1
unbroken n (event.Start k u p) is c = refl
unbroken n (event.Process u p said) is c = refl
unbroken n (event.Store u clock request_end.Part p) is c = refl
unbroken n (event.Store u clock request_end.Done p) is c = refl
unbroken n (event.Store u clock request_end.Fault p) is c = refl
unbroken n (event.Store u clock request_end.Full p) is c = refl
unbroken n (event.Store u clock request_end.Stop p) is c = absurd is.1
unbroken n _ is c = absurd is

none-named : (hits : Call → Bool) → ((c : Call) → hits c ≡ false) → (es : List (ℕ × Call))
    → filter_map (λ e. cond (hits e.1) (shell_name e.1.asker) None) es ≡ []
none-named hits none [] = refl
none-named hits none (e ∷ es) = rw (none e.1) (none-named hits none es)

pub no-names : (hits : Call → Bool) (t : Traffic) → ((c : Call) → hits c ≡ false) → [] ≡ names_of hits t
no-names hits t none = sym (none-named hits none t.calls)

-- and puts no epoch
puts-none : (n : ℕ) (w : World) (e : Event) → IsTurnAt n e → epoch_put n w e ≡ []
puts-none n w (event.Request k a b refused) is = refl
puts-none n w (event.Reply k a b name why values) is = refl
puts-none n w (event.Activate u how p) is = refl
puts-none n w (event.Start k u p) is = refl
puts-none n w (event.Process u p said) is = refl
puts-none n w (event.Store u clock how p) is = refl
puts-none n w _ is = absurd is

-- nor changes the clock, which its entry does
clock-kept : (e : Event) (it new : Node) → (with_changes_of e it new).clock ≡ it.clock
clock-kept (event.Activate u start_end.Ok p) it new = refl
clock-kept (event.Activate u start_end.Gone p) it new = refl
clock-kept (event.Activate u start_end.Fault p) it new = refl
clock-kept (event.Activate u start_end.Damaged p) it new = refl
clock-kept (event.Activate u start_end.Stop p) it new = refl
clock-kept (event.Store u clock request_end.Part p) it new = refl
clock-kept (event.Store u clock request_end.Done p) it new = refl
clock-kept (event.Store u clock request_end.Fault p) it new = refl
clock-kept (event.Store u clock request_end.Full p) it new = refl
clock-kept (event.Store u clock request_end.Stop p) it new = refl
clock-kept (event.Request k a b refused) it new = refl
clock-kept (event.Reply k a b name why values) it new = refl
clock-kept (event.Start k u p) it new = refl
clock-kept (event.Process u p said) it new = refl
clock-kept (event.Boot m epoch how p began) it new = refl
clock-kept (event.Crash m) it new = refl
clock-kept _ it new = refl

pub same-clock : (reach : ℕ → Bool) (e : Event) (s : Site) → (site_turn reach e s).node.clock ≡ s.node.clock
same-clock reach e s = ap (λ (it : Node). it.clock) (keeps-site reach e s).node ∙ clock-kept e s.node (site_turn reach e s).node

-- 2. Clocks

fits-on : (w : World) (n : ℕ) (it : Node) (before after : ℕ) → 1 ≤ n → node_at w n ≡ Some it → it.clock ≡ Some before → before ≤ after
    → ClockFits w n after
fits-on w zero it before after some at clock rises = absurd (omega (arith, some))
fits-on w (suc n) it before after some at clock rises =
    subst (λ o. IfSome (with_item o (λ (x : Node). x.clock) None) (λ b. b ≤ after)) (sym at)
    (subst (λ o. IfSome o (λ b. b ≤ after)) (sym clock) rises)

pub clock-fits : (w : World) (e : Entry) (n : ℕ) (it : Node) (before after : ℕ) → IsNumber n → node_at w n ≡ Some it
    → it.clock ≡ Some before → before ≤ after → Shows e n before after → ClockFits w e.node e.clock
clock-fits w e n it before after number at clock rises (inl (here, shown)) =
    subst (λ m. ClockFits w m e.clock) (sym here) (subst (λ c. ClockFits w n c) (sym shown)
    (fits-on w n it before after number.first at clock rises))
clock-fits w e n it before after number at clock rises (inr (none, zero_is, level)) =
    subst (λ m. ClockFits w m e.clock) (sym none) zero_is

pub touches-so : (e : Entry) (n before after : ℕ) → Shows e n before after → Touches e n
touches-so e n before after (inl h) = inl h.0
touches-so e n before after (inr h) = inr h.0

pub placed-so : (e : Entry) (n before after : ℕ) → Shows e n before after → Placed e n before after
placed-so e n before after (inl (here, shown)) = inl (here, shown)
placed-so e n before after (inr (none, zero_is, level)) = inr (none, level)

-- 3. The calls keep their operations

pub keeps-operations : (reach : ℕ → Bool) (e : Event) (s : Site) → IsSoundSite s → AllowsAt s e
    → Keeps s.traffic (site_turn reach e s).traffic
keeps-operations reach e s sound allowed = record {
  at = λ k c is. go c (call_at (site_turn reach e s).traffic k)
      ((calls-go-on reach e s sound allowed).goes k c is);
}
  where
    go : (c : Call) (o : Option Call) → IsSomeAnd o (GoesOn c) → IsSomeAnd o (λ d. d.operation ≡ c.operation)
    go c None h = absurd h
    go c (Some d) h = h.operation

-- 4. A node that is up

pub record IsUp (layout : Layout) (more : ℕ) (h : InHand) (w : World) (n : ℕ) (x : Held) : Type 0 where
  pub it : Node
  pub at : node_at w n ≡ Some it
  pub stands : UpStands layout h.types h.mail more (site_of w n it) x

pub is-up : (layout : Layout) (more : ℕ) (h : InHand) (w : World) (n : ℕ) (x : Held) → WorldStands layout more h w
    → h.seats n ≡ Some (up x) → IsUp layout more h w n x
is-up layout more h w n x stands sits = record {
  it = here.it;
  at = here.at;
  stands = seat-stands layout more h w n (up x) here sits;
}
  where
    here : IsThere layout more h w n
    here = sits-there layout more h w n (up x) stands sits

-- 5. Its turn

module _ (layout : Layout) (more : ℕ) (old new : InHand) (w : World) (n : ℕ) (h x : Held) (later : Mail) (e : Entry)
    (sound : AllSound w) (stands : WorldStands layout (suc more) old w) (number : IsNumber n) (sits : old.seats n ≡ Some (up h))
    (takes : TakesSeat n (up x) later old new) (whole : IsWhole x)
    (room : h.seen.more ≤ x.seen.more + 1) (turns : TurnsIn layout old w n h x later e.event) (is : IsTurnAt n e.event)
    (shows : Shows e n (clock_of h) (clock_of x)) where
  abbrev was : IsUp layout (suc more) old w n h
  was = is-up layout (suc more) old w n h stands sits

  abbrev site : Site
  site = site_of w n was.it

  turn : Turns layout old.types x later (reaches w n) h site e.event
  turn = turns was.it was.at (sound n was.it was.at) was.stands.stands

  abbrev behind : Site
  behind = site_turn (reaches w n) e.event site

  same_place : SamePlace site behind
  same_place = let kept = keeps-site (reaches w n) e.event site in
      record { number = kept.number; types = kept.types; layout = kept.layout }

  happens : happened w None e.event ≡ at_node n (site_turn (reaches w n) e.event) w
  happens = turned-at w n e.event is

  abbrev node_later : Node
  node_later = clocked_as (clock_of x) behind.node

  abbrev world_later : World
  world_later = with_node n node_later behind.traffic w

  clock_was : was.it.clock ≡ Some (clock_of h)
  clock_was = was.stands.stands.disk.its_clock

  next_is : next w None e ≡ counted (key_of e.event) world_later
  next_is = ap (λ v. counted (key_of e.event) (clocked e.node e.clock v)) (happens
      ∙ at-node-is n (site_turn (reaches w n) e.event) w was.it was.at)
      ∙ ap (counted (key_of e.event)) (clocked-is e n (clock_of h) (clock_of x) behind.node behind.traffic w (no-shell n number) shows
      (λ level. same-clock (reaches w n) e.event site ∙ clock_was ∙ sym (ap Some level)))

  site_later : with_clock (clock_of x) behind ≡ carrying behind.traffic (site_of w n node_later)
  site_later = clock-is (clock_of x) behind ∙ site-is w n was.it (record behind { node = node_later })
      (record { number = same_place.number; types = same_place.types; layout = same_place.layout })

  node_stands : NodeStands layout old.types x later (carrying behind.traffic (site_of w n node_later))
  node_stands = subst (NodeStands layout old.types x later) site_later turn.stands

  seat_stands : SeatStands layout old.types new.mail more (carrying behind.traffic (site_of w n node_later)) (up x)
  seat_stands = record {
    number = whole.number ∙ sym node_stands.disk.number;
    whole = whole;
    stands = subst (λ m. NodeStands layout old.types x m (carrying behind.traffic (site_of w n node_later))) (sym takes.mail) node_stands;
    told = omega (arith, room, was.stands.told);
  }

  links_later : LinksStand new.places world_later
  links_later = same-links n was.it node_later behind.traffic w old new was.at
      (node_stands.disk.up ∙ sym was.stands.stands.disk.up) takes.places
      (links-of layout (suc more) old w stands)

  stands_later : WorldStands layout more new (next w None e)
  stands_later = subst (WorldStands layout more new) (sym next_is) (counted-stands layout more new world_later (key_of e.event)
      (seat-in-world layout more old new w n node_later behind.traffic (up x) stands number (ap is_some was.at) takes.types takes.here takes.others takes.names
      (keeps-operations (reaches w n) e.event site (sound n was.it was.at) turn.allowed)
      (subst (λ m. Carries m behind.traffic) (sym takes.mail) node_stands.calls.calls) seat_stands links_later))

  node_is : h.seen.node ≡ n
  node_is = sym was.stands.whole.number ∙ was.stands.number

  disk_step : StepOnDisk layout n (step_by w None e) h.seen.disk.told (clock_of h) x.seen.disk.told (clock_of x)
  disk_step = lift-turn layout n w None e (site_turn (reaches w n) e.event) was.it [] h.seen.disk.told x.seen.disk.told (clock_of h)
      (clock_of x) (no-shell n number) was.at happens (placed-so e n (clock_of h) (clock_of x) shows) (puts-none n w e.event is)
      (subst (λ j. NodeOnDisk layout j was.it [] behind.node h.seen.disk.told (clock_of h) x.seen.disk.told (clock_of x)) node_is turn.disk)

  disks_later : EachDisk layout (step_by w None e) old new
  disks_later = each-disk layout (suc more) old new w None e n (up h) (up x) stands sits takes.here takes.others
      (touches-so e n (clock_of h) (clock_of x) shows)
      (states-elsewhere w None e n (site_turn (reaches w n) e.event) happens (touches-so e n (clock_of h) (clock_of x) shows)) disk_step

  rises : clock_of h ≤ clock_of x
  rises = timed-rises (clock_of h) (clock_of x) h.seen.disk.told x.seen.disk.told turn.disk.timed

  pub turn-goes : e.broken ≡ [] → e.node ≡ touched w e.event → StoreClock w e.event e.clock → Goes layout more w None e old new
  turn-goes broken disk store_clock = record {
    allowed = record {
      event = allowed-in w n was.it e.event is was.at turn.allowed;
      broken = broken ∙ no-names (breaks e.event) w.traffic (unbroken n e.event is);
      disk = disk;
      clock = clock-fits w e n was.it (clock_of h) (clock_of x) number was.at clock_was rises shows;
      store_clock = store_clock;
    };
    stands = stands_later;
    disks = disks_later;
  }

pub turns-go : TurnsGo
turns-go layout more old new w n h x later e sound stands t = turn-goes layout more old new w n h x later e sound stands t.number t.sits
    t.takes t.whole t.room t.turns t.is_turn t.shows t.broken t.disk t.store_clock
