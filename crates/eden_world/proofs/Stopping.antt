-- The turn of a key in which the disk of its node stops, as a program takes it: the node is closed, and whoever waited for its calls is
-- told.
use Rattle.std.proofs.Common.{◌≡◌, ◌==◌, ◌≤◌, ◌||◌, ℕ, suc, Bool, true, false, not, List, Option, None, Some, refl, sym, ◌∙◌, ap}
use Rattle.std.proofs.Common.{subst, arith}
use Rattle.std.specs.List.{Contains}
use Rattle.eden_model.specs.Traffic.{Traffic, numbers_of, broken_by_node, without_node}
use Rattle.invocation.specs.Carries.{Carries}
use Rattle.invocation.specs.Mail.{Mail}
use Rattle.passive_store.specs.Kept.{Layout}
use Rattle.passive_store.specs.Seen.{Seen, DiskSeen}
use Rattle.passive_store.specs.declared.store.Doubt.{Doubt}
use Rattle.journal.specs.Enabled.{enabled}
use Rattle.journal.specs.Kept.{crashes}
use Rattle.journal.specs.Sites.{IsSoundSite}
use Rattle.journal.specs.Step.{key_of, site_turn, stopped_at, touches_store}
use Rattle.journal.specs.World.{World, Site, Node, node_at, site_of, reaches}
use Rattle.journal.specs.declared.event.Entry.{Entry}
use Rattle.journal.specs.declared.event.Event.{Event}
use Rattle.journal.specs.declared.event.Event.TheVariants as event
use Rattle.journal.specs.declared.event.Key.{Key}
use Rattle.journal.specs.declared.event.RequestEnd.TheVariants as request_end
use Rattle.journal.specs.declared.event.StartEnd.TheVariants as start_end
use Rattle.history_laws.proofs.StaysUp.{up-requested, up-heard, up-start, up-process_turn}
use Rattle.eden_kernel.specs.Stands.{Held, held, NodeStands}
use Rattle.eden_kernel.specs.Turns.{clock_of}
use Rattle.eden_kernel.specs.declared.stores.TurnEnd.TheVariants as turn_end
use Rattle.scheduled_node.specs.Scheduled.{manned, KeyTurns}
use Rattle.scheduled_node.specs.Touched.{TurnTouches, ShowsClock}
use Rattle.scheduled_node.specs.declared.ScheduledNode.{ScheduledNode}
use Rattle.shell_names.specs.Names.{meanings}
use Rattle.runs.specs.Reached.{IsReached}
use Rattle.eden_world.specs.Breaking.{Loses}
use Rattle.eden_world.specs.InHand.{seen_at, in_hand, HaveAgendas, Stands, Ends}
use Rattle.eden_world.specs.Seated.{FitsTogether, IsClosed}
use Rattle.eden_world.specs.Steps.{Goes, ShowsIf, turn_touches, event_touches}
use Rattle.eden_world.specs.Taken.{Takes}
use Rattle.eden_world.specs.Told.{EntryShows, Fell, IsTelling, Reseats, SameDisks, SetsUp}
use Rattle.eden_world.specs.Turning.{Swaps, TurnSays}
use Rattle.eden_world.specs.Worlds.{InHand, IsNumber, down}
use Rattle.eden_world.specs.declared.World.{World as Program}
use Rattle.eden_world.specs.declared.seats.Seat.TheVariants as place
use Rattle.eden_world.proofs.Crashes.{IsDiskTurn, StopsSo, noted_of, stop-begins, stop-crashes, stop-starves}
use Rattle.eden_world.proofs.EnabledKeys.{key-of-enabled}
use Rattle.eden_world.proofs.FallEntries.{store-stop-entry, start-stop-entry}
use Rattle.eden_world.proofs.Falls.{up-timed}
use Rattle.eden_world.proofs.InWorld.{reach-of}
use Rattle.eden_world.proofs.KeyTurning.{as-due}
use Rattle.eden_world.proofs.Placing.{agendas-behind}
use Rattle.eden_world.proofs.TellingAll.{number-of}
use Rattle.eden_world.proofs.TurnEntries.{IsUp, is-up}

-- 1. A turn behind which the node is down called its disk, and touched it

off-on : {A : Type 0} (b : Bool) → b ≡ true → b ≡ false → A
off-on b on off = absurd (let bad : true ≡ false = sym on ∙ off in cc bad)

pub disk-turn : (reach : ℕ → Bool) (ev : Event) (s : Site) (key : Key) → key_of ev ≡ Some key → s.node.up ≡ true
    → (site_turn reach ev s).node.up ≡ false → IsDiskTurn ev
disk-turn reach (event.Request k a b refused) s key is on off = off-on _ (up-requested k refused s on) off
disk-turn reach (event.Reply k a b name why values) s key is on off = off-on _ (up-heard k why values s on) off
disk-turn reach (event.Start k u p) s key is on off = off-on _ (up-start u k p s on) off
disk-turn reach (event.Process u p said) s key is on off = off-on _ (up-process_turn reach u p s on) off
disk-turn reach (event.Activate u how p) s key is on off = tt
disk-turn reach (event.Store u clock how p) s key is on off = tt
disk-turn reach _ s key is on off = absurd (cc is)

stop-touches : (n : ℕ) (ev : Event) (before after : ℕ) → IsDiskTurn ev → crashes n ev ≡ true → event_touches ev before after ≡ true
stop-touches n (event.Store u clock request_end.Stop p) before after is falls = refl
stop-touches n (event.Store u clock request_end.Part p) before after is falls = absurd (let bad : false ≡ true = falls in cc bad)
stop-touches n (event.Store u clock request_end.Done p) before after is falls = absurd (let bad : false ≡ true = falls in cc bad)
stop-touches n (event.Store u clock request_end.Fault p) before after is falls = absurd (let bad : false ≡ true = falls in cc bad)
stop-touches n (event.Store u clock request_end.Full p) before after is falls = absurd (let bad : false ≡ true = falls in cc bad)
stop-touches n (event.Activate u start_end.Stop p) before after is falls = refl
stop-touches n (event.Activate u start_end.Ok p) before after is falls = absurd (let bad : false ≡ true = falls in cc bad)
stop-touches n (event.Activate u start_end.Gone p) before after is falls = absurd (let bad : false ≡ true = falls in cc bad)
stop-touches n (event.Activate u start_end.Fault p) before after is falls = absurd (let bad : false ≡ true = falls in cc bad)
stop-touches n (event.Activate u start_end.Damaged p) before after is falls = absurd (let bad : false ≡ true = falls in cc bad)
stop-touches n _ before after is falls = absurd is

touched-shows : (t b : Bool) (n clock : ℕ) (e : Entry) → t ≡ true → ShowsIf (b || t) n clock e → (e.node ≡ n) × (e.clock ≡ clock)
touched-shows t true n clock e is h = (h.0, h.1)
touched-shows t false n clock e is h = let x : ShowsIf true n clock e = subst (λ z. ShowsIf z n clock e) is h in (x.0, x.1)

-- 2. The node of a turn that stopped

module _ {T D : Type 0} (tells : Bool) (layout : Layout) (seen : T → Seen) (look : D → DiskSeen) (n : ℕ) (key : Key) (s t : ScheduledNode
    T D)
    (disk : D) (noted : Option Doubt) (old mid new : Program T D) (later : Mail) (ev : Event)
    (x : Swaps n (place.Up s) (place.Down disk noted) old.calls old mid) (fits : FitsTogether seen old)
    (says : TurnSays turn_end.Down tells layout seen s t old.types old.calls old.places later key ev) (at : key.station ≡ n)
    (closed : IsClosed tells (held seen t.node) noted (look disk))
    (same : SameDisks (in_hand seen look mid) (in_hand seen look new)) where
  number : IsNumber n
  number = number-of seen n s (fits.nodes n s x.was)

  abbrev hand : Program T D → InHand
  hand p = in_hand seen look p

  abbrev a : Held
  a = held seen s.node

  abbrev b : Held
  b = held seen t.node

  module _ (more : ℕ) (w : World) (reached : IsReached w)
      (stood : Stands tells layout seen look old (suc more) w) (enabled_is : Contains (enabled w) key) where
    was : IsUp layout (suc more) (hand old) w n a
    was = is-up layout (suc more) (hand old) w n a stood.world (ap (seen_at seen look) x.was)

    taken : (it : Node) → node_at w n ≡ Some it → IsSoundSite (site_of w n it) → 1 ≤ a.seen.more
        → NodeStands layout old.types a old.calls (site_of w n it)
        → KeyTurns turn_end.Down layout old.types (manned seen t) later (reaches w n) (manned seen s) (site_of w n it) ev key
    taken it there sound some stands = says.turn stood.telling stood.its_layout (reaches w n) (site_of w n it)
        (key-of-enabled w reached n key enabled_is at) (record {
          at = λ m. reach-of layout (suc more) (hand old) w stood.world n m
              number.last;
        })
        sound (record {
          new_uid = record { in_order = sound.node.in_order; is_new = reached.new_uids n it there };
          turns = reached.turns n it there;
        }) some
        (record { node = stands; agenda = stood.agendas n s x.was })

    stops : StopsSo layout old.types old.calls w n a b ev
    stops it there sound some stands = (
      (taken it there sound some stands).turn,
      says.room stood.telling (site_of w n it) some stands,
    )

    noted_is : noted ≡ noted_of b
    noted_is = closed.doubt stood.telling

    here_is : seen_at seen look (Some (place.Down disk noted)) ≡ Some (down (noted_of b) b.seen.disk)
    here_is = ap (λ k. Some (down k (look disk))) noted_is ∙ ap (λ d. Some (down (noted_of b) d)) closed.disk

    reseated : Reseats n (down (noted_of b) b.seen.disk) (hand old) (hand mid)
    reseated = record {
      types = x.types;
      here = ap (seen_at seen look) x.here ∙ here_is;
      others = λ m other. ap (seen_at seen look) (x.others m other);
      names = λ name. ap (λ ns. meanings ns name) x.names;
    }

    -- where there was no memory behind it
    pub stop-ends : Ends layout seen look old more w new
    stop-ends = stop-starves layout more (hand old) (hand mid) (hand new) w n ev a b stood.world reached.sites number
        (ap (seen_at seen look) x.was) stops reseated same

    some : 1 ≤ a.seen.more
    some = omega (arith, was.stands.told)

    here : KeyTurns turn_end.Down layout old.types (manned seen t) later (reaches w n) (manned seen s) (site_of w n was.it) ev key
    here = taken was.it was.at (reached.sites n was.it was.at) some was.stands.stands

    up_before : (site_of w n was.it).node.up ≡ true
    up_before = was.stands.stands.disk.up

    down_behind : (site_turn (reaches w n) ev (site_of w n was.it)).node.up ≡ false
    down_behind = sym (up-timed (clock_of b) (site_turn (reaches w n) ev (site_of w n was.it))) ∙ here.turn.falls.rests.is_down

    is_disk_turn : IsDiskTurn ev
    is_disk_turn = disk-turn (reaches w n) ev (site_of w n was.it) key here.key up_before down_behind

    falls : crashes n ev ≡ true
    falls = stop-crashes (reaches w n) ev (site_of w n was.it) is_disk_turn (reached.sites n was.it was.at) here.turn.allowed up_before
        down_behind

    module _ (names : List (List ℕ)) (e : Entry) (lost : Loses layout seen look n names mid new) (is : e.event ≡ ev) (broken : e.broken ≡
        names)
        (shows : ShowsIf (turn_touches ev (clock_of a) (clock_of b)) n (clock_of b) e) where
      fell : Fell n a (noted_of b) b.seen.disk lost.numbers (hand old) lost.between
      fell = record {
        was_up = ap (seen_at seen look) x.was;
        seats = record {
          types = lost.without.types ∙ reseated.types;
          here = lost.without.seats n ∙ reseated.here;
          others = λ m other. lost.without.seats m ∙ reseated.others m other;
          names = λ name. lost.without.names name ∙ reseated.names name;
        };
        places = subst (λ pl. SetsUp n false pl lost.between.places) x.places lost.without.places;
        calls = subst (λ y. (tr : Traffic) → Carries y tr → (lost.numbers ≡ numbers_of (broken_by_node n) tr)
            × Carries lost.between.mail (without_node n tr)) x.calls lost.without.calls;
      }

      shown : EntryShows n (clock_of b) names e
      shown = let on = touched-shows (event_touches ev (clock_of a) (clock_of b)) (not (clock_of a == clock_of b)) n (clock_of b) e
          (stop-touches n ev (clock_of a) (clock_of b) is_disk_turn falls) shows in
          record { node = on.0; clock = on.1; broken = broken }

      -- by its event
      goes-by : (v : Event) → ev ≡ v → IsDiskTurn v → StopsSo layout old.types old.calls w n a b v → ShowsClock v (clock_of b)
          → ((site : Site) → NodeStands layout old.types a old.calls site → TurnTouches site v a.seen.disk b.seen.disk)
          → Goes layout more w None e (hand old) (hand new)
      goes-by (event.Store u clock how p) same_event turn kernel clock_is touches =
          store-stop-entry layout more (hand old) lost.between (hand new) w n e u how p a b lost.numbers names stood.world reached.sites
          number
          fell (subst (λ c. StopsSo layout old.types old.calls w n a b (event.Store u c how p)) clock_is kernel)
          (λ site sound stands. as-due (touches_store site) how a.seen.disk.counts b.seen.disk.counts (touches site stands))
          lost.tells (is ∙ same_event ∙ ap (λ c. event.Store u c how p) clock_is) shown
      goes-by (event.Activate u how p) same_event turn kernel clock_is touches =
          start-stop-entry layout more (hand old) lost.between (hand new) w n e u how p a b lost.numbers names stood.world reached.sites
          number
          fell kernel lost.tells (is ∙ same_event) shown
      goes-by _ same_event turn kernel clock_is touches = absurd turn

      begins : IsTelling layout more (key_of ev) n (clock_of b) (stopped_at w n ev) lost.between lost.numbers
      begins = stop-begins layout more (hand old) lost.between w n ev a b lost.numbers stood.world reached.sites number is_disk_turn fell
          stops

      agendas_mid : HaveAgendas mid
      agendas_mid = agendas-behind n (place.Up s) (place.Down disk noted) old.calls old mid x stood.agendas (λ r bad. absurd (cc bad))

      pub stop-takes : Takes layout seen look old new more w key e
      stop-takes = record {
        takes = ap key_of is ∙ here.key;
        goes = goes-by ev refl is_disk_turn stops says.clock (λ site stands. says.touches stood.telling stood.reads site some stands);
        agendas = lost.agendas more (key_of ev) n (clock_of b) (stopped_at w n ev) begins agendas_mid;
      }
