-- The turn of a key behind which its node goes on, as a program takes it.
use Rattle.std.proofs.Common.{◌≡◌, ◌≤◌, ℕ, suc, Bool, [], Some, refl, sym, ◌∙◌, ap, subst, arith}
use Rattle.std.specs.List.{Contains}
use Rattle.invocation.specs.Mail.{Mail}
use Rattle.passive_store.specs.Kept.{Layout}
use Rattle.passive_store.specs.Seen.{Seen, DiskSeen}
use Rattle.journal.specs.declared.event.Event.{Event}
use Rattle.journal.specs.declared.event.Entry.{Entry}
use Rattle.journal.specs.declared.event.Key.{Key}
use Rattle.journal.specs.Enabled.{enabled}
use Rattle.journal.specs.Sites.{IsSoundSite}
use Rattle.journal.specs.Step.{key_of, site_turn}
use Rattle.journal.specs.World.{World, Node, node_at, site_of, reaches}
use Rattle.ejects.specs.View.{parts_of}
use Rattle.agenda.specs.Indexed.{indices_of}
use Rattle.agenda.specs.Keys.{IsAgenda}
use Rattle.eden_kernel.specs.Stands.{held, NodeStands}
use Rattle.eden_kernel.specs.Turns.{clock_of}
use Rattle.eden_kernel.specs.declared.stores.TurnEnd.TheVariants as turn_end
use Rattle.scheduled_node.specs.declared.ScheduledNode.{ScheduledNode}
use Rattle.scheduled_node.specs.Scheduled.{manned, KeyTurns}
use Rattle.runs.specs.Reached.{IsReached}
use Rattle.eden_world.specs.InHand.{seen_at, in_hand, Stands}
use Rattle.eden_world.specs.Seated.{FitsTogether}
use Rattle.eden_world.specs.Steps.{ShowsIf, turn_touches}
use Rattle.eden_world.specs.Taken.{Takes, TakesAtEach}
use Rattle.eden_world.specs.Turning.{Swaps, TurnSays}
use Rattle.eden_world.specs.Worlds.{up, InHand, IsNumber}
use Rattle.eden_world.specs.declared.seats.Seat.TheVariants as place
use Rattle.eden_world.specs.declared.World.{World as Program}
use Rattle.eden_world.proofs.EnabledKeys.{key-of-enabled}
use Rattle.eden_world.proofs.Falls.{up-timed}
use Rattle.eden_world.proofs.InWorld.{reach-of}
use Rattle.eden_world.proofs.KeyTurning.{key-turn-goes, turn-of-key}
use Rattle.eden_world.proofs.Placing.{agendas-behind, takes-seat}
use Rattle.eden_world.proofs.TellingAll.{number-of}
use Rattle.eden_world.proofs.TurnEntries.{IsUp, is-up}

module _ {T D : Type 0} (tells : Bool) (layout : Layout) (seen : T → Seen) (look : D → DiskSeen) (n : ℕ) (key : Key)
    (s t : ScheduledNode T D)
    (old new : Program T D) (later : Mail) (ev : Event) (e : Entry) (x : Swaps n (place.Up s) (place.Up t) later old new)
    (fits : FitsTogether seen old) (says : TurnSays turn_end.Up tells layout seen s t old.types old.calls old.places later key ev)
    (at : key.station ≡ n)
    (is : e.event ≡ ev) (broken : e.broken ≡ [])
    (shows : ShowsIf (turn_touches ev (clock_of (held seen s.node)) (clock_of (held seen t.node))) n (clock_of (held seen t.node)) e) where
  number : IsNumber n
  number = number-of seen n s (fits.nodes n s x.was)

  abbrev hand : Program T D → InHand
  hand p = in_hand seen look p

  module _ (more : ℕ) (w : World) (reached : IsReached w)
      (stood : Stands tells layout seen look old (suc more) w) (enabled_is : Contains (enabled w) key) where
    was : IsUp layout (suc more) (hand old) w n (held seen s.node)
    was = is-up layout (suc more) (hand old) w n (held seen s.node) stood.world (ap (seen_at seen look) x.was)

    some : 1 ≤ (seen s.node.store).more
    some = omega (arith, was.stands.told)

    taken : (it : Node) → node_at w n ≡ Some it → IsSoundSite (site_of w n it)
        → NodeStands layout old.types (held seen s.node) old.calls (site_of w n it)
        → KeyTurns turn_end.Up layout old.types (manned seen t) later (reaches w n) (manned seen s) (site_of w n it) ev key
    taken it there sound stands = says.turn stood.telling stood.its_layout (reaches w n) (site_of w n it)
        (key-of-enabled w reached n key enabled_is at) (record {
          at = λ b. reach-of layout (suc more) (hand old) w stood.world n b
              number.last;
        })
        sound (record {
          new_uid = record { in_order = sound.node.in_order; is_new = reached.new_uids n it there };
          turns = reached.turns n it there;
        }) some
        (record { node = stands; agenda = stood.agendas n s x.was })

    here : KeyTurns turn_end.Up layout old.types (manned seen t) later (reaches w n) (manned seen s) (site_of w n was.it) ev key
    here = taken was.it was.at (reached.sites n was.it was.at) was.stands.stands

    takes-here : Takes layout seen look old new more w key e
    takes-here = record {
      takes = ap key_of is ∙ here.key;
      goes = key-turn-goes layout more (hand old) (hand new) w n (held seen s.node) (held seen t.node) later e reached.sites stood.world
          number (ap (seen_at seen look) x.was)
          (takes-seat seen look n (place.Up s) (place.Up t) (up (held seen t.node)) later old new x refl) says.whole
          (says.room stood.telling) broken ev is
          (turn-of-key (reaches w n) (site_of w n was.it) key n ev number at here.turn.turn.allowed
          (sym (up-timed (clock_of (held seen t.node)) (site_turn (reaches w n) ev (site_of w n was.it))) ∙ here.turn.turn.stands.disk.up)
          here.key)
          (λ it there sound stands. (taken it there sound stands).turn.turn) (says.touches stood.telling stood.reads) says.clock shows;
      agendas = agendas-behind n (place.Up s) (place.Up t) later old new x stood.agendas (λ r same.
          subst (λ (z : ScheduledNode T D). IsAgenda (indices_of z.agenda) (parts_of old.types z.node.ejects))
          (let y : t ≡ r = cc same in y)
          here.turn.agenda);
    }

  pub takes-up : TakesAtEach tells layout seen look old new key e
  takes-up more w reached stood enabled_is = takes-here more w reached stood enabled_is
