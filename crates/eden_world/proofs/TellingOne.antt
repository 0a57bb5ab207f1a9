-- A process is told at its place: what the program has in hand then.
use Rattle.std.proofs.Common.{◌≡◌, ℕ, Result, Ok, Err, refl, sym, ap, subst}
use Rattle.std.specs.Prelude.{OnOk}
use Rattle.capability.specs.declared.Uid.{Uid}
use Rattle.epl_syntax.specs.Rules.OfTypes.{TypeList}
use Rattle.invocation.specs.Mail.{Mail}
use Rattle.passive_store.specs.Kept.{Layout}
use Rattle.passive_store.specs.Seen.{Seen, DiskSeen}
use Rattle.journal.specs.World.{Site}
use Rattle.agenda.specs.Indexed.{indices_of}
use Rattle.agenda.specs.Keys.{IsAgenda}
use Rattle.ejects.specs.Marks.{IsLooseIn}
use Rattle.ejects.specs.Parts.{body_at}
use Rattle.ejects.specs.View.{parts_of}
use Rattle.eden_kernel.specs.Stands.{held, IsWhole, NodeStands}
use Rattle.eden_kernel.specs.Turns.{told_broken}
use Rattle.scheduled_node.specs.declared.ScheduledNode.{ScheduledNode}
use Rattle.scheduled_node.specs.Scheduled.{manned, ScheduledStands}
use Rattle.eden_world.specs.Breaking.{TellsAt, KeepsAgendas}
use Rattle.eden_world.specs.InHand.{place_at, seen_at, in_hand, IsWholeAt}
use Rattle.eden_world.specs.Seated.{FitsTogether, station_in}
use Rattle.eden_world.specs.Turning.{Swaps}
use Rattle.eden_world.specs.Worlds.{up}
use Rattle.eden_world.specs.declared.seats.Seat.TheVariants as place
use Rattle.eden_world.specs.declared.World.{World as Program}
use Rattle.eden_world.proofs.Placing.{whole-behind, agendas-behind, number-kept, takes-seat}

pub both-on_ok : {X E A B C : Type 0} (r : Result X E) → (A → B → C) → OnOk r A → OnOk r B → OnOk r C
both-on_ok (Ok x) f a b = f a b
both-on_ok (Err e) f a b = b

module _ {T D : Type 0} (layout : Layout) (seen : T → Seen) (look : D → DiskSeen) (u : Uid) (p : ℕ) (s t : ScheduledNode T D)
    (old new : Program T D) (x : Swaps u.node (place.Up s) (place.Up t) old.calls old new)
    (same : seen t.node.store ≡ seen s.node.store) where
  pub told-whole : FitsTogether seen old → IsWhole (held seen t.node) → FitsTogether seen new
  told-whole fits whole = whole-behind seen u.node (place.Up s) (place.Up t) old.calls old new x fits (λ r is.
      subst (IsWholeAt seen u.node) (let e : t ≡ r = cc is in e) (number-kept seen u.node s t (fits.nodes u.node s x.was) same whole))
      (λ moving. cc moving)

  pub told-at : IsWhole (held seen t.node)
      → ((ts : TypeList) (m : Mail) (site : Site) → IsLooseIn (body_at (parts_of ts s.node.ejects) u) p
      → NodeStands layout ts (held seen s.node) m site → NodeStands layout ts (held seen t.node) m (told_broken u p site))
      → TellsAt layout u p (in_hand seen look old) (in_hand seen look new) (seen_at seen look (place_at old u.node))
  told-at whole stands = subst (λ o. TellsAt layout u p (in_hand seen look old) (in_hand seen look new) (seen_at seen look o)) (sym x.was) (
    held seen t.node,
    record { whole = whole; seen = same; stands = stands },
    takes-seat seen look u.node (place.Up s) (place.Up t) (up (held seen t.node)) old.calls old new x refl,
  )

  pub told-agendas : ((ts : TypeList) (m : Mail) (site : Site) → IsLooseIn (body_at (parts_of ts s.node.ejects) u) p
      → ScheduledStands layout ts (manned seen s) m site → ScheduledStands layout ts (manned seen t) m (told_broken u p site))
      → KeepsAgendas layout seen u p old new
  told-agendas told where_is have = let y = where_is s (ap station_in x.was) in
      agendas-behind u.node (place.Up s) (place.Up t) old.calls old new x have (λ r is.
      subst (λ (z : ScheduledNode T D). IsAgenda (indices_of z.agenda)
      (parts_of old.types z.node.ejects)) (let e : t ≡ r = cc is in e)
      (told old.types old.calls y.0 y.1 (record { node = y.2; agenda = have u.node s x.was })).agenda)
