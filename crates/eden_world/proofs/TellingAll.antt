-- The loop that tells all, as a program carries it out.
use Rattle.std.proofs.Common.{◌≡◌, ◌≤◌, ◌<◌, ◌+◌, ℕ, List, [], ◌∷◌, drop, get_or, length, Option, None, Some}
use Rattle.std.proofs.Common.{refl, sym, ◌∙◌, ap, subst}
use Rattle.std.proofs.lemmas.List.{at_drop_more, at_drop_all}
use Rattle.std.specs.Prelude.{IsSomeAnd}
use Rattle.std.specs.List.{filter_map, cons_option, AllByRecursion}
use Rattle.capability.specs.declared.Uid.{Uid}
use Rattle.eden_model.specs.Map.{with_item}
use Rattle.eden_model.specs.declared.Asker.{Asker}
use Rattle.eden_model.specs.declared.Asker.TheVariants.{Shell, Eject as Process}
use Rattle.invocation.specs.declared.call.Call.{Call}
use Rattle.invocation.specs.Numbers.{item_in}
use Rattle.passive_store.specs.Kept.{Layout}
use Rattle.passive_store.specs.Seen.{Seen, DiskSeen}
use Rattle.journal.specs.declared.event.Key.{Key}
use Rattle.journal.specs.World.{World, Node, Site, node_at, site_of}
use Rattle.ejects.specs.Marks.{IsLooseIn}
use Rattle.ejects.specs.Parts.{body_at}
use Rattle.ejects.specs.View.{parts_of}
use Rattle.eden_kernel.specs.Stands.{Held, held, NodeStands}
use Rattle.scheduled_node.specs.declared.ScheduledNode.{ScheduledNode}
use Rattle.eden_world.specs.Breaking.{waiter_at, waiter_by, TellsAt, TellsAgendas, TellsPart, TellsBy}
use Rattle.eden_world.specs.InHand.{place_at, seen_at, in_hand, IsWholeAt}
use Rattle.eden_world.specs.Seated.{FitsTogether, station_in, station_at}
use Rattle.eden_world.specs.Told.{IsTelling, Tells, CanBeTold, marked, waiting_at}
use Rattle.eden_world.specs.Worlds.{Seat, up, down, InHand, IsNumber, SeatStands, UpStands}
use Rattle.eden_world.specs.declared.World.{World as Program}
use Rattle.eden_world.specs.declared.seats.Seat.{Seat as Place}
use Rattle.eden_world.specs.declared.seats.Seat.TheVariants as place
use Rattle.eden_world.specs.declared.breaks.Waiter.TheVariants as waits
use Rattle.eden_world.proofs.Reseating.{node-marked_other, node-marked_none}
use Rattle.eden_world.proofs.Telling.{body-loose, tells-start, tells-shell, tells-up, tells-none, tells-nobody, asked-by_process, IsNotUp}

-- 1. The site at which a process is told

record IsTold (layout : Layout) (h : InHand) (u : Uid) (p : ℕ) (a : Held) : Type 0 where
  site : Site
  body : IsLooseIn (body_at (parts_of h.types a.ejects) u) p
  stands : NodeStands layout h.types a h.mail site

told-there : (layout : Layout) (more : ℕ) (key : Option Key) (n clock : ℕ) (last : World) (h : InHand) (k : ℕ) (left : List ℕ) (u : Uid)
    (p : ℕ) (a : Held) → IsTelling layout more key n clock last h (k ∷ left) → waiting_at h.mail k ≡ Some (u, p)
    → h.seats u.node ≡ Some (up a) → IsTold layout h u p a
told-there layout more key n clock last h k left u p a t some seat = go (node_at t.world u.node) refl
  where
    can : CanBeTold n t.world (u, p)
    can = (subst (λ o. AllByRecursion (CanBeTold n t.world) (cons_option o (filter_map (waiting_at h.mail) left))) some t.can).0

    before : World
    before = marked key n clock t.world

    at-node : (it : Node) → node_at t.world u.node ≡ Some it → IsTold layout h u p a
    at-node it at =
        let x = can it at in
        let here : UpStands layout h.types h.mail more (site_of before u.node it) a =
        subst (λ o. IsSomeAnd o (SeatStands layout h.types h.mail more (site_of before u.node it))) seat
        (t.stands.nodes u.node it (node-marked_other key n clock t.world u.node x.0 ∙ at)) in
        record {
          site = site_of before u.node it;
          body = body-loose (parts_of h.types a.ejects) (site_of before u.node it) u p here.stands.calls.parts x.1;
          stands = here.stands;
        }

    go : (o : Option Node) → node_at t.world u.node ≡ o → IsTold layout h u p a
    go None none = absurd (let bad : None ≡ Some (up a) =
        sym (t.stands.no_more u.node (node-marked_none key n clock t.world u.node none)) ∙ seat in cc bad)
    go (Some it) at = at-node it at

-- 2. One number more

pub node-up : {T D : Type 0} (o : Option (Place T D)) (s : ScheduledNode T D) → station_in o ≡ Some s → o ≡ Some (place.Up s)
node-up None s is = absurd (cc is)
node-up (Some (place.Up t)) s is = ap (λ (x : ScheduledNode _ _). Some (place.Up x)) (let e : t ≡ s = cc is in e)
node-up (Some (place.Down d doubt)) s is = absurd (cc is)
node-up (Some place.Moving) s is = absurd (cc is)

pub number-of : {T D : Type 0} (seen : T → Seen) (n : ℕ) (s : ScheduledNode T D) → IsWholeAt seen n s → IsNumber n
number-of seen n s x = subst IsNumber (sym x.whole.number ∙ x.number) (record { first = x.whole.first; last = x.whole.last })

module _ {T D : Type 0} (layout : Layout) (seen : T → Seen) (look : D → DiskSeen) (numbers left : List ℕ) (k : ℕ)
    (names later : List (List ℕ)) (old mid new : Program T D) (fits : FitsTogether seen mid)
    (part : TellsPart layout seen look numbers (k ∷ left) names old mid) where
  abbrev hand : Program T D → InHand
  hand p = in_hand seen look p

  same-agendas : new ≡ mid → TellsAgendas layout (hand old) numbers old new
  same-agendas same = subst (λ (p : Program T D). TellsAgendas layout (hand old) numbers old p) (sym same) part.agendas

  at-seat : (c : Call) (u : Uid) (p : ℕ) → item_in k mid.calls.calls ≡ Some c → c.asker ≡ Process u p → (o : Option Seat)
      → (hand mid).seats u.node ≡ o → TellsAt layout u p (hand mid) (hand new) o → Tells layout (hand old) (hand new) numbers left names
  at-seat c u p is asker None seat same = subst (λ h. Tells layout (hand old) h numbers left names) (sym same)
      (tells-none layout (hand old) (hand mid) numbers k left names c u p part.tells is asker (subst IsNotUp (sym seat) tt))
  at-seat c u p is asker (Some (down noted d)) seat same = subst (λ h. Tells layout (hand old) h numbers left names) (sym same)
      (tells-none layout (hand old) (hand mid) numbers k left names c u p part.tells is asker (subst IsNotUp (sym seat) tt))
  at-seat c u p is asker (Some (up a)) seat told =
      tells-up layout (hand old) (hand mid) (hand new) numbers k left names c u p a told.0 part.tells is asker seat told.1 told.2

  site-told : (c : Call) (u : Uid) (p : ℕ) → item_in k mid.calls.calls ≡ Some c → c.asker ≡ Process u p → (more : ℕ) (key : Option Key)
      (n clock : ℕ) (last : World) → IsTelling layout more key n clock last (hand old) numbers → (s : ScheduledNode T D)
      → station_at mid u.node ≡ Some s → (site : Site) × IsLooseIn (body_at (parts_of mid.types s.node.ejects) u) p
      × NodeStands layout mid.types (held seen s.node) mid.calls site
  site-told c u p is asker more key n clock last telling s at =
      let here : place_at mid u.node ≡ Some (place.Up s) = node-up (place_at mid u.node) s at in
      let y : IsTold layout (hand mid) u p (held seen s.node) = told-there layout more key n clock last (hand mid) k left u p
      (held seen s.node)
      (part.tells.on more key n clock last telling) (asked-by_process mid.calls k c u p is asker).1
      (ap (seen_at seen look) here) in
      (y.site, y.body, y.stands)

  by-asker : (c : Call) → item_in k mid.calls.calls ≡ Some c → (a : Asker) → c.asker ≡ a
      → TellsBy layout seen look (waiter_by a) names later mid new → TellsPart layout seen look numbers left later old new
  by-asker c is (Shell name) asker by = record {
    tells = subst (λ (p : Program T D). Tells layout (hand old) (hand p) numbers left later) (sym by.1)
        (subst (λ l. Tells layout (hand old) (hand mid) numbers left l) (sym by.0)
        (tells-shell layout (hand old) (hand mid) numbers k left names c name part.tells is asker));
    agendas = same-agendas by.1;
  }
  by-asker c is (Process u p) asker by = record {
    tells = subst (λ l. Tells layout (hand old) (hand new) numbers left l) (sym by.0)
        (at-seat c u p is asker (seen_at seen look (place_at mid u.node)) refl by.1);
    agendas = λ more key n clock last telling have. by.2 (site-told c u p is asker more key n clock last telling)
        (part.agendas more key n clock last telling have);
  }

  by-call : (o : Option Call) → item_in k mid.calls.calls ≡ o
      → TellsBy layout seen look (with_item o (λ c. waiter_by c.asker) waits.Nobody) names later mid new
      → TellsPart layout seen look numbers left later old new
  by-call None is by = record {
    tells = subst (λ (p : Program T D). Tells layout (hand old) (hand p) numbers left later) (sym by.1)
        (subst (λ l. Tells layout (hand old) (hand mid) numbers left l) (sym by.0)
        (tells-nobody layout (hand old) (hand mid) numbers k left names part.tells is));
    agendas = same-agendas by.1;
  }
  by-call (Some c) is by = by-asker c is c.asker refl by

  pub telling-more : TellsBy layout seen look (waiter_at mid.calls k) names later mid new
      → TellsPart layout seen look numbers left later old new
  telling-more by = by-call (item_in k mid.calls.calls) refl by

-- 3. The loop

pub telling-first : {T D : Type 0} (layout : Layout) (seen : T → Seen) (look : D → DiskSeen) (numbers : List ℕ) (old : Program T D)
    → TellsPart layout seen look numbers numbers [] old old
telling-first layout seen look numbers old = record {
  tells = tells-start layout (in_hand seen look old) numbers;
  agendas = λ more key n clock last telling have. have;
}

pub telling-over : {T D : Type 0} (layout : Layout) (seen : T → Seen) (look : D → DiskSeen) (numbers : List ℕ) (i : ℕ)
    (names : List (List ℕ)) (old new : Program T D) → length numbers ≤ i
    → TellsPart layout seen look numbers (drop i numbers) names old new → TellsPart layout seen look numbers [] names old new
telling-over layout seen look numbers i names old new past = subst (λ ks. TellsPart layout seen look numbers ks names old new)
    (at_drop_all (λ ys. ys) numbers i past)

-- the number at this place of the items, which are the numbers
pub telling-at : {T D : Type 0} (layout : Layout) (seen : T → Seen) (look : D → DiskSeen) (numbers items : List ℕ) (i : ℕ)
    (names later : List (List ℕ)) (old mid new : Program T D) → items ≡ numbers → FitsTogether seen mid → i < length items
    → TellsPart layout seen look numbers (drop i numbers) names old mid
    → TellsBy layout seen look (waiter_at mid.calls (get_or items i 0)) names later mid new
    → TellsPart layout seen look numbers (drop (i + 1) numbers) later old new
telling-at layout seen look numbers items i names later old mid new same fits within part by =
    telling-more layout seen look numbers (drop (i + 1) numbers) (get_or numbers i 0) names later old mid new fits
    (subst (λ ks. TellsPart layout seen look numbers ks names old mid)
    (at_drop_more (λ ys. ys) numbers i 0 (subst (λ xs. i < length xs) same within)) part)
    (subst (λ xs. TellsBy layout seen look (waiter_at mid.calls (get_or xs i 0)) names later mid new) same by)
