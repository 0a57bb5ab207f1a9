-- A failure or a stop is asked of the disk at a place of a program: what that shows, and the step of the world.
use Rattle.std.proofs.Common.{is_some}
use Rattle.std.proofs.Common.{◌≡◌, ◌==◌, inl, ℕ, suc, Bool, true, false, Option, None, Some, refl, sym, ◌∙◌, ap, subst, arith, unwrap_or}
use Rattle.std.specs.Prelude.{IsTrue}
use Rattle.std.specs.Option.{option_map}
use Rattle.std.proofs.lemmas.Bool.{eqb-true}
use Rattle.eden_disk.specs.Calls.{Counts, armed}
use Rattle.eden_disk.specs.declared.disk.Arm.{Arm}
use Rattle.eden_disk.specs.declared.disk.Arm.TheVariants as arm
use Rattle.passive_store.specs.Kept.{Layout}
use Rattle.passive_store.specs.Seen.{Seen, DiskSeen}
use Rattle.passive_store.specs.declared.store.Doubt.{Doubt}
use Rattle.journal.specs.Commands.{AllowsCommand}
use Rattle.journal.specs.World.{World, site_of, Node, node_at}
use Rattle.journal.specs.declared.event.Entry.{Entry}
use Rattle.journal.specs.declared.event.Event.TheVariants as event
use Rattle.disk_faults.specs.Elsewhere.{shown_of}
use Rattle.disk_faults.specs.Runs.{EntryShows}
use Rattle.disk_faults.specs.Shows.{ShowsCounts}
use Rattle.disk_faults.proofs.Entries.{entry-here}
use Rattle.ejects.specs.View.{parts_of}
use Rattle.agenda.specs.Keys.{IsAgenda}
use Rattle.agenda.specs.Indexed.{indices_of}
use Rattle.eden_kernel.specs.Stands.{held}
use Rattle.eden_kernel.proofs.Showing.{shows-armed}
use Rattle.scheduled_node.specs.declared.ScheduledNode.{ScheduledNode}
use Rattle.shell_names.specs.Names.{meanings}
use Rattle.runs.specs.Reached.{IsFitIn}
use Rattle.eden_world.specs.Arming.{ArmsDisk, ArmsNode, ArmsSeat}
use Rattle.eden_world.specs.Carried.{CarriesBy, GoesOn, arms_by}
use Rattle.eden_world.specs.InHand.{in_hand, place_at, seen_at, IsWholeAt, HaveAgendas}
use Rattle.eden_world.specs.Seated.{EachShows, FitsTogether, KeepsRest, TakesPlace, clock_in, heeds, instead}
use Rattle.eden_world.specs.Steps.{TakesSeat, disk_of}
use Rattle.eden_world.specs.Worlds.{Seat, up, down, IsNumber}
use Rattle.eden_world.specs.declared.World.{World as Program}
use Rattle.eden_world.specs.declared.seats.Seat.{Seat as Place}
use Rattle.eden_world.specs.declared.seats.Seat.TheVariants as place
use Rattle.eden_world.proofs.Armed.{ShowsArmed, armed-up-goes, armed-down-goes}
use Rattle.eden_world.proofs.CarriedOut.{clock-of-seat}
use Rattle.eden_world.proofs.Crashing.{shown-there}
use Rattle.eden_world.proofs.Falls.{apart}
use Rattle.eden_world.proofs.InWorld.{IsThere, is-there}
use Rattle.eden_world.proofs.Seating.{places-behind}
use Rattle.eden_world.proofs.TurnEntries.{IsUp, is-up}
use Rattle.eden_world.proofs.Untouched.{ShowsOf, elsewhere-shows}
use Rattle.eden_world.proofs.Vacating.{back, others-stay, rest-stays}

-- what is heeded is obeyed
pub heeds-obeys : (tells obeys : Bool) → IsTrue (heeds tells obeys) → IsTrue obeys
heeds-obeys true obeys does = does
heeds-obeys false obeys does = absurd (cc does)

-- 1. At the place

-- what stands there now, by what stood there
pub record ArmsThere {T D : Type 0} (tells obeys : Bool) (layout : Layout) (seen : T → Seen) (look : D → DiskSeen) (what : Arm)
    (a : Place T D) (p : Option (Place T D)) : Type 0 where
  pub seat : Place T D
  pub there : p ≡ Some seat
  pub arms : ArmsSeat tells obeys layout seen look what a seat

abbrev pub ArmsAt : {T D : Type 0} → Bool → Bool → Layout → (T → Seen) → (D → DiskSeen) → Arm → Option (Place T D) → Option (Place T D)
    → Type 0
ArmsAt tells obeys layout seen look what None p = p ≡ None
ArmsAt tells obeys layout seen look what (Some a) p = ArmsThere tells obeys layout seen look what a p

pub record ArmsPlace {T D : Type 0} (tells obeys : Bool) (layout : Layout) (seen : T → Seen) (look : D → DiskSeen) (what : Arm) (n : ℕ)
    (old new : Program T D) : Type 0 where
  pub here : ArmsAt tells obeys layout seen look what (place_at old n) (place_at new n)
  pub others : (m : ℕ) → (m == n) ≡ false → place_at new m ≡ place_at old m
  pub rest : KeepsRest old new

-- it is taken from there, and set there again
pub arms-place : {T D : Type 0} (tells obeys : Bool) (layout : Layout) (seen : T → Seen) (look : D → DiskSeen) (what : Arm) (n : ℕ)
    (old mid new : Program T D) (taken seat : Place T D) → TakesPlace n place.Moving old mid → TakesPlace n seat mid new
    → taken ≡ unwrap_or (place_at old n) place.Moving → ArmsSeat tells obeys layout seen look what taken seat
    → ArmsPlace tells obeys layout seen look what n old new
arms-place tells obeys layout seen look what n old mid new taken seat out again is arms = record {
  here = go (place_at old n) refl;
  others = others-stay old mid new n place.Moving seat out again;
  rest = rest-stays old mid new out.rest again.rest;
}
  where
    there : place_at new n ≡ instead seat (place_at old n)
    there = back old mid new n seat out again

    go : (o : Option (Place _ _)) → place_at old n ≡ o → ArmsAt tells obeys layout seen look what o (place_at new n)
    go None was = there ∙ ap (instead seat) was
    go (Some a) was = record {
      seat = seat;
      there = there ∙ ap (instead seat) was;
      arms = subst (λ z. ArmsSeat tells obeys layout seen look what z seat) (is ∙ ap (λ x. unwrap_or x place.Moving) was) arms;
    }

-- 2. The whole

-- the node that stands there now
same-node : {T D : Type 0} (p : Option (Place T D)) (b : Place T D) (r t : ScheduledNode T D) → p ≡ Some b → b ≡ place.Up r
    → p ≡ Some (place.Up t) → r ≡ t
same-node p b r t there is at = let e : Some (place.Up r) ≡ Some (place.Up t) = ap Some (sym is) ∙ sym there ∙ at in cc e

module _ {T D : Type 0} (tells obeys : Bool) (layout : Layout) (seen : T → Seen) (look : D → DiskSeen) (what : Arm) (n : ℕ)
    (old new : Program T D) (x : ArmsPlace tells obeys layout seen look what n old new) where
  abbrev At : Option (Place T D) → Type 0
  At o = ArmsAt tells obeys layout seen look what o (place_at new n)

  whole-here : FitsTogether seen old → (o : Option (Place T D)) → place_at old n ≡ o → At o → (t : ScheduledNode T D)
      → place_at new n ≡ Some (place.Up t) → IsWholeAt seen n t
  whole-here fits None was y t at = absurd (let bad : None ≡ Some (place.Up t) = sym y ∙ at in cc bad)
  whole-here fits (Some (place.Up s)) was y t at = subst (IsWholeAt seen n)
      (same-node (place_at new n) y.seat y.arms.0 t y.there y.arms.1 at)
      (record { whole = y.arms.2.whole; number = y.arms.2.number ∙ (fits.nodes n s was).number })
  whole-here fits (Some (place.Down d doubt)) was y t at = absurd (
      let bad : Some (place.Down y.arms.0 doubt) ≡ Some (place.Up t) = ap Some (sym y.arms.1) ∙ sym y.there ∙ at in cc bad)
  whole-here fits (Some place.Moving) was y t at = absurd (fits.seated n was)

  seated-here : FitsTogether seen old → (o : Option (Place T D)) → place_at old n ≡ o → At o → place_at new n ≡ Some place.Moving → ⊥
  seated-here fits None was y at = let bad : None ≡ Some place.Moving = sym y ∙ at in cc bad
  seated-here fits (Some (place.Up s)) was y at =
      let bad : Some (place.Up y.arms.0) ≡ Some place.Moving = ap Some (sym y.arms.1) ∙ sym y.there ∙ at in cc bad
  seated-here fits (Some (place.Down d doubt)) was y at =
      let bad : Some (place.Down y.arms.0 doubt) ≡ Some place.Moving = ap Some (sym y.arms.1) ∙ sym y.there ∙ at in cc bad
  seated-here fits (Some place.Moving) was y at = fits.seated n was

  pub arms-whole : FitsTogether seen old → FitsTogether seen new
  arms-whole fits = record {
    nodes = nodes;
    places = places-behind old new x.rest fits.places;
    seated = seated;
  }
    where
      nodes : (m : ℕ) (t : ScheduledNode T D) → place_at new m ≡ Some (place.Up t) → IsWholeAt seen m t
      nodes m t at = go (m == n) refl
        where
          go : (b : Bool) → (m == n) ≡ b → IsWholeAt seen m t
          go true is = subst (λ j. IsWholeAt seen j t) (sym (eqb-true m n is))
              (whole-here fits (place_at old n) refl x.here t (ap (place_at new) (sym (eqb-true m n is)) ∙ at))
          go false other = fits.nodes m t (sym (x.others m other) ∙ at)

      seated : (m : ℕ) → place_at new m ≡ Some place.Moving → ⊥
      seated m at = go (m == n) refl
        where
          go : (b : Bool) → (m == n) ≡ b → ⊥
          go true is = seated-here fits (place_at old n) refl x.here (ap (place_at new) (sym (eqb-true m n is)) ∙ at)
          go false other = fits.seated m (sym (x.others m other) ∙ at)

  -- 3. What the entry shows

  pub arms-shows : (heeding : Bool) → (IsTrue heeding → IsTrue obeys) → (e : Entry)
      → ShowsArmed e n (clock_in (seen_at seen look (place_at new n))) what → EachShows heeding seen look old e new
  arms-shows heeding obeying e shows m number = go (m == n) refl
    where
      here-shows : IsNumber n → (a : Seat) (d : DiskSeen) → option_map disk_of (seen_at seen look (place_at new n)) ≡ Some d
          → d.counts ≡ (disk_of a).counts
          → (IsTrue obeys → d.due ≡ armed what (disk_of a).counts.clock (disk_of a).due) → EntryShows heeding n e (disk_of a) d
      here-shows its_number a d there counts due =
          let clock : e.clock ≡ d.counts.clock = shows.shown ∙ clock-of-seat (seen_at seen look (place_at new n)) d there in
          entry-here heeding n e (disk_of a) d its_number.first
          (subst (λ v. ShowsCounts heeding n v (disk_of a) d) (sym shows.event)
          (shows-armed heeding n what (disk_of a) d counts (λ does. due (obeying does)))) (inl (shows.node, clock))
          (λ arming. clock ∙ ap (λ (k : Counts). k.clock) counts)

      by-place : IsNumber n → (o : Option (Place T D)) → place_at old n ≡ o → At o
          → ShowsOf heeding n e (seen_at seen look o) (seen_at seen look (place_at new n))
      by-place its_number None was y = ap (seen_at seen look) y
      by-place its_number (Some (place.Up s)) was y =
          let a : Seat = up (held seen s.node) in
          let d : DiskSeen = (seen y.arms.0.node.store).disk in
          let there : option_map disk_of (seen_at seen look (place_at new n)) ≡ Some d =
          ap (λ o. option_map disk_of (seen_at seen look o)) (y.there ∙ ap Some y.arms.1) in
          shown-there heeding n e (Some a) (seen_at seen look (place_at new n)) a d refl there
          (here-shows its_number a d there y.arms.2.counts y.arms.2.due)
      by-place its_number (Some (place.Down d doubt)) was y =
          let a : Seat = down doubt (look d) in
          let there : option_map disk_of (seen_at seen look (place_at new n)) ≡ Some (look y.arms.0) =
          ap (λ o. option_map disk_of (seen_at seen look o)) (y.there ∙ ap Some y.arms.1) in
          shown-there heeding n e (Some a) (seen_at seen look (place_at new n)) a (look y.arms.0) refl there
          (here-shows its_number a (look y.arms.0) there y.arms.2.counts y.arms.2.due)
      by-place its_number (Some place.Moving) was y = ap (seen_at seen look) (y.there ∙ ap Some y.arms)

      go : (b : Bool) → (m == n) ≡ b → ShowsOf heeding m e (seen_at seen look (place_at old m)) (seen_at seen look (place_at new m))
      go true is = subst (λ j. ShowsOf heeding j e (seen_at seen look (place_at old j)) (seen_at seen look (place_at new j)))
          (sym (eqb-true m n is)) (by-place (subst IsNumber (eqb-true m n is) number) (place_at old n) refl x.here)
      go false other = elsewhere-shows heeding m e (seen_at seen look (place_at old m)) (seen_at seen look (place_at new m))
          (ap (λ o. option_map disk_of (seen_at seen look o)) (x.others m other))
          (ap (λ v. shown_of v == m) shows.event ∙ apart m n other) (ap (λ k. k == m) shows.node ∙ apart m n other)

  -- 4. The step of the world

  takes-up : (t : ScheduledNode T D) → place_at new n ≡ Some (place.Up t)
      → TakesSeat n (up (held seen t.node)) old.calls (in_hand seen look old) (in_hand seen look new)
  takes-up t there = record {
    types = x.rest.types;
    here = ap (seen_at seen look) there;
    others = λ m other. ap (seen_at seen look) (x.others m other);
    mail = x.rest.calls;
    places = x.rest.places;
    names = λ name. ap (λ ns. meanings ns name) x.rest.names;
  }

  takes-down : (d : D) (doubt : Option Doubt) → place_at new n ≡ Some (place.Down d doubt)
      → TakesSeat n (down doubt (look d)) old.calls (in_hand seen look old) (in_hand seen look new)
  takes-down d doubt there = record {
    types = x.rest.types;
    here = ap (seen_at seen look) there;
    others = λ m other. ap (seen_at seen look) (x.others m other);
    mail = x.rest.calls;
    places = x.rest.places;
    names = λ name. ap (λ ns. meanings ns name) x.rest.names;
  }

  agendas-there : HaveAgendas old
      → ((t : ScheduledNode T D) → place_at new n ≡ Some (place.Up t) → IsAgenda (indices_of t.agenda) (parts_of old.types t.node.ejects))
      → HaveAgendas new
  agendas-there have here m t at = subst (λ ts. IsAgenda (indices_of t.agenda) (parts_of ts t.node.ejects)) (sym x.rest.types)
      (go (m == n) refl)
    where
      go : (b : Bool) → (m == n) ≡ b → IsAgenda (indices_of t.agenda) (parts_of old.types t.node.ejects)
      go true is = here t (ap (place_at new) (sym (eqb-true m n is)) ∙ at)
      go false other = have m t (sym (x.others m other) ∙ at)

allows-armed : (w : World) (n : ℕ) (what : Arm) → AllowsCommand w (arms_by what n) (event.Armed n what)
allows-armed w n (arm.Fail after) = (refl, refl)
allows-armed w n (arm.Stop after mode) = (refl, refl)

armed-number : (w : World) (n : ℕ) (what : Arm) → IsFitIn w (arms_by what n) → IsNumber n
armed-number w n (arm.Fail after) fit = record { first = fit.fit.numbers.0.0; last = omega (arith, fit.fit.numbers.0.1, fit.few) }
armed-number w n (arm.Stop after mode) fit = record { first = fit.fit.numbers.0.0; last = omega (arith, fit.fit.numbers.0.1, fit.few) }

-- the world has the node
armed-there : (w : World) (n : ℕ) (what : Arm) → IsFitIn w (arms_by what n) → is_some (node_at w n) ≡ true
armed-there w n (arm.Fail after) fit = fit.offers.there n fit.fit.numbers.0.0 fit.fit.numbers.0.1
armed-there w n (arm.Stop after mode) fit = fit.offers.there n fit.fit.numbers.0.0 fit.fit.numbers.0.1

pub arms-carried : {T D : Type 0} (tells obeys : Bool) (layout : Layout) (seen : T → Seen) (look : D → DiskSeen) (what : Arm) (n : ℕ)
    (old new : Program T D) (e : Entry) → ArmsPlace tells obeys layout seen look what n old new
    → ShowsArmed e n (clock_in (seen_at seen look (place_at new n))) what → CarriesBy tells layout seen look old new (arms_by what n) e
arms-carried {T} {D} tells obeys layout seen look what n old new e x shows more w reached h fit = go (place_at old n) refl x.here
  where
    number : IsNumber n
    number = armed-number w n what fit

    nothing : seen_at seen look (place_at old n) ≡ None → GoesOn layout seen look old new more w (Some (arms_by what n)) e
    nothing none = on (node_at w n) refl (armed-there w n what fit)
      where
        on : (o : Option Node) → node_at w n ≡ o → is_some (node_at w n) ≡ true
            → GoesOn layout seen look old new more w (Some (arms_by what n)) e
        on None at some = absurd (let bad : false ≡ true = sym (ap is_some at) ∙ some in cc bad)
        on (Some it) at some =
            let there : IsThere layout (suc more) (in_hand seen look old) w n = is-there layout (suc more) (in_hand seen look old) w n it
            h.world at in
            absurd (let bad : None ≡ Some there.seat = sym none ∙ there.sits in cc bad)

    shows-at : (k : ℕ) → clock_in (seen_at seen look (place_at new n)) ≡ k → ShowsArmed e n k what
    shows-at k is = record { event = shows.event; node = shows.node; shown = shows.shown ∙ is; broken = shows.broken }

    at-up : (s t : ScheduledNode T D) → place_at old n ≡ Some (place.Up s) → place_at new n ≡ Some (place.Up t)
        → ArmsNode tells obeys layout seen what s t → GoesOn layout seen look old new more w (Some (arms_by what n)) e
    at-up s t was is a = record {
      goes = armed-up-goes layout more (in_hand seen look old) (in_hand seen look new) w (arms_by what n) e n what (held seen s.node)
          (held seen t.node) h.world number sits (takes-up tells obeys layout seen look what n old new x t is) a.whole a.more a.counts
          (λ site stood. (a.stands h.telling old.types old.calls site (record { node = stood; agenda = h.agendas n s was })).node)
          (λ site stood. a.disk h.telling old.types old.calls site stood) (allows-armed w n what)
          (shows-at (held seen t.node).seen.disk.counts.clock (ap (λ o. clock_in (seen_at seen look o)) is));
      agendas = agendas-there tells obeys layout seen look what n old new x h.agendas (λ r at.
          subst (λ (z : ScheduledNode T D). IsAgenda (indices_of z.agenda) (parts_of old.types z.node.ejects))
          (same-node (place_at new n) (place.Up t) t r is refl at)
          (a.stands h.telling old.types old.calls (site_of w n stood.it)
          (record { node = stood.stands.stands; agenda = h.agendas n s was })).agenda);
    }
      where
        sits : seen_at seen look (place_at old n) ≡ Some (up (held seen s.node))
        sits = ap (seen_at seen look) was

        stood : IsUp layout (suc more) (in_hand seen look old) w n (held seen s.node)
        stood = is-up layout (suc more) (in_hand seen look old) w n (held seen s.node) h.world sits

    at-down : (d y : D) (doubt : Option Doubt) → place_at old n ≡ Some (place.Down d doubt) → place_at new n ≡ Some (place.Down y doubt)
        → ArmsDisk obeys what (look d) (look y) → GoesOn layout seen look old new more w (Some (arms_by what n)) e
    at-down d y doubt was is a = record {
      goes = armed-down-goes layout more (in_hand seen look old) (in_hand seen look new) w (arms_by what n) e n what doubt (look d) (look y)
          h.world number (ap (seen_at seen look) was) (takes-down tells obeys layout seen look what n old new x y doubt is) a.counts a.told
          (allows-armed w n what) (shows-at (look y).counts.clock (ap (λ o. clock_in (seen_at seen look o)) is));
      agendas = agendas-there tells obeys layout seen look what n old new x h.agendas (λ r at.
          absurd (let bad : Some (place.Down y doubt) ≡ Some (place.Up r) = sym is ∙ at in cc bad));
    }

    go : (o : Option (Place T D)) → place_at old n ≡ o → ArmsAt tells obeys layout seen look what o (place_at new n)
        → GoesOn layout seen look old new more w (Some (arms_by what n)) e
    go None was y = nothing (ap (seen_at seen look) was)
    go (Some (place.Up s)) was y = at-up s y.arms.0 was (y.there ∙ ap Some y.arms.1) y.arms.2
    go (Some (place.Down d doubt)) was y = at-down d y.arms.0 doubt was (y.there ∙ ap Some y.arms.1) y.arms.2
    go (Some place.Moving) was y = nothing (ap (seen_at seen look) was)
