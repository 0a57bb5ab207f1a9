-- A restart: what the boot of a node says of it comes to a step of the world, or to what the end of a run may do.
use Rattle.std.proofs.Common.{◌≡◌, ◌==◌, ◌≤◌, inl, inr, ℕ, zero, suc, Bool, true, cond, List, [], ◌∷◌, Option, None, Some}
use Rattle.std.proofs.Common.{refl, sym, ◌∙◌, ap}
use Rattle.std.proofs.Common.{subst, arith, ◌<◌, length, is_some, Bor}
use Rattle.std.specs.Prelude.{IsTrue, option_copied, unwrap_or, slice_get}
use Rattle.std.specs.Option.{option_map}
use Rattle.eden_disk.specs.Calls.{Fine}
use Rattle.epl_syntax.specs.Meaning.{types_in}
use Rattle.epl_syntax.specs.Rules.OfTypes.{TypeList}
use Rattle.invocation.specs.Mail.{Mail}
use Rattle.invocation.specs.Carries.{Carries}
use Rattle.locator.specs.Reach.{Stations, up_at}
use Rattle.passive_store.specs.declared.store.Doubt.{Doubt}
use Rattle.passive_store.specs.Kept.{Layout}
use Rattle.passive_store.specs.Layout.{IsLayout}
use Rattle.passive_store.specs.Seen.{Seen, DiskSeen}
use Rattle.journal.specs.declared.command.Command.TheVariants as command
use Rattle.journal.specs.declared.event.BootEnd.{BootEnd}
use Rattle.journal.specs.declared.event.BootEnd.TheVariants as end
use Rattle.journal.specs.declared.event.Event.TheVariants as event
use Rattle.journal.specs.declared.event.Entry.{Entry}
use Rattle.journal.specs.World.{World, Site, site_of}
use Rattle.journal.specs.Sites.{HasEpochs}
use Rattle.checkpoint.specs.Calls.{MakesCalls, call_of_fall, powered}
use Rattle.checkpoint.specs.Turns.{RestStands}
use Rattle.checkpoint.specs.declared.up.BootNote.{BootNote}
use Rattle.ejects.specs.View.{parts_of}
use Rattle.agenda.specs.Indexed.{indices_of}
use Rattle.agenda.specs.Keys.{IsAgenda}
use Rattle.eden_kernel.specs.Boots.{IsAsleep, NodeBoots}
use Rattle.disk_faults.specs.Elsewhere.{shown_of}
use Rattle.disk_faults.specs.Shows.{ShowsCounts}
use Rattle.eden_kernel.specs.Shows.{FallShows, boot_event}
use Rattle.eden_kernel.specs.Stands.{held, IsWhole}
use Rattle.eden_world.specs.Steps.{TouchesNone, disk_of}
use Rattle.runs.specs.Reached.{IsFitIn}
use Rattle.shell_names.specs.Names.{meanings}
use Rattle.scheduled_node.specs.declared.ScheduledNode.{ScheduledNode}
use Rattle.eden_world.specs.Worlds.{down, IsNumber}
use Rattle.eden_world.specs.Told.{Reseats, EntryShows}
use Rattle.eden_world.specs.InHand.{in_hand, place_at, seen_at, IsWholeAt}
use Rattle.eden_world.specs.Seated.{TakesPlace, KeepsRest, FitsTogether, HasPlaces, EachShows, KeepsDisks, heeds}
use Rattle.eden_world.specs.Seated.{instead, station_at, station_in, clock_in}
use Rattle.eden_world.specs.Carried.{CarriesBy, Starves}
use Rattle.eden_world.specs.declared.World.{World as Program}
use Rattle.eden_world.specs.declared.seats.Seat.{Seat as Place}
use Rattle.eden_world.specs.declared.seats.Seat.TheVariants as place
use Rattle.eden_world.proofs.BootEntries.{NotBarred, FallsSo, BarsSo, down-at, up-goes, falls-goes, boot-starves}
use Rattle.eden_world.proofs.CarriedOut.{restart-still}
use Rattle.eden_world.proofs.Falls.{ends-level, node-of}
use Rattle.eden_world.proofs.Seating.{agendas-behind, agendas-without, places-behind}
use Rattle.eden_world.proofs.Setting.{places-level, places-seated, set-again, set-back, set-fits}
use Rattle.eden_world.proofs.Shown.{boot-counts, boot-left, entry-on, keeps-level, keeps-one, one-shows}
use Rattle.eden_world.proofs.Vacating.{back, others-stay, rest-stays}

-- what a boot says of the node that came up
abbrev pub UpSo : {T D : Type 0} → Layout → (T → Seen) → (D → DiskSeen) → ℕ → D → Option Doubt → BootNote → ScheduledNode T D → Type 0
UpSo layout seen disk n d doubt note s = (ts : TypeList) (m : Mail) (site : Site) → IsLayout layout → HasEpochs site.node → (more : ℕ)
    → 1 ≤ more → site.types ≡ types_in ts → IsAsleep site → Carries m site.traffic
    → RestStands layout n more site doubt (disk d).counts.size (disk d).counts.clock (disk d).told
    → NodeBoots layout ts n more site (disk d).told (disk d).counts.clock note (held seen s.node) m
    × IsAgenda (indices_of s.agenda) (parts_of ts s.node.ejects)

its-number : (w : World) (n : ℕ) → IsFitIn w (command.Restart n) → IsNumber n
its-number w n fit = record { first = fit.fit.numbers.0; last = omega (arith, fit.fit.numbers.1, fit.few) }

-- what was taken from the place stood there
pub was-down : {T D : Type 0} (o : Option (Place T D)) (taken : Place T D) (d : D) (doubt : Option Doubt)
    → taken ≡ unwrap_or o place.Moving → taken ≡ place.Down d doubt → o ≡ Some (place.Down d doubt)
was-down None taken d doubt old is = absurd (let bad : place.Moving ≡ place.Down d doubt = sym old ∙ is in cc bad)
was-down (Some x) taken d doubt old is = ap (λ y. Some y) (sym old ∙ is)

-- 1. It comes up

pub restart-up : {T D : Type 0} (tells : Bool) (layout : Layout) (seen : T → Seen) (disk : D → DiskSeen) (old mid last : Program T D)
    (places : Stations) (n : ℕ) (d : D) (doubt : Option Doubt) (note : BootNote) (s : ScheduledNode T D) (e : Entry)
    → place_at old n ≡ Some (place.Down d doubt) → TakesPlace n place.Moving old mid → TakesPlace n (place.Up s) mid last
    → ((m : ℕ) → up_at places m ≡ cond (m == n) true (up_at last.places m)) → places.joined ≡ last.places.joined
    → IsWhole (held seen s.node) → s.node.number ≡ n → (IsTrue tells → UpSo layout seen disk n d doubt note s)
    → (IsTrue tells → NotBarred layout n (disk d)) → e.event ≡ event.Boot n note.epoch end.Up note.pick note.began
    → EntryShows n (clock_in (seen_at seen disk (place_at last n))) [] e
    → CarriesBy tells layout seen disk old (record last { places = places }) (command.Restart n) e
restart-up tells layout seen disk old mid last places n d doubt note s e was out again ups joined whole number ups_so bars is shows more w
    reached h fit = record {
      goes = up-goes layout more (in_hand seen disk old) (in_hand seen disk (record last { places = places })) w n e note doubt (disk d)
          (held seen s.node) h.world (its-number w n fit) reached.epochs h.its_layout seat is (record {
            node = shows.node;
            clock = shows.clock ∙ ap (λ o. clock_in (seen_at seen disk o)) there;
            broken = shows.broken;
          }) (record {
            types = rest.types;
            here = ap (seen_at seen disk) there;
            others = λ m apart. ap (seen_at seen disk) (others-stay old mid last n place.Moving (place.Up s) out again m apart);
            names = λ name. ap (λ ns. meanings ns name) rest.names;
          }) rest.calls (record {
            ups = λ m. ups m ∙ ap (λ (p : Stations). cond (m == n) true (up_at p m)) rest.places;
            joined = joined ∙ ap (λ (p : Stations). p.joined) rest.places;
          }) whole number
          (λ m site lays epochs room some types asleep carries rests.
          (ups_so h.telling old.types m site lays epochs room some types asleep carries rests).0) (bars h.telling);
      agendas = agendas-behind old (record last { places = places }) n (others-stay old mid last n place.Moving (place.Up s) out again)
          rest.types (λ x at. let same : s ≡ x = (let both : Some (place.Up s) ≡ Some (place.Up x) = sym there ∙ at in cc both) in
          subst (λ (y : ScheduledNode _ _). IsAgenda (indices_of y.agenda) (parts_of last.types y.node.ejects)) same
          (subst (λ ts. IsAgenda (indices_of s.agenda) (parts_of ts s.node.ejects)) (sym rest.types) its_agenda)) h.agendas;
    }
  where
    rest : KeepsRest old last
    rest = rest-stays old mid last out.rest again.rest

    there : place_at last n ≡ Some (place.Up s)
    there = back old mid last n (place.Up s) out again ∙ ap (instead (place.Up s)) was

    seat : seen_at seen disk (place_at old n) ≡ Some (down doubt (disk d))
    seat = ap (seen_at seen disk) was

    its_agenda : IsAgenda (indices_of s.agenda) (parts_of old.types s.node.ejects)
    its_agenda = let y = node-of layout (suc more) (in_hand seen disk old) w n h.world seat in
        let x = down-at layout (suc more) (in_hand seen disk old) w n y.0 doubt (disk d) h.world y.1 seat in
        elim x.disk [
          | inl r ↦ (ups_so h.telling old.types old.calls (site_of w n y.0) h.its_layout (reached.epochs n y.0 y.1) r.0 (omega (arith, r.1))
              h.world.its_types x.asleep h.world.calls r.2).1
          | inr b ↦ absurd (bars h.telling (site_of w n y.0) h.its_layout b.0 b.2)
        ]

-- 2. It stays down

reseated-down : {T D : Type 0} (seen : T → Seen) (disk : D → DiskSeen) (old mid last : Program T D) (n : ℕ) (d y : D)
    (doubt left : Option Doubt) → place_at old n ≡ Some (place.Down d doubt) → TakesPlace n place.Moving old mid
    → TakesPlace n (place.Down y left) mid last
    → Reseats n (down left (disk y)) (in_hand seen disk old) (in_hand seen disk last)
reseated-down seen disk old mid last n d y doubt left was out again = record {
  types = (rest-stays old mid last out.rest again.rest).types;
  here = ap (seen_at seen disk) (back old mid last n (place.Down y left) out again ∙ ap (instead (place.Down y left)) was);
  others = λ m apart. ap (seen_at seen disk) (others-stay old mid last n place.Moving (place.Down y left) out again m apart);
  names = λ name. ap (λ ns. meanings ns name) (rest-stays old mid last out.rest again.rest).names;
}

pub restart-falls : {T D : Type 0} (tells : Bool) (layout : Layout) (seen : T → Seen) (disk : D → DiskSeen) (old mid last : Program T D)
    (n : ℕ) (d y : D) (doubt left : Option Doubt) (note : BootNote) (how : BootEnd) (ended : Option BootEnd) (e : Entry)
    → place_at old n ≡ Some (place.Down d doubt) → TakesPlace n place.Moving old mid → TakesPlace n (place.Down y left) mid last
    → ended ≡ Some how → (IsTrue tells → FallsSo layout n doubt (disk d) ended note left (disk y))
    → (IsTrue tells → BarsSo layout n doubt (disk d) ended note left (disk y))
    → e.event ≡ event.Boot n note.epoch how note.pick note.began → EntryShows n (clock_in (seen_at seen disk (place_at last n))) [] e
    → CarriesBy tells layout seen disk old last (command.Restart n) e
restart-falls tells layout seen disk old mid last n d y doubt left note how ended e was out again its_end falls bars is shows more w reached
    h fit = record {
      goes = falls-goes layout more (in_hand seen disk old) (in_hand seen disk last) w n e how note doubt left (disk d) (disk y) h.world
          (its-number w n fit) reached.epochs h.its_layout (ap (seen_at seen disk) was) is (record {
            node = shows.node;
            clock = shows.clock ∙ ap (λ o. clock_in (seen_at seen disk o)) (back old mid last n (place.Down y left) out again
                ∙ ap (instead (place.Down y left)) was);
            broken = shows.broken;
          })
          (reseated-down seen disk old mid last n d y doubt left was out again) (rest-stays old mid last out.rest again.rest).calls
          (rest-stays old mid last out.rest again.rest).places
          (subst (λ o. FallsSo layout n doubt (disk d) o note left (disk y)) its_end (falls h.telling))
          (subst (λ o. BarsSo layout n doubt (disk d) o note left (disk y)) its_end (bars h.telling));
      agendas = agendas-without old last n (others-stay old mid last n place.Moving (place.Down y left) out again)
          (rest-stays old mid last out.rest again.rest).types
          (ap station_in (back old mid last n (place.Down y left) out again ∙ ap (instead (place.Down y left)) was)) h.agendas;
    }

-- 3. There was no memory for it

pub restart-starves : {T D : Type 0} (tells : Bool) (layout : Layout) (seen : T → Seen) (disk : D → DiskSeen) (old mid last : Program T D)
    (n : ℕ) (d y : D) (doubt left : Option Doubt) (note : BootNote) (ended : Option BootEnd)
    → place_at old n ≡ Some (place.Down d doubt) → TakesPlace n place.Moving old mid → TakesPlace n (place.Down y left) mid last
    → ended ≡ None → (IsTrue tells → FallsSo layout n doubt (disk d) ended note left (disk y))
    → (IsTrue tells → BarsSo layout n doubt (disk d) ended note left (disk y))
    → Starves tells layout seen disk old last (command.Restart n)
restart-starves tells layout seen disk old mid last n d y doubt left note ended was out again its_end falls bars more w reached h fit =
    boot-starves layout more (in_hand seen disk old) (in_hand seen disk last) w n note doubt left (disk d) (disk y) h.world
    (its-number w n fit) reached.epochs reached.doubts h.its_layout (ap (seen_at seen disk) was)
    (reseated-down seen disk old mid last n d y doubt left was out again)
    (subst (λ o. FallsSo layout n doubt (disk d) o note left (disk y)) its_end (falls h.telling))
    (subst (λ o. BarsSo layout n doubt (disk d) o note left (disk y)) its_end (bars h.telling))

-- 4. The whole

item-within : {X : Type 0} (xs : List X) (k : ℕ) (x : X) → slice_get xs k ≡ Some x → k < length xs
item-within [] k x is = absurd (let bad : None ≡ Some x = is in cc bad)
item-within (y ∷ xs) zero x is = omega arith
item-within (y ∷ xs) (suc k) x is = omega (arith, item-within xs k x is)

-- a place has a number of a node
pub place-number : {T D : Type 0} (p : Program T D) (n : ℕ) (x : Place T D) → place_at p n ≡ Some x → HasPlaces p → (1 ≤ n) × (n ≤ 8)
place-number p zero x is places = absurd (let bad : None ≡ Some x = is in cc bad)
place-number p (suc k) x is places = (omega arith, omega (arith, item-within p.seats.items k x is, places.seats))

pub whole-up : {T D : Type 0} (seen : T → Seen) (old mid last : Program T D) (places : Stations) (n : ℕ) (s : ScheduledNode T D)
    → TakesPlace n place.Moving old mid → TakesPlace n (place.Up s) mid last → places.nodes ≡ last.places.nodes → IsWhole (held seen s.node)
    → s.node.number ≡ n → FitsTogether seen old → FitsTogether seen (record last { places = places })
whole-up seen old mid last places n s out again nodes whole number fits = record {
  nodes = now.nodes;
  places = record { seats = now.places.seats; nodes = nodes ∙ now.places.nodes };
  seated = now.seated;
}
  where
    now : FitsTogether seen last
    now = set-fits seen old last n (place.Up s) (set-again old mid last n (place.Up s) out again) (λ is. cc is)
        (λ x is. let same : s ≡ x = cc is in subst (IsWholeAt seen n) same (record { whole = whole; number = number })) fits

pub whole-down : {T D : Type 0} (seen : T → Seen) (old mid last : Program T D) (n : ℕ) (y : D) (left : Option Doubt)
    → TakesPlace n place.Moving old mid → TakesPlace n (place.Down y left) mid last → FitsTogether seen old → FitsTogether seen last
whole-down seen old mid last n y left out again fits = set-fits seen old last n (place.Down y left)
    (set-again old mid last n (place.Down y left) out again) (λ is. cc is) (λ x is. absurd (cc is)) fits

-- 5. What its entry shows, and what is left where there was no memory

pub restart-up-shows : {T D : Type 0} (tells obeys : Bool) (seen : T → Seen) (disk : D → DiskSeen) (old mid last : Program T D)
    (places : Stations) (n : ℕ) (d : D) (doubt : Option Doubt) (note : BootNote) (s : ScheduledNode T D) (e : Entry)
    → place_at old n ≡ Some (place.Down d doubt) → TakesPlace n place.Moving old mid → TakesPlace n (place.Up s) mid last
    → (IsTrue tells → ShowsCounts obeys n (boot_event n end.Up note) (disk d) (seen s.node.store).disk)
    → MakesCalls (powered (disk d).counts) (seen s.node.store).disk.counts Fine
    → e.event ≡ event.Boot n note.epoch end.Up note.pick note.began → e.node ≡ n
    → e.clock ≡ clock_in (seen_at seen disk (place_at last n))
    → EachShows (heeds tells obeys) seen disk old e (record last { places = places })
restart-up-shows tells obeys seen disk old mid last places n d doubt note s e was out again shows calls is node clock =
    one-shows (heeds tells obeys) seen disk old (record last { places = places }) n e (disk d) (seen s.node.store).disk
    (ap (λ o. option_map disk_of (seen_at seen disk o)) was) (ap (λ o. option_map disk_of (seen_at seen disk o)) there)
    (others-stay old mid last n place.Moving (place.Up s) out again) (ap shown_of is) node
    (entry-on (heeds tells obeys) n (boot_event n end.Up note) e (disk d) (seen s.node.store).disk
    (boot-counts tells obeys n end.Up note (disk d) (seen s.node.store).disk shows calls) is refl node
    (clock ∙ ap (λ o. clock_in (seen_at seen disk o)) there))
  where
    there : place_at last n ≡ Some (place.Up s)
    there = back old mid last n (place.Up s) out again ∙ ap (instead (place.Up s)) was

pub restart-falls-shows : {T D : Type 0} (tells obeys : Bool) (seen : T → Seen) (disk : D → DiskSeen) (old mid last : Program T D) (n : ℕ)
    (d y : D) (doubt left : Option Doubt) (note : BootNote) (how : BootEnd) (ended : Option BootEnd) (e : Entry)
    → place_at old n ≡ Some (place.Down d doubt) → TakesPlace n place.Moving old mid → TakesPlace n (place.Down y left) mid last
    → ended ≡ Some how → (IsTrue tells → FallShows obeys n ended note (disk d) (disk y))
    → MakesCalls (powered (disk d).counts) (disk y).counts (call_of_fall ended)
    → e.event ≡ event.Boot n note.epoch how note.pick note.began → e.node ≡ n
    → e.clock ≡ clock_in (seen_at seen disk (place_at last n)) → EachShows (heeds tells obeys) seen disk old e last
restart-falls-shows tells obeys seen disk old mid last n d y doubt left note how ended e was out again its_end shows calls is node clock =
    one-shows (heeds tells obeys) seen disk old last n e (disk d) (disk y) (ap (λ o. option_map disk_of (seen_at seen disk o)) was)
    (ap (λ o. option_map disk_of (seen_at seen disk o)) there) (others-stay old mid last n place.Moving (place.Down y left) out again)
    (ap shown_of is) node
    (entry-on (heeds tells obeys) n (boot_event n how note) e (disk d) (disk y)
    (boot-counts tells obeys n how note (disk d) (disk y) (λ so. subst (λ o. FallShows obeys n o note (disk d) (disk y)) its_end (shows so))
    (subst (λ o. MakesCalls (powered (disk d).counts) (disk y).counts (call_of_fall o)) its_end calls)) is refl node
    (clock ∙ ap (λ o. clock_in (seen_at seen disk o)) there))
  where
    there : place_at last n ≡ Some (place.Down y left)
    there = back old mid last n (place.Down y left) out again ∙ ap (instead (place.Down y left)) was

pub restart-leaves : {T D : Type 0} (tells obeys : Bool) (seen : T → Seen) (disk : D → DiskSeen) (old mid last : Program T D) (n : ℕ)
    (d y : D) (doubt left : Option Doubt) (note : BootNote) (ended : Option BootEnd) → ended ≡ None → place_at old n ≡ Some (place.Down d doubt) → TakesPlace n place.Moving old mid
    → TakesPlace n (place.Down y left) mid last → MakesCalls (powered (disk d).counts) (disk y).counts (call_of_fall ended)
    → (IsTrue tells → FallShows obeys n ended note (disk d) (disk y)) → FitsTogether seen old
    → KeepsDisks (heeds tells obeys) seen disk old last
restart-leaves tells obeys seen disk old mid last n d y doubt left note ended is_none was out again calls shows fits =
    keeps-one (heeds tells obeys) seen disk old last n (disk d) (disk y) now.places now.seated (ap (λ o. option_map disk_of (seen_at seen disk o)) was)
    (ap (λ o. option_map disk_of (seen_at seen disk o)) (back old mid last n (place.Down y left) out again
    ∙ ap (instead (place.Down y left)) was)) (others-stay old mid last n place.Moving (place.Down y left) out again)
    (boot-left tells obeys (disk d) (disk y)
    (subst (λ o. MakesCalls (powered (disk d).counts) (disk y).counts (call_of_fall o)) is_none calls)
    (λ so. subst (λ o. FallShows obeys n o note (disk d) (disk y)) is_none (shows so)))
  where
    now : FitsTogether seen last
    now = whole-down seen old mid last n y left out again fits

-- 6. No node stands at the place: nothing was done

pub idle-starves : {T D : Type 0} (tells : Bool) (layout : Layout) (seen : T → Seen) (disk : D → DiskSeen) (old mid last : Program T D)
    (n : ℕ) (taken : Place T D) → taken ≡ unwrap_or (place_at old n) place.Moving → TakesPlace n place.Moving old mid
    → TakesPlace n taken mid last → Starves tells layout seen disk old last (command.Restart n)
idle-starves tells layout seen disk old mid last n taken is out again more w reached h fit =
    ends-level layout (suc more) more (in_hand seen disk old) (in_hand seen disk last) w (omega arith) h.world
    (places-level seen disk old last (set-back old mid last n taken is out again))

pub idle-leaves : {T D : Type 0} (obeys : Bool) (seen : T → Seen) (disk : D → DiskSeen) (old mid last : Program T D) (n : ℕ) (taken : Place T D)
    → taken ≡ unwrap_or (place_at old n) place.Moving → TakesPlace n place.Moving old mid → TakesPlace n taken mid last
    → FitsTogether seen old → KeepsDisks obeys seen disk old last
idle-leaves obeys seen disk old mid last n taken is out again fits = keeps-level obeys seen disk old last
    (places-behind old last (rest-stays old mid last out.rest again.rest) fits.places)
    (places-seated old last (set-back old mid last n taken is out again) fits.seated)
    (places-level seen disk old last (set-back old mid last n taken is out again))

-- 7. A node is up there

pub up-stays : {T D : Type 0} (tells : Bool) (layout : Layout) (seen : T → Seen) (disk : D → DiskSeen) (old : Program T D) (n : ℕ)
    (o : Option (Bor (ScheduledNode T D))) (e : Entry) → option_copied o ≡ station_at old n → is_some o ≡ true
    → e.event ≡ event.Still n true → TouchesNone e → CarriesBy tells layout seen disk old old (command.Restart n) e
up-stays tells layout seen disk old n None e copied some is none = absurd (cc some)
up-stays tells layout seen disk old n (Some r) e copied some is none =
    restart-still tells layout seen disk old n r.now e (sym copied) is none
