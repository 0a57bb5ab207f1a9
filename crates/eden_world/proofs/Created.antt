-- An Eject is created by command: what its node and the names tell of it comes to a step of the world.
use Rattle.std.proofs.Common.{◌≡◌, ℕ, suc, Bool, true, false, cond, List, [], ◌∷◌, Option, None, Some, Result, Ok, Err, is_some, ◌&&◌}
use Rattle.std.proofs.Common.{refl, sym, ◌∙◌, ap, subst, arith, unwrap_or}
use Rattle.std.specs.Prelude.{IfOk, IsTrue, OnErr}
use Rattle.std.specs.Option.{option_map}
use Rattle.std.specs.List.{find}
use Rattle.capability.specs.declared.Uid.{Uid}
use Rattle.capability.specs.Capability.{full}
use Rattle.eden_value.specs.declared.status.Status.{Status}
use Rattle.eden_value.specs.declared.status.Status.TheVariants as status
use Rattle.eden_model.specs.Map.{with_item, same_text}
use Rattle.edentypes.specs.View.{kind_in}
use Rattle.edentypes.specs.declared.Kind.{Kind}
use Rattle.epl_syntax.specs.Edentype.{Edentype}
use Rattle.epl_syntax.specs.Meaning.{first_values, type_of, types_in}
use Rattle.epl_syntax.specs.Rules.OfTypes.{TypeList}
use Rattle.invocation.specs.Mail.{Mail}
use Rattle.locator.specs.Reach.{reaches}
use Rattle.passive_store.specs.Kept.{Layout}
use Rattle.passive_store.specs.Seen.{Seen, DiskSeen}
use Rattle.journal.specs.declared.command.Command.TheVariants as command
use Rattle.journal.specs.declared.event.Event.{Event}
use Rattle.journal.specs.declared.event.Event.TheVariants as event
use Rattle.journal.specs.declared.event.Entry.{Entry}
use Rattle.journal.specs.Commands.{made as made_in_world, born_as as born_in_world}
use Rattle.journal.specs.Ejects.{born, fresh}
use Rattle.journal.specs.References.{meaning_of}
use Rattle.journal.specs.World.{World, Site, capability, nothing, site_of}
use Rattle.history_laws.proofs.Frame.{only-at_node}
use Rattle.agenda.specs.Indexed.{indices_of}
use Rattle.agenda.specs.Keys.{IsAgenda}
use Rattle.ejects.specs.Creations.{HasNewUid}
use Rattle.ejects.specs.View.{parts_of}
use Rattle.eden_kernel.specs.Stands.{held, IsWhole, NodeStands}
use Rattle.scheduled_node.specs.declared.ScheduledNode.{ScheduledNode}
use Rattle.scheduled_node.specs.Scheduled.{manned, ScheduledStands, ScheduledCreates}
use Rattle.shell_names.specs.Names.{Names as NameList, NamesStand, meanings}
use Rattle.shell_names.specs.Events.{StandsAfter}
use Rattle.eden_world.specs.Worlds.{IsNumber}
use Rattle.eden_world.specs.Steps.{disk_of, Goes, TouchesNone}
use Rattle.eden_world.specs.InHand.{in_hand, place_at, seen_at, IsWholeAt}
use Rattle.eden_world.specs.Seated.{FitsTogether, KeepsDisks, TakesPlace, instead, station_at, station_in}
use Rattle.eden_world.specs.Carried.{CarriesBy, CreatesIn, EndsStill}
use Rattle.eden_world.specs.Creating.{MadeAt, creates_at, status_of}
use Rattle.scheduled_node.specs.Scheduled.{uid_made}
use Rattle.eden_world.specs.Told.{SameDisks}
use Rattle.eden_world.specs.declared.seats.Seat.{Seat as Place}
use Rattle.eden_world.specs.declared.seats.Seat.TheVariants as place
use Rattle.eden_world.specs.declared.World.{World as Program}
use Rattle.eden_world.proofs.Falls.{ends-level}
use Rattle.eden_world.proofs.Named.{newest}
use Rattle.eden_world.proofs.Seating.{agendas-behind, places-behind}
use Rattle.eden_world.proofs.Setting.{set-again, set-fits, set-level, set-seated}
use Rattle.eden_world.proofs.Shell.{creation-goes, meaning_made, unreachable-goes}
use Rattle.eden_world.proofs.Shown.{keeps-level}
use Rattle.eden_world.proofs.Stationed.{reached-up, station-up}
use Rattle.eden_world.proofs.TurnEntries.{IsUp, is-up}

-- 1. At its node

-- what was taken from the place is the node that was up there
pub taken-up : {T D : Type 0} (o : Option (Place T D)) (taken : Place T D) (s : ScheduledNode T D) → taken ≡ unwrap_or o place.Moving
    → taken ≡ place.Up s → o ≡ Some (place.Up s)
taken-up None taken s old is = absurd (let bad : place.Moving ≡ place.Up s = sym old ∙ is in cc bad)
taken-up (Some x) taken s old is = ap (λ y. Some y) (sym old ∙ is)

-- its disk is as it was
pub node-level : {T D : Type 0} (seen : T → Seen) (look : D → DiskSeen) (old mid new : Program T D) (n : ℕ)
    (before after : ScheduledNode T D) → place_at old n ≡ Some (place.Up before) → TakesPlace n place.Moving old mid
    → TakesPlace n (place.Up after) mid new → seen after.node.store ≡ seen before.node.store
    → SameDisks (in_hand seen look old) (in_hand seen look new)
node-level seen look old mid new n before after was out again store =
    set-level seen look old new n (place.Up before) (place.Up after) was (set-again old mid new n (place.Up after) out again)
    (ap (λ (x : Seen). Some x.disk) store)

-- so it did what the end of a run may do, and no more
pub level-ends : {T D : Type 0} (tells : Bool) (layout : Layout) (seen : T → Seen) (look : D → DiskSeen) (old new : Program T D)
    → SameDisks (in_hand seen look old) (in_hand seen look new) → EndsStill tells layout seen look old new
level-ends tells layout seen look old new same more w h =
    ends-level layout (suc more) more (in_hand seen look old) (in_hand seen look new) w (omega arith) h.world same

pub node-fits : {T D : Type 0} (seen : T → Seen) (old mid new : Program T D) (n : ℕ) (before after : ScheduledNode T D)
    → place_at old n ≡ Some (place.Up before) → TakesPlace n place.Moving old mid → TakesPlace n (place.Up after) mid new
    → after.node.number ≡ before.node.number → FitsTogether seen old → IsWhole (held seen after.node) → FitsTogether seen new
node-fits seen old mid new n before after was out again number fits whole =
    set-fits seen old new n (place.Up after) (set-again old mid new n (place.Up after) out again) (λ is. cc is)
    (λ s is. let same : after ≡ s = cc is in
    subst (IsWholeAt seen n) same (record { whole = whole; number = number ∙ (fits.nodes n before was).number })) fits

pub creates-in : {T D : Type 0} (tells : Bool) (layout : Layout) (seen : T → Seen) (n : ℕ) (type_name : List ℕ) (old mid new : Program T D)
    (before after : ScheduledNode T D) (kind : Kind) (made : Result Uid Status) → place_at old n ≡ Some (place.Up before)
    → TakesPlace n place.Moving old mid → TakesPlace n (place.Up after) mid new → seen after.node.store ≡ seen before.node.store
    → type_of (types_in old.types) type_name ≡ Some (kind_in old.types kind)
    → (IsTrue tells → (m : Mail) (s : Site) → HasNewUid s → ScheduledStands layout mid.types (manned seen before) m s
    → ScheduledCreates layout mid.types (manned seen before) (manned seen after) m (kind_in mid.types kind) made s)
    → CreatesIn tells layout seen n type_name old new made
creates-in tells layout seen n type_name old mid new before after kind made was out again store known creates = record {
  before = before;
  after = after;
  kind = kind_in old.types kind;
  was_up = ap station_in was;
  takes = set-again old mid new n (place.Up after) out again;
  store = store;
  known = known;
  creates = λ so m s ready. subst (λ (ts : TypeList). ScheduledStands layout ts (manned seen before) m s
      → ScheduledCreates layout ts (manned seen before) (manned seen after) m (kind_in ts kind) made s) out.rest.types
      (creates so m s ready);
}

pub creates-in-ok : {T D E : Type 0} (tells : Bool) (layout : Layout) (seen : T → Seen) (n : ℕ) (type_name : List ℕ)
    (old mid new : Program T D) (before after : ScheduledNode T D) (kind : Kind) (r : Result (Result Uid Status) E)
    → place_at old n ≡ Some (place.Up before) → TakesPlace n place.Moving old mid → TakesPlace n (place.Up after) mid new
    → seen after.node.store ≡ seen before.node.store → type_of (types_in old.types) type_name ≡ Some (kind_in old.types kind)
    → (IsTrue tells → IfOk r (λ made. (m : Mail) (s : Site) → HasNewUid s → ScheduledStands layout mid.types (manned seen before) m s
    → ScheduledCreates layout mid.types (manned seen before) (manned seen after) m (kind_in mid.types kind) made s))
    → IfOk r (CreatesIn tells layout seen n type_name old new)
creates-in-ok tells layout seen n type_name old mid new before after kind (Ok made) was out again store known creates =
    creates-in tells layout seen n type_name old mid new before after kind made was out again store known creates
creates-in-ok tells layout seen n type_name old mid new before after kind (Err e) was out again store known creates = tt

pub any-on-err : {A E : Type 0} (r : Result A E) (P : Type 0) → P → OnErr r P
any-on-err (Ok a) P p = tt
any-on-err (Err e) P p = p

pub node-keeps : {T D : Type 0} (obeys : Bool) (seen : T → Seen) (look : D → DiskSeen) (old mid new : Program T D) (n : ℕ)
    (before after : ScheduledNode T D) → place_at old n ≡ Some (place.Up before) → TakesPlace n place.Moving old mid
    → TakesPlace n (place.Up after) mid new → seen after.node.store ≡ seen before.node.store → FitsTogether seen old
    → KeepsDisks obeys seen look old new
node-keeps obeys seen look old mid new n before after was out again store fits = keeps-level obeys seen look old new
    (places-behind old new (set-again old mid new n (place.Up after) out again).rest fits.places)
    (set-seated old new n (place.Up after) (set-again old mid new n (place.Up after) out again) (λ is. cc is) fits.seated)
    (node-level seen look old mid new n before after was out again store)

-- 2. What the name stands for

names-born : (u : Uid) (t : Option Edentype) (w : World) → (born_in_world u t w).names ≡ w.names
names-born u None w = refl
names-born u (Some t) w = (only-at_node u.node (born u (fresh t (first_values t))) w).names

made-names : (made : Result Uid Status) (name type_name : List ℕ) (w : World) (other : List ℕ)
    → meaning_of (made_in_world name type_name (uid_made made) w) other
    ≡ cond (same_text name other) (Some (meaning_made (uid_made made))) (meaning_of w other)
made-names (Ok u) name type_name w other =
    ap (λ ns. with_item (find (λ e. same_text e.0 other) ((name, capability (full u)) ∷ ns)) (λ e. Some e.1) None)
    (names-born u (type_of w.types type_name) w) ∙ newest name (capability (full u)) w w.traffic other
made-names (Err why) name type_name w other = newest name nothing w w.traffic other

named-made : (old names : NameList) (made : Result Uid Status) (name type_name : List ℕ) (n : ℕ) (w : World) → NamesStand old w
    → StandsAfter old names (command.Create name n type_name) (event.Made name (status_of made) (uid_made made)) → (other : List ℕ)
    → meanings names other ≡ cond (same_text name other) (Some (meaning_made (uid_made made))) (meanings old other)
named-made old names made name type_name n w stand after other = sym (after w stand other) ∙ made-names made name type_name w other
    ∙ ap (λ o. cond (same_text name other) (Some (meaning_made (uid_made made))) o) (stand other)

-- 3. A creation on a node that is reached

pub create-carried : {T D : Type 0} (tells : Bool) (layout : Layout) (seen : T → Seen) (look : D → DiskSeen) (old mid : Program T D)
    (names : NameList) (name type_name : List ℕ) (n : ℕ) (made : Result Uid Status) (e : Entry) → FitsTogether seen mid
    → CreatesIn tells layout seen n type_name old mid made → reaches old.places 0 n ≡ true
    → StandsAfter mid.names names (command.Create name n type_name) (event.Made name (status_of made) (uid_made made))
    → e.event ≡ event.Made name (status_of made) (uid_made made) → TouchesNone e
    → CarriesBy tells layout seen look old (record mid { names = names }) (command.Create name n type_name) e
create-carried tells layout seen look old mid names name type_name n made e fits c there after is none more w reached h fit = record {
  goes = creation-goes layout more (in_hand seen look old) (in_hand seen look (record mid { names = names })) w n (held seen c.before.node)
      (held seen c.after.node) e name type_name c.kind made reached.sites reached.new_uids h.world number (ap (seen_at seen look) was)
      (ap (λ ts. type_of ts type_name) h.world.its_types ∙ c.known) (record {
        types = c.takes.rest.types;
        here = ap (seen_at seen look) now;
        others = λ k apart. ap (seen_at seen look) (c.takes.others k apart);
        mail = c.takes.rest.calls;
        places = c.takes.rest.places;
        names = named;
      }) (fits.nodes n c.after now).whole c.store (λ s ready stands. record {
        next = (made-at s ready stands).creation.next;
        stands = (made-at s ready stands).creation.stands;
      }) none is there;
  agendas = agendas-behind old (record mid { names = names }) n c.takes.others c.takes.rest.types
      (λ x at. let same : c.after ≡ x = (let both : Some (place.Up c.after) ≡ Some (place.Up x) = sym now ∙ at in cc both) in
      subst (λ (y : ScheduledNode _ _). IsAgenda (indices_of y.agenda) (parts_of mid.types y.node.ejects)) same
      (subst (λ ts. IsAgenda (indices_of c.after.agenda) (parts_of ts c.after.node.ejects)) (sym c.takes.rest.types) its_agenda)) h.agendas;
}
  where
    number : IsNumber n
    number = record { first = fit.fit.numbers.0; last = omega (arith, fit.fit.numbers.1, fit.few) }

    was : place_at old n ≡ Some (place.Up c.before)
    was = station-up (place_at old n) c.before c.was_up

    now : place_at mid n ≡ Some (place.Up c.after)
    now = c.takes.here ∙ ap (instead (place.Up c.after)) was

    made-at : (s : Site) → HasNewUid s → NodeStands layout old.types (held seen c.before.node) old.calls s
        → ScheduledCreates layout old.types (manned seen c.before) (manned seen c.after) old.calls c.kind made s
    made-at s ready stands = c.creates h.telling old.calls s ready (record { node = stands; agenda = h.agendas n c.before was })

    here : IsUp layout (suc more) (in_hand seen look old) w n (held seen c.before.node)
    here = is-up layout (suc more) (in_hand seen look old) w n (held seen c.before.node) h.world (ap (seen_at seen look) was)

    its_agenda : IsAgenda (indices_of c.after.agenda) (parts_of old.types c.after.node.ejects)
    its_agenda = (made-at (site_of w n here.it) (record {
      in_order = (reached.sites n here.it here.at).node.in_order;
      is_new = reached.new_uids n here.it here.at;
    }) here.stands.stands).agenda

    named : (other : List ℕ)
        → meanings names other ≡ cond (same_text name other) (Some (meaning_made (uid_made made))) (meanings old.names other)
    named other = named-made mid.names names made name type_name n w
        (λ x. h.world.names x ∙ ap (λ ns. meanings ns x) (sym c.takes.rest.names)) after other
        ∙ ap (λ ns. cond (same_text name other) (Some (meaning_made (uid_made made))) (meanings ns other)) c.takes.rest.names

-- 4. One that is not

pub create-unreached : {T D : Type 0} (tells : Bool) (layout : Layout) (seen : T → Seen) (look : D → DiskSeen) (old : Program T D)
    (names : NameList) (name type_name : List ℕ) (n : ℕ) (e : Entry) → reaches old.places 0 n ≡ false
    → StandsAfter old.names names (command.Create name n type_name) (event.Made name status.Unreachable None)
    → e.event ≡ event.Made name status.Unreachable None → TouchesNone e
    → CarriesBy tells layout seen look old (record old { names = names }) (command.Create name n type_name) e
create-unreached tells layout seen look old names name type_name n e cut after is none more w reached h fit = record {
  goes = go (type_of w.types type_name) refl (fit.offers.known type_name (fit.fit.type_is_known 0 [] (omega arith)));
  agendas = h.agendas;
}
  where
    go : (o : Option Edentype) → type_of w.types type_name ≡ o → IsTrue (is_some o)
        → Goes layout more w (Some (command.Create name n type_name)) e (in_hand seen look old)
        (in_hand seen look (record old { names = names }))
    go None typed known = absurd (cc known)
    go (Some t) typed known = unreachable-goes layout more (in_hand seen look old) (in_hand seen look (record old { names = names })) w e
        name n type_name t h.world cut typed (record { types = refl; seats = λ m. refl; mail = refl; places = refl })
        (named-made old.names names (Err status.Unreachable) name type_name n w h.world.names after) none is

-- 5. One or the other

pub made-carried : {T D : Type 0} (tells : Bool) (layout : Layout) (seen : T → Seen) (look : D → DiskSeen) (old mid : Program T D)
    (names : NameList) (name type_name : List ℕ) (n : ℕ) (made : Result Uid Status) (e : Entry) → FitsTogether seen mid
    → MadeAt (creates_at old n type_name) tells layout seen n type_name old mid made
    → StandsAfter mid.names names (command.Create name n type_name) (event.Made name (status_of made) (uid_made made))
    → e.event ≡ event.Made name (status_of made) (uid_made made) → TouchesNone e
    → CarriesBy tells layout seen look old (record mid { names = names }) (command.Create name n type_name) e
made-carried {T = T} {D = D} tells layout seen look old mid names name type_name n made e fits creation after is none =
    go (reaches old.places 0 n) (is_some (station_at old n)) (is_some (type_of (types_in old.types) type_name)) refl refl refl creation
  where
    go : (a b known : Bool) → reaches old.places 0 n ≡ a → is_some (station_at old n) ≡ b
        → is_some (type_of (types_in old.types) type_name) ≡ known
        → MadeAt ((a && b) && known) tells layout seen n type_name old mid made
        → CarriesBy tells layout seen look old (record mid { names = names }) (command.Create name n type_name) e
    go true true true there up typed c =
        create-carried tells layout seen look old mid names name type_name n made e fits c there after is none
    go true true false there up typed c = λ more w reached stands fit. absurd (let bad : false ≡ true =
        sym (ap (λ ts. is_some (type_of ts type_name)) stands.world.its_types ∙ typed)
        ∙ fit.offers.known type_name (fit.fit.type_is_known 0 [] (omega arith)) in cc bad)
    go true false known there off typed c = λ more w reached stands fit. absurd
        (let bad : false ≡ true = sym off ∙ reached-up tells layout seen look old (suc more) w n stands there in cc bad)
    go false b known cut at typed (why, same) = subst (λ (p : Program T D).
        CarriesBy tells layout seen look old (record p { names = names }) (command.Create name n type_name) e) (sym same)
        (create-unreached tells layout seen look old names name type_name n e cut
        (subst (λ r. StandsAfter old.names names (command.Create name n type_name) (event.Made name (status_of r) (uid_made r))) why
        (subst (λ (p : Program T D). StandsAfter p.names names (command.Create name n type_name)
        (event.Made name (status_of made) (uid_made made))) same after))
        (is ∙ ap (λ r. event.Made name (status_of r) (uid_made r)) why) none)

pub made-level : {T D : Type 0} (tells : Bool) (layout : Layout) (seen : T → Seen) (look : D → DiskSeen) (old mid : Program T D)
    (n : ℕ) (type_name : List ℕ) (b : Bool) (made : Result Uid Status) → MadeAt b tells layout seen n type_name old mid made
    → SameDisks (in_hand seen look old) (in_hand seen look mid)
made-level tells layout seen look old mid n type_name true made c m =
    set-level seen look old mid n (place.Up c.before) (place.Up c.after) (station-up (place_at old n) c.before c.was_up) c.takes
    (ap (λ (x : Seen). Some x.disk) c.store) m
made-level tells layout seen look old mid n type_name false made (why, same) m =
    ap (λ (p : Program _ _). option_map disk_of (seen_at seen look (place_at p m))) same

-- by the parts of which its event is made
pub made-told : {T D : Type 0} (tells : Bool) (layout : Layout) (seen : T → Seen) (look : D → DiskSeen) (old mid : Program T D)
    (names : NameList) (name type_name : List ℕ) (n : ℕ) (made : Result Uid Status) (s : Status) (u : Option Uid) (v : Event) (e : Entry)
    → FitsTogether seen mid → MadeAt (creates_at old n type_name) tells layout seen n type_name old mid made
    → s ≡ status_of made → u ≡ uid_made made → v ≡ event.Made name s u → StandsAfter mid.names names (command.Create name n type_name) v
    → e.event ≡ v
    → TouchesNone e → CarriesBy tells layout seen look old (record mid { names = names }) (command.Create name n type_name) e
made-told tells layout seen look old mid names name type_name n made s u v e fits creation status_so uid_so its_event after is none =
    made-carried tells layout seen look old mid names name type_name n made e fits creation
    (subst (StandsAfter mid.names names (command.Create name n type_name)) whole after) (is ∙ whole) none
  where
    whole : v ≡ event.Made name (status_of made) (uid_made made)
    whole = its_event ∙ ap (λ x. event.Made name x u) status_so ∙ ap (λ x. event.Made name (status_of made) x) uid_so
