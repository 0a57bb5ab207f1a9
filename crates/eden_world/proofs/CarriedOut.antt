-- Commands that leave all nodes as they are: what the names of the shell, the calls and the links tell of them comes to a step of the
-- world.
use Rattle.std.proofs.Common.{◌≡◌, ◌==◌, ◌≤◌, ◌⊎◌, inl, inr, ℕ, suc, Bool, true, false, cond, List, [], ◌∷◌, Option, None, Some}
use Rattle.std.proofs.Common.{is_some, refl, sym, ◌∙◌, ap, subst, arith, not, ◌&&◌}
use Rattle.std.specs.Prelude.{Result, Ok, Err, IfOk, IfErr, IsSomeAnd, IsTrue, codes, slice_index_or}
use Rattle.std.specs.Option.{option_map}
use Rattle.capability.specs.declared.Uid.{Uid}
use Rattle.capability.specs.declared.Cap.{Cap}
use Rattle.capability.specs.Capability.{full, restricted}
use Rattle.eden_value.specs.Datum.{Datum}
use Rattle.eden_model.specs.Map.{with_item, same_text}
use Rattle.eden_model.specs.Traffic.{Traffic, with_call}
use Rattle.eden_model.specs.declared.Asker.TheVariants.{Shell}
use Rattle.locator.specs.Reach.{Stations, joined_at, same_link}
use Rattle.invocation.specs.Mail.{Mail, Asks}
use Rattle.invocation.specs.Carries.{Carries, no_traffic}
use Rattle.invocation.specs.declared.call.Asked.{Asked}
use Rattle.passive_store.specs.Kept.{Layout}
use Rattle.passive_store.specs.Seen.{Seen, DiskSeen}
use Rattle.journal.specs.Argument.{Argument}
use Rattle.journal.specs.declared.command.Command.{Command}
use Rattle.journal.specs.declared.command.Command.TheVariants as command
use Rattle.journal.specs.declared.command.Ref.{Ref}
use Rattle.journal.specs.declared.event.Entry.{Entry}
use Rattle.journal.specs.declared.event.Event.{Event}
use Rattle.journal.specs.declared.event.Event.TheVariants as event
use Rattle.journal.specs.Commands.{AllowsCommand, open_names, ready_call}
use Rattle.journal.specs.References.{meaning_of, cap_at}
use Rattle.journal.specs.Run.{lookup_args}
use Rattle.journal.specs.Step.{after_command}
use Rattle.journal.specs.World.{World, Meaning, capability, nothing, node_at}
use Rattle.disk_faults.specs.Elsewhere.{shown_of}
use Rattle.shell_names.specs.Names.{Names as NameList, NamesStand}
use Rattle.shell_names.specs.Events.{IsAllowed, StandsAfter, StandsAsked}
use Rattle.eden_world.specs.Worlds.{Seat, up, down, InHand, IsNumber, DiskStands, SeatStands, WorldStands}
use Rattle.eden_world.specs.Steps.{TouchesNone, Names, disk_of}
use Rattle.eden_world.specs.InHand.{in_hand, place_at, seen_at}
use Rattle.eden_world.specs.Carried.{GoesOn, CallsBy, CarriesBy, EndsStill, LooksUpBy, Starves, WalksBy}
use Rattle.eden_disk.specs.declared.disk.ImageMode.{ImageMode}
use Rattle.passive_store.specs.declared.store.Doubt.{Doubt}
use Rattle.locator.specs.Reach.{node_up_at}
use Rattle.scheduled_node.specs.declared.ScheduledNode.{ScheduledNode}
use Rattle.journal.specs.World.{Node, site_of}
use Rattle.journal.specs.Step.{stopped_at}
use Rattle.eden_kernel.specs.Stands.{Held, held}
use Rattle.eden_kernel.proofs.Booted.{asleep-crashed}
use Rattle.eden_world.specs.Breaking.{CutsAndTells, FallsAndTells, Leaves}
use Rattle.eden_world.specs.Seated.{station_at, station_in, clock_in}
use Rattle.eden_world.specs.declared.seats.Seat.{Seat as Place}
use Rattle.eden_world.specs.declared.seats.Seat.TheVariants as place
use Rattle.eden_world.proofs.Crashes.{crash-begins, crash-starves}
use Rattle.eden_world.proofs.TurnEntries.{IsUp, is-up}
use Rattle.eden_world.proofs.Named.{still-down-goes, still-up-goes}
use Rattle.eden_world.specs.Told.{EntryShows, SameDisks}
use Rattle.eden_world.specs.declared.World.{World as Program}
use Rattle.journal.specs.Crashes.{linked}
use Rattle.eden_world.proofs.FallEntries.{crash-entry, cut-entry}
use Rattle.eden_world.proofs.Links.{cut-begins}
use Rattle.eden_world.proofs.Joined.{join-goes}
use Rattle.eden_world.proofs.Falls.{ends-level, first-node}
use Rattle.eden_world.proofs.InWorld.{with_mail}
use Rattle.eden_world.proofs.Named.{AsksNow, newest, hold-goes, restrict-goes, void-restrict-goes, call-goes, void-call-goes, look-up-goes}
use Rattle.eden_world.proofs.Named.{void-look-up-goes, left-goes}

-- 1. No disk was touched

pub ends-still : {T D : Type 0} (tells : Bool) (layout : Layout) (seen : T → Seen) (disk : D → DiskSeen) (old new : Program T D)
    → ((n : ℕ) → place_at new n ≡ place_at old n) → EndsStill tells layout seen disk old new
ends-still tells layout seen disk old new same more w h =
    ends-level layout (suc more) more (in_hand seen disk old) (in_hand seen disk new) w (omega arith) h.world
    (λ m. ap (λ o. option_map disk_of (seen_at seen disk o)) (same m))

-- 2. What the names tell

-- a world in which these names stand
abbrev world_of : Layout → NameList → World
world_of layout names = record {
  types = [];
  layout = layout;
  nodes = [];
  traffic = no_traffic;
  cuts = [];
  names = names;
  turns = 0;
  last = None;
}

names-from : (layout : Layout) (more : ℕ) (old new : InHand) (w : World) (t : Traffic) (name : List ℕ) (m : Meaning)
    → WorldStands layout more old w → ((other : List ℕ) → meaning_of (with_mail t ((name, m) ∷ w.names) w) other ≡ new.names other)
    → Names name m old new
names-from layout more old new w t name m stands named other = sym (named other) ∙ newest name m w t other
    ∙ ap (λ o. cond (same_text name other) (Some m) o) (stands.names other)

bound-so : (name said : List ℕ) (held was : Bool) → said ≡ name → held ≡ was → event.Bound said held ≡ event.Bound name was
bound-so name said held was a b = ap (λ s. event.Bound s held) a ∙ ap (λ h. event.Bound name h) b

held-so : (w : World) (name : List ℕ) (u : Uid) (v : Event) → AllowsCommand w (command.Hold name u) v → v ≡ event.Bound name true
held-so w name u (event.Bound said held) a = bound-so name said held true a.0 a.1
held-so w name u _ a = absurd a

restricted-so : (w : World) (name : List ℕ) (target : Ref) (mask : _) (v : Event) → AllowsCommand w (command.Restrict name target mask) v
    → ((v ≡ event.Bound name false) × IsTrue (is_some (cap_at w target))) ⊎ ((v ≡ event.Void name) × (cap_at w target ≡ None))
restricted-so w name target mask (event.Bound said held) a = inl (bound-so name said held false a.0 a.1, a.2)
restricted-so w name target mask (event.Void said) a = inr (ap event.Void a.0, a.1)
restricted-so w name target mask _ a = absurd a

-- 3. `hold` and `restrict`

pub hold-carried : {T D : Type 0} (tells : Bool) (layout : Layout) (seen : T → Seen) (disk : D → DiskSeen) (old : Program T D)
    (names : NameList) (name : List ℕ) (u : Uid) (e : Entry) (v : Event) → IsAllowed old.names (command.Hold name u) v
    → StandsAfter old.names names (command.Hold name u) v → e.event ≡ v → TouchesNone e
    → CarriesBy tells layout seen disk old (record old { names = names }) (command.Hold name u) e
hold-carried tells layout seen disk old names name u e v allowed after is none more w reached h fit = record {
  goes = hold-goes layout more (in_hand seen disk old) (in_hand seen disk (record old { names = names })) w e name u h.world
      (record { types = refl; seats = λ m. refl; mail = refl; places = refl })
      (names-from layout (suc more) (in_hand seen disk old) (in_hand seen disk (record old { names = names })) w w.traffic name
      (capability (full u)) h.world
      (subst (λ x. NamesStand names (after_command w (command.Hold name u) x)) its_event (after w h.world.names))) none (is ∙ its_event);
  agendas = h.agendas;
}
  where
    its_event : v ≡ event.Bound name true
    its_event = held-so w name u v (allowed w h.world.names)

pub hold-shown : (layout : Layout) (names : NameList) (name : List ℕ) (u : Uid) (v : Event) → IsAllowed names (command.Hold name u) v
    → shown_of v ≡ 0
hold-shown layout names name u v allowed = ap shown_of (held-so (world_of layout names) name u v (allowed (world_of layout names) (λ other.
    refl)))

pub restrict-carried : {T D : Type 0} (tells : Bool) (layout : Layout) (seen : T → Seen) (disk : D → DiskSeen) (old : Program T D)
    (names : NameList) (name : List ℕ) (target : Ref) (mask : _) (e : Entry) (v : Event)
    → IsAllowed old.names (command.Restrict name target mask) v → StandsAfter old.names names (command.Restrict name target mask) v
    → e.event ≡ v → TouchesNone e
    → CarriesBy tells layout seen disk old (record old { names = names }) (command.Restrict name target mask) e
restrict-carried tells layout seen disk old names name target mask e v allowed after is none more w reached h fit =
    go (restricted-so w name target mask v (allowed w h.world.names))
  where
    bound : (o : Option Cap) → cap_at w target ≡ o → IsTrue (is_some o) → v ≡ event.Bound name false
        → GoesOn layout seen disk old (record old { names = names }) more w (Some (command.Restrict name target mask)) e
    bound None at some its_event = absurd (cc some)
    bound (Some c) at some its_event = record {
      goes = restrict-goes layout more (in_hand seen disk old) (in_hand seen disk (record old { names = names })) w e name target mask c
          h.world at (record { types = refl; seats = λ m. refl; mail = refl; places = refl })
          (names-from layout (suc more) (in_hand seen disk old) (in_hand seen disk (record old { names = names })) w w.traffic name
          (capability (restricted c mask)) h.world
          (subst (λ o. NamesStand names (with_item o (λ c. with_mail w.traffic ((name, capability (restricted c mask)) ∷ w.names) w) w)) at
          (subst (λ x. NamesStand names (after_command w (command.Restrict name target mask) x)) its_event (after w h.world.names)))) none
          (is ∙ its_event);
      agendas = h.agendas;
    }

    go : ((v ≡ event.Bound name false) × IsTrue (is_some (cap_at w target))) ⊎ ((v ≡ event.Void name) × (cap_at w target ≡ None))
        → GoesOn layout seen disk old (record old { names = names }) more w (Some (command.Restrict name target mask)) e
    go (inl b) = bound (cap_at w target) refl b.1 b.0
    go (inr b) = record {
      goes = void-restrict-goes layout more (in_hand seen disk old) (in_hand seen disk (record old { names = names })) w e name target mask
          h.world b.1 (record { types = refl; seats = λ m. refl; mail = refl; places = refl })
          (λ other. sym (subst (λ x. NamesStand names (after_command w (command.Restrict name target mask) x)) b.0
          (after w h.world.names) other) ∙ h.world.names other) none (is ∙ b.0);
      agendas = h.agendas;
    }

pub restrict-shown : (layout : Layout) (names : NameList) (name : List ℕ) (target : Ref) (mask : _) (v : Event)
    → IsAllowed names (command.Restrict name target mask) v → shown_of v ≡ 0
restrict-shown layout names name target mask v allowed =
    go (restricted-so (world_of layout names) name target mask v (allowed (world_of layout names) (λ other. refl)))
  where
    go : ((v ≡ event.Bound name false) × IsTrue (is_some (cap_at (world_of layout names) target)))
        ⊎ ((v ≡ event.Void name) × (cap_at (world_of layout names) target ≡ None)) → shown_of v ≡ 0
    go (inl b) = ap shown_of b.0
    go (inr b) = ap shown_of b.0

-- 4. Calls

-- what the calls and the names tell of a call that was asked
pub record HasAsked {T D : Type 0} (old : Program T D) (calls : Mail) (names : NameList) (name copied : List ℕ) (target : Cap)
    (operation : List ℕ) (args : List Datum) (it : Asked) (e : Entry) : Type 0 where
  pub copy : copied ≡ name
  pub asks : Asks (Shell copied) target operation args old.places old.calls calls it
  pub carries : (t : Traffic) → Carries old.calls t → Carries calls (with_call it.call (Shell copied) target operation args it.at_once t)
  pub stands : StandsAsked old.names names name it.call it.at_once
  pub is : e.event ≡ event.Asked it.call name it.at_once
  pub none : TouchesNone e

asks-now : {T D : Type 0} (seen : T → Seen) (disk : D → DiskSeen) (old : Program T D) (calls : Mail) (names : NameList)
    (name copied : List ℕ) (target : Cap) (operation : List ℕ) (args : List Datum) (it : Asked) (e : Entry) (t : Traffic)
    → HasAsked old calls names name copied target operation args it e → Carries old.calls t
    → AsksNow (in_hand seen disk old) (in_hand seen disk (record old { calls = calls; names = names })) name target operation args it.call
    it.at_once t
asks-now seen disk old calls names name copied target operation args it e t a carries = record {
  number = a.asks.number;
  refused = a.asks.at_once;
  carries = subst (λ n. Carries calls (with_call it.call (Shell n) target operation args it.at_once t)) a.copy (a.carries t carries);
}

asked-names : {T D : Type 0} (layout : Layout) (more : ℕ) (seen : T → Seen) (disk : D → DiskSeen) (old : Program T D) (calls : Mail)
    (names : NameList) (name copied : List ℕ) (target : Cap) (operation : List ℕ) (args : List Datum) (it : Asked) (e : Entry) (w : World)
    → HasAsked old calls names name copied target operation args it e → WorldStands layout more (in_hand seen disk old) w
    → Names name nothing (in_hand seen disk old) (in_hand seen disk (record old { calls = calls; names = names }))
asked-names layout more seen disk old calls names name copied target operation args it e w a stands =
    names-from layout more (in_hand seen disk old) (in_hand seen disk (record old { calls = calls; names = names })) w w.traffic name
    nothing
    stands (λ other. a.stands target operation args w stands.names other)

pub ask-calls : {T D : Type 0} (tells : Bool) (layout : Layout) (seen : T → Seen) (disk : D → DiskSeen) (old : Program T D) (calls : Mail)
    (names : NameList) (name copied : List ℕ) (target : Cap) (operation : List ℕ) (args : List Datum) (it : Asked) (e : Entry)
    → HasAsked old calls names name copied target operation args it e
    → CallsBy tells layout seen disk old (record old { calls = calls; names = names }) name target operation args e
ask-calls tells layout seen disk old calls names name copied target operation args it e a more w by given reached h ready = record {
  goes = call-goes layout more (in_hand seen disk old) (in_hand seen disk (record old { calls = calls; names = names })) w e name by
      operation
      given target args it.call it.at_once h.world ready (record { types = refl; seats = λ m. refl; mail = refl; places = refl })
      (asked-names layout (suc more) seen disk old calls names name copied target operation args it e w a h.world)
      (asks-now seen disk old calls names name copied target operation args it e w.traffic a h.world.calls) a.none a.is;
  agendas = h.agendas;
}

pub ask-walks : {T D : Type 0} (tells : Bool) (layout : Layout) (seen : T → Seen) (disk : D → DiskSeen) (old : Program T D) (calls : Mail)
    (names : NameList) (name copied : List ℕ) (target : Cap) (operation : List ℕ) (args : List Datum) (it : Asked) (e : Entry)
    → HasAsked old calls names name copied target operation args it e
    → WalksBy tells layout seen disk old (record old { calls = calls; names = names }) name target operation args e
ask-walks tells layout seen disk old calls names name copied target operation args it e a more w components reached h by given = record {
  goes = look-up-goes layout more (in_hand seen disk old) (in_hand seen disk (record old { calls = calls; names = names })) w e name target
      components it.call it.at_once h.world (record { types = refl; seats = λ m. refl; mail = refl; places = refl })
      (asked-names layout (suc more) seen disk old calls names name copied target operation args it e w a h.world)
      (subst (λ o. AsksNow (in_hand seen disk old) (in_hand seen disk (record old { calls = calls; names = names })) name target o
      (lookup_args components) it.call it.at_once w.traffic) by
      (subst (λ x. AsksNow (in_hand seen disk old) (in_hand seen disk (record old { calls = calls; names = names })) name target operation x
      it.call it.at_once w.traffic) given
      (asks-now seen disk old calls names name copied target operation args it e w.traffic a h.world.calls))) a.none a.is;
  agendas = h.agendas;
}

-- a call that is void
pub void-carried : {T D : Type 0} (tells : Bool) (layout : Layout) (seen : T → Seen) (disk : D → DiskSeen) (old : Program T D)
    (name copied : List ℕ) (target : Ref) (operation : List ℕ) (args : List Argument) (e : Entry)
    → ((w : World) → NamesStand old.names w → None ≡ ready_call w (command.Call name target operation args)) → copied ≡ name
    → e.event ≡ event.Void copied → TouchesNone e → CarriesBy tells layout seen disk old old (command.Call name target operation args) e
void-carried tells layout seen disk old name copied target operation args e unready copy is none more w reached h fit = record {
  goes = void-call-goes layout more (in_hand seen disk old) (in_hand seen disk old) w e name target operation args h.world
      (sym (unready w h.world.names)) (record { types = refl; seats = λ m. refl; mail = refl; places = refl }) (λ other. refl) none
      (is ∙ ap event.Void copy);
  agendas = h.agendas;
}

pub void-walked : {T D : Type 0} (tells : Bool) (layout : Layout) (seen : T → Seen) (disk : D → DiskSeen) (old : Program T D)
    (name copied component : List ℕ) (directory : Option Cap) (e : Entry) → directory ≡ None → copied ≡ name
    → e.event ≡ event.Void copied → TouchesNone e → LooksUpBy tells layout seen disk old old name directory component e
void-walked tells layout seen disk old name copied component directory e bare copy is none =
    subst (λ o. LooksUpBy tells layout seen disk old old name o component e) (sym bare) (λ more w reached h named text. record {
      goes = void-look-up-goes layout more (in_hand seen disk old) (in_hand seen disk old) w e name (component ∷ []) h.world
          (record { types = refl; seats = λ m. refl; mail = refl; places = refl }) (λ other. refl) none (is ∙ ap event.Void copy);
      agendas = h.agendas;
    })

-- 5. `end`

pub end-carried : {T D : Type 0} (tells : Bool) (layout : Layout) (seen : T → Seen) (disk : D → DiskSeen) (old : Program T D)
    (names : List (List ℕ)) (e : Entry) → ((w : World) → Carries old.calls w.traffic → names ≡ open_names w)
    → e.event ≡ event.Left names → TouchesNone e → CarriesBy tells layout seen disk old old command.End e
end-carried tells layout seen disk old names e left is none more w reached h fit = record {
  goes = left-goes layout more (in_hand seen disk old) (in_hand seen disk old) w e names h.world (left w h.world.calls)
      (record { types = refl; seats = λ m. refl; mail = refl; places = refl }) (λ other. refl) none is;
  agendas = h.agendas;
}

-- 6. A link is joined

pub join-carried : {T D : Type 0} (tells : Bool) (layout : Layout) (seen : T → Seen) (disk : D → DiskSeen) (old : Program T D)
    (places : Stations) (a b : ℕ) (e : Entry) → ((x y : ℕ) → x ≤ 8 → y ≤ 8
    → joined_at places x y ≡ cond (same_link a b x y) true (joined_at old.places x y)) → places.up ≡ old.places.up
    → e.event ≡ event.Link a b true → TouchesNone e
    → CarriesBy tells layout seen disk old (record old { places = places }) (command.Join a b) e
join-carried tells layout seen disk old places a b e joined same is none more w reached h fit = record {
  goes = join-goes layout more (in_hand seen disk old) (in_hand seen disk (record old { places = places })) w e a b h.world (record {
    types = refl;
    seats = λ m. refl;
    mail = refl;
    ups = λ n. ap (λ us. not (n == 0) && slice_index_or us n false) same;
    joined = joined;
    names = λ name. refl;
  }) none is;
  agendas = h.agendas;
}

-- 7. A link is cut

pub cut-carried : {T D : Type 0} (tells : Bool) (layout : Layout) (seen : T → Seen) (disk : D → DiskSeen) (old new : Program T D)
    (a b : ℕ) (names : List (List ℕ)) (e : Entry) → (IsTrue tells → CutsAndTells layout seen disk a b names old new)
    → e.event ≡ event.Link a b false → EntryShows 0 0 names e → CarriesBy tells layout seen disk old new (command.Cut a b) e
cut-carried tells layout seen disk old new a b names e cuts is shows more w reached h fit = record {
  goes = cut-entry layout more (in_hand seen disk old) (cuts h.telling).between (in_hand seen disk new) w a b e (cuts h.telling).numbers
      names
      h.world reached.sites (cuts h.telling).cuts (cuts h.telling).told is shows;
  agendas = (cuts h.telling).agendas more None 0 0 (linked a b false w)
      (let y = first-node layout (suc more) (in_hand seen disk old) w h.world in
      cut-begins layout more (in_hand seen disk old) (cuts h.telling).between w a b (cuts h.telling).numbers h.world reached.sites
      (reached.sites 1 y.0 y.1).numbered (cuts h.telling).cuts) h.agendas;
}

pub cut-starved : {T D : Type 0} (tells : Bool) (layout : Layout) (seen : T → Seen) (disk : D → DiskSeen) (old new : Program T D)
    (c : Command) → SameDisks (in_hand seen disk old) (in_hand seen disk new) → Starves tells layout seen disk old new c
cut-starved tells layout seen disk old new c same more w reached h fit = ends-level layout (suc more) more (in_hand seen disk old)
    (in_hand seen disk new) w (omega arith) h.world same

-- 8. What starves a command

pub still-starves : {T D : Type 0} (tells : Bool) (layout : Layout) (seen : T → Seen) (disk : D → DiskSeen) (old new : Program T D)
    (c : Command) → EndsStill tells layout seen disk old new → Starves tells layout seen disk old new c
still-starves tells layout seen disk old new c still more w reached h fit = still more w h

pub starves-so : {T D : Type 0} (tells : Bool) (layout : Layout) (seen : T → Seen) (disk : D → DiskSeen) (old new : Program T D)
    (c : Command) → Starves tells layout seen disk old new c → Starves tells layout seen disk old new c
starves-so tells layout seen disk old new c starves more w reached h fit = starves more w reached h fit

-- 9. The same behind a call of another function

pub call-carried : {T D E : Type 0} (tells : Bool) (layout : Layout) (seen : T → Seen) (disk : D → DiskSeen) (old new : Program T D)
    (name : List ℕ) (target : Ref) (operation said : List ℕ) (args : List Argument) (by_held : Cap) (items : List Datum)
    (r : Result Entry E)
    → IfOk r (CallsBy tells layout seen disk old new name by_held said items) → said ≡ operation
    → ((w : World) → NamesStand old.names w → Some (by_held, items) ≡ ready_call w (command.Call name target operation args))
    → IfOk r (CarriesBy tells layout seen disk old new (command.Call name target operation args))
call-carried tells layout seen disk old new name target operation said args by_held items (Ok e) called same ready =
    λ more w reached h fit. subst (λ o. CallsBy tells layout seen disk old new name by_held o items e) same called more w target args
    reached
    h (sym (ready w h.world.names))
call-carried tells layout seen disk old new name target operation said args by_held items (Err why) called same ready = tt

pub walk-looked : {T D E : Type 0} (tells : Bool) (layout : Layout) (seen : T → Seen) (disk : D → DiskSeen) (old new : Program T D)
    (name component said : List ℕ) (directory : Option Cap) (by_held : Cap) (given : List Datum) (r : Result Entry E)
    → IfOk r (WalksBy tells layout seen disk old new name by_held said given) → directory ≡ Some by_held → said ≡ codes "LookUp"
    → given ≡ lookup_args (component ∷ []) → IfOk r (LooksUpBy tells layout seen disk old new name directory component)
walk-looked tells layout seen disk old new name component said directory by_held given (Ok e) walks is by args =
    subst (λ o. LooksUpBy tells layout seen disk old new name o component e) (sym is)
    (λ more w reached h named text. walks more w (component ∷ []) reached h by args)
walk-looked tells layout seen disk old new name component said directory by_held given (Err why) walks is by args = tt

pub err-so : {A E : Type 0} (r : Result A E) (P Q : Type 0) → (P → Q) → IfErr r (λ e. P) → IfErr r (λ e. Q)
err-so (Ok a) P Q f h = tt
err-so (Err e) P Q f h = f h

-- 10. A node crashes

pub up-here : {T D : Type 0} (seen : T → Seen) (disk : D → DiskSeen) (o : Option (Place T D)) (s : ScheduledNode T D) → station_in o
    ≡ Some s
    → seen_at seen disk o ≡ Some (up (held seen s.node))
up-here seen disk None s is = absurd (cc is)
up-here seen disk (Some (place.Up x)) s is = let same : x ≡ s = cc is in ap (λ (z : ScheduledNode _ _). Some (up (held seen z.node))) same
up-here seen disk (Some (place.Down d doubt)) s is = absurd (cc is)
up-here seen disk (Some place.Moving) s is = absurd (cc is)

pub clock-of-seat : (o : Option Seat) (d : DiskSeen) → option_map disk_of o ≡ Some d → clock_in o ≡ d.counts.clock
clock-of-seat None d is = absurd (cc is)
clock-of-seat (Some a) d is = let same : disk_of a ≡ d = cc is in ap (λ (x : DiskSeen). x.counts.clock) same

pub crash-carried : {T D : Type 0} (tells obeys : Bool) (layout : Layout) (seen : T → Seen) (disk : D → DiskSeen) (old new : Program T D)
    (n : ℕ) (mode : ImageMode) (s : ScheduledNode T D) (names : List (List ℕ)) (e : Entry) → station_at old n ≡ Some s → IsNumber n
    → (IsTrue tells → FallsAndTells tells obeys layout seen disk (Some mode) n s names old new)
    → e.event ≡ event.Crash n → EntryShows n (clock_in (seen_at seen disk (place_at new n))) names e
    → CarriesBy tells layout seen disk old new (command.Crash n mode) e
crash-carried tells obeys layout seen disk old new n mode s names e was number falls is shows more w reached h fit = record {
  goes = crash-entry layout more (in_hand seen disk old) f.between (in_hand seen disk new) w n mode e (held seen s.node) f.noted f.disk
      f.numbers names h.world reached.sites number f.fell (f.left.turn h.telling) (λ s clock. asleep-crashed clock s) f.told is (record {
        node = shows.node;
        clock = shows.clock ∙ clock-of-seat (seen_at seen disk (place_at new n)) f.disk (f.told.disks n ∙ ap (option_map disk_of)
            f.fell.seats.here);
        broken = shows.broken;
      });
  agendas = f.agendas more None n f.disk.counts.clock (stopped_at w n (event.Crash n))
      (crash-begins layout more (in_hand seen disk old) f.between w n (held seen s.node) f.noted f.disk f.numbers h.world reached.sites
      number
      f.fell (f.left.turn h.telling) (λ s clock. asleep-crashed clock s)) h.agendas;
}
  where
    f : FallsAndTells tells obeys layout seen disk (Some mode) n s names old new
    f = falls h.telling

pub crash-starved : {T D : Type 0} (tells obeys : Bool) (layout : Layout) (seen : T → Seen) (disk : D → DiskSeen) (old new : Program T D)
    (n : ℕ) (mode : ImageMode) (s : ScheduledNode T D) → station_at old n ≡ Some s → IsNumber n
    → Leaves tells obeys layout seen disk (Some mode) n s old new → Starves tells layout seen disk old new (command.Crash n mode)
crash-starved tells obeys layout seen disk old new n mode s was number l more w reached h fit = crash-starves layout more
    (in_hand seen disk old) l.between (in_hand seen disk new) w n (held seen s.node) l.noted l.disk h.world number
    (up-here seen disk (place_at old n) s was) (l.left.turn h.telling) l.seats l.disks

-- a node that is down, or none
not-up : (layout : Layout) (more : ℕ) (h : InHand) (w : World) (n : ℕ) (o : Option Seat) → WorldStands layout more h w
    → h.seats n ≡ o → ((a : Held) → o ≡ Some (up a) → ⊥) → node_up_at h.places n ≡ false
not-up layout more h w n o stands is none = stands.ups n ∙ at-node (node_at w n) refl
  where
    at-rest : (it : Node) (noted : Option Doubt) (d : DiskSeen) → DiskStands layout more (site_of w n it) noted d → it.up ≡ false
    at-rest it noted d (inl r) = r.2.is_down
    at-rest it noted d (inr b) = b.2.is_down

    go : (o : Option Seat) → ((a : Held) → o ≡ Some (up a) → ⊥) → (it : Node)
        → IsSomeAnd o (SeatStands layout h.types h.mail more (site_of w n it)) → it.up ≡ false
    go None none it x = absurd x
    go (Some (up a)) none it x = absurd (none a refl)
    go (Some (down noted d)) none it x = at-rest it noted d x.disk

    at-node : (p : Option Node) → node_at w n ≡ p → with_item (node_at w n) (λ (x : Node). x.up) false ≡ false
    at-node None at = ap (λ p. with_item p (λ (x : Node). x.up) false) at
    at-node (Some it) at = ap (λ p. with_item p (λ (x : Node). x.up) false) at
        ∙ go o none it (subst (λ p. IsSomeAnd p (SeatStands layout h.types h.mail more (site_of w n it))) is (stands.nodes n it at))

pub crash-still : {T D : Type 0} (tells : Bool) (layout : Layout) (seen : T → Seen) (disk : D → DiskSeen) (old : Program T D) (n : ℕ)
    (mode : ImageMode) (e : Entry) → (IsNumber n → station_at old n ≡ None) → e.event ≡ event.Still n false → TouchesNone e
    → CarriesBy tells layout seen disk old old (command.Crash n mode) e
crash-still tells layout seen disk old n mode e off is none more w reached h fit = record {
  goes = still-down-goes layout more (in_hand seen disk old) (in_hand seen disk old) w e n mode h.world
      (not-up layout (suc more) (in_hand seen disk old) w n (seen_at seen disk (place_at old n)) h.world refl
      (λ a there. seat-off (place_at old n) (off number) a there))
      (record { types = refl; seats = λ m. refl; mail = refl; places = refl }) (λ other. refl) none is;
  agendas = h.agendas;
}
  where
    number : IsNumber n
    number = record { first = fit.fit.numbers.0.0; last = omega (arith, fit.fit.numbers.0.1, fit.few) }

    seat-off : (o : Option (Place _ _)) → station_in o ≡ None → (a : Held) → seen_at seen disk o ≡ Some (up a) → ⊥
    seat-off None is a there = cc there
    seat-off (Some (place.Up s)) is a there = cc is
    seat-off (Some (place.Down d doubt)) is a there = let same : Some (down doubt (disk d)) ≡ Some (up a) = there in cc same
    seat-off (Some place.Moving) is a there = cc there

-- 11. A node is up already

pub restart-still : {T D : Type 0} (tells : Bool) (layout : Layout) (seen : T → Seen) (disk : D → DiskSeen) (old : Program T D) (n : ℕ)
    (s : ScheduledNode T D) (e : Entry) → station_at old n ≡ Some s → e.event ≡ event.Still n true → TouchesNone e
    → CarriesBy tells layout seen disk old old (command.Restart n) e
restart-still tells layout seen disk old n s e was is none more w reached h fit = record {
  goes = still-up-goes layout more (in_hand seen disk old) (in_hand seen disk old) w e n h.world
      (h.world.ups n ∙ ap (λ p. with_item p (λ (x : Node). x.up) false) here.at ∙ here.stands.stands.disk.up)
      (record { types = refl; seats = λ m. refl; mail = refl; places = refl }) (λ other. refl) none is;
  agendas = h.agendas;
}
  where
    here : IsUp layout (suc more) (in_hand seen disk old) w n (held seen s.node)
    here = is-up layout (suc more) (in_hand seen disk old) w n (held seen s.node) h.world (up-here seen disk (place_at old n) s was)
