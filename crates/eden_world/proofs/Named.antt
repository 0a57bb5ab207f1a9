-- Entries that change no node: names stand for something else, and the shell's calls go on.
use Rattle.std.proofs.Common.{◌≡◌, ℕ, suc, ◌+◌, Bool, true, false, cond, List, ◌∷◌, length, Option, None, Some, is_some}
use Rattle.std.proofs.Common.{refl, sym}
use Rattle.std.proofs.Common.{◌∙◌, ap, subst, arith}
use Rattle.std.specs.Prelude.{IsSomeAnd, codes}
use Rattle.std.specs.List.{find}
use Rattle.capability.specs.declared.Uid.{Uid}
use Rattle.capability.specs.declared.Cap.{Cap}
use Rattle.capability.specs.Capability.{full, restricted}
use Rattle.eden_value.specs.Datum.{Datum}
use Rattle.eden_value.specs.declared.status.Status.{Status}
use Rattle.std.specs.Option.{option_map}
use Rattle.eden_model.specs.Map.{with_item, same_text}
use Rattle.eden_model.specs.Traffic.{Traffic, Call, answered, call_at, with_call, shell_name}
use Rattle.eden_model.specs.declared.Asker.TheVariants.{Shell}
use Rattle.invocation.specs.declared.call.Call.{Call as Held}
use Rattle.invocation.specs.Mail.{Mail}
use Rattle.invocation.specs.Numbers.{item_in}
use Rattle.invocation.specs.Carries.{Carries, CarriesDelivery}
use Rattle.invocation.specs.declared.call.Delivery.TheVariants.{Reply}
use Rattle.invocation.proofs.CarriesLaws.{FoundCall, found-call, next-number, next-is-none}
use Rattle.locator.specs.Reach.{reaches as reached, node_up_at}
use Rattle.passive_store.specs.Kept.{Layout}
use Rattle.journal.specs.declared.command.Command.{Command}
use Rattle.journal.specs.declared.command.Command.TheVariants as command
use Rattle.journal.specs.declared.command.Ref.{Ref}
use Rattle.journal.specs.Argument.{Argument}
use Rattle.journal.specs.declared.event.Event.TheVariants as event
use Rattle.journal.specs.declared.event.Entry.{Entry}
use Rattle.journal.specs.Commands.{AllowsAsked, ready_call, asked, open_names}
use Rattle.journal.specs.Deliveries.{received, meaning_of_reply}
use Rattle.journal.specs.Processes.{refused_at_once}
use Rattle.journal.specs.References.{meaning_of, with_name, cap_at}
use Rattle.journal.specs.Run.{AllowsLookUp, lookup_args, looked_up}
use Rattle.journal.specs.Step.{AllowsEvent, ClockFits, StoreClock, breaks, clocked, counted, happened, key_of, next, touched}
use Rattle.journal.specs.World.{World, Meaning, capability, nothing, node_at}
use Rattle.ejects.proofs.KeptClasses.{Keeps}
use Rattle.ejects.proofs.Keeping.{keeps-same, keeps-both, keeps-taken, keeps-changed, keeps-with_call}
use Rattle.eden_world.specs.Worlds.{InHand, WorldStands}
use Rattle.eden_world.specs.Steps.{TakesMail, TakesNames, SameNames, Names, TouchesNone, Goes, LooksUp, step_by}
use Rattle.eden_world.proofs.InWorld.{with_mail, mail-in-world, counted-stands, reach-of}
use Rattle.eden_world.proofs.Disks.{no-disk}
use Rattle.eden_world.proofs.TurnEntries.{no-names}

-- 1. An entry that leaves all nodes

itself : (later : Mail) (old new : InHand) → TakesMail later old new → TakesMail new.mail old new
itself later old new t = record { types = t.types; seats = t.seats; mail = refl; places = t.places }

pub unmoved-goes : (layout : Layout) (more : ℕ) (old new : InHand) (w : World) (c : Option Command) (e : Entry) (t : Traffic)
    (names : List (List ℕ × Meaning)) → WorldStands layout (suc more) old w → happened w c e.event ≡ with_mail t names w
    → TakesMail new.mail old new → Keeps w.traffic t → Carries new.mail t
    → ((name : List ℕ) → meaning_of (with_mail t names w) name ≡ new.names name) → TouchesNone e → AllowsEvent w c e.event
    → touched w e.event ≡ 0 → ((k : Call) → breaks e.event k ≡ false) → StoreClock w e.event e.clock → Goes layout more w c e old new
unmoved-goes layout more old new w c e t names stands happens takes keeps carries named entry allowed touches unbroken clock = record {
  allowed = record {
    event = allowed;
    broken = entry.broken ∙ no-names (breaks e.event) w.traffic unbroken;
    disk = entry.disk ∙ sym touches;
    clock = subst (λ m. ClockFits w m e.clock) (sym entry.disk) entry.clock;
    store_clock = clock;
  };
  stands = subst (WorldStands layout more new) (sym next_is) (counted-stands layout more new (with_mail t names w) (key_of e.event)
      (mail-in-world layout more old new w t names stands takes keeps carries named));
  disks = no-disk layout (suc more) old new (step_by w c e) stands takes.seats entry.disk (λ m. ap (λ v. node_at v m) next_is
      ∙ nodes-counted m);
}
  where
    next_is : next w c e ≡ counted (key_of e.event) (with_mail t names w)
    next_is = ap (λ v. counted (key_of e.event) (clocked e.node e.clock v)) happens
        ∙ ap (λ m. counted (key_of e.event) (clocked m e.clock (with_mail t names w))) entry.disk

    nodes-counted : (m : ℕ) → node_at (counted (key_of e.event) (with_mail t names w)) m ≡ node_at w m
    nodes-counted m = go (key_of e.event)
      where
        go : (k : _) → node_at (counted k (with_mail t names w)) m ≡ node_at w m
        go None = refl
        go (Some k) = refl

-- 2. Names

pub newest : (name : List ℕ) (m : Meaning) (w : World) (t : Traffic) (other : List ℕ)
    → meaning_of (with_mail t ((name, m) ∷ w.names) w) other ≡ cond (same_text name other) (Some m) (meaning_of w other)
newest name m w t other = go (same_text name other)
  where
    go : (b : Bool) → with_item (cond b (Some (name, m)) (find (λ e. same_text e.0 other) w.names)) (λ e. Some e.1) None
        ≡ cond b (Some m) (with_item (find (λ e. same_text e.0 other) w.names) (λ e. Some e.1) None)
    go true = refl
    go false = refl

named-so : (layout : Layout) (more : ℕ) (old new : InHand) (w : World) (t : Traffic) (name : List ℕ) (m : Meaning)
    → WorldStands layout more old w → Names name m old new → (other : List ℕ)
    → meaning_of (with_mail t ((name, m) ∷ w.names) w) other ≡ new.names other
named-so layout more old new w t name m stands names other = newest name m w t other
    ∙ ap (λ o. cond (same_text name other) (Some m) o) (stands.names other) ∙ sym (names other)

taken-names : (old new : InHand) → TakesNames old new → TakesMail new.mail old new
taken-names old new t = record { types = t.types; seats = t.seats; mail = refl; places = t.places }

same-mail : (layout : Layout) (more : ℕ) (old new : InHand) (w : World) → WorldStands layout more old w → new.mail ≡ old.mail
    → Carries new.mail w.traffic
same-mail layout more old new w stands same = subst (λ m. Carries m w.traffic) (sym same) stands.calls

-- nothing changes
nothing-goes : (layout : Layout) (more : ℕ) (old new : InHand) (w : World) (c : Option Command) (e : Entry)
    → WorldStands layout (suc more) old w → happened w c e.event ≡ w → TakesNames old new → SameNames old new → TouchesNone e
    → AllowsEvent w c e.event → touched w e.event ≡ 0 → ((k : Call) → breaks e.event k ≡ false) → StoreClock w e.event e.clock
    → Goes layout more w c e old new
nothing-goes layout more old new w c e stands happens takes names entry allowed touches unbroken clock =
    unmoved-goes layout more old new w c e w.traffic w.names stands happens (taken-names old new takes)
    (keeps-same w.traffic w.traffic refl) (same-mail layout (suc more) old new w stands takes.mail)
    (λ name. stands.names name ∙ sym (names name)) entry allowed touches unbroken clock

-- a name stands for something
pub name-goes : (layout : Layout) (more : ℕ) (old new : InHand) (w : World) (c : Option Command) (e : Entry) (name : List ℕ) (m : Meaning)
    → WorldStands layout (suc more) old w → happened w c e.event ≡ with_name name m w → TakesNames old new → Names name m old new
    → TouchesNone e → AllowsEvent w c e.event → touched w e.event ≡ 0 → ((k : Call) → breaks e.event k ≡ false)
    → StoreClock w e.event e.clock → Goes layout more w c e old new
name-goes layout more old new w c e name m stands happens takes names entry allowed touches unbroken clock =
    unmoved-goes layout more old new w c e w.traffic ((name, m) ∷ w.names) stands happens (taken-names old new takes)
    (keeps-same w.traffic w.traffic refl) (same-mail layout (suc more) old new w stands takes.mail)
    (named-so layout (suc more) old new w w.traffic name m stands names) entry allowed touches unbroken clock

-- 3. Commands on names

pub hold-goes : (layout : Layout) (more : ℕ) (old new : InHand) (w : World) (e : Entry) (name : List ℕ) (u : Uid)
    → WorldStands layout (suc more) old w → TakesNames old new → Names name (capability (full u)) old new → TouchesNone e
    → e.event ≡ event.Bound name true → Goes layout more w (Some (command.Hold name u)) e old new
hold-goes layout more old new w e name u stands takes names entry is =
    name-goes layout more old new w (Some (command.Hold name u)) e name (capability (full u)) stands
    (ap (happened w (Some (command.Hold name u))) is) takes names entry
    (subst (AllowsEvent w (Some (command.Hold name u))) (sym is) (refl, refl)) (ap (touched w) is) (λ k. ap (λ v. breaks v k) is)
    (subst (λ v. StoreClock w v e.clock) (sym is) tt)

pub restrict-goes : (layout : Layout) (more : ℕ) (old new : InHand) (w : World) (e : Entry) (name : List ℕ) (target : Ref) (mask : _)
    (c : Cap)
    → WorldStands layout (suc more) old w → cap_at w target ≡ Some c → TakesNames old new
    → Names name (capability (restricted c mask)) old new → TouchesNone e → e.event ≡ event.Bound name false
    → Goes layout more w (Some (command.Restrict name target mask)) e old new
restrict-goes layout more old new w e name target mask c stands at takes names entry is =
    name-goes layout more old new w (Some (command.Restrict name target mask)) e name (capability (restricted c mask)) stands
    (ap (happened w (Some (command.Restrict name target mask))) is
    ∙ ap (λ o. with_item o (λ c. with_name name (capability (restricted c mask)) w) w) at) takes names entry
    (subst (AllowsEvent w (Some (command.Restrict name target mask))) (sym is)
    (refl, refl, ap is_some at)) (ap (touched w) is) (λ k. ap (λ v. breaks v k) is)
    (subst (λ v. StoreClock w v e.clock) (sym is) tt)

-- what a command names has no value
pub void-restrict-goes : (layout : Layout) (more : ℕ) (old new : InHand) (w : World) (e : Entry) (name : List ℕ) (target : Ref) (mask : _)
    → WorldStands layout (suc more) old w → cap_at w target ≡ None → TakesNames old new → SameNames old new → TouchesNone e
    → e.event ≡ event.Void name → Goes layout more w (Some (command.Restrict name target mask)) e old new
void-restrict-goes layout more old new w e name target mask stands none takes names entry is =
    nothing-goes layout more old new w (Some (command.Restrict name target mask)) e stands
    (ap (happened w (Some (command.Restrict name target mask))) is) takes names entry
    (subst (AllowsEvent w (Some (command.Restrict name target mask))) (sym is) (refl, none)) (ap (touched w) is)
    (λ k. ap (λ v. breaks v k) is) (subst (λ v. StoreClock w v e.clock) (sym is) tt)

pub void-call-goes : (layout : Layout) (more : ℕ) (old new : InHand) (w : World) (e : Entry) (name : List ℕ) (target : Ref)
    (operation : List ℕ) (args : List Argument) → WorldStands layout (suc more) old w
    → ready_call w (command.Call name target operation args) ≡ None → TakesNames old new → SameNames old new → TouchesNone e
    → e.event ≡ event.Void name → Goes layout more w (Some (command.Call name target operation args)) e old new
void-call-goes layout more old new w e name target operation args stands none takes names entry is =
    nothing-goes layout more old new w (Some (command.Call name target operation args)) e stands
    (ap (happened w (Some (command.Call name target operation args))) is) takes names entry
    (subst (AllowsEvent w (Some (command.Call name target operation args))) (sym is) (refl, none)) (ap (touched w) is)
    (λ k. ap (λ v. breaks v k) is) (subst (λ v. StoreClock w v e.clock) (sym is) tt)

-- 4. Entries of nothing

-- a crash of a node that is down, a restart of one that is up
pub still-down-goes : (layout : Layout) (more : ℕ) (old new : InHand) (w : World) (e : Entry) (n : ℕ) (mode : _)
    → WorldStands layout (suc more) old w → node_up_at old.places n ≡ false → TakesNames old new → SameNames old new → TouchesNone e
    → e.event ≡ event.Still n false → Goes layout more w (Some (command.Crash n mode)) e old new
still-down-goes layout more old new w e n mode stands down takes names entry is =
    nothing-goes layout more old new w (Some (command.Crash n mode)) e stands (ap (happened w (Some (command.Crash n mode))) is) takes names
    entry (subst (AllowsEvent w (Some (command.Crash n mode))) (sym is) (refl, refl, sym (stands.ups n) ∙ down)) (ap (touched w) is)
    (λ k. ap (λ v. breaks v k) is) (subst (λ v. StoreClock w v e.clock) (sym is) tt)

pub still-up-goes : (layout : Layout) (more : ℕ) (old new : InHand) (w : World) (e : Entry) (n : ℕ)
    → WorldStands layout (suc more) old w → node_up_at old.places n ≡ true → TakesNames old new → SameNames old new → TouchesNone e
    → e.event ≡ event.Still n true → Goes layout more w (Some (command.Restart n)) e old new
still-up-goes layout more old new w e n stands up takes names entry is =
    nothing-goes layout more old new w (Some (command.Restart n)) e stands (ap (happened w (Some (command.Restart n))) is) takes names entry
    (subst (AllowsEvent w (Some (command.Restart n))) (sym is) (refl, refl, sym (stands.ups n) ∙ up)) (ap (touched w) is)
    (λ k. ap (λ v. breaks v k) is) (subst (λ v. StoreClock w v e.clock) (sym is) tt)

pub left-goes : (layout : Layout) (more : ℕ) (old new : InHand) (w : World) (e : Entry) (names : List (List ℕ))
    → WorldStands layout (suc more) old w → names ≡ open_names w → TakesNames old new → SameNames old new → TouchesNone e
    → e.event ≡ event.Left names → Goes layout more w (Some command.End) e old new
left-goes layout more old new w e names stands waited takes same entry is =
    nothing-goes layout more old new w (Some command.End) e stands (ap (happened w (Some command.End)) is) takes same entry
    (subst (AllowsEvent w (Some command.End)) (sym is) waited) (ap (touched w) is) (λ k. ap (λ v. breaks v k) is)
    (subst (λ v. StoreClock w v e.clock) (sym is) tt)

pub quiet-goes : (layout : Layout) (more : ℕ) (old new : InHand) (w : World) (e : Entry) → WorldStands layout (suc more) old w
    → TakesNames old new → SameNames old new → TouchesNone e → e.event ≡ event.Quiet → Goes layout more w None e old new
quiet-goes layout more old new w e stands takes same entry is =
    nothing-goes layout more old new w None e stands (ap (happened w None) is) takes same entry
    (subst (AllowsEvent w None) (sym is) tt) (ap (touched w) is) (λ k. ap (λ v. breaks v k) is)
    (subst (λ v. StoreClock w v e.clock) (sym is) tt)

pub spent-goes : (layout : Layout) (more : ℕ) (old new : InHand) (w : World) (e : Entry) → WorldStands layout (suc more) old w
    → TakesNames old new → SameNames old new → TouchesNone e → e.event ≡ event.Spent → Goes layout more w None e old new
spent-goes layout more old new w e stands takes same entry is =
    nothing-goes layout more old new w None e stands (ap (happened w None) is) takes same entry
    (subst (AllowsEvent w None) (sym is) tt) (ap (touched w) is) (λ k. ap (λ v. breaks v k) is)
    (subst (λ v. StoreClock w v e.clock) (sym is) tt)

-- 5. The shell's calls

-- what the calls in hand tell of a new one: its number, and why it is refused as it is sent
pub record AsksNow (old new : InHand) (name : List ℕ) (target : Cap) (operation : List ℕ) (args : List Datum) (k : ℕ)
    (at_once : Option Status) (t : Traffic) : Type 0 where
  pub number : k ≡ length old.mail.calls + 1
  pub refused : at_once ≡ refused_at_once (reached old.places 0 target.uid.node) args
  pub carries : Carries new.mail (with_call k (Shell name) target operation args at_once t)

asks-keeps : (old : InHand) (name : List ℕ) (target : Cap) (operation : List ℕ) (args : List Datum) (k : ℕ) (at_once : Option Status)
    (t : Traffic) → Carries old.mail t → k ≡ length old.mail.calls + 1 → Keeps t (with_call k (Shell name) target operation args at_once t)
asks-keeps old name target operation args k at_once t carries number = keeps-with_call k (Shell name) target operation args at_once t
    (ap (call_at t) (number ∙ sym (next-number old.mail t carries)) ∙ next-is-none old.mail t carries)

pub call-goes : (layout : Layout) (more : ℕ) (old new : InHand) (w : World) (e : Entry) (name : List ℕ) (target : Ref) (operation : List ℕ)
    (args : List Argument) (held : Cap) (values : List Datum) (k : ℕ) (at_once : Option Status) → WorldStands layout (suc more) old w
    → ready_call w (command.Call name target operation args) ≡ Some (held, values) → TakesMail new.mail old new
    → Names name nothing old new → AsksNow old new name held operation values k at_once w.traffic → TouchesNone e
    → e.event ≡ event.Asked k name at_once → Goes layout more w (Some (command.Call name target operation args)) e old new
call-goes layout more old new w e name target operation args held values k at_once stands ready takes names asks entry is =
    unmoved-goes layout more old new w (Some (command.Call name target operation args)) e
    (with_call k (Shell name) held operation values at_once w.traffic) ((name, nothing) ∷ w.names) stands
    (ap (happened w (Some (command.Call name target operation args))) is
    ∙ ap (λ o. with_item o (λ c. asked name c.0 operation c.1 k at_once w) w) ready) takes
    (asks-keeps old name held operation values k at_once w.traffic stands.calls asks.number) asks.carries
    (named-so layout (suc more) old new w (with_call k
    (Shell name) held operation values at_once w.traffic) name nothing stands names) entry
    (subst (AllowsEvent w (Some (command.Call name target operation args))) (sym is) (refl, asked_so)) (ap (touched w) is)
    (λ k. ap (λ v. breaks v k) is) (subst (λ v. StoreClock w v e.clock) (sym is) tt)
  where
    allowed_so : AllowsAsked w k at_once held values
    allowed_so = record {
      number = asks.number ∙ sym (next-number old.mail w.traffic stands.calls);
      refused = asks.refused ∙ sym (ap (λ b. refused_at_once b values) (reach-of layout (suc more) old w stands 0 held.uid.node
          (omega arith)));
    }

    asked_so : IsSomeAnd (ready_call w (command.Call name target operation args)) (λ c. AllowsAsked w k at_once c.0 c.1)
    asked_so = subst (λ o. IsSomeAnd o (λ c. AllowsAsked w k at_once c.0 c.1)) (sym ready) allowed_so

-- a reply to the shell closes its call, and its name stands for what came
pub heard-goes : (layout : Layout) (more : ℕ) (old new : InHand) (w : World) (e : Entry) (k a : ℕ) (name : List ℕ) (why : Status)
    (values : List Datum) (was_open : Bool) (process : _) (c : Held) → WorldStands layout (suc more) old w → TakesMail new.mail old new
    → item_in k old.mail.calls ≡ Some c → c.asker ≡ Shell name
    → CarriesDelivery a 0 (Some (Reply k why values was_open process)) new.mail w.traffic
    → ((other : List ℕ) → new.names other
    ≡ cond was_open (cond (same_text name other) (Some (meaning_of_reply why values)) (old.names other)) (old.names other))
    → TouchesNone e → e.event ≡ event.Reply k a 0 (Some name) why values → Goes layout more w None e old new
heard-goes layout more old new w e k a name why values was_open process c stands takes held asker delivers names entry is =
    unmoved-goes layout more old new w None e (received k w.traffic)
    (cond was_open ((name, meaning_of_reply why values) ∷ w.names) w.names) stands
    (ap (happened w None) is ∙ ap (λ b. record w {
      traffic = received k w.traffic;
      names = cond b ((name, meaning_of_reply why values) ∷ w.names) w.names;
    }) open_is) takes keeps delivers.3 named entry
    (subst (AllowsEvent w None) (sym is) (record { first_in_queue = delivers.0; delivered = delivered_is }))
    (ap (touched w) is) (λ k. ap (λ v. breaks v k) is) (subst (λ v. StoreClock w v e.clock) (sym is) tt)
  where
    found : FoundCall c (call_at w.traffic k)
    found = found-call old.mail w.traffic stands.calls k c held

    keeps : Keeps w.traffic (received k w.traffic)
    keeps = keeps-both w.traffic _ (received k w.traffic) (keeps-taken k w.traffic) (keeps-changed k _ _ (λ d. refl))

    place_is : found.call.place ≡ answered why values
    place_is = let e : Some found.call.place ≡ Some (answered why values) =
        sym (ap (option_map (λ (d : Call). d.place)) found.is) ∙ delivers.1 in cc e

    asked_is : found.call.open_ ≡ was_open
    asked_is = let e : Some found.call.open_ ≡ Some was_open =
        sym (ap (option_map (λ (d : Call). d.open_)) found.is) ∙ delivers.2.0 in cc e

    open_is : with_item (call_at w.traffic k) (λ d. d.open_) false ≡ was_open
    open_is = ap (λ o. with_item o (λ (d : Call). d.open_) false) found.is ∙ asked_is

    delivered_is : IsSomeAnd (call_at w.traffic k) (λ d. (d.place ≡ answered why values) × (Some name ≡ shell_name d.asker))
    delivered_is = subst (λ o. IsSomeAnd o (λ d. (d.place ≡ answered why values) × (Some name ≡ shell_name d.asker))) (sym found.is)
        (place_is, sym (ap shell_name (found.same.asker ∙ asker)))

    named : (other : List ℕ) → meaning_of (with_mail (received k w.traffic) (cond was_open ((name, meaning_of_reply why values) ∷ w.names)
        w.names) w) other ≡ new.names other
    named other = go was_open ∙ sym (names other)
      where
        go : (b : Bool) → meaning_of (with_mail (received k w.traffic) (cond b
            ((name, meaning_of_reply why values) ∷ w.names) w.names) w) other
            ≡ cond b (cond (same_text name other) (Some (meaning_of_reply why values)) (old.names other)) (old.names other)
        go true = newest name (meaning_of_reply why values) w (received k w.traffic) other
            ∙ ap (λ o. cond (same_text name other) (Some (meaning_of_reply why values)) o) (stands.names other)
        go false = stands.names other

-- the call of a walk
pub look-up-goes : (layout : Layout) (more : ℕ) (old new : InHand) (w : World) (e : Entry) (name : List ℕ) (target : Cap)
    (components : List (List ℕ)) (k : ℕ) (at_once : Option Status) → WorldStands layout (suc more) old w → TakesMail new.mail old new
    → Names name nothing old new → AsksNow old new name target (codes "LookUp") (lookup_args components) k at_once w.traffic → TouchesNone e
    → e.event ≡ event.Asked k name at_once → LooksUp layout more w name (Some target) components e old new
look-up-goes layout more old new w e name target components k at_once stands takes names asks entry is = record {
  allowed = subst (AllowsLookUp w name (Some target) components) (sym is) (
    refl,
    record {
      number = asks.number ∙ sym (next-number old.mail w.traffic stands.calls);
      refused = asks.refused ∙ sym (ap (λ b. refused_at_once b (lookup_args components))
          (reach-of layout (suc more) old w stands 0 target.uid.node (omega arith)));
    },
  );
  plain = record { disk = entry.disk; clock = entry.clock; broken = entry.broken };
  stands = subst (WorldStands layout more new) (sym later_is) (mail-in-world layout more old new w traffic
      ((name, nothing) ∷ w.names) stands
      takes (asks-keeps old name target (codes "LookUp") (lookup_args components) k at_once w.traffic stands.calls asks.number) asks.carries
      (named-so layout (suc more) old new w traffic name nothing stands names));
  disks = no-disk layout (suc more) old new
      (record { world = w; entry = e; later = looked_up w name (Some target) components e.event }) stands takes.seats entry.disk
      (λ m. ap (λ v. node_at v m) later_is);
}
  where
    traffic : Traffic
    traffic = with_call k (Shell name) target (codes "LookUp") (lookup_args components) at_once w.traffic

    later_is : looked_up w name (Some target) components e.event ≡ with_mail traffic ((name, nothing) ∷ w.names) w
    later_is = ap (looked_up w name (Some target) components) is

-- a walk that has no directory is void
pub void-look-up-goes : (layout : Layout) (more : ℕ) (old new : InHand) (w : World) (e : Entry) (name : List ℕ)
    (components : List (List ℕ)) → WorldStands layout (suc more) old w → TakesNames old new → SameNames old new → TouchesNone e
    → e.event ≡ event.Void name → LooksUp layout more w name None components e old new
void-look-up-goes layout more old new w e name components stands takes names entry is = record {
  allowed = subst (AllowsLookUp w name None components) (sym is) refl;
  plain = record { disk = entry.disk; clock = entry.clock; broken = entry.broken };
  stands = subst (WorldStands layout more new) (sym later_is) (mail-in-world layout more old new w w.traffic w.names stands
      (taken-names old new takes) (keeps-same w.traffic w.traffic refl) (same-mail layout (suc more) old new w stands takes.mail)
      (λ other. stands.names other ∙ sym (names other)));
  disks = no-disk layout (suc more) old new (record { world = w; entry = e; later = looked_up w name None components e.event }) stands
      takes.seats entry.disk (λ m. ap (λ v. node_at v m) later_is);
}
  where
    later_is : looked_up w name None components e.event ≡ w
    later_is = ap (looked_up w name None components) is
