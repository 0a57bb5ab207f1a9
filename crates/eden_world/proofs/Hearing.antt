-- A reply is delivered to the shell: who asked its call, what its name stands for then, and what is in hand.
use Rattle.std.proofs.Common.{◌≡◌, ℕ, Bool, true, false, cond, List, [], ◌∷◌, Option, None, Some, is_some, refl, sym, ◌∙◌, ap, subst}
use Rattle.std.specs.Prelude.{IsSomeAnd}
use Rattle.std.specs.List.{Contains}
use Rattle.std.specs.Option.{option_map}
use Rattle.eden_value.specs.Datum.{Datum}
use Rattle.eden_value.specs.declared.status.Status.{Status}
use Rattle.eden_model.specs.Map.{with_item, same_text, first}
use Rattle.eden_model.specs.Traffic.{Traffic, Call as Made, call_at}
use Rattle.eden_model.specs.declared.Asker.{Asker}
use Rattle.eden_model.specs.declared.Asker.TheVariants.{Shell, Eject as Process}
use Rattle.invocation.specs.Carries.{Carries, CarriesDelivery}
use Rattle.invocation.specs.Mail.{Mail, Delivers, DeliversFirst, number_of, queue_at}
use Rattle.invocation.specs.Numbers.{item_in}
use Rattle.invocation.specs.declared.call.Call.{Call}
use Rattle.invocation.specs.declared.call.Delivery.{Delivery}
use Rattle.invocation.specs.declared.call.Delivery.TheVariants as delivery
use Rattle.invocation.specs.declared.call.Message.{Message}
use Rattle.invocation.specs.declared.call.Message.TheVariants as message
use Rattle.passive_store.specs.Kept.{Layout}
use Rattle.passive_store.specs.Seen.{Seen, DiskSeen}
use Rattle.journal.specs.declared.event.Entry.{Entry}
use Rattle.journal.specs.declared.event.Event.TheVariants as event
use Rattle.journal.specs.Deliveries.{received, meaning_of_reply}
use Rattle.journal.specs.Enabled.{enabled, delivery as key_of_delivery}
use Rattle.journal.specs.declared.event.Key.{Key}
use Rattle.journal.specs.References.{meaning_of}
use Rattle.journal.specs.Run.{is_open_call}
use Rattle.journal.specs.Step.{key_of}
use Rattle.journal.specs.World.{World}
use Rattle.shell_names.specs.Events.{StandsHeard}
use Rattle.shell_names.specs.Names.{Names, NamesStand, meanings}
use Rattle.eden_world.specs.Breaking.{waiter_at, name_by, waiter_by}
use Rattle.eden_world.specs.InHand.{seen_at, in_hand, HaveAgendas}
use Rattle.eden_world.specs.Listed.{is_for_shell, shell_hears}
use Rattle.eden_world.specs.Steps.{TouchesNone}
use Rattle.eden_world.specs.Taken.{Takes, TakesAtEach, StarvesAtEach}
use Rattle.eden_world.specs.declared.World.{World as Program}
use Rattle.eden_world.specs.declared.breaks.Waiter.TheVariants as waits
use Rattle.eden_world.proofs.EnabledKeys.{shell-key}
use Rattle.eden_world.proofs.InWorld.{with_mail}
use Rattle.eden_world.proofs.Named.{heard-goes, newest}
use Rattle.eden_world.proofs.Placing.{same-places}

-- 1. The call

-- the message that was delivered is the one that was first
pub delivered-number : (a b : ℕ) (old new : Mail) (x : Message) (k : ℕ) (why : Status) (values : List Datum) (was_open : Bool)
    (process : _) → Some x ≡ first (queue_at a b old) → Delivers a b old (Some (delivery.Reply k why values was_open process)) new
    → k ≡ number_of x
delivered-number a b old new x k why values was_open process next delivers = go (queue_at a b old) next delivers
  where
    go : (ms : List Message) → Some x ≡ first ms → DeliversFirst a b ms old (Some (delivery.Reply k why values was_open process)) new
        → k ≡ number_of x
    go [] is h = absurd (cc is)
    go (message.Request i ∷ ms) is h = absurd (let bad : Some (delivery.Reply k why values was_open process)
        ≡ Some (delivery.Request i) = h.0 in cc bad)
    go (message.Reply i s results ∷ ms) is h =
        let same : k ≡ i = replied h.0 in
        let here : x ≡ message.Reply i s results = cc is in
        same ∙ sym (ap number_of here)
      where
        replied : {o : Bool} {p : _} → Some (delivery.Reply k why values was_open process) ≡ Some (delivery.Reply i s results o p) → k ≡ i
        replied e = cc e

-- the shell asked it under this name
pub record ByShell (m : Mail) (k : ℕ) (name : List ℕ) : Type 0 where
  pub call : Call
  pub is : item_in k m.calls ≡ Some call
  pub asker : call.asker ≡ Shell name

pub by-shell : (m : Mail) (k : ℕ) (name : List ℕ) → Some name ≡ name_by (waiter_at m k) → ByShell m k name
by-shell m k name is = go (item_in k m.calls) refl is
  where
    named : (c : Call) (a : Asker) → c.asker ≡ a → item_in k m.calls ≡ Some c → Some name ≡ name_by (waiter_by a) → ByShell m k name
    named c (Shell other) asker at same = record {
      call = c;
      is = at;
      asker = asker ∙ (let e : name ≡ other = cc same in ap Shell (sym e));
    }
    named c (Process u p) asker at same = absurd (cc same)

    go : (o : Option Call) → item_in k m.calls ≡ o → Some name ≡ name_by (with_item o (λ c. waiter_by c.asker) waits.Nobody)
        → ByShell m k name
    go None at same = absurd (cc same)
    go (Some c) at same = named c c.asker refl at same

-- where the shell hears a message, it is first on its way, it is of a call that has a name, and it arrives as a reply
pub record IsHeard (a : ℕ) (m : Mail) : Type 0 where
  pub number : ℕ
  pub status : Status
  pub results : List Datum
  pub is_first : first (queue_at a 0 m) ≡ Some (message.Reply number status results)
  pub named : is_some (name_by (waiter_at m number)) ≡ true

pub heard-by : (a : ℕ) (m : Mail) → shell_hears a m ≡ true → IsHeard a m
heard-by a m is = go (first (queue_at a 0 m)) refl is
  where
    go : (o : Option Message) → first (queue_at a 0 m) ≡ o → with_item o (is_for_shell m) false ≡ true → IsHeard a m
    go None at is = absurd (cc is)
    go (Some (message.Request k)) at is = absurd (cc is)
    go (Some (message.Reply k s results)) at is = record { number = k; status = s; results = results; is_first = at; named = is }

pub comes-first : (a : ℕ) (m : Mail) → shell_hears a m ≡ true → None ≡ first (queue_at a 0 m) → ⊥
comes-first a m is none = let h = heard-by a m is in let bad : None ≡ Some (message.Reply h.number h.status h.results) =
    none ∙ h.is_first in cc bad

pub has-name : (a : ℕ) (m : Mail) (y : Message) → shell_hears a m ≡ true → Some y ≡ first (queue_at a 0 m)
    → None ≡ name_by (waiter_at m (number_of y)) → ⊥
has-name a m y is next none =
    let h = heard-by a m is in
    let here : y ≡ message.Reply h.number h.status h.results = (let e : Some y ≡ Some (message.Reply h.number h.status h.results) =
    next ∙ h.is_first in cc e) in
    let bad : false ≡ true = ap is_some none ∙ ap (λ z. is_some (name_by (waiter_at m (number_of z)))) here ∙ h.named in cc bad

abbrev pub IsReply : Delivery → Type 0
IsReply (delivery.Request k) = ⊥
IsReply (delivery.Reply k s results was_open process) = Unit {0}

pub arrives-as : (a : ℕ) (m new : Mail) (r : Option Delivery) → shell_hears a m ≡ true → Delivers a 0 m r new → IsSomeAnd r IsReply
arrives-as a m new r is delivers = let h = heard-by a m is in go (queue_at a 0 m) delivers h h.is_first
  where
    go : (ms : List Message) → DeliversFirst a 0 ms m r new → (h : IsHeard a m)
        → first ms ≡ Some (message.Reply h.number h.status h.results) → IsSomeAnd r IsReply
    go [] came h is = absurd (cc is)
    go (message.Request i ∷ ms) came h is = absurd (let bad : Some (message.Request i)
        ≡ Some (message.Reply h.number h.status h.results) = is in cc bad)
    go (message.Reply i s results ∷ ms) came h is = rw came.0 tt

-- 2. What names stand for behind it

-- `is_open_call` of the world is what the delivery told
open-call : (w : World) (k : ℕ) (was_open : Bool) → option_map (λ (c : Made). c.open_) (call_at w.traffic k) ≡ Some was_open
    → is_open_call w k ≡ was_open
open-call w k was_open is = go (call_at w.traffic k) is
  where
    go : (o : Option Made) → option_map (λ (c : Made). c.open_) o ≡ Some was_open → with_item o (λ c. c.open_) false ≡ was_open
    go None h = absurd (cc h)
    go (Some c) h = cc h

pub heard-names : (old new : Names) (name : List ℕ) (why : Status) (values : List Datum) (was_open : Bool) (k : ℕ) (w : World)
    → StandsHeard old new name why values was_open → NamesStand old w → is_open_call w k ≡ was_open → (other : List ℕ)
    → meanings new other ≡ cond was_open (cond (same_text name other) (Some (meaning_of_reply why values)) (meanings old other))
    (meanings old other)
heard-names old new name why values was_open k w stands named opened other =
    sym (stands k w named opened other) ∙ ap (λ b. meaning_of (record w {
      traffic = received k w.traffic;
      names = cond b ((name, meaning_of_reply why values) ∷ w.names) w.names;
    }) other) opened ∙ go was_open
  where
    go : (b : Bool) → meaning_of (with_mail (received k w.traffic) (cond b ((name, meaning_of_reply why values) ∷ w.names) w.names) w) other
        ≡ cond b (cond (same_text name other) (Some (meaning_of_reply why values)) (meanings old other)) (meanings old other)
    go true = newest name (meaning_of_reply why values) w (received k w.traffic) other
        ∙ ap (λ o. cond (same_text name other) (Some (meaning_of_reply why values)) o) (named other)
    go false = named other

-- 3. Nothing else changed in hand

pub record Hears {T D : Type 0} (old new : Program T D) : Type 0 where
  pub types : new.types ≡ old.types
  pub seats : new.seats ≡ old.seats
  pub places : new.places ≡ old.places

pub hears-agendas : {T D : Type 0} (old new : Program T D) → Hears old new → HaveAgendas old → HaveAgendas new
hears-agendas old new x have n s at = rw x.types (have n s (sym (same-places new old x.seats n) ∙ at))

-- 4. The entry

pub hears-takes : {T D : Type 0} (tells : Bool) (layout : Layout) (seen : T → Seen) (look : D → DiskSeen) (old new : Program T D) (e :
    Entry)
    (y : Message) (k a : ℕ) (name : List ℕ) (why : Status) (values : List Datum) (was_open : Bool) (process : _) → Hears old new
    → Some y ≡ first (queue_at a 0 old.calls) → Some name ≡ name_by (waiter_at old.calls (number_of y))
    → Delivers a 0 old.calls (Some (delivery.Reply k why values was_open process)) new.calls
    → ((t : Traffic) → Carries old.calls t → CarriesDelivery a 0 (Some (delivery.Reply k why values was_open process)) new.calls t)
    → StandsHeard old.names new.names name why values was_open
    → e.event ≡ event.Reply k a 0 (Some name) why values → TouchesNone e
    → TakesAtEach tells layout seen look old new (key_of_delivery 0 a) e
hears-takes tells layout seen look old new e y k a name why values was_open process x next named delivers model heard is entry more w
    reached
    stood there =
    let asked : ByShell old.calls k name = by-shell old.calls k name (named ∙ ap (λ i. name_by (waiter_at old.calls i))
    (sym (delivered-number a 0 old.calls new.calls y k why values was_open process next delivers))) in
    let carried = model w.traffic stood.world.calls in record {
      takes = ap key_of is;
      goes = heard-goes layout more (in_hand seen look old) (in_hand seen look new) w e k a name why values was_open process asked.call
          stood.world (record {
            types = x.types;
            seats = λ m. ap (seen_at seen look) (same-places new old x.seats m);
            mail = refl;
            places = x.places;
          }) asked.is asked.asker carried
          (heard-names old.names new.names name why values was_open k w heard stood.world.names
          (open-call w k was_open carried.2.0)) entry is;
      agendas = hears-agendas old new x stood.agendas;
    }

-- 5. A key of the shell

pub shell-takes : {T D : Type 0} (tells : Bool) (layout : Layout) (seen : T → Seen) (look : D → DiskSeen) (old new : Program T D) (key :
    Key)
    (e : Entry) → key.station ≡ 0 → TakesAtEach tells layout seen look old new (key_of_delivery 0 key.sender) e
    → TakesAtEach tells layout seen look old new key e
shell-takes tells layout seen look old new key e at taken more w reached stood there =
    let is : key ≡ key_of_delivery 0 key.sender = shell-key w reached stood.world.numbers key there at in
    subst (λ k. Takes layout seen look old new more w k e) (sym is) (taken more w reached stood (subst (Contains (enabled w)) is there))

pub shell-starves : {T D : Type 0} (tells : Bool) (layout : Layout) (seen : T → Seen) (look : D → DiskSeen) (old new : Program T D) (key :
    Key)
    → key.station ≡ 0 → StarvesAtEach tells layout seen look old new (key_of_delivery 0 key.sender)
    → StarvesAtEach tells layout seen look old new key
shell-starves tells layout seen look old new key at starved more w reached stood there =
    let is : key ≡ key_of_delivery 0 key.sender = shell-key w reached stood.world.numbers key there at in
    starved more w reached stood (subst (Contains (enabled w)) is there)
