-- A turn changes what the Ejects may do that its event is about, and no others.
use Rattle.std.proofs.Common.{◌≡◌, ◌-◌, ◌≤◌, ℕ, zero, suc, Bool, true, false, List, Option, None, Some, Ok, refl, sym, ◌∙◌, ap}
use Rattle.std.proofs.Common.{subst, arith}
use Rattle.std.specs.Prelude.{IsSomeAnd, ◌||◌, slice_get}
use Rattle.std.specs.Option.{option_map}
use Rattle.std.proofs.lemmas.Cmp.{tied_itself}
use Rattle.capability.specs.declared.Uid.{Uid}
use Rattle.capability.proofs.Uids.{uid_cmp_total}
use Rattle.eden_model.specs.Crew.{Invocation, Process as Worker}
use Rattle.eden_model.specs.Map.{with_item}
use Rattle.eden_model.specs.Traffic as traffic
use Rattle.eden_model.specs.Traffic.{Traffic, call_at}
use Rattle.epl_syntax.specs.Meaning.{Turned}
use Rattle.epl_syntax.specs.Rules.OfTypes.{TypeList}
use Rattle.epl_syntax.specs.declared.effect.Effect.TheVariants as effect
use Rattle.invocation.specs.Carries.{Carries}
use Rattle.invocation.specs.Mail.{Mail}
use Rattle.invocation.specs.Numbers.{item_in}
use Rattle.invocation.specs.declared.call.Call.{Call}
use Rattle.invocation.proofs.CarriesLaws.{item-found}
use Rattle.passive_store.specs.Kept.{Layout}
use Rattle.journal.specs.declared.event.Event.{Event}
use Rattle.journal.specs.declared.event.Event.TheVariants as event
use Rattle.journal.specs.declared.event.Shown.{Shown}
use Rattle.journal.specs.declared.event.Shown.TheVariants as shown
use Rattle.journal.specs.World.{Active, Eject, StoreRequest, Site, eject_in, on_eject, on_node}
use Rattle.journal.specs.Ejects.{on_active, next_uid}
use Rattle.journal.specs.Processes.{AllowsTurn, worker_at, turn_of, turned, serving, effected, process_turn, shown_of, shown_creation}
use Rattle.journal.specs.Settling.{first_request}
use Rattle.journal.specs.Sites.{IsSoundSite, CallsGoOn, GoesOn}
use Rattle.journal.specs.Step.{AllowsAt, site_turn}
use Rattle.journal.specs.Stores.{AllowsStore}
use Rattle.history_laws.proofs.Creations.{next-active}
use Rattle.history_laws.proofs.EventCalls.{calls-go-on}
use Rattle.journal.proofs.Shows.{yields}
use Rattle.checkpoint.specs.Turns.{with_clock}
use Rattle.ejects.specs.View.{parts_of}
use Rattle.ejects.proofs.KeptClasses.{Keeps}
use Rattle.agenda.specs.Indexed.{is_it}
use Rattle.agenda.specs.Marks.{MayBut}
use Rattle.eden_kernel.specs.Stands.{Held, NodeStands}
use Rattle.eden_kernel.specs.Turns.{Turns, clock_of}
use Rattle.scheduled_node.specs.Others.{SameBut, eject_of, concerned, turn_about, created_in, uid_shown, is_either}
use Rattle.scheduled_node.proofs.Deciding.{may-but}
use Rattle.scheduled_node.proofs.Others.{down-crashed, same-clock, same-requested, same-heard, same-start, same-process_turn}
use Rattle.scheduled_node.proofs.Others.{same-store_turn, same-activation, same-boot, same-item, same-turned}

-- 1. Those that an event is about

pub hit-one : (a b : Option Uid) (u : Uid) → a ≡ Some u → is_either a b u ≡ true
hit-one a b u is = rw (is, tied_itself uid_cmp_total u) refl

pub hit-other : (a b : Option Uid) (u : Uid) → b ≡ Some u → is_either a b u ≡ true
hit-other a b u is = rw (is, tied_itself uid_cmp_total u) (go (is_it a u))
  where
    go : (x : Bool) → (x || true) ≡ true
    go true = refl
    go false = refl

-- 2. The call of a delivery, as the code has it behind the event

-- the same call: who asked it, and of whom
pub record IsCallOf (c : traffic.Call) (k : ℕ) (m : Mail) : Type 0 where
  pub call : Call
  pub is : item_in k m.calls ≡ Some call
  pub asker : call.asker ≡ c.asker
  pub target : call.target ≡ c.target

item-at : (k : ℕ) (cs : List Call) (d : Call) → 1 ≤ k → slice_get cs (k - 1) ≡ Some d → item_in k cs ≡ Some d
item-at zero cs d some is = absurd (omega (arith, some))
item-at (suc k) cs d some is = let same : suc k - 1 ≡ k = omega arith in subst (λ j. slice_get cs j ≡ Some d) same is

call-behind : (n : ℕ) (t later : Traffic) (m : Mail) (k : ℕ) (c : traffic.Call) → CallsGoOn n t later → Carries m later
    → call_at t k ≡ Some c → IsCallOf c k m
call-behind n t later m k c goes carries is = go (call_at later k) refl (goes.goes k c is)
  where
    go : (o : Option traffic.Call) → call_at later k ≡ o → IsSomeAnd o (GoesOn c) → IsCallOf c k m
    go None at on = absurd on
    go (Some d) at on = let f = item-found 1 m.calls later.calls carries.calls k d at in record {
      call = f.call;
      is = item-at k m.calls f.call f.from f.is;
      asker = sym f.same.asker ∙ on.asker;
      target = sym f.same.target ∙ on.target;
    }

-- 3. The turns

module _ (reach : ℕ → Bool) (s : Site) (m : Mail) (sound : IsSoundSite s) where
  abbrev those : Event → Uid → Bool
  those e = is_either (concerned m e) (created_in e)

  abbrev next : Event → Site
  next e = site_turn reach e s

  -- what is shown of a process
  tells : (u : Uid) (p : ℕ) (said : Shown) → AllowsAt s (event.Process u p said) → (e : Eject) → eject_in s u ≡ Some e → (it : Active)
      → e.active ≡ Some it → (t : Turned) → turn_of u it p ≡ Some t → (i : Option Invocation) × (said ≡ shown_of s i t.effect)
  tells u p said allowed e is it is_it t is_t = worker (worker_at it p)
      (subst (λ o. IsSomeAnd o (λ it. IsSomeAnd (worker_at it p) (λ q. AllowsTurn s u p said it q))) is_it
      (subst (λ o. IsSomeAnd o (λ e. IsSomeAnd e.active (λ it. IsSomeAnd (worker_at it p) (λ q. AllowsTurn s u p said it q)))) is allowed))
    where
      worker : (o : Option Worker) → IsSomeAnd o (λ q. AllowsTurn s u p said it q)
          → (i : Option Invocation) × (said ≡ shown_of s i t.effect)
      worker None a = absurd a
      worker (Some q) a = (q.serves, subst (λ o. IsSomeAnd o (λ t. said ≡ shown_of s q.serves t.effect)) is_t a.shows)

  -- what it is shown to have created
  shows : (u : Uid) (p : ℕ) (said : Shown) → AllowsAt s (event.Process u p said) → (e : Eject) → eject_in s u ≡ Some e → (it : Active)
      → e.active ≡ Some it → (t : Turned) → turn_of u it p ≡ Some t → (name : List ℕ) → t.effect ≡ effect.Create name
      → said ≡ shown_creation (next_uid s)
  shows u p said allowed e is it is_it t is_t name creates =
      let r = tells u p said allowed e is it is_it t is_t in r.1 ∙ ap (shown_of s r.0) creates

  -- a process that let others go on
  yielded : (but : Uid → Bool) (u : Uid) (p : ℕ) → AllowsAt s (event.Process u p shown.Yield) → SameBut but s (process_turn reach u p s)
  yielded but u p allowed = same-item but s (eject_in s u) _ (λ e is. same-item but s e.active _ (λ it is_it.
      same-item but s (turn_of u it p) _ (λ t is_t.
      let r = tells u p shown.Yield allowed e is it is_it t is_t in
      let now : Site = on_eject u (on_active (turned p t)) s in
      subst (λ f. SameBut but s (effected reach u p (serving it p) it.kind t.vars f now)) (sym (yields s r.0 t.effect r.1))
      (same-turned but u p t s))))

  created : (u : Uid) (p : ℕ) (said : Shown) → AllowsAt s (event.Process u p said) → (e : Eject) → eject_in s u ≡ Some e → (it : Active)
      → e.active ≡ Some it → (t : Turned) → turn_of u it p ≡ Some t → (name : List ℕ) → t.effect ≡ effect.Create name → (w : Uid)
      → next_uid (on_eject u (on_active (turned p t)) s) ≡ Ok w → those (event.Process u p said) w ≡ true
  created u p said allowed e is it is_it t is_t name creates w comes = hit-other (turn_about u said) (uid_shown said) w
      (ap uid_shown (shows u p said allowed e is it is_it t is_t name creates
      ∙ ap shown_creation (sym (next-active u (turned p t) s sound.node.in_order) ∙ comes)))

  turned-but : (e : Event) → AllowsAt s e → Carries m (next e).traffic → (next e).node.up ≡ true → SameBut (those e) s (next e)
  turned-but (event.Request k a b refused) allowed carries up =
      same-requested (those (event.Request k a b refused)) k refused s (λ c is.
      let f = call-behind s.number s.traffic (next (event.Request k a b refused)).traffic m k c
      (calls-go-on reach (event.Request k a b refused) s sound allowed) carries is in
      hit-one (concerned m (event.Request k a b refused)) None c.target.uid
      (ap (option_map (λ (x : Call). x.target.uid)) f.is ∙ ap (λ t. Some t.uid) f.target))
  turned-but (event.Reply k a b name why values) allowed carries up =
      same-heard (those (event.Reply k a b name why values)) k why values s (λ c is u p asks.
      let f = call-behind s.number s.traffic (next (event.Reply k a b name why values)).traffic m k c
      (calls-go-on reach (event.Reply k a b name why values) s sound allowed) carries is in
      hit-one (concerned m (event.Reply k a b name why values)) None u
      (ap (λ o. with_item o (λ (x : Call). eject_of x.asker) None) f.is ∙ ap eject_of (f.asker ∙ asks)))
  turned-but (event.Activate u how p) allowed carries up =
      same-activation (those (event.Activate u how p)) u how p s (hit-one (Some u) None u refl) up
  turned-but (event.Start k u p) allowed carries up = same-start (those (event.Start k u p)) u k p s (hit-one (Some u) None u refl)
  turned-but (event.Process u p shown.Yield) allowed carries up = yielded (those (event.Process u p shown.Yield)) u p allowed
  turned-but (event.Process u p said) allowed carries up =
      same-process_turn (those (event.Process u p said)) reach u p s (hit-one (turn_about u said) (uid_shown said) u refl)
      (λ e is it is_it t is_t name creates w comes. created u p said allowed e is it is_it t is_t name creates w comes)
  turned-but (event.Store u clock how p) allowed carries up =
      same-store_turn (those (event.Store u clock how p)) how p s (λ r is.
      hit-one (Some u) None r.uid (ap (λ v. Some v) (of-first (first_request s.node) r is allowed))) up
    where
      of-first : (o : Option StoreRequest) (r : StoreRequest) → o ≡ Some r → IsSomeAnd o (λ r. AllowsStore s u how p r) → u ≡ r.uid
      of-first None r is a = absurd a
      of-first (Some q) r is a = a.of_uid ∙ ap (λ (x : StoreRequest). x.uid)
          (let x : Some q ≡ Some r = is in let same : q ≡ r = cc x in same)
  turned-but (event.Boot n e how p began) allowed carries up =
      same-boot (those (event.Boot n e how p began)) e how p began s
  turned-but (event.Crash n) allowed carries up = down-crashed s up
  turned-but _ allowed carries up = absurd allowed

-- 4. In the node

clock-traffic : (c : ℕ) (t : Site) → (with_clock c t).traffic ≡ t.traffic
unfolding on_node
clock-traffic c t = refl

clock-up : (c : ℕ) (t : Site) → (with_clock c t).node.up ≡ t.node.up
unfolding on_node
clock-up c t = refl

keeps-on : (n : ℕ) (t later : Traffic) → CallsGoOn n t later → Keeps t later
keeps-on n t later goes = record { at = λ k c is. go c (call_at later k) (goes.goes k c is) }
  where
    go : (c : traffic.Call) (o : Option traffic.Call) → IsSomeAnd o (GoesOn c) → IsSomeAnd o (λ d. d.operation ≡ c.operation)
    go c None on = absurd on
    go c (Some d) on = on.operation

pub turn-but : (layout : Layout) (ts : TypeList) (old new : Held) (m later : Mail) (reach : ℕ → Bool) (s : Site) (e : Event)
    → IsSoundSite s → NodeStands layout ts old m s → Turns layout ts new later reach old s e
    → MayBut (is_either (concerned later e) (created_in e)) (parts_of ts old.ejects) (parts_of ts new.ejects)
turn-but layout ts old new m later reach s e sound h turn =
    let next : Site = site_turn reach e s in
    let c : ℕ = clock_of new in
    let those = is_either (concerned later e) (created_in e) in
    may-but those (parts_of ts old.ejects) (parts_of ts new.ejects) s (with_clock c next) h.calls.parts turn.stands.calls.parts
    (same-clock those c s next (turned-but reach s later sound e turn.allowed
    (subst (Carries later) (clock-traffic c next) turn.stands.calls.calls) (sym (clock-up c next) ∙ turn.stands.disk.up)))
    (subst (Keeps s.traffic) (sym (clock-traffic c next)) (keeps-on s.number s.traffic next.traffic
    (calls-go-on reach e s sound turn.allowed)))
