-- A node that is down is at rest: it has no active part, no queued call and no request; and no call on its way goes to it.
use Rattle.std.proofs.Common.{◌≡◌, ◌⊎◌, inl, inr, ℕ, Bool, true, false, cond, List, [], Option, None, Some, is_some, refl, sym, ◌∙◌, ap}
use Rattle.std.proofs.Common.{subst}
use Rattle.std.specs.Prelude.{IsSomeAnd, IfSome}
use Rattle.std.specs.Option.{option_map}
use Rattle.std.specs.Ordering.{eq_by_cmp}
use Rattle.capability.specs.declared.Uid.{Uid}
use Rattle.eden_value.specs.Datum.{Datum}
use Rattle.eden_value.specs.declared.status.Status.{Status}
use Rattle.eden_model.specs.Map.{with_item, first, uid_cmp, value_at, each_value}
use Rattle.eden_model.specs.declared.Asker.{Asker}
use Rattle.eden_model.specs.declared.Asker.TheVariants.{Shell, Eject as Process}
use Rattle.eden_model.specs.Traffic.{Traffic, Call, call_at, without_node}
use Rattle.epl_syntax.specs.declared.effect.Answer.{Answer}
use Rattle.epl_syntax.specs.declared.effect.Answer.TheVariants.{Reply as Told}
use Rattle.passive_store.specs.declared.store.Pick.{Pick}
use Rattle.passive_store.specs.declared.store.Pick.TheVariants as pick
use Rattle.journal.specs.declared.event.BootEnd.{BootEnd}
use Rattle.journal.specs.declared.event.BootEnd.TheVariants as boot_end
use Rattle.journal.specs.declared.event.StartEnd.{StartEnd}
use Rattle.journal.specs.declared.event.StartEnd.TheVariants as start_end
use Rattle.journal.specs.declared.event.RequestEnd.{RequestEnd}
use Rattle.journal.specs.declared.event.RequestEnd.TheVariants as end
use Rattle.journal.specs.declared.event.Event.{Event}
use Rattle.journal.specs.declared.event.Event.TheVariants as event
use Rattle.journal.specs.World.{Site, Node, Eject, Active, StoreRequest, eject_in, on_eject, on_node, on_traffic}
use Rattle.journal.specs.Ejects.{with_active, on_active, told, tells}
use Rattle.journal.specs.Deliveries.{tells_asker, received, heard}
use Rattle.journal.specs.Settling.{first_request, settled_eject, settled}
use Rattle.journal.specs.Crashes.{fallen, down, crashed}
use Rattle.journal.specs.Stores.{Work, syncs, reads, unkept, without_room, calls, work_of, doubted, worked, store_turn, AllowsStore}
use Rattle.journal.specs.Starts.{AllowsActivate, start_settled, activation_turn}
use Rattle.journal.specs.Boots.{booted_node}
use Rattle.journal.specs.Step.{AllowsAt, IsActiveAnd, site_turn}
use Rattle.history_laws.proofs.Frame.{eject-on_eject}
use Rattle.history_laws.proofs.KeptTurns.{value-each}
use Rattle.history_laws.proofs.StaysUp.{IsUp, up-requested, up-heard, up-start, up-process_turn}
use Rattle.history_laws.proofs.StaysUp.{up-store_turn, up-activation, up-done, up-ended}
use Rattle.eden_value.specs.declared.status.Status.TheVariants as status

-- 1. At rest

-- neither active nor queued
pub record IsIdle (e : Eject) : Type 0 where
  pub no_active : e.active ≡ None
  pub no_queued : e.queued ≡ []

pub record AtRest (rs : List StoreRequest) (es : List (Uid × Eject)) : Type 0 where
  pub no_request : rs ≡ []
  pub idle : (u : Uid) (e : Eject) → value_at uid_cmp u es ≡ Some e → IsIdle e

abbrev pub Rests : Node → Type 0
Rests it = AtRest it.requests it.ejects

-- up, or at rest
abbrev pub Calm : Node → Type 0
Calm it = (it.up ≡ true) ⊎ Rests it

idle-changed : (f : Eject → Eject) → ((e : Eject) → IsIdle e → IsIdle (f e)) → (b : Bool) (o : Option Eject)
    → ((e : Eject) → o ≡ Some e → IsIdle e) → (e : Eject) → cond b (option_map f o) o ≡ Some e → IsIdle e
idle-changed f keep true None each e is = absurd (cc is)
idle-changed f keep true (Some x) each e is = let same : f x ≡ e = cc is in subst IsIdle same (keep x (each x refl))
idle-changed f keep false o each e is = each e is

rest-on_eject : (v : Uid) (f : Eject → Eject) (s : Site) → ((e : Eject) → IsIdle e → IsIdle (f e)) → Rests s.node
    → Rests (on_eject v f s).node
unfolding on_eject
rest-on_eject v f s keep h = record {
  no_request = h.no_request;
  idle = λ u e is. idle-changed f keep (eq_by_cmp uid_cmp u v) (eject_in s u) (λ x at. h.idle u x at) e
      (sym (eject-on_eject v u f s) ∙ is);
}

rest-on_traffic : (f : Traffic → Traffic) (s : Site) → Rests s.node → Rests (on_traffic f s).node
unfolding on_traffic
rest-on_traffic f s h = h

rest-on_node : (f : Node → Node) (s : Site) → Rests (f s.node) → Rests (on_node f s).node
unfolding on_node
rest-on_node f s h = h

idle-each : (f : Eject → Eject) (es : List (Uid × Eject)) → ((u : Uid) (e : Eject) → value_at uid_cmp u es ≡ Some e → IsIdle (f e))
    → (u : Uid) (e : Eject) → value_at uid_cmp u (each_value f es) ≡ Some e → IsIdle e
idle-each f es keep u e is = go (value_at uid_cmp u es) refl (sym (value-each u f es) ∙ is)
  where
    go : (o : Option Eject) → value_at uid_cmp u es ≡ o → option_map f (value_at uid_cmp u es) ≡ Some e → IsIdle e
    go None at same = absurd (let bad : None ≡ Some e = subst (λ o. option_map f o ≡ Some e) at same in cc bad)
    go (Some x) at same = let here : Some (f x) ≡ Some e = subst (λ o. option_map f o ≡ Some e) at same in
        subst (λ o. IfSome o IsIdle) here (keep u x at)

-- a crash leaves a node at rest
pub rest-crashed : (s : Site) → Rests (crashed s).node
rest-crashed s = rest-on_traffic (without_node s.number) (on_node down s) (rest-on_node down s
    (record { no_request = refl; idle = idle-each fallen s.node.ejects (λ u e is. record { no_active = refl; no_queued = refl }) }))

idle-told : (f : Active → Active) (e : Eject) → IsIdle e → IsIdle (on_active f e)
idle-told f e h = subst (λ o. IsIdle (with_item o (λ it. with_active (Some (f it)) e) e)) (sym h.no_active) h

pub rest-tells : (v : Uid) (p : ℕ) (a : Answer) (s : Site) → Rests s.node → Rests (tells v p a s).node
rest-tells v p a s h = rest-on_eject v (on_active (told p a)) s (idle-told (told p a)) h

rest-heard : (k : ℕ) (why : Status) (values : List Datum) (s : Site) → Rests s.node → Rests (heard k why values s).node
rest-heard k why values s h = go (call_at s.traffic k)
  where
    asker : (a : Asker) → Rests (tells_asker a why values (on_traffic (received k) s)).node
    asker (Shell name) = rest-on_traffic (received k) s h
    asker (Process v p) = rest-tells v p (Told why values) (on_traffic (received k) s) (rest-on_traffic (received k) s h)

    one : (b : Bool) (a : Asker) → Rests (cond b (tells_asker a why values (on_traffic (received k) s)) (on_traffic (received k) s)).node
    one true a = asker a
    one false a = rest-on_traffic (received k) s h

    go : (o : Option Call) → Rests (with_item o
        (λ c. cond c.open_ (tells_asker c.asker why values (on_traffic (received k) s)) (on_traffic (received k) s)) s).node
    go None = h
    go (Some c) = one c.open_ c.asker

rest-settled : (p : Option Pick) (s : Site) → Rests s.node → Rests (settled p s).node
unfolding on_node
rest-settled None s h = h
rest-settled (Some pick.Old) s h = record {
  no_request = h.no_request;
  idle = idle-each (settled_eject pick.Old) s.node.ejects
      (λ u e is. record { no_active = (h.idle u e is).no_active; no_queued = (h.idle u e is).no_queued });
}
rest-settled (Some pick.New) s h = record {
  no_request = h.no_request;
  idle = idle-each (settled_eject pick.New) s.node.ejects
      (λ u e is. record { no_active = (h.idle u e is).no_active; no_queued = (h.idle u e is).no_queued });
}

calm-booted : (s : Site) (e : ℕ) (how : BootEnd) (began : Bool) (it : Node) → Rests it → Calm (booted_node s e how began it)
calm-booted s e boot_end.Up began it h = inl refl
calm-booted s e boot_end.DiskFault began it h = inr h
calm-booted s e boot_end.Stop began it h = inr h
calm-booted s e (boot_end.Damaged place) began it h = inr h
calm-booted s e boot_end.EpochsSpent began it h = inr h
calm-booted s e boot_end.Full began it h = inr h

calm-on_node : (f : Node → Node) (s : Site) → Calm (f s.node) → Calm (on_node f s).node
unfolding on_node
calm-on_node f s h = h

-- 2. Turns at a node that is up

calm-worked : (w : Work) (r : StoreRequest) (p : Option Pick) (s : Site) → IsUp s → Calm (worked w r end.Stop p s).node
calm-worked syncs r p s up = inr (rest-crashed s)
calm-worked reads r p s up = inr (rest-crashed s)
calm-worked unkept r p s up = inl (up-done r s up)
calm-worked without_room r p s up = inl (up-ended r status.Full s up)
calm-worked calls r p s up = inr (rest-crashed (doubted r s))

calm-store : (how : RequestEnd) (p : Option Pick) (s : Site) → IsUp s → Calm (store_turn how p s).node
calm-store end.Stop p s up = go (first_request s.node)
  where
    go : (o : Option StoreRequest) → Calm (with_item o (λ r. worked (work_of s r) r end.Stop p s) s).node
    go None = inl up
    go (Some r) = calm-worked (work_of s r) r p s up
calm-store end.Part p s up = inl (up-store_turn end.Part p s refl up)
calm-store end.Done p s up = inl (up-store_turn end.Done p s refl up)
calm-store end.Fault p s up = inl (up-store_turn end.Fault p s refl up)
calm-store end.Full p s up = inl (up-store_turn end.Full p s refl up)

calm-activation : (v : Uid) (how : StartEnd) (p : Option Pick) (s : Site) → IsUp s → Calm (activation_turn v how p s).node
calm-activation v start_end.Stop p s up = inr (rest-crashed (start_settled p s))
calm-activation v start_end.Ok p s up = inl (up-activation v start_end.Ok p s refl up)
calm-activation v start_end.Gone p s up = inl (up-activation v start_end.Gone p s refl up)
calm-activation v start_end.Fault p s up = inl (up-activation v start_end.Fault p s refl up)
calm-activation v start_end.Damaged p s up = inl (up-activation v start_end.Damaged p s refl up)

-- 3. Every turn

pub not-active : (s : Site) (u : Uid) (P : Eject → Active → Type 0) → Rests s.node → IsActiveAnd s u P → ⊥
not-active s u P h a = go (eject_in s u) refl a
  where
    by_active : (e : Eject) (o : Option Active) → e.active ≡ o → IsIdle e → IsSomeAnd o (λ it. P e it) → ⊥
    by_active e None at idle x = x
    by_active e (Some it) at idle x = let bad : Some it ≡ None = sym at ∙ idle.no_active in cc bad

    go : (o : Option Eject) → eject_in s u ≡ o → IsSomeAnd o (λ e. IsSomeAnd e.active (λ it. P e it)) → ⊥
    go None at x = x
    go (Some e) at x = by_active e e.active refl (h.idle u e at) x

not-queued : (s : Site) (u : Uid) (how : StartEnd) (p : Option Pick) → Rests s.node
    → IsSomeAnd (eject_in s u) (λ e. AllowsActivate s u how p e) → ⊥
not-queued s u how p h a = go (eject_in s u) refl a
  where
    go : (o : Option Eject) → eject_in s u ≡ o → IsSomeAnd o (λ e. AllowsActivate s u how p e) → ⊥
    go None at x = x
    go (Some e) at x = let none : is_some (first e.queued) ≡ false = ap (λ ks. is_some (first ks)) (h.idle u e at).no_queued in
        let bad : false ≡ true = sym none ∙ x.has_queued in cc bad

not-asked : (s : Site) (u : Uid) (how : RequestEnd) (p : Option Pick) → Rests s.node
    → IsSomeAnd (first_request s.node) (λ r. AllowsStore s u how p r) → ⊥
not-asked s u how p h a = subst (λ rs. IsSomeAnd (first rs) (λ r. AllowsStore s u how p r)) h.no_request a

-- a request comes to a node that is up
abbrev pub ComesUp : Site → Event → Type 0
ComesUp s (event.Request k a b refused) = IsUp s
ComesUp s _ = Unit {0}

up-down : {A : Type 0} (b : Bool) → b ≡ true → b ≡ false → A
up-down b on off = absurd (let bad : true ≡ false = sym on ∙ off in cc bad)

pub calm-site_turn : (reach : ℕ → Bool) (e : Event) (s : Site) → ComesUp s e → AllowsAt s e → Calm s.node → Calm (site_turn reach e s).node
calm-site_turn reach (event.Request k a b refused) s comes allowed h = inl (up-requested k refused s comes)
calm-site_turn reach (event.Reply k a b name why values) s comes allowed (inl up) = inl (up-heard k why values s up)
calm-site_turn reach (event.Reply k a b name why values) s comes allowed (inr rest) = inr (rest-heard k why values s rest)
calm-site_turn reach (event.Activate v how p) s comes allowed (inl up) = calm-activation v how p s up
calm-site_turn reach (event.Activate v how p) s comes allowed (inr rest) = absurd (not-queued s v how p rest allowed)
calm-site_turn reach (event.Start k v p) s comes allowed (inl up) = inl (up-start v k p s up)
calm-site_turn reach (event.Start k v p) s comes allowed (inr rest) = absurd (not-active s v _ rest allowed)
calm-site_turn reach (event.Process v p said) s comes allowed (inl up) = inl (up-process_turn reach v p s up)
calm-site_turn reach (event.Process v p said) s comes allowed (inr rest) = absurd (not-active s v _ rest allowed)
calm-site_turn reach (event.Store v c how p) s comes allowed (inl up) = calm-store how p s up
calm-site_turn reach (event.Store v c how p) s comes allowed (inr rest) = absurd (not-asked s v how p rest allowed)
calm-site_turn reach (event.Boot n e how p began) s comes allowed (inl up) = up-down s.node.up up allowed.is_down
calm-site_turn reach (event.Boot n e how p began) s comes allowed (inr rest) = calm-on_node (booted_node s e how began) (settled p s)
    (calm-booted s e how began (settled p s).node (rest-settled p s rest))
calm-site_turn reach (event.Crash n) s comes allowed h = inr (rest-crashed s)
calm-site_turn reach (event.Still n up) s comes allowed h = absurd allowed
calm-site_turn reach (event.Link a b joined) s comes allowed h = absurd allowed
calm-site_turn reach (event.Armed n what) s comes allowed h = absurd allowed
calm-site_turn reach (event.Made name why v) s comes allowed h = absurd allowed
calm-site_turn reach (event.Bound name kept) s comes allowed h = absurd allowed
calm-site_turn reach (event.Void name) s comes allowed h = absurd allowed
calm-site_turn reach (event.Asked k name at_once) s comes allowed h = absurd allowed
calm-site_turn reach event.Quiet s comes allowed h = absurd allowed
calm-site_turn reach event.Spent s comes allowed h = absurd allowed
calm-site_turn reach (event.Left names) s comes allowed h = absurd allowed
