-- Turns of a store: what stays served behind a change, and what a turn comes to.
use Rattle.std.proofs.Common.{◌≡◌, ◌∙◌, ◌<◌, ℕ, Bool, true, false, not, cond, Option, None, Some, refl, sym, ap, subst, arith}
use Rattle.std.proofs.Common.{◌+◌, List, [], ◌∷◌, is_some, length, map, slice_index_or, IfSome, IsSomeAnd}
use Rattle.std.specs.Option.{option_map}
use Rattle.std.specs.Ordering.{eq_by_cmp}
use Rattle.capability.specs.declared.Uid.{Uid}
use Rattle.eden_value.specs.declared.status.Status.{Status}
use Rattle.eden_value.specs.declared.status.Status.TheVariants as status
use Rattle.eden_model.specs.Crew.{Waits, outside}
use Rattle.eden_model.specs.Map.{first, rest, uid_cmp, with_item}
use Rattle.epl_syntax.specs.declared.effect.Answer.TheVariants.{Code}
use Rattle.history_laws.proofs.Frame.{eject-on_eject}
use Rattle.history_laws.proofs.Ordered.{order-changed}
use Rattle.history_laws.proofs.SiteParts.{eject-here}
use Rattle.history_laws.proofs.SiteStores.{at-own, first-is}
use Rattle.journal.specs.EjectChange.{EjectChange, body, kept_of, removal}
use Rattle.journal.specs.Ejects.{deactivated, on_active, told, turned_away, with_active, without_active, without_requests}
use Rattle.journal.specs.Settling.{first_request, unsynced}
use Rattle.journal.specs.Sites.{InOrder, IsSoundSite, at_store}
use Rattle.journal.specs.Stores as stores
use Rattle.journal.specs.World.{Active, Eject, Site, StoreRequest, eject_in, on_eject, on_node, on_traffic}
use Rattle.journal.specs.declared.event.RequestEnd.{RequestEnd}
use Rattle.journal.specs.declared.event.RequestEnd.TheVariants as end
use Rattle.passive_store.specs.declared.store.Pick.{Pick}
use Rattle.plain_sites.specs.View.{IsPassive, Serves}
use Rattle.plain_sites.proofs.Deliveries.{waits-in}
use Rattle.plain_sites.proofs.Sites.{deactivated_of}
use Rattle.plain_stores.specs.declared.request.PlainRequest.{PlainRequest}
use Rattle.plain_stores.specs.View.{AnswersWaiting, request_of}

-- 1. What is served

pub for-first : {X : Type 0} (P : X → Type 0) (o : Option X) (x : X) → IfSome o P → o ≡ Some x → P x
for-first P o x holds is = subst (λ y. IfSome y P) is holds

pub serves-as : (s t : Site) (r : StoreRequest) → t ≡ s → Serves s r → Serves t r
serves-as s t r is h = subst (λ x. Serves x r) (sym is) h

-- the process of the Eject waits, where both are there
abbrev Awaits : Site → Uid → ℕ → Type 0
Awaits s u p = IfSome (eject_in s u) (λ e. IfSome e.active (λ it. Waits it.crew p outside))

pub sound-serves : (s : Site) (r : StoreRequest) → IsSoundSite s → first_request s.node ≡ Some r → Serves s r
sound-serves s r sound is = record {
  first = is;
  in_order = sound.node.in_order;
  answers = subst (λ o. IfSome o (λ q. IfSome q.process (λ p. Awaits s q.uid p))) (sym is) (go r.process refl);
}
  where
    go : (o : Option ℕ) → r.process ≡ o → IfSome o (λ p. Awaits s r.uid p)
    go None at = tt
    go (Some p) at =
        let asked : at_store r.uid p s.node.requests ≡ at_store r.uid p (rest s.node.requests) + 1 =
        ap (at_store r.uid p) (first-is s.node.requests r is) ∙ at-own r p (rest s.node.requests) at in
        waits-in (eject_in s r.uid) p (λ some. (sound.processes r.uid p (sound.node.of_node r.uid some)).stores (omega (arith, asked)))

pub serves-unsynced : (s : Site) (r : StoreRequest) → Serves s r → Serves (unsynced s) r
unfolding on_node
serves-unsynced s r h = record { first = h.first; in_order = h.in_order; answers = h.answers }

both-some : {X : Type 0} (P Q : X → Type 0) → ((x : X) → P x → Q x) → (o : Option X) → IfSome o P → IfSome o Q
both-some P Q f None h = tt
both-some P Q f (Some x) h = f x h

same-active : (u v : Uid) (f : Eject → Eject) (s : Site) (p : ℕ) → ((e : Eject) → (f e).active ≡ e.active) → Awaits s v p
    → Awaits (on_eject u f s) v p
same-active u v f s p keeps waits = subst (λ o. IfSome o (λ e. IfSome e.active (λ it. Waits it.crew p outside)))
    (sym (eject-on_eject u v f s)) (go (eject_in s v) (eq_by_cmp uid_cmp v u) waits)
  where
    go : (o : Option Eject) (b : Bool) → IfSome o (λ e. IfSome e.active (λ it. Waits it.crew p outside))
        → IfSome (cond b (option_map f o) o) (λ e. IfSome e.active (λ it. Waits it.crew p outside))
    go None true w = tt
    go None false w = tt
    go (Some e) false w = w
    go (Some e) true w = subst (λ a. IfSome a (λ it. Waits it.crew p outside)) (sym (keeps e)) w

answers-on_eject : (u : Uid) (f : Eject → Eject) (s : Site) → ((e : Eject) → (f e).active ≡ e.active) → AnswersWaiting s
    → IfSome (first_request s.node) (λ r. IfSome r.process (λ p. Awaits (on_eject u f s) r.uid p))
answers-on_eject u f s keeps h = both-some (λ r. IfSome r.process (λ p. Awaits s r.uid p))
    (λ r. IfSome r.process (λ p. Awaits (on_eject u f s) r.uid p))
    (λ r w. both-some (λ p. Awaits s r.uid p) (λ p. Awaits (on_eject u f s) r.uid p) (λ p x. same-active u r.uid f s p keeps x) r.process w)
    (first_request s.node) h

serves-on_eject : (u : Uid) (f : Eject → Eject) (s : Site) (r : StoreRequest) → ((e : Eject) → (f e).active ≡ e.active) → Serves s r
    → Serves (on_eject u f s) r
unfolding on_eject
serves-on_eject u f s r keeps h = record {
  first = h.first;
  in_order = order-changed u f s.node.ejects h.in_order;
  answers = answers-on_eject u f s keeps h.answers;
}

pub serves-doubted : (s : Site) (r : StoreRequest) → Serves s r → Serves (stores.doubted r s) r
serves-doubted s r h = serves-on_eject r.uid (λ e. record e { doubt = Some r.change }) s r (λ e. refl) h

pub serves-stored : (s : Site) (r : StoreRequest) → Serves s r → Serves (stores.stored r s) r
unfolding on_node
serves-stored s r h =
    let x = serves-on_eject r.uid (λ e. record e { kept = kept_of r.change; doubt = None }) s r (λ e. refl) h in
    record { first = x.first; in_order = x.in_order; answers = x.answers }

-- 2. Behind a removal

pub order-ended : (s : Site) (r : StoreRequest) (why : Status) → InOrder s.node.ejects → InOrder (stores.request_ended r why s).node.ejects
unfolding on_node on_eject
order-ended s r why h = go r.process
  where
    go : (o : Option ℕ)
        → InOrder (stores.tells_code r.uid o why (on_node (λ it. record it { requests = rest it.requests }) s)).node.ejects
    go None = h
    go (Some p) = order-changed r.uid (on_active (told p (Code why))) s.node.ejects h

pub order-deactivated : (u : Uid) (s : Site) → InOrder s.node.ejects → InOrder (deactivated u s).node.ejects
unfolding on_node on_eject on_traffic
order-deactivated u s h = go (eject_in s u)
  where
    by : (a : Option Active) → InOrder (with_item a (λ it. without_active u it s) s).node.ejects
    by None = h
    by (Some it) = order-changed u (with_active None) s.node.ejects h

    go : (o : Option Eject) → InOrder (deactivated_of u s o).node.ejects
    go None = h
    go (Some e) = by e.active

pub passive-deactivated : (u : Uid) (s : Site) → IsPassive (eject_in (deactivated u s) u)
unfolding on_node on_traffic
passive-deactivated u s = go (eject_in s u) refl
  where
    by : (e : Eject) → eject_in s u ≡ Some e → (a : Option Active) → e.active ≡ a
        → IsPassive (eject_in (with_item a (λ it. without_active u it s) s) u)
    by e at None act = subst IsPassive (sym at) act
    by e at (Some it) act = subst IsPassive (sym (eject-here u (with_active None) (on_node (without_requests u) s) e at)) refl

    go : (o : Option Eject) → eject_in s u ≡ o → IsPassive (eject_in (deactivated_of u s o) u)
    go None at = subst IsPassive (sym at) tt
    go (Some e) at = by e at e.active refl

removed-so : (c : EjectChange) (u : Uid) (x : Site) → not (is_some (kept_of c)) ≡ true
    → turned_away u status.Gone (deactivated u x) ≡ stores.removed c u x
removed-so (body bytes) u x is = absurd (cc is)
removed-so removal u x is = refl

removed-not : (c : EjectChange) (u : Uid) (x : Site) → not (is_some (kept_of c)) ≡ false → x ≡ stores.removed c u x
removed-not (body bytes) u x is = refl
removed-not removal u x is = absurd (cc is)

-- a request that succeeded, by whether it was a removal; q is how the code has it
pub done-removed : (s x y z : Site) (r q : StoreRequest) (b : Bool) → r ≡ q → x ≡ stores.request_ended r status.Ok s
    → y ≡ deactivated q.uid x → z ≡ turned_away q.uid status.Gone y → b ≡ not (is_some (kept_of q.change)) → b ≡ true → z ≡ stores.done r s
done-removed s x y z r q b same ended left turned removes is =
    turned ∙ (ap (turned_away q.uid status.Gone) (left ∙ ap (deactivated q.uid) ended)
    ∙ (ap (λ p. turned_away p.uid status.Gone (deactivated p.uid (stores.request_ended r status.Ok s))) (sym same)
    ∙ removed-so r.change r.uid (stores.request_ended r status.Ok s)
    (ap (λ p. not (is_some (kept_of p.change))) same ∙ (sym removes ∙ is))))

pub done-kept : (s x : Site) (r q : StoreRequest) (b : Bool) → r ≡ q → x ≡ stores.request_ended r status.Ok s
    → b ≡ not (is_some (kept_of q.change)) → b ≡ false → x ≡ stores.done r s
done-kept s x r q b same ended removes is = ended ∙ removed-not r.change r.uid (stores.request_ended r status.Ok s)
    (ap (λ p. not (is_some (kept_of p.change))) same ∙ (sym removes ∙ is))

-- 3. How a turn may end

pub sync-fault : (how : RequestEnd) (p : Option Pick) → (how ≡ end.Part → ⊥) → (how ≡ end.Stop → ⊥) → stores.EndsSo stores.syncs how p
    → how ≡ end.Fault
sync-fault end.Part p part stop ends = absurd (part refl)
sync-fault end.Done p part stop ends = absurd ends
sync-fault end.Full p part stop ends = absurd ends
sync-fault end.Fault p part stop ends = refl
sync-fault end.Stop p part stop ends = absurd (stop refl)

pub read-fault : (how : RequestEnd) (p : Option Pick) → (how ≡ end.Part → ⊥) → (how ≡ end.Stop → ⊥) → stores.EndsSo stores.reads how p
    → how ≡ end.Fault
read-fault end.Part p part stop ends = absurd (part refl)
read-fault end.Done p part stop ends = absurd ends
read-fault end.Full p part stop ends = absurd ends
read-fault end.Fault p part stop ends = refl
read-fault end.Stop p part stop ends = absurd (stop refl)

pub call-fault : (how : RequestEnd) (p : Option Pick) → (how ≡ end.Part → ⊥) → (how ≡ end.Done → ⊥) → (how ≡ end.Stop → ⊥)
    → stores.EndsSo stores.calls how p → how ≡ end.Fault
call-fault end.Part p part whole stop ends = absurd (part refl)
call-fault end.Done p part whole stop ends = absurd (whole refl)
call-fault end.Full p part whole stop ends = absurd ends
call-fault end.Fault p part whole stop ends = refl
call-fault end.Stop p part whole stop ends = absurd (stop refl)

-- a part of a request leaves it few calls, by the size of a disk
pub few-made : (s : Site) (u : Uid) (p : Option Pick) (how : RequestEnd) (r : StoreRequest) → s.node.size < 4294967296
    → stores.AllowsStore s u how p r → stores.work_of s r ≡ stores.calls → how ≡ end.Part → r.made < 4294967295
few-made s u p how r small may is part =
    let left : stores.HasCallLeft true end.Part r s.node = subst (λ h. stores.HasCallLeft true h r s.node) part
    (subst (λ w. stores.HasCallLeft (stores.makes_own_call w) how r s.node) is may.call_left) in
    omega (arith, left, small)

-- 4. The turn for the first request

pub turn-as : (s : Site) (r : StoreRequest) (w : stores.Work) (how : RequestEnd) (p : Option Pick) → first_request s.node ≡ Some r
    → w ≡ stores.work_of s r → stores.worked w r how p s ≡ stores.store_turn how p s
turn-as s r w how p first is = ap (λ x. stores.worked x r how p s) is
    ∙ sym (ap (λ o. with_item o (λ q. stores.worked (stores.work_of s q) q how p s) s) first)

-- the turn that may come
pub record Turn (s : Site) (u : Uid) (how : RequestEnd) (p : Option Pick) (w : stores.Work) : Type 0 where
  pub request : StoreRequest
  pub first : first_request s.node ≡ Some request
  pub is : w ≡ stores.work_of s request
  pub serves : Serves s request
  pub ends : stores.EndsSo w how p
  pub may : stores.AllowsStore s u how p request

pub turn-of : (s : Site) (u : Uid) (how : RequestEnd) (p : Option Pick) (w : stores.Work) → IsSoundSite s
    → Some w ≡ option_map (stores.work_of s) (first_request s.node) → IsSomeAnd (first_request s.node) (stores.AllowsStore s u how p)
    → Turn s u how p w
turn-of s u how p w sound works may = go (first_request s.node) refl works may
  where
    go : (o : Option StoreRequest) → first_request s.node ≡ o → Some w ≡ option_map (stores.work_of s) o
        → IsSomeAnd o (stores.AllowsStore s u how p) → Turn s u how p w
    go None at works may = absurd may
    go (Some r) at works may =
        let is : w ≡ stores.work_of s r = cc works in
        record {
          request = r;
          first = at;
          is = is;
          serves = sound-serves s r sound at;
          ends = subst (λ x. stores.EndsSo x how p) (sym is) may.ends;
          may = may;
        }

pub no-turn : (s : Site) (P : StoreRequest → Type 0) → None ≡ option_map (stores.work_of s) (first_request s.node)
    → IsSomeAnd (first_request s.node) P → ⊥
no-turn s P works may = go (first_request s.node) works may
  where
    go : (o : Option StoreRequest) → None ≡ option_map (stores.work_of s) o → IsSomeAnd o P → ⊥
    go None works may = may
    go (Some r) works may = absurd (cc works)

-- what the turn is about, by the first request as the code has it
pub work-first : (s : Site) (w : stores.Work) (rs : List PlainRequest) (f : PlainRequest) → 0 < length rs → f ≡ slice_index_or rs 0 f
    → w ≡ stores.work_of s (request_of f) → Some w ≡ option_map (stores.work_of s) (first (map request_of rs))
work-first s w [] f more read is = absurd (omega (arith, more))
work-first s w (r ∷ rs) f more read is = ap (λ x. Some x) (is ∙ ap (λ (x : PlainRequest). stores.work_of s (request_of x)) read)
