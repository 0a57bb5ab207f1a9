-- What a change of a site does to what its disk knows of it.
use Rattle.std.proofs.Common.{◌≡◌, ℕ, Bool, true, false, cond, List, [], Option, None, Some, is_some, refl, sym, ap, subst, ◌∙◌}
use Rattle.std.specs.List.{filter_map}
use Rattle.std.specs.Option.{option_map}
use Rattle.std.specs.Ordering.{eq_by_cmp}
use Rattle.capability.specs.declared.Uid.{Uid}
use Rattle.capability.proofs.Uids.{uid_cmp-IsAntisymmetric}
use Rattle.eden_value.specs.declared.status.Status.{Status}
use Rattle.eden_value.specs.declared.status.Status.TheVariants as status
use Rattle.eden_model.specs.Map.{with_item, uid_cmp, same_uid, value_at, each_value, rest}
use Rattle.eden_model.proofs.Laws.{eq-same}
use Rattle.eden_model.specs.Traffic.{Traffic, all_replied, orphaned}
use Rattle.eden_model.specs.Crew.{running}
use Rattle.epl_syntax.specs.declared.effect.Answer.{Answer}
use Rattle.epl_syntax.specs.declared.effect.Answer.TheVariants.{Code}
use Rattle.journal.specs.EjectChange.{EjectChange, body, removal}
use Rattle.journal.specs.World.{Site, Node, Eject, Active, StoreRequest, eject_in, on_eject, on_node, on_traffic}
use Rattle.journal.specs.Ejects.{with_active, with_queued, on_active, told, tells, dropped_of, without_requests, deactivated, turned_away}
use Rattle.journal.specs.Stores.{tells_code, request_ended, removed}
use Rattle.checkpoint.specs.Changes.{Facts, facts_of, facts_in}
use Rattle.history_laws.proofs.Frame.{eject-on_eject}
use Rattle.history_laws.proofs.KeptTurns.{value-each}
use Rattle.journal.specs.Sites.{InOrder}
use Rattle.history_laws.proofs.Ordered.{order-each, order-changed}

-- 1. From one site to another

-- all of a node but its Ejects and its requests
abbrev pub bare : Node → Node
bare it = record it { ejects = []; requests = [] }

-- Of the Ejects g changes what is kept and in doubt; f changes the requests; all else of the node stays.
pub record Shift (g : Uid → Facts → Facts) (f : List StoreRequest → List StoreRequest) (s t : Site) : Type 0 where
  pub number : t.number ≡ s.number
  pub its_layout : t.layout ≡ s.layout
  pub rest_of : bare t.node ≡ bare s.node
  pub requests : t.node.requests ≡ f s.node.requests
  pub facts : (u : Uid) → facts_in t u ≡ g u (facts_in s u)
  pub uids : (u : Uid) → is_some (eject_in t u) ≡ is_some (eject_in s u)
  pub in_order : InOrder s.node.ejects → InOrder t.node.ejects

abbrev pub same_facts : Uid → Facts → Facts
same_facts u f = f

abbrev pub same_requests : List StoreRequest → List StoreRequest
same_requests rs = rs

pub shift-same : (s : Site) → Shift same_facts same_requests s s
shift-same s = record {
  number = refl;
  its_layout = refl;
  rest_of = refl;
  requests = refl;
  facts = λ u. refl;
  uids = λ u. refl;
  in_order = λ h. h;
}

pub shift-then : (g h : Uid → Facts → Facts) (f k : List StoreRequest → List StoreRequest) (s t v : Site) → Shift g f s t → Shift h k t v
    → Shift (λ u x. h u (g u x)) (λ rs. k (f rs)) s v
shift-then g h f k s t v a b = record {
  number = b.number ∙ a.number;
  its_layout = b.its_layout ∙ a.its_layout;
  rest_of = b.rest_of ∙ a.rest_of;
  requests = b.requests ∙ ap k a.requests;
  facts = λ u. b.facts u ∙ ap (h u) (a.facts u);
  uids = λ u. b.uids u ∙ a.uids u;
  in_order = λ x. b.in_order (a.in_order x);
}

pub shift-on_traffic : (f : Traffic → Traffic) (s : Site) → Shift same_facts same_requests s (on_traffic f s)
unfolding on_traffic
shift-on_traffic f s = record {
  number = refl;
  its_layout = refl;
  rest_of = refl;
  requests = refl;
  facts = λ u. refl;
  uids = λ u. refl;
  in_order = λ h. h;
}

-- 2. A change of one Eject

some-changed : (b : Bool) (f : Eject → Eject) (o : Option Eject) → is_some (cond b (option_map f o) o) ≡ is_some o
some-changed true f None = refl
some-changed true f (Some e) = refl
some-changed false f o = refl

facts-changed : (b : Bool) (f : Eject → Eject) (o : Option Eject) → ((e : Eject) → facts_of (Some (f e)) ≡ facts_of (Some e))
    → facts_of (cond b (option_map f o) o) ≡ facts_of o
facts-changed true f None same = refl
facts-changed true f (Some e) same = same e
facts-changed false f o same = refl

pub shift-on_eject : (v : Uid) (f : Eject → Eject) (s : Site) → ((e : Eject) → facts_of (Some (f e)) ≡ facts_of (Some e))
    → Shift same_facts same_requests s (on_eject v f s)
unfolding on_eject
shift-on_eject v f s same = record {
  number = refl;
  its_layout = refl;
  rest_of = refl;
  requests = refl;
  facts = λ u. ap facts_of (eject-on_eject v u f s) ∙ facts-changed (eq_by_cmp uid_cmp u v) f (eject_in s u) same;
  uids = λ u. ap is_some (eject-on_eject v u f s) ∙ some-changed (eq_by_cmp uid_cmp u v) f (eject_in s u);
  in_order = order-changed v f s.node.ejects;
}

-- g of what is kept and in doubt of one uid
abbrev pub facts_at : Uid → (Facts → Facts) → Uid → Facts → Facts
facts_at v g u f = cond (same_uid u v) (g f) f

pub shift-at : (v : Uid) (f : Eject → Eject) (g : Facts → Facts) (s : Site) → ((e : Eject) → facts_of (Some (f e)) ≡ g (facts_of (Some e)))
    → is_some (eject_in s v) ≡ true
    → Shift (facts_at v g) same_requests s (on_eject v f s)
unfolding on_eject
shift-at v f g s same held = record {
  number = refl;
  its_layout = refl;
  rest_of = refl;
  requests = refl;
  facts = λ u. ap facts_of (eject-on_eject v u f s) ∙ go u (same_uid u v) refl (eject_in s u) refl;
  uids = λ u. ap is_some (eject-on_eject v u f s) ∙ some-changed (eq_by_cmp uid_cmp u v) f (eject_in s u);
  in_order = order-changed v f s.node.ejects;
}
  where
    go : (u : Uid) (b : Bool) → same_uid u v ≡ b → (o : Option Eject) → eject_in s u ≡ o
        → facts_of (cond b (option_map f o) o) ≡ cond b (g (facts_of o)) (facts_of o)
    go u true is None at = absurd (let e : u ≡ v = eq-same uid_cmp uid_cmp-IsAntisymmetric u v is in
        let bad : false ≡ true = subst (λ o. is_some o ≡ true) (ap (eject_in s) (sym e) ∙ at) held in cc bad)
    go u true is (Some e) at = same e
    go u false is o at = refl

-- each Eject changed, and its requests
pub shift-each : (f : Eject → Eject) (g : Facts → Facts) (s : Site) → ((o : Option Eject) → facts_of (option_map f o) ≡ g (facts_of o))
    → Shift (λ u x. g x) same_requests s (on_node (λ it. record it { ejects = each_value f it.ejects }) s)
unfolding on_node
shift-each f g s same = record {
  number = refl;
  its_layout = refl;
  rest_of = refl;
  requests = refl;
  facts = λ u. ap facts_of (value-each u f s.node.ejects) ∙ same (value_at uid_cmp u s.node.ejects);
  uids = λ u. ap is_some (value-each u f s.node.ejects) ∙ some-each (value_at uid_cmp u s.node.ejects);
  in_order = order-each f s.node.ejects;
}
  where
    some-each : (o : Option Eject) → is_some (option_map f o) ≡ is_some o
    some-each None = refl
    some-each (Some e) = refl

facts-active : (f : Active → Active) (e : Eject) → facts_of (Some (on_active f e)) ≡ facts_of (Some e)
facts-active f e = go e.active
  where
    go : (o : Option Active) → facts_of (Some (with_item o (λ it. with_active (Some (f it)) e) e)) ≡ facts_of (Some e)
    go None = refl
    go (Some it) = refl

pub shift-tells : (v : Uid) (p : ℕ) (a : Answer) (s : Site) → Shift same_facts same_requests s (tells v p a s)
shift-tells v p a s = shift-on_eject v (on_active (told p a)) s (facts-active (told p a))

-- 3. The end of a request

pub shift-requests : (f : List StoreRequest → List StoreRequest) (s : Site)
    → Shift same_facts f s (on_node (λ it. record it { requests = f it.requests }) s)
unfolding on_node
shift-requests f s = record {
  number = refl;
  its_layout = refl;
  rest_of = refl;
  requests = refl;
  facts = λ u. refl;
  uids = λ u. refl;
  in_order = λ h. h;
}

shift-code : (v : Uid) (p : Option ℕ) (why : Status) (s : Site) → Shift same_facts same_requests s (tells_code v p why s)
shift-code v None why s = shift-same s
shift-code v (Some p) why s = shift-tells v p (Code why) s

pub shift-ended : (r : StoreRequest) (why : Status) (s : Site) → Shift same_facts rest s (request_ended r why s)
shift-ended r why s = shift-then same_facts same_facts rest same_requests s (on_node (λ it. record it { requests = rest it.requests }) s)
    (request_ended r why s)
    (shift-requests rest s) (shift-code r.uid r.process why (on_node (λ it. record it { requests = rest it.requests }) s))

-- 4. A removal that is done: the active part goes, with the requests that made no call

pub shift-item : {X : Type 0} (f : List StoreRequest → List StoreRequest) (s : Site) (o : Option X) (k : X → Site)
    → ((x : X) → o ≡ Some x → Shift same_facts same_requests s (k x)) → Shift same_facts same_requests s (with_item o k s)
shift-item f s None k each = shift-same s
shift-item f s (Some x) k each = each x refl

pub shift-both : (v : Uid) (f : Eject → Eject) (g : Traffic → Traffic) (s : Site)
    → ((e : Eject) → facts_of (Some (f e)) ≡ facts_of (Some e)) → Shift same_facts same_requests s (on_traffic g (on_eject v f s))
shift-both v f g s same = shift-then same_facts same_facts same_requests same_requests s (on_eject v f s) (on_traffic g (on_eject v f s))
    (shift-on_eject v f s same) (shift-on_traffic g (on_eject v f s))

pub shift-turned_away : (v : Uid) (why : Status) (s : Site) → Shift same_facts same_requests s (turned_away v why s)
shift-turned_away v why s = shift-item same_requests s (eject_in s v) _
    (λ e is. shift-both v (with_queued []) (all_replied why e.queued) s (λ e. refl))

-- which requests are left once the active part of this Eject is gone, if it has one
abbrev pub dropped_if : Bool → Uid → List StoreRequest → List StoreRequest
dropped_if true v rs = filter_map (dropped_of v) rs
dropped_if false v rs = rs

abbrev pub is_active_in : Site → Uid → Bool
is_active_in s v = with_item (eject_in s v) (λ e. is_some e.active) false

pub shift-deactivated : (v : Uid) (s : Site) → Shift same_facts (dropped_if (is_active_in s v) v) s (deactivated v s)
shift-deactivated v s = go (eject_in s v)
  where
    one : (a : Option Active) → Shift same_facts (dropped_if (is_some a) v) s
        (with_item a (λ it. on_traffic (λ t. all_replied status.Dropped (running it.crew) (orphaned v t))
        (on_eject v (with_active None) (on_node (without_requests v) s))) s)
    one None = shift-same s
    one (Some it) = shift-then same_facts same_facts (filter_map (dropped_of v)) same_requests s (on_node (without_requests v) s) _
        (shift-requests (filter_map (dropped_of v)) s)
        (shift-both v (with_active None) (λ t. all_replied status.Dropped (running it.crew) (orphaned v t)) (on_node (without_requests v) s)
        (λ e. refl))

    go : (o : Option Eject) → Shift same_facts (dropped_if (with_item o (λ e. is_some e.active) false) v) s
        (with_item o (λ e. with_item e.active (λ it. on_traffic (λ t. all_replied status.Dropped (running it.crew) (orphaned v t))
        (on_eject v (with_active None) (on_node (without_requests v) s))) s) s)
    go None = shift-same s
    go (Some e) = one e.active

abbrev pub removed_requests : EjectChange → Bool → Uid → List StoreRequest → List StoreRequest
removed_requests (body bytes) active v rs = rs
removed_requests removal active v rs = dropped_if active v rs

pub shift-removed : (c : EjectChange) (v : Uid) (s : Site) → Shift same_facts (removed_requests c (is_active_in s v) v) s (removed c v s)
shift-removed (body bytes) v s = shift-same s
shift-removed removal v s = shift-then same_facts same_facts (dropped_if (is_active_in s v) v) same_requests s (deactivated v s)
    (removed removal v s) (shift-deactivated v s) (shift-turned_away v status.Gone (deactivated v s))
