-- An Eject that a command creates is of the type that the command names.
use Rattle.std.proofs.Common.{◌≡◌, ℕ, Bool, true, false, cond, List, Option, None, Some, is_some, refl, ap, sym, ◌∙◌, subst}
use Rattle.std.specs.Prelude.{IsTrue}
use Rattle.std.specs.Option.{option_map}
use Rattle.std.specs.Ordering.{eq_by_cmp}
use Rattle.std.specs.FinMap.Entries.{find-put}
use Rattle.std.proofs.lemmas.Cmp.{tied_itself}
use Rattle.capability.specs.declared.Uid.{Uid}
use Rattle.capability.proofs.Uids.{uid_cmp_total}
use Rattle.eden_value.specs.declared.status.Status.{Status}
use Rattle.eden_model.specs.Map.{with_item, value_at, uid_cmp}
use Rattle.epl_syntax.specs.Edentype.{Edentype}
use Rattle.epl_syntax.specs.Meaning.{type_of, first_values}
use Rattle.journal.specs.declared.command.Command.{Command}
use Rattle.journal.specs.declared.command.Command.TheVariants as command
use Rattle.journal.specs.declared.event.Event.TheVariants as event
use Rattle.journal.specs.declared.event.Entry.{Entry}
use Rattle.journal.specs.World.{World, Site, Node, Eject, Active, node_at, eject_at, site_of, at_node, eject_in, on_node}
use Rattle.journal.specs.Ejects.{with_active, fresh, newborn, born}
use Rattle.journal.specs.Commands.{AllowsCommand, type_name_of, born_as}
use Rattle.journal.specs.Step.{clocked, key_of, happened, next}
use Rattle.journal.specs.Sites.{active_in}
use Rattle.history_laws.proofs.Frame.{node-at_same, after_at}
use Rattle.stream_laws.specs.Chains.{type_at}
use Rattle.std.proofs.Common.{Result, Ok, Err, ap₂}
use Rattle.std.specs.Prelude.{IsSomeAnd}
use Rattle.capability.specs.Capability.{full}
use Rattle.eden_value.specs.declared.status.Status.TheVariants as status
use Rattle.eden_model.specs.Crew.{Process as Worker}
use Rattle.epl_syntax.specs.declared.effect.Answer.{Answer}
use Rattle.epl_syntax.specs.declared.effect.Answer.TheVariants.{Created}
use Rattle.epl_syntax.specs.declared.effect.Effect.TheVariants as effect
use Rattle.epl_syntax.specs.Meaning.{Turned}
use Rattle.journal.specs.declared.event.Shown.TheVariants as shown
use Rattle.journal.specs.World.{on_eject, reaches}
use Rattle.journal.specs.Ejects.{on_active, told, next_uid}
use Rattle.journal.specs.Processes.{AllowsTurn, CreatesKnown, shown_of, shown_creation, worker_at, turn_of, turned, serving, creates}
use Rattle.journal.specs.Processes.{effected}
use Rattle.journal.specs.Processes.{process_turn}
use Rattle.journal.specs.Step.{AllowsAt}
use Rattle.journal.specs.Sites.{InOrder}
use Rattle.history_laws.proofs.Frame.{eject-on_eject}
use Rattle.history_laws.proofs.EveryNode.{next-following}
use Rattle.history_laws.proofs.Creations.{next-active}
use Rattle.stream_laws.proofs.Sites.{eject-clocked, eject-counted, turn-is, types-on}

kind-of : Option Eject → Option Edentype
kind-of o = with_item (active_in o) (λ (it : Active). Some it.kind) None

born-own : (u : Uid) (t : Edentype) (s : Site) → eject_in (born u (fresh t (first_values t)) s) u
    ≡ Some (with_item (eject_in s u) (with_active (Some (fresh t (first_values t)))) (newborn (fresh t (first_values t))))
unfolding on_node
born-own u t s = find-put uid_cmp uid_cmp_total u u (with_item (eject_in s u) (with_active (Some (fresh t (first_values t))))
    (newborn (fresh t (first_values t)))) s.node.ejects ∙ rw (tied_itself uid_cmp_total u) refl

born-kind : (u : Uid) (t k : Edentype) (w : World) → type_at (at_node u.node (born u (fresh t (first_values t))) w) u ≡ Some k → t ≡ k
born-kind u t k w is = go (node_at w u.node) refl
    (sym (ap (λ o. with_item (active_in (with_item o (λ (it : Node). value_at uid_cmp u it.ejects) None))
    (λ (it : Active). Some it.kind) None)
    (node-at_same u.node (born u (fresh t (first_values t))) w)) ∙ is)
  where
    old : (o : Option Eject) → with_item (active_in (Some (with_item o (with_active (Some (fresh t (first_values t))))
        (newborn (fresh t (first_values t)))))) (λ (it : Active). Some it.kind) None ≡ Some k → t ≡ k
    old None e = cc e
    old (Some y) e = cc e

    go : (o : Option Node) → node_at w u.node ≡ o
        → with_item (active_in (with_item (option_map (after_at u.node (born u (fresh t (first_values t))) w) o)
        (λ (it : Node). value_at uid_cmp u it.ejects) None)) (λ (it : Active). Some it.kind) None ≡ Some k → t ≡ k
    go None at e = absurd (cc e)
    go (Some nd) at e = old (eject_in (site_of w u.node nd) u)
        (sym (ap (λ o. with_item (active_in o) (λ (it : Active). Some it.kind) None) (born-own u t (site_of w u.node nd))) ∙ e)

pub made-typed : (w : World) (x : Command) (e : Entry) (name : List ℕ) (why : Status) (u : Uid) (k : Edentype)
    → e.event ≡ event.Made name why (Some u) → AllowsCommand w x (event.Made name why (Some u)) → type_at (next w (Some x) e) u ≡ Some k
    → type_of w.types (type_name_of x) ≡ Some k
made-typed w (command.Create said n type_name) e name why u k is allowed typed = go (type_of w.types type_name) refl
    (sym (ap (λ o. with_item (active_in o) (λ (it : Active). Some it.kind) None)
    (eject-counted u (clocked e.node e.clock (happened w (Some (command.Create said n type_name)) e.event)) (key_of e.event)
    ∙ eject-clocked u (happened w (Some (command.Create said n type_name)) e.event) e.node e.clock
    ∙ ap (λ ev. eject_at (happened w (Some (command.Create said n type_name)) ev) u) is)) ∙ typed)
  where
    go : (o : Option Edentype) → type_of w.types type_name ≡ o → type_at (born_as u (type_of w.types type_name) w) u ≡ Some k
        → type_of w.types type_name ≡ Some k
    go None at t = absurd (let bad : IsTrue (is_some {T = Edentype} None) = subst (λ o. IsTrue (is_some o)) at allowed.1 in cc bad)
    go (Some t) at typed = at ∙ ap Some (born-kind u t k w (subst (λ o. type_at (born_as u o w) u ≡ Some k) at typed))
made-typed w _ e name why u k is allowed typed = absurd allowed

-- and one that a process creates of the type that its effect names
kind-told : (b : Bool) (p : ℕ) (a : Answer) (t k : Edentype) (old : Option Eject) → kind-of (cond b (option_map (on_active (told p a))
    (Some (with_item old (with_active (Some (fresh t (first_values t)))) (newborn (fresh t (first_values t))))))
    (Some (with_item old (with_active (Some (fresh t (first_values t)))) (newborn (fresh t (first_values t)))))) ≡ Some k → t ≡ k
unfolding kind-of
kind-told true p a t k None e = cc e
kind-told true p a t k (Some y) e = cc e
kind-told false p a t k None e = cc e
kind-told false p a t k (Some y) e = cc e

created-kind : (v : Uid) (p : ℕ) (u : Uid) (s : Site) (o : Option Edentype) (k : Edentype) → IsTrue (is_some o)
    → kind-of (eject_in (creates v p o (Ok u) s) u) ≡ Some k → o ≡ Some k
unfolding kind-of
created-kind v p u s None k known e = absurd (cc known)
created-kind v p u s (Some t) k known e = ap Some (kind-told (eq_by_cmp uid_cmp u v) p (Created status.Ok (Some (full u))) t k
    (eject_in s u)
    (sym (ap (λ o. with_item (active_in o) (λ (it : Active). Some it.kind) None)
    (eject-on_eject v u (on_active (told p (Created status.Ok (Some (full u))))) (born u (fresh t (first_values t)) s)
    ∙ ap (λ o. cond (eq_by_cmp uid_cmp u v) (option_map (on_active (told p (Created status.Ok (Some (full u))))) o) o) (born-own u t s)))
    ∙ e))

-- what is shown of a creation tells the uid
shown-ok : (made : Result Uid Status) (u : Uid) → shown.Created u ≡ shown_creation made → made ≡ Ok u
shown-ok (Ok v) u is = ap Ok (let same : u ≡ v = cc is in sym same)
shown-ok (Err why) u is = absurd (cc is)

pub created-typed : (w : World) (e : Entry) (nd : Node) (v : Uid) (p : ℕ) (u : Uid) (y : Eject) (a : Active) (t : Turned) (name : List ℕ)
    (k : Edentype) → e.event ≡ event.Process v p (shown.Created u) → node_at w v.node ≡ Some nd → InOrder nd.ejects
    → AllowsAt (site_of w v.node nd) (event.Process v p (shown.Created u)) → value_at uid_cmp v nd.ejects ≡ Some y → y.active ≡ Some a
    → turn_of v a p ≡ Some t → t.effect ≡ effect.Create name → type_at (next w None e) u ≡ Some k → type_of w.types name ≡ Some k
unfolding kind-of
created-typed w e nd v p u y a t name k is at ordered allowed is_y some turns creates_it typed =
    created-kind v p u mid (type_of w.types name) k (known worker)
    (sym (ap (λ o. with_item (active_in o) (λ (it : Active). Some it.kind) None) left) ∙ typed)
  where
    s : Site
    s = site_of w v.node nd

    mid : Site
    mid = on_eject v (on_active (turned p t)) (site_of w v.node nd)

    worker : IsSomeAnd (worker_at a p) (λ q. AllowsTurn (site_of w v.node nd) v p (shown.Created u) a q)
    worker = subst (λ o. IsSomeAnd o (λ a. IsSomeAnd (worker_at a p) (λ q. AllowsTurn (site_of w v.node nd) v p
        (shown.Created u) a q))) some
        (subst (λ o. IsSomeAnd o (λ e. IsSomeAnd e.active (λ a. IsSomeAnd (worker_at a p)
        (λ q. AllowsTurn (site_of w v.node nd) v p (shown.Created u) a q)))) is_y allowed)

    by-turn : (P : Turned → Type 0) → IsSomeAnd (turn_of v a p) P → P t
    by-turn P h = subst (λ o. IsSomeAnd o P) turns h

    of-worker : {P : Type 0} (o : Option Worker) → IsSomeAnd o (λ q. AllowsTurn (site_of w v.node nd) v p (shown.Created u) a q)
        → ((q : Worker) → AllowsTurn (site_of w v.node nd) v p (shown.Created u) a q → P) → P
    of-worker None h f = absurd h
    of-worker (Some q) h f = f q h

    known : IsSomeAnd (worker_at a p) (λ q. AllowsTurn (site_of w v.node nd) v p (shown.Created u) a q)
        → IsTrue (is_some (type_of w.types name))
    known h = of-worker (worker_at a p) h (λ q x. subst (CreatesKnown w.types) creates_it
        (by-turn (λ t. CreatesKnown w.types t.effect) x.known))

    comes : next_uid (site_of w v.node nd) ≡ Ok u
    comes = of-worker (worker_at a p) worker (λ q x. shown-ok (next_uid (site_of w v.node nd)) u
        (by-turn (λ t. shown.Created u ≡ shown_of (site_of w v.node nd) q.serves t.effect) x.shows
        ∙ ap (shown_of (site_of w v.node nd) q.serves) creates_it))

    node : u.node ≡ v.node
    node = ap (λ (z : Uid). z.node) (next-following (site_of w v.node nd) u comes)

    left : eject_at (next w None e) u ≡ eject_in (creates v p (type_of w.types name) (Ok u) mid) u
    left = eject-counted u (clocked e.node e.clock (happened w None e.event)) (key_of e.event)
        ∙ eject-clocked u (happened w None e.event) e.node e.clock
        ∙ ap (λ ev. eject_at (happened w None ev) u) is
        ∙ ap (λ m. with_item (node_at (at_node v.node (process_turn (reaches w v.node) v p) w) m)
        (λ (it : Node). value_at uid_cmp u it.ejects) None) node
        ∙ ap (λ o. with_item o (λ (it : Node). value_at uid_cmp u it.ejects) None)
        (node-at_same v.node (process_turn (reaches w v.node) v p) w
        ∙ ap (option_map (after_at v.node (process_turn (reaches w v.node) v p) w)) at)
        ∙ ap (λ (z : Site). eject_in z u) (turn-is (reaches w v.node) v p (site_of w v.node nd) y a t is_y some turns)
        ∙ ap (λ eff. eject_in (effected (reaches w v.node) v p (serving a p) a.kind t.vars eff mid) u) creates_it
        ∙ ap₂ (λ ts made. eject_in (creates v p (type_of ts name) made mid) u) (types-on v (on_active (turned p t)) (site_of w v.node nd))
        (next-active v (turned p t) (site_of w v.node nd) ordered ∙ comes)
