-- The capabilities that active parts hold, in their values and in what their processes are to do. A turn brings in those that its entry
-- grants, and no others.
use Rattle.std.proofs.Common.{◌≡◌, inl, inr, ◌==◌, ◌+◌, ℕ, nat_le, Bool, true, false, cond, not, List, [], ◌∷◌, ◌++◌, Option, None, Some}
use Rattle.std.proofs.Common.{Result, Ok, Err, length, refl, sym, ◌∙◌, ap, subst}
use Rattle.std.specs.Prelude.{IsSomeAnd, IfSome}
use Rattle.std.specs.List.{filter, flat_map}
use Rattle.std.specs.Option.{option_map}
use Rattle.std.specs.Ordering.{nat_cmp, eq_by_cmp}
use Rattle.std.specs.declared.cmp.Ordering.{Ordering}
use Rattle.std.specs.declared.cmp.Ordering.TheVariants.{Less, Equal, Greater}
use Rattle.std.specs.FinMap.Entries.{by_order, find-put}
use Rattle.capability.specs.declared.Uid.{Uid}
use Rattle.capability.specs.declared.Cap.{Cap}
use Rattle.capability.specs.declared.TheConstants.{BODY_LIMIT}
use Rattle.capability.specs.Capability.{full}
use Rattle.capability.proofs.Uids.{uid_cmp_total, uid_cmp-IsAntisymmetric}
use Rattle.eden_value.specs.Datum.{Datum}
use Rattle.eden_value.specs.Caps.{caps_of}
use Rattle.eden_value.specs.declared.status.Status.{Status}
use Rattle.eden_value.specs.declared.status.Status.TheVariants as status
use Rattle.eden_codec.specs.declared.rep.Rep.{Rep}
use Rattle.eden_codec.specs.Spelling.{spelling}
use Rattle.eden_codec.specs.Reading.{reading}
use Rattle.eden_model.specs.Map.{with_item, rest, uid_cmp, value_at, put_at, changed_at, where_key, each_value}
use Rattle.eden_model.proofs.Laws.{eq-same}
use Rattle.eden_model.specs.Traffic.{Traffic, Call, held, call_at, changed_call, at_place, taken, replied, all_replied, orphaned}
use Rattle.eden_model.specs.Traffic.{next_call, with_call, without_node}
use Rattle.eden_model.specs.declared.Asker.{Asker}
use Rattle.eden_model.specs.declared.Asker.TheVariants.{Shell, Eject as Process}
use Rattle.eden_model.specs.Crew.{Crew, Process as Worker, Invocation, outside, set_waits, locked, left, waited, signalled, running}
use Rattle.epl_syntax.specs.declared.effect.Answer.{Answer}
use Rattle.epl_syntax.specs.declared.effect.Answer.TheVariants.{Go, Code, Reply as Told, Created as Made}
use Rattle.epl_syntax.specs.declared.effect.Effect.{Effect}
use Rattle.epl_syntax.specs.declared.effect.Effect.TheVariants as effect
use Rattle.epl_syntax.specs.Edentype.{Edentype}
use Rattle.epl_syntax.specs.Meaning.{Rest, Turned, turn, declared, rep_of, type_of, first_values, values_from, durable_from, started_from}
use Rattle.epl_syntax.specs.Authority.{rest_caps, reply_caps, answer_caps, effect_caps, AreLeft}
use Rattle.epl_syntax.proofs.Authority.{turn_keeps_caps, begin_keeps_caps, declared_have_none, first_have_none, durable_keep_caps}
use Rattle.epl_syntax.proofs.Authority.{start_keeps_caps}
use Rattle.passive_store.specs.declared.store.Pick.{Pick}
use Rattle.passive_store.specs.declared.store.Pick.TheVariants as pick
use Rattle.journal.specs.EjectChange.{EjectChange, body, removal, kept_of}
use Rattle.journal.specs.declared.event.BootEnd.{BootEnd}
use Rattle.journal.specs.declared.event.BootEnd.TheVariants as boot_end
use Rattle.journal.specs.declared.event.StartEnd.{StartEnd}
use Rattle.journal.specs.declared.event.StartEnd.TheVariants as start_end
use Rattle.journal.specs.declared.event.RequestEnd.{RequestEnd}
use Rattle.journal.specs.declared.event.RequestEnd.TheVariants as end
use Rattle.journal.specs.declared.event.Event.{Event}
use Rattle.journal.specs.declared.event.Event.TheVariants as event
use Rattle.journal.specs.declared.event.Shown.{Shown}
use Rattle.journal.specs.declared.event.Shown.TheVariants as shown
use Rattle.journal.specs.World.{World, Site, Node, Eject, Active, Task, StoreRequest, node_at, site_of, reaches, eject_in, on_eject}
use Rattle.journal.specs.World.{on_node, on_traffic}
use Rattle.journal.specs.Ejects.{with_active, with_queued, on_active, on_crew, is_there, told, tells, without_requests, deactivated}
use Rattle.journal.specs.Ejects.{turned_away, gone_if_unkept, tasks_from, fresh, next_uid, newborn, born}
use Rattle.journal.specs.Deliveries.{requested, tells_asker, received, heard}
use Rattle.journal.specs.Processes.{AllowsTurn, worker_at, shown_of, shown_creation, turn_of, turned, serving, with_start, start}
use Rattle.journal.specs.Processes.{without_process, asks_store, answers, refused_at_once, waits_or_told, creates, checkpoints, effected}
use Rattle.journal.specs.Processes.{process_turn}
use Rattle.journal.specs.Settling.{first_request, settled_eject, settled, unsynced, written_with, to_settle}
use Rattle.journal.specs.Crashes.{fallen, down, crashed}
use Rattle.journal.specs.Stores.{Work, syncs, reads, unkept, without_room, calls, work_of, more_made, doubted, tells_code, request_ended}
use Rattle.journal.specs.Stores.{removed, stored, done, worked, store_turn}
use Rattle.journal.specs.Starts.{AllowsActivate, StartsFrom, start_of, misfits_answered, activated, start_settled, activation_turn}
use Rattle.journal.specs.Boots.{booted_node, boot_turn}
use Rattle.journal.specs.Step.{AllowsAt, site_turn}
use Rattle.journal.specs.Sites.{InOrder}
use Rattle.journal.specs.Granted.{stored_caps, kept_settled, IsBelowOne, AllBelow, effect_uses, AllGranted, granted, eject}
use Rattle.journal.specs.Run.{Step}
use Rattle.history_laws.proofs.Frame.{eject-on_eject}
use Rattle.history_laws.proofs.KeptTurns.{value-each}
use Rattle.history_laws.proofs.Ordered.{order-each, order-put, order-changed}
use Rattle.history_laws.proofs.EveryNode.{IsKeptBy, IsAt}
use Rattle.history_laws.proofs.Creations.{next-active}

-- 1. Below those that were granted

one-more : (c : Cap) (ds more : List Cap) → IsBelowOne c ds → IsBelowOne c (ds ++ more)
one-more c [] more h = absurd h
one-more c (d ∷ ds) more (inl h) = inl h
one-more c (d ∷ ds) more (inr h) = inr (one-more c ds more h)

one-later : (c : Cap) (ds more : List Cap) → IsBelowOne c more → IsBelowOne c (ds ++ more)
one-later c [] more h = h
one-later c (d ∷ ds) more h = inr (one-later c ds more h)

pub below-more : (cs ds more : List Cap) → AllBelow cs ds → AllBelow cs (ds ++ more)
below-more [] ds more h = tt
below-more (c ∷ cs) ds more h = (one-more c ds more h.0, below-more cs ds more h.1)

pub below-later : (cs ds more : List Cap) → AllBelow cs more → AllBelow cs (ds ++ more)
below-later [] ds more h = tt
below-later (c ∷ cs) ds more h = (one-later c ds more h.0, below-later cs ds more h.1)

pub below-both : (xs ys ds : List Cap) → AllBelow xs ds → AllBelow ys ds → AllBelow (xs ++ ys) ds
below-both [] ys ds h k = k
below-both (x ∷ xs) ys ds h k = (h.0, below-both xs ys ds h.1 k)

pub below-first : (xs ys ds : List Cap) → AllBelow (xs ++ ys) ds → AllBelow xs ds
below-first [] ys ds h = tt
below-first (x ∷ xs) ys ds h = (h.0, below-first xs ys ds h.1)

pub below-second : (xs ys ds : List Cap) → AllBelow (xs ++ ys) ds → AllBelow ys ds
below-second [] ys ds h = h
below-second (x ∷ xs) ys ds h = below-second xs ys ds h.1

-- 2. What an active part has: its own capability, those in its values, and those in what its processes are to do and are told

pub record TaskHas (t : Task) (ds : List Cap) : Type 0 where
  pub rest : AllBelow (rest_caps t.rest) ds
  pub answer : AllBelow (answer_caps t.answer) ds

abbrev pub TasksHave : List (ℕ × Task) → List Cap → Type 0
TasksHave [] ds = Unit {0}
TasksHave (t ∷ ts) ds = TaskHas t.1 ds × TasksHave ts ds

pub record Has (u : Uid) (ds : List Cap) (it : Active) : Type 0 where
  pub own : IsBelowOne (full u) ds
  pub vars : AllBelow (caps_of it.vars) ds
  pub tasks : TasksHave it.tasks ds

-- an Eject, and one that may be there: it has nothing where it is not active
abbrev pub EjectHas : Uid → List Cap → Eject → Type 0
EjectHas u ds e = IfSome e.active (Has u ds)

abbrev pub EntryHas : Uid → List Cap → Option Eject → Type 0
EntryHas u ds o = IfSome o (EjectHas u ds)

-- of more
tasks-more : (ts : List (ℕ × Task)) (ds more : List Cap) → TasksHave ts ds → TasksHave ts (ds ++ more)
tasks-more [] ds more h = tt
tasks-more (t ∷ ts) ds more h = (
  record {
    rest = below-more (rest_caps t.1.rest) ds more h.0.rest;
    answer = below-more (answer_caps t.1.answer) ds more h.0.answer;
  },
  tasks-more ts ds more h.1,
)

pub entry-more : (u : Uid) (ds more : List Cap) (o : Option Eject) → EntryHas u ds o → EntryHas u (ds ++ more) o
entry-more u ds more None h = tt
entry-more u ds more (Some e) h = go e.active h
  where
    go : (a : Option Active) → IfSome a (Has u ds) → IfSome a (Has u (ds ++ more))
    go None x = tt
    go (Some it) x = record {
      own = one-more (full u) ds more x.own;
      vars = below-more (caps_of it.vars) ds more x.vars;
      tasks = tasks-more it.tasks ds more x.tasks;
    }

-- tasks that are put, changed and taken away
tasks-put : (p : ℕ) (t : Task) (ts : List (ℕ × Task)) (ds : List Cap) → TaskHas t ds → TasksHave ts ds
    → TasksHave (put_at nat_cmp p t ts) ds
tasks-put p t [] ds new h = (new, tt)
tasks-put p t (e ∷ ts) ds new h = go (nat_cmp p e.0) (tasks-put p t ts ds new h.1)
  where
    go : (o : Ordering) → TasksHave (put_at nat_cmp p t ts) ds
        → TasksHave (by_order o ((p, t) ∷ e ∷ ts) ((e.0, t) ∷ ts) (e ∷ put_at nat_cmp p t ts)) ds
    go Less x = (new, h)
    go Equal x = (new, h.1)
    go Greater x = (h.0, x)

tasks-found : (p : ℕ) (ts : List (ℕ × Task)) (ds : List Cap) → TasksHave ts ds → IfSome (value_at nat_cmp p ts) (λ t. TaskHas t ds)
tasks-found p [] ds h = tt
tasks-found p (e ∷ ts) ds h = go (eq_by_cmp nat_cmp p e.0) (tasks-found p ts ds h.1)
  where
    go : (b : Bool) → IfSome (value_at nat_cmp p ts) (λ t. TaskHas t ds)
        → IfSome (cond b (Some e.1) (value_at nat_cmp p ts)) (λ t. TaskHas t ds)
    go true x = h.0
    go false x = x

tasks-changed : (p : ℕ) (f : Task → Task) (ts : List (ℕ × Task)) (ds : List Cap) → ((t : Task) → TaskHas t ds → TaskHas (f t) ds)
    → TasksHave ts ds → TasksHave (changed_at nat_cmp p f ts) ds
tasks-changed p f ts ds keep h = go (value_at nat_cmp p ts) (tasks-found p ts ds h)
  where
    go : (o : Option Task) → IfSome o (λ t. TaskHas t ds) → TasksHave (with_item o (λ t. put_at nat_cmp p (f t) ts) ts) ds
    go None x = h
    go (Some t) x = tasks-put p (f t) ts ds (keep t x) h

tasks-where : (test : ℕ → Bool) (ts : List (ℕ × Task)) (ds : List Cap) → TasksHave ts ds → TasksHave (where_key nat_cmp test ts) ds
tasks-where test [] ds h = tt
tasks-where test (e ∷ ts) ds h = go (test e.0) (tasks-where test ts ds h.1)
  where
    go : (b : Bool) → TasksHave (where_key nat_cmp test ts) ds
        → TasksHave (cond b (e ∷ where_key nat_cmp test ts) (where_key nat_cmp test ts)) ds
    go true x = (h.0, x)
    go false x = x

tasks-from : (n : ℕ) (rs : List Rest) (ds : List Cap) → AllBelow (flat_map rest_caps rs) ds → TasksHave (tasks_from n rs) ds
tasks-from n [] ds h = tt
tasks-from n (r ∷ rs) ds h = (
  record { rest = below-first (rest_caps r) (flat_map rest_caps rs) ds h; answer = tt },
  tasks-from (n + 1) rs ds (below-second (rest_caps r) (flat_map rest_caps rs) ds h),
)

-- an active part that begins
has-fresh : (u : Uid) (t : Edentype) (vars : List Datum) (ds : List Cap) → IsBelowOne (full u) ds → AllBelow (caps_of vars) ds
    → Has u ds (fresh t vars)
has-fresh u t vars ds own h = record {
  own = own;
  vars = h;
  tasks = tasks-from 1 (declared t) ds (subst (λ cs. AllBelow cs ds) (sym (declared_have_none t)) tt);
}

has-told : (u : Uid) (ds : List Cap) (p : ℕ) (a : Answer) (it : Active) → AllBelow (answer_caps a) ds → Has u ds it → Has u ds (told p a it)
has-told u ds p a it new h = record {
  own = h.own;
  vars = h.vars;
  tasks = tasks-changed p (λ t. record t { answer = a }) it.tasks ds (λ t x. record { rest = x.rest; answer = new }) h.tasks;
}

has-crew : (u : Uid) (ds : List Cap) (f : Crew → Crew) (it : Active) → Has u ds it → Has u ds (on_crew f it)
has-crew u ds f it h = record { own = h.own; vars = h.vars; tasks = h.tasks }

has-without : (u : Uid) (ds : List Cap) (p : ℕ) (it : Active) → Has u ds it → Has u ds (without_process p it)
has-without u ds p it h = record { own = h.own; vars = h.vars; tasks = tasks-where (λ k. not (k == p)) it.tasks ds h.tasks }

has-started : (u : Uid) (ds : List Cap) (traffic : Traffic) (k p : ℕ) (c : Call) (it : Active) → AllBelow (caps_of c.args) ds → Has u ds it
    → Has u ds (with_start traffic k p c it)
has-started u ds traffic k p c it args h = record {
  own = h.own;
  vars = h.vars;
  tasks = tasks-put p _ it.tasks ds (record { rest = begin_keeps_caps ds it.kind c.operation c.args args; answer = tt }) h.tasks;
}

-- what a turn of a process leaves, of what the active part has
pub turn-left : (u : Uid) (ds : List Cap) (it : Active) (p : ℕ) (t : Turned) → turn_of u it p ≡ Some t → Has u ds it → AreLeft ds t
turn-left u ds it p t is h = go (value_at nat_cmp p it.tasks) (tasks-found p it.tasks ds h.tasks) is
  where
    go : (o : Option Task) → IfSome o (λ x. TaskHas x ds) → with_item o (λ x. Some (turn it.kind it.vars x.rest x.answer u)) None ≡ Some t
        → AreLeft ds t
    go None x e = absurd (cc e)
    go (Some task) x e =
        let same : turn it.kind it.vars task.rest task.answer u ≡ t = cc e in
        subst (AreLeft ds) same (turn_keeps_caps ds it.kind it.vars task.rest task.answer u
        (record { vars = h.vars; rest = x.rest; answer = x.answer; own = h.own }))

has-turned : (u : Uid) (ds : List Cap) (p : ℕ) (t : Turned) (it : Active) → AreLeft ds t → Has u ds it → Has u ds (turned p t it)
has-turned u ds p t it left h = record {
  own = h.own;
  vars = left.vars;
  tasks = tasks-changed p (λ old. record { rest = t.rest; answer = Go }) it.tasks ds
      (λ old x. record { rest = left.rest; answer = tt }) h.tasks;
}

-- what the effect of such a turn uses was granted
pub effect-uses : (u : Uid) (t : Edentype) (vars : List Datum) (e : Effect) (past : List Step)
    → AllBelow (caps_of vars) (granted (eject u) past)
    → AllBelow (effect_caps e) (granted (eject u) past) → AllGranted (effect_uses u t vars e) past
effect-uses u t vars (effect.Return results) past h k = (k, tt)
effect-uses u t vars (effect.Invoke target operation args) past h k = (k, tt)
effect-uses u t vars effect.Checkpoint past h k = (durable_keep_caps (granted (eject u) past) t vars h, tt)
effect-uses u t vars _ past h k = tt

-- an Eject that starts has the capabilities of its bytes, and its own
start-has : (types : List Edentype) (bytes : List ℕ) (me : Uid) (begun : Edentype × List Datum) (ds : List Cap)
    → start_of types bytes me ≡ Some begun
    → IsBelowOne (full me) ds → AllBelow (stored_caps bytes) ds → AllBelow (caps_of (values_from begun.0 begun.1)) ds
start-has types bytes me begun ds is own below = go (reading bytes) is below
  where
    by_durable : (rep : Rep) (t : Edentype) (o : Option (List Datum)) → durable_from t rep me ≡ o
        → with_item o (λ durable. Some (t, durable)) None ≡ Some begun → AllBelow (caps_of rep.values) ds
        → AllBelow (caps_of (values_from begun.0 begun.1)) ds
    by_durable rep t None at e h = absurd (cc e)
    by_durable rep t (Some durable) at e h =
        let same : (t, durable) ≡ begun = cc e in
        subst (λ (x : Edentype × List Datum). AllBelow (caps_of (values_from x.0 x.1)) ds) same
        (start_keeps_caps ds t rep me durable at h own)

    by_type : (rep : Rep) (o : Option Edentype)
        → with_item o (λ t. with_item (durable_from t rep me) (λ durable. Some (t, durable)) None) None ≡ Some begun
        → AllBelow (caps_of rep.values) ds → AllBelow (caps_of (values_from begun.0 begun.1)) ds
    by_type rep None e h = absurd (cc e)
    by_type rep (Some t) e h = by_durable rep t (durable_from t rep me) refl e h

    go : (o : Option Rep) → with_item o (λ rep. started_from types rep me) None ≡ Some begun
        → AllBelow (with_item o (λ rep. caps_of rep.values) []) ds → AllBelow (caps_of (values_from begun.0 begun.1)) ds
    go None e h = absurd (cc e)
    go (Some rep) e h = by_type rep (type_of types rep.type_name) e h

-- 3. At a site

-- the Ejects of node n have only what D names; they stand in order
pub record Holds (n : ℕ) (D : Uid → List Cap) (es : List (Uid × Eject)) : Type 0 where
  pub in_order : InOrder es
  pub at : (u : Uid) → u.node ≡ n → EntryHas u (D u) (value_at uid_cmp u es)

abbrev HoldsAt : ℕ → (Uid → List Cap) → Site → Type 0
HoldsAt n D s = Holds n D s.node.ejects

holds-on_eject : {n : ℕ} {D : Uid → List Cap} (v : Uid) (f : Eject → Eject) (s : Site)
    → ((e : Eject) → eject_in s v ≡ Some e → EjectHas v (D v) e → EjectHas v (D v) (f e)) → HoldsAt n D s → HoldsAt n D (on_eject v f s)
unfolding on_eject
holds-on_eject {n = n} {D = D} v f s keep h = record {
  in_order = order-changed v f s.node.ejects h.in_order;
  at = λ u number. subst (EntryHas u (D u)) (sym (eject-on_eject v u f s))
      (go u (eq_by_cmp uid_cmp u v) refl (eject_in s u) refl (h.at u number));
}
  where
    go : (u : Uid) (b : Bool) → eq_by_cmp uid_cmp u v ≡ b → (o : Option Eject) → eject_in s u ≡ o → EntryHas u (D u) o
        → EntryHas u (D u) (cond b (option_map f o) o)
    go u false b o is x = x
    go u true b None is x = tt
    go u true b (Some e) is x = let same : u ≡ v = eq-same uid_cmp uid_cmp-IsAntisymmetric u v b in
        subst (λ y. EjectHas y (D y) (f e)) (sym same) (keep e (ap (eject_in s) (sym same) ∙ is) (subst (λ y. EjectHas y (D y) e) same x))

holds-on_traffic : {n : ℕ} {D : Uid → List Cap} (f : Traffic → Traffic) (s : Site) → HoldsAt n D s → HoldsAt n D (on_traffic f s)
unfolding on_traffic
holds-on_traffic f s h = h

holds-on_node : {n : ℕ} {D : Uid → List Cap} (f : Node → Node) (s : Site) → Holds n D (f s.node).ejects → HoldsAt n D (on_node f s)
unfolding on_node
holds-on_node f s h = h

holds-item : {n : ℕ} {D : Uid → List Cap} {X : Type 0} (s : Site) (o : Option X) (f : X → Site)
    → ((x : X) → o ≡ Some x → HoldsAt n D (f x)) → HoldsAt n D s → HoldsAt n D (with_item o f s)
holds-item s None f each h = h
holds-item s (Some x) f each h = each x refl

holds-cond : {n : ℕ} {D : Uid → List Cap} (b : Bool) (s t : Site) → HoldsAt n D s → HoldsAt n D t → HoldsAt n D (cond b s t)
holds-cond true s t a b = a
holds-cond false s t a b = b

has-active : (v : Uid) (ds : List Cap) (f : Active → Active) → ((it : Active) → Has v ds it → Has v ds (f it)) → (e : Eject)
    → EjectHas v ds e
    → EjectHas v ds (on_active f e)
has-active v ds f keep e h = go e.active refl h
  where
    go : (o : Option Active) → e.active ≡ o → IfSome o (Has v ds)
        → IfSome (with_item o (λ it. with_active (Some (f it)) e) e).active (Has v ds)
    go None is x = subst (λ o. IfSome o (Has v ds)) (sym is) tt
    go (Some it) is x = keep it x

holds-on_active : {n : ℕ} {D : Uid → List Cap} (v : Uid) (f : Active → Active) (s : Site)
    → ((it : Active) → Has v (D v) it → Has v (D v) (f it))
    → HoldsAt n D s → HoldsAt n D (on_eject v (on_active f) s)
holds-on_active {D = D} v f s keep h = holds-on_eject v (on_active f) s (λ e is x. has-active v (D v) f keep e x) h

holds-on_crew : {n : ℕ} {D : Uid → List Cap} (v : Uid) (f : Crew → Crew) (s : Site) → HoldsAt n D s
    → HoldsAt n D (on_eject v (on_active (on_crew f)) s)
holds-on_crew {D = D} v f s h = holds-on_active v (on_crew f) s (λ it x. has-crew v (D v) f it x) h

holds-each : {n : ℕ} {D : Uid → List Cap} (f : Eject → Eject) (es : List (Uid × Eject))
    → ((u : Uid) (e : Eject) (ds : List Cap) → EjectHas u ds e → EjectHas u ds (f e)) → Holds n D es → Holds n D (each_value f es)
holds-each {n = n} {D = D} f es keep h = record {
  in_order = order-each f es h.in_order;
  at = λ u number. subst (EntryHas u (D u)) (sym (value-each u f es)) (go u (value_at uid_cmp u es) (h.at u number));
}
  where
    go : (u : Uid) (o : Option Eject) → EntryHas u (D u) o → EntryHas u (D u) (option_map f o)
    go u None x = tt
    go u (Some e) x = keep u e (D u) x

-- 4. The parts of a turn

holds-tells : {n : ℕ} {D : Uid → List Cap} (v : Uid) (p : ℕ) (a : Answer) (s : Site) → AllBelow (answer_caps a) (D v) → HoldsAt n D s
    → HoldsAt n D (tells v p a s)
holds-tells {D = D} v p a s new h = holds-on_active v (told p a) s (λ it x. has-told v (D v) p a it new x) h

holds-turned_away : {n : ℕ} {D : Uid → List Cap} (v : Uid) (why : Status) (s : Site) → HoldsAt n D s → HoldsAt n D (turned_away v why s)
holds-turned_away v why s h = holds-item s (eject_in s v) _ (λ e is.
    holds-on_traffic (all_replied why e.queued) (on_eject v (with_queued []) s) (holds-on_eject v (with_queued []) s (λ e is x. x) h)) h

holds-deactivated : {n : ℕ} {D : Uid → List Cap} (v : Uid) (s : Site) → HoldsAt n D s → HoldsAt n D (deactivated v s)
holds-deactivated v s h = holds-item s (eject_in s v) _ (λ e is. holds-item s e.active _ (λ it is_it.
    holds-on_traffic (λ t. all_replied status.Dropped (running it.crew) (orphaned v t))
    (on_eject v (with_active None) (on_node (without_requests v) s))
    (holds-on_eject v (with_active None) (on_node (without_requests v) s) (λ e is x. tt) (holds-on_node (without_requests v) s h))) h) h

holds-gone : {n : ℕ} {D : Uid → List Cap} (v : Uid) (s : Site) → HoldsAt n D s → HoldsAt n D (gone_if_unkept v s)
holds-gone v s h = holds-item s (eject_in s v) _ (λ e is.
    holds-cond (is_there e) s (turned_away v status.Gone s) h (holds-turned_away v status.Gone s h)) h

holds-asks : {n : ℕ} {D : Uid → List Cap} (v : Uid) (p : ℕ) (c : EjectChange) (s : Site) → HoldsAt n D s → HoldsAt n D (asks_store v p c s)
holds-asks v p c s h = holds-on_node _ (on_eject v (on_active (on_crew (set_waits p outside))) s)
    (holds-on_crew v (set_waits p outside) s h)

holds-checkpoints : {n : ℕ} {D : Uid → List Cap} (v : Uid) (p : ℕ) (bytes : List ℕ) (s : Site) → HoldsAt n D s
    → HoldsAt n D (checkpoints v p bytes s)
holds-checkpoints v p bytes s h = holds-cond (nat_le (length bytes) BODY_LIMIT) (asks_store v p (body bytes) s)
    (tells v p (Code status.TooLarge) s)
    (holds-asks v p (body bytes) s h) (holds-tells v p (Code status.TooLarge) s tt h)

-- what is born has its own capability alone
holds-born : {n : ℕ} {D : Uid → List Cap} (v : Uid) (t : Edentype) (s : Site) → IsBelowOne (full v) (D v) → HoldsAt n D s
    → HoldsAt n D (born v (fresh t (first_values t)) s)
unfolding on_node
holds-born {D = D} v t s own h = record {
  in_order = order-put v grown s.node.ejects h.in_order;
  at = λ u number. subst (EntryHas u (D u)) (sym (find-put uid_cmp uid_cmp_total u v grown s.node.ejects))
      (go u (eq_by_cmp uid_cmp u v) refl (h.at u number));
}
  where
    grown : Eject
    grown = with_item (eject_in s v) (with_active (Some (fresh t (first_values t)))) (newborn (fresh t (first_values t)))

    new : Has v (D v) (fresh t (first_values t))
    new = has-fresh v t (first_values t) (D v) own (subst (λ cs. AllBelow cs (D v)) (sym (first_have_none t)) tt)

    has : (o : Option Eject)
        → EjectHas v (D v) (with_item o (with_active (Some (fresh t (first_values t)))) (newborn (fresh t (first_values t))))
    has None = new
    has (Some e) = new

    go : (u : Uid) (b : Bool) → eq_by_cmp uid_cmp u v ≡ b → EntryHas u (D u) (eject_in s u)
        → EntryHas u (D u) (cond b (Some grown) (eject_in s u))
    go u true b x = subst (λ y. EjectHas y (D y) grown) (sym (eq-same uid_cmp uid_cmp-IsAntisymmetric u v b)) (has (eject_in s v))
    go u false b x = x

-- D names what this effect creates, for the creator and for the new Eject
abbrev CreatesNamed : (Uid → List Cap) → Uid → Site → Effect → Type 0
CreatesNamed D v s (effect.Create type_name) =
    (new : Uid) → next_uid s ≡ Ok new → IsBelowOne (full new) (D v) × IsBelowOne (full new) (D new)
CreatesNamed D v s _ = Unit {0}

holds-creates : {n : ℕ} {D : Uid → List Cap} (v : Uid) (p : ℕ) (t : Option Edentype) (made : Result Uid Status) (s : Site)
    → ((new : Uid) → made ≡ Ok new → IsBelowOne (full new) (D v) × IsBelowOne (full new) (D new)) → HoldsAt n D s
    → HoldsAt n D (creates v p t made s)
holds-creates v p None made s named h = h
holds-creates v p (Some t) (Ok new) s named h = let x = named new refl in
    holds-tells v p (Made status.Ok (Some (full new))) (born new (fresh t (first_values t)) s) (x.0, tt) (holds-born new t s x.1 h)
holds-creates v p (Some t) (Err why) s named h = holds-tells v p (Made why None) s tt h

has-waiting : (v : Uid) (ds : List Cap) (p : ℕ) (o : Option Status) (it : Active) → Has v ds it → Has v ds (waits_or_told p o it)
has-waiting v ds p None it h = has-crew v ds (set_waits p outside) it h
has-waiting v ds p (Some why) it h = has-told v ds p (Told why []) it (nothing-replied why) h
  where
    nothing-replied : (why : Status) → AllBelow (reply_caps why []) ds
    nothing-replied status.Ok = tt
    nothing-replied _ = tt

holds-effected : {n : ℕ} {D : Uid → List Cap} (reach : ℕ → Bool) (v : Uid) (p : ℕ) (i : Option Invocation) (t : Edentype)
    (vars : List Datum) (e : Effect) (s : Site) → CreatesNamed D v s e → HoldsAt n D s → HoldsAt n D (effected reach v p i t vars e s)
holds-effected {D = D} reach v p i t vars (effect.Return results) s named h =
    holds-on_traffic (answers i results) (on_eject v (on_active (without_process p)) s)
    (holds-on_active v (without_process p) s (λ it x. has-without v (D v) p it x) h)
holds-effected {D = D} reach v p i t vars effect.End s named h = holds-on_active v (without_process p) s
    (λ it x. has-without v (D v) p it x) h
holds-effected reach v p i t vars effect.Checkpoint s named h = holds-checkpoints v p (spelling (rep_of t vars)) s h
holds-effected reach v p i t vars effect.Destroy s named h = holds-asks v p removal s h
holds-effected reach v p i t vars effect.Deactivate s named h = holds-gone v (deactivated v s) (holds-deactivated v s h)
holds-effected reach v p i t vars (effect.Fault cause) s named h = holds-turned_away v status.Dropped (deactivated v s)
    (holds-deactivated v s h)
holds-effected reach v p i t vars (effect.Create type_name) s named h = holds-creates v p (type_of s.types type_name) (next_uid s) s named h
holds-effected {D = D} reach v p i t vars (effect.Invoke target operation args) s named h =
    let at_once = refused_at_once (reach target.uid.node) args in
    holds-on_traffic (λ t. with_call (next_call t) (Process v p) target operation args at_once t)
    (on_eject v (on_active (waits_or_told p at_once)) s)
    (holds-on_active v (waits_or_told p at_once) s (λ it x. has-waiting v (D v) p at_once it x) h)
holds-effected reach v p i t vars (effect.Lock m) s named h = holds-on_crew v (locked p m) s h
holds-effected reach v p i t vars (effect.Leave m) s named h = holds-on_crew v (left m) s h
holds-effected reach v p i t vars (effect.Wait c) s named h = holds-on_crew v (waited p c) s h
holds-effected reach v p i t vars (effect.Signal c) s named h = holds-on_crew v (signalled c) s h
holds-effected reach v p i t vars effect.Yield s named h = h

-- what is shown as created is what comes next
abbrev pub ShownNamed : (Uid → List Cap) → Uid → Shown → Type 0
ShownNamed D v (shown.Created new) = IsBelowOne (full new) (D v) × IsBelowOne (full new) (D new)
ShownNamed D v _ = Unit {0}

creates-named : (D : Uid → List Cap) (v : Uid) (said : Shown) (s now : Site) (i : Option Invocation) (e : Effect)
    → next_uid now ≡ next_uid s
    → said ≡ shown_of s i e → ShownNamed D v said → CreatesNamed D v now e
creates-named D v said s now i (effect.Create type_name) same shows named = λ new gives.
    subst (ShownNamed D v) (shows ∙ ap shown_creation (sym same ∙ gives)) named
creates-named D v said s now i _ same shows named = tt

-- an allowed turn shows the effect of the turn
turn-shows : (s : Site) (v : Uid) (p : ℕ) (said : Shown) (e : Eject) (it : Active) (t : Turned) → AllowsAt s (event.Process v p said)
    → eject_in s v ≡ Some e → e.active ≡ Some it → turn_of v it p ≡ Some t → (i : Option Invocation) × (said ≡ shown_of s i t.effect)
turn-shows s v p said e it t allowed is is_it is_t =
    let on_it = subst (λ o. IsSomeAnd o (λ (it : Active). IsSomeAnd (worker_at it p) (λ q. AllowsTurn s v p said it q))) is_it
    (subst (λ o. IsSomeAnd o (λ (e : Eject). IsSomeAnd e.active (λ it. IsSomeAnd (worker_at it p)
    (λ q. AllowsTurn s v p said it q)))) is allowed) in
    go (worker_at it p) on_it
  where
    go : (o : Option Worker) → IsSomeAnd o (λ q. AllowsTurn s v p said it q) → (i : Option Invocation) × (said ≡ shown_of s i t.effect)
    go None x = absurd x
    go (Some q) x = (q.serves, subst (λ o. IsSomeAnd o (λ (t : Turned). said ≡ shown_of s q.serves t.effect)) is_t x.shows)

holds-process_turn : {n : ℕ} {D : Uid → List Cap} (reach : ℕ → Bool) (v : Uid) (p : ℕ) (said : Shown) (s : Site)
    → AllowsAt s (event.Process v p said)
    → ShownNamed D v said → HoldsAt n D s → HoldsAt n D (process_turn reach v p s)
holds-process_turn {n = n} {D = D} reach v p said s allowed named h = holds-item s (eject_in s v) _
    (λ e is. holds-item s e.active _ (λ it is_it.
    holds-item s (turn_of v it p) _ (λ t is_t.
    let now = on_eject v (on_active (turned p t)) s in
    let shows = turn-shows s v p said e it t allowed is is_it is_t in
    holds-effected reach v p (serving it p) it.kind t.vars t.effect now
    (creates-named D v said s now shows.0 t.effect (next-active v (turned p t) s h.in_order) shows.1 named)
    (holds-on_eject v (on_active (turned p t)) s (λ x is_x has. keep e it t x is is_it is_t is_x has) h)) h) h) h
  where
    keep : (e : Eject) (it : Active) (t : Turned) (x : Eject) → eject_in s v ≡ Some e → e.active ≡ Some it → turn_of v it p ≡ Some t
        → eject_in s v ≡ Some x → EjectHas v (D v) x → EjectHas v (D v) (on_active (turned p t) x)
    keep e it t x is is_it is_t is_x has =
        let same : e ≡ x = let both : Some e ≡ Some x = sym is ∙ is_x in cc both in
        let active : x.active ≡ Some it = ap (λ (y : Eject). y.active) (sym same) ∙ is_it in
        let mine : Has v (D v) it = subst (λ o. IfSome o (Has v (D v))) active has in
        subst (λ o. IfSome (with_item o (λ it. with_active (Some (turned p t it)) x) x).active (Has v (D v))) (sym active)
        (has-turned v (D v) p t it (turn-left v (D v) it p t is_t mine) mine)

-- 5. The other turns

holds-requested : {n : ℕ} {D : Uid → List Cap} (k : ℕ) (refused : Option Status) (s : Site) → HoldsAt n D s
    → HoldsAt n D (requested k refused s)
holds-requested k (Some why) s h = holds-on_traffic (λ t. replied why [] k (taken k t)) s h
holds-requested k None s h = holds-item s (call_at s.traffic k) _ (λ c is.
    holds-on_eject c.target.uid (λ e. record e { queued = e.queued ++ k ∷ [] })
    (on_traffic (λ t. changed_call k (at_place held) (taken k t)) s) (λ e is x. x)
    (holds-on_traffic (λ t. changed_call k (at_place held) (taken k t)) s h)) h

-- D names what a reply gives to the process that asked, if one did
abbrev pub AskerNamed : (Uid → List Cap) → Asker → Status → List Datum → Type 0
AskerNamed D (Shell name) why values = Unit {0}
AskerNamed D (Process v p) why values = AllBelow (reply_caps why values) (D v)

holds-tells_asker : {n : ℕ} {D : Uid → List Cap} (a : Asker) (why : Status) (values : List Datum) (s : Site) → AskerNamed D a why values
    → HoldsAt n D s → HoldsAt n D (tells_asker a why values s)
holds-tells_asker (Shell name) why values s named h = h
holds-tells_asker (Process v p) why values s named h = holds-tells v p (Told why values) s named h

holds-heard : {n : ℕ} {D : Uid → List Cap} (k : ℕ) (why : Status) (values : List Datum) (s : Site)
    → ((c : Call) → call_at s.traffic k ≡ Some c → c.open_ ≡ true → AskerNamed D c.asker why values) → HoldsAt n D s
    → HoldsAt n D (heard k why values s)
holds-heard {n = n} {D = D} k why values s named h = holds-item s (call_at s.traffic k) _ (λ c is. go c is c.open_ refl) h
  where
    now : Site
    now = on_traffic (received k) s

    go : (c : Call) → call_at s.traffic k ≡ Some c → (b : Bool) → c.open_ ≡ b
        → HoldsAt n D (cond b (tells_asker c.asker why values now) now)
    go c is true still = holds-tells_asker c.asker why values now (named c is still) (holds-on_traffic (received k) s h)
    go c is false still = holds-on_traffic (received k) s h

holds-start : {n : ℕ} {D : Uid → List Cap} (v : Uid) (k p : ℕ) (s : Site)
    → ((c : Call) → call_at s.traffic k ≡ Some c → AllBelow (caps_of c.args) (D v)) → HoldsAt n D s → HoldsAt n D (start v k p s)
holds-start {D = D} v k p s named h = holds-item s (call_at s.traffic k) _ (λ c is.
    holds-on_eject v (λ e. record (on_active (with_start s.traffic k p c) e) { queued = filter (λ j. not (j == k)) e.queued }) s
    (λ e is_e x. has-active v (D v) (with_start s.traffic k p c) (λ it y. has-started v (D v) s.traffic k p c it (named c is) y) e x) h) h

holds-crashed : {n : ℕ} {D : Uid → List Cap} (s : Site) → HoldsAt n D s → HoldsAt n D (crashed s)
holds-crashed s h = holds-on_traffic (without_node s.number) (on_node down s)
    (holds-on_node down s (holds-each fallen s.node.ejects (λ u e ds x. tt) h))

holds-settled : {n : ℕ} {D : Uid → List Cap} (p : Option Pick) (s : Site) → HoldsAt n D s → HoldsAt n D (settled p s)
unfolding on_node
holds-settled None s h = h
holds-settled (Some pick.Old) s h = holds-each (settled_eject pick.Old) s.node.ejects (λ u e ds x. x) h
holds-settled (Some pick.New) s h = holds-each (settled_eject pick.New) s.node.ejects (λ u e ds x. x) h

holds-unsynced : {n : ℕ} {D : Uid → List Cap} (s : Site) → HoldsAt n D s → HoldsAt n D (unsynced s)
holds-unsynced s h = holds-on_node (λ it. record it { synced = false }) s h

holds-ended : {n : ℕ} {D : Uid → List Cap} (r : StoreRequest) (why : Status) (s : Site) → HoldsAt n D s
    → HoldsAt n D (request_ended r why s)
holds-ended {n = n} {D = D} r why s h = go r.process
  where
    go : (p : Option ℕ) → HoldsAt n D (tells_code r.uid p why (on_node (λ it. record it { requests = rest it.requests }) s))
    go None = holds-on_node (λ it. record it { requests = rest it.requests }) s h
    go (Some p) = holds-tells r.uid p (Code why) (on_node (λ it. record it { requests = rest it.requests }) s) tt
        (holds-on_node (λ it. record it { requests = rest it.requests }) s h)

holds-removed : {n : ℕ} {D : Uid → List Cap} (v : Uid) (c : EjectChange) (s : Site) → HoldsAt n D s → HoldsAt n D (removed c v s)
holds-removed v (body bytes) s h = h
holds-removed v removal s h = holds-turned_away v status.Gone (deactivated v s) (holds-deactivated v s h)

holds-done : {n : ℕ} {D : Uid → List Cap} (r : StoreRequest) (s : Site) → HoldsAt n D s → HoldsAt n D (done r s)
holds-done r s h = holds-removed r.uid r.change (request_ended r status.Ok s) (holds-ended r status.Ok s h)

holds-doubted : {n : ℕ} {D : Uid → List Cap} (r : StoreRequest) (s : Site) → HoldsAt n D s → HoldsAt n D (doubted r s)
holds-doubted r s h = holds-on_eject r.uid (λ e. record e { doubt = Some r.change }) s (λ e is x. x) h

holds-stored : {n : ℕ} {D : Uid → List Cap} (r : StoreRequest) (s : Site) → HoldsAt n D s → HoldsAt n D (stored r s)
holds-stored r s h = holds-on_node (λ it. record it { ledger = written_with s.layout r.change it.ledger })
    (on_eject r.uid (λ e. record e { kept = kept_of r.change; doubt = None }) s)
    (holds-on_eject r.uid (λ e. record e { kept = kept_of r.change; doubt = None }) s (λ e is x. x) h)

holds-worked : {n : ℕ} {D : Uid → List Cap} (w : Work) (r : StoreRequest) (how : RequestEnd) (p : Option Pick) (s : Site) → HoldsAt n D s
    → HoldsAt n D (worked w r how p s)
holds-worked syncs r end.Part p s h = holds-on_node (λ it. record it { synced = true }) s h
holds-worked syncs r end.Done p s h = h
holds-worked syncs r end.Full p s h = h
holds-worked syncs r end.Fault p s h = holds-ended r status.StoreFault (unsynced s) (holds-unsynced s h)
holds-worked syncs r end.Stop p s h = holds-crashed s h
holds-worked reads r end.Part p s h = holds-settled p s h
holds-worked reads r end.Done p s h = h
holds-worked reads r end.Full p s h = h
holds-worked reads r end.Fault p s h = holds-ended r status.StoreFault (unsynced s) (holds-unsynced s h)
holds-worked reads r end.Stop p s h = holds-crashed s h
holds-worked unkept r how p s h = holds-done r s h
holds-worked without_room r how p s h = holds-ended r status.Full s h
holds-worked calls r end.Part p s h = holds-on_node (λ it. record it { requests = more_made it.requests }) (doubted r s)
    (holds-doubted r s h)
holds-worked calls r end.Done p s h = holds-done r (stored r s) (holds-stored r s h)
holds-worked calls r end.Full p s h = h
holds-worked calls r end.Fault p s h = holds-ended r status.StoreFault (doubted r s) (holds-doubted r s h)
holds-worked calls r end.Stop p s h = holds-crashed (doubted r s) (holds-doubted r s h)

holds-store_turn : {n : ℕ} {D : Uid → List Cap} (how : RequestEnd) (p : Option Pick) (s : Site) → HoldsAt n D s
    → HoldsAt n D (store_turn how p s)
holds-store_turn how p s h = holds-item s (first_request s.node) _ (λ r is. holds-worked (work_of s r) r how p s h) h

-- 6. Activations: what is kept after the pick

same-settled : (v : Uid) (p : Option Pick) (s : Site) → eject_in (settled p (unsynced s)) v ≡ eject_in (settled p s) v
unfolding on_node
same-settled v None s = refl
same-settled v (Some p) s = refl

-- an activation starts from what is kept after its pick
from-kept : (v : Uid) (how : StartEnd) (p : Option Pick) (s : Site) → StartsFrom s v (to_settle s) how p
    → with_item (eject_in (start_settled p s) v) (λ e. e.kept) None ≡ kept_settled v p s
from-kept v how p s starts = go (to_settle s) p starts
  where
    go : (b : Bool) (p : Option Pick) → StartsFrom s v b how p
        → with_item (eject_in (cond b (settled p (unsynced s)) s) v) (λ e. e.kept) None ≡ kept_settled v p s
    go true p f = ap (λ o. with_item o (λ (e : Eject). e.kept) None) (same-settled v p s)
    go false None f = refl
    go false (Some k) f = absurd (let bad : Some k ≡ None = f.0 in cc bad)

-- D names what an event at this site grants to Ejects
abbrev pub Brings : Site → Event → (Uid → List Cap) → Type 0
Brings s (event.Activate v start_end.Ok p) D =
    IsBelowOne (full v) (D v) × ((bytes : List ℕ) → kept_settled v p s ≡ Some bytes → AllBelow (stored_caps bytes) (D v))
Brings s (event.Start k v p) D = (c : Call) → call_at s.traffic k ≡ Some c → AllBelow (caps_of c.args) (D v)
Brings s (event.Reply k a b name why values) D =
    (c : Call) → call_at s.traffic k ≡ Some c → c.open_ ≡ true → AskerNamed D c.asker why values
Brings s (event.Process v p said) D = ShownNamed D v said
Brings s _ D = Unit {0}

starts-at : (s : Site) (v : Uid) (how : StartEnd) (p : Option Pick) → IsSomeAnd (eject_in s v) (λ e. AllowsActivate s v how p e)
    → StartsFrom s v (to_settle s) how p
starts-at s v how p allowed = go (eject_in s v) allowed
  where
    go : (o : Option Eject) → IsSomeAnd o (λ e. AllowsActivate s v how p e) → StartsFrom s v (to_settle s) how p
    go None a = absurd a
    go (Some e) a = a.starts

holds-start_settled : {n : ℕ} {D : Uid → List Cap} (p : Option Pick) (s : Site) → HoldsAt n D s → HoldsAt n D (start_settled p s)
holds-start_settled p s h = holds-cond (to_settle s) (settled p (unsynced s)) s (holds-settled p (unsynced s) (holds-unsynced s h)) h

holds-awake : {n : ℕ} {D : Uid → List Cap} (v : Uid) (s : Site) → IsBelowOne (full v) (D v)
    → ((bytes : List ℕ) → with_item (eject_in s v) (λ e. e.kept) None ≡ Some bytes → AllBelow (stored_caps bytes) (D v)) → HoldsAt n D s
    → HoldsAt n D (activated v start_end.Ok s)
holds-awake {n = n} {D = D} v s own brings h = holds-item s (eject_in s v) _ (λ e is. holds-item s e.kept _ (λ bytes is_b.
    holds-item s (start_of s.types bytes v) _ (λ start is_s.
    holds-on_traffic (misfits_answered start.0 e.queued) _ (holds-on_eject v _ s (λ old at x.
    has-fresh v start.0 (values_from start.0 start.1) (D v) own (start-has s.types bytes v start (D v) is_s own
    (brings bytes (ap (λ o. with_item o (λ (e : Eject). e.kept) None) is ∙ is_b)))) h)) h) h) h

holds-activation : {n : ℕ} {D : Uid → List Cap} (v : Uid) (how : StartEnd) (p : Option Pick) (s : Site)
    → IsSomeAnd (eject_in s v) (λ e. AllowsActivate s v how p e) → Brings s (event.Activate v how p) D → HoldsAt n D s
    → HoldsAt n D (activation_turn v how p s)
holds-activation v start_end.Ok p s allowed brings h = holds-awake v (start_settled p s) brings.0
    (λ bytes is. brings.1 bytes (sym (from-kept v start_end.Ok p s (starts-at s v start_end.Ok p allowed)) ∙ is))
    (holds-start_settled p s h)
holds-activation v start_end.Gone p s allowed brings h = holds-turned_away v status.Gone (start_settled p s) (holds-start_settled p s h)
holds-activation v start_end.Fault p s allowed brings h = holds-turned_away v status.StoreFault (start_settled p s)
    (holds-start_settled p s h)
holds-activation v start_end.Damaged p s allowed brings h = holds-turned_away v status.Damaged (start_settled p s)
    (holds-start_settled p s h)
holds-activation v start_end.Stop p s allowed brings h = holds-crashed (start_settled p s) (holds-start_settled p s h)

booted-same : (s : Site) (e : ℕ) (how : BootEnd) (began : Bool) (it : Node) → (booted_node s e how began it).ejects ≡ it.ejects
booted-same s e boot_end.Up began it = refl
booted-same s e boot_end.DiskFault began it = refl
booted-same s e boot_end.Stop began it = refl
booted-same s e (boot_end.Damaged place) began it = refl
booted-same s e boot_end.EpochsSpent began it = refl
booted-same s e boot_end.Full began it = refl

holds-boot : {n : ℕ} {D : Uid → List Cap} (e : ℕ) (how : BootEnd) (p : Option Pick) (began : Bool) (s : Site) → HoldsAt n D s
    → HoldsAt n D (boot_turn e how p began s)
holds-boot {n = n} {D = D} e how p began s h = holds-on_node (booted_node s e how began) (settled p s)
    (subst (Holds n D) (sym (booted-same s e how began (settled p s).node)) (holds-settled p s h))

-- 7. Every turn

holds-site_turn : {n : ℕ} {D : Uid → List Cap} (reach : ℕ → Bool) (e : Event) (s : Site) → Brings s e D → AllowsAt s e → HoldsAt n D s
    → HoldsAt n D (site_turn reach e s)
holds-site_turn reach (event.Request k a b refused) s brings allowed h = holds-requested k refused s h
holds-site_turn reach (event.Reply k a b name why values) s brings allowed h = holds-heard k why values s brings h
holds-site_turn reach (event.Activate v how p) s brings allowed h = holds-activation v how p s allowed brings h
holds-site_turn reach (event.Start k v p) s brings allowed h = holds-start v k p s brings h
holds-site_turn reach (event.Process v p said) s brings allowed h = holds-process_turn reach v p said s allowed brings h
holds-site_turn reach (event.Store v c how p) s brings allowed h = holds-store_turn how p s h
holds-site_turn reach (event.Boot n e how p began) s brings allowed h = holds-boot e how p began s h
holds-site_turn reach (event.Crash n) s brings allowed h = holds-crashed s h
holds-site_turn reach (event.Still n up) s brings allowed h = absurd allowed
holds-site_turn reach (event.Link a b joined) s brings allowed h = absurd allowed
holds-site_turn reach (event.Armed n what) s brings allowed h = absurd allowed
holds-site_turn reach (event.Made name why v) s brings allowed h = absurd allowed
holds-site_turn reach (event.Bound name kept) s brings allowed h = absurd allowed
holds-site_turn reach (event.Void name) s brings allowed h = absurd allowed
holds-site_turn reach (event.Asked k name at_once) s brings allowed h = absurd allowed
holds-site_turn reach event.Quiet s brings allowed h = absurd allowed
holds-site_turn reach event.Spent s brings allowed h = absurd allowed
holds-site_turn reach (event.Left names) s brings allowed h = absurd allowed

pub kept-holds : (D : Uid → List Cap) (w : World) (e : Event)
    → ((n : ℕ) (it : Node) → node_at w n ≡ Some it → IsAt e n → Brings (site_of w n it) e D)
    → ((u : Uid) (name : List ℕ) (why : Status) → e ≡ event.Made name why (Some u) → IsBelowOne (full u) (D u))
    → IsKeptBy (λ n it. Holds n D it.ejects) w e
kept-holds D w e brings made = record {
  turns = λ n it at place allowed h. holds-site_turn (reaches w n) e (site_of w n it) (brings n it at place) allowed h;
  crashes = λ n s is number h. holds-crashed s h;
  broken = λ u p s h. holds-tells u p (Told status.Broken []) s tt h;
  births = λ u t s name why is gives on known h. holds-born u t s (made u name why is) h;
  clocks = λ n c it h. h;
}
