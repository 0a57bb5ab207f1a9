-- In every allowed step, what is kept of an Eject changes only by its own put or removal, acknowledged or found done.
use Rattle.std.proofs.Common.{◌≡◌, ◌⊎◌, inl, inr, ◌==◌, ℕ, Bool, true, false, cond, List, [], ◌∷◌, Option, None, Some, is_some, refl}
use Rattle.std.proofs.Common.{sym, ◌∙◌, ap, subst}
use Rattle.std.specs.Prelude.{IsTrue, IsSomeAnd}
use Rattle.std.specs.Option.{option_map}
use Rattle.std.specs.Ordering.{nat_cmp, eq_by_cmp}
use Rattle.std.specs.FinMap.{nat_cmp-IsAntisymmetric}
use Rattle.capability.specs.declared.Uid.{Uid}
use Rattle.eden_value.specs.declared.status.Status.TheVariants as status
use Rattle.eden_value.specs.Datum.{Datum}
use Rattle.eden_model.specs.Map.{with_item, uid_cmp, value_at, changed_at}
use Rattle.eden_model.specs.Traffic.{processes_of, broken_by_node, broken_by_link, without_link}
use Rattle.std.proofs.lemmas.Bool.{eq-eqb}
use Rattle.epl_syntax.specs.declared.effect.Answer.TheVariants.{Reply as Told}
use Rattle.eden_model.proofs.Laws.{eq-same, value-changed}
use Rattle.std.specs.Cmp.{nat_cmp_total}
use Rattle.eden_value.specs.declared.status.Status.{Status}
use Rattle.epl_syntax.specs.Edentype.{Edentype}
use Rattle.epl_syntax.specs.Meaning.{type_of, first_values}
use Rattle.journal.specs.declared.command.Command.{Command}
use Rattle.journal.specs.declared.command.Command.TheVariants as command
use Rattle.journal.specs.declared.event.Key.{Key}
use Rattle.journal.specs.declared.event.Entry.{Entry}
use Rattle.passive_store.specs.declared.store.Pick.{Pick}
use Rattle.passive_store.specs.declared.store.Pick.TheVariants as pick
use Rattle.journal.specs.declared.event.Event.{Event}
use Rattle.journal.specs.declared.event.Event.TheVariants as event
use Rattle.journal.specs.declared.event.RequestEnd.{RequestEnd}
use Rattle.journal.specs.declared.event.RequestEnd.TheVariants as end
use Rattle.journal.specs.declared.event.StartEnd.{StartEnd}
use Rattle.journal.specs.declared.event.StartEnd.TheVariants as start_end
use Rattle.journal.specs.declared.event.BootEnd.{BootEnd}
use Rattle.journal.specs.declared.event.BootEnd.TheVariants as boot_end
use Rattle.journal.specs.World.{World, Site, Node, Eject, StoreRequest, node_at, eject_at, eject_in, on_node, at_node, site_of, site_at}
use Rattle.journal.specs.World.{reaches}
use Rattle.journal.specs.Ejects.{fresh, tells, born}
use Rattle.journal.specs.Settling.{first_request, to_settle, settled, unsynced}
use Rattle.journal.specs.Stores.{AllowsStore}
use Rattle.journal.specs.Crashes.{tells_each, linked}
use Rattle.journal.specs.Starts.{start_of, misfits_answered, awake_as, activated, start_settled, activation_turn}
use Rattle.journal.specs.Boots.{booted_node, boot_turn}
use Rattle.journal.specs.Step.{AllowsAt, AllowsInTurn, AllowsEvent, Allows, site_turn, at_site, stopped_at, after_turn, after_command}
use Rattle.journal.specs.Step.{happened, counted, clocked, key_of, next}
use Rattle.journal.specs.References.{cap_at}
use Rattle.journal.specs.Commands.{born_as, made, held_by, restricted_by, asked_by, ready_call, type_name_of}
use Rattle.journal.specs.LegalRun.{kept_at, ChangesKept}
use Rattle.history_laws.proofs.Frame.{node-at_node}
use Rattle.history_laws.proofs.KeptLaw.{kept-tells, kept-born, kept_of_eject, kept_in, kept-on_eject, kept-on_traffic, kept-on_node}
use Rattle.history_laws.proofs.KeptLaw.{kept-item, kept-turned_away, kept-process_turn}
use Rattle.history_laws.proofs.KeptTurns.{kept-requested, kept-heard, kept-start, kept-crashed, is_doubted, IsSettledAsNew, kept-settled}
use Rattle.history_laws.proofs.KeptTurns.{kept-unsynced, MayStore, kept-store_turn}

-- 1. Activations and boots

kept-awake_as : (u v : Uid) (e : Eject) (t : Edentype) (durable : List Datum) (s : Site)
    → kept_in (awake_as v e (t, durable) s) u ≡ kept_in s u
kept-awake_as u v e t durable s = kept-on_traffic u (misfits_answered t e.queued) _ ∙ kept-on_eject u v _ (λ old. refl) s

kept-activated : (u v : Uid) (how : StartEnd) (s : Site) → kept_in (activated v how s) u ≡ kept_in s u
kept-activated u v start_end.Ok s = kept-item u s (eject_in s v) _
    (λ e. kept-item u s e.kept _ (λ bytes. kept-item u s (start_of s.types bytes v) _ (λ start. kept-awake_as u v e start.0 start.1 s)))
kept-activated u v start_end.Gone s = kept-turned_away u v status.Gone s
kept-activated u v start_end.Fault s = kept-turned_away u v status.StoreFault s
kept-activated u v start_end.Damaged s = kept-turned_away u v status.Damaged s
kept-activated u v start_end.Stop s = kept-crashed u s

doubted-unsynced : (u : Uid) (s : Site) → is_doubted (eject_in (unsynced s) u) ≡ is_doubted (eject_in s u)
unfolding on_node
doubted-unsynced u s = refl

kept-start_settled : (u : Uid) (p : Option Pick) (s : Site) → (kept_in (start_settled p s) u ≡ kept_in s u) ⊎ IsSettledAsNew s u p
kept-start_settled u p s = elim (to_settle s) as (λ b. (kept_in (cond b (settled p (unsynced s)) s) u ≡ kept_in s u) ⊎ IsSettledAsNew s u p)
    [ true ↦ go (kept-settled u p (unsynced s)) | false ↦ inl refl ]
  where
    go : (kept_in (settled p (unsynced s)) u ≡ kept_in (unsynced s) u) ⊎ IsSettledAsNew (unsynced s) u p
        → (kept_in (settled p (unsynced s)) u ≡ kept_in s u) ⊎ IsSettledAsNew s u p
    go (inl same) = inl (same ∙ kept-unsynced u s)
    go (inr new) = inr (new.0, subst (λ b. IsTrue b) (doubted-unsynced u s) new.1)

kept-activation : (u v : Uid) (how : StartEnd) (p : Option Pick) (s : Site)
    → (kept_in (activation_turn v how p s) u ≡ kept_in s u) ⊎ IsSettledAsNew s u p
kept-activation u v how p s = go (kept-start_settled u p s)
  where
    go : (kept_in (start_settled p s) u ≡ kept_in s u) ⊎ IsSettledAsNew s u p
        → (kept_in (activation_turn v how p s) u ≡ kept_in s u) ⊎ IsSettledAsNew s u p
    go (inl same) = inl (kept-activated u v how (start_settled p s) ∙ same)
    go (inr new) = inr new

booted-same : (s : Site) (e : ℕ) (how : BootEnd) (began : Bool) (it : Node) → (booted_node s e how began it).ejects ≡ it.ejects
booted-same s e boot_end.Up began it = refl
booted-same s e boot_end.DiskFault began it = refl
booted-same s e boot_end.Stop began it = refl
booted-same s e (boot_end.Damaged place) began it = refl
booted-same s e boot_end.EpochsSpent began it = refl
booted-same s e boot_end.Full began it = refl

kept-boot : (u : Uid) (e : ℕ) (how : BootEnd) (p : Option Pick) (began : Bool) (s : Site)
    → (kept_in (boot_turn e how p began s) u ≡ kept_in s u) ⊎ IsSettledAsNew s u p
kept-boot u e how p began s = go (kept-settled u p s)
  where
    go : (kept_in (settled p s) u ≡ kept_in s u) ⊎ IsSettledAsNew s u p
        → (kept_in (boot_turn e how p began s) u ≡ kept_in s u) ⊎ IsSettledAsNew s u p
    go (inl same) = inl (kept-on_node u (booted_node s e how began) (booted-same s e how began) (settled p s) ∙ same)
    go (inr new) = inr new

-- 2. Every event at a node

abbrev pub ChangesAt : Site → Uid → Event → Type 0
ChangesAt s u (event.Store v c end.Done p) = v ≡ u
ChangesAt s u (event.Store v c how p) = IsSettledAsNew s u p
ChangesAt s u (event.Activate v how p) = IsSettledAsNew s u p
ChangesAt s u (event.Boot n e how p began) = IsSettledAsNew s u p
ChangesAt s u _ = ⊥

store-changes : (how : RequestEnd) (s : Site) (u v : Uid) (c : ℕ) (p : Option Pick) (r : StoreRequest) → v ≡ r.uid → MayStore s u r how p
    → ChangesAt s u (event.Store v c how p)
store-changes end.Done s u v c p r of_uid may = of_uid ∙ may
store-changes end.Part s u v c p r of_uid may = may
store-changes end.Fault s u v c p r of_uid may = may
store-changes end.Full s u v c p r of_uid may = may
store-changes end.Stop s u v c p r of_uid may = may

kept-store : (how : RequestEnd) (s : Site) (u v : Uid) (c : ℕ) (p : Option Pick)
    → IsSomeAnd (first_request s.node) (λ r. AllowsStore s v how p r)
    → (kept_in (site_turn (λ n. true) (event.Store v c how p) s) u ≡ kept_in s u) ⊎ ChangesAt s u (event.Store v c how p)
kept-store how s u v c p allowed = go (first_request s.node) refl allowed
  where
    step : (r : StoreRequest) → AllowsStore s v how p r
        → (kept_in (site_turn (λ n. true) (event.Store v c how p) s) u ≡ kept_in s u) ⊎ MayStore s u r how p
        → (kept_in (site_turn (λ n. true) (event.Store v c how p) s) u ≡ kept_in s u) ⊎ ChangesAt s u (event.Store v c how p)
    step r a (inl same) = inl same
    step r a (inr may) = inr (store-changes how s u v c p r a.of_uid may)

    go : (o : Option StoreRequest) → first_request s.node ≡ o → IsSomeAnd o (λ r. AllowsStore s v how p r)
        → (kept_in (site_turn (λ n. true) (event.Store v c how p) s) u ≡ kept_in s u) ⊎ ChangesAt s u (event.Store v c how p)
    go None is a = absurd a
    go (Some r) is a = step r a (kept-store_turn u how p s r is)

pub kept-site_turn : (reach : ℕ → Bool) (e : Event) (s : Site) (u : Uid) → AllowsAt s e
    → (kept_in (site_turn reach e s) u ≡ kept_in s u) ⊎ ChangesAt s u e
kept-site_turn reach (event.Request k a b refused) s u allowed = inl (kept-requested u k refused s)
kept-site_turn reach (event.Reply k a b name why values) s u allowed = inl (kept-heard u k why values s)
kept-site_turn reach (event.Activate v how p) s u allowed = kept-activation u v how p s
kept-site_turn reach (event.Start k v p) s u allowed = inl (kept-start u v k p s)
kept-site_turn reach (event.Process v p said) s u allowed = inl (kept-process_turn reach u v p s)
kept-site_turn reach (event.Store v c how p) s u allowed = kept-store how s u v c p allowed
kept-site_turn reach (event.Boot n e how p began) s u allowed = kept-boot u e how p began s
kept-site_turn reach (event.Crash n) s u allowed = inl (kept-crashed u s)
kept-site_turn reach (event.Still n up) s u allowed = absurd allowed
kept-site_turn reach (event.Link a b joined) s u allowed = absurd allowed
kept-site_turn reach (event.Armed n what) s u allowed = absurd allowed
kept-site_turn reach (event.Made name why v) s u allowed = absurd allowed
kept-site_turn reach (event.Bound name held) s u allowed = absurd allowed
kept-site_turn reach (event.Void name) s u allowed = absurd allowed
kept-site_turn reach (event.Asked k name at_once) s u allowed = absurd allowed
kept-site_turn reach event.Quiet s u allowed = absurd allowed
kept-site_turn reach event.Spent s u allowed = absurd allowed
kept-site_turn reach (event.Left names) s u allowed = absurd allowed

-- 3. In the world: a change at node n

abbrev kept_via : Uid → Option Node → Option (List ℕ)
kept_via u o = kept_of_eject (with_item o (λ it. value_at uid_cmp u it.ejects) None)

pub kept-at_node : (w : World) (n : ℕ) (f : Site → Site) (u : Uid) (C : Type 0)
    → ((it : Node) → node_at w n ≡ Some it → u.node ≡ n → (kept_in (f (site_of w n it)) u ≡ kept_in (site_of w n it) u) ⊎ C)
    → (kept_at (at_node n f w) u ≡ kept_at w u) ⊎ C
kept-at_node w n f u C each = go (node_at w n) refl (eq_by_cmp nat_cmp u.node n) refl
  where
    found : (it : Node) → node_at w n ≡ Some it → eq_by_cmp nat_cmp u.node n ≡ true
        → (kept_in (f (site_of w n it)) u ≡ kept_in (site_of w n it) u) ⊎ C
        → (kept_via u (node_at (at_node n f w) u.node) ≡ kept_via u (node_at w u.node)) ⊎ C
    found it is b (inr c) = inr c
    found it is b (inl same) =
        let e : u.node ≡ n = eq-same nat_cmp nat_cmp-IsAntisymmetric u.node n b in
        let here : node_at w u.node ≡ Some it = ap (node_at w) e ∙ is in
        inl (ap (kept_via u) (node-at_node u.node n f w) ∙ rw (b, here) same)

    go : (o : Option Node) → node_at w n ≡ o → (b : Bool) → eq_by_cmp nat_cmp u.node n ≡ b
        → (kept_via u (node_at (at_node n f w) u.node) ≡ kept_via u (node_at w u.node)) ⊎ C
    go o is false b = inl (ap (kept_via u) (node-at_node u.node n f w) ∙ rw b refl)
    go None is true b =
        let e : u.node ≡ n = eq-same nat_cmp nat_cmp-IsAntisymmetric u.node n b in
        let here : node_at w u.node ≡ None = ap (node_at w) e ∙ is in
        inl (ap (kept_via u) (node-at_node u.node n f w) ∙ rw (b, here) refl)
    go (Some it) is true b = found it is b (each it is (eq-same nat_cmp nat_cmp-IsAntisymmetric u.node n b))

kept-at_node-same : (w : World) (n : ℕ) (f : Site → Site) (u : Uid) → ((s : Site) → kept_in (f s) u ≡ kept_in s u)
    → kept_at (at_node n f w) u ≡ kept_at w u
kept-at_node-same w n f u same = go (kept-at_node w n f u ⊥ (λ it is e. inl (same (site_of w n it))))
  where
    go : (kept_at (at_node n f w) u ≡ kept_at w u) ⊎ ⊥ → kept_at (at_node n f w) u ≡ kept_at w u
    go (inl s) = s
    go (inr none) = absurd none

kept-tells_each : (qs : List (Uid × ℕ)) (w : World) (u : Uid) → kept_at (tells_each qs w) u ≡ kept_at w u
kept-tells_each [] w u = refl
kept-tells_each (q ∷ qs) w u = kept-tells_each qs (at_node q.0.node (tells q.0 q.1 (Told status.Broken [])) w) u
    ∙ kept-at_node-same w q.0.node (tells q.0 q.1 (Told status.Broken [])) u (λ s. kept-tells u q.0 q.1 (Told status.Broken []) s)

-- the site at which an event is allowed
some-site : (w : World) (n : ℕ) (P : Site → Type 0) (it : Node) → node_at w n ≡ Some it → IsSomeAnd (site_at w n) P → P (site_of w n it)
some-site w n P it is p = subst (λ o. IsSomeAnd (with_item o (λ it. Some (site_of w n it)) None) P) is p

-- an event at node n
kept-at_site : (w : World) (n : ℕ) (e : Event) (u : Uid) (C : Type 0) → IsSomeAnd (site_at w n) (λ s. AllowsAt s e)
    → ((it : Node) → node_at w n ≡ Some it → u.node ≡ n → ChangesAt (site_of w n it) u e → C)
    → (kept_at (at_site w n e) u ≡ kept_at w u) ⊎ C
kept-at_site w n e u C allowed changes = kept-at_node w n (site_turn (reaches w n) e) u C
    (λ it is here. go it is here (kept-site_turn (reaches w n) e (site_of w n it) u (some-site w n (λ s. AllowsAt s e) it is allowed)))
  where
    go : (it : Node) → node_at w n ≡ Some it → u.node ≡ n
        → (kept_in (site_turn (reaches w n) e (site_of w n it)) u ≡ kept_in (site_of w n it) u) ⊎ ChangesAt (site_of w n it) u e
        → (kept_in (site_turn (reaches w n) e (site_of w n it)) u ≡ kept_in (site_of w n it) u) ⊎ C
    go it is here (inl same) = inl same
    go it is here (inr change) = inr (changes it is here change)

-- one that ends in a stop
kept-stopped_at : (w : World) (n : ℕ) (e : Event) (u : Uid) (C : Type 0) → IsSomeAnd (site_at w n) (λ s. AllowsAt s e)
    → ((it : Node) → node_at w n ≡ Some it → u.node ≡ n → ChangesAt (site_of w n it) u e → C)
    → (kept_at (stopped_at w n e) u ≡ kept_at w u) ⊎ C
kept-stopped_at w n e u C allowed changes = go (kept-at_site w n e u C allowed changes)
  where
    go : (kept_at (at_site w n e) u ≡ kept_at w u) ⊎ C → (kept_at (stopped_at w n e) u ≡ kept_at w u) ⊎ C
    go (inl same) = inl (kept-tells_each (processes_of (broken_by_node n) w.traffic) (at_site w n e) u ∙ same)
    go (inr c) = inr c

-- what a settling as new is in the world
new-in-world : (w : World) (n : ℕ) (u : Uid) (p : Option Pick) (it : Node) → node_at w n ≡ Some it → u.node ≡ n
    → IsSettledAsNew (site_of w n it) u p
    → (cond (n == u.node) p None ≡ Some pick.New) × IsTrue (with_item (eject_at w u) (λ e. is_some e.doubt) false)
new-in-world w n u p it is here new =
    let at_u : node_at w u.node ≡ Some it = ap (node_at w) here ∙ is in
    (rw (eq-eqb n u.node (sym here)) new.0, rw at_u new.1)

-- 4. Every event

kept-born_as : (v : Uid) (t : Option Edentype) (w : World) (u : Uid) → kept_at (born_as v t w) u ≡ kept_at w u
kept-born_as v None w u = refl
kept-born_as v (Some t) w u = kept-at_node-same w v.node (born v (fresh t (first_values t))) u
    (λ s. kept-born u v (fresh t (first_values t)) s)

kept-made : (name type_name : List ℕ) (v : Option Uid) (w : World) (u : Uid) → kept_at (made name type_name v w) u ≡ kept_at w u
kept-made name type_name None w u = refl
kept-made name type_name (Some v) w u = kept-born_as v (type_of w.types type_name) w u

kept-world-item : {X : Type 0} (w : World) (u : Uid) (o : Option X) (f : X → World) → ((x : X) → kept_at (f x) u ≡ kept_at w u)
    → kept_at (with_item o f w) u ≡ kept_at w u
kept-world-item w u None f each = refl
kept-world-item w u (Some x) f each = each x

kept-held_by : (c : Command) (w : World) (u : Uid) → kept_at (held_by c w) u ≡ kept_at w u
kept-held_by (command.Hold name v) w u = refl
kept-held_by _ w u = refl

kept-restricted_by : (c : Command) (w : World) (u : Uid) → kept_at (restricted_by c w) u ≡ kept_at w u
kept-restricted_by (command.Restrict name target mask) w u = kept-world-item w u (cap_at w target) _ (λ c. refl)
kept-restricted_by _ w u = refl

kept-asked_by : (c : Command) (k : ℕ) (at_once : Option Status) (w : World) (u : Uid) → kept_at (asked_by c k at_once w) u ≡ kept_at w u
kept-asked_by (command.Call name target operation args) k at_once w u = kept-world-item w u
    (ready_call w (command.Call name target operation args)) _ (λ c. refl)
kept-asked_by _ k at_once w u = refl

kept-linked : (a b : ℕ) (joined : Bool) (w : World) (u : Uid) → kept_at (linked a b joined w) u ≡ kept_at w u
kept-linked a b true w u = refl
kept-linked a b false w u = kept-tells_each (processes_of (broken_by_link a b) w.traffic)
    (record w { cuts = (a, b) ∷ w.cuts; traffic = without_link a b w.traffic }) u

kept-boot_at : (w : World) (n e : ℕ) (how : BootEnd) (p : Option Pick) (began : Bool) (u : Uid)
    → (kept_at (at_site w n (event.Boot n e how p began)) u ≡ kept_at w u) ⊎ ChangesKept w u (event.Boot n e how p began)
kept-boot_at w n e how p began u = kept-at_node w n (site_turn (reaches w n) (event.Boot n e how p began)) u
    (ChangesKept w u (event.Boot n e how p began))
    (λ it is here. go it is here (kept-boot u e how p began (site_of w n it)))
  where
    go : (it : Node) → node_at w n ≡ Some it → u.node ≡ n
        → (kept_in (boot_turn e how p began (site_of w n it)) u ≡ kept_in (site_of w n it) u) ⊎ IsSettledAsNew (site_of w n it) u p
        → (kept_in (boot_turn e how p began (site_of w n it)) u ≡ kept_in (site_of w n it) u) ⊎ ChangesKept w u (event.Boot n e how p began)
    go it is here (inl same) = inl same
    go it is here (inr new) = inr (new-in-world w n u p it is here new)

kept-turn : (w : World) (e : Event) (u : Uid) → AllowsInTurn w e → (kept_at (after_turn w e) u ≡ kept_at w u) ⊎ ChangesKept w u e
kept-turn w (event.Boot n e how p began) u allowed = absurd allowed
kept-turn w (event.Crash n) u allowed = absurd allowed
kept-turn w (event.Still n up) u allowed = absurd allowed
kept-turn w (event.Link a b joined) u allowed = absurd allowed
kept-turn w (event.Armed n what) u allowed = absurd allowed
kept-turn w (event.Made name why v) u allowed = absurd allowed
kept-turn w (event.Bound name held) u allowed = absurd allowed
kept-turn w (event.Void name) u allowed = absurd allowed
kept-turn w (event.Asked k name at_once) u allowed = absurd allowed
kept-turn w (event.Left names) u allowed = absurd allowed
kept-turn w (event.Request k a b refused) u allowed = inl
    (kept-at_node-same w b (site_turn (reaches w b) (event.Request k a b refused)) u (λ s. kept-requested u k refused s))
kept-turn w (event.Reply k a b None why values) u allowed = inl
    (kept-at_node-same w b (site_turn (reaches w b) (event.Reply k a b None why values)) u (λ s. kept-heard u k why values s))
kept-turn w (event.Reply k a b (Some name) why values) u allowed = inl refl
kept-turn w (event.Activate v start_end.Ok p) u allowed = kept-at_site w v.node (event.Activate v start_end.Ok p) u
    (ChangesKept w u (event.Activate v start_end.Ok p)) allowed (new-in-world w v.node u p)
kept-turn w (event.Activate v start_end.Gone p) u allowed = kept-at_site w v.node (event.Activate v start_end.Gone p) u
    (ChangesKept w u (event.Activate v start_end.Gone p)) allowed (new-in-world w v.node u p)
kept-turn w (event.Activate v start_end.Fault p) u allowed = kept-at_site w v.node (event.Activate v start_end.Fault p) u
    (ChangesKept w u (event.Activate v start_end.Fault p)) allowed (new-in-world w v.node u p)
kept-turn w (event.Activate v start_end.Damaged p) u allowed = kept-at_site w v.node (event.Activate v start_end.Damaged p) u
    (ChangesKept w u (event.Activate v start_end.Damaged p)) allowed (new-in-world w v.node u p)
kept-turn w (event.Activate v start_end.Stop p) u allowed = kept-stopped_at w v.node (event.Activate v start_end.Stop p) u
    (ChangesKept w u (event.Activate v start_end.Stop p)) allowed (new-in-world w v.node u p)
kept-turn w (event.Start k v p) u allowed = inl
    (kept-at_node-same w v.node (site_turn (reaches w v.node) (event.Start k v p)) u (λ s. kept-start u v k p s))
kept-turn w (event.Process v p said) u allowed = inl
    (kept-at_node-same w v.node (site_turn (reaches w v.node) (event.Process v p said)) u
    (λ s. kept-process_turn (reaches w v.node) u v p s))
kept-turn w (event.Store v clock end.Done p) u allowed = kept-at_site w v.node (event.Store v clock end.Done p) u (v ≡ u) allowed
    (λ it is here same. same)
kept-turn w (event.Store v clock end.Part p) u allowed = kept-at_site w v.node (event.Store v clock end.Part p) u
    (ChangesKept w u (event.Store v clock end.Part p)) allowed (new-in-world w v.node u p)
kept-turn w (event.Store v clock end.Fault p) u allowed = kept-at_site w v.node (event.Store v clock end.Fault p) u
    (ChangesKept w u (event.Store v clock end.Fault p)) allowed (new-in-world w v.node u p)
kept-turn w (event.Store v clock end.Full p) u allowed = kept-at_site w v.node (event.Store v clock end.Full p) u
    (ChangesKept w u (event.Store v clock end.Full p)) allowed (new-in-world w v.node u p)
kept-turn w (event.Store v clock end.Stop p) u allowed = kept-stopped_at w v.node (event.Store v clock end.Stop p) u
    (ChangesKept w u (event.Store v clock end.Stop p)) allowed (new-in-world w v.node u p)
kept-turn w event.Quiet u allowed = inl refl
kept-turn w event.Spent u allowed = inl refl

kept-command : (w : World) (c : Command) (e : Event) (u : Uid) → (kept_at (after_command w c e) u ≡ kept_at w u) ⊎ ChangesKept w u e
kept-command w c (event.Boot n e how p began) u = kept-boot_at w n e how p began u
kept-command w c (event.Crash n) u = inl (kept-tells_each (processes_of (broken_by_node n) w.traffic) (at_site w n (event.Crash n)) u
    ∙ kept-at_node-same w n (site_turn (reaches w n) (event.Crash n)) u (λ s. kept-crashed u s))
kept-command w c (event.Link a b joined) u = inl (kept-linked a b joined w u)
kept-command w c (event.Made name why v) u = inl (kept-made name (type_name_of c) v w u)
kept-command w c (event.Bound name true) u = inl (kept-held_by c w u)
kept-command w c (event.Bound name false) u = inl (kept-restricted_by c w u)
kept-command w c (event.Asked k name at_once) u = inl (kept-asked_by c k at_once w u)
kept-command w c (event.Still n up) u = inl refl
kept-command w c (event.Armed n what) u = inl refl
kept-command w c (event.Void name) u = inl refl
kept-command w c (event.Request k a b refused) u = inl refl
kept-command w c (event.Reply k a b name why values) u = inl refl
kept-command w c (event.Activate v how p) u = inl refl
kept-command w c (event.Start k v p) u = inl refl
kept-command w c (event.Process v p said) u = inl refl
kept-command w c (event.Store v clock end.Part p) u = inl refl
kept-command w c (event.Store v clock end.Done p) u = inl refl
kept-command w c (event.Store v clock end.Fault p) u = inl refl
kept-command w c (event.Store v clock end.Full p) u = inl refl
kept-command w c (event.Store v clock end.Stop p) u = inl refl
kept-command w c event.Quiet u = inl refl
kept-command w c event.Spent u = inl refl
kept-command w c (event.Left names) u = inl refl

kept-happened : (w : World) (c : Option Command) (e : Event) (u : Uid) → AllowsEvent w c e
    → (kept_at (happened w c e) u ≡ kept_at w u) ⊎ ChangesKept w u e
kept-happened w None e u allowed = kept-turn w e u allowed
kept-happened w (Some c) e u allowed = kept-command w c e u

-- 5. The clock and the key of an entry change nothing of it

kept-counted : (k : Option Key) (w : World) (u : Uid) → kept_at (counted k w) u ≡ kept_at w u
kept-counted None w u = refl
kept-counted (Some k) w u = refl

abbrev pub with_clock : ℕ → Node → Node
with_clock c it = record it { clock = Some c }

kept-clocked : (n c : ℕ) (w : World) (u : Uid) → kept_at (clocked n c w) u ≡ kept_at w u
kept-clocked n c w u = elim (n == 0) as (λ b. kept_via u
    (value_at nat_cmp u.node (cond b w.nodes (changed_at nat_cmp n (λ it. record it { clock = Some c }) w.nodes))) ≡ kept_via u
    (node_at w u.node)) [
      | true ↦ refl
      | false ↦ ap (kept_via u) (value-changed nat_cmp nat_cmp_total nat_cmp-IsAntisymmetric u.node n (with_clock c) w.nodes) ∙ same
          (eq_by_cmp nat_cmp u.node n) (node_at w u.node)
    ]
  where
    same : (b : Bool) (o : Option Node) → kept_via u (cond b (option_map (with_clock c) o) o) ≡ kept_via u o
    same true None = refl
    same true (Some it) = refl
    same false o = refl

-- a step changes what is kept of an Eject only by its own put or removal, acknowledged or found done
pub none-rolled-back : (w : World) (c : Option Command) (e : Entry) (u : Uid) → Allows w c e
    → (kept_at (next w c e) u ≡ kept_at w u) ⊎ ChangesKept w u e.event
none-rolled-back w c e u allowed = go (kept-happened w c e.event u allowed.event)
  where
    go : (kept_at (happened w c e.event) u ≡ kept_at w u) ⊎ ChangesKept w u e.event
        → (kept_at (next w c e) u ≡ kept_at w u) ⊎ ChangesKept w u e.event
    go (inl same) = inl (kept-counted (key_of e.event) (clocked e.node e.clock (happened w c e.event)) u ∙ kept-clocked e.node e.clock
        (happened w c e.event) u ∙ same)
    go (inr change) = inr change
