-- In every history that leads from an opening world, each start is whole.
use Rattle.std.proofs.Common.{◌≡◌, ◌==◌, ℕ, Bool, true, false, cond, ◌&&◌, List, [], ◌∷◌, Option, None, Some, refl, sym, ◌∙◌, ap, subst}
use Rattle.std.specs.Prelude.{IsSomeAnd, IfSome}
use Rattle.std.specs.Option.{option_map}
use Rattle.std.specs.Ordering.{nat_cmp, eq_by_cmp, is_eq}
use Rattle.std.specs.Cmp.{nat_cmp_total}
use Rattle.std.specs.FinMap.{nat_cmp-IsAntisymmetric}
use Rattle.std.proofs.lemmas.Bool.{eq-eqb}
use Rattle.std.proofs.lemmas.Cmp.{tied_itself}
use Rattle.capability.specs.declared.Uid.{Uid}
use Rattle.eden_value.specs.declared.status.Status.{Status}
use Rattle.eden_value.specs.declared.status.Status.TheVariants as status
use Rattle.eden_model.specs.Map.{with_item, uid_cmp, same_uid, value_at, changed_at}
use Rattle.eden_model.specs.Traffic.{processes_of, broken_by_node, broken_by_link, without_link}
use Rattle.capability.proofs.Uids.{uid_cmp-IsAntisymmetric}
use Rattle.eden_model.proofs.Laws.{eq-same, value-changed}
use Rattle.epl_syntax.specs.declared.effect.Answer.TheVariants.{Reply as Told}
use Rattle.epl_syntax.specs.Edentype.{Edentype}
use Rattle.epl_syntax.specs.Meaning.{type_of, first_values}
use Rattle.passive_store.specs.declared.store.Pick.{Pick}
use Rattle.journal.specs.EjectChange.{EjectChange}
use Rattle.journal.specs.declared.command.Command.{Command}
use Rattle.journal.specs.declared.command.Command.TheVariants as command
use Rattle.journal.specs.declared.event.Key.{Key}
use Rattle.journal.specs.declared.event.Event.{Event}
use Rattle.journal.specs.declared.event.Event.TheVariants as event
use Rattle.journal.specs.declared.event.Entry.{Entry}
use Rattle.journal.specs.declared.event.BootEnd.{BootEnd}
use Rattle.journal.specs.declared.event.StartEnd.{StartEnd}
use Rattle.journal.specs.declared.event.StartEnd.TheVariants as start_end
use Rattle.journal.specs.declared.event.RequestEnd.{RequestEnd}
use Rattle.journal.specs.declared.event.RequestEnd.TheVariants as end
use Rattle.journal.specs.World.{World, Site, Node, Eject, StoreRequest, node_at, at_node, site_of, site_at, eject_in, reaches}
use Rattle.journal.specs.Ejects.{fresh, tells, born}
use Rattle.capability.specs.declared.Cap.{Cap}
use Rattle.journal.specs.Run.{beginning, Step, AllowsLookUp, looked_up, Leads, EachStep, steps}
use Rattle.journal.specs.Starts.{AllowsActivate, StartsFrom, activation_turn}
use Rattle.journal.specs.Settling.{first_request, settled, to_settle}
use Rattle.journal.specs.Boots.{AllowsBoot, boot_turn}
use Rattle.journal.specs.Stores.{AllowsStore, store_turn, work_of, makes_own_call}
use Rattle.journal.specs.Crashes.{crashed, tells_each, linked}
use Rattle.journal.specs.Kept.{picked, crashes, own_call, own_call_of, start_bytes}
use Rattle.journal.specs.Step.{AllowsInTurn, AllowsEvent, Allows, next, after_turn, after_command, happened, at_site, site_turn, counted}
use Rattle.journal.specs.Step.{clocked, key_of}
use Rattle.journal.specs.Commands.{AllowsCommand, born_as, made, held_by, restricted_by, asked_by, ready_call, type_name_of}
use Rattle.journal.specs.References.{cap_at}
use Rattle.journal.specs.LegalRun.{StartIsWhole, kept_at}
use Rattle.history_laws.proofs.Changes.{facts_at, begun, begun_at, IsTold, AllTold}
use Rattle.history_laws.proofs.NoneRolledBack.{with_clock}
use Rattle.history_laws.proofs.SafeRuns.{same-number}
use Rattle.history_laws.proofs.Runs.{Any, of-any, no-turn, each-step, nodes-looked_up}
use Rattle.history_laws.proofs.ChangeLaw.{Keeps, keeps-tells, keeps-born, keeps-process_turn, keeps-requested, keeps-heard, keeps-start}
use Rattle.history_laws.proofs.ChangeLaw.{comes-crashed}
use Rattle.history_laws.proofs.StoreLaw.{IsSeen, told-quiet, told-crash, not-begun, is_stop, store-leaves}
use Rattle.history_laws.proofs.StartRuns.{held_of, By, QueuedNode, lift, queue-at_node, keeps-told, quiet-told}
use Rattle.history_laws.proofs.StartWhole.{is_stopped, activation-leaves, boot-leaves, crash-leaves, start-whole, told-at}

-- 1. What an entry is to an Eject

abbrev step_of : World → Entry → Event → World → Step
step_of w e ev later = record { world = w; entry = record e { event = ev }; later = later }

other-number : (m n : ℕ) → eq_by_cmp nat_cmp m n ≡ false → (n == m) ≡ false
other-number m n other = go (n == m) refl
  where
    go : (b : Bool) → (n == m) ≡ b → b ≡ false
    go false is = refl
    go true is = let whole : eq_by_cmp nat_cmp m m ≡ true = ap is_eq (tied_itself nat_cmp_total m) in
        sym whole ∙ (ap (λ k. eq_by_cmp nat_cmp m k) (sym (same-number n m is)) ∙ other)

crash-store : (how : RequestEnd) (n : ℕ) (v : Uid) (clock : ℕ) (p : Option Pick) → (v.node == n) ≡ true
    → crashes n (event.Store v clock how p) ≡ is_stop how
crash-store end.Stop n v clock p is = is
crash-store end.Part n v clock p is = refl
crash-store end.Done n v clock p is = refl
crash-store end.Fault n v clock p is = refl
crash-store end.Full n v clock p is = refl

calm-store : (how : RequestEnd) (n : ℕ) (v : Uid) (clock : ℕ) (p : Option Pick) → (v.node == n) ≡ false
    → crashes n (event.Store v clock how p) ≡ false
calm-store end.Stop n v clock p is = is
calm-store end.Part n v clock p is = refl
calm-store end.Done n v clock p is = refl
calm-store end.Fault n v clock p is = refl
calm-store end.Full n v clock p is = refl

crash-start : (how : StartEnd) (n : ℕ) (v : Uid) (p : Option Pick) → (v.node == n) ≡ true
    → crashes n (event.Activate v how p) ≡ is_stopped how
crash-start start_end.Stop n v p is = is
crash-start start_end.Ok n v p is = refl
crash-start start_end.Gone n v p is = refl
crash-start start_end.Fault n v p is = refl
crash-start start_end.Damaged n v p is = refl

calm-start : (how : StartEnd) (n : ℕ) (v : Uid) (p : Option Pick) → (v.node == n) ≡ false → crashes n (event.Activate v how p) ≡ false
calm-start start_end.Stop n v p is = is
calm-start start_end.Ok n v p is = refl
calm-start start_end.Gone n v p is = refl
calm-start start_end.Fault n v p is = refl
calm-start start_end.Damaged n v p is = refl

own-at : (w : World) (v u : Uid) (clock : ℕ) (how : RequestEnd) (p : Option Pick) (it : Node) (r : StoreRequest)
    → node_at w v.node ≡ Some it → first_request it ≡ Some r
    → own_call u w (event.Store v clock how p) ≡ own_call_of u (site_of w v.node it) r how
own-at w v u clock how p it r is is_r =
    ap (λ o. with_item (with_item o (λ jt. Some (site_of w v.node jt)) None)
    (λ s. with_item (first_request s.node) (λ x. own_call_of u s x how) None) None) is
    ∙ ap (λ o. with_item o (λ x. own_call_of u (site_of w v.node it) x how) None) is_r

own-elsewhere : (u v : Uid) (s : Site) (r : StoreRequest) (how : RequestEnd) → v ≡ r.uid → (v.node == u.node) ≡ false
    → own_call_of u s r how ≡ None
own-elsewhere u v s r how of other = go (same_uid r.uid u) refl (makes_own_call (work_of s r))
  where
    go : (a : Bool) → same_uid r.uid u ≡ a → (b : Bool)
        → cond {A = Option (EjectChange × RequestEnd)} (a && b) (Some (r.change, how)) None ≡ None
    go false is b = refl
    go true is b = absurd (let same : v ≡ u = of ∙ eq-same uid_cmp uid_cmp-IsAntisymmetric r.uid u is in
        let bad : true ≡ false = sym (eq-eqb v.node u.node (ap (λ (x : Uid). x.node) same)) ∙ other in cc bad)

-- 2. Events at a node

told-store : (opening w : World) (past : List Step) (e : Entry) (later : World) (v : Uid) (clock : ℕ) (how : RequestEnd) (p : Option Pick)
    → IsSomeAnd (site_at w v.node) (λ s. IsSomeAnd (first_request s.node) (λ r. AllowsStore s v how p r)) → AllTold opening w past
    → AllTold opening (at_node v.node (store_turn how p) w) (step_of w e (event.Store v clock how p) later ∷ past)
told-store opening w past e later v clock how p allowed all = go (node_at w v.node) refl allowed
  where
    st : Step
    st = step_of w e (event.Store v clock how p) later

    at : (it : Node) → node_at w v.node ≡ Some it → (o : Option StoreRequest) → first_request it ≡ o
        → IsSomeAnd o (λ r. AllowsStore (site_of w v.node it) v how p r) → AllTold opening (at_node v.node (store_turn how p) w) (st ∷ past)
    at it is None is_r a = absurd a
    at it is (Some r) is_r a = told-at opening w past st v.node (store_turn how p) it is
        (λ u e q t. let same : (v.node == u.node) ≡ true = eq-eqb v.node u.node (sym e) in
        store-leaves (held_of opening u) u past st (site_of w v.node it) r how p is_r q a.ends
        (record {
          own_is = own-at w v u clock how p it r is is_r;
          pick_is = ap (λ b. cond b p None) same;
          crash_is = crash-store how u.node v clock p same;
        }) t)
        (λ u x. let other : (v.node == u.node) ≡ false = other-number u.node v.node x in
        record {
          own_is = own-at w v u clock how p it r is is_r ∙ own-elsewhere u v (site_of w v.node it) r how a.of_uid other;
          pick_is = ap (λ b. cond b p None) other;
          crash_is = calm-store how u.node v clock p other;
        })
        all

    go : (o : Option Node) → node_at w v.node ≡ o
        → IsSomeAnd (with_item o (λ it. Some (site_of w v.node it)) None)
        (λ s. IsSomeAnd (first_request s.node) (λ r. AllowsStore s v how p r))
        → AllTold opening (at_node v.node (store_turn how p) w) (st ∷ past)
    go None is a = absurd a
    go (Some it) is a = at it is (first_request it) refl a

-- an activation is allowed at its site
starts-at : (s : Site) (v : Uid) (how : StartEnd) (p : Option Pick) → IsSomeAnd (eject_in s v) (λ e. AllowsActivate s v how p e)
    → StartsFrom s v (to_settle s) how p
starts-at s v how p allowed = go (eject_in s v) allowed
  where
    go : (o : Option Eject) → IsSomeAnd o (λ e. AllowsActivate s v how p e) → StartsFrom s v (to_settle s) how p
    go None a = absurd a
    go (Some e) a = a.starts

told-start : (opening w : World) (past : List Step) (e : Entry) (later : World) (v : Uid) (how : StartEnd) (p : Option Pick)
    → IsSomeAnd (site_at w v.node) (λ s. IsSomeAnd (eject_in s v) (λ x. AllowsActivate s v how p x)) → AllTold opening w past
    → AllTold opening (at_node v.node (activation_turn v how p) w) (step_of w e (event.Activate v how p) later ∷ past)
told-start opening w past e later v how p allowed all = go (node_at w v.node) refl allowed
  where
    st : Step
    st = step_of w e (event.Activate v how p) later

    go : (o : Option Node) → node_at w v.node ≡ o
        → IsSomeAnd (with_item o (λ it. Some (site_of w v.node it)) None) (λ s. IsSomeAnd (eject_in s v) (λ x. AllowsActivate s v how p x))
        → AllTold opening (at_node v.node (activation_turn v how p) w) (st ∷ past)
    go None is a = absurd a
    go (Some it) is a = told-at opening w past st v.node (activation_turn v how p) it is
        (λ u e q t. let same : (v.node == u.node) ≡ true = eq-eqb v.node u.node (sym e) in
        activation-leaves (held_of opening u) u past st (site_of w v.node it) v how p q (starts-at (site_of w v.node it) v how p a)
        (record { own_is = refl; pick_is = ap (λ b. cond b p None) same; crash_is = crash-start how u.node v p same }) t)
        (λ u x. let other : (v.node == u.node) ≡ false = other-number u.node v.node x in
        record { own_is = refl; pick_is = ap (λ b. cond b p None) other; crash_is = calm-start how u.node v p other })
        all

told-boot : (opening w : World) (past : List Step) (ent : Entry) (later : World) (n e : ℕ) (how : BootEnd) (p : Option Pick) (began : Bool)
    → IsSomeAnd (site_at w n) (λ s. AllowsBoot s e how p began) → AllTold opening w past
    → AllTold opening (at_node n (boot_turn e how p began) w) (step_of w ent (event.Boot n e how p began) later ∷ past)
told-boot opening w past ent later n e how p began allowed all = go (node_at w n) refl allowed
  where
    st : Step
    st = step_of w ent (event.Boot n e how p began) later

    go : (o : Option Node) → node_at w n ≡ o → IsSomeAnd (with_item o (λ it. Some (site_of w n it)) None)
        (λ s. AllowsBoot s e how p began) → AllTold opening (at_node n (boot_turn e how p began) w) (st ∷ past)
    go None is a = absurd a
    go (Some it) is a = told-at opening w past st n (boot_turn e how p began) it is
        (λ u h q t. let same : (n == u.node) ≡ true = eq-eqb n u.node (sym h) in
        boot-leaves (held_of opening u) u past st (site_of w n it) e how p began q a.no_requests
        (record { own_is = refl; pick_is = ap (λ b. cond b p None) same; crash_is = refl }) t)
        (λ u x. let other : (n == u.node) ≡ false = other-number u.node n x in
        record { own_is = refl; pick_is = ap (λ b. cond b p None) other; crash_is = refl })
        all

told-crash_at : (opening w : World) (past : List Step) (e : Entry) (later : World) (n : ℕ) → AllTold opening w past
    → AllTold opening (at_node n crashed w) (step_of w e (event.Crash n) later ∷ past)
told-crash_at opening w past e later n all = record {
  each = λ u. lift w n crashed u (λ facts now. IsTold (held_of opening u) u facts now (st ∷ past))
      (λ it at h found. (crash-leaves (held_of opening u) u past st (site_of w n it)
      (record { own_is = refl; pick_is = refl; crash_is = eq-eqb n u.node (sym h) })
      (subst (By (λ facts now. IsTold (held_of opening u) u facts now past) u) found (all.each u))).told)
      (λ x. told-quiet (held_of opening u) u past st _ _ (record { own_is = refl; pick_is = refl; crash_is = other-number u.node n x })
      (all.each u))
      (λ none. nowhere u none (n == u.node) refl);
  queues = queue-at_node w n crashed (λ it at q. (comes-crashed (site_of w n it)).queue) all.queues;
}
  where
    st : Step
    st = step_of w e (event.Crash n) later

    nowhere : (u : Uid) → node_at w n ≡ None → (b : Bool) → (n == u.node) ≡ b
        → IsTold (held_of opening u) u (facts_at w u) (begun_at w u) (st ∷ past)
    nowhere u none false is = told-quiet (held_of opening u) u past st _ _ (record { own_is = refl; pick_is = refl; crash_is = is })
        (all.each u)
    nowhere u none true is = not-begun (held_of opening u) u (st ∷ past) _ _ _
        (ap (λ o. with_item o (λ (it : Node). begun it.requests u) None) (sym none ∙ ap (node_at w) (same-number n u.node is)))
        (told-crash (held_of opening u) u past st _ _ (record { own_is = refl; pick_is = refl; crash_is = is }) (all.each u))

told-each : (opening : World) (past : List Step) (qs : List (Uid × ℕ)) (w : World) → AllTold opening w past
    → AllTold opening (tells_each qs w) past
told-each opening past [] w all = all
told-each opening past (q ∷ qs) w all = told-each opening past qs (at_node q.0.node (tells q.0 q.1 (Told status.Broken [])) w)
    (keeps-told opening w past q.0.node (tells q.0 q.1 (Told status.Broken [])) (keeps-tells q.0 q.1 (Told status.Broken [])) all)

-- 3. Every event

-- a turn at a node that is nothing to any Eject's changes
calm-at : (opening w : World) (past : List Step) (st : Step) (n : ℕ) (ev : Event) → ((s : Site) → Keeps s (site_turn (reaches w n) ev s))
    → ((u : Uid) → IsSeen u st None None false) → AllTold opening w past → AllTold opening (at_site w n ev) (st ∷ past)
calm-at opening w past st n ev keeps seen all = keeps-told opening w (st ∷ past) n (site_turn (reaches w n) ev) keeps
    (quiet-told opening w past st seen all)

plain : (u : Uid) (w : World) (e : Entry) (later : World) (ev : Event) → own_call u w ev ≡ None → picked u.node ev ≡ None
    → crashes u.node ev ≡ false → IsSeen u (step_of w e ev later) None None false
plain u w e later ev a b c = record { own_is = a; pick_is = b; crash_is = c }

same-item : {X : Type 0} (opening w : World) (past : List Step) (o : Option X) (f : X → World) → ((x : X) → AllTold opening (f x) past)
    → AllTold opening w past → AllTold opening (with_item o f w) past
same-item opening w past None f each all = all
same-item opening w past (Some x) f each all = each x

-- other parts of the world
renamed : (opening w v : World) (past : List Step) → v.nodes ≡ w.nodes → AllTold opening w past → AllTold opening v past
renamed opening w v past same all = record {
  each = λ u. subst (λ ns. By (λ facts now. IsTold (held_of opening u) u facts now past) u (value_at nat_cmp u.node ns)) (sym same)
      (all.each u);
  queues = λ n it is. all.queues n it (ap (λ ns. value_at nat_cmp n ns) (sym same) ∙ is);
}

told-held_by : (opening : World) (past : List Step) (c : Command) (w : World) → AllTold opening w past → AllTold opening (held_by c w) past
told-held_by opening past (command.Hold name v) w all = renamed opening w _ past refl all
told-held_by opening past _ w all = all

told-restricted_by : (opening : World) (past : List Step) (c : Command) (w : World) → AllTold opening w past
    → AllTold opening (restricted_by c w) past
told-restricted_by opening past (command.Restrict name target mask) w all = same-item opening w past (cap_at w target) _
    (λ c. renamed opening w _ past refl all) all
told-restricted_by opening past _ w all = all

told-asked_by : (opening : World) (past : List Step) (c : Command) (k : ℕ) (at_once : Option Status) (w : World) → AllTold opening w past
    → AllTold opening (asked_by c k at_once w) past
told-asked_by opening past (command.Call name target operation args) k at_once w all = same-item opening w past
    (ready_call w (command.Call name target operation args)) _ (λ c. renamed opening w _ past refl all) all
told-asked_by opening past _ k at_once w all = all

told-born_as : (opening : World) (past : List Step) (v : Uid) (t : Option Edentype) (w : World) → AllTold opening w past
    → AllTold opening (born_as v t w) past
told-born_as opening past v None w all = all
told-born_as opening past v (Some t) w all = keeps-told opening w past v.node (born v (fresh t (first_values t)))
    (keeps-born v (fresh t (first_values t))) all

told-made : (opening : World) (past : List Step) (name type_name : List ℕ) (v : Option Uid) (w : World) → AllTold opening w past
    → AllTold opening (made name type_name v w) past
told-made opening past name type_name None w all = renamed opening w _ past refl all
told-made opening past name type_name (Some v) w all = renamed opening (born_as v (type_of w.types type_name) w) _ past refl
    (told-born_as opening past v (type_of w.types type_name) w all)

told-linked : (opening : World) (past : List Step) (a b : ℕ) (joined : Bool) (w : World) → AllTold opening w past
    → AllTold opening (linked a b joined w) past
told-linked opening past a b true w all = renamed opening w _ past refl all
told-linked opening past a b false w all = told-each opening past (processes_of (broken_by_link a b) w.traffic)
    (record w { cuts = (a, b) ∷ w.cuts; traffic = without_link a b w.traffic }) (renamed opening w _ past refl all)

told-boot_by : (opening w : World) (past : List Step) (c : Command) (ent : Entry) (later : World) (n e : ℕ) (how : BootEnd)
    (p : Option Pick) (began : Bool)
    → AllowsCommand w c (event.Boot n e how p began) → AllTold opening w past
    → AllTold opening (at_node n (boot_turn e how p began) w) (step_of w ent (event.Boot n e how p began) later ∷ past)
told-boot_by opening w past (command.Restart m) ent later n e how p began allowed all =
    let same : n ≡ m = allowed.0 in
    let at : IsSomeAnd (site_at w n) (λ s. AllowsBoot s e how p began) = rw same allowed.1 in
    told-boot opening w past ent later n e how p began at all
told-boot_by opening w past _ ent later n e how p began allowed all = absurd allowed

told-turn : (opening w : World) (past : List Step) (e : Entry) (later : World) (ev : Event) → AllowsInTurn w ev → AllTold opening w past
    → AllTold opening (after_turn w ev) (step_of w e ev later ∷ past)
told-turn opening w past e later (event.Boot n ep how p began) allowed all = absurd allowed
told-turn opening w past e later (event.Crash n) allowed all = absurd allowed
told-turn opening w past e later (event.Still n up) allowed all = absurd allowed
told-turn opening w past e later (event.Link a b joined) allowed all = absurd allowed
told-turn opening w past e later (event.Armed n what) allowed all = absurd allowed
told-turn opening w past e later (event.Made name why v) allowed all = absurd allowed
told-turn opening w past e later (event.Bound name held) allowed all = absurd allowed
told-turn opening w past e later (event.Void name) allowed all = absurd allowed
told-turn opening w past e later (event.Asked k name at_once) allowed all = absurd allowed
told-turn opening w past e later (event.Left names) allowed all = absurd allowed
told-turn opening w past e later (event.Request k a b refused) allowed all = calm-at opening w past _ b (event.Request k a b refused)
    (keeps-requested k refused) (λ u. plain u w e later (event.Request k a b refused) refl refl refl) all
told-turn opening w past e later (event.Reply k a b None why values) allowed all = calm-at opening w past _ b
    (event.Reply k a b None why values) (keeps-heard k why values)
    (λ u. plain u w e later (event.Reply k a b None why values) refl refl refl) all
told-turn opening w past e later (event.Reply k a b (Some name) why values) allowed all = renamed opening w _ _ refl
    (quiet-told opening w past _ (λ u. plain u w e later (event.Reply k a b (Some name) why values) refl refl refl) all)
told-turn opening w past e later (event.Activate v start_end.Ok p) allowed all =
    told-start opening w past e later v start_end.Ok p allowed all
told-turn opening w past e later (event.Activate v start_end.Gone p) allowed all =
    told-start opening w past e later v start_end.Gone p allowed all
told-turn opening w past e later (event.Activate v start_end.Fault p) allowed all =
    told-start opening w past e later v start_end.Fault p allowed all
told-turn opening w past e later (event.Activate v start_end.Damaged p) allowed all =
    told-start opening w past e later v start_end.Damaged p allowed all
told-turn opening w past e later (event.Activate v start_end.Stop p) allowed all = told-each opening _
    (processes_of (broken_by_node v.node) w.traffic) (at_site w v.node (event.Activate v start_end.Stop p))
    (told-start opening w past e later v start_end.Stop p allowed all)
told-turn opening w past e later (event.Start k v p) allowed all = calm-at opening w past _ v.node (event.Start k v p) (keeps-start v k p)
    (λ u. plain u w e later (event.Start k v p) refl refl refl) all
told-turn opening w past e later (event.Process v p said) allowed all = calm-at opening w past _ v.node (event.Process v p said)
    (keeps-process_turn (reaches w v.node) v p) (λ u. plain u w e later (event.Process v p said) refl refl refl) all
told-turn opening w past e later (event.Store v clock end.Done p) allowed all =
    told-store opening w past e later v clock end.Done p allowed all
told-turn opening w past e later (event.Store v clock end.Part p) allowed all =
    told-store opening w past e later v clock end.Part p allowed all
told-turn opening w past e later (event.Store v clock end.Fault p) allowed all =
    told-store opening w past e later v clock end.Fault p allowed all
told-turn opening w past e later (event.Store v clock end.Full p) allowed all =
    told-store opening w past e later v clock end.Full p allowed all
told-turn opening w past e later (event.Store v clock end.Stop p) allowed all = told-each opening _
    (processes_of (broken_by_node v.node) w.traffic) (at_site w v.node (event.Store v clock end.Stop p))
    (told-store opening w past e later v clock end.Stop p allowed all)
told-turn opening w past e later event.Quiet allowed all = quiet-told opening w past _
    (λ u. plain u w e later event.Quiet refl refl refl) all
told-turn opening w past e later event.Spent allowed all = quiet-told opening w past _
    (λ u. plain u w e later event.Spent refl refl refl) all

told-command : (opening w : World) (past : List Step) (c : Command) (e : Entry) (later : World) (ev : Event) → AllowsCommand w c ev
    → AllTold opening w past → AllTold opening (after_command w c ev) (step_of w e ev later ∷ past)
told-command opening w past c e later (event.Boot n ep how p began) allowed all =
    told-boot_by opening w past c e later n ep how p began allowed all
told-command opening w past c e later (event.Crash n) allowed all = told-each opening _ (processes_of (broken_by_node n) w.traffic)
    (at_site w n (event.Crash n)) (told-crash_at opening w past e later n all)
told-command opening w past c e later (event.Still n up) allowed all = quiet-told opening w past _
    (λ u. plain u w e later (event.Still n up) refl refl refl) all
told-command opening w past c e later (event.Link a b joined) allowed all = told-linked opening _ a b joined w
    (quiet-told opening w past _ (λ u. plain u w e later (event.Link a b joined) refl refl refl) all)
told-command opening w past c e later (event.Armed n what) allowed all = quiet-told opening w past _
    (λ u. plain u w e later (event.Armed n what) refl refl refl) all
told-command opening w past c e later (event.Made name why v) allowed all = told-made opening _ name (type_name_of c) v w
    (quiet-told opening w past _ (λ u. plain u w e later (event.Made name why v) refl refl refl) all)
told-command opening w past c e later (event.Bound name true) allowed all = told-held_by opening _ c w
    (quiet-told opening w past _ (λ u. plain u w e later (event.Bound name true) refl refl refl) all)
told-command opening w past c e later (event.Bound name false) allowed all = told-restricted_by opening _ c w
    (quiet-told opening w past _ (λ u. plain u w e later (event.Bound name false) refl refl refl) all)
told-command opening w past c e later (event.Void name) allowed all = quiet-told opening w past _
    (λ u. plain u w e later (event.Void name) refl refl refl) all
told-command opening w past c e later (event.Asked k name at_once) allowed all = told-asked_by opening _ c k at_once w
    (quiet-told opening w past _ (λ u. plain u w e later (event.Asked k name at_once) refl refl refl) all)
told-command opening w past c e later (event.Left names) allowed all = quiet-told opening w past _
    (λ u. plain u w e later (event.Left names) refl refl refl) all
told-command opening w past c e later (event.Request k a b refused) allowed all = absurd
    (no-turn w c (event.Request k a b refused) refl allowed)
told-command opening w past c e later (event.Reply k a b name why values) allowed all = absurd
    (no-turn w c (event.Reply k a b name why values) refl allowed)
told-command opening w past c e later (event.Activate v how p) allowed all = absurd (no-turn w c (event.Activate v how p) refl allowed)
told-command opening w past c e later (event.Start k v p) allowed all = absurd (no-turn w c (event.Start k v p) refl allowed)
told-command opening w past c e later (event.Process v p said) allowed all = absurd (no-turn w c (event.Process v p said) refl allowed)
told-command opening w past c e later (event.Store v clock how p) allowed all = absurd
    (no-turn w c (event.Store v clock how p) refl allowed)
told-command opening w past c e later event.Quiet allowed all = quiet-told opening w past _
    (λ u. plain u w e later event.Quiet refl refl refl) all
told-command opening w past c e later event.Spent allowed all = quiet-told opening w past _
    (λ u. plain u w e later event.Spent refl refl refl) all

told-happened : (opening w : World) (past : List Step) (c : Option Command) (e : Entry) (later : World) (ev : Event) → AllowsEvent w c ev
    → AllTold opening w past → AllTold opening (happened w c ev) (step_of w e ev later ∷ past)
told-happened opening w past None e later ev allowed all = told-turn opening w past e later ev allowed all
told-happened opening w past (Some c) e later ev allowed all = told-command opening w past c e later ev allowed all

told-counted : (opening : World) (past : List Step) (k : Option Key) (w : World) → AllTold opening w past
    → AllTold opening (counted k w) past
told-counted opening past None w all = all
told-counted opening past (Some k) w all = renamed opening w _ past refl all

told-clocked : (opening : World) (past : List Step) (n c : ℕ) (w : World) → AllTold opening w past → AllTold opening (clocked n c w) past
told-clocked opening past n c w all = go (n == 0)
  where
    C : (u : Uid) → Option Node → Type 0
    C u o = By (λ facts now. IsTold (held_of opening u) u facts now past) u o

    same : (u : Uid) (b : Bool) (o : Option Node) → C u o → C u (cond b (option_map (with_clock c) o) o)
    same u true None x = x
    same u true (Some it) x = x
    same u false o x = x

    one : (m : ℕ) (it : Node) (b : Bool) (o : Option Node) → node_at w m ≡ o → cond b (option_map (with_clock c) o) o ≡ Some it
        → QueuedNode it
    one m it true None at is = absurd (cc is)
    one m it true (Some x) at is = subst (λ o. IfSome o QueuedNode) is (all.queues m x at)
    one m it false o at is = all.queues m it (at ∙ is)

    go : (b : Bool) → AllTold opening (record w { nodes = cond b w.nodes (changed_at nat_cmp n (with_clock c) w.nodes) }) past
    go true = all
    go false = record {
      each = λ u. subst (C u) (sym (value-changed nat_cmp nat_cmp_total nat_cmp-IsAntisymmetric u.node n (with_clock c) w.nodes))
          (same u (eq_by_cmp nat_cmp u.node n) (node_at w u.node) (all.each u));
      queues = λ m it is. one m it (eq_by_cmp nat_cmp m n) (node_at w m) refl
          (sym (value-changed nat_cmp nat_cmp_total nat_cmp-IsAntisymmetric m n (with_clock c) w.nodes) ∙ is);
    }

told-next : (opening w : World) (past : List Step) (c : Option Command) (e : Entry) (later : World) → Allows w c e
    → AllTold opening w past → AllTold opening (next w c e) (step_of w e e.event later ∷ past)
told-next opening w past c e later allowed all = told-counted opening _ (key_of e.event) (clocked e.node e.clock (happened w c e.event))
    (told-clocked opening _ e.node e.clock (happened w c e.event) (told-happened opening w past c e later e.event allowed.event all))

-- 4. Every history

asked-seen : (u : Uid) (w : World) (e : Entry) (later : World) (name : List ℕ) (target : Option Cap) (path : List (List ℕ)) (ev : Event)
    → AllowsLookUp w name target path ev → IsSeen u (step_of w e ev later) None None false
asked-seen u w e later name (Some target) path (event.Asked k said at_once) allowed = plain u w e later
    (event.Asked k said at_once) refl refl refl
asked-seen u w e later name None path (event.Void said) allowed = plain u w e later (event.Void said) refl refl refl
asked-seen u w e later name target path _ allowed = absurd allowed

-- a start that is allowed is whole
whole-at : (opening w later : World) (past : List Step) (e : Entry) (u : Uid) (p : Option Pick)
    → IsSomeAnd (site_at w u.node) (λ s. IsSomeAnd (eject_in s u) (λ x. AllowsActivate s u start_end.Ok p x)) → AllTold opening w past
    → with_item (site_at w u.node) (λ s. with_item (eject_in (settled p s) u) (λ x. x.kept) None) None ≡ start_bytes
    (kept_at opening u) u p past
whole-at opening w later past e u p allowed all = go (node_at w u.node) refl allowed
  where
    go : (o : Option Node) → node_at w u.node ≡ o
        → IsSomeAnd (with_item o (λ it. Some (site_of w u.node it)) None)
        (λ s. IsSomeAnd (eject_in s u) (λ x. AllowsActivate s u start_end.Ok p x))
        → with_item (with_item (node_at w u.node) (λ it. Some (site_of w u.node it)) None)
        (λ s. with_item (eject_in (settled p s) u) (λ x. x.kept) None) None ≡ start_bytes (kept_at opening u) u p past
    go None is a = absurd a
    go (Some it) is a = ap (λ o. with_item (with_item o (λ it. Some (site_of w u.node it)) None)
        (λ s. with_item (eject_in (settled p s) u) (λ x. x.kept) None) None) is
        ∙ start-whole (held_of opening u) u past (site_of w u.node it) start_end.Ok p (all.queues u.node it is)
        (starts-at (site_of w u.node it) u start_end.Ok p a)
        (subst (By (λ facts now. IsTold (held_of opening u) u facts now past) u) is (all.each u))

whole-in : (opening w later : World) (past : List Step) (e : Entry) (ev : Event) → AllowsInTurn w ev → AllTold opening w past
    → StartIsWhole opening past (record { world = w; entry = e; later = later }) ev
whole-in opening w later past e (event.Activate u start_end.Ok p) allowed all = whole-at opening w later past e u p allowed all
whole-in opening w later past e _ allowed all = tt

whole-by : (opening w later : World) (past : List Step) (c : Command) (e : Entry) (ev : Event) → AllowsCommand w c ev
    → StartIsWhole opening past (record { world = w; entry = e; later = later }) ev
whole-by opening w later past c e (event.Activate u start_end.Ok p) allowed = absurd
    (no-turn w c (event.Activate u start_end.Ok p) refl allowed)
whole-by opening w later past c e _ allowed = tt

whole : (opening w later : World) (past : List Step) (c : Option Command) (e : Entry) (ev : Event) → AllowsEvent w c ev
    → AllTold opening w past → StartIsWhole opening past (record { world = w; entry = e; later = later }) ev
whole opening w later past None e ev allowed all = whole-in opening w later past e ev allowed all
whole opening w later past (Some c) e ev allowed all = whole-by opening w later past c e ev allowed

asked-whole : (opening w later : World) (past : List Step) (e : Entry) (name : List ℕ) (target : Option Cap) (path : List (List ℕ))
    (ev : Event) → AllowsLookUp w name target path ev → StartIsWhole opening past (record { world = w; entry = e; later = later }) ev
asked-whole opening w later past e name (Some target) path (event.Asked k said at_once) allowed = tt
asked-whole opening w later past e name None path (event.Void said) allowed = tt
asked-whole opening w later past e name target path _ allowed = absurd allowed

-- of each step of every history that leads from a world of which the past tells all
pub each-start-whole : (opening : World) (nodes : ℕ) (cs : List Command) (history : List Entry)
    → AllTold opening (beginning opening nodes cs).world [] → Leads (beginning opening nodes cs) history
    → EachStep (λ past s. StartIsWhole opening past s s.entry.event) [] (steps (beginning opening nodes cs) history)
each-start-whole opening nodes cs history all leads = each-step Any (λ past w. AllTold opening w past)
    (λ past s. StartIsWhole opening past s s.entry.event) (record {
      entries = λ past w c e any allowed i. (
        whole opening w (next w c e) past c e e.event allowed.event i,
        told-next opening w past c e (next w c e) allowed i,
      );
      look_ups = λ past w name target path e any allowed plain i. (
        asked-whole opening w (looked_up w name target path e.event) past e name target path e.event allowed,
        renamed opening w _ _ (nodes-looked_up w name target path e.event)
            (quiet-told opening w past _ (λ u. asked-seen u w e (looked_up w name target path e.event) name target path e.event allowed) i),
      );
    }) (beginning opening nodes cs) [] history (of-any 1 nodes opening cs) all leads
