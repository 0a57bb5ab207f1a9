-- A stage in the world: each entry keeps what holds of it.
use Rattle.std.proofs.Common.{◌≡◌, ◌⊎◌, inl, inr, ℕ, Bool, true, false, cond, List, [], ◌∷◌, Option, None, Some, is_some}
use Rattle.std.proofs.Common.{refl, ap, ap₂, sym, ◌∙◌, subst}
use Rattle.std.specs.Prelude.{codes, IsSomeAnd, IfSome}
use Rattle.std.specs.Option.{option_map}
use Rattle.std.specs.Ordering.{nat_cmp, eq_by_cmp}
use Rattle.capability.specs.declared.Uid.{Uid}
use Rattle.capability.specs.declared.Cap.{Cap}
use Rattle.capability.proofs.Uids.{uid_cmp-IsAntisymmetric}
use Rattle.eden_model.proofs.Laws.{eq-same}
use Rattle.epl_syntax.specs.declared.effect.Effect.TheVariants as effect
use Rattle.epl_syntax.specs.Meaning.{Turned}
use Rattle.history_laws.proofs.Frame.{eject-on_traffic}
use Rattle.journal.specs.World.{on_eject, reaches}
use Rattle.journal.specs.Ejects.{on_active}
use Rattle.journal.specs.Processes.{turn_of, turned, serving, effected, process_turn, waits_or_told}
use Rattle.journal.specs.Processes.{refused_at_once}
use Rattle.eden_value.specs.Datum.{Datum}
use Rattle.eden_value.specs.declared.status.Status.{Status}
use Rattle.eden_model.specs.Map.{with_item, value_at, uid_cmp}
use Rattle.eden_model.specs.Crew.{Process as Worker, nothing, outside, Waits}
use Rattle.eden_model.specs.declared.Asker.TheVariants.{Shell, Eject as Process}
use Rattle.eden_model.specs.Traffic.{Call, answered, call_at}
use Rattle.journal.specs.declared.command.Command.{Command}
use Rattle.journal.specs.declared.command.Command.TheVariants as command
use Rattle.journal.specs.declared.event.Event.{Event}
use Rattle.journal.specs.declared.event.Event.TheVariants as event
use Rattle.journal.specs.declared.event.Entry.{Entry}
use Rattle.journal.specs.declared.event.Shown.{Shown}
use Rattle.journal.specs.EjectChange.{EjectChange, body, removal}
use Rattle.journal.specs.World.{World, Site, Node, Eject, Active, Task, StoreRequest, node_at, eject_at, site_of, eject_in}
use Rattle.journal.specs.Processes.{AllowsTurn, worker_at}
use Rattle.journal.specs.Monitors.{Leaves, whose_turn}
use Rattle.journal.specs.Step.{AllowsAt, AllowsEvent, Allows, next}
use Rattle.history_laws.proofs.EveryNode.{at-its-site}
use Rattle.history_laws.proofs.Runs.{no-turn, nodes-looked_up}
use Rattle.journal.specs.Sites.{Everywhere, active_in, GoesOn}
use Rattle.history_laws.proofs.CallsKeep.{keeps-next as calls-keep}
use Rattle.history_laws.proofs.SiteRuns.{is-known, site-next}
use Rattle.history_laws.proofs.SeatRuns.{SeatWorld}
use Rattle.stream_laws.proofs.Roles.{Role, IsLawful}
use Rattle.stream_laws.proofs.Stage.{IsTask, IsBusy, IsActive, IsBody, IsChange, AreChanges, NoneOf, IsClean, IsEject, IsStage}
use Rattle.value_laws.proofs.AnswerCalls.{GoOn, Was, IsNew, IsNews}
use Rattle.value_laws.proofs.WorldCalls.{ShellAsks, keeps-next, keeps-looked_up}
use Rattle.journal.specs.Run.{AllowsLookUp, lookup_args, looked_up}
use Rattle.eden_model.specs.declared.Asker.{Asker}
use Rattle.history_laws.proofs.VariableRuns.{leaves-entry}
use Rattle.stream_laws.proofs.StagedNodes.{kept_now, active_now, own-eject, Around, OnNode, AsksOn, node-next}
use Rattle.stream_laws.proofs.StagedCalls.{SaidOn, NewAnswer, NewCall, IsOwnCall, by-shell, turn-keeps}
use Rattle.stream_laws.proofs.Items.{same-some, if-map}
use Rattle.stream_laws.proofs.Sites.{eject-own, turn-is, own-later}

-- 1. What was kept does not matter but where it is kept still
module _ (R : Role) (u : Uid) (A : ℕ → List Datum) (a b : Bool) where
  task-as : (kept : Bool) (vars args : List Datum) (t : Task) → IsTask R u A a kept vars args t → IsTask R u A b kept vars args t
  task-as kept vars args t h = record { stage = h.stage; rest = h.rest; keeps = h.keeps; fine = h.fine }

  and-map : {X : Type 0} {P Q : X → Type 0} (o : Option X) → ((x : X) → P x → Q x) → IsSomeAnd o P → IsSomeAnd o Q
  and-map None f h = h
  and-map (Some x) f h = f x h

  busy-as : (kept : Bool) (it : Active) → IsBusy R u A a kept it → IsBusy R u A b kept it
  busy-as kept it h = record {
    number = h.number;
    worker = h.worker;
    call = h.call;
    alone = h.alone;
    serves = h.serves;
    class = h.class;
    task = and-map (value_at nat_cmp h.number it.tasks) (λ t x. task-as kept it.vars (A h.call.call) t x) h.task;
  }

  active-as : (kept : Bool) (it : Active) → IsActive R u A a kept it → IsActive R u A b kept it
  active-as kept it h = record { kind = h.kind; vars = h.vars; limits = h.limits; monitors = h.monitors; work = go h.work }
    where
      go : ((it.crew.processes ≡ []) × R.Idle) ⊎ IsBusy R u A a kept it → ((it.crew.processes ≡ []) × R.Idle) ⊎ IsBusy R u A b kept it
      go (inl x) = inl x
      go (inr x) = inr (busy-as kept it x)

  body-as : (bytes : List ℕ) → IsBody R u A a bytes → IsBody R u A b bytes
  body-as bytes h = record { values = h.values; holds = h.holds; filled = h.filled; spelled = h.spelled; reads = h.reads }

  change-as : (c : EjectChange) → IsChange R u A a c → IsChange R u A b c
  change-as (body bytes) h = body-as bytes h
  change-as removal h = h

  changes-as : (rs : List StoreRequest) → AreChanges R u A a rs → AreChanges R u A b rs
  changes-as [] h = tt
  changes-as (r ∷ rs) h = (λ same. change-as r.change (h.0 same), changes-as rs h.1)

  none-as : (rs : List StoreRequest) → NoneOf R u A a rs → NoneOf R u A b rs
  none-as [] h = tt
  none-as (r ∷ rs) h = (h.0, none-as rs h.1)

  clean-as : (rs : List StoreRequest) (e : Eject) → IsClean R u A a rs e → IsClean R u A b rs e
  clean-as rs e h = record { kept = h.kept; doubt = h.doubt; requests = none-as rs h.requests }

  eject-as : (rs : List StoreRequest) (e : Eject) → (b ≡ true → is_some e.kept ≡ true) → IsEject R u A a rs e → IsEject R u A b rs e
  eject-as rs e still h = record {
    active = if-map e.active (λ it x. active-as (is_some e.kept) it x) h.active;
    filled = if-map e.active (λ it x. go it x) h.filled;
    kept = if-map e.kept (λ bytes x. body-as bytes x) h.kept;
    doubt = if-map e.doubt (λ c x. change-as c x) h.doubt;
    still = still;
  }
    where
      go : (it : Active) → R.Filled it.vars ⊎ IsClean R u A a rs e → R.Filled it.vars ⊎ IsClean R u A b rs e
      go it (inl x) = inl x
      go it (inr x) = inr (clean-as rs e x)

  pub stage-as : (rs : List StoreRequest) (o : Option Eject) → (b ≡ true → IsSomeAnd o (λ e. is_some e.kept ≡ true))
      → IsStage R u A a rs o → IsStage R u A b rs o
  stage-as rs o still h = record {
    requests = changes-as rs h.requests;
    eject = go o still h.eject;
    there = there;
  }
    where
      there-of : (o : Option Eject) → IsSomeAnd o (λ e. is_some e.kept ≡ true) → is_some o ≡ true
      there-of None x = absurd x
      there-of (Some e) x = refl

      there : (b ≡ true) ⊎ R.There → is_some o ≡ true
      there (inl x) = there-of o (still x)
      there (inr x) = h.there (inr x)

      go : (o : Option Eject) → (b ≡ true → IsSomeAnd o (λ e. is_some e.kept ≡ true)) → IfSome o (IsEject R u A a rs)
          → IfSome o (IsEject R u A b rs)
      go None s x = tt
      go (Some e) s x = eject-as rs e s x

-- what is allowed of a turn is allowed at its site
pub turn-allowed : (w : World) (o : Option Command) (it : Node) (v : Uid) (p : ℕ) (said : Shown) → AllowsEvent w o (event.Process v p said)
    → node_at w v.node ≡ Some it → AllowsAt (site_of w v.node it) (event.Process v p said)
turn-allowed w None it v p said a at = at-its-site w v.node (λ s. AllowsAt s (event.Process v p said)) it at a
turn-allowed w (Some y) it v p said a at = absurd (no-turn w y (event.Process v p said) refl a)

-- 2. A step
module _ (R : Role) (L : IsLawful R) (u : Uid) (A : ℕ → List Datum) where
  pub record Staged (w : World) : Type 0 where
    pub node : Everywhere (OnNode R L u A (kept_now w u)) w
    pub said : SaidOn R L u A w
    pub asks : AsksOn R L u A w

  module _ (H : ℕ → Bool) (w : World) (c : Option Command) (e : Entry) (seat : SeatWorld H w) (allowed : Allows w c e)
      (x : Around R L u A H w c e.event) (old : Staged w) where
    abbrev later : World
    later = next w c e

    nodes : Everywhere (OnNode R L u A (kept_now w u)) later
    nodes = node-next R L u A H w c e.event x old.asks e refl allowed.event old.node

    pub here-later : is_some (node_at w u.node) ≡ true → is_some (node_at later u.node) ≡ true
    here-later there = (site-next H w c e allowed seat.site).known.sound.place.present u.node
        ∙ sym (seat.site.known.sound.place.present u.node) ∙ there

    here-before : is_some (node_at later u.node) ≡ true → is_some (node_at w u.node) ≡ true
    here-before there = seat.site.known.sound.place.present u.node
        ∙ sym ((site-next H w c e allowed seat.site).known.sound.place.present u.node) ∙ there

    kept-of-node : (o : Option Node) → with_item (with_item o (λ (it : Node). value_at uid_cmp u it.ejects) None)
        (λ (e : Eject). is_some e.kept)
        false ≡ true → is_some o ≡ true
    kept-of-node None k = absurd (cc k)
    kept-of-node (Some it) k = refl

    -- what is kept is kept still
    pub kept-later : kept_now w u ≡ true → kept_now later u ≡ true
    kept-later k = go (node_at later u.node) refl (here-later (kept-of-node (node_at w u.node) k))
      where
        eject : (rs : List StoreRequest) (o : Option Eject) → IsStage R u A (kept_now w u) rs o
            → with_item o (λ (e : Eject). is_some e.kept) false ≡ true
        eject rs None h = absurd (cc (h.there (inl k)))
        eject rs (Some y) h = h.eject.still k

        go : (o : Option Node) → node_at later u.node ≡ o → is_some o ≡ true
            → with_item (with_item o (λ (it : Node). value_at uid_cmp u it.ejects) None) (λ (e : Eject). is_some e.kept) false ≡ true
        go None at there = absurd (cc there)
        go (Some it) at there = eject it.requests (value_at uid_cmp u it.ejects) (nodes u.node it at refl)

    node-later : Everywhere (OnNode R L u A (kept_now later u)) later
    node-later n it at here = stage-as R u A (kept_now w u) (kept_now later u) it.requests (value_at uid_cmp u it.ejects)
        (λ k. go (value_at uid_cmp u it.ejects) (sym (ap (λ o. with_item o (λ (e : Eject). is_some e.kept) false)
        (own-eject later n it u at here)) ∙ k)) (nodes n it at here)
      where
        go : (o : Option Eject) → with_item o (λ (e : Eject). is_some e.kept) false ≡ true → IsSomeAnd o (λ e. is_some e.kept ≡ true)
        go None k = absurd (cc k)
        go (Some y) k = k

    -- 3. The calls
    turns-allowed : (it : Node) (v : Uid) (p : ℕ) (said : Shown) → e.event ≡ event.Process v p said → node_at w v.node ≡ Some it
        → AllowsAt (site_of w v.node it) (event.Process v p said)
    turns-allowed it v p said is at = turn-allowed w c it v p said (subst (AllowsEvent w c) is allowed.event) at

    calls : GoOn (NewAnswer R L u A w e.event) (NewCall R L u A w e.event) w.traffic later.traffic
    calls = keeps-next (NewAnswer R L u A w e.event) (NewCall R L u A w e.event) w c e
        (turn-keeps R L u A w e.event H seat.site old.node x.turns e.event refl turns-allowed) (by c) allowed
      where
        shell : (x : Command) → ShellAsks (NewAnswer R L u A w e.event) (NewCall R L u A w e.event) w x
        shell (command.Call name target operation args) = λ k x ready. by-shell R L u A w e.event k name x.0 operation x.1
        shell _ = tt

        by : (o : Option Command) → IfSome o (ShellAsks (NewAnswer R L u A w e.event) (NewCall R L u A w e.event) w)
        by None = tt
        by (Some x) = shell x

    said-as : (k : ℕ) (st : Status) (results : List Datum) → R.Said (kept_now w u) (A k) st results
        → R.Said (kept_now later u) (A k) st results
    said-as k st results h = go (kept_now w u) (kept_now later u) h kept-later
      where
        go : (a b : Bool) → R.Said a (A k) st results → (a ≡ true → b ≡ true) → R.Said b (A k) st results
        go true true y f = y
        go true false y f = absurd (let bad : false ≡ true = f refl in cc bad)
        go false true y f = L.said_later (A k) st results y
        go false false y f = y

    -- a call of before goes to the same
    target-kept : (k : ℕ) (a d : Call) → call_at w.traffic k ≡ Some a → call_at later.traffic k ≡ Some d → d.target.uid ≡ u
        → a.target.uid ≡ u
    target-kept k a d was is to = go (call_at later.traffic k) is ((calls-keep w c e (is-known H w seat.site.known) allowed).kept k a was)
      where
        go : (o : Option Call) → o ≡ Some d → IsSomeAnd o (GoesOn a) → a.target.uid ≡ u
        go None eq h = absurd h
        go (Some y) eq h = ap (λ (z : Cap). z.uid) (sym h.target) ∙ ap (λ (z : Call). z.target.uid) (let same : y ≡ d = cc eq in same) ∙ to

    news-said : (k : ℕ) (d : Call) (st : Status) (results : List Datum) → call_at later.traffic k ≡ Some d → d.target.uid ≡ u
        → IsNews (NewAnswer R L u A w e.event) k st results → R.Said (kept_now later u) (A k) st results
    news-said k d st results is to (inl none) = subst (R.Said (kept_now later u) (A k) st) (sym none) (L.said_nothing (kept_now later u)
        (A k) st)
    news-said k d st results is to (inr new) = said-as k st results (go (call_at w.traffic k) refl new)
      where
        go : (o : Option Call) → call_at w.traffic k ≡ o → IsSomeAnd o (λ c. c.target.uid ≡ u → R.Said (kept_now w u) (A k) st results)
            → R.Said (kept_now w u) (A k) st results
        go None at h = absurd h
        go (Some a) at h = h (target-kept k a d at is to)

    said-later : SaidOn R L u A later
    said-later k d st results is to place = go (calls.back k d is)
      where
        was : (o : Option Call) → call_at w.traffic k ≡ o
            → IsSomeAnd o (λ c. Was (NewAnswer R L u A w e.event) (NewCall R L u A w e.event) k c d)
            → R.Said (kept_now later u) (A k) st results
        was None at h = absurd h
        was (Some a) at h = by (h.answer st results place)
          where
            by : (a.place ≡ answered st results) ⊎ IsNews (NewAnswer R L u A w e.event) k st results
                → R.Said (kept_now later u) (A k) st results
            by (inl same) = said-as k st results (old.said k a st results at (ap (λ (z : Cap). z.uid) h.target ∙ to) same)
            by (inr new) = news-said k d st results is to new

        go : IsSomeAnd (call_at w.traffic k) (λ c. Was (NewAnswer R L u A w e.event) (NewCall R L u A w e.event) k c d)
            ⊎ IsNew (NewAnswer R L u A w e.event) (NewCall R L u A w e.event) k d → R.Said (kept_now later u) (A k) st results
        go (inl h) = was (call_at w.traffic k) refl h
        go (inr h) = news-said k d st results is to (h.answer st results place)

    -- who asked an open call waits
    pub waiting : (k : ℕ) (a : Call) (p : ℕ) → call_at w.traffic k ≡ Some a → a.open_ ≡ true → a.asker ≡ Process u p
        → is_some (node_at w u.node) ≡ true
        → IsSomeAnd (active_now w u) (λ it. Waits it.crew p outside)
    waiting k a p at opened asker there = go (node_at w u.node) refl there
      where
        go : (o : Option Node) → node_at w u.node ≡ o → is_some o ≡ true → IsSomeAnd (active_now w u) (λ it. Waits it.crew p outside)
        go None is t = absurd (cc t)
        go (Some it) is t = subst (λ o. IsSomeAnd (active_in o) (λ it. Waits it.crew p outside)) (sym (own-eject w u.node it u is refl))
            (((seat.site.sites u.node it is).fits u refl).asks p k
            (subst (λ o. IsSomeAnd o (λ c. (c.open_ ≡ true) × (c.asker ≡ Process u p))) (sym at) (opened, asker))).0

    -- a process of it that takes its turn has no open call
    pub none-open : (p q : ℕ) (said : Shown) (it : Node) (y : Eject) (a : Active) → e.event ≡ event.Process u p said
        → node_at w u.node ≡ Some it
        → value_at uid_cmp u it.ejects ≡ Some y → y.active ≡ Some a → Waits a.crew q outside → ⊥
    none-open p q said it y a is at is_y some waits = alone (old.node u.node it at refl)
      where
        process : IsSomeAnd (worker_at a p) (λ z. AllowsTurn (site_of w u.node it) u p said a z)
        process = subst (λ o. IsSomeAnd o (λ a. IsSomeAnd (worker_at a p) (λ z. AllowsTurn (site_of w u.node it) u p said a z))) some
            (subst (λ o. IsSomeAnd o (λ e. IsSomeAnd e.active
            (λ a. IsSomeAnd (worker_at a p) (λ z. AllowsTurn (site_of w u.node it) u p said a z)))) is_y
            (turns-allowed it u p said is at))

        one : (ps : List (ℕ × Worker)) → a.crew.processes ≡ ps → (n : ℕ) (z : Worker) → ps ≡ (n, z) ∷ []
            → IsSomeAnd (value_at nat_cmp p ps) (λ z. AllowsTurn (site_of w u.node it) u p said a z)
            → option_map (λ (v : Worker). v.waits) (value_at nat_cmp q ps) ≡ Some outside → ⊥
        one ps here n z single ready w1 = both (eq_by_cmp nat_cmp p n) (eq_by_cmp nat_cmp q n)
            (subst (λ l. IsSomeAnd (value_at nat_cmp p l) (λ z. AllowsTurn (site_of w u.node it) u p said a z)) single ready)
            (subst (λ l. option_map (λ (v : Worker). v.waits) (value_at nat_cmp q l) ≡ Some outside) single w1)
          where
            both : (s t : Bool) → IsSomeAnd (cond s (Some z) None) (λ z. AllowsTurn (site_of w u.node it) u p said a z)
                → option_map (λ (v : Worker). v.waits) (cond t (Some z) None) ≡ Some outside → ⊥
            both false t r v = r
            both true false r v = cc v
            both true true r v = let bad : Some nothing ≡ Some outside = ap Some (sym r.ready) ∙ v in cc bad

        none : (ps : List (ℕ × Worker)) → ps ≡ [] → option_map (λ (v : Worker). v.waits) (value_at nat_cmp q ps) ≡ Some outside → ⊥
        none ps empty v = let bad : None ≡ Some outside = subst (λ (l : List (ℕ × Worker)). option_map (λ (v : Worker). v.waits)
            (value_at nat_cmp q l)
            ≡ Some outside) empty v in cc bad

        work : ((a.crew.processes ≡ []) × R.Idle) ⊎ IsBusy R u A (kept_now w u) (is_some y.kept) a → ⊥
        work (inl empty) = none a.crew.processes empty.0 waits
        work (inr b) = one a.crew.processes refl b.number b.worker b.alone process waits

        alone : IsStage R u A (kept_now w u) it.requests (value_at uid_cmp u it.ejects) → ⊥
        alone h = work (subst (λ o. IfSome o (IsActive R u A (kept_now w u) (is_some y.kept))) some
            (subst (λ o. IfSome o (IsEject R u A (kept_now w u) it.requests)) is_y h.eject).active).work

    -- whose turn the event is
    own-of : (ev : Event) (p : ℕ) → whose_turn u ev ≡ Some p → (said : Shown) × (ev ≡ event.Process u p said)
    own-of (event.Process v q said) p is = go (eq_by_cmp uid_cmp u v) refl is
      where
        go : (b : Bool) → eq_by_cmp uid_cmp u v ≡ b → cond b (Some q) None ≡ Some p → (z : Shown)
            × (event.Process v q said ≡ event.Process u p z)
        go true same eq = (
          said,
          ap₂ (λ x n. event.Process x n said) (sym (eq-same uid_cmp uid_cmp-IsAntisymmetric u v same))
              (same-some eq),
        )
        go false same eq = absurd (cc eq)
    own-of _ p is = absurd (cc is)

    -- the parts of an active Eject
    pub record Parts (v : World) (a : Active) : Type 0 where
      pub node : Node
      pub at : node_at v u.node ≡ Some node
      pub eject : Eject
      pub is : value_at uid_cmp u node.ejects ≡ Some eject
      pub some : eject.active ≡ Some a

    parts : (v : World) (a : Active) → active_now v u ≡ Some a → Parts v a
    parts v a is = go (node_at v u.node) refl is
      where
        eject : (nd : Node) → node_at v u.node ≡ Some nd → (o : Option Eject) → value_at uid_cmp u nd.ejects ≡ o → active_in o ≡ Some a
            → Parts v a
        eject nd at None is x = absurd (cc x)
        eject nd at (Some y) is x = record { node = nd; at = at; eject = y; is = is; some = x }

        go : (o : Option Node) → node_at v u.node ≡ o → active_in (with_item o (λ (it : Node). value_at uid_cmp u it.ejects) None) ≡ Some a
            → Parts v a
        go None at x = absurd (cc x)
        go (Some nd) at x = eject nd at (value_at uid_cmp u nd.ejects) refl x

    asks-old : (k : ℕ) (a d : Call) (p : ℕ) (now : Active) → call_at w.traffic k ≡ Some a
        → Was (NewAnswer R L u A w e.event) (NewCall R L u A w e.event) k a d → d.open_ ≡ true → d.asker ≡ Process u p
        → active_now later u ≡ Some now → R.Asks now.vars d.target d.operation (A k)
    asks-old k a d p now at h opened asker active = go (active_now w u) refl
        (waiting k a p at (h.opened opened) (h.asker ∙ asker) (here-before (ap is_some (parts later now active).at)))
      where
        stays : (it : Active) → active_now w u ≡ Some it → now.vars ≡ it.vars → R.Asks now.vars d.target d.operation (A k)
        stays it was same = subst (λ vs. R.Asks vs d.target d.operation (A k)) (sym same)
            (subst (λ o. R.Asks it.vars d.target o (A k)) h.operation (subst (λ t. R.Asks it.vars t a.operation (A k)) h.target
            (old.asks k a p it at (h.opened opened) (h.asker ∙ asker) was)))

        by : (it : Active) → active_now w u ≡ Some it → Waits it.crew p outside → (o : Option ℕ) → whose_turn u e.event ≡ o
            → Leaves o it now.vars → R.Asks now.vars d.target d.operation (A k)
        by it was waits None whose left = stays it was left
        by it was waits (Some q) whose left =
            let y = parts w it was in let own = own-of e.event q whose in
            absurd (none-open q p own.0 y.node y.eject it own.1 y.at y.is y.some waits)

        go : (o : Option Active) → active_now w u ≡ o → IsSomeAnd o (λ it. Waits it.crew p outside)
            → R.Asks now.vars d.target d.operation (A k)
        go None was h = absurd h
        go (Some it) was waits = by it was waits (whose_turn u e.event) refl (leaves-entry H w c e seat allowed u it now was active)

    -- a turn that asks
    vars-waits : (p : ℕ) (o : Option Status) (a : Active) → (waits_or_told p o a).vars ≡ a.vars
    vars-waits p None a = refl
    vars-waits p (Some why) a = refl

    vars-asked : (reach : ℕ → Bool) (p : ℕ) (s : Site) (y : Eject) (a : Active) (t : Turned) (target : Cap) (operation : List ℕ)
        (args : List Datum)
        → eject_in s u ≡ Some y → y.active ≡ Some a → turn_of u a p ≡ Some t → t.effect ≡ effect.Invoke target operation args
        → (now : Active) → active_in (eject_in (process_turn reach u p s) u) ≡ Some now → now.vars ≡ t.vars
    vars-asked reach p s y a t target operation args is some turns asks now active =
        let at_once = refused_at_once (reach target.uid.node) args in
        let mid : Site = on_eject u (on_active (turned p t)) s in
        let left : eject_in (process_turn reach u p s) u ≡ Some (on_active (waits_or_told p at_once) (on_active (turned p t) y)) =
        ap (λ (z : Site). eject_in z u) (turn-is reach u p s y a t is some turns)
        ∙ ap (λ eff. eject_in (effected reach u p (serving a p) a.kind t.vars eff mid) u) asks
        ∙ eject-on_traffic u _ (on_eject u (on_active (waits_or_told p at_once)) mid)
        ∙ eject-own u (on_active (waits_or_told p at_once)) mid
        ∙ ap (option_map (on_active (waits_or_told p at_once))) (eject-own u (on_active (turned p t)) s
        ∙ ap (option_map (on_active (turned p t))) is) in
        let one : Some (waits_or_told p at_once (turned p t a)) ≡ Some now = sym (both at_once) ∙ sym (ap active_in left) ∙ active in
        ap (λ (z : Active). z.vars) (sym (same-some one)) ∙ vars-waits p at_once (turned p t a)
      where
        both : (o : Option Status) → (on_active (waits_or_told p o) (on_active (turned p t) y)).active ≡ Some
            (waits_or_told p o (turned p t a))
        both o = rw some refl

    no-command : (o : Option Command) (p : ℕ) (said : Shown) → AllowsEvent w o (event.Process u p said) → o ≡ None
    no-command None p said a = refl
    no-command (Some y) p said a = absurd (no-turn w y (event.Process u p said) refl a)

    asks-new : (k : ℕ) (d : Call) (now : Active) → d.args ≡ A k → IsOwnCall R L u A w e.event d.target d.operation d.args
        → active_now later u ≡ Some now → R.Asks now.vars d.target d.operation (A k)
    asks-new k d now args own active = go (node_at w u.node) refl own.at
      where
        go : (o : Option Node) → node_at w u.node ≡ o → with_item o (λ (it : Node). value_at uid_cmp u it.ejects) None ≡ Some own.eject
            → R.Asks now.vars d.target d.operation (A k)
        go None at is = absurd (cc is)
        go (Some nd) at is = subst (R.Asks now.vars d.target d.operation) args
            (subst (λ vs. R.Asks vs d.target d.operation d.args)
            (sym (vars-asked (reaches w u.node) own.process
            (site_of w u.node nd) own.eject own.active own.turned d.target d.operation d.args is
            own.some own.turns own.effect_is now
            (ap active_in (sym (own-later w c e u own.process own.said nd
            (no-command c own.process own.said (subst (AllowsEvent w c) own.is allowed.event)) own.is at)) ∙ active)))
            own.asks)

    -- 4. The step
    pub staged-next : ((k : ℕ) (d : Call) → call_at later.traffic k ≡ Some d → d.args ≡ A k) → Staged later
    staged-next args = record { node = node-later; said = said-later; asks = asks-later }
      where
        asks-later : AsksOn R L u A later
        asks-later k d p now is opened asker active = go (calls.back k d is)
          where
            was : (o : Option Call) → call_at w.traffic k ≡ o
                → IsSomeAnd o (λ c. Was (NewAnswer R L u A w e.event) (NewCall R L u A w e.event) k c d)
                → R.Asks now.vars d.target d.operation (A k)
            was None at h = absurd h
            was (Some a) at h = asks-old k a d p now at h opened asker active

            go : IsSomeAnd (call_at w.traffic k) (λ c. Was (NewAnswer R L u A w e.event) (NewCall R L u A w e.event) k c d)
                ⊎ IsNew (NewAnswer R L u A w e.event) (NewCall R L u A w e.event) k d → R.Asks now.vars d.target d.operation (A k)
            go (inl h) = was (call_at w.traffic k) refl h
            go (inr h) = asks-new k d now (args k d is) (h.asker p asker) active

  -- 5. A look-up of a walk is a call of the shell
  abbrev Shells : ℕ → Asker → Cap → List ℕ → List Datum → Type 0
  Shells k by t o g = (q : ℕ) → by ≡ Process u q → ⊥

  abbrev None_new : ℕ → Status → List Datum → Type 0
  None_new k st results = ⊥

  pub staged-looked_up : (H : ℕ → Bool) (w : World) (name : List ℕ) (target : Option Cap) (path : List (List ℕ)) (e : Event)
      → AllowsLookUp w name target path e → Staged w → Staged (looked_up w name target path e)
  staged-looked_up H w name target path e a old = record { node = nodes; said = said; asks = asks }
    where
      same-nodes : (looked_up w name target path e).nodes ≡ w.nodes
      same-nodes = nodes-looked_up w name target path e

      same-eject : eject_at (looked_up w name target path e) u ≡ eject_at w u
      same-eject = ap (λ ns. with_item (value_at nat_cmp u.node ns) (λ (it : Node). value_at uid_cmp u it.ejects) None) same-nodes

      calls : GoOn None_new Shells w.traffic (looked_up w name target path e).traffic
      calls = keeps-looked_up None_new Shells w name target path e (by target) a
        where
          by : (o : Option Cap) → IfSome o (λ c. (k : ℕ) → Shells k (Shell name) c (codes "LookUp") (lookup_args path))
          by None = tt
          by (Some c) = λ k q is. cc is

      nodes : Everywhere (OnNode R L u A (kept_now (looked_up w name target path e) u)) (looked_up w name target path e)
      nodes n it at = subst (λ o. OnNode R L u A (with_item o (λ (e : Eject). is_some e.kept) false) n it) (sym same-eject)
          (old.node n it (ap (value_at nat_cmp n) (sym same-nodes) ∙ at))

      said : SaidOn R L u A (looked_up w name target path e)
      said k d st results is to place = subst (λ o. R.Said (with_item o (λ (e : Eject). is_some e.kept) false) (A k) st results)
          (sym same-eject)
          (go (calls.back k d is))
        where
          by : (x : Call) → call_at w.traffic k ≡ Some x → x.target.uid ≡ u → (x.place ≡ answered st results) ⊎ ((results ≡ []) ⊎ ⊥)
              → R.Said (kept_now w u) (A k) st results
          by x at t (inl same) = old.said k x st results at t same
          by x at t (inr (inl none)) = subst (R.Said (kept_now w u) (A k) st) (sym none) (L.said_nothing (kept_now w u) (A k) st)
          by x at t (inr (inr y)) = absurd y

          was : (o : Option Call) → call_at w.traffic k ≡ o → IsSomeAnd o (λ c. Was None_new Shells k c d)
              → R.Said (kept_now w u) (A k) st results
          was None at h = absurd h
          was (Some x) at h = by x at (ap (λ (z : Cap). z.uid) h.target ∙ to) (h.answer st results place)

          new : (results ≡ []) ⊎ ⊥ → R.Said (kept_now w u) (A k) st results
          new (inl none) = subst (R.Said (kept_now w u) (A k) st) (sym none) (L.said_nothing (kept_now w u) (A k) st)
          new (inr y) = absurd y

          go : IsSomeAnd (call_at w.traffic k) (λ c. Was None_new Shells k c d) ⊎ IsNew None_new Shells k d
              → R.Said (kept_now w u) (A k) st results
          go (inl h) = was (call_at w.traffic k) refl h
          go (inr h) = new (h.answer st results place)

      asks : AsksOn R L u A (looked_up w name target path e)
      asks k d p now is opened asker active = go (calls.back k d is)
        where
          was : (o : Option Call) → call_at w.traffic k ≡ o → IsSomeAnd o (λ c. Was None_new Shells k c d)
              → R.Asks now.vars d.target d.operation (A k)
          was None at h = absurd h
          was (Some x) at h = subst (λ o. R.Asks now.vars d.target o (A k)) h.operation
              (subst (λ t. R.Asks now.vars t x.operation (A k)) h.target
              (old.asks k x p now at (h.opened opened) (h.asker ∙ asker) (ap active_in (sym same-eject) ∙ active)))

          go : IsSomeAnd (call_at w.traffic k) (λ c. Was None_new Shells k c d) ⊎ IsNew None_new Shells k d
              → R.Asks now.vars d.target d.operation (A k)
          go (inl h) = was (call_at w.traffic k) refl h
          go (inr h) = absurd (h.asker p asker)
