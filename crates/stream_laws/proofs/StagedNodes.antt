-- A stage in the world: what each entry leaves of it on its node.
use Rattle.std.proofs.Common.{◌≡◌, ◌⊎◌, inl, inr, ℕ, ◌+◌, ◌≤◌, Bool, true, false, cond, List, [], ◌∷◌, Option, None, Some, is_some}
use Rattle.std.proofs.Common.{Ok, refl, ap, sym, ◌∙◌, subst, arith}
use Rattle.std.specs.Prelude.{IsSomeAnd}
use Rattle.std.specs.Option.{option_map}
use Rattle.std.specs.Ordering.{eq_by_cmp}
use Rattle.capability.specs.declared.Uid.{Uid}
use Rattle.eden_value.specs.Datum.{Datum}
use Rattle.eden_value.specs.declared.status.Status.{Status}
use Rattle.eden_value.specs.declared.status.Status.TheVariants as status
use Rattle.eden_model.specs.Map.{with_item, value_at, uid_cmp}
use Rattle.eden_model.specs.Crew.{Process as Worker}
use Rattle.eden_model.specs.declared.Asker.TheVariants.{Eject as Process}
use Rattle.eden_model.specs.Traffic.{Call, held, answered, call_at, shell_name}
use Rattle.history_laws.proofs.EventCalls.{of-site}
use Rattle.epl_syntax.specs.declared.effect.Answer.TheVariants.{Go, Reply as Told}
use Rattle.epl_syntax.specs.declared.effect.Effect.TheVariants as effect
use Rattle.epl_syntax.specs.Edentype.{Edentype, native as native_type}
use Rattle.epl_syntax.specs.Natives.{first_stage}
use Rattle.epl_syntax.specs.Meaning.{Turned, type_of, name_of, first_values}
use Rattle.passive_store.specs.declared.store.Pick.{Pick}
use Rattle.journal.specs.declared.command.Command.{Command}
use Rattle.journal.specs.declared.event.Key.{Key}
use Rattle.journal.specs.declared.event.Event.{Event}
use Rattle.journal.specs.declared.event.Event.TheVariants as event
use Rattle.journal.specs.declared.event.Entry.{Entry}
use Rattle.journal.specs.declared.event.Shown.{Shown}
use Rattle.journal.specs.declared.event.StartEnd.{StartEnd}
use Rattle.journal.specs.declared.event.Shown.TheVariants as shown
use Rattle.journal.specs.Processes.{shown_of, shown_creation}
use Rattle.journal.specs.World.{World, Site, Node, Eject, Active, StoreRequest, node_at, eject_at, site_of, eject_in, on_eject, reaches}
use Rattle.journal.specs.Ejects.{on_active, next_uid, fresh, born}
use Rattle.journal.specs.Processes.{AllowsStart, AllowsTurn, turn_of, turned, worker_at, invocation}
use Rattle.journal.specs.Settling.{to_settle, settled, unsynced}
use Rattle.journal.specs.Starts.{start_settled}
use Rattle.journal.specs.World.{on_node}
use Rattle.journal.specs.Commands.{AllowsCommand, made, type_name_of, born_as}
use Rattle.journal.specs.Step.{AllowsAt, AllowsEvent, IsActiveAnd, site_turn, happened, next, clocked, counted, key_of}
use Rattle.journal.specs.Sites.{Everywhere, AllThere, active_in, runs_of, IsHeldAt}
use Rattle.history_laws.proofs.Frame.{eject-on_eject}
use Rattle.history_laws.proofs.Fits.{times}
use Rattle.history_laws.proofs.EveryNode.{IsKeptBy, all-happened, all-at_node, all-clocked, at-its-site, made-next}
use Rattle.history_laws.proofs.UidLaw.{fit-on_eject}
use Rattle.history_laws.proofs.Creations.{next-active}
use Rattle.history_laws.proofs.SiteEvents.{startable-there}
use Rattle.history_laws.proofs.SiteRuns.{SiteWorld, new-by}
use Rattle.stream_laws.proofs.Roles.{Role, IsLawful}
use Rattle.stream_laws.proofs.Stage.{IsActive, StageOn, NoneOf, MayHear, MayCreate, Begins, ReadsBack}
use Rattle.stream_laws.proofs.Stage.{stage-tells, hears-nothing, stage-crashed, stage-start_settled, stage-store}
use Rattle.stream_laws.proofs.Stage.{stage-boot, stage-born, stage-requested, stage-heard, stage-start, stage-process, stage-activated}

-- something is kept of it
abbrev pub kept_now : World → Uid → Bool
kept_now w u = with_item (eject_at w u) (λ e. is_some e.kept) false

abbrev pub active_now : World → Uid → Option Active
active_now w u = active_in (eject_at w u)

-- the Eject on its own node
pub own-eject : (w : World) (n : ℕ) (it : Node) (u : Uid) → node_at w n ≡ Some it → n ≡ u.node → eject_at w u ≡ value_at uid_cmp u it.ejects
own-eject w n it u at here = ap (λ m. with_item (node_at w m) (λ (x : Node). value_at uid_cmp u x.ejects) None) (sym here)
    ∙ ap (λ o. with_item o (λ (x : Node). value_at uid_cmp u x.ejects) None) at

-- a creation
abbrev IsMade : Event → Type 0
IsMade (event.Made name why v) = Unit {0}
IsMade _ = ⊥

made-or : (e : Event) → ((name : List ℕ) × (why : Status) × (v : Option Uid) × (e ≡ event.Made name why v)) ⊎ (IsMade e → ⊥)
made-or (event.Made name why v) = inl (name, why, v, refl)
made-or _ = inr (λ x. x)

module _ (R : Role) (L : IsLawful R) (u : Uid) (A : ℕ → List Datum) where
  -- what is known around an entry
  pub record Around (H : ℕ → Bool) (w : World) (c : Option Command) (ev : Event) : Type 0 where
    pub site : SiteWorld H w
    pub known : type_of w.types (name_of (native_type R.kind)) ≡ Some (native_type R.kind)
    -- what is known where one of its processes takes a turn, where it starts again, and where it is created
    pub turns : (p : ℕ) (said : Shown) → ev ≡ event.Process u p said → R.Turns
    pub wakes : (how : StartEnd) (p : Option Pick) → ev ≡ event.Activate u how p → R.Wakes
    pub is_born : eject_at w u ≡ None → R.Born
    -- what it keeps is read back
    pub back : (p : ℕ) (said : Shown) (it : Active) (t : Turned) → ev ≡ event.Process u p said → active_now w u ≡ Some it
        → turn_of u it p ≡ Some t → ReadsBack R u A (kept_now w u) L t
    -- where it is created, it is of its type
    pub made_so : (x : Command) (name : List ℕ) (why : Status) → c ≡ Some x → ev ≡ event.Made name why (Some u)
        → type_of w.types (type_name_of x) ≡ Some (native_type R.kind)
    pub created_so : (v : Uid) (p : ℕ) (said : Shown) (e : Eject) (it : Active) (t : Turned) (name : List ℕ)
        → ev ≡ event.Process v p said → eject_at w v ≡ Some e → e.active ≡ Some it → turn_of v it p ≡ Some t
        → t.effect ≡ effect.Create name → said ≡ shown.Created u → type_of w.types name ≡ Some (native_type R.kind)
    -- what it asks for comes so
    pub comes : (vars : List Datum) (k : ℕ) (x : Call) (p : ℕ) (st : Status) (results : List Datum) → call_at w.traffic k ≡ Some x
        → x.open_ ≡ true → x.asker ≡ Process u p → x.place ≡ answered st results → R.Asks vars x.target x.operation (A k)
        → R.Comes (A k) st results
    -- and what it is asked for begins so
    pub begins : (k p : ℕ) (x : Call) (it : Active) → ev ≡ event.Start k u p → call_at w.traffic k ≡ Some x → x.target.uid ≡ u
        → active_now w u ≡ Some it → R.Vars (kept_now w u) it.vars → R.Task it.vars (A k) (first_stage R.kind x.operation x.args) Go

  -- of the calls that it made, by the values that it has
  abbrev pub AsksOn : World → Type 0
  AsksOn w = (k : ℕ) (c : Call) (p : ℕ) (it : Active) → call_at w.traffic k ≡ Some c → c.open_ ≡ true → c.asker ≡ Process u p
      → active_now w u ≡ Some it → R.Asks it.vars c.target c.operation (A k)

  -- its node, as it is now: by what was kept before
  abbrev pub OnNode : Bool → ℕ → Node → Type 0
  OnNode k n it = n ≡ u.node → StageOn R u A k it

  module _ (H : ℕ → Bool) (w : World) (c : Option Command) (ev : Event) (x : Around H w c ev) (asks : AsksOn w) where
    abbrev pub k0 : Bool
    k0 = kept_now w u

    none-requests : (rs : List StoreRequest) (es : List (Uid × Eject)) → AllThere rs es → value_at uid_cmp u es ≡ None → NoneOf R u A k0 rs
    none-requests [] es h none = tt
    none-requests (r ∷ rs) es h none = (
      λ same. (let bad : is_some {T = Eject} None ≡ true = sym (ap is_some (ap (λ v. value_at uid_cmp v es) same ∙ none)) ∙ h.0 in cc bad),
      none-requests rs es h.1 none,
    )

    sound-there : (n : ℕ) (it : Node) → node_at w n ≡ Some it → value_at uid_cmp u it.ejects ≡ None → NoneOf R u A k0 it.requests
    sound-there n it at none = none-requests it.requests it.ejects (x.site.known.sound.nodes n it at).there none

    active-own : (n : ℕ) (it : Node) → node_at w n ≡ Some it → n ≡ u.node → (e : Eject) (a : Active) → value_at uid_cmp u it.ejects ≡ Some e
        → e.active ≡ Some a → active_now w u ≡ Some a
    active-own n it at here e a is some = ap active_in (own-eject w n it u at here ∙ is) ∙ some

    kept-own : (n : ℕ) (it : Node) → node_at w n ≡ Some it → n ≡ u.node → (e : Eject) → value_at uid_cmp u it.ejects ≡ Some e
        → is_some e.kept ≡ k0
    kept-own n it at here e is = sym (ap (λ o. with_item o (λ (e : Eject). is_some e.kept) false) (own-eject w n it u at here ∙ is))

    heard-ok : (n : ℕ) (it : Node) → node_at w n ≡ Some it → n ≡ u.node → (k : ℕ) (why : Status) (values : List Datum)
        → IsSomeAnd (call_at w.traffic k) (λ c. c.place ≡ answered why values)
        → (c : Call) (p : ℕ) (e : Eject) (a : Active) → call_at w.traffic k ≡ Some c → c.open_ ≡ true → c.asker ≡ Process u p
        → value_at uid_cmp u it.ejects ≡ Some e → e.active ≡ Some a → IsActive R u A k0 (is_some e.kept) a
        → MayHear R u A k0 L (is_some e.kept) a.vars (Told why values)
    heard-ok n it at here k why values placed d p e a is opened asker at_e some active = record {
      task = λ args st before h. L.told_reply a.vars args st before d.target d.operation (A k) why values h own
          (x.comes a.vars k d p why values is opened asker (subst (λ o. IsSomeAnd o (λ c. c.place ≡ answered why values)) is placed) own);
      fine = λ y. absurd (cc y);
    }
      where
        own : R.Asks a.vars d.target d.operation (A k)
        own = asks k d p a is opened asker (active-own n it at here e a at_e some)

    begins-ok : (n : ℕ) (it : Node) → node_at w n ≡ Some it → n ≡ u.node → (k p : ℕ) → ev ≡ event.Start k u p
        → (e : Eject) (a : Active) → value_at uid_cmp u it.ejects ≡ Some e → e.active ≡ Some a → IsActive R u A k0 (is_some e.kept) a
        → AllowsStart w.traffic k p e a → Begins R u A k0 L a w.traffic k
    begins-ok n it at here k p is e a at_e some active allowed = record {
      task = λ d at_d. x.begins k p d a is at_d
          (target d at_d) (active-own n it at here e a at_e some) (subst (λ b. R.Vars b a.vars) (kept-own n it at here e at_e) active.vars);
    }
      where
        few : 1 ≤ times k e.queued
        few = (startable-there a w.traffic e.queued (invocation a.kind w.traffic k) allowed.earliest).0

        held_at : IsHeldAt w.traffic u k
        held_at = ((x.site.sites n it at).fits u (sym here)).held k
            (subst (λ o. 1 ≤ times k (runs_of (active_in o)) + times k (with_item o (λ (e : Eject). e.queued) [])) (sym at_e)
            (omega (arith, few)))

        target : (d : Call) → call_at w.traffic k ≡ Some d → d.target.uid ≡ u
        target d at_d = (subst (λ o. IsSomeAnd o (λ c. (c.place ≡ held) × (c.target.uid ≡ u))) at_d held_at).1

    -- what a process of another Eject creates
    none-before : (v : Uid) (f : Eject → Eject) (s : Site) → eject_in (on_eject v f s) u ≡ None → eject_in s u ≡ None
    none-before v f s none = go (eq_by_cmp uid_cmp u v) (eject_in s u) (sym (eject-on_eject v u f s) ∙ none)
      where
        go : (b : Bool) (o : Option Eject) → cond b (option_map f o) o ≡ None → o ≡ None
        go true None e = refl
        go true (Some y) e = absurd (cc e)
        go false o e = e

    requests-on : (v : Uid) (f : Eject → Eject) (s : Site) → (on_eject v f s).node.requests ≡ s.node.requests
    unfolding on_eject
    requests-on v f s = refl

    creates-ok : (n : ℕ) (it : Node) → node_at w n ≡ Some it → n ≡ u.node → (v : Uid) (p : ℕ) (said : Shown) → ev ≡ event.Process v p said
        → v.node ≡ n → AllowsAt (site_of w n it) (event.Process v p said) → MayCreate R u A k0 L v p (site_of w n it)
    creates-ok n it at here v p said is of_n allowed e a t name at_e some turns creates = record {
      own = λ new comes_next same.
          (let none : eject_in (on_eject v (on_active (turned p t)) (site_of w n it)) u ≡ None =
          ap (eject_in (on_eject v (on_active (turned p t)) (site_of w n it))) (sym same)
          ∙ new-by (on_eject v (on_active (turned p t)) (site_of w n it))
          (fit-on_eject v (on_active (turned p t)) (site_of w n it) (x.site.known.fit n it at)) new comes_next in (
            x.created_so v p said e a t name is
                (own-eject w n it v at (sym of_n) ∙ at_e) some turns creates
                (shown_so (worker_at a p) (subst (λ o. IsSomeAnd o
                (λ a. IsSomeAnd (worker_at a p) (λ q. AllowsTurn (site_of w n it) v p said a q))) some
                (subst (λ o. IsSomeAnd o (λ e. IsSomeAnd e.active
                (λ a. IsSomeAnd (worker_at a p) (λ q. AllowsTurn (site_of w n it) v p said a q)))) at_e
                allowed)) ∙ ap shown_creation (sym (next-active v (turned p t) (site_of w n it) (x.site.known.sound.nodes n it at).in_order)
                ∙ comes_next ∙ ap Ok same)),
            none,
            subst (NoneOf R u A k0) (sym (requests-on v (on_active (turned p t)) (site_of w n it)))
                (sound-there n it at (none-before v (on_active (turned p t)) (site_of w n it) none)),
            x.is_born (own-eject w n it u at here ∙ none-before v (on_active (turned p t)) (site_of w n it) none),
          ));
    }
      where
        by_turn : (q : Worker) (o : Option Turned) → o ≡ Some t → IsSomeAnd o (λ z. said ≡ shown_of (site_of w n it) q.serves z.effect)
            → said ≡ shown_creation (next_uid (site_of w n it))
        by_turn q None eq h = absurd h
        by_turn q (Some z) eq h = h ∙ ap (shown_of (site_of w n it) q.serves)
            (ap (λ (y : Turned). y.effect) (let same : z ≡ t = cc eq in same) ∙ creates)

        shown_so : (o : Option Worker) → IsSomeAnd o (λ q. AllowsTurn (site_of w n it) v p said a q)
            → said ≡ shown_creation (next_uid (site_of w n it))
        shown_so None h = absurd h
        shown_so (Some q) h = by_turn q (turn_of v a p) turns h.shows

    has-worker : (s : Site) (v : Uid) (p : ℕ) (said : Shown) → AllowsAt s (event.Process v p said)
        → IsActiveAnd s v (λ e it. is_some (worker_at it p) ≡ true)
    has-worker s v p said allowed = go (eject_in s v) allowed
      where
        worker : (e : Eject) (a : Active) (o : Option Worker) → IsSomeAnd o (λ q. AllowsTurn s v p said a q) → is_some o ≡ true
        worker e a None h = absurd h
        worker e a (Some q) h = refl

        part : (e : Eject) (o : Option Active) → IsSomeAnd o (λ it. IsSomeAnd (worker_at it p) (λ q. AllowsTurn s v p said it q))
            → IsSomeAnd o (λ it. is_some (worker_at it p) ≡ true)
        part e None h = h
        part e (Some a) h = worker e a (worker_at a p) h

        go : (o : Option Eject) → IsSomeAnd o (λ e. IsSomeAnd e.active (λ it. IsSomeAnd (worker_at it p) (λ q. AllowsTurn s v p said it q)))
            → IsSomeAnd o (λ e. IsSomeAnd e.active (λ it. is_some (worker_at it p) ≡ true))
        go None h = h
        go (Some e) h = part e e.active h

    types-started : (p : Option Pick) (s : Site) → (start_settled p s).types ≡ s.types
    unfolding on_node
    types-started p s = go (to_settle s) p
      where
        go : (b : Bool) (p : Option Pick) → (cond b (settled p (unsynced s)) s).types ≡ s.types
        go true None = refl
        go true (Some p) = refl
        go false p = refl

    turn-ok : (e : Event) → ev ≡ e → (n : ℕ) (it : Node) → node_at w n ≡ Some it → AllowsAt (site_of w n it) e → OnNode k0 n it
        → OnNode k0 n (site_turn (reaches w n) e (site_of w n it)).node
    turn-ok (event.Request k a b refused) is n it at allowed f here = stage-requested R u A k0 L k refused (site_of w n it) (f here)
    turn-ok (event.Reply k a b name why values) is n it at allowed f here = stage-heard R u A k0 L k why values (site_of w n it)
        (heard-ok n it at here k why values (placed (call_at w.traffic k) allowed.delivered)) (f here)
      where
        placed : (o : Option Call) → IsSomeAnd o (λ c. (c.place ≡ answered why values) × (name ≡ shell_name c.asker))
            → IsSomeAnd o (λ c. c.place ≡ answered why values)
        placed None h = h
        placed (Some c) h = h.0
    turn-ok (event.Activate v how p) is n it at allowed f here = stage-activated R u A k0 L v how (start_settled p (site_of w n it))
        (λ same. x.wakes how p (is ∙ ap (λ z. event.Activate z how p) same))
        (ap (λ ts. type_of ts (name_of (native_type R.kind))) (types-started p (site_of w n it)) ∙ x.known)
        (stage-start_settled R u A k0 L p (site_of w n it) (f here))
    turn-ok (event.Start k v p) is n it at allowed f here = stage-start R u A k0 L v k p (site_of w n it) allowed
        (λ e a same at_e some active starts. begins-ok n it at here k p (is
        ∙ ap (λ z. event.Start k z p) same) e a at_e some active starts) (f here)
    turn-ok (event.Process v p said) is n it at allowed f here = stage-process R u A k0 L (reaches w n) v p (site_of w n it)
        (has-worker (site_of w n it) v p said allowed) (λ same. x.turns p said (is ∙ ap (λ z. event.Process z p said) same))
        (creates-ok n it at here v p said is (of-site (site_of w n it) v _ (x.site.known.sound.nodes n it at) allowed) allowed)
        (λ e a t same at_e some turns. x.back p said a t (is ∙ ap (λ z. event.Process z p said) same)
        (active-own n it at here e a at_e some) turns)
        (f here)
    turn-ok (event.Store v clock how p) is n it at allowed f here = stage-store R u A k0 L how p (site_of w n it) (f here)
    turn-ok (event.Boot m e how p began) is n it at allowed f here = stage-boot R u A k0 L e how p began (site_of w n it) (f here)
    turn-ok (event.Crash m) is n it at allowed f here = stage-crashed R u A k0 L (site_of w n it) (f here)
    turn-ok _ is n it at allowed f here = absurd allowed

    kept-by : (IsMade ev → ⊥) → IsKeptBy (OnNode k0) w ev
    kept-by other = record {
      turns = λ n it at place allowed f. turn-ok ev refl n it at allowed f;
      crashes = λ n s is number f here. stage-crashed R u A k0 L s (f here);
      broken = λ v p s f here. stage-tells R u A k0 L v p (Told status.Broken []) s
          (λ e it same is is_it y. hears-nothing R u A k0 L (is_some e.kept) it.vars status.Broken) (f here);
      births = λ v t s name why is. absurd (other (subst IsMade (sym is) tt));
      clocks = λ n clock it f here. f here;
    }

    all-counted : (k : Option Key) (v : World) → Everywhere (OnNode k0) v → Everywhere (OnNode k0) (counted k v)
    all-counted None v all = all
    all-counted (Some k) v all = all

    made-ok : (y : Command) (name : List ℕ) (why : Status) (v : Option Uid) → c ≡ Some y → ev ≡ event.Made name why v
        → AllowsCommand w y (event.Made name why v) → Everywhere (OnNode k0) w → Everywhere (OnNode k0) (made name (type_name_of y) v w)
    made-ok y name why None at is allowed all = all
    made-ok y name why (Some v) at is allowed all = go (type_of w.types (type_name_of y)) refl
      where
        go : (o : Option Edentype) → type_of w.types (type_name_of y) ≡ o → Everywhere (OnNode k0) (born_as v o w)
        go None none = all
        go (Some t) typed = all-at_node (OnNode k0) w v.node (born v (fresh t (first_values t))) (λ it at_n f here.
            stage-born R u A k0 L v t (site_of w v.node it) (λ same.
            (let none : value_at uid_cmp u it.ejects ≡ None = ap (λ z. value_at uid_cmp z it.ejects) (sym same)
            ∙ new-by (site_of w v.node it) (x.site.known.fit v.node it at_n) v
            (at-its-site w v.node (λ s. next_uid s ≡ Ok v) it at_n (made-next w y name why v allowed)) in (
              (let k : Some t ≡ Some (native_type R.kind) = sym typed
                  ∙ x.made_so y name why at (is ∙ ap (λ z. event.Made name why (Some z)) same) in cc k),
              none,
              sound-there v.node it at_n none,
              x.is_born (own-eject w v.node it u at_n here ∙ none),
            )))
            (f here)) all

    node-happened : AllowsEvent w c ev → Everywhere (OnNode k0) w → Everywhere (OnNode k0) (happened w c ev)
    node-happened allowed all = go (made-or ev)
      where
        manual : (o : Option Command) → c ≡ o → (name : List ℕ) (why : Status) (v : Option Uid) → ev ≡ event.Made name why v
            → AllowsEvent w o (event.Made name why v) → Everywhere (OnNode k0) (happened w o (event.Made name why v))
        manual None at name why v is a = absurd a
        manual (Some y) at name why v is a = made-ok y name why v at is a all

        go : ((name : List ℕ) × (why : Status) × (v : Option Uid) × (ev ≡ event.Made name why v)) ⊎ (IsMade ev → ⊥)
            → Everywhere (OnNode k0) (happened w c ev)
        go (inr other) = all-happened (OnNode k0) w c ev (kept-by other) allowed all
        go (inl m) = subst (λ e. Everywhere (OnNode k0) (happened w c e)) (sym m.3)
            (manual c refl m.0 m.1 m.2 m.3 (subst (AllowsEvent w c) m.3 allowed))

    -- the same behind the whole entry
    pub node-next : (entry : Entry) → entry.event ≡ ev → AllowsEvent w c entry.event → Everywhere (OnNode k0) w
        → Everywhere (OnNode k0) (next w c entry)
    node-next entry is allowed all = all-counted (key_of entry.event) (clocked entry.node entry.clock (happened w c entry.event))
        (all-clocked (OnNode k0) (λ n clock it f here. f here) entry.node entry.clock (happened w c entry.event)
        (subst (λ e. Everywhere (OnNode k0) (happened w c e)) (sym is) (node-happened (subst (AllowsEvent w c) is allowed) all)))
