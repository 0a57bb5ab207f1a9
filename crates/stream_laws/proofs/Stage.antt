-- An Eject that is a stage, on its node: what holds of its active part, of what is kept of it or in doubt, and of its requests at the
-- store.
use Rattle.std.proofs.Common.{◌≡◌, ◌⊎◌, inl, inr, ℕ, ◌+◌, ◌==◌, nat_le, nat_lt, Bool, true, false, cond, not, List, [], ◌∷◌}
use Rattle.std.proofs.Common.{◌++◌, map, length, Option, None, Some, is_some, Result, Ok, Err, refl, ap, ap₂, sym, ◌∙◌, subst}
use Rattle.std.specs.Prelude.{IsSomeAnd, IfSome}
use Rattle.std.specs.List.{filter, filter_map}
use Rattle.std.specs.Option.{option_map}
use Rattle.std.specs.Ordering.{nat_cmp, eq_by_cmp}
use Rattle.std.specs.Cmp.{nat_cmp_total}
use Rattle.std.specs.FinMap.{nat_cmp-IsAntisymmetric}
use Rattle.std.proofs.lemmas.Cmp.{tied_itself}
use Rattle.capability.specs.declared.Uid.{Uid}
use Rattle.capability.proofs.Uids.{uid_cmp_total, uid_cmp-IsAntisymmetric}
use Rattle.eden_value.specs.Datum.{Datum}
use Rattle.eden_value.specs.declared.status.Status.{Status}
use Rattle.eden_value.specs.declared.status.Status.TheVariants as status
use Rattle.eden_codec.specs.Spelling.{spelling}
use Rattle.eden_model.specs.Map.{with_item, value_at, put_at, changed_at, where_key, uid_cmp, same_uid, rest}
use Rattle.eden_model.proofs.Laws.{value-changed, eq-same}
use Rattle.eden_model.proofs.Numbers.{same-true, same-self}
use Rattle.eden_model.specs.Crew.{Crew, Process as Worker, Waiting, Invocation, nothing, outside, with_waits, set_waits}
use Rattle.epl_syntax.specs.declared.effect.Answer.{Answer}
use Rattle.epl_syntax.specs.declared.effect.Answer.TheVariants.{Go, Code, Reply as Told}
use Rattle.epl_syntax.specs.Edentype.{Edentype, native as native_type}
use Rattle.epl_syntax.specs.Natives.{Stage}
use Rattle.epl_syntax.specs.Simple.{is_fine}
use Rattle.epl_syntax.specs.Meaning.{of_native, rep_of}
use Rattle.journal.specs.EjectChange.{EjectChange, body, removal, kept_of}
use Rattle.journal.specs.World.{Task, Active, Eject, StoreRequest, Node, Site, eject_in, on_eject, on_node, on_traffic}
use Rattle.journal.specs.Ejects.{with_active, with_queued, on_active, on_crew, told, tells, dropped_of, without_requests}
use Rattle.journal.specs.Ejects.{deactivated, turned_away, gone_if_unkept}
use Rattle.history_laws.proofs.Frame.{eject-on_eject, on_eject-twice}
use Rattle.std.proofs.lemmas.Bool.{eq-eqb}
use Rattle.history_laws.proofs.KeptTurns.{value-each}
use Rattle.std.specs.FinMap.Entries.{find-put}
use Rattle.std.specs.Prelude.{slice_index}
use Rattle.std.specs.List.{find, count_by}
use Rattle.eden_model.specs.Map.{same_text}
use Rattle.eden_model.specs.Crew.{may_start, serves_class, class_is, least_free, ended, leave_held}
use Rattle.eden_model.specs.Traffic.{Traffic}
use Rattle.epl_syntax.specs.Outline.{Operation}
use Rattle.epl_syntax.specs.Natives.{native_outline, native_turn, first_stage}
use Rattle.journal.specs.Processes.{AllowsStart, class_of, invocation, next_start, with_start, start, turn_of, worker_at, turned, serving}
use Rattle.journal.specs.Processes.{process_turn}
use Rattle.capability.specs.declared.TheConstants.{BODY_LIMIT}
use Rattle.capability.specs.Capability.{full}
use Rattle.eden_model.specs.declared.Asker.{Asker}
use Rattle.eden_model.specs.declared.Asker.TheVariants.{Shell, Eject as Process}
use Rattle.eden_model.specs.Traffic.{Call, held, call_at, changed_call, at_place, taken}
use Rattle.epl_syntax.specs.declared.effect.Answer.TheVariants.{Created}
use Rattle.epl_syntax.specs.declared.effect.Effect.{Effect}
use Rattle.epl_syntax.specs.declared.effect.Effect.TheVariants as effect
use Rattle.epl_syntax.specs.declared.types.Native.{Native}
use Rattle.epl_syntax.specs.declared.types.Native.TheVariants as native
use Rattle.epl_syntax.specs.Meaning.{type_of, first_values, begin, Turned, turn, turned_as}
use Rattle.journal.specs.Step.{IsActiveAnd}
use Rattle.journal.specs.Ejects.{fresh, next_uid, newborn, born_in, born}
use Rattle.journal.specs.Deliveries.{requested, tells_asker, received, heard}
use Rattle.journal.specs.Processes.{without_process, asks_store, answers, refused_at_once, waits_or_told, creates, checkpoints, effected}
use Rattle.std.specs.List.{cons_option}
use Rattle.eden_model.specs.Map.{first}
use Rattle.eden_model.specs.Traffic.{without_node}
use Rattle.passive_store.specs.declared.store.Pick.{Pick}
use Rattle.passive_store.specs.declared.store.Pick.TheVariants as pick
use Rattle.journal.specs.declared.event.RequestEnd.{RequestEnd}
use Rattle.journal.specs.declared.event.RequestEnd.TheVariants as end
use Rattle.journal.specs.declared.event.BootEnd.{BootEnd}
use Rattle.journal.specs.declared.event.BootEnd.TheVariants as boot_end
use Rattle.journal.specs.Ejects.{is_there}
use Rattle.journal.specs.Crashes.{fallen, down, crashed}
use Rattle.journal.specs.Settling.{first_request, in_doubt, settled_eject, settled_node, settled, unsynced, written_with, finds_room}
use Rattle.journal.specs.Settling.{to_settle}
use Rattle.journal.specs.Stores.{Work, syncs, reads, unkept, without_room, calls, is_kept_in, work_of, more_made, doubted, tells_code}
use Rattle.journal.specs.Stores.{request_ended, removed, stored, done, worked, store_turn}
use Rattle.journal.specs.Starts.{start_of, fits_at, awake, activated, start_settled}
use Rattle.journal.specs.declared.event.StartEnd.{StartEnd}
use Rattle.journal.specs.declared.event.StartEnd.TheVariants as start_end
use Rattle.eden_codec.specs.Reading.{reading}
use Rattle.eden_codec.specs.declared.rep.Rep.{Rep}
use Rattle.epl_syntax.specs.Meaning.{name_of, durable_from, durable_of, is_current, upgraded, started_from, values_from}
use Rattle.journal.specs.Boots.{booted_node, boot_turn}
use Rattle.stream_laws.proofs.Roles.{Role, IsLawful, TurnKeeps, TurnEnds, again}
use Rattle.stream_laws.proofs.Items.{same-some, if-map, there-some, found-passes}
use Rattle.stream_laws.proofs.Sites.{eject-own, types-on}

-- 1. What holds of it
module _ (R : Role) (u : Uid) (A : ℕ → List Datum) (was_kept : Bool) where
  -- a task of it, by the arguments of the call that is served
  pub record IsTask (kept : Bool) (vars args : List Datum) (t : Task) : Type 0 where
    pub stage : Stage
    pub rest : t.rest ≡ of_native stage
    pub keeps : R.Task vars args stage t.answer
    pub fine : is_fine t.answer ≡ true → kept ≡ true

  -- it runs one process, which serves a call
  pub record IsBusy (kept : Bool) (it : Active) : Type 0 where
    pub number : ℕ
    pub worker : Worker
    pub call : Invocation
    pub alone : it.crew.processes ≡ (number, worker) ∷ []
    pub serves : worker.serves ≡ Some call
    pub class : call.class ≡ 0
    pub task : IsSomeAnd (value_at nat_cmp number it.tasks) (IsTask kept it.vars (A call.call))

  pub record IsActive (kept : Bool) (it : Active) : Type 0 where
    pub kind : it.kind ≡ native_type R.kind
    pub vars : R.Vars kept it.vars
    pub limits : it.crew.limits ≡ 1 ∷ []
    pub monitors : it.crew.monitors ≡ []
    pub work : ((it.crew.processes ≡ []) × R.Idle) ⊎ IsBusy kept it

  -- bytes that are kept of it
  pub record IsBody (bytes : List ℕ) : Type 0 where
    pub values : List Datum
    pub holds : R.Stored values
    pub filled : R.Filled values
    pub spelled : bytes ≡ spelling (rep_of (native_type R.kind) values)
    pub reads : reading bytes ≡ Some (rep_of (native_type R.kind) values)

  abbrev pub IsChange : EjectChange → Type 0
  IsChange (body bytes) = IsBody bytes
  IsChange removal = ⊥

  abbrev pub AreChanges : List StoreRequest → Type 0
  AreChanges [] = Unit {0}
  AreChanges (r ∷ rs) = (r.uid ≡ u → IsChange r.change) × AreChanges rs

  -- none of these is of it
  abbrev pub NoneOf : List StoreRequest → Type 0
  NoneOf [] = Unit {0}
  NoneOf (r ∷ rs) = (r.uid ≡ u → ⊥) × NoneOf rs

  -- nothing is kept of it, or on the way to be
  pub record IsClean (rs : List StoreRequest) (e : Eject) : Type 0 where
    pub kept : e.kept ≡ None
    pub doubt : e.doubt ≡ None
    pub requests : NoneOf rs

  pub record IsEject (rs : List StoreRequest) (e : Eject) : Type 0 where
    pub active : IfSome e.active (IsActive (is_some e.kept))
    pub filled : IfSome e.active (λ it. R.Filled it.vars ⊎ IsClean rs e)
    pub kept : IfSome e.kept IsBody
    pub doubt : IfSome e.doubt IsChange
    -- what was kept is kept still
    pub still : was_kept ≡ true → is_some e.kept ≡ true

  pub record IsStage (rs : List StoreRequest) (o : Option Eject) : Type 0 where
    pub requests : AreChanges rs
    pub eject : IfSome o (IsEject rs)
    -- it is there still
    pub there : (was_kept ≡ true) ⊎ R.There → is_some o ≡ true

  abbrev pub StageOn : Node → Type 0
  StageOn it = IsStage it.requests (value_at uid_cmp u it.ejects)

  -- 2. Its active part
  module _ (L : IsLawful R) where
    -- something of it came to be kept
    task-later : (vars args : List Datum) (t : Task) → IsTask false vars args t → IsTask true vars args t
    task-later vars args t h = record { stage = h.stage; rest = h.rest; keeps = h.keeps; fine = λ x. refl }

    busy-later : (it : Active) → IsBusy false it → IsBusy true it
    busy-later it b = record {
      number = b.number;
      worker = b.worker;
      call = b.call;
      alone = b.alone;
      serves = b.serves;
      class = b.class;
      task = go (value_at nat_cmp b.number it.tasks) b.task;
    }
      where
        go : (o : Option Task) → IsSomeAnd o (IsTask false it.vars (A b.call.call)) → IsSomeAnd o (IsTask true it.vars (A b.call.call))
        go None h = h
        go (Some t) h = task-later it.vars (A b.call.call) t h

    pub active-later : (kept : Bool) (it : Active) → IsActive kept it → IsActive true it
    active-later true it h = h
    active-later false it h = record {
      kind = h.kind;
      vars = L.kept_later it.vars h.vars;
      limits = h.limits;
      monitors = h.monitors;
      work = go h.work;
    }
      where
        go : ((it.crew.processes ≡ []) × R.Idle) ⊎ IsBusy false it → ((it.crew.processes ≡ []) × R.Idle) ⊎ IsBusy true it
        go (inl x) = inl x
        go (inr x) = inr (busy-later it x)

    -- what a process of it may be told
    pub record MayHear (kept : Bool) (vars : List Datum) (a : Answer) : Type 0 where
      pub task : (args : List Datum) (st : Stage) (before : Answer) → R.Task vars args st before → R.Task vars args st a
      pub fine : is_fine a ≡ true → kept ≡ true

    set-one : (p q : ℕ) (w : Waiting) (worker : Worker) (processes : List (ℕ × Worker)) → processes ≡ (q, worker) ∷ []
        → map (with_waits p w) processes ≡ (q, cond (q == p) (record worker { waits = w }) worker) ∷ []
    set-one p q w worker processes is = ap (map (with_waits p w)) is

    serves-one : (b : Bool) (w : Waiting) (worker : Worker) → (cond b (record worker { waits = w }) worker).serves ≡ worker.serves
    serves-one true w worker = refl
    serves-one false w worker = refl

    told-task : (kept : Bool) (vars args : List Datum) (p q : ℕ) (a : Answer) (tasks : List (ℕ × Task)) → MayHear kept vars a
        → IsSomeAnd (value_at nat_cmp q tasks) (IsTask kept vars args)
        → IsSomeAnd (value_at nat_cmp q (changed_at nat_cmp p (λ (t : Task). record t { answer = a }) tasks)) (IsTask kept vars args)
    told-task kept vars args p q a tasks may h = subst (λ o. IsSomeAnd o (IsTask kept vars args))
        (sym (value-changed nat_cmp nat_cmp_total nat_cmp-IsAntisymmetric q p (λ (t : Task). record t { answer = a }) tasks))
        (go (eq_by_cmp nat_cmp q p) (value_at nat_cmp q tasks) h)
      where
        go : (b : Bool) (o : Option Task) → IsSomeAnd o (IsTask kept vars args)
            → IsSomeAnd (cond b (option_map (λ (t : Task). record t { answer = a }) o) o) (IsTask kept vars args)
        go b None x = absurd x
        go false (Some t) x = x
        go true (Some t) x = record { stage = x.stage; rest = x.rest; keeps = may.task args x.stage t.answer x.keeps; fine = may.fine }

    pub active-told : (kept : Bool) (p : ℕ) (a : Answer) (it : Active) → MayHear kept it.vars a → IsActive kept it
        → IsActive kept (told p a it)
    active-told kept p a it may h = record { kind = h.kind; vars = h.vars; limits = h.limits; monitors = h.monitors; work = go h.work }
      where
        go : ((it.crew.processes ≡ []) × R.Idle) ⊎ IsBusy kept it → (((told p a it).crew.processes ≡ []) × R.Idle)
            ⊎ IsBusy kept (told p a it)
        go (inl x) = inl (ap (map (with_waits p nothing)) x.0, x.1)
        go (inr b) = inr (record {
          number = b.number;
          worker = cond (b.number == p) (record b.worker { waits = nothing }) b.worker;
          call = b.call;
          alone = set-one p b.number nothing b.worker it.crew.processes b.alone;
          serves = serves-one (b.number == p) nothing b.worker ∙ b.serves;
          class = b.class;
          task = told-task kept it.vars (A b.call.call) p b.number a it.tasks may b.task;
        })

    -- 3. Changes of the Eject
    pub eject-active : (f : Active → Active) (rs : List StoreRequest) (e : Eject)
        → ((it : Active) → e.active ≡ Some it → IsActive (is_some e.kept) it → IsActive (is_some e.kept) (f it) × ((f it).vars ≡ it.vars))
        → IsEject rs e → IsEject rs (on_active f e)
    eject-active f rs e keeps h = go e.active refl h.active h.filled
      where
        go : (o : Option Active) → e.active ≡ o → IfSome o (IsActive (is_some e.kept)) → IfSome o (λ it. R.Filled it.vars ⊎ IsClean rs e)
            → IsEject rs (with_item o (λ it. with_active (Some (f it)) e) e)
        go None is a b = h
        go (Some it) is a b = let x = keeps it is a in record {
          active = x.0;
          filled = fill b;
          kept = h.kept;
          doubt = h.doubt;
          still = h.still;
        }
          where
            fill : R.Filled it.vars ⊎ IsClean rs e → R.Filled (f it).vars ⊎ IsClean rs (with_active (Some (f it)) e)
            fill (inl y) = inl (subst R.Filled (sym (keeps it is a).1) y)
            fill (inr y) = inr (record { kept = y.kept; doubt = y.doubt; requests = y.requests })

    -- 4. Changes of the site: another Eject, or this one
    pub stage-eject : (v : Uid) (f : Eject → Eject) (s : Site)
        → ((e : Eject) → v ≡ u → eject_in s u ≡ Some e → IsEject s.node.requests e → IsEject s.node.requests (f e))
        → StageOn s.node → StageOn (on_eject v f s).node
    unfolding on_eject
    stage-eject v f s keeps h = record {
      requests = h.requests;
      eject = subst (λ o. IfSome o (IsEject s.node.requests)) (sym (eject-on_eject v u f s))
          (go (eq_by_cmp uid_cmp u v) refl (eject_in s u) refl h.eject);
      there = λ x. ap is_some (eject-on_eject v u f s) ∙ some_still (eq_by_cmp uid_cmp u v) (eject_in s u) (h.there x);
    }
      where
        some_still : (b : Bool) (o : Option Eject) → is_some o ≡ true → is_some (cond b (option_map f o) o) ≡ true
        some_still true None y = y
        some_still true (Some e) y = refl
        some_still false o y = y

        go : (b : Bool) → eq_by_cmp uid_cmp u v ≡ b → (o : Option Eject) → eject_in s u ≡ o → IfSome o (IsEject s.node.requests)
            → IfSome (cond b (option_map f o) o) (IsEject s.node.requests)
        go b same None is x = none b
          where
            none : (b : Bool) → IfSome (cond b (option_map f None) None) (IsEject s.node.requests)
            none true = tt
            none false = tt
        go true same (Some e) is x = keeps e (sym (eq-same uid_cmp uid_cmp-IsAntisymmetric u v same)) is x
        go false same (Some e) is x = x

    pub stage-node : (f : Node → Node) (s : Site) → StageOn (f s.node) → StageOn (on_node f s).node
    unfolding on_node
    stage-node f s h = h

    pub stage-traffic : (f : _) (s : Site) → StageOn s.node → StageOn (on_traffic f s).node
    unfolding on_traffic
    stage-traffic f s h = h

    pub stage-item : {X : Type 0} (s : Site) (o : Option X) (f : X → Site) → StageOn s.node → ((x : X) → o ≡ Some x → StageOn (f x).node)
        → StageOn (with_item o f s).node
    stage-item s None f h each = h
    stage-item s (Some x) f h each = each x refl

    pub stage-cond : (b : Bool) (x y : Site) → (b ≡ true → StageOn x.node) → (b ≡ false → StageOn y.node) → StageOn (cond b x y).node
    stage-cond true x y a b = a refl
    stage-cond false x y a b = b refl

    -- a process is told: one of another Eject, or one of this that may hear it
    pub stage-tells : (v : Uid) (p : ℕ) (a : Answer) (s : Site)
        → ((e : Eject) (it : Active) → v ≡ u → eject_in s u ≡ Some e → e.active ≡ Some it → IsActive (is_some e.kept) it
        → MayHear (is_some e.kept) it.vars a)
        → StageOn s.node → StageOn (tells v p a s).node
    stage-tells v p a s may h = stage-eject v (on_active (told p a)) s (λ e same is x.
        eject-active (told p a) s.node.requests e
        (λ it is_it y. (active-told (is_some e.kept) p a it (may e it same is is_it y) y, refl)) x) h

    -- a code that is not `ok`, and a reply with no results
    pub hears-code : (kept : Bool) (vars : List Datum) (s : Status) → (is_fine (Code s) ≡ true → kept ≡ true) → MayHear kept vars (Code s)
    hears-code kept vars s fine = record { task = λ args st before h. L.told_code vars args st before s h; fine = fine }

    pub hears-nothing : (kept : Bool) (vars : List Datum) (s : Status) → MayHear kept vars (Told s [])
    hears-nothing kept vars s = record { task = λ args st before h. L.told_nothing vars args st before s h; fine = λ x. absurd (cc x) }

    -- the queue is no matter
    pub stage-turned_away : (v : Uid) (why : Status) (s : Site) → StageOn s.node → StageOn (turned_away v why s).node
    stage-turned_away v why s h = stage-item s (eject_in s v) _ h (λ e is. stage-traffic _ (on_eject v (with_queued []) s)
        (stage-eject v (with_queued []) s (λ e same is x. record {
          active = x.active;
          filled = fill e e.active x.filled;
          kept = x.kept;
          doubt = x.doubt;
          still = x.still;
        }) h))
      where
        fill : (e : Eject) (o : Option Active) → IfSome o (λ it. R.Filled it.vars ⊎ IsClean s.node.requests e)
            → IfSome o (λ it. R.Filled it.vars ⊎ IsClean s.node.requests (with_queued [] e))
        fill e None x = tt
        fill e (Some it) (inl x) = inl x
        fill e (Some it) (inr x) = inr (record { kept = x.kept; doubt = x.doubt; requests = x.requests })

    -- 5. Requests come and go
    eject-requests : (rs new : List StoreRequest) (e : Eject) → (NoneOf rs → NoneOf new) → IsEject rs e → IsEject new e
    eject-requests rs new e keeps h =
        record { active = h.active; filled = go e.active h.filled; kept = h.kept; doubt = h.doubt; still = h.still }
      where
        go : (o : Option Active) → IfSome o (λ it. R.Filled it.vars ⊎ IsClean rs e) → IfSome o (λ it. R.Filled it.vars ⊎ IsClean new e)
        go None x = tt
        go (Some it) (inl x) = inl x
        go (Some it) (inr x) = inr (record { kept = x.kept; doubt = x.doubt; requests = keeps x.requests })

    stage-requests : (rs new : List StoreRequest) (o : Option Eject) → (AreChanges rs → AreChanges new) → (NoneOf rs → NoneOf new)
        → IsStage rs o → IsStage new o
    stage-requests rs new o keeps none h = record {
      requests = keeps h.requests;
      eject = if-map o (λ e x. eject-requests rs new e none x) h.eject;
      there = h.there;
    }

    changes-rest : (rs : List StoreRequest) → AreChanges rs → AreChanges (rest rs)
    changes-rest [] h = tt
    changes-rest (r ∷ rs) h = h.1

    none-rest : (rs : List StoreRequest) → NoneOf rs → NoneOf (rest rs)
    none-rest [] h = tt
    none-rest (r ∷ rs) h = h.1

    changes-made : (rs : List StoreRequest) → AreChanges rs → AreChanges (more_made rs)
    changes-made [] h = tt
    changes-made (r ∷ rs) h = h

    none-made : (rs : List StoreRequest) → NoneOf rs → NoneOf (more_made rs)
    none-made [] h = tt
    none-made (r ∷ rs) h = h

    changes-dropped : (v : Uid) (rs : List StoreRequest) → AreChanges rs → AreChanges (filter_map (dropped_of v) rs)
    changes-dropped v [] h = tt
    changes-dropped v (r ∷ rs) h = go (same_uid r.uid v) (r.made == 0) (changes-dropped v rs h.1)
      where
        go : (a b : Bool) → AreChanges (filter_map (dropped_of v) rs)
            → AreChanges (cons_option (cond a (cond b None (Some (record r { process = None }))) (Some r)) (filter_map (dropped_of v) rs))
        go true true x = x
        go true false x = (h.0, x)
        go false b x = (h.0, x)

    none-dropped : (v : Uid) (rs : List StoreRequest) → NoneOf rs → NoneOf (filter_map (dropped_of v) rs)
    none-dropped v [] h = tt
    none-dropped v (r ∷ rs) h = go (same_uid r.uid v) (r.made == 0) (none-dropped v rs h.1)
      where
        go : (a b : Bool) → NoneOf (filter_map (dropped_of v) rs)
            → NoneOf (cons_option (cond a (cond b None (Some (record r { process = None }))) (Some r)) (filter_map (dropped_of v) rs))
        go true true x = x
        go true false x = (h.0, x)
        go false b x = (h.0, x)

    -- an active part ends
    passive-eject : (rs : List StoreRequest) (e : Eject) → IsEject rs e → IsEject rs (with_active None e)
    passive-eject rs e h = record { active = tt; filled = tt; kept = h.kept; doubt = h.doubt; still = h.still }

    pub stage-deactivated : (v : Uid) (s : Site) → StageOn s.node → StageOn (deactivated v s).node
    stage-deactivated v s h = stage-item s (eject_in s v) _ h (λ e is. stage-item s e.active _ h (λ it is_it.
        stage-traffic _ (on_eject v (with_active None) (on_node (without_requests v) s))
        (stage-eject v (with_active None) (on_node (without_requests v) s) (λ e same is x. passive-eject _ e x)
        (stage-node (without_requests v) s (stage-requests s.node.requests _ (eject_in s u) (changes-dropped v s.node.requests)
        (none-dropped v s.node.requests) h)))))

    pub stage-gone : (v : Uid) (s : Site) → StageOn s.node → StageOn (gone_if_unkept v s).node
    stage-gone v s h = stage-item s (eject_in s v) _ h (λ e is. stage-cond (is_there e) s (turned_away v status.Gone s) (λ x. h)
        (λ x. stage-turned_away v status.Gone s h))

    some-mapped : (f : Eject → Eject) (o : Option Eject) → is_some o ≡ true → is_some (option_map f o) ≡ true
    some-mapped f None y = y
    some-mapped f (Some e) y = refl

    -- 6. The node falls
    pub stage-crashed : (s : Site) → StageOn s.node → StageOn (crashed s).node
    stage-crashed s h = stage-traffic (without_node s.number) (on_node down s) (stage-node down s (record {
      requests = tt;
      eject = subst (λ o. IfSome o (IsEject [])) (sym (value-each u fallen s.node.ejects)) (go (eject_in s u) h.eject);
      there = λ x. ap is_some (value-each u fallen s.node.ejects) ∙ some-mapped fallen (eject_in s u) (h.there x);
    }))
      where
        go : (o : Option Eject) → IfSome o (IsEject s.node.requests) → IfSome (option_map fallen o) (IsEject [])
        go None x = tt
        go (Some e) x = record { active = tt; filled = tt; kept = x.kept; doubt = x.doubt; still = x.still }

    -- 7. A doubt is settled
    settled-ok : (rs : List StoreRequest) (p : Pick) (e : Eject) → IsEject rs e → IsEject rs (settled_eject p e)
    settled-ok rs pick.Old e h = record { active = h.active; filled = fill e.active h.filled; kept = h.kept; doubt = tt; still = h.still }
      where
        fill : (o : Option Active) → IfSome o (λ it. R.Filled it.vars ⊎ IsClean rs e)
            → IfSome o (λ it. R.Filled it.vars ⊎ IsClean rs (record e { doubt = None }))
        fill None x = tt
        fill (Some it) (inl x) = inl x
        fill (Some it) (inr x) = inr (record { kept = x.kept; doubt = refl; requests = x.requests })
    settled-ok rs pick.New e h = go e.doubt refl h.doubt
      where
        go : (o : Option EjectChange) → e.doubt ≡ o → IfSome o IsChange
            → IsEject rs (record e { kept = with_item o kept_of e.kept; doubt = None })
        go None is x = record { active = h.active; filled = fill e.active h.filled; kept = h.kept; doubt = tt; still = h.still }
          where
            fill : (o : Option Active) → IfSome o (λ it. R.Filled it.vars ⊎ IsClean rs e)
                → IfSome o (λ it. R.Filled it.vars ⊎ IsClean rs (record e { doubt = None }))
            fill None x = tt
            fill (Some it) (inl x) = inl x
            fill (Some it) (inr x) = inr (record { kept = x.kept; doubt = refl; requests = x.requests })
        go (Some removal) is x = absurd x
        go (Some (body bytes)) is x =
            record { active = act e.active h.active; filled = fill e.active h.filled; kept = x; doubt = tt; still = λ y. refl }
          where
            act : (o : Option Active) → IfSome o (IsActive (is_some e.kept)) → IfSome o (IsActive true)
            act None y = tt
            act (Some it) y = active-later (is_some e.kept) it y

            fill : (o : Option Active) → IfSome o (λ it. R.Filled it.vars ⊎ IsClean rs e)
                → IfSome o (λ it. R.Filled it.vars ⊎ IsClean rs (record e { kept = Some bytes; doubt = None }))
            fill None y = tt
            fill (Some it) (inl y) = inl y
            fill (Some it) (inr y) = absurd (let bad : Some (body bytes) ≡ None = sym is ∙ y.doubt in cc bad)

    pub stage-settled : (p : Option Pick) (s : Site) → StageOn s.node → StageOn (settled p s).node
    stage-settled None s h = h
    stage-settled (Some p) s h = stage-node (settled_node s.layout s.number p) s (record {
      requests = h.requests;
      eject = subst (λ o. IfSome o (IsEject s.node.requests)) (sym (value-each u (settled_eject p) s.node.ejects))
          (go (eject_in s u) h.eject);
      there = λ x. ap is_some (value-each u (settled_eject p) s.node.ejects) ∙ some-mapped (settled_eject p) (eject_in s u) (h.there x);
    })
      where
        go : (o : Option Eject) → IfSome o (IsEject s.node.requests) → IfSome (option_map (settled_eject p) o) (IsEject s.node.requests)
        go None x = tt
        go (Some e) x = settled-ok s.node.requests p e x

    pub stage-unsynced : (s : Site) → StageOn s.node → StageOn (unsynced s).node
    stage-unsynced s h = stage-node (λ it. record it { synced = false }) s h

    pub stage-start_settled : (p : Option Pick) (s : Site) → StageOn s.node → StageOn (start_settled p s).node
    stage-start_settled p s h = stage-cond (to_settle s) (settled p (unsynced s)) s (λ x. stage-settled p (unsynced s)
        (stage-unsynced s h)) (λ x. h)

    -- 8. A request
    first-of : (rs : List StoreRequest) (r : StoreRequest) → first rs ≡ Some r → (more : List StoreRequest) × (rs ≡ r ∷ more)
    first-of [] r is = absurd (cc is)
    first-of (x ∷ rs) r is = (rs, ap (λ y. y ∷ rs) (let same : x ≡ r = cc is in same))

    change-of : (rs : List StoreRequest) (r : StoreRequest) → first rs ≡ Some r → AreChanges rs → r.uid ≡ u → IsChange r.change
    change-of rs r is h same = let x = first-of rs r is in (subst AreChanges x.1 h).0 same

    not-clean : (rs : List StoreRequest) (r : StoreRequest) (e : Eject) → first rs ≡ Some r → r.uid ≡ u → IsClean rs e → ⊥
    not-clean rs r e is same h = let x = first-of rs r is in (subst NoneOf x.1 h.requests).0 same

    filled-now : (rs : List StoreRequest) (r : StoreRequest) (e new : Eject) (o : Option Active) → first rs ≡ Some r → r.uid ≡ u
        → IfSome o (λ it. R.Filled it.vars ⊎ IsClean rs e) → IfSome o (λ it. R.Filled it.vars ⊎ IsClean rs new)
    filled-now rs r e new None is same x = tt
    filled-now rs r e new (Some it) is same (inl x) = inl x
    filled-now rs r e new (Some it) is same (inr x) = absurd (not-clean rs r e is same x)

    -- it ends, and its process is told: `ok` only where something is kept
    pub stage-ended : (r : StoreRequest) (why : Status) (s : Site)
        → (is_fine (Code why) ≡ true → r.uid ≡ u → IfSome (eject_in s u) (λ e. is_some e.kept ≡ true))
        → StageOn s.node → StageOn (request_ended r why s).node
    unfolding on_node
    stage-ended r why s fine h = go r.process
      where
        ended : Site
        ended = on_node (λ it. record it { requests = rest it.requests }) s

        held : StageOn ended.node
        held = stage-node (λ it. record it { requests = rest it.requests }) s
            (stage-requests s.node.requests _ (eject_in s u) (changes-rest s.node.requests) (none-rest s.node.requests) h)

        go : (p : Option ℕ) → StageOn (tells_code r.uid p why ended).node
        go None = held
        go (Some p) = stage-tells r.uid p (Code why) ended (λ e it same is is_it x. hears-code (is_some e.kept) it.vars why
            (λ ok. subst (λ o. IfSome o (λ e. is_some e.kept ≡ true)) is (fine ok same))) held

    pub stage-doubted : (r : StoreRequest) (s : Site) → first_request s.node ≡ Some r → StageOn s.node → StageOn (doubted r s).node
    stage-doubted r s is h = stage-eject r.uid (λ e. record e { doubt = Some r.change }) s (λ e same at x. record {
      active = x.active;
      filled = filled-now s.node.requests r e (record e { doubt = Some r.change }) e.active is same x.filled;
      kept = x.kept;
      doubt = change-of s.node.requests r is h.requests same;
      still = x.still;
    }) h

    -- what is put is kept
    stored-ok : (rs : List StoreRequest) (r : StoreRequest) (e : Eject) (c : EjectChange) → first rs ≡ Some r → r.uid ≡ u → IsChange c
        → IsEject rs e
        → IsEject rs (record e { kept = kept_of c; doubt = None })
    stored-ok rs r e removal is same change x = absurd change
    stored-ok rs r e (body bytes) is same change x = record {
      active = if-map e.active (λ it y. active-later (is_some e.kept) it y) x.active;
      filled = filled-now rs r e (record e { kept = Some bytes; doubt = None }) e.active is same x.filled;
      kept = change;
      doubt = tt;
      still = λ y. refl;
    }

    pub stage-stored : (r : StoreRequest) (s : Site) → first_request s.node ≡ Some r → StageOn s.node → StageOn (stored r s).node
    stage-stored r s is h = stage-node (λ it. record it { ledger = written_with s.layout r.change it.ledger })
        (on_eject r.uid (λ e. record e { kept = kept_of r.change; doubt = None }) s)
        (stage-eject r.uid (λ e. record e { kept = kept_of r.change; doubt = None }) s
        (λ e same at x. stored-ok s.node.requests r e r.change is same (change-of s.node.requests r is h.requests same) x) h)

    stored-kept : (r : StoreRequest) (s : Site) → r.uid ≡ u → IsChange r.change
        → IfSome (eject_in (stored r s) u) (λ e. is_some e.kept ≡ true)
    unfolding on_node
    stored-kept r s same change = subst (λ o. IfSome o (λ e. is_some e.kept ≡ true))
        (sym (eject-on_eject r.uid u (λ e. record e { kept = kept_of r.change; doubt = None }) s))
        (subst (λ v. IfSome (cond (eq_by_cmp uid_cmp u v) (option_map (λ (e : Eject). record e { kept = kept_of r.change; doubt = None })
        (eject_in s u)) (eject_in s u)) (λ e. is_some e.kept ≡ true)) (sym same)
        (rw (tied_itself uid_cmp_total u) (go (eject_in s u) r.change change)))
      where
        go : (o : Option Eject) (c : EjectChange) → IsChange c
            → IfSome (option_map (λ (e : Eject). record e { kept = kept_of c; doubt = None }) o) (λ e. is_some e.kept ≡ true)
        go None c x = tt
        go (Some e) (body bytes) x = refl
        go (Some e) removal x = absurd x

    stage-removed : (c : EjectChange) (v : Uid) (s : Site) → StageOn s.node → StageOn (removed c v s).node
    stage-removed (body bytes) v s h = h
    stage-removed removal v s h = stage-turned_away v status.Gone (deactivated v s) (stage-deactivated v s h)

    pub stage-done : (r : StoreRequest) (s : Site) → (r.uid ≡ u → IfSome (eject_in s u) (λ e. is_some e.kept ≡ true))
        → StageOn s.node → StageOn (done r s).node
    stage-done r s kept h = stage-removed r.change r.uid (request_ended r status.Ok s) (stage-ended r status.Ok s (λ x. kept) h)

    -- a request that puts bytes makes a device call
    puts-call : (s : Site) (r : StoreRequest) → is_some (kept_of r.change) ≡ true → work_of s r ≡ unkept → ⊥
    puts-call s r puts is = go (r.made == 0) (in_doubt s.number s.node) s.node.synced (finds_room r.uid r.change s)
        (subst (λ b. cond (r.made == 0) (cond (in_doubt s.number s.node) (cond s.node.synced reads syncs)
        (cond (cond b true (is_kept_in s r.uid)) (cond (finds_room r.uid r.change s) calls without_room) unkept)) calls ≡ unkept) puts is)
      where
        go : (a b c d : Bool) → cond a (cond b (cond c reads syncs) (cond d calls without_room)) calls ≡ unkept → ⊥
        go true true true d e = cc e
        go true true false d e = cc e
        go true false c true e = cc e
        go true false c false e = cc e
        go false b c d e = cc e

    puts-bytes : (c : EjectChange) → IsChange c → is_some (kept_of c) ≡ true
    puts-bytes (body bytes) h = refl
    puts-bytes removal h = absurd h

    stage-worked : (w : Work) (r : StoreRequest) (how : RequestEnd) (p : Option Pick) (s : Site) → first_request s.node ≡ Some r
        → work_of s r ≡ w → StageOn s.node → StageOn (worked w r how p s).node
    stage-worked syncs r end.Part p s is of h = stage-node (λ it. record it { synced = true }) s h
    stage-worked syncs r end.Done p s is of h = h
    stage-worked syncs r end.Full p s is of h = h
    stage-worked syncs r end.Fault p s is of h = stage-ended r status.StoreFault (unsynced s) (λ x. absurd (cc x)) (stage-unsynced s h)
    stage-worked syncs r end.Stop p s is of h = stage-crashed s h
    stage-worked reads r end.Part p s is of h = stage-settled p s h
    stage-worked reads r end.Done p s is of h = h
    stage-worked reads r end.Full p s is of h = h
    stage-worked reads r end.Fault p s is of h = stage-ended r status.StoreFault (unsynced s) (λ x. absurd (cc x)) (stage-unsynced s h)
    stage-worked reads r end.Stop p s is of h = stage-crashed s h
    stage-worked unkept r how p s is of h = stage-done r s (λ same. absurd (puts-call s r
        (puts-bytes r.change (change-of s.node.requests r is h.requests same)) of)) h
    stage-worked without_room r how p s is of h = stage-ended r status.Full s (λ x. absurd (cc x)) h
    stage-worked calls r end.Part p s is of h = stage-node (λ it. record it { requests = more_made it.requests }) (doubted r s)
        (let x = stage-doubted r s is h in
        stage-requests (doubted r s).node.requests _ (eject_in (doubted r s) u) (changes-made (doubted r s).node.requests)
        (none-made (doubted r s).node.requests) x)
    stage-worked calls r end.Done p s is of h = stage-done r (stored r s)
        (λ same. stored-kept r s same (change-of s.node.requests r is h.requests same)) (stage-stored r s is h)
    stage-worked calls r end.Full p s is of h = h
    stage-worked calls r end.Fault p s is of h = stage-ended r status.StoreFault (doubted r s) (λ x. absurd (cc x)) (stage-doubted r s is h)
    stage-worked calls r end.Stop p s is of h = stage-crashed (doubted r s) (stage-doubted r s is h)

    pub stage-store : (how : RequestEnd) (p : Option Pick) (s : Site) → StageOn s.node → StageOn (store_turn how p s).node
    stage-store how p s h = stage-item s (first_request s.node) _ h (λ r is. stage-worked (work_of s r) r how p s is refl h)

    pub stage-boot : (e : ℕ) (how : BootEnd) (p : Option Pick) (began : Bool) (s : Site) → StageOn s.node
        → StageOn (boot_turn e how p began s).node
    stage-boot e how p began s h = stage-node (booted_node s e how began) (settled p s) (go how (stage-settled p s h))
      where
        go : (how : BootEnd) → StageOn (settled p s).node → StageOn (booted_node s e how began (settled p s).node)
        go boot_end.Up x = x
        go _ x = x

    -- 9. What is told of this Eject besides: a process of it waits, and it asks the store
    pub active-waits : (kept : Bool) (p : ℕ) (w : Waiting) (it : Active) → IsActive kept it → IsActive kept (on_crew (set_waits p w) it)
    active-waits kept p w it h = record { kind = h.kind; vars = h.vars; limits = h.limits; monitors = h.monitors; work = go h.work }
      where
        go : ((it.crew.processes ≡ []) × R.Idle) ⊎ IsBusy kept it
            → (((on_crew (set_waits p w) it).crew.processes ≡ []) × R.Idle) ⊎ IsBusy kept (on_crew (set_waits p w) it)
        go (inl x) = inl (ap (map (with_waits p w)) x.0, x.1)
        go (inr b) = inr (record {
          number = b.number;
          worker = cond (b.number == p) (record b.worker { waits = w }) b.worker;
          call = b.call;
          alone = set-one p b.number w b.worker it.crew.processes b.alone;
          serves = serves-one (b.number == p) w b.worker ∙ b.serves;
          class = b.class;
          task = b.task;
        })

    pub stage-waits : (v : Uid) (p : ℕ) (w : Waiting) (s : Site) → StageOn s.node
        → StageOn (on_eject v (on_active (on_crew (set_waits p w))) s).node
    stage-waits v p w s h = stage-eject v (on_active (on_crew (set_waits p w))) s (λ e same is x.
        eject-active (on_crew (set_waits p w)) s.node.requests e (λ it is_it y. (active-waits (is_some e.kept) p w it y, refl)) x) h

    -- where it is active, its values may be kept
    abbrev pub MayKeep : Option Eject → Type 0
    MayKeep o = IfSome o (λ e. IfSome e.active (λ it. R.Filled it.vars))

    changes-more : (rs : List StoreRequest) (r : StoreRequest) → (r.uid ≡ u → IsChange r.change) → AreChanges rs → AreChanges (rs ++ r ∷ [])
    changes-more [] r x h = (x, tt)
    changes-more (q ∷ rs) r x h = (h.0, changes-more rs r x h.1)

    none-more : (rs : List StoreRequest) (r : StoreRequest) → (r.uid ≡ u → ⊥) → NoneOf rs → NoneOf (rs ++ r ∷ [])
    none-more [] r x h = (x, tt)
    none-more (q ∷ rs) r x h = (h.0, none-more rs r x h.1)

    -- one more request, of another Eject
    more-other : (r : StoreRequest) (s : Site) → (r.uid ≡ u → ⊥) → StageOn s.node
        → StageOn (on_node (λ it. record it { requests = it.requests ++ r ∷ [] }) s).node
    more-other r s apart h = stage-node (λ it. record it { requests = it.requests ++ r ∷ [] }) s
        (stage-requests s.node.requests _ (eject_in s u) (changes-more s.node.requests r (λ same. absurd (apart same)))
        (none-more s.node.requests r apart) h)

    -- or of this one
    more-own : (r : StoreRequest) (s : Site) → IsChange r.change → MayKeep (eject_in s u) → StageOn s.node
        → StageOn (on_node (λ it. record it { requests = it.requests ++ r ∷ [] }) s).node
    more-own r s change may h = stage-node (λ it. record it { requests = it.requests ++ r ∷ [] }) s (record {
      requests = changes-more s.node.requests r (λ same. change) h.requests;
      eject = go (eject_in s u) may h.eject;
      there = h.there;
    })
      where
        go : (o : Option Eject) → MayKeep o → IfSome o (IsEject s.node.requests) → IfSome o (IsEject (s.node.requests ++ r ∷ []))
        go None m x = tt
        go (Some e) m x = record { active = x.active; filled = fill e.active m; kept = x.kept; doubt = x.doubt; still = x.still }
          where
            fill : (a : Option Active) → IfSome a (λ it. R.Filled it.vars)
                → IfSome a (λ it. R.Filled it.vars ⊎ IsClean (s.node.requests ++ r ∷ []) e)
            fill None y = tt
            fill (Some it) y = inl y

    pub stage-asks : (v : Uid) (p : ℕ) (c : EjectChange) (s : Site)
        → (v ≡ u → IsChange c × MayKeep (eject_in s u)) → StageOn s.node → StageOn (asks_store v p c s).node
    stage-asks v p c s own h = go (eq_by_cmp uid_cmp u v) refl
      where
        mid : Site
        mid = on_eject v (on_active (on_crew (set_waits p outside))) s

        r : StoreRequest
        r = record { uid = v; process = Some p; change = c; made = 0 }

        may : (o : Option Eject) → MayKeep o → MayKeep (option_map (on_active (on_crew (set_waits p outside))) o)
        may None x = tt
        may (Some e) x = by e.active refl x
          where
            by : (a : Option Active) → e.active ≡ a → IfSome a (λ it. R.Filled it.vars)
                → IfSome (with_item a (λ it. with_active (Some (on_crew (set_waits p outside) it)) e) e).active (λ it. R.Filled it.vars)
            by None is y = subst (λ a. IfSome a (λ it. R.Filled it.vars)) (sym is) y
            by (Some it) is y = y

        go : (b : Bool) → eq_by_cmp uid_cmp u v ≡ b → StageOn (asks_store v p c s).node
        go true is = let same : v ≡ u = sym (eq-same uid_cmp uid_cmp-IsAntisymmetric u v is) in
            more-own r mid (own same).0 (subst MayKeep (ap (λ w. eject_in (on_eject w (on_active (on_crew (set_waits p outside))) s) u)
            (sym same))
            (subst MayKeep (sym (eject-own u (on_active (on_crew (set_waits p outside))) s)) (may (eject_in s u) (own same).1)))
            (stage-waits v p outside s h)
        go false is = more-other r mid (λ same. clash (subst (λ w. eq_by_cmp uid_cmp u w ≡ false) same is)) (stage-waits v p outside s h)
          where
            clash : eq_by_cmp uid_cmp u u ≡ false → ⊥
            clash e = let own : eq_by_cmp uid_cmp u u ≡ true = rw (tied_itself uid_cmp_total u) refl in
                let bad : true ≡ false = sym own ∙ e in cc bad

    pub stage-checkpoints : (v : Uid) (p : ℕ) (bytes : List ℕ) (s : Site)
        → (v ≡ u → IsBody bytes × MayKeep (eject_in s u)) → StageOn s.node → StageOn (checkpoints v p bytes s).node
    stage-checkpoints v p bytes s own h = stage-cond (nat_le (length bytes) BODY_LIMIT) (asks_store v p (body bytes) s) _
        (λ x. stage-asks v p (body bytes) s own h)
        (λ x. stage-tells v p (Code status.TooLarge) s (λ e it same is is_it y.
        hears-code (is_some e.kept) it.vars status.TooLarge (λ z. absurd (cc z))) h)

    -- 10. Another Eject
    pub stage-other : (v : Uid) (f : Eject → Eject) (s : Site) → (v ≡ u → ⊥) → StageOn s.node → StageOn (on_eject v f s).node
    stage-other v f s apart h = stage-eject v f s (λ e same is x. absurd (apart same)) h

    -- what is born is another Eject, or this one, of its type, where there was none
    pub record MayBear (t : Option Edentype) (s : Site) : Type 0 where
      pub own : (new : Uid) → next_uid s ≡ Ok new → new ≡ u
          → (t ≡ Some (native_type R.kind)) × (eject_in s u ≡ None) × NoneOf s.node.requests × R.Born

    fresh-idle : (n : Native) (vars : List Datum) → (fresh (native_type n) vars).crew.processes ≡ []
    fresh-idle native.Cell vars = refl
    fresh-idle native.Directory vars = refl
    fresh-idle native.Lines vars = refl
    fresh-idle native.Take vars = refl
    fresh-idle native.Skip vars = refl
    fresh-idle native.Only vars = refl
    fresh-idle native.Number vars = refl
    fresh-idle native.Sink vars = refl

    fresh-limits : (n : Native) (vars : List Datum) → (fresh (native_type n) vars).crew.limits ≡ 1 ∷ []
    fresh-limits native.Cell vars = refl
    fresh-limits native.Directory vars = refl
    fresh-limits native.Lines vars = refl
    fresh-limits native.Take vars = refl
    fresh-limits native.Skip vars = refl
    fresh-limits native.Only vars = refl
    fresh-limits native.Number vars = refl
    fresh-limits native.Sink vars = refl

    fresh-monitors : (n : Native) (vars : List Datum) → (fresh (native_type n) vars).crew.monitors ≡ []
    fresh-monitors native.Cell vars = refl
    fresh-monitors native.Directory vars = refl
    fresh-monitors native.Lines vars = refl
    fresh-monitors native.Take vars = refl
    fresh-monitors native.Skip vars = refl
    fresh-monitors native.Only vars = refl
    fresh-monitors native.Number vars = refl
    fresh-monitors native.Sink vars = refl

    fresh-active : (kept : Bool) (vars : List Datum) → R.Idle → R.Vars kept vars → IsActive kept (fresh (native_type R.kind) vars)
    fresh-active kept vars idle h = record {
      kind = refl;
      vars = h;
      limits = fresh-limits R.kind vars;
      monitors = fresh-monitors R.kind vars;
      work = inl (fresh-idle R.kind vars, idle);
    }

    pub stage-born : (new : Uid) (t : Edentype) (s : Site)
        → (new ≡ u → (t ≡ native_type R.kind) × (eject_in s u ≡ None) × NoneOf s.node.requests × R.Born)
        → StageOn s.node → StageOn (born new (fresh t (first_values t)) s).node
    stage-born new t s own h = stage-node (λ node. born_in new (fresh t (first_values t)) node (eject_in s new)) s (record {
      requests = h.requests;
      eject = subst (λ o. IfSome o (IsEject s.node.requests))
          (sym (find-put uid_cmp uid_cmp_total u new (with_item (eject_in s new) (with_active (Some (fresh t (first_values t))))
          (newborn (fresh t (first_values t)))) s.node.ejects))
          (go (eq_by_cmp uid_cmp u new) refl);
      there = λ x. ap is_some (find-put uid_cmp uid_cmp_total u new
          (with_item (eject_in s new) (with_active (Some (fresh t (first_values t))))
          (newborn (fresh t (first_values t)))) s.node.ejects) ∙ put_still (eq_by_cmp uid_cmp u new) (h.there x);
    })
      where
        put_still : (b : Bool) → is_some (eject_in s u) ≡ true → is_some (cond b (Some (with_item (eject_in s new)
            (with_active (Some (fresh t (first_values t)))) (newborn (fresh t (first_values t))))) (eject_in s u)) ≡ true
        put_still true y = refl
        put_still false y = y

        go : (b : Bool) → eq_by_cmp uid_cmp u new ≡ b
            → IfSome (cond b (Some (with_item (eject_in s new) (with_active (Some (fresh t (first_values t))))
            (newborn (fresh t (first_values t)))))
            (eject_in s u)) (IsEject s.node.requests)
        go false is = h.eject
        go true is =
            let same : new ≡ u = sym (eq-same uid_cmp uid_cmp-IsAntisymmetric u new is) in
            let x = own same in
            subst (λ o. IsEject s.node.requests (with_item o (with_active (Some (fresh t (first_values t))))
            (newborn (fresh t (first_values t)))))
            (sym (ap (eject_in s) same ∙ x.1))
            (subst (λ k. IsEject s.node.requests (newborn (fresh k (first_values k)))) (sym x.0)
            (record {
              active = fresh-active false (first_values (native_type R.kind)) (L.born x.3) (L.first x.3);
              filled = inr (record { kept = refl; doubt = refl; requests = x.2 });
              kept = tt;
              doubt = tt;
              still = λ y. absurd (let bad : is_some {T = Eject} None ≡ true = sym (ap is_some x.1) ∙ h.there (inl y) in cc bad);
            }))

    stage-creates : (v : Uid) (p : ℕ) (t : Option Edentype) (s : Site) → (v ≡ u → ⊥) → MayBear t s → StageOn s.node
        → StageOn (creates v p t (next_uid s) s).node
    stage-creates v p None s apart may h = h
    stage-creates v p (Some t) s apart may h = go (next_uid s) refl
      where
        go : (made : Result Uid Status) → next_uid s ≡ made → StageOn (creates v p (Some t) made s).node
        go (Err why) is = stage-tells v p (Created why None) s (λ e it same at is_it x. absurd (apart same)) h
        go (Ok new) is = stage-tells v p (Created status.Ok (Some (full new))) (born new (fresh t (first_values t)) s)
            (λ e it same at is_it x. absurd (apart same))
            (stage-born new t s (λ same. (let x = may.own new is same in
            ((let k : Some t ≡ Some (native_type R.kind) = x.0 in cc k), x.1, x.2, x.3))) h)

    -- the effect of a process of another Eject
    pub stage-effect : (reach : ℕ → Bool) (v : Uid) (p : ℕ) (i : Option Invocation) (t : Edentype) (vars : List Datum) (e : Effect)
        (s : Site)
        → (v ≡ u → ⊥) → ((name : List ℕ) → e ≡ effect.Create name → MayBear (type_of s.types name) s)
        → StageOn s.node → StageOn (effected reach v p i t vars e s).node
    stage-effect reach v p i t vars (effect.Return results) s apart may h = stage-traffic (answers i results)
        (on_eject v (on_active (without_process p)) s) (stage-other v (on_active (without_process p)) s apart h)
    stage-effect reach v p i t vars effect.End s apart may h = stage-other v (on_active (without_process p)) s apart h
    stage-effect reach v p i t vars effect.Checkpoint s apart may h =
        stage-checkpoints v p (spelling (rep_of t vars)) s (λ same. absurd (apart same)) h
    stage-effect reach v p i t vars effect.Destroy s apart may h = stage-asks v p removal s (λ same. absurd (apart same)) h
    stage-effect reach v p i t vars effect.Deactivate s apart may h = stage-gone v (deactivated v s) (stage-deactivated v s h)
    stage-effect reach v p i t vars (effect.Fault cause) s apart may h =
        stage-turned_away v status.Dropped (deactivated v s) (stage-deactivated v s h)
    stage-effect reach v p i t vars (effect.Create name) s apart may h = stage-creates v p (type_of s.types name) s apart (may name refl) h
    stage-effect reach v p i t vars (effect.Invoke target operation args) s apart may h =
        stage-traffic _ (on_eject v (on_active (waits_or_told p (refused_at_once (reach target.uid.node) args))) s)
        (stage-other v _ s apart h)
    stage-effect reach v p i t vars (effect.Lock m) s apart may h = stage-other v _ s apart h
    stage-effect reach v p i t vars (effect.Leave m) s apart may h = stage-other v _ s apart h
    stage-effect reach v p i t vars (effect.Wait c) s apart may h = stage-other v _ s apart h
    stage-effect reach v p i t vars (effect.Signal c) s apart may h = stage-other v _ s apart h
    stage-effect reach v p i t vars effect.Yield s apart may h = h

    -- 11. Deliveries
    pub stage-queued : (v : Uid) (f : Eject → Eject) (s : Site)
        → ((e : Eject) → ((f e).active ≡ e.active) × ((f e).kept ≡ e.kept) × ((f e).doubt ≡ e.doubt)) → StageOn s.node
        → StageOn (on_eject v f s).node
    stage-queued v f s same h = stage-eject v f s (λ e own is x. record {
      active = subst (λ a. IfSome a (IsActive (is_some (f e).kept))) (sym (same e).0)
          (subst (λ k. IfSome e.active (IsActive (is_some k))) (sym (same e).1) x.active);
      filled = subst (λ a. IfSome a (λ it. R.Filled it.vars ⊎ IsClean s.node.requests (f e))) (sym (same e).0)
          (if-map e.active (λ it y. fill e it y) x.filled);
      kept = subst (λ k. IfSome k IsBody) (sym (same e).1) x.kept;
      doubt = subst (λ c. IfSome c IsChange) (sym (same e).2) x.doubt;
      still = λ y. ap is_some (same e).1 ∙ x.still y;
    }) h
      where
        fill : (e : Eject) (it : Active) → R.Filled it.vars ⊎ IsClean s.node.requests e → R.Filled it.vars ⊎ IsClean s.node.requests (f e)
        fill e it (inl y) = inl y
        fill e it (inr y) = inr (record { kept = (same e).1 ∙ y.kept; doubt = (same e).2 ∙ y.doubt; requests = y.requests })

    pub stage-requested : (k : ℕ) (refused : Option Status) (s : Site) → StageOn s.node → StageOn (requested k refused s).node
    stage-requested k (Some why) s h = stage-traffic _ s h
    stage-requested k None s h = stage-item s (call_at s.traffic k) _ h (λ c is.
        stage-queued c.target.uid (λ e. record e { queued = e.queued ++ k ∷ [] })
        (on_traffic (λ t. changed_call k (at_place held) (taken k t)) s) (λ e. (refl, refl, refl)) (stage-traffic _ s h))

    -- a reply to a process of it is one that it may hear
    pub stage-heard : (k : ℕ) (why : Status) (values : List Datum) (s : Site)
        → ((c : Call) (p : ℕ) (e : Eject) (it : Active) → call_at s.traffic k ≡ Some c → c.open_ ≡ true → c.asker ≡ Process u p
        → eject_in s u ≡ Some e → e.active ≡ Some it → IsActive (is_some e.kept) it → MayHear (is_some e.kept) it.vars (Told why values))
        → StageOn s.node → StageOn (heard k why values s).node
    unfolding on_traffic
    stage-heard k why values s may h = stage-item s (call_at s.traffic k) _ h (λ c is.
        stage-cond c.open_ (tells_asker c.asker why values (on_traffic (received k) s)) (on_traffic (received k) s)
        (λ opened. go c is opened c.asker refl) (λ x. stage-traffic (received k) s h))
      where
        go : (c : Call) → call_at s.traffic k ≡ Some c → c.open_ ≡ true → (a : Asker) → c.asker ≡ a
            → StageOn (tells_asker a why values (on_traffic (received k) s)).node
        go c is opened (Shell name) by = stage-traffic (received k) s h
        go c is opened (Process v p) by = stage-tells v p (Told why values) (on_traffic (received k) s)
            (λ e it same at is_it x. may c p e it is opened (by ∙ ap (λ w. Process w p) same) at is_it x) (stage-traffic (received k) s h)

    -- 12. A call starts
    abbrev AllFirst : List Operation → Type 0
    AllFirst [] = Unit {0}
    AllFirst (o ∷ os) = (o.class ≡ 0) × AllFirst os

    first-class : (test : Operation → Bool) (os : List Operation) → AllFirst os → with_item (find test os) (λ o. o.class) 0 ≡ 0
    first-class test [] h = refl
    first-class test (o ∷ os) h = go (test o) (first-class test os h.1)
      where
        go : (b : Bool) → with_item (find test os) (λ o. o.class) 0 ≡ 0 → with_item (cond b (Some o) (find test os)) (λ o. o.class) 0 ≡ 0
        go true later = h.0
        go false later = later

    native-first : (n : Native) → AllFirst (native_outline n).operations
    native-first native.Cell = (refl, (refl, (refl, (refl, (refl, tt)))))
    native-first native.Directory = (refl, (refl, (refl, (refl, tt))))
    native-first native.Lines = (refl, (refl, tt))
    native-first native.Take = (refl, (refl, tt))
    native-first native.Skip = (refl, (refl, tt))
    native-first native.Only = (refl, (refl, tt))
    native-first native.Number = (refl, (refl, tt))
    native-first native.Sink = (refl, (refl, (refl, tt)))

    class-first : (n : Native) (c : Call) → class_of (native_type n) c ≡ 0
    class-first n c = first-class (λ o. same_text o.name c.operation) (native_outline n).operations (native-first n)

    invocation-first : (n : Native) (t : Traffic) (k : ℕ) → (invocation (native_type n) t k).class ≡ 0
    invocation-first n t k = go (call_at t k)
      where
        go : (o : Option Call) → with_item o (class_of (native_type n)) 0 ≡ 0
        go None = refl
        go (Some c) = class-first n c

    -- while a process of it runs, no other starts
    busy-full : (kept : Bool) (it : Active) (i : Invocation) → IsActive kept it → i.class ≡ 0 → may_start it.crew i ≡ true → IsBusy kept it
        → ⊥
    busy-full kept it i h class may b = full (subst (λ o. nat_lt (0 + cond (class_is 0 o) 1 0) 1 ≡ true) b.serves
        (subst (λ (ps : List (ℕ × Worker)). nat_lt (count_by (λ (e : ℕ × Worker). serves_class 0 e.1) ps) 1 ≡ true) b.alone
        (subst (λ ls. nat_lt (count_by (λ (e : ℕ × Worker). serves_class 0 e.1) it.crew.processes) (slice_index ls 0) ≡ true) h.limits
        (subst (λ c. nat_lt (count_by (λ (e : ℕ × Worker). serves_class c e.1) it.crew.processes) (slice_index it.crew.limits c)
        ≡ true) class may))))
      where
        full : nat_lt (0 + cond (b.call.class == 0) 1 0) 1 ≡ true → ⊥
        full e = let bad : nat_lt 1 1 ≡ true = subst (λ c. nat_lt (0 + cond (c == 0) 1 0) 1 ≡ true) b.class e in cc bad

    pub starts-idle : (kept : Bool) (it : Active) (e : Eject) (t : Traffic) (k : ℕ) → IsActive kept it
        → next_start t e it ≡ Some (invocation it.kind t k) → it.crew.processes ≡ []
    starts-idle kept it e t k h is = go h.work (nat_lt (length it.crew.processes) 16) is
      where
        first_one : (invocation it.kind t k).class ≡ 0
        first_one = ap (λ x. (invocation x t k).class) h.kind ∙ invocation-first R.kind t k

        go : ((it.crew.processes ≡ []) × R.Idle) ⊎ IsBusy kept it → (b : Bool)
            → cond b (find (may_start it.crew) (map (invocation it.kind t) e.queued)) None ≡ Some (invocation it.kind t k)
            → it.crew.processes ≡ []
        go (inl x) b found = x.0
        go (inr y) true found = absurd (busy-full kept it (invocation it.kind t k) h first_one (found-passes (may_start it.crew)
            (map (invocation it.kind t) e.queued) (invocation it.kind t k) found) y)
        go (inr y) false found = absurd (cc found)

    put-own : (p : ℕ) (t : Task) (tasks : List (ℕ × Task)) → value_at nat_cmp p (put_at nat_cmp p t tasks) ≡ Some t
    put-own p t tasks = find-put nat_cmp nat_cmp_total p p t tasks ∙ rw (tied_itself nat_cmp_total p) refl

    -- what a call begins with
    pub record Begins (it : Active) (t : Traffic) (k : ℕ) : Type 0 where
      pub task : (c : Call) → call_at t k ≡ Some c → R.Task it.vars (A k) (first_stage R.kind c.operation c.args) Go

    pub stage-start : (v : Uid) (k p : ℕ) (s : Site) → IsActiveAnd s v (λ e it. AllowsStart s.traffic k p e it)
        → ((e : Eject) (it : Active) → v ≡ u → eject_in s u ≡ Some e → e.active ≡ Some it → IsActive (is_some e.kept) it
        → AllowsStart s.traffic k p e it → Begins it s.traffic k)
        → StageOn s.node → StageOn (start v k p s).node
    stage-start v k p s allowed begins h = stage-item s (call_at s.traffic k) _ h (λ c is. stage-eject v
        (λ e. record (on_active (with_start s.traffic k p c) e) { queued = filter (λ j. not (j == k)) e.queued }) s
        (λ e same at x. go c is e same at e.active refl x (allows e same at)) h)
      where
        allows : (e : Eject) → v ≡ u → eject_in s u ≡ Some e → IsSomeAnd e.active (λ it. AllowsStart s.traffic k p e it)
        allows e same at = subst (λ o. IsSomeAnd o (λ e. IsSomeAnd e.active (λ it. AllowsStart s.traffic k p e it)))
            (ap (eject_in s) same ∙ at) allowed

        go : (c : Call) → call_at s.traffic k ≡ Some c → (e : Eject) → v ≡ u → eject_in s u ≡ Some e → (o : Option Active) → e.active ≡ o
            → IsEject s.node.requests e → IsSomeAnd o (λ it. AllowsStart s.traffic k p e it)
            → IsEject s.node.requests (record (with_item o (λ it. with_active (Some (with_start s.traffic k p c it)) e) e) {
              queued = filter (λ j. not (j == k)) e.queued;
            })
        go c is e same at None none x a = absurd a
        go c is e same at (Some it) some x a =
            let old : IsActive (is_some e.kept) it = subst (λ o. IfSome o (IsActive (is_some e.kept))) some x.active in
            let idle : it.crew.processes ≡ [] = starts-idle (is_some e.kept) it e s.traffic k old a.earliest in
            record {
              active = record {
                kind = old.kind;
                vars = old.vars;
                limits = old.limits;
                monitors = old.monitors;
                work = inr (record {
                  number = least_free it.crew;
                  worker = record { serves = Some (invocation it.kind s.traffic k); waits = nothing };
                  call = invocation it.kind s.traffic k;
                  alone = ap (put_at nat_cmp (least_free it.crew)
                      (record { serves = Some (invocation it.kind s.traffic k); waits = nothing })) idle;
                  serves = refl;
                  class = ap (λ x. (invocation x s.traffic k).class) old.kind ∙ invocation-first R.kind s.traffic k;
                  task = subst (λ q. IsSomeAnd (value_at nat_cmp q
                      (put_at nat_cmp p (record { rest = begin it.kind c.operation c.args; answer = Go })
                      it.tasks)) (IsTask (is_some e.kept) it.vars (A k))) a.number
                      (subst (λ o. IsSomeAnd o (IsTask (is_some e.kept) it.vars (A k)))
                      (sym (put-own p (record { rest = begin it.kind c.operation c.args; answer = Go }) it.tasks))
                      (record {
                        stage = first_stage R.kind c.operation c.args;
                        rest = ap (λ t. begin t c.operation c.args) old.kind;
                        keeps = (begins e it same at some old a).task c is;
                        fine = λ z. absurd (cc z);
                      }));
                });
              };
              filled = fill (subst (λ o. IfSome o (λ it. R.Filled it.vars ⊎ IsClean s.node.requests e)) some x.filled);
              kept = x.kept;
              doubt = x.doubt;
              still = x.still;
            }
          where
            fill : R.Filled it.vars ⊎ IsClean s.node.requests e → R.Filled it.vars ⊎ IsClean s.node.requests
                (record (with_active (Some (with_start s.traffic k p c it)) e) { queued = filter (λ j. not (j == k)) e.queued })
            fill (inl y) = inl y
            fill (inr y) = inr (record { kept = y.kept; doubt = y.doubt; requests = y.requests })

    -- 13. A turn of a process of it
    eject-turns : (f : Active → Active) (rs : List StoreRequest) (e : Eject) (it : Active) → e.active ≡ Some it
        → IsActive (is_some e.kept) (f it) → (R.Filled it.vars → R.Filled (f it).vars) → IsEject rs e → IsEject rs (on_active f e)
    eject-turns f rs e it some new fills h = rw some (record {
      active = new;
      filled = fill (subst (λ o. IfSome o (λ it. R.Filled it.vars ⊎ IsClean rs e)) some h.filled);
      kept = h.kept;
      doubt = h.doubt;
      still = h.still;
    })
      where
        fill : R.Filled it.vars ⊎ IsClean rs e → R.Filled (f it).vars ⊎ IsClean rs (with_active (Some (f it)) e)
        fill (inl y) = inl (fills y)
        fill (inr y) = inr (record { kept = y.kept; doubt = y.doubt; requests = y.requests })

    -- the process that takes the turn, and what it comes to
    pub record Turn (e : Eject) (it : Active) (p : ℕ) (t : Turned) : Type 0 where
      pub busy : IsBusy (is_some e.kept) it
      pub number : p ≡ busy.number
      pub stage : Stage
      pub answer : Answer
      pub task : Task
      pub has : value_at nat_cmp p it.tasks ≡ Some task
      pub rest_was : task.rest ≡ of_native stage
      pub told_is : task.answer ≡ answer
      pub keeps_task : R.Task it.vars (A busy.call.call) stage answer
      pub vars : t.vars ≡ (native_turn R.kind it.vars stage answer).0
      pub rest : t.rest ≡ of_native (native_turn R.kind it.vars stage answer).1
      pub effect_is : t.effect ≡ (native_turn R.kind it.vars stage answer).2
      pub keeps : TurnKeeps R (is_some e.kept) it.vars (A busy.call.call) (native_turn R.kind it.vars stage answer)

    pub turn-of-it : R.Turns → (e : Eject) (it : Active) (p : ℕ) (t : Turned) → IsActive (is_some e.kept) it
        → is_some (worker_at it p) ≡ true
        → turn_of u it p ≡ Some t → Turn e it p t
    turn-of-it turns e it p t h there is = go h.work
      where
        own : (b : IsBusy (is_some e.kept) it) → p ≡ b.number
        own b = by (eq_by_cmp nat_cmp p b.number) refl (subst (λ ps. is_some (value_at nat_cmp p ps) ≡ true) b.alone there)
          where
            by : (c : Bool) → eq_by_cmp nat_cmp p b.number ≡ c → is_some (cond c (Some b.worker) None) ≡ true → p ≡ b.number
            by true same x = same-true p b.number same
            by false same x = absurd (cc x)

        task : (b : IsBusy (is_some e.kept) it) (o : Option Task) → value_at nat_cmp p it.tasks ≡ o
            → IsSomeAnd o (IsTask (is_some e.kept) it.vars (A b.call.call))
            → with_item o (λ x. Some (turn it.kind it.vars x.rest x.answer u)) None ≡ Some t → Turn e it p t
        task b None at x eq = absurd x
        task b (Some y) at x eq =
            let same : turn it.kind it.vars y.rest y.answer u ≡ t = cc eq in
            let plain : turned_as of_native (native_turn R.kind it.vars x.stage y.answer) ≡ t =
            sym (ap₂ (λ k r. turn k it.vars r y.answer u) h.kind x.rest) ∙ same in
            record {
              busy = b;
              number = own b;
              stage = x.stage;
              answer = y.answer;
              task = y;
              has = at;
              rest_was = x.rest;
              told_is = refl;
              keeps_task = x.keeps;
              vars = ap (λ (z : Turned). z.vars) (sym plain);
              rest = ap (λ (z : Turned). z.rest) (sym plain);
              effect_is = ap (λ (z : Turned). z.effect) (sym plain);
              keeps = L.turn turns (is_some e.kept) it.vars (A b.call.call) x.stage y.answer h.vars x.keeps x.fine;
            }

        go : ((it.crew.processes ≡ []) × R.Idle) ⊎ IsBusy (is_some e.kept) it → Turn e it p t
        go (inl none) = absurd (let bad : is_some {T = Worker} (value_at nat_cmp p []) ≡ true = subst (λ (ps : List (ℕ × Worker)).
            is_some (value_at nat_cmp p ps) ≡ true) none.0 there in cc bad)
        go (inr b) = task b (value_at nat_cmp p it.tasks) refl
            (subst (λ q. IsSomeAnd (value_at nat_cmp q it.tasks) (IsTask (is_some e.kept) it.vars (A b.call.call))) (sym (own b)) b.task) is

    -- it goes on with what the turn left
    turned-task : (p : ℕ) (t : Turned) (kept : Bool) (args : List Datum) (q : ℕ) (tasks : List (ℕ × Task)) → eq_by_cmp nat_cmp q p ≡ true
        → is_some (value_at nat_cmp q tasks) ≡ true → IsTask kept t.vars args (record { rest = t.rest; answer = Go })
        → IsSomeAnd (value_at nat_cmp q (changed_at nat_cmp p (λ (old : Task). record { rest = t.rest; answer = Go }) tasks))
        (IsTask kept t.vars args)
    turned-task p t kept args q tasks same there x = subst (λ o. IsSomeAnd o (IsTask kept t.vars args))
        (sym (value-changed nat_cmp nat_cmp_total nat_cmp-IsAntisymmetric q p
        (λ (old : Task). record { rest = t.rest; answer = Go }) tasks))
        (rw same (go (value_at nat_cmp q tasks) there))
      where
        go : (o : Option Task) → is_some o ≡ true
            → IsSomeAnd (option_map (λ (old : Task). record { rest = t.rest; answer = Go }) o) (IsTask kept t.vars args)
        go None y = absurd (cc y)
        go (Some old) y = x

    turned-active : (e : Eject) (it : Active) (p : ℕ) (t : Turned) (x : Turn e it p t) → IsActive (is_some e.kept) it
        → R.Task t.vars (A x.busy.call.call) (native_turn R.kind it.vars x.stage x.answer).1 Go → IsActive (is_some e.kept) (turned p t it)
    turned-active e it p t x h task = record {
      kind = h.kind;
      vars = subst (R.Vars (is_some e.kept)) (sym x.vars) x.keeps.holds;
      limits = h.limits;
      monitors = h.monitors;
      work = inr (record {
        number = x.busy.number;
        worker = x.busy.worker;
        call = x.busy.call;
        alone = x.busy.alone;
        serves = x.busy.serves;
        class = x.busy.class;
        task = turned-task p t (is_some e.kept) (A x.busy.call.call) x.busy.number it.tasks
            (ap (λ q. eq_by_cmp nat_cmp q p) (sym x.number) ∙ same-self p)
            (there-some (IsTask (is_some e.kept) it.vars (A x.busy.call.call)) (value_at nat_cmp x.busy.number it.tasks) x.busy.task)
            (record { stage = (native_turn R.kind it.vars x.stage x.answer).1; rest = x.rest; keeps = task; fine = λ y. absurd (cc y) });
      });
    }

    -- or it has ended
    ended-plain : (p : ℕ) (crew : Crew) → crew.monitors ≡ []
        → ended p crew ≡ record crew { processes = where_key nat_cmp (λ k. not (k == p)) crew.processes }
    ended-plain p crew none = ap (λ n. record (leave_held p n crew) {
      processes = where_key nat_cmp (λ k. not (k == p))
          (leave_held p n crew).processes;
    })
        (ap length none)

    pub ended-alone : (e : Eject) (it : Active) (p : ℕ) (t : Turned) → Turn e it p t → IsActive (is_some e.kept) it
        → (without_process p (turned p t it)).crew.processes ≡ []
    ended-alone e it p t x h = ap (λ (c : Crew). c.processes) (ended-plain p it.crew h.monitors)
        ∙ ap (where_key nat_cmp (λ k. not (k == p))) x.busy.alone
        ∙ ap (λ q. where_key nat_cmp (λ k. not (k == p)) ((q, x.busy.worker) ∷ [])) (sym x.number) ∙ none
      where
        none : where_key nat_cmp (λ k. not (k == p)) ((p, x.busy.worker) ∷ []) ≡ []
        none = rw (eq-eqb p p refl) refl

    ended-active : R.Turns → (e : Eject) (it : Active) (p : ℕ) (t : Turned) (x : Turn e it p t) → IsActive (is_some e.kept) it
        → IsActive (is_some e.kept) (without_process p (turned p t it))
    ended-active turns e it p t x h = record {
      kind = h.kind;
      vars = subst (R.Vars (is_some e.kept)) (sym x.vars) x.keeps.holds;
      limits = ap (λ (c : Crew). c.limits) plain ∙ h.limits;
      monitors = ap (λ (c : Crew). c.monitors) plain ∙ h.monitors;
      work = inl (ended-alone e it p t x h, L.ended turns);
    }
      where
        plain : ended p it.crew ≡ record it.crew { processes = where_key nat_cmp (λ k. not (k == p)) it.crew.processes }
        plain = ended-plain p it.crew h.monitors

    fills-turned : (e : Eject) (it : Active) (p : ℕ) (t : Turned) → Turn e it p t → R.Filled it.vars → R.Filled t.vars
    fills-turned e it p t x f = subst R.Filled (sym x.vars) (x.keeps.fills f)

    -- what a turn keeps is read back
    abbrev pub ReadsBack : Turned → Type 0
    ReadsBack t = t.effect ≡ effect.Checkpoint
        → reading (spelling (rep_of (native_type R.kind) t.vars)) ≡ Some (rep_of (native_type R.kind) t.vars)

    module _ (reach : ℕ → Bool) (p : ℕ) (s : Site) (e : Eject) (at : eject_in s u ≡ Some e) (it : Active) (some : e.active ≡ Some it)
        (t : Turned) (x : Turn e it p t) (turns : R.Turns) (back : ReadsBack t) (h : StageOn s.node) where
      now : IsEject s.node.requests e
      now = subst (λ o. IfSome o (IsEject s.node.requests)) at h.eject

      is-active : IsActive (is_some e.kept) it
      is-active = subst (λ o. IfSome o (IsActive (is_some e.kept))) some now.active

      abbrev pub mid : Site
      mid = on_eject u (on_active (turned p t)) s

      -- where a task is left
      going-on : R.Task t.vars (A x.busy.call.call) (native_turn R.kind it.vars x.stage x.answer).1 Go → StageOn mid.node
      going-on task = stage-eject u (on_active (turned p t)) s
          (λ d same is y. subst (λ d. IsEject s.node.requests (on_active (turned p t) d))
          (same-some (sym at ∙ is))
          (eject-turns (turned p t) s.node.requests e it some (turned-active e it p t x is-active task) (fills-turned e it p t x) now)) h

      may-keep : R.Filled t.vars → MayKeep (eject_in mid u)
      may-keep f = subst MayKeep (sym (eject-own u (on_active (turned p t)) s ∙ ap (option_map (on_active (turned p t))) at))
          (subst (λ o. MayKeep (Some (with_item o (λ it. with_active (Some (turned p t it)) e) e))) (sym some) f)

      effect-own : (eff : Effect) → t.effect ≡ eff → TurnEnds R (is_some e.kept) t.vars (A x.busy.call.call)
          (native_turn R.kind it.vars x.stage x.answer).1 eff
          → StageOn (effected reach u p (serving it p) it.kind t.vars eff mid).node
      effect-own (effect.Return results) eq ends = stage-traffic (answers (serving it p) results)
          (on_eject u (on_active (without_process p)) mid)
          (subst (λ (q : Site). StageOn q.node) (sym (on_eject-twice u (on_active (turned p t)) (on_active (without_process p)) s))
          (stage-eject u (λ d. on_active (without_process p) (on_active (turned p t) d)) s (λ d same is y.
          subst (λ d. IsEject s.node.requests (on_active (without_process p) (on_active (turned p t) d))) (same-some (sym at ∙ is))
          (rw some (record {
            active = ended-active turns e it p t x is-active;
            filled = fill (subst (λ o. IfSome o (λ it. R.Filled it.vars ⊎ IsClean s.node.requests e)) some now.filled);
            kept = now.kept;
            doubt = now.doubt;
            still = now.still;
          }))) h))
        where
          fill : R.Filled it.vars ⊎ IsClean s.node.requests e → R.Filled t.vars ⊎ IsClean s.node.requests
              (with_active (Some (without_process p (turned p t it))) e)
          fill (inl y) = inl (fills-turned e it p t x y)
          fill (inr y) = inr (record { kept = y.kept; doubt = y.doubt; requests = y.requests })
      effect-own effect.Checkpoint eq ends = stage-checkpoints u p (spelling (rep_of it.kind t.vars)) mid (λ same. (
        record {
          values = t.vars;
          holds = L.stored t.vars (later (is_some e.kept) (subst (R.Vars (is_some e.kept)) (sym x.vars) x.keeps.holds));
          filled = ends.0;
          spelled = ap (λ k. spelling (rep_of k t.vars)) is-active.kind;
          reads = ap (λ k. reading (spelling (rep_of k t.vars))) is-active.kind ∙ back eq;
        },
        may-keep ends.0,
      )) (going-on ends.1)
        where
          later : (b : Bool) → R.Vars b t.vars → R.Vars true t.vars
          later true y = y
          later false y = L.kept_later t.vars y
      effect-own (effect.Invoke target operation args) eq ends = stage-traffic _
          (on_eject u (on_active (waits_or_told p (refused_at_once (reach target.uid.node) args))) mid)
          (waits (refused_at_once (reach target.uid.node) args))
        where
          waits : (o : Option Status) → StageOn (on_eject u (on_active (waits_or_told p o)) mid).node
          waits None = stage-waits u p outside mid (going-on ends.1)
          waits (Some why) = stage-tells u p (Told why []) mid (λ e it same is is_it y. hears-nothing (is_some e.kept) it.vars why)
              (going-on ends.1)
      effect-own _ eq ends = absurd ends

      pub turn-own : StageOn (effected reach u p (serving it p) it.kind t.vars t.effect mid).node
      turn-own = effect-own t.effect refl (subst (TurnEnds R (is_some e.kept) t.vars (A x.busy.call.call)
          (native_turn R.kind it.vars x.stage x.answer).1)
          (sym x.effect_is) (subst (λ v. TurnEnds R (is_some e.kept) v (A x.busy.call.call) (native_turn R.kind it.vars x.stage x.answer).1
          (native_turn R.kind it.vars x.stage x.answer).2) (sym x.vars) x.keeps.ends))

    -- what a process of another Eject creates is no other than this stage
    abbrev pub MayCreate : Uid → ℕ → Site → Type 0
    MayCreate v p s = (e : Eject) (it : Active) (t : Turned) (name : List ℕ) → eject_in s v ≡ Some e → e.active ≡ Some it
        → turn_of v it p ≡ Some t → t.effect ≡ effect.Create name → MayBear (type_of s.types name) (on_eject v (on_active (turned p t)) s)

    abbrev pub MayStore : Uid → ℕ → Site → Type 0
    MayStore v p s = (e : Eject) (it : Active) (t : Turned) → v ≡ u → eject_in s u ≡ Some e → e.active ≡ Some it → turn_of u it p ≡ Some t
        → ReadsBack t

    pub stage-process : (reach : ℕ → Bool) (v : Uid) (p : ℕ) (s : Site) → IsActiveAnd s v (λ e it. is_some (worker_at it p) ≡ true)
        → (v ≡ u → R.Turns) → MayCreate v p s → MayStore v p s → StageOn s.node → StageOn (process_turn reach v p s).node
    stage-process reach v p s active turns may store h = go (eq_by_cmp uid_cmp u v) refl
      where
        worker : (w : Uid) (e : Eject) (it : Active) → eject_in s w ≡ Some e → e.active ≡ Some it
            → IsActiveAnd s w (λ e it. is_some (worker_at it p) ≡ true) → is_some (worker_at it p) ≡ true
        worker w e it at some a = subst (λ o. IsSomeAnd o (λ it. is_some (worker_at it p) ≡ true)) some
            (subst (λ o. IsSomeAnd o (λ e. IsSomeAnd e.active (λ it. is_some (worker_at it p) ≡ true))) at a)

        own : v ≡ u → IsActiveAnd s u (λ e it. is_some (worker_at it p) ≡ true) → StageOn (process_turn reach u p s).node
        own same a = stage-item s (eject_in s u) _ h (λ e at. stage-item s e.active _ h (λ it some. stage-item s (turn_of u it p) _ h
            (λ t is.
            turn-own reach p s e at it some t (turn-of-it (turns same) e it p t
            (subst (λ o. IfSome o (IsActive (is_some e.kept))) some (subst (λ o. IfSome o (IsEject s.node.requests)) at h.eject).active)
            (worker u e it at some a) is) (turns same) (store e it t same at some is) h)))

        go : (b : Bool) → eq_by_cmp uid_cmp u v ≡ b → StageOn (process_turn reach v p s).node
        go true same = let is_u : v ≡ u = sym (eq-same uid_cmp uid_cmp-IsAntisymmetric u v same) in
            subst (λ w. StageOn (process_turn reach w p s).node) (sym is_u)
            (own is_u (subst (λ w. IsActiveAnd s w (λ e it. is_some (worker_at it p) ≡ true)) is_u active))
        go false same = stage-item s (eject_in s v) _ h (λ e at. stage-item s e.active _ h (λ it some. stage-item s (turn_of v it p) _ h
            (λ t is.
            stage-effect reach v p (serving it p) it.kind t.vars t.effect (on_eject v (on_active (turned p t)) s) apart
            (λ name eq. subst (λ ts. MayBear (type_of ts name) (on_eject v (on_active (turned p t)) s))
            (sym (types-on v (on_active (turned p t)) s)) (may e it t name at some is eq))
            (stage-other v (on_active (turned p t)) s apart h))))
          where
            apart : v ≡ u → ⊥
            apart is = let own : eq_by_cmp uid_cmp u u ≡ true = rw (tied_itself uid_cmp_total u) refl in
                let bad : true ≡ false = sym own ∙ subst (λ w. eq_by_cmp uid_cmp u w ≡ false) is same in cc bad

    -- 14. An activation: it starts again from what is kept of it
    starts-again : R.Wakes → (types : List Edentype) (bytes : List ℕ) (begun : Edentype × List Datum)
        → type_of types (name_of (native_type R.kind)) ≡ Some (native_type R.kind) → IsBody bytes
        → start_of types bytes u ≡ Some begun → IsActive true (fresh begun.0 (values_from begun.0 begun.1))
        × R.Filled (values_from begun.0 begun.1)
    starts-again wakes types bytes begun known b is = from (durable_from (native_type R.kind) rep u) refl
        (subst (λ o. with_item o (λ t. with_item (durable_from t rep u) (λ durable. Some (t, durable)) None) None ≡ Some begun) known
        (subst (λ o. with_item o (λ rep. started_from types rep u) None ≡ Some begun) b.reads is))
      where
        rep : Rep
        rep = rep_of (native_type R.kind) b.values

        done : (durable : List Datum) → durable ≡ durable_of (native_type R.kind) b.values
            → IsActive true (fresh (native_type R.kind) (values_from (native_type R.kind) durable))
            × R.Filled (values_from (native_type R.kind) durable)
        done durable same = let x = L.starts_again wakes b.values b.holds b.filled in
            subst (λ d. IsActive true (fresh (native_type R.kind) (values_from (native_type R.kind) d))
            × R.Filled (values_from (native_type R.kind) d))
            (sym same) (fresh-active true (again R.kind b.values) (L.woken wakes) x.0, x.1)

        from : (o : Option (List Datum)) → durable_from (native_type R.kind) rep u ≡ o
            → with_item o (λ durable. Some (native_type R.kind, durable)) None ≡ Some begun
            → IsActive true (fresh begun.0 (values_from begun.0 begun.1)) × R.Filled (values_from begun.0 begun.1)
        from None at eq = absurd (cc eq)
        from (Some durable) at eq =
            let same : (native_type R.kind, durable) ≡ begun = cc eq in
            subst (λ (x : Edentype × List Datum). IsActive true (fresh x.0 (values_from x.0 x.1)) × R.Filled (values_from x.0 x.1)) same
            (done durable (current (is_current (native_type R.kind) rep) at))
          where
            current : (c : Bool) → cond c (Some rep.values) (upgraded (native_type R.kind) rep u) ≡ Some durable → durable ≡ rep.values
            current true e = sym (same-some e)
            current false e = absurd (cc e)

    pub stage-awake : (v : Uid) (s : Site) → (v ≡ u → R.Wakes) → type_of s.types (name_of (native_type R.kind)) ≡ Some (native_type R.kind)
        → StageOn s.node → StageOn (awake v s).node
    stage-awake v s wakes known h = stage-item s (eject_in s v) _ h (λ e at. stage-item s e.kept _ h (λ bytes kept.
        stage-item s (start_of s.types bytes v) _ h (λ begun is. stage-traffic _ (on_eject v (waking e begun) s)
        (stage-eject v (waking e begun) s (λ d same own x. go e bytes begun d same at kept is own x) h))))
      where
        waking : Eject → Edentype × List Datum → Eject → Eject
        waking e begun old = record old {
          active = Some (fresh begun.0 (values_from begun.0 begun.1));
          queued = filter (fits_at begun.0 s.traffic) e.queued;
        }

        go : (e : Eject) (bytes : List ℕ) (begun : Edentype × List Datum) (d : Eject) → v ≡ u → eject_in s v ≡ Some e → e.kept ≡ Some bytes
            → start_of s.types bytes v ≡ Some begun → eject_in s u ≡ Some d → IsEject s.node.requests d
            → IsEject s.node.requests (waking e begun d)
        go e bytes begun d same at kept is own x =
            let one : e ≡ d = same-some (sym at ∙ ap (eject_in s) same ∙ own) in
            let kept_d : d.kept ≡ Some bytes = ap (λ (y : Eject). y.kept) (sym one) ∙ kept in
            let y = starts-again (wakes same) s.types bytes begun known (subst (λ o. IfSome o IsBody) kept_d x.kept)
            (ap (λ w. start_of s.types bytes w) (sym same) ∙ is) in
            record {
              active = subst (λ k. IsActive (is_some k) (fresh begun.0 (values_from begun.0 begun.1))) (sym kept_d) y.0;
              filled = inl y.1;
              kept = x.kept;
              doubt = x.doubt;
              still = x.still;
            }

    pub stage-activated : (v : Uid) (how : StartEnd) (s : Site) → (v ≡ u → R.Wakes)
        → type_of s.types (name_of (native_type R.kind)) ≡ Some (native_type R.kind) → StageOn s.node → StageOn (activated v how s).node
    stage-activated v start_end.Ok s wakes known h = stage-awake v s wakes known h
    stage-activated v start_end.Gone s wakes known h = stage-turned_away v status.Gone s h
    stage-activated v start_end.Fault s wakes known h = stage-turned_away v status.StoreFault s h
    stage-activated v start_end.Damaged s wakes known h = stage-turned_away v status.Damaged s h
    stage-activated v start_end.Stop s wakes known h = stage-crashed s h
