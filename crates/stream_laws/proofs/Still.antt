-- What a step leaves of a stage whose turn it is not: its values, and what is left to do of its process, are as they were, and the process
-- is told at most what was on its way to it.
use Rattle.std.proofs.Common.{◌≡◌, ◌⊎◌, inl, inr, ℕ, pos, Bool, true, List, [], ◌∷◌, Option, None, Some, is_some, refl, ap, sym, ◌∙◌, subst}
use Rattle.std.specs.Prelude.{IsSomeAnd, IfSome}
use Rattle.std.specs.Ordering.{nat_cmp}
use Rattle.capability.specs.declared.Uid.{Uid}
use Rattle.eden_value.specs.Datum.{Datum, number}
use Rattle.eden_value.specs.declared.status.Status.{Status}
use Rattle.eden_model.specs.Map.{with_item, value_at, uid_cmp}
use Rattle.eden_model.specs.Crew.{Process as Worker, Invocation}
use Rattle.eden_model.specs.declared.Asker.TheVariants.{Eject as Process}
use Rattle.eden_model.specs.Traffic.{Call, answered, call_at}
use Rattle.epl_syntax.specs.declared.effect.Answer.{Answer}
use Rattle.epl_syntax.specs.declared.effect.Answer.TheVariants.{Code, Reply as Told}
use Rattle.epl_syntax.specs.Edentype.{native as native_type}
use Rattle.epl_syntax.specs.Natives.{Stage, first_stage}
use Rattle.epl_syntax.specs.Meaning.{of_native, first_values}
use Rattle.journal.specs.EjectChange.{EjectChange, body, removal}
use Rattle.journal.specs.declared.command.Command.{Command}
use Rattle.journal.specs.declared.event.Event.{Event}
use Rattle.journal.specs.declared.event.Event.TheVariants as event
use Rattle.journal.specs.declared.event.Entry.{Entry}
use Rattle.journal.specs.declared.event.Shown.{Shown}
use Rattle.journal.specs.declared.event.StartEnd.{StartEnd}
use Rattle.passive_store.specs.declared.store.Pick.{Pick}
use Rattle.journal.specs.World.{World, Node, Eject, Active, Task, StoreRequest, node_at, eject_at}
use Rattle.journal.specs.Sites.{Everywhere, active_in}
use Rattle.journal.specs.Step.{Allows, next}
use Rattle.stream_laws.proofs.Items.{if-map}
use Rattle.stream_laws.proofs.Roles.{Role, IsLawful}
use Rattle.stream_laws.proofs.Stage.{IsTask, IsBusy, IsActive, IsBody, IsChange, AreChanges, IsClean, IsEject, IsStage}
use Rattle.stream_laws.proofs.StagedNodes.{kept_now, active_now, own-eject, Around, OnNode, node-next}

-- of an active part, if there was one, or else
abbrev pub Had : Option Active → (Active → Type 0) → Type 0 → Type 0
Had None P Q = Q
Had (Some it) P Q = P it

-- the number of a call, in place of its arguments
abbrev pub by_number : ℕ → List Datum
by_number k = number (pos k) ∷ []

module _ (w : World) (ev : Event) (u : Uid) where
  -- 1. What may come to a process of it
  pub record IsComing (st : Status) (results : List Datum) : Type 0 where
    pub number : ℕ
    pub call : Call
    pub process : ℕ
    pub at : call_at w.traffic number ≡ Some call
    pub opened : call.open_ ≡ true
    pub asker : call.asker ≡ Process u process
    pub place : call.place ≡ answered st results

  -- a process that was told one answer, or nothing, is told this one now
  pub data MayBeTold : Answer → Answer → Type 0 where
    as_before : (a : Answer) → MayBeTold a a
    a_code : (before : Answer) (s : Status) → MayBeTold before (Code s)
    no_results : (before : Answer) (s : Status) → MayBeTold before (Told s [])
    what_came : (before : Answer) (s : Status) (results : List Datum) → IsComing s results → MayBeTold before (Told s results)

  -- 2. Its process: it goes on, or starts in this very step
  pub record GoesOn (args : List Datum) (st : Stage) (a : Answer) : Type 0 where
    pub active : Active
    pub was : active_now w u ≡ Some active
    pub number : ℕ
    pub worker : Worker
    pub call : Invocation
    pub task : Task
    pub alone : active.crew.processes ≡ (number, worker) ∷ []
    pub serves : worker.serves ≡ Some call
    pub args_are : args ≡ by_number call.call
    pub has : value_at nat_cmp number active.tasks ≡ Some task
    pub rest : task.rest ≡ of_native st
    pub told : MayBeTold task.answer a

  pub record Begins (R : Role) (args : List Datum) (st : Stage) : Type 0 where
    pub number : ℕ
    pub process : ℕ
    pub call : Call
    pub event_is : ev ≡ event.Start number u process
    pub at : call_at w.traffic number ≡ Some call
    pub args_are : args ≡ by_number number
    pub stage : st ≡ first_stage R.kind call.operation call.args

  -- 3. As a role, of the same type
  abbrev pub still_role : Role → Role
  still_role R = record {
    kind = R.kind;
    Vars = λ kept vars. Had (active_now w u) (λ it. vars ≡ it.vars)
        ((eject_at w u ≡ None) × (vars ≡ first_values (native_type R.kind)));
    Filled = λ vars. Unit {0};
    Task = λ vars args st a. GoesOn args st a ⊎ Begins R args st;
    Said = λ kept args st results. Unit {0};
    Left = λ vars results. Unit {0};
    Asks = λ vars c op given. Unit {0};
    Comes = λ given st results. IsComing st results;
    Stored = λ vars. Unit {0};
    Idle = Had (active_now w u) (λ it. it.crew.processes ≡ []) (Unit {0});
    There = is_some (eject_at w u) ≡ true;
    Turns = ⊥;
    Wakes = ⊥;
    Born = eject_at w u ≡ None;
  }

  tells : (R : Role) (args : List Datum) (st : Stage) (a b : Answer) → ((before : Answer) → MayBeTold before b)
      → GoesOn args st a ⊎ Begins R args st → GoesOn args st b ⊎ Begins R args st
  tells R args st a b may (inr h) = inr h
  tells R args st a b may (inl h) = inl (record {
    active = h.active;
    was = h.was;
    number = h.number;
    worker = h.worker;
    call = h.call;
    task = h.task;
    alone = h.alone;
    serves = h.serves;
    args_are = h.args_are;
    has = h.has;
    rest = h.rest;
    told = may h.task.answer;
  })

  pub still-lawful : (R : Role) → IsLawful (still_role R)
  still-lawful R = record {
    kept_later = λ vars h. h;
    turn = λ t kept vars args st a h task fine. absurd t;
    told_code = λ vars args st a s h. tells R args st a (Code s) (λ before. a_code before s) h;
    told_reply = λ vars args st a c op given s results h k x. tells R args st a (Told s results)
        (λ before. what_came before s results x) h;
    told_nothing = λ vars args st a s h. tells R args st a (Told s []) (λ before. no_results before s) h;
    said_nothing = λ kept args s. tt;
    said_later = λ args s results h. tt;
    first = λ none. subst (λ o. Had (active_in o) (λ (it : Active). first_values (native_type R.kind) ≡ it.vars)
        ((eject_at w u ≡ None) × (first_values (native_type R.kind) ≡ first_values (native_type R.kind)))) (sym none) (none, refl);
    stored = λ vars h. tt;
    starts_again = λ wakes vars h f. absurd wakes;
    ended = λ t. absurd t;
    woken = λ wakes. absurd wakes;
    born = λ none. subst (λ o. Had (active_in o) (λ (it : Active). it.crew.processes ≡ []) (Unit {0})) (sym none) tt;
  }

  -- 4. Before the step a stage is so
  module _ (R : Role) (A : ℕ → List Datum) where
    abbrev S : Role
    S = still_role R

    k0 : Bool
    k0 = kept_now w u

    body-still : (bytes : List ℕ) → IsBody R u A (kept_now w u) bytes → IsBody S u by_number (kept_now w u) bytes
    body-still bytes b = record { values = b.values; holds = tt; filled = tt; spelled = b.spelled; reads = b.reads }

    change-still : (c : EjectChange) → IsChange R u A (kept_now w u) c → IsChange S u by_number (kept_now w u) c
    change-still (body bytes) b = body-still bytes b
    change-still removal b = b

    changes-still : (rs : List StoreRequest) → AreChanges R u A (kept_now w u) rs → AreChanges S u by_number (kept_now w u) rs
    changes-still [] h = tt
    changes-still (r ∷ rs) h = (λ same. change-still r.change (h.0 same), changes-still rs h.1)

    active-still : (kept : Bool) (it : Active) → active_now w u ≡ Some it → IsActive R u A (kept_now w u) kept it
        → IsActive S u by_number (kept_now w u) kept it
    active-still kept it was h = record {
      kind = h.kind;
      vars = subst (λ o. Had o (λ (x : Active). it.vars ≡ x.vars) ((eject_at w u ≡ None) × (it.vars ≡ first_values (native_type R.kind))))
          (sym was) refl;
      limits = h.limits;
      monitors = h.monitors;
      work = go h.work;
    }
      where
        busy : (b : IsBusy R u A (kept_now w u) kept it) (o : Option Task) → value_at nat_cmp b.number it.tasks ≡ o
            → IsSomeAnd o (IsTask R u A (kept_now w u) kept it.vars (A b.call.call))
            → IsSomeAnd o (IsTask S u by_number (kept_now w u) kept it.vars (by_number b.call.call))
        busy b None has h = h
        busy b (Some t) has h = record {
          stage = h.stage;
          rest = h.rest;
          keeps = inl (record {
            active = it;
            was = was;
            number = b.number;
            worker = b.worker;
            call = b.call;
            task = t;
            alone = b.alone;
            serves = b.serves;
            args_are = refl;
            has = has;
            rest = h.rest;
            told = as_before t.answer;
          });
          fine = h.fine;
        }

        go : ((it.crew.processes ≡ []) × R.Idle) ⊎ IsBusy R u A (kept_now w u) kept it
            → ((it.crew.processes ≡ []) × S.Idle) ⊎ IsBusy S u by_number (kept_now w u) kept it
        go (inl x) = inl (
          x.0,
          subst (λ o. Had o (λ (x : Active). x.crew.processes ≡ []) (Unit {0})) (sym was) x.0,
        )
        go (inr b) = inr (record {
          number = b.number;
          worker = b.worker;
          call = b.call;
          alone = b.alone;
          serves = b.serves;
          class = b.class;
          task = busy b (value_at nat_cmp b.number it.tasks) refl b.task;
        })

    eject-still : (rs : List StoreRequest) (e : Eject) → eject_at w u ≡ Some e → IsEject R u A (kept_now w u) rs e
        → IsEject S u by_number (kept_now w u) rs e
    eject-still rs e at h = record {
      active = active e.active refl h.active;
      filled = any e.active;
      kept = if-map e.kept (λ bytes b. body-still bytes b) h.kept;
      doubt = if-map e.doubt (λ c b. change-still c b) h.doubt;
      still = h.still;
    }
      where
        active : (o : Option Active) → e.active ≡ o → IfSome o (IsActive R u A (kept_now w u) (is_some e.kept))
            → IfSome o (IsActive S u by_number (kept_now w u) (is_some e.kept))
        active None is h = tt
        active (Some it) is h = active-still (is_some e.kept) it (ap active_in at ∙ is) h

        any : (o : Option Active) → IfSome o (λ it. Unit {0} ⊎ IsClean S u by_number (kept_now w u) rs e)
        any None = tt
        any (Some it) = inl tt

    pub nodes-still : (L : IsLawful R) → Everywhere (OnNode R L u A (kept_now w u)) w
        → Everywhere (OnNode S (still-lawful R) u by_number (kept_now w u)) w
    nodes-still L all n nd at here = record {
      requests = changes-still nd.requests h.requests;
      eject = go (value_at uid_cmp u nd.ejects) (own-eject w n nd u at here) h.eject;
      there = there;
    }
      where
        h : IsStage R u A (kept_now w u) nd.requests (value_at uid_cmp u nd.ejects)
        h = all n nd at here

        there : (kept_now w u ≡ true) ⊎ (is_some (eject_at w u) ≡ true) → is_some (value_at uid_cmp u nd.ejects) ≡ true
        there (inl x) = h.there (inl x)
        there (inr x) = ap is_some (sym (own-eject w n nd u at here)) ∙ x

        go : (o : Option Eject) → eject_at w u ≡ o → IfSome o (IsEject R u A (kept_now w u) nd.requests)
            → IfSome o (IsEject S u by_number (kept_now w u) nd.requests)
        go None is x = tt
        go (Some e) is x = eject-still nd.requests e is x

-- 5. Behind it
pub still-next : (R : Role) (L : IsLawful R) (u : Uid) (A : ℕ → List Datum) (H : ℕ → Bool) (w : World) (c : Option Command) (e : Entry)
    → Around R L u A H w c e.event → Allows w c e → ((p : ℕ) (said : Shown) → e.event ≡ event.Process u p said → ⊥)
    → ((how : StartEnd) (p : Option Pick) → e.event ≡ event.Activate u how p → ⊥) → Everywhere (OnNode R L u A (kept_now w u)) w
    → Everywhere (OnNode (still_role w e.event u R) (still-lawful w e.event u R) u by_number (kept_now w u)) (next w c e)
still-next R L u A H w c e x allowed no_turn asleep all = node-next (still_role w e.event u R)
    (still-lawful w e.event u R) u by_number H w c e.event
    (record {
      site = x.site;
      known = x.known;
      turns = no_turn;
      wakes = asleep;
      is_born = λ none. none;
      back = x.back;
      made_so = x.made_so;
      created_so = x.created_so;
      comes = λ vars k y p st results at opened asker place asks. record {
        number = k;
        call = y;
        process = p;
        at = at;
        opened = opened;
        asker = asker;
        place = place;
      };
      begins = λ k p y it is at to active vars. inr (record {
        number = k;
        process = p;
        call = y;
        event_is = is;
        at = at;
        args_are = refl;
        stage = refl;
      });
    }) (λ k d p it at opened asker active. tt) e refl allowed.event (nodes-still w e.event u R A L all)

-- what holds of its active part
pub active-of : (R : Role) (L : IsLawful R) (u : Uid) (A : ℕ → List Datum) (k0 : Bool) (v : World) → Everywhere (OnNode R L u A k0) v
    → (now : Active) → active_now v u ≡ Some now → (kept : Bool) × IsActive R u A k0 kept now
active-of R L u A k0 v all now is = go (node_at v u.node) refl is
  where
    eject : (nd : Node) (o : Option Eject) → IfSome o (IsEject R u A k0 nd.requests) → active_in o ≡ Some now
        → (kept : Bool) × IsActive R u A k0 kept now
    eject nd None h x = absurd (cc x)
    eject nd (Some y) h x = (is_some y.kept, subst (λ o. IfSome o (IsActive R u A k0 (is_some y.kept))) x h.active)

    go : (o : Option Node) → node_at v u.node ≡ o → active_in (with_item o (λ (it : Node). value_at uid_cmp u it.ejects) None) ≡ Some now
        → (kept : Bool) × IsActive R u A k0 kept now
    go None at x = absurd (cc x)
    go (Some nd) at x = eject nd (value_at uid_cmp u nd.ejects) (all u.node nd at refl).eject x
