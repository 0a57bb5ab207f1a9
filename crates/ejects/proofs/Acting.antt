-- A turn of a process, whole, by its effect.
use Rattle.std.proofs.Common.{◌≡◌, ℕ, Bool, true, false, cond, List, [], ◌∷◌, ◌++◌, Option, None, Some, refl, sym, ◌∙◌, ap, subst}
use Rattle.std.specs.Prelude.{is_some, IsSomeAnd, IfSome, filter_map}
use Rattle.std.specs.List.{AllByRecursion}
use Rattle.std.specs.Option.{option_map}
use Rattle.std.specs.Ordering.{nat_cmp, eq_by_cmp}
use Rattle.capability.specs.declared.Uid.{Uid}
use Rattle.capability.specs.declared.Cap.{Cap}
use Rattle.eden_value.specs.Datum.{Datum}
use Rattle.eden_value.specs.declared.status.Status.{Status}
use Rattle.eden_model.specs.Map.{value_at, uid_cmp, with_item}
use Rattle.capability.proofs.Uids.{uid_cmp-IsAntisymmetric}
use Rattle.eden_model.proofs.Laws.{eq-same}
use Rattle.eden_model.specs.Lines.{has, Distinct}
use Rattle.eden_model.specs.Crew.{Invocation, Process as Worker, nothing, outside, set_waits, Runs, running, call_of}
use Rattle.eden_model.specs.declared.Asker.TheVariants.{Eject as Process}
use Rattle.eden_model.specs.Traffic as traffic
use Rattle.eden_model.specs.Traffic.{Traffic, held, call_at, next_call, with_call}
use Rattle.epl_syntax.specs.declared.effect.Effect.{Effect}
use Rattle.epl_syntax.specs.declared.effect.Effect.TheVariants as effect
use Rattle.epl_syntax.specs.declared.effect.FaultCause.{FaultCause}
use Rattle.eden_codec.specs.Spelling.{spelling}
use Rattle.epl_syntax.specs.Meaning.{Turned, turn, rep_of}
use Rattle.locator.specs.Reach.{Stations, reaches}
use Rattle.invocation.specs.Mail.{Mail}
use Rattle.invocation.specs.Carries.{Carries}
use Rattle.invocation.proofs.CarriesLaws.{next-number, next-is-none, held-not-sent}
use Rattle.journal.specs.declared.event.Event.TheVariants as event
use Rattle.journal.specs.declared.event.Shown.{Shown}
use Rattle.journal.specs.declared.event.Shown.TheVariants as shown
use Rattle.journal.specs.World.{Site, Task}
use Rattle.journal.specs.Processes.{turn_of, refused_at_once, process_turn, shown_of, CreatesKnown}
use Rattle.journal.specs.Step.{AllowsAt}
use Rattle.journal.specs.FitTurns.{MayStep, TurnsAreFit}
use Rattle.journal.specs.Sites.{IsSoundSite, IsManned, IsHeldAt, runs_of}
use Rattle.active_part.specs.Body.{Body, active_of, calls_of}
use Rattle.ejects.specs.Turned.{shown_step}
use Rattle.ejects.specs.Parts.{Parts, SameNode, known, body_at, Stands, IsAt, IsStep}
use Rattle.active_part.specs.Bodies.{turned_body, ended_body, asking_body, crewed_body, serves_of}
use Rattle.active_part.specs.View.{effect_of, stepped, MayTake}
use Rattle.active_part.specs.declared.Step.{Step}
use Rattle.active_part.specs.declared.Step.TheVariants.{Lock, Leave, Wait, Signal}
use Rattle.ejects.specs.View.{with_body}
use Rattle.ejects.specs.Passive.{SameAt, HoldsPassive, IsKeptIn}
use Rattle.ejects.specs.Replies.{IsOut, AreOut, Returned, Faulted, Slept, Reaches, Invoked}
use Rattle.ejects.proofs.Delivered.{active-as, found-active, body-now, table-at, table-other}
use Rattle.ejects.proofs.Starting.{HoldsAll, holds-all}
use Rattle.ejects.proofs.Turns.{returns-stands, returns-traffic, ends-stands, ends-traffic, steps-stands, steps-traffic}
use Rattle.ejects.proofs.Turns.{yields-stands, yields-traffic}
use Rattle.ejects.proofs.Turns.{invokes-stands, invokes-traffic}
use Rattle.ejects.specs.Asking.{checkpointed_body}
use Rattle.ejects.proofs.Storing.{destroys-stands, destroys-traffic, checkpoints-stands, checkpoints-traffic}
use Rattle.ejects.proofs.Drops.{fault-stands, fault-traffic, sleeps-stands, sleeps-traffic}

-- 1. Parts with the same look-ups

pub stands-alike : (n new : Parts) (s : Site) → SameNode n new → ((v : Uid) → SameAt n new v) → Stands n s → Stands new s
stands-alike n new s node same h = record {
  number = h.number ∙ sym node.number;
  types = h.types ∙ sym node.types;
  epoch = h.epoch ∙ sym node.epoch;
  serial = h.serial ∙ sym node.last_serial;
  ejects = λ u. h.ejects u ∙ rw ((same u).standing, (same u).waiting) refl;
  classes = λ u. rw (same u).standing (h.classes u);
}

pub stands-twice : (n : Parts) (s : Site) (u : Uid) (x y : Body) → Stands (with_body u y n) s → Stands (with_body u y (with_body u x n)) s
stands-twice n s u x y h = stands-alike (with_body u y n) (with_body u y (with_body u x n)) s
    (record { number = refl; types = refl; epoch = refl; last_serial = refl }) (λ v. go v (eq_by_cmp uid_cmp v u) refl) h
  where
    go : (v : Uid) (b : Bool) → eq_by_cmp uid_cmp v u ≡ b → SameAt (with_body u y n) (with_body u y (with_body u x n)) v
    go v true is = let same : v ≡ u = eq-same uid_cmp uid_cmp-IsAntisymmetric v u is in
        record { standing = rw same (table-at (with_body u x n) u (Some y) ∙ sym (table-at n u (Some y))); waiting = refl }
    go v false is = record {
      standing = table-other (with_body u x n) u v (Some y) is ∙ table-other n u v (Some x) is ∙ sym
          (table-other n u v (Some y) is);
      waiting = refl;
    }

-- 2. The turn that a process has

pub record HasTurn (u : Uid) (p : ℕ) (b : Body) : Type 0 where
  pub worker : Worker
  pub is_worker : value_at nat_cmp p b.crew.crew.processes ≡ Some worker
  pub ready : worker.waits ≡ nothing
  pub turn : Turned
  pub is_turn : turn_of u (active_of b) p ≡ Some turn

has-turn : (u : Uid) (p : ℕ) (b : Body) → IsManned (active_of b) → Runs b.crew.crew p → HasTurn u p b
has-turn u p b manned runs = go (value_at nat_cmp p b.crew.crew.processes) refl runs
  where
    on : (q : Worker) → value_at nat_cmp p b.crew.crew.processes ≡ Some q → q.waits ≡ nothing → (o : Option Task)
        → value_at nat_cmp p b.tasks ≡ o → is_some o ≡ true → HasTurn u p b
    on q is ready None at there = absurd (let bad : false ≡ true = there in cc bad)
    on q is ready (Some t) at there = record {
      worker = q;
      is_worker = is;
      ready = ready;
      turn = turn b.kind b.vars t.rest t.answer u;
      is_turn = rw at refl;
    }

    go : (o : Option Worker) → value_at nat_cmp p b.crew.crew.processes ≡ o → option_map (λ (it : Worker). it.waits) o ≡ Some nothing
        → HasTurn u p b
    go None is waits = absurd (cc waits)
    go (Some q) is waits = on q is (cc waits) (value_at nat_cmp p b.tasks) refl (manned.tasked p (ap is_some is))

pub manned-body : (n : Parts) (s : Site) (u : Uid) (b : Body) → IsSoundSite s → Stands n s → body_at n u ≡ Some b → IsManned (active_of b)
manned-body n s u b sound h at =
    let f = found-active n s u b h at in
    let was = active-as n u b f.eject (ap known (sym f.is) ∙ h.ejects u) at in
    subst (λ o. IfSome o IsManned) was.active (sound.node.manned u f.eject f.is)

pub turn-allowed : (n : Parts) (s : Site) (u : Uid) (p : ℕ) (b : Body) (said : Shown) (h : Stands n s) → body_at n u ≡ Some b
    → (t : HasTurn u p b) → CreatesKnown s.types t.turn.effect → said ≡ shown_of s (serves_of b p) t.turn.effect
    → AllowsAt s (event.Process u p said)
turn-allowed n s u p b said h at t created shows =
    let f = found-active n s u b h at in
    let was = active-as n u b f.eject (ap known (sym f.is) ∙ h.ejects u) at in
    let serves : serves_of b p ≡ t.worker.serves = ap (λ o. with_item o (λ q. q.serves) None) t.is_worker in
    rw (f.is, was.active, t.is_worker) (record {
      ready = t.ready;
      known = rw t.is_turn created;
      shows = rw t.is_turn (shows ∙ ap (λ i. shown_of s i t.turn.effect) serves);
    })

-- the type of which the turn creates an Eject, if it creates one, is there
pub may-create : (n : Parts) (s : Site) (u : Uid) (p : ℕ) (b : Body) (h : Stands n s) → body_at n u ≡ Some b → TurnsAreFit s
    → (t : HasTurn u p b) → CreatesKnown s.types t.turn.effect
may-create n s u p b h at fit t =
    let f = found-active n s u b h at in
    let was = active-as n u b f.eject (ap known (sym f.is) ∙ h.ejects u) at in
    fit.known u f.eject (active_of b) p t.turn f.is was.active t.is_turn

-- the step in which the turn ends, if it ends in one, is one that the process may take
may-step : (n : Parts) (s : Site) (u : Uid) (p : ℕ) (b : Body) (h : Stands n s) → body_at n u ≡ Some b → TurnsAreFit s
    → Runs b.crew.crew p → (t : HasTurn u p b) → MayStep b.crew.crew p t.turn.effect
may-step n s u p b h at fit runs t =
    let f = found-active n s u b h at in
    let was = active-as n u b f.eject (ap known (sym f.is) ∙ h.ejects u) at in
    fit.steps u f.eject (active_of b) p t.turn f.is was.active runs t.is_turn

-- 3. What runs is on no way

serves-run : (P : ℕ → Type 0) (p : ℕ) (i : Invocation) (ps : List (ℕ × Worker))
    → with_item (value_at nat_cmp p ps) (λ q. q.serves) None ≡ Some i → AllByRecursion P (filter_map call_of ps) → P i.call
serves-run P p i [] is all = absurd (cc is)
serves-run P p i (e ∷ ps) is all = go (eq_by_cmp nat_cmp p e.0) refl is (e.1).serves refl all (λ is all. serves-run P p i ps is all)
  where
    go : (b : Bool) → eq_by_cmp nat_cmp p e.0 ≡ b → with_item (value_at nat_cmp p (e ∷ ps)) (λ q. q.serves) None ≡ Some i
        → (o : Option Invocation) → (e.1).serves ≡ o → AllByRecursion P (filter_map call_of (e ∷ ps))
        → (with_item (value_at nat_cmp p ps) (λ q. q.serves) None ≡ Some i → AllByRecursion P (filter_map call_of ps) → P i.call) → P i.call
    go true at is None serves all later = absurd (let here : (e.1).serves ≡ Some i = rw at at is in
        let bad : None ≡ Some i = sym serves ∙ here in cc bad)
    go true at is (Some j) serves all later =
        let here : (e.1).serves ≡ Some i = rw at at is in
        let both : Some j ≡ Some i = sym serves ∙ here in
        let same : j ≡ i = cc both in
        let first = rw serves at all in
        subst (λ (x : Invocation). P x.call) same first.0
    go false at is None serves all later = later (rw at at is) (rw serves at all)
    go false at is (Some j) serves all later = let both = rw serves at all in later (rw at at is) both.1

pub held-out : (m : Mail) (t : Traffic) (u : Uid) (k : ℕ) → Carries m t → IsHeldAt t u k → has k t.transit ≡ false
held-out m t u k carries h = go (call_at t k) refl h
  where
    go : (o : Option traffic.Call) → call_at t k ≡ o → IsSomeAnd o (λ c. (c.place ≡ held) × (c.target.uid ≡ u)) → has k t.transit ≡ false
    go None is h = absurd h
    go (Some c) is h = held-not-sent m t carries k c is h.0

pub held-all-out : (m : Mail) (t : Traffic) (u : Uid) (ks : List ℕ) → Carries m t → AllByRecursion (IsHeldAt t u) ks → AreOut t ks
held-all-out m t u [] carries h = tt
held-all-out m t u (k ∷ ks) carries h = (held-out m t u k carries h.0, held-all-out m t u ks carries h.1)

serves-out : (m : Mail) (t : Traffic) (u : Uid) (p : ℕ) (b : Body) → Carries m t → HoldsAll t u b → IsOut (serves_of b p) t
serves-out m t u p b carries all = go (serves_of b p) refl
  where
    go : (o : Option Invocation) → serves_of b p ≡ o → IsOut o t
    go None is = tt
    go (Some i) is = held-out m t u i.call carries (serves-run (IsHeldAt t u) p i b.crew.crew.processes is all.running_)

-- the calls that run and those that are queued are distinct
pub distinct-body : (n : Parts) (s : Site) (u : Uid) (b : Body) → IsSoundSite s → Stands n s → body_at n u ≡ Some b
    → Distinct (running b.crew.crew ++ calls_of b.crew.queued)
distinct-body n s u b sound h at =
    let f = found-active n s u b h at in
    let was = active-as n u b f.eject (ap known (sym f.is) ∙ h.ejects u) at in
    subst Distinct (λ i. runs_of (was.active i) ++ was.queued i) (sound.ejects u f.eject f.is).once

holds-back : (n new : Parts) (u : Uid) (x : Body) (queued : List ℕ) (stays : Bool) → HoldsPassive u (with_body u x n) new queued stays
    → HoldsPassive u n new queued stays
holds-back n new u x queued stays h = record {
  only = record {
    node = record {
      number = h.only.node.number;
      types = h.only.node.types;
      epoch = h.only.node.epoch;
      last_serial = h.only.node.last_serial;
    };
    others =
        λ v other. record {
          standing = (h.only.others v other).standing ∙ table-other n u v (Some x) other;
          waiting = (h.only.others v other).waiting;
        };
  };
  none = h.none;
  queue = h.queue;
  there = h.there;
}

-- 4. The effects

module _ (reach : ℕ → Bool) (n mid new : Parts) (m later : Mail) (s : Site) (u : Uid) (p : ℕ) (said : Shown) (sound : IsSoundSite s)
    (at : IsAt n m s) where
  module _ (b : Body) (is : body_at n u ≡ Some b) (t : HasTurn u p b) (turned : mid ≡ with_body u (turned_body p t.turn b) n) where
    pub mid-body : body_at mid u ≡ Some (turned_body p t.turn b)
    mid-body = ap (λ x. body_at x u) turned ∙ body-now n u (turned_body p t.turn b)

    return-step : (results : List Datum) → effect.Return results ≡ t.turn.effect
        → Returned u p results (turned_body p t.turn b) mid new m later said → IsStep reach new later s (event.Process u p said)
    return-step results same r = record {
      allowed = turn-allowed n s u p b said at.parts is t (subst (CreatesKnown s.types) same tt)
          (r.shown ∙ ap (shown_of s (serves_of b p)) same);
      is_at = record {
        parts = subst (λ y. Stands y (process_turn reach u p s))
            (sym (r.parts ∙ ap (with_body u (ended_body p (turned_body p t.turn b))) turned))
            (stands-twice n (process_turn reach u p s) u (turned_body p t.turn b) (ended_body p (turned_body p t.turn b))
            (returns-stands n s u p b at.parts is reach t.turn t.is_turn results (sym same)));
        calls = subst (Carries later) (sym (returns-traffic n s u p b at.parts is reach t.turn t.is_turn results (sym same)))
            (r.calls s.traffic at.calls (serves-out m s.traffic u p b at.calls (holds-all n s u b sound at.parts is)));
      };
    }

    invoke-step : (places : Stations) (target : Cap) (operation : List ℕ) (args : List Datum) → Reaches reach places u.node
        → effect.Invoke target operation args ≡ t.turn.effect
        → Invoked places u p target operation args (turned_body p t.turn b) mid new m later said
        → IsStep reach new later s (event.Process u p said)
    invoke-step places target operation args reached same r = record {
      allowed = turn-allowed n s u p b said at.parts is t (subst (CreatesKnown s.types) same tt)
          (r.shown ∙ ap (λ k. shown.Invoke k) (sym (next-number m s.traffic at.calls)) ∙ ap (shown_of s (serves_of b p)) same);
      is_at = record {
        parts = subst (λ y. Stands y (process_turn reach u p s))
            (sym (r.parts ∙ ap (with_body u (asking_body p at_once (turned_body p t.turn b))) turned))
            (stands-twice n (process_turn reach u p s) u (turned_body p t.turn b) (asking_body p at_once (turned_body p t.turn b))
            (invokes-stands n s u p b at.parts is reach t.turn t.is_turn target operation args at_once (sym same) once
            (next-is-none m s.traffic at.calls)));
        calls = subst (Carries later) (sym (invokes-traffic n s u p b at.parts is reach t.turn t.is_turn target operation args at_once
            (sym same) once))
            (subst (λ k. Carries later (with_call k (Process u p) target operation args at_once s.traffic))
            (sym (next-number m s.traffic at.calls)) (r.calls s.traffic at.calls));
      };
    }
      where
        at_once : Option Status
        at_once = refused_at_once (reaches places u.node target.uid.node) args

        once : at_once ≡ refused_at_once (reach target.uid.node) args
        once = ap (λ x. refused_at_once x args) (sym (reached.at target.uid.node))

    fault-step : (cause : FaultCause) (stays : Bool) → IsKeptIn s u stays → said ≡ shown.Fault cause → effect.Fault cause ≡ t.turn.effect
        → Faulted u stays (turned_body p t.turn b) mid new m later → IsStep reach new later s (event.Process u p said)
    fault-step cause stays kept told same r = record {
      allowed = turn-allowed n s u p b said at.parts is t (subst (CreatesKnown s.types) same tt)
          (told ∙ ap (shown_of s (serves_of b p)) same);
      is_at = record {
        parts = fault-stands n s u p b stays at.parts is kept reach t.turn t.is_turn new cause (sym same)
            (holds-back n new u (turned_body p t.turn b) [] stays (subst (λ y. HoldsPassive u y new [] stays) turned r.parts));
        calls = subst (Carries later) (sym (fault-traffic n s u p b stays at.parts is kept reach t.turn t.is_turn cause (sym same)))
            (r.calls s.traffic at.calls (held-all-out m s.traffic u (running b.crew.crew) at.calls all.running_)
            (held-all-out m s.traffic u (calls_of b.crew.queued) at.calls all.queued) (distinct-body n s u b sound at.parts is));
      };
    }
      where
        all : HoldsAll s.traffic u b
        all = holds-all n s u b sound at.parts is

    sleep-step : (stays : Bool) → IsKeptIn s u stays → said ≡ shown.Deactivate → effect.Deactivate ≡ t.turn.effect
        → Slept u stays (turned_body p t.turn b) mid new m later → IsStep reach new later s (event.Process u p said)
    sleep-step stays kept told same r = record {
      allowed = turn-allowed n s u p b said at.parts is t (subst (CreatesKnown s.types) same tt)
          (told ∙ ap (shown_of s (serves_of b p)) same);
      is_at = record {
        parts = sleeps-stands n s u p b stays at.parts is kept reach t.turn t.is_turn new (sym same)
            (holds-back n new u (turned_body p t.turn b) (cond stays (calls_of b.crew.queued) []) stays
            (subst (λ y. HoldsPassive u y new (cond stays (calls_of b.crew.queued) []) stays) turned r.parts));
        calls = subst (Carries later) (sym (sleeps-traffic n s u p b stays at.parts is kept reach t.turn t.is_turn (sym same)))
            (r.calls s.traffic at.calls (held-all-out m s.traffic u (running b.crew.crew) at.calls all.running_)
            (held-all-out m s.traffic u (calls_of b.crew.queued) at.calls all.queued) (distinct-body n s u b sound at.parts is));
      };
    }
      where
        all : HoldsAll s.traffic u b
        all = holds-all n s u b sound at.parts is

    -- another body stands, and the calls are as they were
    body-step : (e : Effect) (x : Body) → CreatesKnown s.types e → said ≡ shown_of s (serves_of b p) e → e ≡ t.turn.effect
        → new ≡ with_body u x mid
        → Stands (with_body u x n) (process_turn reach u p s) → (process_turn reach u p s).traffic ≡ s.traffic → Carries later s.traffic
        → IsStep reach new later s (event.Process u p said)
    body-step e x created told same is_new stands quiet carries = record {
      allowed = turn-allowed n s u p b said at.parts is t (subst (CreatesKnown s.types) same created)
          (told ∙ ap (shown_of s (serves_of b p)) same);
      is_at = record {
        parts = subst (λ y. Stands y (process_turn reach u p s)) (sym (is_new ∙ ap (with_body u x) turned))
            (stands-twice n (process_turn reach u p s) u (turned_body p t.turn b) x stands);
        calls = subst (Carries later) (sym quiet) carries;
      };
    }

    yield-step : said ≡ shown.Yield → effect.Yield ≡ t.turn.effect → new ≡ mid → Carries later s.traffic
        → IsStep reach new later s (event.Process u p said)
    yield-step told same is_new carries = record {
      allowed = turn-allowed n s u p b said at.parts is t (subst (CreatesKnown s.types) same tt)
          (told ∙ ap (shown_of s (serves_of b p)) same);
      is_at = record {
        parts = subst (λ y. Stands y (process_turn reach u p s)) (sym (is_new ∙ turned))
            (yields-stands n s u p b at.parts is reach t.turn t.is_turn (sym same));
        calls = subst (Carries later) (sym (yields-traffic n s u p b at.parts is reach t.turn t.is_turn (sym same))) carries;
      };
    }

  -- in the words of the contracts
  abbrev pub TurnedBy : Effect → Type 0
  TurnedBy e = (b : Body) (t : Turned) → body_at n u ≡ Some b → turn_of u (active_of b) p ≡ Some t → (e ≡ t.effect)
      × (mid ≡ with_body u (turned_body p t b) n)

  pub by-body : (e : Effect) → IsSomeAnd (body_at n u) (λ b. Runs b.crew.crew p) → TurnedBy e
      → ((b : Body) (is : body_at n u ≡ Some b) (t : HasTurn u p b) → mid ≡ with_body u (turned_body p t.turn b) n → e ≡ t.turn.effect
      → IsStep reach new later s (event.Process u p said)) → IsStep reach new later s (event.Process u p said)
  by-body e runs turned step = go (body_at n u) refl runs
    where
      go : (o : Option Body) → body_at n u ≡ o → IsSomeAnd o (λ b. Runs b.crew.crew p) → IsStep reach new later s (event.Process u p said)
      go None is runs = absurd runs
      go (Some b) is runs =
          let t = has-turn u p b (manned-body n s u b sound at.parts is) runs in
          let r = turned b t.turn is t.is_turn in
          step b is t r.1 r.0

  pub process-returns : (e : Effect) (results : List Datum) → IsSomeAnd (body_at n u) (λ b. Runs b.crew.crew p) → TurnedBy e
      → e ≡ effect.Return results
      → ((b : Body) → body_at mid u ≡ Some b → Returned u p results b mid new m later said)
      → IsStep reach new later s (event.Process u p said)
  process-returns e results runs turned is_return returned = by-body e runs turned
      (λ b is t mid_is same. return-step b is t mid_is results (sym is_return ∙ same)
      (returned (turned_body p t.turn b) (mid-body b is t mid_is)))

  pub process-invokes : (places : Stations) (e : Effect) (target : Cap) (operation : List ℕ) (args : List Datum)
      → Reaches reach places u.node → IsSomeAnd (body_at n u) (λ b. Runs b.crew.crew p) → TurnedBy e
      → e ≡ effect.Invoke target operation args
      → ((b : Body) → body_at mid u ≡ Some b → Invoked places u p target operation args b mid new m later said)
      → IsStep reach new later s (event.Process u p said)
  process-invokes places e target operation args reached runs turned is_invoke invoked =
      by-body e runs turned (λ b is t mid_is same. invoke-step b is t mid_is places target operation args reached (sym is_invoke ∙ same)
      (invoked (turned_body p t.turn b) (mid-body b is t mid_is)))

  pub process-faults : (e : Effect) (cause : FaultCause) (stays : Bool) → IsKeptIn s u stays → said ≡ shown.Fault cause
      → IsSomeAnd (body_at n u) (λ b. Runs b.crew.crew p) → TurnedBy e → e ≡ effect.Fault cause
      → ((b : Body) → body_at mid u ≡ Some b → Faulted u stays b mid new m later) → IsStep reach new later s (event.Process u p said)
  process-faults e cause stays kept told runs turned is_fault faulted =
      by-body e runs turned (λ b is t mid_is same. fault-step b is t mid_is cause stays kept told (sym is_fault ∙ same)
      (faulted (turned_body p t.turn b) (mid-body b is t mid_is)))

  pub process-sleeps : (e : Effect) (stays : Bool) → IsKeptIn s u stays → said ≡ shown.Deactivate
      → IsSomeAnd (body_at n u) (λ b. Runs b.crew.crew p)
      → TurnedBy e → e ≡ effect.Deactivate → ((b : Body) → body_at mid u ≡ Some b → Slept u stays b mid new m later)
      → IsStep reach new later s (event.Process u p said)
  process-sleeps e stays kept told runs turned is_sleep slept_now = by-body e runs turned
      (λ b is t mid_is same. sleep-step b is t mid_is stays kept told (sym is_sleep ∙ same)
      (slept_now (turned_body p t.turn b) (mid-body b is t mid_is)))

  pub process-ends : (e : Effect) → said ≡ shown.End → IsSomeAnd (body_at n u) (λ b. Runs b.crew.crew p) → TurnedBy e → e ≡ effect.End
      → ((b : Body) → body_at mid u ≡ Some b → new ≡ with_body u (ended_body p b) mid) → Carries later s.traffic
      → IsStep reach new later s (event.Process u p said)
  process-ends e told runs turned is_end ended carries = by-body e runs turned
      (λ b is t mid_is same. body-step b is t mid_is effect.End (ended_body p (turned_body p t.turn b)) tt told (sym is_end ∙ same)
      (ended (turned_body p t.turn b) (mid-body b is t mid_is))
      (ends-stands n s u p b at.parts is reach t.turn t.is_turn (sym (sym is_end ∙ same)))
      (ends-traffic n s u p b at.parts is reach t.turn t.is_turn (sym (sym is_end ∙ same))) carries)

  step-known : (step : Step) → CreatesKnown s.types (effect_of step)
  step-known (Lock k) = tt
  step-known (Leave k) = tt
  step-known (Wait k) = tt
  step-known (Signal k) = tt

  step-shown : (step : Step) (b : Body) → shown_step step ≡ shown_of s (serves_of b p) (effect_of step)
  step-shown (Lock k) b = refl
  step-shown (Leave k) b = refl
  step-shown (Wait k) b = refl
  step-shown (Signal k) b = refl

  pub process-steps : (e : Effect) (step : Step) → said ≡ shown_step step → IsSomeAnd (body_at n u) (λ b. Runs b.crew.crew p) → TurnedBy e
      → e ≡ effect_of step → ((b : Body) → body_at mid u ≡ Some b → MayTake b.crew.crew p step
      → new ≡ with_body u (crewed_body (stepped step p) b) mid)
      → Carries later s.traffic → TurnsAreFit s
      → IsStep reach new later s (event.Process u p said)
  process-steps e step told runs turned is_step took carries fit = by-body e runs turned
      (λ b is t mid_is same. body-step b is t mid_is (effect_of step) (crewed_body (stepped step p) (turned_body p t.turn b))
      (step-known step)
      (told ∙ step-shown step b) (sym is_step ∙ same) (took (turned_body p t.turn b) (mid-body b is t mid_is)
      (subst (MayStep b.crew.crew p) (sym (sym is_step ∙ same)) (may-step n s u p b at.parts is fit
      (subst (λ o. IsSomeAnd o (λ x. Runs x.crew.crew p)) is runs) t)))
      (steps-stands n s u p b at.parts is reach t.turn t.is_turn step (sym (sym is_step ∙ same)))
      (steps-traffic n s u p b at.parts is reach t.turn t.is_turn step (sym (sym is_step ∙ same))) carries)

  pub process-yields : (e : Effect) → said ≡ shown.Yield → IsSomeAnd (body_at n u) (λ b. Runs b.crew.crew p) → TurnedBy e → e ≡ effect.Yield
      → new ≡ mid → Carries later s.traffic → IsStep reach new later s (event.Process u p said)
  process-yields e told runs turned is_yield same_parts carries = by-body e runs turned
      (λ b is t mid_is same. yield-step b is t mid_is told (sym is_yield ∙ same) same_parts carries)

  -- it asks the store, and waits for it; the request itself is the store's side of the turn
  pub process-destroys : (e : Effect) → said ≡ shown.Destroy → IsSomeAnd (body_at n u) (λ b. Runs b.crew.crew p) → TurnedBy e
      → e ≡ effect.Destroy → ((b : Body) → body_at mid u ≡ Some b → new ≡ with_body u (crewed_body (set_waits p outside) b) mid)
      → Carries later s.traffic → IsStep reach new later s (event.Process u p said)
  process-destroys e told runs turned is_destroy waits carries = by-body e runs turned
      (λ b is t mid_is same. body-step b is t mid_is effect.Destroy (crewed_body (set_waits p outside) (turned_body p t.turn b)) tt
      told (sym is_destroy ∙ same) (waits (turned_body p t.turn b) (mid-body b is t mid_is))
      (destroys-stands n s u p b at.parts is reach t.turn t.is_turn (sym (sym is_destroy ∙ same)))
      (destroys-traffic n s u p b at.parts is reach t.turn t.is_turn (sym (sym is_destroy ∙ same))) carries)

  pub process-checkpoints : (e : Effect) → said ≡ shown.Checkpoint → IsSomeAnd (body_at n u) (λ b. Runs b.crew.crew p) → TurnedBy e
      → e ≡ effect.Checkpoint
      → ((b : Body) → body_at mid u ≡ Some b → new ≡ with_body u (checkpointed_body p (spelling (rep_of b.kind b.vars)) b) mid)
      → Carries later s.traffic → IsStep reach new later s (event.Process u p said)
  process-checkpoints e told runs turned is_checkpoint asks carries = by-body e runs turned
      (λ b is t mid_is same. body-step b is t mid_is effect.Checkpoint
      (checkpointed_body p (spelling (rep_of b.kind t.turn.vars)) (turned_body p t.turn b)) tt
      told (sym is_checkpoint ∙ same) (asks (turned_body p t.turn b) (mid-body b is t mid_is))
      (checkpoints-stands n s u p b at.parts is reach t.turn t.is_turn (sym (sym is_checkpoint ∙ same)))
      (checkpoints-traffic n s u p b at.parts is reach t.turn t.is_turn (sym (sym is_checkpoint ∙ same))) carries)

  -- what follows from the turn that the process takes
  pub by-turn : (e : Effect) (X : Type 0) → IsSomeAnd (body_at n u) (λ b. Runs b.crew.crew p) → TurnedBy e
      → ((b : Body) (is : body_at n u ≡ Some b) (t : Turned) → turn_of u (active_of b) p ≡ Some t
      → body_at mid u ≡ Some (turned_body p t b) → t.effect ≡ e → X) → X
  by-turn e X runs turned step = go (body_at n u) refl runs
    where
      go : (o : Option Body) → body_at n u ≡ o → IsSomeAnd o (λ b. Runs b.crew.crew p) → X
      go None is runs = absurd runs
      go (Some b) is runs =
          let t = has-turn u p b (manned-body n s u b sound at.parts is) runs in
          let r = turned b t.turn is t.is_turn in
          step b is t.turn t.is_turn (mid-body b is t r.1) (sym r.0)
