-- The calls of a queue join an active part, or are answered, one after another.
use Rattle.std.proofs.Common.{◌≡◌, ℕ, suc, ◌+◌, Bool, true, false, cond, not, List, [], ◌∷◌, ◌++◌, map, drop, add-one}
use Rattle.std.proofs.Common.{Option, None, Some}
use Rattle.std.proofs.Common.{refl, sym, ◌∙◌, ap, subst}
use Rattle.std.specs.Prelude.{is_some, IsSomeAnd, Ok, Err}
use Rattle.std.specs.List.{AllByRecursion, filter}
use Rattle.std.specs.Option.{option_map}
use Rattle.std.specs.Ordering.{nat_cmp, eq_by_cmp}
use Rattle.std.specs.Cmp.{nat_cmp_total}
use Rattle.std.specs.FinMap.{nat_cmp-IsAntisymmetric}
use Rattle.capability.specs.declared.Uid.{Uid}
use Rattle.eden_value.specs.declared.status.Status.{Status}
use Rattle.eden_model.specs.Map.{with_item}
use Rattle.eden_model.specs.Lines.{has}
use Rattle.eden_model.specs.Crew.{Invocation}
use Rattle.eden_model.proofs.Laws.{value-changed_other}
use Rattle.eden_model.proofs.LineLaws.{or-left, or-right}
use Rattle.eden_model.proofs.Numbers.{same-comm}
use Rattle.eden_model.specs.Traffic as traffic
use Rattle.eden_model.specs.Traffic.{Traffic, answered, done, held, call_at, changed_call, at_place, sent, replied}
use Rattle.epl_syntax.specs.Edentype.{Edentype}
use Rattle.edentypes.specs.View.{fit_in}
use Rattle.invocation.specs.declared.call.Call.{Call}
use Rattle.invocation.specs.Mail.{Mail}
use Rattle.invocation.specs.Numbers.{item_in}
use Rattle.invocation.specs.Carries.{Carries}
use Rattle.invocation.proofs.CarriesLaws.{asked-call}
use Rattle.journal.specs.Deliveries.{misfit}
use Rattle.journal.specs.Processes.{class_of, invocation}
use Rattle.journal.specs.Sites.{IsHeldAt}
use Rattle.journal.specs.Starts.{fits_at, misfits_answered}
use Rattle.active_part.specs.Body.{Body, calls_of}
use Rattle.active_part.specs.Bodies.{joined_body}
use Rattle.ejects.specs.Activations.{fitting, queued_body, AreQueued, JoinsAll}
use Rattle.ejects.specs.Parts.{HasClass}
use Rattle.ejects.specs.View.{call_at_place}
use Rattle.ejects.proofs.Acting.{held-out}
use Rattle.ejects.proofs.Admitting.{fits-class, misfits-why}
use Rattle.ejects.proofs.KeptClasses.{Keeps}
use Rattle.ejects.proofs.Keeping.{keeps-same, keeps-both, keeps-replied}
use Rattle.ejects.proofs.Requested.{found-at-place}

-- 1. What an answer leaves of other calls

replied-other : (why : Status) (j k : ℕ) (t : Traffic) → eq_by_cmp nat_cmp j k ≡ false → call_at (replied why [] k t) j ≡ call_at t j
replied-other why j k t other = go (call_at t k)
  where
    on : (b : Bool) → call_at (cond b (sent k (answered why []) t) (changed_call k (at_place done) t)) j ≡ call_at t j
    on true = value-changed_other nat_cmp nat_cmp_total nat_cmp-IsAntisymmetric j k (at_place (answered why [])) t.calls other
    on false = value-changed_other nat_cmp nat_cmp_total nat_cmp-IsAntisymmetric j k (at_place done) t.calls other

    go : (o : Option traffic.Call)
        → call_at (with_item o (λ c. cond c.open_ (sent k (answered why []) t) (changed_call k (at_place done) t)) t) j ≡ call_at t j
    go None = refl
    go (Some c) = on c.open_

-- a call is answered where it does not fit
abbrev pub after_one : Edentype → ℕ → Traffic → Traffic
after_one kind k t = misfits_answered kind (k ∷ []) t

one-other : (kind : Edentype) (j k : ℕ) (t : Traffic) → eq_by_cmp nat_cmp j k ≡ false → call_at (after_one kind k t) j ≡ call_at t j
one-other kind j k t other = go (call_at t k)
  where
    on : (o : Option Status) → call_at (with_item o (λ why. replied why [] k t) t) j ≡ call_at t j
    on None = refl
    on (Some why) = replied-other why j k t other

    go : (o : Option traffic.Call)
        → call_at (with_item o (λ c. with_item (misfit kind c) (λ why. replied why [] k t) t) t) j ≡ call_at t j
    go None = refl
    go (Some c) = on (misfit kind c)

keeps-one : (kind : Edentype) (k : ℕ) (t : Traffic) → Keeps t (after_one kind k t)
keeps-one kind k t = go (call_at t k)
  where
    on : (o : Option Status) → Keeps t (with_item o (λ why. replied why [] k t) t)
    on None = keeps-same t t refl
    on (Some why) = keeps-replied why [] k t

    go : (o : Option traffic.Call) → Keeps t (with_item o (λ c. with_item (misfit kind c) (λ why. replied why [] k t) t) t)
    go None = keeps-same t t refl
    go (Some c) = on (misfit kind c)

pub keeps-misfits : (kind : Edentype) (ks : List ℕ) (t : Traffic) → Keeps t (misfits_answered kind ks t)
keeps-misfits kind [] t = keeps-same t t refl
keeps-misfits kind (k ∷ ks) t = keeps-both t (after_one kind k t) (misfits_answered kind ks (after_one kind k t)) (keeps-one kind k t)
    (keeps-misfits kind ks (after_one kind k t))

-- the same calls stand in both
abbrev pub SameCalls : Traffic → Traffic → List ℕ → Type 0
SameCalls t new ks = AllByRecursion (λ j. call_at new j ≡ call_at t j) ks

others-same : (kind : Edentype) (k : ℕ) (t : Traffic) (ks : List ℕ) → has k ks ≡ false → SameCalls t (after_one kind k t) ks
others-same kind k t [] none = tt
others-same kind k t (j ∷ js) none = (
  one-other kind j k t (same-comm j k ∙ or-left (eq_by_cmp nat_cmp k j) (has k js) none),
  others-same kind k t js (or-right (eq_by_cmp nat_cmp k j) (has k js) none),
)

held-same : (t new : Traffic) (u : Uid) (ks : List ℕ) → SameCalls t new ks → AllByRecursion (IsHeldAt t u) ks
    → AllByRecursion (IsHeldAt new u) ks
held-same t new u [] same h = tt
held-same t new u (j ∷ js) same h = (
  subst (λ o. IsSomeAnd o (λ c. (c.place ≡ held) × (c.target.uid ≡ u))) (sym same.0) h.0,
  held-same t new u js same.1 h.1,
)

-- 2. The invocations that fit

fitting-next : (kind : Edentype) (t : Traffic) (k : ℕ) (ks : List ℕ)
    → fitting kind t (k ∷ ks) ≡ cond (fits_at kind t k) (invocation kind t k ∷ fitting kind t ks) (fitting kind t ks)
fitting-next kind t k ks = go (fits_at kind t k)
  where
    go : (b : Bool) → map (invocation kind t) (cond b (k ∷ filter (fits_at kind t) ks) (filter (fits_at kind t) ks))
        ≡ cond b (invocation kind t k ∷ fitting kind t ks) (fitting kind t ks)
    go true = refl
    go false = refl

fitting-more : (kind : Edentype) (t : Traffic) (k : ℕ) (ks : List ℕ)
    → fitting kind t (k ∷ []) ++ fitting kind t ks ≡ fitting kind t (k ∷ ks)
fitting-more kind t k ks = ap (λ l. l ++ fitting kind t ks) (fitting-next kind t k []) ∙ go (fits_at kind t k)
    ∙ sym (fitting-next kind t k ks)
  where
    go : (b : Bool) → cond b (invocation kind t k ∷ []) [] ++ fitting kind t ks
        ≡ cond b (invocation kind t k ∷ fitting kind t ks) (fitting kind t ks)
    go true = refl
    go false = refl

fitting-same : (kind : Edentype) (t new : Traffic) (ks : List ℕ) → SameCalls t new ks → fitting kind new ks ≡ fitting kind t ks
fitting-same kind t new [] same = refl
fitting-same kind t new (k ∷ ks) same =
    fitting-next kind new k ks ∙ both (fitting-same kind t new ks same.1) ∙ sym (fitting-next kind t k ks)
  where
    both : fitting kind new ks ≡ fitting kind t ks
        → cond (fits_at kind new k) (invocation kind new k ∷ fitting kind new ks) (fitting kind new ks)
        ≡ cond (fits_at kind t k) (invocation kind t k ∷ fitting kind t ks) (fitting kind t ks)
    both rest = λ i. cond (with_item (same.0 i) (λ c. not (is_some (misfit kind c))) false)
        (record { call = k; class = with_item (same.0 i) (class_of kind) 0 } ∷ rest i) (rest i)

-- their calls are those that fit
pub fitting-calls : (kind : Edentype) (t : Traffic) (ks : List ℕ) → calls_of (fitting kind t ks) ≡ filter (fits_at kind t) ks
fitting-calls kind t ks = go (filter (fits_at kind t) ks)
  where
    go : (js : List ℕ) → calls_of (map (invocation kind t) js) ≡ js
    go [] = refl
    go (j ∷ js) = ap (λ l. j ∷ l) (go js)

-- each has the class of its call's operation
pub fitting-classes : (kind : Edentype) (t : Traffic) (u : Uid) (ks : List ℕ) → AllByRecursion (IsHeldAt t u) ks
    → AllByRecursion (HasClass t kind) (fitting kind t ks)
fitting-classes kind t u [] h = tt
fitting-classes kind t u (k ∷ ks) h = subst (AllByRecursion (HasClass t kind)) (sym (fitting-next kind t k ks))
    (go (fits_at kind t k) (fitting-classes kind t u ks h.1))
  where
    class : (o : Option traffic.Call) → IsSomeAnd o (λ c. (c.place ≡ held) × (c.target.uid ≡ u))
        → IsSomeAnd o (λ c. with_item o (class_of kind) 0 ≡ class_of kind c)
    class None x = absurd x
    class (Some c) x = refl

    go : (b : Bool) → AllByRecursion (HasClass t kind) (fitting kind t ks)
        → AllByRecursion (HasClass t kind) (cond b (invocation kind t k ∷ fitting kind t ks) (fitting kind t ks))
    go true rest = (class (call_at t k) h.0, rest)
    go false rest = rest

-- 3. A body with more invocations

queued-nothing : (b : Body) → queued_body [] b ≡ b
queued-nothing b = ap (λ l. record b { crew = record b.crew { queued = l } }) (append-nothing b.crew.queued)
  where
    append-nothing : (is : List Invocation) → is ++ [] ≡ is
    append-nothing [] = refl
    append-nothing (i ∷ is) = ap (λ l. i ∷ l) (append-nothing is)

queued-twice : (b : Body) (is js : List Invocation) → queued_body js (queued_body is b) ≡ queued_body (is ++ js) b
queued-twice b is js = ap (λ l. record b { crew = record b.crew { queued = l } }) (go b.crew.queued)
  where
    go : (ks : List Invocation) → (ks ++ is) ++ js ≡ ks ++ (is ++ js)
    go [] = refl
    go (k ∷ ks) = ap (λ l. k ∷ l) (go ks)

-- 4. One call

-- one that was never asked is in no such queue
pub joins-unasked : (b : Body) (k : ℕ) (m : Mail) → None ≡ item_in k m.calls → JoinsAll b b (k ∷ []) m m
joins-unasked b k m none t u carries queued = absurd (go (call_at t k) refl queued.held.0)
  where
    go : (o : Option traffic.Call) → call_at t k ≡ o → IsSomeAnd o (λ c. (c.place ≡ held) × (c.target.uid ≡ u)) → ⊥
    go None at is = is
    go (Some c) at is = let found = asked-call m t carries k c at in let bad : None ≡ Some found.call = none ∙ found.is in cc bad

module _ (b : Body) (k : ℕ) (x : Call) (m : Mail) (item : item_in k m.calls ≡ Some x) where
  found : (t : Traffic) (u : Uid) → Carries m t → IsHeldAt t u k → call_at t k ≡ Some (call_at_place held x)
  found t u carries h = found-at-place m t k x held carries item (go (call_at t k) h) refl
    where
      go : (o : Option traffic.Call) → IsSomeAnd o (λ c. (c.place ≡ held) × (c.target.uid ≡ u))
          → option_map (λ (c : traffic.Call). c.place) o ≡ Some held
      go None h = absurd h
      go (Some c) h = ap (λ place. Some place) h.0

  pub joins-fit : (new : Body) (class : ℕ) → Ok class ≡ fit_in b.kind x.target.rights x.operation x.args
      → new ≡ joined_body (record { call = k; class = class }) b → JoinsAll b new (k ∷ []) m m
  joins-fit new class fits joined t u carries queued =
      let at = found t u carries queued.held.0 in
      let fit = fits-class b.kind (call_at_place held x) class fits in
      record {
        body = joined ∙ ap (λ (is : List Invocation). queued_body is b) (invocations t at fit);
        calls = subst (Carries m) (sym (ap (λ o. with_item o (λ c. with_item (misfit b.kind c) (λ why. replied why [] k t) t) t) at
            ∙ ap (λ o. with_item o (λ why. replied why [] k t) t) fit.0)) carries;
      }
    where
      invocations : (t : Traffic) → call_at t k ≡ Some (call_at_place held x)
          → (misfit b.kind (call_at_place held x) ≡ None) × (class ≡ class_of b.kind (call_at_place held x))
          → ◌≡◌ {A = List Invocation} (record { call = k; class = class } ∷ []) (fitting b.kind t (k ∷ []))
      invocations t at fit = sym (fitting-next b.kind t k []
          ∙ ap (λ o. cond (with_item o (λ c. not (is_some (misfit b.kind c))) false)
          (record { call = k; class = with_item o (class_of b.kind) 0 } ∷ []) []) at
          ∙ (λ i. cond (not (is_some (fit.0 i))) (record { call = k; class = sym fit.1 i } ∷ []) []))

  pub joins-misfit : (later : Mail) (why : Status) → Err why ≡ fit_in b.kind x.target.rights x.operation x.args
      → ((t : Traffic) → Carries m t → has k t.transit ≡ false → Carries later (replied why [] k t)) → JoinsAll b b (k ∷ []) m later
  joins-misfit later why misfits reply t u carries queued =
      let at = found t u carries queued.held.0 in
      let misfit_is = misfits-why b.kind (call_at_place held x) why misfits in
      record {
        body = sym (ap (λ (is : List Invocation). queued_body is b) (fitting-next b.kind t k []
            ∙ ap (λ o. cond (with_item o (λ c. not (is_some (misfit b.kind c))) false)
            (record { call = k; class = with_item o (class_of b.kind) 0 } ∷ []) []) at
            ∙ ap (λ o. cond (not (is_some o)) (record { call = k; class = class_of b.kind (call_at_place held x) } ∷ []) []) misfit_is)
            ∙ queued-nothing b);
        calls = subst (Carries later) (sym (ap (λ o. with_item o (λ c. with_item (misfit b.kind c) (λ why. replied why [] k t) t) t) at
            ∙ ap (λ o. with_item o (λ why. replied why [] k t) t) misfit_is))
            (reply t carries (held-out m t u k carries queued.held.0));
      }

-- 5. All of them

-- these are left to join, from a traffic that the calls carry
pub record OnJoining (now : Mail) (first b : Body) (all left : List ℕ) (u : Uid) (t : Traffic) : Type 0 where
  pub later : Traffic
  pub carries : Carries now later
  pub queued : AreQueued later u left
  pub kind : b.kind ≡ first.kind
  pub calls : misfits_answered first.kind left later ≡ misfits_answered first.kind all t
  pub body : queued_body (fitting first.kind later left) b ≡ queued_body (fitting first.kind t all) first

abbrev pub IsJoining : Mail → Mail → Body → Body → List ℕ → List ℕ → Type 0
IsJoining old now first b all left = (t : Traffic) (u : Uid) → Carries old t → AreQueued t u all → OnJoining now first b all left u t

pub joining-start : (m : Mail) (b : Body) (all : List ℕ) → IsJoining m m b b all all
joining-start m b all t u carries queued =
    record { later = t; carries = carries; queued = queued; kind = refl; calls = refl; body = refl }

pub joining-on : (old mid new : Mail) (first b later : Body) (all : List ℕ) (k : ℕ) (left : List ℕ)
    → IsJoining old mid first b all (k ∷ left)
    → JoinsAll b later (k ∷ []) mid new → IsJoining old new first later all left
joining-on old mid new first b later all k left h one t u carries queued =
    let r = h t u carries queued in
    let j = one r.later u r.carries (record { held = (r.queued.held.0, tt); once = (refl, tt) }) in
    let same = others-same first.kind k r.later left r.queued.once.0 in
    record {
      later = after_one first.kind k r.later;
      carries = subst (λ kind. Carries new (after_one kind k r.later)) r.kind j.calls;
      queued = record {
        held = held-same r.later (after_one first.kind k r.later) u left same r.queued.held.1;
        once = r.queued.once.1;
      };
      kind = ap (λ (x : Body). x.kind) j.body ∙ r.kind;
      calls = r.calls;
      body = ap (λ (x : Body). queued_body (fitting first.kind (after_one first.kind k r.later) left) x)
          (j.body ∙ ap (λ kind. queued_body (fitting kind r.later (k ∷ [])) b) r.kind)
          ∙ queued-twice b (fitting first.kind r.later (k ∷ [])) (fitting first.kind (after_one first.kind k r.later) left)
          ∙ ap (λ (is : List Invocation). queued_body (fitting first.kind r.later (k ∷ []) ++ is) b)
          (fitting-same first.kind r.later (after_one first.kind k r.later) left same)
          ∙ ap (λ (is : List Invocation). queued_body is b) (fitting-more first.kind r.later k left)
          ∙ r.body;
    }

pub joining-at : (old mid new : Mail) (first b later : Body) (all : List ℕ) (i k : ℕ) → drop i all ≡ k ∷ drop (suc i) all
    → IsJoining old mid first b all (drop i all) → JoinsAll b later (k ∷ []) mid new → IsJoining old new first later all (drop (i + 1) all)
joining-at old mid new first b later all i k is h one =
    rw add-one (joining-on old mid new first b later all k (drop (suc i) all) (subst (IsJoining old mid first b all) is h) one)

pub joining-end : (old new : Mail) (first b : Body) (all : List ℕ) → IsJoining old new first b all [] → JoinsAll first b all old new
joining-end old new first b all h t u carries queued =
    let r = h t u carries queued in
    record {
      body = sym (queued-nothing b) ∙ r.body;
      calls = subst (Carries new) r.calls r.carries;
    }
