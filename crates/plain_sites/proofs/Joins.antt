-- The calls of a queue join an active part, or are answered, one after another.
use Rattle.std.proofs.Common.{◌≡◌, ◌∙◌, ℕ, Bool, true, false, cond, not, List, [], ◌∷◌, ◌++◌, map, Option, None, Some, refl, sym, ap}
use Rattle.std.proofs.Common.{append-nil, append_assoc, is_some}
use Rattle.std.specs.Cmp.{nat_cmp_total}
use Rattle.std.specs.FinMap.{nat_cmp-IsAntisymmetric}
use Rattle.std.specs.List.{filter}
use Rattle.std.specs.Option.{option_map}
use Rattle.std.specs.Ordering.{eq_by_cmp, nat_cmp}
use Rattle.eden_value.specs.Datum.{Datum}
use Rattle.eden_value.specs.declared.status.Status.{Status}
use Rattle.eden_model.proofs.Laws.{value-changed}
use Rattle.eden_model.specs.Crew.{Invocation}
use Rattle.eden_model.specs.Map.{with_item}
use Rattle.eden_model.specs.Traffic.{Call, Place, Traffic, answered, at_place, call_at, changed_call, done, replied, sent}
use Rattle.epl_syntax.specs.Edentype.{Edentype}
use Rattle.journal.specs.Deliveries.{misfit}
use Rattle.journal.specs.Ejects.{fresh}
use Rattle.journal.specs.Processes.{class_of, invocation}
use Rattle.journal.specs.Starts.{fits_at, misfits_answered}
use Rattle.journal.specs.World.{Active}
use Rattle.epl_syntax.specs.Meaning.{values_from}
use Rattle.active_part.specs.Bodies.{joined_body}
use Rattle.active_part.specs.Body.{Body, active_of, calls_of}
use Rattle.plain_sites.specs.Activations.{IsStarted, fitting, joined_all}

-- 1. An answer leaves what each call asks

read-placed : {X : Type 0} (F : Call → X) (d : X) (place : Place) (k j : ℕ) (t : Traffic) → ((c : Call) → F (at_place place c) ≡ F c)
    → with_item (call_at (changed_call j (at_place place) t) k) F d ≡ with_item (call_at t k) F d
read-placed F d place k j t same =
    ap (λ o. with_item o F d) (value-changed nat_cmp nat_cmp_total nat_cmp-IsAntisymmetric k j (at_place place) t.calls)
    ∙ go (eq_by_cmp nat_cmp k j) (call_at t k)
  where
    go : (b : Bool) (o : Option Call) → with_item (cond b (option_map (at_place place) o) o) F d ≡ with_item o F d
    go true None = refl
    go true (Some c) = same c
    go false o = refl

read-replied : {X : Type 0} (F : Call → X) (d : X) (why : Status) (k j : ℕ) (t : Traffic)
    → ((place : Place) (c : Call) → F (at_place place c) ≡ F c)
    → with_item (call_at (replied why [] j t) k) F d ≡ with_item (call_at t k) F d
read-replied F d why k j t same = go (call_at t j)
  where
    on : (b : Bool) → with_item (call_at (cond b (sent j (answered why []) t) (changed_call j (at_place done) t)) k) F d
        ≡ with_item (call_at t k) F d
    on true = read-placed F d (answered why []) k j t (same (answered why []))
    on false = read-placed F d done k j t (same done)

    go : (o : Option Call)
        → with_item (call_at (with_item o (λ c. cond c.open_ (sent j (answered why []) t) (changed_call j (at_place done) t)) t) k) F d
        ≡ with_item (call_at t k) F d
    go None = refl
    go (Some c) = on c.open_

-- a call is answered where it does not fit
abbrev after_one : Edentype → ℕ → Traffic → Traffic
after_one kind j t = misfits_answered kind (j ∷ []) t

read-one : {X : Type 0} (F : Call → X) (d : X) (kind : Edentype) (k j : ℕ) (t : Traffic)
    → ((place : Place) (c : Call) → F (at_place place c) ≡ F c)
    → with_item (call_at (after_one kind j t) k) F d ≡ with_item (call_at t k) F d
read-one F d kind k j t same = go (call_at t j)
  where
    on : (o : Option Status) → with_item (call_at (with_item o (λ why. replied why [] j t) t) k) F d ≡ with_item (call_at t k) F d
    on None = refl
    on (Some why) = read-replied F d why k j t same

    go : (o : Option Call)
        → with_item (call_at (with_item o (λ c. with_item (misfit kind c) (λ why. replied why [] j t) t) t) k) F d
        ≡ with_item (call_at t k) F d
    go None = refl
    go (Some c) = on (misfit kind c)

fits-same : (kind : Edentype) (k j : ℕ) (t : Traffic) → fits_at kind (after_one kind j t) k ≡ fits_at kind t k
fits-same kind k j t = read-one (λ c. not (is_some (misfit kind c))) false kind k j t (λ place c. refl)

class-same : (kind : Edentype) (k j : ℕ) (t : Traffic) → invocation kind (after_one kind j t) k ≡ invocation kind t k
class-same kind k j t = ap (λ n. record { call = k; class = n }) (read-one (class_of kind) 0 kind k j t (λ place c. refl))

-- 2. The invocations that fit

fitting-next : (kind : Edentype) (t : Traffic) (k : ℕ) (ks : List ℕ)
    → fitting kind t (k ∷ ks) ≡ cond (fits_at kind t k) (invocation kind t k ∷ fitting kind t ks) (fitting kind t ks)
fitting-next kind t k ks = go (fits_at kind t k)
  where
    go : (b : Bool) → map (invocation kind t) (cond b (k ∷ filter (fits_at kind t) ks) (filter (fits_at kind t) ks))
        ≡ cond b (invocation kind t k ∷ fitting kind t ks) (fitting kind t ks)
    go true = refl
    go false = refl

fitting-more : (kind : Edentype) (t : Traffic) (k : ℕ) (ks : List ℕ)
    → fitting kind t (k ∷ []) ++ fitting kind t ks ≡ fitting kind t (k ∷ ks)
fitting-more kind t k ks = ap (λ l. l ++ fitting kind t ks) (fitting-next kind t k []) ∙ go (fits_at kind t k)
    ∙ sym (fitting-next kind t k ks)
  where
    go : (b : Bool) → cond b (invocation kind t k ∷ []) [] ++ fitting kind t ks
        ≡ cond b (invocation kind t k ∷ fitting kind t ks) (fitting kind t ks)
    go true = refl
    go false = refl

fitting-same : (kind : Edentype) (j : ℕ) (t : Traffic) (ks : List ℕ) → fitting kind (after_one kind j t) ks ≡ fitting kind t ks
fitting-same kind j t [] = refl
fitting-same kind j t (k ∷ ks) =
    fitting-next kind (after_one kind j t) k ks ∙ both (fitting-same kind j t ks) ∙ sym (fitting-next kind t k ks)
  where
    both : fitting kind (after_one kind j t) ks ≡ fitting kind t ks
        → cond (fits_at kind (after_one kind j t) k) (invocation kind (after_one kind j t) k ∷ fitting kind (after_one kind j t) ks)
        (fitting kind (after_one kind j t) ks)
        ≡ cond (fits_at kind t k) (invocation kind t k ∷ fitting kind t ks) (fitting kind t ks)
    both rest = λ i. cond (fits-same kind k j t i) (class-same kind k j t i ∷ rest i) (rest i)

-- their calls are those that fit
pub fitting-calls : (kind : Edentype) (t : Traffic) (ks : List ℕ) → calls_of (fitting kind t ks) ≡ filter (fits_at kind t) ks
fitting-calls kind t ks = go (filter (fits_at kind t) ks)
  where
    go : (js : List ℕ) → calls_of (map (invocation kind t) js) ≡ js
    go [] = refl
    go (j ∷ js) = ap (λ l. j ∷ l) (go js)

-- 3. One call behind another

-- an active part with these invocations queued
abbrev with_queue : Body → List Invocation → Body
with_queue b is = record b { crew = record b.crew { queued = is } }

pub joined-none : (x : Body × Traffic) → joined_all [] x ≡ x
joined-none x = ap (λ l. (with_queue x.0 l, x.1)) (append-nil x.0.crew.queued)

pub joined-next : (x : Body × Traffic) (k : ℕ) (ks : List ℕ) → joined_all ks (joined_all (k ∷ []) x) ≡ joined_all (k ∷ ks) x
joined-next x k ks = ap (λ l. (with_queue x.0 l, misfits_answered x.0.kind (k ∷ ks) x.1))
    (append_assoc x.0.crew.queued (fitting x.0.kind x.1 (k ∷ [])) (fitting x.0.kind (after_one x.0.kind k x.1) ks)
    ∙ ap (λ l. x.0.crew.queued ++ l)
    (ap (λ l. fitting x.0.kind x.1 (k ∷ []) ++ l) (fitting-same x.0.kind k x.1 ks) ∙ fitting-more x.0.kind x.1 k ks))

-- what one call comes to, by what is read of it
abbrev one_by : Body → Traffic → ℕ → Bool → Traffic → Body × Traffic
one_by b t k fits new = (with_queue b (b.crew.queued ++ cond fits (invocation b.kind t k ∷ []) []), new)

one-as : (b : Body) (t : Traffic) (k : ℕ) (fits : Bool) (new : Traffic) → fits_at b.kind t k ≡ fits → after_one b.kind k t ≡ new
    → joined_all (k ∷ []) (b, t) ≡ one_by b t k fits new
one-as b t k fits new is later =
    ap (λ l. (with_queue b (b.crew.queued ++ l), after_one b.kind k t)) (fitting-next b.kind t k [])
    ∙ (ap (λ f. one_by b t k f (after_one b.kind k t)) is ∙ ap (one_by b t k fits) later)

nothing-joins : (b : Body) (t new : Traffic) (k : ℕ) → one_by b t k false new ≡ (b, new)
nothing-joins b t new k = ap (λ l. (with_queue b l, new)) (append-nil b.crew.queued)

-- by whether there is such a call, and what is wrong with it
abbrev fits_by : Edentype → Option Call → Bool
fits_by kind o = with_item o (λ c. not (is_some (misfit kind c))) false

abbrev later_by : Edentype → ℕ → Traffic → Option Call → Traffic
later_by kind k t o = with_item o (λ c. with_item (misfit kind c) (λ why. replied why [] k t) t) t

pub joins-unasked : (b : Body) (t : Traffic) (k : ℕ) → None ≡ call_at t k → (b, t) ≡ joined_all (k ∷ []) (b, t)
joins-unasked b t k none =
    sym (one-as b t k false t (ap (fits_by b.kind) (sym none)) (ap (later_by b.kind k t) (sym none)) ∙ nothing-joins b t t k)

pub joins-fit : (b : Body) (t : Traffic) (k : ℕ) (c : Call) (class : ℕ) → Some c ≡ call_at t k → misfit b.kind c ≡ None
    → class ≡ class_of b.kind c → (joined_body (record { call = k; class = class }) b, t) ≡ joined_all (k ∷ []) (b, t)
joins-fit b t k c class there fits is =
    ap (λ n. (joined_body (record { call = k; class = n }) b, t)) (is ∙ ap (λ o. with_item o (class_of b.kind) 0) there)
    ∙ sym (one-as b t k true t
    (ap (fits_by b.kind) (sym there) ∙ ap (λ o. not (is_some o)) fits)
    (ap (later_by b.kind k t) (sym there) ∙ ap (λ o. with_item o (λ why. replied why [] k t) t) fits))

pub joins-misfit : (b : Body) (t new : Traffic) (k : ℕ) (c : Call) (why : Status) → Some c ≡ call_at t k → misfit b.kind c ≡ Some why
    → new ≡ replied why [] k t → (b, new) ≡ joined_all (k ∷ []) (b, t)
joins-misfit b t new k c why there misfits later =
    sym (one-as b t k false new
    (ap (fits_by b.kind) (sym there) ∙ ap (λ o. not (is_some o)) misfits)
    (ap (later_by b.kind k t) (sym there) ∙ (ap (λ o. with_item o (λ w. replied w [] k t) t) misfits ∙ sym later))
    ∙ nothing-joins b t new k)

-- 4. An Eject has started

pub started-as : (start : Edentype × List Datum) (ks : List ℕ) (old new : Traffic) (first b : Body)
    → active_of first ≡ fresh start.0 (values_from start.0 start.1) → first.crew.queued ≡ []
    → (b, new) ≡ joined_all ks (first, old) → IsStarted start ks old new b
started-as start ks old new first b anew empty joins =
    let kind : first.kind ≡ start.0 = ap (λ (it : Active). it.kind) anew in
    record {
      active = ap (λ (x : Body × Traffic). active_of x.0) joins ∙ anew;
      queued = ap (λ (x : Body × Traffic). x.0.crew.queued) joins
          ∙ (ap (λ l. l ++ fitting first.kind old ks) empty ∙ ap (λ k. fitting k old ks) kind);
      calls = ap (λ (x : Body × Traffic). x.1) joins ∙ ap (λ k. misfits_answered k ks old) kind;
    }
