-- What comes of a request, by how its target stands.
use Rattle.std.proofs.Common.{◌≡◌, ◌≤◌, ◌<◌, ℕ, nat_lt, Bool, true, false, cond, not, length, Option, None, Some, refl, sym, ◌∙◌, ap}
use Rattle.std.proofs.Common.{subst, arith}
use Rattle.std.specs.Prelude.{is_some, IsSomeAnd, Result, Ok, Err}
use Rattle.std.specs.FinMap.{get}
use Rattle.std.specs.Option.{option_map}
use Rattle.std.proofs.lemmas.List.{length-map}
use Rattle.std.proofs.lemmas.Bool.Decides.{nat_tests}
use Rattle.capability.specs.Rights.{is_within}
use Rattle.capability.specs.declared.Uid.{Uid}
use Rattle.eden_value.specs.declared.status.Status.{Status}
use Rattle.eden_value.specs.declared.status.Status.TheVariants as status
use Rattle.eden_model.specs.Map.{value_at, uid_cmp, with_item}
use Rattle.eden_model.specs.Traffic.{Call, asked}
use Rattle.epl_syntax.specs.Edentype.{Edentype}
use Rattle.epl_syntax.specs.Kinds.{have_shapes}
use Rattle.epl_syntax.specs.Meaning.{Operation, operation_of}
use Rattle.epl_syntax.specs.Rules.OfTypes.{TypeList}
use Rattle.edentypes.specs.View.{fit_of, fit_in}
use Rattle.eject_table.specs.Table.{standing_of, active_in}
use Rattle.eject_table.specs.declared.EjectStanding.TheVariants as standing
use Rattle.journal.specs.Deliveries.{misfit}
use Rattle.journal.specs.Processes.{class_of}
use Rattle.active_part.specs.Body.{Body}
use Rattle.active_part.specs.View.{body_of, coordination_of}
use Rattle.active_part.specs.declared.part.Part.{Part}
use Rattle.ejects.specs.Parts.{Parts, body_at, queue_in, held_of}
use Rattle.ejects.specs.Refusals.{refusal_of}
use Rattle.ejects.specs.View.{IsAdmission, IsAdmissionAt, call_at_place, parts_of, part_at}
use Rattle.ejects.specs.declared.Ejects.{Ejects}
use Rattle.ejects.specs.declared.requests.Admission.{Admission}
use Rattle.ejects.specs.declared.requests.Admission.TheVariants.{Active, Passive, Refused}
use Rattle.invocation.specs.declared.call.Call.{Call as Asked}
use Rattle.ejects.proofs.Delivered.{there-body}

pub refusal-active : (n : Parts) (u : Uid) (b : Body) (c : Call) → body_at n u ≡ Some b
    → refusal_of c (held_of n u) ≡ cond (not (nat_lt (length b.crew.queued) 64)) (Some status.Busy) (misfit b.kind c)
refusal-active n u b c is = rw (there-body n u b is, is, length-map) refl

pub refusal-passive : (n : Parts) (u : Uid) (c : Call) → body_at n u ≡ None → is_some (n.standing u) ≡ true
    → refusal_of c (held_of n u) ≡ cond (not (nat_lt (length (queue_in (value_at uid_cmp u n.waiting))) 64)) (Some status.Busy) None
refusal-passive n u c is there = rw (there, is) refl

pub refusal-absent : (n : Parts) (u : Uid) (c : Call) → n.standing u ≡ None → refusal_of c (held_of n u) ≡ Some status.Gone
refusal-absent n u c is = rw is refl

-- how an Eject stands
pub stands-absent : (o : Option (Option Body)) → standing_of o ≡ standing.Absent → o ≡ None
stands-absent None e = refl
stands-absent (Some None) e = absurd (cc e)
stands-absent (Some (Some b)) e = absurd (cc e)

pub stands-passive : (o : Option (Option Body)) → standing_of o ≡ standing.Passive → o ≡ Some None
stands-passive None e = absurd (cc e)
stands-passive (Some None) e = refl
stands-passive (Some (Some b)) e = absurd (cc e)

-- 2. What an operation asks

abbrev errs : Status → Result ℕ Status
errs why = Err why

pub fits-class : (t : Edentype) (c : Call) (class : ℕ) → Ok class ≡ fit_in t c.target.rights c.operation c.args → (misfit t c ≡ None)
    × (class ≡ class_of t c)
fits-class t c class is = go (operation_of t c.operation) refl is
  where
    by : (o : Operation) (a b : Bool) → Ok class ≡ cond (not a) (Err status.NoRight) (cond (not b) (Err status.BadArguments) (Ok o.class))
        → (cond (not a) (Some status.NoRight) (cond (not b) (Some status.BadArguments) None) ≡ None) × (class ≡ o.class)
    by o false b is = absurd (cc is)
    by o true false is = absurd (cc is)
    by o true true is = (refl, cc is)

    go : (o : Option Operation) → operation_of t c.operation ≡ o
        → Ok class ≡ with_item o (fit_of c.target.rights c.args) (Err status.NoOperation) → (misfit t c ≡ None) × (class ≡ class_of t c)
    go None at is = absurd (cc is)
    go (Some o) at is = rw at (by o (is_within (record { bits = o.needs }) c.target.rights) (have_shapes c.args o.params) is)

pub misfits-why : (t : Edentype) (c : Call) (why : Status) → Err why ≡ fit_in t c.target.rights c.operation c.args → misfit t c ≡ Some why
misfits-why t c why is = go (operation_of t c.operation) refl is
  where
    by : (o : Operation) (a b : Bool) → errs why ≡ cond (not a) (Err status.NoRight) (cond (not b) (Err status.BadArguments) (Ok o.class))
        → cond (not a) (Some status.NoRight) (cond (not b) (Some status.BadArguments) None) ≡ Some why
    by o false b is = let e : status.NoRight ≡ why = (let s : errs why ≡ Err status.NoRight = is in cc) in ap (λ x. Some x) e
    by o true false is = let e : status.BadArguments ≡ why = (let s : errs why ≡ Err status.BadArguments = is in cc) in ap (λ x. Some x) e
    by o true true is = absurd (cc is)

    go : (o : Option Operation) → operation_of t c.operation ≡ o
        → errs why ≡ with_item o (fit_of c.target.rights c.args) (Err status.NoOperation) → misfit t c ≡ Some why
    go None at is = rw at (let e : status.NoOperation ≡ why = (let s : errs why ≡ Err status.NoOperation = is in cc) in ap (λ x. Some x) e)
    go (Some o) at is = rw at (by o (is_within (record { bits = o.needs }) c.target.rights) (have_shapes c.args o.params) is)

-- a queue that is not full
pub few-full : (b : Bool) (len : ℕ) → (64 ≤ len → b ≡ true) → b ≡ false → len < 64
few-full b len full is = go (nat_lt len 64) refl
  where
    go : (x : Bool) → nat_lt len 64 ≡ x → len < 64
    go true e = grind (arith, nat_tests, e)
    go false e = let more : 64 ≤ len = grind (arith, nat_tests, e) in absurd (let bad : true ≡ false = sym (full more) ∙ is in cc bad)

-- what comes of a request at an active part comes of it at the Eject
pub admitted-active : (n : Parts) (x : Asked) (b : Body) (a : Admission) → body_at n x.target.uid ≡ Some b → IsAdmissionAt b x a
    → IsAdmission n x a
admitted-active n x b (Active class) is h =
    let c = call_at_place asked x in
    let few : nat_lt (length b.crew.queued) 64 ≡ true = grind (arith, nat_tests, h.0) in
    let refused : refusal_of c (held_of n x.target.uid) ≡ None =
    refusal-active n x.target.uid b c is
    ∙ ap (λ t. cond (not t) (Some status.Busy) (misfit b.kind c)) few ∙ h.1 in
    (refused, subst (λ o. IsSomeAnd o (λ y. class ≡ class_of y.kind c)) (sym is) h.2)
admitted-active n x b Passive is h = absurd h
admitted-active n x b (Refused why) is h = refusal-active n x.target.uid b (call_at_place asked x) is ∙ h

-- 3. There is a place for what is admitted

-- a queue at which a call is not refused has a place for it
few-of : (len : ℕ) (others : Option Status) → cond (not (nat_lt len 64)) (Some status.Busy) others ≡ None → len < 64
few-of len others h = go (nat_lt len 64) refl h
  where
    go : (x : Bool) → nat_lt len 64 ≡ x → cond (not x) (Some status.Busy) others ≡ None → len < 64
    go true e h = grind (arith, nat_tests, e)
    go false e h = absurd (let bad : Some status.Busy ≡ None = h in cc bad)

-- one that is to join an active part has a place there
pub room-active : (n : Parts) (x : Asked) (class : ℕ) (b : Body) → body_at n x.target.uid ≡ Some b → IsAdmission n x (Active class)
    → length b.crew.queued < 64
room-active n x class b is h = let c = call_at_place asked x in
    few-of (length b.crew.queued) (misfit b.kind c) (sym (refusal-active n x.target.uid b c is) ∙ h.0)

-- and one that is to join the queue of a passive Eject has one there
pub room-passive : (n : Parts) (x : Asked) → IsAdmission n x Passive → length (queue_in (value_at uid_cmp x.target.uid n.waiting)) < 64
room-passive n x h = let c = call_at_place asked x in
    few-of (length (queue_in (value_at uid_cmp x.target.uid n.waiting))) None (sym (refusal-passive n x.target.uid c h.1 h.2) ∙ h.0)

-- the same of the active part that is looked up
pub room-at : (ts : TypeList) (n : Ejects) (x : Asked) (class : ℕ) → IsAdmission (parts_of ts n) x (Active class)
    → IsSomeAnd (part_at n x.target.uid) (λ a. length (coordination_of a).queued < 64)
room-at ts n x class h = go (get n.table.standings x.target.uid) refl
  where
    there : (o : Option (Option Part)) → get n.table.standings x.target.uid ≡ o
        → IsSomeAnd (active_in (option_map (option_map (body_of ts)) o)) (λ b. class ≡ class_of b.kind (call_at_place asked x))
    there o is = subst (λ o. IsSomeAnd (active_in (option_map (option_map (body_of ts)) o)) (λ b. class ≡ class_of b.kind (call_at_place
        asked x))) is h.1

    go : (o : Option (Option Part)) → get n.table.standings x.target.uid ≡ o
        → IsSomeAnd (active_in (get n.table.standings x.target.uid)) (λ a. length (coordination_of a).queued < 64)
    go None is = absurd (there None is)
    go (Some None) is = absurd (there (Some None) is)
    go (Some (Some a)) is = subst (λ o. IsSomeAnd (active_in o) (λ a. length (coordination_of a).queued < 64)) (sym is)
        (room-active (parts_of ts n) x class (body_of ts a) (ap (λ o. active_in (option_map (option_map (body_of ts)) o)) is) h)
