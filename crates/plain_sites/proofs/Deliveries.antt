-- Messages at a site: why a request is refused, and what a delivery changes.
use Rattle.std.proofs.Common.{◌≡◌, ◌∙◌, ◌<◌, ◌≤◌, ℕ, Bool, true, false, not, cond, List, Option, None, Some, refl, sym, ap, subst}
use Rattle.std.proofs.Common.{arith, is_some, length, nat_lt, IfSome, IsSomeAnd, Result, Ok, Err}
use Rattle.std.proofs.lemmas.Bool.Decides.{nat_tests}
use Rattle.std.specs.Prelude.{◌↔◌, IsTrue}
use Rattle.std.specs.Option.{option_map}
use Rattle.capability.specs.Rights.{is_within}
use Rattle.capability.specs.declared.Uid.{Uid}
use Rattle.eden_value.specs.Datum.{Datum}
use Rattle.eden_value.specs.declared.status.Status.{Status}
use Rattle.eden_value.specs.declared.status.Status.TheVariants as status
use Rattle.eden_model.specs.Crew.{Waits, outside}
use Rattle.eden_model.specs.declared.Asker.{Asker}
use Rattle.eden_model.specs.declared.Asker.TheVariants.{Shell, Eject as Process}
use Rattle.eden_model.specs.Map.{changed_at, uid_cmp, with_item}
use Rattle.eden_model.specs.Traffic.{Call, Traffic, asked, call_at, waiting_process}
use Rattle.epl_syntax.specs.declared.effect.Answer.TheVariants.{Reply as Told}
use Rattle.epl_syntax.specs.Edentype.{Edentype}
use Rattle.epl_syntax.specs.Kinds.{have_shapes}
use Rattle.epl_syntax.specs.Meaning.{Operation, operation_of}
use Rattle.epl_syntax.specs.Rules.OfTypes.{TypeList}
use Rattle.edentypes.specs.View.{fit_in, fit_of}
use Rattle.journal.specs.Deliveries.{AllowsRequest, heard, misfit, received, refusal, refusal_at, requested, tells_asker}
use Rattle.journal.specs.Ejects.{is_there, on_active, told}
use Rattle.journal.specs.Processes.{class_of}
use Rattle.journal.specs.Sites.{IsSoundSite, WaitsIn}
use Rattle.journal.specs.World.{Active, Eject, Site, eject_in, on_eject, on_traffic}
use Rattle.active_part.specs.Body.{active_of}
use Rattle.active_part.specs.View.{body_of}
use Rattle.active_part.specs.declared.part.Part.{Part}
use Rattle.plain_calls.specs.Changes.{delivered}
use Rattle.plain_ejects.specs.declared.PlainEject.{PlainEject}
use Rattle.plain_ejects.specs.View.{eject_of}
use Rattle.plain_sites.specs.View.{joined, waiter_of}
use Rattle.plain_sites.proofs.Sites.{made, made-same}
use Rattle.plain_stores.specs.declared.PlainNode.{PlainNode}
use Rattle.plain_stores.specs.View.{ejects_of, node_of, site_of}

-- 1. What is wrong with a call

abbrev errs : Status → Result ℕ Status
errs why = Err why

pub fits-class : (t : Edentype) (c : Call) (class : ℕ) → Ok class ≡ fit_in t c.target.rights c.operation c.args → (misfit t c ≡ None)
    × (class ≡ class_of t c)
fits-class t c class is = go (operation_of t c.operation) refl is
  where
    by : (o : Operation) (a b : Bool) → Ok class ≡ cond (not a) (Err status.NoRight) (cond (not b) (Err status.BadArguments) (Ok o.class))
        → (cond (not a) (Some status.NoRight) (cond (not b) (Some status.BadArguments) None) ≡ None) × (class ≡ o.class)
    by o false b is = absurd (cc is)
    by o true false is = absurd (cc is)
    by o true true is = (refl, cc is)

    go : (o : Option Operation) → operation_of t c.operation ≡ o
        → Ok class ≡ with_item o (fit_of c.target.rights c.args) (Err status.NoOperation) → (misfit t c ≡ None) × (class ≡ class_of t c)
    go None at is = absurd (cc is)
    go (Some o) at is = rw at (by o (is_within (record { bits = o.needs }) c.target.rights) (have_shapes c.args o.params) is)

pub misfits-why : (t : Edentype) (c : Call) (why : Status) → Err why ≡ fit_in t c.target.rights c.operation c.args → misfit t c ≡ Some why
misfits-why t c why is = go (operation_of t c.operation) refl is
  where
    by : (o : Operation) (a b : Bool) → errs why ≡ cond (not a) (Err status.NoRight) (cond (not b) (Err status.BadArguments) (Ok o.class))
        → cond (not a) (Some status.NoRight) (cond (not b) (Some status.BadArguments) None) ≡ Some why
    by o false b is = let e : status.NoRight ≡ why = (let s : errs why ≡ Err status.NoRight = is in cc) in ap (λ x. Some x) e
    by o true false is = let e : status.BadArguments ≡ why = (let s : errs why ≡ Err status.BadArguments = is in cc) in ap (λ x. Some x) e
    by o true true is = absurd (cc is)

    go : (o : Option Operation) → operation_of t c.operation ≡ o
        → errs why ≡ with_item o (fit_of c.target.rights c.args) (Err status.NoOperation) → misfit t c ≡ Some why
    go None at is = rw at (let e : status.NoOperation ≡ why = (let s : errs why ≡ Err status.NoOperation = is in cc) in ap (λ x. Some x) e)
    go (Some o) at is = rw at (by o (is_within (record { bits = o.needs }) c.target.rights) (have_shapes c.args o.params) is)

-- 2. Why an Eject refuses

room : (n : ℕ) → (64 ≤ n → ⊥) → nat_lt n 64 ≡ true
room n few = go (nat_lt n 64) refl
  where
    go : (b : Bool) → nat_lt n 64 ≡ b → b ≡ true
    go true is = refl
    go false is = absurd (few (grind (arith, nat_tests, is)))

no-room : (n : ℕ) → 64 ≤ n → nat_lt n 64 ≡ false
no-room n many = go (nat_lt n 64) refl
  where
    go : (b : Bool) → nat_lt n 64 ≡ b → b ≡ false
    go true is = absurd (let less : n < 64 = grind (arith, nat_tests, is) in omega (arith, less, many))
    go false is = refl

abbrev refusal_by : Call → Eject → Bool → Bool → Option Status
refusal_by c e there free =
    cond (not there) (Some status.Gone) (cond (not free) (Some status.Busy) (with_item e.active (λ it. misfit it.kind c) None))

pub busy-as : (c : Call) (e : Eject) (b : Bool) → is_there e ≡ true → (IsTrue b ↔ (64 ≤ length e.queued)) → b ≡ true
    → Some status.Busy ≡ refusal c e
busy-as c e b there full is =
    sym (ap (λ x. refusal_by c e x (nat_lt (length e.queued) 64)) there ∙ ap (refusal_by c e true) (no-room (length e.queued) (full.0 is)))

free-room : (b : Bool) (n : ℕ) → (IsTrue b ↔ (64 ≤ n)) → b ≡ false → nat_lt n 64 ≡ true
free-room b n full is = room n (λ many. let bad : false ≡ true = sym is ∙ full.1 many in cc bad)

pub fit-as : (c : Call) (e : Eject) (b : Bool) (x : Option Status) → is_there e ≡ true → (IsTrue b ↔ (64 ≤ length e.queued)) → b ≡ false
    → x ≡ with_item e.active (λ it. misfit it.kind c) None → x ≡ refusal c e
fit-as c e b x there full is fits = fits ∙ sym (ap (λ y. refusal_by c e y (nat_lt (length e.queued) 64)) there
    ∙ ap (refusal_by c e true) (free-room b (length e.queued) full is))

-- an Eject that does not refuse has room
takes-by : (there free : Bool) (c : Call) (e : Eject) → None ≡ refusal_by c e there free → free ≡ true
takes-by false free c e none = absurd (cc none)
takes-by true false c e none = absurd (cc none)
takes-by true true c e none = refl

takes-room : (c : Call) (e : Eject) → None ≡ refusal c e → length e.queued < 64
takes-room c e none = let free : nat_lt (length e.queued) 64 ≡ true = takes-by (is_there e) (nat_lt (length e.queued) 64) c e none in
    grind (arith, nat_tests, free)

pub taken-room : (c : Call) (o : Option Eject) → None ≡ with_item o (refusal c) (Some status.Gone) → IfSome o (λ e. length e.queued < 64)
taken-room c None none = tt
taken-room c (Some e) none = takes-room c e none

-- 3. A request joins the queue

abbrev requested_of : ℕ → Site → Option Call → Site
requested_of k s o = with_item o (λ c. on_eject c.target.uid (joined k) (on_traffic (delivered k) s)) s

pub admitted-as : (ts : TypeList) (n : PlainNode) (t new : Traffic) (k : ℕ) (c : Call) (es : List (Uid × Eject)) → Some c ≡ call_at t k
    → es ≡ changed_at uid_cmp c.target.uid (joined k) (ejects_of ts n.ejects.items) → new ≡ delivered k t
    → made ts n.number (record (node_of ts n) { ejects = es }) new ≡ requested k None (site_of ts t n)
unfolding on_eject on_traffic
admitted-as ts n t new k c es there is traffic =
    made-same ts n.number n.number (record (node_of ts n) { ejects = es }) _ new (delivered k t) refl
    (ap (λ l. record (node_of ts n) { ejects = l }) is) traffic
    ∙ ap (requested_of k (site_of ts t n)) there

-- the request may be delivered, and is not refused
pub allowed-room : (s : Site) (k a b : ℕ) (c : Call) → Some c ≡ call_at s.traffic k → AllowsRequest s k a b None
    → IfSome (eject_in s c.target.uid) (λ e. length e.queued < 64)
allowed-room s k a b c there may =
    let at : IsSomeAnd (Some c) (λ x. (x.place ≡ asked) × (None ≡ refusal_at s x)) =
    subst (λ o. IsSomeAnd o (λ x. (x.place ≡ asked) × (None ≡ refusal_at s x))) (sym there) may.delivered in
    taken-room c (eject_in s c.target.uid) at.1

-- no call, no delivery
pub allowed-call : (s : Site) (k a b : ℕ) (r : Option Status) → None ≡ call_at s.traffic k → AllowsRequest s k a b r → ⊥
allowed-call s k a b r none may =
    subst (λ o. IsSomeAnd o (λ x. (x.place ≡ asked) × (r ≡ refusal_at s x))) (sym none) may.delivered

-- 4. A reply is heard

-- the process that asked waits
waits-of : (o : Option Active) (p : ℕ) → IsSomeAnd o (λ it. Waits it.crew p outside) → IfSome o (λ it. Waits it.crew p outside)
waits-of None p w = absurd w
waits-of (Some it) p w = w

pub waits-in : (o : Option Eject) (p : ℕ) → (is_some o ≡ true → WaitsIn o p)
    → IfSome o (λ e. IfSome e.active (λ it. Waits it.crew p outside))
waits-in None p w = tt
waits-in (Some e) p w = waits-of e.active p (w refl)

waiter-open : (c : Call) (u : Uid) (p : ℕ) → waiter_of c ≡ Some (u, p) → (c.open_ ≡ true) × (c.asker ≡ Process u p)
waiter-open c u p is = go c.open_ c.asker refl refl is
  where
    go : (b : Bool) (a : Asker) → c.open_ ≡ b → c.asker ≡ a → cond b (waiting_process a) None ≡ Some (u, p)
        → (c.open_ ≡ true) × (c.asker ≡ Process u p)
    go false a on at is = absurd (cc is)
    go true (Shell name) on at is = absurd (cc is)
    go true (Process v q) on at is =
        let same : (v, q) ≡ (u, p) = cc is in
        (on, at ∙ ap (λ (x : Uid × ℕ). Process x.0 x.1) same)

pub hearer-waits : (s : Site) (k : ℕ) (c : Call) (u : Uid) (p : ℕ) → IsSoundSite s → Some c ≡ call_at s.traffic k
    → waiter_of c ≡ Some (u, p) → IfSome (eject_in s u) (λ e. IfSome e.active (λ it. Waits it.crew p outside))
hearer-waits s k c u p sound there waits =
    waits-in (eject_in s u) p (λ some. ((sound.processes u p (sound.node.of_node u some)).asks k
    (subst (λ o. IsSomeAnd o (λ x. (x.open_ ≡ true) × (x.asker ≡ Process u p))) there (waiter-open c u p waits))).0)

abbrev heard_of : ℕ → Status → List Datum → Site → Option Call → Site
heard_of k why values s o =
    with_item o (λ c. cond c.open_ (tells_asker c.asker why values (on_traffic (received k) s)) (on_traffic (received k) s)) s

pub heard-none : (s : Site) (k : ℕ) (why : Status) (values : List Datum) → None ≡ call_at s.traffic k → s ≡ heard k why values s
heard-none s k why values none = ap (heard_of k why values s) none

-- by whether somebody waits
pub heard-some : (ts : TypeList) (n : PlainNode) (t new : Traffic) (k : ℕ) (c : Call) (u : Uid) (p : ℕ) (why : Status) (values : List Datum)
    (es : List (Uid × Eject)) → Some c ≡ call_at t k → waiter_of c ≡ Some (u, p)
    → es ≡ changed_at uid_cmp u (on_active (told p (Told why values))) (ejects_of ts n.ejects.items) → new ≡ received k t
    → made ts n.number (record (node_of ts n) { ejects = es }) new ≡ heard k why values (site_of ts t n)
unfolding on_eject on_traffic
heard-some ts n t new k c u p why values es there waits is traffic =
    let by = waiter-open c u p waits in
    let behind : Site = on_traffic (received k) (site_of ts t n) in
    made-same ts n.number n.number (record (node_of ts n) { ejects = es }) _ new (received k t) refl
    (ap (λ l. record (node_of ts n) { ejects = l }) is) traffic
    ∙ (ap (λ a. tells_asker a why values behind) (sym by.1)
    ∙ (ap (λ b. cond b (tells_asker c.asker why values behind) behind) (sym by.0)
    ∙ ap (heard_of k why values (site_of ts t n)) there))

quiet : (c : Call) (why : Status) (values : List Datum) (s : Site) → waiter_of c ≡ None
    → s ≡ cond c.open_ (tells_asker c.asker why values s) s
quiet c why values s none = go c.open_ c.asker none
  where
    go : (b : Bool) (a : Asker) → cond b (waiting_process a) None ≡ None → s ≡ cond b (tells_asker a why values s) s
    go false a none = refl
    go true (Shell name) none = refl
    go true (Process u p) none = absurd (cc none)

pub heard-quiet : (ts : TypeList) (n : PlainNode) (t new : Traffic) (k : ℕ) (c : Call) (why : Status) (values : List Datum)
    → Some c ≡ call_at t k → waiter_of c ≡ None → new ≡ received k t → site_of ts new n ≡ heard k why values (site_of ts t n)
unfolding on_traffic
heard-quiet ts n t new k c why values there none traffic =
    ap (λ x. site_of ts x n) traffic ∙ (quiet c why values (on_traffic (received k) (site_of ts t n)) none
    ∙ ap (heard_of k why values (site_of ts t n)) there)

-- 5. What is asked of an active part that is there

pub part-as : (ts : TypeList) (o : Option PlainEject) (e : PlainEject) (p : Part) (P : Active → Type 0) → o ≡ Some e → e.part ≡ Some p
    → P (active_of (body_of ts p)) → IfSome o (λ x. IfSome (eject_of ts x).active P)
part-as ts o e p P is part holds = subst (λ x. IfSome x (λ y. IfSome (eject_of ts y).active P)) (sym is)
    (subst (λ a. IfSome (option_map (λ (q : Part). active_of (body_of ts q)) a) P) (sym part) holds)

pub none-of : {X : Type 0} (o : Option X) → ((x : X) → o ≡ Some x → ⊥) → o ≡ None
none-of None not = refl
none-of (Some x) not = absurd (not x refl)
