-- An Eject that is created in the node is created at the site.
use Rattle.std.proofs.Common.{◌≡◌, ◌≤◌, ◌<◌, ℕ, nat_le, ◌+◌, Bool, true, false, cond, List, Option, None, Some}
use Rattle.std.proofs.Common.{refl, sym, ◌∙◌, ap, subst, arith}
use Rattle.std.specs.Prelude.{is_some, IsSomeAnd, IsTrue, Result, Ok, Err}
use Rattle.std.specs.Option.{option_map}
use Rattle.std.specs.Ordering.{eq_by_cmp}
use Rattle.std.specs.FinMap.{get, insert, len, get-insert}
use Rattle.std.specs.FinMap.Entries.{find-put}
use Rattle.std.proofs.lemmas.Bool.Decides.{nat_tests}
use Rattle.capability.specs.declared.Uid.{Uid}
use Rattle.capability.specs.Capability.{full}
use Rattle.capability.proofs.Uids.{uid_cmp_total, uid_cmp-IsAntisymmetric}
use Rattle.eden_value.specs.declared.status.Status.{Status}
use Rattle.eden_value.specs.declared.status.Status.TheVariants as status
use Rattle.eden_model.specs.Crew.{Runs}
use Rattle.eden_model.specs.Map.{put_at, uid_cmp, with_item, same_uid}
use Rattle.eden_model.proofs.Laws.{eq-same}
use Rattle.eject_table.specs.Table.{Table}
use Rattle.eject_table.specs.Creates.{Creates}
use Rattle.epl_syntax.specs.Edentype.{Edentype}
use Rattle.epl_syntax.specs.Meaning.{type_of, first_values, types_in}
use Rattle.epl_syntax.specs.Rules.OfTypes.{TypeList}
use Rattle.epl_syntax.specs.declared.effect.Answer.{Answer}
use Rattle.epl_syntax.specs.declared.effect.Answer.TheVariants.{Created as Made}
use Rattle.journal.specs.declared.event.Shown.TheVariants as shown
use Rattle.journal.specs.World.{Active, Eject, Site, eject_in, on_node}
use Rattle.journal.specs.Ejects.{count, is_there, fresh, next_uid, newborn, with_active, born, told, tells}
use Rattle.journal.specs.Processes.{shown_creation, creates}
use Rattle.journal.specs.Sites.{InOrder}
use Rattle.active_part.specs.Body.{Body, active_of, calls_of}
use Rattle.active_part.specs.Bodies.{told_body}
use Rattle.active_part.specs.View.{body_of}
use Rattle.active_part.specs.declared.part.Part.{Part}
use Rattle.ejects.specs.Parts.{Parts, Known, known, body_at, held_of, HasClasses, Stands}
use Rattle.ejects.specs.Creations.{next_in, with_born, born_as, IsFresh, HasNewUid, IsCreated, CreatedFor}
use Rattle.ejects.specs.View.{parts_of, with_body}
use Rattle.ejects.specs.declared.Ejects.{Ejects}
use Rattle.ejects.proofs.Counted.{as-many-in}
use Rattle.ejects.proofs.Delivered.{table-at, table-other}
use Rattle.ejects.proofs.Leaving.{body_in, parts_with}
use Rattle.ejects.proofs.Turns.{stays-active}

-- 1. The uid that comes next

pub same-next : (n : Parts) (s : Site) (k : ℕ) → Stands n s → count s.node ≡ k → next_uid s ≡ next_in n k
same-next n s k h many = λ i. cond (nat_le 4096 (many i)) (Err status.TooMany)
    (cond (nat_le 4294967295 (h.serial i)) (Err status.SerialsSpent)
    (Ok (record { node = h.number i; epoch = h.epoch i; serial = h.serial i + 1 })))

there-known : (o : Option Eject) → with_item o is_there false ≡ (known o).there
there-known None = refl
there-known (Some e) = refl

still-some : (ts : TypeList) (o : Option (Option Part)) → is_some (body_in ts o) ≡ is_some o
still-some ts None = refl
still-some ts (Some x) = refl

-- as many Ejects are there as the table has
pub same-count : (ts : TypeList) (n : Ejects) (s : Site) → InOrder s.node.ejects → Stands (parts_of ts n) s
    → count s.node ≡ len n.table.standings
same-count ts n s ordered h =
    as-many-in uid_cmp uid_cmp_total uid_cmp-IsAntisymmetric is_there s.node.ejects n.table.standings ordered
    (λ q. there-known (eject_in s q) ∙ ap (λ (k : Known). k.there) (h.ejects q) ∙ still-some ts (get n.table.standings q))

-- 2. The node with it

pub entered : (ts : TypeList) (t later : Table Part) (waiting : List (Uid × List ℕ)) (u : Uid) (part : Part) → Creates t later part u
    → parts_with ts later waiting ≡ with_born (Ok u) (body_of ts part) (parts_with ts t waiting)
entered ts t later waiting u part made = subst (λ x. parts_with ts x waiting ≡ with_born (Ok u) (body_of ts part) (parts_with ts t waiting))
    (sym made.after) (λ i. record {
      number = t.node;
      types = types_in ts;
      epoch = t.epoch;
      last_serial = serial i;
      standing = λ v. each v i;
      waiting = waiting;
    })
  where
    serial : t.last_serial + 1 ≡ u.serial
    serial = sym (ap (λ (v : Uid). v.serial) made.uid)

    on : (b : Bool) (v : Uid) → body_in ts (cond b (Some (Some part)) (get t.standings v))
        ≡ cond b (Some (Some (body_of ts part))) (body_in ts (get t.standings v))
    on true v = refl
    on false v = refl

    each : (v : Uid) → body_in ts (get (insert t.standings u (Some part)) v) ≡ cond (same_uid v u) (Some (Some (body_of ts part)))
        (body_in ts (get t.standings v))
    each v = ap (body_in ts) (get-insert uid_cmp_total t.standings u (Some part) v) ∙ on (same_uid v u) v

-- what is answered
pub enters-next : (ts : TypeList) (t later : Table Part) (waiting : List (Uid × List ℕ)) (u : Uid) (part : Part) → Creates t later part u
    → Ok u ≡ next_in (parts_with ts t waiting) (len t.standings)
enters-next ts t later waiting u part made =
    let few : nat_le 4096 (len t.standings) ≡ false = grind (arith, nat_tests, made.few) in
    let left : nat_le 4294967295 t.last_serial ≡ false = grind (arith, nat_tests, made.serials) in
    rw (few, left) (ap (λ v. Ok v) made.uid)

pub enters-many : (ts : TypeList) (t : Table Part) (waiting : List (Uid × List ℕ)) → 4096 ≤ len t.standings
    → Err status.TooMany ≡ next_in (parts_with ts t waiting) (len t.standings)
enters-many ts t waiting many = let is : nat_le 4096 (len t.standings) ≡ true = grind (arith, nat_tests, many) in rw is refl

pub enters-spent : (ts : TypeList) (t : Table Part) (waiting : List (Uid × List ℕ)) → len t.standings < 4096 → 4294967295 ≤ t.last_serial
    → Err status.SerialsSpent ≡ next_in (parts_with ts t waiting) (len t.standings)
enters-spent ts t waiting few spent =
    let is : nat_le 4096 (len t.standings) ≡ false = grind (arith, nat_tests, few) in
    let none : nat_le 4294967295 t.last_serial ≡ true = grind (arith, nat_tests, spent) in
    rw (is, none) refl

module _ (n : Parts) (s : Site) (u : Uid) (t : Edentype) (b : Body) (h : Stands n s) (is : IsFresh t b) (new : eject_in s u ≡ None) where
  abbrev it : Active
  it = fresh t (first_values t)

  same-born : born u it s ≡ on_node (λ node. record node { last_serial = u.serial; ejects = put_at uid_cmp u (newborn it) node.ejects }) s
  same-born = ap (λ o. on_node (λ node. record node {
    last_serial = u.serial;
    ejects = put_at uid_cmp u (with_item o (with_active (Some it)) (newborn it)) node.ejects;
  }) s) new

  pub born-stands : Stands (with_born (Ok u) b n) (born u it s)
  unfolding on_node
  born-stands = subst (Stands (with_born (Ok u) b n)) (sym same-born) (record {
    number = h.number;
    types = h.types;
    epoch = h.epoch;
    serial = refl;
    ejects = λ v. ap known (find-put uid_cmp uid_cmp_total v u (newborn it) s.node.ejects) ∙ each v (eq_by_cmp uid_cmp v u) refl;
    classes = λ v. classes v (eq_by_cmp uid_cmp v u) refl;
  })
    where
      here : known (Some (newborn it)) ≡ record { active = Some (active_of b); queued = calls_of b.crew.queued; there = true }
      here = λ i. record { active = Some (sym is.active i); queued = calls_of (sym is.queued i); there = true }

      each : (v : Uid) (x : Bool) → eq_by_cmp uid_cmp v u ≡ x
          → known (cond x (Some (newborn it)) (eject_in s v)) ≡ held_of (with_born (Ok u) b n) v
      each v true at = let same : v ≡ u = eq-same uid_cmp uid_cmp-IsAntisymmetric v u at in
          here ∙ rw (same, table-at n u (Some b)) refl
      each v false at = h.ejects v ∙ rw (table-other n u v (Some b) at) refl

      classes : (v : Uid) (x : Bool) → eq_by_cmp uid_cmp v u ≡ x → HasClasses s.traffic (body_at (with_body u b n) v)
      classes v true at = let same : v ≡ u = eq-same uid_cmp uid_cmp-IsAntisymmetric v u at in
          rw (same, table-at n u (Some b), is.queued) tt
      classes v false at = rw (table-other n u v (Some b) at) (h.classes v)

-- in the words of the contract
pub created : (ts : TypeList) (old new : Ejects) (s : Site) (t : Edentype) (b : Body) (made : Result Uid Status) → HasNewUid s
    → Stands (parts_of ts old) s → IsFresh t b → made ≡ next_in (parts_of ts old) (len old.table.standings)
    → parts_of ts new ≡ with_born made b (parts_of ts old) → IsCreated t made (parts_of ts new) s
created ts old new s t b made ready h is next parts = record {
  next = gives;
  stands = subst (λ n. Stands n (born_as made t s)) (sym parts) (go made gives);
}
  where
    gives : next_uid s ≡ made
    gives = same-next (parts_of ts old) s (len old.table.standings) h (same-count ts old s ready.in_order h) ∙ sym next

    go : (m : Result Uid Status) → next_uid s ≡ m → Stands (with_born m b (parts_of ts old)) (born_as m t s)
    go (Ok u) at = born-stands (parts_of ts old) s u t b h is (ready.is_new u at)
    go (Err why) at = h

-- 3. A process is told

abbrev pub active_known : Option Eject → Option Active
active_known o = (known o).active

-- a process of it waits for nothing
abbrev RunsAt : ℕ → Option Eject → Type 0
RunsAt p o = IsSomeAnd (active_known o) (λ it. Runs it.crew p)

runs-there : (n : Parts) (s : Site) (u : Uid) (p : ℕ) (b : Body) → Stands n s → body_at n u ≡ Some b → Runs b.crew.crew p
    → RunsAt p (eject_in s u)
runs-there n s u p b h at runs = subst (λ o. IsSomeAnd o (λ it. Runs it.crew p))
    (sym (ap (λ (k : Known). k.active) (h.ejects u) ∙ ap (option_map active_of) at)) runs

-- it does so still as another is born
still-runs : (s : Site) (u v : Uid) (p : ℕ) (it : Active) → eject_in s v ≡ None → RunsAt p (eject_in s u)
    → RunsAt p (eject_in (born v it s) u)
unfolding on_node
still-runs s u v p it new runs = subst (RunsAt p)
    (sym (find-put uid_cmp uid_cmp_total u v grown s.node.ejects ∙ apart (eq_by_cmp uid_cmp u v) refl)) runs
  where
    grown : Eject
    grown = with_item (eject_in s v) (with_active (Some it)) (newborn it)

    apart : (x : Bool) → eq_by_cmp uid_cmp u v ≡ x → cond x (Some grown) (eject_in s u) ≡ eject_in s u
    apart true is = let none : eject_in s u ≡ None = ap (eject_in s) (eq-same uid_cmp uid_cmp-IsAntisymmetric u v is) ∙ new in
        absurd (subst (RunsAt p) none runs)
    apart false is = refl

told-stands : (n new : Parts) (s : Site) (u : Uid) (p : ℕ) (a : Answer) → Stands n s → RunsAt p (eject_in s u)
    → ((b : Body) → body_at n u ≡ Some b → Runs b.crew.crew p → new ≡ with_body u (told_body p a b) n) → Stands new (tells u p a s)
told-stands n new s u p a h runs wrote = go (body_at n u) refl
    (subst (λ o. IsSomeAnd o (λ it. Runs it.crew p)) (ap (λ (k : Known). k.active) (h.ejects u)) runs)
  where
    go : (o : Option Body) → body_at n u ≡ o → IsSomeAnd (option_map active_of o) (λ it. Runs it.crew p) → Stands new (tells u p a s)
    go None at none = absurd none
    go (Some b) at is = subst (λ x. Stands x (tells u p a s)) (sym (wrote b at is))
        (stays-active n s u b (told_body p a b) (told p a) h at refl refl refl)

module _ (n mid new : Parts) (s : Site) (u : Uid) (p : ℕ) (name : List ℕ) (t : Edentype) (b : Body) (h : Stands n s)
    (at : body_at n u ≡ Some b) (runs : Runs b.crew.crew p) (ready : HasNewUid s) (named : type_of n.types name ≡ Some t) where
  known-type : type_of s.types name ≡ Some t
  known-type = ap (λ ts. type_of ts name) h.types ∙ named

  pub created-for : (v : Uid) → IsCreated t (Ok v) mid s
      → ((x : Body) → body_at mid u ≡ Some x → Runs x.crew.crew p
      → new ≡ with_body u (told_body p (Made status.Ok (Some (full v))) x) mid)
      → CreatedFor u p name new (shown.Created v) s
  created-for v made wrote = record {
    known = subst IsTrue (sym (ap is_some known-type)) refl;
    shown = ap shown_creation (sym made.next);
    stands = subst (λ o. Stands new (creates u p o (next_uid s) s)) (sym known-type)
        (subst (λ r. Stands new (creates u p (Some t) r s)) (sym made.next)
        (told-stands mid new (born v (fresh t (first_values t)) s) u p (Made status.Ok (Some (full v))) made.stands
        (still-runs s u v p (fresh t (first_values t)) (ready.is_new v made.next) (runs-there n s u p b h at runs)) wrote));
  }

  pub refused-for : (why : Status) → IsCreated t (Err why) mid s
      → ((x : Body) → body_at mid u ≡ Some x → Runs x.crew.crew p → new ≡ with_body u (told_body p (Made why None) x) mid)
      → CreatedFor u p name new (shown.Refused why) s
  refused-for why made wrote = record {
    known = subst IsTrue (sym (ap is_some known-type)) refl;
    shown = ap shown_creation (sym made.next);
    stands = subst (λ o. Stands new (creates u p o (next_uid s) s)) (sym known-type)
        (subst (λ r. Stands new (creates u p (Some t) r s)) (sym made.next)
        (told-stands mid new s u p (Made why None) made.stands (runs-there n s u p b h at runs) wrote));
  }
