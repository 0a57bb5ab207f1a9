-- What decides the turns of an Eject at a site decides them in the node.
use Rattle.std.proofs.Common.{◌≡◌, ℕ, Bool, false, not, ◌&&◌, List, [], map, Option, None, Some, refl, sym, ◌∙◌, ap}
use Rattle.std.specs.Prelude.{is_some, IsSomeAnd}
use Rattle.std.specs.List.{list_any}
use Rattle.std.specs.Option.{option_map}
use Rattle.capability.specs.declared.Uid.{Uid}
use Rattle.eden_model.specs.Crew.{Crew, startable}
use Rattle.eden_model.specs.Map.{first, value_at, uid_cmp, with_item}
use Rattle.eden_model.specs.Traffic.{Call, Traffic, call_at}
use Rattle.epl_syntax.specs.Edentype.{Edentype}
use Rattle.journal.specs.World.{Eject, Site, eject_in}
use Rattle.journal.specs.Enabled.{is_ready}
use Rattle.journal.specs.Processes.{invocation}
use Rattle.active_part.specs.Body.{Body, active_of}
use Rattle.ejects.specs.Marks.{may_wake, may_start, may_run}
use Rattle.ejects.specs.Parts.{Parts, Known, known, body_at, queue_of, queue_at, HasClasses, Stands}
use Rattle.ejects.proofs.KeptClasses.{Keeps, classes-kept}
use Rattle.ejects.proofs.Marked.{some-mapped}
use Rattle.ejects.proofs.Started.{same-classes}
use Rattle.agenda.specs.Keys.{Indices, IsAgenda}
use Rattle.agenda.specs.Marks.{MayBut}
use Rattle.agenda.proofs.Marked.{same-test}
use Rattle.scheduled_node.specs.Others.{part_of, deciding, SameBut}

-- 1. The tests, by what decides them

abbrev wakes : Option (Edentype × Crew) × List ℕ → Bool
wakes x = not (is_some x.0) && is_some (first x.1)

abbrev starts : Traffic → Option (Edentype × Crew) × List ℕ → Bool
starts t x = with_item x.0 (λ it. is_some (startable it.1 (map (invocation it.0 t) x.1))) false

abbrev runs : Option (Edentype × Crew) × List ℕ → Bool
runs x = with_item x.0 (λ it. list_any (λ q. is_ready q.1.waits) it.1.processes) false

known-decides : (o : Option Eject) → deciding o ≡ (option_map part_of (known o).active, (known o).queued)
known-decides None = refl
known-decides (Some e) = refl

abbrev held-at : Parts → Uid → Option (Edentype × Crew) × List ℕ
held-at n v = (option_map part_of (option_map active_of (body_at n v)), queue_at n v)

-- what the node has of an Eject decides its turns at the site
decides : (n : Parts) (s : Site) (v : Uid) → Stands n s → deciding (eject_in s v) ≡ held-at n v
decides n s v h = known-decides (eject_in s v) ∙ ap (λ (k : Known). (option_map part_of k.active, k.queued)) (h.ejects v)

wakes-by : (n : Parts) (v : Uid) → wakes (held-at n v) ≡ may_wake n v
wakes-by n v =
    ap (λ b. not b && is_some (first (queue_at n v))) (some-mapped part_of (option_map active_of (body_at n v))
    ∙ some-mapped active_of (body_at n v))

starts-by : (t : Traffic) (o : Option Body) (waiting : Option (List ℕ)) → HasClasses t o
    → starts t (option_map part_of (option_map active_of o), queue_of o waiting) ≡ may_start o
starts-by t None waiting c = refl
starts-by t (Some b) waiting c = rw (same-classes t b.kind b.crew.queued c) refl

runs-by : (o : Option Body) (queued : List ℕ) → runs (option_map part_of (option_map active_of o), queued) ≡ may_run o
runs-by None queued = refl
runs-by (Some b) queued = refl

-- 2. From one site to another

pub may-but : (those : Uid → Bool) (n new : Parts) (s t : Site) → Stands n s → Stands new t → SameBut those s t
    → Keeps s.traffic t.traffic → MayBut those n new
may-but those n new s t h later same keeps = record {
  wake = λ v other. sym (wakes-by new v) ∙ ap wakes (between v other) ∙ wakes-by n v;
  start = λ v other. sym (starts-by t.traffic (body_at new v) (value_at uid_cmp v new.waiting) (later.classes v))
      ∙ ap (starts t.traffic) (between v other)
      ∙ starts-by t.traffic (body_at n v) (value_at uid_cmp v n.waiting)
      (classes-kept s.traffic t.traffic keeps (body_at n v) (h.classes v));
  run = λ v other. sym (runs-by (body_at new v) (queue_at new v)) ∙ ap runs (between v other) ∙ runs-by (body_at n v) (queue_at n v);
}
  where
    between : (v : Uid) → those v ≡ false
        → held-at new v ≡ held-at n v
    between v other = sym (decides new t v later) ∙ same.at v other ∙ decides n s v h

-- calls as they were
pub keeps-same : (t later : Traffic) → later ≡ t → Keeps t later
keeps-same t later same = record { at = λ k c is. go k c is (call_at later k) (ap (λ u. call_at u k) same ∙ is) }
  where
    go : (k : ℕ) (c : Call) → call_at t k ≡ Some c → (o : Option Call) → o ≡ Some c → IsSomeAnd o (λ d. d.operation ≡ c.operation)
    go k c is None at = absurd (let bad : None ≡ Some c = at in cc bad)
    go k c is (Some d) at = let same : d ≡ c = (let e : Some d ≡ Some c = at in cc e) in ap (λ (x : Call). x.operation) same

-- 3. Where no Eject is active or has a queue

pub none-may : (n : Parts) (s : Site) → Stands n s → ((v : Uid) → deciding (eject_in s v) ≡ deciding None)
    → IsAgenda (record { wake = []; start = []; run = [] }) n
none-may n s h idle = record {
  wake = record { ascend = tt; exact = λ v. sym (sym (wakes-by n v) ∙ ap wakes (nothing v)) };
  start = record {
    ascend = tt;
    exact = λ v. sym (sym (starts-by s.traffic (body_at n v) (value_at uid_cmp v n.waiting) (h.classes v))
        ∙ ap (starts s.traffic) (nothing v));
  };
  run = record { ascend = tt; exact = λ v. sym (sym (runs-by (body_at n v) (queue_at n v)) ∙ ap runs (nothing v)) };
}
  where
    nothing : (v : Uid) → held-at n v ≡ deciding None
    nothing v = sym (decides n s v h) ∙ idle v

-- 4. An agenda stands on, where all may do the same

pub stays-agenda : (a : Indices) (n new : Parts) → MayBut (λ v. false) n new → IsAgenda a n → IsAgenda a new
stays-agenda a n new alike is = record {
  wake = same-test a.wake _ _ (λ v. sym (alike.wake v refl)) is.wake;
  start = same-test a.start _ _ (λ v. sym (alike.start v refl)) is.start;
  run = same-test a.run _ _ (λ v. sym (alike.run v refl)) is.run;
}
