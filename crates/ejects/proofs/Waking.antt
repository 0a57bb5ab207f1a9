-- A passive Eject that is activated in the node is activated at the site.
use Rattle.std.proofs.Common.{◌≡◌, ℕ, Bool, true, false, cond, List, [], ◌++◌, Option, None, Some, refl, sym, ◌∙◌, ap, subst}
use Rattle.std.specs.Prelude.{is_some, IsSomeAnd}
use Rattle.std.specs.List.{filter}
use Rattle.std.specs.Option.{option_map}
use Rattle.std.specs.Ordering.{eq_by_cmp}
use Rattle.std.proofs.lemmas.Cmp.{tied_itself}
use Rattle.capability.specs.declared.Uid.{Uid}
use Rattle.capability.proofs.Uids.{uid_cmp_total}
use Rattle.eden_value.specs.Datum.{Datum}
use Rattle.eden_value.specs.declared.status.Status.{Status}
use Rattle.eden_value.specs.declared.status.Status.TheVariants as status
use Rattle.eden_model.specs.Lines.{Distinct}
use Rattle.eden_model.specs.Map.{value_at, uid_cmp, with_item}
use Rattle.eden_model.specs.Traffic.{Traffic, all_replied}
use Rattle.epl_syntax.specs.Edentype.{Edentype}
use Rattle.epl_syntax.specs.Meaning.{values_from}
use Rattle.epl_syntax.specs.Rules.OfTypes.{TypeList}
use Rattle.eject_table.specs.Table.{Table, with_entry}
use Rattle.invocation.specs.Mail.{Mail}
use Rattle.invocation.specs.Carries.{Carries}
use Rattle.passive_store.specs.declared.store.Pick.{Pick}
use Rattle.passive_store.specs.declared.store.Pick.TheVariants as pick
use Rattle.journal.specs.declared.event.Event.TheVariants as event
use Rattle.journal.specs.declared.event.StartEnd.{StartEnd}
use Rattle.journal.specs.declared.event.StartEnd.TheVariants as end
use Rattle.journal.specs.World.{Active, Eject, Site, eject_in, on_eject, on_node, on_traffic}
use Rattle.journal.specs.Ejects.{fresh, turned_away, with_queued}
use Rattle.journal.specs.Settling.{to_settle, settled, settled_eject, unsynced}
use Rattle.journal.specs.Sites.{IsSoundSite, IsHeldAt, runs_of}
use Rattle.journal.specs.Starts.{AllowsActivate, fits_at, misfits_answered, start_of, start_settled, activated, awake_as, awake_from}
use Rattle.journal.specs.Step.{AllowsAt, site_turn}
use Rattle.checkpoint.specs.Changes.{facts_of}
use Rattle.checkpoint.specs.Starting.{StartsWith}
use Rattle.active_part.specs.Body.{Body, active_of, calls_of}
use Rattle.active_part.specs.View.{body_of}
use Rattle.active_part.specs.declared.part.Part.{Part}
use Rattle.ejects.specs.Activations.{fitting, queued_body, AreQueued, Joins, JoinsAll, answer_of}
use Rattle.ejects.specs.View.{with_body}
use Rattle.ejects.specs.Parts.{Parts, Known, known, body_at, queue_in, queue_of, held_of, HasClasses, Stands, IsAt}
use Rattle.ejects.specs.Passive.{OnlyAt}
use Rattle.ejects.specs.Replies.{AreOut}
use Rattle.ejects.proofs.Acting.{held-all-out}
use Rattle.ejects.proofs.Delivered.{same-known, table-at, table-other}
use Rattle.ejects.proofs.Joining.{keeps-misfits, fitting-calls, fitting-classes}
use Rattle.ejects.proofs.Keeping.{keeps-all_replied, value-each}
use Rattle.ejects.proofs.Leaving.{flipped, parts_with, part-written}
use Rattle.ejects.proofs.Replying.{distinct-second}
use Rattle.ejects.proofs.Starting.{all-second}
use Rattle.ejects.proofs.Stays.{stays-on_traffic, stays-at}

-- 1. Behind a settling

-- the Eject has the same active part and the same queue
pub record StaysQueued (o : Option Eject) (was : Eject) : Type 0 where
  pub now : Eject
  pub is : o ≡ Some now
  pub active : now.active ≡ was.active
  pub queued : now.queued ≡ was.queued

settled-queued : (p : Option Pick) (s : Site) (u : Uid) (e : Eject) → eject_in s u ≡ Some e
    → StaysQueued (eject_in (settled p (unsynced s)) u) e
unfolding on_node
settled-queued None s u e is = record { now = e; is = is; active = refl; queued = refl }
settled-queued (Some pick.Old) s u e is = record {
  now = settled_eject pick.Old e;
  is = value-each uid_cmp (settled_eject pick.Old) u s.node.ejects ∙ ap (option_map (settled_eject pick.Old)) is;
  active = refl;
  queued = refl;
}
settled-queued (Some pick.New) s u e is = record {
  now = settled_eject pick.New e;
  is = value-each uid_cmp (settled_eject pick.New) u s.node.ejects ∙ ap (option_map (settled_eject pick.New)) is;
  active = refl;
  queued = refl;
}

pub stays-queued : (p : Option Pick) (s : Site) (u : Uid) (e : Eject) → eject_in s u ≡ Some e
    → StaysQueued (eject_in (start_settled p s) u) e
stays-queued p s u e is = go (to_settle s)
  where
    go : (b : Bool) → StaysQueued (eject_in (cond b (settled p (unsynced s)) s) u) e
    go true = settled-queued p s u e is
    go false = record { now = e; is = is; active = refl; queued = refl }

settled-traffic : (p : Option Pick) (s : Site) → (settled p (unsynced s)).traffic ≡ s.traffic
unfolding on_node
settled-traffic None s = refl
settled-traffic (Some x) s = refl

pub same-traffic : (p : Option Pick) (s : Site) → (start_settled p s).traffic ≡ s.traffic
same-traffic p s = go (to_settle s)
  where
    go : (b : Bool) → (cond b (settled p (unsynced s)) s).traffic ≡ s.traffic
    go true = settled-traffic p s
    go false = refl

settled-types : (p : Option Pick) (s : Site) → (settled p (unsynced s)).types ≡ s.types
unfolding on_node
settled-types None s = refl
settled-types (Some x) s = refl

same-types : (p : Option Pick) (s : Site) → (start_settled p s).types ≡ s.types
same-types p s = go (to_settle s)
  where
    go : (b : Bool) → (cond b (settled p (unsynced s)) s).types ≡ s.types
    go true = settled-types p s
    go false = refl

-- 2. The queue of a passive Eject

-- as the node and the site have it, behind the settling
pub record QueuedAt (n : Parts) (s : Site) (u : Uid) : Type 0 where
  pub eject : Eject
  pub is : eject_in s u ≡ Some eject
  pub passive : eject.active ≡ None
  pub none : body_at n u ≡ None
  pub queue : eject.queued ≡ queue_in (value_at uid_cmp u n.waiting)
  pub queued : AreQueued s.traffic u eject.queued

queued-there : (p : Option Pick) (s : Site) (u : Uid) (e : Eject) → IsSoundSite s → eject_in s u ≡ Some e
    → AreQueued (start_settled p s).traffic u e.queued
queued-there p s u e sound is =
    let x = sound.ejects u e is in
    subst (λ t. AreQueued t u e.queued) (sym (same-traffic p s)) (record {
      held = all-second (IsHeldAt s.traffic u) (runs_of e.active) e.queued x.held;
      once = distinct-second (runs_of e.active) e.queued x.once;
    })

no-body : (o : Option Body) → option_map active_of o ≡ None → o ≡ None
no-body None is = refl
no-body (Some b) is = absurd (cc is)

pub queued-at : (n : Parts) (s : Site) (u : Uid) (how : StartEnd) (p : Option Pick) → IsSoundSite s → Stands n (start_settled p s)
    → AllowsAt s (event.Activate u how p) → QueuedAt n (start_settled p s) u
queued-at n s u how p sound h allowed = go (eject_in s u) refl allowed
  where
    go : (o : Option Eject) → eject_in s u ≡ o → IsSomeAnd o (λ e. AllowsActivate s u how p e) → QueuedAt n (start_settled p s) u
    go None at x = absurd x
    go (Some e) at x =
        let f = stays-queued p s u e at in
        let here : known (Some f.now) ≡ held_of n u = ap known (sym f.is) ∙ h.ejects u in
        let none : body_at n u ≡ None =
        no-body (body_at n u) (sym (ap (λ (k : Known). k.active) here) ∙ f.active ∙ x.is_passive) in
        record {
          eject = f.now;
          is = f.is;
          passive = f.active ∙ x.is_passive;
          none = none;
          queue = ap (λ (k : Known). k.queued) here ∙ ap (λ o. queue_of o (value_at uid_cmp u n.waiting)) none;
          queued = subst (AreQueued (start_settled p s).traffic u) (sym f.queued) (queued-there p s u e sound at);
        }

kept-of : (o : Option Eject) (e : Eject) (bytes : List ℕ) → o ≡ Some e → (facts_of o).0 ≡ Some bytes → e.kept ≡ Some bytes
kept-of o e bytes is h =
    let now : (facts_of (Some e)).0 ≡ Some bytes = subst (λ (x : Option Eject). (facts_of x).0 ≡ Some bytes) is h in now

-- 3. The node without the queue

-- these queues are those of the node but for that of this Eject, which has none
abbrev pub LeavesQueue : Uid → List (Uid × List ℕ) → List (Uid × List ℕ) → Type 0
LeavesQueue u old new = (q : Uid) → value_at uid_cmp q new ≡ cond (eq_by_cmp uid_cmp u q) None (value_at uid_cmp q old)

abbrev pub with_waiting : List (Uid × List ℕ) → Parts → Parts
with_waiting ws n = record n { waiting = ws }

-- 4. The node with an active part

pub woken-in : (ts : TypeList) (t later : Table Part) (waiting : List (Uid × List ℕ)) (u : Uid) (part : Part)
    → later ≡ with_entry t u (Some part) → parts_with ts later waiting ≡ with_body u (body_of ts part) (parts_with ts t waiting)
woken-in ts t later waiting u part after = ap (λ x. parts_with ts x waiting) after ∙ part-written ts t waiting u part

-- 5. It starts

module _ (reach : ℕ → Bool) (n new : Parts) (ws : List (Uid × List ℕ)) (m later : Mail) (s : Site) (u : Uid) (p : Option Pick)
    (kind : Edentype) (durable : List Datum) (first b : Body) (sound : IsSoundSite s) (allowed : AllowsAt s (event.Activate u end.Ok p))
    (starts : StartsWith s u p (kind, durable)) (at : IsAt n m (start_settled p s)) (left : LeavesQueue u n.waiting ws)
    (anew : active_of first ≡ fresh kind (values_from kind durable)) (empty : first.crew.queued ≡ [])
    (joins : JoinsAll first b (queue_in (value_at uid_cmp u n.waiting)) m later) (woken : new ≡ with_body u b (with_waiting ws n)) where
  abbrev t : Site
  t = start_settled p s

  q : QueuedAt n t u
  q = queued-at n s u end.Ok p sound at.parts allowed

  turn-is : activated u end.Ok t ≡ awake_as u q.eject (kind, durable) t
  turn-is = ap (λ o. with_item o (λ e. with_item e.kept (λ bytes. awake_from u e bytes t) t) t) q.is
      ∙ ap (λ o. with_item o (λ bytes. awake_from u q.eject bytes t) t) kept
      ∙ ap (λ o. with_item o (λ start. awake_as u q.eject start t) t) (ap (λ ts. start_of ts starts.0 u) (same-types p s) ∙ starts.2)
    where
      kept : q.eject.kept ≡ Some starts.0
      kept = kept-of (eject_in t u) q.eject starts.0 q.is starts.1

  joined : Joins first b q.eject.queued m later t.traffic
  joined = subst (λ ks. Joins first b ks m later t.traffic) (sym q.queue)
      (joins t.traffic u at.calls (subst (AreQueued t.traffic u) q.queue q.queued))

  kind-is : first.kind ≡ kind
  kind-is = ap (λ (x : Active). x.kind) anew

  abbrev started : Eject → Eject
  started e = record e {
    active = Some (fresh kind (values_from kind durable));
    queued = filter (fits_at kind t.traffic) q.eject.queued;
  }

  body-is : b ≡ queued_body (fitting kind t.traffic q.eject.queued) first
  body-is = joined.body ∙ ap (λ k. queued_body (fitting k t.traffic q.eject.queued) first) kind-is

  queue-is : b.crew.queued ≡ fitting kind t.traffic q.eject.queued
  queue-is = ap (λ (x : Body). x.crew.queued) body-is ∙ ap (λ l. l ++ fitting kind t.traffic q.eject.queued) empty

  only : OnlyAt u n new
  only = subst (OnlyAt u n) (sym woken) (record {
    node = record { number = refl; types = refl; epoch = refl; last_serial = refl };
    others = λ v other. record {
      standing = table-other (with_waiting ws n) u v (Some b) other;
      waiting = left v ∙ rw (flipped u v other) refl;
    };
  })

  body-new : body_at new u ≡ Some b
  body-new = ap (λ (x : Parts). body_at x u) woken ∙ rw (table-at (with_waiting ws n) u (Some b)) refl

  there-new : is_some (new.standing u) ≡ true
  there-new = ap (λ (x : Parts). is_some (x.standing u)) woken ∙ rw (table-at (with_waiting ws n) u (Some b)) refl

  here : known (Some (started q.eject)) ≡ held_of new u
  here = same-known (ap (λ it. Some it) (sym anew ∙ sym (ap active_of body-is)) ∙ sym (ap (option_map active_of) body-new))
      (sym (ap (λ o. queue_of o (value_at uid_cmp u new.waiting)) body-new ∙ ap calls_of queue-is
      ∙ fitting-calls kind t.traffic q.eject.queued))
      (sym there-new)

  classes : HasClasses t.traffic (body_at new u)
  classes = subst (HasClasses t.traffic) (sym body-new)
      (subst (λ k. HasClasses t.traffic (Some (record b { kind = k }))) (sym (ap (λ (x : Body). x.kind) body-is ∙ kind-is))
      (subst (λ is. HasClasses t.traffic (Some (record b { kind = kind; crew = record b.crew { queued = is } }))) (sym queue-is)
      (fitting-classes kind t.traffic u q.eject.queued q.queued.held)))

  traffic-is : (awake_as u q.eject (kind, durable) t).traffic ≡ misfits_answered kind q.eject.queued t.traffic
  unfolding on_traffic on_eject
  traffic-is = refl

  traffic-on : (on_eject u started t).traffic ≡ t.traffic
  unfolding on_eject
  traffic-on = refl

  pub wakes : IsAt new later (site_turn reach (event.Activate u end.Ok p) s)
  wakes = subst (IsAt new later) (sym turn-is) (record {
    parts = stays-on_traffic new (on_eject u started t) (misfits_answered kind q.eject.queued)
        (keeps-misfits kind q.eject.queued (on_eject u started t).traffic)
        (stays-at n new t u started q.eject q.is only here classes at.parts);
    calls = subst (Carries later) (sym traffic-is)
        (subst (λ k. Carries later (misfits_answered k q.eject.queued t.traffic)) kind-is joined.calls);
  })

-- 6. It does not start

away-is : (how : StartEnd) (why : Status) (u : Uid) (t : Site) → answer_of how ≡ Some why → activated u how t ≡ turned_away u why t
away-is end.Ok why u t is = absurd (cc is)
away-is end.Gone why u t is = let same : status.Gone ≡ why = cc is in ap (λ x. turned_away u x t) same
away-is end.Fault why u t is = let same : status.StoreFault ≡ why = cc is in ap (λ x. turned_away u x t) same
away-is end.Damaged why u t is = let same : status.Damaged ≡ why = cc is in ap (λ x. turned_away u x t) same
away-is end.Stop why u t is = absurd (cc is)

module _ (reach : ℕ → Bool) (n : Parts) (ws : List (Uid × List ℕ)) (m later : Mail) (s : Site) (u : Uid) (how : StartEnd) (p : Option Pick)
    (why : Status) (sound : IsSoundSite s) (allowed : AllowsAt s (event.Activate u how p)) (answered : answer_of how ≡ Some why)
    (at : IsAt n m (start_settled p s)) (left : LeavesQueue u n.waiting ws)
    (reply : (t : Traffic) → Carries m t → AreOut t (queue_in (value_at uid_cmp u n.waiting))
    → Distinct (queue_in (value_at uid_cmp u n.waiting))
    → Carries later (all_replied why (queue_in (value_at uid_cmp u n.waiting)) t)) where
  abbrev t1 : Site
  t1 = start_settled p s

  q1 : QueuedAt n t1 u
  q1 = queued-at n s u how p sound at.parts allowed

  turned-is : activated u how t1 ≡ on_traffic (all_replied why q1.eject.queued) (on_eject u (with_queued []) t1)
  turned-is = away-is how why u t1 answered
      ∙ ap (λ o. with_item o (λ e. on_traffic (all_replied why e.queued) (on_eject u (with_queued []) t1)) t1) q1.is

  only-queue : OnlyAt u n (with_waiting ws n)
  only-queue = record {
    node = record { number = refl; types = refl; epoch = refl; last_serial = refl };
    others = λ v other. record { standing = refl; waiting = left v ∙ rw (flipped u v other) refl };
  }

  nothing : value_at uid_cmp u ws ≡ None
  nothing = left u ∙ rw (tied_itself uid_cmp_total u) refl

  emptied : known (Some (with_queued [] q1.eject)) ≡ held_of (with_waiting ws n) u
  emptied =
      let here : known (Some q1.eject) ≡ held_of n u = ap known (sym q1.is) ∙ at.parts.ejects u in
      same-known (ap (λ (k : Known). k.active) here)
      (sym (ap (λ o. queue_of o (value_at uid_cmp u ws)) q1.none ∙ ap queue_in nothing))
      (ap (λ (k : Known). k.there) here)

  turned-traffic : (on_traffic (all_replied why q1.eject.queued) (on_eject u (with_queued []) t1)).traffic
      ≡ all_replied why q1.eject.queued t1.traffic
  unfolding on_traffic on_eject
  turned-traffic = refl

  pub turns-away : IsAt (with_waiting ws n) later (site_turn reach (event.Activate u how p) s)
  turns-away = subst (IsAt (with_waiting ws n) later) (sym turned-is) (record {
    parts = stays-on_traffic (with_waiting ws n) (on_eject u (with_queued []) t1) (all_replied why q1.eject.queued)
        (keeps-all_replied why q1.eject.queued (on_eject u (with_queued []) t1).traffic)
        (stays-at n (with_waiting ws n) t1 u (with_queued []) q1.eject q1.is only-queue emptied (at.parts.classes u) at.parts);
    calls = subst (Carries later) (sym turned-traffic)
        (subst (λ ks. Carries later (all_replied why ks t1.traffic)) (sym q1.queue)
        (reply t1.traffic at.calls
        (subst (AreOut t1.traffic) q1.queue (held-all-out m t1.traffic u q1.eject.queued at.calls q1.queued.held))
        (subst Distinct q1.queue q1.queued.once)));
  })
