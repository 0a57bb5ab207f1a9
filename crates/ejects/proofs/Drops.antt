-- An active part that ends in the node ends at the site: by a fault, by `deactivate`.
use Rattle.std.proofs.Common.{◌≡◌, ℕ, Bool, true, false, cond, List, [], Option, None, Some, refl, sym, ◌∙◌, ap, subst}
use Rattle.std.specs.Prelude.{is_some, filter_map}
use Rattle.std.specs.Option.{option_map}
use Rattle.std.specs.FinMap.Entries.{find-put}
use Rattle.std.proofs.lemmas.Cmp.{tied_itself}
use Rattle.capability.proofs.Uids.{uid_cmp_total, uid_cmp-IsAntisymmetric}
use Rattle.eden_model.proofs.Laws.{value-changed_same}
use Rattle.capability.specs.declared.Uid.{Uid}
use Rattle.eden_value.specs.declared.status.Status.{Status}
use Rattle.eden_value.specs.declared.status.Status.TheVariants as status
use Rattle.eden_model.specs.Map.{value_at, put_at, uid_cmp, with_item}
use Rattle.eden_model.specs.Crew.{running}
use Rattle.eden_model.specs.Traffic.{Traffic, all_replied, orphaned}
use Rattle.epl_syntax.specs.declared.effect.Effect.TheVariants as effect
use Rattle.epl_syntax.specs.declared.effect.FaultCause.{FaultCause}
use Rattle.epl_syntax.specs.Meaning.{Turned}
use Rattle.journal.specs.World.{Active, Eject, Node, Site, eject_in, on_eject, on_node, on_traffic}
use Rattle.journal.specs.Ejects.{dropped_of, with_active, with_queued, on_active, is_kept, is_there, without_requests, without_active}
use Rattle.journal.specs.Ejects.{deactivated, turned_away, gone_if_unkept}
use Rattle.journal.specs.Processes.{turn_of, turned, process_turn}
use Rattle.active_part.specs.Body.{Body, active_of, calls_of}
use Rattle.ejects.specs.Parts.{Parts, Known, known, queue_of, body_at, held_of, Stands}
use Rattle.active_part.specs.Bodies.{turned_body}
use Rattle.ejects.specs.Passive.{HoldsPassive, IsKeptIn}
use Rattle.ejects.specs.Replies.{slept}
use Rattle.ejects.proofs.Stays.{stays-on_traffic, stays-at}
use Rattle.ejects.proofs.Keeping.{keeps-both, keeps-all_replied, keeps-orphaned}
use Rattle.ejects.specs.View.{with_body}
use Rattle.ejects.proofs.Delivered.{IsActiveAs, active-as, same-known, FoundEject, found-active, body-now, table-other}
use Rattle.ejects.proofs.Turns.{stays-active, effect-is}

-- 1. A change of the node that leaves its Ejects

pub stays-on_node : (n : Parts) (s : Site) (f : Node → Node) → (f s.node).ejects ≡ s.node.ejects → (f s.node).epoch ≡ s.node.epoch
    → (f s.node).last_serial ≡ s.node.last_serial → Stands n s → Stands n (on_node f s)
unfolding on_node
stays-on_node n s f same epoch serial h = record {
  number = h.number;
  types = h.types;
  epoch = ap (λ o. with_item o (λ e. e) 0) epoch ∙ h.epoch;
  serial = serial ∙ h.serial;
  ejects = λ u. ap (λ es. known (value_at uid_cmp u es)) same ∙ h.ejects u;
  classes = h.classes;
}

-- 2. The active part goes, and its queue stays

pub passive-stands : (n new : Parts) (s : Site) (u : Uid) (b : Body) (stays : Bool) → Stands n s → body_at n u ≡ Some b
    → IsKeptIn s u stays → HoldsPassive u n new (calls_of b.crew.queued) stays
    → Stands new (on_eject u (with_active None) s)
passive-stands n new s u b stays h at kept now =
    let f = found-active n s u b h at in
    let was = active-as n u b f.eject (ap known (sym f.is) ∙ h.ejects u) at in
    stays-at n new s u (with_active None) f.eject f.is now.only
    (same-known (ap (option_map active_of) (sym now.none)) (was.queued ∙ sym now.queue) (kept.at f.eject f.is ∙ sym now.there))
    (rw now.none tt) h

-- 3. The queue goes

pub emptied-stands : (n new : Parts) (s : Site) (u : Uid) (e : Eject) (stays : Bool) → eject_in s u ≡ Some e → Stands n s
    → body_at n u ≡ None → is_some (n.standing u) ≡ stays → HoldsPassive u n new [] stays
    → Stands new (on_eject u (with_queued []) s)
emptied-stands n new s u e stays is h none there now =
    let here : known (Some e) ≡ held_of n u = ap known (sym is) ∙ h.ejects u in
    stays-at n new s u (with_queued []) e is now.only
    (same-known (ap (λ (k : Known). k.active) here ∙ ap (option_map active_of) (none ∙ sym now.none)) (sym now.queue)
    (ap (λ (k : Known). k.there) here ∙ there ∙ sym now.there))
    (rw now.none tt) h

-- 4. The whole of it

module _ (n : Parts) (s : Site) (u : Uid) (b : Body) (stays : Bool) (h : Stands n s) (at : body_at n u ≡ Some b)
    (kept : IsKeptIn s u stays) where
  found : FoundEject (eject_in s u) (held_of n u)
  found = found-active n s u b h at

  was : IsActiveAs b found.eject
  unfolding found
  was = active-as n u b found.eject (ap known (sym found.is) ∙ h.ejects u) at

  dropping : Traffic → Traffic
  dropping t = all_replied status.Dropped (running b.crew.crew) (orphaned u t)

  pub deactivated-is : deactivated u s ≡ on_traffic (λ t. all_replied status.Dropped (running b.crew.crew) (orphaned u t))
      (on_eject u (with_active None) (on_node (without_requests u) s))
  unfolding found was
  deactivated-is = ap (λ o. with_item o (λ e. with_item e.active (λ it. without_active u it s) s) s) found.is ∙ ap
      (λ o. with_item o (λ it. without_active u it s) s) was.active

  same-ejects : (e : Eject) → eject_in (on_node (without_requests u) s) u ≡ Some e → eject_in s u ≡ Some e
  unfolding on_node
  same-ejects e is = is

  pub deactivated-stands : (new : Parts) → HoldsPassive u n new (calls_of b.crew.queued) stays → Stands new (deactivated u s)
  deactivated-stands new now = rw deactivated-is
      (stays-on_traffic new _ (λ t. all_replied status.Dropped (running b.crew.crew) (orphaned u t))
      (keeps-both _ _ _ (keeps-orphaned u _) (keeps-all_replied status.Dropped (running b.crew.crew) _))
      (passive-stands n new (on_node (without_requests u) s) u b stays
      (stays-on_node n s (without_requests u) refl refl refl h) at kept_there now))
    where
      kept_there : IsKeptIn (on_node (without_requests u) s) u stays
      kept_there = record { at = λ e is. kept.at e (same-ejects e is) }

  pub deactivated-traffic : (deactivated u s).traffic ≡ all_replied status.Dropped (running b.crew.crew) (orphaned u s.traffic)
  unfolding on_traffic on_eject on_node
  deactivated-traffic = ap (λ (x : Site). x.traffic) deactivated-is

  deactivated-eject : eject_in (deactivated u s) u ≡ Some (with_active None found.eject)
  unfolding on_traffic on_eject on_node found
  deactivated-eject = ap (λ x. eject_in x u) deactivated-is ∙ value-changed_same uid_cmp uid_cmp_total uid_cmp-IsAntisymmetric u
      (with_active None) s.node.ejects ∙ ap (option_map (with_active None)) found.is

  queued-is : found.eject.queued ≡ calls_of b.crew.queued
  queued-is = was.queued

  away-is : (why : Status) → turned_away u why (deactivated u s) ≡ on_traffic (all_replied why (calls_of b.crew.queued))
      (on_eject u (with_queued []) (deactivated u s))
  away-is why = ap (λ o. with_item o (λ e. on_traffic (all_replied why e.queued) (on_eject u (with_queued []) (deactivated u s)))
      (deactivated u s)) deactivated-eject
      ∙ ap (λ ks. on_traffic (all_replied why ks) (on_eject u (with_queued []) (deactivated u s))) queued-is

  -- the node's parts while the queue is still there
  between : Parts → Parts
  between new = record new { waiting = put_at uid_cmp u (calls_of b.crew.queued) new.waiting }

  waits-here : (new : Parts) → value_at uid_cmp u (put_at uid_cmp u (calls_of b.crew.queued) new.waiting) ≡ Some (calls_of b.crew.queued)
  waits-here new = find-put uid_cmp uid_cmp_total u u _ new.waiting ∙ rw (tied_itself uid_cmp_total u) refl

  holds-between : (new : Parts) → HoldsPassive u n new [] stays → HoldsPassive u n (between new) (calls_of b.crew.queued) stays
  unfolding between
  holds-between new now = record {
    only = record {
      node = record {
        number = now.only.node.number;
        types = now.only.node.types;
        epoch = now.only.node.epoch;
        last_serial = now.only.node.last_serial;
      };
      others = λ v other. record {
        standing = (now.only.others v other).standing;
        waiting = find-put uid_cmp uid_cmp_total v u _ new.waiting ∙ rw other (now.only.others v other).waiting;
      };
    };
    none = now.none;
    queue = ap (λ o. queue_of o (value_at uid_cmp u (put_at uid_cmp u (calls_of b.crew.queued) new.waiting))) now.none
        ∙ ap (queue_of None) (waits-here new);
    there = now.there;
  }

  holds-emptied : (new : Parts) → HoldsPassive u n new [] stays → HoldsPassive u (between new) new [] stays
  unfolding between
  holds-emptied new now = record {
    only = record {
      node = record { number = refl; types = refl; epoch = refl; last_serial = refl };
      others = λ v other. record { standing = refl; waiting = sym (find-put uid_cmp uid_cmp_total v u _ new.waiting ∙ rw other refl) };
    };
    none = now.none;
    queue = now.queue;
    there = now.there;
  }

  pub away-stands : (new : Parts) (why : Status) → HoldsPassive u n new [] stays → Stands new (turned_away u why (deactivated u s))
  away-stands new why now = rw (away-is why)
      (stays-on_traffic new _ (all_replied why (calls_of b.crew.queued)) (keeps-all_replied why (calls_of b.crew.queued) _)
      (emptied-stands (between new) new (deactivated u s) u (with_active None found.eject) stays deactivated-eject
      (deactivated-stands (between new) (holds-between new now))
      (holds-between new now).none (holds-between new now).there (holds-emptied new now)))

  pub away-traffic : (why : Status) → (turned_away u why (deactivated u s)).traffic ≡ all_replied why (calls_of b.crew.queued)
      (all_replied status.Dropped (running b.crew.crew) (orphaned u s.traffic))
  unfolding on_traffic on_eject
  away-traffic why = ap (λ (x : Site). x.traffic) (away-is why) ∙ ap (all_replied why (calls_of b.crew.queued)) deactivated-traffic

  -- what is left of one that deactivates itself
  abbrev pub left_queue : Bool → List ℕ
  left_queue kept = cond kept (calls_of b.crew.queued) []

  there-is : is_there (with_active None found.eject) ≡ stays
  unfolding found
  there-is = kept.at found.eject found.is

  gone-is : gone_if_unkept u (deactivated u s) ≡ cond stays (deactivated u s) (turned_away u status.Gone (deactivated u s))
  gone-is = ap (λ o. with_item o (λ e. cond (is_there e) (deactivated u s) (turned_away u status.Gone (deactivated u s)))
      (deactivated u s)) deactivated-eject
      ∙ ap (λ b. cond b (deactivated u s) (turned_away u status.Gone (deactivated u s))) there-is

-- 5. The requests of the node

answered-requests : (u : Uid) (why : Status) (x : Site) (o : Option Eject)
    → (with_item o (λ e. on_traffic (all_replied why e.queued) (on_eject u (with_queued []) x)) x).node.requests ≡ x.node.requests
unfolding on_traffic on_eject
answered-requests u why x None = refl
answered-requests u why x (Some e) = refl

away-requests : (u : Uid) (why : Status) (x : Site) → (turned_away u why x).node.requests ≡ x.node.requests
away-requests u why x = answered-requests u why x (eject_in x u)

gone-requests : (u : Uid) (x : Site) → (gone_if_unkept u x).node.requests ≡ x.node.requests
gone-requests u x = go (eject_in x u)
  where
    each : (b : Bool) → (cond b x (turned_away u status.Gone x)).node.requests ≡ x.node.requests
    each true = refl
    each false = away-requests u status.Gone x

    go : (o : Option Eject) → (with_item o (λ e. cond (is_there e) x (turned_away u status.Gone x)) x).node.requests ≡ x.node.requests
    go None = refl
    go (Some e) = each (is_there e)

-- 6. The turn that faults, and the one that deactivates

module _ (n : Parts) (s : Site) (u : Uid) (p : ℕ) (b : Body) (stays : Bool) (h : Stands n s) (at : body_at n u ≡ Some b)
    (kept : IsKeptIn s u stays) (reach : ℕ → Bool) (t : Turned) (is : turn_of u (active_of b) p ≡ Some t) where
  abbrev later : Site
  later = on_eject u (on_active (turned p t)) s

  abbrev parts : Parts
  parts = with_body u (turned_body p t b) n

  later-stands : Stands parts later
  later-stands = stays-active n s u b (turned_body p t b) (turned p t) h at refl refl refl

  kept-later : IsKeptIn later u stays
  unfolding on_eject
  kept-later = record {
    at = λ e found. go (eject_in s u) refl e
        (sym (value-changed_same uid_cmp uid_cmp_total uid_cmp-IsAntisymmetric u (on_active (turned p t)) s.node.ejects) ∙ found);
  }
    where
      same : (e : Eject) → is_kept (on_active (turned p t) e) ≡ is_kept e
      same e = each e.active
        where
          each : (o : Option Active) → is_kept (with_item o (λ it. with_active (Some (turned p t it)) e) e) ≡ is_kept e
          each None = refl
          each (Some it) = refl

      go : (o : Option Eject) → eject_in s u ≡ o → (e : Eject) → option_map (on_active (turned p t)) (eject_in s u) ≡ Some e
          → is_kept e ≡ stays
      go None none e found = absurd (let bad : None ≡ Some e = ap (option_map (on_active (turned p t))) (sym none) ∙ found in cc bad)
      go (Some x) some e found =
          let both : Some (on_active (turned p t) x) ≡ Some e = ap (option_map (on_active (turned p t))) (sym some) ∙ found in
          let one : on_active (turned p t) x ≡ e = cc both in
          ap is_kept (sym one) ∙ same x ∙ kept.at x some

  passive-now : (new : Parts) (queued : List ℕ) → HoldsPassive u n new queued stays → HoldsPassive u parts new queued stays
  passive-now new queued now = record {
    only = record {
      node = record {
        number = now.only.node.number;
        types = now.only.node.types;
        epoch = now.only.node.epoch;
        last_serial = now.only.node.last_serial;
      };
      others = λ v other. record {
        standing = (now.only.others v other).standing ∙ sym
            (table-other n u v (Some (turned_body p t b)) other);
        waiting = (now.only.others v other).waiting;
      };
    };
    none = now.none;
    queue = now.queue;
    there = now.there;
  }

  pub fault-stands : (new : Parts) (cause : FaultCause) → t.effect ≡ effect.Fault cause → HoldsPassive u n new [] stays
      → Stands new (process_turn reach u p s)
  fault-stands new cause same now = rw (effect-is n s u p b h at reach t is (effect.Fault cause) same)
      (away-stands parts later u (turned_body p t b) stays later-stands (body-now n u (turned_body p t b)) kept-later new status.Dropped
      (passive-now new [] now))

  pub fault-traffic : (cause : FaultCause) → t.effect ≡ effect.Fault cause
      → (process_turn reach u p s).traffic ≡ all_replied status.Dropped (calls_of b.crew.queued)
      (all_replied status.Dropped (running b.crew.crew) (orphaned u s.traffic))
  unfolding on_eject
  fault-traffic cause same = ap (λ (x : Site). x.traffic) (effect-is n s u p b h at reach t is (effect.Fault cause) same)
      ∙ away-traffic parts later u (turned_body p t b) stays later-stands (body-now n u (turned_body p t b)) kept-later status.Dropped

  pub sleeps-stands : (new : Parts) → t.effect ≡ effect.Deactivate → HoldsPassive u n new (cond stays (calls_of b.crew.queued) []) stays
      → Stands new (process_turn reach u p s)
  sleeps-stands new same now = rw (
    effect-is n s u p b h at reach t is effect.Deactivate same,
    gone-is parts later u (turned_body p t b) stays later-stands (body-now n u (turned_body p t b)) kept-later,
  ) (go stays refl)
    where
      go : (x : Bool) → stays ≡ x → Stands new (cond stays (deactivated u later) (turned_away u status.Gone (deactivated u later)))
      go true is = subst (λ y. Stands new (cond y (deactivated u later) (turned_away u status.Gone (deactivated u later)))) (sym is)
          (deactivated-stands parts later u (turned_body p t b) stays later-stands (body-now n u (turned_body p t b)) kept-later new
          (passive-now new (calls_of b.crew.queued) (subst (λ y. HoldsPassive u n new (cond y (calls_of b.crew.queued) []) stays) is now)))
      go false is = subst (λ y. Stands new (cond y (deactivated u later) (turned_away u status.Gone (deactivated u later)))) (sym is)
          (away-stands parts later u (turned_body p t b) stays later-stands (body-now n u (turned_body p t b)) kept-later new status.Gone
          (passive-now new [] (subst (λ y. HoldsPassive u n new (cond y (calls_of b.crew.queued) []) stays) is now)))

  pub sleeps-traffic : t.effect ≡ effect.Deactivate → (process_turn reach u p s).traffic ≡ slept u stays b s.traffic
  unfolding on_eject
  sleeps-traffic same = ap (λ (x : Site). x.traffic) (effect-is n s u p b h at reach t is effect.Deactivate same)
      ∙ ap (λ (x : Site). x.traffic) (gone-is parts later u (turned_body p t b) stays later-stands
      (body-now n u (turned_body p t b)) kept-later) ∙ go stays
    where
      go : (x : Bool) → (cond x (deactivated u later) (turned_away u status.Gone (deactivated u later))).traffic ≡ slept u x b s.traffic
      go true = deactivated-traffic parts later u (turned_body p t b) stays later-stands (body-now n u (turned_body p t b)) kept-later
      go false = away-traffic parts later u (turned_body p t b) stays later-stands (body-now n u (turned_body p t b)) kept-later status.Gone

  drops-requests : (deactivated u later).node.requests ≡ filter_map (dropped_of u) s.node.requests
  unfolding on_traffic on_eject on_node
  drops-requests = ap (λ (x : Site). x.node.requests)
      (deactivated-is parts later u (turned_body p t b) stays later-stands (body-now n u (turned_body p t b)) kept-later)

  pub fault-requests : (cause : FaultCause) → t.effect ≡ effect.Fault cause
      → (process_turn reach u p s).node.requests ≡ filter_map (dropped_of u) s.node.requests
  fault-requests cause same = ap (λ (x : Site). x.node.requests) (effect-is n s u p b h at reach t is (effect.Fault cause) same)
      ∙ away-requests u status.Dropped (deactivated u later) ∙ drops-requests

  pub sleeps-requests : t.effect ≡ effect.Deactivate → (process_turn reach u p s).node.requests ≡ filter_map (dropped_of u) s.node.requests
  sleeps-requests same = ap (λ (x : Site). x.node.requests) (effect-is n s u p b h at reach t is effect.Deactivate same)
      ∙ gone-requests u (deactivated u later) ∙ drops-requests
