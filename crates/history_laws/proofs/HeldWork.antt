-- Each call that is held at an Eject is one that it runs or has queued: what the parts of a turn keep of that.
use Rattle.std.proofs.Common.{◌≡◌, ◌==◌, ◌+◌, ◌≤◌, ℕ, nat_le, Bool, true, false, cond, not, ◌&&◌, ◌||◌, T, List, [], ◌∷◌, ◌++◌, Option}
use Rattle.std.proofs.Common.{None, Some, is_some, Result, Ok, Err, length, refl, sym, ◌∙◌, ap, subst, arith}
use Rattle.std.specs.Prelude.{IsSomeAnd, IfSome}
use Rattle.std.proofs.lemmas.Bool.{eq-eqb, eqb-true}
use Rattle.std.proofs.lemmas.Cmp.{tied_itself}
use Rattle.std.specs.Cmp.{nat_cmp_total}
use Rattle.std.specs.List.{filter, filter_map, cons_option}
use Rattle.std.specs.Option.{option_map}
use Rattle.std.specs.Ordering.{nat_cmp, eq_by_cmp, is_eq, is_lt}
use Rattle.std.specs.declared.cmp.Ordering.{Ordering}
use Rattle.std.specs.declared.cmp.Ordering.TheVariants.{Less, Equal, Greater}
use Rattle.std.specs.FinMap.Entries.{by_order, is_sorted, below_all, find-put}
use Rattle.capability.specs.declared.Uid.{Uid}
use Rattle.capability.specs.declared.Cap.{Cap}
use Rattle.capability.specs.declared.TheConstants.{BODY_LIMIT, MESSAGE_LIMIT}
use Rattle.capability.specs.Capability.{full}
use Rattle.capability.proofs.Uids.{uid_cmp_total, uid_cmp-IsAntisymmetric}
use Rattle.eden_value.specs.Datum.{Datum}
use Rattle.eden_value.specs.declared.status.Status.{Status}
use Rattle.eden_value.specs.declared.status.Status.TheVariants as status
use Rattle.eden_codec.specs.Spelling.{spelling, values_size}
use Rattle.eden_model.specs.Map.{with_item, rest, value_at, put_at, where_key, each_value, uid_cmp}
use Rattle.eden_model.proofs.Laws.{eq-same}
use Rattle.eden_model.proofs.Numbers.{same-true, same-self}
use Rattle.eden_model.proofs.FreeNumbers.{free-none, least_free-free}
use Rattle.eden_model.specs.Crew.{Crew, Process as Worker, Waiting, Invocation, nothing, outside, set_waits, locked, left, waited}
use Rattle.eden_model.specs.Crew.{signalled, running, call_of, leave_held, ended, least_free, started}
use Rattle.eden_model.specs.declared.Asker.{Asker}
use Rattle.eden_model.specs.declared.Asker.TheVariants.{Shell, Eject as Process}
use Rattle.eden_model.specs.Traffic.{Place, asked, held, answered, done as over, Traffic, Call, call_at, asking_station, target_station}
use Rattle.eden_model.specs.Traffic.{next_call, changed_call, at_place, closed, sent, taken, replied, all_replied, new_call, with_call}
use Rattle.eden_model.specs.Traffic.{asks, orphaned, in_transit, touches, crashed_call, on_link, cut_call, without_node, without_link}
use Rattle.epl_syntax.specs.declared.effect.Answer.{Answer}
use Rattle.epl_syntax.specs.declared.effect.Answer.TheVariants.{Code, Reply as Told, Created as Made}
use Rattle.epl_syntax.specs.declared.effect.Effect.{Effect}
use Rattle.epl_syntax.specs.declared.effect.Effect.TheVariants as effect
use Rattle.epl_syntax.specs.Edentype.{Edentype}
use Rattle.epl_syntax.specs.Meaning.{Turned, rep_of, type_of, first_values, values_from}
use Rattle.passive_store.specs.declared.store.Pick.{Pick}
use Rattle.journal.specs.EjectChange.{EjectChange, body, removal, kept_of}
use Rattle.journal.specs.declared.event.BootEnd.{BootEnd}
use Rattle.journal.specs.declared.event.BootEnd.TheVariants as boot_end
use Rattle.journal.specs.declared.event.StartEnd.{StartEnd}
use Rattle.journal.specs.declared.event.StartEnd.TheVariants as start_end
use Rattle.journal.specs.declared.event.RequestEnd.{RequestEnd}
use Rattle.journal.specs.declared.event.RequestEnd.TheVariants as end
use Rattle.journal.specs.World.{Active, Eject, StoreRequest, Node, Site, eject_in, on_eject, on_node, on_traffic}
use Rattle.journal.specs.Ejects.{with_active, with_queued, on_active, on_crew, is_there, told, tells, without_requests, deactivated}
use Rattle.journal.specs.Ejects.{turned_away, gone_if_unkept, fresh, next_uid, newborn, born}
use Rattle.journal.specs.Deliveries.{misfit, requested, tells_asker, received, heard}
use Rattle.journal.specs.Processes.{AllowsStart, invocation, turn_of, turned, serving, with_start, start, without_process, asks_store}
use Rattle.journal.specs.Processes.{answers, refused_at_once, waits_or_told, creates, checkpoints, effected, process_turn}
use Rattle.journal.specs.Settling.{first_request, settled_eject, settled_node, settled, unsynced, written_with, to_settle}
use Rattle.journal.specs.Crashes.{crashed}
use Rattle.journal.specs.Stores.{Work, syncs, reads, unkept, without_room, calls, work_of, more_made, doubted, tells_code, request_ended}
use Rattle.journal.specs.Stores.{removed, stored, done, worked, store_turn}
use Rattle.journal.specs.Starts.{start_of, misfits_answered, fits_at, awake_as, activated, start_settled, activation_turn}
use Rattle.journal.specs.Boots.{booted_node, boot_turn}
use Rattle.journal.specs.Step.{IsActiveAnd}
use Rattle.journal.specs.Sites.{IsManned, runs_of, active_in, IsHeldAt}
use Rattle.history_laws.proofs.Frame.{eject-on_eject}
use Rattle.history_laws.proofs.KeptTurns.{value-each}
use Rattle.history_laws.proofs.Messages.{value-calls}
use Rattle.history_laws.proofs.Manned.{sorted-waits, manned-turned}
use Rattle.history_laws.proofs.Fits.{times, times_in}
use Rattle.history_laws.proofs.Times.{times-append, call-changed, call-more}
use Rattle.history_laws.proofs.SiteChanges.{SameParts}
use Rattle.history_laws.proofs.SiteCrews.{runs-set, runs-left, runs-held, by-held, serves_at, serves-with_waits}
use Rattle.history_laws.proofs.SiteQueues.{runs-locked, runs-waited, runs-signalled}
use Rattle.history_laws.proofs.SiteParts.{HasPart, eject-here}
use Rattle.history_laws.proofs.Tasks.{FitsEffect, EffectFits}
use Rattle.history_laws.proofs.SiteTurns.{IsNew}
use Rattle.history_laws.proofs.SiteEvents.{startable-there}
use Rattle.history_laws.proofs.SiteStores.{fits-replied, same-settled, active-started}

abbrev Held : Uid → Call → Type 0
Held u c = (c.place ≡ held) × (c.target.uid ≡ u)

-- 1. The messages: nothing is held that was not, and these calls are not

pub record Lets (ks : List ℕ) (t new : Traffic) : Type 0 where
  pub back : (u : Uid) (k : ℕ) → IsHeldAt new u k → IsHeldAt t u k
  pub out : (u : Uid) (k : ℕ) → IsHeldAt new u k → times k ks ≡ 0

lets-same : (t : Traffic) → Lets [] t t
lets-same t = record { back = λ u k on. on; out = λ u k on. refl }

lets-then : (ks js : List ℕ) (t new later : Traffic) → Lets ks t new → Lets js new later → Lets (ks ++ js) t later
lets-then ks js t new later a b = record {
  back = λ u k on. a.back u k (b.back u k on);
  out = λ u k on. omega (arith, a.out u k (b.back u k on), b.out u k on, times-append k ks js);
}

lets-drop : (ks : List ℕ) (t new : Traffic) → Lets ks t new → Lets [] t new
lets-drop ks t new a = record { back = a.back; out = λ u k on. refl }

lets-transit : (t : Traffic) (transit : List ℕ) → Lets [] t (record t { transit = transit })
lets-transit t transit = record { back = λ u k on. on; out = λ u k on. refl }

lets-changed : (k : ℕ) (f : Call → Call) (t : Traffic) → ((c : Call) → (f c).place ≡ held → ⊥) → Lets (k ∷ []) t (changed_call k f t)
lets-changed k f t never = record { back = λ u j on. (both u j on).0; out = λ u j on. (both u j on).1 }
  where
    none : (u : Uid) (o : Option Call) → IsSomeAnd (option_map f o) (Held u) → ⊥
    none u None x = x
    none u (Some c) x = never c x.0

    by : (u : Uid) (j : ℕ) (b : Bool) → eq_by_cmp nat_cmp j k ≡ b → IsSomeAnd (cond b (option_map f (call_at t j)) (call_at t j)) (Held u)
        → IsHeldAt t u j × (times j (k ∷ []) ≡ 0)
    by u j true same x = absurd (none u (call_at t j) x)
    by u j false same x = (x, rw same refl)

    both : (u : Uid) (j : ℕ) → IsHeldAt (changed_call k f t) u j → IsHeldAt t u j × (times j (k ∷ []) ≡ 0)
    both u j on = by u j (eq_by_cmp nat_cmp j k) refl (subst (λ o. IsSomeAnd o (Held u)) (call-changed j k f t) on)

lets-none : (k : ℕ) (t : Traffic) → call_at t k ≡ None → Lets (k ∷ []) t t
lets-none k t none = record { back = λ u j on. on; out = λ u j on. by u j on (eq_by_cmp nat_cmp j k) refl }
  where
    by : (u : Uid) (j : ℕ) → IsHeldAt t u j → (b : Bool) → eq_by_cmp nat_cmp j k ≡ b → times j (k ∷ []) ≡ 0
    by u j on true same = absurd (subst (λ o. IsSomeAnd o (Held u)) (ap (call_at t) (same-true j k same) ∙ none) on)
    by u j on false same = rw same refl

answered-apart : (why : Status) (results : List Datum) (c : Call) → (at_place (answered why results) c).place ≡ held → ⊥
answered-apart why results c is = let bad : answered why results ≡ held = is in cc bad

over-apart : (c : Call) → (at_place over c).place ≡ held → ⊥
over-apart c is = let bad : over ≡ held = is in cc bad

lets-replied : (why : Status) (results : List Datum) (k : ℕ) (t : Traffic) → Lets (k ∷ []) t (replied why results k t)
lets-replied why results k t = go (call_at t k) refl
  where
    one : (b : Bool) → Lets (k ∷ []) t (cond b (sent k (answered why results) t) (changed_call k (at_place over) t))
    one true = let x = lets-changed k (at_place (answered why results)) t (answered-apart why results) in
        record { back = x.back; out = x.out }
    one false = lets-changed k (at_place over) t over-apart

    go : (o : Option Call) → call_at t k ≡ o → Lets (k ∷ []) t
        (with_item o (λ c. cond c.open_ (sent k (answered why results) t) (changed_call k (at_place over) t)) t)
    go None is = lets-none k t is
    go (Some c) is = one c.open_

lets-all_replied : (why : Status) (ks : List ℕ) (t : Traffic) → Lets ks t (all_replied why ks t)
lets-all_replied why [] t = lets-same t
lets-all_replied why (k ∷ ks) t = lets-then (k ∷ []) ks t (replied why [] k t) _ (lets-replied why [] k t)
    (lets-all_replied why ks (replied why [] k t))

-- a change of each call that leaves those that are held then
lets-each : (f : Call → Call) (t : Traffic) (transit : List ℕ)
    → ((c : Call) → (f c).place ≡ held → (c.place ≡ held) × ((f c).target ≡ c.target))
    → Lets [] t (record { calls = each_value f t.calls; transit = transit })
lets-each f t transit keep = record {
  back = λ u k on. by u (call_at t k) (subst (λ o. IsSomeAnd o (Held u)) (value-calls k f t.calls) on);
  out = λ u k on. refl;
}
  where
    by : (u : Uid) (o : Option Call) → IsSomeAnd (option_map f o) (Held u) → IsSomeAnd o (Held u)
    by u None x = x
    by u (Some c) x = let y = keep c x.0 in (y.0, ap (λ (z : Cap). z.uid) (sym y.1) ∙ x.1)

lost-held : (x : Bool) (p : Place) → cond x over p ≡ held → p ≡ held
lost-held true p is = absurd (let bad : over ≡ held = is in cc bad)
lost-held false p is = is

lets-orphaned : (v : Uid) (t : Traffic) → Lets [] t (orphaned v t)
lets-orphaned v t = lets-each (λ c. cond (asks v c.asker) (record c { open_ = false }) c) t t.transit (λ c is. by (asks v c.asker) c is)
  where
    by : (b : Bool) (c : Call) → (cond b (record c { open_ = false }) c).place ≡ held
        → (c.place ≡ held) × ((cond b (record c { open_ = false }) c).target ≡ c.target)
    by true c is = (is, refl)
    by false c is = (is, refl)

lets-lost : (b x : Bool) (c : Call) → (cond b (record c { open_ = false; place = cond x over c.place }) c).place ≡ held
    → (c.place ≡ held) × ((cond b (record c { open_ = false; place = cond x over c.place }) c).target ≡ c.target)
lets-lost true x c is = (lost-held x c.place is, refl)
lets-lost false x c is = (is, refl)

pub lets-without_link : (a b : ℕ) (t : Traffic) → Lets [] t (without_link a b t)
lets-without_link a b t = lets-each (cut_call a b) t _ (λ c is. lets-lost (on_link a b c) (in_transit c.place) c is)

lets-without_node : (n : ℕ) (t : Traffic) → Lets [] t (without_node n t)
lets-without_node n t = lets-each (crashed_call n) t _ (λ c is.
    lets-lost (touches n c) ((target_station c == n) || in_transit c.place) c is)

-- nothing is held on a node that has crashed
off-node : (n : ℕ) (t : Traffic) (u : Uid) (k : ℕ) → u.node ≡ n → IsHeldAt (without_node n t) u k → ⊥
off-node n t u k here on = by (call_at t k) (subst (λ o. IsSomeAnd o (Held u)) (value-calls k (crashed_call n) t.calls) on)
  where
    lost : (c : Call) (a : Bool) → a ≡ true → cond (a || in_transit c.place) over c.place ≡ held → ⊥
    lost c true is place = let bad : over ≡ held = place in cc bad
    lost c false is place = absurd (cc is)

    one : (c : Call) (b : Bool) → touches n c ≡ b → (cond b (record c {
      open_ = false;
      place =
          cond ((target_station c == n) || in_transit c.place) over c.place;
    }) c).place ≡ held
        → (cond b (record c { open_ = false; place = cond ((target_station c == n) || in_transit c.place) over c.place }) c).target.uid ≡ u
        → ⊥
    one c true is place at = lost c (target_station c == n) (eq-eqb (target_station c) n (ap (λ (v : Uid). v.node) at ∙ here)) place
    one c false is place at = let bad : true ≡ false = sym (ap (λ b. b || (asking_station c.asker == n))
        (eq-eqb (target_station c) n (ap (λ (v : Uid). v.node) at ∙ here))) ∙ is in cc bad

    by : (o : Option Call) → IsSomeAnd (option_map (crashed_call n) o) (Held u) → ⊥
    by None x = x
    by (Some c) x = one c (touches n c) refl x.0 x.1

abbrev calls_of : Option Invocation → List ℕ
calls_of None = []
calls_of (Some i) = i.call ∷ []

lets-answers : (i : Option Invocation) (results : List Datum) (t : Traffic) → Lets (calls_of i) t (answers i results t)
lets-answers None results t = lets-same t
lets-answers (Some i) results t = go (nat_le (values_size results) MESSAGE_LIMIT)
  where
    go : (b : Bool) → Lets (i.call ∷ []) t (cond b (replied status.Ok results i.call t) (replied status.TooLarge [] i.call t))
    go true = lets-replied status.Ok results i.call t
    go false = lets-replied status.TooLarge [] i.call t

pub lets-received : (k : ℕ) (t : Traffic) → Lets [] t (received k t)
lets-received k t = let x = lets-changed k closed (taken k t) (λ c is. (let bad : over ≡ held = is in cc bad)) in
    record { back = x.back; out = λ u j on. refl }

pub lets-call : (a : Asker) (target : Cap) (operation : List ℕ) (args : List Datum) (at_once : Option Status) (k : ℕ) (t : Traffic)
    → Lets [] t (with_call k a target operation args at_once t)
lets-call a target operation args at_once k t = record {
  back = λ u j on. by u j (eq_by_cmp nat_cmp j k) (subst (λ o. IsSomeAnd o (Held u)) (call-more k a target operation args at_once t j) on);
  out = λ u j on. refl;
}
  where
    new : (o : Option Status) → (new_call a target operation args o).place ≡ held → ⊥
    new None is = let bad : asked ≡ held = is in cc bad
    new (Some why) is = let bad : over ≡ held = is in cc bad

    by : (u : Uid) (j : ℕ) (b : Bool) → IsSomeAnd (cond b (Some (new_call a target operation args at_once)) (call_at t j)) (Held u)
        → IsHeldAt t u j
    by u j true x = absurd (new at_once x.0)
    by u j false x = x

lets-misfits : (t : Edentype) (ks : List ℕ) (fit : ℕ → Bool) (traffic : Traffic) → ((k : ℕ) → fits_at t traffic k ≡ fit k)
    → Lets (filter (λ k. not (fit k)) ks) traffic (misfits_answered t ks traffic)
lets-misfits t [] fit traffic same = lets-same traffic
lets-misfits t (k ∷ ks) fit traffic same = go (call_at traffic k) refl (fit k) (sym (same k)) (λ later more.
    lets-misfits t ks fit later more)
  where
    Goal : Bool → Traffic → Type 0
    Goal b later = Lets (cond (not b) (k ∷ filter (λ j. not (fit j)) ks) (filter (λ j. not (fit j)) ks)) traffic
        (misfits_answered t ks later)

    Next : Type 0
    Next = (later : Traffic) → ((j : ℕ) → fits_at t later j ≡ fit j)
        → Lets (filter (λ j. not (fit j)) ks) later (misfits_answered t ks later)

    one : (c : Call) (o : Option Status) (b : Bool) → b ≡ not (is_some o) → Next
        → Goal b (with_item o (λ status. replied status [] k traffic) traffic)
    one c None true is next = next traffic same
    one c None false is next = absurd (cc is)
    one c (Some why) true is next = absurd (cc is)
    one c (Some why) false is next = lets-then (k ∷ []) (filter (λ j. not (fit j)) ks) traffic (replied why [] k traffic) _
        (lets-replied why [] k traffic)
        (next (replied why [] k traffic) (λ j. fits-replied t why k traffic j ∙ same j))

    go : (o : Option Call) → call_at traffic k ≡ o → (b : Bool) → b ≡ with_item o (λ c. not (is_some (misfit t c))) false → Next
        → Goal b (with_item o (λ c. with_item (misfit t c) (λ status. replied status [] k traffic) traffic) traffic)
    go None at true is next = absurd (cc is)
    go None at false is next = lets-then (k ∷ []) (filter (λ j. not (fit j)) ks) traffic traffic _ (lets-none k traffic at)
        (next traffic same)
    go (Some c) at b is next = one c (misfit t c) b is next

-- 2. Sites

-- from a first site on: nothing is held that was not, and each call held at an Eject of the site is one that it has, but for these
pub record Part (ks : List ℕ) (first s : Site) : Type 0 where
  pub number : s.number ≡ first.number
  pub back : (u : Uid) (k : ℕ) → IsHeldAt s.traffic u k → IsHeldAt first.traffic u k
  pub has : (u : Uid) (k : ℕ) → u.node ≡ first.number → IsHeldAt s.traffic u k → times k ks ≡ 0 → 1 ≤ times_in k (eject_in s u)

part-on_node : (ks : List ℕ) (f : Node → Node) (first s : Site)
    → ((u : Uid) → SameParts (eject_in s u) (value_at uid_cmp u (f s.node).ejects)) → Part ks first s → Part ks first (on_node f s)
unfolding on_node
part-on_node ks f first s same p = record {
  number = p.number;
  back = p.back;
  has = λ u k at on out. rw ((same u).active, (same u).queued) (p.has u k at on out);
}

part-on_traffic : (ks : List ℕ) (f : Traffic → Traffic) (first s : Site) → Lets ks s.traffic (f s.traffic) → Part ks first s
    → Part [] first (on_traffic f s)
unfolding on_traffic
part-on_traffic ks f first s lets p = record {
  number = p.number;
  back = λ u k on. p.back u k (lets.back u k on);
  has = λ u k at on out. p.has u k at (lets.back u k on) (lets.out u k on);
}

part-on_eject : (ks : List ℕ) (v : Uid) (f : Eject → Eject) (first s : Site)
    → ((e : Eject) → eject_in s v ≡ Some e → (k : ℕ) → times_in k (Some e) ≤ times_in k (Some (f e)) + times k ks)
    → Part [] first s → Part ks first (on_eject v f s)
unfolding on_eject
part-on_eject ks v f first s less p = record {
  number = p.number;
  back = p.back;
  has = λ u k at on out. subst (λ o. 1 ≤ times_in k o) (sym (eject-on_eject v u f s))
      (go u k (eq_by_cmp uid_cmp u v) refl (eject_in s u) refl (p.has u k at on refl) out);
}
  where
    go : (u : Uid) (k : ℕ) (b : Bool) → eq_by_cmp uid_cmp u v ≡ b → (o : Option Eject) → eject_in s u ≡ o → 1 ≤ times_in k o
        → times k ks ≡ 0 → 1 ≤ times_in k (cond b (option_map f o) o)
    go u k true is None at has out = has
    go u k true is (Some e) at has out = omega (
      arith,
      has,
      out,
      less e (ap (eject_in s) (sym (eq-same uid_cmp uid_cmp-IsAntisymmetric u v is)) ∙ at) k,
    )
    go u k false is o at has out = has

part-on_active : (v : Uid) (f : Active → Active) (ks : List ℕ) (first s : Site)
    → ((it : Active) → HasPart s v it → (k : ℕ) → times k (running it.crew) ≤ times k (running (f it).crew) + times k ks)
    → Part [] first s → Part ks first (on_eject v (on_active f) s)
part-on_active v f ks first s less p = part-on_eject ks v (on_active f) first s (λ e at k. by e at k e.active refl) p
  where
    by : (e : Eject) → eject_in s v ≡ Some e → (k : ℕ) (o : Option Active) → e.active ≡ o
        → times k (runs_of e.active) + times k e.queued ≤ times_in k (Some (with_item o (λ it. with_active (Some (f it)) e) e)) + times k ks
    by e at k None is = omega arith
    by e at k (Some it) is = rw is (omega (arith, less it (ap active_in at ∙ is) k))

part-item : {X : Type 0} (first s : Site) (o : Option X) (f : X → Site) → Part [] first s → ((x : X) → o ≡ Some x → Part [] first (f x))
    → Part [] first (with_item o f s)
part-item first s None f p each = p
part-item first s (Some x) f p each = each x refl

part-cond : (b : Bool) (first one two : Site) → Part [] first one → Part [] first two → Part [] first (cond b one two)
part-cond true first one two x y = x
part-cond false first one two x y = y

-- 3. The parts of a turn

part-tells : (v : Uid) (p : ℕ) (a : Answer) (first s : Site) → Part [] first s → Part [] first (tells v p a s)
part-tells v p a first s h = part-on_active v (told p a) [] first s (λ it at k. rw (runs-set p nothing it.crew) (omega arith)) h

same-eject : {e x : Eject} → Some e ≡ Some x → e ≡ x
same-eject same = cc same

part-turned_away : (v : Uid) (why : Status) (first s : Site) → Part [] first s → Part [] first (turned_away v why s)
part-turned_away v why first s h = part-item first s (eject_in s v) _ h (λ e is.
    let emptied : Site = on_eject v (with_queued []) s in
    part-on_traffic e.queued (all_replied why e.queued) first emptied (lets-all_replied why e.queued emptied.traffic)
    (part-on_eject e.queued v (with_queued []) first s (λ x at k. let same : times k x.queued ≡ times k e.queued =
    ap (λ (y : Eject). times k y.queued) (same-eject (sym at ∙ is)) in omega (arith, same)) h))

part-deactivated : (v : Uid) (first s : Site) → Part [] first s → Part [] first (deactivated v s)
unfolding on_node
part-deactivated v first s h = part-item first s (eject_in s v) _ h (λ e is. part-item first s e.active _ h (λ it is_it.
    let alone : Site = on_node (without_requests v) s in
    let ended_part : Site = on_eject v (with_active None) alone in
    part-on_traffic (running it.crew) (λ t. all_replied status.Dropped (running it.crew) (orphaned v t)) first ended_part
    (lets-then [] (running it.crew) ended_part.traffic (orphaned v ended_part.traffic) _ (lets-orphaned v ended_part.traffic)
    (lets-all_replied status.Dropped (running it.crew) (orphaned v ended_part.traffic)))
    (part-on_eject (running it.crew) v (with_active None) first alone (λ x at k. gone e it x is is_it at k)
    (part-on_node [] (without_requests v) first s (λ u. record { active = refl; queued = refl }) h))))
  where
    gone : (e : Eject) (it : Active) (x : Eject) → eject_in s v ≡ Some e → e.active ≡ Some it → eject_in s v ≡ Some x → (k : ℕ)
        → times k (runs_of x.active) + times k x.queued ≤ times k [] + times k x.queued + times k (running it.crew)
    gone e it x is is_it at k = let active : x.active ≡ Some it = ap (λ (y : Eject). y.active) (same-eject (sym at ∙ is)) ∙ is_it in
        rw active (omega arith)

part-gone : (v : Uid) (first s : Site) → Part [] first s → Part [] first (gone_if_unkept v s)
part-gone v first s h = part-item first s (eject_in s v) _ h (λ e is.
    part-cond (is_there e) first s _ h (part-turned_away v status.Gone first s h))

part-waits : (v : Uid) (p : ℕ) (first s : Site) → Part [] first s → Part [] first (on_eject v (on_active (on_crew (set_waits p outside))) s)
part-waits v p first s h = part-on_active v (on_crew (set_waits p outside)) [] first s (λ it at k.
    rw (runs-set p outside it.crew) (omega arith)) h

part-asks : (v : Uid) (p : ℕ) (c : EjectChange) (first s : Site) → Part [] first s → Part [] first (asks_store v p c s)
part-asks v p c first s h = part-on_node [] _ first (on_eject v (on_active (on_crew (set_waits p outside))) s) (λ u.
    record { active = refl; queued = refl }) (part-waits v p first s h)

part-checkpoints : (v : Uid) (p : ℕ) (bytes : List ℕ) (first s : Site) → Part [] first s → Part [] first (checkpoints v p bytes s)
part-checkpoints v p bytes first s h = part-cond (nat_le (length bytes) BODY_LIMIT) first _ _ (part-asks v p (body bytes) first s h)
    (part-tells v p (Code status.TooLarge) first s h)

pub part-born : (v : Uid) (it : Active) (first s : Site) → eject_in s v ≡ None → Part [] first s → Part [] first (born v it s)
unfolding on_node
part-born v it first s absent p = record {
  number = p.number;
  back = p.back;
  has = λ u k at on out. subst (λ o. 1 ≤ times_in k o) (sym (find-put uid_cmp uid_cmp_total u v grown s.node.ejects))
      (go u k (eq_by_cmp uid_cmp u v) refl (p.has u k at on refl));
}
  where
    grown : Eject
    grown = with_item (eject_in s v) (with_active (Some it)) (newborn it)

    go : (u : Uid) (k : ℕ) (b : Bool) → eq_by_cmp uid_cmp u v ≡ b → 1 ≤ times_in k (eject_in s u)
        → 1 ≤ times_in k (cond b (Some grown) (eject_in s u))
    go u k true is has = absurd (let none : times_in k (eject_in s u) ≡ 0 =
        ap (times_in k) (ap (eject_in s) (eq-same uid_cmp uid_cmp-IsAntisymmetric u v is) ∙ absent) in omega (arith, has, none))
    go u k false is has = has

part-creates : (v : Uid) (p : ℕ) (t : Option Edentype) (made : Result Uid Status) (first s : Site) → next_uid s ≡ made → IsNew s
    → Part [] first s → Part [] first (creates v p t made s)
part-creates v p None made first s is new h = h
part-creates v p (Some t) (Ok u) first s is new h = part-tells v p (Made status.Ok (Some (full u))) first
    (born u (fresh t (first_values t)) s) (part-born u (fresh t (first_values t)) first s (new u is) h)
part-creates v p (Some t) (Err why) first s is new h = part-tells v p (Made why None) first s h

-- 4. A process ends, and takes the call along that it serves

where-below : (p : ℕ) (es : List (ℕ × Worker)) → T (below_all nat_cmp p es) → where_key nat_cmp (λ j. not (j == p)) es ≡ es
where-below p [] below = refl
where-below p (e ∷ es) below = go (nat_cmp p e.0) refl (e.0 == p) refl below (where-below p es)
  where
    go : (o : Ordering) → nat_cmp p e.0 ≡ o → (b : Bool) → (e.0 == p) ≡ b → T (is_lt o && below_all nat_cmp p es)
        → (T (below_all nat_cmp p es) → where_key nat_cmp (λ j. not (j == p)) es ≡ es)
        → cond (not b) (e ∷ where_key nat_cmp (λ j. not (j == p)) es) (where_key nat_cmp (λ j. not (j == p)) es) ≡ e ∷ es
    go Less at true same x later = absurd (let is : e.0 ≡ p = eqb-true e.0 p same in let bad : Equal ≡ Less =
        sym (tied_itself nat_cmp_total p) ∙ ap (nat_cmp p) (sym is) ∙ at in cc bad)
    go Less at false same x later = ap (λ l. e ∷ l) (later x)
    go Equal at b same x later = absurd x
    go Greater at b same x later = absurd x

times-option : (k : ℕ) (o : Option ℕ) (xs ys : List ℕ) (n : ℕ) → times k xs ≤ times k ys + n
    → times k (cons_option o xs) ≤ times k (cons_option o ys) + n
times-option k None xs ys n h = h
times-option k (Some x) xs ys n h = go (eq_by_cmp nat_cmp k x)
  where
    go : (b : Bool) → cond b (times k xs + 1) (times k xs) ≤ cond b (times k ys + 1) (times k ys) + n
    go true = omega (arith, h)
    go false = h

right-of : (a b : Bool) → T (a && b) → T b
right-of true b x = x
right-of false b x = absurd x

left-of : (a b : Bool) → T (a && b) → T a
left-of true b x = tt
left-of false b x = x

times-kept : (k p : ℕ) (es : List (ℕ × Worker)) → T (is_sorted nat_cmp es)
    → times k (filter_map call_of es) ≤ times k (filter_map call_of (where_key nat_cmp (λ j. not (j == p)) es)) + times k
    (calls_of (serves_at p es))
times-kept k p [] sorted = omega arith
times-kept k p (e ∷ es) sorted = go (e.0 == p) refl (times-kept k p es (right-of (below_all nat_cmp e.0 es) (is_sorted nat_cmp es) sorted))
  where
    left_es : List (ℕ × Worker)
    left_es = where_key nat_cmp (λ j. not (j == p)) es

    first-of : (q : Option Invocation) → times k (cons_option (with_item q (λ x. Some x.call) None) (filter_map call_of es))
        ≤ times k (filter_map call_of es) + times k (calls_of q)
    first-of None = omega arith
    first-of (Some x) = one (eq_by_cmp nat_cmp k x.call)
      where
        one : (b : Bool) → cond b (times k (filter_map call_of es) + 1) (times k (filter_map call_of es))
            ≤ times k (filter_map call_of es) + cond b (0 + 1) 0
        one true = omega arith
        one false = omega arith

    apart : (b : Bool) → eq_by_cmp nat_cmp p e.0 ≡ b → (e.0 == p) ≡ false → b ≡ false
    apart true is off = absurd (let bad : true ≡ false = sym (eq-eqb e.0 p (sym (same-true p e.0 is))) ∙ off in cc bad)
    apart false is off = refl

    go : (b : Bool) → (e.0 == p) ≡ b → times k (filter_map call_of es)
        ≤ times k (filter_map call_of left_es) + times k (calls_of (serves_at p es))
        → times k (cons_option (call_of e) (filter_map call_of es))
        ≤ times k (filter_map call_of (cond (not b) (e ∷ left_es) left_es)) + times k
        (calls_of (with_item (cond (eq_by_cmp nat_cmp p e.0) (Some e.1) (value_at nat_cmp p es)) (λ q. q.serves) None))
    go true is later = let same : e.0 ≡ p = eqb-true e.0 p is in
        let rest_is : left_es ≡ es = where-below p es (subst (λ n. T (below_all nat_cmp n es)) same
        (left-of (below_all nat_cmp e.0 es) (is_sorted nat_cmp es) sorted)) in
        let here : eq_by_cmp nat_cmp p e.0 ≡ true = ap (eq_by_cmp nat_cmp p) same ∙ same-self p in
        rw (here, rest_is) (first-of e.1.serves)
    go false is later = rw (apart (eq_by_cmp nat_cmp p e.0) refl is)
        (times-option k (call_of e) (filter_map call_of es) (filter_map call_of left_es) (times k (calls_of (serves_at p es))) later)

runs-kept : (k p : ℕ) (crew : Crew) → T (is_sorted nat_cmp crew.processes)
    → times k (running crew) ≤ times k (running (ended p crew)) + times k (calls_of (serves_at p crew.processes))
runs-kept k p crew sorted =
    let mid : Crew = leave_held p (length crew.monitors) crew in
    let order : T (is_sorted nat_cmp mid.processes) = subst T (sym
    (by-held (is_sorted nat_cmp) sorted-waits p (length crew.monitors) crew)) sorted in
    let serves : serves_at p mid.processes ≡ serves_at p crew.processes =
    by-held (serves_at p) (serves-with_waits p) p (length crew.monitors) crew in
    subst (λ ks. times k ks ≤ times k (running (ended p crew)) + times k (calls_of (serves_at p crew.processes)))
    (runs-held p (length crew.monitors) crew)
    (subst (λ q. times k (running mid) ≤ times k (running (ended p crew)) + times k (calls_of q)) serves
    (times-kept k p mid.processes order))

-- a process starts: its call runs besides those that ran
times-put-in : (k p : ℕ) (i : Invocation) (w : Waiting) (es : List (ℕ × Worker)) → value_at nat_cmp p es ≡ None
    → times k (i.call ∷ filter_map call_of es) ≤ times k (filter_map call_of (put_at nat_cmp p (record { serves = Some i; waits = w }) es))
times-put-in k p i w [] none = omega arith
times-put-in k p i w (e ∷ es) none = go (nat_cmp p e.0) none (times-put-in k p i w es)
  where
    swap : (o : Option ℕ) (ys : List ℕ) → times k (i.call ∷ filter_map call_of es) ≤ times k ys
        → times k (i.call ∷ cons_option o (filter_map call_of es)) ≤ times k (cons_option o ys)
    swap None ys h = h
    swap (Some x) ys h = two (eq_by_cmp nat_cmp k i.call) (eq_by_cmp nat_cmp k x) h
      where
        two : (a b : Bool) → cond a (times k (filter_map call_of es) + 1) (times k (filter_map call_of es)) ≤ times k ys
            → cond a (cond b (times k (filter_map call_of es) + 1) (times k (filter_map call_of es)) + 1)
            (cond b (times k (filter_map call_of es) + 1) (times k (filter_map call_of es))) ≤ cond b (times k ys + 1) (times k ys)
        two true true h = omega (arith, h)
        two true false h = h
        two false true h = omega (arith, h)
        two false false h = h

    go : (o : Ordering) → cond (is_eq o) (Some e.1) (value_at nat_cmp p es) ≡ None
        → (value_at nat_cmp p es ≡ None → times k (i.call ∷ filter_map call_of es)
        ≤ times k (filter_map call_of (put_at nat_cmp p (record { serves = Some i; waits = w }) es)))
        → times k (i.call ∷ cons_option (call_of e) (filter_map call_of es))
        ≤ times k (filter_map call_of (by_order o ((p, record { serves = Some i; waits = w }) ∷ e ∷ es)
        ((e.0, record { serves = Some i; waits = w }) ∷ es) (e ∷ put_at nat_cmp p (record { serves = Some i; waits = w }) es)))
    go Less free later = omega arith
    go Equal free later = absurd (cc free)
    go Greater free later = swap (call_of e) _ (later free)

-- 5. A turn of a process

-- a process that ends without an answer serves nothing
abbrev pub EndsAlone : Effect → Option Invocation → Type 0
EndsAlone effect.End i = i ≡ None
EndsAlone _ i = Unit {0}

ends-alone : (types : List Edentype) (i : Option Invocation) (e : Effect) → FitsEffect types (is_some i) e → EndsAlone e i
ends-alone types None effect.End fits = refl
ends-alone types (Some i) effect.End fits = absurd (cc fits)
ends-alone types i _ fits = tt

-- what is known of the active part whose process takes a turn
abbrev Serves : Site → Uid → ℕ → Option Invocation → Type 0
Serves s v p i = (it : Active) → HasPart s v it → (serving it p ≡ i) × IsManned it

part-ends : (v : Uid) (p : ℕ) (i : Option Invocation) (first s : Site) → Serves s v p i → Part [] first s
    → Part (calls_of i) first (on_eject v (on_active (without_process p)) s)
part-ends v p i first s serves h = part-on_active v (without_process p) (calls_of i) first s (λ it at k. let x = serves it at in
    subst (λ q. times k (running it.crew) ≤ times k (running (ended p it.crew)) + times k (calls_of q)) x.0
    (runs-kept k p it.crew x.1.numbered)) h

part-crew : (v : Uid) (f : Crew → Crew) (first s : Site) → ((crew : Crew) → running (f crew) ≡ running crew) → Part [] first s
    → Part [] first (on_eject v (on_active (on_crew f)) s)
part-crew v f first s runs h = part-on_active v (on_crew f) [] first s (λ it at k. rw (runs it.crew) (omega arith)) h

part-effected : (reach : ℕ → Bool) (v : Uid) (p : ℕ) (i : Option Invocation) (t : Edentype) (vars : List Datum) (e : Effect)
    (first s : Site) → EndsAlone e i → Serves s v p i → IsNew s → Part [] first s
    → Part [] first (effected reach v p i t vars e s)
part-effected reach v p i t vars (effect.Return results) first s alone serves new h =
    part-on_traffic (calls_of i) (answers i results) first _ (lets-answers i results _) (part-ends v p i first s serves h)
part-effected reach v p i t vars effect.End first s alone serves new h =
    subst (λ q. Part (calls_of q) first (on_eject v (on_active (without_process p)) s)) alone (part-ends v p i first s serves h)
part-effected reach v p i t vars effect.Checkpoint first s alone serves new h = part-checkpoints v p (spelling (rep_of t vars)) first s h
part-effected reach v p i t vars effect.Destroy first s alone serves new h = part-asks v p removal first s h
part-effected reach v p i t vars effect.Deactivate first s alone serves new h =
    part-gone v first (deactivated v s) (part-deactivated v first s h)
part-effected reach v p i t vars (effect.Fault cause) first s alone serves new h =
    part-turned_away v status.Dropped first (deactivated v s) (part-deactivated v first s h)
part-effected reach v p i t vars (effect.Create type_name) first s alone serves new h =
    part-creates v p (type_of s.types type_name) (next_uid s) first s refl new h
part-effected reach v p i t vars (effect.Invoke target operation args) first s alone serves new h =
    part-invokes (refused_at_once (reach target.uid.node) args)
  where
    waits : (at_once : Option Status) → Part [] first (on_eject v (on_active (waits_or_told p at_once)) s)
    waits None = part-waits v p first s h
    waits (Some why) = part-tells v p (Told why []) first s h

    part-invokes : (at_once : Option Status) → Part [] first (on_traffic (λ t.
        with_call (next_call t) (Process v p) target operation args at_once t) (on_eject v (on_active (waits_or_told p at_once)) s))
    part-invokes at_once = part-on_traffic [] _ first (on_eject v (on_active (waits_or_told p at_once)) s)
        (lets-call (Process v p) target operation args at_once _ _) (waits at_once)
part-effected reach v p i t vars (effect.Lock m) first s alone serves new h =
    part-crew v (locked p m) first s (λ crew. runs-locked p m crew) h
part-effected reach v p i t vars (effect.Leave m) first s alone serves new h = part-crew v (left m) first s (λ crew. runs-left m crew) h
part-effected reach v p i t vars (effect.Wait c) first s alone serves new h =
    part-crew v (waited p c) first s (λ crew. runs-waited p c crew) h
part-effected reach v p i t vars (effect.Signal c) first s alone serves new h =
    part-crew v (signalled c) first s (λ crew. runs-signalled c crew) h
part-effected reach v p i t vars effect.Yield first s alone serves new h = h

pub part-process_turn : (types : List Edentype) (reach : ℕ → Bool) (v : Uid) (p : ℕ) (first s : Site) → EffectFits types s v p
    → ((e : Eject) → eject_in s v ≡ Some e → IfSome e.active IsManned) → ((f : Eject → Eject) → IsNew (on_eject v f s))
    → Part [] first s → Part [] first (process_turn reach v p s)
part-process_turn types reach v p first s fits manned new h = part-item first s (eject_in s v) _ h (λ e is.
    part-item first s e.active _ h (λ it is_it. part-item first s (turn_of v it p) _ h (λ t is_t. go e is it is_it t is_t)))
  where
    manned-at : (e : Eject) → eject_in s v ≡ Some e → (it : Active) → e.active ≡ Some it → IsManned it
    manned-at e is it is_it = subst (λ o. IfSome o IsManned) is_it (manned e is)

    serves : (e : Eject) → eject_in s v ≡ Some e → (it : Active) → e.active ≡ Some it → (t : Turned)
        → Serves (on_eject v (on_active (turned p t)) s) v p (serving it p)
    serves e is it is_it t x at =
        let part : Some (turned p t it) ≡ Some x = sym (ap active_in (eject-here v (on_active (turned p t)) s e is) ∙ rw is_it refl) ∙ at in
        subst (λ o. IfSome o (λ y. (serving y p ≡ serving it p) × IsManned y)) part (refl, manned-turned p t it (manned-at e is it is_it))

    go : (e : Eject) → eject_in s v ≡ Some e → (it : Active) → e.active ≡ Some it → (t : Turned) → turn_of v it p ≡ Some t
        → Part [] first (effected reach v p (serving it p) it.kind t.vars t.effect (on_eject v (on_active (turned p t)) s))
    go e is it is_it t is_t = part-effected reach v p (serving it p) it.kind t.vars t.effect first (on_eject v (on_active (turned p t)) s)
        (ends-alone types (serving it p) t.effect (fits e is it is_it t is_t)) (serves e is it is_it t) (new (on_active (turned p t)))
        (part-on_active v (turned p t) [] first s (λ x at k. omega arith) h)

-- 6. Deliveries, starts and crashes

pub part-refused : (k : ℕ) (why : Status) (first s : Site) → Part [] first s → Part [] first (requested k (Some why) s)
part-refused k why first s h = part-on_traffic [] (λ t. replied why [] k (taken k t)) first s
    (lets-drop (k ∷ []) s.traffic (replied why [] k (taken k s.traffic)) (let x = lets-replied why [] k (taken k s.traffic) in
    record { back = x.back; out = x.out })) h

part-tells_asker : (a : Asker) (why : Status) (values : List Datum) (first s : Site) → Part [] first s
    → Part [] first (tells_asker a why values s)
part-tells_asker (Shell name) why values first s h = h
part-tells_asker (Process u p) why values first s h = part-tells u p (Told why values) first s h

pub part-heard : (k : ℕ) (why : Status) (values : List Datum) (first s : Site) → Part [] first s → Part [] first (heard k why values s)
part-heard k why values first s h = let x = part-on_traffic [] (received k) first s (lets-received k s.traffic) h in
    part-item first s (call_at s.traffic k) _ h (λ c is. part-cond c.open_ first _ _
    (part-tells_asker c.asker why values first (on_traffic (received k) s) x) x)

pub part-start : (v : Uid) (k p : ℕ) (first s : Site) → IsActiveAnd s v (λ e it. AllowsStart s.traffic k p e it)
    → ((e : Eject) → eject_in s v ≡ Some e → (j : ℕ) → times_in j (Some e) ≤ 1)
    → Part [] first s → Part [] first (start v k p s)
part-start v k p first s allowed once h = part-item first s (call_at s.traffic k) _ h (λ c is.
    part-on_eject [] v (λ e. record (on_active (with_start s.traffic k p c) e) { queued = filter (λ j. not (j == k)) e.queued }) first s
    (λ e at j. by c e j e.active refl (starts e at) (once e at j)) h)
  where
    starts : (e : Eject) → eject_in s v ≡ Some e → IsSomeAnd e.active (λ it. AllowsStart s.traffic k p e it)
    starts e at = subst (λ o. IsSomeAnd o (λ e. IsSomeAnd e.active (λ it. AllowsStart s.traffic k p e it))) at allowed

    -- the queue loses this call alone
    queue : (j : ℕ) (ks : List ℕ) → eq_by_cmp nat_cmp j k ≡ false → times j ks ≤ times j (filter (λ i. not (i == k)) ks)
    queue j [] apart = omega arith
    queue j (x ∷ xs) apart = one (x == k) refl (eq_by_cmp nat_cmp j x) refl (queue j xs apart)
      where
        one : (a : Bool) → (x == k) ≡ a → (b : Bool) → eq_by_cmp nat_cmp j x ≡ b → times j xs ≤ times j (filter (λ i. not (i == k)) xs)
            → cond b (times j xs + 1) (times j xs) ≤ times j (cond (not a) (x ∷ filter (λ i. not (i == k)) xs)
            (filter (λ i. not (i == k)) xs))
        one true is true same later = absurd (let bad : true ≡ false =
            sym (same-self k) ∙ ap (λ n. eq_by_cmp nat_cmp n k) (sym (eqb-true x k is) ∙ sym (same-true j x same)) ∙ apart in cc bad)
        one true is false same later = later
        one false is true same later = rw same (omega (arith, later))
        one false is false same later = rw same later

    more : (it : Active) (e : Eject) (j : ℕ) (b : Bool) → eq_by_cmp nat_cmp j k ≡ b
        → cond b (times j (running it.crew) + 1) (times j (running it.crew))
        ≤ times j (running (started (invocation it.kind s.traffic k) it.crew))
        → times j (running it.crew) + times j e.queued ≤ 1
        → times j (running it.crew) + times j e.queued ≤ times j (running (started (invocation it.kind s.traffic k) it.crew)) + times j
        (filter (λ i. not (i == k)) e.queued) + 0
    more it e j true same runs one = omega (arith, runs, one)
    more it e j false same runs one = omega (arith, runs, queue j e.queued same)

    by : (c : Call) (e : Eject) (j : ℕ) (o : Option Active) → e.active ≡ o → IsSomeAnd o (λ it. AllowsStart s.traffic k p e it)
        → times j (runs_of e.active) + times j e.queued ≤ 1
        → times j (runs_of e.active) + times j e.queued
        ≤ times j (runs_of (with_item o (λ it. with_active (Some (with_start s.traffic k p c it)) e) e).active) + times j
        (filter (λ i. not (i == k)) e.queued) + 0
    by c e j None is a one = absurd a
    by c e j (Some it) is a one = subst (λ o. times j (runs_of o) + times j e.queued
        ≤ times j (running (started (invocation it.kind s.traffic k) it.crew)) + times j (filter (λ i. not (i == k)) e.queued) + 0) (sym is)
        (more it e j (eq_by_cmp nat_cmp j k) refl (times-put-in j (least_free it.crew) (invocation it.kind s.traffic k) nothing
        it.crew.processes
        (free-none (least_free it.crew) it.crew.processes (least_free-free it.crew
        (startable-there it s.traffic e.queued (invocation it.kind s.traffic k) a.earliest).1)))
        (subst (λ o. times j (runs_of o) + times j e.queued ≤ 1) is one))

pub part-crashed : (first s : Site) → Part [] first s → Part [] first (crashed s)
unfolding on_traffic on_node
part-crashed first s p = record {
  number = p.number;
  back = λ u k on. p.back u k ((lets-without_node s.number s.traffic).back u k on);
  has = λ u k at on out. absurd (off-node s.number s.traffic u k (at ∙ sym p.number) on);
}

-- 7. The store, activations and boots

part-settled : (p : Option Pick) (first s : Site) → Part [] first s → Part [] first (settled p s)
part-settled None first s h = h
part-settled (Some p) first s h = part-on_node [] (settled_node s.layout s.number p) first s (λ u.
    subst (SameParts (eject_in s u)) (sym (value-each u (settled_eject p) s.node.ejects)) (same-settled p (eject_in s u))) h

part-same : (f : Node → Node) (first s : Site) → (f s.node).ejects ≡ s.node.ejects → Part [] first s → Part [] first (on_node f s)
part-same f first s same h = part-on_node [] f first s (λ u. subst (λ es. SameParts (eject_in s u) (value_at uid_cmp u es)) (sym same)
    (record { active = refl; queued = refl })) h

part-unsynced : (first s : Site) → Part [] first s → Part [] first (unsynced s)
part-unsynced first s h = part-same (λ it. record it { synced = false }) first s refl h

part-ended : (r : StoreRequest) (why : Status) (first s : Site) → Part [] first s → Part [] first (request_ended r why s)
part-ended r why first s h = go r.process
  where
    ended_one : Site
    ended_one = on_node (λ it. record it { requests = rest it.requests }) s

    go : (p : Option ℕ) → Part [] first (tells_code r.uid p why ended_one)
    go None = part-same (λ it. record it { requests = rest it.requests }) first s refl h
    go (Some p) = part-tells r.uid p (Code why) first ended_one (part-same (λ it. record it { requests = rest it.requests }) first s refl h)

part-removed : (c : EjectChange) (v : Uid) (first s : Site) → Part [] first s → Part [] first (removed c v s)
part-removed (body bytes) v first s h = h
part-removed removal v first s h = part-turned_away v status.Gone first (deactivated v s) (part-deactivated v first s h)

part-done : (r : StoreRequest) (first s : Site) → Part [] first s → Part [] first (done r s)
part-done r first s h = part-removed r.change r.uid first (request_ended r status.Ok s) (part-ended r status.Ok first s h)

part-doubted : (r : StoreRequest) (first s : Site) → Part [] first s → Part [] first (doubted r s)
part-doubted r first s h = part-on_eject [] r.uid (λ e. record e { doubt = Some r.change }) first s (λ e at k. omega arith) h

part-stored : (r : StoreRequest) (first s : Site) → Part [] first s → Part [] first (stored r s)
part-stored r first s h = part-same (λ it. record it { ledger = written_with s.layout r.change it.ledger }) first
    (on_eject r.uid (λ e. record e { kept = kept_of r.change; doubt = None }) s) refl
    (part-on_eject [] r.uid (λ e. record e { kept = kept_of r.change; doubt = None }) first s (λ e at k. omega arith) h)

part-worked : (w : Work) (r : StoreRequest) (how : RequestEnd) (p : Option Pick) (first s : Site) → Part [] first s
    → Part [] first (worked w r how p s)
part-worked syncs r end.Part p first s h = part-same (λ it. record it { synced = true }) first s refl h
part-worked syncs r end.Done p first s h = h
part-worked syncs r end.Full p first s h = h
part-worked syncs r end.Fault p first s h = part-ended r status.StoreFault first (unsynced s) (part-unsynced first s h)
part-worked syncs r end.Stop p first s h = part-crashed first s h
part-worked reads r end.Part p first s h = part-settled p first s h
part-worked reads r end.Done p first s h = h
part-worked reads r end.Full p first s h = h
part-worked reads r end.Fault p first s h = part-ended r status.StoreFault first (unsynced s) (part-unsynced first s h)
part-worked reads r end.Stop p first s h = part-crashed first s h
part-worked unkept r how p first s h = part-done r first s h
part-worked without_room r how p first s h = part-ended r status.Full first s h
part-worked calls r end.Part p first s h = part-same (λ it. record it { requests = more_made it.requests }) first (doubted r s) refl
    (part-doubted r first s h)
part-worked calls r end.Done p first s h = part-done r first (stored r s) (part-stored r first s h)
part-worked calls r end.Full p first s h = h
part-worked calls r end.Fault p first s h = part-ended r status.StoreFault first (doubted r s) (part-doubted r first s h)
part-worked calls r end.Stop p first s h = part-crashed first (doubted r s) (part-doubted r first s h)

pub part-store_turn : (how : RequestEnd) (p : Option Pick) (first s : Site) → Part [] first s → Part [] first (store_turn how p s)
part-store_turn how p first s h = part-item first s (first_request s.node) _ h (λ r is. part-worked (work_of s r) r how p first s h)

-- what does not pass a test is what passes its contrary
times-apart : (k : ℕ) (test : ℕ → Bool) (xs : List ℕ) → times k xs ≤ times k (filter test xs) + times k (filter (λ j. not (test j)) xs)
times-apart k test [] = omega arith
times-apart k test (x ∷ xs) = go (test x) (eq_by_cmp nat_cmp k x) refl (times-apart k test xs)
  where
    go : (a b : Bool) → eq_by_cmp nat_cmp k x ≡ b → times k xs ≤ times k (filter test xs) + times k (filter (λ j. not (test j)) xs)
        → cond b (times k xs + 1) (times k xs) ≤ times k (cond a (x ∷ filter test xs) (filter test xs)) + times k
        (cond (not a) (x ∷ filter (λ j. not (test j)) xs) (filter (λ j. not (test j)) xs))
    go true true same later = rw same (omega (arith, later))
    go true false same later = rw same later
    go false true same later = rw same (omega (arith, later))
    go false false same later = rw same later

part-awake_as : (v : Uid) (e : Eject) (start : Edentype × List Datum) (first s : Site) → eject_in s v ≡ Some e → e.active ≡ None
    → Part [] first s → Part [] first (awake_as v e start s)
unfolding on_eject
part-awake_as v e start first s is passive h = part-on_traffic (filter (λ k. not (fits_at start.0 s.traffic k)) e.queued)
    (misfits_answered start.0 e.queued) first _
    (lets-misfits start.0 e.queued (fits_at start.0 s.traffic) s.traffic (λ k. refl))
    (part-on_eject (filter (λ k. not (fits_at start.0 s.traffic k)) e.queued) v
    (λ old. record old {
      active = Some (fresh start.0 (values_from start.0 start.1));
      queued =
          filter (fits_at start.0 s.traffic) e.queued;
    }) first s (λ x at k. fewer x at k) h)
  where
    fewer : (x : Eject) → eject_in s v ≡ Some x → (k : ℕ) → times k (runs_of x.active) + times k x.queued
        ≤ times k (running (fresh start.0 (values_from start.0 start.1)).crew) + times k
        (filter (fits_at start.0 s.traffic) e.queued) + times k (filter (λ j. not (fits_at start.0 s.traffic j)) e.queued)
    fewer x at k =
        let same : e ≡ x = same-eject (sym is ∙ at) in
        let none : x.active ≡ None = ap (λ (y : Eject). y.active) (sym same) ∙ passive in
        let queue : times k x.queued ≡ times k e.queued = ap (λ (y : Eject). times k y.queued) (sym same) in
        rw none (omega (arith, queue, times-apart k (fits_at start.0 s.traffic) e.queued))

part-activated : (v : Uid) (how : StartEnd) (first s : Site) → ((e : Eject) → eject_in s v ≡ Some e → e.active ≡ None) → Part [] first s
    → Part [] first (activated v how s)
part-activated v start_end.Ok first s passive h = part-item first s (eject_in s v) _ h (λ e is.
    part-item first s e.kept _ h (λ bytes kept. part-item first s (start_of s.types bytes v) _ h (λ start begins.
    part-awake_as v e start first s is (passive e is) h)))
part-activated v start_end.Gone first s passive h = part-turned_away v status.Gone first s h
part-activated v start_end.Fault first s passive h = part-turned_away v status.StoreFault first s h
part-activated v start_end.Damaged first s passive h = part-turned_away v status.Damaged first s h
part-activated v start_end.Stop first s passive h = part-crashed first s h

pub part-activation : (v : Uid) (how : StartEnd) (p : Option Pick) (first s : Site) → active_in (eject_in s v) ≡ None → Part [] first s
    → Part [] first (activation_turn v how p s)
part-activation v how p first s passive h = part-activated v how first (start_settled p s) (λ e is. sym (ap active_in is)
    ∙ active-started p v s ∙ passive)
    (part-cond (to_settle s) first _ s (part-settled p first (unsynced s) (part-unsynced first s h)) h)

pub part-boot : (e : ℕ) (how : BootEnd) (p : Option Pick) (began : Bool) (first s : Site) → Part [] first s
    → Part [] first (boot_turn e how p began s)
part-boot e how p began first s h = part-same (booted_node s e how began) first (settled p s) (ejects how (settled p s).node)
    (part-settled p first s h)
  where
    ejects : (how : BootEnd) (it : Node) → (booted_node s e how began it).ejects ≡ it.ejects
    ejects boot_end.Up it = refl
    ejects boot_end.DiskFault it = refl
    ejects boot_end.Stop it = refl
    ejects (boot_end.Damaged place) it = refl
    ejects boot_end.EpochsSpent it = refl
    ejects boot_end.Full it = refl

pub part-told : (v : Uid) (p : ℕ) (a : Answer) (first s : Site) → Part [] first s → Part [] first (tells v p a s)
part-told v p a first s h = part-tells v p a first s h
