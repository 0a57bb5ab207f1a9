-- A turn of the store: what its step leaves of the node at the site after it.
use Rattle.std.proofs.Common.{◌≡◌, ◌≢◌, ◌≤◌, ℕ, zero, suc, Bool, true, false, cond, ◌&&◌, ◌||◌, List, [], ◌∷◌, Option, None, Some}
use Rattle.std.proofs.Common.{refl, sym, ap, subst, ◌∙◌, arith}
use Rattle.std.specs.Prelude.{is_some, IsSomeAnd, IfSome, IsTrue}
use Rattle.std.specs.Option.{option_map}
use Rattle.std.proofs.lemmas.Cmp.{tied_itself}
use Rattle.capability.specs.declared.Uid.{Uid}
use Rattle.capability.proofs.Uids.{uid_cmp_total}
use Rattle.eden_disk.specs.Calls.{Counts, DeviceCalls, stops_after}
use Rattle.eden_model.specs.Map.{with_item, first, rest, same_uid}
use Rattle.epl_syntax.specs.Rules.OfTypes.{TypeList}
use Rattle.invocation.specs.Mail.{Mail}
use Rattle.passive_store.specs.declared.store.Pick.{Pick}
use Rattle.passive_store.specs.Kept.{Layout, Work, Idle, Busy, Unsettled, doubt_in, is_busy, unsure_in, uid_of_change, body_at as kept_at}
use Rattle.passive_store.specs.Kept.{StoreChange}
use Rattle.passive_store.specs.Seen.{Seen}
use Rattle.journal.specs.declared.event.Event.TheVariants as event
use Rattle.journal.specs.declared.event.RequestEnd.{RequestEnd}
use Rattle.journal.specs.declared.event.RequestEnd.TheVariants as end
use Rattle.journal.specs.World.{Eject, Site, StoreRequest, eject_in, on_node}
use Rattle.journal.specs.Ejects.{is_kept}
use Rattle.journal.specs.Settling.{epoch_uid, first_request, settled, settled_eject}
use Rattle.journal.specs.Stores.{syncs, reads, unkept, without_room, calls, work_of, EndsSo, AllowsStore, doubted, removed}
use Rattle.journal.specs.Stores.{store_turn, worked}
use Rattle.journal.specs.Stores.{Work as Works}
use Rattle.journal.specs.Step.{AllowsAt, site_turn}
use Rattle.history_laws.proofs.KeptTurns.{value-each}
use Rattle.checkpoint.specs.Asked.{StandsNow, StepsTo, requests_of, request_of, made_in, body_asked, noted_in, PowerBehind, OneCall}
use Rattle.checkpoint.specs.Asked.{call_end, pick_of, IsOfDoubted}
use Rattle.checkpoint.specs.Changes.{Facts, facts_of, facts_in}
use Rattle.checkpoint.specs.Found.{change_of}
use Rattle.checkpoint.specs.Queues.{left_in, AllAnswerBut}
use Rattle.checkpoint.specs.StoreStands.{doubt_of, RequestsStand}
use Rattle.checkpoint.specs.Turns.{with_clock, with_removal, TurnsStore, TurnsDown}
use Rattle.checkpoint.specs.declared.worker.Request.{Request}
use Rattle.checkpoint.specs.declared.worker.Wish.{Wish}
use Rattle.checkpoint.specs.declared.worker.Wish.TheVariants.{Put, Delete}
use Rattle.checkpoint.specs.declared.worker.StoreEnd.{StoreEnd}
use Rattle.checkpoint.specs.declared.worker.StoreEnd.TheVariants as store_end
use Rattle.checkpoint.specs.declared.worker.Settled.{Settled}
use Rattle.checkpoint.specs.declared.worker.StepEnd.TheVariants.{Going, Ended}
use Rattle.checkpoint.specs.declared.worker.Worker.{Worker}
use Rattle.checkpoint.proofs.Answering.{unasked-begun}
use Rattle.checkpoint.proofs.Shifts.{dropped_if, is_active_in}
use Rattle.active_part.specs.Body.{Body, active_of}
use Rattle.ejects.specs.Parts.{Parts, Known, known, body_at, held_of, IsAt}
use Rattle.ejects.specs.Passive.{IsKeptIn}
use Rattle.ejects.specs.StoreEnds.{IsShownAs, KeepsUnasked, IsFirstOf, IsFirst, SettlesAt, takes_eject, is_removal}
use Rattle.ejects.specs.View.{parts_of}
use Rattle.ejects.specs.declared.Ejects.{Ejects}
use Rattle.eden_kernel.specs.Boots.{IsAsleep}
use Rattle.eden_kernel.specs.Stands.{NodeStands}
use Rattle.eden_kernel.specs.Turns.{Turns}
use Rattle.eden_kernel.specs.DiskTurns.{Stops, OneCallEnds, call_of_request, shown_as, goes_on, asks_removal, IsFirstAsked, left_behind}
use Rattle.eden_kernel.specs.DiskTurns.{StopsBy}
use Rattle.eden_kernel.specs.declared.stores.TurnEnd.TheVariants as turn_end
use Rattle.eden_kernel.proofs.Booted.{asleep-crashed}
use Rattle.eden_kernel.proofs.StoreLeaves.{leaves-store, requests-go, removal-leaves, rest-requests, dropped-requests}
use Rattle.eden_kernel.proofs.StoreLeaves.{turns-store}

-- 1. The first request

first-asked : (w : Work) (qs : List Request) (q : Request) → first qs ≡ Some q
    → first (requests_of w qs) ≡ Some (request_of (made_in w) q)
first-asked w [] q is = absurd (let bad : None ≡ Some q = is in cc bad)
first-asked w (p ∷ ps) q is = let same : p ≡ q = let e : Some p ≡ Some q = is in cc e in
    ap (λ x. Some (request_of (made_in w) x)) same

first-is : (layout : Layout) (n : ℕ) (s : Site) (qs : List Request) (q : Request) (x : Seen)
    → StandsNow layout n s (requests_of x.work qs) x → first qs ≡ Some q → first_request s.node ≡ Some (request_of (made_in x.work) q)
first-is layout n s qs q x h is = ap first h.queue ∙ first-asked x.work qs q is

-- what a job that has begun is to change is in doubt at its Eject
begun-kept : (layout : Layout) (n : ℕ) (s : Site) (rs : List StoreRequest) (x : Seen) (r : StoreRequest) → StandsNow layout n s rs x
    → first rs ≡ Some r → is_busy x.work ≡ true → IsKeptIn s r.uid true
begun-kept layout n s rs x r h is busy = record { at = λ e found. kept e found (doubted-of e found) }
  where
    of-job : (w : Work) → is_busy w ≡ true → RequestsStand w x.disk.counts.size rs → is_some (doubt_of (doubt_in w) r.uid) ≡ true
    of-job Idle busy stand = absurd (cc busy)
    of-job (Unsettled c synced) busy stand = absurd (cc busy)
    of-job (Busy c zero left) busy stand = absurd (let some : 1 ≤ 0 = stand.some_made in omega (arith, some))
    of-job (Busy c (suc made) left) busy stand =
        let both : Some stand.request ≡ Some r = sym stand.is_first ∙ is in
        let same : stand.request ≡ r = cc both in
        let own : r.uid ≡ c.uid = ap (λ (q : StoreRequest). q.uid) (sym same) ∙ stand.uid in
        let itself : same_uid c.uid c.uid ≡ true = rw (tied_itself uid_cmp_total c.uid) refl in
        ap (λ b. is_some (cond b (Some (change_of c.body)) None)) (ap (λ v. same_uid v c.uid) own ∙ itself)

    doubted-of : (e : Eject) → eject_in s r.uid ≡ Some e → is_some e.doubt ≡ true
    doubted-of e found = ap (λ (f : Facts). is_some f.1)
        (ap facts_of (sym found) ∙ h.keeps.facts r.uid (h.keeps.ordered.not_reserved r.uid (ap is_some found)))
        ∙ of-job x.work busy h.stand

    or-doubted : (a b : Bool) → b ≡ true → (a || b) ≡ true
    or-doubted true b is = refl
    or-doubted false b is = is

    kept : (e : Eject) → eject_in s r.uid ≡ Some e → is_some e.doubt ≡ true → is_kept e ≡ true
    kept e found doubts = or-doubted (is_some e.kept) (is_some e.doubt) doubts

-- so of the Eject of a request that answers no process something is kept, or may be
unasked-kept : (layout : Layout) (n : ℕ) (s : Site) (asked : List Request) (q : Request) (x : Seen) (begun : Bool)
    → StandsNow layout n s (requests_of x.work asked) x → first asked ≡ Some q → begun ≡ is_busy x.work → AllAnswerBut begun asked
    → KeepsUnasked q.process q.uid s
unasked-kept layout n s asked q x begun h is same all = go q.process refl
  where
    job : (qs : List Request) → first qs ≡ Some q → AllAnswerBut begun qs → q.process ≡ None → begun ≡ true
    job [] at all none = absurd (let bad : None ≡ Some q = at in cc bad)
    job (p ∷ ps) at all none =
        let both : Some p ≡ Some q = at in
        let one : p ≡ q = cc both in
        unasked-begun begun p ps all (ap (λ (r : Request). r.process) one ∙ none)

    go : (o : Option ℕ) → q.process ≡ o → KeepsUnasked o q.uid s
    go None none = begun-kept layout n s (requests_of x.work asked) x (request_of (made_in x.work) q) h
        (first-asked x.work asked q is) (sym same ∙ job asked is all none)
    go (Some p) answers = tt

pub allows-store : (s : Site) (u : Uid) (clock : ℕ) (how : RequestEnd) (p : Option Pick) (r : StoreRequest)
    → first_request s.node ≡ Some r → r.uid ≡ u → AllowsStore s r.uid how p r → AllowsAt s (event.Store u clock how p)
allows-store s u clock how p r is own a =
    subst (λ o. IsSomeAnd o (λ q. AllowsStore s u how p q)) (sym is) (subst (λ v. AllowsStore s v how p r) own a)

turn-is : (s : Site) (how : RequestEnd) (p : Option Pick) (r : StoreRequest) → first_request s.node ≡ Some r
    → store_turn how p s ≡ worked (work_of s r) r how p s
turn-is s how p r is = ap (λ o. with_item o (λ q. worked (work_of s q) q how p s) s) is

-- 2. A settling that picked

picked-turn : (s : Site) (p : Pick) (r : StoreRequest) (w : Works) → EndsSo w end.Part (Some p)
    → worked w r end.Part (Some p) s ≡ settled (Some p) s
picked-turn s p r syncs ends = absurd (cc ends)
picked-turn s p r reads ends = refl
picked-turn s p r unkept ends = absurd ends
picked-turn s p r without_room ends = absurd ends
picked-turn s p r calls ends = absurd (cc ends)

facts-settled : (p : Pick) (s : Site) (u : Uid) → facts_in (settled (Some p) s) u ≡ facts_of (option_map (settled_eject p) (eject_in s u))
unfolding on_node
facts-settled p s u = ap facts_of (value-each u (settled_eject p) s.node.ejects)

facts-clocked : (c : ℕ) (s : Site) (u : Uid) → facts_in (with_clock c s) u ≡ facts_in s u
unfolding on_node
facts-clocked c s u = refl

-- of the Ejects of a node that is up one alone may be in doubt
undoubted : (layout : Layout) (n : ℕ) (s : Site) (rs : List StoreRequest) (x : Seen) (v u : Uid) (e : Eject) → StandsNow layout n s rs x
    → unsure_in x.work ≡ Some v → eject_in s u ≡ Some e → same_uid u v ≡ false → e.doubt ≡ None
undoubted layout n s rs x v u e h doubts is other =
    ap (λ (f : Facts). f.1) (ap facts_of (sym is) ∙ h.keeps.facts u (h.keeps.ordered.not_reserved u (ap is_some is)))
    ∙ go (doubt_in x.work) doubts
  where
    go : (d : Option StoreChange) → uid_of_change d ≡ Some v → doubt_of d u ≡ None
    go None at = refl
    go (Some c) at = let same : c.uid ≡ v = let e : Some c.uid ≡ Some v = at in cc e in
        ap (λ b. cond b (Some (change_of c.body)) None) (ap (same_uid u) same ∙ other)

-- the Ejects of a site are settled to those of the next, for which the store stands
pub settles-from : (layout : Layout) (n : ℕ) (s z next : Site) (asked : List StoreRequest) (x y : Seen) (p : Pick) (v : Uid)
    → StandsNow layout n s asked x → unsure_in x.work ≡ Some v → z.node.epoch_doubt ≡ s.node.epoch_doubt
    → ((u : Uid) → eject_in z u ≡ eject_in s u) → settled (Some p) z ≡ next
    → (v ≢ epoch_uid n → facts_in (with_clock y.disk.counts.clock next) v ≡ (kept_at y.kept v, doubt_of (doubt_in y.work) v))
    → SettlesAt v (is_some (kept_at y.kept v)) p z
settles-from layout n s z next asked x y p v h doubts epoch same is facts = record {
  epoch = epoch ∙ h.epoch_settled;
  only = λ u e found other. undoubted layout n s asked x v u e h doubts (sym (same u) ∙ found) other;
  kept = λ e found. ap (λ (f : Facts). is_some f.0) (after e found);
}
  where
    after : (e : Eject) → eject_in z v ≡ Some e
        → facts_of (Some (settled_eject p e)) ≡ (kept_at y.kept v, doubt_of (doubt_in y.work) v)
    after e found = ap (λ o. facts_of (option_map (settled_eject p) o)) (sym found) ∙ sym (facts-settled p z v)
        ∙ ap (λ t. facts_in t v) is ∙ sym (facts-clocked y.disk.counts.clock next v)
        ∙ facts (h.keeps.ordered.not_reserved v (ap is_some (sym (same v) ∙ found)))

settles-at : (layout : Layout) (n : ℕ) (s : Site) (r : StoreRequest) (asked rs : List StoreRequest) (x y : Seen) (p : Pick) (v : Uid)
    → StandsNow layout n s asked x → first_request s.node ≡ Some r → unsure_in x.work ≡ Some v
    → TurnsStore layout n s r end.Part (Some p) x.disk.told x.disk.counts.clock rs y.work y.kept y.more y.disk.counts.size y.disk.told
    y.disk.counts.clock
    → SettlesAt v (is_some (kept_at y.kept v)) p s
settles-at layout n s r asked rs x y p v h is doubts t =
    settles-from layout n s s t.next asked x y p v h doubts refl (λ u. refl)
    (sym (turn-is s end.Part (Some p) r is ∙ picked-turn s p r (work_of s r) t.allowed.ends) ∙ t.leads)
    (t.stands.keeps.facts v)

-- what is so of the Eject that was in doubt is so of the one that a settling tells
pub told-of : (doubted : Option Uid) (found : Option Settled) (F : Uid → Pick → Type 0) → IsOfDoubted doubted found
    → ((v : Uid) (p : Pick) → doubted ≡ Some v → pick_of found ≡ Some p → F v p) → IfSome found (λ x. F x.uid x.pick)
told-of doubted None F whose each = tt
told-of doubted (Some x) F whose each = each x.uid x.pick whose refl

-- 3. The first request goes on

module _ (layout : Layout) (ts : TypeList) (k : ℕ) (x y : Seen) (old new : Ejects) (w later : Worker) (m mail : Mail) (reach : ℕ → Bool)
    (s : Site) (node : y.node ≡ x.node)
    (h : NodeStands layout ts (record { number = k; ejects = old; worker = w; seen = x }) m s) where
  pub turn-goes : w.begun ≡ is_busy x.work → AllAnswerBut w.begun w.requests.items → (u : Uid) (found : Option Settled)
      → IsFirstAsked w.requests.items u
      → StepsTo layout x.node s w.requests.items x later.requests.items y (Going found) → IsOfDoubted (unsure_in x.work) found
      → (IsFirstOf u s → IfSome found (λ z. SettlesAt z.uid (is_some (kept_at y.kept z.uid)) z.pick s)
      → AllowsAt s (event.Store u y.disk.counts.clock end.Part (pick_of found))
      → IsAt (parts_of ts new) mail (site_turn reach (event.Store u y.disk.counts.clock end.Part (pick_of found)) s))
      → Turns layout ts (record { number = k; ejects = new; worker = later; seen = y }) mail reach
      (record { number = k; ejects = old; worker = w; seen = x }) s (event.Store u y.disk.counts.clock end.Part (pick_of found))
  turn-goes begun all u found asked steps whose goes = go (first w.requests.items) refl asked steps
    where
      p : Option Pick
      p = pick_of found

      go : (o : Option Request) → first w.requests.items ≡ o → IsSomeAnd o (λ q. q.uid ≡ u)
          → IfSome o (λ q. TurnsStore layout x.node s (request_of (made_in x.work) q) end.Part p x.disk.told x.disk.counts.clock
          (requests_of y.work later.requests.items) y.work y.kept y.more y.disk.counts.size y.disk.told y.disk.counts.clock)
          → Turns layout ts (record { number = k; ejects = new; worker = later; seen = y }) mail reach
          (record { number = k; ejects = old; worker = w; seen = x }) s (event.Store u y.disk.counts.clock end.Part p)
      go None at asked t = absurd asked
      go (Some q) at own t =
          let r : StoreRequest = request_of (made_in x.work) q in
          let rs : List StoreRequest = requests_of y.work later.requests.items in
          let is : first_request s.node ≡ Some r = first-is layout x.node s w.requests.items q x h.disk at in
          let allowed : AllowsAt s (event.Store u y.disk.counts.clock end.Part p) =
          allows-store s u y.disk.counts.clock end.Part p r is own t.allowed in
          let kept : KeepsUnasked q.process u s =
          subst (λ v. KeepsUnasked q.process v s) own (unasked-kept layout x.node s w.requests.items q x w.begun h.disk at begun all) in
          turns-store layout ts k x y old new w later mail reach s u y.disk.counts.clock end.Part p node allowed
          (goes (record { request = r; is_first = is; uid = own; kept = kept })
          (told-of (unsure_in x.work) found (λ v c. SettlesAt v (is_some (kept_at y.kept v)) c s) whose
          (λ v c doubts picked. settles-at layout x.node s r (requests_of x.work w.requests.items) rs x y c v h.disk is doubts
          (subst (λ o. TurnsStore layout x.node s r end.Part o x.disk.told x.disk.counts.clock rs y.work y.kept y.more y.disk.counts.size
          y.disk.told y.disk.counts.clock) picked t))) allowed)
          (leaves-store layout x.node s r end.Part p rs x y t)
          (requests-go layout x.node s r end.Part p rs x y t refl)

-- 4. It ended, and the node goes on

pub steps-up : (layout : Layout) (n : ℕ) (s : Site) (asked left : List Request) (x y : Seen) (q : Request) (e : StoreEnd) → goes_on e ≡ true
    → StepsTo layout n s asked x left y (Ended q e)
    → TurnsStore layout n s (request_of (made_in x.work) q) (shown_as e) None x.disk.told x.disk.counts.clock (requests_of y.work left)
    y.work y.kept y.more y.disk.counts.size y.disk.told y.disk.counts.clock
steps-up layout n s asked left x y q store_end.Done up t = t
steps-up layout n s asked left x y q store_end.Full up t = t
steps-up layout n s asked left x y q store_end.Fault up t = t
steps-up layout n s asked left x y q store_end.Stopped up t = absurd (cc up)

shown-up : (e : StoreEnd) → goes_on e ≡ true → IsShownAs e (shown_as e)
shown-up store_end.Done up = refl
shown-up store_end.Full up = refl
shown-up store_end.Fault up = refl
shown-up store_end.Stopped up = absurd (cc up)

-- its disk has power, and its call ended as the event shows
pub power-up : (e : StoreEnd) (counts : Counts) → goes_on e ≡ true → PowerBehind e counts → IsTrue counts.power
power-up store_end.Done counts up h = h
power-up store_end.Full counts up h = h
power-up store_end.Fault counts up h = h
power-up store_end.Stopped counts up h = absurd (cc up)

pub call-shown : (e : StoreEnd) → call_end e ≡ call_of_request (shown_as e)
call-shown store_end.Done = refl
call-shown store_end.Full = refl
call-shown store_end.Fault = refl
call-shown store_end.Stopped = refl

-- one with which the node does not go on
pub stops-shown : (e : StoreEnd) → goes_on e ≡ false → call_end e ≡ call_of_request end.Stop
stops-shown store_end.Done is = absurd (cc is)
stops-shown store_end.Full is = absurd (cc is)
stops-shown store_end.Fault is = absurd (cc is)
stops-shown store_end.Stopped is = refl

-- one with which it goes on is no stop
none-stopped : (e : StoreEnd) (n : ℕ) → goes_on e ≡ true → stops_after (call_end e) n ≡ n
none-stopped store_end.Done n is = refl
none-stopped store_end.Full n is = refl
none-stopped store_end.Fault n is = refl
none-stopped store_end.Stopped n is = absurd (cc is)

pub stops-not : (before after : Counts) (q : Request) (e : StoreEnd) → goes_on e ≡ true → OneCall before after (Ended q e)
    → StopsBy turn_end.Up before after
stops-not before after q e is one = one.counts.stops ∙ none-stopped e before.stops is

pub stops-once : (before after : Counts) (q : Request) (e : StoreEnd) → goes_on e ≡ false → OneCall before after (Ended q e)
    → StopsBy turn_end.Down before after
stops-once before after q e is one = one.counts.stops ∙ ap (λ k. stops_after k before.stops) (stops-shown e is)

pub one-ended : (before after : Counts) (q : Request) (e : StoreEnd) → OneCall before after (Ended q e)
    → OneCallEnds before after (call_of_request (shown_as e))
one-ended before after q e one = record {
  made = one.made;
  most = one.most;
  counts = subst (DeviceCalls one.made before after) (call-shown e) one.counts;
}

-- which requests are left
pub goes-too : (a b begun : Bool) (u : Uid) (qs : List Request) → a ≡ true → b ≡ true → left_in begun u qs ≡ left_behind (a && b) begun u qs
goes-too a b begun u qs first second = rw (first, second) refl

pub stays-inactive : (a b begun : Bool) (u : Uid) (qs : List Request) → b ≡ false → qs ≡ left_behind (a && b) begun u qs
stays-inactive true b begun u qs idle = rw idle refl
stays-inactive false b begun u qs idle = refl

pub stays-unremoved : (a b begun : Bool) (u : Uid) (qs : List Request) → a ≡ false → qs ≡ left_behind (a && b) begun u qs
stays-unremoved a b begun u qs apart = rw apart refl

asks-is : (w : Wish) → is_removal (change_of (body_asked w)) ≡ asks_removal w
asks-is (Put bytes) = refl
asks-is Delete = refl

-- whether an Eject is active
active-is : (n : Parts) (s : Site) (u : Uid) → known (eject_in s u) ≡ held_of n u → is_active_in s u ≡ is_some (body_at n u)
active-is n s u is = at-site (eject_in s u) ∙ ap (λ (k : Known). is_some k.active) is ∙ mapped (body_at n u)
  where
    at-site : (o : Option Eject) → with_item o (λ e. is_some e.active) false ≡ is_some (known o).active
    at-site None = refl
    at-site (Some e) = refl

    mapped : (o : Option Body) → is_some (option_map active_of o) ≡ is_some o
    mapped None = refl
    mapped (Some b) = refl

-- the requests of the node behind it
module _ (layout : Layout) (n : ℕ) (s : Site) (asked left later : List Request) (x y : Seen) (q : Request) (active : Bool)
    (is : first_request s.node ≡ Some (request_of (made_in x.work) q)) (queue : s.node.requests ≡ requests_of x.work (q ∷ left))
    (still : is_busy y.work ≡ false) (here : is_active_in s q.uid ≡ active) where
  abbrev Ended-so : RequestEnd → Type 0
  Ended-so how = TurnsStore layout n s (request_of (made_in x.work) q) how None x.disk.told x.disk.counts.clock (requests_of y.work left)
      y.work y.kept y.more y.disk.counts.size y.disk.told y.disk.counts.clock

  all-left : (how : RequestEnd) → later ≡ left → (t : Ended-so how) → with_removal how (request_of (made_in x.work) q) t.next ≡ t.next
      → (store_turn how None s).node.requests ≡ requests_of y.work later
  all-left how same t stays =
      requests-go layout n s (request_of (made_in x.work) q) how None (requests_of y.work left) x y t stays
      ∙ ap (requests_of y.work) (sym same)

  removed-left : (b : Bool) → active ≡ b → later ≡ left_behind b false q.uid left
      → dropped_if active q.uid (rest s.node.requests) ≡ requests_of y.work later
  removed-left b is same = ap (λ a. dropped_if a q.uid (rest s.node.requests)) is
      ∙ ap (λ rs. dropped_if b q.uid rs) (ap rest queue ∙ rest-requests x.work y.work q left still) ∙ go b same
    where
      go : (b : Bool) → later ≡ left_behind b false q.uid left → dropped_if b q.uid (requests_of y.work left) ≡ requests_of y.work later
      go true same = sym (dropped-requests y.work q.uid left still) ∙ ap (requests_of y.work) (sym same)
      go false same = ap (requests_of y.work) (sym same)

  done-left : (c : Wish) → q.wish ≡ c → later ≡ left_behind (takes_eject (asks_removal c) store_end.Done && active) false q.uid left
      → (t : Ended-so end.Done) → (store_turn end.Done None s).node.requests ≡ requests_of y.work later
  done-left (Put bytes) wish same t =
      all-left end.Done same t (ap (λ c. removed (change_of (body_asked c)) q.uid t.next) wish)
  done-left Delete wish same t =
      removal-leaves s (request_of (made_in x.work) q) None is (ap (λ c. change_of (body_asked c)) wish) t.allowed.ends
      ∙ ap (λ a. dropped_if a q.uid (rest s.node.requests)) here ∙ removed-left active refl same

  pub ended-left : (e : StoreEnd) → goes_on e ≡ true → later ≡ left_behind (takes_eject (asks_removal q.wish) e && active) false q.uid left
      → Ended-so (shown_as e) → (store_turn (shown_as e) None s).node.requests ≡ requests_of y.work later
  ended-left store_end.Done up same t = done-left q.wish refl same t
  ended-left store_end.Full up same t = all-left end.Full same t refl
  ended-left store_end.Fault up same t = all-left end.Fault same t refl
  ended-left store_end.Stopped up same t = absurd (cc up)

module _ (layout : Layout) (ts : TypeList) (k : ℕ) (x y : Seen) (old new : Ejects) (w later : Worker) (m mail : Mail) (reach : ℕ → Bool)
    (s : Site) (node : y.node ≡ x.node)
    (h : NodeStands layout ts (record { number = k; ejects = old; worker = w; seen = x }) m s)
    (q : Request) (left : List Request) (queue : w.requests.items ≡ q ∷ left) where
  is-first : first_request s.node ≡ Some (request_of (made_in x.work) q)
  is-first = first-is layout x.node s w.requests.items q x h.disk (ap first queue)

  pub turn-ends : w.begun ≡ is_busy x.work → AllAnswerBut w.begun w.requests.items
      → (e : StoreEnd) → goes_on e ≡ true → is_busy y.work ≡ false
      → StepsTo layout x.node s w.requests.items x left y (Ended q e)
      → later.requests.items
      ≡ left_behind (takes_eject (asks_removal q.wish) e && is_some (body_at (parts_of ts old) q.uid)) false q.uid left
      → (IsFirst q.uid q.process (asks_removal q.wish) s → IsShownAs e (shown_as e)
      → AllowsAt s (event.Store q.uid y.disk.counts.clock (shown_as e) None)
      → IsAt (parts_of ts new) mail (site_turn reach (event.Store q.uid y.disk.counts.clock (shown_as e) None) s))
      → Turns layout ts (record { number = k; ejects = new; worker = later; seen = y }) mail reach
      (record { number = k; ejects = old; worker = w; seen = x }) s (event.Store q.uid y.disk.counts.clock (shown_as e) None)
  turn-ends begun all e up still steps same ends =
      let r : StoreRequest = request_of (made_in x.work) q in
      let t = steps-up layout x.node s w.requests.items left x y q e up steps in
      let allowed : AllowsAt s (event.Store q.uid y.disk.counts.clock (shown_as e) None) =
      allows-store s q.uid y.disk.counts.clock (shown_as e) None r is-first refl t.allowed in
      let kept : KeepsUnasked q.process q.uid s =
      unasked-kept layout x.node s w.requests.items q x w.begun h.disk (ap first queue) begun all in
      turns-store layout ts k x y old new w later mail reach s q.uid y.disk.counts.clock (shown_as e) None node allowed
      (ends (record { request = r; is_first = is-first; uid = refl; answers = refl; asks = asks-is q.wish; kept = kept })
      (shown-up e up) allowed)
      (leaves-store layout x.node s r (shown_as e) None (requests_of y.work left) x y t)
      (ended-left layout x.node s w.requests.items left later.requests.items x y q (is_some (body_at (parts_of ts old) q.uid)) is-first
      (h.disk.queue ∙ ap (requests_of x.work) queue) still (active-is (parts_of ts old) s q.uid (h.calls.parts.ejects q.uid)) e up same t)

  -- 5. The disk stopped

  stopped-turn : (r : StoreRequest) (v : Works) → EndsSo v end.Stop None
      → IsAsleep (with_clock y.disk.counts.clock (worked v r end.Stop None s))
  stopped-turn r syncs ends = asleep-crashed y.disk.counts.clock s
  stopped-turn r reads ends = asleep-crashed y.disk.counts.clock s
  stopped-turn r unkept ends = absurd ends
  stopped-turn r without_room ends = absurd ends
  stopped-turn r calls ends = asleep-crashed y.disk.counts.clock (doubted r s)

  steps-down : (e : StoreEnd) → goes_on e ≡ false → StepsTo layout x.node s w.requests.items x left y (Ended q e)
      → TurnsDown layout x.node s (request_of (made_in x.work) q) x.disk.told x.disk.counts.clock y.more (noted_in (doubt_in y.work) y.kept)
      y.disk.counts.size y.disk.told y.disk.counts.clock
  steps-down store_end.Done down t = absurd (cc down)
  steps-down store_end.Full down t = absurd (cc down)
  steps-down store_end.Fault down t = absurd (cc down)
  steps-down store_end.Stopped down t = t

  pub turn-stops : (e : StoreEnd) → goes_on e ≡ false → StepsTo layout x.node s w.requests.items x left y (Ended q e)
      → Stops layout (record { number = k; ejects = new; worker = later; seen = y }) reach
      (record { number = k; ejects = old; worker = w; seen = x }) s (event.Store q.uid y.disk.counts.clock end.Stop None)
  turn-stops e down steps =
      let r : StoreRequest = request_of (made_in x.work) q in
      let t = steps-down e down steps in
      record {
        allowed = allows-store s q.uid y.disk.counts.clock end.Stop None r is-first refl t.allowed;
        falls = record { rests = t.rests; disk = t.disk };
        asleep = subst (λ z. IsAsleep (with_clock y.disk.counts.clock z)) (sym (turn-is s end.Stop None r is-first))
            (stopped-turn r (work_of s r) t.allowed.ends);
      }
