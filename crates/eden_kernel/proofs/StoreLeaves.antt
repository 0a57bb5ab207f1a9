-- A turn of the store: what it leaves of the node for its disk, in the words of the site after it.
use Rattle.std.proofs.Common.{◌≡◌, ℕ, Bool, true, false, cond, List, [], ◌∷◌, Option, None, Some, refl, sym, ap, subst, ◌∙◌}
use Rattle.std.specs.Prelude.{is_some}
use Rattle.std.specs.List.{filter_map}
use Rattle.std.specs.Option.{option_map}
use Rattle.std.specs.Ordering.{eq_by_cmp}
use Rattle.capability.specs.declared.Uid.{Uid}
use Rattle.eden_model.specs.Map.{with_item, rest, uid_cmp}
use Rattle.eden_value.specs.declared.status.Status.{Status}
use Rattle.eden_value.specs.declared.status.Status.TheVariants as status
use Rattle.epl_syntax.specs.declared.effect.Answer.TheVariants.{Code}
use Rattle.passive_store.specs.declared.store.Pick.{Pick}
use Rattle.passive_store.specs.Kept.{Layout, Work, Idle, Busy, Unsettled, doubt_in, is_busy}
use Rattle.passive_store.specs.Seen.{Seen}
use Rattle.journal.specs.EjectChange.{removal, kept_of}
use Rattle.journal.specs.declared.event.RequestEnd.{RequestEnd}
use Rattle.journal.specs.declared.event.RequestEnd.TheVariants as end
use Rattle.journal.specs.World.{Active, Eject, Site, StoreRequest, eject_in, on_eject, on_node}
use Rattle.journal.specs.Ejects.{with_active, on_active, told, dropped_of}
use Rattle.journal.specs.Settling.{first_request}
use Rattle.journal.specs.Stores.{syncs, reads, unkept, without_room, calls, work_of, EndsSo, store_turn, worked, stored, done, removed}
use Rattle.journal.specs.Stores.{tells_code, request_ended}
use Rattle.journal.specs.Stores.{Work as Works}
use Rattle.journal.specs.Standing.{Stands, with_changes}
use Rattle.history_laws.proofs.Frame.{eject-on_eject}
use Rattle.checkpoint.specs.Asked.{StandsNow, requests_of}
use Rattle.checkpoint.specs.Queues.{left_in}
use Rattle.checkpoint.specs.declared.worker.Request.{Request}
use Rattle.checkpoint.specs.Stretch.{Stretch}
use Rattle.checkpoint.specs.StoreStands.{NodeOnDisk, state_of}
use Rattle.checkpoint.specs.Turns.{with_clock, with_removal, TurnsStore}
use Rattle.checkpoint.specs.declared.worker.Worker.{Worker}
use Rattle.epl_syntax.specs.Rules.OfTypes.{TypeList}
use Rattle.invocation.specs.Mail.{Mail}
use Rattle.journal.specs.Step.{AllowsAt}
use Rattle.journal.specs.declared.event.Event.TheVariants as event
use Rattle.ejects.specs.Parts.{Parts, IsAt}
use Rattle.ejects.specs.View.{parts_of}
use Rattle.ejects.specs.declared.Ejects.{Ejects}
use Rattle.eden_kernel.specs.Turns.{Turns}
use Rattle.checkpoint.proofs.Dropped.{left-waiting, stands-removed}
use Rattle.checkpoint.proofs.MapStands.{state-is}
use Rattle.checkpoint.proofs.Shifts.{dropped_if, is_active_in, shift-removed, shift-ended}

-- 1. A removal that is done takes away nothing that is kept

own-queue : (layout : Layout) (n k : ℕ) (t : Site) (rs : List StoreRequest) (y : Seen) → StandsNow layout n (with_clock k t) rs y
    → StandsNow layout n (with_clock k t) t.node.requests y
unfolding on_node
own-queue layout n k t rs y h = subst (λ qs. StandsNow layout n (with_clock k t) qs y) (sym h.queue) h

after-removal : (layout : Layout) (n k : ℕ) (how : RequestEnd) (r : StoreRequest) (next : Site) (rs : List StoreRequest) (y : Seen)
    → StandsNow layout n (with_clock k next) rs y
    → StandsNow layout n (with_clock k (with_removal how r next)) (with_removal how r next).node.requests y
after-removal layout n k end.Done r next rs y h =
    own-queue layout n k (removed r.change r.uid next) _ y (stands-removed layout n k r.change r.uid next rs y h)
after-removal layout n k end.Part r next rs y h = own-queue layout n k next rs y h
after-removal layout n k end.Full r next rs y h = own-queue layout n k next rs y h
after-removal layout n k end.Fault r next rs y h = own-queue layout n k next rs y h
after-removal layout n k end.Stop r next rs y h = own-queue layout n k next rs y h

pub state-clocked : (n k : ℕ) (t : Site) → state_of n (with_clock k t).node ≡ state_of n t.node
unfolding on_node
state-clocked n k t = refl

state-removed : (layout : Layout) (n k : ℕ) (how : RequestEnd) (r : StoreRequest) (next : Site) (rs : List StoreRequest) (y : Seen)
    → StandsNow layout n (with_clock k next) rs y → state_of n next.node ≡ state_of n (with_removal how r next).node
state-removed layout n k end.Done r next rs y h =
    sym (state-clocked n k next) ∙ state-is n (with_clock k next) y.kept (doubt_in y.work) h.keeps
    ∙ sym (state-is n (with_clock k (removed r.change r.uid next)) y.kept (doubt_in y.work)
    (stands-removed layout n k r.change r.uid next rs y h).keeps)
    ∙ state-clocked n k (removed r.change r.uid next)
state-removed layout n k end.Part r next rs y h = refl
state-removed layout n k end.Full r next rs y h = refl
state-removed layout n k end.Fault r next rs y h = refl
state-removed layout n k end.Stop r next rs y h = refl

-- the turn, at the site after it
pub record LeavesStore (layout : Layout) (n : ℕ) (s t : Site) (x y : Seen) : Type 0 where
  pub stands : StandsNow layout n (with_clock y.disk.counts.clock t) t.node.requests y
  pub disk : NodeOnDisk layout n s.node [] t.node x.disk.told x.disk.counts.clock y.disk.told y.disk.counts.clock

pub leaves-store : (layout : Layout) (n : ℕ) (s : Site) (r : StoreRequest) (how : RequestEnd) (p : Option Pick) (rs : List StoreRequest)
    (x y : Seen)
    → TurnsStore layout n s r how p x.disk.told x.disk.counts.clock rs y.work y.kept y.more y.disk.counts.size y.disk.told
    y.disk.counts.clock
    → LeavesStore layout n s (store_turn how p s) x y
leaves-store layout n s r how p rs x y t = subst (λ z. LeavesStore layout n s z x y) (sym t.leads) (record {
  stands = after-removal layout n y.disk.counts.clock how r t.next rs y t.stands;
  disk = subst (λ st. Stretch (Stands layout n (state_of n s.node)) (Stands layout n (with_changes [] (state_of n s.node))) (Stands
      layout n st)
      x.disk.told x.disk.counts.clock y.disk.told y.disk.counts.clock)
      (state-removed layout n y.disk.counts.clock how r t.next rs y t.stands) t.disk;
})

-- 2. The requests that are left

-- where no Eject goes, they are those that the store's turn leaves
pub requests-go : (layout : Layout) (n : ℕ) (s : Site) (r : StoreRequest) (how : RequestEnd) (p : Option Pick) (rs : List StoreRequest)
    (x y : Seen)
    → (t : TurnsStore layout n s r how p x.disk.told x.disk.counts.clock rs y.work y.kept y.more y.disk.counts.size y.disk.told
    y.disk.counts.clock)
    → with_removal how r t.next ≡ t.next → (store_turn how p s).node.requests ≡ rs
unfolding on_node
requests-go layout n s r how p rs x y t stays = ap (λ (z : Site). z.node.requests) (t.leads ∙ stays) ∙ t.stands.queue

-- whether an Eject is active, where its active part changed at most
active-on_eject : (u v : Uid) (f : Eject → Eject) (s : Site) → ((e : Eject) → is_some (f e).active ≡ is_some e.active)
    → is_active_in (on_eject v f s) u ≡ is_active_in s u
active-on_eject u v f s same = ap (λ o. with_item o (λ e. is_some e.active) false) (eject-on_eject v u f s)
    ∙ go (eq_by_cmp uid_cmp u v) (eject_in s u)
  where
    go : (b : Bool) (o : Option Eject) → with_item (cond b (option_map f o) o) (λ e. is_some e.active) false
        ≡ with_item o (λ e. is_some e.active) false
    go true None = refl
    go true (Some e) = same e
    go false o = refl

told-active : (f : Active → Active) (e : Eject) → is_some (on_active f e).active ≡ is_some e.active
told-active f e = go e.active refl
  where
    go : (o : Option Active) → e.active ≡ o → is_some (with_item o (λ it. with_active (Some (f it)) e) e).active ≡ is_some o
    go None is = ap is_some is
    go (Some it) is = refl

-- without the first request
abbrev without_first : Site → Site
without_first s = on_node (λ it. record it { requests = rest it.requests }) s

active-first : (u : Uid) (s : Site) → is_active_in (without_first s) u ≡ is_active_in s u
unfolding on_node
active-first u s = refl

active-ended : (u : Uid) (r : StoreRequest) (why : Status) (s : Site) → is_active_in (request_ended r why s) u ≡ is_active_in s u
active-ended u r why s = go r.process
  where
    go : (p : Option ℕ) → is_active_in (tells_code r.uid p why (without_first s)) u ≡ is_active_in s u
    go None = active-first u s
    go (Some p) = active-on_eject u r.uid (on_active (told p (Code why))) (without_first s) (told-active (told p (Code why)))
        ∙ active-first u s

active-stored : (u : Uid) (r : StoreRequest) (s : Site) → is_active_in (stored r s) u ≡ is_active_in s u
unfolding on_node
active-stored u r s = active-on_eject u r.uid (λ e. record e { kept = kept_of r.change; doubt = None }) s (λ e. refl)

stored-requests : (r : StoreRequest) (s : Site) → (stored r s).node.requests ≡ s.node.requests
unfolding on_node on_eject
stored-requests r s = refl

removed-leaves : (r : StoreRequest) (z s : Site) → r.change ≡ removal → is_active_in z r.uid ≡ is_active_in s r.uid
    → z.node.requests ≡ s.node.requests → (done r z).node.requests ≡ dropped_if (is_active_in s r.uid) r.uid (rest s.node.requests)
removed-leaves r z s is active requests =
    ap (λ c. (removed c r.uid (request_ended r status.Ok z)).node.requests) is ∙ (shift-removed removal r.uid (request_ended r status.Ok
    z)).requests
    ∙ ap (λ b. dropped_if b r.uid (request_ended r status.Ok z).node.requests) (active-ended r.uid r status.Ok z ∙ active)
    ∙ ap (λ qs. dropped_if (is_active_in s r.uid) r.uid qs) ((shift-ended r status.Ok z).requests ∙ ap rest requests)

-- a removal that is done: those of its Eject go, if that was active
pub removal-leaves : (s : Site) (r : StoreRequest) (p : Option Pick) → first_request s.node ≡ Some r → r.change ≡ removal
    → EndsSo (work_of s r) end.Done p
    → (store_turn end.Done p s).node.requests ≡ dropped_if (is_active_in s r.uid) r.uid (rest s.node.requests)
removal-leaves s r p first is ends =
    ap (λ o. (with_item o (λ r. worked (work_of s r) r end.Done p s) s).node.requests) first ∙ go (work_of s r) ends
  where
    go : (w : Works) → EndsSo w end.Done p
        → (worked w r end.Done p s).node.requests ≡ dropped_if (is_active_in s r.uid) r.uid (rest s.node.requests)
    go syncs ends = absurd ends
    go reads ends = absurd ends
    go without_room ends = absurd ends
    go unkept ends = removed-leaves r s s is refl refl
    go calls ends = removed-leaves r (stored r s) s is (active-stored r.uid r s) (stored-requests r s)

-- 3. The same of a worker's queue, behind the end of its first request

-- no job goes on
abbrev IsStill : Work → Type 0
IsStill w = is_busy w ≡ false

pub rest-requests : (w v : Work) (q : Request) (qs : List Request) → IsStill v → rest (requests_of w (q ∷ qs)) ≡ requests_of v qs
rest-requests w v q [] h = refl
rest-requests w Idle q (p ∷ qs) h = refl
rest-requests w (Unsettled c synced) q (p ∷ qs) h = refl
rest-requests w (Busy c made left) q (p ∷ qs) h = absurd (let bad : true ≡ false = h in cc bad)

still-idle : (v : Work) (qs : List Request) → IsStill v → requests_of v qs ≡ requests_of Idle qs
still-idle v [] h = refl
still-idle Idle (q ∷ qs) h = refl
still-idle (Unsettled c synced) (q ∷ qs) h = refl
still-idle (Busy c made left) (q ∷ qs) h = absurd (let bad : true ≡ false = h in cc bad)

-- what goes with an Eject
pub dropped-requests : (v : Work) (u : Uid) (qs : List Request) → IsStill v
    → requests_of v (left_in false u qs) ≡ filter_map (dropped_of u) (requests_of v qs)
dropped-requests v u qs h = still-idle v (left_in false u qs) h ∙ left-waiting u qs
    ∙ ap (filter_map (dropped_of u)) (sym (still-idle v qs h))

-- 4. The turn of a node that goes on

-- the calls know no clock
pub is-at-clocked : (n : Parts) (m : Mail) (c : ℕ) (t : Site) → IsAt n m t → IsAt n m (with_clock c t)
unfolding on_node
is-at-clocked n m c t h = record {
  parts = record {
    number = h.parts.number;
    types = h.parts.types;
    epoch = h.parts.epoch;
    serial = h.parts.serial;
    ejects = h.parts.ejects;
    classes = h.parts.classes;
  };
  calls = h.calls;
}

pub turns-store : (layout : Layout) (ts : TypeList) (k : ℕ) (x y : Seen) (old new : Ejects) (w later : Worker) (mail : Mail) (reach : ℕ →
    Bool)
    (s : Site) (u : Uid) (clock : ℕ) (how : RequestEnd) (p : Option Pick) → y.node ≡ x.node → AllowsAt s (event.Store u clock how p)
    → IsAt (parts_of ts new) mail (store_turn how p s) → LeavesStore layout x.node s (store_turn how p s) x y
    → (store_turn how p s).node.requests ≡ requests_of y.work later.requests.items
    → Turns layout ts (record { number = k; ejects = new; worker = later; seen = y }) mail reach
    (record { number = k; ejects = old; worker = w; seen = x }) s (event.Store u clock how p)
turns-store layout ts k x y old new w later mail reach s u clock how p node allowed is_at l queue = record {
  allowed = allowed;
  stands = record {
    calls = is-at-clocked (parts_of ts new) mail y.disk.counts.clock (store_turn how p s) is_at;
    disk = subst (λ j. StandsNow layout j (with_clock y.disk.counts.clock (store_turn how p s)) (requests_of y.work later.requests.items) y)
        (sym node)
        (subst (λ qs. StandsNow layout x.node (with_clock y.disk.counts.clock (store_turn how p s)) qs y) queue l.stands);
  };
  disk = l.disk;
}
