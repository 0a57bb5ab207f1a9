-- Requests that go with an active part: what is left of a worker's queue, and of what stands.
use Rattle.std.proofs.Common.{◌≡◌, ℕ, ◌==◌, Bool, true, false, cond, List, [], ◌∷◌, ◌++◌, map, None, Some, is_some, refl, ap, ◌∙◌, arith}
use Rattle.std.proofs.lemmas.Bool.{eqb-true}
use Rattle.std.specs.List.{filter_map}
use Rattle.capability.specs.declared.Uid.{Uid}
use Rattle.eden_model.specs.Map.{same_uid, value_at, uid_cmp}
use Rattle.passive_store.specs.Kept.{Layout, Work, Idle, Busy, Unsettled, doubt_in}
use Rattle.passive_store.specs.Kept.{StoreChange}
use Rattle.passive_store.specs.Acts.{DiskCall}
use Rattle.journal.specs.EjectChange.{EjectChange, body, removal}
use Rattle.journal.specs.World.{Site, Node, Eject, StoreRequest, on_node}
use Rattle.journal.specs.Ejects.{dropped_of}
use Rattle.journal.specs.Stores.{removed}
use Rattle.journal.specs.Sites.{AllUnmade, AllThere}
use Rattle.checkpoint.specs.declared.worker.Request.{Request}
use Rattle.checkpoint.specs.StoreStands.{RequestsStand, IsUnderWay}
use Rattle.passive_store.specs.Seen.{Seen}
use Rattle.checkpoint.specs.Asked.{StandsNow, IsOfNode, AllOfNode, request_of, made_in, requests_of}
use Rattle.checkpoint.specs.Turns.{with_clock}
use Rattle.checkpoint.specs.Queues.{left_of, left_in}
use Rattle.checkpoint.proofs.Shifts.{Shift, same_facts, same_requests, dropped_if, is_active_in, removed_requests, shift-removed}
use Rattle.checkpoint.proofs.Changed.{map-same}
use Rattle.checkpoint.proofs.Frames.{all-there}

-- 1. A worker's queue

left-map : (u : Uid) (qs : List Request)
    → map (request_of 0) (filter_map (left_of u) qs) ≡ filter_map (dropped_of u) (map (request_of 0) qs)
left-map u [] = refl
left-map u (q ∷ qs) = go (same_uid q.uid u) refl (left-map u qs)
  where
    go : (b : Bool) → same_uid q.uid u ≡ b
        → map (request_of 0) (filter_map (left_of u) qs) ≡ filter_map (dropped_of u) (map (request_of 0) qs)
        → map (request_of 0) (filter_map (left_of u) (q ∷ qs)) ≡ filter_map (dropped_of u) (map (request_of 0) (q ∷ qs))
    go true is more = rw is more
    go false is more = rw is (ap (λ l. request_of 0 q ∷ l) more)

idle-map : (qs : List Request) → requests_of Idle qs ≡ map (request_of 0) qs
idle-map [] = refl
idle-map (q ∷ qs) = refl

-- no job has begun
pub left-waiting : (u : Uid) (qs : List Request) → requests_of Idle (left_in false u qs) ≡ filter_map (dropped_of u) (requests_of Idle qs)
left-waiting u [] = refl
left-waiting u (q ∷ qs) = idle-map (filter_map (left_of u) (q ∷ qs)) ∙ left-map u (q ∷ qs)

-- the job of the first has made calls
pub left-begun : (u : Uid) (c : StoreChange) (made : ℕ) (left : List DiskCall) (qs : List Request) → (made == 0) ≡ false
    → requests_of (Busy c made left) (left_in true u qs) ≡ filter_map (dropped_of u) (requests_of (Busy c made left) qs)
left-begun u c made left [] some = refl
left-begun u c made left (q ∷ qs) some = go (same_uid q.uid u) refl
  where
    go : (b : Bool) → same_uid q.uid u ≡ b
        → requests_of (Busy c made left) (left_in true u (q ∷ qs)) ≡ filter_map (dropped_of u) (requests_of (Busy c made left) (q ∷ qs))
    go true is = rw (is, some) (ap (λ l. request_of made (record q { process = None }) ∷ l) (left-map u qs))
    go false is = rw is (ap (λ l. request_of made q ∷ l) (left-map u qs))

-- 2. What stands

unmade-left : (u : Uid) (rs : List StoreRequest) → AllUnmade rs → AllUnmade (filter_map (dropped_of u) rs)
unmade-left u [] h = h
unmade-left u (r ∷ rs) h = go (same_uid r.uid u) refl (unmade-left u rs h.1)
  where
    go : (b : Bool) → same_uid r.uid u ≡ b → AllUnmade (filter_map (dropped_of u) rs) → AllUnmade (filter_map (dropped_of u) (r ∷ rs))
    go true is more = rw (is, h.0) more
    go false is more = rw is (h.0, more)

there-left : (u : Uid) (rs : List StoreRequest) (es : List (Uid × Eject)) → AllThere rs es → AllThere (filter_map (dropped_of u) rs) es
there-left u [] es h = h
there-left u (r ∷ rs) es h = go (same_uid r.uid u) refl (r.made == 0) refl (there-left u rs es h.1)
  where
    go : (b : Bool) → same_uid r.uid u ≡ b → (d : Bool) → (r.made == 0) ≡ d → AllThere (filter_map (dropped_of u) rs) es
        → AllThere (filter_map (dropped_of u) (r ∷ rs)) es
    go true is true none more = rw (is, none) more
    go true is false some more = rw (is, some) (h.0, more)
    go false is d which more = rw is (h.0, more)

under-way-left : (u : Uid) (c : StoreChange) (made : ℕ) (left : List DiskCall) (size : ℕ) (rs : List StoreRequest)
    → IsUnderWay c made left size rs → IsUnderWay c made left size (filter_map (dropped_of u) rs)
under-way-left u c made left size [] h = absurd (let bad : None ≡ Some h.request = h.is_first in cc bad)
under-way-left u c made left size (r ∷ rs) h = go (same_uid r.uid u) refl (r.made == 0) refl
  where
    same : r ≡ h.request
    same = let e : Some r ≡ Some h.request = h.is_first in cc e

    go : (b : Bool) → same_uid r.uid u ≡ b → (d : Bool) → (r.made == 0) ≡ d
        → IsUnderWay c made left size (filter_map (dropped_of u) (r ∷ rs))
    go b is true none = absurd (let calls : r.made ≡ made = ap (λ (q : StoreRequest). q.made) same
        ∙ h.calls in let zero : r.made ≡ 0 = eqb-true r.made 0 none in omega (arith, calls, zero, h.some_made))
    go true is false some = rw (is, some) (record {
      request = record r { process = None };
      is_first = refl;
      uid = ap (λ (q : StoreRequest). q.uid) same ∙ h.uid;
      change = ap (λ (q : StoreRequest). q.change) same ∙ h.change;
      calls = ap (λ (q : StoreRequest). q.made) same ∙ h.calls;
      some_made = h.some_made;
      some_left = h.some_left;
      bounded = h.bounded;
      others = unmade-left u rs h.others;
    })
    go false is false some = rw is (record {
      request = r;
      is_first = refl;
      uid = ap (λ (q : StoreRequest). q.uid) same ∙ h.uid;
      change = ap (λ (q : StoreRequest). q.change) same ∙ h.change;
      calls = ap (λ (q : StoreRequest). q.made) same ∙ h.calls;
      some_made = h.some_made;
      some_left = h.some_left;
      bounded = h.bounded;
      others = unmade-left u rs h.others;
    })

stand-left : (u : Uid) (w : Work) (size : ℕ) (rs : List StoreRequest) → RequestsStand w size rs
    → RequestsStand w size (filter_map (dropped_of u) rs)
stand-left u Idle size rs h = unmade-left u rs h
stand-left u (Busy c made left) size rs h = under-way-left u c made left size rs h
stand-left u (Unsettled c synced) size rs h = unmade-left u rs h

-- 3. The store goes on standing where an active part goes

pub stands-shift : (layout : Layout) (n : ℕ) (f : List StoreRequest → List StoreRequest) (s t : Site) (requests : List StoreRequest)
    (x : Seen) → Shift same_facts f s t
    → RequestsStand x.work x.disk.counts.size (f requests) → AllThere (f requests) s.node.ejects → StandsNow layout n s requests x
    → StandsNow layout n t (f requests) x
stands-shift layout n f s t requests x shift stand there h = record {
  number = shift.number ∙ h.number;
  its_layout = shift.its_layout ∙ h.its_layout;
  up = ap (λ (it : Node). it.up) shift.rest_of ∙ h.up;
  keeps = map-same n f s t x.kept (doubt_in x.work) shift h.keeps;
  epoch_settled = ap (λ (it : Node). it.epoch_doubt) shift.rest_of ∙ h.epoch_settled;
  epoch_stored = ap (λ (it : Node). is_some it.epoch) shift.rest_of ∙ h.epoch_stored;
  queue = shift.requests ∙ ap f h.queue;
  stand = stand;
  there = all-there (f requests) s.node.ejects t.node.ejects (λ u held. shift.uids u ∙ held) there;
  synced = ap (λ (it : Node). it.synced) shift.rest_of ∙ h.synced;
  its_size = ap (λ (it : Node). it.size) shift.rest_of ∙ h.its_size;
  its_clock = ap (λ (it : Node). it.clock) shift.rest_of ∙ h.its_clock;
  not_overfull = ap (λ (it : Node). it.overfull) shift.rest_of ∙ h.not_overfull;
  fresh = h.fresh;
  stands = h.stands;
}

-- an event that touches no disk
pub stands-same : (layout : Layout) (n : ℕ) (s t : Site) (requests : List StoreRequest) (x : Seen) → Shift same_facts same_requests s t
    → StandsNow layout n s requests x → StandsNow layout n t requests x
stands-same layout n s t requests x shift h = stands-shift layout n same_requests s t requests x shift h.stand h.there h

pub stands-dropped : (layout : Layout) (n : ℕ) (b : Bool) (u : Uid) (s t : Site) (requests : List StoreRequest) (x : Seen)
    → Shift same_facts (dropped_if b u) s t → StandsNow layout n s requests x → StandsNow layout n t (dropped_if b u requests) x
stands-dropped layout n false u s t requests x shift h = stands-shift layout n (dropped_if false u) s t requests x shift h.stand h.there h
stands-dropped layout n true u s t requests x shift h = stands-shift layout n (dropped_if true u) s t requests x shift
    (stand-left u x.work x.disk.counts.size requests h.stand) (there-left u requests s.node.ejects h.there) h

-- 4. A removal that is done

shift-clock : (g : List StoreRequest → List StoreRequest) (k : ℕ) (s t : Site) → Shift same_facts g s t
    → Shift same_facts g (with_clock k s) (with_clock k t)
unfolding on_node
shift-clock g k s t shift = record {
  number = shift.number;
  its_layout = shift.its_layout;
  rest_of = ap (λ (it : Node). record it { clock = Some k }) shift.rest_of;
  requests = shift.requests;
  facts = shift.facts;
  uids = shift.uids;
  in_order = shift.in_order;
}

pub stands-removed : (layout : Layout) (n k : ℕ) (c : EjectChange) (u : Uid) (next : Site) (requests : List StoreRequest) (x : Seen)
    → StandsNow layout n (with_clock k next) requests x
    → StandsNow layout n (with_clock k (removed c u next)) (removed_requests c (is_active_in next u) u requests) x
stands-removed layout n k (body bytes) u next requests x h = stands-same layout n (with_clock k next)
    (with_clock k (removed (body bytes) u next)) requests x
    (shift-clock same_requests k next (removed (body bytes) u next) (shift-removed (body bytes) u next)) h
stands-removed layout n k removal u next requests x h = stands-dropped layout n (is_active_in next u) u (with_clock k next)
    (with_clock k (removed removal u next)) requests x
    (shift-clock (dropped_if (is_active_in next u) u) k next (removed removal u next) (shift-removed removal u next)) h

-- 5. A request more

unmade-more : (r : StoreRequest) (rs : List StoreRequest) → r.made ≡ 0 → AllUnmade rs → AllUnmade (rs ++ r ∷ [])
unmade-more r [] none h = (none, tt)
unmade-more r (q ∷ rs) none h = (h.0, unmade-more r rs none h.1)

there-more : (r : StoreRequest) (rs : List StoreRequest) (es : List (Uid × Eject)) → is_some (value_at uid_cmp r.uid es) ≡ true
    → AllThere rs es → AllThere (rs ++ r ∷ []) es
there-more r [] es held h = (held, tt)
there-more r (q ∷ rs) es held h = (h.0, there-more r rs es held h.1)

under-way-more : (r : StoreRequest) (c : StoreChange) (made : ℕ) (left : List DiskCall) (size : ℕ) (rs : List StoreRequest) → r.made ≡ 0
    → IsUnderWay c made left size rs → IsUnderWay c made left size (rs ++ r ∷ [])
under-way-more r c made left size [] none h = absurd (let bad : None ≡ Some h.request = h.is_first in cc bad)
under-way-more r c made left size (q ∷ rs) none h = record {
  request = h.request;
  is_first = h.is_first;
  uid = h.uid;
  change = h.change;
  calls = h.calls;
  some_made = h.some_made;
  some_left = h.some_left;
  bounded = h.bounded;
  others = unmade-more r rs none h.others;
}

stand-more : (r : StoreRequest) (w : Work) (size : ℕ) (rs : List StoreRequest) → r.made ≡ 0 → RequestsStand w size rs
    → RequestsStand w size (rs ++ r ∷ [])
stand-more r Idle size rs none h = unmade-more r rs none h
stand-more r (Busy c made left) size rs none h = under-way-more r c made left size rs none h
stand-more r (Unsettled c synced) size rs none h = unmade-more r rs none h

map-more : (q : Request) (qs : List Request) → map (request_of 0) (qs ++ q ∷ []) ≡ map (request_of 0) qs ++ request_of 0 q ∷ []
map-more q [] = refl
map-more q (p ∷ qs) = ap (λ l. request_of 0 p ∷ l) (map-more q qs)

-- a worker's queue with a request more is that of the node
pub requests-more : (w : Work) (size : ℕ) (q : Request) (qs : List Request) → RequestsStand w size (requests_of w qs)
    → requests_of w (qs ++ q ∷ []) ≡ requests_of w qs ++ request_of 0 q ∷ []
requests-more Idle size q [] h = refl
requests-more (Busy c made left) size q [] h = absurd (let bad : None ≡ Some h.request = h.is_first in cc bad)
requests-more (Unsettled c synced) size q [] h = refl
requests-more w size q (p ∷ qs) h = ap (λ l. request_of (made_in w) p ∷ l) (map-more q qs)

-- an event that asks the store for something
pub stands-asked : (layout : Layout) (n : ℕ) (s t : Site) (r : StoreRequest) (requests : List StoreRequest) (x : Seen) → r.made ≡ 0
    → is_some (value_at uid_cmp r.uid s.node.ejects) ≡ true
    → Shift same_facts (λ rs. rs ++ r ∷ []) s t → StandsNow layout n s requests x → StandsNow layout n t (requests ++ r ∷ []) x
stands-asked layout n s t r requests x none held shift h = stands-shift layout n (λ rs. rs ++ r ∷ []) s t requests x shift
    (stand-more r x.work x.disk.counts.size requests none h.stand) (there-more r requests s.node.ejects held h.there) h

-- 6. The requests stay those of the node

pub of-node-more : (n : ℕ) (q : Request) (qs : List Request) → IsOfNode n q → AllOfNode n qs → AllOfNode n (qs ++ q ∷ [])
of-node-more n q [] one all = (one, tt)
of-node-more n q (p ∷ qs) one all = (all.0, of-node-more n q qs one all.1)

of-node-rest : (n : ℕ) (u : Uid) (qs : List Request) → AllOfNode n qs → AllOfNode n (filter_map (left_of u) qs)
of-node-rest n u [] all = tt
of-node-rest n u (q ∷ qs) all = go (same_uid q.uid u) refl (of-node-rest n u qs all.1)
  where
    go : (b : Bool) → same_uid q.uid u ≡ b → AllOfNode n (filter_map (left_of u) qs) → AllOfNode n (filter_map (left_of u) (q ∷ qs))
    go true is more = rw is more
    go false is more = rw is (all.0, more)

pub of-node-left : (n : ℕ) (begun : Bool) (u : Uid) (qs : List Request) → AllOfNode n qs → AllOfNode n (left_in begun u qs)
of-node-left n begun u [] all = tt
of-node-left n false u (q ∷ qs) all = of-node-rest n u (q ∷ qs) all
of-node-left n true u (q ∷ qs) all = (first-of-node (same_uid q.uid u), of-node-rest n u qs all.1)
  where
    first-of-node : (b : Bool) → IsOfNode n (cond b (record q { process = None }) q)
    first-of-node true = all.0
    first-of-node false = all.0
