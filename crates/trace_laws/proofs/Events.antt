-- What is due at one position: the same event, up to what a disk decides.
use Rattle.std.proofs.Common.{◌≡◌, ℕ, List, Option, None, Some, refl, ap, sym, subst, ◌∙◌, inl, inr}
use Rattle.std.specs.Prelude.{IsSomeAnd, ◌⊎◌}
use Rattle.capability.specs.declared.Uid.{Uid}
use Rattle.eden_value.specs.Datum.{Datum}
use Rattle.eden_value.specs.declared.status.Status.{Status}
use Rattle.eden_model.specs.Map.{with_item}
use Rattle.eden_model.specs.Traffic.{call_at, next_message, asked, answered, shell_name}
use Rattle.passive_store.specs.declared.store.Pick.{Pick}
use Rattle.journal.specs.declared.event.Key.{Key}
use Rattle.journal.specs.declared.event.Event.{Event}
use Rattle.journal.specs.declared.event.Event.TheVariants as event
use Rattle.journal.specs.declared.event.Shown.{Shown}
use Rattle.journal.specs.declared.event.StartEnd.{StartEnd}
use Rattle.journal.specs.declared.event.RequestEnd.{RequestEnd}
use Rattle.journal.specs.World.{World, Node, node_at, site_of, site_at, eject_in}
use Rattle.journal.specs.Deliveries.{AllowsRequest, AllowsReply, refusal_at}
use Rattle.journal.specs.Processes.{AllowsStart, AllowsTurn, invocation, turn_of, worker_at, shown_of}
use Rattle.journal.specs.Stores.{AllowsStore}
use Rattle.journal.specs.Settling.{first_request}
use Rattle.journal.specs.Enabled.{no_uid}
use Rattle.journal.specs.Step.{AllowsAt, AllowsInTurn, key_of}
use Rattle.trace_laws.proofs.EventKinds.{is-activate, is-store, is-start, is-process, is-delivery}

-- 1. Two facts of one item

pub both-some : {X : Type 0} (o : Option X) (P Q : X → Type 0) → IsSomeAnd o P → IsSomeAnd o Q → (x : X) × (o ≡ Some x) × P x × Q x
both-some None P Q p q = absurd p
both-some (Some x) P Q p q = (x, refl, p, q)

pub some-same : {X : Type 0} (a b : X) (o : Option X) → o ≡ Some a → o ≡ Some b → a ≡ b
some-same a b o x y = let z : Some a ≡ Some b = sym x ∙ y in cc z

-- 2. The parts of keys

station_in : Option Key → ℕ
station_in o = with_item o (λ k. k.station) 0

pub same-station : (k l : Key) → Some k ≡ Some l → k.station ≡ l.station
same-station k l e = ap (λ o. with_item o (λ k. k.station) 0) e

pub same-sender : (k l : Key) → Some k ≡ Some l → k.sender ≡ l.sender
same-sender k l e = ap (λ o. with_item o (λ k. k.sender) 0) e

pub same-uid : (k l : Key) → Some k ≡ Some l → k.uid ≡ l.uid
same-uid k l e = ap (λ o. with_item o (λ k. k.uid) no_uid) e

pub same-process : (k l : Key) → Some k ≡ Some l → k.process ≡ l.process
same-process k l e = ap (λ o. with_item o (λ k. k.process) 0) e

-- 3. Turns

-- the events of one turn: where a disk has a say, of the same Eject; else the same
abbrev pub AlikeTurn : Event → Event → Type 0
AlikeTurn (event.Activate u how p) f = (so : StartEnd) × (q : Option Pick) × (f ≡ event.Activate u so q)
AlikeTurn (event.Store u c how p) f = (d : ℕ) × (so : RequestEnd) × (q : Option Pick) × (f ≡ event.Store u d so q)
AlikeTurn e f = f ≡ e

request-same : (w : World) (k l a b : ℕ) (x y : Option Status) → AllowsInTurn w (event.Request k a b x)
    → AllowsInTurn w (event.Request l a b y) → event.Request l a b y ≡ event.Request k a b x
request-same w k l a b x y p q =
    let t = both-some (site_at w b) (λ s. AllowsAt s (event.Request k a b x)) (λ s. AllowsAt s (event.Request l a b y)) p q in
    let number : l ≡ k = some-same l k (next_message t.0.traffic a b) t.3.first_in_queue t.2.first_in_queue in
    let d = both-some (call_at t.0.traffic k) (λ c. (c.place ≡ asked) × (x ≡ refusal_at t.0 c))
    (λ c. (c.place ≡ asked) × (y ≡ refusal_at t.0 c))
    t.2.delivered (subst (λ n. IsSomeAnd (call_at t.0.traffic n) (λ c. (c.place ≡ asked) × (y ≡ refusal_at t.0 c))) number
    t.3.delivered) in
    let status : y ≡ x = d.3.1 ∙ sym d.2.1 in
    cc (number, status)

reply-same : (w : World) (k l a b : ℕ) (n m : Option (List ℕ)) (x y : Status) (v u : List Datum) → AllowsReply w.traffic k a b n x v
    → AllowsReply w.traffic l a b m y u → event.Reply l a b m y u ≡ event.Reply k a b n x v
reply-same w k l a b n m x y v u p q =
    let number : l ≡ k = some-same l k (next_message w.traffic a b) q.first_in_queue p.first_in_queue in
    let d = both-some (call_at w.traffic k) (λ c. (c.place ≡ answered x v) × (n ≡ shell_name c.asker))
    (λ c. (c.place ≡ answered y u) × (m ≡ shell_name c.asker))
    p.delivered (subst (λ n. IsSomeAnd (call_at w.traffic n) (λ c. (c.place ≡ answered y u) × (m ≡ shell_name c.asker))) number
    q.delivered) in
    let place : answered y u ≡ answered x v = sym d.3.0 ∙ d.2.0 in
    let name : m ≡ n = d.3.1 ∙ sym d.2.1 in
    let status : y ≡ x = cc place in
    let values : u ≡ v = cc place in
    cc (number, name, status, values)

not-both : (w : World) (k l a b : ℕ) (x : Option Status) (m : Option (List ℕ)) (y : Status) (u : List Datum)
    → AllowsInTurn w (event.Request k a b x) → AllowsReply w.traffic l a b m y u → ⊥
not-both w k l a b x m y u p q = go (node_at w b) p
  where
    at-node : (it : Node) → AllowsRequest (site_of w b it) k a b x → ⊥
    at-node it r =
        let number : l ≡ k = some-same l k (next_message w.traffic a b) q.first_in_queue r.first_in_queue in
        let d = both-some (call_at w.traffic k) (λ c. (c.place ≡ asked) × (x ≡ refusal_at (site_of w b it) c))
        (λ c. (c.place ≡ answered y u) × (m ≡ shell_name c.asker))
        r.delivered (subst (λ n. IsSomeAnd (call_at w.traffic n) (λ c. (c.place ≡ answered y u) × (m ≡ shell_name c.asker))) number
        q.delivered) in
        let place : asked ≡ answered y u = sym d.2.0 ∙ d.3.0 in
        absurd (cc place)

    go : (o : Option Node) → IsSomeAnd (with_item o (λ it. Some (site_of w b it)) None) (λ s. AllowsAt s (event.Request k a b x)) → ⊥
    go None r = absurd r
    go (Some it) r = at-node it r

start-same : (w : World) (k l : ℕ) (u : Uid) (p q : ℕ) → AllowsInTurn w (event.Start k u p) → AllowsInTurn w (event.Start l u q)
    → event.Start l u q ≡ event.Start k u p
start-same w k l u p q x y =
    let t = both-some (site_at w u.node) (λ s. AllowsAt s (event.Start k u p)) (λ s. AllowsAt s (event.Start l u q)) x y in
    let e = both-some (eject_in t.0 u) (λ e. IsSomeAnd e.active (λ it. AllowsStart t.0.traffic k p e it))
    (λ e. IsSomeAnd e.active (λ it. AllowsStart t.0.traffic l q e it)) t.2 t.3 in
    let a = both-some e.0.active (λ it. AllowsStart t.0.traffic k p e.0 it) (λ it. AllowsStart t.0.traffic l q e.0 it) e.2 e.3 in
    let first : Some (invocation a.0.kind t.0.traffic l) ≡ Some (invocation a.0.kind t.0.traffic k) = sym a.3.earliest ∙ a.2.earliest in
    let number : l ≡ k = ap (λ o. with_item o (λ i. i.call) 0) first in
    let process : q ≡ p = a.3.number ∙ sym a.2.number in
    cc (number, process)

process-same : (w : World) (u : Uid) (p : ℕ) (x y : Shown) → AllowsInTurn w (event.Process u p x) → AllowsInTurn w (event.Process u p y)
    → event.Process u p y ≡ event.Process u p x
process-same w u p x y f g =
    let t = both-some (site_at w u.node) (λ s. AllowsAt s (event.Process u p x)) (λ s. AllowsAt s (event.Process u p y)) f g in
    let e = both-some (eject_in t.0 u) (λ e. IsSomeAnd e.active (λ it. IsSomeAnd (worker_at it p) (λ q. AllowsTurn t.0 u p x it q)))
    (λ e. IsSomeAnd e.active (λ it. IsSomeAnd (worker_at it p) (λ q. AllowsTurn t.0 u p y it q))) t.2 t.3 in
    let a = both-some e.0.active (λ it. IsSomeAnd (worker_at it p) (λ q. AllowsTurn t.0 u p x it q))
    (λ it. IsSomeAnd (worker_at it p) (λ q. AllowsTurn t.0 u p y it q)) e.2 e.3 in
    let q = both-some (worker_at a.0 p) (λ q. AllowsTurn t.0 u p x a.0 q) (λ q. AllowsTurn t.0 u p y a.0 q) a.2 a.3 in
    let d = both-some (turn_of u a.0 p) (λ t2. x ≡ shown_of t.0 q.0.serves t2.effect)
    (λ t2. y ≡ shown_of t.0 q.0.serves t2.effect) q.2.shows q.3.shows in
    ap (λ said. event.Process u p said) (d.3 ∙ sym d.2)

store-same : (w : World) (u v : Uid) (c d : ℕ) (how so : RequestEnd) (p q : Option Pick) → u.node ≡ v.node
    → AllowsInTurn w (event.Store u c how p) → AllowsInTurn w (event.Store v d so q) → v ≡ u
store-same w u v c d how so p q node x y =
    let t = both-some (site_at w u.node) (λ s. AllowsAt s (event.Store u c how p)) (λ s. AllowsAt s (event.Store v d so q)) x
    (subst (λ n. IsSomeAnd (site_at w n) (λ s. AllowsAt s (event.Store v d so q))) (sym node) y) in
    let r = both-some (first_request t.0.node) (λ r. AllowsStore t.0 u how p r) (λ r. AllowsStore t.0 v so q r) t.2 t.3 in
    r.3.of_uid ∙ sym r.2.of_uid

-- two events that a turn of one key allows
pub turn-alike : (w : World) (e f : Event) (k : Key) → key_of e ≡ Some k → key_of f ≡ Some k → AllowsInTurn w e → AllowsInTurn w f
    → AlikeTurn e f
turn-alike w (event.Request k a b x) f key is has p q = go (is-delivery f (ap (λ o. with_item o (λ k. k.kind) 0) (has ∙ sym is)))
  where
    go : ((l : ℕ) × (c : ℕ) × (d : ℕ) × (y : Option Status) × (f ≡ event.Request l c d y))
        ⊎ ((l : ℕ) × (c : ℕ) × (d : ℕ) × (m : Option (List ℕ)) × (y : Status) × (v : List Datum) × (f ≡ event.Reply l c d m y v))
        → f ≡ event.Request k a b x
    go (inl r) =
        let keys : Some key ≡ Some (record { station = r.2; kind = 1; sender = r.1; uid = no_uid; process = 0 }) = sym has
        ∙ ap key_of r.4 in
        let here : Some (record { station = b; kind = 1; sender = a; uid = no_uid; process = 0 }) ≡ Some key = is in
        let to : r.2 ≡ b = sym (same-station _ _ (here ∙ keys)) in
        let from : r.1 ≡ a = sym (same-sender _ _ (here ∙ keys)) in
        let same : f ≡ event.Request r.0 a b r.3 = cc (r.4, to, from) in
        same ∙ request-same w k r.0 a b x r.3 p (subst (AllowsInTurn w) same q)
    go (inr r) =
        let keys : Some key ≡ Some (record { station = r.2; kind = 1; sender = r.1; uid = no_uid; process = 0 }) = sym has
        ∙ ap key_of r.6 in
        let here : Some (record { station = b; kind = 1; sender = a; uid = no_uid; process = 0 }) ≡ Some key = is in
        let to : r.2 ≡ b = sym (same-station _ _ (here ∙ keys)) in
        let from : r.1 ≡ a = sym (same-sender _ _ (here ∙ keys)) in
        let same : f ≡ event.Reply r.0 a b r.3 r.4 r.5 = cc (r.6, to, from) in
        absurd (not-both w k r.0 a b x r.3 r.4 r.5 p (subst (AllowsInTurn w) same q))
turn-alike w (event.Reply k a b n x v) f key is has p q = go (is-delivery f (ap (λ o. with_item o (λ k. k.kind) 0) (has ∙ sym is)))
  where
    go : ((l : ℕ) × (c : ℕ) × (d : ℕ) × (y : Option Status) × (f ≡ event.Request l c d y))
        ⊎ ((l : ℕ) × (c : ℕ) × (d : ℕ) × (m : Option (List ℕ)) × (y : Status) × (u : List Datum) × (f ≡ event.Reply l c d m y u))
        → f ≡ event.Reply k a b n x v
    go (inl r) =
        let keys : Some key ≡ Some (record { station = r.2; kind = 1; sender = r.1; uid = no_uid; process = 0 }) = sym has
        ∙ ap key_of r.4 in
        let here : Some (record { station = b; kind = 1; sender = a; uid = no_uid; process = 0 }) ≡ Some key = is in
        let to : r.2 ≡ b = sym (same-station _ _ (here ∙ keys)) in
        let from : r.1 ≡ a = sym (same-sender _ _ (here ∙ keys)) in
        let same : f ≡ event.Request r.0 a b r.3 = cc (r.4, to, from) in
        absurd (not-both w r.0 k a b r.3 n x v (subst (AllowsInTurn w) same q) p)
    go (inr r) =
        let keys : Some key ≡ Some (record { station = r.2; kind = 1; sender = r.1; uid = no_uid; process = 0 }) = sym has
        ∙ ap key_of r.6 in
        let here : Some (record { station = b; kind = 1; sender = a; uid = no_uid; process = 0 }) ≡ Some key = is in
        let to : r.2 ≡ b = sym (same-station _ _ (here ∙ keys)) in
        let from : r.1 ≡ a = sym (same-sender _ _ (here ∙ keys)) in
        let same : f ≡ event.Reply r.0 a b r.3 r.4 r.5 = cc (r.6, to, from) in
        same ∙ reply-same w k r.0 a b n r.3 x r.4 v r.5 p (subst (AllowsInTurn w) same q)
turn-alike w (event.Activate u how x) f key is has p q =
    let r = is-activate f (ap (λ o. with_item o (λ k. k.kind) 0) (has ∙ sym is)) in
    let keys : Some (record { station = u.node; kind = 2; sender = 0; uid = u; process = 0 })
    ≡ Some (record { station = r.0.node; kind = 2; sender = 0; uid = r.0; process = 0 })
    = is ∙ (sym has ∙ ap key_of r.3) in
    let at : r.0 ≡ u = sym (same-uid _ _ keys) in
    (r.1, r.2, r.3 ∙ ap (λ v. event.Activate v r.1 r.2) at)
turn-alike w (event.Start k u x) f key is has p q =
    let r = is-start f (ap (λ o. with_item o (λ k. k.kind) 0) (has ∙ sym is)) in
    let keys : Some (record { station = u.node; kind = 3; sender = 0; uid = u; process = 0 })
    ≡ Some (record { station = r.1.node; kind = 3; sender = 0; uid = r.1; process = 0 })
    = is ∙ (sym has ∙ ap key_of r.3) in
    let at : r.1 ≡ u = sym (same-uid _ _ keys) in
    let same : f ≡ event.Start r.0 u r.2 = r.3 ∙ ap (λ v. event.Start r.0 v r.2) at in
    same ∙ start-same w k r.0 u x r.2 p (subst (AllowsInTurn w) same q)
turn-alike w (event.Process u x said) f key is has p q =
    let r = is-process f (ap (λ o. with_item o (λ k. k.kind) 0) (has ∙ sym is)) in
    let keys : Some (record { station = u.node; kind = 4; sender = 0; uid = u; process = x })
    ≡ Some (record { station = r.0.node; kind = 4; sender = 0; uid = r.0; process = r.1 })
    = is ∙ (sym has ∙ ap key_of r.3) in
    let at : r.0 ≡ u = sym (same-uid _ _ keys) in
    let number : r.1 ≡ x = sym (same-process _ _ keys) in
    let same : f ≡ event.Process u x r.2 = cc (r.3, at, number) in
    same ∙ process-same w u x said r.2 p (subst (AllowsInTurn w) same q)
turn-alike w (event.Store u c how x) f key is has p q =
    let r = is-store f (ap (λ o. with_item o (λ k. k.kind) 0) (has ∙ sym is)) in
    let keys : Some (record { station = u.node; kind = 5; sender = 0; uid = no_uid; process = 0 })
    ≡ Some (record { station = r.0.node; kind = 5; sender = 0; uid = no_uid; process = 0 })
    = is ∙ (sym has ∙ ap key_of r.4) in
    let node : u.node ≡ r.0.node = same-station _ _ keys in
    let at : r.0 ≡ u = store-same w u r.0 c r.1 how r.2 x r.3 node p (subst (AllowsInTurn w) r.4 q) in
    (r.1, r.2, r.3, r.4 ∙ ap (λ v. event.Store v r.1 r.2 r.3) at)
turn-alike w _ f key is has p q = absurd (cc is)
