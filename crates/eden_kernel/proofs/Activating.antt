-- An activation: what its reading leaves of the node at the site after it.
use Rattle.std.proofs.Common.{◌≡◌, ◌≢◌, ℕ, Bool, true, false, cond, not, ◌&&◌, List, [], ◌∷◌, map, Option, None, Some}
use Rattle.std.proofs.Common.{refl, sym, ap, subst, ◌∙◌, arith}
use Rattle.std.specs.Prelude.{is_some, IsSomeAnd, IfSome}
use Rattle.std.specs.Option.{option_map}
use Rattle.capability.specs.declared.Uid.{Uid}
use Rattle.eden_value.specs.Datum.{Datum}
use Rattle.eden_value.specs.declared.status.Status.TheVariants as status
use Rattle.eden_model.specs.Map.{first}
use Rattle.epl_syntax.specs.Edentype.{Edentype}
use Rattle.epl_syntax.specs.Meaning.{values_from}
use Rattle.epl_syntax.specs.Rules.OfTypes.{TypeList}
use Rattle.invocation.specs.Mail.{Mail}
use Rattle.invocation.specs.Carries.{Carries}
use Rattle.passive_store.specs.declared.store.Pick.{Pick}
use Rattle.passive_store.specs.Kept.{Layout, Work, Idle, Busy, Unsettled, doubt_in, unsure_in, IsEject, body_at as kept_at}
use Rattle.passive_store.specs.Seen.{Seen}
use Rattle.journal.specs.declared.event.Event.TheVariants as event
use Rattle.journal.specs.declared.event.StartEnd.{StartEnd}
use Rattle.journal.specs.declared.event.StartEnd.TheVariants as end
use Rattle.journal.specs.World.{Eject, Node, Site, StoreRequest, eject_in, on_node}
use Rattle.journal.specs.Ejects.{fresh}
use Rattle.journal.specs.Settling.{epoch_uid, to_settle, settled, unsynced}
use Rattle.journal.specs.Standing.{Stands as StandsDisk, with_changes}
use Rattle.journal.specs.Starts.{AllowsActivate, StartsFrom, start_of, start_settled, activated, awake_as, awake_from}
use Rattle.journal.specs.Starts.{misfits_answered}
use Rattle.journal.specs.Step.{AllowsAt, site_turn}
use Rattle.checkpoint.specs.Asked.{StandsNow, requests_of, request_of, made_in}
use Rattle.checkpoint.specs.Starting.{StartsOn, StartsDown, StartsTo, StartsWith, LeavesNode}
use Rattle.checkpoint.specs.StoreStands.{RequestsStand, NodeOnDisk, state_of}
use Rattle.checkpoint.specs.Stretch.{Stretch}
use Rattle.checkpoint.specs.Turns.{with_clock}
use Rattle.checkpoint.specs.declared.worker.Request.{Request}
use Rattle.checkpoint.specs.declared.worker.Worker.{Worker}
use Rattle.checkpoint.proofs.Dropped.{stands-same}
use Rattle.checkpoint.proofs.MapStands.{state-is}
use Rattle.checkpoint.proofs.Shifts.{Shift, same_facts, same_requests, shift-item, shift-both, shift-turned_away}
use Rattle.checkpoint.proofs.Starting.{start-settles, start-stays}
use Rattle.active_part.specs.Body.{Body, active_of}
use Rattle.ejects.specs.Marks.{may_wake}
use Rattle.ejects.specs.Parts.{Parts, Known, known, body_at, queue_at, held_of, IsAt, Stands}
use Rattle.ejects.specs.StoreEnds.{SettlesAt}
use Rattle.ejects.specs.View.{parts_of}
use Rattle.ejects.specs.declared.Ejects.{Ejects}
use Rattle.ejects.proofs.Drops.{stays-on_node}
use Rattle.eden_kernel.specs.Stands.{NodeStands}
use Rattle.eden_kernel.specs.Turns.{Turns}
use Rattle.eden_kernel.specs.DiskTurns.{Stops, EndsTurn, behind_start}
use Rattle.eden_kernel.specs.declared.stores.TurnEnd.TheVariants.{Up}
use Rattle.eden_kernel.proofs.Booted.{asleep-crashed}
use Rattle.eden_kernel.proofs.StoreLeaves.{state-clocked, is-at-clocked}
use Rattle.eden_kernel.proofs.StoreTurn.{settles-from}

-- 1. The Eject is passive and has queued calls

pub record IsWaiting (s : Site) (u : Uid) : Type 0 where
  pub eject : Eject
  pub found : eject_in s u ≡ Some eject
  pub passive : eject.active ≡ None
  pub queued : is_some (first eject.queued) ≡ true

waits-at : (n : Parts) (s : Site) (u : Uid) → known (eject_in s u) ≡ held_of n u → may_wake n u ≡ true → IsWaiting s u
waits-at n s u is may = let both = split (body_at n u) refl may in go both.0 both.1 (eject_in s u) refl
  where
    split : (o : Option Body) → body_at n u ≡ o → (not (is_some o) && is_some (first (queue_at n u))) ≡ true
        → (body_at n u ≡ None) × (is_some (first (queue_at n u)) ≡ true)
    split None at both = (at, both)
    split (Some b) at both = absurd (let bad : false ≡ true = both in cc bad)

    go : body_at n u ≡ None → is_some (first (queue_at n u)) ≡ true → (o : Option Eject) → eject_in s u ≡ o → IsWaiting s u
    go none some None at =
        let empty : [] ≡ queue_at n u = ap (λ (k : Known). k.queued) (ap known (sym at) ∙ is) in
        let bad : false ≡ true = ap (λ ks. is_some (first ks)) empty ∙ some in
        absurd (cc bad)
    go none some (Some e) at =
        let same : known (Some e) ≡ held_of n u = ap known (sym at) ∙ is in
        record {
          eject = e;
          found = at;
          passive = ap (λ (k : Known). k.active) same ∙ ap (option_map active_of) none;
          queued = ap (λ (k : Known). is_some (first k.queued)) same ∙ some;
        }

-- the reserved uid is that of no Eject
pub apart-of : (k n : ℕ) (u : Uid) → IsEject k u → u ≢ epoch_uid n
apart-of k n u own bad = let none : u.serial ≡ 0 = ap (λ (w : Uid). w.serial) bad in omega (arith, none, own.2)

-- 2. The settling

settled-traffic : (p : Option Pick) (s : Site) → (settled p s).traffic ≡ s.traffic
unfolding on_node
settled-traffic None s = refl
settled-traffic (Some p) s = refl

unsynced-traffic : (s : Site) → (unsynced s).traffic ≡ s.traffic
unfolding on_node
unsynced-traffic s = refl

start-traffic : (p : Option Pick) (s : Site) → (start_settled p s).traffic ≡ s.traffic
start-traffic p s = go (to_settle s)
  where
    go : (b : Bool) → (cond b (settled p (unsynced s)) s).traffic ≡ s.traffic
    go true = settled-traffic p (unsynced s) ∙ unsynced-traffic s
    go false = refl

unsynced-stands : (n : Parts) (s : Site) → Stands n s → Stands n (unsynced s)
unsynced-stands n s h = stays-on_node n s (λ it. record it { synced = false }) refl refl refl h

unsynced-doubt : (s : Site) → (unsynced s).node.epoch_doubt ≡ s.node.epoch_doubt
unfolding on_node
unsynced-doubt s = refl

unsynced-ejects : (s : Site) (u : Uid) → eject_in (unsynced s) u ≡ eject_in s u
unfolding on_node
unsynced-ejects s u = refl

module _ (layout : Layout) (n : ℕ) (s : Site) (asked : List StoreRequest) (x y : Seen) (u : Uid) (how : StartEnd) (p : Option Pick)
    (e : Eject) (h : StandsNow layout n s asked x) (a : AllowsActivate s u how p e)
    (t : StartsOn layout n s asked x.disk.told x.disk.counts.clock p y) where
  -- the calls half settles each site with the same Ejects
  abbrev Settling : Parts → Parts → Type 0
  Settling old new = (z : Site) → Stands old z
      → ((v : Uid) (q : Pick) → unsure_in x.work ≡ Some v → p ≡ Some q → SettlesAt v (is_some (kept_at y.kept v)) q z)
      → Stands new (settled p z)

  settles-start : (v : Uid) (q : Pick) → to_settle s ≡ true → unsure_in x.work ≡ Some v → p ≡ Some q
      → SettlesAt v (is_some (kept_at y.kept v)) q (unsynced s)
  settles-start v q at doubts picked =
      settles-from layout n s (unsynced s) (start_settled p s) asked x y q v h doubts (unsynced-doubt s) (unsynced-ejects s)
      (ap (λ o. settled o (unsynced s)) (sym picked) ∙ sym (start-settles p s at)) (t.stands.keeps.facts v)

  stands-settled : (old new : Parts) → Stands old s → Settling old new → Stands new (start_settled p s)
  stands-settled old new st settles = go (to_settle s) refl a.starts
    where
      go : (b : Bool) → to_settle s ≡ b → StartsFrom s u b how p → Stands new (start_settled p s)
      go false at starts = subst (Stands new) (sym (start-stays p s at))
          (subst (λ o. Stands new (settled o s)) starts.0
          (settles s st (λ v q doubts picked. absurd (let bad : None ≡ Some q = sym starts.0 ∙ picked in cc bad))))
      go true at starts = subst (Stands new) (sym (start-settles p s at))
          (settles (unsynced s) (unsynced-stands old s st) (λ v q doubts picked. settles-start v q at doubts picked))

  pub at-settled : (old new : Parts) (m : Mail) → IsAt old m s → Settling old new → IsAt new m (start_settled p s)
  at-settled old new m at settles = record {
    parts = stands-settled old new at.parts settles;
    calls = subst (Carries m) (sym (start-traffic p s)) at.calls;
  }

-- 3. What the disk knows behind it

shift-awake : (u : Uid) (s : Site) → Shift same_facts same_requests s (activated u end.Ok s)
shift-awake u s = shift-item same_requests s (eject_in s u) _ (λ e is. shift-item same_requests s e.kept (λ bytes. awake_from u e bytes s)
    (λ bytes at. shift-item same_requests s (start_of s.types bytes u) (λ start. awake_as u e start s)
    (λ start found. shift-both u (λ old. record old {
      active = Some (fresh start.0 (values_from start.0 start.1));
      queued = _;
    }) (misfits_answered start.0 e.queued) s (λ e. refl))))

shift-activated : (u : Uid) (how : StartEnd) (s : Site) → behind_start how ≡ Up → Shift same_facts same_requests s (activated u how s)
shift-activated u end.Ok s up = shift-awake u s
shift-activated u end.Gone s up = shift-turned_away u status.Gone s
shift-activated u end.Fault s up = shift-turned_away u status.StoreFault s
shift-activated u end.Damaged s up = shift-turned_away u status.Damaged s
shift-activated u end.Stop s up = absurd (cc up)

shift-clocked : (c : ℕ) (s t : Site) → Shift same_facts same_requests s t → Shift same_facts same_requests (with_clock c s) (with_clock c t)
unfolding on_node
shift-clocked c s t shift = record {
  number = shift.number;
  its_layout = shift.its_layout;
  rest_of = ap (λ (it : Node). record it { clock = Some c }) shift.rest_of;
  requests = shift.requests;
  facts = shift.facts;
  uids = shift.uids;
  in_order = shift.in_order;
}

-- the requests by a store whose job is as it was
same-asked : (w v : Work) (size : ℕ) (qs : List Request) → RequestsStand v size (requests_of w qs) → requests_of w qs ≡ requests_of v qs
same-asked w v size [] h = refl
same-asked w Idle size (q ∷ qs) h = ap (λ k. request_of k q ∷ map (request_of 0) qs) h.0
same-asked w (Busy c made left) size (q ∷ qs) h =
    let same : request_of (made_in w) q ≡ h.request = let e : Some (request_of (made_in w) q) ≡ Some h.request = h.is_first in cc e in
    ap (λ k. request_of k q ∷ map (request_of 0) qs) (ap (λ (r : StoreRequest). r.made) same ∙ h.calls)
same-asked w (Unsettled c synced) size (q ∷ qs) h = ap (λ k. request_of k q ∷ map (request_of 0) qs) h.0

record Behind (layout : Layout) (n : ℕ) (s next : Site) (rs : List StoreRequest) (x y : Seen) : Type 0 where
  pub stands : StandsNow layout n (with_clock y.disk.counts.clock next) rs y
  pub disk : NodeOnDisk layout n s.node [] next.node x.disk.told x.disk.counts.clock y.disk.told y.disk.counts.clock

behind : (layout : Layout) (n : ℕ) (s next : Site) (qs : List Request) (x y : Seen) (p : Option Pick)
    → StartsOn layout n s (requests_of x.work qs) x.disk.told x.disk.counts.clock p y
    → Shift same_facts same_requests (start_settled p s) next → Behind layout n s next (requests_of y.work qs) x y
behind layout n s next qs x y p t shift = record {
  stands = subst (λ rs. StandsNow layout n (with_clock y.disk.counts.clock next) rs y) asked after;
  disk = subst (λ st. Stretch (StandsDisk layout n (state_of n s.node)) (StandsDisk layout n (with_changes [] (state_of n s.node)))
      (StandsDisk layout n st) x.disk.told x.disk.counts.clock y.disk.told y.disk.counts.clock) same t.disk;
}
  where
    after : StandsNow layout n (with_clock y.disk.counts.clock next) (requests_of x.work qs) y
    after = stands-same layout n (with_clock y.disk.counts.clock (start_settled p s)) (with_clock y.disk.counts.clock next)
        (requests_of x.work qs) y
        (shift-clocked y.disk.counts.clock (start_settled p s) next shift) t.stands

    asked : requests_of x.work qs ≡ requests_of y.work qs
    asked = same-asked x.work y.work y.disk.counts.size qs t.stands.stand

    same : state_of n (start_settled p s).node ≡ state_of n next.node
    same = sym (state-clocked n y.disk.counts.clock (start_settled p s))
        ∙ state-is n (with_clock y.disk.counts.clock (start_settled p s)) y.kept (doubt_in y.work) t.stands.keeps
        ∙ sym (state-is n (with_clock y.disk.counts.clock next) y.kept (doubt_in y.work) after.keeps)
        ∙ state-clocked n y.disk.counts.clock next

-- 4. The turn

module _ (layout : Layout) (ts : TypeList) (k : ℕ) (x y : Seen) (old mid new : Ejects) (w : Worker) (m mail : Mail) (reach : ℕ → Bool)
    (s : Site) (node : y.node ≡ x.node)
    (h : NodeStands layout ts (record { number = k; ejects = old; worker = w; seen = x }) m s)
    (u : Uid) (p : Option Pick) (start : Option (Edentype × List Datum)) (may : may_wake (parts_of ts old) u ≡ true) where
  abbrev Settling-of : Type 0
  Settling-of = (z : Site) → Stands (parts_of ts old) z
      → ((v : Uid) (q : Pick) → unsure_in x.work ≡ Some v → p ≡ Some q → SettlesAt v (is_some (kept_at y.kept v)) q z)
      → Stands (parts_of ts mid) (settled p z)

  abbrev Ending : StartEnd → Type 0
  Ending how = behind_start how ≡ Up → AllowsAt s (event.Activate u how p) → IfSome start (StartsWith s u p)
      → IsAt (parts_of ts mid) m (start_settled p s) → IsAt (parts_of ts new) mail (site_turn reach (event.Activate u how p) s)

  waiting : IsWaiting s u
  waiting = waits-at (parts_of ts old) s u (h.calls.parts.ejects u) may

  allows : (how : StartEnd) → AllowsActivate s u how p waiting.eject → AllowsAt s (event.Activate u how p)
  allows how a = subst (λ o. IsSomeAnd o (λ e. AllowsActivate s u how p e)) (sym waiting.found) a

  goes-on : (how : StartEnd) → behind_start how ≡ Up → AllowsActivate s u how p waiting.eject → IfSome start (StartsWith s u p)
      → StartsOn layout x.node s (requests_of x.work w.requests.items) x.disk.told x.disk.counts.clock p y → Settling-of → Ending how
      → Turns layout ts (record { number = k; ejects = new; worker = w; seen = y }) mail reach
      (record { number = k; ejects = old; worker = w; seen = x }) s (event.Activate u how p)
  goes-on how up a values t settles ends =
      let b = behind layout x.node s (activated u how (start_settled p s)) w.requests.items x y p t
      (shift-activated u how (start_settled p s) up) in
      let at = at-settled layout x.node s (requests_of x.work w.requests.items) x y u how p waiting.eject h.disk a t (parts_of ts old)
      (parts_of ts mid) m h.calls settles in
      record {
        allowed = allows how a;
        stands = record {
          calls = is-at-clocked (parts_of ts new) mail y.disk.counts.clock (activated u how (start_settled p s))
              (ends up (allows how a) values at);
          disk = subst (λ j. StandsNow layout j (with_clock y.disk.counts.clock (activated u how (start_settled p s)))
              (requests_of y.work w.requests.items) y) (sym node) b.stands;
        };
        disk = b.disk;
      }

  goes-down : AllowsActivate s u end.Stop p waiting.eject → StartsDown layout x.node s x.disk.told x.disk.counts.clock p y
      → Stops layout (record { number = k; ejects = new; worker = w; seen = y }) reach
      (record { number = k; ejects = old; worker = w; seen = x }) s (event.Activate u end.Stop p)
  goes-down a t = record {
    allowed = allows end.Stop a;
    falls = record { rests = t.rests; disk = t.disk };
    asleep = asleep-crashed y.disk.counts.clock (start_settled p s);
  }

  by-end : (how : StartEnd) → AllowsActivate s u how p waiting.eject → IfSome start (StartsWith s u p)
      → LeavesNode how layout x.node s (requests_of x.work w.requests.items) x.disk.told x.disk.counts.clock p y → Settling-of → Ending how
      → EndsTurn (behind_start how) layout ts (record { number = k; ejects = new; worker = w; seen = y }) mail reach
      (record { number = k; ejects = old; worker = w; seen = x }) s (event.Activate u how p)
  by-end end.Ok a values t settles ends = goes-on end.Ok refl a values t settles ends
  by-end end.Gone a values t settles ends = goes-on end.Gone refl a values t settles ends
  by-end end.Fault a values t settles ends = goes-on end.Fault refl a values t settles ends
  by-end end.Damaged a values t settles ends = goes-on end.Damaged refl a values t settles ends
  by-end end.Stop a values t settles ends = goes-down a t

  pub turn-activates : (how : StartEnd)
      → StartsTo layout x.node s (requests_of x.work w.requests.items) u x how start p y → Settling-of → Ending how
      → EndsTurn (behind_start how) layout ts (record { number = k; ejects = new; worker = w; seen = y }) mail reach
      (record { number = k; ejects = old; worker = w; seen = x }) s (event.Activate u how p)
  turn-activates how t settles ends =
      by-end how (t.allowed waiting.eject waiting.found waiting.passive waiting.queued) t.with_values t.leaves settles ends
