-- Turns that touch no disk: the store goes on standing, and the disk shows nothing.
use Rattle.std.proofs.Common.{◌≡◌, ℕ, Bool, true, false, cond, not, ◌==◌, List, [], Option, None, Some, refl, sym, ap, subst}
use Rattle.std.specs.List.{filter}
use Rattle.capability.specs.declared.Uid.{Uid}
use Rattle.eden_value.specs.Datum.{Datum}
use Rattle.eden_value.specs.declared.status.Status.{Status}
use Rattle.eden_model.specs.Map.{with_item}
use Rattle.eden_model.specs.declared.Asker.{Asker}
use Rattle.eden_model.specs.declared.Asker.TheVariants.{Shell, Eject as Process}
use Rattle.eden_model.specs.Traffic.{call_at, replied, taken, changed_call, at_place, held}
use Rattle.epl_syntax.specs.Rules.OfTypes.{TypeList}
use Rattle.epl_syntax.specs.declared.effect.Answer.TheVariants.{Reply as Told}
use Rattle.invocation.specs.Mail.{Mail}
use Rattle.passive_store.specs.Kept.{Layout}
use Rattle.passive_store.specs.Seen.{Seen}
use Rattle.journal.specs.declared.event.Event.{Event}
use Rattle.journal.specs.declared.event.Event.TheVariants as event
use Rattle.journal.specs.World.{Active, Eject, Site, on_node, on_traffic}
use Rattle.journal.specs.Ejects.{with_active, on_active}
use Rattle.journal.specs.Deliveries.{requested, received, tells_asker, heard}
use Rattle.journal.specs.Processes.{start, with_start}
use Rattle.journal.specs.Step.{site_turn}
use Rattle.checkpoint.specs.Asked.{StandsNow}
use Rattle.checkpoint.specs.Changes.{facts_of}
use Rattle.checkpoint.specs.Turns.{with_clock}
use Rattle.checkpoint.specs.declared.worker.Worker.{Worker}
use Rattle.checkpoint.proofs.Dropped.{stands-same}
use Rattle.checkpoint.proofs.Shifts.{Shift, same_facts, same_requests, shift-then, shift-on_traffic, shift-on_eject}
use Rattle.checkpoint.proofs.Shifts.{shift-item, shift-tells}
use Rattle.checkpoint.proofs.StoreTurns.{node-quiet}
use Rattle.ejects.specs.Events.{IsDelivery, IsStartOf}
use Rattle.ejects.specs.Parts.{IsAt, IsStep}
use Rattle.ejects.specs.View.{parts_of}
use Rattle.ejects.specs.declared.Ejects.{Ejects}
use Rattle.eden_kernel.specs.Stands.{requests_in, NodeStands}
use Rattle.eden_kernel.specs.Turns.{Turns}

-- 1. What the turns of calls do to what the disk knows

shift-requested : (k : ℕ) (refused : Option Status) (s : Site) → Shift same_facts same_requests s (requested k refused s)
shift-requested k (Some why) s = shift-on_traffic (λ t. replied why [] k (taken k t)) s
shift-requested k None s = shift-item same_requests s (call_at s.traffic k) _ (λ c is.
    shift-then same_facts same_facts same_requests same_requests s
    (on_traffic (λ t. changed_call k (at_place held) (taken k t)) s) _
    (shift-on_traffic (λ t. changed_call k (at_place held) (taken k t)) s)
    (shift-on_eject c.target.uid _ (on_traffic (λ t. changed_call k (at_place held) (taken k t)) s) (λ e. refl)))

shift-heard : (k : ℕ) (why : Status) (values : List Datum) (s : Site) → Shift same_facts same_requests s (heard k why values s)
shift-heard k why values s = shift-item same_requests s (call_at s.traffic k) _ (λ c is. go c.open_ c.asker)
  where
    go : (b : Bool) (a : Asker) → Shift same_facts same_requests s
        (cond b (tells_asker a why values (on_traffic (received k) s)) (on_traffic (received k) s))
    go true (Shell name) = shift-on_traffic (received k) s
    go true (Process u p) = shift-then same_facts same_facts same_requests same_requests s (on_traffic (received k) s) _
        (shift-on_traffic (received k) s) (shift-tells u p (Told why values) (on_traffic (received k) s))
    go false a = shift-on_traffic (received k) s

facts-started : (f : Active → Active) (ks : List ℕ) (e : Eject) → facts_of (Some (record (on_active f e) { queued = ks })) ≡ facts_of
    (Some e)
facts-started f ks e = go e.active
  where
    go : (o : Option Active)
        → facts_of (Some (record (with_item o (λ it. with_active (Some (f it)) e) e) { queued = ks })) ≡ facts_of (Some e)
    go None = refl
    go (Some it) = refl

shift-start : (u : Uid) (k p : ℕ) (s : Site) → Shift same_facts same_requests s (start u k p s)
shift-start u k p s = shift-item same_requests s (call_at s.traffic k) _ (λ c is. shift-on_eject u _ s
    (λ e. facts-started (with_start s.traffic k p c) (filter (λ j. not (j == k)) e.queued) e))

pub shift-delivery : (reach : ℕ → Bool) (from to : ℕ) (e : Event) (s : Site) → IsDelivery from to e → Shift same_facts same_requests s
    (site_turn reach e s)
shift-delivery reach from to (event.Request k a b refused) s is = shift-requested k refused s
shift-delivery reach from to (event.Reply k a b name why values) s is = shift-heard k why values s
shift-delivery reach from to _ s is = absurd is

pub shift-started : (reach : ℕ → Bool) (u : Uid) (e : Event) (s : Site) → IsStartOf u e
    → Shift same_facts same_requests s (site_turn reach e s)
shift-started reach u (event.Start k v p) s is = shift-start v k p s
shift-started reach u _ s is = absurd is

-- 2. A node goes on

-- a site whose clock is that of the disk
clocked-same : (c : ℕ) (t : Site) → t.node.clock ≡ Some c → with_clock c t ≡ t
unfolding on_node
clocked-same c t is = ap (λ o. record t { node = record t.node { clock = o } }) (sym is)

pub turns-still : (layout : Layout) (ts : TypeList) (k : ℕ) (x : Seen) (old new : Ejects) (w later : Worker) (m mail : Mail) (reach : ℕ →
    Bool)
    (s : Site) (e : Event) → IsStep reach (parts_of ts new) mail s e
    → NodeStands layout ts (record { number = k; ejects = old; worker = w; seen = x }) m s
    → StandsNow layout x.node (site_turn reach e s) (requests_in (record { number = k; ejects = new; worker = later; seen = x })) x
    → Turns layout ts (record { number = k; ejects = new; worker = later; seen = x }) mail reach (record {
      number = k;
      ejects = old;
      worker = w;
      seen = x;
    }) s e
turns-still layout ts k x old new w later m mail reach s e step h after = record {
  allowed = step.allowed;
  stands = record {
    calls = subst (IsAt (parts_of ts new) mail) (sym same) step.is_at;
    disk = subst (λ t. StandsNow layout x.node t (requests_in (record { number = k; ejects = new; worker = later; seen = x })) x) (sym
        same) after;
  };
  disk = node-quiet layout x.node x.more s (site_turn reach e s) x.kept x.work x.disk.told x.disk.counts.clock h.disk.keeps after.keeps
      h.disk.stands;
}
  where
    same : with_clock x.disk.counts.clock (site_turn reach e s) ≡ site_turn reach e s
    same = clocked-same x.disk.counts.clock (site_turn reach e s) after.its_clock

-- with the same requests
pub turns-shifted : (layout : Layout) (ts : TypeList) (k : ℕ) (x : Seen) (old new : Ejects) (w : Worker) (m mail : Mail) (reach : ℕ → Bool)
    (s : Site) (e : Event) → Shift same_facts same_requests s (site_turn reach e s) → IsStep reach (parts_of ts new) mail s e
    → NodeStands layout ts (record { number = k; ejects = old; worker = w; seen = x }) m s
    → Turns layout ts (record { number = k; ejects = new; worker = w; seen = x }) mail reach (record {
      number = k;
      ejects = old;
      worker =
          w;
      seen = x;
    }) s e
turns-shifted layout ts k x old new w m mail reach s e shift step h =
    turns-still layout ts k x old new w w m mail reach s e step h
    (stands-same layout x.node s (site_turn reach e s) (requests_in (record { number = k; ejects = old; worker = w; seen = x })) x shift
    h.disk)
