-- An event that crashes its node changes what it did before the node fell, and then the node falls.
use Rattle.std.proofs.Common.{◌≡◌, ℕ, Bool, true, false, cond, Option, None, Some, refl, sym, ◌∙◌, ap}
use Rattle.std.specs.Prelude.{IsSomeAnd}
use Rattle.std.specs.Ordering.{nat_cmp}
use Rattle.std.specs.Cmp.{nat_cmp_total}
use Rattle.std.specs.FinMap.Entries.{find-put}
use Rattle.std.proofs.lemmas.Cmp.{tied_itself}
use Rattle.eden_model.specs.Map.{with_item, put_at}
use Rattle.eden_model.proofs.Laws.{put-put}
use Rattle.eden_model.specs.Traffic.{processes_of, broken_by_node}
use Rattle.passive_store.specs.declared.store.Pick.{Pick}
use Rattle.journal.specs.declared.event.StartEnd.TheVariants as start_end
use Rattle.journal.specs.declared.event.RequestEnd.TheVariants as end
use Rattle.journal.specs.declared.event.Event.{Event}
use Rattle.journal.specs.declared.event.Event.TheVariants as event
use Rattle.journal.specs.World.{World, Node, Site, StoreRequest, node_at, site_of, at_node, on_eject, on_node, on_traffic, reaches}
use Rattle.journal.specs.Settling.{first_request, settled, unsynced, to_settle}
use Rattle.journal.specs.Crashes.{crashed, crash_by, tells_each}
use Rattle.journal.specs.Stores.{Work, syncs, reads, unkept, without_room, calls, work_of, EndsSo, AllowsStore, doubted, worked}
use Rattle.journal.specs.Step.{AllowsAt, site_turn, stopped_at}
use Rattle.journal.specs.Falls.{begun_by_call, before_fall}
use Rattle.journal.specs.Kept.{crashes}

-- 1. At the site

pub falls-turn : (reach : ℕ → Bool) (e : Event) (s : Site) → AllowsAt s e → crashes s.number e ≡ true
    → site_turn reach e s ≡ crashed (before_fall e s)
falls-turn reach (event.Crash n) s allowed is = refl
falls-turn reach (event.Activate u start_end.Stop p) s allowed is = refl
falls-turn reach (event.Store u clock end.Stop p) s allowed is = go (first_request s.node) allowed
  where
    by_work : (w : Work) (r : StoreRequest) → EndsSo w end.Stop p → worked w r end.Stop p s ≡ crashed (begun_by_call w r s)
    by_work syncs r e = refl
    by_work reads r e = refl
    by_work unkept r e = absurd e
    by_work without_room r e = absurd e
    by_work calls r e = refl

    go : (o : Option StoreRequest) → IsSomeAnd o (λ r. AllowsStore s u end.Stop p r)
        → with_item o (λ r. worked (work_of s r) r end.Stop p s) s ≡ crashed (with_item o (λ r. begun_by_call (work_of s r) r s) s)
    go None a = absurd a
    go (Some r) a = by_work (work_of s r) r a.ends
falls-turn reach _ s allowed is = absurd (cc is)

-- 2. In the world

-- what is changed before the fall leaves the number of the node and the calls
pub record Quiet (s new : Site) : Type 0 where
  pub number : new.number ≡ s.number
  pub traffic : new.traffic ≡ s.traffic

quiet-settled : (p : Option Pick) (s : Site) → Quiet s (settled p (unsynced s))
unfolding on_node
quiet-settled None s = record { number = refl; traffic = refl }
quiet-settled (Some p) s = record { number = refl; traffic = refl }

quiet-doubted : (r : StoreRequest) (s : Site) → Quiet s (doubted r s)
unfolding on_eject
quiet-doubted r s = record { number = refl; traffic = refl }

pub quiet-before : (e : Event) (s : Site) → crashes s.number e ≡ true → Quiet s (before_fall e s)
quiet-before (event.Crash n) s is = record { number = refl; traffic = refl }
quiet-before (event.Activate u start_end.Stop p) s is = go (to_settle s)
  where
    go : (b : Bool) → Quiet s (cond b (settled p (unsynced s)) s)
    go true = quiet-settled p s
    go false = record { number = refl; traffic = refl }
quiet-before (event.Store u clock end.Stop p) s is = go (first_request s.node)
  where
    by_work : (w : Work) (r : StoreRequest) → Quiet s (begun_by_call w r s)
    by_work calls r = quiet-doubted r s
    by_work syncs r = record { number = refl; traffic = refl }
    by_work reads r = record { number = refl; traffic = refl }
    by_work unkept r = record { number = refl; traffic = refl }
    by_work without_room r = record { number = refl; traffic = refl }

    go : (o : Option StoreRequest) → Quiet s (with_item o (λ r. begun_by_call (work_of s r) r s) s)
    go None = record { number = refl; traffic = refl }
    go (Some r) = by_work (work_of s r) r
quiet-before _ s is = absurd (cc is)

at-some : (n : ℕ) (f : Site → Site) (w : World) (it : Node) → node_at w n ≡ Some it
    → at_node n f w ≡ record w { nodes = put_at nat_cmp n (f (site_of w n it)).node w.nodes; traffic = (f (site_of w n it)).traffic }
unfolding at_node
at-some n f w it is = rw is refl

-- a fall behind another change of the same node
falls-behind : (n : ℕ) (g : Site → Site) (w : World) (it : Node) → node_at w n ≡ Some it → Quiet (site_of w n it) (g (site_of w n it))
    → at_node n (λ s. crashed (g s)) w ≡ at_node n crashed (at_node n g w)
unfolding on_node on_traffic
falls-behind n g w it is quiet = at-some n (λ s. crashed (g s)) w it is
    ∙ ap (λ m. record w { nodes = put_at nat_cmp n (fallen_at m).node w.nodes; traffic = (fallen_at m).traffic }) quiet.number
    ∙ ap (λ ns. record w { nodes = ns; traffic = (fallen_at n).traffic })
    (sym (put-put nat_cmp nat_cmp_total n mid.node (fallen_at n).node w.nodes))
    ∙ sym (at-some n crashed later mid.node found) ∙ sym (ap (at_node n crashed) (at-some n g w it is))
  where
    mid : Site
    mid = g (site_of w n it)

    fallen_at : ℕ → Site
    fallen_at m = crashed (record mid { number = m })

    later : World
    later = record w { nodes = put_at nat_cmp n mid.node w.nodes; traffic = mid.traffic }

    found : node_at later n ≡ Some mid.node
    found = find-put nat_cmp nat_cmp_total n n mid.node w.nodes ∙ rw (tied_itself nat_cmp_total n) refl

pub falls-world : (w : World) (n : ℕ) (it : Node) (e : Event) → node_at w n ≡ Some it → AllowsAt (site_of w n it) e → crashes n e ≡ true
    → stopped_at w n e ≡ crash_by n crashed (at_node n (before_fall e) w)
falls-world w n it e is allowed falls =
    ap (tells_each (processes_of (broken_by_node n) w.traffic)) (same ∙ falls-behind n (before_fall e) w it is quiet)
    ∙ ap (λ t. tells_each (processes_of (broken_by_node n) t) (at_node n crashed (at_node n (before_fall e) w))) (sym traffic)
  where
    quiet : Quiet (site_of w n it) (before_fall e (site_of w n it))
    quiet = quiet-before e (site_of w n it) falls

    traffic : (at_node n (before_fall e) w).traffic ≡ w.traffic
    traffic = ap (λ (v : World). v.traffic) (at-some n (before_fall e) w it is) ∙ quiet.traffic

    same : at_node n (site_turn (reaches w n) e) w ≡ at_node n (λ s. crashed (before_fall e s)) w
    same = at-some n (site_turn (reaches w n) e) w it is
        ∙ ap (λ (s : Site). record w { nodes = put_at nat_cmp n s.node w.nodes; traffic = s.traffic })
        (falls-turn (reaches w n) e (site_of w n it) allowed falls)
        ∙ sym (at-some n (λ s. crashed (before_fall e s)) w it is)
