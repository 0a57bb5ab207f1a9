-- Activations, boots and crashes at a site, as the entries tell them; and a start is whole.
use Rattle.std.proofs.Common.{◌≡◌, ℕ, Bool, true, false, cond, not, ◌&&◌, List, [], ◌∷◌, Option, None, Some, refl, sym, ◌∙◌, ap, subst}
use Rattle.std.proofs.Common.{nat_lt}
use Rattle.std.specs.Ordering.{nat_cmp, eq_by_cmp}
use Rattle.capability.specs.declared.Uid.{Uid}
use Rattle.eden_value.specs.declared.status.Status.TheVariants as status
use Rattle.eden_model.specs.Map.{with_item, same_uid, first}
use Rattle.passive_store.specs.declared.store.Pick.{Pick}
use Rattle.journal.specs.EjectChange.{EjectChange}
use Rattle.journal.specs.declared.event.StartEnd.{StartEnd}
use Rattle.journal.specs.declared.event.StartEnd.TheVariants as start_end
use Rattle.journal.specs.declared.event.BootEnd.{BootEnd}
use Rattle.journal.specs.declared.event.BootEnd.TheVariants as boot_end
use Rattle.journal.specs.World.{World, Site, Node, Eject, StoreRequest, node_at, at_node, site_of, eject_in, on_node}
use Rattle.journal.specs.Run.{Step}
use Rattle.journal.specs.Starts.{activated, activation_turn, StartsFrom}
use Rattle.journal.specs.Settling.{settled, unsynced, to_settle, in_doubt, is_working, epoch_uid}
use Rattle.journal.specs.Boots.{booted_node, boot_turn}
use Rattle.journal.specs.Crashes.{crashed}
use Rattle.journal.specs.Kept.{start_bytes}
use Rattle.history_laws.proofs.Changes.{Facts, facts_of, facts_in, begun, IsTold, AllTold}
use Rattle.history_laws.proofs.Frame.{after_at}
use Rattle.history_laws.proofs.ChangeLaw.{Queued, Comes, Keeps, stays, comes-then, keeps-turned_away, keeps-awake, comes-crashed}
use Rattle.history_laws.proofs.StoreLaw.{settled_facts, comes-settled, comes-after, keeps-unsynced, IsSeen, told-quiet, told-crash}
use Rattle.history_laws.proofs.StoreLaw.{told-picked, not-begun, Leaves, leaves}
use Rattle.history_laws.proofs.StartRuns.{held_of, By, QueuedNode, lift, queue-at_node, start-picked}

-- 1. Activations

abbrev pub is_stopped : StartEnd → Bool
is_stopped start_end.Stop = true
is_stopped _ = false

abbrev left_begun : StartEnd → (Uid → Option EjectChange) → Uid → Option EjectChange
left_begun how work u = cond (is_stopped how) None (work u)

comes-activated : (how : StartEnd) (v : Uid) (s t : Site) (now : Uid → Facts) (work : Uid → Option EjectChange) → Comes s t now work
    → Comes s (activated v how t) now (left_begun how work)
comes-activated start_end.Ok v s t now work x = comes-then s t (activated v start_end.Ok t) now work x (keeps-awake v t)
comes-activated start_end.Gone v s t now work x = comes-then s t (activated v start_end.Gone t) now work x
    (keeps-turned_away v status.Gone t)
comes-activated start_end.Fault v s t now work x = comes-then s t (activated v start_end.Fault t) now work x
    (keeps-turned_away v status.StoreFault t)
comes-activated start_end.Damaged v s t now work x = comes-then s t (activated v start_end.Damaged t) now work x
    (keeps-turned_away v status.Damaged t)
comes-activated start_end.Stop v s t now work x = comes-after s t (crashed t) now (facts_in t) work (λ u. None) x (comes-crashed t) x.facts

pub idle-begun : (rs : List StoreRequest) (u : Uid) → with_item (first rs) (λ r. nat_lt 0 r.made) false ≡ false → begun rs u ≡ None
idle-begun [] u is = refl
idle-begun (r ∷ rs) u is = go (same_uid r.uid u) (nat_lt 0 r.made) is
  where
    go : (a b : Bool) → b ≡ false → cond {A = Option EjectChange} (a && b) (Some r.change) None ≡ None
    go true true e = absurd (cc e)
    go true false e = refl
    go false b e = refl

not-both : (a b : Bool) → (a && not b) ≡ true → b ≡ false
not-both true true e = absurd (cc e)
not-both true false e = refl
not-both false b e = absurd (cc e)

pub settles-idle : (s : Site) (u : Uid) → to_settle s ≡ true → begun s.node.requests u ≡ None
settles-idle s u is = idle-begun s.node.requests u (not-both (in_doubt s.number s.node) (is_working s.node) is)

comes-both : (p : Pick) (s : Site) → Queued s
    → Comes s (settled (Some p) (unsynced s)) (λ u. settled_facts p (facts_in s u)) (begun s.node.requests)
comes-both p s q = let x = keeps-unsynced s q in let y = comes-settled p (unsynced s) x.queue in
    record {
      facts = λ u. y.facts u ∙ ap (settled_facts p) (x.facts u);
      works = λ u. y.works u ∙ x.works u;
      there = λ u h. y.there u (x.there u h);
      queue = y.queue;
    }

pub activation-leaves : (held : Option (List ℕ)) (u : Uid) (past : List Step) (st : Step) (s : Site) (v : Uid) (how : StartEnd)
    (p : Option Pick) → Queued s
    → StartsFrom s v (to_settle s) how p → IsSeen u st None p (is_stopped how) → IsTold held u (facts_in s u) (begun s.node.requests u) past
    → Leaves held u (st ∷ past) (activation_turn v how p s)
activation-leaves held u past st s v how p q starts seen t = go (to_settle s) refl p starts seen
  where
    calm : IsSeen u st None None (is_stopped how) → IsTold held u (facts_in s u) (left_begun how (begun s.node.requests) u) (st ∷ past)
    calm x = by_stop (is_stopped how) x
      where
        by_stop : (b : Bool) → IsSeen u st None None b → IsTold held u (facts_in s u) (cond b None (begun s.node.requests u)) (st ∷ past)
        by_stop true x = told-crash held u past st (facts_in s u) (begun s.node.requests u) x t
        by_stop false x = told-quiet held u past st (facts_in s u) (begun s.node.requests u) x t

    gone : (b : Bool) (o : Option EjectChange) → o ≡ None → None ≡ cond b None o
    gone true o e = refl
    gone false o e = sym e

    go : (b : Bool) → to_settle s ≡ b → (p : Option Pick) → StartsFrom s v b how p → IsSeen u st None p (is_stopped how)
        → Leaves held u (st ∷ past) (activated v how (cond b (settled p (unsynced s)) s))
    go false e p f x = leaves held u (st ∷ past) s _ _ _ (comes-activated how v s s (facts_in s) (begun s.node.requests) (stays s q))
        (calm (record { own_is = x.own_is; pick_is = x.pick_is ∙ f.0; crash_is = x.crash_is }))
    go true e None f x = leaves held u (st ∷ past) s _ _ _
        (comes-activated how v s (unsynced s) (facts_in s) (begun s.node.requests) (keeps-unsynced s q)) (calm x)
    go true e (Some k) f x = leaves held u (st ∷ past) s _ _ _
        (comes-activated how v s (settled (Some k) (unsynced s)) (λ u. settled_facts k (facts_in s u)) (begun s.node.requests)
        (comes-both k s q))
        (not-begun held u (st ∷ past) _ _ _ (gone (is_stopped how) (begun s.node.requests u) (settles-idle s u e))
        (told-picked held u past st (facts_in s u) k (is_stopped how) x (not-begun held u past _ _ _ (settles-idle s u e) t)))

-- 2. Boots

keeps-booted : (s : Site) (e : ℕ) (how : BootEnd) (began : Bool) (t : Site) → Keeps t (on_node (booted_node s e how began) t)
unfolding on_node
keeps-booted s e boot_end.Up began t q = record { facts = λ u. refl; works = λ u. refl; there = λ u h. h; queue = q }
keeps-booted s e boot_end.DiskFault began t q = record { facts = λ u. refl; works = λ u. refl; there = λ u h. h; queue = q }
keeps-booted s e boot_end.Stop began t q = record { facts = λ u. refl; works = λ u. refl; there = λ u h. h; queue = q }
keeps-booted s e (boot_end.Damaged place) began t q = record { facts = λ u. refl; works = λ u. refl; there = λ u h. h; queue = q }
keeps-booted s e boot_end.EpochsSpent began t q = record { facts = λ u. refl; works = λ u. refl; there = λ u h. h; queue = q }
keeps-booted s e boot_end.Full began t q = record { facts = λ u. refl; works = λ u. refl; there = λ u h. h; queue = q }

pub boot-leaves : (held : Option (List ℕ)) (u : Uid) (past : List Step) (st : Step) (s : Site) (e : ℕ) (how : BootEnd) (p : Option Pick)
    (began : Bool) → Queued s
    → s.node.requests ≡ [] → IsSeen u st None p false → IsTold held u (facts_in s u) (begun s.node.requests u) past
    → Leaves held u (st ∷ past) (boot_turn e how p began s)
boot-leaves held u past st s e how p began q empty seen t = go p seen
  where
    none : begun s.node.requests u ≡ None
    none = ap (λ rs. begun rs u) empty

    go : (p : Option Pick) → IsSeen u st None p false → Leaves held u (st ∷ past) (boot_turn e how p began s)
    go None x = leaves held u (st ∷ past) s _ _ _ (keeps-booted s e how began s q)
        (told-quiet held u past st (facts_in s u) (begun s.node.requests u) x t)
    go (Some k) x = leaves held u (st ∷ past) s _ _ _
        (comes-then s (settled (Some k) s) (boot_turn e how (Some k) began s) (λ u. settled_facts k (facts_in s u))
        (begun s.node.requests) (comes-settled k s q) (keeps-booted s e how began (settled (Some k) s)))
        (not-begun held u (st ∷ past) _ _ _ (sym none)
        (told-picked held u past st (facts_in s u) k false x (not-begun held u past _ _ _ none t)))

-- 3. A crash

pub crash-leaves : (held : Option (List ℕ)) (u : Uid) (past : List Step) (st : Step) (s : Site) → IsSeen u st None None true
    → IsTold held u (facts_in s u) (begun s.node.requests u) past → Leaves held u (st ∷ past) (crashed s)
crash-leaves held u past st s seen t = leaves held u (st ∷ past) s _ _ _ (comes-crashed s)
    (told-crash held u past st (facts_in s u) (begun s.node.requests u) seen t)

-- 4. A start is whole

kept-facts : (o : Option Eject) → with_item o (λ e. e.kept) None ≡ (facts_of o).0
kept-facts None = refl
kept-facts (Some e) = refl

pub start-whole : (held : Option (List ℕ)) (u : Uid) (past : List Step) (s : Site) (how : StartEnd) (p : Option Pick) → Queued s
    → StartsFrom s u (to_settle s) how p
    → IsTold held u (facts_in s u) (begun s.node.requests u) past
    → with_item (eject_in (settled p s) u) (λ e. e.kept) None ≡ start_bytes held u p past
start-whole held u past s how p q starts t = go (to_settle s) refl p starts
  where
    unpicked : (p : Option Pick) → p ≡ None → with_item (eject_in (settled p s) u) (λ e. e.kept) None ≡ start_bytes held u p past
    unpicked None e = kept-facts (eject_in s u) ∙ t.kept
    unpicked (Some k) e = absurd (cc e)

    go : (b : Bool) → to_settle s ≡ b → (p : Option Pick) → StartsFrom s u b how p
        → with_item (eject_in (settled p s) u) (λ e. e.kept) None ≡ start_bytes held u p past
    go false e p f = unpicked p f.0
    go true e None f = unpicked None refl
    go true e (Some k) f = kept-facts (eject_in (settled (Some k) s) u) ∙ (ap (λ (x : Facts). x.0) ((comes-settled k s q).facts u)
        ∙ start-picked held u (facts_in s u) k past (not-begun held u past _ _ _ (settles-idle s u e) t))

-- 5. A turn at a node, in the world

pub told-at : (opening w : World) (past : List Step) (st : Step) (n : ℕ) (f : Site → Site) (it : Node) → node_at w n ≡ Some it
    → ((u : Uid) → u.node ≡ n → QueuedNode it → IsTold (held_of opening u) u (facts_in (site_of w n it) u) (begun it.requests u) past
    → Leaves (held_of opening u) u (st ∷ past) (f (site_of w n it)))
    → ((u : Uid) → eq_by_cmp nat_cmp u.node n ≡ false → IsSeen u st None None false)
    → AllTold opening w past → AllTold opening (at_node n f w) (st ∷ past)
told-at opening w past st n f it is here elsewhere all = record {
  each = λ u. lift w n f u (C u (st ∷ past)) (λ jt at e found. at-home u jt at e found)
      (λ other. told-quiet (held_of opening u) u past st _ _ (elsewhere u other) (all.each u))
      (λ none. absurd (let bad : None ≡ Some it = sym none ∙ is in cc bad));
  queues = queue-at_node w n f (λ jt at q. home-queue jt at) all.queues;
}
  where
    C : (u : Uid) (past : List Step) → Facts → Option EjectChange → Type 0
    C u past facts now = IsTold (held_of opening u) u facts now past

    left : (u : Uid) → u.node ≡ n → node_at w u.node ≡ Some it → Leaves (held_of opening u) u (st ∷ past) (f (site_of w n it))
    left u e found = here u e (all.queues n it is) (subst (By (C u past) u) found (all.each u))

    same-node : (jt : Node) → node_at w n ≡ Some jt → it ≡ jt
    same-node jt at = let e : Some it ≡ Some jt = sym is ∙ at in cc e

    at-home : (u : Uid) (jt : Node) → node_at w n ≡ Some jt → u.node ≡ n → node_at w u.node ≡ Some jt
        → By (C u (st ∷ past)) u (Some (after_at n f w jt))
    at-home u jt at e found = subst (λ x. By (C u (st ∷ past)) u (Some (after_at n f w x))) (same-node jt at)
        (left u e (ap (node_at w) e ∙ is)).told

    home-queue : (jt : Node) → node_at w n ≡ Some jt → Queued (f (site_of w n jt))
    home-queue jt at = subst (λ x. Queued (f (site_of w n x))) (same-node jt at) (left (epoch_uid n) refl is).queue
