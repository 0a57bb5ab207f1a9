-- What the entries tell of each Eject's changes is what the world knows of them, after every step.
use Rattle.std.proofs.Common.{◌≡◌, ℕ, Bool, true, false, cond, List, ◌∷◌, Option, None, Some, refl, sym, ◌∙◌, ap, subst}
use Rattle.std.specs.Prelude.{IfSome}
use Rattle.std.specs.Option.{option_map}
use Rattle.std.specs.Ordering.{nat_cmp, eq_by_cmp}
use Rattle.std.specs.FinMap.{nat_cmp-IsAntisymmetric}
use Rattle.capability.specs.declared.Uid.{Uid}
use Rattle.eden_model.specs.Map.{with_item, uid_cmp, value_at}
use Rattle.eden_model.proofs.Laws.{eq-same}
use Rattle.passive_store.specs.declared.store.Pick.{Pick}
use Rattle.passive_store.specs.declared.store.Pick.TheVariants as pick
use Rattle.journal.specs.EjectChange.{EjectChange, kept_of}
use Rattle.journal.specs.World.{World, Site, Node, node_at, eject_at, at_node, site_of}
use Rattle.journal.specs.Run.{Step}
use Rattle.journal.specs.Kept.{cut_short, in_progress, start_bytes}
use Rattle.history_laws.proofs.Changes.{Facts, facts_of, begun, Queue, IsTold, AllTold}
use Rattle.history_laws.proofs.Frame.{node-at_node, after_at}
use Rattle.history_laws.proofs.ChangeLaw.{Queued, Keeps}
use Rattle.history_laws.proofs.StoreLaw.{settled_facts, none-first, IsSeen, told-quiet}

-- 1. A change at node n

abbrev pub held_of : World → Uid → Option (List ℕ)
held_of opening u = with_item (eject_at opening u) (λ e. e.kept) None

-- what a node says of u
abbrev pub By : (Facts → Option EjectChange → Type 0) → Uid → Option Node → Type 0
By C u o = C (facts_of (with_item o (λ it. value_at uid_cmp u it.ejects) None)) (with_item o (λ it. begun it.requests u) None)

pub lift : (w : World) (n : ℕ) (f : Site → Site) (u : Uid) (C : Facts → Option EjectChange → Type 0)
    → ((it : Node) → node_at w n ≡ Some it → u.node ≡ n → node_at w u.node ≡ Some it → By C u (Some (after_at n f w it)))
    → (eq_by_cmp nat_cmp u.node n ≡ false → By C u (node_at w u.node))
    → (node_at w n ≡ None → By C u (node_at w u.node))
    → By C u (node_at (at_node n f w) u.node)
lift w n f u C here elsewhere nowhere = subst (By C u) (sym (node-at_node u.node n f w))
    (go (eq_by_cmp nat_cmp u.node n) refl (node_at w u.node) refl)
  where
    go : (b : Bool) → eq_by_cmp nat_cmp u.node n ≡ b → (o : Option Node) → node_at w u.node ≡ o
        → By C u (cond b (option_map (after_at n f w) o) o)
    go false b o at = subst (By C u) at (elsewhere b)
    go true b None at = subst (By C u) at (nowhere (ap (node_at w) (sym (eq-same nat_cmp nat_cmp-IsAntisymmetric u.node n b)) ∙ at))
    go true b (Some it) at = let e : u.node ≡ n = eq-same nat_cmp nat_cmp-IsAntisymmetric u.node n b in
        here it (ap (node_at w) (sym e) ∙ at) e at

abbrev pub QueuedNode : Node → Type 0
QueuedNode it = Queue it.requests it.ejects

pub queue-at_node : (w : World) (n : ℕ) (f : Site → Site)
    → ((it : Node) → node_at w n ≡ Some it → QueuedNode it → Queued (f (site_of w n it)))
    → ((m : ℕ) (it : Node) → node_at w m ≡ Some it → QueuedNode it) → (m : ℕ) (it : Node) → node_at (at_node n f w) m ≡ Some it
    → QueuedNode it
queue-at_node w n f keeps all m jt is = go (eq_by_cmp nat_cmp m n) refl (node_at w m) refl (sym (node-at_node m n f w) ∙ is)
  where
    found : (it : Node) → node_at w n ≡ Some it → QueuedNode it → Some (after_at n f w it) ≡ Some jt → QueuedNode jt
    found it here q same = subst (λ o. IfSome o QueuedNode) same (keeps it here q)

    go : (b : Bool) → eq_by_cmp nat_cmp m n ≡ b → (o : Option Node) → node_at w m ≡ o
        → cond (eq_by_cmp nat_cmp m n) (option_map (after_at n f w) (node_at w m)) (node_at w m) ≡ Some jt → QueuedNode jt
    go false b o at same = all m jt (subst (λ c. cond c (option_map (after_at n f w) (node_at w m)) (node_at w m) ≡ Some jt) b same)
    go true b None at same = absurd (let bad : None ≡ Some jt = subst (λ o. option_map (after_at n f w) o ≡ Some jt) at
        (subst (λ c. cond c (option_map (after_at n f w) (node_at w m)) (node_at w m) ≡ Some jt) b same) in cc bad)
    go true b (Some it) at same = let e : m ≡ n = eq-same nat_cmp nat_cmp-IsAntisymmetric m n b in
        found it (ap (node_at w) (sym e) ∙ at) (all m it at) (subst (λ o. option_map (after_at n f w) o ≡ Some jt) at
        (subst (λ c. cond c (option_map (after_at n f w) (node_at w m)) (node_at w m) ≡ Some jt) b same))

-- a turn that keeps all of it, with no entry
pub keeps-told : (opening w : World) (past : List Step) (n : ℕ) (f : Site → Site) → ((s : Site) → Keeps s (f s)) → AllTold opening w past
    → AllTold opening (at_node n f w) past
keeps-told opening w past n f keeps all = record {
  each = λ u. lift w n f u (λ facts now. IsTold (held_of opening u) u facts now past)
      (λ it at e here. moved u it at (all.queues n it at)
      (subst (By (λ facts now. IsTold (held_of opening u) u facts now past) u) here (all.each u)))
      (λ other. all.each u) (λ none. all.each u);
  queues = queue-at_node w n f (λ it at q. (keeps (site_of w n it) q).queue) all.queues;
}
  where
    moved : (u : Uid) (it : Node) → node_at w n ≡ Some it → QueuedNode it
        → By (λ facts now. IsTold (held_of opening u) u facts now past) u (Some it)
        → By (λ facts now. IsTold (held_of opening u) u facts now past) u (Some (after_at n f w it))
    moved u it at q t = let x = keeps (site_of w n it) q in
        record {
          kept = ap (λ (f : Facts). f.0) (x.facts u) ∙ t.kept;
          doubt = ap (λ (f : Facts). f.1) (x.facts u) ∙ t.doubt;
          begun = x.works u ∙ t.begun;
        }

-- an entry that is nothing to any Eject's changes
pub quiet-told : (opening w : World) (past : List Step) (st : Step) → ((u : Uid) → IsSeen u st None None false) → AllTold opening w past
    → AllTold opening w (st ∷ past)
quiet-told opening w past st seen all = record {
  each = λ u. told-quiet (held_of opening u) u past st _ _ (seen u) (all.each u);
  queues = all.queues;
}

-- 2. A start is whole where the entries tell what the world knows

none-begun : (held : Option (List ℕ)) (u : Uid) (f : Facts) (past : List Step) → IsTold held u f None past → f.1 ≡ cut_short u past
none-begun held u f past t = t.doubt ∙ none-first (in_progress u past) (cut_short u past) (sym t.begun)

-- after a pick: what the settled Eject keeps is what the entries say that it starts from
pub start-picked : (held : Option (List ℕ)) (u : Uid) (f : Facts) (p : Pick) (past : List Step) → IsTold held u f None past
    → (settled_facts p f).0 ≡ start_bytes held u (Some p) past
start-picked held u f pick.Old past t = t.kept
start-picked held u f pick.New past t = λ i. with_item (none-begun held u f past t i) kept_of (t.kept i)

pub start-unpicked : (held : Option (List ℕ)) (u : Uid) (f : Facts) (now : Option EjectChange) (past : List Step) → IsTold held u f now past
    → f.0 ≡ start_bytes held u None past
start-unpicked held u f now past t = t.kept
