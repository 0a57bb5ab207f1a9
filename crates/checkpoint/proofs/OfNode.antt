-- The requests of a queue go on being of their node.
use Rattle.std.proofs.Common.{◌≡◌, ℕ, Bool, true, false, cond, List, [], ◌∷◌, ◌++◌, None, Result, Ok, Err, refl, sym, subst}
use Rattle.std.specs.Prelude.{MatchResult}
use Rattle.std.specs.List.{filter_map}
use Rattle.capability.specs.declared.Uid.{Uid}
use Rattle.eden_model.specs.Map.{same_uid}
use Rattle.checkpoint.specs.declared.worker.Request.{Request}
use Rattle.checkpoint.specs.Queues.{left_of, left_in}
use Rattle.checkpoint.specs.Asked.{IsOfNode, AllOfNode}

-- one more of them
pub asked-of_node : (n : ℕ) (qs : List Request) (q : Request) → IsOfNode n q → AllOfNode n qs → AllOfNode n (qs ++ q ∷ [])
asked-of_node n [] q is all = (is, tt)
asked-of_node n (r ∷ qs) q is all = (all.0, asked-of_node n qs q is all.1)

pub asked-all : {E : Type 0} (r : Result (Unit {0}) E) (n : ℕ) (old new : List Request) (q : Request)
    → MatchResult r (λ done. new ≡ old ++ q ∷ []) (λ e. new ≡ old)
    → IsOfNode n q → AllOfNode n old → AllOfNode n new
asked-all (Ok done) n old new q same is all = subst (AllOfNode n) (sym same) (asked-of_node n old q is all)
asked-all (Err e) n old new q same is all = subst (AllOfNode n) (sym same) all

-- without those of an Eject
rest-of_node : (n : ℕ) (u : Uid) (qs : List Request) → AllOfNode n qs → AllOfNode n (filter_map (left_of u) qs)
rest-of_node n u [] all = tt
rest-of_node n u (q ∷ qs) all = go (same_uid q.uid u) refl (rest-of_node n u qs all.1)
  where
    go : (b : Bool) → same_uid q.uid u ≡ b → AllOfNode n (filter_map (left_of u) qs) → AllOfNode n (filter_map (left_of u) (q ∷ qs))
    go true is later = rw is later
    go false is later = rw is (all.0, later)

pub left-of_node : (n : ℕ) (begun : Bool) (u : Uid) (qs : List Request) → AllOfNode n qs → AllOfNode n (left_in begun u qs)
left-of_node n begun u [] all = tt
left-of_node n true u (q ∷ qs) all = (first (same_uid q.uid u), rest-of_node n u qs all.1)
  where
    first : (b : Bool) → IsOfNode n (cond b (record q { process = None }) q)
    first true = all.0
    first false = all.0
left-of_node n false u (q ∷ qs) all = rest-of_node n u (q ∷ qs) all
