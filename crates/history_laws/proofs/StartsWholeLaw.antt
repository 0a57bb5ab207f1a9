-- Each start is whole in every history of every script over any disks.
use Rattle.std.proofs.Common.{◌≡◌, ◌==◌, ℕ, Bool, true, false, cond, List, [], ◌∷◌, map, Option, None, Some, Result, Ok, Err, refl, sym}
use Rattle.std.proofs.Common.{ap, subst}
use Rattle.std.specs.Prelude.{IfSome}
use Rattle.std.specs.List.{filter_map, cons_option}
use Rattle.std.specs.Ordering.{nat_cmp, eq_by_cmp}
use Rattle.capability.specs.declared.Uid.{Uid}
use Rattle.eden_model.specs.Map.{with_item, uid_cmp, value_at}
use Rattle.passive_store.specs.Kept.{Layout}
use Rattle.journal.specs.declared.command.Script.{Script}
use Rattle.journal.specs.declared.event.Entry.{Entry}
use Rattle.journal.specs.World.{World, Node, Eject, node_at, eject_at}
use Rattle.journal.specs.Opening.{found_in, node_of, node_from, passive, passive_entry}
use Rattle.journal.specs.Run.{EachStep, FollowsSoFar}
use Rattle.journal.specs.Standing.{DiskRun}
use Rattle.journal.specs.LegalRun.{StartIsWhole, numbered, images, opening_world, run_of}
use Rattle.history_laws.proofs.Changes.{facts_of, facts_at, begun, begun_at, IsTold, AllTold}
use Rattle.history_laws.proofs.Runs.{world-booting}
use Rattle.history_laws.proofs.StartsAreWhole.{each-start-whole}

-- 1. The opening world: nothing is in doubt, and no request waits

pub record IsAtRest (it : Node) : Type 0 where
  pub no_doubt : (u : Uid) → (facts_of (value_at uid_cmp u it.ejects)).1 ≡ None
  pub no_request : it.requests ≡ []

no-doubt : (u : Uid) (kept : List (Uid × List ℕ)) → (facts_of (value_at uid_cmp u (filter_map passive_entry kept))).1 ≡ None
no-doubt u [] = refl
no-doubt u (e ∷ es) = go (e.0.serial == 0) (no-doubt u es)
  where
    found : (b : Bool) (o : Option Eject) → (facts_of o).1 ≡ None → (facts_of (cond b (Some (passive e.1)) o)).1 ≡ None
    found true o h = refl
    found false o h = h

    go : (skipped : Bool) → (facts_of (value_at uid_cmp u (filter_map passive_entry es))).1 ≡ None
        → (facts_of (value_at uid_cmp u (cons_option (cond skipped None (Some (e.0, passive e.1))) (filter_map passive_entry es)))).1 ≡ None
    go true h = h
    go false h = found (eq_by_cmp uid_cmp u e.0) (value_at uid_cmp u (filter_map passive_entry es)) h

rests : (n size : ℕ) (found : Result (List (Uid × List ℕ)) ℕ) (overfull untold : Bool) (ledger : List ℕ)
    → IsAtRest (node_from n size found overfull untold ledger)
rests n size (Ok kept) overfull untold ledger = record { no_doubt = λ u. no-doubt u kept; no_request = refl }
rests n size (Err place) overfull untold ledger = record { no_doubt = λ u. refl; no_request = refl }

all-rest : (layout : Layout) (disks : List (ℕ × List ℕ)) (n : ℕ) (it : Node)
    → value_at nat_cmp n (map (λ d. (d.0, node_of layout d)) disks) ≡ Some it → IsAtRest it
all-rest layout [] n it is = absurd (cc is)
all-rest layout (d ∷ ds) n it is = go (eq_by_cmp nat_cmp n d.0) refl (all-rest layout ds n it)
  where
    go : (b : Bool) → eq_by_cmp nat_cmp n d.0 ≡ b → (value_at nat_cmp n (map (λ d. (d.0, node_of layout d)) ds) ≡ Some it → IsAtRest it)
        → IsAtRest it
    go true b later = let here : Some (node_of layout d) ≡ Some it = subst
        (λ c. cond c (Some (node_of layout d)) (value_at nat_cmp n (map (λ d. (d.0, node_of layout d)) ds)) ≡ Some it) b is in
        subst (λ o. IfSome o IsAtRest) here (rests d.0 _ (found_in layout d.0 d.1) _ _ _)
    go false b later = later (subst (λ c. cond c (Some (node_of layout d)) (value_at nat_cmp n (map (λ d. (d.0, node_of layout d)) ds))
        ≡ Some it) b is)

kept-facts : (o : Option Eject) → (facts_of o).0 ≡ with_item o (λ e. e.kept) None
kept-facts None = refl
kept-facts (Some e) = refl

told-at-rest : (w : World) → ((n : ℕ) (it : Node) → node_at w n ≡ Some it → IsAtRest it) → AllTold w w []
told-at-rest w all = record { each = each; queues = λ n it is. rw (all n it is).no_request (record { unmade = tt; there = tt }) }
  where
    doubt : (u : Uid) (o : Option Node) → node_at w u.node ≡ o → (facts_of (with_item o (λ it. value_at uid_cmp u it.ejects) None)).1 ≡ None
    doubt u None is = refl
    doubt u (Some it) is = (all u.node it is).no_doubt u

    none : (u : Uid) (o : Option Node) → node_at w u.node ≡ o → with_item o (λ it. begun it.requests u) None ≡ None
    none u None is = refl
    none u (Some it) is = ap (λ rs. begun rs u) (all u.node it is).no_request

    each : (u : Uid) → IsTold (with_item (eject_at w u) (λ e. e.kept) None) u (facts_at w u) (begun_at w u) []
    each u = record { kept = kept-facts (eject_at w u); doubt = doubt u (node_at w u.node) refl; begun = none u (node_at w u.node) refl }

-- 2. Every history of every script

pub starts-are-whole : (layout : Layout) (script : Script) (disks : List DiskRun) (history : List Entry)
    → FollowsSoFar (opening_world layout script disks) script.nodes script.commands history
    → EachStep (λ past s. StartIsWhole (opening_world layout script disks) past s s.entry.event) []
    (run_of (opening_world layout script disks) script history)
starts-are-whole layout script disks history follows = each-start-whole w script.nodes script.commands history
    (subst (λ x. AllTold w x []) (sym (world-booting 1 script.nodes w script.commands))
    (told-at-rest w (all-rest layout (images (numbered disks))))) follows
  where
    w : World
    w = opening_world layout script disks
