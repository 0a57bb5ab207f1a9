-- No uid is given twice in any history of any script over disks that are handed in fit.
use Rattle.std.proofs.Common.{◌≡◌, ◌==◌, ℕ, Bool, true, false, cond, T, List, [], ◌∷◌, map, Option, None, Some, Result, Ok, Err, is_some}
use Rattle.std.proofs.Common.{zero, suc, ◌≤◌, refl, sym, ◌∙◌, ap, subst, arith}
use Rattle.std.specs.Prelude.{IsSomeAnd}
use Rattle.std.specs.List.{filter_map, cons_option}
use Rattle.std.specs.Ordering.{nat_cmp, eq_by_cmp}
use Rattle.std.specs.FinMap as finite
use Rattle.std.specs.FinMap.{nat_cmp-IsAntisymmetric}
use Rattle.std.specs.FinMap.Entries.{is_sorted}
use Rattle.capability.specs.declared.Uid.{Uid}
use Rattle.capability.proofs.Uids.{uid_cmp-IsAntisymmetric}
use Rattle.eden_model.specs.Map.{uid_cmp, value_at}
use Rattle.eden_model.proofs.Laws.{eq-same}
use Rattle.eden_disk.specs.Told.{contents}
use Rattle.passive_store.specs.Kept.{Layout, Kept}
use Rattle.passive_store.specs.Layout.{IsLayout}
use Rattle.journal.specs.declared.command.Script.{Script}
use Rattle.journal.specs.declared.event.Entry.{Entry}
use Rattle.journal.specs.World.{World, Node, Eject}
use Rattle.journal.specs.Opening.{entries_of, found_in, node_of, node_from, passive, passive_entry}
use Rattle.journal.specs.Run.{EachStep}
use Rattle.journal.specs.Standing.{DiskRun}
use Rattle.journal.specs.LegalRun.{IsNew, created_by, IsHandedIn, AreHandedIn, numbered, images, opening_world, run_of}
use Rattle.journal.specs.Laws.{Begins}
use Rattle.history_laws.proofs.Uids.{Fit, OfNode, AllFit, CreatedIn}
use Rattle.history_laws.proofs.Runs.{world-booting}
use Rattle.history_laws.proofs.HandedIn.{IsOwnMap, own-map}
use Rattle.history_laws.proofs.Ordered.{order-passive}
use Rattle.history_laws.proofs.UidRuns.{each-uid-new}

-- 1. The opening world

pub kept-there : (u : Uid) (kept : List (Uid × List ℕ)) → is_some (value_at uid_cmp u (filter_map passive_entry kept)) ≡ true
    → is_some (value_at uid_cmp u kept) ≡ true
kept-there u [] there = there
kept-there u (e ∷ es) there = go (e.0.serial == 0) refl (eq_by_cmp uid_cmp u e.0) refl (kept-there u es)
  where
    entry : Bool → List (Uid × Eject)
    entry c = cons_option (cond c None (Some (e.0, passive e.1))) (filter_map passive_entry es)

    go : (skipped : Bool) → (e.0.serial == 0) ≡ skipped → (b : Bool) → eq_by_cmp uid_cmp u e.0 ≡ b
        → (is_some (value_at uid_cmp u (filter_map passive_entry es)) ≡ true → is_some (value_at uid_cmp u es) ≡ true)
        → is_some (value_at uid_cmp u (e ∷ es)) ≡ true
    go skipped s true is later = rw is refl
    go true s false is later = rw is (later (subst (λ c. is_some (value_at uid_cmp u (entry c)) ≡ true) s there))
    go false s false is later = rw is (later (subst
        (λ c. is_some (cond c (Some (passive e.1)) (value_at uid_cmp u (filter_map passive_entry es))) ≡ true) is
        (subst (λ c. is_some (value_at uid_cmp u (entry c)) ≡ true) s there)))

-- what is kept under serial 0 is no Eject
serial-counts : (u : Uid) (kept : List (Uid × List ℕ)) → is_some (value_at uid_cmp u (filter_map passive_entry kept)) ≡ true
    → 1 ≤ u.serial
serial-counts u [] there = absurd (cc there)
serial-counts u (e ∷ es) there = go (e.0.serial == 0) refl (eq_by_cmp uid_cmp u e.0) refl (serial-counts u es)
  where
    entry : Bool → List (Uid × Eject)
    entry c = cons_option (cond c None (Some (e.0, passive e.1))) (filter_map passive_entry es)

    positive : (n : ℕ) → (n == 0) ≡ false → 1 ≤ n
    positive zero is = absurd (cc is)
    positive (suc n) is = omega arith

    go : (skipped : Bool) → (e.0.serial == 0) ≡ skipped → (b : Bool) → eq_by_cmp uid_cmp u e.0 ≡ b
        → (is_some (value_at uid_cmp u (filter_map passive_entry es)) ≡ true → 1 ≤ u.serial) → 1 ≤ u.serial
    go true s b is later = later (subst (λ c. is_some (value_at uid_cmp u (entry c)) ≡ true) s there)
    go false s true is later = let same : u ≡ e.0 = eq-same uid_cmp uid_cmp-IsAntisymmetric u e.0 is in
        let h : 1 ≤ e.0.serial = positive e.0.serial s in
        omega (arith, h, ap (λ (v : Uid). v.serial) same)
    go false s false is later = later (subst
        (λ c. is_some (cond c (Some (passive e.1)) (value_at uid_cmp u (filter_map passive_entry es))) ≡ true) is
        (subst (λ c. is_some (value_at uid_cmp u (entry c)) ≡ true) s there))

pub in-order : (layout : Layout) (n : ℕ) (image : List ℕ) (kept : List (Uid × List ℕ)) → found_in layout n image ≡ Ok kept
    → T (is_sorted uid_cmp kept)
in-order layout n image kept is = go (layout.map_of n image) is
  where
    go : (r : Result Kept ℕ) → entries_of r ≡ Ok kept → T (is_sorted uid_cmp kept)
    go (Ok k) same = let e : finite.entries k.bodies ≡ kept = cc same in
        subst (λ es. T (is_sorted uid_cmp es)) e (finite.entries_sorted k.bodies)
    go (Err place) same = absurd (cc same)

fit-node : (n size : ℕ) (found : Result (List (Uid × List ℕ)) ℕ) (overfull untold : Bool) (ledger : List ℕ)
    → ((kept : List (Uid × List ℕ)) → found ≡ Ok kept → IsOwnMap n kept × T (is_sorted uid_cmp kept))
    → Fit (OfNode (CreatedIn []) n) (node_from n size found overfull untold ledger)
fit-node n size (Ok kept) overfull untold ledger fits = let x = fits kept refl in let fit : IsOwnMap n kept = x.0 in record {
  up_keeps = λ is. absurd (cc is);
  doubt_is_next = tt;
  in_order = order-passive kept x.1;
  behind = λ u there. record {
    epoch_counts = fit.counted u (kept-there u kept there) (serial-counts u kept there);
    serial_counts = serial-counts u kept there;
    epoch_given = fit.epochs u (kept-there u kept there);
    serial_given = λ same. fit.serials u (kept-there u kept there);
  };
  all_given = λ u g. absurd g.1;
}
fit-node n size (Err place) overfull untold ledger fits = record {
  up_keeps = λ is. absurd (cc is);
  doubt_is_next = tt;
  in_order = tt;
  behind = λ u there. absurd (cc there);
  all_given = λ u g. absurd g.1;
}

-- each node is that of its disk
pub disk-node : (layout : Layout) (n : ℕ) (it : Node) (disks : List (ℕ × DiskRun))
    → value_at nat_cmp n (map (λ d. (d.0, node_of layout d)) (images disks)) ≡ Some it
    → IsSomeAnd (value_at nat_cmp n disks) (λ d. node_of layout (n, (contents d.before).now) ≡ it)
disk-node layout n it [] is = absurd (cc is)
disk-node layout n it (d ∷ ds) is = go (eq_by_cmp nat_cmp n d.0) refl (disk-node layout n it ds)
  where
    go : (b : Bool) → eq_by_cmp nat_cmp n d.0 ≡ b
        → (value_at nat_cmp n (map (λ d. (d.0, node_of layout d)) (images ds)) ≡ Some it
        → IsSomeAnd (value_at nat_cmp n ds) (λ d. node_of layout (n, (contents d.before).now) ≡ it))
        → IsSomeAnd (value_at nat_cmp n (d ∷ ds)) (λ d. node_of layout (n, (contents d.before).now) ≡ it)
    go true b later =
        let here : Some (node_of layout (d.0, (contents d.1.before).now)) ≡ Some it = subst
        (λ c. cond c (Some (node_of layout (d.0, (contents d.1.before).now)))
        (value_at nat_cmp n (map (λ d. (d.0, node_of layout d)) (images ds))) ≡ Some it) b is in
        let same : n ≡ d.0 = eq-same nat_cmp nat_cmp-IsAntisymmetric n d.0 b in
        let mine : node_of layout (n, (contents d.1.before).now) ≡ it = ap (λ m. node_of layout (m, (contents d.1.before).now)) same
        ∙ (cc here) in
        rw b mine
    go false b later = rw b (later (subst (λ c. cond c (Some (node_of layout (d.0, (contents d.1.before).now)))
        (value_at nat_cmp n (map (λ d. (d.0, node_of layout d)) (images ds))) ≡ Some it) b is))

pub fit-opening : (layout : Layout) (disks : List (ℕ × DiskRun)) → IsLayout layout
    → ((n : ℕ) (d : DiskRun) → value_at nat_cmp n disks ≡ Some d → IsHandedIn layout n d)
    → (n : ℕ) (it : Node) → value_at nat_cmp n (map (λ d. (d.0, node_of layout d)) (images disks)) ≡ Some it
    → Fit (OfNode (CreatedIn []) n) it
fit-opening layout disks lays fits n it is = go (value_at nat_cmp n disks) refl (disk-node layout n it disks is)
  where
    go : (o : Option DiskRun) → value_at nat_cmp n disks ≡ o → IsSomeAnd o (λ d. node_of layout (n, (contents d.before).now) ≡ it)
        → Fit (OfNode (CreatedIn []) n) it
    go None at x = absurd x
    go (Some d) at x = subst (Fit (OfNode (CreatedIn []) n)) x (fit-node n _ (found_in layout n (contents d.before).now) _ _ _
        (λ kept found. (own-map layout n d lays (fits n d at) kept found, in-order layout n (contents d.before).now kept found)))

-- 2. Every history of every script

pub no-uid-twice : (layout : Layout) (script : Script) (disks : List DiskRun) (history : List Entry) → IsLayout layout
    → AreHandedIn layout disks → Begins layout script disks history
    → EachStep (λ past s. IsNew s.world past (created_by s.entry.event)) [] (run_of (opening_world layout script disks) script history)
no-uid-twice layout script disks history lays fits follows = each-uid-new w script.nodes script.commands history
    (subst (AllFit (CreatedIn [])) (sym (world-booting 1 script.nodes w script.commands)) (fit-opening layout (numbered disks) lays fits))
    follows
  where
    w : World
    w = opening_world layout script disks
