-- The opening world, over disks that are handed in fit, is sound.
use Rattle.std.proofs.Common.{◌≡◌, ◌==◌, ◌+◌, ◌<◌, ℕ, Bool, true, false, cond, ◌&&◌, T, List, [], ◌∷◌, map, Option, None, Some, Result}
use Rattle.std.proofs.Common.{Ok, Err, is_some, refl, subst, arith}
use Rattle.std.specs.Prelude.{IsSomeAnd, IfSome}
use Rattle.std.specs.List.{filter_map, cons_option}
use Rattle.std.specs.Ordering.{nat_cmp, eq_by_cmp, is_lt}
use Rattle.std.specs.declared.cmp.Ordering.TheVariants.{Less}
use Rattle.std.specs.Cmp.{nat_cmp_is}
use Rattle.std.specs.FinMap.Entries.{is_sorted, below_all}
use Rattle.capability.specs.declared.Uid.{Uid}
use Rattle.eden_model.specs.Map.{uid_cmp, value_at}
use Rattle.eden_disk.specs.Told.{contents}
use Rattle.passive_store.specs.Kept.{Layout}
use Rattle.passive_store.specs.Layout.{IsLayout}
use Rattle.journal.specs.declared.command.Script.{Script}
use Rattle.journal.specs.World.{Node, Eject, node_at}
use Rattle.journal.specs.Opening.{found_in, node_of, node_from, passive, passive_entry}
use Rattle.journal.specs.Standing.{DiskRun}
use Rattle.journal.specs.LegalRun.{IsHandedIn, AreHandedIn, numbered, numbered_from, images, opening_world}
use Rattle.journal.specs.Sites.{MannedEject, Sound, SoundWorld}
use Rattle.history_laws.proofs.Ordered.{order-passive}
use Rattle.history_laws.proofs.HandedIn.{IsOwnMap, own-map}
use Rattle.history_laws.proofs.NoUidTwice.{kept-there, in-order, disk-node}

manned-passive : (u : Uid) (e : Eject) (kept : List (Uid × List ℕ)) → value_at uid_cmp u (filter_map passive_entry kept) ≡ Some e
    → MannedEject e
manned-passive u e [] is = absurd (cc is)
manned-passive u e (x ∷ xs) is = go (x.0.serial == 0) (manned-passive u e xs) is
  where
    found : (b : Bool) → (value_at uid_cmp u (filter_map passive_entry xs) ≡ Some e → MannedEject e)
        → cond b (Some (passive x.1)) (value_at uid_cmp u (filter_map passive_entry xs)) ≡ Some e → MannedEject e
    found true later is = subst (λ o. IfSome o MannedEject) is tt
    found false later is = later is

    go : (skipped : Bool) → (value_at uid_cmp u (filter_map passive_entry xs) ≡ Some e → MannedEject e)
        → value_at uid_cmp u (cons_option (cond skipped None (Some (x.0, passive x.1))) (filter_map passive_entry xs)) ≡ Some e
        → MannedEject e
    go true later is = later is
    go false later is = found (eq_by_cmp uid_cmp u x.0) later is

sound-node : (n size : ℕ) (found : Result (List (Uid × List ℕ)) ℕ) (overfull untold : Bool) (ledger : List ℕ)
    → ((kept : List (Uid × List ℕ)) → found ≡ Ok kept → IsOwnMap n kept × T (is_sorted uid_cmp kept))
    → Sound n (node_from n size found overfull untold ledger)
sound-node n size (Ok kept) overfull untold ledger fits = let x = fits kept refl in record {
  in_order = order-passive kept x.1;
  of_node = λ u there. x.0.of_node u (kept-there u kept there);
  manned = λ u e is. manned-passive u e kept is;
  there = tt;
  unmade = tt;
  call_left = tt;
}
sound-node n size (Err place) overfull untold ledger fits =
    record {
      in_order = tt;
      of_node = λ u there. absurd (cc there);
      manned = λ u e is. absurd (cc is);
      there = tt;
      unmade = tt;
      call_left = tt;
    }

sound-opening : (layout : Layout) (disks : List (ℕ × DiskRun)) → IsLayout layout
    → ((n : ℕ) (d : DiskRun) → value_at nat_cmp n disks ≡ Some d → IsHandedIn layout n d)
    → (n : ℕ) (it : Node) → value_at nat_cmp n (map (λ d. (d.0, node_of layout d)) (images disks)) ≡ Some it → Sound n it
sound-opening layout disks lays fits n it is = go (value_at nat_cmp n disks) refl (disk-node layout n it disks is)
  where
    go : (o : Option DiskRun) → value_at nat_cmp n disks ≡ o → IsSomeAnd o (λ d. node_of layout (n, (contents d.before).now) ≡ it)
        → Sound n it
    go None at x = absurd x
    go (Some d) at x = subst (Sound n) x (sound-node n _ (found_in layout n (contents d.before).now) _ _ _
        (λ kept found. (own-map layout n d lays (fits n d at) kept found, in-order layout n (contents d.before).now kept found)))

-- nodes are numbered upward
abbrev nodes_from : Layout → ℕ → List DiskRun → List (ℕ × Node)
nodes_from layout n disks = map (λ d. (d.0, node_of layout d)) (images (numbered_from n disks))

both : (a b : Bool) → T a → T b → T (a && b)
both true b x y = y
both false b x y = absurd x

below-from : (layout : Layout) (k n : ℕ) (disks : List DiskRun) → k < n → T (below_all nat_cmp k (nodes_from layout n disks))
below-from layout k n [] lt = tt
below-from layout k n (d ∷ disks) lt = both (is_lt (nat_cmp k n)) (below_all nat_cmp k (nodes_from layout (n + 1) disks))
    (subst (λ o. T (is_lt o)) (nat_cmp_is k n Less lt) tt) (below-from layout k (n + 1) disks (omega (arith, lt)))

ordered-from : (layout : Layout) (n : ℕ) (disks : List DiskRun) → T (is_sorted nat_cmp (nodes_from layout n disks))
ordered-from layout n [] = tt
ordered-from layout n (d ∷ disks) = both (below_all nat_cmp n (nodes_from layout (n + 1) disks))
    (is_sorted nat_cmp (nodes_from layout (n + 1) disks)) (below-from layout n (n + 1) disks (omega arith))
    (ordered-from layout (n + 1) disks)

pub sound-opening-world : (layout : Layout) (script : Script) (disks : List DiskRun) → IsLayout layout → AreHandedIn layout disks
    → SoundWorld (λ n. is_some (node_at (opening_world layout script disks) n)) (opening_world layout script disks)
sound-opening-world layout script disks lays fits = record {
  place = record { ordered = ordered-from layout 1 disks; present = λ n. refl };
  nodes = sound-opening layout (numbered disks) lays fits;
  asked = record { at = λ k c is. absurd (cc is) };
}
