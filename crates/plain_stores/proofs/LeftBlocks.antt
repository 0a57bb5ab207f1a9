-- What is left of the blocks of a disk.
use Rattle.std.proofs.Common.{◌==◌, ◌||◌, ◌≤◌, Bool, true, false, ◌≡◌, ◌+◌, ◌-◌, ◌*◌, ◌<◌, ℕ, List, ◌∷◌, ◌++◌, Option, None, Some, refl}
use Rattle.std.proofs.Common.{sym, ◌∙◌, ap, arith, drop, get_or}
use Rattle.std.proofs.Common.{length, nat_le, sum_by, if◌then◌else◌}
use Rattle.std.proofs.lemmas.Bool.Decides.{nat_tests}
use Rattle.std.proofs.lemmas.List.{drop_more}
use Rattle.std.specs.List.{filter_map}
use Rattle.capability.specs.declared.Uid.{Uid}
use Rattle.eden_model.specs.Map.{with_item}
use Rattle.eden_model.specs.Traffic.{Traffic}
use Rattle.epl_syntax.specs.Rules.OfTypes.{TypeList}
use Rattle.passive_store.specs.LogLayout.{within_room}
use Rattle.passive_blocks.specs.BlockLayout.{block_has_room}
use Rattle.checkpoint.specs.declared.worker.Wish.{Wish}
use Rattle.checkpoint.specs.declared.worker.Wish.TheVariants.{Put}
use Rattle.journal.specs.EjectChange.{kept_of}
use Rattle.plain_ejects.specs.View.{change_of}
use Rattle.block_tables.specs.Blocks.{blocks_for, data_count}
use Rattle.journal.specs.Settling.{epoch_bytes, epoch_entries, epoch_uid, kept_entry, kept_map, room}
use Rattle.plain_stores.specs.declared.entries.PlainEntry.{PlainEntry}
use Rattle.plain_stores.specs.declared.PlainNode.{PlainNode}
use Rattle.plain_stores.specs.View.{KeptInOrder, ejects_of, entry_of, node_of, site_of, size_kept}
use Rattle.plain_stores.proofs.Keyed.{entries-same}
use Rattle.plain_stores.proofs.Sums.{left-step}

-- the blocks that the bodies of these Ejects take
abbrev pub taken : TypeList → List PlainEntry → ℕ
taken ts es = sum_by size_kept (filter_map kept_entry (ejects_of ts es))

used-by : (u : Uid) (o : Option (List ℕ)) → blocks_for o ≡ with_item (with_item o (λ bytes. Some (u, bytes)) None) size_kept 0
used-by u None = refl
used-by u (Some bytes) = refl

-- one more Eject takes its part
pub left-more : (ts : TypeList) (k : ℕ) (es : List PlainEntry) (e : PlainEntry) (left used new all : ℕ) → k < length es → e ≡ get_or es k e
    → used ≡ blocks_for e.eject.kept → new ≡ left - used → left - taken ts (drop k es) ≡ all → new - taken ts (drop (k + 1) es) ≡ all
left-more ts k es e left used new all less read takes leaves sofar =
    let dropped : drop k es ≡ e ∷ drop (k + 1) es = drop_more es k e less ∙ ap (λ x. x ∷ drop (k + 1) es) (sym read) in
    ap (λ n. n - taken ts (drop (k + 1) es)) leaves
    ∙ (left-step size_kept (kept_entry (entry_of ts e)) left used (filter_map kept_entry (ejects_of ts (drop (k + 1) es)))
    (takes ∙ used-by e.uid e.eject.kept)
    ∙ (ap (λ l. left - taken ts l) (sym dropped) ∙ sofar))

-- a stored epoch takes one block
pub left-epoch : (n all : ℕ) (epoch : Option ℕ) (es : List (Uid × List ℕ))
    → (all - with_item epoch (λ e. 1) 0) - sum_by size_kept es ≡ all - sum_by size_kept (epoch_entries n epoch ++ es)
left-epoch n all None es = ap (λ k. k - sum_by size_kept es) (let same : all - 0 ≡ all = omega arith in same)
left-epoch n all (Some e) es = left-step size_kept (Some (epoch_uid n, epoch_bytes e)) all 1 es refl

room-as : (ts : TypeList) (t : Traffic) (n : PlainNode) (left : ℕ) → KeptInOrder (site_of ts t n)
    → left ≡ data_count n.size - sum_by size_kept (kept_map n.number (node_of ts n))
    → (if nat_le 2 left then Some (1022 * (left - 1)) else None) ≡ room (site_of ts t n)
room-as ts t n left order is = ap (λ k. if nat_le 2 k then Some (1022 * (k - 1)) else None)
    (is ∙ ap (λ l. data_count n.size - sum_by size_kept l) (sym (entries-same (kept_map n.number (node_of ts n)) order)))

enough : (n : ℕ) → 2 ≤ n → nat_le 2 n ≡ true
enough n h = go (nat_le 2 n) refl
  where
    go : (b : Bool) → nat_le 2 n ≡ b → nat_le 2 n ≡ true
    go true is = is
    go false is = absurd (let few : n < 2 = grind (arith, nat_tests, is) in omega (arith, few, h))

wanting : (n : ℕ) → n < 2 → nat_le 2 n ≡ false
wanting n h = go (nat_le 2 n) refl
  where
    go : (b : Bool) → nat_le 2 n ≡ b → nat_le 2 n ≡ false
    go true is = absurd (let many : 2 ≤ n = grind (arith, nat_tests, is) in omega (arith, many, h))
    go false is = is

-- the longest body that finds room, by the blocks that are left
pub room-some : (ts : TypeList) (t : Traffic) (n : PlainNode) (left : ℕ) → KeptInOrder (site_of ts t n)
    → left ≡ data_count n.size - sum_by size_kept (kept_map n.number (node_of ts n)) → 2 ≤ left
    → Some (1022 * (left - 1)) ≡ room (site_of ts t n)
room-some ts t n left order is some = ap (λ b. if b then Some (1022 * (left - 1)) else None) (sym (enough left some))
    ∙ room-as ts t n left order is

-- none, where fewer than two are left
pub room-none : (ts : TypeList) (t : Traffic) (n : PlainNode) (left : ℕ) → KeptInOrder (site_of ts t n)
    → left ≡ data_count n.size - sum_by size_kept (kept_map n.number (node_of ts n)) → left < 2 → None ≡ room (site_of ts t n)
room-none ts t n left order is few = ap (λ b. if b then Some (1022 * (left - 1)) else None) (sym (wanting left few))
    ∙ room-as ts t n left order is

epoch-there : (n : ℕ) → (n ≡ 0 → ⊥) → (n == 0) ≡ false
epoch-there n h = go (n == 0) refl
  where
    go : (b : Bool) → (n == 0) ≡ b → (n == 0) ≡ false
    go true is = absurd (h (grind (arith, nat_tests, is)))
    go false is = is

-- whether a put finds room, that is under no reserved uid
pub finds-as : (longest : Option ℕ) (u : Uid) (w : Wish) (bytes : List ℕ) (k : ℕ) (found : Option ℕ) (got : Bool) → w ≡ Put bytes
    → (u.epoch ≡ 0 → ⊥) → found ≡ longest → k ≡ length bytes → got ≡ within_room found k
    → got ≡ block_has_room longest u (kept_of (change_of w))
finds-as longest u w bytes k found got put other finds long within = within
    ∙ (ap (λ o. within_room o k) finds
    ∙ (ap (λ n. within_room longest n) long
    ∙ (ap (λ b. b || within_room longest (length bytes)) (sym (epoch-there u.epoch other))
    ∙ ap (λ x. block_has_room longest u (kept_of (change_of x))) (sym put))))
