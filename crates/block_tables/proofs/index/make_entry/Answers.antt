use Rattle.std.proofs.Common.{◌≡◌, ℕ, Bool, true, false, cond, Option, None, Some, refl, sym, ap, subst, ◌∙◌}
use Rattle.std.specs.Prelude.{IsSome, is_some}
use Rattle.std.specs.Ordering.{nat_cmp, ordering_then, is_eq}
use Rattle.std.specs.declared.cmp.Ordering.{Ordering}
use Rattle.std.specs.declared.cmp.Ordering.TheVariants.{Less, Equal, Greater}
use Rattle.std.specs.BTreeMap as tree
use Rattle.std.specs.BTreeMap.{BTreeMap, is_at}
use Rattle.std.proofs.lemmas.Bool.{false≢true}
use Rattle.std.proofs.lemmas.Map.Lookups.{CmpEqualImpliesEq, exact_pairs, exact_unsigned}
use Rattle.capability.specs.declared.Uid.{Uid}
use Rattle.capability.specs.Uids.{uid_cmp}
use Rattle.block_tables.specs.declared.index.IndexEntry.{IndexEntry}
use Rattle.block_tables.specs.HeadState.{entry_at, entry_or_none, no_entry}
use Rattle.block_tables.proofs.index.make_entry.Goals as goal

-- uids that compare alike are one
exact_uid : CmpEqualImpliesEq uid_cmp
exact_uid a b h = ap (λ (p : ℕ × (ℕ × ℕ)). record { node = p.0; epoch = p.1.0; serial = p.1.1 })
    (exact_pairs nat_cmp (λ (x y : ℕ × ℕ). ordering_then (nat_cmp x.0 y.0) (nat_cmp x.1 y.1)) exact_unsigned
    (exact_pairs nat_cmp nat_cmp exact_unsigned exact_unsigned) (a.node, (a.epoch, a.serial)) (b.node, (b.epoch, b.serial)) h)

alike : (o : Ordering) → is_eq o ≡ true → o ≡ Equal
alike Less h = absurd (false≢true h)
alike Equal h = refl
alike Greater h = absurd (false≢true h)

no_value : {A : Type 0} (o : Option A) → is_some o ≡ false → o ≡ None
no_value None h = refl
no_value (Some x) h = absurd (false≢true (sym h))

-- an empty entry for a uid that had none changes none
empty_entry : (old : BTreeMap Uid IndexEntry) (uid q : Uid) (b : Bool) → is_at (uid_cmp uid) q ≡ b → tree.get uid_cmp old uid ≡ None →
    entry_or_none (cond b (Some no_entry) (tree.get uid_cmp old q)) ≡ entry_at old q
empty_entry old uid q true e absent = sym (ap (entry_at old) (sym (exact_uid uid q (alike (uid_cmp uid q) e))) ∙ ap
    entry_or_none absent)
empty_entry old uid q false e absent = refl

entry_stays : (b : Bool) (old : Option IndexEntry) → IsSome old → IsSome (cond b (Some no_entry) old)
entry_stays true old h = refl
entry_stays false old h = h

pub returns-in_ok-insert-clause-entries : goal.returns-in_ok-insert-clause-entries
returns-in_ok-insert-clause-entries c = λ q. ap entry_or_none (c.in_ok-insert.ensures.updates.0 q)
    ∙ empty_entry c.args.index.now c.args.uid q _ refl (no_value _ (sym c.contains_key.ensures ∙ c.if-not-contains_key.true))

pub returns-in_ok-insert-clause-keys : goal.returns-in_ok-insert-clause-keys
returns-in_ok-insert-clause-keys c = λ q h. subst IsSome (sym (c.in_ok-insert.ensures.updates.0 q)) (entry_stays _ _ h)
