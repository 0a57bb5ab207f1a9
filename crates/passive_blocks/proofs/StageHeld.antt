-- What memory has of the chains, in the words of lists.
use Rattle.std.specs.Prelude.{◌≡◌, ℕ, ◌≤◌, Option, None, Some, IfSome}
use Rattle.std.proofs.Common.{refl, ap, subst, ◌∙◌, inl, inr, arith}
use Rattle.std.specs.Ordering.{eq_by_cmp}
use Rattle.capability.specs.Uids.{uid_cmp}
use Rattle.eden_disk.specs.Calls.{Counts}
use Rattle.block_tables.specs.declared.heads.HeadFields.{HeadFields}
use Rattle.block_tables.specs.declared.table.Table.{Table}
use Rattle.passive_blocks.specs.declared.block_store.Pending.{Pending}
use Rattle.block_tables.specs.Blocks.{Head, keeping, is_data, blocks_of}
use Rattle.block_tables.specs.HeadSeen.{head_of}
use Rattle.block_tables.specs.HeadState.{heads_in, entry_at}
use Rattle.block_tables.specs.TableState.{keeper}
use Rattle.passive_blocks.specs.HeldState.{IsHeld, one_if, times_kept, behind_walk}
use Rattle.passive_blocks.proofs.Among.{In, in_filter}
use Rattle.passive_blocks.proofs.HeldSums.{heads_under, same_itself}
use Rattle.passive_blocks.proofs.HeldKeepers.{keeper_listed}
use Rattle.passive_blocks.proofs.StageChains.{AreEnded}

under_it : (o : Option HeadFields) (h : Head) → In h (heads_under o) → (x : HeadFields) × (o ≡ Some x) × (h ≡ head_of x)
under_it None h there = absurd there
under_it (Some x) h (inl same) = (x, refl, same)
under_it (Some x) h (inr none) = absurd none

-- a head that keeps a value is the one that memory has for its uid
pub its_keeper : (size : ℕ) (counts : Counts) (t : Table) (pending : Option Pending) (h : Head) → IsHeld size counts t pending
    → In h (keeping (heads_in t.heads.slots.items)) → (x : HeadFields) × (keeper t h.uid ≡ Some x) × (h ≡ head_of x)
its_keeper size counts t pending h held there =
    under_it (keeper t h.uid) h
    (subst (In h) (keeper_listed t.heads.slots.items h.uid (entry_at t.heads.index h.uid).latest held.apart
    (held.table.heads.entries h.uid).0)
    (in_filter (λ (g : Head). eq_by_cmp uid_cmp h.uid g.uid) (keeping (heads_in t.heads.slots.items)) h there (same_itself h.uid)))

pub ends_held : (size : ℕ) (counts : Counts) (t : Table) (pending : Option Pending) → IsHeld size counts t pending
    → AreEnded t.blocks.next.items (keeping (heads_in t.heads.slots.items))
ends_held size counts t pending held h there =
    let k = its_keeper size counts t pending h held there in
    let x : HeadFields = k.0 in
    let end : behind_walk t.blocks.next.items x.first (blocks_of x.size) ≡ 0 =
    subst (λ o. IfSome o (λ (h : HeadFields). behind_walk t.blocks.next.items h.first (blocks_of h.size) ≡ 0)) k.1 (held.ends h.uid) in
    ap (λ (g : Head). behind_walk t.blocks.next.items g.first (blocks_of g.size)) k.2 ∙ end

pub once_held : (size : ℕ) (counts : Counts) (t : Table) (pending : Option Pending) → IsHeld size counts t pending
    → (k : ℕ) → times_kept t.blocks.next.items (heads_in t.heads.slots.items) k ≤ one_if (is_data size k)
once_held size counts t pending held k = omega (arith, held.places k)
