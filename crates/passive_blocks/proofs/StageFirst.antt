-- The head that is closed next.
use Rattle.std.specs.Prelude.{◌≡◌, ℕ, suc, zero, ◌+◌, ◌≤◌, ◌<◌, Bool, true, false, nat_lt, List, [], ◌∷◌, ◌++◌, length, map, filter}
use Rattle.std.specs.Prelude.{Some, if◌then◌else◌}
use Rattle.std.proofs.Common.{refl, sym, ap, ◌∙◌, inl, inr, arith}
use Rattle.std.proofs.lemmas.Bool.{false≢true, cases_eq, cases_lt}
use Rattle.std.proofs.lemmas.List.{get_or_past}
use Rattle.eden_disk.specs.Calls.{Counts}
use Rattle.passive_store.specs.Acts.{DiskCall, Write}
use Rattle.block_tables.specs.declared.table.Table.{Table}
use Rattle.passive_blocks.specs.declared.block_store.Pending.{Pending}
use Rattle.passive_blocks.specs.declared.block_store.Stage.{Stage}
use Rattle.passive_blocks.specs.declared.block_store.Stage.TheVariants.{Close, Write as WritePart, Head as WriteHead, SyncHead, Open}
use Rattle.passive_blocks.specs.declared.block_store.Stage.TheVariants.{SyncOpen}
use Rattle.passive_blocks.specs.declared.block_store.Stage.TheVariants.{Ended}
use Rattle.passive_blocks.specs.HeldState.{IsHeld}
use Rattle.passive_blocks.specs.StoreState.{calls_behind, calls_at}
use Rattle.block_tables.proofs.Taking.{least_first, beside}
use Rattle.passive_blocks.proofs.StageOrder.{part_first}
use Rattle.block_tables.specs.Members.{is_member, IsFirstOf}
use Rattle.block_tables.specs.Blocks.{numbers, head_place}
use Rattle.block_tables.specs.Changes.{first_or_zero}
use Rattle.passive_blocks.specs.StageState.{first_closed, IsStaged, is_going, stage_call, behind_part}

-- the first of some numbers that passes a test
pub record FirstPassing (p : ℕ → Bool) (from n x : ℕ) : Type 0 where
  pub passes : p x ≡ true
  pub above : from ≤ x
  pub below : x < from + n
  pub least : (j : ℕ) → from ≤ j → j < x → p j ≡ false

pub first_passing : (p : ℕ → Bool) (from n k : ℕ) → p k ≡ true → from ≤ k → k < from + n
    → FirstPassing p from n (first_or_zero (filter p (numbers from n)))
unfolding numbers
first_passing p from zero k is above below = absurd (let bad : ⊥ = omega (arith, above, below) in bad)
first_passing p from (suc n) k is above below = go (p from) refl (λ other. first_passing p (from + 1) n k is (omega (arith, above, other))
    (omega (arith, below)))
  where
    go : (b : Bool) → p from ≡ b
        → ((from ≡ k → ⊥) → FirstPassing p (from + 1) n (first_or_zero (filter p (numbers (from + 1) n))))
        → FirstPassing p from (suc n) (first_or_zero (if b then from ∷ filter p (numbers (from + 1) n) else filter p
        (numbers (from + 1) n)))
    go true here rest = record {
      passes = here;
      above = omega arith;
      below = omega arith;
      least = λ j low high. absurd (let bad : ⊥ = omega (arith, low, high) in bad);
    }
    go false none rest =
        let r = rest (λ same. false≢true (sym none ∙ ap p same ∙ is)) in
        record {
          passes = r.passes;
          above = omega (arith, r.above);
          below = omega (arith, r.below);
          least = λ j low high. elim (cases_eq j from) [
            | inl same ↦ ap p same ∙ none
            | inr other ↦ r.least j (omega (arith, low, other)) high
          ];
        }

member_within : (ranks : List ℕ) (k : ℕ) → is_member ranks k ≡ true → k < length ranks
member_within ranks k is = elim (cases_lt k (length ranks)) [
  | inl within ↦ within
  | inr past ↦ absurd (false≢true (sym (ap (nat_lt 0) (get_or_past ranks k 0 past)) ∙ is))
]

pub first_closed_is : (t : Table) (k : ℕ) → is_member t.heads.closing k ≡ true → IsFirstOf t.heads.closing (Some (first_closed t))
first_closed_is t k is =
    let f = first_passing (is_member t.heads.closing) 0 (length t.heads.closing) k is (omega arith)
    (omega (arith, member_within t.heads.closing k is)) in
    (omega (arith, f.below), f.passes, λ j less. f.least j (omega arith) less)

-- there is but one
pub one_first : (ranks : List ℕ) (a b : ℕ) → IsFirstOf ranks (Some a) → IsFirstOf ranks (Some b) → a ≡ b
one_first ranks a b fa fb = elim (cases_lt a b) [
  | inl less ↦ absurd (false≢true (sym (fb.2 a less) ∙ fa.1))
  | inr more ↦ elim (cases_lt b a) [
    | inl less ↦ absurd (false≢true (sym (fa.2 b less) ∙ fb.1))
    | inr same ↦ omega (arith, more, same)
  ]
]

pub first_is : (t : Table) (n : ℕ) → IsFirstOf t.heads.closing (Some n) → n ≡ first_closed t
first_is t n first = one_first t.heads.closing n (first_closed t) first (first_closed_is t n first.1)

-- The calls that a job has left begin with that of its stage.
pub stage_split : (size : ℕ) (counts : Counts) (t : Table) (p : Pending) (stage : Stage) → IsHeld size counts t (Some p) → IsStaged t p
    stage
    → is_going stage ≡ true → (rest : List DiskCall) × (calls_at t p stage ≡ stage_call t p stage ∷ rest)
stage_split size counts t p Close held staged going =
    let first = first_closed_is t staged.0 staged.1 in (
      map (λ number. Write (head_place number) (0 ∷ [])) (filter (beside (is_member t.heads.closing) (first_closed t))
          (numbers 0 (length t.heads.closing)))
          ++ calls_behind t.blocks p,
      ap (λ ns. map (λ number. Write (head_place number) (0 ∷ [])) ns ++ calls_behind t.blocks p)
          (least_first (is_member t.heads.closing) (first_closed t) 0 (length t.heads.closing) (omega arith) (omega (arith, first.0))
          first.1 first.2),
    )
stage_split size counts t p (WritePart block from) held staged going =
    (calls_at t p (behind_part t.blocks.next.items p.body.items block from), part_first t p block from held.planned staged)
stage_split size counts t p WriteHead held staged going = (calls_at t p SyncHead, refl)
stage_split size counts t p SyncHead held staged going = (calls_at t p Open, refl)
stage_split size counts t p Open held staged going = (calls_at t p SyncOpen, refl)
stage_split size counts t p SyncOpen held staged going = ([], refl)
stage_split size counts t p (Ended gate synced) held staged going = absurd (false≢true going)
