-- The sizes that the disks of a run may have.
use Rattle.std.proofs.Common.{◌≡◌, ◌⊎◌, inl, inr, refl, ℕ, List, [], ◌∷◌}
use Rattle.std.proofs.Common.{true, sym, ap, ◌∙◌}
use Rattle.std.specs.List.{All, Contains}
use Rattle.std.proofs.lemmas.List.Elements.{All-nil, All-cons, All-head, All-tail, All-contains, All-weaker}
use Rattle.eden_disk.specs.SimDisk.{Simulated}
use Rattle.block_tables.specs.Blocks.{is_block_size}
use Rattle.journal.specs.Standing.{DiskRun}
use Rattle.eden_world.specs.Legal.{disk_run, disk_runs}
use Rattle.eden_shell.specs.Blank.{AreOfBlocks, sim_seen}

-- what stands in a list of two numbers is the one or the other
one_of_two : (a b n : ℕ) → Contains (a ∷ b ∷ []) n → (n ≡ a) ⊎ (n ≡ b)
one_of_two a b n there =
    let either : ℕ → Type 0 = λ k. (k ≡ a) ⊎ (k ≡ b) in
    let both = All-cons either a (b ∷ []) (inl refl) (All-cons either b [] (inr refl) (All-nil either)) in
    All-contains either (a ∷ b ∷ []) n both there

-- each size is one of two
pub either_size : {X : Type 0} (size : X → ℕ) (a b : ℕ) (xs : List X)
    → All (λ x. Contains (a ∷ b ∷ []) (size x)) xs → All (λ x. (size x ≡ a) ⊎ (size x ≡ b)) xs
either_size size a b =
    All-weaker (λ x. Contains (a ∷ b ∷ []) (size x)) (λ x. (size x ≡ a) ⊎ (size x ≡ b)) (λ x. one_of_two a b (size x))

-- blocks may stand on disks of 4,194,304 bytes
pub of-blocks : (before after : List Simulated) → All (λ d. d.counts.size ≡ 4194304) before
    → AreOfBlocks (disk_runs true sim_seen before after)
of-blocks [] after sizes = All-nil (λ (r : DiskRun). is_block_size r.first.size ≡ true)
of-blocks (x ∷ before) [] sizes = All-nil (λ (r : DiskRun). is_block_size r.first.size ≡ true)
of-blocks (x ∷ before) (y ∷ after) sizes = All-cons (λ (r : DiskRun). is_block_size r.first.size ≡ true)
    (disk_run true (sim_seen x) (sim_seen y)) (disk_runs true sim_seen before after)
    (ap is_block_size (All-head (λ d. d.counts.size ≡ 4194304) x before sizes))
    (of-blocks before after (All-tail (λ d. d.counts.size ≡ 4194304) x before sizes))
