use Rattle.std.proofs.Common.{rules}
use Rattle.std.proofs.Common.{◌≡◌, ◌+◌, ℕ, List, [], ◌∷◌, ◌++◌, length, ap, arith}
use Rattle.std.specs.List.{All, Contains}
use Rattle.std.proofs.lemmas.List.{length_push}
use Rattle.std.proofs.lemmas.List.Elements.{All-push, All-same}
use Rattle.file_disk.specs.Counted.{counts_of, first_counts}
use Rattle.file_disk.specs.Numbers.{IsApart, number_of}
use Rattle.file_disk.proofs.folder.open_all.Goals as goal

-- one more, of which all three hold
one_more : {X : Type 0} (P Q R : X → Type 0) (xs ys : List X) (x : X) (n : ℕ) → ys ≡ xs ++ x ∷ []
    → (length xs ≡ n) × All P xs × All Q xs × All R xs → P x → Q x → R x
    → (length ys ≡ n + 1) × All P ys × All Q ys × All R ys
one_more P Q R xs ys x n pushed before p q r = (
  omega (arith, ap length pushed, length_push xs x, before.0),
  All-same P ys (xs ++ x ∷ []) pushed (All-push P xs x before.1 p),
  All-same Q ys (xs ++ x ∷ []) pushed (All-push Q xs x before.2 q),
  All-same R ys (xs ++ x ∷ []) pushed (All-push R xs x before.3 r),
)

pub loop-disk-preserved : goal.loop-disk-preserved
loop-disk-preserved c =
    one_more (λ d. Contains c.args.sizes.now (counts_of d).size) (λ d. counts_of d ≡ first_counts (counts_of d).size)
    (λ d. IsApart (number_of d)) c.loop-disk.disks.items c.push.new.self.items c.in_ok-open_one.field-0 c.loop-disk.disk
    c.in_ok-push.ensures.items c.loop-disk.invariant c.in_ok-open_one.ensures.size c.in_ok-open_one.ensures.fresh
    c.in_ok-open_one.ensures.apart

pub returns-clause-eight : goal.returns-clause-eight
returns-clause-eight c = search rules
