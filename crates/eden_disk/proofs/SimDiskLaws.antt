-- Laws of the definitions of specs/SimDisk.
use Rattle.std.specs.Prelude.{◌≡◌, ℕ, List, length, replicate}
use Rattle.std.proofs.Common.{refl, ap, ◌∙◌}
use Rattle.std.proofs.lemmas.List.{length-replicate}
use Rattle.eden_disk.specs.SimDisk.{begun_with, blank_of, zeros}

pub zeros_are : (size : ℕ) → zeros size ≡ replicate size 0
unfolding zeros
zeros_are size = refl

pub length-zeros : (size : ℕ) → length (zeros size) ≡ size
length-zeros size = ap length (zeros_are size) ∙ length-replicate size 0

pub begun_blank : (image : List ℕ) (size : ℕ) → image ≡ zeros size → begun_with image ≡ blank_of size
begun_blank image size is =
    ap begun_with is ∙ ap (λ n. record (blank_of size) { counts = record (blank_of size).counts { size = n } }) (length-zeros size)
