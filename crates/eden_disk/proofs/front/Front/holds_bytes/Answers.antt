use Rattle.std.proofs.Common.{◌<◌, ◌-◌, ℕ, List, length, ap, subst, arith}
use Rattle.std.specs.List.{All}
use Rattle.std.proofs.lemmas.List.Elements.{All-append, All-replicate}
use Rattle.eden_disk.specs.Fronts.{Fronted}
use Rattle.eden_disk.specs.SimDisk.{zeros}
use Rattle.eden_disk.proofs.front.Front.holds_bytes.Goals as goal

zeros-are-bytes : (n : ℕ) → All (λ byte. byte < 256) (zeros n)
unfolding zeros
zeros-are-bytes n = All-replicate (λ byte. byte < 256) n 0 (omega arith)

pub returns : goal.returns
returns c =
    let held : List ℕ = c.self.inside.bytes.items in
    let behind : ℕ = c.self.inside.size - length held in
    let bytes : All (λ byte. byte < 256) held = subst (λ (l : List ℕ). All (λ byte. byte < 256) l) c.deref.ensures.value c.are_bytes.ensures in
    subst (λ (i : Fronted). All (λ byte. byte < 256) i.bytes) c.self.view_is
    (All-append (λ byte. byte < 256) held (zeros behind) bytes (zeros-are-bytes behind))
