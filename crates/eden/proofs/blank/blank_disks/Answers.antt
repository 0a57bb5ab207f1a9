use Rattle.std.proofs.Common.{◌≡◌, ◌+◌, ◌∷◌, ◌++◌, [], List, length, length-append, ap, ◌∙◌}
use Rattle.std.proofs.lemmas.List.Elements.{All-push, All-same}
use Rattle.eden_disk.specs.SimDisk.{Simulated, blank_of}
use Rattle.eden.proofs.blank.blank_disks.Goals as goal

pub loop-preserved : goal.loop-preserved
loop-preserved c =
    let disks : List Simulated = c.loop.disks.items in
    let disk : Simulated = c.in_ok-new.field-0 in
    let all : List Simulated = c.push.new.self.items in
    let is : all ≡ disks ++ disk ∷ [] = c.in_ok-push.ensures.items in (
      ap length is ∙ length-append disks (disk ∷ []) ∙ ap (λ n. n + 1) c.loop.invariant.0,
      All-same (λ (d : Simulated). d.counts.size ≡ 4194304) all (disks ++ disk ∷ []) is
          (All-push (λ (d : Simulated). d.counts.size ≡ 4194304) disks disk c.loop.invariant.1
          (ap (λ (d : Simulated). d.counts.size) c.in_ok-new.ensures)),
      All-same (λ (d : Simulated). d ≡ blank_of 4194304) all (disks ++ disk ∷ []) is
          (All-push (λ (d : Simulated). d ≡ blank_of 4194304) disks disk c.loop.invariant.2 c.in_ok-new.ensures),
    )
