use Rattle.std.proofs.Common.{rules, ◌≡◌, ◌+◌, ◌≤◌, ℕ, List, length, inr, arith}
use Rattle.eden_disk.specs.Told.{contents, noted, Wrote}
use Rattle.eden_disk.specs.Images.{half_written}
use Rattle.eden_disk.proofs.Overlay.{length-half_written}
use Rattle.eden_disk.proofs.sim_disk.SimDiskDisk.write.Goals as goal

pub returns-else-is_err-2-clause-told : goal.returns-else-is_err-2-clause-told
returns-else-is_err-2-clause-told c =
    let half : List ℕ = half_written c.args.at c.args.bytes.now (contents c.args.self.now.told).now in
    let size : length (contents c.args.self.now.told).now ≡ c.args.self.now.counts.size = rw (← c.self.view_is) c.self.invariant in
    let room : c.args.at + length c.args.bytes.now ≤ length (contents c.args.self.now.told).now = omega (arith, c.requires.range, size) in
    let told : c.fail-in-Err-Failed.new.self.told ≡ noted
    (Wrote c.fail-in-Err-Failed.new.self.counts.clock c.args.at half) c.args.self.now.told = search rules in
    rw c.fail-in-Err-Failed.ensures.refusal (inr
    (half, length-half_written c.args.at c.args.bytes.now (contents c.args.self.now.told).now room, told))
