use Rattle.std.proofs.Common.{◌-◌, ◌/◌, ap, ◌∙◌, length, arith}
use Rattle.eden_disk.proofs.SimDiskLaws.{length-zeros}
use Rattle.eden_disk.proofs.Parts.{zeros_parted}
use Rattle.eden_disk.proofs.image.Image.blank.Goals as goal

pub invariant_of-result : goal.invariant_of-result
invariant_of-result c = record {
  first_long = ap length c.blank.ensures.bytes ∙ length-zeros (c.args.size / 32);
  rest_long = ap length c.blank-2.ensures.bytes ∙ length-zeros (c.args.size - c.args.size / 32);
  first_within = omega (arith, c.blank.ensures.reach);
  rest_within = omega (arith, c.blank-2.ensures.reach);
}

pub returns : goal.returns
returns c = zeros_parted (c.args.size / 32) c.args.size c.blank.result.bytes c.blank-2.result.bytes (omega arith) c.blank.ensures.bytes
    c.blank-2.ensures.bytes
