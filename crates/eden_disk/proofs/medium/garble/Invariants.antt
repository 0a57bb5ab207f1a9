use Rattle.std.proofs.Common.{◌≡◌, length, map, reverse, take}
use Rattle.eden_disk.specs.Images.{garbled}
use Rattle.eden_disk.specs.Spans.{range_of}
use Rattle.eden_disk.proofs.medium.garble.Given as goal

abbrev pub invariant-loop-span : goal.invariant-loop-span
invariant-loop-span l = record {
  after : l.into.bytes ≡ garbled l.byte (map range_of (reverse (take l.span-index l.spans.items))) l.initial.into.bytes;
  len : length l.into.bytes ≡ length l.initial.into.bytes;
  reach : l.into.reach ≡ l.initial.into.reach;
}
