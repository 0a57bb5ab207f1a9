use Rattle.std.proofs.Common.{◌≡◌, ℕ, inl}
use Rattle.std.proofs.lemmas.List.Elements.{All-weaker}
use Rattle.eden_disk.specs.SimDisk.{blank_of}
use Rattle.eden.proofs.Sizes.{of-blocks}
use Rattle.eden.proofs.run_blank.Goals as goal

pub returns : goal.returns
returns c = inl (record {
  before = c.in-Ok.disks.items;
  after = c.eden_over_blank-report.new.disks.items;
  eight = c.in-Ok.ensures.eight;
  blank = All-weaker (λ d. d ≡ blank_of 4194304) (λ d. (size : ℕ) × (d ≡ blank_of size)) (λ d same. (4194304, same)) c.in-Ok.disks.items
      c.in-Ok.ensures.blank;
  sized = of-blocks c.in-Ok.disks.items c.eden_over_blank-report.new.disks.items c.in-Ok.ensures.sizes;
  source = _;
  sink = _;
  outcome = c.eden_over_blank-report.result.outcome;
  history = c.eden_over_blank-report.result.history;
  more = c.eden_over_blank-report.result.further;
  answers = c.eden_over_blank-report.ensures.answers;
  legally = c.eden_over_blank-report.ensures.legally;
  is_status = c.finish.ensures;
})
