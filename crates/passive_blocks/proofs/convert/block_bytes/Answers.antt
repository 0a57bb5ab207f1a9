use Rattle.std.proofs.Common.{◌*◌, ◌∙◌, drop, sym, ap}
use Rattle.passive_blocks.specs.Conversion.{head_or_blank}
use Rattle.passive_blocks.specs.Converting.{heads_planned}
use Rattle.passive_blocks.proofs.SameParts.{drop_more}
use Rattle.passive_blocks.proofs.StagedBytes.{spelled_none, written_more, block_whole}
use Rattle.passive_blocks.proofs.convert.block_bytes.Goals as goal

pub loop-k-init : goal.loop-k-init
loop-k-init c = spelled_none (drop (32 * c.args.block) (heads_planned c.args.moved.now.items))

pub loop-k-preserved : goal.loop-k-preserved
loop-k-preserved c =
    written_more c.loop-k.k (drop (32 * c.args.block) (heads_planned c.args.moved.now.items)) c.loop-k.bytes c.copy_from_slice.new.self
    c.loop-k-test.true c.loop-k.invariant
    (c.copy_from_slice.ensures.after ∙ c.head_bytes.ensures
    ∙ ap (λ hs. head_or_blank hs) (sym (drop_more (32 * c.args.block) c.loop-k.k (heads_planned c.args.moved.now.items))))

pub returns : goal.returns
returns c =
    block_whole c.args.block c.loop-k.k (heads_planned c.args.moved.now.items) c.loop-k.bytes c.requires.block c.loop-k-test.false
    c.loop-k.auto.k-end c.loop-k.invariant
