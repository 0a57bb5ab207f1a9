use Rattle.std.proofs.Common.{◌≡◌, ◌+◌, ◌<◌, ◌≤◌, ℕ, List, length, slice_range, Err, ap, ◌∙◌, arith}
use Rattle.std.proofs.lemmas.Result.{err_from_is_err_and}
use Rattle.eden_disk.specs.Calls.{Fine, end_of}
use Rattle.passive_store.specs.Seen.{DiskSeen, disk_seen}
use Rattle.block_tables.specs.Blocks.{blocks_of}
use Rattle.passive_blocks.proofs.Copying.{chaining_begun, block_makes, next_of, chained_more, chain_refused, chained_whole}
use Rattle.passive_blocks.proofs.convert.write_chain.Goals as goal

pub loop-block-init : goal.loop-block-init
loop-block-init g c = chaining_begun g.D.Disk.tells g.D.Disk.obeys c.args.first c.args.body.now
    (disk_seen g.D.Disk.counts g.D.Disk.told g.D.Disk.due c.args.disk.now) c.requires.power

pub returns-in_err-write_block : goal.returns-in_err-write_block
returns-in_err-write_block g c =
    let start : DiskSeen = disk_seen g.D.Disk.counts g.D.Disk.told g.D.Disk.due c.args.disk.now in
    let here : DiskSeen = disk_seen g.D.Disk.counts g.D.Disk.told g.D.Disk.due c.loop-block.disk in
    let next : DiskSeen = disk_seen g.D.Disk.counts g.D.Disk.told g.D.Disk.due c.write_block.new.disk in
    let body : List ℕ = c.args.body.now in
    let part : List ℕ = slice_range body c.loop-block.from c.min-to.result in
    let p = err_from_is_err_and c.from_residual.result c.from_residual.ensures.1 in
    let e = c.in_err-write_block.ensures in
    let below : c.loop-block.block < c.args.first + blocks_of (length body) = omega (arith, c.loop-block-test.true, c.blocks_of.ensures) in
    let same : c.next_behind-next.result ≡ next_of c.loop-block.block (c.args.first + blocks_of (length body)) =
    c.next_behind-next.ensures ∙ ap (λ k. next_of c.loop-block.block (c.args.first + k)) c.blocks_of.ensures in
    rw (p.1, p.2) (chain_refused (Unit {0}) (Unit {0}) g.D.Disk.tells g.D.Disk.obeys c.args.first body c.loop-block.block c.loop-block.from
    c.min-to.result start here next c.in_err-write_block.field-0.0 c.loop-block.invariant below c.min-to.ensures
    (block_makes g.D.Disk.tells g.D.Disk.obeys c.loop-block.block c.next_behind-next.result
    (next_of c.loop-block.block (c.args.first + blocks_of (length body))) part here next
    (end_of {T = Unit {0}} (Err c.in_err-write_block.field-0.0)) same e.counts e.obeyed e.timed e.told))

pub loop-block-preserved : goal.loop-block-preserved
loop-block-preserved g c =
    let start : DiskSeen = disk_seen g.D.Disk.counts g.D.Disk.told g.D.Disk.due c.args.disk.now in
    let here : DiskSeen = disk_seen g.D.Disk.counts g.D.Disk.told g.D.Disk.due c.loop-block.disk in
    let next : DiskSeen = disk_seen g.D.Disk.counts g.D.Disk.told g.D.Disk.due c.write_block.new.disk in
    let body : List ℕ = c.args.body.now in
    let part : List ℕ = slice_range body c.loop-block.from c.min-to.result in
    let o = c.in_ok-write_block.ensures in
    let below : c.loop-block.block < c.args.first + blocks_of (length body) = omega (arith, c.loop-block-test.true, c.blocks_of.ensures) in
    let same : c.next_behind-next.result ≡ next_of c.loop-block.block (c.args.first + blocks_of (length body)) =
    c.next_behind-next.ensures ∙ ap (λ k. next_of c.loop-block.block (c.args.first + k)) c.blocks_of.ensures in
    chained_more g.D.Disk.tells g.D.Disk.obeys c.args.first body c.loop-block.block c.loop-block.from c.min-to.result start here next
    c.loop-block.invariant below c.min-to.ensures
    (block_makes g.D.Disk.tells g.D.Disk.obeys c.loop-block.block c.next_behind-next.result
    (next_of c.loop-block.block (c.args.first + blocks_of (length body))) part here next Fine same o.counts o.obeyed o.timed o.told)

pub returns : goal.returns
returns g c =
    let body : List ℕ = c.args.body.now in
    let past : c.args.first + blocks_of (length body) ≤ c.loop-block.block = omega (arith, c.loop-block-test.false, c.blocks_of.ensures) in
    chained_whole g.D.Disk.tells g.D.Disk.obeys c.args.first body c.loop-block.block c.loop-block.from
    (disk_seen g.D.Disk.counts g.D.Disk.told g.D.Disk.due c.args.disk.now)
    (disk_seen g.D.Disk.counts g.D.Disk.told g.D.Disk.due c.loop-block.disk) c.loop-block.invariant past
