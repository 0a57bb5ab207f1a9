use Rattle.std.proofs.Common.{◌≡◌, ◌+◌, ◌∷◌, [], ℕ, List, IsTrue, Ok, Err, length, slice_range, ap, ◌∙◌, rules}
use Rattle.std.proofs.lemmas.Result.{err_from_is_err_and}
use Rattle.eden_disk.specs.Told.{contents}
use Rattle.eden_disk.specs.Calls.{Fine, end_of}
use Rattle.passive_store.specs.Acts.{Read}
use Rattle.passive_store.specs.Seen.{DiskSeen, disk_seen}
use Rattle.block_tables.specs.Blocks.{numbers, blocks_of}
use Rattle.block_tables.specs.Changes.{chain_writes}
use Rattle.passive_blocks.specs.Conversion.{move_calls}
use Rattle.passive_blocks.specs.Converting.{moved_in}
use Rattle.passive_blocks.proofs.Making.{makes_read}
use Rattle.passive_blocks.proofs.Running.{refused_early, runs_refused, runs_up_to, runs_whole}
use Rattle.passive_blocks.proofs.CopyingValues.{written_value}
use Rattle.passive_blocks.proofs.SameParts.{take_front}
use Rattle.passive_blocks.proofs.convert.copy_value.Goals as goal

pub returns-in_err-read-clause-runs : goal.returns-in_err-read-clause-runs
returns-in_err-read-clause-runs g c =
    let old : DiskSeen = disk_seen g.D.Disk.counts g.D.Disk.told g.D.Disk.due c.args.disk.now in
    let new : DiskSeen = disk_seen g.D.Disk.counts g.D.Disk.told g.D.Disk.due c.read.new.self in
    let image : List ℕ = (contents (g.D.Disk.told c.args.disk.now)).now in
    let p = err_from_is_err_and c.from_residual-in_err-read.result c.from_residual-in_err-read.ensures.1 in
    let e = c.in_err-read.ensures in
    rw (p.1, p.2) (runs_refused (Unit {0}) (Unit {0}) g.D.Disk.tells g.D.Disk.obeys (Read ∷ [])
    (chain_writes (numbers c.args.moved.head.first (blocks_of c.args.moved.head.size))
    (slice_range image c.args.moved.place (c.args.moved.place + c.args.moved.head.size))) old new _ (refused_early c.in_err-read.field-0.0)
    (runs_up_to (Unit {0}) (Unit {0}) g.D.Disk.tells g.D.Disk.obeys (Read ∷ []) old new c.in_err-read.field-0.0
    (makes_read g.D.Disk.tells g.D.Disk.obeys old new (end_of {T = Unit {0}} (Err c.in_err-read.field-0.0)) e.counts e.obeys e.told)))

pub returns-in_err-write_chain-clause-runs : goal.returns-in_err-write_chain-clause-runs
returns-in_err-write_chain-clause-runs g c =
    let old : DiskSeen = disk_seen g.D.Disk.counts g.D.Disk.told g.D.Disk.due c.args.disk.now in
    let mid : DiskSeen = disk_seen g.D.Disk.counts g.D.Disk.told g.D.Disk.due c.read.new.self in
    let new : DiskSeen = disk_seen g.D.Disk.counts g.D.Disk.told g.D.Disk.due c.write_chain.new.disk in
    let image : List ℕ = (contents (g.D.Disk.told c.args.disk.now)).now in
    let p = err_from_is_err_and c.from_residual-in_err-write_chain.result c.from_residual-in_err-write_chain.ensures.1 in
    let r = c.in_ok-read.ensures in
    let long : length c.deref.result.now ≡ c.args.moved.head.size = search rules in
    let is : IsTrue g.D.Disk.tells → c.deref.result.now ≡ slice_range image c.args.moved.place (c.args.moved.place + c.args.moved.head.size)
    =
    λ so. let n : length c.deref_mut.result.now ≡ c.args.moved.head.size = search rules in
    let whole : c.in_ok-body.body.len ≡ length c.read.new.out = search rules in
    let v : c.deref.result.now ≡ c.read.new.out = c.deref.ensures.value ∙ take_front c.in_ok-body.body.len c.read.new.out _ whole in
    v ∙ r.bytes so ∙ ap (λ k. slice_range image c.args.moved.place (c.args.moved.place + k)) n in
    rw (p.1, p.2) (runs_up_to (Unit {0}) (Unit {0}) g.D.Disk.tells g.D.Disk.obeys (move_calls (moved_in image c.args.moved)) old new
    c.in_err-write_chain.field-0.0
    (written_value g.D.Disk.tells g.D.Disk.obeys c.args.moved image c.deref.result.now old mid new (Err c.in_err-write_chain.field-0.0) long
    is (makes_read g.D.Disk.tells g.D.Disk.obeys old mid Fine r.counts r.obeys r.told) c.in_err-write_chain.ensures))

pub returns-clause-runs : goal.returns-clause-runs
returns-clause-runs g c =
    let old : DiskSeen = disk_seen g.D.Disk.counts g.D.Disk.told g.D.Disk.due c.args.disk.now in
    let mid : DiskSeen = disk_seen g.D.Disk.counts g.D.Disk.told g.D.Disk.due c.read.new.self in
    let new : DiskSeen = disk_seen g.D.Disk.counts g.D.Disk.told g.D.Disk.due c.write_chain.new.disk in
    let image : List ℕ = (contents (g.D.Disk.told c.args.disk.now)).now in
    let r = c.in_ok-read.ensures in
    let long : length c.deref.result.now ≡ c.args.moved.head.size = search rules in
    let is : IsTrue g.D.Disk.tells → c.deref.result.now ≡ slice_range image c.args.moved.place (c.args.moved.place + c.args.moved.head.size)
    =
    λ so. let n : length c.deref_mut.result.now ≡ c.args.moved.head.size = search rules in
    let whole : c.in_ok-body.body.len ≡ length c.read.new.out = search rules in
    let v : c.deref.result.now ≡ c.read.new.out = c.deref.ensures.value ∙ take_front c.in_ok-body.body.len c.read.new.out _ whole in
    v ∙ r.bytes so ∙ ap (λ k. slice_range image c.args.moved.place (c.args.moved.place + k)) n in
    runs_whole (Unit {0}) tt g.D.Disk.tells g.D.Disk.obeys (move_calls (moved_in image c.args.moved)) old new
    (written_value g.D.Disk.tells g.D.Disk.obeys c.args.moved image c.deref.result.now old mid new (Ok tt) long
    is (makes_read g.D.Disk.tells g.D.Disk.obeys old mid Fine r.counts r.obeys r.told) c.in_ok-write_chain.ensures)
