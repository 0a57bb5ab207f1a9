use Rattle.std.proofs.Common.{refl}
use Rattle.passive_blocks.specs.BlockLayout.{block_layout}
use Rattle.passive_store.specs.Seen.{disk_seen}
use Rattle.move_world.specs.Counted.{CountsAsTold}
use Rattle.move_world.specs.View.{log_of}
use Rattle.eden_shell.proofs.Called.{keep-nothing, seen-both, starved-moves, told-moves}
use Rattle.eden_shell.proofs.moving.tell_moves.Goals as goal

pub returns-in-Ok-clause-moved : goal.returns-in-Ok-clause-moved
returns-in-Ok-clause-moved g c = told-moves _ _ _ _ c.in-Ok.field-0.log c.deliver.result.outcome c.deliver.result.further c.deliver.ensures.further
    c.in-Ok.ensures.nodes c.in-Ok.ensures.all
    (λ tells empty. c.in-Ok.ensures.legal tells (keep-nothing g.D.Disk.obeys block_layout
    (disk_seen g.D.Disk.counts g.D.Disk.told g.D.Disk.due) c.args.disks.now.items c.carry_moves.new.disks.items c.requires.eight
    c.carry_moves.ensures.eight empty))
    (seen-both (CountsAsTold (log_of c.in-Ok.field-0.log)) g.D.Disk.obeys (disk_seen g.D.Disk.counts g.D.Disk.told g.D.Disk.due)
    c.args.disks.now.items c.carry_moves.new.disks.items c.requires.eight c.carry_moves.ensures.eight c.in-Ok.ensures.counts)
    (rw (c.deref.ensures.value, c.in-Ok.ensures.text) at c.deliver.ensures.delivers) c.deliver.ensures.memory

pub returns-in-Err-clause-moved : goal.returns-in-Err-clause-moved
returns-in-Err-clause-moved g c = starved-moves _ _ _ _ c.refuse.result.outcome c.refuse.result.further c.refuse.ensures.further
    (c.refuse.ensures.memory refl) c.refuse.ensures.nothing
