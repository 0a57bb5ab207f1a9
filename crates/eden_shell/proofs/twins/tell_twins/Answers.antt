use Rattle.std.proofs.Common.{refl}
use Rattle.passive_blocks.specs.BlockLayout.{block_layout}
use Rattle.passive_store.specs.Seen.{disk_seen}
use Rattle.twin_world.specs.View.{log_of, meant}
use Rattle.twin_world.specs.Worlds.{AllCounted, RunsOver}
use Rattle.eden_shell.proofs.Called.{seen-both, starved-twins, told-twins, twins-can-rise, twins-keep-nothing}
use Rattle.eden_shell.proofs.Empty.{zeros-no-texts}
use Rattle.eden_shell.proofs.twins.tell_twins.Goals as goal

pub returns-in-Ok-clause-twinned : goal.returns-in-Ok-clause-twinned
returns-in-Ok-clause-twinned g c = told-twins _ _ _ c.in-Ok.field-0.log c.deliver.result.outcome c.deliver.result.further
    c.deliver.ensures.further c.in-Ok.ensures.commands
    (λ tells empty rise. c.in-Ok.ensures.legal tells c.blocks_are_a_layout.ensures zeros-no-texts
    (twins-keep-nothing g.D.Disk.obeys block_layout (disk_seen g.D.Disk.counts g.D.Disk.told g.D.Disk.due) c.args.disks.now.items
    c.carry_twins.new.disks.items c.requires.eight c.carry_twins.ensures.eight empty)
    (twins-can-rise meant c.args.script.commands.items g.D.Disk.obeys (disk_seen g.D.Disk.counts g.D.Disk.told g.D.Disk.due)
    c.args.disks.now.items c.carry_twins.new.disks.items c.requires.eight c.carry_twins.ensures.eight rise))
    (seen-both (RunsOver g.D.Disk.tells block_layout (log_of c.in-Ok.field-0.log).entries) g.D.Disk.obeys
    (disk_seen g.D.Disk.counts g.D.Disk.told g.D.Disk.due) c.args.disks.now.items c.carry_twins.new.disks.items c.requires.eight
    c.carry_twins.ensures.eight c.in-Ok.ensures.runs)
    (seen-both (AllCounted (log_of c.in-Ok.field-0.log).entries) g.D.Disk.obeys (disk_seen g.D.Disk.counts g.D.Disk.told g.D.Disk.due)
    c.args.disks.now.items c.carry_twins.new.disks.items c.requires.eight c.carry_twins.ensures.eight c.in-Ok.ensures.counts)
    (rw (c.deref.ensures.value, c.in-Ok.ensures.text) at c.deliver.ensures.delivers) c.deliver.ensures.memory

pub returns-in-Err-clause-twinned : goal.returns-in-Err-clause-twinned
returns-in-Err-clause-twinned g c = starved-twins _ _ _ c.refuse.result.outcome c.refuse.result.further c.refuse.ensures.further
    (c.refuse.ensures.memory refl) c.refuse.ensures.nothing
