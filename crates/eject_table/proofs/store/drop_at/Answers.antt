use Rattle.std.proofs.Common.{◌∙◌}
use Rattle.capability.specs.Uids.{uid_cmp}
use Rattle.eject_table.proofs.Entries.{place-active, place-none, drop-part, no-drop, some-place, sorted-from}
use Rattle.eject_table.proofs.store.drop_at.Goals as goal

pub unplace-requires : goal.unplace-requires
unplace-requires g c = some-place c.args.slab.now c.args.places.now.entries c.requires c.args.uid c.in-Some.key c.in-Some.ensures

pub returns-in-Some-clause-whole : goal.returns-in-Some-clause-whole
returns-in-Some-clause-whole g c =
    (drop-part c.args.slab.now c.args.places.now.entries c.requires c.try_remove.new.self _ c.args.uid c.in-Some.key c.args.stays
    c.in-Some.ensures c.try_remove.ensures.updates (sorted-from uid_cmp _ c.unplace.ensures.sorted) c.unplace.ensures.at).0

pub returns-in-Some-clause-part : goal.returns-in-Some-clause-part
returns-in-Some-clause-part g c = c.try_remove.ensures.value
    ∙ (place-active c.args.slab.now c.args.places.now.entries c.requires c.args.uid c.in-Some.key c.in-Some.ensures).0

pub returns-in-Some-clause-after : goal.returns-in-Some-clause-after
returns-in-Some-clause-after g c =
    (drop-part c.args.slab.now c.args.places.now.entries c.requires c.try_remove.new.self _ c.args.uid c.in-Some.key c.args.stays
    c.in-Some.ensures c.try_remove.ensures.updates (sorted-from uid_cmp _ c.unplace.ensures.sorted) c.unplace.ensures.at).1

pub returns-in-None-clause-part : goal.returns-in-None-clause-part
returns-in-None-clause-part g c = place-none c.args.slab.now c.args.places.now.entries c.requires c.args.uid c.in-None.ensures

pub returns-in-None-clause-after : goal.returns-in-None-clause-after
returns-in-None-clause-after g c = no-drop c.args.slab.now c.args.places.now.entries c.requires c.args.uid c.args.stays c.in-None.ensures
