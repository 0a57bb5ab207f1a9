use Rattle.std.proofs.Common.{Some, None, refl}
use Rattle.capability.specs.Uids.{uid_cmp}
use Rattle.eject_table.proofs.Entries.{unplaced, changed-whole, changed-put, sorted-from}
use Rattle.eject_table.proofs.store.put_passive.Goals as goal

pub returns-in-Ok-clause-whole : goal.returns-in-Ok-clause-whole
returns-in-Ok-clause-whole g c =
    changed-whole c.args.slab.now c.args.places.now.entries c.requires c.args.slab.now _ c.args.uid (Some None)
    (unplaced c.args.slab.now c.args.places.now.entries c.requires _ c.args.uid (Some None) (λ k e. cc)
    (sorted-from uid_cmp _ c.insert.ensures.ordered) c.in-Ok.ensures.updates.0)

pub returns-in-Ok-clause-after : goal.returns-in-Ok-clause-after
returns-in-Ok-clause-after g c =
    changed-put c.args.slab.now c.args.places.now.entries c.requires c.args.slab.now _ c.args.uid (Some None)
    (unplaced c.args.slab.now c.args.places.now.entries c.requires _ c.args.uid (Some None) (λ k e. cc)
    (sorted-from uid_cmp _ c.insert.ensures.ordered) c.in-Ok.ensures.updates.0) None refl
