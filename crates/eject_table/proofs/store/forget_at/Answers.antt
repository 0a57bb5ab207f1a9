use Rattle.std.proofs.Common.{None, refl}
use Rattle.capability.specs.Uids.{uid_cmp}
use Rattle.eject_table.proofs.Entries.{unplaced, changed-whole, changed-gone, sorted-from}
use Rattle.eject_table.proofs.store.forget_at.Goals as goal

pub returns-clause-whole : goal.returns-clause-whole
returns-clause-whole g c =
    changed-whole c.args.slab.now c.args.places.now.entries c.requires c.args.slab.now _ c.args.uid None
    (unplaced c.args.slab.now c.args.places.now.entries c.requires _ c.args.uid None (λ k e. cc)
    (sorted-from uid_cmp _ c.make_absent.ensures.sorted) c.make_absent.ensures.at)

pub returns-clause-after : goal.returns-clause-after
returns-clause-after g c =
    changed-gone c.args.slab.now c.args.places.now.entries c.requires c.args.slab.now _ c.args.uid None
    (unplaced c.args.slab.now c.args.places.now.entries c.requires _ c.args.uid None (λ k e. cc)
    (sorted-from uid_cmp _ c.make_absent.ensures.sorted) c.make_absent.ensures.at) refl
