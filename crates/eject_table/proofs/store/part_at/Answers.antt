use Rattle.std.proofs.Common.{◌∙◌}
use Rattle.eject_table.proofs.Entries.{place-active, place-none}
use Rattle.eject_table.proofs.store.part_at.Goals as goal

pub returns-in-Some : goal.returns-in-Some
returns-in-Some g c = c.get.ensures ∙ (place-active c.args.slab.now c.args.places.now.entries c.requires c.args.uid c.in-Some.key
    c.in-Some.ensures).0

pub returns-in-None : goal.returns-in-None
returns-in-None g c = place-none c.args.slab.now c.args.places.now.entries c.requires c.args.uid c.in-None.ensures
