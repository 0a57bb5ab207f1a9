use Rattle.std.proofs.Common.{Some, sym, ◌∙◌, ap}
use Rattle.slab.specs.Slab.{get as get_slab}
use Rattle.capability.specs.Uids.{uid_cmp}
use Rattle.eject_table.proofs.Entries.{added, changed-whole, changed-put, sorted-from}
use Rattle.eject_table.proofs.store.put_active.Goals as goal

pub returns-in-Ok-clause-whole : goal.returns-in-Ok-clause-whole
returns-in-Ok-clause-whole g c =
    let slab = c.args.slab.now in
    let key = c.vacant_key-key.ensures.value ∙ sym c.insert_reserved.ensures.key in
    changed-whole slab c.args.places.now.entries c.requires c.insert_reserved.new.self _ c.args.uid (Some (Some c.insert_reserved.result))
    (added slab c.args.places.now.entries c.requires c.reserve.new.self c.insert_reserved.new.self _ c.args.uid c.insert_reserved.result
    c.args.active
    (λ k. ap (λ s. get_slab s k) c.reserve.ensures.rest_kept) c.insert_reserved.ensures.was_vacant c.insert_reserved.ensures.updates
    (sorted-from uid_cmp _ c.insert.ensures.ordered) (rw (← key) c.in-Ok.ensures.updates.0))

pub returns-in-Ok-clause-after : goal.returns-in-Ok-clause-after
returns-in-Ok-clause-after g c =
    let slab = c.args.slab.now in
    let key = c.vacant_key-key.ensures.value ∙ sym c.insert_reserved.ensures.key in
    changed-put slab c.args.places.now.entries c.requires c.insert_reserved.new.self _ c.args.uid (Some (Some c.insert_reserved.result))
    (added slab c.args.places.now.entries c.requires c.reserve.new.self c.insert_reserved.new.self _ c.args.uid c.insert_reserved.result
    c.args.active
    (λ k. ap (λ s. get_slab s k) c.reserve.ensures.rest_kept) c.insert_reserved.ensures.was_vacant c.insert_reserved.ensures.updates
    (sorted-from uid_cmp _ c.insert.ensures.ordered) (rw (← key) c.in-Ok.ensures.updates.0))
    (Some c.args.active) (ap (λ x. Some x) c.insert_reserved.ensures.updates.changed)
