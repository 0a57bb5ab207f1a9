use Rattle.std.proofs.Common.{◌≡◌, sym, ◌∙◌, ap, inl, inr}
use Rattle.eject_table.specs.Table.{Table, map_of, with_active}
use Rattle.slab.specs.Slab.{with_value}
use Rattle.eject_table.proofs.Entries.{place-active, place-none, written}
use Rattle.eject_table.proofs.EjectTable.active_mut.Goals as goal

pub returns-in-Some : goal.returns-in-Some
returns-in-Some g c =
    let a = c.self.inside in
    let after : (x : g.row.A.Denot) → (let m = map_of (with_value a.active c.in-Some.key x) a.places.entries in
    let t : Table g.row.A.Denot = record { node = a.node; epoch = a.epoch; last_serial = a.last_serial; standings = m } in t)
    ≡ with_active c.args.self.now c.args.uid x = λ x. rw (← c.self.view_is)
    (ap (λ m. record { node = a.node; epoch = a.epoch; last_serial = a.last_serial; standings = m })
    (written a.active a.places.entries c.self.invariant.whole c.args.uid c.in-Some.key x c.in-Some.ensures).1) in (
      λ i. inl (c.index_mut.result.ghost_name, λ x. after x i),
      record {
        writes_back = tt;
        value = rw (← c.self.view_is)
            (sym c.index_mut.ensures.value ∙ (place-active a.active a.places.entries c.self.invariant.whole c.args.uid c.in-Some.key
            c.in-Some.ensures).0);
      },
    )

pub returns-in-None : goal.returns-in-None
returns-in-None g c = (
  ap inr c.self.view_is,
  record {
    writes_back = tt;
    value = rw (← c.self.view_is)
        (place-none c.self.inside.active c.self.inside.places.entries c.self.invariant.whole c.args.uid c.in-None.ensures);
  },
)
