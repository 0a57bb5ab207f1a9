use Rattle.std.proofs.Common.{rules, ◌≡◌, ◌∙◌, sym, ap, subst, ◌∷◌, ◌++◌, map, length, arith}
use Rattle.std.specs.Option.{option_map}
use Rattle.std.specs.Vec.Iter.{into_iter_items, into_iter_len}
use Rattle.std.proofs.lemmas.List.{length-map}
use Rattle.passive_store.specs.Seen.{disk_seen}
use Rattle.twin_world.specs.Places.{standing}
use Rattle.twin_world.specs.Worlds.{standings, all_disks}
use Rattle.twin_world.proofs.Beginning.{AllStand, world-stands, stands-given, none-of, none-shown}
use Rattle.twin_world.proofs.world.TwinWorld.close.Goals as goal

pub loop-place-init : goal.loop-place-init
loop-place-init g c =
    let look = disk_seen g.St.Device.Disk.counts g.St.Device.Disk.told g.St.Device.Disk.due in
    let it = c.into_iter-place-iterator.result in
    let same : into_iter_items it ≡ c.args.self.places.items = search rules in
    let counted : into_iter_len it ≡ length (into_iter_items it) = search rules in
    let four : length c.args.self.places.items ≡ 4 =
    sym (length-map c.args.self.places.items (standing g.St.Store.seen look)) ∙ c.requires.world.places in
    let none : length c.args.room.items ≡ 0 = ap length c.requires.empty in
    let all : length (into_iter_items it) ≡ length c.args.self.places.items = ap length same in
    record {
      stand = subst (λ l. AllStand (map (standing g.St.Store.seen look) l)) (sym same)
          (world-stands (standings g.St.Store.seen look c.args.self.places.items) c.requires.world);
      count = omega (arith, none, four, all);
      room = omega (arith, none, four, all, c.requires.room);
      given = ap (λ l. map look l ++ all_disks (map (standing g.St.Store.seen look) (into_iter_items it))) c.requires.empty
          ∙ ap (λ l. all_disks (map (standing g.St.Store.seen look) l)) same;
      counted = counted;
    }

pub loop-place-preserved : goal.loop-place-preserved
loop-place-preserved g c =
    let look = disk_seen g.St.Device.Disk.counts g.St.Device.Disk.told g.St.Device.Disk.due in
    let rest = into_iter_items c.next.new.self in
    let cons : into_iter_items c.loop-place.place-iterator ≡ c.in-Some.place ∷ rest = search rules in
    stands-given (standing g.St.Store.seen look c.in-Some.place) (map (standing g.St.Store.seen look) rest)
    (option_map (λ p. (look p.0, look p.1)) c.disks_in.result)
    (subst (λ l. AllStand (map (standing g.St.Store.seen look) l)) cons c.loop-place.invariant.stand) c.disks_in.ensures
    (none-shown (λ p. (look p.0, look p.1)) c.disks_in.result (none-of c.disks_in.result (λ x. c.in_default.not-Some x)))
