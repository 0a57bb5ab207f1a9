use Rattle.std.proofs.Common.{[], ◌++◌, sym, ◌∙◌, ap, refl, None}
use Rattle.std.specs.Prelude.{option_copied}
use Rattle.passive_store.specs.Seen.{disk_seen}
use Rattle.journal.specs.Enabled.{is_past}
use Rattle.eden_world.specs.Listed.{mail_keys, station_count}
use Rattle.eden_world.proofs.Behind.{no-key}
use Rattle.eden_world.proofs.KeySteps.{delivery-first, node-next}
use Rattle.eden_world.proofs.Stationed.{keys-there, is-stationed, no-station-keys}
use Rattle.eden_world.proofs.World.next_at.Goals as goal

pub returns-then-is_left : goal.returns-then-is_left
returns-then-is_left g c = λ more w reached stands.
    sym (no-key c.args.last w c.args.number reached (c.is_left.ensures c.if-is_left.true))

pub returns-in-Some : goal.returns-in-Some
returns-in-Some g c = λ more w reached stands.
    delivery-first (is_past c.args.last) _ _ _ c.in-Some.key (sym c.in-Some.is ∙ c.next_delivery.ensures)
    (keys-there g.St.Device.Disk.tells g.St.Store.layout g.St.Store.seen
    (disk_seen g.St.Device.Disk.counts g.St.Device.Disk.told g.St.Device.Disk.due) c.args.self.now more w c.args.number c.requires.whole stands c.requires.number)

pub returns-in_err-station-in-None : goal.returns-in_err-station-in-None
returns-in_err-station-in-None g c = λ more w reached stands.
    let mail = mail_keys (station_count c.args.self.now) c.args.self.now.calls c.args.number in
    let none = sym c.station.ensures ∙ ap option_copied c.in_err-station-in-None.was in
    c.from_residual.ensures ∙ node-next (is_past c.args.last) mail [] _ None (sym c.in-None.is ∙ c.next_delivery.ensures) refl
    (keys-there g.St.Device.Disk.tells g.St.Store.layout g.St.Store.seen
    (disk_seen g.St.Device.Disk.counts g.St.Device.Disk.told g.St.Device.Disk.due) c.args.self.now more w c.args.number c.requires.whole stands c.requires.number
    ∙ ap (λ ks. mail ++ ks)
    (no-station-keys g.St.Device.Disk.tells g.St.Store.layout g.St.Store.seen
    (disk_seen g.St.Device.Disk.counts g.St.Device.Disk.told g.St.Device.Disk.due) c.args.self.now more w c.args.number
    reached stands c.requires.number none))

pub returns-in_ok-station-in-None : goal.returns-in_ok-station-in-None
returns-in_ok-station-in-None g c = λ more w reached stands.
    let mail = mail_keys (station_count c.args.self.now) c.args.self.now.calls c.args.number in
    let found = sym c.station.ensures ∙ ap option_copied c.in_ok-station-in-None.was in
    let st = is-stationed g.St.Device.Disk.tells g.St.Store.layout g.St.Store.seen
    (disk_seen g.St.Device.Disk.counts g.St.Device.Disk.told g.St.Device.Disk.due) c.args.self.now more w c.args.number
    c.in_ok-station-in-None.field-0.now reached stands c.requires.number found in
    node-next (is_past c.args.last) mail _ _ _ (sym c.in-None.is ∙ c.next_delivery.ensures)
    (c.next.ensures stands.telling c.args.self.now.types c.args.self.now.calls st.site st.sound st.stands)
    (keys-there g.St.Device.Disk.tells g.St.Store.layout g.St.Store.seen
    (disk_seen g.St.Device.Disk.counts g.St.Device.Disk.told g.St.Device.Disk.due) c.args.self.now more w c.args.number c.requires.whole stands c.requires.number
    ∙ ap (λ ks. mail ++ ks) st.keys)
