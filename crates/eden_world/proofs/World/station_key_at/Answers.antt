use Rattle.std.proofs.Common.{[], ◌++◌, sym, ◌∙◌, ap}
use Rattle.std.specs.Prelude.{option_copied}
use Rattle.passive_store.specs.Seen.{disk_seen}
use Rattle.agenda.proofs.AtPlaces.{then_at}
use Rattle.eden_world.specs.Listed.{mail_keys, node_keys_at, station_count}
use Rattle.eden_world.proofs.KeySteps.{behind-mail}
use Rattle.eden_world.proofs.Stationed.{keys-there, is-stationed, no-station-keys}
use Rattle.eden_world.proofs.World.station_key_at.Goals as goal

pub returns-in_err-left : goal.returns-in_err-left
returns-in_err-left g c = λ more w reached stands.
    let nodes = node_keys_at w c.args.number in
    behind-mail (mail_keys (station_count c.args.self.now) c.args.self.now.calls c.args.number) nodes _ c.args.place c.mail_at.result _
    c.mail_at.ensures (c.from_residual.ensures ∙ ap (then_at nodes) (sym c.in_err-left.was))
    (keys-there g.St.Device.Disk.tells g.St.Store.layout g.St.Store.seen
    (disk_seen g.St.Device.Disk.counts g.St.Device.Disk.told g.St.Device.Disk.due) c.args.self.now more w c.args.number
    c.requires.whole stands c.requires.number)

pub returns-in-Some : goal.returns-in-Some
returns-in-Some g c = λ more w reached stands.
    let mail = mail_keys (station_count c.args.self.now) c.args.self.now.calls c.args.number in
    let found = sym c.station.ensures ∙ ap option_copied c.in-Some.is in
    let st = is-stationed g.St.Device.Disk.tells g.St.Store.layout g.St.Store.seen
    (disk_seen g.St.Device.Disk.counts g.St.Device.Disk.told g.St.Device.Disk.due) c.args.self.now more w c.args.number
    c.in-Some.station.now reached stands c.requires.number found in
    behind-mail mail _ _ c.args.place c.mail_at.result _ c.mail_at.ensures
    (c.key_at.ensures stands.telling c.args.self.now.types c.args.self.now.calls st.site st.sound st.stands
    ∙ ap (then_at _) (sym c.in_ok-left.was))
    (keys-there g.St.Device.Disk.tells g.St.Store.layout g.St.Store.seen
    (disk_seen g.St.Device.Disk.counts g.St.Device.Disk.told g.St.Device.Disk.due) c.args.self.now more w c.args.number
    c.requires.whole stands c.requires.number
    ∙ ap (λ ks. mail ++ ks) st.keys)

pub returns-in-None : goal.returns-in-None
returns-in-None g c = λ more w reached stands.
    let mail = mail_keys (station_count c.args.self.now) c.args.self.now.calls c.args.number in
    let none = sym c.station.ensures ∙ ap option_copied c.in-None.is in
    behind-mail mail [] _ c.args.place c.mail_at.result _ c.mail_at.ensures (ap (then_at []) (sym c.in_ok-left.was))
    (keys-there g.St.Device.Disk.tells g.St.Store.layout g.St.Store.seen
    (disk_seen g.St.Device.Disk.counts g.St.Device.Disk.told g.St.Device.Disk.due) c.args.self.now more w c.args.number
    c.requires.whole stands c.requires.number
    ∙ ap (λ ks. mail ++ ks)
    (no-station-keys g.St.Device.Disk.tells g.St.Store.layout g.St.Store.seen
    (disk_seen g.St.Device.Disk.counts g.St.Device.Disk.told g.St.Device.Disk.due) c.args.self.now more w c.args.number
    reached stands c.requires.number none))
