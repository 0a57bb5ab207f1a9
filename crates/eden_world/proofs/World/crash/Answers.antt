use Rattle.std.proofs.Common.{refl, sym, ◌∙◌}
use Rattle.passive_store.specs.Seen.{disk_seen}
use Rattle.checkpoint.proofs.Activations.{any-err}
use Rattle.eden_world.specs.Seated.{heeds, station_at}
use Rattle.eden_world.proofs.CarriedOut.{crash-carried, crash-starved, crash-still}
use Rattle.eden_world.proofs.Crashing.{crash-shows, left-keeps, none-up, up-at}
use Rattle.eden_world.proofs.Untouched.{still-shows}
use Rattle.ejects.proofs.Counting.{none-one}
use Rattle.eden_world.proofs.Counting.{same-one}
use Rattle.eden_world.proofs.World.crash.Goals as goal

pub returns-then-not-is_up-clause-carried : goal.returns-then-not-is_up-clause-carried
returns-then-not-is_up-clause-carried g c = crash-still g.St.Device.Disk.tells g.St.Store.layout g.St.Store.seen
    (disk_seen g.St.Device.Disk.counts g.St.Device.Disk.told g.St.Device.Disk.due) c.args.self.now c.args.node c.args.mode
    c.entry_of_none.result
    (λ number. none-up (station_at c.args.self.now c.args.node) (sym c.is_up.ensures ∙ c.if-not-is_up.true)) c.entry_of_none.ensures.event
    c.entry_of_none.ensures.none

pub returns-then-not-is_up-clause-shows : goal.returns-then-not-is_up-clause-shows
returns-then-not-is_up-clause-shows g c = still-shows (heeds g.St.Device.Disk.tells g.St.Device.Disk.obeys) g.St.Store.seen
    (disk_seen g.St.Device.Disk.counts g.St.Device.Disk.told g.St.Device.Disk.due) c.args.self.now c.args.self.now
    c.entry_of_none.result _ refl c.entry_of_none.ensures.event refl c.entry_of_none.ensures.none

pub fall-requires-clause-first : goal.fall-requires-clause-first
fall-requires-clause-first g c =
    let u = up-at g.St.Store.seen c.args.self.now c.args.node c.requires (sym c.is_up.ensures ∙ c.if-not-is_up.false) in u.number.first

pub fall-requires-clause-last : goal.fall-requires-clause-last
fall-requires-clause-last g c =
    let u = up-at g.St.Store.seen c.args.self.now c.args.node c.requires (sym c.is_up.ensures ∙ c.if-not-is_up.false) in u.number.last

pub returns-in_err-broken-clause-starved : goal.returns-in_err-broken-clause-starved
returns-in_err-broken-clause-starved g c =
    let u = up-at g.St.Store.seen c.args.self.now c.args.node c.requires (sym c.is_up.ensures ∙ c.if-not-is_up.false) in
    any-err c.from_residual.result _ (crash-starved g.St.Device.Disk.tells g.St.Device.Disk.obeys g.St.Store.layout g.St.Store.seen
    (disk_seen g.St.Device.Disk.counts g.St.Device.Disk.told g.St.Device.Disk.due) c.args.self.now c.fall.new.self c.args.node c.args.mode
    u.node u.is
    u.number (c.in_err-broken.ensures.leaves u.node u.is))

pub returns-in_err-broken-clause-leaves : goal.returns-in_err-broken-clause-leaves
returns-in_err-broken-clause-leaves g c =
    let u = up-at g.St.Store.seen c.args.self.now c.args.node c.requires (sym c.is_up.ensures ∙ c.if-not-is_up.false) in
    any-err c.from_residual.result _ (left-keeps g.St.Device.Disk.tells g.St.Device.Disk.obeys g.St.Store.layout g.St.Store.seen
    (disk_seen g.St.Device.Disk.counts g.St.Device.Disk.told g.St.Device.Disk.due) _ c.args.node u.node c.args.self.now c.fall.new.self u.is
    (c.in_err-broken.ensures.leaves u.node u.is) (heeds g.St.Device.Disk.tells g.St.Device.Disk.obeys) c.in_err-broken.ensures.seated)

pub returns-clause-carried : goal.returns-clause-carried
returns-clause-carried g c =
    let u = up-at g.St.Store.seen c.args.self.now c.args.node c.requires (sym c.is_up.ensures ∙ c.if-not-is_up.false) in
    crash-carried g.St.Device.Disk.tells g.St.Device.Disk.obeys g.St.Store.layout g.St.Store.seen
    (disk_seen g.St.Device.Disk.counts g.St.Device.Disk.told g.St.Device.Disk.due) c.args.self.now c.fall.new.self c.args.node c.args.mode
    u.node
    c.in_ok-broken.broken _ u.is u.number (λ so. c.in_ok-broken.ensures.falls so u.node u.is) refl
    (record { node = refl; clock = c.clock_at-clock.ensures; broken = refl })

pub returns-clause-shows : goal.returns-clause-shows
returns-clause-shows g c =
    let u = up-at g.St.Store.seen c.args.self.now c.args.node c.requires (sym c.is_up.ensures ∙ c.if-not-is_up.false) in
    crash-shows (heeds g.St.Device.Disk.tells g.St.Device.Disk.obeys) g.St.Device.Disk.tells g.St.Device.Disk.obeys g.St.Store.layout
    g.St.Store.seen
    (disk_seen g.St.Device.Disk.counts g.St.Device.Disk.told g.St.Device.Disk.due) c.args.mode c.args.node u.node c.args.self.now
    c.fall.new.self _
    u.is u.number (c.in_ok-broken.ensures.leaves u.node u.is) refl refl c.clock_at-clock.ensures

pub returns-then-not-is_up-clause-asks : goal.returns-then-not-is_up-clause-asks
returns-then-not-is_up-clause-asks g c = same-one c.args.self.now.calls c.args.self.now.calls refl

pub returns-clause-asks : goal.returns-clause-asks
returns-clause-asks g c = none-one c.args.self.now.calls c.fall.new.self.calls c.in_ok-broken.ensures.asks
