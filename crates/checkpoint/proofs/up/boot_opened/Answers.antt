use Rattle.std.proofs.Common.{ℕ, ◌+◌, refl, sym, subst, ◌∙◌, ap, inl, inr, None, Err}
use Rattle.passive_store.specs.declared.store.StoreRefusal.TheVariants as refusal
use Rattle.passive_store.specs.Seen.{Seen, DiskSeen}
use Rattle.checkpoint.specs.Booting.{OpensTo, PutsTo}
use Rattle.checkpoint.specs.Calls.{call_of_fall}
use Rattle.checkpoint.proofs.SomeCalls.{calls-then, calls-refused, fall-call, calls-fell}
use Rattle.checkpoint.proofs.WholeBoots.{fall-as, noted-idle, below-last, epochs-fit, boots-up, falls-unread, falls-spent, falls-full}
use Rattle.checkpoint.proofs.WholeBoots.{falls-unmade, falls-put}
use Rattle.eden_disk.specs.Calls.{Fine}
use Rattle.checkpoint.specs.Calls.{call_of_refusal}
use Rattle.checkpoint.proofs.Touching.{obeyed-fell, obeyed-as, obeyed-then, raises-fell, raises-as, raises-none, raises-behind}
use Rattle.checkpoint.proofs.up.boot_opened.Goals as goal

pub put_epoch-requires-clause-power : goal.put_epoch-requires-clause-power
put_epoch-requires-clause-power g c = c.in-Ok.ensures.power

pub returns-in-Err-clause-falls : goal.returns-in-Err-clause-falls
returns-in-Err-clause-falls g c = λ so more s told clock some d o.
    let x : Seen = g.St.Store.seen c.read_epoch.new.store in
    let y : Seen = g.St.Store.seen c.read_epoch.new.store in
    let r : OpensTo g.St.Store.layout c.args.node more s told clock c.args.pick x = c.in-Err.ensures.reads so more s told clock c.args.pick
    o in
    fall-as g.St.Store.layout c.args.node more s told clock _ c.fall.result.1.end _ c.fall.result.1.note _ c.fall.result.1.doubt y.disk.told
    _ y.disk.counts _ (c.fall.ensures.end ∙ c.end_of.ensures) c.fall.ensures.note
    (c.fall.ensures.doubt so ∙ noted-idle x c.in-Err.ensures.idle)
    (ap (λ (d : DiskSeen). d.told) c.fall.ensures.disk) (ap (λ (d : DiskSeen). d.counts) c.fall.ensures.disk)
    (falls-unread g.St.Store.layout c.args.node more s told clock c.args.pick x c.in-Err.refusal c.in-Err.ensures.only d r
    (c.in-Err.ensures.stored so more s told clock c.args.pick o))

pub returns-then-epoch-clause-falls : goal.returns-then-epoch-clause-falls
returns-then-epoch-clause-falls g c = λ so more s told clock some d o.
    let x : Seen = g.St.Store.seen c.read_epoch.new.store in
    let y : Seen = g.St.Store.seen c.read_epoch.new.store in
    let r : OpensTo g.St.Store.layout c.args.node more s told clock c.args.pick x = c.in-Ok.ensures.reads so more s told clock c.args.pick o
    in
    fall-as g.St.Store.layout c.args.node more s told clock _ c.fall-then-epoch.result.1.end _ c.fall-then-epoch.result.1.note _
    c.fall-then-epoch.result.1.doubt y.disk.told _ y.disk.counts _ c.fall-then-epoch.ensures.end c.fall-then-epoch.ensures.note
    (c.fall-then-epoch.ensures.doubt so ∙ noted-idle x c.in-Ok.ensures.idle)
    (ap (λ (d : DiskSeen). d.told) c.fall-then-epoch.ensures.disk) (ap (λ (d : DiskSeen). d.counts) c.fall-then-epoch.ensures.disk)
    (falls-spent g.St.Store.layout c.args.node more s told clock c.args.pick x d r
    (sym (c.in-Ok.ensures.epoch so more s told clock c.args.pick o (epochs-fit c.args.pick s d.epochs)) ∙ c.if-epoch.true))

pub returns-in-Ok-put_epoch-clause-up : goal.returns-in-Ok-put_epoch-clause-up
returns-in-Ok-put_epoch-clause-up g c = λ so more s told clock some d o.
    let x : Seen = g.St.Store.seen c.read_epoch.new.store in
    let y : Seen = g.St.Store.seen c.put_epoch.new.store in
    let r : OpensTo g.St.Store.layout c.args.node more s told clock c.args.pick x = c.in-Ok.ensures.reads so more s told clock c.args.pick o
    in
    boots-up g.St.Store.layout c.args.node more s told clock c.args.pick (c.in-Ok.epoch + 1) x y d r
    (c.in-Ok-put_epoch.ensures.puts so more s told clock c.args.pick some d.number d.its_layout d.epochs r)
    (ap (λ k. k + 1) (c.in-Ok.ensures.epoch so more s told clock c.args.pick o (epochs-fit c.args.pick s d.epochs)))
    (below-last g.St.Store.layout c.args.node more s c.args.pick c.in-Ok.epoch d
    (c.in-Ok.ensures.epoch so more s told clock c.args.pick o (epochs-fit c.args.pick s d.epochs)) c.if-epoch.false)

pub returns-in-Err-Full-clause-falls : goal.returns-in-Err-Full-clause-falls
returns-in-Err-Full-clause-falls g c = λ so more s told clock some d o.
    let x : Seen = g.St.Store.seen c.read_epoch.new.store in
    let y : Seen = g.St.Store.seen c.put_epoch.new.store in
    let r : OpensTo g.St.Store.layout c.args.node more s told clock c.args.pick x = c.in-Ok.ensures.reads so more s told clock c.args.pick o
    in
    fall-as g.St.Store.layout c.args.node more s told clock _ c.fall-in-Err-Full.result.1.end _ c.fall-in-Err-Full.result.1.note _
    c.fall-in-Err-Full.result.1.doubt y.disk.told _ y.disk.counts _ c.fall-in-Err-Full.ensures.end c.fall-in-Err-Full.ensures.note
    (c.fall-in-Err-Full.ensures.doubt so
    ∙ noted-idle y ((subst (λ e. PutsTo g.St.Store.layout c.args.node more s told clock c.args.pick (c.in-Ok.epoch + 1) x (Err e) y)
    c.in-Err-Full.field-0-is (c.in-Err-Full.ensures.puts so more s told clock c.args.pick some d.number d.its_layout d.epochs r)).0.work
    ∙ r.idle))
    (ap (λ (d : DiskSeen). d.told) c.fall-in-Err-Full.ensures.disk) (ap (λ (d : DiskSeen). d.counts) c.fall-in-Err-Full.ensures.disk)
    (falls-full g.St.Store.layout c.args.node more s told clock c.args.pick (c.in-Ok.epoch + 1) x y d r
    (subst (λ e. PutsTo g.St.Store.layout c.args.node more s told clock c.args.pick (c.in-Ok.epoch + 1) x (Err e) y)
    c.in-Err-Full.field-0-is (c.in-Err-Full.ensures.puts so more s told clock c.args.pick some d.number d.its_layout d.epochs r))
    (ap (λ k. k + 1) (c.in-Ok.ensures.epoch so more s told clock c.args.pick o (epochs-fit c.args.pick s d.epochs)))
    (below-last g.St.Store.layout c.args.node more s c.args.pick c.in-Ok.epoch d
    (c.in-Ok.ensures.epoch so more s told clock c.args.pick o (epochs-fit c.args.pick s d.epochs)) c.if-epoch.false))

pub returns-in-Err-OutOfMemory-clause-falls : goal.returns-in-Err-OutOfMemory-clause-falls
returns-in-Err-OutOfMemory-clause-falls g c = λ so more s told clock some d o.
    let x : Seen = g.St.Store.seen c.read_epoch.new.store in
    let y : Seen = g.St.Store.seen c.put_epoch.new.store in
    let r : OpensTo g.St.Store.layout c.args.node more s told clock c.args.pick x = c.in-Ok.ensures.reads so more s told clock c.args.pick o
    in
    fall-as g.St.Store.layout c.args.node more s told clock _ c.fall-in-Err-OutOfMemory.result.1.end _
    c.fall-in-Err-OutOfMemory.result.1.note _ c.fall-in-Err-OutOfMemory.result.1.doubt y.disk.told _ y.disk.counts _
    c.fall-in-Err-OutOfMemory.ensures.end c.fall-in-Err-OutOfMemory.ensures.note (c.fall-in-Err-OutOfMemory.ensures.doubt so)
    (ap (λ (d : DiskSeen). d.told) c.fall-in-Err-OutOfMemory.ensures.disk)
    (ap (λ (d : DiskSeen). d.counts) c.fall-in-Err-OutOfMemory.ensures.disk)
    (falls-unmade g.St.Store.layout c.args.node more s told clock c.args.pick
    (c.in-Ok.epoch + 1) x y c.fall-in-Err-OutOfMemory.result.1.note None r
    (subst (λ e. PutsTo g.St.Store.layout c.args.node more s told clock c.args.pick (c.in-Ok.epoch + 1) x (Err e) y)
    c.in-Err-OutOfMemory.field-0-is
    (c.in-Err-OutOfMemory.ensures.puts so more s told clock c.args.pick some d.number d.its_layout d.epochs r)))

pub returns-in-Err-Failed-clause-falls : goal.returns-in-Err-Failed-clause-falls
returns-in-Err-Failed-clause-falls g c = λ so more s told clock some d o.
    let x : Seen = g.St.Store.seen c.read_epoch.new.store in
    let y : Seen = g.St.Store.seen c.put_epoch.new.store in
    let r : OpensTo g.St.Store.layout c.args.node more s told clock c.args.pick x = c.in-Ok.ensures.reads so more s told clock c.args.pick o
    in
    fall-as g.St.Store.layout c.args.node more s told clock _ c.fall-in-Err-Failed.result.1.end _ c.fall-in-Err-Failed.result.1.note _
    c.fall-in-Err-Failed.result.1.doubt y.disk.told _ y.disk.counts _ c.fall-in-Err-Failed.ensures.end c.fall-in-Err-Failed.ensures.note
    (c.fall-in-Err-Failed.ensures.doubt so)
    (ap (λ (d : DiskSeen). d.told) c.fall-in-Err-Failed.ensures.disk) (ap (λ (d : DiskSeen). d.counts) c.fall-in-Err-Failed.ensures.disk)
    (falls-put g.St.Store.layout c.args.node more s told clock c.args.pick (c.in-Ok.epoch + 1) x y _ _ (inl refl) d r
    (subst (λ e. PutsTo g.St.Store.layout c.args.node more s told clock c.args.pick (c.in-Ok.epoch + 1) x (Err e) y)
    c.in-Err-Failed.field-0-is (c.in-Err-Failed.ensures.puts so more s told clock c.args.pick some d.number d.its_layout d.epochs r)) refl
    (ap (λ k. k + 1) (c.in-Ok.ensures.epoch so more s told clock c.args.pick o (epochs-fit c.args.pick s d.epochs)))
    (below-last g.St.Store.layout c.args.node more s c.args.pick c.in-Ok.epoch d
    (c.in-Ok.ensures.epoch so more s told clock c.args.pick o (epochs-fit c.args.pick s d.epochs)) c.if-epoch.false))

pub returns-in-Err-Stopped-clause-falls : goal.returns-in-Err-Stopped-clause-falls
returns-in-Err-Stopped-clause-falls g c = λ so more s told clock some d o.
    let x : Seen = g.St.Store.seen c.read_epoch.new.store in
    let y : Seen = g.St.Store.seen c.put_epoch.new.store in
    let r : OpensTo g.St.Store.layout c.args.node more s told clock c.args.pick x = c.in-Ok.ensures.reads so more s told clock c.args.pick o
    in
    fall-as g.St.Store.layout c.args.node more s told clock _ c.fall-in-Err-Stopped.result.1.end _ c.fall-in-Err-Stopped.result.1.note _
    c.fall-in-Err-Stopped.result.1.doubt y.disk.told _ y.disk.counts _ c.fall-in-Err-Stopped.ensures.end
    c.fall-in-Err-Stopped.ensures.note (c.fall-in-Err-Stopped.ensures.doubt so)
    (ap (λ (d : DiskSeen). d.told) c.fall-in-Err-Stopped.ensures.disk) (ap (λ (d : DiskSeen). d.counts) c.fall-in-Err-Stopped.ensures.disk)
    (falls-put g.St.Store.layout c.args.node more s told clock c.args.pick (c.in-Ok.epoch + 1) x y _ _ (inr refl) d r
    (subst (λ e. PutsTo g.St.Store.layout c.args.node more s told clock c.args.pick (c.in-Ok.epoch + 1) x (Err e) y)
    c.in-Err-Stopped.field-0-is (c.in-Err-Stopped.ensures.puts so more s told clock c.args.pick some d.number d.its_layout d.epochs r)) refl
    (ap (λ k. k + 1) (c.in-Ok.ensures.epoch so more s told clock c.args.pick o (epochs-fit c.args.pick s d.epochs)))
    (below-last g.St.Store.layout c.args.node more s c.args.pick c.in-Ok.epoch d
    (c.in-Ok.ensures.epoch so more s told clock c.args.pick o (epochs-fit c.args.pick s d.epochs)) c.if-epoch.false))

-- the device calls
pub returns-in-Err-clause-calls : goal.returns-in-Err-clause-calls
returns-in-Err-clause-calls g c = calls-fell _ _ _ _ _ (ap (λ (d : DiskSeen). d.counts) c.fall.ensures.disk)
    (ap call_of_fall (c.fall.ensures.end ∙ c.end_of.ensures) ∙ fall-call c.in-Err.refusal)
    (calls-refused ℕ c.in-Err.refusal c.in-Err.refusal _ _ refl c.in-Err.ensures.calls)

pub returns-in-Ok-put_epoch-clause-calls : goal.returns-in-Ok-put_epoch-clause-calls
returns-in-Ok-put_epoch-clause-calls g c = calls-then _ _ _ _ c.in-Ok.ensures.calls c.in-Ok-put_epoch.ensures.calls

pub returns-in-Err-Full-clause-calls : goal.returns-in-Err-Full-clause-calls
returns-in-Err-Full-clause-calls g c = calls-fell _ _ _ _ _ (ap (λ (d : DiskSeen). d.counts) c.fall-in-Err-Full.ensures.disk)
    (ap call_of_fall c.fall-in-Err-Full.ensures.end) (calls-then _ _ _ _ c.in-Ok.ensures.calls
    (calls-refused (Unit {0}) _ refusal.Full _ _ c.in-Err-Full.field-0-is c.in-Err-Full.ensures.calls))

pub returns-in-Err-OutOfMemory-clause-calls : goal.returns-in-Err-OutOfMemory-clause-calls
returns-in-Err-OutOfMemory-clause-calls g c = calls-fell _ _ _ _ _ (ap (λ (d : DiskSeen). d.counts) c.fall-in-Err-OutOfMemory.ensures.disk)
    (ap call_of_fall c.fall-in-Err-OutOfMemory.ensures.end) (calls-then _ _ _ _ c.in-Ok.ensures.calls
    (calls-refused (Unit {0}) _ refusal.OutOfMemory _ _ c.in-Err-OutOfMemory.field-0-is c.in-Err-OutOfMemory.ensures.calls))

pub returns-in-Err-Failed-clause-calls : goal.returns-in-Err-Failed-clause-calls
returns-in-Err-Failed-clause-calls g c = calls-fell _ _ _ _ _ (ap (λ (d : DiskSeen). d.counts) c.fall-in-Err-Failed.ensures.disk)
    (ap call_of_fall c.fall-in-Err-Failed.ensures.end) (calls-then _ _ _ _ c.in-Ok.ensures.calls
    (calls-refused (Unit {0}) _ refusal.Failed _ _ c.in-Err-Failed.field-0-is c.in-Err-Failed.ensures.calls))

pub returns-in-Err-Stopped-clause-calls : goal.returns-in-Err-Stopped-clause-calls
returns-in-Err-Stopped-clause-calls g c = calls-fell _ _ _ _ _ (ap (λ (d : DiskSeen). d.counts) c.fall-in-Err-Stopped.ensures.disk)
    (ap call_of_fall c.fall-in-Err-Stopped.ensures.end) (calls-then _ _ _ _ c.in-Ok.ensures.calls
    (calls-refused (Unit {0}) _ refusal.Stopped _ _ c.in-Err-Stopped.field-0-is c.in-Err-Stopped.ensures.calls))

-- what was due
pub returns-in-Err-clause-obeyed : goal.returns-in-Err-clause-obeyed
returns-in-Err-clause-obeyed g c = obeyed-fell _ _ _ _ _ _ _ c.fall.ensures.disk
    (ap call_of_fall (c.fall.ensures.end ∙ c.end_of.ensures) ∙ fall-call c.in-Err.refusal)
    (obeyed-as ℕ _ _ _ _ _ c.in-Err.refusal c.in-Err.refusal refl c.in-Err.ensures.obeyed)

pub returns-in-Err-clause-raises : goal.returns-in-Err-clause-raises
returns-in-Err-clause-raises g c = raises-fell _ _ _ _ _ c.fall.ensures.disk
    (ap call_of_fall (c.fall.ensures.end ∙ c.end_of.ensures) ∙ fall-call c.in-Err.refusal)
    (raises-as ℕ _ _ c.in-Err.refusal c.in-Err.refusal refl c.in-Err.ensures.raises)

pub returns-then-epoch-clause-obeyed : goal.returns-then-epoch-clause-obeyed
returns-then-epoch-clause-obeyed g c = obeyed-fell _ _ _ _ _ _ Fine c.fall-then-epoch.ensures.disk
    (ap call_of_fall c.fall-then-epoch.ensures.end)
    c.in-Ok.ensures.obeyed

pub returns-then-epoch-clause-raises : goal.returns-then-epoch-clause-raises
returns-then-epoch-clause-raises g c = raises-none _ _ _ (ap call_of_fall c.fall-then-epoch.ensures.end)

pub returns-in-Ok-put_epoch-clause-obeyed : goal.returns-in-Ok-put_epoch-clause-obeyed
returns-in-Ok-put_epoch-clause-obeyed g c = obeyed-then _ _ _ _ _ _ _ Fine c.in-Ok.ensures.calls c.in-Ok-put_epoch.ensures.calls
    c.in-Ok.ensures.obeyed
    c.in-Ok-put_epoch.ensures.obeyed

pub returns-in-Err-Full-clause-obeyed : goal.returns-in-Err-Full-clause-obeyed
returns-in-Err-Full-clause-obeyed g c = obeyed-fell _ _ _ _ _ _ (call_of_refusal refusal.Full) c.fall-in-Err-Full.ensures.disk
    (ap call_of_fall c.fall-in-Err-Full.ensures.end) (obeyed-then _ _ _ _ _ _ _ (call_of_refusal refusal.Full) c.in-Ok.ensures.calls
    (calls-refused (Unit {0}) _ refusal.Full _ _ c.in-Err-Full.field-0-is c.in-Err-Full.ensures.calls) c.in-Ok.ensures.obeyed
    (obeyed-as (Unit {0}) _ _ _ _ _ _ refusal.Full c.in-Err-Full.field-0-is c.in-Err-Full.ensures.obeyed))

pub returns-in-Err-Full-clause-raises : goal.returns-in-Err-Full-clause-raises
returns-in-Err-Full-clause-raises g c = raises-none _ _ _ (ap call_of_fall c.fall-in-Err-Full.ensures.end)

pub returns-in-Err-OutOfMemory-clause-obeyed : goal.returns-in-Err-OutOfMemory-clause-obeyed
returns-in-Err-OutOfMemory-clause-obeyed g c = obeyed-fell _ _ _ _ _ _
    (call_of_refusal refusal.OutOfMemory) c.fall-in-Err-OutOfMemory.ensures.disk
    (ap call_of_fall c.fall-in-Err-OutOfMemory.ensures.end) (obeyed-then _ _ _ _ _ _ _
    (call_of_refusal refusal.OutOfMemory) c.in-Ok.ensures.calls
    (calls-refused (Unit {0}) _ refusal.OutOfMemory _ _ c.in-Err-OutOfMemory.field-0-is c.in-Err-OutOfMemory.ensures.calls)
    c.in-Ok.ensures.obeyed
    (obeyed-as (Unit {0}) _ _ _ _ _ _ refusal.OutOfMemory c.in-Err-OutOfMemory.field-0-is c.in-Err-OutOfMemory.ensures.obeyed))

pub returns-in-Err-OutOfMemory-clause-raises : goal.returns-in-Err-OutOfMemory-clause-raises
returns-in-Err-OutOfMemory-clause-raises g c = raises-none _ _ _ (ap call_of_fall c.fall-in-Err-OutOfMemory.ensures.end)

pub returns-in-Err-Failed-clause-obeyed : goal.returns-in-Err-Failed-clause-obeyed
returns-in-Err-Failed-clause-obeyed g c = obeyed-fell _ _ _ _ _ _ (call_of_refusal refusal.Failed) c.fall-in-Err-Failed.ensures.disk
    (ap call_of_fall c.fall-in-Err-Failed.ensures.end) (obeyed-then _ _ _ _ _ _ _ (call_of_refusal refusal.Failed) c.in-Ok.ensures.calls
    (calls-refused (Unit {0}) _ refusal.Failed _ _ c.in-Err-Failed.field-0-is c.in-Err-Failed.ensures.calls) c.in-Ok.ensures.obeyed
    (obeyed-as (Unit {0}) _ _ _ _ _ _ refusal.Failed c.in-Err-Failed.field-0-is c.in-Err-Failed.ensures.obeyed))

pub returns-in-Err-Failed-clause-raises : goal.returns-in-Err-Failed-clause-raises
returns-in-Err-Failed-clause-raises g c = raises-fell _ _ _ _ (call_of_refusal refusal.Failed) c.fall-in-Err-Failed.ensures.disk
    (ap call_of_fall c.fall-in-Err-Failed.ensures.end) (raises-behind _ _ _ (call_of_refusal refusal.Failed) c.in-Ok.ensures.calls
    (raises-as (Unit {0}) _ _ _ refusal.Failed c.in-Err-Failed.field-0-is c.in-Err-Failed.ensures.raises))

pub returns-in-Err-Stopped-clause-obeyed : goal.returns-in-Err-Stopped-clause-obeyed
returns-in-Err-Stopped-clause-obeyed g c = obeyed-fell _ _ _ _ _ _ (call_of_refusal refusal.Stopped) c.fall-in-Err-Stopped.ensures.disk
    (ap call_of_fall c.fall-in-Err-Stopped.ensures.end) (obeyed-then _ _ _ _ _ _ _ (call_of_refusal refusal.Stopped) c.in-Ok.ensures.calls
    (calls-refused (Unit {0}) _ refusal.Stopped _ _ c.in-Err-Stopped.field-0-is c.in-Err-Stopped.ensures.calls) c.in-Ok.ensures.obeyed
    (obeyed-as (Unit {0}) _ _ _ _ _ _ refusal.Stopped c.in-Err-Stopped.field-0-is c.in-Err-Stopped.ensures.obeyed))

pub returns-in-Err-Stopped-clause-raises : goal.returns-in-Err-Stopped-clause-raises
returns-in-Err-Stopped-clause-raises g c = raises-fell _ _ _ _ (call_of_refusal refusal.Stopped) c.fall-in-Err-Stopped.ensures.disk
    (ap call_of_fall c.fall-in-Err-Stopped.ensures.end) (raises-behind _ _ _ (call_of_refusal refusal.Stopped) c.in-Ok.ensures.calls
    (raises-as (Unit {0}) _ _ _ refusal.Stopped c.in-Err-Stopped.field-0-is c.in-Err-Stopped.ensures.raises))
