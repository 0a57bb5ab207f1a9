use Rattle.std.proofs.Common.{ℕ, sym, ap, ◌∙◌}
use Rattle.std.specs.declared.ops.ControlFlow.{ControlFlow}
use Rattle.journal.specs.declared.event.Key.{Key}
use Rattle.ejects.specs.View.{parts_of}
use Rattle.agenda.specs.Indexed.{indices_of, store_key}
use Rattle.agenda.specs.Keys.{start_keys, run_keys}
use Rattle.agenda.proofs.AtPlaces.{then_at}
use Rattle.agenda.proofs.Whole.{four-places}
use Rattle.agenda.proofs.Agenda.key_at.Goals as goal

pub returns-in_err-left : goal.returns-in_err-left
returns-in_err-left c = λ ts s sound h is works waits.
    let n = parts_of ts c.args.ejects.now in
    let a = indices_of c.args.self.now in
    let t = start_keys c.number-station.result a.start in
    let r = run_keys n a.run in
    let k = store_key c.number-station.result c.args.pending in
    c.from_residual.ensures
    ∙ ap (λ (x : ControlFlow Key ℕ). then_at k (then_at r (then_at t x))) (sym c.in_err-left.was ∙ c.wake_at.ensures)
    ∙ four-places n a s sound h is c.args.worked c.args.pending works waits c.number-station.result c.number-station.ensures.value
    c.args.place

pub returns-in_err-left-2 : goal.returns-in_err-left-2
returns-in_err-left-2 c = λ ts s sound h is works waits.
    let n = parts_of ts c.args.ejects.now in
    let a = indices_of c.args.self.now in
    let t = start_keys c.number-station.result a.start in
    let r = run_keys n a.run in
    let k = store_key c.number-station.result c.args.pending in
    c.from_residual-in_err-left-2.ensures
    ∙ ap (λ (x : ControlFlow Key ℕ). then_at k (then_at r x)) (sym c.in_err-left-2.was ∙ c.start_at.ensures)
    ∙ ap (λ (x : ControlFlow Key ℕ). then_at k (then_at r (then_at t x))) (sym c.in_ok-left.was ∙ c.wake_at.ensures)
    ∙ four-places n a s sound h is c.args.worked c.args.pending works waits c.number-station.result c.number-station.ensures.value
    c.args.place

pub returns-in_err-left-3 : goal.returns-in_err-left-3
returns-in_err-left-3 c = λ ts s sound h is works waits.
    let n = parts_of ts c.args.ejects.now in
    let a = indices_of c.args.self.now in
    let t = start_keys c.number-station.result a.start in
    let r = run_keys n a.run in
    let k = store_key c.number-station.result c.args.pending in
    c.from_residual-in_err-left-3.ensures
    ∙ ap (then_at k) (sym c.in_err-left-3.was ∙ c.run_at.ensures ts)
    ∙ ap (λ (x : ControlFlow Key ℕ). then_at k (then_at r x)) (sym c.in_ok-left-2.was ∙ c.start_at.ensures)
    ∙ ap (λ (x : ControlFlow Key ℕ). then_at k (then_at r (then_at t x))) (sym c.in_ok-left.was ∙ c.wake_at.ensures)
    ∙ four-places n a s sound h is c.args.worked c.args.pending works waits c.number-station.result c.number-station.ensures.value
    c.args.place

pub returns : goal.returns
returns c = λ ts s sound h is works waits.
    let n = parts_of ts c.args.ejects.now in
    let a = indices_of c.args.self.now in
    let t = start_keys c.number-station.result a.start in
    let r = run_keys n a.run in
    let k = store_key c.number-station.result c.args.pending in
    c.store_at.ensures
    ∙ ap (then_at k) (sym c.in_ok-left-3.was ∙ c.run_at.ensures ts)
    ∙ ap (λ (x : ControlFlow Key ℕ). then_at k (then_at r x)) (sym c.in_ok-left-2.was ∙ c.start_at.ensures)
    ∙ ap (λ (x : ControlFlow Key ℕ). then_at k (then_at r (then_at t x))) (sym c.in_ok-left.was ∙ c.wake_at.ensures)
    ∙ four-places n a s sound h is c.args.worked c.args.pending works waits c.number-station.result c.number-station.ensures.value
    c.args.place
