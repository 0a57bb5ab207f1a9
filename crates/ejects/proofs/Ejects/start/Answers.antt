use Rattle.std.proofs.Common.{◌≡◌, ℕ, true, false, Option, None, sym, ◌∙◌, ap}
use Rattle.std.specs.Prelude.{is_some, option_copied}
use Rattle.invocation.specs.Numbers.{item_in}
use Rattle.ejects.specs.Parts.{body_at}
use Rattle.ejects.specs.View.{parts_of}
use Rattle.ejects.proofs.Active.{begin-asked, begin-may, begin-start}
use Rattle.ejects.proofs.Starting.{start-step}
use Rattle.std.specs.FinMap.{get}
use Rattle.ejects.proofs.Ejects.start.Goals as goal

pub returns-clause-steps : goal.returns-clause-steps
returns-clause-steps c reach s sound at =
    start-step reach (parts_of c.args.types.now c.args.self.now) (parts_of c.args.types.now c.begin_at.new.self) c.args.calls.now s
    c.args.uid c.in-Some.call c.in-Some-call.asked.now c.in_ok-started.started sound at
    (sym c.in-Some-call.ensures) (c.in-Some.ensures.starts c.args.types.now) c.in_ok-started.ensures

pub unreachable-requires : goal.unreachable-requires
unreachable-requires c =
    let may = begin-start c.args.calls.now (body_at (parts_of c.args.types.now c.args.self.now) c.args.uid) c.requires in
    let bad : true ≡ false = sym may ∙ c.startable_at.ensures.none c.args.types.now ∙ ap (λ (o : Option ℕ). is_some o) c.in_default.is in
    cc bad

pub unreachable-requires-in_default-call : goal.unreachable-requires-in_default-call
unreachable-requires-in_default-call c =
    let ts = c.args.types.now in
    let asked = begin-asked c.args.calls.now (body_at (parts_of ts c.args.self.now) c.args.uid) c.in-Some.call c.requires
    (c.in-Some.ensures.starts ts) in
    let none : item_in c.in-Some.call c.args.calls.now.calls ≡ None = sym c.call.ensures ∙ ap (λ o. option_copied o) c.in_default-call.is in
    let bad : true ≡ false = sym asked ∙ ap (λ o. is_some o) none in
    cc bad

pub begin_at-requires : goal.begin_at-requires
begin_at-requires c = begin-may c.args.types.now c.args.calls.now (get c.args.self.now.table.standings c.args.uid) c.requires
