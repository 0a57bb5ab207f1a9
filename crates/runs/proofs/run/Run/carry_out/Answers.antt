use Rattle.std.proofs.Common.{◌≡◌, subst, sym, ◌∙◌}
use Rattle.std.specs.Prelude.{Result, Ok, Err, OnOk, OnErr}
use Rattle.runs.specs.Machines.{IsLeft}
use Rattle.runs.specs.Runs.{TakesCommand, CommandFails, CarriesCommand, PartOfCommand, KeepsShownSoFar}
use Rattle.runs.proofs.Leading.{shown-left}
use Rattle.runs.proofs.Going.{go-command, go-part, turn-command, turn-part}
use Rattle.runs.proofs.Carrying.{carries-single, fails-single}
use Rattle.runs.specs.Room.{entries_of}
use Rattle.runs.specs.Runs.{HasNumbers, SparesNumbers}
use Rattle.runs.proofs.Asked.{single-one}
use Rattle.runs.proofs.run.Run.carry_out.Goals as goal

pub returns-then-is_single-clause-done : goal.returns-then-is_single-clause-done
returns-then-is_single-clause-done g c = go c.command.result c.command.ensures.done
  where
    go : {T E : Type 0} (r : Result T E) → OnOk r (TakesCommand g.M.Machine.stands g.M.Machine.did c.args.self.now c.command.new.self
        c.args.command.now)
        → OnOk r (CarriesCommand g.M.Machine.stands g.M.Machine.did c.args.self.now c.command.new.self c.args.command.now)
    go (Ok x) takes = carries-single g.M.Machine.stands g.M.Machine.did c.args.self.now c.command.new.self c.args.command.now
        (sym c.is_single.ensures ∙ c.if-is_single.true) takes
    go (Err x) none = none

pub returns-then-is_single-clause-part : goal.returns-then-is_single-clause-part
returns-then-is_single-clause-part g c = go c.command.result c.command.ensures.fails c.command.ensures.history
  where
    go : {T E : Type 0} (r : Result T E) → OnErr r (CommandFails g.M.Machine.stands g.M.Machine.did g.M.Machine.starved c.args.self.now
        c.command.new.self c.args.command.now)
        → OnErr r (c.command.new.self.history.items ≡ c.args.self.now.history.items)
        → OnErr r (PartOfCommand g.M.Machine.stands g.M.Machine.did g.M.Machine.starved c.args.self.now c.command.new.self
        c.args.command.now)
    go (Ok x) none same = none
    go (Err x) fails same = fails-single g.M.Machine.stands g.M.Machine.did c.args.self.now c.command.new.self c.args.command.now
        (sym c.is_single.ensures ∙ c.if-is_single.true) g.M.Machine.starved fails same

pub returns-then-is_single-clause-shown_part : goal.returns-then-is_single-clause-shown_part
returns-then-is_single-clause-shown_part g c = go c.command.result c.command.ensures.history c.command.ensures.left
  where
    go : {T E : Type 0} (r : Result T E) → OnErr r (c.command.new.self.history.items ≡ c.args.self.now.history.items)
        → OnErr r (IsLeft g.M.Machine.whole g.M.Machine.leaves c.args.self.now.machine c.command.new.self.machine)
        → OnErr r (KeepsShownSoFar g.M.Machine.shows g.M.Machine.whole g.M.Machine.leaves c.args.self.now c.command.new.self)
    go (Ok x) none left = none
    go (Err x) same left = shown-left g.M.Machine.shows g.M.Machine.whole g.M.Machine.leaves c.args.self.now c.command.new.self same left

pub returns-in-Go-clause-done : goal.returns-in-Go-clause-done
returns-in-Go-clause-done g c = subst (λ x. OnOk c.go.result
    (CarriesCommand g.M.Machine.stands g.M.Machine.did c.args.self.now c.go.new.self x)) (sym c.in-Go.is)
    (go-command g.M.Machine.stands g.M.Machine.did c.args.self.now c.go.new.self c.in-Go.n c.go.result c.go.ensures.done)

pub returns-in-Go-clause-part : goal.returns-in-Go-clause-part
returns-in-Go-clause-part g c = subst (λ x. OnErr c.go.result
    (PartOfCommand g.M.Machine.stands g.M.Machine.did g.M.Machine.starved c.args.self.now c.go.new.self x)) (sym c.in-Go.is)
    (go-part g.M.Machine.stands g.M.Machine.did g.M.Machine.starved c.args.self.now c.go.new.self c.in-Go.n c.go.result c.go.ensures.part)

pub returns-in-Turn-clause-done : goal.returns-in-Turn-clause-done
returns-in-Turn-clause-done g c = subst (λ x. OnOk c.turn.result
    (CarriesCommand g.M.Machine.stands g.M.Machine.did c.args.self.now c.turn.new.self x)) (sym c.in-Turn.is)
    (turn-command g.M.Machine.stands g.M.Machine.did c.args.self.now c.turn.new.self c.in-Turn.i c.turn.result c.turn.ensures.done)

pub returns-in-Turn-clause-part : goal.returns-in-Turn-clause-part
returns-in-Turn-clause-part g c = subst (λ x. OnErr c.turn.result
    (PartOfCommand g.M.Machine.stands g.M.Machine.did g.M.Machine.starved c.args.self.now c.turn.new.self x)) (sym c.in-Turn.is)
    (turn-part g.M.Machine.stands g.M.Machine.did g.M.Machine.starved c.args.self.now c.turn.new.self c.in-Turn.i c.turn.result
    c.turn.ensures.part)

pub returns-in-Walk-clause-done : goal.returns-in-Walk-clause-done
returns-in-Walk-clause-done g c = subst (λ x. OnOk c.walk.result
    (CarriesCommand g.M.Machine.stands g.M.Machine.did c.args.self.now c.walk.new.self x)) (sym c.in-Walk.is) c.walk.ensures.done

pub returns-in-Walk-clause-part : goal.returns-in-Walk-clause-part
returns-in-Walk-clause-part g c = subst (λ x. OnErr c.walk.result
    (PartOfCommand g.M.Machine.stands g.M.Machine.did g.M.Machine.starved c.args.self.now c.walk.new.self x))
    (sym c.in-Walk.is) c.walk.ensures.part

pub command-requires-clause-calls : goal.command-requires-clause-calls
command-requires-clause-calls g c = subst (HasNumbers g.M.Machine.asked c.args.self.now)
    (single-one c.args.command.now (sym c.is_single.ensures ∙ c.if-is_single.true)) c.requires.calls

pub returns-then-is_single-clause-asks : goal.returns-then-is_single-clause-asks
returns-then-is_single-clause-asks g c = subst (λ k. OnOk c.command.result (SparesNumbers g.M.Machine.asked c.args.self.now k
    c.command.new.self 0)) (sym (single-one c.args.command.now (sym c.is_single.ensures ∙ c.if-is_single.true))) c.command.ensures.asks

pub go-requires-clause-calls : goal.go-requires-clause-calls
go-requires-clause-calls g c = subst (λ x. HasNumbers g.M.Machine.asked c.args.self.now (entries_of x)) c.in-Go.is c.requires.calls

pub returns-in-Go-clause-asks : goal.returns-in-Go-clause-asks
returns-in-Go-clause-asks g c = subst (λ x. OnOk c.go.result (SparesNumbers g.M.Machine.asked c.args.self.now (entries_of x)
    c.go.new.self 0)) (sym c.in-Go.is) c.go.ensures.asks

pub turn-requires-clause-calls : goal.turn-requires-clause-calls
turn-requires-clause-calls g c = subst (λ x. HasNumbers g.M.Machine.asked c.args.self.now (entries_of x)) c.in-Turn.is c.requires.calls

pub returns-in-Turn-clause-asks : goal.returns-in-Turn-clause-asks
returns-in-Turn-clause-asks g c = subst (λ x. OnOk c.turn.result (SparesNumbers g.M.Machine.asked c.args.self.now (entries_of x)
    c.turn.new.self 0)) (sym c.in-Turn.is) c.turn.ensures.asks

pub walk-requires-clause-calls : goal.walk-requires-clause-calls
walk-requires-clause-calls g c = subst (λ x. HasNumbers g.M.Machine.asked c.args.self.now (entries_of x)) c.in-Walk.is c.requires.calls

pub returns-in-Walk-clause-asks : goal.returns-in-Walk-clause-asks
returns-in-Walk-clause-asks g c = subst (λ x. OnOk c.walk.result (SparesNumbers g.M.Machine.asked c.args.self.now (entries_of x)
    c.walk.new.self 0)) (sym c.in-Walk.is) c.walk.ensures.asks
