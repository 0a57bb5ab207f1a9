use Rattle.checkpoint.proofs.Activations.{any-err}
use Rattle.eden_kernel.specs.Stands.{held}
use Rattle.agenda.specs.Indexed.{indices_of}
use Rattle.scheduled_node.proofs.Standing.{scheduled-ends}
use Rattle.scheduled_node.proofs.ScheduledNode.turn.Goals as goal

pub returns-clause-turn : goal.returns-clause-turn
returns-clause-turn g c = λ so law reach s fits reached sound fresh some h.
    let ends = c.in_ok-event.ensures.turn so law reach s fits reached sound fresh some h.node in
    record {
      turn = scheduled-ends g.St.Store.layout c.args.types.now (held g.St.Store.seen c.args.self.now.node)
          (held g.St.Store.seen c.key_turn.new.node) (indices_of c.args.self.now.agenda) (indices_of c.note_behind.new.agenda)
          c.args.calls.now c.in_ok-event.end c.key_turn.new.calls reach s c.in_ok-event.event c.ejects.result.now c.ejects.ensures sound h
          ends.turn c.in_ok-note_behind.ensures;
      key = ends.key;
    }

pub returns-in_err-event-clause-starves : goal.returns-in_err-event-clause-starves
returns-in_err-event-clause-starves g c = λ so law. any-err c.from_residual.result _ (c.key_turn.ensures.starves so law)

pub returns-in_err-note_behind-clause-starves : goal.returns-in_err-note_behind-clause-starves
returns-in_err-note_behind-clause-starves g c = λ so law.
    any-err c.from_residual-in_err-note_behind.result _ (c.key_turn.ensures.starves so law)
