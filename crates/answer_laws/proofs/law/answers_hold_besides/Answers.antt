use Rattle.std.proofs.Common.{refl, arith, true}
use Rattle.journal.specs.Opening.{most_changes}
use Rattle.passive_blocks.specs.BlockLayout.{block_layout}
use Rattle.eden_world.specs.Legal.{disk_runs}
use Rattle.eden_shell.specs.Blank.{sim_seen}
use Rattle.eden_shell.proofs.Blank.{blank_in_memory}
use Rattle.eden_shell.proofs.Carrying.{handed-nodes}
use Rattle.answer_laws.specs.Answers.{call_over}
use Rattle.answer_laws.proofs.Besides.{besides, eight-runs}
use Rattle.answer_laws.proofs.law.answers_hold_besides.Goals as goal

pub returns-clause-handed_in : goal.returns-clause-handed_in
returns-clause-handed_in c = λ call outcome history more blocks eight telling handed answers. besides c.legal_runs_hold_besides.ensures.whole
    c.legal_runs_hold_besides.ensures.so_far call history blocks eight telling handed outcome more answers

pub returns-clause-blank : goal.returns-clause-blank
returns-clause-blank c = λ words source sink before after outcome history more some given blank answers.
    besides c.legal_runs_hold_besides.ensures.whole c.legal_runs_hold_besides.ensures.so_far
    (call_over words source sink before after) history refl (eight-runs before after some given) refl
    (λ job script asked. handed-nodes block_layout script (disk_runs true sim_seen before after)
    (blank_in_memory before after most_changes (omega arith) blank)) outcome more answers
