use Rattle.std.proofs.Common.{subst, sym, List, ℕ, length, ◌≤◌}
use Rattle.eden_script.specs.Script.{IsScript}
use Rattle.shell_answers.proofs.FewEntries.{few-entries}
use Rattle.shell_answers.proofs.reading.read_history.Goals as goal

pub returns-in-Ok-clause-few : goal.returns-in-Ok-clause-few
returns-in-Ok-clause-few g c =
    let spells : IsScript c.deref.result.now c.in-Ok.script = c.in-Ok.ensures.script in
    few-entries c.deref.result.now c.in-Ok.script spells (c.a_script_is_fit.ensures.fit c.deref.result.now c.in-Ok.script spells)
    (subst (λ (l : List ℕ). length l ≤ 1048576) (sym c.deref.ensures.value) c.in_ok-bytes.ensures.few)
