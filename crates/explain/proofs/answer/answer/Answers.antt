use Rattle.std.proofs.Common.{rules}
use Rattle.explain.proofs.Endings.{told}
use Rattle.explain.proofs.answer.answer.Goals as goal

pub returns-in_ok-text-in-Some : goal.returns-in_ok-text-in-Some
returns-in_ok-text-in-Some c =
    told c.args.bytes.now c.in_ok-first_mistake.field-0 c.in-Some.mistake c.in_ok-text-in-Some.text.items (search rules)
    c.in_ok-first_mistake.ensures c.in_ok-text-in-Some.ensures
