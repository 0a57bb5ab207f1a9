use Rattle.std.proofs.Common.{rules, arith}
use Rattle.eden_script.specs.Causes.{IsCause}
use Rattle.eden_script.specs.Flaws.{FirstFails}
use Rattle.eden_script.specs.Parts as parts
use Rattle.eden_script.specs.Parts.{parts_of}
use Rattle.script_words.specs.Lines.{lines_of}
use Rattle.eden_script.specs.View.{seen_of}
use Rattle.eden_script.proofs.PartLaws.{pass_on, line_fails, declaration_fails, unclosed_fails, some_lines}
use Rattle.eden_script.proofs.part.first_part.Goals as goal

pub returns-in-Err : goal.returns-in-Err
returns-in-Err c =
    let seen = seen_of c.args.seen.now in
    let text = c.first_line.result.0.now in
    pass_on (IsCause seen (parts.line text)) (FirstFails seen c.args.bytes.now)
    (line_fails seen c.args.bytes.now text c.first_line.result.1.now c.first_line.ensures.line (search rules)) c.in-Err.flaw
    c.in-Err.ensures

pub returns-in-Err-edentype : goal.returns-in-Err-edentype
returns-in-Err-edentype c =
    let seen = seen_of c.args.seen.now in
    let text = c.in-Some.text.now in
    pass_on (IsCause seen (parts.declaration text)) (FirstFails seen c.args.bytes.now)
    (declaration_fails seen c.args.bytes.now text (parts_of (lines_of c.in-Some.behind.now)) c.in-Some.ensures.0
    (let short = c.in-Some.ensures.2 in omega (arith, short)))
    c.in-Err-edentype.flaw c.in-Err-edentype.ensures

pub returns-in-Err-unclosed : goal.returns-in-Err-unclosed
returns-in-Err-unclosed c =
    let seen = seen_of c.args.seen.now in
    let text = c.args.bytes.now in
    pass_on (IsCause seen (parts.unclosed (lines_of text))) (FirstFails seen text)
    (unclosed_fails seen text _ c.in-None.ensures) c.in-Err-unclosed.flaw c.in-Err-unclosed.ensures

pub returns-in-Ok-edentype : goal.returns-in-Ok-edentype
returns-in-Ok-edentype c =
    let found = c.in-Some.ensures in
    let count = c.count_lines.ensures.count in (
      parts.declaration c.in-Some.text.now,
      found.0,
      c.in-Ok-edentype.ensures,
      count,
      omega (arith, count, some_lines c.in-Some.text.now (omega (arith, found.1))),
      omega (arith, c.count_lines.ensures.few, found.2),
    )
