use Rattle.std.proofs.Common.{arith, rules, refl}
use Rattle.eden_script.proofs.Cutting.{behind_short, cut_first, cut_step, cut_end, cut_found}
use Rattle.script_words.proofs.Cutting.{no_bytes}
use Rattle.mistakes.proofs.cut.declaration.Goals as goal

pub loop-rest-init : goal.loop-rest-init
loop-rest-init c = record {
  cut = cut_first c.args.bytes.now c.args.first.now c.args.behind.now c.requires.first c.requires.line c.requires.begins;
  short = behind_short c.args.bytes.now c.args.first.now c.args.behind.now c.requires.first;
}

pub returns-then-ends_edentype : goal.returns-then-ends_edentype
returns-then-ends_edentype c =
    let found =
    cut_found c.args.bytes.now c.loop-rest.rest.now c.first_line.result.0.now c.first_line.result.1.now _ c.loop-rest.invariant.cut
    (search rules) c.first_line.ensures.first c.first_line.ensures.line (search rules) refl in
    (found.parts, found.long, found.short)

pub loop-rest-preserved : goal.loop-rest-preserved
loop-rest-preserved c = record {
  cut =
      cut_step c.args.bytes.now c.loop-rest.rest.now c.first_line.result.0.now c.first_line.result.1.now c.loop-rest.invariant.cut
      (search rules) c.first_line.ensures.first c.first_line.ensures.line (search rules);
  short = (let shorter = c.first_line.ensures.shorter in let before = c.loop-rest.invariant.short in omega (arith, shorter, before));
}

pub returns : goal.returns
returns c = cut_end c.args.bytes.now c.loop-rest.rest.now c.loop-rest.invariant.cut (no_bytes c.loop-rest.rest.now (search rules))
