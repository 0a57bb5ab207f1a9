use Rattle.std.proofs.Common.{rules, sym, subst, arith, List, ℕ}
use Rattle.line_forms.specs.Tests.{at_first}
use Rattle.line_forms.specs.View.{kind_of, line_of, seen_of}
use Rattle.line_forms.proofs.Run.{run_bad, run_no_end, run_end}
use Rattle.line_forms.proofs.Spots.{HasRead, read_first, read_step}
use Rattle.script_words.proofs.Cutting.{no_bytes}
use Rattle.line_forms.proofs.script.read_rows.Goals as goal

pub loop-rest-init : goal.loop-rest-init
loop-rest-init c = record {
  read =
      subst (λ (spots : List ℕ). HasRead (kind_of c.args.kind.now) c.args.bytes.now c.args.bytes.now spots at_first 0)
      (sym c.new-spots.ensures.items) (read_first (kind_of c.args.kind.now) c.args.bytes.now);
  counted = omega arith;
}

pub loop-rest-preserved : goal.loop-rest-preserved
loop-rest-preserved c = record {
  read =
      read_step (kind_of c.args.kind.now) c.args.bytes.now c.loop-rest.rest.now c.first_line.result.0.now c.first_line.result.1.now
      c.loop-rest.spots.items (seen_of c.loop-rest.seen) c.loop-rest.lines _ (line_of c.in-Ok.line)
      c.keep.new.spots.items (seen_of c.after-seen.result) c.loop-rest.invariant.read c.first_line.ensures.line c.first_line.ensures.first
      (search rules) (search rules) c.in_ok-keep.ensures c.after-seen.ensures;
  counted = omega (arith, c.first_line.ensures.shorter, c.loop-rest.invariant.counted);
}

pub returns-in-Err-Bad-clause-bad : goal.returns-in-Err-Bad-clause-bad
returns-in-Err-Bad-clause-bad c =
    let h = c.loop-rest.invariant.read in
    run_bad (kind_of c.args.kind.now) c.args.bytes.now c.loop-rest.rest.now c.first_line.result.0.now c.first_line.result.1.now
    h.rows (seen_of c.loop-rest.seen) c.loop-rest.lines _ h.run c.first_line.ensures.line (search rules)

pub returns-then-not-seen-clause-bad : goal.returns-then-not-seen-clause-bad
returns-then-not-seen-clause-bad c =
    let h = c.loop-rest.invariant.read in
    run_no_end (kind_of c.args.kind.now) c.args.bytes.now c.loop-rest.rest.now h.rows (seen_of c.loop-rest.seen) c.loop-rest.lines h.run
    (no_bytes c.loop-rest.rest.now (search rules)) (search rules)

pub returns-clause-script : goal.returns-clause-script
returns-clause-script c =
    let h = c.loop-rest.invariant.read in (
      h.rows,
      run_end (kind_of c.args.kind.now) c.args.bytes.now c.loop-rest.rest.now h.rows (seen_of c.loop-rest.seen) c.loop-rest.lines _ h.run
          (no_bytes c.loop-rest.rest.now (search rules)) (search rules) (search rules),
      h.at,
    )
