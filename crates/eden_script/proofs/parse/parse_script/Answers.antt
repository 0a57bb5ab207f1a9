use Rattle.std.proofs.Common.{rules, arith, map, refl}
use Rattle.eden_script.specs.Meaning.{written_command}
use Rattle.script_words.specs.Lines.{lines_of}
use Rattle.eden_script.specs.View.{seen_of, line_of}
use Rattle.script_words.proofs.Cutting.{no_bytes}
use Rattle.eden_script.proofs.FitScripts.{script_fits, fit_writes_none}
use Rattle.eden_script.proofs.KeptRules.{keeps_rules}
use Rattle.eden_script.proofs.Run.{run_step, run_bad, run_no_end, run_end}
use Rattle.eden_script.proofs.parse.parse_script.Goals as goal

pub returns-in-Err-At-clause-bad : goal.returns-in-Err-At-clause-bad
returns-in-Err-At-clause-bad c =
    run_bad c.args.bytes.now c.loop-rest.rest.now (map written_command c.loop-rest.commands.items) (seen_of c.loop-rest.seen)
    c.loop-rest.lines _ _
    c.loop-rest.invariant.run (search rules)

pub loop-rest-preserved : goal.loop-rest-preserved
loop-rest-preserved c =
    let first = c.in-Ok.ensures in
    let counted = c.loop-rest.invariant.counted in
    record {
      run =
          run_step c.args.bytes.now c.loop-rest.rest.now c.in-Ok.found.2.now (map written_command c.loop-rest.commands.items)
          (seen_of c.loop-rest.seen) c.loop-rest.lines c.in-Ok.found.1 (line_of c.in-Ok.found.0)
          (map written_command c.follow.new.commands.items)
          (seen_of c.follow.new.seen) c.loop-rest.invariant.run first c.in_ok-follow.ensures.commands c.in_ok-follow.ensures.seen;
      counted = omega (arith, first.5, counted);
      room = c.in_ok-follow.ensures.counted;
    }

pub returns-then-not-seen-clause-bad : goal.returns-then-not-seen-clause-bad
returns-then-not-seen-clause-bad c =
    run_no_end c.args.bytes.now c.loop-rest.rest.now (map written_command c.loop-rest.commands.items) (seen_of c.loop-rest.seen)
    c.loop-rest.lines
    c.loop-rest.invariant.run (no_bytes c.loop-rest.rest.now (search rules)) (search rules)

pub returns-clause-script : goal.returns-clause-script
returns-clause-script c =
    run_end c.args.bytes.now c.loop-rest.rest.now (map written_command c.loop-rest.commands.items) (seen_of c.loop-rest.seen)
    c.loop-rest.lines _
    c.loop-rest.invariant.run (no_bytes c.loop-rest.rest.now (search rules)) (search rules) refl refl refl

pub returns-clause-bare : goal.returns-clause-bare
returns-clause-bare c =
    fit_writes_none _
    (script_fits c.types_are_named.ensures.named c.conditions_are_in_monitors.ensures.inside c.constants_are_values.ensures.values
    c.args.bytes.now _
    (run_end c.args.bytes.now c.loop-rest.rest.now (map written_command c.loop-rest.commands.items)
    (seen_of c.loop-rest.seen) c.loop-rest.lines _ c.loop-rest.invariant.run (no_bytes c.loop-rest.rest.now (search rules))
    (search rules) refl refl refl))

pub follow-requires-clause-rules : goal.follow-requires-clause-rules
follow-requires-clause-rules c =
    let first = c.in-Ok.ensures in
    keeps_rules c.types_are_named.ensures.named c.loop-rest.seen (lines_of c.loop-rest.rest.now) first.0 _ c.in-Ok.found.0 first.1 first.2
