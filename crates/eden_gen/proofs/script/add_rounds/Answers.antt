use Rattle.std.proofs.Common.{◌≡◌, ℕ, ◌+◌, ◌++◌, refl, ap, sym, subst, ◌∙◌, arith}
use Rattle.eden_gen.specs.Generated.{round_text, rounds_text, random, draws_in}
use Rattle.eden_gen.proofs.Rounds.{rounds_none, rounds_more, random_more}
use Rattle.eden_gen.proofs.script.add_rounds.Goals as goal

pub loop-behind-init : goal.loop-behind-init
loop-behind-init c = record { text = sym (rounds_none c.args.out.now.items c.args.seed); short = omega arith; draws = refl }

pub loop-behind-preserved : goal.loop-behind-preserved
loop-behind-preserved c =
    let at = c.loop-behind.behind in
    let x = c.loop-behind.draws.random in
    record {
      text = c.in_ok-add_round.ensures.text ∙ ap (λ l. l ++ round_text x 0 (at + 1)) c.loop-behind.invariant.text
          ∙ rounds_more c.args.out.now.items c.args.seed at x c.loop-behind.invariant.draws;
      short = omega (arith, c.in_ok-add_round.ensures.short, c.loop-behind.invariant.short);
      draws = c.in_ok-add_round.ensures.draws ∙ ap (λ (y : ℕ). random y (draws_in y 0)) c.loop-behind.invariant.draws
          ∙ random_more c.args.seed at;
    }

pub returns-clause-text : goal.returns-clause-text
returns-clause-text c =
    let all : c.loop-behind.behind ≡ c.args.rounds = omega arith in
    subst (λ n. c.loop-behind.out.items ≡ c.args.out.now.items ++ rounds_text c.args.seed n) all c.loop-behind.invariant.text
