use Rattle.std.proofs.Common.{◌≡◌, ◌+◌, drop, ap, sym, ◌∙◌, get_or}
use Rattle.epl_syntax.specs.Tree.{type_tree}
use Rattle.epl_run.specs.Blocks.{steps_in, own, awaited_at, awaited_before, awaited_from}
use Rattle.epl_run.specs.declared.rest.Branch.TheVariants.{Whole}
use Rattle.epl_run.proofs.Found.{drop_get}
use Rattle.epl_run.proofs.block.last_made.Goals as goal

pub loop-frame-preserved : goal.loop-frame-preserved
loop-frame-preserved c =
    let t = type_tree c.args.program.now in
    let frames = c.args.frames.now in
    let i = c.loop-frame.frame-index in
    let f = get_or frames i (record { entered = 0; branch = Whole; next = 0 }) in
    let block = steps_in c.loop-frame.block in
    let rest = drop (i + 1) frames in
    let last : awaited_at c.before-made.result ≡ awaited_before (own t block f) f.next =
    c.before-made.ensures.awaited ∙ ap (λ b. awaited_before b f.next) c.inner-block.ensures.steps in record {
      so_far =
          ap (λ b. awaited_from t b (awaited_at c.before-made.result) rest) c.inner-block.ensures.steps
          ∙ ap (λ a. awaited_from t (own t block f) a rest) last
          ∙ sym (ap (awaited_from t block (awaited_at c.loop-frame.made)) (drop_get frames i _ c.loop-frame-test.true))
          ∙ c.loop-frame.invariant.so_far;
      each = λ test h. c.inner-block.ensures.each test (c.loop-frame.invariant.each test h);
      made = λ test h. c.before-made.ensures.each test (c.inner-block.ensures.each test (c.loop-frame.invariant.each test h));
    }
