use Rattle.std.proofs.Common.{◌≡◌, ◌++◌, ◌∷◌, [], true, false, take, get_or, sym, ◌∙◌, ap, append-nil}
use Rattle.std.specs.List.{filter}
use Rattle.invocation.specs.Numbers.{passes_at}
use Rattle.invocation.specs.Causes.{is_broken}
use Rattle.invocation.proofs.Closed.{pass-is, more-found}
use Rattle.invocation.proofs.closing.broken_numbers.Goals as goal
use Rattle.invocation.proofs.closing.broken_numbers.Goals.{then-is_breaking+in_ok-push, else-is_breaking}

pub loop-i-preserved : goal.loop-i-preserved
loop-i-preserved c =
    let ks = c.args.index.now in
    let t = passes_at (is_broken c.args.cause) c.args.calls.now in
    let g = c.requires c.loop-i.i 0 c.loop-i-test.true in
    let is : t (get_or ks c.loop-i.i 0) ≡ is_broken c.args.cause c.index-calls-number.result =
    pass-is (is_broken c.args.cause) c.args.calls.now (get_or ks c.loop-i.i 0) c.index-calls-number.result g.0 g.1
    c.index-calls-number.is in
    elim c.if-is_breaking.branch [
      | then-is_breaking+in_ok-push w ↦
          ap (λ v. v.items) w.broken-is ∙ w.in_ok-push.ensures.items ∙ ap (λ l. l ++ get_or ks c.loop-i.i 0 ∷ []) c.loop-i.invariant
          ∙ sym (more-found t ks c.loop-i.i true c.loop-i-test.true (is ∙ sym w.if-is_breaking.ensures))
      | else-is_breaking w ↦
          ap (λ v. v.items) w.broken-is ∙ c.loop-i.invariant
          ∙ sym (more-found t ks c.loop-i.i false c.loop-i-test.true (is ∙ sym w.if-is_breaking.ensures)
          ∙ append-nil (filter t (take c.loop-i.i ks)))
    ]
