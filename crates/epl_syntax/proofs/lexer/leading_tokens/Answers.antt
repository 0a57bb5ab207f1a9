use Rattle.std.proofs.Common.{refl, arith}
use Rattle.epl_syntax.proofs.Leading.{leads_more, token_here, ends_inside}
use Rattle.epl_syntax.proofs.lexer.leading_tokens.Goals as goal

pub loop-kind-preserved : goal.loop-kind-preserved
loop-kind-preserved c =
    let h = c.in-Some.ensures in
    let e = ends_inside _ _ _ c.loop-kind.invariant.within h.within in
    record {
      leads = rw c.in_ok-push.ensures.items (leads_more _ _ _ _ _ _ c.loop-kind.invariant.leads e.0 refl (token_here _ _ _ _ h.token)
          (omega arith) c.blanks_end-at-in-Some.ensures);
      within = c.blanks_end-at-in-Some.ensures.within;
    }
