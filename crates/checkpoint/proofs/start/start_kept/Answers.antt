use Rattle.std.proofs.Common.{◌≡◌, None, Err, sym, ap, subst, ◌∙◌}
use Rattle.epl_syntax.specs.Meaning.{started_from}
use Rattle.journal.specs.Starts.{start_of}
use Rattle.checkpoint.proofs.Activations.{starts-rep, starts-none}
use Rattle.checkpoint.proofs.WholeBoots.{map-ok}
use Rattle.checkpoint.proofs.start.start_kept.Goals as goal

pub returns-in-Ok : goal.returns-in-Ok
returns-in-Ok g c = λ short.
    let same : c.as_slice.result.now ≡ c.args.body = c.as_slice.ensures in
    map-ok _ _ c.start.result (λ found is. is ∙ sym (subst (λ bytes. start_of (g.T.Starter.types c.args.types.now) bytes c.args.me
    ≡ started_from (g.T.Starter.types c.args.types.now) c.in-Ok.rep c.args.me) same
    (starts-rep (g.T.Starter.types c.args.types.now) _ c.args.me c.in-Ok.rep c.in-Ok.ensures.ok))) c.start.ensures

pub returns-in-Err-NotRep : goal.returns-in-Err-NotRep
returns-in-Err-NotRep g c = λ short.
    let same : c.as_slice.result.now ≡ c.args.body = c.as_slice.ensures in
    sym (subst (λ bytes. start_of (g.T.Starter.types c.args.types.now) bytes c.args.me ≡ None) same
    (starts-none (g.T.Starter.types c.args.types.now) _ c.args.me
    (c.in-Err-NotRep.ensures.not_rep c.in-Err-NotRep.field-0-0 (ap (λ e. Err e) c.in-Err-NotRep.field-0-is)).no_spelling))
