use Rattle.std.proofs.Common.{◌≡◌, None, Err, sym, ap, subst, ◌∙◌}
use Rattle.epl_syntax.specs.Meaning.{started_from, types_in}
use Rattle.journal.specs.Starts.{start_of}
use Rattle.checkpoint.proofs.Activations.{starts-none, starts-rep}
use Rattle.checkpoint.proofs.WholeBoots.{map-ok}
use Rattle.plain_sites.proofs.wakings.begun_from.Goals as goal

pub returns-in-Ok : goal.returns-in-Ok
returns-in-Ok c =
    let types = types_in c.args.types.now in
    let same : c.as_slice.result.now ≡ c.args.bytes.now = c.as_slice.ensures in
    map-ok _ _ c.start_from.result (λ found is. is ∙ sym (subst (λ bytes. start_of types bytes c.args.me
    ≡ started_from types c.in-Ok.rep c.args.me) same
    (starts-rep types _ c.args.me c.in-Ok.rep c.in-Ok.ensures.ok))) c.start_from.ensures

pub returns-in-Err-NotRep : goal.returns-in-Err-NotRep
returns-in-Err-NotRep c =
    let types = types_in c.args.types.now in
    let same : c.as_slice.result.now ≡ c.args.bytes.now = c.as_slice.ensures in
    sym (subst (λ bytes. start_of types bytes c.args.me ≡ None) same (starts-none types _ c.args.me
    (c.in-Err-NotRep.ensures.not_rep c.in-Err-NotRep.field-0-0 (ap (λ e. Err e) c.in-Err-NotRep.field-0-is)).no_spelling))
