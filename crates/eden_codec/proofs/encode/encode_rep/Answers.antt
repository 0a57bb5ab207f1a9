use Rattle.std.proofs.Common.{◌≡◌, ◌++◌, ap, sym, ◌∙◌, subst}
use Rattle.eden_codec.specs.Spells.{SpellsRep}
use Rattle.eden_codec.specs.Spelling.{spelling}
use Rattle.eden_codec.proofs.OneSpelling.{spelled}
use Rattle.eden_codec.proofs.encode.encode_rep.Goals as goal

pub returns-clause-ok : goal.returns-clause-ok
returns-clause-ok c =
    let e : c.add_rep.new.out.items ≡ spelling c.args.rep.now = c.in_ok-add_rep.ensures.spelled ∙ ap
    (λ l. l ++ spelling c.args.rep.now) c.in_ok-bytes.ensures.items in
    λ is_rep. subst (λ l. SpellsRep l c.args.rep.now) (sym e) (spelled c.args.rep.now is_rep c.in_ok-add_rep.ensures.range)
