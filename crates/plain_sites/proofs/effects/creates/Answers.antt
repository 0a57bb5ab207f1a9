use Rattle.std.proofs.Common.{◌≡◌, ◌∙◌, ap, is_some, sym, true, false}
use Rattle.std.proofs.lemmas.Result.{IfOk-weaker, on_ok_weaker}
use Rattle.std.specs.Option.{option_map}
use Rattle.edentypes.specs.View.{kind_in}
use Rattle.journal.specs.Ejects.{next_uid}
use Rattle.journal.specs.Processes as processes
use Rattle.plain_stores.specs.View.{site_of}
use Rattle.plain_sites.proofs.effects.creates.Goals as goal

pub returns-in-Some-clause-shows : goal.returns-in-Some-clause-shows
returns-in-Some-clause-shows c = IfOk-weaker c.create.result _ _ (λ said told t known. told t) c.create.ensures.shows

pub returns-in-Some-clause-changes : goal.returns-in-Some-clause-changes
returns-in-Some-clause-changes c = on_ok_weaker c.create.result (λ told t e it h new known.
    let s = site_of c.args.types.now t c.args.node.now in
    told t e it h new ∙ ap (λ o. processes.creates c.args.uid c.args.process o (next_uid s) s)
    (sym (ap (option_map (kind_in c.args.types.now)) c.in-Some.is) ∙ c.find.ensures)) c.create.ensures.changes

pub returns-in-None-clause-shows : goal.returns-in-None-clause-shows
returns-in-None-clause-shows c t known = absurd (let bad : false ≡ true =
    ap is_some (sym (ap (option_map (kind_in c.args.types.now)) c.in-None.is) ∙ c.find.ensures) ∙ known in cc bad)

pub returns-in-None-clause-changes : goal.returns-in-None-clause-changes
returns-in-None-clause-changes c t e it h new known = absurd (let bad : false ≡ true =
    ap is_some (sym (ap (option_map (kind_in c.args.types.now)) c.in-None.is) ∙ c.find.ensures) ∙ known in cc bad)
