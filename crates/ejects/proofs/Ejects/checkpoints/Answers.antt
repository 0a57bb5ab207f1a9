use Rattle.std.proofs.Common.{◌∙◌, sym, ap, subst}
use Rattle.eden_value.specs.declared.status.Status.TheVariants as status
use Rattle.eden_codec.specs.Spelling.{spelling}
use Rattle.eden_model.specs.Crew.{Runs, outside, set_waits}
use Rattle.epl_syntax.specs.declared.effect.Answer.TheVariants.{Code}
use Rattle.epl_syntax.specs.Meaning.{rep_of}
use Rattle.active_part.specs.Body.{Body}
use Rattle.active_part.specs.Bodies.{told_body, crewed_body}
use Rattle.active_part.specs.View.{IsEncoded}
use Rattle.ejects.proofs.Askings.{within-limit, past-limit}
use Rattle.ejects.specs.View.{part_at, parts_of, with_body}
use Rattle.ejects.proofs.Active.{may-active}
use Rattle.ejects.proofs.Ejects.checkpoints.Goals as goal

pub returns-in_ok-ask_put-in-Some-clause-parts : goal.returns-in_ok-ask_put-in-Some-clause-parts
returns-in_ok-ask_put-in-Some-clause-parts c b is =
    let p = c.args.process in
    let bytes = spelling (rep_of b.kind b.vars) in
    let encoded = subst (IsEncoded bytes) c.in-Some.is (c.in_ok-body.ensures.bytes b is) in
    c.block_at.ensures c.args.types.now b is
    ∙ ap (λ y. with_body c.args.uid y (parts_of c.args.types.now c.args.self.now))
    (sym (within-limit bytes Body (crewed_body (set_waits p outside) b) (told_body p (Code status.TooLarge) b) encoded.1))

pub returns-in-None-clause-parts : goal.returns-in-None-clause-parts
returns-in-None-clause-parts c b is =
    let p = c.args.process in
    let bytes = spelling (rep_of b.kind b.vars) in
    let encoded = subst (IsEncoded bytes) c.in-None.is (c.in_ok-body.ensures.bytes b is) in
    c.answer_at.ensures c.args.types.now b is
    ∙ ap (λ y. with_body c.args.uid y (parts_of c.args.types.now c.args.self.now))
    (sym (past-limit bytes Body (crewed_body (set_waits p outside) b) (told_body p (Code status.TooLarge) b) encoded))

pub encoded_at-requires : goal.encoded_at-requires
encoded_at-requires c = may-active (λ crew queued. Runs crew c.args.process) (part_at c.args.self.now c.args.uid) c.requires
