use Rattle.eden_move.specs.Records.{seen_record}
use Rattle.eden_move.proofs.Recorded.{spells-both}
use Rattle.std.proofs.Common.{ap}
use Rattle.std.proofs.lemmas.Result.{IfOk-weaker}
use Rattle.std.proofs.Common.{◌∙◌}
use Rattle.eden_codec.specs.Spelling.{spelling}
use Rattle.eden_move.proofs.record.bytes_of.Goals as goal

pub returns-in-Ok-clause-spells : goal.returns-in-Ok-clause-spells
returns-in-Ok-clause-spells c fits = spells-both c.encode_rep.result (seen_record c.args.record.now) c.in-Ok.rep c.in-Ok.ensures fits
    c.encode_rep.ensures.ok c.encode_rep.ensures.within_limit

pub returns-in-Ok-clause-bytes : goal.returns-in-Ok-clause-bytes
returns-in-Ok-clause-bytes c = IfOk-weaker c.encode_rep.result _ _ (λ body e. e ∙ ap spelling c.in-Ok.ensures) c.encode_rep.ensures.spelled
