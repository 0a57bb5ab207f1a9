use Rattle.std.proofs.Common.{subst}
use Rattle.eden_codec.specs.Spelling.{spelling}
use Rattle.epl_syntax.specs.Meaning.{rep_of}
use Rattle.active_part.specs.View.{IsEncoded}
use Rattle.ejects.proofs.Leaving.{same-body}
use Rattle.ejects.proofs.Ejects.encoded_at.Goals as goal

pub returns-clause-bytes : goal.returns-clause-bytes
returns-clause-bytes c b is =
    let ts = c.args.types.now in
    subst (λ y. IsEncoded (spelling (rep_of y.kind y.vars)) c.in_ok-encoded-in-Some.encoded)
    (same-body ts c.args.self.now.table c.args.uid c.in-Some.part.now b c.in-Some.ensures is) c.in_ok-encoded-in-Some.ensures.bytes
