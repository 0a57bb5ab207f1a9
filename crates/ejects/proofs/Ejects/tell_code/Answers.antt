use Rattle.std.proofs.Common.{◌≡◌, Option, None, Some, refl}
use Rattle.std.specs.Prelude.{IsSomeAnd}
use Rattle.epl_syntax.specs.declared.effect.Answer.TheVariants.{Code}
use Rattle.active_part.specs.Body.{Body}
use Rattle.active_part.specs.Bodies.{told_body}
use Rattle.ejects.specs.Marks.{AwaitsIn}
use Rattle.ejects.specs.Parts.{body_at}
use Rattle.ejects.specs.View.{parts_of, with_body}
use Rattle.ejects.proofs.Ejects.tell_code.Goals as goal

pub returns : goal.returns
returns c ts waits = go (body_at (parts_of ts c.args.self.now) c.args.uid) refl waits
  where
    go : (o : Option Body) → body_at (parts_of ts c.args.self.now) c.args.uid ≡ o → AwaitsIn o c.args.process
        → IsSomeAnd o (λ b. parts_of ts c.tell_at.new.self ≡ with_body c.args.uid (told_body c.args.process (Code c.args.status) b)
        (parts_of ts c.args.self.now))
    go None at waits = absurd waits
    go (Some b) at waits = c.tell_at.ensures ts b at waits
