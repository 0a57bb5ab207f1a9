use Rattle.std.proofs.Common.{◌∷◌, ◌∙◌, ap, arith}
use Rattle.std.proofs.lemmas.List.{append-nil}
use Rattle.passive_blocks.proofs.StagedBytes.{spelled_at}
use Rattle.passive_blocks.proofs.convert.head_bytes.Goals as goal

pub returns-then-number-len : goal.returns-then-number-len
returns-then-number-len c =
    ap (λ bytes. 225 ∷ bytes) (append-nil c.copy_from_slice.new.self ∙ c.copy_from_slice.ensures.after ∙ c.spell_head.ensures)
    ∙ spelled_at c.args.moved.now.items c.args.number c.index.result.now (omega
    (arith, c.if-number-len.true, c.len.ensures)) c.index.ensures
