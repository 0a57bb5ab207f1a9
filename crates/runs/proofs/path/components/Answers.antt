use Rattle.std.proofs.Common.{◌+◌, ◌++◌, ◌∷◌, [], ap, sym, subst, ◌∙◌}
use Rattle.runs.proofs.Parts.{ArePartsAt, parts-start, parts-slash, parts-byte}
use Rattle.runs.proofs.path.components.Goals as goal
use Rattle.runs.proofs.path.components.Goals.{then-byte-eq47+in_ok-text+in_ok-push, else-byte-eq47+in_ok-push-2}

pub loop-byte-init : goal.loop-byte-init
loop-byte-init c = parts-start c.args.path.now c.new-parts.result.items c.new-part.result.items c.new-parts.ensures.items
    c.new-part.ensures.items

pub loop-byte-preserved : goal.loop-byte-preserved
loop-byte-preserved c = elim c.if-byte-eq47.branch [
  | then-byte-eq47+in_ok-text+in_ok-push w ↦ parts-slash c.args.path.now c.loop-byte.byte-index c.loop-byte.parts.items
      c.if-byte-eq47.parts.items c.loop-byte.part.items c.if-byte-eq47.part.items c.loop-byte-test.true w.if-byte-eq47.true
      (ap (λ v. v.items) w.parts-is ∙ w.in_ok-push.ensures.items ∙ ap (λ t. c.loop-byte.parts.items ++ t ∷ []) w.in_ok-text.ensures)
      (ap (λ v. v.items) w.part-is ∙ w.new-part-then-byte-eq47.ensures.items) c.loop-byte.invariant
  | else-byte-eq47+in_ok-push-2 w ↦ subst (λ v. ArePartsAt c.args.path.now
      (c.loop-byte.byte-index + 1) v.items c.if-byte-eq47.part.items) (sym w.parts-is)
      (parts-byte c.args.path.now c.loop-byte.byte-index c.loop-byte.parts.items c.loop-byte.part.items c.if-byte-eq47.part.items
      c.loop-byte-test.true
      w.if-byte-eq47.false (ap (λ v. v.items) w.part-is ∙ w.in_ok-push-2.ensures.items) c.loop-byte.invariant)
]
