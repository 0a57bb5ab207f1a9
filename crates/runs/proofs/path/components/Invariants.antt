use Rattle.runs.proofs.Parts.{ArePartsAt}
use Rattle.runs.proofs.path.components.Given as goal

abbrev pub invariant-loop-byte : goal.invariant-loop-byte
invariant-loop-byte l = ArePartsAt l.path l.byte-index l.parts.items l.part.items
