-- The place that is answered is the bad one.
use Rattle.std.proofs.Common.{◌≡◌, ℕ, List, Result, Err, subst}
use Rattle.grammar.specs.FirstBad.{FirstBad}
use Rattle.eden_codec.specs.declared.rep.Rep.{Rep}
use Rattle.eden_codec.specs.declared.decode.DecodeRefusal.{DecodeRefusal}
use Rattle.eden_codec.specs.declared.decode.DecodeRefusal.TheVariants.{NotRep}
use Rattle.eden_codec.specs.Spells.{SpellsRep}

pub same_place : (bytes : List ℕ) (bad : ℕ) → FirstBad SpellsRep bytes bad → (place : ℕ)
    → ◌≡◌ {A = Result Rep DecodeRefusal} (Err (NotRep bad)) (Err (NotRep place)) → FirstBad SpellsRep bytes place
same_place bytes bad f place e = let p : bad ≡ place = cc in subst (λ n. FirstBad SpellsRep bytes n) p f
