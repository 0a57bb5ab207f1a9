use Rattle.std.proofs.Common.{◌≡◌, ◌≤◌, ◌<◌, ℕ, Bool, true, false, length, refl, sym, ◌∙◌, subst, arith}
use Rattle.std.specs.Prelude.{◌↔◌, IsTrue, nat_lt}
use Rattle.std.proofs.lemmas.List.{length-map}
use Rattle.std.proofs.lemmas.Bool.Decides.{nat_tests}
use Rattle.epl_syntax.specs.Rules.OfTypes.{native_only}
use Rattle.eden_model.specs.Crew.{Invocation}
use Rattle.active_part.specs.View.{body_of, coordination_of}
use Rattle.plain_ejects.specs.Limits.{HasPlace}
use Rattle.plain_ejects.specs.View.{queue_of}
use Rattle.plain_ejects.proofs.PlainEject.is_full.Goals as goal

few : (b : Bool) (n : ℕ) → (64 ≤ n → IsTrue b) → b ≡ false → n < 64
few b n full off = go (nat_lt n 64) refl
  where
    go : (x : Bool) → nat_lt n 64 ≡ x → n < 64
    go true is = grind (arith, nat_tests, is)
    go false is = let more : 64 ≤ n = grind (arith, nat_tests, is) in absurd (let bad : true ≡ false = sym (full more) ∙ off in cc bad)

pub returns-in-Some-clause-full : goal.returns-in-Some-clause-full
returns-in-Some-clause-full c ts = subst (λ o. IsTrue c.is_full.result ↔ (64 ≤ length (queue_of ts o c.args.self.now.waiting)))
    (sym c.in-Some.is) (subst (λ n. IsTrue c.is_full.result ↔ (64 ≤ n))
    (sym (length-map (body_of ts c.in-Some.part).crew.queued (λ (i : Invocation). i.call))) (c.is_full.ensures ts))

pub returns-in-Some-clause-room : goal.returns-in-Some-clause-room
returns-in-Some-clause-room c = λ off. subst (λ o. HasPlace o c.args.self.now.waiting) (sym c.in-Some.is)
    (few c.is_full.result (length (coordination_of c.in-Some.part).queued) (c.is_full.ensures native_only).1 off)
