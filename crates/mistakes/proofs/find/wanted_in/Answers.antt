use Rattle.std.proofs.Common.{◌≡◌, map, rules, subst}
use Rattle.std.specs.Prelude.{IfOk}
use Rattle.mistakes.specs.Answers.{IsWanted}
use Rattle.mistakes.specs.declared.mistake.TypeFault.{TypeFault}
use Rattle.mistakes.specs.declared.mistake.TypeFault.TheVariants.{BadToken}
use Rattle.mistakes.proofs.find.wanted_in.Goals as goal

pub returns-in-BadToken : goal.returns-in-BadToken
returns-in-BadToken c =
    let e : BadToken ≡ c.args.bad.fault = search rules in
    subst (λ (f : TypeFault). IfOk c.wanted_at.result (λ v. IsWanted c.args.bad.text.now c.args.bad.place f (map (λ w. w.now) v.items))) e
    c.wanted_at.ensures
