use Rattle.std.proofs.Common.{◌≡◌, ap, sym, ◌∙◌, refl, Ok, map, rules}
use denote.Enum.Bare.{same_true}
use Rattle.eden_value.specs.contracts.status.Status.{the_type}
use Rattle.eden_value.specs.declared.status.Status.TheVariants as status
use Rattle.epl_syntax.specs.Memory.{set, set_each}
use Rattle.epl_syntax.specs.Tree.{type_tree}
use Rattle.epl_syntax.specs.Turns.{code}
use Rattle.epl_values.specs.Variables.{memory}
use Rattle.epl_run.proofs.Replies.{set_kinds, refused, accepted, not_false}
use Rattle.epl_run.proofs.answer.take_reply.Goals as goal

pub returns-then-not-are_fit-clause-told : goal.returns-then-not-are_fit-clause-told
returns-then-not-are_fit-clause-told c =
    let m = memory (type_tree c.args.program.now) c.args.vars.now in
    let is : c.args.code ≡ status.Ok = same_true the_type (search rules) _ _ (not_false _ c.if-ne.ensures) in (
      refused (map (λ n. n.text) c.args.gives.now) c.args.code c.args.results (set c.args.status.now.text (code c.args.code) m) m is
          (set_kinds c.args.status.now.text (code c.args.code) m (map (λ n. n.text) c.args.gives.now)) c.if-not-are_fit.ensures,
      refl,
    )

pub returns-clause-told : goal.returns-clause-told
returns-clause-told c =
    let m = memory (type_tree c.args.program.now) c.args.vars.now in
    let is : c.args.code ≡ status.Ok = same_true the_type (search rules) _ _ (not_false _ c.if-ne.ensures) in
    accepted (map (λ n. n.text) c.args.gives.now) c.args.code c.args.results (set c.args.status.now.text (code c.args.code) m) m is
    (set_kinds c.args.status.now.text (code c.args.code) m (map (λ n. n.text) c.args.gives.now)) c.if-not-are_fit.ensures
    ∙ ap Ok (ap (set_each (map (λ n. n.text) c.args.gives.now) c.args.results) (sym c.set_code-2.ensures.memory)
    ∙ sym c.set_each.ensures.memory)
