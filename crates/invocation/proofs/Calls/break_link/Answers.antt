use Rattle.std.proofs.Common.{◌≡◌, map, subst, refl, sym, ◌∙◌, ap, arith}
use Rattle.std.proofs.lemmas.List.{length-map}
use Rattle.invocation.specs.declared.closing.Cause.TheVariants.{Cut}
use Rattle.invocation.specs.Mail.{Mail, crosses, let_go, broken_where}
use Rattle.invocation.specs.Carries.{Carries}
use Rattle.invocation.specs.Causes.{is_broken, closed_by}
use Rattle.invocation.specs.Numbers.{numbers_where}
use Rattle.invocation.specs.Queues.{cut_between, on_way}
use Rattle.invocation.specs.Listed.{IsIndex}
use Rattle.invocation.proofs.Index.{index-let_go, length-let_go}
use Rattle.invocation.proofs.Mails.{between-after, between-let_go, length-cut, given-more, given-cut, mail-cut}
use Rattle.invocation.proofs.Breaks.{cut-carried, cut-told}
use Rattle.invocation.proofs.Own.{made-closing, made-let_go}
use Rattle.invocation.proofs.Calls.break_link.Goals as goal

pub let_go_between-requires-clause-given : goal.let_go_between-requires-clause-given
let_go_between-requires-clause-given c =
    let a = c.self.inside in
    let n = length-map a.calls.items (closed_by (Cut c.args.a c.args.b)) in
    rw (c.deref-2.ensures.value, c.close_over.ensures.calls)
    (given-more a.calls.items (map (closed_by (Cut c.args.a c.args.b)) a.calls.items)
    (omega (arith, n)) a.queues.items c.self.invariant.given)

pub invariant_of-self : goal.invariant_of-self
invariant_of-self c =
    let a = c.self.inside in
    let lost = on_way c.args.a c.args.b a.queues.items in
    let shut = map (closed_by (Cut c.args.a c.args.b)) a.calls.items in
    let now : c.let_go_between.new.calls.items ≡ let_go lost shut = c.let_go_between.ensures
    ∙ rw (c.deref-2.ensures.value, c.close_over.ensures.calls) refl in
    let n = length-map a.calls.items (closed_by (Cut c.args.a c.args.b)) in
    let m = length-let_go lost shut in
    let index : IsIndex shut c.close_over.new.self =
    subst (λ l. IsIndex l c.close_over.new.self) c.close_over.ensures.calls c.close_over.ensures.index in
    record {
      few = rw now (omega (arith, n, m, c.self.invariant.few));
      index = rw now (index-let_go lost shut c.close_over.new.self index);
      made = rw now (made-let_go lost shut a.made (made-closing (Cut c.args.a c.args.b) a.calls.items a.made c.self.invariant.made));
      between = rw now (between-let_go lost shut (between-after (Cut c.args.a c.args.b) a.calls.items c.self.invariant.between));
      pairs = rw c.clear_between.ensures (length-cut c.args.a c.args.b a.queues.items ∙ c.self.invariant.pairs);
      given = rw (now, c.clear_between.ensures) (given-more a.calls.items (let_go lost shut) (omega (arith, n, m))
          (cut_between c.args.a c.args.b a.queues.items)
          (given-cut a.calls.items a.queues.items c.self.invariant.given c.self.invariant.pairs c.args.a c.args.b c.requires.from
          c.requires.to));
      mail = rw c.clear_between.ensures (mail-cut a.mail a.queues.items c.self.invariant.mail c.args.a c.args.b);
    }

pub returns-clause-cases : goal.returns-clause-cases
returns-clause-cases c =
    let a = c.self.inside in
    let old : Mail = record { calls = a.calls.items; queues = a.queues.items } in
    let told : c.in_ok-numbers.numbers.items ≡ broken_where (crosses c.args.a c.args.b) old =
    c.in_ok-numbers.ensures ∙ ap (numbers_where (is_broken (Cut c.args.a c.args.b)) 1) c.deref.ensures.value in
    let now : c.let_go_between.new.calls.items ≡ let_go (on_way c.args.a c.args.b a.queues.items)
    (map (closed_by (Cut c.args.a c.args.b)) a.calls.items) =
    c.let_go_between.ensures ∙ rw (c.deref-2.ensures.value, c.close_over.ensures.calls) refl in
    (rw (← c.self.view_is) told, rw (← c.self.view_is, now, c.clear_between.ensures) refl)

pub returns-clause-model : goal.returns-clause-model
returns-clause-model c t carries =
    let a = c.self.inside in
    let old : Mail = record { calls = a.calls.items; queues = a.queues.items } in
    let before : Carries old t = rw (c.self.view_is) carries in
    let told : c.in_ok-numbers.numbers.items ≡ broken_where (crosses c.args.a c.args.b) old =
    c.in_ok-numbers.ensures ∙ ap (numbers_where (is_broken (Cut c.args.a c.args.b)) 1) c.deref.ensures.value in
    let now : c.let_go_between.new.calls.items ≡ let_go (on_way c.args.a c.args.b a.queues.items)
    (map (closed_by (Cut c.args.a c.args.b)) a.calls.items) =
    c.let_go_between.ensures ∙ rw (c.deref-2.ensures.value, c.close_over.ensures.calls) refl in (
      told ∙ sym (cut-told c.args.a c.args.b old t before),
      rw (now, c.clear_between.ensures)
          (cut-carried c.args.a c.args.b old t before c.self.invariant.pairs c.requires.from c.requires.to),
    )
