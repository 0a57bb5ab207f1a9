use Rattle.std.proofs.Common.{◌≡◌, map, subst, refl, sym, ◌∙◌, ap, arith}
use Rattle.std.proofs.lemmas.List.{length-map}
use Rattle.invocation.specs.declared.closing.Cause.TheVariants.{Crash}
use Rattle.invocation.specs.Mail.{Mail, enters, let_go, broken_where}
use Rattle.invocation.specs.Carries.{Carries}
use Rattle.invocation.specs.Causes.{is_broken, closed_by}
use Rattle.invocation.specs.Numbers.{numbers_where}
use Rattle.invocation.specs.Queues.{cleared, sent_from}
use Rattle.invocation.specs.Listed.{IsIndex}
use Rattle.invocation.proofs.Index.{index-let_go, length-let_go}
use Rattle.invocation.proofs.Mails.{between-after, between-let_go, length-cleared, given-more, given-cleared, mail-cleared}
use Rattle.invocation.proofs.Breaks.{crash-carried, crash-told}
use Rattle.invocation.proofs.Own.{made-closing, made-let_go}
use Rattle.invocation.proofs.Calls.break_node.Goals as goal

pub let_go_from-requires-clause-given : goal.let_go_from-requires-clause-given
let_go_from-requires-clause-given c =
    let a = c.self.inside in
    let n = length-map a.calls.items (closed_by (Crash c.args.node)) in
    rw (c.deref-2.ensures.value, c.close_at.ensures.calls) (given-more a.calls.items (map (closed_by (Crash c.args.node)) a.calls.items)
    (omega (arith, n)) a.queues.items c.self.invariant.given)

pub invariant_of-self : goal.invariant_of-self
invariant_of-self c =
    let a = c.self.inside in
    let lost = sent_from c.args.node 9 a.queues.items in
    let shut = map (closed_by (Crash c.args.node)) a.calls.items in
    let now : c.let_go_from.new.calls.items ≡ let_go lost shut = c.let_go_from.ensures
    ∙ rw (c.deref-2.ensures.value, c.close_at.ensures.calls) refl in
    let n = length-map a.calls.items (closed_by (Crash c.args.node)) in
    let m = length-let_go lost shut in
    let index : IsIndex shut c.close_at.new.self =
    subst (λ l. IsIndex l c.close_at.new.self) c.close_at.ensures.calls c.close_at.ensures.index in
    record {
      few = rw now (omega (arith, n, m, c.self.invariant.few));
      index = rw now (index-let_go lost shut c.close_at.new.self index);
      made = rw now (made-let_go lost shut a.made (made-closing (Crash c.args.node) a.calls.items a.made c.self.invariant.made));
      between = rw now (between-let_go lost shut (between-after (Crash c.args.node) a.calls.items c.self.invariant.between));
      pairs = rw c.clear_at.ensures (length-cleared c.args.node 9 a.queues.items ∙ c.self.invariant.pairs);
      given = rw (now, c.clear_at.ensures) (given-more a.calls.items (let_go lost shut) (omega (arith, n, m))
          (cleared c.args.node 9 a.queues.items)
          (given-cleared a.calls.items a.queues.items c.self.invariant.given c.self.invariant.pairs c.args.node 9 c.requires
          (omega arith)));
      mail = rw c.clear_at.ensures (mail-cleared a.mail a.queues.items c.self.invariant.mail c.args.node 9);
    }

pub returns-clause-cases : goal.returns-clause-cases
returns-clause-cases c =
    let a = c.self.inside in
    let old : Mail = record { calls = a.calls.items; queues = a.queues.items } in
    let told : c.in_ok-numbers.numbers.items ≡ broken_where (enters c.args.node) old =
    c.in_ok-numbers.ensures ∙ ap (numbers_where (is_broken (Crash c.args.node)) 1) c.deref.ensures.value in
    let now : c.let_go_from.new.calls.items ≡ let_go (sent_from c.args.node 9 a.queues.items)
    (map (closed_by (Crash c.args.node)) a.calls.items) =
    c.let_go_from.ensures ∙ rw (c.deref-2.ensures.value, c.close_at.ensures.calls) refl in
    (rw (← c.self.view_is) told, rw (← c.self.view_is, now, c.clear_at.ensures) refl)

pub returns-clause-model : goal.returns-clause-model
returns-clause-model c t carries =
    let a = c.self.inside in
    let old : Mail = record { calls = a.calls.items; queues = a.queues.items } in
    let before : Carries old t = rw (c.self.view_is) carries in
    let told : c.in_ok-numbers.numbers.items ≡ broken_where (enters c.args.node) old =
    c.in_ok-numbers.ensures ∙ ap (numbers_where (is_broken (Crash c.args.node)) 1) c.deref.ensures.value in
    let now : c.let_go_from.new.calls.items ≡ let_go (sent_from c.args.node 9 a.queues.items)
    (map (closed_by (Crash c.args.node)) a.calls.items) =
    c.let_go_from.ensures ∙ rw (c.deref-2.ensures.value, c.close_at.ensures.calls) refl in (
      told ∙ sym (crash-told c.args.node old t before),
      rw (now, c.clear_at.ensures)
          (crash-carried c.args.node old t before c.self.invariant.pairs c.requires),
    )
