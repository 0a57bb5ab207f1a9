use Rattle.std.proofs.Common.{◌≡◌, ◌<◌, length, refl, subst, sym, ◌∙◌, ap, arith, rules}
use Rattle.std.specs.Prelude.{slice_set}
use Rattle.std.specs.Vec.{with_item}
use Rattle.std.proofs.lemmas.Fn.{filter_same}
use Rattle.std.proofs.lemmas.List.{length-set}
use Rattle.std.specs.List.{filter}
use Rattle.invocation.specs.declared.closing.Cause.TheVariants.{Cut}
use Rattle.invocation.specs.Mail.{is_open}
use Rattle.invocation.specs.Causes.{closed_by}
use Rattle.invocation.specs.Numbers.{passes_at, changed_at_all}
use Rattle.invocation.specs.Listed.{IsIndex, numbers_at, link}
use Rattle.invocation.proofs.Index.{list-closed, index-closing, index-cut}
use Rattle.invocation.proofs.Listed.{numbers-there, numbers-now, numbers-other}
use Rattle.invocation.proofs.lists.Index.close_over.Goals as goal

pub returns-clause-calls : goal.returns-clause-calls
returns-clause-calls c =
    let links = c.args.self.now.links.items in
    let cs = c.args.calls.now.items in
    let cause = Cut c.args.a c.args.b in
    let list = c.index_mut-listed.result.now in
    let within : c.link.result < length links = omega (arith, c.link.ensures.within, c.requires.index.lists.links) in
    let at : list.items ≡ numbers_at (link c.args.a c.args.b) links =
    sym (numbers-there links c.link.result list list within c.index_mut-listed.ensures.value)
    ∙ ap (λ p. numbers_at p links) c.link.ensures.place in
    c.close_each.ensures ∙ ap (λ ks. changed_at_all (closed_by cause) 1 ks cs) (c.deref.ensures.value ∙ at)
    ∙ list-closed cause cs (numbers_at (link c.args.a c.args.b) links)
    (c.requires.index.cuts c.args.a c.args.b c.requires.from c.requires.to)

pub returns-clause-index : goal.returns-clause-index
returns-clause-index c =
    let old = c.args.self.now in
    let links = old.links.items in
    let cause = Cut c.args.a c.args.b in
    let list = c.index_mut-listed.result.now in
    let left = c.retain.new.self in
    let now = c.close_each.new.calls.items in
    let place = c.link.ensures.place in
    let within : c.link.result < length links = omega (arith, c.link.ensures.within, c.requires.index.lists.links) in
    let at : list.items ≡ numbers_at (link c.args.a c.args.b) links =
    sym (numbers-there links c.link.result list list within c.index_mut-listed.ensures.value) ∙ ap (λ p. numbers_at p links) place in
    let kept : left.items ≡ filter (passes_at is_open now) list.items =
    filter_same _ (passes_at is_open now) _ (λ x b f' k. search rules) list.items left.items c.retain.ensures.filtered in
    let closed : IsIndex now old =
    subst (λ l. IsIndex l old) (sym (returns-clause-calls c)) (index-closing cause c.args.calls.now.items old c.requires.index) in
    index-cut now old (record { links = with_item old.links c.link.result left; nodes = old.nodes })
    (record {
      links = length-set links c.link.result left ∙ c.requires.index.lists.links;
      nodes = c.requires.index.lists.nodes;
    })
    closed c.args.a c.args.b
    (ap (λ p. numbers_at p (slice_set links c.link.result left)) (sym place)
    ∙ numbers-now links c.link.result list left within c.index_mut-listed.ensures.value ∙ kept ∙ ap (filter (passes_at is_open now)) at)
    (λ p apart. numbers-other links c.link.result list left within c.index_mut-listed.ensures.value p (λ same. apart (same ∙ place)))
    (λ p. refl)
