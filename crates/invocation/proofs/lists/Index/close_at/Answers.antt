use Rattle.std.proofs.Common.{◌≡◌, ◌<◌, length, refl, subst, sym, ◌∙◌, ap, arith, rules}
use Rattle.std.specs.Vec.{with_item}
use Rattle.std.proofs.lemmas.Fn.{filter_same}
use Rattle.std.proofs.lemmas.List.{length-set}
use Rattle.std.specs.List.{filter}
use Rattle.invocation.specs.declared.closing.Cause.TheVariants.{Crash}
use Rattle.invocation.specs.Causes.{closed_by}
use Rattle.invocation.specs.Numbers.{passes_at, changed_at_all}
use Rattle.invocation.specs.Listed.{IsIndex, is_live, numbers_at}
use Rattle.invocation.proofs.Index.{list-closed, index-closing, index-crash}
use Rattle.invocation.proofs.Listed.{numbers-there, numbers-now, numbers-other}
use Rattle.invocation.proofs.lists.Index.close_at.Goals as goal

pub returns-clause-calls : goal.returns-clause-calls
returns-clause-calls c =
    let nodes = c.args.self.now.nodes.items in
    let cs = c.args.calls.now.items in
    let cause = Crash c.args.node in
    let list = c.index_mut-listed.result.now in
    let within : c.args.node < length nodes = omega (arith, c.requires.node, c.requires.index.lists.nodes) in
    let at : list.items ≡ numbers_at c.args.node nodes =
    sym (numbers-there nodes c.args.node list list within c.index_mut-listed.ensures.value) in
    c.close_each.ensures ∙ ap (λ ks. changed_at_all (closed_by cause) 1 ks cs) (c.deref.ensures.value ∙ at)
    ∙ list-closed cause cs (numbers_at c.args.node nodes) (c.requires.index.crashes c.args.node c.requires.node)

pub returns-clause-index : goal.returns-clause-index
returns-clause-index c =
    let old = c.args.self.now in
    let nodes = old.nodes.items in
    let cause = Crash c.args.node in
    let list = c.index_mut-listed.result.now in
    let left = c.retain.new.self in
    let now = c.close_each.new.calls.items in
    let within : c.args.node < length nodes = omega (arith, c.requires.node, c.requires.index.lists.nodes) in
    let at : list.items ≡ numbers_at c.args.node nodes =
    sym (numbers-there nodes c.args.node list list within c.index_mut-listed.ensures.value) in
    let kept : left.items ≡ filter (passes_at is_live now) list.items =
    filter_same _ (passes_at is_live now) _ (λ x b f' k. search rules) list.items left.items c.retain.ensures.filtered in
    let closed : IsIndex now old =
    subst (λ l. IsIndex l old) (sym (returns-clause-calls c)) (index-closing cause c.args.calls.now.items old c.requires.index) in
    index-crash now old (record { links = old.links; nodes = with_item old.nodes c.args.node left })
    (record {
      links = c.requires.index.lists.links;
      nodes = length-set nodes c.args.node left ∙ c.requires.index.lists.nodes;
    })
    closed c.args.node
    (numbers-now nodes c.args.node list left within c.index_mut-listed.ensures.value ∙ kept ∙ ap (filter (passes_at is_live now)) at)
    (λ p apart. numbers-other nodes c.args.node list left within c.index_mut-listed.ensures.value p apart)
    (λ p. refl)
