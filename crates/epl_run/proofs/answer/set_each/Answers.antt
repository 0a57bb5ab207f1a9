use Rattle.std.proofs.Common.{◌≡◌, ◌+◌, ◌<◌, length, true, drop, sym, ◌∙◌, subst, rules}
use Rattle.std.specs.List.{list_all}
use Rattle.epl_syntax.specs.Bindings.{variable}
use Rattle.epl_syntax.specs.Tree.{type_tree}
use Rattle.epl_values.specs.Variables.{memory, is_found}
use Rattle.epl_run.proofs.Replies.{set_next}
use Rattle.epl_run.proofs.Found.{all_behind}
use Rattle.epl_run.proofs.answer.set_each.Goals as goal

pub loop-name-preserved : goal.loop-name-preserved
loop-name-preserved c =
    let p = c.args.program.now in
    let names = c.args.names.now in
    let i = c.loop-name.name-index in
    let some : 0 < length c.loop-name.values.items = search (rules, c.is_empty.ensures, c.if-is_empty.false) in record {
      so_far =
          set_next names i c.name-item.result c.loop-name.values.items c.remove.new.self.items c.remove.result
          (memory (type_tree p) c.loop-name.vars) (memory (type_tree p) c.set.new.vars) c.loop-name-test.true c.name-item.is some
          c.remove.ensures.value c.remove.ensures.items c.set.ensures.memory
          ∙ c.loop-name.invariant.so_far;
      owner = c.set.ensures.owner ∙ c.loop-name.invariant.owner;
      found =
          subst (λ owner. list_all (is_found p owner variable) (drop (i + 1) names) ≡ true) (sym c.set.ensures.owner)
          (all_behind (is_found p c.loop-name.vars.owner variable) names i c.loop-name.invariant.found);
    }
