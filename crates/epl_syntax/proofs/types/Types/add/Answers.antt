use Rattle.std.proofs.Common.{◌≡◌, [], false, map, sym, subst}
use Rattle.std.specs.List.{list_any}
use Rattle.eden_model.specs.Map.{same_text}
use Rattle.epl_syntax.specs.Natives.{native_name}
use Rattle.epl_syntax.specs.Tree.{type_tree}
use Rattle.epl_syntax.specs.Rules.InItems.{broken_program}
use Rattle.epl_syntax.specs.Rules.OfTypes.{names_of}
use Rattle.epl_syntax.proofs.KeptTypes.{kept_with, distinct_with}
use Rattle.epl_syntax.proofs.types.Types.add.Goals as goal

pub invariant_of-self-2 : goal.invariant_of-self-2
invariant_of-self-2 c =
    let types = c.self.inside in
    let natives = map native_name types.native.items in
    let program = c.args.checked.program in (
      kept_with natives types.declared.items c.push.new.self.items c.args.checked c.self.invariant.0
          (subst (λ ts. broken_program (names_of ts) (type_tree program) ≡ [])
          (sym c.self.view_is) c.requires.rules) c.in_ok-push.ensures.items,
      c.self.invariant.1,
      distinct_with natives types.declared.items c.push.new.self.items c.args.checked c.self.invariant.2
          (subst (λ ts. list_any (λ t. same_text t program.name.text) (names_of ts) ≡ false) (sym c.self.view_is) c.requires.name)
          c.in_ok-push.ensures.items,
    )
