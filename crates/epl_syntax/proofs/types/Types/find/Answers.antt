use Rattle.std.proofs.Common.{◌≡◌, ◌∙◌, sym, ap, None, Some, map, arith}
use Rattle.std.specs.List.{position_from}
use Rattle.eden_model.specs.Map.{same_text}
use Rattle.epl_syntax.specs.Natives.{native_name}
use Rattle.epl_syntax.proofs.KeptTypes.{found_native, found_declared}
use Rattle.epl_syntax.proofs.types.Types.find.Goals as goal

pub returns-in-None-clause-place : goal.returns-in-None-clause-place
returns-in-None-clause-place c =
    let types = c.self.inside in
    let none : position_from (λ t. same_text t c.args.name.now) 0 (map native_name types.native.items) ≡ None =
    ap (λ l. position_from (λ t. same_text t c.args.name.now) 0 (map native_name l)) (sym c.deref.ensures.value)
    ∙ sym c.find_native.ensures ∙ c.in-None.is in
    found_declared c.args.self.now c.args.name.now types.native.items types.declared.items c.len.result c.find_declared.result
    c.self.view_is (omega (arith, c.len.ensures, types.native.ok)) none (rw (← c.deref-in-None.ensures.value) c.find_declared.ensures)

pub returns-in-Some-clause-place : goal.returns-in-Some-clause-place
returns-in-Some-clause-place c =
    let types = c.self.inside in
    let found : position_from (λ t. same_text t c.args.name.now) 0 (map native_name types.native.items) ≡ Some c.in-Some.place =
    ap (λ l. position_from (λ t. same_text t c.args.name.now) 0 (map native_name l)) (sym c.deref.ensures.value)
    ∙ sym c.find_native.ensures ∙ c.in-Some.is in
    found_native c.args.self.now c.args.name.now types.native.items types.declared.items c.in-Some.place c.self.view_is found
