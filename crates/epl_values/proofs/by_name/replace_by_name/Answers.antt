use Rattle.std.proofs.Common.{sym, ◌∙◌, ap, map, Some, None}
use Rattle.eden_value.specs.View.{datum}
use Rattle.epl_syntax.specs.Tree.{type_tree, variable}
use Rattle.epl_syntax.specs.declared.tree.ParDecl.{ParDecl}
use Rattle.epl_syntax.specs.declared.tree.LocalDecl.{LocalDecl}
use Rattle.epl_values.proofs.Places.{set_param, set_local, set_var, old_param, old_local, old_var, put_there, value_there}
use Rattle.epl_values.proofs.Places.{in_params, in_locals}
use Rattle.epl_values.proofs.by_name.replace_by_name.Goals as goal

pub returns-in-Some-clause-memory : goal.returns-in-Some-clause-memory
returns-in-Some-clause-memory c =
    let t = type_tree c.args.program.now in
    let v = c.args.vars.now in
    let ps = c.params_of-params.result.now in
    let there = value_there (λ (p : ParDecl). p.name) ps v.params c.args.text.now c.in-Some.at c.in-Some.ensures.place in
    set_param t v c.args.text.now (datum c.args.value) ps c.swap_in.new.values c.params_of-params.ensures
    (in_params t v c.args.text.now ps (Some (datum c.swap_in.result)) c.params_of-params.ensures (c.swap_in.ensures.old ∙ there))
    (c.swap_in.ensures.new
    ∙ put_there (λ (p : ParDecl). p.name) ps v.params c.args.text.now (datum c.args.value) c.in-Some.at c.in-Some.ensures.place)

pub returns-in-Some-clause-before : goal.returns-in-Some-clause-before
returns-in-Some-clause-before c =
    let t = type_tree c.args.program.now in
    let v = c.args.vars.now in
    let ps = c.params_of-params.result.now in
    let there = value_there (λ (p : ParDecl). p.name) ps v.params c.args.text.now c.in-Some.at c.in-Some.ensures.place in
    c.swap_in.ensures.old ∙ there
    ∙ old_param t v c.args.text.now ps c.params_of-params.ensures
    (in_params t v c.args.text.now ps (Some (datum c.swap_in.result)) c.params_of-params.ensures (c.swap_in.ensures.old ∙ there))

pub returns-in-Some-held_at-clause-memory : goal.returns-in-Some-held_at-clause-memory
returns-in-Some-held_at-clause-memory c =
    let t = type_tree c.args.program.now in
    let v = c.args.vars.now in
    let text = c.args.text.now in
    let ls = c.locals_of-locals.result.now in
    let at = c.in-Some-held_at.at in
    let new = c.swap_in-in-Some-held_at.ensures.new in
    let old = c.swap_in-in-Some-held_at.ensures.old in
    let there = value_there (λ (l : LocalDecl). l.name) ls v.locals text at c.in-Some-held_at.ensures.place in
    let no_param = in_params t v text c.params_of-params.result.now None c.params_of-params.ensures
    (sym (c.held_at.ensures.none c.in_default.is)) in
    set_local t v text (datum c.args.value) ls c.swap_in-in-Some-held_at.new.values c.locals_of-locals.ensures no_param
    (in_locals t v text ls (Some (datum c.swap_in-in-Some-held_at.result)) c.locals_of-locals.ensures (old ∙ there))
    (new ∙ put_there (λ (l : LocalDecl). l.name) ls v.locals text (datum c.args.value) at c.in-Some-held_at.ensures.place)

pub returns-in-Some-held_at-clause-before : goal.returns-in-Some-held_at-clause-before
returns-in-Some-held_at-clause-before c =
    let t = type_tree c.args.program.now in
    let v = c.args.vars.now in
    let text = c.args.text.now in
    let ls = c.locals_of-locals.result.now in
    let old = c.swap_in-in-Some-held_at.ensures.old in
    let there = value_there (λ (l : LocalDecl). l.name) ls v.locals text c.in-Some-held_at.at c.in-Some-held_at.ensures.place in
    let no_param = in_params t v text c.params_of-params.result.now None c.params_of-params.ensures
    (sym (c.held_at.ensures.none c.in_default.is)) in
    old ∙ there
    ∙ old_local t v text ls c.locals_of-locals.ensures no_param
    (in_locals t v text ls (Some (datum c.swap_in-in-Some-held_at.result)) c.locals_of-locals.ensures (old ∙ there))

pub returns-clause-memory : goal.returns-clause-memory
returns-clause-memory c =
    let t = type_tree c.args.program.now in
    let v = c.args.vars.now in
    let text = c.args.text.now in
    let no_param = in_params t v text c.params_of-params.result.now None c.params_of-params.ensures
    (sym (c.held_at.ensures.none c.in_default.is)) in
    let no_local = in_locals t v text c.locals_of-locals.result.now None c.locals_of-locals.ensures
    (sym (c.held_at-2.ensures.none c.in_default-held_at.is)) in
    set_var t v text (datum c.args.value) c.deref.result.now c.put.new.values (ap (map variable) c.deref.ensures.value) no_param no_local
    c.put.ensures.new

pub returns-clause-before : goal.returns-clause-before
returns-clause-before c =
    let t = type_tree c.args.program.now in
    let v = c.args.vars.now in
    let text = c.args.text.now in
    let no_param = in_params t v text c.params_of-params.result.now None c.params_of-params.ensures
    (sym (c.held_at.ensures.none c.in_default.is)) in
    let no_local = in_locals t v text c.locals_of-locals.result.now None c.locals_of-locals.ensures
    (sym (c.held_at-2.ensures.none c.in_default-held_at.is)) in
    c.put.ensures.old
    ∙ old_var t v text c.deref.result.now (ap (map variable) c.deref.ensures.value) no_param no_local
