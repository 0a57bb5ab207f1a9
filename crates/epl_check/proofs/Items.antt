-- What the parts of a body tell, joined.
use Rattle.std.proofs.Common.{◌≡◌, ℕ, true, refl, ap, sym, ◌∙◌, List, [], ◌∷◌, ◌++◌, map, Option, Some, None, not, arith}
use Rattle.eden_value.specs.Shape.{Shape}
use Rattle.epl_syntax.specs.declared.tree.Name.{Name}
use Rattle.epl_syntax.specs.declared.tree.VarDecl.{VarDecl}
use Rattle.epl_syntax.specs.declared.tree.LocalDecl.{LocalDecl}
use Rattle.epl_syntax.specs.declared.tree.ParDecl.{ParDecl}
use Rattle.epl_syntax.specs.declared.tree.OpDecl.{OpDecl}
use Rattle.epl_syntax.specs.declared.tree.ProcDecl.{ProcDecl}
use Rattle.epl_syntax.specs.declared.tree.UpgradeDecl.{UpgradeDecl}
use Rattle.epl_syntax.specs.declared.tree.Assignment.{Assignment}
use Rattle.epl_syntax.specs.Tree.{variable, local_of, parameter, written, operation, process, upgrade, change}
use Rattle.epl_syntax.specs.declared.rule.Broken.{Broken}
use Rattle.epl_syntax.specs.declared.rule.Rule.TheVariants.{UnknownName, KindDiffers}
use Rattle.epl_syntax.specs.Rules.First.{least, broken_if}
use Rattle.epl_syntax.specs.Rules.Scopes.{doubled, as_variable, as_variables, is_among}
use Rattle.epl_syntax.specs.Rules.InItems.{names_of_vars, names_of_params, names_of_locals, names_of_changes}
use Rattle.epl_syntax.specs.Rules.InItems.{names_of_operations, names_of_processes, broken_names, broken_head}
use Rattle.epl_syntax.specs.Rules.InItems.{broken_durable, outside, too_many, places_of}
use Rattle.epl_syntax.specs.Rules.KindsOf.{same_shape}
use Rattle.epl_syntax.specs.Rules.InExpressions.{misfit_known}
use Rattle.epl_check.specs.View.{doubled_before, is_past}
use Rattle.epl_check.proofs.Least.{least_append, past_one, still_past}
use Rattle.epl_check.proofs.Rows.{map_map}
use Rattle.epl_check.proofs.Doubled.{least_two, flat_append}

pub vars_named : (vs : List VarDecl) → map (λ v. v.name) vs ≡ names_of_vars (map variable vs)
vars_named vs = sym (map_map (λ v. v.name) variable vs)

pub params_named : (ps : List ParDecl) → map (λ p. p.name) ps ≡ names_of_params (map parameter ps)
params_named ps = sym (map_map (λ p. p.name) parameter ps)

pub locals_named : (vs : List LocalDecl) → map (λ v. v.name) vs ≡ names_of_locals (map local_of vs)
locals_named vs = sym (map_map (λ v. v.name) local_of vs)

pub changes_named : (cs : List Assignment) → map (λ c. c.name) cs ≡ names_of_changes (map change cs)
changes_named cs = sym (map_map (λ c. c.name) change cs)

pub operations_named : (os : List OpDecl) → map (λ o. o.name) os ≡ names_of_operations (map operation os)
operations_named os = sym (map_map (λ o. o.name) operation os)

pub processes_named : (ps : List ProcDecl) → map (λ p. p.name) ps ≡ names_of_processes (map process ps)
processes_named ps = sym (map_map (λ p. p.name) process ps)

pub upgrades_numbered : (us : List UpgradeDecl) → map (λ u. u.from) us ≡ map (λ u. u.from) (map upgrade us)
upgrades_numbered us = sym (map_map (λ u. u.from) upgrade us)

-- the names of one body have been told
names_alone : (vars params locals : List Name) (o o1 o2 o3 o4 : Option Broken)
    → o1 ≡ least o (doubled_before params (locals ++ [])) → o2 ≡ least o1 (doubled_before locals ([] ++ []))
    → o3 ≡ least o2 (as_variables vars params) → o4 ≡ least o3 (as_variables vars locals)
    → o4 ≡ least o (broken_names vars (params ++ locals))
names_alone vars params locals o o1 o2 o3 o4 s t u w =
    let a = as_variables vars params in
    let b = as_variables vars locals in
    let d = doubled (params ++ locals) in
    let two : o2 ≡ least o d = t ∙ ap (λ p. least p (doubled_before locals [])) s ∙ least_two o params locals in
    w ∙ ap (λ p. least p b) (u ∙ ap (λ p. least p a) two)
    ∙ sym (least_append (least o d) a b)
    ∙ ap (least (least o d)) (sym (flat_append (as_variable vars) params locals))
    ∙ sym (least_append o d (as_variables vars (params ++ locals)))

pub names_told : (vs : List VarDecl) (ps : List ParDecl) (ls : List LocalDecl) (o o1 o2 o3 o4 : Option Broken)
    → o1 ≡ least o (doubled_before (map (λ p. p.name) ps) (map (λ v. v.name) ls ++ []))
    → o2 ≡ least o1 (doubled_before (map (λ v. v.name) ls) ([] ++ []))
    → o3 ≡ least o2 (as_variables (map (λ v. v.name) vs) (map (λ p. p.name) ps))
    → o4 ≡ least o3 (as_variables (map (λ v. v.name) vs) (map (λ v. v.name) ls))
    → o4 ≡ least o (broken_names (names_of_vars (map variable vs))
    (names_of_params (map parameter ps) ++ names_of_locals (map local_of ls)))
names_told vs ps ls o o1 o2 o3 o4 s t u w =
    names_alone (map (λ v. v.name) vs) (map (λ p. p.name) ps) (map (λ v. v.name) ls) o o1 o2 o3 o4 s t u w
    ∙ ap (λ n. least o (broken_names n (map (λ p. p.name) ps ++ map (λ v. v.name) ls))) (vars_named vs)
    ∙ ap (λ n. least o (broken_names (names_of_vars (map variable vs)) (n ++ map (λ v. v.name) ls))) (params_named ps)
    ∙ ap (λ n. least o (broken_names (names_of_vars (map variable vs)) (names_of_params (map parameter ps) ++ n))) (locals_named ls)

-- what stands before the body of an operation has been told
pub head_told : (classes : List Name) (d : OpDecl) (o o1 o2 o3 o4 o5 : Option Broken)
    → o1 ≡ least o (outside 0 65535 d.needs) → o2 ≡ least o1 (broken_if (not (is_among classes d.class.text)) UnknownName d.class.place)
    → o3 ≡ least o2 (too_many 8 (places_of (map (λ p. p.name) d.params.items)))
    → o4 ≡ least o3 (too_many 8 (map (λ k. k.place) (map written d.results.items)))
    → o5 ≡ least o4 (too_many 32 (places_of (map (λ v. v.name) d.locals.items)))
    → o5 ≡ least o (broken_head classes (operation d))
head_told classes d o o1 o2 o3 o4 o5 s t u v w =
    let a = outside 0 65535 d.needs in
    let b = broken_if (not (is_among classes d.class.text)) UnknownName d.class.place in
    let e = too_many 8 (places_of (names_of_params (map parameter d.params.items))) in
    let f = too_many 8 (map (λ k. k.place) (map written d.results.items)) in
    let h = too_many 32 (places_of (names_of_locals (map local_of d.locals.items))) in
    let params : o3 ≡ least o2 e = u ∙ ap (λ n. least o2 (too_many 8 (places_of n))) (params_named d.params.items) in
    let locals : o5 ≡ least o4 h = w ∙ ap (λ n. least o4 (too_many 32 (places_of n))) (locals_named d.locals.items) in
    locals ∙ ap (λ p. least p h) (v ∙ ap (λ p. least p f) (params
    ∙ ap (λ p. least p e) (t ∙ ap (λ p. least p b) s ∙ sym (least_append o a b)) ∙ sym (least_append o (a ++ b) e))
    ∙ sym (least_append o (a ++ b ++ e) f))
    ∙ sym (least_append o (a ++ b ++ e ++ f) h)

pub map_same : (ns : List Name) → map (λ n. n) ns ≡ ns
map_same [] = refl
map_same (n ∷ ns) = ap (λ l. n ∷ l) (map_same ns)

-- one more has been told
pub joined : (o o1 o2 : Option Broken) (a b : List Broken) → o1 ≡ least o a → o2 ≡ least o1 b → o2 ≡ least o (a ++ b)
joined o o1 o2 a b s t = t ∙ ap (λ p. least p b) s ∙ sym (least_append o a b)

-- where a change comes behind what is told, what its name stands for is nothing more
unknown_past : (o : Option Broken) (wanted : Option Shape) (place : ℕ) → is_past o place ≡ true → o ≡ least o (broken_durable wanted place)
unknown_past o None place h = past_one o place place UnknownName true h (omega arith)
unknown_past o (Some k) place h = refl

misfit_past : (o : Option Broken) (wanted found : Option Shape) (place : ℕ) → is_past o place ≡ true
    → o ≡ least o (misfit_known wanted found place)
misfit_past o None found place h = refl
misfit_past o (Some k) None place h = refl
misfit_past o (Some k) (Some f) place h = past_one o place place KindDiffers (not (same_shape k f)) h (omega arith)

pub change_past : (o o1 : Option Broken) (wanted found : Option Shape) (inside : List Broken) (name_place place : ℕ)
    → is_past o name_place ≡ true → is_past o place ≡ true → o1 ≡ least o inside
    → o1 ≡ least o (broken_durable wanted name_place ++ inside ++ misfit_known wanted found place)
change_past o o1 wanted found inside name_place place h k s =
    let a = broken_durable wanted name_place in
    let b = misfit_known wanted found place in
    let past : is_past o1 place ≡ true = ap (λ p. is_past p place) s ∙ still_past o inside place k in
    misfit_past o1 wanted found place past
    ∙ ap (λ p. least p b) (s ∙ ap (λ p. least p inside) (unknown_past o wanted name_place h) ∙ sym (least_append o a inside))
    ∙ sym (least_append o (a ++ inside) b)
