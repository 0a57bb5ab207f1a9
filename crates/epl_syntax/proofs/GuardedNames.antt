-- What the name of a variable stands for, where the rules are kept: one of the process's own, or one of the type that may be touched.
use Rattle.std.proofs.Common.{◌≡◌, ℕ, Bool, true, false, cond, List, [], ◌∷◌, ◌++◌, Option, None, Some, refl, ap, sym, ◌∙◌, subst}
use Rattle.std.specs.Cmp.Lexicographic.{same_text as same_bytes}
use Rattle.std.proofs.lemmas.Bool.{or_parts}
use Rattle.std.proofs.lemmas.Grind.{flat_map-append}
use Rattle.eden_model.specs.Map.{with_item, same_text}
use Rattle.epl_syntax.specs.declared.rule.Rule.TheVariants.{Doubled}
use Rattle.epl_syntax.specs.declared.tree.Name.{Name}
use Rattle.epl_syntax.specs.Tree.{TypeTree, Variable, Parameter, Local}
use Rattle.epl_syntax.specs.Rules.Scopes.{Scope, Seen, or_else, local_named, param_named, var_named, variable_named, is_among}
use Rattle.epl_syntax.specs.Rules.Scopes.{as_variable, as_variables}
use Rattle.epl_syntax.specs.Rules.InExpressions.{is_guarded}
use Rattle.epl_syntax.specs.Rules.InItems.{names_of_vars, names_of_params, names_of_locals}
use Rattle.epl_syntax.specs.Turns.{Left}
use Rattle.epl_syntax.specs.Monitors.{may_set, IsScopeOf}
use Rattle.epl_syntax.proofs.SameText.{same_as_pointwise}
use Rattle.epl_syntax.proofs.GuardedRules.{front_empty, back_empty, not_broken}

-- a variable of the type that may be touched, or none
abbrev pub IsOpenSeen : Option ℕ → Option Seen → Type 0
IsOpenSeen held None = Unit {0}
IsOpenSeen held (Some v) = is_guarded held v.monitor ≡ true

-- a name that may be set stands for a variable of the type that may be touched, where it stands for one of the type
abbrev pub Opens : Scope → Option ℕ → TypeTree → Type 0
Opens scope held t = (name : List ℕ) → may_set scope held name ≡ true → IsOpenSeen held (var_named t.vars name)

same_is : (a b : List ℕ) → same_text a b ≡ true → a ≡ b
same_is a b h = same_bytes a b (sym h ∙ same_as_pointwise a b)

absent : (vs : List Variable) (text : List ℕ) → is_among (names_of_vars vs) text ≡ false → var_named vs text ≡ None
absent [] text h = refl
absent (v ∷ vs) text h =
    let parts = or_parts (same_text v.name.text text) (is_among (names_of_vars vs) text) h in
    ap (λ b. cond b (Some (record { kind = v.kind.shape; monitor = v.monitor })) (var_named vs text)) parts.0 ∙ absent vs text parts.1

-- a name that is kept apart from the variables
apart_from : (vs : List Variable) (n : Name) (text : List ℕ) → as_variable (names_of_vars vs) n ≡ [] → same_text n.text text ≡ true
    → var_named vs text ≡ None
apart_from vs n text h e =
    absent vs text
    (subst (λ l. is_among (names_of_vars vs) l ≡ false) (same_is n.text text e)
    (not_broken (is_among (names_of_vars vs) n.text) Doubled n.place h))

-- where one of the process's own is seen, none of the type is
abbrev Hides : List Variable → List ℕ → Option Seen → Type 0
Hides vs text None = Unit {0}
Hides vs text (Some v) = var_named vs text ≡ None

params_apart : (vs : List Variable) (ps : List Parameter) (text : List ℕ) → as_variables (names_of_vars vs) (names_of_params ps) ≡ []
    → Hides vs text (param_named ps text)
params_apart vs [] text h = tt
params_apart vs (p ∷ ps) text h =
    go (same_text p.name.text text) refl
    (params_apart vs ps text (back_empty (as_variable (names_of_vars vs) p.name) (as_variables (names_of_vars vs) (names_of_params ps)) h))
  where
    go : (b : Bool) → same_text p.name.text text ≡ b → Hides vs text (param_named ps text)
        → Hides vs text (cond b (Some (record { kind = p.kind.shape; monitor = 0 })) (param_named ps text))
    go true e k = apart_from vs p.name text
        (front_empty (as_variable (names_of_vars vs) p.name) (as_variables (names_of_vars vs) (names_of_params ps)) h) e
    go false e k = k

locals_apart : (vs : List Variable) (ls : List Local) (text : List ℕ) → as_variables (names_of_vars vs) (names_of_locals ls) ≡ []
    → Hides vs text (local_named ls text)
locals_apart vs [] text h = tt
locals_apart vs (v ∷ ls) text h =
    go (same_text v.name.text text) refl
    (locals_apart vs ls text (back_empty (as_variable (names_of_vars vs) v.name) (as_variables (names_of_vars vs) (names_of_locals ls)) h))
  where
    go : (b : Bool) → same_text v.name.text text ≡ b → Hides vs text (local_named ls text)
        → Hides vs text (cond b (Some (record { kind = v.kind.shape; monitor = 0 })) (local_named ls text))
    go true e k = apart_from vs v.name text
        (front_empty (as_variable (names_of_vars vs) v.name) (as_variables (names_of_vars vs) (names_of_locals ls)) h) e
    go false e k = k

hidden_open : (held : Option ℕ) (o : Option Seen) → o ≡ None → IsOpenSeen held o
hidden_open held o e = subst (IsOpenSeen held) (sym e) tt

seen_open : (vs : List Variable) (text : List ℕ) (held : Option ℕ) (p l : Option Seen) → Hides vs text p → Hides vs text l
    → with_item (or_else p (or_else l (var_named vs text))) (λ v. is_guarded held v.monitor) false ≡ true
    → IsOpenSeen held (var_named vs text)
seen_open vs text held (Some p) l h k e = hidden_open held (var_named vs text) h
seen_open vs text held None (Some l) h k e = hidden_open held (var_named vs text) k
seen_open vs text held None None h k e = go (var_named vs text) e
  where
    go : (o : Option Seen) → with_item o (λ v. is_guarded held v.monitor) false ≡ true → IsOpenSeen held o
    go None x = tt
    go (Some v) x = x

pub opens : (scope : Scope) (earlier : List (List ℕ)) (t : TypeTree) (left : Left) (held : Option ℕ) → IsScopeOf scope earlier t left
    → Opens scope held t
unfolding variable_named
opens scope earlier t left held is name h =
    let vars = names_of_vars t.vars in
    let both : as_variables vars (names_of_params scope.params) ++ as_variables vars (names_of_locals scope.locals) ≡ [] =
    sym (flat_map-append (as_variable vars) (names_of_params scope.params) (names_of_locals scope.locals)) ∙ is.apart in
    seen_open t.vars name held (param_named scope.params name) (local_named scope.locals name)
    (params_apart t.vars scope.params name
    (front_empty (as_variables vars (names_of_params scope.params)) (as_variables vars (names_of_locals scope.locals)) both))
    (locals_apart t.vars scope.locals name
    (back_empty (as_variables vars (names_of_params scope.params)) (as_variables vars (names_of_locals scope.locals)) both))
    (ap (λ vs. with_item (or_else (param_named scope.params name) (or_else (local_named scope.locals name) (var_named vs name)))
    (λ v. is_guarded held v.monitor) false) (sym is.vars) ∙ h)
