-- The names of types, as the code has them and by their trees.
use Rattle.std.proofs.Common.{◌≡◌, ◌∙◌, ap, refl, ℕ, Bool, List, [], ◌∷◌, ◌++◌, ◌||◌, map}
use Rattle.std.specs.List.{list_any}
use Rattle.std.specs.Str.{bytes_eq}
use Rattle.std.proofs.lemmas.Map.Text.{is_eq-slice_cmp}
use Rattle.eden_model.specs.Map.{same_text}
use Rattle.epl_syntax.specs.Natives.{native_name}
use Rattle.epl_syntax.specs.Rules.OfTypes.{TypeList, names_of}
use Rattle.epl_syntax.specs.Tree.{TypeTree, type_tree}
use Rattle.epl_syntax.specs.declared.tree.Program.{Program}
use Rattle.script_words.specs.Form.{is_among}
use Rattle.eden_script.specs.Declarations.{types_in, type_names}

declared_names : (ps : List Program) → map (λ (p : Program). p.name.text) ps ≡ map (λ (t : TypeTree). t.name.text) (map type_tree ps)
declared_names [] = refl
declared_names (p ∷ ps) = ap (λ (l : List (List ℕ)). p.name.text ∷ l) (declared_names ps)

pub same_names : (types : TypeList) → names_of types ≡ type_names (types_in types)
same_names types = ap (λ (l : List (List ℕ)). map native_name types.native ++ l) (declared_names types.declared)

-- whether a name is among these
pub among : (names : List (List ℕ)) (name : List ℕ) → list_any (λ t. same_text t name) names ≡ is_among names name
among [] name = refl
among (n ∷ names) name =
    ap (λ (b : Bool). b || list_any (λ t. same_text t name) names) (is_eq-slice_cmp n name)
    ∙ ap (λ (b : Bool). bytes_eq n name || b) (among names name)

-- whether a type has a name
pub has_name : (types : TypeList) (name : List ℕ)
    → list_any (λ t. same_text t name) (names_of types) ≡ is_among (type_names (types_in types)) name
has_name types name = among (names_of types) name ∙ ap (λ (l : List (List ℕ)). is_among l name) (same_names types)
