-- A type that a part declares keeps the rules behind the types before it, and none of them has its name.
use Rattle.std.proofs.Common.{◌≡◌, ◌∙◌, ap, refl, subst, List, ℕ, ◌-◌, Bool, true, false, cond, [], ◌∷◌, ◌++◌, Some, take, codes}
use Rattle.std.specs.List.{list_any}
use Rattle.std.specs.Str.{bytes_eq}
use Rattle.std.proofs.lemmas.List.{take-append-le}
use Rattle.std.proofs.lemmas.Slice.Eq.{bytes_eq-Decides}
use Rattle.eden_model.specs.Map.{same_text}
use Rattle.epl_syntax.specs.Rules.InItems.{broken_program}
use Rattle.epl_syntax.specs.Rules.OfTypes.{names_of}
use Rattle.epl_syntax.specs.Tree.{TypeTree, type_tree}
use Rattle.epl_syntax.specs.declared.token.TokenKind.{TokenKind}
use Rattle.epl_syntax.specs.declared.tree.Name.{Name}
use Rattle.epl_parser.specs.Program.{SpellsType, IsNamed}
use Rattle.eden_script.specs.Declarations.{types_in, type_names, declared_name}
use Rattle.script_words.specs.Form.{is_among}
use Rattle.eden_script.specs.Parts.{Part, line, declaration, unclosed, begins_type, ends_type, parts_of, parts_behind, line_of_place}
use Rattle.eden_script.specs.Tree.{Line, declares}
use Rattle.eden_script.specs.Causes.{IsSaid}
use Rattle.eden_script.specs.View.{KeepsRules, line_of, seen_of}
use Rattle.script_words.specs.declared.cause.ScriptCause.TheVariants.{DoubledName}
use Rattle.eden_script.specs.declared.line.Seen.{Seen}
use Rattle.eden_script.specs.declared.line.Line.{Line as CodeLine}
use Rattle.eden_script.specs.declared.line.Line.TheVariants as code
use Rattle.eden_script.proofs.Cutting.{begins_long}
use Rattle.eden_script.proofs.NamePlaces.{found_name}
use Rattle.eden_script.proofs.TypeNames.{same_names, has_name}

-- ## The text of an Edentype begins with `edentype`

abbrev Begins : List Part → Type 0
Begins (declaration text ∷ ps) = begins_type text ≡ true
Begins _ = Unit {0}

pub begins_more : (text more : List ℕ) → begins_type text ≡ true → begins_type (text ++ more) ≡ true
begins_more text more h = ap (λ (l : List ℕ). bytes_eq l (codes "edentype")) (take-append-le 8 text more (begins_long text h)) ∙ h

chosen : (b : Bool) (x y : List Part) → Begins x → Begins y → Begins (cond b x y)
chosen true x y h k = h
chosen false x y h k = k

behind_begins : (text : List ℕ) (lines : List (List ℕ)) → begins_type text ≡ true → Begins (parts_behind text lines)
behind_begins text [] h = tt
behind_begins text (bytes ∷ lines) h =
    chosen (ends_type bytes) (declaration (text ++ bytes) ∷ parts_of lines) (parts_behind (text ++ (bytes ++ 10 ∷ [])) lines)
    (begins_more text bytes h) (behind_begins (text ++ (bytes ++ 10 ∷ [])) lines (begins_more text (bytes ++ 10 ∷ []) h))

parts_begin : (lines : List (List ℕ)) → Begins (parts_of lines)
parts_begin [] = tt
parts_begin (bytes ∷ lines) = by (begins_type bytes) refl
  where
    by : (b : Bool) → begins_type bytes ≡ b → Begins (cond b (parts_behind (bytes ++ 10 ∷ []) lines) (line bytes ∷ parts_of lines))
    by true e = behind_begins (bytes ++ 10 ∷ []) lines (begins_more bytes (10 ∷ []) e)
    by false e = tt

-- ## What is found as its name is that of its tree

-- the name of a type stands in its text behind `edentype`
abbrev pub Named : Type 0
Named = (text : List ℕ) (e : TypeTree) → SpellsType text e → IsNamed text e.name

pub tree_name : (text : List ℕ) (name : Name) → begins_type text ≡ true → IsNamed text name
    → (place : ℕ) × (declared_name text ≡ Some (place, name.text))
tree_name text name begins h =
    let first = h.first in
    let second = h.second in
    let leads = h.spelled in
    let found =
    found_name text ((bytes_eq-Decides (take 8 text) (codes "edentype")).0 begins) first.start first.end second.start second.end leads.0
    (leads.2 ∙ ap (λ (k : TokenKind). Some (k, first.end - first.start)) h.is_word) leads.3 leads.4.0
    (leads.4.2 ∙ ap (λ (k : TokenKind). Some (k, second.end - second.start)) h.is_upper)
    in
    (second.start, found ∙ ap (λ (n : Name). Some (second.start, n.text)) h.is_name)

-- ## What a part declares

abbrev type_or : TypeTree → Line → TypeTree
type_or t (declares u) = u
type_or t _ = t

kept : (s : Seen) (p : Part) (t : TypeTree) → IsSaid (seen_of s) p (declares t) → broken_program (names_of s.types) t ≡ []
kept s (line bytes) t h = absurd h.tells.0
kept s (declaration text) t h =
    let same : t ≡ h.tells.0 = ap (type_or t) h.tells.1 in
    ap (λ (names : List (List ℕ)). broken_program names t) (same_names s.types)
    ∙ ap (broken_program (type_names (types_in s.types))) same
    ∙ h.tells.2.keeps_rules
kept s (unclosed lines) t h = absurd (cc (h.tells))

is_new : Named → (s : Seen) (p : Part) (ps : List Part) (t : TypeTree) → Begins (p ∷ ps) → IsSaid (seen_of s) p (declares t)
    → list_any (λ n. same_text n t.name.text) (names_of s.types) ≡ false
is_new named s (line bytes) ps t begins h = absurd h.tells.0
is_new named s (declaration text) ps t begins h =
    let same : t ≡ h.tells.0 = ap (type_or t) h.tells.1 in
    let found = tree_name text h.tells.0.name begins (named text h.tells.0 h.tells.2.spelled) in
    let new_ = h.passes (line_of_place text found.0) DoubledName found.0 h.tells.0.name.text found.1 refl in
    has_name s.types t.name.text ∙ ap (λ (u : TypeTree). is_among (type_names (types_in s.types)) u.name.text) same ∙ new_
is_new named s (unclosed lines) ps t begins h = absurd (cc (h.tells))

pub keeps_rules : Named → (s : Seen) (lines : List (List ℕ)) (p : Part) (ps : List Part) (l : CodeLine) → parts_of lines ≡ p ∷ ps
    → IsSaid (seen_of s) p (line_of l) → KeepsRules s.types l
keeps_rules named s lines p ps code.Idle e h = tt
keeps_rules named s lines p ps (code.Nodes n) e h = tt
keeps_rules named s lines p ps (code.Does o) e h = tt
keeps_rules named s lines p ps (code.Declares c) e h =
    (kept s p (type_tree c.program) h, is_new named s p ps (type_tree c.program) (subst Begins e (parts_begin lines)) h)
keeps_rules named s lines p ps code.Unended e h = tt
