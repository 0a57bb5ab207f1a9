-- The types of a script keep the rules, each behind those before it, no two of them have one name, and their constants are values.
use Rattle.std.proofs.Common.{◌≡◌, ◌∙◌, ap, sym, refl, subst, ℕ, Bool, true, false, cond, List, [], ◌∷◌, ◌++◌, map, append_assoc}
use Rattle.std.specs.List.{AllByRecursion, IsDistinct, list_any}
use Rattle.eden_model.specs.Map.{same_text}
use Rattle.epl_syntax.specs.Natives.{native_name, native_types}
use Rattle.epl_syntax.specs.declared.rule.Broken.{Broken}
use Rattle.epl_syntax.specs.declared.tree.Program.{Program}
use Rattle.epl_syntax.specs.Tree.{TypeTree, type_tree}
use Rattle.epl_syntax.specs.Constants.{TreeFits, HaveValues}
use Rattle.epl_syntax.specs.Rules.InItems.{broken_program}
use Rattle.epl_syntax.specs.Rules.OfTypes.{broken_types, NamesDiffer, KeepRules, HasMonitors, HaveMonitors}
use Rattle.epl_syntax.proofs.KeptTypes.{all_push, distinct_push, native_kept}
use Rattle.epl_parser.specs.Program.{SpellsType, AreInMonitors}
use Rattle.journal.specs.declared.command.Script.{Script}
use Rattle.eden_script.specs.Parts.{Part, line, declaration, unclosed, begins_type, ends_type, parts_of, parts_behind}
use Rattle.script_words.specs.Lines.{lines_of}
use Rattle.eden_script.specs.Parts.{line_of_place}
use Rattle.eden_script.specs.Tree.{WrittenCommand, Line, idle, nodes, does, declares, unended}
use Rattle.eden_script.specs.Declarations.{Types, native_alone, with_declared, type_names}
use Rattle.eden_script.specs.Causes.{Seen, at_first, IsSaid}
use Rattle.eden_script.specs.Meaning.{written_command}
use Rattle.eden_script.specs.Script.{after, Says, IsScript}
use Rattle.script_words.specs.declared.cause.ScriptCause.TheVariants.{DoubledName}
use Rattle.eden_script.proofs.TypeNames.{same_names, among}
use Rattle.eden_script.proofs.KeptRules.{Named, begins_more, tree_name}

-- ## The text of each declaration begins with `edentype`

abbrev AllBegin : List Part → Type 0
AllBegin [] = Unit {0}
AllBegin (line bytes ∷ ps) = AllBegin ps
AllBegin (declaration text ∷ ps) = (begins_type text ≡ true) × AllBegin ps
AllBegin (unclosed lines ∷ ps) = AllBegin ps

chosen : (b : Bool) (x y : List Part) → AllBegin x → AllBegin y → AllBegin (cond b x y)
chosen true x y h k = h
chosen false x y h k = k

part_begins : (bytes : List ℕ) (lines : List (List ℕ)) → AllBegin (parts_of lines)
    → (begins_type (bytes ++ 10 ∷ []) ≡ true → AllBegin (parts_behind (bytes ++ 10 ∷ []) lines)) → AllBegin (parts_of (bytes ∷ lines))
part_begins bytes lines rest behind = by (begins_type bytes) refl
  where
    by : (b : Bool) → begins_type bytes ≡ b → AllBegin (cond b (parts_behind (bytes ++ 10 ∷ []) lines) (line bytes ∷ parts_of lines))
    by true e = behind (begins_more bytes (10 ∷ []) e)
    by false e = rest

mutual
  parts_begin : (lines : List (List ℕ)) → AllBegin (parts_of lines)
  parts_begin [] = tt
  parts_begin (bytes ∷ lines) = part_begins bytes lines (parts_begin lines) (λ h. behind_begin (bytes ++ 10 ∷ []) lines h)

  behind_begin : (text : List ℕ) (lines : List (List ℕ)) → begins_type text ≡ true → AllBegin (parts_behind text lines)
  behind_begin text [] h = tt
  behind_begin text (bytes ∷ lines) h =
      chosen (ends_type bytes) (declaration (text ++ bytes) ∷ parts_of lines) (parts_behind (text ++ (bytes ++ 10 ∷ [])) lines)
      (begins_more text bytes h, parts_begin lines) (behind_begin (text ++ (bytes ++ 10 ∷ [])) lines
      (begins_more text (bytes ++ 10 ∷ []) h))

-- ## One more type

-- what types break, of which each sees those before it
abbrev broken_trees : List (List ℕ) → List TypeTree → List Broken
broken_trees names [] = []
broken_trees names (t ∷ ts) = broken_program names t ++ broken_trees (names ++ t.name.text ∷ []) ts

same_broken : (names : List (List ℕ)) (ps : List Program) → broken_types names ps ≡ broken_trees names (map type_tree ps)
same_broken names [] = refl
same_broken names (p ∷ ps) = ap (λ l. broken_program names (type_tree p) ++ l) (same_broken (names ++ p.name.text ∷ []) ps)

front_empty : (xs ys : List Broken) → xs ++ ys ≡ [] → xs ≡ []
front_empty [] ys h = refl
front_empty (x ∷ xs) ys h = absurd cc

both_empty : (xs ys : List Broken) → xs ≡ [] → ys ≡ [] → xs ++ ys ≡ []
both_empty xs ys h k = ap (λ l. l ++ ys) h ∙ k

back_empty : (xs ys : List Broken) → xs ++ ys ≡ [] → ys ≡ []
back_empty xs ys h = sym (ap (λ l. l ++ ys) (front_empty xs ys h)) ∙ h

append_nothing : (xs : List (List ℕ)) → xs ++ [] ≡ xs
append_nothing [] = refl
append_nothing (x ∷ xs) = ap (λ l. x ∷ l) (append_nothing xs)

one_more : (names : List (List ℕ)) (ts : List TypeTree) (t : TypeTree) → broken_trees names ts ≡ []
    → broken_program (names ++ map (λ u. u.name.text) ts) t ≡ [] → broken_trees names (ts ++ t ∷ []) ≡ []
one_more names [] t h k =
    both_empty (broken_program names t) [] (ap (λ n. broken_program n t) (sym (append_nothing names)) ∙ k) refl
one_more names (u ∷ ts) t h k =
    let this = broken_program names u in
    let next = names ++ u.name.text ∷ [] in
    both_empty this (broken_trees next (ts ++ t ∷ [])) (front_empty this (broken_trees next ts) h)
    (one_more next ts t (back_empty this (broken_trees next ts) h)
    (ap (λ n. broken_program n t) (append_assoc names (u.name.text ∷ []) (map (λ v. v.name.text) ts)) ∙ k))

texts_more : (ts : List TypeTree) (t : TypeTree)
    → map (λ (u : TypeTree). u.name.text) (ts ++ t ∷ []) ≡ map (λ (u : TypeTree). u.name.text) ts ++ t.name.text ∷ []
texts_more [] t = refl
texts_more (u ∷ ts) t = ap (λ l. u.name.text ∷ l) (texts_more ts t)

pub record TypesFit (ts : Types) : Type 0 where
  pub keep_rules : broken_trees (map native_name ts.native) ts.declared ≡ []
  pub names_differ : IsDistinct same_text (type_names ts)
  pub in_monitors : AllByRecursion AreInMonitors ts.declared
  pub have_values : AllByRecursion TreeFits ts.declared

fit_more : (ts : Types) (t : TypeTree) → TypesFit ts → broken_program (type_names ts) t ≡ []
    → list_any (λ n. same_text n t.name.text) (type_names ts) ≡ false → AreInMonitors t → TreeFits t → TypesFit (with_declared ts t)
fit_more ts t fit rules new inside values =
    let names = map native_name ts.native in
    let texts = map (λ (u : TypeTree). u.name.text) ts.declared in
    let more : type_names ts ++ t.name.text ∷ [] ≡ type_names (with_declared ts t) =
    append_assoc names texts (t.name.text ∷ []) ∙ ap (λ l. names ++ l) (sym (texts_more ts.declared t)) in
    record {
      keep_rules = one_more names ts.declared t fit.keep_rules rules;
      names_differ = subst (IsDistinct same_text) more (distinct_push same_text (type_names ts) t.name.text fit.names_differ new);
      in_monitors = all_push AreInMonitors ts.declared t fit.in_monitors inside;
      have_values = all_push TreeFits ts.declared t fit.have_values values;
    }

-- ## Every part

-- the conditions of a type that a text spells are of its monitors
abbrev pub Inside : Type 0
Inside = (text : List ℕ) (e : TypeTree) → SpellsType text e → AreInMonitors e

-- the constants of a type that a text spells are values
abbrev pub Valued : Type 0
Valued = (text : List ℕ) (e : TypeTree) → SpellsType text e → TreeFits e

said_fits : Named → Inside → Valued → (seen : Seen) (p : Part) (ps : List Part) (l : Line) → AllBegin (p ∷ ps) → IsSaid seen p l
    → TypesFit seen.types
    → TypesFit (after seen l).types
said_fits named inside valued seen (line bytes) ps idle begin h fit = fit
said_fits named inside valued seen (line bytes) ps (nodes n) begin h fit = fit
said_fits named inside valued seen (line bytes) ps (does o) begin h fit = fit
said_fits named inside valued seen (line bytes) ps (declares t) begin h fit = absurd h.tells.0
said_fits named inside valued seen (line bytes) ps unended begin h fit = fit
said_fits named inside valued seen (declaration text) ps l begin h fit =
    let t = h.tells.0 in
    let found = tree_name text t.name begin.0 (named text t h.tells.2.spelled) in
    let new_ = h.passes (line_of_place text found.0) DoubledName found.0 t.name.text found.1 refl in
    subst (λ (k : Line). TypesFit (after seen k).types) (sym h.tells.1)
    (fit_more seen.types t fit h.tells.2.keeps_rules (among (type_names seen.types) t.name.text ∙ new_)
    (inside text t h.tells.2.spelled) (valued text t h.tells.2.spelled))
said_fits named inside valued seen (unclosed lines) ps l begin h fit =
    subst (λ (k : Line). TypesFit (after seen k).types) (sym h.tells) fit

begin_behind : (p : Part) (ps : List Part) → AllBegin (p ∷ ps) → AllBegin ps
begin_behind (line bytes) ps h = h
begin_behind (declaration text) ps h = h.1
begin_behind (unclosed lines) ps h = h

says_fit : Named → Inside → Valued → (ps : List Part) (seen end : Seen) (orders : List WrittenCommand) → AllBegin ps
    → Says seen ps orders end → TypesFit seen.types → TypesFit end.types
says_fit named inside valued [] seen end orders begin says fit = subst (λ (s : Seen). TypesFit s.types) (sym says.1) fit
says_fit named inside valued (p ∷ ps) seen end orders begin says fit =
    says_fit named inside valued ps (after seen says.0) end says.1 (begin_behind p ps begin) says.4
    (said_fits named inside valued seen p ps says.0 begin says.2 fit)

native_fit : TypesFit native_alone
native_fit = record { keep_rules = refl; names_differ = (native_kept native_types [] refl refl).2; in_monitors = tt; have_values = tt }

-- ## The script

trees_inside : (ps : List Program) → AllByRecursion AreInMonitors (map type_tree ps) → AllByRecursion HasMonitors ps
trees_inside [] h = tt
trees_inside (p ∷ ps) h = (h.0, trees_inside ps h.1)

trees_valued : (ps : List Program) → AllByRecursion TreeFits (map type_tree ps) → AllByRecursion (λ p. TreeFits (type_tree p)) ps
trees_valued [] h = tt
trees_valued (p ∷ ps) h = (h.0, trees_valued ps h.1)

pub types_fit : Named → Inside → Valued → (bytes : List ℕ) (script : Script) → IsScript bytes script
    → KeepRules script.types × NamesDiffer script.types × HaveMonitors script.types × HaveValues script.types
types_fit named inside valued bytes script s =
    let fit =
    subst TypesFit s.types (says_fit named inside valued (parts_of (lines_of bytes)) at_first s.end (map written_command script.commands)
    (parts_begin (lines_of bytes)) s.says native_fit) in (
      same_broken (map native_name script.types.native) script.types.declared ∙ fit.keep_rules,
      subst (IsDistinct same_text) (sym (same_names script.types)) fit.names_differ,
      trees_inside script.types.declared fit.in_monitors,
      trees_valued script.types.declared fit.have_values,
    )
