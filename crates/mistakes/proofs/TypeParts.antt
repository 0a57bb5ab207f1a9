-- The Edentype that a part is, as the code has it.
use Rattle.std.proofs.Common.{◌≡◌, ◌∙◌, ap, sym, refl, subst, List, ℕ, ◌+◌, ◌-◌, ◌<◌, Bool, true, false, cond, [], ◌∷◌, ◌++◌, length, arith}
use Rattle.std.proofs.Common.{length-append, Ok, Err}
use Rattle.std.specs.Prelude.{Result, IfOk}
use Rattle.std.specs.List.{list_any}
use Rattle.std.proofs.lemmas.List.{map-append}
use Rattle.eden_model.specs.Map.{same_text}
use Rattle.epl_syntax.specs.Rules.InItems.{broken_program}
use Rattle.epl_syntax.specs.Rules.OfTypes.{TypeList, names_of, native_only, with_type}
use Rattle.epl_syntax.specs.Tree.{TypeTree, type_tree}
use Rattle.epl_syntax.specs.declared.tree.Program.{Program}
use Rattle.eden_script.specs.Declarations.{DECLARED_LIMIT, types_in, with_declared, Declares}
use Rattle.eden_script.specs.Parts.{Part, line, declaration, begins_type, ends_type, parts_of, parts_behind}
use Rattle.script_words.specs.Lines.{lines_of}
use Rattle.eden_script.specs.Script.{IsBadLine}
use Rattle.script_words.specs.declared.cause.ScriptCause.TheVariants.{BadEdentype}
use Rattle.eden_script.proofs.Cutting.{part_line}
use Rattle.eden_script.proofs.DeclarationLaws.{OneAnswer}
use Rattle.eden_script.proofs.KeptRules.{Named, begins_more, tree_name}
use Rattle.eden_script.proofs.TypeNames.{same_names, has_name}
use Rattle.mistakes.specs.TypePlaces.{IsFault, IsBadType}
use Rattle.mistakes.specs.declared.bad_type.BadType.{BadType}
use Rattle.mistakes.specs.declared.mistake.TypeFault.{TypeFault}
use Rattle.mistakes.specs.declared.mistake.TypeFault.TheVariants.{TooMany}
use Rattle.mistakes.proofs.BadTypes.{Way, way_first, way_line, way_type, way_new, way_bad, way_full}

-- ## The text of an Edentype begins with `edentype`

abbrev Begins : List Part → Type 0
Begins (declaration text ∷ ps) = begins_type text ≡ true
Begins _ = Unit {0}

chosen : (b : Bool) (x y : List Part) → Begins x → Begins y → Begins (cond b x y)
chosen true x y h k = h
chosen false x y h k = k

behind_begins : (text : List ℕ) (lines : List (List ℕ)) → begins_type text ≡ true → Begins (parts_behind text lines)
behind_begins text [] h = tt
behind_begins text (bytes ∷ lines) h =
    chosen (ends_type bytes) (declaration (text ++ bytes) ∷ parts_of lines) (parts_behind (text ++ (bytes ++ 10 ∷ [])) lines)
    (begins_more text bytes h) (behind_begins (text ++ (bytes ++ 10 ∷ [])) lines (begins_more text (bytes ++ 10 ∷ []) h))

parts_begin : (lines : List (List ℕ)) → Begins (parts_of lines)
parts_begin [] = tt
parts_begin (bytes ∷ lines) = by (begins_type bytes) refl
  where
    by : (b : Bool) → begins_type bytes ≡ b → Begins (cond b (parts_behind (bytes ++ 10 ∷ []) lines) (line bytes ∷ parts_of lines))
    by true e = behind_begins (bytes ++ 10 ∷ []) lines (begins_more bytes (10 ∷ []) e)
    by false e = tt

-- ## The types of the code

added : (types : TypeList) (p : Program) → types_in (with_type types p) ≡ with_declared (types_in types) (type_tree p)
added types p =
    ap (λ (ds : List TypeTree). record { native = types.native; declared = ds }) (map-append type_tree types.declared (p ∷ []))

-- the bad line stands in the rest, and so many types may be declared yet
pub record Going (bytes rest : List ℕ) (at : ℕ) (types : TypeList) (room : ℕ) : Type 0 where
  pub way : Way bytes rest at (types_in types)
  pub counted : room + length (types_in types).declared ≡ DECLARED_LIMIT

pub going_first : (bytes : List ℕ) (at : ℕ) (types : TypeList) → IsBadLine bytes at BadEdentype → types ≡ native_only
    → Going bytes bytes at types 64
going_first bytes at types h e =
    subst (λ (ts : TypeList). Going bytes bytes at ts 64) (sym e) (record { way = way_first bytes at h; counted = omega arith })

pub going_line : (bytes rest first behind : List ℕ) (at : ℕ) (types : TypeList) (room : ℕ) → Going bytes rest at types room
    → lines_of rest ≡ first ∷ lines_of behind → begins_type first ≡ false → Going bytes behind at types room
going_line bytes rest first behind at types room g e h = record {
  way = way_line bytes rest first behind at (types_in types) g.way (ap parts_of e ∙ part_line first (lines_of behind) h);
  counted = g.counted;
}

module _ (laws : OneAnswer) where
  pub going_type : (bytes rest text behind : List ℕ) (at : ℕ) (types next : TypeList) (room : ℕ) (p : Program)
      → Going bytes rest at types room
      → parts_of (lines_of rest) ≡ declaration text ∷ parts_of (lines_of behind) → (room ≡ 0 → ⊥)
      → Declares (types_in types) text (type_tree p) → next ≡ with_type types p → Going bytes behind at next (room - 1)
  going_type bytes rest text behind at types next room p g e some h same =
      let w = way_type laws bytes rest text behind at (types_in types) (type_tree p) g.way e (omega (arith, g.counted, some)) h in
      subst (λ (ts : TypeList). Going bytes behind at ts (room - 1)) (sym same) (record {
        way = subst (Way bytes behind at) (sym (added types p)) w;
        counted = omega (
          arith,
          g.counted,
          some,
          ap (λ ts. length ts.declared) (added types p),
          length-append (types_in types).declared (type_tree p ∷ []),
        );
      })

  pub going_new : Named → (bytes rest text behind : List ℕ) (at : ℕ) (types : TypeList) (room : ℕ) (t : TypeTree)
      → Going bytes rest at types room
      → parts_of (lines_of rest) ≡ declaration text ∷ parts_of (lines_of behind) → (room ≡ 0 → ⊥)
      → Declares (types_in types) text t → list_any (λ n. same_text n t.name.text) (names_of types) ≡ false
  going_new named bytes rest text behind at types room t g e some h =
      let begins : begins_type text ≡ true = subst Begins e (parts_begin (lines_of rest)) in
      let found = tree_name text t.name begins (named text t h.spelled) in
      has_name types t.name.text
      ∙ way_new laws bytes rest text behind at (types_in types) t found.0 t.name.text g.way e (omega (arith, g.counted, some)) h found.1

  pub going_bad : (bytes rest text behind : List ℕ) (at : ℕ) (types : TypeList) (room place : ℕ) (fault : TypeFault)
      → Going bytes rest at types room
      → parts_of (lines_of rest) ≡ declaration text ∷ parts_of (lines_of behind) → (room ≡ 0 → ⊥)
      → IsFault (types_in types) text place fault → IsBadType bytes at text place fault
  going_bad bytes rest text behind at types room place fault g e some h =
      way_bad laws bytes rest text behind at (types_in types) place fault g.way e (omega (arith, g.counted, some)) h

pub going_refused : {E : Type 0} → OneAnswer → (bytes rest text behind : List ℕ) (at : ℕ) (types : TypeList) (room : ℕ) (r : Result BadType E)
    → Going bytes rest at types room → parts_of (lines_of rest) ≡ declaration text ∷ parts_of (lines_of behind) → (room ≡ 0 → ⊥)
    → IfOk r (λ b. (b.text.now ≡ text) × IsFault (types_in types) text b.place b.fault)
    → IfOk r (λ b. IsBadType bytes at b.text.now b.place b.fault)
going_refused laws bytes rest text behind at types room (Ok b) g e some h =
    subst (λ (t : List ℕ). IsBadType bytes at t b.place b.fault) (sym h.0)
    (going_bad laws bytes rest text behind at types room b.place b.fault g e some h.1)
going_refused laws bytes rest text behind at types room (Err x) g e some h = tt

pub refused_short : {E : Type 0} → (P : BadType → Type 0) (text : List ℕ) (most : ℕ) (r : Result BadType E) → length text < most
    → IfOk r (λ b. (b.text.now ≡ text) × P b) → IfOk r (λ b. length b.text.now < most)
refused_short P text most (Ok b) short h = subst (λ (t : List ℕ). length t < most) (sym h.0) short
refused_short P text most (Err x) short h = tt

pub going_full : (bytes rest text behind : List ℕ) (at : ℕ) (types : TypeList) (room : ℕ) → Going bytes rest at types room
    → parts_of (lines_of rest) ≡ declaration text ∷ parts_of (lines_of behind) → room ≡ 0 → IsBadType bytes at text 0 TooMany
going_full bytes rest text behind at types room g e none =
    way_full bytes rest text behind at (types_in types) g.way e (omega (arith, g.counted, none))

pub keeps : (types : TypeList) (text : List ℕ) (t : TypeTree) → Declares (types_in types) text t → broken_program (names_of types) t ≡ []
keeps types text t h = ap (λ (names : List (List ℕ)). broken_program names t) (same_names types) ∙ h.keeps_rules
