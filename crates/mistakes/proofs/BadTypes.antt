-- The Edentype in which the first bad line stands, part by part.
use Rattle.std.proofs.Common.{◌≡◌, ◌∙◌, ap, sym, refl, subst, ℕ, zero, suc, ◌+◌, ◌<◌, List, [], ◌∷◌, ◌++◌, length, Some, false, inl, inr, arith}
use Rattle.std.proofs.lemmas.Bool.{cases_order}
use Rattle.epl_syntax.specs.Tree.{TypeTree}
use Rattle.eden_script.specs.Parts.{Part, line, declaration, unclosed, parts_of, lines_in, line_count, line_of_place}
use Rattle.script_words.specs.Lines.{lines_of}
use Rattle.script_words.specs.Form.{is_among}
use Rattle.eden_script.specs.Declarations.{DECLARED_LIMIT, Types, native_alone, with_declared, type_names, declared_name, Declares, RefusedAt}
use Rattle.eden_script.specs.Tree.{WrittenCommand, Line, idle, nodes, does, declares, unended}
use Rattle.eden_script.specs.Causes.{Seen, at_first, IsCause, IsSaid}
use Rattle.eden_script.specs.Script.{after, commands_of, Says, IsBadIn, IsBadLine}
use Rattle.script_words.specs.declared.cause.ScriptCause.TheVariants.{BadEdentype, DoubledName, NoEnd}
use Rattle.eden_script.proofs.DeclarationLaws.{OneAnswer, one_place, never_both, one_type}
use Rattle.mistakes.specs.TypePlaces.{IsFault, IsBadTypeIn, IsBadType}
use Rattle.mistakes.specs.declared.mistake.TypeFault.{TypeFault}
use Rattle.mistakes.specs.declared.mistake.TypeFault.TheVariants.{TooMany, BadToken, TooDeep, Broken}

-- ## A fault is a place at which the text is refused

refused_there : (types : Types) (text : List ℕ) (place : ℕ) (fault : TypeFault) → length types.declared < DECLARED_LIMIT
    → IsFault types text place fault → RefusedAt types text place
refused_there types text place TooMany room h = absurd (omega (arith, h.1, room))
refused_there types text place BadToken room h = inl (inl h)
refused_there types text place TooDeep room h = inl (inr h)
refused_there types text place (Broken r d) room h = inr (record { value = h.0; spelled = h.1; rule = r; first = h.2 })

-- ## The first part

-- Of parts with a bad line for a type, the first has it, or says something behind which it stands.
pub data First (seen : Seen) (p : Part) (parts : List Part) (left : ℕ) : Type 0 where
  is_bad : (i : ℕ) → left ≡ i + 1 → IsCause seen p i BadEdentype → First seen p parts left
  is_said : (l : Line) → (more : ℕ) → IsSaid seen p l → left ≡ length (lines_in p) + more → IsBadIn (after seen l) parts more BadEdentype
      → First seen p parts left

abbrev head_or : Part → List Part → Part
head_or z [] = z
head_or z (p ∷ ps) = p

abbrev tail_of : List Part → List Part
tail_of [] = []
tail_of (p ∷ ps) = ps

no_end_apart : {A : Type 0} → BadEdentype ≡ NoEnd → A
no_end_apart e = absurd cc

pub none_bad : (seen : Seen) (left : ℕ) → IsBadIn seen [] left BadEdentype → ⊥
none_bad seen left h = elim h.bad [
  | inl x ↦ nothing h.before x.0 x.1 x.3
  | inr x ↦ no_end_apart x.3
]
  where
    nothing : (before : List Part) (p : Part) (behind : List Part) → [] ≡ before ++ p ∷ behind → ⊥
    nothing [] p behind e = absurd cc
    nothing (q ∷ before) p behind e = absurd cc

pub first_part : (seen : Seen) (p : Part) (parts : List Part) (left : ℕ) → IsBadIn seen (p ∷ parts) left BadEdentype
    → First seen p parts left
first_part seen p parts left h = elim h.bad [
  | inl x ↦ by h.before h.orders h.says x.0 x.1 x.2 x.3 x.4 x.5
  | inr x ↦ no_end_apart x.3
]
  where
    by : (before : List Part) (orders : List WrittenCommand) → Says seen before orders h.end → (q : Part) (behind : List Part) (i : ℕ)
        → p ∷ parts ≡ before ++ q ∷ behind → left ≡ line_count before + i + 1 → IsCause h.end q i BadEdentype → First seen p parts left
    by [] orders says q behind i e k cause =
        is_bad i (omega (arith, k))
        (subst (λ (z : Part). IsCause seen z i BadEdentype) (sym (ap (head_or p) e)) (subst (λ (s : Seen). IsCause s q i BadEdentype) says.1 cause))
    by (m ∷ before) orders says q behind i e k cause =
        let same : p ≡ m = ap (head_or p) e in
        is_said says.0 (line_count before + i + 1) (subst (λ (z : Part). IsSaid seen z says.0) (sym same) says.2)
        (omega (arith, k, ap (λ (z : Part). length (lines_in z)) same)) (record {
          before = before;
          orders = says.1;
          end = h.end;
          says = says.4;
          bad = inl (q, behind, i, ap tail_of e, refl, cause);
        })

-- ## On the way to the bad line

-- The bad line stands in the rest, behind these types; and where a type is bad in the rest, it is so in the whole.
pub record Way (bytes rest : List ℕ) (at : ℕ) (types : Types) : Type 0 where
  pub seen : Seen
  pub left : ℕ
  pub bad : IsBadIn seen (parts_of (lines_of rest)) left BadEdentype
  pub known : seen.types ≡ types
  pub back : (text : List ℕ) (place : ℕ) (fault : TypeFault) → IsBadTypeIn seen (parts_of (lines_of rest)) left text place fault
      → IsBadType bytes at text place fault

pub way_first : (bytes : List ℕ) (at : ℕ) → IsBadLine bytes at BadEdentype → Way bytes bytes at native_alone
way_first bytes at h = record { seen = at_first; left = at; bad = h; known = refl; back = λ text place fault k. k }

later : (seen : Seen) (l : Line) (p : Part) (parts : List Part) (more : ℕ) (text : List ℕ) (place : ℕ) (fault : TypeFault)
    → IsSaid seen p l → IsBadTypeIn (after seen l) parts more text place fault
    → IsBadTypeIn seen (p ∷ parts) (length (lines_in p) + more) text place fault
later seen l p parts more text place fault said h = record {
  before = p ∷ h.before;
  orders = commands_of l ++ h.orders;
  end = h.end;
  says = (l, h.orders, said, refl, h.says);
  behind = h.behind;
  cut = ap (λ (ps : List Part). p ∷ ps) h.cut;
  refused = h.refused;
  counted = omega (arith, h.counted);
}

-- behind a part that says something
way_on : (bytes rest behind : List ℕ) (at : ℕ) (types after_types : Types) (w : Way bytes rest at types) (p : Part) (l : Line) (more : ℕ)
    → parts_of (lines_of rest) ≡ p ∷ parts_of (lines_of behind) → IsSaid w.seen p l → w.left ≡ length (lines_in p) + more
    → IsBadIn (after w.seen l) (parts_of (lines_of behind)) more BadEdentype → (after w.seen l).types ≡ after_types
    → Way bytes behind at after_types
way_on bytes rest behind at types after_types w p l more e said k bad same = record {
  seen = after w.seen l;
  left = more;
  bad = bad;
  known = same;
  back = λ text place fault h.
      w.back text place fault
      (subst (λ (ps : List Part). IsBadTypeIn w.seen ps w.left text place fault) (sym e)
      (subst (λ (n : ℕ). IsBadTypeIn w.seen (p ∷ parts_of (lines_of behind)) n text place fault) (sym k)
      (later w.seen l p (parts_of (lines_of behind)) more text place fault said h)));
}

-- the first part of the rest
at_part : (bytes rest : List ℕ) (at : ℕ) (types : Types) (w : Way bytes rest at types) (p : Part) (parts : List Part)
    → parts_of (lines_of rest) ≡ p ∷ parts → First w.seen p parts w.left
at_part bytes rest at types w p parts e =
    first_part w.seen p parts w.left (subst (λ (ps : List Part). IsBadIn w.seen ps w.left BadEdentype) e w.bad)

-- ## A line

same_types : (seen : Seen) (bytes : List ℕ) (l : Line) → IsSaid seen (line bytes) l → (after seen l).types ≡ seen.types
same_types seen bytes idle h = refl
same_types seen bytes (nodes n) h = refl
same_types seen bytes (does o) h = refl
same_types seen bytes (declares t) h = absurd h.tells.0
same_types seen bytes unended h = absurd h.tells.0

pub way_line : (bytes rest first behind : List ℕ) (at : ℕ) (types : Types) → Way bytes rest at types
    → parts_of (lines_of rest) ≡ line first ∷ parts_of (lines_of behind) → Way bytes behind at types
way_line bytes rest first behind at types w e = elim (at_part bytes rest at types w (line first) (parts_of (lines_of behind)) e) [
  | is_bad i k cause ↦ absurd (cause.fails tt)
  | is_said l more s k h ↦
      way_on bytes rest behind at types types w (line first) l more e s k h (same_types w.seen first l s ∙ w.known)
]

-- ## The end

pub way_some : (bytes rest : List ℕ) (at : ℕ) (types : Types) → Way bytes rest at types → rest ≡ [] → ⊥
way_some bytes rest at types w e =
    none_bad w.seen w.left
    (subst (λ (l : List ℕ). IsBadIn w.seen (parts_of (lines_of l)) w.left BadEdentype) e w.bad)

pub way_closed : (bytes rest : List ℕ) (lines : List (List ℕ)) (at : ℕ) (types : Types) → Way bytes rest at types
    → parts_of (lines_of rest) ≡ unclosed lines ∷ [] → ⊥
way_closed bytes rest lines at types w e = elim (at_part bytes rest at types w (unclosed lines) [] e) [
  | is_bad i k cause ↦ cause.fails tt
  | is_said l more s k h ↦ none_bad (after w.seen l) more h
]

-- ## An Edentype

module _ (laws : OneAnswer) where
  -- one that declares a type is said
  good_said : (seen : Seen) (text : List ℕ) (parts : List Part) (left : ℕ) (t : TypeTree) → length seen.types.declared < DECLARED_LIMIT
      → Declares seen.types text t → (i : ℕ) → IsCause seen (declaration text) i BadEdentype → ⊥
  good_said seen text parts left t room h i cause =
      cause.fails (λ e. room, λ place r e. never_both laws seen.types text t place h r)

  same_type : (seen : Seen) (text : List ℕ) (t : TypeTree) (l : Line) → Declares seen.types text t → IsSaid seen (declaration text) l
      → l ≡ declares t
  same_type seen text t l h s =
      s.tells.1 ∙ ap (λ (u : TypeTree). declares u) (one_type laws seen.types text s.tells.0 t s.tells.2 h)

  pub way_type : (bytes rest text behind : List ℕ) (at : ℕ) (types : Types) (t : TypeTree) → Way bytes rest at types
      → parts_of (lines_of rest) ≡ declaration text ∷ parts_of (lines_of behind) → length types.declared < DECLARED_LIMIT
      → Declares types text t → Way bytes behind at (with_declared types t)
  way_type bytes rest text behind at types t w e room h =
      let room' = subst (λ (ts : Types). length ts.declared < DECLARED_LIMIT) (sym w.known) room in
      let h' = subst (λ (ts : Types). Declares ts text t) (sym w.known) h in
      elim (at_part bytes rest at types w (declaration text) (parts_of (lines_of behind)) e) [
        | is_bad i k cause ↦ absurd (good_said w.seen text (parts_of (lines_of behind)) w.left t room' h' i cause)
        | is_said l more s k b ↦
            way_on bytes rest behind at types (with_declared types t) w (declaration text) l more e s k b
            (ap (λ (m : Line). (after w.seen m).types) (same_type w.seen text t l h' s)
            ∙ ap (λ (ts : Types). with_declared ts t) w.known)
      ]

  -- the name of a type that is declared is new
  pub way_new : (bytes rest text behind : List ℕ) (at : ℕ) (types : Types) (t : TypeTree) (place : ℕ) (name : List ℕ)
      → Way bytes rest at types
      → parts_of (lines_of rest) ≡ declaration text ∷ parts_of (lines_of behind) → length types.declared < DECLARED_LIMIT
      → Declares types text t → declared_name text ≡ Some (place, name) → is_among (type_names types) name ≡ false
  way_new bytes rest text behind at types t place name w e room h named =
      let room' = subst (λ (ts : Types). length ts.declared < DECLARED_LIMIT) (sym w.known) room in
      let h' = subst (λ (ts : Types). Declares ts text t) (sym w.known) h in
      elim (at_part bytes rest at types w (declaration text) (parts_of (lines_of behind)) e) [
        | is_bad i k cause ↦ absurd (good_said w.seen text (parts_of (lines_of behind)) w.left t room' h' i cause)
        | is_said l more s k b ↦
            subst (λ (ts : Types). is_among (type_names ts) name ≡ false) w.known
            (s.passes (line_of_place text place) DoubledName place name named refl)
      ]

  -- a text that is refused at a place is bad at the line of the place
  bad_line : (seen : Seen) (text : List ℕ) (place i : ℕ) → length seen.types.declared < DECLARED_LIMIT → RefusedAt seen.types text place
      → IsCause seen (declaration text) i BadEdentype → line_of_place text place ≡ i
  bad_line seen text place i room r cause = elim (cases_order (line_of_place text place) i) [
    | inl e ↦ e
    | inr o ↦ absurd
        (cause.fails (
          λ e. room,
          λ q s e.
              let same : line_of_place text q ≡ line_of_place text place =
              ap (λ (n : ℕ). line_of_place text n) (one_place laws seen.types text q place s r) in
              elim o [ inl a ↦ omega (arith, a, e, same) | inr a ↦ omega (arith, a, e, same) ],
        ))
  ]

  pub way_bad : (bytes rest text behind : List ℕ) (at : ℕ) (types : Types) (place : ℕ) (fault : TypeFault) → Way bytes rest at types
      → parts_of (lines_of rest) ≡ declaration text ∷ parts_of (lines_of behind) → length types.declared < DECLARED_LIMIT
      → IsFault types text place fault → IsBadType bytes at text place fault
  way_bad bytes rest text behind at types place fault w e room h =
      let room' = subst (λ (ts : Types). length ts.declared < DECLARED_LIMIT) (sym w.known) room in
      let h' = subst (λ (ts : Types). IsFault ts text place fault) (sym w.known) h in
      let r = refused_there w.seen.types text place fault room' h' in
      elim (at_part bytes rest at types w (declaration text) (parts_of (lines_of behind)) e) [
        | is_bad i k cause ↦ w.back text place fault (record {
          before = [];
          orders = [];
          end = w.seen;
          says = (refl, refl);
          behind = parts_of (lines_of behind);
          cut = e;
          refused = h';
          counted = omega (arith, k, bad_line w.seen text place i room' r cause);
        })
        | is_said l more s k b ↦ absurd (never_both laws w.seen.types text s.tells.0 place s.tells.2 r)
      ]

-- an Edentype too many
no_feeds : (text : List ℕ) → line_of_place text 0 ≡ 0
no_feeds [] = refl
no_feeds (b ∷ text) = refl

first_line : (seen : Seen) (text : List ℕ) (i : ℕ) → length seen.types.declared ≡ DECLARED_LIMIT
    → IsCause seen (declaration text) i BadEdentype → i ≡ 0
first_line seen text zero full cause = refl
first_line seen text (suc i) full cause =
    let room = (cause.earlier 0 BadEdentype (omega arith)).0 refl in absurd (omega (arith, room, full))

pub way_full : (bytes rest text behind : List ℕ) (at : ℕ) (types : Types) → Way bytes rest at types
    → parts_of (lines_of rest) ≡ declaration text ∷ parts_of (lines_of behind) → length types.declared ≡ DECLARED_LIMIT
    → IsBadType bytes at text 0 TooMany
way_full bytes rest text behind at types w e full =
    let full' = ap (λ (ts : Types). length ts.declared) w.known ∙ full in
    elim (at_part bytes rest at types w (declaration text) (parts_of (lines_of behind)) e) [
      | is_bad i k cause ↦ w.back text 0 TooMany (record {
        before = [];
        orders = [];
        end = w.seen;
        says = (refl, refl);
        behind = parts_of (lines_of behind);
        cut = e;
        refused = (refl, full');
        counted = omega (arith, k, first_line w.seen text i full' cause, no_feeds text);
      })
      | is_said l more s k b ↦ absurd (let room = (s.passes 0 BadEdentype).0 refl in omega (arith, room, full'))
    ]
