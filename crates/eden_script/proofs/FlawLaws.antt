-- The first line of a part that fails a test, and that line's first test.
use Rattle.std.proofs.Common.{◌≡◌, ◌∙◌, ap, sym, refl, subst, ℕ, zero, suc, ◌+◌, ◌<◌, ◌≤◌, ◌==◌, Bool, true, false, cond, not, ◌⊎◌, List}
use Rattle.std.proofs.Common.{[], ◌∷◌, length, Option, Some, None, inl, inr, arith}
use Rattle.std.specs.Prelude.{◌||◌, ◌&&◌, nat_lt, nat_le}
use Rattle.std.specs.List.{list_all}
use Rattle.std.proofs.lemmas.Bool.{cases_Bool, and_parts, eqb-true, eqb-false, ltb-true, ltb-false, leb-true, leb-false}
use Rattle.epl_syntax.specs.Tree.{TypeTree}
use Rattle.script_words.specs.Form.{is_printable, is_among}
use Rattle.eden_script.specs.Parts.{Part, declaration, unclosed, line_at, line_of_place}
use Rattle.script_words.specs.Lines.{lines_of}
use Rattle.eden_script.specs.Declarations.{DECLARED_LIMIT, type_names, declared_name, Declares, RefusedAt}
use Rattle.eden_script.specs.Tree.{declares, unended}
use Rattle.eden_script.specs.Causes.{Seen, declared_count, Passes, IsCause, IsSaid}
use Rattle.script_words.specs.Causes.{rank}
use Rattle.eden_script.specs.Flaws.{Place, line_flaw, place_flaw, name_flaw', name_flaw, is_earlier, earlier, outer_flaw, with_text}
use Rattle.script_words.specs.declared.cause.ScriptCause.{ScriptCause}
use Rattle.script_words.specs.declared.cause.ScriptCause.TheVariants.{BadByte, LongLine, AfterEnd, NoCommand, Misplaced, BadForm}
use Rattle.script_words.specs.declared.cause.ScriptCause.TheVariants.{BadNumber, UnknownName, UnknownType, DoubledName, BadEdentype}
use Rattle.script_words.specs.declared.cause.ScriptCause.TheVariants.{NoEnd}
use Rattle.eden_script.proofs.DeclarationLaws.{OneAnswer, one_place, never_both}

both : true ≡ false → ⊥
both e = cc

-- ## Bytes and lengths of lines

abbrev pub Clean : List ℕ → Type 0
Clean bytes = (list_all is_printable bytes ≡ true) × (length bytes ≤ 4096)

abbrev pub Bad : ScriptCause → List ℕ → Type 0
Bad BadByte bytes = list_all is_printable bytes ≡ false
Bad LongLine bytes = (list_all is_printable bytes ≡ true) × (4096 < length bytes)
Bad _ bytes = ⊥

-- the lines from line i on, up to the first bad one
abbrev pub UpTo : ℕ → List (List ℕ) → Option Place → Type 0
UpTo i lines None = (j : ℕ) → Clean (line_at lines j)
UpTo i lines (Some p) = (m : ℕ) × (p.0 ≡ i + m) × ((j : ℕ) → j < m → Clean (line_at lines j)) × Bad p.1 (line_at lines m)

up_step : (i : ℕ) (bytes : List ℕ) (lines : List (List ℕ)) (o : Option Place) → Clean bytes → UpTo (suc i) lines o
    → UpTo i (bytes ∷ lines) o
up_step i bytes lines None clean h = clean_all
  where
    clean_all : (j : ℕ) → Clean (line_at (bytes ∷ lines) j)
    clean_all zero = clean
    clean_all (suc j) = h j
up_step i bytes lines (Some p) clean h = (suc h.0, omega (arith, h.1), clean_before, h.3)
  where
    clean_before : (j : ℕ) → j < suc h.0 → Clean (line_at (bytes ∷ lines) j)
    clean_before zero w = clean
    clean_before (suc j) w = h.2 j (omega (arith, w))

up_by : (i : ℕ) (bytes : List ℕ) (lines : List (List ℕ)) (a b : Bool) → list_all is_printable bytes ≡ a → nat_lt 4096 (length bytes) ≡ b
    → UpTo (suc i) lines (line_flaw (suc i) lines)
    → UpTo i (bytes ∷ lines) (cond (not a) (Some (i, BadByte)) (cond b (Some (i, LongLine)) (line_flaw (suc i) lines)))
up_by i bytes lines false b e f h = (0, omega arith, (λ j w. absurd (omega (arith, w))), e)
up_by i bytes lines true true e f h = (0, omega arith, (λ j w. absurd (omega (arith, w))), (e, ltb-true _ _ f))
up_by i bytes lines true false e f h = up_step i bytes lines (line_flaw (suc i) lines) (e, ltb-false _ _ f) h

pub up_to : (i : ℕ) (lines : List (List ℕ)) → UpTo i lines (line_flaw i lines)
up_to i [] = λ j. (refl, omega arith)
up_to i (bytes ∷ lines) = up_by i bytes lines (list_all is_printable bytes) (nat_lt 4096 (length bytes)) refl refl (up_to (suc i) lines)

-- ## Classes of causes

-- of the causes of a class, this is the first one of a part
pub record FirstAt (K : ScriptCause → Type 0) (seen : Seen) (part : Part) (p : Place) : Type 0 where
  pub mine : K p.1
  pub fails : Passes p.1 seen part p.0 → ⊥
  pub earlier : (j : ℕ) (c : ScriptCause) → j < p.0 → K c → Passes c seen part j
  pub before : (c : ScriptCause) → rank c < rank p.1 → K c → Passes c seen part p.0

abbrev pub First : (ScriptCause → Type 0) → Seen → Part → Option Place → Type 0
First K seen part None = (i : ℕ) (c : ScriptCause) → K c → Passes c seen part i
First K seen part (Some p) = FirstAt K seen part p

earlier_true : (a b : Place) → is_earlier a b ≡ true → (a.0 < b.0) ⊎ ((a.0 ≡ b.0) × (rank a.1 ≤ rank b.1))
earlier_true a b h =
    elim (cases_Bool (nat_lt a.0 b.0)) [
      | inl x ↦ inl (ltb-true _ _ x)
      | inr x ↦
          (let y : ((a.0 == b.0) && nat_le (rank a.1) (rank b.1)) ≡ true = sym
          (ap (λ (c : Bool). c || ((a.0 == b.0) && nat_le (rank a.1) (rank b.1))) x) ∙ h in
          inr (eqb-true a.0 b.0 (and_parts _ _ y).0, leb-true _ _ (and_parts _ _ y).1))
    ]

earlier_false : (a b : Place) → is_earlier a b ≡ false → (b.0 < a.0) ⊎ ((a.0 ≡ b.0) × (rank b.1 < rank a.1))
earlier_false a b h =
    elim (cases_Bool (nat_lt a.0 b.0)) [
      | inl x ↦ absurd (both (sym (ap (λ (c : Bool). c || ((a.0 == b.0) && nat_le (rank a.1) (rank b.1))) x) ∙ h))
      | inr x ↦
          (let y : ((a.0 == b.0) && nat_le (rank a.1) (rank b.1)) ≡ false = sym
          (ap (λ (c : Bool). c || ((a.0 == b.0) && nat_le (rank a.1) (rank b.1))) x) ∙ h in
          elim (cases_Bool (a.0 == b.0)) [
            | inl e ↦ inr (eqb-true a.0 b.0 e, leb-false _ _ (sym (ap (λ (c : Bool). c && nat_le (rank a.1) (rank b.1)) e) ∙ y))
            | inr e ↦ inl (apart a.0 b.0 (ltb-false _ _ x) (eqb-false a.0 b.0 e))
          ])
    ]
  where
    apart : (m n : ℕ) → n ≤ m → (m ≡ n → ⊥) → n < m
    apart m n h k = elim (cases_Bool (nat_lt n m)) [ inl x ↦ ltb-true _ _ x | inr x ↦ absurd (k (omega (arith, h, ltb-false n m x))) ]

module _ (K L : ScriptCause → Type 0) (seen : Seen) (part : Part) where
  merge_by : (a b : Place) → FirstAt K seen part a → FirstAt L seen part b → (t : Bool) → is_earlier a b ≡ t
      → First (λ c. K c ⊎ L c) seen part (cond t (Some a) (Some b))
  merge_by a b f g true e =
      let o = earlier_true a b e in
      record {
        mine = inl f.mine;
        fails = f.fails;
        earlier = λ j c h k. elim k [
          | inl x ↦ f.earlier j c h x
          | inr y ↦ g.earlier j c (elim o [ inl s ↦ omega (arith, h, s) | inr s ↦ omega (arith, h, s.0) ]) y
        ];
        before = λ c h k. elim k [
          | inl x ↦ f.before c h x
          | inr y ↦ elim o [
            | inl s ↦ g.earlier a.0 c s y
            | inr s ↦ subst (Passes c seen part) (sym s.0) (g.before c (omega (arith, h, s.1)) y)
          ]
        ];
      }
  merge_by a b f g false e =
      let o = earlier_false a b e in
      record {
        mine = inr g.mine;
        fails = g.fails;
        earlier = λ j c h k. elim k [
          | inl x ↦ f.earlier j c (elim o [ inl s ↦ omega (arith, h, s) | inr s ↦ omega (arith, h, s.0) ]) x
          | inr y ↦ g.earlier j c h y
        ];
        before = λ c h k. elim k [
          | inl x ↦ elim o [
            | inl s ↦ f.earlier b.0 c s x
            | inr s ↦ subst (Passes c seen part) s.0 (f.before c (omega (arith, h, s.1)) x)
          ]
          | inr y ↦ g.before c h y
        ];
      }

  pub merge : (a b : Option Place) → First K seen part a → First L seen part b → First (λ c. K c ⊎ L c) seen part (earlier a b)
  merge None None f g = λ i c k. elim k [ inl x ↦ f i c x | inr y ↦ g i c y ]
  merge None (Some b) f g = record {
    mine = inr g.mine;
    fails = g.fails;
    earlier = λ j c h k. elim k [ inl x ↦ f j c x | inr y ↦ g.earlier j c h y ];
    before = λ c h k. elim k [ inl x ↦ f b.0 c x | inr y ↦ g.before c h y ];
  }
  merge (Some a) None f g = record {
    mine = inl f.mine;
    fails = f.fails;
    earlier = λ j c h k. elim k [ inl x ↦ f.earlier j c h x | inr y ↦ g j c y ];
    before = λ c h k. elim k [ inl x ↦ f.before c h x | inr y ↦ g a.0 c y ];
  }
  merge (Some a) (Some b) f g = merge_by a b f g (is_earlier a b) refl

-- ## Lines

abbrev pub OfLines : ScriptCause → Type 0
OfLines BadByte = Unit {0}
OfLines LongLine = Unit {0}
OfLines _ = ⊥

-- a part whose lines pass the first two tests as lines do
pub record HasLines (seen : Seen) (part : Part) (lines : List (List ℕ)) : Type 0 where
  pub printable : (i : ℕ) → list_all is_printable (line_at lines i) ≡ true → Passes BadByte seen part i
  pub printable_back : (i : ℕ) → Passes BadByte seen part i → list_all is_printable (line_at lines i) ≡ true
  pub short : (i : ℕ) → length (line_at lines i) ≤ 4096 → Passes LongLine seen part i
  pub short_back : (i : ℕ) → Passes LongLine seen part i → length (line_at lines i) ≤ 4096

pub declaration_lines : (seen : Seen) (text : List ℕ) → HasLines seen (declaration text) (lines_of text)
declaration_lines seen text = record { printable = λ i h. h; printable_back = λ i h. h; short = λ i h. h; short_back = λ i h. h }

pub unclosed_lines : (seen : Seen) (lines : List (List ℕ)) → HasLines seen (unclosed lines) lines
unclosed_lines seen lines = record { printable = λ i h. h; printable_back = λ i h. h; short = λ i h. h; short_back = λ i h. h }

module _ (seen : Seen) (part : Part) (lines : List (List ℕ)) (has : HasLines seen part lines) where
  clean_passes : (i : ℕ) (c : ScriptCause) → Clean (line_at lines i) → OfLines c → Passes c seen part i
  clean_passes i BadByte h k = has.printable i h.0
  clean_passes i LongLine h k = has.short i h.1
  clean_passes i AfterEnd h k = absurd k
  clean_passes i NoCommand h k = absurd k
  clean_passes i Misplaced h k = absurd k
  clean_passes i BadForm h k = absurd k
  clean_passes i BadNumber h k = absurd k
  clean_passes i UnknownName h k = absurd k
  clean_passes i UnknownType h k = absurd k
  clean_passes i DoubledName h k = absurd k
  clean_passes i BadEdentype h k = absurd k
  clean_passes i NoEnd h k = absurd k

  lines_by : (o : Option Place) → UpTo 0 lines o → First OfLines seen part o
  lines_by None h = λ i c k. clean_passes i c (h i) k
  lines_by (Some (i, BadByte)) h = record {
    mine = tt;
    fails = λ p. both (sym (has.printable_back i p) ∙ ap (λ (n : ℕ). list_all is_printable (line_at lines n)) (omega (arith, h.1)) ∙ h.3);
    earlier = λ j c w k. clean_passes j c (h.2 j (omega (arith, h.1, w))) k;
    before = λ c w k. absurd (omega (arith, w));
  }
  lines_by (Some (i, LongLine)) h = record {
    mine = tt;
    fails =
        λ p. (let e : i ≡ h.0 = omega (arith, h.1) in omega (arith, has.short_back i p, h.3.1, ap (λ (n : ℕ). length (line_at lines n)) e));
    earlier = λ j c w k. clean_passes j c (h.2 j (omega (arith, h.1, w))) k;
    before =
        λ c w k. only_bytes c w (has.printable i (ap (λ (n : ℕ). list_all is_printable (line_at lines n)) (omega (arith, h.1)) ∙ h.3.0));
  }
    where
      only_bytes : (c : ScriptCause) → rank c < 1 → Passes BadByte seen part i → Passes c seen part i
      only_bytes BadByte w p = p
      only_bytes LongLine w p = absurd (omega (arith, w))
      only_bytes AfterEnd w p = absurd (omega (arith, w))
      only_bytes NoCommand w p = absurd (omega (arith, w))
      only_bytes Misplaced w p = absurd (omega (arith, w))
      only_bytes BadForm w p = absurd (omega (arith, w))
      only_bytes BadNumber w p = absurd (omega (arith, w))
      only_bytes UnknownName w p = absurd (omega (arith, w))
      only_bytes UnknownType w p = absurd (omega (arith, w))
      only_bytes DoubledName w p = absurd (omega (arith, w))
      only_bytes BadEdentype w p = absurd (omega (arith, w))
      only_bytes NoEnd w p = absurd (omega (arith, w))
  lines_by (Some (i, AfterEnd)) h = absurd h.3
  lines_by (Some (i, NoCommand)) h = absurd h.3
  lines_by (Some (i, Misplaced)) h = absurd h.3
  lines_by (Some (i, BadForm)) h = absurd h.3
  lines_by (Some (i, BadNumber)) h = absurd h.3
  lines_by (Some (i, UnknownName)) h = absurd h.3
  lines_by (Some (i, UnknownType)) h = absurd h.3
  lines_by (Some (i, DoubledName)) h = absurd h.3
  lines_by (Some (i, BadEdentype)) h = absurd h.3
  lines_by (Some (i, NoEnd)) h = absurd h.3

  pub lines_first : First OfLines seen part (line_flaw 0 lines)
  lines_first = lines_by (line_flaw 0 lines) (up_to 0 lines)

-- ## The place of an Edentype, and its name

abbrev pub OfPlace : ScriptCause → Type 0
OfPlace AfterEnd = Unit {0}
OfPlace Misplaced = Unit {0}
OfPlace _ = ⊥

abbrev pub OfName : ScriptCause → Type 0
OfName DoubledName = Unit {0}
OfName _ = ⊥

abbrev pub OfText : ScriptCause → Type 0
OfText BadEdentype = Unit {0}
OfText _ = ⊥

module _ (seen : Seen) (text : List ℕ) where
  placed : (i : ℕ) (c : ScriptCause) → (i ≡ 0 → seen.ended ≡ false) → (i ≡ 0 → seen.nodes ≡ 0) → OfPlace c
      → Passes c seen (declaration text) i
  placed i AfterEnd h g k = h
  placed i Misplaced h g k = g
  placed i BadByte h g k = absurd k
  placed i LongLine h g k = absurd k
  placed i NoCommand h g k = absurd k
  placed i BadForm h g k = absurd k
  placed i BadNumber h g k = absurd k
  placed i UnknownName h g k = absurd k
  placed i UnknownType h g k = absurd k
  placed i DoubledName h g k = absurd k
  placed i BadEdentype h g k = absurd k
  placed i NoEnd h g k = absurd k

  before_end : (c : ScriptCause) → rank c < 2 → OfPlace c → ⊥
  before_end AfterEnd w k = omega (arith, w)
  before_end Misplaced w k = omega (arith, w)
  before_end BadByte w k = k
  before_end LongLine w k = k
  before_end NoCommand w k = k
  before_end BadForm w k = k
  before_end BadNumber w k = k
  before_end UnknownName w k = k
  before_end UnknownType w k = k
  before_end DoubledName w k = k
  before_end BadEdentype w k = k
  before_end NoEnd w k = k

  before_nodes : (c : ScriptCause) → rank c < 4 → OfPlace c → seen.ended ≡ false → Passes c seen (declaration text) 0
  before_nodes AfterEnd w k h = λ _. h
  before_nodes Misplaced w k h = absurd (omega (arith, w))
  before_nodes BadByte w k h = absurd k
  before_nodes LongLine w k h = absurd k
  before_nodes NoCommand w k h = absurd k
  before_nodes BadForm w k h = absurd k
  before_nodes BadNumber w k h = absurd k
  before_nodes UnknownName w k h = absurd k
  before_nodes UnknownType w k h = absurd k
  before_nodes DoubledName w k h = absurd k
  before_nodes BadEdentype w k h = absurd k
  before_nodes NoEnd w k h = absurd k

  place_by : (e z : Bool) → seen.ended ≡ e → (seen.nodes == 0) ≡ z
      → First OfPlace seen (declaration text) (cond e (Some (0, AfterEnd)) (cond z None (Some (0, Misplaced))))
  place_by true z e f = record {
    mine = tt;
    fails = λ p. both (sym e ∙ p refl);
    earlier = λ j c w k. absurd (omega (arith, w));
    before = λ c w k. absurd (before_end c w k);
  }
  place_by false true e f = λ i c k. placed i c (λ _. e) (λ _. eqb-true seen.nodes 0 f) k
  place_by false false e f = record {
    mine = tt;
    fails = λ p. eqb-false seen.nodes 0 f (p refl);
    earlier = λ j c w k. absurd (omega (arith, w));
    before = λ c w k. before_nodes c w k e;
  }

  pub place_first : First OfPlace seen (declaration text) (place_flaw seen)
  place_first = place_by seen.ended (seen.nodes == 0) refl refl

  named : (i : ℕ) (c : ScriptCause) → Passes DoubledName seen (declaration text) i → OfName c → Passes c seen (declaration text) i
  named i DoubledName h k = h
  named i BadByte h k = absurd k
  named i LongLine h k = absurd k
  named i AfterEnd h k = absurd k
  named i NoCommand h k = absurd k
  named i Misplaced h k = absurd k
  named i BadForm h k = absurd k
  named i BadNumber h k = absurd k
  named i UnknownName h k = absurd k
  named i UnknownType h k = absurd k
  named i BadEdentype h k = absurd k
  named i NoEnd h k = absurd k

  before_name : (c : ScriptCause) → rank c < 9 → OfName c → ⊥
  before_name DoubledName w k = omega (arith, w)
  before_name BadByte w k = k
  before_name LongLine w k = k
  before_name AfterEnd w k = k
  before_name NoCommand w k = k
  before_name Misplaced w k = k
  before_name BadForm w k = k
  before_name BadNumber w k = k
  before_name UnknownName w k = k
  before_name UnknownType w k = k
  before_name BadEdentype w k = k
  before_name NoEnd w k = k

  same_found : (p q : ℕ × List ℕ) → ◌≡◌ {A = Option (ℕ × List ℕ)} (Some p) (Some q) → p ≡ q
  same_found p q e = cc

  no_found : (p : ℕ × List ℕ) → ◌≡◌ {A = Option (ℕ × List ℕ)} None (Some p) → ⊥
  no_found p e = cc

  name_by : (o : Option (ℕ × List ℕ)) → declared_name text ≡ o
      → First OfName seen (declaration text) (name_flaw' (type_names seen.types) text o)
  name_by None e = λ i c k. named i c (λ place name h line. absurd (no_found (place, name) (sym e ∙ h))) k
  name_by (Some found) e = known (is_among (type_names seen.types) found.1) refl
    where
      known : (b : Bool) → is_among (type_names seen.types) found.1 ≡ b
          → First OfName seen (declaration text) (cond b (Some (line_of_place text found.0, DoubledName)) None)
      known true f = record {
        mine = tt;
        fails = λ p. both (sym f ∙ p found.0 found.1 e refl);
        earlier =
            λ j c w k. named j c (λ place name h line. absurd (later place name (same_found found (place, name) (sym e ∙ h)) j line w)) k;
        before = λ c w k. absurd (before_name c w k);
      }
        where
          later : (place : ℕ) (name : List ℕ) → found ≡ (place, name) → (j : ℕ) → line_of_place text place ≡ j
              → j < line_of_place text found.0 → ⊥
          later place name same j line w =
              let e : found.0 ≡ place = ap (λ (p : ℕ × List ℕ). p.0) same in omega (arith, w, line, ap (line_of_place text) e)
      known false f =
          λ i c k. named i c (λ place name h line. ap (λ (p : ℕ × List ℕ). is_among (type_names seen.types) p.1)
          (sym (same_found found (place, name) (sym e ∙ h))) ∙ f) k

  pub name_first : First OfName seen (declaration text) (name_flaw seen.types text)
  name_first = name_by (declared_name text) refl

  -- ## The text of an Edentype

  text_passes : (i : ℕ) (c : ScriptCause) → Passes BadEdentype seen (declaration text) i → OfText c → Passes c seen (declaration text) i
  text_passes i BadEdentype h k = h
  text_passes i BadByte h k = absurd k
  text_passes i LongLine h k = absurd k
  text_passes i AfterEnd h k = absurd k
  text_passes i NoCommand h k = absurd k
  text_passes i Misplaced h k = absurd k
  text_passes i BadForm h k = absurd k
  text_passes i BadNumber h k = absurd k
  text_passes i UnknownName h k = absurd k
  text_passes i UnknownType h k = absurd k
  text_passes i DoubledName h k = absurd k
  text_passes i NoEnd h k = absurd k

  before_text : (c : ScriptCause) → rank c < 10 → OfText c → ⊥
  before_text BadEdentype w k = omega (arith, w)
  before_text BadByte w k = k
  before_text LongLine w k = k
  before_text AfterEnd w k = k
  before_text NoCommand w k = k
  before_text Misplaced w k = k
  before_text BadForm w k = k
  before_text BadNumber w k = k
  before_text UnknownName w k = k
  before_text UnknownType w k = k
  before_text DoubledName w k = k
  before_text NoEnd w k = k

  full_first : nat_lt (declared_count seen) DECLARED_LIMIT ≡ false → First OfText seen (declaration text) (Some (0, BadEdentype))
  full_first full = record {
    mine = tt;
    fails = λ p. omega (arith, p.0 refl, ltb-false (declared_count seen) DECLARED_LIMIT full);
    earlier = λ j c w k. absurd (omega (arith, w));
    before = λ c w k. absurd (before_text c w k);
  }

  refused_first : OneAnswer → nat_lt (declared_count seen) DECLARED_LIMIT ≡ true → (place : ℕ) → RefusedAt seen.types text place
      → First OfText seen (declaration text) (Some (line_of_place text place, BadEdentype))
  refused_first laws room place refused = record {
    mine = tt;
    fails = λ p. p.1 place refused refl;
    earlier = λ j c w k. text_passes j c (
      (λ _. ltb-true _ _ room),
      (λ q r line. omega (arith, w, line, ap (line_of_place text) (one_place laws seen.types text place q refused r))),
    ) k;
    before = λ c w k. absurd (before_text c w k);
  }

  declares_first : OneAnswer → nat_lt (declared_count seen) DECLARED_LIMIT ≡ true → (t : TypeTree) → Declares seen.types text t
      → First OfText seen (declaration text) None
  declares_first laws room t declared =
      λ i c k. text_passes i c ((λ _. ltb-true _ _ room), (λ q r line. never_both laws seen.types text t q declared r)) k

  -- ## All together

  abbrev pub OfOuter : ScriptCause → Type 0
  OfOuter c = OfLines c ⊎ (OfPlace c ⊎ OfName c)

  outer_first : First OfOuter seen (declaration text) (outer_flaw seen text)
  outer_first =
      merge OfLines (λ c. OfPlace c ⊎ OfName c) seen (declaration text) _ _
      (lines_first seen (declaration text) (lines_of text) (declaration_lines seen text))
      (merge OfPlace OfName seen (declaration text) _ _ place_first name_first)

  cover : (i : ℕ) (c : ScriptCause) → (OfOuter c ⊎ OfText c → Passes c seen (declaration text) i) → Passes c seen (declaration text) i
  cover i BadByte f = f (inl (inl tt))
  cover i LongLine f = f (inl (inl tt))
  cover i AfterEnd f = f (inl (inr (inl tt)))
  cover i Misplaced f = f (inl (inr (inl tt)))
  cover i DoubledName f = f (inl (inr (inr tt)))
  cover i BadEdentype f = f (inr tt)
  cover i NoCommand f = tt
  cover i BadForm f = tt
  cover i BadNumber f = tt
  cover i UnknownName f = tt
  cover i UnknownType f = tt
  cover i NoEnd f = tt

  cause_of : (p : Place) → First (λ c. OfOuter c ⊎ OfText c) seen (declaration text) (Some p) → IsCause seen (declaration text) p.0 p.1
  cause_of p f = record {
    earlier = λ j c w. cover j c (λ k. f.earlier j c w k);
    before = λ c w. cover p.0 c (λ k. f.before c w k);
    fails = f.fails;
  }

  with_text_is : (o : Option Place) (n : ℕ) → earlier o (Some (n, BadEdentype)) ≡ Some (with_text o n)
  with_text_is None n = refl
  with_text_is (Some a) n = chosen (is_earlier a (n, BadEdentype))
    where
      chosen : (b : Bool) → cond b (Some a) (Some (n, BadEdentype)) ≡ Some (cond b a (n, BadEdentype))
      chosen true = refl
      chosen false = refl

  bad_text : (n : ℕ) → First OfText seen (declaration text) (Some (n, BadEdentype)) → (p : Place) → p ≡ with_text (outer_flaw seen text) n
      → IsCause seen (declaration text) p.0 p.1
  bad_text n f p e =
      cause_of p
      (subst (First (λ c. OfOuter c ⊎ OfText c) seen (declaration text))
      (with_text_is (outer_flaw seen text) n ∙ ap (λ (q : Place). Some q) (sym e))
      (merge OfOuter OfText seen (declaration text) (outer_flaw seen text) (Some (n, BadEdentype)) outer_first f))

  pub too_many : nat_lt (declared_count seen) DECLARED_LIMIT ≡ false → (o : Option Place) → o ≡ outer_flaw seen text → (p : Place)
      → p ≡ with_text o 0 → IsCause seen (declaration text) p.0 p.1
  too_many full o same p e = bad_text 0 (full_first full) p (e ∙ ap (λ (q : Option Place). with_text q 0) same)

  pub refused : OneAnswer → nat_lt (declared_count seen) DECLARED_LIMIT ≡ true → (place : ℕ) → RefusedAt seen.types text place
      → (o : Option Place) → o ≡ outer_flaw seen text → (n : ℕ) → n ≡ line_of_place text place → (p : Place) → p ≡ with_text o n
      → IsCause seen (declaration text) p.0 p.1
  refused laws room place r o same n line p e =
      bad_text (line_of_place text place) (refused_first laws room place r) p
      (e ∙ ap (λ (q : Option Place). with_text q n) same ∙ ap (with_text (outer_flaw seen text)) line)

  declared_by : (o : Option Place) → First OfOuter seen (declaration text) o → First OfText seen (declaration text) None
      → First (λ c. OfOuter c ⊎ OfText c) seen (declaration text) (earlier o None)
  declared_by o f g = merge OfOuter OfText seen (declaration text) o None f g

  pub outside : OneAnswer → nat_lt (declared_count seen) DECLARED_LIMIT ≡ true → (t : TypeTree) → Declares seen.types text t → (p : Place)
      → Some p ≡ outer_flaw seen text → IsCause seen (declaration text) p.0 p.1
  outside laws room t d p e =
      cause_of p (declared_by (Some p) (subst (First OfOuter seen (declaration text)) (sym e) outer_first) (declares_first laws room t d))

  pub said : OneAnswer → nat_lt (declared_count seen) DECLARED_LIMIT ≡ true → (t : TypeTree) → Declares seen.types text t
      → None ≡ outer_flaw seen text → IsSaid seen (declaration text) (declares t)
  said laws room t d e =
      let f = declared_by None (subst (First OfOuter seen (declaration text)) (sym e) outer_first) (declares_first laws room t d) in
      record { passes = λ i c. cover i c (λ k. f i c k); tells = (t, refl, d) }

-- ## An Edentype without its end

cover_lines : (seen : Seen) (lines : List (List ℕ)) (i : ℕ) (c : ScriptCause) → (OfLines c → Passes c seen (unclosed lines) i)
    → Passes c seen (unclosed lines) i
cover_lines seen lines i BadByte f = f tt
cover_lines seen lines i LongLine f = f tt
cover_lines seen lines i AfterEnd f = tt
cover_lines seen lines i NoCommand f = tt
cover_lines seen lines i Misplaced f = tt
cover_lines seen lines i BadForm f = tt
cover_lines seen lines i BadNumber f = tt
cover_lines seen lines i UnknownName f = tt
cover_lines seen lines i UnknownType f = tt
cover_lines seen lines i DoubledName f = tt
cover_lines seen lines i BadEdentype f = tt
cover_lines seen lines i NoEnd f = tt

pub unclosed_cause : (seen : Seen) (lines : List (List ℕ)) (p : Place) → Some p ≡ line_flaw 0 lines → IsCause seen (unclosed lines) p.0 p.1
unclosed_cause seen lines p e =
    let f : FirstAt OfLines seen (unclosed lines) p =
    subst (First OfLines seen (unclosed lines)) (sym e) (lines_first seen (unclosed lines) lines (unclosed_lines seen lines)) in
    record {
      earlier = λ j c w. cover_lines seen lines j c (λ k. f.earlier j c w k);
      before = λ c w. cover_lines seen lines p.0 c (λ k. f.before c w k);
      fails = f.fails;
    }

pub unclosed_said : (seen : Seen) (lines : List (List ℕ)) → None ≡ line_flaw 0 lines → IsSaid seen (unclosed lines) unended
unclosed_said seen lines e =
    let f = subst (First OfLines seen (unclosed lines)) (sym e) (lines_first seen (unclosed lines) lines (unclosed_lines seen lines)) in
    record { passes = λ i c. cover_lines seen lines i c (λ k. f i c k); tells = refl }
