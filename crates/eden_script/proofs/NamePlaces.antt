-- Where the name of a text's type stands: behind `edentype` and blanks.
use Rattle.std.proofs.Common.{◌≡◌, ◌∙◌, ap, sym, refl, subst, ℕ, zero, suc, ◌+◌, ◌-◌, ◌<◌, ◌≤◌, ◌==◌, Bool, true, false, cond, not}
use Rattle.std.proofs.Common.{inl, inr, List, [], ◌∷◌, ◌++◌, length, take, drop, codes, Option, Some, None, arith}
use Rattle.std.specs.Prelude.{◌&&◌, nat_lt, nat_le, option_and_then, slice_index}
use Rattle.std.specs.Char.{is_ascii_uppercase, is_ascii_lowercase}
use Rattle.std.specs.List.{take_while, list_all}
use Rattle.std.specs.Str.{bytes_eq}
use Rattle.std.proofs.lemmas.Bool.{cases_Bool, and_parts, and_from, lt-ltb}
use Rattle.std.proofs.lemmas.List.{take-append-drop, get_or-drop, length-drop}
use Rattle.std.proofs.lemmas.List.Folds.{length-prefix_len}
use Rattle.std.proofs.lemmas.List.Sums.{take_while-cons}
use Rattle.std.proofs.lemmas.Slice.Eq.{bytes_eq-Decides}
use Rattle.epl_syntax.specs.Form.{is_blank, is_digit, is_name_byte, name_length, digit_count, number_of, text_body}
use Rattle.epl_syntax.specs.Words.{spelled_words, word_in, word_of}
use Rattle.epl_syntax.specs.Token.{mark_of, named, name_token, number_token, text_token, mark_token, token_at, AreBlanks}
use Rattle.epl_syntax.specs.declared.token.TokenKind.{TokenKind}
use Rattle.epl_syntax.specs.declared.token.TokenKind.TheVariants as kind
use Rattle.epl_syntax.specs.declared.word.Word.{Word}
use Rattle.epl_syntax.specs.declared.word.Word.TheVariants as word
use Rattle.script_words.specs.Form.{starts_with, is_upper}
use Rattle.eden_script.specs.Declarations.{declared_name, name_place, name_at}

-- ## The first elements that pass a test

front_taken : (p : ℕ → Bool) (bytes : List ℕ) → take (length (take_while p bytes)) bytes ≡ take_while p bytes
front_taken p bytes = ap (λ (n : ℕ). take n bytes) (length-prefix_len p bytes)

front_more : (p : ℕ → Bool) (b : ℕ) (bytes : List ℕ) → p b ≡ true → take_while p (b ∷ bytes) ≡ b ∷ take_while p bytes
front_more p b bytes h = take_while-cons p b bytes ∙ ap (λ (c : Bool). cond c (b ∷ take_while p bytes) []) h

front_none : (p : ℕ → Bool) (b : ℕ) (bytes : List ℕ) → p b ≡ false → take_while p (b ∷ bytes) ≡ []
front_none p b bytes h = take_while-cons p b bytes ∙ ap (λ (c : Bool). cond c (b ∷ take_while p bytes) []) h

front_append : (p : ℕ → Bool) (front rest : List ℕ) → list_all p front ≡ true
    → take_while p (front ++ rest) ≡ front ++ take_while p rest
front_append p [] rest h = refl
front_append p (b ∷ front) rest h =
    front_more p b (front ++ rest) (and_parts _ _ h).0
    ∙ ap (λ (l : List ℕ). b ∷ l) (front_append p front rest (and_parts _ _ h).1)

front_passes : (p : ℕ → Bool) (bytes : List ℕ) → list_all p (take_while p bytes) ≡ true
front_passes p [] = refl
front_passes p (b ∷ bytes) =
    elim (cases_Bool (p b)) [
      | inl h ↦ ap (list_all p) (front_more p b bytes h) ∙ and_from _ _ h (front_passes p bytes)
      | inr h ↦ ap (list_all p) (front_none p b bytes h)
    ]

-- so many pass, and the next one does not
front_length : (p : ℕ → Bool) (bytes : List ℕ) (n : ℕ) → n ≤ length bytes
    → ((k : ℕ) → k < n → p (slice_index bytes k) ≡ true) → (n < length bytes → p (slice_index bytes n) ≡ false)
    → n ≡ length (take_while p bytes)
front_length p [] n few all stop = omega (arith, few)
front_length p (b ∷ bytes) zero few all stop = sym (ap (λ (l : List ℕ). length l) (front_none p b bytes (stop (omega arith))))
front_length p (b ∷ bytes) (suc n) few all stop =
    ap suc (front_length p bytes n (omega (arith, few)) (λ k w. all (suc k) (omega (arith, w))) (λ w. stop (omega (arith, w))))
    ∙ sym (ap (λ (l : List ℕ). length l) (front_more p b bytes (all 0 (omega arith))))

blanks_end : (text : List ℕ) (from to : ℕ) → AreBlanks text from to → to ≡ from + length (take_while is_blank (drop from text))
blanks_end text from to h =
    let forward = h.forward in
    let within = h.within in
    let at = λ (k : ℕ). ap is_blank (get_or-drop from text k 0) in
    let long = length-drop from text in
    let e : to - from ≡ length (take_while is_blank (drop from text)) =
    front_length is_blank (drop from text) (to - from) (omega (arith, forward, within, long))
    (λ k w. at k ∙ h.blank (from + k) (omega arith) (omega (arith, forward, w)))
    (λ w. at (to - from) ∙ ap (λ (k : ℕ). is_blank (slice_index text k))
    (let s : from + (to - from) ≡ to = omega (arith, forward) in s) ∙ h.stops (omega (arith, forward, long, w)))
    in omega (arith, e, forward)

-- ## The word `edentype`

abbrev is_edentype : Word → Bool
is_edentype word.Edentype = true
is_edentype _ = false

not_first : (w : Word) → not (is_edentype w) ≡ true → w ≡ word.Edentype → ⊥
not_first w h e = let t : false ≡ true = sym (ap (λ (x : Word). not (is_edentype x)) e) ∙ h in absurd cc

not_here : (c : Bool) (w : Word) (o : Option Word) → not (is_edentype w) ≡ true → cond c (Some w) o ≡ Some word.Edentype
    → o ≡ Some word.Edentype
not_here true w o h e = let s : w ≡ word.Edentype = cc in absurd (not_first w h s)
not_here false w o h e = e

not_in : (words : List (List ℕ × Word)) → list_all (λ w. not (is_edentype w.1)) words ≡ true → (name : List ℕ)
    → word_in words name ≡ Some word.Edentype → ⊥
not_in [] h name e = absurd cc
not_in (w ∷ words) h name e =
    not_in words (and_parts _ _ h).1 name
    (not_here (bytes_eq name w.0) w.1 (word_in words name) (and_parts (not (is_edentype w.1)) _ h).0 e)

abbrev behind_first : List (List ℕ × Word) → List (List ℕ × Word)
behind_first [] = []
behind_first (w ∷ words) = words

spelled_so : (name : List ℕ) → word_of name ≡ Some word.Edentype → name ≡ codes "edentype"
unfolding word_of
spelled_so name e = (bytes_eq-Decides name (codes "edentype")).0 (by (bytes_eq name (codes "edentype")) e)
  where
    by : (c : Bool) → cond c (Some word.Edentype) (word_in (behind_first spelled_words) name) ≡ Some word.Edentype → c ≡ true
    by true k = refl
    by false k = absurd (not_in (behind_first spelled_words) refl name k)

same_kind : (k l : TokenKind) (m n : ℕ) → ◌≡◌ {A = Option (TokenKind × ℕ)} (Some (k, m)) (Some (l, n))
    → (k ≡ l) × (m ≡ n)
same_kind k l m n e =
    let p : ◌≡◌ {A = TokenKind × ℕ} (k, m) (l, n) = cc in
    (ap (λ (x : TokenKind × ℕ). x.0) p, ap (λ (x : TokenKind × ℕ). x.1) p)

word_by : (c : Bool) (m n : ℕ) (o : Option Word) → cond c (named o m) None ≡ Some (kind.Word word.Edentype, n)
    → (o ≡ Some word.Edentype) × (n ≡ m)
word_by true m n None h = let k = (same_kind kind.Lower (kind.Word word.Edentype) m n h).0 in absurd cc
word_by true m n (Some w) h =
    let k = same_kind (kind.Word w) (kind.Word word.Edentype) m n h in
    let l = k.0 in
    let e : w ≡ word.Edentype = cc in
    (ap Some e, sym k.1)
word_by false m n o h = absurd cc

word_token : (text : List ℕ) (n : ℕ) → name_token text false ≡ Some (kind.Word word.Edentype, n)
    → (take (name_length text) text ≡ codes "edentype") × (n ≡ name_length text)
word_token text n h =
    let found = word_by (nat_le (name_length text) 32) (name_length text) n (word_of (take (name_length text) text)) h in
    (spelled_so (take (name_length text) text) found.0, found.1)

-- ## A name with a great letter

abbrev is_upper_token : Option (TokenKind × ℕ) → Bool
is_upper_token (Some (kind.Upper, n)) = true
is_upper_token _ = false

no_upper_name : (text : List ℕ) → is_upper_token (name_token text false) ≡ false
no_upper_name text = by (nat_le (name_length text) 32) (word_of (take (name_length text) text))
  where
    by : (c : Bool) (o : Option Word) → is_upper_token (cond c (named o (name_length text)) None) ≡ false
    by true None = refl
    by true (Some w) = refl
    by false o = refl

no_upper_and : {B : Type 0} (f : B → Option (TokenKind × ℕ)) → ((b : B) → is_upper_token (f b) ≡ false) → (o : Option B)
    → is_upper_token (option_and_then f o) ≡ false
no_upper_and f h None = refl
no_upper_and f h (Some b) = h b

no_upper_cond : (c : Bool) (x y : Option (TokenKind × ℕ)) → is_upper_token x ≡ false → is_upper_token y ≡ false
    → is_upper_token (cond c x y) ≡ false
no_upper_cond true x y h k = h
no_upper_cond false x y h k = k

-- a name with a great letter takes the name bytes in front, at most 32
abbrev IsUpperFront : List ℕ → ℕ → Type 0
IsUpperFront bytes n =
    (starts_with is_ascii_uppercase bytes ≡ true) × (nat_le (name_length bytes) 32 ≡ true) × (n ≡ name_length bytes)

upper_token : (bytes : List ℕ) (n : ℕ) → token_at bytes ≡ Some (kind.Upper, n) → IsUpperFront bytes n
upper_token [] n h = absurd cc
upper_token (b ∷ bytes) n h = by (is_ascii_uppercase b) refl h
  where
    text : List ℕ
    text = b ∷ bytes

    other : Option (TokenKind × ℕ)
    other =
        cond (is_ascii_lowercase b) (name_token text false)
        (cond (is_digit b) (number_token text) (cond (b == 34) (text_token bytes) (mark_token b bytes)))

    not_upper : is_upper_token other ≡ false
    not_upper =
        no_upper_cond (is_ascii_lowercase b) _ _ (no_upper_name text)
        (no_upper_cond (is_digit b) _ _ (no_upper_and _ (λ v. refl) (number_of (take (digit_count text) text)))
        (no_upper_cond (b == 34) _ _ (no_upper_and _ (λ found. no_upper_cond (nat_le found.1 1024) _ _ refl refl) (text_body false bytes))
        (no_upper_and _ (λ found. refl) (mark_of b (slice_index bytes 0)))))

    short : (c : Bool) → nat_le (name_length text) 32 ≡ c
        → cond {A = Option (TokenKind × ℕ)} c (Some (kind.Upper, name_length text)) None ≡ Some (kind.Upper, n)
        → (nat_le (name_length text) 32 ≡ true) × (n ≡ name_length text)
    short true e k = (e, sym (same_kind kind.Upper kind.Upper (name_length text) n k).1)
    short false e k = absurd cc

    by : (c : Bool) → is_ascii_uppercase b ≡ c → cond c (name_token text true) other ≡ Some (kind.Upper, n) → IsUpperFront text n
    by true e k = let s = short (nat_le (name_length text) 32) refl k in (e, s.0, s.1)
    by false e k = let t : false ≡ true = sym not_upper ∙ ap is_upper_token k in absurd cc

upper_is_name : (b : ℕ) → is_ascii_uppercase b ≡ true → is_name_byte b ≡ true
upper_is_name b h = grind (arith, h)

starts_so : (bytes : List ℕ) → starts_with is_ascii_uppercase bytes ≡ true
    → (starts_with is_ascii_uppercase (take_while is_name_byte bytes) ≡ true) × (0 < length (take_while is_name_byte bytes))
starts_so [] h = absurd cc
starts_so (b ∷ bytes) h =
    let e : take_while is_name_byte (b ∷ bytes) ≡ b ∷ take_while is_name_byte bytes =
    front_more is_name_byte b bytes (upper_is_name b h) in
    let long = ap (λ (l : List ℕ). length l) e in
    (ap (λ (l : List ℕ). starts_with is_ascii_uppercase l) e ∙ h, omega (arith, long))

is_upper_front : (bytes : List ℕ) (n : ℕ) → IsUpperFront bytes n → is_upper (take_while is_name_byte bytes) ≡ true
is_upper_front bytes n h =
    and_from _ _ (starts_so bytes h.0).0 (and_from _ _ (front_passes is_name_byte bytes) h.1)

-- ## The name of a text that begins with `edentype`

module _ (rest : List ℕ) where
  abbrev text : List ℕ
  text = codes "edentype" ++ rest

  -- the first token is the word, and no name byte follows it
  word_ends : (start end : ℕ) → AreBlanks text 0 start
      → token_at (drop start text) ≡ Some (kind.Word word.Edentype, end - start) → start ≤ end
      → (end ≡ 8) × (take_while is_name_byte rest ≡ [])
  word_ends start end blanks token le =
      let blank = blanks_end text 0 start blanks in
      let no_blank : length (take_while is_blank (drop 0 text)) ≡ 0 =
      ap (λ (l : List ℕ). length l) (front_none is_blank 101 (drop 1 text) refl) in
      let first : start ≡ 0 = omega (arith, blank, no_blank) in
      let found = word_token text (end - start) (sym (ap (λ (k : ℕ). token_at (drop k text)) first) ∙ token) in
      let more : take_while is_name_byte text ≡ codes "edentype" ++ take_while is_name_byte rest =
      front_append is_name_byte (codes "edentype") rest refl in
      let none : take_while is_name_byte rest ≡ [] = ap (drop 8) (sym more ∙ sym (front_taken is_name_byte text) ∙ found.0) in
      let size : name_length text ≡ 8 = ap (λ (l : List ℕ). length l) (more ∙ ap (λ (l : List ℕ). codes "edentype" ++ l) none) in
      (omega (arith, first, found.1, size, le), none)

  named_at : (end start stop : ℕ) → end ≡ 8 → take_while is_name_byte rest ≡ [] → AreBlanks text end start
      → token_at (drop start text) ≡ Some (kind.Upper, stop - start)
      → declared_name text ≡ Some (start, take (stop - start) (drop start text))
  named_at end start stop eight none blanks token =
      let place : start ≡ name_place text =
      blanks_end text end start blanks ∙ ap (λ (k : ℕ). k + length (take_while is_blank (drop k text))) eight in
      let front = upper_token (drop start text) (stop - start) token in
      let behind : 8 < start = apart (length (take_while is_blank rest)) refl place front in
      let name : take (stop - start) (drop start text) ≡ name_at text start =
      ap (λ (k : ℕ). take k (drop start text)) front.2 ∙ front_taken is_name_byte (drop start text)
      in
      let passes : (nat_lt 8 start && is_upper (name_at text start)) ≡ true =
      and_from _ _ (lt-ltb 8 start behind) (is_upper_front (drop start text) (stop - start) front)
      in
      ap (λ (k : ℕ). cond (nat_lt 8 k && is_upper (name_at text k)) (Some (k, name_at text k)) None) (sym place)
      ∙ ap (λ (c : Bool). cond c (Some (start, name_at text start)) None) passes
      ∙ ap (λ (l : List ℕ). Some (start, l)) (sym name)
    where
      apart : (n : ℕ) → n ≡ length (take_while is_blank rest)
          → start ≡ 8 + n → IsUpperFront (drop start text) (stop - start) → 8 < start
      apart zero e s front =
          let first : start ≡ 8 = omega (arith, s) in
          let here : IsUpperFront rest (stop - start) = subst (λ (k : ℕ). IsUpperFront (drop k text) (stop - start)) first front in
          let some = (starts_so rest here.0).1 in
          let no = ap (λ (l : List ℕ). length l) none in
          absurd (omega (arith, some, no))
      apart (suc n) e s front = omega (arith, s)

-- the name that is found in a text of these first tokens
pub found_name : (text : List ℕ) → take 8 text ≡ codes "edentype" → (first end start stop : ℕ) → AreBlanks text 0 first
    → token_at (drop first text) ≡ Some (kind.Word word.Edentype, end - first) → first ≤ end → AreBlanks text end start
    → token_at (drop start text) ≡ Some (kind.Upper, stop - start)
    → declared_name text ≡ Some (start, take (stop - start) (drop start text))
found_name text begins first end start stop blanks token le more name =
    by text (sym (take-append-drop 8 text) ∙ ap (λ (l : List ℕ). l ++ drop 8 text) begins) blanks token more name
  where
    by : (text : List ℕ) → text ≡ codes "edentype" ++ drop 8 text → AreBlanks text 0 first
        → token_at (drop first text) ≡ Some (kind.Word word.Edentype, end - first) → AreBlanks text end start
        → token_at (drop start text) ≡ Some (kind.Upper, stop - start)
        → declared_name text ≡ Some (start, take (stop - start) (drop start text))
    by text e blanks token more name =
        let rest = drop 8 text in
        let begun = word_ends rest first end (subst (λ (l : List ℕ). AreBlanks l 0 first) e blanks)
        (subst (λ (l : List ℕ). token_at (drop first l) ≡ Some (kind.Word word.Edentype, end - first)) e token) le
        in
        subst (λ (l : List ℕ). declared_name l ≡ Some (start, take (stop - start) (drop start l))) (sym e)
        (named_at rest end start stop begun.0 begun.1 (subst (λ (l : List ℕ). AreBlanks l end start) e more)
        (subst (λ (l : List ℕ). token_at (drop start l) ≡ Some (kind.Upper, stop - start)) e name))
