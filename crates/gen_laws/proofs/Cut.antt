-- A text is cut into a first line and the rest, and a line that begins no type is a part by itself.
use Rattle.std.proofs.Common.{◌≡◌, ◌∙◌, ap, refl, inl, inr, ℕ, Bool, true, false, cond, not, ◌==◌, List, [], ◌∷◌}
use Rattle.std.proofs.Common.{◌++◌, codes, take}
use Rattle.std.specs.List.{list_all}
use Rattle.std.specs.Str.{bytes_eq}
use Rattle.std.proofs.lemmas.Bool.{cases_Bool, and_parts}
use Rattle.std.proofs.lemmas.Slice.Eq.{bytes_eq-Decides}
use Rattle.std.proofs.lemmas.List.Sums.{take_while-cons}
use Rattle.script_words.specs.Form.{is_no_blank, is_no_feed}
use Rattle.script_words.specs.Causes.{first_word}
use Rattle.script_words.specs.Lines.{onto, lines_of}
use Rattle.script_words.proofs.Lines.{lines_more}
use Rattle.eden_script.specs.Parts.{line, begins_type, parts_of, parts_behind}

not-true : (b : Bool) → not b ≡ true → b ≡ false
not-true true h = let bad : false ≡ true = h in absurd (cc bad)
not-true false h = refl

-- a line, its line feed and the rest
pub line-and : (bytes rest : List ℕ) → list_all is_no_feed bytes ≡ true → lines_of (bytes ++ 10 ∷ rest) ≡ bytes ∷ lines_of rest
line-and [] rest clean = refl
line-and (b ∷ bytes) rest clean =
    let h = and_parts _ _ clean in
    lines_more b (bytes ++ 10 ∷ rest) (not-true (b == 10) h.0) ∙ ap (onto b) (line-and bytes rest h.1)

-- bytes that begin with another byte are other bytes
pub other-first : (b c : ℕ) (bs cs : List ℕ) → (b ≡ c → ⊥) → bytes_eq (b ∷ bs) (c ∷ cs) ≡ false
other-first b c bs cs differ =
    elim (cases_Bool (bytes_eq (b ∷ bs) (c ∷ cs))) [
      | inl h ↦ (let same : b ∷ bs ≡ c ∷ cs = (bytes_eq-Decides (b ∷ bs) (c ∷ cs)).0 h in absurd (differ (cc same)))
      | inr h ↦ h
    ]

-- so do lines that begin no type
pub begins-none : (b : ℕ) (bs : List ℕ) → (b ≡ 101 → ⊥) → begins_type (b ∷ bs) ≡ false
begins-none b bs differ = other-first b 101 (take 7 bs) (codes "dentype") differ

-- a line that begins no type
pub part-and : (bytes : List ℕ) (lines : List (List ℕ)) → begins_type bytes ≡ false → parts_of (bytes ∷ lines) ≡ line bytes ∷ parts_of lines
part-and bytes lines none = ap (λ (b : Bool). cond b (parts_behind (bytes ++ 10 ∷ []) lines) (line bytes ∷ parts_of lines)) none

-- the word before a blank
pub word-of : (word rest : List ℕ) → list_all is_no_blank word ≡ true → first_word (word ++ 32 ∷ rest) ≡ word
word-of [] rest clean = take_while-cons is_no_blank 32 rest
word-of (b ∷ word) rest clean =
    let h = and_parts _ _ clean in
    take_while-cons is_no_blank b (word ++ 32 ∷ rest)
    ∙ ap (λ (t : Bool). cond t (b ∷ first_word (word ++ 32 ∷ rest)) []) h.0 ∙ ap (λ l. b ∷ l) (word-of word rest h.1)
