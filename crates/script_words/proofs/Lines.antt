-- The first line of a text.
use Rattle.std.proofs.Common.{◌≡◌, ◌∙◌, ap, sym, ℕ, suc, ◌+◌, ◌<◌, ◌≤◌, Bool, true, false, cond, not, ◌==◌, List, [], ◌∷◌, length, take}
use Rattle.std.proofs.Common.{drop, ◌-◌, arith, add-one, length-drop, drop_of_length-le, inl, inr}
use Rattle.std.specs.List.{take_while}
use Rattle.std.proofs.lemmas.Bool.{cases_Bool}
use Rattle.std.proofs.lemmas.List.{take_all}
use Rattle.std.proofs.lemmas.List.Folds.{length-prefix_len}
use Rattle.std.proofs.lemmas.List.Sums.{take_while-cons}
use Rattle.script_words.specs.Form.{is_no_feed}
use Rattle.script_words.specs.Lines.{onto, lines_of}

abbrev pub front : List ℕ → List ℕ
front bytes = take_while is_no_feed bytes

pub front_feed : (b : ℕ) (bytes : List ℕ) → (b == 10) ≡ true → front (b ∷ bytes) ≡ []
front_feed b bytes h = take_while-cons is_no_feed b bytes ∙ ap (λ (t : Bool). cond (not t) (b ∷ front bytes) []) h

pub front_more : (b : ℕ) (bytes : List ℕ) → (b == 10) ≡ false → front (b ∷ bytes) ≡ b ∷ front bytes
front_more b bytes h = take_while-cons is_no_feed b bytes ∙ ap (λ (t : Bool). cond (not t) (b ∷ front bytes) []) h

lines_feed : (b : ℕ) (bytes : List ℕ) → (b == 10) ≡ true → lines_of (b ∷ bytes) ≡ [] ∷ lines_of bytes
lines_feed b bytes h = ap (λ (t : Bool). cond t ([] ∷ lines_of bytes) (onto b (lines_of bytes))) h

pub lines_more : (b : ℕ) (bytes : List ℕ) → (b == 10) ≡ false → lines_of (b ∷ bytes) ≡ onto b (lines_of bytes)
lines_more b bytes h = ap (λ (t : Bool). cond t ([] ∷ lines_of bytes) (onto b (lines_of bytes))) h

abbrev Split : List ℕ → List ℕ → Type 0
Split bytes line = lines_of bytes ≡ line ∷ lines_of (drop (suc (length line)) bytes)

first_feed : (b : ℕ) (bytes : List ℕ) → (b == 10) ≡ true → Split (b ∷ bytes) (front (b ∷ bytes))
first_feed b bytes h = rw (front_feed b bytes h) (lines_feed b bytes h)

pub first_line : (b : ℕ) (bytes : List ℕ) → Split (b ∷ bytes) (front (b ∷ bytes))
first_line b [] = elim (cases_Bool (b == 10)) [ inl h ↦ first_feed b [] h | inr h ↦ rw (front_more b [] h) (lines_more b [] h) ]
first_line b (c ∷ cs) =
    elim (cases_Bool (b == 10)) [
      | inl h ↦ first_feed b (c ∷ cs) h
      | inr h ↦ rw (front_more b (c ∷ cs) h) (lines_more b (c ∷ cs) h ∙ ap (onto b) (first_line c cs))
    ]

pub first_of : (bytes : List ℕ) → 0 < length bytes → lines_of bytes ≡ front bytes ∷ lines_of (drop (length (front bytes) + 1) bytes)
first_of [] h = absurd (omega arith)
first_of (b ∷ bytes) h =
    first_line b bytes ∙ ap (λ n. front (b ∷ bytes) ∷ lines_of (drop n (b ∷ bytes))) (sym (add-one (length (front (b ∷ bytes)))))

-- the rest of a text, whole
pub rest_whole : (n : ℕ) (l : List ℕ) → take (length l - n) (drop n l) ≡ drop n l
rest_whole n l = take_all (length l - n) (drop n l) (omega (arith, length-drop n l))

pub front_taken : (bytes : List ℕ) → take (length (front bytes)) bytes ≡ front bytes
front_taken bytes = ap (λ n. take n bytes) (length-prefix_len is_no_feed bytes)

-- the line of so many bytes, and what is behind its line feed
pub line_taken : (bytes : List ℕ) (n : ℕ) → 0 < length bytes → n ≡ length (front bytes)
    → lines_of bytes ≡ take n bytes ∷ lines_of (take (length bytes - (n + 1)) (drop (n + 1) bytes))
line_taken bytes n some e = rw (e, front_taken bytes, rest_whole (length (front bytes) + 1) bytes) (first_of bytes some)

-- the last line, without a line feed
pub line_last : (bytes : List ℕ) (n : ℕ) → 0 < length bytes → n ≡ length (front bytes) → length bytes ≤ n
    → lines_of bytes ≡ bytes ∷ lines_of (take (length bytes - n) (drop n bytes))
line_last bytes n some e past =
    let w : front bytes ≡ bytes = sym (front_taken bytes) ∙ take_all (length (front bytes)) bytes (omega (arith, e)) in
    let a : drop (length (front bytes) + 1) bytes ≡ [] = drop_of_length-le bytes (omega (arith, e)) in
    let b : drop n bytes ≡ [] = drop_of_length-le bytes past in
    first_of bytes some ∙ ap (λ l. l ∷ lines_of (drop (length (front bytes) + 1) bytes)) w
    ∙ ap (λ l. bytes ∷ lines_of l) (a ∙ sym b ∙ sym (rest_whole n bytes))
