-- How the bytes of a script are cut.
use Rattle.std.proofs.Common.{◌≡◌, ◌∙◌, ap, sym, refl, ℕ, ◌+◌, ◌-◌, ◌<◌, ◌≤◌, Bool, true, false, cond, not, ◌==◌, ◌⊎◌, List, []}
use Rattle.std.proofs.Common.{◌∷◌, ◌++◌, length, take, codes, inl, inr, arith, append_assoc, append-nil, length-append}
use Rattle.std.specs.List.{list_all}
use Rattle.std.proofs.lemmas.Bool.{and_parts}
use Rattle.std.proofs.lemmas.List.{take_all, take-append-le, length-take}
use Rattle.std.proofs.lemmas.Slice.Eq.{bytes_eq-Decides}
use Rattle.script_words.specs.Form.{is_no_feed}
use Rattle.eden_script.specs.Parts.{declaration, unclosed, begins_type, ends_type, parts_of, parts_behind}
use Rattle.script_words.specs.Lines.{onto, lines_of}
use Rattle.eden_script.specs.Parts as parts
use Rattle.script_words.specs.Lines.{IsFirstLine}
use Rattle.script_words.proofs.Lines.{lines_more}

-- ## Lines and what follows them

pub lines_clean : (line rest : List ℕ) → list_all is_no_feed line ≡ true → lines_of (line ++ 10 ∷ rest) ≡ line ∷ lines_of rest
lines_clean [] rest h = refl
lines_clean (b ∷ line) rest h =
    lines_more b (line ++ 10 ∷ rest) (not_back (b == 10) (and_parts _ _ h).0) ∙ ap (onto b) (lines_clean line rest (and_parts _ _ h).1)
  where
    not_back : (c : Bool) → not c ≡ true → c ≡ false
    not_back true e = absurd cc
    not_back false e = refl

-- A text of whole lines was cut off in front of the rest.
pub record Cut (bytes rest : List ℕ) : Type 0 where
  pub text : List ℕ
  pub whole_lines : (more : List ℕ) → lines_of (text ++ more) ≡ lines_of text ++ lines_of more
  pub all_lines : lines_of text ++ lines_of rest ≡ lines_of bytes
  pub parts : parts_behind text (lines_of rest) ≡ parts_of (lines_of bytes)
  pub joined : (rest ≡ []) ⊎ (bytes ≡ text ++ rest)
  pub long : 8 ≤ length text

pub begins_long : (first : List ℕ) → begins_type first ≡ true → 8 ≤ length first
begins_long first h = by first ((bytes_eq-Decides (take 8 first) (codes "edentype")).0 h)
  where
    by : (first : List ℕ) → take 8 first ≡ codes "edentype" → 8 ≤ length first
    by first e = let k : length (take 8 first) ≡ 8 = ap (λ (l : List ℕ). length l) e in omega (arith, length-take 8 first, k)

part_begins : (first : List ℕ) (lines : List (List ℕ)) → begins_type first ≡ true
    → parts_of (first ∷ lines) ≡ parts_behind (first ++ 10 ∷ []) lines
part_begins first lines h = ap (λ (c : Bool). cond c (parts_behind (first ++ 10 ∷ []) lines) (parts.line first ∷ parts_of lines)) h

pub part_line : (first : List ℕ) (lines : List (List ℕ)) → begins_type first ≡ false
    → parts_of (first ∷ lines) ≡ parts.line first ∷ parts_of lines
part_line first lines h = ap (λ (c : Bool). cond c (parts_behind (first ++ 10 ∷ []) lines) (parts.line first ∷ parts_of lines)) h

part_ends : (text line : List ℕ) (lines : List (List ℕ)) (b : Bool) → ends_type line ≡ b
    → parts_behind text (line ∷ lines) ≡ cond b (declaration (text ++ line) ∷ parts_of lines)
    (parts_behind (text ++ (line ++ 10 ∷ [])) lines)
part_ends text line lines b h =
    ap (λ (c : Bool). cond c (declaration (text ++ line) ∷ parts_of lines) (parts_behind (text ++ (line ++ 10 ∷ [])) lines)) h

pub cut_first : (bytes first behind : List ℕ) → IsFirstLine bytes first behind → lines_of bytes ≡ first ∷ lines_of behind
    → begins_type first ≡ true → Cut bytes behind
cut_first bytes first behind f lines begins = record {
  text = first ++ 10 ∷ [];
  whole_lines = λ more.
      ap lines_of (append_assoc first (10 ∷ []) more) ∙ lines_clean first more f.clean
      ∙ sym (ap (λ (l : List (List ℕ)). l ++ lines_of more) (lines_clean first [] f.clean));
  all_lines = ap (λ (l : List (List ℕ)). l ++ lines_of behind) (lines_clean first [] f.clean) ∙ sym lines;
  parts = sym (part_begins first (lines_of behind) begins) ∙ ap parts_of (sym lines);
  joined = elim f.split [ inl e ↦ inr (e ∙ sym (append_assoc first (10 ∷ []) behind)) | inr e ↦ inl e.1 ];
  long = omega (arith, begins_long first begins, length-append first (10 ∷ []));
}

pub cut_step : (bytes rest line behind : List ℕ) → Cut bytes rest → 0 < length rest → IsFirstLine rest line behind
    → lines_of rest ≡ line ∷ lines_of behind → ends_type line ≡ false → Cut bytes behind
cut_step bytes rest line behind c some f lines ends =
    let one : lines_of (line ++ 10 ∷ []) ≡ line ∷ [] = lines_clean line [] f.clean in
    record {
      text = c.text ++ (line ++ 10 ∷ []);
      whole_lines = λ more.
          ap lines_of (append_assoc c.text (line ++ 10 ∷ []) more) ∙ c.whole_lines ((line ++ 10 ∷ []) ++ more)
          ∙ ap (λ (l : List (List ℕ)). lines_of c.text ++ l)
          (ap lines_of (append_assoc line (10 ∷ []) more) ∙ lines_clean line more f.clean)
          ∙ sym (append_assoc (lines_of c.text) (line ∷ []) (lines_of more))
          ∙ ap (λ (l : List (List ℕ)). l ++ lines_of more)
          (ap (λ (l : List (List ℕ)). lines_of c.text ++ l) (sym one) ∙ sym (c.whole_lines (line ++ 10 ∷ [])));
      all_lines =
          ap (λ (l : List (List ℕ)). l ++ lines_of behind)
          (c.whole_lines (line ++ 10 ∷ []) ∙ ap (λ (l : List (List ℕ)). lines_of c.text ++ l) one)
          ∙ append_assoc (lines_of c.text) (line ∷ []) (lines_of behind)
          ∙ ap (λ (l : List (List ℕ)). lines_of c.text ++ l) (sym lines) ∙ c.all_lines;
      parts = sym (part_ends c.text line (lines_of behind) false ends) ∙ ap (parts_behind c.text) (sym lines) ∙ c.parts;
      joined = elim f.split [
        | inr e ↦ inl e.1
        | inl e ↦ elim c.joined [
          | inl none ↦ absurd (nothing rest none some)
          | inr j ↦ inr
              (j ∙ ap (λ (l : List ℕ). c.text ++ l) (e ∙ sym (append_assoc line (10 ∷ []) behind)) ∙ sym
              (append_assoc c.text (line ++ 10 ∷ []) behind))
        ]
      ];
      long = omega (arith, c.long, length-append c.text (line ++ 10 ∷ []));
    }
  where
    nothing : (rest : List ℕ) → rest ≡ [] → 0 < length rest → ⊥
    nothing rest e h = let k : length rest ≡ 0 = ap (λ (l : List ℕ). length l) e in omega (arith, h, k)

pub cut_end : (bytes rest : List ℕ) → Cut bytes rest → rest ≡ [] → parts_of (lines_of bytes) ≡ unclosed (lines_of bytes) ∷ []
cut_end bytes rest c e =
    sym c.parts ∙ ap (λ (l : List ℕ). parts_behind c.text (lines_of l)) e
    ∙ ap (λ (l : List (List ℕ)). unclosed l ∷ [])
    (sym (append-nil (lines_of c.text)) ∙ ap (λ (l : List ℕ). lines_of c.text ++ lines_of l) (sym e) ∙ c.all_lines)

pub record FoundEnd (bytes behind : List ℕ) (n : ℕ) : Type 0 where
  pub parts : parts_of (lines_of bytes) ≡ declaration (take n bytes) ∷ parts_of (lines_of behind)
  pub long : 8 ≤ length (take n bytes)
  pub short : length (take n bytes) + length behind ≤ length bytes

pub cut_found : (bytes rest line behind : List ℕ) (n : ℕ) → Cut bytes rest → 0 < length rest → IsFirstLine rest line behind
    → lines_of rest ≡ line ∷ lines_of behind → ends_type line ≡ true → n ≡ (length bytes - length rest) + length line
    → FoundEnd bytes behind n
cut_found bytes rest line behind n c some f lines ends e =
    elim c.joined [
      | inl none ↦ absurd (nothing rest none some)
      | inr j ↦ elim f.split [
        | inl s ↦ found (10 ∷ behind) (j ∙ ap (λ (l : List ℕ). c.text ++ l) s ∙ sym (append_assoc c.text line (10 ∷ behind)))
            (ap (λ (l : List ℕ). length l) s ∙ length-append line (10 ∷ behind)) (omega arith)
        | inr s ↦ found [] (j ∙ ap (λ (l : List ℕ). c.text ++ l) (s.0 ∙ sym (append-nil line)) ∙ sym (append_assoc c.text line []))
            (ap (λ (l : List ℕ). length l) s.0 ∙ omega arith) (omega (arith, ap (λ (l : List ℕ). length l) s.1))
      ]
    ]
  where
    nothing : (rest : List ℕ) → rest ≡ [] → 0 < length rest → ⊥
    nothing rest e h = let k : length rest ≡ 0 = ap (λ (l : List ℕ). length l) e in omega (arith, h, k)

    found : (back : List ℕ) → bytes ≡ (c.text ++ line) ++ back → length rest ≡ length line + length back → length behind ≤ length back
        → FoundEnd bytes behind n
    found back w k small =
        let a : length bytes ≡ length (c.text ++ line) + length back =
        ap (λ (l : List ℕ). length l) w ∙ length-append (c.text ++ line) back in
        let b : length (c.text ++ line) ≡ length c.text + length line = length-append c.text line in
        let m : n ≡ length (c.text ++ line) = omega (arith, e, k, a, b) in
        let t : take n bytes ≡ c.text ++ line =
        ap (λ (l : List ℕ). take n l) w ∙ take-append-le n (c.text ++ line) back (omega (arith, m))
        ∙ take_all n (c.text ++ line) (omega (arith, m)) in
        let s : length (take n bytes) ≡ length (c.text ++ line) = ap (λ (l : List ℕ). length l) t in
        record {
          parts =
              sym c.parts ∙ ap (parts_behind c.text) lines ∙ part_ends c.text line (lines_of behind) true ends
              ∙ ap (λ (l : List ℕ). declaration l ∷ parts_of (lines_of behind)) (sym t);
          long = omega (arith, s, b, c.long);
          short = omega (arith, s, a, small);
        }

pub behind_short : (bytes first behind : List ℕ) → IsFirstLine bytes first behind → length behind ≤ length bytes
behind_short bytes first behind f =
    elim f.split [
      | inl e ↦ omega (arith, ap (λ (l : List ℕ). length l) e, length-append first (10 ∷ behind))
      | inr e ↦ omega (arith, ap (λ (l : List ℕ). length l) e.1)
    ]
