-- How tokens follow one another.
use Rattle.std.proofs.Common.{◌≡◌, ℕ, zero, suc, ◌+◌, ◌-◌, ◌*◌, ◌<◌, ◌≤◌, Bool, true, false, cond, List, [], ◌∷◌, ◌++◌, length, take}
use Rattle.std.proofs.Common.{drop, Option, Some, None, refl, sym, ap, ◌∙◌, subst, arith, get_or, drop-cons}
use Rattle.std.specs.Prelude.{option_and_then, IfSome, nat_le, ◌==◌, ◌||◌, ◌&&◌}
use Rattle.std.specs.List.{take_while, prefix_len}
use Rattle.std.specs.Char.{is_ascii_uppercase, is_ascii_lowercase}
use Rattle.std.proofs.lemmas.List.Sums.{prefix_len-le-length}
use Rattle.std.proofs.lemmas.List.Folds.{length-prefix_len}
use Rattle.std.proofs.lemmas.Grind.{common_steps}
use Rattle.epl_syntax.specs.Form.{is_digit, is_name_byte, name_length, digit_count, number_of, decimal_from, with_byte, text_body}
use Rattle.epl_syntax.specs.Words.{word_of}
use Rattle.epl_syntax.specs.Token.{mark_of, named, name_token, number_token, text_token, mark_token, token_at, AreBlanks, Leads}
use Rattle.epl_syntax.specs.declared.token.Token.{Token}
use Rattle.epl_syntax.specs.declared.token.TokenKind.{TokenKind}
use Rattle.epl_syntax.specs.declared.word.Word.{Word}
use Rattle.epl_syntax.specs.declared.token.Mark.{Mark}
use Rattle.epl_syntax.specs.declared.token.Mark.TheVariants as mark

-- what is found takes at least one byte and at most m
record Within {A : Type 0} (m : ℕ) (o : Option (A × ℕ)) : Type 0 where
  small : (f : A × ℕ) → o ≡ Some f → (0 < f.1) × (f.1 ≤ m)

within_none : {A : Type 0} {m : ℕ} → Within {A = A} m None
within_none = record { small = λ f e. absurd cc }

within_some : {A : Type 0} {m : ℕ} (a : A) (n : ℕ) → (0 < n) × (n ≤ m) → Within m (Some (a, n))
within_some {A} {m} a n h = record { small = λ f e. let s : n ≡ f.1 = cc in subst (λ x. (0 < x) × (x ≤ m)) s h }

within_cond : {A : Type 0} {m : ℕ} {x y : Option (A × ℕ)} (b : Bool) → (b ≡ true → Within m x) → (b ≡ false → Within m y)
    → Within m (cond b x y)
within_cond true h k = h refl
within_cond false h k = k refl

within_and : {B : Type 0} {m : ℕ} (o : Option B) (f : B → Option (TokenKind × ℕ)) → ((b : B) → o ≡ Some b → Within m (f b))
    → Within m (option_and_then f o)
within_and None f h = within_none
within_and (Some b) f h = h b refl

within_all : (p : ℕ → Bool) (b : ℕ) (bs : List ℕ) → p b ≡ true → (0 < length (take_while p (b ∷ bs)))
    × (length (take_while p (b ∷ bs)) ≤ length (b ∷ bs))
within_all p b bs h =
    let e : length (take_while p (b ∷ bs)) ≡ prefix_len p (b ∷ bs) = length-prefix_len p (b ∷ bs) in
    let s : prefix_len p (b ∷ bs) ≡ 1 + prefix_len p bs = ap (λ (t : Bool). cond t (1 + prefix_len p bs) 0) h in
    (omega arith, omega (arith, prefix_len-le-length p (b ∷ bs)))

upper_is_name : (b : ℕ) → is_ascii_uppercase b ≡ true → is_name_byte b ≡ true
upper_is_name b h = grind (arith, h)

lower_is_name : (b : ℕ) → is_ascii_lowercase b ≡ true → is_name_byte b ≡ true
lower_is_name b h = grind (arith, h)

named_within : {m : ℕ} (n : ℕ) (w : Option Word) → (0 < n) × (n ≤ m) → Within m (named w n)
named_within n None h = within_some _ n h
named_within n (Some w) h = within_some _ n h

name_within : (b : ℕ) (bs : List ℕ) (upper : Bool) → is_name_byte b ≡ true → Within (length (b ∷ bs)) (name_token (b ∷ bs) upper)
name_within b bs upper h =
    let w = within_all is_name_byte b bs h in
    let n = name_length (b ∷ bs) in
    within_cond (nat_le n 32) (λ _. within_cond upper (λ _. within_some _ n w) (λ _. named_within n (word_of (take n (b ∷ bs))) w))
    (λ _. within_none)

number_within : (b : ℕ) (bs : List ℕ) → is_digit b ≡ true → Within (length (b ∷ bs)) (number_token (b ∷ bs))
number_within b bs h = within_and (number_of (take (digit_count (b ∷ bs)) (b ∷ bs))) _ (λ n _. within_some _ _ (within_all is_digit b bs h))

-- a text's rest ends within its bytes
record BodyWithin (m : ℕ) (o : Option (ℕ × ℕ)) : Type 0 where
  fits : (f : ℕ × ℕ) → o ≡ Some f → f.0 ≤ m

body_none : {m : ℕ} → BodyWithin m None
body_none = record { fits = λ f e. absurd cc }

body_cond : {m : ℕ} {x y : Option (ℕ × ℕ)} (b : Bool) → BodyWithin m x → BodyWithin m y → BodyWithin m (cond b x y)
body_cond true h k = h
body_cond false h k = k

body_byte : {m : ℕ} (stands : ℕ) (o : Option (ℕ × ℕ)) → BodyWithin m o → BodyWithin (suc m) (with_byte stands o)
body_byte stands None h = body_none
body_byte {m} stands (Some g) h =
    let k : g.0 ≤ m = h.fits g refl in
    record { fits = λ f e. let s : g.0 + 1 ≡ f.0 = cc in omega arith }

body_within : (escaped : Bool) (bs : List ℕ) → BodyWithin (length bs) (text_body escaped bs)
body_within escaped [] = body_none
body_within true (b ∷ bs) = body_cond (b == 34 || b == 92) (body_byte 1 _ (body_within false bs)) body_none
body_within false (b ∷ bs) =
    let last : BodyWithin (suc (length bs)) (Some (1, 0)) = record { fits = λ f e. let s : 1 ≡ f.0 = cc in omega arith } in
    body_cond (b == 34) last (body_cond (b == 92) (body_byte 0 _ (body_within true bs))
    (body_cond (nat_le 32 b && nat_le b 126) (body_byte 1 _ (body_within false bs)) body_none))

text_within : (b : ℕ) (bs : List ℕ) → Within (length (b ∷ bs)) (text_token bs)
text_within b bs = within_and (text_body false bs) _ (λ f e.
    let k : f.0 ≤ length bs = (body_within false bs).fits f e in
    within_cond (nat_le f.1 1024) (λ _. within_some _ _ (omega arith, omega arith)) (λ _. within_none))

-- a mark takes one byte, or two where the second is there
abbrev Marks : ℕ → Option (Mark × ℕ) → Type 0
Marks m o = Within {A = Mark} m o

marks_within : {m : ℕ} (b c : ℕ) → 0 < m → Marks m (cond (c == 61) (Some (mark.Assign, 2)) (Some (mark.Colon, 1)))
    → Marks m (cond (c == 61) (Some (mark.LessEqual, 2)) (cond (c == 62) (Some (mark.Different, 2)) (Some (mark.Less, 1))))
    → Marks m (cond (c == 61) (Some (mark.GreaterEqual, 2)) (Some (mark.Greater, 1)))
    → Marks m (mark_of b c)
marks_within {m} b c h colon less greater =
    let one : (0 < 1) × (1 ≤ m) = (omega arith, omega arith) in
    within_cond (b == 58) (λ _. colon) (λ _.
    within_cond (b == 60) (λ _. less) (λ _.
    within_cond (b == 62) (λ _. greater) (λ _.
    within_cond (b == 44) (λ _. within_some _ 1 one) (λ _.
    within_cond (b == 46) (λ _. within_some _ 1 one) (λ _.
    within_cond (b == 40) (λ _. within_some _ 1 one) (λ _.
    within_cond (b == 41) (λ _. within_some _ 1 one) (λ _.
    within_cond (b == 91) (λ _. within_some _ 1 one) (λ _.
    within_cond (b == 93) (λ _. within_some _ 1 one) (λ _.
    within_cond (b == 61) (λ _. within_some _ 1 one) (λ _.
    within_cond (b == 43) (λ _. within_some _ 1 one) (λ _.
    within_cond (b == 45) (λ _. within_some _ 1 one) (λ _.
    within_cond (b == 38) (λ _. within_some _ 1 one) (λ _.
    within_cond (b == 42) (λ _. within_some _ 1 one) (λ _.
    within_cond (b == 47) (λ _. within_some _ 1 one) (λ _. within_none)))))))))))))))

mark_within : (b : ℕ) (bs : List ℕ) → Within (length (b ∷ bs)) (mark_token b bs)
mark_within b [] =
    let one : (0 < 1) × (1 ≤ 1) = (omega arith, omega arith) in
    let all : Within 1 (mark_of b 0) = marks_within b 0 (omega arith) (within_some _ 1 one) (within_some _ 1 one) (within_some _ 1 one) in
    within_and (mark_of b 0) _ (λ f e. within_some _ _ (all.small f e))
mark_within b (c ∷ bs) =
    let m = suc (suc (length bs)) in
    let one : (0 < 1) × (1 ≤ m) = (omega arith, omega arith) in
    let two : (0 < 2) × (2 ≤ m) = (omega arith, omega arith) in
    let all : Within m (mark_of b c) =
    marks_within b c (omega arith) (within_cond (c == 61) (λ _. within_some _ 2 two) (λ _. within_some _ 1 one))
    (within_cond (c == 61) (λ _. within_some _ 2 two) (λ _. within_cond (c == 62) (λ _. within_some _ 2 two) (λ _. within_some _ 1 one)))
    (within_cond (c == 61) (λ _. within_some _ 2 two) (λ _. within_some _ 1 one)) in
    within_and (mark_of b c) _ (λ f e. within_some _ _ (all.small f e))

all_within : (bs : List ℕ) → Within (length bs) (token_at bs)
all_within [] = within_none
all_within (b ∷ bs) =
    within_cond (is_ascii_uppercase b) (λ h. name_within b bs true (upper_is_name b h)) (λ _.
    within_cond (is_ascii_lowercase b) (λ h. name_within b bs false (lower_is_name b h)) (λ _.
    within_cond (is_digit b) (number_within b bs) (λ _.
    within_cond (b == 34) (λ _. text_within b bs) (λ _. mark_within b bs))))

pub token_within : (bs : List ℕ) (k : TokenKind) (n : ℕ) → token_at bs ≡ Some (k, n) → (0 < n) × (n ≤ length bs)
token_within bs k n h = (all_within bs).small (k, n) h

pub front_within : (bs : List ℕ) (r : Option (TokenKind × ℕ)) → r ≡ token_at bs → IfSome r (λ found. (0 < found.1) × (found.1 ≤ length bs))
front_within bs None h = tt
front_within bs (Some f) h = (all_within bs).small f (sym h)

pub decimal_grows : (ds : List ℕ) (value : ℕ) → value ≤ decimal_from value ds
decimal_grows [] value = omega arith
decimal_grows (d ∷ ds) value = omega (arith, decimal_grows ds (value * 10 + (d - 48)))

-- a front of the digits is past the greatest number, and so are all
pub number_past : (ds : List ℕ) (i value : ℕ) → i < length ds → decimal_from value (drop i ds) ≡ decimal_from 0 ds
    → 9223372036854775807 < value * 10 + (get_or ds i 0 - 48) → None ≡ number_of ds
number_past ds i value within so_far past =
    let e : drop i ds ≡ get_or ds i 0 ∷ drop (suc i) ds = drop-cons ds i 0 within in
    let g = decimal_grows (drop (suc i) ds) (value * 10 + (get_or ds i 0 - 48)) in
    let s : decimal_from (value * 10 + (get_or ds i 0 - 48)) (drop (suc i) ds) ≡ decimal_from 0 ds = ap (decimal_from value) (sym e)
    ∙ so_far in
    let far : 9223372036854775807 < decimal_from 0 ds = omega arith in
    let no : nat_le (decimal_from 0 ds) 9223372036854775807 ≡ false = grind arith in
    ap (λ (b : Bool). cond b (Some (decimal_from 0 ds)) None) (sym no)

-- one more token behind others
pub leads_more : (text : List ℕ) (from : ℕ) (ts : List Token) (at to : ℕ) (t : Token) → Leads text from ts at → at < length text
    → t.start ≡ at → token_at (drop at text) ≡ Some (t.kind, t.end - t.start) → t.start ≤ t.end → AreBlanks text t.end to
    → Leads text from (ts ++ t ∷ []) to
leads_more text from [] at to t leads within start here forward blanks = (
  subst (AreBlanks text from) (sym start) leads,
  subst (λ x. x < length text) (sym start) within,
  subst (λ x. token_at (drop x text) ≡ Some (t.kind, t.end - t.start)) (sym start) here,
  forward,
  blanks,
)
leads_more text from (u ∷ us) at to t leads within start here forward blanks =
    (leads.0, leads.1, leads.2, leads.3, leads_more text u.end us at to t leads.4 within start here forward blanks)

-- what begins in the rest of a text begins and ends within the text
pub ends_inside : (text : List ℕ) (at n : ℕ) → at ≤ length text → (0 < n) × (n ≤ length (take (length text - at) (drop at text)))
    → (at < length text) × (at + n ≤ length text)
ends_inside text at n h k =
    let size : length (take (length text - at) (drop at text)) ≤ length text - at = length_take_le (length text - at) (drop at text) in
    let some : 0 < n = k.0 in
    let few : n ≤ length text - at = omega (arith, k.1, size) in
    (omega arith, omega arith)
  where
    length_take_le : (m : ℕ) (bs : List ℕ) → length (take m bs) ≤ m
    length_take_le zero bs = omega arith
    length_take_le (suc m) [] = omega arith
    length_take_le (suc m) (b ∷ bs) = omega (arith, length_take_le m bs)

-- what begins in the rest of a text, as the rest is a slice of it
pub token_here : (text : List ℕ) (at : ℕ) (k : TokenKind) (n : ℕ) → Some (k, n) ≡ token_at (take (length text - at) (drop at text))
    → token_at (drop at text) ≡ Some (k, (at + n) - at)
token_here text at k n h =
    let all : take (length text - at) (drop at text) ≡ drop at text = grind (arith, common_steps) in
    let e : (at + n) - at ≡ n = omega arith in
    ap token_at (sym all) ∙ sym h ∙ ap (λ (m : ℕ). Some (k, m)) (sym e)
