-- A token that is a text stands for one within the limits of texts.
use Rattle.std.proofs.Common.{◌≡◌, ℕ, suc, ◌+◌, ◌-◌, ◌≤◌, Bool, true, false, cond, List, [], ◌∷◌, length, take, drop, Option, Some, None}
use Rattle.std.proofs.Common.{refl, sym, ap, ◌∙◌, subst, arith}
use Rattle.std.specs.Prelude.{option_and_then, nat_le, ◌==◌, ◌||◌, ◌&&◌}
use Rattle.std.specs.List.{AllByRecursion, list_all}
use Rattle.std.specs.Char.{is_ascii_uppercase, is_ascii_lowercase}
use Rattle.std.proofs.lemmas.Bool.{leb-true}
use Rattle.std.proofs.lemmas.Bool.Decides.{nat_tests}
use Rattle.eden_value.specs.Limits.{IsText, is_printable}
use Rattle.epl_syntax.specs.Form.{is_digit, name_length, digit_count, number_of, with_byte, text_body}
use Rattle.epl_syntax.specs.Words.{word_of}
use Rattle.epl_syntax.specs.Token.{mark_of, named, text_token, token_at, Leads}
use Rattle.epl_syntax.specs.declared.token.Token.{Token}
use Rattle.epl_syntax.specs.declared.token.TokenKind.{TokenKind}
use Rattle.epl_syntax.specs.declared.token.TokenKind.TheVariants as kind
use Rattle.epl_syntax.specs.declared.word.Word.{Word}
use Rattle.epl_parser.specs.Heads.{stands_for}
use Rattle.epl_parser.specs.Constants.{text_at}

-- ---- the bytes of a text

-- what the bytes stand for is printable and has the counted length
record Stands (escaped : Bool) (bytes : List ℕ) (counts : Option (ℕ × ℕ)) : Type 0 where
  counted : (f : ℕ × ℕ) → counts ≡ Some f
      → (length (stands_for escaped (take f.0 bytes)) ≡ f.1) × (list_all is_printable (stands_for escaped (take f.0 bytes)) ≡ true)

stands_none : {escaped : Bool} {bytes : List ℕ} → Stands escaped bytes None
stands_none = record { counted = λ f e. absurd cc }

stands_cond : {escaped : Bool} {bytes : List ℕ} {x y : Option (ℕ × ℕ)} (b : Bool) → (b ≡ true → Stands escaped bytes x)
    → (b ≡ false → Stands escaped bytes y) → Stands escaped bytes (cond b x y)
stands_cond true h k = h refl
stands_cond false h k = k refl

-- one byte more in front, which stands for so many
abbrev Front : Bool → Bool → ℕ → ℕ → Type 0
Front escaped next b stands =
    (rest : List ℕ) → (length (stands_for escaped (b ∷ rest)) ≡ length (stands_for next rest) + stands)
    × (list_all is_printable (stands_for next rest) ≡ true → list_all is_printable (stands_for escaped (b ∷ rest)) ≡ true)

one_more : (escaped next : Bool) (b stands : ℕ) (bytes : List ℕ) (counts : Option (ℕ × ℕ)) → Front escaped next b stands
    → Stands next bytes counts → Stands escaped (b ∷ bytes) (with_byte stands counts)
one_more escaped next b stands bytes None front h = stands_none
one_more escaped next b stands bytes (Some g) front h = record {
  counted = λ f e.
      let same : ◌≡◌ {A = ℕ × ℕ} (g.0 + 1, g.1 + stands) f = cc in
      let size : f.0 ≡ suc g.0 = omega (arith, ap (λ (x : ℕ × ℕ). x.0) same) in
      let taken : take f.0 (b ∷ bytes) ≡ b ∷ take g.0 bytes = ap (λ (n : ℕ). take n (b ∷ bytes)) size in
      let first = front (take g.0 bytes) in
      let rest = h.counted g refl in (
        ap (λ (l : List ℕ). length (stands_for escaped l)) taken ∙ first.0 ∙ ap (λ (n : ℕ). n + stands) rest.0
            ∙ ap (λ (x : ℕ × ℕ). x.1) same,
        ap (λ (l : List ℕ). list_all is_printable (stands_for escaped l)) taken ∙ first.1 rest.1,
      );
}

-- a byte in front of which no backslash stands, by what it is
plain_byte : (b : ℕ) (rest : List ℕ) (quote slash : Bool) → (b == 34) ≡ quote → (b == 92) ≡ slash
    → stands_for false (b ∷ rest) ≡ cond quote [] (cond slash (stands_for true rest) (b ∷ stands_for false rest))
plain_byte b rest quote slash e k =
    ap (λ (t : Bool). cond t [] (cond (b == 92) (stands_for true rest) (b ∷ stands_for false rest))) e
    ∙ ap (λ (t : Bool). cond quote [] (cond t (stands_for true rest) (b ∷ stands_for false rest))) k

-- a printable byte that stands for itself
itself : (b : ℕ) (rest : List ℕ) → is_printable b ≡ true
    → (length (b ∷ rest) ≡ length rest + 1) × (list_all is_printable rest ≡ true → list_all is_printable (b ∷ rest) ≡ true)
itself b rest h = (omega arith, λ k. ap (λ (t : Bool). t && list_all is_printable rest) h ∙ k)

behind_slash : (b : ℕ) → (b == 34 || b == 92) ≡ true → Front true false b 1
behind_slash b h rest = itself b (stands_for false rest) (grind (arith, nat_tests))

a_slash : (b : ℕ) → (b == 34) ≡ false → (b == 92) ≡ true → Front false true b 0
a_slash b e k rest =
    let same = plain_byte b rest false true e k in (
      omega (arith, ap (λ (l : List ℕ). length l) same),
      λ h. ap (λ (l : List ℕ). list_all is_printable l) same ∙ h,
    )

a_byte : (b : ℕ) → (b == 34) ≡ false → (b == 92) ≡ false → is_printable b ≡ true → Front false false b 1
a_byte b e k h rest =
    let same = plain_byte b rest false false e k in
    let more = itself b (stands_for false rest) h in (
      ap (λ (l : List ℕ). length l) same ∙ more.0,
      λ p. ap (λ (l : List ℕ). list_all is_printable l) same ∙ more.1 p,
    )

a_quote : (b : ℕ) (bytes : List ℕ) → (b == 34) ≡ true → Stands false (b ∷ bytes) (Some (1, 0))
a_quote b bytes e = record {
  counted = λ f h.
      let same : ◌≡◌ {A = ℕ × ℕ} (1, 0) f = cc in
      let none : stands_for false (take f.0 (b ∷ bytes)) ≡ [] =
      ap (λ (x : ℕ × ℕ). stands_for false (take x.0 (b ∷ bytes))) (sym same) ∙ plain_byte b [] true (b == 92) e refl in
      (ap (λ (l : List ℕ). length l) none ∙ ap (λ (x : ℕ × ℕ). x.1) same, ap (λ (l : List ℕ). list_all is_printable l) none);
}

stands : (escaped : Bool) (bytes : List ℕ) → Stands escaped bytes (text_body escaped bytes)
stands escaped [] = stands_none
stands true (b ∷ bytes) =
    stands_cond (b == 34 || b == 92) (λ e. one_more true false b 1 bytes (text_body false bytes) (behind_slash b e) (stands false bytes))
    (λ e. stands_none)
stands false (b ∷ bytes) =
    stands_cond (b == 34) (λ e. a_quote b bytes e) (λ e.
    stands_cond (b == 92) (λ k. one_more false true b 0 bytes (text_body true bytes) (a_slash b e k) (stands true bytes)) (λ k.
    stands_cond (is_printable b) (λ h. one_more false false b 1 bytes (text_body false bytes) (a_byte b e k h) (stands false bytes))
    (λ h. stands_none)))

-- ---- the token of a text

-- where a text is found, these bytes stand behind its first quote
record FromText (body : List ℕ) (found : Option (TokenKind × ℕ)) : Type 0 where
  read : (n : ℕ) → found ≡ Some (kind.Text, n) → text_token body ≡ Some (kind.Text, n)

from_none : {body : List ℕ} → FromText body None
from_none = record { read = λ n e. absurd cc }

from_other : {body : List ℕ} (k : TokenKind) (m : ℕ) → (k ≡ kind.Text → ⊥) → FromText body (Some (k, m))
from_other k m apart = record {
  read = λ n e.
      let p : ◌≡◌ {A = TokenKind × ℕ} (k, m) (kind.Text, n) = cc in absurd (apart (ap (λ (x : TokenKind × ℕ). x.0) p));
}

from_cond : {body : List ℕ} {x y : Option (TokenKind × ℕ)} (b : Bool) → FromText body x → FromText body y → FromText body (cond b x y)
from_cond true h k = h
from_cond false h k = k

from_and : {A : Type 0} {body : List ℕ} (o : Option A) (f : A → Option (TokenKind × ℕ)) → ((a : A) → FromText body (f a))
    → FromText body (option_and_then f o)
from_and None f h = from_none
from_and (Some a) f h = h a

from_named : {body : List ℕ} (w : Option Word) (n : ℕ) → FromText body (named w n)
from_named None n = from_other kind.Lower n (λ e. absurd cc)
from_named (Some w) n = from_other (kind.Word w) n (λ e. absurd cc)

from_text : (b : ℕ) (body : List ℕ) → FromText body (token_at (b ∷ body))
from_text b body =
    let size = name_length (b ∷ body) in
    let name = λ (upper : Bool).
    from_cond {body = body} (nat_le size 32)
    (from_cond upper (from_other kind.Upper size (λ e. absurd cc)) (from_named (word_of (take size (b ∷ body))) size)) from_none in
    from_cond (is_ascii_uppercase b) (name true)
    (from_cond (is_ascii_lowercase b) (name false)
    (from_cond (is_digit b)
    (from_and (number_of (take (digit_count (b ∷ body)) (b ∷ body))) _
    (λ n. from_other (kind.Int n) (digit_count (b ∷ body)) (λ e. absurd cc)))
    (from_cond (b == 34) (record { read = λ n e. e })
    (from_and (mark_of b _) _ (λ m. from_other (kind.Mark m.0) m.1 (λ e. absurd cc))))))

-- what the bytes behind the first quote stand for
body_fits : (body : List ℕ) (counts : Option (ℕ × ℕ)) → Stands false body counts → (n : ℕ)
    → option_and_then {U = TokenKind × ℕ} (λ found. cond (nat_le found.1 1024) (Some (kind.Text, found.0 + 1)) None) counts
    ≡ Some (kind.Text, n) → (b : ℕ) → IsText (stands_for false (drop 1 (take n (b ∷ body))))
body_fits body None h n e b = absurd cc
body_fits body (Some f) h n e b = by (nat_le f.1 1024) refl e
  where
    by : (t : Bool) → nat_le f.1 1024 ≡ t → cond {A = Option (TokenKind × ℕ)} t (Some (kind.Text, f.0 + 1)) None ≡ Some (kind.Text, n)
        → IsText (stands_for false (drop 1 (take n (b ∷ body))))
    by false k e = absurd cc
    by true k e =
        let same : ◌≡◌ {A = TokenKind × ℕ} (kind.Text, f.0 + 1) (kind.Text, n) = cc in
        let size : suc f.0 ≡ n = omega (arith, ap (λ (x : TokenKind × ℕ). x.1) same) in
        let all = h.counted f refl in
        subst (λ (m : ℕ). IsText (stands_for false (drop 1 (take m (b ∷ body))))) size
        (record { printable = all.1; short = subst (λ (m : ℕ). m ≤ 1024) (sym all.0) (leb-true f.1 1024 k) })

value_fits : (rest : List ℕ) (n : ℕ) → token_at rest ≡ Some (kind.Text, n) → IsText (stands_for false (drop 1 (take n rest)))
value_fits [] n h = absurd cc
value_fits (b ∷ body) n h = body_fits body (text_body false body) (stands false body) n ((from_text b body).read n h) b

-- ---- the tokens of a text of an Edentype

-- where the token is a text, what it stands for is within the limits
abbrev pub TextFits : List ℕ → Token → Type 0
TextFits text t = t.kind ≡ kind.Text → IsText (text_at text t)

pub texts_fit : (text : List ℕ) (from : ℕ) (ts : List Token) (to : ℕ) → Leads text from ts to → AllByRecursion (TextFits text) ts
texts_fit text from [] to h = tt
texts_fit text from (t ∷ ts) to h = (
  λ e. value_fits (drop t.start text) (t.end - t.start) (h.2 ∙ ap (λ (k : TokenKind). Some (k, t.end - t.start)) e),
  texts_fit text t.end ts to h.4,
)
