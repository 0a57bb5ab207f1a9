-- Rules made of single tokens, lists in parentheses and parts before a token: what is read.
use Rattle.std.proofs.Common.{◌≡◌, ℕ, List, [], ◌∷◌, ◌++◌, Option, Some, None, refl, sym, ap, ◌∙◌, subst, arith}
use Rattle.grammar.specs.Grammar.{Grammar, Nothing, Then}
use Rattle.grammar.specs.Depths.{Placed, bare, Perhaps, Looker, look_both, look_here, look_if, Reads}
use Rattle.grammar.proofs.Lookers.{then_reads}
use Rattle.grammar.specs.Choices.{BeginsBy}
use Rattle.grammar.proofs.Choices.{before_less, EndsBefore, if_reads}
use Rattle.grammar.proofs.Sequences.{symbol_reads, value_reads}
use Rattle.grammar.specs.Separated.{Separated, alone, apart}
use Rattle.epl_syntax.specs.declared.token.Mark.{Mark}
use Rattle.epl_syntax.specs.declared.token.Mark.TheVariants as mark
use Rattle.epl_syntax.specs.declared.token.Token.{Token}
use Rattle.epl_syntax.specs.declared.token.TokenKind.TheVariants as kind
use Rattle.epl_syntax.specs.declared.tree.Name.{Name}
use Rattle.epl_syntax.specs.declared.tree.Number.{Number}
use Rattle.epl_syntax.specs.declared.word.Word.{Word}
use Rattle.epl_parser.specs.OneToken.{name_at, the_mark, if_mark, the_word, if_word, the_lower, the_upper, the_number, OneAt, look_one}
use Rattle.epl_parser.specs.OneToken.{lower_behind, number_behind}
use Rattle.epl_parser.specs.Statements.{InParens}
use Rattle.epl_parser.specs.StatementReader.{unless, not_mark, look_in_parens}
use Rattle.epl_parser.proofs.KindReader.{sample}
use Rattle.epl_parser.proofs.Nested.{alike, in_step, alike_reads}
use Rattle.epl_parser.proofs.SingleTokens.{is_the_mark, the_mark_is, is_the_word, the_word_is}
use Rattle.epl_parser.proofs.StatementForms.{next_token}

-- ---- one token and what comes behind it
module _ (fuel d : ℕ) {B : Type 0} {m : List Token → Type 0} where
  pub word_reads : (w : Word) {H : Token → Grammar (Placed Token) B} {T : Token → Looker Token B}
      → ((u : Token) → Reads 32 fuel (H u) m (T u)) → Reads 32 fuel (Then (OneAt d (the_word w)) H) m
      (look_both (look_one d (the_word w)) T)
  word_reads w g =
      symbol_reads 32 fuel (λ u. d) (the_word w) (sample (kind.Word w)) (sample (kind.Word w)) (the_word_is w (sample (kind.Word w)) refl) g

  pub mark_reads : (k : Mark) {H : Token → Grammar (Placed Token) B} {T : Token → Looker Token B}
      → ((u : Token) → Reads 32 fuel (H u) m (T u)) → Reads 32 fuel (Then (OneAt d (the_mark k)) H) m
      (look_both (look_one d (the_mark k)) T)
  mark_reads k g =
      symbol_reads 32 fuel (λ u. d) (the_mark k) (sample (kind.Mark k)) (sample (kind.Mark k)) (the_mark_is k (sample (kind.Mark k)) refl) g

  pub lower_reads : (bytes : List ℕ) {H : Name → Grammar (Placed Token) B} {T : Name → Looker Token B}
      → ((n : Name) → Reads 32 fuel (H n) m (T n)) → Reads 32 fuel (Then (OneAt d (the_lower bytes)) H) m
      (look_both (look_one d (the_lower bytes)) T)
  unfolding the_lower
  lower_reads bytes g = symbol_reads 32 fuel (λ u. d) (the_lower bytes) (sample kind.Lower) (name_at bytes (sample kind.Lower)) refl g

  pub upper_reads : (bytes : List ℕ) {H : Name → Grammar (Placed Token) B} {T : Name → Looker Token B}
      → ((n : Name) → Reads 32 fuel (H n) m (T n)) → Reads 32 fuel (Then (OneAt d (the_upper bytes)) H) m
      (look_both (look_one d (the_upper bytes)) T)
  unfolding the_upper
  upper_reads bytes g = symbol_reads 32 fuel (λ u. d) (the_upper bytes) (sample kind.Upper) (name_at bytes (sample kind.Upper)) refl g

  pub number_reads : {H : Number → Grammar (Placed Token) B} {T : Number → Looker Token B} → ((n : Number) → Reads 32 fuel (H n) m (T n))
      → Reads 32 fuel (Then (OneAt d the_number) H) m (look_both (look_one d the_number) T)
  unfolding the_number
  number_reads g = symbol_reads 32 fuel (λ u. d) the_number (sample (kind.Int 0)) (record { n = 0; place = 0 }) refl g

-- ---- one behind a word
module _ (fuel d : ℕ) {B : Type 0} {m : List Token → Type 0} (w : Word) where
  pub lower_behind_reads : (bytes : List ℕ) {H : Name → Grammar (Placed Token) B} {T : Name → Looker Token B}
      → ((n : Name) → Reads 32 fuel (H n) m (T n))
      → Reads 32 fuel (Then (OneAt d (the_word w)) (λ u. Then (OneAt d (the_lower bytes)) H)) m (look_both (lower_behind bytes w d) T)
  unfolding lower_behind
  lower_behind_reads bytes {T = T} g =
      alike_reads 32 fuel (word_reads fuel d w (λ u. lower_reads fuel d bytes g))
      (in_step (look_one d (the_word w)) (λ u. look_one d (the_lower bytes)) T (λ u. alike (λ v. refl)))

  pub number_behind_reads : {H : Number → Grammar (Placed Token) B} {T : Number → Looker Token B}
      → ((n : Number) → Reads 32 fuel (H n) m (T n))
      → Reads 32 fuel (Then (OneAt d (the_word w)) (λ u. Then (OneAt d the_number) H)) m (look_both (number_behind w d) T)
  unfolding number_behind
  number_behind_reads {T = T} g =
      alike_reads 32 fuel (word_reads fuel d w (λ u. number_reads fuel d g))
      (in_step (look_one d (the_word w)) (λ u. look_one d the_number) T (λ u. alike (λ v. refl)))

-- ---- a part before a token, and a part at the end
pub before_token : {A B : Type 0} (n : List Token → Type 0) (d : ℕ) (f : Token → Option A)
    (goes : (t : Token) (a : A) (w : List Token) → f t ≡ Some a → n (t ∷ w)) (H : A → Grammar (Placed Token) B) (qs : List (Token × ℕ))
    (b : B)
    → Then (OneAt d f) H qs b → (v : List Token) → n (bare qs ++ v)
before_token n d f goes H qs b t v =
    let o = next_token d f H qs b t in
    subst (λ l. n (bare l ++ v)) (sym o.4) (goes o.0 o.1 (bare o.3 ++ v) o.2)

module _ (fuel d : ℕ) {A B C : Type 0} {G : List (Token × ℕ) → A → Type 0} {n m : List Token → Type 0} {R : Looker Token A}
    (f : Token → Option C) {H : A → C → Grammar (Placed Token) B} {T : A → C → Looker Token B} where
  pub part_reads : Reads 32 fuel G n R → ((t : Token) (c : C) (w : List Token) → f t ≡ Some c → n (t ∷ w))
      → ((a : A) → Reads 32 fuel (Then (OneAt d f) (H a)) m (look_both (look_one d f) (T a)))
      → Reads 32 fuel (Then G (λ a. Then (OneAt d f) (H a))) m (look_both R (λ a. look_both (look_one d f) (T a)))
  part_reads g goes rest =
      then_reads 32 fuel fuel 0 G (λ a. Then (OneAt d f) (H a)) n m R (λ a. look_both (look_one d f) (T a)) g (λ ps a p. rest a)
      (λ ps a p. omega arith) (omega arith)
      (λ ps a p qs b q v k. before_token n d f goes (H a) qs b q v)

module _ (fuel : ℕ) {A B : Type 0} {G : List (Token × ℕ) → A → Type 0} {n m : List Token → Type 0} {R : Looker Token A} (f : A → B) where
  pub end_reads : Reads 32 fuel G n R → ((v : List Token) → m v → n v)
      → Reads 32 fuel (Then G (λ a. Nothing (f a))) m (look_both R (λ a. look_here (f a)))
  end_reads g last =
      then_reads 32 fuel fuel 0 G (λ a. Nothing (f a)) n m R (λ a. look_here (f a)) g (λ ps a p. value_reads 32 fuel (f a))
      (λ ps a p. omega arith) (omega arith)
      (λ ps a p qs b q v k. subst (λ l. n (bare l ++ v)) (sym q.0) (last v k))

-- ---- one token that is another is not this one
pub other_mark : (k l : Mark) → ((t : Token) → if_mark l t (kind.Mark k) ≡ None) → (t u : Token) → the_mark k t ≡ Some u
    → the_mark l t ≡ None
unfolding the_mark
other_mark k l differs t u e = ap (if_mark l t) (is_the_mark k t u e).0 ∙ differs t

pub other_word : (w v : Word) → ((t : Token) → if_word v t (kind.Word w) ≡ None) → (t u : Token) → the_word w t ≡ Some u
    → the_word v t ≡ None
unfolding the_word
other_word w v differs t u e = ap (if_word v t) (is_the_word w t u e).0 ∙ differs t

-- ---- lists in parentheses
not_close : (t : Token) (u : Token) → the_mark mark.Close t ≡ Some u → not_mark mark.Close t ≡ None
not_close t u e = ap (λ o. unless o) e

module _ (fuel d : ℕ) {A : Type 0} (G : List (Token × ℕ) → List A → Type 0) (n : List Token → Type 0) (R : Looker Token (List A))
    (m : List Token → Type 0)
    (g : Reads 32 fuel G n R)
    (closes : (t u : Token) (w : List Token) → the_mark mark.Close t ≡ Some u → n (t ∷ w))
    (begins : (ps : List (Token × ℕ)) (xs : List A) → G ps xs → BeginsBy (not_mark mark.Close) ps) where
  abbrev Closing : List Token → Type 0
  Closing v = n v × EndsBefore (not_mark mark.Close) v

  some_reads : Reads 32 fuel (Perhaps [] G) Closing (look_if (not_mark mark.Close) [] R)
  some_reads = if_reads 32 fuel (not_mark mark.Close) [] G Closing R (before_less 32 fuel G n Closing R (λ v k. k.0) g) begins (λ v k. k.1)

  pub parens_reads : Reads 32 fuel (InParens d G) m (look_in_parens d R)
  parens_reads =
      mark_reads fuel d mark.Open (λ o.
      part_reads fuel d (the_mark mark.Close) some_reads (λ t u w e. (closes t u w e, not_close t u e)) (λ xs.
      mark_reads fuel d mark.Close (λ c. value_reads 32 fuel xs)))

-- what a list with commas begins with
begins_by_front : {L : Type 0} (h : Token → Option L) (front back : List (Token × ℕ)) → BeginsBy h front → BeginsBy h (front ++ back)
begins_by_front h [] back b = absurd b
begins_by_front h (p ∷ front) back b = b

pub separated_begins : {A K L : Type 0} (place : ℕ) (f : Token → Option K) (h : Token → Option L) (G : List (Token × ℕ) → A → Type 0)
    → ((ps : List (Token × ℕ)) (a : A) → G ps a → BeginsBy h ps)
    → (ps : List (Token × ℕ)) (xs : List A) → Separated place f G ps xs → BeginsBy h ps
separated_begins place f h G begins ps xs (alone {a = a} g) = begins ps a g
separated_begins place f h G begins ps xs (apart {ps = front} {qs = back} {a = a} s k g e rest) =
    begins_by_front h front ((s, place) ∷ back) (begins front a g)
