-- Where some level is left, what stands inside is read with one level less.
use Rattle.std.proofs.Common.{◌≡◌, ℕ, zero, suc, ◌+◌, ◌-◌, ◌<◌, List, sym, ap, ◌∙◌, arith, add-one}
use Rattle.epl_syntax.specs.declared.token.Token.{Token}
use Rattle.epl_parser.specs.declared.head.Level.TheVariants as level
use Rattle.epl_parser.specs.ExpressionReader.{inner, unit_by, neg_by, conj_by, read_chain_by, read_part, read_chain, read_neg, read_unit}

module _ (bytes : List ℕ) (turns outer : ℕ) where
  pub inner_expr : (n d : ℕ) (ts : List Token) → 0 < n → (inner bytes turns outer n).expr d ts
      ≡ read_chain bytes turns outer level.Or (n - 1) d ts
  unfolding inner read_chain read_part
  inner_expr zero d ts some = absurd (omega arith)
  inner_expr (suc n) d ts some =
      let one : suc n - 1 ≡ n = omega arith in
      ap (λ m. read_chain_by bytes turns outer level.Or (conj_by bytes turns outer (inner bytes turns outer m)) d ts) (sym one)

  pub inner_neg : (n d : ℕ) (ts : List Token) → 0 < n → (inner bytes turns outer n).neg (suc d) ts
      ≡ read_neg bytes turns outer (n - 1) (d + 1) ts
  unfolding inner read_neg
  inner_neg zero d ts some = absurd (omega arith)
  inner_neg (suc n) d ts some =
      let one : suc n - 1 ≡ n = omega arith in
      ap (λ m. neg_by bytes turns outer (inner bytes turns outer m) (suc d) ts) (sym one)
      ∙ ap (λ e. neg_by bytes turns outer (inner bytes turns outer (suc n - 1)) e ts) (sym (add-one d))

  pub inner_unit : (n d : ℕ) (ts : List Token) → 0 < n → (inner bytes turns outer n).unit (suc d) ts
      ≡ read_unit bytes turns outer (n - 1) (d + 1) ts
  unfolding inner read_unit
  inner_unit zero d ts some = absurd (omega arith)
  inner_unit (suc n) d ts some =
      let one : suc n - 1 ≡ n = omega arith in
      ap (λ m. unit_by bytes turns outer (inner bytes turns outer m) (suc d) ts) (sym one)
      ∙ ap (λ e. unit_by bytes turns outer (inner bytes turns outer (suc n - 1)) e ts) (sym (add-one d))
