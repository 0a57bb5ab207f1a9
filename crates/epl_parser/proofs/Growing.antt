-- Depths only grow behind an expression.
use Rattle.std.proofs.Common.{ℕ, suc, ◌≤◌, List, arith}
use Rattle.epl_syntax.specs.declared.token.Token.{Token}
use Rattle.epl_parser.specs.declared.head.Level.{Level}
use Rattle.epl_parser.specs.declared.head.Level.TheVariants as level
use Rattle.epl_parser.specs.Expressions.{Parsed, joined, at_index, IsChain, chain, IsPart, conj, neg, term, unit}
use Rattle.epl_parser.specs.Expressions.{IsMore, no_more, more, IsNeg, not_neg, cmp, IsCmp, sum, compared, IsUnit}
use Rattle.epl_parser.specs.Expressions.{minus, indexed, IsIndices, no_index, index, IsPrimary, int_operand}
use Rattle.epl_parser.specs.Expressions.{text_operand, bool_operand, none_operand, self_operand, name_operand}
use Rattle.epl_parser.specs.Expressions.{parens_operand, list_operand, empty_list_operand, builtin_operand}

module _ (bytes : List ℕ) (outer : ℕ) where
  pub grows_primary : (d : ℕ) (ps : List (Token × ℕ)) (x : Parsed) → IsPrimary bytes outer d ps x → d ≤ x.behind
  grows_primary d ps x (int_operand t e) = omega arith
  grows_primary d ps x (text_operand t e) = omega arith
  grows_primary d ps x (bool_operand t e) = omega arith
  grows_primary d ps x (none_operand t e) = omega arith
  grows_primary d ps x (self_operand t e) = omega arith
  grows_primary d ps x (name_operand t e) = omega arith
  grows_primary d ps x (parens_operand t u e c f) = omega arith
  grows_primary d ps x (list_operand t u e i f) = omega arith
  grows_primary d ps x (empty_list_operand qs t o u e f k g) = omega arith
  grows_primary d ps x (builtin_operand t o u e f i g) = omega arith

  grows_indices : (x : Parsed) (ps : List (Token × ℕ)) (y : Parsed) → IsIndices bytes outer x ps y → x.behind ≤ y.behind
  grows_indices x ps y no_index = omega arith
  grows_indices x ps z (index {qs = qs} {y = y} t u e c f i) = omega (arith, grows_indices (at_index x y) qs z i)

  pub grows_unit : (d : ℕ) (ps : List (Token × ℕ)) (x : Parsed) → IsUnit bytes outer d ps x → d ≤ x.behind
  grows_unit d ps x (minus {ps = qs} {x = y} t e u) = omega (arith, grows_unit (suc d) qs y u)
  grows_unit d ps x (indexed {ps = qs} {qs = rs} {x = y} p i) = omega (arith, grows_primary d qs y p, grows_indices y rs x i)

  mutual
    pub grows_chain : (l : Level) (d : ℕ) (ps : List (Token × ℕ)) (x : Parsed) → IsChain bytes outer l d ps x → d ≤ x.behind
    grows_chain l d ps x (chain {ps = qs} {qs = rs} {x = y} p m) = omega (arith, grows_part l d qs y p, grows_more l y rs x m)

    pub grows_part : (l : Level) (d : ℕ) (ps : List (Token × ℕ)) (x : Parsed) → IsPart bytes outer l d ps x → d ≤ x.behind
    grows_part l d ps x (conj c) = grows_chain level.And d ps x c
    grows_part l d ps x (neg n) = grows_neg d ps x n
    grows_part l d ps x (term c) = grows_chain level.Term d ps x c
    grows_part l d ps x (unit u) = grows_unit d ps x u

    grows_more : (l : Level) (x : Parsed) (ps : List (Token × ℕ)) (y : Parsed) → IsMore bytes outer l x ps y → x.behind ≤ y.behind
    grows_more l x ps y no_more = omega arith
    grows_more l x ps z (more {ps = qs} {qs = rs} {y = y} t op e p m) =
        omega (arith, grows_part l (suc x.behind) qs y p, grows_more l (joined op x y) rs z m)

    pub grows_neg : (d : ℕ) (ps : List (Token × ℕ)) (x : Parsed) → IsNeg bytes outer d ps x → d ≤ x.behind
    grows_neg d ps x (not_neg {ps = qs} {x = y} t e n) = omega (arith, grows_neg (suc d) qs y n)
    grows_neg d ps x (cmp c) = grows_cmp d ps x c

    grows_cmp : (d : ℕ) (ps : List (Token × ℕ)) (x : Parsed) → IsCmp bytes outer d ps x → d ≤ x.behind
    grows_cmp d ps x (sum c) = grows_chain level.Sum d ps x c
    grows_cmp d ps x (compared {ps = qs} {qs = rs} {x = y} {y = z} t op c e b) =
        omega (arith, grows_chain level.Sum d qs y c, grows_chain level.Sum (suc y.behind) rs z b)
