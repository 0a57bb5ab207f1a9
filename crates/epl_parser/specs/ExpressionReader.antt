-- How expressions are read: a reader for each rule of the grammar.
use Rattle.std.specs.Prelude.{ℕ, zero, suc, ◌<◌, max, List, [], ◌∷◌, Option}
use Rattle.grammar.specs.Depths.{Looker, look_both, look_here, look_mapped, look_at, look_if, look_many}
use Rattle.grammar.specs.Alternatives.{look_or}
use Rattle.grammar.specs.Separated.{look_closed, look_separated, look_next}
use Rattle.epl_syntax.specs.declared.token.Mark.{Mark}
use Rattle.epl_syntax.specs.declared.token.Mark.TheVariants as mark
use Rattle.epl_syntax.specs.declared.word.Word.TheVariants as word
use Rattle.epl_syntax.specs.declared.token.Token.{Token}
use Rattle.epl_syntax.specs.declared.tree.Prefix.{Prefix}
use Rattle.epl_syntax.specs.declared.tree.Prefix.TheVariants as prefix
use Rattle.epl_parser.specs.declared.head.Level.{Level}
use Rattle.epl_parser.specs.declared.head.Level.TheVariants as level
use Rattle.epl_parser.specs.declared.head.PrimaryHead.{PrimaryHead}
use Rattle.epl_parser.specs.declared.head.PrimaryHead.TheVariants as head
use Rattle.epl_parser.specs.declared.expression_parser.Found.{Found}
use Rattle.epl_syntax.specs.Tree.{integer, text, truth, absent, empty_list, Expression, expression, Const_, Name_, Me}
use Rattle.epl_syntax.specs.Tree.{ListOf, Apply, in_order}
use Rattle.epl_parser.specs.OneToken.{name_at, the_mark, the_word, headed, look_one}
use Rattle.epl_parser.specs.Heads.{operator_at, comparison, primary_head, ties}
use Rattle.epl_parser.specs.WrittenKinds.{out_of_steps}
use Rattle.epl_parser.specs.Constants.{text_at, read_kind_in_parens}
use Rattle.epl_parser.specs.Expressions.{Parsed, joined, prefixed, at_index, single}

-- the first token, if any, ties what stands behind it less closely than so
abbrev pub Ends : ℕ → List Token → Type 0
Ends n [] = Unit {0}
Ends n (t ∷ ts) = ties t.kind < n

-- what may follow an expression: no operator, no comparison and no `[`
abbrev pub EndsExpression : List Token → Type 0
EndsExpression = Ends 1

-- a reader at each depth
abbrev pub Reader : Type 0
Reader = ℕ → Looker Token Parsed

-- the mark is one that stands behind expressions with commas between them: ")" or "]"
abbrev pub IsClosing : Mark → Type 0
IsClosing mark.Close = Unit {0}
IsClosing mark.CloseList = Unit {0}
IsClosing _ = ⊥

-- what the parser found, as the grammar has it
abbrev pub parsed : Found → Parsed
parsed x = record { tree = expression x.tree; behind = x.behind; begins = x.begins }

-- readers of the rules that stand in themselves, for what stands inside an expression
pub record Inner : Type 0 where
  pub unit : Reader
  pub neg : Reader
  pub expr : Reader

module _ (bytes : List ℕ) (turns outer : ℕ) where
  -- ---- operators of a level, each with the part behind it
  -- one operator behind x, and its part
  abbrev pub read_step : Level → Reader → Parsed → Looker Token Parsed
  read_step l part x = look_both (look_at 32 (λ op. max outer (suc x.behind)) (λ t. operator_at l t.kind))
      (λ op. look_mapped (joined op x) (part (suc x.behind)))

  -- operators behind x with their parts, as long as one comes; n bounds the steps
  abbrev pub read_steps : Level → Reader → ℕ → Parsed → Looker Token Parsed
  read_steps l part n x = look_many (λ t. operator_at l t.kind) (read_step l part) n x

  -- a part, and the operators of the level behind it with theirs
  abbrev pub read_chain_by : Level → Reader → Reader
  read_chain_by l part d = look_both (part d) (read_steps l part turns)

  -- ---- a comparison, or none
  -- a comparison behind x, and the sum behind it
  abbrev pub read_compared : Reader → Parsed → Looker Token Parsed
  read_compared sum x = look_both (look_at 32 (λ op. max outer (suc x.behind)) (λ t. comparison t.kind))
      (λ op. look_mapped (joined op x) (sum (suc x.behind)))

  -- a sum, or two with a comparison between them
  abbrev pub read_cmp_by : Reader → Reader
  read_cmp_by sum d = look_both (sum d) (λ x. look_if (λ t. comparison t.kind) x (read_compared sum x))

  -- ---- an operator before its operand
  -- a token for which f has a value, as the operator p, and the operand behind it
  abbrev pub read_prefixed : Prefix → (Token → Option Token) → Reader → Reader
  read_prefixed p f operand d = look_both (look_one (max outer (suc d)) f) (λ t. look_mapped (prefixed p t) (operand (suc d)))

  -- "not" with what neg reads, or else what cmp reads
  abbrev pub read_neg_by : Reader → Reader → Reader
  read_neg_by neg cmp d = look_or (the_word word.Not) (read_prefixed prefix.Not (the_word word.Not) neg d) (cmp d)

  -- ---- indices
  -- one index behind x, in brackets
  abbrev pub read_index : Reader → Parsed → Looker Token Parsed
  read_index expr x =
      look_both (look_one (max outer (suc x.behind)) (the_mark mark.OpenList))
      (λ t. look_mapped (at_index x) (look_closed 32 (max outer (suc x.behind)) (the_mark mark.CloseList) (expr (suc (suc x.behind)))))

  -- indices behind x, as long as one comes; n bounds the steps
  abbrev pub read_indices : Reader → ℕ → Parsed → Looker Token Parsed
  read_indices expr n x = look_many (the_mark mark.OpenList) (read_index expr) n x

  -- a minus with what unit reads, or else what primary reads with its indices
  abbrev pub read_unit_by : Reader → Reader → Reader → Reader
  read_unit_by unit expr primary d = look_or (the_mark mark.Minus) (read_prefixed prefix.Negate (the_mark mark.Minus) unit d)
      (look_both (primary d) (read_indices expr turns))

  -- ---- operands
  -- at least one expression, with commas between each two
  abbrev pub read_exprs : Reader → ℕ → Looker Token (List Expression)
  read_exprs expr d = look_separated 32 (max outer d) (the_mark mark.Comma) turns (look_mapped (λ (x : Parsed). x.tree) (expr (suc d)))

  -- expressions with a mark behind them
  abbrev pub read_exprs_to : Mark → Reader → ℕ → Looker Token (List Expression)
  read_exprs_to m expr d = look_closed 32 (max outer d) (the_mark m) (read_exprs expr d)

  -- the rest of such expressions with the mark behind them, where these before are read; n bounds the steps
  abbrev pub exprs_on : Mark → Reader → ℕ → ℕ → List Expression → Looker Token (List Expression)
  exprs_on m expr d n before =
      look_both (look_many (the_mark mark.Comma)
      (look_next 32 (max outer d) (the_mark mark.Comma) (look_mapped (λ (x : Parsed). x.tree) (expr (suc d)))) n before)
      (λ es. look_mapped (λ u. es) (look_one (max outer d) (the_mark m)))

  -- the arguments of a built-in function, in parentheses
  abbrev pub read_args : Reader → ℕ → Looker Token (List Expression)
  read_args expr d = look_both (look_one (max outer d) (the_mark mark.Open)) (λ o. read_exprs_to mark.Close expr d)

  -- an operand without prefixes and indices that has this head, behind its first token t
  abbrev pub read_primary_rest : Reader → ℕ → PrimaryHead → Token → Looker Token Parsed
  read_primary_rest expr d (head.Int n) t = look_here (single (Const_ (integer n) t.start) t d)
  read_primary_rest expr d head.Text t = look_here (single (Const_ (text (text_at bytes t)) t.start) t d)
  read_primary_rest expr d (head.Bool b) t = look_here (single (Const_ (truth b) t.start) t d)
  read_primary_rest expr d head.Absent t = look_here (single (Const_ absent t.start) t d)
  read_primary_rest expr d head.Me t = look_here (single (Me t.start) t d)
  read_primary_rest expr d head.Name t = look_here (single (Name_ (name_at bytes t)) t d)
  read_primary_rest expr d head.Parens t = look_mapped (λ (x : Parsed). single x.tree t d)
      (look_closed 32 (max outer d) (the_mark mark.Close) (expr (suc d)))
  read_primary_rest expr d head.List t = look_mapped (λ es. single (ListOf (in_order es) t.start) t d) (read_exprs_to mark.CloseList expr d)
  read_primary_rest expr d head.EmptyList t = look_mapped (λ k. single (Const_ (empty_list k) t.start) t d)
      (read_kind_in_parens (max outer d))
  read_primary_rest expr d (head.Apply b) t = look_mapped (λ es. single (Apply b (in_order es) t.start) t d) (read_args expr d)

  -- such an operand from its first token on
  abbrev pub read_primary_by : Reader → Reader
  read_primary_by expr d = look_both (look_one (max outer d) (headed primary_head)) (λ h. read_primary_rest expr d h.0 h.1)

  -- ---- each rule, over those that stand inside
  -- an operand with a minus before it, or with its indices
  abbrev pub unit_by : Inner → Reader
  unit_by i = read_unit_by i.unit i.expr (read_primary_by i.expr)

  -- units with "*", "/" or "mod" between them
  abbrev pub term_by : Inner → Reader
  term_by i = read_chain_by level.Term (unit_by i)

  -- terms with "+", "-" or "&" between them
  abbrev pub sum_by : Inner → Reader
  sum_by i = read_chain_by level.Sum (term_by i)

  -- one sum, or two that are compared
  abbrev pub cmp_by : Inner → Reader
  cmp_by i = read_cmp_by (sum_by i)

  -- a comparison, with "not" before it or without
  abbrev pub neg_by : Inner → Reader
  neg_by i = read_neg_by i.neg (cmp_by i)

  -- comparisons with "and" between them, each with "not" or without
  abbrev pub conj_by : Inner → Reader
  conj_by i = read_chain_by level.And (neg_by i)

  -- a whole expression: conjunctions with "or" between them
  abbrev pub expr_by : Inner → Reader
  expr_by i = read_chain_by level.Or (conj_by i)

  -- the readers for what stands inside, where so many levels may
  unfoldable pub inner : ℕ → Inner
  inner zero = record { unit = λ d. out_of_steps; neg = λ d. out_of_steps; expr = λ d. out_of_steps }
  inner (suc n) = let i = inner n in record { unit = unit_by i; neg = neg_by i; expr = expr_by i }

  -- ---- what the functions of the parser read, where so many levels may stand inside
  -- what stands between the operators of a level
  unfoldable pub read_part : Level → ℕ → Reader
  read_part level.Or n = conj_by (inner n)
  read_part level.And n = neg_by (inner n)
  read_part level.Sum n = term_by (inner n)
  read_part level.Term n = unit_by (inner n)

  -- parts of a level, with its operators between them
  unfoldable pub read_chain : Level → ℕ → Reader
  read_chain l n = read_chain_by l (read_part l n)

  -- what may stand between two "and": a comparison, with "not" or without
  unfoldable pub read_neg : ℕ → Reader
  read_neg n = neg_by (inner n)

  -- what "not" may stand before: a sum, or two that are compared
  unfoldable pub read_cmp : ℕ → Reader
  read_cmp n = cmp_by (inner n)

  -- what may stand between two "*": an operand with a minus, or with its indices
  unfoldable pub read_unit : ℕ → Reader
  read_unit n = unit_by (inner n)

  -- an operand without prefixes, and the indices behind it
  unfoldable pub read_indexed : ℕ → Reader
  read_indexed n d = look_both (read_primary_by (inner n).expr d) (read_indices (inner n).expr turns)

  -- an operand without prefixes and indices
  unfoldable pub read_primary : ℕ → Reader
  read_primary n = read_primary_by (inner n).expr

  -- an expression that stands in no other: 32 levels are enough
  unfoldable pub read_expression : Looker Token Expression
  read_expression = look_mapped (λ (x : Parsed). x.tree) (read_chain level.Or 32 1)
