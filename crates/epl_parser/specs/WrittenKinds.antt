-- Kinds: their grammar, and how they are read.
use Rattle.std.specs.Prelude.{◌≡◌, ℕ, zero, suc, max, List, [], ◌∷◌, Option, Some, None, Err}
use Rattle.grammar.specs.Grammar.{Grammar, Mapped}
use Rattle.grammar.specs.Depths.{Placed, spent, Looker, look_both, look_here, look_mapped, look_at}
use Rattle.grammar.specs.Marked.{Marked, look_marked}
use Rattle.eden_value.specs.Shape.{Shape, ints, truths, texts, caps, lists}
use Rattle.epl_syntax.specs.declared.token.Token.{Token}
use Rattle.epl_syntax.specs.declared.token.TokenKind.{TokenKind}
use Rattle.epl_syntax.specs.declared.token.TokenKind.TheVariants as kind
use Rattle.epl_syntax.specs.declared.word.Word.TheVariants as word
use Rattle.epl_parser.specs.declared.head.KindHead.{KindHead}
use Rattle.epl_parser.specs.declared.head.KindHead.TheVariants as head
use Rattle.epl_syntax.specs.Tree.{PlacedShape}
use Rattle.epl_parser.specs.OneToken.{the_word, look_one}

-- ---- one token
-- what a written kind begins with, by the kind of its first token
unfoldable pub kind_head : TokenKind → Option KindHead
kind_head (kind.Word word.Int) = Some head.Int
kind_head (kind.Word word.Bool) = Some head.Bool
kind_head (kind.Word word.Text) = Some head.Text
kind_head (kind.Word word.Cap) = Some head.Cap
kind_head (kind.Word word.List) = Some head.List
kind_head _ = None

-- ---- the grammar: kind = "int" | "bool" | "text" | "cap" | "list" "of" kind
-- A token's depth is the number of kinds in which it stands, or what it is for other reasons.
pub data IsKind (outer : ℕ) : ℕ → List (Token × ℕ) → Shape → Type 0 where
  int_kind : {d : ℕ} (t : Token) → kind_head t.kind ≡ Some head.Int → IsKind outer d ((t, max outer d) ∷ []) ints
  bool_kind : {d : ℕ} (t : Token) → kind_head t.kind ≡ Some head.Bool → IsKind outer d ((t, max outer d) ∷ []) truths
  text_kind : {d : ℕ} (t : Token) → kind_head t.kind ≡ Some head.Text → IsKind outer d ((t, max outer d) ∷ []) texts
  cap_kind : {d : ℕ} (t : Token) → kind_head t.kind ≡ Some head.Cap → IsKind outer d ((t, max outer d) ∷ []) caps
  list_kind : {d : ℕ} {ps : List (Token × ℕ)} {s : Shape} (t u : Token) → kind_head t.kind ≡ Some head.List → u.kind ≡ kind.Word word.Of
      → IsKind outer (suc d) ps s → IsKind outer d ((t, max outer d) ∷ (u, max outer d) ∷ ps) (lists s)

-- a kind with its place, from a pair of them
abbrev pub at_place : Shape × ℕ → PlacedShape
at_place x = record { shape = x.0; place = x.1 }

-- a spelling of a kind that stands in no other, with the place of its first token; its tokens are at least so deep
abbrev pub IsWrittenKind : ℕ → Grammar (Placed Token) PlacedShape
IsWrittenKind outer = Mapped at_place (Marked (λ (t : Token). t.start) (IsKind outer 1))

-- ---- reading, where so many kinds may stand within one another
-- a kind that has this head, behind its first token; inner reads the kind of the items of a list
abbrev pub read_kind_rest : Looker Token Shape → ℕ → ℕ → KindHead → Looker Token Shape
read_kind_rest inner outer d head.Int = look_here ints
read_kind_rest inner outer d head.Bool = look_here truths
read_kind_rest inner outer d head.Text = look_here texts
read_kind_rest inner outer d head.Cap = look_here caps
read_kind_rest inner outer d head.List = look_both (look_one (max outer d) (the_word word.Of)) (λ u. look_mapped lists inner)

-- reading stops, since a bound on steps was too small
abbrev pub out_of_steps : {A : Type 0} → Looker Token A
out_of_steps ts = Err spent

-- a kind, where inner reads the one in a list
abbrev pub read_kind_by : Looker Token Shape → ℕ → ℕ → Looker Token Shape
read_kind_by inner outer d = look_both (look_at 32 (λ h. max outer d) (λ t. kind_head t.kind)) (read_kind_rest inner outer d)

-- the kind of the items of a list, at this depth, where so many may stand within one another from it on
unfoldable pub inner_kind : ℕ → ℕ → ℕ → Looker Token Shape
inner_kind zero outer d = out_of_steps
inner_kind (suc n) outer d = read_kind_by (inner_kind n outer (suc d)) outer d

-- a kind at this depth, in which so many may stand
unfoldable pub read_kind : ℕ → ℕ → ℕ → Looker Token Shape
read_kind n outer d = read_kind_by (inner_kind n outer (suc d)) outer d

-- a kind that stands in no other, with its place: 32 levels are enough
abbrev pub read_written_kind : ℕ → Looker Token PlacedShape
read_written_kind outer = look_mapped at_place (look_marked (λ (t : Token). t.start) (read_kind 32 outer 1))
