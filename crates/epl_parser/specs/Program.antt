-- Which Edentype a text spells, and where a text is refused: by its tokens and the grammar alone.
use Rattle.std.specs.Prelude.{◌≡◌, ℕ, ◌-◌, ◌<◌, ◌≤◌, List, [], ◌∷◌, length, drop, None, Result, Ok, Err, ◌⊎◌}
use Rattle.std.specs.List.{AllByRecursion}
use Rattle.grammar.specs.FirstFault.{Spells as SpellsShallow, Breaks as BreaksGrammar, Deepens}
use Rattle.epl_syntax.specs.declared.token.ParseRefusal.{ParseRefusal}
use Rattle.epl_syntax.specs.declared.token.ParseRefusal.TheVariants.{BadToken, TooDeep, OutOfMemory}
use Rattle.epl_syntax.specs.declared.token.Token.{Token}
use Rattle.epl_syntax.specs.declared.token.TokenKind.TheVariants as kind
use Rattle.epl_syntax.specs.declared.tree.Name.{Name}
use Rattle.epl_syntax.specs.declared.tree.Program.{Program}
use Rattle.epl_syntax.specs.declared.word.Word.TheVariants as word
use Rattle.epl_syntax.specs.Token.{token_at, Leads, SpellsTokens}
use Rattle.epl_syntax.specs.Tree.{TypeTree, type_tree}
use Rattle.epl_parser.specs.Items.{IsEdentype}
use Rattle.epl_parser.specs.OneToken.{name_at}

-- The whole text spells tokens, and they the type, none of them past depth 32.
pub record SpellsType (text : List ℕ) (e : TypeTree) : Type 0 where
  pub tokens : List Token
  pub spelled : SpellsTokens text tokens
  pub type : SpellsShallow 32 (IsEdentype text) tokens e

-- The text begins with `edentype` and this name.
pub record IsNamed (text : List ℕ) (name : Name) : Type 0 where
  pub first : Token
  pub second : Token
  pub more : List Token
  pub spelled : SpellsTokens text (first ∷ second ∷ more)
  pub is_word : first.kind ≡ kind.Word word.Edentype
  pub is_upper : second.kind ≡ kind.Upper
  pub is_name : name_at text second ≡ name

-- each condition of the type is of one of its monitors, which are counted from 1
abbrev pub AreInMonitors : TypeTree → Type 0
AreInMonitors e = AllByRecursion (λ c. (1 ≤ c.monitor) × (c.monitor ≤ length e.monitors)) e.conditions

-- The text has these tokens up to this place, at which no token begins.
pub record HasTokens (text : List ℕ) (tokens : List Token) (end : ℕ) : Type 0 where
  pub leads : Leads text 0 tokens end
  pub stops : token_at (drop end text) ≡ None

-- the start of the first token, or else the end
abbrev pub start_or : ℕ → List Token → ℕ
start_or end [] = end
start_or end (t ∷ ts) = t.start

-- the start of the token from which on so many are left
abbrev pub place_of : ℕ → List Token → ℕ → ℕ
place_of end tokens left = start_or end (drop (length tokens - left) tokens)

-- Of the tokens up to the first place where none begins, the first that no Edentype with the same tokens before it has
-- starts here; or all of them begin one, and they end here.
pub record BreaksType (text : List ℕ) (place : ℕ) : Type 0 where
  pub tokens : List Token
  pub end : ℕ
  pub has : HasTokens text tokens end
  pub left : ℕ
  pub broken : BreaksGrammar 32 (IsEdentype text) tokens left
  pub here : place ≡ place_of end tokens left

-- The tokens up to here spell a type, but no token begins here, and the text goes on.
pub record GoesOn (text : List ℕ) (place : ℕ) : Type 0 where
  pub tokens : List Token
  pub has : HasTokens text tokens place
  pub value : TypeTree
  pub type : SpellsShallow 32 (IsEdentype text) tokens value
  pub within : place < length text

-- The first token whose depth is past 32, in a type that begins so, starts here; in no type that begins with the same
-- tokens are they all within that depth.
pub record DeepensType (text : List ℕ) (place : ℕ) : Type 0 where
  pub tokens : List Token
  pub end : ℕ
  pub has : HasTokens text tokens end
  pub left : ℕ
  pub deep : Deepens 32 (IsEdentype text) tokens left
  pub here : place ≡ place_of end tokens left

-- Here the text is refused.
abbrev pub RefusesType : List ℕ → ℕ → Type 0
RefusesType text place = (BreaksType text place ⊎ GoesOn text place) ⊎ DeepensType text place

-- what `parse_edentype` answers
abbrev pub TypeIs : List ℕ → Result Program ParseRefusal → Type 0
TypeIs text (Ok p) = SpellsType text (type_tree p)
TypeIs text (Err (BadToken place)) = BreaksType text place ⊎ GoesOn text place
TypeIs text (Err (TooDeep place)) = DeepensType text place
TypeIs text (Err OutOfMemory) = Unit {0}

-- it is the type, or memory ran out
abbrev pub IsTaken : TypeTree → Result Program ParseRefusal → Type 0
IsTaken e (Ok p) = type_tree p ≡ e
IsTaken e (Err (BadToken place)) = ⊥
IsTaken e (Err (TooDeep place)) = ⊥
IsTaken e (Err OutOfMemory) = Unit {0}
