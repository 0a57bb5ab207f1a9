-- The words of the language, and how each is spelled.
use Rattle.std.specs.Prelude.{ℕ, List, [], ◌∷◌, Option, Some, None, if◌then◌else◌, codes}
use Rattle.std.specs.Str.{bytes_eq}
use Rattle.epl_syntax.specs.declared.word.Word.{Word}
use Rattle.epl_syntax.specs.declared.word.Word.TheVariants as word

-- each word, and how it is spelled
abbrev pub spelled_words : List (List ℕ × Word)
spelled_words =
    (codes "edentype", word.Edentype) ∷
    (codes "endtype", word.Endtype) ∷
    (codes "version", word.Version) ∷
    (codes "class", word.Class) ∷
    (codes "limit", word.Limit) ∷
    (codes "monitor", word.Monitor) ∷
    (codes "condition", word.Condition) ∷
    (codes "operation", word.Operation) ∷
    (codes "needs", word.Needs) ∷
    (codes "returns", word.Returns) ∷
    (codes "process", word.Process) ∷
    (codes "durable", word.Durable) ∷
    (codes "working", word.Working) ∷
    (codes "var", word.Var) ∷
    (codes "upgrade", word.Upgrade) ∷
    (codes "from", word.From) ∷
    (codes "end", word.End) ∷
    (codes "int", word.Int) ∷
    (codes "bool", word.Bool) ∷
    (codes "text", word.Text) ∷
    (codes "cap", word.Cap) ∷
    (codes "list", word.List) ∷
    (codes "of", word.Of) ∷
    (codes "true", word.True) ∷
    (codes "false", word.False) ∷
    (codes "none", word.None) ∷
    (codes "if", word.If) ∷
    (codes "then", word.Then) ∷
    (codes "else", word.Else) ∷
    (codes "while", word.While) ∷
    (codes "do", word.Do) ∷
    (codes "with", word.With) ∷
    (codes "wait", word.Wait) ∷
    (codes "signal", word.Signal) ∷
    (codes "yield", word.Yield) ∷
    (codes "deactivate", word.Deactivate) ∷
    (codes "checkpoint", word.Checkpoint) ∷
    (codes "destroy", word.Destroy) ∷
    (codes "create", word.Create) ∷
    (codes "invoke", word.Invoke) ∷
    (codes "self", word.Me) ∷
    (codes "status", word.Status) ∷
    (codes "gives", word.Gives) ∷
    (codes "return", word.Return) ∷
    (codes "or", word.Or) ∷
    (codes "and", word.And) ∷
    (codes "not", word.Not) ∷
    (codes "mod", word.Mod) ∷
    (codes "size", word.Size) ∷
    (codes "str", word.Str) ∷
    (codes "put", word.Put) ∷
    (codes "cut", word.Cut) ∷
    (codes "part", word.Part) ∷
    (codes "restrict", word.Restrict) ∷
    []

-- the word that is spelled so in a table
abbrev pub word_in : List (List ℕ × Word) → List ℕ → Option Word
word_in [] name = None
word_in (w ∷ ws) name = if bytes_eq name w.0 then Some w.1 else word_in ws name

-- the word that is spelled so
unfoldable pub word_of : List ℕ → Option Word
word_of name = word_in spelled_words name
