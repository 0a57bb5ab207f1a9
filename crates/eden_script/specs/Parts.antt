-- How a script is cut.
use Rattle.std.specs.Prelude.{ℕ, zero, suc, ◌+◌, ◌==◌, Bool, List, [], ◌∷◌, ◌++◌, length, take, codes, if◌then◌else◌}
use Rattle.std.specs.List.{filter}
use Rattle.std.specs.Str.{bytes_eq}
use Rattle.script_words.specs.Lines.{lines_of}

-- A part of a script: a line; the text of an Edentype, from a line that begins with `edentype` to the next line
-- `endtype`; or the lines from such a beginning on, where no line `endtype` follows.
pub data Part : Type 0 where
  line : List ℕ → Part
  declaration : List ℕ → Part
  unclosed : List (List ℕ) → Part

-- a line begins an Edentype
abbrev pub begins_type : List ℕ → Bool
begins_type bytes = bytes_eq (take 8 bytes) (codes "edentype")

-- a line ends an Edentype
abbrev pub ends_type : List ℕ → Bool
ends_type bytes = bytes_eq bytes (codes "endtype")

abbrev mutual
  -- the parts of these lines, where the first of them begins a part
  pub parts_of : List (List ℕ) → List Part
  parts_of [] = []
  parts_of (bytes ∷ lines) = if begins_type bytes then parts_behind (bytes ++ 10 ∷ []) lines else line bytes ∷ parts_of lines

  -- the parts where this text of an Edentype has begun: it ends with the next line `endtype`, or is unclosed where none comes
  pub parts_behind : List ℕ → List (List ℕ) → List Part
  parts_behind text [] = unclosed (lines_of text) ∷ []
  parts_behind text (bytes ∷ lines) =
      if ends_type bytes then declaration (text ++ bytes) ∷ parts_of lines else parts_behind (text ++ (bytes ++ 10 ∷ [])) lines

-- the lines of a part
abbrev pub lines_in : Part → List (List ℕ)
lines_in (line bytes) = bytes ∷ []
lines_in (declaration text) = lines_of text
lines_in (unclosed lines) = lines

-- how many lines some parts have
abbrev pub line_count : List Part → ℕ
line_count [] = 0
line_count (p ∷ ps) = length (lines_in p) + line_count ps

-- the line so many behind the first; no bytes where there is none
abbrev pub line_at : List (List ℕ) → ℕ → List ℕ
line_at [] i = []
line_at (bytes ∷ lines) zero = bytes
line_at (bytes ∷ lines) (suc i) = line_at lines i

-- the number of line feeds
abbrev pub feeds : List ℕ → ℕ
feeds bytes = length (filter (λ b. b == 10) bytes)

-- the line in which a place of a text stands, counted from 0
abbrev pub line_of_place : List ℕ → ℕ → ℕ
line_of_place text place = feeds (take place text)
