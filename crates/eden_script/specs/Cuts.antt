-- How the bytes of a script are cut.
use Rattle.std.specs.Prelude.{◌≡◌, ◌≤◌, ◌+◌, ℕ, List, [], ◌∷◌, length, Option, Some, None}
use Rattle.std.specs.Borrow.{Bor}
use Rattle.eden_script.specs.Parts.{parts_of, declaration, unclosed}
use Rattle.script_words.specs.Lines.{lines_of}

-- the first part of the bytes is this Edentype with its end, and these bytes make the other parts; or all are the lines of one without
abbrev pub IsDeclaration : List ℕ → Option (Bor (List ℕ) × Bor (List ℕ)) → Type 0
IsDeclaration bytes (Some found) =
    (parts_of (lines_of bytes) ≡ declaration found.0.now ∷ parts_of (lines_of found.1.now)) × (8 ≤ length found.0.now)
    × (length found.0.now + length found.1.now ≤ length bytes)
IsDeclaration bytes None = parts_of (lines_of bytes) ≡ unclosed (lines_of bytes) ∷ []
