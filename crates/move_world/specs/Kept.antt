-- The letters that the code keeps, by the nodes between which they go.
use Rattle.std.specs.Prelude.{◌≡◌, ◌⊎◌, ℕ, ◌+◌, ◌-◌, ◌*◌, List, [], ◌∷◌, ◌++◌, map, replicate, slice_set, slice_index_or}
use Rattle.eden_value.specs.Datum.{Datum}
use Rattle.move_laws.specs.World.{Post}
use Rattle.eden_move.specs.declared.letter.Letter.{Letter}
use Rattle.eden_move.specs.Calls.{uid_of, seen_letter}
use Rattle.move_world.specs.Commands.{IsNode}
use Rattle.move_world.specs.Logs.{receiver, letters_between}
use Rattle.move_world.specs.declared.letters.Letters.{Letters}

-- the place of the letters from node a to node b
abbrev pub slot : (a b : ℕ) → ℕ
slot a b = (a - 1) * 8 + (b - 1)

abbrev pub rows : Letters → List (List Letter)
rows l = map (λ v. v.items) l.lists.items

-- no letter was sent
abbrev pub no_letters : List (List Letter)
no_letters = replicate 64 []

-- the letters from node a to node b
abbrev pub sent_between : List (List Letter) → (a b : ℕ) → List Letter
sent_between ls a b = slice_index_or ls (slot a b) []

-- a letter more
abbrev pub with_letter : List (List Letter) → (a b : ℕ) → Letter → List (List Letter)
with_letter ls a b l = slice_set ls (slot a b) (sent_between ls a b ++ l ∷ [])

-- a letter that was sent from this node
abbrev pub post_from : ℕ → Letter → Post Datum
post_from a l = record { uid = uid_of l; from = a; letter = seen_letter l }

-- the letters from node a to node b, as they were sent
abbrev pub posts_between : List (List Letter) → (a b : ℕ) → List (Post Datum)
posts_between ls a b = map (post_from a) (sent_between ls a b)

-- a letter was sent from node a: it is kept, or it goes to no node
abbrev pub IsSent : ℕ → Letter → List (List Letter) → List (List Letter) → Type 0
IsSent a l old new =
    (IsNode (receiver (seen_letter l)) × (new ≡ with_letter old a (receiver (seen_letter l)) l))
    ⊎ ((IsNode (receiver (seen_letter l)) → ⊥) × (new ≡ old))

-- these letters are those that were sent between the nodes of the script
abbrev pub HasLetters : List (List Letter) → List (Post Datum) → Type 0
HasLetters ls ps = (a b : ℕ) → IsNode a → IsNode b → posts_between ls a b ≡ letters_between a b ps
