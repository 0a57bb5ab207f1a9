-- The native type Directory: it holds names and a capability for each, in the order in which they were added, at most 256.
--
--   AddEntry     needs right 1, takes a name and a capability, returns 1 where the name is there, 2 where there are 256, else adds them
--                last
--   LookUp       needs 2, takes a name, returns 0 and its capability, or 1 and the absent one
--   DeleteEntry  needs 4, takes a name, returns 1 where it is not there, else takes it away with its capability
--   List         needs 8, returns the names
--
-- A change is followed by a checkpoint, and then 0 is returned where that was acknowledged, else 3: then the change stands in the active
-- part and is not known to be kept.
use Rattle.std.specs.Prelude.{ℕ, ◌+◌, ◌==◌, pos, Bool, true, not, cond, ◌&&◌, List, [], ◌∷◌, ◌++◌, length, take, drop, Option, None, codes}
use Rattle.std.specs.List.{list_any, position}
use Rattle.capability.specs.declared.Cap.{Cap}
use Rattle.eden_value.specs.Datum.{Datum, number, text, cap, list, no_data, data_of}
use Rattle.eden_value.specs.Shape.{texts, caps, lists}
use Rattle.eden_value.specs.declared.value.TheConstants.{LIST_LIMIT}
use Rattle.eden_model.specs.Map.{with_item, same_text}
use Rattle.epl_syntax.specs.declared.effect.Answer.{Answer}
use Rattle.epl_syntax.specs.declared.effect.Effect.{Effect}
use Rattle.epl_syntax.specs.declared.effect.Effect.TheVariants.{Return, Checkpoint}
use Rattle.epl_syntax.specs.Same.{same}
use Rattle.epl_syntax.specs.Outline.{Outline, kept}
use Rattle.epl_syntax.specs.Simple.{of_one_class, outline, argument, text_in, cap_in, items_in, returns_code, is_fine}

-- its variables and operations
abbrev pub directory : Outline
directory = outline (codes "Directory") (kept (list no_data) (lists texts) true ∷ kept (list no_data) (lists caps) true ∷ [])
    (of_one_class (codes "AddEntry") 1 (texts ∷ caps ∷ []) ∷ of_one_class (codes "LookUp") 2 (texts ∷ [])
    ∷ of_one_class (codes "DeleteEntry") 4 (texts ∷ []) ∷ of_one_class (codes "List") 8 [] ∷ [])

-- what is in the variables: the names, and their capabilities in the same order
pub record Entries : Type 0 where
  pub names : List Datum
  pub held : List Datum

-- the entries in the values of the variables
abbrev pub entries : List Datum → Entries
entries vars = record { names = items_in (argument 0 vars); held = items_in (argument 1 vars) }

-- the values of the variables with these entries
abbrev pub values_of : Entries → List Datum
values_of d = list (data_of d.names) ∷ list (data_of d.held) ∷ []

-- what is left to do of an operation
pub data Stage : Type 0 where
  -- it adds a name and a capability
  adds : (name : List ℕ) (held : Option Cap) → Stage
  -- it looks up a name
  looks : (name : List ℕ) → Stage
  -- it takes a name away
  deletes : (name : List ℕ) → Stage
  -- it returns the names
  tells : Stage
  -- the checkpoint of a change was asked for
  changed : Stage

-- how an operation begins
abbrev pub first_stage : List ℕ → List Datum → Stage
first_stage name args = let entry = text_in (argument 0 args) in
    cond (same_text name (codes "AddEntry")) (adds entry (cap_in (argument 1 args)))
    (cond (same_text name (codes "LookUp")) (looks entry) (cond (same_text name (codes "DeleteEntry")) (deletes entry) tells))

-- where a name stands, if it is there
abbrev pub place_of : Datum → Entries → Option ℕ
place_of name d = position (same name) d.names

-- with one more entry, the last
abbrev pub with_entry : Datum → Datum → Entries → Entries
with_entry name held d = record { names = d.names ++ name ∷ []; held = d.held ++ held ∷ [] }

-- without the item at a place
abbrev pub without : ℕ → List Datum → List Datum
without i ds = take i ds ++ drop (i + 1) ds

-- without the entry at a place
abbrev pub without_entry : ℕ → Entries → Entries
without_entry i d = record { names = without i d.names; held = without i d.held }

-- the change is made and is to be kept
abbrev pub changes : Entries → List Datum × Stage × Effect
changes d = (values_of d, changed, Checkpoint)

-- a turn: the values after it, what is left to do, and the effect
abbrev pub directory_turn : List Datum → Stage → Answer → List Datum × Stage × Effect
directory_turn vars (adds name held) answer = let d = entries vars in
    with_item (place_of (text name) d) (λ i. (vars, changed, returns_code 1))
    (cond (length d.names == LIST_LIMIT) (vars, changed, returns_code 2) (changes (with_entry (text name) (cap held) d)))
directory_turn vars (looks name) answer = let d = entries vars in (
  vars,
  changed,
  Return (with_item (place_of (text name) d) (λ i. number (pos 0) ∷ argument i d.held ∷ []) (number (pos 1) ∷ cap None ∷ [])),
)
directory_turn vars (deletes name) answer = let d = entries vars in
    with_item (place_of (text name) d) (λ i. changes (without_entry i d)) (vars, changed, returns_code 1)
directory_turn vars tells answer = (vars, changed, Return (argument 0 vars ∷ []))
directory_turn vars changed answer = (vars, changed, returns_code (cond (is_fine answer) 0 3))

-- no value stands twice
abbrev pub all_differ : List Datum → Bool
all_differ [] = true
all_differ (d ∷ ds) = not (list_any (same d) ds) && all_differ ds

-- what stored values have to meet: as many capabilities as names, and no name twice
abbrev pub are_entries : List Datum → Bool
are_entries vars = let d = entries vars in (length d.names == length d.held) && all_differ d.names
