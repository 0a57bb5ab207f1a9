-- What a store keeps, in the words of a world.
use Rattle.std.specs.Prelude.{ℕ, List, [], ◌∷◌, Option, None, Some}
use Rattle.std.specs.FinMap as finite
use Rattle.capability.specs.declared.Uid.{Uid}
use Rattle.passive_store.specs.Kept.{Kept}
use Rattle.passive_store.specs.Kept.{StoreChange}
use Rattle.journal.specs.EjectChange.{EjectChange, body, removal}
use Rattle.journal.specs.Standing.{Standing}

-- new bytes, or a removal
abbrev pub change_of : Option (List ℕ) → EjectChange
change_of None = removal
change_of (Some bytes) = body bytes

-- a change of a store with its uid
abbrev pub entry_of : StoreChange → Uid × EjectChange
entry_of c = (c.uid, change_of c.body)

-- several of them, in their order
abbrev pub all_of : List StoreChange → List (Uid × EjectChange)
all_of [] = []
all_of (c ∷ cs) = entry_of c ∷ all_of cs

-- what a store keeps, with these changes under way or in doubt
abbrev pub standing_of : Kept → List StoreChange → Standing
standing_of kept cs = record { kept = Some (finite.entries kept.bodies); changes = all_of cs }
