-- An index as a list, and which of its keys come behind the last one.
use Rattle.std.specs.Prelude.{◌≡◌, ℕ, Bool, true, false, List, [], ◌∷◌, map, Option, None, Some}
use Rattle.std.specs.List.{flat_map}
use Rattle.std.specs.Ordering.{nat_cmp, ordering_then, is_lt}
use Rattle.capability.specs.declared.Uid.{Uid}
use Rattle.eden_model.specs.Map.{with_item, uid_cmp, same_uid}
use Rattle.journal.specs.declared.event.Key.{Key}
use Rattle.journal.specs.Enabled.{activity, no_uid}
use Rattle.journal.specs.Starts.{is_worked_on}
use Rattle.journal.specs.World.{Site}
use Rattle.agenda.specs.Keys.{Indices, key_unless}
use Rattle.agenda.specs.declared.index.Index.{Index}
use Rattle.agenda.specs.declared.behind.Behind.{Behind}
use Rattle.agenda.specs.declared.behind.Behind.TheVariants.{All, Past, Nothing}
use Rattle.agenda.specs.declared.Agenda.{Agenda}

-- the Ejects of an index
abbrev pub uids_of : Index → List Uid
uids_of i = map (λ e. e.0) i.uids.entries

-- the Ejects of the three indices of an agenda
abbrev pub indices_of : Agenda → Indices
indices_of a = record { wake = uids_of a.wake; start = uids_of a.start; run = uids_of a.run }

-- what an index keeps of an Eject that is among its own
abbrev pub entry_if : Bool → Option Bool
entry_if true = Some true
entry_if false = None

-- whether the key of this Eject and this process comes behind the last one
abbrev pub comes : Behind → Uid → ℕ → Bool
comes All u q = true
comes (Past v p) u q = is_lt (ordering_then (uid_cmp v u) (nat_cmp p q))
comes Nothing u q = false

-- there is an Eject, and it is this one
abbrev pub is_it : Option Uid → Uid → Bool
is_it o u = with_item o (λ v. same_uid v u) false

-- the keys of activations, but for the Eject on which the store works
abbrev pub wake_keys_but : ℕ → Option Uid → List Uid → List Key
wake_keys_but station worked us = flat_map (λ u. key_unless (is_it worked u) (activity station 2 u 0)) us

-- the key of a turn of the store, where it has a request
abbrev pub store_key : ℕ → Bool → List Key
store_key station true = activity station 5 no_uid 0 ∷ []
store_key station false = []

-- the store works on this Eject, or on none
pub record WorksOn (s : Site) (worked : Option Uid) : Type 0 where
  pub at : (u : Uid) → is_worked_on s u ≡ is_it worked u

-- all these Ejects are of the station
abbrev pub AreAt : ℕ → List Uid → Type 0
AreAt station [] = Unit {0}
AreAt station (u ∷ us) = (u.node ≡ station) × AreAt station us
