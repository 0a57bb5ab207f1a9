-- The keys that a node lists of its busy Ejects alone.
use Rattle.std.specs.Prelude.{◌≡◌, ℕ, Bool, true, false, List, [], ◌∷◌, map, Option, None, Some, T}
use Rattle.std.specs.List.{flat_map, list_any}
use Rattle.std.specs.FinMap.Entries.{is_sorted}
use Rattle.std.specs.Ordering.{eq_by_cmp}
use Rattle.capability.specs.declared.Uid.{Uid}
use Rattle.eden_model.specs.Map.{uid_cmp}
use Rattle.journal.specs.declared.event.Key.{Key}
use Rattle.journal.specs.World.{Site}
use Rattle.journal.specs.Starts.{is_worked_on}
use Rattle.journal.specs.Enabled.{activity, ready}
use Rattle.active_part.specs.Body.{Body, active_of}
use Rattle.ejects.specs.Parts.{Parts, body_at}
use Rattle.ejects.specs.Marks.{may_wake, may_start, may_run}

-- whether an Eject is one of these
abbrev pub is_among : Uid → List Uid → Bool
is_among u us = list_any (eq_by_cmp uid_cmp u) us

-- an index as the entries of a map: each of its Ejects with true
abbrev pub entries_of : List Uid → List (Uid × Bool)
entries_of us = map (λ u. (u, true)) us

-- the Ejects ascend, and are just those that pass the test
pub record Indexes (us : List Uid) (test : Uid → Bool) : Type 0 where
  pub ascend : T (is_sorted uid_cmp (entries_of us))
  pub exact : (u : Uid) → is_among u us ≡ test u

-- the Ejects of the three indices: passive with queued calls, with a call that may start, and with a process that is not blocked
pub record Indices : Type 0 where
  pub wake : List Uid
  pub start : List Uid
  pub run : List Uid

-- they are those that may take such a turn
pub record IsAgenda (a : Indices) (n : Parts) : Type 0 where
  pub wake : Indexes a.wake (may_wake n)
  pub start : Indexes a.start (λ u. may_start (body_at n u))
  pub run : Indexes a.run (λ u. may_run (body_at n u))

-- a key, or none where a test holds
abbrev pub key_unless : Bool → Key → List Key
key_unless true k = []
key_unless false k = k ∷ []

-- the key of an activation for each of these Ejects, but for one on which the store works
abbrev pub wake_keys : Site → List Uid → List Key
wake_keys s us = flat_map (λ u. key_unless (is_worked_on s u) (activity s.number 2 u 0)) us

-- the key of a start for each of these Ejects, at the station of this number
abbrev pub start_keys : ℕ → List Uid → List Key
start_keys number us = map (λ u. activity number 3 u 0) us

-- a key for each process of the Eject that is not blocked; none where it has no active part
abbrev pub run_keys_of : Uid → Option Body → List Key
run_keys_of u None = []
run_keys_of u (Some b) = ready u (active_of b)

-- the keys of the processes of these Ejects that are not blocked, one Eject behind the other
abbrev pub run_keys : Parts → List Uid → List Key
run_keys n us = flat_map (λ u. run_keys_of u (body_at n u)) us
