-- A node's Ejects, as a map from uids to active parts; a passive Eject has none.
use Rattle.std.specs.Prelude.{◌≡◌, ◌≢◌, ℕ, ◌≤◌, Bool, cond, T, List, Option, None, Some, IsSome, refl}
use Rattle.std.specs.List.{find as find_first}
use Rattle.std.specs.Ordering.{is_lt}
use Rattle.std.specs.FinMap.{FinMap, from_sorted, empty, insert, remove, get}
use Rattle.std.specs.FinMap as finite
use Rattle.std.specs.FinMap.Entries.{is_sorted}
use Rattle.std.specs.Coded.{Coded, code_by, coded×, coded_ℕ, coded_option}
use Rattle.slab.specs.Slab.{Slab, get as get_slab}
use Rattle.capability.specs.declared.Uid.{Uid}
use Rattle.capability.specs.Uids.{uid_cmp, coded_uid}
use Rattle.eden_model.specs.Map.{each_value, value_at, first}
use Rattle.eject_table.specs.declared.EjectStanding.{EjectStanding}
use Rattle.eject_table.specs.declared.EjectStanding.TheVariants.{Active, Passive, Absent}

-- a node in one epoch: the last serial that it gave, and how each Eject stands: with its active part, or with none where it is passive
pub record Table (A : Type 0) : Type 0 where
  pub node : ℕ
  pub epoch : ℕ
  pub last_serial : ℕ
  pub standings : FinMap uid_cmp (Option A)

-- a table is told by its four parts
abbrev pub table_code : {A : Type 0} → Coded A → Coded (Table A)
table_code {A} code =
    code_by (ℕ × (ℕ × (ℕ × FinMap uid_cmp (Option A))))
    (coded× coded_ℕ (coded× coded_ℕ (coded× coded_ℕ (finite.code coded_uid (coded_option code)))))
    (λ t. (t.node, (t.epoch, (t.last_serial, t.standings))))
    (λ p. record { node = p.0; epoch = p.1.0; last_serial = p.1.1.0; standings = p.1.1.1 })
    (λ _. refl)

-- the active part at a place of the slab, where there is a place
abbrev pub item_of : {A : Type 0} → Slab A → Option ℕ → Option A
item_of slab None = None
item_of slab (Some k) = get_slab slab k

-- the map that a slab and the places in it stand for
abbrev pub map_of : {A : Type 0} → Slab A → List (Uid × Option ℕ) → FinMap uid_cmp (Option A)
map_of slab places = from_sorted (each_value (item_of slab) places)

-- the uids rise, each place holds an active part, and no two uids have one place
pub record IsWhole {A : Type 0} (slab : Slab A) (places : List (Uid × Option ℕ)) : Type 0 where
  pub sorted : T (is_sorted uid_cmp places)
  pub occupied : (u : Uid) (k : ℕ) → value_at uid_cmp u places ≡ Some (Some k) → IsSome (get_slab slab k)
  pub apart : (u v : Uid) (k : ℕ) → value_at uid_cmp u places ≡ Some (Some k) → value_at uid_cmp v places ≡ Some (Some k) → u ≡ v

-- what always holds of a table: its slab and its places fit together, and its node is at most 8
pub record IsKept {A : Type 0} (node : ℕ) (slab : Slab A) (places : List (Uid × Option ℕ)) : Type 0 where
  pub whole : IsWhole slab places
  pub last : node ≤ 8

-- a table with no Eject
abbrev pub empty_table : {A : Type 0} → ℕ → ℕ → ℕ → Table A
empty_table node epoch last = record { node = node; epoch = epoch; last_serial = last; standings = empty }

-- 1. Look-ups

-- the active part that is looked up, where there is one
abbrev pub active_in : {A : Type 0} → Option (Option A) → Option A
active_in None = None
active_in (Some a) = a

-- the active part of an Eject
abbrev pub active_at : {A : Type 0} → Table A → Uid → Option A
active_at t u = active_in (get t.standings u)

-- how an Eject stands, by what is looked up
abbrev pub standing_of : {A : Type 0} → Option (Option A) → EjectStanding
standing_of None = Absent
standing_of (Some None) = Passive
standing_of (Some (Some a)) = Active

-- how an Eject stands in a table
abbrev pub standing_at : {A : Type 0} → Table A → Uid → EjectStanding
standing_at t u = standing_of (get t.standings u)

-- the least uid past one, or the least of all
abbrev pub next_key : Option Uid → List Uid → Option Uid
next_key None us = first us
next_key (Some u) us = find_first (λ v. is_lt (uid_cmp u v)) us

-- 2. Changes

-- the Eject stands so from now on
abbrev pub with_entry : {A : Type 0} → Table A → Uid → Option A → Table A
with_entry t u a = record t { standings = insert t.standings u a }

-- the Eject is in the table no more
abbrev pub without_entry : {A : Type 0} → Table A → Uid → Table A
without_entry t u = record t { standings = remove t.standings u }

-- after a write through `active_mut`
abbrev pub with_active : {A : Type 0} → Table A → Uid → A → Table A
with_active t u a = with_entry t u (Some a)

-- each uid in the table is of an earlier epoch, or was created in it
pub record AllBefore {A : Type 0} (t : Table A) : Type 0 where
  pub each : (u : Uid) → get t.standings u ≢ None → u.epoch ≡ t.epoch → u.serial ≤ t.last_serial

-- an Eject that is active is passive from now on, or absent
abbrev pub dropped_in : {A : Type 0} → Option A → FinMap uid_cmp (Option A) → Uid → Bool → FinMap uid_cmp (Option A)
dropped_in None m u stays = m
dropped_in (Some a) m u stays = cond stays (insert m u None) (remove m u)

-- the same, by its uid; nothing changes where it is not active
abbrev pub dropped : {A : Type 0} → FinMap uid_cmp (Option A) → Uid → Bool → FinMap uid_cmp (Option A)
dropped m u stays = dropped_in (active_in (get m u)) m u stays

-- what a place tells
abbrev pub place_standing : Option (Option ℕ) → EjectStanding
place_standing None = Absent
place_standing (Some None) = Passive
place_standing (Some (Some k)) = Active
