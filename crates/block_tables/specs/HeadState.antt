-- The heads of a disk in memory: what stands under each number, and of each uid the head that counts.
use Rattle.std.specs.Prelude.{◌≡◌, ◌<◌, ◌≤◌, ◌+◌, ◌-◌, ◌==◌, ◌&&◌, not, ℕ, Bool, true, false, nat_lt}
use Rattle.std.specs.Prelude.{List, length, filter, map, slice_index_or, Option, None, Some, if◌then◌else◌}
use Rattle.std.proofs.Common.{cond}
use Rattle.std.specs.Ordering.{eq_by_cmp}
use Rattle.std.specs.BTreeMap as tree
use Rattle.std.specs.BTreeMap.{BTreeMap}
use Rattle.capability.specs.declared.Uid.{Uid}
use Rattle.capability.specs.Uids.{uid_cmp}
use Rattle.block_tables.specs.declared.heads.HeadFields.{HeadFields}
use Rattle.block_tables.specs.declared.index.IndexEntry.{IndexEntry}
use Rattle.block_tables.specs.declared.head_table.HeadTable.{HeadTable}
use Rattle.block_tables.specs.Members.{is_member}
use Rattle.block_tables.specs.Blocks.{Head}
use Rattle.block_tables.specs.HeadSeen.{head_of}

-- an empty entry: no open head counts, and there is none beside it
abbrev pub no_entry : IndexEntry
no_entry = record { latest = None; others = 0 }

-- the entry that was found, or an empty one where none was
abbrev pub entry_or_none : Option IndexEntry → IndexEntry
entry_or_none None = no_entry
entry_or_none (Some entry) = entry

-- what the index has under this uid, an empty entry where it has nothing
abbrev pub entry_at : BTreeMap Uid IndexEntry → Uid → IndexEntry
entry_at index uid = entry_or_none (tree.get uid_cmp index uid)

-- an index after one of its entries was set
abbrev pub SetsEntry : BTreeMap Uid IndexEntry → BTreeMap Uid IndexEntry → Uid → IndexEntry → Type 0
SetsEntry old new uid entry = (q : Uid) → entry_at new q ≡ cond (eq_by_cmp uid_cmp q uid) entry (entry_at old q)

-- a number under which no head is open
abbrev pub closed_slot : HeadFields
closed_slot = record { number = 0; uid = record { node = 0; epoch = 0; serial = 0 }; removal = false; sequence = 0; size = 0; first = 0 }

-- what stands under this number; past the last one no head is open
abbrev pub slot_at : List HeadFields → ℕ → HeadFields
slot_at slots k = slice_index_or slots k closed_slot

-- an open head stands there: its sequence is not 0
abbrev pub is_open : HeadFields → Bool
is_open slot = nat_lt 0 slot.sequence

-- the open heads, ascending
abbrev pub heads_in : List HeadFields → List Head
heads_in slots = map head_of (filter is_open slots)

-- an open head of this uid stands there
abbrev pub is_open_of : Uid → HeadFields → Bool
is_open_of uid slot = is_open slot && eq_by_cmp uid_cmp slot.uid uid

-- how many open heads a uid has
abbrev pub count_of : List HeadFields → Uid → ℕ
count_of slots uid = length (filter (is_open_of uid) slots)

-- the number of the open head of a uid with the greatest sequence; None where it has no open head
abbrev pub IsLatest : List HeadFields → Uid → Option ℕ → Type 0
IsLatest slots uid None = (k : ℕ) → is_open_of uid (slot_at slots k) ≡ false
IsLatest slots uid (Some n) =
    (is_open_of uid (slot_at slots n) ≡ true)
    × ((k : ℕ) → is_open_of uid (slot_at slots k) ≡ true → (slot_at slots k).sequence ≤ (slot_at slots n).sequence)

-- 1 where there is a number, 0 where there is none
abbrev pub one_if_some : Option ℕ → ℕ
one_if_some None = 0
one_if_some (Some n) = 1

-- The entry of a uid says which of its open heads counts, and how many there are beside it.
abbrev pub IsEntryOf : List HeadFields → Uid → IndexEntry → Type 0
IsEntryOf slots uid entry = IsLatest slots uid entry.latest × (entry.others + one_if_some entry.latest ≡ count_of slots uid)

-- What holds of the heads in memory at any moment.
pub record AreHeads (h : HeadTable) : Type 0 where
  pub long : length h.slots.items ≤ 65536
  pub sequences : h.sequences ≡ map (λ (slot : HeadFields). slot.sequence) h.slots.items
  pub free_long : length h.free ≡ length h.slots.items
  pub closing_long : length h.closing ≡ length h.slots.items
  pub lone_long : length h.lone ≡ length h.slots.items
  pub free : (k : ℕ) → k < length h.slots.items → is_member h.free k ≡ not (is_open (slot_at h.slots.items k))
  pub numbered : (k : ℕ) → is_open (slot_at h.slots.items k) ≡ true → (slot_at h.slots.items k).number ≡ k
  pub entries : (uid : Uid) → IsEntryOf h.slots.items uid (entry_at h.index uid)

-- A new head is not earlier than the one that counts, or none counts.
abbrev pub is_late : List HeadFields → HeadFields → Option ℕ → Bool
is_late slots head None = true
is_late slots head (Some n) = not (nat_lt head.sequence (slot_at slots n).sequence)

-- of a new head and the one that counted before it the one that does not count; None where none counted
abbrev pub outdated : List HeadFields → HeadFields → Option ℕ → Option ℕ
outdated slots head None = None
outdated slots head (Some n) = if nat_lt head.sequence (slot_at slots n).sequence then Some head.number else Some n

-- there is a number, and it is k
abbrev pub is_it : ℕ → Option ℕ → Bool
is_it k None = false
is_it k (Some n) = k == n

-- the entry of a uid once a new head of it is open
abbrev pub joined_entry : List HeadFields → HeadFields → IndexEntry → IndexEntry
joined_entry slots head entry = record {
  latest = if is_late slots head entry.latest then Some head.number else entry.latest;
  others = entry.others + one_if_some entry.latest;
}

-- the entry of a uid once a head of it is closed: an empty one where that counted, else with one fewer beside the one that counts
abbrev pub closed_entry : ℕ → IndexEntry → IndexEntry
closed_entry number entry = if is_it number entry.latest then no_entry else record { latest = entry.latest; others = entry.others - 1 }

-- the head that counts, where it keeps a value
abbrev pub kept_slot : List HeadFields → Option ℕ → Option HeadFields
kept_slot slots None = None
kept_slot slots (Some n) = if (slot_at slots n).removal then None else Some (slot_at slots n)

-- under this number is a removal that is the only open head of its uid, by the entry of that
abbrev pub is_lone : List HeadFields → ℕ → IndexEntry → Bool
is_lone slots k entry = is_open (slot_at slots k) && (is_it k entry.latest && ((slot_at slots k).removal && entry.others == 0))

-- the number of the head that counts, where it is a removal and there are no others
abbrev pub lone_by : List HeadFields → Option ℕ → ℕ → Option ℕ
lone_by slots None others = None
lone_by slots (Some n) others = if (slot_at slots n).removal && others == 0 then Some n else None

-- the number of the removal that is the only open head of a uid, by the entry of that
abbrev pub lone_in : List HeadFields → IndexEntry → Option ℕ
lone_in slots entry = lone_by slots entry.latest entry.others

-- What a read answers of an open head, whatever the disk tells.
pub record IsRead (node number : ℕ) (h : HeadFields) : Type 0 where
  pub numbered : h.number ≡ number
  pub opened : is_open h ≡ true
  pub own : h.uid.node ≡ node
  pub short : h.size ≤ 262144
