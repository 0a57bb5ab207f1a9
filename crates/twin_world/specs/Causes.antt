-- What entries tell of the two disks of their node: which of them failed, and that one stopped.
use Rattle.std.specs.Prelude.{◌≡◌, ◌⊎◌, ℕ, ◌+◌, ◌&&◌, Bool, true, false, List, [], ◌∷◌}
use Rattle.eden_disk.specs.Calls.{one_more, more_by}
use Rattle.passive_store.specs.Seen.{DiskSeen}
use Rattle.twin_store.specs.declared.served.TwinRefusal.{TwinRefusal}
use Rattle.twin_store.specs.declared.served.TwinRefusal.TheVariants.{Lost, Stopped, Full, GenerationsSpent, OutOfMemory}
use Rattle.twin_world.specs.Logs.{Answer, WrongState, Opened, Made, Found, NoRoom, Refused, CutShort, Entry, is_of}

-- 1. One entry

-- the count of faults of a disk behind an entry, by whether the disk is marked there
abbrev pub faults_marked : Bool → ℕ → ℕ
faults_marked true n = one_more n
faults_marked false n = n

-- whether a refusal says that a disk stopped
abbrev pub is_stopped : TwinRefusal → Bool
is_stopped Lost = false
is_stopped Stopped = true
is_stopped Full = false
is_stopped GenerationsSpent = false
is_stopped OutOfMemory = false

-- whether an answer does
abbrev pub is_stop : Answer → Bool
is_stop WrongState = false
is_stop (Opened first second) = false
is_stop Made = false
is_stop (Found text) = false
is_stop NoRoom = false
is_stop (Refused r) = is_stopped r
is_stop (CutShort stopped) = stopped

-- where a disk stopped, the count of stops of one of two disks rose by one; else neither rose
abbrev pub OneStopped : Bool → (first one second two : DiskSeen) → Type 0
OneStopped true first one second two =
    ((one.counts.stops ≡ one_more first.counts.stops) × (two.counts.stops ≡ second.counts.stops))
    ⊎ ((one.counts.stops ≡ first.counts.stops) × (two.counts.stops ≡ one_more second.counts.stops))
OneStopped false first one second two =
    (one.counts.stops ≡ first.counts.stops) × (two.counts.stops ≡ second.counts.stops)

-- The count of faults of a disk rose in an entry where the entry marks the disk, and nowhere else; so did that of stops of one of them
-- where the answer says so.
pub record TellsCounts (e : Entry) (first one second two : DiskSeen) : Type 0 where
  pub first_marked : one.counts.faults ≡ faults_marked e.first_failed first.counts.faults
  pub second_marked : two.counts.faults ≡ faults_marked e.second_failed second.counts.faults
  pub stopped : OneStopped (is_stop e.answer) first one second two

-- the same of the disks of a place
abbrev pub IsTold : Entry → List DiskSeen → List DiskSeen → Type 0
IsTold e [] [] = Unit {0}
IsTold e (first ∷ second ∷ []) (one ∷ two ∷ []) = TellsCounts e first one second two
IsTold e _ _ = ⊥

-- 2. Many entries

abbrev pub one_if : Bool → ℕ
one_if true = 1
one_if false = 0

-- how many of some entries are so
abbrev pub times : (Entry → Bool) → List Entry → ℕ
times is_so [] = 0
times is_so (e ∷ es) = one_if (is_so e) + times is_so es

-- whether an entry of a node marks its first disk, or its second, or says that one of them stopped
abbrev pub marks_first : ℕ → Entry → Bool
marks_first n e = is_of n e && e.first_failed

abbrev pub marks_second : ℕ → Entry → Bool
marks_second n e = is_of n e && e.second_failed

abbrev pub says_stop : ℕ → Entry → Bool
says_stop n e = is_of n e && is_stop e.answer

-- The counts of stops of two disks rose so often together, each up to its end.
pub record AreStops (all first one second two : ℕ) : Type 0 where
  pub first_stops : ℕ
  pub second_stops : ℕ
  pub together : first_stops + second_stops ≡ all
  pub first_stopped : one ≡ more_by first_stops first
  pub second_stopped : two ≡ more_by second_stops second

-- The count of faults of each of a node's disks rose just as often as entries mark it, and the counts of stops of both, together, as
-- often as entries say that one stopped; but no count rises past its end.
pub record AreCounted (n : ℕ) (es : List Entry) (first one second two : DiskSeen) : Type 0 where
  pub first_marked : one.counts.faults ≡ more_by (times (marks_first n) es) first.counts.faults
  pub second_marked : two.counts.faults ≡ more_by (times (marks_second n) es) second.counts.faults
  pub stopped : AreStops (times (says_stop n) es) first.counts.stops one.counts.stops second.counts.stops two.counts.stops

-- the same of the disks of a place
abbrev pub IsCounted : ℕ → List Entry → List DiskSeen → List DiskSeen → Type 0
IsCounted n es [] [] = Unit {0}
IsCounted n es (first ∷ second ∷ []) (one ∷ two ∷ []) = AreCounted n es first one second two
IsCounted n es _ _ = ⊥
