-- What a twin that is open, and two disks of one that is closed, have in hand for what is known of a pair and what is held on it.
use Rattle.std.specs.Prelude.{◌≡◌, ℕ, zero, suc, ◌&&◌, not, Bool, true, false, List, Option, None, Some, Result, Ok, Err}
use Rattle.std.specs.FinMap as map
use Rattle.capability.specs.declared.Uid.{Uid}
use Rattle.passive_store.specs.Kept.{Layout}
use Rattle.passive_store.specs.Seen.{DiskSeen, Asked, asked}
use Rattle.twin_store.specs.declared.served.TwinRefusal.{TwinRefusal}
use Rattle.twin_store.specs.Vouched.{Bodies, IsOwnChange}
use Rattle.twin_store.specs.Footings.{AreVouched}
use Rattle.twin_store.specs.Sides.{SideSeen, is_in_use}
use Rattle.twin_store.specs.Twins.{TwinSeen, IsTwinReady, Holds, IsSure, vow, is_spared}
use Rattle.twin_world.specs.Logs.{Answer, Made, Found, Refused, Entry, Texts, SameTexts, Change, Pair}

-- the uid of an Eject of a node of a script
abbrev pub uid_of : ℕ → ℕ → Uid
uid_of n serial = record { node = n; epoch = 1; serial = serial }

-- the texts that a map has under these uids; serials begin at 1
abbrev pub texts_in : ℕ → Bodies → Texts
texts_in n bodies zero = None
texts_in n bodies (suc s) = map.get bodies (uid_of n (suc s))

-- what a change asks of a store
abbrev pub asked_by : ℕ → Option Change → Option Asked
asked_by n None = None
asked_by n (Some c) = Some (asked (uid_of n c.serial) c.text)

-- A twin that is open stands for what is known of a pair, and holds these texts.
pub record Serves (layout : Layout) (n : ℕ) (p : Pair) (m : Texts) (t : TwinSeen) : Type 0 where
  pub node_is : t.node ≡ n
  pub ready : IsTwinReady t
  pub up : p.is_open ≡ true
  pub first_used : is_in_use t.first ≡ p.first
  pub second_used : is_in_use t.second ≡ p.second
  pub bodies : Bodies
  pub texts : SameTexts (texts_in n bodies) m
  pub holds : Holds layout bodies t
  pub sure : p.sure ≡ true → IsSure layout t
  -- the disks in use are those that vouch, and no change is begun
  pub first_vouches : p.first_vouches ≡ p.first
  pub second_vouches : p.second_vouches ≡ p.second
  pub settled : p.begun ≡ None

-- What two disks vouch for, where it is known.
pub record Vouching (layout : Layout) (n : ℕ) (p : Pair) (bodies : Bodies) (one two : DiskSeen) : Type 0 where
  pub own : IsOwnChange n (asked_by n p.begun)
  pub vouched : AreVouched layout (vow n bodies (asked_by n p.begun) p.first_vouches p.second_vouches) one.told two.told

-- Two disks of a twin that is closed stand for what is known of a pair: they vouch for these texts, with or without the change begun.
pub record Rests (layout : Layout) (n : ℕ) (p : Pair) (m : Texts) (one two : DiskSeen) : Type 0 where
  pub down : p.is_open ≡ false
  pub bodies : Bodies
  pub texts : SameTexts (texts_in n bodies) m
  pub vouching : p.sure ≡ true → p.spoiled ≡ false → Vouching layout n p bodies one two

-- A disk met a fault in a call where it left use.
abbrev pub has_left : SideSeen → SideSeen → Bool
has_left old new = is_in_use old && not (is_in_use new)

-- An entry says which disks met a fault in a call of a twin.
pub record IsNoted (e : Entry) (old new : TwinSeen) : Type 0 where
  pub first : e.first_failed ≡ has_left old.first new.first
  pub second : e.second_failed ≡ has_left old.second new.second

-- An entry says which disks met a fault in an opening.
pub record IsNotedOpening (e : Entry) (first one second two : DiskSeen) : Type 0 where
  pub first_met : e.first_failed ≡ not (is_spared first.counts one.counts)
  pub second_met : e.second_failed ≡ not (is_spared second.counts two.counts)

-- the answer to a change
abbrev pub made_by : Result (Unit {0}) TwinRefusal → Answer
made_by (Ok done) = Made
made_by (Err r) = Refused r

-- the answer to a look
abbrev pub found_by : Result (Option (List ℕ)) TwinRefusal → Answer
found_by (Ok body) = Found body
found_by (Err r) = Refused r
