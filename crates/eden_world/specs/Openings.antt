-- What a program has in hand before the first entry.
use Rattle.std.specs.Prelude.{◌≡◌, ◌==◌, ◌≤◌, ℕ, true, List, length, None, Some}
use Rattle.eden_disk.specs.Told.{contents}
use Rattle.std.specs.Ordering.{nat_cmp}
use Rattle.eden_model.specs.Map.{value_at}
use Rattle.invocation.specs.Carries.{Carries, no_traffic}
use Rattle.locator.specs.Reach.{up_at, joined_at}
use Rattle.passive_store.specs.Seen.{DiskSeen}
use Rattle.journal.specs.declared.command.Script.{Script}
use Rattle.journal.specs.Standing.{DiskRun}
use Rattle.journal.specs.LegalRun.{EachDisk, numbered}
use Rattle.eden_world.specs.Worlds.{down, InHand}

-- what is seen of a disk as it is handed in
abbrev pub first_seen : DiskRun → DiskSeen
first_seen d = record { counts = d.first; told = d.before; due = d.due }

-- The types of the script, no call and no name; all nodes down with no doubt noted, each with the disk that was handed in for it, whose
-- size is that of its image, and no other place; and all links joined.
pub record IsFirst (script : Script) (disks : List DiskRun) (h : InHand) : Type 0 where
  pub types : h.types ≡ script.types
  pub seats : EachDisk disks (λ n d. h.seats n ≡ Some (down None (first_seen d)))
  pub no_more : (n : ℕ) → value_at nat_cmp n (numbered disks) ≡ None → h.seats n ≡ None
  pub sized : EachDisk disks (λ n d. length (contents d.before).now ≡ d.first.size)
  pub calls : Carries h.mail no_traffic
  pub ups : (n : ℕ) → up_at h.places n ≡ (n == 0)
  pub links : (a b : ℕ) → a ≤ 8 → b ≤ 8 → joined_at h.places a b ≡ true
  pub names : (name : List ℕ) → h.names name ≡ None
