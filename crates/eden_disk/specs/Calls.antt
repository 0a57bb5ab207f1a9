-- What a call of a disk leaves of its counts and its contents.
use Rattle.std.specs.Prelude.{◌≡◌, ◌⊎◌, ℕ, ◌+◌, ◌≤◌, ◌<◌, ◌^◌, ◌-◌, ◌==◌, min, Bool, true, false, List, [], length, Result, Ok, Err}
use Rattle.std.specs.Prelude.{Option, None, Some, if◌then◌else◌}
use Rattle.eden_disk.specs.declared.disk.DiskRefusal.{DiskRefusal}
use Rattle.eden_disk.specs.declared.disk.DiskRefusal.TheVariants.{Failed, Stopped}
use Rattle.eden_disk.specs.declared.disk.Arm.{Arm}
use Rattle.eden_disk.specs.declared.disk.Arm.TheVariants.{Fail, Stop}
use Rattle.eden_disk.specs.Told.{Told, contents, noted, Left, Wrote, Synced, Cut}

-- what each disk shows: its size, whether it has power, and its counts
pub record Counts : Type 0 where
  pub size : ℕ
  pub power : Bool
  -- how many device calls there were
  pub clock : ℕ
  pub faults : ℕ
  pub stops : ℕ
  -- how many of them found no memory; each of these is a fault, too
  pub wants : ℕ

-- how a device call ended, or the last of several
pub data End : Type 0 where
  Fine : End
  AtFault : End
  AtStop : End

-- how a device call ended, by its result
abbrev pub end_of : {T : Type 0} → Result T DiskRefusal → End
end_of (Ok done) = Fine
end_of (Err Failed) = AtFault
end_of (Err Stopped) = AtStop

-- one more, up to the greatest number of 64 bits
abbrev pub one_more : ℕ → ℕ
one_more n = n + min 1 (2 ^ 64 - 1 - n)

-- the count of faults behind a call that ended so
abbrev pub faults_after : End → ℕ → ℕ
faults_after Fine n = n
faults_after AtFault n = one_more n
faults_after AtStop n = n

-- the count of stops behind it
abbrev pub stops_after : End → ℕ → ℕ
stops_after Fine n = n
stops_after AtFault n = n
stops_after AtStop n = one_more n

-- whether the disk has power behind it
abbrev pub power_after : End → Bool
power_after Fine = true
power_after AtFault = true
power_after AtStop = false

-- the count of wants rises by one, or not, and only with a fault
abbrev pub WantsAfter : End → ℕ → ℕ → Type 0
WantsAfter end old new = (new ≡ old) ⊎ ((new ≡ one_more old) × (end ≡ AtFault))

-- A device call, on a disk that has power: it raises the clock, the count of its answer alone, and maybe wants. At the last clock it fails.
pub record DeviceCall (old new : Counts) (end : End) : Type 0 where
  pub size : new.size ≡ old.size
  pub power : new.power ≡ power_after end
  pub clock : new.clock ≡ one_more old.clock
  pub faults : new.faults ≡ faults_after end old.faults
  pub stops : new.stops ≡ stops_after end old.stops
  pub wants : WantsAfter end old.wants new.wants
  pub spent : 2 ^ 64 - 1 ≤ old.clock → end ≡ AtFault

-- so many more, up to the greatest number of 64 bits
abbrev pub more_by : ℕ → ℕ → ℕ
more_by made n = n + min made (2 ^ 64 - 1 - n)

-- From this clock on each of so many device calls was counted, unless the last of them failed: so none was made at the last clock.
abbrev pub IsCounted : ℕ → ℕ → End → Type 0
IsCounted clock made Fine = made ≤ 2 ^ 64 - 1 - clock
IsCounted clock made AtFault = Unit {0}
IsCounted clock made AtStop = made ≤ 2 ^ 64 - 1 - clock

-- so many device calls, none of which but the last was refused
pub record DeviceCalls (made : ℕ) (old new : Counts) (end : End) : Type 0 where
  pub size : new.size ≡ old.size
  pub power : new.power ≡ power_after end
  pub clock : new.clock ≡ more_by made old.clock
  pub faults : new.faults ≡ faults_after end old.faults
  pub stops : new.stops ≡ stops_after end old.stops
  pub wants : WantsAfter end old.wants new.wants
  pub counted : IsCounted old.clock made end

-- the clocks at which an armed failure and an armed stop fall due
pub record Due : Type 0 where
  pub failure : Option ℕ
  pub stop : Option ℕ

-- whether something falls due at this clock
abbrev pub is_due : Option ℕ → ℕ → Bool
is_due None clock = false
is_due (Some due) clock = due == clock

-- what falls due once this was asked for at this clock
abbrev pub armed : Arm → ℕ → Due → Due
armed (Fail after) clock due = record { failure = Some (clock + after); stop = due.stop }
armed (Stop after mode) clock due = record { failure = due.failure; stop = Some (clock + after) }

-- how many calls away a request falls due
abbrev pub calls_until : Arm → ℕ
calls_until (Fail after) = after
calls_until (Stop after mode) = after

-- how a disk that obeys ends a device call at this clock: a stop goes before a failure
abbrev pub end_due : Due → ℕ → End
end_due due clock =
    if clock == 2 ^ 64 - 1 then AtFault
    else (if is_due due.stop (clock + 1) then AtStop else (if is_due due.failure (clock + 1) then AtFault else Fine))

-- A device call of a disk that obeys. Where it finds memory it ends as armed, and at the last clock it fails.
pub record Obeys (old new : Due) (before after : Counts) (end : End) : Type 0 where
  pub kept : new ≡ old
  pub spent : 2 ^ 64 - 1 ≤ before.clock → end ≡ AtFault
  pub when : after.wants ≡ before.wants → before.wants < 2 ^ 64 - 1 → end ≡ end_due old before.clock

-- by whether a stop and a failure are due, a call may end so
abbrev pub IsAsDue : Bool → Bool → End → Type 0
IsAsDue stop failure Fine = Unit {0}
IsAsDue stop failure AtFault = failure ≡ true
IsAsDue stop failure AtStop = stop ≡ true

-- Some device calls of a disk that obeys: what was refused was due, at the clock of the last of them.
pub record Obeyed (old new : Due) (before after : Counts) (end : End) : Type 0 where
  pub kept : new ≡ old
  pub fell : after.wants ≡ before.wants → before.wants < 2 ^ 64 - 1 → after.clock < 2 ^ 64 - 1
      → IsAsDue (is_due old.stop after.clock) (is_due old.failure after.clock) end

-- A power cut, with one of the images that it may leave; where nothing is unsynced it is not told.
abbrev pub IsCut : ℕ → Told → Told → Type 0
IsCut clock old new = ((image : List ℕ) × Left (contents old) image × (new ≡ noted (Cut clock image) old))
    ⊎ (((contents old).unsynced ≡ []) × (new ≡ old))

-- a read: it changes nothing
abbrev pub ReadTold : ℕ → Told → Told → End → Type 0
ReadTold clock old new Fine = new ≡ old
ReadTold clock old new AtFault = new ≡ old
ReadTold clock old new AtStop = IsCut clock old new

-- a sync: a failed one changes nothing
abbrev pub SyncTold : ℕ → Told → Told → End → Type 0
SyncTold clock old new Fine = new ≡ noted (Synced clock) old
SyncTold clock old new AtFault = new ≡ old
SyncTold clock old new AtStop = IsCut clock old new

-- a write: a failed one changes nothing, or leaves any bytes in its range; a stop in it is a cut behind it
abbrev pub WriteTold : ℕ → ℕ → List ℕ → Told → Told → End → Type 0
WriteTold clock at bytes old new Fine = new ≡ noted (Wrote clock at bytes) old
WriteTold clock at bytes old new AtFault =
    (new ≡ old) ⊎ ((left : List ℕ) × (length left ≡ length bytes) × (new ≡ noted (Wrote clock at left) old))
WriteTold clock at bytes old new AtStop = IsCut clock (noted (Wrote clock at bytes) old) new

-- at the last clock a device call fails, and changes nothing but the count of faults
pub record IsSpent (before after : Counts) (old new : Told) (end : End) : Type 0 where
  pub fails : end ≡ AtFault
  pub same : new ≡ old
  pub wants : after.wants ≡ before.wants
