-- Which turns each Eject may take, and that all but some may do the same as before.
use Rattle.std.specs.Prelude.{◌≡◌, Bool, false, cond}
use Rattle.capability.specs.declared.Uid.{Uid}
use Rattle.ejects.specs.Parts.{Parts, body_at}
use Rattle.ejects.specs.Marks.{may_wake, may_start, may_run}
use Rattle.agenda.specs.Keys.{Indexes, Indices}

-- which Ejects may be activated, which may start an invocation, and which have a process that is not blocked
pub record Marks : Type 0 where
  pub wake : Uid → Bool
  pub start : Uid → Bool
  pub run : Uid → Bool

-- which Ejects may do so by the node's parts
abbrev pub marks_of : Parts → Marks
marks_of n = record { wake = may_wake n; start = λ u. may_start (body_at n u); run = λ u. may_run (body_at n u) }

-- the indices have exactly the Ejects that are marked
pub record HasMarks (a : Indices) (t : Marks) : Type 0 where
  pub wake : Indexes a.wake t.wake
  pub start : Indexes a.start t.start
  pub run : Indexes a.run t.run

-- of these Ejects the new marks, and of all others the old ones
abbrev pub marked : (Uid → Bool) → Marks → Marks → Marks
marked those new old = record {
  wake = λ v. cond (those v) (new.wake v) (old.wake v);
  start = λ v. cond (those v) (new.start v) (old.start v);
  run = λ v. cond (those v) (new.run v) (old.run v);
}

-- all Ejects but these may do the same as before
pub record MayBut (those : Uid → Bool) (n new : Parts) : Type 0 where
  pub wake : (v : Uid) → those v ≡ false → may_wake new v ≡ may_wake n v
  pub start : (v : Uid) → those v ≡ false → may_start (body_at new v) ≡ may_start (body_at n v)
  pub run : (v : Uid) → those v ≡ false → may_run (body_at new v) ≡ may_run (body_at n v)
