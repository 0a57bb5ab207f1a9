-- What was taken from a source, and what was given to a sink.
use Rattle.std.specs.Prelude.{Bool, false, ◌==◌, ◌&&◌, nat_lt, ◌≡◌, ◌<◌, ◌≤◌, ℕ, Option, Result, Ok, Err, List, length, take, Vec}
use Rattle.std.specs.Io.KnownBytes.{Consumes, Appends}
use Rattle.std.specs.declared.alloc.Global.{Global}
use Rattle.eden_io.specs.declared.whole.ReadRefusal.{ReadRefusal}
use Rattle.eden_io.specs.declared.whole.ReadRefusal.TheVariants.{Failed, TooLong, OutOfMemory}

-- whether a read met the end: it had room for bytes, and there was none
abbrev pub meets_end : {E : Type 0} → Result ℕ E → List ℕ → Bool
meets_end (Ok n) out = (n == 0) && nat_lt 0 (length out)
meets_end (Err e) out = false

-- What a call that took these bytes answers: the bytes themselves, or that they are too long, exactly where there are more than the limit.
abbrev pub AnswersFor : ℕ → List ℕ → Result (Vec ℕ Global) ReadRefusal → Type 0
AnswersFor limit bytes (Ok v) = (v.items ≡ bytes) × (length bytes ≤ limit)
AnswersFor limit bytes (Err TooLong) = limit < length bytes
AnswersFor limit bytes (Err Failed) = length bytes ≤ limit
AnswersFor limit bytes (Err OutOfMemory) = length bytes ≤ limit

-- Some bytes were taken from the source, and answered for. Where it tells what is left, they are the bytes that it lost.
pub record Takes (old new : Option (List ℕ)) (limit : ℕ) (result : Result (Vec ℕ Global) ReadRefusal) : Type 0 where
  pub bytes : List ℕ
  pub taken : Consumes old new bytes
  pub answer : AnswersFor limit bytes result

-- The sink holds what it held, and behind it some of these bytes, from the front.
pub record AppendsPart (old new : Option (List ℕ)) (bytes : List ℕ) : Type 0 where
  pub count : ℕ
  pub within : count ≤ length bytes
  pub part : Appends old new (take count bytes)
