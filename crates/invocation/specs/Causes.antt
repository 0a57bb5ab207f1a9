-- What closes open calls, and which of them are answered `broken`.
use Rattle.std.specs.Prelude.{Bool, false, cond, ◌==◌, ◌&&◌}
use Rattle.invocation.specs.declared.call.Call.{Call}
use Rattle.invocation.specs.declared.closing.Cause.{Cause}
use Rattle.invocation.specs.declared.closing.Cause.TheVariants.{Lost, Cut, Crash}
use Rattle.invocation.specs.Mail.{asked_by, crosses, touches, enters, target_of, is_open, over, closed_if}

-- the cause closes the call
abbrev pub hits : Cause → Call → Bool
hits (Lost u) c = asked_by u c
hits (Cut a b) c = crosses a b c
hits (Crash n) c = touches n c

-- nothing is to come of the call at its target either
abbrev pub ends : Cause → Call → Bool
ends (Lost u) c = false
ends (Cut a b) c = false
ends (Crash n) c = target_of c == n

-- an open call is answered `broken`
abbrev pub breaks : Cause → Call → Bool
breaks (Lost u) c = false
breaks (Cut a b) c = crosses a b c
breaks (Crash n) c = enters n c

-- the call is open and is answered `broken`
abbrev pub is_broken : Cause → Call → Bool
is_broken cause c = is_open c && breaks cause c

-- the call after this
abbrev pub closed_by : Cause → Call → Call
closed_by cause c = cond (ends cause c) (over c) (closed_if (hits cause c) c)
