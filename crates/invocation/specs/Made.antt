-- What is noted of each Eject: which open calls it made.
use Rattle.std.specs.Prelude.{◌≡◌, ℕ, ◌&&◌, Bool, List, [], Vec}
use Rattle.std.specs.declared.alloc.Global.{Global}
use Rattle.std.specs.List.{filter}
use Rattle.std.specs.BTreeMap.{BTreeMap, get}
use Rattle.capability.specs.declared.Uid.{Uid}
use Rattle.capability.specs.Uids.{uid_cmp}
use Rattle.eden_model.specs.Map.{with_item}
use Rattle.invocation.specs.declared.call.Call.{Call}
use Rattle.invocation.specs.Mail.{is_open, asked_by}
use Rattle.invocation.specs.Numbers.{numbers_where, passes_at}

-- numbers of calls, under the Eject that made them
abbrev pub Made : Type 0
Made = BTreeMap Uid (Vec ℕ Global)

-- an open call that this Eject made
abbrev pub is_own : Uid → Call → Bool
is_own u c = is_open c && asked_by u c

-- the numbers that are noted of an Eject
abbrev pub made_by : Uid → Made → List ℕ
made_by u made = with_item (get uid_cmp made u) (λ v. v.items) []

-- of each Eject its open calls are noted, ascending, and perhaps other numbers among them
abbrev pub AreMade : List Call → Made → Type 0
AreMade calls made = (u : Uid) → filter (passes_at (is_own u) calls) (made_by u made) ≡ numbers_where (is_own u) 1 calls
