-- What is asked of the processes: which call one serves, which one is next to run, and in which order their numbers stand.
use Rattle.std.specs.Prelude.{ℕ, ◌<◌, ◌≤◌, ◌&&◌, nat_lt, Bool, true, false, List, [], ◌∷◌, Option, None}
use Rattle.std.specs.List.{find}
use Rattle.std.specs.Option.{option_map}
use Rattle.std.specs.Ordering.{nat_cmp}
use Rattle.eden_model.specs.Map.{with_item, value_at}
use Rattle.eden_model.specs.Crew.{Process, Invocation, Waiting, nothing, outside, entry, condition}

-- the call that a process serves, where there is such a process and it serves one
abbrev pub call_served : ℕ → List (ℕ × Process) → Option ℕ
call_served p processes =
    with_item (value_at nat_cmp p processes) (λ (it : Process). option_map (λ (i : Invocation). i.call) it.serves) None

-- it is waited for nothing
abbrev pub is_ready : Waiting → Bool
is_ready nothing = true
is_ready outside = false
is_ready (entry m) = false
is_ready (condition c) = false

-- a process of a number past n that waits for nothing
abbrev pub is_ready_past : ℕ → ℕ × Process → Bool
is_ready_past n e = nat_lt n e.0 && is_ready e.1.waits

-- the first process past the number n that waits for nothing
abbrev pub next_ready : ℕ → List (ℕ × Process) → Option ℕ
next_ready n processes = option_map (λ (e : ℕ × Process). e.0) (find (is_ready_past n) processes)

-- the numbers ascend from past n, and none is past 16
abbrev pub AscendPast : ℕ → List (ℕ × Process) → Type 0
AscendPast n [] = Unit {0}
AscendPast n (e ∷ es) = (n < e.0) × (e.0 ≤ 16) × AscendPast e.0 es
