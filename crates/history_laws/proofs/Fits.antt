-- What a sound site keeps of each Eject, by counting: how often it has a call, and how many requests a process has at the store.
use Rattle.std.specs.Prelude.{◌≡◌, ◌≤◌, ℕ, ◌+◌, cond, List, [], ◌∷◌, Option, IfSome}
use Rattle.std.specs.Ordering.{nat_cmp, eq_by_cmp}
use Rattle.capability.specs.declared.Uid.{Uid}
use Rattle.eden_model.specs.Map.{with_item}
use Rattle.eden_model.specs.Traffic.{Traffic}
use Rattle.journal.specs.World.{Eject, StoreRequest, Site, eject_in}
use Rattle.journal.specs.Sites.{IsLaid, runs_of, active_in, WaitsIn, at_store, AreNumbered, IsHeldAt, IsOpenOf}

-- how often a call stands in a list
abbrev pub times : ℕ → List ℕ → ℕ
times k [] = 0
times k (j ∷ js) = cond (eq_by_cmp nat_cmp k j) (times k js + 1) (times k js)

abbrev pub queued_in : Option Eject → List ℕ
queued_in o = with_item o (λ e. e.queued) []

-- how often the Eject has a call: those that run, and those that are queued
abbrev pub times_in : ℕ → Option Eject → ℕ
times_in k o = times k (runs_of (active_in o)) + times k (queued_in o)

abbrev pub LaidIn : Option Eject → Type 0
LaidIn o = IfSome (active_in o) (λ it. IsLaid it.crew)

pub record Fits (t : Traffic) (rs : List StoreRequest) (u : Uid) (o : Option Eject) : Type 0 where
  -- each call that it has is held at it, and it has it once
  pub held : (k : ℕ) → 1 ≤ times_in k o → IsHeldAt t u k
  pub once : (k : ℕ) → times_in k o ≤ 1
  -- a process has one open call at most; one with an open call has no request at the store, and waits
  pub asks : (p k : ℕ) → IsOpenOf t u p k → WaitsIn o p × (at_store u p rs ≡ 0)
  pub single : (p j k : ℕ) → IsOpenOf t u p j → IsOpenOf t u p k → j ≡ k
  -- a process has one request at the store at most, and then it waits
  pub stores : (p : ℕ) → 1 ≤ at_store u p rs → WaitsIn o p
  pub alone : (p : ℕ) → at_store u p rs ≤ 1
  pub laid : LaidIn o

pub record SoundSite (s : Site) : Type 0 where
  pub numbered : AreNumbered 1 s.traffic.calls
  pub fits : (u : Uid) → u.node ≡ s.number → Fits s.traffic s.node.requests u (eject_in s u)
