-- Which event a turn of calls or of a process answers.
use Rattle.std.specs.Prelude.{◌≡◌, ℕ}
use Rattle.capability.specs.declared.Uid.{Uid}
use Rattle.journal.specs.declared.event.Event.{Event}
use Rattle.journal.specs.declared.event.Event.TheVariants as event

-- a message was delivered, from one station to another
abbrev pub IsDelivery : ℕ → ℕ → Event → Type 0
IsDelivery from to (event.Request k a b refused) = (a ≡ from) × (b ≡ to)
IsDelivery from to (event.Reply k a b name status values) = (a ≡ from) × (b ≡ to)
IsDelivery from to _ = ⊥

-- an invocation of this Eject started
abbrev pub IsStartOf : Uid → Event → Type 0
IsStartOf u (event.Start k v p) = v ≡ u
IsStartOf u _ = ⊥

-- this process took its turn
abbrev pub IsTurnOf : Uid → ℕ → Event → Type 0
IsTurnOf u p (event.Process v q said) = (v ≡ u) × (q ≡ p)
IsTurnOf u p _ = ⊥
