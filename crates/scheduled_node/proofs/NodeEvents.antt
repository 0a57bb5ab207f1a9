-- The event of a turn is one of the node.
use Rattle.std.proofs.Common.{◌≡◌, ℕ}
use Rattle.capability.specs.declared.Uid.{Uid}
use Rattle.eden_disk.specs.Calls.{Counts}
use Rattle.journal.specs.declared.event.Event.{Event}
use Rattle.journal.specs.declared.event.Event.TheVariants as event
use Rattle.disk_faults.specs.Elsewhere.{shown_of}
use Rattle.ejects.specs.Events.{IsDelivery, IsStartOf, IsTurnOf}
use Rattle.eden_kernel.specs.DiskTurns.{IsActivation, IsStoreTurn}
use Rattle.scheduled_node.specs.Touched.{IsNodeTurn}

pub turn-delivered : (n from to : ℕ) (e : Event) → IsDelivery from to e → IsNodeTurn n e
turn-delivered n from to (event.Request k a b refused) is = tt
turn-delivered n from to (event.Reply k a b name why values) is = tt
turn-delivered n from to _ is = absurd is

pub turn-started : (n : ℕ) (u : Uid) (e : Event) → IsStartOf u e → IsNodeTurn n e
turn-started n u (event.Start k v p) is = tt
turn-started n u _ is = absurd is

pub turn-of-process : (n : ℕ) (u : Uid) (p : ℕ) (e : Event) → IsTurnOf u p e → IsNodeTurn n e
turn-of-process n u p (event.Process v q said) is = tt
turn-of-process n u p _ is = absurd is

pub turn-activated : (n : ℕ) (u : Uid) (before after : Counts) (e : Event) → IsActivation u before after e → shown_of e ≡ n → IsNodeTurn n e
turn-activated n u before after (event.Activate v how p) is own = own
turn-activated n u before after _ is own = absurd is

pub turn-stored : (n : ℕ) (before after : Counts) (e : Event) → IsStoreTurn before after e → shown_of e ≡ n → IsNodeTurn n e
turn-stored n before after (event.Store u clock how p) is own = own
turn-stored n before after _ is own = absurd is
