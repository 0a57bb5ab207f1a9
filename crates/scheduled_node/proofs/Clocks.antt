-- Which events show the clock of the disk.
use Rattle.std.proofs.Common.{ℕ, Result, Ok, Err}
use Rattle.std.specs.Prelude.{IfOk, IfErr}
use Rattle.capability.specs.declared.Uid.{Uid}
use Rattle.eden_disk.specs.Calls.{Counts}
use Rattle.journal.specs.declared.event.Event.{Event}
use Rattle.journal.specs.declared.event.Event.TheVariants as event
use Rattle.ejects.specs.Events.{IsDelivery, IsStartOf, IsTurnOf}
use Rattle.eden_kernel.specs.DiskTurns.{IsActivation, IsStoreTurn}
use Rattle.scheduled_node.specs.Touched.{ShowsClock}

pub any-ok : {X E : Type 0} (r : Result X E) (P Q : X → Type 0) → ((x : X) → P x → Q x) → IfOk r P → IfOk r Q
any-ok (Ok x) P Q f h = f x h
any-ok (Err e) P Q f h = h

-- what follows however a call ended
pub either-way : {X E : Type 0} (r : Result X E) (P : Type 0) (Q : X → Type 0) (R : E → Type 0) → IfOk r Q → IfErr r R
    → ((x : X) → Q x → P) → ((e : E) → R e → P) → P
either-way (Ok x) P Q R ok err f g = f x ok
either-way (Err e) P Q R ok err f g = g e err

-- what holds of an answer in two ways
pub both-ways : {X E : Type 0} (r : Result X E) (P Q : X → Type 0) → IfOk r P → IfOk r Q → IfOk r (λ x. P x × Q x)
both-ways (Ok x) P Q p q = (p, q)
both-ways (Err e) P Q p q = tt

pub clock-delivered : (from n now : ℕ) (e : Event) → IsDelivery from n e → ShowsClock e now
clock-delivered from n now (event.Request k a b refused) is = tt
clock-delivered from n now (event.Reply k a b name why values) is = tt
clock-delivered from n now _ is = absurd is

pub clock-started : (u : Uid) (now : ℕ) (e : Event) → IsStartOf u e → ShowsClock e now
clock-started u now (event.Start k v p) is = tt
clock-started u now _ is = absurd is

pub clock-turned : (u : Uid) (p now : ℕ) (e : Event) → IsTurnOf u p e → ShowsClock e now
clock-turned u p now (event.Process v q said) is = tt
clock-turned u p now _ is = absurd is

pub clock-activated : (u : Uid) (before after : Counts) (now : ℕ) (e : Event) → IsActivation u before after e → ShowsClock e now
clock-activated u before after now (event.Activate v how p) is = tt
clock-activated u before after now _ is = absurd is

pub clock-stored : (before after : Counts) (e : Event) → IsStoreTurn before after e → ShowsClock e after.clock
clock-stored before after (event.Store u clock how p) is = is.0
clock-stored before after _ is = absurd is
