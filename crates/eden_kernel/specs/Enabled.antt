-- Which turns a node has by what it holds, whatever its disk tells. The types are those of the script.
use Rattle.std.specs.Prelude.{◌≡◌, ◌≢◌, ◌≤◌, ℕ, true, length, Some}
use Rattle.capability.specs.declared.Uid.{Uid}
use Rattle.epl_syntax.specs.Rules.OfTypes.{TypeList}
use Rattle.invocation.specs.Mail.{Mail}
use Rattle.passive_store.specs.Kept.{IsEject, worked_on}
use Rattle.ejects.specs.Marks.{IsReady, MayBegin, may_wake}
use Rattle.ejects.specs.Parts.{body_at}
use Rattle.ejects.specs.View.{parts_of}
use Rattle.eden_kernel.specs.Stands.{Held}

-- An Eject may be activated: its uid is of the node, it is passive, has a queued call, and is not worked on by the store.
pub record MayActivate (ts : TypeList) (h : Held) (u : Uid) : Type 0 where
  pub own : IsEject h.number u
  pub wakes : may_wake (parts_of ts h.ejects) u ≡ true
  pub free : worked_on h.seen.work ≢ Some u

-- An invocation may start at an Eject, of which the call was asked.
abbrev pub MayStart : TypeList → Held → Mail → Uid → Type 0
MayStart ts h m u = MayBegin m (body_at (parts_of ts h.ejects) u)

-- A process of an Eject waits for nothing, and the uid is of the node.
pub record MayProcess (ts : TypeList) (h : Held) (u : Uid) (p : ℕ) : Type 0 where
  pub own : IsEject h.number u
  pub ready : IsReady (body_at (parts_of ts h.ejects) u) p

-- A request waits for the store.
abbrev pub HasRequest : Held → Type 0
HasRequest h = 1 ≤ length h.worker.requests.items
