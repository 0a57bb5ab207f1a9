-- The keys of a node's turns, and which of them it has by what it holds.
use Rattle.std.specs.Prelude.{◌≡◌, ◌≢◌, ◌≤◌, ◌⊎◌, ℕ, true}
use Rattle.epl_syntax.specs.Rules.OfTypes.{TypeList}
use Rattle.invocation.specs.Mail.{Mail}
use Rattle.journal.specs.declared.event.Key.{Key}
use Rattle.journal.specs.Enabled.{activity, delivery, no_uid}
use Rattle.ejects.specs.Hears.{hears}
use Rattle.ejects.specs.View.{number_of}
use Rattle.eden_kernel.specs.Enabled.{HasRequest, MayActivate, MayProcess, MayStart}
use Rattle.eden_kernel.specs.Stands.{Held}

-- a key of an Eject of the node: of its activation, of a start, or of a process
pub record IsEjectKey (n : ℕ) (k : Key) : Type 0 where
  pub kind : (2 ≤ k.kind) × (k.kind ≤ 4)
  pub of_node : k.uid.node ≡ n
  pub key : k ≡ activity n k.kind k.uid k.process
  pub process : k.kind ≢ 4 → k.process ≡ 0

-- a key of the node: of a delivery there, of its store, or of one of its Ejects
abbrev pub IsKeyOf : ℕ → Key → Type 0
IsKeyOf n k = (k ≡ delivery n k.sender) ⊎ ((k ≡ activity n 5 no_uid 0) ⊎ IsEjectKey n k)

-- The node has the turn of this key, whatever its disk tells: a message that it hears is there, an Eject may be activated, an invocation
-- may start, a process waits for nothing, or a request waits for the store. The types are those of the script.
pub record HasTurn (ts : TypeList) (h : Held) (m : Mail) (k : Key) : Type 0 where
  pub kind : (1 ≤ k.kind) × (k.kind ≤ 5)
  pub delivery : k.kind ≡ 1 → (k.sender ≤ 8) × (hears k.sender (number_of h.ejects) m ≡ true)
  pub activation : k.kind ≡ 2 → MayActivate ts h k.uid
  pub start : k.kind ≡ 3 → MayStart ts h m k.uid
  pub process : k.kind ≡ 4 → MayProcess ts h k.uid k.process
  pub store : k.kind ≡ 5 → HasRequest h
