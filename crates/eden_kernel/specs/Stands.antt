-- What a node keeps in hand, and when that and the calls stand for its part of a world.
use Rattle.std.specs.Prelude.{◌≡◌, ◌≤◌, ℕ, List, IsTrue}
use Rattle.epl_syntax.specs.Rules.OfTypes.{TypeList}
use Rattle.invocation.specs.Mail.{Mail}
use Rattle.passive_store.specs.Kept.{Layout, is_busy}
use Rattle.passive_store.specs.Seen.{Seen}
use Rattle.journal.specs.World.{Site, StoreRequest}
use Rattle.checkpoint.specs.Asked.{StandsNow, AllOfNode, requests_of}
use Rattle.checkpoint.specs.Queues.{AllAnswerBut}
use Rattle.checkpoint.specs.declared.worker.Worker.{Worker}
use Rattle.ejects.specs.Parts.{IsAt}
use Rattle.ejects.specs.View.{parts_of}
use Rattle.ejects.specs.declared.Ejects.{Ejects}
use Rattle.eden_kernel.specs.declared.Node.{Node}

-- a node with what is seen of its store
pub record Held : Type 0 where
  pub number : ℕ
  pub ejects : Ejects
  pub worker : Worker
  pub seen : Seen

-- by what is seen of a store of its type
abbrev pub held : {T D : Type 0} → (T → Seen) → Node T D → Held
held seen n = record { number = n.number; ejects = n.ejects; worker = n.worker; seen = seen n.store }

-- its requests, as its store works
abbrev pub requests_in : Held → List StoreRequest
requests_in h = requests_of h.seen.work h.worker.requests.items

-- The parts of a node fit together, whatever its disk tells.
pub record IsWhole (h : Held) : Type 0 where
  pub number : h.number ≡ h.seen.node
  pub first : 1 ≤ h.seen.node
  pub last : h.seen.node ≤ 8
  pub power : IsTrue h.seen.disk.counts.power
  pub begun : h.worker.begun ≡ is_busy h.seen.work
  pub of_node : AllOfNode h.seen.node h.worker.requests.items
  pub answers : AllAnswerBut h.worker.begun h.worker.requests.items

-- The node and the calls stand for the site: its Ejects, and its store with what the disk tells.
pub record NodeStands (layout : Layout) (ts : TypeList) (h : Held) (m : Mail) (s : Site) : Type 0 where
  pub calls : IsAt (parts_of ts h.ejects) m s
  pub disk : StandsNow layout h.seen.node s (requests_in h) h.seen
