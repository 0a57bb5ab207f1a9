-- A node crashes: its active parts, queues, requests and messages go, and what is kept of its Ejects stays. A link is cut or joined.
use Rattle.std.specs.Prelude.{ℕ, Bool, true, false, not, List, [], ◌∷◌, None}
use Rattle.std.specs.List.{filter}
use Rattle.capability.specs.declared.Uid.{Uid}
use Rattle.eden_value.specs.declared.status.Status.TheVariants as status
use Rattle.eden_model.specs.Map.{each_value}
use Rattle.eden_model.specs.Traffic.{Call, processes_of, without_node, without_link, broken_by_node, broken_by_link}
use Rattle.epl_syntax.specs.declared.effect.Answer.TheVariants.{Reply as Told}
use Rattle.journal.specs.World.{Eject, Node, Site, World, at_node, on_node, on_traffic, joins}
use Rattle.journal.specs.Ejects.{tells}

-- 1. At the node

-- an Eject without its active part and its queue; what is kept of it, or in doubt, stays
abbrev pub fallen : Eject → Eject
fallen e = record e { active = None; queued = [] }

-- the node is down and its Ejects have fallen; its requests are gone, and a settling begins anew
abbrev pub down : Node → Node
down it = record it { up = false; requests = []; synced = false; ejects = each_value fallen it.ejects }

-- the node of the site is down; nobody waits for a call to it or from it any more, and the messages of such calls are lost
abbrev pub crashed : Site → Site
crashed s = on_traffic (without_node s.number) (on_node down s)

-- 2. Elsewhere: the processes whose calls are broken are told

-- each of these processes is told `broken`, with no results
abbrev pub tells_each : List (Uid × ℕ) → World → World
tells_each [] w = w
tells_each (q ∷ qs) w = tells_each qs (at_node q.0.node (tells q.0 q.1 (Told status.Broken [])) w)

-- the processes that made a call which passes the test, by the world before the event, are told `broken`
abbrev pub tells_broken : (Call → Bool) → World → World → World
tells_broken hits before w = tells_each (processes_of hits before.traffic) w

-- an event that crashes node n: the change of its site, and then the processes elsewhere whose calls to it were open are told
abbrev pub crash_by : ℕ → (Site → Site) → World → World
crash_by n f w = tells_broken (broken_by_node n) w (at_node n f w)

-- 3. Links

-- the link of a and b is joined (true), or cut: messages on it are lost, and processes with an open call over it are told
abbrev pub linked : ℕ → ℕ → Bool → World → World
linked a b true w = record w { cuts = filter (λ l. not (joins a b l)) w.cuts }
linked a b false w = tells_broken (broken_by_link a b) w (record w { cuts = (a, b) ∷ w.cuts; traffic = without_link a b w.traffic })
