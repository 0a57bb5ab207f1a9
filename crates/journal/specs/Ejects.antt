-- Changes of an Eject at its site: answers to its processes, the end of its active part, and a new one.
use Rattle.std.specs.Prelude.{ℕ, ◌+◌, ◌==◌, nat_le, Bool, cond, ◌||◌, List, [], ◌∷◌, length, Option, None, Some, Result, Ok, Err, is_some}
use Rattle.std.specs.Ordering.{nat_cmp}
use Rattle.std.specs.List.{filter, filter_map}
use Rattle.capability.specs.declared.Uid.{Uid}
use Rattle.eden_value.specs.Datum.{Datum}
use Rattle.eden_value.specs.declared.status.Status.{Status}
use Rattle.eden_value.specs.declared.status.Status.TheVariants as status
use Rattle.eden_model.specs.Map.{with_item, changed_at, put_at, uid_cmp, same_uid}
use Rattle.eden_model.specs.Crew.{Crew, nothing, set_waits, fresh_crew, running}
use Rattle.eden_model.specs.Traffic.{all_replied, orphaned}
use Rattle.epl_syntax.specs.declared.effect.Answer.{Answer}
use Rattle.epl_syntax.specs.declared.effect.Answer.TheVariants.{Go}
use Rattle.epl_syntax.specs.Edentype.{Edentype}
use Rattle.epl_syntax.specs.Meaning.{Rest, declared, setup_of}
use Rattle.journal.specs.World.{Task, Active, Eject, StoreRequest, Node, Site, eject_in, on_eject, on_node, on_traffic}

-- 1. Parts of an Eject

-- the Eject with this active part, or with none
abbrev pub with_active : Option Active → Eject → Eject
with_active it e = record e { active = it }

-- the Eject with these calls queued
abbrev pub with_queued : List ℕ → Eject → Eject
with_queued ks e = record e { queued = ks }

-- the Eject with its active part changed, where it has one
abbrev pub on_active : (Active → Active) → Eject → Eject
on_active f e = with_item e.active (λ it. with_active (Some (f it)) e) e

-- an active part with its crew changed
abbrev pub on_crew : (Crew → Crew) → Active → Active
on_crew f it = record it { crew = f it.crew }

-- something is kept, or may be kept
abbrev pub is_kept : Eject → Bool
is_kept e = is_some e.kept || is_some e.doubt

-- whether the Eject is active, kept or in doubt; else it is gone
abbrev pub is_there : Eject → Bool
is_there e = is_some e.active || is_kept e

-- 2. A process is told what it waited for

-- the process of this number has this answer for its next turn, and waits for nothing
abbrev pub told : ℕ → Answer → Active → Active
told p a it = record it { tasks = changed_at nat_cmp p (λ t. record t { answer = a }) it.tasks; crew = set_waits p nothing it.crew }

-- a process of this Eject is told an answer, where the Eject is active
abbrev pub tells : Uid → ℕ → Answer → Site → Site
tells u p a s = on_eject u (on_active (told p a)) s

-- 3. An active part ends

-- a request of this Eject that has made no device call goes; one that has made some goes on, and answers no process; others stay
abbrev pub dropped_of : Uid → StoreRequest → Option StoreRequest
dropped_of u r = cond (same_uid r.uid u) (cond (r.made == 0) None (Some (record r { process = None }))) (Some r)

-- the node, its requests as the end of this Eject's active part leaves them
abbrev pub without_requests : Uid → Node → Node
without_requests u it = record it { requests = filter_map (dropped_of u) it.requests }

-- this active part goes: its requests are dropped, nobody waits for the calls that it made, and those that it ran are answered `dropped`
abbrev pub without_active : Uid → Active → Site → Site
without_active u it s = on_traffic (λ t. all_replied status.Dropped (running it.crew) (orphaned u t))
    (on_eject u (with_active None) (on_node (without_requests u) s))

-- the active part of this Eject goes, where it has one
abbrev pub deactivated : Uid → Site → Site
deactivated u s = with_item (eject_in s u) (λ e. with_item e.active (λ it. without_active u it s) s) s

-- the queued calls of the Eject are answered with this status, in order, and none is queued any more
abbrev pub turned_away : Uid → Status → Site → Site
turned_away u status s = with_item (eject_in s u) (λ e. on_traffic (all_replied status e.queued) (on_eject u (with_queued []) s)) s

-- where the Eject is not active, and nothing is kept of it or may be kept, what is queued is answered `gone`
abbrev pub gone_if_unkept : Uid → Site → Site
gone_if_unkept u s = with_item (eject_in s u) (λ e. cond (is_there e) s (turned_away u status.Gone s)) s

-- 4. A new active part

-- a task for each process that begins, by what is left to do of it; they are numbered from n upward
abbrev pub tasks_from : ℕ → List Rest → List (ℕ × Task)
tasks_from n [] = []
tasks_from n (r ∷ rs) = (n, record { rest = r; answer = Go }) ∷ tasks_from (n + 1) rs

-- an active part of this type with these values: its declared processes begin, and nobody waits or holds a monitor
abbrev pub fresh : Edentype → List Datum → Active
fresh t vars = record { kind = t; vars = vars; tasks = tasks_from 1 (declared t); crew = fresh_crew (setup_of t) }

-- how many Ejects of the node are active, kept or in doubt
abbrev pub count : Node → ℕ
count it = length (filter (λ e. is_there e.1) it.ejects)

-- a stored epoch, or 0 where none is stored
abbrev pub epoch_or_zero : Option ℕ → ℕ
epoch_or_zero epoch = with_item epoch (λ e. e) 0

-- the stored epoch of the node, 0 where none is stored
abbrev pub stored_epoch : Node → ℕ
stored_epoch it = epoch_or_zero it.epoch

-- the uid of the next Eject, or why there is none
abbrev pub next_uid : Site → Result Uid Status
next_uid s = cond (nat_le 4096 (count s.node)) (Err status.TooMany) (cond (nat_le 4294967295 s.node.last_serial) (Err status.SerialsSpent)
    (Ok (record { node = s.number; epoch = stored_epoch s.node; serial = s.node.last_serial + 1 })))

-- an Eject with this active part, and nothing queued, kept or in doubt
abbrev pub newborn : Active → Eject
newborn it = record { active = Some it; queued = []; kept = None; doubt = None }

-- the node has the Eject with this active part; one that it had already gets it
abbrev pub born_in : Uid → Active → Node → Option Eject → Node
born_in u it node old =
    record node { last_serial = u.serial; ejects = put_at uid_cmp u (with_item old (with_active (Some it)) (newborn it)) node.ejects }

-- the site's node has the Eject with this active part, and its serial as the last one given
abbrev pub born : Uid → Active → Site → Site
born u it s = on_node (λ node. born_in u it node (eject_in s u)) s
