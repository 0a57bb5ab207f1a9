-- The Ejects of the code as those of the definitions.
use Rattle.std.specs.Prelude.{ℕ, List, Option, None, Some}
use Rattle.std.specs.Option.{option_map}
use Rattle.epl_syntax.specs.Rules.OfTypes.{TypeList}
use Rattle.journal.specs.EjectChange.{EjectChange, body, removal}
use Rattle.journal.specs.World.{Active, Eject}
use Rattle.active_part.specs.Body.{Body, active_of, calls_of}
use Rattle.active_part.specs.View.{body_of}
use Rattle.active_part.specs.declared.part.Part.{Part}
use Rattle.checkpoint.specs.declared.worker.Wish.{Wish}
use Rattle.checkpoint.specs.declared.worker.Wish.TheVariants.{Put, Delete}
use Rattle.plain_ejects.specs.declared.PlainEject.{PlainEject}

-- the change that is asked of a store
abbrev pub change_of : Wish → EjectChange
change_of (Put bytes) = body bytes
change_of Delete = removal

-- the queue: in the active part where there is one
abbrev pub queue_of : TypeList → Option Part → List ℕ → List ℕ
queue_of ts None waiting = waiting
queue_of ts (Some p) waiting = calls_of (body_of ts p).crew.queued

-- the active part, by the types of the script
abbrev pub active_in : TypeList → PlainEject → Option Active
active_in ts e = option_map (λ p. active_of (body_of ts p)) e.part

-- the Eject, by the types of the script
abbrev pub eject_of : TypeList → PlainEject → Eject
eject_of ts e = record {
  active = active_in ts e;
  queued = queue_of ts e.part e.waiting;
  kept = e.kept;
  doubt = option_map change_of e.doubt;
}

-- the Eject with this active part, and the queue that stands in it
abbrev pub with_body : Body → Eject → Eject
with_body b e = record e { active = Some (active_of b); queued = calls_of b.crew.queued }

-- the Eject with this change in doubt
abbrev pub with_doubt : EjectChange → Eject → Eject
with_doubt c e = record e { doubt = Some c }

-- the Eject with these bytes kept, or none, and nothing in doubt
abbrev pub with_kept : Option (List ℕ) → Eject → Eject
with_kept kept e = record e { kept = kept; doubt = None }
