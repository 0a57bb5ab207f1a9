-- A node's fields as its parts, and what its small functions answer.
use Rattle.std.specs.Prelude.{◌≡◌, ◌<◌, ℕ, nat_lt, true, false, cond, [], ◌∷◌, ◌++◌, length, Option, None, Some, is_some, IsSomeAnd, not}
use Rattle.std.specs.FinMap.{get}
use Rattle.std.specs.Option.{option_map}
use Rattle.epl_syntax.specs.Rules.OfTypes.{TypeList}
use Rattle.epl_syntax.specs.Meaning.{types_in}
use Rattle.eden_model.specs.Traffic as traffic
use Rattle.eden_model.specs.Traffic.{Place, asked}
use Rattle.invocation.specs.declared.call.Call.{Call}
use Rattle.journal.specs.Processes.{class_of}
use Rattle.capability.specs.declared.Uid.{Uid}
use Rattle.eden_value.specs.declared.status.Status.TheVariants as status
use Rattle.eden_model.specs.Map.{value_at, uid_cmp, same_uid}
use Rattle.journal.specs.Deliveries.{misfit}
use Rattle.eject_table.specs.Table.{active_at}
use Rattle.active_part.specs.Body.{Body}
use Rattle.active_part.specs.declared.part.Part.{Part}
use Rattle.ejects.specs.Parts.{Parts, SameNode, body_at, queue_in, held_of}
use Rattle.active_part.specs.View.{body_of, coordination_of}
use Rattle.eden_model.specs.Crew.{Runs}
use Rattle.ejects.specs.Refusals.{refusal_of}
use Rattle.ejects.specs.declared.Ejects.{Ejects}
use Rattle.ejects.specs.declared.requests.Admission.{Admission}
use Rattle.ejects.specs.declared.requests.Admission.TheVariants.{Active, Passive, Refused}

-- by the types of the script, among which each active part has its own
abbrev pub parts_of : TypeList → Ejects → Parts
parts_of ts n = record {
  number = n.table.node;
  types = types_in ts;
  epoch = n.table.epoch;
  last_serial = n.table.last_serial;
  standing = λ u. option_map (option_map (body_of ts)) (get n.table.standings u);
  waiting = n.waiting.entries;
}

-- the active part of an Eject, whatever the types of the script
abbrev pub part_at : Ejects → Uid → Option Part
part_at n u = active_at n.table u

-- it has an active part, and this process of that waits for nothing, whatever the types of the script
abbrev pub RunsIn : Ejects → Uid → ℕ → Type 0
RunsIn n u p = IsSomeAnd (part_at n u) (λ a. Runs (coordination_of a).crew p)

-- a call whose arguments are there, as the model has it
abbrev pub call_at_place : Place → Call → traffic.Call
call_at_place place c = record {
  asker = c.asker;
  target = c.target;
  operation = c.operation;
  args = c.args;
  open_ = not c.closed;
  place = place;
}

-- what comes of a request
abbrev pub IsAdmission : Parts → Call → Admission → Type 0
IsAdmission n c (Active class) = (refusal_of (call_at_place asked c) (held_of n c.target.uid) ≡ None)
    × IsSomeAnd (body_at n c.target.uid) (λ b. class ≡ class_of b.kind (call_at_place asked c))
IsAdmission n c Passive = (refusal_of (call_at_place asked c) (held_of n c.target.uid) ≡ None)
    × (body_at n c.target.uid ≡ None) × (is_some (n.standing c.target.uid) ≡ true)
IsAdmission n c (Refused why) = refusal_of (call_at_place asked c) (held_of n c.target.uid) ≡ Some why

-- at an active part
abbrev pub IsAdmissionAt : Body → Call → Admission → Type 0
IsAdmissionAt b c (Active class) = (length b.crew.queued < 64) × (misfit b.kind (call_at_place asked c) ≡ None)
    × (class ≡ class_of b.kind (call_at_place asked c))
IsAdmissionAt b c Passive = ⊥
IsAdmissionAt b c (Refused why) =
    cond (not (nat_lt (length b.crew.queued) 64)) (Some status.Busy) (misfit b.kind (call_at_place asked c)) ≡ Some why

-- the number of the node
abbrev pub number_of : Ejects → ℕ
number_of n = n.table.node

-- the parts with another active part of an Eject
abbrev pub with_body : Uid → Body → Parts → Parts
with_body u b n = record n { standing = λ v. cond (same_uid v u) (Some (Some b)) (n.standing v) }

-- a call joins the queue of a passive Eject
pub record JoinsPassive (u : Uid) (k : ℕ) (old new : Parts) : Type 0 where
  pub node : SameNode old new
  pub standing : (v : Uid) → new.standing v ≡ old.standing v
  pub here : value_at uid_cmp u new.waiting ≡ Some (queue_in (value_at uid_cmp u old.waiting) ++ k ∷ [])
  pub others : (v : Uid) → same_uid v u ≡ false → value_at uid_cmp v new.waiting ≡ value_at uid_cmp v old.waiting
