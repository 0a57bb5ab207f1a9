-- An Eject that may be activated is not active, whatever the types of the script.
use Rattle.std.proofs.Common.{◌≡◌, Bool, true, ◌&&◌, Option, None, Some, refl}
use Rattle.std.specs.Prelude.{is_some, not}
use Rattle.std.specs.Option.{option_map}
use Rattle.std.specs.FinMap.{get}
use Rattle.capability.specs.declared.Uid.{Uid}
use Rattle.epl_syntax.specs.Rules.OfTypes.{TypeList}
use Rattle.eject_table.specs.Table.{active_in}
use Rattle.active_part.specs.Body.{Body}
use Rattle.active_part.specs.View.{body_of}
use Rattle.active_part.specs.declared.part.Part.{Part}
use Rattle.ejects.specs.Marks.{may_wake}
use Rattle.ejects.specs.Parts.{body_at}
use Rattle.ejects.specs.View.{parts_of}
use Rattle.ejects.specs.declared.Ejects.{Ejects}

no-body : (b : Option Body) (x : Bool) → (not (is_some b) && x) ≡ true → b ≡ None
no-body None x is = refl
no-body (Some b) x is = absurd (cc is)

none-for : (ts other : TypeList) (o : Option (Option Part)) → active_in (option_map (option_map (body_of ts)) o) ≡ None
    → active_in (option_map (option_map (body_of other)) o) ≡ None
none-for ts other None is = refl
none-for ts other (Some None) is = refl
none-for ts other (Some (Some a)) is = absurd (let some : Some (body_of ts a) ≡ None = is in cc some)

pub asleep-for : (ts : TypeList) (ejects : Ejects) (u : Uid) → may_wake (parts_of ts ejects) u ≡ true → (other : TypeList)
    → body_at (parts_of other ejects) u ≡ None
asleep-for ts ejects u wakes other = none-for ts other (get ejects.table.standings u) (no-body (body_at (parts_of ts ejects) u) _ wakes)
