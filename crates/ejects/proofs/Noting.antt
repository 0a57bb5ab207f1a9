-- An Eject that is noted as passive.
use Rattle.std.proofs.Common.{◌≡◌, ◌≢◌, ℕ, Bool, true, false, cond, Option, None, Some, refl, ap, ◌∙◌}
use Rattle.std.specs.Option.{option_map}
use Rattle.std.specs.FinMap as finite
use Rattle.capability.specs.declared.Uid.{Uid}
use Rattle.capability.proofs.Uids.{uid_cmp_total}
use Rattle.eden_model.specs.Map.{same_uid, uid_cmp}
use Rattle.epl_syntax.specs.Rules.OfTypes.{TypeList}
use Rattle.eject_table.specs.Table.{Table, empty_table, with_entry, active_in, standing_of}
use Rattle.eject_table.specs.declared.EjectStanding.TheVariants.{Active}
use Rattle.active_part.specs.Body.{Body}
use Rattle.active_part.specs.View.{body_of}
use Rattle.active_part.specs.declared.part.Part.{Part}
use Rattle.ejects.specs.Boots.{IsBlank, Notes}
use Rattle.ejects.specs.Parts.{Parts, body_at}

pub standing-noted : (ts : TypeList) (old new : Table Part) (u v : Uid) → new ≡ with_entry old u None
    → option_map (option_map (body_of ts)) (finite.get new.standings v)
    ≡ cond (same_uid v u) (Some None) (option_map (option_map (body_of ts)) (finite.get old.standings v))
standing-noted ts old new u v is = ap (λ (t : Table Part). shown (finite.get t.standings v)) is
    ∙ ap shown (finite.get-insert uid_cmp_total old.standings u None v) ∙ go (same_uid v u)
  where
    shown : Option (Option Part) → Option (Option Body)
    shown o = option_map (option_map (body_of ts)) o

    go : (b : Bool) → shown (cond b (Some None) (finite.get old.standings v)) ≡ cond b (Some None) (shown (finite.get old.standings v))
    go true = refl
    go false = refl

-- of a new table no Eject stands
pub standing-empty : (ts : TypeList) (t : Table Part) (n e l : ℕ) (u : Uid) → t ≡ empty_table n e l
    → option_map (option_map (body_of ts)) (finite.get t.standings u) ≡ None
standing-empty ts t n e l u is = ap (λ (t : Table Part). option_map (option_map (body_of ts)) (finite.get t.standings u)) is
    ∙ ap (option_map (option_map (body_of ts))) (finite.get-empty uid_cmp u)

-- an Eject that has no active part is not active in the table
pub asleep-passive : (ts : TypeList) (o : Option (Option Part)) → active_in (option_map (option_map (body_of ts)) o) ≡ None
    → standing_of o ≢ Active
asleep-passive ts None is bad = cc bad
asleep-passive ts (Some None) is bad = cc bad
asleep-passive ts (Some (Some a)) is bad = let some : Some (body_of ts a) ≡ None = is in cc some

-- no Eject is active
abbrev pub AllAsleep : Parts → Type 0
AllAsleep n = (u : Uid) → body_at n u ≡ None

-- before the first is noted
pub blank-asleep : (k e : ℕ) (n : Parts) → IsBlank k e n → AllAsleep n
blank-asleep k e n blank u = ap active_in (blank.standing u)

-- and with one more
pub notes-asleep : (v : Uid) (old new : Parts) → Notes v old new → AllAsleep old → AllAsleep new
notes-asleep v old new notes asleep u = ap active_in (notes.standing u) ∙ go (same_uid u v)
  where
    go : (b : Bool) → active_in (cond b (Some None) (old.standing u)) ≡ None
    go true = refl
    go false = asleep u
