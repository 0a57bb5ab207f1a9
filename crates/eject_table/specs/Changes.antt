-- Runs of the calls that change a table, and which uids they give.
use Rattle.std.specs.Prelude.{◌≡◌, ◌≢◌, ◌+◌, ◌<◌, Bool, List, [], ◌∷◌, Some, None}
use Rattle.std.specs.List.{All}
use Rattle.std.specs.FinMap.{insert}
use Rattle.capability.specs.declared.Uid.{Uid}
use Rattle.eject_table.specs.Table.{Table, with_entry, without_entry, with_active, dropped, standing_at}
use Rattle.eject_table.specs.declared.EjectStanding.TheVariants.{Active, Passive}

-- an Eject is created, noted as passive, woken, written through a loan, dropped, or forgotten
pub data TableChange (A : Type 0) : Type 0 where
  created : Uid → A → TableChange A
  noted : Uid → TableChange A
  woken : Uid → A → TableChange A
  written : Uid → A → TableChange A
  dropped_out : Uid → Bool → TableChange A
  forgotten : Uid → TableChange A

-- the table after a change
abbrev pub changed : {A : Type 0} → TableChange A → Table A → Table A
changed (created u a) t = record t { last_serial = t.last_serial + 1; standings = insert t.standings u (Some a) }
changed (noted u) t = with_entry t u None
changed (woken u a) t = with_entry t u (Some a)
changed (written u a) t = with_active t u a
changed (dropped_out u stays) t = record t { standings = dropped t.standings u stays }
changed (forgotten u) t = without_entry t u

-- a creation gives the next serial, and a uid that is noted is of an earlier epoch
abbrev pub Allows : {A : Type 0} → TableChange A → Table A → Type 0
Allows (created u a) t = u ≡ record { node = t.node; epoch = t.epoch; serial = t.last_serial + 1 }
Allows (noted u) t = u.epoch < t.epoch
Allows (woken u a) t = standing_at t u ≡ Passive
Allows (written u a) t = standing_at t u ≡ Active
Allows (dropped_out u stays) t = Unit {0}
Allows (forgotten u) t = standing_at t u ≢ Active

-- the changes are made one after the other
abbrev pub Runs : {A : Type 0} → Table A → List (TableChange A) → Type 0
Runs t [] = Unit {0}
Runs t (c ∷ cs) = Allows c t × Runs (changed c t) cs

-- each uid that is created is none of those that were created or noted before
abbrev pub GivesOnce : {A : Type 0} → List Uid → List (TableChange A) → Type 0
GivesOnce before [] = Unit {0}
GivesOnce before (created u a ∷ cs) = All (λ v. v ≢ u) before × GivesOnce (u ∷ before) cs
GivesOnce before (noted u ∷ cs) = GivesOnce (u ∷ before) cs
GivesOnce before (woken u a ∷ cs) = GivesOnce before cs
GivesOnce before (written u a ∷ cs) = GivesOnce before cs
GivesOnce before (dropped_out u stays ∷ cs) = GivesOnce before cs
GivesOnce before (forgotten u ∷ cs) = GivesOnce before cs
