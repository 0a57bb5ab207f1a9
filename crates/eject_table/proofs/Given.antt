-- Serials only rise, so no uid is given twice.
use Rattle.std.proofs.Common.{◌≡◌, ◌≢◌, ◌≤◌, ◌+◌, ℕ, List, [], ◌∷◌, ap, ◌∙◌, arith}
use Rattle.std.specs.List.{All}
use Rattle.std.proofs.lemmas.List.Elements.{All-nil, All-weaker, All-cons}
use Rattle.capability.specs.declared.Uid.{Uid}
use Rattle.eject_table.specs.Table.{Table, empty_table}
use Rattle.eject_table.specs.Changes.{TableChange, created, noted, woken, written, dropped_out, forgotten, changed, Runs, GivesOnce}

-- the uid is of an earlier epoch, or of this one with a serial that was given
abbrev IsBehind : ℕ → ℕ → Uid → Type 0
IsBehind epoch last u = (u.epoch ≤ epoch) × (u.epoch ≡ epoch → u.serial ≤ last)

gives-from : {A : Type 0} (cs : List (TableChange A)) (t : Table A) (before : List Uid) → All (IsBehind t.epoch t.last_serial) before
    → Runs t cs → GivesOnce before cs
gives-from [] t before behind run = tt
gives-from (created u a ∷ cs) t before behind run =
    let epoch : u.epoch ≡ t.epoch = ap (λ (v : Uid). v.epoch) run.0 in
    let serial : u.serial ≡ t.last_serial + 1 = ap (λ (v : Uid). v.serial) run.0 in (
      All-weaker (IsBehind t.epoch t.last_serial) (λ v. v ≢ u)
          (λ v b e. let le : v.serial ≤ t.last_serial = b.1 (ap (λ (w : Uid). w.epoch) e ∙ epoch) in
          omega (arith, le, serial, ap (λ (w : Uid). w.serial) e)) before behind,
      gives-from cs (changed (created u a) t) (u ∷ before)
          (All-cons (IsBehind t.epoch (t.last_serial + 1)) u before (omega (arith, epoch), λ e. omega (arith, serial))
          (All-weaker (IsBehind t.epoch t.last_serial) (IsBehind t.epoch (t.last_serial + 1))
          (λ v b. (b.0, λ e. let le : v.serial ≤ t.last_serial = b.1 e in omega (arith, le))) before behind)) run.1,
    )
gives-from (noted u ∷ cs) t before behind run =
    gives-from cs (changed (noted u) t) (u ∷ before)
    (All-cons (IsBehind t.epoch t.last_serial) u before (omega (arith, run.0), λ e. absurd (omega (arith, run.0, e))) behind) run.1
gives-from (woken u a ∷ cs) t before behind run = gives-from cs (changed (woken u a) t) before behind run.1
gives-from (written u a ∷ cs) t before behind run = gives-from cs (changed (written u a) t) before behind run.1
gives-from (dropped_out u stays ∷ cs) t before behind run = gives-from cs (changed (dropped_out u stays) t) before behind run.1
gives-from (forgotten u ∷ cs) t before behind run = gives-from cs (changed (forgotten u) t) before behind run.1

pub gives-once : {A : Type 0} (node epoch last : ℕ) (cs : List (TableChange A)) → Runs (empty_table node epoch last) cs → GivesOnce [] cs
gives-once node epoch last cs run = gives-from cs (empty_table node epoch last) [] (All-nil (IsBehind epoch last)) run
