-- Answers that say that there is no room, or no disk, have their cause.
use Rattle.std.proofs.Common.{◌≡◌, inl, inr, ℕ, ◌<◌, Bool, true, false, List, Option, refl, sym, ap, ◌∙◌, arith}
use Rattle.std.specs.Prelude.{not, nat_lt, ◌&&◌, Result, Ok, Err, IfErr}
use Rattle.std.proofs.lemmas.Bool.{ltb-true}
use Rattle.eden_disk.specs.declared.disk.DiskRefusal.{DiskRefusal}
use Rattle.eden_disk.specs.declared.disk.DiskRefusal.TheVariants as disk
use Rattle.eden_disk.specs.Calls.{one_more}
use Rattle.eden_disk.specs.Told.{Told, contents}
use Rattle.passive_store.specs.Kept.{Layout}
use Rattle.passive_store.specs.Seen.{DiskSeen}
use Rattle.twin_store.specs.declared.served.TwinRefusal.{TwinRefusal}
use Rattle.twin_store.specs.declared.served.TwinRefusal.TheVariants.{Lost, Stopped, Full, GenerationsSpent, OutOfMemory}
use Rattle.twin_store.specs.Sides.{SideSeen, is_in_use, HasLeft, IsLostDisk}
use Rattle.twin_store.specs.Twins.{TwinSeen, TwinGoes, IsFullTwin}
use Rattle.twin_world.specs.InHand.{has_left, made_by, found_by}
use Rattle.twin_world.specs.Logs.{Answer, WrongState, Opened, Made, Found, NoRoom, Refused, CutShort, Entry}
use Rattle.twin_world.specs.Places.{Standing, Serving, asked_for, IsFullHere, IsLostSide, IsLostImage, IsCaused, IsWoken, blanked_as}

-- whether a refusal, or an answer, has a cause to be told
abbrev pub is_cause_of : TwinRefusal → Bool
is_cause_of Lost = true
is_cause_of Stopped = false
is_cause_of Full = true
is_cause_of GenerationsSpent = false
is_cause_of OutOfMemory = false

abbrev pub is_cause : Answer → Bool
is_cause WrongState = false
is_cause (Opened first second) = false
is_cause Made = false
is_cause (Found text) = false
is_cause NoRoom = true
is_cause (Refused r) = is_cause_of r
is_cause (CutShort stopped) = false

pub calm : (tells : Bool) (layout : Layout) (e : Entry) (s : Standing) → is_cause e.answer ≡ false → IsCaused tells layout e s
calm tells layout e s none = record {
  room = λ f. absurd (cc (sym none ∙ ap is_cause f));
  full = λ f. absurd (cc (sym none ∙ ap is_cause f));
  lost = λ f. absurd (cc (sym none ∙ ap is_cause f));
}

pub blank-calm : (how : Result (Unit {0}) DiskRefusal) → is_cause (blanked_as how) ≡ false
blank-calm (Ok done) = refl
blank-calm (Err disk.Failed) = refl
blank-calm (Err disk.Stopped) = refl

pub made-calm : (value : Unit {0}) → is_cause (made_by (Ok value)) ≡ false
made-calm value = refl

pub found-calm : (value : Option (List ℕ)) → is_cause (found_by (Ok value)) ≡ false
found-calm value = refl

pub made-refused : (x : TwinRefusal) → made_by (Err x) ≡ Refused x
made-refused x = refl

pub found-refused : (x : TwinRefusal) → found_by (Err x) ≡ Refused x
found-refused x = refl

pub refused-same : (a b : TwinRefusal) → Refused a ≡ Refused b → a ≡ b
refused-same a b e = cc e

-- a disk that left use is marked
left-marked : (a b : SideSeen) → HasLeft a b → has_left a b ≡ true
left-marked a b h = ap (λ k. k && not (is_in_use b)) h.0 ∙ ap (λ k. true && not k) h.1

lost-side : (failed : Bool) (a b : SideSeen) → failed ≡ has_left a b → is_in_use b ≡ false → IsLostSide failed a
lost-side failed a b mark off = go (is_in_use a) refl
  where
    go : (x : Bool) → is_in_use a ≡ x → IsLostSide failed a
    go true on = inl (mark ∙ left-marked a b (on, off))
    go false out = inr out

full-here : (tells : Bool) (layout : Layout) (e : Entry) (old t : TwinSeen) → e.first_failed ≡ has_left old.first t.first
    → e.second_failed ≡ has_left old.second t.second → IsFullTwin tells layout (asked_for e.command) old t
    → IsFullHere tells layout e (Serving old)
full-here tells layout e old t first second (inl h) = inl h
full-here tells layout e old t first second (inr (inl h)) = inr (inl (first ∙ left-marked old.first t.first h))
full-here tells layout e old t first second (inr (inr h)) = inr (inr (second ∙ left-marked old.second t.second h))

-- behind a call of an open pair
pub call-caused : {T : Type 0} (tells : Bool) (layout : Layout) (e : Entry) (by : Result T TwinRefusal → Answer)
    (r : Result T TwinRefusal) (old t : TwinSeen) → ((value : T) → is_cause (by (Ok value)) ≡ false)
    → ((x : TwinRefusal) → by (Err x) ≡ Refused x) → e.answer ≡ by r → TwinGoes r old t
    → IfErr r (λ x. x ≡ Full → IsFullTwin tells layout (asked_for e.command) old t) → e.first_failed ≡ has_left old.first t.first
    → e.second_failed ≡ has_left old.second t.second → IsCaused tells layout e (Serving old)
call-caused tells layout e by (Ok value) old t quiet says is g full first second =
    calm tells layout e (Serving old) (ap is_cause is ∙ quiet value)
call-caused tells layout e by (Err x) old t quiet says is g full first second = record {
  room = λ f. absurd (cc (sym (is ∙ says x) ∙ f));
  full = λ f. full-here tells layout e old t first second (full (refused-same x Full (sym (is ∙ says x) ∙ f)));
  lost = λ f. let gone = g.lost (refused-same x Lost (sym (is ∙ says x) ∙ f)) in
      (lost-side e.first_failed old.first t.first first gone.0, lost-side e.second_failed old.second t.second second gone.1);
}

-- a disk that was opened and is lost
met-marked : (x : Bool) (old new : ℕ) → x ≡ not (nat_lt new (one_more old)) → new ≡ one_more old → x ≡ true
met-marked x old new is met = is ∙ go (nat_lt new (one_more old)) refl
  where
    go : (b : Bool) → nat_lt new (one_more old) ≡ b → not (nat_lt new (one_more old)) ≡ true
    go true e = let less : new < one_more old = ltb-true new (one_more old) e in absurd (omega (arith, less, met))
    go false e = ap not e

pub lost-image : (tells : Bool) (layout : Layout) (n : ℕ) (failed : Bool) (a one new : DiskSeen) → IsWoken tells a one
    → IsLostDisk tells layout n one new → failed ≡ not (nat_lt new.counts.faults (one_more one.counts.faults))
    → IsLostImage tells layout n failed a
lost-image tells layout n failed a one new w (inl met) is =
    inl (met-marked failed one.counts.faults new.counts.faults is met)
lost-image tells layout n failed a one new w (inr h) is =
    inr (λ so. let u = h.1 so in (u.0, ap (λ (t : Told). layout.map_of n (contents t).now) (sym w.told) ∙ u.1))
