-- Stored values: those of all variables but the last.
use Rattle.std.proofs.Common.{◌≡◌, Bool, true, false, ◌&&◌, List, [], ◌∷◌, ◌++◌, length, take, refl, ap}
use Rattle.std.proofs.lemmas.Bool.{false≢true}
use Rattle.eden_value.specs.Datum.{Datum, truth}
use Rattle.eden_value.specs.Shape.{has_shape}
use Rattle.epl_syntax.specs.Kinds.{have_shapes}
use Rattle.epl_syntax.specs.Outline.{Slot, kinds_kept, only_kept, with_kept}
use Rattle.epl_syntax.specs.Streams.{saved_slot}
use Rattle.epl_syntax.specs.Natives as natives
use Rattle.transput.specs.declared.stream.Stream.{Stream}
use Rattle.transput.specs.declared.stream.Stream.TheVariants as stream
use Rattle.transput.specs.View.{native_of}

-- variables that a checkpoint keeps
abbrev all_kept : List Slot → Bool
all_kept [] = true
all_kept (v ∷ slots) = v.durable && all_kept slots

-- with `saved` behind them
abbrev and_saved : List Slot → List Slot
and_saved slots = slots ++ saved_slot ∷ []

first_so : (a b : Bool) → (a && b) ≡ true → a ≡ true
first_so true b e = refl
first_so false b e = e

second_so : (a b : Bool) → (a && b) ≡ true → b ≡ true
second_so true b e = e
second_so false b e = absurd (false≢true e)

-- only those behind `saved` are left out
kept_alone : (slots : List Slot) (vars : List Datum) → all_kept slots ≡ true → only_kept (and_saved slots) vars ≡ take (length slots) vars
kept_alone [] [] k = refl
kept_alone [] (d ∷ vars) k = refl
kept_alone (v ∷ slots) [] k = refl
kept_alone (v ∷ slots) (d ∷ vars) k =
    rw (first_so v.durable (all_kept slots) k) (ap (λ ds. d ∷ ds) (kept_alone slots vars (second_so v.durable (all_kept slots) k)))

-- one variable more that a checkpoint keeps
kept_before : (v : Slot) (slots : List Slot) (ds : List Datum)
    → ((es : List Datum) → have_shapes es (kinds_kept (and_saved slots)) ≡ true → with_kept (and_saved slots) es ≡ es ++ truth true ∷ [])
    → v.durable ≡ true → have_shapes ds (kinds_kept (and_saved (v ∷ slots))) ≡ true
    → with_kept (and_saved (v ∷ slots)) ds ≡ ds ++ truth true ∷ []
kept_before v slots [] rests e h = let g : false ≡ true = rw e at h in absurd (false≢true g)
kept_before v slots (d ∷ ds) rests e h =
    let g : (has_shape d v.kind && have_shapes ds (kinds_kept (and_saved slots))) ≡ true = rw e at h in
    rw e (ap (λ es. d ∷ es) (rests ds (second_so (has_shape d v.kind) (have_shapes ds (kinds_kept (and_saved slots))) g)))

-- and `saved` begins anew
saved_behind : (slots : List Slot) (ds : List Datum) → all_kept slots ≡ true → have_shapes ds (kinds_kept (and_saved slots)) ≡ true
    → with_kept (and_saved slots) ds ≡ ds ++ truth true ∷ []
saved_behind [] [] k h = refl
saved_behind [] (d ∷ ds) k h = absurd (false≢true h)
saved_behind (v ∷ slots) ds k h =
    kept_before v slots ds (λ es. saved_behind slots es (second_so v.durable (all_kept slots) k)) (first_so v.durable (all_kept slots) k) h

-- the variables of a type
abbrev slots_of : Stream → List Slot
slots_of s = (natives.native_outline (native_of s)).slots

-- of each type
pub durable_is : (s : Stream) (vars : List Datum)
    → only_kept (slots_of s) vars ≡ take (length (kinds_kept (slots_of s))) vars
durable_is stream.Lines vars = kept_alone (take 2 (slots_of stream.Lines)) vars refl
durable_is stream.Take vars = kept_alone (take 5 (slots_of stream.Take)) vars refl
durable_is stream.Skip vars = kept_alone (take 5 (slots_of stream.Skip)) vars refl
durable_is stream.Only vars = kept_alone (take 5 (slots_of stream.Only)) vars refl
durable_is stream.Number vars = kept_alone (take 4 (slots_of stream.Number)) vars refl
durable_is stream.Sink vars = kept_alone (take 2 (slots_of stream.Sink)) vars refl

pub restart_is : (s : Stream) (ds : List Datum) → have_shapes ds (kinds_kept (slots_of s)) ≡ true
    → with_kept (slots_of s) ds ≡ ds ++ truth true ∷ []
restart_is stream.Lines ds h = saved_behind (take 2 (slots_of stream.Lines)) ds refl h
restart_is stream.Take ds h = saved_behind (take 5 (slots_of stream.Take)) ds refl h
restart_is stream.Skip ds h = saved_behind (take 5 (slots_of stream.Skip)) ds refl h
restart_is stream.Only ds h = saved_behind (take 5 (slots_of stream.Only)) ds refl h
restart_is stream.Number ds h = saved_behind (take 4 (slots_of stream.Number)) ds refl h
restart_is stream.Sink ds h = saved_behind (take 2 (slots_of stream.Sink)) ds refl h
