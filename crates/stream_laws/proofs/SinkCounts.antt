-- One turn of a Sink: how many items it holds behind it.
use Rattle.std.proofs.Common.{◌≡◌, ℕ, ◌+◌, ◌==◌, ℤ, pos, Bool, true, false, cond, not, ◌||◌, List, [], ◌∷◌, ◌++◌, length}
use Rattle.std.proofs.Common.{Option, None, Some, is_some, refl, ap, sym, ◌∙◌, length-append}
use Rattle.std.specs.Prelude.{int_le, codes}
use Rattle.capability.specs.declared.Cap.{Cap}
use Rattle.eden_value.specs.Datum.{Datum, number, text}
use Rattle.eden_value.specs.declared.value.TheConstants.{LIST_LIMIT}
use Rattle.eden_model.specs.Map.{with_item, is_none}
use Rattle.epl_syntax.specs.declared.effect.Answer.{Answer}
use Rattle.epl_syntax.specs.declared.effect.Effect.{Effect}
use Rattle.epl_syntax.specs.declared.effect.Effect.TheVariants as effect
use Rattle.epl_syntax.specs.Simple.{argument, number_in, is_fine}
use Rattle.epl_syntax.specs.Streams.{Came, an_item, the_end, nothing, came}
use Rattle.epl_syntax.specs.Sink.{Drain, Moved, Stage as SinkStage, opens, open_saved, pumps, asked, item_saved, reads, drain, values_of}
use Rattle.epl_syntax.specs.Sink.{goes_on, after_asking, counts, sink_turn}
use Rattle.stream_laws.proofs.SinkTurns.{drain-back}

-- how many items are held
abbrev pub held_in : List Datum → ℕ
held_in vars = length (drain vars).items

held-back : (s : Drain) → held_in (values_of s) ≡ length s.items
held-back s = ap (λ (d : Drain). length d.items) (drain-back s)

-- it has asked for nothing that is not told yet
abbrev pub IsResting : SinkStage → Type 0
IsResting (asked wanted taken) = ⊥
IsResting (opens src) = Unit {0}
IsResting open_saved = Unit {0}
IsResting (pumps wanted) = Unit {0}
IsResting (item_saved wanted taken) = Unit {0}
IsResting reads = Unit {0}

abbrev pub RestingEnds : ℕ → List Datum → SinkStage → Effect → Type 0
RestingEnds m vars st (effect.Return results) = held_in vars ≡ m
RestingEnds m vars st effect.Checkpoint = (held_in vars ≡ m) × IsResting st
RestingEnds m vars (asked wanted taken) (effect.Invoke target operation args) =
    (held_in vars ≡ m) × (operation ≡ codes "Transfer") × (number_in (argument 0 args) ≡ pos m)
RestingEnds m vars st _ = ⊥

goes-on-so : (s : Drain) (wanted : ℤ) (taken : ℕ)
    → let x = goes_on s wanted taken in RestingEnds (length s.items) x.0 x.1 x.2
goes-on-so s wanted taken = go (not s.saved) (int_le wanted (pos taken)) (length s.items == LIST_LIMIT) s.src
  where
    go : (a b c : Bool) (o : Option Cap)
        → let x = cond {A = Moved} a (values_of (record s { saved = false }), item_saved wanted taken, effect.Checkpoint)
        (cond {A = Moved} b (counts s 0) (cond {A = Moved} c (counts s 2)
        (with_item {X = Cap} {Y = Moved} o
        (λ k. (values_of s, asked wanted taken, effect.Invoke k (codes "Transfer") (number (pos (length s.items)) ∷ []))) (counts s 3)))) in
        RestingEnds (length s.items) x.0 x.1 x.2
    go true b c o = (held-back (record s { saved = false }), tt)
    go false true c o = held-back s
    go false false true o = held-back s
    go false false false None = held-back s
    go false false false (Some k) = (held-back s, refl, refl)

pub resting-turn : (vars : List Datum) (st : SinkStage) (a : Answer) → IsResting st
    → let x = sink_turn vars st a in RestingEnds (held_in vars) x.0 x.1 x.2
resting-turn vars (opens src) a rests = go (is_some (drain vars).src || is_none src)
  where
    go : (b : Bool) → let x = cond {A = Moved} b (values_of (drain vars), reads, effect.Return (number (pos 1) ∷ []))
        (values_of (record (drain vars) { src = src; saved = false }), open_saved, effect.Checkpoint) in
        RestingEnds (held_in vars) x.0 x.1 x.2
    go true = held-back (drain vars)
    go false = (held-back (record (drain vars) { src = src; saved = false }), tt)
resting-turn vars open_saved a rests = go (is_fine a)
  where
    go : (b : Bool) → let x = cond {A = Moved} b (
      values_of (record (drain vars) { saved = true }),
      reads,
      effect.Return (number
          (pos 0) ∷ []),
    )
        (values_of (drain vars), reads, effect.Return (number (pos 3) ∷ [])) in
        RestingEnds (held_in vars) x.0 x.1 x.2
    go true = held-back (record (drain vars) { saved = true })
    go false = held-back (drain vars)
resting-turn vars (pumps wanted) a rests = go (is_none (drain vars).src)
  where
    go : (b : Bool) → let x = cond {A = Moved} b (counts (drain vars) 3) (goes_on (drain vars) wanted 0) in
        RestingEnds (held_in vars) x.0 x.1 x.2
    go true = held-back (drain vars)
    go false = goes-on-so (drain vars) wanted 0
resting-turn vars (item_saved wanted taken) a rests = go (is_fine a)
  where
    go : (b : Bool) → let x = cond {A = Moved} b (goes_on (record (drain vars) { saved = true }) wanted taken) (counts (drain vars) 3) in
        RestingEnds (held_in vars) x.0 x.1 x.2
    go true = goes-on-so (record (drain vars) { saved = true }) wanted taken
    go false = held-back (drain vars)
resting-turn vars reads a rests = refl
resting-turn vars (asked wanted taken) a rests = absurd rests

-- the stage before answered
abbrev pub TakingEnds : ℕ → Came → List Datum → SinkStage → Effect → Type 0
TakingEnds m (an_item t) vars st effect.Checkpoint = (held_in vars ≡ m + 1) × IsResting st
TakingEnds m (an_item t) vars st _ = ⊥
TakingEnds m c vars st (effect.Return results) =
    (code : ℤ) × (held : ℤ) × (results ≡ number code ∷ number held ∷ []) × (code ≡ pos 0 → ⊥)
TakingEnds m c vars st _ = ⊥

pub taking-turn : (vars : List Datum) (wanted : ℤ) (taken : ℕ) (a : Answer)
    → let x = sink_turn vars (asked wanted taken) a in TakingEnds (held_in vars) (came a) x.0 x.1 x.2
taking-turn vars wanted taken a = go (came a)
  where
    go : (c : Came) → let x = after_asking (drain vars) wanted taken c in TakingEnds (held_in vars) c x.0 x.1 x.2
    go (an_item t) = (
      held-back (record (drain vars) { items = (drain vars).items ++ text t ∷ []; saved = false })
          ∙ length-append (drain vars).items (text t ∷ []),
      tt,
    )
    go the_end = (pos 1, pos (held_in vars), refl, λ is. cc is)
    go nothing = (pos 3, pos (held_in vars), refl, λ is. cc is)

-- 0 is answered only at rest, and tells how many are held
abbrev pub IsZero : Effect → ℕ → Type 0
IsZero e items = e ≡ effect.Return (number (pos 0) ∷ number (pos items) ∷ [])

zero-on : (s : Drain) (wanted : ℤ) (taken items : ℕ) → IsZero (goes_on s wanted taken).2 items → items ≡ length s.items
zero-on s wanted taken items is = go (not s.saved) (int_le wanted (pos taken)) (length s.items == LIST_LIMIT) s.src is
  where
    go : (a b c : Bool) (o : Option Cap)
        → let x = cond {A = Moved} a (values_of (record s { saved = false }), item_saved wanted taken, effect.Checkpoint)
        (cond {A = Moved} b (counts s 0) (cond {A = Moved} c (counts s 2)
        (with_item {X = Cap} {Y = Moved} o
        (λ k. (values_of s, asked wanted taken, effect.Invoke k (codes "Transfer") (number (pos (length s.items)) ∷ []))) (counts s 3)))) in
        IsZero x.2 items → items ≡ length s.items
    go true b c o h = absurd (cc h)
    go false true c o h = let same : length s.items ≡ items = cc h in sym same
    go false false true o h = absurd (cc h)
    go false false false None h = absurd (cc h)
    go false false false (Some k) h = absurd (cc h)

pub zero-turn : (vars : List Datum) (st : SinkStage) (a : Answer) (items : ℕ) → IsZero (sink_turn vars st a).2 items
    → IsResting st × (items ≡ held_in vars)
zero-turn vars (opens src) a items is = go (is_some (drain vars).src || is_none src) is
  where
    go : (b : Bool) → let x = cond {A = Moved} b (values_of (drain vars), reads, effect.Return (number (pos 1) ∷ []))
        (values_of (record (drain vars) { src = src; saved = false }), open_saved, effect.Checkpoint) in
        IsZero x.2 items → Unit {0} × (items ≡ held_in vars)
    go true h = absurd (cc h)
    go false h = absurd (cc h)
zero-turn vars open_saved a items is = go (is_fine a) is
  where
    go : (b : Bool) → let x = cond {A = Moved} b (
      values_of (record (drain vars) { saved = true }),
      reads,
      effect.Return (number
          (pos 0) ∷ []),
    )
        (values_of (drain vars), reads, effect.Return (number (pos 3) ∷ [])) in
        IsZero x.2 items → Unit {0} × (items ≡ held_in vars)
    go true h = absurd (cc h)
    go false h = absurd (cc h)
zero-turn vars (pumps wanted) a items is = go (is_none (drain vars).src) is
  where
    go : (b : Bool) → let x = cond {A = Moved} b (counts (drain vars) 3) (goes_on (drain vars) wanted 0) in
        IsZero x.2 items → Unit {0} × (items ≡ held_in vars)
    go true h = absurd (cc h)
    go false h = (tt, zero-on (drain vars) wanted 0 items h)
zero-turn vars (item_saved wanted taken) a items is = go (is_fine a) is
  where
    go : (b : Bool) → let x = cond {A = Moved} b (goes_on (record (drain vars) { saved = true }) wanted taken) (counts (drain vars) 3) in
        IsZero x.2 items → Unit {0} × (items ≡ held_in vars)
    go true h = (tt, zero-on (record (drain vars) { saved = true }) wanted taken items h)
    go false h = absurd (cc h)
zero-turn vars reads a items is = absurd (cc is)
zero-turn vars (asked wanted taken) a items is = go (came a) is
  where
    go : (c : Came) → let x = after_asking (drain vars) wanted taken c in IsZero x.2 items → ⊥ × (items ≡ held_in vars)
    go (an_item t) h = absurd (cc h)
    go the_end h = absurd (cc h)
    go nothing h = absurd (cc h)
