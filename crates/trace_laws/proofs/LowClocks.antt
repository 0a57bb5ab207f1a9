-- Where something may happen, it may happen with clocks of 64 bits.
use Rattle.std.proofs.Common.{◌≡◌, ℕ, zero, suc, ◌+◌, ◌<◌, ◌≤◌, ◌^◌, Option, None, Some, refl, ap, sym, subst, ◌∙◌, arith, Bool, true}
use Rattle.std.proofs.Common.{false, cond, nat_lt, inl, inr}
use Rattle.std.specs.Prelude.{IfSome, ◌⊎◌}
use Rattle.capability.specs.declared.Uid.{Uid}
use Rattle.eden_model.specs.Map.{with_item}
use Rattle.passive_store.specs.declared.store.Pick.{Pick}
use Rattle.journal.specs.declared.command.Command.{Command}
use Rattle.journal.specs.declared.event.Event.{Event}
use Rattle.journal.specs.declared.event.Event.TheVariants as event
use Rattle.journal.specs.declared.event.Entry.{Entry}
use Rattle.journal.specs.declared.event.RequestEnd.{RequestEnd}
use Rattle.journal.specs.World.{World, Site, site_at}
use Rattle.journal.specs.Step.{Allows, AllowsEvent, touched, touches_store, node_if, last_clock, one_more, clock_before, ClockFits}
use Rattle.journal.specs.Step.{NotBefore, StoreClock, StoreClockFits, breaks, key_of}
use Rattle.history_laws.proofs.Runs.{no-turn}
use Rattle.eden_model.specs.Traffic.{names_of}
use Rattle.trace_laws.specs.Determined.{HasClocks, clock_shown}
use Rattle.trace_laws.proofs.Entries.{breaks-store}

-- the last clock of each disk is of 64 bits
abbrev pub Low : World → Type 0
Low w = (n : ℕ) → IfSome (clock_before w n) (λ b. b < 2 ^ 64)

-- as it was, or 0
abbrev was : Option ℕ → ℕ
was o = with_item o (λ b. b) 0

was-low : (o : Option ℕ) → IfSome o (λ b. b < 2 ^ 64) → was o < 2 ^ 64
was-low None h = omega arith
was-low (Some b) h = h

not-before : (o : Option ℕ) → NotBefore (was o) o
not-before None = tt
not-before (Some b) = omega arith

-- a clock that fits an entry on this node's disk, or on none
abbrev pub fitting : World → ℕ → ℕ
fitting w zero = 0
fitting w (suc n) = was (clock_before w (suc n))

pub fits : (w : World) (n : ℕ) → ClockFits w n (fitting w n)
fits w zero = refl
fits w (suc n) = not-before (clock_before w (suc n))

fitting-low : (w : World) (n : ℕ) → Low w → fitting w n < 2 ^ 64
fitting-low w zero low = omega arith
fitting-low w (suc n) low = was-low (clock_before w (suc n)) (low (suc n))

-- one more, up to the last
more-of : Option ℕ → ℕ
more-of o = with_item o one_more 0

one_more-low : (b : ℕ) → b < 2 ^ 64 → one_more b < 2 ^ 64
one_more-low b h = go (nat_lt b last_clock) refl
  where
    go : (t : Bool) → nat_lt b last_clock ≡ t → cond t (b + 1) b < 2 ^ 64
    go true at = grind (arith, at, h)
    go false at = h

one_more-not-before : (b : ℕ) → b ≤ one_more b
one_more-not-before b = go (nat_lt b last_clock)
  where
    go : (t : Bool) → b ≤ cond t (b + 1) b
    go true = omega arith
    go false = omega arith

abbrev Lowered : World → Option Command → Entry → Type 0
Lowered w c e = (f : Entry) × Allows w c f × (key_of f.event ≡ key_of e.event) × HasClocks f

-- of events that show no clock
lowered-other : (w : World) (c : Option Command) (e : Entry) → Low w → Allows w c e → ((x : ℕ) → StoreClock w e.event x)
    → clock_shown e.event ≡ 0 → Lowered w c e
lowered-other w c e low a store shown = (
  record { event = e.event; node = e.node; clock = fitting w e.node; broken = e.broken },
  record { event = a.event; broken = a.broken; disk = a.disk; clock = fits w e.node; store_clock = store (fitting w e.node) },
  refl,
  record { disk = fitting-low w e.node low; shown = subst (λ n. n < 2 ^ 64) (sym shown) (omega arith) },
)

-- of a turn of a store
store-at : (b : Bool) (n : ℕ) → (node_if b n ≡ 0) ⊎ (node_if b n ≡ n)
store-at true n = inr refl
store-at false n = inl refl

store-touches : (w : World) (u : Uid) (c : ℕ) (how : RequestEnd) (p : Option Pick)
    → (touched w (event.Store u c how p) ≡ 0) ⊎ (touched w (event.Store u c how p) ≡ u.node)
store-touches w u c how p = go (site_at w u.node)
  where
    go : (o : Option Site) → (with_item o (λ s. node_if (touches_store s) u.node) 0 ≡ 0)
        ⊎ (with_item o (λ s. node_if (touches_store s) u.node) 0 ≡ u.node)
    go None = inl refl
    go (Some s) = store-at (touches_store s) u.node

was-shown : (o : Option ℕ) → IfSome o (λ b. was o ≡ b)
was-shown None = tt
was-shown (Some b) = refl

more-shown : (o : Option ℕ) → IfSome o (λ b. more-of o ≡ one_more b)
unfolding more-of
more-shown None = tt
more-shown (Some b) = refl

more-low : (o : Option ℕ) → IfSome o (λ b. b < 2 ^ 64) → more-of o < 2 ^ 64
unfolding more-of
more-low None h = omega arith
more-low (Some b) h = one_more-low b h

more-not-before : (o : Option ℕ) → NotBefore (more-of o) o
unfolding more-of
more-not-before None = tt
more-not-before (Some b) = one_more-not-before b

lowered-store : (w : World) (e : Entry) (u : Uid) (x : ℕ) (how : RequestEnd) (p : Option Pick) → Low w → Allows w None e
    → e.event ≡ event.Store u x how p → Lowered w None e
lowered-store w e u x how p low a is = go (touched w (event.Store u x how p)) refl (store-touches w u x how p)
  where
    built : (shown c : ℕ) → StoreClockFits (touched w (event.Store u x how p)) (clock_before w u.node) shown c
        → ClockFits w (touched w (event.Store u x how p)) c → shown < 2 ^ 64 → c < 2 ^ 64 → Lowered w None e
    built shown c store clock low-shown low-clock = (
      record { event = event.Store u shown how p; node = touched w (event.Store u x how p); clock = c; broken = e.broken },
      record {
        event = subst (AllowsEvent w None) is a.event;
        broken = a.broken ∙ (ap (λ v. names_of (breaks v) w.traffic) is
            ∙ ap (λ b. names_of b w.traffic) (breaks-store u x shown how p p));
        disk = refl;
        clock = clock;
        store_clock = store;
      },
      sym (ap key_of is),
      record { disk = low-clock; shown = low-shown },
    )

    zero-is : (t : ℕ) → touched w (event.Store u x how p) ≡ t → t ≡ 0 → Lowered w None e
    zero-is t at none = let off : touched w (event.Store u x how p) ≡ 0 = at ∙ none in
        built (was (clock_before w u.node)) 0 (subst (λ n. StoreClockFits n (clock_before w u.node) (was (clock_before w u.node)) 0)
        (sym off) (was-shown (clock_before w u.node)))
        (subst (λ n. ClockFits w n 0) (sym off) refl) (was-low (clock_before w u.node) (low u.node)) (omega arith)

    go : (t : ℕ) → touched w (event.Store u x how p) ≡ t
        → (touched w (event.Store u x how p) ≡ 0) ⊎ (touched w (event.Store u x how p) ≡ u.node) → Lowered w None e
    go zero at t = zero-is zero at refl
    go (suc m) at (inl off) = zero-is (suc m) at (sym at ∙ off)
    go (suc m) at (inr on) =
        let here : suc m ≡ u.node = sym at ∙ on in
        let c : ℕ = more-of (clock_before w u.node) in
        built (more-of (clock_before w u.node)) (more-of (clock_before w u.node))
        (subst (λ n. StoreClockFits n (clock_before w u.node) (more-of (clock_before w u.node)) (more-of (clock_before w u.node))) (sym at)
        (refl, more-shown (clock_before w u.node)))
        (subst (λ n. ClockFits w n (more-of (clock_before w u.node))) (sym at)
        (subst (λ n. NotBefore (more-of (clock_before w u.node)) (clock_before w n)) (sym here)
        (more-not-before (clock_before w u.node))))
        (more-low (clock_before w u.node) (low u.node)) (more-low (clock_before w u.node) (low u.node))

-- whatever may happen
pub lowered : (w : World) (c : Option Command) (e : Entry) → Low w → Allows w c e → Lowered w c e
lowered w c e low a = go e.event refl
  where
    other : (v : Event) → e.event ≡ v → ((x : ℕ) → StoreClock w v x) → clock_shown v ≡ 0 → Lowered w c e
    other v is store shown = lowered-other w c e low a (λ x. subst (λ v. StoreClock w v x) (sym is) (store x)) (ap clock_shown is ∙ shown)

    store : (o : Option Command) → Allows w o e → (u : Uid) (x : ℕ) (how : RequestEnd) (p : Option Pick) → e.event ≡ event.Store u x how p
        → Lowered w o e
    store None a u x how p is = lowered-store w e u x how p low a is
    store (Some d) a u x how p is = absurd (no-turn w d (event.Store u x how p) refl (subst (AllowsEvent w (Some d)) is a.event))

    go : (v : Event) → e.event ≡ v → Lowered w c e
    go (event.Store u x how p) is = store c a u x how p is
    go (event.Boot n x how p b) is = other _ is (λ x. tt) refl
    go (event.Crash n) is = other _ is (λ x. tt) refl
    go (event.Still n up) is = other _ is (λ x. tt) refl
    go (event.Link x y joined) is = other _ is (λ x. tt) refl
    go (event.Armed n what) is = other _ is (λ x. tt) refl
    go (event.Made name s u) is = other _ is (λ x. tt) refl
    go (event.Bound name held) is = other _ is (λ x. tt) refl
    go (event.Void name) is = other _ is (λ x. tt) refl
    go (event.Asked k name at_once) is = other _ is (λ x. tt) refl
    go (event.Request k x y refused) is = other _ is (λ x. tt) refl
    go (event.Reply k x y name s values) is = other _ is (λ x. tt) refl
    go (event.Activate u how p) is = other _ is (λ x. tt) refl
    go (event.Start k u p) is = other _ is (λ x. tt) refl
    go (event.Process u p said) is = other _ is (λ x. tt) refl
    go event.Quiet is = other _ is (λ x. tt) refl
    go event.Spent is = other _ is (λ x. tt) refl
    go (event.Left names) is = other _ is (λ x. tt) refl
