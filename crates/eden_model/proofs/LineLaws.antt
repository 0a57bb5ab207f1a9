-- One queue, and what a change of the processes does to it.
use Rattle.std.proofs.Common.{◌≡◌, ◌<◌, ℕ, ◌==◌, Bool, true, false, cond, List, [], ◌∷◌, ◌++◌, map, length, Option, Some, refl, sym, ◌∙◌}
use Rattle.std.proofs.Common.{ap, arith}
use Rattle.std.proofs.lemmas.Bool.{eqb-true}
use Rattle.std.proofs.lemmas.List.{length-map}
use Rattle.std.specs.Prelude.{◌||◌}
use Rattle.std.specs.Option.{option_map}
use Rattle.std.specs.Ordering.{nat_cmp, eq_by_cmp}
use Rattle.eden_model.specs.Map.{value_at}
use Rattle.eden_model.specs.Crew.{Process, Waiting, waits_at, with_waits}
use Rattle.eden_model.specs.Lines.{has, Distinct, AllWait, IsLine}
use Rattle.eden_model.proofs.Numbers.{same-true, same-self, same-comm, no-more, AllIn}

pub or-left : (a b : Bool) → (a || b) ≡ false → a ≡ false
or-left true b h = h
or-left false b h = refl

pub or-right : (a b : Bool) → (a || b) ≡ false → b ≡ false
or-right true b h = cc
or-right false b h = h

-- 1. What is waited for

abbrev at_entry : ℕ → ℕ × Process → List (ℕ × Process) → Option Waiting
at_entry q e es = cond (eq_by_cmp nat_cmp q e.0) (Some (e.1).waits) (waits_at q es)

waits-cons : (q : ℕ) (e : ℕ × Process) (es : List (ℕ × Process)) → waits_at q (e ∷ es) ≡ at_entry q e es
waits-cons q e es = elim (eq_by_cmp nat_cmp q e.0) as
    (λ b. option_map (λ (it : Process). it.waits) (cond b (Some e.1) (value_at nat_cmp q es)) ≡ cond b (Some (e.1).waits) (waits_at q es))
    [ true ↦ refl | false ↦ refl ]

pub set-other : (p q : ℕ) (w : Waiting) (es : List (ℕ × Process)) → eq_by_cmp nat_cmp q p ≡ false
    → waits_at q (map (with_waits p w) es) ≡ waits_at q es
set-other p q w [] h = refl
set-other p q w (e ∷ es) h = waits-cons q (with_waits p w e) (map (with_waits p w) es) ∙ go (eq_by_cmp nat_cmp q e.0) refl (e.0 == p) refl
    (set-other p q w es h) ∙ sym (waits-cons q e es)
  where
    go : (a : Bool) → eq_by_cmp nat_cmp q e.0 ≡ a → (b : Bool) → (e.0 == p) ≡ b → waits_at q (map (with_waits p w) es) ≡ waits_at q es
        → cond (eq_by_cmp nat_cmp q e.0) (Some (cond (e.0 == p) (record e.1 { waits = w }) e.1).waits)
        (waits_at q (map (with_waits p w) es)) ≡ cond (eq_by_cmp nat_cmp q e.0) (Some (e.1).waits) (waits_at q es)
    go true a true b ih = let x : q ≡ e.0 = same-true q e.0 a in let y : e.0 ≡ p = eqb-true e.0 p b in
        let bad : true ≡ false = sym (same-self q) ∙ ap (λ n. eq_by_cmp nat_cmp q n) (x ∙ y) ∙ h in cc
    go true a false b ih = rw (a, b) refl
    go false a b c ih = rw (a, ih) refl

pub set-same : (p : ℕ) (v w : Waiting) (es : List (ℕ × Process)) → waits_at p es ≡ Some v → waits_at p (map (with_waits p w) es) ≡ Some w
set-same p v w [] h = cc
set-same p v w (e ∷ es) h = waits-cons p (with_waits p w e) (map (with_waits p w) es) ∙ go (eq_by_cmp nat_cmp p e.0) refl (e.0 == p) refl
    (sym (waits-cons p e es) ∙ h) (set-same p v w es)
  where
    go : (a : Bool) → eq_by_cmp nat_cmp p e.0 ≡ a → (b : Bool) → (e.0 == p) ≡ b → at_entry p e es ≡ Some v
        → (waits_at p es ≡ Some v → waits_at p (map (with_waits p w) es) ≡ Some w)
        → cond (eq_by_cmp nat_cmp p e.0) (Some (cond (e.0 == p) (record e.1 { waits = w }) e.1).waits)
        (waits_at p (map (with_waits p w) es)) ≡ Some w
    go true a true b is ih = rw (a, b) refl
    go true a false b is ih = let x : p ≡ e.0 = same-true p e.0 a in absurd (let bad : true ≡ false = sym (grind (arith, x)) ∙ b in cc)
    go false a b c is ih = rw a (ih (rw a at is))

-- a process that waits for nothing goes on to, whichever is set free
pub set-free : (p q : ℕ) (w : Waiting) (es : List (ℕ × Process)) → waits_at p es ≡ Some w → waits_at p (map (with_waits q w) es) ≡ Some w
set-free p q w es h = go (eq_by_cmp nat_cmp p q) refl
  where
    go : (b : Bool) → eq_by_cmp nat_cmp p q ≡ b → waits_at p (map (with_waits q w) es) ≡ Some w
    go true is = let e : p ≡ q = same-true p q is in rw (← e) (set-same p w w es h)
    go false is = set-other q p w es is ∙ h

-- 2. Queues

all-kept : (ps : List (ℕ × Process)) (p : ℕ) (v w : Waiting) (ns : List ℕ) → AllWait ps w ns → has p ns ≡ false
    → AllWait (map (with_waits p v) ps) w ns
all-kept ps p v w [] all out = tt
all-kept ps p v w (n ∷ ns) all out = (
  set-other p n v ps (same-comm n p ∙ or-left (eq_by_cmp nat_cmp p n) (has p ns) out) ∙ all.0,
  all-kept ps p v w ns all.1 (or-right (eq_by_cmp nat_cmp p n) (has p ns) out),
)

pub line-kept : (ps : List (ℕ × Process)) (p : ℕ) (v w : Waiting) (ns : List ℕ) → IsLine ps w ns → has p ns ≡ false
    → IsLine (map (with_waits p v) ps) w ns
line-kept ps p v w ns line out = record { once = line.once; wait = all-kept ps p v w ns line.wait out }

has-push : (x p : ℕ) (ns : List ℕ) → has x ns ≡ false → eq_by_cmp nat_cmp x p ≡ false → has x (ns ++ p ∷ []) ≡ false
has-push x p [] none other = rw other refl
has-push x p (n ∷ ns) none other = rw (or-left (eq_by_cmp nat_cmp x n) (has x ns) none)
    (has-push x p ns (or-right (eq_by_cmp nat_cmp x n) (has x ns) none) other)

pub has-push_other : (x p : ℕ) (ns : List ℕ) → has x ns ≡ false → eq_by_cmp nat_cmp x p ≡ false → has x (ns ++ p ∷ []) ≡ false
has-push_other x p ns none other = has-push x p ns none other

distinct-push : (p : ℕ) (ns : List ℕ) → Distinct ns → has p ns ≡ false → Distinct (ns ++ p ∷ [])
distinct-push p [] d out = (refl, tt)
distinct-push p (n ∷ ns) d out = (
  has-push n p ns d.0 (same-comm n p ∙ or-left (eq_by_cmp nat_cmp p n) (has p ns) out),
  distinct-push p ns d.1 (or-right (eq_by_cmp nat_cmp p n) (has p ns) out),
)

all-push : (ps : List (ℕ × Process)) (p : ℕ) (w : Waiting) (ns : List ℕ) → AllWait ps w ns → waits_at p ps ≡ Some w
    → AllWait ps w (ns ++ p ∷ [])
all-push ps p w [] all is = (is, tt)
all-push ps p w (n ∷ ns) all is = (all.0, all-push ps p w ns all.1 is)

pub line-push : (ps : List (ℕ × Process)) (p : ℕ) (w : Waiting) (ns : List ℕ) → IsLine ps w ns → has p ns ≡ false → waits_at p ps ≡ Some w
    → IsLine ps w (ns ++ p ∷ [])
line-push ps p w ns line out is = record { once = distinct-push p ns line.once out; wait = all-push ps p w ns line.wait is }

pub line-rest : (ps : List (ℕ × Process)) (q : ℕ) (w : Waiting) (ns : List ℕ) → IsLine ps w (q ∷ ns) → IsLine ps w ns
line-rest ps q w ns line = record { once = line.once.1; wait = line.wait.1 }

-- who waits for something else is not in the queue
apart : (ps : List (ℕ × Process)) (p : ℕ) (v w : Waiting) (ns : List ℕ) → AllWait ps w ns → waits_at p ps ≡ Some v → (v ≡ w → ⊥)
    → has p ns ≡ false
apart ps p v w [] all is other = refl
apart ps p v w (n ∷ ns) all is other = go (eq_by_cmp nat_cmp p n) refl (apart ps p v w ns all.1 is other)
  where
    go : (b : Bool) → eq_by_cmp nat_cmp p n ≡ b → has p ns ≡ false → (eq_by_cmp nat_cmp p n || has p ns) ≡ false
    go true h rest = let e : p ≡ n = same-true p n h in
        absurd (other (let both : Some v ≡ Some w = sym is ∙ ap (λ k. waits_at k ps) e ∙ all.0 in cc))
    go false h rest = rw h rest

pub line-apart : (ps : List (ℕ × Process)) (p : ℕ) (v w : Waiting) (ns : List ℕ) → IsLine ps w ns → waits_at p ps ≡ Some v → (v ≡ w → ⊥)
    → has p ns ≡ false
line-apart ps p v w ns line is other = apart ps p v w ns line.wait is other

abbrev pub keys_of : List (ℕ × Process) → List ℕ
keys_of ps = map (λ e. e.0) ps

in-keys : (p : ℕ) (v : Waiting) (es : List (ℕ × Process)) → waits_at p es ≡ Some v → has p (keys_of es) ≡ true
in-keys p v [] h = cc
in-keys p v (e ∷ es) h = go (eq_by_cmp nat_cmp p e.0) refl (sym (waits-cons p e es) ∙ h) (in-keys p v es)
  where
    go : (b : Bool) → eq_by_cmp nat_cmp p e.0 ≡ b → at_entry p e es ≡ Some v → (waits_at p es ≡ Some v → has p (keys_of es) ≡ true)
        → (eq_by_cmp nat_cmp p e.0 || has p (keys_of es)) ≡ true
    go true a is ih = rw a refl
    go false a is ih = rw a (ih (rw a at is))

all-in : (ps : List (ℕ × Process)) (w : Waiting) (ns : List ℕ) → AllWait ps w ns → AllIn ns (keys_of ps)
all-in ps w [] all = tt
all-in ps w (n ∷ ns) all = (in-keys n w ps all.0, all-in ps w ns all.1)

-- a process that is not in the queue leaves a place in it
pub line-room : (ps : List (ℕ × Process)) (p : ℕ) (v w : Waiting) (ns : List ℕ) → IsLine ps w ns → has p ns ≡ false
    → waits_at p ps ≡ Some v → length ns < length ps
line-room ps p v w ns line out is =
    omega (
      arith,
      no-more (p ∷ ns) (keys_of ps) (out, line.once) (in-keys p v ps is, all-in ps w ns line.wait),
      length-map ps (λ (e : ℕ × Process). e.0),
    )

-- 3. A process that comes, and one that goes

all-by : (ps qs : List (ℕ × Process)) (w : Waiting) (ns : List ℕ)
    → ((q : ℕ) → waits_at q ps ≡ Some w → has q ns ≡ true → waits_at q qs ≡ Some w) → AllWait ps w ns → AllWait qs w ns
all-by ps qs w [] same all = tt
all-by ps qs w (n ∷ ns) same all =
    (same n all.0 (rw (same-self n) refl), all-by ps qs w ns (λ q is h. same q is (rw h (go (eq_by_cmp nat_cmp q n)))) all.1)
  where
    go : (b : Bool) → (b || true) ≡ true
    go true = refl
    go false = refl

pub line-by : (ps qs : List (ℕ × Process)) (w : Waiting) (ns : List ℕ)
    → ((q : ℕ) → waits_at q ps ≡ Some w → has q ns ≡ true → waits_at q qs ≡ Some w) → IsLine ps w ns → IsLine qs w ns
line-by ps qs w ns same line = record { once = line.once; wait = all-by ps qs w ns same line.wait }
