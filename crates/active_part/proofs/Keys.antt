-- The numbers under which tasks stand, and those of the processes.
use Rattle.std.proofs.Common.{◌≡◌, ◌≤◌, ◌<◌, ℕ, zero, suc, ◌+◌, ◌-◌, ◌==◌, Bool, true, false, cond, not, List, [], ◌∷◌, ◌++◌, map, length}
use Rattle.std.proofs.Common.{Option, None, Some, get_or, refl, sym, ◌∙◌, ap, arith}
use Rattle.std.specs.Prelude.{◌||◌, is_some, nat_lt, slice_get, slice_set}
use Rattle.std.proofs.lemmas.Bool.Decides.{nat_tests}
use Rattle.std.specs.List.{filter, find, list_any}
use Rattle.std.specs.Ordering.{nat_cmp, eq_by_cmp}
use Rattle.std.specs.Option.{option_map}
use Rattle.std.proofs.lemmas.Bool.{eqb-true}
use Rattle.eden_model.proofs.Numbers.{same-true}
use Rattle.std.specs.declared.cmp.Ordering.{Ordering}
use Rattle.std.specs.declared.cmp.Ordering.TheVariants.{Less, Equal, Greater}
use Rattle.std.specs.FinMap.Entries.{by_order}
use Rattle.coordinator.specs.Ready.{AscendPast}
use Rattle.eden_model.specs.Crew.{Process, Waiting, Monitor, Condition, Crew, Coordination, Invocation, entry, condition, nothing}
use Rattle.eden_model.specs.Crew.{with_waits, set_waits, set_waits_of, set_monitor, set_condition, match_holder, locked_by, locked}
use Rattle.eden_model.specs.Crew.{left_free, left, waited, queued_at, signalled, is_held_by, leave_held, ended, waits_at}
use Rattle.eden_model.specs.Crew.{startable, may_start, least_free, started_in}
use Rattle.eden_model.specs.Map.{each_value, with_item, first, rest, put_at, value_at, where_key}
use Rattle.active_part.specs.Places.{keys, is_number_in, Ascend}
use Rattle.active_part.specs.View.{stepped}
use Rattle.active_part.specs.declared.Step.{Step}
use Rattle.active_part.specs.declared.Step.TheVariants.{Lock, Leave, Wait, Signal}

-- ---- what changes of the processes keeps their numbers

abbrev pub Same : Crew → Crew → Type 0
Same new old = keys new.processes ≡ keys old.processes

waits-keep : (p : ℕ) (w : Waiting) (ps : List (ℕ × Process)) → keys (map (with_waits p w) ps) ≡ keys ps
waits-keep p w [] = refl
waits-keep p w (e ∷ ps) = ap (λ l. e.0 ∷ l) (waits-keep p w ps)

pub set-keeps : (p : ℕ) (w : Waiting) (crew : Crew) → Same (set_waits p w crew) crew
set-keeps p w crew = waits-keep p w crew.processes

set-of-keeps : (p : Option ℕ) (w : Waiting) (crew : Crew) → Same (set_waits_of p w crew) crew
set-of-keeps None w crew = refl
set-of-keeps (Some p) w crew = set-keeps p w crew

locked-keeps : (p m : ℕ) (crew : Crew) → Same (locked p m crew) crew
locked-keeps p m crew = go (slice_get crew.monitors (m - 1))
  where
    by : (it : Monitor) (h : Option ℕ)
        → Same (match_holder h (set_monitor m (record it { holder = Some p }) crew)
        (set_waits p (entry m) (set_monitor m (record it { entering = it.entering ++ p ∷ [] }) crew))) crew
    by it None = refl
    by it (Some h) = waits-keep p (entry m) crew.processes

    go : (o : Option Monitor) → Same (with_item o (λ it. locked_by p m it crew) crew) crew
    go None = refl
    go (Some it) = by it it.holder

left-keeps : (m : ℕ) (crew : Crew) → Same (left m crew) crew
left-keeps m crew = go (slice_get crew.monitors (m - 1))
  where
    go : (o : Option Monitor) → Same (with_item o (λ it. left_free m it crew) crew) crew
    go None = refl
    go (Some it) =
        set-of-keeps (first it.entering) nothing
        (set_monitor m (record { holder = first it.entering; entering = rest it.entering }) crew)

waited-keeps : (p c : ℕ) (crew : Crew) → Same (waited p c crew) crew
waited-keeps p c crew = go (slice_get crew.conditions c)
  where
    go : (o : Option Condition) → Same (with_item o
        (λ it. set_waits p (condition c) (set_condition c (record it { waiters = it.waiters ++ p ∷ [] }) (left it.monitor crew))) crew) crew
    go None = refl
    go (Some it) = waits-keep p (condition c) (left it.monitor crew).processes ∙ left-keeps it.monitor crew

queued-keeps : (p : Option ℕ) (m : ℕ) (crew : Crew) → Same (queued_at p m crew) crew
queued-keeps None m crew = refl
queued-keeps (Some p) m crew = go (slice_get crew.monitors (m - 1))
  where
    go : (o : Option Monitor) → Same (with_item o
        (λ it. set_waits p (entry m) (set_monitor m (record it { entering = it.entering ++ p ∷ [] }) crew)) crew) crew
    go None = refl
    go (Some it) = waits-keep p (entry m) crew.processes

signalled-keeps : (c : ℕ) (crew : Crew) → Same (signalled c crew) crew
signalled-keeps c crew = go (slice_get crew.conditions c)
  where
    go : (o : Option Condition) → Same (with_item o
        (λ it. queued_at (first it.waiters) it.monitor (set_condition c (record it { waiters = rest it.waiters }) crew)) crew) crew
    go None = refl
    go (Some it) = queued-keeps (first it.waiters) it.monitor (set_condition c (record it { waiters = rest it.waiters }) crew)

pub stepped-keeps : (s : Step) (p : ℕ) (crew : Crew) → Same (stepped s p crew) crew
stepped-keeps (Lock m) p crew = locked-keeps p m crew
stepped-keeps (Leave m) p crew = left-keeps m crew
stepped-keeps (Wait c) p crew = waited-keeps p c crew
stepped-keeps (Signal c) p crew = signalled-keeps c crew

leave-held-keeps : (p n : ℕ) (crew : Crew) → Same (leave_held p n crew) crew
leave-held-keeps p zero crew = refl
leave-held-keeps p (suc n) crew = go (slice_get crew.monitors n) (leave-held-keeps p n crew)
  where
    held : Crew
    held = leave_held p n crew

    by : (b : Bool) → Same held crew → Same (cond b (left (n + 1) held) held) crew
    by true keeps = left-keeps (n + 1) held ∙ keeps
    by false keeps = keeps

    go : (o : Option Monitor) → Same held crew
        → Same (with_item o (λ it. cond (is_held_by p it.holder) (left (n + 1) held) held) held) crew
    go None keeps = keeps
    go (Some it) keeps = by (is_held_by p it.holder) keeps

-- ---- an entry that is put in, or taken out

abbrev key-put : ℕ → List ℕ → List ℕ
key-put p [] = p ∷ []
key-put p (k ∷ ks) = by_order (nat_cmp p k) (p ∷ k ∷ ks) (k ∷ ks) (k ∷ key-put p ks)

keys-put : {X : Type 0} (p : ℕ) (x : X) (es : List (ℕ × X)) → keys (put_at nat_cmp p x es) ≡ key-put p (keys es)
keys-put p x [] = refl
keys-put p x (e ∷ es) = go (nat_cmp p e.0) (keys-put p x es)
  where
    go : (o : Ordering) → keys (put_at nat_cmp p x es) ≡ key-put p (keys es)
        → keys (by_order o ((p, x) ∷ e ∷ es) ((e.0, x) ∷ es) (e ∷ put_at nat_cmp p x es))
        ≡ by_order o (p ∷ e.0 ∷ keys es) (e.0 ∷ keys es) (e.0 ∷ key-put p (keys es))
    go Less later = refl
    go Equal later = refl
    go Greater later = ap (λ l. e.0 ∷ l) later

pub put-both : {X Y : Type 0} (p : ℕ) (x : X) (y : Y) (es : List (ℕ × X)) (fs : List (ℕ × Y)) → keys es ≡ keys fs
    → keys (put_at nat_cmp p x es) ≡ keys (put_at nat_cmp p y fs)
put-both p x y es fs same = keys-put p x es ∙ ap (key-put p) same ∙ sym (keys-put p y fs)

keys-where : {X : Type 0} (test : ℕ → Bool) (es : List (ℕ × X)) → keys (where_key nat_cmp test es) ≡ filter test (keys es)
keys-where test [] = refl
keys-where test (e ∷ es) = go (test e.0) (keys-where test es)
  where
    go : (b : Bool) → keys (where_key nat_cmp test es) ≡ filter test (keys es)
        → keys (cond b (e ∷ where_key nat_cmp test es) (where_key nat_cmp test es))
        ≡ cond b (e.0 ∷ filter test (keys es)) (filter test (keys es))
    go true later = ap (λ l. e.0 ∷ l) later
    go false later = later

pub where-both : {X Y : Type 0} (test : ℕ → Bool) (es : List (ℕ × X)) (fs : List (ℕ × Y)) → keys es ≡ keys fs
    → keys (where_key nat_cmp test es) ≡ keys (where_key nat_cmp test fs)
where-both test es fs same = keys-where test es ∙ ap (filter test) same ∙ sym (keys-where test fs)

-- ---- a task is found where its process is

pub ascend-keys : (n : ℕ) (ps : List (ℕ × Process)) → AscendPast n ps → Ascend n (keys ps)
ascend-keys n [] h = tt
ascend-keys n (e ∷ ps) h = (h.0, ascend-keys e.0 ps h.2)

or-more : (a b : Bool) → b ≡ true → (a || b) ≡ true
or-more true b h = refl
or-more false b h = h

pub process-among : (p : ℕ) (w : Waiting) (ps : List (ℕ × Process)) → waits_at p ps ≡ Some w → is_number_in p (keys ps) ≡ true
process-among p w [] h = cc
process-among p w (e ∷ ps) h = go (eq_by_cmp nat_cmp p e.0) refl h (process-among p w ps)
  where
    go : (a : Bool) → eq_by_cmp nat_cmp p e.0 ≡ a
        → option_map (λ (it : Process). it.waits) (cond a (Some e.1) (value_at nat_cmp p ps)) ≡ Some w
        → (waits_at p ps ≡ Some w → is_number_in p (keys ps) ≡ true) → (e.0 == p || is_number_in p (keys ps)) ≡ true
    go true is h later = let same : p ≡ e.0 = same-true p e.0 is in
        let here : (e.0 == p) ≡ true = grind (arith, nat_tests, same) in rw here refl
    go false is h later = or-more (e.0 == p) (is_number_in p (keys ps)) (later h)

above : (n p : ℕ) (ks : List ℕ) → Ascend n ks → is_number_in p ks ≡ true → n < p
above n p [] h among = absurd (let bad : false ≡ true = among in cc bad)
above n p (k ∷ ks) h among = go (k == p) refl among (above k p ks h.1)
  where
    go : (b : Bool) → (k == p) ≡ b → (b || is_number_in p ks) ≡ true → (is_number_in p ks ≡ true → k < p) → n < p
    go true is m later = let same : k ≡ p = eqb-true k p is in let first_one : n < k = h.0 in omega (arith, same, first_one)
    go false is m later = let next : k < p = later m in let first_one : n < k = h.0 in omega (arith, next, first_one)

-- the first entry of no lesser number is that of the number itself
pub found : {X : Type 0} (n p i : ℕ) (es : List (ℕ × X)) → Ascend n (keys es) → is_number_in p (keys es) ≡ true
    → ((k : ℕ) (d : ℕ × X) → k < i → (get_or es k d).0 < p) → ((d : ℕ × X) → i < length es → p ≤ (get_or es i d).0)
    → (i < length es) × ((d : ℕ × X) → (get_or es i d).0 ≡ p)
found {X} n p i [] h among before behind = absurd (let bad : false ≡ true = among in cc bad)
found {X} n p zero (e ∷ es) h among before behind = go (e.0 == p) refl among
  where
    go : (b : Bool) → (e.0 == p) ≡ b → (b || is_number_in p (keys es)) ≡ true
        → (0 < suc (length es)) × ((d : ℕ × X) → e.0 ≡ p)
    go true is m = (omega arith, λ d. eqb-true e.0 p is)
    go false is m = absurd (let less : e.0 < p = above e.0 p (keys es) h.1 m in let most : p ≤ e.0 = behind e (omega arith) in
        omega (arith, less, most))
found {X} n p (suc i) (e ∷ es) h among before behind = go (e.0 == p) refl among
    (λ m. found e.0 p i es h.1 m (λ k d less. before (suc k) d (omega (arith, less))) (λ d less. behind d (omega (arith, less))))
  where
    go : (b : Bool) → (e.0 == p) ≡ b → (b || is_number_in p (keys es)) ≡ true
        → (is_number_in p (keys es) ≡ true → (i < length es) × ((d : ℕ × X) → (get_or es i d).0 ≡ p))
        → (suc i < suc (length es)) × ((d : ℕ × X) → (get_or es i d).0 ≡ p)
    go true is m later = absurd (let same : e.0 ≡ p = eqb-true e.0 p is in let less : e.0 < p = before 0 e (omega arith) in
        omega (arith, same, less))
    go false is m later = let r = later m in (let less : i < length es = r.0 in omega (arith, less), r.1)

-- one of the entries has the number where it is among theirs
pub any-key : {X : Type 0} (p : ℕ) (es : List (ℕ × X)) → list_any (λ e. e.0 == p) es ≡ is_number_in p (keys es)
any-key p [] = refl
any-key p (e ∷ es) = ap (λ b. e.0 == p || b) (any-key p es)

-- a task that is written in place of another
pub set-keys : {X : Type 0} (i : ℕ) (k : ℕ) (x : X) (es : List (ℕ × X)) → (i < length es → (d : ℕ × X) → (get_or es i d).0 ≡ k)
    → keys (slice_set es i (k, x)) ≡ keys es
set-keys i k x [] same = refl
set-keys zero k x (e ∷ es) same = ap (λ n. n ∷ keys es) (sym (same (omega arith) e))
set-keys (suc i) k x (e ∷ es) same =
    ap (λ l. e.0 ∷ l) (set-keys i k x es (λ less d. same (omega (arith, less)) d))

-- ---- each process has a task

pub each-keys : {X Y : Type 0} (f : X → Y) (es : List (ℕ × X)) → keys (each_value f es) ≡ keys es
each-keys f [] = refl
each-keys f (e ∷ es) = ap (λ l. e.0 ∷ l) (each-keys f es)

-- the tasks of the others are left
pub removed-keys : {X Y : Type 0} (f : X → Y) (test : ℕ → Bool) (new old : List (ℕ × X))
    → each_value f new ≡ where_key nat_cmp test (each_value f old) → keys new ≡ filter test (keys old)
removed-keys f test new old removed =
    sym (each-keys f new) ∙ ap keys removed ∙ keys-where test (each_value f old) ∙ ap (filter test) (each-keys f old)

pub ended-keys : (p : ℕ) (crew : Crew) → keys (ended p crew).processes ≡ filter (λ k. not (k == p)) (keys crew.processes)
ended-keys p crew =
    keys-where (λ k. not (k == p)) (leave_held p (length crew.monitors) crew).processes
    ∙ ap (filter (λ k. not (k == p))) (leave-held-keeps p (length crew.monitors) crew)

-- one more task, and one more process
pub added-keys : {X Y Z : Type 0} (f : X → Y) (p : ℕ) (y : Y) (z : Z) (new old : List (ℕ × X)) (ps : List (ℕ × Z))
    → each_value f new ≡ put_at nat_cmp p y (each_value f old) → keys old ≡ keys ps → keys new ≡ keys (put_at nat_cmp p z ps)
added-keys f p y z new old ps added same =
    sym (each-keys f new) ∙ ap keys added ∙ put-both p y z (each_value f old) ps (each-keys f old ∙ same)

pub few-start : (crew : Crew) (queued : List Invocation) → is_some (startable crew queued) ≡ true → length crew.processes < 16
few-start crew queued some = go (nat_lt (length crew.processes) 16) refl some
  where
    go : (b : Bool) → nat_lt (length crew.processes) 16 ≡ b → is_some (cond b (find (may_start crew) queued) None) ≡ true
        → length crew.processes < 16
    go true is s = grind (arith, nat_tests, is)
    go false is s = absurd (let bad : false ≡ true = s in cc bad)

-- an invocation that may start has its process
pub started-keys : (a : Coordination) (x : Process) → is_some (startable a.crew a.queued) ≡ true
    → keys (with_item (startable a.crew a.queued) (λ i. started_in i a) a).crew.processes
    ≡ keys (put_at nat_cmp (least_free a.crew) x a.crew.processes)
started-keys a x some = go (startable a.crew a.queued) some
  where
    go : (o : Option Invocation) → is_some o ≡ true
        → keys (with_item o (λ i. started_in i a) a).crew.processes ≡ keys (put_at nat_cmp (least_free a.crew) x a.crew.processes)
    go None s = absurd (let bad : false ≡ true = s in cc bad)
    go (Some i) s = put-both (least_free a.crew) (record { serves = Some i; waits = nothing }) x a.crew.processes a.crew.processes refl
