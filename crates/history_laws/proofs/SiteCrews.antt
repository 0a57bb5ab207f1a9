-- What changes of a crew leave: the calls that run, those who wait for what is outside, and the order of its queues.
use Rattle.std.proofs.Common.{◌≡◌, ◌==◌, ◌+◌, ◌-◌, ◌≤◌, ◌<◌, ℕ, zero, suc, Bool, true, false, cond, not, List, [], ◌∷◌, map, Option}
use Rattle.std.proofs.Common.{None, Some, length, refl, sym, ◌∙◌, ap, subst, arith}
use Rattle.std.specs.Prelude.{slice_get}
use Rattle.std.proofs.lemmas.Bool.{eq-eqb}
use Rattle.std.specs.List.{filter_map, cons_option}
use Rattle.std.specs.Option.{option_map}
use Rattle.std.specs.declared.cmp.Ordering.{Ordering}
use Rattle.std.specs.declared.cmp.Ordering.TheVariants.{Less, Equal, Greater}
use Rattle.std.specs.Ordering.{nat_cmp, eq_by_cmp}
use Rattle.std.specs.FinMap.Entries.{by_order}
use Rattle.eden_model.specs.Map.{with_item, first, rest, value_at, put_at, where_key}
use Rattle.eden_model.proofs.Numbers.{same-true, same-self}
use Rattle.eden_model.specs.Crew.{Crew, Process, Monitor, Invocation, Waiting, nothing, outside, entry, condition, waits_at, Waits, Runs}
use Rattle.eden_model.specs.Crew.{with_waits, set_waits, set_waits_of, set_monitor, left_free, left, is_held_by, leave_held, ended}
use Rattle.eden_model.specs.Crew.{started, least_free, call_of, running}
use Rattle.eden_model.specs.Lines.{AreLines, IsLine, IsOut}
use Rattle.eden_model.proofs.LineLaws.{set-other, line-apart}
use Rattle.eden_model.proofs.CrewLaws.{left-lines, left-conditions, leave_held-lines}
use Rattle.eden_model.proofs.FreeNumbers.{processes-changed, put-other, gone-other, started-lines, ended-lines}
use Rattle.journal.specs.Sites.{IsLaid}
use Rattle.history_laws.proofs.Fits.{times}

-- 1. The calls that run

runs-with_waits : (p : ℕ) (w : Waiting) (es : List (ℕ × Process)) → filter_map call_of (map (with_waits p w) es) ≡ filter_map call_of es
runs-with_waits p w [] = refl
runs-with_waits p w (e ∷ es) = go (e.0 == p) (runs-with_waits p w es)
  where
    go : (b : Bool) → filter_map call_of (map (with_waits p w) es) ≡ filter_map call_of es
        → cons_option (call_of (e.0, cond b (record e.1 { waits = w }) e.1)) (filter_map call_of (map (with_waits p w) es))
        ≡ cons_option (call_of e) (filter_map call_of es)
    go true ih = ap (cons_option (call_of e)) ih
    go false ih = ap (cons_option (call_of e)) ih

pub runs-set : (p : ℕ) (w : Waiting) (crew : Crew) → running (set_waits p w crew) ≡ running crew
runs-set p w crew = runs-with_waits p w crew.processes

-- what does not tell who waits is the same after a monitor is left
pub by-left : {X : Type 0} (g : List (ℕ × Process) → X) → ((p : ℕ) (w : Waiting) (es : List (ℕ × Process))
    → g (map (with_waits p w) es) ≡ g es) → (m : ℕ) (crew : Crew) → g (left m crew).processes ≡ g crew.processes
by-left {X = X} g same m crew = go (slice_get crew.monitors (m - 1))
  where
    inner : (it : Monitor) (o : Option ℕ) → g (set_waits_of o nothing (set_monitor m it crew)).processes ≡ g crew.processes
    inner it None = refl
    inner it (Some q) = same q nothing crew.processes

    go : (o : Option Monitor) → g (with_item o (λ it. left_free m it crew) crew).processes ≡ g crew.processes
    go None = refl
    go (Some it) = inner (record { holder = first it.entering; entering = rest it.entering }) (first it.entering)

pub by-held : {X : Type 0} (g : List (ℕ × Process) → X) → ((p : ℕ) (w : Waiting) (es : List (ℕ × Process))
    → g (map (with_waits p w) es) ≡ g es) → (p n : ℕ) (crew : Crew) → g (leave_held p n crew).processes ≡ g crew.processes
by-held g same p zero crew = refl
by-held g same p (suc n) crew = go (slice_get crew.monitors n) (by-held g same p n crew)
  where
    one : (b : Bool) → g (leave_held p n crew).processes ≡ g crew.processes
        → g (cond b (left (n + 1) (leave_held p n crew)) (leave_held p n crew)).processes ≡ g crew.processes
    one true ih = by-left g same (n + 1) (leave_held p n crew) ∙ ih
    one false ih = ih

    go : (o : Option Monitor) → g (leave_held p n crew).processes ≡ g crew.processes
        → g (with_item o (λ it. cond (is_held_by p it.holder) (left (n + 1) (leave_held p n crew)) (leave_held p n crew))
        (leave_held p n crew)).processes ≡ g crew.processes
    go None ih = ih
    go (Some it) ih = one (is_held_by p it.holder) ih

pub runs-left : (m : ℕ) (crew : Crew) → running (left m crew) ≡ running crew
runs-left m crew = by-left (filter_map call_of) runs-with_waits m crew

pub runs-held : (p n : ℕ) (crew : Crew) → running (leave_held p n crew) ≡ running crew
runs-held p n crew = by-held (filter_map call_of) runs-with_waits p n crew

times-option : (k : ℕ) (o : Option ℕ) (xs ys : List ℕ) → times k xs ≤ times k ys → times k (cons_option o xs) ≤ times k (cons_option o ys)
times-option k None xs ys h = h
times-option k (Some x) xs ys h = go (eq_by_cmp nat_cmp k x)
  where
    go : (b : Bool) → cond b (times k xs + 1) (times k xs) ≤ cond b (times k ys + 1) (times k ys)
    go true = omega (arith, h)
    go false = h

times-less : (k : ℕ) (o : Option ℕ) (xs ys : List ℕ) → times k xs ≤ times k ys → times k xs ≤ times k (cons_option o ys)
times-less k None xs ys h = h
times-less k (Some x) xs ys h = go (eq_by_cmp nat_cmp k x)
  where
    go : (b : Bool) → times k xs ≤ cond b (times k ys + 1) (times k ys)
    go true = omega (arith, h)
    go false = h

times-where : (k : ℕ) (test : ℕ → Bool) (es : List (ℕ × Process))
    → times k (filter_map call_of (where_key nat_cmp test es)) ≤ times k (filter_map call_of es)
times-where k test [] = omega arith
times-where k test (e ∷ es) = go (test e.0) (times-where k test es)
  where
    go : (b : Bool) → times k (filter_map call_of (where_key nat_cmp test es)) ≤ times k (filter_map call_of es)
        → times k (filter_map call_of (cond b (e ∷ where_key nat_cmp test es) (where_key nat_cmp test es)))
        ≤ times k (cons_option (call_of e) (filter_map call_of es))
    go true ih = times-option k (call_of e) _ _ ih
    go false ih = times-less k (call_of e) _ _ ih

pub runs-ended : (k p : ℕ) (crew : Crew) → times k (running (ended p crew)) ≤ times k (running crew)
runs-ended k p crew = subst (λ ks. times k (running (ended p crew)) ≤ times k ks) (runs-held p (length crew.monitors) crew)
    (times-where k (λ j. not (j == p)) (leave_held p (length crew.monitors) crew).processes)

-- the process with this number serves this
abbrev pub serves_at : ℕ → List (ℕ × Process) → Option Invocation
serves_at p es = with_item (value_at nat_cmp p es) (λ q. q.serves) None

pub serves-with_waits : (p q : ℕ) (w : Waiting) (es : List (ℕ × Process)) → serves_at p (map (with_waits q w) es) ≡ serves_at p es
serves-with_waits p q w [] = refl
serves-with_waits p q w (e ∷ es) = go (eq_by_cmp nat_cmp p e.0) (e.0 == q) (serves-with_waits p q w es)
  where
    go : (a b : Bool) → serves_at p (map (with_waits q w) es) ≡ serves_at p es
        → with_item (cond a (Some (cond b (record e.1 { waits = w }) e.1)) (value_at nat_cmp p (map (with_waits q w) es))) (λ x. x.serves)
        None ≡ with_item (cond a (Some e.1) (value_at nat_cmp p es)) (λ x. x.serves) None
    go true true ih = refl
    go true false ih = refl
    go false b ih = ih

-- a process that ends takes its call along
times-served : (p : ℕ) (i : Invocation) (es : List (ℕ × Process)) → serves_at p es ≡ Some i
    → times i.call (filter_map call_of (where_key nat_cmp (λ j. not (j == p)) es)) + 1 ≤ times i.call (filter_map call_of es)
times-served p i [] is = absurd (cc is)
times-served p i (e ∷ es) is = go (eq_by_cmp nat_cmp p e.0) refl is (times-served p i es) (times-where i.call (λ j. not (j == p)) es)
  where
    rest_of : List ℕ
    rest_of = filter_map call_of (where_key nat_cmp (λ j. not (j == p)) es)

    gone : (c : Bool) → (e.0 == p) ≡ c → c ≡ true → (o : Option Invocation) → o ≡ Some i
        → times i.call rest_of ≤ times i.call (filter_map call_of es)
        → times i.call (filter_map call_of (cond (not c) (e ∷ where_key nat_cmp (λ j. not (j == p)) es)
        (where_key nat_cmp (λ j. not (j == p)) es))) + 1 ≤ times i.call
        (cons_option (with_item o (λ x. Some x.call) None) (filter_map call_of es))
    gone false at bad o serves less = absurd (cc bad)
    gone true at same None serves less = absurd (cc serves)
    gone true at same (Some x) serves less = let equal : x ≡ i = cc serves in rw (equal, same-self i.call) (omega (arith, less))

    kept : (c : Bool) → times i.call rest_of + 1 ≤ times i.call (filter_map call_of es)
        → times i.call rest_of ≤ times i.call (filter_map call_of es)
        → times i.call (filter_map call_of (cond (not c) (e ∷ where_key nat_cmp (λ j. not (j == p)) es)
        (where_key nat_cmp (λ j. not (j == p)) es))) + 1 ≤ times i.call (cons_option (call_of e) (filter_map call_of es))
    kept true more less = omega (arith, more, times-less i.call (call_of e) (filter_map call_of es) (filter_map call_of es) (omega arith))
    kept false more less = one (call_of e)
      where
        one : (o : Option ℕ) → times i.call (cons_option o rest_of) + 1 ≤ times i.call (cons_option o (filter_map call_of es))
        one None = more
        one (Some x) = two (eq_by_cmp nat_cmp i.call x)
          where
            two : (b : Bool) → cond b (times i.call rest_of + 1) (times i.call rest_of) + 1
                ≤ cond b (times i.call (filter_map call_of es) + 1) (times i.call (filter_map call_of es))
            two true = omega (arith, more)
            two false = more

    go : (b : Bool) → eq_by_cmp nat_cmp p e.0 ≡ b → with_item (cond b (Some e.1) (value_at nat_cmp p es)) (λ x. x.serves) None ≡ Some i
        → (serves_at p es ≡ Some i → times i.call rest_of + 1 ≤ times i.call (filter_map call_of es))
        → times i.call rest_of ≤ times i.call (filter_map call_of es)
        → times i.call (filter_map call_of (cond (not (e.0 == p)) (e ∷ where_key nat_cmp (λ j. not (j == p)) es)
        (where_key nat_cmp (λ j. not (j == p)) es))) + 1 ≤ times i.call (cons_option (call_of e) (filter_map call_of es))
    go true at serves later less = gone (e.0 == p) refl (eq-eqb e.0 p (sym (same-true p e.0 at))) e.1.serves serves less
    go false at serves later less = kept (e.0 == p) (later serves) less

pub runs-served : (p : ℕ) (i : Invocation) (crew : Crew) → serves_at p crew.processes ≡ Some i
    → times i.call (running (ended p crew)) + 1 ≤ times i.call (running crew)
runs-served p i crew is = subst (λ ks. times i.call (running (ended p crew)) + 1 ≤ times i.call ks)
    (runs-held p (length crew.monitors) crew)
    (times-served p i (leave_held p (length crew.monitors) crew).processes
    (by-held (serves_at p) (serves-with_waits p) p (length crew.monitors) crew ∙ is))

-- one more process runs one more call at most
times-first : (k : ℕ) (x : ℕ) (o : Option ℕ) (xs ys : List ℕ) → times k xs ≤ times k (x ∷ ys)
    → times k (cons_option o xs) ≤ times k (x ∷ cons_option o ys)
times-first k x None xs ys h = h
times-first k x (Some y) xs ys h = go (eq_by_cmp nat_cmp k x) (eq_by_cmp nat_cmp k y) h
  where
    go : (a b : Bool) → times k xs ≤ cond a (times k ys + 1) (times k ys)
        → cond b (times k xs + 1) (times k xs) ≤ cond a (cond b (times k ys + 1) (times k ys) + 1) (cond b (times k ys + 1) (times k ys))
    go true true h = omega (arith, h)
    go true false h = h
    go false true h = omega (arith, h)
    go false false h = h

times-put : (k p : ℕ) (i : Invocation) (w : Waiting) (es : List (ℕ × Process))
    → times k (filter_map call_of (put_at nat_cmp p (record { serves = Some i; waits = w }) es)) ≤ times k (i.call ∷ filter_map call_of es)
times-put k p i w [] = omega arith
times-put k p i w (e ∷ es) = go (nat_cmp p e.0) (times-put k p i w es)
  where
    over : (b : Bool) (n m : ℕ) → n ≤ m → cond b (n + 1) n ≤ cond b (m + 1) m
    over true n m h = omega (arith, h)
    over false n m h = h

    go : (o : Ordering) → times k (filter_map call_of (put_at nat_cmp p (record { serves = Some i; waits = w }) es))
        ≤ times k (i.call ∷ filter_map call_of es)
        → times k (filter_map call_of (by_order o ((p, record { serves = Some i; waits = w }) ∷ e ∷ es)
        ((e.0, record { serves = Some i; waits = w }) ∷ es) (e ∷ put_at nat_cmp p (record { serves = Some i; waits = w }) es)))
        ≤ times k (i.call ∷ cons_option (call_of e) (filter_map call_of es))
    go Less ih = omega arith
    go Equal ih = over (eq_by_cmp nat_cmp k i.call) (times k (filter_map call_of es)) _
        (times-less k (call_of e) (filter_map call_of es) (filter_map call_of es) (omega arith))
    go Greater ih = times-first k i.call (call_of e) _ _ ih

pub runs-started : (k : ℕ) (i : Invocation) (crew : Crew) → times k (running (started i crew)) ≤ times k (i.call ∷ running crew)
runs-started k i crew = times-put k (least_free crew) i nothing crew.processes

-- 2. The queues

-- the process stands in no queue
pub data Loose (crew : Crew) (p : ℕ) : Type 0 where
  waits_outside : Waits crew p outside → Loose crew p
  waits_not : Runs crew p → Loose crew p

pub out-loose : (crew : Crew) → AreLines crew → (p : ℕ) → Loose crew p → IsOut crew p
out-loose crew lines p (waits_outside w) = record {
  entering = λ i it at. line-apart crew.processes p outside (entry (i + 1)) it.entering (lines.entering i it at) w (λ same.
      absurd (cc same));
  waiting = λ i it at. line-apart crew.processes p outside (condition i) it.waiters (lines.waiting i it at) w (λ same. absurd (cc same));
}
out-loose crew lines p (waits_not w) = record {
  entering = λ i it at. line-apart crew.processes p nothing (entry (i + 1)) it.entering (lines.entering i it at) w (λ same.
      absurd (cc same));
  waiting = λ i it at. line-apart crew.processes p nothing (condition i) it.waiters (lines.waiting i it at) w (λ same. absurd (cc same));
}

pub laid-set : (p : ℕ) (w : Waiting) (crew : Crew) → Loose crew p → IsLaid crew → IsLaid (set_waits p w crew)
laid-set p w crew loose h = record {
  lines = processes-changed crew h.lines p (out-loose crew h.lines p loose) (map (with_waits p w) crew.processes) (λ q v other is.
      set-other p q w crew.processes other ∙ is);
  monitors = h.monitors;
}

pub laid-left : (m : ℕ) (crew : Crew) → IsLaid crew → IsLaid (left m crew)
laid-left m crew h = record {
  lines = left-lines crew h.lines m;
  monitors =
      λ i it at. h.monitors i it (ap (λ cs. slice_get cs i) (sym (left-conditions crew m)) ∙ at);
}

conditions-held : (p n : ℕ) (crew : Crew) → (leave_held p n crew).conditions ≡ crew.conditions
conditions-held p zero crew = refl
conditions-held p (suc n) crew = go (slice_get crew.monitors n) (conditions-held p n crew)
  where
    one : (b : Bool) → (leave_held p n crew).conditions ≡ crew.conditions
        → (cond b (left (n + 1) (leave_held p n crew)) (leave_held p n crew)).conditions ≡ crew.conditions
    one true ih = left-conditions (leave_held p n crew) (n + 1) ∙ ih
    one false ih = ih

    go : (o : Option Monitor) → (leave_held p n crew).conditions ≡ crew.conditions
        → (with_item o (λ it. cond (is_held_by p it.holder) (left (n + 1) (leave_held p n crew)) (leave_held p n crew))
        (leave_held p n crew)).conditions ≡ crew.conditions
    go None ih = ih
    go (Some it) ih = one (is_held_by p it.holder) ih

pub laid-ended : (p : ℕ) (crew : Crew) → Runs crew p → IsLaid crew → IsLaid (ended p crew)
laid-ended p crew runs h = record {
  lines = ended-lines crew h.lines p runs;
  monitors =
      λ i it at. h.monitors i it (ap (λ cs. slice_get cs i) (sym (conditions-held p (length crew.monitors) crew)) ∙ at);
}

pub laid-started : (i : Invocation) (crew : Crew) → length crew.processes < 16 → IsLaid crew → IsLaid (started i crew)
laid-started i crew few h = record { lines = started-lines crew h.lines i few; monitors = h.monitors }

-- 3. Who waits for what is outside

pub waits-left : (m q : ℕ) (crew : Crew) → AreLines crew → Waits crew q outside → Waits (left m crew) q outside
waits-left m q crew lines w = go (slice_get crew.monitors (m - 1)) refl
  where
    apart : (x : ℕ) (i : ℕ) → Waits crew x (entry i) → (b : Bool) → eq_by_cmp nat_cmp q x ≡ b → b ≡ false
    apart x i is true same = absurd (let bad : Some outside ≡ Some (entry i) =
        sym w ∙ ap (λ y. waits_at y crew.processes) (same-true q x same) ∙ is in cc bad)
    apart x i is false same = refl

    inner : (it : Monitor) (xs : List ℕ) → IsLine crew.processes (entry (m - 1 + 1)) xs
        → Waits (set_waits_of (first xs) nothing (set_monitor m it crew)) q outside
    inner it [] line = w
    inner it (x ∷ xs) line = set-other x q nothing crew.processes (apart x (m - 1 + 1) line.wait.0 (eq_by_cmp nat_cmp q x) refl) ∙ w

    go : (o : Option Monitor) → slice_get crew.monitors (m - 1) ≡ o → Waits (with_item o (λ it. left_free m it crew) crew) q outside
    go None at = w
    go (Some it) at = inner (record { holder = first it.entering; entering = rest it.entering }) it.entering (lines.entering (m - 1) it at)

waits-held : (p q n : ℕ) (crew : Crew) → AreLines crew → Runs crew p → Waits crew q outside → Waits (leave_held p n crew) q outside
waits-held p q zero crew lines runs w = w
waits-held p q (suc n) crew lines runs w = go (slice_get crew.monitors n) (waits-held p q n crew lines runs w)
  where
    one : (b : Bool) → Waits (leave_held p n crew) q outside → Waits (cond b (left (n + 1) (leave_held p n crew)) (leave_held p n crew)) q
        outside
    one true ih = waits-left (n + 1) q (leave_held p n crew) (leave_held-lines crew n p lines runs).0 ih
    one false ih = ih

    go : (o : Option Monitor) → Waits (leave_held p n crew) q outside
        → Waits (with_item o (λ it. cond (is_held_by p it.holder) (left (n + 1) (leave_held p n crew)) (leave_held p n crew))
        (leave_held p n crew)) q outside
    go None ih = ih
    go (Some it) ih = one (is_held_by p it.holder) ih

pub apart-runs : (p q : ℕ) (crew : Crew) → Runs crew p → Waits crew q outside → eq_by_cmp nat_cmp q p ≡ false
apart-runs p q crew runs w = go (eq_by_cmp nat_cmp q p) refl
  where
    go : (b : Bool) → eq_by_cmp nat_cmp q p ≡ b → b ≡ false
    go true same = absurd (let bad : Some outside ≡ Some nothing =
        sym w ∙ ap (λ y. waits_at y crew.processes) (same-true q p same) ∙ runs in cc bad)
    go false same = refl

pub waits-ended : (p q : ℕ) (crew : Crew) → AreLines crew → Runs crew p → Waits crew q outside → Waits (ended p crew) q outside
waits-ended p q crew lines runs w = gone-other p q (leave_held p (length crew.monitors) crew).processes (apart-runs p q crew runs w)
    ∙ waits-held p q (length crew.monitors) crew lines runs w

pub waits-put : (p q : ℕ) (x : Process) (crew : Crew) → value_at nat_cmp p crew.processes ≡ None → Waits crew q outside
    → waits_at q (put_at nat_cmp p x crew.processes) ≡ Some outside
waits-put p q x crew free w = put-other p q x crew.processes (go (eq_by_cmp nat_cmp q p) refl) ∙ w
  where
    go : (b : Bool) → eq_by_cmp nat_cmp q p ≡ b → b ≡ false
    go true same = absurd (let bad : Some outside ≡ None = sym w ∙ ap (λ y. waits_at y crew.processes) (same-true q p same)
        ∙ ap (option_map (λ (it : Process). it.waits)) free in cc bad)
    go false same = refl
