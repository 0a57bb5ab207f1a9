-- Where the processes of a crew are, around each of its changes.
use Rattle.std.proofs.Common.{◌≡◌, ◌+◌, ◌-◌, ◌≤◌, ◌<◌, ℕ, zero, suc, Bool, true, false, cond, not, List, [], ◌∷◌, ◌++◌, length, Option}
use Rattle.std.proofs.Common.{None, Some, is_some, refl, sym, ◌∙◌, ap, subst, arith, inl, inr}
use Rattle.std.specs.Prelude.{◌⊎◌, slice_get}
use Rattle.std.specs.Option.{option_map}
use Rattle.std.specs.Ordering.{nat_cmp, eq_by_cmp}
use Rattle.std.specs.Cmp.{nat_cmp_total}
use Rattle.std.specs.FinMap.Entries.{find-put}
use Rattle.std.proofs.lemmas.Bool.{eq-eqb, eqb-true}
use Rattle.eden_model.specs.Map.{with_item, first, rest, value_at}
use Rattle.eden_model.proofs.Numbers.{same-true, same-self}
use Rattle.eden_model.proofs.LineLaws.{set-same, set-other}
use Rattle.eden_model.proofs.FreeNumbers.{gone-other, put-other}
use Rattle.eden_model.proofs.CrewLaws.{get-set_same, get-set_other, left-runs, left-conditions}
use Rattle.eden_model.specs.Crew.{Waiting, nothing, entry, condition, Process, Monitor, Condition, Invocation, Crew, waits_at, Waits}
use Rattle.eden_model.specs.Crew.{Runs, set_waits, set_waits_of, set_monitor, set_condition, match_holder, locked_by, locked, left_free}
use Rattle.eden_model.specs.Crew.{left, waited, queued_at, signalled, is_held_by, leave_held, ended, started, least_free}
use Rattle.eden_model.specs.Lines.{AreLines, IsLine}
use Rattle.history_laws.proofs.Manned.{other-key}
use Rattle.history_laws.proofs.Seats.{IsOpen, IsOpenAt, Seated, OnlyAt, seated-opened, seated-locked, seated-queued, seated-left}
use Rattle.history_laws.proofs.Seats.{seated-started, seated-gone, seated-entered, seated-signalled}

abbrev pub waits_of : Crew → ℕ → Option Waiting
waits_of crew q = waits_at q crew.processes

abbrev pub holders_of : Crew → ℕ → Option (Option ℕ)
holders_of crew i = option_map (λ (m : Monitor). m.holder) (slice_get crew.monitors i)

abbrev pub monitors_of : Crew → ℕ → Option ℕ
monitors_of crew c = option_map (λ (it : Condition). it.monitor) (slice_get crew.conditions c)

-- each process of the crew is in its place, which has these monitors and conditions
pub record AreSeated (N : ℕ → Bool) (guards : ℕ → Option ℕ) (crew : Crew) (seat : ℕ → Option ℕ) : Type 0 where
  pub seated : Seated (waits_of crew) (holders_of crew) guards seat
  pub monitors : (i : ℕ) → is_some (holders_of crew i) ≡ N i
  pub conditions : (c : ℕ) → monitors_of crew c ≡ guards c

-- 1. Functions that agree

pub seated-like : (waiting waiting_after : ℕ → Option Waiting) (holding holding_after : ℕ → Option (Option ℕ)) (guards : ℕ → Option ℕ)
    (seat seat_after : ℕ → Option ℕ)
    → ((q : ℕ) → waiting_after q ≡ waiting q) → ((i : ℕ) → holding_after i ≡ holding i) → ((q : ℕ) → seat_after q ≡ seat q)
    → Seated waiting holding guards seat → Seated waiting_after holding_after guards seat_after
seated-like waiting waiting_after holding holding_after guards seat seat_after w h e s = record {
  held = λ i p at. let x = s.held i p (sym (h i) ∙ at) in (e p ∙ x.0, subst IsOpenAt (sym (w p)) x.1);
  holds = λ p m o at. let x = s.holds p m (subst IsOpenAt (w p) o) (sym (e p) ∙ at) in (x.0, h (m - 1) ∙ x.1);
  enters = λ p m at. e p ∙ s.enters p m (sym (w p) ∙ at);
  waits = λ p c at. e p ∙ s.waits p c (sym (w p) ∙ at);
}

pub areseated-like : (N : ℕ → Bool) (guards : ℕ → Option ℕ) (crew : Crew) (seat seat_after : ℕ → Option ℕ)
    → ((q : ℕ) → seat_after q ≡ seat q) → AreSeated N guards crew seat
    → AreSeated N guards crew seat_after
areseated-like N guards crew seat seat_after e h = record {
  seated = seated-like (waits_of crew) (waits_of crew) (holders_of crew) (holders_of crew) guards seat seat_after (λ q. refl)
      (λ i. refl) e h.seated;
  monitors = h.monitors;
  conditions = h.conditions;
}

only-set : (p : ℕ) (v : Waiting) (crew : Crew) → OnlyAt p (waits_of crew) (waits_of (set_waits p v crew))
only-set p v crew = record { others = λ q away. set-other p q v crew.processes away }

apart-numbers : (i j : ℕ) → eq_by_cmp nat_cmp i j ≡ false → i ≡ j → ⊥
apart-numbers i j away e = let bad : true ≡ false = sym (same-self i) ∙ ap (eq_by_cmp nat_cmp i) e ∙ away in cc bad

holder-same : (m : ℕ) (x was : Monitor) (crew : Crew) → slice_get crew.monitors (m - 1) ≡ Some was
    → holders_of (set_monitor m x crew) (m - 1) ≡ Some x.holder
holder-same m x was crew at = ap (option_map (λ (y : Monitor). y.holder)) (get-set_same crew.monitors (m - 1) x was at)

only-holder : (m : ℕ) (x : Monitor) (crew : Crew) → OnlyAt (m - 1) (holders_of crew) (holders_of (set_monitor m x crew))
only-holder m x crew = record {
  others = λ i away. ap (option_map (λ (y : Monitor). y.holder)) (get-set_other crew.monitors (m - 1) i x (apart-numbers i (m - 1) away));
}

some-holder : (m : ℕ) (x was : Monitor) (crew : Crew) → slice_get crew.monitors (m - 1) ≡ Some was → (i : ℕ)
    → is_some (holders_of (set_monitor m x crew) i) ≡ is_some (holders_of crew i)
some-holder m x was crew at i = go (eq_by_cmp nat_cmp i (m - 1)) refl
  where
    go : (b : Bool) → eq_by_cmp nat_cmp i (m - 1) ≡ b → is_some (holders_of (set_monitor m x crew) i) ≡ is_some (holders_of crew i)
    go true same = let here : i ≡ m - 1 = same-true i (m - 1) same in
        ap (λ k. is_some (holders_of (set_monitor m x crew) k)) here ∙ ap is_some (holder-same m x was crew at)
        ∙ sym (ap (λ k. is_some (holders_of crew k)) here ∙ ap (λ o. is_some (option_map (λ (y : Monitor). y.holder) o)) at)
    go false same = ap is_some ((only-holder m x crew).others i same)

-- a change of who wants to enter leaves who holds
holder-kept : (m : ℕ) (x was : Monitor) (crew : Crew) → slice_get crew.monitors (m - 1) ≡ Some was → x.holder ≡ was.holder → (i : ℕ)
    → holders_of (set_monitor m x crew) i ≡ holders_of crew i
holder-kept m x was crew at same_holder i = go (eq_by_cmp nat_cmp i (m - 1)) refl
  where
    go : (b : Bool) → eq_by_cmp nat_cmp i (m - 1) ≡ b → holders_of (set_monitor m x crew) i ≡ holders_of crew i
    go true same = let here : i ≡ m - 1 = same-true i (m - 1) same in
        ap (holders_of (set_monitor m x crew)) here ∙ holder-same m x was crew at ∙ ap Some same_holder
        ∙ sym (ap (holders_of crew) here ∙ ap (option_map (λ (y : Monitor). y.holder)) at)
    go false same = (only-holder m x crew).others i same

condition-kept : (c : ℕ) (x was : Condition) (crew : Crew) → slice_get crew.conditions c ≡ Some was → x.monitor ≡ was.monitor → (d : ℕ)
    → monitors_of (set_condition c x crew) d ≡ monitors_of crew d
condition-kept c x was crew at same_monitor d = go (eq_by_cmp nat_cmp d c) refl
  where
    go : (b : Bool) → eq_by_cmp nat_cmp d c ≡ b → monitors_of (set_condition c x crew) d ≡ monitors_of crew d
    go true same = let here : d ≡ c = same-true d c same in
        ap (monitors_of (set_condition c x crew)) here
        ∙ ap (option_map (λ (y : Condition). y.monitor)) (get-set_same crew.conditions c x was at)
        ∙ ap Some same_monitor ∙ sym (ap (monitors_of crew) here ∙ ap (option_map (λ (y : Condition). y.monitor)) at)
    go false same = ap (option_map (λ (y : Condition). y.monitor)) (get-set_other crew.conditions c d x (apart-numbers d c same))

-- a process is inside of none from now on
abbrev pub outside_of : ℕ → (ℕ → Option ℕ) → ℕ → Option ℕ
outside_of p seat q = cond (eq_by_cmp nat_cmp q p) None (seat q)

outside-now : (p : ℕ) (seat : ℕ → Option ℕ) → outside_of p seat p ≡ None
outside-now p seat = ap (λ b. cond b None (seat p)) (same-self p)

outside-others : (p : ℕ) (seat : ℕ → Option ℕ) → OnlyAt p seat (outside_of p seat)
outside-others p seat = record { others = λ q away. ap (λ b. cond b None (seat q)) away }

module _ (N : ℕ → Bool) (guards : ℕ → Option ℕ) where
  -- 2. A process waits for what is outside, or goes on

  pub in-set : (p : ℕ) (v w0 : Waiting) (crew : Crew) (seat : ℕ → Option ℕ) → Waits crew p w0 → IsOpen w0 → IsOpen v
      → AreSeated N guards crew seat
      → AreSeated N guards (set_waits p v crew) seat
  in-set p v w0 crew seat was before after h = record {
    seated =
        seated-opened (waits_of crew) (waits_of (set_waits p v crew)) (holders_of crew) (holders_of crew) guards seat seat p h.seated
        (only-set p v crew)
        (subst IsOpenAt (sym was) before) (subst IsOpenAt (sym (set-same p w0 v crew.processes was)) after);
    monitors = h.monitors;
    conditions = h.conditions;
  }

  -- 3. Monitors

  pub in-locked : (p m : ℕ) (crew : Crew) (seat seat_after : ℕ → Option ℕ) → Runs crew p → 1 ≤ m → N (m - 1) ≡ true → seat p ≡ None
      → seat_after p ≡ Some m
      → OnlyAt p seat seat_after → AreSeated N guards crew seat → AreSeated N guards (locked p m crew) seat_after
  in-locked p m crew seat seat_after runs from known none now others h = go (slice_get crew.monitors (m - 1)) refl
    where
      one : (it : Monitor) → slice_get crew.monitors (m - 1) ≡ Some it → (o : Option ℕ) → it.holder ≡ o
          → AreSeated N guards (match_holder o (set_monitor m (record it { holder = Some p }) crew)
          (set_waits p (entry m) (set_monitor m (record it { entering = it.entering ++ p ∷ [] }) crew))) seat_after
      one it at None holder = let x : Monitor = record it { holder = Some p } in record {
        seated =
            seated-locked (waits_of crew) (waits_of crew) (holders_of crew)
            (holders_of (set_monitor m x crew)) guards seat seat_after p m h.seated from
            (subst IsOpenAt (sym runs) tt) none now others (ap (option_map (λ (y : Monitor). y.holder)) at ∙ ap Some holder)
            (holder-same m x it crew at) (only-holder m x crew);
        monitors = λ i. some-holder m x it crew at i ∙ h.monitors i;
        conditions = h.conditions;
      }
      one it at (Some k) holder =
          let x : Monitor = record it { entering = it.entering ++ p ∷ [] } in
          let mid : Crew = set_monitor m x crew in record {
            seated = seated-queued (waits_of crew) (waits_of (set_waits p (entry m) mid)) (holders_of mid)
                (holders_of mid) guards seat seat_after p (entry m)
                (seated-like (waits_of crew) (waits_of crew) (holders_of crew) (holders_of mid) guards seat seat (λ q. refl)
                (holder-kept m x it crew at refl)
                (λ q. refl) h.seated)
                (λ x. x) none (subst IsOpenAt (sym runs) tt) (set-same p nothing (entry m) crew.processes runs)
                (record { others = λ q away. set-other p q (entry m) crew.processes away }) others
                (λ n e. now ∙ ap Some (let same : m ≡ n = cc e in same)) (λ c e. absurd (cc e));
            monitors = λ i. some-holder m x it crew at i ∙ h.monitors i;
            conditions = h.conditions;
          }

      go : (o : Option Monitor) → slice_get crew.monitors (m - 1) ≡ o
          → AreSeated N guards (with_item o (λ it. locked_by p m it crew) crew) seat_after
      go None at = absurd (let bad : false ≡ true =
          sym (ap (λ o. is_some (option_map (λ (y : Monitor). y.holder) o)) at) ∙ h.monitors (m - 1) ∙ known in cc bad)
      go (Some it) at = one it at it.holder refl

  pub in-left : (p m : ℕ) (crew : Crew) (seat seat_after : ℕ → Option ℕ) → AreLines crew → 1 ≤ m → holders_of crew (m - 1) ≡ Some (Some p)
      → seat_after p ≡ None → OnlyAt p seat seat_after → AreSeated N guards crew seat → AreSeated N guards (left m crew) seat_after
  in-left p m crew seat seat_after lines from holder none others h = go (slice_get crew.monitors (m - 1)) refl
    where
      free : Monitor
      free = record { holder = None; entering = [] }

      seated-free : (it : Monitor) → slice_get crew.monitors (m - 1) ≡ Some it
          → Seated (waits_of crew) (holders_of (set_monitor m free crew)) guards seat_after
      seated-free it at =
          seated-left (waits_of crew) (waits_of crew) (holders_of crew)
          (holders_of (set_monitor m free crew)) guards seat seat_after p m h.seated
          from holder (holder-same m free it crew at) (only-holder m free crew) none others

      inner : (it : Monitor) → slice_get crew.monitors (m - 1) ≡ Some it → (ns : List ℕ) → it.entering ≡ ns
          → AreSeated N guards (set_waits_of (first ns) nothing (set_monitor m (record { holder = first ns; entering = rest ns }) crew))
          seat_after
      inner it at [] queue = record {
        seated = seated-free it at;
        monitors = λ i. some-holder m free it crew at i ∙ h.monitors i;
        conditions = h.conditions;
      }
      inner it at (q ∷ ns) queue =
          let x : Monitor = record { holder = Some q; entering = ns } in
          let line : IsLine crew.processes (entry (m - 1 + 1)) (q ∷ ns) =
          subst (IsLine crew.processes (entry (m - 1 + 1))) queue (lines.entering (m - 1) it at) in
          let number : m - 1 + 1 ≡ m = omega (arith, from) in
          let was : Waits crew q (entry m) = line.wait.0 ∙ ap (λ n. Some (entry n)) number in record {
            seated = seated-entered (waits_of crew) (waits_of (set_waits q nothing crew)) (holders_of (set_monitor m free crew))
                (holders_of (set_monitor m x crew)) guards seat_after q m (seated-free it at) from was
                (subst IsOpenAt (sym (set-same q (entry m) nothing crew.processes was)) tt) (only-set q nothing crew)
                (holder-same m free it crew at) (holder-same m x it crew at)
                (record { others = λ i away. (only-holder m x crew).others i away ∙ sym ((only-holder m free crew).others i away) });
            monitors = λ i. some-holder m x it crew at i ∙ h.monitors i;
            conditions = h.conditions;
          }

      go : (o : Option Monitor) → slice_get crew.monitors (m - 1) ≡ o
          → AreSeated N guards (with_item o (λ it. left_free m it crew) crew) seat_after
      go None at = absurd (let bad : None ≡ Some (Some p) = sym (ap (option_map (λ (y : Monitor). y.holder)) at) ∙ holder in cc bad)
      go (Some it) at = inner it at it.entering refl

  -- 4. Conditions

  pub in-waited : (p c m : ℕ) (crew : Crew) (seat : ℕ → Option ℕ) → AreLines crew → Runs crew p → seat p ≡ Some m → guards c ≡ Some m
      → AreSeated N guards crew seat → AreSeated N guards (waited p c crew) seat
  in-waited p c m crew seat lines runs inside of_c h = go (slice_get crew.conditions c) refl
    where
      inner : (it : Condition) → slice_get crew.conditions c ≡ Some it → it.monitor ≡ m
          → AreSeated N guards (set_waits p (condition c)
          (set_condition c (record it { waiters = it.waiters ++ p ∷ [] }) (left it.monitor crew))) seat
      inner it at number =
          let x : Condition = record it { waiters = it.waiters ++ p ∷ [] } in
          let after : Crew = left it.monitor crew in
          let here : seat p ≡ Some it.monitor = inside ∙ ap Some (sym number) in
          let mine = h.seated.holds p it.monitor (subst IsOpenAt (sym runs) tt) here in
          let out : AreSeated N guards after (outside_of p seat) =
          in-left p it.monitor crew seat (outside_of p seat) lines mine.0 mine.1 (outside-now p seat) (outside-others p seat) h in
          let still : Runs after p = left-runs crew it.monitor p runs in
          let place : slice_get after.conditions c ≡ Some it = ap (λ cs. slice_get cs c) (left-conditions crew it.monitor) ∙ at in record {
            seated =
                seated-queued (waits_of after) (waits_of (set_waits p (condition c) after)) (holders_of after) (holders_of after) guards
                (outside_of p seat) seat
                p (condition c) out.seated (λ x. x) (outside-now p seat) (subst IsOpenAt (sym still) tt)
                (set-same p nothing (condition c) after.processes still) (only-set p (condition c) after)
                (record { others = λ q away. sym ((outside-others p seat).others q away) }) (λ n e. absurd (cc e))
                (λ d e. inside ∙ sym of_c ∙ ap guards (let same : c ≡ d = cc e in same));
            monitors = out.monitors;
            conditions = λ d. condition-kept c x it after place refl d ∙ out.conditions d;
          }

      go : (o : Option Condition) → slice_get crew.conditions c ≡ o → AreSeated N guards (with_item o (λ it. set_waits p (condition c)
          (set_condition c (record it { waiters = it.waiters ++ p ∷ [] }) (left it.monitor crew))) crew) seat
      go None at =
          absurd (let bad : None ≡ Some m = sym (ap (option_map (λ (y : Condition). y.monitor)) at) ∙ h.conditions c ∙ of_c in cc bad)
      go (Some it) at = inner it at (let same : Some it.monitor ≡ Some m =
          sym (ap (option_map (λ (y : Condition). y.monitor)) at) ∙ h.conditions c ∙ of_c in cc same)

  pub in-signalled : (c : ℕ) (crew : Crew) (seat : ℕ → Option ℕ) → AreLines crew → AreSeated N guards crew seat
      → AreSeated N guards (signalled c crew) seat
  in-signalled c crew seat lines h = go (slice_get crew.conditions c) refl
    where
      mid : Condition → List ℕ → Crew
      mid it ns = set_condition c (record it { waiters = ns }) crew

      in-mid : (it : Condition) → slice_get crew.conditions c ≡ Some it → (ns : List ℕ) → AreSeated N guards (mid it ns) seat
      in-mid it at ns = record {
        seated = h.seated;
        monitors = h.monitors;
        conditions = λ d. condition-kept c (record it { waiters = ns }) it crew at refl d ∙ h.conditions d;
      }

      last : (it : Condition) → slice_get crew.conditions c ≡ Some it → (q : ℕ) (ns : List ℕ) → Waits crew q (condition c)
          → (o : Option Monitor)
          → slice_get crew.monitors (it.monitor - 1) ≡ o → AreSeated N guards (with_item o (λ m. set_waits q (entry it.monitor)
          (set_monitor it.monitor (record m { entering = m.entering ++ q ∷ [] }) (mid it ns))) (mid it ns)) seat
      last it at q ns was None place = in-mid it at ns
      last it at q ns was (Some m) place =
          let x : Monitor = record m { entering = m.entering ++ q ∷ [] } in
          let before = in-mid it at ns in
          let later : Crew = set_monitor it.monitor x (mid it ns) in record {
            seated =
                seated-signalled (waits_of crew) (waits_of (set_waits q (entry it.monitor) crew)) (holders_of later)
                (holders_of later) guards seat q c
                it.monitor (seated-like (waits_of crew) (waits_of crew) (holders_of crew) (holders_of later) guards seat seat (λ q. refl)
                (holder-kept it.monitor x m crew place refl) (λ q. refl) h.seated) was
                (sym (h.conditions c) ∙ ap (option_map (λ (y : Condition). y.monitor)) at)
                (set-same q (condition c) (entry it.monitor) crew.processes was) (only-set q (entry it.monitor) crew);
            monitors = λ i. some-holder it.monitor x m crew place i ∙ h.monitors i;
            conditions = before.conditions;
          }

      inner : (it : Condition) → slice_get crew.conditions c ≡ Some it → (ns : List ℕ) → it.waiters ≡ ns
          → AreSeated N guards (queued_at (first ns) it.monitor (set_condition c (record it { waiters = rest ns }) crew)) seat
      inner it at [] queue = in-mid it at []
      inner it at (q ∷ ns) queue =
          let line : IsLine crew.processes (condition c) (q ∷ ns) = subst (IsLine crew.processes (condition c)) queue
          (lines.waiting c it at) in
          last it at q ns line.wait.0 (slice_get crew.monitors (it.monitor - 1)) refl

      go : (o : Option Condition) → slice_get crew.conditions c ≡ o → AreSeated N guards (with_item o (λ it.
          queued_at (first it.waiters) it.monitor (set_condition c (record it { waiters = rest it.waiters }) crew)) crew) seat
      go None at = h
      go (Some it) at = inner it at it.waiters refl

  -- 5. Starts and ends

  pub in-started : (i : Invocation) (crew : Crew) (seat seat_after : ℕ → Option ℕ) → waits_of crew (least_free crew) ≡ None
      → seat_after (least_free crew) ≡ None
      → OnlyAt (least_free crew) seat seat_after → AreSeated N guards crew seat → AreSeated N guards (started i crew) seat_after
  in-started i crew seat seat_after absent none others h = record {
    seated =
        seated-started (waits_of crew) (waits_of (started i crew)) (holders_of crew) (holders_of crew) guards seat seat_after
        (least_free crew) h.seated absent
        (record { others = λ q away. put-other (least_free crew) q one crew.processes away })
        (subst IsOpenAt (sym
        (ap (option_map (λ (x : Process). x.waits)) (find-put nat_cmp nat_cmp_total (least_free crew) (least_free crew) one
        crew.processes) ∙ ap
        (λ b. option_map (λ (x : Process). x.waits) (cond b (Some one) (value_at nat_cmp (least_free crew) crew.processes)))
        (same-self (least_free crew)))) tt) none others;
    monitors = h.monitors;
    conditions = h.conditions;
  }
    where
      one : Process
      one = record { serves = Some i; waits = nothing }

  -- what leaving the monitors up to the n-th has come to: nothing so far, or the one that the process held is left
  abbrev HasLeft : (p n : ℕ) (crew : Crew) (seat : ℕ → Option ℕ) → Type 0
  HasLeft p n crew seat = ((leave_held p n crew ≡ crew) × ((i : ℕ) → i < n → holders_of crew i ≡ Some (Some p) → ⊥))
      ⊎ ((i : ℕ) × (i < n) × (holders_of crew i ≡ Some (Some p)) × AreSeated N guards (leave_held p n crew) (outside_of p seat))

  has-left : (p n : ℕ) (crew : Crew) (seat : ℕ → Option ℕ) → AreLines crew → AreSeated N guards crew seat → HasLeft p n crew seat
  has-left p zero crew seat lines h = inl (refl, λ i less at. absurd (omega (arith, less)))
  has-left p (suc n) crew seat lines h = go (slice_get crew.monitors n) refl (has-left p n crew seat lines h)
    where
      later : Crew
      later = leave_held p n crew

      below : (holders_of crew n ≡ Some (Some p) → ⊥) → ((i : ℕ) → i < n → holders_of crew i ≡ Some (Some p) → ⊥)
          → (i : ℕ) → i < suc n → holders_of crew i ≡ Some (Some p) → ⊥
      below here before i less at = by (eq_by_cmp nat_cmp i n) refl
        where
          by : (b : Bool) → eq_by_cmp nat_cmp i n ≡ b → ⊥
          by true same = here (ap (holders_of crew) (sym (same-true i n same)) ∙ at)
          by false same = before i (let other : i ≡ n → ⊥ = apart-numbers i n same in omega (arith, less, other)) at

      -- nothing more is left
      none : (holders_of crew n ≡ Some (Some p) → ⊥) → HasLeft p n crew seat
          → ((later ≡ crew) × ((i : ℕ) → i < suc n → holders_of crew i ≡ Some (Some p) → ⊥))
          ⊎ ((i : ℕ) × (i < suc n) × (holders_of crew i ≡ Some (Some p)) × AreSeated N guards later (outside_of p seat))
      none here (inl x) = inl (x.0, below here x.1)
      none here (inr x) = inr (x.0, omega (arith, x.1), x.2, x.3)

      -- this one is left
      this : holders_of crew n ≡ Some (Some p) → HasLeft p n crew seat
          → ((left (n + 1) later ≡ crew) × ((i : ℕ) → i < suc n → holders_of crew i ≡ Some (Some p) → ⊥))
          ⊎ ((i : ℕ) × (i < suc n) × (holders_of crew i ≡ Some (Some p)) × AreSeated N guards (left (n + 1) later) (outside_of p seat))
      this at (inl x) = inr (
        n,
        omega arith,
        at,
        subst (λ (k : Crew). AreSeated N guards (left (n + 1) k) (outside_of p seat)) (sym x.0)
            (let number : n + 1 - 1 ≡ n = omega arith in
            in-left p (n + 1) crew seat (outside_of p seat) lines (omega arith) (ap (holders_of crew) number ∙ at) (outside-now p seat)
            (outside-others p seat) h),
      )
      this at (inr x) =
          let one : seat p ≡ Some (x.0 + 1) = (h.seated.held x.0 p x.2).0 in
          let two : seat p ≡ Some (n + 1) = (h.seated.held n p at).0 in
          let bad : x.0 + 1 ≡ n + 1 = (let e : Some (x.0 + 1) ≡ Some (n + 1) = sym one ∙ two in cc e) in
          absurd (omega (arith, x.1, bad))

      holds-it : (o : Option ℕ) → is_held_by p o ≡ true → o ≡ Some p
      holds-it None is = absurd (cc is)
      holds-it (Some k) is = ap Some (eqb-true k p is)

      held-it : (o : Option ℕ) → o ≡ Some p → is_held_by p o ≡ true
      held-it None is = absurd (cc is)
      held-it (Some k) is = eq-eqb k p (cc is)

      one : (it : Monitor) → slice_get crew.monitors n ≡ Some it → (b : Bool) → is_held_by p it.holder ≡ b → HasLeft p n crew seat
          → ((cond b (left (n + 1) later) later ≡ crew) × ((i : ℕ) → i < suc n → holders_of crew i ≡ Some (Some p) → ⊥))
          ⊎ ((i : ℕ) × (i < suc n) × (holders_of crew i ≡ Some (Some p))
          × AreSeated N guards (cond b (left (n + 1) later) later) (outside_of p seat))
      one it at true is x = this (ap (option_map (λ (y : Monitor). y.holder)) at ∙ ap Some (holds-it it.holder is)) x
      one it at false is x =
          none (λ bad. (let same : Some it.holder ≡ Some (Some p) = sym (ap (option_map (λ (y : Monitor). y.holder)) at) ∙ bad in
          let mine : it.holder ≡ Some p = cc same in
          let clash : true ≡ false = sym (held-it it.holder mine) ∙ is in cc clash)) x

      go : (o : Option Monitor) → slice_get crew.monitors n ≡ o → HasLeft p n crew seat
          → ((with_item o (λ it. cond (is_held_by p it.holder) (left (n + 1) later) later) later ≡ crew)
          × ((i : ℕ) → i < suc n → holders_of crew i ≡ Some (Some p) → ⊥))
          ⊎ ((i : ℕ) × (i < suc n) × (holders_of crew i ≡ Some (Some p))
          × AreSeated N guards (with_item o (λ it. cond (is_held_by p it.holder) (left (n + 1) later) later) later) (outside_of p seat))
      go None at x =
          none (λ bad. (let clash : None ≡ Some (Some p) = sym (ap (option_map (λ (y : Monitor). y.holder)) at) ∙ bad in cc clash)) x
      go (Some it) at x = one it at (is_held_by p it.holder) refl x

  in-length : {X : Type 0} (xs : List X) (i : ℕ) (x : X) → slice_get xs i ≡ Some x → i < length xs
  in-length [] i x at = absurd (cc at)
  in-length (y ∷ xs) zero x at = omega arith
  in-length (y ∷ xs) (suc i) x at = omega (arith, in-length xs i x at)

  -- all that the process held is left
  in-all_left : (p : ℕ) (crew : Crew) (seat : ℕ → Option ℕ) → AreLines crew → Runs crew p → AreSeated N guards crew seat
      → AreSeated N guards (leave_held p (length crew.monitors) crew) (outside_of p seat)
  in-all_left p crew seat lines runs h = go (has-left p (length crew.monitors) crew seat lines h)
    where
      no-monitor : ((i : ℕ) → i < length crew.monitors → holders_of crew i ≡ Some (Some p) → ⊥) → (o : Option ℕ) → seat p ≡ o → o ≡ None
      no-monitor none None at = refl
      no-monitor none (Some m) at = let x = h.seated.holds p m (subst IsOpenAt (sym runs) tt) at in
          absurd (none (m - 1) (there (slice_get crew.monitors (m - 1)) refl x.1) x.1)
        where
          there : (o : Option Monitor) → slice_get crew.monitors (m - 1) ≡ o → option_map (λ (y : Monitor). y.holder) o ≡ Some (Some p)
              → m - 1 < length crew.monitors
          there None at is = absurd (cc is)
          there (Some y) at is = in-length crew.monitors (m - 1) y at

      same : (q : ℕ) → seat p ≡ None → (b : Bool) → eq_by_cmp nat_cmp q p ≡ b → cond b None (seat q) ≡ seat q
      same q none true is = sym (ap seat (same-true q p is) ∙ none)
      same q none false is = refl

      go : HasLeft p (length crew.monitors) crew seat → AreSeated N guards (leave_held p (length crew.monitors) crew) (outside_of p seat)
      go (inl x) = subst (λ (k : Crew). AreSeated N guards k (outside_of p seat)) (sym x.0)
          (areseated-like N guards crew seat (outside_of p seat)
          (λ q. same q (no-monitor x.1 (seat p) refl) (eq_by_cmp nat_cmp q p) refl) h)
      go (inr x) = x.3

  pub in-ended : (p : ℕ) (crew : Crew) (seat seat_after : ℕ → Option ℕ) → AreLines crew → Runs crew p → OnlyAt p seat seat_after
      → AreSeated N guards crew seat
      → AreSeated N guards (ended p crew) seat_after
  in-ended p crew seat seat_after lines runs others h = record {
    seated = seated-gone (waits_of mid) (waits_of (ended p crew)) (holders_of mid) (holders_of mid) guards
        (outside_of p seat) seat_after p out.seated
        (outside-now p seat) (record { others = λ q away. gone-other p q mid.processes away })
        (ap (option_map (λ (x : Process). x.waits)) (other-key p p mid.processes)
        ∙ ap (λ b. option_map (λ (x : Process). x.waits) (cond (not b) (value_at nat_cmp p mid.processes) None)) (eq-eqb p p refl))
        (record { others = λ q away. others.others q away ∙ sym ((outside-others p seat).others q away) });
    monitors = out.monitors;
    conditions = out.conditions;
  }
    where
      mid : Crew
      mid = leave_held p (length crew.monitors) crew

      out : AreSeated N guards mid (outside_of p seat)
      out = in-all_left p crew seat lines runs h
