-- What closes calls, as changes of the model's traffic.
use Rattle.std.proofs.Common.{subst, ◌≡◌, ◌≢◌, ◌≤◌, ◌<◌, ℕ, zero, suc, ◌+◌, ◌*◌, ◌==◌, Bool, true, false, cond, not, ◌&&◌, ◌||◌, List, []}
use Rattle.std.proofs.Common.{◌∷◌, ◌++◌, map, length, get_or, Option, None, Some, refl, sym, ◌∙◌, ap, arith}
use Rattle.std.specs.Prelude.{slice_set}
use Rattle.std.specs.List.{All, filter}
use Rattle.std.proofs.lemmas.List.Elements.{All-nil, All-cons, All-append}
use Rattle.std.specs.Option.{option_map}
use Rattle.std.specs.declared.cmp.Ordering.{Ordering}
use Rattle.std.specs.Ordering.{nat_cmp, eq_by_cmp}
use Rattle.std.proofs.lemmas.Bool.{eqb-true}
use Rattle.std.proofs.lemmas.List.{length-set, get_or-set_same, get_or-set_other}
use Rattle.capability.specs.declared.Uid.{Uid}
use Rattle.capability.specs.declared.Cap.{Cap}
use Rattle.eden_model.specs.Map.{with_item, each_value, value_at}
use Rattle.eden_model.specs.Lines.{has}
use Rattle.eden_model.specs.Traffic.{Traffic, Place, asked, held, answered, done, call_at, goes, goes_by, queue, asking_station}
use Rattle.eden_model.specs.Traffic.{target_station, in_transit, is_link, asks, on_link, touches, lost, cut_call, crashed_call}
use Rattle.eden_model.specs.Traffic.{broken_by_link, broken_by_node, numbers_of, without_link, without_node}
use Rattle.eden_model.specs.Traffic as traffic
use Rattle.invocation.specs.declared.call.Call.{Call}
use Rattle.invocation.specs.declared.call.Message.{Message}
use Rattle.invocation.specs.Queues.{Rows, row, with_row, cut_between, cleared, on_way, sent_from}
use Rattle.invocation.specs.Mail.{Mail, target_of, is_open, over, number_of, let_go, closed_if, closed_where, asked_by, crosses, enters}
use Rattle.invocation.specs.Mail.{broken_where, orphaned, cut_link, cut_node}
use Rattle.invocation.specs.Mail as mail
use Rattle.invocation.specs.Carries.{Carries, Same, Agree, is_awaited, is_sent, message_at, message_of}
use Rattle.invocation.proofs.Filters.{has-here, has-later, has-filter, keep-all, drop-all, filter-same, map-same, eq-self, eq-apart}
use Rattle.invocation.proofs.Agreed.{AllRead, IsRead, agree-each, agree-let_go, agree-numbers}
use Rattle.invocation.proofs.CarriesLaws.{asked-call}
use Rattle.invocation.proofs.Moves.{messages-left, once-left, sent-left, tells-queue, goes_of}
use Rattle.invocation.proofs.Mails.{length-cleared}

pub value-each : {K X Y : Type 0} (R : K → K → Ordering) (f : X → Y) (q : K) (es : List (K × X))
    → value_at R q (each_value f es) ≡ option_map f (value_at R q es)
value-each R f q [] = refl
value-each R f q (e ∷ es) = elim (eq_by_cmp R q e.0) as (λ b. cond b (Some (f e.1)) (value_at R q (each_value f es)) ≡ option_map f
    (cond b (Some e.1) (value_at R q es))) [ true ↦ refl | false ↦ value-each R f q es ]

-- 1. A change that leaves each message as it is

module _ (t u : Traffic) (g : traffic.Call → traffic.Call) (calls : u.calls ≡ each_value g t.calls) (transit : u.transit ≡ t.transit)
    (goes_on : (x : traffic.Call) (a b : ℕ)
    → goes_by (g x).place (asking_station (g x).asker) (target_station (g x)) a b ≡ goes_by x.place (asking_station x.asker)
    (target_station x) a b)
    (says_on : (x : traffic.Call) (k : ℕ) → message_at k (g x).place ≡ message_at k x.place)
    (stays : (x : traffic.Call) → in_transit (g x).place ≡ in_transit x.place) where
  call-each : (k : ℕ) → call_at u k ≡ option_map g (call_at t k)
  call-each k = ap (value_at nat_cmp k) calls ∙ value-each nat_cmp g k t.calls

  goes-each : (a b k : ℕ) → goes u a b k ≡ goes t a b k
  goes-each a b k = ap (λ o. goes_of o a b) (call-each k) ∙ go (call_at t k)
    where
      go : (o : Option traffic.Call) → goes_of (option_map g o) a b ≡ goes_of o a b
      go None = refl
      go (Some x) = goes_on x a b

  message-each : (k : ℕ) → message_of u k ≡ message_of t k
  message-each k = ap (λ (o : Option traffic.Call). with_item o (λ c. message_at k c.place) (message_at k asked)) (call-each k)
      ∙ go (call_at t k)
    where
      go : (o : Option traffic.Call)
          → with_item (option_map g o) (λ c. message_at k c.place) (message_at k asked) ≡ with_item o (λ c. message_at k c.place)
          (message_at k asked)
      go None = refl
      go (Some x) = says_on x k

  sent-each : (k : ℕ) → is_sent u k ≡ is_sent t k
  sent-each k = ap (λ (o : Option traffic.Call). with_item o (λ c. in_transit c.place) false) (call-each k) ∙ go (call_at t k)
    where
      go : (o : Option traffic.Call)
          → with_item (option_map g o) (λ c. in_transit c.place) false ≡ with_item o (λ c. in_transit c.place) false
      go None = refl
      go (Some x) = stays x

  pub each-carried : (m : Mail) → Carries m t → (cs : List Call) → Agree 1 cs u.calls → Carries (record m { calls = cs }) u
  each-carried m h cs agree = record {
    calls = agree;
    queues = λ a b from to.
        ap (map (message_of u)) (ap (filter (goes u a b)) transit
        ∙ filter-same (goes u a b) (goes t a b) t.transit (λ k there. goes-each a b k))
        ∙ map-same (message_of u) (message_of t) (queue t a b) (λ k there. message-each k) ∙ h.queues a b from to;
    once = rw transit h.once;
    sent = λ k there. sent-each k ∙ h.sent k (ap (has k) (sym transit) ∙ there);
  }

-- an Eject that lost its active part
abbrev orphan_call : Uid → traffic.Call → traffic.Call
orphan_call u c = cond (asks u c.asker) (record c { open_ = false }) c

pub orphan-carried : (u : Uid) (m : Mail) (t : Traffic) → Carries m t → Carries (orphaned u m) (traffic.orphaned u t)
orphan-carried u m t h =
    each-carried t (traffic.orphaned u t) (orphan_call u) refl refl (λ x a b. goes_on (asks u x.asker) x a b)
    (λ x k. says_on (asks u x.asker) x k) (λ x. stays (asks u x.asker) x)
    m h (closed_where (asked_by u) m.calls) (agree-each (λ c. closed_if (asked_by u c) c) (orphan_call u) both 1 m.calls t.calls h.calls)
  where
    goes_on : (d : Bool) (x : traffic.Call) (a b : ℕ)
        → goes_by (cond d (record x { open_ = false }) x).place (asking_station (cond d (record x { open_ = false }) x).asker)
        (target_station (cond d (record x { open_ = false }) x)) a b ≡ goes_by x.place (asking_station x.asker) (target_station x) a b
    goes_on true x a b = refl
    goes_on false x a b = refl

    says_on : (d : Bool) (x : traffic.Call) (k : ℕ) → message_at k (cond d (record x { open_ = false }) x).place ≡ message_at k x.place
    says_on true x k = refl
    says_on false x k = refl

    stays : (d : Bool) (x : traffic.Call) → in_transit (cond d (record x { open_ = false }) x).place ≡ in_transit x.place
    stays true x = refl
    stays false x = refl

    at : (b : Bool) (c : Call) (d : traffic.Call) → Same c d → Same (closed_if b c) (cond b (record d { open_ = false }) d)
    at true c d same = record { asker = same.asker; target = same.target; operation = same.operation; open_ = refl; args = same.args }
    at false c d same = same

    both : (c : Call) (d : traffic.Call) → Same c d → Same (closed_if (asked_by u c) c) (orphan_call u d)
    both c d same = subst (λ b. Same (closed_if b c) (orphan_call u d)) (ap (asks u) same.asker) (at (asks u d.asker) c d same)

-- 2. A change by which messages are lost

module _ (m : Mail) (t : Traffic) (h : Carries m t) (meets : ℕ → ℕ → Bool) (both_ways : (x y : ℕ) → meets x y ≡ meets y x) (g : traffic.Call
    → traffic.Call) where
  abbrev stays_in : ℕ → Bool
  stays_in k = not (with_item (call_at t k) (λ (x : traffic.Call). meets (asking_station x.asker) (target_station x)) false)

  pub lost-carried : ((x : traffic.Call) → meets (asking_station x.asker) (target_station x) ≡ false → g x ≡ x)
      → (cs : List Call) → Agree 1 cs (each_value g t.calls) → (rows : Rows)
      → ((a b : ℕ) → a ≤ 8 → b ≤ 8 → row a b rows ≡ cond (meets a b) [] (row a b m.queues))
      → Carries (record { calls = cs; queues = rows }) (lost (λ x. meets (asking_station x.asker) (target_station x)) g t)
  lost-carried leaves cs agree rows empties = record {
    calls = agree;
    queues = λ a b from to. messages-left t u stays_in refl same a b ∙ kept a b from to (meets a b) refl ∙ sym (empties a b from to);
    once = once-left t u stays_in refl same h.once;
    sent = sent-left t u stays_in refl same h.sent;
  }
    where
      u : Traffic
      u = lost (λ x. meets (asking_station x.asker) (target_station x)) g t

      same : (k : ℕ) → stays_in k ≡ true → value_at nat_cmp k (each_value g t.calls) ≡ call_at t k
      same k stays = value-each nat_cmp g k t.calls ∙ go (call_at t k) stays
        where
          one : (x : traffic.Call) (b : Bool) → meets (asking_station x.asker) (target_station x) ≡ b → not b ≡ true → Some (g x) ≡ Some x
          one x true e stays = absurd (let bad : false ≡ true = stays in cc)
          one x false e stays = ap Some (leaves x e)

          go : (o : Option traffic.Call)
              → not (with_item o (λ (x : traffic.Call). meets (asking_station x.asker) (target_station x)) false) ≡ true
              → option_map g o ≡ o
          go None stays = refl
          go (Some x) stays = one x (meets (asking_station x.asker) (target_station x)) refl stays

      told : (a b k : ℕ) → has k (queue t a b) ≡ true → stays_in k ≡ not (meets a b)
      told a b k there = ap not (tells-queue meets both_ways t k a b (has-filter (goes t a b) t.transit k there).1)

      kept : (a b : ℕ) → a ≤ 8 → b ≤ 8 → (x : Bool) → meets a b ≡ x
          → map (message_of t) (filter stays_in (queue t a b)) ≡ cond (meets a b) [] (row a b m.queues)
      kept a b from to true e = rw e (ap (map (message_of t)) (drop-all stays_in (queue t a b) (λ k there. told a b k there ∙ ap not e)))
      kept a b from to false e = rw e (ap (map (message_of t)) (keep-all stays_in (queue t a b) (λ k there. told a b k there ∙ ap not e))
          ∙ h.queues a b from to)

-- 3. The queues that are emptied

abbrev here : ℕ → ℕ → ℕ → ℕ → Bool
here x y c d = (c == x) && (d == y)

and-both : (a b : Bool) → (a && b) ≡ true → (a ≡ true) × (b ≡ true)
and-both true b h = (refl, h)
and-both false b h = absurd (let bad : false ≡ true = h in cc)

and-none : (a b : Bool) → (a && b) ≡ false → (a ≡ true → b ≡ true → ⊥)
and-none a b h p q = let bad : false ≡ true = sym h ∙ rw (p, q) refl in cc

row-emptied : (rows : Rows) (x y c d : ℕ) → length rows ≡ 81 → x ≤ 8 → y ≤ 8 → c ≤ 8 → d ≤ 8
    → row c d (with_row x y [] rows) ≡ cond (here x y c d) [] (row c d rows)
row-emptied rows x y c d pairs x8 y8 c8 d8 = go (here x y c d) refl
  where
    go : (b : Bool) → here x y c d ≡ b → row c d (with_row x y [] rows) ≡ cond b [] (row c d rows)
    go true e =
        let both = and-both (c == x) (d == y) e in
        let cx : c ≡ x = eqb-true c x both.0 in
        let dy : d ≡ y = eqb-true d y both.1 in
        let place : (9 * c + d) ≡ (9 * x + y) = omega (arith, cx, dy) in
        ap (λ i. get_or (slice_set rows (9 * x + y) []) i []) place ∙ get_or-set_same rows (9 * x + y) [] [] (omega (arith, pairs, x8, y8))
    go false e =
        let place : (9 * c + d) ≢ (9 * x + y) = (λ same.
        let cx : c ≡ x = omega (arith, same, x8, y8, c8, d8) in
        let dy : d ≡ y = omega (arith, same, x8, y8, c8, d8) in
        and-none (c == x) (d == y) e (ap (λ n. n == x) cx ∙ eq-self x) (ap (λ n. n == y) dy ∙ eq-self y)) in
        get_or-set_other rows (9 * x + y) (9 * c + d) [] [] place

-- a link from a station to itself is none
apart-ends : (a b c d : ℕ) → (c == d) ≡ false → here a b c d ≡ true → a ≡ b → ⊥
apart-ends a b c d e h same =
    let both = and-both (c == a) (d == b) h in
    let cd : c ≡ d = eqb-true c a both.0 ∙ same ∙ sym (eqb-true d b both.1) in
    let bad : true ≡ false = sym (ap (λ n. n == d) cd ∙ eq-self d) ∙ e in cc

no-link : (a b c d : ℕ) → a ≡ b → is_link a b c d ≡ false
no-link a b c d same = go (c == d) refl (here a b c d) refl (here b a c d) refl
  where
    go : (x : Bool) → (c == d) ≡ x → (y : Bool) → here a b c d ≡ y → (z : Bool) → here b a c d ≡ z → (not x && (y || z)) ≡ false
    go true e y p z q = refl
    go false e true p z q = absurd (apart-ends a b c d e p same)
    go false e false p true q = absurd (apart-ends b a c d e q (sym same))
    go false e false p false q = refl

ends-differ : (a b c d : ℕ) → (a ≡ b → ⊥) → here a b c d ≡ true → (c == d) ≡ false
ends-differ a b c d other h = go (c == d) refl
  where
    go : (x : Bool) → (c == d) ≡ x → x ≡ false
    go true e = let both = and-both (c == a) (d == b) h in absurd (other (sym (eqb-true c a both.0) ∙ eqb-true c d e ∙ eqb-true d b both.1))
    go false e = refl

two-emptied : (a b c d : ℕ) (r : List Message) → (a ≡ b → ⊥)
    → cond (here b a c d) [] (cond (here a b c d) [] r) ≡ cond (is_link a b c d) [] r
two-emptied a b c d r other = go (here a b c d) refl (here b a c d) refl (c == d) refl
  where
    go : (y : Bool) → here a b c d ≡ y → (z : Bool) → here b a c d ≡ z → (x : Bool) → (c == d) ≡ x
        → cond z [] (cond y [] r) ≡ cond (not x && (y || z)) [] r
    go true p z q true e = absurd (let bad : true ≡ false = sym e ∙ ends-differ a b c d other p in cc)
    go true p true q false e = refl
    go true p false q false e = refl
    go false p true q true e = absurd (let bad : true ≡ false = sym e ∙ ends-differ b a c d (λ s. other (sym s)) q in cc)
    go false p true q false e = refl
    go false p false q true e = refl
    go false p false q false e = refl

pub cut-rows : (rows : Rows) (a b : ℕ) → length rows ≡ 81 → a ≤ 8 → b ≤ 8 → (c d : ℕ) → c ≤ 8 → d ≤ 8
    → row c d (cut_between a b rows) ≡ cond (is_link a b c d) [] (row c d rows)
cut-rows rows a b pairs a8 b8 c d c8 d8 = go (a == b) refl
  where
    go : (x : Bool) → (a == b) ≡ x → row c d (cond x rows (with_row b a [] (with_row a b [] rows))) ≡ cond (is_link a b c d) []
        (row c d rows)
    go true e = rw (no-link a b c d (eqb-true a b e)) refl
    go false e =
        let other : a ≡ b → ⊥ = eq-apart a b e in
        let still : length (with_row a b [] rows) ≡ 81 = length-set rows (9 * a + b) [] ∙ pairs in
        row-emptied (with_row a b [] rows) b a c d still b8 a8 c8 d8
        ∙ ap (λ r. cond (here b a c d) [] r) (row-emptied rows a b c d pairs a8 b8 c8 d8) ∙ two-emptied a b c d (row c d rows) other

cond-none : (b : Bool) → cond {A = List Message} b [] [] ≡ []
cond-none true = refl
cond-none false = refl

step-emptied : (rows : Rows) (n k c d : ℕ) → length rows ≡ 81 → n ≤ 8 → k ≤ 8 → c ≤ 8 → d ≤ 8
    → row c d (cleared n (suc k) rows) ≡ cond (here k n c d) [] (cond (here n k c d) [] (row c d (cleared n k rows)))
step-emptied rows n k c d pairs n8 k8 c8 d8 =
    let before : length (cleared n k rows) ≡ 81 = length-cleared n k rows ∙ pairs in
    let still : length (with_row n k [] (cleared n k rows)) ≡ 81 = length-set (cleared n k rows) (9 * n + k) [] ∙ before in
    row-emptied (with_row n k [] (cleared n k rows)) k n c d still k8 n8 c8 d8
    ∙ ap (λ r. cond (here k n c d) [] r) (row-emptied (cleared n k rows) n k c d before n8 k8 c8 d8)

-- a queue that neither goes to the node nor comes from it
cleared-other : (rows : Rows) (n k c d : ℕ) → length rows ≡ 81 → n ≤ 8 → k ≤ 9 → c ≤ 8 → d ≤ 8 → (c == n) ≡ false → (d == n) ≡ false
    → row c d (cleared n k rows) ≡ row c d rows
cleared-other rows n zero c d pairs n8 k9 c8 d8 p q = refl
cleared-other rows n (suc k) c d pairs n8 k9 c8 d8 p q =
    step-emptied rows n k c d pairs n8 (omega (arith, k9)) c8 d8 ∙ go (c == k)
    ∙ cleared-other rows n k c d pairs n8 (omega (arith, k9)) c8 d8 p q
  where
    go : (x : Bool) → cond (x && (d == n)) [] (cond (here n k c d) [] (row c d (cleared n k rows))) ≡ row c d (cleared n k rows)
    go true = rw (q, p) refl
    go false = rw p refl

cleared-from : (rows : Rows) (n k c d : ℕ) → length rows ≡ 81 → n ≤ 8 → k ≤ 9 → c ≤ 8 → d ≤ 8 → (c == n) ≡ true → d < k
    → row c d (cleared n k rows) ≡ []
cleared-from rows n zero c d pairs n8 k9 c8 d8 p q = absurd (omega (arith, q))
cleared-from rows n (suc k) c d pairs n8 k9 c8 d8 p q =
    step-emptied rows n k c d pairs n8 (omega (arith, k9)) c8 d8
    ∙ ap (λ r. cond (here k n c d) [] r) (go (d == k) refl
    (λ less. cleared-from rows n k c d pairs n8 (omega (arith, k9)) c8 d8 p less)) ∙ cond-none (here k n c d)
  where
    go : (x : Bool) → (d == k) ≡ x → (d < k → row c d (cleared n k rows) ≡ []) → cond (here n k c d) [] (row c d (cleared n k rows)) ≡ []
    go true e ih = rw (p, e) refl
    go false e ih = let other : d ≢ k = eq-apart d k e in rw (ih (omega (arith, q, other))) (cond-none (here n k c d))

cleared-to : (rows : Rows) (n k c d : ℕ) → length rows ≡ 81 → n ≤ 8 → k ≤ 9 → c ≤ 8 → d ≤ 8 → (d == n) ≡ true → c < k
    → row c d (cleared n k rows) ≡ []
cleared-to rows n zero c d pairs n8 k9 c8 d8 p q = absurd (omega (arith, q))
cleared-to rows n (suc k) c d pairs n8 k9 c8 d8 p q =
    step-emptied rows n k c d pairs n8 (omega (arith, k9)) c8 d8
    ∙ go (c == k) refl (λ less. cleared-to rows n k c d pairs n8 (omega (arith, k9)) c8 d8 p less)
  where
    go : (x : Bool) → (c == k) ≡ x → (c < k → row c d (cleared n k rows) ≡ [])
        → cond (here k n c d) [] (cond (here n k c d) [] (row c d (cleared n k rows))) ≡ []
    go true e ih = rw (e, p) refl
    go false e ih = let other : c ≢ k = eq-apart c k e in
        rw (ih (omega (arith, q, other)), cond-none (here n k c d)) (cond-none (here k n c d))

abbrev pub meets_node : ℕ → ℕ → ℕ → Bool
meets_node n x y = (y == n) || (x == n)

pub cleared-rows : (rows : Rows) (n : ℕ) → length rows ≡ 81 → n ≤ 8 → (c d : ℕ) → c ≤ 8 → d ≤ 8
    → row c d (cleared n 9 rows) ≡ cond (meets_node n c d) [] (row c d rows)
cleared-rows rows n pairs n8 c d c8 d8 = go (d == n) refl (c == n) refl
  where
    go : (x : Bool) → (d == n) ≡ x → (y : Bool) → (c == n) ≡ y → row c d (cleared n 9 rows) ≡ cond (x || y) [] (row c d rows)
    go true p y q = cleared-to rows n 9 c d pairs n8 (omega arith) c8 d8 p (omega (arith, c8))
    go false p true q = cleared-from rows n 9 c d pairs n8 (omega arith) c8 d8 q (omega (arith, d8))
    go false p false q = cleared-other rows n 9 c d pairs n8 (omega arith) c8 d8 q p

-- 4. A cut, and a crash

lost-awaited : (x : Bool) (p : Place) → is_awaited (cond (x || in_transit p) done p) ≡ true → is_awaited p ≡ true
lost-awaited true p e = absurd (let bad : false ≡ true = e in cc)
lost-awaited false asked e = refl
lost-awaited false held e = refl
lost-awaited false (answered s results) e = absurd (let bad : false ≡ true = e in cc)
lost-awaited false done e = absurd (let bad : false ≡ true = e in cc)

lost-same : (x : Bool) (b : Bool) (c : Call) (d : traffic.Call) → Same c d
    → Same (closed_if b c) (cond b (record d { open_ = false; place = cond (x || in_transit d.place) done d.place }) d)
lost-same x true c d same = record {
  asker = same.asker;
  target = same.target;
  operation = same.operation;
  open_ = refl;
  args =
      λ e. same.args (lost-awaited x d.place e);
}
lost-same x false c d same = same

same-link : (a b : ℕ) (c : Call) (d : traffic.Call) → Same c d → on_link a b d ≡ crosses a b c
same-link a b c d same = ap (λ s. is_link a b (asking_station s) (target_station d)) same.asker
    ∙ ap (λ (s : _). is_link a b (asking_station c.asker) s.uid.node) same.target

same-touch : (n : ℕ) (c : Call) (d : traffic.Call) → Same c d → touches n d ≡ mail.touches n c
same-touch n c d same = ap (λ s. (target_station d == n) || (asking_station s == n)) same.asker
    ∙ ap (λ (s : _). (s.uid.node == n) || (asking_station c.asker == n)) same.target

and-comm : (a b : Bool) → (a && b) ≡ (b && a)
and-comm true true = refl
and-comm true false = refl
and-comm false true = refl
and-comm false false = refl

or-comm : (a b : Bool) → (a || b) ≡ (b || a)
or-comm true true = refl
or-comm true false = refl
or-comm false true = refl
or-comm false false = refl

eq-comm : (x y : ℕ) → (x == y) ≡ (y == x)
eq-comm x y = go (x == y) refl (y == x) refl
  where
    go : (a : Bool) → (x == y) ≡ a → (b : Bool) → (y == x) ≡ b → a ≡ b
    go true p true q = refl
    go false p false q = refl
    go true p false q = let bad : true ≡ false = sym (ap (λ n. y == n) (eqb-true x y p) ∙ eq-self y) ∙ q in cc
    go false p true q = let bad : true ≡ false = sym (ap (λ n. x == n) (eqb-true y x q) ∙ eq-self x) ∙ p in cc

link-both : (a b x y : ℕ) → is_link a b x y ≡ is_link a b y x
link-both a b x y =
    ap (λ e. not e && (((x == a) && (y == b)) || ((x == b) && (y == a)))) (eq-comm x y)
    ∙ ap (λ e. not (y == x) && e) (or-comm ((x == a) && (y == b)) ((x == b) && (y == a))
    ∙ ap (λ e. e || ((x == a) && (y == b))) (and-comm (x == b) (y == a))
    ∙ ap (λ e. ((y == a) && (x == b)) || e) (and-comm (x == a) (y == b)))

-- the messages that are lost are of calls whose arguments are read no more
all-messages : (P : Message → Type 0) (f : ℕ → Message) (ks : List ℕ) → ((k : ℕ) → has k ks ≡ true → P (f k)) → All P (map f ks)
all-messages P f [] each = All-nil P
all-messages P f (k ∷ ks) each = All-cons P (f k) (map f ks) (each k (has-here k ks))
    (all-messages P f ks (λ j there. each j (has-later j k ks there)))

number-is : (t : Traffic) (k : ℕ) → number_of (message_of t k) ≡ k
number-is t k = go (call_at t k)
  where
    at : (place : Place) → number_of (message_at k place) ≡ k
    at asked = refl
    at (answered s results) = refl
    at held = refl
    at done = refl

    go : (o : Option traffic.Call) → number_of (with_item o (λ c. message_at k c.place) (message_at k asked)) ≡ k
    go None = refl
    go (Some x) = at x.place

module _ (m : Mail) (t : Traffic) (h : Carries m t) (meets : ℕ → ℕ → Bool) (both_ways : (x y : ℕ) → meets x y ≡ meets y x) (g : traffic.Call
    → traffic.Call)
    (read : (x : traffic.Call) → meets (asking_station x.asker) (target_station x) ≡ true → in_transit x.place ≡ true
    → is_awaited (g x).place ≡ false) where
  read-message : (a b k : ℕ) → meets a b ≡ true → goes t a b k ≡ true → is_sent t k ≡ true → (1 ≤ k) × IsRead k (each_value g t.calls)
  read-message a b k met goes_there sent = go (call_at t k) refl goes_there sent (tells-queue meets both_ways t k a b goes_there ∙ met)
    where
      go : (o : Option traffic.Call) → call_at t k ≡ o → goes_of o a b ≡ true
          → with_item o (λ (c : traffic.Call). in_transit c.place) false ≡ true
          → with_item o (λ (x : traffic.Call). meets (asking_station x.asker) (target_station x)) false ≡ true
          → (1 ≤ k) × IsRead k (each_value g t.calls)
      go None e gone way met_there = absurd (let bad : false ≡ true = gone in cc)
      go (Some x) e gone way met_there = (
        (asked-call m t h k x e).from,
        λ d at. let same : g x ≡ d = (let both : Some (g x) ≡ Some d = sym (value-each nat_cmp g k t.calls ∙ ap (option_map g) e) ∙ at in
            cc) in
            subst (λ (y : traffic.Call). is_awaited y.place ≡ false) same (read x met_there way),
      )

  read-row : (a b : ℕ) → a ≤ 8 → b ≤ 8 → meets a b ≡ true → AllRead (each_value g t.calls) (row a b m.queues)
  read-row a b from to met = subst (AllRead (each_value g t.calls)) (h.queues a b from to) (all-messages
      (λ x. (1 ≤ number_of x) × IsRead (number_of x) (each_value g t.calls)) (message_of t) (queue t a b)
      (λ k there. let r = has-filter (goes t a b) t.transit k there in
      subst (λ n. (1 ≤ n) × IsRead n (each_value g t.calls)) (sym (number-is t k)) (read-message a b k met r.1 (h.sent k r.0))))

-- a cut

cut-read : (a b : ℕ) (x : traffic.Call) → is_link a b (asking_station x.asker) (target_station x) ≡ true → in_transit x.place ≡ true
    → is_awaited (cut_call a b x).place ≡ false
cut-read a b x met way = rw (met, way) refl

link-there : (a b : ℕ) → (a == b) ≡ false → is_link a b a b ≡ true
link-there a b e = rw (e, eq-self a, eq-self b) refl

way-read : (a b : ℕ) (m : Mail) (t : Traffic) → Carries m t → a ≤ 8 → b ≤ 8
    → AllRead (each_value (cut_call a b) t.calls) (on_way a b m.queues)
way-read a b m t h a8 b8 = go (a == b) refl
  where
    go : (e : Bool) → (a == b) ≡ e → AllRead (each_value (cut_call a b) t.calls) (cond e [] (row a b m.queues ++ row b a m.queues))
    go true e = All-nil (λ x. (1 ≤ number_of x) × IsRead (number_of x) (each_value (cut_call a b) t.calls))
    go false e = All-append (λ x. (1 ≤ number_of x) × IsRead (number_of x) (each_value (cut_call a b) t.calls)) (row a b m.queues)
        (row b a m.queues)
        (read-row m t h (is_link a b) (link-both a b) (cut_call a b) (cut-read a b) a b a8 b8 (link-there a b e))
        (read-row m t h (is_link a b) (link-both a b) (cut_call a b) (cut-read a b) b a b8 a8 (link-both a b b a ∙ link-there a b e))

pub cut-carried : (a b : ℕ) (m : Mail) (t : Traffic) → Carries m t → length m.queues ≡ 81 → a ≤ 8 → b ≤ 8
    → Carries (cut_link a b m) (without_link a b t)
cut-carried a b m t h pairs a8 b8 =
    lost-carried m t h (is_link a b) (link-both a b) (cut_call a b) (λ x e. rw e refl)
    (let_go (on_way a b m.queues) (closed_where (crosses a b) m.calls))
    (agree-let_go (on_way a b m.queues) (closed_where (crosses a b) m.calls) (each_value (cut_call a b) t.calls) (way-read a b m t h a8 b8)
    (agree-each (λ c. closed_if (crosses a b c) c) (cut_call a b) both 1 m.calls t.calls h.calls)) (cut_between a b m.queues)
    (λ c d c8 d8. cut-rows m.queues a b pairs a8 b8 c d c8 d8)
  where
    both : (c : Call) (d : traffic.Call) → Same c d → Same (closed_if (crosses a b c) c) (cut_call a b d)
    both c d same = subst (λ x. Same (closed_if x c) (cut_call a b d)) (same-link a b c d same) (lost-same false (on_link a b d) c d same)

-- a crash

or-true : (b : Bool) → (b || true) ≡ true
or-true true = refl
or-true false = refl

crash-read : (n : ℕ) (x : traffic.Call) → meets_node n (asking_station x.asker) (target_station x) ≡ true → in_transit x.place ≡ true
    → is_awaited (crashed_call n x).place ≡ false
crash-read n x met way = rw (met, way) (rw (or-true (target_station x == n)) refl)

from-read : (n k : ℕ) (m : Mail) (t : Traffic) → Carries m t → n ≤ 8 → k ≤ 9
    → AllRead (each_value (crashed_call n) t.calls) (sent_from n k m.queues)
from-read n zero m t h n8 k9 = All-nil (λ x. (1 ≤ number_of x) × IsRead (number_of x) (each_value (crashed_call n) t.calls))
from-read n (suc k) m t h n8 k9 =
    All-append (λ x. (1 ≤ number_of x) × IsRead (number_of x) (each_value (crashed_call n) t.calls)) (sent_from n k m.queues)
    (row n k m.queues) (from-read n k m t h n8 (omega (arith, k9)))
    (read-row m t h (meets_node n) (λ x y. or-comm (y == n) (x == n)) (crashed_call n) (crash-read n) n k n8 (omega (arith, k9))
    (rw (eq-self n) (or-true (k == n))))

crash-same : (x b : Bool) (c : Call) (d : traffic.Call) → (x ≡ true → b ≡ true) → Same c d
    → Same (cond x (over c) (closed_if b c)) (cond b (record d { open_ = false; place = cond (x || in_transit d.place) done d.place }) d)
crash-same true true c d implies same = record {
  asker = same.asker;
  target = same.target;
  operation = same.operation;
  open_ = refl;
  args =
      λ e. let bad : false ≡ true = e in cc;
}
crash-same true false c d implies same = absurd (let bad : false ≡ true = implies refl in cc)
crash-same false b c d implies same = lost-same false b c d same

pub crash-carried : (n : ℕ) (m : Mail) (t : Traffic) → Carries m t → length m.queues ≡ 81 → n ≤ 8
    → Carries (cut_node n m) (without_node n t)
crash-carried n m t h pairs n8 =
    lost-carried m t h (meets_node n) (λ x y. or-comm (y == n) (x == n)) (crashed_call n) (λ x e. rw e refl)
    (let_go (sent_from n 9 m.queues) (map (mail.crashed_call n) m.calls))
    (agree-let_go (sent_from n 9 m.queues) (map (mail.crashed_call n) m.calls) (each_value (crashed_call n) t.calls)
    (from-read n 9 m t h n8 (omega arith))
    (agree-each (mail.crashed_call n) (crashed_call n) both 1 m.calls t.calls h.calls)) (cleared n 9 m.queues)
    (λ c d c8 d8. cleared-rows m.queues n pairs n8 c d c8 d8)
  where
    both : (c : Call) (d : traffic.Call) → Same c d → Same (mail.crashed_call n c) (crashed_call n d)
    both c d same =
        subst (λ x. Same (cond x (over c) (closed_if (mail.touches n c) c)) (crashed_call n d))
        (ap (λ (s : Cap). s.uid.node == n) same.target)
        (subst (λ b. Same (cond (target_station d == n) (over c) (closed_if b c)) (crashed_call n d)) (same-touch n c d same)
        (crash-same (target_station d == n) (touches n d) c d (λ e. rw e refl) same))

-- 5. Who is told

pub cut-told : (a b : ℕ) (m : Mail) (t : Traffic) → Carries m t → numbers_of (broken_by_link a b) t ≡ broken_where (crosses a b) m
cut-told a b m t h = agree-numbers (λ c. is_open c && crosses a b c) (broken_by_link a b)
    (λ c d same. ap (λ x. x && on_link a b d) same.open_ ∙ ap (λ x. is_open c && x) (same-link a b c d same)) 1 m.calls t.calls h.calls

same-enter : (n : ℕ) (c : Call) (d : traffic.Call) → Same c d → ((target_station d == n) && not (asking_station d.asker == n)) ≡ enters n c
same-enter n c d same = ap (λ s. (target_station d == n) && not (asking_station s == n)) same.asker
    ∙ ap (λ (s : _). (s.uid.node == n) && not (asking_station c.asker == n)) same.target

pub crash-told : (n : ℕ) (m : Mail) (t : Traffic) → Carries m t → numbers_of (broken_by_node n) t ≡ broken_where (enters n) m
crash-told n m t h = agree-numbers (λ c. is_open c && enters n c) (broken_by_node n)
    (λ c d same. ap (λ x. x && ((target_station d == n) && not (asking_station d.asker == n))) same.open_
    ∙ ap (λ x. is_open c && x) (same-enter n c d same)) 1 m.calls t.calls h.calls
