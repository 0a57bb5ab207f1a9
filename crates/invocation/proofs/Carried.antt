-- Each change of the calls and queues is the model's change of its traffic.
use Rattle.std.proofs.Common.{subst, ◌≡◌, ◌≢◌, ◌≤◌, ℕ, zero, suc, ◌+◌, ◌*◌, ◌==◌, Bool, true, false, cond, not, List, [], ◌∷◌, ◌++◌, map}
use Rattle.std.proofs.Common.{length, get_or, Option, None, Some, refl, sym, ◌∙◌, ap, arith}
use Rattle.std.specs.Prelude.{slice_set}
use Rattle.std.specs.List.{filter}
use Rattle.std.specs.Option.{option_map}
use Rattle.std.specs.Ordering.{nat_cmp, eq_by_cmp}
use Rattle.std.specs.Cmp.{nat_cmp_total}
use Rattle.std.specs.FinMap.{nat_cmp-IsAntisymmetric}
use Rattle.std.proofs.lemmas.Bool.{eqb-true}
use Rattle.std.proofs.lemmas.List.{get_or-set_same, get_or-set_other, get_or-replicate, append-nil}
use Rattle.eden_value.specs.Datum.{Datum}
use Rattle.eden_value.specs.declared.status.Status.{Status}
use Rattle.eden_model.specs.Map.{with_item, first, value_at, changed_at}
use Rattle.eden_model.proofs.Laws.{value-changed_same, value-changed_other}
use Rattle.eden_model.proofs.Numbers.{same-true}
use Rattle.eden_model.specs.Lines.{has, Distinct}
use Rattle.eden_model.specs.Traffic.{Traffic, Place, asked, held, answered, done, call_at, goes, queue, asking_station, target_station}
use Rattle.eden_model.specs.Traffic.{in_transit, next_message, taken, changed_call, at_place, closed, waiting_process}
use Rattle.eden_model.specs.Traffic as traffic
use Rattle.invocation.specs.declared.call.Call.{Call}
use Rattle.invocation.specs.declared.call.Message.{Message}
use Rattle.invocation.specs.declared.call.Message.TheVariants.{Request, Reply}
use Rattle.invocation.specs.Queues.{row, with_row, sent_to}
use Rattle.invocation.specs.Numbers.{item_in, passes_at}
use Rattle.invocation.proofs.CarriesLaws.{asked-call}
use Rattle.invocation.specs.Mail.{Mail, received, over, spent, is_open, delivery_of, no_mail}
use Rattle.invocation.specs.Carries.{Carries, CarriesDelivery, Same, Agree, IsAt, IsAskedBy, is_awaited, is_sent, message_at, message_of}
use Rattle.invocation.specs.Carries.{no_traffic}
use Rattle.invocation.proofs.Filters.{has-here, has-filter, keep-all, distinct-filter, taken-out, left-in, apart, filter-same, map-same}
use Rattle.invocation.proofs.Filters.{eq-apart}
use Rattle.invocation.proofs.Agreed.{agree-changed, agree-placed, none-before}
use Rattle.invocation.proofs.Moves.{same-goes, same-message, messages-left, once-left, sent-left, messages-came, one-way}

-- 1. One queue among the others

pair-apart : (a b c d : ℕ) → a ≤ 8 → b ≤ 8 → c ≤ 8 → d ≤ 8 → (9 * c + d) ≡ (9 * a + b) → (c ≡ a) × (d ≡ b)
pair-apart a b c d a8 b8 c8 d8 e = (omega (arith, a8, b8, c8, d8, e), omega (arith, a8, b8, c8, d8, e))

-- a message that leaves is the first of its queue, and the others keep theirs
module _ (m : Mail) (t : Traffic) (h : Carries m t) (pairs : length m.queues ≡ 81) (a b : ℕ) (from : a ≤ 8) (to : b ≤ 8) where
  module _ (k : ℕ) (ks : List ℕ) (is : queue t a b ≡ k ∷ ks) where
    pub goes-there : goes t a b k ≡ true
    goes-there = (has-filter (goes t a b) t.transit k (subst (λ l. has k l ≡ true) (sym is) (has-here k ks))).1

    pub sent-there : is_sent t k ≡ true
    sent-there = h.sent k (has-filter (goes t a b) t.transit k (subst (λ l. has k l ≡ true) (sym is) (has-here k ks))).0

    distinct : Distinct (k ∷ ks)
    distinct = subst Distinct is (distinct-filter (goes t a b) t.transit h.once)

    out : ℕ → Bool
    out j = not (j == k)

    own : filter (λ j. not (j == k)) (k ∷ ks) ≡ ks
    own =
        let none : not (k == k) ≡ false = grind arith in
        rw none (keep-all (λ j. not (j == k)) ks (λ j there. left-in k j (apart ks k j distinct.0 there)))

    others : (c d : ℕ) → ((c ≡ a) × (d ≡ b) → ⊥) → filter (λ j. not (j == k)) (queue t c d) ≡ queue t c d
    others c d other = keep-all (λ j. not (j == k)) (queue t c d) (λ j there. left-in k j (go j there (eq_by_cmp nat_cmp j k) refl))
      where
        go : (j : ℕ) → has j (queue t c d) ≡ true → (e : Bool) → eq_by_cmp nat_cmp j k ≡ e → e ≡ false
        go j there true e =
            let same : j ≡ k = same-true j k e in
            let goes_c : goes t c d k ≡ true = ap (goes t c d) (sym same) ∙ (has-filter (goes t c d) t.transit j there).1 in
            absurd (other (one-way t k c d a b goes_c goes-there))
        go j there false e = refl

    pub rows-left : (u : Traffic) → u.transit ≡ filter (λ j. not (j == k)) t.transit
        → ((j : ℕ) → not (j == k) ≡ true → call_at u j ≡ call_at t j)
        → (ms : List Message) → map (message_of t) ks ≡ ms → (c d : ℕ) → c ≤ 8 → d ≤ 8
        → map (message_of u) (queue u c d) ≡ row c d (with_row a b ms m.queues)
    rows-left u left same ms rest c d c8 d8 = messages-left t u (λ j. not (j == k)) left same c d ∙ go ((9 * c + d) == (9 * a + b)) refl
      where
        go : (x : Bool) → ((9 * c + d) == (9 * a + b)) ≡ x
            → map (message_of t) (filter (λ j. not (j == k)) (queue t c d)) ≡ row c d (with_row a b ms m.queues)
        go true e =
            let place : (9 * c + d) ≡ (9 * a + b) = eqb-true (9 * c + d) (9 * a + b) e in
            let both = pair-apart a b c d from to c8 d8 place in
            let mine : queue t c d ≡ k ∷ ks = ap (λ x. queue t x d) both.0 ∙ ap (queue t a) both.1 ∙ is in
            ap (λ l. map (message_of t) (filter (λ j. not (j == k)) l)) mine ∙ ap (map (message_of t)) own ∙ rest
            ∙ sym (ap (λ i. get_or (slice_set m.queues (9 * a + b) ms) i []) place
            ∙ get_or-set_same m.queues (9 * a + b) ms [] (omega (arith, from, to, pairs)))
        go false e =
            let place : (9 * c + d) ≢ (9 * a + b) = eq-apart (9 * c + d) (9 * a + b) e in
            ap (map (message_of t)) (others c d (λ both. place (ap (λ x. 9 * x + d) both.0 ∙ ap (λ x. 9 * a + x) both.1)))
            ∙ h.queues c d c8 d8
            ∙ sym (get_or-set_other m.queues (9 * a + b) (9 * c + d) ms [] place)

  -- a message that is sent is the last of its queue
  pub rows-came : (u : Traffic) (k : ℕ) → u.transit ≡ t.transit ++ k ∷ [] → has k t.transit ≡ false
      → ((j : ℕ) → eq_by_cmp nat_cmp j k ≡ false → call_at u j ≡ call_at t j)
      → (msg : Message) → goes u a b k ≡ true → message_of u k ≡ msg → (c d : ℕ) → c ≤ 8 → d ≤ 8
      → map (message_of u) (queue u c d) ≡ row c d (sent_to a b msg m.queues)
  rows-came u k came new same msg there says c d c8 d8 = messages-came t u k came new same c d
      ∙ ap (λ l. l ++ cond (goes u c d k) (message_of u k ∷ []) []) (h.queues c d c8 d8) ∙ go ((9 * c + d) == (9 * a + b)) refl
    where
      elsewhere : (9 * c + d) ≢ (9 * a + b) → (x : Bool) → goes u c d k ≡ x → x ≡ false
      elsewhere place true e = absurd (let both = one-way u k c d a b e there in
          place (ap (λ x. 9 * x + d) both.0 ∙ ap (λ x. 9 * a + x) both.1))
      elsewhere place false e = refl

      go : (x : Bool) → ((9 * c + d) == (9 * a + b)) ≡ x
          → row c d m.queues ++ cond (goes u c d k) (message_of u k ∷ []) [] ≡ row c d (sent_to a b msg m.queues)
      go true e =
          let place : (9 * c + d) ≡ (9 * a + b) = eqb-true (9 * c + d) (9 * a + b) e in
          let both = pair-apart a b c d from to c8 d8 place in
          let goes_c : goes u c d k ≡ true = ap (λ x. goes u x d k) both.0 ∙ ap (λ x. goes u a x k) both.1 ∙ there in
          rw (goes_c, says) (ap (λ i. get_or m.queues i [] ++ msg ∷ []) place
          ∙ sym (ap (λ i. get_or (sent_to a b msg m.queues) i []) place
          ∙ get_or-set_same m.queues (9 * a + b) (row a b m.queues ++ msg ∷ []) [] (omega (arith, from, to, pairs))))
      go false e =
          let place : (9 * c + d) ≢ (9 * a + b) = eq-apart (9 * c + d) (9 * a + b) e in
          let none : goes u c d k ≡ false = elsewhere place (goes u c d k) refl in
          rw none (append-nil (row c d m.queues)
          ∙ sym (get_or-set_other m.queues (9 * a + b) (9 * c + d) (row a b m.queues ++ msg ∷ []) [] place))

-- the model's places alone change, of calls that have no message on its way
pub rows-still : (t u : Traffic) → u.transit ≡ t.transit → ((j : ℕ) → has j t.transit ≡ true → call_at u j ≡ call_at t j) → (c d : ℕ)
    → map (message_of u) (queue u c d) ≡ map (message_of t) (queue t c d)
rows-still t u transit same c d =
    ap (map (message_of u)) (ap (filter (goes u c d)) transit
    ∙ filter-same (goes u c d) (goes t c d) t.transit (λ j there. same-goes t u j c d (same j there)))
    ∙ map-same (message_of u) (message_of t) (queue t c d)
    (λ j there. same-message t u j (same j (has-filter (goes t c d) t.transit j there).0))

-- 2. Deliveries

-- what a message tells of the place of its call
abbrev Tells : Traffic → ℕ → Message → Type 0
Tells t k (Request j) = (k ≡ j) × IsAt t k asked
Tells t k (Reply j s results) = (k ≡ j) × IsAt t k (answered s results)

told : (t : Traffic) (k : ℕ) → is_sent t k ≡ true → Tells t k (message_of t k)
told t k = go (call_at t k) refl
  where
    at : (x : traffic.Call) → call_at t k ≡ Some x → (place : Place) → x.place ≡ place → in_transit place ≡ true
        → Tells t k (message_at k place)
    at x e asked p h = (refl, ap (option_map (λ (c : traffic.Call). c.place)) e ∙ ap Some p)
    at x e (answered s results) p h = (refl, ap (option_map (λ (c : traffic.Call). c.place)) e ∙ ap Some p)
    at x e held p h = absurd (let bad : false ≡ true = h in cc)
    at x e done p h = absurd (let bad : false ≡ true = h in cc)

    go : (o : Option traffic.Call) → call_at t k ≡ o → with_item o (λ (c : traffic.Call). in_transit c.place) false ≡ true
        → Tells t k (with_item o (λ (c : traffic.Call). message_at k c.place) (Request k))
    go None e h = absurd (let bad : false ≡ true = h in cc)
    go (Some x) e h = at x e x.place refl h

-- the place of the call that is found
place-found : (t : Traffic) (k : ℕ) (place : Place) (d : traffic.Call) → IsAt t k place → value_at nat_cmp k t.calls ≡ Some d
    → d.place ≡ place
place-found t k place d is found = let e : Some d.place ≡ Some place = ap (option_map (λ (c : traffic.Call). c.place)) (sym found) ∙ is in
    cc

held-same : (c : Call) (d : traffic.Call) → d.place ≡ asked → Same c d → Same c (at_place held d)
held-same c d is same = record {
  asker = same.asker;
  target = same.target;
  operation = same.operation;
  open_ = same.open_;
  args =
      λ e. same.args (ap is_awaited is);
}

closed-same : (c : Call) (d : traffic.Call) → Same c d → Same (over c) (closed d)
closed-same c d same = record {
  asker = same.asker;
  target = same.target;
  operation = same.operation;
  open_ = refl;
  args =
      λ e. let bad : false ≡ true = e in cc;
}

pub done-same : (c : Call) (d : traffic.Call) → Same c d → Same (spent c) (at_place done d)
done-same c d same = record {
  asker = same.asker;
  target = same.target;
  operation = same.operation;
  open_ = same.open_;
  args =
      λ e. let bad : false ≡ true = e in cc;
}

pub answered-same : (c : Call) (d : traffic.Call) (s : Status) (results : List Datum) → Same c d
    → Same (spent c) (at_place (answered s results) d)
answered-same c d s results same = record {
  asker = same.asker;
  target = same.target;
  operation = same.operation;
  open_ = same.open_;
  args =
      λ e. let bad : false ≡ true = e in cc;
}

-- what the code has of a call that was asked is what the model tells
asked-by : (m : Mail) (t : Traffic) → Carries m t → (k : ℕ) (place : Place) → IsAt t k place
    → IsAskedBy t k (passes_at is_open m.calls k) (with_item (item_in k m.calls) (λ c. waiting_process c.asker) None)
asked-by m t h k place at = go (call_at t k) refl at
  where
    go : (o : Option traffic.Call) → call_at t k ≡ o → option_map (λ (c : traffic.Call). c.place) o ≡ Some place
        → IsAskedBy t k (passes_at is_open m.calls k) (with_item (item_in k m.calls) (λ c. waiting_process c.asker) None)
    go None e is = absurd (let bad : None ≡ Some place = is in cc)
    go (Some d) e is =
        let found = asked-call m t h k d e in (
          rw (e, found.is) (ap Some found.same.open_),
          rw (e, found.is) (ap (λ a. Some (waiting_process a)) found.same.asker),
        )

-- the other calls, as one is changed
pub other-call : (t : Traffic) (k j : ℕ) (g : traffic.Call → traffic.Call) → eq_by_cmp nat_cmp j k ≡ false
    → value_at nat_cmp j (changed_at nat_cmp k g t.calls) ≡ call_at t j
other-call t k j g other = value-changed_other nat_cmp nat_cmp_total nat_cmp-IsAntisymmetric j k g t.calls other

pub this-call : (t : Traffic) (k : ℕ) (g : traffic.Call → traffic.Call)
    → value_at nat_cmp k (changed_at nat_cmp k g t.calls) ≡ option_map g (call_at t k)
this-call t k g = value-changed_same nat_cmp nat_cmp_total nat_cmp-IsAntisymmetric k g t.calls

module _ (m : Mail) (t : Traffic) (h : Carries m t) (pairs : length m.queues ≡ 81) (a b : ℕ) (from : a ≤ 8) (to : b ≤ 8) where
  -- the message of k leaves, and its call may change
  left-carried : (k : ℕ) (ks : List ℕ) → queue t a b ≡ k ∷ ks → (ms : List Message) → map (message_of t) ks ≡ ms → (u : Traffic)
      → u.transit ≡ filter (λ j. not (j == k)) t.transit
      → ((j : ℕ) → not (j == k) ≡ true → call_at u j ≡ call_at t j) → (cs : List Call) → Agree 1 cs u.calls
      → Carries (record { calls = cs; queues = with_row a b ms m.queues }) u
  left-carried k ks is ms rest u left same cs agree = record {
    calls = agree;
    queues = rows-left m t h pairs a b from to k ks is u left same ms rest;
    once = once-left t u (λ j. not (j == k)) left same h.once;
    sent = sent-left t u (λ j. not (j == k)) left same h.sent;
  }

  received-carried : (k : ℕ) (ks : List ℕ) → queue t a b ≡ k ∷ ks → (ms : List Message) → map (message_of t) ks ≡ ms → 1 ≤ k
      → (msg : Message) → Tells t k msg
      → CarriesDelivery a b (Some (delivery_of msg m.calls)) (record { calls = received msg m.calls; queues = with_row a b ms m.queues }) t
  received-carried k ks is ms rest one (Request j) says =
      subst (λ n. (next_message t a b ≡ Some n) × IsAt t n asked × Carries after (taken n t) × Carries after
      (changed_call n (at_place held) (taken n t))) says.0 (
        ap first is,
        says.1,
        left-carried k ks is ms rest (taken k t) refl (λ i e. refl) m.calls h.calls,
        left-carried k ks is ms rest (changed_call k (at_place held) (taken k t)) refl
            (λ i e. other-call t k i (at_place held) (taken-out k i e)) m.calls
            (agree-placed (at_place held) k m.calls t.calls (λ c d found same. held-same c d (place-found t k asked d says.1 found) same)
            one h.calls),
      )
    where
      after : Mail
      after = record { calls = m.calls; queues = with_row a b ms m.queues }
  received-carried k ks is ms rest one (Reply j s results) says =
      subst (λ n. (next_message t a b ≡ Some n) × IsAt t n (answered s results) × IsAskedBy t n (passes_at is_open m.calls n)
      (with_item (item_in n m.calls) (λ c. waiting_process c.asker) None) × Carries (after n) (changed_call n closed (taken n t)))
      says.0 (
        ap first is,
        says.1,
        asked-by m t h k (answered s results) says.1,
        left-carried k ks is ms rest (changed_call k closed (taken k t)) refl (λ i e. other-call t k i closed (taken-out k i e))
            (received (Reply k s results) m.calls)
            (agree-changed over closed k 1 m.calls t.calls (λ c d found same. closed-same c d same) one h.calls),
      )
    where
      after : ℕ → Mail
      after n = record { calls = received (Reply n s results) m.calls; queues = with_row a b ms m.queues }

  -- numbers of calls begin at 1
  at-least-one : (k : ℕ) → is_sent t k ≡ true → 1 ≤ k
  at-least-one zero sent = absurd (let e : is_sent t 0 ≡ false =
      ap (λ (o : Option traffic.Call). with_item o (λ c. in_transit c.place) false) (none-before 1 m.calls t.calls h.calls 0 (omega arith))
      in let bad : true ≡ false = sym sent ∙ e in cc)
  at-least-one (suc k) sent = omega arith

  pub delivery-carried : (msg : Message) (ms : List Message) → row a b m.queues ≡ msg ∷ ms
      → CarriesDelivery a b (Some (delivery_of msg m.calls)) (record { calls = received msg m.calls; queues = with_row a b ms m.queues }) t
  delivery-carried msg ms is = go (queue t a b) refl (h.queues a b from to ∙ is)
    where
      go : (q : List ℕ) → queue t a b ≡ q → map (message_of t) q ≡ msg ∷ ms
          → CarriesDelivery a b (Some (delivery_of msg m.calls))
          (record { calls = received msg m.calls; queues = with_row a b ms m.queues }) t
      go [] e says = absurd (let bad : [] ≡ msg ∷ ms = says in cc)
      go (k ∷ ks) e says =
          let head : message_of t k ≡ msg = cc in
          let tail : map (message_of t) ks ≡ ms = cc in
          let on_way = sent-there m t h pairs a b from to k ks e in
          received-carried k ks e ms tail (at-least-one k on_way) msg (subst (Tells t k) head (told t k on_way))

  pub no-delivery : row a b m.queues ≡ [] → CarriesDelivery a b None m t
  no-delivery is = (go (queue t a b) refl (h.queues a b from to ∙ is), h)
    where
      go : (q : List ℕ) → queue t a b ≡ q → map (message_of t) q ≡ [] → next_message t a b ≡ None
      go [] e says = ap first e
      go (k ∷ ks) e says = absurd (let bad : message_of t k ∷ map (message_of t) ks ≡ [] = says in cc)

-- 3. At first

pub none-carried : Carries no_mail no_traffic
none-carried = record {
  calls = tt;
  queues = λ a b from to. sym (get_or-replicate {A = List Message} 81 (9 * a + b) [] [] (omega (arith, from, to)));
  once = tt;
  sent = λ k there. let bad : false ≡ true = there in cc;
}
