-- A call that is asked, and a reply that is sent, in the model's traffic.
use Rattle.std.proofs.Common.{subst, ◌≡◌, ◌≤◌, ℕ, zero, suc, ◌+◌, ◌-◌, ◌==◌, Bool, true, false, cond, not, ◌&&◌, List, [], ◌∷◌, ◌++◌}
use Rattle.std.proofs.Common.{length, Option, None, Some, refl, sym, ◌∙◌, ap, arith}
use Rattle.std.specs.Option.{option_map}
use Rattle.std.specs.Ordering.{nat_cmp, eq_by_cmp}
use Rattle.std.specs.Cmp.{nat_cmp_total}
use Rattle.std.specs.FinMap.Entries.{find-put}
use Rattle.capability.specs.declared.Cap.{Cap}
use Rattle.eden_value.specs.Datum.{Datum}
use Rattle.eden_value.specs.declared.status.Status.{Status}
use Rattle.eden_model.specs.Map.{with_item, value_at, put_at}
use Rattle.eden_model.specs.Crew.{change}
use Rattle.eden_model.specs.Lines.{has}
use Rattle.eden_model.proofs.Numbers.{same-self}
use Rattle.eden_model.specs.declared.Asker.{Asker}
use Rattle.eden_model.specs.Traffic.{Traffic, answered, done, asked, call_at, goes, goes_by, asking_station, target_station, in_transit}
use Rattle.eden_model.specs.Traffic.{changed_call, at_place, sent, replied, new_call, with_call}
use Rattle.eden_model.specs.Traffic as traffic
use Rattle.invocation.specs.declared.call.Call.{Call}
use Rattle.invocation.specs.declared.call.Message.TheVariants.{Request, Reply}
use Rattle.invocation.specs.Queues.{sent_to}
use Rattle.invocation.specs.Numbers.{item_in}
use Rattle.invocation.specs.Mail.{Mail, is_open, target_of, spent, asked_call, with_asked}
use Rattle.invocation.specs.Carries.{Carries, Same, Agree, is_sent, message_at, message_of}
use Rattle.invocation.proofs.Filters.{apart, eq-self}
use Rattle.invocation.proofs.Agreed.{agree-changed, agree-push}
use Rattle.invocation.proofs.CarriesLaws.{FoundCall, found-at, none-after, asked-call}
use Rattle.invocation.proofs.Moves.{goes_of, same-sent, once-came, sent-came}
use Rattle.invocation.proofs.Carried.{rows-came, rows-still, other-call, this-call, answered-same, done-same}

-- 1. Replies

both-self : (x y : ℕ) → ((x == x) && (y == y)) ≡ true
both-self x y = rw (eq-self x, eq-self y) refl

module _ (m : Mail) (t : Traffic) (h : Carries m t) (pairs : length m.queues ≡ 81) (k : ℕ) (c : Call) (is : item_in k m.calls ≡ Some c)
    (out : has k t.transit ≡ false) where
  given : 1 ≤ k
  given = go k is
    where
      go : (j : ℕ) → item_in j m.calls ≡ Some c → 1 ≤ j
      go zero e = cc
      go (suc j) e = omega arith

  found : FoundCall c (call_at t k)
  found = go k is
    where
      go : (j : ℕ) → item_in j m.calls ≡ Some c → FoundCall c (value_at nat_cmp j t.calls)
      go zero e = absurd (let bad : None ≡ Some c = e in cc)
      go (suc j) e = let n : 1 + j ≡ suc j = omega arith in
          subst (λ i. FoundCall c (value_at nat_cmp i t.calls)) n (found-at 1 m.calls t.calls h.calls j c e)

  replied-is : (s : Status) (results : List Datum)
      → replied s results k t ≡ cond (not c.closed) (sent k (answered s results) t) (changed_call k (at_place done) t)
  replied-is s results =
      ap (λ (o : Option traffic.Call). with_item o (λ d. cond d.open_ (sent k (answered s results) t) (changed_call k (at_place done) t)) t)
      found.is
      ∙ ap (λ b. cond b (sent k (answered s results) t) (changed_call k (at_place done) t)) found.same.open_

  sent-carried : (s : Status) (results : List Datum) → target_of c ≤ 8 → asking_station c.asker ≤ 8
      → Carries (record {
        calls = change (k - 1) spent m.calls;
        queues =
            sent_to (target_of c) (asking_station c.asker) (Reply k s results) m.queues;
      }) (sent k (answered s results) t)
  sent-carried s results from to = record {
    calls = agree-changed spent (at_place (answered s results)) k 1 m.calls t.calls (λ x d at same. answered-same x d s results same) given
        h.calls;
    queues = rows-came m t h pairs (target_of c) (asking_station c.asker) from to u k refl out others (Reply k s results) there says;
    once = once-came t u k refl out others h.once;
    sent = sent-came t u k refl out others here h.sent;
  }
    where
      u : Traffic
      u = sent k (answered s results) t

      others : (j : ℕ) → eq_by_cmp nat_cmp j k ≡ false → call_at u j ≡ call_at t j
      others j other = other-call t k j (at_place (answered s results)) other

      now : call_at u k ≡ Some (at_place (answered s results) found.call)
      now = this-call t k (at_place (answered s results)) ∙ ap (option_map (at_place (answered s results))) found.is

      there : goes u (target_of c) (asking_station c.asker) k ≡ true
      there =
          ap (λ o. goes_of o (target_of c) (asking_station c.asker)) now
          ∙ ap (λ x. (asking_station x == asking_station c.asker) && (target_station found.call == target_of c)) found.same.asker
          ∙ ap (λ (x : Cap). (asking_station c.asker == asking_station c.asker) && (x.uid.node == target_of c)) found.same.target
          ∙ both-self (asking_station c.asker) (target_of c)

      says : message_of u k ≡ Reply k s results
      says = ap (λ (o : Option traffic.Call). with_item o (λ d. message_at k d.place) (Request k)) now

      here : is_sent u k ≡ true
      here = ap (λ (o : Option traffic.Call). with_item o (λ d. in_transit d.place) false) now

  done-carried : Carries (record m { calls = change (k - 1) spent m.calls }) (changed_call k (at_place done) t)
  done-carried = record {
    calls = agree-changed spent (at_place done) k 1 m.calls t.calls (λ x d at same. done-same x d same) given h.calls;
    queues = λ a b from to. rows-still t (changed_call k (at_place done) t) refl others a b ∙ h.queues a b from to;
    once = h.once;
    sent = λ j there. same-sent t (changed_call k (at_place done) t) j (others j there) ∙ h.sent j there;
  }
    where
      others : (j : ℕ) → has j t.transit ≡ true → call_at (changed_call k (at_place done) t) j ≡ call_at t j
      others j there = other-call t k j (at_place done) (apart t.transit k j out there)

  pub reply-carried : (s : Status) (results : List Datum) → target_of c ≤ 8 → asking_station c.asker ≤ 8 → c.closed ≡ false
      → Carries (record {
        calls = change (k - 1) spent m.calls;
        queues =
            sent_to (target_of c) (asking_station c.asker) (Reply k s results) m.queues;
      }) (replied s results k t)
  reply-carried s results from to is_open =
      subst (Carries (record {
        calls = change (k - 1) spent m.calls;
        queues =
            sent_to (target_of c) (asking_station c.asker) (Reply k s results) m.queues;
      }))
      (sym (replied-is s results ∙ ap (λ b. cond (not b) (sent k (answered s results) t) (changed_call k (at_place done) t)) is_open))
      (sent-carried s results from to)

  pub no-reply-carried : (s : Status) (results : List Datum) → c.closed ≡ true
      → Carries (record m { calls = change (k - 1) spent m.calls }) (replied s results k t)
  no-reply-carried s results is_closed =
      subst (Carries (record m { calls = change (k - 1) spent m.calls }))
      (sym (replied-is s results ∙ ap (λ b. cond (not b) (sent k (answered s results) t) (changed_call k (at_place done) t)) is_closed))
      done-carried

  pub either-carried : (s : Status) (results : List Datum) → (is_open c ≡ true → target_of c ≤ 8) → asking_station c.asker ≤ 8
      → Carries (record {
        calls = change (k - 1) spent m.calls;
        queues =
            cond (is_open c) (sent_to (target_of c) (asking_station c.asker) (Reply k s results) m.queues) m.queues;
      }) (replied s results k t)
  either-carried s results from to = go c.closed refl
    where
      go : (b : Bool) → c.closed ≡ b
          → Carries (record {
            calls = change (k - 1) spent m.calls;
            queues =
                cond (is_open c) (sent_to (target_of c) (asking_station c.asker) (Reply k s results) m.queues) m.queues;
          })
          (replied s results k t)
      go true e = rw e (no-reply-carried s results e)
      go false e = rw e (reply-carried s results (from (ap not e)) to e)

-- a number that was never given
pub never-given : (m : Mail) (t : Traffic) → Carries m t → (k : ℕ) → item_in k m.calls ≡ None → (s : Status) (results : List Datum)
    → replied s results k t ≡ t
never-given m t h k none s results = go (call_at t k) refl
  where
    go : (o : Option traffic.Call) → call_at t k ≡ o → replied s results k t ≡ t
    go None e = rw e refl
    go (Some d) e = let found = asked-call m t h k d e in absurd (let bad : None ≡ Some found.call = sym none ∙ found.is in cc)

-- 2. A new call

module _ (m : Mail) (t : Traffic) (h : Carries m t) (pairs : length m.queues ≡ 81) (asker : Asker) (target : Cap) (operation : List ℕ)
    (args : List Datum) where
  abbrev number : ℕ
  number = length m.calls + 1

  absent : call_at t number ≡ None
  absent = none-after 1 m.calls t.calls h.calls (length m.calls + 1) (omega arith)

  new : has number t.transit ≡ false
  new = go (has number t.transit) refl
    where
      go : (b : Bool) → has number t.transit ≡ b → b ≡ false
      go true e = let no : is_sent t number ≡ false = ap (λ (o : Option traffic.Call). with_item o (λ c. in_transit c.place) false) absent
          in let bad : true ≡ false = sym (h.sent number e) ∙ no in cc
      go false e = refl

  others : (at_once : Option Status) (j : ℕ) → eq_by_cmp nat_cmp j number ≡ false
      → value_at nat_cmp j (put_at nat_cmp number (new_call asker target operation args at_once) t.calls) ≡ call_at t j
  others at_once j other = rw (find-put nat_cmp nat_cmp_total j number (new_call asker target operation args at_once) t.calls, other) refl

  this : (at_once : Option Status) → value_at nat_cmp number (put_at nat_cmp number (new_call asker target operation args at_once) t.calls)
      ≡ Some (new_call asker target operation args at_once)
  this at_once = rw (find-put nat_cmp nat_cmp_total number number (new_call asker target operation args at_once) t.calls, same-self number)
      refl

  same-open : Same (asked_call asker target operation args false) (new_call asker target operation args None)
  same-open = record { asker = refl; target = refl; operation = refl; open_ = refl; args = λ e. refl }

  same-refused : (s : Status) → Same (asked_call asker target operation args true) (new_call asker target operation args (Some s))
  same-refused s = record { asker = refl; target = refl; operation = refl; open_ = refl; args = λ e. let bad : false ≡ true = e in cc }

  pub ask-carried : (at_once : Option Status) → asking_station asker ≤ 8 → (at_once ≡ None → target.uid.node ≤ 8)
      → Carries (with_asked asker target operation args at_once m) (with_call (length m.calls + 1) asker target operation args at_once t)
  ask-carried None from to = record {
    calls = subst (λ n. Agree 1 (m.calls ++ asked_call asker target operation args false ∷ [])
        (put_at nat_cmp n (new_call asker target operation args None) t.calls)) one
        (agree-push (asked_call asker target operation args false) (new_call asker target operation args None) same-open 1 m.calls t.calls
        h.calls);
    queues = rows-came m t h pairs (asking_station asker) target.uid.node from (to refl) u number refl new (others None)
        (Request number) there says;
    once = once-came t u number refl new (others None) h.once;
    sent = sent-came t u number refl new (others None) here h.sent;
  }
    where
      one : 1 + length m.calls ≡ length m.calls + 1
      one = omega arith

      u : Traffic
      u = with_call (length m.calls + 1) asker target operation args None t

      there : goes u (asking_station asker) target.uid.node number ≡ true
      there = ap (λ o. goes_of o (asking_station asker) target.uid.node) (this None) ∙ both-self (asking_station asker) target.uid.node

      says : message_of u number ≡ Request number
      says = ap (λ (o : Option traffic.Call). with_item o (λ d. message_at number d.place) (Request number)) (this None)

      here : is_sent u number ≡ true
      here = ap (λ (o : Option traffic.Call). with_item o (λ d. in_transit d.place) false) (this None)
  ask-carried (Some s) from to = record {
    calls = subst (λ n. Agree 1 (m.calls ++ asked_call asker target operation args true ∷ [])
        (put_at nat_cmp n (new_call asker target operation args (Some s)) t.calls)) one
        (agree-push (asked_call asker target operation args true) (new_call asker target operation args (Some s))
        (same-refused s) 1 m.calls t.calls h.calls);
    queues = λ a b a8 b8. rows-still t u refl still a b ∙ h.queues a b a8 b8;
    once = h.once;
    sent = λ j there. same-sent t u j (still j there) ∙ h.sent j there;
  }
    where
      one : 1 + length m.calls ≡ length m.calls + 1
      one = omega arith

      u : Traffic
      u = with_call (length m.calls + 1) asker target operation args (Some s) t

      still : (j : ℕ) → has j t.transit ≡ true → call_at u j ≡ call_at t j
      still j there = others (Some s) j (apart t.transit number j new there)
