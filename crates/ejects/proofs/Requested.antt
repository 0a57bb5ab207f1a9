-- A request that came to the node, whole: it is allowed, and the node and the calls stand for the site after it.
use Rattle.std.proofs.Common.{◌≡◌, ◌==◌, ◌<◌, ℕ, nat_lt, Bool, true, false, cond, not, List, [], ◌∷◌, ◌++◌, length, Option, None, Some}
use Rattle.std.proofs.Common.{refl, sym, ◌∙◌, ap, subst, arith}
use Rattle.std.specs.Prelude.{is_some, IsSomeAnd}
use Rattle.std.specs.List.{filter}
use Rattle.std.specs.Option.{option_map}
use Rattle.std.specs.Ordering.{nat_cmp, eq_by_cmp}
use Rattle.eden_value.specs.declared.status.Status.{Status}
use Rattle.eden_value.specs.declared.status.Status.TheVariants as status
use Rattle.eden_model.specs.Map.{value_at, uid_cmp}
use Rattle.eden_model.specs.Lines.{has}
use Rattle.eden_model.proofs.Numbers.{same-true}
use Rattle.eden_model.specs.Traffic as traffic
use Rattle.eden_model.specs.Traffic.{Traffic, Place, asked, held, call_at, taken, changed_call, at_place, replied, next_message}
use Rattle.invocation.specs.declared.call.Call.{Call}
use Rattle.invocation.specs.declared.call.Delivery.TheVariants.{Request}
use Rattle.invocation.specs.Mail.{Mail}
use Rattle.invocation.specs.Numbers.{item_in}
use Rattle.invocation.specs.Carries.{Same, Carries, CarriesDelivery, is_awaited}
use Rattle.invocation.proofs.CarriesLaws.{found-call}
use Rattle.journal.specs.declared.event.Event.TheVariants as event
use Rattle.journal.specs.World.{Site, on_eject, on_traffic}
use Rattle.journal.specs.Deliveries.{misfit, requested}
use Rattle.journal.specs.Processes.{class_of}
use Rattle.active_part.specs.Body.{Body}
use Rattle.ejects.specs.Parts.{Parts, body_at, held_of, queue_of, Stands, IsStep}
use Rattle.ejects.specs.Refusals.{refusal_of}
use Rattle.active_part.specs.Bodies.{joined_body}
use Rattle.ejects.specs.View.{call_at_place, with_body, JoinsPassive}
use Rattle.std.proofs.lemmas.Bool.Decides.{nat_tests}
use Rattle.ejects.proofs.Admitting.{refusal-active}
use Rattle.ejects.proofs.Delivered.{refused-stands, joins-active, joins-passive, request-allowed}

-- 1. The call is the one that the site has

pub same-call : (x : Call) (c : traffic.Call) (place : Place) → Same x c → c.place ≡ place → is_awaited place ≡ true
    → c ≡ call_at_place place x
same-call x c place same at awaited =
    let args = same.args (ap is_awaited at ∙ awaited) in
    λ i. record {
      asker = same.asker i;
      target = same.target i;
      operation = same.operation i;
      args = args i;
      open_ = same.open_ i;
      place = at i;
    }

pub found-at-place : (m : Mail) (t : Traffic) (k : ℕ) (x : Call) (place : Place) → Carries m t → item_in k m.calls ≡ Some x
    → option_map (λ (c : traffic.Call). c.place) (call_at t k) ≡ Some place → is_awaited place ≡ true
    → call_at t k ≡ Some (call_at_place place x)
found-at-place m t k x place carries item is awaited =
    let found = found-call m t carries k x item in
    let placed : Some found.call.place ≡ Some place = ap (option_map (λ (c : traffic.Call). c.place)) (sym found.is) ∙ is in
    let at : found.call.place ≡ place = cc placed in
    found.is ∙ ap (λ c. Some c) (same-call x found.call place found.same at awaited)

eq-self : (k : ℕ) → (k == k) ≡ true
eq-self k = grind arith

-- 2. What is taken is not on its way

pub taken-out : (k : ℕ) (ks : List ℕ) → has k (filter (λ j. not (j == k)) ks) ≡ false
taken-out k [] = refl
taken-out k (j ∷ ks) = go (j == k) refl (taken-out k ks)
  where
    apart : (j == k) ≡ false → eq_by_cmp nat_cmp k j ≡ false
    apart is = by (eq_by_cmp nat_cmp k j) refl
      where
        by : (b : Bool) → eq_by_cmp nat_cmp k j ≡ b → b ≡ false
        by false e = refl
        by true e = let same : k ≡ j = same-true k j e in
            absurd (let bad : true ≡ false = sym (eq-self k) ∙ ap (λ x. x == k) same ∙ is in cc bad)

    go : (b : Bool) → (j == k) ≡ b → has k (filter (λ j. not (j == k)) ks) ≡ false → has k (filter (λ j. not (j == k)) (j ∷ ks)) ≡ false
    go true is later = rw is later
    go false is later = rw is (rw (apart is) later)

-- 3. The three ends

module _ (reach : ℕ → Bool) (n : Parts) (m : Mail) (s : Site) (from k : ℕ) (x : Call) (h : Stands n s)
    (came : CarriesDelivery from n.number (Some (Request k)) m s.traffic) (item : item_in k m.calls ≡ Some x) where
  found : call_at s.traffic k ≡ Some (call_at_place asked x)
  found = found-at-place m (taken k s.traffic) k x asked came.2 item came.1 refl

  pub request-refused : (later : Mail) (why : Status) → refusal_of (call_at_place asked x) (held_of n x.target.uid) ≡ Some why
      → ((t : Traffic) → Carries m t → has k t.transit ≡ false → Carries later (replied why [] k t))
      → IsStep reach n later s (event.Request k from n.number (Some why))
  unfolding on_traffic
  request-refused later why is answers = record {
    allowed = request-allowed n s k from n.number (call_at_place asked x) (Some why) h came.0 found refl is;
    is_at = record { parts = refused-stands n s k why h; calls = answers (taken k s.traffic) came.2 (taken-out k s.traffic.transit) };
  }

  held-traffic : (requested k None s).traffic ≡ changed_call k (at_place held) (taken k s.traffic)
  unfolding on_traffic on_eject
  held-traffic = rw found refl

  pub request-active : (class : ℕ) (b : Body) → refusal_of (call_at_place asked x) (held_of n x.target.uid) ≡ None
      → body_at n x.target.uid ≡ Some b → class ≡ class_of b.kind (call_at_place asked x)
      → IsStep reach (with_body x.target.uid (joined_body (record { call = k; class = class }) b) n) m s
      (event.Request k from n.number None)
  request-active class b is at in_class = record {
    allowed = request-allowed n s k from n.number (call_at_place asked x) None h came.0 found refl is;
    is_at = record {
      parts = joins-active n s k class (call_at_place asked x) b h found at in_class;
      calls = subst (Carries m) (sym held-traffic) came.3;
    };
  }

  pub request-passive : (new : Parts) → refusal_of (call_at_place asked x) (held_of n x.target.uid) ≡ None → body_at n x.target.uid ≡ None
      → is_some (n.standing x.target.uid) ≡ true → JoinsPassive x.target.uid k n new
      → IsStep reach new m s (event.Request k from n.number None)
  request-passive new is none there joins = record {
    allowed = request-allowed n s k from n.number (call_at_place asked x) None h came.0 found refl is;
    is_at = record {
      parts = joins-passive n new s k (call_at_place asked x) h found none there joins.standing joins.node
          (joins.here ∙ ap (λ o. Some (queue_of o (value_at uid_cmp x.target.uid n.waiting) ++ k ∷ [])) (sym none)) joins.others;
      calls = subst (Carries m) (sym held-traffic) came.3;
    };
  }

  few-from : (len : ℕ) (other : Option Status) → cond (not (nat_lt len 64)) (Some status.Busy) other ≡ None → len < 64
  few-from len other is = go (nat_lt len 64) refl is
    where
      go : (b : Bool) → nat_lt len 64 ≡ b → cond (not b) (Some status.Busy) other ≡ None → len < 64
      go true e is = grind (arith, nat_tests, e)
      go false e is = absurd (cc is)

  -- in the words of the contracts
  pub request-joined : (new : Parts) (class : ℕ) → refusal_of (call_at_place asked x) (held_of n x.target.uid) ≡ None
      → IsSomeAnd (body_at n x.target.uid) (λ b. class ≡ class_of b.kind (call_at_place asked x))
      → ((b : Body) → body_at n x.target.uid ≡ Some b → length b.crew.queued < 64
      → new ≡ with_body x.target.uid (joined_body (record { call = k; class = class }) b) n)
      → IsStep reach new m s (event.Request k from n.number None)
  request-joined new class is in_class joins = go (body_at n x.target.uid) refl in_class
    where
      go : (o : Option Body) → body_at n x.target.uid ≡ o → IsSomeAnd o (λ b. class ≡ class_of b.kind (call_at_place asked x))
          → IsStep reach new m s (event.Request k from n.number None)
      go None at class_is = absurd class_is
      go (Some b) at class_is =
          let few : length b.crew.queued < 64 = few-from (length b.crew.queued) (misfit b.kind (call_at_place asked x))
          (sym (refusal-active n x.target.uid b (call_at_place asked x) at) ∙ is) in
          subst (λ p. IsStep reach p m s (event.Request k from n.number None)) (sym (joins b at few))
          (request-active class b is at class_is)
