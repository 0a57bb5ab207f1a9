-- Many calls are answered, one after another.
use Rattle.std.proofs.Common.{◌≡◌, ◌<◌, ℕ, zero, suc, map, ◌+◌, Bool, true, false, cond, List, [], ◌∷◌, ◌++◌, length, get_or, drop}
use Rattle.std.proofs.Common.{add-one, Option, None, Some, refl, ◌∙◌, subst, arith}
use Rattle.std.specs.Ordering.{nat_cmp, eq_by_cmp}
use Rattle.eden_value.specs.declared.status.Status.{Status}
use Rattle.eden_model.specs.Map.{with_item}
use Rattle.eden_model.specs.Lines.{has, Distinct}
use Rattle.eden_model.proofs.LineLaws.{or-left, or-right, has-push_other}
use Rattle.eden_model.proofs.Numbers.{same-comm}
use Rattle.eden_model.specs.Traffic.{Traffic, Call, answered, done, call_at, changed_call, at_place, sent, replied, all_replied}
use Rattle.invocation.specs.Mail.{Mail}
use Rattle.invocation.specs.Carries.{Carries}
use Rattle.ejects.specs.Replies.{AreOut}

-- a call that is on no way stays so as another is answered
still-out : (s : Status) (j k : ℕ) (t : Traffic) → has j t.transit ≡ false → eq_by_cmp nat_cmp j k ≡ false
    → has j (replied s [] k t).transit ≡ false
still-out s j k t out other = go (call_at t k)
  where
    on : (b : Bool) → has j (cond b (sent k (answered s []) t) (changed_call k (at_place done) t)).transit ≡ false
    on true = has-push_other j k t.transit out other
    on false = out

    go : (o : Option Call) → has j (with_item o
        (λ c. cond c.open_ (sent k (answered s []) t) (changed_call k (at_place done) t)) t).transit ≡ false
    go None = out
    go (Some c) = on c.open_

pub are-still-out : (s : Status) (k : ℕ) (ks : List ℕ) (t : Traffic) → has k ks ≡ false → AreOut t ks → AreOut (replied s [] k t) ks
are-still-out s k [] t none out = tt
are-still-out s k (j ∷ ks) t none out = (
  still-out s j k t out.0 (same-comm j k ∙ or-left (eq_by_cmp nat_cmp k j) (has k ks) none),
  are-still-out s k ks t (or-right (eq_by_cmp nat_cmp k j) (has k ks) none) out.1,
)

-- these are left to answer, from a traffic that the calls carry
pub record OnAnswering (s : Status) (now : Mail) (all left : List ℕ) (t : Traffic) : Type 0 where
  pub later : Traffic
  pub carries : Carries now later
  pub out : AreOut later left
  pub once : Distinct left
  pub same : all_replied s left later ≡ all_replied s all t

abbrev pub IsAnswering : Status → Mail → Mail → List ℕ → List ℕ → Type 0
IsAnswering s old now all left = (t : Traffic) → Carries old t → AreOut t all → Distinct all → OnAnswering s now all left t

pub answering-start : (s : Status) (m : Mail) (all : List ℕ) → IsAnswering s m m all all
answering-start s m all t carries out once = record { later = t; carries = carries; out = out; once = once; same = refl }

pub answering-on : (s : Status) (old mid new : Mail) (all : List ℕ) (k : ℕ) (left : List ℕ) → IsAnswering s old mid all (k ∷ left)
    → ((t : Traffic) → Carries mid t → has k t.transit ≡ false → Carries new (replied s [] k t)) → IsAnswering s old new all left
answering-on s old mid new all k left h reply t carries out once =
    let r = h t carries out once in
    record {
      later = replied s [] k r.later;
      carries = reply r.later r.carries r.out.0;
      out = are-still-out s k left r.later r.once.0 r.out.1;
      once = r.once.1;
      same = r.same;
    }

pub answering-at : (s : Status) (old mid new : Mail) (all : List ℕ) (i k : ℕ) → drop i all ≡ k ∷ drop (suc i) all
    → IsAnswering s old mid all (drop i all)
    → ((t : Traffic) → Carries mid t → has k t.transit ≡ false → Carries new (replied s [] k t))
    → IsAnswering s old new all (drop (i + 1) all)
answering-at s old mid new all i k is h reply = rw add-one
    (answering-on s old mid new all k (drop (suc i) all) (subst (IsAnswering s old mid all) is h) reply)

pub drop-map : {X : Type 0} (f : X → ℕ) (xs : List X) (i : ℕ) (d : X) → i < length xs
    → drop i (map f xs) ≡ f (get_or xs i d) ∷ drop (suc i) (map f xs)
drop-map f [] i d lt = absurd (omega (arith, lt))
drop-map f (x ∷ xs) zero d lt = refl
drop-map f (x ∷ xs) (suc i) d lt = drop-map f xs i d (omega (arith, lt))

has-second : (j : ℕ) (js ks : List ℕ) → has j (js ++ ks) ≡ false → has j ks ≡ false
has-second j [] ks h = h
has-second j (x ∷ js) ks h = has-second j js ks (or-right (eq_by_cmp nat_cmp j x) (has j (js ++ ks)) h)

-- those that were not answered stay out
pub out-after : (s : Status) (js ks : List ℕ) (t : Traffic) → Distinct (js ++ ks) → AreOut t ks → AreOut (all_replied s js t) ks
out-after s [] ks t once out = out
out-after s (j ∷ js) ks t once out = out-after s js ks (replied s [] j t) once.1 (are-still-out s j ks t (has-second j js ks once.0) out)

has-first : (j : ℕ) (js ks : List ℕ) → has j (js ++ ks) ≡ false → has j js ≡ false
has-first j [] ks h = refl
has-first j (x ∷ js) ks h = rw (or-left (eq_by_cmp nat_cmp j x) (has j (js ++ ks)) h)
    (has-first j js ks (or-right (eq_by_cmp nat_cmp j x) (has j (js ++ ks)) h))

pub distinct-first : (js ks : List ℕ) → Distinct (js ++ ks) → Distinct js
distinct-first [] ks d = tt
distinct-first (j ∷ js) ks d = (has-first j js ks d.0, distinct-first js ks d.1)

pub distinct-second : (js ks : List ℕ) → Distinct (js ++ ks) → Distinct ks
distinct-second [] ks d = d
distinct-second (j ∷ js) ks d = distinct-second js ks d.1

pub answering-end : (s : Status) (old new : Mail) (all : List ℕ) → IsAnswering s old new all [] → (t : Traffic) → Carries old t
    → AreOut t all → Distinct all → Carries new (all_replied s all t)
answering-end s old new all h t carries out once = let r = h t carries out once in subst (Carries new) r.same r.carries
