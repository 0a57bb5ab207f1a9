-- What a message that is on its way is, by where its call stands.
use Rattle.std.proofs.Common.{◌≡◌, ◌⊎◌, ◌==◌, ◌≤◌, ◌&&◌, inl, inr, ℕ, Bool, true, false, List, [], ◌∷◌, map, Option, None, Some}
use Rattle.std.proofs.Common.{refl, sym, ◌∙◌, ap}
use Rattle.std.proofs.lemmas.Bool.{eqb-true}
use Rattle.eden_value.specs.Datum.{Datum}
use Rattle.eden_value.specs.declared.status.Status.{Status}
use Rattle.eden_model.specs.Map.{first, with_item}
use Rattle.eden_model.specs.Traffic.{Place, Traffic, Call, asked, held, answered, done as over, asking_station, call_at, goes, goes_by}
use Rattle.eden_model.specs.Traffic.{next_message, queue, target_station}
use Rattle.invocation.specs.Carries.{Carries, message_of}
use Rattle.invocation.specs.Mail.{Mail, queue_at}
use Rattle.invocation.specs.declared.call.Message.{Message}
use Rattle.invocation.specs.declared.call.Message.TheVariants.{Request, Reply}
use Rattle.history_laws.proofs.EntryLists.{first-passes}

-- the request of a call on its way to its target's node
pub record IsRequest (t : Traffic) (b k : ℕ) (m : Message) : Type 0 where
  pub call : Call
  pub at : call_at t k ≡ Some call
  pub place : call.place ≡ asked
  pub target : target_station call ≡ b
  pub message : m ≡ Request k

-- the reply of a call on its way to its asker's station
pub record IsReply (t : Traffic) (b k : ℕ) (m : Message) : Type 0 where
  pub call : Call
  pub at : call_at t k ≡ Some call
  pub asker : asking_station call.asker ≡ b
  pub status : Status
  pub results : List Datum
  pub message : m ≡ Reply k status results

abbrev pub Arrives : Traffic → ℕ → ℕ → Message → Type 0
Arrives t b k m = IsRequest t b k m ⊎ IsReply t b k m

both-true : (a b : Bool) → (a && b) ≡ true → (a ≡ true) × (b ≡ true)
both-true true true e = (refl, refl)
both-true true false e = absurd (cc e)
both-true false b e = absurd (cc e)

pub arrives : (t : Traffic) (a b k : ℕ) → next_message t a b ≡ Some k → Arrives t b k (message_of t k)
arrives t a b k is = go (call_at t k) refl (first-passes (goes t a b) t.transit k is)
  where
    by_place : (c : Call) → call_at t k ≡ Some c → (p : Place) → c.place ≡ p
        → goes_by p (asking_station c.asker) (target_station c) a b ≡ true → Arrives t b k (message_of t k)
    by_place c at asked place way = inl (record {
      call = c;
      at = at;
      place = place;
      target = eqb-true (target_station c) b (both-true (asking_station c.asker == a) (target_station c == b) way).1;
      message = rw (at, place) refl;
    })
    by_place c at held place way = absurd (cc way)
    by_place c at (answered s values) place way = inr (record {
      call = c;
      at = at;
      asker = eqb-true (asking_station c.asker) b (both-true (asking_station c.asker == b) (target_station c == a) way).0;
      status = s;
      results = values;
      message = rw (at, place) refl;
    })
    by_place c at over place way = absurd (cc way)

    go : (o : Option Call) → call_at t k ≡ o
        → with_item o (λ c. goes_by c.place (asking_station c.asker) (target_station c) a b) false ≡ true
        → Arrives t b k (message_of t k)
    go None at way = absurd (cc way)
    go (Some c) at way = by_place c at c.place refl way

first-of : {X Y : Type 0} (f : X → Y) (xs : List X) (x : X) → first xs ≡ Some x → first (map f xs) ≡ Some (f x)
first-of f [] x is = absurd (cc is)
first-of f (y ∷ ys) x is = let same : y ≡ x = cc in ap (λ z. Some (f z)) same

-- it stands first in its queue
pub first-there : (m : Mail) (t : Traffic) (a b k : ℕ) → Carries m t → a ≤ 8 → b ≤ 8 → next_message t a b ≡ Some k
    → first (queue_at a b m) ≡ Some (message_of t k)
first-there m t a b k carries from to is =
    ap first (sym (carries.queues a b from to)) ∙ first-of (message_of t) (queue t a b) k is
