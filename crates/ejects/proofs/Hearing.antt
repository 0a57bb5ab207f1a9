-- A reply that came to a process of the node, whole: it is allowed, and the node and the calls stand for the site after it.
use Rattle.std.proofs.Common.{◌≡◌, ◌==◌, ◌&&◌, ℕ, Bool, true, false, List, [], ◌∷◌, Option, None, Some, refl, sym, ◌∙◌, ap, subst, arith}
use Rattle.std.specs.Prelude.{IsSomeAnd}
use Rattle.std.specs.List.{filter}
use Rattle.std.specs.Option.{option_map}
use Rattle.std.proofs.lemmas.Bool.Decides.{nat_tests}
use Rattle.capability.specs.declared.Uid.{Uid}
use Rattle.eden_value.specs.Datum.{Datum}
use Rattle.eden_value.specs.declared.status.Status.{Status}
use Rattle.eden_model.specs.Map.{first, with_item}
use Rattle.eden_model.specs.Crew.{outside, Waits}
use Rattle.eden_model.specs.declared.Asker.{Asker}
use Rattle.eden_model.specs.declared.Asker.TheVariants.{Shell, Eject as Process}
use Rattle.eden_model.specs.Traffic.{Traffic, Call, Place, answered, call_at, goes, goes_by, asking_station, target_station}
use Rattle.eden_model.specs.Traffic.{next_message, waiting_process}
use Rattle.epl_syntax.specs.declared.effect.Answer.TheVariants.{Reply as Told}
use Rattle.invocation.specs.Mail.{Mail}
use Rattle.invocation.specs.Carries.{Carries, CarriesDelivery, IsAskedBy}
use Rattle.invocation.specs.Carries as carries
use Rattle.invocation.specs.declared.call.Delivery.TheVariants.{Reply}
use Rattle.journal.specs.declared.event.Event.TheVariants as event
use Rattle.journal.specs.World.{Eject, Site, eject_in}
use Rattle.journal.specs.Deliveries.{heard}
use Rattle.journal.specs.Sites.{IsSoundSite, IsOpenOf, WaitsIn, active_in}
use Rattle.active_part.specs.Body.{Body, active_of}
use Rattle.ejects.specs.Parts.{Parts, Known, known, body_at, Stands, IsStep}
use Rattle.active_part.specs.Bodies.{told_body}
use Rattle.ejects.specs.View.{with_body}
use Rattle.ejects.proofs.Heard.{heard-closed, heard-open, heard-traffic, reply-allowed}

-- 1. What is told of the call

pub record FoundReply (t : Traffic) (k : ℕ) (place : Place) (was_open : Bool) (process : Option (Uid × ℕ)) : Type 0 where
  pub call : Call
  pub is : call_at t k ≡ Some call
  pub at : call.place ≡ place
  pub open_ : call.open_ ≡ was_open
  pub asker : waiting_process call.asker ≡ process

pub found-reply : (t : Traffic) (k : ℕ) (place : Place) (was_open : Bool) (process : Option (Uid × ℕ))
    → carries.IsAt t k place → IsAskedBy t k was_open process → FoundReply t k place was_open process
found-reply t k place was_open process at by = go (call_at t k) refl at by.0 by.1
  where
    go : (o : Option Call) → call_at t k ≡ o → option_map (λ (c : Call). c.place) o ≡ Some place
        → option_map (λ (c : Call). c.open_) o ≡ Some was_open → option_map (λ (c : Call). waiting_process c.asker) o ≡ Some process
        → FoundReply t k place was_open process
    go None is at open_ asker = absurd (let bad : None ≡ Some was_open = open_ in cc bad)
    go (Some c) is at open_ asker =
        let placed : Some c.place ≡ Some place = at in
        let opened : Some c.open_ ≡ Some was_open = open_ in
        let asked : Some (waiting_process c.asker) ≡ Some process = asker in
        record { call = c; is = is; at = cc placed; open_ = cc opened; asker = cc asked }

process-asked : (a : Asker) (u : Uid) (p : ℕ) → waiting_process a ≡ Some (u, p) → a ≡ Process u p
process-asked (Shell name) u p is = absurd (let bad : ◌≡◌ {A = Option (Uid × ℕ)} None (Some (u, p)) = is in cc bad)
process-asked (Process v q) u p is =
    let both : ◌≡◌ {A = Option (Uid × ℕ)} (Some (v, q)) (Some (u, p)) = is in
    let pair : ◌≡◌ {A = Uid × ℕ} (v, q) (u, p) = cc both in
    λ i. Process (pair i).0 (pair i).1

-- 2. It has come to the asker's node

first-of : (P : ℕ → Bool) (ks : List ℕ) (k : ℕ) → first (filter P ks) ≡ Some k → P k ≡ true
first-of P [] k is = absurd (let bad : None ≡ Some k = is in cc bad)
first-of P (j ∷ ks) k is = go (P j) refl is (first-of P ks k)
  where
    go : (b : Bool) → P j ≡ b → first (filter P (j ∷ ks)) ≡ Some k → (first (filter P ks) ≡ Some k → P k ≡ true) → P k ≡ true
    go true at is later =
        let here : Some j ≡ Some k = rw at at is in
        let same : j ≡ k = cc here in
        subst (λ x. P x ≡ true) same at
    go false at is later = later (rw at at is)

both-first : (a b : Bool) → (a && b) ≡ true → a ≡ true
both-first true b is = refl
both-first false b is = absurd (let bad : false ≡ true = is in cc bad)

asker-here : (t : Traffic) (a b k : ℕ) (c : Call) (why : Status) (values : List Datum) → next_message t a b ≡ Some k → call_at t k ≡ Some c
    → c.place ≡ answered why values → asking_station c.asker ≡ b
asker-here t a b k c why values next is at =
    let passes : goes t a b k ≡ true = first-of (goes t a b) t.transit k next in
    let by_place : goes_by c.place (asking_station c.asker) (target_station c) a b ≡ true =
    sym (ap (λ o. with_item o (λ c. goes_by c.place (asking_station c.asker) (target_station c) a b) false) is) ∙ passes in
    let by : ((asking_station c.asker == b) && (target_station c == a)) ≡ true =
    sym (ap (λ place. goes_by place (asking_station c.asker) (target_station c) a b) at) ∙ by_place in
    let same : (asking_station c.asker == b) ≡ true = both-first (asking_station c.asker == b) (target_station c == a) by in
    grind (arith, nat_tests, same)

-- 3. The process is there

pub record FoundBody (n : Parts) (u : Uid) : Type 0 where
  pub body : Body
  pub is : body_at n u ≡ Some body

-- and it waits
pub record FoundWaiting (n : Parts) (u : Uid) (p : ℕ) : Type 0 where
  pub body : Body
  pub is : body_at n u ≡ Some body
  pub waits : Waits body.crew.crew p outside

known-active : (o : Option Eject) → (known o).active ≡ active_in o
known-active None = refl
known-active (Some e) = refl

pub waiting-body : (n : Parts) (s : Site) (u : Uid) (p : ℕ) → Stands n s → WaitsIn (eject_in s u) p → FoundWaiting n u p
waiting-body n s u p h waits = go (body_at n u) refl (subst (λ o. IsSomeAnd o (λ it. Waits it.crew p outside)) at waits)
  where
    at : active_in (eject_in s u) ≡ option_map active_of (body_at n u)
    at = sym (known-active (eject_in s u)) ∙ ap (λ (k : Known). k.active) (h.ejects u)

    go : (o : Option Body) → body_at n u ≡ o → IsSomeAnd (option_map active_of o) (λ it. Waits it.crew p outside) → FoundWaiting n u p
    go None is waits = absurd waits
    go (Some b) is waits = record { body = b; is = is; waits = waits }

-- 4. The step

module _ (reach : ℕ → Bool) (n new : Parts) (later : Mail) (s : Site) (from k : ℕ) (why : Status) (values : List Datum) (u : Uid) (p : ℕ)
    (h : Stands n s) where
  abbrev pub Came : Bool → Type 0
  Came was_open = CarriesDelivery from n.number (Some (Reply k why values was_open (Some (u, p)))) later s.traffic

  pub reply-closed : Came false → IsStep reach n later s (event.Reply k from n.number None why values)
  reply-closed came =
      let f = found-reply s.traffic k (answered why values) false (Some (u, p)) came.1 came.2 in
      let asker = process-asked f.call.asker u p f.asker in
      record {
        allowed = reply-allowed n s k f.call why values h f.is from n.number u p came.0 f.at asker;
        is_at = record {
          parts = heard-closed n s k f.call why values h f.is f.open_;
          calls = subst (Carries later) (sym (heard-traffic n s k f.call why values h f.is)) came.3;
        };
      }

  pub reply-open : IsSoundSite s → Came true → ((b : Body) → body_at n u ≡ Some b → Waits b.crew.crew p outside
      → new ≡ with_body u (told_body p (Told why values) b) n)
      → IsStep reach new later s (event.Reply k from n.number None why values)
  reply-open sound came told =
      let f = found-reply s.traffic k (answered why values) true (Some (u, p)) came.1 came.2 in
      let asker = process-asked f.call.asker u p f.asker in
      let here : u.node ≡ n.number = sym (ap asking_station asker) ∙ asker-here s.traffic from n.number k f.call why values came.0 f.is
      f.at in
      let is_open : IsOpenOf s.traffic u p k = rw f.is (f.open_, asker) in
      let found = waiting-body n s u p h ((sound.processes u p (here ∙ sym h.number)).asks k is_open).0 in
      record {
        allowed = reply-allowed n s k f.call why values h f.is from n.number u p came.0 f.at asker;
        is_at = record {
          parts = subst (λ y. Stands y (heard k why values s)) (sym (told found.body found.is found.waits))
              (heard-open n s k f.call why values h f.is u p found.body f.open_ asker found.is);
          calls = subst (Carries later) (sym (heard-traffic n s k f.call why values h f.is)) came.3;
        };
      }
