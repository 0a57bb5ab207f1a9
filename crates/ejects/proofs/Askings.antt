-- The worker's requests after a turn of a process are those of the node.
use Rattle.std.proofs.Common.{◌≡◌, ◌≤◌, ◌<◌, ℕ, ◌==◌, nat_le, Bool, true, false, cond, List, [], ◌∷◌, ◌++◌, length, Some}
use Rattle.std.proofs.Common.{refl, sym, ◌∙◌, ap, subst, arith}
use Rattle.std.proofs.lemmas.Bool.{eqb-true}
use Rattle.std.proofs.lemmas.Bool.Decides.{nat_tests}
use Rattle.std.specs.Prelude.{IsSomeAnd, Option, None, Result, Ok, Err}
use Rattle.std.specs.List.{filter_map}
use Rattle.capability.specs.declared.Uid.{Uid}
use Rattle.capability.specs.declared.TheConstants.{BODY_LIMIT}
use Rattle.eden_codec.specs.Spelling.{spelling}
use Rattle.epl_syntax.specs.declared.effect.Effect.{Effect}
use Rattle.epl_syntax.specs.declared.effect.Effect.TheVariants as effect
use Rattle.epl_syntax.specs.declared.effect.FaultCause.{FaultCause}
use Rattle.epl_syntax.specs.Meaning.{Turned, rep_of}
use Rattle.passive_store.specs.Kept.{Work, Idle, Busy, Unsettled, is_busy}
use Rattle.passive_store.specs.Kept.{StoreChange}
use Rattle.journal.specs.EjectChange.{body}
use Rattle.eden_value.specs.declared.status.Status.{Status}
use Rattle.epl_syntax.specs.Edentype.{Edentype}
use Rattle.epl_syntax.specs.Meaning.{type_of}
use Rattle.journal.specs.World.{Site, on_eject, on_node, on_traffic}
use Rattle.journal.specs.Ejects.{dropped_of, next_uid, on_active}
use Rattle.journal.specs.Processes.{creates, turn_of, turned, process_turn}
use Rattle.checkpoint.specs.Asked.{request_of, requests_of}
use Rattle.checkpoint.specs.Queues.{put_of, removal_of, left_in}
use Rattle.checkpoint.specs.StoreStands.{RequestsStand}
use Rattle.checkpoint.specs.declared.worker.Request.{Request}
use Rattle.checkpoint.specs.declared.worker.Worker.{Worker}
use Rattle.checkpoint.proofs.Dropped.{left-waiting, left-begun, requests-more}
use Rattle.eden_model.specs.Crew.{Runs}
use Rattle.invocation.specs.Mail.{Mail}
use Rattle.journal.specs.Sites.{IsSoundSite}
use Rattle.journal.specs.declared.event.Shown.TheVariants as shown
use Rattle.active_part.specs.Body.{Body, active_of}
use Rattle.ejects.specs.Parts.{Parts, body_at, Stands, IsAt}
use Rattle.active_part.specs.Bodies.{turned_body}
use Rattle.ejects.specs.View.{with_body}
use Rattle.ejects.specs.Asking.{with_put, RequestsAre}
use Rattle.ejects.specs.Passive.{IsKeptIn}
use Rattle.ejects.proofs.Acting.{by-turn}
use Rattle.ejects.proofs.Turns.{effect-is}
use Rattle.ejects.proofs.Drops.{fault-requests, sleeps-requests}
use Rattle.ejects.proofs.Storing.{destroys-requests, checkpoints-requests}

-- 1. What is left of a queue

unsure-idle : (c : StoreChange) (synced : Bool) (qs : List Request) → requests_of (Unsettled c synced) qs ≡ requests_of Idle qs
unsure-idle c synced [] = refl
unsure-idle c synced (q ∷ qs) = refl

some-made : (made : ℕ) → 1 ≤ made → (made == 0) ≡ false
some-made made h = go (made == 0) refl
  where
    go : (b : Bool) → (made == 0) ≡ b → b ≡ false
    go false is = refl
    go true is = absurd (let zero : made ≡ 0 = eqb-true made 0 is in omega (arith, zero, h))

queue-left : (work : Work) (size : ℕ) (begun : Bool) (u : Uid) (qs : List Request) → begun ≡ is_busy work
    → RequestsStand work size (requests_of work qs)
    → requests_of work (left_in begun u qs) ≡ filter_map (dropped_of u) (requests_of work qs)
queue-left Idle size begun u qs is stand = rw is (left-waiting u qs)
queue-left (Unsettled c synced) size begun u qs is stand =
    rw is (unsure-idle c synced (left_in false u qs) ∙ left-waiting u qs ∙ ap (filter_map (dropped_of u)) (sym (unsure-idle c synced qs)))
queue-left (Busy c made left) size begun u qs is stand = rw is (left-begun u c made left qs (some-made made stand.some_made))

-- 2. A turn that asks for nothing

abbrev pub IsQuiet : Effect → Type 0
IsQuiet effect.Checkpoint = ⊥
IsQuiet effect.Destroy = ⊥
IsQuiet effect.Deactivate = ⊥
IsQuiet (effect.Fault cause) = ⊥
IsQuiet _ = Unit {0}

creates-requests : (u : Uid) (p : ℕ) (o : Option Edentype) (made : Result Uid Status) (x : Site)
    → (creates u p o made x).node.requests ≡ x.node.requests
unfolding on_eject on_node
creates-requests u p None made x = refl
creates-requests u p (Some t) (Ok v) x = refl
creates-requests u p (Some t) (Err why) x = refl

module _ (n : Parts) (s : Site) (u : Uid) (p : ℕ) (b : Body) (h : Stands n s) (at : body_at n u ≡ Some b) (reach : ℕ → Bool)
    (t : Turned) (is : turn_of u (active_of b) p ≡ Some t) where
  quiet-requests : (e : Effect) → IsQuiet e → t.effect ≡ e → (process_turn reach u p s).node.requests ≡ s.node.requests
  unfolding on_traffic on_eject
  quiet-requests (effect.Return results) quiet same =
      ap (λ (x : Site). x.node.requests) (effect-is n s u p b h at reach t is (effect.Return results) same)
  quiet-requests (effect.Invoke target operation args) quiet same =
      ap (λ (x : Site). x.node.requests) (effect-is n s u p b h at reach t is (effect.Invoke target operation args) same)
  quiet-requests effect.End quiet same = ap (λ (x : Site). x.node.requests) (effect-is n s u p b h at reach t is effect.End same)
  quiet-requests (effect.Lock m) quiet same = ap (λ (x : Site). x.node.requests) (effect-is n s u p b h at reach t is (effect.Lock m) same)
  quiet-requests (effect.Leave m) quiet same = ap (λ (x : Site). x.node.requests)
      (effect-is n s u p b h at reach t is (effect.Leave m) same)
  quiet-requests (effect.Wait c) quiet same = ap (λ (x : Site). x.node.requests) (effect-is n s u p b h at reach t is (effect.Wait c) same)
  quiet-requests (effect.Signal c) quiet same =
      ap (λ (x : Site). x.node.requests) (effect-is n s u p b h at reach t is (effect.Signal c) same)
  quiet-requests effect.Yield quiet same = ap (λ (x : Site). x.node.requests) (effect-is n s u p b h at reach t is effect.Yield same)
  quiet-requests effect.Checkpoint quiet same = absurd quiet
  quiet-requests effect.Destroy quiet same = absurd quiet
  quiet-requests effect.Deactivate quiet same = absurd quiet
  quiet-requests (effect.Fault cause) quiet same = absurd quiet
  quiet-requests (effect.Create type_name) quiet same =
      ap (λ (x : Site). x.node.requests) (effect-is n s u p b h at reach t is (effect.Create type_name) same)
      ∙ creates-requests u p (type_of s.types type_name) (next_uid (on_eject u (on_active (turned p t)) s))
      (on_eject u (on_active (turned p t)) s)

  -- 3. The requests after each turn

  module _ (work : Work) (size : ℕ) (w : Worker) (q : RequestsAre work size w s) where
    stood : RequestsStand work size (requests_of work w.requests.items)
    stood = subst (RequestsStand work size) q.queue q.stand

    more : (x : Request) → requests_of work (w.requests.items ++ x ∷ []) ≡ requests_of work w.requests.items ++ request_of 0 x ∷ []
    more x = requests-more work size x w.requests.items stood

    left : requests_of work (left_in w.begun u w.requests.items) ≡ filter_map (dropped_of u) s.node.requests
    left = queue-left work size w.begun u w.requests.items q.begun stood ∙ ap (filter_map (dropped_of u)) (sym q.queue)

    pub quiet-queue : (e : Effect) → IsQuiet e → t.effect ≡ e
        → (process_turn reach u p s).node.requests ≡ requests_of work w.requests.items
    quiet-queue e quiet same = quiet-requests e quiet same ∙ q.queue

    pub fault-queue : (stays : Bool) (later : List Request) → IsKeptIn s u stays → later ≡ left_in w.begun u w.requests.items
        → (cause : FaultCause) → t.effect ≡ effect.Fault cause → (process_turn reach u p s).node.requests ≡ requests_of work later
    fault-queue stays later kept is_left cause same =
        fault-requests n s u p b stays h at kept reach t is cause same ∙ sym left ∙ ap (requests_of work) (sym is_left)

    pub sleep-queue : (stays : Bool) (later : List Request) → IsKeptIn s u stays → later ≡ left_in w.begun u w.requests.items
        → t.effect ≡ effect.Deactivate → (process_turn reach u p s).node.requests ≡ requests_of work later
    sleep-queue stays later kept is_left same =
        sleeps-requests n s u p b stays h at kept reach t is same ∙ sym left ∙ ap (requests_of work) (sym is_left)

    pub destroy-queue : (later : List Request) → later ≡ w.requests.items ++ removal_of u p ∷ [] → t.effect ≡ effect.Destroy
        → (process_turn reach u p s).node.requests ≡ requests_of work later
    destroy-queue later asked same = destroys-requests n s u p b h at reach t is same
        ∙ ap (λ rs. rs ++ request_of 0 (removal_of u p) ∷ []) q.queue ∙ sym (more (removal_of u p)) ∙ ap (requests_of work) (sym asked)

    pub checkpoint-queue : (later : List Request) → later ≡ with_put u p (spelling (rep_of b.kind t.vars)) w.requests.items
        → t.effect ≡ effect.Checkpoint → (process_turn reach u p s).node.requests ≡ requests_of work later
    checkpoint-queue later asked same = checkpoints-requests n s u p b h at reach t is same
        ∙ go (nat_le (length (spelling (rep_of b.kind t.vars))) BODY_LIMIT) ∙ ap (requests_of work) (sym asked)
      where
        bytes : List ℕ
        bytes = spelling (rep_of b.kind t.vars)

        go : (x : Bool) → cond x (s.node.requests ++ record { uid = u; process = Some p; change = body bytes; made = 0 } ∷ [])
            s.node.requests
            ≡ requests_of work (cond x (w.requests.items ++ put_of u p bytes ∷ []) w.requests.items)
        go true = ap (λ rs. rs ++ request_of 0 (put_of u p bytes) ∷ []) q.queue ∙ sym (more (put_of u p bytes))
        go false = q.queue

-- 4. What is kept of an Eject, or is too much

pub within-limit : (bytes : List ℕ) (X : Type 0) (x y : X) → length bytes ≤ BODY_LIMIT → cond (nat_le (length bytes) BODY_LIMIT) x y ≡ x
within-limit bytes X x y h = let e : nat_le (length bytes) BODY_LIMIT ≡ true = grind (arith, nat_tests, h) in rw e refl

pub past-limit : (bytes : List ℕ) (X : Type 0) (x y : X) → BODY_LIMIT < length bytes → cond (nat_le (length bytes) BODY_LIMIT) x y ≡ y
past-limit bytes X x y h = let e : nat_le (length bytes) BODY_LIMIT ≡ false = grind (arith, nat_tests, h) in rw e refl

-- 5. In the words of the contracts

module _ (reach : ℕ → Bool) (n mid : Parts) (m : Mail) (s : Site) (u : Uid) (p : ℕ) (sound : IsSoundSite s) (at : IsAt n m s) (e : Effect)
    (runs : IsSomeAnd (body_at n u) (λ b. Runs b.crew.crew p))
    (turned : (b : Body) (t : Turned) → body_at n u ≡ Some b → turn_of u (active_of b) p ≡ Some t
    → (e ≡ t.effect) × (mid ≡ with_body u (turned_body p t b) n))
    (work : Work) (size : ℕ) (w : Worker) (q : RequestsAre work size w s) (later : List Request) where
  abbrev Goal : Type 0
  Goal = (process_turn reach u p s).node.requests ≡ requests_of work later

  by : ((b : Body) (is : body_at n u ≡ Some b) (t : Turned) → turn_of u (active_of b) p ≡ Some t
      → body_at mid u ≡ Some (turned_body p t b) → t.effect ≡ e → Goal) → Goal
  by step = by-turn reach n mid mid m m s u p shown.Yield sound at e Goal runs turned step

  pub asks-nothing : (x : Effect) → IsQuiet x → e ≡ x → later ≡ w.requests.items → Goal
  asks-nothing x quiet is same = by
      (λ b here t turn mid_at now. quiet-queue n s u p b at.parts here reach t turn work size w q x quiet (now ∙ is)
      ∙ ap (requests_of work) (sym same))

  pub asks-by-fault : (stays : Bool) (cause : FaultCause) → IsKeptIn s u stays → e ≡ effect.Fault cause
      → later ≡ left_in w.begun u w.requests.items → Goal
  asks-by-fault stays cause kept is left_now = by (λ b here t turn mid_at now.
      fault-queue n s u p b at.parts here reach t turn work size w q stays later kept left_now cause (now ∙ is))

  pub asks-by-sleep : (stays : Bool) → IsKeptIn s u stays → e ≡ effect.Deactivate → later ≡ left_in w.begun u w.requests.items → Goal
  asks-by-sleep stays kept is left_now = by (λ b here t turn mid_at now.
      sleep-queue n s u p b at.parts here reach t turn work size w q stays later kept left_now (now ∙ is))

  pub asks-removal : e ≡ effect.Destroy → later ≡ w.requests.items ++ removal_of u p ∷ [] → Goal
  asks-removal is asked = by (λ b here t turn mid_at now.
      destroy-queue n s u p b at.parts here reach t turn work size w q later asked (now ∙ is))

  pub asks-put : e ≡ effect.Checkpoint
      → ((b : Body) → body_at mid u ≡ Some b → later ≡ with_put u p (spelling (rep_of b.kind b.vars)) w.requests.items) → Goal
  asks-put is asked = by (λ b here t turn mid_at now.
      checkpoint-queue n s u p b at.parts here reach t turn work size w q later (asked (turned_body p t b) mid_at) (now ∙ is))
