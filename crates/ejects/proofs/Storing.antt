-- A process that asks the store waits for it in the node and at the site; what is too long to be kept is told at once.
use Rattle.std.proofs.Common.{◌≡◌, ℕ, nat_le, Bool, true, false, cond, List, [], ◌∷◌, ◌++◌, length, Some, refl, ◌∙◌, ap}
use Rattle.capability.specs.declared.Uid.{Uid}
use Rattle.capability.specs.declared.TheConstants.{BODY_LIMIT}
use Rattle.eden_value.specs.declared.status.Status.TheVariants as status
use Rattle.eden_codec.specs.Spelling.{spelling}
use Rattle.eden_model.specs.Crew.{outside, set_waits}
use Rattle.epl_syntax.specs.declared.effect.Answer.TheVariants.{Code}
use Rattle.epl_syntax.specs.declared.effect.Effect.TheVariants as effect
use Rattle.epl_syntax.specs.Meaning.{Turned, rep_of}
use Rattle.journal.specs.EjectChange.{EjectChange, body, removal}
use Rattle.journal.specs.World.{Site, on_eject, on_node}
use Rattle.journal.specs.Ejects.{on_active, on_crew, told, tells}
use Rattle.journal.specs.Processes.{turn_of, turned, asks_store, process_turn}
use Rattle.active_part.specs.Body.{Body, active_of}
use Rattle.ejects.specs.Parts.{Parts, body_at, Stands}
use Rattle.active_part.specs.Bodies.{turned_body, told_body, crewed_body}
use Rattle.ejects.specs.Asking.{checkpointed_body}
use Rattle.ejects.specs.View.{with_body}
use Rattle.ejects.proofs.Turns.{stays-active-twice, effect-is}
use Rattle.ejects.proofs.Drops.{stays-on_node}

module _ (n : Parts) (s : Site) (u : Uid) (p : ℕ) (b : Body) (h : Stands n s) (at : body_at n u ≡ Some b) (reach : ℕ → Bool)
    (t : Turned) (is : turn_of u (active_of b) p ≡ Some t) where
  abbrev later : Site
  later = on_eject u (on_active (turned p t)) s

  asks-stands : (change : EjectChange) → Stands (with_body u (crewed_body (set_waits p outside) (turned_body p t b)) n)
      (asks_store u p change later)
  asks-stands change = stays-on_node _ _
      (λ it. record it { requests = it.requests ++ record { uid = u; process = Some p; change = change; made = 0 } ∷ [] }) refl refl refl
      (stays-active-twice n s u b (crewed_body (set_waits p outside) (turned_body p t b)) (turned p t) (on_crew (set_waits p outside)) h at
      refl refl refl)

  asks-traffic : (change : EjectChange) → (asks_store u p change later).traffic ≡ s.traffic
  unfolding on_node on_eject
  asks-traffic change = refl

  tells-traffic : (tells u p (Code status.TooLarge) later).traffic ≡ s.traffic
  unfolding on_eject
  tells-traffic = refl

  pub destroys-stands : t.effect ≡ effect.Destroy
      → Stands (with_body u (crewed_body (set_waits p outside) (turned_body p t b)) n) (process_turn reach u p s)
  destroys-stands same = rw (effect-is n s u p b h at reach t is effect.Destroy same) (asks-stands removal)

  pub destroys-traffic : t.effect ≡ effect.Destroy → (process_turn reach u p s).traffic ≡ s.traffic
  destroys-traffic same = ap (λ (x : Site). x.traffic) (effect-is n s u p b h at reach t is effect.Destroy same) ∙ asks-traffic removal

  abbrev bytes : List ℕ
  bytes = spelling (rep_of b.kind t.vars)

  pub checkpoints-stands : t.effect ≡ effect.Checkpoint
      → Stands (with_body u (checkpointed_body p (spelling (rep_of b.kind t.vars)) (turned_body p t b)) n) (process_turn reach u p s)
  checkpoints-stands same = rw (effect-is n s u p b h at reach t is effect.Checkpoint same) (go (nat_le (length bytes) BODY_LIMIT))
    where
      go : (x : Bool) → Stands (with_body u (cond x (crewed_body (set_waits p outside) (turned_body p t b))
          (told_body p (Code status.TooLarge) (turned_body p t b))) n)
          (cond x (asks_store u p (body bytes) later) (tells u p (Code status.TooLarge) later))
      go true = asks-stands (body bytes)
      go false = stays-active-twice n s u b (told_body p (Code status.TooLarge) (turned_body p t b)) (turned p t)
          (told p (Code status.TooLarge))
          h at refl refl refl

  pub checkpoints-traffic : t.effect ≡ effect.Checkpoint → (process_turn reach u p s).traffic ≡ s.traffic
  checkpoints-traffic same = ap (λ (x : Site). x.traffic) (effect-is n s u p b h at reach t is effect.Checkpoint same)
      ∙ go (nat_le (length bytes) BODY_LIMIT)
    where
      go : (x : Bool) → (cond x (asks_store u p (body bytes) later) (tells u p (Code status.TooLarge) later)).traffic ≡ s.traffic
      go true = asks-traffic (body bytes)
      go false = tells-traffic

  -- the requests of the node
  pub destroys-requests : t.effect ≡ effect.Destroy → (process_turn reach u p s).node.requests
      ≡ s.node.requests ++ record { uid = u; process = Some p; change = removal; made = 0 } ∷ []
  unfolding on_node on_eject
  destroys-requests same = ap (λ (x : Site). x.node.requests) (effect-is n s u p b h at reach t is effect.Destroy same)

  asks-requests : (x : Bool) → (cond x (asks_store u p (body bytes) later) (tells u p (Code status.TooLarge) later)).node.requests
      ≡ cond x (s.node.requests ++ record { uid = u; process = Some p; change = body bytes; made = 0 } ∷ []) s.node.requests
  unfolding on_node on_eject
  asks-requests true = refl
  asks-requests false = refl

  pub checkpoints-requests : t.effect ≡ effect.Checkpoint → (process_turn reach u p s).node.requests
      ≡ cond (nat_le (length (spelling (rep_of b.kind t.vars))) BODY_LIMIT)
      (s.node.requests ++ record { uid = u; process = Some p; change = body (spelling (rep_of b.kind t.vars)); made = 0 } ∷ [])
      s.node.requests
  checkpoints-requests same = ap (λ (x : Site). x.node.requests) (effect-is n s u p b h at reach t is effect.Checkpoint same)
      ∙ asks-requests (nat_le (length bytes) BODY_LIMIT)
