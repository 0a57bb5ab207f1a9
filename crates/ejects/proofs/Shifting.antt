-- What a turn of a process leaves of its node as the disk knows it: all but the requests.
use Rattle.std.proofs.Common.{◌≡◌, ℕ, nat_le, Bool, true, false, cond, List, [], ◌∷◌, ◌++◌, length, Option, None, Some, refl, sym, ◌∙◌, ap}
use Rattle.std.proofs.Common.{subst}
use Rattle.std.specs.Prelude.{is_some}
use Rattle.std.specs.List.{filter_map}
use Rattle.capability.specs.declared.Uid.{Uid}
use Rattle.capability.specs.declared.TheConstants.{BODY_LIMIT}
use Rattle.eden_value.specs.declared.status.Status.TheVariants as status
use Rattle.eden_codec.specs.Spelling.{spelling}
use Rattle.eden_model.specs.Map.{with_item}
use Rattle.eden_model.specs.Crew.{outside, set_waits, locked, left, waited, signalled}
use Rattle.eden_model.specs.declared.Asker.TheVariants.{Eject as Process}
use Rattle.eden_model.specs.Traffic.{next_call, with_call}
use Rattle.epl_syntax.specs.declared.effect.Answer.TheVariants.{Code}
use Rattle.epl_syntax.specs.declared.effect.Effect.{Effect}
use Rattle.epl_syntax.specs.declared.effect.Effect.TheVariants as effect
use Rattle.epl_syntax.specs.Meaning.{Turned, rep_of}
use Rattle.journal.specs.EjectChange.{EjectChange, body, removal}
use Rattle.journal.specs.World.{Active, Eject, Site, StoreRequest, eject_in, on_eject}
use Rattle.journal.specs.Ejects.{with_active, on_active, on_crew, dropped_of, is_there, deactivated, turned_away, gone_if_unkept, tells}
use Rattle.journal.specs.Processes.{turn_of, turned, without_process, answers, asks_store, refused_at_once, waits_or_told}
use Rattle.journal.specs.Processes.{effected, serving, process_turn}
use Rattle.checkpoint.proofs.Shifts.{Shift, same_facts, same_requests, shift-same, shift-then, shift-on_eject, shift-both, shift-tells}
use Rattle.checkpoint.proofs.Shifts.{shift-requests, shift-item, shift-turned_away, shift-deactivated, dropped_if, is_active_in}
use Rattle.checkpoint.specs.Changes.{facts_of}
use Rattle.active_part.specs.Body.{Body, active_of}
use Rattle.ejects.specs.Parts.{Parts, known, body_at, Stands}
use Rattle.active_part.specs.Bodies.{turned_body}
use Rattle.ejects.specs.View.{with_body}
use Rattle.ejects.proofs.Delivered.{active-as, found-active, body-now}
use Rattle.ejects.proofs.Turns.{stays-active, effect-is}

-- the request of a process for a change
abbrev pub wished : Uid → ℕ → EjectChange → StoreRequest
wished u p change = record { uid = u; process = Some p; change = change; made = 0 }

-- the requests of a node after an effect, where these bytes spell what is to be kept
abbrev pub asked_after : Uid → ℕ → List ℕ → Effect → List StoreRequest → List StoreRequest
asked_after u p bytes effect.Checkpoint rs = cond (nat_le (length bytes) BODY_LIMIT) (rs ++ wished u p (body bytes) ∷ []) rs
asked_after u p bytes effect.Destroy rs = rs ++ wished u p removal ∷ []
asked_after u p bytes effect.Deactivate rs = filter_map (dropped_of u) rs
asked_after u p bytes (effect.Fault cause) rs = filter_map (dropped_of u) rs
asked_after u p bytes _ rs = rs

-- no Eject is created
abbrev pub CreatesNone : Effect → Type 0
CreatesNone (effect.Create type_name) = ⊥
CreatesNone _ = Unit {0}

facts-active : (f : Active → Active) (e : Eject) → facts_of (Some (on_active f e)) ≡ facts_of (Some e)
facts-active f e = go e.active
  where
    go : (o : Option Active) → facts_of (Some (with_item o (λ it. with_active (Some (f it)) e) e)) ≡ facts_of (Some e)
    go None = refl
    go (Some it) = refl

shift-active : (u : Uid) (f : Active → Active) (s : Site) → Shift same_facts same_requests s (on_eject u (on_active f) s)
shift-active u f s = shift-on_eject u (on_active f) s (facts-active f)

behind : (k : List StoreRequest → List StoreRequest) (s t v : Site) → Shift same_facts same_requests s t → Shift same_facts k t v
    → Shift same_facts k s v
behind k s t v a b = shift-then same_facts same_facts same_requests k s t v a b

shift-gone : (u : Uid) (x : Site) → Shift same_facts same_requests x (gone_if_unkept u x)
shift-gone u x =
    shift-item same_requests x (eject_in x u) (λ e. cond (is_there e) x (turned_away u status.Gone x)) (λ e is. go (is_there e))
  where
    go : (b : Bool) → Shift same_facts same_requests x (cond b x (turned_away u status.Gone x))
    go true = shift-same x
    go false = shift-turned_away u status.Gone x

shift-asks : (u : Uid) (p : ℕ) (change : EjectChange) (x : Site)
    → Shift same_facts (λ rs. rs ++ wished u p change ∷ []) x (asks_store u p change x)
shift-asks u p change x = behind (λ rs. rs ++ wished u p change ∷ []) x (on_eject u (on_active (on_crew (set_waits p outside))) x)
    (asks_store u p change x)
    (shift-active u (on_crew (set_waits p outside)) x)
    (shift-requests (λ rs. rs ++ wished u p change ∷ []) (on_eject u (on_active (on_crew (set_waits p outside))) x))

module _ (n : Parts) (s : Site) (u : Uid) (p : ℕ) (b : Body) (h : Stands n s) (at : body_at n u ≡ Some b) (reach : ℕ → Bool)
    (t : Turned) (is : turn_of u (active_of b) p ≡ Some t) where
  abbrev later : Site
  later = on_eject u (on_active (turned p t)) s

  abbrev parts : Parts
  parts = with_body u (turned_body p t b) n

  abbrev bytes : List ℕ
  bytes = spelling (rep_of b.kind t.vars)

  later-stands : Stands parts later
  later-stands = stays-active n s u b (turned_body p t b) (turned p t) h at refl refl refl

  active-later : is_active_in later u ≡ true
  active-later =
      let f = found-active parts later u (turned_body p t b) later-stands (body-now n u (turned_body p t b)) in
      let was = active-as parts u (turned_body p t b) f.eject (ap known (sym f.is) ∙ later-stands.ejects u)
      (body-now n u (turned_body p t b)) in
      ap (λ o. with_item o (λ (e : Eject). is_some e.active) false) f.is ∙ ap is_some was.active

  drops : Shift same_facts (filter_map (dropped_of u)) later (deactivated u later)
  drops = subst (λ x. Shift same_facts (dropped_if x u) later (deactivated u later)) active-later (shift-deactivated u later)

  effect-shift : (e : Effect) → CreatesNone e
      → Shift same_facts (asked_after u p bytes e) later (effected reach u p (serving (active_of b) p) b.kind t.vars e later)
  effect-shift (effect.Return results) none =
      shift-both u (on_active (without_process p)) (answers (serving (active_of b) p) results) later (facts-active (without_process p))
  effect-shift effect.End none = shift-active u (without_process p) later
  effect-shift effect.Checkpoint none = go (nat_le (length bytes) BODY_LIMIT)
    where
      go : (x : Bool) → Shift same_facts (λ rs. cond x (rs ++ wished u p (body bytes) ∷ []) rs) later
          (cond x (asks_store u p (body bytes) later) (tells u p (Code status.TooLarge) later))
      go true = shift-asks u p (body bytes) later
      go false = shift-tells u p (Code status.TooLarge) later
  effect-shift effect.Destroy none = shift-asks u p removal later
  effect-shift effect.Deactivate none = shift-then same_facts same_facts (filter_map (dropped_of u)) same_requests later
      (deactivated u later) (gone_if_unkept u (deactivated u later)) drops (shift-gone u (deactivated u later))
  effect-shift (effect.Fault cause) none = shift-then same_facts same_facts (filter_map (dropped_of u)) same_requests later
      (deactivated u later) (turned_away u status.Dropped (deactivated u later)) drops
      (shift-turned_away u status.Dropped (deactivated u later))
  effect-shift (effect.Create type_name) none = absurd none
  effect-shift (effect.Invoke target operation args) none =
      shift-both u (on_active (waits_or_told p (refused_at_once (reach target.uid.node) args)))
      (λ x. with_call (next_call x) (Process u p) target operation args (refused_at_once (reach target.uid.node) args) x) later
      (facts-active (waits_or_told p (refused_at_once (reach target.uid.node) args)))
  effect-shift (effect.Lock m) none = shift-active u (on_crew (locked p m)) later
  effect-shift (effect.Leave m) none = shift-active u (on_crew (left m)) later
  effect-shift (effect.Wait c) none = shift-active u (on_crew (waited p c)) later
  effect-shift (effect.Signal c) none = shift-active u (on_crew (signalled c)) later
  effect-shift effect.Yield none = shift-same later

  pub process-shift : CreatesNone t.effect
      → Shift same_facts (asked_after u p (spelling (rep_of b.kind t.vars)) t.effect) s (process_turn reach u p s)
  process-shift none = subst (Shift same_facts (asked_after u p bytes t.effect) s) (sym (effect-is n s u p b h at reach t is t.effect refl))
      (behind (asked_after u p bytes t.effect) s later
      (effected reach u p (serving (active_of b) p) b.kind t.vars t.effect later)
      (shift-active u (turned p t) s) (effect-shift t.effect none))
