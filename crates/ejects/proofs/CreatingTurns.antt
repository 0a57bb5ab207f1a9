-- A turn in which a process creates an Eject.
use Rattle.std.proofs.Common.{◌≡◌, ℕ, Bool, true, false, cond, List, Option, None, Some, refl, sym, ◌∙◌, ap, subst}
use Rattle.std.specs.Prelude.{is_some, IsTrue, IsSomeAnd, Result, Ok, Err}
use Rattle.std.specs.Option.{option_map}
use Rattle.std.specs.Ordering.{eq_by_cmp}
use Rattle.capability.specs.declared.Uid.{Uid}
use Rattle.capability.proofs.Uids.{uid_cmp_total, uid_cmp-IsAntisymmetric}
use Rattle.eden_value.specs.declared.status.Status.{Status}
use Rattle.eden_model.specs.Crew.{Runs}
use Rattle.eden_model.specs.Map.{uid_cmp}
use Rattle.eden_model.proofs.Laws.{value-changed}
use Rattle.epl_syntax.specs.Edentype.{Edentype}
use Rattle.epl_syntax.specs.Meaning.{Turned, type_of}
use Rattle.epl_syntax.specs.declared.effect.Effect.{Effect}
use Rattle.epl_syntax.specs.declared.effect.Effect.TheVariants as effect
use Rattle.invocation.specs.Mail.{Mail}
use Rattle.invocation.specs.Carries.{Carries}
use Rattle.journal.specs.declared.event.Event.TheVariants as event
use Rattle.journal.specs.declared.event.Shown.{Shown}
use Rattle.journal.specs.World.{Active, Eject, Site, eject_in, on_eject, on_node}
use Rattle.journal.specs.Ejects.{on_active, next_uid}
use Rattle.journal.specs.Processes.{CreatesKnown, creates, shown_creation, shown_of, turn_of, turned, process_turn}
use Rattle.journal.specs.Sites.{IsSoundSite}
use Rattle.history_laws.proofs.Creations.{next-active}
use Rattle.history_laws.proofs.Ordered.{order-changed}
use Rattle.active_part.specs.Body.{Body, active_of}
use Rattle.active_part.specs.Bodies.{turned_body, serves_of}
use Rattle.ejects.specs.Creations.{HasNewUid, CreatedFor, MayTurn}
use Rattle.ejects.specs.Parts.{Parts, body_at, Stands, IsAt, IsStep}
use Rattle.ejects.specs.View.{with_body}
use Rattle.ejects.proofs.Acting.{HasTurn, turn-allowed, may-create, mid-body, by-body}
use Rattle.ejects.proofs.Turns.{stays-active, effect-is}

-- 1. The site behind the turn, up to its effect

ready-later : (u : Uid) (f : Active → Active) (s : Site) → HasNewUid s → HasNewUid (on_eject u (on_active f) s)
unfolding on_eject
ready-later u f s ready = record {
  in_order = order-changed u (on_active f) s.node.ejects ready.in_order;
  is_new = λ v next. value-changed uid_cmp uid_cmp_total uid_cmp-IsAntisymmetric v u (on_active f) s.node.ejects
      ∙ go v (ready.is_new v (sym (next-active u f s ready.in_order) ∙ next)) (eq_by_cmp uid_cmp v u);
}
  where
    go : (v : Uid) → eject_in s v ≡ None → (b : Bool) → cond b (option_map (on_active f) (eject_in s v)) (eject_in s v) ≡ None
    go v none true = ap (option_map (on_active f)) none
    go v none false = none

same-types : (u : Uid) (f : Eject → Eject) (s : Site) → (on_eject u f s).types ≡ s.types
unfolding on_eject
same-types u f s = refl

turned-traffic : (u : Uid) (f : Eject → Eject) (s : Site) → (on_eject u f s).traffic ≡ s.traffic
unfolding on_eject
turned-traffic u f s = refl

creates-traffic : (u : Uid) (p : ℕ) (o : Option Edentype) (made : Result Uid Status) (x : Site) → (creates u p o made x).traffic ≡ x.traffic
unfolding on_eject on_node
creates-traffic u p None made x = refl
creates-traffic u p (Some t) (Ok v) x = refl
creates-traffic u p (Some t) (Err why) x = refl

-- 2. The turn

module _ (reach : ℕ → Bool) (n mid new : Parts) (m later : Mail) (s : Site) (u : Uid) (p : ℕ) (said : Shown)
    (sound : IsSoundSite s) (at : IsAt n m s) where
  module _ (b : Body) (is : body_at n u ≡ Some b) (t : HasTurn u p b) (name : List ℕ) (same : effect.Create name ≡ t.turn.effect)
      (ready : HasNewUid s) where
    abbrev now : Site
    now = on_eject u (on_active (turned p t.turn)) s

    turn-traffic : (process_turn reach u p s).traffic ≡ s.traffic
    turn-traffic = ap (λ (x : Site). x.traffic) (effect-is n s u p b at.parts is reach t.turn t.is_turn (effect.Create name) (sym same))
        ∙ creates-traffic u p (type_of now.types name) (next_uid now) now ∙ turned-traffic u (on_active (turned p t.turn)) s

    known : IsTrue (is_some (type_of now.types name)) → CreatesKnown s.types (effect.Create name)
    known h = subst (λ ts. IsTrue (is_some (type_of ts name))) (same-types u (on_active (turned p t.turn)) s) h

    create-step : CreatedFor u p name new said now → Carries later s.traffic → IsStep reach new later s (event.Process u p said)
    create-step r carries = record {
      allowed = turn-allowed n s u p b said at.parts is t (subst (CreatesKnown s.types) same (known r.known))
          (r.shown ∙ ap shown_creation (next-active u (turned p t.turn) s ready.in_order) ∙ ap (shown_of s (serves_of b p)) same);
      is_at = record {
        parts = subst (Stands new) (sym (effect-is n s u p b at.parts is reach t.turn t.is_turn (effect.Create name) (sym same))) r.stands;
        calls = subst (Carries later) (sym turn-traffic) carries;
      };
    }

  -- in the words of the contract
  pub process-creates : (e : Effect) (name : List ℕ) → MayTurn s → IsSomeAnd (body_at n u) (λ b. Runs b.crew.crew p)
      → ((b : Body) (t : Turned) → body_at n u ≡ Some b → turn_of u (active_of b) p ≡ Some t
      → (e ≡ t.effect) × (mid ≡ with_body u (turned_body p t b) n))
      → e ≡ effect.Create name
      → ((b : Body) (x : Site) → body_at mid u ≡ Some b → Runs b.crew.crew p → HasNewUid x
      → IsTrue (is_some (type_of x.types name)) → Stands mid x
      → CreatedFor u p name new said x)
      → Carries later s.traffic → IsStep reach new later s (event.Process u p said)
  process-creates e name may runs turns is_create created carries =
      by-body reach n mid new m later s u p said sound at e runs turns (λ b is t mid_is same.
      create-step b is t name (sym is_create ∙ same) may.new_uid
      (created (turned_body p t.turn b) (on_eject u (on_active (turned p t.turn)) s)
      (mid-body reach n mid new m later s u p said sound at b is t mid_is)
      (subst (λ o. IsSomeAnd o (λ x. Runs x.crew.crew p)) is runs) (ready-later u (turned p t.turn) s may.new_uid)
      (subst (λ ts. IsTrue (is_some (type_of ts name))) (sym (same-types u (on_active (turned p t.turn)) s))
      (subst (CreatesKnown s.types) (sym (sym is_create ∙ same)) (may-create n s u p b at.parts is may.turns t)))
      (subst (λ y. Stands y (on_eject u (on_active (turned p t.turn)) s)) (sym mid_is)
      (stays-active n s u b (turned_body p t.turn b) (turned p t.turn) at.parts is refl refl refl)))
      carries)
