-- An activation on a disk that neither fails nor stops.
use Rattle.std.proofs.Common.{◌≡◌, ℕ, Bool, true, false, cond, List, Option, None, Some, is_some, refl, ◌∙◌, ap}
use Rattle.std.specs.Prelude.{IsSomeAnd}
use Rattle.capability.specs.declared.Uid.{Uid}
use Rattle.eden_value.specs.Datum.{Datum}
use Rattle.eden_model.specs.Map.{with_item}
use Rattle.epl_syntax.specs.Edentype.{Edentype}
use Rattle.epl_syntax.specs.Meaning.{values_from}
use Rattle.passive_store.specs.declared.store.Pick.{Pick}
use Rattle.journal.specs.declared.event.StartEnd.{StartEnd}
use Rattle.journal.specs.declared.event.StartEnd.TheVariants as end
use Rattle.journal.specs.World.{Eject, Site, eject_in, on_node}
use Rattle.journal.specs.Ejects.{fresh}
use Rattle.journal.specs.Settling.{to_settle, settled, unsynced}
use Rattle.journal.specs.Starts.{start_of, StartsSo, FailsSettling, StartsFrom, awake_as, awake_from, awake, start_settled}
use Rattle.journal.specs.Starts.{misfits_answered}
use Rattle.journal.specs.Granted.{kept_settled}
use Rattle.journal.specs.Sites.{active_in}
use Rattle.history_laws.proofs.SiteParts.{eject-here}
use Rattle.history_laws.proofs.Frame.{eject-on_traffic}
use Rattle.undisturbed_runs.specs.Turns.{start_end_of}

-- 1. How it ends

abbrev pub is_fault : StartEnd → Bool
is_fault end.Fault = true
is_fault _ = false

abbrev pub is_stop : StartEnd → Bool
is_stop end.Stop = true
is_stop _ = false

ends-so : (types : List Edentype) (u : Uid) (kept : Option (List ℕ)) (how : StartEnd) → is_fault how ≡ false → is_stop how ≡ false
    → StartsSo types u kept how → how ≡ start_end_of types u kept
ends-so types u kept end.Fault no_fault no_stop h = absurd (cc no_fault)
ends-so types u kept end.Stop no_fault no_stop h = absurd (cc no_stop)
ends-so types u None end.Gone no_fault no_stop h = refl
ends-so types u None end.Ok no_fault no_stop h = absurd h
ends-so types u None end.Damaged no_fault no_stop h = absurd h
ends-so types u (Some bytes) end.Ok no_fault no_stop h = rw h refl
ends-so types u (Some bytes) end.Damaged no_fault no_stop h = rw h refl
ends-so types u (Some bytes) end.Gone no_fault no_stop h = absurd h

fails-not : (how : StartEnd) → is_fault how ≡ false → is_stop how ≡ false → FailsSettling how → ⊥
fails-not end.Fault no_fault no_stop h = cc no_fault
fails-not end.Stop no_fault no_stop h = cc no_stop
fails-not end.Ok no_fault no_stop h = h
fails-not end.Gone no_fault no_stop h = h
fails-not end.Damaged no_fault no_stop h = h

-- a pick comes exactly where there is something to settle, and what is kept then decides
pub ends-by-kept : (s : Site) (u : Uid) (how : StartEnd) (p : Option Pick) → is_fault how ≡ false → is_stop how ≡ false
    → StartsFrom s u (to_settle s) how p → (to_settle s ≡ is_some p) × (how ≡ start_end_of s.types u (kept_settled u p s))
ends-by-kept s u how p no_fault no_stop h = go (to_settle s) p h
  where
    by : (o : Option Eject) → IsSomeAnd o (λ e. StartsSo s.types u e.kept how)
        → how ≡ start_end_of s.types u (with_item o (λ e. e.kept) None)
    by None h = absurd h
    by (Some e) h = ends-so s.types u e.kept how no_fault no_stop h

    go : (b : Bool) (p : Option Pick) → StartsFrom s u b how p
        → (b ≡ is_some p) × (how ≡ start_end_of s.types u (kept_settled u p s))
    go false None h = (refl, by (eject_in s u) h.1)
    go false (Some k) h = absurd (let bad : Some k ≡ None = h.0 in cc bad)
    go true None h = absurd (fails-not how no_fault no_stop h)
    go true (Some k) h = (refl, by (eject_in (settled (Some k) s) u) h)

-- 2. What it starts from

-- the Ejects behind the settling
settled-ejects : (u : Uid) (p : Option Pick) (s : Site) → eject_in (settled p (unsynced s)) u ≡ eject_in (settled p s) u
unfolding on_node
settled-ejects u None s = refl
settled-ejects u (Some k) s = refl

settled-types : (p : Option Pick) (s : Site) → (settled p (unsynced s)).types ≡ s.types
unfolding on_node
settled-types None s = refl
settled-types (Some k) s = refl

pub start-ejects : (u : Uid) (p : Option Pick) (s : Site) → to_settle s ≡ is_some p
    → eject_in (start_settled p s) u ≡ eject_in (settled p s) u
start-ejects u None s is = ap (λ b. eject_in (cond b (settled None (unsynced s)) s) u) is
start-ejects u (Some k) s is = ap (λ b. eject_in (cond b (settled (Some k) (unsynced s)) s) u) is ∙ settled-ejects u (Some k) s

pub start-types : (p : Option Pick) (s : Site) → (start_settled p s).types ≡ s.types
start-types p s = go (to_settle s)
  where
    go : (b : Bool) → (cond b (settled p (unsynced s)) s).types ≡ s.types
    go true = settled-types p s
    go false = refl

awake-active : (u : Uid) (e : Eject) (start : Edentype × List Datum) (s : Site) → eject_in s u ≡ Some e
    → active_in (eject_in (awake_as u e start s) u) ≡ Some (fresh start.0 (values_from start.0 start.1))
awake-active u e start s at = ap active_in (eject-on_traffic u (misfits_answered start.0 e.queued) _ ∙ eject-here u _ s e at)

-- an Eject wakes from the bytes that are kept
pub awake-from-kept : (u : Uid) (s : Site) (bytes : List ℕ) (start : Edentype × List Datum)
    → with_item (eject_in s u) (λ e. e.kept) None ≡ Some bytes → start_of s.types bytes u ≡ Some start
    → active_in (eject_in (awake u s) u) ≡ Some (fresh start.0 (values_from start.0 start.1))
awake-from-kept u s bytes start kept starts = go (eject_in s u) refl kept
  where
    from : (e : Eject) → eject_in s u ≡ Some e
        → active_in (eject_in (awake_from u e bytes s) u) ≡ Some (fresh start.0 (values_from start.0 start.1))
    from e at = ap (λ o. active_in (eject_in (with_item o (λ x. awake_as u e x s) s) u)) starts ∙ awake-active u e start s at

    go : (o : Option Eject) → eject_in s u ≡ o → with_item o (λ e. e.kept) None ≡ Some bytes
        → active_in (eject_in (with_item o (λ e. with_item e.kept (λ b. awake_from u e b s) s) s) u)
        ≡ Some (fresh start.0 (values_from start.0 start.1))
    go None at is = absurd (cc is)
    go (Some e) at is = ap (λ o. active_in (eject_in (with_item o (λ b. awake_from u e b s) s) u)) is ∙ from e at
