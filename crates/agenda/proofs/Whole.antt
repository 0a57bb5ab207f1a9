-- The four lists of keys that are looked through are all keys of the site.
use Rattle.std.proofs.Common.{◌≡◌, ℕ, Bool, List, ◌++◌, Option, sym, ap, ◌∙◌}
use Rattle.std.specs.Prelude.{◌↔◌, IsTrue, is_some}
use Rattle.std.specs.declared.ops.ControlFlow.{ControlFlow}
use Rattle.capability.specs.declared.Uid.{Uid}
use Rattle.eden_model.specs.Map.{first}
use Rattle.journal.specs.declared.event.Key.{Key}
use Rattle.journal.specs.Enabled.{node_keys}
use Rattle.journal.specs.Sites.{IsSoundSite}
use Rattle.journal.specs.World.{Site}
use Rattle.ejects.specs.Parts.{Parts, Stands}
use Rattle.agenda.specs.Indexed.{wake_keys_but, store_key, WorksOn}
use Rattle.agenda.specs.Keys.{Indices, IsAgenda, start_keys, run_keys}
use Rattle.agenda.specs.Places.{at_place}
use Rattle.agenda.proofs.AtPlaces.{then_at, at-append}
use Rattle.agenda.proofs.Nexts.{keys-are}

pub at-four : (w t r k : List Key) (i : ℕ) → at_place (((w ++ t) ++ r) ++ k) i ≡ then_at k (then_at r (then_at t (at_place w i)))
at-four w t r k i =
    at-append ((w ++ t) ++ r) k i ∙ ap (then_at k) (at-append (w ++ t) r i)
    ∙ ap (λ (x : ControlFlow Key ℕ). then_at k (then_at r x)) (at-append w t i)

pub four-places : (n : Parts) (a : Indices) (s : Site) → IsSoundSite s → Stands n s → IsAgenda a n → (worked : Option Uid) (pending : Bool)
    → WorksOn s worked → IsTrue pending ↔ IsTrue (is_some (first s.node.requests)) → (station : ℕ) → station ≡ n.number → (i : ℕ)
    → then_at (store_key station pending) (then_at (run_keys n a.run) (then_at (start_keys station a.start)
    (at_place (wake_keys_but station worked a.wake) i))) ≡ at_place (node_keys s) i
four-places n a s sound h is worked pending works waits station here i =
    sym (at-four (wake_keys_but station worked a.wake) (start_keys station a.start) (run_keys n a.run) (store_key station pending) i)
    ∙ ap (λ (ks : List Key). at_place ks i)
    (ap (λ (m : ℕ). wake_keys_but m worked a.wake ++ start_keys m a.start ++ run_keys n a.run ++ store_key m pending) here
    ∙ sym (keys-are n a s sound h is worked pending works waits))
