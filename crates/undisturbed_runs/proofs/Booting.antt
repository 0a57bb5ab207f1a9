-- A boot on a disk that neither fails nor stops.
use Rattle.std.proofs.Common.{◌≡◌, ◌==◌, ◌<◌, ◌+◌, ℕ, Bool, true, false, Option, None, Some, is_some, refl, sym, ◌∙◌, subst, arith}
use Rattle.std.proofs.Common.{inl, inr}
use Rattle.std.proofs.lemmas.Bool.Decides.{nat_tests}
use Rattle.passive_store.specs.declared.store.Pick.{Pick}
use Rattle.journal.specs.declared.event.BootEnd.{BootEnd}
use Rattle.journal.specs.declared.event.BootEnd.TheVariants as end
use Rattle.journal.specs.World.{Node, Site, on_node}
use Rattle.journal.specs.Ejects.{stored_epoch}
use Rattle.journal.specs.Settling.{in_doubt, settled}
use Rattle.journal.specs.Boots.{last_epoch, epoch_has_room, Opened, BootsSo, boot_turn}
use Rattle.undisturbed_runs.specs.Turns.{opened_end, boot_end_of, IsReady}

abbrev pub is_fault : BootEnd → Bool
is_fault end.DiskFault = true
is_fault _ = false

abbrev pub is_stop : BootEnd → Bool
is_stop end.Stop = true
is_stop _ = false

-- where the store was opened, the epoch and its room decide
by-opened : (s : Site) (p : Option Pick) → Opened s p → boot_end_of s p ≡ opened_end (settled p s)
by-opened s p o = rw (o.undamaged, o.not_overfull) refl

not-last : (e : ℕ) → e < last_epoch → (e == last_epoch) ≡ false
not-last e h = grind (arith, nat_tests, h)

is-last : (e : ℕ) → e ≡ last_epoch → (e == last_epoch) ≡ true
is-last e h = grind (arith, nat_tests, h)

-- how it ends
pub boots-by-disk : (s : Site) (e : ℕ) (how : BootEnd) (p : Option Pick) (began : Bool) → is_fault how ≡ false → is_stop how ≡ false
    → BootsSo s e how p began → how ≡ boot_end_of s p
boots-by-disk s e end.DiskFault p began no_fault no_stop h = absurd (cc no_fault)
boots-by-disk s e end.Stop p began no_fault no_stop h = absurd (cc no_stop)
boots-by-disk s e end.Up p began no_fault no_stop h = sym (by-opened s p h.opened ∙ rw (not-last _ h.not_last, room) refl)
  where
    room : epoch_has_room (settled p s) (stored_epoch (settled p s).node + 1) ≡ true
    room = subst (λ k. epoch_has_room (settled p s) k ≡ true) h.next_one h.has_room
boots-by-disk s e (end.Damaged place) p began no_fault no_stop h = rw h.at_place refl
boots-by-disk s e end.EpochsSpent p began no_fault no_stop h =
    sym (by-opened s p h.nothing.opened ∙ rw (is-last _ h.last) refl)
boots-by-disk s e end.Full p began no_fault no_stop (inl h) = rw (h.undamaged, h.overfull) refl
boots-by-disk s e end.Full p began no_fault no_stop (inr h) =
    sym (by-opened s p h.nothing.opened ∙ rw (not-last _ h.not_last, h.no_room) refl)

-- a disk on which nothing is in the way
pub boots-ready : (s : Site) (p : Option Pick) → IsReady s p → boot_end_of s p ≡ end.Up
boots-ready s p h = whole ∙ rw (not-last _ h.not_spent, h.has_room) refl
  where
    whole : boot_end_of s p ≡ opened_end (settled p s)
    whole = rw (h.undamaged, h.not_overfull) refl

-- whether it picks
pub boots-picked : (s : Site) (e : ℕ) (how : BootEnd) (p : Option Pick) (began : Bool) → is_fault how ≡ false → is_stop how ≡ false
    → BootsSo s e how p began → s.node.damaged ≡ None → s.node.overfull ≡ false → is_some p ≡ in_doubt s.number s.node
boots-picked s e end.DiskFault p began no_fault no_stop h whole fits = absurd (cc no_fault)
boots-picked s e end.Stop p began no_fault no_stop h whole fits = absurd (cc no_stop)
boots-picked s e end.Up p began no_fault no_stop h whole fits = h.opened.picked
boots-picked s e (end.Damaged place) p began no_fault no_stop h whole fits =
    absurd (let bad : None ≡ Some place = sym whole ∙ h.at_place in cc bad)
boots-picked s e end.EpochsSpent p began no_fault no_stop h whole fits = h.nothing.opened.picked
boots-picked s e end.Full p began no_fault no_stop (inl h) whole fits = absurd (let bad : false ≡ true = sym fits ∙ h.overfull in cc bad)
boots-picked s e end.Full p began no_fault no_stop (inr h) whole fits = h.nothing.opened.picked

-- the node behind one that comes up
abbrev pub IsUpWith : ℕ → Node → Type 0
IsUpWith e it = (it.up ≡ true) × (it.epoch ≡ Some e)

pub boots-up : (s : Site) (e : ℕ) (p : Option Pick) (began : Bool) → IsUpWith e (boot_turn e end.Up p began s).node
unfolding on_node
boots-up s e p began = (refl, refl)
