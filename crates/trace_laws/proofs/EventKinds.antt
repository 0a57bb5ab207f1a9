-- Which events have keys of a kind.
use Rattle.std.proofs.Common.{◌≡◌, ℕ, List, Option, refl, arith}
use Rattle.std.specs.Prelude.{◌⊎◌}
use Rattle.std.proofs.Common.{inl, inr}
use Rattle.capability.specs.declared.Uid.{Uid}
use Rattle.eden_value.specs.Datum.{Datum}
use Rattle.eden_value.specs.declared.status.Status.{Status}
use Rattle.eden_model.specs.Map.{with_item}
use Rattle.passive_store.specs.declared.store.Pick.{Pick}
use Rattle.journal.specs.declared.event.Event.{Event}
use Rattle.journal.specs.declared.event.Event.TheVariants as event
use Rattle.journal.specs.declared.event.Shown.{Shown}
use Rattle.journal.specs.declared.event.StartEnd.{StartEnd}
use Rattle.journal.specs.declared.event.RequestEnd.{RequestEnd}
use Rattle.journal.specs.Step.{key_of}

-- the kind of the key of an event; 0 where it has none
abbrev pub kind_of : Event → ℕ
kind_of e = with_item (key_of e) (λ k. k.kind) 0

abbrev pub IsActivate : Event → Type 0
IsActivate f = (u : Uid) × (how : StartEnd) × (p : Option Pick) × (f ≡ event.Activate u how p)

pub is-activate : (f : Event) → kind_of f ≡ 2 → IsActivate f
is-activate (event.Activate u how p) e = (u, how, p, refl)
is-activate (event.Request k a b refused) e = absurd (omega (arith, e))
is-activate (event.Reply k a b name status values) e = absurd (omega (arith, e))
is-activate (event.Start k u p) e = absurd (omega (arith, e))
is-activate (event.Process u p said) e = absurd (omega (arith, e))
is-activate (event.Store u c how p) e = absurd (omega (arith, e))
is-activate _ e = absurd (omega (arith, e))

abbrev pub IsStore : Event → Type 0
IsStore f = (u : Uid) × (c : ℕ) × (how : RequestEnd) × (p : Option Pick) × (f ≡ event.Store u c how p)

pub is-store : (f : Event) → kind_of f ≡ 5 → IsStore f
is-store (event.Store u c how p) e = (u, c, how, p, refl)
is-store (event.Request k a b refused) e = absurd (omega (arith, e))
is-store (event.Reply k a b name status values) e = absurd (omega (arith, e))
is-store (event.Start k u p) e = absurd (omega (arith, e))
is-store (event.Process u p said) e = absurd (omega (arith, e))
is-store (event.Activate u how p) e = absurd (omega (arith, e))
is-store _ e = absurd (omega (arith, e))

abbrev pub IsStart : Event → Type 0
IsStart f = (k : ℕ) × (u : Uid) × (p : ℕ) × (f ≡ event.Start k u p)

pub is-start : (f : Event) → kind_of f ≡ 3 → IsStart f
is-start (event.Start k u p) e = (k, u, p, refl)
is-start (event.Request k a b refused) e = absurd (omega (arith, e))
is-start (event.Reply k a b name status values) e = absurd (omega (arith, e))
is-start (event.Process u p said) e = absurd (omega (arith, e))
is-start (event.Store u c how p) e = absurd (omega (arith, e))
is-start (event.Activate u how p) e = absurd (omega (arith, e))
is-start _ e = absurd (omega (arith, e))

abbrev pub IsProcess : Event → Type 0
IsProcess f = (u : Uid) × (p : ℕ) × (said : Shown) × (f ≡ event.Process u p said)

pub is-process : (f : Event) → kind_of f ≡ 4 → IsProcess f
is-process (event.Process u p said) e = (u, p, said, refl)
is-process (event.Request k a b refused) e = absurd (omega (arith, e))
is-process (event.Reply k a b name status values) e = absurd (omega (arith, e))
is-process (event.Start k u p) e = absurd (omega (arith, e))
is-process (event.Store u c how p) e = absurd (omega (arith, e))
is-process (event.Activate u how p) e = absurd (omega (arith, e))
is-process _ e = absurd (omega (arith, e))

abbrev pub IsDelivery : Event → Type 0
IsDelivery f = ((k : ℕ) × (a : ℕ) × (b : ℕ) × (refused : Option Status) × (f ≡ event.Request k a b refused))
    ⊎ ((k : ℕ) × (a : ℕ) × (b : ℕ) × (name : Option (List ℕ)) × (status : Status) × (values : List Datum)
    × (f ≡ event.Reply k a b name status values))

pub is-delivery : (f : Event) → kind_of f ≡ 1 → IsDelivery f
is-delivery (event.Request k a b refused) e = inl (k, a, b, refused, refl)
is-delivery (event.Reply k a b name status values) e = inr (k, a, b, name, status, values, refl)
is-delivery (event.Start k u p) e = absurd (omega (arith, e))
is-delivery (event.Process u p said) e = absurd (omega (arith, e))
is-delivery (event.Store u c how p) e = absurd (omega (arith, e))
is-delivery (event.Activate u how p) e = absurd (omega (arith, e))
is-delivery _ e = absurd (omega (arith, e))
