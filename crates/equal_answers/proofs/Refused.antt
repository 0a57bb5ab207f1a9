-- Where no count of its disk rose, and neither room nor memory was wanting, a call of a store was not refused.
use Rattle.std.specs.Prelude.{◌≡◌, ◌⊎◌, ◌<◌, ◌-◌, ◌^◌, ℕ, Result, Ok, Err, IfErr, OnErr}
use Rattle.std.proofs.Common.{arith, sym, ◌∙◌, inl, inr}
use Rattle.eden_disk.specs.Calls.{Counts, DeviceCalls, one_more}
use Rattle.passive_store.specs.declared.store.StoreRefusal.{StoreRefusal}
use Rattle.passive_store.specs.declared.store.StoreRefusal.TheVariants.{Failed, Stopped, Full, Damaged, OutOfMemory}
use Rattle.passive_store.specs.Kept.{end_of_store, IsDiskRefusal, IsEarlyRefusal}
use Rattle.equal_answers.specs.Calls.{IsUndisturbed, HasSpace}

-- it was not refused
abbrev pub IsDone : {T : Type 0} → Result T StoreRefusal → Type 0
IsDone result = OnErr result ⊥

-- its disk did not refuse it
abbrev pub IsNotOfDisk : {T : Type 0} → Result T StoreRefusal → Type 0
IsNotOfDisk result = IfErr result (λ e. IsDiskRefusal e → ⊥)

risen : (n : ℕ) → one_more n ≡ n → n < 2 ^ 64 - 1 → ⊥
risen n same below = absurd (omega (arith, same, below))

pub not_of_disk : {T : Type 0} (made : ℕ) (old new : Counts) (result : Result T StoreRefusal)
    → DeviceCalls made old new (end_of_store result) → IsUndisturbed old new → IsNotOfDisk result
not_of_disk made old new (Ok done) calls still = tt
not_of_disk made old new (Err Failed) calls still = λ is. risen old.faults (sym calls.faults ∙ still.no_fault)
    (omega (arith, still.no_fault, still.faults_told))
not_of_disk made old new (Err Stopped) calls still = λ is. risen old.stops (sym calls.stops ∙ still.no_stop)
    (omega (arith, still.no_stop, still.stops_told))
not_of_disk made old new (Err Full) calls still = λ is. elim is [ inl e ↦ cc e | inr e ↦ cc e ]
not_of_disk made old new (Err (Damaged place)) calls still = λ is. elim is [ inl e ↦ cc e | inr e ↦ cc e ]
not_of_disk made old new (Err OutOfMemory) calls still = λ is. elim is [ inl e ↦ cc e | inr e ↦ cc e ]

pub done_of_both : {T : Type 0} (result : Result T StoreRefusal) → IfErr result (λ e. IsDiskRefusal e ⊎ IsEarlyRefusal e)
    → IsNotOfDisk result → HasSpace result → IsDone result
done_of_both (Ok done) only disk space = tt
done_of_both (Err e) (inl is) disk space = absurd (disk is)
done_of_both (Err e) (inr (inl is)) disk space = absurd (space.0 is)
done_of_both (Err e) (inr (inr is)) disk space = absurd (space.1 is)

pub done_of_get : {T : Type 0} (result : Result T StoreRefusal) → IfErr result (λ e. IsDiskRefusal e ⊎ (e ≡ OutOfMemory))
    → IsNotOfDisk result → HasSpace result → IsDone result
done_of_get (Ok done) only disk space = tt
done_of_get (Err e) (inl is) disk space = absurd (disk is)
done_of_get (Err e) (inr is) disk space = absurd (space.1 is)

pub done_of_disk : {T : Type 0} (result : Result T StoreRefusal) → IfErr result IsDiskRefusal → IsNotOfDisk result → IsDone result
done_of_disk (Ok done) only disk = tt
done_of_disk (Err e) only disk = absurd (disk only)

pub done_of_begin : {T : Type 0} (result : Result T StoreRefusal) → IfErr result IsEarlyRefusal → HasSpace result → IsDone result
done_of_begin (Ok done) only space = tt
done_of_begin (Err e) (inl is) space = absurd (space.0 is)
done_of_begin (Err e) (inr is) space = absurd (space.1 is)
