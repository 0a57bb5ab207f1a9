-- The device call of a step.
use Rattle.std.proofs.Common.{◌≡◌, ℕ, false, List, None, Err, refl, sym, ap, subst, ◌∙◌, inl, inr, arith}
use Rattle.eden_disk.specs.Calls.{Counts, DeviceCalls, Fine}
use Rattle.eden_disk.proofs.Held.{calls_none}
use Rattle.std.specs.Prelude.{IsTrue}
use Rattle.passive_store.specs.declared.store.Progress.{Progress}
use Rattle.passive_store.specs.declared.store.StoreRefusal.{StoreRefusal}
use Rattle.passive_store.specs.declared.store.StoreRefusal.TheVariants as refusal
use Rattle.passive_store.specs.Kept.{Work, Idle, Busy, Unsettled, IsDiskRefusal, end_of_store, is_busy, worked_on}
use Rattle.checkpoint.specs.declared.worker.Request.{Request}
use Rattle.checkpoint.specs.declared.worker.StoreEnd.{StoreEnd}
use Rattle.checkpoint.specs.declared.worker.StepEnd.{StepEnd}
use Rattle.checkpoint.specs.declared.worker.StepEnd.TheVariants.{Going, Ended}
use Rattle.checkpoint.specs.StoreCalls.{end_of_refusal}
use Rattle.checkpoint.specs.Asked.{EndsFirst, OneCall, call_end, end_of_step}

pub ended-call : (old new : List Request) (how : StoreEnd) (result : StepEnd) → EndsFirst old new how result
    → end_of_step result ≡ call_end how
ended-call old new how (Going p) ends = absurd ends
ended-call old new how (Ended q e) ends = ap call_end ends.1

pub refused-end : (e : StoreRefusal) → IsDiskRefusal e → call_end (end_of_refusal e) ≡ end_of_store {T = Progress} (Err e)
refused-end refusal.Failed only = refl
refused-end refusal.Stopped only = refl
refused-end refusal.Full only = absurd (elim only [ inl bad ↦ cc bad | inr bad ↦ cc bad ])
refused-end (refusal.Damaged place) only = absurd (elim only [ inl bad ↦ cc bad | inr bad ↦ cc bad ])
refused-end refusal.OutOfMemory only = absurd (elim only [ inl bad ↦ cc bad | inr bad ↦ cc bad ])

-- a call that was refused
pub one-refused : (old new : List Request) (e : StoreRefusal) (how : StoreEnd) (result : StepEnd) (before after : Counts)
    → how ≡ end_of_refusal e → IsDiskRefusal e
    → EndsFirst old new how result → DeviceCalls 1 before after (end_of_store {T = Progress} (Err e)) → OneCall before after result
one-refused old new e how result before after is only ends d = record {
  made = 1;
  most = omega arith;
  counts = subst (λ k. DeviceCalls 1 before after k) (sym (ended-call old new how result ends ∙ ap call_end is ∙ refused-end e only)) d;
}

-- one that was not, or none
pub one-fine : (old new : List Request) (how : StoreEnd) (result : StepEnd) (before after : Counts) (made : ℕ) → call_end how ≡ Fine
    → made ≡ 1
    → EndsFirst old new how result → DeviceCalls made before after Fine → OneCall before after result
one-fine old new how result before after made fine one ends d = record {
  made = made;
  most = omega (arith, one);
  counts = subst (λ k. DeviceCalls made before after k) (sym (ended-call old new how result ends ∙ fine)) d;
}

pub no-calls : (old new : List Request) (how : StoreEnd) (result : StepEnd) (before after : Counts) → call_end how ≡ Fine → after ≡ before
    → IsTrue before.power
    → EndsFirst old new how result → OneCall before after result
no-calls old new how result before after fine same power ends = record {
  made = 0;
  most = omega arith;
  counts = subst (λ k. DeviceCalls 0 before after k) (sym (ended-call old new how result ends ∙ fine))
      (subst (λ k. DeviceCalls 0 before k Fine) (sym same) (calls_none before power));
}

pub one-going : (before after : Counts) (result : StepEnd) → end_of_step result ≡ Fine → DeviceCalls 1 before after Fine
    → OneCall before after result
one-going before after result fine d = record {
  made = 1;
  most = omega arith;
  counts = subst (λ k. DeviceCalls 1 before after k)
      (sym fine) d;
}

pub one-from : (before mid after : Counts) (result : StepEnd) → mid ≡ before → OneCall mid after result → OneCall before after result
one-from before mid after result same c = subst (λ k. OneCall k after result) same c

-- no change is worked on where no job goes on
pub none_worked : (w : Work) → is_busy w ≡ false → worked_on w ≡ None
none_worked Idle is = refl
none_worked (Busy c made left) is = cc
none_worked (Unsettled c synced) is = refl
