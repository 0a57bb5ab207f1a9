-- Device calls, one behind the other.
use Rattle.std.proofs.Common.{◌≡◌, ◌+◌, Option, Result, Ok, Err, refl, sym, subst}
use Rattle.std.specs.Prelude.{MatchResult}
use Rattle.eden_disk.specs.Calls.{Counts, End, Fine}
use Rattle.eden_disk.proofs.Held.{calls_more}
use Rattle.passive_store.specs.declared.store.StoreRefusal.{StoreRefusal}
use Rattle.passive_store.specs.declared.store.StoreRefusal.TheVariants as refusal
use Rattle.passive_store.specs.Kept.{end_of_store}
use Rattle.passive_store.proofs.Joining.{end_alike}
use Rattle.journal.specs.declared.event.BootEnd.{BootEnd}
use Rattle.checkpoint.specs.Boots.{end_of_boot}
use Rattle.checkpoint.specs.Calls.{MakesCalls, call_of_refusal, call_of_fall}

-- a refusal of a call that would have answered something else
pub calls-refused : (T : Type 0) (e why : StoreRefusal) (before after : Counts) → e ≡ why
    → MakesCalls before after (end_of_store {T = T} (Err e))
    → MakesCalls before after (call_of_refusal why)
calls-refused T e why before after is made =
    subst (λ k. MakesCalls before after (call_of_refusal k)) is (subst (MakesCalls before after) (end_alike T (Unit {0}) e) made)

-- more of them
pub calls-then : (before mid after : Counts) (end : End) → MakesCalls before mid Fine → MakesCalls mid after end
    → MakesCalls before after end
calls-then before mid after end a b = record {
  made = a.made + b.made;
  counts = calls_more a.made b.made before mid after end a.counts b.counts;
}

-- a boot that fell behind them
pub fall-call : (e : StoreRefusal) → call_of_fall (end_of_boot e) ≡ call_of_refusal e
fall-call refusal.Failed = refl
fall-call refusal.Stopped = refl
fall-call refusal.Full = refl
fall-call (refusal.Damaged place) = refl
fall-call refusal.OutOfMemory = refl

pub calls-fell : (before mid after : Counts) (how : Option BootEnd) (end : End) → after ≡ mid → call_of_fall how ≡ end
    → MakesCalls before mid end
    → MakesCalls before after (call_of_fall how)
calls-fell before mid after how end same is made = subst (λ k. MakesCalls before k (call_of_fall how)) (sym same)
    (subst (MakesCalls before mid) (sym is) made)

pub calls-behind : (A E : Type 0) (before : Counts) {mid : Counts} (up : A → Counts) (down : E → Counts) (how : E → Option BootEnd)
    (r : Result A E) → MakesCalls before mid Fine
    → MatchResult r (λ a. MakesCalls mid (up a) Fine) (λ e. MakesCalls mid (down e) (call_of_fall (how e)))
    → MatchResult r (λ a. MakesCalls before (up a) Fine) (λ e. MakesCalls before (down e) (call_of_fall (how e)))
calls-behind A E before {mid} up down how (Ok a) first then = calls-then before mid (up a) Fine first then
calls-behind A E before {mid} up down how (Err e) first then = calls-then before mid (down e) (call_of_fall (how e)) first then
