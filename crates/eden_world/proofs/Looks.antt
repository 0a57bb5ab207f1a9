-- What a program sees of its calls and of its disks, in each world for which it stands.
use Rattle.std.proofs.Common.{◌≡◌, ℕ, Bool, false, not, Option, None, Some, refl, sym, ◌∙◌, ap}
use Rattle.eden_model.specs.Map.{with_item}
use Rattle.eden_model.specs.Traffic.{Traffic, call_at}
use Rattle.eden_model.specs.Traffic as traffic
use Rattle.invocation.specs.declared.call.Call.{Call}
use Rattle.invocation.specs.Mail.{Mail}
use Rattle.invocation.specs.Numbers.{item_in}
use Rattle.invocation.specs.Carries.{Carries}
use Rattle.invocation.proofs.CarriesLaws.{asked-call, found-call}

abbrev is_open : Option traffic.Call → Bool
is_open o = with_item o (λ (d : traffic.Call). d.open_) false

-- a call that is there is open where it is not closed
pub open-there : (m : Mail) (t : Traffic) → Carries m t → (k : ℕ) (c : Call) → item_in k m.calls ≡ Some c
    → not c.closed ≡ with_item (call_at t k) (λ (d : traffic.Call). d.open_) false
open-there m t carries k c is = let f = found-call m t carries k c is in sym f.same.open_ ∙ sym (ap is_open f.is)

-- and none is that is not
pub open-none : (m : Mail) (t : Traffic) → Carries m t → (k : ℕ) → item_in k m.calls ≡ None
    → false ≡ with_item (call_at t k) (λ (d : traffic.Call). d.open_) false
open-none m t carries k is = go (call_at t k) refl
  where
    go : (o : Option traffic.Call) → call_at t k ≡ o → false ≡ is_open (call_at t k)
    go None at = sym (ap is_open at)
    go (Some d) at = absurd (let f = asked-call m t carries k d at in let bad : None ≡ Some f.call = sym is ∙ f.is in cc bad)
