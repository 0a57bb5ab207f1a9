-- What some calls, one behind the other, leave of a disk of a pair.
use Rattle.std.specs.Prelude.{◌≡◌, ◌⊎◌, ℕ, Bool, true, false}
use Rattle.std.proofs.Common.{refl, sym, ap, ◌∙◌, inl, inr}
use Rattle.std.proofs.lemmas.Bool.{false≢true}
use Rattle.eden_disk.specs.Calls.{one_more}
use Rattle.twin_store.specs.Sides.{SideSeen, is_in_use, disk_of, SideGoes}
use Rattle.twin_store.proofs.Vouching.{one_of}

pub both_ways : (b : Bool) → b ≡ true → b ≡ false → ⊥
both_ways b on off = false≢true (sym off ∙ on)

pub goes_none : (s : SideSeen) → SideGoes s s
goes_none s = record {
  size = refl;
  left = λ e. e;
  rose = λ used gone. absurd (both_ways (is_in_use s) used gone);
  same = λ e. refl;
  still = λ e. refl;
}

-- by whether the disk is in use between two calls
pub used_or_not : (b : Bool) → (b ≡ true) ⊎ (b ≡ false)
used_or_not true = inl refl
used_or_not false = inr refl

faults : SideSeen → ℕ
faults s = (disk_of s).counts.faults

pub goes_on : (a b c : SideSeen) → SideGoes a b → SideGoes b c → SideGoes a c
unfolding faults
goes_on a b c p q = record {
  size = q.size ∙ p.size;
  left = λ e. p.left (q.left e);
  rose = λ used gone. one_of (used_or_not (is_in_use b)) (λ on. q.rose on gone ∙ ap one_more (p.same (on ∙ sym used)))
      (λ off. ap faults (q.still off) ∙ p.rose used off);
  same = λ e. one_of (used_or_not (is_in_use a)) (λ on. let mid : is_in_use b ≡ true = q.left (e ∙ on) in
      q.same (e ∙ on ∙ sym mid) ∙ p.same (mid ∙ sym on))
      (λ off. let back : b ≡ a = p.still off in ap faults (q.still (ap is_in_use back ∙ off)) ∙ ap faults back);
  still = λ off. let back : b ≡ a = p.still off in q.still (ap is_in_use back ∙ off) ∙ back;
}
