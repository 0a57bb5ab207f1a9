-- Soundness in words that are free of counting: all that an Eject has to do is held at it, and is distinct.
use Rattle.std.proofs.Common.{◌≡◌, ◌+◌, ◌≤◌, ℕ, Bool, true, false, cond, ◌||◌, List, [], ◌∷◌, Option, Some, is_some, refl, ap}
use Rattle.std.proofs.Common.{subst, arith}
use Rattle.std.specs.List.{AllByRecursion}
use Rattle.std.specs.Ordering.{nat_cmp, eq_by_cmp}
use Rattle.capability.specs.declared.Uid.{Uid}
use Rattle.eden_model.proofs.Numbers.{same-self}
use Rattle.eden_model.specs.Lines.{has, Distinct}
use Rattle.eden_model.specs.Traffic.{Traffic}
use Rattle.journal.specs.World.{Eject, StoreRequest, Site, eject_in}
use Rattle.journal.specs.Sites.{runs_of, work_of, IsHeldAt, Sound, IsSoundEject, IsSoundProcess, IsSoundSite}
use Rattle.history_laws.proofs.Fits.{times, Fits, SoundSite}
use Rattle.history_laws.proofs.Times.{times-append}

pub all-counted : (P : ℕ → Type 0) (ks : List ℕ) → ((k : ℕ) → 1 ≤ times k ks → P k) → AllByRecursion P ks
all-counted P [] each = tt
all-counted P (k ∷ ks) each = (
  each k (rw (same-self k) (omega arith)),
  all-counted P ks (λ j has. each j (more j (eq_by_cmp nat_cmp j k) has)),
)
  where
    more : (j : ℕ) (b : Bool) → 1 ≤ times j ks → 1 ≤ cond b (times j ks + 1) (times j ks)
    more j true has = omega (arith, has)
    more j false has = has

none-has : (k : ℕ) (ks : List ℕ) → times k ks ≡ 0 → has k ks ≡ false
none-has k [] none = refl
none-has k (j ∷ ks) none = go (eq_by_cmp nat_cmp k j) none (none-has k ks)
  where
    go : (b : Bool) → cond b (times k ks + 1) (times k ks) ≡ 0 → (times k ks ≡ 0 → has k ks ≡ false) → (b || has k ks) ≡ false
    go true is later = absurd (omega (arith, is))
    go false is later = later is

pub distinct-counted : (ks : List ℕ) → ((k : ℕ) → times k ks ≤ 1) → Distinct ks
distinct-counted [] once = tt
distinct-counted (k ∷ ks) once = (
  none-has k ks (let here : times k (k ∷ ks) ≡ times k ks + 1 = rw (same-self k) refl in
      omega (arith, here, once k)),
  distinct-counted ks (λ j. less j (eq_by_cmp nat_cmp j k) (once j)),
)
  where
    less : (j : ℕ) (b : Bool) → cond b (times j ks + 1) (times j ks) ≤ 1 → times j ks ≤ 1
    less j true is = omega (arith, is)
    less j false is = is

sound-eject : (t : Traffic) (rs : List StoreRequest) (u : Uid) (e : Eject) → Fits t rs u (Some e) → IsSoundEject t u e
sound-eject t rs u e fit = record {
  held = all-counted (IsHeldAt t u) (work_of e) (λ k has. fit.held k (omega (arith, has, times-append k (runs_of e.active) e.queued)));
  once = distinct-counted (work_of e) (λ k. omega (arith, fit.once k, times-append k (runs_of e.active) e.queued));
  laid = fit.laid;
}

sound-process : (t : Traffic) (rs : List StoreRequest) (u : Uid) (p : ℕ) (o : Option Eject) → Fits t rs u o → IsSoundProcess t rs u p o
sound-process t rs u p o fit = record { asks = fit.asks p; single = fit.single p; stores = fit.stores p; alone = fit.alone p }

pub sound-site : (s : Site) → Sound s.number s.node → SoundSite s → IsSoundSite s
sound-site s node h = record {
  node = node;
  numbered = h.numbered;
  ejects = λ u e is. sound-eject s.traffic s.node.requests u e
      (subst (Fits s.traffic s.node.requests u) is (h.fits u (node.of_node u (ap is_some is))));
  processes = λ u p at. sound-process s.traffic s.node.requests u p (eject_in s u) (h.fits u at);
}
