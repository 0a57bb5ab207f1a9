-- New calls and requests at the store keep a site sound, where the process that asks waits for nothing.
use Rattle.std.proofs.Common.{◌≡◌, ◌+◌, ◌≤◌, ℕ, zero, suc, Bool, true, false, cond, ◌&&◌, List, [], ◌∷◌, ◌++◌, Option, None, Some, refl}
use Rattle.std.proofs.Common.{sym, ◌∙◌, ap, subst, arith, inl, inr}
use Rattle.std.specs.Prelude.{IsSomeAnd, ◌⊎◌}
use Rattle.std.specs.Ordering.{nat_cmp, eq_by_cmp}
use Rattle.capability.specs.declared.Uid.{Uid}
use Rattle.capability.specs.declared.Cap.{Cap}
use Rattle.capability.proofs.Uids.{uid_cmp-IsAntisymmetric}
use Rattle.eden_value.specs.Datum.{Datum}
use Rattle.eden_value.specs.declared.status.Status.{Status}
use Rattle.eden_model.specs.Map.{uid_cmp, same_uid}
use Rattle.eden_model.proofs.Laws.{eq-same}
use Rattle.eden_model.proofs.Numbers.{same-true}
use Rattle.eden_model.specs.Crew.{outside, set_waits}
use Rattle.eden_model.specs.Traffic.{Traffic, Call, call_at, next_call, new_call, with_call}
use Rattle.eden_model.specs.declared.Asker.{Asker}
use Rattle.eden_model.specs.declared.Asker.TheVariants.{Eject as Asking}
use Rattle.journal.specs.EjectChange.{EjectChange}
use Rattle.journal.specs.World.{StoreRequest, Site, eject_in, on_eject, on_node, on_traffic}
use Rattle.journal.specs.Ejects.{on_active, on_crew}
use Rattle.journal.specs.Processes.{asks_store}
use Rattle.journal.specs.Sites.{IsOpenOf, is_number, at_store, WaitsIn}
use Rattle.history_laws.proofs.Fits.{Fits, SoundSite}
use Rattle.history_laws.proofs.Times.{call-more, held-more, numbered-more}
use Rattle.history_laws.proofs.SiteChanges.{Claims, AddsNothing, StaysSound, stays-then, nothing-stays}
use Rattle.history_laws.proofs.SiteParts.{Ready, free-ready, nothing-waits, waits-now}

-- 1. Requests at the store

at-more : (u : Uid) (p : ℕ) (rs : List StoreRequest) (r : StoreRequest)
    → at_store u p (rs ++ r ∷ []) ≡ cond (same_uid r.uid u && is_number p r.process) (at_store u p rs + 1) (at_store u p rs)
at-more u p [] r = refl
at-more u p (x ∷ rs) r = go (same_uid x.uid u && is_number p x.process) (same_uid r.uid u && is_number p r.process) (at-more u p rs r)
  where
    go : (a b : Bool) → at_store u p (rs ++ r ∷ []) ≡ cond b (at_store u p rs + 1) (at_store u p rs)
        → cond a (at_store u p (rs ++ r ∷ []) + 1) (at_store u p (rs ++ r ∷ []))
        ≡ cond b (cond a (at_store u p rs + 1) (at_store u p rs) + 1) (cond a (at_store u p rs + 1) (at_store u p rs))
    go true true ih = ap (λ n. n + 1) ih
    go true false ih = ap (λ n. n + 1) ih
    go false b ih = ih

both-true : (a b : Bool) → (a && b) ≡ true → (a ≡ true) × (b ≡ true)
both-true true b e = (refl, e)
both-true false b e = absurd (cc e)

abbrev asking : Uid → ℕ → EjectChange → StoreRequest
asking v p change = record { uid = v; process = Some p; change = change; made = 0 }

zero-unless : (n : ℕ) → (1 ≤ n → ⊥) → n ≡ 0
zero-unless zero not_some = refl
zero-unless (suc n) not_some = absurd (not_some (omega arith))

stays-asked : (v : Uid) (p : ℕ) (change : EjectChange) (s : Site) → v.node ≡ s.number → (Claims s v p → ⊥) → WaitsIn (eject_in s v) p
    → SoundSite s
    → StaysSound s (on_node (λ it. record it { requests = it.requests ++ asking v p change ∷ [] }) s)
unfolding on_node
stays-asked v p change s here free waits h = record {
  number = refl;
  away = record { held = λ u k other is. is; opens = λ u q k other is. is };
  sound = record { numbered = h.numbered; fits = λ u at. one u (h.fits u at) };
}
  where
    of-it : (u : Uid) (q : ℕ) (b : Bool) → (same_uid v u && eq_by_cmp nat_cmp p q) ≡ b → b ≡ true → (v ≡ u) × (p ≡ q)
    of-it u q true is on = let x = both-true (same_uid v u) (eq_by_cmp nat_cmp p q) is in
        (eq-same uid_cmp uid_cmp-IsAntisymmetric v u x.0, same-true p q x.1)
    of-it u q false is on = absurd (cc on)

    moved : (u : Uid) (q : ℕ) → (v ≡ u) × (p ≡ q) → Claims s u q → ⊥
    moved u q same claims = free (subst (λ x. Claims s x p) (sym same.0) (subst (Claims s u) (sym same.1) claims))

    asks : (u : Uid) (q k : ℕ) → IsOpenOf s.traffic u q k → at_store u q s.node.requests ≡ 0 → (b : Bool)
        → (same_uid v u && eq_by_cmp nat_cmp p q) ≡ b → cond b (at_store u q s.node.requests + 1) (at_store u q s.node.requests) ≡ 0
    asks u q k is none true same = absurd (moved u q (of-it u q true same refl) (inl (k, is)))
    asks u q k is none false same = none

    stores : (u : Uid) (q : ℕ) → (1 ≤ at_store u q s.node.requests → WaitsIn (eject_in s u) q) → (b : Bool)
        → (same_uid v u && eq_by_cmp nat_cmp p q) ≡ b → 1 ≤ cond b (at_store u q s.node.requests + 1) (at_store u q s.node.requests)
        → WaitsIn (eject_in s u) q
    stores u q was true same some = let x = of-it u q true same refl in
        subst (λ y. WaitsIn (eject_in s y) q) x.0 (subst (WaitsIn (eject_in s v)) x.1 waits)
    stores u q was false same some = was some

    alone : (u : Uid) (q : ℕ) → at_store u q s.node.requests ≤ 1 → (b : Bool) → (same_uid v u && eq_by_cmp nat_cmp p q) ≡ b
        → cond b (at_store u q s.node.requests + 1) (at_store u q s.node.requests) ≤ 1
    alone u q was true same = let none : at_store u q s.node.requests ≡ 0 =
        zero-unless (at_store u q s.node.requests) (λ some. moved u q (of-it u q true same refl) (inr some)) in omega (arith, none)
    alone u q was false same = was

    one : (u : Uid) → Fits s.traffic s.node.requests u (eject_in s u)
        → Fits s.traffic (s.node.requests ++ asking v p change ∷ []) u (eject_in s u)
    one u fit = record {
      held = fit.held;
      once = fit.once;
      asks = λ q k is. let x = fit.asks q k is in (
        x.0,
        at-more u q s.node.requests (asking v p change)
            ∙ asks u q k is x.1 (same_uid v u && eq_by_cmp nat_cmp p q) refl,
      );
      single = fit.single;
      stores = λ q some. stores u q (fit.stores q) (same_uid v u && eq_by_cmp nat_cmp p q) refl
          (subst (λ n. 1 ≤ n) (at-more u q s.node.requests (asking v p change)) some);
      alone = λ q. subst (λ n. n ≤ 1) (sym (at-more u q s.node.requests (asking v p change)))
          (alone u q (fit.alone q) (same_uid v u && eq_by_cmp nat_cmp p q) refl);
      laid = fit.laid;
    }

pub stays-asks : (v : Uid) (p : ℕ) (change : EjectChange) (s : Site) → Ready s v p → SoundSite s → StaysSound s (asks_store v p change s)
stays-asks v p change s ready h = let step = nothing-waits v p s ready in
    stays-then s (on_eject v (on_active (on_crew (set_waits p outside))) s) (asks_store v p change s)
    (nothing-stays s (on_eject v (on_active (on_crew (set_waits p outside))) s) step h)
    (λ later. stays-asked v p change (on_eject v (on_active (on_crew (set_waits p outside))) s) (ready.here ∙ sym step.number) (λ claims.
    free-ready s v p h ready (was step claims)) (waits-now v p s ready) later)
  where
    was : AddsNothing s (on_eject v (on_active (on_crew (set_waits p outside))) s)
        → Claims (on_eject v (on_active (on_crew (set_waits p outside))) s) v p → Claims s v p
    was step (inl open_call) = inl (open_call.0, step.opens v p open_call.0 open_call.1)
    was step (inr some) = inr (omega (arith, some, step.stores v p))

-- 2. Calls

pub open-more : (a : Asker) (target : Cap) (operation : List ℕ) (args : List Datum) (at_once : Option Status) (t : Traffic) (u : Uid)
    (q k : ℕ)
    → IsOpenOf (with_call (next_call t) a target operation args at_once t) u q k
    → IsOpenOf t u q k ⊎ ((k ≡ next_call t) × (at_once ≡ None) × (a ≡ Asking u q))
open-more a target operation args at_once t u q k is = go (eq_by_cmp nat_cmp k (next_call t)) refl
    (subst (λ o. IsSomeAnd o (λ (c : Call). (c.open_ ≡ true) × (c.asker ≡ Asking u q)))
    (call-more (next_call t) a target operation args at_once t k) is)
  where
    new : (o : Option Status) → ((new_call a target operation args o).open_ ≡ true)
        × ((new_call a target operation args o).asker ≡ Asking u q) → (o ≡ None) × (a ≡ Asking u q)
    new None x = (refl, x.1)
    new (Some why) x = absurd (let bad : false ≡ true = x.0 in cc bad)

    go : (b : Bool) → eq_by_cmp nat_cmp k (next_call t) ≡ b → IsSomeAnd
        (cond b (Some (new_call a target operation args at_once)) (call_at t k)) (λ c. (c.open_ ≡ true) × (c.asker ≡ Asking u q))
        → IsOpenOf t u q k ⊎ ((k ≡ next_call t) × (at_once ≡ None) × (a ≡ Asking u q))
    go true same x = let y = new at_once x in inr (same-true k (next_call t) same, y.0, y.1)
    go false same x = inl x

pub stays-called : (v : Uid) (p : ℕ) (target : Cap) (operation : List ℕ) (args : List Datum) (at_once : Option Status) (s : Site)
    → v.node ≡ s.number
    → (at_once ≡ None → Claims s v p → ⊥) → (at_once ≡ None → WaitsIn (eject_in s v) p) → SoundSite s
    → StaysSound s (on_traffic (λ t. with_call (next_call t) (Asking v p) target operation args at_once t) s)
unfolding on_traffic
stays-called v p target operation args at_once s here free waits h = record {
  number = refl;
  away = record {
    held = λ u k other is. held-more (Asking v p) target operation args at_once s.traffic u k h.numbered is;
    opens =
        λ u q k other is. away u q k other (opened u q k is);
  };
  sound = record {
    numbered = numbered-more s.traffic.calls h.numbered (new_call (Asking v p) target operation args at_once);
    fits =
        λ u at. one u (h.fits u at);
  };
}
  where
    new : Traffic
    new = with_call (next_call s.traffic) (Asking v p) target operation args at_once s.traffic

    Opened : Uid → ℕ → ℕ → Type 0
    Opened u q k = IsOpenOf s.traffic u q k ⊎ ((k ≡ next_call s.traffic) × (at_once ≡ None) × (Asking v p ≡ Asking u q))

    opened : (u : Uid) (q k : ℕ) → IsOpenOf new u q k → Opened u q k
    opened u q k is = open-more (Asking v p) target operation args at_once s.traffic u q k is

    of-it : (u : Uid) (q : ℕ) → Asking v p ≡ Asking u q → (v ≡ u) × (p ≡ q)
    of-it u q same = (cc same, cc same)

    away : (u : Uid) (q k : ℕ) → (u.node ≡ s.number → ⊥) → Opened u q k → IsOpenOf s.traffic u q k
    away u q k other (inl was) = was
    away u q k other (inr x) = absurd (other (ap (λ (y : Uid). y.node) (sym (of-it u q x.2).0) ∙ here))

    moved : (u : Uid) (q : ℕ) → at_once ≡ None → Asking v p ≡ Asking u q → Claims s u q → ⊥
    moved u q none same claims = let x = of-it u q same in free none
        (subst (λ y. Claims s y p) (sym x.0) (subst (Claims s u) (sym x.1) claims))

    one : (u : Uid) → Fits s.traffic s.node.requests u (eject_in s u) → Fits new s.node.requests u (eject_in s u)
    one u fit = record {
      held = λ k has. held-more (Asking v p) target operation args at_once s.traffic u k h.numbered (fit.held k has);
      once = fit.once;
      asks = λ q k is. asks q k (opened u q k is);
      single = λ q j k a b. single q j k (opened u q j a) (opened u q k b);
      stores = fit.stores;
      alone = fit.alone;
      laid = fit.laid;
    }
      where
        asks : (q k : ℕ) → Opened u q k → WaitsIn (eject_in s u) q × (at_store u q s.node.requests ≡ 0)
        asks q k (inl was) = fit.asks q k was
        asks q k (inr x) = let y = of-it u q x.2 in (
          subst (λ z. WaitsIn (eject_in s z) q) y.0 (subst (WaitsIn (eject_in s v)) y.1 (waits x.1)),
          zero-unless (at_store u q s.node.requests) (λ some. moved u q x.1 x.2 (inr some)),
        )

        single : (q j k : ℕ) → Opened u q j → Opened u q k → j ≡ k
        single q j k (inl a) (inl b) = fit.single q j k a b
        single q j k (inl a) (inr x) = absurd (moved u q x.1 x.2 (inl (j, a)))
        single q j k (inr x) (inl b) = absurd (moved u q x.1 x.2 (inl (k, b)))
        single q j k (inr x) (inr y) = x.0 ∙ sym y.0
