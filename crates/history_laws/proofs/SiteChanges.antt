-- A change of a site that gives no Eject a call, opens none and asks nothing of the store keeps the site sound; and the primitive
-- changes are such.
use Rattle.std.proofs.Common.{◌≡◌, ◌≤◌, ℕ, zero, suc, Bool, true, false, cond, List, [], Option, None, Some, refl, sym, ◌∙◌, ap, subst}
use Rattle.std.proofs.Common.{arith, inl, inr}
use Rattle.std.specs.Prelude.{IsSomeAnd, ◌⊎◌}
use Rattle.std.specs.Option.{option_map}
use Rattle.std.specs.Ordering.{eq_by_cmp}
use Rattle.capability.specs.declared.Uid.{Uid}
use Rattle.capability.proofs.Uids.{uid_cmp-IsAntisymmetric}
use Rattle.eden_model.specs.Map.{with_item, uid_cmp, value_at}
use Rattle.eden_model.proofs.Laws.{eq-same}
use Rattle.eden_model.specs.Traffic.{Traffic, Call, held, call_at}
use Rattle.journal.specs.World.{Eject, Node, Site, eject_in, on_eject, on_node, on_traffic}
use Rattle.journal.specs.Sites.{active_in, IsHeldAt, IsOpenOf, at_store, WaitsIn, AreNumbered}
use Rattle.history_laws.proofs.Fits.{times, queued_in, times_in, LaidIn, Fits, SoundSite}
use Rattle.history_laws.proofs.Frame.{eject-on_eject}
use Rattle.history_laws.proofs.Times.{Passes}

-- an open call of the process, or a request at the store
abbrev pub Claims : Site → Uid → ℕ → Type 0
Claims s u p = ((k : ℕ) × IsOpenOf s.traffic u p k) ⊎ (1 ≤ at_store u p s.node.requests)

pub record AddsNothing (s new : Site) : Type 0 where
  pub number : new.number ≡ s.number
  -- what is held goes on to be, or the Eject here no longer has it
  pub held : (u : Uid) (k : ℕ) → IsHeldAt s.traffic u k → IsHeldAt new.traffic u k
      ⊎ ((u.node ≡ s.number) × (times_in k (eject_in new u) ≡ 0))
  pub opens : (u : Uid) (p k : ℕ) → IsOpenOf new.traffic u p k → IsOpenOf s.traffic u p k
  pub numbered : AreNumbered 1 s.traffic.calls → AreNumbered 1 new.traffic.calls
  pub fewer : (u : Uid) (k : ℕ) → times_in k (eject_in new u) ≤ times_in k (eject_in s u)
  pub stores : (u : Uid) (p : ℕ) → at_store u p new.node.requests ≤ at_store u p s.node.requests
  pub waits : (u : Uid) (p : ℕ) → u.node ≡ s.number → Claims new u p → WaitsIn (eject_in s u) p → WaitsIn (eject_in new u) p
  pub laid : (u : Uid) → u.node ≡ s.number → LaidIn (eject_in s u) → LaidIn (eject_in new u)

pub nothing-sound : (s new : Site) → AddsNothing s new → SoundSite s → SoundSite new
nothing-sound s new step h = record {
  numbered = step.numbered h.numbered;
  fits =
      λ u at. one u (at ∙ step.number) (h.fits u (at ∙ step.number));
}
  where
    still : (u : Uid) (k : ℕ) → 1 ≤ times_in k (eject_in new u)
        → IsHeldAt new.traffic u k ⊎ ((u.node ≡ s.number) × (times_in k (eject_in new u) ≡ 0)) → IsHeldAt new.traffic u k
    still u k has (inl on) = on
    still u k has (inr gone) = absurd (omega (arith, has, gone.1))

    one : (u : Uid) → u.node ≡ s.number → Fits s.traffic s.node.requests u (eject_in s u)
        → Fits new.traffic new.node.requests u (eject_in new u)
    one u at fit = record {
      held = λ k has. still u k has (step.held u k (fit.held k (omega (arith, has, step.fewer u k))));
      once = λ k. omega (arith, fit.once k, step.fewer u k);
      asks = λ p k is. let x = fit.asks p k (step.opens u p k is) in
          (step.waits u p at (inl (k, is)) x.0, omega (arith, x.1, step.stores u p));
      single = λ p j k a b. fit.single p j k (step.opens u p j a) (step.opens u p k b);
      stores = λ p is. step.waits u p at (inr is) (fit.stores p (omega (arith, is, step.stores u p)));
      alone = λ p. omega (arith, fit.alone p, step.stores u p);
      laid = step.laid u at fit.laid;
    }

-- 1. What that means elsewhere

pub record Away (n : ℕ) (t new : Traffic) : Type 0 where
  pub held : (u : Uid) (k : ℕ) → (u.node ≡ n → ⊥) → IsHeldAt t u k → IsHeldAt new u k
  pub opens : (u : Uid) (p k : ℕ) → (u.node ≡ n → ⊥) → IsOpenOf new u p k → IsOpenOf t u p k

pub record StaysSound (s new : Site) : Type 0 where
  pub number : new.number ≡ s.number
  pub away : Away s.number s.traffic new.traffic
  pub sound : SoundSite new

pub stays-same : (s : Site) → SoundSite s → StaysSound s s
stays-same s h = record { number = refl; away = record { held = λ u k other h. h; opens = λ u p k other h. h }; sound = h }

pub stays-then : (s new later : Site) → StaysSound s new → (SoundSite new → StaysSound new later) → StaysSound s later
stays-then s new later a next = let b = next a.sound in record {
  number = b.number ∙ a.number;
  away = record {
    held = λ u k other h. b.away.held u k (λ is. other (is ∙ a.number)) (a.away.held u k other h);
    opens = λ u p k other h. a.away.opens u p k other (b.away.opens u p k (λ is. other (is ∙ a.number)) h);
  };
  sound = b.sound;
}

pub nothing-stays : (s new : Site) → AddsNothing s new → SoundSite s → StaysSound s new
nothing-stays s new step h = record {
  number = step.number;
  away = record { held = λ u k other is. go u k other (step.held u k is); opens = λ u p k other is. step.opens u p k is };
  sound = nothing-sound s new step h;
}
  where
    go : (u : Uid) (k : ℕ) → (u.node ≡ s.number → ⊥) → IsHeldAt new.traffic u k ⊎ ((u.node ≡ s.number) × (times_in k (eject_in new u) ≡ 0))
        → IsHeldAt new.traffic u k
    go u k other (inl on) = on
    go u k other (inr gone) = absurd (other gone.0)

pub stays-item : {X : Type 0} (s : Site) (o : Option X) (f : X → Site) → SoundSite s → ((x : X) → o ≡ Some x → StaysSound s (f x))
    → StaysSound s (with_item o f s)
stays-item s None f h each = stays-same s h
stays-item s (Some x) f h each = each x refl

-- 2. The messages

pub nothing-on_traffic : (ks : List ℕ) (f : Traffic → Traffic) (s : Site) → Passes ks s.traffic (f s.traffic)
    → ((u : Uid) (k : ℕ) → IsHeldAt s.traffic u k → 1 ≤ times k ks → (u.node ≡ s.number) × (times_in k (eject_in s u) ≡ 0))
    → AddsNothing s (on_traffic f s)
unfolding on_traffic
nothing-on_traffic ks f s passes out = record {
  number = refl;
  held = λ u k is. go u k is (times k ks) refl;
  opens = passes.opens;
  numbered = passes.numbered;
  fewer = λ u k. omega arith;
  stores = λ u p. omega arith;
  waits = λ u p at claims is. is;
  laid = λ u at is. is;
}
  where
    go : (u : Uid) (k : ℕ) → IsHeldAt s.traffic u k → (n : ℕ) → times k ks ≡ n
        → IsHeldAt (f s.traffic) u k ⊎ ((u.node ≡ s.number) × (times_in k (eject_in s u) ≡ 0))
    go u k is zero none = inl (passes.held u k none is)
    go u k is (suc n) some = inr (out u k is (omega (arith, some)))

pub nothing-quiet : (f : Traffic → Traffic) (s : Site) → Passes [] s.traffic (f s.traffic) → AddsNothing s (on_traffic f s)
nothing-quiet f s passes = nothing-on_traffic [] f s passes (λ u k is bad. absurd (omega (arith, bad)))

-- 3. The node

-- what counts of an Eject is as it was
pub record SameParts (old new : Option Eject) : Type 0 where
  pub active : active_in new ≡ active_in old
  pub queued : queued_in new ≡ queued_in old

pub nothing-on_node : (f : Node → Node) (s : Site) → ((u : Uid) → SameParts (eject_in s u) (value_at uid_cmp u (f s.node).ejects))
    → ((u : Uid) (p : ℕ) → at_store u p (f s.node).requests ≤ at_store u p s.node.requests)
    → AddsNothing s (on_node f s)
unfolding on_node
nothing-on_node f s same fewer = record {
  number = refl;
  held = λ u k is. inl is;
  opens = λ u p k is. is;
  numbered = λ h. h;
  fewer = λ u k. rw ((same u).active, (same u).queued) (omega arith);
  stores = fewer;
  waits = λ u p at claims is. rw (same u).active is;
  laid = λ u at is. rw (same u).active is;
}

pub nothing-on_eject : (v : Uid) (f : Eject → Eject) (s : Site)
    → ((e : Eject) → eject_in s v ≡ Some e → (k : ℕ) → times_in k (Some (f e)) ≤ times_in k (Some e))
    → ((e : Eject) → eject_in s v ≡ Some e → (p : ℕ) → Claims s v p → WaitsIn (Some e) p → WaitsIn (Some (f e)) p)
    → ((e : Eject) → eject_in s v ≡ Some e → LaidIn (Some e) → LaidIn (Some (f e)))
    → AddsNothing s (on_eject v f s)
unfolding on_eject
nothing-on_eject v f s fewer waits laid = record {
  number = refl;
  held = λ u k is. inl is;
  opens = λ u p k is. is;
  numbered = λ h. h;
  fewer = λ u k. subst (λ o. times_in k o ≤ times_in k (eject_in s u)) (sym (eject-on_eject v u f s))
      (few u k (eq_by_cmp uid_cmp u v) refl (eject_in s u) refl);
  stores = λ u p. omega arith;
  waits = λ u p at claims is. subst (λ o. WaitsIn o p) (sym (eject-on_eject v u f s))
      (wait u p claims (eq_by_cmp uid_cmp u v) refl (eject_in s u) refl is);
  laid = λ u at is. subst LaidIn (sym (eject-on_eject v u f s)) (lay u (eq_by_cmp uid_cmp u v) refl (eject_in s u) refl is);
}
  where
    here : (u : Uid) → eq_by_cmp uid_cmp u v ≡ true → u ≡ v
    here u is = eq-same uid_cmp uid_cmp-IsAntisymmetric u v is

    few : (u : Uid) (k : ℕ) (b : Bool) → eq_by_cmp uid_cmp u v ≡ b → (o : Option Eject) → eject_in s u ≡ o
        → times_in k (cond b (option_map f o) o) ≤ times_in k o
    few u k false is o at = omega arith
    few u k true is None at = omega arith
    few u k true is (Some e) at = fewer e (ap (eject_in s) (sym (here u is)) ∙ at) k

    wait : (u : Uid) (p : ℕ) → Claims s u p → (b : Bool) → eq_by_cmp uid_cmp u v ≡ b → (o : Option Eject) → eject_in s u ≡ o → WaitsIn o p
        → WaitsIn (cond b (option_map f o) o) p
    wait u p claims false is o at w = w
    wait u p claims true is None at w = w
    wait u p claims true is (Some e) at w = waits e (ap (eject_in s) (sym (here u is)) ∙ at) p
        (subst (λ x. Claims s x p) (here u is) claims) w

    lay : (u : Uid) (b : Bool) → eq_by_cmp uid_cmp u v ≡ b → (o : Option Eject) → eject_in s u ≡ o → LaidIn o
        → LaidIn (cond b (option_map f o) o)
    lay u false is o at l = l
    lay u true is None at l = l
    lay u true is (Some e) at l = laid e (ap (eject_in s) (sym (here u is)) ∙ at) l

-- a change of what does not count
pub nothing-aside : (v : Uid) (f : Eject → Eject) (s : Site) → ((e : Eject) → SameParts (Some e) (Some (f e)))
    → AddsNothing s (on_eject v f s)
nothing-aside v f s same = nothing-on_eject v f s (λ e at k. rw ((same e).active, (same e).queued) (omega arith)) (λ e at p claims w.
    rw (same e).active w) (λ e at l. rw (same e).active l)

-- one that is held at two is held at one
pub same-target : (t : Traffic) (u v : Uid) (k : ℕ) → IsHeldAt t u k → IsHeldAt t v k → u ≡ v
same-target t u v k a b = go (call_at t k) a b
  where
    go : (o : Option Call) → IsSomeAnd o (λ c. (c.place ≡ held) × (c.target.uid ≡ u))
        → IsSomeAnd o (λ c. (c.place ≡ held) × (c.target.uid ≡ v)) → u ≡ v
    go None a b = absurd a
    go (Some c) a b = sym a.1 ∙ b.1
