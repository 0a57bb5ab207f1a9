-- A look-up of a walk leaves what holds of a pipeline: it is a call of the shell, and no Transfer.
use Rattle.std.proofs.Common.{◌≡◌, ◌⊎◌, inl, inr, ℕ, ◌+◌, Bool, true, false, cond, List, [], ◌∷◌, Option, None, Some, refl, ap}
use Rattle.std.proofs.Common.{sym, ◌∙◌, subst, arith}
use Rattle.std.specs.Prelude.{codes}
use Rattle.std.specs.Ordering.{nat_cmp, eq_by_cmp}
use Rattle.capability.specs.declared.Uid.{Uid}
use Rattle.capability.specs.declared.Cap.{Cap}
use Rattle.eden_value.specs.Datum.{Datum}
use Rattle.eden_value.specs.declared.status.Status.{Status}
use Rattle.eden_model.specs.Map.{with_item, value_at, uid_cmp}
use Rattle.eden_model.proofs.Numbers.{same-true}
use Rattle.eden_model.specs.declared.Asker.TheVariants.{Shell, Eject as Process}
use Rattle.eden_model.specs.Traffic.{Call, Place, asked as on_its_way, held, answered, done, call_at, new_call}
use Rattle.epl_syntax.specs.declared.effect.Answer.{Answer}
use Rattle.epl_syntax.specs.declared.effect.Answer.TheVariants.{Reply as Told}
use Rattle.epl_syntax.specs.Natives.{in_cell, in_directory, in_lines, in_filter, in_sink}
use Rattle.epl_syntax.specs.Streams.{came}
use Rattle.epl_syntax.specs.Filters.{Stage as FilterStage, opens, open_saved, transfers, transfer_saved, asked, item_saved}
use Rattle.epl_syntax.specs.Sink.{Stage as SinkStage}
use Rattle.epl_syntax.specs.Sink as sink
use Rattle.journal.specs.declared.event.Event.{Event}
use Rattle.journal.specs.declared.event.Event.TheVariants as event
use Rattle.journal.specs.World.{World, Node}
use Rattle.journal.specs.Run.{AllowsLookUp, looked_up, lookup_args}
use Rattle.journal.specs.Sites.{AreNumbered}
use Rattle.history_laws.proofs.Runs.{nodes-looked_up}
use Rattle.history_laws.proofs.Times.{call-more, none-behind}
use Rattle.stream_laws.specs.Chains.{Stage}
use Rattle.stream_laws.specs.Counts.{is_transfer_by, transfers_by}
use Rattle.stream_laws.proofs.Items.{same-some}
use Rattle.stream_laws.proofs.States.{State, absent, asleep, idle, busy, state_in, state_of}
use Rattle.stream_laws.proofs.Asking.{count-more}
use Rattle.stream_laws.proofs.SinkCounts.{held_in}
use Rattle.stream_laws.proofs.Counting.{IsPending, StillState, Quiet, OpenCalls, Coming, At, WorkingState, Working, SinkAt, Pumping, if-map}

-- a call of the shell that looks up
abbrev IsLook : Call → Type 0
IsLook d = ((name : List ℕ) × (d.asker ≡ Shell name)) × (d.operation ≡ codes "LookUp")

no-transfer : (d : Call) → IsLook d → d.operation ≡ codes "Transfer" → ⊥
no-transfer d look op = let bad : codes "LookUp" ≡ codes "Transfer" = sym look.1 ∙ op in cc bad

-- 1. A world in which nothing but such a call is new
pub record Looks (w v : World) : Type 0 where
  pub state : (u : Uid) → state_of w u ≡ state_of v u
  count : (u : Uid) → transfers_by u v.traffic ≡ transfers_by u w.traffic
  pub kept : (k : ℕ) (a : Call) → call_at w.traffic k ≡ Some a → call_at v.traffic k ≡ Some a
  back : (k : ℕ) (d : Call) → call_at v.traffic k ≡ Some d → (call_at w.traffic k ≡ Some d) ⊎ IsLook d

module _ (w v : World) (x : Looks w v) where
  counts : (u : Uid) (n : ℕ) → transfers_by u w.traffic ≡ n → transfers_by u v.traffic ≡ n
  counts u n h = x.count u ∙ h

  quiet-same : (m : ℕ) (fs : List Stage) → Quiet w m fs → Quiet v m fs
  quiet-same m [] q = tt
  quiet-same m (f ∷ fs) q = (
    record {
      count = counts f.uid m q.0.count;
      none = λ k d is pending. none k d pending (x.back k d is);
      state = subst (StillState f.sieve m) (x.state f.uid) q.0.state;
    },
    quiet-same m fs q.1,
  )
    where
      none : (k : ℕ) (d : Call) → IsPending f.uid d → (call_at w.traffic k ≡ Some d) ⊎ IsLook d → ⊥
      none k d pending (inl old) = q.0.none k d old pending
      none k d pending (inr look) = no-transfer d look pending.1

  coming-same : (m : ℕ) (fs : List Stage) (R S : Type 0) (p : Place) → (R → S) → Coming w m fs R p → Coming v m fs S p
  coming-same m fs R S on_its_way f h = f h
  coming-same m fs R S held f h = f h
  coming-same m fs R S (answered s results) f h =
      if-map (came (Told s results)) (Quiet w (m + 1) fs) (Quiet v (m + 1) fs) (λ q. quiet-same (m + 1) fs q) h
  coming-same m fs R S done f h = tt

  open-same : (u : Uid) (P Q : ℕ → Call → Type 0) → ((i : ℕ) (c : Call) → call_at w.traffic i ≡ Some c → P i c → Q i c)
      → OpenCalls w u P → OpenCalls v u Q
  open-same u P Q f h i p c is opened asker = go (x.back i c is)
    where
      go : (call_at w.traffic i ≡ Some c) ⊎ IsLook c → Q i c
      go (inl old) = f i c old (h i p c old opened asker)
      go (inr look) = absurd (let bad : Shell look.0.0 ≡ Process u p = sym look.0.1 ∙ asker in cc bad)

  module _ (m : ℕ) (fs : List Stage) (before : (i : ℕ) (c : Call) → call_at w.traffic i ≡ Some c → Working w m i fs
      → Working v m i fs) where
    calls-same : (u : Uid) → OpenCalls w u (λ i c. Coming w m fs (Working w m i fs) c.place)
        → OpenCalls v u (λ i c. Coming v m fs (Working v m i fs) c.place)
    calls-same u h = open-same u (λ i c. Coming w m fs (Working w m i fs) c.place) (λ i c. Coming v m fs (Working v m i fs) c.place)
        (λ i c old y. coming-same m fs (Working w m i fs) (Working v m i fs) c.place (before i c old) y) h

    at-same : (k : ℕ) (f : Stage) (j : ℕ) (st : FilterStage) (a : Answer) (vars : List Datum)
        → At w m k f fs (λ i. Working w m i fs) j st a vars → At v m k f fs (λ i. Working v m i fs) j st a vars
    at-same k f j asked a vars h = (
      h.0,
      h.1,
      counts f.uid (m + 1) h.2,
      if-map (came a) (Quiet w (m + 1) fs) (Quiet v (m + 1) fs) (λ q. quiet-same (m + 1) fs q) h.3,
      calls-same f.uid h.4,
    )
    at-same k f j (item_saved true) a vars h = (h.0, h.1, counts f.uid (m + 1) h.2, quiet-same (m + 1) fs h.3)
    at-same k f j (item_saved false) a vars h = h
    at-same k f j (transfers p) a vars h = (h.0, h.1, counts f.uid m h.2, quiet-same m fs h.3)
    at-same k f j (transfer_saved p) a vars h = (h.0, h.1, counts f.uid m h.2, quiet-same m fs h.3)
    at-same k f j (opens given) a vars h = (h.0, counts f.uid m h.1, quiet-same m fs h.2)
    at-same k f j open_saved a vars h = (h.0, counts f.uid m h.1, quiet-same m fs h.2)

    working-state : (k : ℕ) (f : Stage) (s : State) → WorkingState w m k f fs (λ i. Working w m i fs) s
        → WorkingState v m k f fs (λ i. Working v m i fs) s
    working-state k f absent h = (h.0, counts f.uid m h.1, quiet-same m fs h.2)
    working-state k f asleep h = tt
    working-state k f (idle vars) h = (h.0, counts f.uid m h.1, quiet-same m fs h.2)
    working-state k f (busy j (in_filter st) a vars) h = at-same k f j st a vars h
    working-state k f (busy j (in_cell st) a vars) h = absurd h
    working-state k f (busy j (in_directory st) a vars) h = absurd h
    working-state k f (busy j (in_lines st) a vars) h = absurd h
    working-state k f (busy j (in_sink st) a vars) h = absurd h

  working-same : (m : ℕ) (fs : List Stage) (k : ℕ) (c : Call) → call_at w.traffic k ≡ Some c → Working w m k fs → Working v m k fs
  working-same m [] k c at h = tt
  working-same m (f ∷ fs) k c at h = (
    λ d is. h.0 d (at ∙ ap Some (same-some (sym (x.kept k c at) ∙ is))),
    λ j d is pending. only j d pending (x.back j d is),
    subst (WorkingState v m k f fs (λ i. Working v m i fs)) (x.state f.uid)
        (working-state m fs (λ i c old y. working-same m fs i c old y) k f (state_of w f.uid) h.2),
  )
    where
      only : (j : ℕ) (d : Call) → IsPending f.uid d → (call_at w.traffic j ≡ Some d) ⊎ IsLook d → j ≡ k
      only j d pending (inl old) = h.1 j d old pending
      only j d pending (inr look) = absurd (no-transfer d look pending.1)

  sink-same : (u : Uid) (fs : List Stage) (st : SinkStage) (a : Answer) (vars : List Datum) → SinkAt w u fs st a vars
      → SinkAt v u fs st a vars
  sink-same u fs (sink.asked wanted taken) a vars h = (
    counts u (held_in vars + 1) h.0,
    if-map (came a) (Quiet w (held_in vars + 1) fs) (Quiet v (held_in vars + 1) fs) (λ q. quiet-same (held_in vars + 1) fs q) h.1,
    calls-same (held_in vars) fs (λ i c old y. working-same (held_in vars) fs i c old y) u h.2,
  )
  sink-same u fs (sink.opens src) a vars h = (counts u (held_in vars) h.0, quiet-same (held_in vars) fs h.1)
  sink-same u fs sink.open_saved a vars h = (counts u (held_in vars) h.0, quiet-same (held_in vars) fs h.1)
  sink-same u fs (sink.pumps wanted) a vars h = (counts u (held_in vars) h.0, quiet-same (held_in vars) fs h.1)
  sink-same u fs (sink.item_saved wanted taken) a vars h = (counts u (held_in vars) h.0, quiet-same (held_in vars) fs h.1)
  sink-same u fs sink.reads a vars h = (counts u (held_in vars) h.0, quiet-same (held_in vars) fs h.1)

  pumping-state : (u : Uid) (fs : List Stage) (s : State) → Pumping w u fs s → Pumping v u fs s
  pumping-state u fs absent h = (counts u 0 h.0, quiet-same 0 fs h.1)
  pumping-state u fs asleep h = tt
  pumping-state u fs (idle vars) h = (counts u (held_in vars) h.0, quiet-same (held_in vars) fs h.1)
  pumping-state u fs (busy j (in_sink st) a vars) h = sink-same u fs st a vars h
  pumping-state u fs (busy j (in_cell st) a vars) h = absurd h
  pumping-state u fs (busy j (in_directory st) a vars) h = absurd h
  pumping-state u fs (busy j (in_lines st) a vars) h = absurd h
  pumping-state u fs (busy j (in_filter st) a vars) h = absurd h

  pumping-same : (u : Uid) (fs : List Stage) → Pumping w u fs (state_of w u) → Pumping v u fs (state_of v u)
  pumping-same u fs h = subst (Pumping v u fs) (x.state u) (pumping-state u fs (state_of w u) h)

-- 2. A look-up is so
pub look-up-looks : (w : World) (name : List ℕ) (target : Option Cap) (path : List (List ℕ)) (e : Event) → AreNumbered 1 w.traffic.calls
    → AllowsLookUp w name target path e → Looks w (looked_up w name target path e)
look-up-looks w name target path e numbered a = record {
  state = λ u. ap (λ ns. state_in (with_item (value_at nat_cmp u.node ns) (λ (it : Node). value_at uid_cmp u it.ejects) None))
      (sym (nodes-looked_up w name target path e));
  count = λ u. count u target e a;
  kept = λ k b at. kept k b target e a at;
  back = λ k d is. back k d target e a is;
}
  where
    count : (u : Uid) (target : Option Cap) (e : Event) → AllowsLookUp w name target path e
        → transfers_by u (looked_up w name target path e).traffic ≡ transfers_by u w.traffic
    count u (Some cap) (event.Asked k said at_once) a = count-more (is_transfer_by u) 1 w.traffic.calls numbered k
        (new_call (Shell name) cap (codes "LookUp") (lookup_args path) at_once) (let n = a.1.number in omega (arith, n))
        ∙ ap (λ b. transfers_by u w.traffic + cond b 1 0) (by at_once) ∙ none (transfers_by u w.traffic)
      where
        by : (o : Option Status) → is_transfer_by u (new_call (Shell name) cap (codes "LookUp") (lookup_args path) o) ≡ false
        by None = refl
        by (Some why) = refl

        none : (n : ℕ) → n + 0 ≡ n
        none n = omega arith
    count u None (event.Void said) a = refl
    count u _ _ a = absurd a

    kept : (j : ℕ) (b : Call) (target : Option Cap) (e : Event) → AllowsLookUp w name target path e → call_at w.traffic j ≡ Some b
        → call_at (looked_up w name target path e).traffic j ≡ Some b
    kept j b (Some cap) (event.Asked k said at_once) a at =
        call-more k (Shell name) cap (codes "LookUp") (lookup_args path) at_once w.traffic j ∙ go (eq_by_cmp nat_cmp j k) refl
      where
        go : (t : Bool) → eq_by_cmp nat_cmp j k ≡ t
            → cond t (Some (new_call (Shell name) cap (codes "LookUp") (lookup_args path) at_once)) (call_at w.traffic j) ≡ Some b
        go true same = absurd (let bad : None ≡ Some b = sym (none-behind 1 w.traffic.calls numbered j
            (let one : j ≡ k = same-true j k same in let n = a.1.number in omega (arith, one, n))) ∙ at in cc bad)
        go false apart = at
    kept j b None (event.Void said) a at = at
    kept j b _ _ a at = absurd a

    back : (j : ℕ) (d : Call) (target : Option Cap) (e : Event) → AllowsLookUp w name target path e
        → call_at (looked_up w name target path e).traffic j ≡ Some d → (call_at w.traffic j ≡ Some d) ⊎ IsLook d
    back j d (Some cap) (event.Asked k said at_once) a is = go (eq_by_cmp nat_cmp j k)
        (sym (call-more k (Shell name) cap (codes "LookUp") (lookup_args path) at_once w.traffic j) ∙ is)
      where
        look : (o : Option Status) → IsLook (new_call (Shell name) cap (codes "LookUp") (lookup_args path) o)
        look None = ((name, refl), refl)
        look (Some why) = ((name, refl), refl)

        go : (t : Bool) → cond t (Some (new_call (Shell name) cap (codes "LookUp") (lookup_args path) at_once)) (call_at w.traffic j)
            ≡ Some d
            → (call_at w.traffic j ≡ Some d) ⊎ IsLook d
        go true h = inr (subst IsLook (same-some h) (look at_once))
        go false h = inl h
    back j d None (event.Void said) a is = inl is
    back j d _ _ a is = absurd a

pub pumping-looked : (w : World) (name : List ℕ) (target : Option Cap) (path : List (List ℕ)) (e : Event) → AreNumbered 1 w.traffic.calls
    → AllowsLookUp w name target path e → (u : Uid) (fs : List Stage) → Pumping w u fs (state_of w u)
    → Pumping (looked_up w name target path e) u fs (state_of (looked_up w name target path e) u)
pumping-looked w name target path e numbered a u fs h =
    pumping-same w (looked_up w name target path e) (look-up-looks w name target path e numbered a) u fs h
