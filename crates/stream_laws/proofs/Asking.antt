-- Which calls are new behind an entry, and how many an Eject has asked.
use Rattle.std.proofs.Common.{◌≡◌, ◌⊎◌, inl, inr, ℕ, ◌+◌, ◌≤◌, ◌<◌, Bool, true, false, cond, ◌&&◌, List, [], ◌∷◌, length, Option, None}
use Rattle.std.proofs.Common.{Some}
use Rattle.std.proofs.Common.{refl, ap, sym, ◌∙◌, subst, arith}
use Rattle.std.specs.Prelude.{codes, IsSomeAnd, IfSome}
use Rattle.std.specs.List.{count_by}
use Rattle.std.specs.Ordering.{nat_cmp, eq_by_cmp}
use Rattle.std.specs.declared.cmp.Ordering.{Ordering}
use Rattle.std.specs.declared.cmp.Ordering.TheVariants.{Less, Equal, Greater}
use Rattle.std.specs.Cmp.{nat_cmp_total}
use Rattle.std.proofs.lemmas.Cmp.{tied_itself}
use Rattle.std.proofs.lemmas.Bool.Decides.{leb_tells}
use Rattle.std.proofs.lemmas.List.Sums.{sum_by-cons}
use Rattle.std.specs.Prelude.{leb}
use Rattle.capability.proofs.Uids.{uid_cmp_total, uid_cmp-IsAntisymmetric}
use Rattle.eden_model.proofs.Laws.{eq-same}
use Rattle.std.specs.FinMap.Entries.{by_order}
use Rattle.capability.specs.declared.Uid.{Uid}
use Rattle.capability.specs.declared.Cap.{Cap}
use Rattle.eden_value.specs.Datum.{Datum}
use Rattle.eden_value.specs.declared.status.Status.{Status}
use Rattle.eden_model.specs.Map.{value_at, put_at, uid_cmp, same_uid, same_text}
use Rattle.eden_model.proofs.Numbers.{same-true}
use Rattle.eden_model.specs.Crew.{Invocation}
use Rattle.eden_model.specs.declared.Asker.{Asker}
use Rattle.eden_model.specs.declared.Asker.TheVariants.{Shell, Eject as Process}
use Rattle.eden_model.specs.Traffic.{Traffic, Call, held, call_at, asks, next_call, new_call, with_call}
use Rattle.epl_syntax.specs.declared.effect.Effect.{Effect}
use Rattle.epl_syntax.specs.declared.effect.Effect.TheVariants as effect
use Rattle.epl_syntax.specs.Meaning.{Turned}
use Rattle.journal.specs.declared.command.Command.{Command}
use Rattle.journal.specs.declared.command.Command.TheVariants as command
use Rattle.journal.specs.declared.event.Event.{Event}
use Rattle.journal.specs.declared.event.Event.TheVariants as event
use Rattle.journal.specs.declared.event.Entry.{Entry}
use Rattle.journal.specs.declared.event.Shown.{Shown}
use Rattle.journal.specs.World.{World, Node, Eject, Active, node_at, eject_at, site_of, eject_in, reaches}
use Rattle.journal.specs.Processes.{turn_of, serving}
use Rattle.journal.specs.Sites.{AreNumbered, GoesOn}
use Rattle.journal.specs.Step.{Allows, next}
use Rattle.history_laws.proofs.CallsKeep.{keeps-next as calls-keep}
use Rattle.history_laws.proofs.SiteRuns.{is-known, site-next}
use Rattle.history_laws.proofs.SeatRuns.{SeatWorld}
use Rattle.value_laws.proofs.AnswerCalls.{GoOn, Was, IsNew, MayDo, process_turn-on}
use Rattle.value_laws.proofs.WorldCalls.{KeepsTurn, ShellAsks, keeps-next}
use Rattle.stream_laws.specs.Counts.{is_transfer_by, transfers_by}
use Rattle.stream_laws.proofs.StagedCalls.{held-by}
use Rattle.stream_laws.proofs.StagedNodes.{own-eject}

-- 1. New calls
module _ (w : World) (ev : Event) where
  -- the event is a turn of a process of v that makes a call
  pub record AsksNow (v : Uid) : Type 0 where
    pub process : ℕ
    pub said : Shown
    pub is : ev ≡ event.Process v process said
    pub eject : Eject
    pub active : Active
    pub turned : Turned
    pub at : eject_at w v ≡ Some eject
    pub some : eject.active ≡ Some active
    pub turns : turn_of v active process ≡ Some turned
    pub target : Cap
    pub operation : List ℕ
    pub args : List Datum
    pub effect_is : turned.effect ≡ effect.Invoke target operation args

  -- an answer that is new comes of a turn of the Eject that was called
  abbrev pub Answered : ℕ → Status → List Datum → Type 0
  Answered k st results = IsSomeAnd (call_at w.traffic k)
      (λ c. (c.place ≡ held) × ((p : ℕ) × (said : Shown) × (ev ≡ event.Process c.target.uid p said)))

  -- a call that is new was asked by the shell, or in such a turn
  abbrev pub Asked : ℕ → Asker → Cap → List ℕ → List Datum → Type 0
  Asked k a target operation args = (v : Uid) (q : ℕ) → a ≡ Process v q → AsksNow v

module _ (H : ℕ → Bool) (w : World) (c : Option Command) (e : Entry) (seat : SeatWorld H w) (allowed : Allows w c e) where
  abbrev later : World
  later = next w c e

  pub calls-go : GoOn (Answered w e.event) (Asked w e.event) w.traffic later.traffic
  calls-go = keeps-next (Answered w e.event) (Asked w e.event) w c e (turns e.event refl) (by c) allowed
    where
      says : (v : Uid) (p : ℕ) (said : Shown) (it : Node) → e.event ≡ event.Process v p said → node_at w v.node ≡ Some it
          → (y : Eject) (a : Active) (t : Turned) → eject_in (site_of w v.node it) v ≡ Some y → y.active ≡ Some a
          → turn_of v a p ≡ Some t → MayDo (Answered w e.event) (Asked w e.event) v p (serving a p) t.effect
      says v p said it of at y a t is some turns = go t.effect refl
        where
          held-so : (o : Option Call) → IsSomeAnd o (λ c. (c.place ≡ held) × (c.target.uid ≡ v))
              → IsSomeAnd o (λ c. (c.place ≡ held) × ((p : ℕ) × (said : Shown) × (e.event ≡ event.Process c.target.uid p said)))
          held-so None h = absurd h
          held-so (Some d) h = (h.0, (p, said, of ∙ ap (λ z. event.Process z p said) (sym h.1)))

          served : (results : List Datum) → (o : Option Invocation) → serving a p ≡ o
              → MayDo (Answered w e.event) (Asked w e.event) v p o (effect.Return results)
          served results None serves = tt
          served results (Some i) serves = held-so (call_at w.traffic i.call) (held-by H w seat.site v it at y a is some p i serves)

          asking : (target : Cap) (operation : List ℕ) (args : List Datum) → t.effect ≡ effect.Invoke target operation args
              → (z : Uid) (q : ℕ) → Process v p ≡ Process z q → AsksNow w e.event z
          asking target operation args eq z q by = subst (AsksNow w e.event) (let same : v ≡ z = cc by in same) (record {
            process = p;
            said = said;
            is = of;
            eject = y;
            active = a;
            turned = t;
            at = own-eject w v.node it v at refl ∙ is;
            some = some;
            turns = turns;
            target = target;
            operation = operation;
            args = args;
            effect_is = eq;
          })

          go : (eff : Effect) → t.effect ≡ eff → MayDo (Answered w e.event) (Asked w e.event) v p (serving a p) eff
          go (effect.Return results) eq = served results (serving a p) refl
          go (effect.Invoke target operation args) eq = λ k. asking target operation args eq
          go _ eq = tt

      turns : (ev : Event) → e.event ≡ ev → KeepsTurn (Answered w e.event) (Asked w e.event) w ev
      turns (event.Process v p said) is = λ it at. process_turn-on (Answered w e.event) (Asked w e.event) (reaches w v.node) v p
          (site_of w v.node it) (λ y a t is_y some takes. says v p said it is at y a t is_y some takes)
      turns _ is = tt

      shell : (x : Command) → ShellAsks (Answered w e.event) (Asked w e.event) w x
      shell (command.Call name target operation args) = λ k x ready v q is. absurd (cc is)
      shell _ = tt

      by : (o : Option Command) → IfSome o (ShellAsks (Answered w e.event) (Asked w e.event) w)
      by None = tt
      by (Some x) = shell x

-- 2. Counting
none-below : (n : ℕ) (es : List (ℕ × Call)) → AreNumbered n es → (k : ℕ) → k < n → value_at nat_cmp k es ≡ None
none-below n [] h k low = refl
none-below n (e ∷ es) h k low = go (eq_by_cmp nat_cmp k e.0) refl (none-below (n + 1) es h.1 k (omega (arith, low)))
  where
    go : (b : Bool) → eq_by_cmp nat_cmp k e.0 ≡ b → value_at nat_cmp k es ≡ None → cond b (Some e.1) (value_at nat_cmp k es) ≡ None
    go true same later = absurd (let s : k ≡ e.0 = same-true k e.0 same in omega (arith, s, h.0, low))
    go false same later = later

zero-plus : (n : ℕ) → 0 + n ≡ n
zero-plus n = omega arith

sum-three : (a b c : ℕ) → a + (b + c) ≡ a + b + c
sum-three a b c = omega arith

module _ (test : Call → Bool) where
  abbrev Like : List (ℕ × Call) → List (ℕ × Call) → Type 0
  Like es fs = (k : ℕ) (c : Call) → value_at nat_cmp k es ≡ Some c → IsSomeAnd (value_at nat_cmp k fs) (λ d. test c ≡ test d)

  abbrev Fails : List (ℕ × Call) → List (ℕ × Call) → Type 0
  Fails es fs = (k : ℕ) (d : Call) → value_at nat_cmp k es ≡ None → value_at nat_cmp k fs ≡ Some d → test d ≡ false

  head-is : (n : ℕ) (e : ℕ × Call) (es : List (ℕ × Call)) → e.0 ≡ n → value_at nat_cmp n (e ∷ es) ≡ Some e.1
  head-is n e es at = rw at (rw (tied_itself nat_cmp_total n) refl)

  -- behind the head the map is that of the rest
  tail-is : (n : ℕ) (e : ℕ × Call) (es : List (ℕ × Call)) → e.0 ≡ n → (k : ℕ) → n < k
      → value_at nat_cmp k (e ∷ es) ≡ value_at nat_cmp k es
  tail-is n e es at k behind = go (eq_by_cmp nat_cmp k e.0) refl
    where
      go : (b : Bool) → eq_by_cmp nat_cmp k e.0 ≡ b → cond b (Some e.1) (value_at nat_cmp k es) ≡ value_at nat_cmp k es
      go true same = absurd (let s : k ≡ e.0 = same-true k e.0 same in omega (arith, s, at, behind))
      go false same = refl

  like-tail : (n : ℕ) (e : ℕ × Call) (es : List (ℕ × Call)) (f : ℕ × Call) (fs : List (ℕ × Call)) → AreNumbered n (e ∷ es)
      → AreNumbered n (f ∷ fs) → Like (e ∷ es) (f ∷ fs) → Like es fs
  like-tail n e es f fs a b like k c is = go (leb_tells (n + 1) k)
    where
      go : ((leb (n + 1) k ≡ true) × (n + 1 ≤ k)) ⊎ ((leb (n + 1) k ≡ false) × (k < n + 1))
          → IsSomeAnd (value_at nat_cmp k fs) (λ d. test c ≡ test d)
      go (inl behind) = subst (λ o. IsSomeAnd o (λ d. test c ≡ test d)) (tail-is n f fs b.0 k (omega (arith, behind.1)))
          (like k c (tail-is n e es a.0 k (omega (arith, behind.1)) ∙ is))
      go (inr low) = absurd (let bad : None ≡ Some c = sym (none-below (n + 1) es a.1 k low.1) ∙ is in cc bad)

  fails-tail : (n : ℕ) (e : ℕ × Call) (es : List (ℕ × Call)) (f : ℕ × Call) (fs : List (ℕ × Call)) → AreNumbered n (e ∷ es)
      → AreNumbered n (f ∷ fs) → Fails (e ∷ es) (f ∷ fs) → Fails es fs
  fails-tail n e es f fs a b fails k d none is = go (leb_tells (n + 1) k)
    where
      go : ((leb (n + 1) k ≡ true) × (n + 1 ≤ k)) ⊎ ((leb (n + 1) k ≡ false) × (k < n + 1)) → test d ≡ false
      go (inl behind) = fails k d (tail-is n e es a.0 k (omega (arith, behind.1)) ∙ none)
          (tail-is n f fs b.0 k (omega (arith, behind.1)) ∙ is)
      go (inr low) = absurd (let bad : None ≡ Some d = sym (none-below (n + 1) fs b.1 k low.1) ∙ is in cc bad)

  fails-more : (n : ℕ) (f : ℕ × Call) (fs : List (ℕ × Call)) → AreNumbered n (f ∷ fs) → Fails [] (f ∷ fs) → Fails [] fs
  fails-more n f fs b fails k d none is = go (leb_tells (n + 1) k)
    where
      go : ((leb (n + 1) k ≡ true) × (n + 1 ≤ k)) ⊎ ((leb (n + 1) k ≡ false) × (k < n + 1)) → test d ≡ false
      go (inl behind) = fails k d refl (tail-is n f fs b.0 k (omega (arith, behind.1)) ∙ is)
      go (inr low) = absurd (let bad : None ≡ Some d = sym (none-below (n + 1) fs b.1 k low.1) ∙ is in cc bad)

  -- the calls that pass are as many, where those that are there go on to pass, and no other passes
  pub count-same : (n : ℕ) (es fs : List (ℕ × Call)) → AreNumbered n es → AreNumbered n fs → Like es fs → Fails es fs
      → count_by (λ (e : ℕ × Call). test e.1) fs ≡ count_by (λ (e : ℕ × Call). test e.1) es
  count-same n [] [] a b like fails = refl
  count-same n [] (f ∷ fs) a b like fails = sum_by-cons (λ (e : ℕ × Call). cond (test e.1) 1 0) f fs
      ∙ ap (λ t. cond t 1 0 + count_by (λ (e : ℕ × Call). test e.1) fs) (fails n f.1 refl (head-is n f fs b.0))
      ∙ zero-plus (count_by (λ (e : ℕ × Call). test e.1) fs)
      ∙ count-same (n + 1) [] fs tt b.1 (λ k c is. absurd (cc is)) (fails-more n f fs b fails)
  count-same n (e ∷ es) [] a b like fails = absurd (like n e.1 (head-is n e es a.0))
  count-same n (e ∷ es) (f ∷ fs) a b like fails = sum_by-cons (λ (e : ℕ × Call). cond (test e.1) 1 0) f fs
      ∙ ap (λ t. cond t 1 0 + count_by (λ (e : ℕ × Call). test e.1) fs)
      (sym (subst (λ o. IsSomeAnd o (λ d. test e.1 ≡ test d)) (head-is n f fs b.0) (like n e.1 (head-is n e es a.0))))
      ∙ ap (λ m. cond (test e.1) 1 0 + m)
      (count-same (n + 1) es fs a.1 b.1 (like-tail n e es f fs a b like) (fails-tail n e es f fs a b fails))
      ∙ sym (sum_by-cons (λ (e : ℕ × Call). cond (test e.1) 1 0) e es)

  -- one call more
  pub count-more : (n : ℕ) (es : List (ℕ × Call)) → AreNumbered n es → (k : ℕ) (c : Call) → k ≡ n + length es
      → count_by (λ (e : ℕ × Call). test e.1) (put_at nat_cmp k c es) ≡ count_by (λ (e : ℕ × Call). test e.1) es + cond (test c) 1 0
  count-more n [] h k c last = sum_by-cons (λ (e : ℕ × Call). cond (test e.1) 1 0) (k, c) [] ∙ omega arith
  count-more n (e ∷ es) h k c last = go (nat_cmp k e.0) refl (count-more (n + 1) es h.1 k c (omega (arith, last)))
    where
      go : (o : Ordering) → nat_cmp k e.0 ≡ o
          → count_by (λ (e : ℕ × Call). test e.1) (put_at nat_cmp k c es)
          ≡ count_by (λ (e : ℕ × Call). test e.1) es + cond (test c) 1 0
          → count_by (λ (e : ℕ × Call). test e.1) (by_order o ((k, c) ∷ e ∷ es) ((e.0, c) ∷ es) (e ∷ put_at nat_cmp k c es))
          ≡ count_by (λ (e : ℕ × Call). test e.1) (e ∷ es) + cond (test c) 1 0
      go Less is more = absurd (let lt : k < e.0 = grind (arith, is) in omega (arith, lt, h.0, last))
      go Equal is more = absurd (let same : k ≡ e.0 = grind (arith, is) in omega (arith, same, h.0, last))
      go Greater is more = sum_by-cons (λ (e : ℕ × Call). cond (test e.1) 1 0) e (put_at nat_cmp k c es)
          ∙ ap (λ m. cond (test e.1) 1 0 + m) more
          ∙ sum-three (cond (test e.1) 1 0) (count_by (λ (e : ℕ × Call). test e.1) es) (cond (test c) 1 0)
          ∙ ap (λ m. m + cond (test c) 1 0) (sym (sum_by-cons (λ (e : ℕ × Call). cond (test e.1) 1 0) e es))

-- 3. What one Eject has asked
module _ (H : ℕ → Bool) (w : World) (c : Option Command) (e : Entry) (seat : SeatWorld H w) (allowed : Allows w c e) where
  -- as many as before, where it asks nothing
  pub asked-same : (u : Uid) → (AsksNow w e.event u → ⊥) → transfers_by u (next w c e).traffic ≡ transfers_by u w.traffic
  asked-same u quiet = count-same (is_transfer_by u) 1 w.traffic.calls (next w c e).traffic.calls seat.site.known.numbered
      (site-next H w c e allowed seat.site).known.numbered
      like
      fails
    where
      same : (a d : Call) → GoesOn a d → is_transfer_by u a ≡ is_transfer_by u d
      same a d x = ap (λ z. asks u z && same_text a.operation (codes "Transfer")) (sym x.asker)
          ∙ ap (λ z. asks u d.asker && same_text z (codes "Transfer")) (sym x.operation)

      like : (k : ℕ) (a : Call) → value_at nat_cmp k w.traffic.calls ≡ Some a
          → IsSomeAnd (value_at nat_cmp k (next w c e).traffic.calls) (λ d. is_transfer_by u a ≡ is_transfer_by u d)
      like k a is = go (call_at (next w c e).traffic k) ((calls-keep w c e (is-known H w seat.site.known) allowed).kept k a is)
        where
          go : (o : Option Call) → IsSomeAnd o (GoesOn a) → IsSomeAnd o (λ d. is_transfer_by u a ≡ is_transfer_by u d)
          go None h = h
          go (Some d) h = same a d h

      other : (d : Call) → ((v : Uid) (q : ℕ) → d.asker ≡ Process v q → AsksNow w e.event v) → is_transfer_by u d ≡ false
      other d new = go d.asker refl
        where
          go : (a : Asker) → d.asker ≡ a → (asks u a && same_text d.operation (codes "Transfer")) ≡ false
          go (Shell name) is = refl
          go (Process v q) is = by (same_uid v u) refl
            where
              by : (b : Bool) → same_uid v u ≡ b → (b && same_text d.operation (codes "Transfer")) ≡ false
              by false apart = refl
              by true one = absurd (quiet (subst (AsksNow w e.event) (eq-same uid_cmp uid_cmp-IsAntisymmetric v u one) (new v q is)))

      fails : (k : ℕ) (d : Call) → value_at nat_cmp k w.traffic.calls ≡ None → value_at nat_cmp k (next w c e).traffic.calls ≡ Some d
          → is_transfer_by u d ≡ false
      fails k d none is = go ((calls-go H w c e seat allowed).back k d is)
        where
          go : IsSomeAnd (call_at w.traffic k) (λ a. Was (Answered w e.event) (Asked w e.event) k a d)
              ⊎ IsNew (Answered w e.event) (Asked w e.event) k d → is_transfer_by u d ≡ false
          go (inl h) = absurd (subst (λ o. IsSomeAnd o (λ a. Was (Answered w e.event) (Asked w e.event) k a d)) none h)
          go (inr h) = other d h.asker

-- one more, where it asks a Transfer
pub asked-more : (u : Uid) (p : ℕ) (target : Cap) (args : List Datum) (at_once : Option Status) (t : Traffic) → AreNumbered 1 t.calls
    → transfers_by u (with_call (next_call t) (Process u p) target (codes "Transfer") args at_once t) ≡ transfers_by u t + 1
asked-more u p target args at_once t numbered = count-more (is_transfer_by u) 1 t.calls numbered (next_call t)
    (new_call (Process u p) target (codes "Transfer") args at_once) (omega arith)
    ∙ ap (λ b. transfers_by u t + cond b 1 0) (by at_once)
  where
    own : same_uid u u ≡ true
    own = rw (tied_itself uid_cmp_total u) refl

    by : (o : Option Status) → is_transfer_by u (new_call (Process u p) target (codes "Transfer") args o) ≡ true
    by None = rw own refl
    by (Some why) = rw own refl
