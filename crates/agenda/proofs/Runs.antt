-- The keys of processes of the Ejects of an index, and the first of them behind the last one.
use Rattle.std.proofs.Common.{◌≡◌, ℕ, nat_lt, Bool, true, false, cond, List, [], ◌∷◌, ◌++◌, map, Option, None, Some}
use Rattle.std.proofs.Common.{refl, sym, ◌∙◌, ap, subst, arith}
use Rattle.std.specs.Prelude.{is_some, IfSome}
use Rattle.std.proofs.lemmas.Bool.Decides.{nat_tests}
use Rattle.std.proofs.lemmas.Cmp.{tied_itself}
use Rattle.std.specs.declared.cmp.Ordering.{Ordering}
use Rattle.std.specs.declared.cmp.Ordering.TheVariants.{Less, Equal, Greater}
use Rattle.std.specs.Ordering.{nat_cmp, ordering_then, is_lt}
use Rattle.std.specs.Option.{option_map}
use Rattle.std.specs.List.{find, filter, flat_map, list_any}
use Rattle.capability.specs.declared.Uid.{Uid}
use Rattle.capability.proofs.Uids.{uid_cmp_total}
use Rattle.coordinator.specs.Ready.{AscendPast, next_ready}
use Rattle.eden_model.specs.Map.{or_else, with_item, first, uid_cmp}
use Rattle.eden_model.specs.Crew.{Process}
use Rattle.journal.specs.declared.event.Key.{Key}
use Rattle.journal.specs.Enabled.{activity, is_ready}
use Rattle.active_part.specs.Body.{Body}
use Rattle.ejects.specs.Marks.{may_run}
use Rattle.ejects.specs.Parts.{Parts, body_at}
use Rattle.ejects.proofs.Marked.{same-ready}
use Rattle.agenda.specs.Keys.{is_among, Indexes, run_keys, run_keys_of}
use Rattle.agenda.specs.Indexed.{AreAt}
use Rattle.agenda.proofs.Past.{find-append, first-append}
use Rattle.agenda.proofs.RunPast.{runs-past}

-- 1. The processes of one Eject

module _ (station : ℕ) (u : Uid) where
  abbrev pub key : ℕ → Key
  key q = activity station 4 u q

  abbrev pub keys : List (ℕ × Process) → List Key
  keys ps = map (λ q. key q.0) (filter (λ q. is_ready q.1.waits) ps)

  -- the first key that passes is of the first process past p that waits for nothing, where those past p pass
  pub first-past : (P : Key → Bool) (p : ℕ) (ps : List (ℕ × Process)) → ((q : ℕ) → P (key q) ≡ nat_lt p q)
      → find P (keys ps) ≡ option_map key (next_ready p ps)
  first-past P p [] passes = refl
  first-past P p (e ∷ es) passes = go (is_ready e.1.waits) refl (nat_lt p e.0) refl (first-past P p es passes)
    where
      go : (a : Bool) → is_ready e.1.waits ≡ a → (b : Bool) → nat_lt p e.0 ≡ b
          → find P (keys es) ≡ option_map key (next_ready p es) → find P (keys (e ∷ es)) ≡ option_map key (next_ready p (e ∷ es))
      go true a true b ih = rw (b, same-ready e.1.waits, a, passes e.0, b) refl
      go true a false b ih = rw (b, a, passes e.0, b) ih
      go false a true b ih = rw (b, same-ready e.1.waits, a) ih
      go false a false b ih = rw (b, a) ih

  -- the first key of all is of the first process that waits for nothing
  pub first-of : (k : ℕ) (ps : List (ℕ × Process)) → AscendPast k ps → first (keys ps) ≡ option_map key (next_ready 0 ps)
  first-of k [] h = refl
  first-of k (e ∷ es) h = go (is_ready e.1.waits) refl (first-of e.0 es h.2)
    where
      past : nat_lt 0 e.0 ≡ true
      past = grind (arith, nat_tests, h.0)

      go : (a : Bool) → is_ready e.1.waits ≡ a → first (keys es) ≡ option_map key (next_ready 0 es)
          → first (keys (e ∷ es)) ≡ option_map key (next_ready 0 (e ∷ es))
      go true a ih = rw (past, same-ready e.1.waits, a) refl
      go false a ih = rw (past, same-ready e.1.waits, a) ih

  pub all-pass : (P : Key → Bool) (ps : List (ℕ × Process)) → ((q : ℕ) → P (key q) ≡ true) → find P (keys ps) ≡ first (keys ps)
  all-pass P [] passes = refl
  all-pass P (e ∷ es) passes = go (is_ready e.1.waits) refl (all-pass P es passes)
    where
      go : (a : Bool) → is_ready e.1.waits ≡ a → find P (keys es) ≡ first (keys es) → find P (keys (e ∷ es)) ≡ first (keys (e ∷ es))
      go true a ih = rw (a, passes e.0) refl
      go false a ih = rw a ih

  pub none-pass : (P : Key → Bool) (ps : List (ℕ × Process)) → ((q : ℕ) → P (key q) ≡ false) → find P (keys ps) ≡ None
  none-pass P [] passes = refl
  none-pass P (e ∷ es) passes = go (is_ready e.1.waits) refl (none-pass P es passes)
    where
      go : (a : Bool) → is_ready e.1.waits ≡ a → find P (keys es) ≡ None → find P (keys (e ∷ es)) ≡ None
      go true a ih = rw (a, passes e.0) ih
      go false a ih = rw a ih

  pub some-first : (ps : List (ℕ × Process)) → list_any (λ q. is_ready q.1.waits) ps ≡ true → is_some (first (keys ps)) ≡ true
  some-first [] any = absurd (let bad : false ≡ true = any in cc bad)
  some-first (e ∷ es) any = go (is_ready e.1.waits) refl any (λ is. some-first es is)
    where
      go : (a : Bool) → is_ready e.1.waits ≡ a → list_any (λ q. is_ready q.1.waits) (e ∷ es) ≡ true
          → (list_any (λ q. is_ready q.1.waits) es ≡ true → is_some (first (keys es)) ≡ true) → is_some (first (keys (e ∷ es))) ≡ true
      go true a is ih = rw a refl
      go false a is ih = rw a (ih (rw a at is))

  pub none-next : (p : ℕ) (ps : List (ℕ × Process)) → list_any (λ q. is_ready q.1.waits) ps ≡ false → next_ready p ps ≡ None
  none-next p [] any = refl
  none-next p (e ∷ es) any = go (is_ready e.1.waits) refl any (nat_lt p e.0) refl (λ is. none-next p es is)
    where
      go : (a : Bool) → is_ready e.1.waits ≡ a → list_any (λ q. is_ready q.1.waits) (e ∷ es) ≡ false → (b : Bool) → nat_lt p e.0 ≡ b
          → (list_any (λ q. is_ready q.1.waits) es ≡ false → next_ready p es ≡ None) → next_ready p (e ∷ es) ≡ None
      go true a is b lt ih = absurd (let bad : true ≡ false = rw a at is in cc bad)
      go false a is true lt ih = rw (lt, same-ready e.1.waits, a) (ih (rw a at is))
      go false a is false lt ih = rw lt (ih (rw a at is))

-- 2. Those of the Ejects of an index

module _ (station : ℕ) (n : Parts) where
  abbrev pub ready_of : Uid → Option Body → List Key
  ready_of u None = []
  ready_of u (Some b) = keys station u b.crew.crew.processes

  abbrev pub ready_at : Uid → List Key
  ready_at u = ready_of u (body_at n u)

  -- the keys of an Eject of the station are those of the model
  pub as-ready : (u : Uid) (o : Option Body) → u.node ≡ station → run_keys_of u o ≡ ready_of u o
  as-ready u None at = refl
  as-ready u (Some b) at =
      ap (λ s. map (λ (q : ℕ × Process). activity s 4 u q.0) (filter (λ q. is_ready q.1.waits) b.crew.crew.processes)) at

  pub at-station : (us : List Uid) → AreAt station us → run_keys n us ≡ flat_map ready_at us
  at-station [] at = refl
  at-station (u ∷ us) at =
      ap (λ l. run_keys_of u (body_at n u) ++ l) (at-station us at.1) ∙ ap (λ l. l ++ flat_map ready_at us) (as-ready u (body_at n u) at.0)

  abbrev pub next_of : ℕ → Option Body → Option ℕ
  next_of p o = with_item o (λ b. next_ready p b.crew.crew.processes) None

  abbrev pub Numbered : Option Body → Type 0
  Numbered o = IfSome o (λ b. AscendPast 0 b.crew.crew.processes)

  pub first-run-of : (u : Uid) (o : Option Body) → Numbered o → first (ready_of u o) ≡ option_map (key station u) (next_of 0 o)
  first-run-of u None h = refl
  first-run-of u (Some b) h = first-of station u 0 b.crew.crew.processes h

  module _ (us : List Uid) (is : Indexes us (λ u. may_run (body_at n u))) where
    pub each-some : (u : Uid) → is_among u us ≡ true → is_some (first (ready_at u)) ≡ true
    each-some u among = go (body_at n u) (sym (is.exact u) ∙ among)
      where
        go : (o : Option Body) → may_run o ≡ true → is_some (first (ready_of u o)) ≡ true
        go None may = absurd (let bad : false ≡ true = may in cc bad)
        go (Some b) may = some-first station u b.crew.crew.processes may

    pub none-of : (p : ℕ) (u : Uid) → is_among u us ≡ false → next_of p (body_at n u) ≡ None
    none-of p u among = go (body_at n u) (sym (is.exact u) ∙ among)
      where
        go : (o : Option Body) → may_run o ≡ false → next_of p o ≡ None
        go None may = refl
        go (Some b) may = none-next station u p b.crew.crew.processes may

    -- the first of all, the first past an Eject, and the first of an Eject past a process
    first-flat : (vs : List Uid) → ((u : Uid) → is_among u vs ≡ true → is_some (first (ready_at u)) ≡ true)
        → first (flat_map ready_at vs) ≡ with_item (first vs) (λ u. first (ready_at u)) None
    first-flat [] some = refl
    first-flat (u ∷ vs) some = first-append (ready_at u) (flat_map ready_at vs) ∙ go (first (ready_at u))
        (some u (rw (tied_itself uid_cmp_total u) refl))
      where
        go : (o : Option Key) → is_some o ≡ true → or_else o (first (flat_map ready_at vs)) ≡ o
        go None h = absurd (let bad : false ≡ true = h in cc bad)
        go (Some k) h = refl

    found-at : (p : Uid → Bool) (vs : List Uid) → AreAt station vs → IfSome (find p vs) (λ u. u.node ≡ station)
    found-at p [] at = tt
    found-at p (u ∷ vs) at = go (p u) (found-at p vs at.1)
      where
        go : (b : Bool) → IfSome (find p vs) (λ u. u.node ≡ station) → IfSome (cond b (Some u) (find p vs)) (λ u. u.node ≡ station)
        go true h = at.0
        go false h = h

    of-model : (o : Option Uid) → IfSome o (λ u. u.node ≡ station)
        → with_item o (λ u. first (run_keys_of u (body_at n u))) None ≡ with_item o (λ u. first (ready_at u)) None
    of-model None at = refl
    of-model (Some u) at = ap first (as-ready u (body_at n u) at)

    module _ (P : Key → Bool) (at : AreAt station us) where
      pub all-runs : ((u : Uid) (q : ℕ) → P (activity station 4 u q) ≡ true) → IfSome (first us) (λ u. u.node ≡ station)
          × (with_item (first us) (λ u. first (run_keys_of u (body_at n u))) None ≡ find P (run_keys n us))
      all-runs passes = (
        first-at us at,
        of-model (first us) (first-at us at) ∙ sym (first-flat us each-some) ∙ sym (all-of us) ∙ sym (ap (find P) (at-station us at)),
      )
        where
          first-at : (vs : List Uid) → AreAt station vs → IfSome (first vs) (λ u. u.node ≡ station)
          first-at [] at = tt
          first-at (u ∷ vs) at = at.0

          one-of : (u : Uid) (o : Option Body) → find P (ready_of u o) ≡ first (ready_of u o)
          one-of u None = refl
          one-of u (Some b) = all-pass station u P b.crew.crew.processes (passes u)

          all-of : (vs : List Uid) → find P (flat_map ready_at vs) ≡ first (flat_map ready_at vs)
          all-of [] = refl
          all-of (u ∷ vs) = find-append P (ready_at u) (flat_map ready_at vs) ∙ ap (λ o. or_else o (find P (flat_map ready_at vs)))
              (one-of u (body_at n u))
              ∙ ap (λ o. or_else (first (ready_at u)) o) (all-of vs) ∙ sym (first-append (ready_at u) (flat_map ready_at vs))

      pub no-runs : ((u : Uid) (q : ℕ) → P (activity station 4 u q) ≡ false) → None ≡ find P (run_keys n us)
      no-runs passes = sym (ap (find P) (at-station us at) ∙ none-of-all us)
        where
          one-of : (u : Uid) (o : Option Body) → find P (ready_of u o) ≡ None
          one-of u None = refl
          one-of u (Some b) = none-pass station u P b.crew.crew.processes (passes u)

          none-of-all : (vs : List Uid) → find P (flat_map ready_at vs) ≡ None
          none-of-all [] = refl
          none-of-all (u ∷ vs) =
              find-append P (ready_at u) (flat_map ready_at vs) ∙ ap (λ o. or_else o (find P (flat_map ready_at vs)))
              (one-of u (body_at n u)) ∙ none-of-all vs

      module _ (v : Uid) (p : ℕ) (passes : (u : Uid) (q : ℕ)
          → P (activity station 4 u q) ≡ is_lt (ordering_then (uid_cmp v u) (nat_cmp p q))) where
        less-all : (u : Uid) → uid_cmp v u ≡ Less → find P (ready_at u) ≡ first (ready_at u)
        less-all u less = go (body_at n u)
          where
            go : (o : Option Body) → find P (ready_of u o) ≡ first (ready_of u o)
            go None = refl
            go (Some b) = all-pass station u P b.crew.crew.processes
                (λ q. passes u q ∙ ap (λ o. is_lt (ordering_then o (nat_cmp p q))) less)

        more-none : (u : Uid) → uid_cmp v u ≡ Greater → find P (ready_at u) ≡ None
        more-none u more = go (body_at n u)
          where
            go : (o : Option Body) → find P (ready_of u o) ≡ None
            go None = refl
            go (Some b) = none-pass station u P b.crew.crew.processes
                (λ q. passes u q ∙ ap (λ o. is_lt (ordering_then o (nat_cmp p q))) more)

        here-is : find P (ready_at v) ≡ option_map (key station v) (next_of p (body_at n v))
        here-is = go (body_at n v)
          where
            past : (q : ℕ) → P (key station v q) ≡ nat_lt p q
            past q = passes v q ∙ ap (λ o. is_lt (ordering_then o (nat_cmp p q))) (tied_itself uid_cmp_total v) ∙ lt-of (nat_cmp p q) refl
              where
                lt-of : (o : Ordering) → nat_cmp p q ≡ o → is_lt o ≡ nat_lt p q
                lt-of Less is = sym (grind (arith, nat_tests, is))
                lt-of Equal is = sym (grind (arith, nat_tests, is))
                lt-of Greater is = sym (grind (arith, nat_tests, is))

            go : (o : Option Body) → find P (ready_of v o) ≡ option_map (key station v) (next_of p o)
            go None = refl
            go (Some b) = first-past station v P p b.crew.crew.processes past

        either : find P (run_keys n us) ≡ or_else (cond (is_among v us) (find P (ready_at v)) None)
            (with_item (find (λ u. is_lt (uid_cmp v u)) us) (λ u. first (ready_at u)) None)
        either = ap (find P) (at-station us at) ∙ runs-past P ready_at v less-all more-none us is.ascend each-some

        -- where the Eject of the last key has a process past it
        pub run-here : (q : ℕ) → next_of p (body_at n v) ≡ Some q → Some (activity station 4 v q) ≡ find P (run_keys n us)
        run-here q next = sym (either ∙ go (is_among v us) refl)
          where
            go : (b : Bool) → is_among v us ≡ b → or_else (cond b (find P (ready_at v)) None)
                (with_item (find (λ u. is_lt (uid_cmp v u)) us) (λ u. first (ready_at u)) None) ≡ Some (activity station 4 v q)
            go true among = ap (λ o. or_else o (with_item (find (λ u. is_lt (uid_cmp v u)) us) (λ u. first (ready_at u)) None))
                (here-is ∙ ap (option_map (key station v)) next)
            go false among = absurd (let bad : None ≡ Some q = sym (none-of p v among) ∙ next in cc bad)

        -- where it has none
        pub run-later : next_of p (body_at n v) ≡ None → IfSome (find (λ u. is_lt (uid_cmp v u)) us) (λ u. u.node ≡ station)
            × (with_item (find (λ u. is_lt (uid_cmp v u)) us) (λ u. first (run_keys_of u (body_at n u))) None ≡ find P (run_keys n us))
        run-later none = (
          found-at (λ u. is_lt (uid_cmp v u)) us at,
          of-model (find (λ u. is_lt (uid_cmp v u)) us) (found-at (λ u. is_lt (uid_cmp v u)) us at) ∙ sym (either ∙ go (is_among v us)),
        )
          where
            go : (b : Bool) → or_else (cond b (find P (ready_at v)) None)
                (with_item (find (λ u. is_lt (uid_cmp v u)) us) (λ u. first (ready_at u)) None)
                ≡ with_item (find (λ u. is_lt (uid_cmp v u)) us) (λ u. first (ready_at u)) None
            go true = ap (λ o. or_else o (with_item (find (λ u. is_lt (uid_cmp v u)) us) (λ u. first (ready_at u)) None))
                (here-is ∙ ap (option_map (key station v)) none)
            go false = refl

  -- the key of the first process of an Eject
  pub first-run : (o : Option Uid) (u : Uid) (r : Option ℕ) → o ≡ Some u → IfSome o (λ u. u.node ≡ station) → Numbered (body_at n u)
      → r ≡ next_of 0 (body_at n u)
      → option_map (key station u) r ≡ with_item o (λ u. first (run_keys_of u (body_at n u))) None
  first-run o u r is at numbered next =
      ap (option_map (key station u)) next ∙ sym (first-run-of u (body_at n u) numbered)
      ∙ sym (ap first (as-ready u (body_at n u) (subst (λ o. IfSome o (λ u. u.node ≡ station)) is at)))
      ∙ sym (ap (λ o. with_item o (λ u. first (run_keys_of u (body_at n u))) None) is)
