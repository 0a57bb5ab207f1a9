-- The keys of a site, from the agenda of its node.
use Rattle.std.proofs.Common.{◌≡◌, ◌↔◌, ℕ, Bool, true, false, cond, List, [], ◌∷◌, ◌++◌, Option, None, Some, refl, sym, ◌∙◌, ap, subst}
use Rattle.std.specs.Prelude.{is_some, IsTrue}
use Rattle.std.proofs.lemmas.Cmp.{tied_itself}
use Rattle.std.specs.Option.{option_map}
use Rattle.std.specs.Ordering.{eq_by_cmp}
use Rattle.std.specs.List.{find}
use Rattle.capability.specs.declared.Uid.{Uid}
use Rattle.capability.proofs.Uids.{uid_cmp_total}
use Rattle.eden_model.specs.Map.{or_else, first, uid_cmp}
use Rattle.journal.specs.declared.event.Key.{Key}
use Rattle.journal.specs.Enabled.{activity, no_uid, node_keys, starts, processes, store_of}
use Rattle.journal.specs.Sites.{IsSoundSite}
use Rattle.journal.specs.Starts.{is_worked_on}
use Rattle.journal.specs.World.{Eject, Site, eject_in, StoreRequest}
use Rattle.active_part.specs.Body.{Body, active_of}
use Rattle.ejects.specs.Marks.{may_run}
use Rattle.ejects.specs.Parts.{Parts, known, body_at, Stands}
use Rattle.agenda.specs.Keys.{is_among, Indices, IsAgenda, key_unless, wake_keys, start_keys, run_keys}
use Rattle.agenda.specs.Indexed.{is_it, wake_keys_but, store_key, WorksOn, AreAt}
use Rattle.agenda.proofs.Past.{find-append}
use Rattle.agenda.proofs.Listed.{wakes-listed, starts-listed, runs-listed}

or-in-order : {X : Type 0} (a b c d : Option X) → or_else (or_else (or_else a b) c) d ≡ or_else a (or_else b (or_else c d))
or-in-order None None c d = refl
or-in-order None (Some x) c d = refl
or-in-order (Some x) b c d = refl

module _ (n : Parts) (a : Indices) (s : Site) (sound : IsSoundSite s) (h : Stands n s) (is : IsAgenda a n) where
  -- an Eject that may run is of the site
  runs-here : (u : Uid) → may_run (body_at n u) ≡ true → u.node ≡ n.number
  runs-here u may = sound.node.of_node u (there (eject_in s u) (body_at n u) (ap (λ k. k.active) (h.ejects u)) may) ∙ h.number
    where
      there : (o : Option Eject) (b : Option Body) → (known o).active ≡ option_map active_of b → may_run b ≡ true → is_some o ≡ true
      there (Some e) b same may = refl
      there None None same may = absurd (let bad : false ≡ true = may in cc bad)
      there None (Some b) same may = absurd (let bad : None ≡ Some (active_of b) = same in cc bad)

  all-at : (us : List Uid) → ((u : Uid) → is_among u us ≡ true → u.node ≡ n.number) → AreAt n.number us
  all-at [] each = tt
  all-at (u ∷ us) each = (
    each u (rw (tied_itself uid_cmp_total u) refl),
    all-at us (λ v among. each v (later v among (eq_by_cmp uid_cmp v u) refl)),
  )
    where
      later : (v : Uid) → is_among v us ≡ true → (b : Bool) → eq_by_cmp uid_cmp v u ≡ b → is_among v (u ∷ us) ≡ true
      later v among true e = rw e refl
      later v among false e = rw e among

  pub are-at : AreAt n.number a.run
  are-at = all-at a.run (λ u among. runs-here u (sym (is.run.exact u) ∙ among))

  module _ (worked : Option Uid) (pending : Bool) (works : WorksOn s worked)
      (waits : IsTrue pending ↔ IsTrue (is_some (first s.node.requests))) where
    wakes-but : (us : List Uid) → wake_keys s us ≡ wake_keys_but n.number worked us
    wakes-but [] = refl
    wakes-but (u ∷ us) = ap (λ l. key_unless (is_worked_on s u) (activity s.number 2 u 0) ++ l) (wakes-but us)
        ∙ ap (λ b. key_unless b (activity s.number 2 u 0) ++ wake_keys_but n.number worked us) (works.at u)
        ∙ ap (λ m. key_unless (is_it worked u) (activity m 2 u 0) ++ wake_keys_but n.number worked us) h.number

    of-store : (o : Option StoreRequest) (b : Bool) → IsTrue b ↔ IsTrue (is_some o) → (keys : Bool → List Key) → keys (is_some o) ≡ keys b
    of-store None true same keys = absurd (let bad : false ≡ true = same.0 refl in cc bad)
    of-store None false same keys = refl
    of-store (Some r) true same keys = refl
    of-store (Some r) false same keys = absurd (let bad : false ≡ true = same.1 refl in cc bad)

    key-if : Bool → List Key
    key-if true = activity s.number 5 no_uid 0 ∷ []
    key-if false = []

    store-key : store_of s ≡ store_key n.number pending
    unfolding key-if
    store-key = as-if (is_some (first s.node.requests)) ∙ of-store (first s.node.requests) pending waits key-if ∙ at-number pending
      where
        as-if : (b : Bool) → cond b (activity s.number 5 no_uid 0 ∷ []) [] ≡ key-if b
        as-if true = refl
        as-if false = refl

        at-number : (b : Bool) → key-if b ≡ store_key n.number b
        at-number true = ap (λ m. activity m 5 no_uid 0 ∷ []) h.number
        at-number false = refl

    pub keys-are : node_keys s ≡ wake_keys_but n.number worked a.wake ++ start_keys n.number a.start ++ run_keys n a.run
        ++ store_key n.number
        pending
    keys-are =
        ap (λ l. l ++ starts s ++ processes s ++ store_of s) (wakes-listed n a s h is sound.node.in_order ∙ wakes-but a.wake)
        ∙ ap (λ l. wake_keys_but n.number worked a.wake ++ l ++ processes s ++ store_of s)
        (starts-listed n a s h is sound.node.in_order ∙ ap (λ m. start_keys m a.start) h.number)
        ∙ ap (λ l. wake_keys_but n.number worked a.wake ++ start_keys n.number a.start ++ l ++ store_of s)
        (runs-listed n a s h is sound.node.in_order)
        ∙ ap (λ l. wake_keys_but n.number worked a.wake ++ start_keys n.number a.start ++ run_keys n a.run ++ l) store-key

    -- the first key that passes is that of the first list that has one
    pub found-in : (P : Key → Bool) → find P (node_keys s) ≡ or_else (find P (wake_keys_but n.number worked a.wake))
        (or_else (find P (start_keys n.number a.start)) (or_else (find P (run_keys n a.run)) (find P (store_key n.number pending))))
    found-in P = ap (find P) keys-are
        ∙ find-append P (wake_keys_but n.number worked a.wake ++ start_keys n.number a.start ++ run_keys n a.run)
        (store_key n.number pending)
        ∙ ap (λ o. or_else o (find P (store_key n.number pending)))
        (find-append P (wake_keys_but n.number worked a.wake ++ start_keys n.number a.start) (run_keys n a.run)
        ∙ ap (λ o. or_else o (find P (run_keys n a.run)))
        (find-append P (wake_keys_but n.number worked a.wake) (start_keys n.number a.start)))
        ∙ or-in-order (find P (wake_keys_but n.number worked a.wake)) (find P (start_keys n.number a.start)) (find P (run_keys n a.run))
        (find P (store_key n.number pending))

    module _ (station : ℕ) (here : station ≡ n.number) (P : Key → Bool) where
      pub by-wake : (k : Key) → find P (wake_keys_but station worked a.wake) ≡ Some k → Some k ≡ find P (node_keys s)
      by-wake k found = sym (found-in P ∙ ap (λ o. or_else o (or_else (find P (start_keys n.number a.start))
          (or_else (find P (run_keys n a.run)) (find P (store_key n.number pending)))))
          (ap (λ m. find P (wake_keys_but m worked a.wake)) (sym here) ∙ found))

      module _ (no_wake : find P (wake_keys_but station worked a.wake) ≡ None) where
        past-wakes : find P (node_keys s) ≡ or_else (find P (start_keys n.number a.start))
            (or_else (find P (run_keys n a.run)) (find P (store_key n.number pending)))
        past-wakes = found-in P ∙ ap (λ o. or_else o (or_else (find P (start_keys n.number a.start))
            (or_else (find P (run_keys n a.run)) (find P (store_key n.number pending)))))
            (ap (λ m. find P (wake_keys_but m worked a.wake)) (sym here) ∙ no_wake)

        pub by-start : (k : Key) → find P (start_keys station a.start) ≡ Some k → Some k ≡ find P (node_keys s)
        by-start k found = sym (past-wakes ∙ ap (λ o. or_else o (or_else (find P (run_keys n a.run)) (find P (store_key n.number pending))))
            (ap (λ m. find P (start_keys m a.start)) (sym here) ∙ found))

        module _ (no_start : find P (start_keys station a.start) ≡ None) (run : Option Key)
            (runs : AreAt station a.run → run ≡ find P (run_keys n a.run)) where
          run-is : find P (run_keys n a.run) ≡ run
          run-is = sym (runs (subst (λ m. AreAt m a.run) (sym here) are-at))

          past-starts : find P (node_keys s) ≡ or_else run (find P (store_key n.number pending))
          past-starts = past-wakes ∙ ap (λ o. or_else o (or_else (find P (run_keys n a.run)) (find P (store_key n.number pending))))
              (ap (λ m. find P (start_keys m a.start)) (sym here) ∙ no_start) ∙ ap
              (λ o. or_else o (find P (store_key n.number pending))) run-is

          pub by-run : (k : Key) → run ≡ Some k → Some k ≡ find P (node_keys s)
          by-run k found = sym (past-starts ∙ ap (λ o. or_else o (find P (store_key n.number pending))) found)

          pub by-store : run ≡ None → (last : Option Key) → last ≡ find P (store_key station pending) → last ≡ find P (node_keys s)
          by-store none last found = found ∙ ap (λ m. find P (store_key m pending)) here
              ∙ sym (past-starts ∙ ap (λ o. or_else o (find P (store_key n.number pending))) none)
