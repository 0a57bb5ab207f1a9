-- The keys that a node lists of its busy Ejects are those that the model lists of all.
use Rattle.std.proofs.Common.{◌≡◌, ℕ, Bool, true, false, cond, not, ◌&&◌, List, [], ◌∷◌, ◌++◌, map, Option, None, Some, refl, sym, ◌∙◌}
use Rattle.std.proofs.Common.{ap, T}
use Rattle.std.specs.Prelude.{is_some}
use Rattle.std.specs.List.{flat_map, list_any, filter}
use Rattle.std.specs.Option.{option_map}
use Rattle.std.specs.Ordering.{eq_by_cmp}
use Rattle.std.specs.FinMap.Entries.{is_sorted}
use Rattle.capability.specs.declared.Uid.{Uid}
use Rattle.capability.proofs.Uids.{uid_cmp_total, uid_cmp-IsAntisymmetric}
use Rattle.eden_model.specs.Map.{value_at, with_item, first, uid_cmp}
use Rattle.eden_model.specs.Crew.{Process, startable}
use Rattle.journal.specs.declared.event.Key.{Key}
use Rattle.journal.specs.World.{Eject, Site, eject_in}
use Rattle.journal.specs.Starts.{is_worked_on}
use Rattle.journal.specs.Processes.{invocation}
use Rattle.journal.specs.Enabled.{activity, ready, is_ready, is_to_activate, is_startable, activations, starts, processes}
use Rattle.active_part.specs.Body.{Body, active_of}
use Rattle.ejects.specs.Parts.{Parts, Known, known, queue_of, body_at, queue_at, HasClasses, Stands}
use Rattle.ejects.specs.Marks.{may_wake, may_start, may_run}
use Rattle.agenda.specs.Keys.{is_among, entries_of, Indexes, Indices, IsAgenda, key_unless, wake_keys}
use Rattle.agenda.specs.Keys.{start_keys, run_keys_of, run_keys}
use Rattle.agenda.proofs.Listing.{gives, listed, same-listing}
use Rattle.ejects.proofs.Started.{same-classes}

-- 1. An index as entries

among-value : (q : Uid) (us : List Uid) → value_at uid_cmp q (entries_of us) ≡ cond (is_among q us) (Some true) None
among-value q [] = refl
among-value q (u ∷ us) = go (eq_by_cmp uid_cmp q u) refl (among-value q us)
  where
    go : (b : Bool) → eq_by_cmp uid_cmp q u ≡ b → value_at uid_cmp q (entries_of us) ≡ cond (is_among q us) (Some true) None
        → value_at uid_cmp q (entries_of (u ∷ us)) ≡ cond (is_among q (u ∷ us)) (Some true) None
    go true is h = rw is refl
    go false is h = rw is h

flat-entries : (f : Uid → List Key) (us : List Uid) → listed (λ (u : Uid) (x : Bool). f u) (entries_of us) ≡ flat_map f us
flat-entries f [] = refl
flat-entries f (u ∷ us) = ap (λ l. f u ++ l) (flat-entries f us)

-- the list of all Ejects, where each gives what the index says
pub listed-index : (g : Uid → Eject → List Key) (f : Uid → List Key) (test : Uid → Bool) (es : List (Uid × Eject)) (us : List Uid)
    → T (is_sorted uid_cmp es) → Indexes us test
    → ((u : Uid) → gives g u (value_at uid_cmp u es) ≡ cond (test u) (f u) []) → listed g es ≡ flat_map f us
listed-index g f test es us sorted index each = same-listing uid_cmp uid_cmp_total uid_cmp-IsAntisymmetric g (λ u x. f u) es
    (entries_of us) sorted index.ascend alike ∙ flat-entries f us
  where
    by : (u : Uid) (b : Bool) → cond b (f u) [] ≡ gives {X = Bool} (λ u x. f u) u (cond b (Some true) None)
    by u true = refl
    by u false = refl

    alike : (u : Uid) → gives g u (value_at uid_cmp u es) ≡ gives (λ u x. f u) u (value_at uid_cmp u (entries_of us))
    alike u = each u ∙ ap (λ b. cond b (f u) []) (sym (index.exact u)) ∙ by u (is_among u us) ∙ ap (gives (λ u x. f u) u)
        (sym (among-value u us))

-- 2. By what is known of an Eject

wake-known : Uid → Bool → ℕ → Known → List Key
wake-known u worked number k = cond (not (is_some k.active) && (is_some (first k.queued) && not worked)) (activity number 2 u 0 ∷ []) []

run-known : Uid → Known → List Key
run-known u k = with_item k.active (ready u) []

module _ (n : Parts) (a : Indices) (s : Site) (h : Stands n s) (is : IsAgenda a n) (order : T (is_sorted uid_cmp s.node.ejects)) where
  wakes : (u : Uid) → gives (λ u e. cond (is_to_activate s u e) (activity s.number 2 u 0 ∷ []) []) u (eject_in s u) ≡ cond (may_wake n u)
      (key_unless (is_worked_on s u) (activity s.number 2 u 0)) []
  unfolding wake-known
  wakes u = of-known (eject_in s u) ∙ ap (wake-known u (is_worked_on s u) s.number) (h.ejects u) ∙ by (body_at n u) (first (queue_at n u))
      (is_worked_on s u)
    where
      of-known : (o : Option Eject) → gives (λ u e. cond (is_to_activate s u e) (activity s.number 2 u 0 ∷ []) []) u o ≡ wake-known u
          (is_worked_on s u) s.number (known o)
      of-known None = refl
      of-known (Some e) = refl

      by : (b : Option Body) (q : Option ℕ) (w : Bool)
          → cond (not (is_some (option_map active_of b)) && (is_some q && not w)) (activity s.number 2 u 0 ∷ []) []
          ≡ cond (not (is_some b) && is_some q) (key_unless w (activity s.number 2 u 0)) []
      by None None w = refl
      by None (Some k) true = refl
      by None (Some k) false = refl
      by (Some b) q w = refl

  pub wakes-listed : activations s ≡ wake_keys s a.wake
  wakes-listed = listed-index (λ u e. cond (is_to_activate s u e) (activity s.number 2 u 0 ∷ []) [])
      (λ u. key_unless (is_worked_on s u) (activity s.number 2 u 0)) (may_wake n) s.node.ejects a.wake order is.wake wakes

  start-known : Uid → Known → List Key
  start-known u k = cond (with_item k.active (λ it. is_some (startable it.crew (map (invocation it.kind s.traffic) k.queued))) false)
      (activity s.number 3 u 0 ∷ []) []

  starts-each : (u : Uid) → gives (λ u e. cond (is_startable s.traffic e) (activity s.number 3 u 0 ∷ []) []) u (eject_in s u) ≡ cond
      (may_start (body_at n u)) (activity s.number 3 u 0 ∷ []) []
  unfolding start-known
  starts-each u = of-known (eject_in s u) ∙ ap (start-known u) (h.ejects u) ∙ by (body_at n u) (h.classes u)
    where
      of-known : (o : Option Eject) → gives (λ u e. cond (is_startable s.traffic e) (activity s.number 3 u 0 ∷ []) []) u o ≡ start-known u
          (known o)
      of-known None = refl
      of-known (Some e) = refl

      by : (o : Option Body) → HasClasses s.traffic o
          → start-known u (record {
            active = option_map active_of o;
            queued = queue_of o (value_at uid_cmp u n.waiting);
            there = is_some (n.standing u);
          }) ≡ cond (may_start o) (activity s.number 3 u 0 ∷ []) []
      by None c = refl
      by (Some b) c = rw (same-classes s.traffic b.kind b.crew.queued c) refl

  one-each : (f : Uid → Key) (us : List Uid) → flat_map (λ u. f u ∷ []) us ≡ map f us
  one-each f [] = refl
  one-each f (u ∷ us) = ap (λ l. f u ∷ l) (one-each f us)

  pub starts-listed : starts s ≡ start_keys s.number a.start
  starts-listed = listed-index (λ u e. cond (is_startable s.traffic e) (activity s.number 3 u 0 ∷ []) [])
      (λ u. activity s.number 3 u 0 ∷ []) (λ u. may_start (body_at n u)) s.node.ejects a.start order is.start starts-each
      ∙ one-each (λ u. activity s.number 3 u 0) a.start

  none-ready : (u : Uid) (ps : List (ℕ × Process)) → list_any (λ q. is_ready q.1.waits) ps ≡ false
      → map (λ q. activity u.node 4 u q.0) (filter (λ q. is_ready q.1.waits) ps) ≡ []
  none-ready u [] none = refl
  none-ready u (q ∷ ps) none = go (is_ready q.1.waits) refl none (none-ready u ps)
    where
      go : (b : Bool) → is_ready q.1.waits ≡ b → list_any (λ q. is_ready q.1.waits) (q ∷ ps) ≡ false
          → (list_any (λ q. is_ready q.1.waits) ps ≡ false → map (λ q. activity u.node 4 u q.0) (filter (λ q. is_ready q.1.waits) ps) ≡ [])
          → map (λ q. activity u.node 4 u q.0) (filter (λ q. is_ready q.1.waits) (q ∷ ps)) ≡ []
      go true is none later = absurd (let bad : true ≡ false = rw is at none in cc bad)
      go false is none later = rw is (later (rw is at none))

  runs-each : (u : Uid) → gives (λ u e. with_item e.active (ready u) []) u (eject_in s u) ≡ cond (may_run (body_at n u))
      (run_keys_of u (body_at n u)) []
  unfolding run-known
  runs-each u = of-known (eject_in s u) ∙ ap (run-known u) (h.ejects u) ∙ by (body_at n u)
    where
      of-known : (o : Option Eject) → gives (λ u e. with_item e.active (ready u) []) u o ≡ run-known u (known o)
      of-known None = refl
      of-known (Some e) = refl

      by : (o : Option Body) → with_item (option_map active_of o) (ready u) [] ≡ cond (may_run o) (run_keys_of u o) []
      by None = refl
      by (Some b) = go (list_any (λ q. is_ready q.1.waits) b.crew.crew.processes) refl
        where
          go : (x : Bool) → list_any (λ q. is_ready q.1.waits) b.crew.crew.processes ≡ x
              → ready u (active_of b) ≡ cond (may_run (Some b)) (ready u (active_of b)) []
          go true is = rw is refl
          go false is = rw is (none-ready u b.crew.crew.processes is)

  pub runs-listed : processes s ≡ run_keys n a.run
  runs-listed = listed-index (λ u e. with_item e.active (ready u) []) (λ u. run_keys_of u (body_at n u))
      (λ u. may_run (body_at n u)) s.node.ejects a.run order is.run runs-each
