-- Every turn at a site leaves each process in its place: inside of the monitor that it holds, waits to enter, or has a condition of.
use Rattle.std.proofs.Common.{◌≡◌, ◌==◌, ◌+◌, ◌-◌, ◌≤◌, ℕ, nat_le, zero, suc, Bool, true, false, cond, not, ◌&&◌, List, [], ◌∷◌, ◌++◌}
use Rattle.std.proofs.Common.{map, length, replicate, Option, None, Some, is_some, Result, Ok, Err, refl, sym, ◌∙◌, ap, subst, arith}
use Rattle.std.specs.Prelude.{IsSomeAnd, IfSome, slice_get}
use Rattle.std.specs.List.{filter, find}
use Rattle.std.specs.Option.{option_map}
use Rattle.std.specs.Ordering.{nat_cmp, eq_by_cmp, is_eq}
use Rattle.std.specs.Cmp.{nat_cmp_total}
use Rattle.std.specs.FinMap.{nat_cmp-IsAntisymmetric}
use Rattle.std.specs.FinMap.Entries.{find-put}
use Rattle.std.proofs.lemmas.Bool.{eqb-true}
use Rattle.std.proofs.lemmas.Cmp.{tied_itself}
use Rattle.capability.specs.declared.Uid.{Uid}
use Rattle.capability.specs.declared.TheConstants.{BODY_LIMIT}
use Rattle.capability.specs.Capability.{full}
use Rattle.capability.proofs.Uids.{uid_cmp_total, uid_cmp-IsAntisymmetric}
use Rattle.eden_value.specs.Datum.{Datum}
use Rattle.eden_value.specs.declared.status.Status.{Status}
use Rattle.eden_value.specs.declared.status.Status.TheVariants as status
use Rattle.eden_codec.specs.Spelling.{spelling}
use Rattle.eden_model.specs.Map.{with_item, first, rest, value_at, changed_at, put_at, each_value, uid_cmp, same_text}
use Rattle.eden_model.proofs.Laws.{eq-same, value-changed}
use Rattle.eden_model.proofs.Numbers.{same-true, same-self}
use Rattle.eden_model.proofs.FreeNumbers.{free-none, least_free-free}
use Rattle.eden_model.specs.Crew.{Waiting, nothing, outside, entry, condition, Process as Worker, Monitor, Invocation, waits_at, Runs}
use Rattle.eden_model.specs.Crew.{set_waits, locked, left, waited, signalled, running, least_free, declared_from, fresh_crew}
use Rattle.eden_model.specs.Lines.{AreLines}
use Rattle.eden_model.specs.declared.Asker.{Asker}
use Rattle.eden_model.specs.declared.Asker.TheVariants.{Shell, Eject as Process}
use Rattle.eden_model.specs.Traffic.{Traffic, Call, held, call_at, next_call, with_call, changed_call, at_place, taken, replied}
use Rattle.eden_model.specs.Traffic.{all_replied, orphaned}
use Rattle.epl_syntax.specs.declared.effect.Answer.{Answer}
use Rattle.epl_syntax.specs.declared.effect.Answer.TheVariants.{Go, Code, Reply as Told, Created as Made}
use Rattle.epl_syntax.specs.declared.effect.Effect.{Effect}
use Rattle.epl_syntax.specs.declared.effect.Effect.TheVariants as effect
use Rattle.epl_syntax.specs.Edentype.{Edentype, native, declared as declared_type}
use Rattle.epl_syntax.specs.Tree.{Statement, Operation, Process as Body}
use Rattle.epl_syntax.specs.Statements.{does}
use Rattle.epl_syntax.specs.Turns.{left_of, nothing_left, process_left}
use Rattle.epl_syntax.specs.Monitors.{inside, inside_rest}
use Rattle.epl_syntax.specs.Meaning.{of_declared, Turned, turn, begin, declared, setup_of, rep_of, type_of, first_values, values_from}
use Rattle.passive_store.specs.declared.store.Pick.{Pick}
use Rattle.passive_store.specs.declared.store.Pick.TheVariants as pick
use Rattle.journal.specs.EjectChange.{EjectChange, body, removal, kept_of}
use Rattle.journal.specs.declared.event.BootEnd.{BootEnd}
use Rattle.journal.specs.declared.event.BootEnd.TheVariants as boot_end
use Rattle.journal.specs.declared.event.StartEnd.{StartEnd}
use Rattle.journal.specs.declared.event.StartEnd.TheVariants as start_end
use Rattle.journal.specs.declared.event.RequestEnd.{RequestEnd}
use Rattle.journal.specs.declared.event.RequestEnd.TheVariants as end
use Rattle.journal.specs.declared.event.Shown.{Shown}
use Rattle.journal.specs.declared.event.Event.{Event}
use Rattle.journal.specs.declared.event.Event.TheVariants as event
use Rattle.journal.specs.World.{Task, Active, Eject, StoreRequest, Node, Site, eject_in, on_eject, on_node, on_traffic}
use Rattle.journal.specs.Ejects.{with_active, with_queued, on_active, on_crew, is_there, told, tells, without_requests, deactivated}
use Rattle.journal.specs.Ejects.{turned_away, gone_if_unkept, tasks_from, fresh, next_uid, newborn, born}
use Rattle.journal.specs.Deliveries.{requested, tells_asker, received, heard}
use Rattle.journal.specs.Processes.{AllowsStart, AllowsTurn, worker_at, with_start, start, invocation, turn_of, turned, serving}
use Rattle.journal.specs.Processes.{without_process, asks_store, answers, refused_at_once, waits_or_told, creates, effected}
use Rattle.journal.specs.Processes.{process_turn}
use Rattle.journal.specs.Settling.{first_request, settled_eject, settled, unsynced, written_with, to_settle}
use Rattle.journal.specs.Crashes.{fallen, crashed}
use Rattle.journal.specs.Stores.{Work, syncs, reads, unkept, without_room, calls, work_of, more_made, doubted, tells_code, request_ended}
use Rattle.journal.specs.Stores.{removed, stored, done, worked, store_turn}
use Rattle.journal.specs.Starts.{start_of, misfits_answered, activated, start_settled, activation_turn}
use Rattle.journal.specs.Boots.{booted_node, boot_turn}
use Rattle.journal.specs.Step.{AllowsAt, IsActiveAnd, site_turn}
use Rattle.journal.specs.Sites.{active_in, at_store, IsLaid}
use Rattle.history_laws.proofs.Fits.{SoundSite}
use Rattle.history_laws.proofs.Frame.{eject-on_eject, eject-on_traffic}
use Rattle.history_laws.proofs.KeptTurns.{value-each}
use Rattle.history_laws.proofs.Manned.{other-key}
use Rattle.history_laws.proofs.SiteCrews.{Loose, waits_outside, waits_not}
use Rattle.history_laws.proofs.SiteParts.{HasPart, Ready, loose-ready, loose-waits, eject-here}
use Rattle.history_laws.proofs.SiteEvents.{startable-there}
use Rattle.history_laws.proofs.SiteStores.{first-is, at-own}
use Rattle.history_laws.proofs.SiteTurns.{IsNew, ready-born}
use Rattle.history_laws.proofs.Seats.{IsOpenAt}
use Rattle.history_laws.proofs.SeatedCrews.{holders_of, monitors_of, AreSeated, areseated-like, in-set, in-locked, in-left, in-waited}
use Rattle.history_laws.proofs.SeatedCrews.{in-signalled, in-started, in-ended}

-- 1. An active part

-- whether a type has the monitor at a place, and of which monitor a condition is
abbrev pub has_monitor : Edentype → ℕ → Bool
has_monitor t i = is_some (holders_of (fresh_crew (setup_of t)) i)

abbrev pub condition_of : Edentype → ℕ → Option ℕ
condition_of t c = monitors_of (fresh_crew (setup_of t)) c

-- inside of which monitor a process is, by what it has left to do
abbrev pub inside_at : List (ℕ × Task) → ℕ → Option ℕ
inside_at ts q = with_item (value_at nat_cmp q ts) (λ t. inside_rest t.rest) None

-- each process is in its place, where in the midst of a turn one may be said to be elsewhere
abbrev pub PartSeated : (ℕ → Option ℕ → Option ℕ) → Active → Type 0
PartSeated o it = AreSeated (has_monitor it.kind) (condition_of it.kind) it.crew (λ q. o q (inside_at it.tasks q))

abbrev pub Turnover : Type 0
Turnover = Uid → ℕ → Option ℕ → Option ℕ

abbrev pub SeatsIn : Turnover → Site → Type 0
SeatsIn o s = (u : Uid) (e : Eject) → eject_in s u ≡ Some e → IfSome e.active (PartSeated (o u))

abbrev pub settled_so : Turnover
settled_so u q r = r

-- in the turn of this process, which is inside of this monitor or none
abbrev pub midway : Uid → ℕ → Option ℕ → Turnover
midway v p before u q r = cond (eq_by_cmp uid_cmp u v && eq_by_cmp nat_cmp q p) before r

-- 2. Tasks

inside-changed : (p : ℕ) (f : Task → Task) (ts : List (ℕ × Task)) → ((t : Task) → inside_rest (f t).rest ≡ inside_rest t.rest) → (q : ℕ)
    → inside_at (changed_at nat_cmp p f ts) q ≡ inside_at ts q
inside-changed p f ts same q = ap (λ o. with_item o (λ (t : Task). inside_rest t.rest) None)
    (value-changed nat_cmp nat_cmp_total nat_cmp-IsAntisymmetric q p f ts) ∙ go (eq_by_cmp nat_cmp q p) (value_at nat_cmp q ts)
  where
    go : (b : Bool) (o : Option Task) → with_item (cond b (option_map f o) o) (λ (t : Task). inside_rest t.rest) None
        ≡ with_item o (λ (t : Task). inside_rest t.rest) None
    go true None = refl
    go true (Some t) = same t
    go false o = refl

-- another task of this process
inside-others : (p : ℕ) (f : Task → Task) (ts : List (ℕ × Task)) (q : ℕ) → eq_by_cmp nat_cmp q p ≡ false
    → inside_at (changed_at nat_cmp p f ts) q ≡ inside_at ts q
inside-others p f ts q away = ap (λ o. with_item o (λ (t : Task). inside_rest t.rest) None)
    (value-changed nat_cmp nat_cmp_total nat_cmp-IsAntisymmetric q p f ts
    ∙ ap (λ b. cond b (option_map f (value_at nat_cmp q ts)) (value_at nat_cmp q ts)) away)

inside-now : (p : ℕ) (f : Task → Task) (ts : List (ℕ × Task)) (x : Task) → value_at nat_cmp p ts ≡ Some x
    → inside_at (changed_at nat_cmp p f ts) p ≡ inside_rest (f x).rest
inside-now p f ts x at = ap (λ o. with_item o (λ (t : Task). inside_rest t.rest) None)
    (value-changed nat_cmp nat_cmp_total nat_cmp-IsAntisymmetric p p f ts
    ∙ ap (λ b. cond b (option_map f (value_at nat_cmp p ts)) (value_at nat_cmp p ts)) (same-self p) ∙ ap (option_map f) at)

part-told : (o : ℕ → Option ℕ → Option ℕ) (p : ℕ) (a : Answer) (it : Active) → Loose it.crew p → PartSeated o it
    → PartSeated o (told p a it)
part-told o p a it loose h = areseated-like (has_monitor it.kind) (condition_of it.kind) (set_waits p nothing it.crew)
    (λ q. o q (inside_at it.tasks q)) (λ q. o q (inside_at (told p a it).tasks q))
    (λ q. ap (o q) (inside-changed p (λ t. record t { answer = a }) it.tasks (λ t. refl) q)) (go loose)
  where
    go : Loose it.crew p
        → AreSeated (has_monitor it.kind) (condition_of it.kind) (set_waits p nothing it.crew) (λ q. o q (inside_at it.tasks q))
    go (waits_outside w) = in-set (has_monitor it.kind) (condition_of it.kind) p nothing outside it.crew _ w tt tt h
    go (waits_not w) = in-set (has_monitor it.kind) (condition_of it.kind) p nothing nothing it.crew _ w tt tt h

-- 3. A new active part

no-holder : (n i p : ℕ)
    → option_map (λ (m : Monitor). m.holder) (slice_get (replicate n (record { holder = None; entering = [] })) i) ≡ Some (Some p) → ⊥
no-holder zero i p at = cc at
no-holder (suc n) zero p at = cc at
no-holder (suc n) (suc i) p at = no-holder n i p at

only-nothing : (k n q : ℕ) (v : Waiting) → waits_at q (declared_from k n) ≡ Some v → v ≡ nothing
only-nothing k zero q v is = absurd (cc is)
only-nothing k (suc n) q v is = go (eq_by_cmp nat_cmp q k) is (only-nothing (k + 1) n q v)
  where
    go : (b : Bool) → option_map (λ (x : Worker). x.waits)
        (cond b (Some (record { serves = None; waits = nothing })) (value_at nat_cmp q (declared_from (k + 1) n))) ≡ Some v
        → (waits_at q (declared_from (k + 1) n) ≡ Some v → v ≡ nothing) → v ≡ nothing
    go true is later = cc is
    go false is later = later is

inside-does : (ss : List Statement) → inside (map does ss) ≡ None
inside-does [] = refl
inside-does (s ∷ ss) = inside-does ss

inside-fresh : (k : ℕ) (ps : List Body) (q : ℕ) → inside_at (tasks_from k (map (λ p. of_declared (process_left p)) ps)) q ≡ None
inside-fresh k [] q = refl
inside-fresh k (b ∷ ps) q = go (eq_by_cmp nat_cmp q k) (inside-fresh (k + 1) ps q)
  where
    go : (same : Bool) → inside_at (tasks_from (k + 1) (map (λ p. of_declared (process_left p)) ps)) q ≡ None
        → with_item (cond same (Some (record { rest = of_declared (process_left b); answer = Go }))
        (value_at nat_cmp q (tasks_from (k + 1) (map (λ p. of_declared (process_left p)) ps))))
        (λ (t : Task). inside_rest t.rest) None ≡ None
    go true later = inside-does b.body
    go false later = later

none-inside : (t : Edentype) (q : ℕ) → inside_at (tasks_from 1 (declared t)) q ≡ None
none-inside (native n) q = refl
none-inside (declared_type t) q = inside-fresh 1 t.processes q

pub part-fresh : (o : ℕ → Option ℕ → Option ℕ) (t : Edentype) (vars : List Datum) → ((q : ℕ) → o q None ≡ None)
    → PartSeated o (fresh t vars)
part-fresh o t vars quiet = record {
  seated = record {
    held = λ i p at. absurd (no-holder (setup_of t).monitors i p at);
    holds = λ p m opened at. absurd (let bad : None ≡ Some m = sym (all-none p) ∙ at in cc bad);
    enters = λ p m at. absurd (let bad : entry m ≡ nothing = only-nothing 1 (setup_of t).declared p (entry m) at in cc bad);
    waits = λ p c at. absurd (let bad : condition c ≡ nothing = only-nothing 1 (setup_of t).declared p (condition c) at in cc bad);
  };
  monitors = λ i. refl;
  conditions = λ c. refl;
}
  where
    all-none : (q : ℕ) → o q (inside_at (tasks_from 1 (declared t)) q) ≡ None
    all-none q = ap (o q) (none-inside t q) ∙ quiet q

-- 4. Changes of a site

-- one Eject changes, and with it what is said of it
seats-step : (o o2 : Turnover) (v : Uid) (f : Eject → Eject) (s : Site)
    → ((u : Uid) → eq_by_cmp uid_cmp u v ≡ false → (q : ℕ) (r : Option ℕ) → o2 u q r ≡ o u q r)
    → ((e : Eject) → eject_in s v ≡ Some e → IfSome e.active (PartSeated (o v)) → IfSome (f e).active (PartSeated (o2 v)))
    → SeatsIn o s → SeatsIn o2 (on_eject v f s)
seats-step o o2 v f s away keep h u e is = go (eq_by_cmp uid_cmp u v) refl (eject_in s u) refl (sym (eject-on_eject v u f s) ∙ is)
  where
    still : (x : Option Active) → ((q : ℕ) (r : Option ℕ) → o2 u q r ≡ o u q r) → IfSome x (PartSeated (o u)) → IfSome x (PartSeated (o2 u))
    still None same h = tt
    still (Some it) same h = areseated-like (has_monitor it.kind) (condition_of it.kind) it.crew (λ q. o u q (inside_at it.tasks q))
        (λ q. o2 u q (inside_at it.tasks q)) (λ q. same q (inside_at it.tasks q)) h

    go : (b : Bool) → eq_by_cmp uid_cmp u v ≡ b → (x : Option Eject) → eject_in s u ≡ x → cond b (option_map f x) x ≡ Some e
        → IfSome e.active (PartSeated (o2 u))
    go false same x at is = still e.active (away u same) (h u e (at ∙ is))
    go true same None at is = absurd (cc is)
    go true same (Some x) at is = let here : u ≡ v = eq-same uid_cmp uid_cmp-IsAntisymmetric u v same in
        subst (λ y. IfSome y (λ (e : Eject). IfSome e.active (PartSeated (o2 u)))) is
        (subst (λ k. IfSome (f x).active (PartSeated (o2 k))) (sym here)
        (keep x (ap (eject_in s) (sym here) ∙ at) (subst (λ k. IfSome x.active (PartSeated (o k))) here (h u x at))))

module _ (o : Turnover) where
  pub seats-on_eject : (v : Uid) (f : Eject → Eject) (s : Site)
      → ((e : Eject) → eject_in s v ≡ Some e → IfSome e.active (PartSeated (o v)) → IfSome (f e).active (PartSeated (o v)))
      → SeatsIn o s → SeatsIn o (on_eject v f s)
  seats-on_eject v f s keep h = seats-step o o v f s (λ u away q r. refl) keep h

  pub seats-on_traffic : (f : Traffic → Traffic) (s : Site) → SeatsIn o s → SeatsIn o (on_traffic f s)
  unfolding on_traffic
  seats-on_traffic f s h = h

  pub seats-on_node : (f : Node → Node) (s : Site) → (f s.node).ejects ≡ s.node.ejects → SeatsIn o s → SeatsIn o (on_node f s)
  unfolding on_node
  seats-on_node f s same h = λ u e is. h u e (ap (value_at uid_cmp u) (sym same) ∙ is)

  pub seats-each : (f : Eject → Eject) (s : Site) (ejects : List (Uid × Eject)) → ejects ≡ each_value f s.node.ejects
      → ((u : Uid) (e : Eject) → IfSome e.active (PartSeated (o u)) → IfSome (f e).active (PartSeated (o u))) → SeatsIn o s
      → (u : Uid) (e : Eject) → value_at uid_cmp u ejects ≡ Some e → IfSome e.active (PartSeated (o u))
  seats-each f s ejects same keep h u e is = go (eject_in s u) refl
      (sym (value-each u f s.node.ejects) ∙ ap (value_at uid_cmp u) (sym same) ∙ is)
    where
      go : (x : Option Eject) → eject_in s u ≡ x → option_map f x ≡ Some e → IfSome e.active (PartSeated (o u))
      go None at is = absurd (cc is)
      go (Some x) at is = subst (λ y. IfSome y (λ (e : Eject). IfSome e.active (PartSeated (o u)))) is (keep u x (h u x at))

  pub seats-item : {X : Type 0} (s : Site) (x : Option X) (f : X → Site) → ((y : X) → x ≡ Some y → SeatsIn o (f y)) → SeatsIn o s
      → SeatsIn o (with_item x f s)
  seats-item s None f each h = h
  seats-item s (Some y) f each h = each y refl

  pub seats-cond : (b : Bool) (s t : Site) → SeatsIn o s → SeatsIn o t → SeatsIn o (cond b s t)
  seats-cond true s t x y = x
  seats-cond false s t x y = y

  pub seats-on_active : (v : Uid) (f : Active → Active) (s : Site)
      → ((it : Active) → HasPart s v it → PartSeated (o v) it → PartSeated (o v) (f it)) → SeatsIn o s
      → SeatsIn o (on_eject v (on_active f) s)
  seats-on_active v f s keep h = seats-on_eject v (on_active f) s (λ e at. go e at e.active refl) h
    where
      go : (e : Eject) → eject_in s v ≡ Some e → (x : Option Active) → e.active ≡ x → IfSome x (PartSeated (o v))
          → IfSome (with_item x (λ it. with_active (Some (f it)) e) e).active (PartSeated (o v))
      go e at None is h = rw is tt
      go e at (Some it) is h = keep it (ap (λ x. with_item x (λ (e : Eject). e.active) None) at ∙ is) h

  pub seats-tells : (v : Uid) (p : ℕ) (a : Answer) (s : Site) → ((it : Active) → HasPart s v it → Loose it.crew p) → SeatsIn o s
      → SeatsIn o (tells v p a s)
  seats-tells v p a s loose h = seats-on_active v (told p a) s (λ it at. part-told (o v) p a it (loose it at)) h

  pub seats-turned_away : (v : Uid) (why : Status) (s : Site) → SeatsIn o s → SeatsIn o (turned_away v why s)
  seats-turned_away v why s h =
      seats-item s (eject_in s v) _ (λ e is. seats-on_traffic (all_replied why e.queued) (on_eject v (with_queued []) s)
      (seats-on_eject v (with_queued []) s (λ x at h. h) h)) h

  pub seats-deactivated : (v : Uid) (s : Site) → SeatsIn o s → SeatsIn o (deactivated v s)
  seats-deactivated v s h = seats-item s (eject_in s v) _ (λ e is. seats-item s e.active _ (λ it is_it.
      seats-on_traffic (λ t. all_replied status.Dropped (running it.crew) (orphaned v t))
      (on_eject v (with_active None) (on_node (without_requests v) s))
      (seats-on_eject v (with_active None) (on_node (without_requests v) s) (λ x at fits. tt)
      (seats-on_node (without_requests v) s refl h))) h) h

  pub seats-gone : (v : Uid) (s : Site) → SeatsIn o s → SeatsIn o (gone_if_unkept v s)
  seats-gone v s h = seats-item s (eject_in s v) _ (λ e is.
      seats-cond (is_there e) s (turned_away v status.Gone s) h (seats-turned_away v status.Gone s h)) h

  -- the process waits for what is outside
  pub seats-outside : (v : Uid) (p : ℕ) (s : Site) → ((it : Active) → HasPart s v it → Runs it.crew p) → SeatsIn o s
      → SeatsIn o (on_eject v (on_active (on_crew (set_waits p outside))) s)
  seats-outside v p s runs h = seats-on_active v (on_crew (set_waits p outside)) s (λ it at x.
      in-set (has_monitor it.kind) (condition_of it.kind) p outside nothing it.crew _ (runs it at) tt tt x) h

  pub seats-asks : (v : Uid) (p : ℕ) (c : EjectChange) (s : Site) → ((it : Active) → HasPart s v it → Runs it.crew p) → SeatsIn o s
      → SeatsIn o (asks_store v p c s)
  seats-asks v p c s runs h = seats-on_node (λ it. record it {
    requests = it.requests ++ record { uid = v; process = Some p; change = c; made = 0 } ∷ [];
  }) (on_eject v (on_active (on_crew (set_waits p outside))) s) refl (seats-outside v p s runs h)

  pub seats-born : (v : Uid) (t : Edentype) (vars : List Datum) (s : Site) → eject_in s v ≡ None → ((q : ℕ) → o v q None ≡ None)
      → SeatsIn o s
      → SeatsIn o (born v (fresh t vars) s)
  unfolding on_node
  seats-born v t vars s absent quiet h = λ u e is. go u e (eq_by_cmp uid_cmp u v) refl
      (sym (find-put uid_cmp uid_cmp_total u v (grown (eject_in s v)) s.node.ejects) ∙ is)
    where
      grown : Option Eject → Eject
      grown x = with_item x (with_active (Some (fresh t vars))) (newborn (fresh t vars))

      fits-grown : (x : Option Eject) → x ≡ None → IfSome (grown x).active (PartSeated (o v))
      fits-grown None at = part-fresh (o v) t vars quiet
      fits-grown (Some e) at = absurd (cc at)

      go : (u : Uid) (e : Eject) (b : Bool) → eq_by_cmp uid_cmp u v ≡ b → cond b (Some (grown (eject_in s v))) (eject_in s u) ≡ Some e
          → IfSome e.active (PartSeated (o u))
      go u e true same is = subst (λ y. IfSome y (λ (e : Eject). IfSome e.active (PartSeated (o u)))) is
          (subst (λ k. IfSome (grown (eject_in s v)).active (PartSeated (o k))) (sym (eq-same uid_cmp uid_cmp-IsAntisymmetric u v same))
          (fits-grown (eject_in s v) absent))
      go u e false same is = h u e is

-- 5. A turn of a process

-- where a process is inside, before its effect and behind it
abbrev pub Steps : Edentype → Effect → Option ℕ → Option ℕ → Type 0
Steps t (effect.Lock m) before after = (before ≡ None) × (after ≡ Some m) × (1 ≤ m) × (has_monitor t (m - 1) ≡ true)
Steps t (effect.Leave m) before after = (before ≡ Some m) × (after ≡ None)
Steps t (effect.Wait c) before after = (m : ℕ) × (before ≡ Some m) × (condition_of t c ≡ Some m) × (after ≡ before)
Steps t (effect.Return results) before after = Unit {0}
Steps t effect.End before after = Unit {0}
Steps t (effect.Fault cause) before after = Unit {0}
Steps t _ before after = after ≡ before

at-part : (P Q : Active → Type 0) (f : Active → Active) (x : Eject) (it : Active) → x.active ≡ Some it → (P it → Q (f it))
    → IfSome x.active P
    → IfSome (on_active f x).active Q
at-part P Q f x it is keep h = go x.active is h
  where
    go : (y : Option Active) → y ≡ Some it → IfSome y P → IfSome (with_item y (λ it. with_active (Some (f it)) x) x).active Q
    go None bad h = absurd (cc bad)
    go (Some y) same h = let e : y ≡ it = cc same in subst (λ z. Q (f z)) (sym e) (keep (subst P e h))

same-eject : {e x : Eject} → Some e ≡ Some x → e ≡ x
same-eject same = cc same

apart-eqb : (q p : ℕ) → eq_by_cmp nat_cmp q p ≡ false → (q == p) ≡ false
apart-eqb q p away = go (q == p) refl
  where
    go : (b : Bool) → (q == p) ≡ b → b ≡ false
    go true is = absurd (let bad : true ≡ false = sym (same-self q) ∙ ap (eq_by_cmp nat_cmp q) (eqb-true q p is) ∙ away in cc bad)
    go false is = refl

-- the values and what is left to do are those after the turn, and the process is still where it was
seats-turned : (v : Uid) (p : ℕ) (t : Turned) (s : Site) (e : Eject) (it : Active) → eject_in s v ≡ Some e → e.active ≡ Some it
    → SeatsIn settled_so s → SeatsIn (midway v p (inside_at it.tasks p)) (on_eject v (on_active (turned p t)) s)
seats-turned v p t s e it at is h = seats-step settled_so (midway v p before) v (on_active (turned p t)) s
    (λ u away q r. ap (λ b. cond (b && eq_by_cmp nat_cmp q p) before r) away)
    (λ x at_x. at-part (PartSeated (settled_so v)) (PartSeated (midway v p before v)) (turned p t) x it
    (ap (λ (y : Eject). y.active) (sym (same-eject (sym at ∙ at_x))) ∙ is)
    (areseated-like (has_monitor it.kind) (condition_of it.kind) it.crew (inside_at it.tasks) _ same)) h
  where
    before : Option ℕ
    before = inside_at it.tasks p

    same : (q : ℕ) → cond (eq_by_cmp uid_cmp v v && eq_by_cmp nat_cmp q p) before (inside_at (turned p t it).tasks q) ≡ inside_at it.tasks q
    same q = ap (λ b. cond (b && eq_by_cmp nat_cmp q p) before (inside_at (turned p t it).tasks q)) (ap is_eq (tied_itself uid_cmp_total v))
        ∙ go (eq_by_cmp nat_cmp q p) refl
      where
        go : (b : Bool) → eq_by_cmp nat_cmp q p ≡ b → cond b before (inside_at (turned p t it).tasks q) ≡ inside_at it.tasks q
        go true is = ap (inside_at it.tasks) (sym (same-true q p is))
        go false is = inside-others p (λ old. record { rest = t.rest; answer = Go }) it.tasks q is

module _ (v : Uid) (p : ℕ) (s : Site) (x : Eject) (it : Active) (before after : Option ℕ) (here : v.node ≡ s.number)
    (at : eject_in s v ≡ Some x) (is : x.active ≡ Some it) (inside_is : inside_at it.tasks p ≡ after) (lines : AreLines it.crew)
    (runs : Runs it.crew p) where
  part : HasPart s v it
  part = ap (λ y. with_item y (λ (e : Eject). e.active) None) at ∙ is

  ready : Ready s v p
  ready = record { here = here; part = it; is = part; waits = runs }

  runs-at : (y : Active) → HasPart s v y → Runs y.crew p
  runs-at y has = let same : Some it ≡ Some y = sym part ∙ has in subst (λ o. IfSome o (λ (z : Active). Runs z.crew p)) same runs

  at-p : midway v p before v p (inside_at it.tasks p) ≡ before
  at-p = ap (λ b. cond (b && eq_by_cmp nat_cmp p p) before (inside_at it.tasks p)) (ap is_eq (tied_itself uid_cmp_total v))
      ∙ ap (λ b. cond b before (inside_at it.tasks p)) (same-self p)

  at-others : (q : ℕ) → eq_by_cmp nat_cmp q p ≡ false → midway v p before v q (inside_at it.tasks q) ≡ inside_at it.tasks q
  at-others q away = ap (λ b. cond (b && eq_by_cmp nat_cmp q p) before (inside_at it.tasks q)) (ap is_eq (tied_itself uid_cmp_total v))
      ∙ ap (λ b. cond b before (inside_at it.tasks q)) away

  -- the effect changes the active part, and then each process is in its place again
  seats-effect : (g : Active → Active) → (PartSeated (midway v p before v) it → PartSeated (settled_so v) (g it))
      → SeatsIn (midway v p before) s
      → SeatsIn settled_so (on_eject v (on_active g) s)
  seats-effect g keep h = seats-step (midway v p before) settled_so v (on_active g) s
      (λ u away q r. sym (ap (λ b. cond (b && eq_by_cmp nat_cmp q p) before r) away))
      (λ y at_y. at-part (PartSeated (midway v p before v)) (PartSeated (settled_so v)) g y it
      (ap (λ (z : Eject). z.active) (sym (same-eject (sym at ∙ at_y))) ∙ is) keep) h

  seats-ended : SeatsIn (midway v p before) s → SeatsIn settled_so (on_eject v (on_active (without_process p)) s)
  seats-ended h = seats-effect (without_process p) (λ y. in-ended (has_monitor it.kind) (condition_of it.kind) p it.crew _
      (inside_at (without_process p it).tasks) lines runs (record { others = λ q away. others q away ∙ sym (at-others q away) }) y) h
    where
      others : (q : ℕ) → eq_by_cmp nat_cmp q p ≡ false → inside_at (without_process p it).tasks q ≡ inside_at it.tasks q
      others q away = ap (λ o. with_item o (λ (t : Task). inside_rest t.rest) None) (other-key p q it.tasks
          ∙ ap (λ b. cond (not b) (value_at nat_cmp q it.tasks) None) (apart-eqb q p away))

  seats-dropped : SeatsIn (midway v p before) s → SeatsIn settled_so (deactivated v s)
  seats-dropped h = go (eject_in s v) at
    where
      gone : (y : Active) → SeatsIn settled_so (on_traffic (λ t. all_replied status.Dropped (running y.crew) (orphaned v t))
          (on_eject v (with_active None) (on_node (without_requests v) s)))
      gone y = seats-on_traffic settled_so (λ t. all_replied status.Dropped (running y.crew) (orphaned v t))
          (on_eject v (with_active None) (on_node (without_requests v) s))
          (seats-step (midway v p before) settled_so v (with_active None) (on_node (without_requests v) s)
          (λ u away q r. sym (ap (λ b. cond (b && eq_by_cmp nat_cmp q p) before r) away)) (λ z at_z h. tt)
          (seats-on_node (midway v p before) (without_requests v) s refl h))

      two : (y : Option Active) → y ≡ Some it
          → SeatsIn settled_so (with_item y (λ z. on_traffic (λ t. all_replied status.Dropped (running z.crew) (orphaned v t))
          (on_eject v (with_active None) (on_node (without_requests v) s))) s)
      two None bad = absurd (cc bad)
      two (Some z) same = gone z

      go : (y : Option Eject) → y ≡ Some x → SeatsIn settled_so (with_item y (λ e. with_item e.active (λ z.
          on_traffic (λ t. all_replied status.Dropped (running z.crew) (orphaned v t))
          (on_eject v (with_active None) (on_node (without_requests v) s))) s) s)
      go None bad = absurd (cc bad)
      go (Some y) same = two y.active (ap (λ (z : Eject). z.active) (same-eject same) ∙ is)

  -- where the process is inside of what it was inside of
  seats-as_was : after ≡ before → SeatsIn (midway v p before) s → SeatsIn settled_so s
  seats-as_was same h u e at_e = go (eq_by_cmp uid_cmp u v) refl
    where
      like : (y : Option Active) → ((z : Active) → y ≡ Some z → (q : ℕ) → inside_at z.tasks q ≡ midway v p before u q (inside_at z.tasks q))
          → IfSome y (PartSeated (midway v p before u)) → IfSome y (PartSeated (settled_so u))
      like None each h = tt
      like (Some z) each h = areseated-like (has_monitor z.kind) (condition_of z.kind) z.crew _ (inside_at z.tasks) (each z refl) h

      same-at : (q : ℕ) (b : Bool) → eq_by_cmp nat_cmp q p ≡ b → inside_at it.tasks q ≡ cond b before (inside_at it.tasks q)
      same-at q true away = ap (inside_at it.tasks) (same-true q p away) ∙ inside_is ∙ same
      same-at q false away = refl

      go : (b : Bool) → eq_by_cmp uid_cmp u v ≡ b → IfSome e.active (PartSeated (settled_so u))
      go false away =
          like e.active (λ z is_z q. sym (ap (λ b. cond (b && eq_by_cmp nat_cmp q p) before (inside_at z.tasks q)) away)) (h u e at_e)
      go true same_uid = like e.active (λ z is_z q. mine z is_z q) (h u e at_e)
        where
          mine : (z : Active) → e.active ≡ Some z → (q : ℕ) → inside_at z.tasks q ≡ midway v p before u q (inside_at z.tasks q)
          mine z is_z q =
              let there : eject_in s v ≡ Some e = ap (eject_in s) (sym (eq-same uid_cmp uid_cmp-IsAntisymmetric u v same_uid)) ∙ at_e in
              let one : it ≡ z = (let e2 : Some it ≡ Some z = sym is ∙ ap (λ (y : Eject). y.active) (same-eject (sym at ∙ there))
              ∙ is_z in cc e2) in
              subst (λ (y : Active). inside_at y.tasks q ≡ midway v p before u q (inside_at y.tasks q)) one
              (same-at q (eq_by_cmp nat_cmp q p) refl
              ∙ sym (ap (λ b. cond (b && eq_by_cmp nat_cmp q p) before (inside_at it.tasks q)) same_uid))

  seats-creates : (t : Option Edentype) (made : Result Uid Status) → next_uid s ≡ made → IsNew s → SeatsIn settled_so s
      → SeatsIn settled_so (creates v p t made s)
  seats-creates None made next new h = h
  seats-creates (Some t) (Ok u) next new h =
      seats-tells settled_so v p (Made status.Ok (Some (full u))) (born u (fresh t (first_values t)) s)
      (loose-ready (born u (fresh t (first_values t)) s) v p (ready-born v u t (first_values t) s p (new u next) ready))
      (seats-born settled_so u t (first_values t) s (new u next) (λ q. refl) h)
  seats-creates (Some t) (Err why) next new h = seats-tells settled_so v p (Made why None) s (loose-ready s v p ready) h

  pub seats-effected : (reach : ℕ → Bool) (i : Option Invocation) (t : Edentype) (vars : List Datum) (e : Effect) → it.kind ≡ t
      → Steps t e before after → IsNew s → SeatsIn (midway v p before) s → SeatsIn settled_so (effected reach v p i t vars e s)
  seats-effected reach i t vars (effect.Return results) kind steps new h =
      seats-on_traffic settled_so (answers i results) (on_eject v (on_active (without_process p)) s) (seats-ended h)
  seats-effected reach i t vars effect.End kind steps new h = seats-ended h
  seats-effected reach i t vars effect.Checkpoint kind steps new before_it = let h = seats-as_was steps before_it in
      seats-cond settled_so (nat_le (length (spelling (rep_of t vars))) BODY_LIMIT) (asks_store v p (body (spelling (rep_of t vars))) s)
      (tells v p (Code status.TooLarge) s) (seats-asks settled_so v p (body (spelling (rep_of t vars))) s runs-at h)
      (seats-tells settled_so v p (Code status.TooLarge) s (loose-ready s v p ready) h)
  seats-effected reach i t vars effect.Destroy kind steps new h = seats-asks settled_so v p removal s runs-at (seats-as_was steps h)
  seats-effected reach i t vars effect.Deactivate kind steps new h =
      seats-gone settled_so v (deactivated v s) (seats-dropped h)
  seats-effected reach i t vars (effect.Fault cause) kind steps new h =
      seats-turned_away settled_so v status.Dropped (deactivated v s) (seats-dropped h)
  seats-effected reach i t vars (effect.Create type_name) kind steps new h =
      seats-creates (type_of s.types type_name) (next_uid s) refl new (seats-as_was steps h)
  seats-effected reach i t vars (effect.Invoke target operation args) kind steps new h =
      seats-on_traffic settled_so
      (λ t. with_call (next_call t) (Process v p) target operation args (refused_at_once (reach target.uid.node) args) t)
      (on_eject v (on_active (waits_or_told p (refused_at_once (reach target.uid.node) args))) s)
      (waits (refused_at_once (reach target.uid.node) args) (seats-as_was steps h))
    where
      waits : (at_once : Option Status) → SeatsIn settled_so s → SeatsIn settled_so (on_eject v (on_active (waits_or_told p at_once)) s)
      waits None h = seats-outside settled_so v p s runs-at h
      waits (Some why) h = seats-tells settled_so v p (Told why []) s (loose-ready s v p ready) h
  seats-effected reach i t vars (effect.Lock m) kind steps new h = seats-effect (on_crew (locked p m)) (λ y.
      in-locked (has_monitor it.kind) (condition_of it.kind) p m it.crew _ (inside_at it.tasks) runs steps.2
      (ap (λ k. has_monitor k (m - 1)) kind ∙ steps.3) (at-p ∙ steps.0) (inside_is ∙ steps.1)
      (record { others = λ q away. sym (at-others q away) }) y) h
  seats-effected reach i t vars (effect.Leave m) kind steps new h = seats-effect (on_crew (left m)) (λ y.
      let mine = y.seated.holds p m (subst IsOpenAt (sym runs) tt) (at-p ∙ steps.0) in
      in-left (has_monitor it.kind) (condition_of it.kind) p m it.crew _ (inside_at it.tasks) lines mine.0 mine.1 (inside_is ∙ steps.1)
      (record { others = λ q away. sym (at-others q away) }) y) h
  seats-effected reach i t vars (effect.Wait c) kind steps new h =
      seats-on_active settled_so v (on_crew (waited p c)) s (λ z has y.
      let same : it ≡ z = (let e : Some it ≡ Some z = sym part ∙ has in cc e) in
      subst (λ (k : Active). PartSeated (settled_so v) k → PartSeated (settled_so v) (on_crew (waited p c) k)) same
      (λ y. in-waited (has_monitor it.kind) (condition_of it.kind) p c steps.0 it.crew (inside_at it.tasks) lines runs
      (inside_is ∙ steps.3 ∙ steps.1) (ap (λ k. condition_of k c) kind ∙ steps.2) y) y) (seats-as_was steps.3 h)
  seats-effected reach i t vars (effect.Signal c) kind steps new h =
      seats-on_active settled_so v (on_crew (signalled c)) s (λ z has y.
      let same : it ≡ z = (let e : Some it ≡ Some z = sym part ∙ has in cc e) in
      subst (λ (k : Active). PartSeated (settled_so v) k → PartSeated (settled_so v) (on_crew (signalled c) k)) same
      (λ y. in-signalled (has_monitor it.kind) (condition_of it.kind) c it.crew (inside_at it.tasks) lines y) y) (seats-as_was steps h)
  seats-effected reach i t vars effect.Yield kind steps new h = seats-as_was steps h

-- 6. Deliveries, starts and crashes

-- the process of this Eject is in no queue
abbrev pub LooseAt : Site → Uid → ℕ → Type 0
LooseAt s u p = (it : Active) → HasPart s u it → Loose it.crew p

-- each Eject is of the site
abbrev pub OfSite : Site → Type 0
OfSite s = (u : Uid) → is_some (eject_in s u) ≡ true → u.node ≡ s.number

part-there : (s : Site) (u : Uid) (it : Active) → HasPart s u it → is_some (eject_in s u) ≡ true
part-there s u it has = go (eject_in s u) has
  where
    go : (o : Option Eject) → active_in o ≡ Some it → is_some o ≡ true
    go None is = absurd (cc is)
    go (Some e) is = refl

seats-requested : (k : ℕ) (refused : Option Status) (s : Site) → SeatsIn settled_so s → SeatsIn settled_so (requested k refused s)
seats-requested k (Some why) s h = seats-on_traffic settled_so (λ t. replied why [] k (taken k t)) s h
seats-requested k None s h = seats-item settled_so s (call_at s.traffic k) _ (λ c is.
    seats-on_eject settled_so c.target.uid (λ e. record e { queued = e.queued ++ k ∷ [] })
    (on_traffic (λ t. changed_call k (at_place held) (taken k t)) s) (λ e at x. x)
    (seats-on_traffic settled_so (λ t. changed_call k (at_place held) (taken k t)) s h)) h

seats-heard : (k : ℕ) (why : Status) (values : List Datum) (s : Site) → OfSite s → SoundSite s → SeatsIn settled_so s
    → SeatsIn settled_so (heard k why values s)
seats-heard k why values s of_site sound h = seats-item settled_so s (call_at s.traffic k) _ (λ c is. by c is c.open_ refl) h
  where
    received_one : SeatsIn settled_so (on_traffic (received k) s)
    received_one = seats-on_traffic settled_so (received k) s h

    loose : (c : Call) → call_at s.traffic k ≡ Some c → c.open_ ≡ true → (u : Uid) (p : ℕ) → c.asker ≡ Process u p
        → LooseAt (on_traffic (received k) s) u p
    loose c is opened u p asker it has =
        let there : HasPart s u it = ap active_in (sym (eject-on_traffic u (received k) s)) ∙ has in
        let fit = sound.fits u (of_site u (part-there s u it there)) in
        loose-waits (active_in (eject_in s u)) p
        (fit.asks p k (subst (λ o. IsSomeAnd o (λ (d : Call). (d.open_ ≡ true) × (d.asker ≡ Process u p)))
        (sym is) (opened, asker))).0 it there

    tells-it : (c : Call) → call_at s.traffic k ≡ Some c → c.open_ ≡ true → (a : Asker) → c.asker ≡ a
        → SeatsIn settled_so (tells_asker a why values (on_traffic (received k) s))
    tells-it c is opened (Shell name) asker = received_one
    tells-it c is opened (Process u p) asker =
        seats-tells settled_so u p (Told why values) (on_traffic (received k) s) (loose c is opened u p asker) received_one

    by : (c : Call) → call_at s.traffic k ≡ Some c → (b : Bool) → c.open_ ≡ b
        → SeatsIn settled_so (cond b (tells_asker c.asker why values (on_traffic (received k) s)) (on_traffic (received k) s))
    by c is true opened = tells-it c is opened c.asker refl
    by c is false shut = received_one

begins-outside : (t : Edentype) (name : List ℕ) (args : List Datum) → inside_rest (begin t name args) ≡ None
begins-outside (native n) name args = refl
begins-outside (declared_type t) name args = go (find (λ o. same_text o.name.text name) t.operations)
  where
    go : (o : Option Operation) → inside (with_item o (λ o. left_of o args) nothing_left).steps ≡ None
    go None = refl
    go (Some o) = inside-does o.body

seats-start : (v : Uid) (k p : ℕ) (s : Site) → IsActiveAnd s v (λ e it. AllowsStart s.traffic k p e it) → SeatsIn settled_so s
    → SeatsIn settled_so (start v k p s)
seats-start v k p s allowed h = seats-item settled_so s (call_at s.traffic k) _ (λ c is.
    seats-on_eject settled_so v (λ e. record (on_active (with_start s.traffic k p c) e) { queued = filter (λ j. not (j == k)) e.queued }) s
    (λ e at x. go c e e.active refl (starts e at) x) h) h
  where
    starts : (e : Eject) → eject_in s v ≡ Some e → IsSomeAnd e.active (λ it. AllowsStart s.traffic k p e it)
    starts e at = subst (λ o. IsSomeAnd o (λ e. IsSomeAnd e.active (λ it. AllowsStart s.traffic k p e it))) at allowed

    one : (c : Call) (e : Eject) (it : Active) → AllowsStart s.traffic k p e it → PartSeated (settled_so v) it
        → PartSeated (settled_so v) (with_start s.traffic k p c it)
    one c e it a x = in-started (has_monitor it.kind) (condition_of it.kind) (invocation it.kind s.traffic k) it.crew (inside_at it.tasks) _
        (ap (option_map (λ (y : Worker). y.waits)) (free-none (least_free it.crew) it.crew.processes (least_free-free it.crew
        (startable-there it s.traffic e.queued (invocation it.kind s.traffic k) a.earliest).1)))
        (subst (λ n. inside_at (put_at nat_cmp n task it.tasks) (least_free it.crew) ≡ None) (sym a.number) now)
        (record {
          others = λ q away. subst (λ n. inside_at (put_at nat_cmp n task it.tasks) q ≡ inside_at it.tasks q) (sym a.number)
              (other q away);
        }) x
      where
        task : Task
        task = record { rest = begin it.kind c.operation c.args; answer = Go }

        put : (q : ℕ) → inside_at (put_at nat_cmp (least_free it.crew) task it.tasks) q
            ≡ with_item (cond (eq_by_cmp nat_cmp q (least_free it.crew)) (Some task) (value_at nat_cmp q it.tasks))
            (λ (t : Task). inside_rest t.rest) None
        put q =
            ap (λ o. with_item o (λ (t : Task). inside_rest t.rest) None)
            (find-put nat_cmp nat_cmp_total q (least_free it.crew) task it.tasks)

        now : inside_at (put_at nat_cmp (least_free it.crew) task it.tasks) (least_free it.crew) ≡ None
        now = put (least_free it.crew)
            ∙ ap (λ b. with_item (cond b (Some task) (value_at nat_cmp (least_free it.crew) it.tasks))
            (λ (t : Task). inside_rest t.rest) None)
            (same-self (least_free it.crew)) ∙ begins-outside it.kind c.operation c.args

        other : (q : ℕ) → eq_by_cmp nat_cmp q (least_free it.crew) ≡ false
            → inside_at (put_at nat_cmp (least_free it.crew) task it.tasks) q ≡ inside_at it.tasks q
        other q away = put q
            ∙ ap (λ b. with_item (cond b (Some task) (value_at nat_cmp q it.tasks)) (λ (t : Task). inside_rest t.rest) None) away

    go : (c : Call) (e : Eject) (x : Option Active) → e.active ≡ x → IsSomeAnd x (λ it. AllowsStart s.traffic k p e it)
        → IfSome x (PartSeated (settled_so v))
        → IfSome (with_item x (λ it. with_active (Some (with_start s.traffic k p c it)) e) e).active (PartSeated (settled_so v))
    go c e None active a x = absurd a
    go c e (Some it) active a x = one c e it a x

pub seats-crashed : (s : Site) → SeatsIn settled_so s → SeatsIn settled_so (crashed s)
unfolding on_traffic on_node
seats-crashed s h = seats-each settled_so fallen s (each_value fallen s.node.ejects) refl (λ u e x. tt) h

-- 7. The store

seats-settled : (p : Option Pick) (s : Site) → SeatsIn settled_so s → SeatsIn settled_so (settled p s)
unfolding on_node
seats-settled None s h = h
seats-settled (Some pick.Old) s h =
    seats-each settled_so (settled_eject pick.Old) s (each_value (settled_eject pick.Old) s.node.ejects) refl (λ u e x. x) h
seats-settled (Some pick.New) s h =
    seats-each settled_so (settled_eject pick.New) s (each_value (settled_eject pick.New) s.node.ejects) refl (λ u e x. x) h

seats-unsynced : (s : Site) → SeatsIn settled_so s → SeatsIn settled_so (unsynced s)
seats-unsynced s h = seats-on_node settled_so (λ it. record it { synced = false }) s refl h

-- those who wait for the first request
abbrev LooseFor : Site → StoreRequest → Type 0
LooseFor s r = (p : ℕ) → r.process ≡ Some p → LooseAt s r.uid p

loose-first : (s : Site) (r : StoreRequest) → OfSite s → SoundSite s → first s.node.requests ≡ Some r → LooseFor s r
loose-first s r of_site sound is p at it has =
    let fit = sound.fits r.uid (of_site r.uid (part-there s r.uid it has)) in
    loose-waits (active_in (eject_in s r.uid)) p (fit.stores p (omega (
      arith,
      ap (at_store r.uid p) (first-is s.node.requests r is) ∙ at-own r p (rest s.node.requests) at,
    ))) it has

loose-node : (f : Node → Node) (s : Site) (r : StoreRequest) → (f s.node).ejects ≡ s.node.ejects → LooseFor s r → LooseFor (on_node f s) r
unfolding on_node
loose-node f s r same loose p at it has = loose p at it (ap (λ es. active_in (value_at uid_cmp r.uid es)) (sym same) ∙ has)

loose-aside : (v : Uid) (f : Eject → Eject) (s : Site) (r : StoreRequest) → ((e : Eject) → (f e).active ≡ e.active) → LooseFor s r
    → LooseFor (on_eject v f s) r
loose-aside v f s r same loose p at it has = loose p at it (sym (go (eq_by_cmp uid_cmp r.uid v) (eject_in s r.uid))
    ∙ ap active_in (sym (eject-on_eject v r.uid f s)) ∙ has)
  where
    go : (b : Bool) (o : Option Eject) → active_in (cond b (option_map f o) o) ≡ active_in o
    go true None = refl
    go true (Some e) = same e
    go false o = refl

seats-request_ended : (r : StoreRequest) (why : Status) (s : Site) → LooseFor s r → SeatsIn settled_so s
    → SeatsIn settled_so (request_ended r why s)
seats-request_ended r why s loose h = go r.process refl
  where
    mid : Site
    mid = on_node (λ it. record it { requests = rest it.requests }) s

    seats-mid : SeatsIn settled_so mid
    seats-mid = seats-on_node settled_so (λ it. record it { requests = rest it.requests }) s refl h

    go : (p : Option ℕ) → r.process ≡ p → SeatsIn settled_so (tells_code r.uid p why mid)
    go None at = seats-mid
    go (Some p) at = seats-tells settled_so r.uid p (Code why) mid
        (loose-node (λ it. record it { requests = rest it.requests }) s r refl loose p at) seats-mid

seats-done : (r : StoreRequest) (s : Site) → LooseFor s r → SeatsIn settled_so s → SeatsIn settled_so (done r s)
seats-done r s loose h = go r.change (seats-request_ended r status.Ok s loose h)
  where
    go : (c : EjectChange) → SeatsIn settled_so (request_ended r status.Ok s)
        → SeatsIn settled_so (removed c r.uid (request_ended r status.Ok s))
    go (body bytes) x = x
    go removal x = seats-turned_away settled_so r.uid status.Gone (deactivated r.uid (request_ended r status.Ok s))
        (seats-deactivated settled_so r.uid (request_ended r status.Ok s) x)

seats-doubted : (r : StoreRequest) (s : Site) → SeatsIn settled_so s → SeatsIn settled_so (doubted r s)
seats-doubted r s h = seats-on_eject settled_so r.uid (λ e. record e { doubt = Some r.change }) s (λ e at x. x) h

seats-stored : (r : StoreRequest) (s : Site) → SeatsIn settled_so s → SeatsIn settled_so (stored r s)
seats-stored r s h = seats-on_node settled_so (λ it. record it { ledger = written_with s.layout r.change it.ledger })
    (on_eject r.uid (λ e. record e { kept = kept_of r.change; doubt = None }) s) refl
    (seats-on_eject settled_so r.uid (λ e. record e { kept = kept_of r.change; doubt = None }) s (λ e at x. x) h)

seats-worked : (w : Work) (r : StoreRequest) (how : RequestEnd) (p : Option Pick) (s : Site) → LooseFor s r → SeatsIn settled_so s
    → SeatsIn settled_so (worked w r how p s)
seats-worked syncs r end.Part p s loose h = seats-on_node settled_so (λ it. record it { synced = true }) s refl h
seats-worked syncs r end.Done p s loose h = h
seats-worked syncs r end.Full p s loose h = h
seats-worked syncs r end.Fault p s loose h = seats-request_ended r status.StoreFault (unsynced s)
    (loose-node (λ it. record it { synced = false }) s r refl loose) (seats-unsynced s h)
seats-worked syncs r end.Stop p s loose h = seats-crashed s h
seats-worked reads r end.Part p s loose h = seats-settled p s h
seats-worked reads r end.Done p s loose h = h
seats-worked reads r end.Full p s loose h = h
seats-worked reads r end.Fault p s loose h = seats-request_ended r status.StoreFault (unsynced s)
    (loose-node (λ it. record it { synced = false }) s r refl loose) (seats-unsynced s h)
seats-worked reads r end.Stop p s loose h = seats-crashed s h
seats-worked unkept r how p s loose h = seats-done r s loose h
seats-worked without_room r how p s loose h = seats-request_ended r status.Full s loose h
seats-worked calls r end.Part p s loose h =
    seats-on_node settled_so (λ it. record it { requests = more_made it.requests }) (doubted r s) refl (seats-doubted r s h)
seats-worked calls r end.Done p s loose h = seats-done r (stored r s)
    (loose-node (λ it. record it { ledger = written_with s.layout r.change it.ledger })
    (on_eject r.uid (λ e. record e { kept = kept_of r.change; doubt = None }) s) r refl
    (loose-aside r.uid (λ e. record e { kept = kept_of r.change; doubt = None }) s r (λ e. refl) loose)) (seats-stored r s h)
seats-worked calls r end.Full p s loose h = h
seats-worked calls r end.Fault p s loose h = seats-request_ended r status.StoreFault (doubted r s)
    (loose-aside r.uid (λ e. record e { doubt = Some r.change }) s r (λ e. refl) loose) (seats-doubted r s h)
seats-worked calls r end.Stop p s loose h = seats-crashed (doubted r s) (seats-doubted r s h)

seats-store_turn : (how : RequestEnd) (p : Option Pick) (s : Site) → OfSite s → SoundSite s → SeatsIn settled_so s
    → SeatsIn settled_so (store_turn how p s)
seats-store_turn how p s of_site sound h = seats-item settled_so s (first_request s.node) _ (λ r is.
    seats-worked (work_of s r) r how p s (loose-first s r of_site sound is) h) h

-- 8. Activations and boots

seats-activated : (v : Uid) (how : StartEnd) (s : Site) → SeatsIn settled_so s → SeatsIn settled_so (activated v how s)
seats-activated v start_end.Ok s h = seats-item settled_so s (eject_in s v) _ (λ e is. seats-item settled_so s e.kept _ (λ bytes is_b.
    seats-item settled_so s (start_of s.types bytes v) _ (λ start is_s. seats-on_traffic settled_so (misfits_answered start.0 e.queued) _
    (seats-on_eject settled_so v _ s (λ old at x. part-fresh (settled_so v) start.0 (values_from start.0 start.1) (λ q. refl)) h)) h) h) h
seats-activated v start_end.Gone s h = seats-turned_away settled_so v status.Gone s h
seats-activated v start_end.Fault s h = seats-turned_away settled_so v status.StoreFault s h
seats-activated v start_end.Damaged s h = seats-turned_away settled_so v status.Damaged s h
seats-activated v start_end.Stop s h = seats-crashed s h

seats-activation : (v : Uid) (how : StartEnd) (p : Option Pick) (s : Site) → SeatsIn settled_so s
    → SeatsIn settled_so (activation_turn v how p s)
seats-activation v how p s h = seats-activated v how (start_settled p s) (seats-cond settled_so (to_settle s) (settled p (unsynced s)) s
    (seats-settled p (unsynced s) (seats-unsynced s h)) h)

pub seats-boot : (e : ℕ) (how : BootEnd) (p : Option Pick) (began : Bool) (s : Site) → SeatsIn settled_so s
    → SeatsIn settled_so (boot_turn e how p began s)
seats-boot e how p began s h =
    seats-on_node settled_so (booted_node s e how began) (settled p s) (ejects how (settled p s).node) (seats-settled p s h)
  where
    ejects : (how : BootEnd) (it : Node) → (booted_node s e how began it).ejects ≡ it.ejects
    ejects boot_end.Up it = refl
    ejects boot_end.DiskFault it = refl
    ejects boot_end.Stop it = refl
    ejects (boot_end.Damaged place) it = refl
    ejects boot_end.EpochsSpent it = refl
    ejects boot_end.Full it = refl

-- 9. Every turn

-- each turn of a process moves it so
abbrev pub AllStep : Site → Type 0
AllStep s =
    (v : Uid) (p : ℕ) (e : Eject) → eject_in s v ≡ Some e → (it : Active) → e.active ≡ Some it → (t : Turned) → turn_of v it p ≡ Some t
    → Steps it.kind t.effect (inside_at it.tasks p) (inside_rest t.rest)

number-on_eject : (v : Uid) (f : Eject → Eject) (s : Site) → (on_eject v f s).number ≡ s.number
unfolding on_eject
number-on_eject v f s = refl

seats-process_turn : (reach : ℕ → Bool) (v : Uid) (p : ℕ) (said : Shown) (s : Site)
    → IsActiveAnd s v (λ e it. IsSomeAnd (worker_at it p) (λ q. AllowsTurn s v p said it q)) → OfSite s → SoundSite s → AllStep s
    → ((f : Eject → Eject) → IsNew (on_eject v f s)) → SeatsIn settled_so s → SeatsIn settled_so (process_turn reach v p s)
seats-process_turn reach v p said s allowed of_site sound steps new h = seats-item settled_so s (eject_in s v) _ (λ e is.
    seats-item settled_so s e.active _ (λ it is_it. seats-item settled_so s (turn_of v it p) _ (λ t is_t. go e is it is_it t is_t) h) h) h
  where
    runs : (it : Active) (o : Option Worker) → value_at nat_cmp p it.crew.processes ≡ o → IsSomeAnd o (λ q. AllowsTurn s v p said it q)
        → Runs it.crew p
    runs it None at a = absurd a
    runs it (Some q) at a = ap (option_map (λ (x : Worker). x.waits)) at ∙ ap Some a.ready

    allowed-at : (e : Eject) → eject_in s v ≡ Some e → (it : Active) → e.active ≡ Some it
        → IsSomeAnd (worker_at it p) (λ q. AllowsTurn s v p said it q)
    allowed-at e is it is_it = subst (λ o. IsSomeAnd o (λ x. IsSomeAnd (worker_at x p) (λ q. AllowsTurn s v p said x q))) is_it
        (subst (λ o. IsSomeAnd o (λ y. IsSomeAnd y.active (λ x. IsSomeAnd (worker_at x p) (λ q. AllowsTurn s v p said x q)))) is allowed)

    -- the process has a task, since it takes a turn
    now : (it : Active) (t : Turned) → turn_of v it p ≡ Some t → inside_at (turned p t it).tasks p ≡ inside_rest t.rest
    now it t is_t = by (value_at nat_cmp p it.tasks) refl is_t
      where
        by : (o : Option Task) → value_at nat_cmp p it.tasks ≡ o
            → with_item o (λ x. Some (turn it.kind it.vars x.rest x.answer v)) None ≡ Some t
            → inside_at (turned p t it).tasks p ≡ inside_rest t.rest
        by None at is = absurd (cc is)
        by (Some x) at is = inside-now p (λ old. record { rest = t.rest; answer = Go }) it.tasks x at

    go : (e : Eject) → eject_in s v ≡ Some e → (it : Active) → e.active ≡ Some it → (t : Turned) → turn_of v it p ≡ Some t
        → SeatsIn settled_so (effected reach v p (serving it p) it.kind t.vars t.effect (on_eject v (on_active (turned p t)) s))
    go e is it is_it t is_t =
        let here : v.node ≡ s.number = of_site v (ap is_some is) in
        let mid : Site = on_eject v (on_active (turned p t)) s in
        let laid : IsLaid it.crew = subst (λ o. IfSome o (λ x. IsLaid x.crew)) (ap active_in is ∙ is_it) (sound.fits v here).laid in
        seats-effected v p mid (on_active (turned p t) e) (turned p t it) (inside_at it.tasks p) (inside_rest t.rest)
        (here ∙ sym (number-on_eject v (on_active (turned p t)) s)) (eject-here v (on_active (turned p t)) s e is) (rw is_it refl)
        (now it t is_t)
        laid.lines (runs it (value_at nat_cmp p it.crew.processes) refl (allowed-at e is it is_it)) reach
        (serving it p) it.kind t.vars t.effect refl
        (steps v p e is it is_it t is_t) (new (on_active (turned p t))) (seats-turned v p t s e it is is_it h)

pub seats-site_turn : (reach : ℕ → Bool) (e : Event) (s : Site) → AllowsAt s e → OfSite s → SoundSite s → AllStep s
    → ((v : Uid) (f : Eject → Eject) → IsNew (on_eject v f s)) → SeatsIn settled_so s → SeatsIn settled_so (site_turn reach e s)
seats-site_turn reach (event.Request k a b refused) s allowed of_site sound steps new h = seats-requested k refused s h
seats-site_turn reach (event.Reply k a b name why values) s allowed of_site sound steps new h = seats-heard k why values s of_site sound h
seats-site_turn reach (event.Activate v how p) s allowed of_site sound steps new h = seats-activation v how p s h
seats-site_turn reach (event.Start k v p) s allowed of_site sound steps new h = seats-start v k p s allowed h
seats-site_turn reach (event.Process v p said) s allowed of_site sound steps new h =
    seats-process_turn reach v p said s allowed of_site sound steps (new v) h
seats-site_turn reach (event.Store v c how p) s allowed of_site sound steps new h = seats-store_turn how p s of_site sound h
seats-site_turn reach (event.Boot n e how p began) s allowed of_site sound steps new h = seats-boot e how p began s h
seats-site_turn reach (event.Crash n) s allowed of_site sound steps new h = seats-crashed s h
seats-site_turn reach _ s allowed of_site sound steps new h = absurd allowed
