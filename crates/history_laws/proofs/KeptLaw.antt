-- What is kept of an Eject changes in no delivery, no start, no turn of a process and no crash.
use Rattle.std.proofs.Common.{◌≡◌, ℕ, Bool, true, false, cond, List, [], Option, None, Some, Result, Ok, Err, refl, ◌∙◌, ap, nat_le, length}
use Rattle.std.specs.Option.{option_map}
use Rattle.std.specs.Ordering.{eq_by_cmp}
use Rattle.std.specs.FinMap.Entries.{find-put}
use Rattle.capability.specs.declared.Uid.{Uid}
use Rattle.capability.specs.Capability.{full}
use Rattle.capability.specs.declared.TheConstants.{BODY_LIMIT}
use Rattle.eden_value.specs.Datum.{Datum}
use Rattle.eden_value.specs.declared.status.Status.{Status}
use Rattle.eden_value.specs.declared.status.Status.TheVariants as status
use Rattle.eden_codec.specs.Spelling.{spelling}
use Rattle.eden_model.specs.Map.{with_item, uid_cmp, value_at}
use Rattle.eden_model.specs.Traffic.{Traffic, all_replied, orphaned, next_call, with_call}
use Rattle.eden_model.specs.declared.Asker.TheVariants.{Eject as Process}
use Rattle.eden_model.specs.Crew.{Invocation, outside, set_waits, locked, left, waited, signalled, running}
use Rattle.capability.proofs.Uids.{uid_cmp_total, uid_cmp-IsAntisymmetric}
use Rattle.eden_model.proofs.Laws.{eq-same}
use Rattle.epl_syntax.specs.declared.effect.Answer.{Answer}
use Rattle.epl_syntax.specs.declared.effect.Answer.TheVariants.{Code, Created as Made}
use Rattle.epl_syntax.specs.declared.effect.Effect.{Effect}
use Rattle.epl_syntax.specs.declared.effect.Effect.TheVariants as effect
use Rattle.epl_syntax.specs.Edentype.{Edentype}
use Rattle.epl_syntax.specs.Meaning.{rep_of, type_of, first_values}
use Rattle.journal.specs.EjectChange.{EjectChange, body, removal}
use Rattle.journal.specs.World.{Site, Node, Eject, Active, eject_in, on_eject, on_node, on_traffic}
use Rattle.journal.specs.Ejects.{with_active, with_queued, on_active, on_crew, is_there, told, tells, without_requests, deactivated}
use Rattle.journal.specs.Ejects.{turned_away, gone_if_unkept, fresh, next_uid, newborn, born}
use Rattle.journal.specs.Processes.{turn_of, turned, serving, without_process, asks_store, answers, refused_at_once, waits_or_told}
use Rattle.journal.specs.Processes.{creates, checkpoints, effected, process_turn}
use Rattle.history_laws.proofs.Frame.{eject-on_eject}

abbrev pub kept_of_eject : Option Eject → Option (List ℕ)
kept_of_eject o = with_item o (λ e. e.kept) None

abbrev pub kept_in : Site → Uid → Option (List ℕ)
kept_in s u = kept_of_eject (eject_in s u)

-- 1. The primitives

pub with-kept : (b : Bool) (o : Option Eject) (f : Eject → Eject) → ((e : Eject) → (f e).kept ≡ e.kept)
    → kept_of_eject (cond b (option_map f o) o) ≡ kept_of_eject o
with-kept true None f same = refl
with-kept true (Some e) f same = same e
with-kept false o f same = refl

pub kept-on_eject : (u v : Uid) (f : Eject → Eject) → ((e : Eject) → (f e).kept ≡ e.kept) → (s : Site)
    → kept_in (on_eject v f s) u ≡ kept_in s u
kept-on_eject u v f same s = rw (eject-on_eject v u f s) (with-kept (eq_by_cmp uid_cmp u v) (eject_in s u) f same)

pub kept-on_traffic : (u : Uid) (f : Traffic → Traffic) (s : Site) → kept_in (on_traffic f s) u ≡ kept_in s u
unfolding on_traffic
kept-on_traffic u f s = refl

pub kept-on_node : (u : Uid) (f : Node → Node) → ((it : Node) → (f it).ejects ≡ it.ejects) → (s : Site)
    → kept_in (on_node f s) u ≡ kept_in s u
unfolding on_node
kept-on_node u f same s = ap (λ es. kept_of_eject (value_at uid_cmp u es)) (same s.node)

-- each case of an optional item
pub kept-item : {X : Type 0} (u : Uid) (s : Site) (o : Option X) (f : X → Site) → ((x : X) → kept_in (f x) u ≡ kept_in s u)
    → kept_in (with_item o f s) u ≡ kept_in s u
kept-item u s None f each = refl
kept-item u s (Some x) f each = each x

pub active-kept : (f : Active → Active) (e : Eject) → (on_active f e).kept ≡ e.kept
active-kept f e = go e.active
  where
    go : (o : Option Active) → (with_item o (λ it. with_active (Some (f it)) e) e).kept ≡ e.kept
    go None = refl
    go (Some it) = refl

pub kept-on_active : (u v : Uid) (f : Active → Active) (s : Site) → kept_in (on_eject v (on_active f) s) u ≡ kept_in s u
kept-on_active u v f s = kept-on_eject u v (on_active f) (active-kept f) s

-- 2. The parts of a turn

pub kept-tells : (u v : Uid) (p : ℕ) (a : Answer) (s : Site) → kept_in (tells v p a s) u ≡ kept_in s u
kept-tells u v p a s = kept-on_active u v (told p a) s

pub kept-turned_away : (u v : Uid) (why : Status) (s : Site) → kept_in (turned_away v why s) u ≡ kept_in s u
kept-turned_away u v why s = kept-item u s (eject_in s v) (λ e. on_traffic (all_replied why e.queued) (on_eject v (with_queued []) s))
    (λ e. kept-on_traffic u (all_replied why e.queued) (on_eject v (with_queued []) s) ∙ kept-on_eject u v (with_queued []) (λ e. refl) s)

pub kept-deactivated : (u v : Uid) (s : Site) → kept_in (deactivated v s) u ≡ kept_in s u
kept-deactivated u v s = kept-item u s (eject_in s v) (λ e. with_item e.active (without v s) s)
    (λ e. kept-item u s e.active (without v s) (λ it.
    kept-on_traffic u (λ t. all_replied status.Dropped (running it.crew) (orphaned v t))
    (on_eject v (with_active None) (on_node (without_requests v) s))
    ∙ kept-on_eject u v (with_active None) (λ e. refl) (on_node (without_requests v) s)
    ∙ kept-on_node u (without_requests v) (λ it. refl) s))
  where
    without : Uid → Site → Active → Site
    without v s it = on_traffic (λ t. all_replied status.Dropped (running it.crew) (orphaned v t))
        (on_eject v (with_active None) (on_node (without_requests v) s))

kept-gone : (u v : Uid) (s : Site) → kept_in (gone_if_unkept v s) u ≡ kept_in s u
kept-gone u v s = kept-item u s (eject_in s v) (λ e. cond (is_there e) s (turned_away v status.Gone s))
    (λ e. elim (is_there e) as (λ b. kept_in (cond b s (turned_away v status.Gone s)) u ≡ kept_in s u)
    [ true ↦ refl | false ↦ kept-turned_away u v status.Gone s ])

kept-asks : (u v : Uid) (p : ℕ) (c : EjectChange) (s : Site) → kept_in (asks_store v p c s) u ≡ kept_in s u
kept-asks u v p c s =
    kept-on_node u (λ it. record it { requests = _ }) (λ it. refl) (on_eject v (on_active (on_crew (set_waits p outside))) s)
    ∙ kept-on_active u v (on_crew (set_waits p outside)) s

pub kept-born : (u v : Uid) (it : Active) (s : Site) → kept_in (born v it s) u ≡ kept_in s u
unfolding on_node
kept-born u v it s = rw (find-put uid_cmp uid_cmp_total u v (with_item (eject_in s v) (with_active (Some it)) (newborn it)) s.node.ejects)
    (go (eq_by_cmp uid_cmp u v) refl)
  where
    same : (o : Option Eject) → kept_of_eject (Some (with_item o (with_active (Some it)) (newborn it))) ≡ kept_of_eject o
    same None = refl
    same (Some e) = refl

    go : (b : Bool) → eq_by_cmp uid_cmp u v ≡ b
        → kept_of_eject (cond b (Some (with_item (eject_in s v) (with_active (Some it)) (newborn it))) (eject_in s u)) ≡ kept_of_eject
        (eject_in s u)
    go true is = let e : u ≡ v = eq-same uid_cmp uid_cmp-IsAntisymmetric u v is in rw e (same (eject_in s v))
    go false is = refl

kept-creates : (u v : Uid) (p : ℕ) (t : Option Edentype) (made : Result Uid Status) (s : Site)
    → kept_in (creates v p t made s) u ≡ kept_in s u
kept-creates u v p None made s = refl
kept-creates u v p (Some t) (Ok new) s = kept-tells u v p (Made status.Ok (Some (full new))) (born new (fresh t (first_values t)) s)
    ∙ kept-born u new (fresh t (first_values t)) s
kept-creates u v p (Some t) (Err why) s = kept-tells u v p (Made why None) s

kept-checkpoints : (u v : Uid) (p : ℕ) (bytes : List ℕ) (s : Site) → kept_in (checkpoints v p bytes s) u ≡ kept_in s u
kept-checkpoints u v p bytes s = elim (nat_le (length bytes) BODY_LIMIT) as
    (λ b. kept_in (cond b (asks_store v p (body bytes) s) (tells v p (Code status.TooLarge) s)) u ≡ kept_in s u)
    [ true ↦ kept-asks u v p (body bytes) s | false ↦ kept-tells u v p (Code status.TooLarge) s ]

-- 3. A turn of a process

kept-effected : (reach : ℕ → Bool) (u v : Uid) (p : ℕ) (i : Option Invocation) (t : Edentype) (vars : List Datum) (e : Effect) (s : Site)
    → kept_in (effected reach v p i t vars e s) u ≡ kept_in s u
kept-effected reach u v p i t vars (effect.Return results) s = kept-on_traffic u (answers i results)
    (on_eject v (on_active (without_process p)) s) ∙ kept-on_active u v (without_process p) s
kept-effected reach u v p i t vars effect.End s = kept-on_active u v (without_process p) s
kept-effected reach u v p i t vars effect.Checkpoint s = kept-checkpoints u v p (spelling (rep_of t vars)) s
kept-effected reach u v p i t vars effect.Destroy s = kept-asks u v p removal s
kept-effected reach u v p i t vars effect.Deactivate s = kept-gone u v (deactivated v s) ∙ kept-deactivated u v s
kept-effected reach u v p i t vars (effect.Fault cause) s = kept-turned_away u v status.Dropped (deactivated v s) ∙ kept-deactivated u v s
kept-effected reach u v p i t vars (effect.Create type_name) s = kept-creates u v p (type_of s.types type_name) (next_uid s) s
kept-effected reach u v p i t vars (effect.Invoke target operation args) s = let at_once = refused_at_once (reach target.uid.node) args in
    kept-on_traffic u (λ t. with_call (next_call t) (Process v p) target operation args at_once t)
    (on_eject v (on_active (waits_or_told p at_once)) s)
    ∙ kept-on_active u v (waits_or_told p at_once) s
kept-effected reach u v p i t vars (effect.Lock m) s = kept-on_active u v (on_crew (locked p m)) s
kept-effected reach u v p i t vars (effect.Leave m) s = kept-on_active u v (on_crew (left m)) s
kept-effected reach u v p i t vars (effect.Wait c) s = kept-on_active u v (on_crew (waited p c)) s
kept-effected reach u v p i t vars (effect.Signal c) s = kept-on_active u v (on_crew (signalled c)) s
kept-effected reach u v p i t vars effect.Yield s = refl

-- a turn of a process keeps what is kept of every Eject
pub kept-process_turn : (reach : ℕ → Bool) (u v : Uid) (p : ℕ) (s : Site) → kept_in (process_turn reach v p s) u ≡ kept_in s u
kept-process_turn reach u v p s = kept-item u s (eject_in s v) _
    (λ e. kept-item u s e.active _ (λ it. kept-item u s (turn_of v it p) _ (λ t.
    kept-effected reach u v p (serving it p) it.kind t.vars t.effect (on_eject v (on_active (turned p t)) s) ∙ kept-on_active u v
    (turned p t) s)))
