-- What a change of an Eject, the turn of a process, a clock and a count of turns do to the Ejects of a site and of a world.
use Rattle.std.proofs.Common.{◌≡◌, ℕ, ◌==◌, nat_le, Bool, true, false, cond, List, length, Option, None, Some, refl, ap, ap₂, ◌∙◌}
use Rattle.std.specs.Prelude.{not}
use Rattle.std.specs.List.{filter}
use Rattle.std.specs.Option.{option_map}
use Rattle.std.specs.Ordering.{nat_cmp, eq_by_cmp}
use Rattle.std.specs.Cmp.{nat_cmp_total}
use Rattle.std.specs.FinMap.{nat_cmp-IsAntisymmetric}
use Rattle.std.proofs.lemmas.Cmp.{tied_itself}
use Rattle.capability.specs.declared.Uid.{Uid}
use Rattle.capability.proofs.Uids.{uid_cmp_total}
use Rattle.eden_model.specs.Map.{with_item, value_at, changed_at, uid_cmp}
use Rattle.eden_model.proofs.Laws.{value-changed}
use Rattle.capability.specs.declared.TheConstants.{BODY_LIMIT}
use Rattle.capability.specs.declared.Cap.{Cap}
use Rattle.eden_value.specs.Datum.{Datum}
use Rattle.eden_value.specs.declared.status.Status.{Status}
use Rattle.eden_value.specs.declared.status.Status.TheVariants as status
use Rattle.eden_codec.specs.Spelling.{spelling}
use Rattle.eden_model.specs.Crew.{outside, set_waits}
use Rattle.eden_model.specs.declared.Asker.TheVariants.{Eject as Process}
use Rattle.eden_model.specs.Traffic.{Call, call_at, next_call, with_call}
use Rattle.epl_syntax.specs.declared.effect.Answer.TheVariants.{Code}
use Rattle.epl_syntax.specs.declared.effect.Effect.{Effect}
use Rattle.epl_syntax.specs.declared.effect.Effect.TheVariants as effect
use Rattle.epl_syntax.specs.Meaning.{Turned, rep_of}
use Rattle.journal.specs.EjectChange.{body}
use Rattle.journal.specs.declared.command.Command.{Command}
use Rattle.journal.specs.declared.event.Event.TheVariants as event
use Rattle.journal.specs.declared.event.Entry.{Entry}
use Rattle.journal.specs.declared.event.Shown.{Shown}
use Rattle.journal.specs.declared.event.Key.{Key}
use Rattle.journal.specs.World.{World, Site, Node, Eject, Active, node_at, eject_at, site_of, eject_in, on_eject, on_node, reaches}
use Rattle.journal.specs.Ejects.{on_active, on_crew, told, tells}
use Rattle.journal.specs.Processes.{turn_of, turned, serving, effected, active_turn, turn_taken, process_turn, without_process}
use Rattle.journal.specs.Processes.{asks_store, answers, refused_at_once, waits_or_told, with_start}
use Rattle.journal.specs.Step.{clocked, counted, key_of, happened, site_turn, next}
use Rattle.history_laws.proofs.Frame.{eject-on_eject, eject-on_traffic, node-at_same, after_at}
use Rattle.history_laws.proofs.NoneRolledBack.{with_clock}

-- a change of an Eject changes just that
pub eject-own : (u : Uid) (f : Eject → Eject) (s : Site) → eject_in (on_eject u f s) u ≡ option_map f (eject_in s u)
eject-own u f s = eject-on_eject u u f s ∙ rw (tied_itself uid_cmp_total u) refl

pub turn-is : (reach : ℕ → Bool) (v : Uid) (p : ℕ) (s : Site) (y : Eject) (a : Active) (t : Turned) → eject_in s v ≡ Some y
    → y.active ≡ Some a
    → turn_of v a p ≡ Some t
    → process_turn reach v p s ≡ effected reach v p (serving a p) a.kind t.vars t.effect (on_eject v (on_active (turned p t)) s)
turn-is reach v p s y a t is some turns = ap
    (λ o. with_item o (λ (e : Eject). with_item e.active (λ it. active_turn reach v p it s) s) s) is
    ∙ ap (λ o. with_item o (λ it. active_turn reach v p it s) s) some
    ∙ ap (λ o. with_item o (λ t. turn_taken reach v p a t s) s) turns

-- and none of the types
pub types-on : (v : Uid) (f : Eject → Eject) (s : Site) → (on_eject v f s).types ≡ s.types
unfolding on_eject
types-on v f s = refl

pub eject-clocked : (u : Uid) (v : World) (n clock : ℕ) → eject_at (clocked n clock v) u ≡ eject_at v u
eject-clocked u v n clock = go (n == 0)
  where
    same : (b : Bool) (o : Option Node) → with_item (cond b (option_map (with_clock clock) o) o)
        (λ (it : Node). value_at uid_cmp u it.ejects) None
        ≡ with_item o (λ (it : Node). value_at uid_cmp u it.ejects) None
    same true None = refl
    same true (Some it) = refl
    same false o = refl

    go : (b : Bool) → eject_at (record v { nodes = cond b v.nodes (changed_at nat_cmp n (with_clock clock) v.nodes) }) u ≡ eject_at v u
    go true = refl
    go false = ap (λ o. with_item o (λ (it : Node). value_at uid_cmp u it.ejects) None)
        (value-changed nat_cmp nat_cmp_total nat_cmp-IsAntisymmetric u.node n (with_clock clock) v.nodes)
        ∙ same (eq_by_cmp nat_cmp u.node n) (node_at v u.node)

pub eject-counted : (u : Uid) (v : World) (o : Option Key) → eject_at (counted o v) u ≡ eject_at v u
eject-counted u v None = refl
eject-counted u v (Some k) = refl

-- the Eject behind its own turn
pub own-later : (w : World) (c : Option Command) (e : Entry) (u : Uid) (p : ℕ) (said : Shown) (nd : Node) → c ≡ None
    → e.event ≡ event.Process u p said → node_at w u.node ≡ Some nd
    → eject_at (next w c e) u ≡ eject_in (process_turn (reaches w u.node) u p (site_of w u.node nd)) u
own-later w c e u p said nd none is at = eject-counted u (clocked e.node e.clock (happened w c e.event)) (key_of e.event)
    ∙ eject-clocked u (happened w c e.event) e.node e.clock
    ∙ ap₂ (λ o ev. eject_at (happened w o ev) u) none is
    ∙ ap (λ o. with_item o (λ (it : Node). value_at uid_cmp u it.ejects) None)
    (node-at_same u.node (site_turn (reaches w u.node) (event.Process u p said)) w
    ∙ ap (option_map (after_at u.node (site_turn (reaches w u.node) (event.Process u p said)) w)) at)

-- and as it starts to serve a call
pub own-started : (w : World) (c : Option Command) (e : Entry) (u : Uid) (k p : ℕ) (nd : Node) (d : Call) → c ≡ None
    → e.event ≡ event.Start k u p → node_at w u.node ≡ Some nd → call_at w.traffic k ≡ Some d
    → eject_at (next w c e) u ≡ option_map
    (λ y. record (on_active (with_start w.traffic k p d) y) { queued = filter (λ j. not (j == k)) y.queued }) (value_at uid_cmp u nd.ejects)
own-started w c e u k p nd d none is at at_d = eject-counted u (clocked e.node e.clock (happened w c e.event)) (key_of e.event)
    ∙ eject-clocked u (happened w c e.event) e.node e.clock
    ∙ ap₂ (λ o ev. eject_at (happened w o ev) u) none is
    ∙ ap (λ o. with_item o (λ (it : Node). value_at uid_cmp u it.ejects) None)
    (node-at_same u.node (site_turn (reaches w u.node) (event.Start k u p)) w
    ∙ ap (option_map (after_at u.node (site_turn (reaches w u.node) (event.Start k u p)) w)) at)
    ∙ ap (λ o. eject_in (with_item o (λ c. on_eject u (changed c) (site_of w u.node nd)) (site_of w u.node nd)) u) at_d
    ∙ eject-own u (changed d) (site_of w u.node nd)
  where
    changed : Call → Eject → Eject
    changed c y = record (on_active (with_start w.traffic k p c) y) { queued = filter (λ j. not (j == k)) y.queued }

-- behind its own turn by its effect: the process has ended, or waits, or is told something at once
pub data AfterTurn (p : ℕ) (t : Turned) (y : Eject) : Effect → Eject → Type 0 where
  has_ended : (results : List Datum) → AfterTurn p t y (effect.Return results) (on_active (without_process p) (on_active (turned p t) y))
  saves_it : AfterTurn p t y effect.Checkpoint (on_active (on_crew (set_waits p outside)) (on_active (turned p t) y))
  too_large : AfterTurn p t y effect.Checkpoint (on_active (told p (Code status.TooLarge)) (on_active (turned p t) y))
  has_asked : (target : Cap) (operation : List ℕ) (args : List Datum) (at_once : Option Status)
      → AfterTurn p t y (effect.Invoke target operation args) (on_active (waits_or_told p at_once) (on_active (turned p t) y))

-- the effects of native types that take part in streams
abbrev pub IsOfStream : Effect → Type 0
IsOfStream (effect.Return results) = Unit {0}
IsOfStream effect.Checkpoint = Unit {0}
IsOfStream (effect.Invoke target operation args) = Unit {0}
IsOfStream _ = ⊥

pub own-after : (w : World) (c : Option Command) (e : Entry) (u : Uid) (p : ℕ) (said : Shown) (nd : Node) (y : Eject) (a : Active)
    (t : Turned)
    → c ≡ None → e.event ≡ event.Process u p said → node_at w u.node ≡ Some nd → value_at uid_cmp u nd.ejects ≡ Some y → y.active ≡ Some a
    → turn_of u a p ≡ Some t → IsOfStream t.effect
    → (now : Eject) × (eject_at (next w c e) u ≡ Some now) × AfterTurn p t y t.effect now
unfolding on_node
own-after w c e u p said nd y a t none is at is_y some turns of_stream = go t.effect refl of_stream
  where
    mid : Site
    mid = on_eject u (on_active (turned p t)) (site_of w u.node nd)

    there : eject_in mid u ≡ Some (on_active (turned p t) y)
    there = eject-own u (on_active (turned p t)) (site_of w u.node nd) ∙ ap (option_map (on_active (turned p t))) is_y

    again : (f : Active → Active) → eject_in (on_eject u (on_active f) mid) u ≡ Some (on_active f (on_active (turned p t) y))
    again f = eject-own u (on_active f) mid ∙ ap (option_map (on_active f)) there

    by : (eff : Effect) → t.effect ≡ eff
        → eject_at (next w c e) u ≡ eject_in (effected (reaches w u.node) u p (serving a p) a.kind t.vars eff mid) u
    by eff eq = own-later w c e u p said nd none is at
        ∙ ap (λ (z : Site). eject_in z u) (turn-is (reaches w u.node) u p (site_of w u.node nd) y a t is_y some turns)
        ∙ ap (λ x. eject_in (effected (reaches w u.node) u p (serving a p) a.kind t.vars x mid) u) eq

    saved : (b : Bool) → eject_at (next w c e) u ≡ eject_in (cond b (asks_store u p (body (spelling (rep_of a.kind t.vars))) mid)
        (tells u p (Code status.TooLarge) mid)) u
        → (now : Eject) × (eject_at (next w c e) u ≡ Some now) × AfterTurn p t y effect.Checkpoint now
    saved true eq = (_, eq ∙ again (on_crew (set_waits p outside)), saves_it)
    saved false eq = (_, eq ∙ again (told p (Code status.TooLarge)), too_large)

    go : (eff : Effect) → t.effect ≡ eff → IsOfStream eff → (now : Eject) × (eject_at (next w c e) u ≡ Some now) × AfterTurn p t y eff now
    go (effect.Return results) eq h = (
      _,
      by (effect.Return results) eq ∙ eject-on_traffic u (answers (serving a p) results) (on_eject u (on_active (without_process p)) mid)
          ∙ again (without_process p),
      has_ended results,
    )
    go effect.Checkpoint eq h = saved (nat_le (length (spelling (rep_of a.kind t.vars))) BODY_LIMIT) (by effect.Checkpoint eq)
    go (effect.Invoke target operation args) eq h = let at_once = refused_at_once (reaches w u.node target.uid.node) args in (
      _,
      by (effect.Invoke target operation args) eq
          ∙ eject-on_traffic u (λ t. with_call (next_call t) (Process u p) target operation args at_once t)
          (on_eject u (on_active (waits_or_told p at_once)) mid)
          ∙ again (waits_or_told p at_once),
      has_asked target operation args at_once,
    )
    go _ eq h = absurd h
