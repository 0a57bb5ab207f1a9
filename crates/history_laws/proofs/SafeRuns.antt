-- In every history that a script begins with, no other Ejects are rolled back.
use Rattle.std.proofs.Common.{◌≡◌, inl, inr, ◌==◌, ℕ, Bool, true, false, cond, List, [], ◌∷◌, Option, None, Some, is_some, refl, ◌∙◌, ap}
use Rattle.std.specs.Option.{option_map}
use Rattle.std.specs.Ordering.{nat_cmp, eq_by_cmp}
use Rattle.std.specs.Cmp.{nat_cmp_total}
use Rattle.std.specs.FinMap.{nat_cmp-IsAntisymmetric}
use Rattle.std.proofs.lemmas.Bool.Decides.{eqb_tells}
use Rattle.capability.specs.declared.Uid.{Uid}
use Rattle.eden_value.specs.declared.status.Status.TheVariants as status
use Rattle.eden_model.specs.Map.{with_item, uid_cmp, value_at, changed_at}
use Rattle.eden_model.specs.Traffic.{processes_of, broken_by_node}
use Rattle.eden_model.proofs.Laws.{value-changed}
use Rattle.epl_syntax.specs.declared.effect.Answer.TheVariants.{Reply as Told}
use Rattle.journal.specs.declared.command.Command.{Command}
use Rattle.journal.specs.declared.event.Key.{Key}
use Rattle.journal.specs.declared.event.Event.{Event}
use Rattle.journal.specs.declared.event.Event.TheVariants as event
use Rattle.journal.specs.declared.event.StartEnd.TheVariants as start_end
use Rattle.journal.specs.declared.event.RequestEnd.TheVariants as end
use Rattle.journal.specs.declared.event.Entry.{Entry}
use Rattle.journal.specs.World.{World, Site, Node, Eject, Active, node_at, at_node}
use Rattle.journal.specs.Ejects.{on_active, told, tells}
use Rattle.journal.specs.Crashes.{tells_each}
use Rattle.journal.specs.Step.{AllowsInTurn, AllowsEvent, Allows, next, after_turn, after_command, happened, at_site, stopped_at}
use Rattle.journal.specs.Step.{site_turn, counted, clocked, key_of}
use Rattle.journal.specs.Kept.{crashes}
use Rattle.journal.specs.LegalRun.{NoneRolledBack}
use Rattle.journal.specs.World.{is_active_at}
use Rattle.journal.specs.World.{reaches}
use Rattle.journal.specs.Run.{beginning, looked_up, Leads, EachStep, steps}
use Rattle.history_laws.proofs.Frame.{node-at_node, node-at_other, eject-on_eject, after_at}
use Rattle.history_laws.proofs.NoneRolledBack.{none-rolled-back, with_clock}
use Rattle.history_laws.proofs.Runs.{Any, of-any, each-step, nodes-looked_up}

-- 1. A crash takes no active part from an Eject of another node

abbrev active_of : Option Eject → Bool
active_of o = with_item o (λ e. is_some e.active) false

abbrev active_via : Uid → Option Node → Bool
active_via u o = active_of (with_item o (λ it. value_at uid_cmp u it.ejects) None)

active-on_active : (f : Active → Active) (e : Eject) → is_some (on_active f e).active ≡ is_some e.active
active-on_active f e = go e.active refl
  where
    go : (o : Option Active) → e.active ≡ o → is_some (on_active f e).active ≡ is_some e.active
    go None is = rw is refl
    go (Some it) is = rw is refl

active-changed : (b : Bool) (f : Active → Active) (o : Option Eject) → active_of (cond b (option_map (on_active f) o) o) ≡ active_of o
active-changed true f None = refl
active-changed true f (Some e) = active-on_active f e
active-changed false f o = refl

active-tells : (u v : Uid) (p : ℕ) (w : World) → is_active_at (at_node v.node (tells v p (Told status.Broken [])) w) u ≡ is_active_at w u
active-tells u v p w = ap (active_via u) (node-at_node u.node v.node (tells v p (Told status.Broken [])) w) ∙ go
    (eq_by_cmp nat_cmp u.node v.node) (node_at w u.node)
  where
    one : (it : Node) → active_via u (Some (after_at v.node (tells v p (Told status.Broken [])) w it)) ≡ active_via u (Some it)
    one it = ap active_of (eject-on_eject v u (on_active (told p (Told status.Broken []))) _) ∙ active-changed (eq_by_cmp uid_cmp u v)
        (told p (Told status.Broken [])) (value_at uid_cmp u it.ejects)

    go : (b : Bool) (o : Option Node) → active_via u (cond b (option_map (after_at v.node (tells v p (Told status.Broken [])) w) o) o)
        ≡ active_via u o
    go true None = refl
    go true (Some it) = one it
    go false o = refl

active-tells_each : (qs : List (Uid × ℕ)) (w : World) (u : Uid) → is_active_at (tells_each qs w) u ≡ is_active_at w u
active-tells_each [] w u = refl
active-tells_each (q ∷ qs) w u = active-tells_each qs (at_node q.0.node (tells q.0 q.1 (Told status.Broken [])) w) u
    ∙ active-tells u q.0 q.1 w

active-elsewhere : (n : ℕ) (f : Site → Site) (w : World) (u : Uid) → (u.node == n) ≡ false
    → is_active_at (at_node n f w) u ≡ is_active_at w u
active-elsewhere n f w u h = ap (active_via u) (node-at_other u.node n f w h)

active-stopped : (w : World) (n : ℕ) (e : Event) (u : Uid) → (u.node == n) ≡ false → is_active_at (stopped_at w n e) u ≡ is_active_at w u
active-stopped w n e u h = active-tells_each (processes_of (broken_by_node n) w.traffic) (at_site w n e) u ∙ active-elsewhere n
    (site_turn (reaches w n) e) w u h

pub same-number : (m n : ℕ) → (m == n) ≡ true → m ≡ n
same-number m n h = elim (eqb_tells m n) [ inl p ↦ p.1 | inr p ↦ absurd (cc (h, p.0)) ]

moved : (m n : ℕ) (u : Uid) → (m == n) ≡ true → (u.node == n) ≡ false → (u.node == m) ≡ false
moved m n u is h = rw (same-number m n is) h

false-true : {A : Type 0} → false ≡ true → A
false-true e = absurd (cc)

active-turn : (w : World) (e : Event) (n : ℕ) (u : Uid) → AllowsInTurn w e → crashes n e ≡ true → (u.node == n) ≡ false
    → is_active_at (after_turn w e) u ≡ is_active_at w u
active-turn w (event.Crash m) n u allowed is h = absurd allowed
active-turn w (event.Activate v start_end.Stop p) n u allowed is h = active-stopped w v.node (event.Activate v start_end.Stop p) u
    (moved v.node n u is h)
active-turn w (event.Store v clock end.Stop p) n u allowed is h = active-stopped w v.node (event.Store v clock end.Stop p) u
    (moved v.node n u is h)
active-turn w _ n u allowed is h = false-true is

active-command : (w : World) (c : Command) (e : Event) (n : ℕ) (u : Uid) → crashes n e ≡ true → (u.node == n) ≡ false
    → is_active_at (after_command w c e) u ≡ is_active_at w u
active-command w c (event.Crash m) n u is h = active-stopped w m (event.Crash m) u (moved m n u is h)
active-command w c (event.Activate v start_end.Stop p) n u is h = refl
active-command w c (event.Store v clock end.Stop p) n u is h = refl
active-command w c _ n u is h = false-true is

active-happened : (w : World) (c : Option Command) (e : Event) (n : ℕ) (u : Uid) → AllowsEvent w c e → crashes n e ≡ true
    → (u.node == n) ≡ false → is_active_at (happened w c e) u ≡ is_active_at w u
active-happened w None e n u allowed is h = active-turn w e n u allowed is h
active-happened w (Some c) e n u allowed is h = active-command w c e n u is h

active-counted : (k : Option Key) (w : World) (u : Uid) → is_active_at (counted k w) u ≡ is_active_at w u
active-counted None w u = refl
active-counted (Some k) w u = refl

active-clocked : (n c : ℕ) (w : World) (u : Uid) → is_active_at (clocked n c w) u ≡ is_active_at w u
active-clocked n c w u = elim (n == 0) as
    (λ b. active_via u (value_at nat_cmp u.node (cond b w.nodes (changed_at nat_cmp n (with_clock c) w.nodes))) ≡ active_via u
    (node_at w u.node)) [
      | true ↦ refl
      | false ↦ ap (active_via u) (value-changed nat_cmp nat_cmp_total nat_cmp-IsAntisymmetric u.node n (with_clock c) w.nodes) ∙ same
          (eq_by_cmp nat_cmp u.node n) (node_at w u.node)
    ]
  where
    same : (b : Bool) (o : Option Node) → active_via u (cond b (option_map (with_clock c) o) o) ≡ active_via u o
    same true None = refl
    same true (Some it) = refl
    same false o = refl

-- 2. A step

stepped : (w : World) (c : Option Command) (e : Entry) → Allows w c e → NoneRolledBack (record { world = w; entry = e; later = next w c e })
stepped w c e allowed = record {
  kept = λ u. none-rolled-back w c e u allowed;
  active = λ n u is h. active-counted (key_of e.event) (clocked e.node e.clock (happened w c e.event)) u
      ∙ active-clocked e.node e.clock (happened w c e.event) u ∙ active-happened w c e.event n u allowed.event is h;
}

same-nodes : (w later : World) (e : Entry) → later.nodes ≡ w.nodes → NoneRolledBack (record { world = w; entry = e; later = later })
same-nodes w later e h = record {
  kept = λ u. inl (ap (λ ns. with_item (with_item (value_at nat_cmp u.node ns) (λ it. value_at uid_cmp u it.ejects) None)
      (λ e. e.kept) None) h);
  active = λ n u is other. ap (λ ns. active_via u (value_at nat_cmp u.node ns)) h;
}

-- 3. Every history

pub each-none-rolled-back : (w : World) (nodes : ℕ) (cs : List Command) (history : List Entry) → Leads (beginning w nodes cs) history
    → EachStep (λ past s. NoneRolledBack s) [] (steps (beginning w nodes cs) history)
each-none-rolled-back w nodes cs history leads = each-step Any (λ past w. Unit {0}) (λ past s. NoneRolledBack s) (record {
  entries = λ past w c e any allowed i. (stepped w c e allowed, tt);
  look_ups = λ past w name target path e any allowed plain i.
      (same-nodes w (looked_up w name target path e.event) e (nodes-looked_up w name target path e.event), tt);
}) (beginning w nodes cs) [] history (of-any 1 nodes w cs) tt leads
