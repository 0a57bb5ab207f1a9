-- No process asks a call at the station of the shell: no node has its number, 0.
use Rattle.std.proofs.Common.{◌≡◌, ℕ, Bool, true, false, List, [], Option, None, Some, is_some, inl, inr, refl, sym, ◌∙◌, ap, subst, arith}
use Rattle.std.specs.Prelude.{IsSomeAnd, ◌⊎◌}
use Rattle.capability.specs.declared.Cap.{Cap}
use Rattle.eden_model.specs.Traffic.{Traffic, Call, call_at}
use Rattle.passive_store.specs.Layout.{IsLayout}
use Rattle.passive_store.specs.Kept.{Layout}
use Rattle.journal.specs.declared.command.Command.{Command}
use Rattle.journal.specs.declared.command.Script.{Script}
use Rattle.journal.specs.declared.event.Event.{Event}
use Rattle.journal.specs.declared.event.Event.TheVariants as event
use Rattle.journal.specs.declared.event.Entry.{Entry}
use Rattle.journal.specs.World.{World, Node, node_at}
use Rattle.journal.specs.Step.{Allows, happened, key_of, next}
use Rattle.journal.specs.Run.{AllowsLookUp, beginning, looked_up}
use Rattle.journal.specs.Standing.{DiskRun}
use Rattle.journal.specs.LegalRun.{AreHandedIn, last_world, opening_world}
use Rattle.journal.specs.Sites.{GoesOn, IsAskedAt}
use Rattle.journal.specs.Laws.{Begins}
use Rattle.history_laws.proofs.Runs.{Any, of-any, end-keeps, world-booting}
use Rattle.history_laws.proofs.SiteRuns.{KnownWorld, is-known, known-next, known-looked_up, known-opening}
use Rattle.history_laws.proofs.Goings.{GoFrom}
use Rattle.history_laws.proofs.CutOff.{Fresh, goes-happened, goes-shell, none-below, traffic-counted}

-- 1. Calls go on, and no new one is asked there

pub record NoneAskedAt (m : ℕ) (t : Traffic) : Type 0 where
  pub none : (k : ℕ) (c : Call) → call_at t k ≡ Some c → IsAskedAt m c.asker → ⊥

none-from : (m : ℕ) (t new : Traffic) → GoFrom (Fresh m) t new → NoneAskedAt m t → NoneAskedAt m new
none-from m t new a before = record { none = λ k d is by. go k d is by (a.comes k d is) }
  where
    was : (k : ℕ) (d : Call) → call_at new k ≡ Some d → IsAskedAt m d.asker → (o : Option Call) → call_at t k ≡ o → is_some o ≡ true → ⊥
    was k d is by None at some = absurd (cc some)
    was k d is by (Some c) at some = let g : GoesOn c d = subst (λ o. IsSomeAnd o (GoesOn c)) is (a.goes k c at) in
        before.none k c at (subst (IsAskedAt m) g.asker by)

    go : (k : ℕ) (d : Call) → call_at new k ≡ Some d → IsAskedAt m d.asker → (is_some (call_at t k) ≡ true) ⊎ Fresh m d → ⊥
    go k d is by (inl some) = was k d is by (call_at t k) refl some
    go k d is by (inr fresh) = fresh.elsewhere by

-- 2. Every history

record ShellWorld (H : ℕ → Bool) (w : World) : Type 0 where
  pub known : KnownWorld H w
  pub asked : NoneAskedAt 0 w.traffic

no-node : (H : ℕ → Bool) → H 0 ≡ false → (w : World) → KnownWorld H w → (it : Node) → node_at w 0 ≡ Some it → ⊥
no-node H shell w known it at = let bad : true ≡ false = sym (ap is_some at) ∙ known.sound.place.present 0 ∙ shell in cc bad

shell-next : (H : ℕ → Bool) → H 0 ≡ false → (w : World) (c : Option Command) (e : Entry) → Allows w c e → ShellWorld H w
    → ShellWorld H (next w c e)
shell-next H shell w c e allowed h = record {
  known = known-next H w c e allowed h.known;
  asked = subst (NoneAskedAt 0) (sym (traffic-counted (key_of e.event) e.node e.clock (happened w c e.event)))
      (none-from 0 w.traffic (happened w c e.event).traffic
      (goes-happened 0 w c e.event (is-known H w h.known) (λ it at. absurd (no-node H shell w h.known it at)) allowed.event) h.asked);
}

shell-looked_up : (H : ℕ → Bool) (w : World) (name : List ℕ) (target : Option Cap) (path : List (List ℕ)) (e : Event)
    → AllowsLookUp w name target path e → ShellWorld H w → ShellWorld H (looked_up w name target path e)
shell-looked_up H w name target path e allowed h = record {
  known = known-looked_up H w name target path e allowed h.known;
  asked = one name target path e allowed;
}
  where
    one : (name : List ℕ) (target : Option Cap) (path : List (List ℕ)) (e : Event) → AllowsLookUp w name target path e
        → NoneAskedAt 0 (looked_up w name target path e).traffic
    one name (Some cap) path (event.Asked k said at_once) a =
        none-from 0 w.traffic _ (goes-shell 0 w name cap _ _ k at_once h.known.numbered a.1.number) h.asked
    one name None path (event.Void said) a = h.asked
    one name target path _ a = absurd a

-- 3. The law

pub none-asks-at-the-shell : (layout : Layout) (script : Script) (disks : List DiskRun) (history : List Entry) → IsLayout layout
    → AreHandedIn layout disks → Begins layout script disks history
    → (k : ℕ) (c : Call) → call_at (last_world (opening_world layout script disks) script history).traffic k ≡ Some c
    → IsAskedAt 0 c.asker → ⊥
none-asks-at-the-shell layout script disks history lays fits begins =
    (end-keeps Any (ShellWorld here) (record {
      entries = λ past w c e any allowed i. (tt, shell-next here none w c e allowed i);
      look_ups = λ past w name target path e any allowed plain i. (tt, shell-looked_up here w name target path e.event allowed i);
    }) (beginning w script.nodes script.commands) [] history (of-any 1 script.nodes w script.commands)
    (subst (ShellWorld here) (sym (world-booting 1 script.nodes w script.commands)) opening) begins).asked.none
  where
    w : World
    w = opening_world layout script disks

    here : ℕ → Bool
    here n = is_some (node_at w n)

    none : here 0 ≡ false
    none = ap is_some (none-below layout 0 1 disks (omega arith))

    opening : ShellWorld here w
    opening = record {
      known = known-opening layout script disks lays fits;
      asked = record { none = λ k c is. absurd (cc is) };
    }
