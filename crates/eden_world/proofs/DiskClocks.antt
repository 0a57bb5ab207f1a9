-- A node has a clock from the first entry on its disk on; with no entry on it the disk keeps the clock with which it was handed in.
use Rattle.std.proofs.Common.{◌≡◌, ◌⊎◌, inl, inr, ◌==◌, ℕ, Bool, true, false, cond, List, [], ◌∷◌, Option, None, Some, is_some, refl}
use Rattle.std.proofs.Common.{sym, ◌∙◌, ap}
use Rattle.std.specs.Prelude.{IfSome}
use Rattle.std.specs.Option.{option_map}
use Rattle.std.specs.Ordering.{nat_cmp}
use Rattle.std.specs.Cmp.{nat_cmp_total}
use Rattle.std.specs.FinMap.{nat_cmp-IsAntisymmetric}
use Rattle.std.proofs.lemmas.Bool.{eqb-true}
use Rattle.capability.specs.declared.Cap.{Cap}
use Rattle.eden_disk.specs.Told.{Told}
use Rattle.eden_model.specs.Map.{value_at, changed_at}
use Rattle.eden_model.proofs.Laws.{value-changed_same}
use Rattle.passive_store.specs.Kept.{Layout}
use Rattle.journal.specs.declared.command.Command.{Command}
use Rattle.journal.specs.declared.event.Event.{Event}
use Rattle.journal.specs.declared.event.Event.TheVariants as event
use Rattle.journal.specs.declared.event.Entry.{Entry}
use Rattle.journal.specs.declared.event.Key.{Key}
use Rattle.journal.specs.declared.event.RequestEnd.TheVariants as request_end
use Rattle.journal.specs.declared.event.StartEnd.TheVariants as start_end
use Rattle.journal.specs.World.{World, Site, Node, node_at}
use Rattle.journal.specs.Ejects.{fresh}
use Rattle.journal.specs.LegalRun.{EndsAt}
use Rattle.journal.specs.Run.{Position, Step, Leads, EachStep, IsPlain, end_of, lead, looked_up, steps}
use Rattle.journal.specs.Sites.{Everywhere, with_changes_of}
use Rattle.journal.specs.Standing.{DiskRun}
use Rattle.journal.specs.Step.{Allows, clocked, counted, happened, key_of, next, site_turn}
use Rattle.epl_syntax.specs.Meaning.{first_values}
use Rattle.history_laws.proofs.EveryNode.{IsKeptAt, all-next, all-same_nodes}
use Rattle.history_laws.proofs.Runs.{Any, IsKept, IsOf, each-step, nodes-looked_up}
use Rattle.history_laws.proofs.SiteFrames.{keeps-site, leaves-born, leaves-crashed, leaves-tells}
use Rattle.checkpoint.specs.Throughout.{RunOnDisk}

-- 1. A node that has a clock keeps one

abbrev Clocked : ℕ → ℕ → Node → Type 0
Clocked n m it = m ≡ n → is_some it.clock ≡ true

clock-kept : (n m : ℕ) (it new : Node) → new.clock ≡ it.clock → Clocked n m it → Clocked n m new
clock-kept n m it new same h here = ap is_some same ∙ h here

-- no event changes a clock
mask-clock : (e : Event) (a b : Node) → (with_changes_of e a b).clock ≡ a.clock
mask-clock (event.Request k x y refused) a b = refl
mask-clock (event.Reply k x y name why values) a b = refl
mask-clock (event.Activate u start_end.Stop p) a b = refl
mask-clock (event.Activate u start_end.Ok p) a b = refl
mask-clock (event.Activate u start_end.Gone p) a b = refl
mask-clock (event.Activate u start_end.Fault p) a b = refl
mask-clock (event.Activate u start_end.Damaged p) a b = refl
mask-clock (event.Start k u p) a b = refl
mask-clock (event.Process u p said) a b = refl
mask-clock (event.Store u c request_end.Stop p) a b = refl
mask-clock (event.Store u c request_end.Part p) a b = refl
mask-clock (event.Store u c request_end.Done p) a b = refl
mask-clock (event.Store u c request_end.Full p) a b = refl
mask-clock (event.Store u c request_end.Fault p) a b = refl
mask-clock (event.Boot n e how p began) a b = refl
mask-clock (event.Crash n) a b = refl
mask-clock (event.Still n up) a b = refl
mask-clock (event.Link x y joined) a b = refl
mask-clock (event.Armed n what) a b = refl
mask-clock (event.Made name why u) a b = refl
mask-clock (event.Bound name held) a b = refl
mask-clock (event.Void name) a b = refl
mask-clock (event.Asked k name at_once) a b = refl
mask-clock event.Quiet a b = refl
mask-clock event.Spent a b = refl
mask-clock (event.Left names) a b = refl

turn-clock : (reach : ℕ → Bool) (e : Event) (s : Site) → (site_turn reach e s).node.clock ≡ s.node.clock
turn-clock reach e s = ap (λ (it : Node). it.clock) (keeps-site reach e s).node ∙ mask-clock e s.node (site_turn reach e s).node

kept-clocked : (n : ℕ) (w : World) (e : Event) → IsKeptAt (Clocked n) w e
kept-clocked n w e = record {
  turns = λ m it at place allowed h. λ here. ap is_some (turn-clock _ e _) ∙ h here;
  crashes = λ m s is number h. λ here. ap is_some (ap (λ (it : Node). it.clock) (leaves-crashed s).node) ∙ h here;
  tellings = λ u p a s h. λ here. ap is_some (ap (λ (it : Node). it.clock) (leaves-tells u p a s).node) ∙ h here;
  births = λ u t s gives on known h. λ here.
      ap is_some (ap (λ (it : Node). it.clock) (leaves-born u (fresh t (first_values t)) s).node) ∙ h here;
  clocks = λ m c it h. λ here. refl;
}

-- 2. One whose disk has an entry gets one

clocked-counted : (n : ℕ) (k : Option Key) (w : World) → Everywhere (Clocked n) w → Everywhere (Clocked n) (counted k w)
clocked-counted n None w all = all
clocked-counted n (Some k) w all = all

clocked-here : (n clock : ℕ) (w : World) → (n == 0) ≡ false → Everywhere (Clocked n) (clocked n clock w)
clocked-here n clock w some m it is here = go (value_at nat_cmp n w.nodes) (
    sym (value-changed_same nat_cmp nat_cmp_total nat_cmp-IsAntisymmetric n mark w.nodes)
    ∙ sym (ap (λ b. value_at nat_cmp n (cond b w.nodes (changed_at nat_cmp n mark w.nodes))) some)
    ∙ ap (λ k. node_at (clocked n clock w) k) (sym here) ∙ is)
  where
    mark : Node → Node
    mark x = record x { clock = Some clock }

    go : (o : Option Node) → option_map mark o ≡ Some it → is_some it.clock ≡ true
    go None bad = absurd (cc bad)
    go (Some x) is = let same : mark x ≡ it = cc is in ap (λ (y : Node). is_some y.clock) (sym same)

clocked-entry : (n : ℕ) (w : World) (c : Option Command) (e : Entry) → (n == 0) ≡ false → e.node ≡ n
    → Everywhere (Clocked n) (next w c e)
clocked-entry n w c e some here = clocked-counted n (key_of e.event) (clocked e.node e.clock (happened w c e.event))
    (at e.node here)
  where
    at : (m : ℕ) → m ≡ n → Everywhere (Clocked n) (clocked m e.clock (happened w c e.event))
    at m same = rw same (clocked-here n e.clock (happened w c e.event) some)

-- 3. Each step

record StepClocks (s : Step) : Type 0 where
  pub kept : (n : ℕ) → Everywhere (Clocked n) s.world → Everywhere (Clocked n) s.later
  pub given : (n : ℕ) → (n == 0) ≡ false → s.entry.node ≡ n → Everywhere (Clocked n) s.later

entry-clocks : (w : World) (c : Option Command) (e : Entry) → Allows w c e
    → StepClocks (record { world = w; entry = e; later = next w c e })
entry-clocks w c e allowed = record {
  kept = λ n all. all-next (Clocked n) w c e (kept-clocked n w e.event) allowed all;
  given = λ n some here. clocked-entry n w c e some here;
}

look-clocks : (w : World) (name : List ℕ) (target : Option Cap) (path : List (List ℕ)) (e : Entry) → IsPlain e
    → StepClocks (record { world = w; entry = e; later = looked_up w name target path e.event })
look-clocks w name target path e plain = record {
  kept = λ n all. all-same_nodes (Clocked n) w (looked_up w name target path e.event) (nodes-looked_up w name target path e.event) all;
  given = λ n some here. absurd (let bad : true ≡ false = ap (λ m. m == 0) (sym plain.disk ∙ here) ∙ some in cc bad);
}

clocks-kept : IsKept Any (λ past w. Unit {0}) (λ past s. StepClocks s)
clocks-kept = record {
  entries = λ past w c e any allowed i. (entry-clocks w c e allowed, tt);
  look_ups = λ past w name target path e named allowed plain i. (look-clocks w name target path e plain, tt);
}

-- 4. A whole run

clocked-end : (n : ℕ) (p : Position) (past : List Step) (history : List Entry) → EachStep (λ past s. StepClocks s) past (steps p history)
    → Everywhere (Clocked n) p.world → Everywhere (Clocked n) (end_of p history).world
clocked-end n p past [] each all = all
clocked-end n p past (e ∷ es) each all =
    clocked-end n (lead p e) (record { world = p.world; entry = e; later = (lead p e).world } ∷ past) es each.1 (each.0.kept n all)

-- the clock is level, or the node has one
abbrev Reaches : ℕ → ℕ → ℕ → World → Type 0
Reaches n before after w = (after ≡ before) ⊎ Everywhere (Clocked n) w

clocks-along : (layout : Layout) (n : ℕ) (p : Position) (past : List Step) (history : List Entry) (old new : Told) (before after : ℕ)
    → (n == 0) ≡ false → EachStep (λ past s. StepClocks s) past (steps p history)
    → RunOnDisk layout n (steps p history) old before new after → Reaches n before after (end_of p history).world
clocks-along layout n p past [] old new before after some each run = inl run.1
clocks-along layout n p past (e ∷ es) old new before after some each (mid, between, one, more) = go (e.node == n) refl
    (clocks-along layout n (lead p e) later es mid new between after some each.1 more)
  where
    later : List Step
    later = record { world = p.world; entry = e; later = (lead p e).world } ∷ past

    go : (b : Bool) → (e.node == n) ≡ b → Reaches n between after (end_of (lead p e) es).world
        → Reaches n before after (end_of (lead p e) es).world
    go true here rest = inr (clocked-end n (lead p e) later es each.1 (each.0.given n some (eqb-true e.node n here)))
    go false there (inl level) = inl (level ∙ one.elsewhere there)
    go false there (inr all) = inr all

-- Where the clock of the node, if it has one, is that of the disk in the end, the disk is given back right behind its last entry.
pub ends-at : (layout : Layout) (n : ℕ) (p : Position) (history : List Entry) (d : DiskRun) (it : Node) → (n == 0) ≡ false → IsOf Any p
    → Leads p history → RunOnDisk layout n (steps p history) d.before d.first.clock d.after d.last.clock
    → node_at (end_of p history).world n ≡ Some it → IfSome it.clock (λ c. c ≡ d.last.clock) → EndsAt it.clock d
ends-at layout n p history d it some of leads run at same = go it.clock refl same
  where
    each : EachStep (λ past s. StepClocks s) [] (steps p history)
    each = each-step Any (λ past w. Unit {0}) (λ past s. StepClocks s) clocks-kept p [] history of tt leads

    go : (o : Option ℕ) → it.clock ≡ o → IfSome o (λ c. c ≡ d.last.clock) → EndsAt o d
    go (Some c) is same = sym same
    go None is same = elim (clocks-along layout n p [] history d.before d.after d.first.clock d.last.clock some each run) [
      | inl level ↦ level
      | inr all ↦ absurd (let bad : false ≡ true = sym (ap is_some is) ∙ all n it at refl in cc bad)
    ]
