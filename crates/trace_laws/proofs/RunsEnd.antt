-- Each beginning of a fit script has an ending.
use Rattle.std.proofs.Common.{◌≡◌, ◌≤◌, ◌<◌, ◌^◌, ℕ, Bool, true, false, cond, List, [], ◌∷◌, ◌++◌, map, None, Some, Ok, Err, is_some, refl}
use Rattle.std.proofs.Common.{sym, ◌∙◌, ap, subst}
use Rattle.std.specs.Prelude.{IfSome, IsTrue, Result}
use Rattle.std.specs.List.{All, AllByRecursion, Contains}
use Rattle.std.specs.Ordering.{nat_cmp, eq_by_cmp}
use Rattle.std.proofs.lemmas.List.Elements.{All-from_recursion, recursion_from_All}
use Rattle.capability.specs.declared.Uid.{Uid}
use Rattle.eden_model.specs.Map.{value_at, with_item}
use Rattle.epl_syntax.specs.Meaning.{type_of, types_in}
use Rattle.epl_syntax.specs.Rules.OfTypes.{TypeList, names_of}
use Rattle.passive_store.specs.Kept.{Layout}
use Rattle.passive_store.specs.Layout.{IsLayout}
use Rattle.journal.specs.declared.command.Command.{Command}
use Rattle.journal.specs.declared.command.Command.TheVariants as command
use Rattle.journal.specs.declared.command.Script.{Script}
use Rattle.journal.specs.declared.event.Entry.{Entry}
use Rattle.journal.specs.Fit.{IsFit, IsFitCommand}
use Rattle.journal.specs.World.{World, Node}
use Rattle.journal.specs.Opening.{node_of, node_from, found_in}
use Rattle.journal.specs.Standing.{DiskRun}
use Rattle.journal.specs.LegalRun.{AreHandedIn, opening_world, numbered, images}
use Rattle.journal.specs.Laws.{Begins}
use Rattle.journal.specs.Run.{Position, Leads, lead, end_of, beginning}
use Rattle.history_laws.proofs.SiteRuns.{enabled-keys-have-turns}
use Rattle.history_laws.proofs.CutOff.{down-nodes-rest}
use Rattle.runs.proofs.Reaching.{type-there}
use Rattle.trace_laws.specs.Determined.{HasClocks}
use Rattle.trace_laws.specs.Endings.{MayBoot, NodesMayBoot, HasEnding}
use Rattle.trace_laws.proofs.LowClocks.{Low}
use Rattle.trace_laws.proofs.CanEnd.{IsFitOver, FitsIn, AllFit, runs-can-end}

-- 1. No disk has a clock yet

new-low : (n size : ℕ) (found : Result (List (Uid × List ℕ)) ℕ) (overfull untold : Bool) (ledger : List ℕ)
    → IfSome (node_from n size found overfull untold ledger).clock (λ b. b < 2 ^ 64)
new-low n size (Ok kept) overfull untold ledger = tt
new-low n size (Err place) overfull untold ledger = tt

low-opening : (layout : Layout) (images : List (ℕ × List ℕ)) (n : ℕ)
    → IfSome (with_item (value_at nat_cmp n (map (λ d. (d.0, node_of layout d)) images)) (λ it. it.clock) None) (λ b. b < 2 ^ 64)
low-opening layout [] n = tt
low-opening layout (d ∷ ds) n = go (eq_by_cmp nat_cmp n d.0) (low-opening layout ds n)
  where
    later : List (ℕ × Node)
    later = map (λ d. (d.0, node_of layout d)) ds

    go : (b : Bool) → IfSome (with_item (value_at nat_cmp n later) (λ it. it.clock) None) (λ b. b < 2 ^ 64)
        → IfSome (with_item (cond b (Some (node_of layout d)) (value_at nat_cmp n later)) (λ it. it.clock) None) (λ b. b < 2 ^ 64)
    go true h = new-low d.0 _ (found_in layout d.0 d.1) _ _ _
    go false h = h

-- 2. Fit commands

fit-one : (w : World) (ts : TypeList) (nodes : ℕ) → w.types ≡ types_in ts → ((n : ℕ) → 1 ≤ n → n ≤ nodes → MayBoot w n)
    → (c : Command) → IsFitCommand (names_of ts) nodes c → FitsIn w c
fit-one w ts nodes types boot (command.Create name n type_name) h =
    let there : is_some (type_of w.types type_name) ≡ true = ap (λ l. is_some (type_of l type_name)) types
    ∙ type-there ts type_name (recursion_from_All (Contains (names_of ts)) (type_name ∷ []) h.type_is_known).0 in
    subst IsTrue (sym there) refl
fit-one w ts nodes types boot (command.Restart n) h = boot n h.numbers.0 h.numbers.1
fit-one w ts nodes types boot (command.Turn i) h = tt
fit-one w ts nodes types boot (command.Go n) h = tt
fit-one w ts nodes types boot (command.Walk name target path) h = tt
fit-one w ts nodes types boot (command.Hold name u) h = tt
fit-one w ts nodes types boot (command.Restrict name target mask) h = tt
fit-one w ts nodes types boot (command.Call name target operation args) h = tt
fit-one w ts nodes types boot (command.Crash n mode) h = tt
fit-one w ts nodes types boot (command.Cut a b) h = tt
fit-one w ts nodes types boot (command.Join a b) h = tt
fit-one w ts nodes types boot (command.Fail n after) h = tt
fit-one w ts nodes types boot (command.Stop n after mode) h = tt
fit-one w ts nodes types boot command.End h = tt

fit-all : (w : World) (ts : TypeList) (nodes : ℕ) → w.types ≡ types_in ts → ((n : ℕ) → 1 ≤ n → n ≤ nodes → MayBoot w n)
    → (cs : List Command) → AllByRecursion (IsFitCommand (names_of ts) nodes) cs → AllFit w cs
fit-all w ts nodes types boot [] h = tt
fit-all w ts nodes types boot (c ∷ cs) h = (fit-one w ts nodes types boot c h.0, fit-all w ts nodes types boot cs h.1)

-- 3. Endings

leads-append : (p : Position) (h more : List Entry) → Leads p h → Leads (end_of p h) more → Leads p (h ++ more)
leads-append p [] more leads later = later
leads-append p (e ∷ es) more leads later = (leads.0, leads-append (lead p e) es more leads.1 later)

end-append : (p : Position) (h more : List Entry) → end_of p (h ++ more) ≡ end_of (end_of p h) more
end-append p [] more = refl
end-append p (e ∷ es) more = end-append (lead p e) es more

clocks-append : (h more : List Entry) → AllByRecursion HasClocks h → AllByRecursion HasClocks more → AllByRecursion HasClocks (h ++ more)
clocks-append [] more a b = b
clocks-append (e ∷ es) more a b = (a.0, clocks-append es more a.1 b)

pub beginnings-have-endings : (layout : Layout) (script : Script) (disks : List DiskRun) (history : List Entry) → IsLayout layout
    → AreHandedIn layout disks → IsFit script → NodesMayBoot (opening_world layout script disks) script
    → Begins layout script disks history → All HasClocks history → HasEnding (opening_world layout script disks) script history
beginnings-have-endings layout script disks history lays handed fit boot begins clocks =
    let first = opening_world layout script disks in
    let start = beginning first script.nodes script.commands in
    let low : Low first = low-opening layout (images (numbered disks)) in
    let over_ : IsFitOver layout script disks = record {
      lays = lays;
      handed = handed;
      rules = fit.keep_rules;
      monitors = fit.have_monitors;
      nodes = boot;
      commands = fit-all first script.types script.nodes refl boot script.commands
          (recursion_from_All (IsFitCommand (names_of script.types) script.nodes) script.commands fit.commands);
      low = low;
    } in
    let timed = recursion_from_All HasClocks history clocks in
    let r = runs-can-end enabled-keys-have-turns down-nodes-rest layout script disks over_ history begins timed in record {
      more = r.0;
      follows = record {
        leads = leads-append start history r.0 begins r.1;
        whole = ap (λ (q : Position). q.due) (end-append start history r.0)
            ∙ r.2;
      };
      clocks = All-from_recursion HasClocks (history ++ r.0) (clocks-append history r.0 timed r.3);
    }
