-- Every world of a history of a fit script is within the limits.
use Rattle.std.proofs.Common.{◌≡◌, ◌≤◌, ℕ, Bool, is_some, List, [], ◌∷◌, length, Option, None, Some, refl, sym, subst}
use Rattle.std.specs.Prelude.{IfSome, codes}
use Rattle.std.specs.List.{All, AllByRecursion}
use Rattle.std.proofs.lemmas.List.Elements.{All-head, All-tail}
use Rattle.capability.specs.declared.Cap.{Cap}
use Rattle.eden_value.specs.declared.status.Status.{Status}
use Rattle.passive_store.specs.Kept.{Layout}
use Rattle.passive_store.specs.Layout.{IsLayout}
use Rattle.eden_model.specs.Traffic.{Call, call_at}
use Rattle.eden_model.specs.declared.Asker.TheVariants.{Shell}
use Rattle.epl_syntax.specs.Rules.OfTypes.{names_of}
use Rattle.journal.specs.Fit.{NumbersFit, IsFit, IsFitCommand}
use Rattle.journal.specs.Laws.{Begins}
use Rattle.journal.specs.LegalRun.{AreHandedIn, images, numbered, opening_world, run_over}
use Rattle.journal.specs.Run.{Step, EachStep, AllowsLookUp, lookup_args, looked_up, beginning}
use Rattle.journal.specs.Standing.{DiskRun}
use Rattle.journal.specs.Step.{next}
use Rattle.journal.specs.World.{World, node_at, nothing}
use Rattle.journal.specs.declared.command.Command.{Command}
use Rattle.journal.specs.declared.command.Script.{Script}
use Rattle.journal.specs.declared.event.Entry.{Entry}
use Rattle.journal.specs.declared.event.Event.{Event}
use Rattle.journal.specs.declared.event.Event.TheVariants as event
use Rattle.history_laws.proofs.CallsKeep.{kept-itself}
use Rattle.history_laws.proofs.DownRuns.{DownWorld, down-next, down-looked_up, calm-opening}
use Rattle.history_laws.proofs.EveryNode.{all-same_nodes}
use Rattle.history_laws.proofs.Runs.{step, IsNamed, EachOf, of-booting, each-step, world-booting, nodes-looked_up}
use Rattle.history_laws.proofs.SiteRuns.{SiteWorld, site-next, site-looked_up, site-opening, types-next, types-looked_up}
use Rattle.value_laws.specs.Limited.{AreLimited}
use Rattle.value_laws.specs.Worlds.{WorldLimited, HistoriesKeepLimits}
use Rattle.value_laws.proofs.Calls.{Answered, Asked, calls-go_on}
use Rattle.value_laws.proofs.Names.{names-with, named-limited}
use Rattle.value_laws.proofs.Nodes.{NodeHolds}
use Rattle.value_laws.proofs.ShellCalls.{AsksLimited, AsksFitly, asked-there, new-args, each-step-asks}
use Rattle.value_laws.proofs.Types.{TypesFit, types-fit}
use Rattle.value_laws.proofs.WorldCalls.{keeps-looked_up}
use Rattle.value_laws.proofs.Worlds.{IsWithin, IsKnown, IsFitFor, within-limited, within-next, within-opening, held-limited}

-- what is known of a world, which is within the limits where the shell asked with values so far
record IsReached (H : ℕ → Bool) (past : List Step) (w : World) : Type 0 where
  site : SiteWorld H w
  down : DownWorld H w
  types : TypesFit w.types
  within : AllByRecursion AsksLimited past → IsWithin w

-- both worlds of a step are within the limits, where the shell asks with values in it and asked so before
abbrev IsShown : List Step → Step → Type 0
IsShown past s = AllByRecursion AsksLimited (s ∷ past) → WorldLimited s.world × WorldLimited s.later

known : (H : ℕ → Bool) (past : List Step) (w : World) → IsReached H past w → IsKnown w
known H past w r = record { types = r.types; queued = r.site.tasks w.traffic (kept-itself w.traffic); calm = r.down.calm }

-- the look-up of a walk
within-looked_up : (w : World) (name : List ℕ) (target : Option Cap) (path : List (List ℕ)) (ev : Event) → IfSome target (IsNamed w)
    → AllowsLookUp w name target path ev
    → ((k : ℕ) (said : List ℕ) (at_once : Option Status) → ev ≡ event.Asked k said at_once → (c : Call)
    → call_at (looked_up w name target path ev).traffic k ≡ Some c → AreLimited c.args)
    → IsWithin w → IsWithin (looked_up w name target path ev)
within-looked_up w name (Some target) path (event.Asked k said at_once) named allowed asks h = record {
  nodes = all-same_nodes NodeHolds w later (nodes-looked_up w name (Some target) path (event.Asked k said at_once)) h.nodes;
  calls = calls-go_on w.traffic later.traffic
      (keeps-looked_up Answered Asked w name (Some target) path (event.Asked k said at_once)
      (λ j. (named-limited w h.names target named, args)) allowed) h.calls;
  names = names-with name nothing w.names tt h.names;
}
  where
    later : World
    later = looked_up w name (Some target) path (event.Asked k said at_once)

    args : AreLimited (lookup_args path)
    args = subst AreLimited (new-args (Shell name) target (codes "LookUp") (lookup_args path) at_once)
        (asks k said at_once refl _ (asked-there name target (codes "LookUp") (lookup_args path) k at_once w))
within-looked_up w name None path (event.Void said) named allowed asks h = h
within-looked_up w name target path _ named allowed asks h = absurd allowed

-- what is kept of each step, in the words of the walk over all steps
shows : (H : ℕ → Bool) (past : List Step) (s : Step) → IsReached H past s.world → SiteWorld H s.later → DownWorld H s.later
    → TypesFit s.later.types → (AsksLimited s → IsWithin s.world → IsWithin s.later) → IsShown past s × IsReached H (s ∷ past) s.later
shows H past s r site down types goes_on = (
  λ asked. (within-limited s.world (r.within asked.1), within-limited s.later (goes_on asked.0 (r.within asked.1))),
  record { site = site; down = down; types = types; within = λ asked. goes_on asked.0 (r.within asked.1) },
)

reached : (layout : Layout) (script : Script) (disks : List DiskRun) (history : List Entry) → IsLayout layout
    → AreHandedIn layout disks → length disks ≤ 8 → IsFit script → EachOf IsFitFor script.commands → Begins layout script disks history
    → EachStep IsShown [] (run_over layout script disks history)
reached layout script disks history lays handed few fit commands begins = each-step IsFitFor (IsReached here) IsShown (record {
  entries = λ past w c e for allowed r. shows here past (step w e (next w c e)) r (site-next here w c e allowed r.site)
      (down-next here w c e allowed r.down) (subst TypesFit (sym (types-next w c e)) r.types)
      (λ asks h. within-next w c e (known here past w r) for allowed h);
  look_ups = λ past w name target path e named allowed plain r. shows here past (step w e (looked_up w name target path e.event)) r
      (site-looked_up here w name target path e.event allowed r.site) (down-looked_up here w name target path e.event allowed r.down)
      (subst TypesFit (sym (types-looked_up w name target path e.event)) r.types)
      (λ asks h. within-looked_up w name target path e.event named allowed
      (λ k said at_once is. asks k said at_once is h.names) h);
}) (beginning w script.nodes script.commands) [] history
    (of-booting IsFitFor (λ m. record { arguments = tt; holds = λ name u is. absurd (cc is) }) 1 script.nodes w script.commands commands)
    (subst (IsReached here []) (sym (world-booting 1 script.nodes w script.commands)) opening) begins
  where
    w : World
    w = opening_world layout script disks

    here : ℕ → Bool
    here n = is_some (node_at w n)

    opening : IsReached here [] w
    opening = let site = site-opening layout script disks lays handed fit.keep_rules fit.have_monitors in record {
      site = site;
      down = record {
        sound = site.known.sound;
        asked_up = record { at = λ k c is. absurd (cc is) };
        calm = calm-opening layout (images (numbered disks));
      };
      types = types-fit script.types fit.have_values;
      within = λ asked. within-opening layout script disks lays handed few;
    }

-- the commands of a fit script
commands-fit : (types : List (List ℕ)) (nodes : ℕ) (cs : List Command) → nodes ≤ 8 → All (IsFitCommand types nodes) cs → EachOf IsFitFor cs
commands-fit types nodes [] few all = tt
commands-fit types nodes (c ∷ cs) few all = (
  (let fit : IsFitCommand types nodes c = All-head (IsFitCommand types nodes) c cs all in record {
    arguments = fit.arguments;
    holds = λ name u is. held-limited nodes name u few (subst (NumbersFit nodes) is fit.numbers);
  }),
  commands-fit types nodes cs few (All-tail (IsFitCommand types nodes) c cs all),
)

commands-ask : (types : List (List ℕ)) (nodes : ℕ) (cs : List Command) → All (IsFitCommand types nodes) cs → EachOf AsksFitly cs
commands-ask types nodes [] all = tt
commands-ask types nodes (c ∷ cs) all = (
  (let fit : IsFitCommand types nodes c = All-head (IsFitCommand types nodes) c cs all in (fit.arguments, fit.path)),
  commands-ask types nodes cs (All-tail (IsFitCommand types nodes) c cs all),
)

-- what is shown of each step where the shell asked with values holds, since it did
each-holds : (past ss : List Step) → AllByRecursion AsksLimited past → EachStep IsShown past ss → EachStep (λ past s. AsksLimited s) past ss
    → EachStep (λ past s. WorldLimited s.world × WorldLimited s.later) past ss
each-holds past [] asked shown asks = tt
each-holds past (s ∷ ss) asked shown asks = (
  shown.0 (asks.0, asked),
  each-holds (s ∷ past) ss (asks.0, asked) shown.1 asks.1,
)

pub histories-keep-limits : HistoriesKeepLimits
histories-keep-limits layout script disks history lays handed few fit begins =
    each-holds [] (run_over layout script disks history) tt
    (reached layout script disks history lays handed few fit
    (commands-fit (names_of script.types) script.nodes script.commands fit.nodes.1 fit.commands) begins)
    (each-step-asks (opening_world layout script disks) script.nodes script.commands history
    (commands-ask (names_of script.types) script.nodes script.commands fit.commands) begins)
