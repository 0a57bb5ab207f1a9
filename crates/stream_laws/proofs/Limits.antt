-- What a stage keeps are values within their limits, since all values of every history of a fit script are.
use Rattle.std.proofs.Common.{◌≡◌, ◌≤◌, List, [], ◌∷◌, length, Option, None, Some, refl, subst}
use Rattle.std.specs.Prelude.{IfSome}
use Rattle.capability.specs.declared.Uid.{Uid}
use Rattle.eden_value.specs.Limits.{AreValues}
use Rattle.eden_value.specs.Range.{AllInRange}
use Rattle.eden_value.specs.declared.value.TheConstants.{DEPTH_LIMIT}
use Rattle.epl_syntax.specs.declared.types.Native.{Native}
use Rattle.epl_syntax.specs.Edentype.{native as of_native}
use Rattle.epl_syntax.specs.Meaning.{durable_of}
use Rattle.passive_store.specs.Kept.{Layout}
use Rattle.passive_store.specs.Layout.{IsLayout}
use Rattle.journal.specs.declared.command.Script.{Script}
use Rattle.journal.specs.declared.event.Entry.{Entry}
use Rattle.journal.specs.World.{Eject, eject_at}
use Rattle.journal.specs.Sites.{active_in}
use Rattle.journal.specs.Standing.{DiskRun}
use Rattle.journal.specs.Fit.{IsFit}
use Rattle.journal.specs.LegalRun.{AreHandedIn, run_over}
use Rattle.journal.specs.Laws.{Begins}
use Rattle.journal.specs.Run.{Step, EachStep}
use Rattle.value_laws.specs.Worlds.{ActiveLimited, WorldLimited}
use Rattle.value_laws.proofs.Values.{limited_values, limited_range}
use Rattle.value_laws.proofs.Laws.{durable_are_limited}
use Rattle.value_laws.proofs.ActiveParts.{turn-left}
use Rattle.value_laws.proofs.Histories.{histories-keep-limits}
use Rattle.stream_laws.proofs.Pipelines.{KeepsValues}

keeps : (u : Uid) (n : Native) (s : Step) → WorldLimited s.world → KeepsValues u n s
keeps u n s limited p said it t is active turns checkpoints = go (eject_at s.world u) refl active
  where
    go : (o : Option Eject) → eject_at s.world u ≡ o → active_in o ≡ Some it
        → AreValues DEPTH_LIMIT (durable_of (of_native n) t.vars) × AllInRange (durable_of (of_native n) t.vars)
    go None at some = absurd (cc some)
    go (Some e) at some =
        let x = limited.ejects u e at in
        let left = turn-left u it p t turns x.own (subst (λ o. IfSome o ActiveLimited) some x.active) in
        let kept = durable_are_limited (of_native n) t.vars left.vars in
        (limited_values (durable_of (of_native n) t.vars) kept, limited_range (durable_of (of_native n) t.vars) kept)

each-keeps : (u : Uid) (n : Native) (past run : List Step) → EachStep (λ past s. WorldLimited s.world × WorldLimited s.later) past run
    → EachStep (λ past s. KeepsValues u n s) past run
each-keeps u n past [] each = tt
each-keeps u n past (s ∷ run) each = (keeps u n s each.0.0, each-keeps u n (s ∷ past) run each.1)

pub stages-keep-values : (layout : Layout) (script : Script) (disks : List DiskRun) (history : List Entry) → IsLayout layout
    → AreHandedIn layout disks → length disks ≤ 8 → IsFit script → Begins layout script disks history → (u : Uid) (n : Native)
    → EachStep (λ past s. KeepsValues u n s) [] (run_over layout script disks history)
stages-keep-values layout script disks history lays fits few fit begins u n = each-keeps u n [] (run_over layout script disks history)
    (histories-keep-limits layout script disks history lays fits few fit begins)
