-- Over disks of which nothing is left to be taken for granted, what is answered is legal.
use Rattle.std.proofs.Common.{◌≤◌, ℕ, inl, inr, List, IsTrue, Option, Some, length, ap, arith}
use Rattle.std.proofs.lemmas.List.{length-map}
use Rattle.std.specs.Prelude.{◌⊎◌}
use Rattle.journal.specs.declared.command.Script.{Script}
use Rattle.journal.specs.declared.event.Entry.{Entry}
use Rattle.journal.specs.LegalRun.{AreHandedIn, IsLegalRun, IsLegalSoFar}
use Rattle.line_forms.specs.Fit.{RowsAreFit}
use Rattle.move_world.specs.Disks.{KeepNothing}
use Rattle.shell_answers.specs.Reading.{IsTwinned}
use Rattle.twin_world.specs.Commands as twin_commands
use Rattle.twin_world.specs.Disks as twin_disks
use Rattle.twin_world.specs.Logs as twin_logs
use Rattle.twin_world.specs.Scripts as twin_scripts
use Rattle.twin_world.proofs.Meaning.{twin_plain}
use Rattle.shell_answers.specs.Answers.{Call, Answers, IsNothing, IsDue, IsDone, IsBegun, HasRun, HasBegun, IsLegalOver, IsLegalPartOver}
use Rattle.shell_answers.specs.Answers.{HasMovedBy, HasTwinnedBy, disks_of_nodes, handed_in}
use Rattle.eden_shell.proofs.Carrying.{handed-nodes}
use Rattle.shell_answers.specs.declared.words.Job.{Job}
use Rattle.shell_answers.specs.declared.words.Task.{Task}
use Rattle.shell_answers.specs.declared.words.Task.TheVariants.{History, Wire, Move, Twin}
use Rattle.shell_answers.specs.declared.further.Further.{Further}
use Rattle.shell_answers.specs.declared.further.Further.TheVariants as further
use Rattle.shell_answers.specs.declared.outcome.Outcome.{Outcome}
use Rattle.shell_answers.specs.declared.outcome.Outcome.TheVariants.{Ran, BadWords, BadScript, ReadFault, WriteFault, OutOfMemory, TooLong}
use Rattle.eden_shell.specs.Blank.{AreOfBlocks}
use Rattle.eden_shell.specs.Legally.{HasLegalRun, HasLegalPart, HasLegalMoveBy, HasLegalTwinBy, IsDoneLegally, HasBeenLegal, IsLegally}

module _ (c : Call) (history : List Entry) (telling : IsTrue c.disks.tells) (handed : AreHandedIn c.disks.layout c.disks.runs)
    (empty : AreOfBlocks c.disks.runs → KeepNothing c.disks.layout (handed_in c.disks))
    (both : AreOfBlocks c.disks.runs → twin_disks.KeepNothing c.disks.layout (handed_in c.disks))
    (fits : RowsAreFit) (rise : (k : ℕ) → k ≤ 1048576 → twin_disks.CanRise k (handed_in c.disks)) where
  ran : (job : Job) (more : Further) (text : List _) → HasRun c job history more text → HasLegalRun c history
  ran job more text r = record {
    job = job;
    script = r.script;
    asked = r.asked;
    legal = r.legal.legal telling (handed-nodes c.disks.layout r.script c.disks.runs handed);
  }

  moved : (more : Further) (text : List _) → HasMovedBy c history more text → HasLegalMoveBy c history more
  moved further.Nothing text r = absurd r
  moved (further.Twin log) text r = absurd r
  moved (further.Move log) text r = record { asked = r.asked; legal = λ sized. r.legal telling (empty sized); no_history = r.no_history }

  -- a script that was read has no more commands than bytes
  few : (log : twin_logs.Log) → IsTwinned c.words c.source (twin_scripts.commands_of log.entries) → length log.entries ≤ 1048576
  few log asked =
      let (bytes, read, script) = asked.twins in
      let fit = fits twin_commands.twin_kind bytes script.most script.rows twin_plain script.script in
      let within = read.within in
      omega (
        arith,
        fit.few,
        within,
        length-map script.rows twin_commands.command_of,
        length-map (twin_scripts.commands_of log.entries) (λ (x : twin_commands.Command). Some x),
        length-map log.entries (λ (e : twin_logs.Entry). e.command),
        ap (λ (l : List (Option twin_commands.Command)). length l) script.meant,
      )

  twinned : (more : Further) (text : List _) → HasTwinnedBy c history more text → HasLegalTwinBy c history more
  twinned further.Nothing text r = absurd r
  twinned (further.Move log) text r = absurd r
  twinned (further.Twin log) text r = record {
    asked = r.asked;
    legal = λ sized. r.legal telling (both sized) (rise _ (few _ r.asked));
    no_history = r.no_history;
  }

  done : (task : Task) (more : Further) (text : List _) → IsDone task c history more text → IsDoneLegally task c history more
  done (History job) more text r = (ran job more text r, r.no_log)
  done Wire more text r = r.not_begun.nothing
  done Move more text r = moved more text r
  done Twin more text r = twinned more text r

  began : (job : Job) (more : Further) → HasBegun c job history more → HasLegalPart c history
  began job more b = record { job = job; script = b.script; asked = b.asked; legal = go b.script b.legal }
    where
      go : (script : Script) → IsLegalOver c.disks script history ⊎ IsLegalPartOver c.disks script history
          → IsLegalRun c.disks.layout script (disks_of_nodes script c.disks.runs) history
          ⊎ IsLegalSoFar c.disks.layout script (disks_of_nodes script c.disks.runs) history
      go script (inl whole) = inl (whole.legal telling (handed-nodes c.disks.layout script c.disks.runs handed))
      go script (inr part) = inr (part.legal telling (handed-nodes c.disks.layout script c.disks.runs handed))

  begun : (task : Task) (more : Further) → IsBegun task c history more → IsNothing history more ⊎ HasLegalPart c history
  begun (History job) more b = inr (began job more b)
  begun Wire more b = absurd b
  begun Move more b = inl b.nothing
  begun Twin more b = inl b.nothing

  due : (outcome : Outcome) (more : Further) (text : List _) → IsDue c outcome history more text
      → IsNothing history more ⊎ HasBeenLegal c history more
  due Ran more text is = inr (is.0, is.1, done is.0 more text is.2)
  due _ more text is = inl is.not_begun.nothing

  pub legally : (outcome : Outcome) (more : Further) → Answers c outcome history more → IsLegally c outcome history more
  legally Ran more (text, is, written) = (is.0, is.1, done is.0 more text is.2)
  legally WriteFault more (rose, (outcome, text, is, part)) = due outcome more text is
  legally OutOfMemory more (inl none) = inl none.0.nothing
  legally OutOfMemory more (inr (task, asks, b)) = begun task more b
  legally BadWords more (text, is, written) = is.not_begun.nothing
  legally (BadScript line cause) more (text, is, written) = is.not_begun.nothing
  legally ReadFault more (text, is, written) = is.not_begun.nothing
  legally TooLong more (text, is, written) = is.not_begun.nothing
