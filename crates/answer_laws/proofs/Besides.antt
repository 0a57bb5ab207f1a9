-- From what is answered to what holds besides of its history.
use Rattle.std.proofs.Common.{◌≡◌, ◌≤◌, ℕ, zero, suc, List, [], ◌∷◌, length, take, subst, sym, ◌∙◌, inl, inr, arith}
use Rattle.std.specs.Prelude.{◌⊎◌, IsTrue, true}
use Rattle.eden_disk.specs.SimDisk.{Simulated}
use Rattle.passive_blocks.specs.BlockLayout.{block_layout}
use Rattle.journal.specs.declared.command.Script.{Script}
use Rattle.journal.specs.declared.event.Entry.{Entry}
use Rattle.journal.specs.Standing.{DiskRun}
use Rattle.journal.specs.LegalRun.{AreHandedIn, IsLegalRun, IsLegalSoFar}
use Rattle.eden_world.specs.Legal.{disk_runs}
use Rattle.eden_world.proofs.DiskPairs.{runs-length}
use Rattle.shell_answers.specs.Reading.{IsAsked}
use Rattle.shell_answers.specs.Answers.{Call, Answers, IsDue, IsDone, IsBegun, HasMovedBy, HasTwinnedBy, HasBegun}
use Rattle.shell_answers.specs.Answers.{IsLegalOver, IsLegalPartOver, disks_of_nodes}
use Rattle.shell_answers.specs.declared.words.Job.{Job}
use Rattle.shell_answers.specs.declared.words.Task.{Task}
use Rattle.shell_answers.specs.declared.words.Task.TheVariants.{History, Wire, Move, Twin}
use Rattle.shell_answers.specs.declared.further.Further.{Further}
use Rattle.shell_answers.specs.declared.further.Further.TheVariants as further
use Rattle.shell_answers.specs.declared.outcome.Outcome.{Outcome}
use Rattle.shell_answers.specs.declared.outcome.Outcome.TheVariants.{Ran, BadWords, BadScript, ReadFault, WriteFault, OutOfMemory, TooLong}
use Rattle.eden_shell.specs.Blank.{sim_seen}
use Rattle.run_laws.specs.Besides.{HoldsBesides, LegalRunsHoldBesides, LegalPartsHoldBesides}
use Rattle.answer_laws.specs.Answers.{HasBesides, IsBesides, NodesAreHandedIn}

no-longer : (n : ℕ) (runs : List DiskRun) (most : ℕ) → length runs ≤ most → length (take n runs) ≤ most
no-longer zero runs most few = omega arith
no-longer (suc n) [] most few = few
no-longer (suc n) (d ∷ runs) zero few = absurd (omega (arith, few))
no-longer (suc n) (d ∷ runs) (suc most) few =
    let rest : length (take n runs) ≤ most = no-longer n runs most (omega (arith, few)) in omega (arith, rest)

module _ (whole : LegalRunsHoldBesides) (part : LegalPartsHoldBesides) (c : Call) (history : List Entry)
    (blocks : c.disks.layout ≡ block_layout) (eight : length c.disks.runs ≡ 8) (telling : IsTrue c.disks.tells)
    (handed : NodesAreHandedIn c) where
  handed-blocks : (job : Job) (script : Script) → IsAsked c.words c.source job script
      → AreHandedIn block_layout (disks_of_nodes script c.disks.runs)
  handed-blocks job script asked =
      subst (λ layout. AreHandedIn layout (disks_of_nodes script c.disks.runs)) blocks (handed job script asked)

  few : (script : Script) → length (disks_of_nodes script c.disks.runs) ≤ 8
  few script = no-longer script.nodes c.disks.runs 8 (omega (arith, eight))

  of-run : (job : Job) (script : Script) → IsAsked c.words c.source job script → IsLegalOver c.disks script history → HasBesides c history
  of-run job script asked legal = record {
    job = job;
    script = script;
    asked = asked;
    besides = subst (λ layout. HoldsBesides layout script (disks_of_nodes script c.disks.runs) history) (sym blocks)
        (whole asked.bytes script (disks_of_nodes script c.disks.runs) history asked.spells (few script) (handed-blocks job script asked)
        (subst (λ layout. IsLegalRun layout script (disks_of_nodes script c.disks.runs) history) blocks
        (legal.legal telling (handed job script asked))));
  }

  of-part : (job : Job) (script : Script) → IsAsked c.words c.source job script → IsLegalPartOver c.disks script history
      → HasBesides c history
  of-part job script asked legal = record {
    job = job;
    script = script;
    asked = asked;
    besides = subst (λ layout. HoldsBesides layout script (disks_of_nodes script c.disks.runs) history) (sym blocks)
        (part asked.bytes script (disks_of_nodes script c.disks.runs) history asked.spells (few script) (handed-blocks job script asked)
        (subst (λ layout. IsLegalSoFar layout script (disks_of_nodes script c.disks.runs) history) blocks
        (legal.legal telling (handed job script asked))));
  }

  no-history : (more : Further) (text : List ℕ) → HasMovedBy c history more text → history ≡ []
  no-history further.Nothing text r = absurd r
  no-history (further.Twin log) text r = absurd r
  no-history (further.Move log) text r = r.no_history

  no-history-twin : (more : Further) (text : List ℕ) → HasTwinnedBy c history more text → history ≡ []
  no-history-twin further.Nothing text r = absurd r
  no-history-twin (further.Move log) text r = absurd r
  no-history-twin (further.Twin log) text r = r.no_history

  of-done : (task : Task) (more : Further) (text : List ℕ) → IsDone task c history more text → IsBesides c history
  of-done (History job) more text r = inr (of-run job r.script r.asked r.legal)
  of-done Wire more text r = inl r.not_begun.nothing.0
  of-done Move more text r = inl (no-history more text r)
  of-done Twin more text r = inl (no-history-twin more text r)

  of-due : (outcome : Outcome) (more : Further) (text : List ℕ) → IsDue c outcome history more text → IsBesides c history
  of-due Ran more text is = of-done is.0 more text is.2
  of-due _ more text is = inl is.not_begun.nothing.0

  of-run-begun : (job : Job) (more : Further) → HasBegun c job history more → HasBesides c history
  of-run-begun job more b = go b.legal
    where
      go : IsLegalOver c.disks b.script history ⊎ IsLegalPartOver c.disks b.script history → HasBesides c history
      go (inl legal) = of-run job b.script b.asked legal
      go (inr legal) = of-part job b.script b.asked legal

  of-begun : (task : Task) (more : Further) → IsBegun task c history more → IsBesides c history
  of-begun (History job) more b = inr (of-run-begun job more b)
  of-begun Wire more b = absurd b
  of-begun Move more b = inl b.nothing.0
  of-begun Twin more b = inl b.nothing.0

  pub besides : (outcome : Outcome) (more : Further) → Answers c outcome history more → IsBesides c history
  besides Ran more (text, is, written) = of-due Ran more text is
  besides WriteFault more (rose, (outcome, text, is, written)) = of-due outcome more text is
  besides OutOfMemory more (inl none) = inl none.0.nothing.0
  besides OutOfMemory more (inr (task, asks, b)) = of-begun task more b
  besides BadWords more (text, is, written) = inl is.not_begun.nothing.0
  besides (BadScript line why) more (text, is, written) = inl is.not_begun.nothing.0
  besides ReadFault more (text, is, written) = inl is.not_begun.nothing.0
  besides TooLong more (text, is, written) = inl is.not_begun.nothing.0

-- disks that are given back one for one are as many
pub eight-runs : (before after : List Simulated) → length before ≡ 8 → length after ≡ 8
    → length (disk_runs true sim_seen before after) ≡ 8
eight-runs before after b a = runs-length true sim_seen before after (a ∙ sym b) ∙ b
