-- What the whole call answers, by the answers of the calls that it makes.
use Rattle.std.proofs.Common.{◌≡◌, ◌≤◌, ◌∙◌, ℕ, Bool, true, false, List, [], ◌∷◌, length, map, sym, subst, refl, ap, arith, IsTrue}
use Rattle.std.specs.List.{All}
use Rattle.std.specs.Io.KnownBytes.{Keeps}
use Rattle.eden_io.specs.Taken.{AppendsPart}
use Rattle.passive_store.specs.Seen.{DiskSeen}
use Rattle.journal.specs.declared.command.Script.{Script}
use Rattle.journal.specs.declared.event.Mode.{Mode}
use Rattle.journal.specs.declared.event.Entry.{Entry}
use Rattle.journal.specs.Fit.{IsFit}
use Rattle.journal.specs.Lines.{text_of}
use Rattle.eden_script.specs.Script.{ScriptsAreFit}
use Rattle.eden_world.specs.Legal.{disk_runs}
use Rattle.move_world.specs.Commands.{Command}
use Rattle.move_world.specs.Counted.{CountsAsTold}
use Rattle.move_world.specs.Disks.{KeepNothing}
use Rattle.move_world.specs.Logs.{IsLegalMove}
use Rattle.move_world.specs.Scripts.{IsMoveScript}
use Rattle.move_world.specs.Texts as moves
use Rattle.move_world.specs.View.{log_of}
use Rattle.move_world.specs.Worlds.{AreInReach, commands_of}
use Rattle.move_world.specs.declared.answer.Log.{Log}
use Rattle.passive_store.specs.Kept.{Layout}
use Rattle.shell_answers.specs.Words.{mode_of}
use Rattle.shell_answers.specs.Reading.{Reading, IsAsked, IsMoved, IsTwinned}
use Rattle.shell_answers.specs.Answers.{Call, Disks, Writing, IsUntouched, IsCarriedOut, Answers, Delivers, seen_before, seen_after, given_back, handed_in}
use Rattle.shell_answers.specs.declared.words.Job.{Job}
use Rattle.shell_answers.specs.declared.outcome.Outcome.{Outcome}
use Rattle.shell_answers.specs.declared.outcome.Outcome.TheVariants.{Ran, OutOfMemory}
use Rattle.shell_answers.specs.declared.further.Further.{Further}
use Rattle.shell_answers.specs.declared.further.Further.TheVariants as further
use Rattle.shell_answers.proofs.Answering.{concluded, delivered, moved, move-starved, twinned, twin-starved}
use Rattle.twin_world.specs.Commands as twin_commands
use Rattle.twin_world.specs.Disks as twin_disks
use Rattle.twin_world.specs.Logs as twin_logs
use Rattle.twin_world.specs.Scripts as twin_scripts
use Rattle.twin_world.specs.Texts as twins
use Rattle.twin_world.specs.View as twin_view
use Rattle.twin_world.specs.Worlds.{AllCounted, RunsOver}
use Rattle.twin_world.specs.declared.answer.Log as twin_coded
use Rattle.eden_shell.specs.Moving.{IsMovedTo}
use Rattle.eden_shell.specs.Twins.{IsTwinnedTo, IsTold as IsToldTwin}
use Rattle.std.proofs.lemmas.List.{length-map}
use Rattle.eden_shell.proofs.Carrying.{untouched}

-- a script that was asked for is fit
pub asked-fit : (words : List (List ℕ)) (source : Reading) (job : Job) (script : Script) → IsAsked words source job script → ScriptsAreFit
    → IsFit script
asked-fit words source job script asked fit = fit asked.bytes script asked.spells

-- disks that stand there as they were
pub given-back : {D : Type 0} (obeys : Bool) (look : D → DiskSeen) (before after : List D) → after ≡ before
    → All IsUntouched (disk_runs obeys look before after)
given-back obeys look before after is =
    subst (λ (l : List _). All IsUntouched (disk_runs obeys look before l)) (sym is) (untouched obeys look before)

module _ (c : Call) (job : Job) (script : Script) (carried : List Entry) (whole : Bool) (more : Further) (no_log : more ≡ further.Nothing)
    (asked : IsAsked c.words c.source job script) (out : IsCarriedOut c.disks script carried whole) where
  -- what was carried out is returned, and written in the mode of the job
  pub concluded-in : (mode : Mode) (history : List Entry) → mode ≡ mode_of job → history ≡ carried → (outcome : Outcome)
      → (whole ≡ true → Delivers c.sink Ran (text_of mode carried) outcome) → (whole ≡ false → outcome ≡ OutOfMemory)
      → AppendsPart c.sink.written c.sink.written_after (text_of mode carried) → Answers c outcome history more
  concluded-in mode history its returned outcome delivers short part =
      subst (λ (h : List Entry). Answers c outcome h more) (sym returned) (concluded c job script carried whole more no_log asked out outcome
      (λ is. subst (λ (m : Mode). Delivers c.sink Ran (text_of m carried) outcome) its (delivers is)) short
      (subst (λ (m : Mode). AppendsPart c.sink.written c.sink.written_after (text_of m carried)) its part))

-- 2. Ejects that wander

-- the disks as they were handed in are seen as they were
pub handed-same : {D : Type 0} (obeys : Bool) (look : D → DiskSeen) (before after : List D) → length after ≡ length before
    → map seen_before (disk_runs obeys look before after) ≡ map look before
handed-same obeys look [] after same = refl
handed-same obeys look (b ∷ before) [] same = absurd (omega (arith, same))
handed-same obeys look (b ∷ before) (a ∷ after) same =
    let more : length after ≡ length before = omega (arith, same) in
    ap (λ (l : List DiskSeen). look b ∷ l) (handed-same obeys look before after more)

-- and as they were given back
pub given-same : {D : Type 0} (obeys : Bool) (look : D → DiskSeen) (before after : List D) → length after ≡ length before
    → map seen_after (disk_runs obeys look before after) ≡ map look after
given-same obeys look [] [] same = refl
given-same obeys look [] (a ∷ after) same = absurd (omega (arith, same))
given-same obeys look (b ∷ before) [] same = absurd (omega (arith, same))
given-same obeys look (b ∷ before) (a ∷ after) same =
    let more : length after ≡ length before = omega (arith, same) in
    ap (λ (l : List DiskSeen). look a ∷ l) (given-same obeys look before after more)

-- what is said of both by what was seen of them
pub seen-both : {D : Type 0} (P : List DiskSeen → List DiskSeen → Type 0) (obeys : Bool) (look : D → DiskSeen) (before after : List D)
    → length before ≡ 8 → length after ≡ 8 → P (map look before) (map look after)
    → P (map seen_before (disk_runs obeys look before after)) (map seen_after (disk_runs obeys look before after))
seen-both P obeys look before after b a p =
    let same : length after ≡ length before = omega (arith, a, b) in
    subst (λ (l : List DiskSeen). P l (map seen_after (disk_runs obeys look before after))) (sym (handed-same obeys look before after same))
    (subst (λ (l : List DiskSeen). P (map look before) l) (sym (given-same obeys look before after same)) p)

-- so what is said of them by these is said by those
pub keep-nothing : {D : Type 0} (obeys : Bool) (layout : Layout) (look : D → DiskSeen) (before after : List D) → length before ≡ 8
    → length after ≡ 8 → KeepNothing layout (map seen_before (disk_runs obeys look before after)) → KeepNothing layout (map look before)
keep-nothing obeys layout look before after b a none =
    let same : length after ≡ length before = omega (arith, a, b) in
    subst (λ (l : List DiskSeen). KeepNothing layout l) (handed-same obeys look before after same) none

-- a script that was read can be carried out
pub moved-nodes : (words : List (List ℕ)) (source : Reading) (nodes : ℕ) (commands : List Command)
    → IsMoved words source nodes commands → (nodes ≤ 8) × AreInReach commands
moved-nodes words source nodes commands asked =
    let script : IsMoveScript asked.moves.0 nodes commands = asked.moves.2 in (script.most, script.reach)

-- it was carried out, and its text written
pub told-moves : (d : Disks) (s : Writing) (nodes : ℕ) (commands : List Command) (log : Log) (outcome : Outcome) (more : Further)
    → more ≡ further.Move log → log.nodes ≡ nodes → commands_of (log_of log).entries ≡ commands
    → (IsTrue d.tells → KeepNothing d.layout (handed_in d) → IsLegalMove (log_of log))
    → CountsAsTold (log_of log) (handed_in d) (given_back d) → Delivers s Ran (moves.text_of (log_of log)) outcome
    → (outcome ≡ OutOfMemory → ⊥) → IsMovedTo d s nodes commands outcome more
told-moves d s nodes commands log outcome more is same_nodes same legal counts delivers memory =
    subst (λ (m : Further). IsMovedTo d s nodes commands outcome m) (sym is)
    (record { same_nodes = same_nodes; same = same; legal = legal; counts = counts; delivers = delivers; memory = memory })

-- or memory was wanted
pub starved-moves : (d : Disks) (s : Writing) (nodes : ℕ) (commands : List Command) (outcome : Outcome) (more : Further)
    → more ≡ further.Nothing → outcome ≡ OutOfMemory → (outcome ≡ OutOfMemory → Keeps s.written s.written_after)
    → IsMovedTo d s nodes commands outcome more
starved-moves d s nodes commands outcome more is wants keeps =
    subst (λ (m : Further). IsMovedTo d s nodes commands outcome m) (sym is) (wants, keeps wants)

-- what it came to is answered
pub moved-so : (c : Call) (h : List Entry) (nodes : ℕ) (commands : List Command) → IsMoved c.words c.source nodes commands → h ≡ []
    → (outcome : Outcome) (more : Further) → IsMovedTo c.disks c.sink nodes commands outcome more → Answers c outcome h more
moved-so c h nodes commands asked none outcome further.Nothing to =
    move-starved c h further.Nothing nodes commands asked (none, refl) outcome to.0 (λ is. to.1)
moved-so c h nodes commands asked none outcome (further.Twin log) to = absurd to
moved-so c h nodes commands asked none outcome (further.Move log) to =
    delivered c h (further.Move log) _
    (moved c h (further.Move log) nodes commands log _ asked none refl to.same_nodes to.same refl to.legal to.counts)
    outcome to.memory to.delivers

-- 3. Pairs of disks

-- what is said of disks by these is said by those
pub twins-keep-nothing : {D : Type 0} (obeys : Bool) (layout : Layout) (look : D → DiskSeen) (before after : List D) → length before ≡ 8
    → length after ≡ 8 → twin_disks.KeepNothing layout (map seen_before (disk_runs obeys look before after))
    → twin_disks.KeepNothing layout (map look before)
twins-keep-nothing obeys layout look before after b a none =
    let same : length after ≡ length before = omega (arith, a, b) in
    subst (λ (l : List DiskSeen). twin_disks.KeepNothing layout l) (handed-same obeys look before after same) none

pub twins-can-rise : {D C T : Type 0} (means : C → T) (commands : List C) (obeys : Bool) (look : D → DiskSeen) (before after : List D)
    → length before ≡ 8 → length after ≡ 8
    → twin_disks.CanRise (length (map means commands)) (map seen_before (disk_runs obeys look before after))
    → twin_disks.CanRise (length commands) (map look before)
twins-can-rise means commands obeys look before after b a rise =
    let same : length after ≡ length before = omega (arith, a, b) in
    subst (λ (k : ℕ). twin_disks.CanRise k (map look before)) (length-map commands means)
    (subst (λ (l : List DiskSeen). twin_disks.CanRise (length (map means commands)) l) (handed-same obeys look before after same) rise)

-- a script that was read can be carried out
pub twins-reach : (words : List (List ℕ)) (source : Reading) (commands : List twin_commands.Command) → IsTwinned words source commands
    → twin_scripts.AreInReach commands
twins-reach words source commands asked =
    let script : twin_scripts.IsTwinScript asked.twins.0 commands = asked.twins.2 in script.reach

as-many : (entries : List twin_logs.Entry) (commands : List twin_commands.Command) → twin_scripts.commands_of entries ≡ commands
    → length entries ≡ length commands
as-many entries commands same =
    sym (length-map entries (λ (e : twin_logs.Entry). e.command)) ∙ ap (λ (l : List twin_commands.Command). length l) same

-- it was carried out, and its text written
pub told-twins : (d : Disks) (s : Writing) (commands : List twin_commands.Command) (log : twin_coded.Log) (outcome : Outcome)
    (more : Further) → more ≡ further.Twin log → twin_scripts.commands_of (twin_view.log_of log).entries ≡ commands
    → (IsTrue d.tells → twin_disks.KeepNothing d.layout (handed_in d) → twin_disks.CanRise (length commands) (handed_in d)
    → twin_logs.IsLegalTwin (twin_view.log_of log))
    → RunsOver d.tells d.layout (twin_view.log_of log).entries (handed_in d) (given_back d)
    → AllCounted (twin_view.log_of log).entries (handed_in d) (given_back d)
    → Delivers s Ran (twins.text_of (twin_view.log_of log)) outcome
    → (outcome ≡ OutOfMemory → ⊥) → IsTwinnedTo d s commands outcome more
told-twins d s commands log outcome more is same legal runs counts delivers memory =
    subst (λ (m : Further). IsTwinnedTo d s commands outcome m) (sym is)
    (record { same = same; legal = legal; runs = runs; counts = counts; delivers = delivers; memory = memory })

-- or memory was wanted
pub starved-twins : (d : Disks) (s : Writing) (commands : List twin_commands.Command) (outcome : Outcome) (more : Further)
    → more ≡ further.Nothing → outcome ≡ OutOfMemory → (outcome ≡ OutOfMemory → Keeps s.written s.written_after)
    → IsTwinnedTo d s commands outcome more
starved-twins d s commands outcome more is wants keeps =
    subst (λ (m : Further). IsTwinnedTo d s commands outcome m) (sym is) (wants, keeps wants)

-- what it came to is answered
pub twinned-so : (c : Call) (h : List Entry) (commands : List twin_commands.Command) → IsTwinned c.words c.source commands → h ≡ []
    → (outcome : Outcome) (more : Further) → IsTwinnedTo c.disks c.sink commands outcome more → Answers c outcome h more
twinned-so c h commands asked none outcome further.Nothing to =
    twin-starved c h further.Nothing commands asked (none, refl) outcome to.0 (λ is. to.1)
twinned-so c h commands asked none outcome (further.Move log) to = absurd to
twinned-so c h commands asked none outcome (further.Twin log) to =
    let is_told : IsToldTwin c.disks c.sink commands (twin_view.log_of log) outcome = to in
    delivered c h (further.Twin log) _
    (twinned c h (further.Twin log) commands log _ asked none refl is_told.same refl
    (λ tells empty rise. is_told.legal tells empty (subst (λ k. twin_disks.CanRise k (handed_in c.disks))
    (as-many (twin_view.log_of log).entries commands is_told.same) rise)) is_told.runs is_told.counts)
    outcome is_told.memory is_told.delivers
