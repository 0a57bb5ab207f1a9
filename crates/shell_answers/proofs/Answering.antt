-- From what was read, carried out and written to what is answered.
use Rattle.std.proofs.Common.{◌≡◌, ◌≤◌, ℕ, Bool, true, false, List, [], ◌++◌, length, refl, sym, ap, ◌∙◌, subst, arith, inl, inr}
use Rattle.std.proofs.Common.{◌==◌, if◌then◌else◌}
use Rattle.std.proofs.Common.{Option, Some, None}
use Rattle.std.proofs.Common.{length-append, append-nil, ◌∷◌}
use Rattle.std.specs.Prelude.{◌⊎◌, IsTrue}
use Rattle.std.specs.List.{All}
use Rattle.std.specs.Io.KnownBytes.{Consumes, IsAtEnd, Keeps, Appends}
use Rattle.eden_io.specs.Causes.{Rose}
use Rattle.eden_io.specs.Taken.{AppendsPart}
use Rattle.journal.specs.declared.command.Script.{Script}
use Rattle.journal.specs.declared.event.Mode.{Mode}
use Rattle.journal.specs.declared.event.Mode.TheVariants as mode
use Rattle.journal.specs.declared.event.Entry.{Entry}
use Rattle.journal.specs.Lines.{text_of}
use Rattle.script_words.specs.declared.cause.ScriptCause.{ScriptCause}
use Rattle.eden_script.specs.Script.{IsBadLine, AtMostOne}
use Rattle.line_forms.specs.Forms.{Kind}
use Rattle.line_forms.specs.One.{IsPlain, ScriptsAreOne}
use Rattle.line_forms.specs.Scripts as lines
use Rattle.lossy_wire.specs.Commands.{wire_kind}
use Rattle.lossy_wire.proofs.One.{wire_plain}
use Rattle.move_world.specs.Commands.{Command, move_kind}
use Rattle.move_world.specs.Counted.{CountsAsTold}
use Rattle.move_world.specs.Disks.{KeepNothing}
use Rattle.move_world.specs.Logs.{IsLegalMove}
use Rattle.move_world.specs.Texts as moves
use Rattle.move_world.specs.View.{log_of}
use Rattle.move_world.specs.Worlds.{commands_of}
use Rattle.move_world.specs.declared.answer.Log.{Log}
use Rattle.move_world.proofs.Meaning.{move_plain}
use Rattle.twin_world.specs.Commands as twin_commands
use Rattle.twin_world.specs.Commands.{twin_kind}
use Rattle.twin_world.specs.Disks as twin_disks
use Rattle.twin_world.specs.Logs as twin_logs
use Rattle.twin_world.specs.Scripts as twin_scripts
use Rattle.twin_world.specs.Texts as twins
use Rattle.twin_world.specs.View as twin_view
use Rattle.twin_world.specs.Worlds.{AllCounted, RunsOver}
use Rattle.twin_world.specs.declared.answer.Log as twin_coded
use Rattle.twin_world.proofs.Meaning.{twin_plain}
use Rattle.shell_answers.specs.Words.{Asks, AsksFor, mode_of}
use Rattle.shell_answers.specs.Outcomes.{line_of}
use Rattle.shell_answers.specs.Reading.{Reading, IsRead, TookTooMany, IsAsked, IsWired, IsMoved, IsTwinned, HindersRead, Hinders}
use Rattle.shell_answers.specs.Reading.{HindersLines, HindersTask, Refuses, SpellsFor, SpellsLines}
use Rattle.shell_answers.specs.Answers.{Call, IsUntouched, IsCarriedOut, IsNothing, HasRun, IsDone, IsNotBegun, IsRefused}
use Rattle.shell_answers.specs.Answers.{IsBegun, Answers, Delivers, given_back, handed_in}
use Rattle.shell_answers.specs.declared.words.Job.{Job}
use Rattle.shell_answers.specs.declared.words.Job.TheVariants.{Run, Gen}
use Rattle.shell_answers.specs.declared.words.Task.{Task}
use Rattle.shell_answers.specs.declared.words.Task.TheVariants.{History, Wire, Move, Twin}
use Rattle.shell_answers.specs.declared.further.Further.{Further}
use Rattle.shell_answers.specs.declared.further.Further.TheVariants as further
use Rattle.shell_answers.specs.declared.outcome.Outcome.{Outcome}
use Rattle.shell_answers.specs.declared.outcome.Outcome.TheVariants.{Ran, BadWords, BadScript, ReadFault, WriteFault, OutOfMemory, TooLong}

-- 1. Before a run

-- a source that cannot be read whole hinders a run
pub hinders_run : (s : Reading) (m : Mode) (o : Outcome) → HindersRead s o → Hinders s (Run m) o
hinders_run s m Ran h = h
hinders_run s m BadWords h = h
hinders_run s m (BadScript line why) h = absurd h
hinders_run s m ReadFault h = h
hinders_run s m WriteFault h = h
hinders_run s m OutOfMemory h = h
hinders_run s m TooLong h = h

-- and the reading of lines of any kind
pub hinders_lines : (kind : Kind) (s : Reading) (o : Outcome) → HindersRead s o → HindersLines kind s o
hinders_lines kind s Ran h = h
hinders_lines kind s BadWords h = h
hinders_lines kind s (BadScript line why) h = absurd h
hinders_lines kind s ReadFault h = h
hinders_lines kind s WriteFault h = h
hinders_lines kind s OutOfMemory h = h
hinders_lines kind s TooLong h = h

-- what hinders a task refuses the words that ask for it
pub refuses_task : (words : List (List ℕ)) (s : Reading) (task : Task) (o : Outcome) → AsksFor words task → HindersTask s task o
    → Refuses words s o
refuses_task words s (History (Run m)) Ran asks h = h
refuses_task words s (History (Gen number)) Ran asks h = h
refuses_task words s Wire Ran asks h = h
refuses_task words s Move Ran asks h = h
refuses_task words s Twin Ran asks h = h
refuses_task words s (History (Run m)) BadWords asks h = absurd h
refuses_task words s (History (Gen number)) BadWords asks h = absurd h
refuses_task words s Wire BadWords asks h = absurd h
refuses_task words s Move BadWords asks h = absurd h
refuses_task words s Twin BadWords asks h = absurd h
refuses_task words s task (BadScript line why) asks h = (task, asks, h)
refuses_task words s task ReadFault asks h = (task, asks, h)
refuses_task words s (History (Run m)) WriteFault asks h = h
refuses_task words s (History (Gen number)) WriteFault asks h = h
refuses_task words s Wire WriteFault asks h = h
refuses_task words s Move WriteFault asks h = h
refuses_task words s Twin WriteFault asks h = h
refuses_task words s (History (Run m)) OutOfMemory asks h = h
refuses_task words s (History (Gen number)) OutOfMemory asks h = h
refuses_task words s Wire OutOfMemory asks h = h
refuses_task words s Move OutOfMemory asks h = h
refuses_task words s Twin OutOfMemory asks h = h
refuses_task words s task TooLong asks h = (task, asks, h)

module _ (c : Call) (h : List Entry) (more : Further) (none : IsNothing h more) (untouched : All IsUntouched c.disks.runs) where
  not-begun : IsNotBegun c h more
  not-begun = record { nothing = none; disks = untouched }

  line-due : (o : Outcome) → Refuses c.words c.source o → IsRefused c o h more (line_of o)
  line-due o refuses = record { refuses = refuses; not_begun = not-begun; is_line = refl }

  -- the outcome that was due is answered
  refused-with : (o : Outcome) → Refuses c.words c.source o → Appends c.sink.written c.sink.written_after (line_of o) → Answers c o h more
  refused-with Ran refuses wrote = absurd refuses
  refused-with BadWords refuses wrote = (line_of BadWords, line-due BadWords refuses, wrote)
  refused-with (BadScript line why) refuses wrote = (line_of (BadScript line why), line-due (BadScript line why) refuses, wrote)
  refused-with ReadFault refuses wrote = (line_of ReadFault, line-due ReadFault refuses, wrote)
  refused-with WriteFault refuses wrote = absurd refuses
  refused-with OutOfMemory refuses wrote = absurd refuses
  refused-with TooLong refuses wrote = (line_of TooLong, line-due TooLong refuses, wrote)

  -- a write of its line failed
  refused-part : (o : Outcome) → Refuses c.words c.source o → Rose c.sink.faults c.sink.faults_after
      → AppendsPart c.sink.written c.sink.written_after (line_of o) → Answers c WriteFault h more
  refused-part Ran refuses rose part = absurd refuses
  refused-part BadWords refuses rose part = (rose, (BadWords, line_of BadWords, line-due BadWords refuses, part))
  refused-part (BadScript line why) refuses rose part =
      (rose, (BadScript line why, line_of (BadScript line why), line-due (BadScript line why) refuses, part))
  refused-part ReadFault refuses rose part = (rose, (ReadFault, line_of ReadFault, line-due ReadFault refuses, part))
  refused-part WriteFault refuses rose part = absurd refuses
  refused-part OutOfMemory refuses rose part = absurd refuses
  refused-part TooLong refuses rose part = (rose, (TooLong, line_of TooLong, line-due TooLong refuses, part))

  refused-for : (o outcome : Outcome) → Refuses c.words c.source o → Delivers c.sink o (line_of o) outcome
      → (outcome ≡ OutOfMemory → Keeps c.sink.written c.sink.written_after) → Answers c outcome h more
  refused-for o Ran refuses d keeps = subst (λ (x : Outcome). Answers c x h more) (sym d.0) (refused-with o refuses d.1)
  refused-for o BadWords refuses d keeps = subst (λ (x : Outcome). Answers c x h more) (sym d.0) (refused-with o refuses d.1)
  refused-for o (BadScript line why) refuses d keeps = subst (λ (x : Outcome). Answers c x h more) (sym d.0) (refused-with o refuses d.1)
  refused-for o ReadFault refuses d keeps = subst (λ (x : Outcome). Answers c x h more) (sym d.0) (refused-with o refuses d.1)
  refused-for o TooLong refuses d keeps = subst (λ (x : Outcome). Answers c x h more) (sym d.0) (refused-with o refuses d.1)
  refused-for o WriteFault refuses d keeps = refused-part o refuses d.0 d.1
  refused-for o OutOfMemory refuses d keeps = inl (not-begun, keeps refl)

  -- want of memory before a run
  pub starved : (outcome : Outcome) → outcome ≡ OutOfMemory → Keeps c.sink.written c.sink.written_after → Answers c outcome h more
  starved outcome is keeps = subst (λ (x : Outcome). Answers c x h more) (sym is) (inl (not-begun, keeps))

  pub refused : (o outcome : Outcome) → (o ≡ OutOfMemory) ⊎ Refuses c.words c.source o → Delivers c.sink o (line_of o) outcome
      → (outcome ≡ OutOfMemory → Keeps c.sink.written c.sink.written_after) → (o ≡ OutOfMemory → outcome ≡ OutOfMemory)
      → Answers c outcome h more
  refused o outcome (inl is) d keeps memory = starved outcome (memory is) (keeps (memory is))
  refused o outcome (inr refuses) d keeps memory = refused-for o outcome refuses d keeps

-- what a refusal is for is no fault of a write
pub no-write-fault : (words : List (List ℕ)) (s : Reading) (o : Outcome) → (o ≡ OutOfMemory) ⊎ Refuses words s o → o ≡ WriteFault → ⊥
no-write-fault words s o (inl is) other = let bad : OutOfMemory ≡ WriteFault = sym is ∙ other in cc bad
no-write-fault words s o (inr refuses) other = subst (Refuses words s) other refuses

-- 2. Behind a run

module _ (c : Call) (job : Job) (script : Script) (h : List Entry) (whole : Bool) (more : Further) (no_log : more ≡ further.Nothing)
    (asked : IsAsked c.words c.source job script) (carried : IsCarriedOut c.disks script h whole) where
  abbrev text : List ℕ
  text = text_of (mode_of job) h

  begun : AppendsPart c.sink.written c.sink.written_after text → (task : Task) × AsksFor c.words task × IsBegun task c h more
  begun part = (History job, asked.asks, record { script = script; asked = asked; legal = carried.legal; written = part; no_log = no_log })

  has-run : whole ≡ true → HasRun c job h more text
  has-run all = record {
    script = script;
    asked = asked;
    legal = carried.ended all;
    no_wants = carried.no_wants all;
    is_text = refl;
    no_log = no_log;
  }

  done : whole ≡ true → (task : Task) × AsksFor c.words task × IsDone task c h more text
  done all = (History job, asked.asks, has-run all)

  ran : (outcome : Outcome) → whole ≡ true → Delivers c.sink Ran text outcome → Answers c outcome h more
  ran Ran all d = (text, done all, d.1)
  ran BadWords all d = absurd (let bad : BadWords ≡ Ran = d.0 in cc bad)
  ran (BadScript line why) all d = absurd (let bad : BadScript line why ≡ Ran = d.0 in cc bad)
  ran ReadFault all d = absurd (let bad : ReadFault ≡ Ran = d.0 in cc bad)
  ran TooLong all d = absurd (let bad : TooLong ≡ Ran = d.0 in cc bad)
  ran WriteFault all d = (d.0, (Ran, text, done all, d.1))
  ran OutOfMemory all d = inr (begun d)

  pub concluded : (outcome : Outcome) → (whole ≡ true → Delivers c.sink Ran text outcome) → (whole ≡ false → outcome ≡ OutOfMemory)
      → AppendsPart c.sink.written c.sink.written_after text → Answers c outcome h more
  concluded outcome delivers short part = go whole refl
    where
      go : (b : Bool) → whole ≡ b → Answers c outcome h more
      go true is = ran outcome is (delivers is)
      go false is = subst (λ (x : Outcome). Answers c x h more) (sym (short is)) (inr (begun part))

-- 3. Behind a task whose text is made

module _ (c : Call) (h : List Entry) (more : Further) (text : List ℕ)
    (done : (task : Task) × AsksFor c.words task × IsDone task c h more text) where
  pub delivered : (outcome : Outcome) → (outcome ≡ OutOfMemory → ⊥) → Delivers c.sink Ran text outcome → Answers c outcome h more
  delivered Ran memory d = (text, done, d.1)
  delivered BadWords memory d = absurd (let bad : BadWords ≡ Ran = d.0 in cc bad)
  delivered (BadScript line why) memory d = absurd (let bad : BadScript line why ≡ Ran = d.0 in cc bad)
  delivered ReadFault memory d = absurd (let bad : ReadFault ≡ Ran = d.0 in cc bad)
  delivered TooLong memory d = absurd (let bad : TooLong ≡ Ran = d.0 in cc bad)
  delivered WriteFault memory d = (d.0, (Ran, text, done, d.1))
  delivered OutOfMemory memory d = absurd (memory refl)

-- a wire touches nothing
pub wired : (c : Call) (h : List Entry) (more : Further) (text : List ℕ) → IsNothing h more → All IsUntouched c.disks.runs
    → IsWired c.words c.source text → (task : Task) × AsksFor c.words task × IsDone task c h more text
wired c h more _ none untouched asked =
    (Wire, asked.asks, record { wire = asked.wire; not_begun = record { nothing = none; disks = untouched } })

-- the log of Ejects that wander has the commands that were read
module _ (c : Call) (h : List Entry) (more : Further) (nodes : ℕ) (commands : List Command) (log : Log) (text : List ℕ)
    (asked : IsMoved c.words c.source nodes commands) (no_history : h ≡ []) (is_log : more ≡ further.Move log)
    (same_nodes : log.nodes ≡ nodes) (same : commands_of (log_of log).entries ≡ commands) (is_text : text ≡ moves.text_of (log_of log))
    (legal : IsTrue c.disks.tells → KeepNothing c.disks.layout (handed_in c.disks) → IsLegalMove (log_of log))
    (counts : CountsAsTold (log_of log) (handed_in c.disks) (given_back c.disks)) where
  asked-so : IsMoved c.words c.source log.nodes (commands_of (log_of log).entries)
  asked-so = subst (λ (n : ℕ). IsMoved c.words c.source n (commands_of (log_of log).entries)) (sym same_nodes)
      (subst (λ (cs : List Command). IsMoved c.words c.source nodes cs) (sym same) asked)

  pub moved : (task : Task) × AsksFor c.words task × IsDone task c h more text
  moved = (
    Move,
    asked.asks,
    subst (λ (m : Further). IsDone Move c h m text) (sym is_log)
        (record { asked = asked-so; legal = legal; counts = counts; is_text = is_text; no_history = no_history }),
  )

-- want of memory ended it
pub move-starved : (c : Call) (h : List Entry) (more : Further) (nodes : ℕ) (commands : List Command)
    → IsMoved c.words c.source nodes commands → IsNothing h more → (outcome : Outcome) → outcome ≡ OutOfMemory
    → (outcome ≡ OutOfMemory → Keeps c.sink.written c.sink.written_after) → Answers c outcome h more
move-starved c h more nodes commands asked none outcome is keeps = subst (λ (x : Outcome). Answers c x h more) (sym is)
    (inr (Move, asked.asks, record { nodes = nodes; commands = commands; asked = asked; nothing = none; unwritten = keeps is }))

-- the log of pairs of disks has the commands that were read
module _ (c : Call) (h : List Entry) (more : Further) (commands : List twin_commands.Command) (log : twin_coded.Log) (text : List ℕ)
    (asked : IsTwinned c.words c.source commands) (no_history : h ≡ []) (is_log : more ≡ further.Twin log)
    (same : twin_scripts.commands_of (twin_view.log_of log).entries ≡ commands) (is_text : text ≡ twins.text_of (twin_view.log_of log))
    (legal : IsTrue c.disks.tells → twin_disks.KeepNothing c.disks.layout (handed_in c.disks)
    → twin_disks.CanRise (length (twin_view.log_of log).entries) (handed_in c.disks) → twin_logs.IsLegalTwin (twin_view.log_of log))
    (runs : RunsOver c.disks.tells c.disks.layout (twin_view.log_of log).entries (handed_in c.disks) (given_back c.disks))
    (counts : AllCounted (twin_view.log_of log).entries (handed_in c.disks) (given_back c.disks)) where
  pub twinned : (task : Task) × AsksFor c.words task × IsDone task c h more text
  twinned = (
    Twin,
    asked.asks,
    subst (λ (m : Further). IsDone Twin c h m text) (sym is_log) (record {
      asked = subst (λ (cs : List twin_commands.Command). IsTwinned c.words c.source cs) (sym same) asked;
      legal = legal;
      runs = runs;
      counts = counts;
      is_text = is_text;
      no_history = no_history;
    }),
  )

-- want of memory ended it
pub twin-starved : (c : Call) (h : List Entry) (more : Further) (commands : List twin_commands.Command)
    → IsTwinned c.words c.source commands → IsNothing h more → (outcome : Outcome) → outcome ≡ OutOfMemory
    → (outcome ≡ OutOfMemory → Keeps c.sink.written c.sink.written_after) → Answers c outcome h more
twin-starved c h more commands asked none outcome is keeps = subst (λ (x : Outcome). Answers c x h more) (sym is)
    (inr (Twin, asked.asks, record { commands = commands; asked = asked; nothing = none; unwritten = keeps is }))

-- 4. A text that spells a script runs

taken-few : (all taken : List ℕ) (after : Option (List ℕ)) → Consumes (Some all) after taken → length taken ≤ length all
taken-few all taken None is = absurd is
taken-few all taken (Some rest) is = omega (arith, ap length is, length-append taken rest)

taken-all : (all taken : List ℕ) (after : Option (List ℕ)) → Consumes (Some all) after taken → IsAtEnd after → taken ≡ all
taken-all all taken None is end = absurd is
taken-all all taken (Some rest) is end = sym (is ∙ ap (λ r. taken ++ r) end ∙ append-nil taken)

-- what a task reads, and how
data Sort : Type 0 where
  runs : Sort
  gens : Sort
  wires : Sort
  wanderers : Sort
  pairs : Sort

abbrev sort_of : Task → Sort
sort_of (History (Run m)) = runs
sort_of (History (Gen number)) = gens
sort_of Wire = wires
sort_of Move = wanderers
sort_of Twin = pairs

-- the first byte of some words, by which tasks differ
abbrev first_byte : List (List ℕ) → ℕ
first_byte [] = 0
first_byte ([] ∷ words) = 0
first_byte ((byte ∷ bytes) ∷ words) = byte

abbrev sort_by : ℕ → Sort
sort_by byte =
    if byte == 103 then gens
    else (if byte == 119 then wires
    else (if byte == 109 then wanderers
    else (if byte == 116 then pairs
    else runs)))

sort-of-run : (words : List (List ℕ)) (m : Mode) → Asks words (Run m) → sort_by (first_byte words) ≡ runs
sort-of-run words mode.Plain (inl a) = ap (λ (l : List (List ℕ)). sort_by (first_byte l)) a
sort-of-run words mode.Plain (inr a) = ap (λ (l : List (List ℕ)). sort_by (first_byte l)) a.2
sort-of-run words mode.Trace (inl a) = ap (λ (l : List (List ℕ)). sort_by (first_byte l)) a
sort-of-run words mode.Trace (inr a) = ap (λ (l : List (List ℕ)). sort_by (first_byte l)) a.2
sort-of-run words mode.Full a = ap (λ (l : List (List ℕ)). sort_by (first_byte l)) a
sort-of-run words mode.Summary a = absurd a

its-sort : (words : List (List ℕ)) (task : Task) → AsksFor words task → sort_by (first_byte words) ≡ sort_of task
its-sort words (History (Run m)) a = sort-of-run words m a
its-sort words (History (Gen number)) a = ap (λ (l : List (List ℕ)). sort_by (first_byte l)) a.2
its-sort words Wire a = ap (λ (l : List (List ℕ)). sort_by (first_byte l)) a
its-sort words Move a = ap (λ (l : List (List ℕ)). sort_by (first_byte l)) a
its-sort words Twin a = ap (λ (l : List (List ℕ)). sort_by (first_byte l)) a

-- what was read has this bad line, as a script of its sort
abbrev IsBadAs : Sort → Reading → ℕ → ScriptCause → Type 0
IsBadAs runs s line why = (bytes : List ℕ) × IsRead s bytes × IsBadLine bytes line why
IsBadAs gens s line why = Unit {0}
IsBadAs wires s line why = HindersLines wire_kind s (BadScript line why)
IsBadAs wanderers s line why = HindersLines move_kind s (BadScript line why)
IsBadAs pairs s line why = HindersLines twin_kind s (BadScript line why)

bad-as : (s : Reading) (task : Task) (line : ℕ) (why : ScriptCause) → HindersTask s task (BadScript line why)
    → IsBadAs (sort_of task) s line why
bad-as s (History (Run m)) line why h = h
bad-as s (History (Gen number)) line why h = tt
bad-as s Wire line why h = h
bad-as s Move line why h = h
bad-as s Twin line why h = h

-- no words ask for two tasks that read otherwise
bad-for : (words : List (List ℕ)) (s : Reading) (task other : Task) → AsksFor words task → AsksFor words other → (line : ℕ)
    (why : ScriptCause) → HindersTask s other (BadScript line why) → IsBadAs (sort_of task) s line why
bad-for words s task other asks asked line why h = subst (λ (sort : Sort). IsBadAs sort s line why)
    (sym (its-sort words other asked) ∙ its-sort words task asks) (bad-as s other line why h)

module _ (c : Call) (bytes : List ℕ) (one : AtMostOne bytes) (all : ScriptsAreOne) (left : c.source.left ≡ Some bytes) where
  read-all : (read : List ℕ) → IsRead c.source read → read ≡ bytes
  read-all read is =
      taken-all bytes read c.source.left_after (subst (λ (l : Option (List ℕ)). Consumes l c.source.left_after read) left is.taken) is.whole

  -- no line of a script of a kind is bad
  no-bad-lines : (kind : Kind) → IsPlain kind → SpellsLines kind bytes → (line : ℕ) (why : ScriptCause)
      → HindersLines kind c.source (BadScript line why) → ⊥
  no-bad-lines kind plain spells line why (read, has, bad) =
      (all kind bytes plain).apart spells.0 line spells.1 why spells.2
      (subst (λ (b : List ℕ). lines.IsBadLine kind b line why) (read-all read has) bad)

  -- nor is one of what a task reads
  no-bad-line : (task : Task) → SpellsFor task bytes → (line : ℕ) (why : ScriptCause) → IsBadAs (sort_of task) c.source line why → ⊥
  no-bad-line (History (Run m)) spells line why (read, has, bad) =
      one.apart line spells.0 why spells.1 (subst (λ (b : List ℕ). IsBadLine b line why) (read-all read has) bad)
  no-bad-line (History (Gen number)) spells line why bad = absurd spells
  no-bad-line Wire spells line why bad = no-bad-lines wire_kind wire_plain spells line why bad
  no-bad-line Move spells line why bad = no-bad-lines move_kind move_plain spells line why bad
  no-bad-line Twin spells line why bad = no-bad-lines twin_kind twin_plain spells line why bad

  took-few : length bytes ≤ 1048576 → TookTooMany c.source → ⊥
  took-few few it =
      let more = it.more in
      let fewer = taken-few bytes it.bytes c.source.left_after
      (subst (λ (l : Option (List ℕ)). Consumes l c.source.left_after it.bytes) left it.taken) in
      omega (arith, more, fewer, few)

  no-more : length bytes ≤ 1048576 → (other : Task) → HindersTask c.source other TooLong → ⊥
  no-more few (History (Run n)) took = took-few few took
  no-more few (History (Gen number)) took = took
  no-more few Wire took = took-few few took
  no-more few Move took = took-few few took
  no-more few Twin took = took-few few took

  no-read-fault : (Rose c.source.faults c.source.faults_after → ⊥) → (other : Task) → HindersTask c.source other ReadFault → ⊥
  no-read-fault none (History (Run n)) rose = none rose
  no-read-fault none (History (Gen number)) rose = rose
  no-read-fault none Wire rose = none rose
  no-read-fault none Move rose = none rose
  no-read-fault none Twin rose = none rose

  pub complete : (h : List Entry) (more : Further) (task : Task) → AsksFor c.words task → SpellsFor task bytes → length bytes ≤ 1048576
      → (Rose c.source.faults c.source.faults_after → ⊥) → (Rose c.sink.faults c.sink.faults_after → ⊥)
      → (outcome : Outcome) → Answers c outcome h more → (outcome ≡ Ran) ⊎ (outcome ≡ OutOfMemory)
  complete h more task asks spells few reads writes Ran a = inl refl
  complete h more task asks spells few reads writes OutOfMemory a = inr refl
  complete h more task asks spells few reads writes WriteFault a = absurd (writes a.0)
  complete h more task asks spells few reads writes BadWords a =
      let is : IsRefused c BadWords h more a.0 = a.1 in absurd (is.refuses.0 task asks)
  complete h more task asks spells few reads writes (BadScript line why) a =
      let is : IsRefused c (BadScript line why) h more a.0 = a.1 in
      absurd (no-bad-line task spells line why (bad-for c.words c.source task is.refuses.0 asks is.refuses.1 line why is.refuses.2))
  complete h more task asks spells few reads writes ReadFault a =
      let is : IsRefused c ReadFault h more a.0 = a.1 in absurd (no-read-fault reads is.refuses.0 is.refuses.2)
  complete h more task asks spells few reads writes TooLong a =
      let is : IsRefused c TooLong h more a.0 = a.1 in absurd (no-more few is.refuses.0 is.refuses.2)
