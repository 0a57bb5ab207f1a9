-- What a checker of traces answers, and what shows that it is right.
use Rattle.std.specs.Prelude.{◌≡◌, ◌≤◌, ◌<◌, ℕ, suc, ◌==◌, cond, List, [], ◌∷◌, length, take, codes, ◌++◌}
use Rattle.std.specs.List.{All}
use Rattle.std.specs.Fmt.{decimal}
use Rattle.passive_store.specs.Kept.{Layout}
use Rattle.passive_store.specs.Layout.{IsLayout}
use Rattle.journal.specs.declared.command.Script.{Script}
use Rattle.journal.specs.declared.event.Entry.{Entry}
use Rattle.journal.specs.declared.event.Mode.TheVariants.{Full}
use Rattle.journal.specs.World.{World}
use Rattle.journal.specs.Lines.{entry_text, text_of}
use Rattle.journal.specs.Fit.{IsFit}
use Rattle.journal.specs.Standing.{DiskRun}
use Rattle.journal.specs.LegalRun.{AreHandedIn, opening_world}
use Rattle.journal.specs.Run.{Position, IsDue, Follows, FollowsSoFar, end_of, beginning, over, joined_to}
use Rattle.trace_laws.specs.Determined.{HasClocks}
use Rattle.trace_laws.specs.Endings.{NodesMayBoot}

-- 1. Lines

-- the lines of a text, each with its line feed; what stands behind the last line feed, if anything does, is a line too
abbrev pub lines_of : List ℕ → List (List ℕ)
lines_of [] = []
lines_of (b ∷ bs) = cond (b == 10) ((b ∷ []) ∷ lines_of bs) (joined_to b (lines_of bs))

-- a text has the first k lines of a trace as its first lines, and the trace has so many
pub record BeginsAs (trace : List ℕ) (k : ℕ) (text : List ℕ) : Type 0 where
  pub many : k ≤ length (lines_of trace)
  pub same : take k (lines_of text) ≡ take k (lines_of trace)

-- Each entry is whole lines: behind its text the lines go on.
abbrev pub EntriesAreWholeLines : Type 0
EntriesAreWholeLines = (e : Entry) (rest : List ℕ)
    → lines_of (entry_text Full e ++ rest) ≡ lines_of (entry_text Full e) ++ lines_of rest

-- 2. Legal texts

-- the text is that, in the mode Full, of a history that follows the script from this world, all of whose clocks are of 64 bits
pub record IsLegalText (opened : World) (script : Script) (text : List ℕ) : Type 0 where
  pub history : List Entry
  pub follows : Follows opened script.nodes script.commands history
  pub clocks : All HasClocks history
  pub is_text : text ≡ text_of Full history

-- such a text begins as the trace does, for k lines
pub record HasFront (opened : World) (script : Script) (trace : List ℕ) (k : ℕ) : Type 0 where
  pub text : List ℕ
  pub legal : IsLegalText opened script text
  pub begins : BeginsAs trace k text

-- 3. The answer

-- yes, or the number of a line, from 1
pub data Verdict : Type 0 where
  yes : Verdict
  none_from : ℕ → Verdict

-- The first line with which no legal text begins: with the lines before it some does, unless it is the first; with it none does. The trace
-- itself is no legal text then; that says something where the number is one past its last line.
pub record IsFirstBad (opened : World) (script : Script) (trace : List ℕ) (k : ℕ) : Type 0 where
  pub counted : 1 ≤ k
  pub not_legal : IsLegalText opened script trace → ⊥
  pub before : (j : ℕ) → 1 ≤ j → j < k → HasFront opened script trace j
  pub none : HasFront opened script trace k → ⊥

-- this is the verdict of a trace: whether it is a legal text, or else its first bad line
abbrev pub IsVerdict : World → Script → List ℕ → Verdict → Type 0
IsVerdict opened script trace yes = IsLegalText opened script trace
IsVerdict opened script trace (none_from k) = IsFirstBad opened script trace k

-- the line that is written
abbrev pub verdict_text : Verdict → List ℕ
verdict_text yes = codes "yes\n"
verdict_text (none_from k) = codes "no line " ++ decimal k ++ codes "\n"

-- No trace has two verdicts.
abbrev pub HasOneVerdict : Type 0
HasOneVerdict = (opened : World) (script : Script) (trace : List ℕ) (v w : Verdict)
    → IsVerdict opened script trace v → IsVerdict opened script trace w → v ≡ w

-- 4. What shows that a line is the first bad one

-- none of the entries that are due behind this history agrees with the trace for k lines, whatever stands behind it
abbrev pub NoneAgrees : Position → List Entry → List ℕ → ℕ → Type 0
NoneAgrees p history trace k = (e : Entry) (later : List ℕ) → IsDue p e → HasClocks e
    → take k (lines_of (text_of Full history ++ (entry_text Full e ++ later))) ≡ take k (lines_of trace) → ⊥

-- What is found at a position of the script: its history so far stands in front of the trace and has no more than j lines; no entry that is
-- due there agrees with the trace for one line more; and some history so far has the first j lines of the trace.
pub record ShowsFirstBad (opened : World) (script : Script) (trace : List ℕ) (j : ℕ) : Type 0 where
  pub history : List Entry
  pub rest : List ℕ
  pub begins : FollowsSoFar opened script.nodes script.commands history
  pub clocks : All HasClocks history
  pub stands : trace ≡ text_of Full history ++ rest
  pub few : length (lines_of (text_of Full history)) ≤ j
  -- the script is not at its end with the trace
  pub unended : (end_of (beginning opened script.nodes script.commands) history).due ≡ over → rest ≡ [] → ⊥
  pub none_agrees : NoneAgrees (end_of (beginning opened script.nodes script.commands) history) history trace (suc j)
  -- the history so far that has the lines before
  pub best : List Entry
  pub best_begins : FollowsSoFar opened script.nodes script.commands best
  pub best_clocks : All HasClocks best
  pub best_many : j ≤ length (lines_of (text_of Full best))
  pub best_same : BeginsAs trace j (text_of Full best)

-- Then the next line is the first bad one.
abbrev pub FirstBadLinesAreShown : Type 0
FirstBadLinesAreShown = (layout : Layout) (script : Script) (disks : List DiskRun) (trace : List ℕ) (j : ℕ)
    → IsLayout layout → AreHandedIn layout disks → IsFit script → NodesMayBoot (opening_world layout script disks) script
    → ShowsFirstBad (opening_world layout script disks) script trace j
    → IsFirstBad (opening_world layout script disks) script trace (suc j)
