-- Words that give `gen` a number ask for nothing else, and nothing hinders that.
use Rattle.std.proofs.Common.{◌≡◌, ℕ, true, false, List, [], ◌∷◌, codes, ap, refl, sym, ◌∙◌, subst, inl, inr}
use Rattle.std.specs.Prelude.{◌⊎◌}
use Rattle.std.specs.Str.{bytes_eq}
use Rattle.std.proofs.lemmas.Slice.Eq.{bytes_eq-Decides}
use Rattle.eden_io.specs.Causes.{Rose}
use Rattle.journal.specs.declared.event.Entry.{Entry}
use Rattle.journal.specs.declared.event.Mode.{Mode}
use Rattle.journal.specs.declared.event.Mode.TheVariants as mode
use Rattle.eden_script.specs.Script.{IsBadLine}
use Rattle.script_words.specs.declared.cause.ScriptCause.{ScriptCause}
use Rattle.shell_answers.specs.Words.{Asks, AsksFor}
use Rattle.shell_answers.specs.Reading.{Reading, HindersTask}
use Rattle.shell_answers.specs.Answers.{Call, Answers}
use Rattle.shell_answers.specs.declared.words.Job.TheVariants.{Run, Gen}
use Rattle.shell_answers.specs.declared.words.Task.{Task}
use Rattle.shell_answers.specs.declared.words.Task.TheVariants.{History, Wire, Move, Twin}
use Rattle.shell_answers.specs.declared.further.Further.{Further}
use Rattle.shell_answers.specs.declared.outcome.Outcome.{Outcome}
use Rattle.shell_answers.specs.declared.outcome.Outcome.TheVariants.{Ran, BadWords, BadScript, ReadFault, WriteFault, OutOfMemory, TooLong}
use Rattle.gen_laws.specs.Scripts.{ItHasNoBadLine}

-- the first of some words, or none
abbrev first : List (List ℕ) → List ℕ
first [] = []
first (word ∷ words) = word

apart : (word other : List ℕ) → bytes_eq word other ≡ false → (words others more : List (List ℕ)) → words ≡ word ∷ more
    → words ≡ other ∷ others → ⊥
apart word other differ words others more is bad =
    let same : word ≡ other = sym (ap first is) ∙ ap first bad in
    let yes : bytes_eq word other ≡ true = (bytes_eq-Decides word other).1 same in
    let wrong : false ≡ true = sym differ ∙ yes in cc wrong

module _ (words : List (List ℕ)) (number : ℕ) (asks : Asks words (Gen number)) where
  no-run : (m : Mode) → Asks words (Run m) → ⊥
  no-run mode.Plain (inl is) = apart (codes "gen") (codes "run") refl words [] (asks.0 ∷ []) asks.2 is
  no-run mode.Plain (inr is) = apart (codes "gen") (codes "host") refl words (is.0 ∷ []) (asks.0 ∷ []) asks.2 is.2
  no-run mode.Trace (inl is) = apart (codes "gen") (codes "run") refl words (codes "--trace" ∷ []) (asks.0 ∷ []) asks.2 is
  no-run mode.Trace (inr is) = apart (codes "gen") (codes "host") refl words (is.0 ∷ codes "--trace" ∷ []) (asks.0 ∷ []) asks.2 is.2
  no-run mode.Full is = apart (codes "gen") (codes "run") refl words (codes "--full" ∷ []) (asks.0 ∷ []) asks.2 is
  no-run mode.Summary is = is

  no-wire : AsksFor words Wire → ⊥
  no-wire is = apart (codes "gen") (codes "wire") refl words [] (asks.0 ∷ []) asks.2 is

  no-move : AsksFor words Move → ⊥
  no-move is = apart (codes "gen") (codes "move") refl words [] (asks.0 ∷ []) asks.2 is

  no-twin : AsksFor words Twin → ⊥
  no-twin is = apart (codes "gen") (codes "twin") refl words [] (asks.0 ∷ []) asks.2 is

  module _ (clean : ItHasNoBadLine) (s : Reading) where
    no-bad-script : (line : ℕ) (why : ScriptCause) (task : Task) → AsksFor words task → HindersTask s task (BadScript line why) → ⊥
    no-bad-script line why (History (Run m)) so h = no-run m so
    no-bad-script line why (History (Gen n)) so h = clean n line why (subst (λ bytes. IsBadLine bytes line why) h.1.1 h.2)
    no-bad-script line why Wire so h = no-wire so
    no-bad-script line why Move so h = no-move so
    no-bad-script line why Twin so h = no-twin so

    no-read-fault : (task : Task) → AsksFor words task → HindersTask s task ReadFault → ⊥
    no-read-fault (History (Run m)) so h = no-run m so
    no-read-fault (History (Gen n)) so h = h
    no-read-fault Wire so h = no-wire so
    no-read-fault Move so h = no-move so
    no-read-fault Twin so h = no-twin so

    not-too-long : (task : Task) → AsksFor words task → HindersTask s task TooLong → ⊥
    not-too-long (History (Run m)) so h = no-run m so
    not-too-long (History (Gen n)) so h = h
    not-too-long Wire so h = no-wire so
    not-too-long Move so h = no-move so
    not-too-long Twin so h = no-twin so

pub runs : ItHasNoBadLine → (c : Call) (outcome : Outcome) (history : List Entry) (more : Further) (number : ℕ)
    → Asks c.words (Gen number) → Answers c outcome history more → (Rose c.sink.faults c.sink.faults_after → ⊥) → (outcome ≡ Ran) ⊎ (outcome ≡ OutOfMemory)
runs clean c Ran history more number asks a fine = inl refl
runs clean c BadWords history more number asks (text, due, wrote) fine = absurd (due.refuses.0 (History (Gen number)) asks)
runs clean c (BadScript line why) history more number asks (text, due, wrote) fine =
    absurd (no-bad-script c.words number asks clean c.source line why due.refuses.0 due.refuses.1 due.refuses.2)
runs clean c ReadFault history more number asks (text, due, wrote) fine =
    absurd (no-read-fault c.words number asks clean c.source due.refuses.0 due.refuses.1 due.refuses.2)
runs clean c WriteFault history more number asks a fine = absurd (fine a.0)
runs clean c OutOfMemory history more number asks a fine = inr refl
runs clean c TooLong history more number asks (text, due, wrote) fine =
    absurd (not-too-long c.words number asks clean c.source due.refuses.0 due.refuses.1 due.refuses.2)
