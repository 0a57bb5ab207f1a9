-- A script gives few entries besides those of turns, those of its boots included.
use Rattle.std.proofs.Common.{◌≡◌, ◌≤◌, ◌+◌, ◌*◌, ℕ, List, [], ◌∷◌, ◌++◌, length, codes, ap, arith, length-append, refl}
use Rattle.std.specs.List.{sum_by}
use Rattle.std.proofs.lemmas.List.Sums.{sum_by-cons}
use Rattle.epl_syntax.specs.Rules.OfTypes.{names_of}
use Rattle.journal.specs.declared.command.Command.{Command}
use Rattle.journal.specs.declared.command.Command.TheVariants as command
use Rattle.journal.specs.declared.command.Script.{Script}
use Rattle.journal.specs.Fit.{IsFit}
use Rattle.runs.specs.Room.{entries_of, entries_in}
use Rattle.runs.proofs.Few.{entries-are-few}
use Rattle.eden_script.specs.Grammar as grammar
use Rattle.eden_script.specs.Meaning.{written_command}
use Rattle.eden_script.specs.Script.{IsScript}
use Rattle.eden_script.proofs.Verdicts.{begins_with}
use Rattle.eden_script.proofs.FitCalls.{few_of, few_components, quoted_long, behind_short}

-- 1. One command

begins-long : (w rest bytes : List ℕ) → 3 ≤ length w → bytes ≡ w ++ rest → 3 ≤ length bytes
begins-long w rest bytes long is = omega (arith, long, ap (λ (l : List ℕ). length l) is, length-append w rest)

-- two bytes of its line are left over
abbrev weight : Command → ℕ
weight c = entries_of c + 2

one-short : (n : ℕ) (bytes : List ℕ) → n ≤ 1 → 3 ≤ length bytes → n + 2 ≤ length bytes
one-short n bytes few long = omega (arith, few, long)

weight-short : (c : Command) (bytes : List ℕ) → grammar.Command (written_command c) bytes → weight c ≤ length bytes
weight-short (command.Create name n t) bytes h =
    one-short 1 bytes (omega arith) (begins-long (codes "create ") h.1 bytes (omega arith) (begins_with _ _ bytes h))
weight-short (command.Hold name uid) bytes h =
    one-short 1 bytes (omega arith) (begins-long (codes "hold ") h.1 bytes (omega arith) (begins_with _ _ bytes h))
weight-short (command.Call name r op args) bytes h =
    one-short 1 bytes (omega arith) (begins-long (codes "call ") h.1 bytes (omega arith) (begins_with _ _ bytes h))
weight-short (command.Restrict name r mask) bytes h =
    one-short 1 bytes (omega arith) (begins-long (codes "restrict ") h.1 bytes (omega arith) (begins_with _ _ bytes h))
weight-short (command.Walk name r path) bytes h =
    let second = behind_short _ _ h.1 h.3 in
    let third = behind_short _ _ h.3.1 h.3.3 in
    let fourth = behind_short _ _ h.3.3.1 h.3.3.3 in
    let fifth = behind_short _ _ h.3.3.3.1 h.3.3.3.3 in
    omega (
      arith,
      few_components path,
      quoted_long path h.3.3.3.3.1 h.3.3.3.3.3,
      ap (λ (l : List ℕ). length l) (begins_with _ _ bytes h),
      length-append (codes "walk ") h.1,
      second,
      third,
      fourth,
      fifth,
    )
weight-short (command.Turn i) bytes h =
    one-short 0 bytes (omega arith) (begins-long (codes "turn ") h.1 bytes (omega arith) (begins_with _ _ bytes h))
weight-short (command.Go n) bytes h =
    one-short 0 bytes (omega arith) (begins-long (codes "go ") h.1 bytes (omega arith) (begins_with _ _ bytes h))
weight-short (command.Crash n how) bytes h =
    one-short 1 bytes (omega arith) (begins-long (codes "crash ") h.1 bytes (omega arith) (begins_with _ _ bytes h))
weight-short (command.Restart n) bytes h =
    one-short 1 bytes (omega arith) (begins-long (codes "restart ") h.1 bytes (omega arith) (begins_with _ _ bytes h))
weight-short (command.Cut a b) bytes h =
    one-short 1 bytes (omega arith) (begins-long (codes "cut ") h.1 bytes (omega arith) (begins_with _ _ bytes h))
weight-short (command.Join a b) bytes h =
    one-short 1 bytes (omega arith) (begins-long (codes "join ") h.1 bytes (omega arith) (begins_with _ _ bytes h))
weight-short (command.Fail n k) bytes h =
    one-short 1 bytes (omega arith) (begins-long (codes "fail ") h.1 bytes (omega arith) (begins_with _ _ bytes h))
weight-short (command.Stop n k how) bytes h =
    one-short 1 bytes (omega arith) (begins-long (codes "stop ") h.1 bytes (omega arith) (begins_with _ _ bytes h))
weight-short command.End bytes h = one-short 1 bytes (omega arith) (omega (arith, ap (λ (l : List ℕ). length l) h))

-- 2. All of them

weights : (cs : List Command) → sum_by weight cs ≡ entries_in cs + 2 * length cs
weights [] = refl
weights (c ∷ cs) = omega (arith, sum_by-cons weight c cs, weights cs)

-- Two bytes of each line are left over, and a command gives 1,025 entries at most: so there is room for eight boots.
pub few-entries : (bytes : List ℕ) (script : Script) → IsScript bytes script → IsFit script → length bytes ≤ 1048576
    → script.nodes + entries_in script.commands ≤ 1048576
few-entries bytes script is fit short = omega (
  arith,
  short,
  fit.nodes.1,
  weights script.commands,
  few_of weight weight-short bytes script is,
  entries-are-few (names_of script.types) script.nodes script.commands fit.commands,
)
