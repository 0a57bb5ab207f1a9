-- What holds of every wire, and of every text.
use Rattle.std.specs.Prelude.{◌≡◌, ℕ, List}
use Rattle.script_words.specs.declared.cause.ScriptCause.{ScriptCause}
use Rattle.line_forms.specs.Forms.{Row}
use Rattle.line_forms.specs.Scripts.{IsScript, IsBadLine}
use Rattle.lossy_wire.specs.Wire.{IsStation, IsOrderly, quiet, pair_at}
use Rattle.lossy_wire.specs.Commands.{Command, AllInReach, wire_kind}
use Rattle.lossy_wire.specs.Texts.{wire_after, IsText}

-- Whatever the commands, what was delivered from a station to another is a front of what was sent, and no more is known.
abbrev pub WiresAreOrderly : Type 0
WiresAreOrderly =
    (commands : List Command) (a b : ℕ) → AllInReach commands → IsStation a → IsStation b
    → IsOrderly (pair_at (wire_after quiet commands) a b)

-- What is written is a function of the bytes that are read: no two texts are those of one script; and bytes that spell a script have
-- no bad line.
pub record TextsAreOne (bytes : List ℕ) : Type 0 where
  pub text : (text other : List ℕ) → IsText bytes text → IsText bytes other → text ≡ other
  pub apart : (stations line : ℕ) (rows : List Row) (cause : ScriptCause) → IsScript wire_kind bytes stations rows
      → IsBadLine wire_kind bytes line cause → ⊥
