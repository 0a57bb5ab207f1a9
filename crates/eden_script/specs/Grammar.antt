-- How lines are spelled.
use Rattle.std.specs.Prelude.{◌≢◌, ℕ, ◌≤◌, List, codes}
use Rattle.eden_script.specs.Tree.{WrittenCommand, create, hold, call, restrict, walk, turn, go, crash, restart, cut, join}
use Rattle.script_words.specs.Tree.{row_depth}
use Rattle.eden_script.specs.Tree.{fail, stop}
use Rattle.eden_script.specs.Tree.{finish, Line, idle, nodes, does, declares, unended}
use Rattle.script_words.specs.Grammar.{Blank, CrashMode, Idle, Is, Lower, Mode, Number, Quoted, Refers, Upper, Values, ◌⋅◌}

-- the forms of commands
abbrev pub Command : WrittenCommand → List ℕ → Type 0
Command (create name n t) = Is (codes "create ") ⋅ Lower name ⋅ Blank ⋅ Number n ⋅ Blank ⋅ Upper t
Command (hold name n e s) = Is (codes "hold ") ⋅ Lower name ⋅ Blank ⋅ Number n ⋅ Is (codes ".") ⋅ Number e ⋅ Is (codes ".") ⋅ Number s
Command (call name r op args) =
    Is (codes "call ") ⋅ Lower name ⋅ Blank ⋅ Refers r ⋅ Is (codes ".") ⋅ Upper op ⋅ Is (codes "(") ⋅ Values args ⋅ Is (codes ")")
Command (restrict name r mask) = Is (codes "restrict ") ⋅ Lower name ⋅ Blank ⋅ Refers r ⋅ Blank ⋅ Number mask
Command (walk name r path) = Is (codes "walk ") ⋅ Lower name ⋅ Blank ⋅ Refers r ⋅ Blank ⋅ Quoted path
Command (turn i) = Is (codes "turn ") ⋅ Number i
Command (go n) = Is (codes "go ") ⋅ Number n
Command (crash n how) = Is (codes "crash ") ⋅ Number n ⋅ CrashMode how
Command (restart n) = Is (codes "restart ") ⋅ Number n
Command (cut a b) = Is (codes "cut ") ⋅ Number a ⋅ Blank ⋅ Number b
Command (join a b) = Is (codes "join ") ⋅ Number a ⋅ Blank ⋅ Number b
Command (fail n k) = Is (codes "fail ") ⋅ Number n ⋅ Blank ⋅ Number k
Command (stop n k how) = Is (codes "stop ") ⋅ Number n ⋅ Blank ⋅ Number k ⋅ Mode how
Command finish = Is (codes "end")

-- Lists are at most four deep, and the two stations of a link differ.
abbrev pub Holds : WrittenCommand → Type 0
Holds (call name r op args) = row_depth args ≤ 4
Holds (cut a b) = a ≢ b
Holds (join a b) = a ≢ b
Holds _ = Unit {0}

-- a line without its line feed says this
abbrev pub SpellsLine : Line → List ℕ → Type 0
SpellsLine idle bytes = Idle bytes
SpellsLine (nodes n) bytes = (Is (codes "nodes ") ⋅ Number n) bytes
SpellsLine (does o) bytes = Command o bytes × Holds o
SpellsLine (declares t) bytes = ⊥
SpellsLine unended bytes = ⊥
