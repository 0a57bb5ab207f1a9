-- The commands of a script ask for at most as many calls as its text has bytes.
use Rattle.std.proofs.Common.{◌≡◌, ◌∙◌, ap, sym, subst, ℕ, suc, ◌+◌, ◌≤◌, ◌==◌, Bool, true, false, cond, List, [], ◌∷◌, ◌++◌, map}
use Rattle.std.proofs.Common.{length, codes, arith, length-append}
use Rattle.std.specs.Prelude.{◌||◌}
use Rattle.std.specs.List.{sum_by}
use Rattle.std.proofs.lemmas.List.Sums.{sum_by-cons}
use Rattle.journal.specs.declared.command.Command.{Command}
use Rattle.journal.specs.declared.command.Command.TheVariants as command
use Rattle.journal.specs.declared.command.Script.{Script}
use Rattle.journal.specs.Run.{joined_to, components}
use Rattle.journal.specs.Fit.{calls_of}
use Rattle.script_words.specs.Form.{quoted}
use Rattle.eden_script.specs.Parts.{Part, line, declaration, unclosed, begins_type, ends_type, parts_of, parts_behind}
use Rattle.script_words.specs.Lines.{onto, lines_of}
use Rattle.eden_script.specs.Tree.{WrittenCommand, Line, idle, nodes, does, declares, unended}
use Rattle.eden_script.specs.Grammar as grammar
use Rattle.script_words.specs.Grammar.{◌⋅◌, Quoted}
use Rattle.eden_script.specs.Causes.{Seen, at_first, LineTells, IsSaid}
use Rattle.eden_script.specs.Meaning.{written_command}
use Rattle.eden_script.specs.Script.{after, commands_of, Says, IsScript}
use Rattle.eden_script.proofs.Verdicts.{both, begins_with}
use Rattle.eden_script.proofs.FitScripts.{head_or, tail_of, none_here}

-- ## The bytes of the lines that are no part of an Edentype

abbrev bytes_in : List (List ℕ) → ℕ
bytes_in [] = 0
bytes_in (bytes ∷ lines) = length bytes + bytes_in lines

abbrev room : Part → ℕ
room (line bytes) = length bytes
room (declaration text) = 0
room (unclosed lines) = 0

abbrev rooms : List Part → ℕ
rooms [] = 0
rooms (p ∷ ps) = room p + rooms ps

chosen : (b : Bool) (x y : List Part) (n : ℕ) → rooms x ≤ n → rooms y ≤ n → rooms (cond b x y) ≤ n
chosen true x y n h k = h
chosen false x y n h k = k

mutual
  parts_room : (lines : List (List ℕ)) → rooms (parts_of lines) ≤ bytes_in lines
  parts_room [] = omega arith
  parts_room (bytes ∷ lines) =
      chosen (begins_type bytes) (parts_behind (bytes ++ 10 ∷ []) lines) (line bytes ∷ parts_of lines) (bytes_in (bytes ∷ lines))
      (omega (arith, behind_room (bytes ++ 10 ∷ []) lines)) (omega (arith, parts_room lines))

  behind_room : (text : List ℕ) (lines : List (List ℕ)) → rooms (parts_behind text lines) ≤ bytes_in lines
  behind_room text [] = omega arith
  behind_room text (bytes ∷ lines) =
      chosen (ends_type bytes) (declaration (text ++ bytes) ∷ parts_of lines) (parts_behind (text ++ (bytes ++ 10 ∷ [])) lines)
      (bytes_in (bytes ∷ lines))
      (omega (arith, parts_room lines)) (omega (arith, behind_room (text ++ (bytes ++ 10 ∷ [])) lines))

onto_room : (b : ℕ) (lines : List (List ℕ)) → bytes_in (onto b lines) ≤ suc (bytes_in lines)
onto_room b [] = omega arith
onto_room b (bytes ∷ lines) = omega arith

one_line_more : (c : Bool) (b : ℕ) (lines : List (List ℕ)) → bytes_in (cond c ([] ∷ lines) (onto b lines)) ≤ suc (bytes_in lines)
one_line_more true b lines = omega arith
one_line_more false b lines = onto_room b lines

lines_room : (bytes : List ℕ) → bytes_in (lines_of bytes) ≤ length bytes
lines_room [] = omega arith
lines_room (b ∷ bytes) = omega (arith, one_line_more (b == 10) b (lines_of bytes), lines_room bytes)

-- ## The calls of one command

joined_short : (b : ℕ) (cs : List (List ℕ)) (n : ℕ) → length cs ≤ suc n → length (joined_to b cs) ≤ suc n
joined_short b [] n h = omega arith
joined_short b (c ∷ cs) n h = omega (arith, h)

component_more : (c : Bool) (b : ℕ) (cs : List (List ℕ)) (n : ℕ) → length cs ≤ suc n
    → length (cond c ([] ∷ cs) (joined_to b cs)) ≤ suc (suc n)
component_more true b cs n h = omega (arith, h)
component_more false b cs n h = omega (arith, joined_short b cs n h)

pub few_components : (path : List ℕ) → length (components path) ≤ suc (length path)
few_components [] = omega arith
few_components (b ∷ path) = component_more (b == 47) b (components path) (length path) (few_components path)

quoted_more : (c : Bool) (b : ℕ) (bytes : List ℕ) (n : ℕ) → n ≤ length bytes → suc n ≤ length (cond c (92 ∷ b ∷ []) (b ∷ []) ++ bytes)
quoted_more true b bytes n h = omega (arith, h)
quoted_more false b bytes n h = omega (arith, h)

quoted_grows : (t : List ℕ) → length t ≤ length (quoted t)
quoted_grows [] = omega arith
quoted_grows (b ∷ t) = quoted_more (b == 34 || b == 92) b (quoted t) (length t) (quoted_grows t)

-- what stands behind is no longer
pub behind_short : (P Q : List ℕ → Type 0) (bytes : List ℕ) (h : (P ⋅ Q) bytes) → length h.1 ≤ length bytes
behind_short P Q bytes h = omega (arith, ap (λ (l : List ℕ). length l) h.4, length-append h.0 h.1)

pub quoted_long : (t bytes : List ℕ) → Quoted t bytes → suc (length t) ≤ length bytes
quoted_long t bytes h = omega (arith, ap (λ (l : List ℕ). length l) h.0, length-append (quoted t) (34 ∷ []), quoted_grows t)

call_long : (rest bytes : List ℕ) → bytes ≡ codes "call " ++ rest → 1 ≤ length bytes
call_long rest bytes e = omega (arith, ap (λ (l : List ℕ). length l) e)

calls_short : (c : Command) (bytes : List ℕ) → grammar.Command (written_command c) bytes → calls_of c ≤ length bytes
calls_short (command.Create name n t) bytes h = omega arith
calls_short (command.Hold name uid) bytes h = omega arith
calls_short (command.Call name r op args) bytes h = call_long h.1 bytes (begins_with _ _ bytes h)
calls_short (command.Restrict name r mask) bytes h = omega arith
calls_short (command.Walk name r path) bytes h =
    let first = behind_short _ _ bytes h in
    let second = behind_short _ _ h.1 h.3 in
    let third = behind_short _ _ h.3.1 h.3.3 in
    let fourth = behind_short _ _ h.3.3.1 h.3.3.3 in
    let fifth = behind_short _ _ h.3.3.3.1 h.3.3.3.3 in
    omega (arith, few_components path, quoted_long path h.3.3.3.3.1 h.3.3.3.3.3, first, second, third, fourth, fifth)
calls_short (command.Turn i) bytes h = omega arith
calls_short (command.Go n) bytes h = omega arith
calls_short (command.Crash n how) bytes h = omega arith
calls_short (command.Restart n) bytes h = omega arith
calls_short (command.Cut a b) bytes h = omega arith
calls_short (command.Join a b) bytes h = omega arith
calls_short (command.Fail n k) bytes h = omega arith
calls_short (command.Stop n k how) bytes h = omega arith
calls_short command.End bytes h = omega arith

-- ## All commands

abbrev is_command : Line → Bool
is_command (does o) = true
is_command _ = false

declares_nothing : (l : Line) (o : WrittenCommand) → is_command l ≡ false → l ≡ does o → ⊥
declares_nothing l o e f = both (sym (ap is_command f) ∙ e)

-- A weight of commands that is at most the length of the line of each: the calls, for one.
module _ (weight : Command → ℕ) (short : (c : Command) (bytes : List ℕ) → grammar.Command (written_command c) bytes
    → weight c ≤ length bytes)
  where
    said_room : (seen : Seen) (p : Part) (l : Line) → IsSaid seen p l → (c : Command) → l ≡ does (written_command c) → weight c ≤ room p
    said_room seen (line bytes) l h c e = short c bytes (subst (λ (k : Line). LineTells seen bytes k) e h.tells).0.0
    said_room seen (declaration text) l h c e = absurd (declares_nothing l (written_command c) (ap is_command h.tells.1) e)
    said_room seen (unclosed lines) l h c e = absurd (declares_nothing l (written_command c) (ap is_command h.tells) e)

    -- of all commands behind some parts
    abbrev FewTo : List Part → Seen → Type 0
    FewTo ps end = (seen : Seen) (cs : List Command) → Says seen ps (map written_command cs) end → sum_by weight cs ≤ rooms ps

    does_few : (ps : List Part) (end seen : Seen) (n : ℕ) → FewTo ps end → (o : WrittenCommand) (rest : List WrittenCommand)
        → ((c : Command) → o ≡ written_command c → weight c ≤ n) → Says (after seen (does o)) ps rest end
        → (cs : List Command) → map written_command cs ≡ o ∷ rest → sum_by weight cs ≤ n + rooms ps
    does_few ps end seen n few o rest room more [] e = absurd (none_here o rest e)
    does_few ps end seen n few o rest room more (c ∷ cs) e =
        let this : o ≡ written_command c = sym (ap (head_or o) e) in
        let those : rest ≡ map written_command cs = sym (ap tail_of e) in
        omega (
          arith,
          sum_by-cons weight c cs,
          room c this,
          few (after seen (does o)) cs (subst (λ (os : List WrittenCommand). Says (after seen (does o)) ps os end) those more),
        )

    line_few : (ps : List Part) (end seen : Seen) (n : ℕ) → FewTo ps end → (l : Line)
        → ((c : Command) → l ≡ does (written_command c) → weight c ≤ n)
        → (rest : List WrittenCommand) → Says (after seen l) ps rest end
        → (cs : List Command) → map written_command cs ≡ commands_of l ++ rest → sum_by weight cs ≤ n + rooms ps
    line_few ps end seen n few idle room rest more cs e =
        omega (arith, few seen cs (subst (λ (os : List WrittenCommand). Says seen ps os end) (sym e) more))
    line_few ps end seen n few (nodes m) room rest more cs e =
        omega (
          arith,
          few (after seen (nodes m)) cs (subst (λ (os : List WrittenCommand). Says (after seen (nodes m)) ps os end)
              (sym e) more),
        )
    line_few ps end seen n few (does o) room rest more cs e =
        does_few ps end seen n few o rest (λ c f. room c (ap (λ (q : WrittenCommand). does q) f)) more cs e
    line_few ps end seen n few (declares u) room rest more cs e =
        omega (
          arith,
          few (after seen (declares u)) cs (subst (λ (os : List WrittenCommand). Says (after seen (declares u)) ps os end)
              (sym e) more),
        )
    line_few ps end seen n few unended room rest more cs e =
        omega (arith, few (after seen unended) cs (subst (λ (os : List WrittenCommand). Says (after seen unended) ps os end) (sym e) more))

    no_calls : (cs : List Command) → map written_command cs ≡ [] → sum_by weight cs ≤ 0
    no_calls [] e = omega arith
    no_calls (c ∷ cs) e = absurd (none_here (written_command c) (map written_command cs) (sym e))

    few_behind : (ps : List Part) (end : Seen) → FewTo ps end
    few_behind [] end seen cs says = no_calls cs says.0
    few_behind (p ∷ ps) end seen cs says =
        line_few ps end seen (room p) (few_behind ps end) says.0 (said_room seen p says.0 says.2) says.1 says.4 cs says.3

    pub few_of : (bytes : List ℕ) (script : Script) → IsScript bytes script → sum_by weight script.commands ≤ length bytes
    few_of bytes script s =
        omega
        (arith, few_behind (parts_of (lines_of bytes)) s.end at_first script.commands s.says, parts_room (lines_of bytes), lines_room bytes)

pub few_calls : (bytes : List ℕ) (script : Script) → IsScript bytes script → sum_by calls_of script.commands ≤ length bytes
few_calls = few_of calls_of calls_short
