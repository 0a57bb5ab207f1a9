-- The whole script of a number.
use Rattle.std.proofs.Common.{◌≡◌, ℕ, List, [], ◌∷◌, ◌++◌, map, codes, refl, sym, ap, ◌∙◌, subst, inr, append_assoc}
use Rattle.std.proofs.lemmas.Bool.{leb-true}
use Rattle.epl_syntax.specs.Rules.OfTypes.{native_only}
use Rattle.journal.specs.declared.command.Script.{Script}
use Rattle.eden_gen.specs.Generated.{creations_text, rounds_text, script_text}
use Rattle.script_words.specs.Lines.{lines_of}
use Rattle.script_words.specs.declared.cause.ScriptCause.{ScriptCause}
use Rattle.script_words.specs.declared.cause.ScriptCause.TheVariants.{BadByte, LongLine, AfterEnd, NoCommand, Misplaced, BadForm}
use Rattle.script_words.specs.declared.cause.ScriptCause.TheVariants.{BadNumber, UnknownName, UnknownType, DoubledName, BadEdentype}
use Rattle.script_words.specs.declared.cause.ScriptCause.TheVariants.{NoEnd}
use Rattle.eden_script.specs.Causes.{LinePasses, LineTells, IsSaid, at_first}
use Rattle.eden_script.specs.Parts.{line, parts_of}
use Rattle.eden_script.specs.Script.{IsScript, Says}
use Rattle.eden_script.specs.Meaning.{written_command}
use Rattle.eden_script.specs.Tree.{nodes}
use Rattle.gen_laws.proofs.Cut.{line-and, part-and}
use Rattle.gen_laws.proofs.Said.{IsRest, behind}
use Rattle.gen_laws.proofs.Rounds.{creations-first, end-first, rounds-first}
use Rattle.gen_laws.specs.Scripts.{EveryNumberHasAScript}

-- ## `nodes 3`

three-nodes : LineTells at_first (codes "nodes 3") (nodes 3)
three-nodes = ((codes "nodes ", codes "3", refl, (refl, refl), refl), (leb-true _ _ refl, leb-true _ _ refl))

passes : (c : ScriptCause) → LinePasses c at_first (codes "nodes 3")
passes BadByte = refl
passes LongLine = leb-true _ _ refl
passes AfterEnd = inr refl
passes NoCommand = inr refl
passes Misplaced = inr ((λ is. refl), (λ is. refl))
passes BadForm = (nodes 3, three-nodes.0)
passes BadNumber = (nodes 3, three-nodes)
passes UnknownName = (nodes 3, three-nodes, refl)
passes UnknownType = (nodes 3, three-nodes, refl)
passes DoubledName = (nodes 3, three-nodes, refl)
passes BadEdentype = tt
passes NoEnd = tt

said : IsSaid at_first (line (codes "nodes 3")) (nodes 3)
said = record { passes = λ i c. passes c; tells = three-nodes }

nodes-first : (rest : List ℕ) → IsRest (behind []) rest → IsRest at_first (codes "nodes 3\n" ++ rest)
nodes-first rest more = record {
  commands = more.commands;
  end = more.end;
  says = subst (λ ps. Says at_first ps (map written_command more.commands) more.end) (sym cut)
      (nodes 3, map written_command more.commands, said, refl, more.says);
  types = more.types;
  nodes = more.nodes;
  ended = more.ended;
}
  where
    cut : parts_of (lines_of (codes "nodes 3\n" ++ rest)) ≡ line (codes "nodes 3") ∷ parts_of (lines_of rest)
    cut = ap parts_of (line-and (codes "nodes 3") rest refl) ∙ part-and (codes "nodes 3") (lines_of rest) refl

-- ## The script

whole-rest : (number : ℕ) → IsRest at_first (script_text number)
whole-rest number =
    subst (IsRest at_first) (sym (grouped (codes "nodes 3\n") (creations_text 6) (rounds_text number 2000) (codes "go 5000\nend\n")))
    (nodes-first (creations_text 6 ++ (rounds_text number 2000 ++ codes "go 5000\nend\n"))
    (creations-first (rounds_text number 2000 ++ codes "go 5000\nend\n")
    (rounds-first number 2000 (codes "go 5000\nend\n") (leb-true _ _ refl) (end-first 2000))))
  where
    grouped : (a b c d : List ℕ) → a ++ b ++ c ++ d ≡ a ++ (b ++ (c ++ d))
    grouped a b c d = simp append_assoc

script-of : (bytes : List ℕ) → IsRest at_first bytes → (script : Script) × IsScript bytes script
script-of bytes rest = (
  record { types = native_only; nodes = 3; commands = rest.commands },
  record { end = rest.end; says = rest.says; types = rest.types; nodes = rest.nodes; ended = rest.ended },
)

pub every-number-has-a-script : EveryNumberHasAScript
every-number-has-a-script number = script-of (script_text number) (whole-rest number)
