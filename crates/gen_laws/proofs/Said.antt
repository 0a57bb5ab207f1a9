-- What is asked of a line for it to say a command, behind three nodes and native types alone.
use Rattle.std.proofs.Common.{◌≡◌, ◌≤◌, ◌∙◌, ap, sym, refl, inr, ℕ, true, false, List, ◌∷◌, ◌++◌, map, length, not, codes, subst, arith}
use Rattle.std.specs.List.{list_all, list_any}
use Rattle.std.proofs.lemmas.Bool.{leb-true, and_parts, or_right, ne_eqb}
use Rattle.journal.specs.declared.command.Command.{Command as CodeCommand}
use Rattle.script_words.specs.Form.{is_among, is_no_feed, is_printable}
use Rattle.script_words.specs.Causes.{first_word}
use Rattle.script_words.specs.Lines.{lines_of}
use Rattle.script_words.specs.declared.cause.ScriptCause.{ScriptCause}
use Rattle.script_words.specs.declared.cause.ScriptCause.TheVariants.{BadByte, LongLine, AfterEnd, NoCommand, Misplaced, BadForm}
use Rattle.script_words.specs.declared.cause.ScriptCause.TheVariants.{BadNumber, UnknownName, UnknownType, DoubledName, BadEdentype}
use Rattle.script_words.specs.declared.cause.ScriptCause.TheVariants.{NoEnd}
use Rattle.eden_script.specs.Causes.{Seen, Fits, LinePasses, LineTells, IsSaid, brings, command_words, types, uses}
use Rattle.eden_script.specs.Declarations.{native_alone, type_names}
use Rattle.eden_script.specs.Grammar.{Command, Holds}
use Rattle.eden_script.specs.Meaning.{written_command}
use Rattle.eden_script.specs.Parts.{line, begins_type, parts_of}
use Rattle.eden_script.specs.Script.{Says, after}
use Rattle.eden_script.specs.Tree.{WrittenCommand, does}
use Rattle.gen_laws.proofs.Digits.{all-pass}
use Rattle.gen_laws.proofs.Cut.{line-and, part-and}

-- behind `nodes 3`, with these names
abbrev pub behind : List (List ℕ) → Seen
behind names = record { types = native_alone; nodes = 3; names = names; ended = false }

-- these bytes are a line of this command, whose names are there, or are new
pub record IsLineOf (names : List (List ℕ)) (bytes : List ℕ) (o : WrittenCommand) : Type 0 where
  pub printable : list_all is_printable bytes ≡ true
  pub short : length bytes ≤ 4096
  pub word : is_among command_words (first_word bytes) ≡ true
  pub no_nodes : first_word bytes ≡ codes "nodes" → ⊥
  pub no_type : begins_type bytes ≡ false
  pub spells : Command o bytes
  pub holds : Holds o
  pub fits : Fits 3 o
  pub known : list_all (is_among names) (uses (does o)) ≡ true
  pub types_known : list_all (is_among (type_names native_alone)) (types (does o)) ≡ true
  pub new : list_any (is_among names) (brings (does o)) ≡ false

no-nodes-yet : (n : ℕ) → n ≡ 3 → n ≡ 0 → ⊥
no-nodes-yet n is none = omega (arith, is, none)

among-more : (word : List ℕ) → is_among command_words word ≡ true → is_among (codes "nodes" ∷ command_words) word ≡ true
among-more word h = or_right _ _ h

pub tells : (names : List (List ℕ)) (bytes : List ℕ) (o : WrittenCommand) → IsLineOf names bytes o → LineTells (behind names) bytes (does o)
tells names bytes o h = ((h.spells, h.holds), h.fits)

pub passes : (names : List (List ℕ)) (bytes : List ℕ) (o : WrittenCommand) → IsLineOf names bytes o → (c : ScriptCause)
    → LinePasses c (behind names) bytes
passes names bytes o h BadByte = h.printable
passes names bytes o h LongLine = h.short
passes names bytes o h AfterEnd = inr refl
passes names bytes o h NoCommand = inr (among-more (first_word bytes) h.word)
passes names bytes o h Misplaced = inr ((λ is. absurd (h.no_nodes is)), (λ is. absurd (no-nodes-yet 3 refl is)))
passes names bytes o h BadForm = (does o, (h.spells, h.holds))
passes names bytes o h BadNumber = (does o, tells names bytes o h)
passes names bytes o h UnknownName = (does o, tells names bytes o h, h.known)
passes names bytes o h UnknownType = (does o, tells names bytes o h, h.types_known)
passes names bytes o h DoubledName = (does o, tells names bytes o h, h.new)
passes names bytes o h BadEdentype = tt
passes names bytes o h NoEnd = tt

pub said : (names : List (List ℕ)) (bytes : List ℕ) (o : WrittenCommand) → IsLineOf names bytes o
    → IsSaid (behind names) (line bytes) (does o)
said names bytes o h = record { passes = λ i c. passes names bytes o h c; tells = tells names bytes o h }

-- ## Rests of a script

-- from here on the bytes are the rest of a script, of native types alone and with so many nodes
pub record IsRest (s : Seen) (bytes : List ℕ) : Type 0 where
  pub commands : List CodeCommand
  pub end : Seen
  pub says : Says s (parts_of (lines_of bytes)) (map written_command commands) end
  pub types : end.types ≡ native_alone
  pub nodes : end.nodes ≡ 3
  pub ended : end.ended ≡ true

printable-no-feed : (b : ℕ) → is_printable b ≡ true → is_no_feed b ≡ true
printable-no-feed b h =
    let low : 32 ≤ b = leb-true 32 b (and_parts _ _ h).0 in ap not (ne_eqb b 10 (λ is. omega (arith, is, low)))

-- a line with its line feed, in front of a rest
pub line-first : (names : List (List ℕ)) (bytes rest : List ℕ) (c : CodeCommand) → IsLineOf names bytes (written_command c)
    → IsRest (after (behind names) (does (written_command c))) rest → IsRest (behind names) (bytes ++ 10 ∷ rest)
line-first names bytes rest c h more = record {
  commands = c ∷ more.commands;
  end = more.end;
  says = subst (λ ps. Says (behind names) ps (map written_command (c ∷ more.commands)) more.end) (sym cut)
      (does (written_command c), map written_command more.commands, said names bytes (written_command c) h, refl, more.says);
  types = more.types;
  nodes = more.nodes;
  ended = more.ended;
}
  where
    cut : parts_of (lines_of (bytes ++ 10 ∷ rest)) ≡ line bytes ∷ parts_of (lines_of rest)
    cut = ap parts_of (line-and bytes rest (all-pass is_printable is_no_feed printable-no-feed bytes h.printable))
        ∙ part-and bytes (lines_of rest) h.no_type
