-- A command is determined by how it is written.
use Rattle.std.proofs.Common.{◌≡◌, ◌∙◌, ap, sym, refl, ℕ, zero, suc, List, [], ◌∷◌, map, Option, Some, None}
use Rattle.eden_disk.specs.declared.disk.ImageMode.{ImageMode}
use Rattle.eden_disk.specs.declared.disk.ImageMode.TheVariants as image
use Rattle.journal.specs.Argument as value
use Rattle.journal.specs.Argument.{Argument, Arguments}
use Rattle.journal.specs.declared.command.Ref.{Ref}
use Rattle.journal.specs.declared.command.Command.{Command}
use Rattle.journal.specs.declared.command.Command.TheVariants as command
use Rattle.script_words.specs.Tree.{WrittenRef, WrittenMode, keep, lose, garble, WrittenArg, plain, named, several, Row, no_more}
use Rattle.eden_script.specs.Tree.{WrittenCommand, create, hold, call, restrict, walk, turn, go, crash, restart, cut}
use Rattle.script_words.specs.Tree.{and_more, row_of}
use Rattle.eden_script.specs.Tree.{join, fail, stop, finish}
use Rattle.eden_script.specs.Meaning.{written_command}
use Rattle.script_words.specs.Meaning.{result_of, reference_of, written_arg, row_from, written_mode}

abbrev result_back : Option ℕ → ℕ
result_back None = 0
result_back (Some k) = k

result_again : (k : ℕ) → result_back (result_of k) ≡ k
result_again zero = refl
result_again (suc k) = refl

abbrev ref_back : WrittenRef → Ref
ref_back r = record { name = r.name; result = result_back r.result }

ref_again : (r : Ref) → ref_back (reference_of r) ≡ r
ref_again r = ap (λ (k : ℕ). record { name = r.name; result = k }) (result_again r.result)

abbrev mutual
  given_back : WrittenArg → Argument
  given_back (plain d) = value.plain d
  given_back (named r) = value.named r.name (result_back r.result)
  given_back (several gs) = value.several (givens_back gs)

  givens_back : Row → Arguments
  givens_back no_more = value.no_arguments
  givens_back (and_more g gs) = value.argument_and (given_back g) (givens_back gs)

mutual
  given_again : (g : Argument) → given_back (written_arg g) ≡ g
  given_again (value.plain d) = refl
  given_again (value.named name k) = ap (λ (k : ℕ). value.named name k) (result_again k)
  given_again (value.several gs) = ap value.several (givens_again gs)

  givens_again : (gs : Arguments) → givens_back (row_from gs) ≡ gs
  givens_again value.no_arguments = refl
  givens_again (value.argument_and g gs) =
      ap (λ (h : Argument). value.argument_and h (givens_back (row_from gs))) (given_again g)
      ∙ ap (λ (hs : Arguments). value.argument_and g hs) (givens_again gs)

abbrev args_back : Row → List Argument
args_back no_more = []
args_back (and_more g gs) = given_back g ∷ args_back gs

args_again : (gs : List Argument) → args_back (row_of (map written_arg gs)) ≡ gs
args_again [] = refl
args_again (g ∷ gs) =
    ap (λ (h : Argument). h ∷ args_back (row_of (map written_arg gs))) (given_again g) ∙ ap (λ (hs : List Argument). g ∷ hs) (args_again gs)

abbrev how_back : WrittenMode → ImageMode
how_back keep = image.Keep
how_back lose = image.Lose
how_back (garble b) = image.Garble b

how_again : (how : ImageMode) → how_back (written_mode how) ≡ how
how_again image.Keep = refl
how_again image.Lose = refl
how_again (image.Garble b) = refl

abbrev command_back : WrittenCommand → Command
command_back (create name n t) = command.Create name n t
command_back (hold name n e s) = command.Hold name (record { node = n; epoch = e; serial = s })
command_back (call name r op args) = command.Call name (ref_back r) op (args_back args)
command_back (restrict name r mask) = command.Restrict name (ref_back r) (record { bits = mask })
command_back (walk name r path) = command.Walk name (ref_back r) path
command_back (turn i) = command.Turn i
command_back (go n) = command.Go n
command_back (crash n how) = command.Crash n (how_back how)
command_back (restart n) = command.Restart n
command_back (cut a b) = command.Cut a b
command_back (join a b) = command.Join a b
command_back (fail n k) = command.Fail n k
command_back (stop n k how) = command.Stop n k (how_back how)
command_back finish = command.End

command_again : (c : Command) → command_back (written_command c) ≡ c
command_again (command.Create name n t) = refl
command_again (command.Hold name uid) = refl
command_again (command.Call name r op args) =
    ap (λ (q : Ref). command.Call name q op (args_back (row_of (map written_arg args)))) (ref_again r)
    ∙ ap (λ (l : List Argument). command.Call name r op l) (args_again args)
command_again (command.Restrict name r mask) = ap (λ (q : Ref). command.Restrict name q mask) (ref_again r)
command_again (command.Walk name r path) = ap (λ (q : Ref). command.Walk name q path) (ref_again r)
command_again (command.Turn i) = refl
command_again (command.Go n) = refl
command_again (command.Crash n how) = ap (λ (h : ImageMode). command.Crash n h) (how_again how)
command_again (command.Restart n) = refl
command_again (command.Cut a b) = refl
command_again (command.Join a b) = refl
command_again (command.Fail n k) = refl
command_again (command.Stop n k how) = ap (λ (h : ImageMode). command.Stop n k h) (how_again how)
command_again command.End = refl

commands_again : (cs : List Command) → map command_back (map written_command cs) ≡ cs
commands_again [] = refl
commands_again (c ∷ cs) =
    ap (λ (d : Command). d ∷ map command_back (map written_command cs)) (command_again c)
    ∙ ap (λ (ds : List Command). c ∷ ds) (commands_again cs)

pub same_commands : (a b : List Command) → map written_command a ≡ map written_command b → a ≡ b
same_commands a b h = sym (commands_again a) ∙ ap (λ (os : List WrittenCommand). map command_back os) h ∙ commands_again b
