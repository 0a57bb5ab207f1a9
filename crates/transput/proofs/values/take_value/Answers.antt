use Rattle.std.proofs.Common.{take, ap, ◌∙◌, sym}
use Rattle.eden_value.specs.View.{datum, datums}
use Rattle.std.proofs.lemmas.List.{take-map}
use Rattle.transput.proofs.Places.{take_set}
use Rattle.transput.proofs.values.take_value.Goals as goal
use Rattle.transput.proofs.values.take_value.Goals.{in-Some, in-None}

pub returns-clause-before : goal.returns-clause-before
returns-clause-before c = elim c.match-get_mut.branch [
  | in-Some w ↦
      let i = c.args.place in
      let vs = c.values.inside.values.items in
      ap (λ v. take i (datums v.values.items)) w.values-inside-is ∙ take-map datum i _
      ∙ ap datums (take_set vs i w.replace.new.dest) ∙ sym (take-map datum i vs) ∙ ap (take i) c.values.view_is
  | in-None w ↦
      let i = c.args.place in
      ap (λ v. take i (datums v.values.items)) w.values-inside-is ∙ ap (take i) c.values.view_is
]
