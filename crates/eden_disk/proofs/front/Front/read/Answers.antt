use Rattle.std.proofs.Common.{rules, ◌≡◌, ◌+◌, ◌-◌, ◌≤◌, ◌++◌, length, List, ℕ, replicate, slice_range, ap, ◌∙◌, arith}
use Rattle.std.specs.Prelude.{min}
use Rattle.std.proofs.lemmas.List.Edits.{length-between}
use Rattle.eden_disk.specs.Fronts.{Fronted, with_zeros}
use Rattle.eden_disk.proofs.Fronts.{read_held, filled, length-with_zeros}
use Rattle.eden_disk.proofs.front.Front.read.Goals as goal

pub returns : goal.returns
returns c =
    let held : List ℕ = c.self.inside.bytes.items in
    let size : ℕ = c.self.inside.size in
    let from : ℕ = c.min-from.result in
    let until : ℕ = c.min-until.result in
    let begin : from ≡ min (length held) c.args.at = search rules in
    let end : until ≡ min (length held) (c.args.at + length c.args.out.now) = search rules in
    let whole : length (with_zeros held size) ≡ length c.args.self.now.bytes = ap (λ (i : Fronted). length i.bytes) c.self.view_is in
    let room : length held ≤ size = omega (arith, c.self.invariant.held_within, c.self.invariant.reach_within) in
    let fits : c.args.at + length c.args.out.now ≤ size = omega (arith, c.requires, whole, length-with_zeros held size room) in
    let front : c.copy_from_slice.new.self ≡ slice_range held from until = search rules in
    let len : length c.copy_from_slice.new.self ≡ until - from = ap length front ∙ length-between held from until (omega (arith, end)) in
    let rest : c.fill.new.self ≡ replicate (length c.args.out.now - (until - from)) 0 = search rules in
    filled (until - from) c.copy_from_slice.new.self c.args.out.now c.fill.new.self len (omega (arith, begin, end)) rest
    ∙ ap (λ l. l ++ replicate (length c.args.out.now - (until - from)) 0) front
    ∙ read_held held size c.args.at (length c.args.out.now) from until begin end fits room
    ∙ ap (λ (i : Fronted). slice_range i.bytes c.args.at (c.args.at + length c.args.out.now)) c.self.view_is
