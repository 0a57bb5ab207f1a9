use Rattle.std.proofs.Common.{rules, ◌≡◌, ◌+◌, ◌-◌, ◌*◌, ◌/◌, ◌%◌, ◌≤◌, ℕ, List, ◌∷◌, length, take, drop, min, ap, subst, ◌∙◌}
use Rattle.std.proofs.Common.{arith, Err}
use Rattle.eden_disk.specs.Calls.{WriteTold, Fine, end_of}
use Rattle.passive_blocks.specs.StageState.{part_bytes}
use Rattle.passive_blocks.proofs.StageParts.{part_on_disk, part_from, part_taken, part_short}
use Rattle.passive_blocks.proofs.block_store.write_part.Goals as goal

pub next-next-requires-clause-block : goal.next-next-requires-clause-block
next-next-requires-clause-block g c =
    (part_on_disk _ _ c.args.table.now c.args.pending.now c.args.block c.args.from c.requires.held c.requires.part).0

pub write_block-requires-clause-range : goal.write_block-requires-clause-range
write_block-requires-clause-range g c =
    (part_on_disk _ _ c.args.table.now c.args.pending.now c.args.block c.args.from c.requires.held c.requires.part).1

pub write_block-requires-clause-few : goal.write_block-requires-clause-few
write_block-requires-clause-few g c = (
  (part_on_disk _ _ c.args.table.now c.args.pending.now c.args.block c.args.from c.requires.held c.requires.part).2,
  part_short c.deref-body.result.now c.args.from c.min-to.result c.min-to.ensures,
)

-- the bytes of the write, by the number behind the block and a part
abbrev bytes_by : ℕ → List ℕ → List ℕ
bytes_by n part = n / 256 % 256 ∷ (n % 256 ∷ part)

part_now : (body items : List ℕ) (from to : ℕ) → items ≡ body → to ≡ min (from + 1022) (length items) → from ≤ length body
    → take (to - from) (drop from items) ≡ take 1022 (drop from body)
part_now body items from to same is within =
    part_taken items from to is (omega (arith, within, ap length same)) ∙ ap (λ xs. take 1022 (drop from xs)) same

pub returns-in_err-write_block-clause-told : goal.returns-in_err-write_block-clause-told
returns-in_err-write_block-clause-told g c = λ tells.
    let t0 = g.D.Disk.told c.args.disk.now in
    let t1 = g.D.Disk.told c.write_block.new.disk in
    let k1 = g.D.Disk.counts c.write_block.new.disk in
    let taken = part_now c.args.pending.now.body.items c.deref-body.result.now c.args.from c.min-to.result c.deref-body.ensures.value
    c.min-to.ensures (part_from c.args.table.now c.args.pending.now c.args.block c.args.from c.requires.part) in
    let h : WriteTold k1.clock (c.args.block * 1024) (part_bytes c.args.table.now c.args.pending.now c.args.block c.args.from) t0 t1
    (end_of {T = Unit {0}} (Err c.in_err-write_block.field-0.0)) =
    subst (λ xs. WriteTold k1.clock (c.args.block * 1024) xs t0 t1 (end_of {T = Unit {0}} (Err c.in_err-write_block.field-0.0)))
    (ap (λ n. bytes_by n (take (c.min-to.result - c.args.from) (drop c.args.from c.deref-body.result.now))) c.next-next.ensures.next
    ∙ ap (bytes_by _) taken)
    (c.in_err-write_block.ensures.told tells) in
    search rules

pub returns-then-next-eq0-clause-told : goal.returns-then-next-eq0-clause-told
returns-then-next-eq0-clause-told g c = λ tells.
    let t0 = g.D.Disk.told c.args.disk.now in
    let t1 = g.D.Disk.told c.write_block.new.disk in
    let k1 = g.D.Disk.counts c.write_block.new.disk in
    let taken = part_now c.args.pending.now.body.items c.deref-body.result.now c.args.from c.min-to.result c.deref-body.ensures.value
    c.min-to.ensures (part_from c.args.table.now c.args.pending.now c.args.block c.args.from c.requires.part) in
    subst (λ xs. WriteTold k1.clock (c.args.block * 1024) xs t0 t1 Fine)
    (ap (λ n. bytes_by n (take (c.min-to.result - c.args.from) (drop c.args.from c.deref-body.result.now))) c.next-next.ensures.next
    ∙ ap (bytes_by _) taken)
    (c.in_ok-write_block.ensures.told tells)

pub returns-else-next-eq0-clause-told : goal.returns-else-next-eq0-clause-told
returns-else-next-eq0-clause-told g c = λ tells.
    let t0 = g.D.Disk.told c.args.disk.now in
    let t1 = g.D.Disk.told c.write_block.new.disk in
    let k1 = g.D.Disk.counts c.write_block.new.disk in
    let taken = part_now c.args.pending.now.body.items c.deref-body.result.now c.args.from c.min-to.result c.deref-body.ensures.value
    c.min-to.ensures (part_from c.args.table.now c.args.pending.now c.args.block c.args.from c.requires.part) in
    subst (λ xs. WriteTold k1.clock (c.args.block * 1024) xs t0 t1 Fine)
    (ap (λ n. bytes_by n (take (c.min-to.result - c.args.from) (drop c.args.from c.deref-body.result.now))) c.next-next.ensures.next
    ∙ ap (bytes_by _) taken)
    (c.in_ok-write_block.ensures.told tells)
