use Rattle.std.proofs.Common.{◌≤◌, ◌<◌, ◌∙◌, arith, length, sym}
use Rattle.plain_stores.specs.declared.entries.PlainEntry.{PlainEntry}
use Rattle.plain_stores.proofs.Keyed.{none-all, none-more, stands-by}
use Rattle.plain_stores.proofs.entries.place_of.Goals as goal

pub returns-then-is_of : goal.returns-then-is_of
returns-then-is_of c =
    let es = c.args.entries.now in
    let less : c.loop-i.i < length es = omega (arith, c.loop-i-test.true, c.loop-i.auto.i-end) in (
      stands-by (λ (e : PlainEntry). e.uid) c.args.uid es c.loop-i.i
          c.index-entries-i.result less c.index-entries-i.is ∙ (sym c.is_of.ensures ∙ c.if-is_of.true),
      c.loop-i.invariant,
    )

pub loop-i-preserved : goal.loop-i-preserved
loop-i-preserved c =
    let es = c.args.entries.now in
    let less : c.loop-i.i < length es = omega (arith, c.loop-i-test.true, c.loop-i.auto.i-end) in
    none-more (λ (e : PlainEntry). e.uid) c.args.uid es c.loop-i.i c.loop-i.invariant
    (stands-by (λ (e : PlainEntry). e.uid) c.args.uid es c.loop-i.i
    c.index-entries-i.result less c.index-entries-i.is ∙ (sym c.is_of.ensures ∙ c.if-is_of.false))

pub returns : goal.returns
returns c =
    let es = c.args.entries.now in
    let all : length es ≤ c.loop-i.i = omega (arith, c.loop-i-test.false, c.loop-i.auto.i-end) in
    none-all (λ (e : PlainEntry). e.uid) c.args.uid es c.loop-i.i all c.loop-i.invariant
