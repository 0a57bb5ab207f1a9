use Rattle.std.proofs.Common.{◌<◌, ◌∙◌, arith, length, sym}
use Rattle.plain_stores.specs.declared.entries.PlainEntry.{PlainEntry}
use Rattle.plain_stores.proofs.Behind.{lesser-by, lesser-more, none-behind}
use Rattle.plain_stores.proofs.entries.place_behind.Goals as goal

pub returns-then-not-is_lesser-clause-behind : goal.returns-then-not-is_lesser-clause-behind
returns-then-not-is_lesser-clause-behind c =
    let es = c.args.entries.now in
    let less : c.loop-i.i < length es = omega (arith, c.loop-i-test.true, c.loop-i.auto.i-end) in (
      c.loop-i.invariant,
      lesser-by (λ (e : PlainEntry). e.uid) c.args.uid es c.loop-i.i
          c.index-entries-i.result less c.index-entries-i.is ∙ (sym c.is_lesser.ensures ∙ c.if-not-is_lesser.true),
    )

pub loop-i-preserved : goal.loop-i-preserved
loop-i-preserved c =
    let es = c.args.entries.now in
    let less : c.loop-i.i < length es = omega (arith, c.loop-i-test.true, c.loop-i.auto.i-end) in
    lesser-more (λ (e : PlainEntry). e.uid) c.args.uid es c.loop-i.i c.loop-i.invariant
    (lesser-by (λ (e : PlainEntry). e.uid) c.args.uid es c.loop-i.i
    c.index-entries-i.result less c.index-entries-i.is ∙ (sym c.is_lesser.ensures ∙ c.if-not-is_lesser.false))

pub returns-clause-behind : goal.returns-clause-behind
returns-clause-behind c =
    let es = c.args.entries.now in
    none-behind (λ (e : PlainEntry). e.uid) c.args.uid es c.loop-i.i _
    (omega (arith, c.loop-i-test.false, c.loop-i.auto.i-end)) c.loop-i.invariant
