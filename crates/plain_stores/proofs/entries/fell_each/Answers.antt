use Rattle.std.proofs.Common.{◌≡◌, ◌<◌, ◌∙◌, ap, arith, length}
use Rattle.capability.specs.declared.Uid.{Uid}
use Rattle.journal.specs.Crashes.{fallen}
use Rattle.journal.specs.World.{Eject}
use Rattle.plain_stores.specs.View.{entry_of, ejects_of}
use Rattle.plain_calls.proofs.Lists.{changed_front, changed-all, one-more, length-map}
use Rattle.plain_stores.proofs.entries.fell_each.Goals as goal

pub loop-i-preserved : goal.loop-i-preserved
loop-i-preserved c ts =
    let es = c.args.entries.now.items in
    let less : c.loop-i.i < length es = omega (arith, c.loop-i-test.true, c.len-i-end.ensures, c.args.entries.now.ok.0) in
    one-more (entry_of ts) (λ (e : Uid × Eject). (e.0, fallen e.1)) c.loop-i.i c.loop-i.entries.items es
    c.index_mut.result.now _ (c.loop-i.invariant ts) c.index_mut.ensures.value
    (ap (λ x. (c.index_mut.result.now.uid, x)) (c.fall.ensures ts)) less

pub returns : goal.returns
returns c ts =
    let es = c.args.entries.now.items in
    let f : Uid × Eject → Uid × Eject = λ (e : Uid × Eject). (e.0, fallen e.1) in
    let all : c.loop-i.i ≡ length (ejects_of ts es) =
    omega (arith, c.loop-i-test.false, c.loop-i.auto.i-end, c.len-i-end.ensures, c.args.entries.now.ok.0, length-map (entry_of ts) es) in
    c.loop-i.invariant ts ∙ (ap (λ n. changed_front n f (ejects_of ts es)) all ∙ changed-all f (ejects_of ts es))
