use Rattle.std.proofs.lemmas.Result.{err_from_is_err_and}
use Rattle.grammar.specs.Reading.{times}
use Rattle.eden_codec.specs.Alphabet.{in_alphabet}
use Rattle.grammar.specs.Reading.{one_of}
use Rattle.grammar.proofs.Loop.{goes_on, ends, is_done}
use Rattle.eden_codec.proofs.value.bytes_of.Goals as goal

pub returns-in_err-b : goal.returns-in_err-b
returns-in_err-b c =
    let p = err_from_is_err_and c.from_residual.result c.from_residual.ensures.1 in
    let R = one_of (in_alphabet c.args.alphabet) in
    rw (p.1, p.2) (ends R c.in_err-b.field-0.0 c.loop.found.items c.args.count c.loop.counter c.loop.rest.now
    (times c.args.count R c.args.bytes.now) c.loop-test.true c.in_err-b.ensures c.loop.invariant)

pub loop-preserved : goal.loop-preserved
loop-preserved c =
    let R = one_of (in_alphabet c.args.alphabet) in
    rw c.in_ok-push.ensures.items (goes_on R c.loop.found.items c.args.count c.loop.counter c.loop.rest.now c.in_ok-b.b
    c.in_ok-b.after.now (times c.args.count R c.args.bytes.now) c.loop-test.true c.in_ok-b.ensures c.loop.invariant)

pub returns : goal.returns
returns c =
    let R = one_of (in_alphabet c.args.alphabet) in
    is_done R c.loop.found.items c.args.count c.loop.counter c.loop.rest.now
    (times c.args.count R c.args.bytes.now) c.loop-test.false c.loop.invariant
