use Rattle.std.proofs.Common.{◌++◌, arith, take}
use Rattle.std.proofs.lemmas.Result.{err_from_is_err_and}
use Rattle.eden_io.proofs.Known.{Consumes-append, taken_more, taken_within}
use Rattle.eden_io.proofs.whole.read_all.Goals as goal

pub returns-then-len-count-clause-taken : goal.returns-then-len-count-clause-taken
returns-then-len-count-clause-taken g c =
    record {
      bytes = c.loop-bytes.bytes.items ++ take c.in_ok-count.count c.read.new.out;
      taken = Consumes-append _ _ _ _ _ c.loop-bytes.invariant.taken c.in_ok-count.ensures.bytes.0;
      answer = taken_more _ _ _ _ c.in_ok-count.ensures.bound.0 (omega arith);
    }

pub returns-in_err-extend_from_slice-clause-taken : goal.returns-in_err-extend_from_slice-clause-taken
returns-in_err-extend_from_slice-clause-taken g c =
    let p = err_from_is_err_and c.from_residual-in_err-extend_from_slice.result c.from_residual-in_err-extend_from_slice.ensures.1 in
    rw (p.1, p.2)
    (record {
      bytes = c.loop-bytes.bytes.items ++ take c.in_ok-count.count c.read.new.out;
      taken = Consumes-append _ _ _ _ _ c.loop-bytes.invariant.taken c.in_ok-count.ensures.bytes.0;
      answer = taken_within _ _ _ _ c.in_ok-count.ensures.bound.0 (omega arith);
    })
