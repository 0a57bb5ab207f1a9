use Rattle.std.proofs.Common.{map, arith}
use Rattle.std.proofs.lemmas.List.{length-map}
use Rattle.invocation.specs.Mail.{Mail}
use Rattle.invocation.specs.Causes.{closed_by}
use Rattle.invocation.specs.declared.closing.Cause.TheVariants.{Lost}
use Rattle.invocation.proofs.Index.{index-closing}
use Rattle.invocation.proofs.Own.{made-lost}
use Rattle.invocation.proofs.Mails.{between-after, given-more}
use Rattle.invocation.proofs.Breaks.{orphan-carried}
use Rattle.invocation.proofs.Calls.orphan.Goals as goal

pub invariant_of-self : goal.invariant_of-self
invariant_of-self c =
    let a = c.self.inside in
    let n = length-map a.calls.items (closed_by (Lost c.args.uid)) in
    record {
      few = rw c.close_own.ensures.calls (omega (arith, n, c.self.invariant.few));
      index = rw c.close_own.ensures.calls (index-closing (Lost c.args.uid) a.calls.items a.index c.self.invariant.index);
      made = rw c.close_own.ensures.calls (made-lost c.args.uid a.calls.items a.made c.close_own.new.made c.close_own.ensures.made
          c.self.invariant.made);
      between = rw c.close_own.ensures.calls (between-after (Lost c.args.uid) a.calls.items c.self.invariant.between);
      pairs = c.self.invariant.pairs;
      given = rw c.close_own.ensures.calls (given-more a.calls.items (map (closed_by (Lost c.args.uid)) a.calls.items)
          (omega (arith, n)) a.queues.items c.self.invariant.given);
      mail = c.self.invariant.mail;
    }

pub returns-clause-model : goal.returns-clause-model
returns-clause-model c t carries =
    let a = c.self.inside in
    let old : Mail = record { calls = a.calls.items; queues = a.queues.items } in
    rw c.close_own.ensures.calls (orphan-carried c.args.uid old t (rw (c.self.view_is) carries))
