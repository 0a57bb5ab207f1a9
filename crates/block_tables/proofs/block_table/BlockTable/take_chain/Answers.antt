use Rattle.std.proofs.Common.{◌≡◌, ◌+◌, suc, take, refl, sym, subst, arith}
use Rattle.block_tables.specs.BlockState.{free_in}
use Rattle.block_tables.proofs.Taking.{Taking, one_taken, more_taken, no_more, whole_chain, all_free, all_others}
use Rattle.block_tables.proofs.block_table.BlockTable.take_chain.Goals as goal

pub loop-init : goal.loop-init
loop-init c = one_taken c.args.self.now c.take_first.new.self c.in-Some.first c.requires.blocks c.take_first.ensures.blocks
    c.take_first.ensures.size c.take_first.ensures.needed c.in-Some.ensures.inside.0 c.in-Some.ensures.first c.in-Some.ensures.next
    c.in-Some.ensures.free c.in-Some.ensures.behind

pub loop-preserved : goal.loop-preserved
loop-preserved c =
    let next : suc c.loop.counter ≡ c.loop.counter + 1 = omega arith in
    subst (Taking c.args.self.now c.link.new.self c.in-Some.first c.in-Some-take_first.block) next
    (more_taken c.args.self.now c.loop.self c.take_first-in-loop.new.self c.link.new.self c.in-Some.first c.loop.last
    c.in-Some-take_first.block c.loop.counter c.loop.invariant c.in-Some-take_first.ensures.first c.in-Some-take_first.ensures.inside
    c.in-Some-take_first.ensures.next c.in-Some-take_first.ensures.free c.in-Some-take_first.ensures.behind
    c.take_first-in-loop.ensures.size c.take_first-in-loop.ensures.needed c.link.ensures.blocks c.link.ensures.next c.link.ensures.size
    c.link.ensures.free c.link.ensures.needed)

-- where no block is free any more the table is as it was, and all free blocks are taken
stopped : (c : goal.In_default-take_first) → Taking c.args.self.now c.take_first-in-loop.new.self c.in-Some.first c.loop.last c.loop.counter
stopped c = subst (λ t. Taking c.args.self.now t c.in-Some.first c.loop.last c.loop.counter)
    (sym (c.in_default-take_first.ensures.none refl).0) c.loop.invariant

all_taken : (c : goal.In_default-take_first)
    → take c.args.count (free_in c.args.self.now) ≡ take c.loop.counter (free_in c.args.self.now)
all_taken c = no_more c.args.self.now c.loop.self c.in-Some.first c.loop.last c.loop.counter c.args.count c.loop.invariant
    (omega (arith, c.loop-test.true)) (c.in_default-take_first.ensures.none refl).1

pub returns-in_default-take_first-clause-chain : goal.returns-in_default-take_first-clause-chain
returns-in_default-take_first-clause-chain c = λ some. whole_chain c.args.self.now c.take_first-in-loop.new.self c.in-Some.first c.loop.last
    c.loop.counter c.args.count (stopped c) (all_taken c)

pub returns-in_default-take_first-clause-free : goal.returns-in_default-take_first-clause-free
returns-in_default-take_first-clause-free c = λ k. all_free c.args.self.now c.take_first-in-loop.new.self c.in-Some.first c.loop.last
    c.loop.counter c.args.count k (stopped c) (all_taken c)

pub returns-in_default-take_first-clause-others : goal.returns-in_default-take_first-clause-others
returns-in_default-take_first-clause-others c = λ k out. all_others c.args.self.now c.take_first-in-loop.new.self c.in-Some.first
    c.loop.last
    c.loop.counter c.args.count k (stopped c) (all_taken c) out
