use Rattle.std.proofs.Common.{◌≡◌, ◌+◌, drop, ◌++◌, ◌∷◌, ◌<◌, ◌≤◌, ◌≢◌, [], length, refl, ap, sym, subst, ◌∙◌, arith, rules, List}
use Rattle.std.proofs.Common.{Some, Ok, Err}
use Rattle.std.proofs.Common.{true, false}
use Rattle.epl_syntax.specs.Tree.{type_tree}
use Rattle.std.specs.Prelude.{slice_get}
use Rattle.epl_syntax.specs.Statements.{Step, came_of}
use Rattle.epl_values.specs.declared.stop.Stop.TheVariants as stop
use Rattle.epl_values.specs.Variables.{memory, is_found}
use Rattle.epl_run.specs.Found.{each_in}
use Rattle.epl_run.specs.declared.act.Act.TheVariants as act
use Rattle.epl_run.specs.Acts.{Behind}
use Rattle.epl_run.specs.Blocks.{steps_of, steps_in, rest_of}
use Rattle.epl_run.proofs.Frames.{item_at, block_over, kept_block, entered_block, next_turn, enter_turn, end_turn, lock_turn, fault_turn}
use Rattle.epl_run.proofs.Frames.{spent_turn, one_behind, some_left, enter_is}
use Rattle.epl_run.proofs.run.run_block.Goals as goal

pub returns-then-left-eq0-clause-went : goal.returns-then-left-eq0-clause-went
returns-then-left-eq0-clause-went c returns =
    let t = type_tree c.args.program.now in
    let body = steps_of c.args.body.now in
    let fs = c.loop-frame.frames.items in
    let f = c.loop-frame.frame in
    let block = steps_in c.loop-frame.block in
    let within : f.next < length block = omega (arith, c.loop-frame-test.true, c.steps_of.ensures) in
    let item = item_at block f.next within in
    spent_turn t body fs f (fs ++ (f ∷ [])) block c.loop-frame.left returns c.loop-frame.vars _ refl c.loop-frame.invariant.block
    (c.loop-frame.invariant.so_far returns) item.0 item.1 c.clear.new.self.items c.if-left-eq0.true c.clear.ensures.items

pub loop-frame-preserved-in-Ok-Next : goal.loop-frame-preserved-in-Ok-Next
loop-frame-preserved-in-Ok-Next c =
    let t = type_tree c.args.program.now in
    let body = steps_of c.args.body.now in
    let fs = c.loop-frame.frames.items in
    let f = c.loop-frame.frame in
    let block = steps_in c.loop-frame.block in
    let within : f.next < length block = omega (arith, c.loop-frame-test.true, c.steps_of.ensures) in
    let item = item_at block f.next within in
    let acts : (s : Step) (rest : List Step) → slice_get block f.next ≡ Some s
    → Behind t c.step.new.vars s rest (Ok act.Next) (came_of t (memory t c.loop-frame.vars) s rest) = search rules in
    record {
      so_far = λ returns. next_turn t body fs f (fs ++ (f ∷ [])) block c.loop-frame.left returns c.loop-frame.vars _ refl
          c.loop-frame.invariant.block (c.loop-frame.invariant.so_far returns) item.0 item.1 c.kept-frame.result c.step.new.vars
          c.if-left-eq0.false (acts item.0 (drop (f.next + 1) block ++ rest_of t body fs) item.1) c.kept-frame.ensures;
      block = kept_block t body fs f (fs ++ (f ∷ [])) block c.loop-frame.left true c.loop-frame.vars _ refl
          c.loop-frame.invariant.block (c.loop-frame.invariant.so_far true) false c.kept-frame.result c.kept-frame.ensures;
      fewer = omega (arith, c.loop-frame.invariant.fewer);
      owner = c.step.ensures.owner ∙ c.loop-frame.invariant.owner;
      found =
          subst (λ owner. each_in (is_found c.args.program.now owner) c.loop-frame.block.statements.now ≡ true) (sym c.step.ensures.owner)
          c.loop-frame.invariant.found;
    }

pub loop-frame-preserved : goal.loop-frame-preserved
loop-frame-preserved c =
    let t = type_tree c.args.program.now in
    let body = steps_of c.args.body.now in
    let fs = c.loop-frame.frames.items in
    let f = c.loop-frame.frame in
    let g = c.entered-frame.result in
    let mid = c.push.new.self.items in
    let b = c.in-Ok-Enter.branch in
    let again = c.in-Ok-Enter.again in
    let block = steps_in c.loop-frame.block in
    let within : f.next < length block = omega (arith, c.loop-frame-test.true, c.steps_of.ensures) in
    let item = item_at block f.next within in
    let rest = drop (f.next + 1) block ++ rest_of t body fs in
    let act_is : c.step.result ≡ Ok (act.Enter b again) =
    enter_is c.step.result c.in-Ok-Enter.field-0 b again _ _ c.in-Ok-Enter.is c.in-Ok-Enter.field-0-is c.in-Ok-Enter.branch-is
    c.in-Ok-Enter.again-is in
    let acts : Behind t c.step.new.vars item.0 rest (Ok (act.Enter b again)) (came_of t (memory t c.loop-frame.vars) item.0 rest) =
    subst (λ r. Behind t c.step.new.vars item.0 rest r (came_of t (memory t c.loop-frame.vars) item.0 rest)) act_is
    (c.step.ensures.behind item.0 rest item.1) in
    let made = c.in_ok-push-in-Ok-Enter.ensures.ok ∙ ap (λ h. fs ++ (h ∷ [])) c.kept.ensures in
    let some : c.loop-frame.left ≢ 0 = c.if-left-eq0.false in
    record {
      so_far = λ returns. enter_turn t body fs f (fs ++ (f ∷ [])) block c.loop-frame.left returns c.loop-frame.vars _ refl
          c.loop-frame.invariant.block (c.loop-frame.invariant.so_far returns) item.0 item.1 mid g c.step.new.vars b again
          some acts made c.entered-frame.ensures;
      block = entered_block t body fs f (fs ++ (f ∷ [])) block c.loop-frame.left true c.loop-frame.vars _ refl
          c.loop-frame.invariant.block (c.loop-frame.invariant.so_far true) again b mid g (steps_in c.inner-block.result) made
          c.entered-frame.ensures c.inner-block.ensures.steps;
      fewer = omega (
        arith,
        c.loop-frame.invariant.fewer,
        ap length c.in_ok-push-in-Ok-Enter.ensures.ok,
        one_behind fs c.kept.result,
        some_left c.loop-frame.left some,
      );
      owner = c.step.ensures.owner ∙ c.loop-frame.invariant.owner;
      found =
          subst (λ owner. each_in (is_found c.args.program.now owner) c.inner-block.result.statements.now ≡ true) (sym c.step.ensures.owner)
          (c.inner-block.ensures.each (is_found c.args.program.now c.loop-frame.vars.owner) c.loop-frame.invariant.found);
    }

pub returns-in-Ok-End-clause-went : goal.returns-in-Ok-End-clause-went
returns-in-Ok-End-clause-went c returns =
    let t = type_tree c.args.program.now in
    let body = steps_of c.args.body.now in
    let fs = c.loop-frame.frames.items in
    let f = c.loop-frame.frame in
    let block = steps_in c.loop-frame.block in
    let within : f.next < length block = omega (arith, c.loop-frame-test.true, c.steps_of.ensures) in
    let item = item_at block f.next within in
    let acts : (s : Step) (rest : List Step) → slice_get block f.next ≡ Some s
    → Behind t c.step.new.vars s rest (Ok (act.End c.in-Ok-End.effect)) (came_of t (memory t c.loop-frame.vars) s rest) = search rules in
    end_turn t body fs f (fs ++ (f ∷ [])) block c.loop-frame.left returns c.loop-frame.vars _ refl c.loop-frame.invariant.block
    (c.loop-frame.invariant.so_far returns) item.0 item.1 c.push-in-Ok-End.new.self.items c.step.new.vars c.in-Ok-End.effect
    c.if-left-eq0.false (acts item.0 (drop (f.next + 1) block ++ rest_of t body fs) item.1)
    (c.in_ok-push-in-Ok-End.ensures.ok ∙ ap (λ h. fs ++ (h ∷ [])) c.kept-in-Ok-End.ensures)

pub returns-in-Ok-Lock-clause-went : goal.returns-in-Ok-Lock-clause-went
returns-in-Ok-Lock-clause-went c returns =
    let t = type_tree c.args.program.now in
    let body = steps_of c.args.body.now in
    let fs = c.loop-frame.frames.items in
    let f = c.loop-frame.frame in
    let mid = c.push-in-Ok-Lock.new.self.items in
    let block = steps_in c.loop-frame.block in
    let within : f.next < length block = omega (arith, c.loop-frame-test.true, c.steps_of.ensures) in
    let item = item_at block f.next within in
    let acts : (s : Step) (rest : List Step) → slice_get block f.next ≡ Some s
    → Behind t c.step.new.vars s rest (Ok (act.Lock c.in-Ok-Lock.monitor)) (came_of t (memory t c.loop-frame.vars) s rest) = search rules in
    lock_turn t body fs f (fs ++ (f ∷ [])) block c.loop-frame.left returns c.loop-frame.vars _ refl c.loop-frame.invariant.block
    (c.loop-frame.invariant.so_far returns) item.0 item.1 c.push-in-Ok-Lock-2.new.self.items mid c.step.new.vars c.in-Ok-Lock.monitor
    c.if-left-eq0.false (acts item.0 (drop (f.next + 1) block ++ rest_of t body fs) item.1)
    (c.in_ok-push-in-Ok-Lock.ensures.ok ∙ ap (λ h. fs ++ (h ∷ [])) c.kept-in-Ok-Lock.ensures)
    (c.in_ok-push-in-Ok-Lock-2.ensures.ok ∙ ap (λ h. mid ++ (h ∷ [])) c.entered.ensures)

pub returns-in-Err-Fault-clause-went : goal.returns-in-Err-Fault-clause-went
returns-in-Err-Fault-clause-went c returns =
    let t = type_tree c.args.program.now in
    let body = steps_of c.args.body.now in
    let fs = c.loop-frame.frames.items in
    let f = c.loop-frame.frame in
    let block = steps_in c.loop-frame.block in
    let within : f.next < length block = omega (arith, c.loop-frame-test.true, c.steps_of.ensures) in
    let item = item_at block f.next within in
    let acts : (s : Step) (rest : List Step) → slice_get block f.next ≡ Some s
    → Behind t c.step.new.vars s rest (Err (stop.Fault c.in-Err-Fault.cause)) (came_of t (memory t c.loop-frame.vars) s rest) =
    search rules in
    let faulted = fault_turn t body fs f (fs ++ (f ∷ [])) block c.loop-frame.left returns c.loop-frame.vars _ refl
    c.loop-frame.invariant.block
    (c.loop-frame.invariant.so_far returns) item.0 item.1 c.clear-in-Err-Fault.new.self.items c.step.new.vars c.in-Err-Fault.cause
    c.if-left-eq0.false (acts item.0 (drop (f.next + 1) block ++ rest_of t body fs) item.1) c.clear-in-Err-Fault.ensures.items in
    search (rules, faulted, c.in-Err-Fault.cause-is)

pub returns-clause-went : goal.returns-clause-went
returns-clause-went c returns =
    let t = type_tree c.args.program.now in
    let body = steps_of c.args.body.now in
    let fs = c.loop-frame.frames.items in
    let f = c.loop-frame.frame in
    let block = steps_in c.loop-frame.block in
    let past : length block ≤ f.next = omega (arith, c.loop-frame-test.false, c.steps_of.ensures) in
    block_over t body fs f (fs ++ (f ∷ [])) block c.loop-frame.left returns c.loop-frame.vars _ refl c.loop-frame.invariant.block
    (c.loop-frame.invariant.so_far returns) past
