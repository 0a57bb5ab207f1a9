use Rattle.std.proofs.Common.{rules, not, true, false, refl, sym, ap, subst, ◌∙◌}
use Rattle.std.proofs.lemmas.Fn.{filter_same}
use Rattle.capability.specs.Uids.{uid_eq}
use Rattle.checkpoint.specs.declared.worker.Request.{Request}
use Rattle.checkpoint.specs.Queues.{left_in}
use Rattle.checkpoint.specs.Asked.{AllOfNode}
use Rattle.checkpoint.proofs.Answering.{dropped-answer}
use Rattle.checkpoint.proofs.OfNode.{left-of_node}
use Rattle.checkpoint.proofs.Queues.{left-waiting-all, now-left, begun-left}
use Rattle.checkpoint.proofs.worker.Worker.drop_requests.Goals.{then-eq, else-eq}
use Rattle.checkpoint.proofs.worker.Worker.drop_requests.Goals as goal

pub returns-then-not-self-clause-requests : goal.returns-then-not-self-clause-requests
returns-then-not-self-clause-requests c =
    filter_same _ (λ (q : Request). not (uid_eq q.uid c.args.uid)) _ (λ x b f' k. search rules) _ _ c.retain.ensures.filtered
    ∙ left-waiting-all c.args.uid c.args.self.now.requests.items
    ∙ ap (λ b. left_in b c.args.uid c.args.self.now.requests.items) (sym c.if-not-self.true)

pub returns-after-eq-clause-requests : goal.returns-after-eq-clause-requests
returns-after-eq-clause-requests c =
    begun-left c.args.uid c.args.self.now.begun c.in-Some.first c.if-eq.first c.args.self.now.requests.items _ _ _ c.if-not-self.false
    c.in-Some.ensures.items
    (filter_same _ (λ (q : Request). not (uid_eq q.uid c.args.uid)) _ (λ x b f' k. search rules) _ _ c.retain-in-Some.ensures.filtered)
    c.push_front_reserved.ensures.items
    (elim c.if-eq.branch [
      | then-eq w ↦ now-left c.args.uid c.in-Some.first c.if-eq.first true (sym w.if-eq.ensures) w.first-is
      | else-eq w ↦ now-left c.args.uid c.in-Some.first c.if-eq.first false (sym w.if-eq.ensures) w.first-is
    ])

pub returns-then-not-self-clause-of_node : goal.returns-then-not-self-clause-of_node
returns-then-not-self-clause-of_node c = λ n all.
    subst (AllOfNode n) (sym (returns-then-not-self-clause-requests c))
    (left-of_node n c.args.self.now.begun c.args.uid c.args.self.now.requests.items all)

pub returns-after-eq-clause-of_node : goal.returns-after-eq-clause-of_node
returns-after-eq-clause-of_node c = λ n all.
    subst (AllOfNode n) (sym (returns-after-eq-clause-requests c))
    (left-of_node n c.args.self.now.begun c.args.uid c.args.self.now.requests.items all)

pub returns-then-not-self-clause-answers : goal.returns-then-not-self-clause-answers
returns-then-not-self-clause-answers c = λ all.
    dropped-answer c.args.self.now.begun c.args.self.now.begun c.args.uid c.args.self.now.requests.items _
    (returns-then-not-self-clause-requests c) refl all

pub returns-after-eq-clause-answers : goal.returns-after-eq-clause-answers
returns-after-eq-clause-answers c = λ all.
    dropped-answer c.args.self.now.begun c.args.self.now.begun c.args.uid c.args.self.now.requests.items _
    (returns-after-eq-clause-requests c) refl all
