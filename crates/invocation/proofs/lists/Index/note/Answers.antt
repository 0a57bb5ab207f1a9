use Rattle.std.proofs.Common.{◌≡◌, ◌≢◌, ◌+◌, ◌++◌, ◌∷◌, [], ◌==◌, length, true, false, subst, sym, ◌∙◌, ap, arith}
use Rattle.std.proofs.lemmas.Bool.{eqb-true}
use Rattle.invocation.specs.Listed.{numbers_at}
use Rattle.invocation.proofs.Filters.{eq-apart}
use Rattle.invocation.proofs.Index.{index-noted}
use Rattle.invocation.proofs.lists.Index.note.Goals as goal

pub returns-then-from-to : goal.returns-then-from-to
returns-then-from-to c calls x n from to h =
    let f = c.args.from in
    let t = c.args.to in
    let old = c.args.self.now in
    let lists = c.requires.room.lists in
    let differ : (f == t) ≡ false = grind (arith, c.if-from-to.true) in
    let apart : f ≢ t = eq-apart f t differ in
    index-noted calls x f t from to old (record { links = c.push_at.new.lists; nodes = c.push_at-then-from-to.new.lists })
    (record {
      links = c.push_at.ensures.length ∙ lists.links;
      nodes = c.push_at-then-from-to.ensures.length ∙ c.push_at-2.ensures.length ∙ lists.nodes;
    })
    (subst (λ p. numbers_at p c.push_at.new.lists.items ≡ numbers_at p old.links.items ++ (length calls + 1) ∷ []) c.link.ensures.place
    (c.push_at.ensures.pushed ∙ ap (λ k. numbers_at c.link.result old.links.items ++ k ∷ []) n))
    (λ p other. c.push_at.ensures.others p (λ same. other (same ∙ c.link.ensures.place)))
    (c.push_at-then-from-to.ensures.others f apart ∙ c.push_at-2.ensures.pushed ∙ ap (λ k. numbers_at f old.nodes.items ++ k ∷ []) n)
    (λ other.
    c.push_at-then-from-to.ensures.pushed ∙ ap (λ l. l ++ c.args.number ∷ []) (c.push_at-2.ensures.others t other)
    ∙ ap (λ k. numbers_at t old.nodes.items ++ k ∷ []) n)
    (λ p not_f not_t. c.push_at-then-from-to.ensures.others p not_t ∙ c.push_at-2.ensures.others p not_f)
    h

pub returns-else-from-to : goal.returns-else-from-to
returns-else-from-to c calls x n from to h =
    let f = c.args.from in
    let t = c.args.to in
    let old = c.args.self.now in
    let lists = c.requires.room.lists in
    let equal : (f == t) ≡ true = grind (arith, c.if-from-to.false) in
    let same_end : f ≡ t = eqb-true f t equal in
    index-noted calls x f t from to old (record { links = c.push_at.new.lists; nodes = c.push_at-2.new.lists })
    (record {
      links = c.push_at.ensures.length ∙ lists.links;
      nodes = c.push_at-2.ensures.length ∙ lists.nodes;
    })
    (subst (λ p. numbers_at p c.push_at.new.lists.items ≡ numbers_at p old.links.items ++ (length calls + 1) ∷ []) c.link.ensures.place
    (c.push_at.ensures.pushed ∙ ap (λ k. numbers_at c.link.result old.links.items ++ k ∷ []) n))
    (λ p other. c.push_at.ensures.others p (λ same. other (same ∙ c.link.ensures.place)))
    (c.push_at-2.ensures.pushed ∙ ap (λ k. numbers_at f old.nodes.items ++ k ∷ []) n)
    (λ other. absurd (other (sym same_end)))
    (λ p not_f not_t. c.push_at-2.ensures.others p not_f)
    h
