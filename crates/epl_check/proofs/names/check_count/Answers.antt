use Rattle.std.proofs.Common.{◌≡◌, ℕ, zero, suc, ◌<◌, List, [], ◌∷◌, map, length, get_or, ap, sym, ◌∙◌, arith}
use Rattle.epl_syntax.specs.declared.tree.Name.{Name}
use Rattle.epl_syntax.specs.declared.rule.Rule.TheVariants.{BadLimit}
use Rattle.epl_syntax.specs.Rules.First.{least, broken_at}
use Rattle.epl_syntax.specs.Rules.InItems.{too_many, places_of}
use Rattle.epl_check.proofs.names.check_count.Goals as goal

past_limit : {A : Type 0} (g : A → Name) (xs : List A) (i : ℕ) (x : A) → i < length xs → x ≡ get_or xs i x
    → too_many i (places_of (map g xs)) ≡ broken_at BadLimit (g x).place ∷ []
past_limit g [] i x h k = absurd (omega arith)
past_limit g (y ∷ xs) zero x h k = ap (λ z. broken_at BadLimit (g z).place ∷ []) (sym k)
past_limit g (y ∷ xs) (suc i) x h k = past_limit g xs i x (omega arith) k

pub returns-in-Some : goal.returns-in-Some
returns-in-Some g c =
    let l = c.in-Some.ensures.lookup in
    let e = past_limit g.T.Named.named c.args.items.now c.args.limit c.in-Some.item.now l.3.0 (l.3.1 c.in-Some.item.now) in
    let n = c.name.ensures in
    c.tell_if.ensures ∙ ap (λ m. least c.args.first.now (broken_at BadLimit m.place ∷ [])) n ∙ ap (least c.args.first.now) (sym e)
