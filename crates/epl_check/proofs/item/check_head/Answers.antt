use Rattle.std.proofs.Common.{ap, ◌∙◌, map}
use Rattle.epl_syntax.specs.Tree.{written}
use Rattle.epl_syntax.specs.Rules.First.{least}
use Rattle.epl_syntax.specs.Rules.InItems.{too_many, places_of}
use Rattle.epl_check.proofs.Items.{head_told}
use Rattle.epl_check.proofs.item.check_head.Goals as goal

pub returns : goal.returns
returns c =
    let o2 = c.check_among.new.first in
    let o3 = c.check_count.new.first in
    let o4 = c.check_result_count.new.first in
    head_told (map (λ k. k.name) c.args.classes.now) c.args.o.now c.args.first.now c.check_number.new.first o2 o3 o4
    c.check_count-2.new.first c.check_number.ensures
    c.check_among.ensures
    (c.check_count.ensures ∙ ap (λ ps. least o2 (too_many 8 (places_of (map (λ p. p.name) ps)))) c.deref.ensures.value)
    (c.check_result_count.ensures ∙ ap (λ ks. least o3 (too_many 8 (map (λ k. k.place) (map written ks)))) c.deref-2.ensures.value)
    (c.check_count-2.ensures ∙ ap (λ vs. least o4 (too_many 32 (places_of (map (λ v. v.name) vs)))) c.deref-3.ensures.value)
