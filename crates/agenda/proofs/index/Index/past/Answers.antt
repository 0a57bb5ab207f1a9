use Rattle.std.proofs.Common.{◌≡◌, Bool, true, false, refl, sym, ◌∙◌, ap, map, rules}
use Rattle.std.specs.Prelude.{◌&&◌}
use Rattle.std.specs.Ordering.{is_lt}
use Rattle.capability.specs.declared.Uid.{Uid}
use Rattle.capability.specs.Uids.{uid_cmp}
use Rattle.eden_model.specs.Map.{first}
use Rattle.agenda.proofs.Ranges.{first-kept}
use Rattle.agenda.proofs.index.Index.past.Goals as goal

and-true : (b : Bool) → (b && true) ≡ b
and-true b = elim b as (λ c. (c && true) ≡ c) [ true ↦ refl | false ↦ refl ]

pub returns-in-Some : goal.returns-in-Some
returns-in-Some c =
    ap (λ es. first (map (λ (e : Uid × Bool). e.0) es)) (sym c.in-Some.ensures.steps ∙ c.range.ensures.between (search rules))
    ∙ first-kept (λ v. is_lt (uid_cmp c.args.uid v)) _ (λ e. and-true _) c.args.self.now.uids.entries

pub returns-in-None : goal.returns-in-None
returns-in-None c =
    ap (λ es. first (map (λ (e : Uid × Bool). e.0) es)) (sym c.in-None.ensures.steps.0 ∙ c.range.ensures.between (search rules))
    ∙ first-kept (λ v. is_lt (uid_cmp c.args.uid v)) _ (λ e. and-true _) c.args.self.now.uids.entries
