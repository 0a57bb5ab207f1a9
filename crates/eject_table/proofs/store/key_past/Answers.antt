use Rattle.std.proofs.Common.{◌≡◌, ℕ, Bool, true, false, refl, sym, ◌∙◌, ap, map, Option, rules}
use Rattle.std.specs.Prelude.{◌&&◌}
use Rattle.std.specs.Ordering.{is_lt}
use Rattle.capability.specs.declared.Uid.{Uid}
use Rattle.capability.specs.Uids.{uid_cmp}
use Rattle.eden_model.specs.Map.{first}
use Rattle.eject_table.proofs.Keys.{first-kept}
use Rattle.eject_table.proofs.store.key_past.Goals as goal

and-true : (b : Bool) → (b && true) ≡ b
and-true b = elim b as (λ c. (c && true) ≡ c) [ true ↦ refl | false ↦ refl ]

pub returns-in-Some : goal.returns-in-Some
returns-in-Some c =
    ap (λ es. first (map (λ (e : Uid × Option ℕ). e.0) es)) (sym c.in-Some.ensures.steps ∙ c.range.ensures.between (search rules))
    ∙ first-kept (λ v. is_lt (uid_cmp c.args.uid v)) _ (λ e. and-true _) c.args.places.now.entries

pub returns-in-None : goal.returns-in-None
returns-in-None c =
    ap (λ es. first (map (λ (e : Uid × Option ℕ). e.0) es)) (sym c.in-None.ensures.steps.0 ∙ c.range.ensures.between (search rules))
    ∙ first-kept (λ v. is_lt (uid_cmp c.args.uid v)) _ (λ e. and-true _) c.args.places.now.entries
