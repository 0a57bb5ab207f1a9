-- What a filter holds, read from the values of its variables.
use Rattle.std.proofs.Common.{◌≡◌, ℕ, ◌+◌, ℤ, Bool, List, length, take, drop, ap, sym, ◌∙◌, arith, Option}
use Rattle.std.proofs.lemmas.List.{take-map}
use Rattle.capability.specs.declared.Cap.{Cap}
use Rattle.eden_value.specs.Datum.{Datum}
use Rattle.eden_value.specs.View.{datum, datums}
use Rattle.eden_value.specs.declared.value.Value.{Value}
use Rattle.epl_syntax.specs.Simple.{argument, number_in, truth_in, cap_in}
use Rattle.epl_syntax.specs.Filters.{Filter, Rule, filter}
use Rattle.transput.proofs.Places.{middle_same}

-- each field is what stands at its place
pub filter_is : (r : Rule) (vars : List Datum) (n : ℕ) (src : Option Cap) (arg : List Datum) (got made : ℤ) (last : Datum) (saved : Bool)
    → n ≡ length r.arg → src ≡ cap_in (argument 0 vars) → arg ≡ take n (drop 1 vars) → got ≡ number_in (argument (n + 1) vars)
    → made ≡ number_in (argument (n + 2) vars) → last ≡ argument (n + 3) vars → saved ≡ truth_in (argument (n + 4) vars)
    → ◌≡◌ {A = Filter} (record { src = src; arg = arg; got = got; made = made; last = last; saved = saved }) (filter r vars)
filter_is r vars n src arg got made last saved e a b d f g h = rw (a, b, d, f, g, h, e)

-- the argument, where the values behind it were cut off
pub argument_of_filter : (n : ℕ) (vars : List Datum) (ws vs : List Value) (ds : List Datum) → take (n + 3) (datums vs) ≡ take (n + 3) vars
    → ws ≡ take (n + 1) vs → ds ≡ drop 1 (datums ws) → ds ≡ take n (drop 1 vars)
argument_of_filter n vars ws vs ds before cut e =
    e ∙ ap (λ l. drop 1 (datums l)) cut ∙ ap (drop 1) (sym (take-map datum (n + 1) vs))
    ∙ middle_same n (n + 3) (datums vs) vars (omega arith) before
