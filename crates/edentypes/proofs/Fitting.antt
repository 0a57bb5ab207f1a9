-- Values of variables that an Eject of a kind may have.
use Rattle.std.proofs.Common.{◌≡◌, List, refl, sym, subst, true≢false}
use Rattle.std.specs.Prelude.{Result, Ok, Err, IfOk}
use Rattle.eden_value.specs.Datum.{Datum}
use Rattle.epl_syntax.specs.declared.types.Native.{Native}
use Rattle.epl_syntax.specs.declared.types.Native.TheVariants as natives
use Rattle.epl_syntax.specs.Edentype.{native}
use Rattle.epl_syntax.specs.Meaning.{first_values, values_from}
use Rattle.epl_syntax.specs.Rules.OfTypes.{TypeList}
use Rattle.directory_eject.specs.Kept.{MayStart}
use Rattle.directory_eject.proofs.Stored.{are_lists}
use Rattle.edentypes.specs.declared.Kind.{Kind}
use Rattle.edentypes.specs.declared.Kind.TheVariants as kinds
use Rattle.edentypes.specs.Fitting.{FitsIf, FitsKind, is_directory_type}
use Rattle.edentypes.specs.View.{kind_in}

-- ---- the first values

-- those of a directory
pub new_starts : MayStart (first_values (native natives.Directory))
new_starts = record { kinds = refl; condition = refl }

native_first : (n : Native) → FitsIf (is_directory_type n) (first_values (native n))
native_first natives.Directory e = new_starts
native_first _ e = absurd (true≢false (sym e))

pub first_fit : (ts : TypeList) (k : Kind) → FitsKind k (first_values (kind_in ts k))
first_fit ts (kinds.Native n) e = native_first n e
first_fit ts (kinds.Declared p) e = absurd (true≢false (sym e))

-- ---- the values of all variables, by those of the durable ones

native_start : (n : Native) (ds : List Datum) → FitsIf (is_directory_type n) ds → FitsIf (is_directory_type n) (values_from (native n) ds)
native_start natives.Directory ds fits e = let starts = fits e in subst MayStart (are_lists ds starts.kinds).start starts
native_start _ ds fits e = absurd (true≢false (sym e))

pub start_fits : (ts : TypeList) (k : Kind) (ds : List Datum) → FitsKind k ds → FitsKind k (values_from (kind_in ts k) ds)
start_fits ts (kinds.Native n) ds fits e = native_start n ds fits e
start_fits ts (kinds.Declared p) ds fits e = absurd (true≢false (sym e))

-- what holds of the one value that a call gives, where it gives one
pub of_given : {X E : Type 0} (r : Result X E) (x : X) (P : X → Type 0) → P x → IfOk r (λ y. y ≡ x) → IfOk r P
of_given (Ok y) x P p h = subst P (sym h) p
of_given (Err e) x P p h = h
