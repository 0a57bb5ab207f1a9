-- What is read off a declared type, by its parts.
use Rattle.std.proofs.Common.{◌≡◌, ℕ, Bool, true, false, not, cond, Option, Some, Ok, Err, refl, ap, sym, ◌∙◌, List, [], ◌∷◌}
use Rattle.std.proofs.Common.{map, length}
use Rattle.std.proofs.Common.{◌≤◌, suc, ◌==◌, drop, arith}
use Rattle.std.specs.Prelude.{Result}
use Rattle.std.proofs.lemmas.Bool.Decides.{nat_tests}
use Rattle.std.specs.List.{find, position_from}
use Rattle.std.specs.Option.{option_map}
use Rattle.std.proofs.lemmas.List.{drop_all}
use Rattle.std.proofs.lemmas.Iterator.Adapters.{position_from-zero}
use Rattle.capability.specs.Rights.{is_within}
use Rattle.capability.specs.declared.Rights.{Rights}
use Rattle.eden_model.specs.Map.{with_item, same_text}
use Rattle.eden_value.specs.Datum.{Datum}
use Rattle.eden_value.specs.Shape.{Shape, shape}
use Rattle.eden_value.specs.View.{datums}
use Rattle.eden_value.specs.declared.value.Value.{Value}
use Rattle.eden_value.specs.declared.status.Status.{Status}
use Rattle.eden_value.specs.declared.status.Status.TheVariants as status
use Rattle.epl_syntax.specs.declared.tree.ClassDecl.{ClassDecl}
use Rattle.epl_syntax.specs.declared.tree.OpDecl.{OpDecl}
use Rattle.epl_syntax.specs.declared.tree.ParDecl.{ParDecl}
use Rattle.epl_syntax.specs.declared.tree.Program.{Program}
use Rattle.epl_syntax.specs.declared.tree.VarDecl.{VarDecl}
use Rattle.epl_syntax.specs.Edentype.{slots_of, declared, declared_operation}
use Rattle.epl_syntax.specs.Kinds.{have_shapes}
use Rattle.epl_syntax.specs.Meaning.{operation_of}
use Rattle.epl_syntax.specs.Outline.{Slot, starts, with_kept, kinds_kept}
use Rattle.epl_syntax.specs.Tree.{variable, parameter, operation, type_tree}
use Rattle.edentypes.specs.Forms.{slot_of_variable}
use Rattle.edentypes.specs.View.{fit_in, fit_of}

-- its variables
pub slots_are : (vs : List VarDecl) → map slot_of_variable vs ≡ slots_of (map variable vs)
slots_are [] = refl
slots_are (v ∷ vs) = ap (λ l. slot_of_variable v ∷ l) (slots_are vs)

-- the kinds of parameters
pub params_are : (ps : List ParDecl) → map (λ p. shape p.kind.kind) ps ≡ map (λ p. p.kind.shape) (map parameter ps)
params_are [] = refl
params_are (p ∷ ps) = ap (λ l. shape p.kind.kind ∷ l) (params_are ps)

-- with no durable values all variables begin anew
pub starts_are : (slots : List Slot) → with_kept slots [] ≡ starts slots
starts_are [] = refl
starts_are (v ∷ slots) = go v.durable (starts_are slots)
  where
    go : (b : Bool) → with_kept slots [] ≡ starts slots
        → cond b (v.start ∷ with_kept slots []) (v.start ∷ with_kept slots []) ≡ v.start ∷ starts slots
    go true more = ap (λ l. v.start ∷ l) more
    go false more = ap (λ l. v.start ∷ l) more

-- what is found among things made of others
find_map : {X Y : Type 0} (f : X → Y) (p : Y → Bool) (xs : List X) → find p (map f xs) ≡ option_map f (find (λ x. p (f x)) xs)
find_map f p [] = refl
find_map f p (x ∷ xs) = go (p (f x)) (find_map f p xs)
  where
    go : (b : Bool) → find p (map f xs) ≡ option_map f (find (λ y. p (f y)) xs)
        → cond b (Some (f x)) (find p (map f xs)) ≡ option_map f (cond b (Some x) (find (λ y. p (f y)) xs))
    go true more = refl
    go false more = more

-- the operation of a name of a declared type is that of the text
operation_is : (p : Program) (name : List ℕ) → operation_of (declared (type_tree p)) name
    ≡ option_map (declared_operation p.classes.items) (option_map operation (find (λ o. same_text o.name.text name) p.operations.items))
operation_is p name =
    find_map (declared_operation p.classes.items) (λ o. same_text o.name name) (map operation p.operations.items)
    ∙ ap (option_map (declared_operation p.classes.items)) (find_map operation (λ o. same_text o.name.text name) p.operations.items)

-- a call of a declared type
pub fit_is : (p : Program) (rights : Rights) (name : List ℕ) (args : List Datum) (found : Option OpDecl)
    → found ≡ find (λ o. same_text o.name.text name) p.operations.items
    → with_item (option_map (declared_operation p.classes.items) (option_map operation found)) (fit_of rights args) (Err status.NoOperation)
    ≡ fit_in (declared (type_tree p)) rights name args
fit_is p rights name args found is =
    ap (λ o. with_item (option_map (declared_operation p.classes.items) (option_map operation o)) (fit_of rights args)
    (Err status.NoOperation)) is
    ∙ ap (λ o. with_item o (fit_of rights args) (Err status.NoOperation)) (sym (operation_is p name))

-- a call of an operation of a declared type
module _ (classes : List ClassDecl) (o : OpDecl) (rights : Rights) (args : List Datum) where
  -- by whether it has the right, and whether the arguments fit
  abbrev by : Bool → Bool → Result ℕ Status
  by within fit = cond (not within) (Err status.NoRight) (cond (not fit) (Err status.BadArguments)
      (Ok (declared_operation classes (operation o)).class))

  is_by : (within fit : Bool) → within ≡ is_within (record { bits = o.needs.n }) rights
      → fit ≡ have_shapes args (map (λ q. shape q.kind.kind) o.params.items)
      → by within fit ≡ fit_of rights args (declared_operation classes (operation o))
  is_by within fit w f =
      ap (λ b. by b fit) w
      ∙ ap (by (is_within (record { bits = o.needs.n }) rights)) (f ∙ ap (have_shapes args) (params_are o.params.items))

  pub bad_arguments : (within fit : Bool) → within ≡ is_within (record { bits = o.needs.n }) rights
      → fit ≡ have_shapes args (map (λ q. shape q.kind.kind) o.params.items) → within ≡ true → fit ≡ false
      → Err status.BadArguments ≡ fit_of rights args (declared_operation classes (operation o))
  bad_arguments within fit w f may fails = sym (ap (λ b. by b fit) may ∙ ap (by true) fails) ∙ is_by within fit w f

  pub fits : (within fit : Bool) → within ≡ is_within (record { bits = o.needs.n }) rights
      → fit ≡ have_shapes args (map (λ q. shape q.kind.kind) o.params.items) → within ≡ true → fit ≡ true → (class : ℕ)
      → class ≡ with_item (position_from (λ c. same_text c.name.text o.class.text) 0 classes) (λ i. i) 0
      → Ok class ≡ fit_of rights args (declared_operation classes (operation o))
  fits within fit w f may fit_too class is =
      ap Ok (is ∙ ap (λ i. with_item i (λ j. j) 0) (sym (position_from-zero (λ c. same_text c.name.text o.class.text) classes)))
      ∙ sym (ap (λ b. by b fit) may ∙ ap (by true) fit_too) ∙ is_by within fit w f

-- ---- after the last of the kinds
not_zero : (n : ℕ) → (suc n == 0) ≡ false
not_zero n = grind (arith, nat_tests)

empty_fits : (vs : List Value) → have_shapes (datums vs) [] ≡ (length vs == 0)
empty_fits [] = refl
empty_fits (v ∷ vs) = sym (not_zero (length vs))

pub none_left : {X : Type 0} (vs : List Value) (f : X → Shape) (ks : List X) (i : ℕ) → length ks ≤ i
    → have_shapes (datums vs) (map f (drop i ks)) ≡ (length vs == 0)
none_left vs f ks i past = ap (λ l. have_shapes (datums vs) (map f l)) (drop_all i ks past) ∙ empty_fits vs

pub none_kept : {X : Type 0} (vs : List Value) (f : X → Slot) (ks : List X) (i : ℕ) → length ks ≤ i
    → have_shapes (datums vs) (kinds_kept (map f (drop i ks))) ≡ (length vs == 0)
none_kept vs f ks i past = ap (λ l. have_shapes (datums vs) (kinds_kept (map f l))) (drop_all i ks past) ∙ empty_fits vs
