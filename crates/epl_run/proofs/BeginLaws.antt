-- Bodies that begin are what the meaning says.
use Rattle.std.proofs.Common.{◌≡◌, ℕ, zero, suc, ◌+◌, ◌<◌, Bool, true, false, cond, List, [], ◌∷◌, ◌++◌, map, drop, take, length}
use Rattle.std.proofs.Common.{refl, ap, sym, ◌∙◌, arith, None, Some, get_or}
use Rattle.std.specs.Prelude.{slice_get}
use Rattle.std.specs.List.{find, position_from}
use Rattle.std.specs.Option.{option_map}
use Rattle.eden_value.specs.Datum.{Datum}
use Rattle.eden_model.specs.Map.{with_item, same_text}
use Rattle.epl_syntax.specs.declared.tree.OpDecl.{OpDecl}
use Rattle.epl_syntax.specs.declared.tree.ProcDecl.{ProcDecl}
use Rattle.epl_syntax.specs.declared.tree.Program.{Program}
use Rattle.epl_syntax.specs.Tree.{TypeTree, Operation, Process, Local, operation, process, local_of, type_tree}
use Rattle.epl_syntax.specs.Memory.{arguments, locals, value_of_constant}
use Rattle.epl_syntax.specs.Statements.{Step, does, no_answer}
use Rattle.epl_syntax.specs.Turns.{Left, operation_left, process_left, left_of as begun, nothing_left}
use Rattle.epl_values.specs.declared.variables.Owner.{Owner}
use Rattle.epl_values.specs.declared.variables.Owner.TheVariants as owner
use Rattle.epl_syntax.specs.Bindings.{place_of}
use Rattle.epl_values.specs.Variables.{own_of, locals_with}
use Rattle.epl_run.specs.declared.rest.Rest.{Rest}
use Rattle.epl_run.specs.Begins.{local_starts, IsWhole}
use Rattle.epl_run.specs.Blocks.{left_of, rest_of, body_steps, has_to_return, awaited}

-- variables with the values with which they begin
started : (vs : List Local) → locals_with vs (local_starts vs) ≡ locals vs
started [] = refl
started (v ∷ vs) = ap (λ hs. record { name = v.name.text; kind = v.kind.shape; value = value_of_constant v.start.value } ∷ hs) (started vs)

drop_none : (ss : List Step) → drop 0 ss ≡ ss
drop_none [] = refl
drop_none (s ∷ ss) = refl

-- what is left of a body of which nothing is done
pub whole_left : (t : TypeTree) (o : Owner) (params values : List Datum) (r : Rest) → IsWhole o params values r
    → left_of t r ≡ record { steps = body_steps t o; own = own_of t o params values; awaits = no_answer; returns = has_to_return o }
whole_left t o params values r h =
    ap (λ w. record {
      steps = rest_of t (body_steps t w) r.frames.items;
      own = own_of t w r.variables.params r.variables.locals;
      awaits = awaited t (body_steps t w) r.frames.items;
      returns = has_to_return w;
    }) h.owner
    ∙ ap (λ fs. record {
      steps = rest_of t (body_steps t o) fs;
      own = own_of t o r.variables.params r.variables.locals;
      awaits = awaited t (body_steps t o) fs;
      returns = has_to_return o;
    }) h.frames
    ∙ ap (λ ss. record {
      steps = ss;
      own = own_of t o r.variables.params r.variables.locals;
      awaits = no_answer;
      returns = has_to_return o;
    }) (drop_none (body_steps t o))
    ∙ ap (λ ds. record {
      steps = body_steps t o;
      own = own_of t o ds r.variables.locals;
      awaits = no_answer;
      returns = has_to_return o;
    }) h.params
    ∙ ap (λ ds. record { steps = body_steps t o; own = own_of t o params ds; awaits = no_answer; returns = has_to_return o }) h.locals

-- the operation of a name is the one at its place
found_at : (os : List OpDecl) (text : List ℕ) (n at : ℕ) → position_from (λ m. same_text m.text text) n (map (λ o. o.name) os) ≡ Some at
    → (i : ℕ) × (at ≡ n + i) × (find (λ o. same_text o.name.text text) (map operation os) ≡ slice_get (map operation os) i)
found_at [] text n at h = absurd cc
found_at (o ∷ os) text n at h = by (same_text o.name.text text) h (found_at os text (n + 1) at)
  where
    by : (b : Bool) → cond b (Some n) (position_from (λ m. same_text m.text text) (n + 1) (map (λ o. o.name) os)) ≡ Some at
        → (position_from (λ m. same_text m.text text) (n + 1) (map (λ o. o.name) os) ≡ Some at
        → (i : ℕ) × (at ≡ n + 1 + i) × (find (λ o. same_text o.name.text text) (map operation os) ≡ slice_get (map operation os) i))
        → (i : ℕ) × (at ≡ n + i) × (cond b (Some (operation o)) (find (λ o. same_text o.name.text text) (map operation os))
        ≡ slice_get (map operation (o ∷ os)) i)
    by true k again = let e : n ≡ at = cc in (0, omega (arith, e), refl)
    by false k again = let r = again k in (suc r.0, omega (arith, r.1), r.2)

none_found : (os : List OpDecl) (text : List ℕ) (n : ℕ) → position_from (λ m. same_text m.text text) n (map (λ o. o.name) os) ≡ None
    → find (λ o. same_text o.name.text text) (map operation os) ≡ None
none_found [] text n h = refl
none_found (o ∷ os) text n h = by (same_text o.name.text text) h (none_found os text (n + 1))
  where
    by : (b : Bool) → cond b (Some n) (position_from (λ m. same_text m.text text) (n + 1) (map (λ o. o.name) os)) ≡ None
        → (position_from (λ m. same_text m.text text) (n + 1) (map (λ o. o.name) os) ≡ None
        → find (λ o. same_text o.name.text text) (map operation os) ≡ None)
        → cond b (Some (operation o)) (find (λ o. same_text o.name.text text) (map operation os)) ≡ None
    by true k again = absurd cc
    by false k again = again k

-- an operation that begins
pub begun_is : (p : Program) (text : List ℕ) (at : ℕ) (o : OpDecl) (args values : List Datum) (r : Rest)
    → place_of (map (λ o. o.name) p.operations.items) text ≡ Some at → slice_get (map operation p.operations.items) at ≡ Some (operation o)
    → values ≡ local_starts (map local_of o.locals.items) → IsWhole (owner.Operation at) args values r
    → left_of (type_tree p) r ≡ operation_left (type_tree p) text args
begun_is p text at o args values r place there starts h =
    let f = found_at p.operations.items text 0 at place in
    let same : at ≡ f.0 = omega (arith, f.1) in
    whole_left (type_tree p) (owner.Operation at) args values r h
    ∙ ap (λ q. record {
      steps = map does (with_item q (λ (o : Operation). o.body) []);
      own = arguments (with_item q (λ (o : Operation). o.params) []) args ++ locals_with (with_item q (λ (o : Operation). o.locals) [])
          values;
      awaits = no_answer;
      returns = true;
    }) there
    ∙ ap (λ hs. record {
      steps = map does (operation o).body;
      own = arguments (operation o).params args ++ hs;
      awaits = no_answer;
      returns = true;
    }) (ap (locals_with (map local_of o.locals.items)) starts ∙ started (map local_of o.locals.items))
    ∙ sym (ap (λ q. with_item q (λ (o : Operation). begun o args) nothing_left)
    (f.2 ∙ ap (slice_get (map operation p.operations.items)) (sym same) ∙ there))

-- an operation that there is not
pub none_begun : (p : Program) (text : List ℕ) (args values : List Datum) (r : Rest)
    → place_of (map (λ o. o.name) p.operations.items) text ≡ None → IsWhole owner.Nothing args values r
    → left_of (type_tree p) r ≡ operation_left (type_tree p) text args
none_begun p text args values r place h =
    whole_left (type_tree p) owner.Nothing args values r h
    ∙ sym (ap (λ q. with_item q (λ (o : Operation). begun o args) nothing_left) (none_found p.operations.items text 0 place))

-- a declared process that begins
pub process_is : (p : Program) (at : ℕ) (o : ProcDecl) (args values : List Datum) (r : Rest)
    → slice_get (map process p.processes.items) at ≡ Some (process o) → values ≡ local_starts (map local_of o.locals.items)
    → IsWhole (owner.Process at) args values r → left_of (type_tree p) r ≡ process_left (process o)
process_is p at o args values r there starts h =
    whole_left (type_tree p) (owner.Process at) args values r h
    ∙ ap (λ q. record {
      steps = map does (with_item q (λ (o : Process). o.body) []);
      own = locals_with (with_item q (λ (o : Process). o.locals) []) values;
      awaits = no_answer;
      returns = false;
    }) there
    ∙ ap (λ hs. record { steps = map does (process o).body; own = hs; awaits = no_answer; returns = false })
    (ap (locals_with (map local_of o.locals.items)) starts ∙ started (map local_of o.locals.items))

pub op_at : (os : List OpDecl) (i : ℕ) (o : OpDecl) → i < length os → o ≡ get_or os i o
    → slice_get (map operation os) i ≡ Some (operation o)
op_at [] i o h e = absurd (omega arith)
op_at (x ∷ os) zero o h e = ap (λ y. Some (operation y)) (sym e)
op_at (x ∷ os) (suc i) o h e = op_at os i o (omega arith) e

pub process_at : (os : List ProcDecl) (i : ℕ) (o : ProcDecl) → i < length os → o ≡ get_or os i o
    → slice_get (map process os) i ≡ Some (process o)
process_at [] i o h e = absurd (omega arith)
process_at (x ∷ os) zero o h e = ap (λ y. Some (process y)) (sym e)
process_at (x ∷ os) (suc i) o h e = process_at os i o (omega arith) e

-- ---- the declared processes, one after another
map_last : {R : Type 0} (f : R → Left) (rs : List R) (r : R) → map f (rs ++ r ∷ []) ≡ map f rs ++ f r ∷ []
map_last f [] r = refl
map_last f (x ∷ rs) r = ap (λ ls. f x ∷ ls) (map_last f rs r)

take_one : (ps : List Process) (i : ℕ) (x : Left) → Some x ≡ option_map process_left (slice_get ps i)
    → map process_left (take (i + 1) ps) ≡ map process_left (take i ps) ++ x ∷ []
take_one [] i x h = absurd cc
take_one (p ∷ ps) zero x h = let same : x ≡ process_left p = cc in ap (λ y. y ∷ []) (sym same)
take_one (p ∷ ps) (suc i) x h =
    let e : suc i + 1 ≡ suc (i + 1) = omega arith in
    ap (λ j. map process_left (take j (p ∷ ps))) e ∙ ap (λ ls. process_left p ∷ ls) (take_one ps i x h)

pub one_more : {R : Type 0} (f : R → Left) (rs : List R) (r : R) (ps : List Process) (i : ℕ) → map f rs ≡ map process_left (take i ps)
    → Some (f r) ≡ option_map process_left (slice_get ps i) → map f (rs ++ r ∷ []) ≡ map process_left (take (i + 1) ps)
one_more f rs r ps i so_far next =
    map_last f rs r ∙ ap (λ ls. ls ++ f r ∷ []) so_far ∙ sym (take_one ps i (f r) next)
