use Rattle.std.proofs.Common.{◌≡◌, ◌∷◌, ◌++◌, List, false, length, map, refl, sym, ap, subst, ◌∙◌, arith}
use Rattle.std.specs.List.{AllByRecursion}
use Rattle.epl_syntax.specs.Edentype.{declared as declared_type}
use Rattle.epl_syntax.specs.Meaning.{Rest as Meant, of_declared, declared}
use Rattle.epl_syntax.specs.Tree.{TypeTree, type_tree}
use Rattle.epl_run.specs.Blocks.{left_of}
use Rattle.epl_run.specs.declared.rest.Rest.{Rest as LeftToDo}
use Rattle.edentypes.specs.Fitting.{is_directory_rest}
use Rattle.edentypes.specs.View.{rest_of}
use Rattle.edentypes.proofs.ProcessLists.{begun_are, few_begin, meant_of, rest_found, one_found}
use Rattle.edentypes.proofs.beginning.declared_processes.Goals as goal

pub loop-rest-preserved : goal.loop-rest-preserved
loop-rest-preserved c =
    let t : TypeTree = type_tree c.args.program.now in
    let found : List Meant = map (rest_of (declared_type t)) c.loop-rest.found.items in
    let left : List LeftToDo = c.pop.new.self.items in
    record {
      begin = ap (λ l. meant_of t left ++ map (rest_of (declared_type t)) l) c.in_ok-insert.ensures.items
          ∙ ap (λ r. meant_of t left ++ of_declared (left_of t r) ∷ found) c.in_ok-rest.ensures.ok
          ∙ one_found t left c.in-Some.rest found (meant_of t c.in_ok-left.left.items)
          (ap (λ l. meant_of t l ++ found) (sym c.in-Some.ensures.items) ∙ c.loop-rest.invariant.begin);
      fit = subst (AllByRecursion (λ r. is_directory_rest r ≡ false)) (sym c.in_ok-insert.ensures.items) (refl, c.loop-rest.invariant.fit);
    }

pub returns : goal.returns
returns c =
    let t : TypeTree = type_tree c.args.program.now in
    let none : length c.loop-rest.left.items ≡ 0 = grind (arith, c.in_default.ensures.cases.0, c.loop-rest.left.ok) in
    let begin : map (rest_of (declared_type t)) c.loop-rest.found.items ≡ declared (declared_type t) =
    rest_found t c.loop-rest.left.items (map (rest_of (declared_type t)) c.loop-rest.found.items) c.in_ok-left.left.items none
    c.loop-rest.invariant.begin
    ∙ begun_are t c.in_ok-left.left.items c.in_ok-left.ensures in
    record {
      begin = begin;
      few = few_begin c.args.program.now (rest_of (declared_type t)) c.loop-rest.found.items c.requires begin;
      fit = c.loop-rest.invariant.fit;
    }
