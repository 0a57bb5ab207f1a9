use Rattle.std.proofs.Common.{rules}
use Rattle.std.specs.Option.{option_map}
use Rattle.eden_script.specs.View.{seen_of, place_of}
use Rattle.epl_syntax.specs.Tree.{type_tree}
use Rattle.eden_script.proofs.FlawLaws.{too_many, refused, outside, said}
use Rattle.eden_script.proofs.part.edentype.Goals as goal

pub returns-then-not-is_room : goal.returns-then-not-is_room
returns-then-not-is_room c =
    too_many (seen_of c.args.seen.now) c.args.text.now (search rules) (option_map place_of c.in_ok-outer.outer) c.in_ok-outer.ensures
    (place_of c.with_text.result) c.with_text.ensures

pub returns-in-Err-At : goal.returns-in-Err-At
returns-in-Err-At c =
    let laws = c.refusals_are_one.ensures in
    refused (seen_of c.args.seen.now) c.args.text.now
    (record { one_tree = c.types_are_one.ensures.one_tree; one_place = laws.one_place; never_both = laws.never_both }) (search rules)
    c.in-Err-At.place (search rules)
    (option_map place_of c.in_ok-outer.outer) c.in_ok-outer.ensures c.line_at_place.result c.line_at_place.ensures
    (place_of c.with_text-in-Err-At.result) c.with_text-in-Err-At.ensures

pub returns-in-Some : goal.returns-in-Some
returns-in-Some c =
    let laws = c.refusals_are_one.ensures in
    outside (seen_of c.args.seen.now) c.args.text.now
    (record { one_tree = c.types_are_one.ensures.one_tree; one_place = laws.one_place; never_both = laws.never_both }) (search rules)
    (type_tree c.in-Ok.edentype.program) c.in-Ok.ensures.declares (place_of c.in-Some.at) (search rules)

pub returns-in-None : goal.returns-in-None
returns-in-None c =
    let laws = c.refusals_are_one.ensures in
    said (seen_of c.args.seen.now) c.args.text.now
    (record { one_tree = c.types_are_one.ensures.one_tree; one_place = laws.one_place; never_both = laws.never_both }) (search rules)
    (type_tree c.in-Ok.edentype.program) c.in-Ok.ensures.declares (search rules)
