use Rattle.std.proofs.Common.{◌∙◌, sym, arith, rules}
use Rattle.epl_syntax.specs.Tree.{type_tree}
use Rattle.eden_script.specs.Declarations.{types_in}
use Rattle.script_words.specs.Lines.{lines_of}
use Rattle.script_words.proofs.Cutting.{no_bytes}
use Rattle.eden_script.proofs.DeclarationLaws.{OneAnswer}
use Rattle.mistakes.specs.TypePlaces.{IsFault}
use Rattle.mistakes.proofs.BadTypes.{way_some, way_closed}
use Rattle.mistakes.proofs.TypeParts.{going_line, going_full, going_new, going_refused, going_type, keeps, refused_short}
use Rattle.mistakes.proofs.bad_type.bad_type.Goals as goal

pub loop-rest-preserved-then-not-begins_edentype : goal.loop-rest-preserved-then-not-begins_edentype
loop-rest-preserved-then-not-begins_edentype c = record {
  going =
      going_line c.args.bytes.now c.loop-rest.rest.now c.first_line.result.0.now c.first_line.result.1.now c.args.line c.loop-rest.types
      c.loop-rest.room c.loop-rest.invariant.going c.first_line.ensures.line (sym c.begins_edentype.ensures ∙ c.if-not-begins_edentype.true);
  short = (let shorter = c.first_line.ensures.shorter in let before = c.loop-rest.invariant.short in omega (arith, shorter, before));
}

pub unreachable-requires : goal.unreachable-requires
unreachable-requires c =
    way_closed c.args.bytes.now c.loop-rest.rest.now (lines_of c.loop-rest.rest.now) c.args.line (types_in c.loop-rest.types)
    c.loop-rest.invariant.going.way c.in_default.ensures

pub returns-then-room-eq0-clause-bad : goal.returns-then-room-eq0-clause-bad
returns-then-room-eq0-clause-bad c =
    going_full c.args.bytes.now c.loop-rest.rest.now c.in-Some.text.now c.in-Some.behind.now c.args.line c.loop-rest.types c.loop-rest.room
    c.loop-rest.invariant.going c.in-Some.ensures.0 c.if-room-eq0.true

pub returns-in-Err-clause-bad : goal.returns-in-Err-clause-bad
returns-in-Err-clause-bad c =
    let laws : OneAnswer = record {
      one_tree = c.types_are_one.ensures.one_tree;
      one_place = c.refusals_are_one.ensures.one_place;
      never_both = c.refusals_are_one.ensures.never_both;
    } in
    going_refused laws c.args.bytes.now c.loop-rest.rest.now c.in-Some.text.now c.in-Some.behind.now c.args.line c.loop-rest.types
    c.loop-rest.room c.refusal_of.result c.loop-rest.invariant.going c.in-Some.ensures.0 c.if-room-eq0.false
    (c.refusal_of.ensures (types_in c.loop-rest.types) c.in-Err.ensures.refused)

pub unreachable-requires-2 : goal.unreachable-requires-2
unreachable-requires-2 c =
    way_some c.args.bytes.now c.loop-rest.rest.now c.args.line (types_in c.loop-rest.types) c.loop-rest.invariant.going.way
    (no_bytes c.loop-rest.rest.now (search rules))

pub returns-in-Err-clause-short : goal.returns-in-Err-clause-short
returns-in-Err-clause-short c =
    let fits = c.in-Some.ensures.2 in
    let before = c.loop-rest.invariant.short in
    let few = c.requires.short in
    refused_short (λ b. IsFault (types_in c.loop-rest.types) c.in-Some.text.now b.place b.fault) c.in-Some.text.now 2147483648
    c.refusal_of.result (omega (arith, fits, before, few))
    (c.refusal_of.ensures (types_in c.loop-rest.types) c.in-Err.ensures.refused)

pub add-requires-clause-rules : goal.add-requires-clause-rules
add-requires-clause-rules c =
    keeps c.loop-rest.types c.in-Some.text.now (type_tree c.in-Ok.edentype.program) c.in-Ok.ensures.declares

pub add-requires-clause-name : goal.add-requires-clause-name
add-requires-clause-name c =
    let laws : OneAnswer = record {
      one_tree = c.types_are_one.ensures.one_tree;
      one_place = c.refusals_are_one.ensures.one_place;
      never_both = c.refusals_are_one.ensures.never_both;
    } in
    going_new laws c.types_are_named.ensures.named c.args.bytes.now c.loop-rest.rest.now c.in-Some.text.now c.in-Some.behind.now
    c.args.line c.loop-rest.types c.loop-rest.room (type_tree c.in-Ok.edentype.program) c.loop-rest.invariant.going c.in-Some.ensures.0
    c.if-room-eq0.false c.in-Ok.ensures.declares

pub loop-rest-preserved : goal.loop-rest-preserved
loop-rest-preserved c = record {
  going =
      let laws : OneAnswer = record {
        one_tree = c.types_are_one.ensures.one_tree;
        one_place = c.refusals_are_one.ensures.one_place;
        never_both = c.refusals_are_one.ensures.never_both;
      } in
      going_type laws c.args.bytes.now c.loop-rest.rest.now c.in-Some.text.now c.in-Some.behind.now c.args.line c.loop-rest.types
      c.add.new.self c.loop-rest.room c.in-Ok.edentype.program c.loop-rest.invariant.going c.in-Some.ensures.0 c.if-room-eq0.false
      c.in-Ok.ensures.declares c.in_ok-add-in-Ok.ensures.ok;
  short = (let fits = c.in-Some.ensures.2 in let before = c.loop-rest.invariant.short in omega (arith, fits, before));
}
