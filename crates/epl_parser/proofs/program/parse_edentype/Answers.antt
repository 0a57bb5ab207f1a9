use Rattle.std.proofs.Common.{◌≡◌, ℕ, ◌<◌, List, [], length, Ok, Err, sym, ap, ◌∙◌, subst, arith, inl, inr}
use Rattle.grammar.specs.Depths.{Look, bad, deep}
use Rattle.grammar.specs.Tells.{Halts}
use Rattle.epl_syntax.specs.declared.token.Token.{Token}
use Rattle.epl_syntax.specs.Tree.{TypeTree, type_tree}
use Rattle.epl_parser.specs.ItemReader.{read_program}
use Rattle.epl_parser.specs.Program.{place_of}
use Rattle.epl_parser.proofs.Whole.{all_spelled, goes_on, breaks, deepens, spelled_read}
use Rattle.epl_parser.proofs.FewMonitors.{tokens_fit}
use Rattle.epl_parser.proofs.program.parse_edentype.Goals as goal

ok_not_bad : (r : Look Token TypeTree) (e : TypeTree) (left : ℕ) → r ≡ Ok (e, []) → r ≡ Err (bad left) → ⊥
ok_not_bad r e left h k = let same : ◌≡◌ {A = Look Token TypeTree} (Ok (e, [])) (Err (bad left)) = sym h ∙ k in absurd (cc)

ok_not_deep : (r : Look Token TypeTree) (e : TypeTree) (left : ℕ) → r ≡ Ok (e, []) → r ≡ Err (deep left) → ⊥
ok_not_deep r e left h k = let same : ◌≡◌ {A = Look Token TypeTree} (Ok (e, [])) (Err (deep left)) = sym h ∙ k in absurd (cc)

ok_one : (r : Look Token TypeTree) (e f : TypeTree) → r ≡ Ok (e, []) → r ≡ Ok (f, []) → e ≡ f
ok_one r e f h k =
    let same : ◌≡◌ {A = Look Token TypeTree} (Ok (e, [])) (Ok (f, [])) = sym h ∙ k in
    let pairs : ◌≡◌ {A = TypeTree × List Token} (e, []) (f, []) = cc in
    ap (λ x. x.0) pairs

pub whole-requires : goal.whole-requires
whole-requires c =
    let o = c.in_ok-tokens in
    let fit = tokens_fit c.args.text.now 0 o.tokens.items o.end o.ensures.leads in
    let same = ap (λ (l : List Token). length l) c.deref.ensures.value in
    record { few = omega (arith, fit, same, o.ensures.within, c.requires.short) }

pub returns-then-end-text-clause-answers : goal.returns-then-end-text-clause-answers
returns-then-end-text-clause-answers c =
    let o = c.in_ok-tokens in
    let turns : ℕ = 18446744073709551615 in
    let few : length o.tokens.items < turns = omega (arith, o.tokens.ok.0, o.tokens.small) in
    let read =
    subst (λ (l : List Token). read_program c.args.text.now turns l ≡ Ok (type_tree c.in-Ok.program, [])) c.deref.ensures.value
    c.in-Ok.ensures in
    inr (goes_on c.args.text.now turns o.tokens.items o.end few o.ensures.leads o.ensures.stops
    (type_tree c.in-Ok.program) read c.if-end-text.true)

pub returns-then-end-text-clause-taken : goal.returns-then-end-text-clause-taken
returns-then-end-text-clause-taken c e h =
    let o = c.in_ok-tokens in
    let turns : ℕ = 18446744073709551615 in
    let few : length o.tokens.items < turns = omega (arith, o.tokens.ok.0, o.tokens.small) in
    let last = (spelled_read c.args.text.now turns o.tokens.items o.end few o.ensures.leads o.ensures.stops e h).1 in
    let more : o.end < length c.args.text.now = c.if-end-text.true in
    absurd (omega arith)

pub returns-in-Ok-clause-answers : goal.returns-in-Ok-clause-answers
returns-in-Ok-clause-answers c =
    let o = c.in_ok-tokens in
    let turns : ℕ = 18446744073709551615 in
    let few : length o.tokens.items < turns = omega (arith, o.tokens.ok.0, o.tokens.small) in
    let read =
    subst (λ (l : List Token). read_program c.args.text.now turns l ≡ Ok (type_tree c.in-Ok.program, [])) c.deref.ensures.value
    c.in-Ok.ensures in
    let last : o.end ≡ length c.args.text.now = omega (arith, c.if-end-text.false, o.ensures.within) in
    all_spelled c.args.text.now turns o.tokens.items o.end few o.ensures.leads o.ensures.stops (type_tree c.in-Ok.program) read last

pub returns-in-Ok-clause-taken : goal.returns-in-Ok-clause-taken
returns-in-Ok-clause-taken c e h =
    let o = c.in_ok-tokens in
    let turns : ℕ = 18446744073709551615 in
    let few : length o.tokens.items < turns = omega (arith, o.tokens.ok.0, o.tokens.small) in
    let read =
    subst (λ (l : List Token). read_program c.args.text.now turns l ≡ Ok (type_tree c.in-Ok.program, [])) c.deref.ensures.value
    c.in-Ok.ensures in
    ok_one (read_program c.args.text.now turns o.tokens.items) (type_tree c.in-Ok.program) e read
    (spelled_read c.args.text.now turns o.tokens.items o.end few o.ensures.leads o.ensures.stops e h).0

pub returns-in-Err-Bad-clause-answers : goal.returns-in-Err-Bad-clause-answers
returns-in-Err-Bad-clause-answers c =
    let o = c.in_ok-tokens in
    let turns : ℕ = 18446744073709551615 in
    let few : length o.tokens.items < turns = omega (arith, o.tokens.ok.0, o.tokens.small) in
    let halts = subst (λ h. Halts h (read_program c.args.text.now turns c.deref.result.now)) c.in-Err-Bad.field-0-is c.in-Err-Bad.ensures in
    let read = subst (λ (l : List Token). read_program c.args.text.now turns l ≡ Err (bad c.in-Err-Bad.left)) c.deref.ensures.value halts in
    let here = c.place_of.ensures ∙ ap (λ (l : List Token). place_of o.end l c.in-Err-Bad.left) c.deref-in-Err-Bad.ensures.value in
    inl (breaks c.args.text.now turns o.tokens.items o.end few o.ensures.leads o.ensures.stops c.in-Err-Bad.left c.place_of.result read
    here)

pub returns-in-Err-Bad-clause-taken : goal.returns-in-Err-Bad-clause-taken
returns-in-Err-Bad-clause-taken c e h =
    let o = c.in_ok-tokens in
    let turns : ℕ = 18446744073709551615 in
    let few : length o.tokens.items < turns = omega (arith, o.tokens.ok.0, o.tokens.small) in
    let halts = subst (λ h. Halts h (read_program c.args.text.now turns c.deref.result.now)) c.in-Err-Bad.field-0-is c.in-Err-Bad.ensures in
    let read = subst (λ (l : List Token). read_program c.args.text.now turns l ≡ Err (bad c.in-Err-Bad.left)) c.deref.ensures.value halts in
    ok_not_bad (read_program c.args.text.now turns o.tokens.items) e c.in-Err-Bad.left
    (spelled_read c.args.text.now turns o.tokens.items o.end few o.ensures.leads o.ensures.stops e h).0 read

pub returns-clause-answers : goal.returns-clause-answers
returns-clause-answers c =
    let o = c.in_ok-tokens in
    let turns : ℕ = 18446744073709551615 in
    let few : length o.tokens.items < turns = omega (arith, o.tokens.ok.0, o.tokens.small) in
    let halts =
    subst (λ h. Halts h (read_program c.args.text.now turns c.deref.result.now)) c.in-Err-Deep.field-0-is c.in-Err-Deep.ensures in
    let read =
    subst (λ (l : List Token). read_program c.args.text.now turns l ≡ Err (deep c.in-Err-Deep.left)) c.deref.ensures.value halts in
    let here =
    c.place_of-in-Err-Deep.ensures ∙ ap (λ (l : List Token). place_of o.end l c.in-Err-Deep.left) c.deref-in-Err-Deep.ensures.value in
    deepens c.args.text.now turns o.tokens.items o.end few o.ensures.leads o.ensures.stops c.in-Err-Deep.left c.place_of-in-Err-Deep.result
    read here

pub returns-clause-taken : goal.returns-clause-taken
returns-clause-taken c e h =
    let o = c.in_ok-tokens in
    let turns : ℕ = 18446744073709551615 in
    let few : length o.tokens.items < turns = omega (arith, o.tokens.ok.0, o.tokens.small) in
    let halts =
    subst (λ h. Halts h (read_program c.args.text.now turns c.deref.result.now)) c.in-Err-Deep.field-0-is c.in-Err-Deep.ensures in
    let read =
    subst (λ (l : List Token). read_program c.args.text.now turns l ≡ Err (deep c.in-Err-Deep.left)) c.deref.ensures.value halts in
    ok_not_deep (read_program c.args.text.now turns o.tokens.items) e c.in-Err-Deep.left
    (spelled_read c.args.text.now turns o.tokens.items o.end few o.ensures.leads o.ensures.stops e h).0 read
