use Rattle.std.proofs.Common.{◌≡◌, [], ◌∙◌, ap}
use Rattle.std.specs.List.{filter}
use Rattle.eden_model.specs.Map.{with_item}
use Rattle.invocation.specs.Numbers.{numbers_where, passes_at}
use Rattle.invocation.specs.Made.{is_own}
use Rattle.invocation.proofs.Numbers.{numbers-given}
use Rattle.invocation.proofs.Own.{lost-closed}
use Rattle.invocation.proofs.askers.close_own.Goals as goal

pub close_each-requires : goal.close_each-requires
close_each-requires c =
    let own = is_own c.args.uid in
    let calls = c.args.calls.now.items in
    let all : c.deref-in-Some.result.now ≡ numbers_where own 1 calls =
    c.deref-in-Some.ensures.value ∙ c.keep_own.ensures ∙ ap (λ cs. filter (passes_at own cs) c.in-Some.numbers.items) c.deref.ensures.value
    ∙ ap (λ o. filter (passes_at own calls) (with_item o (λ v. v.items) [])) c.in-Some.ensures.value ∙ c.requires c.args.uid in
    rw all (numbers-given own calls)

pub returns-in-Some-clause-calls : goal.returns-in-Some-clause-calls
returns-in-Some-clause-calls c =
    let own = is_own c.args.uid in
    let calls = c.args.calls.now.items in
    let all : c.deref-in-Some.result.now ≡ numbers_where own 1 calls =
    c.deref-in-Some.ensures.value ∙ c.keep_own.ensures ∙ ap (λ cs. filter (passes_at own cs) c.in-Some.numbers.items) c.deref.ensures.value
    ∙ ap (λ o. filter (passes_at own calls) (with_item o (λ v. v.items) [])) c.in-Some.ensures.value ∙ c.requires c.args.uid in
    c.close_each.ensures ∙ lost-closed c.args.uid calls c.deref-in-Some.result.now all

pub returns-in_default-clause-calls : goal.returns-in_default-clause-calls
returns-in_default-clause-calls c =
    let own = is_own c.args.uid in
    let calls = c.args.calls.now.items in
    lost-closed c.args.uid calls []
    (ap (λ o. filter (passes_at own calls) (with_item o (λ v. v.items) [])) c.in_default.ensures.value ∙ c.requires c.args.uid)
