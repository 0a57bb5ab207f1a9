use Rattle.std.proofs.Common.{cond, Some, refl, ◌≡◌, ◌++◌, ◌∷◌, [], ◌∙◌, ap}
use Rattle.std.proofs.lemmas.Result.{on_err_weaker}
use Rattle.std.specs.List.{filter}
use Rattle.std.specs.BTreeMap.{get, is_at}
use Rattle.capability.specs.Uids.{uid_cmp}
use Rattle.eden_model.specs.Map.{with_item}
use Rattle.invocation.specs.Mail.{is_open}
use Rattle.invocation.specs.Numbers.{passes_at}
use Rattle.invocation.specs.Made.{made_by}
use Rattle.invocation.proofs.Own.{noted-by, unchanged-by}
use Rattle.invocation.proofs.askers.note_of.Goals as goal

pub returns-in-Some-clause-unchanged : goal.returns-in-Some-clause-unchanged
returns-in-Some-clause-unchanged c =
    let w = c.join_open.new.numbers in
    on_err_weaker c.join_open.result
    (λ same q. unchanged-by c.args.uid c.args.made.now (c.get_mut.follows.lender w) w
    (same ∙ ap (λ o. with_item o (λ v. v.items) []) c.in-Some.ensures.value)
    ((c.get_mut.follows.holds w).3 (rw (← c.in-Some.ensures.value) refl)).0 q)
    c.join_open.ensures.unchanged

pub returns-in_ok-insert-in-None-clause-noted : goal.returns-in_ok-insert-in-None-clause-noted
returns-in_ok-insert-in-None-clause-noted c =
    let test = passes_at is_open c.args.calls.now in
    let none : [] ≡ made_by c.args.uid c.args.made.now = ap (λ o. with_item o (λ v. v.items) []) c.in-None.ensures.value in
    noted-by c.args.uid (λ l. filter test l ++ c.args.call ∷ []) c.args.made.now c.insert.new.self c.push_reserved.new.self
    (c.push_reserved.ensures.items ∙ ap (λ l. l ++ c.args.call ∷ []) c.in_ok-numbers-in-None.ensures.items
    ∙ ap (λ l. filter test l ++ c.args.call ∷ []) none)
    (λ q. c.in_ok-insert-in-None.ensures.updates.0 q
    ∙ ap (λ m. cond (is_at (uid_cmp c.args.uid) q) (Some c.push_reserved.new.self) (get uid_cmp m q)) c.get_mut.follows.holds-at-none)
