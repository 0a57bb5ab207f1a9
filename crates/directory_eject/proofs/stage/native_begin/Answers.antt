use Rattle.std.proofs.Common.{sym, ap, ◌∙◌}
use Rattle.eden_value.specs.View.{datums}
use Rattle.epl_syntax.specs.Directory as directory
use Rattle.epl_syntax.specs.Natives.{in_directory}
use Rattle.epl_syntax.specs.Simple.{argument, text_in, cap_in}
use Rattle.directory_eject.proofs.Begins.{adds_first, looks_first, deletes_first}
use Rattle.directory_eject.proofs.stage.native_begin.Goals as goal

pub returns-then-is_called : goal.returns-then-is_called
returns-then-is_called c =
    let n = c.in_ok-name.ensures ∙ ap (λ vs. text_in (argument 0 (datums vs))) c.deref.ensures.value
    ∙ ap (λ ds. text_in (argument 0 ds)) c.args-2.view_is in
    let h = c.cap_at-held.ensures ∙ ap (λ vs. cap_in (argument 1 (datums vs))) c.deref-then-is_called.ensures.value
    ∙ ap (λ ds. cap_in (argument 1 ds)) c.args-2.view_is in
    ap in_directory ((λ i. directory.adds (n i) (h i))
    ∙ adds_first c.args.operation.now c.args.args.now (sym c.is_called.ensures ∙ c.if-is_called.true))

pub returns-then-is_called-2 : goal.returns-then-is_called-2
returns-then-is_called-2 c =
    let n = c.in_ok-name-2.ensures ∙ ap (λ vs. text_in (argument 0 (datums vs))) c.deref-then-is_called-2.ensures.value
    ∙ ap (λ ds. text_in (argument 0 ds)) c.args-2.view_is in
    ap in_directory (ap directory.looks n
    ∙ looks_first c.args.operation.now c.args.args.now (sym c.is_called.ensures ∙ c.if-is_called.false)
    (sym c.is_called-2.ensures ∙ c.if-is_called-2.true))

pub returns-then-is_called-3 : goal.returns-then-is_called-3
returns-then-is_called-3 c =
    let n = c.in_ok-name-3.ensures ∙ ap (λ vs. text_in (argument 0 (datums vs))) c.deref-then-is_called-3.ensures.value
    ∙ ap (λ ds. text_in (argument 0 ds)) c.args-2.view_is in
    ap in_directory (ap directory.deletes n
    ∙ deletes_first c.args.operation.now c.args.args.now (sym c.is_called.ensures ∙ c.if-is_called.false)
    (sym c.is_called-2.ensures ∙ c.if-is_called-2.false) (sym c.is_called-3.ensures ∙ c.if-is_called-3.true))
