use Rattle.std.proofs.Common.{◌≡◌, ℕ, ◌==◌, nat_eq, position, is_some, length, Bool, true, false, eqb-true, refl, sym, ap, ◌∙◌}
use Rattle.std.specs.Prelude.{Vec}
use Rattle.std.specs.declared.alloc.Global.{Global}
use Rattle.std.specs.Cmp.Lexicographic.{pointwise}
use Rattle.std.specs.Map.{keys_of}
use Rattle.indexmap.specs.IndexMap.{get, get_by}
use Rattle.indexmap.proofs.CallerLemmas.{insert_entry-new}
use Rattle.eden_value.specs.declared.value.TheConstants.{LIST_LIMIT}
use Rattle.epl_syntax.specs.declared.effect.Answer.TheVariants.{Go}
use Rattle.epl_syntax.specs.declared.effect.Effect.TheVariants.{Checkpoint}
use Rattle.epl_syntax.specs.Directory.{adds, changed, directory_turn}
use Rattle.directory_eject.specs.View.{vars_of}
use Rattle.directory_eject.proofs.Turns.{named, add_there, add_full, add_new, is_absent, stays, becomes}
use Rattle.directory_eject.proofs.Stored.{same_name}
use Rattle.directory_eject.proofs.directory.Directory.add.Goals as goal

not_equal : (a b : ℕ) → (a ≡ b → ⊥) → (a == b) ≡ false
not_equal a b apart = by (a == b) refl
  where
    by : (r : Bool) → (a == b) ≡ r → (a == b) ≡ false
    by true e = absurd (apart (eqb-true a b e))
    by false e = e

pub returns-then-is_some : goal.returns-then-is_some
returns-then-is_some c =
    let es = c.self.inside.entries.entries in
    let n = c.args.name in
    let at = c.get_index_of.ensures.index ∙ ap (λ m. position (named m) (keys_of es)) c.as_slice.ensures in
    stays es c.args.self.now c.self.view_is (adds n c.args.held) _
    (add_there n es Go c.args.held (sym (ap is_some at) ∙ sym c.is_some.ensures ∙ c.if-is_some.true)) c.code.result c.code.ensures

pub returns-then-len-eq-LIST_LIMIT : goal.returns-then-len-eq-LIST_LIMIT
returns-then-len-eq-LIST_LIMIT c =
    let es = c.self.inside.entries.entries in
    let n = c.args.name in
    let at = c.get_index_of.ensures.index ∙ ap (λ m. position (named m) (keys_of es)) c.as_slice.ensures in
    let none = is_absent (position (named n) (keys_of es)) (sym (ap is_some at) ∙ sym c.is_some.ensures ∙ c.if-is_some.false) in
    stays es c.args.self.now c.self.view_is (adds n c.args.held) _
    (add_full n es Go c.args.held none (ap (λ m. m == LIST_LIMIT) (sym c.len.ensures.len ∙ c.if-len-eq-LIST_LIMIT.true)))
    c.code-then-len-eq-LIST_LIMIT.result c.code-then-len-eq-LIST_LIMIT.ensures

pub returns : goal.returns
returns c =
    let m = c.self.inside.entries in
    let es = m.entries in
    let k = c.in_ok-key.key in
    let same = c.as_slice.ensures ∙ sym c.in_ok-key.ensures in
    let h = c.args.held in
    let gone = sym c.is_some.ensures ∙ c.if-is_some.false in
    let at = c.get_index_of.ensures.index ∙ ap (λ l. position (named l) (keys_of es)) same in
    let none = is_absent (position (named k.items) (keys_of es)) (sym (ap is_some at) ∙ gone) in
    let found : is_some (get same_name m k) ≡ false =
    ap (λ l. is_some (get_by (λ (y : Vec ℕ Global). pointwise nat_eq l y.items) m)) (sym same)
    ∙ sym c.get_index_of.ensures.found ∙ gone in
    let absent = is_absent (get same_name m k) found in
    let few = not_equal (length es) LIST_LIMIT (λ e. c.if-len-eq-LIST_LIMIT.false (c.len.ensures.len ∙ e)) in
    let turn = sym (ap (λ l. directory_turn (vars_of es) (adds l h) Go) c.in_ok-key.ensures) ∙ add_new es Go k h none few in
    becomes es c.args.self.now c.self.view_is (adds c.args.name h) _ Checkpoint turn
    ∙ ap (λ fs. (vars_of fs, changed, Checkpoint)) (sym (c.in_ok-insert.ensures.entries ∙ insert_entry-new same_name m k h absent))
