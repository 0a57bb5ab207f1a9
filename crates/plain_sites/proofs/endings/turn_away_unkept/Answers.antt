use Rattle.std.proofs.Common.{◌≡◌, ◌∙◌, ap, sym, true, false}
use Rattle.eden_model.specs.Map.{uid_cmp, value_at}
use Rattle.plain_sites.specs.View.{is_unkept, site_at}
use Rattle.plain_sites.proofs.Sites.{kept-stays, unkept-gone, unkept-passive}
use Rattle.plain_stores.specs.View.{ejects_of}
use Rattle.plain_sites.proofs.endings.turn_away_unkept.Goals as goal

pub returns-in_ok-turn_away : goal.returns-in_ok-turn_away
returns-in_ok-turn_away c ts order =
    let o = value_at uid_cmp c.args.uid (ejects_of ts c.args.node.now.ejects.items) in
    let gone : is_unkept o ≡ true = sym (c.is_gone.ensures ts ∙ ap (λ l. is_unkept (value_at uid_cmp c.args.uid (ejects_of ts l)))
    c.deref.ensures.value) ∙ c.if-is_gone.true in
    c.in_ok-turn_away.ensures ts order (unkept-passive o gone) ∙ unkept-gone c.args.uid (site_at ts c.args.node.now c.args.calls.now) gone

pub returns-else-is_gone : goal.returns-else-is_gone
returns-else-is_gone c ts order =
    let o = value_at uid_cmp c.args.uid (ejects_of ts c.args.node.now.ejects.items) in
    let kept : is_unkept o ≡ false = sym (c.is_gone.ensures ts ∙ ap (λ l. is_unkept (value_at uid_cmp c.args.uid (ejects_of ts l)))
    c.deref.ensures.value) ∙ c.if-is_gone.false in
    kept-stays c.args.uid (site_at ts c.args.node.now c.args.calls.now) kept
