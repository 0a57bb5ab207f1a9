use Rattle.std.proofs.Common.{◌∙◌, ap, cond, sym}
use Rattle.journal.specs.Settling.{settled, unsynced}
use Rattle.plain_stores.specs.View.{site_of}
use Rattle.plain_sites.proofs.activations.settle_first.Goals as goal

pub returns-then-is_to_settle : goal.returns-then-is_to_settle
returns-then-is_to_settle c ts t =
    let s = site_of ts t c.args.node.now in
    c.settle.ensures ts t ∙ (ap (settled c.args.pick) (c.unsync.ensures ts t)
    ∙ ap (λ b. cond b (settled c.args.pick (unsynced s)) s) (sym c.if-is_to_settle.true ∙ c.is_to_settle.ensures ts t))

pub returns-else-is_to_settle : goal.returns-else-is_to_settle
returns-else-is_to_settle c ts t =
    let s = site_of ts t c.args.node.now in
    ap (λ b. cond b (settled c.args.pick (unsynced s)) s) (sym c.if-is_to_settle.false ∙ c.is_to_settle.ensures ts t)
