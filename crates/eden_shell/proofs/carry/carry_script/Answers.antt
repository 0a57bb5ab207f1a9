use Rattle.std.proofs.Common.{◌≡◌, ◌++◌, length, drop, take, sym, ◌∙◌, ap, subst, arith}
use Rattle.std.proofs.lemmas.List.{length-take-le, take-append-drop}
use Rattle.std.proofs.lemmas.Result.{IfOk-weaker, on_err_weaker}
use Rattle.passive_store.specs.Seen.{disk_seen}
use Rattle.shell_answers.specs.Answers.{IsCarriedOut}
use Rattle.eden_shell.proofs.Carrying.{besides-others, disks_over}
use Rattle.eden_shell.proofs.carry.carry_script.Goals as goal

pub returns-clause-carried : goal.returns-clause-carried
returns-clause-carried g c =
    let tells = g.St.Device.Disk.tells in
    let obeys = g.St.Device.Disk.obeys in
    let layout = g.St.Store.layout in
    let look = disk_seen g.St.Device.Disk.counts g.St.Device.Disk.told g.St.Device.Disk.due in
    let script = c.args.script in
    let disks = c.args.disks.now.items in
    let before = c.split_off.new.self.items in
    let after = c.carry_over-carried.new.disks.items in
    let others = c.in_ok-others.others.items in
    let first : before ≡ take script.nodes disks = c.in_ok-others.ensures.items ∙ ap (λ n. take n disks) c.from.ensures in
    let behind : others ≡ drop script.nodes disks = c.in_ok-others.ensures.tail ∙ ap (λ n. drop n disks) c.from.ensures in
    let whole : before ++ others ≡ disks = ap (λ l. l ++ others) first ∙ ap (λ l. take script.nodes disks ++ l) behind
    ∙ take-append-drop script.nodes disks in
    let many : length before ≡ script.nodes = ap length first ∙ length-take-le script.nodes disks
    (let most = c.requires.fit.nodes.1 in omega (arith, most, c.requires.eight)) in
    IfOk-weaker c.carry_over-carried.result _ _ (λ carried out.
    subst (λ l. IsCarriedOut (disks_over tells obeys layout look l c.joined.result.items) script carried.history carried.whole) whole
    (subst (λ l. IsCarriedOut (disks_over tells obeys layout look (before ++ others) l) script carried.history carried.whole)
    (sym c.joined.ensures)
    (besides-others tells obeys layout look script before after others carried.history many c.carry_over-carried.ensures.as_many
    carried.whole out))) c.carry_over-carried.ensures.carried

pub returns-clause-untouched : goal.returns-clause-untouched
returns-clause-untouched g c =
    let script = c.args.script in
    let disks = c.args.disks.now.items in
    let others = c.in_ok-others.others.items in
    let first : c.split_off.new.self.items ≡ take script.nodes disks =
    c.in_ok-others.ensures.items ∙ ap (λ n. take n disks) c.from.ensures in
    let behind : others ≡ drop script.nodes disks = c.in_ok-others.ensures.tail ∙ ap (λ n. drop n disks) c.from.ensures in
    on_err_weaker c.carry_over-carried.result (λ still.
    c.joined.ensures ∙ ap (λ l. l ++ others) (still ∙ first) ∙ ap (λ l. take script.nodes disks ++ l) behind
    ∙ take-append-drop script.nodes disks) c.carry_over-carried.ensures.untouched
