use Rattle.std.proofs.Common.{◌≡◌, ◌<◌, ℕ, sym, ap, ◌∙◌, subst}
use Rattle.std.specs.List.{All}
use Rattle.eden_disk.specs.Told.{Told, contents}
use Rattle.eden_disk.specs.Calls.{IsCut}
use Rattle.eden_disk.specs.SimDisk.{Simulated}
use Rattle.journal.specs.Standing.{DiskRun}
use Rattle.eden_shell.proofs.handing.hand_on.Goals as goal

pub returns : goal.returns
returns c = λ (d next : DiskRun) gave given.
    let clock : ℕ = c.args.disk.now.counts.clock in
    let same : c.cut_power.new.self.told ≡ next.before = ap (λ (x : Simulated). x.told) (sym c.restart.ensures) ∙ sym given in
    c.a_power_cut_hands_on.ensures clock d next
    (subst (λ (t : Told). IsCut clock d.after t) same
    (subst (λ (t : Told). IsCut clock t c.cut_power.new.self.told) (sym gave) c.cut_power.ensures.told))
    (subst (λ (t : Told). All (λ byte. byte < 256) (contents t).now) (sym given) c.holds_bytes.ensures)
