use Rattle.std.proofs.Common.{◌<◌, sym, ap, subst}
use Rattle.std.specs.List.{All}
use Rattle.eden_disk.specs.Told.{Told, Contents, contents}
use Rattle.eden_disk.proofs.medium.Medium.holds_bytes.Goals as goal

pub returns : goal.returns
returns c =
    subst (λ (t : Told). All (λ byte. byte < 256) (contents t).now) c.self.view_is
    (subst (λ l. All (λ byte. byte < 256) l) (sym (ap (λ (x : Contents). x.now) c.self.invariant.0.holds)) c.holds_bytes.ensures)
