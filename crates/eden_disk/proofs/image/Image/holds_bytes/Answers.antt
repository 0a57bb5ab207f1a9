use Rattle.std.proofs.Common.{◌<◌, subst}
use Rattle.std.specs.List.{All}
use Rattle.std.proofs.lemmas.List.Elements.{All-append}
use Rattle.eden_disk.specs.Imaged.{Imaged}
use Rattle.eden_disk.proofs.image.Image.holds_bytes.Goals as goal

pub returns : goal.returns
returns c =
    subst (λ (i : Imaged). All (λ byte. byte < 256) i.bytes) c.self.view_is
    (All-append (λ byte. byte < 256) c.self.inside.first.bytes c.self.inside.rest.bytes c.holds_bytes.ensures c.holds_bytes-2.ensures)
