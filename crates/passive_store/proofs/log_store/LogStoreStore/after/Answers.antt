use Rattle.std.proofs.Common.{◌+◌, ap, ◌∙◌}
use Rattle.std.specs.Prelude.{◌&&◌, is_some, slice_range}
use Rattle.eden_disk.specs.Told.{contents}
use Rattle.passive_store.specs.declared.index.Slot.{Slot}
use Rattle.passive_store.specs.Kept.{body_at, reserved_uid}
use Rattle.passive_store.specs.LogLayout.{log_kept}
use Rattle.passive_store.specs.LogState.{slot_at, is_eject}
use Rattle.passive_store.proofs.LogKept.{kept_own}
use Rattle.passive_store.proofs.Ordered.{next_as, next_eject, some_mapped, only_ejects}
use Rattle.passive_store.proofs.log_store.LogStoreStore.after.Goals as goal

pub returns-clause-next : goal.returns-clause-next
returns-clause-next g c = λ tells.
    let s = c.self.inside in
    let now = (contents (g.D.Disk.told s.disk)).now in
    let kept = log_kept s.node s.tail now in
    rw (← c.self.view_is)
    (next_as (λ uid. is_some (slot_at s.index uid) && is_eject s.node uid) (λ uid. is_some (body_at kept uid)) (reserved_uid s.node)
    c.args.uid c.next_slot.result
    (λ uid other. only_ejects s.node uid (body_at kept uid) (is_some (slot_at s.index uid))
    (ap is_some ((c.self.invariant.1 tells).indexed.bodies uid)
    ∙ some_mapped (λ (x : Slot). slice_range now (x.gate + 15) (x.gate + 15 + x.length)) (slot_at s.index uid))
    (λ body h. (kept_own s.node s.tail now uid body h).0) other)
    c.next_slot.ensures)

pub returns-clause-own : goal.returns-clause-own
returns-clause-own g c =
    let s = c.self.inside in
    rw (← c.self.view_is)
    (next_eject (λ uid. is_some (slot_at s.index uid)) s.node (reserved_uid s.node) c.args.uid c.next_slot.result c.next_slot.ensures)
