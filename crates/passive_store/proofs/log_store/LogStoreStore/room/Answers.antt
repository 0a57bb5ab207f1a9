use Rattle.std.proofs.Common.{◌≡◌, ◌+◌, ◌-◌, ℕ, Some, map, sym, ap, ◌∙◌, arith}
use Rattle.eden_disk.specs.Told.{contents}
use Rattle.passive_store.specs.LogLayout.{records_before, used_by, body_length}
use Rattle.passive_store.proofs.LogKept.{log_ledger}
use Rattle.passive_store.proofs.Pendings.{no_room, some_room}
use Rattle.passive_store.proofs.log_store.LogStoreStore.room.Goals as goal

pub returns-then-self-lt16 : goal.returns-then-self-lt16
returns-then-self-lt16 g c = λ tells some.
    let s = c.self.inside in
    let bytes = (contents (g.D.Disk.told s.disk)).now in
    rw (← c.self.view_is, log_ledger s.node s.tail bytes)
    (sym (no_room _ (used_by (map body_length (records_before s.node s.tail bytes)))
    (omega (arith, c.if-self-lt16.true, (c.self.invariant.1 tells).sum, c.self.invariant.0.sized))))

pub returns-else-self-lt16 : goal.returns-else-self-lt16
returns-else-self-lt16 g c = λ tells some.
    let s = c.self.inside in
    let bytes = (contents (g.D.Disk.told s.disk)).now in
    let used : ℕ = used_by (map body_length (records_before s.node s.tail bytes)) in
    let size : ℕ = (g.D.Disk.counts s.disk).size in
    let room : s.size - s.tail - 16 ≡ size - (32 + used) = omega (arith, (c.self.invariant.1 tells).sum, c.self.invariant.0.sized) in
    rw (← c.self.view_is, log_ledger s.node s.tail bytes)
    (ap (λ n. Some n) room
    ∙ sym (some_room size used
    (omega (arith, c.if-self-lt16.false, (c.self.invariant.1 tells).sum, c.self.invariant.0.sized, c.self.invariant.0.ends))))
