use Rattle.std.proofs.Common.{◌≡◌, IsTrue, Ok, Err, length, sym, subst, arith}
use Rattle.std.proofs.lemmas.Result.{err_from_is_err_and}
use Rattle.eden_disk.specs.Told.{contents}
use Rattle.passive_store.specs.Kept.{refused}
use Rattle.passive_store.specs.Seen.{DiskSeen, disk_seen}
use Rattle.passive_blocks.proofs.Bringing.{Brought, other_size, brought_foreign, brought_staged, staged_refused, staging_refused}
use Rattle.passive_blocks.proofs.Bringing.{brought_log, moving_refused}
use Rattle.passive_blocks.proofs.convert.bring_over.Goals as goal

pub returns-then-size-ne-SIZE : goal.returns-then-size-ne-SIZE
returns-then-size-ne-SIZE g c =
    let old : DiskSeen = disk_seen g.D.Disk.counts g.D.Disk.told g.D.Disk.due c.args.disk.now in
    let b = brought_foreign g.D.Disk.tells g.D.Disk.obeys c.args.node c.args.staged old c.requires.power
    (λ so. other_size _ c.size.result (c.size.ensures.told so) c.if-size-ne-SIZE.true) in
    record {
      ran = b.ran;
      obeyed = b.obeyed;
      timed = b.timed;
      order = b.order;
      ready = b.ready;
      damaged = b.damaged;
      full = b.full;
      keeps = b.keeps;
    }

pub returns-in_err-move_heads : goal.returns-in_err-move_heads
returns-in_err-move_heads g c =
    let old : DiskSeen = disk_seen g.D.Disk.counts g.D.Disk.told g.D.Disk.due c.args.disk.now in
    let new : DiskSeen = disk_seen g.D.Disk.counts g.D.Disk.told g.D.Disk.due c.move_heads.new.disk in
    let p = err_from_is_err_and c.from_residual.result c.from_residual.ensures.1 in
    let long : IsTrue g.D.Disk.tells → length (contents (g.D.Disk.told c.args.disk.now)).now ≡ 4194304 =
    λ so. omega (arith, c.size.ensures.told so, c.if-size-ne-SIZE.false) in
    let b = subst (λ s. Brought g.D.Disk.tells g.D.Disk.obeys c.args.node s old new (Err (refused c.in_err-move_heads.field-0.0)))
    (sym c.if-staged.true)
    (staged_refused (Unit {0}) g.D.Disk.tells g.D.Disk.obeys c.args.node old new c.in_err-move_heads.field-0.0 long
    c.in_err-move_heads.ensures) in
    rw (p.1, p.2) (record {
      ran = b.ran;
      obeyed = b.obeyed;
      timed = b.timed;
      order = b.order;
      ready = b.ready;
      damaged = b.damaged;
      full = b.full;
      keeps = b.keeps;
    })

pub returns-then-staged : goal.returns-then-staged
returns-then-staged g c =
    let old : DiskSeen = disk_seen g.D.Disk.counts g.D.Disk.told g.D.Disk.due c.args.disk.now in
    let new : DiskSeen = disk_seen g.D.Disk.counts g.D.Disk.told g.D.Disk.due c.move_heads.new.disk in
    let long : IsTrue g.D.Disk.tells → length (contents (g.D.Disk.told c.args.disk.now)).now ≡ 4194304 =
    λ so. omega (arith, c.size.ensures.told so, c.if-size-ne-SIZE.false) in
    let b = subst (λ s. Brought g.D.Disk.tells g.D.Disk.obeys c.args.node s old new (Ok tt)) (sym c.if-staged.true)
    (brought_staged g.D.Disk.tells g.D.Disk.obeys c.args.node old new long c.in_ok-move_heads.ensures) in
    record {
      ran = b.ran;
      obeyed = b.obeyed;
      timed = b.timed;
      order = b.order;
      ready = b.ready;
      damaged = b.damaged;
      full = b.full;
      keeps = b.keeps;
    }

pub returns-in_err-stage_log : goal.returns-in_err-stage_log
returns-in_err-stage_log g c =
    let old : DiskSeen = disk_seen g.D.Disk.counts g.D.Disk.told g.D.Disk.due c.args.disk.now in
    let new : DiskSeen = disk_seen g.D.Disk.counts g.D.Disk.told g.D.Disk.due c.stage_log.new.disk in
    let p = err_from_is_err_and c.from_residual-in_err-stage_log.result c.from_residual-in_err-stage_log.ensures.1 in
    let e = c.in_err-stage_log.ensures in
    let long : IsTrue g.D.Disk.tells → length (contents (g.D.Disk.told c.args.disk.now)).now ≡ 4194304 =
    λ so. omega (arith, c.size.ensures.told so, c.if-size-ne-SIZE.false) in
    let b = subst (λ s. Brought g.D.Disk.tells g.D.Disk.obeys c.args.node s old new (Err c.in_err-stage_log.field-0.0))
    (sym c.if-staged.false)
    (staging_refused g.D.Disk.tells g.D.Disk.obeys c.args.node old new c.in_err-stage_log.field-0.0 long e.runs e.damaged e.full e.says) in
    rw (p.1, p.2) (record {
      ran = b.ran;
      obeyed = b.obeyed;
      timed = b.timed;
      order = b.order;
      ready = b.ready;
      damaged = b.damaged;
      full = b.full;
      keeps = b.keeps;
    })

pub returns-in_err-move_heads-2 : goal.returns-in_err-move_heads-2
returns-in_err-move_heads-2 g c =
    let old : DiskSeen = disk_seen g.D.Disk.counts g.D.Disk.told g.D.Disk.due c.args.disk.now in
    let mid : DiskSeen = disk_seen g.D.Disk.counts g.D.Disk.told g.D.Disk.due c.stage_log.new.disk in
    let new : DiskSeen = disk_seen g.D.Disk.counts g.D.Disk.told g.D.Disk.due c.move_heads-2.new.disk in
    let p = err_from_is_err_and c.from_residual-in_err-move_heads-2.result c.from_residual-in_err-move_heads-2.ensures.1 in
    let o = c.in_ok-stage_log.ensures in
    let long : IsTrue g.D.Disk.tells → length (contents (g.D.Disk.told c.args.disk.now)).now ≡ 4194304 =
    λ so. omega (arith, c.size.ensures.told so, c.if-size-ne-SIZE.false) in
    let b = subst (λ s. Brought g.D.Disk.tells g.D.Disk.obeys c.args.node s old new (Err (refused c.in_err-move_heads-2.field-0.0)))
    (sym c.if-staged.false)
    (moving_refused (Unit {0}) g.D.Disk.tells g.D.Disk.obeys c.args.node old mid new c.in_err-move_heads-2.field-0.0 long o.runs o.staged
    o.says c.in_err-move_heads-2.ensures) in
    rw (p.1, p.2) (record {
      ran = b.ran;
      obeyed = b.obeyed;
      timed = b.timed;
      order = b.order;
      ready = b.ready;
      damaged = b.damaged;
      full = b.full;
      keeps = b.keeps;
    })

pub returns : goal.returns
returns g c =
    let old : DiskSeen = disk_seen g.D.Disk.counts g.D.Disk.told g.D.Disk.due c.args.disk.now in
    let mid : DiskSeen = disk_seen g.D.Disk.counts g.D.Disk.told g.D.Disk.due c.stage_log.new.disk in
    let new : DiskSeen = disk_seen g.D.Disk.counts g.D.Disk.told g.D.Disk.due c.move_heads-2.new.disk in
    let o = c.in_ok-stage_log.ensures in
    let long : IsTrue g.D.Disk.tells → length (contents (g.D.Disk.told c.args.disk.now)).now ≡ 4194304 =
    λ so. omega (arith, c.size.ensures.told so, c.if-size-ne-SIZE.false) in
    let b = subst (λ s. Brought g.D.Disk.tells g.D.Disk.obeys c.args.node s old new (Ok tt)) (sym c.if-staged.false)
    (brought_log g.D.Disk.tells g.D.Disk.obeys c.args.node old mid new long o.runs o.staged o.says c.in_ok-move_heads-2.ensures) in
    record {
      ran = b.ran;
      obeyed = b.obeyed;
      timed = b.timed;
      order = b.order;
      ready = b.ready;
      damaged = b.damaged;
      full = b.full;
      keeps = b.keeps;
    }
