use Rattle.std.proofs.Common.{◌≡◌, None, refl, sym, subst, ◌∙◌}
use Rattle.eden_disk.specs.Told.{contents}
use Rattle.passive_store.specs.Seen.{Seen}
use Rattle.passive_store.proofs.Joining.{counts_alike, obeyed_alike, made_alike, opening_alike}
use Rattle.std.proofs.Common.{arith}
use Rattle.passive_blocks.specs.BlockLayout.{block_changes}
use Rattle.passive_blocks.specs.HeldState.{IsHeld}
use Rattle.block_tables.specs.declared.table.Table.{Table}
use Rattle.passive_blocks.proofs.OpeningFull.{not_never}
use Rattle.passive_blocks.proofs.OpeningShown.{map_shown, stands_shown}
use Rattle.passive_blocks.proofs.OpeningDisk.{size_allowed, more_shown, full_alike}
use Rattle.passive_blocks.proofs.block_store.BlockStoreStore.open_disk.Goals as goal

pub returns-in-Ok-clause-opens : goal.returns-in-Ok-clause-opens
returns-in-Ok-clause-opens g c =
    let e = c.in-Ok.ensures in
    let t : Table = c.in-Ok.table in
    record {
      whole = e.whole;
      made = e.ran.0;
      counts = e.ran.1.0;
      number = e.ran.1.1;
      order = e.order;
      obeyed = e.obeyed;
      timed = e.timed;
      node_is = refl;
      idle = (refl, refl, refl);
      map = λ tells. map_shown c.args.node (contents (g.D.Disk.told c.args.disk)).now (contents (g.D.Disk.told c.open_blocks.new.disk)) t
          (size_allowed _ _ _ t e.held (e.whole tells)) (e.ready tells) (e.table tells);
      damaged = λ tells. tt;
      full = e.full;
      never_full = λ never. tt;
      more = λ tells. more_shown c.args.node _ _ _ (contents (g.D.Disk.told c.args.disk)).now
          (contents (g.D.Disk.told c.open_blocks.new.disk)) t
          e.held (e.whole tells) (e.ready tells) (e.table tells) c.changes_told-more.ensures;
      stands = λ tells. stands_shown c.args.node _ (contents (g.D.Disk.told c.args.disk)).now (g.D.Disk.told c.open_blocks.new.disk) t
          (size_allowed _ _ _ t e.held (e.whole tells)) (e.ready tells) (e.table tells)
          (more_shown c.args.node _ _ _ (contents (g.D.Disk.told c.args.disk)).now (contents (g.D.Disk.told c.open_blocks.new.disk)) t
          e.held (e.whole tells) (e.ready tells) (e.table tells) c.changes_told-more.ensures);
      moments = λ tells told then changes h. ((e.keeps tells).mapped told then changes h).moments;
      overfull = λ tells then h. ((e.keeps tells).overfull then h).moments;
      unmapped = λ tells place h. ((e.keeps tells).unmapped place h).moments;
    }

pub returns-in-Err-clause-opens : goal.returns-in-Err-clause-opens
returns-in-Err-clause-opens g c =
    let e = c.in-Err.ensures in
    let refusal = c.in-Err.refusal in
    record {
      whole = e.whole;
      made = e.ran.0;
      counts = counts_alike Table Seen refusal _ _ _ e.ran.1.0;
      number = λ tells. made_alike Table Seen refusal _ _ (e.ran.1.1 tells);
      order = λ tells. opening_alike Table Seen refusal _ _ _ (e.order tells);
      obeyed = λ so. obeyed_alike Table Seen refusal _ _ _ _ (e.obeyed so);
      timed = e.timed;
      node_is = tt;
      idle = tt;
      map = λ tells. tt;
      damaged = e.damaged;
      full = λ tells. full_alike Table Seen _ refusal (e.full tells);
      never_full = λ never. absurd (not_never never);
      more = λ tells. tt;
      stands = λ tells. tt;
      moments = λ tells told then changes h. ((e.keeps tells).mapped told then changes h).moments;
      overfull = λ tells then h. ((e.keeps tells).overfull then h).moments;
      unmapped = λ tells place h. ((e.keeps tells).unmapped place h).moments;
    }

pub changes_told-more-requires : goal.changes_told-more-requires
changes_told-more-requires g c =
    let h = c.in-Ok.ensures.held in (
      g.D.Disk.counts c.open_blocks.new.disk,
      subst (λ n. IsHeld n (g.D.Disk.counts c.open_blocks.new.disk) c.in-Ok.table None) (sym h.same) h,
    )

pub invariant_of-result : goal.invariant_of-result
invariant_of-result g c =
    let e = c.in-Ok.ensures in
    let t : Table = c.in-Ok.table in
    let same : (g.D.Disk.counts c.args.disk).size ≡ c.size-size.result = sym (c.size-size.ensures.size ∙ e.ran.1.0.size) in
    record {
      held = subst (λ n. IsHeld n (g.D.Disk.counts c.open_blocks.new.disk) t None) same e.held;
      staged = e.lone;
      on = λ tells.
          let more : c.changes_told-more.result ≡ block_changes c.args.node (contents (g.D.Disk.told c.args.disk)).now =
          more_shown c.args.node _ _ _ (contents (g.D.Disk.told c.args.disk)).now (contents (g.D.Disk.told c.open_blocks.new.disk)) t e.held
          (e.whole tells) (e.ready tells) (e.table tells) c.changes_told-more.ensures in
          ((e.ready tells).rest, e.table tells, omega (arith, more, (e.ready tells).prepared.told));
      fresh = λ tells. tt;
      telling = λ tell. tt;
      first = λ tells. tt;
    }
