use Rattle.std.proofs.Common.{ap, inl, inr}
use Rattle.std.proofs.Common.{Bool}
use Rattle.eden_disk.specs.Told.{contents}
use Rattle.std.proofs.lemmas.Result.{err_from_is_err_and}
use Rattle.passive_store.specs.declared.store.StoreRefusal.TheVariants.{Damaged}
use Rattle.passive_blocks.proofs.OpeningRead.{fits_chain, chain_read, chain_there, chain_broken, chain_refused, refused_is, refused_calls}
use Rattle.passive_blocks.proofs.OpeningRead.{refused_obeyed, refused_told}
use Rattle.passive_blocks.proofs.opening.read_chain.Goals as goal

pub returns-in_err-whole-clause-ran : goal.returns-in_err-whole-clause-ran
returns-in_err-whole-clause-ran g c =
    let p = err_from_is_err_and c.from_residual.result c.from_residual.ensures.1 in
    let ran = c.in_err-whole.ensures.ran in
    rw (p.1, p.2) (
      ran.0,
      (
        refused_calls Bool (Unit {0}) _ ran.0 _ _ ran.1.0,
        tt,
        λ tells. chain_refused (contents (g.D.Disk.told c.args.disk.now)).now c.args.table.now c.follow.new.table c.args.value ran.0 _
            ran.1.1,
      ),
    )

pub keep-requires-clause-blocks : goal.keep-requires-clause-blocks
keep-requires-clause-blocks g c = (c.in_ok-whole.ensures.ran.1.2.are c.if-whole.true).blocks

pub keep-requires-clause-fits : goal.keep-requires-clause-fits
keep-requires-clause-fits g c =
    fits_chain c.args.table.now c.follow.new.table c.args.value c.in_ok-whole.whole c.in_ok-whole.ensures.ran.0 c.requires.blocks
    c.in_ok-whole.ensures.ran.1.2 c.if-whole.true c.requires.room

pub returns-then-whole-clause-ran : goal.returns-then-whole-clause-ran
returns-then-whole-clause-ran g c =
    let ran = c.in_ok-whole.ensures.ran in
    let k = c.keep.ensures in (
      ran.0,
      (
        ran.1.0,
        chain_read c.args.table.now c.follow.new.table c.keep.new.self c.args.value c.in_ok-whole.whole ran.0 c.requires.blocks ran.1.2
            c.if-whole.true c.requires.room k.blocks k.needed k.size k.free k.next,
        λ tells. chain_there _ c.args.table.now c.follow.new.table c.keep.new.self c.args.value c.in_ok-whole.whole ran.0 (ran.1.3 tells)
            c.if-whole.true k.next,
      ),
    )

pub returns-else-whole-clause-ran : goal.returns-else-whole-clause-ran
returns-else-whole-clause-ran g c =
    let ran = c.in_ok-whole.ensures.ran in (
      ran.0,
      (
        ran.1.0,
        tt,
        λ tells. chain_broken _ c.args.table.now c.follow.new.table c.args.value c.in_ok-whole.whole ran.0 (ran.1.3 tells) c.if-whole.false,
      ),
    )

pub returns-else-whole-clause-only : goal.returns-else-whole-clause-only
returns-else-whole-clause-only g c = inr (ap Damaged c.head_place.ensures)

pub returns-in_err-whole-clause-only : goal.returns-in_err-whole-clause-only
returns-in_err-whole-clause-only g c =
    let p = err_from_is_err_and c.from_residual.result c.from_residual.ensures.1 in
    rw (p.1, p.2) (inl (refused_is _))

pub returns-in_err-whole-clause-obeyed : goal.returns-in_err-whole-clause-obeyed
returns-in_err-whole-clause-obeyed g c =
    let p = err_from_is_err_and c.from_residual.result c.from_residual.ensures.1 in
    rw (p.1, p.2) (λ so. refused_obeyed Bool (Unit {0}) _ _ _ _ _ (c.in_err-whole.ensures.obeyed so))

pub returns-in_err-whole-clause-told : goal.returns-in_err-whole-clause-told
returns-in_err-whole-clause-told g c =
    let p = err_from_is_err_and c.from_residual.result c.from_residual.ensures.1 in
    rw (p.1, p.2) (λ tells. refused_told Bool (Unit {0}) _ _ _ _ (c.in_err-whole.ensures.told tells))
