use Rattle.std.proofs.Common.{◌≡◌, ◌+◌, length, refl, sym, ap, subst, ◌∙◌, arith}
use Rattle.eden_disk.specs.Told.{contents}
use Rattle.std.proofs.Common.{map}
use Rattle.std.specs.Prelude.{Err}
use Rattle.std.proofs.lemmas.Result.{err_from_is_err_and}
use Rattle.eden_disk.specs.Calls.{ReadTold}
use Rattle.eden_disk.proofs.Held.{calls_none, calls_more, obeyed_none, obeyed_more}
use Rattle.passive_store.proofs.Joining.{timed_still}
use Rattle.passive_blocks.specs.OpeningState.{ChainRead, IsLinkedTo}
use Rattle.passive_blocks.specs.StoreState.{chain_in}
use Rattle.passive_blocks.proofs.OpeningReads.{timed_behind, not_full, place_is}
use Rattle.passive_blocks.proofs.OpeningLinks.{found_value, found_none, value_few}
use Rattle.std.proofs.Common.{true}
use Rattle.block_tables.specs.Blocks.{head_place, is_block_size}
use Rattle.block_tables.specs.HeadState.{AreHeads}
use Rattle.passive_blocks.proofs.OpeningRead.{size_parts, chains_made}
use Rattle.passive_blocks.proofs.OpeningLinked.{linking_none, linking_skip, linking_more, link_damaged, linked_all, kept_all}
use Rattle.passive_store.specs.Kept.{end_of_store}
use Rattle.block_tables.specs.HeadState.{heads_in}
use Rattle.passive_blocks.proofs.opening.read_chains.Goals.{in-Some+in_ok-read_chain-in-Some, in-None}
use Rattle.passive_blocks.proofs.opening.read_chains.Goals as goal

pub loop-number-init : goal.loop-number-init
loop-number-init g c = record {
  heads = refl;
  links = linking_none g.D.Disk.tells g.D.Disk.obeys (g.D.Disk.told c.args.disk.now) (g.D.Disk.counts c.args.disk.now)
      (g.D.Disk.due c.args.disk.now) c.args.table.now c.size-size.result c.requires.counted c.requires.free
      (c.requires.size ∙ sym c.size-size.ensures.size)
      (size_parts c.size-size.result (subst (λ s. is_block_size s ≡ true) (c.requires.size ∙ sym c.size-size.ensures.size)
      c.requires.counted.table.blocks.sized)).0
      c.size-size.ensures.told (calls_none _ c.requires.power) (obeyed_none _ _);
  size = refl;
}

pub value_of_head-requires-clause-heads : goal.value_of_head-requires-clause-heads
value_of_head-requires-clause-heads g c = subst AreHeads (sym c.loop-number.invariant.heads) c.requires.counted.table.heads

pub value_of_head-requires-clause-number : goal.value_of_head-requires-clause-number
value_of_head-requires-clause-number g c =
    omega (
      arith,
      c.requires.counted.table.count,
      c.requires.size,
      c.size-size.ensures.size,
      c.loop-number-test.true,
      ap (λ h. length h.slots.items) c.loop-number.invariant.heads,
    )

pub loop-number-preserved : goal.loop-number-preserved
loop-number-preserved g c =
    let inv = c.loop-number.invariant in
    let are : AreHeads c.loop-number.table.heads = subst AreHeads (sym inv.heads) c.requires.counted.table.heads in
    elim c.match-value_of_head.branch [
      | in-Some+in_ok-read_chain-in-Some w ↦
          let e = w.in_ok-read_chain-in-Some.ensures in
          let f = found_value c.loop-number.table.heads c.loop-number.number c.value_of_head.result w.in-Some.value are
          c.value_of_head.ensures
          w.in-Some.is in
          rw (w.disk-is, w.table-is) (record {
            heads = inv.heads;
            links = linking_more g.D.Disk.tells g.D.Disk.obeys (g.D.Disk.told c.args.disk.now) (g.D.Disk.told c.loop-number.disk)
                (g.D.Disk.told w.read_chain.new.disk) (g.D.Disk.counts c.args.disk.now) (g.D.Disk.counts c.loop-number.disk)
                (g.D.Disk.counts w.read_chain.new.disk) (g.D.Disk.due c.args.disk.now) (g.D.Disk.due c.loop-number.disk)
                (g.D.Disk.due w.read_chain.new.disk) (heads_in c.args.table.now.heads.slots.items) c.loop-number.table
                (record { heads = c.loop-number.table.heads; blocks = w.read_chain.new.table }) c.loop-number.number e.ran.0 w.in-Some.value
                inv.links (omega (
                  arith,
                  c.requires.counted.table.count,
                  c.requires.size,
                  c.size-size.ensures.size,
                  c.loop-number-test.true,
                  ap (λ h. length h.slots.items) inv.heads,
                )) f.0 f.1 refl e.ran.1.1 e.ran.1.0 e.obeyed e.told e.ran.1.2;
            size = e.ran.1.1.are.size ∙ inv.size;
          })
      | in-None w ↦
          rw (w.disk-is, w.table-is) (record {
            heads = inv.heads;
            links = linking_skip g.D.Disk.tells g.D.Disk.obeys _ _ _ _ _ _ _ c.loop-number.table c.loop-number.number inv.links (omega (
              arith,
              c.requires.counted.table.count,
              c.requires.size,
              c.size-size.ensures.size,
              c.loop-number-test.true,
              ap (λ h. length h.slots.items) inv.heads,
            ))
                (found_none c.loop-number.table.heads c.loop-number.number c.value_of_head.result are c.value_of_head.ensures w.in-None.is);
            size = inv.size;
          })
    ]

pub read_chain-requires-clause-number : goal.read_chain-requires-clause-number
read_chain-requires-clause-number g c =
    let inv = c.loop-number.invariant in
    let are : AreHeads c.loop-number.table.heads = subst AreHeads (sym inv.heads) c.requires.counted.table.heads in
    let f = found_value c.loop-number.table.heads c.loop-number.number c.value_of_head.result c.in-Some.value are c.value_of_head.ensures
    c.in-Some.is in
    value_few c.loop-number.table.heads c.loop-number.number c.in-Some.value are f.0 f.1

pub returns-in_err-read_chain-in-Some-clause-ran : goal.returns-in_err-read_chain-in-Some-clause-ran
returns-in_err-read_chain-in-Some-clause-ran g c =
    let p = err_from_is_err_and c.from_residual.result c.from_residual.ensures.1 in
    let inv = c.loop-number.invariant in
    let l = inv.links in
    let are : AreHeads c.loop-number.table.heads = subst AreHeads (sym inv.heads) c.requires.counted.table.heads in
    let f = found_value c.loop-number.table.heads c.loop-number.number c.value_of_head.result c.in-Some.value are c.value_of_head.ensures
    c.in-Some.is in
    let e = c.in_err-read_chain-in-Some.ensures in
    rw (p.1, p.2) (
      l.made + e.ran.0,
      (
        calls_more l.made e.ran.0 _ _ _ _ l.counts e.ran.1.0,
        λ tells. chains_made (Unit {0}) (contents (g.D.Disk.told c.loop-number.disk)).now c.loop-number.table.blocks c.read_chain.new.table
            c.in-Some.value l.made e.ran.0 _ _ e.only (e.ran.1.2 tells)
            (λ place is.
            let read = subst (λ x. ChainRead (contents (g.D.Disk.told c.loop-number.disk)).now c.loop-number.table.blocks
            c.read_chain.new.table
            c.in-Some.value (Err x) e.ran.0) is (e.ran.1.2 tells) in
            (link_damaged _ _ _ _ _ _ _ _ _ c.loop-number.table c.loop-number.number e.ran.0 c.in-Some.value l
            (omega (
              arith,
              c.requires.counted.table.count,
              c.requires.size,
              c.size-size.ensures.size,
              c.loop-number-test.true,
              ap
                  (λ h. length h.slots.items) inv.heads,
            )) f.0 f.1 tells read.0 read.1).1),
      ),
    )

pub returns-in_err-read_chain-in-Some-clause-obeyed : goal.returns-in_err-read_chain-in-Some-clause-obeyed
returns-in_err-read_chain-in-Some-clause-obeyed g c =
    let p = err_from_is_err_and c.from_residual.result c.from_residual.ensures.1 in
    let l = c.loop-number.invariant.links in
    let e = c.in_err-read_chain-in-Some.ensures in
    rw (p.1, p.2) (λ so. obeyed_more l.made e.ran.0 _ _ _ _ _ _ _ l.counts e.ran.1.0 (l.obeyed so) (e.obeyed so))

pub returns-in_err-read_chain-in-Some-clause-timed : goal.returns-in_err-read_chain-in-Some-clause-timed
returns-in_err-read_chain-in-Some-clause-timed g c = λ tells.
    let l = c.loop-number.invariant.links in
    timed_behind l.made _ _ _ _ _ _ l.counts (l.same tells) (c.in_err-read_chain-in-Some.ensures.timed tells)

pub returns-in_err-read_chain-in-Some-clause-told : goal.returns-in_err-read_chain-in-Some-clause-told
returns-in_err-read_chain-in-Some-clause-told g c =
    let p = err_from_is_err_and c.from_residual.result c.from_residual.ensures.1 in
    let e = c.in_err-read_chain-in-Some.ensures in
    rw (p.1, p.2) (λ tells. subst (λ t. ReadTold (g.D.Disk.counts c.read_chain.new.disk).clock t
    (g.D.Disk.told c.read_chain.new.disk) (end_of_store {T = Unit {0}} (Err c.in_err-read_chain-in-Some.field-0.0)))
    (c.loop-number.invariant.links.same tells) (e.told tells))

pub returns-in_err-read_chain-in-Some-clause-never_full : goal.returns-in_err-read_chain-in-Some-clause-never_full
returns-in_err-read_chain-in-Some-clause-never_full g c =
    let p = err_from_is_err_and c.from_residual.result c.from_residual.ensures.1 in
    rw (p.1, p.2) (not_full _ (head_place c.in-Some.value.number) c.in_err-read_chain-in-Some.ensures.only)

pub returns-in_err-read_chain-in-Some-clause-damaged : goal.returns-in_err-read_chain-in-Some-clause-damaged
returns-in_err-read_chain-in-Some-clause-damaged g c =
    let p = err_from_is_err_and c.from_residual.result c.from_residual.ensures.1 in
    let inv = c.loop-number.invariant in
    let l = inv.links in
    let are : AreHeads c.loop-number.table.heads = subst AreHeads (sym inv.heads) c.requires.counted.table.heads in
    let f = found_value c.loop-number.table.heads c.loop-number.number c.value_of_head.result c.in-Some.value are c.value_of_head.ensures
    c.in-Some.is in
    let e = c.in_err-read_chain-in-Some.ensures in
    rw (p.1, p.2) (λ tells place is.
    let read = subst (λ x. ChainRead (contents (g.D.Disk.told c.loop-number.disk)).now c.loop-number.table.blocks c.read_chain.new.table
    c.in-Some.value (Err x) e.ran.0) is (e.ran.1.2 tells) in
    (link_damaged _ _ _ _ _ _ _ _ _ c.loop-number.table c.loop-number.number e.ran.0 c.in-Some.value l
    (omega (
      arith,
      c.requires.counted.table.count,
      c.requires.size,
      c.size-size.ensures.size,
      c.loop-number-test.true,
      ap
          (λ h. length h.slots.items) inv.heads,
    )) f.0 f.1 tells read.0 read.1).0
    ∙ ap (λ n. Err n) (sym (place_is _ (head_place c.in-Some.value.number) place e.only is).1))

-- the number of heads of the disk, once all were passed
pub returns-clause-ran : goal.returns-clause-ran
returns-clause-ran g c =
    let l = c.loop-number.invariant.links in (
      l.made,
      (
        l.counts,
        λ tells. (linked_all _ _ _ _ _ _ _ _ _ c.loop-number.table c.loop-number.number l
            (omega (
              arith,
              c.requires.counted.table.count,
              c.requires.size,
              c.size-size.ensures.size,
              c.loop-number-test.false,
              ap
                  (λ h. length h.slots.items) c.loop-number.invariant.heads,
            )) tells).1,
      ),
    )

pub returns-clause-linked : goal.returns-clause-linked
returns-clause-linked g c =
    let l = c.loop-number.invariant.links in
    let all : c.loop-number.number ≡ length c.args.table.now.heads.slots.items =
    omega (
      arith,
      c.requires.counted.table.count,
      c.requires.size,
      c.size-size.ensures.size,
      c.loop-number-test.false,
      c.loop-number.auto.number-end,
    ) in
    subst (IsLinkedTo c.loop-number.table) all l.linked

pub returns-clause-chains : goal.returns-clause-chains
returns-clause-chains g c = λ tells.
    let inv = c.loop-number.invariant in
    (linked_all _ _ _ _ _ _ _ _ _ c.loop-number.table c.loop-number.number inv.links
    (omega (
      arith,
      c.requires.counted.table.count,
      c.requires.size,
      c.size-size.ensures.size,
      c.loop-number-test.false,
      ap
          (λ h. length h.slots.items) c.loop-number.invariant.heads,
    )) tells).0
    ∙ ap (map (chain_in c.loop-number.table.blocks.next.items)) (kept_all c.args.table.now c.loop-number.table c.loop-number.number
    c.requires.counted inv.heads (omega (
      arith,
      c.requires.counted.table.count,
      c.requires.size,
      c.size-size.ensures.size,
      c.loop-number-test.false,
      ap (λ h. length h.slots.items) c.loop-number.invariant.heads,
    )))

pub returns-clause-timed : goal.returns-clause-timed
returns-clause-timed g c = λ tells.
    let l = c.loop-number.invariant.links in
    timed_still _ _ _ _ (omega (arith, l.counts.clock)) (l.same tells)

pub returns-clause-size : goal.returns-clause-size
returns-clause-size g c = c.loop-number.invariant.size
