use Rattle.std.proofs.Common.{ℕ, IsTrue, List, Vec, Global, Ok, Err, sym, subst, ◌∙◌}
use Rattle.std.proofs.lemmas.Result.{err_from_is_err_and}
use Rattle.eden_disk.specs.Calls.{ReadTold}
use Rattle.passive_store.specs.Seen.{DiskSeen}
use Rattle.passive_store.proofs.Joining.{ran_refused_as, obeyed_alike, end_alike}
use Rattle.passive_blocks.proofs.StoreReads.{store_long}
use Rattle.passive_blocks.proofs.StoreGets.{IsRead, kept_short, then_store, reads_nothing, reads_value, reads_refusal}
use Rattle.passive_blocks.proofs.block_store.BlockStore.read_body.Goals as goal

pub returns-in_default : goal.returns-in_default
returns-in_default g c =
    let s = c.self.inside in
    let old : DiskSeen = record { counts = g.D.Disk.counts s.disk; told = g.D.Disk.told s.disk; due = g.D.Disk.due s.disk } in
    rw (← c.self.view_is) (reads_nothing g.D.Disk.tells g.D.Disk.obeys s.node s.size s.more old s.table s.pending s.picked c.args.uid
    c.self.invariant
    (subst (λ v. IsTrue (g.D.Disk.counts v.device).power) (sym c.self.view_is) c.requires.power) (sym c.in_default.is ∙ c.value.ensures))

pub returns : goal.returns
returns g c =
    let s = c.self.inside in
    let e = c.in_ok-bytes.ensures in
    let old : DiskSeen = record { counts = g.D.Disk.counts s.disk; told = g.D.Disk.told s.disk; due = g.D.Disk.due s.disk } in
    let disk = c.read_value.new.disk in
    let new : DiskSeen = record { counts = g.D.Disk.counts disk; told = g.D.Disk.told disk; due = g.D.Disk.due disk } in
    let r : IsRead g.D.Disk.tells g.D.Disk.obeys s.node s.size s.more old new s.table s.pending c.args.uid c.in-Some.value
    (Ok c.in_ok-bytes.bytes.items) = record {
      store = c.self.invariant;
      power = subst (λ v. IsTrue (g.D.Disk.counts v.device).power) (sym c.self.view_is) c.requires.power;
      is = sym c.in-Some.is ∙ c.value.ensures;
      only = e.only;
      ran = record { made = e.ran.made; number = e.ran.number; counts = e.ran.counts };
      obeyed = e.obeyed;
      timed = e.timed;
      told = e.told;
      long = e.long;
      body = λ tells. e.body tells (store_long g.D.Disk.tells s.node s.size s.more old s.table s.pending c.self.invariant tells);
    } in
    rw (← c.self.view_is) (reads_value g.D.Disk.tells g.D.Disk.obeys s.node s.size s.more old new s.table s.pending s.picked c.args.uid
    c.in-Some.value
    c.in_ok-bytes.bytes.items r (then_store g.D.Disk.tells g.D.Disk.obeys s.node s.size s.more old new s.table s.pending c.args.uid
    c.in-Some.value
    (Ok c.in_ok-bytes.bytes.items) r))

pub returns-in_err-bytes : goal.returns-in_err-bytes
returns-in_err-bytes g c =
    let s = c.self.inside in
    let e = c.in_err-bytes.ensures in
    let p = err_from_is_err_and c.from_residual.result c.from_residual.ensures.1 in
    let old : DiskSeen = record { counts = g.D.Disk.counts s.disk; told = g.D.Disk.told s.disk; due = g.D.Disk.due s.disk } in
    let disk = c.read_value.new.disk in
    let new : DiskSeen = record { counts = g.D.Disk.counts disk; told = g.D.Disk.told disk; due = g.D.Disk.due disk } in
    let r : IsRead g.D.Disk.tells g.D.Disk.obeys s.node s.size s.more old new s.table s.pending c.args.uid c.in-Some.value
    (Err c.in_err-bytes.field-0.0) = record {
      store = c.self.invariant;
      power = subst (λ v. IsTrue (g.D.Disk.counts v.device).power) (sym c.self.view_is) c.requires.power;
      is = sym c.in-Some.is ∙ c.value.ensures;
      only = e.only;
      ran = ran_refused_as (Vec ℕ Global) (List ℕ) _ _ _ _ _ e.ran;
      obeyed = λ so. obeyed_alike (Vec ℕ Global) (List ℕ) c.in_err-bytes.field-0.0 _ _ _ _ (e.obeyed so);
      timed = e.timed;
      told = λ tells. subst (ReadTold new.counts.clock old.told new.told) (end_alike (Vec ℕ Global) (List ℕ) c.in_err-bytes.field-0.0)
          (e.told tells);
      long = e.long;
      body = λ tells. e.body tells (store_long g.D.Disk.tells s.node s.size s.more old s.table s.pending c.self.invariant tells);
    } in
    rw (p.1, p.2, ← c.self.view_is) (reads_refusal g.D.Disk.tells g.D.Disk.obeys s.node s.size s.more old new s.table s.pending s.picked
    c.args.uid c.in-Some.value
    c.in_err-bytes.field-0.0 r (then_store g.D.Disk.tells g.D.Disk.obeys s.node s.size s.more old new s.table s.pending c.args.uid
    c.in-Some.value
    (Err c.in_err-bytes.field-0.0) r))

pub invariant_of-self : goal.invariant_of-self
invariant_of-self g c =
    let s = c.self.inside in
    let e = c.in_err-bytes.ensures in
    let old : DiskSeen = record { counts = g.D.Disk.counts s.disk; told = g.D.Disk.told s.disk; due = g.D.Disk.due s.disk } in
    let disk = c.read_value.new.disk in
    let new : DiskSeen = record { counts = g.D.Disk.counts disk; told = g.D.Disk.told disk; due = g.D.Disk.due disk } in
    let r : IsRead g.D.Disk.tells g.D.Disk.obeys s.node s.size s.more old new s.table s.pending c.args.uid c.in-Some.value
    (Err c.in_err-bytes.field-0.0) = record {
      store = c.self.invariant;
      power = subst (λ v. IsTrue (g.D.Disk.counts v.device).power) (sym c.self.view_is) c.requires.power;
      is = sym c.in-Some.is ∙ c.value.ensures;
      only = e.only;
      ran = ran_refused_as (Vec ℕ Global) (List ℕ) _ _ _ _ _ e.ran;
      obeyed = λ so. obeyed_alike (Vec ℕ Global) (List ℕ) c.in_err-bytes.field-0.0 _ _ _ _ (e.obeyed so);
      timed = e.timed;
      told = λ tells. subst (ReadTold new.counts.clock old.told new.told) (end_alike (Vec ℕ Global) (List ℕ) c.in_err-bytes.field-0.0)
          (e.told tells);
      long = e.long;
      body = λ tells. e.body tells (store_long g.D.Disk.tells s.node s.size s.more old s.table s.pending c.self.invariant tells);
    } in
    then_store g.D.Disk.tells g.D.Disk.obeys s.node s.size s.more old new s.table s.pending c.args.uid c.in-Some.value
    (Err c.in_err-bytes.field-0.0) r

pub invariant_of-self-2 : goal.invariant_of-self-2
invariant_of-self-2 g c =
    let s = c.self.inside in
    let e = c.in_ok-bytes.ensures in
    let old : DiskSeen = record { counts = g.D.Disk.counts s.disk; told = g.D.Disk.told s.disk; due = g.D.Disk.due s.disk } in
    let disk = c.read_value.new.disk in
    let new : DiskSeen = record { counts = g.D.Disk.counts disk; told = g.D.Disk.told disk; due = g.D.Disk.due disk } in
    let r : IsRead g.D.Disk.tells g.D.Disk.obeys s.node s.size s.more old new s.table s.pending c.args.uid c.in-Some.value
    (Ok c.in_ok-bytes.bytes.items) = record {
      store = c.self.invariant;
      power = subst (λ v. IsTrue (g.D.Disk.counts v.device).power) (sym c.self.view_is) c.requires.power;
      is = sym c.in-Some.is ∙ c.value.ensures;
      only = e.only;
      ran = record { made = e.ran.made; number = e.ran.number; counts = e.ran.counts };
      obeyed = e.obeyed;
      timed = e.timed;
      told = e.told;
      long = e.long;
      body = λ tells. e.body tells (store_long g.D.Disk.tells s.node s.size s.more old s.table s.pending c.self.invariant tells);
    } in
    then_store g.D.Disk.tells g.D.Disk.obeys s.node s.size s.more old new s.table s.pending c.args.uid c.in-Some.value
    (Ok c.in_ok-bytes.bytes.items) r

pub read_value-requires-clause-limit : goal.read_value-requires-clause-limit
read_value-requires-clause-limit g c =
    let s = c.self.inside in
    kept_short s.size (g.D.Disk.counts s.disk) s.table s.pending c.args.uid c.in-Some.value c.self.invariant.held
    (sym c.in-Some.is ∙ c.value.ensures)
