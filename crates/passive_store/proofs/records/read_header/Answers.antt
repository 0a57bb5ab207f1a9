use Rattle.std.proofs.Common.{◌≡◌, ◌+◌, ℕ, Option, List, length, take, drop, replicate, slice_range, refl, ap, subst, ◌∙◌, inl, inr}
use Rattle.std.proofs.Common.{arith, ◌++◌}
use Rattle.std.proofs.lemmas.Result.{err_from_is_err_and}
use Rattle.eden_disk.proofs.Held.{calls_one, obeyed_one}
use Rattle.eden_disk.specs.Calls.{Counts, Fine, DeviceCalls, Obeyed, ReadTold}
use Rattle.passive_store.specs.declared.records.Header.{Header}
use Rattle.eden_disk.proofs.Timed.{timed_read}
use Rattle.std.proofs.lemmas.List.{length-take-le}
use Rattle.eden_disk.specs.Told.{contents}
use Rattle.passive_store.proofs.Headers.{header_read, damage_read, first_bytes, read_within}
use Rattle.passive_store.proofs.Settling.{refused_only, refused_end, refused_undamaged}
use Rattle.passive_store.proofs.records.read_header.Goals as goal

pub returns-in-Some-clause-header : goal.returns-in-Some-clause-header
returns-in-Some-clause-header g c = λ tells.
    let all : List ℕ = (contents (g.D.Disk.told c.args.disk.now)).now in
    let size : ℕ = c.args.size in
    let now : List ℕ = take size all in
    let count : ℕ = c.min-count.result in
    let long : length (take count (replicate 15 0)) ≡ count = length-take-le count (replicate 15 0) (omega (arith, c.min-count.ensures)) in
    let bytes : c.read.new.out ≡ slice_range now c.args.place (c.args.place + count) =
    c.in_ok-read.ensures.bytes tells ∙ ap (λ n. slice_range all c.args.place (c.args.place + n)) long
    ∙ read_within size c.args.place count all (omega (arith, c.requires.range, c.min-count.ensures)) in
    header_read c.args.node size c.args.place now (c.read.new.out ++ drop count (replicate 15 0)) c.in-Some.header
    (record {
      whole = first_bytes size _ _ all c.requires.within (c.size-size.ensures.told tells) c.size-size.ensures.size;
      within = c.requires.range;
      count = count;
      least = c.min-count.ensures;
      rest = drop count (replicate 15 0);
      is = ap (λ l. l ++ drop count (replicate 15 0)) bytes;
    })
    c.if-bytes.false c.in-Some.ensures.found c.in-Some.ensures.header

pub returns-in-None-clause-damaged : goal.returns-in-None-clause-damaged
returns-in-None-clause-damaged g c = λ tells same.
    let all : List ℕ = (contents (g.D.Disk.told c.args.disk.now)).now in
    let size : ℕ = c.args.size in
    let now : List ℕ = take size all in
    let count : ℕ = c.min-count.result in
    let long : length (take count (replicate 15 0)) ≡ count = length-take-le count (replicate 15 0) (omega (arith, c.min-count.ensures)) in
    let bytes : c.read.new.out ≡ slice_range now c.args.place (c.args.place + count) =
    c.in_ok-read.ensures.bytes tells ∙ ap (λ n. slice_range all c.args.place (c.args.place + n)) long
    ∙ read_within size c.args.place count all (omega (arith, c.requires.range, c.min-count.ensures)) in
    damage_read c.args.node size c.args.place now (c.read.new.out ++ drop count (replicate 15 0))
    (record {
      whole = first_bytes size _ _ all c.requires.within (c.size-size.ensures.told tells) c.size-size.ensures.size;
      within = c.requires.range;
      count = count;
      least = c.min-count.ensures;
      rest = drop count (replicate 15 0);
      is = ap (λ l. l ++ drop count (replicate 15 0)) bytes;
    })
    c.if-bytes.false c.in-None.ensures.found

pub returns-then-bytes-clause-timed : goal.returns-then-bytes-clause-timed
returns-then-bytes-clause-timed g c = λ tells. timed_read (g.D.Disk.counts c.args.disk.now).clock (g.D.Disk.counts c.read.new.self).clock
    (g.D.Disk.told c.args.disk.now) (g.D.Disk.told c.read.new.self) _ c.read.ensures.counts.clock (c.read.ensures.told tells)

pub returns-in-Some-clause-timed : goal.returns-in-Some-clause-timed
returns-in-Some-clause-timed g c = λ tells. timed_read (g.D.Disk.counts c.args.disk.now).clock (g.D.Disk.counts c.read.new.self).clock
    (g.D.Disk.told c.args.disk.now) (g.D.Disk.told c.read.new.self) _ c.read.ensures.counts.clock (c.read.ensures.told tells)

pub returns-in-None-clause-timed : goal.returns-in-None-clause-timed
returns-in-None-clause-timed g c = λ tells. timed_read (g.D.Disk.counts c.args.disk.now).clock (g.D.Disk.counts c.read.new.self).clock
    (g.D.Disk.told c.args.disk.now) (g.D.Disk.told c.read.new.self) _ c.read.ensures.counts.clock (c.read.ensures.told tells)

pub returns-in_err-read : goal.returns-in_err-read
returns-in_err-read g c =
    let old = c.args.disk.now in
    let new = c.read.new.self in
    let k0 : Counts = g.D.Disk.counts old in
    let k1 : Counts = g.D.Disk.counts new in
    let p = err_from_is_err_and c.from_residual.result c.from_residual.ensures.1 in
    rw (p.1, p.2) (record {
      counts = subst (DeviceCalls 1 k0 k1) (refused_end (Unit {0}) (Option Header) _) (calls_one k0 k1 _ c.in_err-read.ensures.counts);
      obeyed = λ so. subst (Obeyed (g.D.Disk.due old) (g.D.Disk.due new) k0 k1) (refused_end (Unit {0}) (Option Header) _)
          (obeyed_one _ _ k0 k1 _ c.in_err-read.ensures.counts (c.in_err-read.ensures.obeys so));
      timed = λ tells. timed_read k0.clock k1.clock (g.D.Disk.told old) (g.D.Disk.told new) _ c.read.ensures.counts.clock
          (c.read.ensures.told tells);
      only = inl (refused_only _);
      told = λ tells. subst (ReadTold k1.clock (g.D.Disk.told old) (g.D.Disk.told new)) (refused_end (Unit {0}) (Option Header) _)
          (c.in_err-read.ensures.told tells);
      fits = tt;
      limit = tt;
      header = λ tells. tt;
      damaged = λ tells is. absurd (refused_undamaged _ c.args.place is);
    })

pub returns-then-bytes-clause-counts : goal.returns-then-bytes-clause-counts
returns-then-bytes-clause-counts g c = calls_one _ _ Fine c.in_ok-read.ensures.counts

pub returns-then-bytes-clause-obeyed : goal.returns-then-bytes-clause-obeyed
returns-then-bytes-clause-obeyed g c = λ so. obeyed_one _ _ _ _ Fine c.in_ok-read.ensures.counts (c.in_ok-read.ensures.obeys so)

pub returns-then-bytes-clause-only : goal.returns-then-bytes-clause-only
returns-then-bytes-clause-only g c = tt

pub returns-then-bytes-clause-told : goal.returns-then-bytes-clause-told
returns-then-bytes-clause-told g c = λ tells. c.in_ok-read.ensures.told tells

pub returns-in-Some-clause-counts : goal.returns-in-Some-clause-counts
returns-in-Some-clause-counts g c = calls_one _ _ Fine c.in_ok-read.ensures.counts

pub returns-in-Some-clause-obeyed : goal.returns-in-Some-clause-obeyed
returns-in-Some-clause-obeyed g c = λ so. obeyed_one _ _ _ _ Fine c.in_ok-read.ensures.counts (c.in_ok-read.ensures.obeys so)

pub returns-in-Some-clause-only : goal.returns-in-Some-clause-only
returns-in-Some-clause-only g c = tt

pub returns-in-Some-clause-told : goal.returns-in-Some-clause-told
returns-in-Some-clause-told g c = λ tells. c.in_ok-read.ensures.told tells

pub returns-in-None-clause-counts : goal.returns-in-None-clause-counts
returns-in-None-clause-counts g c = calls_one _ _ Fine c.in_ok-read.ensures.counts

pub returns-in-None-clause-obeyed : goal.returns-in-None-clause-obeyed
returns-in-None-clause-obeyed g c = λ so. obeyed_one _ _ _ _ Fine c.in_ok-read.ensures.counts (c.in_ok-read.ensures.obeys so)

pub returns-in-None-clause-only : goal.returns-in-None-clause-only
returns-in-None-clause-only g c = inr refl

pub returns-in-None-clause-told : goal.returns-in-None-clause-told
returns-in-None-clause-told g c = λ tells. c.in_ok-read.ensures.told tells

pub returns-in-Some-clause-limit : goal.returns-in-Some-clause-limit
returns-in-Some-clause-limit g c = c.in-Some.ensures.limit
