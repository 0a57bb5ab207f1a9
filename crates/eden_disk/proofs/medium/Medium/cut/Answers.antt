use Rattle.std.proofs.Common.{◌≡◌, length, sym, arith}
use Rattle.std.specs.Prelude.{vec_len}
use Rattle.std.proofs.lemmas.Bool.{eqb-true}
use Rattle.eden_disk.proofs.Kept.{nothing_to_cut, cut_told, cut_size}
use Rattle.eden_disk.proofs.medium.Medium.cut.Goals as goal

pub returns-then-is_empty-clause-image : goal.returns-then-is_empty-clause-image
returns-then-is_empty-clause-image c =
    let none : length c.self.inside.unsynced.items ≡ 0 = omega
    (arith, eqb-true (vec_len c.self.inside.unsynced) 0 (sym c.if-is_empty.ensures), c.self.inside.unsynced.ok) in
    rw (← c.self.view_is) (nothing_to_cut c.args.mode _ _ _ c.self.inside.unsynced.items none c.self.invariant.0).0

pub returns-clause-cut : goal.returns-clause-cut
returns-clause-cut c = rw (← c.self.view_is) (cut_told _ _ _ _ _ _ _ c.tell-self-inside.ensures c.self.invariant.0)

pub returns-clause-size : goal.returns-clause-size
returns-clause-size c = rw (← c.self.view_is)
    (cut_size c.self.inside.telling.told c.tell-self-inside.result.told _ _ _ c.args.clock c.args.mode c.tell-self-inside.ensures
    c.self.invariant.0)
