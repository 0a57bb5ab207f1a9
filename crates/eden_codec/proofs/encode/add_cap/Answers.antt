use Rattle.std.proofs.Common.{◌<◌, [], ◌∷◌, ◌++◌, ap, sym, ◌∙◌, rules}
use Rattle.std.proofs.Math.Nat.{mod-eq_of_lt}
use Rattle.std.specs.Int.{bytes_high_first}
use Rattle.eden_codec.proofs.Cases.{five}
use Rattle.eden_codec.proofs.encode.add_cap.Goals as goal

pub returns-clause-spelled : goal.returns-clause-spelled
returns-clause-spelled c =
    rw (
      c.in_ok-extend_from_slice-4.ensures.items,
      c.in_ok-extend_from_slice-3.ensures.items,
      c.in_ok-extend_from_slice-2.ensures.items,
      c.in_ok-extend_from_slice.ensures.items,
      c.to_be_bytes.ensures,
      c.to_be_bytes-2.ensures,
      c.to_be_bytes-3.ensures,
      c.to_be_bytes-4.ensures,
    )
    (five c.args.out.now.items (c.args.cap.uid.node ∷ []) (bytes_high_first 4 c.args.cap.uid.epoch)
    (bytes_high_first 4 c.args.cap.uid.serial) (bytes_high_first 2 c.args.cap.rights.bits)
    ∙ (let h : c.args.cap.uid.node < 256 = search rules in
    ap (λ n. c.args.out.now.items ++ n ∷ (bytes_high_first 4 c.args.cap.uid.epoch ++
    (bytes_high_first 4 c.args.cap.uid.serial ++ bytes_high_first 2 c.args.cap.rights.bits))) (sym (mod-eq_of_lt h))))
