use Rattle.std.proofs.Common.{◌<◌, ℕ, get_or, subst, arith}
use Rattle.std.proofs.lemmas.List.{get_or_default}
use Rattle.eden_disk.proofs.front.are_bytes.Goals as goal

pub returns : goal.returns
returns c = λ k d low.
    let fits : get_or c.args.bytes.now k 0 < 256 = omega (arith, c.type_inv.bytes k) in
    subst (λ (byte : ℕ). byte < 256) (get_or_default c.args.bytes.now k 0 d low) fits
