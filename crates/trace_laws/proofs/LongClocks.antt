-- Why clocks are of 64 bits: past 64 digits two numbers have one text.
use Rattle.std.proofs.Common.{◌≡◌, ◌+◌, ◌*◌, ◌^◌, refl}
use Rattle.std.specs.Fmt.{decimal, digits}

one-text : decimal (10 ^ 64 + 5) ≡ decimal (2 * 10 ^ 64 + 5)
unfolding digits
one-text = refl
