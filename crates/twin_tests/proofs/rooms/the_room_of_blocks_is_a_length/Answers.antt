use Rattle.std.proofs.Common.{◌≡◌, ℕ, suc, zero, ◌≤◌, Bool, false, length, ap, arith}
use Rattle.std.specs.Prelude.{◌==◌, ◌||◌}
use Rattle.std.proofs.lemmas.Bool.{ne_eqb}
use Rattle.passive_store.specs.LogLayout.{within_room}
use Rattle.twin_tests.proofs.rooms.the_room_of_blocks_is_a_length.Goals as goal

-- an Eject has an epoch of 1 or more
ejects : (epoch : ℕ) → 1 ≤ epoch → (epoch == 0) ≡ false
ejects zero more = absurd (omega (arith, more))
ejects (suc n) more = ne_eqb (suc n) 0 (λ e. omega (arith, e))

pub returns : goal.returns
returns c = λ node uid own room body. ap (λ b. b || within_room room (length body)) (ejects uid.epoch own.1)
