use Rattle.twin_store.proofs.Vouching.{mixed_is_held, greater_is_right, fault_leaves_other, blank_leaves_other, second_brought}
use Rattle.twin_store.proofs.Vouching.{lesser_refilled}
use Rattle.twin_store.proofs.Vouching.{lesser_raised, second_begins, one_raised, images_are_vouched}
use Rattle.twin_store.proofs.law.disks_vouch.Goals as goal

pub returns-clause-mixed : goal.returns-clause-mixed
returns-clause-mixed c = mixed_is_held

pub returns-clause-right : goal.returns-clause-right
returns-clause-right c = greater_is_right

pub returns-clause-fault : goal.returns-clause-fault
returns-clause-fault c = fault_leaves_other

pub returns-clause-blank : goal.returns-clause-blank
returns-clause-blank c = blank_leaves_other

pub returns-clause-brought : goal.returns-clause-brought
returns-clause-brought c = second_brought

pub returns-clause-refilled : goal.returns-clause-refilled
returns-clause-refilled c = lesser_refilled

pub returns-clause-raised : goal.returns-clause-raised
returns-clause-raised c = lesser_raised

pub returns-clause-begins : goal.returns-clause-begins
returns-clause-begins c = second_begins

pub returns-clause-alone : goal.returns-clause-alone
returns-clause-alone c = one_raised

pub returns-clause-images : goal.returns-clause-images
returns-clause-images c = images_are_vouched
