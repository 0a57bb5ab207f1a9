-- The Ejects of a node that comes up: none is active.
use Rattle.std.specs.Prelude.{◌≡◌, ℕ, cond, [], None, Some}
use Rattle.capability.specs.declared.Uid.{Uid}
use Rattle.eden_model.specs.Map.{same_uid}
use Rattle.ejects.specs.Parts.{Parts, SameNode}

-- the node has no Eject as yet, and gave no serial in its epoch
pub record IsBlank (k e : ℕ) (n : Parts) : Type 0 where
  pub number : n.number ≡ k
  pub epoch : n.epoch ≡ e
  pub serial : n.last_serial ≡ 0
  pub standing : (u : Uid) → n.standing u ≡ None
  pub waiting : n.waiting ≡ []

-- an Eject is passive from now on
pub record Notes (u : Uid) (old new : Parts) : Type 0 where
  pub node : SameNode old new
  pub standing : (v : Uid) → new.standing v ≡ cond (same_uid v u) (Some None) (old.standing v)
  pub waiting : new.waiting ≡ old.waiting
