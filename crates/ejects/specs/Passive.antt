-- A node after an active part has gone.
use Rattle.std.specs.Prelude.{◌≡◌, ℕ, Bool, false, List, None, Some, is_some}
use Rattle.capability.specs.declared.Uid.{Uid}
use Rattle.eden_model.specs.Map.{value_at, uid_cmp, same_uid}
use Rattle.journal.specs.World.{Eject, Site, eject_in}
use Rattle.journal.specs.Ejects.{is_kept}
use Rattle.ejects.specs.Parts.{Parts, SameNode, body_at, queue_at}

-- both hold the same of an Eject
pub record SameAt (n new : Parts) (v : Uid) : Type 0 where
  pub standing : new.standing v ≡ n.standing v
  pub waiting : value_at uid_cmp v new.waiting ≡ value_at uid_cmp v n.waiting

-- the new parts differ from the old ones in nothing but what they hold of this Eject
pub record OnlyAt (u : Uid) (n new : Parts) : Type 0 where
  pub node : SameNode n new
  pub others : (v : Uid) → same_uid v u ≡ false → SameAt n new v

-- the new parts hold no active part of the Eject, but its queue; and it is there or not
pub record HoldsPassive (u : Uid) (n new : Parts) (queued : List ℕ) (stays : Bool) : Type 0 where
  pub only : OnlyAt u n new
  pub none : body_at new u ≡ None
  pub queue : queue_at new u ≡ queued
  pub there : is_some (new.standing u) ≡ stays

-- whether something is kept of the Eject, or may be
pub record IsKeptIn (s : Site) (u : Uid) (stays : Bool) : Type 0 where
  pub at : (e : Eject) → eject_in s u ≡ Some e → is_kept e ≡ stays
