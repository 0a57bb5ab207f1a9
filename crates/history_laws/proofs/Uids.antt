-- What holds of the uids of a node: each that it has or ever gave is behind what it gives next, and none has 0 for epoch or serial.
use Rattle.std.specs.Prelude.{◌≡◌, ◌⊎◌, ℕ, ◌≤◌, ◌<◌, Bool, true, List, [], ◌∷◌, Option, Some, is_some, IfSome}
use Rattle.capability.specs.declared.Uid.{Uid}
use Rattle.eden_model.specs.Map.{value_at, uid_cmp}
use Rattle.journal.specs.World.{World, Node, Eject, node_at}
use Rattle.journal.specs.Ejects.{epoch_or_zero}
use Rattle.journal.specs.Run.{Step}
use Rattle.journal.specs.LegalRun.{created_by}
use Rattle.journal.specs.Sites.{InOrder}

-- of an earlier epoch, or of this one with a serial that was given, and both are counted from 1
pub record IsBehind (u : Uid) (epoch last : ℕ) : Type 0 where
  pub epoch_counts : 1 ≤ u.epoch
  pub serial_counts : 1 ≤ u.serial
  pub epoch_given : u.epoch ≤ epoch
  pub serial_given : u.epoch ≡ epoch → u.serial ≤ last

-- a node that is up keeps an epoch; the Ejects stand in ascending order, an epoch in doubt is past the one that is kept, and the uids
-- that are there or were given are behind the one that is kept
pub record UidsFit (G : Uid → Type 0) (up : Bool) (epoch doubt : Option ℕ) (last : ℕ) (ejects : List (Uid × Eject)) : Type 0 where
  pub up_keeps : up ≡ true → 1 ≤ epoch_or_zero epoch
  pub doubt_is_next : IfSome doubt (λ e. epoch_or_zero epoch < e)
  pub behind : (u : Uid) → is_some (value_at uid_cmp u ejects) ≡ true → IsBehind u (epoch_or_zero epoch) last
  pub in_order : InOrder ejects
  pub all_given : (u : Uid) → G u → IsBehind u (epoch_or_zero epoch) last

abbrev pub Fit : (Uid → Type 0) → Node → Type 0
Fit G it = UidsFit G it.up it.epoch it.epoch_doubt it.last_serial it.ejects

-- the uids of this node that were given
abbrev pub OfNode : (Uid → Type 0) → ℕ → Uid → Type 0
OfNode G n u = (u.node ≡ n) × G u

-- of every node
abbrev pub AllFit : (Uid → Type 0) → World → Type 0
AllFit G w = (n : ℕ) (it : Node) → node_at w n ≡ Some it → Fit (OfNode G n) it

-- one of the past created it
abbrev pub CreatedIn : List Step → Uid → Type 0
CreatedIn [] u = ⊥
CreatedIn (s ∷ past) u = (created_by s.entry.event ≡ Some u) ⊎ CreatedIn past u
