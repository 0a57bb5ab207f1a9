-- What a machine may rely on of each world that a history reaches, and of each command that is carried out there.
use Rattle.std.specs.Prelude.{◌≡◌, ◌≤◌, ◌+◌, ℕ, Bool, true, false, List, None, Some, Ok, is_some, IsTrue, IfSome}
use Rattle.std.specs.List.{Contains}
use Rattle.capability.specs.declared.Uid.{Uid}
use Rattle.capability.specs.declared.Cap.{Cap}
use Rattle.eden_model.specs.Map.{with_item, uid_cmp, value_at}
use Rattle.eden_model.specs.Traffic.{Call, call_at}
use Rattle.epl_syntax.specs.Meaning.{type_of}
use Rattle.passive_store.specs.Kept.{IsEject}
use Rattle.journal.specs.declared.command.Command.{Command}
use Rattle.journal.specs.World.{World, Site, Node, node_at, site_of, eject_in}
use Rattle.journal.specs.Ejects.{next_uid, stored_epoch}
use Rattle.journal.specs.References.{value_at_name, present_cap}
use Rattle.journal.specs.FitTurns.{TurnsAreFit}
use Rattle.journal.specs.Laws.{IsAtRest}
use Rattle.journal.specs.Sites.{Everywhere, HasEpochs, IsAskedAt, SoundWorld, AllSound}
use Rattle.journal.specs.Fit.{IsFitCommand}

-- 1. Worlds

-- the world has a node of this number
abbrev pub is_node : World → ℕ → Bool
is_node w n = is_some (node_at w n)

-- the uid that the next Eject of a site gets is that of no Eject there
abbrev pub NextIsNew : Site → Type 0
NextIsNew s = (u : Uid) → next_uid s ≡ Ok u → eject_in s u ≡ None

-- an epoch that is in doubt is the next one behind the stored one
abbrev pub NextInDoubt : Node → Type 0
NextInDoubt it = IfSome it.epoch_doubt (λ e. e ≡ stored_epoch it + 1)

-- the world is one that a history may have reached: what machines rely on
pub record IsReached (w : World) : Type 0 where
  -- its nodes stand in order, and a call on its way goes to one of them
  pub sound : SoundWorld (is_node w) w
  -- each of them is sound
  pub sites : AllSound w
  -- an Eject that is created there is new
  pub new_uids : Everywhere (λ n it. NextIsNew (site_of w n it)) w
  -- the uid of each Eject is one of its node
  pub own_uids : Everywhere (λ n it. (u : Uid) → is_some (value_at uid_cmp u it.ejects) ≡ true → IsEject n u) w
  -- each process there that waits for nothing has a turn that can be carried out
  pub turns : Everywhere (λ n it. TurnsAreFit (site_of w n it)) w
  -- its epochs are numbers of 32 bits
  pub epochs : Everywhere (λ n it. HasEpochs it) w
  -- and one that is in doubt is the next
  pub doubts : Everywhere (λ n it. NextInDoubt it) w
  -- a node that is down is at rest, and no message is on its way to it or from it
  pub rest : Everywhere (λ n it. it.up ≡ false → IsAtRest w n it) w
  -- no process asked a call at the station of the shell
  pub askers : (k : ℕ) (c : Call) → call_at w.traffic k ≡ Some c → IsAskedAt 0 c.asker → ⊥

-- 2. Commands

-- A world offers what commands name: these types, and nodes of the numbers from 1 to this one.
pub record Offers (types : List (List ℕ)) (nodes : ℕ) (w : World) : Type 0 where
  pub known : (name : List ℕ) → Contains types name → IsTrue (is_some (type_of w.types name))
  pub there : (n : ℕ) → 1 ≤ n → n ≤ nodes → IsTrue (is_node w n)

-- the command is fit, for types and nodes that the world offers
pub record IsFitIn (w : World) (c : Command) : Type 0 where
  pub types : List (List ℕ)
  pub nodes : ℕ
  pub few : nodes ≤ 8
  pub offers : Offers types nodes w
  pub fit : IsFitCommand types nodes c

-- the capability is what a name of the script stands for, or one of its results
abbrev pub IsNamed : World → Cap → Type 0
IsNamed w c = (name : List ℕ) × (k : ℕ) × (with_item (value_at_name w name k) present_cap None ≡ Some c)
