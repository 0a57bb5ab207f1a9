-- How the turns of a node end where its disk neither fails nor stops: by what they find, and by nothing else.
use Rattle.std.specs.Prelude.{◌≡◌, ◌<◌, ℕ, ◌+◌, ◌==◌, true, false, cond, List, Option, None, Some, is_some, IsSomeAnd}
use Rattle.std.specs.Ordering.{nat_cmp}
use Rattle.capability.specs.declared.Uid.{Uid}
use Rattle.eden_value.specs.Datum.{Datum}
use Rattle.eden_value.specs.declared.status.Status.{Status}
use Rattle.eden_model.specs.Map.{with_item, value_at}
use Rattle.eden_model.specs.Crew.{Waiting, Waits, Runs}
use Rattle.epl_syntax.specs.declared.effect.Answer.TheVariants.{Code}
use Rattle.epl_syntax.specs.Edentype.{Edentype}
use Rattle.epl_syntax.specs.Meaning.{values_from}
use Rattle.passive_store.specs.declared.store.Pick.{Pick}
use Rattle.journal.specs.declared.event.Event.TheVariants as event
use Rattle.journal.specs.declared.event.BootEnd.{BootEnd}
use Rattle.journal.specs.declared.event.BootEnd.TheVariants as boot_end
use Rattle.journal.specs.declared.event.StartEnd.{StartEnd}
use Rattle.journal.specs.declared.event.StartEnd.TheVariants as start_end
use Rattle.journal.specs.declared.event.RequestEnd.{RequestEnd}
use Rattle.journal.specs.declared.event.RequestEnd.TheVariants as request_end
use Rattle.journal.specs.World.{World, Task, Active, StoreRequest, Site, node_at, site_at}
use Rattle.journal.specs.Ejects.{fresh, stored_epoch}
use Rattle.journal.specs.Settling.{in_doubt, to_settle, settled, finds_room}
use Rattle.journal.specs.Stores.{needs_calls}
use Rattle.journal.specs.Starts.{start_of}
use Rattle.journal.specs.Boots.{last_epoch, epoch_has_room}
use Rattle.journal.specs.Granted.{kept_after_pick}
use Rattle.journal.specs.Monitors.{active_at}

-- 1. The store

-- The request comes to its first device call, nothing is in doubt, and there is no room for its change.
pub record LacksRoom (s : Site) (r : StoreRequest) : Type 0 where
  pub not_begun : r.made ≡ 0
  pub nothing_in_doubt : in_doubt s.number s.node ≡ false
  -- a put needs device calls, and so does a removal of what is kept
  pub needs : needs_calls s r ≡ true
  pub no_room : finds_room r.uid r.change s ≡ false

-- A turn of the store makes a device call and leaves more of them, or it is done; or else there is no room, exactly where that is lacking.
abbrev pub EndsByRoom : Site → StoreRequest → RequestEnd → Type 0
EndsByRoom s r request_end.Part = LacksRoom s r → ⊥
EndsByRoom s r request_end.Done = LacksRoom s r → ⊥
EndsByRoom s r request_end.Full = LacksRoom s r
EndsByRoom s r _ = ⊥

-- Process p of an active part was told this status: its next turn takes it, and it waits for nothing.
pub record IsTold (p : ℕ) (why : Status) (it now : Active) : Type 0 where
  pub answer : (t : Task) → value_at nat_cmp p it.tasks ≡ Some t → value_at nat_cmp p now.tasks ≡ Some (record t { answer = Code why })
  pub ready : (for_it : Waiting) → Waits it.crew p for_it → Runs now.crew p

-- an Eject that is active in the world before is so in the one behind it, and its process was told
abbrev pub Tells : Uid → ℕ → Status → World → World → Type 0
Tells u p why before later = (it : Active) → active_at before u ≡ Some it → IsSomeAnd (active_at later u) (IsTold p why it)

-- 2. An activation

-- how it ends by what is kept: bytes with which the Eject can start, others, or none
abbrev pub start_end_of : List Edentype → Uid → Option (List ℕ) → StartEnd
start_end_of types u None = start_end.Gone
start_end_of types u (Some bytes) = cond (is_some (start_of types bytes u)) start_end.Ok start_end.Damaged

-- the Eject is active, with these values alone
abbrev pub IsStarted : World → Uid → Edentype × List Datum → Type 0
IsStarted w u start = active_at w u ≡ Some (fresh start.0 (values_from start.0 start.1))

-- An activation of Eject u, with its pick, if it made one: it ends by what is kept once a doubt is settled, and starts from that.
pub record FindsWhatIsKept (before later : World) (u : Uid) (how : StartEnd) (p : Option Pick) : Type 0 where
  -- what was in doubt was settled, where something was
  pub picked : with_item (site_at before u.node) to_settle false ≡ is_some p
  -- it ends by what is kept then, and by nothing else
  pub ended : how ≡ start_end_of before.types u (kept_after_pick before u (event.Activate u how p))
  -- and it starts from that
  pub started : (bytes : List ℕ) (start : Edentype × List Datum) → kept_after_pick before u (event.Activate u how p) ≡ Some bytes
      → start_of before.types bytes u ≡ Some start → IsStarted later u start

-- 3. A boot

-- how it ends where the store was opened and the doubt is settled: by the epoch that is stored, and by the room for the next one
abbrev pub opened_end : Site → BootEnd
opened_end s = cond (stored_epoch s.node == last_epoch) boot_end.EpochsSpent
    (cond (epoch_has_room s (stored_epoch s.node + 1)) boot_end.Up boot_end.Full)

-- how it ends by what is on the disk, once this pick has settled the doubt there: a damaged image comes first, then one that holds too much
abbrev pub boot_end_of : Site → Option Pick → BootEnd
boot_end_of s p = with_item s.node.damaged boot_end.Damaged (cond s.node.overfull boot_end.Full (opened_end (settled p s)))

-- the node is up, in this epoch
abbrev pub IsUpIn : World → ℕ → ℕ → Type 0
IsUpIn w n e = IsSomeAnd (node_at w n) (λ it. (it.up ≡ true) × (it.epoch ≡ Some e))

-- An undamaged disk that does not hold too much, whose epochs are not spent, and which has room for the record of the next one.
pub record IsReady (s : Site) (p : Option Pick) : Type 0 where
  pub undamaged : s.node.damaged ≡ None
  pub not_overfull : s.node.overfull ≡ false
  pub not_spent : stored_epoch (settled p s).node < last_epoch
  pub has_room : epoch_has_room (settled p s) (stored_epoch (settled p s).node + 1) ≡ true

-- A boot, with its pick, if it made one: it ends by what is on the disk, and a node that comes up is in the epoch behind the stored one.
pub record BootsByItsDisk (s : Site) (later : World) (how : BootEnd) (p : Option Pick) : Type 0 where
  -- what was in doubt was settled, where the disk could be opened and something was
  pub picked : s.node.damaged ≡ None → s.node.overfull ≡ false → is_some p ≡ in_doubt s.number s.node
  -- such a disk brings the node up
  pub comes_up : IsReady s p → how ≡ boot_end.Up
  -- and of the others each ends by what is on it, and by nothing else
  pub ended : how ≡ boot_end_of s p
  -- a node that is up has the epoch behind the stored one
  pub up : how ≡ boot_end.Up → IsUpIn later s.number (stored_epoch (settled p s).node + 1)
