-- The keys of a world's turns, station by station.
use Rattle.std.specs.Prelude.{◌≡◌, ◌≤◌, ℕ, suc, Bool, true, false, List, [], ◌++◌, length, map, is_some, IsSomeAnd}
use Rattle.std.specs.List.{filter}
use Rattle.eden_model.specs.Map.{first, with_item}
use Rattle.invocation.specs.Mail.{Mail, is_waiting, queue_at}
use Rattle.invocation.specs.declared.call.Message.{Message}
use Rattle.invocation.specs.declared.call.Message.TheVariants.{Request, Reply}
use Rattle.passive_store.specs.Seen.{Seen}
use Rattle.journal.specs.declared.event.Key.{Key}
use Rattle.journal.specs.World.{World, node_at, site_of}
use Rattle.journal.specs.Enabled.{delivery, deliveries, node_keys}
use Rattle.eden_kernel.specs.Stands.{held}
use Rattle.scheduled_node.specs.Keys.{HasTurn as NodeHasTurn}
use Rattle.eden_world.specs.Breaking.{name_by, waiter_at}
use Rattle.eden_world.specs.Seated.{station_at}
use Rattle.eden_world.specs.Worlds.{numbers_from}
use Rattle.eden_world.specs.declared.World.{World as Program}

-- how many stations there are: the shell, and a node at each place
abbrev pub station_count : {T D : Type 0} → Program T D → ℕ
station_count p = suc (length p.seats.items)

-- the keys of the deliveries from some stations to one, by what waits in the calls
abbrev pub keys_from : Mail → ℕ → List ℕ → List Key
keys_from m to froms = map (delivery to) (filter (λ from. is_waiting from to m) froms)

-- from so many stations, with the shell
abbrev pub mail_keys : ℕ → Mail → ℕ → List Key
mail_keys c m to = keys_from m to (numbers_from 0 c)

-- the keys of a node; none at the shell
abbrev pub node_keys_at : World → ℕ → List Key
node_keys_at w n = with_item (node_at w n) (λ it. node_keys (site_of w n it)) []

-- the enabled keys of a station
abbrev pub keys_at : World → ℕ → List Key
keys_at w n = deliveries w n ++ node_keys_at w n

-- a message answers a call of the shell
abbrev pub is_for_shell : Mail → Message → Bool
is_for_shell m (Request k) = false
is_for_shell m (Reply k s results) = is_some (name_by (waiter_at m k))

-- a message from a station is on its way to the shell, and the first answers a call of the shell
abbrev pub shell_hears : ℕ → Mail → Bool
shell_hears from m = with_item (first (queue_at from 0 m)) (is_for_shell m) false

-- The program has the turn of this key, whatever world it stands for: the shell hears a message, or the node that is up there has the turn.
pub record HasTurn {T D : Type 0} (seen : T → Seen) (p : Program T D) (k : Key) : Type 0 where
  pub shell : k.station ≡ 0 → (k.sender ≤ 8) × (shell_hears k.sender p.calls ≡ true)
  pub node : 1 ≤ k.station → IsSomeAnd (station_at p k.station) (λ s. NodeHasTurn p.types (held seen s.node) p.calls k)
