-- The entries with which a node falls or a link is cut, once the loop over the calls that broke has told all.
use Rattle.std.proofs.Common.{◌≡◌, ℕ, suc, false, List, [], Option, None, Some, ◌∙◌}
use Rattle.std.specs.List.{filter_map}
use Rattle.capability.specs.declared.Uid.{Uid}
use Rattle.eden_disk.specs.declared.disk.ImageMode.{ImageMode}
use Rattle.passive_store.specs.declared.store.Doubt.{Doubt}
use Rattle.passive_store.specs.declared.store.Pick.{Pick}
use Rattle.passive_store.specs.Kept.{Layout}
use Rattle.passive_store.specs.Seen.{DiskSeen}
use Rattle.journal.specs.declared.command.Command.TheVariants as command
use Rattle.journal.specs.declared.event.Event.TheVariants as event
use Rattle.journal.specs.declared.event.Entry.{Entry}
use Rattle.journal.specs.declared.event.RequestEnd.{RequestEnd}
use Rattle.journal.specs.declared.event.StartEnd.{StartEnd}
use Rattle.journal.specs.World.{World, Site}
use Rattle.journal.specs.Crashes.{crashed, linked}
use Rattle.journal.specs.Sites.{AllSound, IsSoundSite}
use Rattle.journal.specs.Step.{key_of, stopped_at}
use Rattle.checkpoint.specs.Turns.{with_clock}
use Rattle.eden_kernel.specs.Boots.{IsAsleep}
use Rattle.eden_kernel.specs.Stands.{Held, NodeStands}
use Rattle.eden_kernel.specs.Turns.{clock_of}
use Rattle.eden_world.specs.Worlds.{InHand, IsNumber, WorldStands}
use Rattle.eden_world.specs.Steps.{CallsAsDue, Goes}
use Rattle.eden_world.specs.Told.{Fell, Cuts, EntryShows, name_at, Tells}
use Rattle.eden_world.proofs.Crashes.{CrashesSo, StopsSo, noted_of, crash-begins, crash-goes, stop-begins, store-stops, start-stops}
use Rattle.eden_world.proofs.Falls.{first-node}
use Rattle.eden_world.proofs.Links.{cut-begins, cut-goes}
use Rattle.eden_world.proofs.Telling.{tells-end}

-- with the names that the loop listed
named : (layout : Layout) (mid new : InHand) (numbers : List ℕ) (names : List (List ℕ)) (n shown : ℕ) (e : Entry)
    → Tells layout mid new numbers [] names → EntryShows n shown names e
    → EntryShows n shown (filter_map (name_at mid.mail) numbers) e
named layout mid new numbers names n shown e told shows = record {
  node = shows.node;
  clock = shows.clock;
  broken = shows.broken ∙ tells-end layout mid new numbers names told;
}

-- A crash by command: `mid` is what the kernel's crash, the calls and the places leave, and the loop leads from there to `new`.
pub crash-entry : (layout : Layout) (more : ℕ) (old mid new : InHand) (w : World) (n : ℕ) (mode : ImageMode) (e : Entry) (a : Held)
    (noted : Option Doubt) (d : DiskSeen) (numbers : List ℕ) (names : List (List ℕ)) → WorldStands layout (suc more) old w → AllSound w
    → IsNumber n → Fell n a noted d numbers old mid → CrashesSo layout a noted d
    → ((s : Site) (clock : ℕ) → IsAsleep (with_clock clock (crashed s))) → Tells layout mid new numbers [] names
    → e.event ≡ event.Crash n → EntryShows n d.counts.clock names e → Goes layout more w (Some (command.Crash n mode)) e old new
crash-entry layout more old mid new w n mode e a noted d numbers names is sound number fell kernel asleep told its_event shows =
    crash-goes layout more old mid new w n mode e a noted d numbers is sound number fell kernel its_event
    (named layout mid new numbers names n d.counts.clock e told shows) told.disks
    (told.on more None n d.counts.clock (stopped_at w n (event.Crash n))
    (crash-begins layout more old mid w n a noted d numbers is sound number fell kernel asleep))

-- A stop in a turn of the store: `b` is the node behind it, which is closed.
pub store-stop-entry : (layout : Layout) (more : ℕ) (old mid new : InHand) (w : World) (n : ℕ) (e : Entry) (u : Uid) (how : RequestEnd)
    (p : Option Pick) (a b : Held) (numbers : List ℕ) (names : List (List ℕ)) → WorldStands layout (suc more) old w → AllSound w
    → IsNumber n → Fell n a (noted_of b) b.seen.disk numbers old mid
    → StopsSo layout old.types old.mail w n a b (event.Store u (clock_of b) how p)
    → ((s : Site) → IsSoundSite s → NodeStands layout old.types a old.mail s → CallsAsDue s how a.seen.disk.counts b.seen.disk.counts)
    → Tells layout mid new numbers [] names → e.event ≡ event.Store u (clock_of b) how p → EntryShows n (clock_of b) names e
    → Goes layout more w None e old new
store-stop-entry layout more old mid new w n e u how p a b numbers names is sound number fell kernel due told its_event shows =
    store-stops layout more old mid new w n e u how p a b numbers is sound number fell kernel due its_event
    (named layout mid new numbers names n (clock_of b) e told shows) told.disks
    (told.on more (key_of (event.Store u (clock_of b) how p)) n (clock_of b) (stopped_at w n (event.Store u (clock_of b) how p))
    (stop-begins layout more old mid w n (event.Store u (clock_of b) how p) a b numbers is sound number tt fell kernel))

-- A stop in an activation.
pub start-stop-entry : (layout : Layout) (more : ℕ) (old mid new : InHand) (w : World) (n : ℕ) (e : Entry) (u : Uid) (how : StartEnd)
    (p : Option Pick) (a b : Held) (numbers : List ℕ) (names : List (List ℕ)) → WorldStands layout (suc more) old w → AllSound w
    → IsNumber n → Fell n a (noted_of b) b.seen.disk numbers old mid → StopsSo layout old.types old.mail w n a b (event.Activate u how p)
    → Tells layout mid new numbers [] names → e.event ≡ event.Activate u how p → EntryShows n (clock_of b) names e
    → Goes layout more w None e old new
start-stop-entry layout more old mid new w n e u how p a b numbers names is sound number fell kernel told its_event shows =
    start-stops layout more old mid new w n e u how p a b numbers is sound number fell kernel its_event
    (named layout mid new numbers names n (clock_of b) e told shows) told.disks
    (told.on more (key_of (event.Activate u how p)) n (clock_of b) (stopped_at w n (event.Activate u how p))
    (stop-begins layout more old mid w n (event.Activate u how p) a b numbers is sound number tt fell kernel))

-- A cut of a link.
pub cut-entry : (layout : Layout) (more : ℕ) (old mid new : InHand) (w : World) (a b : ℕ) (e : Entry) (numbers : List ℕ)
    (names : List (List ℕ)) → WorldStands layout (suc more) old w → AllSound w → Cuts a b numbers old mid
    → Tells layout mid new numbers [] names → e.event ≡ event.Link a b false → EntryShows 0 0 names e
    → Goes layout more w (Some (command.Cut a b)) e old new
cut-entry layout more old mid new w a b e numbers names is sound cut told its_event shows =
    let y = first-node layout (suc more) old w is in
    cut-goes layout more old mid new w a b numbers e is sound cut its_event shows.node shows.clock
    (shows.broken ∙ tells-end layout mid new numbers names told) told.disks
    (told.on more None 0 0 (linked a b false w)
    (cut-begins layout more old mid w a b numbers is sound (sound 1 y.0 y.1).numbered cut))
