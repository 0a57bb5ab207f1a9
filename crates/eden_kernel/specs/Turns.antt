-- What a turn of a node does: it is the turn of each site for which the node stands, and its disk does what it may.
use Rattle.std.specs.Prelude.{ℕ, Bool, [], Option}
use Rattle.capability.specs.declared.Uid.{Uid}
use Rattle.eden_value.specs.declared.status.Status.TheVariants as status
use Rattle.eden_disk.specs.Calls.{Counts}
use Rattle.eden_disk.specs.Told.{Told}
use Rattle.epl_syntax.specs.declared.effect.Answer.TheVariants.{Reply as Answered}
use Rattle.passive_store.specs.declared.store.Doubt.{Doubt}
use Rattle.journal.specs.Crashes.{crashed}
use Rattle.journal.specs.Ejects.{tells}
use Rattle.journal.specs.declared.event.Event.TheVariants as event
use Rattle.epl_syntax.specs.Rules.OfTypes.{TypeList}
use Rattle.invocation.specs.Mail.{Mail}
use Rattle.passive_store.specs.Kept.{Layout}
use Rattle.journal.specs.declared.event.Event.{Event}
use Rattle.journal.specs.World.{Site}
use Rattle.journal.specs.Step.{AllowsAt, site_turn}
use Rattle.journal.specs.Sites.{IsSoundSite}
use Rattle.checkpoint.specs.StoreStands.{NodeOnDisk}
use Rattle.checkpoint.specs.Turns.{with_clock, RestStands}
use Rattle.eden_kernel.specs.Stands.{Held, NodeStands}

-- the clock that its disk shows
abbrev pub clock_of : Held → ℕ
clock_of h = h.seen.disk.counts.clock

-- What an entry leaves of the node's disk, from one site to another, where nothing is put besides.
abbrev pub OnDisk : Layout → Held → Held → Site → Site → Type 0
OnDisk layout old new s t = NodeOnDisk layout old.seen.node s.node [] t.node old.seen.disk.told (clock_of old)
    new.seen.disk.told (clock_of new)

-- The event is allowed at the site, the node and the calls stand for the site after it, and the disk did what it may.
pub record Turns (layout : Layout) (ts : TypeList) (new : Held) (later : Mail) (reach : ℕ → Bool) (old : Held) (s : Site) (e : Event)
    : Type 0 where
  pub allowed : AllowsAt s e
  pub stands : NodeStands layout ts new later (with_clock (clock_of new) (site_turn reach e s))
  pub disk : OnDisk layout old new s (site_turn reach e s)

-- at each sound site for which the node and the calls stood
abbrev pub TurnsAt : Layout → TypeList → Held → Mail → Held → Mail → Event → Type 0
TurnsAt layout ts old m new later e = (reach : ℕ → Bool) (s : Site) → IsSoundSite s → NodeStands layout ts old m s
    → Turns layout ts new later reach old s e

-- The node is down at the next site, its disk stands for it, with what was noted of its doubt, and did what it may.
pub record Falls (layout : Layout) (old : Held) (s next : Site) (more : ℕ) (noted : Option Doubt) (counts : Counts) (told : Told)
    : Type 0 where
  pub rests : RestStands layout old.seen.node more (with_clock counts.clock next) noted counts.size counts.clock told
  pub disk : NodeOnDisk layout old.seen.node s.node [] next.node old.seen.disk.told (clock_of old) told counts.clock

-- a crash is allowed, and leaves this disk
pub record Crashes (layout : Layout) (old : Held) (s : Site) (noted : Option Doubt) (counts : Counts) (told : Told) : Type 0 where
  pub allowed : AllowsAt s (event.Crash s.number)
  pub falls : Falls layout old s (crashed s) old.seen.more noted counts told

-- a process is told that its call is broken
abbrev pub told_broken : Uid → ℕ → Site → Site
told_broken u p s = tells u p (Answered status.Broken []) s
