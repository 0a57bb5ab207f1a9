-- What stands for a site stands for it with other messages, where each call keeps its operation.
use Rattle.std.proofs.Common.{inl, inr, ℕ, suc, ◌≤◌, List, Option, None, arith}
use Rattle.eden_disk.specs.Told.{Told}
use Rattle.eden_model.specs.Traffic.{Traffic}
use Rattle.epl_syntax.specs.Rules.OfTypes.{TypeList}
use Rattle.invocation.specs.Mail.{Mail}
use Rattle.invocation.specs.Carries.{Carries}
use Rattle.passive_store.specs.Kept.{Layout, Kept, doubt_in}
use Rattle.passive_store.specs.Kept.{StoreChange}
use Rattle.passive_store.specs.Seen.{Seen, DiskSeen}
use Rattle.passive_store.specs.declared.store.Doubt.{Doubt}
use Rattle.journal.specs.World.{Site, StoreRequest}
use Rattle.checkpoint.specs.Asked.{StandsNow}
use Rattle.checkpoint.specs.BarredBoots.{Bar, damaged, overfull, KnowsBar, BarStands}
use Rattle.checkpoint.specs.StoreStands.{MapStands}
use Rattle.checkpoint.specs.Turns.{RestStands}
use Rattle.ejects.specs.Parts.{Parts, Stands, body_at}
use Rattle.ejects.specs.View.{parts_of}
use Rattle.ejects.proofs.KeptClasses.{Keeps, classes-kept}
use Rattle.eden_kernel.specs.Stands.{Held, NodeStands, requests_in}
use Rattle.eden_world.specs.Worlds.{Seat, up, down, DiskStands, SeatStands}

-- the site with these messages
abbrev pub carrying : Traffic → Site → Site
carrying t s = record s { traffic = t }

-- 1. A disk knows no messages

map-other : (n : ℕ) (s : Site) (t : Traffic) (kept : Kept) (c : Option StoreChange) → MapStands n s kept c
    → MapStands n (carrying t s) kept c
map-other n s t kept c m = record {
  undamaged = m.undamaged;
  not_untold = m.not_untold;
  ordered = m.ordered;
  facts = m.facts;
  epoch = m.epoch;
  epoch_doubt = m.epoch_doubt;
  ledger = m.ledger;
  wrote = m.wrote;
}

store-other : (layout : Layout) (n : ℕ) (s : Site) (t : Traffic) (requests : List StoreRequest) (x : Seen) → StandsNow layout n s requests x
    → StandsNow layout n (carrying t s) requests x
store-other layout n s t requests x h = record {
  number = h.number;
  its_layout = h.its_layout;
  up = h.up;
  keeps = map-other n s t x.kept (doubt_in x.work) h.keeps;
  epoch_settled = h.epoch_settled;
  epoch_stored = h.epoch_stored;
  queue = h.queue;
  stand = h.stand;
  there = h.there;
  synced = h.synced;
  its_size = h.its_size;
  its_clock = h.its_clock;
  not_overfull = h.not_overfull;
  fresh = h.fresh;
  stands = h.stands;
}

rest-other : (layout : Layout) (n more : ℕ) (s : Site) (t : Traffic) (noted : Option Doubt) (size clock : ℕ) (told : Told)
    → RestStands layout n more s noted size clock told → RestStands layout n more (carrying t s) noted size clock told
rest-other layout n more s t noted size clock told h = record {
  number = h.number;
  its_layout = h.its_layout;
  is_down = h.is_down;
  queue = h.queue;
  unsynced = h.unsynced;
  its_size = h.its_size;
  its_clock = h.its_clock;
  not_overfull = h.not_overfull;
  kept = h.kept;
  doubt = h.doubt;
  keeps = map-other n s t h.kept h.doubt h.keeps;
  is_noted = h.is_noted;
  fresh = h.fresh;
  stands = h.stands;
}

bar-known : (bar : Bar) (n : ℕ) (s : Site) (t : Traffic) → KnowsBar bar n s → KnowsBar bar n (carrying t s)
bar-known (damaged place) n s t k = k
bar-known (overfull kept) n s t k = (k.0, map-other n s t kept None k.1)

bar-other : (layout : Layout) (n : ℕ) (s : Site) (t : Traffic) (bar : Bar) (size clock : ℕ) (told : Told)
    → BarStands layout n s bar size clock told → BarStands layout n (carrying t s) bar size clock told
bar-other layout n s t bar size clock told h = record {
  number = h.number;
  its_layout = h.its_layout;
  is_down = h.is_down;
  queue = h.queue;
  its_size = h.its_size;
  its_clock = h.its_clock;
  known = bar-known bar n s t h.known;
  stands = h.stands;
}

-- 2. Ejects know of each call what operation it is of

parts-other : (n : Parts) (s : Site) (t : Traffic) → Keeps s.traffic t → Stands n s → Stands n (carrying t s)
parts-other n s t keeps h = record {
  number = h.number;
  types = h.types;
  epoch = h.epoch;
  serial = h.serial;
  ejects = h.ejects;
  classes = λ u. classes-kept s.traffic t keeps (body_at n u) (h.classes u);
}

pub node-other : (layout : Layout) (ts : TypeList) (h : Held) (m later : Mail) (s : Site) (t : Traffic) → Keeps s.traffic t
    → Carries later t → NodeStands layout ts h m s → NodeStands layout ts h later (carrying t s)
node-other layout ts h m later s t keeps carries stands = record {
  calls = record { parts = parts-other (parts_of ts h.ejects) s t keeps stands.calls.parts; calls = carries };
  disk = store-other layout h.seen.node s t (requests_in h) h.seen stands.disk;
}

-- 3. A place, with a change less told

pub fewer : (more told : ℕ) → suc more ≤ told → more ≤ told
fewer more told h = omega (arith, h)

disk-other : (layout : Layout) (more : ℕ) (s : Site) (t : Traffic) (noted : Option Doubt) (d : DiskSeen)
    → DiskStands layout (suc more) s noted d → DiskStands layout more (carrying t s) noted d
disk-other layout more s t noted d (inl (told, most, rests)) =
    inl (told, fewer more told most, rest-other layout s.number told s t noted d.counts.size d.counts.clock d.told rests)
disk-other layout more s t noted d (inr (bar, none, stands)) =
    inr (bar, none, bar-other layout s.number s t bar d.counts.size d.counts.clock d.told stands)

pub seat-other : (layout : Layout) (ts : TypeList) (m later : Mail) (more : ℕ) (s : Site) (t : Traffic) (x : Seat) → Keeps s.traffic t
    → Carries later t → SeatStands layout ts m (suc more) s x → SeatStands layout ts later more (carrying t s) x
seat-other layout ts m later more s t (up h) keeps carries u = record {
  number = u.number;
  whole = u.whole;
  stands = node-other layout ts h m later s t keeps carries u.stands;
  told = fewer more h.seen.more u.told;
}
seat-other layout ts m later more s t (down noted d) keeps carries u = record {
  asleep = u.asleep;
  disk = disk-other layout more s t noted d u.disk;
}
