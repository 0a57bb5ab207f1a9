-- What stands for a site stands for each like it: of the same number, types, layout and node, whose calls keep their operations.
use Rattle.std.proofs.Common.{◌≡◌, inl, inr, ℕ, ◌≤◌, List, Option, None, is_some, sym, ◌∙◌, ap, subst, arith}
use Rattle.std.specs.Prelude.{IfSome}
use Rattle.eden_model.specs.Map.{value_at, uid_cmp}
use Rattle.eden_disk.specs.Told.{Told}
use Rattle.epl_syntax.specs.Rules.OfTypes.{TypeList}
use Rattle.invocation.specs.Mail.{Mail}
use Rattle.invocation.specs.Carries.{Carries}
use Rattle.passive_store.specs.declared.store.Doubt.{Doubt}
use Rattle.passive_store.specs.Kept.{Layout, Kept, Work, doubt_in}
use Rattle.passive_store.specs.Kept.{StoreChange}
use Rattle.passive_store.specs.Seen.{DiskSeen}
use Rattle.journal.specs.World.{Site, Node, StoreRequest}
use Rattle.journal.specs.Ejects.{stored_epoch}
use Rattle.journal.specs.Sites.{AllThere}
use Rattle.checkpoint.specs.Changes.{facts_of}
use Rattle.checkpoint.specs.StoreStands.{MapStands, StoreStands, IsOrdered, Wrote, bytes_of_epoch, change_of_epoch}
use Rattle.checkpoint.specs.Turns.{RestStands}
use Rattle.checkpoint.specs.BarredBoots.{Bar, damaged, overfull, KnowsBar, BarStands}
use Rattle.ejects.specs.Parts.{Parts, known, body_at, Stands}
use Rattle.ejects.specs.View.{parts_of}
use Rattle.ejects.proofs.KeptClasses.{Keeps, classes-kept}
use Rattle.eden_kernel.specs.Boots.{IsAsleep}
use Rattle.eden_kernel.specs.Stands.{Held, requests_in, NodeStands}
use Rattle.eden_world.specs.Worlds.{Seat, up, down, DiskStands, SeatStands}

pub record Alike (s t : Site) : Type 0 where
  pub number : t.number ≡ s.number
  pub types : t.types ≡ s.types
  pub layout : t.layout ≡ s.layout
  pub node : t.node ≡ s.node

map-alike : (n : ℕ) (s t : Site) (kept : Kept) (c : Option StoreChange) → Alike s t → MapStands n s kept c → MapStands n t kept c
map-alike n s t kept c a m = record {
  undamaged = ap (λ (it : Node). it.damaged) a.node ∙ m.undamaged;
  not_untold = ap (λ (it : Node). it.untold) a.node ∙ m.not_untold;
  ordered = subst (λ (it : Node). IsOrdered n it.ejects) (sym a.node) m.ordered;
  facts = λ u apart. ap (λ (it : Node). facts_of (value_at uid_cmp u it.ejects)) a.node ∙ m.facts u apart;
  epoch = m.epoch ∙ ap (λ (it : Node). bytes_of_epoch it.epoch) (sym a.node);
  epoch_doubt = m.epoch_doubt ∙ ap (λ (it : Node). change_of_epoch it.epoch_doubt) (sym a.node);
  ledger = ap (λ (it : Node). it.ledger) a.node ∙ m.ledger;
  wrote = subst (λ (l : Layout). Wrote l c) (sym a.layout) m.wrote;
}

store-alike : (layout : Layout) (n : ℕ) (s t : Site) (requests : List StoreRequest) (work : Work) (kept : Kept) (more size clock : ℕ)
    (told : Told) → Alike s t → StoreStands layout n s requests work kept more size clock told
    → StoreStands layout n t requests work kept more size clock told
store-alike layout n s t requests work kept more size clock told a h = record {
  number = a.number ∙ h.number;
  its_layout = a.layout ∙ h.its_layout;
  up = ap (λ (it : Node). it.up) a.node ∙ h.up;
  keeps = map-alike n s t kept (doubt_in work) a h.keeps;
  epoch_settled = ap (λ (it : Node). it.epoch_doubt) a.node ∙ h.epoch_settled;
  epoch_stored = ap (λ (it : Node). is_some it.epoch) a.node ∙ h.epoch_stored;
  queue = ap (λ (it : Node). it.requests) a.node ∙ h.queue;
  stand = h.stand;
  there = subst (λ (it : Node). AllThere requests it.ejects) (sym a.node) h.there;
  synced = ap (λ (it : Node). it.synced) a.node ∙ h.synced;
  its_size = ap (λ (it : Node). it.size) a.node ∙ h.its_size;
  its_clock = ap (λ (it : Node). it.clock) a.node ∙ h.its_clock;
  not_overfull = ap (λ (it : Node). it.overfull) a.node ∙ h.not_overfull;
  fresh = h.fresh;
  stands = h.stands;
}

pub rest-alike : (layout : Layout) (n more : ℕ) (s t : Site) (noted : Option Doubt) (size clock : ℕ) (told : Told) → Alike s t
    → RestStands layout n more s noted size clock told → RestStands layout n more t noted size clock told
rest-alike layout n more s t noted size clock told a h = record {
  number = a.number ∙ h.number;
  its_layout = a.layout ∙ h.its_layout;
  is_down = ap (λ (it : Node). it.up) a.node ∙ h.is_down;
  queue = ap (λ (it : Node). it.requests) a.node ∙ h.queue;
  unsynced = ap (λ (it : Node). it.synced) a.node ∙ h.unsynced;
  its_size = ap (λ (it : Node). it.size) a.node ∙ h.its_size;
  its_clock = subst (λ (it : Node). IfSome it.clock (λ c. c ≡ clock)) (sym a.node) h.its_clock;
  not_overfull = ap (λ (it : Node). it.overfull) a.node ∙ h.not_overfull;
  kept = h.kept;
  doubt = h.doubt;
  keeps = map-alike n s t h.kept h.doubt a h.keeps;
  is_noted = h.is_noted;
  fresh = h.fresh;
  stands = h.stands;
}

pub bar-alike : (layout : Layout) (n : ℕ) (s t : Site) (bar : Bar) (size clock : ℕ) (told : Told) → Alike s t
    → BarStands layout n s bar size clock told → BarStands layout n t bar size clock told
bar-alike layout n s t bar size clock told a h = record {
  number = a.number ∙ h.number;
  its_layout = a.layout ∙ h.its_layout;
  is_down = ap (λ (it : Node). it.up) a.node ∙ h.is_down;
  queue = ap (λ (it : Node). it.requests) a.node ∙ h.queue;
  its_size = ap (λ (it : Node). it.size) a.node ∙ h.its_size;
  its_clock = subst (λ (it : Node). IfSome it.clock (λ c. c ≡ clock)) (sym a.node) h.its_clock;
  known = knows bar h.known;
  stands = h.stands;
}
  where
    knows : (b : Bar) → KnowsBar b n s → KnowsBar b n t
    knows (damaged place) k = ap (λ (it : Node). it.damaged) a.node ∙ k
    knows (overfull kept) k = (ap (λ (it : Node). it.overfull) a.node ∙ k.0, map-alike n s t kept None a k.1)

pub asleep-alike : (s t : Site) → Alike s t → IsAsleep s → IsAsleep t
asleep-alike s t a h u e at = h u e (ap (λ (it : Node). value_at uid_cmp u it.ejects) (sym a.node) ∙ at)

pub node-alike : (layout : Layout) (ts : TypeList) (h : Held) (m later : Mail) (s t : Site) → Alike s t → Keeps s.traffic t.traffic
    → Carries later t.traffic → NodeStands layout ts h m s → NodeStands layout ts h later t
node-alike layout ts h m later s t a keeps carries stands = record {
  calls = record { parts = parts (parts_of ts h.ejects) stands.calls.parts; calls = carries };
  disk = store-alike layout h.seen.node s t (requests_in h) h.seen.work h.seen.kept h.seen.more h.seen.disk.counts.size
      h.seen.disk.counts.clock h.seen.disk.told a stands.disk;
}
  where
    parts : (p : Parts) → Stands p s → Stands p t
    parts p x = record {
      number = a.number ∙ x.number;
      types = a.types ∙ x.types;
      epoch = ap (λ (it : Node). stored_epoch it) a.node ∙ x.epoch;
      serial = ap (λ (it : Node). it.last_serial) a.node ∙ x.serial;
      ejects = λ u. ap (λ (it : Node). known (value_at uid_cmp u it.ejects)) a.node ∙ x.ejects u;
      classes = λ u. classes-kept s.traffic t.traffic keeps (body_at p u) (x.classes u);
    }

pub disk-alike : (layout : Layout) (more rest : ℕ) (s t : Site) (noted : Option Doubt) (d : DiskSeen) → rest ≤ more → Alike s t
    → DiskStands layout more s noted d → DiskStands layout rest t noted d
disk-alike layout more rest s t noted d less a (inl h) = inl (
  h.0,
  omega (arith, less, h.1),
  subst (λ k. RestStands layout k h.0 t noted d.counts.size d.counts.clock d.told) (sym a.number)
      (rest-alike layout s.number h.0 s t noted d.counts.size d.counts.clock d.told a h.2),
)
disk-alike layout more rest s t noted d less a (inr h) = inr (
  h.0,
  h.1,
  subst (λ k. BarStands layout k t h.0 d.counts.size d.counts.clock d.told) (sym a.number)
      (bar-alike layout s.number s t h.0 d.counts.size d.counts.clock d.told a h.2),
)

-- a seat, with less room told
pub seat-alike : (layout : Layout) (ts : TypeList) (m later : Mail) (more rest : ℕ) (s t : Site) (seat : Seat) → rest ≤ more → Alike s t
    → Keeps s.traffic t.traffic → Carries later t.traffic → SeatStands layout ts m more s seat → SeatStands layout ts later rest t seat
seat-alike layout ts m later more rest s t (up h) less a keeps carries x = record {
  number = x.number ∙ sym a.number;
  whole = x.whole;
  stands = node-alike layout ts h m later s t a keeps carries x.stands;
  told = omega (arith, less, x.told);
}
seat-alike layout ts m later more rest s t (down noted d) less a keeps carries x = record {
  asleep = asleep-alike s t a x.asleep;
  disk = disk-alike layout more rest s t noted d less a x.disk;
}
