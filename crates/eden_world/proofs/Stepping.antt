-- What the program's own clauses say is what the machine that it is promises.
use Rattle.std.proofs.Common.{ℕ, suc, Bool, List, Option, Result, Ok, Err}
use Rattle.std.specs.Prelude.{IfErr, IfOk, IfSome}
use Rattle.std.specs.List.{Contains}
use Rattle.capability.specs.declared.Cap.{Cap}
use Rattle.eden_value.specs.Limits.{IsText}
use Rattle.passive_store.specs.Kept.{Layout}
use Rattle.passive_store.specs.Seen.{Seen, DiskSeen}
use Rattle.journal.specs.declared.command.Command.{Command}
use Rattle.journal.specs.declared.event.Entry.{Entry}
use Rattle.journal.specs.declared.event.Key.{Key}
use Rattle.journal.specs.Enabled.{enabled}
use Rattle.journal.specs.World.{World}
use Rattle.runs.specs.Machines.{CarriesOut, LooksUp, TakesKey}
use Rattle.runs.specs.Reached.{IsFitIn, IsNamed, IsReached}
use Rattle.eden_world.specs.Carried.{CarriesBy, EndsStill, LooksUpBy}
use Rattle.eden_world.specs.InHand.{Did, Ends, HaveAgendas, Stands, in_hand}
use Rattle.eden_world.specs.Taken.{TakesAtEach}
use Rattle.eden_world.specs.Worlds.{WorldStands}
use Rattle.eden_world.specs.declared.World.{World as Program}

-- it stands for the world behind a step, as it stood for the one before
stands-behind : {T D : Type 0} (tells : Bool) (layout : Layout) (seen : T → Seen) (look : D → DiskSeen) (old new : Program T D)
    (more later : ℕ) (w v : World) → Stands tells layout seen look old more w → WorldStands layout later (in_hand seen look new) v
    → HaveAgendas new → Stands tells layout seen look new later v
stands-behind tells layout seen look old new more later w v h world agendas = record {
  telling = h.telling;
  its_layout = h.its_layout;
  reads = h.reads;
  world = world;
  agendas = agendas;
}

pub takes-key : {T D E : Type 0} (tells : Bool) (layout : Layout) (seen : T → Seen) (look : D → DiskSeen) (old new : Program T D)
    (key : Key) (r : Result Entry E) → IfOk r (TakesAtEach tells layout seen look old new key)
    → IfOk r (λ e. (more : ℕ) (w : World) → IsReached w → Stands tells layout seen look old (suc more) w → Contains (enabled w) key
    → TakesKey (Stands tells layout seen look) (Did layout seen look) old new more w key e)
takes-key tells layout seen look old new key (Err why) taken = tt
takes-key tells layout seen look old new key (Ok e) taken = λ more w reached h enabled_so.
    let t = taken more w reached h enabled_so in record {
      takes = t.takes;
      allowed = t.goes.allowed;
      stays = stands-behind tells layout seen look old new (suc more) more w _ h t.goes.stands t.agendas;
      does = t.goes.disks;
    }

pub carries-out : {T D E : Type 0} (tells : Bool) (layout : Layout) (seen : T → Seen) (look : D → DiskSeen) (old new : Program T D)
    (c : Command) (r : Result Entry E) → IfOk r (CarriesBy tells layout seen look old new c)
    → IfOk r (λ e. (more : ℕ) (w : World) → IsReached w → Stands tells layout seen look old (suc more) w → IsFitIn w c
    → CarriesOut (Stands tells layout seen look) (Did layout seen look) old new more w c e)
carries-out tells layout seen look old new c (Err why) carried = tt
carries-out tells layout seen look old new c (Ok e) carried = λ more w reached h fit. let t = carried more w reached h fit in record {
  allowed = t.goes.allowed;
  stays = stands-behind tells layout seen look old new (suc more) more w _ h t.goes.stands t.agendas;
  does = t.goes.disks;
}

pub looks-up : {T D E : Type 0} (tells : Bool) (layout : Layout) (seen : T → Seen) (look : D → DiskSeen) (old new : Program T D)
    (name : List ℕ) (directory : Option Cap) (component : List ℕ) (r : Result Entry E)
    → IfOk r (LooksUpBy tells layout seen look old new name directory component)
    → IfOk r (λ e. (more : ℕ) (w : World) → IsReached w → Stands tells layout seen look old (suc more) w → IfSome directory (IsNamed w)
    → IsText component → LooksUp (Stands tells layout seen look) (Did layout seen look) old new more w name directory component e)
looks-up tells layout seen look old new name directory component (Err why) looked = tt
looks-up tells layout seen look old new name directory component (Ok e) looked = λ more w reached h named text.
    let t = looked more w reached h named text in record {
      allowed = t.goes.allowed;
      touches_nothing = t.goes.plain;
      stays = stands-behind tells layout seen look old new (suc more) more w _ h t.goes.stands t.agendas;
      does = t.goes.disks;
    }

pub looks-starved : {T D E : Type 0} (tells : Bool) (layout : Layout) (seen : T → Seen) (look : D → DiskSeen) (old new : Program T D)
    (directory : Option Cap) (component : List ℕ) (r : Result Entry E) → IfErr r (λ _. EndsStill tells layout seen look old new)
    → IfErr r (λ _. (more : ℕ) (w : World) → IsReached w → Stands tells layout seen look old (suc more) w → IfSome directory (IsNamed w)
    → IsText component → Ends layout seen look old more w new)
looks-starved tells layout seen look old new directory component (Ok e) still = tt
looks-starved tells layout seen look old new directory component (Err why) still = λ more w reached h named text. still more w h
