use Rattle.std.proofs.Common.{subst, ◌∙◌, ap, false}
use Rattle.eden_disk.specs.Calls.{Counts, IsCut}
use Rattle.passive_store.specs.Seen.{Seen, DiskSeen}
use Rattle.checkpoint.proofs.Crashing.{CutFrom, crash-rests-so, crash-on-disk-so}
use Rattle.checkpoint.proofs.down.crash.Goals as goal

pub returns-clause-counts : goal.returns-clause-counts
returns-clause-counts g c = c.cut_power.ensures.counts ∙ ap (λ (d : DiskSeen). record d.counts { power = false }) c.close-disk.ensures

pub returns-clause-rests : goal.returns-clause-rests
returns-clause-rests g c = λ so s requests h.
    let x : Seen = g.St.Store.seen c.args.store in
    let closed = c.close-disk.ensures in
    let cut : CutFrom x (g.St.Device.Disk.counts c.cut_power.new.self) (g.St.Device.Disk.told c.cut_power.new.self) = record {
      clock = ap (λ (k : Counts). k.clock) c.cut_power.ensures.counts ∙ ap (λ (d : DiskSeen). d.counts.clock) closed;
      size = ap (λ (k : Counts). k.size) c.cut_power.ensures.counts ∙ ap (λ (d : DiskSeen). d.counts.size) closed;
      cut = subst (λ (d : DiskSeen). IsCut d.counts.clock d.told (g.St.Device.Disk.told c.cut_power.new.self)) closed
          (c.cut_power.ensures.told so);
    } in
    crash-rests-so g.St.Store.layout x.node s requests x (g.St.Device.Disk.counts c.cut_power.new.self)
    (g.St.Device.Disk.told c.cut_power.new.self)
    c.noted-doubt.result h cut (c.noted-doubt.ensures so)

pub returns-clause-disk : goal.returns-clause-disk
returns-clause-disk g c = λ so s requests h.
    let x : Seen = g.St.Store.seen c.args.store in
    let closed = c.close-disk.ensures in
    let cut : CutFrom x (g.St.Device.Disk.counts c.cut_power.new.self) (g.St.Device.Disk.told c.cut_power.new.self) = record {
      clock = ap (λ (k : Counts). k.clock) c.cut_power.ensures.counts ∙ ap (λ (d : DiskSeen). d.counts.clock) closed;
      size = ap (λ (k : Counts). k.size) c.cut_power.ensures.counts ∙ ap (λ (d : DiskSeen). d.counts.size) closed;
      cut = subst (λ (d : DiskSeen). IsCut d.counts.clock d.told (g.St.Device.Disk.told c.cut_power.new.self)) closed
          (c.cut_power.ensures.told so);
    } in
    crash-on-disk-so g.St.Store.layout x.node s requests x (g.St.Device.Disk.counts c.cut_power.new.self)
    (g.St.Device.Disk.told c.cut_power.new.self) h cut

pub returns-clause-due : goal.returns-clause-due
returns-clause-due g c = c.cut_power.ensures.due ∙ ap (λ (d : DiskSeen). d.due) c.close-disk.ensures
