use Rattle.std.proofs.Common.{◌≡◌, ◌≤◌, ◌+◌, ℕ, true, false, length, map, sym, ◌∙◌, ap, subst, arith}
use Rattle.std.proofs.lemmas.List.{length-map}
use Rattle.std.specs.Prelude.{OnOk, OnErr}
use Rattle.std.specs.List.{All}
use Rattle.passive_store.specs.Seen.{disk_seen}
use Rattle.journal.specs.Fit.{NumbersFit}
use Rattle.runs.proofs.Numbers.{numbers-of}
use Rattle.runs.specs.Room.{entries_in}
use Rattle.runs.specs.Runs.{CarriesAll, CarriesPart}
use Rattle.eden_world.specs.InHand.{Did, Ends, Stands}
use Rattle.eden_world.specs.Legal.{AreSized}
use Rattle.eden_world.specs.Seated.{AreGiven, Begins, IsSeated, asked_in, heeds}
use Rattle.shell_answers.specs.Answers.{IsCarriedOut}
use Rattle.eden_shell.proofs.Carrying.{carried-by, counted-by, counted-over, disks_over, numbers-first, seated-by}
use Rattle.eden_shell.proofs.carry.carry_over.Goals as goal
use Rattle.eden_shell.proofs.carry.carry_over.Goals.{then-ended, else-ended}

pub close-requires-clause-seated : goal.close-requires-clause-seated
close-requires-clause-seated g c =
    let look = disk_seen g.St.Device.Disk.counts g.St.Device.Disk.told g.St.Device.Disk.due in
    subst (λ p. IsSeated p) (sym c.into_parts-world.ensures.machine)
    (seated-by (heeds g.St.Device.Disk.tells g.St.Device.Disk.obeys) g.St.Store.seen look c.new-run.result c.carry_all.new.self
    c.carry_all.result c.new-run.ensures.history c.carry_all.ensures.whole c.carry_all.ensures.shown_part)

pub carry_all-requires-clause-numbers : goal.carry_all-requires-clause-numbers
carry_all-requires-clause-numbers g c =
    let commands : c.as_slice.result.now ≡ c.args.script.commands = c.as_slice.ensures.value ∙ c.commands.view_is in
    subst (λ cs. All (NumbersFit 8) cs) (sym commands) (numbers-of c.args.script c.requires.fit)

pub returns-clause-carried : goal.returns-clause-carried
returns-clause-carried g c =
    let tells = g.St.Device.Disk.tells in
    let obeys = g.St.Device.Disk.obeys in
    let layout = g.St.Store.layout in
    let seen = g.St.Store.seen in
    let look = disk_seen g.St.Device.Disk.counts g.St.Device.Disk.told g.St.Device.Disk.due in
    let wants : g.row.St-Device.Denot → ℕ = λ d. (look d).counts.wants in
    let script = c.args.script in
    let before = c.args.disks.now.items in
    let after = c.close.result.items in
    let old = c.new-run.result in
    let new = c.carry_all.new.self in
    let commands : c.as_slice.result.now ≡ script.commands = c.as_slice.ensures.value ∙ c.commands.view_is in
    let begins : Begins script.types before old.machine = subst (λ p. Begins script.types before p) (sym c.new-run.ensures.machine)
    (subst (λ disks. Begins script.types disks.items c.in-Ok.world) c.replace.ensures.value c.in-Ok.ensures.begins) in
    let given : AreGiven seen look new.machine after = subst (λ p. AreGiven seen look p after) c.into_parts-world.ensures.machine
    c.close.ensures.disks in
    subst (λ history. IsCarriedOut (disks_over tells obeys layout look before after) script history c.if-ended.result)
    (sym (ap (λ history. history.items) c.into_parts-world.ensures.history))
    (carried-by tells obeys layout seen look script before after old new (record {
      its_layout = c.requires.layout;
      reads = c.requires.reads;
      fit = c.requires.fit;
      few = c.requires.few;
      as_many = c.requires.as_many;
      given = counted-by (heeds tells obeys) seen look script.types before after old new c.carry_all.result
          (let most = c.requires.fit.nodes.1 in omega (arith, most, c.requires.as_many)) c.close.ensures.few begins given
          c.new-run.ensures.history c.carry_all.ensures.shown c.carry_all.ensures.shown_part;
      sized = λ telling. subst (λ disks. AreSized look disks) c.deref.ensures.value (c.in_ok-wants.ensures.sized telling);
    }) (record {
      begins = begins;
      history = c.new-run.ensures.history;
      turns = c.new-run.ensures.turns;
      last = c.new-run.ensures.last;
      again = c.new-run.ensures.again;
    }) given c.carry_all.result
    c.if-ended.result
    (λ whole. elim c.if-ended.branch [
      | then-ended w ↦ (
        sym c.is_ok-ended.ensures.value ∙ w.if-ended.true,
        ap (λ disks. map wants disks) (sym w.deref-then-ended-2.ensures.value) ∙ w.have_wanted_none.ensures (sym w.result-is ∙ whole)
            ∙ w.deref-then-ended.ensures.value ∙ c.in_ok-wants.ensures.wants ∙ ap (λ disks. map wants disks) c.deref.ensures.value,
      )
      | else-ended w ↦ absurd (let bad : false ≡ true = sym w.if-ended.false ∙ sym w.result-is ∙ whole in cc bad)
    ])
    (subst (λ cs. OnOk c.carry_all.result (CarriesAll (Stands tells layout seen look) (Did layout seen look) old new script.nodes cs))
    commands c.carry_all.ensures.done)
    (subst (λ cs. OnErr c.carry_all.result (CarriesPart (Stands tells layout seen look) (Did layout seen look) (Ends layout seen look) old
    new script.nodes cs)) commands c.carry_all.ensures.part) c.carry_all.ensures.shown c.carry_all.ensures.shown_part)

pub returns-clause-as_many : goal.returns-clause-as_many
returns-clause-as_many g c = counted-over (heeds g.St.Device.Disk.tells g.St.Device.Disk.obeys) g.St.Store.seen
    (disk_seen g.St.Device.Disk.counts g.St.Device.Disk.told g.St.Device.Disk.due) c.args.script c.args.disks.now.items
    c.close.result.items c.in-Ok.world c.into_parts-world.result.0 c.new-run.result c.carry_all.new.self c.carry_all.result
    c.requires.as_many c.requires.fit c.close.ensures.few
    (subst (λ disks. Begins c.args.script.types disks.items c.in-Ok.world) c.replace.ensures.value c.in-Ok.ensures.begins)
    c.new-run.ensures.machine c.close.ensures.disks c.into_parts-world.ensures.machine c.new-run.ensures.history
    c.carry_all.ensures.shown c.carry_all.ensures.shown_part

pub have_wanted_none-requires : goal.have_wanted_none-requires
have_wanted_none-requires g c =
    let wants : g.row.St-Device.Denot → ℕ =
    λ d. (disk_seen g.St.Device.Disk.counts g.St.Device.Disk.told g.St.Device.Disk.due d).counts.wants in
    let same : length c.close.result.items ≡ length c.args.disks.now.items =
    counted-over (heeds g.St.Device.Disk.tells g.St.Device.Disk.obeys) g.St.Store.seen
    (disk_seen g.St.Device.Disk.counts g.St.Device.Disk.told g.St.Device.Disk.due) c.args.script c.args.disks.now.items
    c.close.result.items c.in-Ok.world c.into_parts-world.result.0 c.new-run.result c.carry_all.new.self c.carry_all.result
    c.requires.as_many c.requires.fit c.close.ensures.few
    (subst (λ disks. Begins c.args.script.types disks.items c.in-Ok.world) c.replace.ensures.value c.in-Ok.ensures.begins)
    c.new-run.ensures.machine c.close.ensures.disks c.into_parts-world.ensures.machine c.new-run.ensures.history
    c.carry_all.ensures.shown c.carry_all.ensures.shown_part in
    ap length c.deref-then-ended.ensures.value ∙ ap length c.in_ok-wants.ensures.wants ∙ length-map c.deref.result.now wants
    ∙ ap length c.deref.ensures.value ∙ sym same ∙ sym (ap length c.deref-then-ended-2.ensures.value)

pub carry_all-requires-clause-calls : goal.carry_all-requires-clause-calls
carry_all-requires-clause-calls g c =
    let commands : c.as_slice.result.now ≡ c.args.script.commands = c.as_slice.ensures.value ∙ c.commands.view_is in
    numbers-first asked_in c.new-run.result (c.args.script.nodes + entries_in c.as_slice.result.now)
    (ap asked_in c.new-run.ensures.machine ∙ c.in-Ok.ensures.asked) c.new-run.ensures.turns
    (subst (λ cs. c.args.script.nodes + entries_in cs ≤ 1048576) (sym commands) c.requires.few)
