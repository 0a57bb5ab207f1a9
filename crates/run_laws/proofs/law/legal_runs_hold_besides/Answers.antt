use Rattle.passive_blocks.specs.BlockLayout.{block_layout}
use Rattle.run_laws.proofs.Runs.{AreLaws, besides}
use Rattle.run_laws.proofs.law.legal_runs_hold_besides.Goals as goal

pub returns : goal.returns
returns c =
    let laws : AreLaws = record {
      parts = c.first_part_follows_so_far.ensures.of_a_part;
      limits = c.histories_keep_limits.ensures;
      held = c.every_monitor_is_held.ensures;
      enabled_turns = c.an_enabled_key_has_its_turn.ensures;
      down = c.a_node_that_is_down_rests.ensures;
      touches = c.monitors_keep_their_variables.ensures.turns;
      leaves = c.monitors_keep_their_variables.ensures.entries;
      flows = c.streams_flow.ensures.flows;
      lists = c.streams_flow.ensures.list;
      sinks = c.streams_flow.ensures.whole;
      counts = c.pumps_take_so_many.ensures.each;
      firsts = c.pumps_take_so_many.ensures.first;
    } in
    let fit = c.a_script_is_fit.ensures.fit in
    let lays = c.blocks_are_a_layout.ensures in
    let complete = c.undisturbed_runs_are_complete.ensures in
    let answered = c.checkpoints_are_answered.ensures in
    record {
      whole = λ bytes script disks history spells few fits legal.
          let its = fit bytes script spells in
          besides laws block_layout script disks history lays fits few its legal.follows.leads
          (complete.whole block_layout script disks history legal)
          (answered.whole block_layout script disks history lays fits its.keep_rules its.have_monitors legal);
      so_far = λ bytes script disks history spells few fits legal.
          let its = fit bytes script spells in
          besides laws block_layout script disks history lays fits few its legal.begins
          (complete.so_far block_layout script disks history legal)
          (answered.so_far block_layout script disks history lays fits its.keep_rules its.have_monitors legal);
    }
