use Rattle.std.proofs.Common.{refl}
use Rattle.plain_stores.proofs.Nodes.{epoch-room, untold-as}
use Rattle.plain_stores.proofs.PlainNode.boot_facts.Goals as goal

pub returns : goal.returns
returns c ts t = record {
  damaged = refl;
  overfull = refl;
  allowed = c.is_block_size.ensures;
  doubted = c.is_in_doubt.ensures ts;
  stored = c.epoch_by.ensures ts t;
  room = epoch-room ts t c.args.self.now c.args.pick;
  untold = untold-as ts t c.args.self.now c.args.pick;
}
