use Rattle.std.proofs.Common.{rules}
use Rattle.lossy_wire.proofs.Slots.{on_ok}
use Rattle.lossy_wire.proofs.Worlds.{is_sent}
use Rattle.lossy_wire.proofs.run.send.Goals as goal

pub returns : goal.returns
returns c =
    on_ok c.push-2.result _ _ (λ h. is_sent c.args.world.now
    (record { ends = c.send-packet.new.self; sent = c.push.new.self; packets = c.push-2.new.self }) c.args.a c.args.b c.args.spot c.send-packet.result
    c.requires.first c.requires.second c.send-packet.ensures.sent c.send-packet.ensures.packet (search rules) h) c.push-2.ensures
