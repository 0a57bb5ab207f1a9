use Rattle.std.proofs.Common.{rules, refl}
use Rattle.lossy_wire.proofs.Slots.{on_ok}
use Rattle.lossy_wire.proofs.Worlds.{is_again, is_again_text}
use Rattle.lossy_wire.proofs.run.again.Goals as goal

pub returns-clause-world : goal.returns-clause-world
returns-clause-world c =
    let old = c.args.world.now in
    on_ok c.push_by.result _ _ (λ h. is_again old (record { ends = old.ends; sent = old.sent; packets = c.push_by.new.self })
    c.args.a c.args.b c.again-packet.result c.requires.first c.requires.second refl refl c.again-packet.ensures h) c.push_by.ensures

pub returns-clause-text : goal.returns-clause-text
returns-clause-text c =
    on_ok c.push_by.result _ _ (λ h. is_again_text c.args.world.now c.args.a c.args.b c.again-packet.result c.args.out.now.items
    c.add_again.new.out.items c.again-packet.ensures (search rules)) c.push_by.ensures
