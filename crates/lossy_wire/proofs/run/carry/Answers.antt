use Rattle.std.proofs.Common.{rules, refl, ◌∙◌, sym, subst, ℕ, Option}
use Rattle.lossy_wire.specs.World.{HasValue, Shows}
use Rattle.lossy_wire.proofs.Slots.{on_ok, all_ok, none_of}
use Rattle.lossy_wire.proofs.Worlds.{has_value, is_carried, carried_text, is_none, none_text}
use Rattle.lossy_wire.proofs.run.carry.Goals as goal

pub returns-in_default-clause-world : goal.returns-in_default-clause-world
returns-in_default-clause-world c =
    all_ok c.add_missing.result _ (is_none c.args.script c.args.world.now c.args.world.now c.args.a c.args.b c.args.i
    c.requires.first c.requires.second c.requires.number (none_of c.at.result c.in_default.not-Some ∙ c.at.ensures) refl)

pub returns-in_default-clause-text : goal.returns-in_default-clause-text
returns-in_default-clause-text c =
    on_ok c.add_missing.result _ _ (λ h. none_text c.args.script c.args.world.now c.args.a c.args.b c.args.i c.args.out.now.items
    c.add_missing.new.out.items (none_of c.at.result c.in_default.not-Some ∙ c.at.ensures) h) c.add_missing.ensures

pub returns-clause-world : goal.returns-clause-world
returns-clause-world c =
    let old = c.args.world.now in
    on_ok c.push_by.result _ _ (λ h. is_carried c.args.script old
    (record { ends = c.take-delivers.new.self; sent = old.sent; packets = c.push_by.new.self }) c.args.a c.args.b c.args.i
    c.in-Some.packet c.take-delivers.result.reply c.requires.first c.requires.second c.requires.number (search rules)
    c.take-delivers.ensures.taken c.take-delivers.ensures.reply refl h) c.push_by.ensures

pub returns-clause-text : goal.returns-clause-text
returns-clause-text c =
    on_ok c.push_by.result _ _ (λ h. carried_text c.args.script c.args.world.now c.args.a c.args.b c.args.i c.in-Some.packet
    c.take-delivers.result.delivers c.args.out.now.items c.add_value.new.out.items (search rules) c.take-delivers.ensures.delivers
    (subst (λ (o : Option ℕ). Shows c.args.script c.args.world.now.sent c.args.a c.args.b o c.args.out.now.items
    c.add_value.new.out.items) c.delivered-number.ensures c.in_ok-add_value.ensures)) c.push_by.ensures

pub add_value-requires-clause-value : goal.add_value-requires-clause-value
add_value-requires-clause-value c =
    subst (HasValue c.args.script c.args.world.now.sent c.args.a c.args.b) (sym c.delivered-number.ensures)
    (has_value c.args.script c.args.world.now c.requires.held c.args.a c.args.b c.args.i c.in-Some.packet
    c.take-delivers.result.delivers (search rules))
