use Rattle.std.proofs.Common.{sym, subst}
use Rattle.journal.specs.Commands.{made}
use Rattle.journal.specs.World.{capability}
use Rattle.shell_names.specs.Names.{NamesStand, StandsWith}
use Rattle.shell_names.proofs.Worlds.{created-stands, where-ok}
use Rattle.shell_names.proofs.names.ShellNames.bind_made.Goals as goal

pub returns-in-Some-clause-stands : goal.returns-in-Some-clause-stands
returns-in-Some-clause-stands c =
    let old = c.args.self.now in
    let new = c.bind_capability.new.self in
    let name = c.args.name.now in
    where-ok c.bind_capability.result c.bind_capability.ensures.stands (λ s type_name w h.
    subst (λ o. NamesStand new (made name type_name o w)) (sym c.in-Some.is) (created-stands old new name c.in-Some.uid
    (subst (λ held. StandsWith old new name (capability held)) c.mint.ensures.exact s) type_name w h))
