-- An Eject is created at a node: which uid it gets, and for which site the node stands with it.
use Rattle.std.specs.Prelude.{◌≡◌, Result}
use Rattle.capability.specs.declared.Uid.{Uid}
use Rattle.eden_value.specs.declared.status.Status.{Status}
use Rattle.epl_syntax.specs.Edentype.{Edentype}
use Rattle.epl_syntax.specs.Rules.OfTypes.{TypeList}
use Rattle.invocation.specs.Mail.{Mail}
use Rattle.passive_store.specs.Kept.{Layout}
use Rattle.journal.specs.World.{Site}
use Rattle.journal.specs.Ejects.{next_uid}
use Rattle.ejects.specs.Creations.{born_as}
use Rattle.eden_kernel.specs.Stands.{Held, NodeStands}
use Rattle.eden_kernel.specs.Turns.{OnDisk}

-- What is answered is the uid that comes next at the site, or why there is none. The node and the calls stand for the site with the new
-- Eject, and the disk did what it may.
pub record NodeCreates (layout : Layout) (ts : TypeList) (old new : Held) (m : Mail) (t : Edentype) (made : Result Uid Status) (s : Site)
    : Type 0 where
  pub next : next_uid s ≡ made
  pub stands : NodeStands layout ts new m (born_as made t s)
  pub disk : OnDisk layout old new s (born_as made t s)
