-- What a node knows of an Eject's changes.
use Rattle.std.specs.Prelude.{ℕ, List, Option, None}
use Rattle.capability.specs.declared.Uid.{Uid}
use Rattle.eden_model.specs.Map.{with_item}
use Rattle.journal.specs.EjectChange.{EjectChange}
use Rattle.journal.specs.World.{Site, Eject, eject_in}

-- what is kept of an Eject, and what is in doubt
abbrev pub Facts : Type 0
Facts = Option (List ℕ) × Option EjectChange

-- nothing is kept, and nothing in doubt
abbrev pub no_facts : Facts
no_facts = (None, None)

-- of an Eject, where there is one
abbrev pub facts_of : Option Eject → Facts
facts_of o = with_item o (λ e. (e.kept, e.doubt)) no_facts

-- of a uid, at a site
abbrev pub facts_in : Site → Uid → Facts
facts_in s u = facts_of (eject_in s u)
