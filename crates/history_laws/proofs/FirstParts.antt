-- A first part of a history that leads on leads on.
use Rattle.std.proofs.Common.{List, [], ◌∷◌, ◌++◌}
use Rattle.journal.specs.declared.event.Entry.{Entry}
use Rattle.journal.specs.Run.{Position, lead, Leads, beginning}
use Rattle.journal.specs.Laws.{FirstPartsFollow, FirstPartsFollowSoFar}

first-leads : (p : Position) (part more : List Entry) → Leads p (part ++ more) → Leads p part
first-leads p [] more leads = tt
first-leads p (e ∷ es) more leads = (leads.0, first-leads (lead p e) es more leads.1)

pub of-a-whole : FirstPartsFollow
of-a-whole opening nodes cs part more follows = first-leads (beginning opening nodes cs) part more follows.leads

pub of-a-part : FirstPartsFollowSoFar
of-a-part opening nodes cs part more leads = first-leads (beginning opening nodes cs) part more leads
