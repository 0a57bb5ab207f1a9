-- An Eject is created: which uid it gets, and how the node stands with it.
use Rattle.std.specs.Prelude.{◌≡◌, ℕ, ◌+◌, nat_le, cond, [], List, None, Result, Ok, Err, is_some, IsTrue}
use Rattle.capability.specs.declared.Uid.{Uid}
use Rattle.eden_value.specs.declared.status.Status.{Status}
use Rattle.eden_value.specs.declared.status.Status.TheVariants as status
use Rattle.epl_syntax.specs.Edentype.{Edentype}
use Rattle.epl_syntax.specs.Meaning.{type_of, first_values}
use Rattle.journal.specs.declared.event.Shown.{Shown}
use Rattle.journal.specs.World.{Site, eject_in}
use Rattle.journal.specs.Ejects.{fresh, next_uid, born}
use Rattle.journal.specs.Processes.{shown_creation, creates}
use Rattle.journal.specs.Sites.{InOrder}
use Rattle.journal.specs.FitTurns.{TurnsAreFit}
use Rattle.active_part.specs.Body.{Body, active_of}
use Rattle.ejects.specs.Parts.{Parts, Stands}
use Rattle.ejects.specs.View.{with_body}

-- the uid of the next Eject of a node that has so many, or why there is none
abbrev pub next_in : Parts → ℕ → Result Uid Status
next_in n count = cond (nat_le 4096 count) (Err status.TooMany) (cond (nat_le 4294967295 n.last_serial) (Err status.SerialsSpent)
    (Ok (record { node = n.number; epoch = n.epoch; serial = n.last_serial + 1 })))

-- the parts with a new active Eject, where one was created
abbrev pub with_born : Result Uid Status → Body → Parts → Parts
with_born (Ok u) b n = record (with_body u b n) { last_serial = u.serial }
with_born (Err why) b n = n

-- the site with a new Eject of this type, where one was created
abbrev pub born_as : Result Uid Status → Edentype → Site → Site
born_as (Ok u) t s = born u (fresh t (first_values t)) s
born_as (Err why) t s = s

-- An active part of a new Eject.
pub record IsFresh (t : Edentype) (b : Body) : Type 0 where
  pub active : active_of b ≡ fresh t (first_values t)
  pub queued : b.crew.queued ≡ []

-- the Ejects of a site stand in order, and the uid that comes next is that of none of them
pub record HasNewUid (s : Site) : Type 0 where
  pub in_order : InOrder s.node.ejects
  pub is_new : (u : Uid) → next_uid s ≡ Ok u → eject_in s u ≡ None

-- what the turns of processes rely on at a site: the uid that comes next is new, and each turn can be carried out
pub record MayTurn (s : Site) : Type 0 where
  pub new_uid : HasNewUid s
  pub turns : TurnsAreFit s

-- what is answered is the uid that comes next, or why there is none; and the parts stand for the site with the new Eject
pub record IsCreated (t : Edentype) (made : Result Uid Status) (new : Parts) (s : Site) : Type 0 where
  pub next : next_uid s ≡ made
  pub stands : Stands new (born_as made t s)

-- the same for a process that created it: it is told
pub record CreatedFor (u : Uid) (p : ℕ) (name : List ℕ) (new : Parts) (said : Shown) (s : Site) : Type 0 where
  pub known : IsTrue (is_some (type_of s.types name))
  pub shown : said ≡ shown_creation (next_uid s)
  pub stands : Stands new (creates u p (type_of s.types name) (next_uid s) s)
