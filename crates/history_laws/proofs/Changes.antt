-- What a node knows of an Eject's changes, and what ties it to the entries: the law by which each start is whole.
use Rattle.std.specs.Prelude.{◌≡◌, ℕ, nat_lt, cond, ◌&&◌, List, Option, None, Some}
use Rattle.capability.specs.declared.Uid.{Uid}
use Rattle.eden_model.specs.Map.{with_item, or_else, first, rest, same_uid}
use Rattle.journal.specs.EjectChange.{EjectChange}
use Rattle.journal.specs.World.{World, Node, Site, Eject, StoreRequest, node_at, eject_at, eject_in}
use Rattle.journal.specs.Run.{Step}
use Rattle.journal.specs.Kept.{in_progress, cut_short, last_kept}
use Rattle.journal.specs.Sites.{AllUnmade, AllThere}

-- 1. At a node

-- what is kept of an Eject, and what is in doubt
abbrev pub Facts : Type 0
Facts = Option (List ℕ) × Option EjectChange

abbrev pub no_facts : Facts
no_facts = (None, None)

abbrev pub facts_of : Option Eject → Facts
facts_of o = with_item o (λ e. (e.kept, e.doubt)) no_facts

abbrev pub facts_in : Site → Uid → Facts
facts_in s u = facts_of (eject_in s u)

-- the change of u that the first request has begun
abbrev pub begun_by : Uid → StoreRequest → Option EjectChange
begun_by u r = cond (same_uid r.uid u && nat_lt 0 r.made) (Some r.change) None

abbrev pub begun : List StoreRequest → Uid → Option EjectChange
begun rs u = with_item (first rs) (begun_by u) None

-- only the first request has made device calls, and each is of an Eject of the node
pub record Queue (rs : List StoreRequest) (es : List (Uid × Eject)) : Type 0 where
  pub unmade : AllUnmade (rest rs)
  pub there : AllThere rs es

-- 2. In the world

abbrev pub facts_at : World → Uid → Facts
facts_at w u = facts_of (eject_at w u)

abbrev pub begun_at : World → Uid → Option EjectChange
begun_at w u = with_item (node_at w u.node) (λ it. begun it.requests u) None

-- what is kept, in doubt and begun is what the entries tell
pub record IsTold (held : Option (List ℕ)) (u : Uid) (facts : Facts) (now : Option EjectChange) (past : List Step) : Type 0 where
  pub kept : facts.0 ≡ last_kept held u past
  pub doubt : facts.1 ≡ or_else (in_progress u past) (cut_short u past)
  pub begun : now ≡ in_progress u past

pub record AllTold (opening w : World) (past : List Step) : Type 0 where
  pub each : (u : Uid) → IsTold (with_item (eject_at opening u) (λ e. e.kept) None) u (facts_at w u) (begun_at w u) past
  pub queues : (n : ℕ) (it : Node) → node_at w n ≡ Some it → Queue it.requests it.ejects
