-- Stores that cannot be told from one another by what they answer, whatever their layouts.
use Rattle.std.specs.Prelude.{◌≡◌, ℕ, zero, Bool, true, List, All, replicate, None, Ok}
use Rattle.std.specs.FinMap as map
use Rattle.eden_disk.specs.Told.{contents, LeavesOnly}
use Rattle.passive_store.specs.Kept.{Kept, Layout, Work, Idle, Busy}
use Rattle.passive_store.specs.Seen.{Seen, DiskSeen, Opens}
use Rattle.equal_answers.specs.Calls.{Call, Answer, GoWell, IsFine}

-- Both have no change under way, or both have begun the same one, of which no device call was made. None is in doubt.
abbrev pub AreAlikeWorks : Work → Work → Type 0
AreAlikeWorks Idle Idle = Unit {0}
AreAlikeWorks (Busy c zero left) (Busy d zero rest) = (c.uid ≡ d.uid) × (c.body ≡ d.body)
AreAlikeWorks _ _ = ⊥

-- a crash leaves only images that keep what the store keeps
abbrev pub LeavesWhatIsKept : Layout → Seen → Type 0
LeavesWhatIsKept layout s = LeavesOnly (λ image. layout.map_of s.node image ≡ Ok s.kept) (contents s.disk.told)

-- Two stores of one node keep the same bytes under the same uids, also through a crash; and their last calls settled nothing.
pub record AreAlike (layout other : Layout) (a b : Seen) : Type 0 where
  pub node : a.node ≡ b.node
  pub bodies : a.kept.bodies ≡ b.kept.bodies
  pub works : AreAlikeWorks a.work b.work
  pub picked : a.picked ≡ None
  pub other_picked : b.picked ≡ None
  pub left : LeavesWhatIsKept layout a
  pub other_left : LeavesWhatIsKept other b

-- Two stores have answered alike: the answers are the same, none of them is a refusal, and what the stores keep behind them is the same.
pub record AnsweredAlike (layout other : Layout) (a b : Seen) (answers others : List Answer) : Type 0 where
  pub same : answers ≡ others
  pub fine : All IsFine answers
  pub alike : AreAlike layout other a b

-- Of any list of calls alike stores answer alike, where no count of their disks rises and neither room nor memory is wanting.
abbrev pub AnswerAlike : Layout → Layout → Seen → Seen → Type 0
AnswerAlike layout other a b =
    (obeys other_obeys : Bool) (calls : List Call) (answers others : List Answer) (new_a new_b : Seen)
    → GoWell obeys layout a calls answers new_a → GoWell other_obeys other b calls others new_b
    → AnsweredAlike layout other new_a new_b answers others

-- whatever their layouts
abbrev pub AlikeStoresAnswerAlike : Type 0
AlikeStoresAnswerAlike = (layout other : Layout) (a b : Seen) → AreAlike layout other a b → AnswerAlike layout other a b

-- where an image of zeros keeps anything that can be told, it keeps no bytes under any uid
abbrev pub KeepsNothingInZeros : Layout → Type 0
KeepsNothingInZeros layout =
    (node size : ℕ) (kept : Kept) → layout.map_of node (replicate size 0) ≡ Ok kept → kept.bodies ≡ map.empty

-- A store was opened over a blank disk of this size, which tells its contents.
pub record IsOpenedBlank (layout : Layout) (node size : ℕ) (s : Seen) : Type 0 where
  pub obeys : Bool
  pub disk : DiskSeen
  pub blank : (contents disk.told).now ≡ replicate size 0
  pub opens : Opens true obeys layout node (Ok s) disk s.disk

-- From blank disks on, of whatever sizes, stores of these two layouts for one node answer alike.
abbrev pub AnswerAlikeFromBlankDisks : Layout → Layout → Type 0
AnswerAlikeFromBlankDisks layout other = (node size other_size : ℕ) (a b : Seen) → IsOpenedBlank layout node size a
    → IsOpenedBlank other node other_size b → AnswerAlike layout other a b

-- any two layouts that keep nothing there
abbrev pub StoresAnswerAlike : Type 0
StoresAnswerAlike = (layout other : Layout) → KeepsNothingInZeros layout → KeepsNothingInZeros other
    → AnswerAlikeFromBlankDisks layout other
