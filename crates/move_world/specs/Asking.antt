-- What is asked of a node, and what it leaves and answers.
use Rattle.std.specs.Prelude.{◌≡◌, ◌≢◌, ℕ, ◌≤◌, Bool, false, IsTrue, Option, None, Some, Result, Ok, Err, IfOk}
use Rattle.std.specs.declared.alloc.AllocError.{AllocError}
use Rattle.capability.specs.declared.Uid.{Uid}
use Rattle.eden_value.specs.Datum.{Datum}
use Rattle.eden_value.specs.View.{datum}
use Rattle.passive_store.specs.Kept.{Layout}
use Rattle.passive_store.specs.Seen.{Seen}
use Rattle.move_laws.specs.World.{Call, Make, Wake, Save, Lend, Again, Ended, Refused, Answered, Stopped, OutOfMemory}
use Rattle.eden_move.specs.declared.node.MoveNode.{MoveNode}
use Rattle.eden_move.specs.Minds.{Remembered, remembered, value_known}
use Rattle.eden_move.specs.Calls.{own_uid, uid_of, letter_call}
use Rattle.eden_move.specs.Shown.{IsWanderer, IsOpen, Stands, Carries}
use Rattle.move_world.specs.Commands.{IsNode}
use Rattle.move_world.specs.Logs.{Answer, Ends, Shows}
use Rattle.move_world.specs.View.{answer_of}
use Rattle.move_world.specs.Counting.{end_in, refusals_in, refusals_after}
use Rattle.eden_move.specs.declared.letter.Letter.{Letter}
use Rattle.move_world.specs.declared.answer.Answer.{Answer as CodedAnswer}
use Rattle.move_world.specs.declared.answer.Answer.TheVariants as answer
use Rattle.move_world.specs.declared.answer.Ended.{Ended as CodedEnded}
use Rattle.move_world.specs.declared.answer.Ended.TheVariants as ended
use Rattle.move_world.specs.declared.ask.Ask.{Ask}
use Rattle.move_world.specs.declared.ask.Ask.TheVariants as ask

-- what is seen of a node that is up: its number, its store, and its memory
pub record Manned : Type 0 where
  pub number : ℕ
  pub seen : Seen
  pub mind : Uid → Option Remembered

abbrev pub manned : {T D : Type 0} → (T → Seen) → MoveNode T D → Manned
manned seen n = record { number = n.number; seen = seen n.store; mind = remembered n.mind }

-- the Eject about which a node with this number is asked
abbrev pub uid_in : ℕ → Ask → Uid
uid_in number (ask.Make serial v) = own_uid number serial
uid_in number (ask.Wake u) = u
uid_in number (ask.Save u v) = u
uid_in number (ask.Lend u to) = u
uid_in number (ask.Again u) = u
uid_in number (ask.Take from l) = uid_of l

-- the call that is asked for
abbrev pub call_in : Ask → Call Datum
call_in (ask.Make serial v) = Make (datum v)
call_in (ask.Wake u) = Wake
call_in (ask.Save u v) = Save (datum v)
call_in (ask.Lend u to) = Lend to
call_in (ask.Again u) = Again
call_in (ask.Take from l) = letter_call from l

-- what a node with this number may be asked
abbrev pub MayAsk : ℕ → Ask → Type 0
MayAsk number (ask.Make serial v) = 1 ≤ serial
MayAsk number (ask.Wake u) = IsWanderer u
MayAsk number (ask.Save u v) = IsWanderer u
MayAsk number (ask.Lend u to) = IsWanderer u × IsNode to × (to ≢ number)
MayAsk number (ask.Again u) = IsWanderer u
MayAsk number (ask.Take from l) = IsWanderer (uid_of l)

-- how the call ended that was answered so
abbrev pub how_in : Answer → Ended Datum
how_in (Ends how) = how
how_in (Shows v) = Answered false None
how_in _ = Refused OutOfMemory

-- A waking that was not refused shows the value that is in memory behind it; other calls show none.
abbrev pub IsReply : Call Datum → Option Remembered → Answer → Type 0
IsReply Wake m (Shows v) = value_known m ≡ Some v
IsReply Wake m (Ends (Refused r)) = Unit {0}
IsReply Wake m _ = ⊥
IsReply c m (Ends how) = Unit {0}
IsReply c m _ = ⊥

-- its disk stopped in the call
abbrev pub HasStopped : Result CodedAnswer AllocError → Type 0
HasStopped (Ok a) = how_in (answer_of a) ≡ Refused Stopped
HasStopped (Err e) = ⊥

-- a letter that is given is about this Eject
abbrev pub IsAboutPost : Uid → Option Letter → Type 0
IsAboutPost u None = Unit {0}
IsAboutPost u (Some l) = uid_of l ≡ u

abbrev pub IsAboutHow : Uid → CodedEnded → Type 0
IsAboutHow u (ended.Refused r) = Unit {0}
IsAboutHow u (ended.Answered put post) = IsAboutPost u post

abbrev pub IsAbout : Uid → CodedAnswer → Type 0
IsAbout u (answer.Ends how) = IsAboutHow u how
IsAbout u _ = Unit {0}

-- A node that was asked about this Eject for this call is as it may be, and did what its rule says; want of memory is no answer.
pub record Heard (tells : Bool) (layout : Layout) (u : Uid) (c : Call Datum) (r : Result CodedAnswer AllocError) (old new : Manned)
    : Type 0 where
  pub of : IsOpen new.number new.seen
  pub node : new.seen.node ≡ old.seen.node
  pub power : (HasStopped r → ⊥) → IsTrue new.seen.disk.counts.power
  pub stands : IsTrue tells → Stands layout old.seen → Stands layout new.seen
  pub reply : IfOk r (λ a. IsReply c (new.mind u) (answer_of a))
  pub about : IfOk r (IsAbout u)
  pub memory : IfOk r (λ a. how_in (answer_of a) ≢ Refused OutOfMemory)
  -- its disk counted how the call ended
  pub counts : IfOk r (λ a. refusals_in new.seen.disk.counts ≡ refusals_after (end_in (answer_of a)) (refusals_in old.seen.disk.counts))
  pub carries : IsTrue tells → IfOk r (λ a. Carries u c (how_in (answer_of a)) old.seen old.mind new.seen new.mind)
