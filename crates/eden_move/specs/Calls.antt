-- Calls, letters and refusals of the code, as those of a world.
use Rattle.std.specs.Prelude.{◌≡◌, ℕ, Bool, true, false, IsTrue, is_some, Option, None, Some, Result, Ok, Err}
use Rattle.std.specs.Option.{option_map}
use Rattle.capability.specs.declared.Uid.{Uid}
use Rattle.eden_value.specs.Datum.{Datum}
use Rattle.eden_value.specs.View.{datum}
use Rattle.eden_disk.specs.Calls.{End, Fine, AtFault, AtStop}
use Rattle.passive_store.specs.declared.store.StoreRefusal.{StoreRefusal}
use Rattle.passive_store.specs.declared.store.StoreRefusal.TheVariants.{Failed, Stopped as StoreStopped, Full as StoreFull}
use Rattle.passive_store.specs.declared.store.StoreRefusal.TheVariants.{Damaged as StoreDamaged}
use Rattle.passive_store.specs.declared.store.StoreRefusal.TheVariants.{OutOfMemory as StoreOutOfMemory}
use Rattle.move_laws.specs.Wander.{Record, Letter, Take, Known}
use Rattle.move_laws.specs.World as world
use Rattle.move_laws.specs.World.{Call, Make, Wake, Save, Lend, Again, TakeIt, CloseIt, Due, Refuses, Gives, Puts, Refusal, Ended, Refused}
use Rattle.move_laws.specs.World.{Answered}
use Rattle.move_laws.specs.World.{Learnt}
use Rattle.eden_move.specs.declared.letter.Letter.{Letter as CodedLetter}
use Rattle.eden_move.specs.declared.letter.Took.{Took}
use Rattle.eden_move.specs.declared.letter.Letter.TheVariants.{Take as CodedTake, Known as CodedKnown}
use Rattle.eden_move.specs.declared.due.Call.{Call as CodedCall}
use Rattle.eden_move.specs.declared.due.Call.TheVariants as call
use Rattle.eden_move.specs.declared.due.Found.{Found}
use Rattle.eden_move.specs.declared.due.Found.TheVariants.{Nothing as FoundNone, Unread, Spoilt, Kept}
use Rattle.eden_move.specs.declared.due.Answer.{Answer}
use Rattle.eden_move.specs.declared.due.Answer.TheVariants.{Nothing as NoAnswer, Shown, Sent}
use Rattle.eden_move.specs.declared.due.Due.{Due as CodedDue}
use Rattle.eden_move.specs.declared.due.Due.TheVariants.{Refuses as CodedRefuses, Gives as CodedGives, Puts as CodedPuts}
use Rattle.eden_move.specs.declared.due.Here.{Here}
use Rattle.eden_move.specs.declared.due.Here.TheVariants.{At, Not}
use Rattle.eden_move.specs.declared.refusal.MoveRefusal.{MoveRefusal}
use Rattle.eden_move.specs.declared.refusal.MoveRefusal.TheVariants as coded
use Rattle.eden_move.specs.Records.{seen_record}
use Rattle.eden_move.specs.Minds.{Remembered, value_known, memory_seen}

-- 1. Letters and refusals

-- the Eject that a letter is about
abbrev pub uid_of : CodedLetter → Uid
uid_of (CodedTake u to g v) = u
uid_of (CodedKnown u to g) = u

abbrev pub seen_letter : CodedLetter → Letter Datum
seen_letter (CodedTake u to g v) = Take to g (datum v)
seen_letter (CodedKnown u to g) = Known to g

-- how a refusal of a store is one of a node
abbrev pub refusal_by : StoreRefusal → MoveRefusal
refusal_by Failed = coded.Fault
refusal_by StoreStopped = coded.Stopped
refusal_by StoreFull = coded.Full
refusal_by (StoreDamaged place) = coded.Damaged
refusal_by StoreOutOfMemory = coded.OutOfMemory

abbrev pub seen_refusal : MoveRefusal → Refusal
seen_refusal coded.There = world.There
seen_refusal (coded.Lent to) = world.IsLent to
seen_refusal (coded.Gone to) = world.IsGone to
seen_refusal coded.Unknown = world.Unknown
seen_refusal coded.Asleep = world.Asleep
seen_refusal coded.TooLarge = world.TooLarge
seen_refusal coded.GenerationsSpent = world.GenerationsSpent
seen_refusal coded.Damaged = world.Damaged
seen_refusal coded.Fault = world.Fault
seen_refusal coded.Stopped = world.Stopped
seen_refusal coded.Full = world.Full
seen_refusal coded.OutOfMemory = world.OutOfMemory

-- how the last device call of a call ended that was refused so
abbrev pub end_by : MoveRefusal → End
end_by coded.Fault = AtFault
end_by coded.Stopped = AtStop
end_by _ = Fine

abbrev pub end_of : {T : Type 0} → Result T MoveRefusal → End
end_of (Ok done) = Fine
end_of (Err e) = end_by e

-- 2. Calls

abbrev pub seen_call : CodedCall → Call Datum
seen_call (call.Make v) = Make (datum v)
seen_call call.Wake = Wake
seen_call (call.Save v) = Save (datum v)
seen_call (call.Lend to) = Lend to
seen_call call.Again = Again
seen_call (call.Take from g v) = TakeIt from g (datum v)
seen_call (call.Close from g) = CloseIt from g

-- what was found is what is kept; where it was not read, something is
abbrev pub Finds : Found → Option (Option (Record Datum)) → Type 0
Finds FoundNone kept = kept ≡ None
Finds Unread kept = IsTrue (is_some kept)
Finds Spoilt kept = kept ≡ Some None
Finds (Kept r) kept = kept ≡ Some (Some (seen_record r))

-- it was read, where something is kept
abbrev pub IsRead : Found → Type 0
IsRead FoundNone = Unit {0}
IsRead Unread = ⊥
IsRead Spoilt = Unit {0}
IsRead (Kept r) = Unit {0}

-- what is due where an Eject is needed here
abbrev pub by_here : Here → (ℕ → Datum → Due Datum) → Due Datum
by_here (At g v) f = f g (datum v)
by_here (Not r) f = Refuses (seen_refusal r)

-- 3. What is due

-- the letter that is answered
abbrev pub post_of : Answer → Option (Letter Datum)
post_of NoAnswer = None
post_of (Shown v) = None
post_of (Sent l) = Some (seen_letter l)

abbrev pub seen_due : CodedDue → Due Datum
seen_due (CodedRefuses r) = Refuses (seen_refusal r)
seen_due (CodedGives m a) = Gives (memory_seen m) (post_of a)
seen_due (CodedPuts r m a) = Puts (seen_record r) (memory_seen m) (post_of a)

-- the answer is one of this call: a waking shows a value, and those that send give a letter about this Eject
abbrev pub IsAnswer : Uid → Call Datum → Answer → Type 0
IsAnswer u Wake (Shown v) = Unit {0}
IsAnswer u Wake NoAnswer = ⊥
IsAnswer u Wake (Sent l) = ⊥
IsAnswer u (Make w) NoAnswer = Unit {0}
IsAnswer u (Make w) (Shown v) = ⊥
IsAnswer u (Make w) (Sent l) = ⊥
IsAnswer u (Save w) NoAnswer = Unit {0}
IsAnswer u (Save w) (Shown v) = ⊥
IsAnswer u (Save w) (Sent l) = ⊥
IsAnswer u (CloseIt from g) NoAnswer = Unit {0}
IsAnswer u (CloseIt from g) (Shown v) = ⊥
IsAnswer u (CloseIt from g) (Sent l) = ⊥
IsAnswer u (Lend to) (Sent l) = uid_of l ≡ u
IsAnswer u (Lend to) NoAnswer = ⊥
IsAnswer u (Lend to) (Shown v) = ⊥
IsAnswer u Again (Sent l) = uid_of l ≡ u
IsAnswer u Again NoAnswer = ⊥
IsAnswer u Again (Shown v) = ⊥
IsAnswer u (TakeIt from g w) (Sent l) = uid_of l ≡ u
IsAnswer u (TakeIt from g w) NoAnswer = ⊥
IsAnswer u (TakeIt from g w) (Shown v) = ⊥

-- a value that is shown is the one that is known from then on
abbrev pub IsShown : world.Mind Datum → Answer → Type 0
IsShown (Learnt active g w) (Shown v) = datum v ≡ w
IsShown world.Forgotten (Shown v) = ⊥
IsShown world.Same (Shown v) = ⊥
IsShown m NoAnswer = Unit {0}
IsShown m (Sent l) = Unit {0}

-- no value is shown
abbrev pub IsQuiet : Answer → Type 0
IsQuiet NoAnswer = Unit {0}
IsQuiet (Sent l) = Unit {0}
IsQuiet (Shown v) = ⊥

-- a value that was shown is in memory
abbrev pub IsKnownBy : Option Remembered → Answer → Type 0
IsKnownBy o (Shown v) = value_known o ≡ Some (datum v)
IsKnownBy o NoAnswer = Unit {0}
IsKnownBy o (Sent l) = Unit {0}

-- what is due answers as this call does
abbrev pub AnswersFor : Uid → Call Datum → CodedDue → Type 0
AnswersFor u c (CodedRefuses r) = Unit {0}
AnswersFor u c (CodedGives m a) = IsAnswer u c a × IsShown (memory_seen m) a
AnswersFor u c (CodedPuts r m a) = IsAnswer u c a × IsQuiet a

-- how a call ended
abbrev pub ended : Result (Bool × Answer) MoveRefusal → Ended Datum
ended (Ok done) = Answered done.0 (post_of done.1)
ended (Err e) = Refused (seen_refusal e)

-- how a put ended that answers so
abbrev pub put_ended : Option (Letter Datum) → Result (Unit {0}) MoveRefusal → Ended Datum
put_ended post (Ok done) = Answered true post
put_ended post (Err e) = Refused (seen_refusal e)

-- what is due is neither a fault nor a stop
abbrev pub KeepsRunning : CodedDue → Type 0
KeepsRunning (CodedRefuses r) = end_by r ≡ Fine
KeepsRunning (CodedGives m a) = Unit {0}
KeepsRunning (CodedPuts r m a) = Unit {0}

-- nor is a refusal of what is needed here
abbrev pub IsRunning : Here → Type 0
IsRunning (At g v) = Unit {0}
IsRunning (Not r) = end_by r ≡ Fine

-- 4. Public calls

-- the uid of an Eject that a node makes
abbrev pub own_uid : ℕ → ℕ → Uid
own_uid node serial = record { node = node; epoch = 1; serial = serial }

-- how a call ended that puts a record or not, and answers this letter or none
abbrev pub ended_as : {T : Type 0} → Bool → (T → Option (Letter Datum)) → Result T MoveRefusal → Ended Datum
ended_as put post (Ok done) = Answered put (post done)
ended_as put post (Err e) = Refused (seen_refusal e)

-- what a letter from this node asks for
abbrev pub letter_call : ℕ → CodedLetter → Call Datum
letter_call from (CodedTake u to g v) = TakeIt from g (datum v)
letter_call from (CodedKnown u to g) = CloseIt from g

-- whether a letter led to a put: the Eject is here, or gone
abbrev pub put_by : CodedLetter → Took → Bool
put_by (CodedTake u to g v) took = took.here
put_by (CodedKnown u to g) took = took.closed

-- how a call ended to which a letter came
abbrev pub took_ended : CodedLetter → Result Took MoveRefusal → Ended Datum
took_ended l (Ok took) = Answered (put_by l took) (option_map seen_letter took.reply)
took_ended l (Err e) = Refused (seen_refusal e)

-- What comes of a letter is of its kind: the one is answered about the same Eject, and closes nothing; the other is not answered.
abbrev pub IsTook : CodedLetter → Took → Type 0
IsTook (CodedTake u to g v) took = (took.closed ≡ false) × (option_map uid_of took.reply ≡ Some u)
IsTook (CodedKnown u to g) took = (took.here ≡ false) × (took.reply ≡ None)
