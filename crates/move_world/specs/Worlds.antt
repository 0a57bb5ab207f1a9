-- The world of a script, as the code has it: what stands at the places of nodes, and the letters.
use Rattle.std.specs.Prelude.{◌≡◌, ◌⊎◌, ℕ, ◌-◌, true, List, [], ◌∷◌, map, length, slice_index_or, slice_get, Option, None, Some}
use Rattle.capability.specs.declared.Uid.{Uid}
use Rattle.eden_value.specs.Datum.{Datum}
use Rattle.passive_store.specs.Kept.{Layout}
use Rattle.passive_store.specs.Seen.{Seen, DiskSeen}
use Rattle.move_laws.specs.Wander.{Letter as AnyLetter}
use Rattle.move_laws.specs.World.{World, Post, Call, Make, Wake, Save, Lend, Again, Ended}
use Rattle.eden_move.specs.declared.letter.Letter.{Letter}
use Rattle.eden_move.specs.Calls.{own_uid, uid_of, seen_letter, letter_call}
use Rattle.eden_move.specs.Shown.{IsWanderer}
use Rattle.move_world.specs.Commands.{Command, makes, wakes, saves, moves, repeats, carries, crashes, restarts, fails, stops, IsNode}
use Rattle.move_world.specs.Commands.{IsInReach}
use Rattle.move_world.specs.Logs.{Answer, Ends, Comes, Done, Calls, IsMisplaced, Leads, Entry}
use Rattle.move_world.specs.InHand.{ArePostsFit}
use Rattle.move_world.specs.Kept.{posts_between, HasLetters, IsSent}
use Rattle.move_world.specs.Seats.{Standing, Away, standing, IsSound, StandsFor, IsReplyOf}
use Rattle.move_world.specs.declared.seat.Seat.{Seat}
use Rattle.move_world.specs.declared.answer.Answer.{Answer as CodedAnswer}
use Rattle.move_world.specs.declared.answer.Answer.TheVariants as answer
use Rattle.move_world.specs.declared.answer.Ended.{Ended as CodedEnded}
use Rattle.move_world.specs.declared.answer.Ended.TheVariants as ended

-- 1. What is in hand

-- what is seen of the places
abbrev pub standings : {T D : Type 0} → (T → Seen) → (D → DiskSeen) → List (Seat T D) → List Standing
standings seen look seats = map (standing seen look) seats

-- what stands at the place of this number
abbrev pub standing_at : List Standing → ℕ → Standing
standing_at ss n = slice_index_or ss (n - 1) Away

-- There are eight places, at each of which something stands, and each letter is about an Eject that can wander.
pub record IsWorld (ss : List Standing) (ls : List (List Letter)) : Type 0 where
  pub seats : length ss ≡ 8
  pub letters : length ls ≡ 64
  pub sound : (n : ℕ) → IsNode n → IsSound n (standing_at ss n)
  pub wander : (a b k : ℕ) (p : Post Datum) → IsNode a → IsNode b → slice_get (posts_between ls a b) k ≡ Some p → IsWanderer p.uid

-- What is in hand stands for this world.
pub record IsOf (layout : Layout) (ss : List Standing) (ls : List (List Letter)) (w : World Datum) : Type 0 where
  pub seats : (n : ℕ) → IsNode n → StandsFor layout n (standing_at ss n) (w.node n)
  pub letters : HasLetters ls w.posted
  pub fit : ArePostsFit w.posted

-- The command led from this world to one for which what is in hand stands.
abbrev pub Steps : Layout → Command → Answer → List Standing → List (List Letter) → World Datum → Type 0
Steps layout c a ss ls w = (x : World Datum) × Leads c a w x × IsOf layout ss ls x

-- 2. Calls

-- the letter that an answer gives
abbrev pub given_how : CodedEnded → Option Letter
given_how (ended.Refused r) = None
given_how (ended.Answered put post) = post

abbrev pub given : CodedAnswer → Option Letter
given (answer.Ends how) = given_how how
given _ = None

-- a letter that was given, if one was, was sent from this node
abbrev pub IsNoted : ℕ → Option Letter → List (List Letter) → List (List Letter) → Type 0
IsNoted n None old new = new ≡ old
IsNoted n (Some l) old new =
    (m : Letter) × (uid_of m ≡ uid_of l) × (seen_letter m ≡ seen_letter l) × IsSent n m old new

-- a node was called, or was not up
abbrev pub AskedIn : Layout → ℕ → Uid → Call Datum → Answer → List Standing → List (List Letter) → World Datum → Type 0
AskedIn layout n u c a ss ls w =
    (IsMisplaced n true a w w × IsOf layout ss ls w)
    ⊎ (((w.node n).up ≡ true) × (how : Ended Datum) × (x : World Datum) × Calls n u c how w x
    × IsReplyOf c ((x.node n).memory u) how a × IsOf layout ss ls x)

-- the node, the Eject and the call of a command, if it is a call
abbrev pub asked_by : Command → Option (ℕ × Uid × Call Datum)
asked_by (makes n serial v) = Some (n, own_uid n serial, Make v)
asked_by (wakes n u) = Some (n, u, Wake)
asked_by (saves n u v) = Some (n, u, Save v)
asked_by (moves n u to) = Some (n, u, Lend to)
asked_by (repeats n u) = Some (n, u, Again)
asked_by (carries a b i) = None
asked_by (crashes n how) = None
asked_by (restarts n) = None
asked_by (fails n after) = None
asked_by (stops n after how) = None

-- a letter that came is told with the answer of the call to which it led
abbrev pub came_as : Uid → AnyLetter Datum → Answer → Answer
came_as u l (Ends how) = Comes u l how
came_as u l a = a

-- this letter came from node a to node b, or node b was not up
abbrev pub DeliveredIn : Layout → (a b : ℕ) → Letter → Answer → List Standing → List (List Letter) → World Datum → Type 0
DeliveredIn layout a b l answer ss ls w =
    (IsMisplaced b true answer w w × IsOf layout ss ls w)
    ⊎ (((w.node b).up ≡ true) × (how : Ended Datum) × (x : World Datum) × (answer ≡ Comes (uid_of l) (seen_letter l) how)
    × Calls b (uid_of l) (letter_call a l) how w x × IsOf layout ss ls x)

-- the disk of a node that is up was asked for a failure or a stop
abbrev pub ArmedIn : Layout → ℕ → Answer → List Standing → List (List Letter) → World Datum → Type 0
ArmedIn layout n a ss ls w =
    (IsMisplaced n true a w w ⊎ (((w.node n).up ≡ true) × (a ≡ Done))) × IsOf layout ss ls w

-- 3. Many commands

-- some commands led from one world to another, by these worlds
abbrev pub FollowsTo : World Datum → List Entry → List (World Datum) → World Datum → Type 0
FollowsTo w [] [] v = v ≡ w
FollowsTo w [] (x ∷ xs) v = ⊥
FollowsTo w (e ∷ es) [] v = ⊥
FollowsTo w (e ∷ es) (x ∷ xs) v = Leads e.command e.answer w x × FollowsTo x es xs v

-- they led to a world for which what is in hand stands
abbrev pub Reaches : Layout → World Datum → List Entry → List Standing → List (List Letter) → Type 0
Reaches layout w es ss ls = (xs : List (World Datum)) × (v : World Datum) × FollowsTo w es xs v × IsOf layout ss ls v

-- the commands of entries
abbrev pub commands_of : List Entry → List Command
commands_of es = map (λ e. e.command) es

-- all of these commands are in reach
abbrev pub AreInReach : List Command → Type 0
AreInReach [] = Unit {0}
AreInReach (c ∷ cs) = IsInReach c × AreInReach cs
