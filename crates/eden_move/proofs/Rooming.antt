-- Whether a record finds room, from the put of a store to a whole call.
use Rattle.std.proofs.Common.{◌≡◌, ◌⊎◌, inl, inr, ℕ, Bool, true, false, List, Option, None, Some, refl, sym, ◌∙◌, ap, subst}
use Rattle.std.specs.Prelude.{IfSome, Result, Ok, Err, MatchResult, IfErr, OnOk}
use Rattle.capability.specs.declared.Uid.{Uid}
use Rattle.eden_value.specs.Datum.{Datum}
use Rattle.passive_store.specs.declared.store.StoreRefusal.{StoreRefusal}
use Rattle.passive_store.specs.declared.store.StoreRefusal.TheVariants as store
use Rattle.passive_store.specs.Kept.{Layout, Idle, IsFullBy}
use Rattle.passive_store.specs.Seen.{Seen, asked, has_room_for}
use Rattle.move_laws.specs.Wander.{Record, Here, Lent, Gone}
use Rattle.move_laws.specs.World as world
use Rattle.move_laws.specs.World.{Node, Call, Make, Wake, Save, Lend, Again, TakeIt}
use Rattle.move_laws.specs.World.{CloseIt, Due, due, due_by, settled_by, Harm, Fails, Stops}
use Rattle.eden_move.specs.declared.due.Found.{Found}
use Rattle.eden_move.specs.declared.due.Found.TheVariants.{Nothing, Unread, Spoilt, Kept}
use Rattle.eden_move.specs.declared.refusal.MoveRefusal.{MoveRefusal}
use Rattle.eden_move.specs.declared.refusal.MoveRefusal.TheVariants as coded
use Rattle.eden_move.specs.Records.{seen_record}
use Rattle.eden_move.specs.Minds.{Remembered}
use Rattle.eden_move.specs.Calls.{refusal_by, seen_refusal, Finds}
use Rattle.eden_move.specs.Shown.{key, IsHarmed, IsSettled, may_put, is_put, finds_room, HasRoom, room_by_put, room_of_put, room_by_call}
use Rattle.eden_move.specs.Shown.{room_of_call, KeepsRoom, RoomBehind}
use Rattle.eden_move.proofs.Stepped.{idle-keeps}

-- 1. One store behind another

pub keeps-same : (s : Seen) → KeepsRoom s s
keeps-same s = record { node = refl; size = refl; more = refl; pick = None; kept = refl }

pub keeps-then : {T E : Type 0} (r : Result T E) (old mid new : Seen) → KeepsRoom old mid → mid.work ≡ Idle → OnOk r (KeepsRoom mid new)
    → OnOk r (KeepsRoom old new)
keeps-then (Ok done) old mid new a idle b = record {
  node = b.node ∙ a.node;
  size = b.size ∙ a.size;
  more = b.more ∙ a.more;
  pick = a.pick;
  kept = b.kept ∙ idle-keeps b.pick mid.work mid.kept idle ∙ a.kept;
}
keeps-then (Err e) old mid new a idle b = tt

pub on-ok-any : {T E : Type 0} (r : Result T E) (P : Type 0) → P → OnOk r P
on-ok-any (Ok done) P p = p
on-ok-any (Err e) P p = tt

-- 2. A put

-- the number of a node is that of its store
pub number-room : (layout : Layout) (s : Seen) (n : ℕ) (u : Uid) (body : List ℕ) → n ≡ s.node
    → has_room_for layout s.disk.counts.size s.kept (asked (key n u) (Some body)) ≡ finds_room layout s u body
number-room layout s n u body is = ap (λ n. has_room_for layout s.disk.counts.size s.kept (asked (key n u) (Some body))) is

-- what the store says of a put that it refused
pub put-room : (e : StoreRefusal) (r : MoveRefusal) (room : Bool) → r ≡ refusal_by e → IsFullBy {T = Unit {0}} room None Idle (Err e)
    → IfSome (room_by_put r) (λ b. room ≡ b)
put-room e r room is f = subst (λ r. IfSome (room_by_put r) (λ b. room ≡ b)) (sym is) (go e f)
  where
    go : (e : StoreRefusal) → IsFullBy {T = Unit {0}} room None Idle (Err e) → IfSome (room_by_put (refusal_by e)) (λ b. room ≡ b)
    go store.Failed f = f refl
    go store.Stopped f = f refl
    go store.Full f = f
    go (store.Damaged place) f = tt
    go store.OutOfMemory f = tt

pub any-room : (o : Option Bool) (P : Bool → Type 0) → ((b : Bool) → P b) → IfSome o P
any-room None P each = tt
any-room (Some b) P each = each b

-- 3. A whole call

-- how the put ended tells of the call
pub call-room : {T : Type 0} (r : Result T MoveRefusal) (P Q : Bool → Type 0) → ((b : Bool) → P b → Q b) → IfSome (room_of_put r) P
    → IfSome (room_of_call r) Q
call-room (Ok done) P Q f p = f true p
call-room (Err coded.There) P Q f p = tt
call-room (Err (coded.Lent to)) P Q f p = tt
call-room (Err (coded.Gone to)) P Q f p = tt
call-room (Err coded.Unknown) P Q f p = tt
call-room (Err coded.Asleep) P Q f p = tt
call-room (Err coded.TooLarge) P Q f p = tt
call-room (Err coded.GenerationsSpent) P Q f p = tt
call-room (Err coded.Damaged) P Q f p = tt
call-room (Err coded.Fault) P Q f p = tt
call-room (Err coded.Stopped) P Q f p = tt
call-room (Err coded.Full) P Q f p = f false p
call-room (Err coded.OutOfMemory) P Q f p = tt

-- any refusal but Full tells nothing
pub no-full : (e : MoveRefusal) (Q : Bool → Type 0) → (e ≡ coded.Full → ⊥) → IfSome (room_by_call e) Q
no-full coded.There Q never = tt
no-full (coded.Lent to) Q never = tt
no-full (coded.Gone to) Q never = tt
no-full coded.Unknown Q never = tt
no-full coded.Asleep Q never = tt
no-full coded.TooLarge Q never = tt
no-full coded.GenerationsSpent Q never = tt
no-full coded.Damaged Q never = tt
no-full coded.Fault Q never = tt
no-full coded.Stopped Q never = tt
no-full coded.Full Q never = absurd (never refl)
no-full coded.OutOfMemory Q never = tt

-- a failure and a stop are not Full
pub harm-no-full : (u : Uid) (x : Node Datum) (e : MoveRefusal) (s : Seen) (m : Uid → Option Remembered) → IsHarmed u x e s m
    → e ≡ coded.Full → ⊥
harm-no-full u x e s m h full = go h.0 h.1
  where
    go : (h : Harm) → seen_refusal e ≡ world.refusal_of h → ⊥
    go Fails is = cc (sym (ap seen_refusal full) ∙ is)
    go Stops is = cc (sym (ap seen_refusal full) ∙ is)

-- nor is what comes before the put
pub looks-no-full : (r : Result Found MoveRefusal) (u : Uid) (x : Node Datum) (s : Seen) (m : Uid → Option Remembered) (P : Found → Type 0)
    (R A B : Type 0)
    → MatchResult r P (λ e. R × (((e ≡ coded.OutOfMemory) × A) ⊎ (B × IsHarmed u x e s m))) → IfErr r (λ e. e ≡ coded.Full → ⊥)
looks-no-full (Ok found) u x s m P R A B p = tt
looks-no-full (Err e) u x s m P R A B p = go p.1
  where
    go : ((e ≡ coded.OutOfMemory) × A) ⊎ (B × IsHarmed u x e s m) → e ≡ coded.Full → ⊥
    go (inl memory) full = cc (sym full ∙ memory.0)
    go (inr harm) full = harm-no-full u x e s m harm.1 full

pub room-behind : (layout : Layout) (u : Uid) (c : Call Datum) (x : Node Datum) (s t : Seen) (m n : Uid → Option Remembered) (room : Bool)
    → n ≡ m → KeepsRoom s t → (z : IsSettled x t n) → HasRoom layout t u (due u c (settled_by z.pick x)) room
    → RoomBehind layout u c x s m room
room-behind layout u c x s t m n room is keeps z has =
    subst (λ m. RoomBehind layout u c x s m room) is (record { store = t; keeps = keeps; settles = z; has = has })

-- 4. Calls that put nothing

-- what was found, as what is kept
abbrev pub found-kept : Found → Option (Option (Record Datum))
found-kept Nothing = None
found-kept Unread = Some None
found-kept Spoilt = Some None
found-kept (Kept r) = Some (Some (seen_record r))

pub finds-kept : (f : Found) → Finds f (found-kept f)
finds-kept Nothing = refl
finds-kept Unread = refl
finds-kept Spoilt = refl
finds-kept (Kept r) = refl

pub never-puts : (c : Call Datum) (k : Option (Option (Record Datum))) (m : Option (ℕ × Datum)) (a : Bool) → may_put c ≡ false
    → is_put (due_by c k m a) ≡ false
never-puts (Make v) k m a e = absurd (cc e)
never-puts Wake None m a e = refl
never-puts Wake (Some None) m a e = refl
never-puts Wake (Some (Some (Here g v))) m a e = refl
never-puts Wake (Some (Some (Lent g to v))) m a e = refl
never-puts Wake (Some (Some (Gone g to))) m a e = refl
never-puts (Save v) k m a e = absurd (cc e)
never-puts (Lend to) k m a e = absurd (cc e)
never-puts Again None m a e = refl
never-puts Again (Some None) m a e = refl
never-puts Again (Some (Some (Here g v))) m a e = refl
never-puts Again (Some (Some (Lent g to v))) m a e = refl
never-puts Again (Some (Some (Gone g to))) m a e = refl
never-puts (TakeIt from g v) k m a e = absurd (cc e)
never-puts (CloseIt from g) k m a e = absurd (cc e)
