-- How each public call ends: what is told of it by what is due.
use Rattle.std.proofs.Common.{◌≡◌, ℕ, suc, Bool, true, false, Option, None, Some, refl, sym, ◌∙◌, ap, subst}
use Rattle.std.specs.Prelude.{if◌then◌else◌, ◌==◌}
use Rattle.capability.specs.declared.Uid.{Uid}
use Rattle.eden_value.specs.Datum.{Datum}
use Rattle.passive_store.specs.Seen.{Seen}
use Rattle.move_laws.specs.Wander.{Record, Here, Lent, Gone, Letter, Take}
use Rattle.move_laws.specs.World.{Node, Ended, Refused, Answered, Call, Due, Refuses, Gives, Puts, Mind, Forgotten, Same, Learnt}
use Rattle.move_laws.specs.World.{Acted, Declined, TooLong, NoRoom, NoMemory, Given, Cut, Done, Carried, Starved, Unsettled, Unread, Behind}
use Rattle.move_laws.specs.World.{Make, Wake, Save, Lend, Again, TakeIt, CloseIt, save_by, lend_by, wake_by, again_by, take_by, close_by}
use Rattle.move_laws.specs.World.{settled_by, due, due_by, needing_here, GenerationsSpent, OutOfMemory}
use Rattle.move_laws.proofs.Hops.{own-uid}
use Rattle.eden_move.specs.declared.letter.Letter.{Letter as CodedLetter}
use Rattle.eden_move.specs.declared.due.Answer.{Answer}
use Rattle.eden_move.specs.declared.due.Answer.TheVariants.{Nothing as NoAnswer, Shown, Sent}
use Rattle.eden_move.specs.Records.{is_long}
use Rattle.eden_move.specs.Minds.{Remembered, value_known, mind_by}
use Rattle.eden_move.specs.Calls.{IsShown, IsQuiet, IsKnownBy, post_of, seen_letter}
use Rattle.eden_move.specs.Shown.{Shows, Went}

-- 1. What is due

-- how a call ends that is not refused: whether it put a record, and what it answers
abbrev pub Ends : Call Datum → Bool → Option (Letter Datum) → Type 0
Ends (Make v) put post = (put ≡ true) × (post ≡ None)
Ends Wake put post = (put ≡ false) × (post ≡ None)
Ends (Save v) put post = (put ≡ true) × (post ≡ None)
Ends (Lend to) put post = put ≡ true
Ends Again put post = put ≡ false
Ends (TakeIt from g v) put post = Unit {0}
Ends (CloseIt from g) put post = post ≡ None

-- what is due that is not refused ends so
abbrev EndsDue : (Bool → Option (Letter Datum) → Type 0) → Due Datum → Type 0
EndsDue P (Refuses r) = Unit {0}
EndsDue P (Gives m post) = P false post
EndsDue P (Puts r m post) = P true post

needed-ends : (P : Bool → Option (Letter Datum) → Type 0) (k : Option (Option (Record Datum))) (o : Option (ℕ × Datum))
    (f : ℕ → Datum → Due Datum) → ((g : ℕ) (v : Datum) → EndsDue P (f g v)) → EndsDue P (needing_here k o f)
needed-ends P None o f each = tt
needed-ends P (Some k) (Some m) f each = each m.0 m.1
needed-ends P (Some None) None f each = tt
needed-ends P (Some (Some (Here g v))) None f each = each g v
needed-ends P (Some (Some (Lent g to v))) None f each = tt
needed-ends P (Some (Some (Gone g to))) None f each = tt

save-ends : (v : Datum) (a : Bool) (g : ℕ) (w : Datum) → EndsDue (Ends (Save v)) (save_by v a g w)
save-ends v true g w = (refl, refl)
save-ends v false g w = tt

lend-ends : (to g : ℕ) (v : Datum) → EndsDue (Ends (Lend to)) (lend_by to g v)
lend-ends to g v = go (g == 4294967295)
  where
    go : (b : Bool) → EndsDue (Ends (Lend to))
        (if b then Refuses GenerationsSpent else Puts (Lent (suc g) to v) Forgotten (Some (Take to (suc g) v)))
    go true = tt
    go false = refl

again-ends : (k : Option (Option (Record Datum))) → EndsDue (Ends Again) (again_by k)
again-ends None = tt
again-ends (Some None) = tt
again-ends (Some (Some (Here g v))) = tt
again-ends (Some (Some (Lent g to v))) = refl
again-ends (Some (Some (Gone g to))) = tt

take-ends : (from g : ℕ) (v : Datum) (d : Due Datum) → EndsDue (Ends (TakeIt from g v)) d
take-ends from g v (Refuses r) = tt
take-ends from g v (Gives m post) = tt
take-ends from g v (Puts r m post) = tt

close-ends : (from g : ℕ) (k : Option (Option (Record Datum))) → EndsDue (Ends (CloseIt from g)) (close_by g k)
close-ends from g None = refl
close-ends from g (Some None) = tt
close-ends from g (Some (Some (Here h v))) = refl
close-ends from g (Some (Some (Lent h to v))) = go (h == g)
  where
    go : (b : Bool) → EndsDue (Ends (CloseIt from g)) (if b then Puts (Gone h to) Forgotten None else Gives Same None)
    go true = refl
    go false = refl
close-ends from g (Some (Some (Gone h to))) = refl

due-ends : (c : Call Datum) (k : Option (Option (Record Datum))) (o : Option (ℕ × Datum)) (a : Bool) → EndsDue (Ends c) (due_by c k o a)
due-ends (Make v) None o a = (refl, refl)
due-ends (Make v) (Some k) o a = tt
due-ends Wake k o a = needed-ends (Ends Wake) k None wake_by (λ g v. (refl, refl))
due-ends (Save v) k o a = needed-ends (Ends (Save v)) k o (save_by v a) (λ g w. save-ends v a g w)
due-ends (Lend to) k o a = needed-ends (Ends (Lend to)) k o (lend_by to) (λ g v. lend-ends to g v)
due-ends Again k o a = again-ends k
due-ends (TakeIt from g v) k o a = take-ends from g v (take_by from g v k)
due-ends (CloseIt from g) k o a = close-ends from g k

-- 2. A whole call

-- this holds of how a call ended, where it was not refused
abbrev IfAnswered : (Bool → Option (Letter Datum) → Type 0) → Ended Datum → Type 0
IfAnswered P (Refused r) = Unit {0}
IfAnswered P (Answered put post) = P put post

acted-ends : (P : Bool → Option (Letter Datum) → Type 0) (u : Uid) (d : Due Datum) (s : Node Datum) (how : Ended Datum) (y : Node Datum)
    → EndsDue P d → Acted is_long u d s how y → IfAnswered P how
acted-ends P u d s how y ends (Declined r is end at) = subst (IfAnswered P) (sym end) tt
acted-ends P u d s how y ends (TooLong r m post is long end at) = subst (IfAnswered P) (sym end) tt
acted-ends P u d s how y ends (NoRoom r m post is short end at) = subst (IfAnswered P) (sym end) tt
acted-ends P u d s how y ends (NoMemory end at) = subst (IfAnswered P) (sym end) tt
acted-ends P u d s how y ends (Given m post is end at) = subst (IfAnswered P) (sym end) (subst (EndsDue P) is ends)
acted-ends P u d s how y ends (Cut e r m post is short end at) = subst (IfAnswered P) (sym end) tt
acted-ends P u d s how y ends (Done r m post is short end at) = subst (IfAnswered P) (sym end) (subst (EndsDue P) is ends)

carried-ends : (u : Uid) (c : Call Datum) (x : Node Datum) (how : Ended Datum) (y : Node Datum) → Carried is_long u c x how y
    → IfAnswered (Ends c) how
carried-ends u c x how y (Starved end at) = subst (IfAnswered (Ends c)) (sym end) tt
carried-ends u c x how y (Unsettled e doubt end at) = subst (IfAnswered (Ends c)) (sym end) tt
carried-ends u c x how y (Unread p settles e some reads end at) = subst (IfAnswered (Ends c)) (sym end) tt
carried-ends u c x how y (Behind p settles acted) = let z = settled_by p x in
    acted-ends (Ends c) u (due u c z) z how y (due-ends c (z.kept u) (z.memory u) (z.active u)) acted

-- how it ended is told otherwise
went-as : (u : Uid) (c : Call Datum) (x : Node Datum) (put q : Bool) (post r : Option (Letter Datum)) (s : Seen)
    (m : Uid → Option Remembered) → put ≡ q → post ≡ r → Went u c x (Answered put post) s m → Went u c x (Answered q r) s m
went-as u c x put q post r s m same too w =
    subst (λ q. Went u c x (Answered q r) s m) same (subst (λ r. Went u c x (Answered put r) s m) too w)

-- a call that ends in one way and answers nothing
pub silent-went : (u : Uid) (c : Call Datum) (x : Node Datum) (put q : Bool) (post : Option (Letter Datum)) (s : Seen)
    (m : Uid → Option Remembered) → (Ends c put post → (put ≡ q) × (post ≡ None)) → Went u c x (Answered put post) s m
    → Went u c x (Answered q None) s m
silent-went u c x put q post s m one w =
    let e = one (carried-ends u c x (Answered put post) w.0 w.1) in went-as u c x put q post None s m e.0 e.1 w

-- one that ends in one way and answers a letter
pub sent-went : (u : Uid) (c : Call Datum) (x : Node Datum) (put q : Bool) (post : Option (Letter Datum)) (s : Seen)
    (m : Uid → Option Remembered) → (Ends c put post → put ≡ q) → Went u c x (Answered put post) s m
    → Went u c x (Answered q post) s m
sent-went u c x put q post s m one w =
    went-as u c x put q post post s m (one (carried-ends u c x (Answered put post) w.0 w.1)) refl w

-- the letter that it answers
pub sent-from : (u : Uid) (c : Call Datum) (x : Node Datum) (put q : Bool) (a : Answer) (l : CodedLetter) (s : Seen)
    (m : Uid → Option Remembered) → ((post : Option (Letter Datum)) → Ends c put post → put ≡ q) → a ≡ Sent l
    → Went u c x (Answered put (post_of a)) s m → Went u c x (Answered q (Some (seen_letter l))) s m
sent-from u c x put q a l s m one is w = subst (λ a. Went u c x (Answered q (post_of a)) s m) is
    (sent-went u c x put q (post_of a) s m (one (post_of a)) w)

-- one that answers nothing, whether it put a record or not
pub closed-went : (u : Uid) (from g : ℕ) (x : Node Datum) (put : Bool) (post : Option (Letter Datum)) (s : Seen)
    (m : Uid → Option Remembered) → Went u (CloseIt from g) x (Answered put post) s m → Went u (CloseIt from g) x (Answered put None) s m
closed-went u from g x put post s m w = went-as u (CloseIt from g) x put put post None s m refl
    (carried-ends u (CloseIt from g) x (Answered put post) w.0 w.1) w

-- memory was wanting before anything was done
pub starved-went : (u : Uid) (c : Call Datum) (x : Node Datum) (s : Seen) (m : Uid → Option Remembered) → Shows s m x
    → Went u c x (Refused OutOfMemory) s m
starved-went u c x s m z = (x, Starved refl refl, z)

-- 3. What is shown

-- a value that was shown is known from then on
pub shown-known : (u : Uid) (b : Mind Datum) (a : Answer) (m n : Uid → Option Remembered) → IsShown b a
    → ((q : Uid) → n q ≡ mind_by b u m q) → IsKnownBy (n u) a
shown-known u b NoAnswer m n is learns = tt
shown-known u b (Sent l) m n is learns = tt
shown-known u (Learnt on g w) (Shown v) m n is learns = ap value_known (learns u)
    ∙ ap (λ t. value_known (if t then Some (record { generation = g; value = w; active = on }) else m u)) (own-uid u)
    ∙ ap Some (sym is)
shown-known u Forgotten (Shown v) m n is learns = absurd is
shown-known u Same (Shown v) m n is learns = absurd is

-- what is quiet shows none
pub quiet-known : (a : Answer) (o : Option Remembered) → IsQuiet a → IsKnownBy o a
quiet-known NoAnswer o is = tt
quiet-known (Sent l) o is = tt
quiet-known (Shown v) o is = absurd is
