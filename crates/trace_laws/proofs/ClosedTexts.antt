-- Texts of entries are whole lines.
use Rattle.std.proofs.Common.{◌≡◌, ◌==◌, ℕ, List, [], ◌∷◌, ◌++◌, Option, None, Some, refl, ap, sym, subst, ◌∙◌, Bool, true, false, cond}
use Rattle.std.specs.Prelude.{codes}
use Rattle.eden_disk.specs.declared.disk.Arm.{Arm}
use Rattle.eden_disk.specs.declared.disk.Arm.TheVariants as arm
use Rattle.eden_value.specs.Datum.{Datum}
use Rattle.eden_value.specs.declared.status.Status.{Status}
use Rattle.eden_value.specs.declared.status.Status.TheVariants as status
use Rattle.journal.specs.declared.event.Event.{Event}
use Rattle.journal.specs.declared.event.Event.TheVariants as event
use Rattle.journal.specs.declared.event.Entry.{Entry}
use Rattle.journal.specs.declared.event.Mode.TheVariants.{Full}
use Rattle.journal.specs.declared.event.Shown.{Shown}
use Rattle.journal.specs.declared.event.Shown.TheVariants as shown
use Rattle.journal.specs.declared.event.BootEnd.{BootEnd}
use Rattle.journal.specs.declared.event.BootEnd.TheVariants as boot_end
use Rattle.journal.specs.declared.event.StartEnd.TheVariants as start_end
use Rattle.journal.specs.declared.event.RequestEnd.TheVariants as request_end
use Rattle.capability.specs.declared.Uid.{Uid}
use Rattle.journal.specs.Lines.{entry_text, trace_text, shown_text, broken_text, disk_text, open_text, text_of, fault_text, link_text}
use Rattle.journal.specs.Lines.{armed_text, bound_text, request_text}
use Rattle.eden_value.specs.Printed.{printed_uid, printed_row}
use Rattle.eden_value.specs.Status.{status_number, status_word}
use Rattle.journal.specs.declared.event.StartEnd.{StartEnd}
use Rattle.journal.specs.declared.event.RequestEnd.{RequestEnd}
use Rattle.journal.specs.Lines.{num, down_text, boot_word, start_word, request_word, fault_word, shown_word, image_word, pick_word, pick_of}
use Rattle.journal.specs.Lines.{began_word, clock_text, activate_text, store_text}
use Rattle.journal.specs.Lines.{boot_text, made_text, at_once_text, reply_text, answer_text, refused_text, still_text}
use Rattle.journal.specs.Run.{joined_to}
use Rattle.trace_laws.specs.Verdict.{lines_of}

-- 1. Whole lines

-- a text is empty or ends in a line feed
abbrev pub IsClosed : List ℕ → Type 0
IsClosed [] = Unit {0}
IsClosed (b ∷ []) = b ≡ 10
IsClosed (b ∷ c ∷ cs) = IsClosed (c ∷ cs)

some-lines : (b : ℕ) (bs : List ℕ) → (l : List ℕ) × (ls : List (List ℕ)) × (lines_of (b ∷ bs) ≡ l ∷ ls)
some-lines b bs = go (b == 10) (lines_of bs)
  where
    go : (t : Bool) (ms : List (List ℕ)) → (l : List ℕ) × (ls : List (List ℕ)) × (cond t ((b ∷ []) ∷ ms) (joined_to b ms) ≡ l ∷ ls)
    go true ms = (b ∷ [], ms, refl)
    go false [] = (b ∷ [], [], refl)
    go false (m ∷ ms) = (b ∷ m, ms, refl)

joined-append : (b : ℕ) (l : List ℕ) (ls ms : List (List ℕ)) → joined_to b ((l ∷ ls) ++ ms) ≡ joined_to b (l ∷ ls) ++ ms
joined-append b l ls ms = refl

-- behind whole lines the lines go on
pub lines-append : (a b : List ℕ) → IsClosed a → lines_of (a ++ b) ≡ lines_of a ++ lines_of b
lines-append [] b h = refl
lines-append (x ∷ []) b h = subst (λ y. lines_of (y ∷ b) ≡ lines_of (y ∷ []) ++ lines_of b) (sym h) refl
lines-append (x ∷ y ∷ ys) b h = let tail = lines-append (y ∷ ys) b h in let some = some-lines y ys in
    go (x == 10) (lines_of (y ∷ ys)) some.0 some.1 some.2 (lines_of (y ∷ (ys ++ b))) tail
  where
    go : (t : Bool) (ls : List (List ℕ)) (l : List ℕ) (more : List (List ℕ)) → ls ≡ l ∷ more → (all : List (List ℕ))
        → all ≡ ls ++ lines_of b → cond t ((x ∷ []) ∷ all) (joined_to x all) ≡ cond t ((x ∷ []) ∷ ls) (joined_to x ls) ++ lines_of b
    go true ls l more is all e = ap (λ z. (x ∷ []) ∷ z) e
    go false ls l more is all e = ap (joined_to x) e
        ∙ subst (λ z. joined_to x (z ++ lines_of b) ≡ joined_to x z ++ lines_of b) (sym is) (joined-append x l more (lines_of b))

pub closed-line : (x : List ℕ) → IsClosed (x ++ (10 ∷ []))
closed-line [] = refl
closed-line (a ∷ []) = refl
closed-line (a ∷ b ∷ bs) = closed-line (b ∷ bs)

-- whatever stands before a line feed
pub closed-behind : (a : List ℕ) (b : ℕ) (bs : List ℕ) → IsClosed (b ∷ bs) → IsClosed (a ++ (b ∷ bs))
closed-behind [] b bs h = h
closed-behind (x ∷ []) b bs h = h
closed-behind (x ∷ y ∷ ys) b bs h = closed-behind (y ∷ ys) b bs h

pub closed-append : (a b : List ℕ) → IsClosed a → IsClosed b → IsClosed (a ++ b)
closed-append [] b h g = g
closed-append (x ∷ []) [] h g = h
closed-append (x ∷ []) (b ∷ bs) h g = g
closed-append (x ∷ y ∷ ys) b h g = closed-append (y ∷ ys) b h g

-- 2. The parts of an entry

closed-refused : (name : List ℕ) (s : Status) → IsClosed (refused_text name s)
closed-refused name s = closed-line (name ++ codes " refused" ++ num (status_number s) ++ codes " " ++ status_word s)

closed-answer : (name : List ℕ) (s : Status) (values : List Datum) → IsClosed (answer_text name s values)
closed-answer name status.Ok values = closed-behind (name ++ codes " ok (" ++ printed_row values) 41 (10 ∷ []) refl
closed-answer name status.NoRight values = closed-refused name status.NoRight
closed-answer name status.NoOperation values = closed-refused name status.NoOperation
closed-answer name status.BadArguments values = closed-refused name status.BadArguments
closed-answer name status.Gone values = closed-refused name status.Gone
closed-answer name status.Unreachable values = closed-refused name status.Unreachable
closed-answer name status.Broken values = closed-refused name status.Broken
closed-answer name status.StoreFault values = closed-refused name status.StoreFault
closed-answer name status.Damaged values = closed-refused name status.Damaged
closed-answer name status.Dropped values = closed-refused name status.Dropped
closed-answer name status.Busy values = closed-refused name status.Busy
closed-answer name status.TooLarge values = closed-refused name status.TooLarge
closed-answer name status.Full values = closed-refused name status.Full
closed-answer name status.TooMany values = closed-refused name status.TooMany
closed-answer name status.SerialsSpent values = closed-refused name status.SerialsSpent

closed-down : (n : ℕ) (why : List ℕ) → IsClosed (down_text n why)
closed-down n why = closed-line (codes "node" ++ num n ++ codes " down " ++ why)

closed-boot : (n e : ℕ) (how : BootEnd) → IsClosed (boot_text n e how)
closed-boot n e boot_end.Up = closed-line (codes "node" ++ num n ++ codes " up epoch" ++ num e)
closed-boot n e boot_end.DiskFault = closed-down n (boot_word boot_end.DiskFault)
closed-boot n e boot_end.Stop = closed-down n (boot_word boot_end.Stop)
closed-boot n e (boot_end.Damaged place) = closed-down n (boot_word (boot_end.Damaged place))
closed-boot n e boot_end.EpochsSpent = closed-down n (boot_word boot_end.EpochsSpent)
closed-boot n e boot_end.Full = closed-down n (boot_word boot_end.Full)

closed-still : (n : ℕ) (up : Bool) → IsClosed (still_text n up)
closed-still n true = closed-behind (codes "node" ++ num n) 32 (codes "is up\n") refl
closed-still n false = closed-behind (codes "node" ++ num n) 32 (codes "is down\n") refl

closed-made : (name : List ℕ) (s : Status) (u : Option Uid) → IsClosed (made_text name s u)
closed-made name s (Some u) = closed-line (name ++ codes " is " ++ printed_uid u)
closed-made name s None = closed-refused name s

closed-at-once : (name : List ℕ) (s : Option Status) → IsClosed (at_once_text name s)
closed-at-once name None = tt
closed-at-once name (Some s) = closed-refused name s

closed-reply : (name : Option (List ℕ)) (s : Status) (values : List Datum) → IsClosed (reply_text name s values)
closed-reply None s values = tt
closed-reply (Some name) s values = closed-answer name s values

closed-fault : (u : Uid) (said : Shown) → IsClosed (fault_text u said)
closed-fault u (shown.Fault cause) = closed-line (codes "eject " ++ printed_uid u ++ codes " fault " ++ fault_word cause)
closed-fault u (shown.Invoke k) = tt
closed-fault u (shown.Return k) = tt
closed-fault u (shown.Created v) = tt
closed-fault u (shown.Refused s) = tt
closed-fault u shown.Checkpoint = tt
closed-fault u shown.Deactivate = tt
closed-fault u shown.Destroy = tt
closed-fault u shown.Lock = tt
closed-fault u shown.Leave = tt
closed-fault u shown.Wait = tt
closed-fault u shown.Signal = tt
closed-fault u shown.Yield = tt
closed-fault u shown.End = tt

closed-open : (names : List (List ℕ)) → IsClosed (open_text names)
closed-open [] = tt
closed-open (name ∷ names) = closed-append (codes "open " ++ name ++ codes "\n") (open_text names) (closed-line (codes "open " ++ name))
    (closed-open names)

closed-broken : (names : List (List ℕ)) → IsClosed (broken_text names)
closed-broken [] = tt
closed-broken (name ∷ names) =
    closed-append (name ++ codes " refused 6 broken\n") (broken_text names) (closed-behind name 32 (codes "refused 6 broken\n") refl)
    (closed-broken names)

closed-request : (k a b : ℕ) (refused : Option Status) → IsClosed (request_text k a b refused)
closed-request k a b None = closed-line (codes "+ request" ++ num k ++ num a ++ num b)
closed-request k a b (Some s) = closed-line (codes "+ request" ++ num k ++ num a ++ num b ++ codes " refused" ++ num (status_number s))

closed-link : (a b : ℕ) (joined : Bool) → IsClosed (link_text a b joined)
closed-link a b true = closed-line (codes "+ join" ++ num a ++ num b)
closed-link a b false = closed-line (codes "+ cut" ++ num a ++ num b)

closed-armed : (n : ℕ) (what : Arm) → IsClosed (armed_text n what)
closed-armed n (arm.Fail k) = closed-line (codes "+ fail" ++ num n ++ num k)
closed-armed n (arm.Stop k m) = closed-line (codes "+ stop" ++ num n ++ num k ++ codes " " ++ image_word m)

closed-bound : (name : List ℕ) (held : Bool) → IsClosed (bound_text name held)
closed-bound name true = closed-line (codes "+ hold " ++ name)
closed-bound name false = closed-line (codes "+ restrict " ++ name)

closed-start : (u : Uid) (how : StartEnd) → IsClosed (activate_text u how)
closed-start u how = closed-line (codes "+ activate " ++ printed_uid u ++ codes " " ++ start_word how)

closed-store : (u : Uid) (c : ℕ) (how : RequestEnd) → IsClosed (store_text u c how)
closed-store u c how = closed-line (codes "+ store " ++ printed_uid u ++ num c ++ codes " " ++ request_word how)

closed-trace : (e : Event) → IsClosed (trace_text e)
unfolding trace_text
closed-trace (event.Link a b joined) = closed-link a b joined
closed-trace (event.Armed n what) = closed-armed n what
closed-trace (event.Bound name held) = closed-bound name held
closed-trace (event.Asked k name at_once) = closed-line (codes "+ call" ++ num k ++ codes " " ++ name)
closed-trace (event.Request k a b refused) = closed-request k a b refused
closed-trace (event.Reply k a b name s results) = closed-line (codes "+ reply" ++ num k ++ num a ++ num b)
closed-trace (event.Activate u start_end.Stop p) = tt
closed-trace (event.Activate u start_end.Ok p) = closed-start u start_end.Ok
closed-trace (event.Activate u start_end.Gone p) = closed-start u start_end.Gone
closed-trace (event.Activate u start_end.Fault p) = closed-start u start_end.Fault
closed-trace (event.Activate u start_end.Damaged p) = closed-start u start_end.Damaged
closed-trace (event.Start k u p) = closed-line (codes "+ start" ++ num k ++ codes " " ++ printed_uid u ++ num p)
closed-trace (event.Process u p said) = closed-line (codes "+ process " ++ printed_uid u ++ num p ++ codes " " ++ shown_word said)
closed-trace (event.Store u c request_end.Stop p) = tt
closed-trace (event.Store u c request_end.Part p) = closed-store u c request_end.Part
closed-trace (event.Store u c request_end.Done p) = closed-store u c request_end.Done
closed-trace (event.Store u c request_end.Fault p) = closed-store u c request_end.Fault
closed-trace (event.Store u c request_end.Full p) = closed-store u c request_end.Full
closed-trace (event.Boot n e how p began) = tt
closed-trace (event.Crash n) = tt
closed-trace (event.Still n up) = tt
closed-trace (event.Made name s u) = tt
closed-trace (event.Void name) = tt
closed-trace event.Quiet = tt
closed-trace event.Spent = tt
closed-trace (event.Left names) = tt

closed-shown : (e : Event) → IsClosed (shown_text e)
unfolding shown_text
closed-shown (event.Boot n e how p began) = closed-boot n e how
closed-shown (event.Crash n) = closed-down n (codes "crash")
closed-shown (event.Still n up) = closed-still n up
closed-shown (event.Made name s u) = closed-made name s u
closed-shown (event.Void name) = closed-behind name 32 (codes "void\n") refl
closed-shown (event.Asked k name at_once) = closed-at-once name at_once
closed-shown (event.Reply k a b name s results) = closed-reply name s results
closed-shown (event.Activate u start_end.Stop p) = closed-down u.node (codes "stop")
closed-shown (event.Activate u start_end.Ok p) = tt
closed-shown (event.Activate u start_end.Gone p) = tt
closed-shown (event.Activate u start_end.Fault p) = tt
closed-shown (event.Activate u start_end.Damaged p) = tt
closed-shown (event.Process u p said) = closed-fault u said
closed-shown (event.Store u c request_end.Stop p) = closed-down u.node (codes "stop")
closed-shown (event.Store u c request_end.Part p) = tt
closed-shown (event.Store u c request_end.Done p) = tt
closed-shown (event.Store u c request_end.Fault p) = tt
closed-shown (event.Store u c request_end.Full p) = tt
closed-shown event.Quiet = refl
closed-shown event.Spent = refl
closed-shown (event.Left names) = closed-open names
closed-shown (event.Link a b joined) = tt
closed-shown (event.Armed n what) = tt
closed-shown (event.Bound name held) = tt
closed-shown (event.Request k a b refused) = tt
closed-shown (event.Start k u p) = tt

closed-disk : (e : Entry) → IsClosed (disk_text e)
closed-disk e = go (e.node == 0)
  where
    go : (t : Bool) → IsClosed (cond t [] (clock_text e.node e.clock e.event))
    go true = tt
    go false = closed-line (codes "+ disk" ++ num e.node ++ num e.clock ++ codes " " ++ pick_word (pick_of e.event) ++ codes " "
        ++ began_word e.event)

-- 3. An entry, and a history

pub closed-entry : (e : Entry) → IsClosed (entry_text Full e)
unfolding entry_text
closed-entry e = closed-append (trace_text e.event ++ shown_text e.event ++ broken_text e.broken) (disk_text e)
    (closed-append (trace_text e.event ++ shown_text e.event) (broken_text e.broken)
    (closed-append (trace_text e.event) (shown_text e.event) (closed-trace e.event) (closed-shown e.event)) (closed-broken e.broken))
    (closed-disk e)

pub closed-history : (h : List Entry) → IsClosed (text_of Full h)
closed-history [] = tt
closed-history (e ∷ es) = closed-append (entry_text Full e) (text_of Full es) (closed-entry e) (closed-history es)

-- the lines of an entry stand in front of those of the later ones
pub lines-entry : (e : Entry) (rest : List ℕ) → lines_of (entry_text Full e ++ rest) ≡ lines_of (entry_text Full e) ++ lines_of rest
lines-entry e rest = lines-append (entry_text Full e) rest (closed-entry e)
