-- The text of a history: the lines of each event, in each mode.
use Rattle.std.specs.Prelude.{ℕ, ◌+◌, ◌-◌, ◌==◌, Bool, true, false, cond, List, [], ◌∷◌, ◌++◌, length, Option, None, Some, codes}
use Rattle.std.specs.List.{flat_map}
use Rattle.std.specs.Fmt.{decimal}
use Rattle.capability.specs.declared.Uid.{Uid}
use Rattle.eden_value.specs.Datum.{Datum}
use Rattle.eden_value.specs.Printed.{printed_uid, printed_row}
use Rattle.eden_value.specs.Status.{status_number, status_word}
use Rattle.eden_value.specs.declared.status.Status.{Status}
use Rattle.eden_value.specs.declared.status.Status.TheVariants as status
use Rattle.eden_disk.specs.declared.disk.ImageMode.{ImageMode}
use Rattle.eden_disk.specs.declared.disk.ImageMode.TheVariants as image
use Rattle.eden_disk.specs.declared.disk.Arm.{Arm}
use Rattle.eden_disk.specs.declared.disk.Arm.TheVariants as arm
use Rattle.passive_store.specs.declared.store.Pick.{Pick}
use Rattle.passive_store.specs.declared.store.Pick.TheVariants as pick
use Rattle.epl_syntax.specs.declared.effect.FaultCause.{FaultCause}
use Rattle.epl_syntax.specs.declared.effect.FaultCause.TheVariants as fault
use Rattle.journal.specs.declared.event.Mode.{Mode}
use Rattle.journal.specs.declared.event.Mode.TheVariants as mode
use Rattle.journal.specs.declared.event.Shown.{Shown}
use Rattle.journal.specs.declared.event.Shown.TheVariants as shown
use Rattle.journal.specs.declared.event.BootEnd.{BootEnd}
use Rattle.journal.specs.declared.event.BootEnd.TheVariants as boot_end
use Rattle.journal.specs.declared.event.StartEnd.{StartEnd}
use Rattle.journal.specs.declared.event.StartEnd.TheVariants as start_end
use Rattle.journal.specs.declared.event.RequestEnd.{RequestEnd}
use Rattle.journal.specs.declared.event.RequestEnd.TheVariants as request_end
use Rattle.journal.specs.declared.event.Event.{Event}
use Rattle.journal.specs.declared.event.Event.TheVariants as event
use Rattle.journal.specs.declared.event.Entry.{Entry}
use Rattle.journal.specs.Step.{key_of}

-- 1. Words

-- the bytes of a name, a word or a line
abbrev pub Text : Type 0
Text = List ℕ

-- a blank and a number
abbrev pub num : ℕ → Text
num n = codes " " ++ decimal n

-- how an activation ended
abbrev pub start_word : StartEnd → Text
start_word start_end.Ok = codes "ok"
start_word start_end.Gone = codes "gone"
start_word start_end.Fault = codes "fault"
start_word start_end.Damaged = codes "damaged"
start_word start_end.Stop = codes "stop"

-- how a turn of the store ended for its first request
abbrev pub request_word : RequestEnd → Text
request_word request_end.Part = codes "part"
request_word request_end.Done = codes "done"
request_word request_end.Fault = codes "fault"
request_word request_end.Full = codes "full"
request_word request_end.Stop = codes "stop"

-- why a process faulted
abbrev pub fault_word : FaultCause → Text
fault_word fault.Overflow = codes "overflow"
fault_word fault.ZeroDivisor = codes "zero divisor"
fault_word fault.BadIndex = codes "bad index"
fault_word fault.BadKind = codes "bad kind"
fault_word fault.TooLong = codes "too long"
fault_word fault.TooDeep = codes "too deep"
fault_word fault.BadMask = codes "bad mask"
fault_word fault.NoCapability = codes "no capability"
fault_word fault.NoReturn = codes "no return"
fault_word fault.Budget = codes "budget"

-- how a boot ended; where the disk is damaged, also from which byte on
abbrev pub boot_word : BootEnd → Text
boot_word boot_end.Up = codes "up"
boot_word boot_end.DiskFault = codes "disk fault"
boot_word boot_end.Stop = codes "stop"
boot_word (boot_end.Damaged place) = codes "damaged" ++ num place
boot_word boot_end.EpochsSpent = codes "epochs spent"
boot_word boot_end.Full = codes "full"

-- what a process's turn came to, with its call, uid or status where it has one; the cause of a fault has its own line
abbrev pub shown_word : Shown → Text
shown_word (shown.Invoke k) = codes "invoke" ++ num k
shown_word (shown.Return k) = codes "return" ++ num k
shown_word shown.Checkpoint = codes "checkpoint"
shown_word shown.Deactivate = codes "deactivate"
shown_word shown.Destroy = codes "destroy"
shown_word (shown.Created u) = codes "create " ++ printed_uid u
shown_word (shown.Refused s) = codes "create refused" ++ num (status_number s)
shown_word shown.Lock = codes "lock"
shown_word shown.Leave = codes "leave"
shown_word shown.Wait = codes "wait"
shown_word shown.Signal = codes "signal"
shown_word shown.Yield = codes "yield"
shown_word shown.End = codes "end"
shown_word (shown.Fault cause) = codes "fault"

-- what is left at unsynced places; of `garble` also the byte
abbrev pub image_word : ImageMode → Text
image_word image.Keep = codes "keep"
image_word image.Lose = codes "lose"
image_word (image.Garble b) = codes "garble" ++ num b

-- what a settling picked; `-` where nothing was picked
abbrev pub pick_word : Option Pick → Text
pick_word None = codes "-"
pick_word (Some pick.Old) = codes "old"
pick_word (Some pick.New) = codes "new"

-- 2. The line that only a trace has of an event, if it has one; it begins with `+ `

-- `+ join 1 2`, `+ cut 1 2`: the two stations of a link
abbrev pub link_text : ℕ → ℕ → Bool → Text
link_text a b true = codes "+ join" ++ num a ++ num b ++ codes "\n"
link_text a b false = codes "+ cut" ++ num a ++ num b ++ codes "\n"

-- `+ fail 1 4`, `+ stop 1 4 lose`: the node, how many device calls later, and what a stop leaves
abbrev pub armed_text : ℕ → Arm → Text
armed_text n (arm.Fail k) = codes "+ fail" ++ num n ++ num k ++ codes "\n"
armed_text n (arm.Stop k m) = codes "+ stop" ++ num n ++ num k ++ codes " " ++ image_word m ++ codes "\n"

-- `+ hold c`, `+ restrict c`: the name that was bound
abbrev pub bound_text : Text → Bool → Text
bound_text name true = codes "+ hold " ++ name ++ codes "\n"
bound_text name false = codes "+ restrict " ++ name ++ codes "\n"

-- `+ request 1 0 1`: the call, and from which station to which; with `refused 4` where the target refused it
abbrev pub request_text : ℕ → ℕ → ℕ → Option Status → Text
request_text k a b None = codes "+ request" ++ num k ++ num a ++ num b ++ codes "\n"
request_text k a b (Some s) = codes "+ request" ++ num k ++ num a ++ num b ++ codes " refused" ++ num (status_number s) ++ codes "\n"

-- `+ activate 1.1.1 ok`: the Eject, and how its activation ended
abbrev pub activate_text : Uid → StartEnd → Text
activate_text u how = codes "+ activate " ++ printed_uid u ++ codes " " ++ start_word how ++ codes "\n"

-- `+ store 1.1.1 15 done`: the Eject, the disk's clock, and how the turn ended
abbrev pub store_text : Uid → ℕ → RequestEnd → Text
store_text u c how = codes "+ store " ++ printed_uid u ++ num c ++ codes " " ++ request_word how ++ codes "\n"

-- `+ call 1 a`: the number and the name of a call of the shell
abbrev pub call_text : ℕ → Text → Text
call_text k name = codes "+ call" ++ num k ++ codes " " ++ name ++ codes "\n"

-- `+ reply 1 1 0`: the call that was replied to, and from which station to which
abbrev pub delivered_text : ℕ → ℕ → ℕ → Text
delivered_text k a b = codes "+ reply" ++ num k ++ num a ++ num b ++ codes "\n"

-- `+ start 1 1.1.1 1`: the call, the Eject, and the process that serves it
abbrev pub start_text : ℕ → Uid → ℕ → Text
start_text k u p = codes "+ start" ++ num k ++ codes " " ++ printed_uid u ++ num p ++ codes "\n"

-- `+ process 1.1.1 1 return 1`: the Eject, the process, and what its turn came to
abbrev pub process_text : Uid → ℕ → Shown → Text
process_text u p said = codes "+ process " ++ printed_uid u ++ num p ++ codes " " ++ shown_word said ++ codes "\n"

-- the line of an event that only a trace has; nothing where there is none
unfoldable pub trace_text : Event → Text
trace_text (event.Link a b joined) = link_text a b joined
trace_text (event.Armed n what) = armed_text n what
trace_text (event.Bound name held) = bound_text name held
trace_text (event.Asked k name at_once) = call_text k name
trace_text (event.Request k a b refused) = request_text k a b refused
trace_text (event.Reply k a b name s results) = delivered_text k a b
-- a turn that ends in a stop has the line of its node in place of its own
trace_text (event.Activate u start_end.Stop p) = []
trace_text (event.Activate u how p) = activate_text u how
trace_text (event.Start k u p) = start_text k u p
trace_text (event.Process u p said) = process_text u p said
trace_text (event.Store u c request_end.Stop p) = []
trace_text (event.Store u c how p) = store_text u c how
trace_text _ = []

-- 3. The lines that every mode but the summary has of an event

-- `a refused 4 gone`: what was refused, and the status by number and word
abbrev pub refused_text : Text → Status → Text
refused_text name s = name ++ codes " refused" ++ num (status_number s) ++ codes " " ++ status_word s ++ codes "\n"

-- `node 1 down stop`: the node, and why it is down
abbrev pub down_text : ℕ → Text → Text
down_text n why = codes "node" ++ num n ++ codes " down " ++ why ++ codes "\n"

-- `node 1 up epoch 1`, `node 1 down damaged 0`: the node, and how its boot ended
abbrev pub boot_text : ℕ → ℕ → BootEnd → Text
boot_text n e boot_end.Up = codes "node" ++ num n ++ codes " up epoch" ++ num e ++ codes "\n"
boot_text n e how = down_text n (boot_word how)

-- `node 1 is up`, `node 1 is down`: a command found it so and did nothing
abbrev pub still_text : ℕ → Bool → Text
still_text n true = codes "node" ++ num n ++ codes " is up\n"
still_text n false = codes "node" ++ num n ++ codes " is down\n"

-- `c is 1.1.1`: the Eject that the shell created; or the refusal, where there is none
abbrev pub made_text : Text → Status → Option Uid → Text
made_text name s (Some u) = name ++ codes " is " ++ printed_uid u ++ codes "\n"
made_text name s None = refused_text name s

-- the refusal of a call as it was sent; nothing where it was not refused then
abbrev pub at_once_text : Text → Option Status → Text
at_once_text name None = []
at_once_text name (Some s) = refused_text name s

-- `a ok (5)`: the results of a call of the shell; or its refusal
abbrev pub answer_text : Text → Status → List Datum → Text
answer_text name status.Ok results = name ++ codes " ok (" ++ printed_row results ++ codes ")\n"
answer_text name s results = refused_text name s

-- what a reply says of a call of the shell; nothing where it goes to a process
abbrev pub reply_text : Option Text → Status → List Datum → Text
reply_text None s results = []
reply_text (Some name) s results = answer_text name s results

-- `eject 1.1.1 fault budget`: the Eject whose process faulted, and the cause; nothing for other turns
abbrev pub fault_text : Uid → Shown → Text
fault_text u (shown.Fault cause) = codes "eject " ++ printed_uid u ++ codes " fault " ++ fault_word cause ++ codes "\n"
fault_text u _ = []

-- `open a`: a line for each name of an open call
abbrev pub open_text : List Text → Text
open_text [] = []
open_text (name ∷ names) = codes "open " ++ name ++ codes "\n" ++ open_text names

-- the lines of an event in every mode but the summary; there may be none
unfoldable pub shown_text : Event → Text
shown_text (event.Boot n e how p began) = boot_text n e how
shown_text (event.Crash n) = down_text n (codes "crash")
shown_text (event.Still n up) = still_text n up
shown_text (event.Made name s u) = made_text name s u
shown_text (event.Void name) = name ++ codes " void\n"
shown_text (event.Asked k name at_once) = at_once_text name at_once
shown_text (event.Reply k a b name s results) = reply_text name s results
shown_text (event.Activate u start_end.Stop p) = down_text u.node (codes "stop")
shown_text (event.Process u p said) = fault_text u said
shown_text (event.Store u c request_end.Stop p) = down_text u.node (codes "stop")
shown_text event.Quiet = codes "quiet\n"
shown_text event.Spent = codes "spent\n"
shown_text (event.Left names) = open_text names
shown_text _ = []

-- `a refused 6 broken`: a call of the shell that the event answered so
abbrev pub broken_line : Text → Text
broken_line name = name ++ codes " refused 6 broken\n"

-- such a line for each of these names, in their order
abbrev pub broken_text : List Text → Text
broken_text [] = []
broken_text (name ∷ names) = broken_line name ++ broken_text names

-- 4. The clock of the disk that the event touched, what a settling picked, and whether a boot began to put an epoch

-- what a settling picked in a boot, an activation or a turn of the store; none elsewhere
abbrev pub pick_of : Event → Option Pick
pick_of (event.Boot n e how p began) = p
pick_of (event.Activate u how p) = p
pick_of (event.Store u c how p) = p
pick_of _ = None

-- `yes` or `no` of a boot, `-` of other events
abbrev pub began_word : Event → Text
began_word (event.Boot n e how p true) = codes "yes"
began_word (event.Boot n e how p false) = codes "no"
began_word _ = codes "-"

-- `+ disk 1 15 - -`: the node, its disk's clock, the pick, and whether an epoch was begun
abbrev pub clock_text : ℕ → ℕ → Event → Text
clock_text n c e = codes "+ disk" ++ num n ++ num c ++ codes " " ++ pick_word (pick_of e) ++ codes " " ++ began_word e ++ codes "\n"

-- the line of the disk that the entry touched; nothing where it touched none
abbrev pub disk_text : Entry → Text
disk_text e = cond (e.node == 0) [] (clock_text e.node e.clock e.event)

-- 5. An entry

-- its lines in a mode; none in the summary, where only the whole history has a line
unfoldable pub entry_text : Mode → Entry → Text
entry_text mode.Plain e = shown_text e.event ++ broken_text e.broken
entry_text mode.Trace e = trace_text e.event ++ shown_text e.event ++ broken_text e.broken
entry_text mode.Full e = trace_text e.event ++ shown_text e.event ++ broken_text e.broken ++ disk_text e
entry_text mode.Summary e = []

-- 6. A history

-- one where the event asks a call of the shell, else none
abbrev pub calls_in : Event → ℕ
calls_in (event.Asked k name at_once) = 1
calls_in _ = 0

-- one where it is an `ok` reply to the shell
abbrev pub ok_in : Event → ℕ
ok_in (event.Reply k a b (Some name) status.Ok results) = 1
ok_in _ = 0

-- one where it is another reply to the shell, or asks a call that is refused as it is sent
abbrev pub refused_in : Event → ℕ
refused_in (event.Reply k a b (Some name) status.Ok results) = 0
refused_in (event.Reply k a b (Some name) s results) = 1
refused_in (event.Asked k name (Some s)) = 1
refused_in _ = 0

-- 1 for an item, 0 for none
abbrev pub one_if_some : {T : Type 0} → Option T → ℕ
one_if_some None = 0
one_if_some (Some x) = 1

-- one where it is a turn, and so has a key
abbrev pub turns_in : Event → ℕ
turns_in e = one_if_some (key_of e)

-- the sum of a count over all entries
abbrev pub counted_by : (Entry → ℕ) → List Entry → ℕ
counted_by f [] = 0
counted_by f (e ∷ es) = f e + counted_by f es

-- the calls that the shell asked in all entries
abbrev pub calls_of : List Entry → ℕ
calls_of h = counted_by (λ e. calls_in e.event) h

-- those of them that were answered `ok`
abbrev pub ok_of : List Entry → ℕ
ok_of h = counted_by (λ e. ok_in e.event) h

-- those that were refused: by a reply, as they were sent, or as broken
abbrev pub refused_of : List Entry → ℕ
refused_of h = counted_by (λ e. refused_in e.event + length e.broken) h

-- the turns that were taken, of all kinds
abbrev pub turns_of : List Entry → ℕ
turns_of h = counted_by (λ e. turns_in e.event) h

-- the shell's calls, those answered `ok`, those refused, those open, and all turns
abbrev pub counts_text : ℕ → ℕ → ℕ → ℕ → Text
counts_text calls ok refused turns = codes "calls" ++ num calls ++ codes " ok" ++ num ok ++ codes " refused" ++ num refused
    ++ codes " open" ++ num (calls - (ok + refused)) ++ codes " turns" ++ num turns ++ codes "\n"

-- the one line that the mode Summary has of a history
abbrev pub summary_text : List Entry → Text
summary_text h = counts_text (calls_of h) (ok_of h) (refused_of h) (turns_of h)

-- the text of a history in a mode: the summary's one line, or the lines of each entry, one behind the other
abbrev pub text_of : Mode → List Entry → Text
text_of mode.Summary h = summary_text h
text_of m h = flat_map (entry_text m) h
