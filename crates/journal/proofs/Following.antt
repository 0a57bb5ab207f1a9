-- Whether a history follows a script, decided by computation: each entry is tested against what is due at its position.
use Rattle.std.proofs.Common.{◌≡◌, ℕ, zero, suc, ◌+◌, ◌==◌, Bool, true, false, cond, List, [], ◌∷◌, Option, None, Some, Result, Ok, Err}
use Rattle.std.proofs.Common.{is_some, refl, sym, ap, ◌∙◌}
use Rattle.std.specs.Prelude.{IsTrue}
use Rattle.capability.specs.declared.Uid.{Uid}
use Rattle.capability.specs.declared.Cap.{Cap}
use Rattle.eden_value.specs.Datum.{Datum}
use Rattle.eden_value.specs.declared.status.Status.{Status}
use Rattle.eden_value.specs.declared.status.Status.TheVariants as status
use Rattle.eden_model.specs.Map.{first}
use Rattle.eden_model.specs.Crew.{Invocation, Process as Worker, Waiting, nothing, least_free}
use Rattle.eden_model.specs.Traffic.{Traffic, Place, asked, answered, call_at, names_of, next_call, next_message, shell_name}
use Rattle.eden_disk.specs.declared.disk.Arm.{Arm}
use Rattle.eden_disk.specs.declared.disk.Arm.TheVariants as arm
use Rattle.eden_disk.specs.declared.disk.ImageMode.{ImageMode}
use Rattle.eden_disk.specs.declared.disk.ImageMode.TheVariants as image
use Rattle.epl_syntax.specs.declared.effect.Effect.{Effect}
use Rattle.epl_syntax.specs.declared.effect.Effect.TheVariants as effect
use Rattle.epl_syntax.specs.declared.effect.FaultCause.{FaultCause}
use Rattle.epl_syntax.specs.declared.effect.FaultCause.TheVariants as cause
use Rattle.epl_syntax.specs.Edentype.{Edentype}
use Rattle.epl_syntax.specs.Meaning.{type_of}
use Rattle.passive_store.specs.declared.store.Pick.{Pick}
use Rattle.journal.specs.declared.command.Command.{Command}
use Rattle.journal.specs.declared.command.Command.TheVariants as command
use Rattle.journal.specs.declared.event.Key.{Key}
use Rattle.journal.specs.declared.event.Event.{Event}
use Rattle.journal.specs.declared.event.Event.TheVariants as event
use Rattle.journal.specs.declared.event.Entry.{Entry}
use Rattle.journal.specs.declared.event.Shown.{Shown}
use Rattle.journal.specs.declared.event.Shown.TheVariants as shown
use Rattle.journal.specs.declared.event.BootEnd.{BootEnd}
use Rattle.journal.specs.declared.event.BootEnd.TheVariants as boot_end
use Rattle.journal.specs.declared.event.StartEnd.{StartEnd}
use Rattle.journal.specs.declared.event.StartEnd.TheVariants as start_end
use Rattle.journal.specs.declared.event.RequestEnd.{RequestEnd}
use Rattle.journal.specs.declared.event.RequestEnd.TheVariants as request_end
use Rattle.journal.specs.World.{World, Node, Eject, Active, Site, StoreRequest, site_at, eject_in, reaches, is_up}
use Rattle.journal.specs.Deliveries.{AllowsRequest, AllowsReply, refusal_at}
use Rattle.journal.specs.Processes.{AllowsStart, AllowsTurn, CreatesKnown, next_start, invocation, turn_of, worker_at, shown_of}
use Rattle.journal.specs.Processes.{refused_at_once}
use Rattle.journal.specs.Settling.{first_request, in_doubt, settled, to_settle}
use Rattle.journal.specs.Stores.{Work, syncs, reads, unkept, without_room, calls, AllowsStore, EndsSo, HasCallLeft, work_of}
use Rattle.journal.specs.Stores.{makes_own_call, calls_needed, most_calls}
use Rattle.journal.specs.Starts.{AllowsActivate, StartsSo, StartsFrom, FailsSettling, start_of, is_worked_on}
use Rattle.journal.specs.Boots.{OpenedNothing, Opened, BeganNothing, BeganNext, ReadsEpoch, OpensStore, Failed, BootsSo, AllowsBoot}
use Rattle.journal.specs.Boots.{epoch_has_room, last_epoch}
use Rattle.journal.specs.Ejects.{stored_epoch}
use Rattle.journal.specs.References.{cap_at}
use Rattle.journal.specs.Commands.{AllowsCommand, AllowsAsked, IsCreation, creation, ready_call, open_names}
use Rattle.journal.specs.Step.{Allows, AllowsEvent, AllowsInTurn, ClockFits, NotBefore, StoreClock, StoreClockFits, breaks, clock_before}
use Rattle.journal.specs.Step.{key_of, one_more, touched}
use Rattle.journal.specs.Enabled.{item, following}
use Rattle.journal.specs.Run.{Due, Position, Follows, Leads, IsDueBy, IsTurn, IdleIf, IsPlain, AllowsLookUp, beginning, end_of, lead}
use Rattle.journal.specs.Run.{lookup_args, idle, taken_key, boots, command_is, turn_is, turns, looks_up, waits_for, over}
use Rattle.journal.proofs.Same.{both, then, either, some-and, if-some, passed, same-number, is-at-most, is-below, is-true, same-bool}
use Rattle.journal.proofs.Same.{same-list, same-option, is-none, is-empty, same-text, same-uid, same-value, same-status}

-- 1. Things that are told apart

abbrev same-key : (a b : Key) → Option (a ≡ b)
same-key a b = then (both (both (same-number a.station b.station) (same-number a.kind b.kind))
    (both (same-number a.sender b.sender) (both (same-uid a.uid b.uid) (same-number a.process b.process))))
    (λ p i. record { station = p.0.0 i; kind = p.0.1 i; sender = p.1.0 i; uid = p.1.1.0 i; process = p.1.1.1 i })

abbrev same-invocation : (a b : Invocation) → Option (a ≡ b)
same-invocation a b = then (both (same-number a.call b.call) (same-number a.class b.class)) (λ p i. record { call = p.0 i; class = p.1 i })

abbrev cause-number : FaultCause → ℕ
cause-number cause.Overflow = 0
cause-number cause.ZeroDivisor = 1
cause-number cause.BadIndex = 2
cause-number cause.BadKind = 3
cause-number cause.TooLong = 4
cause-number cause.TooDeep = 5
cause-number cause.BadMask = 6
cause-number cause.NoCapability = 7
cause-number cause.NoReturn = 8
cause-number cause.Budget = 9

abbrev cause-of : ℕ → FaultCause
cause-of n = cond (n == 1) cause.ZeroDivisor (cond (n == 2) cause.BadIndex (cond (n == 3) cause.BadKind (
    cond (n == 4) cause.TooLong (cond (n == 5) cause.TooDeep (cond (n == 6) cause.BadMask (
    cond (n == 7) cause.NoCapability (cond (n == 8) cause.NoReturn (cond (n == 9) cause.Budget (
    cause.Overflow)))))))))

pub back : (c : FaultCause) → cause-of (cause-number c) ≡ c
back cause.Overflow = refl
back cause.ZeroDivisor = refl
back cause.BadIndex = refl
back cause.BadKind = refl
back cause.TooLong = refl
back cause.TooDeep = refl
back cause.BadMask = refl
back cause.NoCapability = refl
back cause.NoReturn = refl
back cause.Budget = refl

abbrev same-cause : (a b : FaultCause) → Option (a ≡ b)
same-cause a b = then (same-number (cause-number a) (cause-number b)) (λ e. sym (back a) ∙ ap cause-of e ∙ back b)

abbrev same-shown : (a b : Shown) → Option (a ≡ b)
same-shown (shown.Invoke j) (shown.Invoke k) = then (same-number j k) (ap shown.Invoke)
same-shown (shown.Return j) (shown.Return k) = then (same-number j k) (ap shown.Return)
same-shown shown.Checkpoint shown.Checkpoint = Some refl
same-shown shown.Deactivate shown.Deactivate = Some refl
same-shown shown.Destroy shown.Destroy = Some refl
same-shown (shown.Created u) (shown.Created v) = then (same-uid u v) (ap shown.Created)
same-shown (shown.Refused s) (shown.Refused t) = then (same-status s t) (ap shown.Refused)
same-shown shown.Lock shown.Lock = Some refl
same-shown shown.Leave shown.Leave = Some refl
same-shown shown.Wait shown.Wait = Some refl
same-shown shown.Signal shown.Signal = Some refl
same-shown shown.Yield shown.Yield = Some refl
same-shown shown.End shown.End = Some refl
same-shown (shown.Fault a) (shown.Fault b) = then (same-cause a b) (ap shown.Fault)
same-shown _ _ = None

abbrev same-mode : (a b : ImageMode) → Option (a ≡ b)
same-mode image.Keep image.Keep = Some refl
same-mode image.Lose image.Lose = Some refl
same-mode (image.Garble b) (image.Garble c) = then (same-number b c) (ap image.Garble)
same-mode _ _ = None

abbrev same-arm : (a b : Arm) → Option (a ≡ b)
same-arm (arm.Fail j) (arm.Fail k) = then (same-number j k) (ap arm.Fail)
same-arm (arm.Stop j m) (arm.Stop k n) = then (both (same-number j k) (same-mode m n)) (λ p i. arm.Stop (p.0 i) (p.1 i))
same-arm _ _ = None

abbrev is-asked : (p : Place) → Option (p ≡ asked)
is-asked asked = Some refl
is-asked _ = None

abbrev is-answered : (p : Place) (s : Status) (values : List Datum) → Option (p ≡ answered s values)
is-answered (answered t ds) s values = then (both (same-status t s) (same-list same-value ds values)) (λ p i. answered (p.0 i) (p.1 i))
is-answered _ s values = None

abbrev waits-for-nothing : (it : Waiting) → Option (it ≡ nothing)
waits-for-nothing nothing = Some refl
waits-for-nothing _ = None

-- 2. Turns at a node

abbrev a-request : (s : Site) (k a b : ℕ) (refused : Option Status) → Option (AllowsRequest s k a b refused)
a-request s k a b refused = then (both (same-option same-number (next_message s.traffic a b) (Some k))
    (some-and (call_at s.traffic k) (λ c. both (is-asked c.place) (same-option same-status refused (refusal_at s c)))))
    (λ p. record { first_in_queue = p.0; delivered = p.1 })

abbrev a-reply : (t : Traffic) (k a b : ℕ) (name : Option (List ℕ)) (s : Status) (values : List Datum)
    → Option (AllowsReply t k a b name s values)
a-reply t k a b name s values = then (both (same-option same-number (next_message t a b) (Some k))
    (some-and (call_at t k) (λ c. both (is-answered c.place s values) (same-option same-text name (shell_name c.asker)))))
    (λ p. record { first_in_queue = p.0; delivered = p.1 })

abbrev a-start : (t : Traffic) (k p : ℕ) (e : Eject) (it : Active) → Option (AllowsStart t k p e it)
a-start t k p e it =
    then (both (same-option same-invocation (next_start t e it) (Some (invocation it.kind t k))) (same-number p (least_free it.crew)))
    (λ q. record { earliest = q.0; number = q.1 })

abbrev creates-known : (types : List Edentype) (e : Effect) → Option (CreatesKnown types e)
creates-known types (effect.Create type_name) = is-true (is_some (type_of types type_name))
creates-known types (effect.Return results) = Some tt
creates-known types effect.End = Some tt
creates-known types effect.Checkpoint = Some tt
creates-known types effect.Destroy = Some tt
creates-known types effect.Deactivate = Some tt
creates-known types (effect.Fault c) = Some tt
creates-known types (effect.Invoke target operation args) = Some tt
creates-known types (effect.Lock m) = Some tt
creates-known types (effect.Leave m) = Some tt
creates-known types (effect.Wait c) = Some tt
creates-known types (effect.Signal c) = Some tt
creates-known types effect.Yield = Some tt

abbrev a-turn : (s : Site) (u : Uid) (p : ℕ) (said : Shown) (it : Active) (q : Worker) → Option (AllowsTurn s u p said it q)
a-turn s u p said it q = then (both (waits-for-nothing q.waits) (both (some-and (turn_of u it p) (λ t. creates-known s.types t.effect))
    (some-and (turn_of u it p) (λ t. same-shown said (shown_of s q.serves t.effect)))))
    (λ r. record { ready = r.0; known = r.1.0; shows = r.1.1 })

abbrev ends-so : (work : Work) (how : RequestEnd) (p : Option Pick) → Option (EndsSo work how p)
ends-so syncs request_end.Part p = is-none p
ends-so syncs request_end.Fault p = is-none p
ends-so syncs request_end.Stop p = is-none p
ends-so reads request_end.Part p = is-true (is_some p)
ends-so reads request_end.Fault p = is-none p
ends-so reads request_end.Stop p = is-none p
ends-so calls request_end.Part p = is-none p
ends-so calls request_end.Done p = is-none p
ends-so calls request_end.Fault p = is-none p
ends-so calls request_end.Stop p = is-none p
ends-so unkept request_end.Done p = is-none p
ends-so without_room request_end.Full p = is-none p
ends-so _ _ p = None

abbrev has-call-left : (own : Bool) (how : RequestEnd) (r : StoreRequest) (it : Node) → Option (HasCallLeft own how r it)
has-call-left true how r it = is-at-most (calls_needed how r.made) (most_calls it)
has-call-left false how r it = Some tt

abbrev a-store : (s : Site) (u : Uid) (how : RequestEnd) (p : Option Pick) (r : StoreRequest) → Option (AllowsStore s u how p r)
a-store s u how p r =
    then (both (same-uid u r.uid) (both (ends-so (work_of s r) how p) (has-call-left (makes_own_call (work_of s r)) how r s.node)))
    (λ q. record { of_uid = q.0; ends = q.1.0; call_left = q.1.1 })

abbrev starts-so : (types : List Edentype) (u : Uid) (kept : Option (List ℕ)) (how : StartEnd) → Option (StartsSo types u kept how)
starts-so types u None start_end.Gone = Some tt
starts-so types u (Some bytes) start_end.Ok = is-true (is_some (start_of types bytes u))
starts-so types u (Some bytes) start_end.Damaged = is-none (start_of types bytes u)
starts-so types u (Some bytes) start_end.Fault = Some tt
starts-so types u (Some bytes) start_end.Stop = Some tt
starts-so types u _ _ = None

abbrev fails-settling : (how : StartEnd) → Option (FailsSettling how)
fails-settling start_end.Fault = Some tt
fails-settling start_end.Stop = Some tt
fails-settling _ = None

abbrev starts-from : (s : Site) (u : Uid) (settles : Bool) (how : StartEnd) (p : Option Pick) → Option (StartsFrom s u settles how p)
starts-from s u false how p = both (is-none p) (some-and (eject_in s u) (λ e. starts-so s.types u e.kept how))
starts-from s u true how None = fails-settling how
starts-from s u true how (Some p) = some-and (eject_in (settled (Some p) s) u) (λ e. starts-so s.types u e.kept how)

abbrev an-activation : (s : Site) (u : Uid) (how : StartEnd) (p : Option Pick) (e : Eject) → Option (AllowsActivate s u how p e)
an-activation s u how p e = then
    (both (both (is-none e.active) (is-true (is_some (first e.queued))))
    (both (same-bool (is_worked_on s u) false) (starts-from s u (to_settle s) how p)))
    (λ q. record { is_passive = q.0.0; has_queued = q.0.1; not_worked_on = q.1.0; starts = q.1.1 })

-- 3. Boots

abbrev opened-nothing : (e : ℕ) (p : Option Pick) (began : Bool) → Option (OpenedNothing e p began)
opened-nothing e p began = then (both (is-none p) (both (same-number e 0) (same-bool began false)))
    (λ q. record { no_pick = q.0; no_epoch = q.1.0; not_begun = q.1.1 })

abbrev was-opened : (s : Site) (p : Option Pick) → Option (Opened s p)
was-opened s p =
    then (both (is-none s.node.damaged) (both (same-bool s.node.overfull false) (same-bool (is_some p) (in_doubt s.number s.node))))
    (λ q. record { undamaged = q.0; not_overfull = q.1.0; picked = q.1.1 })

abbrev began-nothing : (s : Site) (e : ℕ) (p : Option Pick) (began : Bool) → Option (BeganNothing s e p began)
began-nothing s e p began = then (both (was-opened s p) (both (same-number e 0) (same-bool began false)))
    (λ q. record { opened = q.0; no_epoch = q.1.0; not_begun = q.1.1 })

abbrev began-next : (s : Site) (e : ℕ) (p : Option Pick) (began : Bool) → Option (BeganNext s e p began)
began-next s e p began = then (both (both (was-opened s p) (is-below (stored_epoch (settled p s).node) last_epoch))
    (both (same-number e (stored_epoch (settled p s).node + 1)) (both (is-true (epoch_has_room (settled p s) e)) (same-bool began true))))
    (λ q. record { opened = q.0.0; not_last = q.0.1; next_one = q.1.0; has_room = q.1.1.0; begun = q.1.1.1 })

abbrev reads-epoch : (s : Site) (e : ℕ) (p : Option Pick) (began : Bool) → Option (ReadsEpoch s e p began)
reads-epoch s e p began =
    then (both (began-nothing s e p began) (is-true (is_some (settled p s).node.epoch))) (λ q. record { nothing = q.0; stored = q.1 })

abbrev opens-store : (s : Site) (e : ℕ) (p : Option Pick) (began : Bool) → Option (OpensStore s e p began)
opens-store s e p began =
    then (both (is-true (s.layout.allows s.node.size)) (opened-nothing e p began)) (λ q. record { allowed = q.0; nothing = q.1 })

abbrev has-failed : (s : Site) (e : ℕ) (p : Option Pick) (began : Bool) → Option (Failed s e p began)
has-failed s e p began = either (opens-store s e p began) (either (reads-epoch s e p began) (began-next s e p began))

abbrev boots-so : (s : Site) (e : ℕ) (how : BootEnd) (p : Option Pick) (began : Bool) → Option (BootsSo s e how p began)
boots-so s e boot_end.Up p began = began-next s e p began
boots-so s e boot_end.DiskFault p began = has-failed s e p began
boots-so s e boot_end.Stop p began = has-failed s e p began
boots-so s e (boot_end.Damaged place) p began = then
    (both (same-option same-number s.node.damaged (Some place)) (opened-nothing e p began)) (λ q. record { at_place = q.0; nothing = q.1 })
boots-so s e boot_end.EpochsSpent p began = then
    (both (began-nothing s e p began) (same-number (stored_epoch (settled p s).node) last_epoch))
    (λ q. record { nothing = q.0; last = q.1 })
boots-so s e boot_end.Full p began = either
    (then (both (is-none s.node.damaged) (both (same-bool s.node.overfull true) (opened-nothing e p began)))
    (λ q. record { undamaged = q.0; overfull = q.1.0; nothing = q.1.1 }))
    (then (both (began-nothing s e p began)
    (both (is-below (stored_epoch (settled p s).node) last_epoch)
    (same-bool (epoch_has_room (settled p s) (stored_epoch (settled p s).node + 1)) false)))
    (λ q. record { nothing = q.0; not_last = q.1.0; no_room = q.1.1 }))

abbrev a-boot : (s : Site) (e : ℕ) (how : BootEnd) (p : Option Pick) (began : Bool) → Option (AllowsBoot s e how p began)
a-boot s e how p began = then (both (same-bool s.node.up false) (both (is-empty s.node.requests) (boots-so s e how p began)))
    (λ q. record { is_down = q.0; no_requests = q.1.0; boots = q.1.1 })

-- 4. Events

abbrev in-turn : (w : World) (e : Event) → Option (AllowsInTurn w e)
in-turn w (event.Request k a b refused) = some-and (site_at w b) (λ s. a-request s k a b refused)
in-turn w (event.Reply k a b name s values) = a-reply w.traffic k a b name s values
in-turn w (event.Activate u how p) = some-and (site_at w u.node) (λ s. some-and (eject_in s u) (λ e. an-activation s u how p e))
in-turn w (event.Start k u p) =
    some-and (site_at w u.node) (λ s. some-and (eject_in s u) (λ e. some-and e.active (λ it. a-start s.traffic k p e it)))
in-turn w (event.Process u p said) = some-and (site_at w u.node)
    (λ s. some-and (eject_in s u) (λ e. some-and e.active (λ it. some-and (worker_at it p) (λ q. a-turn s u p said it q))))
in-turn w (event.Store u clock how p) = some-and (site_at w u.node) (λ s. some-and (first_request s.node) (λ r. a-store s u how p r))
in-turn w event.Quiet = Some tt
in-turn w event.Spent = Some tt
in-turn w _ = None

abbrev is-creation : (made : Result Uid Status) (s : Status) (said : Option Uid) → Option (IsCreation made s said)
is-creation (Ok u) s said = both (same-status s status.Ok) (same-option same-uid said (Some u))
is-creation (Err why) s said = both (same-status s why) (is-none said)

abbrev asks : (w : World) (k : ℕ) (at_once : Option Status) (target : Cap) (args : List Datum)
    → Option (AllowsAsked w k at_once target args)
asks w k at_once target args =
    then (both (same-number k (next_call w.traffic)) (same-option same-status at_once (refused_at_once (reaches w 0 target.uid.node) args)))
    (λ p. record { number = p.0; refused = p.1 })

-- the three parts of an allowance in a row
abbrev three : {A B C : Type 0} → Option A → Option B → Option C → Option (A × B × C)
three a b c = then (both a (both b c)) (λ p. (p.0, p.1.0, p.1.1))

abbrev of-command : (w : World) (c : Command) (e : Event) → Option (AllowsCommand w c e)
of-command w (command.Create name n type_name) (event.Made said s u) =
    three (same-text said name) (is-true (is_some (type_of w.types type_name))) (is-creation (creation w n) s u)
of-command w (command.Hold name u) (event.Bound said held) = both (same-text said name) (same-bool held true)
of-command w (command.Restrict name target mask) (event.Bound said held) =
    three (same-text said name) (same-bool held false) (is-true (is_some (cap_at w target)))
of-command w (command.Restrict name target mask) (event.Void said) = both (same-text said name) (is-none (cap_at w target))
of-command w (command.Call name target operation args) (event.Asked k said at_once) =
    both (same-text said name) (some-and (ready_call w (command.Call name target operation args)) (λ c. asks w k at_once c.0 c.1))
of-command w (command.Call name target operation args) (event.Void said) =
    both (same-text said name) (is-none (ready_call w (command.Call name target operation args)))
of-command w (command.Crash n mode) (event.Crash m) = both (same-number m n) (is-true (is_up w n))
of-command w (command.Crash n mode) (event.Still m up) = three (same-number m n) (same-bool up false) (same-bool (is_up w n) false)
of-command w (command.Restart n) (event.Still m up) = three (same-number m n) (same-bool up true) (is-true (is_up w n))
of-command w (command.Restart n) (event.Boot m e how p began) =
    both (same-number m n) (some-and (site_at w n) (λ s. a-boot s e how p began))
of-command w (command.Cut a b) (event.Link c d joined) = three (same-number c a) (same-number d b) (same-bool joined false)
of-command w (command.Join a b) (event.Link c d joined) = three (same-number c a) (same-number d b) (same-bool joined true)
of-command w (command.Fail n after) (event.Armed m what) = both (same-number m n) (same-arm what (arm.Fail after))
of-command w (command.Stop n after mode) (event.Armed m what) = both (same-number m n) (same-arm what (arm.Stop after mode))
of-command w command.End (event.Left names) = same-list same-text names (open_names w)
of-command w _ _ = None

abbrev of-either : (w : World) (c : Option Command) (e : Event) → Option (AllowsEvent w c e)
of-either w None e = in-turn w e
of-either w (Some c) e = of-command w c e

-- 5. Entries

abbrev not-before : (c : ℕ) (before : Option ℕ) → Option (NotBefore c before)
not-before c before = if-some before (λ b. is-at-most b c)

abbrev clock-fits : (w : World) (n c : ℕ) → Option (ClockFits w n c)
clock-fits w zero c = same-number c 0
clock-fits w (suc n) c = not-before c (clock_before w (suc n))

abbrev store-clock-fits : (n : ℕ) (before : Option ℕ) (said c : ℕ) → Option (StoreClockFits n before said c)
store-clock-fits zero before said c = if-some before (λ b. same-number said b)
store-clock-fits (suc n) before said c = both (same-number said c) (if-some before (λ b. same-number c (one_more b)))

abbrev store-clock : (w : World) (e : Event) (c : ℕ) → Option (StoreClock w e c)
store-clock w (event.Store u said how p) c = store-clock-fits (touched w (event.Store u said how p)) (clock_before w u.node) said c
store-clock w (event.Boot n e how p began) c = Some tt
store-clock w (event.Crash n) c = Some tt
store-clock w (event.Still n up) c = Some tt
store-clock w (event.Link a b joined) c = Some tt
store-clock w (event.Armed n what) c = Some tt
store-clock w (event.Made name s u) c = Some tt
store-clock w (event.Bound name held) c = Some tt
store-clock w (event.Void name) c = Some tt
store-clock w (event.Asked k name at_once) c = Some tt
store-clock w (event.Request k a b refused) c = Some tt
store-clock w (event.Reply k a b name s values) c = Some tt
store-clock w (event.Activate u how p) c = Some tt
store-clock w (event.Start k u p) c = Some tt
store-clock w (event.Process u p said) c = Some tt
store-clock w event.Quiet c = Some tt
store-clock w event.Spent c = Some tt
store-clock w (event.Left names) c = Some tt

abbrev is-allowed : (w : World) (c : Option Command) (e : Entry) → Option (Allows w c e)
is-allowed w c e = then
    (both (of-either w c e.event)
    (both (both (same-list same-text e.broken (names_of (breaks e.event) w.traffic)) (same-number e.node (touched w e.event)))
    (both (clock-fits w e.node e.clock) (store-clock w e.event e.clock))))
    (λ p. record { event = p.0; broken = p.1.0.0; disk = p.1.0.1; clock = p.1.1.0; store_clock = p.1.1.1 })

abbrev same-idle : (e f : Event) → Option (e ≡ f)
same-idle event.Quiet event.Quiet = Some refl
same-idle event.Spent event.Spent = Some refl
same-idle _ _ = None

abbrev idle-if : (k : Option Key) (e : Event) (w : World) → Option (IdleIf k e w)
idle-if (Some k) e w = Some tt
idle-if None e w = same-idle e (idle w)

abbrev is-turn : (w : World) (choose : List Key → Option Key) (e : Entry) → Option (IsTurn w choose e)
is-turn w choose e = then
    (both (same-option same-key (key_of e.event) (taken_key w choose))
    (both (idle-if (taken_key w choose) e.event w) (is-allowed w None e)))
    (λ p. record { key = p.0; none_taken = p.1.0; allowed = p.1.1 })

abbrev is-look-up : (w : World) (name : List ℕ) (target : Option Cap) (cs : List (List ℕ)) (e : Event)
    → Option (AllowsLookUp w name target cs e)
is-look-up w name (Some target) cs (event.Asked k said at_once) = both (same-text said name) (asks w k at_once target (lookup_args cs))
is-look-up w name None cs (event.Void said) = same-text said name
is-look-up w name target cs _ = None

abbrev is-plain : (e : Entry) → Option (IsPlain e)
is-plain e = then (both (same-number e.node 0) (both (same-number e.clock 0) (is-empty e.broken)))
    (λ p. record { disk = p.0; clock = p.1.0; broken = p.1.1 })

abbrev is-due-by : (w : World) (due : Due) (e : Entry) → Option (IsDueBy w due e)
is-due-by w (boots n more) e = is-allowed w (Some (command.Restart n)) e
is-due-by w (command_is c) e = is-allowed w (Some c) e
is-due-by w (turn_is i) e = is-turn w (item i) e
is-due-by w (turns n) e = is-turn w (following w.last) e
is-due-by w (looks_up name target cs) e = both (is-look-up w name target cs e.event) (is-plain e)
is-due-by w (waits_for name k cs) e = is-turn w (following w.last) e
is-due-by w over e = None

-- 6. Histories

abbrev each-due : (p : Position) (es : List Entry) → Option (Leads p es)
each-due p [] = Some tt
each-due p (e ∷ es) = both (is-due-by p.world p.due e) (each-due (lead p e) es)

abbrev is-over : (due : Due) → Option (due ≡ over)
is-over over = Some refl
is-over _ = None

abbrev followed : (opening : World) (nodes : ℕ) (cs : List Command) (history : List Entry) → Option (Follows opening nodes cs history)
followed opening nodes cs history = then
    (both (each-due (beginning opening nodes cs) history) (is-over (end_of (beginning opening nodes cs) history).due))
    (λ p. record { leads = p.0; whole = p.1 })

-- whether the history follows the script
abbrev pub follows : World → ℕ → List Command → List Entry → Bool
follows opening nodes cs history = is_some (followed opening nodes cs history)

pub follows-sound : (opening : World) (nodes : ℕ) (cs : List Command) (history : List Entry) → IsTrue (follows opening nodes cs history)
    → Follows opening nodes cs history
follows-sound opening nodes cs history is = passed (followed opening nodes cs history) is
