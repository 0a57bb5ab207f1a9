-- An entry is determined by its lines.
use Rattle.std.proofs.Common.{◌≡◌, ◌==◌, ℕ, ◌<◌, ◌^◌, List, [], ◌∷◌, ◌++◌, Option, None, Some, refl, ap, sym, subst, ◌∙◌, arith, Bool, true}
use Rattle.std.proofs.Common.{false, cond, inl, inr}
use Rattle.std.specs.Prelude.{IsSomeAnd, ◌⊎◌}
use Rattle.capability.specs.declared.Uid.{Uid}
use Rattle.capability.specs.declared.Cap.{Cap}
use Rattle.eden_model.specs.Traffic.{names_of}
use Rattle.passive_store.specs.declared.store.Pick.{Pick}
use Rattle.journal.specs.declared.command.Command.{Command}
use Rattle.journal.specs.declared.command.Command.TheVariants as command
use Rattle.journal.specs.declared.event.Key.{Key}
use Rattle.journal.specs.declared.event.Event.{Event}
use Rattle.journal.specs.declared.event.Event.TheVariants as event
use Rattle.journal.specs.declared.event.Entry.{Entry}
use Rattle.journal.specs.declared.event.Mode.TheVariants.{Full}
use Rattle.journal.specs.declared.event.StartEnd.{StartEnd}
use Rattle.journal.specs.declared.event.StartEnd.TheVariants as start_end
use Rattle.journal.specs.declared.event.RequestEnd.{RequestEnd}
use Rattle.journal.specs.declared.event.RequestEnd.TheVariants as request_end
use Rattle.journal.specs.declared.event.BootEnd.{BootEnd}
use Rattle.journal.specs.declared.event.BootEnd.TheVariants as boot_end
use Rattle.journal.specs.World.{World, Site, node_at, site_at}
use Rattle.journal.specs.Boots.{AllowsBoot, BootsSo, Failed, BeganNext, IsOverfull, HasNoRoom}
use Rattle.journal.specs.Commands.{AllowsCommand}
use Rattle.journal.specs.Lines.{entry_text, trace_text, shown_text, boot_text, broken_text, disk_text, clock_text, pick_of, began_word}
use Rattle.journal.specs.Step.{Allows, AllowsInTurn, touched, breaks, ClockFits, StoreClock, clock_before}
use Rattle.journal.specs.Run.{Position, Due, boots, command_is, turn_is, turns, looks_up, waits_for, over, IsDue, IsDueBy, IsTurn, IsPlain}
use Rattle.journal.specs.Run.{IdleIf}
use Rattle.journal.specs.Run.{AllowsLookUp, taken_key}
use Rattle.trace_laws.specs.Determined.{HasClocks, clock_shown}
use Rattle.trace_laws.proofs.Texts.{past, flat4, apart, same-disk}
use Rattle.trace_laws.proofs.EventLines.{lines_and, same-start, same-lines-start, same-shown-start, same-store, same-lines-store}
use Rattle.trace_laws.proofs.EventLines.{same-shown-store}
use Rattle.trace_laws.proofs.EventLines.{stops_node, same-boot, same-up, end_of}
use Rattle.trace_laws.proofs.Events.{both-some, AlikeTurn, turn-alike}
use Rattle.trace_laws.proofs.EventCommands.{AlikeCommand, command-alike, of-restart, OfRestart, up-and-down}
use Rattle.trace_laws.proofs.Untouched.{not-zero, unpicked-start, unpicked-store, shown-clock}

-- 1. Entries by their parts

entry-same : (e f : Entry) → e.event ≡ f.event → e.node ≡ f.node → e.clock ≡ f.clock → e.broken ≡ f.broken → e ≡ f
entry-same e f a b c d = ap (λ v. with v e.node e.clock e.broken) a ∙ (ap (λ n. with f.event n e.clock e.broken) b
    ∙ (ap (λ n. with f.event f.node n e.broken) c ∙ ap (λ names. with f.event f.node f.clock names) d))
  where
    with : Event → ℕ → ℕ → List (List ℕ) → Entry
    with v n c names = record { event = v; node = n; clock = c; broken = names }

flat-entry : (e : Entry) (r : List ℕ) → entry_text Full e ++ r ≡ lines_and e.event (broken_text e.broken ++ (disk_text e ++ r))
unfolding entry_text
flat-entry e r = flat4 (trace_text e.event) (shown_text e.event) (broken_text e.broken) (disk_text e) r

-- behind the same lines stands the rest
behind-lines : (e f : Event) (v w : List ℕ) → trace_text e ≡ trace_text f → shown_text e ≡ shown_text f → lines_and e v ≡ lines_and f w
    → v ≡ w
behind-lines e f v w a b x = past (shown_text f) v w (past (trace_text f) (shown_text f ++ v) (shown_text f ++ w) (rw (a, b) at x))

-- the texts of two entries behind the lines of their events
abbrev Texts : Entry → Entry → List ℕ → List ℕ → Type 0
Texts e f r s = lines_and e.event (broken_text e.broken ++ (disk_text e ++ r))
    ≡ lines_and f.event (broken_text f.broken ++ (disk_text f ++ s))

disks-left : (e f : Entry) (r s : List ℕ) → trace_text e.event ≡ trace_text f.event → shown_text e.event ≡ shown_text f.event
    → e.broken ≡ f.broken → Texts e f r s → disk_text e ++ r ≡ disk_text f ++ s
disks-left e f r s a b c x =
    let y = behind-lines e.event f.event (broken_text e.broken ++ (disk_text e ++ r)) (broken_text f.broken ++ (disk_text f ++ s)) a b x in
    past (broken_text f.broken) (disk_text e ++ r) (disk_text f ++ s)
    (subst (λ b. broken_text b ++ (disk_text e ++ r) ≡ broken_text f.broken ++ (disk_text f ++ s)) c y)

-- the lines of the disk, where one was touched
same-touch : (e f : Entry) (r s : List ℕ) → HasClocks e → HasClocks f → e.node ≡ f.node → (e.node == 0) ≡ false
    → disk_text e ++ r ≡ disk_text f ++ s
    → (e.clock ≡ f.clock) × (pick_of e.event ≡ pick_of f.event) × (began_word e.event ++ (10 ∷ r) ≡ began_word f.event ++ (10 ∷ s))
same-touch e f r s h g node other x =
    let there : (f.node == 0) ≡ false = subst (λ n. (n == 0) ≡ false) node other in
    let y : clock_text e.node e.clock e.event ++ r ≡ clock_text f.node f.clock f.event ++ s =
    shown other (clock_text e.node e.clock e.event) there (clock_text f.node f.clock f.event) x in
    same-disk f.node e.clock f.clock e.event f.event r s h.disk g.disk
    (subst (λ n. clock_text n e.clock e.event ++ r ≡ clock_text f.node f.clock f.event ++ s) node y)
  where
    shown : {b c : Bool} → b ≡ false → (v : List ℕ) → c ≡ false → (w : List ℕ) → cond b [] v ++ r ≡ cond c [] w ++ s → v ++ r ≡ w ++ s
    shown {b} {c} p v q w x = subst (λ d. v ++ r ≡ cond d [] w ++ s) q (subst (λ d. cond d [] v ++ r ≡ cond c [] w ++ s) p x)

is-zero : (n : ℕ) → (n == 0) ≡ true → n ≡ 0
is-zero n e = grind (arith, e)

-- the clocks of two entries on one disk, or on none
same-clock : (w : World) (c : Option Command) (e f : Entry) (r s : List ℕ) → Allows w c e → Allows w c f → HasClocks e → HasClocks f
    → e.node ≡ f.node → disk_text e ++ r ≡ disk_text f ++ s → e.clock ≡ f.clock
same-clock w c e f r s a b h g node x = go (e.node == 0) refl
  where
    none : (n c : ℕ) → n ≡ 0 → ClockFits w n c → c ≡ 0
    none n c at fits = subst (λ n. ClockFits w n c) at fits

    go : (t : Bool) → (e.node == 0) ≡ t → e.clock ≡ f.clock
    go true at = let zero-here = is-zero e.node at in none e.node e.clock zero-here a.clock
        ∙ sym (none f.node f.clock (sym node ∙ zero-here) b.clock)
    go false at = (same-touch e f r s h g node at x).0

-- 2. The same event

same-event : (w : World) (c : Option Command) (e f : Entry) (r s : List ℕ) → Allows w c e → Allows w c f → HasClocks e → HasClocks f
    → e.event ≡ f.event → Texts e f r s → e ≡ f
same-event w c e f r s a b h g same x =
    let node : e.node ≡ f.node = a.disk ∙ (ap (touched w) same ∙ sym b.disk) in
    let broken : e.broken ≡ f.broken = a.broken ∙ (ap (λ v. names_of (breaks v) w.traffic) same ∙ sym b.broken) in
    let left = disks-left e f r s (ap trace_text same) (ap shown_text same) broken x in
    entry-same e f same node (same-clock w c e f r s a b h g node left) broken

-- 3. Activations

breaks-start : (u : Uid) (how : StartEnd) (p q : Option Pick) → breaks (event.Activate u how p) ≡ breaks (event.Activate u how q)
breaks-start u start_end.Ok p q = refl
breaks-start u start_end.Gone p q = refl
breaks-start u start_end.Fault p q = refl
breaks-start u start_end.Damaged p q = refl
breaks-start u start_end.Stop p q = refl

start-entries : (w : World) (e f : Entry) (r s : List ℕ) (u : Uid) (how so : StartEnd) (p q : Option Pick) → node_at w 0 ≡ None
    → Allows w None e → Allows w None f → HasClocks e → HasClocks f → e.event ≡ event.Activate u how p → f.event ≡ event.Activate u so q
    → Texts e f r s → e ≡ f
start-entries w e f r s u how so p q none a b h g is it x =
    let y : lines_and (event.Activate u how p) (broken_text e.broken ++ (disk_text e ++ r))
    ≡ lines_and (event.Activate u so q) (broken_text f.broken ++ (disk_text f ++ s))
    = ap (λ v. lines_and v (broken_text e.broken ++ (disk_text e ++ r))) (sym is)
    ∙ (x ∙ ap (λ v. lines_and v (broken_text f.broken ++ (disk_text f ++ s))) it) in
    let ends : how ≡ so = same-start u how so p q (broken_text e.broken ++ (disk_text e ++ r))
    (broken_text f.broken ++ (disk_text f ++ s)) y in
    let other : f.event ≡ event.Activate u how q = it ∙ ap (λ v. event.Activate u v q) (sym ends) in
    let broken : e.broken ≡ f.broken = a.broken ∙ (ap (λ v. names_of (breaks v) w.traffic) is
    ∙ (ap (λ v. names_of v w.traffic) (breaks-start u how p q)
    ∙ (ap (λ v. names_of (breaks v) w.traffic) (sym other) ∙ sym b.broken))) in
    let left = disks-left e f r s (ap trace_text is ∙ (same-lines-start u how p q ∙ ap trace_text (sym other)))
    (ap shown_text is ∙ (same-shown-start u how p q ∙ ap shown_text (sym other))) broken x in
    let node-e : e.node ≡ touched w (event.Activate u how p) = a.disk ∙ ap (touched w) is in
    let node-f : f.node ≡ touched w (event.Activate u how q) = b.disk ∙ ap (touched w) other in
    let node : e.node ≡ f.node = node-e ∙ sym node-f in
    let picks : p ≡ q = by (e.node == 0) refl node-e node-f node other left in
    let same : e.event ≡ f.event = is ∙ (ap (event.Activate u how) picks ∙ sym other) in
    same-event w None e f r s a b h g same x
  where
    by : (t : Bool) → (e.node == 0) ≡ t → e.node ≡ touched w (event.Activate u how p) → f.node ≡ touched w (event.Activate u how q)
        → e.node ≡ f.node → f.event ≡ event.Activate u how q → disk_text e ++ r ≡ disk_text f ++ s → p ≡ q
    by true at node-e node-f node other left =
        let here = is-zero e.node at in
        unpicked-start w u how p none (subst (AllowsInTurn w) is a.event) (sym node-e ∙ here)
        ∙ sym (unpicked-start w u how q none (subst (AllowsInTurn w) other b.event) (sym node-f ∙ (sym node ∙ here)))
    by false at node-e node-f node other left = ap pick_of (sym is) ∙ ((same-touch e f r s h g node at left).1 ∙ ap pick_of other)

-- 4. Turns of the store

pub breaks-store : (u : Uid) (c d : ℕ) (how : RequestEnd) (p q : Option Pick)
    → breaks (event.Store u c how p) ≡ breaks (event.Store u d how q)
breaks-store u c d request_end.Part p q = refl
breaks-store u c d request_end.Done p q = refl
breaks-store u c d request_end.Fault p q = refl
breaks-store u c d request_end.Full p q = refl
breaks-store u c d request_end.Stop p q = refl

store-entries : (w : World) (e f : Entry) (r s : List ℕ) (u : Uid) (c d : ℕ) (how so : RequestEnd) (p q : Option Pick) → node_at w 0 ≡ None
    → Allows w None e → Allows w None f → HasClocks e → HasClocks f → e.event ≡ event.Store u c how p → f.event ≡ event.Store u d so q
    → Texts e f r s → e ≡ f
store-entries w e f r s u c d how so p q none a b h g is it x =
    let y : lines_and (event.Store u c how p) (broken_text e.broken ++ (disk_text e ++ r))
    ≡ lines_and (event.Store u d so q) (broken_text f.broken ++ (disk_text f ++ s))
    = ap (λ v. lines_and v (broken_text e.broken ++ (disk_text e ++ r))) (sym is)
    ∙ (x ∙ ap (λ v. lines_and v (broken_text f.broken ++ (disk_text f ++ s))) it) in
    let ends = same-store u c d how so p q (broken_text e.broken ++ (disk_text e ++ r)) (broken_text f.broken ++ (disk_text f ++ s))
    (subst (λ v. clock_shown v < 2 ^ 64) is h.shown) (subst (λ v. clock_shown v < 2 ^ 64) it g.shown) y in
    let other : f.event ≡ event.Store u d how q = it ∙ ap (λ v. event.Store u d v q) (sym ends.0) in
    let broken : e.broken ≡ f.broken = a.broken ∙ (ap (λ v. names_of (breaks v) w.traffic) is
    ∙ (ap (λ v. names_of v w.traffic) (breaks-store u c d how p q)
    ∙ (ap (λ v. names_of (breaks v) w.traffic) (sym other) ∙ sym b.broken))) in
    let left = disks-left e f r s (ap trace_text is ∙ (same-lines-store u c d how p q ends.1 ∙ ap trace_text (sym other)))
    (ap shown_text is ∙ (same-shown-store u c d how p q ∙ ap shown_text (sym other))) broken x in
    let node-e : e.node ≡ touched w (event.Store u c how p) = a.disk ∙ ap (touched w) is in
    let node-f : f.node ≡ touched w (event.Store u d how q) = b.disk ∙ ap (touched w) other in
    let node : e.node ≡ f.node = node-e ∙ sym node-f in
    let both = by (e.node == 0) refl node-e node-f node other left ends.1 in
    let same : e.event ≡ f.event = is ∙ (ap (λ v. event.Store u v how p) both.1 ∙ (ap (event.Store u d how) both.0 ∙ sym other)) in
    same-event w None e f r s a b h g same x
  where
    by : (t : Bool) → (e.node == 0) ≡ t → e.node ≡ touched w (event.Store u c how p) → f.node ≡ touched w (event.Store u d how q)
        → e.node ≡ f.node → f.event ≡ event.Store u d how q → disk_text e ++ r ≡ disk_text f ++ s → (stops_node how ≡ false → c ≡ d)
        → (p ≡ q) × (c ≡ d)
    by true at node-e node-f node other left clocks =
        let here = is-zero e.node at in
        let m = unpicked-store w u c how p none (subst (AllowsInTurn w) is a.event) (sym node-e ∙ here) in
        let n = unpicked-store w u d how q none (subst (AllowsInTurn w) other b.event) (sym node-f ∙ (sym node ∙ here)) in
        (m.0 ∙ sym n.0, clocks m.1)
    by false at node-e node-f node other left clocks =
        let t = same-touch e f r s h g node at left in
        let first : c ≡ e.clock = shown-clock (touched w (event.Store u c how p)) (clock_before w u.node) c e.clock
        (subst (λ n. (n == 0) ≡ false) node-e at) (subst (λ v. StoreClock w v e.clock) is a.store_clock) in
        let second : d ≡ f.clock = shown-clock (touched w (event.Store u d how q)) (clock_before w u.node) d f.clock
        (subst (λ n. (n == 0) ≡ false) node-f (subst (λ n. (n == 0) ≡ false) node at))
        (subst (λ v. StoreClock w v f.clock) other b.store_clock) in
        (ap pick_of (sym is) ∙ (t.1 ∙ ap pick_of other), first ∙ (t.0 ∙ sym second))

-- 5. Boots

began-same : (n e g : ℕ) (how so : BootEnd) (p q : Option Pick) (b c : Bool) (r s : List ℕ)
    → began_word (event.Boot n e how p b) ++ (10 ∷ r) ≡ began_word (event.Boot n g so q c) ++ (10 ∷ s) → b ≡ c
began-same n e g how so p q true true r s x = refl
began-same n e g how so p q false false r s x = refl
began-same n e g how so p q true false r s x = apart 121 110 _ _ refl x
began-same n e g how so p q false true r s x = apart 110 121 _ _ refl x

failed-epoch : (s : Site) (e g : ℕ) (p : Option Pick) (b : Bool) → Failed s e p b → Failed s g p b → e ≡ g
failed-epoch s e g p b (inl x) (inl y) = x.nothing.no_epoch ∙ sym y.nothing.no_epoch
failed-epoch s e g p b (inl x) (inr (inl y)) = x.nothing.no_epoch ∙ sym y.nothing.no_epoch
failed-epoch s e g p b (inl x) (inr (inr y)) = let bad : true ≡ false = sym y.begun ∙ x.nothing.not_begun in absurd (cc bad)
failed-epoch s e g p b (inr (inl x)) (inl y) = x.nothing.no_epoch ∙ sym y.nothing.no_epoch
failed-epoch s e g p b (inr (inl x)) (inr (inl y)) = x.nothing.no_epoch ∙ sym y.nothing.no_epoch
failed-epoch s e g p b (inr (inl x)) (inr (inr y)) = let bad : true ≡ false = sym y.begun ∙ x.nothing.not_begun in absurd (cc bad)
failed-epoch s e g p b (inr (inr x)) (inl y) = let bad : true ≡ false = sym x.begun ∙ y.nothing.not_begun in absurd (cc bad)
failed-epoch s e g p b (inr (inr x)) (inr (inl y)) = let bad : true ≡ false = sym x.begun ∙ y.nothing.not_begun in absurd (cc bad)
failed-epoch s e g p b (inr (inr x)) (inr (inr y)) = x.next_one ∙ sym y.next_one

full-epoch : (s : Site) (e : ℕ) (p : Option Pick) (b : Bool) → IsOverfull s e p b ⊎ HasNoRoom s e p b → e ≡ 0
full-epoch s e p b (inl x) = x.nothing.no_epoch
full-epoch s e p b (inr x) = x.nothing.no_epoch

-- the end and the epoch, by the word and by what else is shown
boots-same : (s : Site) (e g : ℕ) (how so : BootEnd) (p : Option Pick) (b : Bool) → BootsSo s e how p b → BootsSo s g so p b
    → end_of how ≡ end_of so → (e ≡ g) × (how ≡ so)
boots-same s e g boot_end.Up boot_end.Up p b x y same = (x.next_one ∙ sym y.next_one, refl)
boots-same s e g boot_end.DiskFault boot_end.DiskFault p b x y same = (failed-epoch s e g p b x y, refl)
boots-same s e g boot_end.Stop boot_end.Stop p b x y same = (failed-epoch s e g p b x y, refl)
boots-same s e g (boot_end.Damaged place) (boot_end.Damaged other) p b x y same =
    let at : place ≡ other = (let z : Some place ≡ Some other = sym x.at_place ∙ y.at_place in cc z) in
    (x.nothing.no_epoch ∙ sym y.nothing.no_epoch, ap boot_end.Damaged at)
boots-same s e g boot_end.EpochsSpent boot_end.EpochsSpent p b x y same = (x.nothing.no_epoch ∙ sym y.nothing.no_epoch, refl)
boots-same s e g boot_end.Full boot_end.Full p b x y same = (full-epoch s e p b x ∙ sym (full-epoch s g p b y), refl)
boots-same s e g boot_end.Up _ p b x y same = absurd (omega (arith, same))
boots-same s e g boot_end.DiskFault _ p b x y same = absurd (omega (arith, same))
boots-same s e g boot_end.Stop _ p b x y same = absurd (omega (arith, same))
boots-same s e g (boot_end.Damaged place) _ p b x y same = absurd (omega (arith, same))
boots-same s e g boot_end.EpochsSpent _ p b x y same = absurd (omega (arith, same))
boots-same s e g boot_end.Full _ p b x y same = absurd (omega (arith, same))

breaks-boot : (n e g : ℕ) (how so : BootEnd) (p q : Option Pick) (b c : Bool)
    → breaks (event.Boot n e how p b) ≡ breaks (event.Boot n g so q c)
breaks-boot n e g how so p q b c = refl

trace-of-boot : (n e : ℕ) (how : BootEnd) (p : Option Pick) (b : Bool) → trace_text (event.Boot n e how p b) ≡ []
unfolding trace_text
trace-of-boot n e how p b = refl

low-epoch : (s : Site) (e : ℕ) (p : Option Pick) (b : Bool) → BeganNext s e p b → e < 2 ^ 64
low-epoch s e p b x = omega (arith, x.not_last, x.next_one)

-- the lines of two boots with one end
boots-shown : (s : Site) (n x y : ℕ) (how so : BootEnd) (p q : Option Pick) (b d : Bool) (v w : List ℕ) → BootsSo s x how p b
    → BootsSo s y so q d → end_of how ≡ end_of so → lines_and (event.Boot n x how p b) v ≡ lines_and (event.Boot n y so q d) w
    → shown_text (event.Boot n x how p b) ≡ shown_text (event.Boot n y so q d)
unfolding shown_text
boots-shown s n x y boot_end.Up boot_end.Up p q b d v w f g same t =
    let epochs = same-up n x y p q b d v w (low-epoch s x p b f) (low-epoch s y q d g) t in ap (λ e. boot_text n e boot_end.Up) epochs
boots-shown s n x y boot_end.DiskFault boot_end.DiskFault p q b d v w f g same t = refl
boots-shown s n x y boot_end.Stop boot_end.Stop p q b d v w f g same t = refl
boots-shown s n x y (boot_end.Damaged place) (boot_end.Damaged other) p q b d v w f g same t =
    let at : place ≡ other = (let z : Some place ≡ Some other = sym f.at_place ∙ g.at_place in cc z) in
    ap (λ e. boot_text n 0 (boot_end.Damaged e)) at
boots-shown s n x y boot_end.EpochsSpent boot_end.EpochsSpent p q b d v w f g same t = refl
boots-shown s n x y boot_end.Full boot_end.Full p q b d v w f g same t = refl
boots-shown s n x y boot_end.Up _ p q b d v w f g same t = absurd (omega (arith, same))
boots-shown s n x y boot_end.DiskFault _ p q b d v w f g same t = absurd (omega (arith, same))
boots-shown s n x y boot_end.Stop _ p q b d v w f g same t = absurd (omega (arith, same))
boots-shown s n x y (boot_end.Damaged place) _ p q b d v w f g same t = absurd (omega (arith, same))
boots-shown s n x y boot_end.EpochsSpent _ p q b d v w f g same t = absurd (omega (arith, same))
boots-shown s n x y boot_end.Full _ p q b d v w f g same t = absurd (omega (arith, same))

-- of a boot the lines before the disk's show its end and, where it is up, its epoch; what else it shows stands in the disk's
boot-entries : (w : World) (c : Command) (e f : Entry) (r s : List ℕ) (n x y : ℕ) (how so : BootEnd) (p q : Option Pick) (b d : Bool)
    → node_at w 0 ≡ None → Allows w (Some c) e → Allows w (Some c) f → HasClocks e → HasClocks f
    → IsSomeAnd (site_at w n) (λ s. AllowsBoot s x how p b) → IsSomeAnd (site_at w n) (λ s. AllowsBoot s y so q d)
    → e.event ≡ event.Boot n x how p b → f.event ≡ event.Boot n y so q d → Texts e f r s → e ≡ f
boot-entries w c e f r s n x y how so p q b d none a o h g m k is it t =
    let site = both-some (site_at w n) (λ s. AllowsBoot s x how p b) (λ s. AllowsBoot s y so q d) m k in
    let u : lines_and (event.Boot n x how p b) (broken_text e.broken ++ (disk_text e ++ r))
    ≡ lines_and (event.Boot n y so q d) (broken_text f.broken ++ (disk_text f ++ s))
    = ap (λ v. lines_and v (broken_text e.broken ++ (disk_text e ++ r))) (sym is)
    ∙ (t ∙ ap (λ v. lines_and v (broken_text f.broken ++ (disk_text f ++ s))) it) in
    let ends : end_of how ≡ end_of so =
    same-boot n x y how so p q b d (broken_text e.broken ++ (disk_text e ++ r)) (broken_text f.broken ++ (disk_text f ++ s)) u in
    let shown = boots-shown site.0 n x y how so p q b d (broken_text e.broken ++ (disk_text e ++ r))
    (broken_text f.broken ++ (disk_text f ++ s))
    site.2.boots site.3.boots ends u in
    let broken : e.broken ≡ f.broken = a.broken ∙ (ap (λ v. names_of (breaks v) w.traffic) is
    ∙ (ap (λ v. names_of (breaks v) w.traffic) (sym it) ∙ sym o.broken)) in
    let left = disks-left e f r s (ap trace_text is ∙ (trace-of-boot n x how p b
    ∙ (sym (trace-of-boot n y so q d) ∙ ap trace_text (sym it))))
    (ap shown_text is ∙ (shown ∙ ap shown_text (sym it))) broken t in
    let node-e : e.node ≡ n = a.disk ∙ ap (touched w) is in
    let node-f : f.node ≡ n = o.disk ∙ ap (touched w) it in
    let there : (e.node == 0) ≡ false =
    not-it (e.node == 0) refl (λ at. not-zero w n site.0 none site.1 (sym node-e ∙ is-zero e.node at)) in
    let disk = same-touch e f r s h g (node-e ∙ sym node-f) there left in
    let picks : p ≡ q = ap pick_of (sym is) ∙ (disk.1 ∙ ap pick_of it) in
    let starts : b ≡ d = began-same n x y how so p q b d r s (ap (λ v. began_word v ++ (10 ∷ r)) (sym is)
    ∙ (disk.2 ∙ ap (λ v. began_word v ++ (10 ∷ s)) it)) in
    let both = boots-same site.0 x y how so p b site.2.boots (subst (λ z. BootsSo site.0 y so z b) (sym picks)
    (subst (BootsSo site.0 y so q) (sym starts) site.3.boots)) ends in
    let same : event.Boot n x how p b ≡ event.Boot n y so q d = cc (both.0, both.1, picks, starts) in
    same-event w (Some c) e f r s a o h g (is ∙ (same ∙ sym it)) t
  where
    not-it : (t : Bool) → (e.node == 0) ≡ t → ((e.node == 0) ≡ true → ⊥) → (e.node == 0) ≡ false
    not-it true at no-way = absurd (no-way at)
    not-it false at no-way = at

-- 6. Two entries that are due

restart-entries : (w : World) (n : ℕ) (e f : Entry) (r s : List ℕ) → node_at w 0 ≡ None → Allows w (Some (command.Restart n)) e
    → Allows w (Some (command.Restart n)) f → HasClocks e → HasClocks f → Texts e f r s → e ≡ f
restart-entries w n e f r s none a b h g t = go (of-restart w n e.event a.event) (of-restart w n f.event b.event)
  where
    go : OfRestart w n e.event → OfRestart w n f.event → e ≡ f
    go (inl x) (inl y) = same-event w (Some (command.Restart n)) e f r s a b h g (x.0 ∙ sym y.0) t
    go (inr x) (inr y) = boot-entries w (command.Restart n) e f r s n x.0 y.0 x.1 y.1 x.2 y.2 x.3 y.3 none a b h g x.5 y.5 x.4 y.4 t
    go (inl x) (inr y) = up-and-down w n y.0 y.1 y.2 y.3 x.1 y.5
    go (inr x) (inl y) = up-and-down w n x.0 x.1 x.2 x.3 y.1 x.5

-- no command but a restart gives a boot
alike-same : (e f : Event) → ((n g : ℕ) (how : BootEnd) (p : Option Pick) (b : Bool) → e ≡ event.Boot n g how p b → ⊥) → AlikeCommand e f
    → f ≡ e
alike-same (event.Boot n g how p b) f other x = absurd (other n g how p b refl)
alike-same (event.Crash n) f other x = x
alike-same (event.Still n up) f other x = x
alike-same (event.Link a b joined) f other x = x
alike-same (event.Armed n what) f other x = x
alike-same (event.Made name s u) f other x = x
alike-same (event.Bound name held) f other x = x
alike-same (event.Void name) f other x = x
alike-same (event.Asked k name at_once) f other x = x
alike-same (event.Request k a b refused) f other x = x
alike-same (event.Reply k a b name s values) f other x = x
alike-same (event.Activate u how p) f other x = x
alike-same (event.Start k u p) f other x = x
alike-same (event.Process u p said) f other x = x
alike-same (event.Store u c how p) f other x = x
alike-same event.Quiet f other x = x
alike-same event.Spent f other x = x
alike-same (event.Left names) f other x = x

boots-by-restart : (w : World) (c : Command) (n g : ℕ) (how : BootEnd) (p : Option Pick) (b : Bool)
    → AllowsCommand w c (event.Boot n g how p b) → c ≡ command.Restart n
boots-by-restart w (command.Restart m) n g how p b x = ap command.Restart (sym x.0)
boots-by-restart w _ n g how p b x = absurd x

command-entries : (w : World) (c : Command) (e f : Entry) (r s : List ℕ) → node_at w 0 ≡ None → Allows w (Some c) e → Allows w (Some c) f
    → HasClocks e → HasClocks f → Texts e f r s → e ≡ f
command-entries w (command.Restart n) e f r s none a b h g t = restart-entries w n e f r s none a b h g t
command-entries w c e f r s none a b h g t =
    same-event w (Some c) e f r s a b h g (sym (alike-same e.event f.event other (command-alike w c e.event f.event a.event b.event))) t
  where
    other : (n x : ℕ) (how : BootEnd) (p : Option Pick) (b : Bool) → e.event ≡ event.Boot n x how p b → ⊥
    other n x how p b is = let by = boots-by-restart w c n x how p b (subst (AllowsCommand w c) is a.event) in absurd (cc by)

turn-entries : (w : World) (choose : List Key → Option Key) (e f : Entry) (r s : List ℕ) → node_at w 0 ≡ None → IsTurn w choose e
    → IsTurn w choose f → HasClocks e → HasClocks f → Texts e f r s → e ≡ f
turn-entries w choose e f r s none a b h g t = go (taken_key w choose) refl
  where
    idle-both : (o : Option Key) → o ≡ None → IdleIf o e.event w → IdleIf o f.event w → e.event ≡ f.event
    idle-both None at x y = x ∙ sym y
    idle-both (Some k) at x y = absurd (cc at)

    alike : (v u : Event) → e.event ≡ v → f.event ≡ u → AlikeTurn v u → e ≡ f
    alike (event.Activate u how p) v is it (so, q, x) = start-entries w e f r s u how so p q none a.allowed b.allowed h g is (it ∙ x) t
    alike (event.Store u c how p) v is it (d, so, q, x) = store-entries w e f r s u c d how so p q none a.allowed b.allowed h g is (it
        ∙ x) t
    alike _ v is it x = same-event w None e f r s a.allowed b.allowed h g (is ∙ (sym x ∙ sym it)) t

    go : (o : Option Key) → taken_key w choose ≡ o → e ≡ f
    go None at = same-event w None e f r s a.allowed b.allowed h g (idle-both (taken_key w choose) at a.none_taken b.none_taken) t
    go (Some k) at = alike e.event f.event refl refl (turn-alike w e.event f.event k (a.key ∙ at) (b.key
        ∙ at) a.allowed.event b.allowed.event)

plain-entries : (e f : Entry) → IsPlain e → IsPlain f → e.event ≡ f.event → e ≡ f
plain-entries e f a b same = entry-same e f same (a.disk ∙ sym b.disk) (a.clock ∙ sym b.clock) (a.broken ∙ sym b.broken)

look-up-same : (w : World) (name : List ℕ) (target : Option Cap) (cs : List (List ℕ)) (e f : Event) → AllowsLookUp w name target cs e
    → AllowsLookUp w name target cs f → e ≡ f
look-up-same w name (Some target) cs (event.Asked k said at_once) (event.Asked l heard other) x y =
    let number : k ≡ l = x.1.number ∙ sym y.1.number in
    let refused : at_once ≡ other = x.1.refused ∙ sym y.1.refused in
    let names : said ≡ heard = x.0 ∙ sym y.0 in
    cc (number, refused, names)
look-up-same w name None cs (event.Void said) (event.Void heard) x y = ap event.Void (x ∙ sym y)
look-up-same w name (Some target) cs (event.Asked k said at_once) _ x y = absurd y
look-up-same w name None cs (event.Void said) _ x y = absurd y
look-up-same w name (Some target) cs _ f x y = absurd x
look-up-same w name None cs _ f x y = absurd x

due-entries : (w : World) (d : Due) (e f : Entry) (r s : List ℕ) → node_at w 0 ≡ None → IsDueBy w d e → IsDueBy w d f → HasClocks e
    → HasClocks f → Texts e f r s → e ≡ f
due-entries w (boots n more) e f r s none a b h g t = restart-entries w n e f r s none a b h g t
due-entries w (command_is c) e f r s none a b h g t = command-entries w c e f r s none a b h g t
due-entries w (turn_is i) e f r s none a b h g t = turn-entries w _ e f r s none a b h g t
due-entries w (turns n) e f r s none a b h g t = turn-entries w _ e f r s none a b h g t
due-entries w (looks_up name target cs) e f r s none a b h g t =
    plain-entries e f a.1 b.1 (look-up-same w name target cs e.event f.event a.0 b.0)
due-entries w (waits_for name k cs) e f r s none a b h g t = turn-entries w _ e f r s none a b h g t
due-entries w over e f r s none a b h g t = absurd a

pub entries-are-determined : (p : Position) (e f : Entry) (rest later : List ℕ) → node_at p.world 0 ≡ None → IsDue p e → IsDue p f
    → HasClocks e → HasClocks f → entry_text Full e ++ rest ≡ entry_text Full f ++ later → e ≡ f
entries-are-determined p e f rest later none a b h g t =
    due-entries p.world p.due e f rest later none a b h g (sym (flat-entry e rest) ∙ (t ∙ flat-entry f later))
