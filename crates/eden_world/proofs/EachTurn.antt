-- Turns of a node that may touch its disk: activations, and turns of the store; and a reply that comes to a node.
use Rattle.std.proofs.Common.{◌≡◌, inl, inr, ℕ, zero, suc, ◌+◌, ◌≤◌, ◌==◌, Bool, true, false, cond, not}
use Rattle.std.proofs.Common.{List, []}
use Rattle.std.proofs.Common.{◌∷◌, Option, None, Some, is_some, refl, sym, ◌∙◌, ap, subst, arith}
use Rattle.std.specs.Prelude.{IsSomeAnd, IfSome}
use Rattle.std.proofs.lemmas.Bool.{eqb-true}
use Rattle.std.proofs.lemmas.Bool.Decides.{nat_tests}
use Rattle.capability.specs.declared.Uid.{Uid}
use Rattle.eden_disk.specs.Calls.{Counts, DeviceCalls, more_by}
use Rattle.eden_value.specs.Datum.{Datum}
use Rattle.eden_value.specs.declared.status.Status.{Status}
use Rattle.eden_model.specs.Map.{with_item, first}
use Rattle.eden_model.specs.Traffic.{Traffic, Call, call_at, asking_station, target_station, goes, goes_by, shell_name}
use Rattle.eden_model.specs.declared.Asker.{Asker}
use Rattle.eden_model.specs.declared.Asker.TheVariants.{Shell, Eject as Process}
use Rattle.invocation.specs.Mail.{Mail}
use Rattle.passive_store.specs.Kept.{Layout}
use Rattle.passive_store.specs.declared.store.Pick.{Pick}
use Rattle.journal.specs.declared.event.Event.TheVariants as event
use Rattle.journal.specs.declared.event.Entry.{Entry}
use Rattle.journal.specs.declared.event.StartEnd.{StartEnd}
use Rattle.journal.specs.declared.event.StartEnd.TheVariants as start_end
use Rattle.journal.specs.declared.event.RequestEnd.{RequestEnd}
use Rattle.journal.specs.declared.event.RequestEnd.TheVariants as request_end
use Rattle.journal.specs.Deliveries.{AllowsReply}
use Rattle.journal.specs.Settling.{to_settle, first_request}
use Rattle.journal.specs.Starts.{AllowsActivate, StartsFrom, StartsSo}
use Rattle.journal.specs.Stores.{AllowsStore, Work, syncs, reads, unkept, without_room, calls, EndsSo, makes_call, work_of}
use Rattle.journal.specs.World.{World, Site, Node, Eject, StoreRequest, node_at, site_of, site_at, eject_in}
use Rattle.journal.specs.Step.{AllowsAt, StoreClock, StoreClockFits, clock_before, one_more, touched, touches_start}
use Rattle.journal.specs.Step.{touches_store, node_if}
use Rattle.journal.specs.Sites.{AllSound, AllThere, IsSoundSite}
use Rattle.history_laws.proofs.EntryLists.{first-passes}
use Rattle.history_laws.proofs.SiteRuns.{both-true, on-call}
use Rattle.eden_kernel.specs.DiskTurns.{call_of_request}
use Rattle.eden_kernel.specs.Stands.{Held, IsWhole, NodeStands}
use Rattle.eden_kernel.specs.Turns.{clock_of}
use Rattle.eden_world.specs.Worlds.{up, InHand, IsNumber, WorldStands}
use Rattle.eden_world.specs.Steps.{GoesOnFrom, GoesOnBy, IsTurnAt, TurnsIn, TakesSeat, Shows, start_touches, store_touches}
use Rattle.eden_world.specs.Steps.{CallsSo, CallsAsDue, Goes, ShowsIf}
use Rattle.eden_world.proofs.TurnEntries.{IsUp, is-up, turn-goes}

-- 1. A delivery

-- a reply that comes to a node is for a process
asker-there : (a : Asker) (n : ℕ) → IsNumber n → asking_station a ≡ n → shell_name a ≡ None
asker-there (Shell name) n number at = absurd (omega (arith, number.first, at))
asker-there (Process u p) n number at = refl

pub no-name : (t : Traffic) (k a b n : ℕ) (name : Option (List ℕ)) (why : Status) (values : List Datum) → b ≡ n → IsNumber n
    → AllowsReply t k a b name why values → name ≡ None
no-name t k a b n name why values is number allowed = out (call_at t k) (on-call (call_at t k)
    (λ c. goes_by c.place (asking_station c.asker) (target_station c) a b)
    (λ c p g. p.1 ∙ asker-there c.asker n number (eqb-true (asking_station c.asker) b
    (both-true (asking_station c.asker == b) (target_station c == a)
    (sym (ap (λ y. goes_by y (asking_station c.asker) (target_station c) a b) p.0) ∙ g)).0 ∙ is))
    allowed.delivered (first-passes (goes t a b) t.transit k allowed.first_in_queue))
  where
    out : (o : Option Call) → IsSomeAnd o (λ c. name ≡ None) → name ≡ None
    out None h = absurd h
    out (Some c) h = h

-- 2. An activation

abbrev touches_kept : Option Eject → Bool
touches_kept o = with_item o (λ e. is_some e.kept) false

by-kept : (types : _) (u : Uid) (how : StartEnd) (kept : Option (List ℕ)) → StartsSo types u kept how
    → is_some kept ≡ start_touches how None
by-kept types u start_end.Gone None h = refl
by-kept types u start_end.Ok None h = absurd h
by-kept types u start_end.Fault None h = absurd h
by-kept types u start_end.Damaged None h = absurd h
by-kept types u start_end.Stop None h = absurd h
by-kept types u start_end.Ok (Some bytes) h = refl
by-kept types u start_end.Damaged (Some bytes) h = refl
by-kept types u start_end.Fault (Some bytes) h = refl
by-kept types u start_end.Stop (Some bytes) h = refl
by-kept types u start_end.Gone (Some bytes) h = absurd h

failed-touches : (how : StartEnd) → GoesOnFrom how → (s : Site) (u : Uid) → StartsFrom s u true how None → true ≡ start_touches how None
failed-touches start_end.Ok goes s u h = refl
failed-touches start_end.Gone goes s u h = absurd h
failed-touches start_end.Fault goes s u h = refl
failed-touches start_end.Damaged goes s u h = refl
failed-touches start_end.Stop goes s u h = refl

picked-touches : (how : StartEnd) (p : Pick) → true ≡ start_touches how (Some p)
picked-touches start_end.Ok p = refl
picked-touches start_end.Gone p = refl
picked-touches start_end.Fault p = refl
picked-touches start_end.Damaged p = refl
picked-touches start_end.Stop p = refl

-- whether it touches the disk is told by its event
pub start-touches : (s : Site) (u : Uid) (how : StartEnd) (p : Option Pick) → GoesOnFrom how → AllowsAt s (event.Activate u how p)
    → touches_start s u ≡ start_touches how p
start-touches s u how p goes allowed = go (eject_in s u) refl allowed
  where
    settling : (q : Option Pick) → StartsFrom s u true how q → true ≡ start_touches how q
    settling None h = failed-touches how goes s u h
    settling (Some q) h = picked-touches how q

    on : (e : Eject) → eject_in s u ≡ Some e → (b : Bool) → StartsFrom s u b how p
        → cond b true (touches_kept (eject_in s u)) ≡ start_touches how p
    on e at true h = settling p h
    on e at false h = ap touches_kept at
        ∙ by-kept s.types u how e.kept (subst (λ o. IsSomeAnd o (λ x. StartsSo s.types u x.kept how)) at h.1)
        ∙ ap (start_touches how) (sym h.0)

    go : (o : Option Eject) → eject_in s u ≡ o → IsSomeAnd o (λ e. AllowsActivate s u how p e) → touches_start s u ≡ start_touches how p
    go None at h = absurd h
    go (Some e) at h = on e at (to_settle s) h.starts

site-there : (w : World) (m n : ℕ) (it : Node) (f : Site → Bool) → m ≡ n → node_at w n ≡ Some it
    → with_item (site_at w m) (λ s. node_if (f s) m) 0 ≡ node_if (f (site_of w n it)) n
site-there w m n it f is at = ap (λ j. with_item (site_at w j) (λ s. node_if (f s) j) 0) is
    ∙ ap (λ o. with_item (with_item o (λ y. Some (site_of w n y)) None) (λ s. node_if (f s) n) 0) at

shows-if : (b : Bool) (n before after : ℕ) (e : Entry) → ShowsIf b n after e → (b ≡ false → after ≡ before) → Shows e n before after
shows-if true n before after e h level = inl (h.0, h.1)
shows-if false n before after e h level = inr (h.0, h.1, level refl)

node-if : (b : Bool) (n clock : ℕ) (e : Entry) → ShowsIf b n clock e → e.node ≡ node_if b n
node-if true n clock e h = h.0
node-if false n clock e h = h.0

-- where the activation at its site touches no disk, the clock stays
pub activation-goes : (layout : Layout) (more : ℕ) (old new : InHand) (w : World) (n : ℕ) (h x : Held) (later : Mail) (e : Entry) (u : Uid)
    (how : StartEnd) (p : Option Pick) → AllSound w → WorldStands layout (suc more) old w → IsNumber n → old.seats n ≡ Some (up h)
    → TakesSeat n (up x) later old new → IsWhole x → h.seen.more ≤ x.seen.more + 1 → GoesOnFrom how
    → ((s : Site) → NodeStands layout old.types h old.mail s → touches_start s u ≡ false → clock_of x ≡ clock_of h)
    → TurnsIn layout old w n h x later (event.Activate u how p) → u.node ≡ n
    → e.event ≡ event.Activate u how p → e.broken ≡ [] → ShowsIf (start_touches how p) n (clock_of x) e → Goes layout more w None e old new
activation-goes layout more old new w n h x later e u how p sound stands number sits takes whole told goes level turns of_node
    its_event broken shows =
    turn-goes layout more old new w n h x later e sound stands number sits takes whole told
    (subst (TurnsIn layout old w n h x later) (sym its_event) turns)
    (subst (IsTurnAt n) (sym its_event) (of_node, goes)) (shows-if (start_touches how p) n (clock_of h) (clock_of x) e shows
    (λ none. level (site_of w n was.it) was.stands.stands (touches ∙ none))) broken
    (node-if (start_touches how p) n (clock_of x) e shows ∙ sym (ap (λ b. node_if b n) touches) ∙ sym (ap (touched w) its_event
    ∙ site-there w u.node n was.it (λ s. touches_start s u) of_node was.at))
    (subst (λ ev. StoreClock w ev e.clock) (sym its_event) tt)
  where
    was : IsUp layout (suc more) old w n h
    was = is-up layout (suc more) old w n h stands sits

    touches : touches_start (site_of w n was.it) u ≡ start_touches how p
    touches = start-touches (site_of w n was.it) u how p goes
        (turns was.it was.at (sound n was.it was.at) was.stands.stands).allowed

-- 3. A turn of the store

counted-rises : (before after : Counts) → DeviceCalls 1 before after (call_of_request request_end.Done)
    → (before.clock == after.clock) ≡ false
counted-rises before after c = go (before.clock == after.clock) refl
  where
    go : (b : Bool) → (before.clock == after.clock) ≡ b → b ≡ false
    go false is = refl
    go true is = absurd (omega (arith, eqb-true before.clock after.clock is, c.clock, c.counted))

equal-itself : (a b : ℕ) → b ≡ a → not (a == b) ≡ false
equal-itself a b is = grind (arith, is)

store-touches : (work : Work) (how : RequestEnd) (p : Option Pick) (before after : Counts) → GoesOnBy how → EndsSo work how p
    → CallsSo (makes_call work) how before after → makes_call work ≡ store_touches how before.clock after.clock
store-touches syncs request_end.Part p before after goes ends so = refl
store-touches reads request_end.Part p before after goes ends so = refl
store-touches calls request_end.Part p before after goes ends so = refl
store-touches unkept request_end.Part p before after goes ends so = absurd ends
store-touches without_room request_end.Part p before after goes ends so = absurd ends
store-touches calls request_end.Done p before after goes ends so = sym (ap not (counted-rises before after so))
store-touches unkept request_end.Done p before after goes ends so = sym (equal-itself before.clock after.clock so)
store-touches syncs request_end.Done p before after goes ends so = absurd ends
store-touches reads request_end.Done p before after goes ends so = absurd ends
store-touches without_room request_end.Done p before after goes ends so = absurd ends
store-touches without_room request_end.Full p before after goes ends so = refl
store-touches syncs request_end.Full p before after goes ends so = absurd ends
store-touches reads request_end.Full p before after goes ends so = absurd ends
store-touches calls request_end.Full p before after goes ends so = absurd ends
store-touches unkept request_end.Full p before after goes ends so = absurd ends
store-touches syncs request_end.Fault p before after goes ends so = refl
store-touches reads request_end.Fault p before after goes ends so = refl
store-touches calls request_end.Fault p before after goes ends so = refl
store-touches unkept request_end.Fault p before after goes ends so = absurd ends
store-touches without_room request_end.Fault p before after goes ends so = absurd ends
store-touches work request_end.Stop p before after goes ends so = absurd goes

-- a device call raises the clock by one, up to the last
one-later : (c : ℕ) → more_by 1 c ≡ one_more c
one-later c = grind (arith, nat_tests)

fits-called : (m : ℕ) (o : Option ℕ) (before after : Counts) (how : RequestEnd) → o ≡ Some before.clock → (b : Bool)
    → CallsSo b how before after → StoreClockFits (node_if b (suc m)) o after.clock after.clock
fits-called m o before after how at true so = (
  refl,
  subst (λ z. IfSome z (λ c. after.clock ≡ one_more c)) (sym at)
      (so.clock ∙ one-later before.clock),
)
fits-called m o before after how at false so = subst (λ z. IfSome z (λ c. after.clock ≡ c)) (sym at) so

pub store-touched : (s : Site) (u : Uid) (clock : ℕ) (how : RequestEnd) (p : Option Pick) (before after : Counts) → GoesOnBy how
    → AllowsAt s (event.Store u clock how p) → CallsAsDue s how before after → touches_store s ≡ store_touches how before.clock after.clock
store-touched s u clock how p before after goes allowed so = go (first_request s.node) allowed so
  where
    go : (o : Option StoreRequest) → IsSomeAnd o (λ r. AllowsStore s u how p r)
        → CallsSo (with_item o (λ r. makes_call (work_of s r)) false) how before after
        → with_item o (λ r. makes_call (work_of s r)) false ≡ store_touches how before.clock after.clock
    go None h so = absurd h
    go (Some r) h so = store-touches (work_of s r) how p before after goes h.ends so

-- its request is of an Eject of the node
store-of-node : (s : Site) (u : Uid) (clock : ℕ) (how : RequestEnd) (p : Option Pick) → IsSoundSite s
    → AllowsAt s (event.Store u clock how p)
    → u.node ≡ s.number
store-of-node s u clock how p sound allowed = go s.node.requests sound.node.there allowed
  where
    go : (rs : List StoreRequest) → AllThere rs s.node.ejects → IsSomeAnd (first rs) (λ r. AllowsStore s u how p r) → u.node ≡ s.number
    go [] there h = absurd h
    go (r ∷ rs) there h = ap (λ (v : Uid). v.node) h.of_uid ∙ sound.node.of_node r.uid there.0

pub level-untouched : (b : Bool) (how : RequestEnd) (before after : Counts) → CallsSo b how before after → b ≡ false
    → after.clock ≡ before.clock
level-untouched true how before after so is = absurd (cc is)
level-untouched false how before after so is = so

-- the call was made where the work of the site's store makes one
pub store-goes : (layout : Layout) (more : ℕ) (old new : InHand) (w : World) (n : ℕ) (h x : Held) (later : Mail) (e : Entry) (u : Uid)
    (how : RequestEnd) (p : Option Pick) → AllSound w → WorldStands layout (suc more) old w → IsNumber n → old.seats n ≡ Some (up h)
    → TakesSeat n (up x) later old new → IsWhole x → GoesOnBy how
    → ((s : Site) → 1 ≤ h.seen.more → NodeStands layout old.types h old.mail s → h.seen.more ≤ x.seen.more + 1)
    → TurnsIn layout old w n h x later (event.Store u (clock_of x) how p)
    → ((s : Site) → IsSoundSite s → NodeStands layout old.types h old.mail s → CallsAsDue s how h.seen.disk.counts x.seen.disk.counts)
    → e.event ≡ event.Store u (clock_of x) how p → e.broken ≡ []
    → ShowsIf (store_touches how (clock_of h) (clock_of x)) n (clock_of x) e → Goes layout more w None e old new
store-goes layout more old new w n h x later e u how p sound stands number sits takes whole goes told turns due its_event broken
    shows =
    turn-goes layout more old new w n h x later e sound stands number sits takes whole (told site some was.stands.stands)
    (subst (TurnsIn layout old w n h x later) (sym its_event) turns)
    (subst (IsTurnAt n) (sym its_event) (of_node, goes))
    (shows-if (store_touches how (clock_of h) (clock_of x)) n (clock_of h) (clock_of x) e shows
    (λ none. level-untouched (touches_store site) how h.seen.disk.counts x.seen.disk.counts so (touches ∙ none))) broken
    (node-if (store_touches how (clock_of h) (clock_of x)) n (clock_of x) e shows ∙ sym (ap (λ b. node_if b n) touches)
    ∙ sym (ap (touched w) its_event ∙ touched_is))
    (subst (λ ev. StoreClock w ev e.clock) (sym its_event)
    (subst (λ m. StoreClockFits m (clock_before w u.node) (clock_of x) e.clock) (sym touched_is) clock_is))
  where
    was : IsUp layout (suc more) old w n h
    was = is-up layout (suc more) old w n h stands sits

    site : Site
    site = site_of w n was.it

    some : 1 ≤ h.seen.more
    some = omega (arith, was.stands.told)

    allowed : AllowsAt site (event.Store u (clock_of x) how p)
    allowed = (turns was.it was.at (sound n was.it was.at) was.stands.stands).allowed

    of_node : u.node ≡ n
    of_node = store-of-node site u (clock_of x) how p (sound n was.it was.at) allowed

    so : CallsAsDue site how h.seen.disk.counts x.seen.disk.counts
    so = due site (sound n was.it was.at) was.stands.stands

    touches : touches_store site ≡ store_touches how (clock_of h) (clock_of x)
    touches = store-touched site u (clock_of x) how p h.seen.disk.counts x.seen.disk.counts goes allowed so

    touched_is : touched w (event.Store u (clock_of x) how p) ≡ node_if (touches_store site) n
    touched_is = site-there w u.node n was.it touches_store of_node was.at

    before_is : clock_before w u.node ≡ Some (clock_of h)
    before_is = ap (clock_before w) of_node ∙ ap (λ o. with_item o (λ (it : Node). it.clock) None) was.at ∙ was.stands.stands.disk.its_clock

    clock_is : StoreClockFits (node_if (touches_store site) n) (clock_before w u.node) (clock_of x) e.clock
    clock_is = shown (touches_store site) n number.first (clock_before w u.node) before_is so
        (subst (λ b. ShowsIf b n (clock_of x) e) (sym touches) shows)
      where
        shown : (b : Bool) (m : ℕ) → 1 ≤ m → (o : Option ℕ) → o ≡ Some (clock_of h) → CallsSo b how h.seen.disk.counts x.seen.disk.counts
            → ShowsIf b n (clock_of x) e → StoreClockFits (node_if b m) o (clock_of x) e.clock
        shown b zero least o at so s = absurd (omega (arith, least))
        shown true (suc m) least o at so s = subst (λ c. StoreClockFits (suc m) o (clock_of x) c) (sym s.1)
            (fits-called m o h.seen.disk.counts x.seen.disk.counts how at true so)
        shown false (suc m) least o at so s = fits-called m o h.seen.disk.counts x.seen.disk.counts how at false so
