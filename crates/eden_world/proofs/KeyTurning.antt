-- The turn of a key behind which its node goes on, by what the station's turn says of it.
use Rattle.std.proofs.Common.{◌≡◌, ◌≤◌, ◌+◌, ℕ, zero, suc, ◌==◌, ◌||◌, Bool, true, false, not, [], Option, None, Some, inr, refl}
use Rattle.std.proofs.Common.{sym, ◌∙◌, ap, subst, arith}
use Rattle.std.specs.Prelude.{IsSomeAnd}
use Rattle.std.proofs.lemmas.Bool.{eq-eqb}
use Rattle.std.proofs.lemmas.Bool.Decides.{nat_tests}
use Rattle.capability.specs.declared.Uid.{Uid}
use Rattle.eden_disk.specs.Calls.{Counts, End, more_by}
use Rattle.eden_model.specs.Map.{with_item}
use Rattle.invocation.specs.Mail.{Mail}
use Rattle.passive_store.specs.Kept.{Layout}
use Rattle.passive_store.specs.Seen.{DiskSeen}
use Rattle.passive_store.specs.declared.store.Pick.{Pick}
use Rattle.journal.specs.declared.event.Event.{Event}
use Rattle.journal.specs.declared.event.Event.TheVariants as event
use Rattle.journal.specs.declared.event.Entry.{Entry}
use Rattle.journal.specs.declared.event.Key.{Key}
use Rattle.journal.specs.declared.event.RequestEnd.{RequestEnd}
use Rattle.journal.specs.declared.event.RequestEnd.TheVariants as end
use Rattle.journal.specs.declared.event.StartEnd.{StartEnd}
use Rattle.journal.specs.declared.event.StartEnd.TheVariants as start_end
use Rattle.journal.specs.Crashes.{crashed}
use Rattle.journal.specs.Settling.{first_request}
use Rattle.journal.specs.Starts.{start_settled}
use Rattle.journal.specs.Stores.{AllowsStore, Work, syncs, reads, unkept, without_room, calls, EndsSo, doubted, work_of, worked}
use Rattle.journal.specs.Sites.{AllSound}
use Rattle.journal.specs.Step.{AllowsAt, StoreClock, key_of, site_turn, touched, touches_start, touches_store}
use Rattle.journal.specs.World.{World, Site, StoreRequest, on_node, on_traffic, site_of}
use Rattle.checkpoint.specs.Touches.{Touches, TouchesOnce}
use Rattle.eden_kernel.specs.DiskTurns.{call_of_request}
use Rattle.eden_kernel.specs.Stands.{Held, IsWhole, NodeStands}
use Rattle.eden_kernel.specs.Turns.{clock_of}
use Rattle.scheduled_node.specs.Touched.{TurnTouches, ShowsClock}
use Rattle.eden_world.specs.Worlds.{up, InHand, IsNumber, WorldStands}
use Rattle.eden_world.specs.Steps.{TakesSeat, Goes, TurnsIn, IsTurnAt, GoesOnFrom, GoesOnBy, ShowsIf, turn_touches, start_touches}
use Rattle.eden_world.specs.Steps.{store_touches, CallsSo, CallsAsDue}
use Rattle.eden_world.proofs.EachTurn.{activation-goes, store-goes, no-name, start-touches, store-touched, level-untouched}
use Rattle.eden_world.proofs.TurnEntries.{IsUp, is-up, turn-goes}

none-made : (c d : ℕ) → d ≡ more_by 0 c → d ≡ c
none-made c d is = grind (arith, nat_tests)

no-calls : (made : ℕ) → ((1 ≤ made) → ⊥) → made ≡ 0
no-calls made none = go made none
  where
    go : (m : ℕ) → ((1 ≤ m) → ⊥) → m ≡ 0
    go zero h = refl
    go (suc m) h = absurd (h (omega arith))

-- an activation that makes no device call leaves the clock
untouched : (b : Bool) (x y : Counts) (how : End) → Touches b x y how → b ≡ false → y.clock ≡ x.clock
untouched b x y how t is = none-made x.clock y.clock (subst (λ m. y.clock ≡ more_by m x.clock)
    (no-calls t.made (λ some. let bad : true ≡ false = sym (t.exactly.1 some) ∙ is in cc bad)) t.counts.clock)

-- and a turn of the store calls as it has to
pub as-due : (b : Bool) (how : RequestEnd) (x y : Counts) → TouchesOnce b x y (call_of_request how) → CallsSo b how x y
as-due true how x y t = t.counts
as-due false how x y t = none-made x.clock y.clock t.counts.clock

-- what the clocks tell is told by the event too, where one that touches nothing leaves them
pub told-by-event : (t : Bool) (before after : ℕ) → (t ≡ false → after ≡ before) → (not (before == after) || t) ≡ t
told-by-event true before after level = go (not (before == after))
  where
    go : (b : Bool) → (b || true) ≡ true
    go true = refl
    go false = refl
told-by-event false before after level = ap (λ b. not b || false) (eq-eqb before after (sym (level refl)))

module _ (layout : Layout) (more : ℕ) (old new : InHand) (w : World) (n : ℕ) (h x : Held) (later : Mail) (e : Entry)
    (sound : AllSound w) (stands : WorldStands layout (suc more) old w) (number : IsNumber n) (sits : old.seats n ≡ Some (up h))
    (takes : TakesSeat n (up x) later old new) (whole : IsWhole x)
    (room : (s : Site) → 1 ≤ h.seen.more → NodeStands layout old.types h old.mail s → h.seen.more ≤ x.seen.more + 1)
    (broken : e.broken ≡ []) where
  was : IsUp layout (suc more) old w n h
  was = is-up layout (suc more) old w n h stands sits

  some : 1 ≤ h.seen.more
  some = omega (arith, was.stands.told)

  -- it touched no disk
  still : TurnsIn layout old w n h x later e.event → IsTurnAt n e.event → x.seen.disk ≡ h.seen.disk
      → ShowsIf (not (clock_of h == clock_of x) || false) n (clock_of x) e → touched w e.event ≡ 0
      → StoreClock w e.event e.clock → Goes layout more w None e old new
  still turns is same shows untouched clock =
      turn-goes layout more old new w n h x later e sound stands number sits takes whole (room _ some was.stands.stands) turns is
      (inr (none.0, none.1, level)) broken (none.0 ∙ sym untouched) clock
    where
      level : clock_of x ≡ clock_of h
      level = ap (λ (d : DiskSeen). d.counts.clock) same

      none : ShowsIf false n (clock_of x) e
      none = subst (λ b. ShowsIf b n (clock_of x) e) (told-by-event false (clock_of h) (clock_of x) (λ is_false. level)) shows

  -- by its event
  pub key-turn-goes : (ev : Event) → e.event ≡ ev → IsTurnAt n ev → TurnsIn layout old w n h x later ev
      → ((s : Site) → 1 ≤ h.seen.more → NodeStands layout old.types h old.mail s → TurnTouches s ev h.seen.disk x.seen.disk)
      → ShowsClock ev (clock_of x) → ShowsIf (turn_touches ev (clock_of h) (clock_of x)) n (clock_of x) e
      → Goes layout more w None e old new
  key-turn-goes (event.Request k a b refused) is at turns touches clock shows =
      still (subst (TurnsIn layout old w n h x later) (sym is) turns) (subst (IsTurnAt n) (sym is) at) (touches _ some was.stands.stands)
      shows
      (ap (touched w) is) (subst (λ v. StoreClock w v e.clock) (sym is) tt)
  key-turn-goes (event.Reply k a b name why values) is at turns touches clock shows =
      still (subst (TurnsIn layout old w n h x later) (sym is) turns) (subst (IsTurnAt n) (sym is) at) (touches _ some was.stands.stands)
      shows
      (ap (touched w) is) (subst (λ v. StoreClock w v e.clock) (sym is) tt)
  key-turn-goes (event.Start k u p) is at turns touches clock shows =
      still (subst (TurnsIn layout old w n h x later) (sym is) turns) (subst (IsTurnAt n) (sym is) at) (touches _ some was.stands.stands)
      shows
      (ap (touched w) is) (subst (λ v. StoreClock w v e.clock) (sym is) tt)
  key-turn-goes (event.Process u p said) is at turns touches clock shows =
      still (subst (TurnsIn layout old w n h x later) (sym is) turns) (subst (IsTurnAt n) (sym is) at) (touches _ some was.stands.stands)
      shows
      (ap (touched w) is) (subst (λ v. StoreClock w v e.clock) (sym is) tt)
  key-turn-goes (event.Activate u how p) is at turns touches clock shows =
      activation-goes layout more old new w n h x later e u how p sound stands number sits takes whole (room _ some was.stands.stands) at.1
      level turns at.0 is broken (subst (λ b. ShowsIf b n (clock_of x) e) (told-by-event (start_touches how p) (clock_of h) (clock_of x)
      (λ none. level (site_of w n was.it) was.stands.stands (start-touches (site_of w n was.it) u how p at.1
      (turns was.it was.at (sound n was.it was.at) was.stands.stands).allowed ∙ none))) shows)
    where
      level : (s : Site) → NodeStands layout old.types h old.mail s → touches_start s u ≡ false → clock_of x ≡ clock_of h
      level s stood none = untouched (touches_start s u) h.seen.disk.counts x.seen.disk.counts _ (touches s some stood) none
  key-turn-goes (event.Store u shown how p) is at turns touches clock shows =
      store-goes layout more old new w n h x later e u how p sound stands number sits takes whole at.1 room
      (subst (λ c. TurnsIn layout old w n h x later (event.Store u c how p)) clock turns) (λ s there stood. due s stood)
      (is ∙ ap (λ c. event.Store u c how p) clock) broken (subst (λ b. ShowsIf b n (clock_of x) e)
      (told-by-event (store_touches how (clock_of h) (clock_of x)) (clock_of h) (clock_of x) (λ none.
      level-untouched (touches_store here) how h.seen.disk.counts x.seen.disk.counts (due here was.stands.stands)
      (store-touched here u shown how p h.seen.disk.counts x.seen.disk.counts at.1
      (turns was.it was.at (sound n was.it was.at) was.stands.stands).allowed (due here was.stands.stands) ∙ none))) shows)
    where
      here : Site
      here = site_of w n was.it

      due : (s : Site) → NodeStands layout old.types h old.mail s → CallsAsDue s how h.seen.disk.counts x.seen.disk.counts
      due s stood = as-due (touches_store s) how h.seen.disk.counts x.seen.disk.counts (touches s some stood)
  key-turn-goes _ is at turns touches clock shows = absurd at

-- The turn behind which the node goes on is at the node, and no stop.
crashed-down : (s : Site) → (crashed s).node.up ≡ false
unfolding on_node on_traffic
crashed-down s = refl

not-both : {A : Type 0} (b : Bool) → b ≡ false → b ≡ true → A
not-both b off on = absurd (let bad : false ≡ true = sym off ∙ on in cc bad)

goes-from : (reach : ℕ → Bool) (s : Site) (u : Uid) (how : StartEnd) (p : Option Pick) → (site_turn reach (event.Activate u how p)
    s).node.up ≡ true
    → GoesOnFrom how
goes-from reach s u start_end.Ok p on = tt
goes-from reach s u start_end.Gone p on = tt
goes-from reach s u start_end.Fault p on = tt
goes-from reach s u start_end.Damaged p on = tt
goes-from reach s u start_end.Stop p on = not-both _ (crashed-down (start_settled p s)) on

stop-down : (work : Work) (r : StoreRequest) (p : Option Pick) (s : Site) → EndsSo work end.Stop p
    → (worked work r end.Stop p s).node.up ≡ false
stop-down syncs r p s ends = crashed-down s
stop-down reads r p s ends = crashed-down s
stop-down calls r p s ends = crashed-down (doubted r s)
stop-down unkept r p s ends = absurd ends
stop-down without_room r p s ends = absurd ends

goes-by : (reach : ℕ → Bool) (s : Site) (u : Uid) (clock : ℕ) (how : RequestEnd) (p : Option Pick)
    → AllowsAt s (event.Store u clock how p) → (site_turn reach (event.Store u clock how p) s).node.up ≡ true → GoesOnBy how
goes-by reach s u clock end.Part p allowed on = tt
goes-by reach s u clock end.Done p allowed on = tt
goes-by reach s u clock end.Full p allowed on = tt
goes-by reach s u clock end.Fault p allowed on = tt
goes-by reach s u clock end.Stop p allowed on = go (first_request s.node) allowed on
  where
    go : (o : Option StoreRequest) → IsSomeAnd o (λ r. AllowsStore s u end.Stop p r)
        → (with_item o (λ r. worked (work_of s r) r end.Stop p s) s).node.up ≡ true → GoesOnBy end.Stop
    go None h on = absurd h
    go (Some r) h on = not-both _ (stop-down (work_of s r) r p s h.ends) on

station-of : (a : Key) (k : Key) → Some a ≡ Some k → a.station ≡ k.station
station-of a k same = ap (λ (x : Key). x.station) (let e : a ≡ k = cc same in e)

pub turn-of-key : (reach : ℕ → Bool) (s : Site) (key : Key) (n : ℕ) (ev : Event) → IsNumber n → key.station ≡ n
    → AllowsAt s ev → (site_turn reach ev s).node.up ≡ true → key_of ev ≡ Some key → IsTurnAt n ev
turn-of-key reach s key n (event.Request k a b refused) number at allowed on is = station-of _ key is ∙ at
turn-of-key reach s key n (event.Reply k a b name why values) number at allowed on is = (
  station-of _ key is ∙ at,
  no-name s.traffic k a b n name why values (station-of _ key is ∙ at) number allowed,
)
turn-of-key reach s key n (event.Activate u how p) number at allowed on is = (station-of _ key is ∙ at, goes-from reach s u how p on)
turn-of-key reach s key n (event.Start k u p) number at allowed on is = station-of _ key is ∙ at
turn-of-key reach s key n (event.Process u p said) number at allowed on is = station-of _ key is ∙ at
turn-of-key reach s key n (event.Store u clock how p) number at allowed on is =
    (station-of _ key is ∙ at, goes-by reach s u clock how p allowed on)
turn-of-key reach s key n _ number at allowed on is = absurd (cc is)
