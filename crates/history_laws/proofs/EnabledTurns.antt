-- In a sound world each enabled key has its turn.
use Rattle.std.proofs.Common.{◌≡◌, ◌==◌, ◌+◌, ◌≤◌, ◌*◌, ◌/◌, ℕ, zero, suc, nat_lt, Bool, true, false, cond, not, ◌&&◌, List, [], ◌∷◌}
use Rattle.std.proofs.Common.{◌++◌, map, length, Option, None, Some, is_some, refl, sym, ◌∙◌, ap, subst, arith}
use Rattle.std.specs.Prelude.{IsSomeAnd, IfSome}
use Rattle.std.specs.List.{All, filter, flat_map, find}
use Rattle.std.specs.Ordering.{nat_cmp}
use Rattle.std.specs.Cmp.{nat_cmp_total}
use Rattle.std.proofs.lemmas.List.Elements.{All-append, All-map}
use Rattle.capability.specs.declared.Uid.{Uid}
use Rattle.capability.proofs.Uids.{uid_cmp_total}
use Rattle.eden_value.specs.Datum.{Datum}
use Rattle.eden_value.specs.declared.status.Status.{Status}
use Rattle.eden_model.specs.Map.{with_item, first, value_at, uid_cmp}
use Rattle.eden_model.specs.Crew.{Waiting, nothing, Process, Invocation, may_start, least_free}
use Rattle.eden_model.specs.Traffic.{Place, asked, held, answered, done as over, Call, call_at, asking_station, target_station, goes_by}
use Rattle.eden_model.specs.Traffic.{goes, next_message, names_of, shell_name}
use Rattle.epl_syntax.specs.declared.effect.Effect.{Effect}
use Rattle.epl_syntax.specs.declared.effect.Effect.TheVariants as effect
use Rattle.epl_syntax.specs.Edentype.{Edentype}
use Rattle.epl_syntax.specs.Meaning.{turn}
use Rattle.journal.specs.declared.event.Key.{Key}
use Rattle.journal.specs.declared.event.Event.{Event}
use Rattle.journal.specs.declared.event.Event.TheVariants as event
use Rattle.journal.specs.declared.event.StartEnd.{StartEnd}
use Rattle.journal.specs.declared.event.StartEnd.TheVariants as start_end
use Rattle.journal.specs.declared.event.RequestEnd.{RequestEnd}
use Rattle.journal.specs.declared.event.RequestEnd.TheVariants as end
use Rattle.journal.specs.World.{World, Site, Node, Eject, Active, StoreRequest, Task, node_at, site_of, site_at, eject_in}
use Rattle.journal.specs.Deliveries.{refusal_at}
use Rattle.journal.specs.Processes.{CreatesKnown, next_start, invocation, serving, shown_of}
use Rattle.journal.specs.Settling.{to_settle}
use Rattle.journal.specs.Stores.{AllowsStore, Work, syncs, reads, unkept, without_room, calls, work_of}
use Rattle.journal.specs.Starts.{StartsFrom, is_worked_on}
use Rattle.journal.specs.Enabled.{no_uid, stations, delivery, deliveries, activity, is_to_activate, is_startable, is_ready, ready}
use Rattle.journal.specs.Enabled.{activations, starts, processes, store_of, node_keys, enabled}
use Rattle.journal.specs.Step.{AllowsAt, AllowsInTurn, touched, touches_store, node_if, last_clock, one_more, clock_before, ClockFits}
use Rattle.journal.specs.Step.{StoreClock, StoreClockFits, breaks, key_of}
use Rattle.journal.specs.Laws.{HasTurn}
use Rattle.journal.specs.Sites.{IsManned, Sound, SoundWorld}
use Rattle.history_laws.proofs.Tasks.{FitsEffect, EffectsFit}
use Rattle.history_laws.proofs.SafeRuns.{same-number}
use Rattle.history_laws.proofs.StoreLaw.{first-there}
use Rattle.history_laws.proofs.EntryLists.{all-none, all-one, all-where, all-flat, all-found, first-passes, found-mapped}

-- 1. Entries

both-true : (a b : Bool) → (a && b) ≡ true → (a ≡ true) × (b ≡ true)
both-true true true e = (refl, refl)
both-true true false e = absurd (cc e)
both-true false b e = absurd (cc e)

-- an entry that touches no disk
plain-turn : (w : World) (k : Key) (e : Event) → key_of e ≡ Some k → touched w e ≡ 0 → AllowsInTurn w e → ((c : ℕ) → StoreClock w e c)
    → HasTurn w k
plain-turn w k e key untouched allowed store = record {
  entry = record { event = e; node = 0; clock = 0; broken = names_of (breaks e) w.traffic };
  key = key;
  allowed = record { event = allowed; broken = refl; disk = sym untouched; clock = refl; store_clock = store 0 };
}

-- a clock that fits a disk: what it was
abbrev clock_as_was : World → ℕ → ℕ
clock_as_was w zero = 0
clock_as_was w (suc n) = with_item (clock_before w (suc n)) (λ b. b) 0

fits-as_was : (w : World) (n : ℕ) → ClockFits w n (clock_as_was w n)
fits-as_was w zero = refl
fits-as_was w (suc n) = go (clock_before w (suc n))
  where
    go : (o : Option ℕ) → IfSome o (λ b. b ≤ with_item o (λ b. b) 0)
    go None = tt
    go (Some b) = omega arith

-- 2. Deliveries

request-turn : (H : ℕ → Bool) (w : World) → SoundWorld H w → (a b k : ℕ) (c : Call) → next_message w.traffic a b ≡ Some k
    → call_at w.traffic k ≡ Some c → c.place ≡ asked → target_station c ≡ b → HasTurn w (delivery b a)
request-turn H w h a b k c is at place target = go (node_at w b) refl
    (h.place.present b ∙ subst (λ n. H n ≡ true) target (h.asked.at k c at place))
  where
    go : (o : Option Node) → node_at w b ≡ o → is_some (value_at nat_cmp b w.nodes) ≡ true → HasTurn w (delivery b a)
    go None none some = absurd (let bad : false ≡ true = sym (ap is_some none) ∙ some in cc bad)
    go (Some it) here some = plain-turn w (delivery b a) (event.Request k a b (refusal_at (site_of w b it) c)) refl refl
        (rw here (record { first_in_queue = is; delivered = rw at (place, refl) })) (λ n. tt)

reply-turn : (w : World) (a b k : ℕ) (c : Call) (s : Status) (values : List Datum) → next_message w.traffic a b ≡ Some k
    → call_at w.traffic k ≡ Some c → c.place ≡ answered s values → HasTurn w (delivery b a)
reply-turn w a b k c s values is at place = plain-turn w (delivery b a) (event.Reply k a b (shell_name c.asker) s values) refl refl
    (record { first_in_queue = is; delivered = rw at (place, refl) }) (λ n. tt)

message-turn : (H : ℕ → Bool) (w : World) → SoundWorld H w → (a b k : ℕ) → next_message w.traffic a b ≡ Some k → HasTurn w (delivery b a)
message-turn H w h a b k is = go (call_at w.traffic k) refl (first-passes (goes w.traffic a b) w.traffic.transit k is)
  where
    by_place : (c : Call) → call_at w.traffic k ≡ Some c → (p : Place) → c.place ≡ p
        → goes_by p (asking_station c.asker) (target_station c) a b ≡ true → HasTurn w (delivery b a)
    by_place c at asked place g = request-turn H w h a b k c is at place
        (same-number (target_station c) b (both-true (asking_station c.asker == a) (target_station c == b) g).1)
    by_place c at held place g = absurd (cc g)
    by_place c at (answered s values) place g = reply-turn w a b k c s values is at place
    by_place c at over place g = absurd (cc g)

    go : (o : Option Call) → call_at w.traffic k ≡ o
        → with_item o (λ c. goes_by c.place (asking_station c.asker) (target_station c) a b) false ≡ true → HasTurn w (delivery b a)
    go None at g = absurd (cc g)
    go (Some c) at g = by_place c at c.place refl g

deliveries-turn : (H : ℕ → Bool) (w : World) → SoundWorld H w → (b : ℕ) → All (HasTurn w) (deliveries w b)
deliveries-turn H w h b = All-map (HasTurn w) (delivery b) (filter (λ from. is_some (next_message w.traffic from b)) (stations w))
    (all-where (λ from. Unit {0}) (λ from. HasTurn w (delivery b from)) (λ from. is_some (next_message w.traffic from b))
    (λ a u is. go a (next_message w.traffic a b) refl is) (stations w) (λ k d lt. tt))
  where
    go : (a : ℕ) (o : Option ℕ) → next_message w.traffic a b ≡ o → is_some o ≡ true → HasTurn w (delivery b a)
    go a None at is = absurd (cc is)
    go a (Some k) at is = message-turn H w h a b k at

-- 3. Activations: by what is kept, or because the disk may fail

abbrev ends_as : Bool → Option (List ℕ) → StartEnd
ends_as true kept = start_end.Fault
ends_as false None = start_end.Gone
ends_as false (Some bytes) = start_end.Fault

starts-from : (s : Site) (u : Uid) (e : Eject) → eject_in s u ≡ Some e → StartsFrom s u (to_settle s) (ends_as (to_settle s) e.kept) None
starts-from s u e is = go (to_settle s) e.kept refl
  where
    go : (b : Bool) (kept : Option (List ℕ)) → e.kept ≡ kept → StartsFrom s u b (ends_as b kept) None
    go true kept at = tt
    go false None at = (refl, rw (is, at) tt)
    go false (Some bytes) at = (refl, rw (is, at) tt)

activation-turn : (w : World) (n : ℕ) (it : Node) (u : Uid) (e : Eject) → node_at w n ≡ Some it → u.node ≡ n
    → eject_in (site_of w n it) u ≡ Some e → is_to_activate (site_of w n it) u e ≡ true → HasTurn w (activity n 2 u 0)
activation-turn w n it u e at number is to = record {
  entry = record { event = ev; node = touched w ev; clock = clock_as_was w (touched w ev); broken = names_of (breaks ev) w.traffic };
  key = ap (λ m. Some (activity m 2 u 0)) number;
  allowed = record {
    event = subst (λ m. IsSomeAnd (with_item (node_at w m) (λ it. Some (site_of w m it)) None) (λ s. AllowsAt s ev))
        (sym number) (rw at here);
    broken = refl;
    disk = refl;
    clock = fits-as_was w (touched w ev);
    store_clock = tt;
  };
}
  where
    s : Site
    s = site_of w n it

    ev : Event
    ev = event.Activate u (ends_as (to_settle s) e.kept) None

    passive : (o : Option Active) → not (is_some o) ≡ true → o ≡ None
    passive None h = refl
    passive (Some a) h = absurd (cc h)

    not-true : (b : Bool) → not b ≡ true → b ≡ false
    not-true true h = absurd (cc h)
    not-true false h = refl

    here : AllowsAt s ev
    here = let x = both-true (not (is_some e.active)) (is_some (first e.queued) && not (is_worked_on s u)) to in
        let y = both-true (is_some (first e.queued)) (not (is_worked_on s u)) x.1 in
        rw is (record {
          is_passive = passive e.active x.0;
          has_queued = y.0;
          not_worked_on = not-true (is_worked_on s u) y.1;
          starts = starts-from s u e is;
        })

-- 4. Starts

start-turn : (w : World) (n : ℕ) (it : Node) (u : Uid) (e : Eject) → node_at w n ≡ Some it → u.node ≡ n
    → eject_in (site_of w n it) u ≡ Some e → is_startable w.traffic e ≡ true → HasTurn w (activity n 3 u 0)
start-turn w n it u e at number is may = by_active e.active refl may
  where
    turns : (a : Active) → e.active ≡ Some a → (k : ℕ) → next_start w.traffic e a ≡ Some (invocation a.kind w.traffic k)
        → HasTurn w (activity n 3 u 0)
    turns a active k next = plain-turn w (activity n 3 u 0) (event.Start k u (least_free a.crew))
        (ap (λ m. Some (activity m 3 u 0)) number) refl
        (subst (λ m. IsSomeAnd (with_item (node_at w m) (λ it. Some (site_of w m it)) None)
        (λ s. AllowsAt s (event.Start k u (least_free a.crew)))) (sym number)
        (rw (at, is, active) (record { earliest = next; number = refl }))) (λ c. tt)

    found : (a : Active) → e.active ≡ Some a → (b : Bool) (i : Invocation)
        → cond b (find (may_start a.crew) (map (invocation a.kind w.traffic) e.queued)) None ≡ Some i → next_start w.traffic e a ≡ Some i
        → HasTurn w (activity n 3 u 0)
    found a active false i is next = absurd (cc is)
    found a active true i is next = let x = found-mapped (invocation a.kind w.traffic) (may_start a.crew) e.queued i is in
        turns a active x.0 (next ∙ ap Some (sym x.1))

    by_start : (a : Active) → e.active ≡ Some a → (o : Option Invocation) → next_start w.traffic e a ≡ o → is_some o ≡ true
        → HasTurn w (activity n 3 u 0)
    by_start a active None next some = absurd (cc some)
    by_start a active (Some i) next some = found a active (nat_lt (length a.crew.processes) 16) i next next

    by_active : (o : Option Active) → e.active ≡ o → with_item o (λ a. is_some (next_start w.traffic e a)) false ≡ true
        → HasTurn w (activity n 3 u 0)
    by_active None active some = absurd (cc some)
    by_active (Some a) active some = by_start a active (next_start w.traffic e a) refl some

-- 5. Turns of processes

-- a turn creates only Ejects of types that are there
pub creates-known : (types : List Edentype) (serves : Bool) (e : Effect) → FitsEffect types serves e → CreatesKnown types e
creates-known types serves (effect.Create name) fits = fits
creates-known types serves _ fits = tt

ready-is : (q : Process) → is_ready q.waits ≡ true → q.waits ≡ nothing
ready-is q is = go q.waits is
  where
    go : (v : Waiting) → is_ready v ≡ true → v ≡ nothing
    go nothing e = refl
    go _ e = absurd (cc e)

process-turn : (w : World) (n : ℕ) (it : Node) (u : Uid) (e : Eject) (a : Active) (p : ℕ) (q : Process) → EffectsFit w.types w
    → node_at w n ≡ Some it → u.node ≡ n → eject_in (site_of w n it) u ≡ Some e → e.active ≡ Some a → IsManned a
    → value_at nat_cmp p a.crew.processes ≡ Some q → is_ready q.waits ≡ true → HasTurn w (activity u.node 4 u p)
process-turn w n it u e a p q fits at number is active m found waits = go (value_at nat_cmp p a.tasks) refl (m.tasked p (ap is_some found))
  where
    go : (o : Option Task) → value_at nat_cmp p a.tasks ≡ o → is_some o ≡ true → HasTurn w (activity u.node 4 u p)
    go None none some = absurd (cc some)
    go (Some t) task some = let said = shown_of (site_of w n it) q.serves (turn a.kind a.vars t.rest t.answer u).effect in
        plain-turn w (activity u.node 4 u p) (event.Process u p said) refl refl
        (subst (λ m. IsSomeAnd (with_item (node_at w m) (λ it. Some (site_of w m it)) None) (λ s. AllowsAt s (event.Process u p said)))
        (sym number)
        (rw (at, is, active, found) (record {
          ready = ready-is q waits;
          known = rw task (creates-known w.types (is_some (serving a p)) (turn a.kind a.vars t.rest t.answer u).effect
              (fits n it at u p e is a active (turn a.kind a.vars t.rest t.answer u)
              (ap (λ o. with_item o (λ t. Some (turn a.kind a.vars t.rest t.answer u)) None) task)));
          shows = rw task refl;
        }))) (λ c. tt)

-- 6. Turns of the store

more-one : (c : ℕ) → c ≤ one_more c
more-one c = go (nat_lt c last_clock)
  where
    go : (b : Bool) → c ≤ cond b (c + 1) c
    go true = omega arith
    go false = omega arith

abbrev ends_by : Work → RequestEnd
ends_by unkept = end.Done
ends_by without_room = end.Full
ends_by _ = end.Fault

store-turn : (w : World) (n : ℕ) (it : Node) (r : StoreRequest) → node_at w n ≡ Some it → r.uid.node ≡ n → first it.requests ≡ Some r
    → Sound n it → HasTurn w (activity n 5 no_uid 0)
store-turn w n it r at number is h = by_disk (touched w (ev 0)) refl
  where
    s : Site
    s = site_of w n it

    how : RequestEnd
    how = ends_by (work_of s r)

    ev : ℕ → Event
    ev shown = event.Store r.uid shown how None

    store : (x : Work) → work_of s r ≡ x → AllowsStore s r.uid (ends_by x) None r
    store syncs w_is = record { of_uid = refl; ends = rw w_is refl; call_left = rw w_is tt }
    store reads w_is = record { of_uid = refl; ends = rw w_is refl; call_left = rw w_is tt }
    store unkept w_is = record { of_uid = refl; ends = rw w_is refl; call_left = rw w_is tt }
    store without_room w_is = record { of_uid = refl; ends = rw w_is refl; call_left = rw w_is tt }
    store calls w_is = record {
      of_uid = refl;
      ends = rw w_is refl;
      call_left = rw w_is (subst (λ o. IfSome o (λ r. r.made + 1 ≤ 2 * (it.size / 1024) + 4)) is h.call_left);
    }

    allowed : (shown : ℕ) → AllowsInTurn w (ev shown)
    allowed shown = subst (λ m. IsSomeAnd (with_item (node_at w m) (λ it. Some (site_of w m it)) None) (λ s. AllowsAt s (ev shown)))
        (sym number) (rw (at, is) (store (work_of s r) refl))

    own-node : (b : Bool) (m : ℕ) → node_if b r.uid.node ≡ suc m → r.uid.node ≡ suc m
    own-node true m e = e
    own-node false m e = absurd (cc e)

    disk-node : (m : ℕ) → touched w (ev 0) ≡ suc m → r.uid.node ≡ suc m
    disk-node m e = go (site_at w r.uid.node) e
      where
        go : (o : Option Site) → with_item o (λ s. node_if (touches_store s) r.uid.node) 0 ≡ suc m → r.uid.node ≡ suc m
        go None e = absurd (cc e)
        go (Some x) e = own-node (touches_store x) m e

    before : Option ℕ
    before = clock_before w r.uid.node

    as-was : (o : Option ℕ) → IfSome o (λ b. with_item o (λ b. b) 0 ≡ b)
    as-was None = tt
    as-was (Some b) = refl

    as-next : (o : Option ℕ) → IfSome o (λ b. with_item o one_more 0 ≡ one_more b)
    as-next None = tt
    as-next (Some b) = refl

    not-before : (o : Option ℕ) → IfSome o (λ b. b ≤ with_item o one_more 0)
    not-before None = tt
    not-before (Some b) = more-one b

    by_disk : (x : ℕ) → touched w (ev 0) ≡ x → HasTurn w (activity n 5 no_uid 0)
    by_disk zero e = let c = with_item before (λ b. b) 0 in record {
      entry = record { event = ev c; node = 0; clock = 0; broken = names_of (breaks (ev c)) w.traffic };
      key = ap (λ m. Some (activity m 5 no_uid 0)) number;
      allowed = record {
        event = allowed c;
        broken = refl;
        disk = sym e;
        clock = refl;
        store_clock = subst (λ x. StoreClockFits x before c 0) (sym e) (as-was before);
      };
    }
    by_disk (suc m) e = let c = with_item before one_more 0 in record {
      entry = record { event = ev c; node = suc m; clock = c; broken = names_of (breaks (ev c)) w.traffic };
      key = ap (λ m. Some (activity m 5 no_uid 0)) number;
      allowed = record {
        event = allowed c;
        broken = refl;
        disk = sym e;
        clock = subst (λ k. ClockFits w k c) (disk-node m e) (fits r.uid.node (disk-node m e));
        store_clock = subst (λ x. StoreClockFits x before c c) (sym e) (refl, as-next before);
      };
    }
      where
        fits : (k : ℕ) → k ≡ suc m → ClockFits w k (with_item (clock_before w k) one_more 0)
        fits zero e = absurd (cc e)
        fits (suc j) e = not-before (clock_before w (suc j))

-- 7. All keys

node-turns : (H : ℕ → Bool) (w : World) → SoundWorld H w → EffectsFit w.types w → (n : ℕ) (it : Node) → node_at w n ≡ Some it
    → All (HasTurn w) (node_keys (site_of w n it))
node-turns H w h fits n it at =
    All-append (HasTurn w) (activations s ++ starts s ++ processes s) (store_of s)
    (All-append (HasTurn w) (activations s ++ starts s) (processes s)
    (All-append (HasTurn w) (activations s) (starts s) activate begin) run) keep
  where
    s : Site
    s = site_of w n it

    sound : Sound n it
    sound = h.nodes n it at

    Found : Uid × Eject → Type 0
    Found e = eject_in s e.0 ≡ Some e.1

    found : All Found it.ejects
    found = all-found uid_cmp uid_cmp_total it.ejects sound.in_order

    own : (e : Uid × Eject) → Found e → e.0.node ≡ n
    own e is = sound.of_node e.0 (ap is_some is)

    activate : All (HasTurn w) (activations s)
    activate = all-flat Found (HasTurn w) (λ e. cond (is_to_activate s e.0 e.1) (activity n 2 e.0 0 ∷ []) [])
        (λ e is. go e is (is_to_activate s e.0 e.1) refl) it.ejects found
      where
        go : (e : Uid × Eject) → Found e → (b : Bool) → is_to_activate s e.0 e.1 ≡ b → All (HasTurn w) (cond b (activity n 2 e.0 0 ∷ []) [])
        go e is true to = all-one (HasTurn w) (activity n 2 e.0 0) (activation-turn w n it e.0 e.1 at (own e is) is to)
        go e is false to = all-none (HasTurn w)

    begin : All (HasTurn w) (starts s)
    begin = all-flat Found (HasTurn w) (λ e. cond (is_startable s.traffic e.1) (activity n 3 e.0 0 ∷ []) [])
        (λ e is. go e is (is_startable s.traffic e.1) refl) it.ejects found
      where
        go : (e : Uid × Eject) → Found e → (b : Bool) → is_startable s.traffic e.1 ≡ b
            → All (HasTurn w) (cond b (activity n 3 e.0 0 ∷ []) [])
        go e is true may = all-one (HasTurn w) (activity n 3 e.0 0) (start-turn w n it e.0 e.1 at (own e is) is may)
        go e is false may = all-none (HasTurn w)

    run : All (HasTurn w) (processes s)
    run = all-flat Found (HasTurn w) (λ e. with_item e.1.active (ready e.0) [])
        (λ e is. go e is e.1.active refl (sound.manned e.0 e.1 is)) it.ejects found
      where
        of : (e : Uid × Eject) → Found e → (a : Active) → e.1.active ≡ Some a → IsManned a → All (HasTurn w) (ready e.0 a)
        of e is a active m = All-map (HasTurn w) (λ q. activity e.0.node 4 e.0 q.0) (filter (λ q. is_ready q.1.waits) a.crew.processes)
            (all-where (λ q. value_at nat_cmp q.0 a.crew.processes ≡ Some q.1) (λ q. HasTurn w (activity e.0.node 4 e.0 q.0))
            (λ q. is_ready q.1.waits)
            (λ q has waits. process-turn w n it e.0 e.1 a q.0 q.1 fits at (own e is) is active m has waits) a.crew.processes
            (all-found nat_cmp nat_cmp_total a.crew.processes m.numbered))

        go : (e : Uid × Eject) → Found e → (o : Option Active) → e.1.active ≡ o → IfSome o IsManned
            → All (HasTurn w) (with_item o (ready e.0) [])
        go e is None active m = all-none (HasTurn w)
        go e is (Some a) active m = of e is a active m

    keep : All (HasTurn w) (store_of s)
    keep = go (first it.requests) refl
      where
        go : (o : Option StoreRequest) → first it.requests ≡ o → All (HasTurn w) (cond (is_some o) (activity n 5 no_uid 0 ∷ []) [])
        go None is = all-none (HasTurn w)
        go (Some r) is = all-one (HasTurn w) (activity n 5 no_uid 0)
            (store-turn w n it r at (sound.of_node r.uid (first-there it.requests it.ejects r is sound.there)) is sound)

pub enabled-turns : (H : ℕ → Bool) (w : World) → SoundWorld H w → EffectsFit w.types w → All (HasTurn w) (enabled w)
enabled-turns H w h fits = All-append (HasTurn w) (deliveries w 0)
    (flat_map (λ e. deliveries w e.0 ++ node_keys (site_of w e.0 e.1)) w.nodes) (deliveries-turn H w h 0)
    (all-flat (λ e. node_at w e.0 ≡ Some e.1) (HasTurn w) (λ e. deliveries w e.0 ++ node_keys (site_of w e.0 e.1))
    (λ e at. All-append (HasTurn w) (deliveries w e.0) (node_keys (site_of w e.0 e.1)) (deliveries-turn H w h e.0)
    (node-turns H w h fits e.0 e.1 at)) w.nodes (all-found nat_cmp nat_cmp_total w.nodes h.place.ordered))
