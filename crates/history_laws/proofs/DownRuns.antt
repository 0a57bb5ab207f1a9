-- In every world of a history each node is up or at rest, and calls that are asked go to nodes that are up.
use Rattle.std.proofs.Common.{◌≡◌, inl, inr, ◌==◌, ℕ, Bool, true, false, cond, not, ◌&&◌, ◌||◌, List, [], ◌∷◌, map, Option, None, Some}
use Rattle.std.proofs.Common.{Result, Ok, Err, is_some, refl, sym, ◌∙◌, ap, subst}
use Rattle.std.specs.Prelude.{IsSomeAnd, IfSome}
use Rattle.std.specs.List.{filter_map, cons_option}
use Rattle.std.specs.Option.{option_map}
use Rattle.std.specs.Ordering.{nat_cmp, eq_by_cmp}
use Rattle.std.proofs.lemmas.Bool.{eq-eqb}
use Rattle.capability.specs.declared.Uid.{Uid}
use Rattle.capability.specs.declared.Cap.{Cap}
use Rattle.eden_model.specs.Map.{with_item, uid_cmp, value_at}
use Rattle.eden_model.specs.Traffic.{asked, done as over, Traffic, Call, call_at, asking_station, target_station, goes_by, goes}
use Rattle.eden_model.specs.Traffic.{in_transit, touches, crashed_call, without_node, processes_of, broken_by_node}
use Rattle.passive_store.specs.declared.store.Pick.{Pick}
use Rattle.passive_store.specs.Kept.{Layout}
use Rattle.journal.specs.declared.command.Command.{Command}
use Rattle.journal.specs.declared.command.Command.TheVariants as command
use Rattle.journal.specs.declared.event.BootEnd.{BootEnd}
use Rattle.journal.specs.declared.event.BootEnd.TheVariants as boot_end
use Rattle.journal.specs.declared.event.StartEnd.TheVariants as start_end
use Rattle.journal.specs.declared.event.RequestEnd.TheVariants as end
use Rattle.journal.specs.declared.event.Event.{Event}
use Rattle.journal.specs.declared.event.Event.TheVariants as event
use Rattle.journal.specs.declared.event.Entry.{Entry}
use Rattle.journal.specs.World.{World, Site, Node, Eject, StoreRequest, node_at, site_of, on_eject, on_node, on_traffic, is_up, is_cut}
use Rattle.journal.specs.World.{reaches}
use Rattle.journal.specs.Deliveries.{refusal_at}
use Rattle.epl_syntax.specs.declared.effect.Answer.{Answer}
use Rattle.journal.specs.Ejects.{tells}
use Rattle.journal.specs.Crashes.{crashed}
use Rattle.journal.specs.Settling.{first_request, settled, unsynced, to_settle}
use Rattle.journal.specs.Stores.{AllowsStore, EndsSo, Work, syncs, reads, unkept, without_room, calls, work_of, doubted, worked, store_turn}
use Rattle.journal.specs.Starts.{start_settled}
use Rattle.journal.specs.Boots.{booted_node}
use Rattle.journal.specs.Commands.{AllowsCommand}
use Rattle.journal.specs.Kept.{crashes}
use Rattle.journal.specs.Opening.{node_of, node_from, found_in, passive, passive_entry}
use Rattle.journal.specs.Step.{AllowsAt, AllowsInTurn, AllowsEvent, Allows, next, after_turn, after_command, happened, at_site}
use Rattle.journal.specs.Step.{stopped_at, site_turn, clocked, key_of}
use Rattle.journal.specs.Run.{AllowsLookUp, looked_up}
use Rattle.journal.specs.Sites.{AskedAll, SoundWorld}
use Rattle.history_laws.proofs.Lifts.{traffic-after}
use Rattle.history_laws.proofs.SafeRuns.{same-number}
use Rattle.history_laws.proofs.Runs.{no-turn, nodes-looked_up}
use Rattle.history_laws.proofs.EveryNode.{IsKeptAt, IsAt, all-next, all-same_nodes}
use Rattle.history_laws.proofs.Messages.{value-calls}
use Rattle.history_laws.proofs.SoundWorld.{ask-tells_each, ask-counted, ask-happened, ask-looked_up, sound-next, sound-looked_up}
use Rattle.history_laws.proofs.EntryLists.{first-passes}
use Rattle.history_laws.proofs.StaysUp.{IsUp, up-on_node, up-settled, up-requested, up-heard, up-start, up-process_turn, up-store_turn}
use Rattle.history_laws.proofs.StaysUp.{up-activation, up-tells, up-born}
use Rattle.history_laws.proofs.Down.{IsIdle, Rests, Calm, rest-crashed, rest-tells, ComesUp, calm-site_turn}

pub false-true : {A : Type 0} → false ≡ true → A
false-true e = absurd (cc e)

both-true : (a b : Bool) → (a && b) ≡ true → (a ≡ true) × (b ≡ true)
both-true true true e = (refl, refl)
both-true true false e = absurd (cc e)
both-true false b e = absurd (cc e)

-- 1. A node that is up stays up where the event does not crash it

abbrev StaysUp : World → Event → ℕ → Node → Type 0
StaysUp w e n it = crashes n e ≡ false → is_up w n ≡ true → it.up ≡ true

up-booted : (s : Site) (e : ℕ) (how : BootEnd) (began : Bool) (it : Node) → it.up ≡ true → (booted_node s e how began it).up ≡ true
up-booted s e boot_end.Up began it up = refl
up-booted s e boot_end.DiskFault began it up = up
up-booted s e boot_end.Stop began it up = up
up-booted s e (boot_end.Damaged place) began it up = up
up-booted s e boot_end.EpochsSpent began it up = up
up-booted s e boot_end.Full began it up = up

pub crashing : (n m : ℕ) → n ≡ m → (n == m) ≡ false → {A : Type 0} → A
crashing n m same off = absurd (let bad : true ≡ false = sym (eq-eqb n m same) ∙ off in cc bad)

up-turn : (w : World) (e : Event) (n : ℕ) (s : Site) → IsAt e n → AllowsAt s e → crashes n e ≡ false → IsUp s
    → IsUp (site_turn (reaches w n) e s)
up-turn w (event.Request k a b refused) n s place allowed calm up = up-requested k refused s up
up-turn w (event.Reply k a b name why values) n s place allowed calm up = up-heard k why values s up
up-turn w (event.Activate v start_end.Stop p) n s place allowed calm up = crashing v.node n place calm
up-turn w (event.Activate v start_end.Ok p) n s place allowed calm up = up-activation v start_end.Ok p s refl up
up-turn w (event.Activate v start_end.Gone p) n s place allowed calm up = up-activation v start_end.Gone p s refl up
up-turn w (event.Activate v start_end.Fault p) n s place allowed calm up = up-activation v start_end.Fault p s refl up
up-turn w (event.Activate v start_end.Damaged p) n s place allowed calm up = up-activation v start_end.Damaged p s refl up
up-turn w (event.Start k v p) n s place allowed calm up = up-start v k p s up
up-turn w (event.Process v p said) n s place allowed calm up = up-process_turn (reaches w n) v p s up
up-turn w (event.Store v c end.Stop p) n s place allowed calm up = crashing v.node n place calm
up-turn w (event.Store v c end.Part p) n s place allowed calm up = up-store_turn end.Part p s refl up
up-turn w (event.Store v c end.Done p) n s place allowed calm up = up-store_turn end.Done p s refl up
up-turn w (event.Store v c end.Fault p) n s place allowed calm up = up-store_turn end.Fault p s refl up
up-turn w (event.Store v c end.Full p) n s place allowed calm up = up-store_turn end.Full p s refl up
up-turn w (event.Boot m e how p began) n s place allowed calm up = up-on_node (booted_node s e how began) (settled p s)
    (up-booted s e how began (settled p s).node (up-settled p s up))
up-turn w (event.Crash m) n s place allowed calm up = crashing m n place calm
up-turn w (event.Still m on) n s place allowed calm up = absurd allowed
up-turn w (event.Link a b joined) n s place allowed calm up = absurd allowed
up-turn w (event.Armed m what) n s place allowed calm up = absurd allowed
up-turn w (event.Made name why v) n s place allowed calm up = absurd allowed
up-turn w (event.Bound name kept) n s place allowed calm up = absurd allowed
up-turn w (event.Void name) n s place allowed calm up = absurd allowed
up-turn w (event.Asked k name at_once) n s place allowed calm up = absurd allowed
up-turn w event.Quiet n s place allowed calm up = absurd allowed
up-turn w event.Spent n s place allowed calm up = absurd allowed
up-turn w (event.Left names) n s place allowed calm up = absurd allowed

kept-up : (w : World) (e : Event) → IsKeptAt (StaysUp w e) w e
kept-up w e = record {
  turns = λ n it at place allowed h calm up. up-turn w e n (site_of w n it) place allowed calm (h calm up);
  crashes = λ n s is number h calm up. crashing n n refl (ap (λ x. crashes n x) (sym is) ∙ subst (λ m. crashes m e ≡ false) number calm);
  tellings = λ u p a s h calm up. up-tells u p a s (h calm up);
  births = λ u t s is on known h calm up. up-born u _ s (h calm up);
  clocks = λ n c it h. h;
}

pub node-up : (w : World) (n : ℕ) (it : Node) → node_at w n ≡ Some it → is_up w n ≡ true → it.up ≡ true
node-up w n it at up = sym (ap (λ o. with_item o (λ (x : Node). x.up) false) at) ∙ up

pub up-next : (H : ℕ → Bool) (w : World) (c : Option Command) (e : Entry) → Allows w c e → SoundWorld H w → (m : ℕ)
    → crashes m e.event ≡ false → is_up w m ≡ true → is_up (next w c e) m ≡ true
up-next H w c e allowed h m calm up = go (node_at (next w c e) m) refl
    ((sound-next H w c e allowed h).place.present m ∙ (sym (h.place.present m) ∙ present (node_at w m) refl))
  where
    present : (o : Option Node) → node_at w m ≡ o → is_some (node_at w m) ≡ true
    present None at = false-true (sym (ap (λ o. with_item o (λ (x : Node). x.up) false) at) ∙ up)
    present (Some it) at = ap is_some at

    all : (n : ℕ) (it : Node) → node_at (next w c e) n ≡ Some it → StaysUp w e.event n it
    all = all-next (StaysUp w e.event) w c e (kept-up w e.event) allowed (λ n it at calm on. node-up w n it at on)

    go : (o : Option Node) → node_at (next w c e) m ≡ o → is_some (node_at (next w c e) m) ≡ true → is_up (next w c e) m ≡ true
    go None at some = false-true (sym (ap is_some at) ∙ some)
    go (Some it) at some = ap (λ o. with_item o (λ (x : Node). x.up) false) at ∙ all m it at calm up

-- 2. After a crash no call on its way goes to the node

asked-mono : {Q R : ℕ → Type 0} (t : Traffic) → ((n : ℕ) → Q n → R n) → AskedAll Q t → AskedAll R t
asked-mono t more all = record { at = λ k c is place. more (target_station c) (all.at k c is place) }

off-call : (n : ℕ) (c : Call) → (crashed_call n c).place ≡ asked → (target_station (crashed_call n c) == n) ≡ false
off-call n c place = go (touches n c) refl place
  where
    lost : (a b : Bool) → (target_station c == n) ≡ a → cond (a || b) over c.place ≡ asked → (target_station c == n) ≡ false
    lost true b at e = absurd (cc e)
    lost false b at e = at

    apart : (a b : Bool) → (a || b) ≡ false → a ≡ false
    apart true b e = absurd (cc e)
    apart false b e = refl

    go : (t : Bool) → touches n c ≡ t → (cond t
        (record c { open_ = false; place = cond ((target_station c == n) || in_transit c.place) over c.place }) c).place ≡ asked
        → (target_station (cond t (record c { open_ = false; place = cond ((target_station c == n) || in_transit c.place) over c.place })
        c) == n) ≡ false
    go true at e = lost (target_station c == n) (in_transit c.place) refl e
    go false at e = apart (target_station c == n) (asking_station c.asker == n) at

off-node : (n : ℕ) (t : Traffic) → AskedAll (λ m. (m == n) ≡ false) (without_node n t)
off-node n t = record { at = λ k d is place. go d place (call_at t k) (sym (value-calls k (crashed_call n) t.calls) ∙ is) }
  where
    go : (d : Call) → d.place ≡ asked → (o : Option Call) → option_map (crashed_call n) o ≡ Some d → (target_station d == n) ≡ false
    go d place None e = absurd (cc e)
    go d place (Some c) e = let same : crashed_call n c ≡ d = cc e in
        subst (λ (x : Call). (target_station x == n) ≡ false) same (off-call n c (ap (λ (x : Call). x.place) same ∙ place))

off-crashed : (n : ℕ) (s : Site) → s.number ≡ n → AskedAll (λ m. (m == n) ≡ false) (crashed s).traffic
unfolding on_node on_traffic
off-crashed n s number = subst (λ k. AskedAll (λ m. (m == n) ≡ false) (without_node k s.traffic)) (sym number) (off-node n s.traffic)

number-settled : (p : Option Pick) (s : Site) → (settled p (unsynced s)).number ≡ s.number
unfolding on_node
number-settled None s = refl
number-settled (Some k) s = refl

number-started : (p : Option Pick) (s : Site) → (start_settled p s).number ≡ s.number
number-started p s = go (to_settle s)
  where
    go : (b : Bool) → (cond b (settled p (unsynced s)) s).number ≡ s.number
    go true = number-settled p s
    go false = refl

number-doubted : (r : StoreRequest) (s : Site) → (doubted r s).number ≡ s.number
unfolding on_eject
number-doubted r s = refl

off-store : (n : ℕ) (s : Site) (v : Uid) (p : Option Pick) → s.number ≡ n
    → IsSomeAnd (first_request s.node) (λ r. AllowsStore s v end.Stop p r)
    → AskedAll (λ m. (m == n) ≡ false) (store_turn end.Stop p s).traffic
off-store n s v p number allowed = go (first_request s.node) allowed
  where
    by_work : (w : Work) (r : StoreRequest) → EndsSo w end.Stop p → AskedAll (λ m. (m == n) ≡ false) (worked w r end.Stop p s).traffic
    by_work syncs r e = off-crashed n s number
    by_work reads r e = off-crashed n s number
    by_work unkept r e = absurd e
    by_work without_room r e = absurd e
    by_work calls r e = off-crashed n (doubted r s) (number-doubted r s ∙ number)

    go : (o : Option StoreRequest) → IsSomeAnd o (λ r. AllowsStore s v end.Stop p r)
        → AskedAll (λ m. (m == n) ≡ false) (with_item o (λ r. worked (work_of s r) r end.Stop p s) s).traffic
    go None a = absurd a
    go (Some r) a = by_work (work_of s r) r a.ends

off-stopped : (Q : ℕ → Type 0) (w : World) (n : ℕ) (e : Event) (it : Node) → node_at w n ≡ Some it
    → AskedAll Q (site_turn (reaches w n) e (site_of w n it)).traffic → AskedAll Q (stopped_at w n e).traffic
off-stopped Q w n e it at all = ask-tells_each (processes_of (broken_by_node n) w.traffic) (at_site w n e)
    (subst (AskedAll Q) (sym (traffic-after w n it (site_turn (reaches w n) e) at)) all)

off-turn : (w : World) (e : Event) (n : ℕ) → crashes n e ≡ true → AllowsInTurn w e
    → AskedAll (λ m. (m == n) ≡ false) (after_turn w e).traffic
off-turn w (event.Activate v start_end.Stop p) n is allowed = go (node_at w v.node) refl allowed
  where
    go : (o : Option Node) → node_at w v.node ≡ o
        → IsSomeAnd (with_item o (λ it. Some (site_of w v.node it)) None) (λ s. AllowsAt s (event.Activate v start_end.Stop p))
        → AskedAll (λ m. (m == n) ≡ false) (stopped_at w v.node (event.Activate v start_end.Stop p)).traffic
    go None at a = absurd a
    go (Some it) at a = off-stopped (λ x. (x == n) ≡ false) w v.node (event.Activate v start_end.Stop p) it at
        (off-crashed n (start_settled p (site_of w v.node it)) (number-started p (site_of w v.node it) ∙ same-number v.node n is))
off-turn w (event.Store v c end.Stop p) n is allowed = go (node_at w v.node) refl allowed
  where
    go : (o : Option Node) → node_at w v.node ≡ o
        → IsSomeAnd (with_item o (λ it. Some (site_of w v.node it)) None) (λ s. AllowsAt s (event.Store v c end.Stop p))
        → AskedAll (λ m. (m == n) ≡ false) (stopped_at w v.node (event.Store v c end.Stop p)).traffic
    go None at a = absurd a
    go (Some it) at a = off-stopped (λ x. (x == n) ≡ false) w v.node (event.Store v c end.Stop p) it at
        (off-store n (site_of w v.node it) v p (same-number v.node n is) a)
off-turn w (event.Crash m) n is allowed = absurd allowed
off-turn w _ n is allowed = false-true is

off-command : (w : World) (c : Command) (e : Event) (n : ℕ) → crashes n e ≡ true → AllowsCommand w c e
    → AskedAll (λ m. (m == n) ≡ false) (after_command w c e).traffic
off-command w (command.Crash k mode) (event.Crash m) n is allowed = go (node_at w m) refl (ap (is_up w) allowed.0 ∙ allowed.1)
  where
    go : (o : Option Node) → node_at w m ≡ o → is_up w m ≡ true → AskedAll (λ x. (x == n) ≡ false) (stopped_at w m (event.Crash m)).traffic
    go None at up = false-true (sym (ap (λ o. with_item o (λ (x : Node). x.up) false) at) ∙ up)
    go (Some it) at up = off-stopped (λ x. (x == n) ≡ false) w m (event.Crash m) it at (off-crashed n (site_of w m it) (same-number m n is))
off-command w _ (event.Crash m) n is allowed = absurd allowed
off-command w c (event.Activate v how p) n is allowed = absurd (no-turn w c (event.Activate v how p) refl allowed)
off-command w c (event.Store v k how p) n is allowed = absurd (no-turn w c (event.Store v k how p) refl allowed)
off-command w c _ n is allowed = false-true is

off-happened : (w : World) (c : Option Command) (e : Event) (n : ℕ) → crashes n e ≡ true → AllowsEvent w c e
    → AskedAll (λ m. (m == n) ≡ false) (happened w c e).traffic
off-happened w None e n is allowed = off-turn w e n is allowed
off-happened w (Some c) e n is allowed = off-command w c e n is allowed

-- 3. Calls that are asked go to nodes that are up

abbrev pub AskedUp : World → Type 0
AskedUp w = AskedAll (λ n. is_up w n ≡ true) w.traffic

reached-up : (w : World) (a n : ℕ) → reaches w a n ≡ true → is_up w n ≡ true
reached-up w a n is = (both-true (is_up w n) ((a == n) || not (is_cut w a n)) is).0

asked-next : (H : ℕ → Bool) (w : World) (c : Option Command) (e : Entry) → Allows w c e → SoundWorld H w → AskedUp w → AskedUp (next w c e)
asked-next H w c e allowed h all = record {
  at = λ k d is place. go (target_station d) (crashes (target_station d) e.event) refl (was.at k d is place)
      (λ on. (off (target_station d) on).at k d is place);
}
  where
    was : AskedAll (λ n. is_up w n ≡ true) (next w c e).traffic
    was = ask-counted (key_of e.event) (clocked e.node e.clock (happened w c e.event))
        (ask-happened w (reached-up w) c e.event allowed.event all)

    off : (n : ℕ) → crashes n e.event ≡ true → AskedAll (λ m. (m == n) ≡ false) (next w c e).traffic
    off n is = ask-counted (key_of e.event) (clocked e.node e.clock (happened w c e.event)) (off-happened w c e.event n is allowed.event)

    go : (m : ℕ) (b : Bool) → crashes m e.event ≡ b → is_up w m ≡ true → (crashes m e.event ≡ true → (m == m) ≡ false)
        → is_up (next w c e) m ≡ true
    go m true at up apart = crashing m m refl (apart at)
    go m false at up apart = up-next H w c e allowed h m at up

-- 4. Each node is up or at rest

abbrev pub AllCalm : World → Type 0
AllCalm w = (n : ℕ) (it : Node) → node_at w n ≡ Some it → Calm it

comes-up : (w : World) → AskedUp w → (e : Event) (n : ℕ) (it : Node) → node_at w n ≡ Some it → IsAt e n → AllowsAt (site_of w n it) e
    → ComesUp (site_of w n it) e
comes-up w all (event.Request k a b refused) n it at place allowed = go (call_at w.traffic k) refl allowed.delivered
    (first-passes (goes w.traffic a b) w.traffic.transit k allowed.first_in_queue)
  where
    by_place : (c : Call) → call_at w.traffic k ≡ Some c → c.place ≡ asked
        → goes_by c.place (asking_station c.asker) (target_station c) a b ≡ true → it.up ≡ true
    by_place c found place_is g =
        let goes_on : ((asking_station c.asker == a) && (target_station c == b)) ≡ true = sym
        (ap (λ p. goes_by p (asking_station c.asker) (target_station c) a b) place_is) ∙ g in
        let target : target_station c ≡ n = same-number (target_station c) b
        (both-true (asking_station c.asker == a) (target_station c == b) goes_on).1 ∙ place in
        node-up w n it at (ap (is_up w) (sym target) ∙ all.at k c found place_is)

    go : (o : Option Call) → call_at w.traffic k ≡ o → IsSomeAnd o (λ c. (c.place ≡ asked) × (refused ≡ refusal_at (site_of w n it) c))
        → with_item o (λ c. goes_by c.place (asking_station c.asker) (target_station c) a b) false ≡ true → it.up ≡ true
    go None found d g = absurd d
    go (Some c) found d g = by_place c found d.0 g
comes-up w all _ n it at place allowed = tt

kept-calm : (w : World) (e : Event) → AskedUp w → IsKeptAt (λ n it. Calm it) w e
kept-calm w e all = record {
  turns = λ n it at place allowed h. calm-site_turn (reaches w n) e (site_of w n it) (comes-up w all e n it at place allowed) allowed h;
  crashes = λ n s is number h. inr (rest-crashed s);
  tellings = λ u p a s h. told u p a s h;
  births = λ u t s is on known h. inl (up-born u _ s on);
  clocks = λ n c it h. h;
}
  where
    told : (u : Uid) (p : ℕ) (a : Answer) (s : Site) → Calm s.node → Calm (tells u p a s).node
    told u p a s (inl up) = inl (up-tells u p a s up)
    told u p a s (inr rest) = inr (rest-tells u p a s rest)

-- 5. Every history

pub record DownWorld (H : ℕ → Bool) (w : World) : Type 0 where
  pub sound : SoundWorld H w
  pub asked_up : AskedUp w
  pub calm : AllCalm w

pub down-next : (H : ℕ → Bool) (w : World) (c : Option Command) (e : Entry) → Allows w c e → DownWorld H w → DownWorld H (next w c e)
down-next H w c e allowed h = record {
  sound = sound-next H w c e allowed h.sound;
  asked_up = asked-next H w c e allowed h.sound h.asked_up;
  calm = all-next (λ n it. Calm it) w c e (kept-calm w e.event h.asked_up) allowed h.calm;
}

pub down-looked_up : (H : ℕ → Bool) (w : World) (name : List ℕ) (target : Option Cap) (path : List (List ℕ)) (e : Event)
    → AllowsLookUp w name target path e → DownWorld H w → DownWorld H (looked_up w name target path e)
down-looked_up H w name target path e allowed h = record {
  sound = sound-looked_up H w name target path e allowed h.sound;
  asked_up = asked-mono (looked_up w name target path e).traffic
      (λ n up. ap (λ ns. with_item (value_at nat_cmp n ns) (λ (it : Node). it.up) false) (nodes-looked_up w name target path e) ∙ up)
      (ask-looked_up w (reached-up w) name target path e allowed h.asked_up);
  calm = all-same_nodes (λ n it. Calm it) w (looked_up w name target path e) (nodes-looked_up w name target path e) h.calm;
}

idle-passive : (u : Uid) (e : Eject) (kept : List (Uid × List ℕ)) → value_at uid_cmp u (filter_map passive_entry kept) ≡ Some e → IsIdle e
idle-passive u e [] is = absurd (cc is)
idle-passive u e (x ∷ xs) is = go (x.0.serial == 0) (idle-passive u e xs) is
  where
    found : (b : Bool) → (value_at uid_cmp u (filter_map passive_entry xs) ≡ Some e → IsIdle e)
        → cond b (Some (passive x.1)) (value_at uid_cmp u (filter_map passive_entry xs)) ≡ Some e → IsIdle e
    found true later is = subst (λ o. IfSome o IsIdle) is (record { no_active = refl; no_queued = refl })
    found false later is = later is

    go : (skipped : Bool) → (value_at uid_cmp u (filter_map passive_entry xs) ≡ Some e → IsIdle e)
        → value_at uid_cmp u (cons_option (cond skipped None (Some (x.0, passive x.1))) (filter_map passive_entry xs)) ≡ Some e → IsIdle e
    go true later is = later is
    go false later is = found (eq_by_cmp uid_cmp u x.0) later is

pub rest-node : (n size : ℕ) (found : Result (List (Uid × List ℕ)) ℕ) (overfull untold : Bool) (ledger : List ℕ)
    → Rests (node_from n size found overfull untold ledger)
rest-node n size (Ok kept) overfull untold ledger = record { no_request = refl; idle = λ u e is. idle-passive u e kept is }
rest-node n size (Err place) overfull untold ledger = record { no_request = refl; idle = λ u e is. absurd (cc is) }

pub calm-opening : (layout : Layout) (images : List (ℕ × List ℕ)) (n : ℕ) (it : Node)
    → value_at nat_cmp n (map (λ d. (d.0, node_of layout d)) images) ≡ Some it → Calm it
calm-opening layout [] n it is = absurd (cc is)
calm-opening layout (d ∷ ds) n it is = go (eq_by_cmp nat_cmp n d.0) (calm-opening layout ds n it) is
  where
    go : (b : Bool) → (value_at nat_cmp n (map (λ d. (d.0, node_of layout d)) ds) ≡ Some it → Calm it)
        → cond b (Some (node_of layout d)) (value_at nat_cmp n (map (λ d. (d.0, node_of layout d)) ds)) ≡ Some it → Calm it
    go true later e = subst (λ o. IfSome o Calm) e (inr (rest-node d.0 _ (found_in layout d.0 d.1) _ _ _))
    go false later e = later e
