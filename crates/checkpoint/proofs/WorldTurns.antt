-- From a turn at a site to an entry of the world.
use Rattle.std.proofs.Common.{◌≡◌, ◌⊎◌, inl, inr, ℕ, ◌==◌, Bool, true, false, cond, List, [], ◌∷◌, Option, None, Some, refl, sym, ap}
use Rattle.std.proofs.Common.{subst, ◌∙◌}
use Rattle.std.proofs.lemmas.List.{append-nil}
use Rattle.std.proofs.lemmas.Bool.{eq-eqb, eqb-true}
use Rattle.std.specs.Option.{option_map}
use Rattle.std.specs.Ordering.{nat_cmp}
use Rattle.std.specs.Cmp.{nat_cmp_total}
use Rattle.std.specs.FinMap.{nat_cmp-IsAntisymmetric}
use Rattle.capability.specs.declared.Uid.{Uid}
use Rattle.eden_value.specs.declared.status.Status.TheVariants as status
use Rattle.eden_model.specs.Map.{with_item, changed_at, value_at, uid_cmp}
use Rattle.eden_model.specs.Traffic.{processes_of, broken_by_node}
use Rattle.epl_syntax.specs.declared.effect.Answer.TheVariants.{Reply as Answered}
use Rattle.passive_store.specs.declared.store.Pick.{Pick}
use Rattle.passive_store.specs.declared.store.Doubt.{Doubt}
use Rattle.eden_model.proofs.Laws.{value-changed_same, value-changed_other}
use Rattle.eden_disk.specs.Told.{Told}
use Rattle.passive_store.specs.Kept.{Layout, Kept, Work, doubt_in}
use Rattle.passive_store.specs.Kept.{StoreChange}
use Rattle.journal.specs.EjectChange.{EjectChange}
use Rattle.journal.specs.declared.command.Command.{Command}
use Rattle.journal.specs.declared.command.Command.TheVariants as command
use Rattle.journal.specs.declared.event.BootEnd.{BootEnd}
use Rattle.journal.specs.declared.event.StartEnd.{StartEnd}
use Rattle.journal.specs.declared.event.StartEnd.TheVariants as start_end
use Rattle.journal.specs.Starts.{activation_turn, activated, awake, start_of, start_settled, misfits_answered, fits_at}
use Rattle.epl_syntax.specs.Meaning.{values_from}
use Rattle.std.specs.List.{filter}
use Rattle.journal.specs.declared.event.RequestEnd.{RequestEnd}
use Rattle.journal.specs.declared.event.RequestEnd.TheVariants as end
use Rattle.journal.specs.declared.event.Event.TheVariants as event
use Rattle.journal.specs.declared.event.Key.{Key}
use Rattle.journal.specs.declared.event.Entry.{Entry}
use Rattle.journal.specs.World.{World, Site, Node, StoreRequest, eject_in, node_at, site_at, site_of, at_node, on_node}
use Rattle.journal.specs.Run.{Step}
use Rattle.journal.specs.Step.{next, happened, after_turn, after_command, counted, clocked, key_of}
use Rattle.journal.specs.Ejects.{stored_epoch, tells, fresh}
use Rattle.journal.specs.Settling.{settled}
use Rattle.journal.specs.Stores.{store_turn, removed}
use Rattle.journal.specs.Boots.{boot_turn}
use Rattle.journal.specs.Crashes.{crashed, crash_by, tells_each}
use Rattle.journal.specs.Standing.{Stands, epoch_put, put_behind, with_changes, Standing, unfinished, unfinished_at}
use Rattle.checkpoint.specs.Changes.{facts_of}
use Rattle.checkpoint.specs.Stretch.{Stretch}
use Rattle.checkpoint.specs.StoreStands.{state_of, NodeOnDisk, Wrote, MapStands, IsOrdered, bytes_of_epoch, change_of_epoch}
use Rattle.checkpoint.specs.Turns.{with_clock, with_removal, RestStands, TurnsStore, TurnsDown, ClockStands}
use Rattle.checkpoint.specs.Boots.{put_after, BootsNot}
use Rattle.checkpoint.specs.Throughout.{StepOnDisk, EndsOnDisk}
use Rattle.history_laws.proofs.SiteFrames.{keeps-site}
use Rattle.history_laws.proofs.Frame.{after_at, node-at_same, node-at_other, other-node}
use Rattle.checkpoint.proofs.Shifts.{Shift, same_facts, same_requests, shift-tells, shift-removed, shift-item, shift-both}
use Rattle.checkpoint.proofs.Shifts.{shift-turned_away}
use Rattle.passive_store.specs.Seen.{Seen}
use Rattle.checkpoint.specs.Asked.{noted_in}
use Rattle.checkpoint.specs.Starting.{StartsOn, StartsDown, StartsTo, StartsNot}
use Rattle.eden_value.specs.Datum.{Datum}
use Rattle.epl_syntax.specs.Edentype.{Edentype}
use Rattle.checkpoint.proofs.MapStands.{state-is}
use Rattle.checkpoint.proofs.Changed.{map-same}
use Rattle.checkpoint.proofs.Lifts.{lift-node, lift-elsewhere, ends-unfinished, past-last}
use Rattle.checkpoint.proofs.Throughout.{stands-more}
use Rattle.eden_disk.proofs.Held.{moments_weaker}

abbrev pub clocked_node : ℕ → Node → Node
clocked_node c it = record it { clock = Some c }

abbrev pub step_of : World → Option Command → Entry → Step
step_of w c e = record { world = w; entry = e; later = next w c e }

-- 1. A node behind an entry

node-counted : (k : Option Key) (n : ℕ) (w : World) → node_at (counted k w) n ≡ node_at w n
node-counted None n w = refl
node-counted (Some k) n w = refl

node-clocked : (n c : ℕ) (w : World) (it : Node) → (n == 0) ≡ false → node_at w n ≡ Some it
    → node_at (clocked n c w) n ≡ Some (clocked_node c it)
node-clocked n c w it some is = ap (λ b. value_at nat_cmp n (cond b w.nodes (changed_at nat_cmp n (clocked_node c) w.nodes))) some
    ∙ value-changed_same nat_cmp nat_cmp_total nat_cmp-IsAntisymmetric n (clocked_node c) w.nodes ∙ ap (option_map (clocked_node c)) is

node-clocked_other : (m n c : ℕ) (w : World) → (n == m) ≡ false → node_at (clocked m c w) n ≡ node_at w n
node-clocked_other m n c w other = go (m == 0) refl
  where
    go : (b : Bool) → (m == 0) ≡ b → value_at nat_cmp n
        (cond (m == 0) w.nodes (changed_at nat_cmp m (clocked_node c) w.nodes)) ≡ node_at w n
    go true is = rw is refl
    go false is = rw is (value-changed_other nat_cmp nat_cmp_total nat_cmp-IsAntisymmetric n m (clocked_node c) w.nodes
        (other-node n m other))

pub node-next : (n : ℕ) (w : World) (c : Option Command) (e : Entry) (it : Node) → (n == 0) ≡ false → e.node ≡ n
    → node_at (happened w c e.event) n ≡ Some it → node_at (next w c e) n ≡ Some (clocked_node e.clock it)
node-next n w c e it some here is = node-counted (key_of e.event) n (clocked e.node e.clock (happened w c e.event))
    ∙ ap (λ m. node_at (clocked m e.clock (happened w c e.event)) n) here ∙ node-clocked n e.clock (happened w c e.event) it some is

pub node-next_other : (n : ℕ) (w : World) (c : Option Command) (e : Entry) → (n == e.node) ≡ false
    → node_at (next w c e) n ≡ node_at (happened w c e.event) n
node-next_other n w c e other = node-counted (key_of e.event) n (clocked e.node e.clock (happened w c e.event))
    ∙ node-clocked_other e.node n e.clock (happened w c e.event) other

-- 2. An entry of node n, on its disk or on none

itself : (n : ℕ) → (n == n) ≡ true
itself n = eq-eqb n n refl

-- its entry shows the clock of its disk, or it made no call there
abbrev pub Placed : Entry → ℕ → ℕ → ℕ → Type 0
Placed e n before after = ((e.node ≡ n) × (e.clock ≡ after)) ⊎ ((e.node ≡ 0) × (after ≡ before))

pub lift-entry : (layout : Layout) (n : ℕ) (w : World) (c : Option Command) (e : Entry) (it later : Node) (put : List (Uid × EjectChange))
    (old new : Told) (before after : ℕ)
    → (n == 0) ≡ false → node_at w n ≡ Some it → node_at (happened w c e.event) n ≡ Some later → Placed e n before after
    → epoch_put n w e.event ≡ put
    → NodeOnDisk layout n it put later old before new after → StepOnDisk layout n (step_of w c e) old before new after
lift-entry layout n w c e it later put old new before after some is happens (inl (here, shown)) puts d =
    lift-node layout n (step_of w c e) it (clocked_node e.clock later) put old new before after is
    (node-next n w c e later some here happens) puts
    (λ h. shown) (λ h. absurd (let bad : true ≡ false = sym (itself n) ∙ ap (λ m. m == n) (sym here) ∙ h in cc bad)) d
lift-entry layout n w c e it later put old new before after some is happens (inr (none, level)) puts d =
    lift-node layout n (step_of w c e) it later put old new before after is
    (node-next_other n w c e (ap (λ m. n == m) none ∙ some) ∙ happens) puts
    (λ h. absurd (let bad : n ≡ 0 = sym (eqb-true e.node n h) ∙ none in let worse : true ≡ false = sym (itself n) ∙ ap (λ m. n == m) bad
    ∙ some in cc worse)) (λ h. level) d

-- a turn at a site
pub lift-turn : (layout : Layout) (n : ℕ) (w : World) (c : Option Command) (e : Entry) (f : Site → Site) (it : Node)
    (put : List (Uid × EjectChange)) (old new : Told) (before after : ℕ)
    → (n == 0) ≡ false → node_at w n ≡ Some it → happened w c e.event ≡ at_node n f w → Placed e n before after
    → epoch_put n w e.event ≡ put
    → NodeOnDisk layout n it put (f (site_of w n it)).node old before new after → StepOnDisk layout n (step_of w c e) old before new after
lift-turn layout n w c e f it put old new before after some is happens placed puts d =
    lift-entry layout n w c e it (f (site_of w n it)).node put old new before after some is
    (ap (λ v. node_at v n) happens ∙ node-at_same n f w ∙ ap (option_map (after_at n f w)) is) placed puts d

-- 3. A turn at another site

pub lift-other : (layout : Layout) (n m : ℕ) (w : World) (c : Option Command) (e : Entry) (f : Site → Site) (told : Told) (clock : ℕ)
    → (e.node == n) ≡ false → (n == e.node) ≡ false → (n == m) ≡ false → happened w c e.event ≡ at_node m f w
    → StepOnDisk layout n (step_of w c e) told clock told clock
lift-other layout n m w c e f told clock elsewhere there other happens = lift-elsewhere layout n (step_of w c e) told clock elsewhere
    (ap (λ o. with_item o (λ x. state_of n x) (record { kept = None; changes = [] }))
    (node-next_other n w c e there ∙ ap (λ v. node_at v n) happens ∙ node-at_other n m f w other))

-- 4. A boot

pub lift-boot : (layout : Layout) (n : ℕ) (w : World) (e : Entry) (epoch : ℕ) (how : BootEnd) (p : Option Pick) (began : Bool) (it : Node)
    (old new : Told) (before after : ℕ)
    → (n == 0) ≡ false → node_at w n ≡ Some it → e.event ≡ event.Boot n epoch how p began → Placed e n before after
    → NodeOnDisk layout n it (put_after n (site_of w n it) p) (boot_turn epoch how p began (site_of w n it)).node old before new after
    → StepOnDisk layout n (step_of w (Some (command.Restart n)) e) old before new after
lift-boot layout n w e epoch how p began it old new before after some is event placed d =
    lift-turn layout n w (Some (command.Restart n)) e (boot_turn epoch how p began) it
    (put_after n (site_of w n it) p) old new before after some is
    (ap (happened w (Some (command.Restart n))) event) placed
    (ap (epoch_put n w) event ∙ ap (λ b. cond b (with_item (site_at w n) (λ s. put_behind n (stored_epoch (settled p s).node)) []) [])
    (itself n)
    ∙ ap (λ o. with_item (with_item o (λ x. Some (site_of w n x)) None) (λ s. put_behind n (stored_epoch (settled p s).node)) []) is) d

-- 5. A turn of the store with which the node goes on

abbrev pub GoesOnBy : RequestEnd → Type 0
GoesOnBy end.Stop = ⊥
GoesOnBy _ = Unit {0}

turned : (w : World) (u : Uid) (clock : ℕ) (how : RequestEnd) (p : Option Pick) → GoesOnBy how
    → after_turn w (event.Store u clock how p) ≡ at_node u.node (store_turn how p) w
turned w u clock end.Part p h = refl
turned w u clock end.Done p h = refl
turned w u clock end.Fault p h = refl
turned w u clock end.Full p h = refl
turned w u clock end.Stop p h = absurd h

unclocked : (n k : ℕ) (s : Site) (kept : Kept) (c : Option StoreChange) → MapStands n (with_clock k s) kept c → MapStands n s kept c
unfolding on_node
unclocked n k s kept c m = record {
  undamaged = m.undamaged;
  not_untold = m.not_untold;
  ordered = m.ordered;
  facts = m.facts;
  epoch = m.epoch;
  epoch_doubt = m.epoch_doubt;
  ledger = m.ledger;
  wrote = m.wrote;
}

-- a removal that is done takes away nothing that is kept
with-removal : (n : ℕ) (how : RequestEnd) (r : StoreRequest) (next : Site) (kept : Kept) (c : Option StoreChange) → MapStands n next kept c
    → state_of n (with_removal how r next).node ≡ state_of n next.node
with-removal n end.Part r next kept c m = refl
with-removal n end.Done r next kept c m = state-is n (removed r.change r.uid next) kept c
    (map-same n _ next (removed r.change r.uid next) kept c (shift-removed r.change r.uid next) m) ∙ sym (state-is n next kept c m)
with-removal n end.Fault r next kept c m = refl
with-removal n end.Full r next kept c m = refl
with-removal n end.Stop r next kept c m = refl

pub lift-store : (layout : Layout) (n : ℕ) (w : World) (e : Entry) (u : Uid) (clock : ℕ) (how : RequestEnd) (p : Option Pick) (it : Node)
    (r : StoreRequest) (old new : Told) (before after : ℕ)
    (later : List StoreRequest) (work : Work) (shown : Kept) (more : ℕ) (size : ℕ)
    → (n == 0) ≡ false → u.node ≡ n → node_at w n ≡ Some it → GoesOnBy how → e.event ≡ event.Store u clock how p → Placed e n before after
    → TurnsStore layout n (site_of w n it) r how p old before later work shown more size new after
    → StepOnDisk layout n (step_of w None e) old before new after
lift-store layout n w e u clock how p it r old new before after later work shown more size some of_node is goes event placed t =
    lift-turn layout n w None e (store_turn how p) it [] old new before after some is
    (ap (after_turn w) event ∙ turned w u clock how p goes ∙ ap (λ m. at_node m (store_turn how p) w) of_node) placed
    (ap (epoch_put n w) event)
    (subst (λ x. Stretch (Stands layout n (state_of n it)) (Stands layout n (with_changes [] (state_of n it)))
    (Stands layout n x) old before new after)
    (sym (ap (λ (s : Site). state_of n s.node) t.leads
    ∙ with-removal n how r t.next shown (doubt_in work) (unclocked n after t.next shown (doubt_in work) t.stands.keeps))) t.disk)

-- 6. A node that goes down, by a crash or a stop: those that waited for it are told, and no disk knows it

renode : (n : ℕ) (s t : Site) (kept : Kept) (c : Option StoreChange) → t.node ≡ s.node → t.layout ≡ s.layout → MapStands n s kept c
    → MapStands n t kept c
renode n s t kept c same its_layout m = record {
  undamaged = ap (λ (it : Node). it.damaged) same ∙ m.undamaged;
  not_untold = ap (λ (it : Node). it.untold) same ∙ m.not_untold;
  ordered = subst (λ (it : Node). IsOrdered n it.ejects) (sym same) m.ordered;
  facts = λ u apart. ap (λ (it : Node). facts_of (value_at uid_cmp u it.ejects)) same ∙ m.facts u apart;
  epoch = m.epoch ∙ ap (λ (it : Node). bytes_of_epoch it.epoch) (sym same);
  epoch_doubt = m.epoch_doubt ∙ ap (λ (it : Node). change_of_epoch it.epoch_doubt) (sym same);
  ledger = ap (λ (it : Node). it.ledger) same ∙ m.ledger;
  wrote = subst (λ (l : Layout). Wrote l c) (sym its_layout) m.wrote;
}

layout-at_node : (n : ℕ) (f : Site → Site) (w : World) → (at_node n f w).layout ≡ w.layout
unfolding at_node
layout-at_node n f w = go (node_at w n) refl
  where
    go : (o : Option Node) → node_at w n ≡ o → (at_node n f w).layout ≡ w.layout
    go None is = rw is refl
    go (Some it) is = rw is refl

-- a node of the world, and what it keeps
record Keeps (n : ℕ) (w : World) (kept : Kept) (c : Option StoreChange) : Type 0 where
  it : Node
  is : node_at w n ≡ Some it
  keeps : MapStands n (site_of w n it) kept c

keeps-one : (n m : ℕ) (f : Site → Site) (w : World) (kept : Kept) (c : Option StoreChange)
    → ((s : Site) → Shift same_facts same_requests s (f s)) → Keeps n w kept c → Keeps n (at_node m f w) kept c
keeps-one n m f w kept c shift k = go (n == m) refl
  where
    go : (b : Bool) → (n == m) ≡ b → Keeps n (at_node m f w) kept c
    go false other = record {
      it = k.it;
      is = node-at_other n m f w other
          ∙ k.is;
      keeps = renode n (site_of w n k.it) (site_of (at_node m f w) n k.it) kept c refl (layout-at_node m f w) k.keeps;
    }
    go true same =
        let here : m ≡ n = sym (eqb-true n m same) in
        record {
          it = (f (site_of w n k.it)).node;
          is = ap (λ x. node_at (at_node x f w) n) here ∙ node-at_same n f w ∙ ap (option_map (after_at n f w)) k.is;
          keeps = renode n (f (site_of w n k.it)) (site_of (at_node m f w) n (f (site_of w n k.it)).node) kept c refl
              (layout-at_node m f w ∙ sym (shift (site_of w n k.it)).its_layout)
              (map-same n same_requests (site_of w n k.it) (f (site_of w n k.it)) kept c (shift (site_of w n k.it)) k.keeps);
        }

keeps-told : (n : ℕ) (qs : List (Uid × ℕ)) (w : World) (kept : Kept) (c : Option StoreChange) → Keeps n w kept c
    → Keeps n (tells_each qs w) kept c
keeps-told n [] w kept c k = k
keeps-told n (q ∷ qs) w kept c k = keeps-told n qs _ kept c
    (keeps-one n q.0.node (tells q.0 q.1 (Answered status.Broken [])) w kept c (shift-tells q.0 q.1 (Answered status.Broken [])) k)

pub lift-down : (layout : Layout) (n : ℕ) (w : World) (c : Option Command) (e : Entry) (f : Site → Site) (it : Node)
    (put : List (Uid × EjectChange)) (old new : Told) (before after : ℕ)
    (noted : Option Doubt) (more size : ℕ)
    → (n == 0) ≡ false → node_at w n ≡ Some it → happened w c e.event ≡ crash_by n f w → (f (site_of w n it)).layout ≡ w.layout
    → Placed e n before after
    → epoch_put n w e.event ≡ put
    → RestStands layout n more (with_clock after (f (site_of w n it))) noted size after new
    → NodeOnDisk layout n it put (f (site_of w n it)).node old before new after → StepOnDisk layout n (step_of w c e) old before new after
lift-down layout n w c e f it put old new before after noted more size some is happens its_layout placed puts h d =
    lift-entry layout n w c e it there.it put old new before after some is (ap (λ v. node_at v n) happens ∙ there.is) placed puts
    (subst (λ x. Stretch (Stands layout n (state_of n it)) (Stands layout n (with_changes put (state_of n it)))
    (Stands layout n x) old before new after)
    (state-is n (f (site_of w n it)) h.kept h.doubt here
    ∙ sym (state-is n (site_of (crash_by n f w) n there.it) h.kept h.doubt there.keeps)) d)
  where
    here : MapStands n (f (site_of w n it)) h.kept h.doubt
    here = unclocked n after (f (site_of w n it)) h.kept h.doubt h.keeps

    there : Keeps n (crash_by n f w) h.kept h.doubt
    there = keeps-told n (processes_of (broken_by_node n) w.traffic) (at_node n f w) h.kept h.doubt (record {
      it = (f (site_of w n it)).node;
      is = node-at_same n f w ∙ ap (option_map (after_at n f w)) is;
      keeps = renode n (f (site_of w n it)) (site_of (at_node n f w) n (f (site_of w n it)).node) h.kept h.doubt refl
          (layout-at_node n f w ∙ sym its_layout) here;
    })

pub lift-crash : (layout : Layout) (n : ℕ) (w : World) (e : Entry) (it : Node) (old new : Told) (before after : ℕ) (noted : Option Doubt)
    (more size : ℕ) (c : Command)
    → (n == 0) ≡ false → node_at w n ≡ Some it → e.event ≡ event.Crash n → Placed e n before after
    → RestStands layout n more (with_clock after (crashed (site_of w n it))) noted size after new
    → NodeOnDisk layout n it [] (crashed (site_of w n it)).node old before new after
    → StepOnDisk layout n (step_of w (Some c) e) old before new after
lift-crash layout n w e it old new before after noted more size c some is its_event placed h d =
    lift-down layout n w (Some c) e crashed it [] old new before after noted more size some is (ap (after_command w c) its_event)
    (keeps-site (λ m. true) (event.Crash n) (site_of w n it)).layout placed (ap (epoch_put n w) its_event) h d

pub lift-stopped : (layout : Layout) (n : ℕ) (w : World) (e : Entry) (u : Uid) (clock : ℕ) (it : Node) (r : StoreRequest) (old new : Told)
    (before after : ℕ) (noted : Option Doubt) (more size : ℕ)
    → (n == 0) ≡ false → u.node ≡ n → node_at w n ≡ Some it → e.event ≡ event.Store u clock end.Stop None → Placed e n before after
    → TurnsDown layout n (site_of w n it) r old before more noted size new after
    → StepOnDisk layout n (step_of w None e) old before new after
lift-stopped layout n w e u clock it r old new before after noted more size some of_node is its_event placed t =
    lift-down layout n w None e (store_turn end.Stop None) it [] old new before after noted more size some is
    (ap (after_turn w) its_event ∙ ap (λ m. crash_by m (store_turn end.Stop None) w) of_node)
    (keeps-site (λ m. true) (event.Store u clock end.Stop None) (site_of w n it)).layout placed
    (ap (epoch_put n w) its_event) t.rests t.disk

-- 7. An activation

abbrev pub StartsNode : StartEnd → Type 0
StartsNode start_end.Stop = ⊥
StartsNode _ = Unit {0}

awoken : (w : World) (u : Uid) (how : StartEnd) (p : Option Pick) → StartsNode how
    → after_turn w (event.Activate u how p) ≡ at_node u.node (activation_turn u how p) w
awoken w u start_end.Ok p h = refl
awoken w u start_end.Gone p h = refl
awoken w u start_end.Fault p h = refl
awoken w u start_end.Damaged p h = refl
awoken w u start_end.Stop p h = absurd h

shift-awake : (u : Uid) (s : Site) → Shift same_facts same_requests s (awake u s)
shift-awake u s = shift-item same_requests s (eject_in s u) _
    (λ e is. shift-item same_requests s e.kept _ (λ bytes held. shift-item same_requests s (start_of s.types bytes u) _ (λ start from.
    shift-both u (λ old. record old {
      active = Some (fresh start.0 (values_from start.0 start.1));
      queued = filter
          (fits_at start.0 s.traffic) e.queued;
    }) (misfits_answered start.0 e.queued) s (λ old. refl))))

pub shift-activated : (u : Uid) (how : StartEnd) (s : Site) → StartsNode how → Shift same_facts same_requests s (activated u how s)
shift-activated u start_end.Ok s h = shift-awake u s
shift-activated u start_end.Gone s h = shift-turned_away u status.Gone s
shift-activated u start_end.Fault s h = shift-turned_away u status.StoreFault s
shift-activated u start_end.Damaged s h = shift-turned_away u status.Damaged s
shift-activated u start_end.Stop s h = absurd h

pub lift-start : (layout : Layout) (n : ℕ) (w : World) (e : Entry) (u : Uid) (how : StartEnd) (p : Option Pick) (it : Node)
    (requests : List StoreRequest) (old : Told) (before : ℕ) (y : Seen)
    → (n == 0) ≡ false → u.node ≡ n → node_at w n ≡ Some it → StartsNode how → e.event ≡ event.Activate u how p
    → Placed e n before y.disk.counts.clock
    → StartsOn layout n (site_of w n it) requests old before p y
    → StepOnDisk layout n (step_of w None e) old before y.disk.told y.disk.counts.clock
lift-start layout n w e u how p it requests old before y some of_node is goes event placed t =
    lift-turn layout n w None e (activation_turn u how p) it [] old y.disk.told before y.disk.counts.clock some is
    (ap (after_turn w) event ∙ awoken w u how p goes ∙ ap (λ m. at_node m (activation_turn u how p) w) of_node) placed
    (ap (epoch_put n w) event)
    (subst (λ x. Stretch (Stands layout n (state_of n it)) (Stands layout n (with_changes [] (state_of n it)))
    (Stands layout n x) old before y.disk.told y.disk.counts.clock)
    (state-is n next y.kept (doubt_in y.work) here
    ∙ sym (state-is n (activated u how next) y.kept (doubt_in y.work)
    (map-same n _ next (activated u how next) y.kept (doubt_in y.work) (shift-activated u how next goes) here))) t.disk)
  where
    next : Site
    next = start_settled p (site_of w n it)

    here : MapStands n next y.kept (doubt_in y.work)
    here = unclocked n y.disk.counts.clock next y.kept (doubt_in y.work) t.stands.keeps

pub lift-start-down : (layout : Layout) (n : ℕ) (w : World) (e : Entry) (u : Uid) (p : Option Pick) (it : Node) (old : Told) (before : ℕ)
    (y : Seen)
    → (n == 0) ≡ false → u.node ≡ n → node_at w n ≡ Some it → e.event ≡ event.Activate u start_end.Stop p
    → Placed e n before y.disk.counts.clock
    → StartsDown layout n (site_of w n it) old before p y
    → StepOnDisk layout n (step_of w None e) old before y.disk.told y.disk.counts.clock
lift-start-down layout n w e u p it old before y some of_node is its_event placed t =
    lift-down layout n w None e (activation_turn u start_end.Stop p) it [] old y.disk.told before y.disk.counts.clock
    (noted_in (doubt_in y.work) y.kept) y.more y.disk.counts.size some is
    (ap (after_turn w) its_event ∙ ap (λ m. crash_by m (activation_turn u start_end.Stop p) w) of_node)
    (keeps-site (λ m. true) (event.Activate u start_end.Stop p) (site_of w n it)).layout placed
    (ap (epoch_put n w) its_event) t.rests t.disk

-- by how it ended
pub lift-activation : (layout : Layout) (n : ℕ) (w : World) (e : Entry) (u : Uid) (how : StartEnd)
    (start : Option (Edentype × List Datum)) (p : Option Pick)
    (it : Node) (requests : List StoreRequest) (x y : Seen) → (n == 0) ≡ false → u.node ≡ n → node_at w n ≡ Some it
    → e.event ≡ event.Activate u how p
    → Placed e n x.disk.counts.clock y.disk.counts.clock → StartsTo layout n (site_of w n it) requests u x how start p y
    → StepOnDisk layout n (step_of w None e) x.disk.told x.disk.counts.clock y.disk.told y.disk.counts.clock
lift-activation layout n w e u start_end.Stop start p it requests x y some of_node is its_event placed t =
    lift-start-down layout n w e u p it x.disk.told x.disk.counts.clock y some of_node is its_event placed t.leaves
lift-activation layout n w e u start_end.Ok start p it requests x y some of_node is its_event placed t =
    lift-start layout n w e u start_end.Ok p it requests x.disk.told x.disk.counts.clock y some of_node is tt its_event placed t.leaves
lift-activation layout n w e u start_end.Gone start p it requests x y some of_node is its_event placed t =
    lift-start layout n w e u start_end.Gone p it requests x.disk.told x.disk.counts.clock y some of_node is tt its_event placed t.leaves
lift-activation layout n w e u start_end.Fault start p it requests x y some of_node is its_event placed t =
    lift-start layout n w e u start_end.Fault p it requests x.disk.told x.disk.counts.clock y some of_node is tt its_event placed t.leaves
lift-activation layout n w e u start_end.Damaged start p it requests x y some of_node is its_event placed t =
    lift-start layout n w e u start_end.Damaged p it requests x.disk.told x.disk.counts.clock y some of_node is tt its_event placed t.leaves

-- 8. A run that want of memory ended: in a boot, or in an activation

pub ends-boot : (layout : Layout) (n : ℕ) (last : World) (it : Node) (old new : Told) (before after : ℕ) → node_at last n ≡ Some it
    → ClockStands it.clock before → BootsNot layout n (site_of last n it) old before new after
    → EndsOnDisk layout n last (unfinished last) old before new after
ends-boot layout n last it old new before after is clock b = ends-unfinished layout n last it old new before after is
    (λ m h. past-last it before m clock h) b.timed (b.moments (unfinished_at n it))

none-added : (layout : Layout) (n : ℕ) (st : Standing) (image : List ℕ) → Stands layout n (with_changes [] st) image
    → Stands layout n st image
none-added layout n st image = subst (λ cs. Stands layout n (record st { changes = cs }) image) (append-nil st.changes)

pub ends-start : (layout : Layout) (n : ℕ) (last : World) (it : Node) (requests : List StoreRequest) (x y : Seen) → node_at last n ≡ Some it
    → ClockStands it.clock x.disk.counts.clock → StartsNot layout n (site_of last n it) requests x y
    → EndsOnDisk layout n last (unfinished last) x.disk.told x.disk.counts.clock y.disk.told y.disk.counts.clock
ends-start layout n last it requests x y is clock
    (p, found, t) = ends-unfinished layout n last it x.disk.told y.disk.told x.disk.counts.clock y.disk.counts.clock is
    (λ m h. past-last it x.disk.counts.clock m clock h) t.disk.timed
    (moments_weaker (Stands layout n (with_changes [] (state_of n it)))
    (Stands layout n (with_changes (unfinished_at n it) (state_of n it))) x.disk.told y.disk.told
    (λ image stood. stands-more layout n (unfinished_at n it) (state_of n it) image (none-added layout n (state_of n it) image stood))
    t.disk.moments)
