-- What a turn of a process leaves of its node for its store.
use Rattle.std.proofs.Common.{◌≡◌, ◌≢◌, ◌≤◌, ◌+◌, ℕ, nat_le, Bool, true, false, cond, ◌||◌, List, [], ◌∷◌, ◌++◌, length, Option, None, Some}
use Rattle.std.proofs.Common.{Result, Ok, Err, refl, sym, ap, subst, ◌∙◌, arith}
use Rattle.std.specs.Prelude.{is_some, IsSomeAnd}
use Rattle.std.specs.Option.{option_map}
use Rattle.std.specs.FinMap.Entries.{find-put}
use Rattle.std.specs.Ordering.{eq_by_cmp}
use Rattle.capability.specs.declared.Uid.{Uid}
use Rattle.capability.specs.Capability.{full}
use Rattle.capability.proofs.Uids.{uid_cmp_total, uid_cmp-IsAntisymmetric}
use Rattle.capability.specs.declared.TheConstants.{BODY_LIMIT}
use Rattle.eden_value.specs.declared.status.Status.{Status}
use Rattle.eden_value.specs.declared.status.Status.TheVariants as status
use Rattle.eden_codec.specs.Spelling.{spelling}
use Rattle.eden_model.specs.Map.{value_at, uid_cmp, with_item}
use Rattle.eden_model.specs.Crew.{Process}
use Rattle.eden_model.proofs.Laws.{eq-same}
use Rattle.epl_syntax.specs.Rules.OfTypes.{TypeList}
use Rattle.epl_syntax.specs.Edentype.{Edentype}
use Rattle.epl_syntax.specs.Meaning.{Turned, rep_of, type_of, first_values}
use Rattle.epl_syntax.specs.declared.effect.Answer.TheVariants.{Created as Made}
use Rattle.epl_syntax.specs.declared.effect.Effect.{Effect}
use Rattle.epl_syntax.specs.declared.effect.Effect.TheVariants as effect
use Rattle.invocation.specs.Mail.{Mail}
use Rattle.passive_store.specs.Kept.{Layout, body_at as kept_at, doubt_in}
use Rattle.passive_store.specs.Seen.{Seen}
use Rattle.journal.specs.EjectChange.{EjectChange, body, removal}
use Rattle.journal.specs.declared.event.Event.{Event}
use Rattle.journal.specs.declared.event.Event.TheVariants as event
use Rattle.journal.specs.declared.event.Shown.{Shown}
use Rattle.journal.specs.World.{Active, Eject, Site, StoreRequest, eject_in, on_eject, on_node}
use Rattle.journal.specs.Ejects.{with_active, on_active, newborn, born, fresh, next_uid, stored_epoch, tells}
use Rattle.journal.specs.Processes.{turn_of, turned, process_turn, worker_at, creates, AllowsTurn, CreatesKnown}
use Rattle.journal.specs.Settling.{epoch_uid}
use Rattle.journal.specs.Step.{AllowsAt, site_turn}
use Rattle.history_laws.proofs.Ordered.{order-put}
use Rattle.checkpoint.specs.Asked.{StandsNow}
use Rattle.checkpoint.specs.Changes.{Facts, facts_of, facts_in}
use Rattle.checkpoint.specs.StoreStands.{IsOrdered, doubt_of}
use Rattle.checkpoint.proofs.Dropped.{stands-same, stands-dropped, stands-asked}
use Rattle.checkpoint.proofs.Frames.{all-there}
use Rattle.checkpoint.proofs.Shifts.{Shift, same_facts, same_requests, shift-on_eject, shift-tells}
use Rattle.active_part.specs.Body.{Body, active_of}
use Rattle.ejects.specs.Parts.{Parts, Known, known, body_at, Stands}
use Rattle.ejects.proofs.Delivered.{found-active}
use Rattle.ejects.proofs.Turns.{effect-is}
use Rattle.ejects.proofs.Shifting.{wished, asked_after, CreatesNone, process-shift}
use Rattle.ejects.specs.Asking.{RequestsAre}
use Rattle.ejects.specs.Events.{IsTurnOf}
use Rattle.ejects.specs.Parts.{IsStep}
use Rattle.ejects.specs.Passive.{IsKeptIn}
use Rattle.ejects.specs.View.{parts_of}
use Rattle.ejects.specs.declared.Ejects.{Ejects}
use Rattle.std.specs.List.{filter_map}
use Rattle.passive_store.specs.Kept.{IsEject, is_busy}
use Rattle.journal.specs.Ejects.{count, dropped_of}
use Rattle.checkpoint.specs.Asked.{requests_of}
use Rattle.checkpoint.specs.StoreStands.{RequestsStand}
use Rattle.checkpoint.specs.declared.worker.Worker.{Worker}
use Rattle.eden_kernel.specs.Stands.{NodeStands}
use Rattle.eden_kernel.specs.Turns.{Turns}
use Rattle.eden_kernel.proofs.Still.{turns-still}

-- 1. An Eject that is created

-- what its disk knows of a new Eject is nothing, and of an old one what it knew
module _ (n : ℕ) (v : Uid) (it : Active) (s : Site) (own : v.node ≡ n) (some : 1 ≤ v.serial) where
  abbrev grown : Option Eject → Eject
  grown o = with_item o (with_active (Some it)) (newborn it)

  put : (u : Uid) → eject_in (born v it s) u ≡ cond (eq_by_cmp uid_cmp u v) (Some (grown (eject_in s v))) (eject_in s u)
  unfolding on_node
  put u = find-put uid_cmp uid_cmp_total u v (grown (eject_in s v)) s.node.ejects

  same : (o : Option Eject) → facts_of (Some (grown o)) ≡ facts_of o
  same None = refl
  same (Some e) = refl

  facts-born : (u : Uid) → facts_in (born v it s) u ≡ facts_in s u
  facts-born u = ap facts_of (put u) ∙ go (eq_by_cmp uid_cmp u v) refl
    where
      go : (b : Bool) → eq_by_cmp uid_cmp u v ≡ b → facts_of (cond b (Some (grown (eject_in s v))) (eject_in s u)) ≡ facts_in s u
      go true is = let e : u ≡ v = eq-same uid_cmp uid_cmp-IsAntisymmetric u v is in same (eject_in s v) ∙ ap (facts_in s) (sym e)
      go false is = refl

  there-born : (u : Uid) → is_some (eject_in s u) ≡ true → is_some (eject_in (born v it s) u) ≡ true
  there-born u held = ap is_some (put u) ∙ go (eq_by_cmp uid_cmp u v)
    where
      go : (b : Bool) → is_some (cond b (Some (grown (eject_in s v))) (eject_in s u)) ≡ true
      go true = refl
      go false = held

  -- each is the new one, or was there
  ordered-born : IsOrdered n s.node.ejects → IsOrdered n (born v it s).node.ejects
  unfolding on_node
  ordered-born o = record {
    in_order = order-put v (grown (eject_in s v)) s.node.ejects o.in_order;
    of_node = λ u is. node u (eq_by_cmp uid_cmp u v) refl (sym (ap is_some (put u)) ∙ is);
    not_reserved = λ u is. reserved u (eq_by_cmp uid_cmp u v) refl (sym (ap is_some (put u)) ∙ is);
  }
    where
      node : (u : Uid) (b : Bool) → eq_by_cmp uid_cmp u v ≡ b
          → is_some (cond (eq_by_cmp uid_cmp u v) (Some (grown (eject_in s v))) (eject_in s u)) ≡ true → u.node ≡ n
      node u true is held = ap (λ (w : Uid). w.node) (eq-same uid_cmp uid_cmp-IsAntisymmetric u v is) ∙ own
      node u false is held = o.of_node u (sym (ap (λ b. is_some (cond b (Some (grown (eject_in s v))) (eject_in s u))) is) ∙ held)

      reserved : (u : Uid) (b : Bool) → eq_by_cmp uid_cmp u v ≡ b
          → is_some (cond (eq_by_cmp uid_cmp u v) (Some (grown (eject_in s v))) (eject_in s u)) ≡ true → u ≢ epoch_uid n
      reserved u true is held bad =
          let e : u ≡ v = eq-same uid_cmp uid_cmp-IsAntisymmetric u v is in
          let none : v.serial ≡ 0 = ap (λ (w : Uid). w.serial) (sym e ∙ bad) in omega (arith, none, some)
      reserved u false is held bad =
          o.not_reserved u (sym (ap (λ b. is_some (cond b (Some (grown (eject_in s v))) (eject_in s u))) is) ∙ held) bad

  pub stands-born : (layout : Layout) (rs : List StoreRequest) (x : Seen) → StandsNow layout n s rs x
      → StandsNow layout n (born v it s) rs x
  unfolding on_node
  stands-born layout rs x h = record {
    number = h.number;
    its_layout = h.its_layout;
    up = h.up;
    keeps = record {
      undamaged = h.keeps.undamaged;
      not_untold = h.keeps.not_untold;
      ordered = ordered-born h.keeps.ordered;
      facts = λ u apart. facts-born u ∙ h.keeps.facts u apart;
      epoch = h.keeps.epoch;
      epoch_doubt = h.keeps.epoch_doubt;
      ledger = h.keeps.ledger;
      wrote = h.keeps.wrote;
    };
    epoch_settled = h.epoch_settled;
    epoch_stored = h.epoch_stored;
    queue = h.queue;
    stand = h.stand;
    there = all-there rs s.node.ejects (born v it s).node.ejects there-born h.there;
    synced = h.synced;
    its_size = h.its_size;
    its_clock = h.its_clock;
    not_overfull = h.not_overfull;
    fresh = h.fresh;
    stands = h.stands;
  }

-- 2. Which turn it was

-- the active part whose process took its turn, and what it did
pub record IsTurnBy (n : Parts) (u : Uid) (p : ℕ) : Type 0 where
  pub part : Body
  pub is_part : body_at n u ≡ Some part
  pub turn : Turned
  pub is_turn : turn_of u (active_of part) p ≡ Some turn

pub turn-found : (n : Parts) (s : Site) (u : Uid) (p : ℕ) (said : Shown) → Stands n s → AllowsAt s (event.Process u p said) → IsTurnBy n u p
turn-found n s u p said h allowed = eject (eject_in s u) refl allowed
  where
    found : (it : Active) (o : Option Body) → body_at n u ≡ o → Some it ≡ option_map active_of o → (t : Option Turned)
        → turn_of u it p ≡ t → IsSomeAnd t (λ t. CreatesKnown s.types t.effect) → IsTurnBy n u p
    found it None at is t turns made = absurd (let bad : Some it ≡ None = is in cc bad)
    found it (Some b) at is None turns made = absurd made
    found it (Some b) at is (Some t) turns made = let same : it ≡ active_of b = let e : Some it ≡ Some (active_of b) = is in cc e in
        record { part = b; is_part = at; turn = t; is_turn = subst (λ a. turn_of u a p ≡ Some t) same turns }

    worker : (it : Active) → Some it ≡ option_map active_of (body_at n u) → (o : Option Process)
        → IsSomeAnd o (λ q. AllowsTurn s u p said it q) → IsTurnBy n u p
    worker it is None a = absurd a
    worker it is (Some q) a = found it (body_at n u) refl is (turn_of u it p) refl a.known

    active : (e : Eject) → eject_in s u ≡ Some e → (o : Option Active) → e.active ≡ o
        → IsSomeAnd o (λ it. IsSomeAnd (worker_at it p) (λ q. AllowsTurn s u p said it q)) → IsTurnBy n u p
    active e at None is a = absurd a
    active e at (Some it) is a =
        worker it (sym is ∙ ap (λ (k : Known). k.active) (ap known (sym at) ∙ h.ejects u)) (worker_at it p) a

    eject : (o : Option Eject) → eject_in s u ≡ o
        → IsSomeAnd o (λ e. IsSomeAnd e.active (λ it. IsSomeAnd (worker_at it p) (λ q. AllowsTurn s u p said it q))) → IsTurnBy n u p
    eject None at a = absurd a
    eject (Some e) at a = active e at e.active refl a

-- 3. The store goes on standing

-- with the requests that the node has then
own-queue : (layout : Layout) (n : ℕ) (t : Site) (rs : List StoreRequest) (x : Seen) → StandsNow layout n t rs x
    → StandsNow layout n t t.node.requests x
own-queue layout n t rs x h = subst (λ qs. StandsNow layout n t qs x) (sym h.queue) h

-- the uid of the next Eject is of the node, with a serial
next-is : (a b : Bool) (why who : Status) (v w : Uid) → cond a (Err why) (cond b (Err who) (Ok w)) ≡ Ok v → w ≡ v
next-is true b why who v w is = absurd (let bad : ◌≡◌ {A = Result Uid Status} (Err why) (Ok v) = is in cc bad)
next-is false true why who v w is = absurd (let bad : ◌≡◌ {A = Result Uid Status} (Err who) (Ok v) = is in cc bad)
next-is false false why who v w is = let e : ◌≡◌ {A = Result Uid Status} (Ok w) (Ok v) = is in cc e

abbrev next-uid : Site → Uid
next-uid s = record { node = s.number; epoch = stored_epoch s.node; serial = s.node.last_serial + 1 }

pub uid-is : (s : Site) (v : Uid) → next_uid s ≡ Ok v → next-uid s ≡ v
uid-is s v is = next-is (nat_le 4096 (count s.node)) (nat_le 4294967295 s.node.last_serial) status.TooMany status.SerialsSpent v
    (next-uid s) is

stands-creates : (layout : Layout) (n : ℕ) (u : Uid) (p : ℕ) (t : Option Edentype) (s : Site) (rs : List StoreRequest) (x : Seen)
    → StandsNow layout n s rs x → (made : Result Uid Status) → next_uid s ≡ made → StandsNow layout n (creates u p t made s) rs x
stands-creates layout n u p None s rs x h made is = h
stands-creates layout n u p (Some t) s rs x h (Err why) is =
    stands-same layout n s (tells u p (Made why None) s) rs x (shift-tells u p (Made why None) s) h
stands-creates layout n u p (Some t) s rs x h (Ok v) is =
    let same = uid-is s v is in
    let own : v.node ≡ n = ap (λ (w : Uid). w.node) (sym same) ∙ h.number in
    let some : 1 ≤ v.serial = subst (λ (w : Uid). 1 ≤ w.serial) same (omega arith) in
    let it : Active = fresh t (first_values t) in
    stands-same layout n (born v it s) (tells u p (Made status.Ok (Some (full v))) (born v it s)) rs x
    (shift-tells u p (Made status.Ok (Some (full v))) (born v it s)) (stands-born n v it s own some layout rs x h)

facts-active : (f : Active → Active) (e : Eject) → facts_of (Some (on_active f e)) ≡ facts_of (Some e)
facts-active f e = go e.active
  where
    go : (o : Option Active) → facts_of (Some (with_item o (λ it. with_active (Some (f it)) e) e)) ≡ facts_of (Some e)
    go None = refl
    go (Some it) = refl

module _ (n : Parts) (s : Site) (u : Uid) (p : ℕ) (b : Body) (h : Stands n s) (at : body_at n u ≡ Some b) (reach : ℕ → Bool)
    (t : Turned) (is : turn_of u (active_of b) p ≡ Some t) (layout : Layout) (k : ℕ) (rs : List StoreRequest) (x : Seen)
    (hs : StandsNow layout k s rs x) where
  abbrev after : Site
  after = process_turn reach u p s

  abbrev bytes : List ℕ
  bytes = spelling (rep_of b.kind t.vars)

  held : is_some (value_at uid_cmp u s.node.ejects) ≡ true
  held = ap is_some (found-active n s u b h at).is

  shifts : (e : Effect) → t.effect ≡ e → CreatesNone e → Shift same_facts (asked_after u p bytes e) s after
  shifts e same none = subst (λ e. Shift same_facts (asked_after u p bytes e) s after) same
      (process-shift n s u p b h at reach t is (subst CreatesNone (sym same) none))

  own : (qs : List StoreRequest) → StandsNow layout k after qs x → StandsNow layout k after after.node.requests x
  own qs stands = own-queue layout k after qs x stands

  quiet : Shift same_facts same_requests s after → StandsNow layout k after after.node.requests x
  quiet shift = own rs (stands-same layout k s after rs x shift hs)

  asks : (c : EjectChange) → Shift same_facts (λ qs. qs ++ wished u p c ∷ []) s after → StandsNow layout k after after.node.requests x
  asks c shift = own (rs ++ wished u p c ∷ []) (stands-asked layout k s after (wished u p c) rs x refl held shift hs)

  drops : Shift same_facts (filter_map (dropped_of u)) s after → StandsNow layout k after after.node.requests x
  drops shift = own (filter_map (dropped_of u) rs) (stands-dropped layout k true u s after rs x shift hs)

  puts : (y : Bool) → Shift same_facts (λ qs. cond y (qs ++ wished u p (body bytes) ∷ []) qs) s after
      → StandsNow layout k after after.node.requests x
  puts true shift = asks (body bytes) shift
  puts false shift = quiet shift

  makes : (name : List ℕ) → t.effect ≡ effect.Create name → StandsNow layout k after after.node.requests x
  makes name same =
      let later : Site = on_eject u (on_active (turned p t)) s in
      own rs (subst (λ z. StandsNow layout k z rs x) (sym (effect-is n s u p b h at reach t is (effect.Create name) same))
      (stands-creates layout k u p (type_of later.types name) later rs x
      (stands-same layout k s later rs x (shift-on_eject u (on_active (turned p t)) s (facts-active (turned p t))) hs)
      (next_uid later) refl))

  by-effect : (e : Effect) → t.effect ≡ e → StandsNow layout k after after.node.requests x
  by-effect (effect.Return results) same = quiet (shifts (effect.Return results) same tt)
  by-effect (effect.Invoke target operation args) same = quiet (shifts (effect.Invoke target operation args) same tt)
  by-effect effect.End same = quiet (shifts effect.End same tt)
  by-effect (effect.Lock m) same = quiet (shifts (effect.Lock m) same tt)
  by-effect (effect.Leave m) same = quiet (shifts (effect.Leave m) same tt)
  by-effect (effect.Wait c) same = quiet (shifts (effect.Wait c) same tt)
  by-effect (effect.Signal c) same = quiet (shifts (effect.Signal c) same tt)
  by-effect effect.Yield same = quiet (shifts effect.Yield same tt)
  by-effect effect.Checkpoint same = puts (nat_le (length bytes) BODY_LIMIT) (shifts effect.Checkpoint same tt)
  by-effect effect.Destroy same = asks removal (shifts effect.Destroy same tt)
  by-effect effect.Deactivate same = drops (shifts effect.Deactivate same tt)
  by-effect (effect.Fault cause) same = drops (shifts (effect.Fault cause) same tt)
  by-effect (effect.Create name) same = makes name same

  pub stands-turned : StandsNow layout k after after.node.requests x
  stands-turned = by-effect t.effect refl

-- 4. The turn

-- whether an Eject stays without its active part, as the store says
pub kept-in : (layout : Layout) (n : ℕ) (s : Site) (u : Uid) (rs : List StoreRequest) (x : Seen) (stays : Bool)
    → StandsNow layout n s rs x → IsEject n u
    → stays ≡ (is_some (kept_at x.kept u) || is_some (doubt_of (doubt_in x.work) u)) → IsKeptIn s u stays
kept-in layout n s u rs x stays h own says = record {
  at = λ e is.
      let f : facts_of (Some e) ≡ (kept_at x.kept u, doubt_of (doubt_in x.work) u) = ap facts_of (sym is) ∙ h.keeps.facts u apart in
      ap (λ (f : Facts). is_some f.0 || is_some f.1) f ∙ sym says;
}
  where
    apart : u ≢ epoch_uid n
    apart bad = let none : u.serial ≡ 0 = ap (λ (w : Uid). w.serial) bad in omega (arith, none, own.2)

pub requests-are : (layout : Layout) (n : ℕ) (s : Site) (w : Worker) (x : Seen) → StandsNow layout n s (requests_of x.work
    w.requests.items) x
    → w.begun ≡ is_busy x.work → RequestsAre x.work x.disk.counts.size w s
requests-are layout n s w x h begun = record {
  queue = h.queue;
  stand = subst (RequestsStand x.work x.disk.counts.size) (sym h.queue) h.stand;
  begun = begun;
}

pub turns-process : (layout : Layout) (ts : TypeList) (k : ℕ) (x : Seen) (old new : Ejects) (w later : Worker) (m mail : Mail) (reach : ℕ
    → Bool)
    (s : Site) (u : Uid) (p : ℕ) (e : Event) → IsTurnOf u p e → IsStep reach (parts_of ts new) mail s e
    → NodeStands layout ts (record { number = k; ejects = old; worker = w; seen = x }) m s
    → (site_turn reach e s).node.requests ≡ requests_of x.work later.requests.items
    → Turns layout ts (record { number = k; ejects = new; worker = later; seen = x }) mail reach (record {
      number = k;
      ejects = old;
      worker = w;
      seen = x;
    }) s e
turns-process layout ts k x old new w later m mail reach s u p (event.Process v q said) is step h queue =
    let f = turn-found (parts_of ts old) s v q said h.calls.parts step.allowed in
    turns-still layout ts k x old new w later m mail reach s (event.Process v q said) step h
    (subst (λ qs. StandsNow layout x.node (process_turn reach v q s) qs x) queue
    (stands-turned (parts_of ts old) s v q f.part h.calls.parts f.is_part reach f.turn f.is_turn layout x.node
    (requests_of x.work w.requests.items) x h.disk))
turns-process layout ts k x old new w later m mail reach s u p _ is step h queue = absurd is
