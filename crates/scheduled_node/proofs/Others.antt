-- What each turn of a node leaves of what decides the turns of the other Ejects.
use Rattle.std.proofs.Common.{◌≡◌, ◌==◌, ℕ, nat_le, Bool, true, false, cond, not, List, [], ◌∷◌, ◌++◌, Option, None, Some}
use Rattle.std.proofs.Common.{Result, Ok, Err, length, refl, sym, ◌∙◌, ap}
use Rattle.std.specs.List.{filter}
use Rattle.std.specs.Option.{option_map}
use Rattle.std.specs.Ordering.{eq_by_cmp}
use Rattle.std.specs.FinMap.Entries.{find-put}
use Rattle.capability.specs.declared.Uid.{Uid}
use Rattle.capability.specs.declared.TheConstants.{BODY_LIMIT}
use Rattle.capability.specs.Capability.{full}
use Rattle.capability.proofs.Uids.{uid_cmp_total, uid_cmp-IsAntisymmetric}
use Rattle.eden_value.specs.Datum.{Datum}
use Rattle.eden_value.specs.declared.status.Status.{Status}
use Rattle.eden_value.specs.declared.status.Status.TheVariants as status
use Rattle.eden_codec.specs.Spelling.{spelling}
use Rattle.eden_model.specs.Map.{with_item, rest, value_at, uid_cmp}
use Rattle.eden_model.proofs.Laws.{eq-same}
use Rattle.eden_model.specs.Crew.{Invocation, Crew, outside, set_waits, locked, left, waited, signalled, running}
use Rattle.eden_model.specs.declared.Asker.{Asker}
use Rattle.eden_model.specs.declared.Asker.TheVariants.{Shell, Eject as Process}
use Rattle.eden_model.specs.Traffic.{Call, Traffic, held, call_at, next_call, with_call, changed_call, at_place, taken, replied}
use Rattle.eden_model.specs.Traffic.{all_replied, orphaned}
use Rattle.epl_syntax.specs.declared.effect.Answer.{Answer}
use Rattle.epl_syntax.specs.declared.effect.Answer.TheVariants.{Code, Reply as Told, Created as Made}
use Rattle.epl_syntax.specs.declared.effect.Effect.{Effect}
use Rattle.epl_syntax.specs.declared.effect.Effect.TheVariants as effect
use Rattle.epl_syntax.specs.Edentype.{Edentype}
use Rattle.epl_syntax.specs.Meaning.{Turned, rep_of, type_of, first_values, values_from}
use Rattle.passive_store.specs.declared.store.Pick.{Pick}
use Rattle.passive_store.specs.declared.store.Pick.TheVariants as pick
use Rattle.journal.specs.EjectChange.{EjectChange, body, removal, kept_of}
use Rattle.journal.specs.declared.event.StartEnd.{StartEnd}
use Rattle.journal.specs.declared.event.StartEnd.TheVariants as start_end
use Rattle.journal.specs.declared.event.RequestEnd.{RequestEnd}
use Rattle.journal.specs.declared.event.RequestEnd.TheVariants as end
use Rattle.journal.specs.World.{Active, Eject, StoreRequest, Node, Site, eject_in, on_eject, on_node, on_traffic}
use Rattle.journal.specs.Ejects.{with_active, with_queued, on_active, on_crew, is_there, told, tells, without_requests, deactivated}
use Rattle.journal.specs.Ejects.{turned_away, gone_if_unkept, fresh, next_uid, newborn, born}
use Rattle.journal.specs.Deliveries.{requested, tells_asker, received, heard}
use Rattle.journal.specs.Processes.{turn_of, turned, serving, with_start, start, without_process, asks_store, answers}
use Rattle.journal.specs.Processes.{refused_at_once, waits_or_told, creates, checkpoints, effected, process_turn}
use Rattle.journal.specs.Settling.{first_request, settled_eject, settled, unsynced, written_with, to_settle}
use Rattle.journal.specs.Crashes.{crashed}
use Rattle.journal.specs.Stores.{Work, syncs, reads, unkept, without_room, calls, work_of, more_made, doubted, tells_code, request_ended}
use Rattle.journal.specs.Stores.{removed, stored, done, worked, store_turn}
use Rattle.journal.specs.Boots.{booted_node, boot_turn}
use Rattle.journal.specs.declared.event.BootEnd.{BootEnd}
use Rattle.journal.specs.declared.event.BootEnd.TheVariants as boot_end
use Rattle.journal.specs.Starts.{start_of, misfits_answered, fits_at, activated, activation_turn, start_settled}
use Rattle.history_laws.proofs.Frame.{eject-on_eject}
use Rattle.history_laws.proofs.KeptTurns.{value-each}
use Rattle.checkpoint.specs.Turns.{with_clock}
use Rattle.scheduled_node.specs.Others.{part_of, deciding, SameBut}

-- a node that crashed is down
pub down-crashed : (s : Site) → (crashed s).node.up ≡ true → {A : Type 0} → A
unfolding on_traffic on_node
down-crashed s up = absurd (let bad : false ≡ true = up in cc bad)

module _ (those : Uid → Bool) where
  -- 1. The primitives

  pub same-here : (s : Site) → SameBut those s s
  same-here s = record { at = λ v other. refl }

  pub same-then : (s mid t : Site) → SameBut those s mid → SameBut those mid t → SameBut those s t
  same-then s mid t a b = record { at = λ v other. b.at v other ∙ a.at v other }

  pub same-item : {X : Type 0} (s : Site) (o : Option X) (f : X → Site) → ((x : X) → o ≡ Some x → SameBut those s (f x))
      → SameBut those s (with_item o f s)
  same-item s None f each = same-here s
  same-item s (Some x) f each = each x refl

  same-cond : (s : Site) (b : Bool) (x y : Site) → SameBut those s x → SameBut those s y → SameBut those s (cond b x y)
  same-cond s true x y a b = a
  same-cond s false x y a b = b

  then-eject : (u : Uid) (f : Eject → Eject) (s mid : Site) → those u ≡ true → SameBut those s mid → SameBut those s (on_eject u f mid)
  then-eject u f s mid on a = record {
    at = λ v other. ap deciding (eject-on_eject u v f mid) ∙ go v other (eq_by_cmp uid_cmp v u) refl ∙ a.at v other;
  }
    where
      go : (v : Uid) → those v ≡ false → (b : Bool) → eq_by_cmp uid_cmp v u ≡ b
          → deciding (cond b (option_map f (eject_in mid v)) (eject_in mid v)) ≡ deciding (eject_in mid v)
      go v other true is = absurd (let bad : true ≡ false = sym on
          ∙ ap those (sym (eq-same uid_cmp uid_cmp-IsAntisymmetric v u is)) ∙ other in cc bad)
      go v other false is = refl

  pub same-eject : (u : Uid) (f : Eject → Eject) (s : Site) → those u ≡ true → SameBut those s (on_eject u f s)
  same-eject u f s on = then-eject u f s s on (same-here s)

  -- a turn itself leaves the type, the processes and the queue of its Eject
  pub same-turned : (u : Uid) (p : ℕ) (t : Turned) (s : Site) → SameBut those s (on_eject u (on_active (turned p t)) s)
  same-turned u p t s = record {
    at = λ v other. ap deciding (eject-on_eject u v (on_active (turned p t)) s) ∙ go (eq_by_cmp uid_cmp v u) (eject_in s v);
  }
    where
      one : (it : Option Active) (queued : List ℕ) (kept : Option (List ℕ)) (doubt : Option EjectChange)
          → deciding (Some (on_active (turned p t) (record { active = it; queued = queued; kept = kept; doubt = doubt })))
          ≡ (option_map part_of it, queued)
      one None queued kept doubt = refl
      one (Some it) queued kept doubt = refl

      go : (b : Bool) (o : Option Eject) → deciding (cond b (option_map (on_active (turned p t)) o) o) ≡ deciding o
      go false o = refl
      go true None = refl
      go true (Some e) = one e.active e.queued e.kept e.doubt

  then-traffic : (f : Traffic → Traffic) (s mid : Site) → SameBut those s mid → SameBut those s (on_traffic f mid)
  unfolding on_traffic
  then-traffic f s mid a = record { at = a.at }

  then-node : (f : Node → Node) (s mid : Site) → (f mid.node).ejects ≡ mid.node.ejects → SameBut those s mid
      → SameBut those s (on_node f mid)
  unfolding on_node
  then-node f s mid same a = record { at = λ v other. ap (λ es. deciding (value_at uid_cmp v es)) same ∙ a.at v other }

  pub same-clock : (c : ℕ) (s t : Site) → SameBut those s t → SameBut those s (with_clock c t)
  same-clock c s t a = then-node (λ it. record it { clock = Some c }) s t refl a

  -- 2. The parts of a turn

  then-tells : (u : Uid) (p : ℕ) (a : Answer) (s mid : Site) → those u ≡ true → SameBut those s mid → SameBut those s (tells u p a mid)
  then-tells u p a s mid on h = then-eject u (on_active (told p a)) s mid on h

  pub same-tells : (u : Uid) (p : ℕ) (a : Answer) (s : Site) → those u ≡ true → SameBut those s (tells u p a s)
  same-tells u p a s on = then-tells u p a s s on (same-here s)

  same-turned_away : (u : Uid) (why : Status) (s : Site) → those u ≡ true → SameBut those s (turned_away u why s)
  same-turned_away u why s on = same-item s (eject_in s u) _ (λ e is.
      then-traffic (all_replied why e.queued) s (on_eject u (with_queued []) s) (same-eject u (with_queued []) s on))

  same-deactivated : (u : Uid) (s : Site) → those u ≡ true → SameBut those s (deactivated u s)
  same-deactivated u s on = same-item s (eject_in s u) _ (λ e is. same-item s e.active _ (λ it is_it.
      then-traffic (λ t. all_replied status.Dropped (running it.crew) (orphaned u t)) s
      (on_eject u (with_active None) (on_node (without_requests u) s))
      (then-eject u (with_active None) s (on_node (without_requests u) s) on
      (then-node (without_requests u) s s refl (same-here s)))))

  same-gone : (u : Uid) (s : Site) → those u ≡ true → SameBut those s (gone_if_unkept u s)
  same-gone u s on = same-item s (eject_in s u) _ (λ e is.
      same-cond s (is_there e) s (turned_away u status.Gone s) (same-here s) (same-turned_away u status.Gone s on))

  same-asks : (u : Uid) (p : ℕ) (c : EjectChange) (s : Site) → those u ≡ true → SameBut those s (asks_store u p c s)
  same-asks u p c s on = then-node (λ it. record it {
    requests = it.requests ++ record { uid = u; process = Some p; change = c; made = 0 } ∷ [];
  }) s (on_eject u (on_active (on_crew (set_waits p outside))) s) refl (same-eject u (on_active (on_crew (set_waits p outside))) s on)

  same-checkpoints : (u : Uid) (p : ℕ) (bytes : List ℕ) (s : Site) → those u ≡ true → SameBut those s (checkpoints u p bytes s)
  same-checkpoints u p bytes s on =
      same-cond s (nat_le (length bytes) BODY_LIMIT) (asks_store u p (body bytes) s) (tells u p (Code status.TooLarge) s)
      (same-asks u p (body bytes) s on) (same-tells u p (Code status.TooLarge) s on)

  pub same-born : (w : Uid) (it : Active) (s : Site) → those w ≡ true → SameBut those s (born w it s)
  unfolding on_node
  same-born w it s on = record {
    at = λ v other. ap deciding (find-put uid_cmp uid_cmp_total v w (grown (eject_in s w)) s.node.ejects)
        ∙ go v other (eq_by_cmp uid_cmp v w) refl;
  }
    where
      grown : Option Eject → Eject
      grown o = with_item o (with_active (Some it)) (newborn it)

      go : (v : Uid) → those v ≡ false → (b : Bool) → eq_by_cmp uid_cmp v w ≡ b
          → deciding (cond b (Some (grown (eject_in s w))) (eject_in s v)) ≡ deciding (eject_in s v)
      go v other true is = absurd (let bad : true ≡ false = sym on
          ∙ ap those (sym (eq-same uid_cmp uid_cmp-IsAntisymmetric v w is)) ∙ other in cc bad)
      go v other false is = refl

  same-creates : (u : Uid) (p : ℕ) (t : Option Edentype) (made : Result Uid Status) (s : Site) → those u ≡ true
      → ((w : Uid) → made ≡ Ok w → those w ≡ true) → SameBut those s (creates u p t made s)
  same-creates u p None made s on new = same-here s
  same-creates u p (Some t) (Ok w) s on new =
      then-tells u p (Made status.Ok (Some (full w))) s (born w (fresh t (first_values t)) s) on
      (same-born w (fresh t (first_values t)) s (new w refl))
  same-creates u p (Some t) (Err why) s on new = same-tells u p (Made why None) s on

  same-crew : (u : Uid) (f : Crew → Crew) (s : Site) → those u ≡ true → SameBut those s (on_eject u (on_active (on_crew f)) s)
  same-crew u f s on = same-eject u (on_active (on_crew f)) s on

  -- 3. A turn of a process

  -- an Eject that is created is one of those
  abbrev Births : Effect → Site → Type 0
  Births e s = (name : List ℕ) → e ≡ effect.Create name → (w : Uid) → next_uid s ≡ Ok w → those w ≡ true

  same-effected : (reach : ℕ → Bool) (u : Uid) (p : ℕ) (i : Option Invocation) (t : Edentype) (vars : List Datum) (e : Effect) (s : Site)
      → those u ≡ true → Births e s → SameBut those s (effected reach u p i t vars e s)
  same-effected reach u p i t vars (effect.Return results) s on new =
      then-traffic (answers i results) s (on_eject u (on_active (without_process p)) s) (same-eject u (on_active (without_process p)) s on)
  same-effected reach u p i t vars effect.End s on new = same-eject u (on_active (without_process p)) s on
  same-effected reach u p i t vars effect.Checkpoint s on new = same-checkpoints u p (spelling (rep_of t vars)) s on
  same-effected reach u p i t vars effect.Destroy s on new = same-asks u p removal s on
  same-effected reach u p i t vars effect.Deactivate s on new =
      same-then s (deactivated u s) (gone_if_unkept u (deactivated u s)) (same-deactivated u s on) (same-gone u (deactivated u s) on)
  same-effected reach u p i t vars (effect.Fault cause) s on new =
      same-then s (deactivated u s) (turned_away u status.Dropped (deactivated u s)) (same-deactivated u s on)
      (same-turned_away u status.Dropped (deactivated u s) on)
  same-effected reach u p i t vars (effect.Create name) s on new =
      same-creates u p (type_of s.types name) (next_uid s) s on (λ w is. new name refl w is)
  same-effected reach u p i t vars (effect.Invoke target operation args) s on new =
      let at_once = refused_at_once (reach target.uid.node) args in
      then-traffic (λ t. with_call (next_call t) (Process u p) target operation args at_once t) s
      (on_eject u (on_active (waits_or_told p at_once)) s) (same-eject u (on_active (waits_or_told p at_once)) s on)
  same-effected reach u p i t vars (effect.Lock m) s on new = same-crew u (locked p m) s on
  same-effected reach u p i t vars (effect.Leave m) s on new = same-crew u (left m) s on
  same-effected reach u p i t vars (effect.Wait c) s on new = same-crew u (waited p c) s on
  same-effected reach u p i t vars (effect.Signal c) s on new = same-crew u (signalled c) s on
  same-effected reach u p i t vars effect.Yield s on new = same-here s

  pub same-process_turn : (reach : ℕ → Bool) (u : Uid) (p : ℕ) (s : Site) → those u ≡ true
      → ((e : Eject) → eject_in s u ≡ Some e → (it : Active) → e.active ≡ Some it → (t : Turned) → turn_of u it p ≡ Some t
      → Births t.effect (on_eject u (on_active (turned p t)) s)) → SameBut those s (process_turn reach u p s)
  same-process_turn reach u p s on new = same-item s (eject_in s u) _ (λ e is. same-item s e.active _ (λ it is_it.
      same-item s (turn_of u it p) _ (λ t is_t.
      let now : Site = on_eject u (on_active (turned p t)) s in
      same-then s now (effected reach u p (serving it p) it.kind t.vars t.effect now) (same-eject u (on_active (turned p t)) s on)
      (same-effected reach u p (serving it p) it.kind t.vars t.effect now on (new e is it is_it t is_t)))))

  -- 4. Deliveries and starts

  pub same-requested : (k : ℕ) (refused : Option Status) (s : Site)
      → ((c : Call) → call_at s.traffic k ≡ Some c → those c.target.uid ≡ true) → SameBut those s (requested k refused s)
  same-requested k (Some why) s on = then-traffic (λ t. replied why [] k (taken k t)) s s (same-here s)
  same-requested k None s on = same-item s (call_at s.traffic k) _ (λ c is.
      then-eject c.target.uid (λ e. record e { queued = e.queued ++ k ∷ [] }) s
      (on_traffic (λ t. changed_call k (at_place held) (taken k t)) s) (on c is)
      (then-traffic (λ t. changed_call k (at_place held) (taken k t)) s s (same-here s)))

  then-tells_asker : (a : Asker) (why : Status) (values : List Datum) (s mid : Site)
      → ((u : Uid) (p : ℕ) → a ≡ Process u p → those u ≡ true) → SameBut those s mid → SameBut those s (tells_asker a why values mid)
  then-tells_asker (Shell name) why values s mid on h = h
  then-tells_asker (Process u p) why values s mid on h = then-tells u p (Told why values) s mid (on u p refl) h

  pub same-heard : (k : ℕ) (why : Status) (values : List Datum) (s : Site)
      → ((c : Call) → call_at s.traffic k ≡ Some c → (u : Uid) (p : ℕ) → c.asker ≡ Process u p → those u ≡ true)
      → SameBut those s (heard k why values s)
  same-heard k why values s on = same-item s (call_at s.traffic k) _ (λ c is.
      same-cond s c.open_ (tells_asker c.asker why values (on_traffic (received k) s)) (on_traffic (received k) s)
      (then-tells_asker c.asker why values s (on_traffic (received k) s) (on c is) (then-traffic (received k) s s (same-here s)))
      (then-traffic (received k) s s (same-here s)))

  pub same-start : (u : Uid) (k p : ℕ) (s : Site) → those u ≡ true → SameBut those s (start u k p s)
  same-start u k p s on = same-item s (call_at s.traffic k) _ (λ c is.
      same-eject u (λ e. record (on_active (with_start s.traffic k p c) e) { queued = filter (λ j. not (j == k)) e.queued }) s on)

  -- 5. The store

  same-settled : (p : Option Pick) (s : Site) → SameBut those s (settled p s)
  unfolding on_node
  same-settled None s = same-here s
  same-settled (Some p) s = record { at = λ v other. ap deciding (value-each v (settled_eject p) s.node.ejects) ∙ go p (eject_in s v) }
    where
      go : (p : Pick) (o : Option Eject) → deciding (option_map (settled_eject p) o) ≡ deciding o
      go p None = refl
      go pick.Old (Some e) = refl
      go pick.New (Some e) = refl

  same-unsynced : (s : Site) → SameBut those s (unsynced s)
  same-unsynced s = then-node (λ it. record it { synced = false }) s s refl (same-here s)

  same-ended : (r : StoreRequest) (why : Status) (s : Site) → those r.uid ≡ true → SameBut those s (request_ended r why s)
  same-ended r why s on = go r.process
    where
      left-out : Site
      left-out = on_node (λ it. record it { requests = rest it.requests }) s

      go : (p : Option ℕ) → SameBut those s (tells_code r.uid p why left-out)
      go None = then-node (λ it. record it { requests = rest it.requests }) s s refl (same-here s)
      go (Some p) = then-tells r.uid p (Code why) s left-out on
          (then-node (λ it. record it { requests = rest it.requests }) s s refl (same-here s))

  same-removed : (c : EjectChange) (u : Uid) (s : Site) → those u ≡ true → SameBut those s (removed c u s)
  same-removed (body bytes) u s on = same-here s
  same-removed removal u s on =
      same-then s (deactivated u s) (turned_away u status.Gone (deactivated u s)) (same-deactivated u s on)
      (same-turned_away u status.Gone (deactivated u s) on)

  same-done : (r : StoreRequest) (s : Site) → those r.uid ≡ true → SameBut those s (done r s)
  same-done r s on = same-then s (request_ended r status.Ok s) (done r s) (same-ended r status.Ok s on)
      (same-removed r.change r.uid (request_ended r status.Ok s) on)

  same-stored : (r : StoreRequest) (s : Site) → those r.uid ≡ true → SameBut those s (stored r s)
  same-stored r s on = then-node (λ it. record it { ledger = written_with s.layout r.change it.ledger }) s
      (on_eject r.uid (λ e. record e { kept = kept_of r.change; doubt = None }) s) refl
      (same-eject r.uid (λ e. record e { kept = kept_of r.change; doubt = None }) s on)

  same-doubted : (r : StoreRequest) (s : Site) → those r.uid ≡ true → SameBut those s (doubted r s)
  same-doubted r s on = same-eject r.uid (λ e. record e { doubt = Some r.change }) s on

  same-failed : (r : StoreRequest) (s : Site) → those r.uid ≡ true → SameBut those s (request_ended r status.StoreFault (unsynced s))
  same-failed r s on = same-then s (unsynced s) (request_ended r status.StoreFault (unsynced s)) (same-unsynced s)
      (same-ended r status.StoreFault (unsynced s) on)

  same-worked : (w : Work) (r : StoreRequest) (how : RequestEnd) (p : Option Pick) (s : Site) → those r.uid ≡ true
      → (worked w r how p s).node.up ≡ true → SameBut those s (worked w r how p s)
  same-worked syncs r end.Part p s on up = then-node (λ it. record it { synced = true }) s s refl (same-here s)
  same-worked syncs r end.Done p s on up = same-here s
  same-worked syncs r end.Full p s on up = same-here s
  same-worked syncs r end.Fault p s on up = same-failed r s on
  same-worked syncs r end.Stop p s on up = down-crashed s up
  same-worked reads r end.Part p s on up = same-settled p s
  same-worked reads r end.Done p s on up = same-here s
  same-worked reads r end.Full p s on up = same-here s
  same-worked reads r end.Fault p s on up = same-failed r s on
  same-worked reads r end.Stop p s on up = down-crashed s up
  same-worked unkept r how p s on up = same-done r s on
  same-worked without_room r how p s on up = same-ended r status.Full s on
  same-worked calls r end.Part p s on up =
      then-node (λ it. record it { requests = more_made it.requests }) s (doubted r s) refl (same-doubted r s on)
  same-worked calls r end.Done p s on up = same-then s (stored r s) (done r (stored r s)) (same-stored r s on) (same-done r (stored r s) on)
  same-worked calls r end.Full p s on up = same-here s
  same-worked calls r end.Fault p s on up =
      same-then s (doubted r s) (request_ended r status.StoreFault (doubted r s)) (same-doubted r s on)
      (same-ended r status.StoreFault (doubted r s) on)
  same-worked calls r end.Stop p s on up = down-crashed (doubted r s) up

  pub same-store_turn : (how : RequestEnd) (p : Option Pick) (s : Site)
      → ((r : StoreRequest) → first_request s.node ≡ Some r → those r.uid ≡ true) → (store_turn how p s).node.up ≡ true
      → SameBut those s (store_turn how p s)
  same-store_turn how p s on up = go (first_request s.node) refl up
    where
      go : (o : Option StoreRequest) → first_request s.node ≡ o → (with_item o (λ r. worked (work_of s r) r how p s) s).node.up ≡ true
          → SameBut those s (with_item o (λ r. worked (work_of s r) r how p s) s)
      go None is up = same-here s
      go (Some r) is up = same-worked (work_of s r) r how p s (on r is) up

  -- 6. Activations

  same-activated : (u : Uid) (how : StartEnd) (s : Site) → those u ≡ true → (activated u how s).node.up ≡ true
      → SameBut those s (activated u how s)
  same-activated u start_end.Ok s on up = same-item s (eject_in s u) _ (λ e is. same-item s e.kept _ (λ bytes is_b.
      same-item s (start_of s.types bytes u) _ (λ start is_s. then-traffic (misfits_answered start.0 e.queued) s _
      (same-eject u (λ old. record old {
        active = Some (fresh start.0 (values_from start.0 start.1));
        queued = filter (fits_at start.0 s.traffic) e.queued;
      }) s on))))
  same-activated u start_end.Gone s on up = same-turned_away u status.Gone s on
  same-activated u start_end.Fault s on up = same-turned_away u status.StoreFault s on
  same-activated u start_end.Damaged s on up = same-turned_away u status.Damaged s on
  same-activated u start_end.Stop s on up = down-crashed s up

  same-started : (p : Option Pick) (s : Site) → SameBut those s (start_settled p s)
  same-started p s = same-cond s (to_settle s) (settled p (unsynced s)) s
      (same-then s (unsynced s) (settled p (unsynced s)) (same-unsynced s) (same-settled p (unsynced s))) (same-here s)

  pub same-activation : (u : Uid) (how : StartEnd) (p : Option Pick) (s : Site) → those u ≡ true → (activation_turn u how p s).node.up
      ≡ true
      → SameBut those s (activation_turn u how p s)
  same-activation u how p s on up = same-then s (start_settled p s) (activation_turn u how p s) (same-started p s)
      (same-activated u how (start_settled p s) on up)

  -- 7. Boots

  pub same-boot : (e : ℕ) (how : BootEnd) (p : Option Pick) (began : Bool) (s : Site) → SameBut those s (boot_turn e how p began s)
  same-boot e how p began s = then-node (booted_node s e how began) s (settled p s) (ejects how (settled p s).node) (same-settled p s)
    where
      ejects : (how : BootEnd) (it : Node) → (booted_node s e how began it).ejects ≡ it.ejects
      ejects boot_end.Up it = refl
      ejects boot_end.DiskFault it = refl
      ejects boot_end.Stop it = refl
      ejects (boot_end.Damaged place) it = refl
      ejects boot_end.EpochsSpent it = refl
      ejects boot_end.Full it = refl
