-- At a node, what is kept of an Eject changes only by its own put or removal, acknowledged or found done.
use Rattle.std.proofs.Common.{◌≡◌, ◌⊎◌, inl, inr, ◌==◌, ℕ, Bool, true, false, cond, not, List, [], ◌∷◌, ◌++◌, Option, None, Some}
use Rattle.std.proofs.Common.{is_some, refl, sym, ◌∙◌, ap}
use Rattle.std.specs.Prelude.{IsTrue}
use Rattle.std.specs.List.{filter}
use Rattle.std.specs.Option.{option_map}
use Rattle.std.specs.Ordering.{eq_by_cmp}
use Rattle.capability.specs.declared.Uid.{Uid}
use Rattle.eden_value.specs.Datum.{Datum}
use Rattle.eden_value.specs.declared.status.Status.{Status}
use Rattle.eden_value.specs.declared.status.Status.TheVariants as status
use Rattle.eden_model.specs.declared.Asker.{Asker}
use Rattle.eden_model.specs.declared.Asker.TheVariants.{Shell, Eject as Process}
use Rattle.eden_model.specs.Map.{with_item, uid_cmp, value_at, each_value, rest}
use Rattle.eden_model.specs.Traffic.{held, call_at, changed_call, at_place, taken, replied, without_node}
use Rattle.capability.proofs.Uids.{uid_cmp-IsAntisymmetric}
use Rattle.eden_model.proofs.Laws.{eq-same}
use Rattle.epl_syntax.specs.declared.effect.Answer.TheVariants.{Reply as Told, Code}
use Rattle.passive_store.specs.declared.store.Pick.{Pick}
use Rattle.passive_store.specs.declared.store.Pick.TheVariants as pick
use Rattle.journal.specs.EjectChange.{EjectChange, body, removal, kept_of}
use Rattle.journal.specs.declared.event.RequestEnd.{RequestEnd}
use Rattle.journal.specs.declared.event.RequestEnd.TheVariants as end
use Rattle.journal.specs.World.{Site, Eject, StoreRequest, eject_in, on_eject, on_node, on_traffic}
use Rattle.journal.specs.Ejects.{on_active, deactivated}
use Rattle.journal.specs.Deliveries.{requested, tells_asker, received, heard}
use Rattle.journal.specs.Processes.{with_start, start}
use Rattle.journal.specs.Settling.{first_request, settled_eject, settled, unsynced, written_with}
use Rattle.journal.specs.Crashes.{fallen, down, crashed}
use Rattle.journal.specs.Stores.{Work, syncs, reads, unkept, without_room, calls, work_of, more_made, doubted, tells_code, request_ended}
use Rattle.journal.specs.Stores.{removed, stored, done, worked, store_turn}
use Rattle.history_laws.proofs.Frame.{eject-on_eject}
use Rattle.history_laws.proofs.KeptLaw.{kept_of_eject, kept_in, with-kept, kept-on_eject, kept-on_traffic, kept-on_node, kept-item}
use Rattle.history_laws.proofs.KeptLaw.{active-kept, kept-tells, kept-turned_away, kept-deactivated}

-- 1. Deliveries, starts and crashes

pub kept-requested : (u : Uid) (k : ℕ) (refused : Option Status) (s : Site) → kept_in (requested k refused s) u ≡ kept_in s u
kept-requested u k (Some why) s = kept-on_traffic u (λ t. replied why [] k (taken k t)) s
kept-requested u k None s = kept-item u s (call_at s.traffic k) _ (λ c.
    kept-on_eject u c.target.uid (λ e. record e { queued = e.queued ++ k ∷ [] }) (λ e. refl)
    (on_traffic (λ t. changed_call k (at_place held) (taken k t)) s)
    ∙ kept-on_traffic u (λ t. changed_call k (at_place held) (taken k t)) s)

kept-tells_asker : (u : Uid) (a : Asker) (why : Status) (values : List Datum) (s : Site)
    → kept_in (tells_asker a why values s) u ≡ kept_in s u
kept-tells_asker u (Shell name) why values s = refl
kept-tells_asker u (Process v p) why values s = kept-tells u v p (Told why values) s

pub kept-heard : (u : Uid) (k : ℕ) (why : Status) (values : List Datum) (s : Site) → kept_in (heard k why values s) u ≡ kept_in s u
kept-heard u k why values s = kept-item u s (call_at s.traffic k) _ (λ c.
    elim c.open_ as (λ b. kept_in (cond b (tells_asker c.asker why values (on_traffic (received k) s)) (on_traffic (received k) s)) u
    ≡ kept_in s u) [
      | true ↦ kept-tells_asker u c.asker why values (on_traffic (received k) s) ∙ kept-on_traffic u
          (received k) s
      | false ↦ kept-on_traffic u (received k) s
    ])

pub kept-start : (u v : Uid) (k p : ℕ) (s : Site) → kept_in (start v k p s) u ≡ kept_in s u
kept-start u v k p s = kept-item u s (call_at s.traffic k) _ (λ c.
    kept-on_eject u v (λ e. record (on_active (with_start s.traffic k p c) e) { queued = filter (λ j. not (j == k)) e.queued })
    (λ e. active-kept (with_start s.traffic k p c) e) s)

pub value-each : (u : Uid) (f : Eject → Eject) (es : List (Uid × Eject))
    → value_at uid_cmp u (each_value f es) ≡ option_map f (value_at uid_cmp u es)
value-each u f [] = refl
value-each u f (e ∷ es) = go (value-each u f es) (eq_by_cmp uid_cmp u e.0) refl
  where
    go : value_at uid_cmp u (each_value f es) ≡ option_map f (value_at uid_cmp u es) → (b : Bool) → eq_by_cmp uid_cmp u e.0 ≡ b
        → value_at uid_cmp u (each_value f (e ∷ es)) ≡ option_map f (value_at uid_cmp u (e ∷ es))
    go later true is = rw is refl
    go later false is = rw is later

kept-each : (u : Uid) (f : Eject → Eject) → ((e : Eject) → (f e).kept ≡ e.kept) → (es : List (Uid × Eject))
    → kept_of_eject (value_at uid_cmp u (each_value f es)) ≡ kept_of_eject (value_at uid_cmp u es)
kept-each u f same es = ap kept_of_eject (value-each u f es) ∙ with-kept true (value_at uid_cmp u es) f same

pub kept-crashed : (u : Uid) (s : Site) → kept_in (crashed s) u ≡ kept_in s u
unfolding on_node
kept-crashed u s = kept-on_traffic u (without_node s.number) (on_node down s) ∙ kept-each u fallen (λ e. refl) s.node.ejects

-- 2. Settling

abbrev pub is_doubted : Option Eject → Bool
is_doubted o = with_item o (λ e. is_some e.doubt) false

-- a pick of New settles what is in doubt of u
abbrev pub IsSettledAsNew : Site → Uid → Option Pick → Type 0
IsSettledAsNew s u p = (p ≡ Some pick.New) × IsTrue (is_doubted (eject_in s u))

settled-one : (o : Option Eject) → (kept_of_eject (option_map (settled_eject pick.New) o) ≡ kept_of_eject o) ⊎ IsTrue (is_doubted o)
settled-one None = inl refl
settled-one (Some e) = go e.doubt refl
  where
    go : (d : Option EjectChange) → e.doubt ≡ d → (with_item e.doubt kept_of e.kept ≡ e.kept) ⊎ IsTrue (is_some e.doubt)
    go None is = inl (rw is refl)
    go (Some c) is = inr (rw is refl)

pub kept-settled : (u : Uid) (p : Option Pick) (s : Site) → (kept_in (settled p s) u ≡ kept_in s u) ⊎ IsSettledAsNew s u p
unfolding on_node
kept-settled u None s = inl refl
kept-settled u (Some pick.Old) s = inl (kept-each u (settled_eject pick.Old) (λ e. refl) s.node.ejects)
kept-settled u (Some pick.New) s = go (settled-one (value_at uid_cmp u s.node.ejects))
  where
    go : (kept_of_eject (option_map (settled_eject pick.New) (value_at uid_cmp u s.node.ejects)) ≡ kept_of_eject
        (value_at uid_cmp u s.node.ejects)) ⊎ IsTrue (is_doubted (value_at uid_cmp u s.node.ejects))
        → (kept_of_eject (value_at uid_cmp u (each_value (settled_eject pick.New) s.node.ejects)) ≡ kept_of_eject
        (value_at uid_cmp u s.node.ejects)) ⊎ ((Some pick.New ≡ Some pick.New) × IsTrue (is_doubted (value_at uid_cmp u s.node.ejects)))
    go (inl same) = inl (ap kept_of_eject (value-each u (settled_eject pick.New) s.node.ejects) ∙ same)
    go (inr some) = inr (refl, some)

pub kept-unsynced : (u : Uid) (s : Site) → kept_in (unsynced s) u ≡ kept_in s u
kept-unsynced u s = kept-on_node u (λ it. record it { synced = false }) (λ it. refl) s

-- 3. The store

kept-tells_code : (u v : Uid) (p : Option ℕ) (why : Status) (s : Site) → kept_in (tells_code v p why s) u ≡ kept_in s u
kept-tells_code u v None why s = refl
kept-tells_code u v (Some p) why s = kept-tells u v p (Code why) s

kept-ended : (u : Uid) (r : StoreRequest) (why : Status) (s : Site) → kept_in (request_ended r why s) u ≡ kept_in s u
kept-ended u r why s = kept-tells_code u r.uid r.process why (on_node (λ it. record it { requests = rest it.requests }) s)
    ∙ kept-on_node u (λ it. record it { requests = rest it.requests }) (λ it. refl) s

kept-removed : (u v : Uid) (c : EjectChange) (s : Site) → kept_in (removed c v s) u ≡ kept_in s u
kept-removed u v (body bytes) s = refl
kept-removed u v removal s = kept-turned_away u v status.Gone (deactivated v s) ∙ kept-deactivated u v s

kept-done : (u : Uid) (r : StoreRequest) (s : Site) → kept_in (done r s) u ≡ kept_in s u
kept-done u r s = kept-removed u r.uid r.change (request_ended r status.Ok s) ∙ kept-ended u r status.Ok s

kept-doubted : (u : Uid) (r : StoreRequest) (s : Site) → kept_in (doubted r s) u ≡ kept_in s u
kept-doubted u r s = kept-on_eject u r.uid (λ e. record e { doubt = Some r.change }) (λ e. refl) s

-- what is put is kept, of that Eject alone
kept-stored : (u : Uid) (r : StoreRequest) (s : Site) → (kept_in (stored r s) u ≡ kept_in s u) ⊎ (r.uid ≡ u)
kept-stored u r s = go (eq_by_cmp uid_cmp u r.uid) refl
  where
    go : (b : Bool) → eq_by_cmp uid_cmp u r.uid ≡ b → (kept_in (stored r s) u ≡ kept_in s u) ⊎ (r.uid ≡ u)
    go true is = inr (sym (eq-same uid_cmp uid_cmp-IsAntisymmetric u r.uid is))
    go false is = inl (kept-on_node u (λ it. record it { ledger = written_with s.layout r.change it.ledger }) (λ it. refl)
        (on_eject r.uid (λ e. record e { kept = kept_of r.change; doubt = None }) s)
        ∙ rw (eject-on_eject r.uid u (λ e. record e { kept = kept_of r.change; doubt = None }) s, is) refl)

-- how the end of a request may change what is kept of u
abbrev pub MayStore : Site → Uid → StoreRequest → RequestEnd → Option Pick → Type 0
MayStore s u r end.Done p = r.uid ≡ u
MayStore s u r how p = IsSettledAsNew s u p

kept-worked : (w : Work) (u : Uid) (r : StoreRequest) (how : RequestEnd) (p : Option Pick) (s : Site)
    → (kept_in (worked w r how p s) u ≡ kept_in s u) ⊎ MayStore s u r how p
kept-worked syncs u r end.Part p s = inl (kept-on_node u (λ it. record it { synced = true }) (λ it. refl) s)
kept-worked syncs u r end.Done p s = inl refl
kept-worked syncs u r end.Full p s = inl refl
kept-worked syncs u r end.Fault p s = inl (kept-ended u r status.StoreFault (unsynced s) ∙ kept-unsynced u s)
kept-worked syncs u r end.Stop p s = inl (kept-crashed u s)
kept-worked reads u r end.Part p s = kept-settled u p s
kept-worked reads u r end.Done p s = inl refl
kept-worked reads u r end.Full p s = inl refl
kept-worked reads u r end.Fault p s = inl (kept-ended u r status.StoreFault (unsynced s) ∙ kept-unsynced u s)
kept-worked reads u r end.Stop p s = inl (kept-crashed u s)
kept-worked unkept u r how p s = inl (kept-done u r s)
kept-worked without_room u r how p s = inl (kept-ended u r status.Full s)
kept-worked calls u r end.Part p s = inl (kept-on_node u (λ it. record it { requests = more_made it.requests }) (λ it. refl) (doubted r s)
    ∙ kept-doubted u r s)
kept-worked calls u r end.Done p s = go (kept-stored u r s)
  where
    go : (kept_in (stored r s) u ≡ kept_in s u) ⊎ (r.uid ≡ u) → (kept_in (done r (stored r s)) u ≡ kept_in s u) ⊎ (r.uid ≡ u)
    go (inl same) = inl (kept-done u r (stored r s) ∙ same)
    go (inr is) = inr is
kept-worked calls u r end.Full p s = inl refl
kept-worked calls u r end.Fault p s = inl (kept-ended u r status.StoreFault (doubted r s) ∙ kept-doubted u r s)
kept-worked calls u r end.Stop p s = inl (kept-crashed u (doubted r s) ∙ kept-doubted u r s)

-- a turn of the store changes what is kept of the Eject whose request is done, or of one that a pick of New settles
pub kept-store_turn : (u : Uid) (how : RequestEnd) (p : Option Pick) (s : Site) (r : StoreRequest) → first_request s.node ≡ Some r
    → (kept_in (store_turn how p s) u ≡ kept_in s u) ⊎ MayStore s u r how p
kept-store_turn u how p s r is = rw is (kept-worked (work_of s r) u r how p s)
