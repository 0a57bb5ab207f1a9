-- What a node knows of its Ejects' changes stays the same in all turns but those of the store.
use Rattle.std.proofs.Common.{◌≡◌, ◌==◌, ℕ, zero, suc, Bool, true, false, cond, not, ◌&&◌, List, [], ◌∷◌, ◌++◌, Option, None, Some}
use Rattle.std.proofs.Common.{Result, Ok, Err, is_some, refl, sym, ◌∙◌, ap, nat_le, nat_lt, length, arith}
use Rattle.std.specs.List.{filter, filter_map, cons_option}
use Rattle.std.specs.Option.{option_map}
use Rattle.std.specs.Ordering.{eq_by_cmp}
use Rattle.std.specs.FinMap.Entries.{find-put}
use Rattle.capability.specs.declared.Uid.{Uid}
use Rattle.capability.specs.Capability.{full}
use Rattle.capability.specs.declared.TheConstants.{BODY_LIMIT}
use Rattle.eden_value.specs.Datum.{Datum}
use Rattle.eden_value.specs.declared.status.Status.{Status}
use Rattle.eden_value.specs.declared.status.Status.TheVariants as status
use Rattle.eden_codec.specs.Spelling.{spelling}
use Rattle.eden_model.specs.Map.{with_item, uid_cmp, same_uid, value_at, rest}
use Rattle.eden_model.specs.Traffic.{Traffic, held, call_at, changed_call, at_place, taken, replied, all_replied, orphaned, next_call}
use Rattle.eden_model.specs.Traffic.{with_call, without_node}
use Rattle.eden_model.specs.declared.Asker.{Asker}
use Rattle.eden_model.specs.declared.Asker.TheVariants.{Shell, Eject as Process}
use Rattle.eden_model.specs.Crew.{Invocation, outside, set_waits, locked, left, waited, signalled, running}
use Rattle.capability.proofs.Uids.{uid_cmp_total, uid_cmp-IsAntisymmetric}
use Rattle.eden_model.proofs.Laws.{eq-same}
use Rattle.epl_syntax.specs.declared.effect.Answer.{Answer}
use Rattle.epl_syntax.specs.declared.effect.Answer.TheVariants.{Code, Reply as Told, Created as Made}
use Rattle.epl_syntax.specs.declared.effect.Effect.{Effect}
use Rattle.epl_syntax.specs.declared.effect.Effect.TheVariants as effect
use Rattle.epl_syntax.specs.Edentype.{Edentype}
use Rattle.epl_syntax.specs.Meaning.{rep_of, type_of, first_values}
use Rattle.journal.specs.EjectChange.{EjectChange, body, removal}
use Rattle.journal.specs.World.{Site, Eject, Active, StoreRequest, eject_in, on_eject, on_node, on_traffic}
use Rattle.journal.specs.Ejects.{with_active, with_queued, on_active, on_crew, is_there, told, tells, dropped_of, without_requests}
use Rattle.journal.specs.Ejects.{deactivated, turned_away, gone_if_unkept, fresh, next_uid, newborn, born}
use Rattle.journal.specs.Deliveries.{requested, tells_asker, received, heard}
use Rattle.journal.specs.Processes.{turn_of, turned, serving, with_start, start, without_process, asks_store, answers, refused_at_once}
use Rattle.journal.specs.Processes.{waits_or_told, creates, checkpoints, effected, process_turn}
use Rattle.journal.specs.Crashes.{fallen, down, crashed}
use Rattle.journal.specs.Starts.{start_of, misfits_answered, awake}
use Rattle.journal.specs.Sites.{AllUnmade, AllThere}
use Rattle.history_laws.proofs.Changes.{Facts, facts_of, facts_in, begun_by, begun, Queue}
use Rattle.history_laws.proofs.Frame.{eject-on_eject}
use Rattle.history_laws.proofs.KeptTurns.{value-each}
use Rattle.history_laws.proofs.SafeRuns.{same-number}

-- 1. Two sites, before and after

abbrev pub Queued : Site → Type 0
Queued s = Queue s.node.requests s.node.ejects

-- what the second site has in place of the first
pub record Comes (s t : Site) (now : Uid → Facts) (work : Uid → Option EjectChange) : Type 0 where
  pub facts : (u : Uid) → facts_in t u ≡ now u
  pub works : (u : Uid) → begun t.node.requests u ≡ work u
  pub there : (u : Uid) → is_some (eject_in s u) ≡ true → is_some (eject_in t u) ≡ true
  pub queue : Queued t

-- nothing of it changes
abbrev pub Keeps : Site → Site → Type 0
Keeps s t = Queued s → Comes s t (facts_in s) (begun s.node.requests)

pub stays : (s : Site) → Keeps s s
stays s q = record { facts = λ u. refl; works = λ u. refl; there = λ u h. h; queue = q }

-- first f, then g
pub and-then : (s t v : Site) → Keeps s t → Keeps t v → Keeps s v
and-then s t v a b q = let x = a q in let y = b x.queue in
    record {
      facts = λ u. y.facts u ∙ x.facts u;
      works = λ u. y.works u ∙ x.works u;
      there = λ u h. y.there u (x.there u h);
      queue = y.queue;
    }

pub all-there : (rs : List StoreRequest) (es fs : List (Uid × Eject))
    → ((u : Uid) → is_some (value_at uid_cmp u es) ≡ true → is_some (value_at uid_cmp u fs) ≡ true) → AllThere rs es → AllThere rs fs
all-there [] es fs more all = tt
all-there (r ∷ rs) es fs more all = (more r.uid all.0, all-there rs es fs more all.1)

facts-changed : (b : Bool) (f : Eject → Eject) (o : Option Eject) → ((e : Eject) → facts_of (Some (f e)) ≡ facts_of (Some e))
    → facts_of (cond b (option_map f o) o) ≡ facts_of o
facts-changed true f None same = refl
facts-changed true f (Some e) same = same e
facts-changed false f o same = refl

pub there-changed : (b : Bool) (f : Eject → Eject) (o : Option Eject) → is_some o ≡ true → is_some (cond b (option_map f o) o) ≡ true
there-changed true f None is = is
there-changed true f (Some e) is = refl
there-changed false f o is = is

pub there-on_eject : (v : Uid) (f : Eject → Eject) (s : Site) (u : Uid) → is_some (eject_in s u) ≡ true
    → is_some (eject_in (on_eject v f s) u) ≡ true
there-on_eject v f s u is = ap is_some (eject-on_eject v u f s) ∙ there-changed (eq_by_cmp uid_cmp u v) f (eject_in s u) is

pub keeps-on_eject : (v : Uid) (f : Eject → Eject) → ((e : Eject) → facts_of (Some (f e)) ≡ facts_of (Some e)) → (s : Site)
    → Keeps s (on_eject v f s)
unfolding on_eject
keeps-on_eject v f same s q = record {
  facts = λ u. ap facts_of (eject-on_eject v u f s) ∙ facts-changed (eq_by_cmp uid_cmp u v) f (eject_in s u) same;
  works = λ u. refl;
  there = there-on_eject v f s;
  queue = record { unmade = q.unmade; there = all-there s.node.requests s.node.ejects _ (there-on_eject v f s) q.there };
}

pub keeps-on_traffic : (f : Traffic → Traffic) (s : Site) → Keeps s (on_traffic f s)
unfolding on_traffic
keeps-on_traffic f s q = record { facts = λ u. refl; works = λ u. refl; there = λ u h. h; queue = q }

pub keeps-item : {X : Type 0} (s : Site) (o : Option X) (f : X → Site) → ((x : X) → o ≡ Some x → Keeps s (f x)) → Keeps s (with_item o f s)
keeps-item s None f each = stays s
keeps-item s (Some x) f each = each x refl

pub keeps-cond : (b : Bool) (s t v : Site) → Keeps s t → Keeps s v → Keeps s (cond b t v)
keeps-cond true s t v a c = a
keeps-cond false s t v a c = c

facts-active : (f : Active → Active) (e : Eject) → facts_of (Some (on_active f e)) ≡ facts_of (Some e)
facts-active f e = go e.active
  where
    go : (o : Option Active) → facts_of (Some (with_item o (λ it. with_active (Some (f it)) e) e)) ≡ facts_of (Some e)
    go None = refl
    go (Some it) = refl

pub keeps-on_active : (v : Uid) (f : Active → Active) (s : Site) → Keeps s (on_eject v (on_active f) s)
keeps-on_active v f s = keeps-on_eject v (on_active f) (facts-active f) s

-- 2. Requests that are asked and dropped

unmade-more : (rs : List StoreRequest) (new : StoreRequest) → new.made ≡ 0 → AllUnmade rs → AllUnmade (rs ++ new ∷ [])
unmade-more [] new is all = (is, tt)
unmade-more (r ∷ rs) new is all = (all.0, unmade-more rs new is all.1)

pub there-more : (rs : List StoreRequest) (new : StoreRequest) (es : List (Uid × Eject)) → is_some (value_at uid_cmp new.uid es) ≡ true
    → AllThere rs es → AllThere (rs ++ new ∷ []) es
there-more [] new es is all = (is, tt)
there-more (r ∷ rs) new es is all = (all.0, there-more rs new es is all.1)

pub unmade-begun : (u : Uid) (r : StoreRequest) → r.made ≡ 0 → begun_by u r ≡ None
unmade-begun u r is = go (same_uid r.uid u) r.made is
  where
    go : (b : Bool) (m : ℕ) → m ≡ 0 → cond (b && nat_lt 0 m) (Some r.change) None ≡ None
    go true zero e = refl
    go true (suc m) e = absurd (omega (arith, e))
    go false m e = refl

begun-more : (rs : List StoreRequest) (new : StoreRequest) (u : Uid) → new.made ≡ 0 → begun (rs ++ new ∷ []) u ≡ begun rs u
begun-more [] new u is = unmade-begun u new is
begun-more (r ∷ rs) new u is = refl

pub rest-more : (rs : List StoreRequest) (new : StoreRequest) → new.made ≡ 0 → AllUnmade (rest rs) → AllUnmade (rest (rs ++ new ∷ []))
rest-more [] new is all = tt
rest-more (r ∷ rs) new is all = unmade-more rs new is all

keeps-more : (new : StoreRequest) (s : Site) → new.made ≡ 0 → is_some (eject_in s new.uid) ≡ true
    → Keeps s (on_node (λ it. record it { requests = it.requests ++ new ∷ [] }) s)
unfolding on_node
keeps-more new s is is_there q = record {
  facts = λ u. refl;
  works = λ u. begun-more s.node.requests new u is;
  there = λ u h. h;
  queue = record {
    unmade = rest-more s.node.requests new is q.unmade;
    there = there-more s.node.requests new s.node.ejects is_there q.there;
  };
}

-- what dropping leaves of one request
abbrev pub without_one : Bool → Bool → StoreRequest → Option StoreRequest
without_one own unmade r = cond own (cond unmade None (Some (record r { process = None }))) (Some r)

unmade-one : (own unmade : Bool) (r : StoreRequest) (rs : List StoreRequest) → r.made ≡ 0 → AllUnmade rs
    → AllUnmade (cons_option (without_one own unmade r) rs)
unmade-one true true r rs is all = all
unmade-one true false r rs is all = (is, all)
unmade-one false unmade r rs is all = (is, all)

pub unmade-without : (v : Uid) (rs : List StoreRequest) → AllUnmade rs → AllUnmade (filter_map (dropped_of v) rs)
unmade-without v [] all = tt
unmade-without v (r ∷ rs) all = unmade-one (same_uid r.uid v) (r.made == 0) r (filter_map (dropped_of v) rs) all.0
    (unmade-without v rs all.1)

there-one : (own unmade : Bool) (r : StoreRequest) (rs : List StoreRequest) (es : List (Uid × Eject))
    → is_some (value_at uid_cmp r.uid es) ≡ true → AllThere rs es → AllThere (cons_option (without_one own unmade r) rs) es
there-one true true r rs es is all = all
there-one true false r rs es is all = (is, all)
there-one false unmade r rs es is all = (is, all)

pub there-without : (v : Uid) (rs : List StoreRequest) (es : List (Uid × Eject)) → AllThere rs es
    → AllThere (filter_map (dropped_of v) rs) es
there-without v [] es all = tt
there-without v (r ∷ rs) es all = there-one (same_uid r.uid v) (r.made == 0) r (filter_map (dropped_of v) rs) es all.0
    (there-without v rs es all.1)

pub rest-unmade : (rs : List StoreRequest) → AllUnmade rs → AllUnmade (rest rs)
rest-unmade [] all = tt
rest-unmade (r ∷ rs) all = all.1

pub begun-unmade : (rs : List StoreRequest) (u : Uid) → AllUnmade rs → begun rs u ≡ None
begun-unmade [] u all = refl
begun-unmade (r ∷ rs) u all = unmade-begun u r all.0

rest-one : (own unmade : Bool) (r : StoreRequest) (rs : List StoreRequest) → AllUnmade rs
    → AllUnmade (rest (cons_option (without_one own unmade r) rs))
rest-one true true r rs all = rest-unmade rs all
rest-one true false r rs all = all
rest-one false unmade r rs all = all

begun-one : (own unmade : Bool) (r : StoreRequest) (rs : List StoreRequest) (u : Uid) → (r.made == 0) ≡ unmade → AllUnmade rs
    → begun (cons_option (without_one own unmade r) rs) u ≡ begun_by u r
begun-one true true r rs u is all = begun-unmade rs u all ∙ sym (unmade-begun u r (same-number r.made 0 is))
begun-one true false r rs u is all = refl
begun-one false unmade r rs u is all = refl

pub rest-without : (v : Uid) (rs : List StoreRequest) → AllUnmade (rest rs) → AllUnmade (rest (filter_map (dropped_of v) rs))
rest-without v [] all = tt
rest-without v (r ∷ rs) all = rest-one (same_uid r.uid v) (r.made == 0) r (filter_map (dropped_of v) rs) (unmade-without v rs all)

begun-without : (v : Uid) (rs : List StoreRequest) (u : Uid) → AllUnmade (rest rs) → begun (filter_map (dropped_of v) rs) u ≡ begun rs u
begun-without v [] u all = refl
begun-without v (r ∷ rs) u all = begun-one (same_uid r.uid v) (r.made == 0) r (filter_map (dropped_of v) rs) u refl
    (unmade-without v rs all)

keeps-without : (v : Uid) (s : Site) → Keeps s (on_node (without_requests v) s)
unfolding on_node
keeps-without v s q = record {
  facts = λ u. refl;
  works = λ u. begun-without v s.node.requests u q.unmade;
  there = λ u h. h;
  queue = record { unmade = rest-without v s.node.requests q.unmade; there = there-without v s.node.requests s.node.ejects q.there };
}

-- 3. The parts of a turn

pub keeps-tells : (v : Uid) (p : ℕ) (a : Answer) (s : Site) → Keeps s (tells v p a s)
keeps-tells v p a s = keeps-on_active v (told p a) s

-- a change of the Eject, then one of the traffic
keeps-both : (v : Uid) (f : Eject → Eject) (g : Traffic → Traffic) → ((e : Eject) → facts_of (Some (f e)) ≡ facts_of (Some e))
    → (s : Site) → Keeps s (on_traffic g (on_eject v f s))
keeps-both v f g same s = and-then s (on_eject v f s) (on_traffic g (on_eject v f s)) (keeps-on_eject v f same s)
    (keeps-on_traffic g (on_eject v f s))

pub keeps-turned_away : (v : Uid) (why : Status) (s : Site) → Keeps s (turned_away v why s)
keeps-turned_away v why s = keeps-item s (eject_in s v) _ (λ e is. keeps-both v (with_queued []) (all_replied why e.queued) (λ e. refl) s)

pub keeps-deactivated : (v : Uid) (s : Site) → Keeps s (deactivated v s)
keeps-deactivated v s = keeps-item s (eject_in s v) _ (λ e is. keeps-item s e.active _ (λ it is_it.
    and-then s (on_node (without_requests v) s) _ (keeps-without v s)
    (keeps-both v (with_active None) (λ t. all_replied status.Dropped (running it.crew) (orphaned v t)) (λ e. refl)
    (on_node (without_requests v) s))))

keeps-gone : (v : Uid) (s : Site) → Keeps s (gone_if_unkept v s)
keeps-gone v s = keeps-item s (eject_in s v) _
    (λ e is. keeps-cond (is_there e) s s (turned_away v status.Gone s) (stays s) (keeps-turned_away v status.Gone s))

keeps-asks : (v : Uid) (p : ℕ) (c : EjectChange) (s : Site) → is_some (eject_in s v) ≡ true → Keeps s (asks_store v p c s)
keeps-asks v p c s is = and-then s (on_eject v (on_active (on_crew (set_waits p outside))) s) _
    (keeps-on_active v (on_crew (set_waits p outside)) s)
    (keeps-more (record { uid = v; process = Some p; change = c; made = 0 })
    (on_eject v (on_active (on_crew (set_waits p outside))) s) refl
    (there-on_eject v (on_active (on_crew (set_waits p outside))) s v is))

keeps-checkpoints : (v : Uid) (p : ℕ) (bytes : List ℕ) (s : Site) → is_some (eject_in s v) ≡ true → Keeps s (checkpoints v p bytes s)
keeps-checkpoints v p bytes s is = keeps-cond (nat_le (length bytes) BODY_LIMIT) s (asks_store v p (body bytes) s)
    (tells v p (Code status.TooLarge) s)
    (keeps-asks v p (body bytes) s is) (keeps-tells v p (Code status.TooLarge) s)

pub keeps-born : (v : Uid) (it : Active) (s : Site) → Keeps s (born v it s)
unfolding on_node
keeps-born v it s q = record {
  facts = λ u. ap facts_of (put u) ∙ facts_born u (eq_by_cmp uid_cmp u v) refl;
  works = λ u. refl;
  there = there_born;
  queue = record { unmade = q.unmade; there = all-there s.node.requests s.node.ejects _ there_born q.there };
}
  where
    grown : Option Eject → Eject
    grown o = with_item o (with_active (Some it)) (newborn it)

    put : (u : Uid) → eject_in (born v it s) u ≡ cond (eq_by_cmp uid_cmp u v) (Some (grown (eject_in s v))) (eject_in s u)
    put u = find-put uid_cmp uid_cmp_total u v (grown (eject_in s v)) s.node.ejects

    same : (o : Option Eject) → facts_of (Some (grown o)) ≡ facts_of o
    same None = refl
    same (Some e) = refl

    facts_born : (u : Uid) (b : Bool) → eq_by_cmp uid_cmp u v ≡ b
        → facts_of (cond b (Some (grown (eject_in s v))) (eject_in s u)) ≡ facts_in s u
    facts_born u true is = let e : u ≡ v = eq-same uid_cmp uid_cmp-IsAntisymmetric u v is in rw e (same (eject_in s v))
    facts_born u false is = refl

    some : (b : Bool) (o : Option Eject) → is_some o ≡ true → is_some (cond b (Some (grown (eject_in s v))) o) ≡ true
    some true o is = refl
    some false o is = is

    there_born : (u : Uid) → is_some (eject_in s u) ≡ true → is_some (eject_in (born v it s) u) ≡ true
    there_born u is = ap is_some (put u) ∙ some (eq_by_cmp uid_cmp u v) (eject_in s u) is

keeps-creates : (v : Uid) (p : ℕ) (t : Option Edentype) (made : Result Uid Status) (s : Site) → Keeps s (creates v p t made s)
keeps-creates v p None made s = stays s
keeps-creates v p (Some t) (Ok new) s = and-then s (born new (fresh t (first_values t)) s) _ (keeps-born new (fresh t (first_values t)) s)
    (keeps-tells v p (Made status.Ok (Some (full new))) (born new (fresh t (first_values t)) s))
keeps-creates v p (Some t) (Err why) s = keeps-tells v p (Made why None) s

-- 4. A turn of a process

keeps-effected : (reach : ℕ → Bool) (v : Uid) (p : ℕ) (i : Option Invocation) (t : Edentype) (vars : List Datum) (e : Effect) (s : Site)
    → is_some (eject_in s v) ≡ true → Keeps s (effected reach v p i t vars e s)
keeps-effected reach v p i t vars (effect.Return results) s is = keeps-both v (on_active (without_process p)) (answers i results)
    (facts-active (without_process p)) s
keeps-effected reach v p i t vars effect.End s is = keeps-on_active v (without_process p) s
keeps-effected reach v p i t vars effect.Checkpoint s is = keeps-checkpoints v p (spelling (rep_of t vars)) s is
keeps-effected reach v p i t vars effect.Destroy s is = keeps-asks v p removal s is
keeps-effected reach v p i t vars effect.Deactivate s is = and-then s (deactivated v s) _ (keeps-deactivated v s)
    (keeps-gone v (deactivated v s))
keeps-effected reach v p i t vars (effect.Fault cause) s is = and-then s (deactivated v s) _ (keeps-deactivated v s)
    (keeps-turned_away v status.Dropped (deactivated v s))
keeps-effected reach v p i t vars (effect.Create type_name) s is = keeps-creates v p (type_of s.types type_name) (next_uid s) s
keeps-effected reach v p i t vars (effect.Invoke target operation args) s is = let at_once = refused_at_once (reach target.uid.node) args in
    keeps-both v (on_active (waits_or_told p at_once)) (λ t. with_call (next_call t) (Process v p) target operation args at_once t)
    (facts-active (waits_or_told p at_once)) s
keeps-effected reach v p i t vars (effect.Lock m) s is = keeps-on_active v (on_crew (locked p m)) s
keeps-effected reach v p i t vars (effect.Leave m) s is = keeps-on_active v (on_crew (left m)) s
keeps-effected reach v p i t vars (effect.Wait c) s is = keeps-on_active v (on_crew (waited p c)) s
keeps-effected reach v p i t vars (effect.Signal c) s is = keeps-on_active v (on_crew (signalled c)) s
keeps-effected reach v p i t vars effect.Yield s is = stays s

pub keeps-process_turn : (reach : ℕ → Bool) (v : Uid) (p : ℕ) (s : Site) → Keeps s (process_turn reach v p s)
keeps-process_turn reach v p s = keeps-item s (eject_in s v) _
    (λ e is. keeps-item s e.active _ (λ it is_it. keeps-item s (turn_of v it p) _ (λ t is_t.
    and-then s (on_eject v (on_active (turned p t)) s) _ (keeps-on_active v (turned p t) s)
    (keeps-effected reach v p (serving it p) it.kind t.vars t.effect (on_eject v (on_active (turned p t)) s)
    (there-on_eject v (on_active (turned p t)) s v (ap is_some is))))))

-- 5. Deliveries, starts and activations

pub keeps-requested : (k : ℕ) (refused : Option Status) (s : Site) → Keeps s (requested k refused s)
keeps-requested k (Some why) s = keeps-on_traffic (λ t. replied why [] k (taken k t)) s
keeps-requested k None s = keeps-item s (call_at s.traffic k) _
    (λ c is. and-then s (on_traffic (λ t. changed_call k (at_place held) (taken k t)) s) _
    (keeps-on_traffic (λ t. changed_call k (at_place held) (taken k t)) s)
    (keeps-on_eject c.target.uid (λ e. record e { queued = e.queued ++ k ∷ [] }) (λ e. refl)
    (on_traffic (λ t. changed_call k (at_place held) (taken k t)) s)))

keeps-tells_asker : (a : Asker) (why : Status) (values : List Datum) (s : Site) → Keeps s (tells_asker a why values s)
keeps-tells_asker (Shell name) why values s = stays s
keeps-tells_asker (Process v p) why values s = keeps-tells v p (Told why values) s

pub keeps-heard : (k : ℕ) (why : Status) (values : List Datum) (s : Site) → Keeps s (heard k why values s)
keeps-heard k why values s = keeps-item s (call_at s.traffic k) _ (λ c is.
    keeps-cond c.open_ s (tells_asker c.asker why values (on_traffic (received k) s)) (on_traffic (received k) s)
    (and-then s (on_traffic (received k) s) _ (keeps-on_traffic (received k) s)
    (keeps-tells_asker c.asker why values (on_traffic (received k) s))) (keeps-on_traffic (received k) s))

pub keeps-start : (v : Uid) (k p : ℕ) (s : Site) → Keeps s (start v k p s)
keeps-start v k p s = keeps-item s (call_at s.traffic k) _ (λ c is.
    keeps-on_eject v (λ e. record (on_active (with_start s.traffic k p c) e) { queued = filter (λ j. not (j == k)) e.queued })
    (λ e. facts-active (with_start s.traffic k p c) e) s)

pub keeps-awake : (v : Uid) (s : Site) → Keeps s (awake v s)
keeps-awake v s = keeps-item s (eject_in s v) _
    (λ e is. keeps-item s e.kept _ (λ bytes is_b. keeps-item s (start_of s.types bytes v) _ (λ start is_s.
    keeps-both v _ (misfits_answered start.0 e.queued) (λ old. refl) s)))

-- 6. A crash: the requests go, and what is kept and in doubt stays

comes-down : (s : Site) → Comes s (on_node down s) (facts_in s) (λ u. None)
unfolding on_node
comes-down s = record {
  facts = λ u. ap facts_of (value-each u fallen s.node.ejects) ∙ facts-changed true fallen (value_at uid_cmp u s.node.ejects) (λ e. refl);
  works = λ u. refl;
  there = λ u h. ap is_some (value-each u fallen s.node.ejects) ∙ there-changed true fallen (value_at uid_cmp u s.node.ejects) h;
  queue = record { unmade = tt; there = tt };
}

pub comes-then : (s t v : Site) (now : Uid → Facts) (work : Uid → Option EjectChange) → Comes s t now work → Keeps t v → Comes s v now work
comes-then s t v now work x keeps = let y = keeps x.queue in
    record {
      facts = λ u. y.facts u ∙ x.facts u;
      works = λ u. y.works u ∙ x.works u;
      there = λ u h. y.there u (x.there u h);
      queue = y.queue;
    }

pub comes-crashed : (s : Site) → Comes s (crashed s) (facts_in s) (λ u. None)
comes-crashed s = comes-then s (on_node down s) (crashed s) (facts_in s) (λ u. None) (comes-down s)
    (keeps-on_traffic (without_node s.number) (on_node down s))
