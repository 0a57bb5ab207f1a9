-- A turn of the store changes what a node knows of an Eject's changes as the entries tell.
use Rattle.std.proofs.Common.{◌≡◌, inl, inr, ◌==◌, ◌+◌, ℕ, Bool, true, false, cond, ◌&&◌, List, [], ◌∷◌, Option, None, Some, is_some}
use Rattle.std.proofs.Common.{refl, sym, ◌∙◌, ap, subst, nat_lt, arith}
use Rattle.std.specs.Option.{option_map}
use Rattle.std.specs.Ordering.{is_eq}
use Rattle.std.proofs.lemmas.Bool.Decides.{leb_tells}
use Rattle.std.proofs.lemmas.Cmp.{tied_itself}
use Rattle.capability.specs.declared.Uid.{Uid}
use Rattle.eden_value.specs.declared.status.Status.{Status}
use Rattle.eden_value.specs.declared.status.Status.TheVariants as status
use Rattle.eden_model.specs.Map.{with_item, or_else, uid_cmp, same_uid, value_at, each_value, rest, first}
use Rattle.capability.proofs.Uids.{uid_cmp_total, uid_cmp-IsAntisymmetric}
use Rattle.eden_model.proofs.Laws.{eq-same}
use Rattle.epl_syntax.specs.declared.effect.Answer.TheVariants.{Code}
use Rattle.passive_store.specs.declared.store.Pick.{Pick}
use Rattle.passive_store.specs.declared.store.Pick.TheVariants as pick
use Rattle.journal.specs.EjectChange.{EjectChange, body, removal, kept_of}
use Rattle.journal.specs.declared.event.RequestEnd.{RequestEnd}
use Rattle.journal.specs.declared.event.RequestEnd.TheVariants as end
use Rattle.journal.specs.World.{Site, Eject, StoreRequest, eject_in, on_eject, on_node}
use Rattle.journal.specs.Ejects.{deactivated}
use Rattle.journal.specs.Settling.{first_request, settled_eject, settled, unsynced, written_with}
use Rattle.journal.specs.Crashes.{crashed}
use Rattle.journal.specs.Stores.{Work, syncs, reads, unkept, without_room, calls, work_of, EndsSo, makes_own_call, more_made, doubted}
use Rattle.journal.specs.Stores.{tells_code, request_ended, removed, stored, done, worked, store_turn}
use Rattle.journal.specs.Run.{Step}
use Rattle.journal.specs.Kept.{picked, crashes, own_call, own_call_of, under_way, in_progress, cut_by, cut_short, acknowledged}
use Rattle.journal.specs.Kept.{with_pick, last_kept}
use Rattle.journal.specs.Sites.{AllUnmade, AllThere}
use Rattle.history_laws.proofs.Changes.{Facts, facts_of, facts_in, begun_by, begun, IsTold}
use Rattle.history_laws.proofs.Frame.{eject-on_eject}
use Rattle.history_laws.proofs.KeptTurns.{value-each}
use Rattle.history_laws.proofs.SafeRuns.{same-number}
use Rattle.history_laws.proofs.ChangeLaw.{Queued, Comes, Keeps, stays, and-then, comes-then, all-there, there-changed, there-on_eject}
use Rattle.history_laws.proofs.ChangeLaw.{rest-unmade, begun-unmade, unmade-begun, keeps-tells, keeps-turned_away, keeps-deactivated}
use Rattle.history_laws.proofs.ChangeLaw.{comes-crashed}

-- 1. Settling

abbrev pub settled_facts : Pick → Facts → Facts
settled_facts pick.Old f = (f.0, None)
settled_facts pick.New f = (with_item f.1 kept_of f.0, None)

facts-settled : (p : Pick) (o : Option Eject) → facts_of (option_map (settled_eject p) o) ≡ settled_facts p (facts_of o)
facts-settled pick.Old None = refl
facts-settled pick.New None = refl
facts-settled pick.Old (Some e) = refl
facts-settled pick.New (Some e) = refl

there-each : (f : Eject → Eject) (es : List (Uid × Eject)) (u : Uid) → is_some (value_at uid_cmp u es) ≡ true
    → is_some (value_at uid_cmp u (each_value f es)) ≡ true
there-each f es u is = ap is_some (value-each u f es) ∙ there-changed true f (value_at uid_cmp u es) is

pub comes-settled : (p : Pick) (s : Site) → Queued s
    → Comes s (settled (Some p) s) (λ u. settled_facts p (facts_in s u)) (begun s.node.requests)
unfolding on_node
comes-settled p s q = record {
  facts = λ u. ap facts_of (value-each u (settled_eject p) s.node.ejects) ∙ facts-settled p (value_at uid_cmp u s.node.ejects);
  works = λ u. refl;
  there = there-each (settled_eject p) s.node.ejects;
  queue = record {
    unmade = q.unmade;
    there = all-there s.node.requests s.node.ejects _
        (there-each (settled_eject p) s.node.ejects) q.there;
  };
}

pub keeps-unsynced : (s : Site) → Keeps s (unsynced s)
unfolding on_node
keeps-unsynced s q = record { facts = λ u. refl; works = λ u. refl; there = λ u h. h; queue = q }

keeps-synced : (s : Site) → Keeps s (on_node (λ it. record it { synced = true }) s)
unfolding on_node
keeps-synced s q = record { facts = λ u. refl; works = λ u. refl; there = λ u h. h; queue = q }

-- 2. Ends of requests

rest-there : (rs : List StoreRequest) (es : List (Uid × Eject)) → AllThere rs es → AllThere (rest rs) es
rest-there [] es all = tt
rest-there (r ∷ rs) es all = all.1

comes-rest : (s : Site) → Queued s → Comes s (on_node (λ it. record it { requests = rest it.requests }) s) (facts_in s) (λ u. None)
unfolding on_node
comes-rest s q = record {
  facts = λ u. refl;
  works = λ u. begun-unmade (rest s.node.requests) u q.unmade;
  there = λ u h. h;
  queue = record { unmade = rest-unmade (rest s.node.requests) q.unmade; there = rest-there s.node.requests s.node.ejects q.there };
}

keeps-tells_code : (v : Uid) (p : Option ℕ) (why : Status) (s : Site) → Keeps s (tells_code v p why s)
keeps-tells_code v None why s = stays s
keeps-tells_code v (Some p) why s = keeps-tells v p (Code why) s

pub comes-ended : (r : StoreRequest) (why : Status) (s : Site) → Queued s → Comes s (request_ended r why s) (facts_in s) (λ u. None)
comes-ended r why s q = comes-then s (on_node (λ it. record it { requests = rest it.requests }) s) (request_ended r why s) (facts_in s)
    (λ u. None) (comes-rest s q)
    (keeps-tells_code r.uid r.process why (on_node (λ it. record it { requests = rest it.requests }) s))

keeps-removed : (c : EjectChange) (v : Uid) (s : Site) → Keeps s (removed c v s)
keeps-removed (body bytes) v s = stays s
keeps-removed removal v s = and-then s (deactivated v s) _ (keeps-deactivated v s) (keeps-turned_away v status.Gone (deactivated v s))

pub comes-done : (r : StoreRequest) (s : Site) → Queued s → Comes s (done r s) (facts_in s) (λ u. None)
comes-done r s q = comes-then s (request_ended r status.Ok s) (done r s) (facts_in s) (λ u. None) (comes-ended r status.Ok s q)
    (keeps-removed r.change r.uid (request_ended r status.Ok s))

-- one change, then another, of which the first has an equation for each
pub comes-after : (s t v : Site) (now later : Uid → Facts) (work next : Uid → Option EjectChange) → Comes s t now work
    → Comes t v later next → ((u : Uid) → later u ≡ now u) → Comes s v now next
comes-after s t v now later work next x y same =
    record { facts = λ u. y.facts u ∙ same u; works = y.works; there = λ u h. y.there u (x.there u h); queue = y.queue }

-- 3. A change of one Eject that is there

abbrev changed_facts : Uid → (Facts → Facts) → Site → Uid → Facts
changed_facts v g s u = cond (same_uid u v) (g (facts_in s u)) (facts_in s u)

comes-on_eject : (v : Uid) (f : Eject → Eject) (g : Facts → Facts) → ((e : Eject) → facts_of (Some (f e)) ≡ g (facts_of (Some e)))
    → (s : Site) → is_some (eject_in s v) ≡ true → Queued s
    → Comes s (on_eject v f s) (changed_facts v g s) (begun s.node.requests)
unfolding on_eject
comes-on_eject v f g same s held q = record {
  facts = λ u. ap facts_of (eject-on_eject v u f s) ∙ go u (same_uid u v) refl (eject_in s u) refl;
  works = λ u. refl;
  there = there-on_eject v f s;
  queue = record { unmade = q.unmade; there = all-there s.node.requests s.node.ejects _ (there-on_eject v f s) q.there };
}
  where
    go : (u : Uid) (b : Bool) → same_uid u v ≡ b → (o : Option Eject) → eject_in s u ≡ o
        → facts_of (cond b (option_map f o) o) ≡ cond b (g (facts_of o)) (facts_of o)
    go u true is None at = absurd (let e : u ≡ v = eq-same uid_cmp uid_cmp-IsAntisymmetric u v is in
        let bad : false ≡ true = subst (λ o. is_some o ≡ true) (ap (eject_in s) (sym e) ∙ at) held in cc bad)
    go u true is (Some e) at = same e
    go u false is o at = refl

abbrev doubt_facts : StoreRequest → Facts → Facts
doubt_facts r f = (f.0, Some r.change)

abbrev store_facts : StoreRequest → Facts → Facts
store_facts r f = (kept_of r.change, None)

comes-doubted : (r : StoreRequest) (s : Site) → is_some (eject_in s r.uid) ≡ true → Queued s
    → Comes s (doubted r s) (changed_facts r.uid (doubt_facts r) s) (begun s.node.requests)
comes-doubted r s held q = comes-on_eject r.uid (λ e. record e { doubt = Some r.change }) (doubt_facts r) (λ e. refl) s held q

keeps-ledger : (f : List ℕ → List ℕ) (s : Site) → Keeps s (on_node (λ it. record it { ledger = f it.ledger }) s)
unfolding on_node
keeps-ledger f s q = record { facts = λ u. refl; works = λ u. refl; there = λ u h. h; queue = q }

comes-stored : (r : StoreRequest) (s : Site) → is_some (eject_in s r.uid) ≡ true → Queued s
    → Comes s (stored r s) (changed_facts r.uid (store_facts r) s) (begun s.node.requests)
comes-stored r s held q = comes-then s (on_eject r.uid (λ e. record e { kept = kept_of r.change; doubt = None }) s) (stored r s)
    (changed_facts r.uid (store_facts r) s) (begun s.node.requests)
    (comes-on_eject r.uid (λ e. record e { kept = kept_of r.change; doubt = None }) (store_facts r) (λ e. refl) s held q)
    (keeps-ledger (written_with s.layout r.change) (on_eject r.uid (λ e. record e { kept = kept_of r.change; doubt = None }) s))

unmade-made : (rs : List StoreRequest) → AllUnmade (rest rs) → AllUnmade (rest (more_made rs))
unmade-made [] all = tt
unmade-made (r ∷ rs) all = all

there-made : (rs : List StoreRequest) (es : List (Uid × Eject)) → AllThere rs es → AllThere (more_made rs) es
there-made [] es all = tt
there-made (r ∷ rs) es all = all

comes-made : (s : Site) → Queued s → Comes s (on_node (λ it. record it { requests = more_made it.requests }) s) (facts_in s)
    (begun (more_made s.node.requests))
unfolding on_node
comes-made s q = record {
  facts = λ u. refl;
  works = λ u. refl;
  there = λ u h. h;
  queue = record { unmade = unmade-made s.node.requests q.unmade; there = there-made s.node.requests s.node.ejects q.there };
}

pub first-there : (rs : List StoreRequest) (es : List (Uid × Eject)) (r : StoreRequest) → first rs ≡ Some r → AllThere rs es
    → is_some (value_at uid_cmp r.uid es) ≡ true
first-there [] es r is all = absurd (cc is)
first-there (x ∷ rs) es r is all = subst (λ o. with_item o (λ (y : StoreRequest). is_some (value_at uid_cmp y.uid es)) true ≡ true) is all.0

pub begun-first : (rs : List StoreRequest) (r : StoreRequest) (u : Uid) → first rs ≡ Some r → begun rs u ≡ begun_by u r
begun-first rs r u is = ap (λ o. with_item o (begun_by u) None) is

begun-made : (rs : List StoreRequest) (r : StoreRequest) (u : Uid) → first rs ≡ Some r
    → begun (more_made rs) u ≡ cond (same_uid r.uid u) (Some r.change) None
begun-made [] r u is = absurd (cc is)
begun-made (x ∷ rs) r u is = go (same_uid x.uid u) x.made ∙ ap
    (λ o. with_item o (λ (y : StoreRequest). cond (same_uid y.uid u) (Some y.change) None) None) is
  where
    go : (b : Bool) (m : ℕ) → cond (b && nat_lt 0 (m + 1)) (Some x.change) None ≡ cond b (Some x.change) None
    go true m = elim (leb_tells 1 (m + 1)) [ inl p ↦ ap (λ b. cond b (Some x.change) None) p.0 | inr p ↦ absurd (omega (arith, p.1)) ]
    go false m = refl

pub same-sym : (u v : Uid) → same_uid v u ≡ same_uid u v
same-sym u v = go (same_uid u v) refl (same_uid v u) refl
  where
    flip : same_uid u v ≡ false → v ≡ u → true ≡ false
    flip x e = let whole : same_uid u u ≡ true = ap is_eq (tied_itself uid_cmp_total u) in sym whole ∙ (ap (λ k. same_uid u k) (sym e) ∙ x)

    go : (a : Bool) → same_uid u v ≡ a → (b : Bool) → same_uid v u ≡ b → b ≡ a
    go true x true y = refl
    go false x false y = refl
    go true x false y = let e : u ≡ v = eq-same uid_cmp uid_cmp-IsAntisymmetric u v x in
        let whole : same_uid v v ≡ true = ap is_eq (tied_itself uid_cmp_total v) in sym y ∙ (ap (λ k. same_uid v k) e ∙ whole)
    go false x true y = flip x (eq-same uid_cmp uid_cmp-IsAntisymmetric v u y)

-- 4. What the entries tell after one more

abbrev in_step : Bool → Option (EjectChange × RequestEnd) → Option EjectChange → Option EjectChange
in_step crash own before = cond crash None (with_item own under_way before)

abbrev cut_step : Option Pick → Option (EjectChange × RequestEnd) → Bool → Option EjectChange → Option EjectChange → Option EjectChange
cut_step p own crash begun cut = cond (is_some p) None (with_item own cut_by (cond crash (or_else begun cut) cut))

abbrev kept_step : Option Pick → Option (EjectChange × RequestEnd) → Option EjectChange → Option (List ℕ) → Option (List ℕ)
kept_step p own cut before = with_item (or_else (with_item own acknowledged None) (with_pick p cut)) kept_of before

-- what the entry is to the Eject: its own call, its pick and its crash
pub record IsSeen (u : Uid) (st : Step) (own : Option (EjectChange × RequestEnd)) (p : Option Pick) (crash : Bool) : Type 0 where
  pub own_is : own_call u st.world st.entry.event ≡ own
  pub pick_is : picked u.node st.entry.event ≡ p
  pub crash_is : crashes u.node st.entry.event ≡ crash

told-by : (held : Option (List ℕ)) (u : Uid) (past : List Step) (st : Step) (own : Option (EjectChange × RequestEnd)) (p : Option Pick)
    (crash : Bool) (f : Facts) (now : Option EjectChange)
    → IsSeen u st own p crash
    → f.0 ≡ kept_step p own (cut_short u past) (last_kept held u past)
    → f.1 ≡ or_else (in_step crash own (in_progress u past)) (cut_step p own crash (in_progress u past) (cut_short u past))
    → now ≡ in_step crash own (in_progress u past) → IsTold held u f now (st ∷ past)
told-by held u past st own p crash f now seen k d b = record {
  kept = k ∙ sym (λ i. kept_step (seen.pick_is i) (seen.own_is i) (cut_short u past) (last_kept held u past));
  doubt = d ∙ sym (λ i. or_else (in_step (seen.crash_is i) (seen.own_is i) (in_progress u past))
      (cut_step (seen.pick_is i) (seen.own_is i) (seen.crash_is i) (in_progress u past) (cut_short u past)));
  begun = b ∙ sym (λ i. in_step (seen.crash_is i) (seen.own_is i) (in_progress u past));
}

-- nothing of u; a crash; a pick, where nothing of u is begun
pub told-quiet : (held : Option (List ℕ)) (u : Uid) (past : List Step) (st : Step) (f : Facts) (now : Option EjectChange)
    → IsSeen u st None None false → IsTold held u f now past → IsTold held u f now (st ∷ past)
told-quiet held u past st f now seen t = told-by held u past st None None false f now seen t.kept t.doubt t.begun

pub told-crash : (held : Option (List ℕ)) (u : Uid) (past : List Step) (st : Step) (f : Facts) (now : Option EjectChange)
    → IsSeen u st None None true → IsTold held u f now past → IsTold held u f None (st ∷ past)
told-crash held u past st f now seen t = told-by held u past st None None true f None seen t.kept t.doubt refl

pub none-first : (a b : Option EjectChange) → a ≡ None → or_else a b ≡ b
none-first a b is = ap (λ o. or_else o b) is

pub told-picked : (held : Option (List ℕ)) (u : Uid) (past : List Step) (st : Step) (f : Facts) (p : Pick) (crash : Bool)
    → IsSeen u st None (Some p) crash → IsTold held u f None past → IsTold held u (settled_facts p f) None (st ∷ past)
told-picked held u past st f pick.Old crash seen t = told-by held u past st None (Some pick.Old) crash
    (settled_facts pick.Old f) None seen t.kept (twice crash) (go crash)
  where
    go : (b : Bool) → None ≡ cond b None (in_progress u past)
    go true = refl
    go false = t.begun

    twice : (b : Bool) → None ≡ or_else (cond b None (in_progress u past)) None
    twice b = ap (λ o. or_else o None) (go b)
told-picked held u past st f pick.New crash seen t = told-by held u past st None (Some pick.New) crash (settled_facts pick.New f) None seen
    (λ i. with_item (doubt_is_cut i) kept_of (t.kept i)) (twice crash) (go crash)
  where
    doubt_is_cut : f.1 ≡ cut_short u past
    doubt_is_cut = t.doubt ∙ none-first (in_progress u past) (cut_short u past) (sym t.begun)

    go : (b : Bool) → None ≡ cond b None (in_progress u past)
    go true = refl
    go false = t.begun

    twice : (b : Bool) → None ≡ or_else (cond b None (in_progress u past)) None
    twice b = ap (λ o. or_else o None) (go b)

-- 5. A turn of the store, seen from u, an Eject of its node

-- what a turn leaves, with the entry that tells it
pub record Leaves (held : Option (List ℕ)) (u : Uid) (past : List Step) (t : Site) : Type 0 where
  pub told : IsTold held u (facts_in t u) (begun t.node.requests u) past
  pub queue : Queued t

pub leaves : (held : Option (List ℕ)) (u : Uid) (past : List Step) (s t : Site) (now : Uid → Facts) (work : Uid → Option EjectChange)
    → Comes s t now work → IsTold held u (now u) (work u) past → Leaves held u past t
leaves held u past s t now work x told = record {
  told = record {
    kept = ap (λ (f : Facts). f.0) (x.facts u) ∙ told.kept;
    doubt = ap (λ (f : Facts). f.1) (x.facts u) ∙ told.doubt;
    begun = x.works u ∙ told.begun;
  };
  queue = x.queue;
}

work-unmade : (s : Site) (r : StoreRequest) (w : Work) → work_of s r ≡ w → makes_own_call w ≡ false → r.made ≡ 0
work-unmade s r w is not_own = go (r.made == 0) refl
  where
    go : (b : Bool) → (r.made == 0) ≡ b → r.made ≡ 0
    go true e = same-number r.made 0 e
    go false e = absurd (let all : work_of s r ≡ calls = rw e refl in
        let bad : true ≡ false = sym (ap makes_own_call all) ∙ (ap makes_own_call is ∙ not_own) in cc bad)

abbrev pub is_stop : RequestEnd → Bool
is_stop end.Stop = true
is_stop _ = false

no-own : (u : Uid) (s : Site) (r : StoreRequest) (how : RequestEnd) → makes_own_call (work_of s r) ≡ false → own_call_of u s r how ≡ None
no-own u s r how is = go (same_uid r.uid u) (makes_own_call (work_of s r)) is
  where
    go : (a b : Bool) → b ≡ false → cond {A = Option (EjectChange × RequestEnd)} (a && b) (Some (r.change, how)) None ≡ None
    go true true e = absurd (cc e)
    go true false e = refl
    go false b e = refl

-- the first request has made no call, so nothing is begun
pub not-begun : (held : Option (List ℕ)) (u : Uid) (past : List Step) (f : Facts) (a b : Option EjectChange) → a ≡ b
    → IsTold held u f a past → IsTold held u f b past
not-begun held u past f a b is t = record { kept = t.kept; doubt = t.doubt; begun = sym is ∙ t.begun }

abbrev own_facts : Bool → EjectChange → RequestEnd → Facts → Facts
own_facts own c end.Done f = cond own (kept_of c, None) f
own_facts own c _ f = cond own (f.0, Some c) f

abbrev own_begun : Bool → EjectChange → RequestEnd → Option EjectChange
own_begun own c end.Part = cond own (Some c) None
own_begun own c _ = None

told-own : (held : Option (List ℕ)) (u : Uid) (past : List Step) (st : Step) (f : Facts) (now : Option EjectChange) (c : EjectChange)
    (how : RequestEnd) (own : Bool) → IsSeen u st (cond {A = Option (EjectChange × RequestEnd)} own (Some (c, how)) None) None (is_stop how)
    → (own ≡ false → now ≡ None) → IsTold held u f now past
    → (how ≡ end.Full → ⊥)
    → IsTold held u (own_facts own c how f) (own_begun own c how) (st ∷ past)
told-own held u past st f now c end.Full own seen other t full = absurd (full refl)
told-own held u past st f now c end.Part true seen other t full = told-by held u past st (Some (c, end.Part)) None false (f.0, Some c)
    (Some c) seen t.kept refl refl
told-own held u past st f now c end.Done true seen other t full = told-by held u past st (Some (c, end.Done)) None false
    (kept_of c, None) None seen refl refl refl
told-own held u past st f now c end.Fault true seen other t full = told-by held u past st (Some (c, end.Fault)) None false
    (f.0, Some c) None seen t.kept refl refl
told-own held u past st f now c end.Stop true seen other t full = told-by held u past st (Some (c, end.Stop)) None true
    (f.0, Some c) None seen t.kept refl refl
told-own held u past st f now c end.Part false seen other t full = told-quiet held u past st f None seen
    (not-begun held u past f now None (other refl) t)
told-own held u past st f now c end.Done false seen other t full = told-quiet held u past st f None seen
    (not-begun held u past f now None (other refl) t)
told-own held u past st f now c end.Fault false seen other t full = told-quiet held u past st f None seen
    (not-begun held u past f now None (other refl) t)
told-own held u past st f now c end.Stop false seen other t full = told-crash held u past st f now seen t

own-of-calls : (u : Uid) (s : Site) (r : StoreRequest) (how : RequestEnd) → work_of s r ≡ calls
    → own_call_of u s r how ≡ cond {A = Option (EjectChange × RequestEnd)} (same_uid r.uid u) (Some (r.change, how)) None
own-of-calls u s r how is = go (same_uid r.uid u) (makes_own_call (work_of s r)) (ap makes_own_call is)
  where
    go : (a b : Bool) → b ≡ true → cond {A = Option (EjectChange × RequestEnd)} (a && b) (Some (r.change, how)) None
        ≡ cond {A = Option (EjectChange × RequestEnd)} a (Some (r.change, how)) None
    go true true e = refl
    go true false e = absurd (cc e)
    go false b e = refl

pub requests-doubted : (r : StoreRequest) (s : Site) → (doubted r s).node.requests ≡ s.node.requests
unfolding on_eject
requests-doubted r s = refl

-- the turn of a request that makes a device call of its own
calls-leave : (held : Option (List ℕ)) (u : Uid) (past : List Step) (st : Step) (s : Site) (r : StoreRequest) (how : RequestEnd)
    (p : Option Pick) → first_request s.node ≡ Some r → Queued s
    → work_of s r ≡ calls → EndsSo calls how p → IsSeen u st (own_call_of u s r how) p (is_stop how)
    → IsTold held u (facts_in s u) (begun s.node.requests u) past
    → Leaves held u (st ∷ past) (worked calls r how p s)
calls-leave held u past st s r how p is q at ends seen t = go how ends seen refl
  where
    there : is_some (eject_in s r.uid) ≡ true
    there = first-there s.node.requests s.node.ejects r is q.there

    own : Bool
    own = same_uid r.uid u

    other : own ≡ false → begun s.node.requests u ≡ None
    other e = begun-first s.node.requests r u is ∙ ap (λ b. cond (b && nat_lt 0 r.made) (Some r.change) None) e

    seen-by : (h : RequestEnd) → p ≡ None → IsSeen u st (own_call_of u s r h) p (is_stop h)
        → IsSeen u st (cond {A = Option (EjectChange × RequestEnd)} own (Some (r.change, h)) None) None (is_stop h)
    seen-by h none x = record { own_is = x.own_is ∙ own-of-calls u s r h at; pick_is = x.pick_is ∙ none; crash_is = x.crash_is }

    told : (h : RequestEnd) → (h ≡ end.Full → ⊥) → p ≡ None → IsSeen u st (own_call_of u s r h) p (is_stop h)
        → IsTold held u (own_facts own r.change h (facts_in s u)) (own_begun own r.change h) (st ∷ past)
    told h full none x = told-own held u past st (facts_in s u) (begun s.node.requests u) r.change h own (seen-by h none x) other t full

    by-own : (g : Facts → Facts) (now : Option EjectChange) (past' : List Step)
        → IsTold held u (cond own (g (facts_in s u)) (facts_in s u)) now past' → IsTold held u (changed_facts r.uid g s u) now past'
    by-own g now past' x = subst (λ b. IsTold held u (cond b (g (facts_in s u)) (facts_in s u)) now past') (same-sym u r.uid) x

    doubts : Comes s (doubted r s) (changed_facts r.uid (doubt_facts r) s) (begun s.node.requests)
    doubts = comes-doubted r s there q

    stores : Comes s (stored r s) (changed_facts r.uid (store_facts r) s) (begun s.node.requests)
    stores = comes-stored r s there q

    part : Comes s (worked calls r end.Part p s) (changed_facts r.uid (doubt_facts r) s) (begun (more_made (doubted r s).node.requests))
    part = comes-after s (doubted r s) _ _ _ _ _ doubts (comes-made (doubted r s) doubts.queue) doubts.facts

    part-begun : begun (more_made (doubted r s).node.requests) u ≡ cond own (Some r.change) None
    part-begun = ap (λ rs. begun (more_made rs) u) (requests-doubted r s) ∙ begun-made s.node.requests r u is

    go : (h : RequestEnd) → EndsSo calls h p → IsSeen u st (own_call_of u s r h) p (is_stop h) → how ≡ how
        → Leaves held u (st ∷ past) (worked calls r h p s)
    go end.Part none x e = leaves held u (st ∷ past) s _ _ _ part
        (not-begun held u (st ∷ past) _ _ _ (sym part-begun) (by-own (doubt_facts r) _ _ (told end.Part (λ f. cc f) none x)))
    go end.Done none x e = leaves held u (st ∷ past) s _ _ _
        (comes-after s (stored r s) _ _ _ _ _ stores (comes-done r (stored r s) stores.queue) stores.facts)
        (by-own (store_facts r) _ _ (told end.Done (λ f. cc f) none x))
    go end.Fault none x e = leaves held u (st ∷ past) s _ _ _
        (comes-after s (doubted r s) _ _ _ _ _ doubts (comes-ended r status.StoreFault (doubted r s) doubts.queue) doubts.facts)
        (by-own (doubt_facts r) _ _ (told end.Fault (λ f. cc f) none x))
    go end.Stop none x e = leaves held u (st ∷ past) s _ _ _
        (comes-after s (doubted r s) _ _ _ _ _ doubts (comes-crashed (doubted r s)) doubts.facts)
        (by-own (doubt_facts r) _ _ (told end.Stop (λ f. cc f) none x))
    go end.Full none x e = absurd none

-- the other turns
idle-leave : (held : Option (List ℕ)) (u : Uid) (past : List Step) (st : Step) (s : Site) (r : StoreRequest) (how : RequestEnd)
    (p : Option Pick) (w : Work) → Queued s
    → EndsSo w how p → makes_own_call w ≡ false → IsSeen u st None p (is_stop how) → begun s.node.requests u ≡ None
    → IsTold held u (facts_in s u) None past
    → Leaves held u (st ∷ past) (worked w r how p s)
idle-leave held u past st s r how p w q ends not_own seen none t = go w how p ends seen not_own
  where
    quiet : (p : Option Pick) (h : RequestEnd) → p ≡ None → is_stop h ≡ false → IsSeen u st None p (is_stop h)
        → IsTold held u (facts_in s u) None (st ∷ past)
    quiet p h e stop x = told-quiet held u past st (facts_in s u) None
        (record { own_is = x.own_is; pick_is = x.pick_is ∙ e; crash_is = x.crash_is ∙ stop }) t

    crash : (p : Option Pick) → p ≡ None → IsSeen u st None p true → Leaves held u (st ∷ past) (crashed s)
    crash p e x = leaves held u (st ∷ past) s _ _ _ (comes-crashed s)
        (told-crash held u past st (facts_in s u) None (record { own_is = x.own_is; pick_is = x.pick_is ∙ e; crash_is = x.crash_is }) t)

    failed : Comes s (request_ended r status.StoreFault (unsynced s)) (facts_in s) (λ u. None)
    failed = let x = keeps-unsynced s q in comes-after s (unsynced s) _ _ _ _ _ x
        (comes-ended r status.StoreFault (unsynced s) x.queue) x.facts

    go : (w : Work) (h : RequestEnd) (p : Option Pick) → EndsSo w h p → IsSeen u st None p (is_stop h) → makes_own_call w ≡ false
        → Leaves held u (st ∷ past) (worked w r h p s)
    go syncs end.Part p e x n = leaves held u (st ∷ past) s _ _ _ (keeps-synced s q)
        (not-begun held u (st ∷ past) _ _ _ (sym none) (quiet p end.Part e refl x))
    go syncs end.Done p e x n = absurd e
    go syncs end.Full p e x n = absurd e
    go syncs end.Fault p e x n = leaves held u (st ∷ past) s _ _ _ failed (quiet p end.Fault e refl x)
    go syncs end.Stop p e x n = crash p e x
    go reads end.Part None e x n = absurd (cc e)
    go reads end.Part (Some k) e x n = leaves held u (st ∷ past) s _ _ _ (comes-settled k s q)
        (not-begun held u (st ∷ past) _ _ _ (sym none) (told-picked held u past st (facts_in s u) k false x t))
    go reads end.Done p e x n = absurd e
    go reads end.Full p e x n = absurd e
    go reads end.Fault p e x n = leaves held u (st ∷ past) s _ _ _ failed (quiet p end.Fault e refl x)
    go reads end.Stop p e x n = crash p e x
    go unkept end.Done p e x n = leaves held u (st ∷ past) s _ _ _ (comes-done r s q) (quiet p end.Done e refl x)
    go unkept end.Part p e x n = absurd e
    go unkept end.Full p e x n = absurd e
    go unkept end.Fault p e x n = absurd e
    go unkept end.Stop p e x n = absurd e
    go without_room end.Full p e x n = leaves held u (st ∷ past) s _ _ _ (comes-ended r status.Full s q) (quiet p end.Full e refl x)
    go without_room end.Part p e x n = absurd e
    go without_room end.Done p e x n = absurd e
    go without_room end.Fault p e x n = absurd e
    go without_room end.Stop p e x n = absurd e
    go calls h p e x n = absurd (cc n)

pub store-leaves : (held : Option (List ℕ)) (u : Uid) (past : List Step) (st : Step) (s : Site) (r : StoreRequest) (how : RequestEnd)
    (p : Option Pick) → first_request s.node ≡ Some r → Queued s
    → EndsSo (work_of s r) how p → IsSeen u st (own_call_of u s r how) p (is_stop how)
    → IsTold held u (facts_in s u) (begun s.node.requests u) past
    → Leaves held u (st ∷ past) (store_turn how p s)
store-leaves held u past st s r how p is q ends seen t = subst
    (λ o. Leaves held u (st ∷ past) (with_item o (λ r. worked (work_of s r) r how p s) s)) (sym is) (go (work_of s r) refl ends)
  where
    idle : (w : Work) → work_of s r ≡ w → makes_own_call w ≡ false → EndsSo w how p → Leaves held u (st ∷ past) (worked w r how p s)
    idle w at not_own e =
        let none : begun s.node.requests u ≡ None = begun-first s.node.requests r u is ∙ unmade-begun u r (work-unmade s r w at not_own) in
        idle-leave held u past st s r how p w q e not_own
        (record {
          own_is = seen.own_is ∙ no-own u s r how (ap makes_own_call at ∙ not_own);
          pick_is = seen.pick_is;
          crash_is = seen.crash_is;
        }) none (not-begun held u past _ _ _ none t)

    go : (w : Work) → work_of s r ≡ w → EndsSo w how p → Leaves held u (st ∷ past) (worked w r how p s)
    go calls at e = calls-leave held u past st s r how p is q at e seen t
    go syncs at e = idle syncs at refl e
    go reads at e = idle reads at refl e
    go unkept at e = idle unkept at refl e
    go without_room at e = idle without_room at refl e
