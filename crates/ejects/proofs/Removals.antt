-- An Eject goes with the removal that is done, in the node and at the site.
use Rattle.std.proofs.Common.{◌≡◌, ℕ, Bool, true, false, ◌||◌, List, [], ◌++◌, Option, None, Some, refl, sym, ◌∙◌, ap, subst}
use Rattle.std.specs.Prelude.{is_some, IsSomeAnd}
use Rattle.std.specs.List.{AllByRecursion}
use Rattle.std.specs.Option.{option_map}
use Rattle.std.specs.FinMap.Entries.{find-put}
use Rattle.std.proofs.lemmas.Cmp.{tied_itself}
use Rattle.capability.specs.declared.Uid.{Uid}
use Rattle.capability.proofs.Uids.{uid_cmp_total, uid_cmp-IsAntisymmetric}
use Rattle.eden_value.specs.declared.status.Status.{Status}
use Rattle.eden_value.specs.declared.status.Status.TheVariants as status
use Rattle.eden_model.specs.Crew.{running, nothing}
use Rattle.eden_model.specs.Lines.{Distinct}
use Rattle.eden_model.specs.Map.{value_at, put_at, uid_cmp, with_item, rest}
use Rattle.eden_model.specs.Traffic.{Traffic, all_replied}
use Rattle.eden_model.proofs.Laws.{value-changed_same}
use Rattle.epl_syntax.specs.declared.effect.Answer.{Answer}
use Rattle.epl_syntax.specs.declared.effect.Answer.TheVariants.{Code}
use Rattle.invocation.specs.Mail.{Mail}
use Rattle.invocation.specs.Carries.{Carries}
use Rattle.journal.specs.EjectChange.{kept_of}
use Rattle.journal.specs.World.{Active, Eject, StoreRequest, Site, eject_in, on_eject, on_node, on_traffic}
use Rattle.journal.specs.Ejects.{with_active, with_queued, on_active, told, tells, is_kept, is_there, without_active, deactivated}
use Rattle.journal.specs.Ejects.{turned_away}
use Rattle.journal.specs.Settling.{written_with}
use Rattle.journal.specs.Sites.{IsSoundSite, IsHeldAt, runs_of}
use Rattle.journal.specs.Stores.{doubted, stored, tells_code, request_ended}
use Rattle.history_laws.proofs.SiteCrews.{runs-set}
use Rattle.active_part.specs.Body.{Body, active_of, calls_of}
use Rattle.active_part.specs.Bodies.{told_body}
use Rattle.ejects.specs.Parts.{Parts, Known, known, body_at, queue_of, queue_at, held_of, HasClasses, Stands, IsAt}
use Rattle.ejects.specs.Passive.{OnlyAt, HoldsPassive, IsKeptIn}
use Rattle.ejects.specs.Replies.{AreOut, Slept}
use Rattle.ejects.specs.StoreEnds.{Told, Vanished, Went, WentAs}
use Rattle.ejects.specs.View.{with_body}
use Rattle.ejects.proofs.Acting.{held-all-out, distinct-body}
use Rattle.ejects.proofs.Delivered.{FoundEject, found-eject, body-now, same-known}
use Rattle.ejects.proofs.Drops.{stays-on_node, emptied-stands, away-stands, away-traffic}
use Rattle.ejects.proofs.Heard.{tells-stands}
use Rattle.ejects.proofs.Keeping.{keeps-all_replied}
use Rattle.ejects.proofs.Starting.{holds-all, all-second}
use Rattle.ejects.proofs.Stays.{stays-on_traffic, stays-at}

-- 1. What is kept of an Eject changes, or what is in doubt

-- the new parts hold the same of the Eject, and of all others
pub record AlikeAt (u : Uid) (n new : Parts) : Type 0 where
  pub only : OnlyAt u n new
  pub active : body_at new u ≡ body_at n u
  pub queue : queue_at new u ≡ queue_at n u

pub alike-same : (u : Uid) (n : Parts) → AlikeAt u n n
alike-same u n = record {
  only = record {
    node = record { number = refl; types = refl; epoch = refl; last_serial = refl };
    others = λ v other. record { standing = refl; waiting = refl };
  };
  active = refl;
  queue = refl;
}

module _ (n : Parts) (s : Site) (u : Uid) (h : Stands n s) (there : is_some (n.standing u) ≡ true) where
  pub listed : FoundEject (eject_in s u) (held_of n u)
  listed = found-eject (eject_in s u) (held_of n u) (h.ejects u) there

  pub remains : (new : Parts) (f : Eject → Eject) → AlikeAt u n new → ((e : Eject) → (f e).active ≡ e.active)
      → ((e : Eject) → (f e).queued ≡ e.queued)
      → ((e : Eject) → eject_in s u ≡ Some e → is_there (f e) ≡ is_some (new.standing u)) → Stands new (on_eject u f s)
  remains new f same active queued stays =
      let found = found-eject (eject_in s u) (held_of n u) (h.ejects u) there in
      stays-at n new s u f found.eject found.is same.only
      (same-known (active found.eject ∙ found.active ∙ ap (option_map active_of) (sym same.active))
      (queued found.eject ∙ found.queued ∙ sym same.queue) (stays found.eject found.is))
      (subst (HasClasses s.traffic) (sym same.active) (h.classes u)) h

or-true : (a b : Bool) → (a || (b || true)) ≡ true
or-true true b = refl
or-true false true = refl
or-true false false = refl

-- an Eject once the change of this request is kept
abbrev pub with_change : StoreRequest → Eject → Eject
with_change r e = record e { kept = kept_of r.change; doubt = None }

module _ (n : Parts) (s : Site) (r : StoreRequest) (h : Stands n s) (there : is_some (n.standing r.uid) ≡ true) where
  pub doubted-stands : Stands n (doubted r s)
  doubted-stands = remains n s r.uid h there n (λ e. record e { doubt = Some r.change }) (alike-same r.uid n) (λ e. refl) (λ e. refl)
      (λ e is. or-true (is_some e.active) (is_some e.kept) ∙ sym there)

  pub stored-stands : (new : Parts) → AlikeAt r.uid n new
      → ((e : Eject) → eject_in s r.uid ≡ Some e → is_there (with_change r e) ≡ is_some (new.standing r.uid))
      → Stands new (stored r s)
  stored-stands new same stays =
      stays-on_node new (on_eject r.uid (with_change r) s)
      (λ it. record it { ledger = written_with s.layout r.change it.ledger }) refl refl refl
      (remains n s r.uid h there new (with_change r) same (λ e. refl) (λ e. refl) stays)

-- 2. The process is told how its request ended

module _ (x : Site) (r : StoreRequest) (why : Status) where
  abbrev later : Site
  later = on_node (λ it. record it { requests = rest it.requests }) x

  pub ended-stands : (n mid : Parts) → Told r.uid r.process why n mid → Stands n x → Stands mid (request_ended r why x)
  ended-stands n mid now h = go r.process now
    where
      first : Stands n later
      first = stays-on_node n x (λ it. record it { requests = rest it.requests }) refl refl refl h

      on : (p : ℕ) (o : Option Body) → body_at n r.uid ≡ o → IsSomeAnd o (λ b. mid ≡ with_body r.uid (told_body p (Code why) b) n)
          → Stands mid (tells r.uid p (Code why) later)
      on p None at told_now = absurd told_now
      on p (Some b) at told_now = subst (λ y. Stands y (tells r.uid p (Code why) later)) (sym told_now)
          (tells-stands n later r.uid p b (Code why) first at)

      go : (o : Option ℕ) → Told r.uid o why n mid
          → Stands mid (tells_code r.uid o why later)
      go None same = subst (λ y. Stands y later) (sym same) first
      go (Some p) told_now = on p (body_at n r.uid) refl told_now

  pub ended-traffic : (request_ended r why x).traffic ≡ x.traffic
  unfolding on_eject on_node
  ended-traffic = go r.process
    where
      go : (o : Option ℕ) → (tells_code r.uid o why later).traffic ≡ x.traffic
      go None = refl
      go (Some p) = refl

-- an answer to a process changes nothing of what is kept
kept-told : (p : ℕ) (a : Answer) (e : Eject) → is_kept (on_active (told p a) e) ≡ is_kept e
kept-told p a e = go e.active
  where
    go : (o : Option Active) → is_kept (with_item o (λ it. with_active (Some (told p a it)) e) e) ≡ is_kept e
    go None = refl
    go (Some it) = refl

-- an Eject that a change left
kept-at : (f : Eject → Eject) (s x : Site) (u : Uid) (stays : Bool) → eject_in x u ≡ option_map f (eject_in s u)
    → ((e : Eject) → eject_in s u ≡ Some e → is_kept (f e) ≡ stays) → IsKeptIn x u stays
kept-at f s x u stays is kept = record { at = λ e found. go (eject_in s u) refl e (sym is ∙ found) }
  where
    go : (o : Option Eject) → eject_in s u ≡ o → (e : Eject) → option_map f (eject_in s u) ≡ Some e → is_kept e ≡ stays
    go None none e found = absurd (let bad : None ≡ Some e = ap (option_map f) (sym none) ∙ found in cc bad)
    go (Some d) some e found =
        let both : Some (f d) ≡ Some e = ap (option_map f) (sym some) ∙ found in
        let one : f d ≡ e = cc both in
        ap is_kept (sym one) ∙ kept d some

module _ (x : Site) (r : StoreRequest) (why : Status) where
  abbrev left_site : Site
  left_site = on_node (λ it. record it { requests = rest it.requests }) x

  pub kept-ended : (stays : Bool) → IsKeptIn x r.uid stays → IsKeptIn (request_ended r why x) r.uid stays
  unfolding on_eject on_node
  kept-ended stays kept = go r.process
    where
      go : (o : Option ℕ) → IsKeptIn (tells_code r.uid o why left_site) r.uid stays
      go None = record { at = λ e found. kept.at e found }
      go (Some p) = kept-at (on_active (told p (Code why))) x (tells r.uid p (Code why) left_site) r.uid stays
          (value-changed_same uid_cmp uid_cmp_total uid_cmp-IsAntisymmetric r.uid (on_active (told p (Code why))) x.node.ejects)
          (λ e is. kept-told p (Code why) e ∙ kept.at e is)

  ended-eject : r.process ≡ None → eject_in (request_ended r why x) r.uid ≡ eject_in x r.uid
  unfolding on_node
  ended-eject none = ap (λ o. eject_in (tells_code r.uid o why left_site) r.uid) none

-- 3. The active part goes with its calls

-- the active part, once its process was told, has the calls that it had
pub record SameWork (old new : Body) : Type 0 where
  pub runs : running new.crew.crew ≡ running old.crew.crew
  pub queued : calls_of new.crew.queued ≡ calls_of old.crew.queued

pub record WasActive (n : Parts) (u : Uid) (b : Body) : Type 0 where
  pub old : Body
  pub at : body_at n u ≡ Some old
  pub same : SameWork old b

was-active : (n mid : Parts) (u : Uid) (process : Option ℕ) (why : Status) (b : Body) → Told u process why n mid → body_at mid u ≡ Some b
    → WasActive n u b
was-active n mid u None why b same at =
    record { old = b; at = ap (λ y. body_at y u) (sym same) ∙ at; same = record { runs = refl; queued = refl } }
was-active n mid u (Some p) why b now at = go (body_at n u) refl now
  where
    go : (o : Option Body) → body_at n u ≡ o → IsSomeAnd o (λ x. mid ≡ with_body u (told_body p (Code why) x) n) → WasActive n u b
    go None is now = absurd now
    go (Some x) is now =
        let both : Some (told_body p (Code why) x) ≡ Some b =
        sym (body-now n u (told_body p (Code why) x)) ∙ ap (λ y. body_at y u) (sym now) ∙ at in
        let one : told_body p (Code why) x ≡ b = cc both in
        record {
          old = x;
          at = is;
          same = record {
            runs = ap (λ (y : Body). running y.crew.crew) (sym one) ∙ runs-set p nothing x.crew.crew;
            queued = ap (λ (y : Body). calls_of y.crew.queued) (sym one);
          };
        }

module _ (n mid new : Parts) (m later : Mail) (s x : Site) (r : StoreRequest) (why : Status) (sound : IsSoundSite s) (at : IsAt n m s)
    (now : Told r.uid r.process why n mid) (quiet : x.traffic ≡ s.traffic) where
  same-calls : (request_ended r why x).traffic ≡ s.traffic
  same-calls = ended-traffic x r why ∙ quiet

  pub went-active : (b : Body) → Stands n x → IsKeptIn x r.uid false → body_at mid r.uid ≡ Some b → Slept r.uid false b mid new m later
      → IsAt new later (turned_away r.uid status.Gone (deactivated r.uid (request_ended r why x)))
  went-active b h kept is slept =
      let was = was-active n mid r.uid r.process why b now is in
      let all = holds-all n s r.uid was.old sound at.parts was.at in
      let stands = ended-stands x r why n mid now h in
      let kept_now = kept-ended x r why false kept in
      let out_runs = subst (AreOut s.traffic) (sym was.same.runs)
      (held-all-out m s.traffic r.uid (running was.old.crew.crew) at.calls all.running_) in
      let out_queued = subst (AreOut s.traffic) (sym was.same.queued)
      (held-all-out m s.traffic r.uid (calls_of was.old.crew.queued) at.calls all.queued) in
      let once = subst Distinct (λ i. sym was.same.runs i ++ sym was.same.queued i)
      (distinct-body n s r.uid was.old sound at.parts was.at) in
      record {
        parts = away-stands mid (request_ended r why x) r.uid b false stands is kept_now new status.Gone slept.parts;
        calls = subst (Carries later) (sym (away-traffic mid (request_ended r why x) r.uid b false stands is kept_now status.Gone))
            (slept.calls (request_ended r why x).traffic (subst (Carries m) (sym same-calls) at.calls)
            (subst (λ t. AreOut t (running b.crew.crew)) (sym same-calls) out_runs)
            (subst (λ t. AreOut t (calls_of b.crew.queued)) (sym same-calls) out_queued) once);
      }

-- 4. A passive Eject goes with its queue

-- the same parts with this queue of a passive Eject
abbrev pub with_queue : Uid → List ℕ → Parts → Parts
with_queue u ks n = record n { waiting = put_at uid_cmp u ks n.waiting }

module _ (u : Uid) (n new : Parts) (ks : List ℕ) (stays : Bool) (now : HoldsPassive u n new [] stays) where
  waits-here : value_at uid_cmp u (put_at uid_cmp u ks new.waiting) ≡ Some ks
  waits-here = find-put uid_cmp uid_cmp_total u u ks new.waiting ∙ rw (tied_itself uid_cmp_total u) refl

  pub holds-queue : HoldsPassive u n (with_queue u ks new) ks stays
  holds-queue = record {
    only = record {
      node = record {
        number = now.only.node.number;
        types = now.only.node.types;
        epoch = now.only.node.epoch;
        last_serial = now.only.node.last_serial;
      };
      others = λ v other. record {
        standing = (now.only.others v other).standing;
        waiting = find-put uid_cmp uid_cmp_total v u ks new.waiting ∙ rw other (now.only.others v other).waiting;
      };
    };
    none = now.none;
    queue = ap (λ o. queue_of o (value_at uid_cmp u (put_at uid_cmp u ks new.waiting))) now.none ∙ ap (queue_of None) waits-here;
    there = now.there;
  }

  pub holds-none : HoldsPassive u (with_queue u ks new) new [] stays
  holds-none = record {
    only = record {
      node = record { number = refl; types = refl; epoch = refl; last_serial = refl };
      others = λ v other. record { standing = refl; waiting = sym (find-put uid_cmp uid_cmp_total v u ks new.waiting ∙ rw other refl) };
    };
    none = now.none;
    queue = now.queue;
    there = now.there;
  }

module _ (u : Uid) (n new : Parts) (m later : Mail) (y : Site) (e : Eject) (is : eject_in y u ≡ Some e)
    (h : Stands (with_queue u (queue_at n u) new) y) (went : Vanished u n new m later) where
  here : known (Some e) ≡ held_of (with_queue u (queue_at n u) new) u
  here = ap known (sym is) ∙ h.ejects u

  inactive : e.active ≡ None
  inactive = ap (λ (k : Known). k.active) here ∙ ap (option_map active_of) went.parts.none

  queued : e.queued ≡ queue_at n u
  queued = ap (λ (k : Known). k.queued) here ∙ (holds-queue u n new (queue_at n u) false went.parts).queue

  deactivated-is : deactivated u y ≡ y
  deactivated-is = ap (λ o. with_item o (λ e. with_item e.active (λ it. without_active u it y) y) y) is
      ∙ ap (λ o. with_item o (λ it. without_active u it y) y) inactive

  away-is : turned_away u status.Gone (deactivated u y)
      ≡ on_traffic (all_replied status.Gone (queue_at n u)) (on_eject u (with_queued []) y)
  away-is = ap (turned_away u status.Gone) deactivated-is
      ∙ ap (λ o. with_item o (λ e. on_traffic (all_replied status.Gone e.queued) (on_eject u (with_queued []) y)) y) is
      ∙ ap (λ ks. on_traffic (all_replied status.Gone ks) (on_eject u (with_queued []) y)) queued

  quiet : (on_traffic (all_replied status.Gone (queue_at n u)) (on_eject u (with_queued []) y)).traffic
      ≡ all_replied status.Gone (queue_at n u) y.traffic
  unfolding on_traffic on_eject
  quiet = refl

  pub vanished-at : Carries m y.traffic → AreOut y.traffic (queue_at n u) → Distinct (queue_at n u)
      → IsAt new later (turned_away u status.Gone (deactivated u y))
  vanished-at carries out once = record {
    parts = subst (Stands new) (sym away-is)
        (stays-on_traffic new (on_eject u (with_queued []) y) (all_replied status.Gone (queue_at n u))
        (keeps-all_replied status.Gone (queue_at n u) (on_eject u (with_queued []) y).traffic)
        (emptied-stands (with_queue u (queue_at n u) new) new y u e false is h went.parts.none went.parts.there
        (holds-none u n new (queue_at n u) false went.parts)));
    calls = subst (Carries later) (sym (ap (λ (x : Site). x.traffic) away-is ∙ quiet)) (went.calls y.traffic carries out once);
  }

-- an Eject of which a process is told stays
pub told-there : (u : Uid) (process : Option ℕ) (why : Status) (n mid : Parts) → Told u process why n mid → is_some (n.standing u) ≡ true
    → is_some (mid.standing u) ≡ true
told-there u None why n mid now there = ap (λ (n : Parts). is_some (n.standing u)) now ∙ there
told-there u (Some p) why n mid now there = go (body_at n u) now
  where
    go : (o : Option Body) → IsSomeAnd o (λ b. mid ≡ with_body u (told_body p (Code why) b) n) → is_some (mid.standing u) ≡ true
    go None h = absurd h
    go (Some b) h = ap (λ (n : Parts). is_some (n.standing u)) h ∙ rw (tied_itself uid_cmp_total u) refl

-- no process was told at a passive Eject
told-none : (n mid : Parts) (u : Uid) (process : Option ℕ) (why : Status) → Told u process why n mid → body_at mid u ≡ None → process ≡ None
told-none n mid u None why now at = refl
told-none n mid u (Some p) why now at = go (body_at n u) now
  where
    go : (o : Option Body) → IsSomeAnd o (λ x. mid ≡ with_body u (told_body p (Code why) x) n) → Some p ≡ None
    go None now = absurd now
    go (Some x) now =
        let bad : Some (told_body p (Code why) x) ≡ None =
        sym (body-now n u (told_body p (Code why) x)) ∙ ap (λ y. body_at y u) (sym now) ∙ at in
        absurd (cc bad)

told-same : (n mid : Parts) (u : Uid) (process : Option ℕ) (why : Status) → Told u process why n mid → body_at mid u ≡ None → mid ≡ n
told-same n mid u None why now at = now
told-same n mid u (Some p) why now at = absurd (let bad : Some p ≡ None = told-none n mid u (Some p) why now at in cc bad)

-- what a passive Eject has queued is on no way, and each call of it is another
pub record QueueOut (t : Traffic) (ks : List ℕ) : Type 0 where
  pub out : AreOut t ks
  pub once : Distinct ks

queue-out : (m : Mail) (s : Site) (u : Uid) (e : Eject) (ks : List ℕ) → IsSoundSite s → Carries m s.traffic → eject_in s u ≡ Some e
    → e.active ≡ None → e.queued ≡ ks → QueueOut s.traffic ks
queue-out m s u e ks sound carries is passive queued =
    let good = sound.ejects u e is in
    record {
      out = held-all-out m s.traffic u ks carries
          (subst (λ l. AllByRecursion (IsHeldAt s.traffic u) l) queued
          (all-second (IsHeldAt s.traffic u) (runs_of e.active) e.queued good.held));
      once = subst Distinct (λ i. runs_of (passive i) ++ queued i) good.once;
    }

stored-eject : (s : Site) (r : StoreRequest)
    → eject_in (stored r s) r.uid ≡ option_map {T = Eject} (with_change r) (eject_in s r.uid)
unfolding on_eject on_node
stored-eject s r = value-changed_same uid_cmp uid_cmp_total uid_cmp-IsAntisymmetric r.uid
    (with_change r) s.node.ejects

pub stored-traffic : (s : Site) (r : StoreRequest) → (stored r s).traffic ≡ s.traffic
unfolding on_eject on_node
stored-traffic s r = refl

module _ (n mid new : Parts) (m later : Mail) (s : Site) (r : StoreRequest) (sound : IsSoundSite s) (at : IsAt n m s)
    (there : is_some (n.standing r.uid) ≡ true) (now : Told r.uid r.process status.Ok n mid) where
  -- an Eject of which nothing was kept was active
  pub went-unkept : IsKeptIn s r.uid false → Went r.uid mid new m later
      → IsAt new later (turned_away r.uid status.Gone (deactivated r.uid (request_ended r status.Ok s)))
  went-unkept kept went = go (body_at mid r.uid) refl went
    where
      go : (o : Option Body) → body_at mid r.uid ≡ o → WentAs o r.uid mid new m later
          → IsAt new later (turned_away r.uid status.Gone (deactivated r.uid (request_ended r status.Ok s)))
      go None is went =
          let found = listed n s r.uid at.parts there in
          let same = told-same n mid r.uid r.process status.Ok now is in
          let passive : found.eject.active ≡ None =
          found.active ∙ ap (option_map active_of) (ap (λ y. body_at y r.uid) (sym same) ∙ is) in
          let gone : is_there found.eject ≡ false = ap (λ o. is_some o || is_kept found.eject) passive ∙ kept.at found.eject found.is in
          let bad : true ≡ false = sym there ∙ sym found.there ∙ gone in
          absurd (cc bad)
      go (Some b) is slept = went-active n mid new m later s s r status.Ok sound at now refl b at.parts kept is slept

  unkept : kept_of r.change ≡ None → IsKeptIn (stored r s) r.uid false
  unkept removes = kept-at (with_change r) s (stored r s) r.uid false (stored-eject s r) (λ e is. ap (λ o. is_some o || false) removes)

  active-goes : kept_of r.change ≡ None → (b : Body) → body_at mid r.uid ≡ Some b → Slept r.uid false b mid new m later
      → IsAt new later (turned_away r.uid status.Gone (deactivated r.uid (request_ended r status.Ok (stored r s))))
  active-goes removes b is slept = went-active n mid new m later s (stored r s) r status.Ok sound at now (stored-traffic s r) b
      (stored-stands n s r at.parts there n (alike-same r.uid n) (λ e found. stays e found)) (unkept removes) is slept
    where
      stays : (e : Eject) → eject_in s r.uid ≡ Some e → is_there (with_change r e) ≡ is_some (n.standing r.uid)
      stays e found =
          let was = was-active n mid r.uid r.process status.Ok b now is in
          let stood : known (Some e) ≡ held_of n r.uid = ap known (sym found) ∙ at.parts.ejects r.uid in
          let active : e.active ≡ Some (active_of was.old) = ap (λ (k : Known). k.active) stood ∙ ap (option_map active_of) was.at in
          ap (λ o. is_some o || is_kept (with_change r e)) active ∙ sym there

  passive-goes : kept_of r.change ≡ None → body_at mid r.uid ≡ None → Vanished r.uid mid new m later
      → IsAt new later (turned_away r.uid status.Gone (deactivated r.uid (request_ended r status.Ok (stored r s))))
  passive-goes removes is vanished =
      let none = told-none n mid r.uid r.process status.Ok now is in
      let same = told-same n mid r.uid r.process status.Ok now is in
      let body_none : body_at n r.uid ≡ None = ap (λ y. body_at y r.uid) (sym same) ∙ is in
      let went = subst (λ y. Vanished r.uid y new m later) same vanished in
      let found = listed n s r.uid at.parts there in
      let passive : found.eject.active ≡ None = found.active ∙ ap (option_map active_of) body_none in
      let held = holds-queue r.uid n new (queue_at n r.uid) false went.parts in
      let between = with_queue r.uid (queue_at n r.uid) new in
      let alike : AlikeAt r.uid n between = record { only = held.only; active = held.none ∙ sym body_none; queue = held.queue } in
      let stands = stored-stands n s r at.parts there between alike (λ e at_e. goes body_none went e at_e) in
      let told_none = subst (λ o. Told r.uid o status.Ok between between) (sym none) refl in
      let queue = queue-out m s r.uid found.eject (queue_at n r.uid) sound at.calls found.is passive found.queued in
      let calls = ended-traffic (stored r s) r status.Ok ∙ stored-traffic s r in
      vanished-at r.uid n new m later (request_ended r status.Ok (stored r s)) (with_change r found.eject)
      (ended-eject (stored r s) r status.Ok none ∙ stored-eject s r ∙ ap (option_map {T = Eject} (with_change r)) found.is)
      (ended-stands (stored r s) r status.Ok between between told_none stands) went
      (subst (Carries m) (sym calls) at.calls) (subst (λ t. AreOut t (queue_at n r.uid)) (sym calls) queue.out) queue.once
    where
      goes : body_at n r.uid ≡ None → Vanished r.uid n new m later → (e : Eject) → eject_in s r.uid ≡ Some e
          → is_there (with_change r e) ≡ is_some (new.standing r.uid)
      goes body_none went e found =
          let stood : known (Some e) ≡ held_of n r.uid = ap known (sym found) ∙ at.parts.ejects r.uid in
          let passive : e.active ≡ None = ap (λ (k : Known). k.active) stood ∙ ap (option_map active_of) body_none in
          ap (λ o. is_some o || is_kept (with_change r e)) passive ∙ ap (λ o. is_some o || false) removes ∙ sym went.parts.there

  -- what was kept of it goes
  pub went-stored : kept_of r.change ≡ None → Went r.uid mid new m later
      → IsAt new later (turned_away r.uid status.Gone (deactivated r.uid (request_ended r status.Ok (stored r s))))
  went-stored removes went = go (body_at mid r.uid) refl went
    where
      go : (o : Option Body) → body_at mid r.uid ≡ o → WentAs o r.uid mid new m later
          → IsAt new later (turned_away r.uid status.Gone (deactivated r.uid (request_ended r status.Ok (stored r s))))
      go None is vanished = passive-goes removes is vanished
      go (Some b) is slept = active-goes removes b is slept
