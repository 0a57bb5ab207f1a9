-- A turn of the store leaves of the Ejects and calls of a node what it leaves at the site.
use Rattle.std.proofs.Common.{◌≡◌, ℕ, ◌==◌, Bool, true, false, cond, ◌||◌, List, [], ◌∷◌, ◌++◌, Option, None, Some}
use Rattle.std.proofs.Common.{refl, sym, ◌∙◌, ap, subst, arith}
use Rattle.std.specs.Prelude.{is_some, IsSomeAnd, IfSome}
use Rattle.std.specs.List.{filter_map}
use Rattle.std.specs.Ordering.{eq_by_cmp}
use Rattle.capability.specs.declared.Uid.{Uid}
use Rattle.eden_value.specs.declared.status.Status.{Status}
use Rattle.eden_value.specs.declared.status.Status.TheVariants as status
use Rattle.eden_model.specs.Map.{value_at, uid_cmp, with_item, first, rest}
use Rattle.eject_table.specs.Table.{active_in}
use Rattle.passive_store.specs.declared.store.Pick.{Pick}
use Rattle.invocation.specs.Mail.{Mail}
use Rattle.invocation.specs.Carries.{Carries}
use Rattle.checkpoint.specs.declared.worker.StoreEnd.{StoreEnd}
use Rattle.checkpoint.specs.declared.worker.StoreEnd.TheVariants.{Done, Full, Fault, Stopped}
use Rattle.journal.specs.EjectChange.{EjectChange, body, removal, kept_of}
use Rattle.journal.specs.declared.event.Event.TheVariants as event
use Rattle.journal.specs.declared.event.RequestEnd.{RequestEnd}
use Rattle.journal.specs.declared.event.RequestEnd.TheVariants as end
use Rattle.journal.specs.World.{Eject, StoreRequest, Site, eject_in, on_eject, on_node}
use Rattle.journal.specs.Ejects.{is_kept, is_there}
use Rattle.journal.specs.Settling.{epoch_doubts, doubt_entry, in_doubt, unsynced, finds_room}
use Rattle.journal.specs.Sites.{IsSoundSite, at_store}
use Rattle.journal.specs.Step.{AllowsAt, site_turn}
use Rattle.journal.specs.Stores.{Work, syncs, reads, unkept, without_room, calls, is_kept_in, needs_calls, first_work, work_of, EndsSo}
use Rattle.journal.specs.Stores.{AllowsStore, more_made, doubted, stored, request_ended, removed, worked}
use Rattle.history_laws.proofs.SiteStores.{first-is, at-own}
use Rattle.history_laws.proofs.StoreLaw.{first-there}
use Rattle.active_part.specs.Body.{Body}
use Rattle.ejects.specs.Marks.{AwaitsIn}
use Rattle.ejects.specs.Parts.{Parts, Known, known, body_at, Stands, IsAt}
use Rattle.ejects.specs.Passive.{IsKeptIn}
use Rattle.ejects.specs.StoreEnds.{code_of_end, IsShownAs, takes_eject, is_removal, KeepsUnasked, IsFirstOf, IsFirst, Told, WentIf}
use Rattle.ejects.proofs.Drops.{stays-on_node}
use Rattle.ejects.proofs.Hearing.{FoundWaiting, waiting-body}
use Rattle.ejects.proofs.Removals.{doubted-stands, stored-stands, alike-same, ended-stands, ended-traffic, stored-traffic}
use Rattle.ejects.proofs.Removals.{went-unkept, went-stored}

-- 1. The Eject of the first request

active-stands : (o : Option (Option Body)) (b : Body) → active_in o ≡ Some b → is_some o ≡ true
active-stands None b is = absurd (let bad : None ≡ Some b = is in cc bad)
active-stands (Some x) b is = refl

known-there : (n : Parts) (s : Site) (u : Uid) (e : Eject) → Stands n s → eject_in s u ≡ Some e → is_some (n.standing u) ≡ is_there e
known-there n s u e h found = ap (λ (k : Known). k.there) (sym (h.ejects u) ∙ ap known found)

or-kept : (b : Bool) → (b || true) ≡ true
or-kept true = refl
or-kept false = refl

module _ (n : Parts) (s : Site) (r : StoreRequest) (sound : IsSoundSite s) (h : Stands n s) (is : first s.node.requests ≡ Some r) where
  in-site : is_some (eject_in s r.uid) ≡ true
  in-site = first-there s.node.requests s.node.ejects r is sound.node.there

  first-waits : (p : ℕ) → r.process ≡ Some p → FoundWaiting n r.uid p
  first-waits p answers =
      let asked = ap (at_store r.uid p) (first-is s.node.requests r is) ∙ at-own r p (rest s.node.requests) answers in
      waiting-body n s r.uid p h ((sound.processes r.uid p (sound.node.of_node r.uid in-site)).stores (omega (arith, asked)))

  -- the process that it answers waits
  request-awaits : IfSome r.process (λ p. AwaitsIn (body_at n r.uid) p)
  request-awaits = go r.process refl
    where
      go : (o : Option ℕ) → r.process ≡ o → IfSome o (λ p. AwaitsIn (body_at n r.uid) p)
      go None answers = tt
      go (Some p) answers = let found = first-waits p answers in subst (λ o. AwaitsIn o p) (sym found.is) found.waits

  -- and its Eject is there
  request-there : KeepsUnasked r.process r.uid s → is_some (n.standing r.uid) ≡ true
  request-there kept = go r.process refl kept
    where
      here : (o : Option Eject) → eject_in s r.uid ≡ o → is_some o ≡ true → IsKeptIn s r.uid true → is_some (n.standing r.uid) ≡ true
      here None at some kept = absurd (let bad : false ≡ true = some in cc bad)
      here (Some e) at some kept =
          known-there n s r.uid e h at ∙ ap (λ b. is_some e.active || b) (kept.at e at) ∙ or-kept (is_some e.active)

      go : (o : Option ℕ) → r.process ≡ o → KeepsUnasked o r.uid s → is_some (n.standing r.uid) ≡ true
      go None answers kept = here (eject_in s r.uid) refl in-site kept
      go (Some p) answers kept = let found = first-waits p answers in active-stands (n.standing r.uid) found.body found.is

-- in the words of the contract
module _ (n : Parts) (m : Mail) (s : Site) (u : Uid) (process : Option ℕ) (removes : Bool) (sound : IsSoundSite s)
    (at : IsAt n m s) (is : IsFirst u process removes s) where
  pub first-awaits : IfSome process (λ p. AwaitsIn (body_at n u) p)
  first-awaits = subst (λ v. IfSome process (λ p. AwaitsIn (body_at n v) p)) is.uid
      (subst (λ o. IfSome o (λ p. AwaitsIn (body_at n is.request.uid) p)) is.answers
      (request-awaits n s is.request sound at.parts is.is_first))

  pub first-stands : is_some (n.standing u) ≡ true
  first-stands = subst (λ v. is_some (n.standing v) ≡ true) is.uid
      (request-there n s is.request sound at.parts is.is_first
      (subst (λ v. KeepsUnasked is.request.process v s) (sym is.uid) (subst (λ o. KeepsUnasked o u s) (sym is.answers) is.kept)))

-- 2. A removal of what is not kept

-- no Eject is in doubt, where none is
entry-undoubted : (u : Uid) (e : Eject) (es : List (Uid × Eject)) → is_some (first (filter_map doubt_entry es)) ≡ false
    → value_at uid_cmp u es ≡ Some e → e.doubt ≡ None
entry-undoubted u e [] none is = absurd (let bad : None ≡ Some e = is in cc bad)
entry-undoubted u e (x ∷ xs) none is = go x.1.doubt refl none (eq_by_cmp uid_cmp u x.0) refl is (λ a b. entry-undoubted u e xs a b)
  where
    go : (d : Option EjectChange) → x.1.doubt ≡ d → is_some (first (filter_map doubt_entry (x ∷ xs))) ≡ false
        → (b : Bool) → eq_by_cmp uid_cmp u x.0 ≡ b → cond b (Some x.1) (value_at uid_cmp u xs) ≡ Some e
        → (is_some (first (filter_map doubt_entry xs)) ≡ false → value_at uid_cmp u xs ≡ Some e → e.doubt ≡ None) → e.doubt ≡ None
    go (Some c) has none b at is later =
        let bad : true ≡ false = sym (rw has refl) ∙ none in
        absurd (cc bad)
    go None has none true at is later =
        let both : Some x.1 ≡ Some e = is in
        let same : x.1 ≡ e = cc both in
        subst (λ (y : Eject). y.doubt ≡ None) same has
    go None has none false at is later = later (rw has at none) is

second-none : {X : Type 0} (xs ys : List X) → is_some (first (xs ++ ys)) ≡ false → is_some (first ys) ≡ false
second-none [] ys h = h
second-none (x ∷ xs) ys h = absurd (let bad : true ≡ false = h in cc bad)

-- what a turn that needs no device call is about
record IsUnkept (s : Site) (r : StoreRequest) : Type 0 where
  settled_ : in_doubt s.number s.node ≡ false
  needs : needs_calls s r ≡ false

is-unkept : (s : Site) (r : StoreRequest) → work_of s r ≡ unkept → IsUnkept s r
is-unkept s r is = by_made (r.made == 0) is
  where
    by_room : (b : Bool) → cond b calls without_room ≡ unkept → ⊥
    by_room true is = cc is
    by_room false is = cc is

    by_need : (d : Bool) → in_doubt s.number s.node ≡ d → d ≡ false → (b : Bool) → needs_calls s r ≡ b
        → cond b (cond (finds_room r.uid r.change s) calls without_room) unkept ≡ unkept → IsUnkept s r
    by_need d at none true need is = absurd (by_room (finds_room r.uid r.change s) is)
    by_need d at none false need is = record { settled_ = at ∙ none; needs = need }

    by_sync : (b : Bool) → cond b reads syncs ≡ unkept → ⊥
    by_sync true is = cc is
    by_sync false is = cc is

    by_doubt : (b : Bool) → in_doubt s.number s.node ≡ b → cond b (cond s.node.synced reads syncs) (first_work s r) ≡ unkept → IsUnkept s r
    by_doubt true at is = absurd (by_sync s.node.synced is)
    by_doubt false at is = by_need false at refl (needs_calls s r) refl is

    by_made : (b : Bool) → cond b (cond (in_doubt s.number s.node) (cond s.node.synced reads syncs) (first_work s r)) calls ≡ unkept
        → IsUnkept s r
    by_made true is = by_doubt (in_doubt s.number s.node) refl is
    by_made false is = absurd (let bad : calls ≡ unkept = is in cc bad)

unkept-now : (s : Site) (r : StoreRequest) → r.change ≡ removal → work_of s r ≡ unkept → IsKeptIn s r.uid false
unkept-now s r removes is = record { at = λ e found. none e found }
  where
    none : (e : Eject) → eject_in s r.uid ≡ Some e → is_kept e ≡ false
    none e found =
        let un = is-unkept s r is in
        let kept : is_some e.kept ≡ false =
        sym (ap (λ o. with_item o (λ (x : Eject). is_some x.kept) false) found)
        ∙ sym (ap (λ c. cond (is_some (kept_of c)) true (is_kept_in s r.uid)) removes) ∙ un.needs in
        let doubt = entry-undoubted r.uid e s.node.ejects
        (second-none (epoch_doubts s.number s.node.epoch_doubt) (filter_map doubt_entry s.node.ejects) un.settled_) found in
        (λ i. kept i || is_some (doubt i))

-- 3. A request ends

unsynced-traffic : (s : Site) → (unsynced s).traffic ≡ s.traffic
unfolding on_node
unsynced-traffic s = refl

doubted-traffic : (r : StoreRequest) (s : Site) → (doubted r s).traffic ≡ s.traffic
unfolding on_eject
doubted-traffic r s = refl

module _ (n mid new : Parts) (m later : Mail) (s : Site) (r : StoreRequest) (sound : IsSoundSite s) (at : IsAt n m s)
    (there : is_some (n.standing r.uid) ≡ true) where
  stays-ended : (x : Site) (why : Status) → Stands n x → x.traffic ≡ s.traffic → Told r.uid r.process why n mid
      → (new ≡ mid) × (later ≡ m) → IsAt new later (request_ended r why x)
  stays-ended x why h quiet told same = record {
    parts = subst (λ y. Stands y (request_ended r why x)) (sym same.0) (ended-stands x r why n mid told h);
    calls = subst (λ y. Carries y (request_ended r why x).traffic) (sym same.1)
        (subst (Carries m) (sym (ended-traffic x r why ∙ quiet)) at.calls);
  }

  full-ends : (p : Option Pick) → Told r.uid r.process status.Full n mid → (new ≡ mid) × (later ≡ m) → (w : Work) → EndsSo w end.Full p
      → IsAt new later (worked w r end.Full p s)
  full-ends p told same syncs ends = absurd ends
  full-ends p told same reads ends = absurd ends
  full-ends p told same unkept ends = absurd ends
  full-ends p told same without_room ends = stays-ended s status.Full at.parts refl told same
  full-ends p told same calls ends = absurd ends

  unsynced-stands : Stands n (unsynced s)
  unsynced-stands = stays-on_node n s (λ it. record it { synced = false }) refl refl refl at.parts

  fault-ends : (p : Option Pick) → Told r.uid r.process status.StoreFault n mid → (new ≡ mid) × (later ≡ m) → (w : Work)
      → EndsSo w end.Fault p → IsAt new later (worked w r end.Fault p s)
  fault-ends p told same syncs ends = stays-ended (unsynced s) status.StoreFault unsynced-stands (unsynced-traffic s) told same
  fault-ends p told same reads ends = stays-ended (unsynced s) status.StoreFault unsynced-stands (unsynced-traffic s) told same
  fault-ends p told same unkept ends = absurd ends
  fault-ends p told same without_room ends = absurd ends
  fault-ends p told same calls ends =
      stays-ended (doubted r s) status.StoreFault (doubted-stands n s r at.parts there) (doubted-traffic r s) told same

  done-unkept : Told r.uid r.process status.Ok n mid → (c : EjectChange) → r.change ≡ c → WentIf (is_removal c) r.uid mid new m later
      → work_of s r ≡ unkept → IsAt new later (removed c r.uid (request_ended r status.Ok s))
  done-unkept told (body bytes) is same work = stays-ended s status.Ok at.parts refl told same
  done-unkept told removal is went work = went-unkept n mid new m later s r sound at there told (unkept-now s r is work) went

  done-stored : Told r.uid r.process status.Ok n mid → (c : EjectChange) → r.change ≡ c → WentIf (is_removal c) r.uid mid new m later
      → IsAt new later (removed c r.uid (request_ended r status.Ok (stored r s)))
  done-stored told (body bytes) is same = stays-ended (stored r s) status.Ok
      (stored-stands n s r at.parts there n (alike-same r.uid n) (λ e found. put e ∙ sym there)) (stored-traffic s r) told same
    where
      kept : (e : Eject) (b : Bool) → (b || (is_some (kept_of r.change) || false)) ≡ true
      kept e true = refl
      kept e false = ap (λ c. is_some (kept_of c) || false) is

      put : (e : Eject) → (is_some e.active || (is_some (kept_of r.change) || false)) ≡ true
      put e = kept e (is_some e.active)
  done-stored told removal is went = went-stored n mid new m later s r sound at there told (ap kept_of is) went

  done-ends : (p : Option Pick) → Told r.uid r.process status.Ok n mid → WentIf (is_removal r.change) r.uid mid new m later → (w : Work)
      → work_of s r ≡ w → EndsSo w end.Done p → IsAt new later (worked w r end.Done p s)
  done-ends p told went syncs is ends = absurd ends
  done-ends p told went reads is ends = absurd ends
  done-ends p told went unkept is ends = done-unkept told r.change refl went is
  done-ends p told went without_room is ends = absurd ends
  done-ends p told went calls is ends = done-stored told r.change refl went

  by-end : (e : StoreEnd) (how : RequestEnd) (p : Option Pick) (why : Status) → code_of_end e ≡ Some why → IsShownAs e how
      → Told r.uid r.process why n mid → WentIf (takes_eject (is_removal r.change) e) r.uid mid new m later
      → EndsSo (work_of s r) how p → IsAt new later (worked (work_of s r) r how p s)
  by-end Done how p why code shown told went ends =
      let said : status.Ok ≡ why = cc code in
      rw shown (done-ends p (subst (λ x. Told r.uid r.process x n mid) (sym said) told) went (work_of s r) refl
      (subst (λ h. EndsSo (work_of s r) h p) shown ends))
  by-end Full how p why code shown told went ends =
      let said : status.Full ≡ why = cc code in
      rw shown (full-ends p (subst (λ x. Told r.uid r.process x n mid) (sym said) told) went (work_of s r)
      (subst (λ h. EndsSo (work_of s r) h p) shown ends))
  by-end Fault how p why code shown told went ends =
      let said : status.StoreFault ≡ why = cc code in
      rw shown (fault-ends p (subst (λ x. Told r.uid r.process x n mid) (sym said) told) went (work_of s r)
      (subst (λ h. EndsSo (work_of s r) h p) shown ends))
  by-end Stopped how p why code shown told went ends = absurd shown

-- in the words of the contract
module _ (n mid new : Parts) (m later : Mail) (s : Site) (u : Uid) (process : Option ℕ) (removes : Bool) (sound : IsSoundSite s)
    (at : IsAt n m s) (is : IsFirst u process removes s) where
  pub store-ends : (e : StoreEnd) (why : Status) (how : RequestEnd) (p : Option Pick) (clock : ℕ) (reach : ℕ → Bool)
      → code_of_end e ≡ Some why → IsShownAs e how → Told u process why n mid
      → WentIf (takes_eject removes e) u mid new m later → AllowsAt s (event.Store u clock how p)
      → IsAt new later (site_turn reach (event.Store u clock how p) s)
  store-ends e why how p clock reach code shown told went allows =
      let r = is.request in
      let allowed = subst (λ o. IsSomeAnd o (λ q. AllowsStore s u how p q)) is.is_first allows in
      let told_first : Told r.uid r.process why n mid = subst (λ v. Told v r.process why n mid) (sym is.uid)
      (subst (λ o. Told u o why n mid) (sym is.answers) told) in
      let went_first : WentIf (takes_eject (is_removal r.change) e) r.uid mid new m later =
      subst (λ v. WentIf (takes_eject (is_removal r.change) e) v mid new m later) (sym is.uid)
      (subst (λ b. WentIf (takes_eject b e) u mid new m later) (sym is.asks) went) in
      let there_first : is_some (n.standing r.uid) ≡ true =
      ap (λ v. is_some (n.standing v)) is.uid ∙ first-stands n m s u process removes sound at is in
      subst (IsAt new later) (sym (ap (λ o. with_item o (λ q. worked (work_of s q) q how p s) s) is.is_first))
      (by-end n mid new m later s r sound at there_first e how p why code shown told_first went_first allowed.ends)

-- 4. It goes on

module _ (n : Parts) (m : Mail) (s : Site) (u : Uid) (sound : IsSoundSite s) (at : IsAt n m s) (is : IsFirstOf u s) where
  goes-by : (r : StoreRequest) → is_some (n.standing r.uid) ≡ true → (w : Work) → EndsSo w end.Part None
      → IsAt n m (worked w r end.Part None s)
  unfolding on_node on_eject
  goes-by r there syncs ends =
      record { parts = stays-on_node n s (λ it. record it { synced = true }) refl refl refl at.parts; calls = at.calls }
  goes-by r there reads ends = absurd (cc ends)
  goes-by r there unkept ends = absurd ends
  goes-by r there without_room ends = absurd ends
  goes-by r there calls ends = record {
    parts = stays-on_node n (doubted r s) (λ it. record it { requests = more_made it.requests }) refl refl refl
        (doubted-stands n s r at.parts there);
    calls = at.calls;
  }

  -- nothing changes of the parts and the calls
  pub store-goes-on : (clock : ℕ) (reach : ℕ → Bool) → AllowsAt s (event.Store u clock end.Part None)
      → IsAt n m (site_turn reach (event.Store u clock end.Part None) s)
  store-goes-on clock reach allows =
      let r = is.request in
      let allowed = subst (λ o. IsSomeAnd o (λ q. AllowsStore s u end.Part None q)) is.is_first allows in
      let kept = subst (λ v. KeepsUnasked r.process v s) (sym is.uid) is.kept in
      subst (IsAt n m) (sym (ap (λ o. with_item o (λ q. worked (work_of s q) q end.Part None s) s) is.is_first))
      (goes-by r (request-there n s r sound at.parts is.is_first kept) (work_of s r) allowed.ends)
