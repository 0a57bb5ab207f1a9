-- An activation, in the words of a history.
use Rattle.std.proofs.Common.{◌≡◌, inl, inr, ℕ, zero, suc, Bool, true, false, cond, ◌&&◌, List, Option, None, Some, Result, Ok, Err}
use Rattle.std.proofs.Common.{is_some, refl, sym, ap, subst, ◌∙◌, nat_lt}
use Rattle.std.specs.Prelude.{IsTrue, IsSomeAnd, IfSome, IfErr}
use Rattle.std.specs.Option.{option_map}
use Rattle.std.specs.FinMap as finite
use Rattle.capability.specs.declared.Uid.{Uid}
use Rattle.eden_value.specs.Datum.{Datum}
use Rattle.eden_codec.specs.declared.rep.Rep.{Rep}
use Rattle.eden_codec.specs.Reading.{reading}
use Rattle.eden_codec.specs.Spells.{SpellsRep}
use Rattle.eden_codec.proofs.Whole.{reading_spelled, spelled_reading}
use Rattle.eden_model.specs.Map.{with_item, first, same_uid}
use Rattle.epl_syntax.specs.Edentype.{Edentype}
use Rattle.epl_syntax.specs.Meaning.{started_from}
use Rattle.eden_disk.specs.Told.{contents, Left}
use Rattle.passive_store.specs.declared.store.Pick.{Pick}
use Rattle.passive_store.specs.Kept.{Layout, Kept, Work, Idle, Busy, Unsettled, LeavesKept, IsAnyOf, is_unsettled, worked_on, doubt_in}
use Rattle.passive_store.specs.Kept.{changes_in, body_at, kept_after}
use Rattle.passive_store.specs.Kept.{StoreChange}
use Rattle.passive_store.specs.Layout.{IsLayout}
use Rattle.passive_store.specs.Seen.{Seen}
use Rattle.journal.specs.declared.event.StartEnd.{StartEnd}
use Rattle.journal.specs.declared.event.StartEnd.TheVariants as end
use Rattle.journal.specs.World.{Eject, Site, StoreRequest, eject_in, on_node}
use Rattle.journal.specs.Settling.{first_request, is_working, to_settle, settled, unsynced, settled_eject}
use Rattle.journal.specs.Starts.{start_of, StartsSo, FailsSettling, StartsFrom, is_worked_on, start_settled, AllowsActivate}
use Rattle.history_laws.proofs.KeptTurns.{value-each}
use Rattle.checkpoint.specs.Changes.{facts_of, facts_in}
use Rattle.checkpoint.specs.StoreStands.{RequestsStand, IsUnderWay}
use Rattle.checkpoint.specs.Asked.{StandsNow}
use Rattle.checkpoint.specs.Starting.{MayFail, FindsTo, IsShort, StartsTo}
use Rattle.checkpoint.specs.declared.start.Find.TheVariants as find
use Rattle.checkpoint.proofs.Changed.{apart, bodies-after}
use Rattle.checkpoint.proofs.Starting.{no-pick, unmade-first, start-settles, start-stays}

-- 1. What is kept is within the limit of bodies

pub kept-short : (layout : Layout) (n : ℕ) (t : Site) (requests : List StoreRequest) (x : Seen) (u : Uid) (bytes : List ℕ) → IsLayout layout
    → StandsNow layout n t requests x → is_unsettled x.work ≡ false → (worked_on x.work ≡ Some u → ⊥) → body_at x.kept u ≡ Some bytes
    → IsShort bytes
kept-short layout n t requests x u bytes law h settled_is other is = go x.work refl h.stands
  where
    image : List ℕ
    image = (contents x.disk.told).stable

    left : Left (contents x.disk.told) image
    left = record { size = refl; outside = λ k outside. refl }

    at : (kept : Kept) → layout.map_of n image ≡ Ok kept → body_at kept u ≡ Some bytes → IsShort bytes
    at kept found there = (law.own n image kept found u bytes there).1

    changed : (c : StoreChange) → (Some c.uid ≡ Some u → ⊥) → body_at (kept_after c x.kept) u ≡ Some bytes
    changed c others = bodies-after c.uid u c.body x.kept.bodies
        ∙ ap (λ b. cond b c.body (finite.get x.kept.bodies u)) (apart u c.uid (λ same. others (ap (λ v. Some v) (sym same)))) ∙ is

    go : (w : Work) → x.work ≡ w → LeavesKept layout n x.more x.kept x.work x.disk.told → IsShort bytes
    go Idle work stands =
        let found : layout.map_of n image ≡ Ok x.kept = subst (λ w. IsAnyOf x.kept (changes_in (doubt_in w)) (layout.map_of n image)) work
        (stands image left).found in
        at x.kept found is
    go (Busy c zero calls) work stands =
        let found : layout.map_of n image ≡ Ok x.kept = subst (λ w. IsAnyOf x.kept (changes_in (doubt_in w)) (layout.map_of n image)) work
        (stands image left).found in
        at x.kept found is
    go (Busy c (suc made) calls) work stands =
        elim (subst (λ w. IsAnyOf x.kept (changes_in (doubt_in w)) (layout.map_of n image)) work (stands image left).found) [
          | inl found ↦ at x.kept found is
          | inr found ↦ at (kept_after c x.kept) found.1 (changed c (λ same. other (ap worked_on work ∙ same)))
        ]
    go (Unsettled c synced) work stands = absurd (let bad : true ≡ false = sym (ap is_unsettled work) ∙ settled_is in cc bad)

pub found-short : (layout : Layout) (n : ℕ) (t : Site) (requests : List StoreRequest) (x : Seen) (u : Uid) (found : Option (List ℕ))
    → IsLayout layout
    → StandsNow layout n t requests x → is_unsettled x.work ≡ false → (worked_on x.work ≡ Some u → ⊥) → found ≡ body_at x.kept u
    → IfSome found IsShort
found-short layout n t requests x u None law h settled_is other is = tt
found-short layout n t requests x u (Some bytes) law h settled_is other is = kept-short layout n t requests x u bytes law h settled_is other
    (sym is)

-- at the node of the store, which is the same
pub short-at : (layout : Layout) (n m : ℕ) (t : Site) (requests : List StoreRequest) (x : Seen) (bytes : List ℕ) → m ≡ n
    → StandsNow layout n t requests x
    → (StandsNow layout m t requests x → IsShort bytes) → IsShort bytes
short-at layout n m t requests x bytes same h f = f (subst (λ k. StandsNow layout k t requests x) (sym same) h)

-- 2. What bytes start

pub starts-rep : (types : List Edentype) (bytes : List ℕ) (me : Uid) (rep : Rep) → SpellsRep bytes rep
    → start_of types bytes me ≡ started_from types rep me
starts-rep types bytes me rep spells = ap (λ o. with_item o (λ r. started_from types r me) None) (spelled_reading bytes rep spells)

pub starts-none : (types : List Edentype) (bytes : List ℕ) (me : Uid) → ((rep : Rep) → SpellsRep bytes rep → ⊥)
    → start_of types bytes me ≡ None
starts-none types bytes me none = go (reading bytes) refl
  where
    go : (o : Option Rep) → reading bytes ≡ o → start_of types bytes me ≡ None
    go None is = ap (λ o. with_item o (λ r. started_from types r me) None) is
    go (Some rep) is = absurd (none rep (reading_spelled bytes rep is))

-- 3. An activation that the world allows

-- the store does not work on this Eject
not-worked-on : (layout : Layout) (n : ℕ) (s : Site) (requests : List StoreRequest) (x : Seen) (u : Uid) → StandsNow layout n s requests x
    → (worked_on x.work ≡ Some u → ⊥) → is_worked_on s u ≡ false
not-worked-on layout n s requests x u h other = go x.work refl
  where
    queue : is_worked_on s u ≡ (is_working s.node && with_item (first requests) (λ (r : StoreRequest). same_uid r.uid u) false)
    queue = ap (λ l. is_working s.node && with_item (first l) (λ (r : StoreRequest). same_uid r.uid u) false) h.queue

    idle : is_working s.node ≡ false → is_worked_on s u ≡ false
    idle none = ap (λ b. b && with_item (first_request s.node) (λ (r : StoreRequest). same_uid r.uid u) false) none

    and-false : (b : Bool) → (b && false) ≡ false
    and-false true = refl
    and-false false = refl

    working : is_working s.node ≡ with_item (first requests) (λ (r : StoreRequest). nat_lt 0 r.made) false
    working = ap (λ l. with_item (first l) (λ (r : StoreRequest). nat_lt 0 r.made) false) h.queue

    go : (w : Work) → x.work ≡ w → is_worked_on s u ≡ false
    go Idle is = idle (working ∙ unmade-first requests (subst (λ w. RequestsStand w x.disk.counts.size requests) is h.stand))
    go (Busy c made calls) is =
        let under : IsUnderWay c made calls x.disk.counts.size requests = subst (λ w. RequestsStand w x.disk.counts.size requests) is
        h.stand in
        queue ∙ ap (λ o. is_working s.node && with_item o (λ (r : StoreRequest). same_uid r.uid u) false) under.is_first
        ∙ ap (λ b. is_working s.node && b)
        (apart under.request.uid u (λ same. other (ap worked_on is ∙ ap (λ v. Some v) (sym under.uid ∙ same))))
        ∙ and-false (is_working s.node)
    go (Unsettled c synced) is = idle (working
        ∙ unmade-first requests (subst (λ w. RequestsStand w x.disk.counts.size requests) is h.stand))

-- how an Eject ends by what is kept of it
ends-so : (types : List Edentype) (u : Uid) (how : StartEnd) (o : Option Eject) (e : Eject) (kept : Option (List ℕ)) → o ≡ Some e
    → (facts_of o).0 ≡ kept
    → StartsSo types u kept how → IsSomeAnd o (λ (it : Eject). StartsSo types u it.kept how)
ends-so types u how o e kept is kept_is so = subst (λ o. IsSomeAnd o (λ (it : Eject). StartsSo types u it.kept how)) (sym is)
    (subst (λ k. StartsSo types u k how) (sym kept_is ∙ ap (λ o. (facts_of o).0) is) so)

-- the settling behind which it starts finds the same Ejects as the one of the world
same-settled : (p : Option Pick) (s : Site) (u : Uid) → eject_in (settled p (unsynced s)) u ≡ eject_in (settled p s) u
unfolding on_node
same-settled None s u = refl
same-settled (Some k) s u = refl

settled-there : (k : Pick) (s : Site) (u : Uid) (e : Eject) → eject_in s u ≡ Some e
    → eject_in (settled (Some k) s) u ≡ Some (settled_eject k e)
unfolding on_node
settled-there k s u e is = value-each u (settled_eject k) s.node.ejects ∙ ap (option_map (settled_eject k)) is

starts-from : (s : Site) (u : Uid) (how : StartEnd) (p : Option Pick) (e : Eject) (kept : Option (List ℕ)) → eject_in s u ≡ Some e
    → is_some p ≡ to_settle s
    → (facts_in (start_settled p s) u).0 ≡ kept → StartsSo s.types u kept how → StartsFrom s u (to_settle s) how p
starts-from s u how p e kept there picks is so = go (to_settle s) refl p refl
  where
    go : (b : Bool) → to_settle s ≡ b → (q : Option Pick) → p ≡ q → StartsFrom s u (to_settle s) how p
    go false none q same =
        let unpicked : p ≡ None = no-pick p (picks ∙ none) in
        subst (λ b. StartsFrom s u b how p) (sym none) (
          unpicked,
          ends-so s.types u how (eject_in s u) e kept there (ap (λ t. (facts_in t u).0) (sym (start-stays p s none)) ∙ is) so,
        )
    go true some None same = absurd (let bad : false ≡ true = sym (ap (λ o. is_some o) same) ∙ picks ∙ some in cc bad)
    go true some (Some k) same = subst (λ b. StartsFrom s u b how p) (sym some) (subst (λ o. StartsFrom s u true how o) (sym same)
        (ends-so s.types u how (eject_in (settled (Some k) s) u) (settled_eject k e) kept (settled-there k s u e there)
        (ap (λ o. (facts_of o).0) (sym (ap (λ t. eject_in t u) (start-settles (Some k) s some) ∙ same-settled (Some k) s u))
        ∙ ap (λ o. (facts_in (start_settled o s) u).0) (sym same) ∙ is) so))

-- one that failed
abbrev pub Failing : StartEnd → Type 0
Failing end.Fault = Unit {0}
Failing end.Stop = Unit {0}
Failing _ = ⊥

may-fail : (how : StartEnd) (types : List Edentype) (u : Uid) (bytes : List ℕ) → Failing how → StartsSo types u (Some bytes) how
may-fail end.Fault types u bytes fails = tt
may-fail end.Stop types u bytes fails = tt
may-fail end.Ok types u bytes fails = absurd fails
may-fail end.Gone types u bytes fails = absurd fails
may-fail end.Damaged types u bytes fails = absurd fails

fails-settling : (how : StartEnd) → Failing how → FailsSettling how
fails-settling end.Fault fails = tt
fails-settling end.Stop fails = tt
fails-settling end.Ok fails = absurd fails
fails-settling end.Gone fails = absurd fails
fails-settling end.Damaged fails = absurd fails

fails-from : (s : Site) (u : Uid) (how : StartEnd) (p : Option Pick) (e : Eject) → Failing how → eject_in s u ≡ Some e → MayFail s u p
    → StartsFrom s u (to_settle s) how p
fails-from s u how p e fails there (inl settling) =
    subst (λ b. StartsFrom s u b how p) (sym settling.1)
    (subst (λ o. StartsFrom s u true how o) (sym settling.0) (fails-settling how fails))
fails-from s u how p e fails there (inr reading_it) = go (facts_in (start_settled p s) u).0 refl
  where
    go : (kept : Option (List ℕ)) → (facts_in (start_settled p s) u).0 ≡ kept → StartsFrom s u (to_settle s) how p
    go None is = absurd (let bad : false ≡ true = sym (ap (λ (o : Option (List ℕ)). is_some o) is) ∙ reading_it.1 in cc bad)
    go (Some bytes) is = starts-from s u how p e (Some bytes) there reading_it.0 is (may-fail how s.types u bytes fails)

allowed : (layout : Layout) (n : ℕ) (s : Site) (requests : List StoreRequest) (u : Uid) (x : Seen) (how : StartEnd) (p : Option Pick)
    → StandsNow layout n s requests x → (worked_on x.work ≡ Some u → ⊥)
    → ((e : Eject) → eject_in s u ≡ Some e → StartsFrom s u (to_settle s) how p)
    → (e : Eject) → eject_in s u ≡ Some e → e.active ≡ None → IsTrue (is_some (first e.queued)) → AllowsActivate s u how p e
allowed layout n s requests u x how p h other starts e there passive queued = record {
  is_passive = passive;
  has_queued = queued;
  not_worked_on = not-worked-on layout n s requests x u h other;
  starts = starts e there;
}

-- 4. All ends of an activation

module _ (layout : Layout) (n : ℕ) (s : Site) (requests : List StoreRequest) (u : Uid) (x : Seen) (p : Option Pick) (y : Seen)
    (h : StandsNow layout n s requests x) (other : worked_on x.work ≡ Some u → ⊥) where
  -- what is kept starts it
  pub starts-values : (types : List Edentype) (bytes : List ℕ) (start : Edentype × List Datum) → s.types ≡ types
      → FindsTo layout n s requests u x (find.Bytes bytes) p y → start_of types bytes u ≡ Some start
      → StartsTo layout n s requests u x end.Ok (Some start) p y
  starts-values types bytes start same f is = record {
    allowed = allowed layout n s requests u x end.Ok p h other (λ e there.
        starts-from s u end.Ok p e (Some bytes) there f.0 f.1 (ap (λ (o : Option (Edentype × List Datum)). is_some o) here));
    with_values = (bytes, f.1, here);
    leaves = f.2;
  }
    where
      here : start_of s.types bytes u ≡ Some start
      here = ap (λ ts. start_of ts bytes u) same ∙ is

  -- or starts none
  pub starts-damaged : (types : List Edentype) (bytes : List ℕ) → s.types ≡ types
      → FindsTo layout n s requests u x (find.Bytes bytes) p y → start_of types bytes u ≡ None
      → StartsTo layout n s requests u x end.Damaged None p y
  starts-damaged types bytes same f is = record {
    allowed = allowed layout n s requests u x end.Damaged p h other (λ e there.
        starts-from s u end.Damaged p e (Some bytes) there f.0 f.1 (ap (λ ts. start_of ts bytes u) same ∙ is));
    with_values = tt;
    leaves = f.2;
  }

  pub starts-gone-so : FindsTo layout n s requests u x find.Nothing p y → StartsTo layout n s requests u x end.Gone None p y
  starts-gone-so f = record {
    allowed = allowed layout n s requests u x end.Gone p h other (λ e there. starts-from s u end.Gone p e None there f.0 f.1 tt);
    with_values = tt;
    leaves = f.2;
  }

  pub starts-fault : FindsTo layout n s requests u x find.Fault p y → StartsTo layout n s requests u x end.Fault None p y
  starts-fault f = record {
    allowed = allowed layout n s requests u x end.Fault p h other (λ e there. fails-from s u end.Fault p e tt there f.0);
    with_values = tt;
    leaves = f.1;
  }

  pub starts-stop : FindsTo layout n s requests u x find.Stopped p y → StartsTo layout n s requests u x end.Stop None p y
  starts-stop f = record {
    allowed = allowed layout n s requests u x end.Stop p h other (λ e there. fails-from s u end.Stop p e tt there f.0);
    with_values = tt;
    leaves = f.1;
  }

-- 5. Where there is no memory for what starts, the settling is what was done

pub any-err : {A E : Type 0} (r : Result A E) (P : Type 0) → P → IfErr r (λ e. P)
any-err (Ok a) P p = tt
any-err (Err e) P p = p
