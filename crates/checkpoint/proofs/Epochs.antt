-- The epoch of a node: read at a boot, and the next one put.
use Rattle.std.proofs.Common.{◌≡◌, inl, inr, ℕ, ◌+◌, ◌≤◌, Bool, true, false, cond, List, [], ◌∷◌, ◌++◌, length, Option, None, Some}
use Rattle.std.proofs.Common.{Result, Ok, Err, is_some, refl, sym, ap, subst, ◌∙◌, arith}
use Rattle.std.specs.Prelude.{IsTrue, IfSome, IfErr}
use Rattle.std.specs.FinMap as finite
use Rattle.std.specs.Ordering.{is_eq}
use Rattle.std.proofs.lemmas.Cmp.{tied_itself}
use Rattle.std.proofs.lemmas.Bool.{false≢true}
use Rattle.capability.specs.declared.Uid.{Uid}
use Rattle.capability.proofs.Uids.{uid_cmp_total, uid_cmp-IsAntisymmetric}
use Rattle.eden_model.specs.Map.{with_item, same_uid, value_at, uid_cmp}
use Rattle.eden_model.proofs.Laws.{eq-same}
use Rattle.eden_disk.specs.Told.{Told, contents, LeavesOnly, EachMoment}
use Rattle.eden_disk.specs.Calls.{Counts, Fine, AtFault, AtStop}
use Rattle.eden_disk.specs.Timed.{Timed}
use Rattle.passive_store.specs.Acts.{DiskCall, CallsTold}
use Rattle.passive_store.specs.declared.store.Pick.{Pick}
use Rattle.passive_store.specs.declared.store.Pick.TheVariants as pick
use Rattle.passive_store.specs.declared.store.StoreRefusal.{StoreRefusal}
use Rattle.passive_store.specs.declared.store.StoreRefusal.TheVariants as refusal
use Rattle.passive_store.specs.Kept.{Layout, Kept, Idle, Busy, Unsettled, kept_after, body_at, doubt_in, change_in, changes_in, job_left}
use Rattle.passive_store.specs.Kept.{settled as settled_kept, work_settled, IsFresh, IsDiskRefusal, LeavesKept, StandsThrough, Ran}
use Rattle.passive_store.specs.Kept.{KeepsTelling, end_of_store, work_finished, kept_finished, calls_left}
use Rattle.passive_store.specs.Kept.{finds_room as finds_shown_room}
use Rattle.passive_store.specs.Kept.{StoreChange, Stands as StandsKept}
use Rattle.journal.specs.EjectChange.{body}
use Rattle.journal.specs.declared.event.BootEnd.TheVariants as end
use Rattle.journal.specs.World.{Site, Eject, eject_in, on_node}
use Rattle.journal.specs.Sites.{HasEpochs}
use Rattle.journal.specs.Ejects.{stored_epoch}
use Rattle.journal.specs.Settling.{epoch_uid, epoch_bytes, settled, settled_eject, finds_room}
use Rattle.journal.specs.Boots.{boot_turn}
use Rattle.journal.specs.Standing.{Stands, with_changes}
use Rattle.history_laws.proofs.UidLaw.{same-each}
use Rattle.checkpoint.specs.Changes.{Facts, facts_of}
use Rattle.checkpoint.specs.Found.{entry_of, standing_of}
use Rattle.checkpoint.proofs.Found.{kept-moments, kept-left}
use Rattle.checkpoint.specs.Stretch.{Stretch}
use Rattle.checkpoint.specs.StoreStands.{state_of, NodeOnDisk, MapStands, bytes_of_epoch}
use Rattle.passive_store.specs.Seen.{Seen, DiskSeen, Begins, Finishes}
use Rattle.checkpoint.proofs.StoreCalls.{ReadsOnce}
use Rattle.checkpoint.specs.Booting.{OpensTo, epoch_entry, IsPut, IsPutInDoubt, PutsTo}
use Rattle.checkpoint.proofs.Throughout.{stands-more}
use Rattle.checkpoint.proofs.Stretches.{stretch-join}
use Rattle.checkpoint.proofs.CallStretches.{some-calls}
use Rattle.checkpoint.proofs.MapStands.{state-is}
use Rattle.checkpoint.proofs.Changed.{apart, bodies-after}
use Rattle.checkpoint.proofs.Frames.{room-is}

-- 1. A get, where nothing is in doubt, changes nothing that stands

kept-idle : (p : Option Pick) (s : Kept) → settled_kept p Idle s ≡ s
kept-idle None s = refl
kept-idle (Some pick.Old) s = refl
kept-idle (Some pick.New) s = refl

pub reads-on : (layout : Layout) (n more : ℕ) (s : Site) (old : Told) (before : ℕ) (p : Option Pick) (x y : Seen)
    → OpensTo layout n more s old before p x → ReadsOnce layout n x y → OpensTo layout n more s old before p y
reads-on layout n more s old before p x y o r = record {
  picked = o.picked;
  idle = idle;
  keeps = subst (λ (z : Kept). MapStands n (settled p s) z None) (sym same) o.keeps;
  its_size = o.its_size ∙ sym r.size;
  told = subst (λ k. more ≤ k) (sym r.more) o.told;
  stands = stands;
  disk = λ put. stretch-join (Stands layout n (state_of n s.node)) (Stands layout n (with_changes put (state_of n s.node))) Q Q Q
      (Stands layout n (with_changes put (state_of n s.node))) old x.disk.told y.disk.told before x.disk.counts.clock y.disk.counts.clock
      (o.disk put) reading (λ image is. is) (λ image is. o.back put image
      (stands-more layout n put (state_of n (settled p s).node) image is));
  back = o.back;
}
  where
    Q : List ℕ → Type 0
    Q = Stands layout n (state_of n (settled p s).node)

    idle : y.work ≡ Idle
    idle = r.work ∙ ap (work_settled r.found) o.idle

    same : y.kept ≡ x.kept
    same = r.kept ∙ ap (λ w. settled_kept r.found w x.kept) o.idle ∙ kept-idle r.found x.kept

    stands : LeavesKept layout n y.more y.kept Idle y.disk.told
    stands = subst (λ w. LeavesKept layout n y.more y.kept w y.disk.told) idle r.stands

    here : state_of n (settled p s).node ≡ standing_of x.kept []
    here = state-is n (settled p s) x.kept None o.keeps

    reading : Stretch (Stands layout n (state_of n (settled p s).node)) (Stands layout n (state_of n (settled p s).node))
        (Stands layout n (state_of n (settled p s).node)) x.disk.told x.disk.counts.clock y.disk.told y.disk.counts.clock
    reading = some-calls _ _ _ r.calls x.disk.told y.disk.told x.disk.counts.clock y.disk.counts.clock r.ended r.timed r.told
        (subst (λ z. EachMoment (Stands layout n z) x.disk.told y.disk.told) (sym here)
        (kept-moments layout n x.more x.kept [] x.disk.told y.disk.told
        (subst (λ w. StandsThrough layout n x.more x.kept (changes_in (doubt_in w)) x.disk.told y.disk.told) o.idle r.moments)))
        (λ image left. subst (λ z. Stands layout n z image) (sym here)
        (kept-left layout n y.more x.kept [] y.disk.told
        (subst (λ (z : Kept). LeavesKept layout n y.more z Idle y.disk.told) same stands) image left))
        (λ stop image is. is) (λ level image is. is)

-- 2. The number in its bytes

-- what is kept under the reserved uid is the epoch
pub stored-is : (layout : Layout) (n more : ℕ) (s : Site) (old : Told) (before : ℕ) (p : Option Pick) (x : Seen) (e : ℕ)
    → OpensTo layout n more s old before p x → IfSome (settled p s).node.epoch (λ k. k ≤ 4294967295)
    → ((k : ℕ) → k ≤ 4294967295 → body_at x.kept (epoch_uid n) ≡ Some (epoch_bytes k) → e ≡ k)
    → (body_at x.kept (epoch_uid n) ≡ None → e ≡ 0) → e ≡ stored_epoch (settled p s).node
stored-is layout n more s old before p x e o fits some none = go (settled p s).node.epoch fits o.keeps.epoch
  where
    go : (k : Option ℕ) → IfSome k (λ j. j ≤ 4294967295) → finite.get x.kept.bodies (epoch_uid n) ≡ bytes_of_epoch k
        → e ≡ with_item k (λ j. j) 0
    go None f is = none is
    go (Some k) f is = some k f is

pub is-stored : (layout : Layout) (n more : ℕ) (s : Site) (old : Told) (before : ℕ) (p : Option Pick) (x : Seen)
    → OpensTo layout n more s old before p x → is_some (body_at x.kept (epoch_uid n)) ≡ true → IsTrue (is_some (settled p s).node.epoch)
is-stored layout n more s old before p x o held = go (settled p s).node.epoch o.keeps.epoch
  where
    go : (k : Option ℕ) → finite.get x.kept.bodies (epoch_uid n) ≡ bytes_of_epoch k → IsTrue (is_some k)
    go None is = absurd (let bad : false ≡ true = ap (λ (b : Option (List ℕ)). is_some b) (sym is) ∙ held in cc bad)
    go (Some k) is = refl

-- 3. The node behind the put

-- the change that puts an epoch
abbrev pub epoch_change : Layout → ℕ → ℕ → ℕ → StoreChange
epoch_change layout n e mark = record {
  uid = epoch_uid n;
  body = Some (epoch_bytes e);
  mark = mark;
  wrote = layout.grows
      (Some (epoch_bytes e));
}

-- what stays of the site in a settling
pub settled-number : (p : Option Pick) (s : Site) → (settled p s).number ≡ s.number
unfolding on_node
settled-number None s = refl
settled-number (Some k) s = refl

pub settled-layout : (p : Option Pick) (s : Site) → (settled p s).layout ≡ s.layout
unfolding on_node
settled-layout None s = refl
settled-layout (Some k) s = refl

pub settled-size : (p : Option Pick) (s : Site) → (settled p s).node.size ≡ s.node.size
unfolding on_node
settled-size None s = refl
settled-size (Some k) s = refl

same-reserved : (n : ℕ) → same_uid (epoch_uid n) (epoch_uid n) ≡ true
same-reserved n = ap is_eq (tied_itself uid_cmp_total (epoch_uid n))

pub map-up : (n : ℕ) (s : Site) (p : Option Pick) (e : ℕ) (mark : ℕ) (kept : Kept) → MapStands n (settled p s) kept None
    → MapStands n (boot_turn e end.Up p true s) (kept_after (epoch_change s.layout n e mark) kept) None
unfolding on_node
map-up n s p e mark kept m = record {
  undamaged = m.undamaged;
  not_untold = m.not_untold;
  ordered = m.ordered;
  facts = λ u h. m.facts u h ∙ ap (λ b. (b, None))
      (sym (bodies-after (epoch_uid n) u (Some (epoch_bytes e)) kept.bodies
      ∙ ap (λ t. cond t (Some (epoch_bytes e)) (finite.get kept.bodies u)) (apart u (epoch_uid n) h)));
  epoch = bodies-after (epoch_uid n) (epoch_uid n) (Some (epoch_bytes e)) kept.bodies
      ∙ ap (λ t. cond t (Some (epoch_bytes e)) (finite.get kept.bodies (epoch_uid n))) (same-reserved n);
  epoch_doubt = m.epoch_doubt;
  ledger = ap (λ l. l ++ s.layout.grows (Some (epoch_bytes e))) m.ledger;
  wrote = tt;
}

pub map-in-doubt : (n : ℕ) (s : Site) (p : Option Pick) (e : ℕ) (mark : ℕ) (kept : Kept) → MapStands n (settled p s) kept None
    → MapStands n (boot_turn e end.DiskFault p true s) kept (Some (epoch_change s.layout n e mark))
unfolding on_node
map-in-doubt n s p e mark kept m = record {
  undamaged = m.undamaged;
  not_untold = m.not_untold;
  ordered = m.ordered;
  facts = λ u h. m.facts u h ∙ ap (λ t. (finite.get kept.bodies u, cond t (Some (body (epoch_bytes e))) None))
      (sym (apart u (epoch_uid n) h));
  epoch = m.epoch;
  epoch_doubt = ap (λ t. cond t (Some (body (epoch_bytes e))) None) (same-reserved n);
  ledger = m.ledger;
  wrote = ap (λ (l : Layout). l.grows (Some (epoch_bytes e))) (sym (settled-layout p s));
}

-- 4. The put: it is begun, and its calls are made

pub record PutsOnce (S : Type 0) (layout : Layout) (n e : ℕ) (x y : Seen) (result : Result S StoreRefusal) : Type 0 where
  pub change : StoreChange
  pub job : List DiskCall
  pub change_is : change ≡ epoch_change layout n e change.mark
  pub some : 2 ≤ length job
  pub room : IsTrue (finds_shown_room layout x.disk.counts.size x.kept (epoch_uid n) (Some (epoch_bytes e)))
  pub fresh : IsFresh change x.kept
  pub told : x.more ≤ y.more + 1
  pub mid : ℕ
  pub ran : Ran 0 (length job) result x.disk.counts y.disk.counts
  pub timed : Timed x.disk.counts.clock x.disk.told y.disk.counts.clock y.disk.told
  pub only : IfErr result IsDiskRefusal
  pub order : CallsTold job x.disk.told y.disk.told (end_of_store result)
  pub work : y.work ≡ work_finished (Busy change 0 job) result
  pub kept : y.kept ≡ kept_finished (Busy change 0 job) x.kept result
  pub stands : LeavesKept layout n y.more y.kept y.work y.disk.told
  pub moments : StandsThrough layout n mid x.kept (change ∷ []) x.disk.told y.disk.told

-- a put whose calls were all made raised the clock
rise-of : {S : Type 0} (calls : ℕ) (r : Result S StoreRefusal) (x y : Counts) → 2 ≤ calls → IfErr r IsDiskRefusal → Ran 0 calls r x y
    → end_of_store r ≡ Fine
    → y.clock ≡ x.clock → ⊥
rise-of calls (Ok done) x y some only ran fine level = omega (arith, some, ran.number, ran.counts.clock, ran.counts.counted, level)
rise-of calls (Err refusal.Failed) x y some only ran fine level = let bad : AtFault ≡ Fine = fine in cc bad
rise-of calls (Err refusal.Stopped) x y some only ran fine level = let bad : AtStop ≡ Fine = fine in cc bad
rise-of calls (Err refusal.Full) x y some only ran fine level = elim only [ inl bad ↦ cc bad | inr bad ↦ cc bad ]
rise-of calls (Err (refusal.Damaged place)) x y some only ran fine level = elim only [ inl bad ↦ cc bad | inr bad ↦ cc bad ]
rise-of calls (Err refusal.OutOfMemory) x y some only ran fine level = elim only [ inl bad ↦ cc bad | inr bad ↦ cc bad ]

-- the whole boot up to there is one stretch: the opening, and the put
put-stretch : {S : Type 0} (layout : Layout) (n more e : ℕ) (s next : Site) (old : Told) (before : ℕ) (p : Option Pick) (x y : Seen)
    (r : Result S StoreRefusal) (d : Option StoreChange) → OpensTo layout n more s old before p x → (f : PutsOnce S layout n e x y r)
    → MapStands n next y.kept d → LeavesOnly (StandsKept layout n y.more y.kept (changes_in d)) (contents y.disk.told)
    → ((end_of_store r ≡ Fine → ⊥) → (y.kept ≡ x.kept) × (d ≡ Some f.change))
    → NodeOnDisk layout n s.node (epoch_entry n e ∷ []) next.node old before y.disk.told y.disk.counts.clock
put-stretch layout n more e s next old before p x y r d o f k stands stopped =
    stretch-join (Stands layout n (state_of n s.node)) (Stands layout n (with_changes (epoch_entry n e ∷ []) (state_of n s.node)))
    (Stands layout n (state_of n (settled p s).node))
    (Stands layout n (with_changes (epoch_entry n e ∷ []) (state_of n (settled p s).node))) (Stands layout n (state_of n next.node))
    (Stands layout n (with_changes (epoch_entry n e ∷ []) (state_of n s.node)))
    old x.disk.told y.disk.told before x.disk.counts.clock y.disk.counts.clock (o.disk (epoch_entry n e ∷ [])) putting (λ image is. is)
    (o.back (epoch_entry n e ∷ []))
  where
    here : state_of n (settled p s).node ≡ standing_of x.kept []
    here = state-is n (settled p s) x.kept None o.keeps

    there : state_of n next.node ≡ standing_of y.kept (changes_in d)
    there = state-is n next y.kept d k

    entry_is : entry_of f.change ≡ epoch_entry n e
    entry_is = ap entry_of f.change_is

    with_it : with_changes (epoch_entry n e ∷ []) (state_of n (settled p s).node) ≡ standing_of x.kept (f.change ∷ [])
    with_it = ap (with_changes (epoch_entry n e ∷ [])) here ∙ sym (ap (λ c. with_changes (c ∷ []) (standing_of x.kept [])) entry_is)

    putting : Stretch (Stands layout n (state_of n (settled p s).node))
        (Stands layout n (with_changes (epoch_entry n e ∷ []) (state_of n (settled p s).node)))
        (Stands layout n (state_of n next.node)) x.disk.told x.disk.counts.clock y.disk.told y.disk.counts.clock
    putting = some-calls _ _ _ f.job x.disk.told y.disk.told x.disk.counts.clock y.disk.counts.clock (end_of_store r) f.timed f.order
        (subst (λ z. EachMoment (Stands layout n z) x.disk.told y.disk.told) (sym with_it)
        (kept-moments layout n f.mid x.kept (f.change ∷ []) x.disk.told y.disk.told f.moments))
        (λ image left. subst (λ z. Stands layout n z image) (sym there)
        (kept-left layout n y.more y.kept (changes_in d) y.disk.told stands image left))
        (λ stop image is. behind (stopped (λ fine. let bad : AtStop ≡ Fine = sym stop ∙ fine in cc bad)) image is)
        (λ level image is. behind (stopped (not-fine level)) image
        (stands-more layout n (epoch_entry n e ∷ []) (state_of n (settled p s).node) image is))
      where
        behind : (y.kept ≡ x.kept) × (d ≡ Some f.change) → (image : List ℕ)
            → Stands layout n (with_changes (epoch_entry n e ∷ []) (state_of n (settled p s).node)) image
            → Stands layout n (state_of n next.node) image
        behind z image is = subst (λ w. Stands layout n w image) (sym there)
            (subst (λ (c : Option StoreChange). Stands layout n (standing_of y.kept (changes_in c)) image) (sym z.1)
            (subst (λ (c : Kept). Stands layout n (standing_of c (f.change ∷ [])) image) (sym z.0)
            (subst (λ w. Stands layout n w image) with_it is)))

        not-fine : y.disk.counts.clock ≡ x.disk.counts.clock → end_of_store r ≡ Fine → ⊥
        not-fine level fine = rise-of (length f.job) r x.disk.counts y.disk.counts f.some f.only f.ran fine level

has-room : {S : Type 0} (layout : Layout) (n more e : ℕ) (s : Site) (old : Told) (before : ℕ) (p : Option Pick) (x y : Seen)
    (r : Result S StoreRefusal) → (settled p s).number ≡ n → (settled p s).layout ≡ layout → (settled p s).node.size ≡ x.disk.counts.size
    → OpensTo layout n more s old before p x → PutsOnce S layout n e x y r
    → IsTrue (finds_room (epoch_uid n) (body (epoch_bytes e)) (settled p s))
has-room layout n more e s old before p x y r number its_layout its_size o f =
    room-is layout n x.disk.counts.size (settled p s) x.kept None (epoch_uid n) (body (epoch_bytes e)) number its_layout its_size o.keeps
    ∙ f.room

pub no-room : (layout : Layout) (n more e : ℕ) (s : Site) (old : Told) (before : ℕ) (p : Option Pick) (x : Seen) → (settled p s).number ≡ n
    → (settled p s).layout ≡ layout → (settled p s).node.size ≡ x.disk.counts.size
    → OpensTo layout n more s old before p x
    → finds_shown_room layout x.disk.counts.size x.kept (epoch_uid n) (Some (epoch_bytes e)) ≡ false
    → finds_room (epoch_uid n) (body (epoch_bytes e)) (settled p s) ≡ false
no-room layout n more e s old before p x number its_layout its_size o none =
    room-is layout n x.disk.counts.size (settled p s) x.kept None (epoch_uid n) (body (epoch_bytes e)) number its_layout its_size o.keeps
    ∙ none

pub is-put : {S : Type 0} (layout : Layout) (n more e : ℕ) (s : Site) (old : Told) (before : ℕ) (p : Option Pick) (x y : Seen) (done : S)
    → s.layout ≡ layout → (settled p s).number ≡ n → (settled p s).layout ≡ layout → (settled p s).node.size ≡ x.disk.counts.size
    → OpensTo layout n more s old before p x → PutsOnce S layout n e x y (Ok done) → IsPut layout n more s old before p e y
is-put layout n more e s old before p x y done at_s number its_layout its_size o f = record {
  idle = f.work;
  keeps = keeps;
  has_room = has-room layout n more e s old before p x y (Ok done) number its_layout its_size o f;
  its_size = o.its_size ∙ sym f.ran.counts.size;
  told = omega (arith, f.told, o.told);
  stands = stands;
  disk = put-stretch layout n more e s (boot_turn e end.Up p true s) old before p x y (Ok done) None o f keeps stands
      (λ not. absurd (not refl));
}
  where
    made : y.kept ≡ kept_after (epoch_change layout n e f.change.mark) x.kept
    made = f.kept ∙ ap (λ c. kept_after c x.kept) f.change_is

    keeps : MapStands n (boot_turn e end.Up p true s) y.kept None
    keeps = subst (λ (z : Kept). MapStands n (boot_turn e end.Up p true s) z None) (sym made)
        (subst (λ (l : Layout). MapStands n (boot_turn e end.Up p true s) (kept_after (epoch_change l n e f.change.mark) x.kept) None) at_s
        (map-up n s p e f.change.mark x.kept o.keeps))

    stands : LeavesKept layout n y.more y.kept Idle y.disk.told
    stands = subst (λ w. LeavesKept layout n y.more y.kept w y.disk.told) f.work f.stands

pub is-in-doubt : {S : Type 0} (layout : Layout) (n more e : ℕ) (s : Site) (old : Told) (before : ℕ) (p : Option Pick) (x y : Seen)
    (why : StoreRefusal) → s.layout ≡ layout → (settled p s).number ≡ n → (settled p s).layout ≡ layout
    → (settled p s).node.size ≡ x.disk.counts.size
    → OpensTo layout n more s old before p x → PutsOnce S layout n e x y (Err why) → IsPutInDoubt layout n more s old before p e y
is-in-doubt layout n more e s old before p x y why at_s number its_layout its_size o f = record {
  change = f.change;
  work = f.work;
  keeps = keeps;
  has_room = has-room layout n more e s old before p x y (Err why) number its_layout its_size o f;
  its_size = o.its_size ∙ sym f.ran.counts.size;
  fresh = subst (λ (z : Kept). IsFresh f.change z) (sym f.kept) f.fresh;
  told = omega (arith, f.told, o.told);
  stands = stands;
  disk = put-stretch layout n more e s (boot_turn e end.DiskFault p true s) old before p x y (Err why) (Some f.change) o f keeps stands
      (λ not. (f.kept, refl));
}
  where
    keeps : MapStands n (boot_turn e end.DiskFault p true s) y.kept (Some f.change)
    keeps = subst (λ (z : Kept). MapStands n (boot_turn e end.DiskFault p true s) z (Some f.change)) (sym f.kept)
        (subst (λ c. MapStands n (boot_turn e end.DiskFault p true s) x.kept (Some c)) (sym f.change_is)
        (subst (λ (l : Layout). MapStands n (boot_turn e end.DiskFault p true s) x.kept (Some (epoch_change l n e f.change.mark))) at_s
        (map-in-doubt n s p e f.change.mark x.kept o.keeps)))

    stands : LeavesKept layout n y.more y.kept (Unsettled f.change false) y.disk.told
    stands = subst (λ w. LeavesKept layout n y.more y.kept w y.disk.told) f.work f.stands

-- 5. All ends of a put

pub puts-to : (layout : Layout) (n more e : ℕ) (s : Site) (old : Told) (before : ℕ) (p : Option Pick) (x y : Seen)
    (r : Result (Unit {0}) StoreRefusal) → s.number ≡ n → s.layout ≡ layout
    → OpensTo layout n more s old before p x → PutsOnce (Unit {0}) layout n e x y r → PutsTo layout n more s old before p e x r y
puts-to layout n more e s old before p x y r number its_layout o f = go r f
  where
    a : (settled p s).number ≡ n
    a = settled-number p s ∙ number

    b : (settled p s).layout ≡ layout
    b = settled-layout p s ∙ its_layout

    c : (settled p s).node.size ≡ x.disk.counts.size
    c = settled-size p s ∙ o.its_size

    go : (r : Result (Unit {0}) StoreRefusal) → PutsOnce (Unit {0}) layout n e x y r → PutsTo layout n more s old before p e x r y
    go (Ok done) f = is-put layout n more e s old before p x y done its_layout a b c o f
    go (Err refusal.Failed) f = is-in-doubt layout n more e s old before p x y refusal.Failed its_layout a b c o f
    go (Err refusal.Stopped) f = is-in-doubt layout n more e s old before p x y refusal.Stopped its_layout a b c o f
    go (Err refusal.Full) f = absurd (elim f.only [ inl bad ↦ cc bad | inr bad ↦ cc bad ])
    go (Err (refusal.Damaged place)) f = absurd (elim f.only [ inl bad ↦ cc bad | inr bad ↦ cc bad ])
    go (Err refusal.OutOfMemory) f = absurd (elim f.only [ inl bad ↦ cc bad | inr bad ↦ cc bad ])

-- 6. A put that was begun, and the rest of its job

-- a settling takes no epoch away, and brings no Eject
settled-none : (p : Option Pick) (s : Site) → (settled p s).node.epoch ≡ None → s.node.epoch ≡ None
unfolding on_node
settled-none None s is = is
settled-none (Some pick.Old) s is = is
settled-none (Some pick.New) s is = raised s.node.epoch_doubt is
  where
    raised : (d : Option ℕ) → with_item d (λ e. Some e) s.node.epoch ≡ None → s.node.epoch ≡ None
    raised None is = is
    raised (Some e) is = absurd (cc is)

settled-ejects : (p : Option Pick) (s : Site) (u : Uid) → is_some (eject_in (settled p s) u) ≡ is_some (value_at uid_cmp u s.node.ejects)
unfolding on_node
settled-ejects None s u = refl
settled-ejects (Some k) s u = same-each (settled_eject k) s.node.ejects u

-- once the store of a node is opened it keeps an epoch, or nothing
pub opens-telling : (layout : Layout) (n more : ℕ) (s : Site) (old : Told) (before : ℕ) (p : Option Pick) (x : Seen) → HasEpochs s.node
    → OpensTo layout n more s old before p x → KeepsTelling n x.kept
opens-telling layout n more s old before p x fits o = go (settled p s).node.epoch refl
  where
    go : (e : Option ℕ) → (settled p s).node.epoch ≡ e → KeepsTelling n x.kept
    go (Some e) is = inl (ap is_some (o.keeps.epoch ∙ ap bytes_of_epoch is))
    go None is = inr (λ u. none u (same_uid u (epoch_uid n)) refl)
      where
        there : (u : Uid) (b : Bool) → is_some (value_at uid_cmp u s.node.ejects) ≡ b → b ≡ false
        there u false at = refl
        there u true at = absurd (false≢true (sym (ap is_some (settled-none p s is)) ∙ fits.stored_first u at))

        gone : (e : Option Eject) → is_some e ≡ false → e ≡ None
        gone None at = refl
        gone (Some e) at = absurd (false≢true (sym at))

        none : (u : Uid) (b : Bool) → same_uid u (epoch_uid n) ≡ b → body_at x.kept u ≡ None
        none u true same =
            ap (finite.get x.kept.bodies) (eq-same uid_cmp uid_cmp-IsAntisymmetric u (epoch_uid n) same)
            ∙ o.keeps.epoch ∙ ap bytes_of_epoch is
        none u false other =
            sym (ap (λ (f : Facts). f.0) (o.keeps.facts u (λ same. false≢true (sym other ∙ ap (λ v. same_uid v (epoch_uid n)) same
            ∙ same-reserved n))))
            ∙ ap (λ e. (facts_of e).0) (gone (eject_in (settled p s) u)
            (settled-ejects p s u ∙ there u (is_some (value_at uid_cmp u s.node.ejects)) refl))

pub puts-from : (tells obeys : Bool) (layout : Layout) (n e : ℕ) (x m y : Seen) (done : Unit {0}) (r : Result (Unit {0}) StoreRefusal)
    → IsTrue tells → x.node ≡ n
    → x.work ≡ Idle → 1 ≤ x.more → KeepsTelling n x.kept
    → Begins tells layout (record { uid = epoch_uid n; body = Some (epoch_bytes e) }) (Ok done) x m
    → Finishes tells obeys layout r m y → PutsOnce (Unit {0}) layout n e x y r
puts-from tells obeys layout n e x m y done r so node idle told keeps b f = record {
  change = c;
  job = b.calls;
  change_is = refl;
  some = b.bounded.0;
  room = b.room so told;
  fresh = subst (λ (z : Kept). IsFresh c z) kept (subst (λ w. IfSome (change_in w) (λ d. IsFresh d m.kept)) b.work (b.fresh so));
  told = omega (arith, f.more, b.first so (subst (λ k. KeepsTelling k x.kept) (sym node) keeps));
  mid = m.more;
  ran = subst (λ (d : DiskSeen). Ran 0 (length b.calls) r d.counts y.disk.counts) b.disk
      (subst (λ w. Ran 0 (calls_left w) r m.disk.counts y.disk.counts) b.work f.ran);
  timed = subst (λ (d : DiskSeen). Timed d.counts.clock d.told y.disk.counts.clock y.disk.told) b.disk (f.goes.timed so);
  only = f.only;
  order = subst (λ (d : DiskSeen). CallsTold b.calls d.told y.disk.told (end_of_store r)) b.disk
      (subst (λ w. CallsTold (job_left w) m.disk.told y.disk.told (end_of_store r)) b.work (f.order so));
  work = f.work ∙ ap (λ w. work_finished w r) b.work;
  kept = f.kept so ∙ ap (λ w. kept_finished w m.kept r) b.work ∙ ap (λ z. kept_finished (Busy c 0 b.calls) z r) kept;
  stands = subst (λ k. LeavesKept layout k y.more y.kept y.work y.disk.told) (f.goes.node ∙ b.node ∙ node) (f.goes.stands so);
  moments = subst (λ k. StandsThrough layout k m.more x.kept (c ∷ []) x.disk.told y.disk.told) (b.node ∙ node)
      (subst (λ (d : DiskSeen). StandsThrough layout m.node m.more x.kept (c ∷ []) d.told y.disk.told) b.disk
      (subst (λ (z : Kept). StandsThrough layout m.node m.more z (c ∷ []) m.disk.told y.disk.told) kept
      (subst (λ w. StandsThrough layout m.node m.more m.kept (changes_in (change_in w)) m.disk.told y.disk.told) b.work (f.moments so))));
}
  where
    c : StoreChange
    c = epoch_change layout n e b.mark

    kept : m.kept ≡ x.kept
    kept = b.kept so
