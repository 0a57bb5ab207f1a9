-- What each call of a store shows of a node.
use Rattle.std.proofs.Common.{◌≡◌, ◌⊎◌, inl, inr, ℕ, Bool, true, false, Option, None, Some, is_some, cond, refl}
use Rattle.std.proofs.Common.{sym, ◌∙◌, ap, subst}
use Rattle.std.specs.Prelude.{IsTrue, if◌then◌else◌}
use Rattle.std.specs.Option.{option_map}
use Rattle.std.specs.declared.cmp.Ordering.{Ordering}
use Rattle.std.specs.declared.cmp.Ordering.TheVariants.{Less, Equal, Greater}
use Rattle.std.specs.Ordering.{is_eq, eq_by_cmp}
use Rattle.std.specs.FinMap as finite
use Rattle.std.proofs.lemmas.Cmp.{tied_itself}
use Rattle.capability.specs.declared.Uid.{Uid}
use Rattle.capability.specs.Uids.{uid_cmp, uid_eq}
use Rattle.capability.proofs.Uids.{uid_cmp_total, uid_cmp-IsAntisymmetric}
use Rattle.eden_value.specs.Datum.{Datum}
use Rattle.passive_store.specs.declared.store.Pick.{Pick as StorePick}
use Rattle.passive_store.specs.declared.store.Pick.TheVariants.{Old as StoreOld, New as StoreNew}
use Rattle.passive_store.specs.Kept.{Kept, StoreChange, Work, Idle, Busy, Unsettled, doubt_in, body_at, kept_after, bodies_after, is_busy}
use Rattle.passive_store.specs.Kept.{is_unsettled}
use Rattle.passive_store.specs.Kept.{work_settled, settled}
use Rattle.passive_store.specs.Seen.{Seen}
use Rattle.move_laws.specs.Wander.{Record}
use Rattle.move_laws.specs.World.{changed, Node, Old, New, keeping, doubting, made_of}
use Rattle.move_laws.proofs.Hops.{own-uid, uids?}
use Rattle.eden_move.specs.Records.{record_in}
use Rattle.eden_move.specs.Minds.{Remembered}
use Rattle.eden_move.specs.Shown.{key, IsWanderer, PutsRecord, ShowsDoubt, Shows, IsSettled}

-- 1. Keys

is-equal : (o : Ordering) → is_eq o ≡ true → o ≡ Equal
is-equal Less e = absurd (cc e)
is-equal Equal e = refl
is-equal Greater e = absurd (cc e)

-- wanderers that have one key are one
one-key : (n : ℕ) (u v : Uid) → IsWanderer u → IsWanderer v → key n u ≡ key n v → u ≡ v
one-key n u v a b k i = record {
  node = (k i).epoch;
  epoch = (a.epoch ∙ sym b.epoch) i;
  serial = (k i).serial;
}

-- so keys are told apart as wanderers are
pub key-eq : (n : ℕ) (u v : Uid) → IsWanderer u → IsWanderer v → eq_by_cmp uid_cmp (key n u) (key n v) ≡ uid_eq u v
key-eq n u v a b = go (uids? u v)
  where
    go : (u ≡ v) ⊎ (uid_eq u v ≡ false) → eq_by_cmp uid_cmp (key n u) (key n v) ≡ uid_eq u v
    go (inl e) = subst (λ w. eq_by_cmp uid_cmp (key n u) (key n w) ≡ uid_eq u w) e
        (ap is_eq (tied_itself uid_cmp_total (key n u)) ∙ sym (own-uid u))
    go (inr d) = other (eq_by_cmp uid_cmp (key n u) (key n v)) refl
      where
        other : (t : Bool) → eq_by_cmp uid_cmp (key n u) (key n v) ≡ t → eq_by_cmp uid_cmp (key n u) (key n v) ≡ uid_eq u v
        other true e =
            let same = one-key n u v a b (uid_cmp-IsAntisymmetric (key n u) (key n v) (is-equal (uid_cmp (key n u) (key n v)) e)) in
            absurd (cc (sym (own-uid u) ∙ ap (uid_eq u) same ∙ d))
        other false e = e ∙ sym d

-- 2. What is kept behind a put

after-put : (n : ℕ) (u : Uid) (r : Record Datum) (c : StoreChange) (k : Kept) (p : PutsRecord n c u r) (v : Uid) → IsWanderer v
    → body_at (kept_after c k) (key n v) ≡ cond (uid_eq v u) (Some p.body) (body_at k (key n v))
after-put n u r c k p v w =
    ap (λ o. finite.get (bodies_after c.uid o k.bodies) (key n v)) p.body_is
    ∙ ap (λ q. finite.get (finite.insert k.bodies q p.body) (key n v)) p.uid
    ∙ finite.get-insert uid_cmp_total k.bodies (key n u) p.body (key n v)
    ∙ ap (λ t. cond t (Some p.body) (body_at k (key n v))) (key-eq n v u w p.wanderer)

pub kept-put : (n : ℕ) (u : Uid) (r : Record Datum) (c : StoreChange) (k : Kept) → PutsRecord n c u r
    → (f : Uid → Option (Option (Record Datum)))
    → ((v : Uid) → IsWanderer v → f v ≡ option_map record_in (body_at k (key n v)))
    → (v : Uid) → IsWanderer v → changed u (Some (Some r)) f v ≡ option_map record_in (body_at (kept_after c k) (key n v))
kept-put n u r c k p f is v w = go (uid_eq v u) ∙ ap (option_map record_in) (sym (after-put n u r c k p v w))
  where
    go : (t : Bool) → (if t then Some (Some r) else f v) ≡ option_map record_in (cond t (Some p.body) (body_at k (key n v)))
    go true = ap Some (sym p.spells)
    go false = is v w

-- 3. The same store, seen anew

-- what is shown stays where node and what is kept do, and the doubt is that of the node
pub shows-same : (old new : Seen) (m : Uid → Option Remembered) (x : Node Datum) → new.node ≡ old.node → new.kept ≡ old.kept
    → ShowsDoubt old.node (doubt_in new.work) x.doubt → Shows old m x → Shows new m x
shows-same old new m x node kept doubt s = record {
  kept = λ u w. s.kept u w ∙ ap (λ k. option_map record_in (body_at k (key old.node u))) (sym kept)
      ∙ ap (λ n. option_map record_in (body_at new.kept (key n u))) (sym node);
  doubt = subst (λ n. ShowsDoubt n (doubt_in new.work) x.doubt) (sym node) doubt;
  active = s.active;
  memory = s.memory;
  fit = s.fit;
}

-- with another doubt
pub shows-doubt : (s : Seen) (m : Uid → Option Remembered) (x : Node Datum) (w : Work) (d : Option (Uid × Record Datum))
    → ShowsDoubt s.node (doubt_in w) d → Shows s m x → Shows (record s { work = w }) m (doubting d x)
shows-doubt s m x w d is z = record { kept = z.kept; doubt = is; active = z.active; memory = z.memory; fit = z.fit }

-- with one more record
pub shows-put : (s : Seen) (m : Uid → Option Remembered) (x : Node Datum) (c : StoreChange) (u : Uid) (r : Record Datum)
    → PutsRecord s.node c u r
    → Shows s m x → Shows (record s { kept = kept_after c s.kept }) m (keeping u r x)
shows-put s m x c u r p z = record {
  kept = kept-put s.node u r c s.kept p x.kept z.kept;
  doubt = z.doubt;
  active = z.active;
  memory = z.memory;
  fit = z.fit;
}

-- 4. A settling

no-doubt : (n : ℕ) (d : Option (Uid × Record Datum)) → ShowsDoubt n None d → d ≡ None
no-doubt n None s = refl
no-doubt n (Some d) s = absurd s

-- a store without work shows a node without doubt
pub idle-none : (s : Seen) (m : Uid → Option Remembered) (x : Node Datum) → s.work ≡ Idle → Shows s m x → x.doubt ≡ None
idle-none s m x idle z = no-doubt s.node x.doubt (subst (λ w. ShowsDoubt s.node (doubt_in w) x.doubt) idle z.doubt)

pub settled-ok : (old new : Seen) (m : Uid → Option Remembered) (x : Node Datum) → new.node ≡ old.node → is_busy old.work ≡ false
    → is_some new.picked ≡ is_unsettled old.work → new.work ≡ work_settled new.picked old.work
    → new.kept ≡ settled new.picked old.work old.kept
    → Shows old m x → IsSettled x new m
settled-ok old new m x node free pick work kept s = go old.work new.picked x.doubt refl free pick work kept s.doubt
  where
    to-none : new.work ≡ Idle → (y : Node Datum) → y.doubt ≡ None → ShowsDoubt old.node (doubt_in new.work) y.doubt
    to-none idle y none = subst (λ w. ShowsDoubt old.node (doubt_in w) y.doubt) (sym idle) (subst (ShowsDoubt old.node None) (sym none) tt)

    -- the store, as it was but for its work
    at-rest : Seen
    at-rest = record old { work = Idle }

    go : (w : Work) (p : Option StorePick) (d : Option (Uid × Record Datum)) → x.doubt ≡ d → is_busy w ≡ false → is_some p ≡ is_unsettled w
        → new.work ≡ work_settled p w → new.kept ≡ settled p w old.kept → ShowsDoubt old.node (doubt_in w) d → IsSettled x new m
    go Idle None None none free is work kept doubt = record {
      pick = None;
      settles = ap is_some (sym none);
      none = none;
      up = refl;
      shows = shows-same old new m x node kept (to-none work x none) s;
    }
    go Idle None (Some d) none free is work kept doubt = absurd doubt
    go Idle (Some p) d none free is work kept doubt = absurd (cc is)
    go (Busy c made left) p d none free is work kept doubt = absurd (cc free)
    go (Unsettled c synced) None d none free is work kept doubt = absurd (cc is)
    go (Unsettled c synced) (Some p) None none free is work kept doubt = absurd doubt
    go (Unsettled c synced) (Some StoreOld) (Some d) some free is work kept doubt = record {
      pick = Some Old;
      settles = ap is_some (sym some);
      none = refl;
      up = refl;
      shows = shows-same at-rest new m (doubting None x) node kept (to-none work (doubting None x) refl)
          (shows-doubt old m x Idle None tt s);
    }
    go (Unsettled c synced) (Some StoreNew) (Some d) some free is work kept doubt = record {
      pick = Some New;
      settles = ap is_some (sym some);
      none = ap (λ o. (made_of o x).doubt) some;
      up = ap (λ o. (made_of o x).up) some;
      shows = subst (λ o. Shows new m (made_of o x)) (sym some)
          (shows-same (record at-rest { kept = kept_after c old.kept }) new m (doubting None (keeping d.0 d.1 x)) node kept
          (to-none work (doubting None (keeping d.0 d.1 x)) refl)
          (shows-doubt (record old { kept = kept_after c old.kept }) m (keeping d.0 d.1 x) Idle None tt
          (shows-put old m x c d.0 d.1 doubt s)));
    }

-- a settling that was refused leaves the doubt
pub settled-err : (old new : Seen) (m : Uid → Option Remembered) (x : Node Datum) → new.node ≡ old.node → IsTrue (is_unsettled old.work)
    → is_some new.picked ≡ false → new.work ≡ work_settled new.picked old.work → new.kept ≡ settled new.picked old.work old.kept
    → Shows old m x → IsTrue (is_some x.doubt) × Shows new m x
settled-err old new m x node unsettled pick work kept s = go old.work new.picked x.doubt refl unsettled pick work kept s.doubt
  where
    go : (w : Work) (p : Option StorePick) (d : Option (Uid × Record Datum)) → x.doubt ≡ d → IsTrue (is_unsettled w) → is_some p ≡ false
        → new.work ≡ work_settled p w → new.kept ≡ settled p w old.kept → ShowsDoubt old.node (doubt_in w) d
        → IsTrue (is_some x.doubt) × Shows new m x
    go Idle p d some is none work kept doubt = absurd (cc is)
    go (Busy c made left) p d some is none work kept doubt = absurd (cc is)
    go (Unsettled c synced) (Some p) d some is none work kept doubt = absurd (cc none)
    go (Unsettled c synced) None None some is none work kept doubt = absurd doubt
    go (Unsettled c synced) None (Some d) some is none work kept doubt = (
      subst (λ o. IsTrue (is_some o)) (sym some) refl,
      shows-same old new m x node kept
          (subst (λ w. ShowsDoubt old.node (doubt_in w) x.doubt) (sym work) (subst (ShowsDoubt old.node (Some c)) (sym some) doubt)) s,
    )

-- 5. A read

pub settled-idle : (p : Option StorePick) (k : Kept) → settled p Idle k ≡ k
settled-idle None k = refl
settled-idle (Some StoreOld) k = refl
settled-idle (Some StoreNew) k = refl

pub read-shows : (old new : Seen) (m : Uid → Option Remembered) (x : Node Datum) → old.work ≡ Idle → new.node ≡ old.node
    → new.work ≡ work_settled new.picked old.work → new.kept ≡ settled new.picked old.work old.kept → Shows old m x
    → (new.work ≡ Idle) × Shows new m x
read-shows old new m x idle node work kept s =
    let w : new.work ≡ Idle = work ∙ ap (work_settled new.picked) idle in (
      w,
      shows-same old new m x node (kept ∙ ap (λ o. settled new.picked o old.kept) idle ∙ settled-idle new.picked old.kept)
          (subst (λ o. ShowsDoubt old.node (doubt_in o) x.doubt) (idle ∙ sym w) s.doubt) s,
    )

-- 6. A put

pub put-shows : (old new : Seen) (m : Uid → Option Remembered) (x : Node Datum) (c : StoreChange) (u : Uid) (r : Record Datum)
    → PutsRecord old.node c u r → old.work ≡ Idle → new.node ≡ old.node → new.work ≡ Idle → new.kept ≡ kept_after c old.kept → Shows old m x
    → Shows new m (keeping u r x)
put-shows old new m x c u r p idle node work kept s = shows-same (record old { kept = kept_after c old.kept }) new m
    (keeping u r x) node kept
    (subst (λ o. ShowsDoubt old.node (doubt_in o) x.doubt) (idle ∙ sym work) s.doubt) (shows-put old m x c u r p s)

pub cut-shows : (old new : Seen) (m : Uid → Option Remembered) (x : Node Datum) (c : StoreChange) (u : Uid) (r : Record Datum)
    → PutsRecord old.node c u r → new.node ≡ old.node → new.work ≡ Unsettled c false → new.kept ≡ old.kept → Shows old m x
    → Shows new m (doubting (Some (u, r)) x)
cut-shows old new m x c u r p node work kept s = shows-same (record old { work = Unsettled c false }) new m
    (doubting (Some (u, r)) x) node kept
    (subst (λ o. ShowsDoubt old.node (doubt_in o) (Some (u, r))) (sym work) p)
    (shows-doubt old m x (Unsettled c false) (Some (u, r)) p s)

pub same-shows : (old new : Seen) (m : Uid → Option Remembered) (x : Node Datum) → old.work ≡ Idle → new.node ≡ old.node → new.work ≡ Idle
    → new.kept ≡ old.kept → Shows old m x → Shows new m x
same-shows old new m x idle node work kept s = shows-same old new m x node kept
    (subst (λ o. ShowsDoubt old.node (doubt_in o) x.doubt) (idle ∙ sym work) s.doubt) s
