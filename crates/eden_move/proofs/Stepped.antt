-- What a settling, a read and a put of a store leave of a node.
use Rattle.std.proofs.Common.{◌≡◌, ◌⊎◌, inl, inr, ℕ, Bool, false, List, Option, None, Some, is_some, refl, sym, ◌∙◌, ap, subst}
use Rattle.std.specs.Prelude.{IsTrue, IsSome, Result, Ok, Err, is_ok, ◌&&◌, MatchResult, IfOk, IfErr, OnErr}
use Rattle.std.specs.Option.{option_map}
use Rattle.capability.specs.declared.Uid.{Uid}
use Rattle.eden_value.specs.Datum.{Datum}
use Rattle.passive_store.specs.declared.store.Pick.{Pick as StorePick}
use Rattle.passive_store.specs.declared.store.StoreRefusal.{StoreRefusal}
use Rattle.passive_store.specs.declared.store.StoreRefusal.TheVariants.{Failed, Stopped, Full, Damaged, OutOfMemory}
use Rattle.passive_store.specs.Kept.{StoreChange, Work, Idle, Unsettled, body_at, kept_after, is_busy, is_unsettled, work_settled, settled}
use Rattle.passive_store.specs.Kept.{IsDiskRefusal, IsEarlyRefusal, SettlesFirst, SettlesAfterMemory, work_changed, work_refused}
use Rattle.passive_store.specs.Kept.{Kept, Busy, IsFullBy, kept_changed}
use Rattle.passive_store.specs.declared.store.Pick.TheVariants as pick
use Rattle.passive_store.specs.Seen.{Seen}
use Rattle.move_laws.specs.Wander.{Record}
use Rattle.move_laws.specs.World.{Node, keeping, doubting}
use Rattle.eden_move.specs.Records.{record_in}
use Rattle.eden_move.specs.Minds.{Remembered}
use Rattle.eden_move.specs.Shown.{key, IsWanderer, PutsRecord, Shows, IsSettled}
use Rattle.eden_move.proofs.Showing.{settled-ok, settled-err, settled-idle, read-shows, put-shows, cut-shows, same-shows}

-- 1. A settling

pub settle-both : (result : Result (Unit {0}) StoreRefusal) (old new : Seen) (m : Uid → Option Remembered) (x : Node Datum)
    → new.node ≡ old.node
    → is_busy old.work ≡ false → IfErr result IsDiskRefusal → OnErr result (IsTrue (is_unsettled old.work))
    → is_some new.picked ≡ (is_ok result && is_unsettled old.work) → new.work ≡ work_settled new.picked old.work
    → new.kept ≡ settled new.picked old.work old.kept → Shows old m x
    → MatchResult result (λ _. IsSettled x new m) (λ e. IsDiskRefusal e × IsTrue (is_some x.doubt) × Shows new m x)
settle-both (Ok done) old new m x node free only refused picked work kept s = settled-ok old new m x node free picked work kept s
settle-both (Err e) old new m x node free only refused picked work kept s =
    let r = settled-err old new m x node refused picked work kept s in (only, r.0, r.1)

-- 2. A read

some-map : {A B : Type 0} (f : A → B) (o : Option A) → IsSome o → IsTrue (is_some (option_map f o))
some-map f None s = absurd (cc s)
some-map f (Some a) s = refl

never-some : {A : Type 0} (o : Option A) → (IsTrue (is_some o) → IsTrue false) → is_some o ≡ false
never-some None never = refl
never-some (Some a) never = absurd (cc (never refl))

-- without a doubt nothing is found by a settling
first-none : {T : Type 0} (pick : Option StorePick) (result : Result T StoreRefusal) → SettlesFirst pick Idle result → is_some pick ≡ false
first-none pick (Ok done) s = s
first-none pick (Err Failed) s = never-some pick s
first-none pick (Err Stopped) s = never-some pick s
first-none pick (Err Full) s = s
first-none pick (Err (Damaged place)) s = s
first-none pick (Err OutOfMemory) s = s

pub read-both : (result : Result (Option (List ℕ)) StoreRefusal) (old new : Seen) (m : Uid → Option Remembered) (x : Node Datum)
    (u place : Uid)
    → IsWanderer u → place ≡ key old.node u → old.work ≡ Idle → new.node ≡ old.node
    → IfErr result (λ e. IsDiskRefusal e ⊎ (e ≡ OutOfMemory)) → SettlesFirst new.picked old.work result
    → new.work ≡ work_settled new.picked old.work → new.kept ≡ settled new.picked old.work old.kept
    → IfOk result (λ body. body ≡ body_at new.kept place)
    → IfErr result (λ e. IsDiskRefusal e → is_some new.picked ≡ is_unsettled old.work → IsSome (body_at new.kept place))
    → Shows old m x
    → Shows new m x × MatchResult result (λ body. option_map record_in body ≡ x.kept u)
    (λ e. (e ≡ OutOfMemory) ⊎ (IsDiskRefusal e × IsTrue (is_some (x.kept u))))
read-both result old new m x u place w is idle node only picked work kept found reads s = (shows, go result only first found reads)
  where
    shows : Shows new m x
    shows = (read-shows old new m x idle node work kept s).1

    at : x.kept u ≡ option_map record_in (body_at new.kept place)
    at = shows.kept u w ∙ ap (λ q. option_map record_in (body_at new.kept q)) (ap (λ n. key n u) node ∙ sym is)

    first : is_some new.picked ≡ is_unsettled old.work
    first = first-none new.picked result (subst (λ o. SettlesFirst new.picked o result) idle picked) ∙ sym (ap is_unsettled idle)

    go : (result : Result (Option (List ℕ)) StoreRefusal) → IfErr result (λ e. IsDiskRefusal e ⊎ (e ≡ OutOfMemory))
        → is_some new.picked ≡ is_unsettled old.work → IfOk result (λ body. body ≡ body_at new.kept place)
        → IfErr result (λ e. IsDiskRefusal e → is_some new.picked ≡ is_unsettled old.work → IsSome (body_at new.kept place))
        → MatchResult result (λ body. option_map record_in body ≡ x.kept u)
        (λ e. (e ≡ OutOfMemory) ⊎ (IsDiskRefusal e × IsTrue (is_some (x.kept u))))
    go (Ok body) only first found reads = ap (option_map record_in) found ∙ sym at
    go (Err e) only first found reads = elim only [
      | inl disk ↦ inr (disk, subst (λ o. IsTrue (is_some o)) (sym at) (some-map record_in (body_at new.kept place) (reads disk first)))
      | inr memory ↦ inl memory
    ]

-- 3. A put

after-none : {T : Type 0} (pick : Option StorePick) (result : Result T StoreRefusal) → SettlesAfterMemory pick Idle result
    → is_some pick ≡ false
after-none pick (Ok done) s = s
after-none pick (Err Failed) s = never-some pick s
after-none pick (Err Stopped) s = never-some pick s
after-none pick (Err Full) s = s
after-none pick (Err (Damaged place)) s = s
after-none pick (Err OutOfMemory) s = ap is_some s

is-none : {A : Type 0} (o : Option A) → is_some o ≡ false → o ≡ None
is-none None e = refl
is-none (Some a) e = absurd (cc e)

pub put-both : (result : Result (Unit {0}) StoreRefusal) (old new : Seen) (m : Uid → Option Remembered) (x : Node Datum)
    (c : StoreChange) (u : Uid)
    (r : Record Datum) → PutsRecord old.node c u r → old.work ≡ Idle → new.node ≡ old.node
    → IfErr result (λ e. IsDiskRefusal e ⊎ IsEarlyRefusal e) → SettlesAfterMemory new.picked old.work result
    → new.work ≡ work_changed new.picked c old.work result → new.kept ≡ kept_changed new.picked c old.work old.kept result → Shows old m x
    → MatchResult result (λ _. Shows new m (keeping u r x))
    (λ e. (IsEarlyRefusal e × Shows new m x) ⊎ (IsDiskRefusal e × Shows new m (doubting (Some (u, r)) x)))
put-both result old new m x c u r p idle node only picked work kept s = go result only none work kept
  where
    none : new.picked ≡ None
    none = is-none new.picked (after-none new.picked result (subst (λ o. SettlesAfterMemory new.picked o result) idle picked))

    same : settled new.picked old.work old.kept ≡ old.kept
    same = ap (λ o. settled new.picked o old.kept) idle ∙ settled-idle new.picked old.kept

    begun : work_refused new.picked c old.work ≡ Unsettled c false
    begun = ap (λ o. work_refused o c old.work) none ∙ ap (work_refused None c) idle

    go : (result : Result (Unit {0}) StoreRefusal) → IfErr result (λ e. IsDiskRefusal e ⊎ IsEarlyRefusal e) → new.picked ≡ None
        → new.work ≡ work_changed new.picked c old.work result → new.kept ≡ kept_changed new.picked c old.work old.kept result
        → MatchResult result (λ _. Shows new m (keeping u r x))
        (λ e. (IsEarlyRefusal e × Shows new m x) ⊎ (IsDiskRefusal e × Shows new m (doubting (Some (u, r)) x)))
    go (Ok done) only none work kept = put-shows old new m x c u r p idle node work (kept ∙ ap (kept_after c) same) s
    go (Err Failed) only none work kept = inr (inl refl, cut-shows old new m x c u r p node (work ∙ begun) (kept ∙ same) s)
    go (Err Stopped) only none work kept = inr (inr refl, cut-shows old new m x c u r p node (work ∙ begun) (kept ∙ same) s)
    go (Err Full) only none work kept = inl (inl refl, same-shows old new m x idle node work (kept ∙ same) s)
    go (Err (Damaged place)) only none work kept = elim only [
      | inl disk ↦ elim disk [ inl e ↦ absurd (cc e) | inr e ↦ absurd (cc e) ]
      | inr early ↦ elim early [ inl e ↦ absurd (cc e) | inr e ↦ absurd (cc e) ]
    ]
    go (Err OutOfMemory) only none work kept = inl (inr refl, same-shows old new m x idle node (work ∙ idle) (kept ∙ same) s)

-- where nothing is in doubt a settling leaves what is kept
pub idle-keeps : (pick : Option StorePick) (w : Work) (k : Kept) → w ≡ Idle → settled pick w k ≡ k
idle-keeps None w k is = refl
idle-keeps (Some pick.Old) w k is = refl
idle-keeps (Some pick.New) Idle k is = refl
idle-keeps (Some pick.New) (Busy c made left) k is = refl
idle-keeps (Some pick.New) (Unsettled c synced) k is = absurd (cc is)

-- so Full is then what the room of that says
pub full-idle : (result : Result (Unit {0}) StoreRefusal) (room : Kept → Bool) (picked : Option StorePick) (w : Work) (k : Kept) → w ≡ Idle
    → SettlesAfterMemory picked w result → IsFullBy (room (settled picked w k)) picked w result → IsFullBy (room k) None Idle result
full-idle result room picked w k idle s f =
    go result s (subst (λ x. IsFullBy (room x) picked w result) (idle-keeps picked w k idle) f)
  where
    none : (p : Option StorePick) → (IsTrue (is_some p) → IsTrue (is_unsettled w)) → is_some p ≡ is_unsettled w
    none None only = sym (ap is_unsettled idle)
    none (Some p) only = sym (only refl)

    go : (r : Result (Unit {0}) StoreRefusal) → SettlesAfterMemory picked w r → IsFullBy (room k) picked w r → IsFullBy (room k) None Idle r
    go (Ok done) s f = f
    go (Err Failed) s f = λ e. f (none picked s)
    go (Err Stopped) s f = λ e. f (none picked s)
    go (Err Full) s f = f
    go (Err (Damaged place)) s f = tt
    go (Err OutOfMemory) s f = tt
