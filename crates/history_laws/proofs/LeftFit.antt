-- What a legal run leaves of a disk keeps nothing of an epoch past the one it keeps; so the next run may begin over it.
use Rattle.std.proofs.Common.{◌≡◌, ◌⊎◌, inl, inr, ℕ, ◌+◌, ◌≤◌, ◌<◌, Bool, true, false, cond, not, List, [], ◌∷◌, ◌++◌, Option, None, Some, Ok}
use Rattle.std.proofs.Common.{is_some, refl, sym, ◌∙◌, ap, subst, arith}
use Rattle.std.specs.Prelude.{IfSome, IsSomeAnd, nat_lt}
use Rattle.std.proofs.lemmas.Bool.Decides.{nat_tests}
use Rattle.std.specs.List.{filter_map, cons_option}
use Rattle.std.specs.Ordering.{nat_cmp, eq_by_cmp}
use Rattle.std.specs.FinMap.Entries.{find-put, find-where_key}
use Rattle.std.specs.Cmp.{eq_by_cmp_equiv}
use Rattle.capability.specs.declared.Uid.{Uid}
use Rattle.capability.proofs.Uids.{uid_cmp_total, uid_cmp-IsAntisymmetric}
use Rattle.eden_model.specs.Map.{uid_cmp, value_at, put_at, with_item, same_uid, first}
use Rattle.eden_model.proofs.Laws.{eq-same}
use Rattle.eden_disk.specs.Told.{contents}
use Rattle.passive_store.specs.Kept.{Layout}
use Rattle.journal.specs.EjectChange.{EjectChange, body, removal}
use Rattle.journal.specs.World.{World, Node, Eject, StoreRequest, node_at}
use Rattle.journal.specs.Ejects.{epoch_or_zero}
use Rattle.journal.specs.Boots.{last_epoch}
use Rattle.journal.specs.Settling.{epoch_uid, epoch_bytes, epoch_entries, epoch_doubts, kept_entry, doubt_entry, kept_map, doubts}
use Rattle.journal.specs.Opening.{number_from, epoch_in, found_in}
use Rattle.journal.specs.Standing.{DiskRun, IsAnyOf, Stands, StandsFor, changed_map, kept_of_node, nothing_stands, state, with_changes}
use Rattle.journal.specs.Standing.{request_changes, put_behind, highest_epoch, unfinished_at, unfinished, is_past_last}
use Rattle.journal.specs.LegalRun.{IsHandedInFor, IsHandedOn, numbered}
use Rattle.journal.specs.Laws.{DisksMayBeHandedOn}
use Rattle.journal.specs.Sites.{HasEpochs, AllThere}
use Rattle.history_laws.proofs.Uids.{Fit}

-- 1. A change of what is kept

-- it is of epochs up to this one, and the one that is kept is no less
record IsWithin (n bound : ℕ) (kept : List (Uid × List ℕ)) : Type 0 where
  below : (u : Uid) → is_some (value_at uid_cmp u kept) ≡ true → u.epoch ≤ bound
  stored : bound ≤ epoch_or_zero (epoch_in n kept)

-- an epoch is put that is no less
abbrev PutsPast : ℕ → EjectChange → Type 0
PutsPast bound (body bytes) = bound ≤ number_from 0 bytes
PutsPast bound removal = ⊥

-- a change of an Eject of such an epoch, or of the epoch that is kept
abbrev IsChangeWithin : ℕ → ℕ → Uid × EjectChange → Type 0
IsChangeWithin n bound c = ((1 ≤ c.0.serial) × (c.0.epoch ≤ bound)) ⊎ ((c.0 ≡ epoch_uid n) × PutsPast bound c.1)

abbrev pub AllWithin : ℕ → ℕ → List (Uid × EjectChange) → Type 0
AllWithin n bound [] = Unit {0}
AllWithin n bound (c ∷ cs) = IsChangeWithin n bound c × AllWithin n bound cs

is-same : (u v : Uid) → eq_by_cmp uid_cmp u v ≡ true → u ≡ v
is-same u v tied = eq-same uid_cmp uid_cmp-IsAntisymmetric u v tied

reserved-apart : (n : ℕ) (u : Uid) → 1 ≤ u.serial → eq_by_cmp uid_cmp (epoch_uid n) u ≡ false
reserved-apart n u some = go (eq_by_cmp uid_cmp (epoch_uid n) u) refl
  where
    go : (b : Bool) → eq_by_cmp uid_cmp (epoch_uid n) u ≡ b → b ≡ false
    go false is = refl
    go true is = let none : 0 ≡ u.serial = ap (λ (v : Uid). v.serial) (is-same (epoch_uid n) u is) in absurd (omega (arith, some, none))

-- what stands under the reserved uid decides the epoch that is kept
abbrev epoch_by : Option (List ℕ) → ℕ
epoch_by o = epoch_or_zero (with_item o (λ bytes. Some (number_from 0 bytes)) None)

put-below : (bound : ℕ) (u : Uid) (bytes : List ℕ) (kept : List (Uid × List ℕ)) → u.epoch ≤ bound
    → ((v : Uid) → is_some (value_at uid_cmp v kept) ≡ true → v.epoch ≤ bound) → (v : Uid)
    → is_some (value_at uid_cmp v (put_at uid_cmp u bytes kept)) ≡ true → v.epoch ≤ bound
put-below bound u bytes kept small below v there = go (eq_by_cmp uid_cmp v u) refl
    (subst (λ o. is_some o ≡ true) (find-put uid_cmp uid_cmp_total v u bytes kept) there)
  where
    go : (b : Bool) → eq_by_cmp uid_cmp v u ≡ b → is_some (cond b (Some bytes) (value_at uid_cmp v kept)) ≡ true → v.epoch ≤ bound
    go true is there = subst (λ (x : Uid). x.epoch ≤ bound) (sym (is-same v u is)) small
    go false is there = below v there

put-apart : (n : ℕ) (u : Uid) (bytes : List ℕ) (kept : List (Uid × List ℕ)) → 1 ≤ u.serial
    → value_at uid_cmp (epoch_uid n) (put_at uid_cmp u bytes kept) ≡ value_at uid_cmp (epoch_uid n) kept
put-apart n u bytes kept some = find-put uid_cmp uid_cmp_total (epoch_uid n) u bytes kept
    ∙ ap (λ b. cond b (Some bytes) (value_at uid_cmp (epoch_uid n) kept)) (reserved-apart n u some)

put-here : (n : ℕ) (u : Uid) (bytes : List ℕ) (kept : List (Uid × List ℕ)) → u ≡ epoch_uid n
    → value_at uid_cmp (epoch_uid n) (put_at uid_cmp u bytes kept) ≡ Some bytes
put-here n u bytes kept is = find-put uid_cmp uid_cmp_total (epoch_uid n) u bytes kept
    ∙ ap (λ b. cond b (Some bytes) (value_at uid_cmp (epoch_uid n) kept))
    (ap (λ v. eq_by_cmp uid_cmp (epoch_uid n) v) is ∙ (eq_by_cmp_equiv uid_cmp_total).refl (epoch_uid n))

-- all but those of one uid
abbrev without : Uid → List (Uid × List ℕ) → List (Uid × List ℕ)
without u kept = changed_map (u, removal) kept

without-found : (u v : Uid) (kept : List (Uid × List ℕ))
    → value_at uid_cmp v (without u kept) ≡ cond (not (same_uid v u)) (value_at uid_cmp v kept) None
without-found u v kept = find-where_key uid_cmp (λ x. not (same_uid x u)) v
    (λ x tied. ap (λ y. not (same_uid y u)) (sym (uid_cmp-IsAntisymmetric v x tied))) kept

without-below : (bound : ℕ) (u : Uid) (kept : List (Uid × List ℕ))
    → ((v : Uid) → is_some (value_at uid_cmp v kept) ≡ true → v.epoch ≤ bound) → (v : Uid)
    → is_some (value_at uid_cmp v (without u kept)) ≡ true → v.epoch ≤ bound
without-below bound u kept below v there = go (same_uid v u) (subst (λ o. is_some o ≡ true) (without-found u v kept) there)
  where
    go : (b : Bool) → is_some (cond (not b) (value_at uid_cmp v kept) None) ≡ true → v.epoch ≤ bound
    go true there = absurd (cc there)
    go false there = below v there

without-apart : (n : ℕ) (u : Uid) (kept : List (Uid × List ℕ)) → 1 ≤ u.serial
    → value_at uid_cmp (epoch_uid n) (without u kept) ≡ value_at uid_cmp (epoch_uid n) kept
without-apart n u kept some = without-found u (epoch_uid n) kept
    ∙ ap (λ b. cond (not b) (value_at uid_cmp (epoch_uid n) kept) None) (reserved-apart n u some)

within-changed : (n bound : ℕ) (u : Uid) (c : EjectChange) (kept : List (Uid × List ℕ)) → IsChangeWithin n bound (u, c)
    → IsWithin n bound kept → IsWithin n bound (changed_map (u, c) kept)
within-changed n bound u (body bytes) kept (inl small) w = record {
  below = put-below bound u bytes kept small.1 w.below;
  stored = subst (λ o. bound ≤ epoch_by o) (sym (put-apart n u bytes kept small.0)) w.stored;
}
within-changed n bound u (body bytes) kept (inr put) w = record {
  below = put-below bound u bytes kept (let none : u.epoch ≡ 0 = ap (λ (v : Uid). v.epoch) put.0 in omega (arith, none)) w.below;
  stored = subst (λ o. bound ≤ epoch_by o) (sym (put-here n u bytes kept put.0)) put.1;
}
within-changed n bound u removal kept (inl small) w = record {
  below = without-below bound u kept w.below;
  stored = subst (λ o. bound ≤ epoch_by o) (sym (without-apart n u kept small.0)) w.stored;
}
within-changed n bound u removal kept (inr put) w = absurd put.1

-- with any of the changes made
any-within : (n bound : ℕ) (cs : List (Uid × EjectChange)) (kept found : List (Uid × List ℕ)) → AllWithin n bound cs → IsWithin n bound kept
    → IsAnyOf kept cs (Ok found) → IsWithin n bound found
any-within n bound [] kept found all w is = let same : found ≡ kept = cc is in subst (IsWithin n bound) (sym same) w
any-within n bound (c ∷ cs) kept found all w (inl is) = any-within n bound cs kept found all.1 w is
any-within n bound (c ∷ cs) kept found all w (inr is) =
    any-within n bound cs (changed_map c kept) found all.1 (within-changed n bound c.0 c.1 kept all.0 w) is

-- 2. What a node keeps, and what may be kept instead

there-more : (u : Uid) (e : Uid × Eject) (es : List (Uid × Eject)) → is_some (value_at uid_cmp u es) ≡ true
    → is_some (value_at uid_cmp u (e ∷ es)) ≡ true
there-more u e es there = go (eq_by_cmp uid_cmp u e.0)
  where
    go : (b : Bool) → is_some (cond b (Some e.1) (value_at uid_cmp u es)) ≡ true
    go true = refl
    go false = there

there-first : (e : Uid × Eject) (es : List (Uid × Eject)) → is_some (value_at uid_cmp e.0 (e ∷ es)) ≡ true
there-first e es = ap (λ b. is_some (cond b (Some e.1) (value_at uid_cmp e.0 es))) ((eq_by_cmp_equiv uid_cmp_total).refl e.0)

-- what is kept of Ejects is under their uids
kept-there : (u : Uid) (es : List (Uid × Eject)) → is_some (value_at uid_cmp u (filter_map kept_entry es)) ≡ true
    → is_some (value_at uid_cmp u es) ≡ true
kept-there u [] there = there
kept-there u (e ∷ es) there = go e.1.kept there (kept-there u es)
  where
    here : (b : Bool) (bytes : List ℕ) → is_some (cond b (Some bytes) (value_at uid_cmp u (filter_map kept_entry es))) ≡ true
        → (is_some (value_at uid_cmp u (filter_map kept_entry es)) ≡ true → is_some (value_at uid_cmp u es) ≡ true)
        → is_some (cond b (Some e.1) (value_at uid_cmp u es)) ≡ true
    here true bytes there later = refl
    here false bytes there later = later there

    go : (o : Option (List ℕ))
        → is_some (value_at uid_cmp u (cons_option (with_item o (λ bytes. Some (e.0, bytes)) None) (filter_map kept_entry es))) ≡ true
        → (is_some (value_at uid_cmp u (filter_map kept_entry es)) ≡ true → is_some (value_at uid_cmp u es) ≡ true)
        → is_some (value_at uid_cmp u (e ∷ es)) ≡ true
    go None there later = there-more u e es (later there)
    go (Some bytes) there later = here (eq_by_cmp uid_cmp u e.0) bytes there later

-- each Eject has a serial, and an epoch up to this one
abbrev AreBehind : ℕ → List (Uid × Eject) → Type 0
AreBehind bound es = (u : Uid) → is_some (value_at uid_cmp u es) ≡ true → (1 ≤ u.serial) × (u.epoch ≤ bound)

spelled : (e : ℕ) → e ≤ last_epoch → number_from 0 (epoch_bytes e) ≡ e
spelled e most = omega (arith, most)

kept-within : (n : ℕ) (epoch : Option ℕ) (es : List (Uid × Eject)) → IfSome epoch (λ e. e ≤ last_epoch)
    → AreBehind (epoch_or_zero epoch) es
    → IsWithin n (epoch_or_zero epoch) (epoch_entries n epoch ++ filter_map kept_entry es)
kept-within n None es most behind = record {
  below = λ u there. (behind u (kept-there u es there)).1;
  stored = omega arith;
}
kept-within n (Some e) es most behind = record {
  below = λ u there. go u (eq_by_cmp uid_cmp u (epoch_uid n)) refl there;
  stored = subst (λ o. e ≤ epoch_by o)
      (ap (λ b. cond b (Some (epoch_bytes e)) (value_at uid_cmp (epoch_uid n) (filter_map kept_entry es)))
      (sym ((eq_by_cmp_equiv uid_cmp_total).refl (epoch_uid n))))
      (omega (arith, spelled e most));
}
  where
    go : (u : Uid) (b : Bool) → eq_by_cmp uid_cmp u (epoch_uid n) ≡ b
        → is_some (cond b (Some (epoch_bytes e)) (value_at uid_cmp u (filter_map kept_entry es))) ≡ true → u.epoch ≤ e
    go u true is there = let none : u.epoch ≡ 0 = ap (λ (v : Uid). v.epoch) (is-same u (epoch_uid n) is) in omega (arith, none)
    go u false is there = (behind u (kept-there u es there)).1

ejects-within : (n bound : ℕ) (es : List (Uid × Eject)) → AreBehind bound es → AllWithin n bound (filter_map doubt_entry es)
ejects-within n bound [] behind = tt
ejects-within n bound (e ∷ es) behind =
    go e.1.doubt (behind e.0 (there-first e es)) (ejects-within n bound es (λ u there. behind u (there-more u e es there)))
  where
    go : (o : Option EjectChange) → (1 ≤ e.0.serial) × (e.0.epoch ≤ bound) → AllWithin n bound (filter_map doubt_entry es)
        → AllWithin n bound (cons_option (with_item o (λ c. Some (e.0, c)) None) (filter_map doubt_entry es))
    go None small rest = rest
    go (Some c) small rest = (inl small, rest)

doubts-within : (n bound : ℕ) (doubt : Option ℕ) (es : List (Uid × Eject)) → IfSome doubt (λ e. (bound ≤ e) × (e ≤ last_epoch))
    → AreBehind bound es → AllWithin n bound (epoch_doubts n doubt ++ filter_map doubt_entry es)
doubts-within n bound None es next behind = ejects-within n bound es behind
doubts-within n bound (Some e) es next behind =
    (inr (refl, let more : bound ≤ e = next.0 in omega (arith, more, spelled e next.1)), ejects-within n bound es behind)

join-within : (n bound : ℕ) (cs ds : List (Uid × EjectChange)) → AllWithin n bound cs → AllWithin n bound ds → AllWithin n bound (cs ++ ds)
join-within n bound [] ds first second = second
join-within n bound (c ∷ cs) ds first second = (first.0, join-within n bound cs ds first.1 second)

node-within : (G : Uid → Type 0) (n : ℕ) (it : Node) (cs : List (Uid × EjectChange)) (found : List (Uid × List ℕ)) → Fit G it
    → HasEpochs it → AllWithin n (epoch_or_zero it.epoch) cs → IsAnyOf (kept_map n it) (doubts n it ++ cs) (Ok found)
    → IsWithin n (epoch_or_zero it.epoch) found
node-within G n it cs found fit bounds more is =
    any-within n (epoch_or_zero it.epoch) (doubts n it ++ cs) (kept_map n it) found
    (join-within n (epoch_or_zero it.epoch) (doubts n it) cs
    (doubts-within n (epoch_or_zero it.epoch) it.epoch_doubt it.ejects (next it.epoch_doubt fit.doubt_is_next bounds.doubted) behind) more)
    (kept-within n it.epoch it.ejects bounds.stored behind) is
  where
    behind : AreBehind (epoch_or_zero it.epoch) it.ejects
    behind u there = let b = fit.behind u there in (b.serial_counts, b.epoch_given)

    next : (o : Option ℕ) → IfSome o (λ e. epoch_or_zero it.epoch < e) → IfSome o (λ e. e ≤ last_epoch)
        → IfSome o (λ e. (epoch_or_zero it.epoch ≤ e) × (e ≤ last_epoch))
    next None past most = tt
    next (Some e) past most = (omega (arith, past), most)

-- 3. What was under way where memory was wanting

request-within : (n bound : ℕ) (rs : List StoreRequest) (es : List (Uid × Eject)) → AreBehind bound es → AllThere rs es
    → AllWithin n bound (request_changes (first rs))
request-within n bound [] es behind all = tt
request-within n bound (r ∷ rs) es behind all = (inl (behind r.uid all.0), tt)

put-within : (n bound e : ℕ) → bound ≤ e → AllWithin n bound (put_behind n e)
put-within n bound e less = go (nat_lt e last_epoch) refl
  where
    go : (b : Bool) → nat_lt e last_epoch ≡ b → AllWithin n bound (cond b ((epoch_uid n, body (epoch_bytes (e + 1))) ∷ []) [])
    go false is = tt
    go true is = let most : e + 1 ≤ last_epoch = grind (arith, nat_tests, is) in
        (inr (refl, omega (arith, less, spelled (e + 1) most)), tt)

unfinished-within : (G : Uid → Type 0) (n : ℕ) (it : Node) → Fit G it → AllThere it.requests it.ejects
    → AllWithin n (epoch_or_zero it.epoch) (unfinished_at n it)
unfinished-within G n it fit all =
    join-within n (epoch_or_zero it.epoch) (request_changes (first it.requests)) (put_behind n (highest_epoch it))
    (request-within n (epoch_or_zero it.epoch) it.requests it.ejects
    (λ u there. let b = fit.behind u there in (b.serial_counts, b.epoch_given)) all)
    (put-within n (epoch_or_zero it.epoch) (highest_epoch it) (highest it.epoch_doubt fit.doubt_is_next))
  where
    highest : (o : Option ℕ) → IfSome o (λ e. epoch_or_zero it.epoch < e)
        → epoch_or_zero it.epoch ≤ with_item o (λ e. e) (epoch_or_zero it.epoch)
    highest None past = omega arith
    highest (Some e) past = omega (arith, past)

-- at this moment
pub added-within : (G : Uid → Type 0) (n m : ℕ) (w : World) (it : Node) → node_at w n ≡ Some it → Fit G it
    → AllThere it.requests it.ejects → AllWithin n (epoch_or_zero it.epoch) (unfinished w n m)
added-within G n m w it at fit all =
    subst (λ o. AllWithin n (epoch_or_zero it.epoch) (with_item o (λ x. cond (is_past_last x m) (unfinished_at n x) []) [])) (sym at)
    (go (is_past_last it m))
  where
    go : (b : Bool) → AllWithin n (epoch_or_zero it.epoch) (cond b (unfinished_at n it) [])
    go true = unfinished-within G n it fit all
    go false = tt

-- 4. An image that stands for the state of its node

-- each uid that is found there is of an epoch up to the one that is found
pub epochs-left : (G : Uid → Type 0) (layout : Layout) (n : ℕ) (w : World) (cs : List (Uid × EjectChange)) (image : List ℕ)
    → ((it : Node) → node_at w n ≡ Some it → Fit G it × HasEpochs it × AllWithin n (epoch_or_zero it.epoch) cs)
    → Stands layout n (with_changes cs (state w n)) image
    → (kept : List (Uid × List ℕ)) → found_in layout n image ≡ Ok kept → (u : Uid) → is_some (value_at uid_cmp u kept) ≡ true
    → u.epoch ≤ epoch_or_zero (epoch_in n kept)
epochs-left G layout n w cs image known stands kept found u there =
    go (node_at w n) known (subst (λ r. StandsFor (state w n).kept ((state w n).changes ++ cs) r) found stands)
  where
    mapped : (it : Node) → Fit G it × HasEpochs it × AllWithin n (epoch_or_zero it.epoch) cs → (b : Bool)
        → StandsFor (cond b None (Some (kept_map n it))) (doubts n it ++ cs) (Ok kept) → u.epoch ≤ epoch_or_zero (epoch_in n kept)
    mapped it fits true is = absurd is
    mapped it fits false is = let w = node-within G n it cs kept fits.0 fits.1 fits.2 is in omega (arith, w.below u there, w.stored)

    go : (o : Option Node) → ((it : Node) → o ≡ Some it → Fit G it × HasEpochs it × AllWithin n (epoch_or_zero it.epoch) cs)
        → StandsFor (with_item o (λ it. record { kept = kept_of_node n it; changes = doubts n it }) nothing_stands).kept
        ((with_item o (λ it. record { kept = kept_of_node n it; changes = doubts n it }) nothing_stands).changes ++ cs) (Ok kept)
        → u.epoch ≤ epoch_or_zero (epoch_in n kept)
    go None known is = absurd is
    go (Some it) known is = mapped it (known it refl) (is_some it.damaged) is

-- 5. From run to run

pub handed-on : DisksMayBeHandedOn
handed-on layout script disks next history more handed legal on n e there =
    go (value_at nat_cmp n (numbered disks)) refl (on n e there)
  where
    go : (o : Option DiskRun) → value_at nat_cmp n (numbered disks) ≡ o → IsSomeAnd o (λ d. IsHandedOn d e)
        → IsHandedInFor layout n more e
    go None at x = absurd x
    go (Some d) at x = record {
      nothing_unsynced = x.nothing_unsynced;
      same = x.same;
      bytes = x.bytes;
      fit = elim legal [
        | inl whole ↦ whole.fit more (λ m c is. (handed m c is).fit.room_is_told) n d at (contents e.before).now x.left
        | inr part ↦ part.fit more (λ m c is. (handed m c is).fit.room_is_told) n d at (contents e.before).now x.left
      ];
    }
