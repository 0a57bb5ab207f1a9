-- An index after what one Eject may do was noted.
use Rattle.std.proofs.Common.{◌≡◌, Bool, true, false, cond, ◌&&◌, List, [], ◌∷◌, map, refl, sym, ◌∙◌, ap, T}
use Rattle.std.specs.Prelude.{is_some}
use Rattle.std.specs.declared.cmp.Ordering.TheVariants.{Less}
use Rattle.std.specs.Ordering.{eq_by_cmp, is_lt}
use Rattle.std.specs.List.{AllByRecursion}
use Rattle.std.specs.List.Sorted.{IsStrictlySortedBy}
use Rattle.std.specs.FinMap.Entries.{is_sorted, below_all}
use Rattle.capability.specs.declared.Uid.{Uid}
use Rattle.capability.proofs.Uids.{uid_cmp-IsAntisymmetric}
use Rattle.eden_model.specs.Map.{value_at, uid_cmp, same_uid}
use Rattle.eden_model.proofs.Laws.{eq-same}
use Rattle.ejects.proofs.Leaving.{flipped}
use Rattle.agenda.specs.Keys.{is_among, entries_of, Indexes}
use Rattle.agenda.specs.Indexed.{entry_if}

both : (a b : Bool) → T a → T b → T (a && b)
both true b p q = q
both false b p q = absurd p

below-entries : (x : Uid) (us : List Uid) → AllByRecursion (λ y. uid_cmp x y ≡ Less) us → T (below_all uid_cmp x (entries_of us))
below-entries x [] h = tt
below-entries x (u ∷ us) h = both (is_lt (uid_cmp x u)) (below_all uid_cmp x (entries_of us)) (rw h.0 tt) (below-entries x us h.1)

pub sorted-entries : (us : List Uid) → IsStrictlySortedBy uid_cmp us → T (is_sorted uid_cmp (entries_of us))
unfolding IsStrictlySortedBy
sorted-entries [] h = tt
sorted-entries (u ∷ us) h = both (below_all uid_cmp u (entries_of us)) (is_sorted uid_cmp (entries_of us)) (below-entries u us h.0)
    (sorted-entries us h.1)

among-entry : (q : Uid) (es : List (Uid × Bool)) → is_among q (map (λ e. e.0) es) ≡ is_some (value_at uid_cmp q es)
among-entry q [] = refl
among-entry q (e ∷ es) = go (eq_by_cmp uid_cmp q e.0) refl (among-entry q es)
  where
    go : (b : Bool) → eq_by_cmp uid_cmp q e.0 ≡ b → is_among q (map (λ e. e.0) es) ≡ is_some (value_at uid_cmp q es)
        → is_among q (map (λ e. e.0) (e ∷ es)) ≡ is_some (value_at uid_cmp q (e ∷ es))
    go true is ih = rw is refl
    go false is ih = rw is ih

some-entry : (b : Bool) → is_some (entry_if b) ≡ b
some-entry true = refl
some-entry false = refl

-- what passes the new test is what the index has, where one Eject was noted by it and the others passed the old test alike
pub noted : (old new : List (Uid × Bool)) (u : Uid) (b : Bool) (test now : Uid → Bool)
    → ((q : Uid) → value_at uid_cmp q new ≡ cond (eq_by_cmp uid_cmp u q) (entry_if b) (value_at uid_cmp q old))
    → IsStrictlySortedBy uid_cmp (map (λ e. e.0) new) → Indexes (map (λ e. e.0) old) test → b ≡ now u
    → ((v : Uid) → same_uid v u ≡ false → now v ≡ test v) → Indexes (map (λ e. e.0) new) now
noted old new u b test now at ascend was marked others = record {
  ascend = sorted-entries (map (λ e. e.0) new) ascend;
  exact = λ v. among-entry v new ∙ ap is_some (at v) ∙ go v (eq_by_cmp uid_cmp u v) refl;
}
  where
    go : (v : Uid) (c : Bool) → eq_by_cmp uid_cmp u v ≡ c → is_some (cond c (entry_if b) (value_at uid_cmp v old)) ≡ now v
    go v true is = some-entry b ∙ marked ∙ ap now (eq-same uid_cmp uid_cmp-IsAntisymmetric u v is)
    go v false is = sym (among-entry v old) ∙ was.exact v ∙ sym (others v (flipped v u is))
