-- The first key of a process past another: in the Eject of that key, or else the first of the next Eject.
use Rattle.std.proofs.Common.{◌≡◌, Bool, true, false, cond, ◌&&◌, ◌||◌, List, [], ◌∷◌, Option, None, Some, refl, ◌∙◌, ap, T}
use Rattle.std.specs.Prelude.{is_some}
use Rattle.std.specs.declared.cmp.Ordering.{Ordering}
use Rattle.std.specs.declared.cmp.Ordering.TheVariants.{Less, Equal, Greater}
use Rattle.std.specs.Ordering.{is_lt, eq_by_cmp}
use Rattle.std.proofs.lemmas.Cmp.{tied_itself}
use Rattle.std.specs.List.{find, flat_map}
use Rattle.std.specs.FinMap.Entries.{is_sorted, below_all}
use Rattle.capability.specs.declared.Uid.{Uid}
use Rattle.capability.proofs.Uids.{uid_cmp_total, uid_cmp-IsAntisymmetric}
use Rattle.eden_model.specs.Map.{or_else, with_item, first, uid_cmp}
use Rattle.journal.specs.declared.event.Key.{Key}
use Rattle.agenda.specs.Keys.{is_among, entries_of}
use Rattle.agenda.proofs.Past.{find-append}

or-none : {X : Type 0} (o : Option X) → or_else o None ≡ o
or-none None = refl
or-none (Some x) = refl

or-twice : {X : Type 0} (x y : Option X) → or_else x (or_else x y) ≡ or_else x y
or-twice None y = refl
or-twice (Some x) y = refl

left_part : (a b : Bool) → T (a && b) → T a
left_part true b p = tt
left_part false b p = p

right_part : (a b : Bool) → T (a && b) → T b
right_part true b p = p
right_part false b p = absurd p

is-less : (o : Ordering) → T (is_lt o) → o ≡ Less
is-less Less p = refl
is-less Equal p = absurd p
is-less Greater p = absurd p

-- what is before the least is not among the others
not-among : (v u : Uid) (us : List Uid) → uid_cmp v u ≡ Less → T (below_all uid_cmp u (entries_of us)) → is_among v us ≡ false
not-among v u [] less below = refl
not-among v u (w ∷ us) less below = rw (uid_cmp_total.trans v u w less
    (is-less (uid_cmp u w) (left_part (is_lt (uid_cmp u w)) (below_all uid_cmp u (entries_of us)) below)))
    (not-among v u us less (right_part (is_lt (uid_cmp u w)) (below_all uid_cmp u (entries_of us)) below))

module _ (P : Key → Bool) (g : Uid → List Key) (v : Uid) where
  abbrev pub here : List Uid → Option Key
  here us = cond (is_among v us) (find P (g v)) None

  abbrev pub next_one : List Uid → Option Key
  next_one us = with_item (find (λ u. is_lt (uid_cmp v u)) us) (λ u. first (g u)) None

  pub runs-past : ((u : Uid) → uid_cmp v u ≡ Less → find P (g u) ≡ first (g u)) → ((u : Uid) → uid_cmp v u ≡ Greater → find P (g u) ≡ None)
      → (us : List Uid) → T (is_sorted uid_cmp (entries_of us)) → ((u : Uid) → is_among u us ≡ true → is_some (first (g u)) ≡ true)
      → find P (flat_map g us) ≡ or_else (here us) (next_one us)
  runs-past all none [] sorted some = refl
  runs-past all none (u ∷ us) sorted some = find-append P (g u) (flat_map g us) ∙ go (uid_cmp v u) refl
      (runs-past all none us (right_part (below_all uid_cmp u (entries_of us)) (is_sorted uid_cmp (entries_of us)) sorted)
      (λ w in_us. some w (later w in_us)))
    where
      later : (w : Uid) → is_among w us ≡ true → is_among w (u ∷ us) ≡ true
      later w in_us = by (eq_by_cmp uid_cmp w u)
        where
          by : (b : Bool) → (b || is_among w us) ≡ true
          by true = refl
          by false = in_us

      first-some : (o : Option Key) (other : Option Key) → is_some o ≡ true → or_else o other ≡ o
      first-some None other h = absurd (let bad : false ≡ true = h in cc bad)
      first-some (Some k) other h = refl

      go : (o : Ordering) → uid_cmp v u ≡ o → find P (flat_map g us) ≡ or_else (here us) (next_one us)
          → or_else (find P (g u)) (find P (flat_map g us)) ≡ or_else (here (u ∷ us)) (next_one (u ∷ us))
      go Greater is ih = rw (none u is, is) ih
      go Equal is ih =
          let same : v ≡ u = uid_cmp-IsAntisymmetric v u is in
          rw (is, ← same) (ap (or_else (find P (g v))) ih ∙ by (is_among v us))
        where
          by : (b : Bool) → or_else (find P (g v)) (or_else (cond b (find P (g v)) None) (next_one us)) ≡ or_else (find P (g v))
              (next_one us)
          by true = or-twice (find P (g v)) (next_one us)
          by false = refl
      go Less is ih = rw (
        is,
        all u is,
        not-among v u us is
            (left_part (below_all uid_cmp u (entries_of us)) (is_sorted uid_cmp (entries_of us)) sorted),
      )
          (first-some (first (g u)) (find P (flat_map g us)) (some u (rw (tied_itself uid_cmp_total u) refl)))
