-- A letter that is found by its number was sent, between these nodes.
use Rattle.std.proofs.Common.{◌≡◌, ◌⊎◌, inl, inr, ℕ, zero, suc, ◌-◌, Bool, true, false, List, [], ◌∷◌, ◌++◌, Some, refl, sym, ap, ◌∙◌}
use Rattle.std.specs.Prelude.{if◌then◌else◌, ◌==◌, ◌&&◌, slice_get}
use Rattle.std.proofs.lemmas.Option.{same_Some}
use Rattle.std.proofs.lemmas.Bool.{eqb-true}
use Rattle.move_laws.specs.Wander.{Contains}
use Rattle.move_laws.specs.World.{Post}
use Rattle.move_world.specs.Logs.{receiver, goes_between, letters_between, letter_at}

both : (a b : Bool) → (a && b) ≡ true → (a ≡ true) × (b ≡ true)
both true b e = (refl, e)
both false b e = absurd (cc e)

-- what is known of a letter that was found
pub record IsFound {V : Type 0} (a b : ℕ) (ps : List (Post V)) (p : Post V) : Type 0 where
  pub sent : Contains ps p
  pub from : p.from ≡ a
  pub to : receiver p.letter ≡ b

-- what stands in a list with one more behind it stands in the list, or is that one
in-more : {X : Type 0} (xs : List X) (y p : X) (k : ℕ) → slice_get (xs ++ y ∷ []) k ≡ Some p → (slice_get xs k ≡ Some p) ⊎ (y ≡ p)
in-more [] y p zero e = inr (same_Some y p e)
in-more [] y p (suc k) e = absurd (cc e)
in-more (x ∷ xs) y p zero e = inl e
in-more (x ∷ xs) y p (suc k) e = in-more xs y p k e

at-place : {V : Type 0} (a b k : ℕ) (ps : List (Post V)) (p : Post V) → slice_get (letters_between a b ps) k ≡ Some p → IsFound a b ps p
at-place a b k [] p e = absurd (cc e)
at-place {V} a b k (q ∷ ps) p e = go (goes_between a b q) refl e (at-place a b k ps p)
  where
    later : IsFound a b ps p → IsFound a b (q ∷ ps) p
    later f = record { sent = inr f.sent; from = f.from; to = f.to }

    now : goes_between a b q ≡ true → q ≡ p → IsFound a b (q ∷ ps) p
    now is same =
        let ends = both (q.from == a) (receiver q.letter == b) is in
        record {
          sent = inl same;
          from = ap (λ (z : Post V). z.from) (sym same) ∙ eqb-true q.from a ends.0;
          to = ap (λ (z : Post V). receiver z.letter) (sym same) ∙ eqb-true (receiver q.letter) b ends.1;
        }

    go : (t : Bool) → goes_between a b q ≡ t
        → slice_get (if t then letters_between a b ps ++ q ∷ [] else letters_between a b ps) k ≡ Some p
        → (slice_get (letters_between a b ps) k ≡ Some p → IsFound a b ps p) → IsFound a b (q ∷ ps) p
    go true is h before = elim (in-more (letters_between a b ps) q p k h) [ inl o ↦ later (before o) | inr same ↦ now is same ]
    go false is h before = later (before h)

pub found : {V : Type 0} (a b i : ℕ) (ps : List (Post V)) (p : Post V) → letter_at a b i ps ≡ Some p → IsFound a b ps p
found a b i ps p e = at-place a b (i - 1) ps p e
