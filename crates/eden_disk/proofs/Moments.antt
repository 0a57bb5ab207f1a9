-- Laws of the definitions of specs/Moments.
use Rattle.std.specs.Prelude.{◌≡◌, ℕ, ◌-◌, List, [], ◌∷◌, ◌++◌, length, take}
use Rattle.std.proofs.Common.{refl, ap, subst, ◌∙◌, inl, inr, arith, length-append}
use Rattle.std.proofs.lemmas.List.{take_at}
use Rattle.eden_disk.specs.Told.{Contents, Act, Told, contents, ThroughActs, EachMoment}
use Rattle.eden_disk.specs.Moments.{LeftAfter, LeftBehind, LeftIn, LeftWithin, acts_since}

behind_has : (P : List ℕ → Type 0) (c : Contents) (clock : ℕ) (acts : List Act) (m : ℕ) (image : List ℕ) → ThroughActs P c acts
    → LeftBehind c clock acts m image → P image
behind_has P c clock [] m image all left = all image left.1
behind_has P c clock (act ∷ acts) m image all (inl here) = all.0 image here.1
behind_has P c clock (act ∷ acts) m image all (inr before) = behind_has P c clock acts m image all.1 before.1

within_has : (P : List ℕ → Type 0) (c : Contents) (clock : ℕ) (acts : List Act) (m : ℕ) (image : List ℕ) → ThroughActs P c acts
    → LeftWithin c clock acts m image → P image
within_has P c clock [] m image all left = all image left.1
within_has P c clock (act ∷ acts) m image all (inl here) = all.0 image here.1
within_has P c clock (act ∷ acts) m image all (inr before) = within_has P c clock acts m image all.1 before.1

pub since_is : (old new : Told) (acts : List Act) → new.acts ≡ acts ++ old.acts → acts_since old new ≡ acts
since_is old new acts e =
    ap (λ l. take (length l - length old.acts) l) e
    ∙ ap (λ n. take n (acts ++ old.acts)) (omega (arith, length-append acts old.acts))
    ∙ take_at acts old.acts (length acts) refl

-- What holds at each moment holds of each image that a crash may have left, behind each call and in it.
pub each_moment_behind : (P : List ℕ → Type 0) (old new : Told) (clock m : ℕ) (image : List ℕ) → EachMoment P old new
    → LeftAfter old clock new m image → P image
each_moment_behind P old new clock m image each left = behind_has P (contents old) clock each.acts m image each.leaves
    (subst (λ l. LeftBehind (contents old) clock l m image) (since_is old new each.acts each.since) left)

pub each_moment_within : (P : List ℕ → Type 0) (old new : Told) (clock m : ℕ) (image : List ℕ) → EachMoment P old new
    → LeftIn old clock new m image → P image
each_moment_within P old new clock m image each left = within_has P (contents old) clock each.acts m image each.leaves
    (subst (λ l. LeftWithin (contents old) clock l m image) (since_is old new each.acts each.since) left)
