-- Laws of the definitions of specs/InCall.
use Rattle.std.specs.Prelude.{◌≡◌, ◌≢◌, ◌⊎◌, ◌↔◌, ℕ, ◌≤◌, ◌<◌, List, [], ◌∷◌, length}
use Rattle.std.proofs.Common.{refl, ap, subst, inl, inr, arith}
use Rattle.eden_disk.specs.Told.{Contents, Act, Wrote, Synced, Cut, Told, after_act, contents, noted, Left}
use Rattle.eden_disk.specs.Calls.{End, Fine, AtFault, AtStop, IsCut, ReadTold, SyncTold, WriteTold}
use Rattle.eden_disk.specs.Moments.{clock_of, StoodBehind, acts_since, LeftAfter, LeftIn}
use Rattle.eden_disk.proofs.Moments.{since_is}
use Rattle.eden_disk.specs.InCall.{unsynced_too}

same_left : (at : ℕ) (bytes : List ℕ) (clock : ℕ) (c : Contents) (image : List ℕ)
    → Left (after_act (Wrote clock at bytes) c) image ↔ Left (unsynced_too at (length bytes) c) image
same_left at bytes clock c image = (λ l. record { size = l.size; outside = l.outside }, λ l. record { size = l.size; outside = l.outside })

acts_none : (old new : Told) → new ≡ old → acts_since old new ≡ []
acts_none old new e = since_is old new [] (ap (λ (t : Told). t.acts) e)

acts_one : (act : Act) (old new : Told) → new ≡ noted act old → acts_since old new ≡ act ∷ []
acts_one act old new e = since_is old new (act ∷ []) (ap (λ (t : Told). t.acts) e)

acts_two : (first second : Act) (old new : Told) → new ≡ noted second (noted first old) → acts_since old new ≡ second ∷ first ∷ []
acts_two first second old new e = since_is old new (second ∷ first ∷ []) (ap (λ (t : Told). t.acts) e)

-- In the middle of a call that changes nothing on its way, a crash leaves what it may leave before the call.
in_same : (before after : ℕ) (old new : Told) (image : List ℕ) → before < after → new ≡ old
    → LeftIn old before new after image ↔ Left (contents old) image
in_same before after old new image h e = rw (acts_none old new e) (λ l. l.1, λ l. (h, l))

in_cut : (before after : ℕ) (old new : Told) (image : List ℕ) → before < after → IsCut after old new
    → LeftIn old before new after image ↔ Left (contents old) image
in_cut before after old new image h (inr same) = in_same before after old new image h same.1
in_cut before after old new image h (inl cut) = rw (acts_one (Cut after cut.0) old new cut.2)
    (λ l. elim l [ inl here ↦ absurd (omega (arith, here.0)) | inr rest ↦ rest.1.1 ], λ l. inr (omega arith, (h, l)))

pub in_read : (before after : ℕ) (old new : Told) (end : End) (image : List ℕ) → before < after → ReadTold after old new end
    → LeftIn old before new after image ↔ Left (contents old) image
in_read before after old new Fine image h told = in_same before after old new image h told
in_read before after old new AtFault image h told = in_same before after old new image h told
in_read before after old new AtStop image h told = in_cut before after old new image h told

pub in_sync : (before after : ℕ) (old new : Told) (end : End) (image : List ℕ) → before < after → SyncTold after old new end
    → LeftIn old before new after image ↔ Left (contents old) image
in_sync before after old new Fine image h told = rw (acts_one (Synced after) old new told)
    (λ l. elim l [ inl here ↦ absurd (omega (arith, here.0)) | inr rest ↦ rest.1.1 ], λ l. inr (omega arith, (h, l)))
in_sync before after old new AtFault image h told = in_same before after old new image h told
in_sync before after old new AtStop image h told = in_cut before after old new image h told

in_noted : (before after at : ℕ) (bytes : List ℕ) (old new : Told) (image : List ℕ) → new ≡ noted (Wrote after at bytes) old
    → LeftIn old before new after image ↔ Left (unsynced_too at (length bytes) (contents old)) image
in_noted before after at bytes old new image e =
    let same = same_left at bytes after (contents old) image in
    rw (acts_one (Wrote after at bytes) old new e)
    (λ l. elim l [ inl here ↦ same.0 here.1 | inr rest ↦ absurd (omega (arith, rest.0)) ], λ l. inl (omega arith, same.1 l))

in_stopped : (before after at : ℕ) (bytes : List ℕ) (old new : Told) (image : List ℕ) → IsCut after (noted (Wrote after at bytes) old) new
    → LeftIn old before new after image ↔ Left (unsynced_too at (length bytes) (contents old)) image
in_stopped before after at bytes old new image (inr none) = absurd (cc none.0)
in_stopped before after at bytes old new image (inl cut) =
    let same = same_left at bytes after (contents old) image in
    rw (acts_two (Wrote after at bytes) (Cut after cut.0) old new cut.2) (
      λ l. elim l [
        | inl here ↦ absurd (omega (arith, here.0))
        | inr rest ↦ elim rest.1
            [ inl wrote ↦ same.0 wrote.1 | inr past ↦ absurd (omega (arith, past.0)) ]
      ],
      λ l. inr (omega arith, inl (omega arith, same.1 l)),
    )

-- In the middle of a write its range counts as unsynced, unless the write fails and changes nothing.
pub in_write : (before after at : ℕ) (bytes : List ℕ) (old new : Told) (end : End) (image : List ℕ) → before < after
    → WriteTold after at bytes old new end →
    ((new ≡ old) × (end ≡ AtFault) × (LeftIn old before new after image ↔ Left (contents old) image)) ⊎
    (LeftIn old before new after image ↔ Left (unsynced_too at (length bytes) (contents old)) image)
in_write before after at bytes old new Fine image h told = inr (in_noted before after at bytes old new image told)
in_write before after at bytes old new AtFault image h (inl same) = inl (same, refl, in_same before after old new image h same)
in_write before after at bytes old new AtFault image h (inr some) = inr
    (subst (λ n. LeftIn old before new after image ↔ Left (unsynced_too at n (contents old)) image) some.1
    (in_noted before after at some.0 old new image some.2))
in_write before after at bytes old new AtStop image h cut = inr (in_stopped before after at bytes old new image cut)

-- Behind a call that was not stopped, a crash leaves what it may leave of the contents then.
behind_same : (before after : ℕ) (old new : Told) (image : List ℕ) → before ≤ after → new ≡ old
    → LeftAfter old before new after image ↔ Left (contents new) image
behind_same before after old new image h e = rw (acts_none old new e) (rw e (λ l. l.1, λ l. (h, l)))

behind_noted : (before after : ℕ) (act : Act) (old new : Told) (image : List ℕ) → clock_of act ≡ after → (StoodBehind act after → ⊥)
    → new ≡ noted act old → LeftAfter old before new after image ↔ Left (contents new) image
behind_noted before after act old new image at gone e = rw (acts_one act old new e)
    (rw e (λ l. elim l [ inl here ↦ here.1 | inr rest ↦ absurd (gone rest.0) ], λ l. inl (omega (arith, at), l)))

not_below : (n : ℕ) → n < n → ⊥
not_below n h = omega (arith, h)

pub behind_read : (before after : ℕ) (old new : Told) (end : End) (image : List ℕ) → before < after → end ≢ AtStop
    → ReadTold after old new end → LeftAfter old before new after image ↔ Left (contents new) image
behind_read before after old new Fine image h ran told = behind_same before after old new image (omega (arith, h)) told
behind_read before after old new AtFault image h ran told = behind_same before after old new image (omega (arith, h)) told
behind_read before after old new AtStop image h ran told = absurd (ran refl)

pub behind_sync : (before after : ℕ) (old new : Told) (end : End) (image : List ℕ) → before < after → end ≢ AtStop
    → SyncTold after old new end → LeftAfter old before new after image ↔ Left (contents new) image
behind_sync before after old new Fine image h ran told = behind_noted before after (Synced after) old new image refl (not_below after) told
behind_sync before after old new AtFault image h ran told = behind_same before after old new image (omega (arith, h)) told
behind_sync before after old new AtStop image h ran told = absurd (ran refl)

pub behind_write : (before after at : ℕ) (bytes : List ℕ) (old new : Told) (end : End) (image : List ℕ) → before < after → end ≢ AtStop
    → WriteTold after at bytes old new end →
    LeftAfter old before new after image ↔ Left (contents new) image
behind_write before after at bytes old new Fine image h ran told = behind_noted before after (Wrote after at bytes) old new image refl
    (not_below after) told
behind_write before after at bytes old new AtFault image h ran (inl same) = behind_same before after old new image (omega (arith, h)) same
behind_write before after at bytes old new AtFault image h ran (inr some) = behind_noted before after
    (Wrote after at some.0) old new image refl (not_below after) some.2
behind_write before after at bytes old new AtStop image h ran told = absurd (ran refl)
