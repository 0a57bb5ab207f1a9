-- Several device calls, one behind the other, of which none but the last was refused.
use Rattle.std.proofs.Common.{◌≡◌, ◌≢◌, ◌⊎◌, ℕ, ◌≤◌, List, [], ◌∷◌, ◌++◌, length, refl, sym, ap, subst, ◌∙◌, inl, inr, arith, length-append}
use Rattle.eden_disk.specs.Told.{Act, Wrote, Synced, Cut, Told, contents, contents_from, Left, LeavesOnly, EachMoment}
use Rattle.eden_disk.specs.Calls.{End, Fine, AtFault, AtStop}
use Rattle.eden_disk.proofs.Held.{contents_since}
use Rattle.eden_disk.specs.Moments.{clock_of, LeftBehind, LeftAfter}
use Rattle.eden_disk.proofs.Moments.{since_is, each_moment_behind}
use Rattle.eden_disk.specs.Timed.{Timed, InOrder}
use Rattle.passive_store.specs.Acts.{DiskCall, Write, Sync, Read, CallTold, AllTold, SomeTold, CallsTold}
use Rattle.checkpoint.specs.Stretch.{Stretch}

-- the newest act is no power cut, or nothing changed
abbrev Uncut : Act → Type 0
Uncut (Wrote clock at bytes) = Unit {0}
Uncut (Synced clock) = Unit {0}
Uncut (Cut clock image) = ⊥

abbrev NoCut : Told → Told → Type 0
NoCut old new = (new ≡ old) ⊎ ((act : Act) × (acts : List Act) × (new.acts ≡ act ∷ acts) × Uncut act)

call-uncut : (call : DiskCall) (clock : ℕ) (old new : Told) (end : End) → end ≢ AtStop → CallTold call clock old new end → NoCut old new
call-uncut call clock old new AtStop runs told = absurd (runs refl)
call-uncut (Write at bytes) clock old new Fine runs told = inr (Wrote clock at bytes, old.acts, ap (λ (t : Told). t.acts) told, tt)
call-uncut (Write at bytes) clock old new AtFault runs (inl same) = inl same
call-uncut (Write at bytes) clock old new AtFault runs (inr some) = inr
    (Wrote clock at some.0, old.acts, ap (λ (t : Told). t.acts) some.2, tt)
call-uncut Sync clock old new Fine runs told = inr (Synced clock, old.acts, ap (λ (t : Told). t.acts) told, tt)
call-uncut Sync clock old new AtFault runs told = inl told
call-uncut Read clock old new Fine runs told = inl told
call-uncut Read clock old new AtFault runs told = inl told

uncut-then : (old mid new : Told) → NoCut old mid → NoCut mid new → NoCut old new
uncut-then old mid new a (inr b) = inr b
uncut-then old mid new a (inl same) = subst (NoCut old) (sym same) a

all-uncut : (calls : List DiskCall) (old new : Told) → AllTold calls old new → NoCut old new
all-uncut [] old new told = inl told
all-uncut (call ∷ calls) old new (mid, clock, one, more) = uncut-then old mid new (call-uncut call clock old mid Fine (λ e. cc e) one)
    (all-uncut calls mid new more)

some-uncut : (calls : List DiskCall) (old new : Told) → SomeTold calls old new AtFault → NoCut old new
some-uncut [] old new told = absurd told
some-uncut (call ∷ calls) old new (inl here) = call-uncut call here.0 old new AtFault (λ e. cc e) here.1
some-uncut (call ∷ calls) old new (inr (mid, clock, one, more)) = uncut-then old mid new
    (call-uncut call clock old mid Fine (λ e. cc e) one) (some-uncut calls mid new more)

pub calls-uncut : (calls : List DiskCall) (old new : Told) (end : End) → end ≢ AtStop → CallsTold calls old new end → NoCut old new
calls-uncut calls old new Fine runs told = all-uncut calls old new told
calls-uncut calls old new AtFault runs told = some-uncut calls old new told
calls-uncut calls old new AtStop runs told = absurd (runs refl)

longer : (act : Act) (acts old : List Act) → old ≡ act ∷ (acts ++ old) → ⊥
longer act acts old e = let n : length old ≡ length (act ∷ (acts ++ old)) = ap length e in omega (arith, n, length-append acts old)

heads : (a b : Act) (xs ys : List Act) → a ∷ xs ≡ b ∷ ys → b ≡ a
heads a b xs ys e = cc e

-- behind the last call, a crash leaves what it may leave of the contents then
behind-last : (before after : ℕ) (old new : Told) (image : List ℕ) → Timed before old after new → NoCut old new
    → LeftAfter old before new after image → Left (contents new) image
behind-last before after old new image t uncut left =
    subst (λ c. Left c image) (sym (contents_since old new t.acts t.image t.since))
    (go t.acts t.since t.order (subst (λ l. LeftBehind (contents old) before l after image) (since_is old new t.acts t.since) left))
  where
    not-cut : (act : Act) (acts : List Act) → new.acts ≡ act ∷ (acts ++ old.acts) → Uncut act
    not-cut act acts is = elim uncut [
      | inl same ↦ absurd (longer act acts old.acts (sym (ap (λ (k : Told). k.acts) same) ∙ is))
      | inr some ↦ subst Uncut (heads act some.0 (acts ++ old.acts) some.1 (sym is ∙ some.2)) some.3
    ]

    one : (act : Act) (acts : List Act) → Uncut act → clock_of act ≤ after → LeftBehind (contents old) before (act ∷ acts) after image
        → Left (contents_from (contents old) (act ∷ acts)) image
    one act acts u h (inl here) = here.1
    one (Wrote k at bytes) acts u h (inr past) = absurd (omega (arith, h, past.0))
    one (Synced k) acts u h (inr past) = absurd (omega (arith, h, past.0))
    one (Cut k i) acts u h (inr past) = absurd u

    go : (acts : List Act) → new.acts ≡ acts ++ old.acts → InOrder (contents old) before acts after
        → LeftBehind (contents old) before acts after image → Left (contents_from (contents old) acts) image
    go [] is o l = l.1
    go (act ∷ acts) is o l = one act acts (not-cut act acts is) o.0 l

-- So several calls are a stretch: where the last was stopped, Q is no more than P.
pub some-calls : (S P Q : List ℕ → Type 0) (calls : List DiskCall) (old new : Told) (before after : ℕ) (end : End)
    → Timed before old after new → CallsTold calls old new end → EachMoment P old new → LeavesOnly Q (contents new)
    → (end ≡ AtStop → (image : List ℕ) → P image → Q image) → (after ≡ before → (image : List ℕ) → S image → Q image)
    → Stretch S P Q old before new after
some-calls S P Q calls old new before after end timed told moments left stopped level = record {
  timed = timed;
  moments = moments;
  behind = λ rises image is. go end told stopped image is;
  level = level;
}
  where
    go : (e : End) → CallsTold calls old new e → (e ≡ AtStop → (image : List ℕ) → P image → Q image) → (image : List ℕ)
        → LeftAfter old before new after image → Q image
    go Fine t s image is = left image (behind-last before after old new image timed (calls-uncut calls old new Fine (λ x. cc x) t) is)
    go AtFault t s image is = left image (behind-last before after old new image timed (calls-uncut calls old new AtFault (λ x. cc x) t) is)
    go AtStop t s image is = s refl image (each_moment_behind P old new before after image moments is)
