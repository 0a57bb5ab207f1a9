-- Stretches of one device call, of none, and one behind another.
use Rattle.std.proofs.Common.{◌≡◌, ◌≢◌, ℕ, ◌<◌, ◌≤◌, List, [], refl, sym, subst, inl, inr, arith}
use Rattle.std.proofs.lemmas.Bool.{cases_lt}
use Rattle.eden_disk.specs.Told.{Told, contents, Left, LeavesOnly, EachMoment}
use Rattle.eden_disk.specs.Calls.{End, Fine, AtFault, AtStop}
use Rattle.eden_disk.proofs.Held.{moments_join, moments_weaker}
use Rattle.eden_disk.specs.Moments.{LeftAfter}
use Rattle.eden_disk.proofs.Moments.{each_moment_behind}
use Rattle.eden_disk.specs.Timed.{Timed}
use Rattle.eden_disk.proofs.Timed.{timed_join, after_earlier, after_later}
use Rattle.eden_disk.proofs.InCall.{behind_read, behind_sync, behind_write}
use Rattle.passive_store.specs.Acts.{DiskCall, Write, Sync, Read, CallTold}
use Rattle.checkpoint.specs.Stretch.{Stretch}
use Rattle.checkpoint.proofs.Throughout.{timed-rises}

-- behind one call that was not stopped, a crash leaves what it may leave of the contents then
behind-call : (call : DiskCall) (before after : ℕ) (old new : Told) (end : End) (image : List ℕ) → before < after → end ≢ AtStop
    → CallTold call after old new end → LeftAfter old before new after image → Left (contents new) image
behind-call (Write place bytes) before after old new end image rises runs told left =
    (behind_write before after place bytes old new end image rises runs told).0 left
behind-call Sync before after old new end image rises runs told left = (behind_sync before after old new end image rises runs told).0 left
behind-call Read before after old new end image rises runs told left = (behind_read before after old new end image rises runs told).0 left

-- one device call: where it was stopped, Q is no more than P
pub one-call : (S P Q : List ℕ → Type 0) (call : DiskCall) (old new : Told) (before after : ℕ) (end : End) → Timed before old after new
    → (after ≡ before → (image : List ℕ) → S image → Q image) → CallTold call after old new end
    → EachMoment P old new → LeavesOnly Q (contents new) → (end ≡ AtStop → (image : List ℕ) → P image → Q image)
    → Stretch S P Q old before new after
one-call S P Q call old new before after end timed level told moments left stopped = record {
  timed = timed;
  moments = moments;
  behind = λ above image is. go above end told stopped image is;
  level = level;
}
  where
    go : before < after → (e : End) → CallTold call after old new e → (e ≡ AtStop → (image : List ℕ) → P image → Q image) → (image : List ℕ)
        → LeftAfter old before new after image → Q image
    go above Fine t s image is = left image (behind-call call before after old new Fine image above (λ x. cc x) t is)
    go above AtFault t s image is = left image (behind-call call before after old new AtFault image above (λ x. cc x) t is)
    go above AtStop t s image is = s refl image (each_moment_behind P old new before after image moments is)

-- no call
pub no-call : (S P Q : List ℕ → Type 0) (old new : Told) (before after : ℕ) → new ≡ old → after ≡ before → LeavesOnly P (contents old)
    → ((image : List ℕ) → S image → Q image) → Stretch S P Q old before new after
no-call S P Q old new before after told clock left same = record {
  timed = subst (λ t. Timed before old after t) (sym told) (record { acts = []; image = refl; since = refl; order = omega (arith, clock) });
  moments = subst (λ t. EachMoment P old t) (sym told) (record { acts = []; image = refl; since = refl; leaves = left });
  behind = λ above image is. absurd (omega (arith, above, clock));
  level = λ e. same;
}

-- one behind the other
pub stretch-join : (S P Q R V W : List ℕ → Type 0) (old mid new : Told) (before between after : ℕ) → Stretch S P Q old before mid between
    → Stretch Q R V mid between new after
    → ((image : List ℕ) → P image → W image) → ((image : List ℕ) → R image → W image) → Stretch S W V old before new after
stretch-join S P Q R V W old mid new before between after a b first second = record {
  timed = timed_join before between after old mid new a.timed b.timed;
  moments = moments_join W old mid new (moments_weaker P W old mid first a.moments) (moments_weaker R W mid new second b.moments);
  behind = λ above image is. elim (cases_lt between after) [
    | inl rises ↦ b.behind rises image (after_later before between after old mid new image a.timed b.timed.acts b.timed.since rises is)
    | inr level ↦
        let low : between ≤ after = timed-rises between after mid new b.timed in
        let same : after ≡ between = omega (arith, low, level) in
        let at_mid : LeftAfter old before new between image = subst (λ m. LeftAfter old before new m image) same is in
        b.level same image (a.behind (omega (arith, same, above)) image
        ((after_earlier before between after between old mid new image a.timed b.timed (omega arith)).0 at_mid))
  ];
  level = λ same image is.
      let one : before ≤ between = timed-rises before between old mid a.timed in
      let two : between ≤ after = timed-rises between after mid new b.timed in
      b.level (omega (arith, same, one, two)) image (a.level (omega (arith, same, one, two)) image is);
}

-- under weaker words
pub stretch-weaker : (S T P R Q V : List ℕ → Type 0) (old new : Told) (before after : ℕ) → Stretch S P Q old before new after
    → ((image : List ℕ) → T image → S image) → ((image : List ℕ) → P image → R image) → ((image : List ℕ) → Q image → V image)
    → Stretch T R V old before new after
stretch-weaker S T P R Q V old new before after a f g h = record {
  timed = a.timed;
  moments = moments_weaker P R old new g a.moments;
  behind = λ above image is. h image (a.behind above image is);
  level = λ same image is. h image (a.level same image (f image is));
}
