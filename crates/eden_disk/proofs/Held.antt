-- Laws of the definitions of specs/Held.
use Rattle.std.specs.Prelude.{◌≡◌, ◌≢◌, ℕ, ◌+◌, ◌≤◌, Bool, true, false, List, [], ◌∷◌, ◌++◌, length, ◌==◌, ◌-◌, ◌^◌, if◌then◌else◌}
use Rattle.std.proofs.Common.{refl, sym, ap, subst, ◌∙◌, inl, inr, arith, append_assoc}
use Rattle.std.proofs.lemmas.List.{ext_get_or}
use Rattle.std.proofs.lemmas.Bool.{cases_lt, false≢true}
use Rattle.std.proofs.lemmas.Bool.Decides.{nat_tests}
use Rattle.eden_disk.specs.Told.{Contents, Act, Wrote, Synced, Cut, Told, at_rest, after_act, contents_from, contents, noted, Left}
use Rattle.eden_disk.specs.Told.{LeavesOnly, ThroughActs, EachMoment}
use Rattle.eden_disk.specs.Calls.{Counts, DeviceCall, DeviceCalls, IsCounted, more_by, WantsAfter, faults_after, stops_after, End, Fine}
use Rattle.eden_disk.specs.Calls.{AtFault, AtStop, IsCut, ReadTold, SyncTold, WriteTold, Due, is_due, Obeys, Obeyed, IsAsDue}
use Rattle.eden_disk.specs.Held.{Holds, Passes}

-- of a disk with nothing unsynced a crash leaves what is there
pub only_now : (bytes image : List ℕ) → Left (at_rest bytes) image → image ≡ bytes
only_now bytes image l = ext_get_or 0 image bytes l.size (λ k h. l.outside k refl)

pub holds_at_rest : (P : List ℕ → Type 0) (bytes : List ℕ) → P bytes → Holds P (at_rest bytes)
holds_at_rest P bytes p = record { now = p; left = λ image l. subst P (sym (only_now bytes image l)) p }

pub same_contents : (old new : Told) → new ≡ old → contents new ≡ contents old
same_contents old new e = ap contents e

passes_same : (P : List ℕ → Type 0) (old new : Told) → Holds P (contents old) → new ≡ old → Passes P old new
passes_same P old new h e =
    subst (Passes P old) (sym e) (record { after = h; moments = record { acts = []; image = refl; since = refl; leaves = h.left } })

passes_noted : (P : List ℕ → Type 0) (old new : Told) (act : Act) → Holds P (contents old) → Holds P (after_act act (contents old))
    → new ≡ noted act old → Passes P old new
passes_noted P old new act h after e =
    subst (Passes P old) (sym e) (record {
      after = after;
      moments = record { acts = act ∷ []; image = refl; since = refl; leaves = (after.left, h.left) };
    })

pub from_append : (c : Contents) (xs ys : List Act) → contents_from (contents_from c ys) xs ≡ contents_from c (xs ++ ys)
from_append c [] ys = refl
from_append c (x ∷ xs) ys = ap (after_act x) (from_append c xs ys)

-- the last state of a run leaves only what has P
through_last : (P : List ℕ → Type 0) (c : Contents) (ys : List Act) → ThroughActs P c ys → LeavesOnly P (contents_from c ys)
through_last P c [] a = a
through_last P c (y ∷ ys) a = a.0

through_append : (P : List ℕ → Type 0) (c : Contents) (xs ys : List Act) → ThroughActs P c ys → ThroughActs P (contents_from c ys) xs
    → ThroughActs P c (xs ++ ys)
through_append P c [] ys a b = a
through_append P c (x ∷ xs) ys a b = (subst (LeavesOnly P) (ap (after_act x) (from_append c xs ys)) b.0, through_append P c xs ys a b.1)

pub contents_since : (old new : Told) (acts : List Act) → new.image ≡ old.image → new.acts ≡ acts ++ old.acts
    → contents new ≡ contents_from (contents old) acts
contents_since old new acts i s = ap (λ b. contents_from (at_rest b) new.acts) i ∙ ap (contents_from (at_rest old.image)) s ∙ sym
    (from_append (at_rest old.image) acts old.acts)

through_weaker : (P Q : List ℕ → Type 0) → ((image : List ℕ) → P image → Q image) → (c : Contents) (acts : List Act)
    → ThroughActs P c acts → ThroughActs Q c acts
through_weaker P Q f c [] a = λ image l. f image (a image l)
through_weaker P Q f c (x ∷ xs) a = ((λ image l. f image (a.0 image l)), through_weaker P Q f c xs a.1)

-- two stretches of time, one behind the other
pub moments_join : (P : List ℕ → Type 0) (old mid new : Told) → EachMoment P old mid → EachMoment P mid new → EachMoment P old new
moments_join P old mid new a b = record {
  acts = b.acts ++ a.acts;
  image = b.image ∙ a.image;
  since = b.since ∙ ap (λ rest. b.acts ++ rest) a.since ∙ sym (append_assoc b.acts a.acts old.acts);
  leaves = through_append P (contents old) b.acts a.acts a.leaves
      (subst (λ c. ThroughActs P c b.acts) (contents_since old mid a.acts a.image a.since) b.leaves);
}

pub passes_join : (P : List ℕ → Type 0) (old mid new : Told) → Passes P old mid → Passes P mid new → Passes P old new
passes_join P old mid new a b = record { after = b.after; moments = moments_join P old mid new a.moments b.moments }

pub moments_weaker : (P Q : List ℕ → Type 0) (old new : Told) → ((image : List ℕ) → P image → Q image) → EachMoment P old new
    → EachMoment Q old new
moments_weaker P Q old new f m = record {
  acts = m.acts;
  image = m.image;
  since = m.since;
  leaves = through_weaker P Q f (contents old) m.acts m.leaves;
}

pub passes_weaker : (P Q : List ℕ → Type 0) (old new : Told) → ((image : List ℕ) → P image → Q image) → Passes P old new → Passes Q old new
passes_weaker P Q old new f p = record {
  after = record { now = f _ p.after.now; left = λ image l. f image (p.after.left image l) };
  moments = record {
    acts = p.moments.acts;
    image = p.moments.image;
    since = p.moments.since;
    leaves = through_weaker P Q f (contents old) p.moments.acts p.moments.leaves;
  };
}

-- A power cut, or a stop in a call that changes nothing.
pub passes_cut : (P : List ℕ → Type 0) (clock : ℕ) (old new : Told) → Holds P (contents old) → IsCut clock old new → Passes P old new
passes_cut P clock old new h (inl cut) = passes_noted P old new (Cut clock cut.0) h (holds_at_rest P cut.0 (h.left cut.0 cut.1)) cut.2
passes_cut P clock old new h (inr same) = passes_same P old new h same.1

-- A read keeps all, however it ends.
pub passes_read : (P : List ℕ → Type 0) (clock : ℕ) (old new : Told) (end : End) → Holds P (contents old) → ReadTold clock old new end
    → Passes P old new
passes_read P clock old new Fine h told = passes_same P old new h told
passes_read P clock old new AtFault h told = passes_same P old new h told
passes_read P clock old new AtStop h told = passes_cut P clock old new h told

-- So does a sync.
pub passes_sync : (P : List ℕ → Type 0) (clock : ℕ) (old new : Told) (end : End) → Holds P (contents old) → SyncTold clock old new end
    → Passes P old new
passes_sync P clock old new Fine h told = passes_noted P old new (Synced clock) h (holds_at_rest P (contents old).now h.now) told
passes_sync P clock old new AtFault h told = passes_same P old new h told
passes_sync P clock old new AtStop h told = passes_cut P clock old new h told

-- A write keeps what holds whichever bytes it leaves in its range.
pub passes_write : (P : List ℕ → Type 0) (clock at : ℕ) (bytes : List ℕ) (old new : Told) (end : End) → Holds P (contents old)
    → ((left : List ℕ) → length left ≡ length bytes → Holds P (after_act (Wrote clock at left) (contents old)))
    → WriteTold clock at bytes old new end → Passes P old new
passes_write P clock at bytes old new Fine h torn told = passes_noted P old new (Wrote clock at bytes) h (torn bytes refl) told
passes_write P clock at bytes old new AtFault h torn (inl same) = passes_same P old new h same
passes_write P clock at bytes old new AtFault h torn (inr some) = passes_noted P old new (Wrote clock at some.0) h
    (torn some.0 some.1) some.2
passes_write P clock at bytes old new AtStop h torn cut =
    let written = passes_noted P old (noted (Wrote clock at bytes) old) (Wrote clock at bytes) h (torn bytes refl) refl in
    passes_join P old (noted (Wrote clock at bytes) old) new written
    (passes_cut P clock (noted (Wrote clock at bytes) old) new (torn bytes refl) cut)

-- the count of wants never falls
pub wants_rise : (old new : ℕ) (end : End) → WantsAfter end old new → old ≤ new
wants_rise old new end (inl same) = omega arith
wants_rise old new end (inr more) = omega (arith, more.0)

not_fault : Fine ≢ AtFault
not_fault e = absurd cc

-- a call that was not refused found its memory
pub wants_same : (old new : ℕ) → WantsAfter Fine old new → new ≡ old
wants_same old new (inl same) = same
wants_same old new (inr more) = absurd (not_fault more.1)

pub calls_none : (old : Counts) → old.power ≡ true → DeviceCalls 0 old old Fine
calls_none old power = record {
  size = refl;
  power = power;
  clock = omega arith;
  faults = refl;
  stops = refl;
  wants = inl refl;
  counted = omega arith;
}

is_not_fault : (end : End) → end ≢ AtFault → (clock : ℕ) → (2 ^ 64 - 1 ≤ clock → end ≡ AtFault) → 1 ≤ 2 ^ 64 - 1 - clock
is_not_fault end other clock spent = elim
    (cases_lt clock (2 ^ 64 - 1)) [ inl below ↦ omega (arith, below) | inr above ↦ absurd (other (spent above)) ]

stop_is_not_fault : AtStop ≢ AtFault
stop_is_not_fault e = absurd cc

one_counted : (clock : ℕ) (end : End) → (2 ^ 64 - 1 ≤ clock → end ≡ AtFault) → IsCounted clock 1 end
one_counted clock Fine spent = is_not_fault Fine not_fault clock spent
one_counted clock AtFault spent = tt
one_counted clock AtStop spent = is_not_fault AtStop stop_is_not_fault clock spent

more_counted : (clock made between more : ℕ) (end : End) → between ≡ more_by made clock → IsCounted clock made Fine
    → IsCounted between more end → IsCounted clock (made + more) end
more_counted clock made between more Fine at a b = omega (arith, at, a, b)
more_counted clock made between more AtFault at a b = tt
more_counted clock made between more AtStop at a b = omega (arith, at, a, b)

pub calls_one : (old new : Counts) (end : End) → DeviceCall old new end → DeviceCalls 1 old new end
calls_one old new end d = record {
  size = d.size;
  power = d.power;
  clock = d.clock;
  faults = d.faults;
  stops = d.stops;
  wants = d.wants;
  counted = one_counted old.clock end d.spent;
}

pub calls_more : (made more : ℕ) (old mid new : Counts) (end : End) → DeviceCalls made old mid Fine → DeviceCalls more mid new end
    → DeviceCalls (made + more) old new end
calls_more made more old mid new end a b = record {
  size = b.size ∙ a.size;
  power = b.power;
  clock = omega (arith, a.clock, b.clock);
  faults = b.faults ∙ ap (faults_after end) a.faults;
  stops = b.stops ∙ ap (stops_after end) a.stops;
  wants = subst (λ n. WantsAfter end n new.wants) (wants_same old.wants mid.wants a.wants) b.wants;
  counted = more_counted old.clock made mid.clock more end a.clock a.counted b.counted;
}

by_due : (spent stop failure : Bool) (end : End) → spent ≡ false
    → end ≡ (if spent then AtFault else (if stop then AtStop else (if failure then AtFault else Fine))) → IsAsDue stop failure end
by_due true stop failure end unspent e = absurd (false≢true (sym unspent))
by_due false stop failure Fine unspent e = tt
by_due false true failure AtFault unspent e = absurd cc
by_due false false true AtFault unspent e = refl
by_due false false false AtFault unspent e = absurd cc
by_due false true failure AtStop unspent e = refl
by_due false false true AtStop unspent e = absurd cc
by_due false false false AtStop unspent e = absurd cc

pub obeyed_none : (due : Due) (old : Counts) → Obeyed due due old old Fine
obeyed_none due old = record { kept = refl; fell = λ a b c. tt }

pub obeyed_one : (old new : Due) (before after : Counts) (end : End) → DeviceCall before after end → Obeys old new before after end
    → Obeyed old new before after end
obeyed_one old new before after end d o = record {
  kept = o.kept;
  fell = λ same some below.
      let next : after.clock ≡ before.clock + 1 = omega (arith, d.clock, below) in
      subst (λ n. IsAsDue (is_due old.stop n) (is_due old.failure n) end) (sym next)
      (by_due (before.clock == 2 ^ 64 - 1) (is_due old.stop (before.clock + 1)) (is_due old.failure (before.clock + 1)) end
      (grind (arith, nat_tests, next, below)) (o.when same some));
}

pub obeyed_more : (made more : ℕ) (old mid new : Due) (before between after : Counts) (end : End) → DeviceCalls made before between Fine
    → DeviceCalls more between after end →
    Obeyed old mid before between Fine → Obeyed mid new between after end → Obeyed old new before after end
obeyed_more made more old mid new before between after end a b o q = record {
  kept = q.kept ∙ o.kept;
  fell = λ same some below.
      let level : between.wants ≡ before.wants = wants_same before.wants between.wants a.wants in
      subst (λ (d : Due). IsAsDue (is_due d.stop after.clock) (is_due d.failure after.clock) end) o.kept
      (q.fell (omega (arith, same, level)) (omega (arith, some, level)) below);
}
