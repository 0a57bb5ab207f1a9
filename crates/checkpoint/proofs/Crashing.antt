-- A node that goes down, and one whose disk is armed.
use Rattle.std.proofs.Common.{◌≡◌, inl, inr, ℕ, zero, suc, List, [], ◌∷◌, Option, None, Some, refl, sym, ap, subst, ◌∙◌, arith}
use Rattle.std.specs.Prelude.{IfSome}
use Rattle.eden_disk.specs.Told.{Cut, Told, contents, noted, Left, LeavesOnly, EachMoment}
use Rattle.eden_disk.specs.Calls.{Counts, IsCut}
use Rattle.eden_disk.proofs.Held.{only_now}
use Rattle.eden_disk.proofs.Timed.{timed_cut}
use Rattle.passive_store.specs.declared.store.Doubt.{Doubt}
use Rattle.passive_store.specs.Kept.{Layout, Kept, Work, Idle, Busy, Unsettled, doubt_in, change_in, changes_in, unsure_in}
use Rattle.passive_store.specs.Kept.{uid_of_change, IsFresh}
use Rattle.passive_store.specs.Kept.{StoreChange, Stands as StandsKept}
use Rattle.std.specs.FinMap as finite
use Rattle.journal.specs.World.{Site, StoreRequest}
use Rattle.journal.specs.Crashes.{crashed}
use Rattle.journal.specs.Standing.{Stands, with_changes}
use Rattle.checkpoint.specs.Found.{standing_of}
use Rattle.checkpoint.proofs.Found.{kept-left}
use Rattle.checkpoint.specs.StoreStands.{state_of, NodeOnDisk, StoreStands}
use Rattle.checkpoint.specs.Turns.{with_clock, RestStands, IsNoted}
use Rattle.passive_store.specs.Seen.{Seen}
use Rattle.checkpoint.specs.Asked.{StandsNow, noted_in}
use Rattle.checkpoint.proofs.Throughout.{stands-more}
use Rattle.checkpoint.proofs.MapStands.{state-is}
use Rattle.checkpoint.proofs.StoreTurns.{map-crashed, rests, node-quiet}

-- 1. A power cut

cut-left : (P : List ℕ → Type 0) (clock : ℕ) (old new : Told) → LeavesOnly P (contents old) → IsCut clock old new
    → LeavesOnly P (contents new)
cut-left P clock old new h (inl cut) image left = let z : Left
    (contents (noted (Cut clock cut.0) old)) image = subst (λ (t : Told). Left (contents t) image) cut.2 left in
    subst P (sym (only_now cut.0 image z)) (h cut.0 cut.1)
cut-left P clock old new h (inr same) image left = h image (subst (λ (t : Told). Left (contents t) image) same.1 left)

cut-moments : (P : List ℕ → Type 0) (clock : ℕ) (old new : Told) → LeavesOnly P (contents old) → IsCut clock old new → EachMoment P old new
cut-moments P clock old new h (inl cut) = record {
  acts = Cut clock cut.0 ∷ [];
  image = ap (λ (t : Told). t.image) cut.2;
  since = ap (λ (t : Told). t.acts) cut.2;
  leaves = ((λ image left. subst P (sym (only_now cut.0 image left)) (h cut.0 cut.1)), h);
}
cut-moments P clock old new h (inr same) =
    record { acts = []; image = ap (λ (t : Told). t.image) same.1; since = ap (λ (t : Told). t.acts) same.1; leaves = h }

-- 2. What was noted

pub noted-is : (d : Option StoreChange) (shown : Kept) → IsNoted shown d (noted_in d shown)
noted-is None shown = refl
noted-is (Some c) shown = refl

pub fresh-doubt : (w : Work) (k : Kept) → IfSome (change_in w) (λ c. IsFresh c k) → IfSome (doubt_in w) (λ c. IsFresh c k)
fresh-doubt Idle k f = f
fresh-doubt (Busy c zero left) k f = tt
fresh-doubt (Busy c (suc made) left) k f = f
fresh-doubt (Unsettled c b) k f = f

pub noted-none : (w : Work) (shown : Kept) → unsure_in w ≡ None → noted_in (doubt_in w) shown ≡ None
noted-none w shown is = go (doubt_in w) is
  where
    go : (d : Option StoreChange) → uid_of_change d ≡ None → noted_in d shown ≡ None
    go None e = refl
    go (Some c) e = absurd (cc e)

pub noted-some : (w : Work) (shown : Kept) (doubt : Doubt) → unsure_in w ≡ Some doubt.uid → doubt.mark ≡ finite.get shown.marks doubt.uid
    → noted_in (doubt_in w) shown ≡ Some doubt
noted-some w shown doubt is mark = go (doubt_in w) is
  where
    go : (d : Option StoreChange) → uid_of_change d ≡ Some doubt.uid → noted_in d shown ≡ Some doubt
    go None e = absurd (cc e)
    go (Some c) e = let same : c.uid ≡ doubt.uid = cc e in λ i. Some
        (record { uid = same i; mark = (ap (λ u. finite.get shown.marks u) same ∙ sym mark) i })

-- 3. The node goes down

pub crash-rests : (layout : Layout) (n : ℕ) (s : Site) (requests : List StoreRequest) (x : Seen) (new : Told)
    → StandsNow layout n s requests x → IsCut x.disk.counts.clock x.disk.told new
    → RestStands layout n x.more (with_clock x.disk.counts.clock (crashed s))
    (noted_in (doubt_in x.work) x.kept) x.disk.counts.size x.disk.counts.clock new
crash-rests layout n s requests x new h cut =
    rests layout n x.more s x.kept (doubt_in x.work)
    (noted_in (doubt_in x.work) x.kept) x.disk.counts.size x.disk.counts.clock new h.number h.its_layout h.its_size h.not_overfull
    h.keeps (noted-is (doubt_in x.work) x.kept)
    (fresh-doubt x.work x.kept h.fresh) (cut-left
    (StandsKept layout n x.more x.kept (changes_in (doubt_in x.work))) x.disk.counts.clock x.disk.told new h.stands cut)

pub crash-on-disk : (layout : Layout) (n : ℕ) (s : Site) (requests : List StoreRequest) (x : Seen) (new : Told)
    → StandsNow layout n s requests x → IsCut x.disk.counts.clock x.disk.told new
    → NodeOnDisk layout n s.node [] (crashed s).node x.disk.told x.disk.counts.clock new x.disk.counts.clock
crash-on-disk layout n s requests x new h cut = record {
  timed = timed_cut x.disk.counts.clock x.disk.counts.clock x.disk.told new (omega arith) cut;
  moments = cut-moments (Stands layout n (with_changes [] (state_of n s.node))) x.disk.counts.clock x.disk.told new
      (λ image left. stands-more layout n [] (state_of n s.node) image
      (subst (λ z. Stands layout n z image) (sym here)
      (kept-left layout n x.more x.kept (changes_in (doubt_in x.work)) x.disk.told h.stands image left))) cut;
  behind = λ rises image left. absurd (omega (arith, rises));
  level = λ same image stood. subst (λ z. Stands layout n z image) (here ∙ sym there) stood;
}
  where
    here : state_of n s.node ≡ standing_of x.kept (changes_in (doubt_in x.work))
    here = state-is n s x.kept (doubt_in x.work) h.keeps

    there : state_of n (crashed s).node ≡ standing_of x.kept (changes_in (doubt_in x.work))
    there = state-is n (crashed s) x.kept (doubt_in x.work) (map-crashed n s x.kept (doubt_in x.work) h.keeps)

-- 4. An arming, which changes nothing

pub same-now : (layout : Layout) (n m : ℕ) (s : Site) (requests : List StoreRequest) (x y : Seen) → m ≡ n → y.work ≡ x.work
    → y.kept ≡ x.kept → y.more ≡ x.more → y.disk.counts ≡ x.disk.counts → y.disk.told ≡ x.disk.told → StandsNow layout n s requests x
    → StandsNow layout m s requests y
same-now layout n m s requests x y node work shown fit counts told h =
    subst (λ k. StandsNow layout k s requests y) (sym node)
    (subst (λ w. StoreStands layout n s requests w y.kept y.more y.disk.counts.size y.disk.counts.clock y.disk.told) (sym work)
    (subst (λ z. StoreStands layout n s requests x.work z y.more y.disk.counts.size y.disk.counts.clock y.disk.told) (sym shown)
    (subst (λ z. StoreStands layout n s requests x.work x.kept z y.disk.counts.size y.disk.counts.clock y.disk.told) (sym fit)
    (subst (λ (z : Counts). StoreStands layout n s requests x.work x.kept x.more z.size z.clock y.disk.told) (sym counts)
    (subst (λ z. StoreStands layout n s requests x.work x.kept x.more x.disk.counts.size x.disk.counts.clock z) (sym told) h)))))

-- an entry on the disk that changes nothing
pub still-on-disk : (layout : Layout) (n : ℕ) (s : Site) (requests : List StoreRequest) (x : Seen) → StandsNow layout n s requests x
    → NodeOnDisk layout n s.node [] s.node x.disk.told x.disk.counts.clock x.disk.told x.disk.counts.clock
still-on-disk layout n s requests x h = node-quiet layout n x.more s s x.kept x.work x.disk.told x.disk.counts.clock h.keeps h.keeps
    h.stands

-- 5. The same in the words of the disk that is left

-- the power was cut
pub record CutFrom (x : Seen) (counts : Counts) (told : Told) : Type 0 where
  pub clock : counts.clock ≡ x.disk.counts.clock
  pub size : counts.size ≡ x.disk.counts.size
  pub cut : IsCut x.disk.counts.clock x.disk.told told

pub crash-rests-so : (layout : Layout) (n : ℕ) (s : Site) (requests : List StoreRequest) (x : Seen) (counts : Counts) (told : Told)
    (noted : Option Doubt) → StandsNow layout n s requests x → CutFrom x counts told → noted ≡ noted_in (doubt_in x.work) x.kept
    → RestStands layout n x.more (with_clock counts.clock (crashed s)) noted counts.size counts.clock told
crash-rests-so layout n s requests x counts told noted h c is =
    subst (λ o. RestStands layout n x.more (with_clock counts.clock (crashed s)) o counts.size counts.clock told) (sym is)
    (subst (λ k. RestStands layout n x.more (with_clock k (crashed s)) (noted_in (doubt_in x.work) x.kept) counts.size k told) (sym c.clock)
    (subst (λ k. RestStands layout n x.more (with_clock x.disk.counts.clock (crashed s))
    (noted_in (doubt_in x.work) x.kept) k x.disk.counts.clock told) (sym c.size)
    (crash-rests layout n s requests x told h c.cut)))

pub crash-on-disk-so : (layout : Layout) (n : ℕ) (s : Site) (requests : List StoreRequest) (x : Seen) (counts : Counts) (told : Told)
    → StandsNow layout n s requests x → CutFrom x counts told
    → NodeOnDisk layout n s.node [] (crashed s).node x.disk.told x.disk.counts.clock told counts.clock
crash-on-disk-so layout n s requests x counts told h c =
    subst (λ k. NodeOnDisk layout n s.node [] (crashed s).node x.disk.told x.disk.counts.clock told k) (sym c.clock)
    (crash-on-disk layout n s requests x told h c.cut)

pub still-so : (layout : Layout) (n : ℕ) (s : Site) (requests : List StoreRequest) (x : Seen) (counts : Counts) (told : Told)
    → StandsNow layout n s requests x → counts ≡ x.disk.counts → told ≡ x.disk.told
    → NodeOnDisk layout n s.node [] s.node x.disk.told x.disk.counts.clock told counts.clock
still-so layout n s requests x counts told h same same_told =
    subst (λ (k : Counts). NodeOnDisk layout n s.node [] s.node x.disk.told x.disk.counts.clock told k.clock) (sym same)
    (subst (λ t. NodeOnDisk layout n s.node [] s.node x.disk.told x.disk.counts.clock t x.disk.counts.clock) (sym same_told)
    (still-on-disk layout n s requests x h))
