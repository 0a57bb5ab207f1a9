-- The opening of a store at a boot: which state is there, and what the opening did to the disk.
use Rattle.std.proofs.Common.{◌≡◌, inl, inr, ℕ, ◌<◌, ◌≤◌, Bool, true, false, List, [], ◌∷◌, length, Option, None, Some, Result, Ok, Err}
use Rattle.std.proofs.Common.{is_some, refl, sym, ap, subst, ◌∙◌, arith}
use Rattle.std.specs.Prelude.{IsTrue}
use Rattle.std.specs.FinMap as finite
use Rattle.capability.specs.declared.Uid.{Uid}
use Rattle.eden_disk.specs.Told.{Act, Told, contents, contents_from, Left, LeavesOnly, ThroughActs, EachMoment}
use Rattle.eden_disk.specs.Calls.{Counts, DeviceCalls, End, Fine, AtFault, AtStop}
use Rattle.eden_disk.specs.Held.{Holds}
use Rattle.eden_disk.proofs.Held.{contents_since, moments_weaker}
use Rattle.eden_disk.specs.Timed.{Timed}
use Rattle.passive_store.specs.Acts.{DiskCall, AllTold, CallsTold}
use Rattle.passive_store.specs.declared.store.Pick.{Pick}
use Rattle.passive_store.specs.declared.store.Pick.TheVariants as pick
use Rattle.passive_store.specs.declared.store.Doubt.{Doubt}
use Rattle.passive_store.specs.declared.store.StoreRefusal.{StoreRefusal}
use Rattle.passive_store.specs.declared.store.StoreRefusal.TheVariants as refusal
use Rattle.passive_store.specs.Kept.{Layout, Kept, Idle, kept_after, changes_in, LeavesKept, OpeningTold, IsOverfullBy, IsOverfull}
use Rattle.passive_store.specs.Kept.{IsDamagedFrom}
use Rattle.passive_store.specs.Layout.{IsLayout}
use Rattle.passive_store.specs.Seen.{Seen, DiskSeen, Opens, opened}
use Rattle.passive_store.specs.Kept.{StoreChange, Stands as StandsKept, IsAnyOf as IsAnyKept}
use Rattle.journal.specs.EjectChange.{EjectChange}
use Rattle.journal.specs.World.{Site, on_node}
use Rattle.journal.specs.Settling.{settled}
use Rattle.journal.specs.Standing.{Stands, with_changes}
use Rattle.checkpoint.specs.Found.{standing_of}
use Rattle.checkpoint.proofs.Found.{kept-moments, kept-left}
use Rattle.checkpoint.specs.StoreStands.{state_of, NodeOnDisk, MapStands}
use Rattle.checkpoint.specs.Turns.{RestStands, IsNoted}
use Rattle.checkpoint.specs.Booting.{PicksBy, OpensTo, NotOpened, RefusedTo}
use Rattle.checkpoint.proofs.Throughout.{stands-more}
use Rattle.checkpoint.proofs.Stretches.{stretch-weaker}
use Rattle.checkpoint.proofs.CallStretches.{some-calls}
use Rattle.checkpoint.proofs.MapStands.{state-is}
use Rattle.checkpoint.proofs.Changed.{picked_kept, map-settled, map-clock}
use Rattle.checkpoint.proofs.Frames.{doubted-is}
use Rattle.checkpoint.proofs.Picks.{picked-back}

-- 1. What the store says of an opening, over plain values

pub record OpenedOnce (layout : Layout) (n : ℕ) (told : Told) (counts : Counts) (y : Seen) : Type 0 where
  pub whole : Left (contents told) (contents told).now
  pub idle : y.work ≡ Idle
  pub made : ℕ
  pub counted : DeviceCalls made counts y.disk.counts Fine
  pub number : made ≡ length (layout.opening_calls n (contents told).now)
  pub order : AllTold (layout.opening_calls n (contents told).now) told y.disk.told
  pub timed : Timed counts.clock told y.disk.counts.clock y.disk.told
  pub map : layout.map_of n (contents told).now ≡ Ok y.kept
  pub more : y.more ≡ layout.changes_told n (contents told).now
  pub stands : LeavesKept layout n y.more y.kept Idle y.disk.told
  pub sized : length (contents told).now ≡ counts.size
  pub moments : (more : ℕ) (kept : Kept) (changes : List StoreChange) → Holds (StandsKept layout n more kept changes) (contents told)
      → EachMoment (StandsKept layout n more kept changes) told y.disk.told

-- 2. The opening and the disk

clock-rises : (made : ℕ) (before after : Counts) → 1 ≤ made → DeviceCalls made before after Fine → before.clock < after.clock
clock-rises made before after some d = omega (arith, d.clock, d.counted, some)

opening-stretch : (layout : Layout) (n more : ℕ) (s next : Site) (kept : Kept) (d : Option StoreChange) (told : Told) (counts : Counts)
    (y : Seen) (put : List (Uid × EjectChange))
    → MapStands n s kept d → MapStands n next y.kept None → LeavesOnly (StandsKept layout n more kept (changes_in d)) (contents told)
    → OpenedOnce layout n told counts y
    → 1 ≤ length (layout.opening_calls n (contents told).now)
    → NodeOnDisk layout n s.node put next.node told counts.clock y.disk.told y.disk.counts.clock
opening-stretch layout n more s next kept d told counts y put m k stands o some =
    some-calls (Stands layout n (state_of n s.node)) (Stands layout n (with_changes put (state_of n s.node)))
    (Stands layout n (state_of n next.node))
    (layout.opening_calls n (contents told).now) told y.disk.told counts.clock y.disk.counts.clock Fine o.timed o.order
    (moments_weaker (Stands layout n (standing_of kept (changes_in d)))
    (Stands layout n (with_changes put (state_of n s.node))) told y.disk.told
    (λ image is. stands-more layout n put (state_of n s.node) image (subst (λ x. Stands layout n x image) (sym here) is))
    (kept-moments layout n more kept (changes_in d) told y.disk.told
    (o.moments more kept (changes_in d) (record { now = stands (contents told).now o.whole; left = stands }))))
    (λ image left. subst (λ x. Stands layout n x image) (sym there) (kept-left layout n y.more y.kept [] y.disk.told o.stands image left))
    (λ e. absurd (cc e))
    (λ same. absurd (omega (arith, same, clock-rises o.made counts y.disk.counts (omega (arith, some, o.number)) o.counted)))
  where
    here : state_of n s.node ≡ standing_of kept (changes_in d)
    here = state-is n s kept d m

    there : state_of n next.node ≡ standing_of y.kept []
    there = state-is n next y.kept None k

-- 3. Which state is there

same-ok : (a b : Kept) → ◌≡◌ {A = Result Kept ℕ} (Ok a) (Ok b) → a ≡ b
same-ok a b e = cc e

-- what was found of a doubt, and by which pick
pub record Found (kept : Kept) (c : StoreChange) (found : Kept) (p : Option Pick) : Type 0 where
  pub pick_is : Pick
  pub is : p ≡ Some pick_is
  pub state : found ≡ picked_kept pick_is c kept

found-by : (kept : Kept) (c : StoreChange) (found : Kept) (p : Option Pick)
    → PicksBy (Some (record { uid = c.uid; mark = finite.get kept.marks c.uid })) found p → IsAnyKept kept (c ∷ []) (Ok found)
    → Found kept c found p
found-by kept c found p (inl old) (inl is) = record { pick_is = pick.Old; is = old.0; state = same-ok found kept is }
found-by kept c found p (inr new) (inl is) = absurd (new.1 (ap (λ (k : Kept). finite.get k.marks c.uid) (same-ok found kept is)))
found-by kept c found p (inl old) (inr is) = absurd
    (is.0 (ap (λ (k : Kept). finite.get k.marks c.uid) (sym (same-ok found (kept_after c kept) is.1)) ∙ old.1))
found-by kept c found p (inr new) (inr is) = record { pick_is = pick.New; is = new.0; state = same-ok found (kept_after c kept) is.1 }

-- an image that keeps something is of an allowed size, and its opening makes a device call
some-call : (layout : Layout) (n : ℕ) (image : List ℕ) (kept : Kept) → IsLayout layout → layout.map_of n image ≡ Ok kept
    → 1 ≤ length (layout.opening_calls n image)
some-call layout n image kept l is = go (layout.allows (length image)) refl
  where
    go : (b : Bool) → layout.allows (length image) ≡ b → 1 ≤ length (layout.opening_calls n image)
    go true allowed = l.opens n image allowed
    go false not = absurd (let bad : Err 0 ≡ Ok kept = sym (l.sized n image not) ∙ is in cc bad)

opens-with : (layout : Layout) (n more : ℕ) (s : Site) (noted : Option Doubt) (kept : Kept) (d : Option StoreChange) (told : Told)
    (counts : Counts) (y : Seen) (p : Option Pick)
    → IsLayout layout → s.number ≡ n → s.layout ≡ layout → s.node.size ≡ counts.size → MapStands n s kept d → IsNoted kept d noted
    → LeavesOnly (StandsKept layout n more kept (changes_in d)) (contents told)
    → PicksBy noted y.kept p → OpenedOnce layout n told counts y → OpensTo layout n more s told counts.clock p y
opens-with layout n more s noted kept None told counts y p law number its_layout its_size m is_noted stands picks o = record {
  picked = ap (λ (x : Option Pick). is_some x) none ∙ sym (doubted-is layout n s kept None number m);
  idle = o.idle;
  keeps = keeps;
  its_size = its_size ∙ sym o.counted.size;
  told = subst (λ k. more ≤ k) (sym o.more) here.told;
  stands = o.stands;
  disk = λ put. opening-stretch layout n more s (settled p s) kept None told counts y put m keeps stands o
      (some-call layout n (contents told).now y.kept law o.map);
  back = λ put image is. subst (λ x. Stands layout n (with_changes put (state_of n (settled x s).node)) image) none is;
}
  where
    here : StandsKept layout n more kept [] (contents told).now
    here = stands (contents told).now o.whole

    none : p ≡ None
    none = subst (λ x. PicksBy x y.kept p) is_noted picks

    same : y.kept ≡ kept
    same = same-ok y.kept kept (sym o.map ∙ here.found)

    keeps : MapStands n (settled p s) y.kept None
    keeps = subst (λ x. MapStands n (settled x s) y.kept None) (sym none) (subst (λ k. MapStands n s k None) (sym same) m)
opens-with layout n more s noted kept (Some c) told counts y p law number its_layout its_size m is_noted stands picks o = record {
  picked = ap (λ (x : Option Pick). is_some x) f.is ∙ sym (doubted-is layout n s kept (Some c) number m);
  idle = o.idle;
  keeps = keeps;
  its_size = its_size ∙ sym o.counted.size;
  told = subst (λ k. more ≤ k) (sym o.more) here.told;
  stands = o.stands;
  disk = λ put. opening-stretch layout n more s (settled p s) kept (Some c) told counts y put m keeps stands o
      (some-call layout n (contents told).now y.kept law o.map);
  back = λ put image is. subst (λ x. Stands layout n (with_changes put x) image) (sym (state-is n s kept (Some c) m))
      (picked-back layout n f.pick_is c kept put image (subst (λ k. Stands layout n (with_changes put (standing_of k [])) image) f.state
      (subst (λ x. Stands layout n (with_changes put x) image) (state-is n (settled p s) y.kept None keeps) is)));
}
  where
    here : StandsKept layout n more kept (c ∷ []) (contents told).now
    here = stands (contents told).now o.whole

    f : Found kept c y.kept p
    f = found-by kept c y.kept p (subst (λ x. PicksBy x y.kept p) is_noted picks) (subst (IsAnyKept kept (c ∷ [])) o.map here.found)

    keeps : MapStands n (settled p s) y.kept None
    keeps = subst (λ x. MapStands n (settled x s) y.kept None) (sym f.is)
        (subst (λ k. MapStands n (settled (Some f.pick_is) s) k None) (sym f.state) (map-settled n f.pick_is c s kept number m))

pub opens-to : (layout : Layout) (n more : ℕ) (s : Site) (noted : Option Doubt) (told : Told) (counts : Counts) (y : Seen) (p : Option Pick)
    → IsLayout layout
    → RestStands layout n more s noted counts.size counts.clock told → PicksBy noted y.kept p → OpenedOnce layout n told counts y
    → OpensTo layout n more s told counts.clock p y
opens-to layout n more s noted told counts y p law h picks o =
    opens-with layout n more s noted h.kept h.doubt told counts y p law h.number h.its_layout h.its_size h.keeps h.is_noted h.stands picks o

-- 4. An opening that was refused

pub record RefusedOnce (S : Type 0) (layout : Layout) (n : ℕ) (told : Told) (counts : Counts) (e : StoreRefusal) (new : Told)
    (after : Counts) : Type 0 where
  pub whole : Left (contents told) (contents told).now
  pub its_size : after.size ≡ counts.size
  pub timed : Timed counts.clock told after.clock new
  pub order : OpeningTold {S = S} (layout.opening_calls n (contents told).now) told new (Err e)
  pub damaged : (place : ℕ) → e ≡ refusal.Damaged place → layout.map_of n (contents told).now ≡ Err place
  pub full : IsOverfullBy {S = S} (layout.is_overfull n (contents told).now) (Err e)
  pub allowed : layout.allows counts.size ≡ false → e ≡ refusal.Damaged 0
  pub moments : (more : ℕ) (kept : Kept) (changes : List StoreChange) → Holds (StandsKept layout n more kept changes) (contents told)
      → EachMoment (StandsKept layout n more kept changes) told new
  pub overfull : (kept : Kept) → Holds (IsOverfull layout n kept) (contents told) → EachMoment (IsOverfull layout n kept) told new
  pub unmapped : (place : ℕ) → Holds (IsDamagedFrom layout n place) (contents told) → EachMoment (IsDamagedFrom layout n place) told new

-- at the end of a stretch too
pub last-moment : (P : List ℕ → Type 0) (old new : Told) → EachMoment P old new → LeavesOnly P (contents new)
last-moment P old new each image left = go each.acts each.leaves image
    (subst (λ c. Left c image) (contents_since old new each.acts each.image each.since) left)
  where
    go : (acts : List Act) → ThroughActs P (contents old) acts → (image : List ℕ) → Left (contents_from (contents old) acts) image → P image
    go [] t image l = t image l
    go (act ∷ acts) t image l = t.0 image l

not-ok : (kept : Kept) (d : Option StoreChange) (place : ℕ) → IsAnyKept kept (changes_in d) (Err place) → ⊥
not-ok kept None place is = cc is
not-ok kept (Some c) place (inl is) = cc is
not-ok kept (Some c) place (inr is) = let bad : Err place ≡ Ok (kept_after c kept) = is.1 in cc bad

pub is-allowed : (b : Bool) → (b ≡ false → ⊥) → IsTrue b
is-allowed true h = refl
is-allowed false h = absurd (h refl)

not-opened : (O : Type 0) (layout : Layout) (n more : ℕ) (s : Site) (noted : Option Doubt) (told : Told) (counts : Counts)
    (e : StoreRefusal) (new : Told) (after : Counts) (calls : List DiskCall) (end : End)
    → RestStands layout n more s noted counts.size counts.clock told
    → RefusedOnce O layout n told counts e new after → CallsTold calls told new end
    → NotOpened layout n more s noted told counts.clock new after
unfolding on_node
not-opened O layout n more s noted told counts e new after calls end h r order = record {
  rests = record {
    number = h.number;
    its_layout = h.its_layout;
    is_down = h.is_down;
    queue = h.queue;
    unsynced = h.unsynced;
    its_size = h.its_size ∙ sym r.its_size;
    its_clock = refl;
    not_overfull = h.not_overfull;
    kept = h.kept;
    doubt = h.doubt;
    keeps = map-clock n after.clock s h.kept h.doubt h.keeps;
    is_noted = h.is_noted;
    fresh = h.fresh;
    stands = last-moment (StandsKept layout n more h.kept (changes_in h.doubt)) told new each;
  };
  disk = λ put. stretch-weaker S S S (Stands layout n (with_changes put (state_of n s.node))) S S told new counts.clock after.clock
      (some-calls S S S calls told new counts.clock after.clock end r.timed order moments (last-moment S told new moments)
      (λ stop image is. is) (λ same image is. is))
      (λ image is. is) (λ image is. stands-more layout n put (state_of n s.node) image is) (λ image is. is);
}
  where
    S : List ℕ → Type 0
    S = Stands layout n (state_of n s.node)

    each : EachMoment (StandsKept layout n more h.kept (changes_in h.doubt)) told new
    each = r.moments more h.kept (changes_in h.doubt) (record { now = h.stands (contents told).now r.whole; left = h.stands })

    moments : EachMoment (Stands layout n (state_of n s.node)) told new
    moments = subst (λ x. EachMoment (Stands layout n x) told new) (sym (state-is n s h.kept h.doubt h.keeps))
        (kept-moments layout n more h.kept (changes_in h.doubt) told new each)

pub refused-to : (O : Type 0) (layout : Layout) (n more : ℕ) (s : Site) (noted : Option Doubt) (told : Told) (counts : Counts)
    (e : StoreRefusal) (new : Told) (after : Counts) → RestStands layout n more s noted counts.size counts.clock told
    → RefusedOnce O layout n told counts e new after → RefusedTo layout n more s noted told counts.clock e new after
refused-to O layout n more s noted told counts refusal.Failed new after h r = (
  subst (λ k. IsTrue (layout.allows k)) (sym h.its_size)
      (is-allowed (layout.allows counts.size) (λ none. let bad = r.allowed none in cc bad)),
  not-opened O layout n more s noted told counts refusal.Failed new after (layout.opening_calls n (contents told).now) AtFault h r r.order,
)
refused-to O layout n more s noted told counts refusal.Stopped new after h r = (
  subst (λ k. IsTrue (layout.allows k)) (sym h.its_size)
      (is-allowed (layout.allows counts.size) (λ none. let bad = r.allowed none in cc bad)),
  not-opened O layout n more s noted told counts refusal.Stopped new after (layout.opening_calls n (contents told).now) AtStop h r r.order,
)
refused-to O layout n more s noted told counts refusal.Full new after h r = absurd
    (let bad : false ≡ true = sym (h.stands (contents told).now r.whole).opens ∙ r.full in cc bad)
refused-to O layout n more s noted told counts (refusal.Damaged place) new after h r =
    absurd (not-ok h.kept h.doubt place (subst (IsAnyKept h.kept (changes_in h.doubt)) (r.damaged place refl)
    (h.stands (contents told).now r.whole).found))
refused-to O layout n more s noted told counts refusal.OutOfMemory new after h r = not-opened O layout n more s noted told counts
    refusal.OutOfMemory new after r.order.0 Fine h r r.order.3

-- 5. From what the trait says of an opening

pub opened-once : (tells obeys : Bool) (layout : Layout) (n : ℕ) (x y : DiskSeen) (s : Seen) → IsTrue tells
    → Left (contents x.told) (contents x.told).now
    → Opens tells obeys layout n (Ok s) x y → y ≡ s.disk → OpenedOnce layout n x.told x.counts s
opened-once tells obeys layout n x y s so whole f same = record {
  whole = whole;
  idle = f.idle.0;
  made = f.made;
  counted = subst (λ (d : DiskSeen). DeviceCalls f.made x.counts d.counts Fine) same f.counts;
  number = f.number so;
  order = subst (λ (d : DiskSeen). AllTold (layout.opening_calls n (contents x.told).now) x.told d.told) same (f.order so);
  timed = subst (λ (d : DiskSeen). Timed x.counts.clock x.told d.counts.clock d.told) same (f.timed so);
  map = f.map so;
  more = f.more so;
  stands = subst (λ (d : DiskSeen). LeavesKept layout n s.more s.kept Idle d.told) same (f.stands so);
  sized = f.whole so;
  moments = λ more kept changes holds. subst (λ (d : DiskSeen). EachMoment (StandsKept layout n more kept changes) x.told d.told) same
      (f.moments so more kept changes holds);
}

pub refused-once : (tells obeys : Bool) (layout : Layout) (n : ℕ) (x y : DiskSeen) (e : StoreRefusal) → IsTrue tells
    → Left (contents x.told) (contents x.told).now
    → (layout.allows x.counts.size ≡ false → e ≡ refusal.Damaged 0)
    → Opens tells obeys layout n (Err e) x y → RefusedOnce Seen layout n x.told x.counts e y.told y.counts
refused-once tells obeys layout n x y e so whole allowed f = record {
  whole = whole;
  its_size = f.counts.size;
  timed = f.timed so;
  order = f.order so;
  damaged = f.damaged so;
  full = f.full so;
  allowed = allowed;
  moments = f.moments so;
  overfull = f.overfull so;
  unmapped = f.unmapped so;
}

-- a refusal of two stores that are the same is the same; S is the type of the store
pub same-refusal : {S D : Type 0} (seen : S → Seen) (a b : D) (e f : StoreRefusal)
    → ◌≡◌ {A = Result S (D × StoreRefusal)} (Err (a, e)) (Err (b, f)) → e ≡ f
same-refusal seen a b e f is = let k : ◌≡◌ {A = Result Seen StoreRefusal} (Err e) (Err f) = ap (opened seen) is in cc k
