-- A disk that was opened, and some calls on it.
use Rattle.std.specs.Prelude.{◌≡◌, ℕ, Bool, true, false, IsTrue, List, [], ◌∷◌, ◌++◌, Result, Ok, Err}
use Rattle.std.proofs.Common.{refl, sym, ap, subst, ◌∙◌, inl, inr}
use Rattle.std.proofs.lemmas.Bool.{false≢true}
use Rattle.eden_disk.specs.Told.{Act, Contents, Told, contents, contents_from, at_rest, Left, LeavesOnly, ThroughActs, EachMoment}
use Rattle.eden_disk.specs.Calls.{one_more}
use Rattle.eden_disk.proofs.Held.{from_append}
use Rattle.passive_store.specs.declared.store.StoreRefusal.{StoreRefusal}
use Rattle.passive_store.specs.declared.store.StoreRefusal.TheVariants.{Failed, Damaged}
use Rattle.passive_store.specs.Kept.{Kept, Layout, Stands, IsDamagedFrom, IsOverfull}
use Rattle.passive_store.specs.Layout.{IsLayout}
use Rattle.passive_store.specs.Seen.{Seen, DiskSeen, Opens}
use Rattle.twin_store.specs.Footings.{Footing, Standing, TooMuch, MayFind, IsFooted}
use Rattle.twin_store.specs.Footings.{Damaged as DamagedFrom}
use Rattle.twin_store.specs.Serving.{Same}
use Rattle.twin_store.specs.Vouched.{bodies_found}
use Rattle.twin_store.specs.Sides.{SideSeen, InUse, Away, is_in_use, disk_of, SideGoes, IsOpenedSide, IsOpenedBy, IsLostDisk}
use Rattle.twin_store.specs.Sides.{RoseOnce, FitsOrFailed}
use Rattle.twin_store.proofs.Serving.{leaves_sure}
use Rattle.twin_store.proofs.Vouching.{one_of, found_in}
use Rattle.twin_store.proofs.Going.{used_or_not}

-- 1. One call

through_last : (P : List ℕ → Type 0) (c : Contents) (acts : List Act) → ThroughActs P c acts → LeavesOnly P (contents_from c acts)
through_last P c [] h = h
through_last P c (act ∷ acts) h = h.0

pub last_moment : (P : List ℕ → Type 0) (old new : Told) → EachMoment P old new → LeavesOnly P (contents new)
last_moment P old new m =
    let same : contents new ≡ contents_from (contents old) m.acts =
    ap (λ (acts : List Act). contents_from (at_rest new.image) acts) m.since
    ∙ (ap (λ image. contents_from (at_rest image) (m.acts ++ old.acts)) m.image
    ∙ sym (from_append (at_rest old.image) m.acts old.acts)) in
    subst (LeavesOnly P) (sym same) (through_last P (contents old) m.acts m.leaves)

-- what an opening keeps of the images
pub footing_kept : (tells obeys : Bool) (layout : Layout) (node : ℕ) (r : Result Seen StoreRefusal) (old new : DiskSeen)
    → Opens tells obeys layout node r old new → (IsTrue tells → Left (contents old.told) (contents old.told).now) → IsTrue tells
    → (f : Footing) → IsFooted layout node f old.told → IsFooted layout node f new.told
footing_kept tells obeys layout node r old new o whole so (Standing kept changes) h =
    last_moment (Stands layout node 0 kept changes) old.told new.told
    (o.moments so 0 kept changes (record { now = h (contents old.told).now (whole so); left = h }))
footing_kept tells obeys layout node r old new o whole so (DamagedFrom place) h =
    last_moment (IsDamagedFrom layout node place) old.told new.told
    (o.unmapped so place (record { now = h (contents old.told).now (whole so); left = h }))
footing_kept tells obeys layout node r old new o whole so (TooMuch kept) h =
    last_moment (IsOverfull layout node kept) old.told new.told
    (o.overfull so kept (record { now = h (contents old.told).now (whole so); left = h }))

pub opened_ok : (tells obeys : Bool) (layout : Layout) (node : ℕ) (old : DiskSeen) (s : Seen)
    → Opens tells obeys layout node (Ok s) old s.disk
    → (IsTrue tells → Left (contents old.told) (contents old.told).now) → IsOpenedSide tells layout node old (InUse s)
opened_ok tells obeys layout node old s o whole = record {
  by = record {
    size = o.counts.size;
    used = λ on. o.counts.faults;
    away = λ off. absurd (false≢true (sym off));
    fits = λ so on. o.full so;
  };
  stops = o.counts.stops;
  ready = record { node_is = o.node_is; idle = o.idle.0; power = o.counts.power };
  kept = λ so on. leaves_sure layout node s.more s.kept (λ m. Same m s.kept.bodies) s.disk.told (o.stands so) (λ uid. refl);
  stands = λ so f h. subst (MayFind f) (o.map so) (found_in layout node f (contents old.told).now (h (contents old.told).now (whole so)));
  found = λ so f h. found_in layout node f (contents old.told).now (h (contents old.told).now (whole so));
  sound = λ so l on uid body e. l.own node (contents old.told).now s.kept (o.map so) uid body e;
  map = λ so on. ap bodies_found (o.map so);
}

pub opened_failed : (tells obeys : Bool) (layout : Layout) (node : ℕ) (old new : DiskSeen)
    → Opens tells obeys layout node (Err Failed) old new
    → (IsTrue tells → Left (contents old.told) (contents old.told).now) → IsOpenedSide tells layout node old (Away new)
opened_failed tells obeys layout node old new o whole = record {
  by = record {
    size = o.counts.size;
    used = λ on. absurd (false≢true on);
    away = λ off. inl o.counts.faults;
    fits = λ so on. absurd (false≢true on);
  };
  stops = o.counts.stops;
  ready = tt;
  kept = λ so on. absurd (false≢true on);
  stands = λ so f h. footing_kept tells obeys layout node (Err Failed) old new o whole so f h;
  found = λ so f h. found_in layout node f (contents old.told).now (h (contents old.told).now (whole so));
  sound = λ so l on. absurd (false≢true on);
  map = λ so on. absurd (false≢true on);
}

pub opened_damaged : (tells obeys : Bool) (layout : Layout) (node place : ℕ) (old new : DiskSeen)
    → Opens tells obeys layout node (Err (Damaged place)) old new
    → (IsTrue tells → Left (contents old.told) (contents old.told).now) → IsOpenedSide tells layout node old (Away new)
opened_damaged tells obeys layout node place old new o whole = record {
  by = record {
    size = o.counts.size;
    used = λ on. absurd (false≢true on);
    away = λ off. inr (o.counts.faults, λ so. (place, o.damaged so place refl));
    fits = λ so on. absurd (false≢true on);
  };
  stops = o.counts.stops;
  ready = tt;
  kept = λ so on. absurd (false≢true on);
  stands = λ so f h. footing_kept tells obeys layout node (Err (Damaged place)) old new o whole so f h;
  found = λ so f h. found_in layout node f (contents old.told).now (h (contents old.told).now (whole so));
  sound = λ so l on. absurd (false≢true on);
  map = λ so on. absurd (false≢true on);
}

-- 2. Some calls behind it

not_both : (place : ℕ) (kept : Kept) → (let r : Result Kept ℕ = Err place in r) ≡ Ok kept → ⊥
not_both place kept e = cc e

pub lost_behind : (tells : Bool) (layout : Layout) (node : ℕ) (old : DiskSeen) (mid new : SideSeen) → IsOpenedBy tells layout node old mid
    → SideGoes mid new → is_in_use new ≡ false → IsLostDisk tells layout node old (disk_of new)
lost_behind tells layout node old mid new o g off =
    one_of (used_or_not (is_in_use mid)) (λ on. inl (g.rose on off ∙ ap one_more (o.used on)))
    (λ out. subst (λ s. IsLostDisk tells layout node old (disk_of s)) (sym (g.still out)) (o.away out))

pub opened_behind : (tells : Bool) (layout : Layout) (node : ℕ) (old : DiskSeen) (mid new : SideSeen) → IsOpenedBy tells layout node old mid
    → SideGoes mid new → IsOpenedBy tells layout node old new
opened_behind tells layout node old mid new o g = record {
  size = g.size ∙ o.size;
  used = λ on. let mid_on : is_in_use mid ≡ true = g.left on in g.same (on ∙ sym mid_on) ∙ o.used mid_on;
  away = λ off. lost_behind tells layout node old mid new o g off;
  fits = λ so on. o.fits so (g.left on);
}

-- an image that keeps too much has a map, and is not opened
pub fits_or_failed : (tells : Bool) (layout : Layout) (node : ℕ) (old : DiskSeen) (new : SideSeen) → IsTrue tells → IsLayout layout
    → IsOpenedBy tells layout node old new → FitsOrFailed layout node old (disk_of new)
fits_or_failed tells layout node old new so l o over =
    one_of (used_or_not (is_in_use new)) (λ on. absurd (false≢true (sym (o.fits so on) ∙ over)))
    (λ off. one_of (o.away off) (λ e. e) (λ r.
    let place : (place : ℕ) × (layout.map_of node (contents old.told).now ≡ Err place) = r.1 so in
    let kept : (kept : Kept) × (layout.map_of node (contents old.told).now ≡ Ok kept) = l.overfull node (contents old.told).now over in
    absurd (not_both place.0 kept.0 (sym place.1 ∙ kept.1))))

pub fits_in : (tells : Bool) (layout : Layout) (node : ℕ) (old one : DiskSeen) (mid new : SideSeen) → one ≡ disk_of new → IsTrue tells
    → IsLayout layout → IsOpenedBy tells layout node old mid → SideGoes mid new → FitsOrFailed layout node old one
fits_in tells layout node old one mid new is so l o g =
    subst (FitsOrFailed layout node old) (sym is)
    (fits_or_failed tells layout node old new so l (opened_behind tells layout node old mid new o g))

pub rose_by : (tells : Bool) (layout : Layout) (node : ℕ) (old : DiskSeen) (new : SideSeen) → IsOpenedBy tells layout node old new
    → RoseOnce old (disk_of new)
rose_by tells layout node old new o = one_of (used_or_not (is_in_use new)) (λ on. inl (o.used on))
    (λ off. one_of (o.away off) (λ e. inr e) (λ r. inl r.0))

pub rose_in : (tells : Bool) (layout : Layout) (node : ℕ) (old one : DiskSeen) (new : SideSeen) → one ≡ disk_of new
    → IsOpenedBy tells layout node old new → RoseOnce old one
rose_in tells layout node old one new is o = subst (RoseOnce old) (sym is) (rose_by tells layout node old new o)
