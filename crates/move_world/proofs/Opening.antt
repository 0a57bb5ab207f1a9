-- A disk that rests is opened again, and what its store then shows is the node, with its doubt settled.
use Rattle.std.proofs.Common.{◌≡◌, ◌⊎◌, inl, inr, ℕ, Bool, true, false, List, [], ◌∷◌, Option, None, Some, is_some, refl, sym, ap, subst}
use Rattle.std.proofs.Common.{◌∙◌}
use Rattle.std.specs.Prelude.{Result, Ok, Err, IfOk}
use Rattle.std.specs.Option.{option_map}
use Rattle.capability.specs.declared.Uid.{Uid}
use Rattle.eden_value.specs.Datum.{Datum}
use Rattle.eden_disk.specs.Told.{Act, Told, Contents, contents, contents_from, Left, LeavesOnly, ThroughActs, EachMoment}
use Rattle.eden_disk.specs.Calls.{IsCut}
use Rattle.eden_disk.specs.Held.{Holds}
use Rattle.eden_disk.proofs.Held.{contents_since, passes_cut}
use Rattle.passive_store.specs.declared.store.StoreRefusal.{StoreRefusal}
use Rattle.passive_store.specs.declared.store.StoreRefusal.TheVariants.{Failed, Stopped, Full, Damaged, OutOfMemory}
use Rattle.passive_store.specs.Kept.{Kept, Layout, StoreChange, Idle, LeavesKept, IsAnyOf, changes_in, doubt_in, body_at, kept_after}
use Rattle.passive_store.specs.Kept.{Stands as StandsFor}
use Rattle.passive_store.specs.Seen.{Seen, DiskSeen, Opens}
use Rattle.move_laws.specs.Wander.{Record}
use Rattle.move_laws.specs.World.{Node, Pick, Old, New, made_of, settled_by, SettlesAs, fallen}
use Rattle.move_laws.proofs.Hops.{settled-none}
use Rattle.eden_move.specs.Records.{record_in}
use Rattle.eden_move.specs.Minds.{Remembered}
use Rattle.eden_move.specs.Shown.{key, IsWanderer, ShowsDoubt, Shows, Stands, opened_node}
use Rattle.eden_move.proofs.Showing.{kept-put}
use Rattle.move_world.specs.Logs.{risen}
use Rattle.move_world.specs.InHand.{Rests, Serves, OpensNode}

-- 1. What is found

ok-one : {X Y : Type 0} (a b : X) → ◌≡◌ {A = Result X Y} (Ok a) (Ok b) → a ≡ b
ok-one a b e = cc e

not-any : (kept : Kept) (cs : List StoreChange) (place : ℕ) → IsAnyOf kept cs (Err place) → ⊥
not-any kept [] place e = cc e
not-any kept (c ∷ cs) place h = elim h [ inl e ↦ not-any kept cs place e | inr e ↦ not-any (kept_after c kept) cs place e.1 ]

-- what was found, by how the doubt was settled
abbrev Settling : ℕ → Kept → Node Datum → Type 0
Settling n found x = (pick : Option Pick) × SettlesAs pick x
    × ((u : Uid) → IsWanderer u → (settled_by pick x).kept u ≡ option_map record_in (body_at found (key n u)))

found-old : (n : ℕ) (kept found : Kept) (x : Node Datum) → kept ≡ found
    → ((u : Uid) → IsWanderer u → x.kept u ≡ option_map record_in (body_at kept (key n u)))
    → (u : Uid) → IsWanderer u → x.kept u ≡ option_map record_in (body_at found (key n u))
found-old n kept found x e same u w = same u w ∙ ap (λ k. option_map record_in (body_at k (key n u))) e

settling : (n : ℕ) (kept found : Kept) (x : Node Datum) (d : Option StoreChange) (o : Option (Uid × Record Datum)) → x.doubt ≡ o
    → ShowsDoubt n d o → ((u : Uid) → IsWanderer u → x.kept u ≡ option_map record_in (body_at kept (key n u)))
    → IsAnyOf kept (changes_in d) (Ok found) → Settling n found x
settling n kept found x None None is shows same any =
    (None, sym (ap is_some is), found-old n kept found x (sym (ok-one found kept any)) same)
settling n kept found x None (Some p) is shows same any = absurd shows
settling n kept found x (Some c) None is shows same any = absurd shows
settling n kept found x (Some c) (Some p) is shows same any = elim any [
  | inl e ↦ (Some Old, sym (ap is_some is), found-old n kept found x (sym (ok-one found kept e)) same)
  | inr e ↦ (
    Some New,
    sym (ap is_some is),
    λ u w. ap (λ (o : Option (Uid × Record Datum)). (made_of o x).kept u) is
        ∙ kept-put n p.0 p.1 c kept shows x.kept same u w
        ∙ ap (λ k. option_map record_in (body_at k (key n u))) (sym (ok-one found (kept_after c kept) e.1)),
  )
]

-- 2. An opening

-- what a crash may leave, and what a read sees
whole : (layout : Layout) (n : ℕ) (told : Told) (x : Node Datum) (r : Rests layout n told x) → Left (contents told) (contents told).now
    → Holds (StandsFor layout n r.more r.kept (changes_in (doubt_in r.work))) (contents told)
whole layout n told x r left = record { now = r.stands (contents told).now left; left = r.stands }

rises : (layout : Layout) (n : ℕ) (s : Seen) (m : Uid → Option Remembered) (x : Node Datum) → s.node ≡ n → s.work ≡ Idle
    → Shows s m (opened_node s) → LeavesKept layout n s.more s.kept Idle s.disk.told → Settling n s.kept x
    → (pick : Option Pick) × SettlesAs pick x × Serves layout n s m (risen pick x)
rises layout n s m x node idle shows stands f = (
  f.0,
  f.1,
  record {
    up = refl;
    node = node;
    shows = record {
      kept = λ u w. f.2 u w ∙ ap (λ k. option_map record_in (body_at s.kept (key k u))) (sym node);
      doubt = subst (λ o. ShowsDoubt s.node (doubt_in s.work) o) (sym (settled-none x f.0 f.1))
          (subst (λ work. ShowsDoubt s.node (doubt_in work) None) (sym idle) tt);
      active = shows.active;
      memory = shows.memory;
      fit = shows.fit;
    };
    stands = subst (λ k. LeavesKept layout k s.more s.kept s.work s.disk.told) (sym node)
        (subst (λ work. LeavesKept layout n s.more s.kept work s.disk.told) (sym idle) stands);
  },
)

-- the last moment of some leaves what each of them does
through-last : (P : List ℕ → Type 0) (c : Contents) (acts : List Act) → ThroughActs P c acts → LeavesOnly P (contents_from c acts)
through-last P c [] a = a
through-last P c (act ∷ acts) a = a.0

at-last : (P : List ℕ → Type 0) (old new : Told) → EachMoment P old new → LeavesOnly P (contents new)
at-last P old new m = subst (LeavesOnly P) (sym (contents_since old new m.acts m.image m.since)) (through-last P (contents old) m.acts
    m.leaves)

rests-on : (obeys : Bool) (layout : Layout) (n : ℕ) (e : Result Seen StoreRefusal) (old new : DiskSeen) (x : Node Datum)
    → Rests layout n old.told x → Left (contents old.told) (contents old.told).now → Opens true obeys layout n e old new
    → Rests layout n new.told x
rests-on obeys layout n e old new x r left o = record {
  down = r.down;
  kept = r.kept;
  more = r.more;
  work = r.work;
  stands = at-last (StandsFor layout n r.more r.kept (changes_in (doubt_in r.work))) old.told new.told
      (o.moments refl r.more r.kept (changes_in (doubt_in r.work)) (whole layout n old.told x r left));
  same = r.same;
  doubt = r.doubt;
}

-- an opening is refused by the disk, or for want of memory
refused-by : (obeys : Bool) (layout : Layout) (n : ℕ) (e : StoreRefusal) (old new : DiskSeen) (x : Node Datum) → Rests layout n old.told x
    → Left (contents old.told) (contents old.told).now → Opens true obeys layout n (Err e) old new
    → (e ≡ Failed) ⊎ ((e ≡ Stopped) ⊎ (e ≡ OutOfMemory))
refused-by obeys layout n Failed old new x r left o = inl refl
refused-by obeys layout n Stopped old new x r left o = inr (inl refl)
refused-by obeys layout n OutOfMemory old new x r left o = inr (inr refl)
refused-by obeys layout n Full old new x r left o =
    let is = (r.stands (contents old.told).now left).opens in absurd (cc (sym is ∙ o.full refl))
refused-by obeys layout n (Damaged place) old new x r left o =
    let found = (r.stands (contents old.told).now left).found in
    absurd (not-any r.kept (changes_in (doubt_in r.work)) place
    (subst (IsAnyOf r.kept (changes_in (doubt_in r.work))) (o.damaged refl place refl) found))

pub opens : (obeys : Bool) (layout : Layout) (n : ℕ) (e : Result Seen StoreRefusal) (old new : DiskSeen) (m : Uid → Option Remembered)
    (x : Node Datum)
    → Rests layout n old.told x → Left (contents old.told) (contents old.told).now → Opens true obeys layout n e old new
    → IfOk e (λ s. (s.disk ≡ new) × Shows s m (opened_node s)) → OpensNode layout n e m new.told x
opens obeys layout n (Ok s) old new m x r left o is =
    rises layout n s m x o.node_is (o.idle.0) is.1
    (subst (λ (d : DiskSeen). LeavesKept layout n s.more s.kept Idle d.told) (sym is.0) (o.stands refl))
    (settling n r.kept s.kept x (doubt_in r.work) x.doubt refl r.doubt r.same
    (subst (IsAnyOf r.kept (changes_in (doubt_in r.work))) (o.map refl) (r.stands (contents old.told).now left).found))
opens obeys layout n (Err e) old new m x r left o is =
    (refused-by obeys layout n e old new x r left o, rests-on obeys layout n (Err e) old new x r left o)

-- 3. A crash

-- a node that is down, as its store and its disk stand
pub rests : (layout : Layout) (n : ℕ) (s : Seen) (m : Uid → Option Remembered) (x : Node Datum) → x.up ≡ false → s.node ≡ n
    → Shows s m x → Stands layout s → Rests layout n s.disk.told x
rests layout n s m x down node shows stands = record {
  down = down;
  kept = s.kept;
  more = s.more;
  work = s.work;
  stands = subst (λ k. LeavesKept layout k s.more s.kept s.work s.disk.told) node stands;
  same = λ u w. shows.kept u w ∙ ap (λ k. option_map record_in (body_at s.kept (key k u))) node;
  doubt = subst (λ k. ShowsDoubt k (doubt_in s.work) x.doubt) node shows.doubt;
}

pub crashed : (layout : Layout) (n : ℕ) (s : Seen) (m : Uid → Option Remembered) (x : Node Datum) → Serves layout n s m x
    → Rests layout n s.disk.told (fallen x)
crashed layout n s m x v = record {
  down = refl;
  kept = s.kept;
  more = s.more;
  work = s.work;
  stands = subst (λ k. LeavesKept layout k s.more s.kept s.work s.disk.told) v.node v.stands;
  same = λ u w. v.shows.kept u w ∙ ap (λ k. option_map record_in (body_at s.kept (key k u))) v.node;
  doubt = subst (λ k. ShowsDoubt k (doubt_in s.work) x.doubt) v.node v.shows.doubt;
}

pub cut : (layout : Layout) (n clock : ℕ) (old new : Told) (x : Node Datum) → Rests layout n old x
    → Left (contents old) (contents old).now
    → IsCut clock old new → Rests layout n new x
cut layout n clock old new x r left cuts = record {
  down = r.down;
  kept = r.kept;
  more = r.more;
  work = r.work;
  stands = (passes_cut (StandsFor layout n r.more r.kept (changes_in (doubt_in r.work))) clock old new (whole layout n old x r left)
      cuts).after.left;
  same = r.same;
  doubt = r.doubt;
}
