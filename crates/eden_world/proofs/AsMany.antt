-- As many disks are given back as were handed in, whatever world the program stood for, and if it stood for none.
use Rattle.std.proofs.Common.{◌≡◌, ◌≤◌, ◌<◌, inl, inr, ℕ, suc, Bool, true, false, List, [], ◌∷◌, length, Option, None, Some, is_some, refl}
use Rattle.std.proofs.Common.{sym, ◌∙◌, ap, arith}
use Rattle.std.specs.Prelude.{slice_get}
use Rattle.std.specs.Option.{option_map}
use Rattle.epl_syntax.specs.Rules.OfTypes.{TypeList}
use Rattle.passive_store.specs.Seen.{Seen, DiskSeen}
use Rattle.journal.specs.declared.event.Entry.{Entry}
use Rattle.disk_faults.specs.Runs.{EntryShows}
use Rattle.disk_faults.specs.Shows.{IsLeftOf}
use Rattle.runs.specs.Machines.{IsLeft, ShowsAll, ShowsOne, ShowsPart}
use Rattle.eden_world.specs.InHand.{place_at, seen_at}
use Rattle.eden_world.specs.Seated.{AreGiven, Begins, EachShows, FitsTogether, KeepsDisks}
use Rattle.eden_world.specs.Worlds.{IsNumber}
use Rattle.eden_world.specs.declared.World.{World as Program}
use Rattle.eden_world.proofs.LegalDisks.{disk_at, first-disk, seat-same}
use Rattle.eden_world.proofs.Stationed.{item-past, item-there}

-- 1. Along a run

module _ {T D : Type 0} (obeys : Bool) (seen : T → Seen) (look : D → DiskSeen) (n : ℕ) (number : IsNumber n) where
  abbrev has : Program T D → Bool
  has p = is_some (disk_at seen look n p)

  shows-same : (old new : Program T D) (e : Entry) → ShowsOne (EachShows obeys seen look) old e new → has new ≡ has old
  shows-same old new e (inl shown) =
      seat-same (EntryShows obeys n e) (seen_at seen look (place_at old n)) (seen_at seen look (place_at new n)) (shown n number)
  shows-same old new e (inr idle) = ap has idle.1

  pub all-same : (history : List Entry) (first last : Program T D) → ShowsAll (EachShows obeys seen look) first history last
      → has last ≡ has first
  all-same [] first last same = ap has same
  all-same (e ∷ history) first last (between, one, more) = all-same history between last more ∙ shows-same first between e one

  left-same : (old new : Program T D) → IsLeft (FitsTogether seen) (KeepsDisks obeys seen look) old new → has new ≡ has old
  left-same old new (inl left) =
      seat-same (IsLeftOf obeys) (seen_at seen look (place_at old n)) (seen_at seen look (place_at new n)) (left.left n number)
  left-same old new (inr same) = ap has same.0

  pub part-same : (history : List Entry) (first last : Program T D)
      → ShowsPart (EachShows obeys seen look) (FitsTogether seen) (KeepsDisks obeys seen look) first history last → has last ≡ has first
  part-same history first last (between, all, rest) = left-same between last rest ∙ all-same history first between all

-- 2. At the end

some-of : {X Y : Type 0} (f : X → Y) (o : Option X) → is_some (option_map f o) ≡ is_some o
some-of f None = refl
some-of f (Some x) = refl

-- two lists with items at the same places, of which each has eight at most, are of one length
same-length : {X Y : Type 0} (xs : List X) (ys : List Y) → length xs ≤ 8 → length ys ≤ 8
    → ((m : ℕ) → m < 8 → is_some (slice_get ys m) ≡ is_some (slice_get xs m)) → length ys ≡ length xs
same-length xs ys few fewer same = omega (arith, no_more, no_less)
  where
    no_more : length xs < length ys → ⊥
    no_more more =
        let bad : false ≡ true = sym (ap is_some (item-past xs (length xs) (omega arith)))
        ∙ sym (same (length xs) (omega (arith, more, fewer))) ∙ item-there ys (length xs) more in
        cc bad

    no_less : length ys < length xs → ⊥
    no_less less =
        let bad : false ≡ true = sym (ap is_some (item-past ys (length ys) (omega arith)))
        ∙ same (length ys) (omega (arith, less, few)) ∙ item-there xs (length ys) less in
        cc bad

pub as-many-back : {T D : Type 0} (seen : T → Seen) (look : D → DiskSeen) (types : TypeList) (before after : List D)
    (first last : Program T D) → length before ≤ 8 → length after ≤ 8 → Begins types before first → AreGiven seen look last after
    → ((n : ℕ) → IsNumber n → is_some (disk_at seen look n last) ≡ is_some (disk_at seen look n first)) → length after ≡ length before
as-many-back seen look types before after first last few fewer begins given same = same-length before after few fewer
    (λ m within. sym (some-of look (slice_get after m)) ∙ ap is_some (given m)
    ∙ same (suc m) (record { first = omega arith; last = omega (arith, within) })
    ∙ ap is_some (first-disk seen look types before first begins m) ∙ some-of look (slice_get before m))
