-- A program that begins over disks that are handed in stands for the opening world.
use Rattle.std.proofs.Common.{◌≡◌, ◌<◌, ℕ, zero, suc, ◌+◌, Bool, true, false, cond, List, [], ◌∷◌, map, length, Option, None, Some, refl, sym, ◌∙◌}
use Rattle.std.proofs.Common.{ap, subst, arith}
use Rattle.std.specs.Prelude.{slice_get}
use Rattle.std.specs.Option.{option_map}
use Rattle.std.specs.Ordering.{nat_cmp, eq_by_cmp}
use Rattle.eden_disk.specs.Told.{contents}
use Rattle.eden_model.specs.Map.{value_at}
use Rattle.eden_model.proofs.Numbers.{same-true, same-self}
use Rattle.epl_syntax.specs.Rules.OfTypes.{TypeList}
use Rattle.passive_store.specs.Kept.{Layout}
use Rattle.passive_store.specs.Seen.{Seen, DiskSeen}
use Rattle.journal.specs.declared.command.Script.{Script}
use Rattle.journal.specs.Standing.{DiskRun}
use Rattle.journal.specs.LegalRun.{EachDisk, numbered_from}
use Rattle.eden_world.specs.Worlds.{down}
use Rattle.eden_world.specs.Openings.{IsFirst, first_seen}
use Rattle.eden_world.specs.Opened.{StandsOpened}
use Rattle.eden_world.specs.InHand.{seen_at, in_hand}
use Rattle.eden_world.specs.Seated.{Begins, first_place}
use Rattle.eden_world.specs.declared.World.{World as Program}
use Rattle.eden_world.proofs.Closing.{mapped-get, begins-agendas, seat-of}
use Rattle.eden_world.proofs.Numbers.{apart-from}
use Rattle.eden_world.proofs.Openings.{opens}

-- 1. The disk of a number

-- the disk of a number stands at its place in the list
record IsListed (k n : ℕ) (disks : List DiskRun) (d : DiskRun) : Type 0 where
  pub index : ℕ
  pub number : n ≡ k + index
  pub at : slice_get disks index ≡ Some d

listed : (k n : ℕ) (disks : List DiskRun) (d : DiskRun) → value_at nat_cmp n (numbered_from k disks) ≡ Some d → IsListed k n disks d
listed k n [] d is = absurd (cc is)
listed k n (x ∷ disks) d is = go (eq_by_cmp nat_cmp n k) refl is (listed (k + 1) n disks d)
  where
    go : (b : Bool) → eq_by_cmp nat_cmp n k ≡ b → cond b (Some x) (value_at nat_cmp n (numbered_from (k + 1) disks)) ≡ Some d
        → (value_at nat_cmp n (numbered_from (k + 1) disks) ≡ Some d → IsListed (k + 1) n disks d) → IsListed k n (x ∷ disks) d
    go true at found later = record {
      index = 0;
      number = let same : n ≡ k = same-true n k at in omega (arith, same);
      at = found;
    }
    go false at found later = let r = later found in record {
      index = suc r.index;
      number = omega (arith, r.number);
      at = r.at;
    }

-- where no disk has the number there is none at that place
unlisted : (k : ℕ) (disks : List DiskRun) (m : ℕ) → value_at nat_cmp (k + m) (numbered_from k disks) ≡ None → slice_get disks m ≡ None
unlisted k [] m none = refl
unlisted k (d ∷ disks) zero none =
    let same : k + 0 ≡ k = omega arith in
    let here : eq_by_cmp nat_cmp (k + 0) k ≡ true = ap (λ j. eq_by_cmp nat_cmp j k) same ∙ same-self k in
    let bad : Some d ≡ None = subst (λ b. cond b (Some d) (value_at nat_cmp (k + 0) (numbered_from (k + 1) disks)) ≡ None) here none in
    absurd (cc bad)
unlisted k (d ∷ disks) (suc m) none =
    let past : k + suc m ≡ (k + 1) + m = omega arith in
    let later : k < k + suc m = omega arith in
    unlisted (k + 1) disks m (sym (ap (λ j. value_at nat_cmp j (numbered_from (k + 1) disks)) past)
    ∙ subst (λ b. cond b (Some d) (value_at nat_cmp (k + suc m) (numbered_from (k + 1) disks)) ≡ None) (apart-from (k + suc m) k later) none)

-- 2. The places

-- where there is no run there is no place
no-first : {T D : Type 0} (look : D → DiskSeen) (disks : List D) (runs : List DiskRun) → map look disks ≡ map first_seen runs → (n : ℕ)
    → value_at nat_cmp n (numbered_from 1 runs) ≡ None → first_place {T = T} {D = D} disks n ≡ None
no-first look disks runs same zero none = refl
no-first {T = T} {D = D} look disks runs same (suc m) none = go (slice_get disks m)
    (mapped-get look disks m ∙ ap (λ xs. slice_get xs m) same ∙ sym (mapped-get first_seen runs m)
    ∙ ap (option_map first_seen) (unlisted 1 runs m (ap (λ j. value_at nat_cmp j (numbered_from 1 runs)) number ∙ none)))
  where
    number : 1 + m ≡ suc m
    number = omega arith

    go : (o : Option D) → option_map look o ≡ None → option_map (seat-of {T = T} {D = D}) o ≡ None
    go None is = refl
    go (Some x) is = absurd (cc is)

seat-first : {T D : Type 0} (seen : T → Seen) (look : D → DiskSeen) (disks : List D) (runs : List DiskRun)
    → map look disks ≡ map first_seen runs → (m : ℕ) (d : DiskRun) → slice_get runs m ≡ Some d
    → seen_at seen look (first_place disks (suc m)) ≡ Some (down None (first_seen d))
seat-first {T = T} {D = D} seen look disks runs same m d at = go (slice_get disks m) (
    mapped-get look disks m ∙ ap (λ xs. slice_get xs m) same ∙ sym (mapped-get first_seen runs m) ∙ ap (option_map first_seen) at)
  where
    go : (o : Option D) → option_map look o ≡ Some (first_seen d)
        → seen_at seen look (option_map (seat-of {T = T} {D = D}) o) ≡ Some (down None (first_seen d))
    go None is = absurd (cc is)
    go (Some x) is = let seen_so : look x ≡ first_seen d = cc is in ap (λ s. Some (down None s)) seen_so

-- 3. What is in hand

pub begins-first : {T D : Type 0} (seen : T → Seen) (look : D → DiskSeen) (script : Script) (disks : List D) (runs : List DiskRun)
    (p : Program T D) → Begins script.types disks p → map look disks ≡ map first_seen runs
    → EachDisk runs (λ n d. length (contents d.before).now ≡ d.first.size) → IsFirst script runs (in_hand seen look p)
begins-first seen look script disks runs p begins same sized = record {
  types = begins.types;
  seats = λ n d there. let r = listed 1 n runs d there in
      let number : n ≡ suc r.index = omega (arith, r.number) in
      ap (seen_at seen look) (begins.seats n ∙ ap (first_place disks) number) ∙ seat-first seen look disks runs same r.index d r.at;
  no_more = λ n none. ap (seen_at seen look) (begins.seats n ∙ no-first look disks runs same n none);
  sized = sized;
  calls = begins.calls;
  ups = begins.ups;
  links = begins.links;
  names = begins.names;
}

pub begins-stands : {T D : Type 0} (tells : Bool) (layout : Layout) (seen : T → Seen) (look : D → DiskSeen) (ts : TypeList)
    (disks : List D) (p : Program T D) → Begins ts disks p → StandsOpened tells layout seen look ts disks p
begins-stands tells layout seen look ts disks p begins script runs more telling types opened told = record {
  telling = telling;
  its_layout = opened.its_layout;
  reads = opened.reads;
  world = opens layout more script runs (in_hand seen look p) opened.its_layout opened.handed_in told opened.some opened.few
      (begins-first seen look script disks runs p (subst (λ xs. Begins xs disks p) (sym types) begins) opened.seen opened.sized);
  agendas = begins-agendas ts disks p begins;
}
