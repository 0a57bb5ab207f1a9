-- Before the first entry: over disks that are handed in as they have to be what is in hand stands for the opening world.
use Rattle.std.proofs.Common.{◌≡◌, ◌≤◌, ◌+◌, inl, inr, ◌==◌, ℕ, Bool, true, false, cond, not, ◌&&◌, List, [], ◌∷◌, length, map}
use Rattle.std.proofs.Common.{Option, None}
use Rattle.std.proofs.Common.{Some, Result, Ok, Err, refl, sym, ◌∙◌, ap, subst, arith}
use Rattle.std.specs.Prelude.{IsSomeAnd}
use Rattle.std.specs.List.{filter_map, cons_option}
use Rattle.std.specs.Ordering.{nat_cmp, eq_by_cmp}
use Rattle.std.specs.FinMap as finite
use Rattle.std.specs.FinMap.{nat_cmp-IsAntisymmetric}
use Rattle.capability.specs.declared.Uid.{Uid}
use Rattle.eden_model.specs.Map.{with_item, value_at, uid_cmp}
use Rattle.eden_model.proofs.Laws.{eq-same}
use Rattle.eden_disk.specs.Told.{contents}
use Rattle.epl_syntax.specs.Meaning.{types_in}
use Rattle.passive_store.specs.Kept.{Layout, Kept}
use Rattle.passive_store.specs.Layout.{IsLayout}
use Rattle.journal.specs.declared.command.Script.{Script}
use Rattle.journal.specs.World.{World, Node, Site, Eject, site_of}
use Rattle.journal.specs.Opening.{IsToldFor, most_changes, is_untold, node_of, node_from, entries_of, ledger_of, passive, passive_entry}
use Rattle.journal.specs.Standing.{DiskRun}
use Rattle.journal.specs.LegalRun.{AreHandedIn, AreToldFor, EachDisk, IsHandedIn, images, numbered, numbered_from, opening_world}
use Rattle.history_laws.proofs.AtTheOpening.{at-the-opening}
use Rattle.checkpoint.specs.BarredBoots.{damaged, overfull}
use Rattle.checkpoint.specs.Throughout.{StandsFirst}
use Rattle.checkpoint.proofs.FirstSites.{rests-first, barred-first}
use Rattle.eden_kernel.specs.Boots.{IsIdle}
use Rattle.eden_world.specs.Worlds.{InHand, WorldStands, SeatStands, DownStands, DiskStands, numbers_from}
use Rattle.eden_world.specs.Openings.{IsFirst, first_seen}

-- 1. A node that is handed in

idle-passive : (es : List (Uid × List ℕ)) (u : Uid) (e : Eject) → value_at uid_cmp u (filter_map passive_entry es) ≡ Some e → IsIdle e
idle-passive [] u e is = absurd (cc is)
idle-passive (x ∷ es) u e is = go (x.0.serial == 0) is (idle-passive es u e)
  where
    here : (b : Bool) → cond b (Some (passive x.1)) (value_at uid_cmp u (filter_map passive_entry es)) ≡ Some e
        → (value_at uid_cmp u (filter_map passive_entry es) ≡ Some e → IsIdle e) → IsIdle e
    here true at later = let same : passive x.1 ≡ e = cc at in subst IsIdle same (record { passive = refl; unasked = refl })
    here false at later = later at

    go : (b : Bool) → value_at uid_cmp u (cons_option (cond b None (Some (x.0, passive x.1))) (filter_map passive_entry es)) ≡ Some e
        → (value_at uid_cmp u (filter_map passive_entry es) ≡ Some e → IsIdle e) → IsIdle e
    go true at later = later at
    go false at later = here (eq_by_cmp uid_cmp u x.0) at later

-- what is found decides the rest
asleep-from : (n size : ℕ) (r : Result Kept ℕ) (full untold : Bool) (u : Uid) (e : Eject)
    → value_at uid_cmp u (node_from n size (entries_of r) full untold (ledger_of r)).ejects ≡ Some e → IsIdle e
asleep-from n size (Ok kept) full untold u e is = idle-passive (finite.entries kept.bodies) u e is
asleep-from n size (Err place) full untold u e is = absurd (cc is)

down-from : (n size : ℕ) (r : Result Kept ℕ) (full untold : Bool) → (node_from n size (entries_of r) full untold (ledger_of r)).up ≡ false
down-from n size (Ok kept) full untold = refl
down-from n size (Err place) full untold = refl

abbrev image_of : DiskRun → List ℕ
image_of d = (contents d.before).now

-- the seat of a node that is handed in
first-seat : (layout : Layout) (more n : ℕ) (w : World) (d : DiskRun) → IsLayout layout → IsToldFor layout n more (image_of d)
    → w.layout ≡ layout → IsHandedIn layout n d → length (image_of d) ≡ d.first.size
    → DownStands layout more (site_of w n (node_of layout (n, image_of d))) None (first_seen d)
first-seat layout more n w d lays told its_layout handed sized = record {
  asleep = λ u e is. asleep-from n (length (image_of d)) (layout.map_of n (image_of d)) (layout.is_overfull n (image_of d))
      (is_untold layout n (image_of d)) u e is;
  disk = go (layout.map_of n (image_of d)) refl (layout.is_overfull n (image_of d)) refl;
}
  where
    s : Site
    s = site_of w n (node_of layout (n, image_of d))

    go : (r : Result Kept ℕ) → layout.map_of n (image_of d) ≡ r → (full : Bool) → layout.is_overfull n (image_of d) ≡ full
        → DiskStands layout more s None (first_seen d)
    go (Err place) map full small = inr (
      damaged place,
      refl,
      barred-first layout n s (damaged place) d.before d.first.size d.first.clock lays
          (record {
            number = refl;
            its_layout = its_layout;
            node = refl;
            nothing_unsynced = handed.nothing_unsynced;
            same = handed.same;
            of_bytes = handed.bytes;
            barred = map;
          }) sized,
    )
    go (Ok kept) map true full = inr (
      overfull kept,
      refl,
      barred-first layout n s (overfull kept) d.before d.first.size d.first.clock lays
          (record {
            number = refl;
            its_layout = its_layout;
            node = refl;
            nothing_unsynced = handed.nothing_unsynced;
            same = handed.same;
            of_bytes = handed.bytes;
            barred = (map, full);
          }) sized,
    )
    go (Ok kept) map false small = inl (
      layout.changes_told n (image_of d),
      told kept map small,
      rests-first layout n s kept d.before d.first.size d.first.clock lays (record {
        number = refl;
        its_layout = its_layout;
        node = refl;
        nothing_unsynced = handed.nothing_unsynced;
        same = handed.same;
        of_bytes = handed.bytes;
        map = map;
        small = small;
        is_told = let many : most_changes ≤ layout.changes_told n (image_of d) = handed.fit.room_is_told kept map small in
            omega (arith, many);
      }) sized,
    )

-- 2. The nodes of the opening world

abbrev node_by : Layout → ℕ → Option DiskRun → Option Node
node_by layout n o = with_item o (λ d. Some (node_of layout (n, image_of d))) None

found-node : (layout : Layout) (n : ℕ) (es : List (ℕ × DiskRun))
    → value_at nat_cmp n (map (λ d. (d.0, node_of layout d)) (images es)) ≡ node_by layout n (value_at nat_cmp n es)
found-node layout n [] = refl
found-node layout n (e ∷ es) = go (eq_by_cmp nat_cmp n e.0) refl (found-node layout n es)
  where
    go : (b : Bool) → eq_by_cmp nat_cmp n e.0 ≡ b
        → value_at nat_cmp n (map (λ d. (d.0, node_of layout d)) (images es)) ≡ node_by layout n (value_at nat_cmp n es)
        → cond (eq_by_cmp nat_cmp n e.0) (Some (node_of layout (e.0, image_of e.1)))
        (value_at nat_cmp n (map (λ d. (d.0, node_of layout d)) (images es)))
        ≡ node_by layout n (cond (eq_by_cmp nat_cmp n e.0) (Some e.1) (value_at nat_cmp n es))
    go false apart later = rw apart later
    go true tied later = let number : e.0 ≡ n = sym (eq-same nat_cmp nat_cmp-IsAntisymmetric n e.0 tied) in
        rw tied (λ i. Some (node_of layout (number i, image_of e.1)))

its-keys : (layout : Layout) (k : ℕ) (disks : List DiskRun)
    → map (λ (e : ℕ × Node). e.0) (map (λ d. (d.0, node_of layout d)) (images (numbered_from k disks))) ≡ numbers_from k (length disks)
its-keys layout k [] = refl
its-keys layout k (d ∷ disks) = ap (λ ks. k ∷ ks) (its-keys layout (k + 1) disks)

-- 3. The world

pub opens : (layout : Layout) (more : ℕ) (script : Script) (disks : List DiskRun) (h : InHand) → IsLayout layout → AreHandedIn layout disks
    → AreToldFor layout more disks → 1 ≤ length disks → length disks ≤ 8 → IsFirst script disks h
    → WorldStands layout more h (opening_world layout script disks)
opens layout more script disks h lays handed told some few first = record {
  its_layout = refl;
  its_types = ap types_in (sym first.types);
  numbers = record { count = length disks; some = some; few = few; are = its-keys layout 1 disks };
  nodes = λ n it at. by_disk n it (value_at nat_cmp n (numbered disks)) refl (sym (found-node layout n (numbered disks)) ∙ at);
  no_more = λ n none. no-place n (value_at nat_cmp n (numbered disks)) refl (sym (found-node layout n (numbered disks)) ∙ none);
  calls = first.calls;
  ups = λ n. ap (λ b. not (n == 0) && b) (first.ups n) ∙ never (n == 0)
      ∙ sym (ap (λ o. with_item o (λ (x : Node). x.up) false) (found-node layout n (numbered disks))
      ∙ off n (value_at nat_cmp n (numbered disks)));
  links = first.links;
  names = λ name. sym (first.names name);
}
  where
    never : (b : Bool) → (not b && b) ≡ false
    never true = refl
    never false = refl

    off : (n : ℕ) (o : Option DiskRun) → with_item (node_by layout n o) (λ (x : Node). x.up) false ≡ false
    off n None = refl
    off n (Some d) = down-from n (length (image_of d)) (layout.map_of n (image_of d)) (layout.is_overfull n (image_of d))
        (is_untold layout n (image_of d))

    no-place : (n : ℕ) (o : Option DiskRun) → value_at nat_cmp n (numbered disks) ≡ o → node_by layout n o ≡ None → h.seats n ≡ None
    no-place n None there none = first.no_more n there
    no-place n (Some d) there none = absurd (cc none)

    by_disk : (n : ℕ) (it : Node) (o : Option DiskRun) → value_at nat_cmp n (numbered disks) ≡ o → node_by layout n o ≡ Some it
        → IsSomeAnd (h.seats n) (SeatStands layout h.types h.mail more (site_of (opening_world layout script disks) n it))
    by_disk n it None there is = absurd (cc is)
    by_disk n it (Some d) there is =
        let node_is : node_of layout (n, image_of d) ≡ it = cc is in
        subst (λ o. IsSomeAnd o (SeatStands layout h.types h.mail more (site_of (opening_world layout script disks) n it)))
        (sym (first.seats n d there))
        (subst (λ x. DownStands layout more (site_of (opening_world layout script disks) n x) None (first_seen d)) node_is
        (first-seat layout more n (opening_world layout script disks) d lays (told n d there) refl (handed n d there)
        (first.sized n d there)))

-- and a crash leaves of each disk only what stands for the state of its node
pub stands-first : (layout : Layout) (script : Script) (disks : List DiskRun) → IsLayout layout → AreHandedIn layout disks
    → EachDisk disks (λ n d. StandsFirst layout n (opening_world layout script disks) d.before)
stands-first layout script disks lays handed n d there image left = at-the-opening layout script disks lays handed n d there image left
