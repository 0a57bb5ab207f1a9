-- A boot of a node whose disk cannot be opened.
use Rattle.std.proofs.Common.{◌≡◌, inl, ℕ, true, false, cond, List, [], Option, None, Some, Result, Ok, Err, is_some, refl, sym, ap}
use Rattle.std.proofs.Common.{subst, ◌∙◌}
use Rattle.std.proofs.lemmas.List.{append-nil}
use Rattle.std.specs.Prelude.{IsTrue}
use Rattle.capability.specs.declared.Uid.{Uid}
use Rattle.eden_disk.specs.Told.{Told, contents, Left, EachMoment}
use Rattle.eden_disk.specs.Calls.{Counts}
use Rattle.eden_disk.specs.Held.{Holds}
use Rattle.eden_disk.proofs.Held.{moments_weaker}
use Rattle.eden_disk.proofs.Moments.{each_moment_behind}
use Rattle.passive_store.specs.declared.store.StoreRefusal.{StoreRefusal}
use Rattle.passive_store.specs.declared.store.StoreRefusal.TheVariants as refusal
use Rattle.passive_store.specs.Kept.{Layout, Kept}
use Rattle.passive_store.specs.Layout.{IsLayout}
use Rattle.journal.specs.EjectChange.{EjectChange}
use Rattle.journal.specs.declared.event.BootEnd.{BootEnd}
use Rattle.journal.specs.declared.event.BootEnd.TheVariants as end
use Rattle.journal.specs.World.{Site, on_node}
use Rattle.journal.specs.Settling.{kept_map}
use Rattle.journal.specs.Boots.{OpensStore, BootsSo, boot_turn}
use Rattle.journal.specs.Opening.{entries_of}
use Rattle.journal.specs.Standing.{Stands, StandsFor, with_changes}
use Rattle.checkpoint.specs.StoreStands.{state_of, NodeOnDisk}
use Rattle.checkpoint.specs.Turns.{with_clock}
use Rattle.checkpoint.specs.Boots.{end_of_boot, put_after}
use Rattle.checkpoint.specs.declared.up.BootNote.{BootNote}
use Rattle.checkpoint.specs.BarredBoots.{Bar, damaged, overfull, IsBarred, KnowsBar, BarStands, nothing_begun, StaysBarred, FallsBarred}
use Rattle.checkpoint.proofs.Throughout.{stands-more}
use Rattle.checkpoint.proofs.MapStands.{state-is}
use Rattle.checkpoint.proofs.Changed.{map-clock}
use Rattle.checkpoint.proofs.Openings.{RefusedOnce, last-moment, is-allowed}

-- 1. Each image stands for the state of the node, whatever is put besides

bar-stands : (layout : Layout) (n : ℕ) (s : Site) (bar : Bar) (put : List (Uid × EjectChange)) (image : List ℕ) → KnowsBar bar n s
    → IsBarred bar layout n image
    → Stands layout n (with_changes put (state_of n s.node)) image
bar-stands layout n s (damaged place) put image knows is =
    subst (λ f. StandsFor (cond (is_some s.node.damaged) None (Some (kept_map n s.node))) (with_changes put (state_of n s.node)).changes
    (entries_of f)) (sym is)
    (subst (λ d. StandsFor (cond (is_some d) None (Some (kept_map n s.node))) (with_changes put (state_of n s.node)).changes (Err place))
    (sym knows) tt)
bar-stands layout n s (overfull kept) put image knows is = stands-more layout n put (state_of n s.node) image
    (subst (λ w. Stands layout n w image) (sym (state-is n s kept None knows.1)) (ap entries_of is.0))

bar-clock : (n clock : ℕ) (s : Site) (bar : Bar) → KnowsBar bar n s → KnowsBar bar n (with_clock clock s)
unfolding on_node
bar-clock n clock s (damaged place) knows = knows
bar-clock n clock s (overfull kept) knows = (knows.0, map-clock n clock s kept None knows.1)

-- 2. The opening that was refused

holds-bar : (layout : Layout) (n : ℕ) (s : Site) (bar : Bar) (size clock : ℕ) (told : Told) → BarStands layout n s bar size clock told
    → Left (contents told) (contents told).now → Holds (IsBarred bar layout n) (contents told)
holds-bar layout n s bar size clock told h whole = record { now = h.stands (contents told).now whole; left = h.stands }

each-bar : (O : Type 0) (layout : Layout) (n : ℕ) (bar : Bar) (told : Told) (counts : Counts) (e : StoreRefusal) (new : Told)
    (after : Counts)
    → RefusedOnce O layout n told counts e new after → Holds (IsBarred bar layout n) (contents told)
    → EachMoment (IsBarred bar layout n) told new
each-bar O layout n (damaged place) told counts e new after r holds = r.unmapped place holds
each-bar O layout n (overfull kept) told counts e new after r holds = r.overfull kept holds

-- an end of a boot that begins nothing
abbrev Unbegun : BootEnd → Type 0
Unbegun end.Up = ⊥
Unbegun _ = Unit {0}

unturned : (how : BootEnd) (s : Site) → Unbegun how → boot_turn 0 how None false s ≡ s
unfolding on_node
unturned end.Up s not = absurd not
unturned end.DiskFault s not = refl
unturned end.Stop s not = refl
unturned (end.Damaged place) s not = refl
unturned end.EpochsSpent s not = refl
unturned end.Full s not = refl

module _ (O : Type 0) (layout : Layout) (n : ℕ) (s : Site) (bar : Bar) (told : Told) (counts : Counts) (e : StoreRefusal) (new : Told)
    (after : Counts)
    (h : BarStands layout n s bar counts.size counts.clock told) (r : RefusedOnce O layout n told counts e new after) where
  bar-moments : EachMoment (IsBarred bar layout n) told new
  bar-moments = each-bar O layout n bar told counts e new after r (holds-bar layout n s bar counts.size counts.clock told h r.whole)

  stays-barred : (how : BootEnd) → Unbegun how → BootsSo s 0 how None false
      → StaysBarred layout n s bar told counts.clock how nothing_begun new after
  unfolding on_node
  stays-barred how unbegun boots = record {
    allowed = record { is_down = h.is_down; no_requests = h.queue; boots = boots };
    stands = subst (λ z. BarStands layout n (with_clock after.clock z) bar after.size after.clock new) (sym (unturned how s unbegun))
        (record {
          number = h.number;
          its_layout = h.its_layout;
          is_down = h.is_down;
          queue = h.queue;
          its_size = h.its_size ∙ sym r.its_size;
          its_clock = refl;
          known = bar-clock n after.clock s bar h.known;
          stands = last-moment (IsBarred bar layout n) told new bar-moments;
        });
    disk = subst (λ (z : Site). NodeOnDisk layout n s.node (put_after n s None) z.node told counts.clock new after.clock)
        (sym (unturned how s unbegun)) (record {
          timed = r.timed;
          moments = moments_weaker (IsBarred bar layout n)
              (Stands layout n (with_changes (put_after n s None) (state_of n s.node))) told new
              (λ image is. bar-stands layout n s bar (put_after n s None) image h.known is) bar-moments;
          behind = λ rises image left. none-put image (bar-stands layout n s bar [] image h.known
              (each_moment_behind (IsBarred bar layout n) told new counts.clock after.clock image bar-moments left));
          level = λ same image is. is;
        });
  }
    where
      none-put : (image : List ℕ) → Stands layout n (with_changes [] (state_of n s.node)) image → Stands layout n (state_of n s.node) image
      none-put image = subst (λ cs. Stands layout n (record (state_of n s.node) { changes = cs }) image)
          (append-nil (state_of n s.node).changes)

  opens-store : (layout.allows counts.size ≡ false → ⊥) → OpensStore s 0 None false
  opens-store allowed = record {
    allowed = subst (λ (l : Layout). IsTrue (l.allows s.node.size)) (sym h.its_layout)
        (subst (λ k. IsTrue (layout.allows k)) (sym h.its_size) (is-allowed (layout.allows counts.size) allowed));
    nothing = record { no_pick = refl; no_epoch = refl; not_begun = refl };
  }

-- 3. Its boot

-- what is damaged keeps nothing that is too much, and the other way round
full-bar : (layout : Layout) (n : ℕ) (s : Site) (bar : Bar) (image : List ℕ) → IsLayout layout → KnowsBar bar n s
    → IsBarred bar layout n image
    → layout.is_overfull n image ≡ true → BootsSo s 0 end.Full None false
full-bar layout n s (damaged place) image law knows is full =
    let kept = law.overfull n image full in
    absurd (let bad : ◌≡◌ {A = Result Kept ℕ} (Ok kept.0) (Err place) = sym kept.1 ∙ is in cc bad)
full-bar layout n s (overfull kept) image law knows is full =
    inl (record {
      undamaged = knows.1.undamaged;
      overfull = knows.0;
      nothing = record { no_pick = refl; no_epoch = refl; not_begun = refl };
    })

damaged-bar : (layout : Layout) (n : ℕ) (s : Site) (bar : Bar) (image : List ℕ) (place : ℕ) → KnowsBar bar n s → IsBarred bar layout n image
    → layout.map_of n image ≡ Err place → BootsSo s 0 (end.Damaged place) None false
damaged-bar layout n s (damaged at) image place knows is found = record {
  at_place = knows ∙ ap (λ k. Some k) (let same : ◌≡◌ {A = Result Kept ℕ} (Err at) (Err place) = sym is ∙ found in cc same);
  nothing = record { no_pick = refl; no_epoch = refl; not_begun = refl };
}
damaged-bar layout n s (overfull kept) image place knows is found =
    absurd (let bad : ◌≡◌ {A = Result Kept ℕ} (Ok kept) (Err place) = sym is.0 ∙ found in cc bad)

pub falls-barred : (O : Type 0) (layout : Layout) (n : ℕ) (s : Site) (bar : Bar) (told : Told) (counts : Counts) (e : StoreRefusal)
    (new : Told) (after : Counts)
    → IsLayout layout → BarStands layout n s bar counts.size counts.clock told → RefusedOnce O layout n told counts e new after
    → FallsBarred layout n s bar told counts.clock (end_of_boot e) nothing_begun new after
falls-barred O layout n s bar told counts refusal.Failed new after law h r = stays-barred O layout n s bar told counts refusal.Failed new
    after h r end.DiskFault tt
    (inl (opens-store O layout n s bar told counts refusal.Failed new after h r (λ none. let bad = r.allowed none in cc bad)))
falls-barred O layout n s bar told counts refusal.Stopped new after law h r = stays-barred O layout n s bar told counts refusal.Stopped new
    after h r end.Stop tt
    (inl (opens-store O layout n s bar told counts refusal.Stopped new after h r (λ none. let bad = r.allowed none in cc bad)))
falls-barred O layout n s bar told counts refusal.Full new after law h r = stays-barred O layout n s bar told counts refusal.Full new after
    h r end.Full tt
    (full-bar layout n s bar (contents told).now law h.known (h.stands (contents told).now r.whole) r.full)
falls-barred O layout n s bar told counts (refusal.Damaged place) new after law h r =
    stays-barred O layout n s bar told counts (refusal.Damaged place) new after h r (end.Damaged place) tt
    (damaged-bar layout n s bar (contents told).now place h.known (h.stands (contents told).now r.whole) (r.damaged place refl))
falls-barred O layout n s bar told counts refusal.OutOfMemory new after law h r =
    let moments = bar-moments O layout n s bar told counts refusal.OutOfMemory new after h r in (
      record {
        timed = r.timed;
        moments = λ put. moments_weaker (IsBarred bar layout n) (Stands layout n (with_changes put (state_of n s.node))) told new
            (λ image is. bar-stands layout n s bar put image h.known is) moments;
      },
      last-moment (IsBarred bar layout n) told new moments,
    )

-- it is not opened
pub not-barred : (layout : Layout) (n : ℕ) (bar : Bar) (image : List ℕ) (kept : Kept) → IsBarred bar layout n image
    → layout.map_of n image ≡ Ok kept
    → layout.is_overfull n image ≡ false → ⊥
not-barred layout n (damaged place) image kept is found small = let bad : ◌≡◌ {A = Result Kept ℕ} (Ok kept) (Err place) = sym found
    ∙ is in cc bad
not-barred layout n (overfull other) image kept is found small = let bad : true ≡ false = sym is.1 ∙ small in cc bad

-- 4. From before the disk got its power

pub bar-restart : (layout : Layout) (n : ℕ) (s : Site) (bar : Bar) (counts after : Counts) (told new : Told) → after.size ≡ counts.size
    → after.clock ≡ counts.clock → new ≡ told
    → BarStands layout n s bar counts.size counts.clock told → BarStands layout n s bar after.size after.clock new
bar-restart layout n s bar counts after told new size clock same h =
    subst (λ k. BarStands layout n s bar k after.clock new) (sym size)
    (subst (λ k. BarStands layout n s bar counts.size k new) (sym clock)
    (subst (BarStands layout n s bar counts.size counts.clock) (sym same) h))

pub bar-from : (layout : Layout) (n : ℕ) (s : Site) (bar : Bar) (counts after : Counts) (told new : Told) (how to : Option BootEnd)
    (note now : BootNote) (last : Told) (end_counts : Counts)
    → after.clock ≡ counts.clock → new ≡ told → to ≡ how → now ≡ note
    → FallsBarred layout n s bar new after.clock how note last end_counts
    → FallsBarred layout n s bar told counts.clock to now last end_counts
bar-from layout n s bar counts after told new how to note now last end_counts clock same is_end is_note f =
    subst (λ k. FallsBarred layout n s bar told k to now last end_counts) clock
    (subst (λ t. FallsBarred layout n s bar t after.clock to now last end_counts) same
    (subst (λ o. FallsBarred layout n s bar new after.clock o now last end_counts) (sym is_end)
    (subst (λ o. FallsBarred layout n s bar new after.clock how o last end_counts) (sym is_note) f)))
