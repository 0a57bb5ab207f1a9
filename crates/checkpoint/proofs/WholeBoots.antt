-- The ends of a boot.
use Rattle.std.proofs.Common.{◌≡◌, ◌⊎◌, inl, inr, ℕ, ◌+◌, ◌<◌, ◌≤◌, nat_lt, Bool, true, false, not, ◌&&◌, cond, [], ◌∷◌, Option, None, Some}
use Rattle.std.proofs.Common.{Result, Ok, Err, is_some, refl, sym, ap, subst, ◌∙◌, arith}
use Rattle.std.specs.Prelude.{IsTrue, IfSome, IfOk, IfErr}
use Rattle.std.proofs.lemmas.Bool.Decides.{nat_tests}
use Rattle.std.proofs.lemmas.Bool.{cases_lt}
use Rattle.eden_model.specs.Map.{with_item}
use Rattle.eden_disk.specs.Told.{Told, contents, LeavesOnly}
use Rattle.eden_disk.specs.Calls.{Counts}
use Rattle.passive_store.specs.declared.store.Pick.{Pick}
use Rattle.passive_store.specs.declared.store.Pick.TheVariants as pick
use Rattle.passive_store.specs.declared.store.Doubt.{Doubt}
use Rattle.passive_store.specs.declared.store.StoreRefusal.{StoreRefusal}
use Rattle.passive_store.specs.declared.store.StoreRefusal.TheVariants as refusal
use Rattle.passive_store.specs.Kept.{Layout, Idle, doubt_in, change_in, changes_in, is_synced, IsFresh, IsDiskRefusal, LeavesKept}
use Rattle.passive_store.specs.Kept.{Stands as StandsKept}
use Rattle.journal.specs.EjectChange.{body}
use Rattle.journal.specs.declared.event.BootEnd.{BootEnd}
use Rattle.journal.specs.declared.event.BootEnd.TheVariants as end
use Rattle.journal.specs.World.{Site, on_node}
use Rattle.journal.specs.Ejects.{stored_epoch}
use Rattle.journal.specs.Settling.{epoch_uid, epoch_bytes, settled, finds_room}
use Rattle.journal.specs.Boots.{last_epoch, Opened, BeganNothing, BeganNext, BootsSo, boot_turn, epoch_fits, epoch_has_room}
use Rattle.checkpoint.specs.StoreStands.{NodeOnDisk, MapStands, RequestsStand, change_of_epoch}
use Rattle.checkpoint.specs.Room.{KeepsRoom}
use Rattle.checkpoint.specs.Turns.{with_clock, RestStands}
use Rattle.passive_store.specs.Seen.{Seen}
use Rattle.journal.specs.Sites.{HasEpochs}
use Rattle.checkpoint.specs.Asked.{noted_in}
use Rattle.checkpoint.specs.Booting.{OpensTo, RefusedTo, epoch_entry, IsPut, IsPutInDoubt, PutsTo}
use Rattle.checkpoint.specs.Boots.{end_of_boot, put_after, BootsUp, BootsDown, BootsNot, FallsTo, IsDownSite}
use Rattle.checkpoint.specs.declared.up.BootNote.{BootNote}
use Rattle.checkpoint.proofs.Rooms.{kept-room}
use Rattle.checkpoint.proofs.Changed.{map-clock}
use Rattle.checkpoint.proofs.Epochs.{settled-number, settled-layout, settled-size}

-- 1. Sites

pub down-site : (layout : Layout) (n more : ℕ) (s : Site) (noted : Option Doubt) (size clock : ℕ) (told : Told)
    → RestStands layout n more s noted size clock told → HasEpochs s.node → IsDownSite layout n s
down-site layout n more s noted size clock told h fits = record {
  number = h.number;
  its_layout = h.its_layout;
  is_down = h.is_down;
  queue = h.queue;
  unsynced = h.unsynced;
  not_overfull = h.not_overfull;
  undamaged = h.keeps.undamaged;
  not_untold = h.keeps.not_untold;
  epochs = fits;
}

abbrev note_of : ℕ → Option Pick → Bool → BootNote
note_of e p began = record { epoch = e; pick = p; began = began }

opened-so : (layout : Layout) (n more : ℕ) (s : Site) (old : Told) (before : ℕ) (p : Option Pick) (y : Seen) → IsDownSite layout n s
    → OpensTo layout n more s old before p y → Opened s p
opened-so layout n more s old before p y d o = record { undamaged = d.undamaged; not_overfull = d.not_overfull; picked = o.picked }

settled-up : (p : Option Pick) (s : Site) → (settled p s).node.up ≡ s.node.up
unfolding on_node
settled-up None s = refl
settled-up (Some k) s = refl

settled-requests : (p : Option Pick) (s : Site) → (settled p s).node.requests ≡ s.node.requests
unfolding on_node
settled-requests None s = refl
settled-requests (Some k) s = refl

settled-overfull : (p : Option Pick) (s : Site) → (settled p s).node.overfull ≡ s.node.overfull
unfolding on_node
settled-overfull None s = refl
settled-overfull (Some k) s = refl

settled-untold : (p : Option Pick) (s : Site) → (settled p s).node.untold ≡ s.node.untold
unfolding on_node
settled-untold None s = refl
settled-untold (Some k) s = refl

settled-synced : (p : Option Pick) (s : Site) → s.node.synced ≡ false → (settled p s).node.synced ≡ false
unfolding on_node
settled-synced None s is = is
settled-synced (Some k) s is = refl

-- 2. A boot that ends where no epoch was begun

-- what stands of a node that stays down with nothing in doubt
rests-settled : (layout : Layout) (n more : ℕ) (s : Site) (old : Told) (before : ℕ) (p : Option Pick) (y : Seen) → IsDownSite layout n s
    → OpensTo layout n more s old before p y
    → RestStands layout n y.more (with_clock y.disk.counts.clock (settled p s)) None y.disk.counts.size y.disk.counts.clock y.disk.told
unfolding on_node
rests-settled layout n more s old before p y d o = record {
  number = settled-number p s ∙ d.number;
  its_layout = settled-layout p s ∙ d.its_layout;
  is_down = settled-up p s ∙ d.is_down;
  queue = settled-requests p s ∙ d.queue;
  unsynced = settled-synced p s d.unsynced;
  its_size = settled-size p s ∙ o.its_size;
  its_clock = refl;
  not_overfull = settled-overfull p s ∙ d.not_overfull;
  kept = y.kept;
  doubt = None;
  keeps = map-clock n y.disk.counts.clock (settled p s) y.kept None o.keeps;
  is_noted = refl;
  fresh = tt;
  stands = o.stands;
}

abbrev IsFall : BootEnd → Type 0
IsFall end.Up = ⊥
IsFall _ = Unit {0}

boot-still : (how : BootEnd) (p : Option Pick) (s : Site) → IsFall how → boot_turn 0 how p false s ≡ settled p s
unfolding on_node
boot-still end.Up p s fall = absurd fall
boot-still end.DiskFault p s fall = refl
boot-still end.Stop p s fall = refl
boot-still (end.Damaged place) p s fall = refl
boot-still end.EpochsSpent p s fall = refl
boot-still end.Full p s fall = refl

falls-settled : (layout : Layout) (n more : ℕ) (s : Site) (old : Told) (before : ℕ) (p : Option Pick) (y : Seen) (how : BootEnd)
    → IsFall how → IsDownSite layout n s → OpensTo layout n more s old before p y → BootsSo s 0 how p false
    → (left : ℕ) × BootsDown layout n more s old before how (note_of 0 p false) None left y.disk.told y.disk.counts
falls-settled layout n more s old before p y how fall d o so = (
  y.more,
  record {
    told = omega (arith, o.told);
    allowed = record { is_down = d.is_down; no_requests = d.queue; boots = so };
    rests = subst (λ x. RestStands layout n y.more
        (with_clock y.disk.counts.clock x) None y.disk.counts.size y.disk.counts.clock y.disk.told) (sym (boot-still how p s fall))
        (rests-settled layout n more s old before p y d o);
    disk = subst (λ (x : Site). NodeOnDisk layout n s.node (put_after n s p) x.node old before y.disk.told y.disk.counts.clock)
        (sym (boot-still how p s fall)) (o.disk (put_after n s p));
  },
)

began-nothing : (layout : Layout) (n more : ℕ) (s : Site) (old : Told) (before : ℕ) (p : Option Pick) (y : Seen) → IsDownSite layout n s
    → OpensTo layout n more s old before p y → BeganNothing s 0 p false
began-nothing layout n more s old before p y d o =
    record { opened = opened-so layout n more s old before p y d o; no_epoch = refl; not_begun = refl }

boots-not : (layout : Layout) (n more : ℕ) (s : Site) (old : Told) (before : ℕ) (p : Option Pick) (y : Seen)
    → OpensTo layout n more s old before p y → BootsNot layout n s old before y.disk.told y.disk.counts.clock
boots-not layout n more s old before p y o = record { timed = (o.disk []).timed; moments = λ put. (o.disk put).moments }

boots-room : (layout : Layout) (n more : ℕ) (s : Site) (old : Told) (before : ℕ) (p : Option Pick) (y : Seen)
    → OpensTo layout n more s old before p y → KeepsRoom layout n more y.disk.told
boots-room layout n more s old before p y o = kept-room layout n more y.more y.kept _ y.disk.told (omega (arith, o.told)) o.stands

-- the store was not opened
pub falls-unopened : (layout : Layout) (n more : ℕ) (s : Site) (noted : Option Doubt) (old : Told) (before : ℕ) (e : StoreRefusal)
    (new : Told) (after : Counts) → IsDownSite layout n s → RefusedTo layout n more s noted old before e new after
    → FallsTo layout n more s old before (end_of_boot e) (note_of 0 None false) noted new after
falls-unopened layout n more s noted old before refusal.Failed new after d r = (
  more,
  record {
    told = omega arith;
    allowed = record {
      is_down = d.is_down;
      no_requests = d.queue;
      boots = inl
          (record {
            allowed = subst (λ (l : Layout). IsTrue (l.allows s.node.size)) (sym d.its_layout) r.0;
            nothing = record { no_pick = refl; no_epoch = refl; not_begun = refl };
          });
    };
    rests = subst (λ x. RestStands layout n more (with_clock after.clock x) noted after.size after.clock new)
        (sym (boot-still end.DiskFault None s tt)) r.1.rests;
    disk = subst (λ (x : Site). NodeOnDisk layout n s.node (put_after n s None) x.node old before new after.clock)
        (sym (boot-still end.DiskFault None s tt)) (r.1.disk (put_after n s None));
  },
)
falls-unopened layout n more s noted old before refusal.Stopped new after d r = (
  more,
  record {
    told = omega arith;
    allowed = record {
      is_down = d.is_down;
      no_requests = d.queue;
      boots = inl
          (record {
            allowed = subst (λ (l : Layout). IsTrue (l.allows s.node.size)) (sym d.its_layout) r.0;
            nothing = record { no_pick = refl; no_epoch = refl; not_begun = refl };
          });
    };
    rests = subst (λ x. RestStands layout n more (with_clock after.clock x) noted after.size after.clock new)
        (sym (boot-still end.Stop None s tt)) r.1.rests;
    disk = subst (λ (x : Site). NodeOnDisk layout n s.node (put_after n s None) x.node old before new after.clock)
        (sym (boot-still end.Stop None s tt)) (r.1.disk (put_after n s None));
  },
)
falls-unopened layout n more s noted old before refusal.Full new after d r = absurd r
falls-unopened layout n more s noted old before (refusal.Damaged place) new after d r = absurd r
falls-unopened layout n more s noted old before refusal.OutOfMemory new after d r = (
  record { timed = (r.disk []).timed; moments = λ put. (r.disk put).moments },
  kept-room layout n more more r.rests.kept _ new (omega arith) r.rests.stands,
)

-- the epoch was not read
pub falls-unread : (layout : Layout) (n more : ℕ) (s : Site) (old : Told) (before : ℕ) (p : Option Pick) (y : Seen) (e : StoreRefusal)
    → IsDiskRefusal e ⊎ (e ≡ refusal.OutOfMemory) → IsDownSite layout n s → OpensTo layout n more s old before p y
    → IsTrue (is_some (settled p s).node.epoch)
    → FallsTo layout n more s old before (end_of_boot e) (note_of 0 p false) None y.disk.told y.disk.counts
falls-unread layout n more s old before p y refusal.Failed only d o stored = falls-settled layout n more s old before p y end.DiskFault tt d
    o (inr (inl (record { nothing = began-nothing layout n more s old before p y d o; stored = stored })))
falls-unread layout n more s old before p y refusal.Stopped only d o stored = falls-settled layout n more s old before p y end.Stop tt d o
    (inr (inl (record { nothing = began-nothing layout n more s old before p y d o; stored = stored })))
falls-unread layout n more s old before p y refusal.Full only d o stored = absurd
    (elim only [ inl a ↦ elim a [ inl bad ↦ cc bad | inr bad ↦ cc bad ] | inr bad ↦ cc bad ])
falls-unread layout n more s old before p y (refusal.Damaged place) only d o stored = absurd
    (elim only [ inl a ↦ elim a [ inl bad ↦ cc bad | inr bad ↦ cc bad ] | inr bad ↦ cc bad ])
falls-unread layout n more s old before p y refusal.OutOfMemory only d o stored =
    (boots-not layout n more s old before p y o, boots-room layout n more s old before p y o)

-- no epoch is left
pub falls-spent : (layout : Layout) (n more : ℕ) (s : Site) (old : Told) (before : ℕ) (p : Option Pick) (y : Seen) → IsDownSite layout n s
    → OpensTo layout n more s old before p y → stored_epoch (settled p s).node ≡ last_epoch
    → FallsTo layout n more s old before (Some end.EpochsSpent) (note_of 0 p false) None y.disk.told y.disk.counts
falls-spent layout n more s old before p y d o last = falls-settled layout n more s old before p y end.EpochsSpent tt d o
    (record { nothing = began-nothing layout n more s old before p y d o; last = last })

-- 3. The next epoch was put

put-next : (n : ℕ) (s : Site) (p : Option Pick) (e : ℕ) → e ≡ stored_epoch (settled p s).node + 1
    → stored_epoch (settled p s).node < last_epoch → put_after n s p ≡ epoch_entry n e ∷ []
put-next n s p e next below =
    let test : nat_lt (stored_epoch (settled p s).node) last_epoch ≡ true = grind (arith, nat_tests, below) in
    ap (λ b. cond b ((epoch_uid n, body (epoch_bytes (stored_epoch (settled p s).node + 1))) ∷ []) []) test
    ∙ ap (λ k. epoch_entry n k ∷ []) (sym next)

room-there : (layout : Layout) (n more : ℕ) (s : Site) (p : Option Pick) (e : ℕ) (b : Bool) → IsDownSite layout n s
    → finds_room (epoch_uid n) (body (epoch_bytes e)) (settled p s) ≡ b → epoch_has_room (settled p s) e ≡ b
room-there layout n more s p e b d is =
    ap (λ f. f && not (settled p s).node.untold) fits ∙ ap (λ u. b && not u) (settled-untold p s ∙ d.not_untold) ∙ alone b
  where
    fits : epoch_fits (settled p s) e ≡ b
    fits = ap (λ k. finds_room (epoch_uid k) (body (epoch_bytes e)) (settled p s)) (settled-number p s ∙ d.number) ∙ is

    alone : (b : Bool) → (b && true) ≡ b
    alone true = refl
    alone false = refl

began-next : (layout : Layout) (n more : ℕ) (s : Site) (p : Option Pick) (e : ℕ) → IsDownSite layout n s → Opened s p
    → e ≡ stored_epoch (settled p s).node + 1 → stored_epoch (settled p s).node < last_epoch
    → IsTrue (finds_room (epoch_uid n) (body (epoch_bytes e)) (settled p s)) → BeganNext s e p true
began-next layout n more s p e d opened next below room =
    record { opened = opened; not_last = below; next_one = next; has_room = room-there layout n more s p e true d room; begun = refl }

pub boots-up : (layout : Layout) (n more : ℕ) (s : Site) (old : Told) (before : ℕ) (p : Option Pick) (e : ℕ) (x y : Seen)
    → IsDownSite layout n s → OpensTo layout n more s old before p x → IsPut layout n more s old before p e y
    → e ≡ stored_epoch (settled p s).node + 1 → stored_epoch (settled p s).node < last_epoch
    → BootsUp layout n more s old before (note_of e p true) y
unfolding on_node
boots-up layout n more s old before p e x y d o u next below = record {
  allowed = record {
    is_down = d.is_down;
    no_requests = d.queue;
    boots = began-next layout n more s p e d
        (opened-so layout n more s old before p x d o) next below u.has_room;
  };
  told = u.told;
  stands = record {
    number = settled-number p s ∙ d.number;
    its_layout = settled-layout p s ∙ d.its_layout;
    up = refl;
    keeps = subst (λ w. MapStands n (with_clock y.disk.counts.clock (boot_turn e end.Up p true s)) y.kept (doubt_in w)) (sym u.idle)
        (map-clock n y.disk.counts.clock (boot_turn e end.Up p true s) y.kept None u.keeps);
    epoch_settled = none-doubted (settled p s).node.epoch_doubt u.keeps.epoch_doubt;
    epoch_stored = refl;
    queue = settled-requests p s ∙ d.queue;
    stand = subst (λ w. RequestsStand w y.disk.counts.size []) (sym u.idle) tt;
    there = tt;
    synced = settled-synced p s d.unsynced ∙ sym (ap is_synced u.idle);
    its_size = settled-size p s ∙ u.its_size;
    its_clock = refl;
    not_overfull = settled-overfull p s ∙ d.not_overfull;
    fresh = subst (λ w. IfSome (change_in w) (λ c. IsFresh c y.kept)) (sym u.idle) tt;
    stands = subst (λ w. LeavesKept layout n y.more y.kept w y.disk.told) (sym u.idle) u.stands;
  };
  disk = subst (λ l. NodeOnDisk layout n s.node l (boot_turn e end.Up p true s).node old before y.disk.told y.disk.counts.clock)
      (sym (put-next n s p e next below)) u.disk;
}
  where
    none-doubted : (o : Option ℕ) → None ≡ change_of_epoch o → o ≡ None
    none-doubted None is = refl
    none-doubted (Some k) is = absurd (cc is)

boot-begun : (how : BootEnd) (e : ℕ) (p : Option Pick) (s : Site) → IsFall how
    → boot_turn e how p true s ≡ boot_turn e end.DiskFault p true s
unfolding on_node
boot-begun end.Up e p s fall = absurd fall
boot-begun end.DiskFault e p s fall = refl
boot-begun end.Stop e p s fall = refl
boot-begun (end.Damaged place) e p s fall = refl
boot-begun end.EpochsSpent e p s fall = refl
boot-begun end.Full e p s fall = refl

rests-in-doubt : (layout : Layout) (n more : ℕ) (s : Site) (old : Told) (before : ℕ) (p : Option Pick) (e : ℕ) (y : Seen)
    (noted : Option Doubt) → IsDownSite layout n s → (u : IsPutInDoubt layout n more s old before p e y)
    → noted ≡ noted_in (doubt_in y.work) y.kept
    → RestStands layout n y.more (with_clock y.disk.counts.clock (boot_turn e end.DiskFault p true s)) noted y.disk.counts.size
    y.disk.counts.clock y.disk.told
unfolding on_node
rests-in-doubt layout n more s old before p e y noted d u is_noted = record {
  number = settled-number p s ∙ d.number;
  its_layout = settled-layout p s ∙ d.its_layout;
  is_down = settled-up p s ∙ d.is_down;
  queue = settled-requests p s ∙ d.queue;
  unsynced = settled-synced p s d.unsynced;
  its_size = settled-size p s ∙ u.its_size;
  its_clock = refl;
  not_overfull = settled-overfull p s ∙ d.not_overfull;
  kept = y.kept;
  doubt = Some u.change;
  keeps = map-clock n y.disk.counts.clock (boot_turn e end.DiskFault p true s) y.kept (Some u.change) u.keeps;
  is_noted = is_noted ∙ ap (λ w. noted_in (doubt_in w) y.kept) u.work;
  fresh = u.fresh;
  stands = u.stands;
}

falls-begun : (layout : Layout) (n more : ℕ) (s : Site) (old : Told) (before : ℕ) (p : Option Pick) (e : ℕ) (x y : Seen) (how : BootEnd)
    (noted : Option Doubt) → IsFall how → IsDownSite layout n s → OpensTo layout n more s old before p x
    → (u : IsPutInDoubt layout n more s old before p e y) → noted ≡ noted_in (doubt_in y.work) y.kept
    → e ≡ stored_epoch (settled p s).node + 1 → stored_epoch (settled p s).node < last_epoch
    → (BeganNext s e p true → BootsSo s e how p true)
    → (left : ℕ) × BootsDown layout n more s old before how (note_of e p true) noted left y.disk.told y.disk.counts
falls-begun layout n more s old before p e x y how noted fall d o u is_noted next below so = (
  y.more,
  record {
    told = u.told;
    allowed = record {
      is_down = d.is_down;
      no_requests = d.queue;
      boots = so
          (began-next layout n more s p e d (opened-so layout n more s old before p x d o) next below u.has_room);
    };
    rests = subst (λ z. RestStands layout n y.more
        (with_clock y.disk.counts.clock z) noted y.disk.counts.size y.disk.counts.clock y.disk.told) (sym (boot-begun how e p s fall))
        (rests-in-doubt layout n more s old before p e y noted d u is_noted);
    disk = subst (λ (z : Site). NodeOnDisk layout n s.node (put_after n s p) z.node old before y.disk.told y.disk.counts.clock)
        (sym (boot-begun how e p s fall))
        (subst (λ l. NodeOnDisk layout n s.node l (boot_turn e end.DiskFault p true s).node old before y.disk.told y.disk.counts.clock)
        (sym (put-next n s p e next below)) u.disk);
  },
)

-- the put was refused by the disk
pub falls-put : (layout : Layout) (n more : ℕ) (s : Site) (old : Told) (before : ℕ) (p : Option Pick) (e : ℕ) (x y : Seen)
    (why : StoreRefusal) (noted : Option Doubt) → IsDiskRefusal why → IsDownSite layout n s → OpensTo layout n more s old before p x
    → PutsTo layout n more s old before p e x (Err why) y → noted ≡ noted_in (doubt_in y.work) y.kept
    → e ≡ stored_epoch (settled p s).node + 1 → stored_epoch (settled p s).node < last_epoch
    → FallsTo layout n more s old before (end_of_boot why) (note_of e p true) noted y.disk.told y.disk.counts
falls-put layout n more s old before p e x y refusal.Failed noted only d o u is next below = falls-begun layout n more s old before p e x y
    end.DiskFault noted tt d o u is next below (λ b. inr (inr b))
falls-put layout n more s old before p e x y refusal.Stopped noted only d o u is next below = falls-begun layout n more s old before p e x y
    end.Stop noted tt d o u is next below (λ b. inr (inr b))
falls-put layout n more s old before p e x y refusal.Full noted only d o u is next below = absurd
    (elim only [ inl bad ↦ cc bad | inr bad ↦ cc bad ])
falls-put layout n more s old before p e x y (refusal.Damaged place) noted only d o u is next below = absurd
    (elim only [ inl bad ↦ cc bad | inr bad ↦ cc bad ])
falls-put layout n more s old before p e x y refusal.OutOfMemory noted only d o u is next below = absurd
    (elim only [ inl bad ↦ cc bad | inr bad ↦ cc bad ])

-- nothing was put
pub falls-full : (layout : Layout) (n more : ℕ) (s : Site) (old : Told) (before : ℕ) (p : Option Pick) (e : ℕ) (x y : Seen)
    → IsDownSite layout n s → OpensTo layout n more s old before p x → PutsTo layout n more s old before p e x (Err refusal.Full) y
    → e ≡ stored_epoch (settled p s).node + 1 → stored_epoch (settled p s).node < last_epoch
    → FallsTo layout n more s old before (Some end.Full) (note_of 0 p false) None y.disk.told y.disk.counts
falls-full layout n more s old before p e x y d o u next below =
    subst (λ t. FallsTo layout n more s old before (Some end.Full) (note_of 0 p false) None t y.disk.counts) (sym u.0.told)
    (subst (λ k. FallsTo layout n more s old before (Some end.Full) (note_of 0 p false) None x.disk.told k) (sym u.0.counts)
    (falls-settled layout n more s old before p x end.Full tt d o (inr (record {
      nothing = began-nothing layout n more s old before p x d o;
      not_last = below;
      no_room = subst (λ k. epoch_has_room (settled p s) k ≡ false) next (room-there layout n more s p e false d u.1);
    }))))

pub falls-unmade : (layout : Layout) (n more : ℕ) (s : Site) (old : Told) (before : ℕ) (p : Option Pick) (e : ℕ) (x y : Seen)
    (note : BootNote) (noted : Option Doubt) → OpensTo layout n more s old before p x
    → PutsTo layout n more s old before p e x (Err refusal.OutOfMemory) y
    → FallsTo layout n more s old before None note noted y.disk.told y.disk.counts
falls-unmade layout n more s old before p e x y note noted o u =
    subst (λ t. BootsNot layout n s old before t y.disk.counts.clock × KeepsRoom layout n more t) (sym u.told)
    (subst (λ (k : Counts). BootsNot layout n s old before x.disk.told k.clock × KeepsRoom layout n more x.disk.told) (sym u.counts)
    (boots-not layout n more s old before p x o, boots-room layout n more s old before p x o))

pub falls-ended : (layout : Layout) (n more : ℕ) (s : Site) (old : Told) (before : ℕ) (p : Option Pick) (x : Seen) (note : BootNote)
    (noted : Option Doubt) → OpensTo layout n more s old before p x
    → FallsTo layout n more s old before None note noted x.disk.told x.disk.counts
falls-ended layout n more s old before p x note noted o =
    (boots-not layout n more s old before p x o, boots-room layout n more s old before p x o)

-- 4. The same in the words of what was handed back

pub fall-as : (layout : Layout) (n more : ℕ) (s : Site) (old : Told) (before : ℕ) (how to : Option BootEnd) (note now : BootNote)
    (noted doubt : Option Doubt) (told new : Told) (counts after : Counts) → to ≡ how → now ≡ note → doubt ≡ noted → new ≡ told
    → after ≡ counts
    → FallsTo layout n more s old before how note noted told counts → FallsTo layout n more s old before to now doubt new after
fall-as layout n more s old before how to note now noted doubt told new counts after a b c d e f =
    subst (λ x. FallsTo layout n more s old before x now doubt new after) (sym a)
    (subst (λ x. FallsTo layout n more s old before how x doubt new after) (sym b)
    (subst (λ x. FallsTo layout n more s old before how note x new after) (sym c)
    (subst (λ x. FallsTo layout n more s old before how note noted x after) (sym d)
    (subst (λ x. FallsTo layout n more s old before how note noted told x) (sym e) f))))

pub noted-idle : (y : Seen) → y.work ≡ Idle → noted_in (doubt_in y.work) y.kept ≡ None
noted-idle y is = ap (λ w. noted_in (doubt_in w) y.kept) is

-- the stored epoch behind a settling is one of 32 bits
pub epochs-fit : (p : Option Pick) (s : Site) → HasEpochs s.node → IfSome (settled p s).node.epoch (λ k. k ≤ last_epoch)
unfolding on_node
epochs-fit None s h = h.stored
epochs-fit (Some pick.Old) s h = h.stored
epochs-fit (Some pick.New) s h = go s.node.epoch_doubt h.doubted
  where
    go : (o : Option ℕ) → IfSome o (λ k. k ≤ last_epoch) → IfSome (with_item o (λ e. Some e) s.node.epoch) (λ k. k ≤ last_epoch)
    go None f = h.stored
    go (Some e) f = f

pub below-last : (layout : Layout) (n more : ℕ) (s : Site) (p : Option Pick) (e : ℕ) → IsDownSite layout n s
    → e ≡ stored_epoch (settled p s).node → (e ≡ 4294967295 → ⊥) → stored_epoch (settled p s).node < last_epoch
below-last layout n more s p e d is other = elim (cases_lt (stored_epoch (settled p s).node) last_epoch) [
  | inl below ↦ below
  | inr high ↦ absurd (other (omega (arith, is, high, stored-fits (settled p s).node.epoch (epochs-fit p s d.epochs))))
]
  where
    stored-fits : (o : Option ℕ) → IfSome o (λ k. k ≤ 4294967295) → with_item o (λ k. k) 0 ≤ 4294967295
    stored-fits None f = omega arith
    stored-fits (Some k) f = f

-- 5. From before the disk got its power

abbrev pub at-restart : (layout : Layout) (n more : ℕ) (s : Site) (noted : Option Doubt) (counts after : Counts) (told new : Told)
    → after.size ≡ counts.size → after.clock ≡ counts.clock → new ≡ told → RestStands layout n more s noted counts.size counts.clock told
    → RestStands layout n more s noted after.size after.clock new
at-restart layout n more s noted counts after told new size clock same h = record {
  number = h.number;
  its_layout = h.its_layout;
  is_down = h.is_down;
  queue = h.queue;
  unsynced = h.unsynced;
  its_size = h.its_size ∙ sym size;
  its_clock = subst (λ k. IfSome s.node.clock (λ c. c ≡ k)) (sym clock) h.its_clock;
  not_overfull = h.not_overfull;
  kept = h.kept;
  doubt = h.doubt;
  keeps = h.keeps;
  is_noted = h.is_noted;
  fresh = h.fresh;
  stands = subst (λ t. LeavesOnly (StandsKept layout n more h.kept (changes_in h.doubt)) (contents t)) (sym same) h.stands;
}

pub map-ok : {A E : Type 0} (P Q : A → Type 0) (r : Result A E) → ((x : A) → P x → Q x) → IfOk r P → IfOk r Q
map-ok P Q (Ok x) f h = f x h
map-ok P Q (Err e) f h = tt

pub map-err : {A E : Type 0} (P Q : E → Type 0) (r : Result A E) → ((x : E) → P x → Q x) → IfErr r P → IfErr r Q
map-err P Q (Ok x) f h = tt
map-err P Q (Err e) f h = f e h

pub up-from : (layout : Layout) (n more : ℕ) (s : Site) (counts after : Counts) (told new : Told) (note : BootNote) (y : Seen)
    → after.clock ≡ counts.clock → new ≡ told → BootsUp layout n more s new after.clock note y
    → BootsUp layout n more s told counts.clock note y
up-from layout n more s counts after told new note y clock same b = subst (λ k. BootsUp layout n more s told k note y) clock
    (subst (λ t. BootsUp layout n more s t after.clock note y) same b)

pub falls-from : (layout : Layout) (n more : ℕ) (s : Site) (counts after : Counts) (told new : Told) (how : Option BootEnd)
    (note : BootNote) (noted : Option Doubt) (last : Told) (end_counts : Counts) → after.clock ≡ counts.clock → new ≡ told
    → FallsTo layout n more s new after.clock how note noted last end_counts
    → FallsTo layout n more s told counts.clock how note noted last end_counts
falls-from layout n more s counts after told new how note noted last end_counts clock same b =
    subst (λ k. FallsTo layout n more s told k how note noted last end_counts) clock
    (subst (λ t. FallsTo layout n more s t after.clock how note noted last end_counts) same b)
