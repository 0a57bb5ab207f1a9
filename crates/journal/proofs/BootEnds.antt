-- The ends of a boot, in the order of its device calls.
use Rattle.std.proofs.Common.{◌≡◌, ◌==◌, ◌≤◌, ℕ, List, [], ◌∷◌, None, Some, Result, Ok, Err, Bool, true, false, not, ◌&&◌, refl, arith, ap}
use Rattle.std.proofs.Common.{◌∙◌, inl, inr}
use Rattle.std.proofs.lemmas.Bool.Decides.{nat_tests}
use Rattle.passive_store.specs.Kept.{Layout, Kept}
use Rattle.passive_store.specs.declared.store.Pick.TheVariants as pick
use Rattle.journal.specs.declared.event.BootEnd.TheVariants as end
use Rattle.journal.specs.World.{Node, Site, site_of, on_node}
use Rattle.journal.specs.Boots.{AllowsBoot, boot_turn}
use Rattle.journal.specs.Opening.{IsFitFor, entries_of, has_epoch_first, is_untold}
use Rattle.journal.proofs.Scenes.{one_node, blank_node}

abbrev at : Node → Site
at it = site_of one_node 1 it

-- the last epoch is stored
spent : AllowsBoot (at (record blank_node { epoch = Some 4294967295 })) 0 end.EpochsSpent None false
unfolding on_node
spent = record {
  is_down = refl;
  no_requests = refl;
  boots = record {
    nothing = record {
      opened = record { undamaged = refl; not_overfull = refl; picked = refl };
      no_epoch = refl;
      not_begun = refl;
    };
    last = refl;
  };
}

-- the image has no map
damaged : AllowsBoot (at (record blank_node { damaged = Some 16 })) 0 (end.Damaged 16) None false
unfolding on_node
damaged = record {
  is_down = refl;
  no_requests = refl;
  boots = record { at_place = refl; nothing = record { no_pick = refl; no_epoch = refl; not_begun = refl } };
}

-- the image is a log with too many values to convert
overfull : AllowsBoot (at (record blank_node { overfull = true })) 0 end.Full None false
unfolding on_node
overfull = record {
  is_down = refl;
  no_requests = refl;
  boots = inl (record { undamaged = refl; overfull = refl; nothing = record { no_pick = refl; no_epoch = refl; not_begun = refl } });
}

-- the log has no room for the next epoch: 1048576 - 16 - (15 + 1048526) - 16 leaves 3 bytes
no_room : AllowsBoot (at (record blank_node { ledger = 1048526 ∷ [] })) 0 end.Full None false
unfolding on_node
no_room = record {
  is_down = refl;
  no_requests = refl;
  boots = inr (record {
    nothing = record {
      opened = record { undamaged = refl; not_overfull = refl; picked = refl };
      no_epoch = refl;
      not_begun = refl;
    };
    not_last = omega arith;
    no_room = refl;
  });
}

-- an image that can be opened, and that has no sequence left: there is no room for the next epoch, though what is kept leaves some
untold : AllowsBoot (at (record blank_node { untold = true })) 0 end.Full None false
unfolding on_node
untold = record {
  is_down = refl;
  no_requests = refl;
  boots = inr (record {
    nothing = record {
      opened = record { undamaged = refl; not_overfull = refl; picked = refl };
      no_epoch = refl;
      not_begun = refl;
    };
    not_last = omega arith;
    no_room = refl;
  });
}

-- it does not come up
not_up : AllowsBoot (at (record blank_node { untold = true })) 1 end.Up None true → ⊥
unfolding on_node
not_up h = let bad : false ≡ true = h.boots.has_room in cc bad

-- an image that is fit for a change is not untold
pub fit-is-told : (layout : Layout) (n more : ℕ) (image : List ℕ) → 1 ≤ more → IsFitFor layout n more image
    → is_untold layout n image ≡ false
fit-is-told layout n more image some fit = go (layout.map_of n image) refl (layout.is_overfull n image) refl
  where
    last : (a : Bool) → (a && false) ≡ false
    last true = refl
    last false = refl

    go : (r : Result Kept ℕ) → layout.map_of n image ≡ r → (full : Bool) → layout.is_overfull n image ≡ full
        → ((layout.changes_told n image == 0) && (not full && has_epoch_first n (entries_of r))) ≡ false
    go (Err place) map full opens =
        ap (λ b. (layout.changes_told n image == 0) && b) (last (not full)) ∙ last (layout.changes_told n image == 0)
    go (Ok kept) map true opens = last (layout.changes_told n image == 0)
    go (Ok kept) map false opens =
        let many : more ≤ layout.changes_told n image = fit.room_is_told kept map opens in
        let not_none : (layout.changes_told n image == 0) ≡ false = grind (arith, nat_tests, some, many) in
        ap (λ b. b && has_epoch_first n (entries_of (Ok kept))) not_none

-- the put of epoch 2 failed: it is in doubt, and a boot that finds it done puts epoch 3
abbrev failed : Node
failed = (boot_turn 2 end.DiskFault None true (at (record blank_node { epoch = Some 1 }))).node

doubtful : failed.epoch_doubt ≡ Some 2
unfolding on_node
doubtful = refl

found_done : AllowsBoot (at failed) 3 end.Up (Some pick.New) true
unfolding on_node
found_done = record {
  is_down = refl;
  no_requests = refl;
  boots = record {
    opened = record { undamaged = refl; not_overfull = refl; picked = refl };
    not_last = omega arith;
    next_one = refl;
    has_room = refl;
    begun = refl;
  };
}

-- one that finds it undone puts epoch 2
found_undone : AllowsBoot (at failed) 2 end.Up (Some pick.Old) true
unfolding on_node
found_undone = record {
  is_down = refl;
  no_requests = refl;
  boots = record {
    opened = record { undamaged = refl; not_overfull = refl; picked = refl };
    not_last = omega arith;
    next_one = refl;
    has_room = refl;
    begun = refl;
  };
}
