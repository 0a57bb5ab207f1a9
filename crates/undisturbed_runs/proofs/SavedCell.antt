-- A cell is saved over a blank disk: its checkpoint is awaited, and then answered 0. On a disk that is full a put lacks room.
use Rattle.std.proofs.Common.{◌≡◌, ℕ, [], ◌∷◌, None, Some, take, refl, inl}
use Rattle.eden_model.specs.Map.{with_item}
use Rattle.eden_model.specs.Crew.{least_number}
use Rattle.journal.specs.EjectChange.{body}
use Rattle.journal.specs.declared.event.Event.TheVariants as event
use Rattle.journal.specs.declared.event.RequestEnd.TheVariants as end
use Rattle.journal.specs.declared.event.BootEnd.TheVariants as boot_end
use Rattle.journal.specs.declared.event.StartEnd.TheVariants as start_end
use Rattle.journal.specs.World.{World, StoreRequest, at_node, on_eject, on_node, on_traffic, site_of, site_at}
use Rattle.journal.specs.Run.{beginning, end_of}
use Rattle.journal.proofs.Scenes.{one_node, blank_node, c_uid, on_disk}
use Rattle.journal.proofs.ByEntries.{cell_bytes}
use Rattle.journal.proofs.CrashAfterSave as saved
use Rattle.journal.specs.Granted.{kept_after_pick}
use Rattle.undisturbed_runs.specs.Turns.{LacksRoom, start_end_of, boot_end_of}
use Rattle.undisturbed_runs.specs.Puts.{Awaits, spelled_by, IsAcknowledged}

-- the world behind so many entries
abbrev behind : ℕ → World
behind k = (end_of (beginning one_node 1 saved.commands) (take k saved.history)).world

-- its process asks for a checkpoint in entry 12
spells : spelled_by (behind 11) c_uid 1 ≡ Some (cell_bytes 5)
unfolding saved.commands saved.history at_node on_eject on_node on_traffic least_number
spells = refl

awaits : Awaits c_uid 1 (cell_bytes 5) (behind 12)
unfolding saved.commands saved.history at_node on_eject on_node on_traffic least_number
awaits = inl (record { of_uid = refl; process = refl; change = refl })

-- and its put is done in entry 16
answered : IsAcknowledged c_uid 1 (cell_bytes 5)
    (record { world = behind 15; entry = on_disk 1 15 (event.Store c_uid 15 end.Done None); later = behind 16 })
unfolding saved.commands saved.history at_node on_eject on_node on_traffic least_number
answered = record { answered = (refl, refl); kept = refl }

-- the node boots again, and the cell starts from what was saved
boots : boot_end_of (with_item (site_at (behind 26) 1) (λ s. s) (site_of one_node 1 blank_node)) None ≡ boot_end.Up
unfolding saved.commands saved.history at_node on_eject on_node on_traffic least_number
boots = refl

starts : start_end_of (behind 29).types c_uid (kept_after_pick (behind 29) c_uid (event.Activate c_uid start_end.Ok None)) ≡ start_end.Ok
unfolding saved.commands saved.history at_node on_eject on_node on_traffic least_number
starts = refl

-- before it was saved, nothing was kept from which to start
none_kept : start_end_of (behind 11).types c_uid (kept_after_pick (behind 11) c_uid (event.Activate c_uid start_end.Ok None))
    ≡ start_end.Gone
unfolding saved.commands saved.history at_node on_eject on_node on_traffic least_number
none_kept = refl

-- a log with no room for a body of 18 bytes
abbrev asked : StoreRequest
asked = record { uid = c_uid; process = Some 1; change = body (cell_bytes 5); made = 0 }

full : LacksRoom (site_of one_node 1 (record blank_node { ledger = 1048526 ∷ [] })) asked
full = record { not_begun = refl; nothing_in_doubt = refl; needs = refl; no_room = refl }
