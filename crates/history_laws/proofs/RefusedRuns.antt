-- Why each of these runs is refused.
use Rattle.std.proofs.Common.{◌≡◌, ℕ, [], ◌∷◌, length, true, None, Some, refl, sym, ◌∙◌, ap, subst, arith}
use Rattle.std.proofs.lemmas.List.{length-replicate}
use Rattle.eden_disk.specs.Told.{Told, contents, Left}
use Rattle.passive_store.specs.LogLayout.{log_layout}
use Rattle.eden_model.specs.Crew.{least_number}
use Rattle.journal.specs.declared.command.Command.TheVariants as command
use Rattle.journal.specs.declared.event.Event.TheVariants as event
use Rattle.journal.specs.declared.event.BootEnd.TheVariants as boot_end
use Rattle.journal.specs.World.{at_node, on_eject, on_node, on_traffic}
use Rattle.journal.specs.Settling.{epoch_uid}
use Rattle.journal.specs.Opening.{found_in}
use Rattle.journal.specs.Run.{Step, world_after}
use Rattle.journal.specs.Standing.{Standing, StandsFor, Stands, state}
use Rattle.journal.specs.Faults.{shows_fault, number_of}
use Rattle.journal.specs.RefusedRuns.{zeros, blank_told, on_disk, script_of, c_uid, saving, saved, faults, stopped, booted}
use Rattle.journal.specs.RefusedRuns.{UnwrittenDiskIsRefused, ExchangedDisksAreRefused, InventedFaultsAreRefused, UnaskedStopIsRefused}
use Rattle.journal.specs.RefusedRuns.{OtherClockIsRefused}
use Rattle.history_laws.proofs.AtTheEnd.{at-the-end}
use Rattle.journal.proofs.Scenes.{blank_world}
use Rattle.journal.proofs.Blank.{FollowsOverBlank, blank-found, opens-blank, follows-over-blank}

-- 1. Each history follows its script over blank disks: it is refused for what it says of its disk alone.

saved-follows : FollowsOverBlank 1 saving saved
unfolding saving saved at_node on_eject on_node on_traffic least_number
saved-follows = follows-over-blank 1 saving saved refl

faults-follow : FollowsOverBlank 1 saving faults
unfolding saving faults at_node on_eject on_node on_traffic least_number
faults-follow = follows-over-blank 1 saving faults refl

stopped-follows : FollowsOverBlank 1 (command.End ∷ []) stopped
unfolding at_node on_eject on_node on_traffic least_number
stopped-follows = follows-over-blank 1 (command.End ∷ []) stopped refl

booted-follows : FollowsOverBlank 1 (command.End ∷ []) booted
unfolding at_node on_eject on_node on_traffic least_number
booted-follows = follows-over-blank 1 (command.End ∷ []) booted refl

-- 2. At the end of the history of a save the saved value is kept, and an image of zeros keeps nothing.

saved-state : state (world_after (blank_world 1) 1 saving saved) 1
    ≡ record {
      kept = Some
          ((epoch_uid 1, 0 ∷ 0 ∷ 0 ∷ 2 ∷ []) ∷
          (c_uid, 1 ∷ 4 ∷ 67 ∷ 101 ∷ 108 ∷ 108 ∷ 0 ∷ 1 ∷ 1 ∷ 1 ∷ 0 ∷ 0 ∷ 0 ∷ 0 ∷ 0 ∷ 0 ∷ 0 ∷ 5 ∷ []) ∷ []);
      changes = [];
    }
unfolding saving saved at_node on_eject on_node on_traffic least_number
saved-state = refl

zeros-left : (size : ℕ) → Left (contents (blank_told size)) (zeros size)
zeros-left size = record { size = refl; outside = λ k h. refl }

pub unwritten-disk-is-refused : UnwrittenDiskIsRefused
unwritten-disk-is-refused d before after legal =
    let opens = opens-blank 1 saving (d ∷ []) (before, tt) in
    let there : Stands log_layout 1 (state (world_after (blank_world 1) 1 saving saved) 1) (zeros 1048576) =
    subst (λ w. Stands log_layout 1 (state (world_after w 1 saving saved) 1) (zeros 1048576)) opens
    (at-the-end log_layout (script_of 1 saving) (d ∷ []) saved legal 1 d refl (zeros 1048576)
    (subst (λ told. Left (contents told) (zeros 1048576)) (sym after) (zeros-left 1048576))) in
    let keeps : StandsFor (Some (_ ∷ _)) [] (found_in log_layout 1 (zeros 1048576)) =
    subst (λ (s : Standing). StandsFor s.kept s.changes (found_in log_layout 1 (zeros 1048576))) saved-state there in
    absurd (cc (sym (blank-found 1 1048576 (omega arith)) ∙ keeps))

-- 3. What is given back began as the image that was handed in.

same-size : (a b : ℕ) → zeros a ≡ zeros b → a ≡ b
same-size a b e = sym (length-replicate {A = ℕ} a 0) ∙ ap length e ∙ length-replicate {A = ℕ} b 0

pub exchanged-disks-are-refused : ExchangedDisksAreRefused
exchanged-disks-are-refused layout script history d e small large to back legal =
    let same = (legal.safe.each_disk_stands 1 d refl).same in
    let images : zeros 1048576 ≡ zeros 65536 =
    sym (ap (λ (t : Told). t.image) (to ∙ large)) ∙ same.image ∙ ap (λ (t : Told). t.image) small in
    absurd (omega (arith, same-size 1048576 65536 images))

-- 4. Two boots show a fault.

two-shown : number_of (shows_fault 1) faults ≡ 2
unfolding faults
two-shown = refl

pub invented-faults-are-refused : InventedFaultsAreRefused
invented-faults-are-refused layout d first last legal =
    let rose = (legal.faults 1 d refl).faults (omega (arith, last)) in absurd (omega (arith, rose, two-shown, first, last))

-- 5. No `stop` stands before the stop.

pub unasked-stop-is-refused : UnaskedStopIsRefused
unasked-stop-is-refused layout d obedient legal = (legal.commands 1 d refl obedient).0.stop

-- 6. The first entry shows the clock 11.

first : Step
first = record { world = blank_world 1; entry = on_disk 1 11 (event.Boot 1 1 boot_end.Up None true); later = blank_world 1 }

pub other-clock-is-refused : OtherClockIsRefused
other-clock-is-refused layout d less legal =
    let clocks = (legal.safe.each_disk_stands 1 d refl).clocks in absurd (omega (arith, (clocks 0 first (omega arith) refl).1, less))
