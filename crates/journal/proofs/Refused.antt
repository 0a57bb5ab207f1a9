-- Wrong entries that are not due.
use Rattle.std.proofs.Common.{◌≡◌, List, [], ◌∷◌, None, Some, true, take, codes, arith, ap}
use Rattle.eden_value.specs.declared.status.Status.TheVariants as status
use Rattle.eden_model.specs.Traffic.{answered}
use Rattle.journal.specs.declared.event.Event.TheVariants as event
use Rattle.journal.specs.declared.event.BootEnd.TheVariants as boot_end
use Rattle.journal.specs.declared.event.RequestEnd.TheVariants as request_end
use Rattle.journal.specs.declared.event.StartEnd.TheVariants as start_end
use Rattle.passive_store.specs.declared.store.Pick.TheVariants as pick
use Rattle.eden_model.specs.Crew.{least_number}
use Rattle.journal.specs.World.{at_node, on_eject, on_node, on_traffic}
use Rattle.journal.specs.Run.{IsDue, beginning, end_of}
use Rattle.journal.proofs.Scenes.{one_node, plain, on_disk, c_uid, int}
use Rattle.journal.proofs.Wrong.{none-some, some-none, false-true, kind_of}
use Rattle.journal.proofs.SetThenGet as set_get
use Rattle.journal.proofs.CrashAfterSave as crash
use Rattle.journal.proofs.StopLosesTheWrite as stop
use Rattle.journal.proofs.SaveAfterAFailedSave as fail
use Rattle.journal.proofs.CallsAroundACrash as calls
use Rattle.journal.proofs.OtherTurnsComeBetween as between

nil-cons : {X : Type 0} {x : X} {xs : List X} → [] ≡ x ∷ xs → ⊥
nil-cons e = absurd (cc)

five-zero : answered status.Ok (int 5 ∷ []) ≡ answered status.Ok (int 0 ∷ []) → ⊥
five-zero e = absurd (cc)

-- `go` ends with `quiet` although an invocation may start
ends_early : IsDue (end_of (beginning one_node 1 set_get.commands) (take 4 set_get.history)) (plain event.Quiet) → ⊥
unfolding set_get.commands set_get.history at_node on_eject on_node on_traffic least_number
ends_early d = none-some d.key

-- after a crash an older value than the one saved is answered
older_value : IsDue (end_of (beginning one_node 1 crash.commands) (take 32 crash.history))
    (plain (event.Reply 4 1 0 (Some (codes "e")) status.Ok (int 0 ∷ []))) → ⊥
unfolding crash.commands crash.history at_node on_eject on_node on_traffic least_number
older_value d = five-zero d.allowed.event.delivered.0

-- a boot with a doubt on its disk picks nothing
no_pick : IsDue (end_of (beginning one_node 1 stop.commands) (take 34 stop.history)) (on_disk 1 28 (event.Boot 1 2 boot_end.Up None true))
    → ⊥
unfolding stop.commands stop.history at_node on_eject on_node on_traffic least_number
no_pick d = false-true d.event.1.boots.opened.picked

-- the epoch does not rise at a boot
same_epoch : IsDue (end_of (beginning one_node 1 crash.commands) (take 26 crash.history))
    (on_disk 1 25 (event.Boot 1 1 boot_end.Up None true)) → ⊥
unfolding crash.commands crash.history at_node on_eject on_node on_traffic least_number
same_epoch d = let h : 1 ≡ 2 = d.event.1.boots.next_one in omega (arith, h)

-- a request is done although the doubt before it was not read
unread_doubt : IsDue (end_of (beginning one_node 1 fail.commands) (take 48 fail.history))
    (on_disk 1 21 (event.Store c_uid 21 request_end.Done None)) → ⊥
unfolding fail.commands fail.history at_node on_eject on_node on_traffic least_number
unread_doubt d = d.allowed.event.ends

-- a creation is passed over
passed_over : IsDue (end_of (beginning one_node 1 set_get.commands) (take 1 set_get.history)) (plain event.Quiet) → ⊥
unfolding set_get.commands set_get.history at_node on_eject on_node on_traffic
passed_over d = d.event

-- a node is not booted
not_booted : IsDue (beginning one_node 1 set_get.commands) (plain event.Quiet) → ⊥
unfolding set_get.commands
not_booted d = d.event

-- a turn is taken where a call is to be asked
turn_for_a_call : IsDue (end_of (beginning one_node 1 set_get.commands) (take 8 set_get.history)) (plain (event.Request 2 0 1 None)) → ⊥
unfolding set_get.commands set_get.history at_node on_eject on_node on_traffic
turn_for_a_call d = d.event

-- a request is refused without a cause
no_cause : IsDue (end_of (beginning one_node 1 set_get.commands) (take 3 set_get.history))
    (plain (event.Request 1 0 1 (Some status.Busy))) → ⊥
unfolding set_get.commands set_get.history at_node on_eject on_node on_traffic
no_cause d = some-none d.allowed.event.delivered.1

-- a store's turn with one device call shows two
wrong_clock : IsDue (end_of (beginning one_node 1 stop.commands) (take 12 stop.history))
    (on_disk 1 13 (event.Store c_uid 13 request_end.Part None)) → ⊥
unfolding stop.commands stop.history at_node on_eject on_node on_traffic least_number
wrong_clock d = let h : 13 ≡ 12 = d.allowed.store_clock.1 in omega (arith, h)

-- a doubt is picked a second time
picked_again : IsDue (end_of (beginning one_node 1 stop.commands) (take 37 stop.history))
    (on_disk 1 29 (event.Activate c_uid start_end.Ok (Some pick.New))) → ⊥
unfolding stop.commands stop.history at_node on_eject on_node on_traffic least_number
picked_again d = some-none d.allowed.event.starts.0

-- the line of a broken call is lost
lost_line : IsDue (end_of (beginning one_node 1 calls.commands) (take 3 calls.history)) (on_disk 1 11 (event.Crash 1)) → ⊥
unfolding calls.commands calls.history at_node on_eject on_node on_traffic
lost_line d = nil-cons d.broken

-- the store takes a second turn before a request that was due
another_order : IsDue (end_of (beginning one_node 1 between.commands) (take 9 between.history))
    (on_disk 1 13 (event.Store c_uid 13 request_end.Part None)) → ⊥
unfolding between.commands between.history at_node on_eject on_node on_traffic least_number
another_order d = let h : 5 ≡ 1 = ap kind_of d.key in omega (arith, h)
