-- Events that bind no name leave the names of the world.
use Rattle.std.proofs.Common.{◌≡◌, ℕ, Bool, true, false, List, [], ◌∷◌, Option, None, Some, refl, ◌∙◌, true≢false}
use Rattle.capability.specs.declared.Uid.{Uid}
use Rattle.eden_value.specs.declared.status.Status.TheVariants as status
use Rattle.eden_model.specs.Traffic.{processes_of, broken_by_node, broken_by_link, without_link}
use Rattle.epl_syntax.specs.declared.effect.Answer.TheVariants.{Reply as Told}
use Rattle.journal.specs.Crashes.{tells_each, linked}
use Rattle.journal.specs.Ejects.{tells}
use Rattle.journal.specs.Step.{next, after_turn, after_command, happened, at_site, stopped_at, site_turn, counted, clocked, key_of}
use Rattle.journal.specs.World.{World, at_node, reaches}
use Rattle.journal.specs.declared.command.Command.{Command}
use Rattle.journal.specs.declared.event.Event.{Event}
use Rattle.journal.specs.declared.event.Event.TheVariants as event
use Rattle.journal.specs.declared.event.Key.{Key}
use Rattle.journal.specs.declared.event.RequestEnd.TheVariants as request_end
use Rattle.journal.specs.declared.event.StartEnd.TheVariants as start_end
use Rattle.history_laws.proofs.Frame.{only-at_node}
use Rattle.shell_names.specs.Events.{may_bind, OthersBindNone, StandAfterEntries}
use Rattle.shell_names.proofs.Worlds.{same-names}

told-names : (qs : List (Uid × ℕ)) (w : World) → (tells_each qs w).names ≡ w.names
told-names [] w = refl
told-names (q ∷ qs) w = told-names qs (at_node q.0.node (tells q.0 q.1 (Told status.Broken [])) w)
    ∙ (only-at_node q.0.node (tells q.0 q.1 (Told status.Broken [])) w).names

site-names : (w : World) (n : ℕ) (e : Event) → (at_site w n e).names ≡ w.names
site-names w n e = (only-at_node n (site_turn (reaches w n) e) w).names

stopped-names : (w : World) (n : ℕ) (e : Event) → (stopped_at w n e).names ≡ w.names
stopped-names w n e = told-names (processes_of (broken_by_node n) w.traffic) (at_site w n e) ∙ site-names w n e

linked-names : (a b : ℕ) (joined : Bool) (w : World) → (linked a b joined w).names ≡ w.names
linked-names a b true w = refl
linked-names a b false w = told-names (processes_of (broken_by_link a b) w.traffic)
    (record w { cuts = (a, b) ∷ w.cuts; traffic = without_link a b w.traffic })

turn-names : (w : World) (e : Event) → may_bind e ≡ false → (after_turn w e).names ≡ w.names
turn-names w (event.Boot n e how p began) h = refl
turn-names w (event.Crash n) h = refl
turn-names w (event.Still n up) h = refl
turn-names w (event.Link a b joined) h = refl
turn-names w (event.Armed n what) h = refl
turn-names w (event.Made name s u) h = refl
turn-names w (event.Bound name held) h = refl
turn-names w (event.Void name) h = refl
turn-names w (event.Asked k name at_once) h = refl
turn-names w (event.Request k a b refused) h = site-names w b (event.Request k a b refused)
turn-names w (event.Reply k a b None s values) h = site-names w b (event.Reply k a b None s values)
turn-names w (event.Reply k a b (Some name) s values) h = absurd (true≢false h)
turn-names w (event.Activate u start_end.Ok p) h = site-names w u.node (event.Activate u start_end.Ok p)
turn-names w (event.Activate u start_end.Gone p) h = site-names w u.node (event.Activate u start_end.Gone p)
turn-names w (event.Activate u start_end.Fault p) h = site-names w u.node (event.Activate u start_end.Fault p)
turn-names w (event.Activate u start_end.Damaged p) h = site-names w u.node (event.Activate u start_end.Damaged p)
turn-names w (event.Activate u start_end.Stop p) h = stopped-names w u.node (event.Activate u start_end.Stop p)
turn-names w (event.Start k u p) h = site-names w u.node (event.Start k u p)
turn-names w (event.Process u p said) h = site-names w u.node (event.Process u p said)
turn-names w (event.Store u c request_end.Part p) h = site-names w u.node (event.Store u c request_end.Part p)
turn-names w (event.Store u c request_end.Done p) h = site-names w u.node (event.Store u c request_end.Done p)
turn-names w (event.Store u c request_end.Fault p) h = site-names w u.node (event.Store u c request_end.Fault p)
turn-names w (event.Store u c request_end.Full p) h = site-names w u.node (event.Store u c request_end.Full p)
turn-names w (event.Store u c request_end.Stop p) h = stopped-names w u.node (event.Store u c request_end.Stop p)
turn-names w event.Quiet h = refl
turn-names w event.Spent h = refl
turn-names w (event.Left names) h = refl

command-names : (w : World) (c : Command) (e : Event) → may_bind e ≡ false → (after_command w c e).names ≡ w.names
command-names w c (event.Boot n e how p began) h = site-names w n (event.Boot n e how p began)
command-names w c (event.Crash n) h = stopped-names w n (event.Crash n)
command-names w c (event.Still n up) h = refl
command-names w c (event.Link a b joined) h = linked-names a b joined w
command-names w c (event.Armed n what) h = refl
command-names w c (event.Made name s u) h = absurd (true≢false h)
command-names w c (event.Bound name held) h = absurd (true≢false h)
command-names w c (event.Void name) h = refl
command-names w c (event.Asked k name at_once) h = absurd (true≢false h)
command-names w c (event.Request k a b refused) h = refl
command-names w c (event.Reply k a b name s values) h = refl
command-names w c (event.Activate u how p) h = refl
command-names w c (event.Start k u p) h = refl
command-names w c (event.Process u p said) h = refl
command-names w c (event.Store u t how p) h = refl
command-names w c event.Quiet h = refl
command-names w c event.Spent h = refl
command-names w c (event.Left names) h = refl

happened-names : (w : World) (c : Option Command) (e : Event) → may_bind e ≡ false → (happened w c e).names ≡ w.names
happened-names w None e h = turn-names w e h
happened-names w (Some c) e h = command-names w c e h

counted-names : (k : Option Key) (w : World) → (counted k w).names ≡ w.names
counted-names None w = refl
counted-names (Some k) w = refl

pub stand-after : StandAfterEntries
stand-after names w c e h =
    same-names names (next w c e) (happened w c e.event)
    (counted-names (key_of e.event) (clocked e.node e.clock (happened w c e.event))) h

pub others-bind-none : OthersBindNone
others-bind-none names w c e none h =
    stand-after names w c e (same-names names (happened w c e.event) w (happened-names w c e.event none) h)
