-- Whatever happens in a world, each call goes on.
use Rattle.std.proofs.Common.{◌≡◌, ℕ, Bool, true, false, List, [], ◌∷◌, Option, None, Some, refl, sym, ◌∙◌, subst}
use Rattle.std.specs.Prelude.{IsSomeAnd}
use Rattle.capability.specs.declared.Uid.{Uid}
use Rattle.capability.specs.declared.Cap.{Cap}
use Rattle.eden_value.specs.Datum.{Datum}
use Rattle.eden_value.specs.declared.status.Status.{Status}
use Rattle.eden_value.specs.declared.status.Status.TheVariants as status
use Rattle.eden_model.specs.Map.{with_item}
use Rattle.eden_model.specs.declared.Asker.TheVariants.{Shell}
use Rattle.eden_model.specs.Traffic.{Traffic, Call, call_at, next_call, new_call, with_call, processes_of, broken_by_node}
use Rattle.eden_model.specs.Traffic.{broken_by_link, without_link}
use Rattle.epl_syntax.specs.declared.effect.Answer.TheVariants.{Reply as Told}
use Rattle.epl_syntax.specs.Edentype.{Edentype}
use Rattle.epl_syntax.specs.Meaning.{type_of, first_values}
use Rattle.journal.specs.declared.command.Command.{Command}
use Rattle.journal.specs.declared.command.Command.TheVariants as command
use Rattle.journal.specs.declared.event.Key.{Key}
use Rattle.journal.specs.declared.event.StartEnd.TheVariants as start_end
use Rattle.journal.specs.declared.event.RequestEnd.TheVariants as end
use Rattle.journal.specs.declared.event.Event.{Event}
use Rattle.journal.specs.declared.event.Event.TheVariants as event
use Rattle.journal.specs.declared.event.Entry.{Entry}
use Rattle.journal.specs.World.{World, Site, Node, node_at, site_of, site_at, at_node, reaches}
use Rattle.journal.specs.Ejects.{tells, fresh, born}
use Rattle.journal.specs.Deliveries.{received}
use Rattle.journal.specs.Crashes.{tells_each, linked}
use Rattle.journal.specs.References.{cap_at}
use Rattle.journal.specs.Commands.{AllowsCommand, AllowsAsked, asked as asks, asked_by, ready_call, born_as, made, type_name_of, held_by}
use Rattle.journal.specs.Commands.{restricted_by}
use Rattle.journal.specs.Step.{AllowsAt, AllowsInTurn, AllowsEvent, Allows, next, after_turn, after_command, happened, at_site}
use Rattle.journal.specs.Step.{stopped_at, site_turn, clocked, counted, key_of}
use Rattle.journal.specs.Run.{AllowsLookUp, looked_up}
use Rattle.journal.specs.Sites.{Everywhere, Sound, AreNumbered, GoesOn}
use Rattle.history_laws.proofs.EveryNode.{at-its-site}
use Rattle.history_laws.proofs.SiteWorlds.{traffic-tells}
use Rattle.history_laws.proofs.Goings.{goes-then, GoOn, on-same, on-received, on-without_link, from-call}
use Rattle.history_laws.proofs.EventCalls.{calls-around, boot-on, crashed-on, born-on, same-on}
use Rattle.history_laws.proofs.Tasks.{CallsKept}
use Rattle.history_laws.proofs.Times.{numbered-more}

-- 1. Changes of the messages

-- each call goes on, and they stay numbered
pub record KeepsCalls (t new : Traffic) : Type 0 where
  pub kept : CallsKept t new
  pub numbered : AreNumbered 1 t.calls → AreNumbered 1 new.calls

pub kept-itself : (t : Traffic) → CallsKept t t
kept-itself t = (on-same t).goes

of-on : (t new : Traffic) → GoOn t new → KeepsCalls t new
of-on t new a = record { kept = a.goes; numbered = a.numbered }

-- a later world keeps the calls
abbrev pub Keeps : World → World → Type 0
Keeps w new = KeepsCalls w.traffic new.traffic

keeps-itself : (w : World) → Keeps w w
keeps-itself w = of-on w.traffic w.traffic (on-same w.traffic)

keeps-like : (w new like : World) → like.traffic ≡ new.traffic → Keeps w new → Keeps w like
keeps-like w new like same g = subst (KeepsCalls w.traffic) (sym same) g

keeps-same : (w new : World) → new.traffic ≡ w.traffic → Keeps w new
keeps-same w new same = keeps-like w w new same (keeps-itself w)

keeps-at_node : (w : World) (n : ℕ) (f : Site → Site)
    → ((it : Node) → node_at w n ≡ Some it → KeepsCalls w.traffic (f (site_of w n it)).traffic) → Keeps w (at_node n f w)
unfolding at_node
keeps-at_node w n f each = go (node_at w n) refl
  where
    go : (o : Option Node) → node_at w n ≡ o → KeepsCalls w.traffic (at_node n f w).traffic
    go None is = rw is (keeps-itself w)
    go (Some it) is = rw is (each it is)

traffic-tells_each : (qs : List (Uid × ℕ)) (w : World) → (tells_each qs w).traffic ≡ w.traffic
traffic-tells_each [] w = refl
traffic-tells_each (q ∷ qs) w = traffic-tells_each qs (at_node q.0.node (tells q.0 q.1 (Told status.Broken [])) w)
    ∙ traffic-tells q.0.node q.0 q.1 (Told status.Broken []) w

-- 2. Turns

-- what is known of the world before
pub record IsKnown (w : World) : Type 0 where
  pub nodes : Everywhere Sound w
  pub numbered : AreNumbered 1 w.traffic.calls

keeps-site : (w : World) (n : ℕ) (e : Event) → IsKnown w → ((it : Node) → node_at w n ≡ Some it → AllowsAt (site_of w n it) e)
    → Keeps w (at_site w n e)
keeps-site w n e sound allowed = keeps-at_node w n (site_turn (reaches w n) e) (λ it is.
    let around = calls-around (reaches w n) e (site_of w n it) (sound.nodes n it is) sound.numbered (allowed it is) in
    record { kept = around.calls.goes; numbered = around.numbered })

keeps-stopped : (w : World) (n : ℕ) (e : Event) → IsKnown w → ((it : Node) → node_at w n ≡ Some it → AllowsAt (site_of w n it) e)
    → Keeps w (stopped_at w n e)
keeps-stopped w n e sound allowed = keeps-like w (at_site w n e) (stopped_at w n e)
    (traffic-tells_each (processes_of (broken_by_node n) w.traffic) (at_site w n e)) (keeps-site w n e sound allowed)

its-site : (w : World) (n : ℕ) (e : Event) → IsSomeAnd (site_at w n) (λ s. AllowsAt s e) → (it : Node) → node_at w n ≡ Some it
    → AllowsAt (site_of w n it) e
its-site w n e allowed it is = at-its-site w n (λ s. AllowsAt s e) it is allowed

keeps-turn : (w : World) (e : Event) → IsKnown w → AllowsInTurn w e → Keeps w (after_turn w e)
keeps-turn w (event.Request k a b refused) sound allowed =
    keeps-site w b (event.Request k a b refused) sound (its-site w b (event.Request k a b refused) allowed)
keeps-turn w (event.Reply k a b None why values) sound allowed =
    keeps-site w b (event.Reply k a b None why values) sound (λ it is. allowed)
keeps-turn w (event.Reply k a b (Some name) why values) sound allowed =
    of-on w.traffic (received k w.traffic) (on-received k w.traffic)
keeps-turn w (event.Activate v start_end.Ok p) sound allowed =
    keeps-site w v.node (event.Activate v start_end.Ok p) sound (its-site w v.node (event.Activate v start_end.Ok p) allowed)
keeps-turn w (event.Activate v start_end.Gone p) sound allowed =
    keeps-site w v.node (event.Activate v start_end.Gone p) sound (its-site w v.node (event.Activate v start_end.Gone p) allowed)
keeps-turn w (event.Activate v start_end.Fault p) sound allowed =
    keeps-site w v.node (event.Activate v start_end.Fault p) sound (its-site w v.node (event.Activate v start_end.Fault p) allowed)
keeps-turn w (event.Activate v start_end.Damaged p) sound allowed =
    keeps-site w v.node (event.Activate v start_end.Damaged p) sound (its-site w v.node (event.Activate v start_end.Damaged p) allowed)
keeps-turn w (event.Activate v start_end.Stop p) sound allowed =
    keeps-stopped w v.node (event.Activate v start_end.Stop p) sound (its-site w v.node (event.Activate v start_end.Stop p) allowed)
keeps-turn w (event.Start k v p) sound allowed =
    keeps-site w v.node (event.Start k v p) sound (its-site w v.node (event.Start k v p) allowed)
keeps-turn w (event.Process v p said) sound allowed =
    keeps-site w v.node (event.Process v p said) sound (its-site w v.node (event.Process v p said) allowed)
keeps-turn w (event.Store v c end.Part p) sound allowed =
    keeps-site w v.node (event.Store v c end.Part p) sound (its-site w v.node (event.Store v c end.Part p) allowed)
keeps-turn w (event.Store v c end.Done p) sound allowed =
    keeps-site w v.node (event.Store v c end.Done p) sound (its-site w v.node (event.Store v c end.Done p) allowed)
keeps-turn w (event.Store v c end.Fault p) sound allowed =
    keeps-site w v.node (event.Store v c end.Fault p) sound (its-site w v.node (event.Store v c end.Fault p) allowed)
keeps-turn w (event.Store v c end.Full p) sound allowed =
    keeps-site w v.node (event.Store v c end.Full p) sound (its-site w v.node (event.Store v c end.Full p) allowed)
keeps-turn w (event.Store v c end.Stop p) sound allowed =
    keeps-stopped w v.node (event.Store v c end.Stop p) sound (its-site w v.node (event.Store v c end.Stop p) allowed)
keeps-turn w event.Quiet sound allowed = keeps-itself w
keeps-turn w event.Spent sound allowed = keeps-itself w
keeps-turn w _ sound allowed = absurd allowed

-- 3. Commands

keeps-shell : (w : World) (name : List ℕ) (target : Cap) (operation : List ℕ) (args : List Datum) (k : ℕ) (at_once : Option Status)
    → AreNumbered 1 w.traffic.calls → k ≡ next_call w.traffic → Keeps w (asks name target operation args k at_once w)
keeps-shell w name target operation args k at_once ordered number =
    subst (λ j. KeepsCalls w.traffic (with_call j (Shell name) target operation args at_once w.traffic)) (sym number) (record {
      kept = (from-call (λ d. Unit {0}) (Shell name) target operation args at_once w.traffic ordered tt).goes;
      numbered = λ h. numbered-more w.traffic.calls h (new_call (Shell name) target operation args at_once);
    })

keeps-asked : (w : World) (c : Command) (k : ℕ) (name : List ℕ) (at_once : Option Status) → AreNumbered 1 w.traffic.calls
    → AllowsCommand w c (event.Asked k name at_once) → Keeps w (asked_by c k at_once w)
keeps-asked w (command.Call said target operation args) k name at_once ordered allowed =
    go (ready_call w (command.Call said target operation args)) allowed.1
  where
    go : (o : Option (Cap × List Datum)) → IsSomeAnd o (λ c. AllowsAsked w k at_once c.0 c.1)
        → Keeps w (with_item o (λ c. asks said c.0 operation c.1 k at_once w) w)
    go None a = absurd a
    go (Some c) a = keeps-shell w said c.0 operation c.1 k at_once ordered a.number
keeps-asked w _ k name at_once ordered allowed = absurd allowed

traffic-held : (c : Command) (w : World) → (held_by c w).traffic ≡ w.traffic
traffic-held (command.Hold name v) w = refl
traffic-held _ w = refl

traffic-item : {X : Type 0} (w : World) (o : Option X) (f : X → World) → ((x : X) → (f x).traffic ≡ w.traffic)
    → (with_item o f w).traffic ≡ w.traffic
traffic-item w None f each = refl
traffic-item w (Some x) f each = each x

traffic-restricted : (c : Command) (w : World) → (restricted_by c w).traffic ≡ w.traffic
traffic-restricted (command.Restrict name target mask) w = traffic-item w (cap_at w target) _ (λ c. refl)
traffic-restricted _ w = refl

keeps-linked : (a b : ℕ) (joined : Bool) (w : World) → Keeps w (linked a b joined w)
keeps-linked a b true w = keeps-itself w
keeps-linked a b false w = keeps-like w (record w { traffic = without_link a b w.traffic }) (linked a b false w)
    (traffic-tells_each (processes_of (broken_by_link a b) w.traffic)
    (record w { cuts = (a, b) ∷ w.cuts; traffic = without_link a b w.traffic }))
    (of-on w.traffic (without_link a b w.traffic) (on-without_link a b w.traffic))

keeps-born : (u : Uid) (t : Option Edentype) (w : World) → Keeps w (born_as u t w)
keeps-born u None w = keeps-itself w
keeps-born u (Some t) w = keeps-at_node w u.node (born u (fresh t (first_values t))) (λ it is.
    of-on w.traffic _ (born-on u (fresh t (first_values t)) (site_of w u.node it) (site_of w u.node it) (same-on (site_of w u.node it))))

keeps-made : (name type_name : List ℕ) (u : Option Uid) (w : World) → Keeps w (made name type_name u w)
keeps-made name type_name None w = keeps-itself w
keeps-made name type_name (Some u) w = keeps-like w (born_as u (type_of w.types type_name) w) (made name type_name (Some u) w) refl
    (keeps-born u (type_of w.types type_name) w)

keeps-crash : (w : World) (n : ℕ) → Keeps w (stopped_at w n (event.Crash n))
keeps-crash w n = keeps-like w (at_site w n (event.Crash n)) (stopped_at w n (event.Crash n))
    (traffic-tells_each (processes_of (broken_by_node n) w.traffic) (at_site w n (event.Crash n)))
    (keeps-at_node w n (site_turn (reaches w n) (event.Crash n)) (λ it is.
    of-on w.traffic _ (crashed-on (site_of w n it) (site_of w n it) (same-on (site_of w n it)))))

keeps-command : (w : World) (c : Command) (e : Event) → AreNumbered 1 w.traffic.calls → AllowsCommand w c e → Keeps w (after_command w c e)
keeps-command w c (event.Boot n e how q began) ordered allowed =
    keeps-at_node w n (site_turn (reaches w n) (event.Boot n e how q began)) (λ it is.
    of-on w.traffic _ (boot-on e how q began (site_of w n it)))
keeps-command w c (event.Crash n) ordered allowed = keeps-crash w n
keeps-command w c (event.Link a b joined) ordered allowed = keeps-linked a b joined w
keeps-command w c (event.Made name why v) ordered allowed = keeps-made name (type_name_of c) v w
keeps-command w c (event.Bound name true) ordered allowed = keeps-same w (held_by c w) (traffic-held c w)
keeps-command w c (event.Bound name false) ordered allowed = keeps-same w (restricted_by c w) (traffic-restricted c w)
keeps-command w c (event.Asked k name at_once) ordered allowed = keeps-asked w c k name at_once ordered allowed
keeps-command w c (event.Still n up) ordered allowed = keeps-itself w
keeps-command w c (event.Armed n what) ordered allowed = keeps-itself w
keeps-command w c (event.Void name) ordered allowed = keeps-itself w
keeps-command w c (event.Request k a b refused) ordered allowed = keeps-itself w
keeps-command w c (event.Reply k a b name why values) ordered allowed = keeps-itself w
keeps-command w c (event.Activate v how q) ordered allowed = keeps-itself w
keeps-command w c (event.Start k v q) ordered allowed = keeps-itself w
keeps-command w c (event.Process v q said) ordered allowed = keeps-itself w
keeps-command w c (event.Store v clock how q) ordered allowed = keeps-itself w
keeps-command w c event.Quiet ordered allowed = keeps-itself w
keeps-command w c event.Spent ordered allowed = keeps-itself w
keeps-command w c (event.Left names) ordered allowed = keeps-itself w

keeps-happened : (w : World) (c : Option Command) (e : Event) → IsKnown w → AllowsEvent w c e
    → Keeps w (happened w c e)
keeps-happened w None e sound allowed = keeps-turn w e sound allowed
keeps-happened w (Some c) e sound allowed = keeps-command w c e sound.numbered allowed

-- 4. Every entry

traffic-counted : (k : Option Key) (n c : ℕ) (w : World) → (counted k (clocked n c w)).traffic ≡ w.traffic
traffic-counted None n c w = refl
traffic-counted (Some k) n c w = refl

pub keeps-next : (w : World) (c : Option Command) (e : Entry) → IsKnown w → Allows w c e
    → Keeps w (next w c e)
keeps-next w c e sound allowed = keeps-like w (happened w c e.event) (next w c e)
    (traffic-counted (key_of e.event) e.node e.clock (happened w c e.event)) (keeps-happened w c e.event sound allowed.event)

pub keeps-looked_up : (w : World) (name : List ℕ) (target : Option Cap) (path : List (List ℕ)) (e : Event) → AreNumbered 1 w.traffic.calls
    → AllowsLookUp w name target path e → Keeps w (looked_up w name target path e)
keeps-looked_up w name (Some cap) path (event.Asked k said at_once) ordered a =
    keeps-shell w name cap _ _ k at_once ordered a.1.number
keeps-looked_up w name None path (event.Void said) ordered a = keeps-itself w
keeps-looked_up w name target path _ ordered a = absurd a

-- calls that are kept by one world and the next are kept by both
pub kept-then : (t new later : Traffic) → CallsKept t new → CallsKept new later → CallsKept t later
kept-then t new later a b k c is = go (call_at new k) refl (a k c is)
  where
    one : (d : Call) → call_at new k ≡ Some d → GoesOn c d → IsSomeAnd (call_at later k) (GoesOn c)
    one d at g = on (call_at later k) (b k d at)
      where
        on : (o : Option Call) → IsSomeAnd o (GoesOn d) → IsSomeAnd o (GoesOn c)
        on None x = absurd x
        on (Some e) x = goes-then c d e g x

    go : (o : Option Call) → call_at new k ≡ o → IsSomeAnd o (GoesOn c) → IsSomeAnd (call_at later k) (GoesOn c)
    go None at g = absurd g
    go (Some d) at g = one d at g
