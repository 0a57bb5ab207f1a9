-- While a node is down, nobody waits for a call to it or from it, and nothing of them is on its way.
use Rattle.std.proofs.Common.{◌≡◌, ◌==◌, ◌+◌, ◌<◌, ℕ, Bool, true, false, cond, ◌&&◌, ◌||◌, List, [], ◌∷◌, map, Option, None, Some}
use Rattle.std.proofs.Common.{is_some, refl, sym, ◌∙◌, ap, subst, arith, inl, inr}
use Rattle.std.specs.Prelude.{IsSomeAnd, ◌⊎◌}
use Rattle.std.specs.List.{filter}
use Rattle.std.specs.Option.{option_map}
use Rattle.std.specs.Ordering.{nat_cmp, eq_by_cmp}
use Rattle.std.proofs.lemmas.Bool.{eq-eqb, eqb-true}
use Rattle.capability.specs.declared.Uid.{Uid}
use Rattle.capability.specs.declared.Cap.{Cap}
use Rattle.eden_value.specs.Datum.{Datum}
use Rattle.eden_value.specs.declared.status.Status.{Status}
use Rattle.eden_value.specs.declared.status.Status.TheVariants as status
use Rattle.eden_model.specs.Map.{with_item, value_at}
use Rattle.eden_model.proofs.Numbers.{same-true}
use Rattle.eden_model.specs.declared.Asker.{Asker}
use Rattle.eden_model.specs.declared.Asker.TheVariants.{Shell, Eject as Process}
use Rattle.eden_model.specs.Traffic.{Place, asked, held, answered, done as over, Traffic, Call, call_at, asking_station, target_station}
use Rattle.eden_model.specs.Traffic.{goes_by, goes, in_transit, touches, crashed_call, next_call, new_call, with_call, without_node}
use Rattle.eden_model.specs.Traffic.{processes_of, broken_by_node, broken_by_link, without_link}
use Rattle.epl_syntax.specs.declared.effect.Answer.TheVariants.{Reply as Told}
use Rattle.epl_syntax.specs.Edentype.{Edentype}
use Rattle.epl_syntax.specs.Meaning.{type_of, first_values}
use Rattle.passive_store.specs.Kept.{Layout}
use Rattle.passive_store.specs.Layout.{IsLayout}
use Rattle.journal.specs.declared.command.Command.{Command}
use Rattle.journal.specs.declared.command.Command.TheVariants as command
use Rattle.journal.specs.declared.command.Script.{Script}
use Rattle.journal.specs.declared.event.Key.{Key}
use Rattle.journal.specs.declared.event.StartEnd.TheVariants as start_end
use Rattle.journal.specs.declared.event.RequestEnd.TheVariants as end
use Rattle.journal.specs.declared.event.Event.{Event}
use Rattle.journal.specs.declared.event.Event.TheVariants as event
use Rattle.journal.specs.declared.event.Entry.{Entry}
use Rattle.journal.specs.World.{World, Site, Node, node_at, site_of, site_at, at_node, on_node, on_traffic, is_up, reaches}
use Rattle.journal.specs.Ejects.{tells, fresh, born}
use Rattle.journal.specs.Deliveries.{received}
use Rattle.journal.specs.Crashes.{crashed, tells_each, linked}
use Rattle.journal.specs.References.{cap_at}
use Rattle.journal.specs.Commands.{AllowsCommand, AllowsAsked, asked as asks, asked_by, ready_call, born_as, made, type_name_of, held_by}
use Rattle.journal.specs.Commands.{restricted_by}
use Rattle.journal.specs.Kept.{crashes}
use Rattle.journal.specs.Opening.{node_of}
use Rattle.journal.specs.Step.{AllowsAt, AllowsInTurn, AllowsEvent, Allows, next, after_turn, after_command, happened, at_site}
use Rattle.journal.specs.Step.{stopped_at, site_turn, clocked, counted, key_of}
use Rattle.journal.specs.Falls.{before_fall}
use Rattle.journal.specs.Run.{AllowsLookUp, looked_up, beginning}
use Rattle.journal.specs.Standing.{DiskRun}
use Rattle.journal.specs.LegalRun.{AreHandedIn, numbered, numbered_from, images, opening_world, last_world}
use Rattle.journal.specs.Sites.{AreNumbered, GoesOn, IsNewFrom, IsAskedAt, Concerns, IsCutOff}
use Rattle.journal.specs.Laws.{Begins, IsAtRest}
use Rattle.history_laws.proofs.Lifts.{traffic-after}
use Rattle.history_laws.proofs.SafeRuns.{same-number}
use Rattle.history_laws.proofs.Runs.{Any, of-any, no-turn, end-keeps, world-booting, nodes-looked_up}
use Rattle.history_laws.proofs.EveryNode.{at-its-site}
use Rattle.history_laws.proofs.Messages.{value-calls}
use Rattle.history_laws.proofs.Down.{Rests, Calm, not-active}
use Rattle.history_laws.proofs.DownRuns.{false-true, node-up, up-next, DownWorld, down-next, down-looked_up, calm-opening}
use Rattle.history_laws.proofs.SiteWorlds.{traffic-tells}
use Rattle.history_laws.proofs.SiteRuns.{KnownWorld, is-known, known-next, known-looked_up, known-opening}
use Rattle.history_laws.proofs.Falling.{quiet-before, falls-turn}
use Rattle.history_laws.proofs.CallsKeep.{IsKnown}
use Rattle.history_laws.proofs.Goings.{on-same, on-received, on-without_link, GoFrom, from-on, from-around, from-call}
use Rattle.history_laws.proofs.EventCalls.{IsNoTurn, event-on, calls-around, boot-on, crashed-on, born-on, same-on}

-- 1. Calls that concern a node, all cut off

pub record AllCutOff (m : ℕ) (t : Traffic) : Type 0 where
  pub at : (k : ℕ) (c : Call) → call_at t k ≡ Some c → Concerns m c → IsCutOff m c

-- the same call concerns the node after as before
concerned : (m : ℕ) (c d : Call) → GoesOn c d → Concerns m d → Concerns m c
concerned m c d g (inl to) = inl (sym (ap (λ (x : Cap). x.uid.node) g.target) ∙ to)
concerned m c d g (inr by) = inr (subst (IsAskedAt m) g.asker by)

cut-on : (m : ℕ) (c d : Call) → GoesOn c d → IsCutOff m c → IsCutOff m d
cut-on m c d g cut = record {
  closed = g.closed cut.closed;
  quiet = g.quiet cut.closed cut.quiet;
  ended = λ to. g.ended cut.closed (cut.ended (sym (ap (λ (x : Cap). x.uid.node) g.target) ∙ to));
}

-- a new call: no process of the node asked it, and it is sent or refused
pub record Fresh (m : ℕ) (d : Call) : Type 0 where
  pub elsewhere : IsAskedAt m d.asker → ⊥
  pub place : (d.place ≡ asked) ⊎ ((d.place ≡ over) × (d.open_ ≡ false))

-- no new call that is sent goes to the node
cut-from : (m : ℕ) (t new : Traffic) → GoFrom (Fresh m) t new → ((k : ℕ) (d : Call) → call_at new k ≡ Some d → d.place ≡ asked
    → target_station d ≡ m → ⊥)
    → AllCutOff m t → AllCutOff m new
cut-from m t new a none all = record { at = λ k d is concerns. go k d is concerns (a.comes k d is) }
  where
    was : (k : ℕ) (d : Call) → call_at new k ≡ Some d → Concerns m d → (o : Option Call) → call_at t k ≡ o → is_some o ≡ true → IsCutOff m d
    was k d is concerns None at some = absurd (cc some)
    was k d is concerns (Some c) at some = let g : GoesOn c d = subst (λ o. IsSomeAnd o (GoesOn c)) is (a.goes k c at) in
        cut-on m c d g (all.at k c at (concerned m c d g concerns))

    placed : (k : ℕ) (d : Call) → call_at new k ≡ Some d → target_station d ≡ m
        → (d.place ≡ asked) ⊎ ((d.place ≡ over) × (d.open_ ≡ false)) → IsCutOff m d
    placed k d is to (inl sent) = absurd (none k d is sent to)
    placed k d is to (inr x) = record { closed = x.1; quiet = ap in_transit x.0; ended = λ same. x.0 }

    go : (k : ℕ) (d : Call) → call_at new k ≡ Some d → Concerns m d → (is_some (call_at t k) ≡ true) ⊎ Fresh m d → IsCutOff m d
    go k d is concerns (inl some) = was k d is concerns (call_at t k) refl some
    go k d is (inl to) (inr fresh) = placed k d is to fresh.place
    go k d is (inr by) (inr fresh) = absurd (fresh.elsewhere by)

-- 2. A crash cuts off all that concerns its node

-- node 0 is the shell's station
touched : (m : ℕ) (c : Call) → Concerns m c → touches m c ≡ true
touched m c (inl to) = ap (λ b. b || (asking_station c.asker == m)) (eq-eqb (target_station c) m to)
touched m c (inr by) = by_asker c.asker by
  where
    either : (a b : Bool) → b ≡ true → (a || b) ≡ true
    either true b is = refl
    either false b is = is

    by_asker : (a : Asker) → IsAskedAt m a → ((target_station c == m) || (asking_station a == m)) ≡ true
    by_asker (Shell name) x = absurd x
    by_asker (Process u p) x = either (target_station c == m) (u.node == m) (eq-eqb u.node m x)

crashed-cut : (m : ℕ) (c : Call) → Concerns m (crashed_call m c) → IsCutOff m (crashed_call m c)
crashed-cut m c concerns = go (touches m c) refl concerns
  where
    lost : Bool → Call
    lost b = cond b (record c { open_ = false; place = cond ((target_station c == m) || in_transit c.place) over c.place }) c

    quiet : (a : Bool) (p : Place) → in_transit (cond (a || in_transit p) over p) ≡ false
    quiet true p = refl
    quiet false asked = refl
    quiet false held = refl
    quiet false (answered why results) = refl
    quiet false over = refl

    ended : (a : Bool) → a ≡ true → cond (a || in_transit c.place) over c.place ≡ over
    ended true is = refl
    ended false is = absurd (cc is)

    go : (b : Bool) → touches m c ≡ b → Concerns m (lost b) → IsCutOff m (lost b)
    go true is x = record {
      closed = refl;
      quiet = quiet (target_station c == m) c.place;
      ended =
          λ to. ended (target_station c == m) (eq-eqb (target_station c) m to);
    }
    go false is x = absurd (let bad : true ≡ false = sym (touched m c x) ∙ is in cc bad)

cut-without_node : (m : ℕ) (t : Traffic) → AllCutOff m (without_node m t)
cut-without_node m t = record { at = λ k d is concerns. go d concerns (call_at t k) (sym (value-calls k (crashed_call m) t.calls) ∙ is) }
  where
    go : (d : Call) → Concerns m d → (o : Option Call) → option_map (crashed_call m) o ≡ Some d → IsCutOff m d
    go d concerns None e = absurd (cc e)
    go d concerns (Some c) e = let same : crashed_call m c ≡ d = cc e in
        subst (IsCutOff m) same (crashed-cut m c (subst (Concerns m) (sym same) concerns))

traffic-tells_each : (qs : List (Uid × ℕ)) (w : World) → (tells_each qs w).traffic ≡ w.traffic
traffic-tells_each [] w = refl
traffic-tells_each (q ∷ qs) w = traffic-tells_each qs (at_node q.0.node (tells q.0 q.1 (Told status.Broken [])) w)
    ∙ traffic-tells q.0.node q.0 q.1 (Told status.Broken []) w

traffic-crashed : (s : Site) → (crashed s).traffic ≡ without_node s.number s.traffic
unfolding on_node on_traffic
traffic-crashed s = refl

cut-stopped : (w : World) (n : ℕ) (e : Event) (it : Node) → node_at w n ≡ Some it → AllowsAt (site_of w n it) e → crashes n e ≡ true
    → AllCutOff n (stopped_at w n e).traffic
cut-stopped w n e it at allowed falls = subst (AllCutOff n) (sym traffic) (cut-without_node n mid.traffic)
  where
    mid : Site
    mid = before_fall e (site_of w n it)

    traffic : (stopped_at w n e).traffic ≡ without_node n mid.traffic
    traffic = traffic-tells_each (processes_of (broken_by_node n) w.traffic) (at_site w n e)
        ∙ traffic-after w n it (site_turn (reaches w n) e) at
        ∙ ap (λ (s : Site). s.traffic) (falls-turn (reaches w n) e (site_of w n it) allowed falls) ∙ traffic-crashed mid
        ∙ ap (λ k. without_node k mid.traffic) (quiet-before e (site_of w n it) falls).number

cut-turn : (w : World) (e : Event) (n : ℕ) → crashes n e ≡ true → AllowsInTurn w e → AllCutOff n (after_turn w e).traffic
cut-turn w (event.Activate v start_end.Stop p) n is allowed = go (node_at w v.node) refl allowed
  where
    go : (o : Option Node) → node_at w v.node ≡ o → IsSomeAnd (with_item o (λ it. Some (site_of w v.node it)) None) (λ s.
        AllowsAt s (event.Activate v start_end.Stop p))
        → AllCutOff n (stopped_at w v.node (event.Activate v start_end.Stop p)).traffic
    go None at a = absurd a
    go (Some it) at a = subst (λ m. AllCutOff m (stopped_at w v.node (event.Activate v start_end.Stop p)).traffic) (same-number v.node n is)
        (cut-stopped w v.node (event.Activate v start_end.Stop p) it at a (eq-eqb v.node v.node refl))
cut-turn w (event.Store v c end.Stop p) n is allowed = go (node_at w v.node) refl allowed
  where
    go : (o : Option Node) → node_at w v.node ≡ o → IsSomeAnd (with_item o (λ it. Some (site_of w v.node it)) None) (λ s.
        AllowsAt s (event.Store v c end.Stop p))
        → AllCutOff n (stopped_at w v.node (event.Store v c end.Stop p)).traffic
    go None at a = absurd a
    go (Some it) at a = subst (λ m. AllCutOff m (stopped_at w v.node (event.Store v c end.Stop p)).traffic) (same-number v.node n is)
        (cut-stopped w v.node (event.Store v c end.Stop p) it at a (eq-eqb v.node v.node refl))
cut-turn w (event.Crash m) n is allowed = absurd allowed
cut-turn w _ n is allowed = false-true is

cut-command : (w : World) (c : Command) (e : Event) (n : ℕ) → crashes n e ≡ true → AllowsCommand w c e
    → AllCutOff n (after_command w c e).traffic
cut-command w (command.Crash k mode) (event.Crash m) n is allowed = go (node_at w m) refl (ap (is_up w) allowed.0 ∙ allowed.1)
  where
    go : (o : Option Node) → node_at w m ≡ o → is_up w m ≡ true → AllCutOff n (stopped_at w m (event.Crash m)).traffic
    go None at up = false-true (sym (ap (λ o. with_item o (λ (x : Node). x.up) false) at) ∙ up)
    go (Some it) at up = subst (λ j. AllCutOff j (stopped_at w m (event.Crash m)).traffic) (same-number m n is)
        (cut-stopped w m (event.Crash m) it at (node-up w m it at up) (eq-eqb m m refl))
cut-command w _ (event.Crash m) n is allowed = absurd allowed
cut-command w c (event.Activate v how p) n is allowed = absurd (no-turn w c (event.Activate v how p) refl allowed)
cut-command w c (event.Store v k how p) n is allowed = absurd (no-turn w c (event.Store v k how p) refl allowed)
cut-command w c _ n is allowed = false-true is

cut-happened : (w : World) (c : Option Command) (e : Event) (n : ℕ) → crashes n e ≡ true → AllowsEvent w c e
    → AllCutOff n (happened w c e).traffic
cut-happened w None e n is allowed = cut-turn w e n is allowed
cut-happened w (Some c) e n is allowed = cut-command w c e n is allowed

-- 3. Every event: each call goes on, and no process of a node at rest asks a new one

abbrev Goes : ℕ → World → World → Type 0
Goes m w new = GoFrom (Fresh m) w.traffic new.traffic

goes-like : (m : ℕ) (w new like : World) → like.traffic ≡ new.traffic → Goes m w new → Goes m w like
goes-like m w new like same g = subst (GoFrom (Fresh m) w.traffic) (sym same) g

goes-same : (m : ℕ) (w new : World) → new.traffic ≡ w.traffic → Goes m w new
goes-same m w new same = subst (GoFrom (Fresh m) w.traffic) (sym same) (from-on (Fresh m) w.traffic w.traffic (on-same w.traffic))

goes-received : (m : ℕ) (w new : World) (k : ℕ) → new.traffic ≡ received k w.traffic → Goes m w new
goes-received m w new k same = subst (GoFrom (Fresh m) w.traffic) (sym same)
    (from-on (Fresh m) w.traffic (received k w.traffic) (on-received k w.traffic))

goes-at_node : (m : ℕ) (w : World) (n : ℕ) (f : Site → Site) → ((it : Node) → node_at w n ≡ Some it
    → GoFrom (Fresh m) w.traffic (f (site_of w n it)).traffic) → Goes m w (at_node n f w)
unfolding at_node
goes-at_node m w n f each = go (node_at w n) refl
  where
    go : (o : Option Node) → node_at w n ≡ o → GoFrom (Fresh m) w.traffic (at_node n f w).traffic
    go None is = rw is (from-on (Fresh m) w.traffic w.traffic (on-same w.traffic))
    go (Some it) is = rw is (each it is)

goes-site : (m : ℕ) (w : World) (n : ℕ) (e : Event) → IsNoTurn e → ((it : Node) → node_at w n ≡ Some it → AllowsAt (site_of w n it) e)
    → Goes m w (at_site w n e)
goes-site m w n e other allowed = goes-at_node m w n (site_turn (reaches w n) e) (λ it is.
    from-on (Fresh m) w.traffic _ (event-on (reaches w n) e (site_of w n it) (allowed it is) other))

goes-stopped : (m : ℕ) (w : World) (n : ℕ) (e : Event) → IsNoTurn e → ((it : Node) → node_at w n ≡ Some it → AllowsAt (site_of w n it) e)
    → Goes m w (stopped_at w n e)
goes-stopped m w n e other allowed = goes-like m w (at_site w n e) (stopped_at w n e)
    (traffic-tells_each (processes_of (broken_by_node n) w.traffic) (at_site w n e)) (goes-site m w n e other allowed)

its-site : (w : World) (n : ℕ) (e : Event) → IsSomeAnd (site_at w n) (λ s. AllowsAt s e) → (it : Node) → node_at w n ≡ Some it
    → AllowsAt (site_of w n it) e
its-site w n e allowed it is = at-its-site w n (λ s. AllowsAt s e) it is allowed

goes-process : (m : ℕ) (w : World) (v : Uid) (p : ℕ) (e : Event) → IsKnown w → (v.node ≡ m → ⊥)
    → ((it : Node) → node_at w v.node ≡ Some it → AllowsAt (site_of w v.node it) e) → Goes m w (at_site w v.node e)
goes-process m w v p e sound apart allowed = goes-at_node m w v.node (site_turn (reaches w v.node) e) (λ it is.
    from-around (Fresh m) v.node w.traffic _ (λ d new. record { elsewhere = away d new; place = new.place })
    (calls-around (reaches w v.node) e (site_of w v.node it) (sound.nodes v.node it is) sound.numbered (allowed it is)).calls)
  where
    away : (d : Call) → IsNewFrom v.node d → IsAskedAt m d.asker → ⊥
    away d new by = let at : new.uid.node ≡ m = subst (IsAskedAt m) new.asker by in apart (sym new.of_node ∙ at)

goes-turn : (m : ℕ) (w : World) (e : Event) → IsKnown w → ((it : Node) → node_at w m ≡ Some it → Rests it) → AllowsInTurn w e
    → Goes m w (after_turn w e)
goes-turn m w (event.Request k a b refused) sound rest allowed =
    goes-site m w b (event.Request k a b refused) tt (its-site w b (event.Request k a b refused) allowed)
goes-turn m w (event.Reply k a b None why values) sound rest allowed =
    goes-site m w b (event.Reply k a b None why values) tt (λ it is. allowed)
goes-turn m w (event.Reply k a b (Some name) why values) sound rest allowed =
    goes-received m w (after_turn w (event.Reply k a b (Some name) why values)) k refl
goes-turn m w (event.Activate v start_end.Ok p) sound rest allowed =
    goes-site m w v.node (event.Activate v start_end.Ok p) tt (its-site w v.node (event.Activate v start_end.Ok p) allowed)
goes-turn m w (event.Activate v start_end.Gone p) sound rest allowed =
    goes-site m w v.node (event.Activate v start_end.Gone p) tt (its-site w v.node (event.Activate v start_end.Gone p) allowed)
goes-turn m w (event.Activate v start_end.Fault p) sound rest allowed =
    goes-site m w v.node (event.Activate v start_end.Fault p) tt (its-site w v.node (event.Activate v start_end.Fault p) allowed)
goes-turn m w (event.Activate v start_end.Damaged p) sound rest allowed =
    goes-site m w v.node (event.Activate v start_end.Damaged p) tt (its-site w v.node (event.Activate v start_end.Damaged p) allowed)
goes-turn m w (event.Activate v start_end.Stop p) sound rest allowed =
    goes-stopped m w v.node (event.Activate v start_end.Stop p) tt (its-site w v.node (event.Activate v start_end.Stop p) allowed)
goes-turn m w (event.Start k v p) sound rest allowed = goes-site m w v.node (event.Start k v p) tt
    (its-site w v.node (event.Start k v p) allowed)
goes-turn m w (event.Process v p said) sound rest allowed = goes-process m w v p (event.Process v p said) sound apart
    (its-site w v.node (event.Process v p said) allowed)
  where
    none : (o : Option Node) → node_at w v.node ≡ o → ((it : Node) → o ≡ Some it → Rests it)
        → IsSomeAnd (with_item o (λ it. Some (site_of w v.node it)) None) (λ s. AllowsAt s (event.Process v p said)) → ⊥
    none None at rests a = a
    none (Some it) at rests a = not-active (site_of w v.node it) v _ (rests it refl) a

    apart : v.node ≡ m → ⊥
    apart same = none (node_at w v.node) refl (λ it is. rest it (ap (node_at w) (sym same) ∙ is)) allowed
goes-turn m w (event.Store v c end.Part p) sound rest allowed =
    goes-site m w v.node (event.Store v c end.Part p) tt (its-site w v.node (event.Store v c end.Part p) allowed)
goes-turn m w (event.Store v c end.Done p) sound rest allowed =
    goes-site m w v.node (event.Store v c end.Done p) tt (its-site w v.node (event.Store v c end.Done p) allowed)
goes-turn m w (event.Store v c end.Fault p) sound rest allowed =
    goes-site m w v.node (event.Store v c end.Fault p) tt (its-site w v.node (event.Store v c end.Fault p) allowed)
goes-turn m w (event.Store v c end.Full p) sound rest allowed =
    goes-site m w v.node (event.Store v c end.Full p) tt (its-site w v.node (event.Store v c end.Full p) allowed)
goes-turn m w (event.Store v c end.Stop p) sound rest allowed =
    goes-stopped m w v.node (event.Store v c end.Stop p) tt (its-site w v.node (event.Store v c end.Stop p) allowed)
goes-turn m w event.Quiet sound rest allowed = goes-same m w w refl
goes-turn m w event.Spent sound rest allowed = goes-same m w w refl
goes-turn m w _ sound rest allowed = absurd allowed

-- 4. Commands

pub goes-shell : (m : ℕ) (w : World) (name : List ℕ) (target : Cap) (operation : List ℕ) (args : List Datum) (k : ℕ)
    (at_once : Option Status) → AreNumbered 1 w.traffic.calls → k ≡ next_call w.traffic
    → Goes m w (asks name target operation args k at_once w)
goes-shell m w name target operation args k at_once ordered number =
    subst (λ j. GoFrom (Fresh m) w.traffic (with_call j (Shell name) target operation args at_once w.traffic)) (sym number)
    (from-call (Fresh m) (Shell name) target operation args at_once w.traffic ordered (fresh at_once))
  where
    fresh : (o : Option Status) → Fresh m (new_call (Shell name) target operation args o)
    fresh None = record { elsewhere = λ x. x; place = inl refl }
    fresh (Some why) = record { elsewhere = λ x. x; place = inr (refl, refl) }

goes-asked : (m : ℕ) (w : World) (c : Command) (k : ℕ) (name : List ℕ) (at_once : Option Status) → AreNumbered 1 w.traffic.calls
    → AllowsCommand w c (event.Asked k name at_once) → Goes m w (asked_by c k at_once w)
goes-asked m w (command.Call said target operation args) k name at_once ordered allowed =
    go (ready_call w (command.Call said target operation args)) allowed.1
  where
    go : (o : Option (Cap × List Datum)) → IsSomeAnd o (λ c. AllowsAsked w k at_once c.0 c.1)
        → Goes m w (with_item o (λ c. asks said c.0 operation c.1 k at_once w) w)
    go None a = absurd a
    go (Some c) a = goes-shell m w said c.0 operation c.1 k at_once ordered a.number
goes-asked m w _ k name at_once ordered allowed = absurd allowed

traffic-held : (c : Command) (w : World) → (held_by c w).traffic ≡ w.traffic
traffic-held (command.Hold name v) w = refl
traffic-held _ w = refl

traffic-item : {X : Type 0} (w : World) (o : Option X) (f : X → World) → ((x : X) → (f x).traffic ≡ w.traffic)
    → (with_item o f w).traffic ≡ w.traffic
traffic-item w None f each = refl
traffic-item w (Some x) f each = each x

traffic-restricted : (c : Command) (w : World) → (restricted_by c w).traffic ≡ w.traffic
traffic-restricted (command.Restrict name target mask) w = traffic-item w (cap_at w target) _ (λ c. refl)
traffic-restricted _ w = refl

goes-linked : (m : ℕ) (a b : ℕ) (joined : Bool) (w : World) → Goes m w (linked a b joined w)
goes-linked m a b true w = goes-same m w (linked a b true w) refl
goes-linked m a b false w = goes-like m w (record w { traffic = without_link a b w.traffic }) (linked a b false w)
    (traffic-tells_each (processes_of (broken_by_link a b) w.traffic)
    (record w { cuts = (a, b) ∷ w.cuts; traffic = without_link a b w.traffic })) (cut m a b w)
  where
    cut : (m a b : ℕ) (w : World) → Goes m w (record w { traffic = without_link a b w.traffic })
    cut m a b w = from-on (Fresh m) w.traffic (without_link a b w.traffic) (on-without_link a b w.traffic)

goes-born : (m : ℕ) (u : Uid) (t : Option Edentype) (w : World) → Goes m w (born_as u t w)
goes-born m u None w = goes-same m w w refl
goes-born m u (Some t) w = goes-at_node m w u.node (born u (fresh t (first_values t))) (λ it is.
    from-on (Fresh m) w.traffic _ (born-on u (fresh t (first_values t)) (site_of w u.node it) (site_of w u.node it)
    (same-on (site_of w u.node it))))

goes-made : (m : ℕ) (name type_name : List ℕ) (u : Option Uid) (w : World) → Goes m w (made name type_name u w)
goes-made m name type_name None w = goes-same m w (made name type_name None w) refl
goes-made m name type_name (Some u) w = goes-like m w (born_as u (type_of w.types type_name) w) (made name type_name (Some u) w) refl
    (goes-born m u (type_of w.types type_name) w)

goes-crash : (m : ℕ) (w : World) (n : ℕ) → Goes m w (stopped_at w n (event.Crash n))
goes-crash m w n = goes-like m w (at_site w n (event.Crash n)) (stopped_at w n (event.Crash n))
    (traffic-tells_each (processes_of (broken_by_node n) w.traffic) (at_site w n (event.Crash n)))
    (goes-at_node m w n (site_turn (reaches w n) (event.Crash n)) (λ it is.
    from-on (Fresh m) w.traffic _ (crashed-on (site_of w n it) (site_of w n it) (same-on (site_of w n it)))))

goes-command : (m : ℕ) (w : World) (c : Command) (e : Event) → AreNumbered 1 w.traffic.calls → AllowsCommand w c e
    → Goes m w (after_command w c e)
goes-command m w c (event.Boot n e how p began) ordered allowed =
    goes-at_node m w n (site_turn (reaches w n) (event.Boot n e how p began)) (λ it is.
    from-on (Fresh m) w.traffic _ (boot-on e how p began (site_of w n it)))
goes-command m w c (event.Crash n) ordered allowed = goes-crash m w n
goes-command m w c (event.Link a b joined) ordered allowed = goes-linked m a b joined w
goes-command m w c (event.Made name why v) ordered allowed = goes-made m name (type_name_of c) v w
goes-command m w c (event.Bound name true) ordered allowed = goes-same m w (held_by c w) (traffic-held c w)
goes-command m w c (event.Bound name false) ordered allowed = goes-same m w (restricted_by c w) (traffic-restricted c w)
goes-command m w c (event.Asked k name at_once) ordered allowed = goes-asked m w c k name at_once ordered allowed
goes-command m w c (event.Still n up) ordered allowed = goes-same m w w refl
goes-command m w c (event.Armed n what) ordered allowed = goes-same m w w refl
goes-command m w c (event.Void name) ordered allowed = goes-same m w w refl
goes-command m w c (event.Request k a b refused) ordered allowed = goes-same m w w refl
goes-command m w c (event.Reply k a b name why values) ordered allowed = goes-same m w w refl
goes-command m w c (event.Activate v how q) ordered allowed = goes-same m w w refl
goes-command m w c (event.Start k v q) ordered allowed = goes-same m w w refl
goes-command m w c (event.Process v q said) ordered allowed = goes-same m w w refl
goes-command m w c (event.Store v clock how q) ordered allowed = goes-same m w w refl
goes-command m w c event.Quiet ordered allowed = goes-same m w w refl
goes-command m w c event.Spent ordered allowed = goes-same m w w refl
goes-command m w c (event.Left names) ordered allowed = goes-same m w w refl

pub goes-happened : (m : ℕ) (w : World) (c : Option Command) (e : Event) → IsKnown w
    → ((it : Node) → node_at w m ≡ Some it → Rests it) → AllowsEvent w c e → Goes m w (happened w c e)
goes-happened m w None e sound rest allowed = goes-turn m w e sound rest allowed
goes-happened m w (Some c) e sound rest allowed = goes-command m w c e sound.numbered allowed

-- 5. Every history

pub record CutWorld (H : ℕ → Bool) (w : World) : Type 0 where
  pub site : KnownWorld H w
  pub down : DownWorld H w
  pub cut : (m : ℕ) (it : Node) → node_at w m ≡ Some it → it.up ≡ false → AllCutOff m w.traffic

pub traffic-counted : (k : Option Key) (n c : ℕ) (w : World) → (counted k (clocked n c w)).traffic ≡ w.traffic
traffic-counted None n c w = refl
traffic-counted (Some k) n c w = refl

cut-next : (H : ℕ → Bool) (w : World) (c : Option Command) (e : Entry) → Allows w c e → CutWorld H w → CutWorld H (next w c e)
cut-next H w c e allowed h = record {
  site = known-next H w c e allowed h.site;
  down = after;
  cut = λ m jt is off. subst (AllCutOff m) (sym traffic) (go m jt is off (crashes m e.event) refl (node_at w m) refl);
}
  where
    after : DownWorld H (next w c e)
    after = down-next H w c e allowed h.down

    traffic : (next w c e).traffic ≡ (happened w c e.event).traffic
    traffic = traffic-counted (key_of e.event) e.node e.clock (happened w c e.event)

    unreached : (m : ℕ) (jt : Node) → node_at (next w c e) m ≡ Some jt → jt.up ≡ false → (k : ℕ) (d : Call)
        → call_at (happened w c e.event).traffic k ≡ Some d → d.place ≡ asked → target_station d ≡ m → ⊥
    unreached m jt is off k d at sent to = let up : jt.up ≡ true =
        node-up (next w c e) m jt is (ap (is_up (next w c e)) (sym to)
        ∙ after.asked_up.at k d (ap (λ (t : Traffic). call_at t k) traffic ∙ at) sent) in
        let bad : false ≡ true = sym off ∙ up in cc bad

    was : (m : ℕ) (jt : Node) → node_at (next w c e) m ≡ Some jt → jt.up ≡ false → crashes m e.event ≡ false → (it : Node)
        → node_at w m ≡ Some it → (b : Bool) → it.up ≡ b → AllCutOff m (happened w c e.event).traffic
    was m jt is off calm it at true up = absurd (let on : is_up w m ≡ true = ap (λ o. with_item o (λ (x : Node). x.up) false) at ∙ up in
        let bad : false ≡ true = sym off ∙ node-up (next w c e) m jt is (up-next H w c e allowed h.down.sound m calm on) in cc bad)
    was m jt is off calm it at false down = cut-from m w.traffic (happened w c e.event).traffic
        (goes-happened m w c e.event (is-known H w h.site) (λ x found. resting x found) allowed.event)
        (unreached m jt is off) (h.cut m it at down)
      where
        by_calm : (x : Node) → x.up ≡ false → Calm x → Rests x
        by_calm x low (inl up) = absurd (let bad : false ≡ true = sym low ∙ up in cc bad)
        by_calm x low (inr rest) = rest

        resting : (x : Node) → node_at w m ≡ Some x → Rests x
        resting x found = let same : it ≡ x = (let s : Some it ≡ Some x = sym at ∙ found in cc s) in
            by_calm x (ap (λ (y : Node). y.up) (sym same) ∙ down) (h.down.calm m x found)

    go : (m : ℕ) (jt : Node) → node_at (next w c e) m ≡ Some jt → jt.up ≡ false → (b : Bool) → crashes m e.event ≡ b → (o : Option Node)
        → node_at w m ≡ o → AllCutOff m (happened w c e.event).traffic
    go m jt is off true falls o at = cut-happened w c e.event m falls allowed.event
    go m jt is off false calm None at = absurd (let some : is_some (node_at (next w c e) m) ≡ is_some (node_at w m) =
        after.sound.place.present m ∙ sym (h.down.sound.place.present m) in
        let bad : true ≡ false = sym (ap is_some is) ∙ some ∙ ap is_some at in cc bad)
    go m jt is off false calm (Some it) at = was m jt is off calm it at it.up refl

cut-looked_up : (H : ℕ → Bool) (w : World) (name : List ℕ) (target : Option Cap) (path : List (List ℕ)) (e : Event)
    → AllowsLookUp w name target path e → CutWorld H w → CutWorld H (looked_up w name target path e)
cut-looked_up H w name target path e allowed h = record {
  site = known-looked_up H w name target path e allowed h.site;
  down = after;
  cut = λ m jt is off. one name target path e allowed m jt (ap (λ ns. value_at nat_cmp m ns) (sym (nodes-looked_up w name target path e))
      ∙ is) off (unreached m jt is off);
}
  where
    after : DownWorld H (looked_up w name target path e)
    after = down-looked_up H w name target path e allowed h.down

    unreached : (m : ℕ) (jt : Node) → node_at (looked_up w name target path e) m ≡ Some jt → jt.up ≡ false
        → (k : ℕ) (d : Call) → call_at (looked_up w name target path e).traffic k ≡ Some d → d.place ≡ asked → target_station d ≡ m → ⊥
    unreached m jt is off k d at sent to = let up : jt.up ≡ true =
        node-up (looked_up w name target path e) m jt is (ap (is_up (looked_up w name target path e)) (sym to)
        ∙ after.asked_up.at k d at sent) in
        let bad : false ≡ true = sym off ∙ up in cc bad

    one : (name : List ℕ) (target : Option Cap) (path : List (List ℕ)) (e : Event) → AllowsLookUp w name target path e
        → (m : ℕ) (jt : Node) → node_at w m ≡ Some jt → jt.up ≡ false
        → ((k : ℕ) (d : Call) → call_at (looked_up w name target path e).traffic k ≡ Some d → d.place ≡ asked → target_station d ≡ m → ⊥)
        → AllCutOff m (looked_up w name target path e).traffic
    one name (Some cap) path (event.Asked k said at_once) a m jt is off none =
        cut-from m w.traffic _ (goes-shell m w name cap _ _ k at_once h.site.numbered a.1.number) none (h.cut m jt is off)
    one name None path (event.Void said) a m jt is off none = h.cut m jt is off
    one name target path _ a m jt is off none = absurd a

-- 6. The law

pub none-below : (layout : Layout) (m n : ℕ) (disks : List DiskRun) → m < n
    → value_at nat_cmp m (map (λ d. (d.0, node_of layout d)) (images (numbered_from n disks))) ≡ None
none-below layout m n [] less = refl
none-below layout m n (d ∷ disks) less = go (eq_by_cmp nat_cmp m n) refl (none-below layout m (n + 1) disks (omega (arith, less)))
  where
    go : (b : Bool) → eq_by_cmp nat_cmp m n ≡ b → value_at nat_cmp m
        (map (λ d. (d.0, node_of layout d)) (images (numbered_from (n + 1) disks))) ≡ None
        → value_at nat_cmp m (map (λ d. (d.0, node_of layout d)) (images (numbered_from n (d ∷ disks)))) ≡ None
    go true same later = absurd (let is : m ≡ n = same-true m n same in omega (arith, is, less))
    go false apart later = rw apart later

filter-none : (f : ℕ → Bool) (ks : List ℕ) → ((k : ℕ) → f k ≡ false) → filter f ks ≡ []
filter-none f [] none = refl
filter-none f (k ∷ ks) none = rw (none k) (filter-none f ks none)

-- nothing of a call that is cut off goes to the node or from it
apart-from : (n : ℕ) → (n ≡ 0 → ⊥) → (t : Traffic) → AllCutOff n t → (a k : ℕ) → (goes t a n k ≡ false) × (goes t n a k ≡ false)
apart-from n some t all a k = by_call (call_at t k) refl
  where
    off : (c : Call) → call_at t k ≡ Some c → (x : Bool) → Concerns n c → in_transit c.place ≡ true → x ≡ false
    off c is x concerns sent = absurd (let bad : false ≡ true = sym (all.at k c is concerns).quiet ∙ sent in cc bad)

    asker : (c : Call) → (asking_station c.asker == n) ≡ true → Concerns n c
    asker c same = inr (by c.asker (eqb-true (asking_station c.asker) n same))
      where
        by : (x : Asker) → asking_station x ≡ n → IsAskedAt n x
        by (Shell name) is = absurd (some (sym is))
        by (Process u p) is = is

    target : (c : Call) → (target_station c == n) ≡ true → Concerns n c
    target c same = inl (eqb-true (target_station c) n same)

    last : (c : Call) → call_at t k ≡ Some c → in_transit c.place ≡ true → (x y : Bool) → (y ≡ true → Concerns n c) → (x && y) ≡ false
    last c is sent false y concerns = refl
    last c is sent true false concerns = refl
    last c is sent true true concerns = off c is true (concerns refl) sent

    first : (c : Call) → call_at t k ≡ Some c → in_transit c.place ≡ true → (x y : Bool) → (x ≡ true → Concerns n c) → (x && y) ≡ false
    first c is sent false y concerns = refl
    first c is sent true y concerns = off c is y (concerns refl) sent

    by_place : (c : Call) → call_at t k ≡ Some c → (p : Place) → c.place ≡ p
        → (goes_by p (asking_station c.asker) (target_station c) a n ≡ false)
        × (goes_by p (asking_station c.asker) (target_station c) n a ≡ false)
    by_place c is asked at = (
      last c is (ap in_transit at) (asking_station c.asker == a) (target_station c == n) (target c),
      first c is (ap in_transit at) (asking_station c.asker == n) (target_station c == a) (asker c),
    )
    by_place c is held at = (refl, refl)
    by_place c is (answered why results) at = (
      first c is (ap in_transit at) (asking_station c.asker == n) (target_station c == a)
          (asker c),
      last c is (ap in_transit at) (asking_station c.asker == a) (target_station c == n) (target c),
    )
    by_place c is over at = (refl, refl)

    by_call : (o : Option Call) → call_at t k ≡ o
        → (with_item o (λ c. goes_by c.place (asking_station c.asker) (target_station c) a n) false ≡ false)
        × (with_item o (λ c. goes_by c.place (asking_station c.asker) (target_station c) n a) false ≡ false)
    by_call None is = (refl, refl)
    by_call (Some c) is = by_place c is c.place refl

at-rest : (H : ℕ → Bool) → H 0 ≡ false → (w : World) → CutWorld H w → (n : ℕ) (it : Node) → node_at w n ≡ Some it → it.up ≡ false
    → IsAtRest w n it
at-rest H shell w h n it at off = go (h.down.calm n it at)
  where
    some : n ≡ 0 → ⊥
    some is = let bad : true ≡ false = sym (ap is_some at) ∙ h.down.sound.place.present n ∙ ap H is ∙ shell in cc bad

    go : Calm it → IsAtRest w n it
    go (inl up) = false-true (sym off ∙ up)
    go (inr rest) = record {
      no_request = rest.no_request;
      no_active = λ u e is. (rest.idle u e is).no_active;
      no_queued = λ u e is. (rest.idle u e is).no_queued;
      calls = (h.cut n it at off).at;
      no_message = λ a. (
        filter-none (goes w.traffic a n) w.traffic.transit (λ k. (apart-from n some w.traffic (h.cut n it at off) a k).0),
        filter-none (goes w.traffic n a) w.traffic.transit (λ k. (apart-from n some w.traffic (h.cut n it at off) a k).1),
      );
    }

pub down-nodes-rest : (layout : Layout) (script : Script) (disks : List DiskRun) (history : List Entry) → IsLayout layout
    → AreHandedIn layout disks → Begins layout script disks history
    → (n : ℕ) (it : Node) → node_at (last_world (opening_world layout script disks) script history) n ≡ Some it → it.up ≡ false
    → IsAtRest (last_world (opening_world layout script disks) script history) n it
down-nodes-rest layout script disks history lays fits begins =
    at-rest here (ap is_some (none-below layout 0 1 disks (omega arith))) (last_world w script history)
    (end-keeps Any (CutWorld here) (record {
      entries = λ past w c e any allowed i. (tt, cut-next here w c e allowed i);
      look_ups = λ past w name target path e any allowed plain i. (tt, cut-looked_up here w name target path e.event allowed i);
    }) (beginning w script.nodes script.commands) [] history (of-any 1 script.nodes w script.commands)
    (subst (CutWorld here) (sym (world-booting 1 script.nodes w script.commands)) opening) begins)
  where
    w : World
    w = opening_world layout script disks

    here : ℕ → Bool
    here n = is_some (node_at w n)

    opening : CutWorld here w
    opening = let site = known-opening layout script disks lays fits in record {
      site = site;
      down = record {
        sound = site.sound;
        asked_up = record { at = λ k c is. absurd (cc is) };
        calm =
            calm-opening layout (images (numbered disks));
      };
      cut = λ m it at off. record { at = λ k c is. absurd (cc is) };
    }
