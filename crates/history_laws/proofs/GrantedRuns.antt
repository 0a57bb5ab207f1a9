-- In every history of a script that writes out no capabilities, each entry uses only what was granted before it.
use Rattle.std.proofs.Common.{◌≡◌, inl, ◌==◌, ℕ, Bool, true, false, cond, ◌&&◌, T, List, [], ◌∷◌, ◌++◌, map, Option, None, Some, Result}
use Rattle.std.proofs.Common.{Ok, Err, is_some, refl, sym, ◌∙◌, ap, subst}
use Rattle.std.specs.Prelude.{IsSomeAnd, IfSome, codes}
use Rattle.std.specs.List.{filter_map, cons_option}
use Rattle.std.specs.Ordering.{nat_cmp, eq_by_cmp}
use Rattle.std.specs.FinMap.Entries.{is_sorted}
use Rattle.capability.specs.declared.Uid.{Uid}
use Rattle.capability.specs.declared.Cap.{Cap}
use Rattle.capability.specs.Capability.{full, restricted}
use Rattle.capability.proofs.Uids.{uid_cmp_total}
use Rattle.capability.proofs.Laws.{below_self}
use Rattle.std.specs.Cmp.{eq_by_cmp_equiv}
use Rattle.eden_value.specs.Datum.{Datum}
use Rattle.eden_value.specs.Caps.{caps_of}
use Rattle.eden_value.specs.declared.status.Status.{Status}
use Rattle.eden_value.specs.declared.status.Status.TheVariants as status
use Rattle.eden_model.specs.Map.{with_item, uid_cmp, value_at}
use Rattle.eden_model.specs.declared.Asker.{Asker}
use Rattle.eden_model.specs.declared.Asker.TheVariants.{Shell, Eject as Process}
use Rattle.eden_model.specs.Traffic.{Call, call_at, answered, shell_name, processes_of, broken_by_node, broken_by_link, without_link}
use Rattle.epl_syntax.specs.declared.effect.Answer.TheVariants.{Reply as Told}
use Rattle.epl_syntax.specs.Edentype.{Edentype}
use Rattle.epl_syntax.specs.Meaning.{Turned, type_of, first_values}
use Rattle.passive_store.specs.Kept.{Layout}
use Rattle.journal.specs.declared.command.Command.{Command}
use Rattle.journal.specs.declared.command.Command.TheVariants as command
use Rattle.journal.specs.declared.event.Key.{Key}
use Rattle.journal.specs.declared.event.Event.{Event}
use Rattle.journal.specs.declared.event.Event.TheVariants as event
use Rattle.journal.specs.declared.event.Shown.{Shown}
use Rattle.journal.specs.declared.event.Shown.TheVariants as shown
use Rattle.journal.specs.declared.event.StartEnd.TheVariants as start_end
use Rattle.journal.specs.declared.event.RequestEnd.TheVariants as end
use Rattle.journal.specs.declared.event.Entry.{Entry}
use Rattle.journal.specs.Processes.{turn_of}
use Rattle.journal.specs.World.{World, Node, Eject, Active, Meaning, capability, nothing, node_at, eject_at, at_node, site_of, reaches}
use Rattle.journal.specs.Ejects.{fresh, tells, born}
use Rattle.journal.specs.Deliveries.{AllowsReply, meaning_of_reply}
use Rattle.journal.specs.Crashes.{tells_each, linked}
use Rattle.journal.specs.References.{meaning_of, cap_at, args_of, with_name}
use Rattle.journal.specs.Commands.{AllowsAsked, AllowsCommand, born_as, made, held_by, restricted_by, asked_by, asked, ready_call}
use Rattle.journal.specs.Commands.{type_name_of}
use Rattle.journal.specs.Step.{AllowsInTurn, AllowsEvent, Allows, next, after_turn, after_command, happened, at_site, stopped_at}
use Rattle.journal.specs.Step.{site_turn, counted, clocked, key_of}
use Rattle.journal.specs.Run.{Step, AllowsLookUp, lookup_args, looked_up, beginning}
use Rattle.journal.specs.Opening.{found_in, node_of, node_from, passive, passive_entry}
use Rattle.journal.specs.LegalRun.{numbered, images, opening_world}
use Rattle.journal.specs.Granted.{Grant, effect_uses, kept_settled, Holder, the_shell, eject, holder_of, same_holder, grants, granted_to}
use Rattle.journal.specs.Granted.{granted, kept_after_pick, stored_caps, uses, turn_uses, active_uses, IsBelowOne, AllBelow, AllGranted}
use Rattle.journal.specs.Granted.{is_ok, cap_meant}
use Rattle.journal.specs.Laws.{WritesNone, WriteNone, OnlyGrantedAreUsed}
use Rattle.history_laws.proofs.Frame.{only-at_node}
use Rattle.history_laws.proofs.Runs.{step, IsNamed, EachOf, of-booting, each-step, world-booting, nodes-looked_up}
use Rattle.history_laws.proofs.EveryNode.{IsAt, all-next_by, all-same_nodes}
use Rattle.history_laws.proofs.Ordered.{order-passive}
use Rattle.history_laws.proofs.NoUidTwice.{in-order}
use Rattle.history_laws.proofs.Held.{below-later, Has, EntryHas, entry-more, AskerNamed, ShownNamed, turn-left, effect-uses, Holds, Brings}
use Rattle.history_laws.proofs.Held.{kept-holds}
use Rattle.history_laws.proofs.ShellHolds.{NamesHold, meaning_in, meant_caps, names-more, names-with, same-text, named-held, cap-held}
use Rattle.history_laws.proofs.ShellHolds.{restricted-held, args-held, shell-uses}

-- what is granted to a holder in a step
abbrev new_to : Holder → Step → List Cap
new_to h s = granted_to h (grants s s.entry.event)

itself : (xs more : List Cap) → AllBelow xs (xs ++ more)
itself [] more = tt
itself (c ∷ cs) more = (inl (below_self c), below-later cs (c ∷ []) (cs ++ more) (itself cs more))

-- 1. Names

pub names-at : (D : List Cap) (w v : World) → v.names ≡ w.names → NamesHold D w.names → NamesHold D v.names
names-at D w v same h = subst (NamesHold D) (sym same) h

pub names-tells_each : (qs : List (Uid × ℕ)) (w : World) → (tells_each qs w).names ≡ w.names
names-tells_each [] w = refl
names-tells_each (q ∷ qs) w = names-tells_each qs (at_node q.0.node (tells q.0 q.1 (Told status.Broken [])) w)
    ∙ (only-at_node q.0.node (tells q.0 q.1 (Told status.Broken [])) w).names

pub names-site : (w : World) (n : ℕ) (e : Event) → (at_site w n e).names ≡ w.names
names-site w n e = (only-at_node n (site_turn (reaches w n) e) w).names

pub names-stopped : (w : World) (n : ℕ) (e : Event) → (stopped_at w n e).names ≡ w.names
names-stopped w n e = names-tells_each (processes_of (broken_by_node n) w.traffic) (at_site w n e) ∙ names-site w n e

pub names-counted : (k : Option Key) (w : World) → (counted k w).names ≡ w.names
names-counted None w = refl
names-counted (Some k) w = refl

pub names-born_as : (u : Uid) (t : Option Edentype) (w : World) → (born_as u t w).names ≡ w.names
names-born_as u None w = refl
names-born_as u (Some t) w = (only-at_node u.node (born u (fresh t (first_values t))) w).names

pub names-linked : (a b : ℕ) (joined : Bool) (w : World) → (linked a b joined w).names ≡ w.names
names-linked a b true w = refl
names-linked a b false w = names-tells_each (processes_of (broken_by_link a b) w.traffic)
    (record w { cuts = (a, b) ∷ w.cuts; traffic = without_link a b w.traffic })

-- a reply to the shell: what it answers `ok` is granted
replied-names : (D : List Cap) (w : World) (e : Entry) (later : World) (k a b : ℕ) (name : List ℕ) (why : Status) (values : List Datum)
    → AllowsReply w.traffic k a b (Some name) why values
    → NamesHold D w.names → NamesHold (D ++ granted_to the_shell (grants (step w e later) (event.Reply k a b (Some name) why values)))
    (cond (with_item (call_at w.traffic k) (λ c. c.open_) false) ((name, meaning_of_reply why values) ∷ w.names) w.names)
replied-names D w e later k a b name why values allowed h = go (call_at w.traffic k) allowed.delivered
  where
    Argument-to : Option Call → List Cap
    Argument-to o = granted_to the_shell (with_item o (λ c. cond (is_ok why && c.open_) ((holder_of c.asker, caps_of values) ∷ []) []) [])

    shell : (a : Asker) → Some name ≡ shell_name a → same_holder the_shell (holder_of a) ≡ true
    shell (Shell said) e = refl
    shell (Process u p) e = absurd (cc e)

    meant : (s : Status) (c : Call) → Some name ≡ shell_name c.asker
        → AllBelow (meant_caps (meaning_of_reply s values))
        (D ++ granted_to the_shell (cond (is_ok s && true) ((holder_of c.asker, caps_of values) ∷ []) []))
    meant status.Ok c e = below-later (caps_of values) D _
        (subst (λ b. AllBelow (caps_of values) (cond b (caps_of values ++ []) [])) (sym (shell c.asker e)) (itself (caps_of values) []))
    meant _ c e = tt

    one : (c : Call) → Some name ≡ shell_name c.asker → (still : Bool) → c.open_ ≡ still
        → NamesHold (D ++ granted_to the_shell (cond (is_ok why && still) ((holder_of c.asker, caps_of values) ∷ []) []))
        (cond still ((name, meaning_of_reply why values) ∷ w.names) w.names)
    one c e true at = names-with _ name (meaning_of_reply why values) w.names (meant why c e) (names-more D _ w.names h)
    one c e false at = names-more D _ w.names h

    go : (o : Option Call) → IsSomeAnd o (λ c. (c.place ≡ answered why values) × (Some name ≡ shell_name c.asker))
        → NamesHold (D ++ Argument-to o) (cond (with_item o (λ c. c.open_) false) ((name, meaning_of_reply why values) ∷ w.names) w.names)
    go None x = absurd x
    go (Some c) x = one c x.1 c.open_ refl

-- what the shell has after an event
abbrev ShellAfter : List Cap → World → Entry → World → Event → List (List ℕ × Meaning) → Type 0
ShellAfter D w ent later ev names = NamesHold (D ++ granted_to the_shell (grants (step w ent later) ev)) names

kept-names : (D : List Cap) (w : World) (ent : Entry) (later : World) (names : List (List ℕ × Meaning)) (ev : Event) → names ≡ w.names
    → NamesHold D w.names → ShellAfter D w ent later ev names
kept-names D w ent later names ev same h = names-more D _ names (subst (NamesHold D) (sym same) h)

shell-turn : (D : List Cap) (w : World) (ent : Entry) (later : World) (ev : Event) → AllowsInTurn w ev → NamesHold D w.names
    → ShellAfter D w ent later ev (after_turn w ev).names
shell-turn D w ent later (event.Reply k a b (Some name) why values) allowed h = replied-names D w ent later k a b name why values allowed h
shell-turn D w ent later (event.Reply k a b None why values) allowed h = kept-names D w ent later _ (event.Reply k a b None why values)
    (names-site w b (event.Reply k a b None why values)) h
shell-turn D w ent later (event.Request k a b refused) allowed h = kept-names D w ent later _ (event.Request k a b refused)
    (names-site w b (event.Request k a b refused)) h
shell-turn D w ent later (event.Start k v p) allowed h = kept-names D w ent later _ (event.Start k v p)
    (names-site w v.node (event.Start k v p)) h
shell-turn D w ent later (event.Process v p said) allowed h = kept-names D w ent later _ (event.Process v p said)
    (names-site w v.node (event.Process v p said)) h
shell-turn D w ent later (event.Activate v start_end.Ok p) allowed h = kept-names D w ent later _ (event.Activate v start_end.Ok p)
    (names-site w v.node (event.Activate v start_end.Ok p)) h
shell-turn D w ent later (event.Activate v start_end.Gone p) allowed h = kept-names D w ent later _ (event.Activate v start_end.Gone p)
    (names-site w v.node (event.Activate v start_end.Gone p)) h
shell-turn D w ent later (event.Activate v start_end.Fault p) allowed h = kept-names D w ent later _ (event.Activate v start_end.Fault p)
    (names-site w v.node (event.Activate v start_end.Fault p)) h
shell-turn D w ent later (event.Activate v start_end.Damaged p) allowed h = kept-names D w ent later _
    (event.Activate v start_end.Damaged p) (names-site w v.node (event.Activate v start_end.Damaged p)) h
shell-turn D w ent later (event.Activate v start_end.Stop p) allowed h = kept-names D w ent later _ (event.Activate v start_end.Stop p)
    (names-stopped w v.node (event.Activate v start_end.Stop p)) h
shell-turn D w ent later (event.Store v clock end.Part p) allowed h = kept-names D w ent later _ (event.Store v clock end.Part p)
    (names-site w v.node (event.Store v clock end.Part p)) h
shell-turn D w ent later (event.Store v clock end.Done p) allowed h = kept-names D w ent later _ (event.Store v clock end.Done p)
    (names-site w v.node (event.Store v clock end.Done p)) h
shell-turn D w ent later (event.Store v clock end.Fault p) allowed h = kept-names D w ent later _ (event.Store v clock end.Fault p)
    (names-site w v.node (event.Store v clock end.Fault p)) h
shell-turn D w ent later (event.Store v clock end.Full p) allowed h = kept-names D w ent later _ (event.Store v clock end.Full p)
    (names-site w v.node (event.Store v clock end.Full p)) h
shell-turn D w ent later (event.Store v clock end.Stop p) allowed h = kept-names D w ent later _ (event.Store v clock end.Stop p)
    (names-stopped w v.node (event.Store v clock end.Stop p)) h
shell-turn D w ent later event.Quiet allowed h = kept-names D w ent later w.names event.Quiet refl h
shell-turn D w ent later event.Spent allowed h = kept-names D w ent later w.names event.Spent refl h
shell-turn D w ent later _ allowed h = absurd allowed

-- a name that is held
held-names : (D : List Cap) (w : World) (ent : Entry) (later : World) (c : Command) (name : List ℕ)
    → AllowsCommand w c (event.Bound name true) → later.names ≡ (held_by c w).names
    → NamesHold D w.names → ShellAfter D w ent later (event.Bound name true) (held_by c w).names
held-names D w ent later (command.Hold said v) name allowed same h = names-with _ said (capability (full v)) w.names
    (below-later (full v ∷ []) D _ (subst (λ o. AllBelow (full v ∷ []) (with_item o cap_meant [] ++ [])) (sym found)
    (inl (below_self (full v)), tt))) (names-more D _ w.names h)
  where
    found : meaning_of later name ≡ Some (capability (full v))
    found = ap (λ ns. meaning_in ns name) same
        ∙ (ap (λ q. meaning_in ((said, capability (full v)) ∷ w.names) q) allowed.0 ∙ rw (same-text said) refl)
held-names D w ent later (command.Restrict said target mask) name allowed same h = absurd (let bad : true ≡ false = allowed.1 in cc bad)
held-names D w ent later _ name allowed same h = absurd allowed

restricted-names : (D : List Cap) (w : World) (c : Command) → NamesHold D w.names → NamesHold D (restricted_by c w).names
restricted-names D w (command.Restrict said target mask) h = go (cap_at w target) refl
  where
    go : (o : Option Cap) → cap_at w target ≡ o → NamesHold D (with_item o (λ b. with_name said (capability (restricted b mask)) w) w).names
    go None at = h
    go (Some b) at = names-with D said (capability (restricted b mask)) w.names
        (restricted-held b mask D (cap-held w D h target b at), tt) h
restricted-names D w _ h = h

asked-names : (D : List Cap) (w : World) (c : Command) (k : ℕ) (at_once : Option Status) → NamesHold D w.names
    → NamesHold D (asked_by c k at_once w).names
asked-names D w (command.Call said target operation args) k at_once h = go (ready_call w (command.Call said target operation args))
  where
    go : (o : Option (Cap × List Datum)) → NamesHold D (with_item o (λ c. asked said c.0 operation c.1 k at_once w) w).names
    go None = h
    go (Some c) = names-with D said nothing w.names tt h
asked-names D w _ k at_once h = h

made-names : (D : List Cap) (w : World) (ent : Entry) (later : World) (name type_name : List ℕ) (why : Status) (u : Option Uid)
    → NamesHold D w.names → ShellAfter D w ent later (event.Made name why u) (made name type_name u w).names
made-names D w ent later name type_name why None h = names-with _ name nothing w.names tt (names-more D _ w.names h)
made-names D w ent later name type_name why (Some u) h = names-with _ name (capability (full u)) _
    (below-later (full u ∷ []) D _ (inl (below_self (full u)), tt))
    (names-more D _ _ (names-at D w (born_as u (type_of w.types type_name) w) (names-born_as u (type_of w.types type_name) w) h))

shell-command : (D : List Cap) (w : World) (c : Command) (ent : Entry) (later : World) (ev : Event) → AllowsCommand w c ev
    → later.names ≡ (after_command w c ev).names → NamesHold D w.names
    → ShellAfter D w ent later ev (after_command w c ev).names
shell-command D w c ent later (event.Bound name true) allowed same h = held-names D w ent later c name allowed same h
shell-command D w c ent later (event.Bound name false) allowed same h = names-more D _ _ (restricted-names D w c h)
shell-command D w c ent later (event.Asked k name at_once) allowed same h = names-more D _ _ (asked-names D w c k at_once h)
shell-command D w c ent later (event.Made name why u) allowed same h = made-names D w ent later name (type_name_of c) why u h
shell-command D w c ent later (event.Boot n e how p began) allowed same h = kept-names D w ent later _ (event.Boot n e how p began)
    (names-site w n (event.Boot n e how p began)) h
shell-command D w c ent later (event.Crash n) allowed same h = kept-names D w ent later _ (event.Crash n)
    (names-stopped w n (event.Crash n)) h
shell-command D w c ent later (event.Link a b joined) allowed same h = kept-names D w ent later _ (event.Link a b joined)
    (names-linked a b joined w) h
shell-command D w c ent later (event.Still n up) allowed same h = names-more D _ w.names h
shell-command D w c ent later (event.Armed n what) allowed same h = names-more D _ w.names h
shell-command D w c ent later (event.Void name) allowed same h = names-more D _ w.names h
shell-command D w c ent later (event.Left names) allowed same h = names-more D _ w.names h
shell-command D w c ent later event.Quiet allowed same h = names-more D _ w.names h
shell-command D w c ent later event.Spent allowed same h = names-more D _ w.names h
shell-command D w c ent later (event.Request k a b refused) allowed same h = names-more D _ w.names h
shell-command D w c ent later (event.Reply k a b name why values) allowed same h = names-more D _ w.names h
shell-command D w c ent later (event.Activate v how p) allowed same h = names-more D _ w.names h
shell-command D w c ent later (event.Start k v p) allowed same h = names-more D _ w.names h
shell-command D w c ent later (event.Process v p said) allowed same h = names-more D _ w.names h
shell-command D w c ent later (event.Store v clock how p) allowed same h = names-more D _ w.names h

shell-next : (past : List Step) (w : World) (c : Option Command) (e : Entry) → Allows w c e → NamesHold (granted the_shell past) w.names
    → NamesHold (granted the_shell (step w e (next w c e) ∷ past)) (next w c e).names
shell-next past w c e allowed h = subst (NamesHold
    (granted the_shell past ++ granted_to the_shell (grants (step w e (next w c e)) e.event))) (sym same) (go c allowed.event same)
  where
    same : (next w c e).names ≡ (happened w c e.event).names
    same = names-counted (key_of e.event) (clocked e.node e.clock (happened w c e.event))

    go : (c' : Option Command) → AllowsEvent w c' e.event → (next w c e).names ≡ (happened w c' e.event).names
        → ShellAfter (granted the_shell past) w e (next w c e) e.event (happened w c' e.event).names
    go None a s = shell-turn (granted the_shell past) w e (next w c e) e.event a h
    go (Some k) a s = shell-command (granted the_shell past) w k e (next w c e) e.event a s h

-- 2. What the shell uses

traffic-counted : (k : Option Key) (w : World) → (counted k w).traffic ≡ w.traffic
traffic-counted None w = refl
traffic-counted (Some k) w = refl

asked-uses : (past : List Step) (w : World) (c : Command) (k : ℕ) (name : List ℕ) (at_once : Option Status) → WritesNone c
    → AllowsCommand w c (event.Asked k name at_once) → NamesHold (granted the_shell past) w.names
    → AllGranted (with_item (call_at (asked_by c k at_once w).traffic k) (λ c. (holder_of c.asker, c.target ∷ caps_of c.args) ∷ []) []) past
asked-uses past w (command.Call said target operation args) k name at_once none allowed h = go (cap_at w target) refl
    (args_of w args) refl allowed.1
  where
    go : (t : Option Cap) → cap_at w target ≡ t → (a : Option (List Datum)) → args_of w args ≡ a
        → IsSomeAnd {T = Cap × List Datum} (with_item t (λ c. with_item a (λ ds. Some (c, ds)) None) None)
        (λ c. AllowsAsked w k at_once c.0 c.1)
        → AllGranted (with_item (call_at (with_item {X = Cap × List Datum} (with_item t (λ c. with_item a (λ ds. Some (c, ds)) None) None)
        (λ c. asked said c.0 operation c.1 k at_once w) w).traffic k) (λ c. (holder_of c.asker, c.target ∷ caps_of c.args) ∷ []) [])
        past
    go None at a is x = absurd x
    go (Some c) at None is x = absurd x
    go (Some c) at (Some ds) is x = shell-uses past k said c operation ds at_once w.traffic
        (cap-held w (granted the_shell past) h target c at) (args-held w (granted the_shell past) h args ds none is)
asked-uses past w _ k name at_once none allowed h = absurd allowed

path-caps : (path : List (List ℕ)) (D : List Cap) → AllBelow (caps_of (lookup_args path)) D
path-caps [] D = tt
path-caps (c ∷ cs) D = tt

-- 3. What Ejects have

-- D names what these grants give to Ejects
abbrev GrantNamed : (Uid → List Cap) → Holder → List Cap → Type 0
GrantNamed D the_shell cs = Unit {0}
GrantNamed D (eject u) cs = AllBelow cs (D u)

abbrev GrantsNamed : (Uid → List Cap) → List Grant → Type 0
GrantsNamed D [] = Unit {0}
GrantsNamed D (g ∷ gs) = GrantNamed D g.0 g.1 × GrantsNamed D gs

self-holder : (u : Uid) → same_holder (eject u) (eject u) ≡ true
self-holder u = (eq_by_cmp_equiv uid_cmp_total).refl u

grants-named : (D : Uid → List Cap) (gs : List Grant)
    → ((u : Uid) (cs : List Cap) → AllBelow cs (granted_to (eject u) gs) → AllBelow cs (D u))
    → GrantsNamed D gs
grants-named D [] named = tt
grants-named D (g ∷ gs) named = (first g.0 refl, grants-named D gs (λ u cs h. named u cs (later u cs (same_holder (eject u) g.0) h)))
  where
    first : (who : Holder) → g.0 ≡ who → GrantNamed D who g.1
    first the_shell is = tt
    first (eject u) is = named u g.1 (subst (λ b. AllBelow g.1 (cond b (g.1 ++ granted_to (eject u) gs) (granted_to (eject u) gs)))
        (sym (ap (same_holder (eject u)) is ∙ self-holder u)) (itself g.1 (granted_to (eject u) gs)))

    later : (u : Uid) (cs : List Cap) (b : Bool) → AllBelow cs (granted_to (eject u) gs)
        → AllBelow cs (cond b (g.1 ++ granted_to (eject u) gs) (granted_to (eject u) gs))
    later u cs true h = below-later cs g.1 (granted_to (eject u) gs) h
    later u cs false h = h

-- what an Eject was granted before a step and in it
abbrev Now : List Step → Step → Event → Uid → List Cap
Now past s ev u = granted (eject u) past ++ granted_to (eject u) (grants s ev)

now-named : (past : List Step) (s : Step) (ev : Event) → GrantsNamed (Now past s ev) (grants s ev)
now-named past s ev = grants-named (Now past s ev) (grants s ev) (λ u cs h. below-later cs (granted (eject u) past) _ h)

-- a reply with results grants them to the process that asked
reply-by : (D : Uid → List Cap) (a : Asker) (why : Status) (values : List Datum)
    → GrantsNamed D (cond (is_ok why && true) ((holder_of a, caps_of values) ∷ []) []) → AskerNamed D a why values
reply-by D (Shell name) why values named = tt
reply-by D (Process u p) status.Ok values named = named.0
reply-by D (Process u p) _ values named = tt

reply-named : (D : Uid → List Cap) (why : Status) (c : Call) (values : List Datum) → c.open_ ≡ true
    → GrantsNamed D (cond (is_ok why && c.open_) ((holder_of c.asker, caps_of values) ∷ []) []) → AskerNamed D c.asker why values
reply-named D why c values still named =
    reply-by D c.asker why values (subst (λ b. GrantsNamed D (cond (is_ok why && b)
    ((holder_of c.asker, caps_of values) ∷ []) [])) still named)

shown-named : (D : Uid → List Cap) (s : Step) (v : Uid) (p : ℕ) (said : Shown) → GrantsNamed D (grants s (event.Process v p said))
    → ShownNamed D v said
shown-named D s v p (shown.Created new) named = (named.0.0, named.1.0.0)
shown-named D s v p _ named = tt

brings-at : (past : List Step) (w : World) (ent : Entry) (later : World) (ev : Event) (n : ℕ) (it : Node) → node_at w n ≡ Some it
    → IsAt ev n
    → Brings (site_of w n it) ev (Now past (step w ent later) ev)
brings-at past w ent later (event.Activate v start_end.Ok p) n it at place = (
  x.0.0,
  λ bytes is.
      subst (λ o. AllBelow (with_item o stored_caps []) (D v)) (kept bytes is) x.0.1,
)
  where
    ev : Event
    ev = event.Activate v start_end.Ok p

    D : Uid → List Cap
    D = Now past (step w ent later) ev

    x : GrantsNamed D (grants (step w ent later) ev)
    x = now-named past (step w ent later) ev

    kept : (bytes : List ℕ) → kept_settled v p (site_of w n it) ≡ Some bytes → kept_after_pick w v ev ≡ Some bytes
    kept bytes is = ap (λ m. with_item (with_item (node_at w m) (λ jt. Some (site_of w m jt)) None) (λ s. kept_settled v p s) None) place
        ∙ (ap (λ o. with_item (with_item o (λ jt. Some (site_of w n jt)) None) (λ s. kept_settled v p s) None) at ∙ is)
brings-at past w ent later (event.Activate v start_end.Gone p) n it at place = tt
brings-at past w ent later (event.Activate v start_end.Fault p) n it at place = tt
brings-at past w ent later (event.Activate v start_end.Damaged p) n it at place = tt
brings-at past w ent later (event.Activate v start_end.Stop p) n it at place = tt
brings-at past w ent later (event.Start k v p) n it at place = λ c is.
    let D = Now past (step w ent later) (event.Start k v p) in
    subst (λ o. AllBelow (with_item o (λ (c : Call). caps_of c.args) []) (D v)) is (now-named past (step w ent later) (event.Start k v p)).0
brings-at past w ent later (event.Reply k a b name why values) n it at place = λ c is still.
    let D = Now past (step w ent later) (event.Reply k a b name why values) in
    reply-named D why c values still
    (subst (λ o. GrantsNamed D (with_item o (λ (c : Call). cond (is_ok why && c.open_)
    ((holder_of c.asker, caps_of values) ∷ []) []) [])) is
    (now-named past (step w ent later) (event.Reply k a b name why values)))
brings-at past w ent later (event.Process v p said) n it at place =
    shown-named (Now past (step w ent later) (event.Process v p said)) (step w ent later) v p said
    (now-named past (step w ent later) (event.Process v p said))
brings-at past w ent later _ n it at place = tt

-- a creation grants the new Eject its own capability
made-at : (past : List Step) (w : World) (ent : Entry) (later : World) (ev : Event) (u : Uid) (name : List ℕ) (why : Status)
    → ev ≡ event.Made name why (Some u) → IsBelowOne (full u) (Now past (step w ent later) ev u)
made-at past w ent later ev u name why is = subst (λ e. IsBelowOne (full u) (Now past (step w ent later) e u)) (sym is)
    (now-named past (step w ent later) (event.Made name why (Some u))).1.0.0

-- each Eject of each node has only what it was granted
abbrev EjectsHold : List Step → World → Type 0
EjectsHold past w = (n : ℕ) (it : Node) → node_at w n ≡ Some it → Holds n (λ u. granted (eject u) past) it.ejects

-- one without an active part has nothing
active-only : (u : Uid) (D : List Cap) (o : Option Eject) → EntryHas u D o
    → EntryHas u (cond (with_item o (λ e. is_some e.active) false) D []) o
active-only u D None h = tt
active-only u D (Some e) h = go e.active h
  where
    go : (a : Option Active) → IfSome a (Has u D) → IfSome a (Has u (cond (is_some a) D []))
    go None x = tt
    go (Some it) x = x

granted-now : (past : List Step) (s : Step)
    → ((n : ℕ) (it : Node) → node_at s.later n ≡ Some it → Holds n (λ u. granted (eject u) past ++ new_to (eject u) s) it.ejects)
    → EjectsHold (s ∷ past) s.later
granted-now past s all n it at = record {
  in_order = (all n it at).in_order;
  at = λ u number. subst (λ o. EntryHas u (cond (with_item o (λ e. is_some e.active) false)
      (granted (eject u) past ++ new_to (eject u) s) [])
      (value_at uid_cmp u it.ejects)) (sym (here u number))
      (active-only u (granted (eject u) past ++ new_to (eject u) s) (value_at uid_cmp u it.ejects) ((all n it at).at u number));
}
  where
    here : (u : Uid) → u.node ≡ n → eject_at s.later u ≡ value_at uid_cmp u it.ejects
    here u number = ap (λ o. with_item o (λ (jt : Node). value_at uid_cmp u jt.ejects) None) (ap (node_at s.later) number ∙ at)

ejects-more : (past : List Step) (w : World) (s : Step) → EjectsHold past w → (n : ℕ) (it : Node) → node_at w n ≡ Some it
    → Holds n (λ u. granted (eject u) past ++ new_to (eject u) s) it.ejects
ejects-more past w s all n it at = record {
  in_order = (all n it at).in_order;
  at = λ u number. entry-more u (granted (eject u) past) (new_to (eject u) s) (value_at uid_cmp u it.ejects) ((all n it at).at u number);
}

ejects-next : (past : List Step) (w : World) (c : Option Command) (e : Entry) → Allows w c e → EjectsHold past w
    → EjectsHold (step w e (next w c e) ∷ past) (next w c e)
ejects-next past w c e allowed all = granted-now past (step w e (next w c e))
    (all-next_by (λ n it. Holds n (λ u. granted (eject u) past ++ new_to (eject u) (step w e (next w c e))) it.ejects) w c e
    (kept-holds (λ u. granted (eject u) past ++ new_to (eject u) (step w e (next w c e))) w e.event
    (brings-at past w e (next w c e) e.event) (made-at past w e (next w c e) e.event)) allowed
    (ejects-more past w (step w e (next w c e)) all))

process-uses : (past : List Step) (w : World) (u : Uid) (p : ℕ) → EjectsHold past w → AllGranted (turn_uses w u p) past
process-uses past w u p all = by_node (node_at w u.node) refl
  where
    by_turn : (it : Active) → Has u (granted (eject u) past) it → (o : Option Turned) → turn_of u it p ≡ o
        → AllGranted (with_item o (λ t. effect_uses u it.kind t.vars t.effect) []) past
    by_turn it h None is = tt
    by_turn it h (Some t) is = let left = turn-left u (granted (eject u) past) it p t is h in
        effect-uses u it.kind t.vars t.effect past left.vars left.effect

    by_active : (a : Option Active) → IfSome a (Has u (granted (eject u) past))
        → AllGranted (with_item a (λ it. active_uses u p it) []) past
    by_active None h = tt
    by_active (Some it) h = by_turn it h (turn_of u it p) refl

    by_eject : (o : Option Eject) → EntryHas u (granted (eject u) past) o
        → AllGranted (with_item o (λ e. with_item e.active (λ it. active_uses u p it) []) []) past
    by_eject None h = tt
    by_eject (Some e) h = by_active e.active h

    by_node : (o : Option Node) → node_at w u.node ≡ o
        → AllGranted (with_item (with_item (node_at w u.node) (λ it. value_at uid_cmp u it.ejects) None)
        (λ e. with_item e.active (λ it. active_uses u p it) []) []) past
    by_node None at = rw at tt
    by_node (Some it) at = rw at (by_eject (value_at uid_cmp u it.ejects) ((all u.node it at).at u refl))

-- 4. Every step

abbrev Have : List Step → World → Type 0
Have past w = NamesHold (granted the_shell past) w.names × EjectsHold past w

uses-turn : (past : List Step) (w : World) (ent : Entry) (later : World) (ev : Event) → AllowsInTurn w ev → EjectsHold past w
    → AllGranted (uses (step w ent later) ev) past
uses-turn past w ent later (event.Process u p said) allowed all = process-uses past w u p all
uses-turn past w ent later (event.Asked k name at_once) allowed all = absurd allowed
uses-turn past w ent later _ allowed all = tt

uses-command : (past : List Step) (w : World) (c : Command) (ent : Entry) (later : World) (ev : Event) → WritesNone c
    → AllowsCommand w c ev → later.traffic ≡ (after_command w c ev).traffic → NamesHold (granted the_shell past) w.names → EjectsHold past w
    → AllGranted (uses (step w ent later) ev) past
uses-command past w c ent later (event.Process u p said) none allowed same h all = process-uses past w u p all
uses-command past w c ent later (event.Asked k name at_once) none allowed same h all = subst
    (λ t. AllGranted (with_item (call_at t k) (λ c. (holder_of c.asker, c.target ∷ caps_of c.args) ∷ []) []) past) (sym same)
    (asked-uses past w c k name at_once none allowed h)
uses-command past w c ent later _ none allowed same h all = tt

uses-next : (past : List Step) (w : World) (c : Option Command) (e : Entry) → IfSome c WritesNone → Allows w c e → Have past w
    → AllGranted (uses (step w e (next w c e)) e.event) past
uses-next past w c e none allowed have = go c none allowed.event
    (traffic-counted (key_of e.event) (clocked e.node e.clock (happened w c e.event)))
  where
    go : (c' : Option Command) → IfSome c' WritesNone → AllowsEvent w c' e.event → (next w c e).traffic ≡ (happened w c' e.event).traffic
        → AllGranted (uses (step w e (next w c e)) e.event) past
    go None none a same = uses-turn past w e (next w c e) e.event a have.1
    go (Some k) none a same = uses-command past w k e (next w c e) e.event none a same have.0 have.1

-- a look-up of a walk
look-up : (past : List Step) (w : World) (name : List ℕ) (target : Option Cap) (path : List (List ℕ)) (ent : Entry) (ev : Event)
    → IfSome target (IsNamed w) → AllowsLookUp w name target path ev → Have past w
    → AllGranted (uses (step w ent (looked_up w name target path ev)) ev) past
    × NamesHold (granted the_shell past ++ granted_to the_shell (grants (step w ent (looked_up w name target path ev)) ev))
    (looked_up w name target path ev).names
look-up past w name (Some target) path ent (event.Asked k said at_once) named allowed have = (
  shell-uses past k name target (codes "LookUp") (lookup_args path) at_once w.traffic
      (named-held w (granted the_shell past) have.0 target named) (path-caps path (granted the_shell past)),
  names-more (granted the_shell past) _ _ (names-with (granted the_shell past) name nothing w.names tt have.0),
)
look-up past w name None path ent (event.Void said) named allowed have = (tt, names-more (granted the_shell past) _ w.names have.0)
look-up past w name target path ent _ named allowed have = absurd allowed

ejects-looked_up : (past : List Step) (w later : World) (ent : Entry) → later.nodes ≡ w.nodes → EjectsHold past w
    → EjectsHold (step w ent later ∷ past) later
ejects-looked_up past w later ent same all = granted-now past (step w ent later)
    (all-same_nodes (λ n it. Holds n (λ u. granted (eject u) past ++ new_to (eject u) (step w ent later)) it.ejects) w later same
    (ejects-more past w (step w ent later) all))

-- 5. Every history

passive-has : (u : Uid) (D : List Cap) (kept : List (Uid × List ℕ)) → EntryHas u D (value_at uid_cmp u (filter_map passive_entry kept))
passive-has u D [] = tt
passive-has u D (e ∷ es) = go (e.0.serial == 0) (passive-has u D es)
  where
    found : (b : Bool) → EntryHas u D (value_at uid_cmp u (filter_map passive_entry es))
        → EntryHas u D (cond b (Some (passive e.1)) (value_at uid_cmp u (filter_map passive_entry es)))
    found true h = tt
    found false h = h

    go : (skipped : Bool) → EntryHas u D (value_at uid_cmp u (filter_map passive_entry es))
        → EntryHas u D (value_at uid_cmp u (cons_option (cond skipped None (Some (e.0, passive e.1))) (filter_map passive_entry es)))
    go true h = h
    go false h = found (eq_by_cmp uid_cmp u e.0) h

nothing-held : (n m size : ℕ) (D : Uid → List Cap) (found : Result (List (Uid × List ℕ)) ℕ) (overfull untold : Bool) (ledger : List ℕ)
    → ((kept : List (Uid × List ℕ)) → found ≡ Ok kept → T (is_sorted uid_cmp kept))
    → Holds m D (node_from n size found overfull untold ledger).ejects
nothing-held n m size D (Ok kept) overfull untold ledger sorted = record {
  in_order = order-passive kept (sorted kept refl);
  at = λ u number. passive-has u (D u) kept;
}
nothing-held n m size D (Err place) overfull untold ledger sorted = record { in_order = tt; at = λ u number. tt }

opening-holds : (layout : Layout) (D : Uid → List Cap) (images : List (ℕ × List ℕ)) (n : ℕ) (it : Node)
    → value_at nat_cmp n (map (λ d. (d.0, node_of layout d)) images) ≡ Some it → Holds n D it.ejects
opening-holds layout D [] n it is = absurd (cc is)
opening-holds layout D (d ∷ ds) n it is = go (eq_by_cmp nat_cmp n d.0) (opening-holds layout D ds n it) is
  where
    go : (b : Bool) → (value_at nat_cmp n (map (λ d. (d.0, node_of layout d)) ds) ≡ Some it → Holds n D it.ejects)
        → cond b (Some (node_of layout d)) (value_at nat_cmp n (map (λ d. (d.0, node_of layout d)) ds)) ≡ Some it → Holds n D it.ejects
    go true later e = subst (λ o. IfSome o (λ (x : Node). Holds n D x.ejects)) e
        (nothing-held d.0 n _ D (found_in layout d.0 d.1) _ _ _ (in-order layout d.0 d.1))
    go false later e = later e

each-none : (cs : List Command) → WriteNone cs → EachOf WritesNone cs
each-none [] h = tt
each-none (c ∷ cs) h = (h.0, each-none cs h.1)

pub only-granted : OnlyGrantedAreUsed
only-granted layout script disks history none begins = each-step WritesNone Have (λ past s. AllGranted (uses s s.entry.event) past)
    (record {
      entries = λ past w c e of allowed have. (
        uses-next past w c e of allowed have,
        (shell-next past w c e allowed have.0, ejects-next past w c e allowed have.1),
      );
      look_ups = λ past w name target path e named allowed plain have.
          let x = look-up past w name target path e e.event named allowed have in (
            x.0,
            (
              x.1,
              ejects-looked_up past w (looked_up w name target path e.event) e
                  (nodes-looked_up w name target path e.event) have.1,
            ),
          );
    }) (beginning w script.nodes script.commands) [] history
    (of-booting WritesNone (λ m. tt) 1 script.nodes w script.commands (each-none script.commands none))
    (subst (Have []) (sym (world-booting 1 script.nodes w script.commands))
    (record { at = λ name m is. absurd (cc is) }, opening-holds layout (λ u. []) (images (numbered disks)))) begins
  where
    w : World
    w = opening_world layout script disks
