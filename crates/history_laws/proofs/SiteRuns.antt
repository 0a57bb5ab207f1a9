-- Every site of every history is sound.
use Rattle.std.proofs.Common.{◌≡◌, ◌==◌, ◌+◌, ◌≤◌, ℕ, Bool, true, false, cond, ◌&&◌, List, [], ◌∷◌, map, Option, None, Some, Ok, is_some}
use Rattle.std.proofs.Common.{refl, sym, ◌∙◌, ap, subst, arith, inl, inr}
use Rattle.std.specs.Prelude.{IsSomeAnd, IfSome, ◌⊎◌}
use Rattle.std.specs.List.{All}
use Rattle.std.specs.Ordering.{nat_cmp, eq_by_cmp}
use Rattle.capability.specs.declared.Uid.{Uid}
use Rattle.capability.specs.declared.Cap.{Cap}
use Rattle.eden_value.specs.Datum.{Datum}
use Rattle.eden_value.specs.declared.status.Status.{Status}
use Rattle.eden_value.specs.declared.status.Status.TheVariants as status
use Rattle.eden_model.specs.Map.{with_item, first, uid_cmp, value_at}
use Rattle.eden_model.proofs.Numbers.{same-true}
use Rattle.eden_model.specs.Traffic.{Traffic, Call, held, answered, call_at, next_call, new_call, with_call, asking_station}
use Rattle.eden_model.specs.Traffic.{target_station, goes_by, goes, without_node, processes_of, broken_by_node, broken_by_link}
use Rattle.eden_model.specs.Traffic.{without_link, shell_name}
use Rattle.eden_model.specs.declared.Asker.TheVariants.{Shell, Eject as Asking}
use Rattle.epl_syntax.specs.declared.effect.Answer.TheVariants.{Reply as Told}
use Rattle.epl_syntax.specs.Edentype.{Edentype}
use Rattle.epl_syntax.specs.Rules.OfTypes.{KeepRules, HaveMonitors}
use Rattle.epl_syntax.specs.Meaning.{type_of, first_values}
use Rattle.passive_store.specs.declared.store.Pick.{Pick}
use Rattle.passive_store.specs.Kept.{Layout}
use Rattle.passive_store.specs.Layout.{IsLayout}
use Rattle.journal.specs.declared.command.Command.{Command}
use Rattle.journal.specs.declared.command.Command.TheVariants as command
use Rattle.journal.specs.declared.command.Script.{Script}
use Rattle.journal.specs.declared.event.StartEnd.{StartEnd}
use Rattle.journal.specs.declared.event.StartEnd.TheVariants as start_end
use Rattle.journal.specs.declared.event.RequestEnd.{RequestEnd}
use Rattle.journal.specs.declared.event.RequestEnd.TheVariants as end
use Rattle.journal.specs.declared.event.Event.{Event}
use Rattle.journal.specs.declared.event.Event.TheVariants as event
use Rattle.journal.specs.declared.event.Entry.{Entry}
use Rattle.journal.specs.declared.event.Key.{Key}
use Rattle.journal.specs.World.{World, Site, Node, Eject, StoreRequest, node_at, site_of, site_at, at_node, with_site, eject_in}
use Rattle.journal.specs.World.{on_eject, on_node, on_traffic, is_up, reaches}
use Rattle.journal.specs.Ejects.{tells, fresh, next_uid, born}
use Rattle.journal.specs.References.{cap_at}
use Rattle.journal.specs.Deliveries.{AllowsReply, received}
use Rattle.journal.specs.Settling.{first_request, settled, unsynced, to_settle}
use Rattle.journal.specs.Crashes.{crashed, tells_each, linked}
use Rattle.journal.specs.Starts.{AllowsActivate, start_settled, activation_turn}
use Rattle.journal.specs.Stores.{AllowsStore, EndsSo, Work, syncs, reads, unkept, without_room, calls, work_of, doubted, worked, store_turn}
use Rattle.journal.specs.Commands.{AllowsCommand, AllowsAsked, asked, asked_by, ready_call, born_as, made, type_name_of, held_by}
use Rattle.journal.specs.Commands.{restricted_by}
use Rattle.journal.specs.Ejects.{epoch_or_zero}
use Rattle.journal.specs.Opening.{node_of, found_in}
use Rattle.journal.specs.Step.{AllowsAt, AllowsInTurn, AllowsEvent, Allows, next, after_turn, after_command, happened, at_site}
use Rattle.journal.specs.Step.{stopped_at, site_turn, heard_by_shell, clocked, counted, key_of}
use Rattle.journal.specs.Run.{AllowsLookUp, looked_up, beginning}
use Rattle.journal.specs.Standing.{DiskRun}
use Rattle.journal.specs.LegalRun.{AreHandedIn, numbered, images, opening_world, last_world}
use Rattle.journal.specs.Enabled.{enabled}
use Rattle.journal.specs.Laws.{Begins, HasTurn}
use Rattle.journal.specs.Sites.{Everywhere, AllSound, active_in, IsHeldAt, IsOpenOf, at_store, AreNumbered, AllThere, SoundWorld}
use Rattle.history_laws.proofs.Fits.{times_in, Fits, SoundSite}
use Rattle.history_laws.proofs.SafeRuns.{same-number}
use Rattle.history_laws.proofs.EntryLists.{first-passes}
use Rattle.history_laws.proofs.Runs.{Any, of-any, end-keeps, world-booting, nodes-looked_up}
use Rattle.history_laws.proofs.EveryNode.{IsKeptAt, IsNext, next-following, following_uid, at-its-site, made-next, all-clocked, all-next}
use Rattle.history_laws.proofs.EveryNode.{all-same_nodes}
use Rattle.history_laws.proofs.SoundWorld.{sound-next, sound-looked_up}
use Rattle.history_laws.proofs.EnabledTurns.{enabled-turns}
use Rattle.history_laws.proofs.EnabledRuns.{sound-opening-world}
use Rattle.history_laws.proofs.Uids.{IsBehind, Fit, OfNode, AllFit, CreatedIn}
use Rattle.history_laws.proofs.UidLaw.{fit-on_eject}
use Rattle.history_laws.proofs.UidTurns.{kept-fit}
use Rattle.history_laws.proofs.NoUidTwice.{fit-opening}
use Rattle.history_laws.proofs.Down.{IsIdle, Rests}
use Rattle.history_laws.proofs.DownRuns.{rest-node}
use Rattle.history_laws.proofs.Times.{passes-closed, numbered-more, held-more}
use Rattle.history_laws.proofs.SiteChanges.{AddsNothing, nothing-sound, StaysSound, nothing-stays, nothing-on_traffic}
use Rattle.history_laws.proofs.SiteCalls.{open-more}
use Rattle.history_laws.proofs.SiteForms.{sound-site}
use Rattle.history_laws.proofs.Tasks.{IsRuledType, AreRuled, NodeFits, EffectsFit, CallsKept}
use Rattle.history_laws.proofs.RuledTypes.{types-ruled}
use Rattle.history_laws.proofs.LeftTurns.{values-first}
use Rattle.history_laws.proofs.TaskTurns.{tasks-site_turn, tasks-born, tasks-told, tasks-fallen, effect-fits}
use Rattle.history_laws.proofs.CallsKeep.{IsKnown, kept-itself, kept-then, keeps-next, keeps-looked_up}
use Rattle.history_laws.proofs.SiteTurns.{IsNew, nothing-born}
use Rattle.history_laws.proofs.SiteEvents.{stays-process_turn, stays-refused, stays-accepted, stays-heard, stays-start, stays-crashed}
use Rattle.history_laws.proofs.SiteStores.{stays-store_turn, stays-activation, stays-boot}
use Rattle.history_laws.proofs.SiteWorlds.{AllSites, sound-like, sites-at, sites-crash, sites-cut}

-- 1. What is known besides

-- the types of a world are ruled
abbrev pub RulingIn : List Edentype → World → Type 0
RulingIn types w = (name : List ℕ) (t : Edentype) → type_of w.types name ≡ Some t → IsRuledType types t

pub record KnownWorld (H : ℕ → Bool) (w : World) : Type 0 where
  pub sound : SoundWorld H w
  pub fit : AllFit (CreatedIn []) w
  pub numbered : AreNumbered 1 w.traffic.calls

pub is-known : (H : ℕ → Bool) (w : World) → KnownWorld H w → IsKnown w
is-known H w h = record { nodes = h.sound.nodes; numbered = h.numbered }

-- the next uid is that of no Eject
pub new-by : {G : Uid → Type 0} (s : Site) → Fit G s.node → IsNew s
new-by s fit u is = go (eject_in s u) refl
  where
    clash : IsBehind u (epoch_or_zero s.node.epoch) s.node.last_serial → ⊥
    clash b = let same : u ≡ following_uid s = next-following s u is in
        let le : u.serial ≤ s.node.last_serial = b.serial_given (ap (λ (v : Uid). v.epoch) same) in
        omega (arith, le, ap (λ (v : Uid). v.serial) same)

    go : (o : Option Eject) → eject_in s u ≡ o → o ≡ None
    go None at = refl
    go (Some e) at = absurd (clash (fit.behind u (ap is_some at)))

pub both-true : (a b : Bool) → (a && b) ≡ true → (a ≡ true) × (b ≡ true)
both-true true b e = (refl, e)
both-true false b e = absurd (cc e)

pub on-call : {P Q : Call → Type 0} (o : Option Call) (f : Call → Bool) → ((c : Call) → P c → f c ≡ true → Q c) → IsSomeAnd o P
    → with_item o f false ≡ true → IsSomeAnd o Q
on-call None f each p is = p
on-call (Some c) f each p is = each c p is

-- 2. Turns

sites-request : (w : World) (k a b : ℕ) (refused : Option Status) → AllowsInTurn w (event.Request k a b refused) → AllSites w
    → AllSites (at_site w b (event.Request k a b refused))
sites-request w k a b None allowed all = sites-at b (site_turn (reaches w b) (event.Request k a b None)) w (λ it is. let x =
    at-its-site w b (λ s. AllowsAt s (event.Request k a b None)) it is allowed in
    stays-accepted k (site_of w b it) (on-call (call_at w.traffic k) (λ c. goes_by c.place (asking_station c.asker) (target_station c) a b)
    (λ c p g. (
      p.0,
      same-number (target_station c) b (both-true (asking_station c.asker == a) (target_station c == b)
          (sym (ap (λ q. goes_by q (asking_station c.asker) (target_station c) a b) p.0) ∙ g)).1,
    ))
    x.delivered (first-passes (goes w.traffic a b) w.traffic.transit k x.first_in_queue)) (all b it is)) all
sites-request w k a b (Some why) allowed all = sites-at b (site_turn (reaches w b) (event.Request k a b (Some why))) w (λ it is. let x =
    at-its-site w b (λ s. AllowsAt s (event.Request k a b (Some why))) it is allowed in
    stays-refused k why (site_of w b it) (on-call (call_at w.traffic k) (λ c.
    goes_by c.place (asking_station c.asker) (target_station c) a b) (λ c p g. p.0)
    x.delivered (first-passes (goes w.traffic a b) w.traffic.transit k x.first_in_queue)) (all b it is)) all

sites-reply : (w : World) (k a b : ℕ) (why : Status) (values : List Datum) → AllowsReply w.traffic k a b None why values → AllSites w
    → AllSites (at_site w b (event.Reply k a b None why values))
sites-reply w k a b why values allowed all = sites-at b (site_turn (reaches w b) (event.Reply k a b None why values)) w (λ it is.
    stays-heard k why values (site_of w b it) (on-call (call_at w.traffic k) (λ c.
    goes_by c.place (asking_station c.asker) (target_station c) a b)
    (λ c p g. (
      p.0,
      λ u q asker. ap asking_station (sym asker)
          ∙ same-number (asking_station c.asker) b (both-true (asking_station c.asker == b) (target_station c == a)
          (sym (ap (λ x. goes_by x (asking_station c.asker) (target_station c) a b) p.0) ∙ g)).0,
    ))
    allowed.delivered (first-passes (goes w.traffic a b) w.traffic.transit k allowed.first_in_queue)) (all b it is)) all

nothing-received : (k : ℕ) (why : Status) (values : List Datum) (s : Site)
    → IsSomeAnd (call_at s.traffic k) (λ c. c.place ≡ answered why values) → AddsNothing s (on_traffic (received k) s)
nothing-received k why values s is_answered = nothing-on_traffic (k ∷ []) (received k) s (passes-closed k s.traffic) (λ u j on has.
    absurd (apart u j on (eq_by_cmp nat_cmp j k) refl has))
  where
    never : (u : Uid) (o : Option Call) → IsSomeAnd o (λ c. c.place ≡ answered why values)
        → IsSomeAnd o (λ c. (c.place ≡ held) × (c.target.uid ≡ u)) → ⊥
    never u None a b = a
    never u (Some c) a b = let bad : answered why values ≡ held = sym a ∙ b.0 in cc bad

    apart : (u : Uid) (j : ℕ) → IsHeldAt s.traffic u j → (b : Bool) → eq_by_cmp nat_cmp j k ≡ b → 1 ≤ cond b (0 + 1) 0 → ⊥
    apart u j on true same has = never u (call_at s.traffic k) is_answered (subst (IsHeldAt s.traffic u) (same-true j k same) on)
    apart u j on false same has = omega (arith, has)

sites-heard : (w : World) (k a b : ℕ) (name : List ℕ) (why : Status) (values : List Datum)
    → AllowsReply w.traffic k a b (Some name) why values → AllSites w → AllSites (heard_by_shell k name why values w)
unfolding on_traffic
sites-heard w k a b name why values allowed all m jt is = sound-like m jt (on_traffic (received k) (site_of w m jt))
    (heard_by_shell k name why values w) refl refl refl
    (nothing-sound (site_of w m jt) (on_traffic (received k) (site_of w m jt))
    (nothing-received k why values (site_of w m jt) (place (call_at w.traffic k) allowed.delivered)) (all m jt is))
  where
    place : (o : Option Call) → IsSomeAnd o (λ c. (c.place ≡ answered why values) × (Some name ≡ shell_name c.asker))
        → IsSomeAnd o (λ c. c.place ≡ answered why values)
    place None p = p
    place (Some c) p = p.0

sites-activate : (types : List Edentype) (w : World) (v : Uid) (how : StartEnd) (p : Option Pick) → AllowsInTurn w (event.Activate v how p)
    → (it : Node)
    → node_at w v.node ≡ Some it → RulingIn types w → AllSites w
    → StaysSound (site_of w v.node it) (activation_turn v how p (site_of w v.node it))
sites-activate types w v how p allowed it is ruled all = stays-activation types v how p (site_of w v.node it) ruled refl
    (passive (eject_in (site_of w v.node it) v) (at-its-site w v.node (λ s. AllowsAt s (event.Activate v how p)) it is allowed))
    (all v.node it is)
  where
    passive : (o : Option Eject) → IsSomeAnd o (λ e. AllowsActivate (site_of w v.node it) v how p e) → active_in o ≡ None
    passive None a = absurd a
    passive (Some e) a = a.is_passive

pub traffic-crashed : (s : Site) → (crashed s).traffic ≡ without_node s.number s.traffic
unfolding on_traffic on_node
traffic-crashed s = refl

traffic-settled : (p : Option Pick) (s : Site) → (crashed (settled p (unsynced s))).traffic ≡ without_node s.number s.traffic
unfolding on_traffic on_node
traffic-settled None s = refl
traffic-settled (Some p) s = refl

pub traffic-started : (p : Option Pick) (s : Site) → (crashed (start_settled p s)).traffic ≡ without_node s.number s.traffic
traffic-started p s = go (to_settle s)
  where
    go : (b : Bool) → (crashed (cond b (settled p (unsynced s)) s)).traffic ≡ without_node s.number s.traffic
    go true = traffic-settled p s
    go false = traffic-crashed s

traffic-doubted : (r : StoreRequest) (s : Site) → (crashed (doubted r s)).traffic ≡ without_node s.number s.traffic
unfolding on_traffic on_node on_eject
traffic-doubted r s = refl

pub traffic-stopped : (v : Uid) (p : Option Pick) (s : Site) → IsSomeAnd (first_request s.node) (λ r. AllowsStore s v end.Stop p r)
    → (store_turn end.Stop p s).traffic ≡ without_node s.number s.traffic
traffic-stopped v p s allowed = go (first_request s.node) allowed
  where
    by_work : (x : Work) (r : StoreRequest) → EndsSo x end.Stop p → (worked x r end.Stop p s).traffic ≡ without_node s.number s.traffic
    by_work syncs r e = traffic-crashed s
    by_work reads r e = traffic-crashed s
    by_work unkept r e = absurd e
    by_work without_room r e = absurd e
    by_work calls r e = traffic-doubted r s

    go : (o : Option StoreRequest) → IsSomeAnd o (λ r. AllowsStore s v end.Stop p r)
        → (with_item o (λ r. worked (work_of s r) r end.Stop p s) s).traffic ≡ without_node s.number s.traffic
    go None a = absurd a
    go (Some r) a = by_work (work_of s r) r a.ends

first-there : (rs : List StoreRequest) (es : List (Uid × Eject)) (r : StoreRequest) → AllThere rs es → first rs ≡ Some r
    → is_some (value_at uid_cmp r.uid es) ≡ true
first-there [] es r all is = absurd (cc is)
first-there (x ∷ rs) es r all is = let same : x ≡ r = cc is in
    subst (λ (y : StoreRequest). is_some (value_at uid_cmp y.uid es) ≡ true) same all.0

sites-store : (H : ℕ → Bool) (w : World) (v : Uid) (clock : ℕ) (how : RequestEnd) (p : Option Pick) → KnownWorld H w → (it : Node)
    → node_at w v.node ≡ Some it → AllSites w → StaysSound (site_of w v.node it) (store_turn how p (site_of w v.node it))
sites-store H w v clock how p known it is all = let s = known.sound.nodes v.node it is in
    stays-store_turn how p (site_of w v.node it) (λ r is_first. s.of_node r.uid (first-there it.requests it.ejects r s.there is_first))
    (all v.node it is)

-- a node that crashes is there
sites-stopped : (w : World) (n : ℕ) (e : Event) → IsSomeAnd (site_at w n) (λ s. Unit {0})
    → ((it : Node) → node_at w n ≡ Some it → StaysSound (site_of w n it) (site_turn (reaches w n) e (site_of w n it)))
    → ((it : Node) → node_at w n ≡ Some it → (site_turn (reaches w n) e (site_of w n it)).traffic ≡ without_node n w.traffic) → AllSites w
    → AllSites (stopped_at w n e)
sites-stopped w n e there done lost all = go (node_at w n) refl there
  where
    go : (o : Option Node) → node_at w n ≡ o → IsSomeAnd (with_item o (λ it. Some (site_of w n it)) None) (λ s. Unit {0})
        → AllSites (stopped_at w n e)
    go None at a = absurd a
    go (Some it) at a = sites-crash w n (site_turn (reaches w n) e) it at (done it at) (lost it at) all

pub some-site : (o : Option Site) (P : Site → Type 0) → IsSomeAnd o P → IsSomeAnd o (λ s. Unit {0})
some-site None P p = p
some-site (Some s) P p = tt

sites-turn : (H : ℕ → Bool) (types : List Edentype) (w : World) (e : Event) → KnownWorld H w → RulingIn types w → EffectsFit types w
    → AllowsInTurn w e → AllSites w → AllSites (after_turn w e)
sites-turn H types w (event.Request k a b refused) known ruled fits allowed all = sites-request w k a b refused allowed all
sites-turn H types w (event.Reply k a b None why values) known ruled fits allowed all = sites-reply w k a b why values allowed all
sites-turn H types w (event.Reply k a b (Some name) why values) known ruled fits allowed all =
    sites-heard w k a b name why values allowed all
sites-turn H types w (event.Activate v start_end.Ok p) known ruled fits allowed all =
    sites-at v.node (site_turn (reaches w v.node) (event.Activate v start_end.Ok p)) w (λ it is.
    sites-activate types w v start_end.Ok p allowed it is ruled all) all
sites-turn H types w (event.Activate v start_end.Gone p) known ruled fits allowed all =
    sites-at v.node (site_turn (reaches w v.node) (event.Activate v start_end.Gone p)) w (λ it is.
    sites-activate types w v start_end.Gone p allowed it is ruled all) all
sites-turn H types w (event.Activate v start_end.Fault p) known ruled fits allowed all =
    sites-at v.node (site_turn (reaches w v.node) (event.Activate v start_end.Fault p)) w (λ it is.
    sites-activate types w v start_end.Fault p allowed it is ruled all) all
sites-turn H types w (event.Activate v start_end.Damaged p) known ruled fits allowed all =
    sites-at v.node (site_turn (reaches w v.node) (event.Activate v start_end.Damaged p)) w (λ it is.
    sites-activate types w v start_end.Damaged p allowed it is ruled all) all
sites-turn H types w (event.Activate v start_end.Stop p) known ruled fits allowed all =
    sites-stopped w v.node (event.Activate v start_end.Stop p)
    (some-site (site_at w v.node) (λ s. AllowsAt s (event.Activate v start_end.Stop p)) allowed) (λ it is.
    sites-activate types w v start_end.Stop p allowed it is ruled all) (λ it is. traffic-started p (site_of w v.node it)) all
sites-turn H types w (event.Start k v p) known ruled fits allowed all =
    sites-at v.node (site_turn (reaches w v.node) (event.Start k v p)) w (λ it is.
    stays-start v k p (site_of w v.node it) (at-its-site w v.node (λ s. AllowsAt s (event.Start k v p)) it is allowed) (all v.node it is))
    all
sites-turn H types w (event.Process v p said) known ruled fits allowed all =
    sites-at v.node (site_turn (reaches w v.node) (event.Process v p said)) w
    (λ it is.
    stays-process_turn types (reaches w v.node) v p said (site_of w v.node it) refl (fits v.node it is v p) ruled
    (at-its-site w v.node (λ s. AllowsAt s (event.Process v p said)) it is allowed)
    (λ f. new-by (on_eject v f (site_of w v.node it)) (fit-on_eject v f (site_of w v.node it) (known.fit v.node it is)))
    (all v.node it is)) all
sites-turn H types w (event.Store v clock end.Part p) known ruled fits allowed all =
    sites-at v.node (site_turn (reaches w v.node) (event.Store v clock end.Part p)) w (λ it is.
    sites-store H w v clock end.Part p known it is all) all
sites-turn H types w (event.Store v clock end.Done p) known ruled fits allowed all =
    sites-at v.node (site_turn (reaches w v.node) (event.Store v clock end.Done p)) w (λ it is.
    sites-store H w v clock end.Done p known it is all) all
sites-turn H types w (event.Store v clock end.Fault p) known ruled fits allowed all =
    sites-at v.node (site_turn (reaches w v.node) (event.Store v clock end.Fault p)) w (λ it is.
    sites-store H w v clock end.Fault p known it is all) all
sites-turn H types w (event.Store v clock end.Full p) known ruled fits allowed all =
    sites-at v.node (site_turn (reaches w v.node) (event.Store v clock end.Full p)) w (λ it is.
    sites-store H w v clock end.Full p known it is all) all
sites-turn H types w (event.Store v clock end.Stop p) known ruled fits allowed all =
    sites-stopped w v.node (event.Store v clock end.Stop p) (some-site (site_at w v.node) (λ s.
    AllowsAt s (event.Store v clock end.Stop p)) allowed) (λ it is. sites-store H w v clock end.Stop p known it is all)
    (λ it is. traffic-stopped v p (site_of w v.node it) (at-its-site w v.node (λ s. AllowsAt s (event.Store v clock end.Stop p)) it is
    allowed)) all
sites-turn H types w (event.Boot n e how q began) known ruled fits allowed all = all
sites-turn H types w (event.Crash n) known ruled fits allowed all = all
sites-turn H types w (event.Still n up) known ruled fits allowed all = all
sites-turn H types w (event.Link a b joined) known ruled fits allowed all = all
sites-turn H types w (event.Armed n what) known ruled fits allowed all = all
sites-turn H types w (event.Made name why v) known ruled fits allowed all = all
sites-turn H types w (event.Bound name kept) known ruled fits allowed all = all
sites-turn H types w (event.Void name) known ruled fits allowed all = all
sites-turn H types w (event.Asked k name at_once) known ruled fits allowed all = all
sites-turn H types w event.Quiet known ruled fits allowed all = all
sites-turn H types w event.Spent known ruled fits allowed all = all
sites-turn H types w (event.Left names) known ruled fits allowed all = all

-- 3. Commands

sites-shell : (w : World) (name : List ℕ) (target : Cap) (operation : List ℕ) (args : List Datum) (k : ℕ) (at_once : Option Status)
    → k ≡ next_call w.traffic → AllSites w → AllSites (asked name target operation args k at_once w)
sites-shell w name target operation args k at_once number all =
    subst (λ j. AllSites (asked name target operation args j at_once w)) (sym number) each
  where
    new : Traffic
    new = with_call (next_call w.traffic) (Shell name) target operation args at_once w.traffic

    was : (u : Uid) (q j : ℕ) → IsOpenOf new u q j → IsOpenOf w.traffic u q j
    was u q j is = go (open-more (Shell name) target operation args at_once w.traffic u q j is)
      where
        go : IsOpenOf w.traffic u q j ⊎ ((j ≡ next_call w.traffic) × (at_once ≡ None) × (Shell name ≡ Asking u q))
            → IsOpenOf w.traffic u q j
        go (inl x) = x
        go (inr x) = absurd (let bad : Shell name ≡ Asking u q = x.2 in cc bad)

    each : AllSites (asked name target operation args (next_call w.traffic) at_once w)
    each m it is = let s = all m it is in record {
      numbered = numbered-more w.traffic.calls s.numbered (new_call (Shell name) target operation args at_once);
      fits = λ u at. let fit = s.fits u at in record {
        held = λ j has. held-more (Shell name) target operation args at_once w.traffic u j s.numbered (fit.held j has);
        once = fit.once;
        asks = λ q j on. fit.asks q j (was u q j on);
        single = λ q i j x y. fit.single q i j (was u q i x) (was u q j y);
        stores = fit.stores;
        alone = fit.alone;
        laid = fit.laid;
      };
    }

sites-asked : (w : World) (c : Command) (k : ℕ) (name : List ℕ) (at_once : Option Status) → AllowsCommand w c (event.Asked k name at_once)
    → AllSites w → AllSites (asked_by c k at_once w)
sites-asked w (command.Call said target operation args) k name at_once allowed all =
    go (ready_call w (command.Call said target operation args)) allowed.1
  where
    go : (o : Option (Cap × List Datum)) → IsSomeAnd o (λ c. AllowsAsked w k at_once c.0 c.1)
        → AllSites (with_item o (λ c. asked said c.0 operation c.1 k at_once w) w)
    go None a = absurd a
    go (Some c) a = sites-shell w said c.0 operation c.1 k at_once a.number all
sites-asked w _ k name at_once allowed all = absurd allowed

sites-held : (c : Command) (w : World) → AllSites w → AllSites (held_by c w)
sites-held (command.Hold name v) w all = all
sites-held _ w all = all

sites-item : {X : Type 0} (w : World) (o : Option X) (f : X → World) → ((x : X) → AllSites (f x)) → AllSites w → AllSites (with_item o f w)
sites-item w None f each all = all
sites-item w (Some x) f each all = each x

sites-restricted : (c : Command) (w : World) → AllSites w → AllSites (restricted_by c w)
sites-restricted (command.Restrict name target mask) w all = sites-item w (cap_at w target) _ (λ c. all) all
sites-restricted _ w all = all

sites-linked : (a b : ℕ) (joined : Bool) (w : World) → AreNumbered 1 w.traffic.calls → AllSites w → AllSites (linked a b joined w)
sites-linked a b true w ordered all = all
sites-linked a b false w ordered all = sites-cut w a b ((a, b) ∷ w.cuts) all ordered

sites-born : (H : ℕ → Bool) (types : List Edentype) (w : World) (u : Uid) (t : Option Edentype) → KnownWorld H w
    → ((x : Edentype) → t ≡ Some x → IsRuledType types x) → IsNext w u → AllSites w → AllSites (born_as u t w)
sites-born H types w u None known ruled is_next all = all
sites-born H types w u (Some t) known ruled is_next all = sites-at u.node (born u (fresh t (first_values t))) w (λ it is.
    nothing-stays (site_of w u.node it) _ (nothing-born types u t (first_values t) (site_of w u.node it) (ruled t refl)
    (new-by (site_of w u.node it) (known.fit u.node it is) u (at-its-site w u.node (λ s. next_uid s ≡ Ok u) it is is_next)))
    (all u.node it is)) all

sites-made : (H : ℕ → Bool) (types : List Edentype) (w : World) (c : Command) (name : List ℕ) (why : Status) (u : Option Uid)
    → KnownWorld H w
    → RulingIn types w
    → AllowsCommand w c (event.Made name why u) → AllSites w → AllSites (made name (type_name_of c) u w)
sites-made H types w c name why None known ruled allowed all = all
sites-made H types w c name why (Some u) known ruled allowed all = sites-born H types w u (type_of w.types (type_name_of c)) known
    (λ x is. ruled (type_name_of c) x is) (made-next w c name why u allowed) all

pub up-there : (w : World) (n : ℕ) → is_up w n ≡ true → IsSomeAnd (site_at w n) (λ s. Unit {0})
up-there w n is = go (node_at w n) is
  where
    go : (o : Option Node) → with_item o (λ it. it.up) false ≡ true
        → IsSomeAnd (with_item o (λ it. Some (site_of w n it)) None) (λ s. Unit {0})
    go None e = absurd (cc e)
    go (Some it) e = tt

sites-crashed : (w : World) (c : Command) (n : ℕ) → AllowsCommand w c (event.Crash n) → AllSites w
    → AllSites (stopped_at w n (event.Crash n))
sites-crashed w (command.Crash m mode) n allowed all = sites-stopped w n (event.Crash n)
    (up-there w n (ap (is_up w) allowed.0 ∙ allowed.1)) (λ it is. stays-crashed (site_of w n it) (all n it is)) (λ it is.
    traffic-crashed (site_of w n it)) all
sites-crashed w _ n allowed all = absurd allowed

sites-command : (H : ℕ → Bool) (types : List Edentype) (w : World) (c : Command) (e : Event) → KnownWorld H w → RulingIn types w
    → AreNumbered 1 w.traffic.calls → AllowsCommand w c e
    → AllSites w → AllSites (after_command w c e)
sites-command H types w c (event.Boot n e how q began) known ruled ordered allowed all =
    sites-at n (site_turn (reaches w n) (event.Boot n e how q began)) w (λ it is. stays-boot e how q began (site_of w n it) (all n it is))
    all
sites-command H types w c (event.Crash n) known ruled ordered allowed all = sites-crashed w c n allowed all
sites-command H types w c (event.Link a b joined) known ruled ordered allowed all = sites-linked a b joined w ordered all
sites-command H types w c (event.Made name why v) known ruled ordered allowed all =
    sites-made H types w c name why v known ruled allowed all
sites-command H types w c (event.Bound name true) known ruled ordered allowed all = sites-held c w all
sites-command H types w c (event.Bound name false) known ruled ordered allowed all = sites-restricted c w all
sites-command H types w c (event.Asked k name at_once) known ruled ordered allowed all = sites-asked w c k name at_once allowed all
sites-command H types w c (event.Still n up) known ruled ordered allowed all = all
sites-command H types w c (event.Armed n what) known ruled ordered allowed all = all
sites-command H types w c (event.Void name) known ruled ordered allowed all = all
sites-command H types w c (event.Request k a b refused) known ruled ordered allowed all = all
sites-command H types w c (event.Reply k a b name why values) known ruled ordered allowed all = all
sites-command H types w c (event.Activate v how q) known ruled ordered allowed all = all
sites-command H types w c (event.Start k v q) known ruled ordered allowed all = all
sites-command H types w c (event.Process v q said) known ruled ordered allowed all = all
sites-command H types w c (event.Store v clock how q) known ruled ordered allowed all = all
sites-command H types w c event.Quiet known ruled ordered allowed all = all
sites-command H types w c event.Spent known ruled ordered allowed all = all
sites-command H types w c (event.Left names) known ruled ordered allowed all = all

sites-happened : (H : ℕ → Bool) (types : List Edentype) (w : World) (c : Option Command) (e : Event) → KnownWorld H w
    → RulingIn types w → EffectsFit types w → AreNumbered 1 w.traffic.calls
    → AllowsEvent w c e → AllSites w → AllSites (happened w c e)
sites-happened H types w None e known ruled fits ordered allowed all = sites-turn H types w e known ruled fits allowed all
sites-happened H types w (Some c) e known ruled fits ordered allowed all = sites-command H types w c e known ruled ordered allowed all

-- 4. Every history

sites-counted : (k : Option Key) (w : World) → AllSites w → AllSites (counted k w)
sites-counted None w all = all
sites-counted (Some k) w all = all

sites-clocked : (n c : ℕ) (w : World) → AllSites w → AllSites (clocked n c w)
sites-clocked n c w all = all-clocked (λ m it. SoundSite (site_of w m it)) (λ m d it h.
    record {
      numbered = h.numbered;
      fits = λ u at. let fit = h.fits u at in
          record {
            held = fit.held;
            once = fit.once;
            asks = fit.asks;
            single = fit.single;
            stores = fit.stores;
            alone = fit.alone;
            laid =
                fit.laid;
          };
    }) n c w all

-- the types of a world stay

pub types-at_node : (n : ℕ) (f : Site → Site) (w : World) → (at_node n f w).types ≡ w.types
unfolding at_node
types-at_node n f w = go (node_at w n)
  where
    go : (o : Option Node) → (with_item o (λ it. with_site (record (f (site_of w n it)) { number = n }) w) w).types ≡ w.types
    go None = refl
    go (Some it) = refl

pub types-tells_each : (qs : List (Uid × ℕ)) (w : World) → (tells_each qs w).types ≡ w.types
types-tells_each [] w = refl
types-tells_each (q ∷ qs) w = types-tells_each qs (at_node q.0.node (tells q.0 q.1 (Told status.Broken [])) w)
    ∙ types-at_node q.0.node (tells q.0 q.1 (Told status.Broken [])) w

pub types-stopped : (w : World) (n : ℕ) (e : Event) → (stopped_at w n e).types ≡ w.types
types-stopped w n e = types-tells_each (processes_of (broken_by_node n) w.traffic) (at_site w n e) ∙ types-at_node n _ w

pub types-turn : (w : World) (e : Event) → (after_turn w e).types ≡ w.types
types-turn w (event.Request k a b refused) = types-at_node b _ w
types-turn w (event.Reply k a b None why values) = types-at_node b _ w
types-turn w (event.Reply k a b (Some name) why values) = refl
types-turn w (event.Activate v start_end.Ok p) = types-at_node v.node _ w
types-turn w (event.Activate v start_end.Gone p) = types-at_node v.node _ w
types-turn w (event.Activate v start_end.Fault p) = types-at_node v.node _ w
types-turn w (event.Activate v start_end.Damaged p) = types-at_node v.node _ w
types-turn w (event.Activate v start_end.Stop p) = types-stopped w v.node (event.Activate v start_end.Stop p)
types-turn w (event.Start k v p) = types-at_node v.node _ w
types-turn w (event.Process v p said) = types-at_node v.node _ w
types-turn w (event.Store v clock end.Part p) = types-at_node v.node _ w
types-turn w (event.Store v clock end.Done p) = types-at_node v.node _ w
types-turn w (event.Store v clock end.Fault p) = types-at_node v.node _ w
types-turn w (event.Store v clock end.Full p) = types-at_node v.node _ w
types-turn w (event.Store v clock end.Stop p) = types-stopped w v.node (event.Store v clock end.Stop p)
types-turn w (event.Boot n e how q began) = refl
types-turn w (event.Crash n) = refl
types-turn w (event.Still n up) = refl
types-turn w (event.Link a b joined) = refl
types-turn w (event.Armed n what) = refl
types-turn w (event.Made name why v) = refl
types-turn w (event.Bound name kept) = refl
types-turn w (event.Void name) = refl
types-turn w (event.Asked k name at_once) = refl
types-turn w event.Quiet = refl
types-turn w event.Spent = refl
types-turn w (event.Left names) = refl

pub types-item : {X : Type 0} (w : World) (o : Option X) (f : X → World) → ((x : X) → (f x).types ≡ w.types) → (with_item o f w).types ≡ w.types
types-item w None f each = refl
types-item w (Some x) f each = each x

pub types-held : (c : Command) (w : World) → (held_by c w).types ≡ w.types
types-held (command.Hold name v) w = refl
types-held _ w = refl

pub types-restricted : (c : Command) (w : World) → (restricted_by c w).types ≡ w.types
types-restricted (command.Restrict name target mask) w = types-item w (cap_at w target) _ (λ c. refl)
types-restricted _ w = refl

pub types-asked : (c : Command) (k : ℕ) (at_once : Option Status) (w : World) → (asked_by c k at_once w).types ≡ w.types
types-asked (command.Call name target operation args) k at_once w =
    types-item w (ready_call w (command.Call name target operation args)) _ (λ c. refl)
types-asked _ k at_once w = refl

pub types-linked : (a b : ℕ) (joined : Bool) (w : World) → (linked a b joined w).types ≡ w.types
types-linked a b true w = refl
types-linked a b false w = types-tells_each (processes_of (broken_by_link a b) w.traffic)
    (record w { cuts = (a, b) ∷ w.cuts; traffic = without_link a b w.traffic })

pub types-born : (u : Uid) (t : Option Edentype) (w : World) → (born_as u t w).types ≡ w.types
types-born u None w = refl
types-born u (Some t) w = types-at_node u.node _ w

pub types-made : (name type_name : List ℕ) (u : Option Uid) (w : World) → (made name type_name u w).types ≡ w.types
types-made name type_name None w = refl
types-made name type_name (Some u) w = types-born u (type_of w.types type_name) w

pub types-command : (w : World) (c : Command) (e : Event) → (after_command w c e).types ≡ w.types
types-command w c (event.Boot n e how q began) = types-at_node n _ w
types-command w c (event.Crash n) = types-stopped w n (event.Crash n)
types-command w c (event.Link a b joined) = types-linked a b joined w
types-command w c (event.Made name why v) = types-made name (type_name_of c) v w
types-command w c (event.Bound name true) = types-held c w
types-command w c (event.Bound name false) = types-restricted c w
types-command w c (event.Asked k name at_once) = types-asked c k at_once w
types-command w c (event.Still n up) = refl
types-command w c (event.Armed n what) = refl
types-command w c (event.Void name) = refl
types-command w c (event.Request k a b refused) = refl
types-command w c (event.Reply k a b name why values) = refl
types-command w c (event.Activate v how q) = refl
types-command w c (event.Start k v q) = refl
types-command w c (event.Process v q said) = refl
types-command w c (event.Store v clock how q) = refl
types-command w c event.Quiet = refl
types-command w c event.Spent = refl
types-command w c (event.Left names) = refl

pub types-happened : (w : World) (c : Option Command) (e : Event) → (happened w c e).types ≡ w.types
types-happened w None e = types-turn w e
types-happened w (Some c) e = types-command w c e

pub types-counted : (k : Option Key) (n c : ℕ) (w : World) → (counted k (clocked n c w)).types ≡ w.types
types-counted None n c w = refl
types-counted (Some k) n c w = refl

pub types-next : (w : World) (c : Option Command) (e : Entry) → (next w c e).types ≡ w.types
types-next w c e = types-counted (key_of e.event) e.node e.clock (happened w c e.event) ∙ types-happened w c e.event

pub types-looked_up : (w : World) (name : List ℕ) (target : Option Cap) (path : List (List ℕ)) (e : Event)
    → (looked_up w name target path e).types ≡ w.types
types-looked_up w name (Some target) path (event.Asked k said at_once) = refl
types-looked_up w name target path _ = refl

-- its active parts fit, whatever calls come later
abbrev pub TasksIn : World → Type 0
TasksIn w = (later : Traffic) → CallsKept w.traffic later → Everywhere (λ n it. NodeFits w.types later it) w

kept-tasks : (w : World) (e : Event) (later : Traffic) → AreRuled w.types → CallsKept w.traffic later
    → IsKeptAt (λ n it. Fit (OfNode (CreatedIn []) n) it × NodeFits w.types later it) w e
kept-tasks w e later ruled kept = let fits = kept-fit (CreatedIn []) w e in record {
  turns = λ n it at place allowed x. (
    fits.turns n it at place allowed x.0,
    tasks-site_turn w.types later (reaches w n) e (site_of w n it) allowed
        (λ v f. new-by (on_eject v f (site_of w n it)) (fit-on_eject v f (site_of w n it) x.0)) ruled kept x.1,
  );
  crashes = λ n s is number x. (fits.crashes n s is number x.0, tasks-fallen w.types later s x.1);
  tellings = λ u p a s x. (fits.tellings u p a s x.0, tasks-told w.types later u p a s x.1);
  births = λ u t s is on known x. (
    fits.births u t s is on known x.0,
    tasks-born w.types later u t (first_values t) s (new-by s x.0 u is) (ruled known.0 t known.1)
        (values-first t) x.1,
  );
  clocks = λ n c it x. (fits.clocks n c it x.0, x.1);
}

pub record SiteWorld (H : ℕ → Bool) (w : World) : Type 0 where
  pub known : KnownWorld H w
  pub sites : AllSites w
  pub ruled : AreRuled w.types
  pub tasks : TasksIn w

pub all-sound : (H : ℕ → Bool) (w : World) → SiteWorld H w → AllSound w
all-sound H w h n it at = sound-site (site_of w n it) (h.known.sound.nodes n it at) (h.sites n it at)

-- so does each effect
pub effects-fit : (H : ℕ → Bool) (w : World) → SiteWorld H w → EffectsFit w.types w
effects-fit H w h n it at v p = effect-fits w.types w.traffic (site_of w n it) v p (h.tasks w.traffic (kept-itself w.traffic) n it at)

pub known-next : (H : ℕ → Bool) (w : World) (c : Option Command) (e : Entry) → Allows w c e → KnownWorld H w → KnownWorld H (next w c e)
known-next H w c e allowed h = record {
  sound = sound-next H w c e allowed h.sound;
  fit = all-next (λ n it. Fit (OfNode (CreatedIn []) n) it) w c e (kept-fit (CreatedIn []) w e.event) allowed h.fit;
  numbered = (keeps-next w c e (is-known H w h) allowed).numbered h.numbered;
}

pub site-next : (H : ℕ → Bool) (w : World) (c : Option Command) (e : Entry) → Allows w c e → SiteWorld H w → SiteWorld H (next w c e)
site-next H w c e allowed h = record {
  known = known-next H w c e allowed h.known;
  sites = sites-counted (key_of e.event) (clocked e.node e.clock (happened w c e.event))
      (sites-clocked e.node e.clock (happened w c e.event) (sites-happened H w.types w c e.event h.known h.ruled (effects-fit H w h)
      h.known.numbered allowed.event h.sites));
  ruled = subst AreRuled (sym (types-next w c e)) h.ruled;
  tasks = λ later kept n it is. subst (λ types. NodeFits types later it) (sym (types-next w c e)) (fit later kept n it is);
}
  where
    fit : (later : Traffic) → CallsKept (next w c e).traffic later → Everywhere (λ n it. NodeFits w.types later it) (next w c e)
    fit later kept n jt is =
        let before = kept-then w.traffic (next w c e).traffic later (keeps-next w c e (is-known H w h.known) allowed).kept kept in
        (all-next (λ n it. Fit (OfNode (CreatedIn []) n) it
        × NodeFits w.types later it) w c e (kept-tasks w e.event later h.ruled before) allowed
        (λ n it at. (h.known.fit n it at, h.tasks later before n it at)) n jt is).1

sites-looked_up : (w : World) (name : List ℕ) (target : Option Cap) (path : List (List ℕ)) (e : Event) → AllowsLookUp w name target path e
    → AllSites w → AllSites (looked_up w name target path e)
sites-looked_up w name (Some target) path (event.Asked k said at_once) allowed all =
    sites-shell w name target _ _ k at_once allowed.1.number all
sites-looked_up w name (Some target) path (event.Void said) allowed all = absurd allowed
sites-looked_up w name None path (event.Void said) allowed all = all
sites-looked_up w name target path _ allowed all = absurd allowed

pub known-looked_up : (H : ℕ → Bool) (w : World) (name : List ℕ) (target : Option Cap) (path : List (List ℕ)) (e : Event)
    → AllowsLookUp w name target path e → KnownWorld H w → KnownWorld H (looked_up w name target path e)
known-looked_up H w name target path e allowed h = record {
  sound = sound-looked_up H w name target path e allowed h.sound;
  fit = all-same_nodes (λ n it. Fit (OfNode (CreatedIn []) n) it) w (looked_up w name target path e) (nodes-looked_up w name target path e)
      h.fit;
  numbered = (keeps-looked_up w name target path e h.numbered allowed).numbered h.numbered;
}

pub site-looked_up : (H : ℕ → Bool) (w : World) (name : List ℕ) (target : Option Cap) (path : List (List ℕ)) (e : Event)
    → AllowsLookUp w name target path e → SiteWorld H w → SiteWorld H (looked_up w name target path e)
site-looked_up H w name target path e allowed h = record {
  known = known-looked_up H w name target path e allowed h.known;
  sites = sites-looked_up w name target path e allowed h.sites;
  ruled = subst AreRuled (sym (types-looked_up w name target path e)) h.ruled;
  tasks = λ later kept n it is. let at : node_at w n ≡ Some it =
      ap (λ ns. value_at nat_cmp n ns) (sym (nodes-looked_up w name target path e)) ∙ is in
      subst (λ types. NodeFits types later it) (sym (types-looked_up w name target path e))
      (h.tasks later (kept-then w.traffic (looked_up w name target path e).traffic later
      (keeps-looked_up w name target path e h.known.numbered allowed).kept kept) n it at);
}

-- a node at rest, before any call
resting : (w : World) (n : ℕ) (it : Node) → w.traffic.calls ≡ [] → Rests it → SoundSite (site_of w n it)
resting w n it none rest = record {
  numbered = subst (AreNumbered 1) (sym none) tt;
  fits =
      λ u at. one u (value_at uid_cmp u it.ejects) (λ e is. rest.idle u e is);
}
  where
    no-open : (u : Uid) (p k : ℕ) → IsOpenOf w.traffic u p k → ⊥
    no-open u p k is = subst (λ cs. IsSomeAnd (value_at nat_cmp k cs) (λ (c : Call). (c.open_ ≡ true) × (c.asker ≡ Asking u p))) none is

    idle-times : (k : ℕ) (o : Option Eject) → ((e : Eject) → o ≡ Some e → IsIdle e) → times_in k o ≡ 0
    idle-times k None idle = refl
    idle-times k (Some e) idle = rw ((idle e refl).no_active, (idle e refl).no_queued) refl

    idle-laid : (o : Option Eject) → ((e : Eject) → o ≡ Some e → IsIdle e) → active_in o ≡ None
    idle-laid None idle = refl
    idle-laid (Some e) idle = (idle e refl).no_active

    empty : (u : Uid) (p : ℕ) → at_store u p it.requests ≡ 0
    empty u p = ap (at_store u p) rest.no_request

    one : (u : Uid) (o : Option Eject) → ((e : Eject) → o ≡ Some e → IsIdle e) → Fits w.traffic it.requests u o
    one u o idle = record {
      held = λ k has. absurd (omega (arith, has, idle-times k o idle));
      once = λ k. omega (arith, idle-times k o idle);
      asks = λ p k is. absurd (no-open u p k is);
      single = λ p j k a b. absurd (no-open u p j a);
      stores = λ p some. absurd (omega (arith, some, empty u p));
      alone = λ p. omega (arith, empty u p);
      laid = rw (idle-laid o idle) tt;
    }

pub rests-opening : (layout : Layout) (images : List (ℕ × List ℕ)) (n : ℕ) (it : Node)
    → value_at nat_cmp n (map (λ d. (d.0, node_of layout d)) images) ≡ Some it → Rests it
rests-opening layout [] n it is = absurd (cc is)
rests-opening layout (d ∷ ds) n it is = go (eq_by_cmp nat_cmp n d.0) (rests-opening layout ds n it) is
  where
    go : (b : Bool) → (value_at nat_cmp n (map (λ d. (d.0, node_of layout d)) ds) ≡ Some it → Rests it)
        → cond b (Some (node_of layout d)) (value_at nat_cmp n (map (λ d. (d.0, node_of layout d)) ds)) ≡ Some it → Rests it
    go true later e = subst (λ o. IfSome o Rests) e (rest-node d.0 _ (found_in layout d.0 d.1) _ _ _)
    go false later e = later e

pub known-opening : (layout : Layout) (script : Script) (disks : List DiskRun) → IsLayout layout → AreHandedIn layout disks
    → KnownWorld (λ n. is_some (node_at (opening_world layout script disks) n)) (opening_world layout script disks)
known-opening layout script disks lays fits = record {
  sound = sound-opening-world layout script disks lays fits;
  fit = fit-opening layout (numbered disks) lays fits;
  numbered = tt;
}

pub site-opening : (layout : Layout) (script : Script) (disks : List DiskRun) → IsLayout layout → AreHandedIn layout disks
    → KeepRules script.types → HaveMonitors script.types
    → SiteWorld (λ n. is_some (node_at (opening_world layout script disks) n)) (opening_world layout script disks)
site-opening layout script disks lays fits rules monitors = record {
  known = known-opening layout script disks lays fits;
  sites = λ n it at. resting (opening_world layout script disks) n it refl (rests-opening layout (images (numbered disks)) n it at);
  ruled = types-ruled script.types rules monitors;
  tasks = λ later kept n it at u e is. rw ((rests-opening layout (images (numbered disks)) n it at).idle u e is).no_active tt;
}

-- 5. The laws

reached : (layout : Layout) (script : Script) (disks : List DiskRun) (history : List Entry) → IsLayout layout → AreHandedIn layout disks
    → KeepRules script.types → HaveMonitors script.types → Begins layout script disks history
    → SiteWorld (λ n. is_some (node_at (opening_world layout script disks) n))
    (last_world (opening_world layout script disks) script history)
reached layout script disks history lays fits rules monitors begins = end-keeps Any (SiteWorld here) (record {
  entries = λ past w c e any allowed i. (tt, site-next here w c e allowed i);
  look_ups = λ past w name target path e any allowed plain i. (tt, site-looked_up here w name target path e.event allowed i);
}) (beginning w script.nodes script.commands) [] history (of-any 1 script.nodes w script.commands)
    (subst (SiteWorld here) (sym (world-booting 1 script.nodes w script.commands))
    (site-opening layout script disks lays fits rules monitors))
    begins
  where
    w : World
    w = opening_world layout script disks

    here : ℕ → Bool
    here n = is_some (node_at w n)

-- what is known of each world that a history reaches
pub worlds-are-known : (layout : Layout) (script : Script) (disks : List DiskRun) (history : List Entry) → IsLayout layout
    → AreHandedIn layout disks
    → Begins layout script disks history
    → KnownWorld (λ n. is_some (node_at (opening_world layout script disks) n))
    (last_world (opening_world layout script disks) script history)
worlds-are-known layout script disks history lays fits begins = end-keeps Any (KnownWorld here) (record {
  entries = λ past w c e any allowed i. (tt, known-next here w c e allowed i);
  look_ups = λ past w name target path e any allowed plain i. (tt, known-looked_up here w name target path e.event allowed i);
}) (beginning w script.nodes script.commands) [] history (of-any 1 script.nodes w script.commands)
    (subst (KnownWorld here) (sym (world-booting 1 script.nodes w script.commands))
    (known-opening layout script disks lays fits)) begins
  where
    w : World
    w = opening_world layout script disks

    here : ℕ → Bool
    here n = is_some (node_at w n)

pub worlds-are-sound : (layout : Layout) (script : Script) (disks : List DiskRun) (history : List Entry) → IsLayout layout
    → AreHandedIn layout disks
    → Begins layout script disks history
    → SoundWorld (λ n. is_some (node_at (opening_world layout script disks) n))
    (last_world (opening_world layout script disks) script history)
worlds-are-sound layout script disks history lays fits begins = (worlds-are-known layout script disks history lays fits begins).sound

pub sites-are-sound : (layout : Layout) (script : Script) (disks : List DiskRun) (history : List Entry) → IsLayout layout
    → AreHandedIn layout disks → KeepRules script.types → HaveMonitors script.types
    → Begins layout script disks history → AllSound (last_world (opening_world layout script disks) script history)
sites-are-sound layout script disks history lays fits rules monitors begins =
    all-sound (λ n. is_some (node_at (opening_world layout script disks) n)) (last_world (opening_world layout script disks) script history)
    (reached layout script disks history lays fits rules monitors begins)

pub enabled-keys-have-turns : (layout : Layout) (script : Script) (disks : List DiskRun) (history : List Entry) → IsLayout layout
    → AreHandedIn layout disks → KeepRules script.types → HaveMonitors script.types → Begins layout script disks history
    → All (HasTurn (last_world (opening_world layout script disks) script history))
    (enabled (last_world (opening_world layout script disks) script history))
enabled-keys-have-turns layout script disks history lays fits rules monitors begins =
    let last = last_world (opening_world layout script disks) script history in
    let here = (λ (n : ℕ). is_some (node_at (opening_world layout script disks) n)) in
    let h = reached layout script disks history lays fits rules monitors begins in
    enabled-turns here last h.known.sound (effects-fit here last h)
