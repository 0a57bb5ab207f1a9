-- What no entry changes: the types of a world by any, and its turns and its last key by none but those of turns.
use Rattle.std.proofs.Common.{◌≡◌, ℕ, Bool, true, false, List, [], ◌∷◌, Option, None, Some, refl, ◌∙◌, ap}
use Rattle.std.specs.Prelude.{is_some}
use Rattle.capability.specs.declared.Uid.{Uid}
use Rattle.capability.specs.declared.Cap.{Cap}
use Rattle.capability.specs.declared.Rights.{Rights}
use Rattle.capability.specs.Capability.{restricted}
use Rattle.eden_value.specs.Datum.{Datum}
use Rattle.eden_value.specs.declared.status.Status.{Status}
use Rattle.eden_value.specs.declared.status.Status.TheVariants as status
use Rattle.eden_model.specs.Map.{with_item}
use Rattle.eden_model.specs.Traffic.{processes_of, broken_by_node, broken_by_link, without_link}
use Rattle.epl_syntax.specs.declared.effect.Answer.TheVariants.{Reply as Told}
use Rattle.epl_syntax.specs.Edentype.{Edentype}
use Rattle.epl_syntax.specs.Meaning.{type_of, first_values}
use Rattle.journal.specs.declared.command.Command.{Command}
use Rattle.journal.specs.declared.command.Command.TheVariants as command
use Rattle.journal.specs.declared.event.Event.{Event}
use Rattle.journal.specs.declared.event.Event.TheVariants as event
use Rattle.journal.specs.declared.event.Entry.{Entry}
use Rattle.journal.specs.declared.event.Key.{Key}
use Rattle.journal.specs.declared.event.StartEnd.TheVariants as start_end
use Rattle.journal.specs.declared.event.RequestEnd.TheVariants as request_end
use Rattle.journal.specs.World.{World, Node, Site, node_at, site_of, at_node, with_site, reaches, capability}
use Rattle.journal.specs.Ejects.{tells, born, fresh}
use Rattle.journal.specs.Crashes.{tells_each, linked}
use Rattle.journal.specs.References.{with_name, cap_at}
use Rattle.journal.specs.Commands.{born_as, made, asked, ready_call, asked_by, restricted_by, held_by, bound, type_name_of, AllowsCommand}
use Rattle.journal.specs.Step.{Allows, next, key_of, counted, clocked, happened, after_turn, after_command, stopped_at, site_turn}
use Rattle.journal.specs.Run.{looked_up}
use Rattle.history_laws.proofs.Runs.{no-turn}
use Rattle.runs.specs.Machines.{is_idle}

-- 1. Events

abbrev pub counts : World → ℕ × Option Key × List Edentype
counts w = (w.turns, w.last, w.types)

counts-at_node : (n : ℕ) (f : Site → Site) (w : World) → counts (at_node n f w) ≡ counts w
unfolding at_node
counts-at_node n f w = go (node_at w n)
  where
    go : (o : Option Node) → counts (with_item o (λ it. with_site (record (f (site_of w n it)) { number = n }) w) w) ≡ counts w
    go None = refl
    go (Some it) = refl

counts-tells : (qs : List (Uid × ℕ)) (w : World) → counts (tells_each qs w) ≡ counts w
counts-tells [] w = refl
counts-tells (q ∷ qs) w = counts-tells qs (at_node q.0.node (tells q.0 q.1 (Told status.Broken [])) w)
    ∙ counts-at_node q.0.node (tells q.0 q.1 (Told status.Broken [])) w

counts-stopped : (w : World) (n : ℕ) (e : Event) → counts (stopped_at w n e) ≡ counts w
counts-stopped w n e = counts-tells (processes_of (broken_by_node n) w.traffic) (at_node n (site_turn (reaches w n) e) w)
    ∙ counts-at_node n (site_turn (reaches w n) e) w

counts-turn : (w : World) (e : Event) → counts (after_turn w e) ≡ counts w
counts-turn w (event.Request k a b refused) = counts-at_node b _ w
counts-turn w (event.Reply k a b None why values) = counts-at_node b _ w
counts-turn w (event.Reply k a b (Some name) why values) = refl
counts-turn w (event.Activate u start_end.Stop p) = counts-stopped w u.node (event.Activate u start_end.Stop p)
counts-turn w (event.Activate u start_end.Ok p) = counts-at_node u.node _ w
counts-turn w (event.Activate u start_end.Gone p) = counts-at_node u.node _ w
counts-turn w (event.Activate u start_end.Fault p) = counts-at_node u.node _ w
counts-turn w (event.Activate u start_end.Damaged p) = counts-at_node u.node _ w
counts-turn w (event.Start k u p) = counts-at_node u.node _ w
counts-turn w (event.Process u p said) = counts-at_node u.node _ w
counts-turn w (event.Store u clock request_end.Stop p) = counts-stopped w u.node (event.Store u clock request_end.Stop p)
counts-turn w (event.Store u clock request_end.Part p) = counts-at_node u.node _ w
counts-turn w (event.Store u clock request_end.Done p) = counts-at_node u.node _ w
counts-turn w (event.Store u clock request_end.Fault p) = counts-at_node u.node _ w
counts-turn w (event.Store u clock request_end.Full p) = counts-at_node u.node _ w
counts-turn w (event.Boot n e how p began) = refl
counts-turn w (event.Crash n) = refl
counts-turn w (event.Still n up) = refl
counts-turn w (event.Link a b joined) = refl
counts-turn w (event.Armed n what) = refl
counts-turn w (event.Made name why u) = refl
counts-turn w (event.Bound name is_held) = refl
counts-turn w (event.Void name) = refl
counts-turn w (event.Asked k name at_once) = refl
counts-turn w event.Quiet = refl
counts-turn w event.Spent = refl
counts-turn w (event.Left names) = refl

pub turns-kept : (w : World) (e : Entry) → counts (clocked e.node e.clock (happened w None e.event)) ≡ counts w
turns-kept w e = counts-turn w e.event

counts-linked : (a b : ℕ) (joined : Bool) (w : World) → counts (linked a b joined w) ≡ counts w
counts-linked a b true w = refl
counts-linked a b false w = counts-tells (processes_of (broken_by_link a b) w.traffic)
    (record w { cuts = (a, b) ∷ w.cuts; traffic = without_link a b w.traffic })

counts-born : (u : Uid) (o : Option Edentype) (w : World) → counts (born_as u o w) ≡ counts w
counts-born u None w = refl
counts-born u (Some t) w = counts-at_node u.node (born u (fresh t (first_values t))) w

counts-made : (name type_name : List ℕ) (u : Option Uid) (w : World) → counts (made name type_name u w) ≡ counts w
counts-made name type_name None w = refl
counts-made name type_name (Some u) w = counts-born u (type_of w.types type_name) w

counts-bound : (c : Command) (is_held : Bool) (w : World) → counts (bound c is_held w) ≡ counts w
counts-bound c true w = go c
  where
    go : (c : Command) → counts (held_by c w) ≡ counts w
    go (command.Hold name u) = refl
    go _ = refl
counts-bound c false w = go c
  where
    of : (name : List ℕ) (mask : Rights) (o : Option Cap) → counts (with_item o (λ c. with_name name (capability (restricted c mask)) w)
        w) ≡ counts w
    of name mask None = refl
    of name mask (Some c) = refl

    go : (c : Command) → counts (restricted_by c w) ≡ counts w
    go (command.Restrict name target mask) = of name mask (cap_at w target)
    go _ = refl

counts-asked : (c : Command) (k : ℕ) (at_once : Option Status) (w : World) → counts (asked_by c k at_once w) ≡ counts w
counts-asked c k at_once w = go c
  where
    of : (name operation : List ℕ) (o : Option (Cap × List Datum))
        → counts (with_item o (λ c. asked name c.0 operation c.1 k at_once w) w) ≡ counts w
    of name operation None = refl
    of name operation (Some c) = refl

    go : (c : Command) → counts (asked_by c k at_once w) ≡ counts w
    go (command.Call name target operation args) = of name operation (ready_call w (command.Call name target operation args))
    go _ = refl

counts-command : (w : World) (c : Command) (e : Event) → counts (after_command w c e) ≡ counts w
counts-command w c (event.Boot n e how p began) = counts-at_node n (site_turn (reaches w n) (event.Boot n e how p began)) w
counts-command w c (event.Crash n) = counts-stopped w n (event.Crash n)
counts-command w c (event.Link a b joined) = counts-linked a b joined w
counts-command w c (event.Made name why u) = counts-made name (type_name_of c) u w
counts-command w c (event.Bound name is_held) = counts-bound c is_held w
counts-command w c (event.Asked k name at_once) = counts-asked c k at_once w
counts-command w c (event.Request k a b refused) = refl
counts-command w c (event.Reply k a b name why values) = refl
counts-command w c (event.Activate u how p) = refl
counts-command w c (event.Start k u p) = refl
counts-command w c (event.Process u p said) = refl
counts-command w c (event.Store u clock how p) = refl
counts-command w c (event.Still n up) = refl
counts-command w c (event.Armed n what) = refl
counts-command w c (event.Void name) = refl
counts-command w c event.Quiet = refl
counts-command w c event.Spent = refl
counts-command w c (event.Left names) = refl

-- 2. Entries

-- an entry of a command has no key
pub keyless : (w : World) (c : Command) (e : Event) → AllowsCommand w c e → key_of e ≡ None
keyless w c e allowed = go (key_of e) refl
  where
    go : (o : Option Key) → key_of e ≡ o → o ≡ None
    go None is = refl
    go (Some k) is = absurd (no-turn w c e (ap is_some is) allowed)

pub command-kept : (w : World) (c : Command) (e : Entry) → Allows w (Some c) e → counts (next w (Some c) e) ≡ counts w
command-kept w c e allowed = ap (λ o. counts (counted o (clocked e.node e.clock (after_command w c e.event))))
    (keyless w c e.event allowed.event)
    ∙ counts-command w c e.event

pub look-up-kept : (w : World) (name : List ℕ) (target : Option Cap) (path : List (List ℕ)) (e : Event)
    → counts (looked_up w name target path e) ≡ counts w
look-up-kept w name (Some target) path (event.Asked k said at_once) = refl
look-up-kept w name target path _ = refl

types-counted : (o : Option Key) (w : World) → (counted o w).types ≡ w.types
types-counted None w = refl
types-counted (Some k) w = refl

pub types-next : (w : World) (c : Option Command) (e : Entry) → (next w c e).types ≡ w.types
types-next w None e = types-counted (key_of e.event) (clocked e.node e.clock (after_turn w e.event))
    ∙ ap (λ (x : ℕ × Option Key × List Edentype). x.2) (counts-turn w e.event)
types-next w (Some c) e = types-counted (key_of e.event) (clocked e.node e.clock (after_command w c e.event))
    ∙ ap (λ (x : ℕ × Option Key × List Edentype). x.2) (counts-command w c e.event)

-- 3. Entries of turns that take no key

pub busy-key : (e : Event) (k : Key) → key_of e ≡ Some k → is_idle e ≡ false
busy-key event.Quiet k is = cc
busy-key event.Spent k is = cc
busy-key _ k is = refl

pub busy-command : (w : World) (c : Command) (e : Event) → AllowsCommand w c e → is_idle e ≡ false
busy-command w c event.Quiet allowed = absurd (quiet c allowed)
  where
    quiet : (c : Command) → AllowsCommand w c event.Quiet → ⊥
    quiet (command.Create name n type_name) a = a
    quiet (command.Hold name uid) a = a
    quiet (command.Call name target operation args) a = a
    quiet (command.Restrict name target mask) a = a
    quiet (command.Walk name target path) a = a
    quiet (command.Turn i) a = a
    quiet (command.Go n) a = a
    quiet (command.Crash n mode) a = a
    quiet (command.Restart n) a = a
    quiet (command.Cut a b) x = x
    quiet (command.Join a b) x = x
    quiet (command.Fail n after) a = a
    quiet (command.Stop n after mode) a = a
    quiet command.End a = a
busy-command w c event.Spent allowed = absurd (spent c allowed)
  where
    spent : (c : Command) → AllowsCommand w c event.Spent → ⊥
    spent (command.Create name n type_name) a = a
    spent (command.Hold name uid) a = a
    spent (command.Call name target operation args) a = a
    spent (command.Restrict name target mask) a = a
    spent (command.Walk name target path) a = a
    spent (command.Turn i) a = a
    spent (command.Go n) a = a
    spent (command.Crash n mode) a = a
    spent (command.Restart n) a = a
    spent (command.Cut a b) x = x
    spent (command.Join a b) x = x
    spent (command.Fail n after) a = a
    spent (command.Stop n after mode) a = a
    spent command.End a = a
busy-command w c _ allowed = refl
