-- What happens in an entry leaves as they were the layout of a world, how long its disks are, and their last clocks. The entry then gives
-- its
-- own disk its clock.
use Rattle.std.proofs.Common.{◌≡◌, ℕ, Bool, true, false, cond, List, [], ◌∷◌, Option, None, Some, refl, ◌∙◌, ap}
use Rattle.std.specs.Option.{option_map}
use Rattle.std.specs.Ordering.{nat_cmp, eq_by_cmp}
use Rattle.capability.specs.declared.Uid.{Uid}
use Rattle.capability.specs.declared.Cap.{Cap}
use Rattle.eden_value.specs.declared.status.Status.{Status}
use Rattle.eden_value.specs.declared.status.Status.TheVariants as status
use Rattle.eden_model.specs.Map.{with_item}
use Rattle.eden_model.specs.Traffic.{processes_of, broken_by_node, broken_by_link, without_link}
use Rattle.epl_syntax.specs.declared.effect.Answer.TheVariants.{Reply as Told}
use Rattle.epl_syntax.specs.Edentype.{Edentype}
use Rattle.epl_syntax.specs.Meaning.{type_of, first_values}
use Rattle.journal.specs.declared.command.Command.{Command}
use Rattle.journal.specs.declared.command.Command.TheVariants as command
use Rattle.journal.specs.declared.event.StartEnd.TheVariants as start_end
use Rattle.journal.specs.declared.event.RequestEnd.TheVariants as request_end
use Rattle.journal.specs.declared.event.Event.{Event}
use Rattle.journal.specs.declared.event.Event.TheVariants as event
use Rattle.journal.specs.World.{World, Site, Node, node_at, site_of, at_node, with_site, reaches}
use Rattle.journal.specs.Ejects.{fresh, tells, born}
use Rattle.journal.specs.References.{cap_at}
use Rattle.journal.specs.Crashes.{tells_each, linked}
use Rattle.journal.specs.Sites.{with_changes_of, with_ejects}
use Rattle.journal.specs.Commands.{asked_by, ready_call, born_as, made, type_name_of, held_by, restricted_by}
use Rattle.journal.specs.Step.{after_turn, after_command, happened, at_site, stopped_at, site_turn, clock_before}
use Rattle.journal.specs.Run.{looked_up}
use Rattle.history_laws.proofs.Frame.{node-at_node, after_at}
use Rattle.history_laws.proofs.SiteFrames.{Leaves, leaves-tells, leaves-born, keeps-site}

-- how long the disk of node n is; 0 where there is none
abbrev pub size_at : World → ℕ → ℕ
size_at w n = with_item (node_at w n) (λ it. it.size) 0

-- the layout, the sizes and the clocks are as they were
pub record Unmoved (old new : World) : Type 0 where
  pub layout : new.layout ≡ old.layout
  pub sizes : (n : ℕ) → size_at new n ≡ size_at old n
  pub clocks : (n : ℕ) → clock_before new n ≡ clock_before old n

still : (w : World) → Unmoved w w
still w = record { layout = refl; sizes = λ n. refl; clocks = λ n. refl }

then : (u v w : World) → Unmoved u v → Unmoved v w → Unmoved u w
then u v w a b = record {
  layout = b.layout ∙ a.layout;
  sizes = λ n. b.sizes n ∙ a.sizes n;
  clocks = λ n. b.clocks n ∙ a.clocks n;
}

-- 1. A change at one node

layout-at_node : (n : ℕ) (f : Site → Site) (w : World) → (at_node n f w).layout ≡ w.layout
unfolding at_node
layout-at_node n f w = go (node_at w n)
  where
    go : (o : Option Node) → (with_item o (λ it. with_site (record (f (site_of w n it)) { number = n }) w) w).layout ≡ w.layout
    go None = refl
    go (Some it) = refl

-- the node is of the same size, with the same clock
abbrev Alike : Node → Node → Type 0
Alike old new = (new.size ≡ old.size) × (new.clock ≡ old.clock)

unmoved-at_node : (n : ℕ) (f : Site → Site) (w : World) → ((s : Site) → Alike s.node (f s).node) → Unmoved w (at_node n f w)
unmoved-at_node n f w keeps = record {
  layout = layout-at_node n f w;
  sizes = λ m. ap (λ o. with_item o (λ (it : Node). it.size) 0) (node-at_node m n f w) ∙ sized (eq_by_cmp nat_cmp m n) (node_at w m);
  clocks = λ m. ap (λ o. with_item o (λ (it : Node). it.clock) None) (node-at_node m n f w) ∙ timed (eq_by_cmp nat_cmp m n) (node_at w m);
}
  where
    sized : (b : Bool) (o : Option Node) → with_item (cond b (option_map (after_at n f w) o) o) (λ (it : Node). it.size) 0
        ≡ with_item o (λ (it : Node). it.size) 0
    sized false o = refl
    sized true None = refl
    sized true (Some it) = (keeps (site_of w n it)).0

    timed : (b : Bool) (o : Option Node) → with_item (cond b (option_map (after_at n f w) o) o) (λ (it : Node). it.clock) None
        ≡ with_item o (λ (it : Node). it.clock) None
    timed false o = refl
    timed true None = refl
    timed true (Some it) = (keeps (site_of w n it)).1

-- a change of Ejects alone
alike-ejects : (s new : Site) → Leaves with_ejects s new → Alike s.node new.node
alike-ejects s new left = (ap (λ (it : Node). it.size) left.node, ap (λ (it : Node). it.clock) left.node)

alike-changes : (e : Event) (a b : Node) → Alike a (with_changes_of e a b)
alike-changes (event.Request k x y refused) a b = (refl, refl)
alike-changes (event.Reply k x y name s values) a b = (refl, refl)
alike-changes (event.Activate u start_end.Stop p) a b = (refl, refl)
alike-changes (event.Activate u start_end.Ok p) a b = (refl, refl)
alike-changes (event.Activate u start_end.Gone p) a b = (refl, refl)
alike-changes (event.Activate u start_end.Fault p) a b = (refl, refl)
alike-changes (event.Activate u start_end.Damaged p) a b = (refl, refl)
alike-changes (event.Start k u p) a b = (refl, refl)
alike-changes (event.Process u p said) a b = (refl, refl)
alike-changes (event.Store u c request_end.Stop p) a b = (refl, refl)
alike-changes (event.Store u c request_end.Part p) a b = (refl, refl)
alike-changes (event.Store u c request_end.Done p) a b = (refl, refl)
alike-changes (event.Store u c request_end.Fault p) a b = (refl, refl)
alike-changes (event.Store u c request_end.Full p) a b = (refl, refl)
alike-changes (event.Boot n x how p began) a b = (refl, refl)
alike-changes (event.Crash n) a b = (refl, refl)
alike-changes _ a b = (refl, refl)

unmoved-site : (w : World) (n : ℕ) (e : Event) → Unmoved w (at_site w n e)
unmoved-site w n e = unmoved-at_node n (site_turn (reaches w n) e) w
    (λ s. let new : Node = (site_turn (reaches w n) e s).node in let left = (keeps-site (reaches w n) e s).node in
    (ap (λ (it : Node). it.size) left ∙ (alike-changes e s.node new).0, ap (λ (it : Node). it.clock) left ∙ (alike-changes e s.node new).1))

unmoved-tells_each : (qs : List (Uid × ℕ)) (w : World) → Unmoved w (tells_each qs w)
unmoved-tells_each [] w = still w
unmoved-tells_each (q ∷ qs) w =
    let told : Site → Site = tells q.0 q.1 (Told status.Broken []) in
    then w (at_node q.0.node told w) (tells_each qs (at_node q.0.node told w))
    (unmoved-at_node q.0.node told w (λ s. alike-ejects s (told s) (leaves-tells q.0 q.1 (Told status.Broken []) s)))
    (unmoved-tells_each qs (at_node q.0.node told w))

unmoved-stopped : (w : World) (n : ℕ) (e : Event) → Unmoved w (stopped_at w n e)
unmoved-stopped w n e = then w (at_site w n e) (stopped_at w n e) (unmoved-site w n e)
    (unmoved-tells_each (processes_of (broken_by_node n) w.traffic) (at_site w n e))

-- 2. Turns

unmoved-turn : (w : World) (e : Event) → Unmoved w (after_turn w e)
unmoved-turn w (event.Request k a b refused) = unmoved-site w b (event.Request k a b refused)
unmoved-turn w (event.Reply k a b None why values) = unmoved-site w b (event.Reply k a b None why values)
unmoved-turn w (event.Reply k a b (Some name) why values) = record { layout = refl; sizes = λ n. refl; clocks = λ n. refl }
unmoved-turn w (event.Activate v start_end.Ok p) = unmoved-site w v.node (event.Activate v start_end.Ok p)
unmoved-turn w (event.Activate v start_end.Gone p) = unmoved-site w v.node (event.Activate v start_end.Gone p)
unmoved-turn w (event.Activate v start_end.Fault p) = unmoved-site w v.node (event.Activate v start_end.Fault p)
unmoved-turn w (event.Activate v start_end.Damaged p) = unmoved-site w v.node (event.Activate v start_end.Damaged p)
unmoved-turn w (event.Activate v start_end.Stop p) = unmoved-stopped w v.node (event.Activate v start_end.Stop p)
unmoved-turn w (event.Start k v p) = unmoved-site w v.node (event.Start k v p)
unmoved-turn w (event.Process v p said) = unmoved-site w v.node (event.Process v p said)
unmoved-turn w (event.Store v clock request_end.Part p) = unmoved-site w v.node (event.Store v clock request_end.Part p)
unmoved-turn w (event.Store v clock request_end.Done p) = unmoved-site w v.node (event.Store v clock request_end.Done p)
unmoved-turn w (event.Store v clock request_end.Fault p) = unmoved-site w v.node (event.Store v clock request_end.Fault p)
unmoved-turn w (event.Store v clock request_end.Full p) = unmoved-site w v.node (event.Store v clock request_end.Full p)
unmoved-turn w (event.Store v clock request_end.Stop p) = unmoved-stopped w v.node (event.Store v clock request_end.Stop p)
unmoved-turn w (event.Boot n e how q began) = still w
unmoved-turn w (event.Crash n) = still w
unmoved-turn w (event.Still n up) = still w
unmoved-turn w (event.Link a b joined) = still w
unmoved-turn w (event.Armed n what) = still w
unmoved-turn w (event.Made name why v) = still w
unmoved-turn w (event.Bound name kept) = still w
unmoved-turn w (event.Void name) = still w
unmoved-turn w (event.Asked k name at_once) = still w
unmoved-turn w event.Quiet = still w
unmoved-turn w event.Spent = still w
unmoved-turn w (event.Left names) = still w

-- 3. Commands

unmoved-item : {X : Type 0} (w : World) (o : Option X) (f : X → World) → ((x : X) → Unmoved w (f x)) → Unmoved w (with_item o f w)
unmoved-item w None f each = still w
unmoved-item w (Some x) f each = each x

unmoved-held : (c : Command) (w : World) → Unmoved w (held_by c w)
unmoved-held (command.Hold name v) w = record { layout = refl; sizes = λ n. refl; clocks = λ n. refl }
unmoved-held _ w = still w

unmoved-restricted : (c : Command) (w : World) → Unmoved w (restricted_by c w)
unmoved-restricted (command.Restrict name target mask) w =
    unmoved-item w (cap_at w target) _ (λ (c : Cap). record { layout = refl; sizes = λ n. refl; clocks = λ n. refl })
unmoved-restricted _ w = still w

unmoved-asked : (c : Command) (k : ℕ) (at_once : Option Status) (w : World) → Unmoved w (asked_by c k at_once w)
unmoved-asked (command.Call name target operation args) k at_once w =
    unmoved-item w (ready_call w (command.Call name target operation args)) _ (λ c. record {
      layout = refl;
      sizes = λ n. refl;
      clocks = λ n. refl;
    })
unmoved-asked _ k at_once w = still w

unmoved-linked : (a b : ℕ) (joined : Bool) (w : World) → Unmoved w (linked a b joined w)
unmoved-linked a b true w = record { layout = refl; sizes = λ n. refl; clocks = λ n. refl }
unmoved-linked a b false w =
    let parted : World = record w { cuts = (a, b) ∷ w.cuts; traffic = without_link a b w.traffic } in
    then w parted (linked a b false w) (record { layout = refl; sizes = λ n. refl; clocks = λ n. refl })
    (unmoved-tells_each (processes_of (broken_by_link a b) w.traffic) parted)

unmoved-born : (u : Uid) (t : Option Edentype) (w : World) → Unmoved w (born_as u t w)
unmoved-born u None w = still w
unmoved-born u (Some t) w = unmoved-at_node u.node (born u (fresh t (first_values t))) w
    (λ s. let left = (leaves-born u (fresh t (first_values t)) s).node in
    (ap (λ (it : Node). it.size) left, ap (λ (it : Node). it.clock) left))

unmoved-made : (name type_name : List ℕ) (u : Option Uid) (w : World) → Unmoved w (made name type_name u w)
unmoved-made name type_name None w = record { layout = refl; sizes = λ n. refl; clocks = λ n. refl }
unmoved-made name type_name (Some u) w =
    let b = unmoved-born u (type_of w.types type_name) w in record { layout = b.layout; sizes = b.sizes; clocks = b.clocks }

unmoved-command : (w : World) (c : Command) (e : Event) → Unmoved w (after_command w c e)
unmoved-command w c (event.Boot n e how q began) = unmoved-site w n (event.Boot n e how q began)
unmoved-command w c (event.Crash n) = unmoved-stopped w n (event.Crash n)
unmoved-command w c (event.Link a b joined) = unmoved-linked a b joined w
unmoved-command w c (event.Made name why v) = unmoved-made name (type_name_of c) v w
unmoved-command w c (event.Bound name true) = unmoved-held c w
unmoved-command w c (event.Bound name false) = unmoved-restricted c w
unmoved-command w c (event.Asked k name at_once) = unmoved-asked c k at_once w
unmoved-command w c (event.Still n up) = still w
unmoved-command w c (event.Armed n what) = still w
unmoved-command w c (event.Void name) = record { layout = refl; sizes = λ n. refl; clocks = λ n. refl }
unmoved-command w c (event.Request k a b refused) = still w
unmoved-command w c (event.Reply k a b name why values) = still w
unmoved-command w c (event.Activate v how q) = still w
unmoved-command w c (event.Start k v q) = still w
unmoved-command w c (event.Process v q said) = still w
unmoved-command w c (event.Store v clock how q) = still w
unmoved-command w c event.Quiet = still w
unmoved-command w c event.Spent = still w
unmoved-command w c (event.Left names) = still w

-- 4. Whatever happens

pub unmoved-happened : (w : World) (c : Option Command) (e : Event) → Unmoved w (happened w c e)
unmoved-happened w None e = unmoved-turn w e
unmoved-happened w (Some c) e = unmoved-command w c e

pub unmoved-looked_up : (w : World) (name : List ℕ) (target : Option Cap) (path : List (List ℕ)) (e : Event)
    → Unmoved w (looked_up w name target path e)
unmoved-looked_up w name (Some target) path (event.Asked k said at_once) = record { layout = refl; sizes = λ n. refl; clocks = λ n. refl }
unmoved-looked_up w name target path _ = still w
