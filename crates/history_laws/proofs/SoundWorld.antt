-- What holds of every world of a history, so that each enabled key has its turn.
use Rattle.std.proofs.Common.{◌≡◌, ◌==◌, ℕ, Bool, true, false, cond, not, ◌&&◌, ◌||◌, List, [], ◌∷◌, Option, None, Some, is_some}
use Rattle.std.proofs.Common.{refl, sym, ◌∙◌, ap, subst}
use Rattle.std.specs.Prelude.{IsSomeAnd}
use Rattle.std.specs.Ordering.{nat_cmp, eq_by_cmp}
use Rattle.std.specs.Cmp.{nat_cmp_total}
use Rattle.std.specs.FinMap.{nat_cmp-IsAntisymmetric}
use Rattle.std.specs.FinMap.Entries.{is_sorted-put, find-put}
use Rattle.capability.specs.declared.Uid.{Uid}
use Rattle.capability.specs.declared.Cap.{Cap}
use Rattle.eden_value.specs.Datum.{Datum}
use Rattle.eden_value.specs.declared.status.Status.{Status}
use Rattle.eden_value.specs.declared.status.Status.TheVariants as status
use Rattle.eden_model.specs.Map.{with_item, value_at, put_at, changed_at}
use Rattle.eden_model.proofs.Laws.{eq-same}
use Rattle.eden_model.specs.declared.Asker.TheVariants.{Shell}
use Rattle.eden_model.specs.Traffic.{processes_of, broken_by_node, broken_by_link, without_link}
use Rattle.epl_syntax.specs.declared.effect.Answer.TheVariants.{Reply as Told}
use Rattle.epl_syntax.specs.Edentype.{Edentype}
use Rattle.epl_syntax.specs.Meaning.{type_of, first_values}
use Rattle.journal.specs.declared.command.Command.{Command}
use Rattle.journal.specs.declared.command.Command.TheVariants as command
use Rattle.journal.specs.declared.event.Key.{Key}
use Rattle.journal.specs.declared.event.Event.{Event}
use Rattle.journal.specs.declared.event.Event.TheVariants as event
use Rattle.journal.specs.declared.event.StartEnd.TheVariants as start_end
use Rattle.journal.specs.declared.event.RequestEnd.TheVariants as end
use Rattle.journal.specs.declared.event.Entry.{Entry}
use Rattle.journal.specs.World.{World, Site, Node, node_at, at_node, site_of, is_cut, reaches}
use Rattle.journal.specs.Ejects.{fresh, tells, born}
use Rattle.journal.specs.Crashes.{tells_each, linked}
use Rattle.journal.specs.References.{cap_at}
use Rattle.journal.specs.Commands.{AllowsAsked, AllowsCommand, asked, born_as, made, held_by, restricted_by, asked_by, ready_call}
use Rattle.journal.specs.Commands.{type_name_of}
use Rattle.journal.specs.Step.{AllowsEvent, Allows, next, after_turn, after_command, happened, at_site, stopped_at, site_turn, counted}
use Rattle.journal.specs.Step.{clocked, key_of}
use Rattle.journal.specs.Run.{AllowsLookUp, looked_up, lookup_args}
use Rattle.journal.specs.Sites.{Sound, AskedAll, InPlace, SoundWorld}
use Rattle.history_laws.proofs.NoneRolledBack.{with_clock}
use Rattle.history_laws.proofs.Runs.{nodes-looked_up}
use Rattle.history_laws.proofs.EveryNode.{all-next, all-same_nodes}
use Rattle.history_laws.proofs.Sound.{kept-sound}
use Rattle.history_laws.proofs.Messages.{asked-received, asked-with_call, asked-without_link, none-refused, asks-tells, asks-born}
use Rattle.history_laws.proofs.Messages.{asks-site_turn}

-- 1. The nodes stay in their places

place-put : {H : ℕ → Bool} (n : ℕ) (it new : Node) (ns : List (ℕ × Node)) → value_at nat_cmp n ns ≡ Some it → InPlace H ns
    → InPlace H (put_at nat_cmp n new ns)
place-put {H = H} n it new ns is p = record {
  ordered = is_sorted-put nat_cmp nat_cmp_total n new ns p.ordered;
  present = λ m. ap is_some (find-put nat_cmp nat_cmp_total m n new ns) ∙ go m (eq_by_cmp nat_cmp m n) refl;
}
  where
    go : (m : ℕ) (b : Bool) → eq_by_cmp nat_cmp m n ≡ b → is_some (cond b (Some new) (value_at nat_cmp m ns)) ≡ H m
    go m false b = p.present m
    go m true b = let e : m ≡ n = eq-same nat_cmp nat_cmp-IsAntisymmetric m n b in
        sym (ap is_some (ap (λ k. value_at nat_cmp k ns) e ∙ is)) ∙ p.present m

place-at_node : {H : ℕ → Bool} (n : ℕ) (f : Site → Site) (w : World) → InPlace H w.nodes → InPlace H (at_node n f w).nodes
unfolding at_node
place-at_node {H = H} n f w p = go (node_at w n) refl
  where
    go : (o : Option Node) → node_at w n ≡ o → InPlace H (at_node n f w).nodes
    go None is = rw is p
    go (Some it) is = rw is (place-put n it (f (site_of w n it)).node w.nodes is p)

place-tells_each : {H : ℕ → Bool} (qs : List (Uid × ℕ)) (w : World) → InPlace H w.nodes → InPlace H (tells_each qs w).nodes
place-tells_each [] w p = p
place-tells_each (q ∷ qs) w p = place-tells_each qs (at_node q.0.node (tells q.0 q.1 (Told status.Broken [])) w)
    (place-at_node q.0.node (tells q.0 q.1 (Told status.Broken [])) w p)

place-stopped : {H : ℕ → Bool} (w : World) (n : ℕ) (e : Event) → InPlace H w.nodes → InPlace H (stopped_at w n e).nodes
place-stopped w n e p = place-tells_each (processes_of (broken_by_node n) w.traffic) (at_site w n e)
    (place-at_node n (site_turn (reaches w n) e) w p)

place-site : {H : ℕ → Bool} (w : World) (n : ℕ) (e : Event) → InPlace H w.nodes → InPlace H (at_site w n e).nodes
place-site w n e p = place-at_node n (site_turn (reaches w n) e) w p

place-turn : {H : ℕ → Bool} (w : World) (e : Event) → InPlace H w.nodes → InPlace H (after_turn w e).nodes
place-turn w (event.Request k a b refused) p = place-site w b (event.Request k a b refused) p
place-turn w (event.Reply k a b None why values) p = place-site w b (event.Reply k a b None why values) p
place-turn w (event.Reply k a b (Some name) why values) p = p
place-turn w (event.Activate v start_end.Ok q) p = place-site w v.node (event.Activate v start_end.Ok q) p
place-turn w (event.Activate v start_end.Gone q) p = place-site w v.node (event.Activate v start_end.Gone q) p
place-turn w (event.Activate v start_end.Fault q) p = place-site w v.node (event.Activate v start_end.Fault q) p
place-turn w (event.Activate v start_end.Damaged q) p = place-site w v.node (event.Activate v start_end.Damaged q) p
place-turn w (event.Activate v start_end.Stop q) p = place-stopped w v.node (event.Activate v start_end.Stop q) p
place-turn w (event.Start k v q) p = place-site w v.node (event.Start k v q) p
place-turn w (event.Process v q said) p = place-site w v.node (event.Process v q said) p
place-turn w (event.Store v clock end.Part q) p = place-site w v.node (event.Store v clock end.Part q) p
place-turn w (event.Store v clock end.Done q) p = place-site w v.node (event.Store v clock end.Done q) p
place-turn w (event.Store v clock end.Fault q) p = place-site w v.node (event.Store v clock end.Fault q) p
place-turn w (event.Store v clock end.Full q) p = place-site w v.node (event.Store v clock end.Full q) p
place-turn w (event.Store v clock end.Stop q) p = place-stopped w v.node (event.Store v clock end.Stop q) p
place-turn w (event.Boot n e how q began) p = p
place-turn w (event.Crash n) p = p
place-turn w (event.Still n up) p = p
place-turn w (event.Link a b joined) p = p
place-turn w (event.Armed n what) p = p
place-turn w (event.Made name why v) p = p
place-turn w (event.Bound name kept) p = p
place-turn w (event.Void name) p = p
place-turn w (event.Asked k name at_once) p = p
place-turn w event.Quiet p = p
place-turn w event.Spent p = p
place-turn w (event.Left names) p = p

place-item : {H : ℕ → Bool} {X : Type 0} (w : World) (o : Option X) (f : X → World) → ((x : X) → InPlace H (f x).nodes)
    → InPlace H w.nodes → InPlace H (with_item o f w).nodes
place-item w None f each p = p
place-item w (Some x) f each p = each x

place-held : {H : ℕ → Bool} (c : Command) (w : World) → InPlace H w.nodes → InPlace H (held_by c w).nodes
place-held (command.Hold name v) w p = p
place-held _ w p = p

place-restricted : {H : ℕ → Bool} (c : Command) (w : World) → InPlace H w.nodes → InPlace H (restricted_by c w).nodes
place-restricted (command.Restrict name target mask) w p = place-item w (cap_at w target) _ (λ c. p) p
place-restricted _ w p = p

place-asked : {H : ℕ → Bool} (c : Command) (k : ℕ) (at_once : Option Status) (w : World) → InPlace H w.nodes
    → InPlace H (asked_by c k at_once w).nodes
place-asked (command.Call name target operation args) k at_once w p = place-item w
    (ready_call w (command.Call name target operation args)) _ (λ c. p) p
place-asked _ k at_once w p = p

place-linked : {H : ℕ → Bool} (a b : ℕ) (joined : Bool) (w : World) → InPlace H w.nodes → InPlace H (linked a b joined w).nodes
place-linked a b true w p = p
place-linked a b false w p = place-tells_each (processes_of (broken_by_link a b) w.traffic)
    (record w { cuts = (a, b) ∷ w.cuts; traffic = without_link a b w.traffic }) p

place-born_as : {H : ℕ → Bool} (u : Uid) (t : Option Edentype) (w : World) → InPlace H w.nodes → InPlace H (born_as u t w).nodes
place-born_as u None w p = p
place-born_as u (Some t) w p = place-at_node u.node (born u (fresh t (first_values t))) w p

place-made : {H : ℕ → Bool} (name type_name : List ℕ) (u : Option Uid) (w : World) → InPlace H w.nodes
    → InPlace H (made name type_name u w).nodes
place-made name type_name None w p = p
place-made name type_name (Some u) w p = place-born_as u (type_of w.types type_name) w p

place-command : {H : ℕ → Bool} (w : World) (c : Command) (e : Event) → InPlace H w.nodes → InPlace H (after_command w c e).nodes
place-command w c (event.Boot n e how q began) p = place-site w n (event.Boot n e how q began) p
place-command w c (event.Crash n) p = place-stopped w n (event.Crash n) p
place-command w c (event.Link a b joined) p = place-linked a b joined w p
place-command w c (event.Made name why v) p = place-made name (type_name_of c) v w p
place-command w c (event.Bound name true) p = place-held c w p
place-command w c (event.Bound name false) p = place-restricted c w p
place-command w c (event.Asked k name at_once) p = place-asked c k at_once w p
place-command w c (event.Still n up) p = p
place-command w c (event.Armed n what) p = p
place-command w c (event.Void name) p = p
place-command w c (event.Request k a b refused) p = p
place-command w c (event.Reply k a b name why values) p = p
place-command w c (event.Activate v how q) p = p
place-command w c (event.Start k v q) p = p
place-command w c (event.Process v q said) p = p
place-command w c (event.Store v clock how q) p = p
place-command w c event.Quiet p = p
place-command w c event.Spent p = p
place-command w c (event.Left names) p = p

place-happened : {H : ℕ → Bool} (w : World) (c : Option Command) (e : Event) → InPlace H w.nodes → InPlace H (happened w c e).nodes
place-happened w None e p = place-turn w e p
place-happened w (Some c) e p = place-command w c e p

place-clocked : {H : ℕ → Bool} (n c : ℕ) (w : World) → InPlace H w.nodes → InPlace H (clocked n c w).nodes
place-clocked {H = H} n c w p = go (n == 0)
  where
    one : (o : Option Node) → node_at w n ≡ o → InPlace H (with_item o (λ it. put_at nat_cmp n (with_clock c it) w.nodes) w.nodes)
    one None is = p
    one (Some it) is = place-put n it (with_clock c it) w.nodes is p

    go : (b : Bool) → InPlace H (cond b w.nodes (changed_at nat_cmp n (with_clock c) w.nodes))
    go true = p
    go false = one (node_at w n) refl

place-counted : {H : ℕ → Bool} (k : Option Key) (w : World) → InPlace H w.nodes → InPlace H (counted k w).nodes
place-counted None w p = p
place-counted (Some k) w p = p

place-next : {H : ℕ → Bool} (w : World) (c : Option Command) (e : Entry) → InPlace H w.nodes → InPlace H (next w c e).nodes
place-next w c e p = place-counted (key_of e.event) (clocked e.node e.clock (happened w c e.event))
    (place-clocked e.node e.clock (happened w c e.event) (place-happened w c e.event p))

-- 2. Messages go to nodes that are there

-- a node that is reached is there
pub reached-present : (H : ℕ → Bool) (w : World) → InPlace H w.nodes → (a n : ℕ) → reaches w a n ≡ true → H n ≡ true
reached-present H w p a n is = go (node_at w n) refl is
  where
    go : (o : Option Node) → node_at w n ≡ o → (with_item o (λ it. it.up) false && ((a == n) || not (is_cut w a n))) ≡ true → H n ≡ true
    go None at e = absurd (cc e)
    go (Some it) at e = sym (p.present n) ∙ ap is_some at

ask-at_node : {Q : ℕ → Type 0} (w : World) (n : ℕ) (f : Site → Site) → ((it : Node) → AskedAll Q (f (site_of w n it)).traffic)
    → AskedAll Q w.traffic → AskedAll Q (at_node n f w).traffic
unfolding at_node
ask-at_node {Q = Q} w n f each all = go (node_at w n) refl
  where
    go : (o : Option Node) → node_at w n ≡ o → AskedAll Q (at_node n f w).traffic
    go None is = rw is all
    go (Some it) is = rw is (each it)

pub ask-tells_each : {Q : ℕ → Type 0} (qs : List (Uid × ℕ)) (w : World) → AskedAll Q w.traffic → AskedAll Q (tells_each qs w).traffic
ask-tells_each [] w all = all
ask-tells_each (q ∷ qs) w all = ask-tells_each qs (at_node q.0.node (tells q.0 q.1 (Told status.Broken [])) w)
    (ask-at_node w q.0.node (tells q.0 q.1 (Told status.Broken []))
    (λ it. asks-tells q.0 q.1 (Told status.Broken []) (site_of w q.0.node it) all) all)

-- every node that is reached is one of which Q holds
abbrev pub Known : (ℕ → Type 0) → World → Type 0
Known Q w = (a n : ℕ) → reaches w a n ≡ true → Q n

ask-site : {Q : ℕ → Type 0} (w : World) → Known Q w → (n : ℕ) (e : Event) → AskedAll Q w.traffic → AskedAll Q (at_site w n e).traffic
ask-site w known n e all = ask-at_node w n (site_turn (reaches w n) e)
    (λ it. asks-site_turn (reaches w n) (known n) e (site_of w n it) all) all

ask-stopped : {Q : ℕ → Type 0} (w : World) → Known Q w → (n : ℕ) (e : Event) → AskedAll Q w.traffic → AskedAll Q (stopped_at w n e).traffic
ask-stopped w known n e all = ask-tells_each (processes_of (broken_by_node n) w.traffic) (at_site w n e) (ask-site w known n e all)

ask-turn : {Q : ℕ → Type 0} (w : World) → Known Q w → (e : Event) → AskedAll Q w.traffic → AskedAll Q (after_turn w e).traffic
ask-turn w known (event.Request k a b refused) all = ask-site w known b (event.Request k a b refused) all
ask-turn w known (event.Reply k a b None why values) all = ask-site w known b (event.Reply k a b None why values) all
ask-turn w known (event.Reply k a b (Some name) why values) all = asked-received k w.traffic all
ask-turn w known (event.Activate v start_end.Ok q) all = ask-site w known v.node (event.Activate v start_end.Ok q) all
ask-turn w known (event.Activate v start_end.Gone q) all = ask-site w known v.node (event.Activate v start_end.Gone q) all
ask-turn w known (event.Activate v start_end.Fault q) all = ask-site w known v.node (event.Activate v start_end.Fault q) all
ask-turn w known (event.Activate v start_end.Damaged q) all = ask-site w known v.node (event.Activate v start_end.Damaged q) all
ask-turn w known (event.Activate v start_end.Stop q) all = ask-stopped w known v.node (event.Activate v start_end.Stop q) all
ask-turn w known (event.Start k v q) all = ask-site w known v.node (event.Start k v q) all
ask-turn w known (event.Process v q said) all = ask-site w known v.node (event.Process v q said) all
ask-turn w known (event.Store v clock end.Part q) all = ask-site w known v.node (event.Store v clock end.Part q) all
ask-turn w known (event.Store v clock end.Done q) all = ask-site w known v.node (event.Store v clock end.Done q) all
ask-turn w known (event.Store v clock end.Fault q) all = ask-site w known v.node (event.Store v clock end.Fault q) all
ask-turn w known (event.Store v clock end.Full q) all = ask-site w known v.node (event.Store v clock end.Full q) all
ask-turn w known (event.Store v clock end.Stop q) all = ask-stopped w known v.node (event.Store v clock end.Stop q) all
ask-turn w known (event.Boot n e how q began) all = all
ask-turn w known (event.Crash n) all = all
ask-turn w known (event.Still n up) all = all
ask-turn w known (event.Link a b joined) all = all
ask-turn w known (event.Armed n what) all = all
ask-turn w known (event.Made name why v) all = all
ask-turn w known (event.Bound name kept) all = all
ask-turn w known (event.Void name) all = all
ask-turn w known (event.Asked k name at_once) all = all
ask-turn w known event.Quiet all = all
ask-turn w known event.Spent all = all
ask-turn w known (event.Left names) all = all

ask-item : {Q : ℕ → Type 0} {X : Type 0} (w : World) (o : Option X) (f : X → World) → ((x : X) → AskedAll Q (f x).traffic)
    → AskedAll Q w.traffic → AskedAll Q (with_item o f w).traffic
ask-item w None f each all = all
ask-item w (Some x) f each all = each x

ask-held : {Q : ℕ → Type 0} (c : Command) (w : World) → AskedAll Q w.traffic → AskedAll Q (held_by c w).traffic
ask-held (command.Hold name v) w all = all
ask-held _ w all = all

ask-restricted : {Q : ℕ → Type 0} (c : Command) (w : World) → AskedAll Q w.traffic → AskedAll Q (restricted_by c w).traffic
ask-restricted (command.Restrict name target mask) w all = ask-item w (cap_at w target) _ (λ c. all) all
ask-restricted _ w all = all

-- a call of the shell that is sent reaches its node
ask-shell : {Q : ℕ → Type 0} (w : World) → Known Q w
    → (name : List ℕ) (target : Cap) (operation : List ℕ) (args : List Datum) (k : ℕ) (at_once : Option Status)
    → AllowsAsked w k at_once target args
    → AskedAll Q w.traffic → AskedAll Q (asked name target operation args k at_once w).traffic
ask-shell w known name target operation args k at_once allowed all = asked-with_call k (Shell name) target operation args at_once w.traffic
    (λ none. known 0 target.uid.node (none-refused (reaches w 0 target.uid.node) args (sym allowed.refused ∙ none))) all

ask-asked : {Q : ℕ → Type 0} (w : World) → Known Q w → (c : Command) (k : ℕ) (name : List ℕ) (at_once : Option Status)
    → AllowsCommand w c (event.Asked k name at_once)
    → AskedAll Q w.traffic → AskedAll Q (asked_by c k at_once w).traffic
ask-asked {Q = Q} w known (command.Call said target operation args) k name at_once allowed all = go
    (ready_call w (command.Call said target operation args)) allowed.1
  where
    go : (o : Option (Cap × List Datum)) → IsSomeAnd o (λ c. AllowsAsked w k at_once c.0 c.1)
        → AskedAll Q (with_item o (λ c. asked said c.0 operation c.1 k at_once w) w).traffic
    go None a = absurd a
    go (Some c) a = ask-shell w known said c.0 operation c.1 k at_once a all
ask-asked w known _ k name at_once allowed all = absurd allowed

ask-linked : {Q : ℕ → Type 0} (a b : ℕ) (joined : Bool) (w : World) → AskedAll Q w.traffic → AskedAll Q (linked a b joined w).traffic
ask-linked a b true w all = all
ask-linked a b false w all = ask-tells_each (processes_of (broken_by_link a b) w.traffic)
    (record w { cuts = (a, b) ∷ w.cuts; traffic = without_link a b w.traffic }) (asked-without_link a b w.traffic all)

ask-made : {Q : ℕ → Type 0} (name type_name : List ℕ) (u : Option Uid) (w : World) → AskedAll Q w.traffic
    → AskedAll Q (made name type_name u w).traffic
ask-made name type_name None w all = all
ask-made {Q = Q} name type_name (Some u) w all = go (type_of w.types type_name)
  where
    go : (t : Option Edentype) → AskedAll Q (born_as u t w).traffic
    go None = all
    go (Some t) = ask-at_node w u.node (born u (fresh t (first_values t)))
        (λ it. asks-born u (fresh t (first_values t)) (site_of w u.node it) all) all

ask-command : {Q : ℕ → Type 0} (w : World) → Known Q w → (c : Command) (e : Event) → AllowsCommand w c e → AskedAll Q w.traffic
    → AskedAll Q (after_command w c e).traffic
ask-command w known c (event.Boot n e how q began) allowed all = ask-site w known n (event.Boot n e how q began) all
ask-command w known c (event.Crash n) allowed all = ask-stopped w known n (event.Crash n) all
ask-command w known c (event.Link a b joined) allowed all = ask-linked a b joined w all
ask-command w known c (event.Made name why v) allowed all = ask-made name (type_name_of c) v w all
ask-command w known c (event.Bound name true) allowed all = ask-held c w all
ask-command w known c (event.Bound name false) allowed all = ask-restricted c w all
ask-command w known c (event.Asked k name at_once) allowed all = ask-asked w known c k name at_once allowed all
ask-command w known c (event.Still n up) allowed all = all
ask-command w known c (event.Armed n what) allowed all = all
ask-command w known c (event.Void name) allowed all = all
ask-command w known c (event.Request k a b refused) allowed all = all
ask-command w known c (event.Reply k a b name why values) allowed all = all
ask-command w known c (event.Activate v how q) allowed all = all
ask-command w known c (event.Start k v q) allowed all = all
ask-command w known c (event.Process v q said) allowed all = all
ask-command w known c (event.Store v clock how q) allowed all = all
ask-command w known c event.Quiet allowed all = all
ask-command w known c event.Spent allowed all = all
ask-command w known c (event.Left names) allowed all = all

pub ask-happened : {Q : ℕ → Type 0} (w : World) → Known Q w → (c : Option Command) (e : Event) → AllowsEvent w c e → AskedAll Q w.traffic
    → AskedAll Q (happened w c e).traffic
ask-happened w known None e allowed all = ask-turn w known e all
ask-happened w known (Some c) e allowed all = ask-command w known c e allowed all

pub ask-counted : {Q : ℕ → Type 0} (k : Option Key) (w : World) → AskedAll Q w.traffic → AskedAll Q (counted k w).traffic
ask-counted None w all = all
ask-counted (Some k) w all = all

pub ask-looked_up : {Q : ℕ → Type 0} (w : World) → Known Q w → (name : List ℕ) (target : Option Cap) (path : List (List ℕ)) (e : Event)
    → AllowsLookUp w name target path e
    → AskedAll Q w.traffic → AskedAll Q (looked_up w name target path e).traffic
ask-looked_up w known name (Some target) path (event.Asked k said at_once) allowed all = ask-shell w known name target _
    (lookup_args path) k at_once allowed.1 all
ask-looked_up w known name None path (event.Void said) allowed all = all
ask-looked_up w known name target path _ allowed all = absurd allowed

-- 3. Every step

pub sound-next : (H : ℕ → Bool) (w : World) (c : Option Command) (e : Entry) → Allows w c e → SoundWorld H w → SoundWorld H (next w c e)
sound-next H w c e allowed h = record {
  place = place-next w c e h.place;
  nodes = all-next Sound w c e (kept-sound w e.event) allowed h.nodes;
  asked = ask-counted (key_of e.event) (clocked e.node e.clock (happened w c e.event))
      (ask-happened w (reached-present H w h.place) c e.event allowed.event h.asked);
}

pub sound-looked_up : (H : ℕ → Bool) (w : World) (name : List ℕ) (target : Option Cap) (path : List (List ℕ)) (e : Event)
    → AllowsLookUp w name target path e → SoundWorld H w → SoundWorld H (looked_up w name target path e)
sound-looked_up H w name target path e allowed h = record {
  place = subst (InPlace H) (sym (nodes-looked_up w name target path e)) h.place;
  nodes = all-same_nodes Sound w (looked_up w name target path e) (nodes-looked_up w name target path e) h.nodes;
  asked = ask-looked_up w (reached-present H w h.place) name target path e allowed h.asked;
}
