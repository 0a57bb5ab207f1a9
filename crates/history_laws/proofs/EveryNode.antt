-- What is kept of every node: a property of a node and its number that the turns there keep holds of all nodes after every entry.
use Rattle.std.proofs.Common.{not, ◌&&◌, ◌||◌, ◌≡◌, ◌==◌, ◌+◌, ℕ, nat_le, Bool, true, false, cond, List, [], ◌∷◌, Option, None, Some}
use Rattle.std.proofs.Common.{Result, Ok, Err, refl, sym, ◌∙◌, ap, subst}
use Rattle.std.specs.Prelude.{IsSomeAnd, IfSome}
use Rattle.std.specs.Option.{option_map}
use Rattle.std.specs.Ordering.{nat_cmp, eq_by_cmp}
use Rattle.std.specs.Cmp.{nat_cmp_total}
use Rattle.std.specs.FinMap.{nat_cmp-IsAntisymmetric}
use Rattle.capability.specs.declared.Uid.{Uid}
use Rattle.eden_value.specs.declared.status.Status.{Status}
use Rattle.eden_value.specs.declared.status.Status.TheVariants as status
use Rattle.eden_model.specs.Map.{with_item, value_at, changed_at}
use Rattle.eden_model.specs.Traffic.{processes_of, broken_by_node, broken_by_link, without_link}
use Rattle.eden_model.proofs.Laws.{eq-same, value-changed}
use Rattle.epl_syntax.specs.declared.effect.Answer.{Answer}
use Rattle.epl_syntax.specs.declared.effect.Answer.TheVariants.{Reply as Told}
use Rattle.epl_syntax.specs.Edentype.{Edentype}
use Rattle.epl_syntax.specs.Meaning.{type_of, first_values}
use Rattle.passive_store.specs.declared.store.Pick.{Pick}
use Rattle.journal.specs.declared.command.Command.{Command}
use Rattle.journal.specs.declared.command.Command.TheVariants as command
use Rattle.journal.specs.declared.event.Key.{Key}
use Rattle.journal.specs.declared.event.BootEnd.{BootEnd}
use Rattle.journal.specs.declared.event.Event.{Event}
use Rattle.journal.specs.declared.event.Event.TheVariants as event
use Rattle.journal.specs.declared.event.StartEnd.TheVariants as start_end
use Rattle.journal.specs.declared.event.RequestEnd.TheVariants as end
use Rattle.journal.specs.declared.event.Entry.{Entry}
use Rattle.journal.specs.World.{is_up, is_cut, World, Site, Node, node_at, at_node, site_of, site_at, reaches}
use Rattle.journal.specs.Ejects.{count, stored_epoch, fresh, next_uid, tells, born}
use Rattle.journal.specs.Crashes.{crashed, tells_each, linked}
use Rattle.journal.specs.Boots.{AllowsBoot}
use Rattle.journal.specs.References.{cap_at}
use Rattle.journal.specs.Commands.{creation, IsCreation, AllowsCommand, born_as, made, held_by, restricted_by, asked_by, ready_call}
use Rattle.journal.specs.Commands.{type_name_of}
use Rattle.journal.specs.Step.{AllowsAt, AllowsInTurn, AllowsEvent, Allows, next, after_turn, after_command, happened, at_site}
use Rattle.journal.specs.Step.{stopped_at, site_turn, counted, clocked, key_of}
use Rattle.journal.specs.Sites.{Everywhere}
use Rattle.history_laws.proofs.Frame.{node-at_node, after_at}
use Rattle.history_laws.proofs.NoneRolledBack.{with_clock}

-- the uid that comes next at the site
abbrev pub following_uid : Site → Uid
following_uid s = record { node = s.number; epoch = stored_epoch s.node; serial = s.node.last_serial + 1 }

-- it is all that next_uid gives
pub next-following : (s : Site) (u : Uid) → next_uid s ≡ Ok u → u ≡ following_uid s
next-following s u is = go (nat_le 4096 (count s.node)) (nat_le 4294967295 s.node.last_serial) is
  where
    go : (a b : Bool) → cond a (Err status.TooMany) (cond b (Err status.SerialsSpent) (Ok (following_uid s))) ≡ Ok u → u ≡ following_uid s
    go true b e = absurd (cc e)
    go false true e = absurd (cc e)
    go false false e = cc

-- the node at which these events are
abbrev pub IsAt : Event → ℕ → Type 0
IsAt (event.Request k a b refused) n = b ≡ n
IsAt (event.Store u clock how p) n = u.node ≡ n
IsAt (event.Crash m) n = m ≡ n
IsAt (event.Boot m e how p began) n = m ≡ n
IsAt (event.Activate u how p) n = u.node ≡ n
IsAt _ n = Unit {0}

-- the type is one of these
abbrev pub IsTypeOf : List Edentype → Edentype → Type 0
IsTypeOf types t = (name : List ℕ) × (type_of types name ≡ Some t)

-- This event keeps F at each node of this world, and so does what is changed elsewhere: calls are broken, and an Eject is created where
-- this very event makes one.
pub record IsKeptBy (F : ℕ → Node → Type 0) (w : World) (e : Event) : Type 0 where
  pub turns : (n : ℕ) (it : Node) → node_at w n ≡ Some it → IsAt e n → AllowsAt (site_of w n it) e → F n it
      → F n (site_turn (reaches w n) e (site_of w n it)).node
  pub crashes : (n : ℕ) (s : Site) → e ≡ event.Crash n → s.number ≡ n → F s.number s.node → F s.number (crashed s).node
  pub broken : (u : Uid) (p : ℕ) (s : Site) → F s.number s.node → F s.number (tells u p (Told status.Broken []) s).node
  pub births : (u : Uid) (t : Edentype) (s : Site) (name : List ℕ) (why : Status) → e ≡ event.Made name why (Some u) → next_uid s ≡ Ok u
      → s.node.up ≡ true → IsTypeOf w.types t → F s.number s.node → F s.number (born u (fresh t (first_values t)) s).node
  pub clocks : (n c : ℕ) (it : Node) → F n it → F n (with_clock c it)

-- the same of whatever is told, and of whatever is created
pub record IsKeptAt (F : ℕ → Node → Type 0) (w : World) (e : Event) : Type 0 where
  pub turns : (n : ℕ) (it : Node) → node_at w n ≡ Some it → IsAt e n → AllowsAt (site_of w n it) e → F n it
      → F n (site_turn (reaches w n) e (site_of w n it)).node
  pub crashes : (n : ℕ) (s : Site) → e ≡ event.Crash n → s.number ≡ n → F s.number s.node → F s.number (crashed s).node
  pub tellings : (u : Uid) (p : ℕ) (a : Answer) (s : Site) → F s.number s.node → F s.number (tells u p a s).node
  pub births : (u : Uid) (t : Edentype) (s : Site) → next_uid s ≡ Ok u → s.node.up ≡ true → IsTypeOf w.types t → F s.number s.node
      → F s.number (born u (fresh t (first_values t)) s).node
  pub clocks : (n c : ℕ) (it : Node) → F n it → F n (with_clock c it)

kept-by : (F : ℕ → Node → Type 0) (w : World) (e : Event) → IsKeptAt F w e → IsKeptBy F w e
kept-by F w e kept = record {
  turns = kept.turns;
  crashes = kept.crashes;
  broken = λ u p s f. kept.tellings u p (Told status.Broken []) s f;
  births = λ u t s name why is gives on known f. kept.births u t s gives on known f;
  clocks = kept.clocks;
}

-- 1. A change at one node

pub all-at_node : (F : ℕ → Node → Type 0) (w : World) (n : ℕ) (f : Site → Site)
    → ((it : Node) → node_at w n ≡ Some it → F n it → F n (f (site_of w n it)).node)
    → Everywhere F w → Everywhere F (at_node n f w)
all-at_node F w n f keeps all m jt is = go (eq_by_cmp nat_cmp m n) refl (node_at w m) refl (sym (node-at_node m n f w) ∙ is)
  where
    found : (it : Node) → node_at w n ≡ Some it → F n it → Some (after_at n f w it) ≡ Some jt → F n jt
    found it here fit same = subst (λ o. IfSome o (F n)) same (keeps it here fit)

    go : (b : Bool) → eq_by_cmp nat_cmp m n ≡ b → (o : Option Node) → node_at w m ≡ o
        → cond (eq_by_cmp nat_cmp m n) (option_map (after_at n f w) (node_at w m)) (node_at w m) ≡ Some jt → F m jt
    go false b o at same = all m jt (subst (λ c. cond c (option_map (after_at n f w) (node_at w m)) (node_at w m) ≡ Some jt) b same)
    go true b None at same = absurd (let bad : None ≡ Some jt = subst (λ o. option_map (after_at n f w) o ≡ Some jt) at
        (subst (λ c. cond c (option_map (after_at n f w) (node_at w m)) (node_at w m) ≡ Some jt) b same) in cc bad)
    go true b (Some it) at same = let e : m ≡ n = eq-same nat_cmp nat_cmp-IsAntisymmetric m n b in
        subst (λ k. F k jt) (sym e) (found it (ap (node_at w) (sym e) ∙ at) (subst (λ k. F k it) e (all m it at))
        (subst (λ o. option_map (after_at n f w) o ≡ Some jt) at
        (subst (λ c. cond c (option_map (after_at n f w) (node_at w m)) (node_at w m) ≡ Some jt) b same)))

-- the site at which an event is allowed
pub at-its-site : (w : World) (n : ℕ) (P : Site → Type 0) (it : Node) → node_at w n ≡ Some it → IsSomeAnd (site_at w n) P
    → P (site_of w n it)
at-its-site w n P it is p = subst (λ o. IsSomeAnd (with_item o (λ it. Some (site_of w n it)) None) P) is p

all-turn : (F : ℕ → Node → Type 0) (w : World) (n : ℕ) (e : Event) → IsAt e n → IsKeptBy F w e → IsSomeAnd (site_at w n) (λ s. AllowsAt s e)
    → Everywhere F w → Everywhere F (at_site w n e)
all-turn F w n e place kept allowed all = all-at_node F w n (site_turn (reaches w n) e)
    (λ it is f. kept.turns n it is place (at-its-site w n (λ s. AllowsAt s e) it is allowed) f) all

all-tells_each : (F : ℕ → Node → Type 0)
    → ((u : Uid) (p : ℕ) (s : Site) → F s.number s.node → F s.number (tells u p (Told status.Broken []) s).node)
    → (qs : List (Uid × ℕ)) (w : World) → Everywhere F w → Everywhere F (tells_each qs w)
all-tells_each F kept [] w all = all
all-tells_each F kept (q ∷ qs) w all = all-tells_each F kept qs (at_node q.0.node (tells q.0 q.1 (Told status.Broken [])) w)
    (all-at_node F w q.0.node (tells q.0 q.1 (Told status.Broken [])) (λ it is f. kept q.0 q.1 (site_of w q.0.node it) f) all)

all-stopped : (F : ℕ → Node → Type 0)
    → ((u : Uid) (p : ℕ) (s : Site) → F s.number s.node → F s.number (tells u p (Told status.Broken []) s).node)
    → (w : World) (n : ℕ) (e : Event) → Everywhere F (at_site w n e) → Everywhere F (stopped_at w n e)
all-stopped F kept w n e all = all-tells_each F kept (processes_of (broken_by_node n) w.traffic) (at_site w n e) all

-- 2. Turns

-- a reply that a node hears is allowed at its site where it is allowed in the world
all-replied : (F : ℕ → Node → Type 0) (w : World) (b : ℕ) (e : Event) → IsAt e b → IsKeptBy F w e
    → ((it : Node) → AllowsAt (site_of w b it) e) → Everywhere F w → Everywhere F (at_site w b e)
all-replied F w b e place kept allowed all = all-at_node F w b (site_turn (reaches w b) e)
    (λ it is f. kept.turns b it is place (allowed it) f) all

all-in_turn : (F : ℕ → Node → Type 0) (w : World) (e : Event) → IsKeptBy F w e → AllowsInTurn w e → Everywhere F w
    → Everywhere F (after_turn w e)
all-in_turn F w (event.Boot n e how p began) kept allowed all = absurd allowed
all-in_turn F w (event.Crash n) kept allowed all = absurd allowed
all-in_turn F w (event.Still n up) kept allowed all = absurd allowed
all-in_turn F w (event.Link a b joined) kept allowed all = absurd allowed
all-in_turn F w (event.Armed n what) kept allowed all = absurd allowed
all-in_turn F w (event.Made name why v) kept allowed all = absurd allowed
all-in_turn F w (event.Bound name held) kept allowed all = absurd allowed
all-in_turn F w (event.Void name) kept allowed all = absurd allowed
all-in_turn F w (event.Asked k name at_once) kept allowed all = absurd allowed
all-in_turn F w (event.Left names) kept allowed all = absurd allowed
all-in_turn F w event.Quiet kept allowed all = all
all-in_turn F w event.Spent kept allowed all = all
all-in_turn F w (event.Request k a b refused) kept allowed all = all-turn F w b (event.Request k a b refused) refl kept allowed all
all-in_turn F w (event.Reply k a b None why values) kept allowed all = all-replied F w b (event.Reply k a b None why values) tt kept
    (λ it. allowed) all
all-in_turn F w (event.Reply k a b (Some name) why values) kept allowed all = all
all-in_turn F w (event.Start k v p) kept allowed all = all-turn F w v.node (event.Start k v p) tt kept allowed all
all-in_turn F w (event.Process v p said) kept allowed all = all-turn F w v.node (event.Process v p said) tt kept allowed all
all-in_turn F w (event.Activate v start_end.Ok p) kept allowed all = all-turn F w v.node
    (event.Activate v start_end.Ok p) refl kept allowed all
all-in_turn F w (event.Activate v start_end.Gone p) kept allowed all = all-turn F w v.node
    (event.Activate v start_end.Gone p) refl kept allowed all
all-in_turn F w (event.Activate v start_end.Fault p) kept allowed all = all-turn F w v.node
    (event.Activate v start_end.Fault p) refl kept allowed all
all-in_turn F w (event.Activate v start_end.Damaged p) kept allowed all = all-turn F w v.node
    (event.Activate v start_end.Damaged p) refl kept allowed all
all-in_turn F w (event.Activate v start_end.Stop p) kept allowed all = all-stopped F kept.broken w v.node
    (event.Activate v start_end.Stop p) (all-turn F w v.node (event.Activate v start_end.Stop p) refl kept allowed all)
all-in_turn F w (event.Store v clock end.Part p) kept allowed all = all-turn F w v.node
    (event.Store v clock end.Part p) refl kept allowed all
all-in_turn F w (event.Store v clock end.Done p) kept allowed all = all-turn F w v.node
    (event.Store v clock end.Done p) refl kept allowed all
all-in_turn F w (event.Store v clock end.Fault p) kept allowed all = all-turn F w v.node
    (event.Store v clock end.Fault p) refl kept allowed all
all-in_turn F w (event.Store v clock end.Full p) kept allowed all = all-turn F w v.node
    (event.Store v clock end.Full p) refl kept allowed all
all-in_turn F w (event.Store v clock end.Stop p) kept allowed all = all-stopped F kept.broken w v.node (event.Store v clock end.Stop p)
    (all-turn F w v.node (event.Store v clock end.Stop p) refl kept allowed all)

-- 3. Commands

same-item : {X : Type 0} (F : ℕ → Node → Type 0) (w : World) (o : Option X) (f : X → World) → ((x : X) → Everywhere F (f x))
    → Everywhere F w → Everywhere F (with_item o f w)
same-item F w None f each all = all
same-item F w (Some x) f each all = each x

all-held_by : (F : ℕ → Node → Type 0) (c : Command) (w : World) → Everywhere F w → Everywhere F (held_by c w)
all-held_by F (command.Hold name v) w all = all
all-held_by F _ w all = all

all-restricted_by : (F : ℕ → Node → Type 0) (c : Command) (w : World) → Everywhere F w → Everywhere F (restricted_by c w)
all-restricted_by F (command.Restrict name target mask) w all = same-item F w (cap_at w target) _ (λ c. all) all
all-restricted_by F _ w all = all

all-asked_by : (F : ℕ → Node → Type 0) (c : Command) (k : ℕ) (at_once : Option Status) (w : World) → Everywhere F w
    → Everywhere F (asked_by c k at_once w)
all-asked_by F (command.Call name target operation args) k at_once w all = same-item F w
    (ready_call w (command.Call name target operation args)) _ (λ c. all) all
all-asked_by F _ k at_once w all = all

all-linked : (F : ℕ → Node → Type 0)
    → ((u : Uid) (p : ℕ) (s : Site) → F s.number s.node → F s.number (tells u p (Told status.Broken []) s).node)
    → (a b : ℕ) (joined : Bool) (w : World) → Everywhere F w → Everywhere F (linked a b joined w)
all-linked F kept a b true w all = all
all-linked F kept a b false w all = all-tells_each F kept (processes_of (broken_by_link a b) w.traffic)
    (record w { cuts = (a, b) ∷ w.cuts; traffic = without_link a b w.traffic }) all

all-boot : (F : ℕ → Node → Type 0) (w : World) (c : Command) (n e : ℕ) (how : BootEnd) (p : Option Pick) (began : Bool)
    → IsKeptBy F w (event.Boot n e how p began) → AllowsCommand w c (event.Boot n e how p began)
    → Everywhere F w → Everywhere F (at_site w n (event.Boot n e how p began))
all-boot F w (command.Restart m) n e how p began kept allowed all =
    let same : n ≡ m = allowed.0 in
    let at : IsSomeAnd (site_at w n) (λ s. AllowsBoot s e how p began) = rw same allowed.1 in
    all-turn F w n (event.Boot n e how p began) refl kept at all
all-boot F w _ n e how p began kept allowed all = absurd allowed

-- 4. Creations

-- the uid comes next at its node
abbrev pub IsNext : World → Uid → Type 0
IsNext w u = IsSomeAnd (site_at w u.node) (λ s. next_uid s ≡ Ok u)

creation-next : (w : World) (n : ℕ) (u : Uid) → creation w n ≡ Ok u → IsNext w u
creation-next w n u is = go (reaches w 0 n) (node_at w n) refl is
  where
    next-at : (it : Node) → node_at w n ≡ Some it → next_uid (site_of w n it) ≡ Ok u → IsNext w u
    next-at it at gives =
        let number : u.node ≡ n = ap (λ (v : Uid). v.node) (next-following (site_of w n it) u gives) in
        subst (λ m. IsSomeAnd (site_at w m) (λ s. next_uid s ≡ Ok u)) (sym number) (rw at gives)

    go : (b : Bool) (o : Option Node) → node_at w n ≡ o
        → cond b (with_item (with_item o (λ it. Some (site_of w n it)) None) next_uid (Err status.Unreachable)) (Err status.Unreachable)
        ≡ Ok u → IsNext w u
    go false o at e = absurd (cc e)
    go true None at e = absurd (cc e)
    go true (Some it) at e = next-at it at e

pub made-next : (w : World) (c : Command) (name : List ℕ) (why : Status) (u : Uid) → AllowsCommand w c (event.Made name why (Some u))
    → IsNext w u
made-next w (command.Create said n type_name) name why u allowed = creation-next w n u (is-creation (creation w n) why u allowed.2)
  where
    is-creation : (made : Result Uid Status) (why : Status) (u : Uid) → IsCreation made why (Some u) → made ≡ Ok u
    is-creation (Ok v) why u is = let same : Some u ≡ Some v = is.1 in cc same
    is-creation (Err w) why u is = absurd (let bad : Some u ≡ None = is.1 in cc bad)
made-next w _ name why u allowed = absurd allowed

-- its node is up
abbrev IsUpAt : World → Uid → Type 0
IsUpAt w u = (it : Node) → node_at w u.node ≡ Some it → it.up ≡ true

creation-up : (w : World) (n : ℕ) (u : Uid) → creation w n ≡ Ok u → IsUpAt w u
creation-up w n u is jt found = go (reaches w 0 n) refl (node_at w n) refl is
  where
    both-true : (a b : Bool) → (a && b) ≡ true → a ≡ true
    both-true true b e = refl
    both-true false b e = absurd (cc e)

    go : (b : Bool) → reaches w 0 n ≡ b → (o : Option Node) → node_at w n ≡ o
        → cond b (with_item (with_item o (λ it. Some (site_of w n it)) None) next_uid (Err status.Unreachable)) (Err status.Unreachable)
        ≡ Ok u → jt.up ≡ true
    go false r o at e = absurd (cc e)
    go true r None at e = absurd (cc e)
    go true r (Some it) at e =
        let number : u.node ≡ n = ap (λ (v : Uid). v.node) (next-following (site_of w n it) u e) in
        let here : node_at w n ≡ Some jt = ap (node_at w) (sym number) ∙ found in
        sym (ap (λ o. with_item o (λ (x : Node). x.up) false) here) ∙ both-true (is_up w n) ((0 == n) || not (is_cut w 0 n)) r

made-up : (w : World) (c : Command) (name : List ℕ) (why : Status) (u : Uid) → AllowsCommand w c (event.Made name why (Some u)) → IsUpAt w u
made-up w (command.Create said n type_name) name why u allowed = creation-up w n u (is-creation (creation w n) why u allowed.2)
  where
    is-creation : (made : Result Uid Status) (why : Status) (u : Uid) → IsCreation made why (Some u) → made ≡ Ok u
    is-creation (Ok v) why u is = let same : Some u ≡ Some v = is.1 in cc same
    is-creation (Err w) why u is = absurd (let bad : Some u ≡ None = is.1 in cc bad)
made-up w _ name why u allowed = absurd allowed

all-born_as : (F : ℕ → Node → Type 0) (w : World) (u : Uid)
    → ((t : Edentype) (s : Site) → next_uid s ≡ Ok u → s.node.up ≡ true → IsTypeOf w.types t → F s.number s.node
    → F s.number (born u (fresh t (first_values t)) s).node)
    → (t : Option Edentype) → ((x : Edentype) → t ≡ Some x → IsTypeOf w.types x) → IsNext w u → IsUpAt w u → Everywhere F w
    → Everywhere F (born_as u t w)
all-born_as F w u kept None known is on all = all
all-born_as F w u kept (Some t) known is on all = all-at_node F w u.node (born u (fresh t (first_values t)))
    (λ it at f. kept t (site_of w u.node it) (at-its-site w u.node (λ s. next_uid s ≡ Ok u) it at is) (on it at) (known t refl) f) all

all-made : (F : ℕ → Node → Type 0) (w : World) (c : Command) (name : List ℕ) (why : Status) (u : Option Uid)
    → ((v : Uid) (t : Edentype) (s : Site) → event.Made name why u ≡ event.Made name why (Some v) → next_uid s ≡ Ok v → s.node.up ≡ true
    → IsTypeOf w.types t → F s.number s.node → F s.number (born v (fresh t (first_values t)) s).node)
    → AllowsCommand w c (event.Made name why u) → Everywhere F w → Everywhere F (made name (type_name_of c) u w)
all-made F w c name why None kept allowed all = all
all-made F w c name why (Some u) kept allowed all = all-born_as F w u (λ t s. kept u t s refl) (type_of w.types (type_name_of c))
    (λ x is. (type_name_of c, is))
    (made-next w c name why u allowed) (made-up w c name why u allowed) all

all-by_command : (F : ℕ → Node → Type 0) (w : World) (c : Command) (e : Event) → IsKeptBy F w e → AllowsCommand w c e → Everywhere F w
    → Everywhere F (after_command w c e)
all-by_command F w c (event.Boot n e how p began) kept allowed all = all-boot F w c n e how p began kept allowed all
all-by_command F w c (event.Crash n) kept allowed all = all-stopped F kept.broken w n (event.Crash n)
    (all-at_node F w n (site_turn (reaches w n) (event.Crash n)) (λ it is f. kept.crashes n (site_of w n it) refl refl f) all)
all-by_command F w c (event.Link a b joined) kept allowed all = all-linked F kept.broken a b joined w all
all-by_command F w c (event.Made name why v) kept allowed all = all-made F w c name why v
    (λ u t s is. kept.births u t s name why is) allowed all
all-by_command F w c (event.Bound name true) kept allowed all = all-held_by F c w all
all-by_command F w c (event.Bound name false) kept allowed all = all-restricted_by F c w all
all-by_command F w c (event.Asked k name at_once) kept allowed all = all-asked_by F c k at_once w all
all-by_command F w c (event.Still n up) kept allowed all = all
all-by_command F w c (event.Armed n what) kept allowed all = all
all-by_command F w c (event.Void name) kept allowed all = all
all-by_command F w c (event.Request k a b refused) kept allowed all = all
all-by_command F w c (event.Reply k a b name why values) kept allowed all = all
all-by_command F w c (event.Activate v how p) kept allowed all = all
all-by_command F w c (event.Start k v p) kept allowed all = all
all-by_command F w c (event.Process v p said) kept allowed all = all
all-by_command F w c (event.Store v clock how p) kept allowed all = all
all-by_command F w c event.Quiet kept allowed all = all
all-by_command F w c event.Spent kept allowed all = all
all-by_command F w c (event.Left names) kept allowed all = all

-- 5. Every entry

pub all-happened : (F : ℕ → Node → Type 0) (w : World) (c : Option Command) (e : Event) → IsKeptBy F w e → AllowsEvent w c e
    → Everywhere F w → Everywhere F (happened w c e)
all-happened F w None e kept allowed all = all-in_turn F w e kept allowed all
all-happened F w (Some c) e kept allowed all = all-by_command F w c e kept allowed all

all-counted : (F : ℕ → Node → Type 0) (k : Option Key) (w : World) → Everywhere F w → Everywhere F (counted k w)
all-counted F None w all = all
all-counted F (Some k) w all = all

pub all-clocked : (F : ℕ → Node → Type 0) → ((n c : ℕ) (it : Node) → F n it → F n (with_clock c it)) → (n c : ℕ) (w : World)
    → Everywhere F w → Everywhere F (clocked n c w)
all-clocked F kept n c w all = go (n == 0)
  where
    here : (m : ℕ) (jt : Node) (b : Bool) (o : Option Node) → node_at w m ≡ o → cond b (option_map (with_clock c) o) o ≡ Some jt → F m jt
    here m jt true None at is = absurd (cc is)
    here m jt true (Some it) at is = subst (λ o. IfSome o (F m)) is (kept m c it (all m it at))
    here m jt false o at is = all m jt (at ∙ is)

    go : (b : Bool) → Everywhere F (record w { nodes = cond b w.nodes (changed_at nat_cmp n (with_clock c) w.nodes) })
    go true = all
    go false = λ m jt is. here m jt (eq_by_cmp nat_cmp m n) (node_at w m) refl
        (sym (value-changed nat_cmp nat_cmp_total nat_cmp-IsAntisymmetric m n (with_clock c) w.nodes) ∙ is)

pub all-next_by : (F : ℕ → Node → Type 0) (w : World) (c : Option Command) (e : Entry) → IsKeptBy F w e.event → Allows w c e
    → Everywhere F w → Everywhere F (next w c e)
all-next_by F w c e kept allowed all = all-counted F (key_of e.event) (clocked e.node e.clock (happened w c e.event))
    (all-clocked F kept.clocks e.node e.clock (happened w c e.event) (all-happened F w c e.event kept allowed.event all))

pub all-next : (F : ℕ → Node → Type 0) (w : World) (c : Option Command) (e : Entry) → IsKeptAt F w e.event → Allows w c e → Everywhere F w
    → Everywhere F (next w c e)
all-next F w c e kept allowed all = all-next_by F w c e (kept-by F w e.event kept) allowed all

pub all-same_nodes : (F : ℕ → Node → Type 0) (w v : World) → v.nodes ≡ w.nodes → Everywhere F w → Everywhere F v
all-same_nodes F w v same all = λ n it is. all n it (ap (λ ns. value_at nat_cmp n ns) (sym same) ∙ is)
