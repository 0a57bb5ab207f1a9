-- Each world on the way of a script is as machines take it.
use Rattle.std.proofs.Common.{◌≡◌, ◌≤◌, ◌<◌, ◌+◌, ℕ, zero, suc, Bool, true, false, cond, List, [], ◌∷◌, ◌++◌, map, length, get_or, Option}
use Rattle.std.proofs.Common.{None, Some}
use Rattle.std.proofs.Common.{refl, sym, ◌∙◌, ap, subst, arith}
use Rattle.std.specs.Prelude.{is_some}
use Rattle.std.specs.List.{Contains, find}
use Rattle.std.specs.Ordering.{nat_cmp, eq_by_cmp}
use Rattle.std.proofs.lemmas.Cmp.{tied_itself, nat_list_cmp_total}
use Rattle.eden_model.specs.Map.{value_at, same_text}
use Rattle.eden_model.proofs.Numbers.{same-self}
use Rattle.eden_model.specs.Traffic.{target_station}
use Rattle.epl_syntax.specs.declared.types.Native.{Native}
use Rattle.epl_syntax.specs.declared.tree.Program.{Program}
use Rattle.epl_syntax.specs.Natives.{native_name}
use Rattle.epl_syntax.specs.Edentype.{Edentype, native, declared}
use Rattle.epl_syntax.specs.Tree.{type_tree}
use Rattle.epl_syntax.specs.Meaning.{name_of, type_of, types_in}
use Rattle.epl_syntax.specs.Rules.OfTypes.{TypeList, names_of}
use Rattle.eden_disk.specs.Told.{contents}
use Rattle.passive_store.specs.Kept.{Layout}
use Rattle.passive_store.specs.Layout.{IsLayout}
use Rattle.journal.specs.declared.command.Script.{Script}
use Rattle.journal.specs.declared.event.Entry.{Entry}
use Rattle.journal.specs.World.{World, Node, site_of}
use Rattle.journal.specs.Laws.{Begins}
use Rattle.journal.specs.Opening.{node_of}
use Rattle.journal.specs.Run.{beginning}
use Rattle.journal.specs.Standing.{DiskRun}
use Rattle.journal.specs.LegalRun.{AreHandedIn, numbered_from, images, opening_world, last_world}
use Rattle.journal.specs.Sites.{SoundWorld}
use Rattle.history_laws.proofs.Runs.{Any, of-any, end-keeps, world-booting}
use Rattle.history_laws.proofs.SiteRuns.{KnownWorld, known-opening, known-next, known-looked_up, new-by, sites-are-sound}
use Rattle.history_laws.proofs.CutOff.{down-nodes-rest}
use Rattle.history_laws.proofs.EpochBounds.{epochs-are-bounded}
use Rattle.history_laws.proofs.FitTurns.{every-turn-is-fit}
use Rattle.history_laws.proofs.OwnUids.{own-uids}
use Rattle.history_laws.proofs.ShellAsks.{none-asks-at-the-shell}
use Rattle.runs.specs.Reached.{is_node}
use Rattle.journal.specs.Fit.{IsFit}
use Rattle.runs.specs.Machines.{Stands, StandsWith}
use Rattle.runs.specs.Room.{most_entries}
use Rattle.runs.specs.Runs.{MayBegin}
use Rattle.runs.specs.declared.run.Run.{Run}
use Rattle.runs.specs.Laws.{RunsMayBegin}
use Rattle.runs.proofs.Counted.{types-next, look-up-kept}
use Rattle.runs.proofs.Epochs.{next-is-in-doubt}

-- 1. Types

names-declared : (ps : List Program) → map name_of (map (λ p. declared (type_tree p)) ps) ≡ map (λ (p : Program). p.name.text) ps
names-declared [] = refl
names-declared (p ∷ ps) = ap (λ l. p.name.text ∷ l) (names-declared ps)

names-in : (ns : List Native) (more : List Edentype) → map name_of (map native ns ++ more) ≡ map native_name ns ++ map name_of more
names-in [] more = refl
names-in (n ∷ ns) more = ap (λ l. native_name n ∷ l) (names-in ns more)

named : (ts : TypeList) → map name_of (types_in ts) ≡ names_of ts
named ts = names-in ts.native (map (λ p. declared (type_tree p)) ts.declared)
    ∙ ap (λ l. map native_name ts.native ++ l) (names-declared ts.declared)

text-self : (a : List ℕ) → same_text a a ≡ true
text-self a = rw (tied_itself nat_list_cmp_total a) refl

found-at : (types : List Edentype) (name : List ℕ) (k : ℕ) → k < length (map name_of types) → get_or (map name_of types) k name ≡ name
    → is_some (find (λ t. same_text (name_of t) name) types) ≡ true
found-at [] name k lt is = absurd (omega (arith, lt))
found-at (t ∷ ts) name zero lt is = let same : same_text (name_of t) name ≡ true = subst (λ n. same_text (name_of t) n ≡ true) is
    (text-self (name_of t)) in rw same refl
found-at (t ∷ ts) name (suc k) lt is = go (same_text (name_of t) name) (found-at ts name k (omega (arith, lt)) is)
  where
    go : (b : Bool) → is_some (find (λ t. same_text (name_of t) name) ts) ≡ true
        → is_some (cond b (Some t) (find (λ t. same_text (name_of t) name) ts)) ≡ true
    go true later = refl
    go false later = later

-- each name of a type is that of one
pub type-there : (ts : TypeList) (name : List ℕ) → Contains (names_of ts) name → is_some (type_of (types_in ts) name) ≡ true
type-there ts name has = let is = subst (λ names. Contains names name) (sym (named ts)) has in found-at (types_in ts) name is.0 is.1 is.2

types-stay : (layout : Layout) (script : Script) (disks : List DiskRun) (history : List Entry) → Begins layout script disks history
    → (last_world (opening_world layout script disks) script history).types ≡ types_in script.types
types-stay layout script disks history begins = end-keeps Any (λ v. v.types ≡ types_in script.types) (record {
  entries = λ past v c e any allowed i. (tt, types-next v c e ∙ i);
  look_ups = λ past v name target path e any allowed plain i. (
    tt,
    ap (λ (x : ℕ × Option _ × List Edentype). x.2) (look-up-kept v name target path e.event) ∙ i,
  );
}) (beginning w script.nodes script.commands) [] history (of-any 1 script.nodes w script.commands)
    (ap (λ (v : World). v.types) (world-booting 1 script.nodes w script.commands)) begins
  where
    w : World
    w = opening_world layout script disks

-- 2. Nodes

-- one for each disk
disk-there : (layout : Layout) (n k : ℕ) (disks : List DiskRun) → k ≤ n → n < k + length disks
    → is_some (value_at nat_cmp n (map (λ d. (d.0, node_of layout d)) (images (numbered_from k disks)))) ≡ true
disk-there layout n k [] low high = absurd (omega (arith, low, high))
disk-there layout n k (d ∷ disks) low high = go (eq_by_cmp nat_cmp n k) refl (λ above. disk-there layout n (k + 1) disks above (omega
    (arith, high)))
  where
    more : List (ℕ × Node)
    more = map (λ d. (d.0, node_of layout d)) (images (numbered_from (k + 1) disks))

    apart : eq_by_cmp nat_cmp n k ≡ false → n ≡ k → ⊥
    apart other same = let self : true ≡ eq_by_cmp nat_cmp n k = sym (same-self n) ∙ ap (eq_by_cmp nat_cmp n) same in
        let bad : true ≡ false = self ∙ other in cc bad

    go : (b : Bool) → eq_by_cmp nat_cmp n k ≡ b → (k + 1 ≤ n → is_some (value_at nat_cmp n more) ≡ true)
        → is_some (cond (eq_by_cmp nat_cmp n k) (Some (node_of layout (k, (contents d.before).now))) (value_at nat_cmp n more)) ≡ true
    go true is later = rw is refl
    go false is later = rw is (later (let other = apart is in omega (arith, low, other)))

-- 3. Worlds

reached-world : (layout : Layout) (script : Script) (disks : List DiskRun) (history : List Entry) → IsLayout layout
    → AreHandedIn layout disks
    → Begins layout script disks history
    → KnownWorld (is_node (opening_world layout script disks)) (last_world (opening_world layout script disks) script history)
reached-world layout script disks history lays fits begins = end-keeps Any (KnownWorld here) (record {
  entries = λ past w c e any allowed i. (tt, known-next here w c e allowed i);
  look_ups = λ past w name target path e any allowed plain i. (tt, known-looked_up here w name target path e.event allowed i);
}) (beginning w script.nodes script.commands) [] history (of-any 1 script.nodes w script.commands)
    (subst (KnownWorld here) (sym (world-booting 1 script.nodes w script.commands)) (known-opening layout script disks lays fits)) begins
  where
    w : World
    w = opening_world layout script disks

    here : ℕ → Bool
    here = is_node w

-- the nodes are those that are there
own-nodes : (H : ℕ → Bool) (w : World) → SoundWorld H w → SoundWorld (is_node w) w
own-nodes H w sound = record {
  place = record { ordered = sound.place.ordered; present = λ n. refl };
  nodes = sound.nodes;
  asked = record { at = λ k c is place. sound.place.present (target_station c) ∙ sound.asked.at k c is place };
}

pub runs-may-begin : RunsMayBegin
runs-may-begin layout script disks lays fits fit enough = record {
  few = fit.nodes.1;
  reached = λ h leads. let known = reached-world layout script disks h lays fits leads in record {
    sound = own-nodes (is_node w) (last_world w script h) known.sound;
    sites = sites-are-sound layout script disks h lays fits fit.keep_rules fit.have_monitors leads;
    new_uids = λ n it at. new-by (site_of (last_world w script h) n it) (known.fit n it at);
    own_uids = own-uids layout script disks h lays fits leads;
    turns = every-turn-is-fit layout script disks h lays fits fit.keep_rules fit.have_monitors leads;
    epochs = epochs-are-bounded layout script disks h lays fits leads;
    doubts = next-is-in-doubt layout script disks h lays fits leads;
    rest = down-nodes-rest layout script disks h lays fits leads;
    askers = none-asks-at-the-shell layout script disks h lays fits leads;
  };
  offers = λ h leads. let known = reached-world layout script disks h lays fits leads in record {
    known = λ name has. subst (λ ts. is_some (type_of ts name) ≡ true) (sym (types-stay layout script disks h leads))
        (type-there script.types name has);
    there = λ n low high. known.sound.place.present n ∙ disk-there layout n 1 disks low (omega (arith, high, enough));
  };
}
  where
    w : World
    w = opening_world layout script disks

-- 4. A run of which nothing has happened yet may begin

pub may-begin : {M : Type 0} (stands : Stands M) (run : Run M) (layout : Layout) (script : Script) (disks : List DiskRun) (spare : ℕ)
    → IsLayout layout
    → AreHandedIn layout disks → IsFit script → script.nodes ≤ length disks → run.history.items ≡ [] → run.turns ≡ 0 → run.last ≡ None
    → run.again ≡ false → StandsWith stands run.machine (most_entries script.nodes script.commands + spare)
    (opening_world layout script disks)
    → MayBegin stands run (opening_world layout script disks) (names_of script.types) script.nodes script.commands spare
may-begin stands run layout script disks spare lays fits fit enough history turns last again machine = record {
  history = history;
  turns = (turns, refl);
  last = (last, refl);
  again = again;
  machine = machine;
  commands = fit.commands;
  reached = runs-may-begin layout script disks lays fits fit enough;
}
