-- In every step of every history a process touches in its turn no variable of a monitor that it does not hold.
use Rattle.std.proofs.Common.{◌≡◌, ◌==◌, ◌-◌, ◌≤◌, ℕ, zero, suc, Bool, true, false, not, ◌||◌, List, [], ◌∷◌, Option, None, Some}
use Rattle.std.proofs.Common.{length, is_some, refl, sym, ◌∙◌, ap, subst, arith}
use Rattle.std.specs.Prelude.{IsSomeAnd, IfSome, slice_get}
use Rattle.std.specs.Option.{option_map}
use Rattle.std.specs.Ordering.{nat_cmp}
use Rattle.std.proofs.lemmas.Bool.{eq-eqb, eqb-true}
use Rattle.capability.specs.declared.Uid.{Uid}
use Rattle.capability.specs.declared.Cap.{Cap}
use Rattle.eden_value.specs.Datum.{Datum}
use Rattle.eden_model.specs.Map.{with_item, value_at, uid_cmp}
use Rattle.eden_model.specs.Crew.{nothing, Process as Worker, Monitor, is_held_by, Crew}
use Rattle.eden_model.specs.Traffic.{Traffic}
use Rattle.epl_syntax.specs.declared.effect.Answer.{Answer}
use Rattle.epl_syntax.specs.Edentype.{Edentype, native, declared}
use Rattle.epl_syntax.specs.Tree.{TypeTree, Variable}
use Rattle.epl_syntax.specs.Turns.{Left, process_turn}
use Rattle.epl_syntax.specs.Rules.OfTypes.{KeepRules, HaveMonitors}
use Rattle.epl_syntax.specs.Rules.InExpressions.{stands_in}
use Rattle.epl_syntax.specs.Meaning.{Rest, of_native, of_declared, Turned, turn}
use Rattle.epl_syntax.specs.Monitors.{inside_rest, SameWhere, TouchesNoOther, is_open, is_shut}
use Rattle.epl_syntax.proofs.GuardedTurns.{turn_keeps_monitors}
use Rattle.passive_store.specs.Kept.{Layout}
use Rattle.passive_store.specs.Layout.{IsLayout}
use Rattle.journal.specs.declared.command.Command.{Command}
use Rattle.journal.specs.declared.command.Script.{Script}
use Rattle.journal.specs.declared.event.Shown.{Shown}
use Rattle.journal.specs.declared.event.Event.{Event}
use Rattle.journal.specs.declared.event.Event.TheVariants as event
use Rattle.journal.specs.declared.event.Entry.{Entry}
use Rattle.journal.specs.World.{World, Node, Eject, Active, Task, node_at, site_of, eject_in}
use Rattle.journal.specs.Processes.{AllowsTurn, turn_of, worker_at}
use Rattle.journal.specs.Step.{AllowsEvent, AllowsAt}
use Rattle.journal.specs.Run.{EachStep, AllowsLookUp, beginning}
use Rattle.journal.specs.Standing.{DiskRun}
use Rattle.journal.specs.LegalRun.{AreHandedIn, opening_world, run_of}
use Rattle.journal.specs.Laws.{Begins}
use Rattle.journal.specs.Monitors.{holds, may_touch, may_not_touch, ComesToTheSame, TouchesItsOwn, KeepsMonitors}
use Rattle.journal.specs.Monitors.{EventKeepsMonitors}
use Rattle.journal.specs.Sites.{active_in}
use Rattle.history_laws.proofs.Runs.{Any, of-any, each-step, no-turn, world-booting}
use Rattle.history_laws.proofs.Tasks.{FitsRest, HasValues, FitsActive}
use Rattle.history_laws.proofs.LeftTurns.{as-many}
use Rattle.history_laws.proofs.CallsKeep.{kept-itself}
use Rattle.history_laws.proofs.Seats.{IsOpenAt}
use Rattle.history_laws.proofs.SeatTurns.{inside_at, PartSeated, settled_so}
use Rattle.history_laws.proofs.SeatRuns.{SeatWorld, seat-next, seat-looked_up, seat-opening}

-- 1. What a process holds is what it is inside of

held-there : (p : ℕ) (o : Option Monitor) → with_item o (λ it. is_held_by p it.holder) false ≡ true
    → option_map (λ (it : Monitor). it.holder) o ≡ Some (Some p)
held-there p None is = absurd (cc is)
held-there p (Some it) is = ap Some (go it.holder is)
  where
    go : (o : Option ℕ) → is_held_by p o ≡ true → o ≡ Some p
    go None is = absurd (cc is)
    go (Some k) is = ap Some (eqb-true k p is)

there-held : (p : ℕ) (o : Option Monitor) → option_map (λ (it : Monitor). it.holder) o ≡ Some (Some p)
    → with_item o (λ it. is_held_by p it.holder) false ≡ true
there-held p None is = absurd (cc is)
there-held p (Some it) is = go it.holder (let x : Some it.holder ≡ Some (Some p) = is in cc x)
  where
    go : (o : Option ℕ) → o ≡ Some p → is_held_by p o ≡ true
    go None is = absurd (cc is)
    go (Some k) is = eq-eqb k p (cc is)

-- of one monitor, where what is held is what is inside
stands-holds : (crew : Crew) (p m : ℕ) (inner : Option ℕ) → 1 ≤ m
    → (holds crew p m ≡ true → inner ≡ Some m) → (inner ≡ Some m → holds crew p m ≡ true)
    → stands_in inner m ≡ holds crew p m
stands-holds crew p m inner from into out = go (holds crew p m) into out inner refl
  where
    go : (b : Bool) → (b ≡ true → inner ≡ Some m) → (inner ≡ Some m → b ≡ true) → (o : Option ℕ) → inner ≡ o → stands_in o m ≡ b
    go true into out None is = absurd (let bad : None ≡ Some m = sym is ∙ into refl in cc bad)
    go true into out (Some k) is = eq-eqb k m (let x : Some k ≡ Some m = sym is ∙ into refl in cc x)
    go false into out None is = refl
    go false into out (Some k) is = by (k == m) refl
      where
        by : (b : Bool) → (k == m) ≡ b → b ≡ false
        by true same = absurd (let bad : false ≡ true = out (is ∙ ap Some (eqb-true k m same)) in cc bad)
        by false same = refl

from-one : (m : ℕ) → (m == 0) ≡ false → 1 ≤ m
from-one zero is = absurd (cc is)
from-one (suc m) is = omega arith

open-is : (u : Uid) (p : ℕ) (it : Active) (q : Worker) (x : Task) → worker_at it p ≡ Some q → q.waits ≡ nothing
    → value_at nat_cmp p it.tasks ≡ Some x → PartSeated (settled_so u) it
    → (v : Variable) → may_touch it.crew p v ≡ is_open (inside_rest x.rest) v
open-is u p it q x worker ready task h v = go (v.monitor == 0) refl
  where
    inside-is : inside_at it.tasks p ≡ inside_rest x.rest
    inside-is = ap (λ o. with_item o (λ (t : Task). inside_rest t.rest) None) task

    opened : IsOpenAt (option_map (λ (y : Worker). y.waits) (value_at nat_cmp p it.crew.processes))
    opened = subst IsOpenAt (sym (ap (option_map (λ (y : Worker). y.waits)) worker ∙ ap Some ready)) tt

    into : (m : ℕ) → 1 ≤ m → holds it.crew p m ≡ true → inside_rest x.rest ≡ Some m
    into m from is = sym inside-is ∙ (h.seated.held (m - 1) p (held-there p (slice_get it.crew.monitors (m - 1)) is)).0
        ∙ ap Some (omega (arith, from))

    out : (m : ℕ) → inside_rest x.rest ≡ Some m → holds it.crew p m ≡ true
    out m is = there-held p (slice_get it.crew.monitors (m - 1)) (h.seated.holds p m opened (inside-is ∙ is)).1

    go : (b : Bool) → (v.monitor == 0) ≡ b → (b || holds it.crew p v.monitor) ≡ (b || stands_in (inside_rest x.rest) v.monitor)
    go true is = refl
    go false is = let from = from-one v.monitor is in
        sym (stands-holds it.crew p v.monitor (inside_rest x.rest) from (into v.monitor from) (out v.monitor))

-- 2. A turn

same-by : (f g : Variable → Bool) → ((v : Variable) → g v ≡ f v) → (vs : List Variable) (xs ys : List Datum) → SameWhere f vs xs ys
    → SameWhere g vs xs ys
same-by f g like [] [] [] h = tt
same-by f g like (v ∷ vs) (a ∷ xs) (b ∷ ys) h = ((λ is. h.0 (sym (like v) ∙ is)), same-by f g like vs xs ys h.1)
same-by f g like [] (a ∷ xs) ys h = absurd h
same-by f g like [] [] (b ∷ ys) h = absurd h
same-by f g like (v ∷ vs) [] ys h = absurd h
same-by f g like (v ∷ vs) (a ∷ xs) [] h = absurd h

-- of a turn from these values
record TouchesSo (u : Uid) (crew : Crew) (p : ℕ) (t : TypeTree) (k : Edentype) (vars : List Datum) (rest : Rest)
    (told : Answer) : Type 0 where
  changes : SameWhere (may_not_touch crew p) t.vars vars (turn k vars rest told u).vars
  reads : (others : List Datum) → SameWhere (may_touch crew p) t.vars vars others
      → ComesToTheSame crew p t (turn k vars rest told u) others (turn k others rest told u)

touches-declared : (u : Uid) (crew : Crew) (p : ℕ) (t : TypeTree) (vars : List Datum) (left : Left) (told : Answer)
    → ((v : Variable) → may_touch crew p v ≡ is_open (inside_rest (of_declared left)) v)
    → ((values : List Datum) → length values ≡ length t.vars → TouchesNoOther t left values told u) → length vars ≡ length t.vars
    → TouchesSo u crew p t (declared t) vars (of_declared left) told
touches-declared u crew p t vars left told like h many = record {
  changes = same-by (is_shut held) (may_not_touch crew p) (λ v. ap not (like v)) t.vars vars (process_turn t vars left told u).0
      (h vars many).changes_no_other;
  reads = λ others same.
      let x = (h vars many).reads_no_other others (same-by (may_touch crew p) (is_open held) (λ v. sym (like v)) t.vars vars others same) in
      record {
        touched = same-by (is_open held) (may_touch crew p) like t.vars (process_turn t vars left told u).0
            (process_turn t others left told u).0 x.vars;
        untouched = same-by (is_shut held) (may_not_touch crew p) (λ v. ap not (like v)) t.vars others
            (process_turn t others left told u).0 (h others (as-many (may_touch crew p) t.vars vars others same)).changes_no_other;
        rest = ap of_declared x.rest;
        effect = x.effect;
      };
}
  where
    held : Option ℕ
    held = inside_rest (of_declared left)

touches-rest : (types : List Edentype) (serves : Bool) (u : Uid) (crew : Crew) (p : ℕ) (t : TypeTree) (k : Edentype)
    (vars : List Datum) (rest : Rest) (told : Answer) → ((v : Variable) → may_touch crew p v ≡ is_open (inside_rest rest) v)
    → FitsRest types k serves rest → HasValues k vars → k ≡ declared t → TouchesSo u crew p t k vars rest told
touches-rest types serves u crew p t (native n) vars rest told like h many is = absurd (cc is)
touches-rest types serves u crew p t (declared d) vars (of_native stage) told like h many is = absurd h
touches-rest types serves u crew p t (declared d) vars (of_declared left) told like h many is =
    subst (λ (y : TypeTree). TouchesSo u crew p y (declared d) vars (of_declared left) told) (let same : d ≡ t = cc is in same)
    (touches-declared u crew p d vars left told like
    (λ values fit. turn_keeps_monitors h.earlier d left values told u h.guarded fit) many)

keeps-part : (types : List Edentype) (later : Traffic) (queued : List ℕ) (u : Uid) (p : ℕ) (it : Active) (q : Worker)
    → worker_at it p ≡ Some q → q.waits ≡ nothing → is_some (turn_of u it p) ≡ true → FitsActive types later queued it
    → PartSeated (settled_so u) it → KeepsMonitors u p it
keeps-part types later queued u p it q worker ready there fits seated t kind = go (value_at nat_cmp p it.tasks) refl there
  where
    part : (x : Task) → value_at nat_cmp p it.tasks ≡ Some x
        → TouchesSo u it.crew p t it.kind it.vars x.rest x.answer
    part x at = touches-rest types _ u it.crew p t it.kind it.vars x.rest x.answer
        (open-is u p it q x worker ready at seated) (fits.tasks p x at) fits.values kind

    its-turn : List Datum → Option Task → Option Turned
    its-turn vars o = with_item o (λ x. Some (turn it.kind vars x.rest x.answer u)) None

    own : (x : Task) → value_at nat_cmp p it.tasks ≡ Some x → TouchesItsOwn u p it t (turn it.kind it.vars x.rest x.answer u)
    own x at = record {
      changes_no_other = (part x at).changes;
      reads_no_other = λ others same. subst (λ o. IsSomeAnd (its-turn others o)
          (ComesToTheSame it.crew p t (turn it.kind it.vars x.rest x.answer u) others)) (sym at) ((part x at).reads others same);
    }

    go : (o : Option Task) → value_at nat_cmp p it.tasks ≡ o → is_some (its-turn it.vars o) ≡ true
        → IsSomeAnd (turn_of u it p) (TouchesItsOwn u p it t)
    go None at is = absurd (cc is)
    go (Some x) at is = subst (λ o. IsSomeAnd (its-turn it.vars o) (TouchesItsOwn u p it t)) (sym at) (own x at)

-- 3. An entry

some-turn : (o : Option Turned) (P : Turned → Type 0) → IsSomeAnd o P → is_some o ≡ true
some-turn None P is = absurd is
some-turn (Some t) P is = refl

-- at its node
pub keeps-at : (H : ℕ → Bool) (w : World) (n : ℕ) (node : Node) (u : Uid) (p : ℕ) (said : Shown) → SeatWorld H w
    → node_at w n ≡ Some node → AllowsAt (site_of w n node) (event.Process u p said)
    → IsSomeAnd (active_in (eject_in (site_of w n node) u)) (KeepsMonitors u p)
keeps-at H w n node u p said h at allowed = eject (value_at uid_cmp u node.ejects) refl allowed
  where
    worker : (e : Eject) → value_at uid_cmp u node.ejects ≡ Some e → (it : Active) → e.active ≡ Some it
        → (o : Option Worker) → worker_at it p ≡ o
        → IsSomeAnd o (λ q. AllowsTurn (site_of w n node) u p said it q) → KeepsMonitors u p it
    worker e is it is_it None none a = absurd a
    worker e is it is_it (Some q) works a = keeps-part w.types w.traffic e.queued u p it q works a.ready
        (some-turn (turn_of u it p) _ a.known)
        (subst (λ o. IfSome o (FitsActive w.types w.traffic e.queued)) is_it
        (h.site.tasks w.traffic (kept-itself w.traffic) n node at u e is))
        (subst (λ o. IfSome o (PartSeated (settled_so u))) is_it (h.seats n node at u e is))

    active : (e : Eject) → value_at uid_cmp u node.ejects ≡ Some e → (o : Option Active)
        → e.active ≡ o → IsSomeAnd o (λ it. IsSomeAnd (worker_at it p) (λ q. AllowsTurn (site_of w n node) u p said it q))
        → IsSomeAnd o (KeepsMonitors u p)
    active e is None none a = absurd a
    active e is (Some it) is_it a = worker e is it is_it (worker_at it p) refl a

    eject : (o : Option Eject) → value_at uid_cmp u node.ejects ≡ o
        → IsSomeAnd o (λ e. IsSomeAnd e.active (λ it. IsSomeAnd (worker_at it p) (λ q. AllowsTurn (site_of w n node) u p said it q)))
        → IsSomeAnd (active_in o) (KeepsMonitors u p)
    eject None none a = absurd a
    eject (Some e) is a = active e is e.active refl a

keeps-turn : (H : ℕ → Bool) (w : World) (u : Uid) (p : ℕ) (said : Shown) → SeatWorld H w → AllowsEvent w None (event.Process u p said)
    → EventKeepsMonitors w (event.Process u p said)
keeps-turn H w u p said h allowed = go (node_at w u.node) refl allowed
  where
    go : (o : Option Node) → node_at w u.node ≡ o
        → IsSomeAnd (with_item o (λ n. Some (site_of w u.node n)) None) (λ s. AllowsAt s (event.Process u p said))
        → IsSomeAnd (active_in (with_item o (λ n. value_at uid_cmp u n.ejects) None)) (KeepsMonitors u p)
    go None none a = absurd a
    go (Some n) at a = keeps-at H w u.node n u p said h at a

keeps-event : (H : ℕ → Bool) (w : World) (c : Option Command) (e : Event) → SeatWorld H w → AllowsEvent w c e → EventKeepsMonitors w e
keeps-event H w None (event.Process u p said) h allowed = keeps-turn H w u p said h allowed
keeps-event H w (Some c) (event.Process u p said) h allowed = absurd (no-turn w c (event.Process u p said) refl allowed)
keeps-event H w c _ h allowed = tt

keeps-looked_up : (w : World) (name : List ℕ) (target : Option Cap) (path : List (List ℕ)) (e : Event)
    → AllowsLookUp w name target path e → EventKeepsMonitors w e
keeps-looked_up w name None path (event.Process u p said) allowed = absurd allowed
keeps-looked_up w name (Some target) path (event.Process u p said) allowed = absurd allowed
keeps-looked_up w name target path _ allowed = tt

-- 4. The law

pub monitors-keep-variables : (layout : Layout) (script : Script) (disks : List DiskRun) (history : List Entry) → IsLayout layout
    → AreHandedIn layout disks → KeepRules script.types → HaveMonitors script.types → Begins layout script disks history
    → EachStep (λ past s. EventKeepsMonitors s.world s.entry.event) [] (run_of (opening_world layout script disks) script history)
monitors-keep-variables layout script disks history lays fits rules monitors begins =
    each-step Any (λ past w. SeatWorld here w) (λ past s. EventKeepsMonitors s.world s.entry.event) (record {
      entries = λ past w c e any allowed i. (keeps-event here w c e.event i allowed.event, seat-next here w c e allowed i);
      look_ups = λ past w name target path e any allowed plain i. (
        keeps-looked_up w name target path e.event allowed,
        seat-looked_up here w name target path e.event allowed i,
      );
    }) (beginning w script.nodes script.commands) [] history (of-any 1 script.nodes w script.commands)
    (subst (SeatWorld here) (sym (world-booting 1 script.nodes w script.commands))
    (seat-opening layout script disks lays fits rules monitors)) begins
  where
    w : World
    w = opening_world layout script disks

    here : ℕ → Bool
    here n = is_some (node_at w n)
