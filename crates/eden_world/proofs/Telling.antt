-- The loop that tells the processes elsewhere, step by step.
use Rattle.std.proofs.Common.{◌≡◌, ◌==◌, ◌≤◌, ℕ, Bool, true, false, cond, List, [], ◌∷◌, ◌++◌, Option, None, Some, refl}
use Rattle.std.proofs.Common.{sym, ◌∙◌, ap}
use Rattle.std.proofs.Common.{subst, arith, inl, inr}
use Rattle.std.specs.Prelude.{IsSomeAnd}
use Rattle.std.specs.List.{filter_map, cons_option, AllByRecursion}
use Rattle.std.specs.Option.{option_map}
use Rattle.std.specs.Ordering.{nat_cmp, eq_by_cmp}
use Rattle.std.proofs.lemmas.Bool.{eqb-true}
use Rattle.std.proofs.lemmas.List.{append_assoc, append-nil}
use Rattle.capability.specs.declared.Uid.{Uid}
use Rattle.eden_value.specs.declared.status.Status.TheVariants as status
use Rattle.eden_model.specs.Crew.{Crew, nothing, set_waits}
use Rattle.eden_model.specs.Map.{with_item, value_at, uid_cmp}
use Rattle.eden_model.specs.Traffic.{Traffic, shell_name, waiting_process}
use Rattle.eden_model.specs.declared.Asker.TheVariants.{Shell, Eject as Process}
use Rattle.epl_syntax.specs.declared.effect.Answer.{Answer}
use Rattle.epl_syntax.specs.declared.effect.Answer.TheVariants.{Reply as Answered}
use Rattle.invocation.specs.declared.call.Call.{Call}
use Rattle.invocation.specs.Mail.{Mail}
use Rattle.invocation.specs.Numbers.{item_in}
use Rattle.invocation.specs.Carries.{Carries}
use Rattle.locator.specs.Reach.{Stations, node_up_at, joined_at}
use Rattle.passive_store.specs.Kept.{Layout}
use Rattle.passive_store.specs.Seen.{Seen}
use Rattle.journal.specs.declared.event.Key.{Key}
use Rattle.journal.specs.World.{World, Node, Site, Eject, Active, node_at, site_of, at_node, eject_in, on_eject}
use Rattle.journal.specs.Ejects.{tells, told, on_active, with_active}
use Rattle.journal.specs.Crashes.{tells_each}
use Rattle.history_laws.proofs.Frame.{node-at_node, after_at, eject-on_eject}
use Rattle.history_laws.proofs.SiteCrews.{Loose, waits_outside, waits_not}
use Rattle.history_laws.proofs.SiteWorlds.{at-none, loose-told, traffic-tells}
use Rattle.active_part.specs.Body.{Body, active_of}
use Rattle.ejects.specs.Marks.{IsLoose, IsLooseIn}
use Rattle.ejects.specs.Parts.{Parts, Stands, Known, known, body_at}
use Rattle.ejects.specs.View.{parts_of}
use Rattle.ejects.proofs.KeptClasses.{Keeps}
use Rattle.ejects.proofs.Keeping.{keeps-same}
use Rattle.eden_kernel.specs.Stands.{Held, NodeStands}
use Rattle.eden_kernel.specs.Turns.{told_broken}
use Rattle.eden_world.specs.Worlds.{Seat, up, down, InHand, WorldStands, SeatStands, UpStands}
use Rattle.eden_world.specs.Steps.{disk_of, TakesSeat}
use Rattle.eden_world.specs.Told.{Reseats, waiting_at, name_at, CanBeTold, IsLooseAt, IsToldNode, marked, IsTelling, Tells}
use Rattle.eden_world.proofs.Alike.{Alike, node-alike}
use Rattle.eden_world.proofs.NodeKeys.{numbers-at_node}
use Rattle.eden_world.proofs.Reseating.{Renodes, renodes-other, traffic-marked}
use Rattle.eden_world.proofs.Reseating.{node-marked_other}
use Rattle.eden_world.proofs.Reseating.{node-marked_none}
use Rattle.eden_world.proofs.Reseating.{reseated, ups-kept}

abbrev broken : Answer
broken = Answered status.Broken []

-- the world once this one process was told
abbrev tells_one : Uid × ℕ → World → World
tells_one q w = at_node q.0.node (tells q.0 q.1 broken) w

-- 1. Who can be told can still be told behind others

loose-behind : (crew : Crew) (q p : ℕ) → IsLoose crew q → IsLoose (set_waits p nothing crew) q
loose-behind crew q p l = back (loose-told crew q p (there l))
  where
    there : IsLoose crew q → Loose crew q
    there (inl waits) = waits_outside waits
    there (inr runs) = waits_not runs

    back : Loose (set_waits p nothing crew) q → IsLoose (set_waits p nothing crew) q
    back (waits_outside waits) = inl waits
    back (waits_not runs) = inr runs

active-told : (p q : ℕ) (a : Answer) (e : Eject) (o : Option Active) → e.active ≡ o → IsSomeAnd o (λ it. IsLoose it.crew q)
    → IsSomeAnd (with_item o (λ it. with_active (Some (told p a it)) e) e).active (λ it. IsLoose it.crew q)
active-told p q a e None is h = absurd h
active-told p q a e (Some it) is h = loose-behind it.crew q p h

active-tells : (u v : Uid) (p q : ℕ) (a : Answer) (s : Site) → IsLooseAt (eject_in s v) q → IsLooseAt (eject_in (tells u p a s) v) q
active-tells u v p q a s h = subst (λ o. IsLooseAt o q) (sym (eject-on_eject u v (on_active (told p a)) s))
    (go (eq_by_cmp uid_cmp v u) (eject_in s v) h)
  where
    go : (b : Bool) (o : Option Eject) → IsLooseAt o q → IsLooseAt (cond b (option_map (on_active (told p a)) o) o) q
    go true None h = h
    go true (Some e) h = active-told p q a e e.active refl h
    go false o h = h

can-behind : (n : ℕ) (w : World) (q r : Uid × ℕ) → CanBeTold n w r → CanBeTold n (tells_one q w) r
can-behind n w q r can it at = go (eq_by_cmp nat_cmp r.0.node q.0.node) refl (node_at w r.0.node) refl
    (sym (node-at_node r.0.node q.0.node (tells q.0 q.1 broken) w) ∙ at)
  where
    go : (b : Bool) → eq_by_cmp nat_cmp r.0.node q.0.node ≡ b → (o : Option Node) → node_at w r.0.node ≡ o
        → cond (eq_by_cmp nat_cmp r.0.node q.0.node) (option_map (after_at q.0.node (tells q.0 q.1 broken) w) (node_at w r.0.node))
        (node_at w r.0.node) ≡ Some it
        → ((r.0.node == n) ≡ false) × IsLooseAt (eject_in (site_of (tells_one q w) r.0.node it) r.0) r.1
    go false other o is found = can it (sym (ap (λ b. cond b (option_map (after_at q.0.node (tells q.0 q.1 broken) w) (node_at w r.0.node))
        (node_at w r.0.node)) other) ∙ found)
    go true same None is found = absurd (let bad : None ≡ Some it =
        sym (ap (λ o. option_map (after_at q.0.node (tells q.0 q.1 broken) w) o) is)
        ∙ sym (ap (λ b. cond b (option_map (after_at q.0.node (tells q.0 q.1 broken) w) (node_at w r.0.node)) (node_at w r.0.node)) same)
        ∙ found in cc bad)
    go true same (Some jt) is found =
        let both : Some (after_at q.0.node (tells q.0 q.1 broken) w jt) ≡ Some it =
        sym (ap (λ o. option_map (after_at q.0.node (tells q.0 q.1 broken) w) o) is)
        ∙ sym (ap (λ b. cond b (option_map (after_at q.0.node (tells q.0 q.1 broken) w) (node_at w r.0.node)) (node_at w r.0.node)) same)
        ∙ found in
        let node_is : after_at q.0.node (tells q.0 q.1 broken) w jt ≡ it = cc both in
        let was = can jt is in (
          was.0,
          subst (λ (x : Node). IsLooseAt (value_at uid_cmp r.0 x.ejects) r.1) node_is
              (active-tells q.0 r.0 q.1 r.1 broken (site_of w q.0.node jt) was.1),
        )

all-behind : (n : ℕ) (w : World) (q : Uid × ℕ) (qs : List (Uid × ℕ)) → AllByRecursion (CanBeTold n w) qs
    → AllByRecursion (CanBeTold n (tells_one q w)) qs
all-behind n w q [] all = tt
all-behind n w q (r ∷ qs) all = (can-behind n w q r all.0, all-behind n w q qs all.1)

-- 2. An Eject that is active has its active part in hand

pub body-loose : (n : Parts) (s : Site) (u : Uid) (p : ℕ) → Stands n s → IsLooseAt (eject_in s u) p → IsLooseIn (body_at n u) p
body-loose n s u p h loose = mapped (body_at n u) (subst (λ (k : Known). IsSomeAnd k.active (λ it. IsLoose it.crew p)) (h.ejects u)
    (shown (eject_in s u) loose))
  where
    mapped : (o : Option Body) → IsSomeAnd (option_map active_of o) (λ it. IsLoose it.crew p) → IsLooseIn o p
    mapped None x = x
    mapped (Some b) x = x

    shown : (o : Option Eject) → IsLooseAt o p → IsSomeAnd (known o).active (λ it. IsLoose it.crew p)
    shown None x = x
    shown (Some e) x = x

-- 3. One number more: the shell asked the call, or there is none

pub tell-nobody : (layout : Layout) (more : ℕ) (key : Option Key) (n clock : ℕ) (last : World) (h : InHand) (k : ℕ) (left : List ℕ)
    → IsTelling layout more key n clock last h (k ∷ left) → waiting_at h.mail k ≡ None → IsTelling layout more key n clock last h left
tell-nobody layout more key n clock last h k left t none = record {
  world = t.world;
  numbers = t.numbers;
  stands = t.stands;
  can = subst (λ o. AllByRecursion (CanBeTold n t.world) (cons_option o (filter_map (waiting_at h.mail) left))) none t.can;
  ends = ap (λ o. tells_each (cons_option o (filter_map (waiting_at h.mail) left)) t.world) (sym none) ∙ t.ends;
}

-- it is a process of no node, or of one that is down
abbrev pub IsNotUp : Option Seat → Type 0
IsNotUp None = Unit {0}
IsNotUp (Some (up h)) = ⊥
IsNotUp (Some (down noted d)) = Unit {0}

not-active : (s : Site) (u : Uid) (p : ℕ) → ((e : Eject) → eject_in s u ≡ Some e → e.active ≡ None) → IsLooseAt (eject_in s u) p → ⊥
not-active s u p none loose = go (eject_in s u) refl loose
  where
    go : (o : Option Eject) → eject_in s u ≡ o → IsLooseAt o p → ⊥
    go None is x = x
    go (Some e) is x = subst (λ o. IsSomeAnd o (λ it. IsLoose it.crew p)) (none e is) x

pub tell-none : (layout : Layout) (more : ℕ) (key : Option Key) (n clock : ℕ) (last : World) (h : InHand) (k : ℕ) (left : List ℕ)
    (u : Uid) (p : ℕ) → IsTelling layout more key n clock last h (k ∷ left) → waiting_at h.mail k ≡ Some (u, p) → IsNotUp (h.seats u.node)
    → IsTelling layout more key n clock last h left
tell-none layout more key n clock last h k left u p t some not_up = record {
  world = t.world;
  numbers = t.numbers;
  stands = t.stands;
  can = can.1;
  ends = ap (tells_each (filter_map (waiting_at h.mail) left)) (sym (at-none u.node (tells u p broken) t.world absent)) ∙ ends;
}
  where
    can : CanBeTold n t.world (u, p) × AllByRecursion (CanBeTold n t.world) (filter_map (waiting_at h.mail) left)
    can = subst (λ o. AllByRecursion (CanBeTold n t.world) (cons_option o (filter_map (waiting_at h.mail) left))) some t.can

    ends : tells_each (filter_map (waiting_at h.mail) left) (tells_one (u, p) t.world) ≡ last
    ends = ap (λ o. tells_each (cons_option o (filter_map (waiting_at h.mail) left)) t.world) (sym some) ∙ t.ends

    by_seat : (it : Node) → IsLooseAt (eject_in (site_of t.world u.node it) u) p → (o : Option Seat) → IsNotUp o
        → IsSomeAnd o (SeatStands layout h.types h.mail more (site_of (marked key n clock t.world) u.node it)) → ⊥
    by_seat it loose None x stands = stands
    by_seat it loose (Some (up a)) x stands = x
    by_seat it loose (Some (down noted d)) x stands = not-active (site_of t.world u.node it) u p
        (λ e is. (stands.asleep u e is).passive) loose

    absent : node_at t.world u.node ≡ None
    absent = go (node_at t.world u.node) refl
      where
        go : (o : Option Node) → node_at t.world u.node ≡ o → o ≡ None
        go None is = refl
        go (Some it) is = absurd (let x = can.0 it is in by_seat it x.1 (h.seats u.node) not_up
            (t.stands.nodes u.node it (node-marked_other key n clock t.world u.node x.0 ∙ is)))

-- 4. A process of a node that is up

up-tells : (u : Uid) (p : ℕ) (a : Answer) (s : Site) → (tells u p a s).node.up ≡ s.node.up
unfolding on_eject
up-tells u p a s = refl

alike-tells : (u : Uid) (p : ℕ) (a : Answer) (s : Site) (v w : World) (m : ℕ) (it : Node) → s ≡ site_of v m it → w.types ≡ v.types
    → w.layout ≡ v.layout → Alike (tells u p a s) (site_of w m (tells u p a s).node)
unfolding on_eject
alike-tells u p a s v w m it same types layout = record {
  number = ap (λ (x : Site). x.number) (sym same);
  types = types ∙ ap (λ (x : Site). x.types) (sym same);
  layout = layout ∙ ap (λ (x : Site). x.layout) (sym same);
  node = refl;
}

node-tells : (u : Uid) (p : ℕ) (a : Answer) (s t : Site) → t.node ≡ s.node → (tells u p a t).node ≡ (tells u p a s).node
unfolding on_eject
node-tells u p a s t same = ap (λ (it : Node). (tells u p a (record s { node = it })).node) same

traffic-told : (u : Uid) (p : ℕ) (a : Answer) (s : Site) → (tells u p a s).traffic ≡ s.traffic
unfolding on_eject
traffic-told u p a s = refl

pub tell-up : (layout : Layout) (more : ℕ) (key : Option Key) (n clock : ℕ) (last : World) (old new : InHand) (k : ℕ) (left : List ℕ)
    (u : Uid) (p : ℕ) (a b : Held) → IsTelling layout more key n clock last old (k ∷ left) → waiting_at old.mail k ≡ Some (u, p)
    → old.seats u.node ≡ Some (up a) → IsToldNode layout u p a b → TakesSeat u.node (up b) old.mail old new
    → IsTelling layout more key n clock last new left
tell-up layout more key n clock last old new k left u p a b t some seat was_told takes = go (node_at t.world u.node) refl
  where
    left_now : List (Uid × ℕ)
    left_now = filter_map (waiting_at new.mail) left

    same_left : filter_map (waiting_at old.mail) left ≡ left_now
    same_left = ap (λ m. filter_map (waiting_at m) left) (sym takes.mail)

    can : CanBeTold n t.world (u, p) × AllByRecursion (CanBeTold n t.world) left_now
    can = subst (λ l. CanBeTold n t.world (u, p) × AllByRecursion (CanBeTold n t.world) l) same_left
        (subst (λ o. AllByRecursion (CanBeTold n t.world) (cons_option o (filter_map (waiting_at old.mail) left))) some t.can)

    ends : tells_each left_now (tells_one (u, p) t.world) ≡ last
    ends = subst (λ l. tells_each l (tells_one (u, p) t.world) ≡ last) same_left
        (ap (λ o. tells_each (cons_option o (filter_map (waiting_at old.mail) left)) t.world) (sym some) ∙ t.ends)

    before : World
    before = marked key n clock t.world

    after : World
    after = marked key n clock (tells_one (u, p) t.world)

    seats : Reseats u.node (up b) old new
    seats = record { types = takes.types; here = takes.here; others = takes.others; names = takes.names }

    told_world : (it : Node) → node_at t.world u.node ≡ Some it → WorldStands layout more new after
    told_world it at = reseated layout more more old new before after u.node (up b) later t.stands (omega arith) seats nodes
        (record {
          number = number;
          whole = was_told.whole;
          stands = stands;
          told = subst (λ (x : Seen). more ≤ x.more) (sym was_told.seen)
              here.told;
        })
        (subst (λ m. Carries m after.traffic) (sym takes.mail) carries) keeps
        (λ m. ap (λ (pl : Stations). node_up_at pl m) takes.places ∙ t.stands.ups m ∙ sym
        (ups-kept u.node later it before after nodes before_at (up-tells u p broken site) m))
        (λ x y le ly. ap (λ (pl : Stations). joined_at pl x y) takes.places)
      where
        x : ((u.node == n) ≡ false) × IsLooseAt (eject_in (site_of t.world u.node it) u) p
        x = can.0 it at

        site : Site
        site = site_of t.world u.node it

        later : Node
        later = (tells u p broken site).node

        before_at : node_at before u.node ≡ Some it
        before_at = node-marked_other key n clock t.world u.node x.0 ∙ at

        nodes : Renodes u.node later before after
        nodes = renodes-other key n clock u.node (tells u p broken) t.world it x.0 t.numbers at

        here : UpStands layout old.types old.mail more (site_of before u.node it) a
        here = subst (λ o. IsSomeAnd o (SeatStands layout old.types old.mail more (site_of before u.node it))) seat
            (t.stands.nodes u.node it before_at)

        number : b.number ≡ u.node
        number = was_told.whole.number ∙ ap (λ (s : Seen). s.node) was_told.seen ∙ sym here.whole.number ∙ here.number

        traffic : after.traffic ≡ before.traffic
        traffic = traffic-marked key n clock (tells_one (u, p) t.world) ∙ traffic-tells u.node u p broken t.world
            ∙ sym (traffic-marked key n clock t.world)

        keeps : Keeps before.traffic after.traffic
        keeps = keeps-same before.traffic after.traffic (ap (λ (y : Traffic). y.calls) traffic)

        carries : Carries old.mail after.traffic
        carries = subst (Carries old.mail) (sym traffic) t.stands.calls

        at_site : NodeStands layout old.types b old.mail (told_broken u p (site_of before u.node it))
        at_site = was_told.stands old.types old.mail (site_of before u.node it)
            (body-loose (parts_of old.types a.ejects) (site_of before u.node it) u p here.stands.calls.parts x.1) here.stands

        same_node : later ≡ (told_broken u p (site_of before u.node it)).node
        same_node = node-tells u p broken (site_of before u.node it) site refl

        alike : Alike (told_broken u p (site_of before u.node it)) (site_of after u.node later)
        alike = subst (λ j. Alike (told_broken u p (site_of before u.node it)) (site_of after u.node j)) (sym same_node)
            (alike-tells u p broken (site_of before u.node it) before after u.node it refl nodes.types nodes.layout)

        stands : NodeStands layout old.types b new.mail (site_of after u.node later)
        stands = node-alike layout old.types b old.mail new.mail (told_broken u p (site_of before u.node it)) (site_of after u.node later)
            alike
            (keeps-same _ after.traffic (ap (λ (y : Traffic). y.calls)
            (traffic ∙ sym (traffic-told u p broken (site_of before u.node it)))))
            (subst (λ m. Carries m after.traffic) (sym takes.mail) carries) at_site

    go : (o : Option Node) → node_at t.world u.node ≡ o → IsTelling layout more key n clock last new left
    go None is = absurd (let bad : None ≡ Some (up a) =
        sym (t.stands.no_more u.node (node-marked_none key n clock t.world u.node is)) ∙ seat in cc bad)
    go (Some it) is = record {
      world = tells_one (u, p) t.world;
      numbers = numbers-at_node u.node (tells u p broken) t.world t.numbers;
      stands = told_world it is;
      can = all-behind n t.world (u, p) left_now can.1;
      ends = ends;
    }

-- 5. All are told

pub telling-done : (layout : Layout) (more : ℕ) (key : Option Key) (n clock : ℕ) (last : World) (h : InHand)
    → IsTelling layout more key n clock last h [] → WorldStands layout more h (marked key n clock last)
telling-done layout more key n clock last h t = subst (λ w. WorldStands layout more h (marked key n clock w)) t.ends t.stands

-- 6. The loop

pub tells-start : (layout : Layout) (h : InHand) (numbers : List ℕ) → Tells layout h h numbers numbers []
tells-start layout h numbers = record { on = λ more key n clock last t. t; mail = refl; disks = λ m. refl; listed = refl }

-- by who asked the call of a number
pub asked-by_shell : (m : Mail) (k : ℕ) (c : Call) (name : List ℕ) → item_in k m.calls ≡ Some c → c.asker ≡ Shell name
    → (name_at m k ≡ Some name) × (waiting_at m k ≡ None)
asked-by_shell m k c name is asker = (
  ap (λ o. with_item o (λ (d : Call). shell_name d.asker) None) is ∙ ap shell_name asker,
  ap (λ o. with_item o (λ (d : Call). waiting_process d.asker) None) is ∙ ap waiting_process asker,
)

pub asked-by_process : (m : Mail) (k : ℕ) (c : Call) (u : Uid) (p : ℕ) → item_in k m.calls ≡ Some c → c.asker ≡ Process u p
    → (name_at m k ≡ None) × (waiting_at m k ≡ Some (u, p))
asked-by_process m k c u p is asker = (
  ap (λ o. with_item o (λ (d : Call). shell_name d.asker) None) is ∙ ap shell_name asker,
  ap (λ o. with_item o (λ (d : Call). waiting_process d.asker) None) is ∙ ap waiting_process asker,
)

pub asked-by_nobody : (m : Mail) (k : ℕ) → item_in k m.calls ≡ None → (name_at m k ≡ None) × (waiting_at m k ≡ None)
asked-by_nobody m k is = (
  ap (λ o. with_item o (λ (d : Call). shell_name d.asker) None) is,
  ap (λ o. with_item o (λ (d : Call). waiting_process d.asker) None) is,
)

-- the shell asked it: its name is listed
pub tells-shell : (layout : Layout) (start now : InHand) (numbers : List ℕ) (k : ℕ) (left : List ℕ) (names : List (List ℕ)) (c : Call)
    (name : List ℕ) → Tells layout start now numbers (k ∷ left) names → item_in k now.mail.calls ≡ Some c → c.asker ≡ Shell name
    → Tells layout start now numbers left (names ++ name ∷ [])
tells-shell layout start now numbers k left names c name t is asker =
    let by = asked-by_shell now.mail k c name is asker in
    let named : name_at start.mail k ≡ Some name = ap (λ m. name_at m k) (sym t.mail) ∙ by.0 in
    record {
      on = λ more key n clock last x. tell-nobody layout more key n clock last now k left (t.on more key n clock last x) by.1;
      mail = t.mail;
      disks = t.disks;
      listed = append_assoc names (name ∷ []) (filter_map (name_at start.mail) left)
          ∙ ap (λ o. names ++ cons_option o (filter_map (name_at start.mail) left)) (sym named) ∙ t.listed;
    }

-- there is no such call
pub tells-nobody : (layout : Layout) (start now : InHand) (numbers : List ℕ) (k : ℕ) (left : List ℕ) (names : List (List ℕ))
    → Tells layout start now numbers (k ∷ left) names → item_in k now.mail.calls ≡ None → Tells layout start now numbers left names
tells-nobody layout start now numbers k left names t is =
    let by = asked-by_nobody now.mail k is in
    record {
      on = λ more key n clock last x. tell-nobody layout more key n clock last now k left (t.on more key n clock last x) by.1;
      mail = t.mail;
      disks = t.disks;
      listed = ap (λ o. names ++ cons_option o (filter_map (name_at start.mail) left)) (sym (ap (λ m. name_at m k) (sym t.mail) ∙ by.0))
          ∙ t.listed;
    }

-- a process asked it whose node is not up
pub tells-none : (layout : Layout) (start now : InHand) (numbers : List ℕ) (k : ℕ) (left : List ℕ) (names : List (List ℕ)) (c : Call)
    (u : Uid) (p : ℕ) → Tells layout start now numbers (k ∷ left) names → item_in k now.mail.calls ≡ Some c → c.asker ≡ Process u p
    → IsNotUp (now.seats u.node) → Tells layout start now numbers left names
tells-none layout start now numbers k left names c u p t is asker not_up =
    let by = asked-by_process now.mail k c u p is asker in
    record {
      on = λ more key n clock last x. tell-none layout more key n clock last now k left u p (t.on more key n clock last x) by.1 not_up;
      mail = t.mail;
      disks = t.disks;
      listed = ap (λ o. names ++ cons_option o (filter_map (name_at start.mail) left)) (sym (ap (λ m. name_at m k) (sym t.mail) ∙ by.0))
          ∙ t.listed;
    }

-- a process asked it whose node is up, and was told
pub tells-up : (layout : Layout) (start now new : InHand) (numbers : List ℕ) (k : ℕ) (left : List ℕ) (names : List (List ℕ)) (c : Call)
    (u : Uid) (p : ℕ) (a b : Held) → Tells layout start now numbers (k ∷ left) names → item_in k now.mail.calls ≡ Some c
    → c.asker ≡ Process u p → now.seats u.node ≡ Some (up a) → IsToldNode layout u p a b → TakesSeat u.node (up b) now.mail now new
    → Tells layout start new numbers left names
tells-up layout start now new numbers k left names c u p a b t is asker seat was_told takes =
    let by = asked-by_process now.mail k c u p is asker in
    record {
      on = λ more key n clock last x. tell-up layout more key n clock last now new k left u p a b (t.on more key n clock last x) by.1 seat
          was_told takes;
      mail = takes.mail ∙ t.mail;
      disks = λ m. same m (m == u.node) refl ∙ t.disks m;
      listed = ap (λ o. names ++ cons_option o (filter_map (name_at start.mail) left)) (sym (ap (λ m. name_at m k) (sym t.mail) ∙ by.0))
          ∙ t.listed;
    }
  where
    same : (m : ℕ) (x : Bool) → (m == u.node) ≡ x → option_map disk_of (new.seats m) ≡ option_map disk_of (now.seats m)
    same m false other = ap (option_map disk_of) (takes.others m other)
    same m true here = let at : m ≡ u.node = eqb-true m u.node here in
        ap (λ j. option_map disk_of (new.seats j)) at ∙ ap (option_map disk_of) takes.here
        ∙ ap (λ (s : Seen). Some s.disk) was_told.seen ∙ sym (ap (option_map disk_of) seat) ∙ ap (λ j. option_map disk_of (now.seats j))
        (sym at)

-- nothing is left
pub tells-end : (layout : Layout) (start now : InHand) (numbers : List ℕ) (names : List (List ℕ)) → Tells layout start now numbers [] names
    → names ≡ filter_map (name_at start.mail) numbers
tells-end layout start now numbers names t = sym (append-nil names) ∙ t.listed
