-- A process that lets others go on leaves the enabled keys as they are.
use Rattle.std.proofs.Common.{◌≡◌, ℕ, Bool, true, false, cond, T, ◌&&◌, List, [], ◌∷◌, ◌++◌, map, Option, None, Some, refl, ap, sym, ◌∙◌}
use Rattle.std.proofs.Common.{subst, is_some}
use Rattle.std.specs.Prelude.{IsSomeAnd}
use Rattle.std.specs.List.{filter, flat_map}
use Rattle.std.specs.declared.cmp.Ordering.{Ordering}
use Rattle.std.specs.declared.cmp.Ordering.TheVariants.{Less, Equal, Greater}
use Rattle.std.specs.Ordering.{nat_cmp, is_eq, is_lt}
use Rattle.std.specs.Cmp.{IsTotalOrder, nat_cmp_total}
use Rattle.std.specs.FinMap.Entries.{find, put, below_all, is_sorted, by_order, is_sorted-put}
use Rattle.capability.specs.declared.Uid.{Uid}
use Rattle.capability.proofs.Uids.{uid_cmp_total}
use Rattle.eden_model.specs.Map.{with_item, uid_cmp, value_at, changed_at}
use Rattle.eden_model.specs.Crew.{Process as Worker}
use Rattle.eden_model.specs.Traffic.{next_message}
use Rattle.epl_syntax.specs.declared.effect.Effect.TheVariants as effect
use Rattle.epl_syntax.specs.Meaning.{Turned}
use Rattle.journal.specs.declared.event.Entry.{Entry}
use Rattle.journal.specs.declared.event.Event.TheVariants.{Process}
use Rattle.journal.specs.declared.event.Key.{Key}
use Rattle.journal.specs.declared.event.Shown.TheVariants.{Yield}
use Rattle.journal.specs.World.{World, Site, Node, Eject, Active, site_of, site_at, node_at, eject_in, on_eject, at_node, with_site}
use Rattle.journal.specs.World.{reaches}
use Rattle.journal.specs.Ejects.{on_active}
use Rattle.journal.specs.Enabled.{delivery, activity, is_to_activate, is_startable, ready, activations, starts, store_of, node_keys}
use Rattle.journal.specs.Enabled.{stations, deliveries, enabled, following}
use Rattle.journal.specs.Processes.{AllowsTurn, turned, turn_of, serving, worker_at, effected, active_turn, turn_taken}
use Rattle.journal.specs.Processes.{process_turn, shown_of}
use Rattle.journal.specs.Step.{Allows, AllowsAt, AllowsEvent, next, counted, clocked, key_of, touched, happened, after_turn}
use Rattle.journal.proofs.Shows.{yields}
use Rattle.runs.specs.Reached.{IsReached}
use Rattle.runs.specs.Runs.{IsYield, Repeats}

-- 1. A value that is replaced in a list that ascends
module _ {K X : Type 0} (R : K → K → Ordering) (k : K) where
  absent : (es : List (K × X)) → T (below_all R k es) → find R k es ≡ None
  absent [] h = refl
  absent (e ∷ es) h = go (R k e.0) (absent es) h
    where
      go : (r : Ordering) → (T (below_all R k es) → find R k es ≡ None) → T (is_lt r && below_all R k es)
          → cond (is_eq r) (Some e.1) (find R k es) ≡ None
      go Less later h = later h
      go Equal later h = absurd h
      go Greater later h = absurd h

module _ {K X Y : Type 0} (R : K → K → Ordering) (o : IsTotalOrder R) (k : K) (x y : X) where
  pub replaced : (g : K × X → List Y) → ((q : K) → g (q, y) ≡ g (q, x)) → (es : List (K × X)) → T (is_sorted R es)
      → find R k es ≡ Some x → flat_map g (put R k y es) ≡ flat_map g es
  replaced g same [] sorted there = absurd (cc there)
  replaced g same (e ∷ es) sorted there =
      go (R k e.0) there (is_sorted-put R o k y (e ∷ es) sorted) (replaced g same es (behind (below_all R e.0 es) (is_sorted R es) sorted))
    where
      behind : (a b : Bool) → T (a && b) → T b
      behind true b h = h
      behind false b h = absurd h

      front : (a b : Bool) → T (a && b) → T a
      front true b h = tt
      front false b h = absurd h

      go : (r : Ordering) → cond (is_eq r) (Some e.1) (find R k es) ≡ Some x
          → T (is_sorted R (by_order r ((k, y) ∷ e ∷ es) ((e.0, y) ∷ es) (e ∷ put R k y es)))
          → (find R k es ≡ Some x → flat_map g (put R k y es) ≡ flat_map g es)
          → flat_map g (by_order r ((k, y) ∷ e ∷ es) ((e.0, y) ∷ es) (e ∷ put R k y es)) ≡ flat_map g (e ∷ es)
      go Equal there sorted later =
          let is : e.1 ≡ x = cc in ap (λ l. l ++ flat_map g es) (same e.0 ∙ ap (λ v. g (e.0, v)) (sym is))
      go Greater there sorted later = ap (λ l. g e ++ l) (later there)
      go Less there sorted later =
          let below = front (below_all R k (e ∷ es)) (is_sorted R (e ∷ es)) sorted in
          let none = absent R k es (behind (is_lt (R k e.0)) (below_all R k es) below) in
          absurd (let bad : None ≡ Some x = sym none ∙ there in cc bad)

singles : {X Y : Type 0} (f : X → Y) (xs : List X) → flat_map (λ x. f x ∷ []) xs ≡ map f xs
singles f [] = refl
singles f (x ∷ xs) = ap (λ l. f x ∷ l) (singles f xs)

-- 2. An Eject whose process let others go on
module _ (s : Site) (u : Uid) (p : ℕ) (t : Turned) (e : Eject) (it : Active) (sorted : T (is_sorted uid_cmp s.node.ejects))
    (there : eject_in s u ≡ Some e) (active : e.active ≡ Some it) where
  abbrev after : Eject
  after = record e { active = Some (turned p t it) }

  abbrev activates : Uid → Eject → List Key
  activates v f = cond (is_to_activate s v f) (activity s.number 2 v 0 ∷ []) []

  abbrev starts_one : Uid → Eject → List Key
  starts_one v f = cond (is_startable s.traffic f) (activity s.number 3 v 0 ∷ []) []

  abbrev runs_one : Uid → Eject → List Key
  runs_one v f = with_item f.active (ready v) []

  same_activates : (v : Uid) → activates v after ≡ activates v e
  same_activates v = sym (ap (λ a. activates v (record e { active = a })) active)

  same_starts : (v : Uid) → starts_one v after ≡ starts_one v e
  same_starts v = sym (ap (λ a. starts_one v (record e { active = a })) active)

  same_runs : (v : Uid) → runs_one v after ≡ runs_one v e
  same_runs v = sym (ap (λ a. with_item a (ready v) []) active)

  changed : on_active (turned p t) e ≡ after
  changed = ap (λ a. with_item a (λ x. record e { active = Some (turned p t x) }) e) active

  pub same_site : node_keys (on_eject u (on_active (turned p t)) s) ≡ node_keys s
  unfolding on_eject
  same_site =
      let es = s.node.ejects in
      let new = put uid_cmp u after es in
      let place : on_eject u (on_active (turned p t)) s ≡ record s { node = record s.node { ejects = new } } =
      ap (λ o. record s { node = record s.node { ejects = with_item o (λ x. put uid_cmp u (on_active (turned p t) x) es) es } }) there
      ∙ ap (λ x. record s { node = record s.node { ejects = put uid_cmp u x es } }) changed in
      ap node_keys place
      ∙ ap (λ l. l ++ flat_map (λ x. starts_one x.0 x.1) new ++ flat_map (λ x. runs_one x.0 x.1) new ++ store_of s)
      (replaced uid_cmp uid_cmp_total u e after (λ x. activates x.0 x.1) same_activates es sorted there)
      ∙ ap (λ l. activations s ++ l ++ flat_map (λ x. runs_one x.0 x.1) new ++ store_of s)
      (replaced uid_cmp uid_cmp_total u e after (λ x. starts_one x.0 x.1) same_starts es sorted there)
      ∙ ap (λ l. activations s ++ starts s ++ l ++ store_of s)
      (replaced uid_cmp uid_cmp_total u e after (λ x. runs_one x.0 x.1) same_runs es sorted there)

-- 3. The world after it

-- an item of which something holds
some_and : {X : Type 0} (o : Option X) (P : X → Type 0) → IsSomeAnd o P → (x : X) × (o ≡ Some x) × P x
some_and None P h = absurd h
some_and (Some x) P h = (x, refl, h)

module _ (w : World) (u : Uid) (p : ℕ) (t : Turned) (n : Node) (e : Eject) (it : Active) (ordered : T (is_sorted nat_cmp w.nodes))
    (sorted : T (is_sorted uid_cmp n.ejects)) (at : node_at w u.node ≡ Some n) (there : value_at uid_cmp u n.ejects ≡ Some e)
    (active : e.active ≡ Some it) where
  abbrev left : Node
  left = record n { ejects = changed_at uid_cmp u (on_active (turned p t)) n.ejects }

  abbrev here : List ℕ → ℕ → Node → List Key
  here from k m = map (delivery k) (filter (λ j. is_some (next_message w.traffic j k)) from) ++ node_keys (site_of w k m)

  same_here : (k : ℕ) → here (stations w) k left ≡ here (stations w) k n
  unfolding on_eject
  same_here k =
      ap (λ l. map (delivery k) (filter (λ j. is_some (next_message w.traffic j k)) (stations w)) ++ l)
      (same_site (site_of w k n) u p t e it sorted there active)

  abbrev gone_on : World
  gone_on = record w { nodes = put nat_cmp u.node left w.nodes }

  same_stations : stations gone_on ≡ stations w
  same_stations =
      let keys = replaced nat_cmp nat_cmp_total u.node n left (λ x. x.0 ∷ []) (λ q. refl) w.nodes ordered at in
      ap (λ l. 0 ∷ l) (sym (singles (λ x. x.0) (put nat_cmp u.node left w.nodes)) ∙ keys ∙ singles (λ x. x.0) w.nodes)

  pub same_enabled : enabled gone_on ≡ enabled w
  same_enabled =
      let of : List ℕ → List Key = λ from. map (delivery 0) (filter (λ j. is_some (next_message w.traffic j 0)) from) in
      ap (λ from. of from ++ flat_map (λ x. here from x.0 x.1) (put nat_cmp u.node left w.nodes)) same_stations
      ∙ ap (λ l. deliveries w 0 ++ l)
      (replaced nat_cmp nat_cmp_total u.node n left (λ x. here (stations w) x.0 x.1) same_here w.nodes ordered at)

  -- the world that is meant is that one
  pub same_after : turn_of u it p ≡ Some t → t.effect ≡ effect.Yield → enabled (after_turn w (Process u p Yield)) ≡ enabled w
  unfolding at_node on_eject
  same_after turn yields =
      let reach = reaches w u.node in
      let s = site_of w u.node n in
      let taken : process_turn reach u p s ≡ on_eject u (on_active (turned p t)) s =
      ap (λ o. with_item o (λ f. with_item f.active (λ a. active_turn reach u p a s) s) s) there
      ∙ ap (λ o. with_item o (λ a. active_turn reach u p a s) s) active
      ∙ ap (λ o. with_item o (λ r. turn_taken reach u p it r s) s) turn
      ∙ ap (λ f. effected reach u p (serving it p) it.kind t.vars f (on_eject u (on_active (turned p t)) s)) yields in
      ap (λ o. enabled (with_item o (λ m. with_site (record (process_turn reach u p (site_of w u.node m)) { number = u.node }) w) w)) at
      ∙ ap (λ x. enabled (with_site (record x { number = u.node }) w)) taken ∙ same_enabled

-- 4. An entry of such a turn
site_is : (w : World) (k : ℕ) (o : Option Node) (s : Site) → with_item o (λ it. Some (site_of w k it)) None ≡ Some s
    → (it : Node) × (o ≡ Some it) × (site_of w k it ≡ s)
site_is w k None s h = absurd (cc h)
site_is w k (Some it) s h = (it, refl, (let same : Some (site_of w k it) ≡ Some s = h in cc))

-- what is enabled behind it was enabled before it
pub same_behind : (w : World) (e : Entry) (u : Uid) (p : ℕ) → IsReached w → Allows w None e → e.event ≡ Process u p Yield
    → enabled (next w None e) ≡ enabled w
same_behind w e u p reached allowed is =
    let event = subst (AllowsEvent w None) is allowed.event in
    let site = some_and (site_at w u.node) (λ s. AllowsAt s (Process u p Yield)) event in
    let node = site_is w u.node (node_at w u.node) site.0 site.1 in
    let off : e.node ≡ 0 = allowed.disk ∙ ap (touched w) is in
    ap (λ v. enabled (counted (key_of v) (clocked e.node e.clock (after_turn w v)))) is
    ∙ ap (λ n. enabled (clocked n e.clock (after_turn w (Process u p Yield)))) off
    ∙ by_node node.0 node.1 (subst (λ x. AllowsAt x (Process u p Yield)) (sym node.2) site.2)
  where
    by_turn : (n : Node) (f : Eject) (it : Active) (q : Worker) → node_at w u.node ≡ Some n → value_at uid_cmp u n.ejects ≡ Some f
        → f.active ≡ Some it → AllowsTurn (site_of w u.node n) u p Yield it q
        → enabled (after_turn w (Process u p Yield)) ≡ enabled w
    by_turn n f it q at there active turn =
        let t = some_and (turn_of u it p) (λ t. Yield ≡ shown_of (site_of w u.node n) q.serves t.effect) turn.shows in
        same_after w u p t.0 n f it reached.sound.place.ordered (reached.sound.nodes u.node n at).in_order at there active t.1
        (yields (site_of w u.node n) q.serves t.0.effect t.2)

    by_node : (n : Node) → node_at w u.node ≡ Some n → AllowsAt (site_of w u.node n) (Process u p Yield)
        → enabled (after_turn w (Process u p Yield)) ≡ enabled w
    by_node n at h =
        let s = site_of w u.node n in
        let f = some_and (eject_in s u) (λ e. IsSomeAnd e.active (λ it. IsSomeAnd (worker_at it p) (AllowsTurn s u p Yield it))) h in
        let it = some_and f.0.active (λ it. IsSomeAnd (worker_at it p) (AllowsTurn s u p Yield it)) f.2 in
        let q = some_and (worker_at it.0 p) (AllowsTurn s u p Yield it.0) it.2 in
        by_turn n f.0 it.0 q.0 at f.1 it.1 q.2

-- 5. A key that followed itself follows itself again
pub repeats-next : (w : World) (e : Entry) (k : Key) → IsReached w → Allows w None e → key_of e.event ≡ Some k → w.last ≡ Some k
    → following w.last (enabled w) ≡ Some k → IsYield e → Repeats (next w None e)
repeats-next w e k reached allowed takes last follows yield_ =
    let now : (next w None e).last ≡ Some k = ap (λ o. (counted o (clocked e.node e.clock (happened w None e.event))).last) takes in
    ap (λ l. following l (enabled (next w None e))) (now ∙ sym last)
    ∙ ap (following w.last) (same_behind w e yield_.0 yield_.1 reached allowed yield_.2) ∙ follows ∙ sym now
