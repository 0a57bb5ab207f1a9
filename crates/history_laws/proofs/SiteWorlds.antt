-- A change of one site leaves the others sound, and so do the answers to those whose calls are broken.
use Rattle.std.proofs.Common.{◌≡◌, ◌==◌, ◌+◌, ◌≤◌, ℕ, Bool, true, false, cond, not, ◌&&◌, ◌||◌, List, [], ◌∷◌, Option, None, Some, refl}
use Rattle.std.proofs.Common.{sym, ◌∙◌, ap, subst, arith, inl, inr}
use Rattle.std.specs.Prelude.{IsSomeAnd, IfSome, ◌⊎◌}
use Rattle.std.specs.List.{filter_map, cons_option}
use Rattle.std.specs.Option.{option_map}
use Rattle.std.specs.Ordering.{nat_cmp, eq_by_cmp}
use Rattle.capability.specs.declared.Uid.{Uid}
use Rattle.eden_value.specs.declared.status.Status.TheVariants as status
use Rattle.eden_model.specs.Map.{with_item, uid_cmp, value_at, each_value}
use Rattle.eden_model.proofs.Numbers.{same-true, same-self}
use Rattle.eden_model.specs.Crew.{Crew, nothing, outside, set_waits, waits_at}
use Rattle.eden_model.proofs.LineLaws.{set-other, set-same}
use Rattle.eden_model.specs.Traffic.{Traffic, Call, call_at, asking_station, target_station, crashed_call, on_link, cut_call}
use Rattle.eden_model.specs.Traffic.{without_node, without_link, waiting_process, processes_of, broken_by_node, broken_by_link}
use Rattle.eden_model.specs.declared.Asker.{Asker}
use Rattle.eden_model.specs.declared.Asker.TheVariants.{Shell, Eject as Asking}
use Rattle.epl_syntax.specs.declared.effect.Answer.{Answer}
use Rattle.epl_syntax.specs.declared.effect.Answer.TheVariants.{Reply as Told}
use Rattle.journal.specs.World.{World, Active, Eject, StoreRequest, Node, Site, node_at, site_of, at_node, eject_in, on_eject}
use Rattle.journal.specs.Ejects.{with_active, on_active, told, tells}
use Rattle.journal.specs.Crashes.{tells_each, tells_broken, crash_by}
use Rattle.journal.specs.Sites.{active_in, IsOpenOf, at_store, AreNumbered}
use Rattle.history_laws.proofs.Fits.{Fits, SoundSite}
use Rattle.history_laws.proofs.Frame.{node-at_node, node-at_other, after_at, eject-on_eject, traffic-on_eject}
use Rattle.history_laws.proofs.Lifts.{traffic-after}
use Rattle.history_laws.proofs.Messages.{value-calls}
use Rattle.history_laws.proofs.Times.{Passes, passes-without_link, open-without_node}
use Rattle.history_laws.proofs.SiteChanges.{Claims, Away, StaysSound, nothing-stays}
use Rattle.history_laws.proofs.SiteCrews.{Loose, waits_outside, waits_not}
use Rattle.history_laws.proofs.SiteParts.{HasPart, nothing-tells, loose-waits}

abbrev pub AllSites : World → Type 0
AllSites w = (n : ℕ) (it : Node) → node_at w n ≡ Some it → SoundSite (site_of w n it)

-- 1. A change at one node

fits-away : (n : ℕ) (t new : Traffic) (rs : List StoreRequest) (u : Uid) (o : Option Eject) → Away n t new → (u.node ≡ n → ⊥)
    → Fits t rs u o → Fits new rs u o
fits-away n t new rs u o away other fit = record {
  held = λ k has. away.held u k other (fit.held k has);
  once = fit.once;
  asks = λ p k is. fit.asks p k (away.opens u p k other is);
  single = λ p j k a b. fit.single p j k (away.opens u p j other a) (away.opens u p k other b);
  stores = fit.stores;
  alone = fit.alone;
  laid = fit.laid;
}

-- only the number, the node and the messages count
pub sound-like : (n : ℕ) (it : Node) (s : Site) (w : World) → s.number ≡ n → s.traffic ≡ w.traffic → s.node ≡ it → SoundSite s
    → SoundSite (site_of w n it)
sound-like n it s w number traffic node h = record {
  numbered = subst (λ x. AreNumbered 1 (Traffic.calls x)) traffic h.numbered;
  fits = λ u at. subst (λ x. Fits x it.requests u (value_at uid_cmp u it.ejects)) traffic
      (subst (λ (x : Node). Fits s.traffic x.requests u (value_at uid_cmp u x.ejects)) node (h.fits u (at ∙ sym number)));
}

pub sites-at_node : (n : ℕ) (f : Site → Site) (w : World) (it : Node) → node_at w n ≡ Some it
    → StaysSound (site_of w n it) (f (site_of w n it)) → AllSites w → AllSites (at_node n f w)
sites-at_node n f w it here done all m jt is = go (eq_by_cmp nat_cmp m n) refl (node_at w m) refl (sym (node-at_node m n f w) ∙ is)
  where
    traffic : (at_node n f w).traffic ≡ (f (site_of w n it)).traffic
    traffic = traffic-after w n it f here

    same : (x : Node) → node_at w n ≡ Some x → option_map (after_at n f w) (Some x) ≡ Some jt → SoundSite (site_of (at_node n f w) n jt)
    same x at is =
        let one : Some it ≡ Some x = sym here ∙ at in
        let node : (f (site_of w n it)).node ≡ jt = (let e : Some (f (site_of w n it)).node ≡ Some jt =
        subst (λ o. option_map (after_at n f w) o ≡ Some jt) (sym one) is in cc e) in
        sound-like n jt (f (site_of w n it)) (at_node n f w) done.number (sym traffic) node done.sound

    go : (b : Bool) → eq_by_cmp nat_cmp m n ≡ b → (o : Option Node) → node_at w m ≡ o
        → cond (eq_by_cmp nat_cmp m n) (option_map (after_at n f w) (node_at w m)) (node_at w m) ≡ Some jt
        → SoundSite (site_of (at_node n f w) m jt)
    go true b None at e = absurd (let bad : None ≡ Some jt = subst (λ o. option_map (after_at n f w) o ≡ Some jt) at
        (subst (λ c. cond c (option_map (after_at n f w) (node_at w m)) (node_at w m) ≡ Some jt) b e) in cc bad)
    go true b (Some x) at e = let is_n : m ≡ n = same-true m n b in
        subst (λ k. SoundSite (site_of (at_node n f w) k jt)) (sym is_n)
        (same x (ap (node_at w) (sym is_n) ∙ at) (subst (λ o. option_map (after_at n f w) o ≡ Some jt) at
        (subst (λ c. cond c (option_map (after_at n f w) (node_at w m)) (node_at w m) ≡ Some jt) b e)))
    go false b o at e =
        let old : SoundSite (site_of w m jt) = all m jt (subst (λ c. cond c (option_map (after_at n f w) (node_at w m)) (node_at w m)
        ≡ Some jt) b e) in
        let apart : m ≡ n → ⊥ = (λ is_n. (let bad : true ≡ false = sym (same-self n) ∙ ap (λ k. eq_by_cmp nat_cmp k n) (sym is_n) ∙ b in
        cc bad)) in
        sound-like m jt (record (site_of w m jt) { traffic = (f (site_of w n it)).traffic }) (at_node n f w) refl (sym traffic) refl
        (record {
          numbered = done.sound.numbered;
          fits = λ u at_m. fits-away n w.traffic (f (site_of w n it)).traffic jt.requests u (value_at uid_cmp u jt.ejects) done.away
              (λ at_n. apart (sym at_m ∙ at_n)) (old.fits u at_m);
        })

pub at-none : (n : ℕ) (f : Site → Site) (w : World) → node_at w n ≡ None → at_node n f w ≡ w
unfolding at_node
at-none n f w is = rw is refl

pub sites-at : (n : ℕ) (f : Site → Site) (w : World) → ((it : Node) → node_at w n ≡ Some it
    → StaysSound (site_of w n it) (f (site_of w n it))) → AllSites w → AllSites (at_node n f w)
sites-at n f w done all = go (node_at w n) refl
  where
    none : node_at w n ≡ None → AllSites (at_node n f w)
    none is = subst AllSites (sym (at-none n f w is)) all

    go : (o : Option Node) → node_at w n ≡ o → AllSites (at_node n f w)
    go None is = none is
    go (Some it) is = sites-at_node n f w it is (done it is) all

-- 2. Processes are told

pub record CanTell (s : Site) (u : Uid) (p : ℕ) : Type 0 where
  pub free : Claims s u p → ⊥
  pub loose : (a : Active) → HasPart s u a → Loose a.crew p

pub loose-told : (crew : Crew) (p q : ℕ) → Loose crew p → Loose (set_waits q nothing crew) p
loose-told crew p q l = go (eq_by_cmp nat_cmp p q) refl l
  where
    go : (b : Bool) → eq_by_cmp nat_cmp p q ≡ b → Loose crew p → Loose (set_waits q nothing crew) p
    go true same (waits_outside w) = subst (Loose (set_waits q nothing crew)) (sym (same-true p q same))
        (waits_not (set-same q outside nothing crew.processes (subst (λ n. waits_at n crew.processes ≡ Some outside) (same-true p q same)
        w)))
    go true same (waits_not w) = subst (Loose (set_waits q nothing crew)) (sym (same-true p q same))
        (waits_not (set-same q nothing nothing crew.processes (subst (λ n. waits_at n crew.processes ≡ Some nothing) (same-true p q same)
        w)))
    go false same (waits_outside w) = waits_outside (set-other q p nothing crew.processes same ∙ w)
    go false same (waits_not w) = waits_not (set-other q p nothing crew.processes same ∙ w)

can-told : (s : Site) (u v : Uid) (p q : ℕ) (a : Answer) → CanTell s u p → CanTell (tells v q a s) u p
unfolding on_eject
can-told s u v p q a can = record {
  free = can.free;
  loose = λ x is.
      go x (eq_by_cmp uid_cmp u v) (eject_in s u) refl (sym (ap active_in (eject-on_eject v u (on_active (told q a)) s)) ∙ is);
}
  where
    part : (x : Active) (e : Eject) → eject_in s u ≡ Some e → (o : Option Active) → e.active ≡ o
        → active_in (Some (with_item o (λ it. with_active (Some (told q a it)) e) e)) ≡ Some x → Loose x.crew p
    part x e at None is same = absurd (let bad : None ≡ Some x = sym is ∙ same in cc bad)
    part x e at (Some it) is same = subst (λ o. IfSome o (λ y. Loose y.crew p)) same
        (loose-told it.crew p q (can.loose it (ap active_in at ∙ is)))

    go : (x : Active) (b : Bool) (o : Option Eject) → eject_in s u ≡ o
        → active_in (cond b (option_map (on_active (told q a)) o) o) ≡ Some x → Loose x.crew p
    go x false o at is = can.loose x (ap active_in at ∙ is)
    go x true None at is = absurd (cc is)
    go x true (Some e) at is = part x e at e.active refl is

abbrev pub Can : World → Uid × ℕ → Type 0
Can w q = (it : Node) → node_at w q.0.node ≡ Some it → CanTell (site_of w q.0.node it) q.0 q.1

abbrev pub AllCan : World → List (Uid × ℕ) → Type 0
AllCan w [] = Unit {0}
AllCan w (q ∷ qs) = Can w q × AllCan w qs

can-like : (s new : Site) (u : Uid) (p : ℕ) → s.traffic ≡ new.traffic → s.node ≡ new.node → CanTell s u p → CanTell new u p
can-like s new u p traffic node can = record {
  free = λ claims. can.free (subst (λ t. ((k : ℕ) × IsOpenOf t u p k) ⊎ (1 ≤ at_store u p s.node.requests)) (sym traffic)
      (subst (λ (x : Node). ((k : ℕ) × IsOpenOf new.traffic u p k) ⊎ (1 ≤ at_store u p x.requests)) (sym node) claims));
  loose = λ a is. can.loose a (ap (λ (x : Node). active_in (value_at uid_cmp u x.ejects)) node ∙ is);
}

pub traffic-tells : (n : ℕ) (v : Uid) (q : ℕ) (a : Answer) (w : World) → (at_node n (tells v q a) w).traffic ≡ w.traffic
traffic-tells n v q a w = go (node_at w n) refl
  where
    go : (o : Option Node) → node_at w n ≡ o → (at_node n (tells v q a) w).traffic ≡ w.traffic
    go None is = ap (λ (x : World). x.traffic) (at-none n (tells v q a) w is)
    go (Some it) is = traffic-after w n it (tells v q a) is ∙ traffic-on_eject v (on_active (told q a)) (site_of w n it)

can-after : (w : World) (q r : Uid × ℕ) (a : Answer) → Can w r → Can (at_node q.0.node (tells q.0 q.1 a) w) r
can-after w q r a can jt is = go (eq_by_cmp nat_cmp r.0.node q.0.node) refl (node_at w r.0.node) refl
    (sym (node-at_node r.0.node q.0.node (tells q.0 q.1 a) w) ∙ is)
  where
    f : Site → Site
    f = tells q.0 q.1 a

    later : World
    later = at_node q.0.node f w

    go : (b : Bool) → eq_by_cmp nat_cmp r.0.node q.0.node ≡ b → (o : Option Node) → node_at w r.0.node ≡ o
        → cond (eq_by_cmp nat_cmp r.0.node q.0.node) (option_map (after_at q.0.node f w) (node_at w r.0.node)) (node_at w r.0.node)
        ≡ Some jt
        → CanTell (site_of later r.0.node jt) r.0 r.1
    go false b o at e = can-like (site_of w r.0.node jt) (site_of later r.0.node jt) r.0 r.1 (sym (traffic-tells q.0.node q.0 q.1 a w))
        refl (can jt (subst (λ c. cond c (option_map (after_at q.0.node f w) (node_at w r.0.node)) (node_at w r.0.node) ≡ Some jt) b e))
    go true b None at e = absurd (let bad : None ≡ Some jt = subst (λ o. option_map (after_at q.0.node f w) o ≡ Some jt) at
        (subst (λ c. cond c (option_map (after_at q.0.node f w) (node_at w r.0.node)) (node_at w r.0.node) ≡ Some jt) b e) in cc bad)
    go true b (Some x) at e =
        let same : Some (f (site_of w q.0.node x)).node ≡ Some jt =
        subst (λ o. option_map (after_at q.0.node f w) o ≡ Some jt) at
        (subst (λ c. cond c (option_map (after_at q.0.node f w) (node_at w r.0.node)) (node_at w r.0.node) ≡ Some jt) b e) in
        can-like (f (site_of w q.0.node x)) (site_of later r.0.node jt) r.0 r.1
        (traffic-on_eject q.0 (on_active (told q.1 a)) (site_of w q.0.node x) ∙ sym (traffic-tells q.0.node q.0 q.1 a w)) (cc same)
        (can-told (site_of w q.0.node x) r.0 q.0 r.1 q.1 a (can-like (site_of w r.0.node x) (site_of w q.0.node x) r.0 r.1 refl refl
        (can x at)))

pub all-can-after : (w : World) (q : Uid × ℕ) (a : Answer) (qs : List (Uid × ℕ)) → AllCan w qs
    → AllCan (at_node q.0.node (tells q.0 q.1 a) w) qs
all-can-after w q a [] all = tt
all-can-after w q a (r ∷ qs) all = (can-after w q r a all.0, all-can-after w q a qs all.1)

pub sites-tells_each : (qs : List (Uid × ℕ)) (w : World) → AllCan w qs → AllSites w → AllSites (tells_each qs w)
sites-tells_each [] w can all = all
sites-tells_each (q ∷ qs) w can all = sites-tells_each qs (at_node q.0.node (tells q.0 q.1 (Told status.Broken [])) w)
    (all-can-after w q (Told status.Broken []) qs can.1)
    (sites-at q.0.node (tells q.0 q.1 (Told status.Broken [])) w (λ it is.
    nothing-stays (site_of w q.0.node it) _ (nothing-tells q.0 q.1 (Told status.Broken []) (site_of w q.0.node it) (can.0 it is).free
    (can.0 it is).loose) (all q.0.node it is)) all)

-- 3. Those whose calls are broken

can-each : (w : World) (hits : Call → Bool) (t : Traffic) → ((k : ℕ) (c : Call) (u : Uid) (p : ℕ) → call_at t k ≡ Some c → hits c ≡ true
    → c.asker ≡ Asking u p → Can w (u, p))
    → (n : ℕ) (es : List (ℕ × Call)) → AreNumbered n es → ((j : ℕ) → n ≤ j → value_at nat_cmp j t.calls ≡ value_at nat_cmp j es)
    → AllCan w (filter_map (λ e. cond (hits e.1) (waiting_process e.1.asker) None) es)
can-each w hits t each n [] h found = tt
can-each w hits t each n (e ∷ es) h found = go (hits e.1) refl e.1.asker refl (can-each w hits t each (n + 1) es h.1 later)
  where
    apart : (j : ℕ) → n + 1 ≤ j → (b : Bool) → eq_by_cmp nat_cmp j e.0 ≡ b → b ≡ false
    apart j le true same = let is : j ≡ e.0 = same-true j e.0 same in absurd (omega (arith, is, h.0, le))
    apart j le false same = refl

    later : (j : ℕ) → n + 1 ≤ j → value_at nat_cmp j t.calls ≡ value_at nat_cmp j es
    later j le = found j (omega (arith, le)) ∙ rw (apart j le (eq_by_cmp nat_cmp j e.0) refl) refl

    here : value_at nat_cmp e.0 t.calls ≡ Some e.1
    here = found e.0 (omega (arith, h.0)) ∙ rw (same-self e.0) refl

    go : (b : Bool) → hits e.1 ≡ b → (a : Asker) → e.1.asker ≡ a
        → AllCan w (filter_map (λ e. cond (hits e.1) (waiting_process e.1.asker) None) es)
        → AllCan w (cons_option (cond b (waiting_process a) None) (filter_map (λ e. cond (hits e.1) (waiting_process e.1.asker) None) es))
    go true hit (Shell name) asker rest = rest
    go true hit (Asking u p) asker rest = (each e.0 e.1 u p here hit asker, rest)
    go false hit a asker rest = rest

shut-each : (f : Call → Call) (t : Traffic) (u : Uid) (p k : ℕ) (c : Call) → call_at t k ≡ Some c → (f c).open_ ≡ false
    → IsSomeAnd (value_at nat_cmp k (each_value f t.calls)) (λ d. (d.open_ ≡ true) × (d.asker ≡ Asking u p)) → ⊥
shut-each f t u p k c is off on = let x = subst (λ o. IsSomeAnd o (λ (d : Call). (d.open_ ≡ true) × (d.asker ≡ Asking u p)))
    (value-calls k f t.calls ∙ ap (option_map f) is) on in
    let bad : false ≡ true = sym off ∙ x.0 in cc bad

both-true : (a b : Bool) → (a && b) ≡ true → (a ≡ true) × (b ≡ true)
both-true true b e = (refl, e)
both-true false b e = absurd (cc e)

-- the asker of a call that is closed by the event can be told
can-broken : (w later : World) (u : Uid) (p k : ℕ) (c : Call) → AllSites w → call_at w.traffic k ≡ Some c → c.open_ ≡ true
    → c.asker ≡ Asking u p
    → ((it : Node) → node_at later u.node ≡ Some it → node_at w u.node ≡ Some it)
    → ((q j : ℕ) → IsOpenOf later.traffic u q j → IsOpenOf w.traffic u q j) → (IsOpenOf later.traffic u p k → ⊥) → Can later (u, p)
can-broken w later u p k c all is opened asker nodes opens shut it at = record {
  free = free;
  loose = loose-waits (active_in (value_at uid_cmp u it.ejects)) p (fit.asks p k open_k).0;
}
  where
    open_k : IsOpenOf w.traffic u p k
    open_k = subst (λ o. IsSomeAnd o (λ (d : Call). (d.open_ ≡ true) × (d.asker ≡ Asking u p))) (sym is) (opened, asker)

    fit : Fits w.traffic it.requests u (value_at uid_cmp u it.ejects)
    fit = (all u.node it (nodes it at)).fits u refl

    free : ((j : ℕ) × IsOpenOf later.traffic u p j) ⊎ (1 ≤ at_store u p it.requests) → ⊥
    free (inl x) = shut (subst (IsOpenOf later.traffic u p) (fit.single p x.0 k (opens p x.0 x.1) open_k) x.1)
    free (inr some) = omega (arith, some, (fit.asks p k open_k).1)

pub cans-crash : (w : World) (n : ℕ) (f : Site → Site) (it : Node) → node_at w n ≡ Some it
    → (f (site_of w n it)).traffic ≡ without_node n w.traffic → AllSites w
    → AllCan (at_node n f w) (processes_of (broken_by_node n) w.traffic)
cans-crash w n f it here lost all =
    can-each (at_node n f w) (broken_by_node n) w.traffic can 1 w.traffic.calls (all n it here).numbered (λ j le. refl)
  where
    traffic : (at_node n f w).traffic ≡ without_node n w.traffic
    traffic = traffic-after w n it f here ∙ lost

    touched : (a b : Bool) → a ≡ true → (a || b) ≡ true
    touched true b e = refl
    touched false b e = absurd (cc e)

    off : (c : Call) → (target_station c == n) ≡ true → (crashed_call n c).open_ ≡ false
    off c at = rw (touched (target_station c == n) (asking_station c.asker == n) at) refl

    untrue : (b : Bool) → not b ≡ true → b ≡ false
    untrue true e = absurd (cc e)
    untrue false e = refl

    can : (k : ℕ) (c : Call) (u : Uid) (p : ℕ) → call_at w.traffic k ≡ Some c → broken_by_node n c ≡ true → c.asker ≡ Asking u p
        → Can (at_node n f w) (u, p)
    can k c u p is hit asker =
        let x = both-true c.open_ ((target_station c == n) && not (asking_station c.asker == n)) hit in
        let y = both-true (target_station c == n) (not (asking_station c.asker == n)) x.1 in
        let apart : (u.node == n) ≡ false = ap (λ a. asking_station a == n) (sym asker) ∙ untrue (asking_station c.asker == n) y.1 in
        can-broken w (at_node n f w) u p k c all is x.0 asker (λ jt at. sym (node-at_other u.node n f w apart) ∙ at)
        (λ q j on. open-without_node n w.traffic u q j (subst (λ t. IsOpenOf t u q j) traffic on))
        (λ on. shut-each (crashed_call n) w.traffic u p k c is (off c y.0) (subst (λ t. IsOpenOf t u p k) traffic on))

pub sites-crash : (w : World) (n : ℕ) (f : Site → Site) (it : Node) → node_at w n ≡ Some it
    → StaysSound (site_of w n it) (f (site_of w n it)) → (f (site_of w n it)).traffic ≡ without_node n w.traffic
    → AllSites w → AllSites (crash_by n f w)
sites-crash w n f it here done lost all = sites-tells_each (processes_of (broken_by_node n) w.traffic) (at_node n f w)
    (cans-crash w n f it here lost all) (sites-at_node n f w it here done all)

pub cans-cut : (w : World) (a b : ℕ) (cuts : List (ℕ × ℕ)) → AllSites w → AreNumbered 1 w.traffic.calls
    → AllCan (record w { cuts = cuts; traffic = without_link a b w.traffic }) (processes_of (broken_by_link a b) w.traffic)
cans-cut w a b cuts all numbered =
    can-each later (broken_by_link a b) w.traffic can 1 w.traffic.calls numbered (λ j le. refl)
  where
    later : World
    later = record w { cuts = cuts; traffic = without_link a b w.traffic }

    passes : Passes [] w.traffic (without_link a b w.traffic)
    passes = passes-without_link a b w.traffic

    can : (k : ℕ) (c : Call) (u : Uid) (p : ℕ) → call_at w.traffic k ≡ Some c → broken_by_link a b c ≡ true → c.asker ≡ Asking u p
        → Can later (u, p)
    can k c u p is hit asker =
        let x = both-true c.open_ (on_link a b c) hit in
        can-broken w later u p k c all is x.0 asker (λ jt at. at) (λ q j on. passes.opens u q j on) (λ on.
        shut-each (cut_call a b) w.traffic u p k c is (rw x.1 refl) on)

pub sites-cut : (w : World) (a b : ℕ) (cuts : List (ℕ × ℕ)) → AllSites w → AreNumbered 1 w.traffic.calls
    → AllSites (tells_broken (broken_by_link a b) w (record w { cuts = cuts; traffic = without_link a b w.traffic }))
sites-cut w a b cuts all numbered =
    sites-tells_each (processes_of (broken_by_link a b) w.traffic) later (cans-cut w a b cuts all numbered) each
  where
    later : World
    later = record w { cuts = cuts; traffic = without_link a b w.traffic }

    passes : Passes [] w.traffic (without_link a b w.traffic)
    passes = passes-without_link a b w.traffic

    each : AllSites later
    each m it is = let s = all m it is in record {
      numbered = passes.numbered s.numbered;
      fits = λ u at. let fit = s.fits u at in record {
        held = λ k has. passes.held u k refl (fit.held k has);
        once = fit.once;
        asks = λ p k on. fit.asks p k (passes.opens u p k on);
        single = λ p j k x y. fit.single p j k (passes.opens u p j x) (passes.opens u p k y);
        stores = fit.stores;
        alone = fit.alone;
        laid = fit.laid;
      };
    }
