-- In every world of a history, each call that is held at an Eject is one that it runs or has queued.
use Rattle.std.proofs.Common.{◌≡◌, ◌==◌, ◌+◌, ◌≤◌, ℕ, Bool, true, false, cond, ◌||◌, List, [], ◌∷◌, ◌++◌, Option, None, Some, Ok}
use Rattle.std.proofs.Common.{is_some, refl, sym, ◌∙◌, ap, subst, arith, inl, inr}
use Rattle.std.specs.Prelude.{IsSomeAnd, ◌⊎◌}
use Rattle.std.proofs.lemmas.Cmp.{tied_itself}
use Rattle.std.specs.Option.{option_map}
use Rattle.std.specs.Ordering.{nat_cmp, eq_by_cmp}
use Rattle.capability.specs.declared.Uid.{Uid}
use Rattle.capability.specs.declared.Cap.{Cap}
use Rattle.capability.proofs.Uids.{uid_cmp_total}
use Rattle.eden_value.specs.Datum.{Datum}
use Rattle.eden_value.specs.declared.status.Status.{Status}
use Rattle.eden_value.specs.declared.status.Status.TheVariants as status
use Rattle.eden_model.specs.Map.{with_item, value_at, uid_cmp}
use Rattle.eden_model.proofs.Numbers.{same-true, same-self}
use Rattle.eden_model.specs.Lines.{has}
use Rattle.eden_model.specs.declared.Asker.TheVariants.{Shell}
use Rattle.eden_model.specs.Traffic.{Traffic, Call, asked, held, call_at, changed_call, at_place, taken, asking_station, target_station}
use Rattle.eden_model.specs.Traffic.{goes_by, goes, with_call, processes_of, broken_by_node, broken_by_link, without_link}
use Rattle.epl_syntax.specs.declared.effect.Answer.TheVariants.{Reply as Told}
use Rattle.epl_syntax.specs.Edentype.{Edentype}
use Rattle.epl_syntax.specs.Rules.OfTypes.{KeepRules, HaveMonitors}
use Rattle.epl_syntax.specs.Meaning.{type_of, first_values}
use Rattle.passive_store.specs.declared.store.Pick.{Pick}
use Rattle.passive_store.specs.Kept.{Layout}
use Rattle.passive_store.specs.Layout.{IsLayout}
use Rattle.journal.specs.declared.command.Command.{Command}
use Rattle.journal.specs.declared.command.Command.TheVariants as command
use Rattle.journal.specs.declared.command.Script.{Script}
use Rattle.journal.specs.declared.event.Key.{Key}
use Rattle.journal.specs.declared.event.StartEnd.{StartEnd}
use Rattle.journal.specs.declared.event.StartEnd.TheVariants as start_end
use Rattle.journal.specs.declared.event.RequestEnd.{RequestEnd}
use Rattle.journal.specs.declared.event.RequestEnd.TheVariants as end
use Rattle.journal.specs.declared.event.Event.{Event}
use Rattle.journal.specs.declared.event.Event.TheVariants as event
use Rattle.journal.specs.declared.event.Entry.{Entry}
use Rattle.journal.specs.World.{World, Site, Node, Eject, node_at, site_of, at_node, eject_in, on_eject, on_traffic, reaches}
use Rattle.journal.specs.Ejects.{tells, fresh, next_uid, born}
use Rattle.journal.specs.Deliveries.{refusal, refusal_at, received}
use Rattle.journal.specs.Crashes.{tells_each, linked}
use Rattle.journal.specs.References.{cap_at}
use Rattle.journal.specs.Starts.{AllowsActivate}
use Rattle.journal.specs.Commands.{AllowsCommand, asked as asks, asked_by, ready_call, born_as, made, type_name_of, held_by, restricted_by}
use Rattle.journal.specs.Step.{AllowsAt, AllowsInTurn, AllowsEvent, Allows, next, after_turn, after_command, happened, at_site}
use Rattle.journal.specs.Step.{stopped_at, site_turn, clocked, counted, key_of}
use Rattle.journal.specs.Run.{AllowsLookUp, looked_up, beginning}
use Rattle.journal.specs.Standing.{DiskRun}
use Rattle.journal.specs.LegalRun.{AreHandedIn, opening_world, last_world}
use Rattle.journal.specs.Laws.{Begins}
use Rattle.journal.specs.Sites.{runs_of, work_of, active_in, IsHeldAt, Everywhere, HoldsItsWork}
use Rattle.history_laws.proofs.Frame.{node-at_node, after_at, eject-on_eject}
use Rattle.history_laws.proofs.Lifts.{traffic-after}
use Rattle.history_laws.proofs.SafeRuns.{same-number}
use Rattle.history_laws.proofs.EntryLists.{first-passes}
use Rattle.history_laws.proofs.Runs.{Any, of-any, end-keeps, world-booting}
use Rattle.history_laws.proofs.EveryNode.{IsNext, at-its-site, made-next, all-clocked}
use Rattle.history_laws.proofs.UidLaw.{fit-on_eject}
use Rattle.history_laws.proofs.Fits.{times, times_in}
use Rattle.history_laws.proofs.Times.{times-append, call-changed}
use Rattle.history_laws.proofs.SiteWorlds.{at-none}
use Rattle.history_laws.proofs.SiteRuns.{KnownWorld, SiteWorld, new-by, both-true, on-call}
use Rattle.history_laws.proofs.SiteRuns.{effects-fit, site-next, site-looked_up, site-opening}
use Rattle.history_laws.proofs.HeldWork.{Lets, lets-without_link, lets-call, lets-received, Part}
use Rattle.history_laws.proofs.HeldWork.{part-born, part-process_turn, part-refused}
use Rattle.history_laws.proofs.HeldWork.{part-heard, part-start, part-crashed, part-store_turn, part-activation, part-boot, part-told}

-- 1. A site, and what an event leaves elsewhere

pub record HasWork (s : Site) : Type 0 where
  pub at : (u : Uid) (k : ℕ) → u.node ≡ s.number → IsHeldAt s.traffic u k → 1 ≤ times_in k (eject_in s u)

pub record Works (s new : Site) : Type 0 where
  pub number : new.number ≡ s.number
  pub away : (u : Uid) (k : ℕ) → (u.node ≡ s.number → ⊥) → IsHeldAt new.traffic u k → IsHeldAt s.traffic u k
  pub has : HasWork new

first-part : (s : Site) → HasWork s → Part [] s s
first-part s h = record { number = refl; back = λ u k on. on; has = λ u k at on out. h.at u k at on }

works-part : (s new : Site) → Part [] s new → Works s new
works-part s new p = record {
  number = p.number;
  away = λ u k other on. p.back u k on;
  has =
      record { at = λ u k at on. p.has u k (at ∙ p.number) on refl };
}

works-item : {X : Type 0} (s : Site) (o : Option X) (f : X → Site) → HasWork s → ((x : X) → o ≡ Some x → Works s (f x))
    → Works s (with_item o f s)
works-item s None f h each = works-part s s (first-part s h)
works-item s (Some x) f h each = each x refl

-- a request joins the queue of its Eject
abbrev join : ℕ → Eject → Eject
join k e = record e { queued = e.queued ++ k ∷ [] }

abbrev joined : Uid → ℕ → Site → Site
joined v k s = on_eject v (join k) (on_traffic (λ t. changed_call k (at_place held) (taken k t)) s)

more-joined : (v : Uid) (k : ℕ) (s : Site) (u : Uid) (j : ℕ) (b : Bool) (o : Option Eject) → 1 ≤ times_in j o
    → 1 ≤ times_in j (cond b (option_map (join k) o) o)
more-joined v k s u j true None has_it = has_it
more-joined v k s u j true (Some e) has_it = omega (arith, has_it, times-append j e.queued (k ∷ []))
more-joined v k s u j false o has_it = has_it

now-joined : (k : ℕ) (o : Option Eject) → is_some o ≡ true → 1 ≤ times_in k (option_map (join k) o)
now-joined k None there = absurd (cc there)
now-joined k (Some e) there = let own : times k (k ∷ []) ≡ 1 = rw (same-self k) refl in omega (arith, own, times-append k e.queued (k ∷ []))

split-held : (s : Site) (k : ℕ) (c : Call) → call_at s.traffic k ≡ Some c → (u : Uid) (j : ℕ)
    → IsHeldAt (changed_call k (at_place held) (taken k s.traffic)) u j → IsHeldAt s.traffic u j ⊎ ((j ≡ k) × (c.target.uid ≡ u))
split-held s k c is u j on = by (eq_by_cmp nat_cmp j k) refl (subst (λ o.
    IsSomeAnd o (λ (d : Call). (d.place ≡ held) × (d.target.uid ≡ u))) (call-changed j k (at_place held) (taken k s.traffic)) on)
  where
    by : (b : Bool) → eq_by_cmp nat_cmp j k ≡ b → IsSomeAnd (cond b (option_map (at_place held) (call_at s.traffic j))
        (call_at s.traffic j)) (λ d. (d.place ≡ held) × (d.target.uid ≡ u))
        → IsHeldAt s.traffic u j ⊎ ((j ≡ k) × (c.target.uid ≡ u))
    by true same x = let number : j ≡ k = same-true j k same in
        inr (
          number,
          (subst (λ o. IsSomeAnd (option_map (at_place held) o) (λ d. (d.place ≡ held) × (d.target.uid ≡ u)))
              (ap (call_at s.traffic) number ∙ is) x).1,
        )
    by false same x = inl x

works-joined : (s : Site) (k : ℕ) (c : Call) → call_at s.traffic k ≡ Some c → c.target.uid.node ≡ s.number
    → is_some (eject_in s c.target.uid) ≡ true → HasWork s → Works s (joined c.target.uid k s)
unfolding on_traffic on_eject
works-joined s k c is here there h = record {
  number = refl;
  away = λ u j other on. away u j other (split-held s k c is u j on);
  has = record {
    at = λ u j at on. subst (λ o. 1 ≤ times_in j o) (sym (eject-on_eject c.target.uid u (join k) s))
        (has_it u j at (split-held s k c is u j on));
  };
}
  where
    away : (u : Uid) (j : ℕ) → (u.node ≡ s.number → ⊥) → IsHeldAt s.traffic u j ⊎ ((j ≡ k) × (c.target.uid ≡ u)) → IsHeldAt s.traffic u j
    away u j other (inl on) = on
    away u j other (inr x) = absurd (other (ap (λ (v : Uid). v.node) (sym x.1) ∙ here))

    has_it : (u : Uid) (j : ℕ) → u.node ≡ s.number → IsHeldAt s.traffic u j ⊎ ((j ≡ k) × (c.target.uid ≡ u))
        → 1 ≤ times_in j (cond (eq_by_cmp uid_cmp u c.target.uid) (option_map (join k) (eject_in s u)) (eject_in s u))
    has_it u j at (inl on) = more-joined c.target.uid k s u j (eq_by_cmp uid_cmp u c.target.uid) (eject_in s u) (h.at u j at on)
    has_it u j at (inr x) = subst (λ v. 1 ≤ times_in j (cond (eq_by_cmp uid_cmp v c.target.uid) (option_map (join k) (eject_in s v))
        (eject_in s v))) x.1
        (rw (tied_itself uid_cmp_total c.target.uid) (subst (λ i. 1 ≤ times_in i (option_map (join k) (eject_in s c.target.uid))) (sym x.0)
        (now-joined k (eject_in s c.target.uid) there)))

-- 2. The world

abbrev HaveAll : World → Type 0
HaveAll w = (n : ℕ) (it : Node) → node_at w n ≡ Some it → HasWork (site_of w n it)

have-like : (n : ℕ) (it : Node) (s : Site) (w : World) → s.number ≡ n → s.traffic ≡ w.traffic → s.node ≡ it → HasWork s
    → HasWork (site_of w n it)
have-like n it s w number traffic node h = record {
  at = λ u k at on. subst (λ (x : Node). 1 ≤ times_in k (value_at uid_cmp u x.ejects)) node
      (h.at u k (at ∙ sym number) (subst (λ t. IsHeldAt t u k) (sym traffic) on));
}

have-at_node : (n : ℕ) (f : Site → Site) (w : World) (it : Node) → node_at w n ≡ Some it → Works (site_of w n it) (f (site_of w n it))
    → HaveAll w → HaveAll (at_node n f w)
have-at_node n f w it here works all m jt is = go (eq_by_cmp nat_cmp m n) refl (node_at w m) refl (sym (node-at_node m n f w) ∙ is)
  where
    traffic : (at_node n f w).traffic ≡ (f (site_of w n it)).traffic
    traffic = traffic-after w n it f here

    same : (x : Node) → node_at w n ≡ Some x → option_map (after_at n f w) (Some x) ≡ Some jt → HasWork (site_of (at_node n f w) n jt)
    same x at is =
        let one : Some it ≡ Some x = sym here ∙ at in
        let node : (f (site_of w n it)).node ≡ jt = (let e : Some (f (site_of w n it)).node ≡ Some jt =
        subst (λ o. option_map (after_at n f w) o ≡ Some jt) (sym one) is in cc e) in
        have-like n jt (f (site_of w n it)) (at_node n f w) works.number (sym traffic) node works.has

    go : (b : Bool) → eq_by_cmp nat_cmp m n ≡ b → (o : Option Node) → node_at w m ≡ o
        → cond (eq_by_cmp nat_cmp m n) (option_map (after_at n f w) (node_at w m)) (node_at w m) ≡ Some jt
        → HasWork (site_of (at_node n f w) m jt)
    go true b None at e = absurd (let bad : None ≡ Some jt = subst (λ o. option_map (after_at n f w) o ≡ Some jt) at
        (subst (λ c. cond c (option_map (after_at n f w) (node_at w m)) (node_at w m) ≡ Some jt) b e) in cc bad)
    go true b (Some x) at e = let is_n : m ≡ n = same-true m n b in
        subst (λ k. HasWork (site_of (at_node n f w) k jt)) (sym is_n)
        (same x (ap (node_at w) (sym is_n) ∙ at) (subst (λ o. option_map (after_at n f w) o ≡ Some jt) at
        (subst (λ c. cond c (option_map (after_at n f w) (node_at w m)) (node_at w m) ≡ Some jt) b e)))
    go false b o at e =
        let old : HasWork (site_of w m jt) = all m jt (subst (λ c. cond c (option_map (after_at n f w) (node_at w m)) (node_at w m)
        ≡ Some jt) b e) in
        let apart : m ≡ n → ⊥ = (λ is_n. (let bad : true ≡ false = sym (same-self n) ∙ ap (λ k. eq_by_cmp nat_cmp k n) (sym is_n) ∙ b in
        cc bad)) in
        have-like m jt (record (site_of w m jt) { traffic = (f (site_of w n it)).traffic }) (at_node n f w) refl (sym traffic) refl
        (record { at = λ u k at_m on. old.at u k at_m (works.away u k (λ at_n. apart (sym at_m ∙ at_n)) on) })

have-at : (n : ℕ) (f : Site → Site) (w : World) → ((it : Node) → node_at w n ≡ Some it → Works (site_of w n it) (f (site_of w n it)))
    → HaveAll w → HaveAll (at_node n f w)
have-at n f w works all = go (node_at w n) refl
  where
    go : (o : Option Node) → node_at w n ≡ o → HaveAll (at_node n f w)
    go None is = subst HaveAll (sym (at-none n f w is)) all
    go (Some it) is = have-at_node n f w it is (works it is) all

have-part : (n : ℕ) (f : Site → Site) (w : World) → ((it : Node) → node_at w n ≡ Some it → Part [] (site_of w n it) (site_of w n it)
    → Part [] (site_of w n it) (f (site_of w n it))) → HaveAll w → HaveAll (at_node n f w)
have-part n f w part all = have-at n f w (λ it is. works-part (site_of w n it) (f (site_of w n it))
    (part it is (first-part (site_of w n it) (all n it is)))) all

have-tells_each : (qs : List (Uid × ℕ)) (w : World) → HaveAll w → HaveAll (tells_each qs w)
have-tells_each [] w all = all
have-tells_each (q ∷ qs) w all = have-tells_each qs (at_node q.0.node (tells q.0 q.1 (Told status.Broken [])) w)
    (have-part q.0.node (tells q.0 q.1 (Told status.Broken [])) w (λ it is h.
    part-told q.0 q.1 (Told status.Broken []) (site_of w q.0.node it) (site_of w q.0.node it) h) all)

have-stopped : (w : World) (n : ℕ) (e : Event) → HaveAll (at_site w n e) → HaveAll (stopped_at w n e)
have-stopped w n e all = have-tells_each (processes_of (broken_by_node n) w.traffic) (at_site w n e) all

-- a change of the messages that holds nothing new
have-traffic : (w new : World) → new.nodes ≡ w.nodes → (t : Traffic) → new.traffic ≡ t → Lets [] w.traffic t → HaveAll w → HaveAll new
have-traffic w new nodes t traffic lets all n it is = record {
  at = λ u k at on. (all n it (ap (λ ns. value_at nat_cmp n ns) (sym nodes) ∙ is)).at u k at
      (lets.back u k (subst (λ x. IsHeldAt x u k) traffic on));
}

-- 3. Turns

have-request : (w : World) (k a b : ℕ) (refused : Option Status) → AllowsInTurn w (event.Request k a b refused) → HaveAll w
    → HaveAll (at_site w b (event.Request k a b refused))
have-request w k a b (Some why) allowed all = have-part b (site_turn (reaches w b) (event.Request k a b (Some why))) w (λ it is h.
    part-refused k why (site_of w b it) (site_of w b it) h) all
have-request w k a b None allowed all = have-at b (site_turn (reaches w b) (event.Request k a b None)) w (λ it is. let x =
    at-its-site w b (λ s. AllowsAt s (event.Request k a b None)) it is allowed in
    works-item (site_of w b it) (call_at w.traffic k) (λ c. joined c.target.uid k (site_of w b it)) (all b it is) (λ c found.
    works-joined (site_of w b it) k c found
    (subst (λ o. IsSomeAnd o (λ c. target_station c ≡ b)) found
    (on-call (call_at w.traffic k) (λ c. goes_by c.place (asking_station c.asker) (target_station c) a b)
    (λ c p g. same-number (target_station c) b (both-true (asking_station c.asker == a) (target_station c == b)
    (sym (ap (λ q. goes_by q (asking_station c.asker) (target_station c) a b) p.0) ∙ g)).1)
    x.delivered (first-passes (goes w.traffic a b) w.traffic.transit k x.first_in_queue)))
    (there (site_of w b it) c (subst (λ o. IsSomeAnd o (λ c. (c.place ≡ asked) × (None ≡ refusal_at (site_of w b it) c))) found
    x.delivered).1)
    (all b it is))) all
  where
    there : (s : Site) (c : Call) → None ≡ refusal_at s c → is_some (eject_in s c.target.uid) ≡ true
    there s c x = go (eject_in s c.target.uid) x
      where
        go : (o : Option Eject) → None ≡ with_item o (refusal c) (Some status.Gone) → is_some o ≡ true
        go None bad = absurd (cc bad)
        go (Some e) fine = refl

have-activate : (w : World) (v : Uid) (how : StartEnd) (p : Option Pick) → AllowsInTurn w (event.Activate v how p) → HaveAll w
    → HaveAll (at_site w v.node (event.Activate v how p))
have-activate w v how p allowed all = have-part v.node (site_turn (reaches w v.node) (event.Activate v how p)) w (λ it is h.
    part-activation v how p (site_of w v.node it) (site_of w v.node it)
    (passive it (eject_in (site_of w v.node it) v) (at-its-site w v.node (λ s. AllowsAt s (event.Activate v how p)) it is allowed)) h) all
  where
    passive : (it : Node) (o : Option Eject) → IsSomeAnd o (λ e. AllowsActivate (site_of w v.node it) v how p e) → active_in o ≡ None
    passive it None a = absurd a
    passive it (Some e) a = a.is_passive

have-store : (w : World) (v : Uid) (clock : ℕ) (how : RequestEnd) (p : Option Pick) → HaveAll w
    → HaveAll (at_site w v.node (event.Store v clock how p))
have-store w v clock how p all = have-part v.node (site_turn (reaches w v.node) (event.Store v clock how p)) w (λ it is h.
    part-store_turn how p (site_of w v.node it) (site_of w v.node it) h) all

have-turn : (H : ℕ → Bool) (w : World) (e : Event) → SiteWorld H w → AllowsInTurn w e → HaveAll w → HaveAll (after_turn w e)
have-turn H w (event.Request k a b refused) site allowed all = have-request w k a b refused allowed all
have-turn H w (event.Reply k a b None why values) site allowed all =
    have-part b (site_turn (reaches w b) (event.Reply k a b None why values)) w (λ it is h.
    part-heard k why values (site_of w b it) (site_of w b it) h) all
have-turn H w (event.Reply k a b (Some name) why values) site allowed all =
    have-traffic w (after_turn w (event.Reply k a b (Some name) why values)) refl (received k w.traffic) refl (lets-received k w.traffic)
    all
have-turn H w (event.Activate v start_end.Ok p) site allowed all = have-activate w v start_end.Ok p allowed all
have-turn H w (event.Activate v start_end.Gone p) site allowed all = have-activate w v start_end.Gone p allowed all
have-turn H w (event.Activate v start_end.Fault p) site allowed all = have-activate w v start_end.Fault p allowed all
have-turn H w (event.Activate v start_end.Damaged p) site allowed all = have-activate w v start_end.Damaged p allowed all
have-turn H w (event.Activate v start_end.Stop p) site allowed all =
    have-stopped w v.node (event.Activate v start_end.Stop p) (have-activate w v start_end.Stop p allowed all)
have-turn H w (event.Start k v p) site allowed all = have-part v.node (site_turn (reaches w v.node) (event.Start k v p)) w (λ it is h.
    part-start v k p (site_of w v.node it) (site_of w v.node it)
    (at-its-site w v.node (λ s. AllowsAt s (event.Start k v p)) it is allowed) (λ e at j.
    subst (λ o. times_in j o ≤ 1) at (((site.sites v.node it is).fits v refl).once j)) h) all
have-turn H w (event.Process v p said) site allowed all = have-part v.node (site_turn (reaches w v.node) (event.Process v p said)) w
    (λ it is h. part-process_turn w.types (reaches w v.node) v p (site_of w v.node it) (site_of w v.node it)
    (effects-fit H w site v.node it is v p)
    (λ e at. (site.known.sound.nodes v.node it is).manned v e at) (λ f.
    new-by (on_eject v f (site_of w v.node it)) (fit-on_eject v f (site_of w v.node it) (site.known.fit v.node it is))) h) all
have-turn H w (event.Store v clock end.Part p) site allowed all = have-store w v clock end.Part p all
have-turn H w (event.Store v clock end.Done p) site allowed all = have-store w v clock end.Done p all
have-turn H w (event.Store v clock end.Fault p) site allowed all = have-store w v clock end.Fault p all
have-turn H w (event.Store v clock end.Full p) site allowed all = have-store w v clock end.Full p all
have-turn H w (event.Store v clock end.Stop p) site allowed all =
    have-stopped w v.node (event.Store v clock end.Stop p) (have-store w v clock end.Stop p all)
have-turn H w event.Quiet site allowed all = all
have-turn H w event.Spent site allowed all = all
have-turn H w _ site allowed all = absurd allowed

-- 4. Commands

have-shell : (w : World) (name : List ℕ) (target : Cap) (operation : List ℕ) (args : List Datum) (k : ℕ) (at_once : Option Status)
    → HaveAll w → HaveAll (asks name target operation args k at_once w)
have-shell w name target operation args k at_once all = have-traffic w (asks name target operation args k at_once w) refl
    (with_call k (Shell name) target operation args at_once w.traffic) refl
    (lets-call (Shell name) target operation args at_once k w.traffic) all

have-item : {X : Type 0} (w : World) (o : Option X) (f : X → World) → ((x : X) → HaveAll (f x)) → HaveAll w → HaveAll (with_item o f w)
have-item w None f each all = all
have-item w (Some x) f each all = each x

have-asked : (w : World) (c : Command) (k : ℕ) (at_once : Option Status) → HaveAll w → HaveAll (asked_by c k at_once w)
have-asked w (command.Call said target operation args) k at_once all =
    have-item w (ready_call w (command.Call said target operation args)) _ (λ c. have-shell w said c.0 operation c.1 k at_once all) all
have-asked w _ k at_once all = all

have-held : (c : Command) (w : World) → HaveAll w → HaveAll (held_by c w)
have-held (command.Hold name v) w all = all
have-held _ w all = all

have-restricted : (c : Command) (w : World) → HaveAll w → HaveAll (restricted_by c w)
have-restricted (command.Restrict name target mask) w all = have-item w (cap_at w target) _ (λ c. all) all
have-restricted _ w all = all

have-linked : (a b : ℕ) (together : Bool) (w : World) → HaveAll w → HaveAll (linked a b together w)
have-linked a b true w all = all
have-linked a b false w all = have-tells_each (processes_of (broken_by_link a b) w.traffic)
    (record w { cuts = (a, b) ∷ w.cuts; traffic = without_link a b w.traffic })
    (have-traffic w (record w { cuts = (a, b) ∷ w.cuts; traffic = without_link a b w.traffic }) refl (without_link a b w.traffic) refl
    (lets-without_link a b w.traffic) all)

have-born : (H : ℕ → Bool) (w : World) (u : Uid) (t : Option Edentype) → KnownWorld H w → IsNext w u → HaveAll w → HaveAll (born_as u t w)
have-born H w u None known is_next all = all
have-born H w u (Some t) known is_next all = have-part u.node (born u (fresh t (first_values t))) w (λ it is h.
    part-born u (fresh t (first_values t)) (site_of w u.node it) (site_of w u.node it)
    (new-by (site_of w u.node it) (known.fit u.node it is) u (at-its-site w u.node (λ s. next_uid s ≡ Ok u) it is is_next)) h) all

have-made : (H : ℕ → Bool) (w : World) (c : Command) (name : List ℕ) (why : Status) (u : Option Uid) → KnownWorld H w
    → AllowsCommand w c (event.Made name why u) → HaveAll w → HaveAll (made name (type_name_of c) u w)
have-made H w c name why None known allowed all = all
have-made H w c name why (Some u) known allowed all = have-born H w u (type_of w.types (type_name_of c)) known
    (made-next w c name why u allowed) all

have-command : (H : ℕ → Bool) (w : World) (c : Command) (e : Event) → KnownWorld H w → AllowsCommand w c e → HaveAll w
    → HaveAll (after_command w c e)
have-command H w c (event.Boot n e how q began) known allowed all =
    have-part n (site_turn (reaches w n) (event.Boot n e how q began)) w (λ it is h.
    part-boot e how q began (site_of w n it) (site_of w n it) h) all
have-command H w c (event.Crash n) known allowed all = have-stopped w n (event.Crash n)
    (have-part n (site_turn (reaches w n) (event.Crash n)) w (λ it is h. part-crashed (site_of w n it) (site_of w n it) h) all)
have-command H w c (event.Link a b together) known allowed all = have-linked a b together w all
have-command H w c (event.Made name why v) known allowed all = have-made H w c name why v known allowed all
have-command H w c (event.Bound name true) known allowed all = have-held c w all
have-command H w c (event.Bound name false) known allowed all = have-restricted c w all
have-command H w c (event.Asked k name at_once) known allowed all = have-asked w c k at_once all
have-command H w c (event.Still n up) known allowed all = all
have-command H w c (event.Armed n what) known allowed all = all
have-command H w c (event.Void name) known allowed all = all
have-command H w c (event.Request k a b refused) known allowed all = all
have-command H w c (event.Reply k a b name why values) known allowed all = all
have-command H w c (event.Activate v how q) known allowed all = all
have-command H w c (event.Start k v q) known allowed all = all
have-command H w c (event.Process v q said) known allowed all = all
have-command H w c (event.Store v clock how q) known allowed all = all
have-command H w c event.Quiet known allowed all = all
have-command H w c event.Spent known allowed all = all
have-command H w c (event.Left names) known allowed all = all

have-happened : (H : ℕ → Bool) (w : World) (c : Option Command) (e : Event) → SiteWorld H w → AllowsEvent w c e → HaveAll w
    → HaveAll (happened w c e)
have-happened H w None e site allowed all = have-turn H w e site allowed all
have-happened H w (Some c) e site allowed all = have-command H w c e site.known allowed all

-- 5. Every history

have-counted : (k : Option Key) (w : World) → HaveAll w → HaveAll (counted k w)
have-counted None w all = all
have-counted (Some k) w all = all

have-clocked : (n c : ℕ) (w : World) → HaveAll w → HaveAll (clocked n c w)
have-clocked n c w all = all-clocked (λ m it. HasWork (site_of w m it)) (λ m d it h. record { at = h.at }) n c w all

record HeldWorld (H : ℕ → Bool) (w : World) : Type 0 where
  site : SiteWorld H w
  have : HaveAll w

held-next : (H : ℕ → Bool) (w : World) (c : Option Command) (e : Entry) → Allows w c e → HeldWorld H w → HeldWorld H (next w c e)
held-next H w c e allowed h = record {
  site = site-next H w c e allowed h.site;
  have = have-counted (key_of e.event) (clocked e.node e.clock (happened w c e.event))
      (have-clocked e.node e.clock (happened w c e.event) (have-happened H w c e.event h.site allowed.event h.have));
}

have-looked_up : (w : World) (name : List ℕ) (target : Option Cap) (path : List (List ℕ)) (e : Event) → HaveAll w
    → HaveAll (looked_up w name target path e)
have-looked_up w name (Some target) path (event.Asked k said at_once) all = have-shell w name target _ _ k at_once all
have-looked_up w name target path _ all = all

held-looked_up : (H : ℕ → Bool) (w : World) (name : List ℕ) (target : Option Cap) (path : List (List ℕ)) (e : Event)
    → AllowsLookUp w name target path e → HeldWorld H w → HeldWorld H (looked_up w name target path e)
held-looked_up H w name target path e allowed h = record {
  site = site-looked_up H w name target path e allowed h.site;
  have =
      have-looked_up w name target path e h.have;
}

-- 6. The law

has-times : (k : ℕ) (ks : List ℕ) → 1 ≤ times k ks → has k ks ≡ true
has-times k [] some = absurd (omega (arith, some))
has-times k (j ∷ js) some = go (eq_by_cmp nat_cmp k j) some (has-times k js)
  where
    go : (b : Bool) → 1 ≤ cond b (times k js + 1) (times k js) → (1 ≤ times k js → has k js ≡ true) → (b || has k js) ≡ true
    go true some later = refl
    go false some later = later some

holds : (s : Site) → HasWork s → HoldsItsWork s
holds s h u k at on = go (eject_in s u) (h.at u k at on)
  where
    go : (o : Option Eject) → 1 ≤ times_in k o → IsSomeAnd o (λ e. has k (work_of e) ≡ true)
    go None some = absurd (omega (arith, some))
    go (Some e) some = has-times k (work_of e) (omega (arith, some, times-append k (runs_of e.active) e.queued))

pub held-calls-are-work : (layout : Layout) (script : Script) (disks : List DiskRun) (history : List Entry) → IsLayout layout
    → AreHandedIn layout disks → KeepRules script.types → HaveMonitors script.types → Begins layout script disks history
    → Everywhere (λ n it. HoldsItsWork (site_of (last_world (opening_world layout script disks) script history) n it))
    (last_world (opening_world layout script disks) script history)
held-calls-are-work layout script disks history lays fits rules monitors begins n it is =
    holds (site_of (last_world w script history) n it) (last.have n it is)
  where
    w : World
    w = opening_world layout script disks

    here : ℕ → Bool
    here n = is_some (node_at w n)

    opening : HeldWorld here w
    opening = record {
      site = site-opening layout script disks lays fits rules monitors;
      have = λ n it is. record { at = λ u k at on. absurd on };
    }

    last : HeldWorld here (last_world w script history)
    last = end-keeps Any (HeldWorld here) (record {
      entries = λ past w c e any allowed i. (tt, held-next here w c e allowed i);
      look_ups = λ past w name target path e any allowed plain i. (tt, held-looked_up here w name target path e.event allowed i);
    }) (beginning w script.nodes script.commands) [] history (of-any 1 script.nodes w script.commands)
        (subst (HeldWorld here) (sym (world-booting 1 script.nodes w script.commands)) opening) begins
