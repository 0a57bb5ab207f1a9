-- Which calls an event broke, and who asked them, by the numbers that `break_node` and `break_link` hand back.
use Rattle.std.proofs.Common.{◌≡◌, ◌==◌, ◌≤◌, ℕ, ◌+◌, Bool, true, false, cond, not, ◌&&◌, ◌||◌, List, [], ◌∷◌, Option, None, Some}
use Rattle.std.proofs.Common.{refl, sym, ◌∙◌, ap, subst, arith, inl}
use Rattle.std.specs.Prelude.{IsSomeAnd}
use Rattle.std.specs.List.{filter_map, cons_option, AllByRecursion}
use Rattle.std.specs.Option.{option_map}
use Rattle.std.specs.Ordering.{nat_cmp, eq_by_cmp}
use Rattle.capability.specs.declared.Uid.{Uid}
use Rattle.eden_model.specs.Map.{with_item, value_at}
use Rattle.eden_model.specs.Crew.{Waits, outside}
use Rattle.eden_model.proofs.Numbers.{same-true, same-self}
use Rattle.eden_model.specs.declared.Asker.{Asker}
use Rattle.eden_model.specs.declared.Asker.TheVariants.{Shell, Eject as Process}
use Rattle.eden_model.specs.Traffic.{Traffic, Call, Place, done, in_transit, call_at, waiting_process, shell_name, names_of, numbers_of}
use Rattle.eden_model.specs.Traffic.{processes_of}
use Rattle.eden_model.specs.Traffic.{touches, on_link, crashed_call, cut_call, without_node, without_link, broken_by_node, broken_by_link}
use Rattle.eden_model.specs.Traffic.{target_station, asking_station}
use Rattle.invocation.specs.declared.call.Call.{Call as MailCall}
use Rattle.invocation.specs.Mail.{Mail}
use Rattle.invocation.specs.Numbers.{item_in}
use Rattle.invocation.specs.Carries.{Carries}
use Rattle.invocation.proofs.CarriesLaws.{found-call, asked-call, names-by-number, processes-by-number}
use Rattle.journal.specs.World.{World, Node, Active, node_at, site_of, eject_in}
use Rattle.journal.specs.Sites.{AreNumbered, AllSound, active_in}
use Rattle.ejects.specs.Marks.{IsLoose}
use Rattle.ejects.proofs.Keeping.{value-each}
use Rattle.eden_world.specs.Told.{waiting_at, name_at, CanBeTold, IsLooseAt}

-- 1. Askers

-- the same calls, by who asked them
pub record SameAskers (t later : Traffic) : Type 0 where
  pub at : (k : ℕ) → option_map (λ (c : Call). c.asker) (call_at later k) ≡ option_map (λ (c : Call). c.asker) (call_at t k)

same-askers : (t later : Traffic) (f : Call → Call) → ((k : ℕ) → call_at later k ≡ option_map f (call_at t k))
    → ((c : Call) → (f c).asker ≡ c.asker) → SameAskers t later
same-askers t later f each same = record { at = λ k. ap (option_map (λ (c : Call). c.asker)) (each k) ∙ go (call_at t k) }
  where
    go : (o : Option Call) → option_map (λ (c : Call). c.asker) (option_map f o) ≡ option_map (λ (c : Call). c.asker) o
    go None = refl
    go (Some c) = ap (λ a. Some a) (same c)

pub askers-without_node : (n : ℕ) (t : Traffic) → SameAskers t (without_node n t)
askers-without_node n t = same-askers t (without_node n t) (crashed_call n) (λ k. value-each nat_cmp (crashed_call n) k t.calls)
    (λ c. go c (cond ((target_station c == n) || in_transit c.place) done c.place) (touches n c))
  where
    go : (c : Call) (p : Place) (b : Bool) → (cond b (record c { open_ = false; place = p }) c).asker ≡ c.asker
    go c p true = refl
    go c p false = refl

pub askers-without_link : (a b : ℕ) (t : Traffic) → SameAskers t (without_link a b t)
askers-without_link a b t = same-askers t (without_link a b t) (cut_call a b) (λ k. value-each nat_cmp (cut_call a b) k t.calls)
    (λ c. go c (cond (in_transit c.place) done c.place) (on_link a b c))
  where
    go : (c : Call) (p : Place) (x : Bool) → (cond x (record c { open_ = false; place = p }) c).asker ≡ c.asker
    go c p true = refl
    go c p false = refl

-- and those in hand
askers-in_mail : (m : Mail) (t : Traffic) → Carries m t → (k : ℕ)
    → option_map (λ (c : MailCall). c.asker) (item_in k m.calls) ≡ option_map (λ (c : Call). c.asker) (call_at t k)
askers-in_mail m t carries k = go (item_in k m.calls) refl (call_at t k) refl
  where
    go : (o : Option MailCall) → item_in k m.calls ≡ o → (p : Option Call) → call_at t k ≡ p
        → option_map (λ (c : MailCall). c.asker) (item_in k m.calls) ≡ option_map (λ (c : Call). c.asker) (call_at t k)
    go (Some c) is p at = let f = found-call m t carries k c is in
        ap (option_map (λ (c : MailCall). c.asker)) is ∙ ap (λ a. Some a) (sym f.same.asker)
        ∙ sym (ap (option_map (λ (c : Call). c.asker)) f.is)
    go None is None at = ap (option_map (λ (c : MailCall). c.asker)) is ∙ sym (ap (option_map (λ (c : Call). c.asker)) at)
    go None is (Some d) at = absurd (let f = asked-call m t carries k d at in let bad : None ≡ Some f.call = sym is ∙ f.is in cc bad)

-- what is told of a call by who asked it
by-asker : {Y : Type 0} (g : Asker → Option Y) (m later : Mail) (t new : Traffic) → Carries later new → SameAskers t new → (k : ℕ)
    → with_item (call_at t k) (λ c. g c.asker) None ≡ with_item (item_in k later.calls) (λ c. g c.asker) None
by-asker {Y} g m later t new carries same k =
    of-call (call_at t k) ∙ ap (λ o. with_item o g None) (sym (same.at k) ∙ sym (askers-in_mail later new carries k))
    ∙ sym (of-item (item_in k later.calls))
  where
    of-call : (o : Option Call) → with_item o (λ c. g c.asker) None ≡ with_item (option_map (λ (c : Call). c.asker) o) g None
    of-call None = refl
    of-call (Some c) = refl

    of-item : (o : Option MailCall) → with_item o (λ c. g c.asker) None ≡ with_item (option_map (λ (c : MailCall). c.asker) o) g None
    of-item None = refl
    of-item (Some c) = refl

-- The names of the shell's calls that broke, and the processes that wait for one, by the numbers of the calls and the mail behind it.
pub broken-names : (hits : Call → Bool) (m later : Mail) (t new : Traffic) → Carries m t → Carries later new → SameAskers t new
    → names_of hits t ≡ filter_map (name_at later) (numbers_of hits t)
broken-names hits m later t new carries after same =
    names-by-number m t carries hits ∙ (λ i. filter_map (λ k. by-asker shell_name m later t new after same k i) (numbers_of hits t))

pub broken-processes : (hits : Call → Bool) (m later : Mail) (t new : Traffic) → Carries m t → Carries later new → SameAskers t new
    → processes_of hits t ≡ filter_map (waiting_at later) (numbers_of hits t)
broken-processes hits m later t new carries after same =
    processes-by-number m t carries hits ∙
    (λ i. filter_map (λ k. by-asker waiting_process m later t new after same k i) (numbers_of hits t))

-- no call that breaks is told of
pub no-names : (t : Traffic) → names_of (λ c. false) t ≡ []
no-names t = go t.calls
  where
    go : (es : List (ℕ × Call)) → filter_map (λ (e : ℕ × Call). cond false (shell_name e.1.asker) None) es ≡ []
    go [] = refl
    go (e ∷ es) = go es

-- 2. Who waits for a call that broke can be told

each-process : (P : Uid × ℕ → Type 0) (hits : Call → Bool) (all : List (ℕ × Call)) → ((k : ℕ) (c : Call) (u : Uid) (p : ℕ)
    → value_at nat_cmp k all ≡ Some c → hits c ≡ true → c.asker ≡ Process u p → P (u, p))
    → (n : ℕ) (es : List (ℕ × Call)) → AreNumbered n es → ((j : ℕ) → n ≤ j → value_at nat_cmp j all ≡ value_at nat_cmp j es)
    → AllByRecursion P (filter_map (λ (e : ℕ × Call). cond (hits e.1) (waiting_process e.1.asker) None) es)
each-process P hits all each n [] h found = tt
each-process P hits all each n (e ∷ es) h found = go (hits e.1) refl e.1.asker refl (each-process P hits all each (n + 1) es h.1 later)
  where
    apart : (j : ℕ) → n + 1 ≤ j → (b : Bool) → eq_by_cmp nat_cmp j e.0 ≡ b → b ≡ false
    apart j le true same = let is : j ≡ e.0 = same-true j e.0 same in absurd (omega (arith, is, h.0, le))
    apart j le false same = refl

    later : (j : ℕ) → n + 1 ≤ j → value_at nat_cmp j all ≡ value_at nat_cmp j es
    later j le = found j (omega (arith, le)) ∙ rw (apart j le (eq_by_cmp nat_cmp j e.0) refl) refl

    here : value_at nat_cmp e.0 all ≡ Some e.1
    here = found e.0 (omega (arith, h.0)) ∙ rw (same-self e.0) refl

    go : (b : Bool) → hits e.1 ≡ b → (a : Asker) → e.1.asker ≡ a
        → AllByRecursion P (filter_map (λ (e : ℕ × Call). cond (hits e.1) (waiting_process e.1.asker) None) es)
        → AllByRecursion P (cons_option (cond b (waiting_process a) None)
        (filter_map (λ (e : ℕ × Call). cond (hits e.1) (waiting_process e.1.asker) None) es))
    go true hit (Shell name) asker rest = rest
    go true hit (Process u p) asker rest = (each e.0 e.1 u p here hit asker, rest)
    go false hit a asker rest = rest

both-true : (a b : Bool) → (a && b) ≡ true → (a ≡ true) × (b ≡ true)
both-true true b e = (refl, e)
both-true false b e = absurd (cc e)

not-true : (b : Bool) → not b ≡ true → b ≡ false
not-true true e = absurd (cc e)
not-true false e = refl

-- who asked an open call waits, and so stands in no queue
is-loose : (w : World) (u : Uid) (p k : ℕ) (c : Call) (it : Node) → AllSound w → node_at w u.node ≡ Some it → call_at w.traffic k ≡ Some c
    → c.open_ ≡ true → c.asker ≡ Process u p → IsLooseAt (eject_in (site_of w u.node it) u) p
is-loose w u p k c it sound at is opened asker =
    waits (active_in (eject_in (site_of w u.node it) u)) (((sound u.node it at).processes u p refl).asks k
    (subst (λ o. IsSomeAnd o (λ (d : Call). (d.open_ ≡ true) × (d.asker ≡ Process u p))) (sym is) (opened, asker))).0
  where
    waits : (o : Option Active) → IsSomeAnd o (λ a. Waits a.crew p outside) → IsSomeAnd o (λ a. IsLoose a.crew p)
    waits None h = absurd h
    waits (Some a) h = inl h

-- behind a fall of node n
pub can-fall : (w later : World) (n : ℕ) → AllSound w → AreNumbered 1 w.traffic.calls
    → ((m : ℕ) → (m == n) ≡ false → node_at later m ≡ node_at w m)
    → AllByRecursion (CanBeTold n later) (processes_of (broken_by_node n) w.traffic)
can-fall w later n sound numbered others = each-process (CanBeTold n later) (broken_by_node n) w.traffic.calls can 1 w.traffic.calls
    numbered
    (λ j le. refl)
  where
    can : (k : ℕ) (c : Call) (u : Uid) (p : ℕ) → call_at w.traffic k ≡ Some c → broken_by_node n c ≡ true → c.asker ≡ Process u p
        → CanBeTold n later (u, p)
    can k c u p is hit asker it at =
        let x = both-true c.open_ ((target_station c == n) && not (asking_station c.asker == n)) hit in
        let y = both-true (target_station c == n) (not (asking_station c.asker == n)) x.1 in
        let apart : (u.node == n) ≡ false =
        ap (λ a. asking_station a == n) (sym asker) ∙ not-true (asking_station c.asker == n) y.1 in
        (apart, is-loose w u p k c it sound (sym (others u.node apart) ∙ at) is x.0 asker)

-- behind a cut: no node fell
pub can-cut : (w later : World) (a b : ℕ) → AllSound w → AreNumbered 1 w.traffic.calls → ((m : ℕ) → node_at later m ≡ node_at w m)
    → ((m : ℕ) (it : Node) → node_at w m ≡ Some it → (m == 0) ≡ false)
    → AllByRecursion (CanBeTold 0 later) (processes_of (broken_by_link a b) w.traffic)
can-cut w later a b sound numbered same some = each-process (CanBeTold 0 later) (broken_by_link a b) w.traffic.calls can 1 w.traffic.calls
    numbered (λ j le. refl)
  where
    can : (k : ℕ) (c : Call) (u : Uid) (p : ℕ) → call_at w.traffic k ≡ Some c → broken_by_link a b c ≡ true → c.asker ≡ Process u p
        → CanBeTold 0 later (u, p)
    can k c u p is hit asker it at =
        let here : node_at w u.node ≡ Some it = sym (same u.node) ∙ at in
        (some u.node it here, is-loose w u p k c it sound here is (both-true c.open_ (on_link a b c) hit).0 asker)
