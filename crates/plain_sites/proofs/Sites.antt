-- Sites of the code as those of the definitions, behind a change.
use Rattle.std.proofs.Common.{◌≡◌, ◌∙◌, ◌||◌, ℕ, Bool, true, false, not, cond, List, [], ◌∷◌, map, Option, None, Some, refl, sym, ap}
use Rattle.std.proofs.Common.{is_some}
use Rattle.std.specs.List.{cons_option, filter_map}
use Rattle.std.specs.Option.{option_map}
use Rattle.capability.specs.declared.Uid.{Uid}
use Rattle.eden_value.specs.declared.status.Status.{Status}
use Rattle.eden_value.specs.declared.status.Status.TheVariants as status
use Rattle.eden_model.specs.Crew.{Invocation, Process, call_of, serving_pairs}
use Rattle.eden_model.specs.Map.{changed_at, put_at, uid_cmp, value_at, with_item}
use Rattle.eden_model.specs.Traffic.{Traffic, all_replied, orphaned}
use Rattle.epl_syntax.specs.Meaning.{types_in}
use Rattle.epl_syntax.specs.Rules.OfTypes.{TypeList}
use Rattle.passive_blocks.specs.BlockLayout.{block_layout}
use Rattle.journal.specs.Ejects.{born, deactivated, gone_if_unkept, is_kept, is_there, newborn, turned_away, with_active, with_queued}
use Rattle.journal.specs.Ejects.{without_active, without_requests}
use Rattle.journal.specs.Sites.{InOrder}
use Rattle.journal.specs.World.{Active, Eject, Node, Site, eject_in, on_eject, on_node, on_traffic}
use Rattle.plain_sites.specs.View.{IsPassive, is_unkept, queue_in, ran_in}
use Rattle.plain_sites.proofs.Entries.{put-same}
use Rattle.plain_stores.specs.declared.PlainNode.{PlainNode}
use Rattle.plain_stores.specs.View.{ejects_of, node_of, site_of}

-- 1. A site by its parts

abbrev pub made : TypeList → ℕ → Node → Traffic → Site
made ts n it t = record { types = types_in ts; layout = block_layout; number = n; node = it; traffic = t }

pub made-same : (ts : TypeList) (m n : ℕ) (a b : Node) (t u : Traffic) → m ≡ n → a ≡ b → t ≡ u → made ts m a t ≡ made ts n b u
made-same ts m n a b t u x y z = λ i. made ts (x i) (y i) (z i)

-- 2. An active part ends

-- the calls that run, by the processes that serve them
pub running-pairs : (ps : List (ℕ × Process)) → map (λ (p : ℕ × ℕ). p.1) (serving_pairs ps) ≡ filter_map call_of ps
running-pairs [] = refl
running-pairs (p ∷ ps) = go p.1.serves (running-pairs ps)
  where
    go : (o : Option Invocation) → map (λ (q : ℕ × ℕ). q.1) (serving_pairs ps) ≡ filter_map call_of ps
        → map (λ (q : ℕ × ℕ). q.1) (cons_option (option_map (λ (i : Invocation). (p.0, i.call)) o) (serving_pairs ps))
        ≡ cons_option (with_item o (λ i. Some i.call) None) (filter_map call_of ps)
    go None others = others
    go (Some i) others = ap (λ l. i.call ∷ l) others

-- an Eject that ran these is active
record Ran (e : Eject) (served : List (ℕ × ℕ)) : Type 0 where
  part : Active
  is : e.active ≡ Some part
  calls : served ≡ serving_pairs part.crew.processes

ran-active : (e : Eject) (served : List (ℕ × ℕ)) → Some served ≡ ran_in (Some e) → Ran e served
ran-active e served ran = go e.active refl ran
  where
    go : (a : Option Active) → e.active ≡ a → Some served ≡ option_map (λ it. serving_pairs it.crew.processes) a → Ran e served
    go None is ran = absurd (cc ran)
    go (Some it) is ran = record { part = it; is = is; calls = cc ran }

ran-passive : (e : Eject) → None ≡ ran_in (Some e) → e.active ≡ None
ran-passive e ran = go e.active ran
  where
    go : (a : Option Active) → None ≡ option_map (λ it. serving_pairs it.crew.processes) a → a ≡ None
    go None ran = refl
    go (Some it) ran = absurd (cc ran)

-- the site with what the end of an active part leaves
abbrev pub ended_site : Uid → List (ℕ × ℕ) → Site → Site
ended_site u served s = record s {
  node = without_requests u (record s.node { ejects = changed_at uid_cmp u (with_active None) s.node.ejects });
  traffic = all_replied status.Dropped (map (λ (p : ℕ × ℕ). p.1) served) (orphaned u s.traffic);
}

without-as : (u : Uid) (it : Active) (served : List (ℕ × ℕ)) (s : Site) → served ≡ serving_pairs it.crew.processes
    → without_active u it s ≡ ended_site u served s
unfolding on_node on_eject on_traffic
without-as u it served s is = ap (λ ks. record s {
  node = without_requests u (record s.node { ejects = changed_at uid_cmp u (with_active None) s.node.ejects });
  traffic = all_replied status.Dropped ks (orphaned u s.traffic);
}) (sym (running-pairs it.crew.processes) ∙ ap (map (λ (p : ℕ × ℕ). p.1)) (sym is))

abbrev pub deactivated_of : Uid → Site → Option Eject → Site
deactivated_of u s o = with_item o (λ e. with_item e.active (λ it. without_active u it s) s) s

pub deactivated-some : (u : Uid) (s : Site) (served : List (ℕ × ℕ)) → Some served ≡ ran_in (eject_in s u)
    → deactivated u s ≡ ended_site u served s
deactivated-some u s served ran = go (eject_in s u) refl ran
  where
    go : (o : Option Eject) → eject_in s u ≡ o → Some served ≡ ran_in o → deactivated u s ≡ ended_site u served s
    go None at ran = absurd (cc ran)
    go (Some e) at ran =
        let x = ran-active e served ran in
        ap (deactivated_of u s) at ∙ (ap (λ a. with_item a (λ it. without_active u it s) s) x.is ∙ without-as u x.part served s x.calls)

pub deactivated-none : (u : Uid) (s : Site) → None ≡ ran_in (eject_in s u) → deactivated u s ≡ s
deactivated-none u s ran = go (eject_in s u) refl ran
  where
    go : (o : Option Eject) → eject_in s u ≡ o → None ≡ ran_in o → deactivated u s ≡ s
    go None at ran = ap (deactivated_of u s) at
    go (Some e) at ran = ap (deactivated_of u s) at ∙ ap (λ a. with_item a (λ it. without_active u it s) s) (ran-passive e ran)

-- nothing is changed where there is no active part
pub passive-same : (u : Uid) (es : List (Uid × Eject)) → InOrder es → None ≡ ran_in (value_at uid_cmp u es)
    → changed_at uid_cmp u (with_active None) es ≡ es
passive-same u es order ran = go (value_at uid_cmp u es) refl ran
  where
    go : (o : Option Eject) → value_at uid_cmp u es ≡ o → None ≡ ran_in o → changed_at uid_cmp u (with_active None) es ≡ es
    go None at ran = ap (λ o. with_item o (λ x. put_at uid_cmp u (with_active None x) es) es) at
    go (Some e) at ran = ap (λ o. with_item o (λ x. put_at uid_cmp u (with_active None x) es) es) at
        ∙ put-same u (with_active None e) es order (at ∙ ap (λ a. Some (with_active a e)) (ran-passive e ran))

-- the code's node and calls behind it
pub ended-as : (ts : TypeList) (n m : PlainNode) (t new : Traffic) (u : Uid) (es : List (Uid × Eject)) (served : List (ℕ × ℕ))
    → Some served ≡ ran_in (value_at uid_cmp u (ejects_of ts n.ejects.items))
    → es ≡ changed_at uid_cmp u (with_active None) (ejects_of ts n.ejects.items)
    → m.number ≡ n.number → node_of ts m ≡ without_requests u (record (node_of ts n) { ejects = es })
    → new ≡ all_replied status.Dropped (map (λ (p : ℕ × ℕ). p.1) served) (orphaned u t)
    → site_of ts new m ≡ deactivated u (site_of ts t n)
ended-as ts n m t new u es served ran is same node traffic =
    made-same ts m.number n.number (node_of ts m) _ new _ same
    (node ∙ ap (λ l. without_requests u (record (node_of ts n) { ejects = l })) is) traffic
    ∙ sym (deactivated-some u (site_of ts t n) served ran)

pub not-ended-as : (ts : TypeList) (n : PlainNode) (t : Traffic) (u : Uid) (es : List (Uid × Eject))
    → None ≡ ran_in (value_at uid_cmp u (ejects_of ts n.ejects.items))
    → es ≡ changed_at uid_cmp u (with_active None) (ejects_of ts n.ejects.items) → InOrder (ejects_of ts n.ejects.items)
    → made ts n.number (record (node_of ts n) { ejects = es }) t ≡ deactivated u (site_of ts t n)
not-ended-as ts n t u es ran is order =
    ap (λ l. made ts n.number (record (node_of ts n) { ejects = l }) t) (is ∙ passive-same u (ejects_of ts n.ejects.items) order ran)
    ∙ sym (deactivated-none u (site_of ts t n) ran)

-- 3. A queue is turned away

abbrev turned_of : Uid → Status → Site → Option Eject → Site
turned_of u why s o = with_item o (λ e. on_traffic (all_replied why e.queued) (on_eject u (with_queued []) s)) s

pub turned-as : (ts : TypeList) (n : PlainNode) (t new : Traffic) (u : Uid) (why : Status) (es : List (Uid × Eject)) (q : List ℕ)
    → q ≡ queue_in (value_at uid_cmp u (ejects_of ts n.ejects.items))
    → es ≡ changed_at uid_cmp u (with_queued []) (ejects_of ts n.ejects.items) → new ≡ all_replied why q t
    → made ts n.number (record (node_of ts n) { ejects = es }) new ≡ turned_away u why (site_of ts t n)
unfolding on_eject on_traffic
turned-as ts n t new u why es q queued is traffic = go (value_at uid_cmp u old) refl
  where
    old : List (Uid × Eject)
    old = ejects_of ts n.ejects.items

    go : (o : Option Eject) → value_at uid_cmp u old ≡ o
        → made ts n.number (record (node_of ts n) { ejects = es }) new ≡ turned_away u why (site_of ts t n)
    go None at = made-same ts n.number n.number (record (node_of ts n) { ejects = es }) (node_of ts n) new t refl
        (ap (λ l. record (node_of ts n) { ejects = l }) (is ∙ ap (λ o. with_item o (λ x. put_at uid_cmp u (with_queued [] x) old) old) at))
        (traffic ∙ ap (λ l. all_replied why l t) (queued ∙ ap queue_in at))
        ∙ sym (ap (turned_of u why (site_of ts t n)) at)
    go (Some e) at = made-same ts n.number n.number (record (node_of ts n) { ejects = es }) _ new (all_replied why e.queued t) refl
        (ap (λ l. record (node_of ts n) { ejects = l }) is) (traffic ∙ ap (λ l. all_replied why l t) (queued ∙ ap queue_in at))
        ∙ sym (ap (turned_of u why (site_of ts t n)) at)

-- 4. An Eject that is gone

passive-there : (a : Option Active) (k : Bool) → not (is_some a || k) ≡ true → a ≡ None
passive-there None k is = refl
passive-there (Some it) k is = absurd (cc is)

pub unkept-passive : (o : Option Eject) → is_unkept o ≡ true → IsPassive o
unkept-passive None is = tt
unkept-passive (Some e) is = passive-there e.active (is_kept e) is

not-there : (b : Bool) → not b ≡ true → b ≡ false
not-there true is = absurd (cc is)
not-there false is = refl

there : (b : Bool) → not b ≡ false → b ≡ true
there true is = refl
there false is = absurd (cc is)

abbrev gone_of : Uid → Site → Option Eject → Site
gone_of u s o = with_item o (λ e. cond (is_there e) s (turned_away u status.Gone s)) s

pub unkept-gone : (u : Uid) (s : Site) → is_unkept (eject_in s u) ≡ true → turned_away u status.Gone s ≡ gone_if_unkept u s
unkept-gone u s is = go (eject_in s u) refl is
  where
    go : (o : Option Eject) → eject_in s u ≡ o → is_unkept o ≡ true → turned_away u status.Gone s ≡ gone_if_unkept u s
    go None at is = absurd (cc is)
    go (Some e) at is = sym (ap (gone_of u s) at ∙ ap (λ b. cond b s (turned_away u status.Gone s)) (not-there (is_there e) is))

pub kept-stays : (u : Uid) (s : Site) → is_unkept (eject_in s u) ≡ false → s ≡ gone_if_unkept u s
kept-stays u s is = go (eject_in s u) refl is
  where
    go : (o : Option Eject) → eject_in s u ≡ o → is_unkept o ≡ false → s ≡ gone_if_unkept u s
    go None at is = sym (ap (gone_of u s) at)
    go (Some e) at is = sym (ap (gone_of u s) at ∙ ap (λ b. cond b s (turned_away u status.Gone s)) (there (is_there e) is))

-- 5. A new Eject

pub born-as : (ts : TypeList) (n : PlainNode) (t : Traffic) (u : Uid) (it : Active) (e : Eject) (es : List (Uid × Eject))
    → eject_in (site_of ts t n) u ≡ None → e ≡ newborn it → es ≡ put_at uid_cmp u e (ejects_of ts n.ejects.items)
    → made ts n.number (record (node_of ts n) { last_serial = u.serial; ejects = es }) t ≡ born u it (site_of ts t n)
unfolding on_node
born-as ts n t u it e es none new is =
    ap (λ l. made ts n.number (record (node_of ts n) { last_serial = u.serial; ejects = l }) t)
    (is ∙ (ap (λ x. put_at uid_cmp u x (ejects_of ts n.ejects.items)) new
    ∙ ap (λ o. put_at uid_cmp u (with_item o (with_active (Some it)) (newborn it)) (ejects_of ts n.ejects.items)) (sym none)))

-- 6. Answers to many calls

abbrev pub all_dropped : List (ℕ × ℕ) → Traffic → Traffic
all_dropped served t = all_replied status.Dropped (map (λ (p : ℕ × ℕ). p.1) served) t
