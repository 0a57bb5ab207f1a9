-- An entry that touches another disk, or none, leaves what is kept on a node, and what is in doubt there.
use Rattle.std.proofs.Common.{◌≡◌, ◌==◌, ℕ, Bool, true, false, cond, ◌&&◌, T, List, [], ◌∷◌, ◌++◌, Option, None, Some, is_some, refl}
use Rattle.std.proofs.Common.{sym, ◌∙◌, ap, subst}
use Rattle.std.specs.Prelude.{IsSomeAnd}
use Rattle.std.specs.List.{filter_map, cons_option}
use Rattle.std.specs.Option.{option_map}
use Rattle.std.specs.Ordering.{nat_cmp, eq_by_cmp, is_eq, is_lt}
use Rattle.std.specs.declared.cmp.Ordering.{Ordering}
use Rattle.std.specs.declared.cmp.Ordering.TheVariants.{Less, Equal, Greater}
use Rattle.std.specs.FinMap.Entries.{is_sorted, below_all, same_entries, find-put}
use Rattle.std.proofs.lemmas.Bool.{eq-eqb}
use Rattle.capability.specs.declared.Uid.{Uid}
use Rattle.capability.proofs.Uids.{uid_cmp_total, uid_cmp-IsAntisymmetric}
use Rattle.eden_value.specs.declared.status.Status.TheVariants as status
use Rattle.eden_model.specs.Map.{with_item, uid_cmp, value_at}
use Rattle.eden_model.proofs.Laws.{eq-same}
use Rattle.epl_syntax.specs.declared.effect.Answer.{Answer}
use Rattle.epl_syntax.specs.Edentype.{Edentype}
use Rattle.epl_syntax.specs.Meaning.{first_values}
use Rattle.passive_store.specs.declared.store.Pick.{Pick}
use Rattle.passive_store.specs.Kept.{Layout}
use Rattle.passive_store.specs.Layout.{IsLayout}
use Rattle.journal.specs.declared.command.Command.{Command}
use Rattle.journal.specs.declared.command.Script.{Script}
use Rattle.journal.specs.declared.event.StartEnd.{StartEnd}
use Rattle.journal.specs.declared.event.StartEnd.TheVariants as start_end
use Rattle.journal.specs.declared.event.RequestEnd.{RequestEnd}
use Rattle.journal.specs.declared.event.Event.{Event}
use Rattle.journal.specs.declared.event.Event.TheVariants as event
use Rattle.journal.specs.declared.event.Entry.{Entry}
use Rattle.journal.specs.World.{World, Site, Node, Active, Eject, StoreRequest, node_at, site_of, eject_in, on_eject, on_node}
use Rattle.journal.specs.World.{reaches}
use Rattle.journal.specs.Ejects.{with_active, on_active, told, tells, fresh, newborn, born}
use Rattle.journal.specs.Settling.{first_request, doubts, to_settle, epoch_entries, epoch_doubts, kept_entry, doubt_entry}
use Rattle.journal.specs.Stores.{Work, syncs, reads, unkept, without_room, calls, work_of, makes_call, worked}
use Rattle.journal.specs.Stores.{store_turn, AllowsStore}
use Rattle.journal.specs.Starts.{StartsFrom, StartsSo, AllowsActivate, activated, start_settled, activation_turn}
use Rattle.journal.specs.Step.{AllowsAt, Allows, next, touched, touches_start, touches_store, node_if, site_turn}
use Rattle.journal.specs.Run.{EachStep, beginning}
use Rattle.journal.specs.Standing.{DiskRun, Standing, state, kept_of_node, nothing_stands}
use Rattle.journal.specs.LegalRun.{AreHandedIn, opening_world, run_of}
use Rattle.journal.specs.Laws.{Begins}
use Rattle.journal.specs.Sites.{InOrder, Sound, Everywhere, SoundWorld}
use Rattle.history_laws.proofs.Frame.{eject-on_eject}
use Rattle.history_laws.proofs.NoneRolledBack.{with_clock}
use Rattle.history_laws.proofs.Changes.{Facts, facts_of, Queue}
use Rattle.history_laws.proofs.ChangeLaw.{keeps-requested, keeps-heard, keeps-start, keeps-process_turn, keeps-turned_away}
use Rattle.history_laws.proofs.StoreLaw.{comes-ended, comes-done}
use Rattle.history_laws.proofs.EveryNode.{IsAt, IsKeptAt, all-next}
use Rattle.history_laws.proofs.SoundWorld.{sound-next, sound-looked_up}
use Rattle.history_laws.proofs.EnabledRuns.{sound-opening-world}
use Rattle.history_laws.proofs.Runs.{Any, of-any, each-step, world-booting, nodes-looked_up}
use Rattle.history_laws.proofs.SiteFrames.{leaves-turned_away, leaves-done, leaves-ended, keeps-site}

-- 1. What is picked out of a list in order: the same by every uid is the same list

abbrev entry : {X : Type 0} → (Eject → Option X) → Uid × Eject → Option (Uid × X)
entry h e = with_item (h e.1) (λ x. Some (e.0, x)) None

abbrev picked : {X : Type 0} → (Eject → Option X) → List (Uid × Eject) → List (Uid × X)
picked h es = filter_map (entry h) es

both : (a b : Bool) → T a → T b → T (a && b)
both true b x y = y
both false b x y = absurd x

left-of : (a b : Bool) → T (a && b) → T a
left-of true b x = tt
left-of false b x = x

right-of : (a b : Bool) → T (a && b) → T b
right-of true b x = x
right-of false b x = absurd x

below-picked : {X : Type 0} (h : Eject → Option X) (k : Uid) (es : List (Uid × Eject)) → T (below_all uid_cmp k es)
    → T (below_all uid_cmp k (picked h es))
below-picked h k [] below = tt
below-picked {X = X} h k (e ∷ es) below = go (h e.1) (below-picked h k es (right-of (is_lt (uid_cmp k e.0)) (below_all uid_cmp k es) below))
  where
    go : (o : Option X) → T (below_all uid_cmp k (picked h es))
        → T (below_all uid_cmp k (cons_option (with_item o (λ x. Some (e.0, x)) None) (picked h es)))
    go None later = later
    go (Some x) later = both (is_lt (uid_cmp k e.0)) (below_all uid_cmp k (picked h es))
        (left-of (is_lt (uid_cmp k e.0)) (below_all uid_cmp k es) below) later

sorted-picked : {X : Type 0} (h : Eject → Option X) (es : List (Uid × Eject)) → InOrder es → T (is_sorted uid_cmp (picked h es))
sorted-picked h [] ordered = tt
sorted-picked {X = X} h (e ∷ es) ordered = go (h e.1) (sorted-picked h es
    (right-of (below_all uid_cmp e.0 es) (is_sorted uid_cmp es) ordered))
  where
    go : (o : Option X) → T (is_sorted uid_cmp (picked h es)) → T
        (is_sorted uid_cmp (cons_option (with_item o (λ x. Some (e.0, x)) None) (picked h es)))
    go None later = later
    go (Some x) later = both (below_all uid_cmp e.0 (picked h es)) (is_sorted uid_cmp (picked h es))
        (below-picked h e.0 es (left-of (below_all uid_cmp e.0 es) (is_sorted uid_cmp es) ordered)) later

value-below : (q : Uid) (es : List (Uid × Eject)) → T (below_all uid_cmp q es) → value_at uid_cmp q es ≡ None
value-below q [] below = refl
value-below q (e ∷ es) below = go (uid_cmp q e.0) (left-of (is_lt (uid_cmp q e.0)) (below_all uid_cmp q es) below)
    (value-below q es (right-of (is_lt (uid_cmp q e.0)) (below_all uid_cmp q es) below))
  where
    go : (o : Ordering) → T (is_lt o) → value_at uid_cmp q es ≡ None → cond (is_eq o) (Some e.1) (value_at uid_cmp q es) ≡ None
    go Less less later = later
    go Equal less later = absurd less
    go Greater less later = absurd less

value-picked : {X : Type 0} (h : Eject → Option X) (q : Uid) (es : List (Uid × Eject)) → InOrder es
    → value_at uid_cmp q (picked h es) ≡ with_item (value_at uid_cmp q es) h None
value-picked h q [] ordered = refl
value-picked {X = X} h q (e ∷ es) ordered = go (h e.1) refl (eq_by_cmp uid_cmp q e.0) refl
    (value-picked h q es (right-of (below_all uid_cmp e.0 es) (is_sorted uid_cmp es) ordered))
  where
    none : eq_by_cmp uid_cmp q e.0 ≡ true → value_at uid_cmp q es ≡ None
    none same = ap (λ k. value_at uid_cmp k es) (eq-same uid_cmp uid_cmp-IsAntisymmetric q e.0 same)
        ∙ value-below e.0 es (left-of (below_all uid_cmp e.0 es) (is_sorted uid_cmp es) ordered)

    go : (o : Option X) → h e.1 ≡ o → (b : Bool) → eq_by_cmp uid_cmp q e.0 ≡ b
        → value_at uid_cmp q (picked h es) ≡ with_item (value_at uid_cmp q es) h None
        → value_at uid_cmp q (cons_option (with_item o (λ x. Some (e.0, x)) None) (picked h es))
        ≡ with_item (cond b (Some e.1) (value_at uid_cmp q es)) h None
    go None at true same later = later ∙ ap (λ x. with_item x h None) (none same) ∙ sym at
    go None at false same later = later
    go (Some x) at true same later = rw same (sym at)
    go (Some x) at false same later = rw same later

same-picked : {X : Type 0} (h : Eject → Option X) (es fs : List (Uid × Eject)) → InOrder es → InOrder fs
    → ((q : Uid) → with_item (value_at uid_cmp q es) h None ≡ with_item (value_at uid_cmp q fs) h None) → picked h es ≡ picked h fs
same-picked h es fs a b same = same_entries uid_cmp uid_cmp_total uid_cmp-IsAntisymmetric (picked h es) (picked h fs)
    (sorted-picked h es a) (sorted-picked h fs b)
    (λ q. value-picked h q es a ∙ same q ∙ sym (value-picked h q fs b))

-- 2. What counts of a node for what stands on its disk

pub record SameState (it new : Node) : Type 0 where
  pub facts : (u : Uid) → facts_of (value_at uid_cmp u new.ejects) ≡ facts_of (value_at uid_cmp u it.ejects)
  pub epoch : new.epoch ≡ it.epoch
  pub epoch_doubt : new.epoch_doubt ≡ it.epoch_doubt
  pub damaged : new.damaged ≡ it.damaged

same-node : (it : Node) → SameState it it
same-node it = record { facts = λ u. refl; epoch = refl; epoch_doubt = refl; damaged = refl }

same-then : (a b c : Node) → SameState a b → SameState b c → SameState a c
same-then a b c x y = record {
  facts = λ u. y.facts u ∙ x.facts u;
  epoch = y.epoch ∙ x.epoch;
  epoch_doubt = y.epoch_doubt ∙ x.epoch_doubt;
  damaged = y.damaged ∙ x.damaged;
}

kept-fact : (o : Option Eject) → with_item o (λ e. e.kept) None ≡ (facts_of o).0
kept-fact None = refl
kept-fact (Some e) = refl

doubt-fact : (o : Option Eject) → with_item o (λ e. e.doubt) None ≡ (facts_of o).1
doubt-fact None = refl
doubt-fact (Some e) = refl

abbrev standing-of : ℕ → Node → Standing
standing-of n it = record { kept = kept_of_node n it; changes = doubts n it }

same-standing : (n : ℕ) (it new : Node) → InOrder it.ejects → InOrder new.ejects → SameState it new → standing-of n new ≡ standing-of n it
same-standing n it new a b x =
    let kept : filter_map kept_entry new.ejects ≡ filter_map kept_entry it.ejects = same-picked (λ e. e.kept) new.ejects it.ejects b a
    (λ q. kept-fact (value_at uid_cmp q new.ejects) ∙ ap (λ (f : Facts). f.0) (x.facts q)
    ∙ sym (kept-fact (value_at uid_cmp q it.ejects))) in
    let doubted : filter_map doubt_entry new.ejects ≡ filter_map doubt_entry it.ejects = same-picked (λ e. e.doubt) new.ejects it.ejects b a
    (λ q. doubt-fact (value_at uid_cmp q new.ejects) ∙ ap (λ (f : Facts). f.1) (x.facts q)
    ∙ sym (doubt-fact (value_at uid_cmp q it.ejects))) in
    λ i. record {
      kept = cond (is_some (x.damaged i)) None (Some (epoch_entries n (x.epoch i) ++ kept i));
      changes = epoch_doubts n (x.epoch_doubt i) ++ doubted i;
    }

-- 3. What leaves it

facts-on_eject : (v : Uid) (f : Eject → Eject) → ((e : Eject) → facts_of (Some (f e)) ≡ facts_of (Some e)) → (s : Site) (u : Uid)
    → facts_of (eject_in (on_eject v f s) u) ≡ facts_of (eject_in s u)
facts-on_eject v f same s u = ap facts_of (eject-on_eject v u f s) ∙ go (eq_by_cmp uid_cmp u v) (eject_in s u)
  where
    go : (b : Bool) (o : Option Eject) → facts_of (cond b (option_map f o) o) ≡ facts_of o
    go true None = refl
    go true (Some e) = same e
    go false o = refl

facts-active : (f : Active → Active) (e : Eject) → facts_of (Some (on_active f e)) ≡ facts_of (Some e)
facts-active f e = go e.active
  where
    go : (o : Option Active) → facts_of (Some (with_item o (λ it. with_active (Some (f it)) e) e)) ≡ facts_of (Some e)
    go None = refl
    go (Some it) = refl

by-eject : (v : Uid) (f : Eject → Eject) (s : Site) → ((u : Uid) → facts_of (eject_in (on_eject v f s) u) ≡ facts_of (eject_in s u))
    → SameState s.node (on_eject v f s).node
unfolding on_eject
by-eject v f s facts = record { facts = facts; epoch = refl; epoch_doubt = refl; damaged = refl }

same-tells : (v : Uid) (p : ℕ) (a : Answer) (s : Site) → SameState s.node (tells v p a s).node
same-tells v p a s = by-eject v (on_active (told p a)) s (facts-on_eject v (on_active (told p a)) (facts-active (told p a)) s)

same-born : (v : Uid) (it : Active) (s : Site) → SameState s.node (born v it s).node
unfolding on_node
same-born v it s = record {
  facts = λ u. ap facts_of (find-put uid_cmp uid_cmp_total u v (grown (eject_in s v)) s.node.ejects) ∙ one u (eq_by_cmp uid_cmp u v) refl;
  epoch = refl;
  epoch_doubt = refl;
  damaged = refl;
}
  where
    grown : Option Eject → Eject
    grown old = with_item old (with_active (Some it)) (newborn it)

    same : (o : Option Eject) → facts_of (Some (grown o)) ≡ facts_of o
    same None = refl
    same (Some e) = refl

    one : (u : Uid) (b : Bool) → eq_by_cmp uid_cmp u v ≡ b → facts_of (cond b (Some (grown (eject_in s v))) (eject_in s u))
        ≡ facts_of (eject_in s u)
    one u true is = same (eject_in s v) ∙ sym (ap (λ x. facts_of (eject_in s x)) (eq-same uid_cmp uid_cmp-IsAntisymmetric u v is))
    one u false is = refl

-- 4. Turns that touch no disk

queued : (n : ℕ) (it : Node) → Sound n it → Queue it.requests it.ejects
queued n it h = record { unmade = h.unmade; there = h.there }

apart-node : (n : ℕ) → (n == n) ≡ false → {A : Type 0} → A
apart-node n off = absurd (let bad : true ≡ false = sym (eq-eqb n n refl) ∙ off in cc bad)

-- a turn of the store that makes no device call
same-store : (how : RequestEnd) (p : Option Pick) (s : Site) (v : Uid) → Queue s.node.requests s.node.ejects → touches_store s ≡ false
    → IsSomeAnd (first_request s.node) (λ r. AllowsStore s v how p r) → SameState s.node (store_turn how p s).node
same-store how p s v q quiet allowed = go (first_request s.node) quiet allowed
  where
    by_work : (w : Work) (r : StoreRequest) → makes_call w ≡ false → SameState s.node (worked w r how p s).node
    by_work syncs r off = absurd (cc off)
    by_work reads r off = absurd (cc off)
    by_work calls r off = absurd (cc off)
    by_work unkept r off = let left = leaves-done r s in record {
      facts = (comes-done r s q).facts;
      epoch = ap (λ (it : Node). it.epoch) left.node;
      epoch_doubt = ap (λ (it : Node). it.epoch_doubt) left.node;
      damaged = ap (λ (it : Node). it.damaged) left.node;
    }
    by_work without_room r off = let left = leaves-ended r status.Full s in record {
      facts = (comes-ended r status.Full s q).facts;
      epoch = ap (λ (it : Node). it.epoch) left.node;
      epoch_doubt = ap (λ (it : Node). it.epoch_doubt) left.node;
      damaged = ap (λ (it : Node). it.damaged) left.node;
    }

    go : (o : Option StoreRequest) → with_item o (λ r. makes_call (work_of s r)) false ≡ false → IsSomeAnd o (λ r. AllowsStore s v how p r)
        → SameState s.node (with_item o (λ r. worked (work_of s r) r how p s) s).node
    go None off a = absurd a
    go (Some r) off a = by_work (work_of s r) r off

-- an activation that reads nothing finds nothing
same-start : (v : Uid) (how : StartEnd) (p : Option Pick) (s : Site) → Queue s.node.requests s.node.ejects → touches_start s v ≡ false
    → IsSomeAnd (eject_in s v) (λ e. AllowsActivate s v how p e) → SameState s.node (activation_turn v how p s).node
same-start v how p s q quiet allowed = by_doubt (to_settle s) refl quiet
  where
    gone : SameState s.node (activated v start_end.Gone s).node
    gone = let left = leaves-turned_away v status.Gone s in record {
      facts = (keeps-turned_away v status.Gone s q).facts;
      epoch = ap (λ (it : Node). it.epoch) left.node;
      epoch_doubt = ap (λ (it : Node). it.epoch_doubt) left.node;
      damaged = ap (λ (it : Node). it.damaged) left.node;
    }

    unsettled : to_settle s ≡ false → start_settled p s ≡ s
    unsettled off = rw off refl

    by_end : (types : List Edentype) (kept : Option (List ℕ)) → is_some kept ≡ false → (how : StartEnd) → StartsSo types v kept how
        → SameState s.node (activated v how s).node
    by_end types (Some bytes) off how x = absurd (cc off)
    by_end types None off start_end.Gone x = gone
    by_end types None off start_end.Ok x = absurd x
    by_end types None off start_end.Fault x = absurd x
    by_end types None off start_end.Damaged x = absurd x
    by_end types None off start_end.Stop x = absurd x

    starts : (o : Option Eject) → eject_in s v ≡ o → IsSomeAnd o (λ e. AllowsActivate s v how p e) → to_settle s ≡ false
        → with_item o (λ e. is_some e.kept) false ≡ false → SameState s.node (activated v how s).node
    starts None at a off none = absurd a
    starts (Some e) at a off none =
        let from : StartsFrom s v false how p = subst (λ b. StartsFrom s v b how p) off a.starts in
        by_end s.types e.kept none how (subst (λ o. IsSomeAnd o (λ e. StartsSo s.types v e.kept how)) at from.1)

    by_doubt : (b : Bool) → to_settle s ≡ b → cond b true (with_item (eject_in s v) (λ e. is_some e.kept) false) ≡ false
        → SameState s.node (activation_turn v how p s).node
    by_doubt true at none = absurd (cc none)
    by_doubt false at none = subst (λ (x : Site). SameState s.node (activated v how x).node) (sym (unsettled at))
        (starts (eject_in s v) refl allowed at none)

-- 5. Every event

abbrev StaysAs : World → Event → ℕ → Node → Type 0
StaysAs w e n it = (touched w e == n) ≡ false → (old : Node) → node_at w n ≡ Some old → SameState old it

touched-start : (w : World) (v : Uid) (how : StartEnd) (p : Option Pick) (it : Node) → node_at w v.node ≡ Some it
    → (touched w (event.Activate v how p) == v.node) ≡ false → touches_start (site_of w v.node it) v ≡ false
touched-start w v how p it at off = go (touches_start (site_of w v.node it) v)
    (subst (λ o. (with_item (with_item o (λ x. Some (site_of w v.node x)) None) (λ s. node_if (touches_start s v) v.node) 0 == v.node)
    ≡ false) at off)
  where
    go : (b : Bool) → (node_if b v.node == v.node) ≡ false → b ≡ false
    go true off = apart-node v.node off
    go false off = refl

touched-store : (w : World) (v : Uid) (clock : ℕ) (how : RequestEnd) (p : Option Pick) (it : Node) → node_at w v.node ≡ Some it
    → (touched w (event.Store v clock how p) == v.node) ≡ false → touches_store (site_of w v.node it) ≡ false
touched-store w v clock how p it at off = go (touches_store (site_of w v.node it))
    (subst (λ o. (with_item (with_item o (λ x. Some (site_of w v.node x)) None) (λ s. node_if (touches_store s) v.node) 0 == v.node)
    ≡ false) at off)
  where
    go : (b : Bool) → (node_if b v.node == v.node) ≡ false → b ≡ false
    go true off = apart-node v.node off
    go false off = refl

turns-same : (w : World) (e : Event) → Everywhere Sound w → (n : ℕ) (it : Node) → node_at w n ≡ Some it → IsAt e n
    → AllowsAt (site_of w n it) e → (touched w e == n) ≡ false
    → SameState it (site_turn (reaches w n) e (site_of w n it)).node
turns-same w (event.Request k a b refused) sound n it at place allowed off = let site =
    keeps-site (reaches w n) (event.Request k a b refused) (site_of w n it) in record {
      facts = (keeps-requested k refused (site_of w n it) (queued n it (sound n it at))).facts;
      epoch = ap (λ (x : Node). x.epoch) site.node;
      epoch_doubt = ap (λ (x : Node). x.epoch_doubt) site.node;
      damaged = ap (λ (x : Node). x.damaged) site.node;
    }
turns-same w (event.Reply k a b name why values) sound n it at place allowed off = let site =
    keeps-site (reaches w n) (event.Reply k a b name why values) (site_of w n it) in record {
      facts = (keeps-heard k why values (site_of w n it) (queued n it (sound n it at))).facts;
      epoch = ap (λ (x : Node). x.epoch) site.node;
      epoch_doubt = ap (λ (x : Node). x.epoch_doubt) site.node;
      damaged = ap (λ (x : Node). x.damaged) site.node;
    }
turns-same w (event.Start k v p) sound n it at place allowed off = let site =
    keeps-site (reaches w n) (event.Start k v p) (site_of w n it) in record {
      facts = (keeps-start v k p (site_of w n it) (queued n it (sound n it at))).facts;
      epoch = ap (λ (x : Node). x.epoch) site.node;
      epoch_doubt = ap (λ (x : Node). x.epoch_doubt) site.node;
      damaged = ap (λ (x : Node). x.damaged) site.node;
    }
turns-same w (event.Process v p said) sound n it at place allowed off = let site =
    keeps-site (reaches w n) (event.Process v p said) (site_of w n it) in record {
      facts = (keeps-process_turn (reaches w n) v p (site_of w n it) (queued n it (sound n it at))).facts;
      epoch = ap (λ (x : Node). x.epoch) site.node;
      epoch_doubt = ap (λ (x : Node). x.epoch_doubt) site.node;
      damaged = ap (λ (x : Node). x.damaged) site.node;
    }
turns-same w (event.Activate v how p) sound n it at place allowed off = by_number n place at allowed off
  where
    by_number : (m : ℕ) → v.node ≡ m → node_at w m ≡ Some it → AllowsAt (site_of w m it) (event.Activate v how p)
        → (touched w (event.Activate v how p) == m) ≡ false
        → SameState it (activation_turn v how p (site_of w m it)).node
    by_number m same at allowed off = same-start v how p (site_of w m it) (queued m it (sound m it at))
        (subst (λ k. touches_start (site_of w k it) v ≡ false) same
        (touched-start w v how p it (ap (node_at w) same ∙ at)
        (subst (λ k. (touched w (event.Activate v how p) == k) ≡ false) (sym same) off))) allowed
turns-same w (event.Store v clock how p) sound n it at place allowed off = same-store how p (site_of w n it) v (queued n it (sound n it at))
    (subst (λ k. touches_store (site_of w k it) ≡ false) place
    (touched-store w v clock how p it (ap (node_at w) place ∙ at)
    (subst (λ k. (touched w (event.Store v clock how p) == k) ≡ false) (sym place) off))) allowed
turns-same w (event.Boot m e how p began) sound n it at place allowed off = apart-node n (subst (λ k. (k == n) ≡ false) place off)
turns-same w (event.Crash m) sound n it at place allowed off = apart-node n (subst (λ k. (k == n) ≡ false) place off)
turns-same w _ sound n it at place allowed off = absurd allowed

kept-state : (w : World) (e : Event) → Everywhere Sound w → IsKeptAt (StaysAs w e) w e
kept-state w e sound = record {
  turns = λ n it at place allowed h off old is. let same : it ≡ old = (let x : Some it ≡ Some old = sym at ∙ is in cc x) in
      subst (λ (x : Node). SameState x (site_turn (reaches w n) e (site_of w n it)).node) same
      (turns-same w e sound n it at place allowed off);
  crashes = λ n s is number h off. apart-node s.number (subst (λ k. (k == s.number) ≡ false) (ap (touched w) is ∙ sym number) off);
  tellings = λ u p a s h off old is. same-then old s.node (tells u p a s).node (h off old is) (same-tells u p a s);
  births = λ u t s next up known h off old is. same-then old s.node (born u (fresh t (first_values t)) s).node (h off old is)
      (same-born u (fresh t (first_values t)) s);
  clocks = λ n c it h off old is. same-then old it (with_clock c it) (h off old is)
      (record { facts = λ u. refl; epoch = refl; epoch_doubt = refl; damaged = refl });
}

-- 6. The law

abbrev shown-of : ℕ → Option Node → Standing
shown-of n o = with_item o (standing-of n) nothing_stands

abbrev state-in : ℕ → List (ℕ × Node) → Standing
state-in n nodes = shown-of n (value_at nat_cmp n nodes)

same-state : (H : ℕ → Bool) (w : World) (c : Option Command) (e : Entry) → Allows w c e → SoundWorld H w → (n : ℕ) → (e.node == n) ≡ false
    → state (next w c e) n ≡ state w n
same-state H w c e allowed h n off = go (node_at w n) refl (node_at (next w c e) n) refl
  where
    later : SoundWorld H (next w c e)
    later = sound-next H w c e allowed h

    present : is_some (node_at (next w c e) n) ≡ is_some (node_at w n)
    present = later.place.present n ∙ sym (h.place.present n)

    all : Everywhere (StaysAs w e.event) (next w c e)
    all = all-next (StaysAs w e.event) w c e (kept-state w e.event h.nodes) allowed (λ m it at apart old is.
        (let same : it ≡ old = (let x : Some it ≡ Some old = sym at ∙ is in cc x) in
        subst (λ (x : Node). SameState x it) same (same-node it)))

    standing : (it jt : Node) → node_at w n ≡ Some it → node_at (next w c e) n ≡ Some jt → standing-of n jt ≡ standing-of n it
    standing it jt at is = same-standing n it jt (h.nodes n it at).in_order (later.nodes n jt is).in_order
        (all n jt is (subst (λ k. (k == n) ≡ false) allowed.disk off) it at)

    go : (o : Option Node) → node_at w n ≡ o → (x : Option Node) → node_at (next w c e) n ≡ x → state (next w c e) n ≡ state w n
    go None at None is = ap (shown-of n) (is ∙ sym at)
    go None at (Some jt) is = absurd (let bad : true ≡ false = sym (ap is_some is) ∙ present ∙ ap is_some at in cc bad)
    go (Some it) at None is = absurd (let bad : false ≡ true = sym (ap is_some is) ∙ present ∙ ap is_some at in cc bad)
    go (Some it) at (Some jt) is = ap (shown-of n) is ∙ standing it jt at is ∙ sym (ap (shown-of n) at)

pub states-stay-elsewhere : (layout : Layout) (script : Script) (disks : List DiskRun) (history : List Entry) → IsLayout layout
    → AreHandedIn layout disks → Begins layout script disks history
    → EachStep (λ past s. (n : ℕ) → (s.entry.node == n) ≡ false
    → state s.later n ≡ state s.world n) [] (run_of (opening_world layout script disks) script history)
states-stay-elsewhere layout script disks history lays fits begins =
    each-step Any (λ past w. SoundWorld here w) (λ past s. (n : ℕ) → (s.entry.node == n) ≡ false
    → state s.later n ≡ state s.world n) (record {
      entries = λ past w c e any allowed i. ((λ n off. same-state here w c e allowed i n off), sound-next here w c e allowed i);
      look_ups = λ past w name target path e any allowed plain i. (
        (λ n off. ap (state-in n) (nodes-looked_up w name target path e.event)),
        sound-looked_up here w name target path e.event allowed i,
      );
    }) (beginning w script.nodes script.commands) [] history (of-any 1 script.nodes w script.commands)
    (subst (SoundWorld here) (sym (world-booting 1 script.nodes w script.commands)) (sound-opening-world layout script disks lays fits))
    begins
  where
    w : World
    w = opening_world layout script disks

    here : ℕ → Bool
    here n = is_some (node_at w n)
