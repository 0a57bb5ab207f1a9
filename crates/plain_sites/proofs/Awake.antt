-- A passive Eject is activated: what is found of it, and what comes of it.
use Rattle.std.proofs.Common.{◌≡◌, ◌∙◌, ◌&&◌, ℕ, Bool, true, false, not, cond, List, Option, None, Some, refl, sym, ap, subst, is_some}
use Rattle.std.proofs.Common.{IsSomeAnd}
use Rattle.std.specs.Prelude.{◌↔◌, IsTrue}
use Rattle.std.specs.List.{filter}
use Rattle.std.specs.Option.{option_map}
use Rattle.capability.specs.declared.Uid.{Uid}
use Rattle.eden_value.specs.Datum.{Datum}
use Rattle.eden_model.specs.Map.{changed_at, uid_cmp, value_at, with_item}
use Rattle.eden_model.specs.Traffic.{Traffic}
use Rattle.epl_syntax.specs.Edentype.{Edentype}
use Rattle.epl_syntax.specs.Meaning.{types_in, values_from}
use Rattle.epl_syntax.specs.Rules.OfTypes.{TypeList}
use Rattle.history_laws.proofs.KeptTurns.{value-each}
use Rattle.history_laws.proofs.Ordered.{order-each}
use Rattle.history_laws.proofs.SiteStores.{active-started}
use Rattle.passive_store.specs.declared.store.Pick.{Pick}
use Rattle.passive_store.specs.declared.store.Pick.TheVariants as picked
use Rattle.journal.specs.declared.event.StartEnd.{StartEnd}
use Rattle.journal.specs.Ejects.{fresh}
use Rattle.journal.specs.Settling.{settled, settled_eject, to_settle, unsynced}
use Rattle.journal.specs.Sites.{InOrder, active_in}
use Rattle.journal.specs.Starts.{AllowsActivate, StartsFrom, awake, awake_as, awake_from, fits_at, is_worked_on, misfits_answered, start_of}
use Rattle.journal.specs.Starts.{start_settled}
use Rattle.journal.specs.World.{Active, Eject, Site, eject_in, on_eject, on_node, on_traffic}
use Rattle.active_part.specs.Body.{Body, active_of, calls_of}
use Rattle.active_part.specs.View.{body_of}
use Rattle.active_part.specs.declared.part.Part.{Part}
use Rattle.plain_choices.specs.declared.starts.StartFacts.{StartFacts}
use Rattle.plain_choices.specs.View.{FindsBy, IsStartOf, found_by, found_in}
use Rattle.plain_ejects.specs.declared.PlainEject.{PlainEject}
use Rattle.plain_ejects.specs.View.{eject_of, queue_of, with_body}
use Rattle.plain_sites.specs.Activations.{IsAsked, IsStarted, MayWake, start_of_kept}
use Rattle.plain_sites.specs.View.{IsPassive}
use Rattle.plain_sites.proofs.Joins.{fitting-calls}
use Rattle.plain_sites.proofs.Sites.{made, made-same}
use Rattle.plain_stores.specs.declared.entries.PlainEntry.{PlainEntry}
use Rattle.plain_stores.specs.declared.PlainNode.{PlainNode}
use Rattle.plain_stores.specs.View.{ejects_of, node_of, site_of}

-- 1. What is found of an Eject

-- the Eject of a uid, where the node has it
pub eject-there : (ts : TypeList) (u : Uid) (es ds : List PlainEntry) (o : Option PlainEject) (e : PlainEject) → ds ≡ es
    → option_map (eject_of ts) o ≡ value_at uid_cmp u (ejects_of ts ds) → o ≡ Some e
    → value_at uid_cmp u (ejects_of ts es) ≡ Some (eject_of ts e)
eject-there ts u es ds o e same found is =
    sym (ap (λ l. value_at uid_cmp u (ejects_of ts l)) same) ∙ (sym found ∙ ap (option_map (eject_of ts)) is)

pub eject-absent : (ts : TypeList) (u : Uid) (es ds : List PlainEntry) (o : Option PlainEject) → ds ≡ es
    → option_map (eject_of ts) o ≡ value_at uid_cmp u (ejects_of ts ds) → o ≡ None
    → value_at uid_cmp u (ejects_of ts es) ≡ None
eject-absent ts u es ds o same found is =
    sym (ap (λ l. value_at uid_cmp u (ejects_of ts l)) same) ∙ (sym found ∙ ap (option_map (eject_of ts)) is)

-- behind a settling it is the one of before, settled
eject-settled : (p : Pick) (s : Site) (u : Uid) → eject_in (settled (Some p) s) u ≡ option_map (settled_eject p) (eject_in s u)
unfolding on_node
eject-settled p s u = value-each u (settled_eject p) s.node.ejects

old-kept : (e : Eject) → (settled_eject picked.Old e).kept ≡ e.kept
old-kept e = refl

finds-as : (f : StartFacts) (s : Site) (u : Uid) (e : Eject) → eject_in s u ≡ Some e → f.old ≡ found_in s.types u e.kept
    → f.new ≡ found_in s.types u (settled_eject picked.New e).kept → (b : Bool) → FindsBy f s u b
finds-as f s u e at old new true = λ p. subst (λ o. IsSomeAnd o (λ x. found_by f p ≡ found_in s.types u x.kept))
    (sym (eject-settled p s u ∙ ap (option_map (settled_eject p)) at)) (by p)
  where
    by : (p : Pick) → found_by f p ≡ found_in s.types u (settled_eject p e).kept
    by picked.Old = old
    by picked.New = new
finds-as f s u e at old new false = subst (λ o. IsSomeAnd o (λ x. f.old ≡ found_in s.types u x.kept)) (sym at) old

pub facts-as : (f : StartFacts) (s : Site) (u : Uid) (e : Eject) → eject_in s u ≡ Some e → f.doubted ≡ to_settle s
    → f.old ≡ found_in s.types u e.kept → f.new ≡ found_in s.types u (settled_eject picked.New e).kept → IsStartOf f s u
facts-as f s u e at doubted old new = record { doubted = doubted; finds = finds-as f s u e at old new f.doubted }

-- what starts is found
pub found-starts : {B : Type 0} (g : B → Edentype × List Datum) (types : List Edentype) (u : Uid) (bytes : List ℕ) (o : Option B)
    (b : B) → option_map g o ≡ start_of types bytes u → o ≡ Some b → is_some (start_of types bytes u) ≡ true
found-starts g types u bytes o b is there = ap is_some (sym is) ∙ ap (λ x. is_some (option_map g x)) there

pub found-none : {B : Type 0} (g : B → Edentype × List Datum) (types : List Edentype) (u : Uid) (bytes : List ℕ) (o : Option B)
    → option_map g o ≡ start_of types bytes u → o ≡ None → is_some (start_of types bytes u) ≡ false
found-none g types u bytes o is there = ap is_some (sym is) ∙ ap (λ x. is_some (option_map g x)) there

-- 2. Whether it may be activated

pub may-wake : (s : Site) (u : Uid) (e : Eject) (a w : Bool) → eject_in s u ≡ Some e → (IsTrue a ↔ IsAsked e) → w ≡ is_worked_on s u
    → IsTrue (a && not w) ↔ IsSomeAnd (eject_in s u) (MayWake s u)
may-wake s u e a w at asked worked = subst (λ o. IsTrue (a && not w) ↔ IsSomeAnd o (MayWake s u)) (sym at) (go a w asked worked)
  where
    go : (a w : Bool) → (IsTrue a ↔ IsAsked e) → w ≡ is_worked_on s u → IsTrue (a && not w) ↔ MayWake s u e
    go true true asked worked = (λ off. absurd (cc off), λ it. let bad : true ≡ false = worked ∙ it.1 in absurd (cc bad))
    go true false asked worked = (λ _. (asked.0 refl, sym worked), λ _. refl)
    go false w asked worked = (λ off. absurd (cc off), λ it. asked.1 it.0)

pub no-wake : (s : Site) (u : Uid) → eject_in s u ≡ None → IsTrue false ↔ IsSomeAnd (eject_in s u) (MayWake s u)
no-wake s u at = subst (λ o. IsTrue false ↔ IsSomeAnd o (MayWake s u)) (sym at) (λ off. absurd (cc off), λ it. absurd it)

-- one that may wake may be activated with each end that the facts allow
pub allows-as : (s : Site) (u : Uid) (how : StartEnd) (p : Option Pick) (w b : Bool)
    → (IsTrue w ↔ IsSomeAnd (eject_in s u) (MayWake s u)) → w ≡ true → (IsTrue b ↔ StartsFrom s u (to_settle s) how p)
    → IsTrue b ↔ IsSomeAnd (eject_in s u) (AllowsActivate s u how p)
allows-as s u how p w b may is starts = go (eject_in s u) (may.0 is)
  where
    go : (o : Option Eject) → IsSomeAnd o (MayWake s u) → IsTrue b ↔ IsSomeAnd o (AllowsActivate s u how p)
    go None m = absurd m
    go (Some e) m = (
      λ on. record { is_passive = m.0.0; has_queued = m.0.1; not_worked_on = m.1; starts = starts.0 on },
      λ it. starts.1 it.starts,
    )

pub not-allowed : (s : Site) (u : Uid) (how : StartEnd) (p : Option Pick) (w : Bool)
    → (IsTrue w ↔ IsSomeAnd (eject_in s u) (MayWake s u)) → w ≡ false
    → IsTrue false ↔ IsSomeAnd (eject_in s u) (AllowsActivate s u how p)
not-allowed s u how p w may off = (λ on. absurd (cc on), go (eject_in s u) may.1)
  where
    go : (o : Option Eject) → (IsSomeAnd o (MayWake s u) → IsTrue w) → IsSomeAnd o (AllowsActivate s u how p) → IsTrue false
    go None m it = absurd it
    go (Some e) m it = sym off ∙ m ((it.is_passive, it.has_queued), it.not_worked_on)

pub no-facts : (s : Site) (u : Uid) (how : StartEnd) (p : Option Pick) (x : Bool) → x ≡ is_some (eject_in s u) → x ≡ false
    → IsTrue false ↔ IsSomeAnd (eject_in s u) (AllowsActivate s u how p)
no-facts s u how p x there off = (λ on. absurd (cc on), go (eject_in s u) (sym off ∙ there))
  where
    go : (o : Option Eject) → false ≡ is_some o → IsSomeAnd o (AllowsActivate s u how p) → IsTrue false
    go None is it = absurd it
    go (Some e) is it = absurd (cc is)

-- 3. Behind the settling

order-settled : (p : Option Pick) (s : Site) → InOrder s.node.ejects → InOrder (settled p (unsynced s)).node.ejects
unfolding on_node
order-settled None s order = order
order-settled (Some p) s order = order-each (settled_eject p) s.node.ejects order

pub order-started : (p : Option Pick) (s : Site) → InOrder s.node.ejects → InOrder (start_settled p s).node.ejects
order-started p s order = go (to_settle s)
  where
    go : (b : Bool) → InOrder (cond b (settled p (unsynced s)) s).node.ejects
    go true = order-settled p s order
    go false = order

passive-of : (o : Option Eject) → active_in o ≡ None → IsPassive o
passive-of None is = tt
passive-of (Some e) is = is

pub passive-started : (p : Option Pick) (s : Site) (u : Uid) (how : StartEnd) (q : Option Pick)
    → IsSomeAnd (eject_in s u) (AllowsActivate s u how q) → IsPassive (eject_in (start_settled p s) u)
passive-started p s u how q may = passive-of (eject_in (start_settled p s) u) (active-started p u s ∙ go (eject_in s u) may)
  where
    go : (o : Option Eject) → IsSomeAnd o (AllowsActivate s u how q) → active_in o ≡ None
    go None m = absurd m
    go (Some e) m = m.is_passive

-- the queue of one that is passive
pub passive-queue : (ts : TypeList) (x : PlainEject) → (eject_of ts x).active ≡ None → x.waiting ≡ (eject_of ts x).queued
passive-queue ts x is = go x.part is
  where
    go : (o : Option Part) → option_map (λ (p : Part). active_of (body_of ts p)) o ≡ None → x.waiting ≡ queue_of ts o x.waiting
    go None is = refl
    go (Some p) is = absurd (cc is)

-- 4. It starts

abbrev pub awake_of : Uid → Site → Option Eject → Site
awake_of u s o = with_item o (λ e. with_item e.kept (λ bytes. awake_from u e bytes s) s) s

abbrev from_of : Uid → Eject → Site → Option (Edentype × List Datum) → Site
from_of u e s o = with_item o (λ start. awake_as u e start s) s

awake-kept : (ts : TypeList) (u : Uid) (e : Eject) (s : Site) (o : Option (Edentype × List Datum)) → s.types ≡ types_in ts
    → start_of_kept ts u e.kept ≡ o → awake_of u s (Some e) ≡ from_of u e s o
awake-kept ts u e s o types is = go e.kept is
  where
    go : (kept : Option (List ℕ)) → start_of_kept ts u kept ≡ o → with_item kept (λ bytes. awake_from u e bytes s) s ≡ from_of u e s o
    go None is = ap (from_of u e s) is
    go (Some bytes) is = ap (λ l. from_of u e s (start_of l bytes u)) types ∙ ap (from_of u e s) is

pub not-awake : (ts : TypeList) (u : Uid) (e : Eject) (s : Site) → s.types ≡ types_in ts → eject_in s u ≡ Some e
    → start_of_kept ts u e.kept ≡ None → s ≡ awake u s
not-awake ts u e s types at none = sym (ap (awake_of u s) at ∙ awake-kept ts u e s None types none)

pub nobody-awake : (u : Uid) (s : Site) → eject_in s u ≡ None → s ≡ awake u s
nobody-awake u s at = sym (ap (awake_of u s) at)

-- an Eject with this active part and this queue
abbrev with_both : Active → List ℕ → Eject → Eject
with_both it ks x = record x { active = Some it; queued = ks }

awake-site : (ts : TypeList) (n : PlainNode) (t new : Traffic) (u : Uid) (e : Eject) (start : Edentype × List Datum) (b : Body)
    (es : List (Uid × Eject)) → IsStarted start e.queued t new b
    → es ≡ changed_at uid_cmp u (with_body b) (ejects_of ts n.ejects.items)
    → made ts n.number (record (node_of ts n) { ejects = es }) new ≡ awake_as u e start (site_of ts t n)
unfolding on_eject on_traffic
awake-site ts n t new u e start b es begins is =
    let queue : calls_of b.crew.queued ≡ filter (fits_at start.0 t) e.queued =
    ap calls_of begins.queued ∙ fitting-calls start.0 t e.queued in
    made-same ts n.number n.number (record (node_of ts n) { ejects = es }) _ new (misfits_answered start.0 e.queued t) refl
    (ap (λ l. record (node_of ts n) { ejects = l }) (is
    ∙ (ap (λ it. changed_at uid_cmp u (with_both it (calls_of b.crew.queued)) (ejects_of ts n.ejects.items)) begins.active
    ∙ ap (λ l. changed_at uid_cmp u (with_both (fresh start.0 (values_from start.0 start.1)) l) (ejects_of ts n.ejects.items)) queue)))
    begins.calls

pub awake-by : (ts : TypeList) (n : PlainNode) (t new : Traffic) (u : Uid) (e : Eject) (start : Edentype × List Datum) (b : Body)
    (es : List (Uid × Eject)) → eject_in (site_of ts t n) u ≡ Some e → start_of_kept ts u e.kept ≡ Some start
    → IsStarted start e.queued t new b → es ≡ changed_at uid_cmp u (with_body b) (ejects_of ts n.ejects.items)
    → made ts n.number (record (node_of ts n) { ejects = es }) new ≡ awake u (site_of ts t n)
awake-by ts n t new u e start b es at from begins is =
    awake-site ts n t new u e start b es begins is
    ∙ sym (ap (awake_of u (site_of ts t n)) at ∙ awake-kept ts u e (site_of ts t n) (Some start) refl from)
