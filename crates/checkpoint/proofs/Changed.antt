-- What a node keeps and has in doubt, after a change of its site.
use Rattle.std.proofs.Common.{◌≡◌, ◌≢◌, ◌⊎◌, inl, inr, ℕ, Bool, true, false, cond, List, ◌++◌, Option, None, Some, is_some, refl, sym}
use Rattle.std.proofs.Common.{ap, subst, ◌∙◌}
use Rattle.std.specs.Option.{option_map}
use Rattle.std.specs.FinMap as finite
use Rattle.std.specs.FinMap.{FinMap}
use Rattle.capability.specs.declared.Uid.{Uid}
use Rattle.capability.proofs.Uids.{uid_cmp_total, uid_cmp-IsAntisymmetric}
use Rattle.eden_model.specs.Map.{with_item, uid_cmp, same_uid, each_value}
use Rattle.eden_model.proofs.Laws.{eq-same}
use Rattle.passive_store.specs.declared.store.Pick.{Pick}
use Rattle.passive_store.specs.declared.store.Pick.TheVariants as pick
use Rattle.passive_store.specs.Kept.{Layout, Kept, kept_after, bodies_after}
use Rattle.passive_store.specs.Kept.{StoreChange}
use Rattle.journal.specs.EjectChange.{kept_of}
use Rattle.journal.specs.World.{Site, Node, Eject, StoreRequest, eject_in, on_eject, on_node}
use Rattle.journal.specs.Settling.{epoch_uid, doubts, settled_eject, settled_epoch, settled_ledger, settled, all_written, written_with}
use Rattle.journal.specs.Stores.{doubted, stored}
use Rattle.checkpoint.specs.Changes.{Facts, facts_of}
use Rattle.checkpoint.specs.Found.{change_of}
use Rattle.checkpoint.specs.StoreStands.{doubt_of, bytes_of_epoch, change_of_epoch, IsOrdered, Wrote, MapStands}
use Rattle.checkpoint.proofs.Shifts.{Shift, same_facts, same_requests, facts_at, shift-at, shift-each}
use Rattle.checkpoint.proofs.MapStands.{doubts-are}

-- 1. Uids that differ, and bodies after a change

pub apart : (u v : Uid) → u ≢ v → same_uid u v ≡ false
apart u v h = go (same_uid u v) refl
  where
    go : (b : Bool) → same_uid u v ≡ b → b ≡ false
    go true is = absurd (h (eq-same uid_cmp uid_cmp-IsAntisymmetric u v is))
    go false is = refl

pub bodies-after : (u q : Uid) (new : Option (List ℕ)) (m : FinMap uid_cmp (List ℕ))
    → finite.get (bodies_after u new m) q ≡ cond (same_uid q u) new (finite.get m q)
bodies-after u q None m = finite.get-remove uid_cmp_total m u q
bodies-after u q (Some bytes) m = finite.get-insert uid_cmp_total m u bytes q

pub kept-change : (new : Option (List ℕ)) → kept_of (change_of new) ≡ new
kept-change None = refl
kept-change (Some bytes) = refl

-- 2. A change of the Ejects alone

pub ordered-shift : (n : ℕ) (g : Uid → Facts → Facts) (f : List StoreRequest → List StoreRequest) (s t : Site) → Shift g f s t
    → IsOrdered n s.node.ejects → IsOrdered n t.node.ejects
ordered-shift n g f s t shift o = record {
  in_order = shift.in_order o.in_order;
  of_node = λ u is. o.of_node u (sym (shift.uids u) ∙ is);
  not_reserved = λ u is. o.not_reserved u (sym (shift.uids u) ∙ is);
}

pub map-shift : (n : ℕ) (g : Uid → Facts → Facts) (f : List StoreRequest → List StoreRequest) (s t : Site) (kept later : Kept)
    (c d : Option StoreChange) → Shift g f s t → MapStands n s kept c
    → ((u : Uid) → u ≢ epoch_uid n → g u (finite.get kept.bodies u, doubt_of c u) ≡ (finite.get later.bodies u, doubt_of d u))
    → finite.get later.bodies (epoch_uid n) ≡ finite.get kept.bodies (epoch_uid n) → doubt_of d (epoch_uid n) ≡ doubt_of c (epoch_uid n)
    → later.ledger ≡ kept.ledger → Wrote s.layout d → MapStands n t later d
map-shift n g f s t kept later c d shift m each body_of in_doubt same wrote = record {
  undamaged = ap (λ (it : Node). it.damaged) shift.rest_of ∙ m.undamaged;
  not_untold = ap (λ (it : Node). it.untold) shift.rest_of ∙ m.not_untold;
  ordered = ordered-shift n g f s t shift m.ordered;
  facts = λ u apart. shift.facts u ∙ ap (g u) (m.facts u apart) ∙ each u apart;
  epoch = body_of ∙ m.epoch ∙ ap (λ (it : Node). bytes_of_epoch it.epoch) (sym shift.rest_of);
  epoch_doubt = in_doubt ∙ m.epoch_doubt ∙ ap (λ (it : Node). change_of_epoch it.epoch_doubt) (sym shift.rest_of);
  ledger = ap (λ (it : Node). it.ledger) shift.rest_of ∙ m.ledger ∙ sym same;
  wrote = subst (λ (l : Layout). Wrote l d) (sym shift.its_layout) wrote;
}

pub map-same : (n : ℕ) (f : List StoreRequest → List StoreRequest) (s t : Site) (kept : Kept) (c : Option StoreChange)
    → Shift same_facts f s t → MapStands n s kept c → MapStands n t kept c
map-same n f s t kept c shift m = map-shift n same_facts f s t kept kept c c shift m (λ u h. refl) refl refl refl m.wrote

-- 3. Fields that the map does not know

pub map-synced : (n : ℕ) (b : Bool) (s : Site) (kept : Kept) (c : Option StoreChange) → MapStands n s kept c
    → MapStands n (on_node (λ it. record it { synced = b }) s) kept c
unfolding on_node
map-synced n b s kept c m = record {
  undamaged = m.undamaged;
  not_untold = m.not_untold;
  ordered = m.ordered;
  facts = m.facts;
  epoch = m.epoch;
  epoch_doubt = m.epoch_doubt;
  ledger = m.ledger;
  wrote = m.wrote;
}

pub map-clock : (n k : ℕ) (s : Site) (kept : Kept) (c : Option StoreChange) → MapStands n s kept c
    → MapStands n (on_node (λ it. record it { clock = Some k }) s) kept c
unfolding on_node
map-clock n k s kept c m = record {
  undamaged = m.undamaged;
  not_untold = m.not_untold;
  ordered = m.ordered;
  facts = m.facts;
  epoch = m.epoch;
  epoch_doubt = m.epoch_doubt;
  ledger = m.ledger;
  wrote = m.wrote;
}

map-ledger : (n : ℕ) (f : List ℕ → List ℕ) (s : Site) (kept : Kept) (c : Option StoreChange) → MapStands n s kept c
    → MapStands n (on_node (λ it. record it { ledger = f it.ledger }) s) (record kept { ledger = f kept.ledger }) c
unfolding on_node
map-ledger n f s kept c m = record {
  undamaged = m.undamaged;
  not_untold = m.not_untold;
  ordered = m.ordered;
  facts = m.facts;
  epoch = m.epoch;
  epoch_doubt = m.epoch_doubt;
  ledger = ap f m.ledger;
  wrote = m.wrote;
}

-- 4. A change of this uid is in doubt; nothing else was

-- nothing else than this change is in doubt
abbrev pub AtMost : StoreChange → Option StoreChange → Type 0
AtMost c d = (d ≡ None) ⊎ (d ≡ Some c)

other-doubt : (c : StoreChange) (d : Option StoreChange) (u : Uid) → AtMost c d → same_uid u c.uid ≡ false → doubt_of d u ≡ None
other-doubt c d u (inl none) is = ap (λ x. doubt_of x u) none
other-doubt c d u (inr this) is = ap (λ x. doubt_of x u) this ∙ ap (λ b. cond b (Some (change_of c.body)) None) is

pub map-doubted : (n : ℕ) (r : StoreRequest) (c : StoreChange) (s : Site) (kept : Kept) (d : Option StoreChange) → r.uid ≡ c.uid
    → r.change ≡ change_of c.body → AtMost c d
    → Wrote s.layout (Some c) → is_some (eject_in s r.uid) ≡ true → MapStands n s kept d → MapStands n (doubted r s) kept (Some c)
map-doubted n r c s kept d uid_is change_is most wrote held m =
    map-shift n (facts_at r.uid (λ f. (f.0, Some r.change))) same_requests s (doubted r s) kept kept d (Some c)
    (shift-at r.uid (λ e. record e { doubt = Some r.change }) (λ f. (f.0, Some r.change)) s (λ e. refl) held) m each refl
    (ap (λ b. cond b (Some (change_of c.body)) None) other ∙ sym (other-doubt c d (epoch_uid n) most other)) refl wrote
  where
    other : same_uid (epoch_uid n) c.uid ≡ false
    other = apart (epoch_uid n) c.uid (λ e. m.ordered.not_reserved r.uid held (uid_is ∙ sym e))

    go : (u : Uid) (b : Bool) → same_uid u c.uid ≡ b
        → ◌≡◌ {A = Facts} (cond b (finite.get kept.bodies u, Some r.change) (finite.get kept.bodies u, doubt_of d u))
        (finite.get kept.bodies u, cond b (Some (change_of c.body)) None)
    go u true is = ap (λ x. (finite.get kept.bodies u, Some x)) change_is
    go u false is = ap (λ x. (finite.get kept.bodies u, x)) (other-doubt c d u most is)

    each : (u : Uid) → u ≢ epoch_uid n
        → facts_at r.uid (λ f. (f.0, Some r.change)) u (finite.get kept.bodies u, doubt_of d u) ≡
        (finite.get kept.bodies u, doubt_of (Some c) u)
    each u h = ap (λ v. facts_at v (λ f. (f.0, Some r.change)) u (finite.get kept.bodies u, doubt_of d u)) uid_is
        ∙ go u (same_uid u c.uid) refl

-- 5. It is made, and nothing is in doubt

pub map-stored : (n : ℕ) (r : StoreRequest) (c : StoreChange) (s : Site) (kept : Kept) (d : Option StoreChange) → r.uid ≡ c.uid
    → r.change ≡ change_of c.body → AtMost c d
    → Wrote s.layout (Some c) → is_some (eject_in s r.uid) ≡ true → MapStands n s kept d → MapStands n (stored r s) (kept_after c kept) None
map-stored n r c s kept d uid_is change_is most wrote held m =
    subst (λ w. MapStands n (stored r s) (record (kept_after c kept) { ledger = kept.ledger ++ w }) None) grown
    (map-ledger n (written_with s.layout r.change) at_eject unwritten None
    (map-shift n (facts_at r.uid (λ f. (kept_of r.change, None))) same_requests s at_eject kept unwritten d None
    (shift-at r.uid (λ e. record e { kept = kept_of r.change; doubt = None }) (λ f. (kept_of r.change, None)) s (λ e. refl) held) m each
    (bodies-after c.uid (epoch_uid n) c.body kept.bodies ∙ ap (λ b. cond b c.body (finite.get kept.bodies (epoch_uid n))) other)
    (sym (other-doubt c d (epoch_uid n) most other)) refl tt))
  where
    unwritten : Kept
    unwritten = record (kept_after c kept) { ledger = kept.ledger }

    at_eject : Site
    at_eject = on_eject r.uid (λ e. record e { kept = kept_of r.change; doubt = None }) s

    grown : s.layout.grows (kept_of r.change) ≡ c.wrote
    grown = ap s.layout.grows (ap kept_of change_is ∙ kept-change c.body) ∙ sym wrote

    other : same_uid (epoch_uid n) c.uid ≡ false
    other = apart (epoch_uid n) c.uid (λ e. m.ordered.not_reserved r.uid held (uid_is ∙ sym e))

    go : (u : Uid) (b : Bool) → same_uid u c.uid ≡ b
        → ◌≡◌ {A = Facts} (cond b (kept_of r.change, None) (finite.get kept.bodies u, doubt_of d u))
        (cond b c.body (finite.get kept.bodies u), None)
    go u true is = ap (λ x. (x, None)) (ap kept_of change_is ∙ kept-change c.body)
    go u false is = ap (λ x. (finite.get kept.bodies u, x)) (other-doubt c d u most is)

    each : (u : Uid) → u ≢ epoch_uid n
        → facts_at r.uid (λ f. (kept_of r.change, None)) u (finite.get kept.bodies u, doubt_of d u) ≡
        (finite.get (kept_after c kept).bodies u, doubt_of None u)
    each u h = ap (λ v. facts_at v (λ f. (kept_of r.change, None)) u (finite.get kept.bodies u, doubt_of d u)) uid_is
        ∙ go u (same_uid u c.uid) refl
        ∙ ap (λ x. (x, None)) (sym (bodies-after c.uid u c.body kept.bodies))

-- 6. A pick settles what is in doubt, the epoch's change too

abbrev pub picked_kept : Pick → StoreChange → Kept → Kept
picked_kept pick.Old c kept = kept
picked_kept pick.New c kept = kept_after c kept

abbrev picked_facts : Pick → Facts → Facts
picked_facts pick.Old f = (f.0, None)
picked_facts pick.New f = (with_item f.1 kept_of f.0, None)

facts-settled : (p : Pick) (o : Option Eject) → facts_of (option_map (settled_eject p) o) ≡ picked_facts p (facts_of o)
facts-settled pick.Old None = refl
facts-settled pick.New None = refl
facts-settled pick.Old (Some e) = refl
facts-settled pick.New (Some e) = refl

-- the same facts, whatever becomes of the other fields
pub map-settled : (n : ℕ) (p : Pick) (c : StoreChange) (s : Site) (kept : Kept) → s.number ≡ n → MapStands n s kept (Some c)
    → MapStands n (settled (Some p) s) (picked_kept p c kept) None
unfolding on_node
map-settled n p c s kept number m = record {
  undamaged = m.undamaged;
  not_untold = m.not_untold;
  ordered = ordered-shift n (λ u x. picked_facts p x) same_requests s _ shift m.ordered;
  facts = λ u apart. shift.facts u ∙ ap (picked_facts p) (m.facts u apart) ∙ each p u;
  epoch = epoch_is p;
  epoch_doubt = refl;
  ledger = ledger_is p;
  wrote = tt;
}
  where
    shift : Shift (λ u x. picked_facts p x) same_requests s
        (on_node (λ it. record it { ejects = each_value (settled_eject p) it.ejects }) s)
    shift = shift-each (settled_eject p) (picked_facts p) s (facts-settled p)

    new : (u : Uid) (b : Bool) (old : Option (List ℕ)) → with_item (cond b (Some (change_of c.body)) None) kept_of old ≡ cond b c.body old
    new u true old = kept-change c.body
    new u false old = refl

    each : (p : Pick) (u : Uid) → picked_facts p (finite.get kept.bodies u, doubt_of (Some c) u) ≡
        (finite.get (picked_kept p c kept).bodies u, None)
    each pick.Old u = refl
    each pick.New u = ap (λ x. (x, None)) (new u (same_uid u c.uid) (finite.get kept.bodies u)
        ∙ sym (bodies-after c.uid u c.body kept.bodies))

    doubted-epoch : (o : Option ℕ) (b : Bool) → cond b (Some (change_of c.body)) None ≡ change_of_epoch o
        → cond b c.body (bytes_of_epoch s.node.epoch) ≡ bytes_of_epoch (with_item o (λ e. Some e) s.node.epoch)
    doubted-epoch None true is = absurd (cc is)
    doubted-epoch None false is = refl
    doubted-epoch (Some e) false is = absurd (cc is)
    doubted-epoch (Some e) true is = sym (kept-change c.body) ∙ ap (λ x. with_item x kept_of None) is

    epoch_is : (p : Pick) → finite.get (picked_kept p c kept).bodies (epoch_uid n) ≡ bytes_of_epoch (settled_epoch p s.node)
    epoch_is pick.Old = m.epoch
    epoch_is pick.New = bodies-after c.uid (epoch_uid n) c.body kept.bodies ∙ ap (λ x. cond (same_uid (epoch_uid n) c.uid) c.body x) m.epoch
        ∙ doubted-epoch s.node.epoch_doubt (same_uid (epoch_uid n) c.uid) m.epoch_doubt

    ledger_is : (p : Pick) → settled_ledger s.layout s.number p s.node ≡ (picked_kept p c kept).ledger
    ledger_is pick.Old = m.ledger
    ledger_is pick.New = ap (λ k. all_written s.layout (doubts k s.node) s.node.ledger) number
        ∙ ap (λ l. all_written s.layout l s.node.ledger) (doubts-are n s kept (Some c) m)
        ∙ ap (λ x. s.node.ledger ++ s.layout.grows x) (kept-change c.body)
        ∙ ap (λ l. l ++ s.layout.grows c.body) m.ledger
        ∙ ap (λ w. kept.ledger ++ w) (sym m.wrote)
