-- What is kept of a queue without the requests of an Eject.
use Rattle.std.proofs.Common.{◌≡◌, ℕ, ◌==◌, Bool, true, false, cond, not, ◌&&◌, List, [], ◌∷◌, None, refl, sym, ap, ◌∙◌}
use Rattle.std.proofs.lemmas.Bool.{eq-eqb, eqb-true}
use Rattle.std.proofs.lemmas.Cmp.{tied_itself}
use Rattle.std.specs.List.{filter, filter_map}
use Rattle.std.specs.Ordering.{nat_cmp, ordering_then, is_eq}
use Rattle.std.specs.Cmp.{nat_cmp_total}
use Rattle.std.specs.FinMap.{nat_cmp-IsAntisymmetric}
use Rattle.std.specs.declared.cmp.Ordering.{Ordering}
use Rattle.std.specs.declared.cmp.Ordering.TheVariants.{Less, Equal, Greater}
use Rattle.capability.specs.declared.Uid.{Uid}
use Rattle.capability.specs.Uids.{uid_eq}
use Rattle.eden_model.specs.Map.{same_uid}
use Rattle.checkpoint.specs.declared.worker.Request.{Request}
use Rattle.checkpoint.specs.Queues.{left_of, left_in}

-- 1. Uids that are equal

equal-then : (a b : Ordering) → is_eq (ordering_then a b) ≡ (is_eq a && is_eq b)
equal-then Less b = refl
equal-then Equal b = refl
equal-then Greater b = refl

equal-numbers : (a b : ℕ) → is_eq (nat_cmp a b) ≡ (a == b)
equal-numbers a b = go (a == b) refl
  where
    apart : (o : Ordering) → nat_cmp a b ≡ o → (a == b) ≡ false → is_eq o ≡ false
    apart Less e is = refl
    apart Greater e is = refl
    apart Equal e is = absurd (let bad : true ≡ false = sym (eq-eqb a b (nat_cmp-IsAntisymmetric a b e)) ∙ is in cc bad)

    go : (t : Bool) → (a == b) ≡ t → is_eq (nat_cmp a b) ≡ t
    go true is = ap (λ k. is_eq (nat_cmp a k)) (sym (eqb-true a b is)) ∙ ap is_eq (tied_itself nat_cmp_total a)
    go false is = apart (nat_cmp a b) refl is

pub same-eq : (a b : Uid) → same_uid a b ≡ uid_eq a b
same-eq a b = equal-then (nat_cmp a.node b.node) (ordering_then (nat_cmp a.epoch b.epoch) (nat_cmp a.serial b.serial))
    ∙ ap (λ x. x && is_eq (ordering_then (nat_cmp a.epoch b.epoch) (nat_cmp a.serial b.serial))) (equal-numbers a.node b.node)
    ∙ ap (λ x. (a.node == b.node) && x) (equal-then (nat_cmp a.epoch b.epoch) (nat_cmp a.serial b.serial)
    ∙ ap (λ x. x && is_eq (nat_cmp a.serial b.serial)) (equal-numbers a.epoch b.epoch)
    ∙ ap (λ x. (a.epoch == b.epoch) && x) (equal-numbers a.serial b.serial))

-- 2. The rest of a queue

pub filter-left : (u : Uid) (qs : List Request) → filter (λ q. not (uid_eq q.uid u)) qs ≡ filter_map (left_of u) qs
filter-left u [] = refl
filter-left u (q ∷ qs) = go (same_uid q.uid u) refl (filter-left u qs)
  where
    go : (b : Bool) → same_uid q.uid u ≡ b → filter (λ q. not (uid_eq q.uid u)) qs ≡ filter_map (left_of u) qs
        → filter (λ q. not (uid_eq q.uid u)) (q ∷ qs) ≡ filter_map (left_of u) (q ∷ qs)
    go true is later = let e : uid_eq q.uid u ≡ true = sym (same-eq q.uid u) ∙ is in rw (is, e) later
    go false is later = let e : uid_eq q.uid u ≡ false = sym (same-eq q.uid u) ∙ is in rw (is, e) (ap (λ l. q ∷ l) later)

pub left-waiting-all : (u : Uid) (qs : List Request) → filter (λ q. not (uid_eq q.uid u)) qs ≡ left_in false u qs
left-waiting-all u [] = refl
left-waiting-all u (q ∷ qs) = filter-left u (q ∷ qs)

-- 3. The first of a queue, which has begun

pub now-left : (u : Uid) (first now : Request) (b : Bool) → uid_eq first.uid u ≡ b → now ≡ cond b (record first { process = None }) first
    → now ≡ cond (same_uid first.uid u) (record first { process = None }) first
now-left u first now b is same = same ∙ ap (λ t. cond t (record first { process = None }) first) (sym (same-eq first.uid u ∙ is))

pub begun-left : (u : Uid) (begun : Bool) (first now : Request) (qs rest left all : List Request) → begun ≡ true → qs ≡ first ∷ rest
    → left ≡ filter (λ q. not (uid_eq q.uid u)) rest → all ≡ now ∷ left
    → now ≡ cond (same_uid first.uid u) (record first { process = None }) first
    → all ≡ left_in begun u qs
begun-left u begun first now qs rest left all is queue filtered front changed =
    front ∙ ap (λ l. now ∷ l) (filtered ∙ filter-left u rest) ∙ ap (λ q. q ∷ filter_map (left_of u) rest) changed
    ∙ ap (λ l. left_in true u l) (sym queue) ∙ ap (λ b. left_in b u qs) (sym is)
