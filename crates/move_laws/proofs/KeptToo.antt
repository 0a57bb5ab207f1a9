-- The other steps keep the invariant, and what it says.
use Rattle.std.proofs.Common.{◌≡◌, ◌≢◌, ◌⊎◌, inl, inr, ℕ, suc, ◌≤◌, Bool, false, List, [], ◌∷◌, Option, None, Some}
use Rattle.std.proofs.Common.{refl, sym, ◌∙◌, subst, arith, le_trans, le_refl}
use Rattle.move_laws.specs.Wander.{Record, Here, Lent, Gone, generation, Site, View, Take, Known, Contains, IsFresh}
use Rattle.move_laws.specs.Wander.{putting, asleep, known_here, IsBlank, Steps, last_of}
use Rattle.move_laws.specs.Wander.{Forgets, Learns, Acknowledges, Asks, Makes, Saves, Lends, Sends, Receives, Answers, Closes, Step}
use Rattle.move_laws.specs.Wander.{Settle, Forget, Learn, Acknowledge, Ask, Make, Save, Lend, Send, Receive, Answer, Close}
use Rattle.move_laws.proofs.Holding.{Each, each-at, each-where, Rests, PastLetter, HolderDoubt, Held, WayLetter, Waits, OnWay}
use Rattle.move_laws.proofs.Holding.{NewDoubt, Holding, AtNone, AtOne, Between, Moves, from-turns, same?, Grows}
use Rattle.move_laws.proofs.Holding.{rests-grow, letter-grows, way-grows, holder-fresh, past-bound, at-each, waits-grow}
use Rattle.move_laws.proofs.Held.{held-elsewhere, held-own, way-elsewhere, way-own}
use Rattle.move_laws.proofs.Kept.{held-here, way-not-here, held-lent-past, way-lent, keeps-settle}

-- 1. Nothing of the nodes changes

pub held-sites : {V : Type 0} (home : ℕ) (w x : View V) (n g : ℕ) (v : V) → Held home w n g v → ((m : ℕ) → x.site m ≡ w.site m)
    → IsFresh x v → HolderDoubt x n g v (w.site n).doubt → Each (PastLetter x g) x.sent → Held home x n g v
held-sites {V} home w x n g v h same fresh doubt letters = record {
  kept = subst (λ (z : Site V). z.kept ≡ Some (Here g v)) (sym (same n)) h.kept;
  fresh = fresh;
  doubt = subst (λ (z : Site V). HolderDoubt x n g v z.doubt) (sym (same n)) doubt;
  mind = subst (λ (z : Site V). (z.doubt ≡ None) ⊎ ((z.active ≡ false) × (z.memory ≡ None))) (sym (same n)) h.mind;
  memory = subst (λ (z : Site V). (z.memory ≡ None) ⊎ (z.memory ≡ Some (g, v))) (sym (same n)) h.memory;
  rest = λ k d. subst (λ (z : Site V). Rests x g z) (sym (same k)) (rests-grow w x g g (w.site k) up (le_refl g) (h.rest k d));
  letters = letters;
  home_has = subst (λ (z : Site V). z.kept ≢ None) (sym (same home)) h.home_has;
}
  where
    up : Grows w x
    up m = subst (λ (z : Site V). generation (w.site m).kept ≤ generation z.kept) (sym (same m)) (le_refl _)

pub way-sites : {V : Type 0} (home : ℕ) (w x : View V) (a b t : ℕ) (v : V) → OnWay home w a b t v → ((m : ℕ) → x.site m ≡ w.site m)
    → IsFresh x v → Each (WayLetter x b t v) x.sent → OnWay home x a b t v
way-sites {V} home w x a b t v h same fresh letters = record {
  kept = subst (λ (z : Site V). z.kept ≡ Some (Lent (suc t) b v)) (sym (same a)) h.kept;
  doubt = subst (λ (z : Site V). z.doubt ≡ None) (sym (same a)) h.doubt;
  active = subst (λ (z : Site V). z.active ≡ false) (sym (same a)) h.active;
  memory = subst (λ (z : Site V). z.memory ≡ None) (sym (same a)) h.memory;
  apart = h.apart;
  fresh = fresh;
  rest = λ k d. subst (λ (z : Site V). Waits x b t v k z) (sym (same k)) (waits-grow w x b t v k (w.site k) up (h.rest k d));
  letters = letters;
  home_has = subst (λ (z : Site V). z.kept ≢ None) (sym (same home)) h.home_has;
}
  where
    up : Grows w x
    up m = subst (λ (z : Site V). generation (w.site m).kept ≤ generation z.kept) (sym (same m)) (le_refl _)

same-grows : {V : Type 0} (w x : View V) → ((m : ℕ) → x.site m ≡ w.site m) → Grows w x
same-grows {V} w x same m = subst (λ (z : Site V). generation (w.site m).kept ≤ generation z.kept) (sym (same m)) (le_refl _)

fresh-same : {V : Type 0} (w x : View V) → x.last ≡ w.last → x.cut ≡ w.cut → (u : V) → IsFresh w u → IsFresh x u
fresh-same w x last cut u (inl e) = inl (last ∙ e)
fresh-same w x last cut u (inr c) = inr (subst (λ l. Contains l u) (sym cut) c)

fresh-more : {V : Type 0} (w x : View V) (v : V) → x.last ≡ w.last → x.cut ≡ v ∷ w.cut → (u : V) → IsFresh w u → IsFresh x u
fresh-more w x v last cut u (inl e) = inl (last ∙ e)
fresh-more w x v last cut u (inr c) = inr (subst (λ l. Contains l u) (sym cut) (inr c))

-- 2. Each step

pub keeps-forget : {V : Type 0} (home : ℕ) (w x : View V) (m : ℕ) → Holding home w → Forgets m w x → Holding home x
keeps-forget {V} home w x m (AtNone h) s = AtNone (record {
  kept = at-each (λ k (z : Site V). z.kept ≡ None) c (h.kept m) (λ k d. h.kept k);
  doubt = at-each (λ k (z : Site V). k ≡ home → NewDoubt x z.doubt) c (λ e. new (w.site m).doubt (subst (λ k. NewDoubt w
      (w.site k).doubt) (sym e) h.doubt))
      (λ k d e. new (w.site k).doubt (subst (λ k. NewDoubt w (w.site k).doubt) (sym e) h.doubt)) home refl;
  doubts = at-each (λ k (z : Site V). k ≢ home → z.doubt ≡ None) c (h.doubts m) (λ k d. h.doubts k);
  active = at-each (λ k (z : Site V). z.active ≡ false) c refl (λ k d. h.active k);
  memory = at-each (λ k (z : Site V). z.memory ≡ None) c refl (λ k d. h.memory k);
  sent = c.sent ∙ h.sent;
})
  where
    c : Moves m (asleep (w.site m)) w x
    c = from-turns s

    new : (r : Option (Record V)) → NewDoubt w r → NewDoubt x r
    new None p = tt
    new (Some (Here g v)) p = (p.0, c.fresh v p.1)
    new (Some (Lent g to v)) p = p
    new (Some (Gone g to)) p = p
keeps-forget {V} home w x m (AtOne n g v h) s = AtOne n g v (go (same? m n))
  where
    go : (m ≡ n) ⊎ (m ≢ n) → Held home x n g v
    go (inl e) = let c : Moves n (asleep (w.site n)) w x = subst (λ k. Moves k (asleep (w.site k)) w x) e (from-turns s) in
        held-own home w x n g v v (asleep (w.site n)) h c h.kept (c.fresh v h.fresh)
        (holder-fresh w x n g v c.fresh (w.site n).doubt h.doubt) (inr (refl, refl)) (inl refl)
    go (inr d) = let r = h.rest m d in held-elsewhere home w x n g v m (asleep (w.site m)) h d (from-turns s)
        (record { kept = Rests.kept r; doubt = Rests.doubt r; active = refl; memory = refl }) (le_refl _) (λ has. has)
keeps-forget {V} home w x m (Between a b t v h) s = Between a b t v (go (same? m a))
  where
    go : (m ≡ a) ⊎ (m ≢ a) → OnWay home x a b t v
    go (inl e) = let c : Moves a (asleep (w.site a)) w x = subst (λ k. Moves k (asleep (w.site k)) w x) e (from-turns s) in
        way-own home w x a b t v (asleep (w.site a)) h c refl h.doubt refl refl
    go (inr d) = let r = h.rest m d in way-elsewhere home w x a b t v m (asleep (w.site m)) h d (from-turns s)
        (record { kept = Waits.kept r; doubt = Waits.doubt r; active = refl; memory = refl }) (le_refl _) (λ has. has)

-- only the holder has a record that is here
holds : {V : Type 0} (home : ℕ) (w : View V) (m g : ℕ) (v : V) → Holding home w → (w.site m).kept ≡ Some (Here g v) → Held home w m g v
holds home w m g v (AtNone h) is = absurd (cc (h.kept m, is))
holds home w m g v (AtOne n h u s) is = let e = held-here home w n h u m g v s is in
    subst (λ k. Held home w k g v) (sym e.0) (subst (λ k. Held home w n k v) (sym e.1) (subst (λ k. Held home w n h k) (sym e.2) s))
holds home w m g v (Between a b t u s) is = absurd (way-not-here home w a b t u m g v s is)

pub keeps-learn : {V : Type 0} (home : ℕ) (w x : View V) (m : ℕ) (active : Bool) (g : ℕ) (v : V) → Holding home w
    → Learns m active g v w x → Holding home x
keeps-learn home w x m active g v holding s = AtOne m g v (held-own home w x m g v v (known_here (w.site m) active g v) h c h.kept
    (c.fresh v h.fresh) tt (inl refl) (inr refl))
  where
    h : Held home w m g v
    h = holds home w m g v holding s.here

    c : Moves m (known_here (w.site m) active g v) w x
    c = from-turns s.turns

pub keeps-acknowledge : {V : Type 0} (home : ℕ) (w x : View V) (m g : ℕ) (v : V) → Holding home w → Acknowledges m g v w x → Holding home x
keeps-acknowledge home w x m g v holding s = AtOne m g v (held-sites home w x m g v h s.sites (inl s.last)
    (subst (HolderDoubt x m g v) (sym s.settled) tt)
    (subst (Each (PastLetter x g)) (sym s.sent)
    (each-where (PastLetter w g) (PastLetter x g) (letter-grows w x g g (same-grows w x s.sites) (le_refl g)) w.sent h.letters)))
  where
    h : Held home w m g v
    h = holds home w m g v holding s.here

new-fresh : {V : Type 0} (w x : View V) → ((u : V) → IsFresh w u → IsFresh x u) → (r : Option (Record V)) → NewDoubt w r → NewDoubt x r
new-fresh w x f None p = tt
new-fresh w x f (Some (Here g v)) p = (p.0, f v p.1)
new-fresh w x f (Some (Lent g to v)) p = p
new-fresh w x f (Some (Gone g to)) p = p

pub keeps-ask : {V : Type 0} (home : ℕ) (w x : View V) (v : V) → Holding home w → Asks v w x → Holding home x
keeps-ask {V} home w x v (AtNone h) s = AtNone (record {
  kept = λ k. subst (λ (z : Site V). z.kept ≡ None) (sym (s.sites k)) (h.kept k);
  doubt = subst (λ (z : Site V). NewDoubt x z.doubt) (sym (s.sites home)) (new-fresh w x (fresh-more w x v s.last s.cut)
      (w.site home).doubt h.doubt);
  doubts = λ k d. subst (λ (z : Site V). z.doubt ≡ None) (sym (s.sites k)) (h.doubts k d);
  active = λ k. subst (λ (z : Site V). z.active ≡ false) (sym (s.sites k)) (h.active k);
  memory = λ k. subst (λ (z : Site V). z.memory ≡ None) (sym (s.sites k)) (h.memory k);
  sent = s.sent ∙ h.sent;
})
keeps-ask home w x v (AtOne n g u h) s = AtOne n g u (held-sites home w x n g u h s.sites (fresh-more w x v s.last s.cut u h.fresh)
    (holder-fresh w x n g u (fresh-more w x v s.last s.cut) (w.site n).doubt h.doubt)
    (subst (Each (PastLetter x g)) (sym s.sent)
    (each-where (PastLetter w g) (PastLetter x g) (letter-grows w x g g (same-grows w x s.sites) (le_refl g)) w.sent h.letters)))
keeps-ask home w x v (Between a b t u h) s = Between a b t u (way-sites home w x a b t u h s.sites (fresh-more w x v s.last s.cut u h.fresh)
    (subst (Each (WayLetter x b t u)) (sym s.sent)
    (each-where (WayLetter w b t u) (WayLetter x b t u) (way-grows w x b t u (same-grows w x s.sites)) w.sent h.letters)))

pub keeps-make : {V : Type 0} (home : ℕ) (w x : View V) (v : V) → Holding home w → Makes home v w x → Holding home x
keeps-make {V} home w x v (AtNone h) s = AtNone (record {
  kept = at-each (λ k (z : Site V). z.kept ≡ None) c (h.kept home) (λ k d. h.kept k);
  doubt = subst (λ (z : Site V). NewDoubt x z.doubt) (sym c.own) (refl, c.fresh v (inr s.asked));
  doubts = at-each (λ k (z : Site V). k ≢ home → z.doubt ≡ None) c (λ d. absurd (d refl)) (λ k d. h.doubts k);
  active = at-each (λ k (z : Site V). z.active ≡ false) c refl (λ k d. h.active k);
  memory = at-each (λ k (z : Site V). z.memory ≡ None) c refl (λ k d. h.memory k);
  sent = c.sent ∙ h.sent;
})
  where
    c : Moves home (putting (w.site home) (Here 1 v)) w x
    c = from-turns s.turns
keeps-make home w x v (AtOne n g u h) s = absurd (h.home_has s.unknown)
keeps-make home w x v (Between a b t u h) s = absurd (h.home_has s.unknown)

pub keeps-save : {V : Type 0} (home : ℕ) (w x : View V) (n g : ℕ) (old v : V) → Holding home w → Saves n g old v w x → Holding home x
keeps-save home w x n g old v holding s = AtOne n g old (held-own home w x n g old old (putting (w.site n) (Here g v)) h c h.kept
    (c.fresh old h.fresh) (refl, c.fresh v (inr s.asked)) (inr (refl, refl)) (inl refl))
  where
    h : Held home w n g old
    h = holds home w n g old holding s.here

    c : Moves n (putting (w.site n) (Here g v)) w x
    c = from-turns s.turns

pub keeps-lend : {V : Type 0} (home : ℕ) (w x : View V) (n to g : ℕ) (v : V) → Holding home w → Lends n to g v w x → Holding home x
keeps-lend home w x n to g v holding s = AtOne n g v (held-own home w x n g v v (putting (w.site n) (Lent (suc g) to v)) h c h.kept
    (c.fresh v h.fresh) (refl, s.other, refl) (inr (refl, refl)) (inl refl))
  where
    h : Held home w n g v
    h = holds home w n g v holding s.here

    c : Moves n (putting (w.site n) (Lent (suc g) to v)) w x
    c = from-turns s.turns

pub keeps-send : {V : Type 0} (home : ℕ) (w x : View V) (m to h : ℕ) (u : V) → Holding home w → Sends m to h u w x → Holding home x
keeps-send home w x m to h u (AtNone s) p = absurd (cc (s.kept m, p.lent))
keeps-send {V} home w x m to h u (AtOne n g v s) p = AtOne n g v (held-sites home w x n g v s p.sites
    (fresh-same w x p.last p.cut v s.fresh) (holder-fresh w x n g v (fresh-same w x p.last p.cut) (w.site n).doubt s.doubt)
    (subst (Each (PastLetter x g)) (sym p.sent) (
      (le_trans past.2 (up to), past.1),
      each-where (PastLetter w g) (PastLetter x g) (letter-grows w x g g up (le_refl g)) w.sent s.letters,
    )))
  where
    up : Grows w x
    up = same-grows w x p.sites

    past : (m ≢ n) × (h ≤ g) × (h ≤ generation (w.site to).kept)
    past = held-lent-past home w n g v m h to u s p.lent
keeps-send {V} home w x m to h u (Between a b t v s) p = Between a b t v (way-sites home w x a b t v s p.sites
    (fresh-same w x p.last p.cut v s.fresh)
    (subst (Each (WayLetter x b t v)) (sym p.sent) (
      letter (way-lent home w a b t v m h to u s p.lent),
      each-where (WayLetter w b t v) (WayLetter x b t v) (way-grows w x b t v up) w.sent s.letters,
    )))
  where
    up : Grows w x
    up = same-grows w x p.sites

    letter : ((m ≡ a) × (to ≡ b) × (h ≡ suc t) × (u ≡ v)) ⊎ ((m ≢ a) × (h ≤ t) × (h ≤ generation (w.site to).kept))
        → WayLetter x b t v (Take to h u)
    letter (inl q) = inr (q.1, q.2, q.3)
    letter (inr q) = inl (le_trans q.2 (up to), q.1)

pub keeps-receive : {V : Type 0} (home : ℕ) (w x : View V) (m h : ℕ) (u : V) → Holding home w → Receives m h u w x → Holding home x
keeps-receive home w x m h u (AtNone s) p = absurd (subst (λ l. Contains l (Take m h u)) s.sent p.letter)
keeps-receive home w x m h u (AtOne n g v s) p =
    let q = each-at (PastLetter w g) w.sent (Take m h u) s.letters p.letter in
    absurd (omega (arith, q.0, p.older))
keeps-receive {V} home w x m h u (Between a b t v s) p = go (each-at (WayLetter w b t v) w.sent (Take m h u) s.letters p.letter)
  where
    go : ((h ≤ generation (w.site m).kept) × (h ≤ t)) ⊎ ((m ≡ b) × (h ≡ suc t) × (u ≡ v)) → Holding home x
    go (inl q) = absurd (omega (arith, q.0, p.older))
    go (inr q) = let away : m ≢ a = λ e. s.apart (sym q.0 ∙ e) in let r = s.rest m away in
        Between a b t v (way-elsewhere home w x a b t v m (putting (w.site m) (Here h u)) s away (from-turns p.turns)
        (record { kept = Waits.kept r; doubt = inr (q.0, cc (q.1, q.2)); active = refl; memory = refl }) (le_refl _) (λ has. has))

pub keeps-answer : {V : Type 0} (home : ℕ) (w x : View V) (m from h : ℕ) (u : V) → Holding home w → Answers m from h u w x → Holding home x
keeps-answer home w x m from h u (AtNone s) p = absurd (subst (λ l. Contains l (Take m h u)) s.sent p.letter)
keeps-answer home w x m from h u (AtOne n g v s) p = AtOne n g v (held-sites home w x n g v s p.sites
    (fresh-same w x p.last p.cut v s.fresh) (holder-fresh w x n g v (fresh-same w x p.last p.cut) (w.site n).doubt s.doubt)
    (subst (Each (PastLetter x g)) (sym p.sent) (
      q.1,
      each-where (PastLetter w g) (PastLetter x g) (letter-grows w x g g (same-grows w x p.sites) (le_refl g)) w.sent s.letters,
    )))
  where
    q : PastLetter w g (Take m h u)
    q = each-at (PastLetter w g) w.sent (Take m h u) s.letters p.letter
keeps-answer {V} home w x m from h u (Between a b t v s) p = Between a b t v (way-sites home w x a b t v s p.sites
    (fresh-same w x p.last p.cut v s.fresh)
    (subst (Each (WayLetter x b t v)) (sym p.sent) (
      go (each-at (WayLetter w b t v) w.sent (Take m h u) s.letters p.letter),
      each-where (WayLetter w b t v) (WayLetter x b t v) (way-grows w x b t v (same-grows w x p.sites)) w.sent s.letters,
    )))
  where
    go : ((h ≤ generation (w.site m).kept) × (h ≤ t)) ⊎ ((m ≡ b) × (h ≡ suc t) × (u ≡ v)) → h ≤ t
    go (inl q) = q.1
    go (inr q) = let away : m ≢ a = λ e. s.apart (sym q.0 ∙ e) in
        let old : generation (w.site m).kept ≤ t = past-bound w t (w.site m).kept (Waits.kept (s.rest m away)) in
        omega (arith, old, p.taken)

pub keeps-close : {V : Type 0} (home : ℕ) (w x : View V) (m to h : ℕ) (u : V) → Holding home w → Closes m to h u w x → Holding home x
keeps-close home w x m to h u (AtNone s) p = absurd (cc (s.kept m, p.lent))
keeps-close {V} home w x m to h u (AtOne n g v s) p = AtOne n g v (held-elsewhere home w x n g v m (putting (w.site m) (Gone h to)) s past.0
    (from-turns p.turns) (record { kept = Rests.kept (s.rest m past.0); doubt = (past.1, same); active = refl; memory = refl })
    (le_refl _) (λ has. has))
  where
    past : (m ≢ n) × (h ≤ g) × (h ≤ generation (w.site to).kept)
    past = held-lent-past home w n g v m h to u s p.lent

    same : generation (w.site m).kept ≤ h
    same = subst (λ r. generation r ≤ h) (sym p.lent) (le_refl h)
keeps-close {V} home w x m to h u (Between a b t v s) p = go (way-lent home w a b t v m h to u s p.lent)
  where
    known : h ≤ t
    known = each-at (WayLetter w b t v) w.sent (Known m h) s.letters p.letter

    same : generation (w.site m).kept ≤ h
    same = subst (λ r. generation r ≤ h) (sym p.lent) (le_refl h)

    go : ((m ≡ a) × (to ≡ b) × (h ≡ suc t) × (u ≡ v)) ⊎ ((m ≢ a) × (h ≤ t) × (h ≤ generation (w.site to).kept)) → Holding home x
    go (inl q) = absurd (omega (arith, known, q.2))
    go (inr q) = Between a b t v (way-elsewhere home w x a b t v m (putting (w.site m) (Gone h to)) s q.0 (from-turns p.turns)
        (record { kept = Waits.kept (s.rest m q.0); doubt = inl (q.1, same); active = refl; memory = refl }) (le_refl _) (λ has. has))

pub keeps : {V : Type 0} (home : ℕ) (w x : View V) → Holding home w → Step home w x → Holding home x
keeps home w x h (Settle n s) = keeps-settle home w x n h s
keeps home w x h (Forget n s) = keeps-forget home w x n h s
keeps home w x h (Learn n active g v s) = keeps-learn home w x n active g v h s
keeps home w x h (Acknowledge n g v s) = keeps-acknowledge home w x n g v h s
keeps home w x h (Ask v s) = keeps-ask home w x v h s
keeps home w x h (Make v s) = keeps-make home w x v h s
keeps home w x h (Save n g old v s) = keeps-save home w x n g old v h s
keeps home w x h (Lend n to g v s) = keeps-lend home w x n to g v h s
keeps home w x h (Send n to g v s) = keeps-send home w x n to g v h s
keeps home w x h (Receive n g v s) = keeps-receive home w x n g v h s
keeps home w x h (Answer n from g v s) = keeps-answer home w x n from g v h s
keeps home w x h (Close n to g v s) = keeps-close home w x n to g v h s

pub keeps-all : {V : Type 0} (home : ℕ) (w : View V) (xs : List (View V)) → Holding home w → Steps home w xs → Holding home (last_of w xs)
keeps-all home w [] h s = h
keeps-all home w (x ∷ xs) h s = keeps-all home x xs (keeps home w x h s.0) s.1

pub at-first : {V : Type 0} (home : ℕ) (w : View V) → IsBlank w → Holding home w
at-first home w b = AtNone (record {
  kept = b.kept;
  doubt = subst (NewDoubt w) (sym (b.doubt home)) tt;
  doubts = λ m d. b.doubt m;
  active = b.active;
  memory = b.memory;
  sent = b.sent;
})
