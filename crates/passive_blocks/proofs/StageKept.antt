-- What is kept once a new head is open: what was kept, with its change made.
use Rattle.std.proofs.Common.{◌≡◌, ℕ, Bool, true, false, cond, List, [], ◌∷◌, ◌++◌, map, refl, sym, ap, ◌∙◌}
use Rattle.std.specs.Prelude.{◌&&◌, not, filter, Option, None, Some, if◌then◌else◌}
use Rattle.std.specs.FinMap as finite
use Rattle.std.specs.FinMap.{FinMap}
use Rattle.std.specs.List.{list_all}
use Rattle.std.specs.Ordering.{eq_by_cmp}
use Rattle.std.proofs.lemmas.List.Elements.{filter-append}
use Rattle.capability.specs.declared.Uid.{Uid}
use Rattle.capability.specs.Uids.{uid_cmp}
use Rattle.capability.proofs.Uids.{uid_cmp_total, uid_cmp-IsAntisymmetric}
use Rattle.passive_store.specs.Kept.{StoreChange, Kept, nothing_kept, marks_after, kept_after, kept_from}
use Rattle.block_tables.specs.Blocks.{Head, same_uid, counts, keeping}
use Rattle.block_tables.proofs.Slots.{same_uids}
use Rattle.passive_blocks.proofs.Among.{filter_twice}
use Rattle.passive_blocks.proofs.Keeping.{body_now}
use Rattle.block_tables.proofs.Heading.{keeps_beside, is_earlier, keeping_with}

abbrev pub mark_of : Option (List ℕ) → ℕ → Option ℕ
mark_of None mark = None
mark_of (Some body) mark = Some mark

mark_now : (uid q : Uid) (body : Option (List ℕ)) (mark : ℕ) (m : FinMap uid_cmp ℕ)
    → finite.get (marks_after uid body mark m) q ≡ cond (eq_by_cmp uid_cmp q uid) (mark_of body mark) (finite.get m q)
mark_now uid q None mark m = finite.get-remove uid_cmp_total m uid q
mark_now uid q (Some body) mark m = finite.get-insert uid_cmp_total m uid mark q

-- what the last of these changes leaves under a uid
abbrev pub last_of : {X : Type 0} → (StoreChange → Option X) → List StoreChange → Uid → Option X → Option X
last_of f [] q old = old
last_of f (c ∷ cs) q old = last_of f cs q (cond (eq_by_cmp uid_cmp q c.uid) (f c) old)

abbrev pub body_in : StoreChange → Option (List ℕ)
body_in c = c.body

abbrev pub mark_in : StoreChange → Option ℕ
mark_in c = mark_of c.body c.mark

pub bodies_from : (cs : List StoreChange) (kept : Kept) (q : Uid) → finite.get (kept_from kept cs).bodies q ≡ last_of body_in cs q
    (finite.get kept.bodies q)
bodies_from [] kept q = refl
bodies_from (c ∷ cs) kept q = bodies_from cs (kept_after c kept) q ∙ ap (last_of body_in cs q) (body_now c.uid q c.body kept.bodies)

pub marks_from : (cs : List StoreChange) (kept : Kept) (q : Uid) → finite.get (kept_from kept cs).marks q ≡ last_of mark_in cs q
    (finite.get kept.marks q)
marks_from [] kept q = refl
marks_from (c ∷ cs) kept q = marks_from cs (kept_after c kept) q ∙ ap (last_of mark_in cs q) (mark_now c.uid q c.body c.mark kept.marks)

last_append : (X : Type 0) (f : StoreChange → Option X) (xs ys : List StoreChange) (q : Uid) (old : Option X)
    → last_of f (xs ++ ys) q old ≡ last_of f ys q (last_of f xs q old)
last_append X f [] ys q old = refl
last_append X f (x ∷ xs) ys q old = last_append X f xs ys q (cond (eq_by_cmp uid_cmp q x.uid) (f x) old)

-- a change for each head, under its uid
abbrev pub IsOfUid : (Head → StoreChange) → Type 0
IsOfUid v = (h : Head) → (v h).uid ≡ h.uid

abbrev beside : Head → Head → Bool
beside h g = not (same_uid h g)

-- under another uid it does not matter whether those of this one are there
last_other : (X : Type 0) (f : StoreChange → Option X) (v : Head → StoreChange) → IsOfUid v → (h : Head) (hs : List Head) (q : Uid)
    → eq_by_cmp uid_cmp q h.uid ≡ false → (old : Option X)
    → last_of f (map v (filter (beside h) hs)) q old ≡ last_of f (map v hs) q old
last_other X f v uids h [] q other old = refl
last_other X f v uids h (g ∷ gs) q other old = go (same_uid h g) refl (last_other X f v uids h gs q other)
  where
    go : (b : Bool) → same_uid h g ≡ b
        → ((old : Option X) → last_of f (map v (filter (beside h) gs)) q old ≡ last_of f (map v gs) q old)
        → last_of f (map v (if not b then g ∷ filter (beside h) gs else filter (beside h) gs)) q old
        ≡ last_of f (map v gs) q (cond (eq_by_cmp uid_cmp q (v g).uid) (f (v g)) old)
    go true same rest =
        let not_it : eq_by_cmp uid_cmp q (v g).uid ≡ false =
        ap (eq_by_cmp uid_cmp q) (uids g ∙ sym (same_uids h.uid g.uid same)) ∙ other in
        rest old ∙ ap (last_of f (map v gs) q) (sym (ap (λ b. cond b (f (v g)) old) not_it))
    go false is rest = rest (cond (eq_by_cmp uid_cmp q (v g).uid) (f (v g)) old)

-- under this one none of the others is
last_none : (X : Type 0) (f : StoreChange → Option X) (v : Head → StoreChange) → IsOfUid v → (h : Head) (hs : List Head) (q : Uid)
    → eq_by_cmp uid_cmp q h.uid ≡ true → (old : Option X) → last_of f (map v (filter (beside h) hs)) q old ≡ old
last_none X f v uids h [] q same old = refl
last_none X f v uids h (g ∷ gs) q same old = go (same_uid h g) refl (last_none X f v uids h gs q same)
  where
    it : q ≡ h.uid
    it = same_uids q h.uid same

    go : (b : Bool) → same_uid h g ≡ b → ((old : Option X) → last_of f (map v (filter (beside h) gs)) q old ≡ old)
        → last_of f (map v (if not b then g ∷ filter (beside h) gs else filter (beside h) gs)) q old ≡ old
    go true is rest = rest old
    go false is rest =
        let not_it : eq_by_cmp uid_cmp q (v g).uid ≡ false =
        ap (eq_by_cmp uid_cmp q) (uids g) ∙ ap (λ u. eq_by_cmp uid_cmp u g.uid) it ∙ is in
        ap (last_of f (map v (filter (beside h) gs)) q) (ap (λ b. cond b (f (v g)) old) not_it) ∙ rest old

map_append : (v : Head → StoreChange) (xs ys : List Head) → map v (xs ++ ys) ≡ map v xs ++ map v ys
map_append v [] ys = refl
map_append v (x ∷ xs) ys = ap (λ zs. v x ∷ zs) (map_append v xs ys)

-- the new head, if it has a value, between those of other uids
abbrev between : Head → List Head → List Head → List Head
between h xs ys = filter (beside h) xs ++ (if h.removal then filter (beside h) ys else h ∷ filter (beside h) ys)

abbrev given : {X : Type 0} → (StoreChange → Option X) → (Head → StoreChange) → Head → Option X
given f v h = if h.removal then None else f (v h)

last_between : (X : Type 0) (f : StoreChange → Option X) (v : Head → StoreChange) → IsOfUid v
    → (h : Head) (xs ys : List Head) (q : Uid) (b : Bool) → eq_by_cmp uid_cmp q h.uid ≡ b
    → last_of f (map v (between h xs ys)) q None ≡ cond b (given f v h) (last_of f (map v (xs ++ ys)) q None)
last_between X f v uids h xs ys q b is = go b is h.removal refl
  where
    start : (r : Bool) → h.removal ≡ r → last_of f (map v (between h xs ys)) q None
        ≡ last_of f (map v (if r then filter (beside h) ys else h ∷ filter (beside h) ys)) q
        (last_of f (map v (filter (beside h) xs)) q None)
    start r removal =
        ap (λ b. last_of f (map v (filter (beside h) xs ++ (if b then filter (beside h) ys else h ∷ filter (beside h) ys))) q None) removal
        ∙ ap (λ cs. last_of f cs q None) (map_append v (filter (beside h) xs)
        (if r then filter (beside h) ys else h ∷ filter (beside h) ys))
        ∙ last_append X f (map v (filter (beside h) xs)) (map v (if r then filter (beside h) ys else h ∷ filter (beside h) ys)) q None

    whole : last_of f (map v (xs ++ ys)) q None ≡ last_of f (map v ys) q (last_of f (map v xs) q None)
    whole = ap (λ cs. last_of f cs q None) (map_append v xs ys) ∙ last_append X f (map v xs) (map v ys) q None

    go : (b : Bool) → eq_by_cmp uid_cmp q h.uid ≡ b → (r : Bool) → h.removal ≡ r
        → last_of f (map v (between h xs ys)) q None ≡ cond b (given f v h) (last_of f (map v (xs ++ ys)) q None)
    go true same true removal =
        start true removal
        ∙ last_none X f v uids h ys q same (last_of f (map v (filter (beside h) xs)) q None)
        ∙ last_none X f v uids h xs q same None
        ∙ sym (ap (λ b. if b then None else f (v h)) removal)
    go true same false removal =
        start false removal
        ∙ last_none X f v uids h ys q same (cond (eq_by_cmp uid_cmp q (v h).uid) (f (v h))
        (last_of f (map v (filter (beside h) xs)) q None))
        ∙ ap (λ b. cond b (f (v h)) (last_of f (map v (filter (beside h) xs)) q None)) (ap (eq_by_cmp uid_cmp q) (uids h) ∙ same)
        ∙ sym (ap (λ b. if b then None else f (v h)) removal)
    go false other true removal =
        start true removal
        ∙ last_other X f v uids h ys q other (last_of f (map v (filter (beside h) xs)) q None)
        ∙ ap (last_of f (map v ys) q) (last_other X f v uids h xs q other None)
        ∙ sym whole
    go false other false removal =
        start false removal
        ∙ last_other X f v uids h ys q other (cond (eq_by_cmp uid_cmp q (v h).uid) (f (v h))
        (last_of f (map v (filter (beside h) xs)) q None))
        ∙ ap (last_of f (map v ys) q) (ap (λ b. cond b (f (v h)) (last_of f (map v (filter (beside h) xs)) q None))
        (ap (eq_by_cmp uid_cmp q) (uids h) ∙ other))
        ∙ ap (last_of f (map v ys) q) (last_other X f v uids h xs q other None)
        ∙ sym whole

-- changes that add nothing to the ledger leave it
abbrev pub AddsNothing : (Head → StoreChange) → Type 0
AddsNothing v = (h : Head) → (v h).wrote ≡ []

ledger_none : (v : Head → StoreChange) → AddsNothing v → (hs : List Head) (kept : Kept) → kept.ledger ≡ []
    → (kept_from kept (map v hs)).ledger
    ≡ []
ledger_none v adds [] kept none = none
ledger_none v adds (h ∷ hs) kept none =
    ledger_none v adds hs (kept_after (v h) kept) (ap (λ xs. kept.ledger ++ xs) (adds h) ∙ ap (λ xs. xs ++ []) none)

pub kept_same : (a b : Kept) → ((q : Uid) → finite.get a.bodies q ≡ finite.get b.bodies q)
    → ((q : Uid) → finite.get a.marks q ≡ finite.get b.marks q)
    → a.ledger ≡ b.ledger → a ≡ b
kept_same a b bodies marks ledger =
    ap (λ m. record { bodies = m; marks = a.marks; ledger = a.ledger })
    (finite.same_map uid_cmp_total uid_cmp-IsAntisymmetric a.bodies b.bodies bodies)
    ∙ ap (λ m. record { bodies = b.bodies; marks = m; ledger = a.ledger })
    (finite.same_map uid_cmp_total uid_cmp-IsAntisymmetric a.marks b.marks marks)
    ∙ ap (λ l. record { bodies = b.bodies; marks = b.marks; ledger = l }) ledger

-- the change that a head makes
pub record Makes (v : Head → StoreChange) (h : Head) (c : StoreChange) : Type 0 where
  pub uid : c.uid ≡ h.uid
  pub body : c.body ≡ (if h.removal then None else (v h).body)
  pub mark : mark_in c ≡ (if h.removal then None else mark_in (v h))
  pub wrote : c.wrote ≡ []

after_between : (v : Head → StoreChange) (h : Head) (xs ys : List Head) (c : StoreChange) → IsOfUid v → AddsNothing v → Makes v h c
    → kept_from nothing_kept (map v (between h xs ys)) ≡ kept_after c (kept_from nothing_kept (map v (xs ++ ys)))
after_between v h xs ys c uids adds makes =
    kept_same (kept_from nothing_kept (map v (between h xs ys))) (kept_after c (kept_from nothing_kept (map v (xs ++ ys))))
    (λ q.
    bodies_from (map v (between h xs ys)) nothing_kept q
    ∙ ap (last_of body_in (map v (between h xs ys)) q) (finite.get-empty uid_cmp q)
    ∙ last_between (List ℕ) body_in v uids h xs ys q (eq_by_cmp uid_cmp q h.uid) refl
    ∙ ap (λ u. cond (eq_by_cmp uid_cmp q u) (given body_in v h) (last_of body_in (map v (xs ++ ys)) q None)) (sym makes.uid)
    ∙ ap (λ b. cond (eq_by_cmp uid_cmp q c.uid) b (last_of body_in (map v (xs ++ ys)) q None)) (sym makes.body)
    ∙ ap (cond (eq_by_cmp uid_cmp q c.uid) c.body) (sym (bodies_from (map v (xs ++ ys)) nothing_kept q
    ∙ ap (last_of body_in (map v (xs ++ ys)) q) (finite.get-empty uid_cmp q)))
    ∙ sym (body_now c.uid q c.body (kept_from nothing_kept (map v (xs ++ ys))).bodies))
    (λ q.
    marks_from (map v (between h xs ys)) nothing_kept q
    ∙ ap (last_of mark_in (map v (between h xs ys)) q) (finite.get-empty uid_cmp q)
    ∙ last_between ℕ mark_in v uids h xs ys q (eq_by_cmp uid_cmp q h.uid) refl
    ∙ ap (λ u. cond (eq_by_cmp uid_cmp q u) (given mark_in v h) (last_of mark_in (map v (xs ++ ys)) q None)) (sym makes.uid)
    ∙ ap (λ b. cond (eq_by_cmp uid_cmp q c.uid) b (last_of mark_in (map v (xs ++ ys)) q None)) (sym makes.mark)
    ∙ ap (cond (eq_by_cmp uid_cmp q c.uid) (mark_in c)) (sym (marks_from (map v (xs ++ ys)) nothing_kept q
    ∙ ap (last_of mark_in (map v (xs ++ ys)) q) (finite.get-empty uid_cmp q)))
    ∙ sym (mark_now c.uid q c.body c.mark (kept_from nothing_kept (map v (xs ++ ys))).marks))
    (ledger_none v adds (between h xs ys) nothing_kept refl
    ∙ sym (ap (λ l. (kept_from nothing_kept (map v (xs ++ ys))).ledger ++ l) makes.wrote
    ∙ ap (λ l. l ++ []) (ledger_none v adds (xs ++ ys) nothing_kept refl)))

-- What the heads keep behind a change: what they kept before it, with the change made.
pub kept_with : (v : Head → StoreChange) (front back : List Head) (h : Head) (c : StoreChange) → IsOfUid v → AddsNothing v → Makes v h c
    → list_all (is_earlier h) front ≡ true → list_all (is_earlier h) back ≡ true → counts (front ++ h ∷ back) h ≡ true
    → kept_from nothing_kept (map v (keeping (front ++ h ∷ back))) ≡ kept_after c (kept_from nothing_kept (map v (keeping (front ++ back))))
kept_with v front back h c uids adds makes before behind is =
    let p : Head → Bool = λ g. counts (front ++ back) g && not g.removal in
    ap (λ hs. kept_from nothing_kept (map v hs)) (keeping_with front back h before behind is
    ∙ ap (λ xs. xs ++ (if h.removal then filter (keeps_beside (front ++ back) h) back else h ∷ filter (keeps_beside (front ++ back) h)
    back))
    (sym (filter_twice p (beside h) front))
    ∙ ap (λ ys. filter (beside h) (filter p front) ++ (if h.removal then ys else h ∷ ys)) (sym (filter_twice p (beside h) back)))
    ∙ after_between v h (filter p front) (filter p back) c uids adds makes
    ∙ ap (λ hs. kept_after c (kept_from nothing_kept (map v hs))) (sym (filter-append p front back))
