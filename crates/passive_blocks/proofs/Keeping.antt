-- What holds of each change holds of all that they leave.
use Rattle.std.proofs.Common.{◌≡◌, ℕ, Bool, true, false, cond, List, [], ◌∷◌, refl, sym, ap, subst, ◌∙◌}
use Rattle.std.specs.Prelude.{◌&&◌, is_some, Option, None, Some, Result, Ok, Err, T}
use Rattle.std.specs.List.{AllByRecursion}
use Rattle.std.specs.FinMap as finite
use Rattle.std.specs.FinMap.{FinMap}
use Rattle.std.specs.FinMap.Entries.{find, is_sorted, below_all}
use Rattle.std.specs.Cmp.{tied_itself}
use Rattle.std.specs.Ordering.{eq_by_cmp, is_eq, is_lt}
use Rattle.std.specs.declared.cmp.Ordering.{Ordering}
use Rattle.std.specs.declared.cmp.Ordering.TheVariants.{Less, Equal, Greater}
use Rattle.std.proofs.lemmas.Bool.{false≢true}
use Rattle.capability.specs.declared.Uid.{Uid}
use Rattle.capability.specs.Uids.{uid_cmp}
use Rattle.capability.proofs.Uids.{uid_cmp_total, uid_cmp-IsAntisymmetric}
use Rattle.passive_store.specs.Kept.{StoreChange, Kept, nothing_kept, bodies_after, marks_after, kept_after, kept_from, kept_by}

-- each body that is kept stands under its uid in the relation R
abbrev pub KeepsOnly : (Uid → List ℕ → Type 0) → Kept → Type 0
KeepsOnly R kept = (uid : Uid) (body : List ℕ) → finite.get kept.bodies uid ≡ Some body → R uid body

-- and so does the body that a change gives
abbrev pub Gives : (Uid → List ℕ → Type 0) → StoreChange → Type 0
Gives R c = (body : List ℕ) → c.body ≡ Some body → R c.uid body

-- each of these changes has P, where they were found
abbrev pub EachOf : (StoreChange → Type 0) → Result (List StoreChange) ℕ → Type 0
EachOf P (Ok cs) = AllByRecursion P cs
EachOf P (Err place) = Unit {0}

pub body_now : (uid q : Uid) (body : Option (List ℕ)) (m : FinMap uid_cmp (List ℕ))
    → finite.get (bodies_after uid body m) q ≡ cond (eq_by_cmp uid_cmp q uid) body (finite.get m q)
body_now uid q None m = finite.get-remove uid_cmp_total m uid q
body_now uid q (Some body) m = finite.get-insert uid_cmp_total m uid body q

pub tied : (o : Ordering) → is_eq o ≡ true → o ≡ Equal
tied Less h = absurd (false≢true h)
tied Equal h = refl
tied Greater h = absurd (false≢true h)

by_choice : (R : Uid → List ℕ → Type 0) (uid q : Uid) (here : Bool) (new old : Option (List ℕ)) (body : List ℕ)
    → eq_by_cmp uid_cmp q uid ≡ here → ((b : List ℕ) → new ≡ Some b → R uid b) → ((b : List ℕ) → old ≡ Some b → R q b) →
    cond here new old ≡ Some body → R q body
by_choice R uid q true new old body e given before h =
    subst (λ u. R u body) (sym (uid_cmp-IsAntisymmetric q uid (tied (uid_cmp q uid) e))) (given body h)
by_choice R uid q false new old body e given before h = before body h

keeps_more : (R : Uid → List ℕ → Type 0) (c : StoreChange) (kept : Kept) → Gives R c → KeepsOnly R kept → KeepsOnly R (kept_after c kept)
keeps_more R c kept given before uid body h =
    by_choice R c.uid uid (eq_by_cmp uid_cmp uid c.uid) c.body (finite.get kept.bodies uid) body refl given (before uid)
    (sym (body_now c.uid uid c.body kept.bodies) ∙ h)

pub keeps_all : (R : Uid → List ℕ → Type 0) (cs : List StoreChange) (kept : Kept) → AllByRecursion (Gives R) cs → KeepsOnly R kept
    → KeepsOnly R (kept_from kept cs)
keeps_all R [] kept each before = before
keeps_all R (c ∷ cs) kept each before = keeps_all R cs (kept_after c kept) each.1 (keeps_more R c kept each.0 before)

pub keeps_nothing : (R : Uid → List ℕ → Type 0) → KeepsOnly R nothing_kept
keeps_nothing R uid body h = absurd (let bad : Option.None ≡ Some body = sym (finite.get-empty uid_cmp uid) ∙ h in cc)

pub keeps_found : (R : Uid → List ℕ → Type 0) (found : Result (List StoreChange) ℕ) (kept : Kept) → EachOf (Gives R) found
    → kept_by found ≡ Ok kept → KeepsOnly R kept
keeps_found R (Ok cs) kept each is =
    let same : kept_from nothing_kept cs ≡ kept = cc in
    subst (KeepsOnly R) same (keeps_all R cs nothing_kept each (keeps_nothing R))
keeps_found R (Err place) kept each is = absurd cc

-- what is kept has a mark
abbrev pub SameKeys : Kept → Type 0
SameKeys kept = (uid : Uid) → is_some (finite.get kept.marks uid) ≡ is_some (finite.get kept.bodies uid)

same_choice : (here : Bool) (a b : Option ℕ) (c d : Option (List ℕ)) → is_some a ≡ is_some c → is_some b ≡ is_some d
    → is_some (cond here a b) ≡ is_some (cond here c d)
same_choice true a b c d p q = p
same_choice false a b c d p q = q

same_after : (uid q : Uid) (body : Option (List ℕ)) (mark : ℕ) (marks : FinMap uid_cmp ℕ) (bodies : FinMap uid_cmp (List ℕ))
    → is_some (finite.get marks q) ≡ is_some (finite.get bodies q) →
    is_some (finite.get (marks_after uid body mark marks) q) ≡ is_some (finite.get (bodies_after uid body bodies) q)
same_after uid q None mark marks bodies same =
    ap is_some (finite.get-remove uid_cmp_total marks uid q)
    ∙ same_choice (eq_by_cmp uid_cmp q uid) None (finite.get marks q) None (finite.get bodies q) refl same
    ∙ sym (ap is_some (finite.get-remove uid_cmp_total bodies uid q))
same_after uid q (Some body) mark marks bodies same =
    ap is_some (finite.get-insert uid_cmp_total marks uid mark q)
    ∙ same_choice (eq_by_cmp uid_cmp q uid) (Some mark) (finite.get marks q) (Some body) (finite.get bodies q) refl same
    ∙ sym (ap is_some (finite.get-insert uid_cmp_total bodies uid body q))

pub same_all : (cs : List StoreChange) (kept : Kept) → SameKeys kept → SameKeys (kept_from kept cs)
same_all [] kept same = same
same_all (c ∷ cs) kept same = same_all cs (kept_after c kept) (λ uid. same_after c.uid uid c.body c.mark kept.marks kept.bodies (same uid))

pub same_nothing : SameKeys nothing_kept
same_nothing uid = ap is_some (finite.get-empty uid_cmp uid) ∙ sym (ap is_some (finite.get-empty uid_cmp uid))

pub same_found : (found : Result (List StoreChange) ℕ) (kept : Kept) → kept_by found ≡ Ok kept → SameKeys kept
same_found (Ok cs) kept is =
    let same : kept_from nothing_kept cs ≡ kept = cc in
    subst SameKeys same (same_all cs nothing_kept same_nothing)
same_found (Err place) kept is = absurd cc

-- each entry of a map has what each of its bodies has
less : (o : Ordering) → T (is_lt o) → o ≡ Less
less Less h = refl
less Equal h = absurd h
less Greater h = absurd h

pub left_part : (a b : Bool) → T (a && b) → T a
left_part true b h = tt
left_part false b h = absurd h

pub right_part : (a b : Bool) → T (a && b) → T b
right_part true b h = h
right_part false b h = absurd h

pub found_above : (uid : Uid) (es : List (Uid × List ℕ)) → T (below_all uid_cmp uid es) → find uid_cmp uid es ≡ None
found_above uid [] h = refl
found_above uid (e ∷ es) h =
    ap (λ o. cond (is_eq o) (Some e.1) (find uid_cmp uid es))
    (less (uid_cmp uid e.0) (left_part (is_lt (uid_cmp uid e.0)) (below_all uid_cmp uid es) h))
    ∙ found_above uid es (right_part (is_lt (uid_cmp uid e.0)) (below_all uid_cmp uid es) h)

found_behind : (uid : Uid) (e : Uid × List ℕ) (es : List (Uid × List ℕ)) (body : List ℕ) (here : Bool)
    → eq_by_cmp uid_cmp uid e.0 ≡ here → T (below_all uid_cmp e.0 es) → find uid_cmp uid es ≡ Some body →
    cond here (Some e.1) (find uid_cmp uid es) ≡ Some body
found_behind uid e es body false is below h = h
found_behind uid e es body true is below h =
    let same : uid ≡ e.0 = uid_cmp-IsAntisymmetric uid e.0 (tied (uid_cmp uid e.0) is) in
    let none : find uid_cmp uid es ≡ None = ap (λ u. find uid_cmp u es) same ∙ found_above e.0 es below in
    absurd (let bad : Option.None ≡ Some body = sym none ∙ h in cc)

each_sorted : (R : Uid → List ℕ → Type 0) (es : List (Uid × List ℕ)) → T (is_sorted uid_cmp es)
    → ((uid : Uid) (body : List ℕ) → find uid_cmp uid es ≡ Some body → R uid body) → AllByRecursion (λ (e : Uid × List ℕ). R e.0 e.1) es
each_sorted R [] sorted has = tt
each_sorted R (e ∷ es) sorted has = (
  has e.0 e.1 (ap (λ o. cond (is_eq o) (Some e.1) (find uid_cmp e.0 es)) (tied_itself uid_cmp_total e.0)),
  each_sorted R es (right_part (below_all uid_cmp e.0 es) (is_sorted uid_cmp es) sorted) (λ uid body h.
      has uid body (found_behind uid e es body (eq_by_cmp uid_cmp uid e.0) refl
      (left_part (below_all uid_cmp e.0 es) (is_sorted uid_cmp es) sorted) h)),
)

pub each_entry : (R : Uid → List ℕ → Type 0) (kept : Kept) → KeepsOnly R kept
    → AllByRecursion (λ (e : Uid × List ℕ). R e.0 e.1) (finite.entries kept.bodies)
each_entry R kept keeps =
    each_sorted R (finite.entries kept.bodies) (finite.entries_sorted kept.bodies)
    (λ uid body h. keeps uid body (finite.get-entries kept.bodies uid ∙ h))
