-- Keys that are appended one behind another.
use Rattle.std.proofs.Common.{◌≡◌, ◌<◌, ◌≤◌, ◌-◌, ℕ, nat_lt, Bool, true, false, cond, ◌&&◌, List, [], ◌∷◌, ◌++◌, map, Option, None}
use Rattle.std.proofs.Common.{Some}
use Rattle.std.proofs.Common.{refl, sym, ◌∙◌, ap, append_assoc, subst, arith}
use Rattle.std.proofs.lemmas.List.{append-nil}
use Rattle.std.specs.Prelude.{IfSome}
use Rattle.std.specs.List.{filter}
use Rattle.std.proofs.lemmas.Bool.Decides.{nat_tests}
use Rattle.capability.specs.declared.Uid.{Uid}
use Rattle.coordinator.specs.Ready.{is_ready as waits_for_nothing, is_ready_past, next_ready, AscendPast}
use Rattle.eden_model.specs.Crew.{Process}
use Rattle.eden_model.specs.Map.{with_item}
use Rattle.journal.specs.declared.event.Key.{Key}
use Rattle.journal.specs.Enabled.{activity, is_ready}
use Rattle.active_part.specs.Body.{Body}
use Rattle.ejects.proofs.Marked.{same-ready}
use Rattle.agenda.specs.Keys.{run_keys_of}

-- 1. One key more, of what is left

pub one-more : {X : Type 0} (all done : List X) (x : X) (left : List X) → done ++ x ∷ left ≡ all → (done ++ x ∷ []) ++ left ≡ all
one-more all done x left is = append_assoc done (x ∷ []) left ∙ is

pub some-more : {X : Type 0} (all done xs left : List X) → done ++ (xs ++ left) ≡ all → (done ++ xs) ++ left ≡ all
some-more all done xs left is = append_assoc done xs left ∙ is

pub none-more : {X : Type 0} (all done : List X) → done ++ [] ≡ all → done ≡ all
none-more all done is = sym (append-nil done) ∙ is

-- 2. The processes of an Eject past one

abbrev pub entries_past : ℕ → List (ℕ × Process) → List (ℕ × Process)
entries_past n ps = filter (is_ready_past n) ps

abbrev pub keys_past : Uid → ℕ → Option Body → List Key
keys_past u n None = []
keys_past u n (Some b) = map (λ q. activity u.node 4 u q.0) (entries_past n b.crew.crew.processes)

-- past none are all that wait for nothing
past-none : (n : ℕ) (ps : List (ℕ × Process)) → AscendPast n ps → entries_past 0 ps ≡ filter (λ q. is_ready q.1.waits) ps
past-none n [] h = refl
past-none n (e ∷ es) h =
    let above : n < e.0 = h.0 in
    let some : nat_lt 0 e.0 ≡ true = grind (arith, nat_tests, above) in
    rw some (go (waits_for_nothing e.1.waits) (is_ready e.1.waits) (same-ready e.1.waits) (past-none e.0 es h.2))
  where
    go : (b c : Bool) → b ≡ c → entries_past 0 es ≡ filter (λ q. is_ready q.1.waits) es
        → cond b (e ∷ entries_past 0 es) (entries_past 0 es)
        ≡ cond c (e ∷ filter (λ q. is_ready q.1.waits) es) (filter (λ q. is_ready q.1.waits) es)
    go b c same ih = ap (λ x. cond x (e ∷ entries_past 0 es) (entries_past 0 es)) same ∙ ap (λ l. cond c (e ∷ l) l) ih

-- what ascends from past a number ascends from past a smaller one
lower : (k m : ℕ) (ps : List (ℕ × Process)) → m ≤ k → AscendPast k ps → AscendPast m ps
lower k m [] le h = tt
lower k m (e ∷ es) le h = let above : k < e.0 = h.0 in (omega (arith, le, above), h.1, h.2)

-- where the numbers ascend from past m, what lies past a smaller number lies past m too
same-past : (n m : ℕ) (ps : List (ℕ × Process)) → n ≤ m → AscendPast m ps → entries_past n ps ≡ entries_past m ps
same-past n m [] le h = refl
same-past n m (e ∷ es) le h =
    let above : m < e.0 = h.0 in
    let past-n : nat_lt n e.0 ≡ true = grind (arith, nat_tests, le, above) in
    let past-m : nat_lt m e.0 ≡ true = grind (arith, nat_tests, above) in
    rw (past-n, past-m) (ap (λ l. cond (waits_for_nothing e.1.waits) (e ∷ l) l)
    (same-past n m es le (lower e.0 m es (omega (arith, above)) h.2)))

-- the next one past n, and those past it
pub record IsNext (m n p : ℕ) (ps : List (ℕ × Process)) : Type 0 where
  pub entry : ℕ × Process
  pub number : entry.0 ≡ p
  pub above : m < p
  pub later : n < p
  pub small : p ≤ 16
  pub entries : entries_past n ps ≡ entry ∷ entries_past p ps

pub next-is : (m n p : ℕ) (ps : List (ℕ × Process)) → AscendPast m ps → next_ready n ps ≡ Some p → IsNext m n p ps
next-is m n p [] h is = absurd (let bad : None ≡ Some p = is in cc bad)
next-is m n p (e ∷ es) h is = go (nat_lt n e.0) refl (waits_for_nothing e.1.waits) refl is (next-is e.0 n p es h.2)
  where
    above : m < e.0
    above = h.0

    found : (b : Bool) → (nat_lt n e.0 && waits_for_nothing e.1.waits) ≡ b → next_ready n (e ∷ es) ≡ cond b (Some e.0) (next_ready n es)
    found true at = rw at refl
    found false at = rw at refl

    listed : (k : ℕ) (b : Bool) → (nat_lt k e.0 && waits_for_nothing e.1.waits) ≡ b
        → entries_past k (e ∷ es) ≡ cond b (e ∷ entries_past k es) (entries_past k es)
    listed k b at = ap (λ x. cond x (e ∷ entries_past k es) (entries_past k es)) at

    both-false : (x y : Bool) → x ≡ false → (x && y) ≡ false
    both-false x y off = ap (λ z. z && y) off

    skip : (k : ℕ) → e.0 ≤ k → entries_past k (e ∷ es) ≡ entries_past k es
    skip k le = let off : nat_lt k e.0 ≡ false = grind (arith, nat_tests, le) in
        listed k false (both-false (nat_lt k e.0) (waits_for_nothing e.1.waits) off)

    here : nat_lt n e.0 ≡ true → (nat_lt n e.0 && waits_for_nothing e.1.waits) ≡ true → next_ready n (e ∷ es) ≡ Some p
        → IsNext m n p (e ∷ es)
    here lt at is =
        let less : n < e.0 = grind (arith, nat_tests, lt) in
        let same : e.0 ≡ p = (let x : Some e.0 ≡ Some p = sym (found true at) ∙ is in cc x) in
        subst (λ k. IsNext m n k (e ∷ es)) same (record {
          entry = e;
          number = refl;
          above = above;
          later = less;
          small = h.1;
          entries = listed n true at ∙ ap (λ l. e ∷ l) (same-past n e.0 es (omega (arith, less)) h.2 ∙ sym (skip e.0 (omega arith)));
        })

    there : (nat_lt n e.0 && waits_for_nothing e.1.waits) ≡ false → next_ready n (e ∷ es) ≡ Some p
        → (next_ready n es ≡ Some p → IsNext e.0 n p es) → IsNext m n p (e ∷ es)
    there at is ih =
        let f = ih (sym (found false at) ∙ is) in
        let past : e.0 < p = f.above in
        record {
          entry = f.entry;
          number = f.number;
          above = omega (arith, above, past);
          later = f.later;
          small = f.small;
          entries = listed n false at ∙ f.entries ∙ ap (λ l. f.entry ∷ l) (sym (skip p (omega (arith, past))));
        }

    go : (a : Bool) → nat_lt n e.0 ≡ a → (b : Bool) → waits_for_nothing e.1.waits ≡ b → next_ready n (e ∷ es) ≡ Some p
        → (next_ready n es ≡ Some p → IsNext e.0 n p es) → IsNext m n p (e ∷ es)
    go true lt true waits is ih = here lt (rw (lt, waits) refl) is
    go true lt false waits is ih = there (rw (lt, waits) refl) is ih
    go false lt b waits is ih = there (rw lt refl) is ih

-- and where there is none
pub past-all : (n : ℕ) (ps : List (ℕ × Process)) → next_ready n ps ≡ None → entries_past n ps ≡ []
past-all n [] is = refl
past-all n (e ∷ es) is = go (is_ready_past n e) refl is (past-all n es)
  where
    go : (b : Bool) → is_ready_past n e ≡ b → next_ready n (e ∷ es) ≡ None → (next_ready n es ≡ None → entries_past n es ≡ [])
        → entries_past n (e ∷ es) ≡ []
    go true at is ih = absurd (let bad : Some e.0 ≡ None = (rw at at is) in cc bad)
    go false at is ih = rw at (ih (rw at at is))

-- 3. In an Eject

pub first-keys : (u : Uid) (o : Option Body) → IfSome o (λ b. AscendPast 0 b.crew.crew.processes) → keys_past u 0 o ≡ run_keys_of u o
first-keys u None h = refl
first-keys u (Some b) h = ap (map (λ (q : ℕ × Process). activity u.node 4 u q.0)) (past-none 0 b.crew.crew.processes h)

abbrev next_of : ℕ → Option Body → Option ℕ
next_of n o = with_item o (λ b. next_ready n b.crew.crew.processes) None

more-keys : (u : Uid) (o : Option Body) (n p : ℕ) → IfSome o (λ b. AscendPast 0 b.crew.crew.processes) → next_of n o ≡ Some p
    → keys_past u n o ≡ activity u.node 4 u p ∷ keys_past u p o
more-keys u None n p h is = absurd (let bad : None ≡ Some p = is in cc bad)
more-keys u (Some b) n p h is =
    let f = next-is 0 n p b.crew.crew.processes h is in
    ap (map (λ (q : ℕ × Process). activity u.node 4 u q.0)) f.entries
    ∙ ap (λ k. activity u.node 4 u k ∷ keys_past u p (Some b)) f.number

no-keys : (u : Uid) (o : Option Body) (n : ℕ) → next_of n o ≡ None → keys_past u n o ≡ []
no-keys u None n is = refl
no-keys u (Some b) n is = ap (map (λ (q : ℕ × Process). activity u.node 4 u q.0)) (past-all n b.crew.crew.processes is)

pub nothing-next : (o : Option ℕ) → ((p : ℕ) → o ≡ Some p → ⊥) → o ≡ None
nothing-next None h = refl
nothing-next (Some p) h = absurd (h p refl)

-- the keys from the next one on
abbrev pub keys_from : Uid → Option ℕ → Option Body → List Key
keys_from u None o = []
keys_from u (Some p) o = activity u.node 4 u p ∷ keys_past u p o

pub next-keys : (u : Uid) (o : Option Body) (n : ℕ) (next : Option ℕ) → IfSome o (λ b. AscendPast 0 b.crew.crew.processes)
    → next ≡ next_of n o → keys_past u n o ≡ keys_from u next o
next-keys u o n None h is = no-keys u o n (sym is)
next-keys u o n (Some p) h is = more-keys u o n p h (sym is)

pub small-next : (o : Option Body) (n : ℕ) (next : Option ℕ) → IfSome o (λ b. AscendPast 0 b.crew.crew.processes) → next ≡ next_of n o
    → IfSome next (λ p. p ≤ 16)
small-next o n None h is = tt
small-next None n (Some p) h is = absurd (let bad : Some p ≡ None = is in cc bad)
small-next (Some b) n (Some p) h is = (next-is 0 n p b.crew.crew.processes h (sym is)).small

-- how many may follow
abbrev pub left_of : Option ℕ → ℕ
left_of None = 0
left_of (Some p) = 17 - p

pub fewer-left : (o : Option Body) (p : ℕ) (now next : Option ℕ) → IfSome o (λ b. AscendPast 0 b.crew.crew.processes) → now ≡ Some p
    → IfSome now (λ p. p ≤ 16) → next ≡ next_of p o → left_of next < left_of now
fewer-left o p now next h at small is = subst (λ x. left_of next < left_of x) (sym at)
    (go next is (subst (λ x. IfSome x (λ p. p ≤ 16)) at small))
  where
    go : (next : Option ℕ) → next ≡ next_of p o → p ≤ 16 → left_of next < 17 - p
    go None is small = omega (arith, small)
    go (Some q) is small = let later : p < q = number o h is in omega (arith, small, later)
      where
        number : (o : Option Body) → IfSome o (λ b. AscendPast 0 b.crew.crew.processes) → Some q ≡ next_of p o → p < q
        number None h is = absurd (let bad : Some q ≡ None = is in cc bad)
        number (Some b) h is = (next-is 0 p q b.crew.crew.processes h (sym is)).later
