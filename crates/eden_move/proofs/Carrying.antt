-- How the parts of a call make a whole call.
use Rattle.std.proofs.Common.{◌≡◌, ◌⊎◌, inl, inr, ℕ, suc, ◌≤◌, Bool, true, false, List, Option, None, Some, is_some, refl, sym, ◌∙◌, ap}
use Rattle.std.proofs.Common.{subst, arith}
use Rattle.std.specs.Prelude.{IsTrue, IfSome, Result, Ok, Err, MatchResult, IfOk, IfErr, OnOk, if◌then◌else◌, ◌==◌, ◌&&◌, nat_lt}
use Rattle.std.specs.Prelude.{nat_le}
use Rattle.std.specs.Option.{option_map}
use Rattle.capability.specs.declared.Uid.{Uid}
use Rattle.capability.specs.Uids.{uid_eq}
use Rattle.eden_value.specs.Datum.{Datum}
use Rattle.eden_value.specs.Limits.{IsValue}
use Rattle.passive_store.specs.declared.store.StoreRefusal.{StoreRefusal}
use Rattle.passive_store.specs.declared.store.StoreRefusal.TheVariants as store
use Rattle.passive_store.specs.Kept.{IsDiskRefusal, IsEarlyRefusal, body_at}
use Rattle.passive_store.specs.Seen.{Seen}
use Rattle.move_laws.specs.Wander.{Record, Here, Lent, Gone, Letter, Take, Known, generation}
use Rattle.move_laws.specs.World.{Node, Fails, Stops, harmed, Refused, Ended, Call, Due, Puts, Mind, Forgotten, Same}
use Rattle.move_laws.specs.World.{Learnt, minded, fallen}
use Rattle.move_laws.specs.World.{doubting, NoRoom, NoMemory, Cut, TooLong, Unsettled, Unread, Behind, settled_by}
use Rattle.move_laws.specs.World.{reads, due, due_by, needing_here, Done, Given, Declined, Answered}
use Rattle.move_laws.specs.World.{Make, Wake, Save, Lend, Again, TakeIt, CloseIt, save_by, lend_by, wake_by, again_by, take_by, close_by}
use Rattle.move_laws.specs.World.{keeping, GenerationsSpent, Refuses, Gives}
use Rattle.eden_move.specs.declared.refusal.MoveRefusal.{MoveRefusal}
use Rattle.eden_move.specs.declared.refusal.MoveRefusal.TheVariants.{Fault, OutOfMemory}
use Rattle.eden_move.specs.declared.refusal.MoveRefusal.TheVariants as coded
use Rattle.eden_move.specs.declared.due.Found.{Found}
use Rattle.std.proofs.lemmas.Bool.{eqb-false, leb-true, leb-false}
use Rattle.eden_move.specs.Records.{record_in, is_long, in_bounds, IsRecord}
use Rattle.eden_move.proofs.Recorded.{record-fits}
use Rattle.eden_move.specs.Minds.{Remembered, as_memory, as_active, mind_by}
use Rattle.eden_move.specs.Calls.{refusal_by, seen_refusal, Finds}
use Rattle.eden_move.specs.Shown.{key, IsWanderer, Shows, IsSettled, IsHarmed, Went, Acts, FoundIn, IsFitMind, IsFitMemory, IsFitCall}
use Rattle.eden_move.specs.Shown.{IsFitDue}

-- 1. Memory

-- the same memory
pub shows-mind-same : (s : Seen) (m n : Uid → Option Remembered) (x : Node Datum) → ((q : Uid) → n q ≡ m q) → Shows s m x → Shows s n x
shows-mind-same s m n x is z = record {
  kept = z.kept;
  doubt = z.doubt;
  active = λ up q. z.active up q ∙ ap as_active (sym (is q));
  memory = λ up q. z.memory up q ∙ ap as_memory (sym (is q));
  fit = λ q. subst (λ o. IfSome o (λ k. IsFitMemory k.generation k.value)) (sym (is q)) (z.fit q);
}

-- memory of which this became of one Eject
pub shows-mind : (s : Seen) (m n : Uid → Option Remembered) (x : Node Datum) (u : Uid) (b : Mind Datum) → IsFitMind b
    → ((q : Uid) → n q ≡ mind_by b u m q) → Shows s m x → Shows s n (minded b u x)
shows-mind s m n x u Same fits is z = shows-mind-same s m n x is z
shows-mind s m n x u Forgotten fits is z = record {
  kept = z.kept;
  doubt = z.doubt;
  active = λ up q. active q (uid_eq q u) (z.active up q) ∙ ap as_active (sym (is q));
  memory = λ up q. memory q (uid_eq q u) (z.memory up q) ∙ ap as_memory (sym (is q));
  fit = λ q. subst (λ o. IfSome o (λ k. IsFitMemory k.generation k.value)) (sym (is q)) (fit q (uid_eq q u));
}
  where
    active : (q : Uid) (b : Bool) → x.active q ≡ as_active (m q) → (if b then false else x.active q) ≡ as_active (if b then None else m q)
    active q true e = refl
    active q false e = e

    memory : (q : Uid) (b : Bool) → x.memory q ≡ as_memory (m q) → (if b then None else x.memory q) ≡ as_memory (if b then None else m q)
    memory q true e = refl
    memory q false e = e

    fit : (q : Uid) (b : Bool) → IfSome (if b then None else m q) (λ k. IsFitMemory k.generation k.value)
    fit q true = tt
    fit q false = z.fit q
shows-mind s m n x u (Learnt on g v) fits is z = record {
  kept = z.kept;
  doubt = z.doubt;
  active = λ up q. active q (uid_eq q u) (z.active up q) ∙ ap as_active (sym (is q));
  memory = λ up q. memory q (uid_eq q u) (z.memory up q) ∙ ap as_memory (sym (is q));
  fit = λ q. subst (λ o. IfSome o (λ k. IsFitMemory k.generation k.value)) (sym (is q)) (fit q (uid_eq q u));
}
  where
    known : Option Remembered
    known = Some (record { generation = g; value = v; active = on })

    active : (q : Uid) (b : Bool) → x.active q ≡ as_active (m q) → (if b then on else x.active q) ≡ as_active (if b then known else m q)
    active q true e = refl
    active q false e = e

    memory : (q : Uid) (b : Bool) → x.memory q ≡ as_memory (m q)
        → (if b then Some (g, v) else x.memory q) ≡ as_memory (if b then known else m q)
    memory q true e = refl
    memory q false e = e

    fit : (q : Uid) (b : Bool) → IfSome (if b then known else m q) (λ k. IsFitMemory k.generation k.value)
    fit q true = fits
    fit q false = z.fit q

-- the node went down
shows-fallen : (s : Seen) (m n : Uid → Option Remembered) (x : Node Datum) → ((q : Uid) → n q ≡ m q) → Shows s m x → Shows s n (fallen x)
shows-fallen s m n x is z = record {
  kept = z.kept;
  doubt = z.doubt;
  active = λ up q. absurd (cc up);
  memory = λ up q. absurd (cc up);
  fit = λ q. subst (λ o. IfSome o (λ k. IsFitMemory k.generation k.value)) (sym (is q)) (z.fit q);
}

-- 2. A device call that was refused

-- what the node forgets where a device call was refused
abbrev pub Forgets : Uid → MoveRefusal → (Uid → Option Remembered) → (Uid → Option Remembered) → Type 0
Forgets u e m n = e ≡ Fault → (q : Uid) → n q ≡ (if uid_eq q u then None else m q)

abbrev pub Keeps : MoveRefusal → (Uid → Option Remembered) → (Uid → Option Remembered) → Type 0
Keeps e m n = (e ≡ Fault → ⊥) → (q : Uid) → n q ≡ m q

pub harmed-by : (u : Uid) (x : Node Datum) (e : StoreRefusal) (s : Seen) (m n : Uid → Option Remembered) → IsDiskRefusal e → Shows s m x
    → Forgets u (refusal_by e) m n → Keeps (refusal_by e) m n → IsHarmed u x (refusal_by e) s n
harmed-by u x e s m n (inl is) z forgets keeps = (
  Fails,
  ap (λ r. seen_refusal (refusal_by r)) is,
  shows-mind s m n x u Forgotten tt (forgets (ap refusal_by is)) z,
)
harmed-by u x e s m n (inr is) z forgets keeps = (
  Stops,
  ap (λ r. seen_refusal (refusal_by r)) is,
  shows-fallen s m n x (keeps (λ f. absurd (cc (sym (ap refusal_by is) ∙ f)))) z,
)

pub read-refused : (u : Uid) (x : Node Datum) (e : StoreRefusal) (s : Seen) (m n : Uid → Option Remembered) → Shows s m x
    → (e ≡ store.OutOfMemory) ⊎ (IsDiskRefusal e × IsTrue (is_some (x.kept u))) → Forgets u (refusal_by e) m n → Keeps (refusal_by e) m n
    → ((refusal_by e ≡ OutOfMemory) × Shows s n x) ⊎ (IsTrue (is_some (x.kept u)) × IsHarmed u x (refusal_by e) s n)
read-refused u x e s m n z (inl is) forgets keeps = inl (
  ap refusal_by is,
  shows-mind-same s m n x (keeps (λ f. absurd (cc (sym (ap refusal_by is) ∙ f)))) z,
)
read-refused u x e s m n z (inr p) forgets keeps = inr (p.1, harmed-by u x e s m n p.0 z forgets keeps)

pub put-refused : (u : Uid) (r : Record Datum) (x : Node Datum) (e : StoreRefusal) (s : Seen) (m n : Uid → Option Remembered)
    → is_long r ≡ false → (IsEarlyRefusal e × Shows s m x) ⊎ (IsDiskRefusal e × Shows s m (doubting (Some (u, r)) x))
    → Forgets u (refusal_by e) m n → Keeps (refusal_by e) m n → (b : Mind Datum) (post : Option (Letter Datum))
    → Acts u (Puts r b post) x (Refused (seen_refusal (refusal_by e))) s n
put-refused u r x e s m n short (inl p) forgets keeps b post = go p.0
  where
    go : IsEarlyRefusal e → Acts u (Puts r b post) x (Refused (seen_refusal (refusal_by e))) s n
    go (inl is) = (
      x,
      NoRoom r b post refl short (ap (λ e. Refused (seen_refusal (refusal_by e))) is) refl,
      shows-mind-same s m n x (keeps (λ f. absurd (cc (sym (ap refusal_by is) ∙ f)))) p.1,
    )
    go (inr is) = (
      x,
      NoMemory (ap (λ e. Refused (seen_refusal (refusal_by e))) is) refl,
      shows-mind-same s m n x (keeps (λ f. absurd (cc (sym (ap refusal_by is) ∙ f)))) p.1,
    )
put-refused u r x e s m n short (inr p) forgets keeps b post =
    let h = harmed-by u (doubting (Some (u, r)) x) e s m n p.0 p.1 forgets keeps in
    (harmed h.0 u (doubting (Some (u, r)) x), Cut h.0 r b post refl short (ap Refused h.1) refl, h.2)

-- 3. What is found

pub unsettled-went : (u : Uid) (c : Call Datum) (x : Node Datum) (e : MoveRefusal) (s : Seen) (m : Uid → Option Remembered)
    → IsTrue (is_some x.doubt) × IsHarmed u x e s m → Went u c x (Refused (seen_refusal e)) s m
unsettled-went u c x e s m p = (harmed p.1.0 u x, Unsettled p.1.0 p.0 (ap Refused p.1.1) refl, p.1.2)

pub unread-went : (u : Uid) (c : Call Datum) (x : Node Datum) (e : MoveRefusal) (t s : Seen) (l m : Uid → Option Remembered)
    (z : IsSettled x t l)
    → ((e ≡ OutOfMemory) × Shows s m (settled_by z.pick x))
    ⊎ (IsTrue (is_some ((settled_by z.pick x).kept u)) × IsHarmed u (settled_by z.pick x) e s m)
    → reads c (x.memory u) ≡ true → Went u c x (Refused (seen_refusal e)) s m
unread-went u c x e t s l m z (inl p) is =
    (settled_by z.pick x, Behind z.pick z.settles (NoMemory (ap (λ e. Refused (seen_refusal e)) p.0) refl), p.1)
unread-went u c x e t s l m z (inr p) is =
    (harmed p.1.0 u (settled_by z.pick x), Unread z.pick z.settles p.1.0 p.0 is (ap Refused p.1.1) refl, p.1.2)

none-here : {A : Type 0} (f : List ℕ → A) (o : Option (List ℕ)) → is_some o ≡ false → option_map f o ≡ None
none-here f None e = refl
none-here f (Some b) e = absurd (cc e)

some-here : {A : Type 0} (f : List ℕ → A) (o : Option (List ℕ)) → is_some o ≡ true → IsTrue (is_some (option_map f o))
some-here f None e = absurd (cc e)
some-here f (Some b) e = refl

-- the store says whether there is a record
pub looks-none : (u : Uid) (x : Node Datum) (s : Seen) (m : Uid → Option Remembered) (n : ℕ) (q : Uid) (holds : Bool) → IsWanderer u
    → q ≡ key n u
    → n ≡ s.node → holds ≡ is_some (body_at s.kept q) → holds ≡ false → Shows s m x → (x.kept u ≡ None) × Shows s m x
looks-none u x s m n q holds w is of found not z = (
  z.kept u w
      ∙ none-here record_in (body_at s.kept (key s.node u)) (ap (λ k. is_some (body_at s.kept (key k u))) (sym of)
      ∙ ap (λ k. is_some (body_at s.kept k)) (sym is) ∙ sym found ∙ not),
  z,
)

pub looks-unread : (u : Uid) (x : Node Datum) (s : Seen) (m : Uid → Option Remembered) (n : ℕ) (q : Uid) (holds : Bool) → IsWanderer u
    → q ≡ key n u
    → n ≡ s.node → holds ≡ is_some (body_at s.kept q) → holds ≡ true → Shows s m x → IsTrue (is_some (x.kept u)) × Shows s m x
looks-unread u x s m n q holds w is of found so z = (
  subst (λ o. IsTrue (is_some o)) (sym (z.kept u w))
      (some-here record_in (body_at s.kept (key s.node u)) (ap (λ k. is_some (body_at s.kept (key k u))) (sym of)
      ∙ ap (λ k. is_some (body_at s.kept k)) (sym is) ∙ sym found ∙ so)),
  z,
)

pub looks-read : (result : Result Found MoveRefusal) (u : Uid) (x : Node Datum) (reading : Bool) (s : Seen) (m : Uid → Option Remembered)
    → reading ≡ true
    → MatchResult result (λ found. Finds found (x.kept u) × Shows s m x)
    (λ e. ((e ≡ OutOfMemory) × Shows s m x) ⊎ (IsTrue (is_some (x.kept u)) × IsHarmed u x e s m))
    → MatchResult result (λ found. Finds found (x.kept u) × Shows s m x)
    (λ e. (reading ≡ true) × (((e ≡ OutOfMemory) × Shows s m x) ⊎ (IsTrue (is_some (x.kept u)) × IsHarmed u x e s m)))
looks-read (Ok found) u x reading s m is p = p
looks-read (Err e) u x reading s m is p = (is, p)

-- 4. Behind a refusal

-- what holds of the refusal of a store and of what is seen of it holds behind the forgetting
pub behind-refused : (P : MoveRefusal → Seen → Type 0) (u : Uid) (e : StoreRefusal) (r : MoveRefusal) (s t : Seen)
    (m n : Uid → Option Remembered)
    → r ≡ refusal_by e → t ≡ s → Forgets u r m n → Keeps r m n
    → (Forgets u (refusal_by e) m n → Keeps (refusal_by e) m n → P (refusal_by e) s)
    → P r t
behind-refused P u e r s t m n is same forgets keeps f = subst (P r) (sym same)
    (subst (λ r. P r s) (sym is) (f (λ fault. forgets (is ∙ fault)) (λ never. keeps (λ fault. never (sym is ∙ fault)))))

-- what was read is what is kept
pub found-both : (result : Result Found MoveRefusal) (u : Uid) (x : Node Datum) (o : Option (List ℕ)) (s : Seen)
    (m : Uid → Option Remembered)
    → option_map record_in o ≡ x.kept u → IfOk result (λ found. Finds found (option_map record_in o)) → IfErr result (λ e. e ≡ OutOfMemory)
    → Shows s m x → MatchResult result (λ found. Finds found (x.kept u) × Shows s m x)
    (λ e. ((e ≡ OutOfMemory) × Shows s m x) ⊎ (IsTrue (is_some (x.kept u)) × IsHarmed u x e s m))
found-both (Ok found) u x o s m is finds only z = (subst (Finds found) is finds, z)
found-both (Err e) u x o s m is finds only z = inl (only, z)

-- the parts of looking for a record, behind the settling
pub finds-both : (result : Result Found MoveRefusal) (u : Uid) (x : Node Datum) (reading : Bool) (t s : Seen)
    (l m : Uid → Option Remembered)
    → OnOk result (m ≡ l) → (z : IsSettled x t l)
    → MatchResult result (λ found. Finds found ((settled_by z.pick x).kept u) × Shows s m (settled_by z.pick x))
    (λ e. (reading ≡ true) × (((e ≡ OutOfMemory) × Shows s m (settled_by z.pick x))
    ⊎ (IsTrue (is_some ((settled_by z.pick x).kept u)) × IsHarmed u (settled_by z.pick x) e s m)))
    → MatchResult result (λ found. FoundIn u x found s m)
    (λ e. (c : Call Datum) → (reading ≡ true → reads c (x.memory u) ≡ true) → Went u c x (Refused (seen_refusal e)) s m)
finds-both (Ok found) u x reading t s l m same z p = (
  record { pick = z.pick; settles = z.settles; none = z.none; up = z.up; shows = p.1 },
  p.0,
)
finds-both (Err e) u x reading t s l m same z p = λ c is. unread-went u c x e t s l m z p.1 (is p.0)

-- a record that is too long is not put
pub too-long : (u : Uid) (r : Record Datum) (x : Node Datum) (s : Seen) (m : Uid → Option Remembered) → is_long r ≡ true → Shows s m x
    → (b : Mind Datum) (post : Option (Letter Datum)) → Acts u (Puts r b post) x (Refused (seen_refusal coded.TooLarge)) s m
too-long u r x s m long z b post = (x, TooLong r b post refl long refl refl, z)

-- memory was wanting
pub no-memory : (u : Uid) (d : Due Datum) (x : Node Datum) (s : Seen) (m : Uid → Option Remembered) → Shows s m x
    → Acts u d x (Refused (seen_refusal OutOfMemory)) s m
no-memory u d x s m z = (x, NoMemory refl refl, z)

-- 5. A put, and what is learnt

pub put-done : (u : Uid) (r : Record Datum) (b : Mind Datum) (x : Node Datum) (s : Seen) (m n : Uid → Option Remembered)
    → is_long r ≡ false → IsFitMind b → ((q : Uid) → n q ≡ mind_by b u m q) → Shows s m (keeping u r x)
    → (post : Option (Letter Datum)) → Acts u (Puts r b post) x (Answered true post) s n
put-done u r b x s m n short fits is z post =
    (minded b u (keeping u r x), Done r b post refl short refl refl, shows-mind s m n (keeping u r x) u b fits is z)

-- where it was put, it was short enough
pub with-short : {T E S : Type 0} (result : Result T E) (P : Type 0) (Q : E → Type 0) → S → MatchResult result (λ _. P) Q
    → MatchResult result (λ _. S × P) Q
with-short (Ok done) P Q short p = (short, p)
with-short (Err e) P Q short p = p

pub given-done : (u : Uid) (b : Mind Datum) (post : Option (Letter Datum)) (x : Node Datum) (s : Seen) (m n : Uid → Option Remembered)
    → IsFitMind b → ((q : Uid) → n q ≡ mind_by b u m q) → Shows s m x → Acts u (Gives b post) x (Answered false post) s n
given-done u b post x s m n fits is z = (minded b u x, Given b post refl refl refl, shows-mind s m n x u b fits is z)

pub declined-done : (u : Uid) (r : MoveRefusal) (x : Node Datum) (s : Seen) (m : Uid → Option Remembered) → Shows s m x
    → Acts u (Refuses (seen_refusal r)) x (Refused (seen_refusal r)) s m
declined-done u r x s m z = (x, Declined (seen_refusal r) refl refl refl, z)

-- 6. A whole call

-- memory and record of the node are what the code had
pub due-same : (u : Uid) (c : Call Datum) (d : Due Datum) (x : Node Datum) (s : Seen) (m : Uid → Option Remembered) (o : Option Remembered)
    → x.up ≡ true → Shows s m x → o ≡ m u → d ≡ due_by c (x.kept u) (as_memory o) (as_active o) → d ≡ due u c x
due-same u c d x s m o up z is e = e ∙ ap (λ o. due_by c (x.kept u) (as_memory o) (as_active o)) is
    ∙ ap (λ p. due_by c (x.kept u) p (as_active (m u))) (sym (z.memory up u))
    ∙ ap (λ a. due_by c (x.kept u) (x.memory u) a) (sym (z.active up u))

-- the parts of a call, behind the settling
pub whole-call : (u : Uid) (c : Call Datum) (x : Node Datum) (how : Ended Datum) (t s : Seen) (l m : Uid → Option Remembered)
    (z : IsSettled x t l)
    → Acts u (due u c (settled_by z.pick x)) (settled_by z.pick x) how s m → Went u c x how s m
whole-call u c x how t s l m z a = (a.0, Behind z.pick z.settles a.1, a.2)

-- 7. What is due is within the limits

both-true : (a b : Bool) → (a && b) ≡ true → (a ≡ true) × (b ≡ true)
both-true true b e = (refl, e)
both-true false b e = absurd (cc e)

le-true : (a b : ℕ) → a ≤ b → nat_le a b ≡ true
le-true a b le = go (nat_le a b) refl
  where
    go : (t : Bool) → nat_le a b ≡ t → t ≡ true
    go true e = refl
    go false e = let l = leb-false a b e in absurd (omega (arith, l, le))

in-bounds : (g other : ℕ) → 1 ≤ g → g ≤ 4294967295 → other ≤ 8 → in_bounds g other ≡ true
in-bounds g other least most few =
    ap (λ b. b && (nat_le g 4294967295 && nat_le other 8)) (le-true 1 g least)
    ∙ ap (λ b. b && nat_le other 8) (le-true g 4294967295 most) ∙ le-true other 8 few

of-bounds : (g other : ℕ) → in_bounds g other ≡ true → (1 ≤ g) × (g ≤ 4294967295) × (other ≤ 8)
of-bounds g other bounds =
    let p = both-true (nat_le 1 g) (nat_le g 4294967295 && nat_le other 8) bounds in
    let q = both-true (nat_le g 4294967295) (nat_le other 8) p.1 in
    (leb-true 1 g p.0, leb-true g 4294967295 q.0, leb-true other 8 q.1)

at-no-other : (g other : ℕ) → in_bounds g other ≡ true → in_bounds g 0 ≡ true
at-no-other g other bounds = let p = of-bounds g other bounds in in-bounds g 0 p.0 p.1 (omega arith)

-- what is kept is within the limits
abbrev pub IsFitKept : Option (Option (Record Datum)) → Type 0
IsFitKept None = Unit {0}
IsFitKept (Some None) = Unit {0}
IsFitKept (Some (Some r)) = IsRecord r

abbrev pub IsFitKnown : Option Remembered → Type 0
IsFitKnown o = IfSome o (λ k. IsFitMemory k.generation k.value)

needed-fits : (k : Option (Option (Record Datum))) (o : Option Remembered) (f : ℕ → Datum → Due Datum) → IsFitKept k → IsFitKnown o
    → ((g : ℕ) (v : Datum) → IsFitMemory g v → IsFitDue (f g v)) → IsFitDue (needing_here k (as_memory o) f)
needed-fits None o f kept known each = tt
needed-fits (Some k) (Some m) f kept known each = each m.generation m.value known
needed-fits (Some None) None f kept known each = tt
needed-fits (Some (Some (Here g v))) None f kept known each = each g v kept
needed-fits (Some (Some (Lent g to v))) None f kept known each = tt
needed-fits (Some (Some (Gone g to))) None f kept known each = tt

save-fits : (v : Datum) (a : Bool) (g : ℕ) (w : Datum) → IsValue 4 v → IsFitMemory g w → IsFitDue (save_by v a g w)
save-fits v true g w is fits = ((fits.0, is), (fits.0, is), tt)
save-fits v false g w is fits = tt

lend-fits : (to g : ℕ) (v : Datum) → to ≤ 8 → IsFitMemory g v → IsFitDue (lend_by to g v)
lend-fits to g v few fits = go (g == 4294967295) refl
  where
    bounds : (g == 4294967295) ≡ false → (suc g ≤ 4294967295)
    bounds e = let d = eqb-false g 4294967295 e in let p = of-bounds g 0 fits.0 in grind (arith, d, p.1)

    go : (b : Bool) → (g == 4294967295) ≡ b
        → IsFitDue (if b then Refuses GenerationsSpent else Puts (Lent (suc g) to v) Forgotten (Some (Take to (suc g) v)))
    go true e = tt
    go false e = (
      (in-bounds (suc g) to (omega arith) (bounds e) few, fits.1),
      tt,
      (in-bounds (suc g) 0 (omega arith) (bounds e) (omega arith), fits.1),
    )

again-fits : (k : Option (Option (Record Datum))) → IsFitKept k → IsFitDue (again_by k)
again-fits None kept = tt
again-fits (Some None) kept = tt
again-fits (Some (Some (Here g v))) kept = tt
again-fits (Some (Some (Lent g to v))) kept = (tt, (at-no-other g to kept.0, kept.1))
again-fits (Some (Some (Gone g to))) kept = tt

take-fits : (from g : ℕ) (v : Datum) (k : Option (Option (Record Datum))) → IsFitMemory g v → IsFitDue (take_by from g v k)
take-fits from g v None fits = ((fits.0, fits.1), tt, fits.0)
take-fits from g v (Some None) fits = tt
take-fits from g v (Some (Some r)) fits = go (nat_lt (generation (Some r)) g)
  where
    go : (b : Bool) → IsFitDue (if b then Puts (Here g v) Forgotten (Some (Known from g)) else Gives Same (Some (Known from g)))
    go true = ((fits.0, fits.1), tt, fits.0)
    go false = (tt, fits.0)

close-fits : (g : ℕ) (k : Option (Option (Record Datum))) → IsFitKept k → IsFitDue (close_by g k)
close-fits g None kept = (tt, tt)
close-fits g (Some None) kept = tt
close-fits g (Some (Some (Here h v))) kept = (tt, tt)
close-fits g (Some (Some (Lent h to v))) kept = go (h == g)
  where
    go : (b : Bool) → IsFitDue (if b then Puts (Gone h to) Forgotten None else Gives Same None)
    go true = (kept.0, tt, tt)
    go false = (tt, tt)
close-fits g (Some (Some (Gone h to))) kept = (tt, tt)

pub due-fits : (c : Call Datum) (k : Option (Option (Record Datum))) (o : Option Remembered) (a : Bool) → IsFitCall c → IsFitKept k
    → IsFitKnown o
    → IsFitDue (due_by c k (as_memory o) a)
due-fits (Make v) None o a call kept known = ((refl, call), (refl, call), tt)
due-fits (Make v) (Some k) o a call kept known = tt
due-fits Wake k o a call kept known = needed-fits k None wake_by kept tt (λ g v fits. (fits, tt))
due-fits (Save v) k o a call kept known = needed-fits k o (save_by v a) kept known (λ g w fits. save-fits v a g w call fits)
due-fits (Lend to) k o a call kept known = needed-fits k o (lend_by to) kept known (λ g v fits. lend-fits to g v call fits)
due-fits Again k o a call kept known = again-fits k kept
due-fits (TakeIt from g v) k o a call kept known = take-fits from g v k call
due-fits (CloseIt from g) k o a call kept known = close-fits g k kept

-- what bytes spell is within the limits
read-kept-fits : (o : Option (List ℕ)) → IsFitKept (option_map record_in o)
read-kept-fits None = tt
read-kept-fits (Some body) = go (record_in body) refl
  where
    go : (r : Option (Record Datum)) → record_in body ≡ r → IsFitKept (Some r)
    go None e = tt
    go (Some r) e = record-fits body r e

pub kept-fits : (u : Uid) (x : Node Datum) (s : Seen) (m : Uid → Option Remembered) → IsWanderer u → Shows s m x → IsFitKept (x.kept u)
kept-fits u x s m w z = subst IsFitKept (sym (z.kept u w)) (read-kept-fits (body_at s.kept (key s.node u)))

-- a call whose due is known, behind the settling
pub fit-call : (u : Uid) (c : Call Datum) (d : Due Datum) (x : Node Datum) (s : Seen) (m : Uid → Option Remembered)
    (o : Option Remembered) → IsWanderer u
    → IsFitCall c → Shows s m x → o ≡ m u → d ≡ due_by c (x.kept u) (as_memory o) (as_active o) → IsFitDue d
fit-call u c d x s m o w call z is e =
    subst IsFitDue (sym e) (due-fits c (x.kept u) o (as_active o) call (kept-fits u x s m w z) (subst IsFitKnown (sym is) (z.fit u)))

-- whether a call reads, by what the code had
pub reads-same : (u : Uid) (c : Call Datum) (x : Node Datum) (o : Option Remembered) (m : Uid → Option Remembered) (b : Bool)
    → b ≡ reads c (as_memory o) → o ≡ m u → x.memory u ≡ as_memory (m u) → b ≡ true → reads c (x.memory u) ≡ true
reads-same u c x o m b is same memory so = ap (reads c) memory ∙ ap (λ o. reads c (as_memory o)) (sym same) ∙ sym is ∙ so
