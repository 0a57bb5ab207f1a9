-- What a log keeps, by what its records are.
use Rattle.std.proofs.Common.{◌≡◌, ◌⊎◌, ℕ, suc, zero, ◌+◌, ◌≤◌, ◌<◌, ◌^◌, Bool, true, false, cond, List, [], ◌∷◌, ◌++◌, length, take}
use Rattle.std.proofs.Common.{drop, map, get_or, refl, sym, ap, subst, ◌∙◌, inl, inr, arith, append_assoc, append-nil}
use Rattle.std.specs.Prelude.{◌==◌, ◌&&◌, ◌||◌, not, nat_le, nat_lt, is_some, Option, None, Some, Result, Ok, Err, All, slice_index}
use Rattle.std.specs.Prelude.{slice_range, if◌then◌else◌}
use Rattle.std.specs.List.{AllByRecursion}
use Rattle.std.specs.FinMap as finite
use Rattle.std.specs.FinMap.{FinMap}
use Rattle.std.specs.Int.{w32, from_be_bytes}
use Rattle.std.specs.Ordering.{eq_by_cmp, is_eq}
use Rattle.std.specs.declared.cmp.Ordering.{Ordering}
use Rattle.std.specs.declared.cmp.Ordering.TheVariants.{Less, Equal, Greater}
use Rattle.std.proofs.lemmas.Bool.{cases_lt, false≢true}
use Rattle.std.proofs.lemmas.Bool.Decides.{nat_tests}
use Rattle.std.proofs.lemmas.List.{length-take-le, length-drop, get_or-drop}
use Rattle.std.proofs.lemmas.Nat.{be_bytes_4}
use Rattle.capability.specs.declared.Uid.{Uid}
use Rattle.capability.specs.Uids.{uid_cmp}
use Rattle.capability.proofs.Uids.{uid_cmp_total, uid_cmp-IsAntisymmetric}
use Rattle.passive_store.specs.Kept.{StoreChange, Kept, IsOwn, reserved_uid, nothing_kept, bodies_after, marks_after, kept_after, kept_from}
use Rattle.passive_store.specs.Kept.{kept_by}
use Rattle.passive_store.specs.Log.{length_of, uid_of, kind_of, log_grows, is_record, record_of, with_record, records_behind, records_of}
use Rattle.passive_store.specs.Log.{log_map}
use Rattle.passive_store.specs.Layout.{IsLayout}
use Rattle.passive_store.specs.LogLayout.{log_layout, log_kept, log_opening, records_or_none, records_before, body_length}
use Rattle.passive_store.proofs.Parsing.{split_test}
use Rattle.passive_store.proofs.Openings.{opening_is}

-- each record that was found has P
abbrev pub EachOf : (StoreChange → Type 0) → Result (List StoreChange) ℕ → Type 0
EachOf P (Ok rs) = AllByRecursion P rs
EachOf P (Err place) = Unit {0}

with_each : (P : StoreChange → Type 0) (r : StoreChange) (found : Result (List StoreChange) ℕ) → P r → EachOf P found
    → EachOf P (with_record r found)
with_each P r (Ok rs) p each = (p, each)
with_each P r (Err place) p each = tt

by_gate : (P : StoreChange → Type 0) (stands good : Bool) (r : StoreChange) (found : Result (List StoreChange) ℕ) (place : ℕ)
    → (good ≡ true → P r) → EachOf P found →
    EachOf P (if stands then (if good then with_record r found else Err place) else Ok [])
by_gate P false good r found place p each = tt
by_gate P true false r found place p each = tt
by_gate P true true r found place p each = with_each P r found (p refl) each

-- What holds of each record by its bytes holds of all that a walk finds.
pub records_each : (P : StoreChange → Type 0) (Q : List ℕ → Type 0) (node : ℕ) → ((byte : ℕ) (bytes : List ℕ) → Q (byte ∷ bytes) → Q bytes)
    → ((place : ℕ) (bytes : List ℕ) → Q bytes → is_record node bytes ≡ true → P (record_of place bytes)) →
    (skip place : ℕ) (bytes : List ℕ) → Q bytes → EachOf P (records_behind node skip place bytes)
unfolding records_behind
records_each P Q node rest each skip place [] q = tt
records_each P Q node rest each (suc skip) place (byte ∷ bytes) q =
    records_each P Q node rest each skip (place + 1) bytes (rest byte bytes q)
records_each P Q node rest each zero place (gate ∷ bytes) q =
    by_gate P (gate == 225) (is_record node bytes) (record_of place bytes) (records_behind node (14 + length_of bytes) (place + 1) bytes)
    place
    (λ good. each place bytes (rest gate bytes q) good)
    (records_each P Q node rest each (14 + length_of bytes) (place + 1) bytes (rest gate bytes q))

each_or_none : (P : StoreChange → Type 0) (found : Result (List StoreChange) ℕ) → EachOf P found → AllByRecursion P (records_or_none found)
each_or_none P (Ok rs) each = each
each_or_none P (Err place) each = tt

-- the ledger of a log is the lengths of its bodies
ledger_from : (rs : List StoreChange) (kept : Kept) → AllByRecursion (λ (c : StoreChange). c.wrote ≡ log_grows c.body) rs
    → (kept_from kept rs).ledger ≡ kept.ledger ++ map body_length rs
ledger_from [] kept each = sym (append-nil kept.ledger)
ledger_from (r ∷ rs) kept each = ledger_from rs (kept_after r kept) each.1 ∙ ap (λ w. (kept.ledger ++ w) ++ map body_length rs) each.0
    ∙ append_assoc kept.ledger (body_length r ∷ []) (map body_length rs)

pub log_ledger : (node tail : ℕ) (bytes : List ℕ) → (log_kept node tail bytes).ledger ≡ map body_length (records_before node tail bytes)
log_ledger node tail bytes =
    ledger_from (records_before node tail bytes) nothing_kept
    (each_or_none (λ (c : StoreChange). c.wrote ≡ log_grows c.body) (records_of node (take tail bytes ++ 0 ∷ []))
    (records_each (λ (c : StoreChange). c.wrote ≡ log_grows c.body) (λ bs. Unit {0}) node (λ byte bs q. tt) (λ place bs q good. refl) 16 0
    (take tail bytes ++ 0 ∷ []) tt))

-- each body that is kept stands under its uid in the relation R
abbrev pub KeepsOnly : (Uid → List ℕ → Type 0) → Kept → Type 0
KeepsOnly R kept = (uid : Uid) (body : List ℕ) → finite.get kept.bodies uid ≡ Some body → R uid body

abbrev Gives : (Uid → List ℕ → Type 0) → StoreChange → Type 0
Gives R c = (body : List ℕ) → c.body ≡ Some body → R c.uid body

body_now : (uid q : Uid) (body : Option (List ℕ)) (m : FinMap uid_cmp (List ℕ))
    → finite.get (bodies_after uid body m) q ≡ cond (eq_by_cmp uid_cmp q uid) body (finite.get m q)
body_now uid q None m = finite.get-remove uid_cmp_total m uid q
body_now uid q (Some body) m = finite.get-insert uid_cmp_total m uid body q

tied : (o : Ordering) → is_eq o ≡ true → o ≡ Equal
tied Less h = absurd (false≢true h)
tied Equal h = refl
tied Greater h = absurd (false≢true h)

by_choice : (R : Uid → List ℕ → Type 0) (uid q : Uid) (here : Bool) (new old : Option (List ℕ)) (body : List ℕ)
    → eq_by_cmp uid_cmp q uid ≡ here → ((b : List ℕ) → new ≡ Some b → R uid b) → ((b : List ℕ) → old ≡ Some b → R q b) →
    cond here new old ≡ Some body → R q body
by_choice R uid q true new old body e given before h =
    subst (λ u. R u body) (sym (uid_cmp-IsAntisymmetric q uid (tied (uid_cmp q uid) e))) (given body h)
by_choice R uid q false new old body e given before h = before body h

keeps_more : (R : Uid → List ℕ → Type 0) (c : StoreChange) (kept : Kept) → Gives R c → KeepsOnly R kept → KeepsOnly R (kept_after c kept)
keeps_more R c kept given before uid body h =
    by_choice R c.uid uid (eq_by_cmp uid_cmp uid c.uid) c.body (finite.get kept.bodies uid) body refl given (before uid)
    (sym (body_now c.uid uid c.body kept.bodies) ∙ h)

keeps_all : (R : Uid → List ℕ → Type 0) (rs : List StoreChange) (kept : Kept) → AllByRecursion (Gives R) rs → KeepsOnly R kept
    → KeepsOnly R (kept_from kept rs)
keeps_all R [] kept each before = before
keeps_all R (r ∷ rs) kept each before = keeps_all R rs (kept_after r kept) each.1 (keeps_more R r kept each.0 before)

keeps_nothing : (R : Uid → List ℕ → Type 0) → KeepsOnly R nothing_kept
keeps_nothing R uid body h = absurd (let bad : Option.None ≡ Some body = sym (finite.get-empty uid_cmp uid) ∙ h in cc)

-- what is kept has a mark
abbrev SameKeys : Kept → Type 0
SameKeys kept = (uid : Uid) → is_some (finite.get kept.marks uid) ≡ is_some (finite.get kept.bodies uid)

same_choice : (here : Bool) (a b : Option ℕ) (c d : Option (List ℕ)) → is_some a ≡ is_some c → is_some b ≡ is_some d
    → is_some (cond here a b) ≡ is_some (cond here c d)
same_choice true a b c d p q = p
same_choice false a b c d p q = q

same_after : (uid q : Uid) (body : Option (List ℕ)) (mark : ℕ) (marks : FinMap uid_cmp ℕ) (bodies : FinMap uid_cmp (List ℕ))
    → is_some (finite.get marks q) ≡ is_some (finite.get bodies q) →
    is_some (finite.get (marks_after uid body mark marks) q) ≡ is_some (finite.get (bodies_after uid body bodies) q)
same_after uid q None mark marks bodies same =
    ap is_some (finite.get-remove uid_cmp_total marks uid q)
    ∙ same_choice (eq_by_cmp uid_cmp q uid) None (finite.get marks q) None (finite.get bodies q) refl same
    ∙ sym (ap is_some (finite.get-remove uid_cmp_total bodies uid q))
same_after uid q (Some body) mark marks bodies same =
    ap is_some (finite.get-insert uid_cmp_total marks uid mark q)
    ∙ same_choice (eq_by_cmp uid_cmp q uid) (Some mark) (finite.get marks q) (Some body) (finite.get bodies q) refl same
    ∙ sym (ap is_some (finite.get-insert uid_cmp_total bodies uid body q))

same_all : (rs : List StoreChange) (kept : Kept) → SameKeys kept → SameKeys (kept_from kept rs)
same_all [] kept same = same
same_all (r ∷ rs) kept same = same_all rs (kept_after r kept) (λ uid. same_after r.uid uid r.body r.mark kept.marks kept.bodies (same uid))

same_nothing : SameKeys nothing_kept
same_nothing uid = ap is_some (finite.get-empty uid_cmp uid) ∙ sym (ap is_some (finite.get-empty uid_cmp uid))

-- the fields of a record, as numbers
abbrev FieldsPass : ℕ → ℕ → ℕ → ℕ → ℕ → ℕ → Type 0
FieldsPass node size unode epoch serial kind =
    (nat_le size 262144 && (kind == 1 || (kind == 2 && size == 0)) && unode == node &&
    ((epoch == 0 && serial == 0 && kind == 1 && size == 4) || (not (epoch == 0) && not (serial == 0)))) ≡ true

limit_of : (node size unode epoch serial kind : ℕ) → FieldsPass node size unode epoch serial kind → size ≤ 262144
limit_of node size unode epoch serial kind h = grind (arith, nat_tests)

node_of : (node size unode epoch serial kind : ℕ) → FieldsPass node size unode epoch serial kind → unode ≡ node
node_of node size unode epoch serial kind h = grind (arith, nat_tests)

reserved_of : (node size unode epoch serial kind : ℕ) → FieldsPass node size unode epoch serial kind → epoch ≡ 0 → (epoch ≡ 0)
    × (serial ≡ 0) × (size ≡ 4)
reserved_of node size unode epoch serial kind h none = (none, grind (arith, nat_tests), grind (arith, nat_tests))

eject_of : (node size unode epoch serial kind : ℕ) → FieldsPass node size unode epoch serial kind → 1 ≤ epoch → (1 ≤ epoch) × (1 ≤ serial)
eject_of node size unode epoch serial kind h some = (some, grind (arith, nat_tests))

own_of : (node size unode epoch serial kind : ℕ) → FieldsPass node size unode epoch serial kind → ((1 ≤ epoch) × (1 ≤ serial))
    ⊎ ((epoch ≡ 0) × (serial ≡ 0) × (size ≡ 4))
own_of node size unode epoch serial kind h = elim (cases_lt 0 epoch) [
  | inl some ↦ inl (eject_of node size unode epoch serial kind h (omega (arith, some)))
  | inr none ↦ inr (reserved_of node size unode epoch serial kind h (omega (arith, none)))
]

-- the body of a record
body_part : (b : Bool) (part body : List ℕ) → (if b then Some part else None) ≡ Some body → part ≡ body
body_part true part body e = cc
body_part false part body e = absurd cc

part_long : (n : ℕ) (bytes : List ℕ) → 14 + n + 1 ≤ length bytes → length (slice_range bytes 14 (14 + n)) ≡ n
part_long n bytes fits = ap (λ m. length (take m (drop 14 bytes))) (omega arith)
    ∙ length-take-le n (drop 14 bytes) (omega (arith, fits, length-drop 14 bytes))

-- of a node, within the limit
abbrev pub IsOwnBody : ℕ → Uid → List ℕ → Type 0
IsOwnBody node uid body = IsOwn node uid (length body) × (length body ≤ 262144)

record_owns : (node place : ℕ) (bytes : List ℕ) → is_record node bytes ≡ true → Gives (IsOwnBody node) (record_of place bytes)
record_owns node place bytes good body is =
    let t = split_test node bytes good in
    let n : ℕ = length_of bytes in
    let u : Uid = uid_of bytes in
    let long : length body ≡ n = sym (ap length (body_part (kind_of bytes == 1) (slice_range bytes 14 (14 + n)) body is))
    ∙ part_long n bytes t.0 in
    subst (λ m. IsOwn node u m × (m ≤ 262144)) (sym long) (
      (node_of node n u.node u.epoch u.serial (kind_of bytes) t.1, own_of node n u.node u.epoch u.serial (kind_of bytes) t.1),
      limit_of
          node n u.node u.epoch u.serial (kind_of bytes) t.1,
    )

owned_each : (node : ℕ) (bytes : List ℕ) → EachOf (Gives (IsOwnBody node)) (records_of node bytes)
owned_each node bytes =
    records_each (Gives (IsOwnBody node)) (λ bs. Unit {0}) node (λ byte bs q. tt) (λ place bs q good. record_owns node place bs good) 16 0
    bytes tt

-- what stands before a place of a log is own
pub kept_own : (node tail : ℕ) (bytes : List ℕ) → KeepsOnly (IsOwnBody node) (log_kept node tail bytes)
kept_own node tail bytes =
    keeps_all (IsOwnBody node) (records_before node tail bytes) nothing_kept
    (each_or_none (Gives (IsOwnBody node)) (records_of node (take tail bytes ++ 0 ∷ [])) (owned_each node (take tail bytes ++ 0 ∷ [])))
    (keeps_nothing (IsOwnBody node))

-- each of these is a byte
abbrev AreBytes : List ℕ → Type 0
AreBytes bytes = (i : ℕ) → get_or bytes i 0 < 256

are_bytes : (bytes : List ℕ) → All (λ byte. byte < 256) bytes → AreBytes bytes
are_bytes [] all i = omega arith
are_bytes (x ∷ xs) all zero = all 0 0 (omega arith)
are_bytes (x ∷ xs) all (suc i) = are_bytes xs (λ k d h. all (suc k) d (omega (arith, h))) i

all_bytes : (bytes : List ℕ) → AreBytes bytes → All (λ byte. byte < 256) bytes
all_bytes [] are k d h = absurd (omega (arith, h))
all_bytes (x ∷ xs) are zero d h = are 0
all_bytes (x ∷ xs) are (suc k) d h = all_bytes xs (λ i. are (suc i)) k d (omega (arith, h))

taken_bytes : (n : ℕ) (bytes : List ℕ) → AreBytes bytes → AreBytes (take n bytes)
taken_bytes zero bytes are i = omega arith
taken_bytes (suc n) [] are i = omega arith
taken_bytes (suc n) (x ∷ xs) are zero = are 0
taken_bytes (suc n) (x ∷ xs) are (suc i) = taken_bytes n xs (λ k. are (suc k)) i

part_bytes : (from to : ℕ) (bytes : List ℕ) → AreBytes bytes → AreBytes (slice_range bytes from to)
part_bytes from to bytes are =
    taken_bytes _ (drop from bytes) (λ i. subst (λ n. n < 256) (sym (get_or-drop from bytes i 0)) (are (from + i)))

spelled_number : (bytes : List ℕ) → AreBytes bytes → from_be_bytes w32 bytes < 2 ^ 32
spelled_number bytes are = omega (arith, are 0, are 1, are 2, are 3)

-- of bytes, within 32 bits
abbrev IsByteBody : Uid → List ℕ → Type 0
IsByteBody uid body = (uid.epoch < 2 ^ 32) × (uid.serial < 2 ^ 32) × AreBytes body

record_bytes : (node place : ℕ) (bytes : List ℕ) → AreBytes bytes → is_record node bytes ≡ true → Gives IsByteBody (record_of place bytes)
record_bytes node place bytes are good body is = (
  spelled_number (slice_range bytes 5 9) (part_bytes 5 9 bytes are),
  spelled_number (slice_range bytes 9 13) (part_bytes 9 13 bytes are),
  subst AreBytes (body_part (kind_of bytes == 1) (slice_range bytes 14 (14 + length_of bytes)) body is)
      (part_bytes 14 (14 + length_of bytes) bytes are),
)

byte_each : (node : ℕ) (bytes : List ℕ) → AreBytes bytes → EachOf (Gives IsByteBody) (records_of node bytes)
byte_each node bytes are =
    records_each (Gives IsByteBody) AreBytes node (λ byte bs q i. q (suc i)) (λ place bs q good. record_bytes node place bs q good) 16 0
    bytes are

-- what holds of what the map of a log keeps
by_tests : (C : Kept → Type 0) (P : StoreChange → Type 0) (small log : Bool) (found : Result (List StoreChange) ℕ) (kept : Kept)
    → C nothing_kept → EachOf P found → ((rs : List StoreChange) → AllByRecursion P rs → C (kept_from nothing_kept rs)) →
    (if small then Err 0 else (if log then kept_by found else Ok nothing_kept)) ≡ Ok kept → C kept
by_tests C P true log found kept none each all e = absurd cc
by_tests C P false false found kept none each all e = let same : nothing_kept ≡ kept = cc in subst C same none
by_tests C P false true (Ok rs) kept none each all e = let same : kept_from nothing_kept rs ≡ kept = cc in subst C same (all rs each)
by_tests C P false true (Err place) kept none each all e = absurd cc

by_map : (C : Kept → Type 0) (P : StoreChange → Type 0) (node : ℕ) (image : List ℕ) (kept : Kept) → C nothing_kept
    → EachOf P (records_of node image) → ((rs : List StoreChange) → AllByRecursion P rs → C (kept_from nothing_kept rs)) →
    log_map node image ≡ Ok kept → C kept
by_map C P node image kept none each all e =
    by_tests C P (nat_lt (length image) 17) (slice_index image 0 == 237) (records_of node image) kept none each all e

map_own : (node : ℕ) (image : List ℕ) (kept : Kept) → log_map node image ≡ Ok kept → KeepsOnly (IsOwnBody node) kept
map_own node image kept is =
    by_map (KeepsOnly (IsOwnBody node)) (Gives (IsOwnBody node)) node image kept (keeps_nothing (IsOwnBody node)) (owned_each node image)
    (λ rs each. keeps_all (IsOwnBody node) rs nothing_kept each (keeps_nothing (IsOwnBody node))) is

map_bytes : (node : ℕ) (image : List ℕ) (kept : Kept) → log_map node image ≡ Ok kept → AreBytes image → KeepsOnly IsByteBody kept
map_bytes node image kept is are =
    by_map (KeepsOnly IsByteBody) (Gives IsByteBody) node image kept (keeps_nothing IsByteBody) (byte_each node image are)
    (λ rs each. keeps_all IsByteBody rs nothing_kept each (keeps_nothing IsByteBody)) is

marks_each : (P : StoreChange → Type 0) → ((c : StoreChange) → P c) → (rs : List StoreChange) → AllByRecursion P rs
marks_each P p [] = tt
marks_each P p (r ∷ rs) = (p r, marks_each P p rs)

any_each : (found : Result (List StoreChange) ℕ) → EachOf (λ c. Unit {0}) found
any_each (Ok rs) = marks_each (λ c. Unit {0}) (λ c. tt) rs
any_each (Err place) = tt

map_marks : (node : ℕ) (image : List ℕ) (kept : Kept) → log_map node image ≡ Ok kept → SameKeys kept
map_marks node image kept is =
    by_map SameKeys (λ c. Unit {0}) node image kept same_nothing (any_each (records_of node image))
    (λ rs each. same_all rs nothing_kept same_nothing) is

-- four bytes under the reserved uid
reserved_long : (n epoch serial size : ℕ) → epoch ≡ 0 → ((1 ≤ epoch) × (1 ≤ serial)) ⊎ ((epoch ≡ 0) × (serial ≡ 0) × (size ≡ 4)) → size ≡ 4
reserved_long n epoch serial size none (inl eject) = absurd (omega (arith, none, eject.0))
reserved_long n epoch serial size none (inr reserved) = reserved.2

small_map : (node : ℕ) (image : List ℕ) → nat_le 17 (length image) ≡ false → log_map node image ≡ Err 0
small_map node image small =
    let t : nat_lt (length image) 17 ≡ true = grind (arith, nat_tests) in
    ap (λ b. if b then Err 0 else (if slice_index image 0 == 237 then kept_by (records_of node image) else Ok nothing_kept)) t

big_opens : (node : ℕ) (image : List ℕ) → nat_le 17 (length image) ≡ true → 1 ≤ length (log_opening node image)
big_opens node image big =
    let fits : 17 ≤ length image = grind (arith, nat_tests) in
    omega (arith, ap length (opening_is node image fits))

-- A log is a layout.
pub log_is_layout : IsLayout log_layout
log_is_layout = record {
  sized = small_map;
  own = λ node image kept is uid body h. map_own node image kept is uid body h;
  bytes = λ node image kept is all uid body h.
      let b = map_bytes node image kept is (are_bytes image all) uid body h in
      (b.0, b.1, all_bytes body b.2);
  respells = λ node image kept is all body h.
      let own = map_own node image kept is (reserved_uid node) body h in
      let b = map_bytes node image kept is (are_bytes image all) (reserved_uid node) body h in
      be_bytes_4 body (from_be_bytes w32 body) (reserved_long node 0 0 (length body) refl own.0.1) b.2 refl;
  marks = map_marks;
  overfull = λ node image bad. absurd (false≢true bad);
  unread = refl;
  opens = big_opens;
}
