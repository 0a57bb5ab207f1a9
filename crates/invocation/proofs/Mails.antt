-- What the invariant needs, as calls and queues change.
use Rattle.std.proofs.Common.{◌≡◌, ◌≢◌, ◌≤◌, ◌<◌, ℕ, zero, suc, ◌+◌, ◌-◌, ◌*◌, ◌==◌, ◌||◌, Bool, true, false, cond, List, [], ◌∷◌, ◌++◌}
use Rattle.std.proofs.Common.{map, length, get_or, replicate, None, Some, subst, refl, sym, ◌∙◌, ap, arith}
use Rattle.std.specs.Prelude.{slice_get, slice_set, nat_le}
use Rattle.std.specs.List.{All}
use Rattle.std.proofs.lemmas.List.{length-replicate, length-set, length_push, get_or-set_same, get_or-set_other}
use Rattle.std.proofs.lemmas.List.Elements.{All-nil, All-cons, All-head, All-tail, All-push, All-weaker}
use Rattle.std.specs.List.{filter}
use Rattle.std.specs.Map.{lookup}
use Rattle.std.specs.BTreeMap.{is_at}
use Rattle.capability.specs.declared.Uid.{Uid}
use Rattle.capability.specs.Uids.{uid_cmp}
use Rattle.eden_model.specs.Map.{first, rest, with_item}
use Rattle.eden_model.specs.Crew.{change}
use Rattle.eden_model.specs.Traffic.{asking_station}
use Rattle.eden_value.specs.Datum.{Datum}
use Rattle.eden_value.specs.declared.status.Status.TheVariants.{TooLarge, Unreachable}
use Rattle.eden_codec.specs.Spelling.{values_size}
use Rattle.invocation.specs.declared.call.Call.{Call}
use Rattle.invocation.specs.declared.call.Message.{Message}
use Rattle.invocation.specs.declared.call.Message.TheVariants.{Request, Reply}
use Rattle.invocation.specs.Queues.{Rows, row, with_row, sent_to, cut_between, cleared}
use Rattle.invocation.specs.Numbers.{item_in, passes_at}
use Rattle.invocation.specs.Made.{Made, AreMade, is_own}
use Rattle.invocation.specs.declared.closing.Cause.{Cause}
use Rattle.invocation.specs.Causes.{hits, ends, closed_by}
use Rattle.invocation.specs.Mail.{IsGiven, call_of, delivery_of, is_open, target_of, number_of, spent, over, received, closed_if, let_go}
use Rattle.invocation.specs.Mail.{refused_at_once}
use Rattle.invocation.specs.declared.lists.Index.{Index}
use Rattle.invocation.specs.Listed.{IsIndex, is_live}
use Rattle.invocation.specs.Whole.{IsWhole, IsBetween, IsMailNoted, AllGiven}
use Rattle.invocation.proofs.Numbers.{length-change}
use Rattle.invocation.proofs.Index.{index-change, index-dead, concerns-over, concerns-spent}
use Rattle.invocation.proofs.Own.{Notes, made-noted, made-given_up, made-other, made-spent}

all-map : {X : Type 0} (P : X → Type 0) (f : X → X) → ((x : X) → P x → P (f x)) → (xs : List X) → All P xs → All P (map f xs)
all-map P f keeps [] all = All-nil P
all-map P f keeps (x ∷ xs) all = All-cons P (f x) (map f xs) (keeps x (All-head P x xs all)) (all-map P f keeps xs (All-tail P x xs all))

all-change : {X : Type 0} (P : X → Type 0) (f : X → X) → ((x : X) → P x → P (f x)) → (i : ℕ) (xs : List X) → All P xs
    → All P (change i f xs)
all-change P f keeps i [] all = All-nil P
all-change P f keeps zero (x ∷ xs) all = All-cons P (f x) xs (keeps x (All-head P x xs all)) (All-tail P x xs all)
all-change P f keeps (suc i) (x ∷ xs) all = All-cons P x (change i f xs) (All-head P x xs all)
    (all-change P f keeps i xs (All-tail P x xs all))

-- 1. Calls

between-closed : (b : Bool) (c : Call) → IsBetween c → IsBetween (closed_if b c)
between-closed true c h = (h.0, λ e. absurd (let bad : false ≡ true = e in cc))
between-closed false c h = h

between-over : (c : Call) → IsBetween c → IsBetween (over c)
between-over c h = (h.0, λ e. absurd (let bad : false ≡ true = e in cc))

between-closing : (cause : Cause) (c : Call) → IsBetween c → IsBetween (closed_by cause c)
between-closing cause c h = go (ends cause c)
  where
    go : (b : Bool) → IsBetween (cond b (over c) (closed_if (hits cause c) c))
    go true = between-over c h
    go false = between-closed (hits cause c) c h

pub between-after : (cause : Cause) (cs : List Call) → All IsBetween cs → All IsBetween (map (closed_by cause) cs)
between-after cause cs all = all-map IsBetween (closed_by cause) (between-closing cause) cs all

pub between-spent : (i : ℕ) (cs : List Call) → All IsBetween cs → All IsBetween (change i spent cs)
between-spent i cs all = all-change IsBetween spent (λ c h. h) i cs all

pub between-let_go : (ms : List Message) (cs : List Call) → All IsBetween cs → All IsBetween (let_go ms cs)
between-let_go [] cs all = all
between-let_go (m ∷ ms) cs all = between-let_go ms (change (number_of m - 1) spent cs) (between-spent (number_of m - 1) cs all)

pub between-received : (m : Message) (cs : List Call) → All IsBetween cs → All IsBetween (received m cs)
between-received (Request k) cs all = all
between-received (Reply k s results) cs all = all-change IsBetween over between-over (k - 1) cs all

pub length-received : (m : Message) (cs : List Call) → length (received m cs) ≡ length cs
length-received (Request k) cs = refl
length-received (Reply k s results) cs = length-change over cs (k - 1)

-- what is told of a message is of its call
pub called-told : (m : Message) (cs : List Call) → call_of (delivery_of m cs) ≡ number_of m
called-told (Request k) cs = refl
called-told (Reply k s results) cs = refl

-- the index after a delivery
pub index-received : (m : Message) (cs : List Call) (known : Index) → IsIndex cs known → IsIndex (received m cs) known
index-received (Request k) cs known it = it
index-received (Reply k s results) cs known it = index-change over concerns-over (k - 1) cs known it

-- 2. Queues

abbrev pub RowsGiven : List Call → Rows → Type 0
RowsGiven cs rows = (i : ℕ) → AllGiven cs (get_or rows i [])

pub given-more : (cs ds : List Call) → length cs ≤ length ds → (rows : Rows) → RowsGiven cs rows → RowsGiven ds rows
given-more cs ds more rows given i = All-weaker (λ m. IsGiven cs (number_of m)) (λ m. IsGiven ds (number_of m))
    (λ m h. (h.0, omega (arith, h.1, more))) (get_or rows i []) (given i)

pub given-with : (cs : List Call) (rows : Rows) → RowsGiven cs rows → (i : ℕ) (ms : List Message) → i < length rows → AllGiven cs ms
    → RowsGiven cs (slice_set rows i ms)
given-with cs rows given i ms within new j = go (j == i) refl
  where
    go : (b : Bool) → (j == i) ≡ b → AllGiven cs (get_or (slice_set rows i ms) j [])
    go true e = let same : j ≡ i = grind arith in rw (same, get_or-set_same rows i ms [] within) new
    go false e = let other : j ≢ i = grind arith in rw (get_or-set_other rows i j ms [] other) (given j)

pub given-sent : (cs : List Call) (rows : Rows) → RowsGiven cs rows → length rows ≡ 81 → (a b : ℕ) → a ≤ 8 → b ≤ 8 → (m : Message)
    → IsGiven cs (number_of m) → RowsGiven cs (sent_to a b m rows)
given-sent cs rows given pairs a b from to m h =
    given-with cs rows given (9 * a + b) (row a b rows ++ m ∷ []) (omega (arith, pairs))
    (All-push (λ x. IsGiven cs (number_of x)) (row a b rows) m (given (9 * a + b)) h)

given-none : (cs : List Call) → AllGiven cs []
given-none cs = All-nil (λ m. IsGiven cs (number_of m))

pub length-cut : (a b : ℕ) (rows : Rows) → length (cut_between a b rows) ≡ length rows
length-cut a b rows = go (a == b)
  where
    go : (x : Bool) → length (cond x rows (with_row b a [] (with_row a b [] rows))) ≡ length rows
    go true = refl
    go false = length-set (with_row a b [] rows) (9 * b + a) [] ∙ length-set rows (9 * a + b) []

pub given-cut : (cs : List Call) (rows : Rows) → RowsGiven cs rows → length rows ≡ 81 → (a b : ℕ) → a ≤ 8 → b ≤ 8
    → RowsGiven cs (cut_between a b rows)
given-cut cs rows given pairs a b from to = go (a == b)
  where
    go : (x : Bool) → RowsGiven cs (cond x rows (with_row b a [] (with_row a b [] rows)))
    go true = given
    go false =
        given-with cs (with_row a b [] rows) (given-with cs rows given (9 * a + b) [] (omega (arith, pairs)) (given-none cs)) (9 * b + a) []
        (omega (arith, pairs, length-set rows (9 * a + b) [])) (given-none cs)

pub length-cleared : (n k : ℕ) (rows : Rows) → length (cleared n k rows) ≡ length rows
length-cleared n zero rows = refl
length-cleared n (suc k) rows = length-set (with_row n k [] (cleared n k rows)) (9 * k + n) []
    ∙ length-set (cleared n k rows) (9 * n + k) [] ∙ length-cleared n k rows

pub given-cleared : (cs : List Call) (rows : Rows) → RowsGiven cs rows → length rows ≡ 81 → (n k : ℕ) → n ≤ 8 → k ≤ 9
    → RowsGiven cs (cleared n k rows)
given-cleared cs rows given pairs n zero node to = given
given-cleared cs rows given pairs n (suc k) node to =
    let before : length (cleared n k rows) ≡ 81 = length-cleared n k rows ∙ pairs in
    given-with cs (with_row n k [] (cleared n k rows))
    (given-with cs (cleared n k rows) (given-cleared cs rows given pairs n k node (omega (arith, to))) (9 * n + k) []
    (omega (arith, before, node, to)) (given-none cs))
    (9 * k + n) [] (omega (arith, before, node, to, length-set (cleared n k rows) (9 * n + k) [])) (given-none cs)

pub first-rest : {X : Type 0} (xs : List X) (x : X) → Some x ≡ first xs → xs ≡ x ∷ rest xs
first-rest [] x e = cc
first-rest (y ∷ xs) x e = let same : y ≡ x = cc in ap (λ z. z ∷ xs) same

-- a row, read with another default
pub row-read : (rows : Rows) (i : ℕ) (q : List Message) → q ≡ get_or rows i q → i < length rows → get_or rows i [] ≡ q
row-read [] i q e h = absurd (omega arith)
row-read (r ∷ rows) zero q e h = sym e
row-read (r ∷ rows) (suc i) q e h = row-read rows i q e (omega arith)

-- 3. The note of the stations to which a message may be on its way

-- a station without a note had none before another was noted
unnoted-before : (mail : List Bool) (i j : ℕ) → get_or (slice_set mail i true) j false ≡ false → get_or mail j false ≡ false
unnoted-before [] i j e = e
unnoted-before (x ∷ xs) zero zero e = absurd (let bad : true ≡ false = e in cc)
unnoted-before (x ∷ xs) zero (suc j) e = e
unnoted-before (x ∷ xs) (suc i) zero e = e
unnoted-before (x ∷ xs) (suc i) (suc j) e = unnoted-before xs i j e

-- it is another station than one that is noted now
unnoted-other : (mail : List Bool) (i j : ℕ) → i < length mail → get_or (slice_set mail i true) j false ≡ false → j ≢ i
unnoted-other mail i j within e same =
    let now : true ≡ false = sym (get_or-set_same mail i true false within)
    ∙ ap (λ k. get_or (slice_set mail i true) k false) (sym same) ∙ e in cc

-- a note that is written as it is
set-read : (mail : List Bool) (i j : ℕ) (x : Bool) → get_or mail i false ≡ x → get_or (slice_set mail i x) j false ≡ false
    → get_or mail j false ≡ false
set-read [] i j x e off = off
set-read (y ∷ ys) zero zero x e off = e ∙ off
set-read (y ∷ ys) zero (suc j) x e off = off
set-read (y ∷ ys) (suc i) zero x e off = off
set-read (y ∷ ys) (suc i) (suc j) x e off = set-read ys i j x e off

-- the queues to another station stay as they are
row-other : (rows : Rows) (a b from to : ℕ) (ms : List Message) → b ≤ 8 → to ≤ 8 → to ≢ b
    → row from to (with_row a b ms rows) ≡ row from to rows
row-other rows a b from to ms b8 to8 apart =
    let other : 9 * from + to ≢ 9 * a + b = (λ same. apart (omega (arith, same, b8, to8))) in
    get_or-set_other rows (9 * a + b) (9 * from + to) ms [] other

-- a station to which a message is sent is noted
pub mail-sent : (mail : List Bool) (rows : Rows) → IsMailNoted mail rows → (a b : ℕ) → b ≤ 8 → (m : Message)
    → IsMailNoted (slice_set mail b true) (sent_to a b m rows)
mail-sent mail rows noted a b b8 m = record {
  nine = length-set mail b true ∙ noted.nine;
  none = λ to to8 off from from8.
      row-other rows a b from to (row a b rows ++ m ∷ []) b8 to8 (unnoted-other mail b to (omega (arith, b8, noted.nine)) off)
      ∙ noted.none to to8 (unnoted-before mail b to off) from from8;
}

-- a note is written as it was
mail-kept : (mail : List Bool) (rows : Rows) → IsMailNoted mail rows → (b : ℕ) (x : Bool) → get_or mail b false ≡ x
    → IsMailNoted (slice_set mail b x) rows
mail-kept mail rows noted b x is = record {
  nine = length-set mail b x ∙ noted.nine;
  none = λ to to8 off from from8. noted.none to to8 (set-read mail b to x is off) from from8;
}

-- a queue that is empty stays so as one is emptied
none-emptied : (rows : Rows) (i j : ℕ) → get_or rows j [] ≡ [] → get_or (slice_set rows i []) j [] ≡ []
none-emptied [] i j e = e
none-emptied (r ∷ rows) zero zero e = refl
none-emptied (r ∷ rows) zero (suc j) e = e
none-emptied (r ∷ rows) (suc i) zero e = e
none-emptied (r ∷ rows) (suc i) (suc j) e = none-emptied rows i j e

pub mail-cut : (mail : List Bool) (rows : Rows) → IsMailNoted mail rows → (a b : ℕ) → IsMailNoted mail (cut_between a b rows)
mail-cut mail rows noted a b = record {
  nine = noted.nine;
  none = λ to to8 off from from8. go (a == b) from to (noted.none to to8 off from from8);
}
  where
    go : (x : Bool) (from to : ℕ) → row from to rows ≡ []
        → row from to (cond x rows (with_row b a [] (with_row a b [] rows))) ≡ []
    go true from to is = is
    go false from to is = none-emptied (with_row a b [] rows) (9 * b + a) (9 * from + to)
        (none-emptied rows (9 * a + b) (9 * from + to) is)

none-cleared : (rows : Rows) (n k from to : ℕ) → row from to rows ≡ [] → row from to (cleared n k rows) ≡ []
none-cleared rows n zero from to is = is
none-cleared rows n (suc k) from to is =
    none-emptied (with_row n k [] (cleared n k rows)) (9 * k + n) (9 * from + to)
    (none-emptied (cleared n k rows) (9 * n + k) (9 * from + to) (none-cleared rows n k from to is))

pub mail-cleared : (mail : List Bool) (rows : Rows) → IsMailNoted mail rows → (n k : ℕ) → IsMailNoted mail (cleared n k rows)
mail-cleared mail rows noted n k = record {
  nine = noted.nine;
  none = λ to to8 off from from8. none-cleared rows n k from to (noted.none to to8 off from from8);
}

-- a message has left a queue to a station, whose note is made again
pub mail-taken : (mail : List Bool) (rows : Rows) → IsMailNoted mail rows → (a b : ℕ) → b ≤ 8 → (ms : List Message) (any : Bool)
    → (any ≡ false → (from : ℕ) → from ≤ 8 → row from b (with_row a b ms rows) ≡ [])
    → IsMailNoted (slice_set mail b any) (with_row a b ms rows)
mail-taken mail rows noted a b b8 ms any now = record {
  nine = length-set mail b any ∙ noted.nine;
  none = λ to to8 off from from8. go to to8 off from from8 (to == b) refl;
}
  where
    go : (to : ℕ) → to ≤ 8 → get_or (slice_set mail b any) to false ≡ false → (from : ℕ) → from ≤ 8
        → (x : Bool) → (to == b) ≡ x → row from to (with_row a b ms rows) ≡ []
    go to to8 off from from8 true e =
        let same : to ≡ b = grind arith in
        let is : any ≡ false = sym (get_or-set_same mail b any false (omega (arith, noted.nine, b8)))
        ∙ ap (λ k. get_or (slice_set mail b any) k false) (sym same) ∙ off in
        ap (λ k. row from k (with_row a b ms rows)) same ∙ now is from from8
    go to to8 off from from8 false e =
        let other : to ≢ b = grind arith in
        row-other rows a b from to ms b8 to8 other
        ∙ noted.none to to8 (sym (get_or-set_other mail b to any false other) ∙ off) from from8

pub none-whole : (known : Index) (made : Made) → IsIndex [] known → made.entries ≡ []
    → IsWhole [] known made (replicate 9 false) (replicate 81 [])
none-whole known made index empty = record {
  few = omega arith;
  index = index;
  made = λ u. ap (λ es. filter (passes_at (is_own u) []) (with_item (lookup (is_at (uid_cmp u)) es) (λ v. v.items) [])) empty;
  between = All-nil IsBetween;
  pairs = length-replicate {A = List Message} 81 [];
  given = λ i. rw (none 81 i) (given-none []);
  mail = record { nine = length-replicate 9 false; none = λ to to8 off from from8. none 81 (9 * from + to) };
}
  where
    none : (n i : ℕ) → get_or {A = List Message} (replicate n []) i [] ≡ []
    none zero i = refl
    none (suc n) zero = refl
    none (suc n) (suc i) = none n i

-- 4. A new call

pub more-pairs : (rows : Rows) (i : ℕ) (ms : List Message) → length rows ≡ 81 → length (slice_set rows i ms) ≡ 81
more-pairs rows i ms pairs = length-set rows i ms ∙ pairs

module _ (cs : List Call) (known : Index) (made : Made) (mail : List Bool) (rows : Rows) (w : IsWhole cs known made mail rows)
    (few : length cs < 4294967295) (x : Call) (between : IsBetween x) where
  count : length (cs ++ x ∷ []) ≡ length cs + 1
  count = length_push cs x

  pub asked-open : (index : Index) → IsIndex (cs ++ x ∷ []) index → (new : Made) → Notes x cs made new → is_open x ≡ true
      → (a b : ℕ) → a ≤ 8 → b ≤ 8
      → IsWhole (cs ++ x ∷ []) index new (slice_set mail b true) (sent_to a b (Request (length cs + 1)) rows)
  asked-open index noted new notes opens a b from to = record {
    few = omega (arith, count, few);
    index = noted;
    made = made-noted x cs made new opens notes w.made;
    between = All-push IsBetween cs x w.between between;
    pairs = more-pairs rows (9 * a + b) (row a b rows ++ Request (length cs + 1) ∷ []) w.pairs;
    given = given-sent (cs ++ x ∷ []) rows (given-more cs (cs ++ x ∷ []) (omega (arith, count)) rows w.given) w.pairs a b from to
        (Request (length cs + 1)) (omega arith, omega (arith, count));
    mail = mail-sent mail rows w.mail a b to (Request (length cs + 1));
  }

  pub asked-closed : is_live x ≡ false → ((u : Uid) → is_own u x ≡ false) → IsWhole (cs ++ x ∷ []) known made mail rows
  asked-closed dead none = record {
    few = omega (arith, count, few);
    index = index-dead cs x known dead w.index;
    made = made-other x cs made none w.made;
    between = All-push IsBetween cs x w.between between;
    pairs = w.pairs;
    given = given-more cs (cs ++ x ∷ []) (omega (arith, count)) rows w.given;
    mail = w.mail;
  }

-- the same calls, otherwise known and noted
pub known-whole : (cs : List Call) (known : Index) (made : Made) (mail : List Bool) (rows : Rows) → IsWhole cs known made mail rows
    → (index : Index) → IsIndex cs index → (new : Made) → AreMade cs new → IsWhole cs index new mail rows
known-whole cs known made mail rows w index reserved new noted = record {
  few = w.few;
  index = reserved;
  made = noted;
  between = w.between;
  pairs = w.pairs;
  given = w.given;
  mail = w.mail;
}

-- a call that was noted was not sent
pub given_up-whole : (cs : List Call) (known : Index) (made : Made) (mail : List Bool) (rows : Rows) → IsWhole cs known made mail rows
    → (index : Index) → IsIndex cs index → (x : Call) (new : Made) → Notes x cs made new → IsWhole cs index new mail rows
given_up-whole cs known made mail rows w index reserved x new notes =
    known-whole cs known made mail rows w index reserved new (made-given_up x cs made new notes w.made)

-- a call that is not answered at once goes to a station that is reached
pub asked-reached : (reached : Bool) (args : List Datum) → refused_at_once reached args ≡ None → reached ≡ true
asked-reached reached args = go (nat_le (values_size args) 65536) reached
  where
    go : (fits r : Bool) → cond fits (cond r None (Some Unreachable)) (Some TooLarge) ≡ None → r ≡ true
    go true true h = refl
    go true false h = cc
    go false r h = cc

-- the messages of a row, read with another default
pub row-given : (cs : List Call) (rows : Rows) → RowsGiven cs rows → (i : ℕ) (q : List Message) → q ≡ get_or rows i q → i < length rows
    → AllGiven cs q
row-given cs rows given i q is within = rw (← row-read rows i q is within) (given i)

-- what holds of all calls holds of one
pub all-item : {X : Type 0} (P : X → Type 0) (xs : List X) (k : ℕ) (x : X) → All P xs → item_in k xs ≡ Some x → P x
all-item P xs zero x all is = absurd (let bad : None ≡ Some x = is in cc)
all-item {X} P xs (suc k) x all is = go xs k all is
  where
    go : (ys : List X) (i : ℕ) → All P ys → slice_get ys i ≡ Some x → P x
    go [] i each at = absurd (let bad : None ≡ Some x = at in cc)
    go (y ∷ ys) zero each at = let same : y ≡ x = cc in subst P same (All-head P y ys each)
    go (y ∷ ys) (suc i) each at = go ys i (All-tail P y ys each) at

-- 5. A reply

pub answered-whole : (cs : List Call) (known : Index) (made : Made) (mail : List Bool) (rows : Rows) → IsWhole cs known made mail rows
    → (k : ℕ) (x : Call) → item_in k cs ≡ Some x → IsGiven cs k → (m : Message) → number_of m ≡ k
    → IsWhole (change (k - 1) spent cs) known made
    (slice_set mail (asking_station x.asker) (get_or mail (asking_station x.asker) false || is_open x))
    (cond (is_open x) (sent_to (target_of x) (asking_station x.asker) m rows) rows)
answered-whole cs known made mail rows w k x is given m of = record {
  few = omega (arith, length-change spent cs (k - 1), w.few);
  index = index-change spent concerns-spent (k - 1) cs known w.index;
  made = made-spent (k - 1) cs made w.made;
  between = between-spent (k - 1) cs w.between;
  pairs = pairs (is_open x);
  given = all (is_open x) refl;
  mail = noted (get_or mail (asking_station x.asker) false) (is_open x) refl;
}
  where
    between : IsBetween x
    between = all-item IsBetween cs k x w.between is

    more : RowsGiven (change (k - 1) spent cs) rows
    more = given-more cs (change (k - 1) spent cs) (omega (arith, length-change spent cs (k - 1))) rows w.given

    pairs : (b : Bool) → length (cond b (sent_to (target_of x) (asking_station x.asker) m rows) rows) ≡ 81
    pairs true = more-pairs rows (9 * target_of x + asking_station x.asker) (row (target_of x) (asking_station x.asker) rows ++ m ∷ [])
        w.pairs
    pairs false = w.pairs

    all : (b : Bool) → is_open x ≡ b
        → RowsGiven (change (k - 1) spent cs) (cond b (sent_to (target_of x) (asking_station x.asker) m rows) rows)
    all true e = given-sent (change (k - 1) spent cs) rows more w.pairs (target_of x) (asking_station x.asker) (between.1 e) between.0 m
        (omega (arith, of, given.0), omega (arith, of, given.1, length-change spent cs (k - 1)))
    all false e = more

    noted : (b opens : Bool) → get_or mail (asking_station x.asker) false ≡ b
        → IsMailNoted (slice_set mail (asking_station x.asker) (b || opens))
        (cond opens (sent_to (target_of x) (asking_station x.asker) m rows) rows)
    noted true true e = mail-sent mail rows w.mail (target_of x) (asking_station x.asker) between.0 m
    noted false true e = mail-sent mail rows w.mail (target_of x) (asking_station x.asker) between.0 m
    noted true false e = mail-kept mail rows w.mail (asking_station x.asker) true e
    noted false false e = mail-kept mail rows w.mail (asking_station x.asker) false e
