-- One turn of a filter: what it holds stays what its function makes of a front of the items of the stage before, it asks that stage for the
-- item behind this front alone, and what it answers is an item or the end of what its function makes of all.
use Rattle.std.proofs.Common.{◌≡◌, ◌⊎◌, inl, inr, ℕ, zero, suc, ◌+◌, ℤ, pos, Bool, true, false, cond, not, ◌&&◌, ◌||◌, List, []}
use Rattle.std.proofs.Common.{◌∷◌, ◌++◌, take, drop, length, Option, None, Some, is_some, refl, ap, ap₂, sym, ◌∙◌}
use Rattle.std.proofs.Common.{subst, arith, length-append}
use Rattle.std.specs.Prelude.{slice_get, ◌+ℤ◌, ◌-ℤ◌, int_le, nat_le, codes, IsSomeAnd}
use Rattle.std.proofs.lemmas.Bool.Decides.{nat_tests}
use Rattle.std.specs.Ordering.{int_eq}
use Rattle.capability.specs.declared.Uid.{Uid}
use Rattle.capability.specs.declared.Cap.{Cap}
use Rattle.eden_value.specs.Datum.{Datum, number, text}
use Rattle.eden_value.specs.declared.status.Status.TheVariants as status
use Rattle.eden_model.specs.Map.{with_item, is_none}
use Rattle.epl_syntax.specs.declared.effect.Answer.{Answer}
use Rattle.epl_syntax.specs.declared.effect.Answer.TheVariants.{Reply as Told}
use Rattle.epl_syntax.specs.declared.effect.Effect.{Effect}
use Rattle.epl_syntax.specs.declared.effect.Effect.TheVariants as effect
use Rattle.epl_syntax.specs.Simple.{argument, cap_in, number_in, is_fine, returns_code}
use Rattle.epl_syntax.specs.Streams.{Came, an_item, the_end, nothing, came, asks_for, returns_item, returns_none, trouble, out_of_reach}
use Rattle.epl_syntax.specs.Streams.{end_code}
use Rattle.epl_syntax.specs.Filters.{Filter, Rule, Stage, opens, open_saved, transfers, transfer_saved, asked, item_saved, filter}
use Rattle.epl_syntax.specs.Filters.{values_of}
use Rattle.epl_syntax.specs.Filters.{Moved, answers, saves, saved_so, asks, gives, handed_on, passed_over, takes as takes_it, after_asking}
use Rattle.epl_syntax.specs.Filters.{opened, is_spent}
use Rattle.epl_syntax.specs.Filters.{filter_turn}
use Rattle.epl_syntax.specs.Pipelines.{Sieve, takes, skips, keeps, numbers, sifted, so_many, rule_of, argument_of, HasTaken, takes_in}
use Rattle.epl_syntax.specs.Pipelines.{hands_on}
use Rattle.epl_syntax.specs.Pipelines.{IsFront}
use Rattle.epl_syntax.proofs.Pipelines.{filters_make_their_functions, filters_end_as_their_functions}
use Rattle.stream_laws.specs.Streams.{item_in}
use Rattle.stream_laws.proofs.Items.{IsOf, HasText, append-nothing, behind, front-more, whole-front, front-of-sifted, item-of-front}
use Rattle.stream_laws.proofs.Items.{pos-same}
use Rattle.stream_laws.proofs.Items.{and-first, and-second, or-first, or-second, not-false, int-same}

-- 1. What a filter holds

-- it is not open, and has taken in nothing
pub record IsShut (f : Filter) : Type 0 where
  pub src : f.src ≡ None
  pub got : f.got ≡ pos 0
  pub made : f.made ≡ pos 0

-- it is open to the stage before, and has taken in this front of its items
pub record HasFront (before : Uid) (s : Sieve) (items front : List (List ℕ)) (f : Filter) : Type 0 where
  pub src : Cap
  pub is_src : f.src ≡ Some src
  pub of_before : src.uid ≡ before
  pub begins : IsFront front items
  pub has : HasTaken s front f
  -- what it made last
  pub last : (n : ℕ) → length (sifted s front) ≡ suc n → IsSomeAnd (slice_get (sifted s front) n) (λ t. f.last ≡ text t)

abbrev pub IsOpen : Uid → Sieve → List (List ℕ) → Filter → Type 0
IsOpen before s items f = (front : List (List ℕ)) × HasFront before s items front f

pub record Holds (before : Uid) (s : Sieve) (items : List (List ℕ)) (f : Filter) : Type 0 where
  pub arg : length f.arg ≡ length (rule_of s).arg
  pub state : IsShut f ⊎ IsOpen before s items f

-- the same before and after it is saved
pub saved-holds : {before : Uid} {s : Sieve} {items : List (List ℕ)} (b : Bool) (f : Filter) → Holds before s items f
    → Holds before s items (record f { saved = b })
saved-holds {before = before} {s = s} {items = items} b f h = record { arg = h.arg; state = go h.state }
  where
    go : IsShut f ⊎ IsOpen before s items f → IsShut (record f { saved = b }) ⊎ IsOpen before s items (record f { saved = b })
    go (inl x) = inl (record { src = x.src; got = x.got; made = x.made })
    go (inr x) = inr (
      x.0,
      record {
        src = x.1.src;
        is_src = x.1.is_src;
        of_before = x.1.of_before;
        begins = x.1.begins;
        has = record { argument = x.1.has.argument; got = x.1.has.got; made = x.1.has.made };
        last = x.1.last;
      },
    )

-- what is in the variables in which a filter is, is that filter
with-arg : (s : Sieve) (f : Filter) (a : List Datum) → length a ≡ length (rule_of s).arg
    → filter (rule_of s) (values_of (record f { arg = a })) ≡ record f { arg = a }
with-arg (takes n) f (d ∷ []) h = refl
with-arg (takes n) f [] h = absurd (cc h)
with-arg (takes n) f (d ∷ e ∷ a) h = absurd (cc h)
with-arg (skips n) f (d ∷ []) h = refl
with-arg (skips n) f [] h = absurd (cc h)
with-arg (skips n) f (d ∷ e ∷ a) h = absurd (cc h)
with-arg (keeps t) f (d ∷ []) h = refl
with-arg (keeps t) f [] h = absurd (cc h)
with-arg (keeps t) f (d ∷ e ∷ a) h = absurd (cc h)
with-arg numbers f [] h = refl
with-arg numbers f (d ∷ a) h = absurd (cc h)

pub filter-back : (s : Sieve) (f : Filter) → length f.arg ≡ length (rule_of s).arg → filter (rule_of s) (values_of f) ≡ f
filter-back s f h = with-arg s f f.arg h

-- 2. What is left to do

-- what a stage of an operation owes to the position q that its call asks for
abbrev pub IsLeft : Uid → Sieve → ℤ → Filter → Stage → Type 0
IsLeft before s q f (opens given) = (named : Cap) → cap_in (argument 0 given) ≡ Some named
    → (named.uid ≡ before) × (drop 1 given ≡ argument_of s)
IsLeft before s q f open_saved = Unit {0}
IsLeft before s q f (transfers p) = p ≡ q
IsLeft before s q f (transfer_saved p) = (p ≡ q) × (is_none f.src ≡ false)
IsLeft before s q f asked = (f.made ≡ q) × ((rule_of s).is_over f ≡ false) × (is_none f.src ≡ false) × (is_spent f.got ≡ false)
IsLeft before s q f (item_saved true) = (f.made ≡ q +ℤ pos 1) × (int_le (pos 1) f.made ≡ true) × (is_none f.src ≡ false)
IsLeft before s q f (item_saved false) = (f.made ≡ q) × ((rule_of s).is_over f ≡ false) × (is_none f.src ≡ false)

-- and what its answer owes: behind the asking, it is for the position that was asked for
abbrev pub IsTold : List (List ℕ) → Filter → Stage → Answer → Type 0
IsTold items f asked a = IsOf items f.got (came a)
IsTold items f _ a = Unit {0}

-- 3. What a turn comes to

abbrev pub EndsSo : Uid → Sieve → List (List ℕ) → ℤ → Filter → Stage → Effect → Type 0
EndsSo before s items q f st (effect.Return results) = IsOf (sifted s items) q (came (Told status.Ok results)) × HasText results
EndsSo before s items q f st effect.Checkpoint = IsLeft before s q f st
EndsSo before s items q f st (effect.Invoke c op given) =
    (st ≡ asked) × IsLeft before s q f asked × (c.uid ≡ before) × (op ≡ codes "Transfer") × (given ≡ number f.got ∷ [])
EndsSo before s items q f st _ = ⊥

pub record Moves (before : Uid) (s : Sieve) (items : List (List ℕ)) (q : ℤ) (m : Moved) : Type 0 where
  pub now : Filter
  pub values : m.0 ≡ values_of now
  pub holds : Holds before s items now
  pub ends : EndsSo before s items q now m.1 m.2

-- 4. Its parts

sifted-nothing : (s : Sieve) → sifted s [] ≡ []
sifted-nothing (takes n) = go (so_many n)
  where
    go : (k : ℕ) → take {A = List ℕ} k [] ≡ []
    go zero = refl
    go (suc k) = refl
sifted-nothing (skips n) = go (so_many n)
  where
    go : (k : ℕ) → drop {A = List ℕ} k [] ≡ []
    go zero = refl
    go (suc k) = refl
sifted-nothing (keeps t) = refl
sifted-nothing numbers = refl

pub argument-long : (s : Sieve) → length (argument_of s) ≡ length (rule_of s).arg
argument-long (takes n) = refl
argument-long (skips n) = refl
argument-long (keeps t) = refl
argument-long numbers = refl

-- whether it is over is a matter of its argument and of how many items it has made
over-like : (s : Sieve) (f g : Filter) → f.arg ≡ g.arg → f.made ≡ g.made → (rule_of s).is_over f ≡ (rule_of s).is_over g
over-like (takes n) f g arg made = ap₂ (λ a m. int_le (number_in (argument 0 a)) m) arg made
over-like (skips n) f g arg made = refl
over-like (keeps t) f g arg made = refl
over-like numbers f g arg made = refl

-- what does not pass is not of a Take
passes-on : (s : Sieve) (f : Filter) (t : List ℕ) → (rule_of s).passes f t ≡ false → (rule_of s).is_over (passed_over f) ≡ false
passes-on (takes n) f t e = absurd (cc e)
passes-on (skips n) f t e = refl
passes-on (keeps x) f t e = refl
passes-on numbers f t e = refl

one-made : (n : ℕ) → int_le (pos 1) (pos n +ℤ pos 1) ≡ true
one-made n = le-one n
  where
    le-one : (n : ℕ) → nat_le 1 (n + 1) ≡ true
    le-one n = grind (arith, nat_tests)

-- the turn, by what the filter holds
abbrev turned_by : Rule → Filter → Stage → Answer → Moved
turned_by r f (opens args) answer =
    cond (is_some f.src || is_none (cap_in (argument 0 args))) (answers f (returns_code 1)) (saves (opened args f) open_saved)
turned_by r f open_saved answer = saved_so f answer (returns_code trouble) (λ f. answers f (returns_code 0))
turned_by r f (transfers p) answer =
    cond (is_none f.src) (answers f (returns_none trouble)) (cond f.saved (gives r f p) (saves f (transfer_saved p)))
turned_by r f (transfer_saved p) answer = saved_so f answer (returns_none trouble) (λ f. gives r f p)
turned_by r f asked answer = after_asking r f (came answer)
turned_by r f (item_saved passed) answer =
    saved_so f answer (returns_none trouble) (λ f. cond passed (answers f (returns_item f.last)) (asks f))

by-filter : (r : Rule) (vars : List Datum) (st : Stage) (a : Answer) → turned_by r (filter r vars) st a ≡ filter_turn r vars st a
by-filter r vars (opens args) a = refl
by-filter r vars open_saved a = refl
by-filter r vars (transfers p) a = refl
by-filter r vars (transfer_saved p) a = refl
by-filter r vars asked a = refl
by-filter r vars (item_saved passed) a = refl

module _ (before : Uid) (s : Sieve) (items : List (List ℕ)) (q : ℤ) where
  -- it answers, and holds what it held
  answered : (f : Filter) (e : Effect) → Holds before s items f → EndsSo before s items q f asked e → Moves before s items q (answers f e)
  answered f e h ends = record { now = f; values = refl; holds = h; ends = ends }

  saving : (f : Filter) (st : Stage) → Holds before s items f → IsLeft before s q (record f { saved = false }) st
      → Moves before s items q (saves f st)
  saving f st h left = record { now = record f { saved = false }; values = refl; holds = saved-holds false f h; ends = left }

  moves-cond : (b : Bool) (x y : Moved) → (b ≡ true → Moves before s items q x) → (b ≡ false → Moves before s items q y)
      → Moves before s items q (cond b x y)
  moves-cond true x y a b = a refl
  moves-cond false x y a b = b refl

  -- where it has a stage before it, it is open
  open-of : (f : Filter) → Holds before s items f → is_none f.src ≡ false → IsOpen before s items f
  open-of f h there = go h.state
    where
      go : IsShut f ⊎ IsOpen before s items f → IsOpen before s items f
      go (inl x) = absurd (let e : is_none {X = Cap} None ≡ false = ap is_none (sym x.src) ∙ there in cc e)
      go (inr x) = x

  is-open : (f : Filter) → IsOpen before s items f → is_none f.src ≡ false
  is-open f x = ap is_none x.1.is_src

  -- it asks for the item behind its front
  asking : (f : Filter) → Holds before s items f → IsOpen before s items f → f.made ≡ q → (rule_of s).is_over f ≡ false
      → Moves before s items q (asks f)
  asking f h x made on = moves-cond (is_spent f.got) (answers f (returns_none trouble)) _
      (λ e. answered f (returns_none trouble) h (tt, ([], refl)))
      (λ e. subst (λ o. Moves before s items q (with_item o (λ c. (values_of f, asked, asks_for c f.got))
      (answers f (returns_none trouble))))
      (sym x.1.is_src)
      (record { now = f; values = refl; holds = h; ends = (refl, (made, on, is-open f x, e), x.1.of_before, refl, refl) }))

  -- the item that it made last
  last-is : (f : Filter) (x : IsOpen before s items f) → int_le (pos 1) f.made ≡ true → f.made ≡ q +ℤ pos 1
      → IsOf (sifted s items) q (came (Told status.Ok (number (pos 0) ∷ f.last ∷ []))) × HasText (number (pos 0) ∷ f.last ∷ [])
  last-is f x some made = go (length (sifted s x.0)) refl
    where
      found : (n : ℕ) → length (sifted s x.0) ≡ suc n → (o : Option (List ℕ)) → slice_get (sifted s x.0) n ≡ o
          → IsSomeAnd o (λ t. f.last ≡ text t)
          → IsOf (sifted s items) q (came (Told status.Ok (number (pos 0) ∷ f.last ∷ []))) × HasText (number (pos 0) ∷ f.last ∷ [])
      found n long None at none = absurd none
      found n long (Some t) at is =
          let place : q ≡ pos n = (let m : pos (suc n) ≡ q +ℤ pos 1 = ap pos (sym long) ∙ sym x.1.has.made ∙ made in grind (arith, m)) in (
            subst (λ d. IsOf (sifted s items) q (came (Told status.Ok (number (pos 0) ∷ d ∷ [])))) (sym is)
                (subst (λ p. item_in (sifted s items) p ≡ Some t) (sym place)
                (item-of-front (sifted s x.0) (sifted s items) (pos n) t (front-of-sifted s x.0 items x.1.begins) at)),
            (t, ap (λ d. d ∷ []) is),
          )

      go : (n : ℕ) → length (sifted s x.0) ≡ n
          → IsOf (sifted s items) q (came (Told status.Ok (number (pos 0) ∷ f.last ∷ []))) × HasText (number (pos 0) ∷ f.last ∷ [])
      go zero long = absurd (let e : int_le (pos 1) (pos zero) ≡ true = ap (int_le (pos 1)) (sym (x.1.has.made ∙ ap pos long))
          ∙ some in cc e)
      go (suc n) long = found n long (slice_get (sifted s x.0) n) refl (x.1.last n long)

  -- it gives the item at q, the next one, or says that there is none
  giving : (f : Filter) → Holds before s items f → IsOpen before s items f → Moves before s items q (gives (rule_of s) f q)
  giving f h x = moves-cond (int_le (pos 1) f.made && int_eq q (f.made -ℤ pos 1)) (answers f (returns_item f.last)) _
      (λ e. answered f (returns_item f.last) h (last-is f x (and-first (int_le (pos 1) f.made) _ e)
      (let same : q ≡ f.made -ℤ pos 1 = int-same q (f.made -ℤ pos 1) (and-second (int_le (pos 1) f.made) _ e) in grind (arith, same))))
      (λ e. moves-cond (not (int_eq q f.made)) (answers f (returns_none out_of_reach)) _
      (λ e. answered f (returns_none out_of_reach) h (tt, ([], refl)))
      (λ e. let same : q ≡ f.made = int-same q f.made (not-false (int_eq q f.made) e) in
      moves-cond ((rule_of s).is_over f) (answers f (returns_none end_code)) _
      (λ over. answered f (returns_none end_code) h (
        same ∙ x.1.has.made ∙ ap (λ l. pos (length l)) (sym (filters_end_as_their_functions s x.0 x.1.begins.0 f x.1.has over)
            ∙ ap (sifted s) x.1.begins.1),
        ([], refl),
      ))
      (λ on. asking f h x (sym same) on)))

  -- an item came that is the one behind its front
  grown : (f : Filter) (x : IsOpen before s items f) (t : List ℕ) → (rule_of s).is_over f ≡ false → IsOf items f.got (an_item t)
      → IsOpen before s items (record (takes_in (rule_of s) t f) { saved = false })
  grown f x t on at = (
    x.0 ++ t ∷ [],
    record {
      src = x.1.src;
      is_src = src ((rule_of s).passes f t);
      of_before = x.1.of_before;
      begins = front-more x.0 items t x.1.begins (subst (λ p. item_in items p ≡ Some t) x.1.has.got at);
      has = record { argument = has.argument; got = has.got; made = has.made };
      last = λ n long. last ((rule_of s).passes f t) n makes long;
    },
  )
    where
      has : HasTaken s (x.0 ++ t ∷ []) (takes_in (rule_of s) t f)
      has = (filters_make_their_functions s x.0 t f x.1.has on).1

      makes : sifted s (x.0 ++ t ∷ []) ≡ sifted s x.0 ++ hands_on (rule_of s) t f
      makes = (filters_make_their_functions s x.0 t f x.1.has on).0

      src : (b : Bool) → (cond b (handed_on (rule_of s) t f) (passed_over f)).src ≡ Some x.1.src
      src true = x.1.is_src
      src false = x.1.is_src

      last : (b : Bool) (n : ℕ) → sifted s (x.0 ++ t ∷ []) ≡ sifted s x.0 ++ cond b ((rule_of s).becomes f t ∷ []) []
          → length (sifted s (x.0 ++ t ∷ [])) ≡ suc n
          → IsSomeAnd (slice_get (sifted s (x.0 ++ t ∷ [])) n) (λ u. (cond b (handed_on (rule_of s) t f) (passed_over f)).last ≡ text u)
      last true n m long =
          let old : length (sifted s x.0) ≡ n = (let e : length (sifted s x.0 ++ (rule_of s).becomes f t ∷ []) ≡ suc n = ap length (sym m)
          ∙ long in
          omega (arith, e, length-append (sifted s x.0) ((rule_of s).becomes f t ∷ []))) in
          subst (λ o. IsSomeAnd o (λ u. text ((rule_of s).becomes f t) ≡ text u))
          (sym (ap (λ l. slice_get l n) m ∙ ap (slice_get (sifted s x.0 ++ (rule_of s).becomes f t ∷ [])) (sym old)
          ∙ behind (sifted s x.0) [] ((rule_of s).becomes f t))) refl
      last false n m long =
          let same : sifted s (x.0 ++ t ∷ []) ≡ sifted s x.0 = m ∙ append-nothing (sifted s x.0) in
          subst (λ l. IsSomeAnd (slice_get l n) (λ u. f.last ≡ text u)) (sym same) (x.1.last n (ap length (sym same) ∙ long))

  taken : (f : Filter) → Holds before s items f → IsOpen before s items f → (t : List ℕ) → f.made ≡ q → (rule_of s).is_over f ≡ false
      → IsOf items f.got (an_item t) → Moves before s items q (takes_it (rule_of s) f t)
  taken f h x t made on at = moves-cond (is_spent f.got || is_spent f.made) (answers f (returns_none trouble)) _
      (λ e. answered f (returns_none trouble) h (tt, ([], refl)))
      (λ e. go ((rule_of s).passes f t) refl (grown f x t on at))
    where
      go : (b : Bool) → (rule_of s).passes f t ≡ b
          → IsOpen before s items (record (cond b (handed_on (rule_of s) t f) (passed_over f)) { saved = false })
          → Moves before s items q (cond b (saves (handed_on (rule_of s) t f) (item_saved true)) (saves (passed_over f) (item_saved false)))
      go true is new = record {
        now = record (handed_on (rule_of s) t f) { saved = false };
        values = refl;
        holds = record { arg = h.arg; state = inr new };
        ends = (
          ap (λ m. m +ℤ pos 1) made,
          subst (λ m. int_le (pos 1) (m +ℤ pos 1) ≡ true) (sym x.1.has.made)
              (one-made (length (sifted s x.0))),
          is-open f x,
        );
      }
      go false is new = record {
        now = record (passed_over f) { saved = false };
        values = refl;
        holds = record { arg = h.arg; state = inr new };
        ends = (made, over-like s (record (passed_over f) { saved = false }) (passed_over f) refl refl ∙ passes-on s f t is, is-open f x);
      }

  -- it is opened to the stage before
  opening : (f : Filter) (given : List Datum) → Holds before s items f → is_some f.src ≡ false → is_none (cap_in (argument 0 given)) ≡ false
      → IsLeft before s q f (opens given) → Moves before s items q (saves (opened given f) open_saved)
  opening f given h shut names left = go (cap_in (argument 0 given)) refl h.state
    where
      go : (o : Option Cap) → cap_in (argument 0 given) ≡ o → IsShut f ⊎ IsOpen before s items f
          → Moves before s items q (saves (opened given f) open_saved)
      go None is x = absurd (let e : is_none {X = Cap} None ≡ false = ap is_none (sym is) ∙ names in cc e)
      go (Some c) is (inr x) = absurd (let e : is_some (Some x.1.src) ≡ false = ap is_some (sym x.1.is_src) ∙ shut in cc e)
      go (Some c) is (inl x) = record {
        now = record (opened given f) { saved = false };
        values = refl;
        holds = record {
          arg = ap length (left c is).1 ∙ argument-long s;
          state = inr (
            [],
            record {
              src = c;
              is_src = is;
              of_before = (left c is).0;
              begins = (items, refl);
              has = record {
                argument = (left c is).1;
                got = x.got;
                made = x.made ∙ ap (λ l. pos (length l)) (sym (sifted-nothing s));
              };
              last = λ n long. absurd (let e : zero ≡ suc n = ap length (sym (sifted-nothing s)) ∙ long in cc e);
            },
          );
        };
        ends = tt;
      }

  -- behind a checkpoint
  saved-so : (f : Filter) (a : Answer) (e : Effect) (go : Filter → Moved) → Holds before s items f → EndsSo before s items q f asked e
      → (Holds before s items (record f { saved = true }) → Moves before s items q (go (record f { saved = true })))
      → Moves before s items q (saved_so f a e go)
  saved-so f a e go h otherwise next = moves-cond (is_fine a) (go (record f { saved = true })) (answers f e)
      (λ fine. next (saved-holds true f h)) (λ bad. answered f e h otherwise)

  moved : (f : Filter) (st : Stage) (a : Answer) → Holds before s items f → IsLeft before s q f st → IsTold items f st a
      → Moves before s items q (turned_by (rule_of s) f st a)
  moved f (opens given) a h left told = moves-cond (is_some f.src || is_none (cap_in (argument 0 given))) (answers f (returns_code 1)) _
      (λ e. answered f (returns_code 1) h (tt, tt))
      (λ e. opening f given h (or-first (is_some f.src) _ e) (or-second (is_some f.src) _ e) left)
  moved f open_saved a h left told = saved-so f a (returns_code trouble) (λ f. answers f (returns_code 0)) h (tt, tt)
      (λ h. answered (record f { saved = true }) (returns_code 0) h (tt, tt))
  moved f (transfers p) a h left told = moves-cond (is_none f.src) (answers f (returns_none trouble)) _
      (λ e. answered f (returns_none trouble) h (tt, ([], refl)))
      (λ there. moves-cond f.saved (gives (rule_of s) f p) (saves f (transfer_saved p))
      (λ e. subst (λ p. Moves before s items q (gives (rule_of s) f p)) (sym left) (giving f h (open-of f h there)))
      (λ e. saving f (transfer_saved p) h (left, there)))
  moved f (transfer_saved p) a h left told = saved-so f a (returns_none trouble) (λ f. gives (rule_of s) f p) h (tt, ([], refl))
      (λ h. subst (λ p. Moves before s items q (gives (rule_of s) (record f { saved = true }) p)) (sym left.0)
      (giving (record f { saved = true }) h (open-of (record f { saved = true }) h left.1)))
  moved f asked a h left told = go (came a) told
    where
      go : (c : Came) → IsOf items f.got c → Moves before s items q (after_asking (rule_of s) f c)
      go (an_item t) at = taken f h (open-of f h left.2) t left.0 left.1 at
      go the_end at = answered f (returns_none end_code) h (ended (open-of f h left.2) at, ([], refl))
        where
          ended : IsOpen before s items f → f.got ≡ pos (length items) → q ≡ pos (length (sifted s items))
          ended x at =
              let all : x.0 ≡ items = whole-front x.0 items x.1.begins (pos-same (length x.0) (length items) (sym x.1.has.got ∙ at)) in
              sym left.0 ∙ x.1.has.made ∙ ap (λ l. pos (length (sifted s l))) all
      go nothing at = answered f (returns_none trouble) h (tt, ([], refl))
  moved f (item_saved true) a h left told = saved-so f a (returns_none trouble) (λ f. answers f (returns_item f.last)) h (tt, ([], refl))
      (λ h. answered (record f { saved = true }) (returns_item f.last) h
      (last-is (record f { saved = true }) (open-of (record f { saved = true }) h left.2) left.1 left.0))
  moved f (item_saved false) a h left told = saved-so f a (returns_none trouble) asks h (tt, ([], refl))
      (λ h. asking (record f { saved = true }) h (open-of (record f { saved = true }) h left.2) left.0
      (over-like s (record f { saved = true }) f refl refl ∙ left.1))

  pub filter-moves : (f : Filter) (st : Stage) (a : Answer) → Holds before s items f → IsLeft before s q f st → IsTold items f st a
      → Moves before s items q (filter_turn (rule_of s) (values_of f) st a)
  filter-moves f st a h left told = subst (Moves before s items q) (ap (λ g. turned_by (rule_of s) g st a) (sym (filter-back s f h.arg))
      ∙ by-filter (rule_of s) (values_of f) st a) (moved f st a h left told)
