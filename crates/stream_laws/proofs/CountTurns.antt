-- One turn of a filter Take or Number: how many items it has taken in behind it.
use Rattle.std.proofs.Common.{◌≡◌, ◌⊎◌, inl, inr, ℕ, zero, suc, ◌+◌, ◌≤◌, ℤ, pos, Bool, true, false, cond, not, ◌&&◌, ◌||◌, List, [], ◌∷◌}
use Rattle.std.proofs.Common.{take}
use Rattle.std.proofs.Common.{length, drop, Option, None, Some, is_some, refl, ap, sym, ◌∙◌, arith}
use Rattle.std.specs.Prelude.{◌+ℤ◌, ◌-ℤ◌, int_le, nat_le, codes}
use Rattle.std.proofs.lemmas.Bool.Decides.{nat_tests}
use Rattle.std.specs.Ordering.{int_eq}
use Rattle.capability.specs.declared.Uid.{Uid}
use Rattle.capability.specs.declared.Cap.{Cap}
use Rattle.eden_value.specs.Datum.{Datum, number, text}
use Rattle.eden_value.specs.declared.status.Status.TheVariants as status
use Rattle.eden_model.specs.Map.{with_item, is_none}
use Rattle.epl_syntax.specs.declared.effect.Answer.{Answer}
use Rattle.epl_syntax.specs.declared.effect.Answer.TheVariants.{Reply as Told}
use Rattle.epl_syntax.specs.declared.effect.Effect.{Effect}
use Rattle.epl_syntax.specs.declared.effect.Effect.TheVariants as effect
use Rattle.epl_syntax.specs.Edentype.{native as native_type}
use Rattle.epl_syntax.specs.Meaning.{first_values}
use Rattle.epl_syntax.specs.Simple.{argument, cap_in, number_in, is_fine}
use Rattle.epl_syntax.specs.Streams.{Came, an_item, the_end, nothing, came, returns_none, trouble}
use Rattle.epl_syntax.specs.Filters.{Filter, Stage as FilterStage, opens, open_saved, transfers, transfer_saved, asked, item_saved, filter}
use Rattle.epl_syntax.specs.Filters.{values_of, Moved, answers, saves, asks, gives, after_asking, handed_on, filter_turn, is_spent}
use Rattle.epl_syntax.specs.Pipelines.{Sieve, takes as a_take, skips, keeps, numbers, sifted, so_many, numbered_from, rule_of}
use Rattle.stream_laws.specs.Chains.{type_of_sieve}
use Rattle.stream_laws.specs.Counts.{IsTakeOrNumber}
use Rattle.stream_laws.proofs.Items.{and-second, int-same}
use Rattle.stream_laws.proofs.FilterTurns.{Holds, IsShut, IsOpen, IsLeft, filter-back, argument-long}

-- how many items were taken in
abbrev pub got_in : Sieve → List Datum → ℤ
got_in s vars = (filter (rule_of s) vars).got

got-back : (s : Sieve) (f : Filter) → length f.arg ≡ length (rule_of s).arg → got_in s (values_of f) ≡ f.got
got-back s f h = ap (λ (g : Filter). g.got) (filter-back s f h)

-- none before it is open
pub got-first : (s : Sieve) → got_in s (first_values (native_type (type_of_sieve s))) ≡ pos 0
got-first (a_take n) = refl
got-first (skips n) = refl
got-first (keeps t) = refl
got-first numbers = refl

-- what came is no item
abbrev pub IsNone : Came → Type 0
IsNone (an_item t) = ⊥
IsNone the_end = Unit {0}
IsNone nothing = Unit {0}

-- it is being opened
abbrev pub IsOpening : FilterStage → Type 0
IsOpening (opens args) = Unit {0}
IsOpening open_saved = Unit {0}
IsOpening _ = ⊥

-- 1. It is opened

abbrev pub OpeningEnds : Sieve → ℤ → List Datum → FilterStage → Effect → Type 0
OpeningEnds s got vars st (effect.Return results) = (got_in s vars ≡ got) × IsNone (came (Told status.Ok results))
OpeningEnds s got vars st effect.Checkpoint = (got_in s vars ≡ got) × IsOpening st
OpeningEnds s got vars st _ = ⊥

pub opening-turn : (before : Uid) (s : Sieve) (q : ℤ) (vars : List Datum) (st : FilterStage) (a : Answer)
    → length (filter (rule_of s) vars).arg ≡ length (rule_of s).arg → IsLeft before s q (filter (rule_of s) vars) st → IsOpening st
    → let m = filter_turn (rule_of s) vars st a in OpeningEnds s (got_in s vars) m.0 m.1 m.2
opening-turn before s q vars (opens args) a h left opening = go (is_some f.src) (cap_in (argument 0 args)) refl
  where
    f : Filter
    f = filter (rule_of s) vars

    go : (b : Bool) (o : Option Cap) → cap_in (argument 0 args) ≡ o
        → let m = cond {A = Moved} (b || is_none o) (values_of (filter (rule_of s) vars), asked, effect.Return (number (pos 1) ∷ [])) (
          values_of (record (filter (rule_of s) vars) {
            src = cap_in
                (argument 0 args);
            arg = drop 1 args;
            saved = false;
          }),
          open_saved,
          effect.Checkpoint,
        ) in
        OpeningEnds s (got_in s vars) m.0 m.1 m.2
    go true o is = (got-back s (filter (rule_of s) vars) h, tt)
    go false None is = (got-back s (filter (rule_of s) vars) h, tt)
    go false (Some named) is = (
      got-back s (record (filter (rule_of s) vars) { src = cap_in (argument 0 args); arg = drop 1 args; saved = false })
          (ap length (left named is).1 ∙ argument-long s),
      tt,
    )
opening-turn before s q vars open_saved a h left opening = go (is_fine a)
  where
    go : (b : Bool)
        → let m = cond {A = Moved} b (
          values_of (record (filter (rule_of s) vars) { saved = true }),
          asked,
          effect.Return (number
              (pos 0) ∷ []),
        )
        (values_of (filter (rule_of s) vars), asked, effect.Return (number (pos 3) ∷ [])) in
        OpeningEnds s (got_in s vars) m.0 m.1 m.2
    go true = (got-back s (record (filter (rule_of s) vars) { saved = true }) h, tt)
    go false = (got-back s (filter (rule_of s) vars) h, tt)
opening-turn before s q vars _ a h left opening = absurd opening

-- 2. It is asked for the item behind those that it has taken in

abbrev pub AskingEnds : Sieve → ℕ → List Datum → FilterStage → Effect → Type 0
AskingEnds s m vars st (effect.Return results) = (got_in s vars ≡ pos m) × IsNone (came (Told status.Ok results))
AskingEnds s m vars (transfer_saved p) effect.Checkpoint = got_in s vars ≡ pos m
AskingEnds s m vars asked (effect.Invoke target operation args) =
    (got_in s vars ≡ pos m) × (operation ≡ codes "Transfer") × (number_in (argument 0 args) ≡ pos m)
AskingEnds s m vars st _ = ⊥

take-few : {X : Type 0} (n : ℕ) (xs : List X) → length (take n xs) ≤ length xs
take-few zero xs = omega arith
take-few (suc n) [] = omega arith
take-few (suc n) (x ∷ xs) = let h = take-few n xs in omega (arith, h)

numbered-few : (n : ℕ) (xs : List (List ℕ)) → length (numbered_from n xs) ≤ length xs
numbered-few n [] = omega arith
numbered-few n (x ∷ xs) = let h = numbered-few (n + 1) xs in omega (arith, h)

few : (s : Sieve) → IsTakeOrNumber s → (xs : List (List ℕ)) → length (sifted s xs) ≤ length xs
few (a_take n) plain xs = take-few (so_many n) xs
few numbers plain xs = numbered-few 0 xs
few _ plain xs = absurd plain

-- it has handed on no more than it took in
abbrev Few : ℕ → Filter → Type 0
Few m f = (n : ℕ) × (f.made ≡ pos n) × (n ≤ m)

few-made : (before : Uid) (s : Sieve) (items : List (List ℕ)) (f : Filter) (m : ℕ) → IsTakeOrNumber s → Holds before s items f
    → f.got ≡ pos m → Few m f
few-made before s items f m plain h got = go h.state
  where
    go : IsShut f ⊎ IsOpen before s items f → Few m f
    go (inl x) = (0, x.made, omega arith)
    go (inr x) = (
      length (sifted s x.0),
      x.1.has.made,
      (let same : length x.0 ≡ m = (let e : pos (length x.0) ≡ pos m = sym x.1.has.got ∙ got in cc e) in
          let h = few s plain x.0 in omega (arith, same, h)),
    )

no-last : (m n : ℕ) → n ≤ m → pos m ≡ pos n -ℤ pos 1 → ⊥
no-last m n h same = grind (arith, same, h)

asks-so : (s : Sieve) (f : Filter) (m : ℕ) → length f.arg ≡ length (rule_of s).arg → f.got ≡ pos m
    → AskingEnds s m (asks f).0 (asks f).1 (asks f).2
asks-so s f m h got = go (is_spent f.got) f.src
  where
    go : (b : Bool) (o : Option Cap)
        → let x = cond {A = Moved} b (values_of f, asked, effect.Return (number (pos 3) ∷ text [] ∷ []))
        (with_item {X = Cap} {Y = Moved} o (λ c. (values_of f, asked, effect.Invoke c (codes "Transfer") (number f.got ∷ [])))
        (values_of f, asked, effect.Return (number (pos 3) ∷ text [] ∷ []))) in
        AskingEnds s m x.0 x.1 x.2
    go true o = (got-back s f h ∙ got, tt)
    go false None = (got-back s f h ∙ got, tt)
    go false (Some c) = (got-back s f h ∙ got, refl, got)

gives-so : (s : Sieve) (f : Filter) (m : ℕ) (p : ℤ) → length f.arg ≡ length (rule_of s).arg → f.got ≡ pos m → Few m f → p ≡ pos m
    → AskingEnds s m (gives (rule_of s) f p).0 (gives (rule_of s) f p).1 (gives (rule_of s) f p).2
gives-so s f m p h got made at = go (int_le (pos 1) f.made && int_eq p (f.made -ℤ pos 1)) refl (int_eq p f.made) ((rule_of s).is_over f)
  where
    go : (a : Bool) → (int_le (pos 1) f.made && int_eq p (f.made -ℤ pos 1)) ≡ a → (b c : Bool)
        → let x = cond {A = Moved} a (values_of f, asked, effect.Return (number (pos 0) ∷ f.last ∷ []))
        (cond {A = Moved} (not b) (values_of f, asked, effect.Return (number (pos 2) ∷ text [] ∷ []))
        (cond {A = Moved} c (values_of f, asked, effect.Return (number (pos 1) ∷ text [] ∷ [])) (asks f))) in
        AskingEnds s m x.0 x.1 x.2
    go true is b c = absurd (no-last m made.0 made.2
        (sym at ∙ int-same p (f.made -ℤ pos 1) (and-second (int_le (pos 1) f.made) (int_eq p (f.made -ℤ pos 1)) is)
        ∙ ap (λ z. z -ℤ pos 1) made.1))
    go false is false c = (got-back s f h ∙ got, tt)
    go false is true true = (got-back s f h ∙ got, tt)
    go false is true false = asks-so s f m h got

pub transfer-turn : (before : Uid) (s : Sieve) (items : List (List ℕ)) (vars : List Datum) (m : ℕ) (p : ℤ) (a : Answer)
    → IsTakeOrNumber s → Holds before s items (filter (rule_of s) vars) → got_in s vars ≡ pos m → p ≡ pos m
    → let x = filter_turn (rule_of s) vars (transfers p) a in AskingEnds s m x.0 x.1 x.2
transfer-turn before s items vars m p a plain h got at = go (is_none (filter (rule_of s) vars).src) (filter (rule_of s) vars).saved
  where
    go : (b c : Bool) → let x = cond {A = Moved} b (
      values_of (filter (rule_of s) vars),
      asked,
      effect.Return (number
          (pos 3) ∷ text [] ∷ []),
    )
        (cond {A = Moved} c (gives (rule_of s) (filter (rule_of s) vars) p)
        (values_of (record (filter (rule_of s) vars) { saved = false }), transfer_saved p, effect.Checkpoint)) in
        AskingEnds s m x.0 x.1 x.2
    go true c = (got-back s (filter (rule_of s) vars) h.arg ∙ got, tt)
    go false true = gives-so s (filter (rule_of s) vars) m p h.arg got
        (few-made before s items (filter (rule_of s) vars) m plain h got) at
    go false false = got-back s (record (filter (rule_of s) vars) { saved = false }) h.arg ∙ got

pub transfer_saved-turn : (before : Uid) (s : Sieve) (items : List (List ℕ)) (vars : List Datum) (m : ℕ) (p : ℤ) (a : Answer)
    → IsTakeOrNumber s → Holds before s items (filter (rule_of s) vars) → got_in s vars ≡ pos m → p ≡ pos m
    → let x = filter_turn (rule_of s) vars (transfer_saved p) a in AskingEnds s m x.0 x.1 x.2
transfer_saved-turn before s items vars m p a plain h got at = go (is_fine a)
  where
    go : (b : Bool) → let x = cond {A = Moved} b (gives (rule_of s) (record (filter (rule_of s) vars) { saved = true }) p)
        (values_of (filter (rule_of s) vars), asked, effect.Return (number (pos 3) ∷ text [] ∷ [])) in
        AskingEnds s m x.0 x.1 x.2
    go true = let f = few-made before s items (filter (rule_of s) vars) m plain h got in
        gives-so s (record (filter (rule_of s) vars) { saved = true }) m p h.arg got (f.0, f.1, f.2) at
    go false = (got-back s (filter (rule_of s) vars) h.arg ∙ got, tt)

-- 3. The stage before answered

abbrev pub TakingEnds : Sieve → ℕ → Came → List Datum → FilterStage → Effect → Type 0
TakingEnds s m (an_item t) vars (item_saved true) effect.Checkpoint = got_in s vars ≡ pos (m + 1)
TakingEnds s m (an_item t) vars st _ = ⊥
TakingEnds s m c vars st (effect.Return results) = IsNone (came (Told status.Ok results))
TakingEnds s m c vars st _ = ⊥

-- where it has not taken in as many as a number can tell, it has not handed on as many either
few-spent : (m : ℕ) (got made : ℤ) (n : ℕ) → got ≡ pos m → made ≡ pos n → n ≤ m → is_spent got ≡ false
    → (is_spent got || is_spent made) ≡ false
few-spent m got made n is of few room = neither (is_spent got) (is_spent made) room
    (ap is_spent of ∙ below m n few (ap is_spent (sym is) ∙ room))
  where
    neither : (a b : Bool) → a ≡ false → b ≡ false → (a || b) ≡ false
    neither true b e h = absurd (cc e)
    neither false b e h = h

    below : (m n : ℕ) → n ≤ m → nat_le 0x7FFF_FFFF_FFFF_FFFF m ≡ false → nat_le 0x7FFF_FFFF_FFFF_FFFF n ≡ false
    below m n few h = grind (arith, nat_tests, few, h)

-- a turn that does this one of two does so
by-second : (P : Moved → Type 0) (b : Bool) (x y : Moved) → b ≡ false → P y → P (cond b x y)
by-second P true x y e h = absurd (cc e)
by-second P false x y e h = h

pub taking-turn : (before : Uid) (s : Sieve) (items : List (List ℕ)) (vars : List Datum) (m : ℕ) (a : Answer) → IsTakeOrNumber s
    → Holds before s items (filter (rule_of s) vars) → is_spent (got_in s vars) ≡ false → got_in s vars ≡ pos m
    → let x = filter_turn (rule_of s) vars asked a in TakingEnds s m (came a) x.0 x.1 x.2
taking-turn before s items vars m a plain holds room got = go s plain holds.arg got
    (let few = few-made before s items (filter (rule_of s) vars) m plain holds got in
    few-spent m (got_in s vars) (filter (rule_of s) vars).made few.0 got few.1 few.2 room) (came a)
  where
    more : (g : ℤ) → g ≡ pos m → g +ℤ pos 1 ≡ pos (m + 1)
    more g is = ap (λ z. z +ℤ pos 1) is

    go : (s : Sieve) → IsTakeOrNumber s → length (filter (rule_of s) vars).arg ≡ length (rule_of s).arg → got_in s vars ≡ pos m
        → (is_spent (filter (rule_of s) vars).got || is_spent (filter (rule_of s) vars).made) ≡ false → (c : Came)
        → let x = after_asking (rule_of s) (filter (rule_of s) vars) c in TakingEnds s m c x.0 x.1 x.2
    go (a_take n) plain h got room (an_item t) = let f : Filter = filter (rule_of (a_take n)) vars in
        by-second (λ (x : Moved). TakingEnds (a_take n) m (an_item t) x.0 x.1 x.2) (is_spent f.got || is_spent f.made)
        (answers f (returns_none trouble)) (saves (handed_on (rule_of (a_take n)) t f) (item_saved true)) room
        (got-back (a_take n) (record (handed_on (rule_of (a_take n)) t (filter (rule_of (a_take n)) vars)) { saved = false }) h
        ∙ more (got_in (a_take n) vars) got)
    go numbers plain h got room (an_item t) = let f : Filter = filter (rule_of numbers) vars in
        by-second (λ (x : Moved). TakingEnds numbers m (an_item t) x.0 x.1 x.2) (is_spent f.got || is_spent f.made)
        (answers f (returns_none trouble)) (saves (handed_on (rule_of numbers) t f) (item_saved true)) room
        (got-back numbers (record (handed_on (rule_of numbers) t (filter (rule_of numbers) vars)) { saved = false }) h
        ∙ more (got_in numbers vars) got)
    go s plain h got room the_end = tt
    go s plain h got room nothing = tt
    go _ plain h got room (an_item t) = absurd plain

-- 4. And the item is saved

abbrev pub HandingEnds : Sieve → ℕ → List Datum → Effect → Type 0
HandingEnds s m vars (effect.Return results) = got_in s vars ≡ pos m
HandingEnds s m vars _ = ⊥

pub handing-turn : (s : Sieve) (vars : List Datum) (m : ℕ) (a : Answer)
    → length (filter (rule_of s) vars).arg ≡ length (rule_of s).arg → got_in s vars ≡ pos m
    → let x = filter_turn (rule_of s) vars (item_saved true) a in HandingEnds s m x.0 x.2
handing-turn s vars m a h got = go (is_fine a)
  where
    go : (b : Bool) → let x = cond {A = Moved} b (
      values_of (record (filter (rule_of s) vars) { saved = true }),
      asked,
      effect.Return (number (pos 0) ∷ (filter (rule_of s) vars).last ∷ []),
    )
        (values_of (filter (rule_of s) vars), asked, effect.Return (number (pos 3) ∷ text [] ∷ [])) in
        HandingEnds s m x.0 x.2
    go true = got-back s (record (filter (rule_of s) vars) { saved = true }) h ∙ got
    go false = got-back s (filter (rule_of s) vars) h ∙ got
