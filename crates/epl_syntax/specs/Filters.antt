-- The native types Take, Skip, Only and Number, the middle stages of a stream: each takes the items of the stage before, one after the
-- other, and hands some of them on.
--
--   Open      needs right 1, takes a capability of the stage before and an argument, where the type has one; returns 1 where it is open or
--             the capability is absent, else keeps both and returns 0, or 3 where they were not saved
--   Transfer  needs 2, takes a position, returns a code and an item as all stages do; 3 where it is not open
--
-- Take hands on as many items as its argument, Skip all but so many, Only those that begin with its argument, and Number all, each with its
-- number before it.
use Rattle.std.specs.Prelude.{ℕ, ◌+◌, ℤ, pos, ◌+ℤ◌, ◌-ℤ◌, int_le, Bool, true, false, not, cond, ◌&&◌, ◌||◌, List, [], ◌∷◌, ◌++◌, map}
use Rattle.std.specs.Prelude.{length, take, drop, Option, None, is_some, codes}
use Rattle.std.specs.Ordering.{int_eq}
use Rattle.std.specs.Fmt.{signed_decimal}
use Rattle.capability.specs.declared.Cap.{Cap}
use Rattle.eden_value.specs.Datum.{Datum, number, truth, text, cap}
use Rattle.eden_value.specs.Shape.{ints, texts, caps}
use Rattle.eden_value.specs.declared.value.TheConstants.{TEXT_LIMIT}
use Rattle.eden_model.specs.Map.{with_item, is_none, same_text}
use Rattle.epl_syntax.specs.declared.effect.Answer.{Answer}
use Rattle.epl_syntax.specs.declared.effect.Effect.{Effect}
use Rattle.epl_syntax.specs.declared.effect.Effect.TheVariants.{Checkpoint}
use Rattle.epl_syntax.specs.Operators.{greatest}
use Rattle.epl_syntax.specs.Outline.{Slot, Outline, kept}
use Rattle.epl_syntax.specs.Simple.{of_one_class, outline, argument, number_in, truth_in, text_in, cap_in, returns_code, is_fine}
use Rattle.epl_syntax.specs.Streams.{saved_slot, end_code, out_of_reach, trouble, returns_item, returns_none, asks_for, Came, an_item}
use Rattle.epl_syntax.specs.Streams.{the_end, nothing, came}

-- what a filter holds: the stage before, its argument, how many items it took in and handed on, and the last of these
pub record Filter : Type 0 where
  pub src : Option Cap
  -- one value, or none where the type has no argument
  pub arg : List Datum
  pub got : ℤ
  pub made : ℤ
  pub last : Datum
  pub saved : Bool

-- what tells the filters apart
pub record Rule : Type 0 where
  pub name : List ℕ
  -- the variable of the argument, if there is one
  pub arg : List Slot
  -- whether it hands on no more
  pub is_over : Filter → Bool
  -- whether the next item of the stage before is handed on
  pub passes : Filter → List ℕ → Bool
  -- what it becomes
  pub becomes : Filter → List ℕ → List ℕ

-- Take: so many items are handed on
abbrev pub take_rule : Rule
take_rule = record {
  name = codes "Take";
  arg = kept (number (pos 0)) ints true ∷ [];
  is_over = λ f. int_le (number_in (argument 0 f.arg)) f.made;
  passes = λ f item. true;
  becomes = λ f item. item;
}

-- Skip: all but so many
abbrev pub skip_rule : Rule
skip_rule = record {
  name = codes "Skip";
  arg = kept (number (pos 0)) ints true ∷ [];
  is_over = λ f. false;
  passes = λ f item. int_le (number_in (argument 0 f.arg)) f.got;
  becomes = λ f item. item;
}

-- whether an item begins with a text
abbrev pub begins_with : List ℕ → List ℕ → Bool
begins_with front item = same_text (take (length front) item) front

-- Only: those that begin with a text
abbrev pub only_rule : Rule
only_rule = record {
  name = codes "Only";
  arg = kept (text []) texts true ∷ [];
  is_over = λ f. false;
  passes = λ f item. begins_with (text_in (argument 0 f.arg)) item;
  becomes = λ f item. item;
}

-- a number, a colon, a blank and an item, cut to the greatest length of a text
abbrev pub numbered : ℤ → List ℕ → List ℕ
numbered n item = take TEXT_LIMIT (signed_decimal n ++ (codes ": " ++ item))

-- Number: all, each with its number, counted from 1
abbrev pub number_rule : Rule
number_rule = record {
  name = codes "Number";
  arg = [];
  is_over = λ f. false;
  passes = λ f item. true;
  becomes = λ f item. numbered (f.made +ℤ pos 1) item;
}

-- the variables: src, the argument, got, made, last, saved
abbrev pub filter_slots : Rule → List Slot
filter_slots r = kept (cap None) caps true ∷ (r.arg ++
    (kept (number (pos 0)) ints true ∷ kept (number (pos 0)) ints true ∷ kept (text []) texts true ∷ saved_slot ∷ []))

-- what is seen of a filter: its variables and operations
abbrev pub filter_outline : Rule → Outline
filter_outline r = outline r.name (filter_slots r)
    (of_one_class (codes "Open") 1 (caps ∷ map (λ v. v.kind) r.arg) ∷ of_one_class (codes "Transfer") 2 (ints ∷ []) ∷ [])

-- what a filter holds whose variables have these values
abbrev pub filter : Rule → List Datum → Filter
filter r vars = let n = length r.arg in record {
  src = cap_in (argument 0 vars);
  arg = take n (drop 1 vars);
  got = number_in (argument (n + 1) vars);
  made = number_in (argument (n + 2) vars);
  last = argument (n + 3) vars;
  saved = truth_in (argument (n + 4) vars);
}

-- the values of the variables of a filter that holds this
abbrev pub values_of : Filter → List Datum
values_of f = cap f.src ∷ (f.arg ++ (number f.got ∷ number f.made ∷ f.last ∷ truth f.saved ∷ []))

-- what stored values have to meet: the number of items handed on is at least 0 and at most that of items taken in
abbrev pub counts_fit : Rule → List Datum → Bool
counts_fit r vars = let f = filter r vars in int_le (pos 0) f.made && int_le f.made f.got

-- what is left to do of an operation
pub data Stage : Type 0 where
  -- it is opened with these arguments, and then saved
  opens : (args : List Datum) → Stage
  open_saved : Stage
  -- it hands out the item at a position, saved before where it was not
  transfers transfer_saved : (position : ℤ) → Stage
  -- the stage before was asked
  asked : Stage
  -- an item was taken in, and is handed on or not once it is saved
  item_saved : (passed : Bool) → Stage

-- how an operation begins
abbrev pub first_stage : List ℕ → List Datum → Stage
first_stage name args = cond (same_text name (codes "Open")) (opens args) (transfers (number_in (argument 0 args)))

-- what a turn comes to: the values after it, what is left to do, and the effect
abbrev pub Moved : Type 0
Moved = List Datum × Stage × Effect

-- the turn ends in an answer
abbrev pub answers : Filter → Effect → Moved
answers f effect = (values_of f, asked, effect)

-- it is saved, and goes on so
abbrev pub saves : Filter → Stage → Moved
saves f then_ = (values_of (record f { saved = false }), then_, Checkpoint)

-- behind a checkpoint: it goes on as saved where that was acknowledged, else the turn ends in the other answer
abbrev pub saved_so : Filter → Answer → Effect → (Filter → Moved) → Moved
saved_so f answer otherwise go = cond (is_fine answer) (go (record f { saved = true })) (answers f otherwise)

-- a count that cannot be counted on: no number of 64 bits is greater
abbrev pub is_spent : ℤ → Bool
is_spent count = int_le greatest count

-- the stage before is asked for the next item; trouble where there is none, or where as many were taken in as a number can tell
abbrev pub asks : Filter → Moved
asks f = cond (is_spent f.got) (answers f (returns_none trouble))
    (with_item f.src (λ c. (values_of f, asked, asks_for c f.got)) (answers f (returns_none trouble)))

-- the item at a position: the last one again, or the next one
abbrev pub gives : Rule → Filter → ℤ → Moved
gives r f p =
    cond (int_le (pos 1) f.made && int_eq p (f.made -ℤ pos 1)) (answers f (returns_item f.last))
    (cond (not (int_eq p f.made)) (answers f (returns_none out_of_reach))
    (cond (r.is_over f) (answers f (returns_none end_code)) (asks f)))

-- an item is taken in and handed on
abbrev pub handed_on : Rule → List ℕ → Filter → Filter
handed_on r item f = record f { got = f.got +ℤ pos 1; made = f.made +ℤ pos 1; last = text (r.becomes f item) }

-- an item is taken in and not handed on
abbrev pub passed_over : Filter → Filter
passed_over f = record f { got = f.got +ℤ pos 1 }

-- an item is taken in, and saved before it is answered; trouble where no number could tell how many there are then, which no filter
-- comes to that asked for the item and handed on no more than it took in
abbrev pub takes : Rule → Filter → List ℕ → Moved
takes r f item = cond (is_spent f.got || is_spent f.made) (answers f (returns_none trouble))
    (cond (r.passes f item) (saves (handed_on r item f) (item_saved true)) (saves (passed_over f) (item_saved false)))

-- what the stage before answered is taken
abbrev pub after_asking : Rule → Filter → Came → Moved
after_asking r f (an_item item) = takes r f item
after_asking r f the_end = answers f (returns_none end_code)
after_asking r f nothing = answers f (returns_none trouble)

-- it keeps the stage before and the argument
abbrev pub opened : List Datum → Filter → Filter
opened args f = record f { src = cap_in (argument 0 args); arg = drop 1 args }

-- a turn: the values after it, what is left to do, and the effect
abbrev pub filter_turn : Rule → List Datum → Stage → Answer → Moved
filter_turn r vars (opens args) answer = let f = filter r vars in
    cond (is_some f.src || is_none (cap_in (argument 0 args))) (answers f (returns_code 1)) (saves (opened args f) open_saved)
filter_turn r vars open_saved answer = saved_so (filter r vars) answer (returns_code trouble) (λ f. answers f (returns_code 0))
filter_turn r vars (transfers p) answer = let f = filter r vars in
    cond (is_none f.src) (answers f (returns_none trouble)) (cond f.saved (gives r f p) (saves f (transfer_saved p)))
filter_turn r vars (transfer_saved p) answer = saved_so (filter r vars) answer (returns_none trouble) (λ f. gives r f p)
filter_turn r vars asked answer = after_asking r (filter r vars) (came answer)
filter_turn r vars (item_saved passed) answer =
    saved_so (filter r vars) answer (returns_none trouble) (λ f. cond passed (answers f (returns_item f.last)) (asks f))
