-- Turns over a map's entries, each as the meaning has it over the values of the variables.
use Rattle.std.specs.Prelude.{Vec, Result, Ok, Err, IfOk}
use Rattle.std.specs.declared.alloc.AllocError.{AllocError}
use Rattle.std.proofs.Common.{◌≡◌, ℕ, zero, suc, ◌+◌, ◌==◌, pos, Bool, true, false, cond, not, nat_lt, nat_eq, List, [], ◌∷◌, ◌++◌}
use Rattle.std.proofs.Common.{map, length, take, drop, slice_get, position, remove, Option, None, Some, is_some, true≢false, refl, sym}
use Rattle.std.proofs.Common.{ap, ◌∙◌, arith}
use Rattle.std.specs.declared.alloc.Global.{Global}
use Rattle.std.specs.Cmp.Lexicographic.{pointwise}
use Rattle.std.specs.List.{position_or_len}
use Rattle.std.specs.Map.{keys_of}
use Rattle.std.specs.Map as maps
use Rattle.std.specs.Option.{option_map}
use Rattle.std.proofs.lemmas.List.{map-append}
use Rattle.std.proofs.lemmas.Option.{slice_get-map}
use Rattle.capability.specs.declared.Cap.{Cap}
use Rattle.eden_value.specs.Datum.{Datum, number, text, cap}
use Rattle.eden_value.specs.Code.{items_of-data_of}
use Rattle.eden_value.specs.declared.value.TheConstants.{LIST_LIMIT}
use Rattle.eden_model.specs.Map.{with_item}
use Rattle.epl_syntax.specs.declared.effect.Answer.{Answer}
use Rattle.epl_syntax.specs.declared.effect.Answer.TheVariants.{Go}
use Rattle.epl_syntax.specs.declared.effect.Effect.{Effect}
use Rattle.epl_syntax.specs.declared.effect.Effect.TheVariants.{Return, Checkpoint}
use Rattle.epl_syntax.specs.Same.{same}
use Rattle.epl_syntax.specs.Simple.{argument, returns_code}
use Rattle.epl_syntax.specs.Directory.{Entries, entries, values_of, place_of, with_entry, without, without_entry}
use Rattle.epl_syntax.specs.Directory.{Stage, adds, looks, deletes, changed, directory_turn}
use Rattle.epl_syntax.proofs.SameText.{same_as_pointwise}
use Rattle.directory_eject.specs.View.{DirectoryEntry, names_in, held_in, vars_of}
use Rattle.directory_eject.proofs.Begins.{chosen, passed}

-- whether an entry has this name
abbrev pub named : List ℕ → Vec ℕ Global → Bool
named n k = pointwise nat_eq n k.items

some_item : {X Y : Type 0} (o : Option X) (x : X) (f : X → Y) (y : Y) → o ≡ Some x → with_item o f y ≡ f x
some_item o x f y h = ap (λ p. with_item p f y) h

no_item : {X Y : Type 0} (o : Option X) (f : X → Y) (y : Y) → o ≡ None → with_item o f y ≡ y
no_item o f y h = ap (λ p. with_item p f y) h

is_there : {X Y : Type 0} (o : Option X) (x : Y) (y : Y) → is_some o ≡ true → with_item o (λ _. x) y ≡ x
is_there None x y h = absurd (true≢false (sym h))
is_there (Some i) x y h = refl

pub is_absent : {X : Type 0} (o : Option X) → is_some o ≡ false → o ≡ None
is_absent None h = refl
is_absent (Some i) h = absurd (true≢false h)

map_take : {X Y : Type 0} (f : X → Y) (i : ℕ) (xs : List X) → map f (take i xs) ≡ take i (map f xs)
map_take f zero xs = refl
map_take f (suc i) [] = refl
map_take f (suc i) (x ∷ xs) = ap (λ l. f x ∷ l) (map_take f i xs)

map_drop : {X Y : Type 0} (f : X → Y) (i : ℕ) (xs : List X) → map f (drop i xs) ≡ drop i (map f xs)
map_drop f zero xs = refl
map_drop f (suc i) [] = refl
map_drop f (suc i) (x ∷ xs) = map_drop f i xs

map_without : {X : Type 0} (f : X → Datum) (i : ℕ) (xs : List X) → map f (remove xs i) ≡ without i (map f xs)
map_without f i xs =
    map-append f (take i xs) (drop (suc i) xs) ∙ (λ j. map_take f i xs j ++ map_drop f (suc i) xs j)
    ∙ ap (λ k. take i (map f xs) ++ drop k (map f xs)) (next i)
  where
    next : (k : ℕ) → suc k ≡ k + 1
    next k = omega arith

-- the names and the capabilities are found again in the variables
entries_again : (es : List DirectoryEntry) → entries (vars_of es) ≡ record { names = names_in es; held = held_in es }
entries_again es = λ i. record { names = items_of-data_of (names_in es) i; held = items_of-data_of (held_in es) i }

place_or_end : (n : List ℕ) (es : List DirectoryEntry)
    → position_or_len (same (text n)) (names_in es) ≡ position_or_len (named n) (keys_of es)
place_or_end n [] = refl
place_or_end n (e ∷ es) = λ i. cond (not (same_as_pointwise n e.0.items i)) (1 + place_or_end n es i) 0

as_many : (es : List DirectoryEntry) → length (names_in es) ≡ length (keys_of es)
as_many [] = refl
as_many (e ∷ es) = ap suc (as_many es)

as_many_entries : (es : List DirectoryEntry) → length (names_in es) ≡ length es
as_many_entries [] = refl
as_many_entries (e ∷ es) = ap suc (as_many_entries es)

-- the names of the keys, and what the values hold
pub names_of_keys : (es : List DirectoryEntry) → map (λ k. text k.items) (keys_of es) ≡ names_in es
names_of_keys [] = refl
names_of_keys (e ∷ es) = ap (λ l. text e.0.items ∷ l) (names_of_keys es)

pub held_of_values : (es : List DirectoryEntry) → map cap (maps.values_of es) ≡ held_in es
held_of_values [] = refl
held_of_values (e ∷ es) = ap (λ l. cap e.1 ∷ l) (held_of_values es)

-- a name stands where the map finds it
pub place : (n : List ℕ) (es : List DirectoryEntry) → place_of (text n) (entries (vars_of es)) ≡ position (named n) (keys_of es)
place n es =
    ap (place_of (text n)) (entries_again es)
    ∙ (λ i. cond (nat_lt (place_or_end n es i) (as_many es i)) (Some (place_or_end n es i)) None)

module _ (n : List ℕ) (es : List DirectoryEntry) (a : Answer) where
  pub add_there : (c : Option Cap) → is_some (position (named n) (keys_of es)) ≡ true
      → directory_turn (vars_of es) (adds n c) a ≡ (vars_of es, changed, returns_code 1)
  add_there c h = is_there (place_of (text n) (entries (vars_of es))) _ _ (ap is_some (place n es) ∙ h)

  abbrev full : Bool
  full = length (entries (vars_of es)).names == LIST_LIMIT

  full_is : full ≡ (length es == LIST_LIMIT)
  full_is = ap (λ (d : Entries). length d.names == LIST_LIMIT) (entries_again es) ∙ ap (λ m. m == LIST_LIMIT) (as_many_entries es)

  pub add_full : (c : Option Cap) → position (named n) (keys_of es) ≡ None → (length es == LIST_LIMIT) ≡ true
      → directory_turn (vars_of es) (adds n c) a ≡ (vars_of es, changed, returns_code 2)
  add_full c h k =
      no_item (place_of (text n) (entries (vars_of es))) _ _ (place n es ∙ h) ∙ chosen full _ _ (full_is ∙ k)

  pub look_there : (i : ℕ) (k : Vec ℕ Global) (c : Option Cap) → position (named n) (keys_of es) ≡ Some i → slice_get es i ≡ Some (k, c)
      → directory_turn (vars_of es) (looks n) a ≡ (vars_of es, changed, Return (number (pos 0) ∷ cap c ∷ []))
  look_there i k c h at =
      let found : argument i (entries (vars_of es)).held ≡ cap c =
      ap (λ (d : Entries). argument i d.held) (entries_again es)
      ∙ ap (λ o. with_item o (λ d. d) (cap None)) (slice_get-map (λ (e : DirectoryEntry). cap e.1) es i
      ∙ ap (option_map (λ (e : DirectoryEntry). cap e.1)) at) in
      ap (λ ds. (vars_of es, changed, Return ds)) (some_item (place_of (text n) (entries (vars_of es))) i _ _ (place n es ∙ h)
      ∙ ap (λ d. number (pos 0) ∷ d ∷ []) found)

  pub look_absent : position (named n) (keys_of es) ≡ None
      → directory_turn (vars_of es) (looks n) a ≡ (vars_of es, changed, Return (number (pos 1) ∷ cap None ∷ []))
  look_absent h =
      ap (λ ds. (vars_of es, changed, Return ds)) (no_item (place_of (text n) (entries (vars_of es))) _ _ (place n es ∙ h))

  pub delete_there : (i : ℕ) → position (named n) (keys_of es) ≡ Some i
      → directory_turn (vars_of es) (deletes n) a ≡ (vars_of (remove es i), changed, Checkpoint)
  delete_there i h =
      some_item (place_of (text n) (entries (vars_of es))) i _ _ (place n es ∙ h)
      ∙ ap (λ vs. (vs, changed, Checkpoint)) (ap (λ d. values_of (without_entry i d)) (entries_again es)
      ∙ ap values_of (λ j. record {
        names = sym (map_without (λ (e : DirectoryEntry). text e.0.items) i es) j;
        held = sym (map_without (λ (e : DirectoryEntry). cap e.1) i es) j;
      }))

  pub delete_absent : position (named n) (keys_of es) ≡ None
      → directory_turn (vars_of es) (deletes n) a ≡ (vars_of es, changed, returns_code 1)
  delete_absent h = no_item (place_of (text n) (entries (vars_of es))) _ _ (place n es ∙ h)

-- one more entry
pub add_new : (es : List DirectoryEntry) (a : Answer) (k : Vec ℕ Global) (c : Option Cap) → position (named k.items) (keys_of es) ≡ None
    → (length es == LIST_LIMIT) ≡ false
    → directory_turn (vars_of es) (adds k.items c) a ≡ (vars_of (es ++ (k, c) ∷ []), changed, Checkpoint)
add_new es a k c h few =
    let n = k.items in
    no_item (place_of (text n) (entries (vars_of es))) _ _ (place n es ∙ h) ∙ passed (full n es a) _ _ (full_is n es a ∙ few)
    ∙ ap (λ vs. (vs, changed, Checkpoint)) (ap (λ d. values_of (with_entry (text n) (cap c) d)) (entries_again es)
    ∙ ap values_of (λ j. record {
      names = sym (map-append (λ (e : DirectoryEntry). text e.0.items) es ((k, c) ∷ [])) j;
      held = sym (map-append (λ (e : DirectoryEntry). cap e.1) es ((k, c) ∷ [])) j;
    }))

-- ---- the same over the values that a directory is seen as

module _ (es : List DirectoryEntry) (v : List Datum) (seen : vars_of es ≡ v) (s : Stage) where
  -- a turn that changes nothing
  pub stays : (e : Effect) → directory_turn (vars_of es) s Go ≡ (vars_of es, changed, e) → (r : Result Effect AllocError)
      → IfOk r (λ f. f ≡ e) → IfOk r (λ f. directory_turn v s Go ≡ (v, changed, f))
  stays e turn (Ok f) h =
      sym (ap (λ w. directory_turn w s Go) seen) ∙ turn ∙ (λ i. (seen i, changed, sym h i))
  stays e turn (Err x) h = h

  -- a turn after which the variables have these values
  pub becomes : (w : List Datum) (e : Effect) → directory_turn (vars_of es) s Go ≡ (w, changed, e) → directory_turn v s Go ≡ (w, changed, e)
  becomes w e turn = sym (ap (λ u. directory_turn u s Go) seen) ∙ turn
