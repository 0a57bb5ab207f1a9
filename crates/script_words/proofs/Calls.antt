-- The laws of calls.
use Rattle.std.proofs.Common.{◌≡◌, ℕ, zero, suc, ◌==◌, Bool, true, false, cond, List, [], ◌∷◌}
use Rattle.std.proofs.Common.{length, drop, codes, Option, Some, None, Ok, Err}
use Rattle.std.specs.Prelude.{nat_le, ◌||◌}
use Rattle.script_words.specs.Form.{is_lower, is_digit, is_name_byte}
use Rattle.script_words.specs.Tree.{WrittenArg}
use Rattle.script_words.specs.Reading.{Judged, Reading, Maybe, form_of, behind, read_word, read_lower}
use Rattle.script_words.specs.Reading.{read_digits, read_text, short_text, text_body, has_result, read_ref}
use Rattle.script_words.specs.Reading.{is_value_word, allowed, read_flat, added, read_close, more_by, more_values, closed_by, read_values}
use Rattle.script_words.specs.Reading.{list_by, read_value}
use Rattle.script_words.specs.declared.cause.ScriptCause.TheVariants.{BadForm, BadNumber}
use Rattle.script_words.proofs.Rules.{OnlyForm, only_bind, only_form_of, only_cond, only_word, only_while, only_digits}

-- ## Only the form of a value may be bad

pub only_bool : {A : Type 0} (b : Bool) (x y : Judged A) → OnlyForm x → OnlyForm y → OnlyForm (cond b x y)
only_bool true x y h g = h
only_bool false x y h g = g

pub only_ref : (bytes : List ℕ) → OnlyForm (read_ref bytes)
only_ref bytes =
    only_bind (read_lower bytes) _ (only_while is_name_byte is_lower bytes) (λ n.
    only_bool (has_result n.1) _ _ (only_bind (read_digits (drop 1 n.1)) _ (only_digits (drop 1 n.1)) (λ k. tt)) tt)

pub only_text : (bytes : List ℕ) → OnlyForm (read_text bytes)
only_text bytes =
    only_bind (form_of (text_body false bytes)) short_text (only_form_of (text_body false bytes))
    (λ t. only_cond (nat_le (length t.0) 1024) t)

only_flat : (names : Bool) (bytes : List ℕ) → OnlyForm (read_flat names bytes)
only_flat names [] = tt
only_flat names (b ∷ bytes) =
    only_bool (b == 34) _ _ (only_bind (read_text bytes) _ (only_text bytes) (λ t. tt))
    (only_bool (b == 45) _ _ (only_bind (read_digits bytes) _ (only_digits bytes) (λ d. tt))
    (only_bool (is_digit b) _ _ (only_bind (read_digits (b ∷ bytes)) _ (only_digits (b ∷ bytes)) (λ d. tt))
    (only_bind (read_ref (b ∷ bytes)) _ (only_ref (b ∷ bytes))
    (λ r. only_bind (allowed names r.0) _ (only_cond (names || is_value_word r.0) tt) (λ u. tt)))))

module _ (V : List ℕ → Reading Maybe) (only : (bytes : List ℕ) → OnlyForm (V bytes)) (close : List ℕ) where
  only_close : (so_far : Option (List WrittenArg)) (bytes : List ℕ) → OnlyForm (read_close close so_far bytes)
  only_close so_far bytes = only_bind (read_word close bytes) _ (only_word close bytes) (λ r. tt)

  only_more_by : (o : Option (List ℕ)) (x : Reading (Option (List WrittenArg))) (f : List ℕ → Reading (Option (List WrittenArg)))
      → OnlyForm x
      → ((r : List ℕ) → OnlyForm (f r)) → OnlyForm (more_by o x f)
  only_more_by None x f h g = h
  only_more_by (Some r) x f h g = g r

  only_more : (n : ℕ) (so_far : Option (List WrittenArg)) (bytes : List ℕ) → OnlyForm (more_values V close n so_far bytes)
  only_more zero so_far bytes = only_close so_far bytes
  only_more (suc n) so_far bytes =
      only_more_by (behind (codes ", ") bytes) _ _ (only_close so_far bytes)
      (λ r. only_bind (V r) _ (only r) (λ x. only_more n (added so_far x.0) x.1))

  only_closed_by : (o : Option (List ℕ)) (x : Reading (Option (List WrittenArg))) → OnlyForm x → OnlyForm (closed_by o x)
  only_closed_by None x h = h
  only_closed_by (Some r) x h = tt

  pub only_values : (most : ℕ) (bytes : List ℕ) → OnlyForm (read_values V close most bytes)
  only_values most bytes =
      only_closed_by (behind close bytes) _ (only_bind (V bytes) _ (only bytes) (λ x. only_more most (added (Some []) x.0) x.1))

only_list_by : (o : Option (List ℕ)) (x : Reading Maybe) (f : List ℕ → Reading Maybe) → OnlyForm x → ((r : List ℕ) → OnlyForm (f r))
    → OnlyForm (list_by o x f)
only_list_by None x f h g = h
only_list_by (Some r) x f h g = g r

pub only_value : (names : Bool) (n : ℕ) (bytes : List ℕ) → OnlyForm (read_value names n bytes)
only_value names zero bytes = only_flat names bytes
only_value names (suc n) bytes =
    only_list_by
    (behind (codes "[") bytes) _ _ (only_flat names bytes) (λ r. only_bind (read_values (read_value names n) (codes "]") 255 r) _
    (only_values (read_value names n) (only_value names n) (codes "]") 255 r)
    (λ x. tt))

pub number_not_form : {B : Type 0} → ◌≡◌ {A = Judged B} (Err BadNumber) (Err BadForm) → ⊥
number_not_form e = cc

pub ok_not_form : {B : Type 0} {x : B} → ◌≡◌ {A = Judged B} (Ok x) (Err BadForm) → ⊥
ok_not_form e = cc
