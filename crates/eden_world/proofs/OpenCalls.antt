-- The names of the shell's calls that are still open, listed call by call.
use Rattle.std.proofs.Common.{◌≡◌, ◌≤◌, ◌<◌, ◌+◌, ℕ, Bool, true, false, cond, not, List, [], ◌∷◌, ◌++◌, drop, length}
use Rattle.std.proofs.Common.{Option, None, Some}
use Rattle.std.proofs.Common.{get_or, refl, sym, ◌∙◌, ap}
use Rattle.std.proofs.lemmas.List.{at_drop_more, at_drop_all, append_assoc, append-nil}
use Rattle.std.specs.List.{cons_option, filter_map}
use Rattle.eden_model.specs.Traffic.{Traffic, names_of, is_open, shell_name}
use Rattle.eden_model.specs.Traffic as traffic
use Rattle.invocation.specs.Carries.{Agree, Carries, Same}
use Rattle.invocation.specs.Mail.{Mail}
use Rattle.invocation.specs.declared.call.Call.{Call}
use Rattle.eden_world.specs.Unanswered.{open_name, open_names}

-- 1. One call more

split-first : (o : Option (List ℕ)) (names : List (List ℕ)) → cons_option o [] ++ names ≡ cons_option o names
split-first None names = refl
split-first (Some name) names = refl

-- those so far, and those of the calls from this place on
abbrev pub Lists : List (List ℕ) → ℕ → List Call → Type 0
Lists names i calls = names ++ open_names (drop i calls) ≡ open_names calls

pub call-more : (names later : List (List ℕ)) (calls : List Call) (i : ℕ) (c : Call) → i < length calls → c ≡ get_or calls i c
    → later ≡ names ++ open_names (c ∷ []) → Lists names i calls → Lists later (i + 1) calls
call-more names later calls i c within is grows so =
    ap (λ l. l ++ open_names (drop (i + 1) calls)) grows
    ∙ append_assoc names (open_names (c ∷ [])) (open_names (drop (i + 1) calls))
    ∙ ap (λ l. names ++ l) (split-first (open_name c) (open_names (drop (i + 1) calls))
    ∙ sym (at_drop_more open_names calls i c within ∙ ap (λ x. open_names (x ∷ drop (i + 1) calls)) (sym is))) ∙ so

-- 2. All of them

open-there : (c : Call) (d : traffic.Call) → Same c d → cond (is_open d) (shell_name d.asker) None ≡ open_name c
open-there c d same = ap (λ b. cond b (shell_name d.asker) None) same.open_ ∙ ap (λ a. cond (not c.closed) (shell_name a) None) same.asker
    ∙ turned c.closed (shell_name c.asker)
  where
    turned : (b : Bool) (o : Option (List ℕ)) → cond (not b) o None ≡ cond b None o
    turned true o = refl
    turned false o = refl

agree-names : (n : ℕ) (cs : List Call) (es : List (ℕ × traffic.Call)) → Agree n cs es
    → open_names cs ≡ filter_map (λ (e : ℕ × traffic.Call). cond (is_open e.1) (shell_name e.1.asker) None) es
agree-names n [] [] h = refl
agree-names n (c ∷ cs) (e ∷ es) h = ap (λ o. cons_option o (open_names cs)) (sym (open-there c e.1 h.1))
    ∙ ap (λ l. cons_option (cond (is_open e.1) (shell_name e.1.asker) None) l) (agree-names (n + 1) cs es h.2)
agree-names n [] (e ∷ es) h = absurd h
agree-names n (c ∷ cs) [] h = absurd h

pub names-listed : (names : List (List ℕ)) (m : Mail) (i : ℕ) → length m.calls ≤ i → Lists names i m.calls
    → (t : Traffic) → Carries m t → names ≡ names_of is_open t
names-listed names m i all so t carries =
    sym (append-nil names) ∙ ap (λ l. names ++ l) (sym (at_drop_all open_names m.calls i all)) ∙ so
    ∙ agree-names 1 m.calls t.calls carries.calls
