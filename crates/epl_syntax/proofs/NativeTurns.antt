-- Turns of native types, one after the other: what an operation's process does, with the answers that it is told.
use Rattle.std.proofs.Common.{◌≡◌, ℕ, pos, negsuc, true, false, List, [], ◌∷◌, ◌++◌, map, take, None, Some, refl, ap, codes, arith}
use Rattle.std.proofs.lemmas.Fmt.{decimal_digit}
use Rattle.capability.specs.declared.Cap.{Cap}
use Rattle.eden_value.specs.Datum.{Datum, number, truth, text, cap, list, data_of}
use Rattle.eden_value.specs.declared.value.TheConstants.{TEXT_LIMIT}
use Rattle.eden_value.specs.declared.status.Status.TheVariants as status
use Rattle.epl_syntax.specs.declared.effect.Answer.{Answer}
use Rattle.epl_syntax.specs.declared.effect.Answer.TheVariants.{Go, Code, Reply}
use Rattle.epl_syntax.specs.declared.effect.Effect.{Effect}
use Rattle.epl_syntax.specs.declared.effect.Effect.TheVariants.{Return, Checkpoint, Invoke}
use Rattle.epl_syntax.specs.declared.types.Native.{Native}
use Rattle.epl_syntax.specs.declared.types.Native.TheVariants as types
use Rattle.epl_syntax.specs.Edentype.{native}
use Rattle.epl_syntax.specs.Meaning.{begin}
use Rattle.epl_syntax.proofs.Written.{effects}

-- the effects of an operation on these values, with these answers
abbrev doing : Native → List Datum → List ℕ → List Datum → List Answer → List Effect
doing t vars operation args answers = effects (native t) vars (begin (native t) operation args) answers

-- the stage before, with the right to ask it for items
abbrev before : Cap
before = record { uid = record { node = 1; epoch = 1; serial = 2 }; rights = record { bits = 2 } }

abbrev int : ℕ → Datum
int n = number (pos n)

abbrev texts : List (List ℕ) → Datum
texts ts = list (data_of (map text ts))

-- an item that the stage before hands out, and its end
abbrev item : List ℕ → Answer
item t = Reply status.Ok (int 0 ∷ text t ∷ [])

abbrev end : Answer
end = Reply status.Ok (int 1 ∷ text [] ∷ [])

abbrev asks : ℕ → Effect
asks position = Invoke before (codes "Transfer") (int position ∷ [])

abbrev returns : ℕ → List ℕ → Effect
returns code t = Return (int code ∷ text t ∷ [])

-- ---- Cell
set_returns_nothing : doing types.Cell (int 4 ∷ []) (codes "Set") (int 5 ∷ []) (Go ∷ []) ≡ Return [] ∷ []
set_returns_nothing = refl

save_returns_its_code : doing types.Cell (int 4 ∷ []) (codes "Save") [] (Go ∷ Code status.Full ∷ []) ≡ Checkpoint ∷ Return
    (int 12 ∷ []) ∷ []
save_returns_its_code = refl

-- ---- Directory: it holds the stage before under the name `a`
abbrev entries : List Datum
entries = texts (codes "a" ∷ []) ∷ list (data_of (cap (Some before) ∷ [])) ∷ []

look_up_answers_with_the_stored_right : doing types.Directory entries (codes "LookUp") (text (codes "a") ∷ []) (Go ∷ [])
    ≡ Return (int 0 ∷ cap (Some before) ∷ []) ∷ []
look_up_answers_with_the_stored_right = refl

look_up_finds_nothing : doing types.Directory entries (codes "LookUp") (text (codes "b") ∷ []) (Go ∷ []) ≡ Return
    (int 1 ∷ cap None ∷ []) ∷ []
look_up_finds_nothing = refl

a_name_is_added_once : doing types.Directory entries (codes "AddEntry") (text (codes "a") ∷ cap None ∷ []) (Go ∷ []) ≡ Return
    (int 1 ∷ []) ∷ []
a_name_is_added_once = refl

a_change_is_kept : doing types.Directory entries (codes "AddEntry") (text (codes "b") ∷ cap None ∷ []) (Go ∷ Code status.Ok ∷ [])
    ≡ Checkpoint ∷ Return (int 0 ∷ []) ∷ []
a_change_is_kept = refl

a_change_may_not_be_kept : doing types.Directory entries (codes "DeleteEntry") (text (codes "a") ∷ []) (Go ∷ Code status.StoreFault ∷ [])
    ≡ Checkpoint ∷ Return (int 3 ∷ []) ∷ []
a_change_may_not_be_kept = refl

-- ---- Lines: filled with two items
abbrev filled : List Datum
filled = truth true ∷ texts (codes "x" ∷ codes "y" ∷ []) ∷ truth true ∷ []

lines_hands_out : doing types.Lines filled (codes "Transfer") (int 1 ∷ []) (Go ∷ []) ≡ returns 0 (codes "y") ∷ []
lines_hands_out = refl

lines_ends : doing types.Lines filled (codes "Transfer") (int 2 ∷ []) (Go ∷ []) ≡ returns 1 [] ∷ []
lines_ends = refl

lines_is_past : doing types.Lines filled (codes "Transfer") (int 3 ∷ []) (Go ∷ []) ≡ returns 2 [] ∷ []
lines_is_past = refl

lines_is_below : doing types.Lines filled (codes "Transfer") (number (negsuc 0) ∷ []) (Go ∷ []) ≡ returns 2 [] ∷ []
lines_is_below = refl

lines_is_empty : doing types.Lines (truth false ∷ texts [] ∷ truth true ∷ []) (codes "Transfer") (int 0 ∷ []) (Go ∷ []) ≡ returns 3 [] ∷ []
lines_is_empty = refl

lines_saves_before : doing types.Lines (truth true ∷ texts (codes "x" ∷ []) ∷ truth false ∷ []) (codes "Transfer") (int 0 ∷ [])
    (Go ∷ Code status.Ok ∷ [])
    ≡ Checkpoint ∷ returns 0 (codes "x") ∷ []
lines_saves_before = refl

-- ---- filters, open to the stage before with an argument, which have taken in nothing
abbrev fresh : List Datum → List Datum
fresh arg = cap (Some before) ∷ (arg ++ (int 0 ∷ int 0 ∷ text [] ∷ truth true ∷ []))

a_filter_saves_before_it_answers : doing types.Take (fresh (int 1 ∷ [])) (codes "Transfer") (int 0 ∷ [])
    (Go ∷ item (codes "x") ∷ Code status.Ok ∷ [])
    ≡ asks 0 ∷ Checkpoint ∷ returns 0 (codes "x") ∷ []
a_filter_saves_before_it_answers = refl

a_filter_that_is_not_saved : doing types.Take (fresh (int 1 ∷ [])) (codes "Transfer") (int 0 ∷ [])
    (Go ∷ item (codes "x") ∷ Code status.StoreFault ∷ [])
    ≡ asks 0 ∷ Checkpoint ∷ returns 3 [] ∷ []
a_filter_that_is_not_saved = refl

take_ends : doing types.Take (fresh (int 0 ∷ [])) (codes "Transfer") (int 0 ∷ []) (Go ∷ []) ≡ returns 1 [] ∷ []
take_ends = refl

skip_passes_over_one : doing types.Skip (fresh (int 1 ∷ [])) (codes "Transfer") (int 0 ∷ [])
    (Go ∷ item (codes "x") ∷ Code status.Ok ∷ item (codes "y") ∷ Code status.Ok ∷ [])
    ≡ asks 0 ∷ Checkpoint ∷ asks 1 ∷ Checkpoint ∷ returns 0 (codes "y") ∷ []
skip_passes_over_one = refl

only_passes_over_others : doing types.Only (fresh (text (codes "ya") ∷ [])) (codes "Transfer") (int 0 ∷ [])
    (Go ∷ item (codes "y") ∷ Code status.Ok ∷ item (codes "yard") ∷ Code status.Ok ∷ [])
    ≡ asks 0 ∷ Checkpoint ∷ asks 1 ∷ Checkpoint ∷ returns 0 (codes "yard") ∷ []
only_passes_over_others = refl

number_counts_from_1 : doing types.Number (fresh []) (codes "Transfer") (int 0 ∷ []) (Go ∷ item (codes "x") ∷ Code status.Ok ∷ [])
    ≡ asks 0 ∷ Checkpoint ∷ returns 0 (codes "1: x") ∷ []
number_counts_from_1 =
    ap (λ d. asks 0 ∷ Checkpoint ∷ returns 0 (take TEXT_LIMIT (d ++ codes ": x")) ∷ []) (decimal_digit 1 (omega arith))

a_position_is_out_of_reach : doing types.Number (fresh []) (codes "Transfer") (int 5 ∷ []) (Go ∷ []) ≡ returns 2 [] ∷ []
a_position_is_out_of_reach = refl

the_last_item_is_handed_out_again : doing types.Number (cap (Some before) ∷ int 1 ∷ int 1 ∷ text (codes "1: x") ∷ truth true ∷ [])
    (codes "Transfer") (int 0 ∷ []) (Go ∷ []) ≡ returns 0 (codes "1: x") ∷ []
the_last_item_is_handed_out_again = refl

a_filter_ends_with_its_stream : doing types.Skip (fresh (int 1 ∷ [])) (codes "Transfer") (int 0 ∷ [])
    (Go ∷ end ∷ []) ≡ asks 0 ∷ returns 1 [] ∷ []
a_filter_ends_with_its_stream = refl

trouble_is_handed_on : doing types.Skip (fresh (int 1 ∷ [])) (codes "Transfer") (int 0 ∷ []) (Go ∷ Reply status.Broken [] ∷ [])
    ≡ asks 0 ∷ returns 3 [] ∷ []
trouble_is_handed_on = refl

-- ---- Sink
pump_takes_one : doing types.Sink (cap (Some before) ∷ texts [] ∷ truth true ∷ []) (codes "Pump") (int 1 ∷ [])
    (Go ∷ item (codes "x") ∷ Code status.Ok ∷ [])
    ≡ asks 0 ∷ Checkpoint ∷ Return (int 0 ∷ int 1 ∷ []) ∷ []
pump_takes_one = refl

pump_comes_to_the_end : doing types.Sink (cap (Some before) ∷ texts (codes "x" ∷ []) ∷ truth true ∷ []) (codes "Pump") (int 9 ∷ [])
    (Go ∷ end ∷ [])
    ≡ asks 1 ∷ Return (int 1 ∷ int 1 ∷ []) ∷ []
pump_comes_to_the_end = refl

pump_is_not_open : doing types.Sink (cap None ∷ texts [] ∷ truth true ∷ []) (codes "Pump") (int 1 ∷ []) (Go ∷ []) ≡ Return
    (int 3 ∷ int 0 ∷ []) ∷ []
pump_is_not_open = refl
