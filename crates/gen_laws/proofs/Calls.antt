-- The lines of calls, and of other commands of one number.
use Rattle.std.proofs.Common.{◌≡◌, ◌≤◌, ◌∙◌, ap, sym, refl, ℕ, true, false, List, [], ◌∷◌, ◌++◌, length}
use Rattle.std.proofs.Common.{None, codes, arith, append-nil, length-append, inr}
use Rattle.std.specs.List.{list_all, list_any}
use Rattle.std.specs.Str.{bytes_eq}
use Rattle.std.proofs.lemmas.Bool.{and_from, or_from, leb-true}
use Rattle.std.proofs.lemmas.Slice.Eq.{bytes_eq-Decides}
use Rattle.script_words.specs.Form.{is_among, is_lower, is_no_blank, is_upper, is_printable}
use Rattle.script_words.specs.Causes.{RowFits, first_word, names_of}
use Rattle.script_words.specs.Grammar.{Number, Values}
use Rattle.script_words.specs.Tree.{Row, row_depth, lose}
use Rattle.eden_script.specs.Causes.{Fits, brings, command_words, types, uses}
use Rattle.eden_script.specs.Declarations.{native_alone, type_names}
use Rattle.eden_script.specs.Grammar.{Command, Holds}
use Rattle.eden_script.specs.Parts.{begins_type}
use Rattle.eden_script.specs.Tree.{WrittenCommand, call, crash, create, does, finish, go, restart}
use Rattle.gen_laws.proofs.Digits.{AreDigits, both-pass, digits-print}
use Rattle.gen_laws.proofs.Cut.{begins-none, word-of}
use Rattle.gen_laws.proofs.Said.{IsLineOf}

-- other words are not `nodes`
pub other-word : (bytes word : List ℕ) → first_word bytes ≡ word → bytes_eq word (codes "nodes") ≡ false
    → first_word bytes ≡ codes "nodes" → ⊥
other-word bytes word is differ bad =
    let yes : bytes_eq word (codes "nodes") ≡ true = (bytes_eq-Decides word (codes "nodes")).1 (sym is ∙ bad) in
    let wrong : false ≡ true = sym differ ∙ yes in cc wrong

-- ## Calls

-- `call Q C.OP(VALS)`
abbrev pub call-bytes : (q c op vals : List ℕ) → List ℕ
call-bytes q c op vals = codes "call " ++ (q ++ (32 ∷ (c ++ (46 ∷ (op ++ (40 ∷ (vals ++ 41 ∷ [])))))))

-- what is asked of a call of an Eject that is there, under a new name
pub record IsCall (names : List (List ℕ)) (q c op vals : List ℕ) (args : Row) : Type 0 where
  pub new_name : is_lower q ≡ true
  pub new_prints : list_all is_printable q ≡ true
  pub new_short : length q ≤ 32
  pub name : is_lower c ≡ true
  pub name_prints : list_all is_printable c ≡ true
  pub name_short : length c ≤ 32
  pub operation : is_upper op ≡ true
  pub operation_prints : list_all is_printable op ≡ true
  pub operation_short : length op ≤ 32
  pub values : Values args vals
  pub values_print : list_all is_printable vals ≡ true
  pub values_short : length vals ≤ 1024
  pub shallow : row_depth args ≤ 4
  pub fits : RowFits args
  pub no_names : names_of args ≡ []
  pub there : is_among names c ≡ true
  pub new : is_among names q ≡ false

module _ (names : List (List ℕ)) (q c op vals : List ℕ) (args : Row) (h : IsCall names q c op vals args) where
  abbrev bytes : List ℕ
  bytes = call-bytes q c op vals

  abbrev last-part : List ℕ
  last-part = 40 ∷ (vals ++ 41 ∷ [])

  abbrev name-part : List ℕ
  name-part = c ++ (46 ∷ (op ++ last-part))

  prints : list_all is_printable bytes ≡ true
  prints = both-pass is_printable q (32 ∷ name-part) h.new_prints
      (both-pass is_printable c (46 ∷ (op ++ last-part)) h.name_prints
      (both-pass is_printable op last-part h.operation_prints
      (both-pass is_printable vals (41 ∷ []) h.values_print refl)))

  short : length bytes ≤ 4096
  short =
      let a = length-append q (32 ∷ name-part) in
      let b = length-append c (46 ∷ (op ++ last-part)) in
      let d = length-append op last-part in
      let e = length-append vals (41 ∷ []) in
      omega (arith, a, b, d, e, h.new_short, h.name_short, h.operation_short, h.values_short)

  first : first_word bytes ≡ codes "call"
  first = word-of (codes "call") (q ++ (32 ∷ name-part)) refl

  pub call-line : IsLineOf names bytes (call q (record { name = c; result = None }) op args)
  call-line = record {
    printable = prints;
    short = short;
    word = ap (is_among command_words) first;
    no_nodes = other-word bytes (codes "call") first refl;
    no_type = begins-none 99 (codes "all " ++ (q ++ (32 ∷ name-part))) (λ is. omega (arith, is));
    spells = (
      codes "call ",
      q ++ (32 ∷ name-part),
      refl,
      (
        q,
        32 ∷ name-part,
        (refl, h.new_name),
        (
          codes " ",
          name-part,
          refl,
          (
            c,
            46 ∷ (op ++ last-part),
            (refl, h.name),
            (
              codes ".",
              op ++ last-part,
              refl,
              (
                op,
                last-part,
                (refl, h.operation),
                (
                  codes "(",
                  vals ++ 41 ∷ [],
                  refl,
                  (vals, codes ")", h.values, refl, refl),
                  refl,
                ),
                refl,
              ),
              refl,
            ),
            refl,
          ),
          refl,
        ),
        refl,
      ),
      refl,
    );
    holds = h.shallow;
    fits = (tt, h.fits);
    known = and_from (is_among names c) _ h.there (ap (list_all (is_among names)) h.no_names);
    types_known = refl;
    new = or_from _ _ h.new refl;
  }

-- ## Other commands

-- what is asked of a command of one word and one number, which has no name
pub record IsPlain (word : List ℕ) (ds : List ℕ) (o : WrittenCommand) : Type 0 where
  pub prints : list_all is_printable word ≡ true
  pub short : length word ≤ 32
  pub whole : list_all is_no_blank word ≡ true
  pub among : is_among command_words word ≡ true
  pub no_nodes : bytes_eq word (codes "nodes") ≡ false
  pub no_type : begins_type (word ++ 32 ∷ ds) ≡ false
  pub spells : Command o (word ++ 32 ∷ ds)
  pub holds : Holds o
  pub fits : Fits 3 o
  pub uses_none : uses (does o) ≡ []
  pub types_none : types (does o) ≡ []
  pub brings_none : brings (does o) ≡ []

module _ (names : List (List ℕ)) (n : ℕ) (ds : List ℕ) (digits : AreDigits n ds) (few : length ds ≤ 20) where
  pub number : Number n ds
  number = (and_from _ _ digits.first digits.digits, digits.value)

  pub plain-line : (word : List ℕ) (o : WrittenCommand) → IsPlain word ds o → IsLineOf names (word ++ 32 ∷ ds) o
  plain-line word o h =
      let first = word-of word ds h.whole in
      let long = length-append word (32 ∷ ds) in
      record {
        printable = both-pass is_printable word (32 ∷ ds) h.prints (digits-print n ds digits);
        short = omega (arith, long, few, h.short);
        word = ap (is_among command_words) first ∙ h.among;
        no_nodes = other-word (word ++ 32 ∷ ds) word first h.no_nodes;
        no_type = h.no_type;
        spells = h.spells;
        holds = h.holds;
        fits = h.fits;
        known = ap (list_all (is_among names)) h.uses_none;
        types_known = ap (list_all (is_among (type_names native_alone))) h.types_none;
        new = ap (list_any (is_among names)) h.brings_none;
      }

  pub go-line : 1 ≤ n → n ≤ 1000000 → IsLineOf names (codes "go" ++ 32 ∷ ds) (go n)
  go-line low high = plain-line (codes "go") (go n) (record {
    prints = refl;
    short = leb-true _ _ refl;
    whole = refl;
    among = refl;
    no_nodes = refl;
    no_type = begins-none 103 (codes "o" ++ 32 ∷ ds) (λ is. omega (arith, is));
    spells = (codes "go ", ds, refl, number, refl);
    holds = tt;
    fits = (low, high);
    uses_none = refl;
    types_none = refl;
    brings_none = refl;
  })

  pub crash-line : 1 ≤ n → n ≤ 3 → IsLineOf names (codes "crash" ++ 32 ∷ ds) (crash n lose)
  crash-line low high = plain-line (codes "crash") (crash n lose) (record {
    prints = refl;
    short = leb-true _ _ refl;
    whole = refl;
    among = refl;
    no_nodes = refl;
    no_type = begins-none 99 (codes "rash" ++ 32 ∷ ds) (λ is. omega (arith, is));
    spells = (codes "crash ", ds, refl, (ds, [], number, inr refl, sym (append-nil ds)), refl);
    holds = tt;
    fits = ((low, high), tt);
    uses_none = refl;
    types_none = refl;
    brings_none = refl;
  })

  pub restart-line : 1 ≤ n → n ≤ 3 → IsLineOf names (codes "restart" ++ 32 ∷ ds) (restart n)
  restart-line low high = plain-line (codes "restart") (restart n) (record {
    prints = refl;
    short = leb-true _ _ refl;
    whole = refl;
    among = refl;
    no_nodes = refl;
    no_type = begins-none 114 (codes "estart" ++ 32 ∷ ds) (λ is. omega (arith, is));
    spells = (codes "restart ", ds, refl, number, refl);
    holds = tt;
    fits = (low, high);
    uses_none = refl;
    types_none = refl;
    brings_none = refl;
  })

-- `create C N Cell`
abbrev pub create-bytes : (c ds : List ℕ) → List ℕ
create-bytes c ds = codes "create " ++ (c ++ (32 ∷ (ds ++ codes " Cell")))

module _ (names : List (List ℕ)) (c : List ℕ) (n : ℕ) (ds : List ℕ) (lower : is_lower c ≡ true) (prints : list_all is_printable c ≡ true)
    (short : length c ≤ 32) (digits : AreDigits n ds) (few : length ds ≤ 20) (low : 1 ≤ n) (high : n ≤ 3)
    (new : is_among names c ≡ false) where
  abbrev created : List ℕ
  created = create-bytes c ds

  created-first : first_word created ≡ codes "create"
  created-first = word-of (codes "create") (c ++ (32 ∷ (ds ++ codes " Cell"))) refl

  pub create-line : IsLineOf names created (create c n (codes "Cell"))
  create-line =
      let a = length-append c (32 ∷ (ds ++ codes " Cell")) in
      let b = length-append ds (codes " Cell") in
      record {
        printable = both-pass is_printable c (32 ∷ (ds ++ codes " Cell")) prints
            (both-pass is_printable ds (codes " Cell") (digits-print n ds digits) refl);
        short = omega (arith, a, b, short, few);
        word = ap (is_among command_words) created-first;
        no_nodes = other-word created (codes "create") created-first refl;
        no_type = begins-none 99 (codes "reate " ++ (c ++ (32 ∷ (ds ++ codes " Cell")))) (λ is. omega (arith, is));
        spells = (
          codes "create ",
          c ++ (32 ∷ (ds ++ codes " Cell")),
          refl,
          (
            c,
            32 ∷ (ds ++ codes " Cell"),
            (refl, lower),
            (
              codes " ",
              ds ++ codes " Cell",
              refl,
              (
                ds,
                codes " Cell",
                number names n ds digits few,
                (codes " ", codes "Cell", refl, (refl, refl), refl),
                refl,
              ),
              refl,
            ),
            refl,
          ),
          refl,
        );
        holds = tt;
        fits = (low, high);
        known = refl;
        types_known = refl;
        new = or_from _ _ new refl;
      }

pub end-line : (names : List (List ℕ)) → IsLineOf names (codes "end") finish
end-line names = record {
  printable = refl;
  short = leb-true _ _ refl;
  word = refl;
  no_nodes = other-word (codes "end") (codes "end") refl refl;
  no_type = refl;
  spells = refl;
  holds = tt;
  fits = tt;
  known = refl;
  types_known = refl;
  new = refl;
}
