-- The reader of values is exact for their grammar, to each depth.
use Rattle.std.specs.Prelude.{◌≡◌, ℕ, zero, suc, List, [], ◌∷◌, ◌++◌, Option, Some, None, refl}
use Rattle.std.proofs.Common.{ap, sym, arith, subst}
use Rattle.eden_value.specs.Datum.{Datum, number, truth, text, cap, list, data_of, items_of}
use Rattle.eden_value.specs.Code.{items_of-data_of}
use Rattle.eden_value.proofs.Laws.{data_of-items_of}
use Rattle.grammar.specs.Grammar.{Grammar, Mapped, Begins}
use Rattle.grammar.proofs.Grammar.{One, Choice, begins_mapped}
use Rattle.grammar.proofs.Exact.{Exact, choice_exact, same_exact, mapped_exact}
use Rattle.grammar.proofs.Repetition.{counted_exact}
use Rattle.grammar.specs.Numbers.{Number, number_at}
use Rattle.grammar.proofs.Numbers.{number_exact}
use Rattle.eden_codec.specs.declared.value.Plain.{Plain}
use Rattle.eden_codec.specs.declared.value.Plain.TheVariants.{Integer as is_int, Truth as is_truth, Text as is_text, Absent as is_none}
use Rattle.eden_codec.specs.declared.value.Plain.TheVariants.{Capability as is_cap}
use Rattle.eden_codec.specs.Reading.{items_at, plain_of, plain_at, kind_of, any_at, value_at}
use Rattle.eden_codec.specs.Spells.{SpellsItems, SpellsValue}
use Rattle.eden_codec.proofs.Fields.{PlainSpelling, plain_exact, plain_begins}

abbrev tag : Plain → ℕ
tag is_int = 1
tag is_truth = 2
tag is_text = 3
tag is_none = 4
tag is_cap = 5

abbrev kind_tag : Option Plain → ℕ
kind_tag None = 6
kind_tag (Some p) = tag p

some_same : {A : Type 0} (a b : A) → ◌≡◌ {A = Option A} (Some a) (Some b) → a ≡ b
some_same a b e = cc

plain_tag : (b : ℕ) (p : Plain) → plain_of b ≡ Some p → b ≡ tag p
plain_tag zero p e = absurd (cc)
plain_tag (suc zero) p e = ap tag (some_same _ _ e)
plain_tag (suc (suc zero)) p e = ap tag (some_same _ _ e)
plain_tag (suc (suc (suc zero))) p e = ap tag (some_same _ _ e)
plain_tag (suc (suc (suc (suc zero)))) p e = ap tag (some_same _ _ e)
plain_tag (suc (suc (suc (suc (suc zero))))) p e = ap tag (some_same _ _ e)
plain_tag (suc (suc (suc (suc (suc (suc b)))))) p e = absurd (cc)

kind_tag_of : (b : ℕ) (k : Option Plain) → kind_of b ≡ Some k → b ≡ kind_tag k
kind_tag_of zero k e = absurd (cc)
kind_tag_of (suc zero) k e = ap kind_tag (some_same _ _ e)
kind_tag_of (suc (suc zero)) k e = ap kind_tag (some_same _ _ e)
kind_tag_of (suc (suc (suc zero))) k e = ap kind_tag (some_same _ _ e)
kind_tag_of (suc (suc (suc (suc zero)))) k e = ap kind_tag (some_same _ _ e)
kind_tag_of (suc (suc (suc (suc (suc zero))))) k e = ap kind_tag (some_same _ _ e)
kind_tag_of (suc (suc (suc (suc (suc (suc zero)))))) k e = ap kind_tag (some_same _ _ e)
kind_tag_of (suc (suc (suc (suc (suc (suc (suc b))))))) k e = absurd (cc)

plain_value : (depth b : ℕ) (p : Plain) → b ≡ tag p → (rest : List ℕ) (d : Datum) → PlainSpelling p rest d → SpellsValue depth (b ∷ rest) d
plain_value depth b is_int e rest d s = subst (λ x. SpellsValue depth (b ∷ rest) x) (sym s.2) (e, s.1)
plain_value depth b is_truth e rest d s = subst (λ x. SpellsValue depth (b ∷ rest) x) (sym s.2) (e, s.1)
plain_value depth b is_text e rest d s = subst (λ x. SpellsValue depth (b ∷ rest) x) (sym s.2) (e, s.1)
plain_value depth b is_none e rest d s = subst (λ x. SpellsValue depth (b ∷ rest) x) (sym s.1) (e, s.0)
plain_value depth b is_cap e rest d s = subst (λ x. SpellsValue depth (b ∷ rest) x) (sym s.2) (e, s.1)

-- ---- no lists
to_zero_at : (front : List ℕ) (p : Plain) → One plain_of front p → (rest : List ℕ) (d : Datum) → PlainSpelling p rest d
    → SpellsValue zero (front ++ rest) d
to_zero_at [] p o rest d s = absurd o
to_zero_at (b ∷ []) p o rest d s = plain_value zero b p (plain_tag b p o) rest d s
to_zero_at (b ∷ c ∷ front) p o rest d s = absurd o

to_zero : (bytes : List ℕ) (d : Datum) → Choice plain_of PlainSpelling bytes d → SpellsValue zero bytes d
to_zero bytes d t = subst (λ l. SpellsValue zero l d) (sym t.whole) (to_zero_at t.front t.first t.begins t.back d t.goes_on)

from_zero : (bytes : List ℕ) (d : Datum) → SpellsValue zero bytes d → Choice plain_of PlainSpelling bytes d
from_zero [] d s = absurd s
from_zero (b ∷ bytes) (number z) s = record {
  front = b ∷ [];
  back = bytes;
  first = is_int;
  whole = refl;
  begins = ap plain_of s.0;
  goes_on = (z, s.1, refl);
}
from_zero (b ∷ bytes) (truth t) s = record {
  front = b ∷ [];
  back = bytes;
  first = is_truth;
  whole = refl;
  begins = ap plain_of s.0;
  goes_on = (t, s.1, refl);
}
from_zero (b ∷ bytes) (text t) s = record {
  front = b ∷ [];
  back = bytes;
  first = is_text;
  whole = refl;
  begins = ap plain_of s.0;
  goes_on = (t, s.1, refl);
}
from_zero (b ∷ bytes) (cap None) s = record {
  front = b ∷ [];
  back = bytes;
  first = is_none;
  whole = refl;
  begins = ap plain_of s.0;
  goes_on = (s.1, refl);
}
from_zero (b ∷ bytes) (cap (Some c)) s = record {
  front = b ∷ [];
  back = bytes;
  first = is_cap;
  whole = refl;
  begins = ap plain_of s.0;
  goes_on = (c, s.1, refl);
}
from_zero (b ∷ bytes) (list ds) s = absurd s

-- ---- lists of what is less deep
abbrev AnySpelling : ℕ → Option Plain → Grammar ℕ Datum
AnySpelling depth None = Mapped (λ ds. list (data_of ds)) (SpellsItems (SpellsValue depth))
AnySpelling depth (Some p) = PlainSpelling p

any_value : (depth b : ℕ) (k : Option Plain) → b ≡ kind_tag k → (rest : List ℕ) (d : Datum) → AnySpelling depth k rest d
    → SpellsValue (suc depth) (b ∷ rest) d
any_value depth b None e rest d s =
    subst (λ x. SpellsValue (suc depth) (b ∷ rest) x) (sym s.2)
    (e, subst (λ ds. SpellsItems (SpellsValue depth) rest ds) (sym (items_of-data_of s.0)) s.1)
any_value depth b (Some p) e rest d s = plain_value (suc depth) b p e rest d s

to_suc_at : (depth : ℕ) (front : List ℕ) (k : Option Plain) → One kind_of front k → (rest : List ℕ) (d : Datum)
    → AnySpelling depth k rest d → SpellsValue (suc depth) (front ++ rest) d
to_suc_at depth [] k o rest d s = absurd o
to_suc_at depth (b ∷ []) k o rest d s = any_value depth b k (kind_tag_of b k o) rest d s
to_suc_at depth (b ∷ c ∷ front) k o rest d s = absurd o

to_suc : (depth : ℕ) (bytes : List ℕ) (d : Datum) → Choice kind_of (AnySpelling depth) bytes d → SpellsValue (suc depth) bytes d
to_suc depth bytes d t = subst (λ l. SpellsValue (suc depth) l d) (sym t.whole)
    (to_suc_at depth t.front t.first t.begins t.back d t.goes_on)

from_suc : (depth : ℕ) (bytes : List ℕ) (d : Datum) → SpellsValue (suc depth) bytes d → Choice kind_of (AnySpelling depth) bytes d
from_suc depth [] d s = absurd s
from_suc depth (b ∷ bytes) (number z) s =
    record { front = b ∷ []; back = bytes; first = Some is_int; whole = refl; begins = ap kind_of s.0; goes_on = (z, s.1, refl) }
from_suc depth (b ∷ bytes) (truth t) s = record {
  front = b ∷ [];
  back = bytes;
  first = Some is_truth;
  whole = refl;
  begins = ap kind_of s.0;
  goes_on = (t, s.1, refl);
}
from_suc depth (b ∷ bytes) (text t) s = record {
  front = b ∷ [];
  back = bytes;
  first = Some is_text;
  whole = refl;
  begins = ap kind_of s.0;
  goes_on = (t, s.1, refl);
}
from_suc depth (b ∷ bytes) (cap None) s =
    record { front = b ∷ []; back = bytes; first = Some is_none; whole = refl; begins = ap kind_of s.0; goes_on = (s.1, refl) }
from_suc depth (b ∷ bytes) (cap (Some c)) s =
    record { front = b ∷ []; back = bytes; first = Some is_cap; whole = refl; begins = ap kind_of s.0; goes_on = (c, s.1, refl) }
from_suc depth (b ∷ bytes) (list ds) s =
    record {
      front = b ∷ [];
      back = bytes;
      first = None;
      whole = refl;
      begins = ap kind_of s.0;
      goes_on = (items_of ds, s.1, ap list (sym (data_of-items_of ds)));
    }

pub value_begins : (depth : ℕ) → Begins (SpellsValue depth) []
value_begins zero = record { more = 4 ∷ []; value = cap None; spelled = (refl, refl) }
value_begins (suc depth) = record { more = 4 ∷ []; value = cap None; spelled = (refl, refl) }

no_items : (G : Grammar ℕ Datum) → Begins (SpellsItems G) []
no_items G = record {
  more = 0 ∷ 0 ∷ [];
  value = [];
  spelled = (0 ∷ 0 ∷ [], [], refl, ((omega arith, (omega arith, refl)), omega arith, omega arith), refl);
}

any_begins : (depth : ℕ) (k : Option Plain) → Begins (AnySpelling depth k) []
any_begins depth None = begins_mapped (λ ds. list (data_of ds)) (SpellsItems (SpellsValue depth)) (no_items (SpellsValue depth))
any_begins depth (Some p) = plain_begins p

items_exact : (depth : ℕ) → Exact (SpellsValue depth) (value_at depth) → Exact (SpellsItems (SpellsValue depth)) (items_at (value_at depth))
items_exact depth g =
    counted_exact (Number 2 0 256) (number_at 2 0 256) (number_exact 0 256 (omega arith) 2 (omega arith)) (SpellsValue depth)
    (value_at depth) g (value_begins depth)

any_exact : (depth : ℕ) → Exact (SpellsValue depth) (value_at depth) → (k : Option Plain)
    → Exact (AnySpelling depth k) (any_at (value_at depth) k)
any_exact depth g None = mapped_exact (λ ds. list (data_of ds)) (SpellsItems (SpellsValue depth)) (items_at (value_at depth))
    (items_exact depth g)
any_exact depth g (Some p) = plain_exact p

pub value_exact : (depth : ℕ) → Exact (SpellsValue depth) (value_at depth)
value_exact zero =
    same_exact (Choice plain_of PlainSpelling) (SpellsValue zero) (value_at zero)
    (choice_exact plain_of PlainSpelling plain_at 4 is_none refl plain_exact plain_begins)
    to_zero from_zero
value_exact (suc depth) =
    same_exact (Choice kind_of (AnySpelling depth)) (SpellsValue (suc depth)) (value_at (suc depth))
    (choice_exact kind_of (AnySpelling depth) (any_at (value_at depth)) 4 (Some is_none) refl (any_exact depth (value_exact depth))
    (any_begins depth))
    (to_suc depth) (from_suc depth)
