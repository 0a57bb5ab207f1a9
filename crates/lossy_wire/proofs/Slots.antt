-- The slots of pairs of stations.
use Rattle.std.proofs.Common.{◌≡◌, ◌∙◌, ap, sym, refl, ℕ, ◌+◌, ◌<◌, List, [], ◌∷◌, ◌++◌, map, length, slice_set, get_or, Ok, Err, Vec, Global, Option, Some, None}
use Rattle.std.proofs.Common.{arith}
use Rattle.std.specs.Prelude.{Result, OnOk, IfOk, replicate}
use Rattle.std.proofs.lemmas.List.{map-set, map-append, get_or-map, replicate-append-replicate}
use Rattle.lossy_wire.specs.Wire.{slot}
use Rattle.lossy_wire.specs.Held.{Held, fresh, held_at, with_held}
use Rattle.lossy_wire.specs.Lists.{items_at, with_item}
use Rattle.lossy_wire.specs.View.{held_of}
use Rattle.lossy_wire.specs.declared.end.End.{End}

pub on_ok : {A E : Type 0} (r : Result A E) (P Q : Type 0) → (P → Q) → OnOk r P → OnOk r Q
on_ok (Ok x) P Q f h = f h
on_ok (Err e) P Q f h = tt

pub all_ok : {A E : Type 0} (r : Result A E) (P : Type 0) → P → OnOk r P
all_ok (Ok x) P h = h
all_ok (Err e) P h = tt

pub none_of : {A : Type 0} (o : Option A) → ((x : A) → o ≡ Some x → ⊥) → None ≡ o
none_of None h = refl
none_of (Some x) h = absurd (h x refl)

pub if_ok : {A E : Type 0} (r : Result A E) (P Q : A → Type 0) → ((x : A) → P x → Q x) → IfOk r P → IfOk r Q
if_ok (Ok x) P Q f h = f x h
if_ok (Err e) P Q f h = tt

pub set_slot : (es : List Held) (ends : List End) (a b i : ℕ) (e : End) (h : Held) → es ≡ map held_of ends → i ≡ slot a b
    → held_of e ≡ h → map held_of (slice_set ends i e) ≡ with_held es a b h
set_slot es ends a b i e h view place same =
    map-set held_of ends i e ∙ ap (λ (l : List Held). slice_set l i (held_of e)) (sym view)
    ∙ ap (λ (j : ℕ). slice_set es j (held_of e)) place ∙ ap (λ (g : Held). slice_set es (slot a b) g) same

pub at_slot : (es : List Held) (ends : List End) (a b i : ℕ) (d e : End) → es ≡ map held_of ends → i ≡ slot a b → i < 64
    → length ends ≡ 64 → e ≡ get_or ends i d → held_of e ≡ held_at es a b
at_slot es ends a b i d e view place within full same =
    ap held_of same ∙ sym (get_or-map held_of ends i d fresh (omega (arith, within, full)))
    ∙ ap (λ (l : List Held). get_or l i fresh) (sym view) ∙ ap (λ (j : ℕ). get_or es j fresh) place

-- one more of the same behind
pub same_more : (ends old : List End) (e : End) (k : ℕ) → ends ≡ old ++ e ∷ [] → map held_of old ≡ replicate k fresh → held_of e ≡ fresh
    → map held_of ends ≡ replicate (k + 1) fresh
same_more ends old e k items same is =
    ap (map held_of) items ∙ map-append held_of old (e ∷ []) ∙ ap (λ (l : List Held). l ++ held_of e ∷ []) same
    ∙ ap (λ (h : Held). replicate k fresh ++ h ∷ []) is ∙ replicate-append-replicate k 1 fresh

-- the items of a list of the code
abbrev pub items : {T : Type 0} → Vec T Global → List T
items v = v.items

pub put_slot : {T : Type 0} (ls : List (Vec T Global)) (a b i : ℕ) (d u v : Vec T Global) (x : T) → i ≡ slot a b → i < 64
    → length ls ≡ 64 → u ≡ get_or ls i d → v.items ≡ u.items ++ x ∷ []
    → map items (slice_set ls i v) ≡ with_item (map items ls) a b x
put_slot ls a b i d u v x place within full same more =
    let old : items u ≡ items_at (map items ls) a b =
    ap items same ∙ sym (get_or-map items ls i d [] (omega (arith, within, full))) ∙ ap (λ (j : ℕ). get_or (map items ls) j []) place in
    let now : items v ≡ items_at (map items ls) a b ++ x ∷ [] = more ∙ ap (λ l. l ++ x ∷ []) old in
    map-set items ls i v ∙ ap (λ (j : ℕ). slice_set (map items ls) j (items v)) place
    ∙ ap (λ l. slice_set (map items ls) (slot a b) l) now
