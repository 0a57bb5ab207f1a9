-- A text that is gathered, and written in parts.
use Rattle.std.proofs.Common.{◌≡◌, ◌≤◌, ◌<◌, ℕ, zero, suc, ◌+◌, List, [], ◌∷◌, ◌++◌, length, take, drop, get_or, Option, refl, sym, ◌∙◌, ap}
use Rattle.std.proofs.Common.{subst, arith, append_assoc, append-nil, length-append, add-one}
use Rattle.std.proofs.Math.Seq.{take-append_seam, take-append-add}
use Rattle.std.proofs.lemmas.List.{take-append-le, drop_all}
use Rattle.std.specs.Prelude.{Result, Ok, Err, OnErr}
use Rattle.std.specs.List.{flat_map}
use Rattle.std.specs.Io.KnownBytes.{Appends}
use Rattle.eden_io.specs.Taken.{AppendsPart}
use Rattle.eden_io.proofs.Known.{Appends-append}

-- a part of the next piece, behind the pieces so far, is a part of the whole
part-more : (old mid new : Option (List ℕ)) (before piece after : List ℕ) → Appends old mid before → AppendsPart mid new piece
    → AppendsPart old new (before ++ (piece ++ after))
part-more old mid new before piece after h p =
    let cut : take (length before + p.count) (before ++ (piece ++ after)) ≡ before ++ take p.count piece =
    take-append-add before (piece ++ after) p.count ∙ ap (λ l. before ++ l) (take-append-le p.count piece after p.within) in
    record {
      count = length before + p.count;
      within = omega (arith, length-append before (piece ++ after), length-append piece after, p.within);
      part = subst (Appends old new) (sym cut) (Appends-append old mid new before (take p.count piece) h p.part);
    }

-- the pieces so far are a part of the whole
part-so-far : (old new : Option (List ℕ)) (before after : List ℕ) → Appends old new before → AppendsPart old new (before ++ after)
part-so-far old new before after h = record {
  count = length before;
  within = omega (arith, length-append before after);
  part = subst (Appends old new) (sym (take-append_seam before after)) h;
}

-- the text of a list, cut at an item, and up to one more
module _ {X : Type 0} (f : X → List ℕ) where
  text-cut : (h : List X) (i : ℕ) → flat_map f h ≡ flat_map f (take i h) ++ flat_map f (drop i h)
  text-cut [] zero = refl
  text-cut [] (suc i) = refl
  text-cut (x ∷ h) zero = refl
  text-cut (x ∷ h) (suc i) =
      ap (λ l. f x ++ l) (text-cut h i) ∙ sym (append_assoc (f x) (flat_map f (take i h)) (flat_map f (drop i h)))

  text-more : (h : List X) (i : ℕ) (e : X) → i < length h → e ≡ get_or h i e
      → flat_map f (take (suc i) h) ≡ flat_map f (take i h) ++ f e
  text-more [] i e lt is = absurd (omega (arith, lt))
  text-more (x ∷ h) zero e lt is = append-nil (f x) ∙ ap f (sym is)
  text-more (x ∷ h) (suc i) e lt is =
      ap (λ l. f x ++ l) (text-more h i e (omega (arith, lt)) is) ∙ sym (append_assoc (f x) (flat_map f (take i h)) (f e))

-- the text of the first i items is written but for its end, which is gathered, and no count fell
pub record IsWriting {X : Type 0} (f : X → List ℕ) (h : List X) (old now : Option (List ℕ)) (faults faults_now i : ℕ)
    (gathered : List ℕ) : Type 0 where
  pub done : List ℕ
  pub so_far : Appends old now done
  pub parts : flat_map f (take i h) ≡ done ++ gathered
  pub later : faults ≤ faults_now

module _ {X : Type 0} (f : X → List ℕ) (h : List X) (old now : Option (List ℕ)) (faults faults_now i : ℕ) (gathered : List ℕ)
    (w : IsWriting f h old now faults faults_now i gathered) where
  -- the whole, with what is gathered as one of its pieces
  whole : flat_map f h ≡ w.done ++ (gathered ++ flat_map f (drop i h))
  whole = text-cut f h i ∙ ap (λ l. l ++ flat_map f (drop i h)) w.parts ∙ append_assoc w.done gathered (flat_map f (drop i h))

  -- the text of an item is gathered
  pub gathering : (e : X) → i < length h → e ≡ get_or h i e → IsWriting f h old now faults faults_now (i + 1) (gathered ++ f e)
  gathering e lt is = record {
    done = w.done;
    so_far = w.so_far;
    parts = rw add-one (text-more f h i e lt is ∙ ap (λ l. l ++ f e) w.parts ∙ append_assoc w.done gathered (f e));
    later = w.later;
  }

  -- what was gathered is written
  pub writing-on : (new : Option (List ℕ)) (faults_new : ℕ) → Appends now new gathered → faults_now ≤ faults_new
      → IsWriting f h old new faults faults_new i []
  writing-on new faults_new more le = record {
    done = w.done ++ gathered;
    so_far = Appends-append old now new w.done gathered w.so_far more;
    parts = w.parts ∙ sym (append-nil (w.done ++ gathered));
    later = omega (arith, le, w.later);
  }

  -- it is written, and it was the last
  pub writing-ends : (new : Option (List ℕ)) → length h ≤ i → Appends now new gathered → Appends old new (flat_map f h)
  writing-ends new last more = subst (Appends old new) (sym (whole ∙ ap (λ l. w.done ++ (gathered ++ flat_map f l)) (drop_all i h last)
      ∙ ap (λ l. w.done ++ l) (append-nil gathered))) (Appends-append old now new w.done gathered w.so_far more)

  -- it is written in part
  pub writing-failed : (new : Option (List ℕ)) → AppendsPart now new gathered → AppendsPart old new (flat_map f h)
  writing-failed new part =
      subst (AppendsPart old new) (sym whole) (part-more old now new w.done gathered (flat_map f (drop i h)) w.so_far part)

  -- nothing of it is written
  pub writing-stopped : AppendsPart old now (flat_map f h)
  writing-stopped = subst (AppendsPart old now) (sym whole) (part-so-far old now w.done (gathered ++ flat_map f (drop i h)) w.so_far)

pub on_err : {T E P : Type 0} (r : Result T E) → P → OnErr r P
on_err (Ok x) h = tt
on_err (Err e) h = h
