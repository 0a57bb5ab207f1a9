-- The requests of a queue go on answering their processes, but for one that has begun.
use Rattle.std.proofs.Common.{◌≡◌, Bool, true, false, List, [], ◌∷◌, ◌++◌, None, Result, Ok, Err, refl, sym, subst}
use Rattle.std.specs.Prelude.{MatchResult, is_some}
use Rattle.std.specs.List.{filter_map}
use Rattle.capability.specs.declared.Uid.{Uid}
use Rattle.eden_model.specs.Map.{same_uid}
use Rattle.checkpoint.specs.declared.worker.Request.{Request}
use Rattle.checkpoint.specs.Queues.{left_of, left_in, AllAnswer, AllAnswerBut}

-- one more of them
more-answer : (qs : List Request) (q : Request) → is_some q.process ≡ true → AllAnswer qs → AllAnswer (qs ++ q ∷ [])
more-answer [] q is all = (is, tt)
more-answer (r ∷ qs) q is all = (all.0, more-answer qs q is all.1)

asked-answers : (begun : Bool) (qs : List Request) (q : Request) → is_some q.process ≡ true → AllAnswerBut begun qs
    → AllAnswerBut begun (qs ++ q ∷ [])
asked-answers true [] q is all = tt
asked-answers true (r ∷ qs) q is all = more-answer qs q is all
asked-answers false qs q is all = more-answer qs q is all

pub asked-all-answer : {E : Type 0} (r : Result (Unit {0}) E) (begun now : Bool) (old new : List Request) (q : Request)
    → MatchResult r (λ done. new ≡ old ++ q ∷ []) (λ e. new ≡ old) → now ≡ begun
    → is_some q.process ≡ true → AllAnswerBut begun old → AllAnswerBut now new
asked-all-answer (Ok done) begun now old new q same still is all =
    subst (λ b. AllAnswerBut b new) (sym still) (subst (AllAnswerBut begun) (sym same) (asked-answers begun old q is all))
asked-all-answer (Err e) begun now old new q same still is all =
    subst (λ b. AllAnswerBut b new) (sym still) (subst (AllAnswerBut begun) (sym same) all)

-- without those of an Eject
less-answer : (u : Uid) (qs : List Request) → AllAnswer qs → AllAnswer (filter_map (left_of u) qs)
less-answer u [] all = tt
less-answer u (q ∷ qs) all = go (same_uid q.uid u) refl (less-answer u qs all.1)
  where
    go : (b : Bool) → same_uid q.uid u ≡ b → AllAnswer (filter_map (left_of u) qs) → AllAnswer (filter_map (left_of u) (q ∷ qs))
    go true is later = rw is later
    go false is later = rw is (all.0, later)

left-answer : (begun : Bool) (u : Uid) (qs : List Request) → AllAnswerBut begun qs → AllAnswerBut begun (left_in begun u qs)
left-answer true u [] all = tt
left-answer false u [] all = tt
left-answer true u (q ∷ qs) all = less-answer u qs all
left-answer false u (q ∷ qs) all = less-answer u (q ∷ qs) all

pub dropped-answer : (begun now : Bool) (u : Uid) (old new : List Request) → new ≡ left_in begun u old → now ≡ begun
    → AllAnswerBut begun old → AllAnswerBut now new
dropped-answer begun now u old new same still all =
    subst (λ b. AllAnswerBut b new) (sym still) (subst (AllAnswerBut begun) (sym same) (left-answer begun u old all))

-- behind the end of the first
pub behind-answer : (begun now : Bool) (q : Request) (old new : List Request) → old ≡ q ∷ new → now ≡ false
    → AllAnswerBut begun old → AllAnswerBut now new
behind-answer begun now q old new same still all =
    subst (λ b. AllAnswerBut b new) (sym still) (go begun (subst (AllAnswerBut begun) same all))
  where
    go : (b : Bool) → AllAnswerBut b (q ∷ new) → AllAnswer new
    go true all = all
    go false all = all.1

-- the first goes on, and where its job had begun it goes on too
pub going-answer : (begun now : Bool) (old new : List Request) → new ≡ old → (begun ≡ true → now ≡ true)
    → AllAnswerBut begun old → AllAnswerBut now new
going-answer begun now old new same stays all = subst (AllAnswerBut now) (sym same) (go begun now stays old all)
  where
    fewer : (qs : List Request) → AllAnswer qs → AllAnswerBut true qs
    fewer [] all = tt
    fewer (q ∷ qs) all = all.1

    go : (b c : Bool) → (b ≡ true → c ≡ true) → (qs : List Request) → AllAnswerBut b qs → AllAnswerBut c qs
    go true true stays qs all = all
    go false false stays qs all = all
    go false true stays qs all = fewer qs all
    go true false stays qs all = absurd (let bad : false ≡ true = stays refl in cc bad)

-- one that answers no process is of a job that has begun
pub unasked-begun : (begun : Bool) (q : Request) (qs : List Request) → AllAnswerBut begun (q ∷ qs) → q.process ≡ None → begun ≡ true
unasked-begun true q qs all none = refl
unasked-begun false q qs all none =
    absurd (let bad : false ≡ true = subst (λ o. is_some o ≡ true) none all.0 in cc bad)
