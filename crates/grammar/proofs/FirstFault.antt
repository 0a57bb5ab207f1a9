-- Laws of the definitions of specs/FirstFault.
use Rattle.std.specs.Prelude.{◌≡◌, ℕ, suc, ◌<◌, List, [], ◌∷◌, ◌++◌, length, Ok, Err, refl}
use Rattle.std.proofs.Common.{ap, sym, ◌∙◌, subst, arith, append_assoc, append-nil, length-append}
use Rattle.grammar.specs.Grammar.{Grammar, Nothing, Then}
use Rattle.grammar.specs.Depths.{Placed, bare, Shallow, Fault, bad, deep, spent, Look, Looker, look_then, SameHead, Took, FaultAt}
use Rattle.grammar.specs.Depths.{StaysAt, Stuck, PastBy, Passes, Reads}
use Rattle.grammar.proofs.Lookers.{bare-append, length-bare, past_not_shallow, then_reads}
use Rattle.grammar.proofs.Choices.{same_reads}
use Rattle.grammar.specs.FirstFault.{Breaks, Deepens, NoneGoesOn, NoneWithin, Spells, look_end, look_whole}

-- what a reader answered is what the grammar says
abbrev pub Answered : {S A : Type 0} → ℕ → Grammar (Placed S) A → List S → Look S A → Type 0
Answered limit G symbols (Ok x) = Spells limit G symbols x.0
Answered limit G symbols (Err (bad left)) = Breaks limit G symbols left
Answered limit G symbols (Err (deep left)) = Deepens limit G symbols left
Answered limit G symbols (Err spent) = ⊥

-- two splits of one list whose backs are equally long have one front
pub same_front : {S : Type 0} (front other back rest : List S) → front ++ back ≡ other ++ rest → length back ≡ length rest → front ≡ other
same_front [] [] back rest e size = refl
same_front [] (s ∷ other) back rest e size = absurd (omega (arith, ap length e, length-append other rest, size))
same_front (s ∷ front) [] back rest e size = absurd (omega (arith, ap length e, length-append front back, size))
same_front (s ∷ front) (t ∷ other) back rest e size =
    let head : s ≡ t = cc in
    let tail : front ++ back ≡ other ++ rest = cc in
    ap (λ u. u ∷ front) head ∙ ap (λ l. t ∷ l) (same_front front other back rest tail size)

module _ {S A : Type 0} (limit fuel : ℕ) (a : A) where
  end_takes : (w : List S) (b : A) (rest : List S) → look_end a w ≡ Ok (b, rest) → Took limit (Nothing {S = S × ℕ} a) (look_end a) w b rest
  end_takes (s ∷ w) b rest e = absurd (cc)
  end_takes [] b rest e =
      let p : ◌≡◌ {A = A × List S} (a, []) (b, rest) = cc in
      let h : a ≡ b = ap (λ x. x.0) p in
      let k : [] ≡ rest = ap (λ x. x.1) p in
      record {
        front = [];
        split = k;
        shallow = tt;
        member = (refl, sym h);
        local = λ v same. local v (subst (λ l. SameHead l v) (sym k) same) ∙ ap (λ x. Ok (x, v)) h;
      }
    where
      local : (v : List S) → SameHead [] v → look_end a v ≡ Ok (a, v)
      local [] same = refl
      local (t ∷ v) same = absurd same

  end_stops : (w : List S) (f : Fault) → look_end a w ≡ Err f → Stuck limit (Nothing {S = S × ℕ} a) (look_end a) w f
  end_stops [] f e = absurd (cc)
  end_stops (s ∷ w) f e =
      subst (λ y. Stuck limit (Nothing {S = S × ℕ} a) (look_end a) (s ∷ w) y) (let same : bad (suc (length w)) ≡ f = cc in same)
      (record {
        front = [];
        rest = s ∷ w;
        split = refl;
        shallow = tt;
        more = [];
        value = a;
        goes_on = (refl, refl);
        fault = refl;
        stays = λ more. refl;
      })

  end_again : (ps : List (S × ℕ)) (b : A) → Nothing a ps b → (v : List S) → v ≡ [] → Passes limit fuel ps (look_end a (bare ps ++ v)) b v
  end_again (q ∷ ps) b p v e = absurd (cc (p.0))
  end_again [] b p (s ∷ v) e = absurd (cc)
  end_again [] b p [] e = ap (λ x. (x, [])) (sym p.1)

  pub end_reads : Reads {S = S} limit fuel (Nothing a) (λ v. v ≡ []) (look_end a)
  end_reads = record {
    made = ([], a, (refl, refl));
    takes = λ w b rest few e. end_takes w b rest e;
    again = end_again;
    stops = λ w f few e. end_stops w f e;
  }

module _ {S A : Type 0} (limit fuel : ℕ) (G : List (S × ℕ) → A → Type 0) (n : List S → Type 0) (R : Looker S A)
    (g : Reads limit fuel G n R) (last : n []) where
  to_whole : (ps : List (S × ℕ)) (b : A) → Then G (λ a. Nothing a) ps b → G ps b
  to_whole ps b t = subst (λ x. G ps x) (sym t.goes_on.1)
      (subst (λ l. G l t.first) (sym (t.whole ∙ ap (λ l. t.front ++ l) t.goes_on.0 ∙ append-nil t.front)) t.begins)

  from_whole : (ps : List (S × ℕ)) (b : A) → G ps b → Then G (λ a. Nothing a) ps b
  from_whole ps b p = record { front = ps; back = []; first = b; whole = sym (append-nil ps); begins = p; goes_on = (refl, refl) }

  whole_reads : Reads limit fuel G (λ v. v ≡ []) (look_whole R)
  whole_reads =
      same_reads limit fuel (Then G (λ a. Nothing a)) G (λ v. v ≡ []) (look_whole R) to_whole from_whole
      (then_reads limit fuel fuel 0 G (λ a. Nothing a) n (λ v. v ≡ []) R look_end g (λ ps a p. end_reads limit fuel a)
      (λ ps a p. omega arith) (omega arith)
      (λ ps a p qs b q v e. subst (λ l. n (bare l ++ v)) (sym q.0) (subst n (sym e) last)))

  ended : (r : Look S A) (a : A) (rest : List S) → look_then r look_end ≡ Ok (a, rest) → rest ≡ []
  ended (Err f) a rest e = absurd (cc)
  ended (Ok x) a rest e = at_end x.0 x.1 a rest e
    where
      at_end : (b : A) (u : List S) (a : A) (rest : List S) → look_end b u ≡ Ok (a, rest) → rest ≡ []
      at_end b [] a rest e = let p : ◌≡◌ {A = A × List S} (b, []) (a, rest) = cc in sym (ap (λ x. x.1) p)
      at_end b (s ∷ u) a rest e = absurd (cc)

  not_bad : (ps : List (S × ℕ)) (a : A) (left : ℕ) → G ps a → look_whole R (bare ps) ≡ Err (bad left) → ⊥
  not_bad ps a left p e =
      let k : Passes limit fuel ps (look_whole R (bare ps ++ [])) a [] = whole_reads.again ps a p [] refl in
      subst (λ r. Passes limit fuel ps r a []) (ap (look_whole R) (append-nil (bare ps)) ∙ e) k

  none_goes_on : (front rest : List S) (left : ℕ) → look_whole R (front ++ rest) ≡ Err (bad left)
      → StaysAt (bad left) (look_whole R) front rest → NoneGoesOn G front rest
  none_goes_on front [] left e stays = λ ps a p same. not_bad ps a left p (ap (look_whole R) (same ∙ sym (append-nil front)) ∙ e)
  none_goes_on front (s ∷ rest) left e stays = λ ps a p more same. not_bad ps a (suc (length more)) p (ap (look_whole R) same ∙ stays more)

  past_by : (qs : List (Placed S)) (a : A) (left : ℕ) → G qs a → look_whole R (bare qs) ≡ Err (deep left) → PastBy limit qs left 0
  past_by qs a left p e = subst (λ r. Passes limit fuel qs r a []) (ap (look_whole R) (append-nil (bare qs)) ∙ e)
      (whole_reads.again qs a p [] refl)

  none_within : (front : List S) (s : S) → ((more : List S) → look_whole R (front ++ s ∷ more) ≡ Err (deep (suc (length more))))
      → NoneWithin limit G (front ++ s ∷ [])
  none_within front s stays ps more a p same shallow =
      let read : bare (ps ++ more) ≡ front ++ s ∷ bare more = bare-append ps more ∙ ap (λ l. l ++ bare more) same ∙ append_assoc front
      (s ∷ []) (bare more) in
      let past = past_by (ps ++ more) a (suc (length (bare more))) p (ap (look_whole R) read ∙ stays (bare more)) in
      let size : length more ≡ length past.more = omega (arith, past.place, length-bare more) in
      let these : ps ≡ past.front ++ past.symbol ∷ [] = same_front ps (past.front ++ past.symbol ∷ []) more past.more
      (past.split ∙ sym (append_assoc past.front (past.symbol ∷ []) past.more)) size in
      past.past (subst (λ l. Shallow limit l) these shallow)

  deepens : (w : List S) (left : ℕ) (s : Stuck limit G (look_whole R) w (deep left)) (rest : List S) (more : List (S × ℕ))
      → w ≡ bare s.front ++ rest → G (s.front ++ more) s.value → FaultAt limit (deep left) rest more
      → StaysAt (deep left) (look_whole R) (bare s.front) rest → Deepens limit G w left
  deepens w left s [] more split p f stays = absurd f
  deepens w left s (t ∷ rest) [] split p f stays = absurd f
  deepens w left s (t ∷ rest) (q ∷ more) split p f stays = record {
    front = s.front;
    symbol = t;
    depth = q.1;
    rest = rest;
    split = split;
    place = f.0;
    shallow = s.shallow;
    past = f.2;
    more = more;
    value = s.value;
    goes_on = subst (λ (x : Placed S). G (s.front ++ x ∷ more) s.value) (sym (ap (λ (u : S). (u, q.1)) f.1)) p;
    none = none_within (bare s.front) t stays;
  }

  answered : (w : List S) (r : Look S A) → look_whole R w ≡ r → length w < fuel → Answered limit G w r
  answered w (Ok x) e few =
      let t : Took limit G (look_whole R) w x.0 x.1 = whole_reads.takes w x.0 x.1 few e in
      let none : x.1 ≡ [] = ended (R w) x.0 x.1 e in
      record {
        placed = t.front;
        whole = t.split ∙ ap (λ l. bare t.front ++ l) none ∙ append-nil (bare t.front);
        shallow = t.shallow;
        member = t.member;
      }
  answered w (Err (bad left)) e few =
      let s : Stuck limit G (look_whole R) w (bad left) = whole_reads.stops w (bad left) few e in
      record {
        front = s.front;
        rest = s.rest;
        split = s.split;
        place = s.fault;
        shallow = s.shallow;
        more = s.more;
        value = s.value;
        goes_on = s.goes_on;
        none = none_goes_on (bare s.front) s.rest left (ap (look_whole R) (sym s.split) ∙ e) s.stays;
      }
  answered w (Err (deep left)) e few =
      let s : Stuck limit G (look_whole R) w (deep left) = whole_reads.stops w (deep left) few e in
      deepens w left s s.rest s.more s.split s.goes_on s.fault s.stays
  answered w (Err spent) e few = (whole_reads.stops w spent few e).fault

  -- what is answered is so by the grammar
  pub whole_answers : (w : List S) → length w < fuel → Answered limit G w (look_whole R w)
  whole_answers w few = answered w (look_whole R w) refl few

  spelled_passes : (w : List S) (a : A) (s : Spells limit G w a) → length w < fuel → (r : Look S A) → look_whole R w ≡ r
      → Passes limit fuel s.placed r a [] → r ≡ Ok (a, [])
  spelled_passes w a s few (Ok x) e k = ap (λ y. Ok y) k
  spelled_passes w a s few (Err (bad left)) e k = absurd k
  spelled_passes w a s few (Err (deep left)) e k = absurd (past_not_shallow limit s.placed left 0 k s.shallow)
  spelled_passes w a s few (Err spent) e k = absurd (let size : length w ≡ length s.placed = ap length s.whole ∙ length-bare s.placed in
      omega arith)

  -- and what is spelled is answered
  pub whole_only : (w : List S) (a : A) → Spells limit G w a → length w < fuel → look_whole R w ≡ Ok (a, [])
  whole_only w a s few =
      spelled_passes w a s few (look_whole R w) refl
      (subst (λ l. Passes limit fuel s.placed (look_whole R l) a []) (append-nil (bare s.placed) ∙ sym s.whole)
      (whole_reads.again s.placed a s.member [] refl))
