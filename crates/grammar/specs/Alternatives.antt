-- Two grammars whose spellings begin with other symbols, and reading one or the other by the first symbol.
use Rattle.std.specs.Prelude.{◌≡◌, ℕ, ◌<◌, List, [], ◌∷◌, ◌++◌, length, Option, Some, None, Ok, Err, ◌⊎◌, refl}
use Rattle.std.proofs.Common.{ap, sym, ◌∙◌, subst, inl, inr}
use Rattle.grammar.specs.Grammar.{Grammar}
use Rattle.grammar.specs.Depths.{Placed, bare, Fault, bad, deep, spent, Looker, led, SameHead, Took, StaysAt, Stuck, Passes, Reads}
use Rattle.grammar.specs.Choices.{BeginsBy}

-- a spelling by one grammar or by the other
abbrev pub Either : {S A : Type 0} → Grammar (Placed S) A → Grammar (Placed S) A → Grammar (Placed S) A
Either G H symbols a = G symbols a ⊎ H symbols a

-- one reader where f has a value for the first symbol, and else the other
abbrev pub look_or : {S A K : Type 0} → (S → Option K) → Looker S A → Looker S A → Looker S A
look_or f read other [] = other []
look_or f read other (s ∷ symbols) = led (f s) read (other (s ∷ symbols)) (s ∷ symbols)

-- there is a first symbol, and f has no value for it
abbrev pub BeginsElse : {S K : Type 0} → (S → Option K) → List (Placed S) → Type 0
BeginsElse f [] = ⊥
BeginsElse f (p ∷ ps) = f p.0 ≡ None

module _ {S A K : Type 0} (limit fuel : ℕ) (f : S → Option K) (G H : List (S × ℕ) → A → Type 0) (m : List S → Type 0)
    (R T : Looker S A) where
  -- where f has a value for the first symbol, the choice reads as R, also before other symbols that begin like the rest
  lead : (s : S) (w front rest v : List S) (k : K) → f s ≡ Some k → s ∷ w ≡ front ++ rest → SameHead rest v
      → look_or f R T (front ++ v) ≡ R (front ++ v)
  lead s w [] [] v k e split same = absurd (cc)
  lead s w [] (t ∷ rest) [] k e split same = absurd same
  lead s w [] (t ∷ rest) (u ∷ v) k e split same =
      let head : s ≡ t = cc in
      ap (λ o. led o R (T (u ∷ v)) (u ∷ v)) (ap f (sym (head ∙ same)) ∙ e)
  lead s w (t ∷ front) rest v k e split same =
      let head : s ≡ t = cc in
      ap (λ o. led o R (T (t ∷ (front ++ v))) (t ∷ (front ++ v))) (ap f (sym head) ∙ e)

  -- where f has none for the first symbol, the choice reads as T, also before other symbols that begin like the rest
  other : (s : S) (w front rest v : List S) → f s ≡ None → s ∷ w ≡ front ++ rest → SameHead rest v
      → look_or f R T (front ++ v) ≡ T (front ++ v)
  other s w [] [] v e split same = absurd (cc)
  other s w [] (t ∷ rest) [] e split same = absurd same
  other s w [] (t ∷ rest) (u ∷ v) e split same =
      let head : s ≡ t = cc in
      ap (λ o. led o R (T (u ∷ v)) (u ∷ v)) (ap f (sym (head ∙ same)) ∙ e)
  other s w (t ∷ front) rest v e split same =
      let head : s ≡ t = cc in
      ap (λ o. led o R (T (t ∷ (front ++ v))) (t ∷ (front ++ v))) (ap f (sym head) ∙ e)

  -- where there is no symbol, the choice reads as T
  at_end : (front rest v : List S) → [] ≡ front ++ rest → SameHead rest v → look_or f R T (front ++ v) ≡ T (front ++ v)
  at_end [] [] [] split same = refl
  at_end [] [] (u ∷ v) split same = absurd same
  at_end [] (t ∷ rest) v split same = absurd (cc)
  at_end (t ∷ front) rest v split same = absurd (cc)

  -- where f has a value for the first symbol, and R stops at a symbol whatever follows it, so does the choice
  lead_stays : (s : S) (w front rest : List S) (k : K) → f s ≡ Some k → s ∷ w ≡ front ++ rest → (e : Fault) → StaysAt e R front rest
      → StaysAt e (look_or f R T) front rest
  lead_stays s w front [] k h split (bad left) t = tt
  lead_stays s w front (b ∷ rest) k h split (bad left) t = λ more. lead s w front (b ∷ rest) (b ∷ more) k h split refl ∙ t more
  lead_stays s w front [] k h split (deep left) t = tt
  lead_stays s w front (b ∷ rest) k h split (deep left) t = λ more. lead s w front (b ∷ rest) (b ∷ more) k h split refl ∙ t more
  lead_stays s w front rest k h split spent t = tt

  -- where the choice reads as T, and T stops at a symbol whatever follows it, so does the choice
  other_stays : (w front rest : List S) → ((v : List S) → SameHead rest v → look_or f R T (front ++ v) ≡ T (front ++ v)) → (e : Fault)
      → StaysAt e T front rest → StaysAt e (look_or f R T) front rest
  other_stays w front [] same (bad left) t = tt
  other_stays w front (b ∷ rest) same (bad left) t = λ more. same (b ∷ more) refl ∙ t more
  other_stays w front [] same (deep left) t = tt
  other_stays w front (b ∷ rest) same (deep left) t = λ more. same (b ∷ more) refl ∙ t more
  other_stays w front rest same spent t = tt

  -- where the choice reads as T, it takes what T takes, as a spelling of either grammar
  other_took : (w : List S) (b : A) (rest : List S) (t : Took limit H T w b rest)
      → ((v : List S) → SameHead rest v → look_or f R T (bare t.front ++ v) ≡ T (bare t.front ++ v))
      → Took limit (Either G H) (look_or f R T) w b rest
  other_took w b rest t same =
      record { front = t.front; split = t.split; shallow = t.shallow; member = inr t.member; local = λ v k. same v k ∙ t.local v k }

  -- where the choice reads as T, it is stuck where T is, in a spelling of either grammar
  other_stuck : (w : List S) (e : Fault) (t : Stuck limit H T w e)
      → ((v : List S) → SameHead t.rest v → look_or f R T (bare t.front ++ v) ≡ T (bare t.front ++ v))
      → Stuck limit (Either G H) (look_or f R T) w e
  other_stuck w e t same = record {
    front = t.front;
    rest = t.rest;
    split = t.split;
    shallow = t.shallow;
    more = t.more;
    value = t.value;
    goes_on = inr t.goes_on;
    fault = t.fault;
    stays = other_stays w (bare t.front) t.rest same e t.stays;
  }

  module _ (g : Reads limit fuel G m R) (h : Reads limit fuel H m T) where
    -- what the choice takes, where there is a first symbol, is spelled by one of the two grammars
    takes_at : (s : S) (w : List S) (o : Option K) → f s ≡ o → (b : A) (rest : List S) → length (s ∷ w) < fuel
        → led o R (T (s ∷ w)) (s ∷ w) ≡ Ok (b, rest) → Took limit (Either G H) (look_or f R T) (s ∷ w) b rest
    takes_at s w None e b rest few k =
        let t : Took limit H T (s ∷ w) b rest = h.takes (s ∷ w) b rest few k in
        other_took (s ∷ w) b rest t (λ v same. other s w (bare t.front) rest v e t.split same)
    takes_at s w (Some x) e b rest few k =
        let t : Took limit G R (s ∷ w) b rest = g.takes (s ∷ w) b rest few k in
        record {
          front = t.front;
          split = t.split;
          shallow = t.shallow;
          member = inl t.member;
          local = λ v same. lead s w (bare t.front) rest v x e t.split same ∙ t.local v same;
        }

    -- what the choice takes of any symbols is spelled by one of the two grammars
    takes : (w : List S) (b : A) (rest : List S) → length w < fuel → look_or f R T w ≡ Ok (b, rest)
        → Took limit (Either G H) (look_or f R T) w b rest
    takes [] b rest few k =
        let t : Took limit H T [] b rest = h.takes [] b rest few k in
        other_took [] b rest t (λ v same. at_end (bare t.front) rest v t.split same)
    takes (s ∷ w) b rest few k = takes_at s w (f s) refl b rest few k

    -- where the choice stops, and there is a first symbol, it is stuck in a spelling by one of the two grammars
    stops_at : (s : S) (w : List S) (o : Option K) → f s ≡ o → (e : Fault) → length (s ∷ w) < fuel → led o R (T (s ∷ w)) (s ∷ w) ≡ Err e
        → Stuck limit (Either G H) (look_or f R T) (s ∷ w) e
    stops_at s w None c e few k =
        let t : Stuck limit H T (s ∷ w) e = h.stops (s ∷ w) e few k in
        other_stuck (s ∷ w) e t (λ v same. other s w (bare t.front) t.rest v c t.split same)
    stops_at s w (Some x) c e few k =
        let t : Stuck limit G R (s ∷ w) e = g.stops (s ∷ w) e few k in
        record {
          front = t.front;
          rest = t.rest;
          split = t.split;
          shallow = t.shallow;
          more = t.more;
          value = t.value;
          goes_on = inl t.goes_on;
          fault = t.fault;
          stays = lead_stays s w (bare t.front) t.rest x c t.split e t.stays;
        }

    -- where the choice stops in any symbols, it is stuck in a spelling by one of the two grammars
    stops : (w : List S) (e : Fault) → length w < fuel → look_or f R T w ≡ Err e → Stuck limit (Either G H) (look_or f R T) w e
    stops [] e few k =
        let t : Stuck limit H T [] e = h.stops [] e few k in
        other_stuck [] e t (λ v same. at_end (bare t.front) t.rest v t.split same)
    stops (s ∷ w) e few k = stops_at s w (f s) refl e few k

    -- the choice reads a spelling by G, which begins with a symbol for which f has a value
    lead_passes : (ps : List (S × ℕ)) (b : A) → G ps b → BeginsBy f ps → (v : List S) → m v
        → Passes limit fuel ps (look_or f R T (bare ps ++ v)) b v
    lead_passes [] b p i v k = absurd i
    lead_passes (q ∷ ps) b p i v k =
        subst (λ o. Passes limit fuel (q ∷ ps) (led o R (T (q.0 ∷ (bare ps ++ v))) (q.0 ∷ (bare ps ++ v))) b v) (sym i.1)
        (g.again (q ∷ ps) b p v k)

    -- the choice reads a spelling by H, which begins with a symbol for which f has none
    other_passes : (ps : List (S × ℕ)) (b : A) → H ps b → BeginsElse f ps → (v : List S) → m v
        → Passes limit fuel ps (look_or f R T (bare ps ++ v)) b v
    other_passes [] b p i v k = absurd i
    other_passes (q ∷ ps) b p i v k =
        subst (λ o. Passes limit fuel (q ∷ ps) (led o R (T (q.0 ∷ (bare ps ++ v))) (q.0 ∷ (bare ps ++ v))) b v) (sym i)
        (h.again (q ∷ ps) b p v k)

    -- the choice reads either grammar, where spellings by G begin with symbols for which f has a value, and those by H with others
    pub either_reads : ((ps : List (S × ℕ)) (b : A) → G ps b → BeginsBy f ps) → ((ps : List (S × ℕ)) (b : A) → H ps b → BeginsElse f ps)
        → Reads limit fuel (Either G H) m (look_or f R T)
    either_reads begins others = record {
      made = (g.made.0, g.made.1, inl g.made.2);
      takes = takes;
      again = again;
      stops = stops;
    }
      where
        again : (ps : List (S × ℕ)) (b : A) → Either G H ps b → (v : List S) → m v → Passes limit fuel ps (look_or f R T (bare ps ++ v)) b v
        again ps b (inl p) v k = lead_passes ps b p (begins ps b p) v k
        again ps b (inr p) v k = other_passes ps b p (others ps b p) v k
