-- Symbols are answered in one way at most: they spell a value, or they break off at one place, or are past the limit
-- from one place on.
use Rattle.std.specs.Prelude.{◌≡◌, ℕ, List, [], ◌∷◌, ◌++◌, length, refl}
use Rattle.std.proofs.Common.{ap, sym, ◌∙◌, subst, append_assoc, append-nil}
use Rattle.grammar.specs.Depths.{Placed, bare, Shallow}
use Rattle.grammar.specs.FirstFault.{Spells, NoneGoesOn, Breaks, NoneWithin, Deepens}
use Rattle.grammar.proofs.Lookers.{bare-append, shallow_front}

-- ---- two splits of one list
-- The second split is further on: behind the front of the first come this symbol and these.
pub record Further {S : Type 0} (front rest other back : List S) : Type 0 where
  pub symbol : S
  pub between : List S
  pub longer : other ≡ front ++ symbol ∷ between
  pub shorter : rest ≡ symbol ∷ (between ++ back)

-- they are the same split, or one is further on
pub data Splits {S : Type 0} (front rest other back : List S) : Type 0 where
  same : front ≡ other → rest ≡ back → Splits front rest other back
  further : Further front rest other back → Splits front rest other back
  nearer : Further other back front rest → Splits front rest other back

pub two_splits : {S : Type 0} (front rest other back : List S) → front ++ rest ≡ other ++ back → Splits front rest other back
two_splits [] rest [] back e = same refl e
two_splits [] rest (s ∷ other) back e = further (record { symbol = s; between = other; longer = refl; shorter = e })
two_splits (s ∷ front) rest [] back e = nearer (record { symbol = s; between = front; longer = refl; shorter = sym e })
two_splits (s ∷ front) rest (t ∷ other) back e =
    let head : s ≡ t = cc in
    let tail : front ++ rest ≡ other ++ back = cc in
    with_head head (two_splits front rest other back tail)
  where
    with_head : s ≡ t → Splits front rest other back → Splits (s ∷ front) rest (t ∷ other) back
    with_head h (same e f) = same (ap (λ u. u ∷ front) h ∙ ap (λ l. t ∷ l) e) f
    with_head h (further k) = further (record {
      symbol = k.symbol;
      between = k.between;
      longer = ap (λ l. t ∷ l) k.longer ∙ ap (λ u. u ∷ (front ++ k.symbol ∷ k.between)) (sym h);
      shorter = k.shorter;
    })
    with_head h (nearer k) = nearer (record {
      symbol = k.symbol;
      between = k.between;
      longer = ap (λ l. s ∷ l) k.longer ∙ ap (λ u. u ∷ (other ++ k.symbol ∷ k.between)) h;
      shorter = k.shorter;
    })

-- symbols with depths, cut where these end
pub record Cut {S : Type 0} (ps : List (S × ℕ)) (front rest : List S) : Type 0 where
  pub these : List (S × ℕ)
  pub others : List (S × ℕ)
  pub whole : ps ≡ these ++ others
  pub are : bare these ≡ front
  pub behind : bare others ≡ rest

pub cut : {S : Type 0} (ps : List (Placed S)) (front rest : List S) → bare ps ≡ front ++ rest → Cut ps front rest
cut ps [] rest e = record { these = []; others = ps; whole = refl; are = refl; behind = e }
cut [] (s ∷ front) rest e = absurd (cc)
cut (p ∷ ps) (s ∷ front) rest e =
    let head : p.0 ≡ s = cc in
    let tail : bare ps ≡ front ++ rest = cc in
    let c = cut ps front rest tail in
    record {
      these = p ∷ c.these;
      others = c.others;
      whole = ap (λ l. p ∷ l) c.whole;
      are = ap (λ l. p.0 ∷ l) c.are ∙ ap (λ u. u ∷ front) head;
      behind = c.behind;
    }

module _ {S A : Type 0} (limit : ℕ) (G : List (S × ℕ) → A → Type 0) where
  -- symbols that a spelling begins with, this one too, are not all within the limit in it
  pub not_within : (front : List S) (symbol : S) → NoneWithin limit G (front ++ symbol ∷ []) → (ps more : List (Placed S)) (a : A)
      → G (ps ++ more) a → (rest : List S) → bare ps ≡ front ++ symbol ∷ rest → Shallow limit ps → ⊥
  not_within front symbol none ps more a p rest e shallow =
      let c = cut ps (front ++ symbol ∷ []) rest (e ∙ sym (append_assoc front (symbol ∷ []) rest)) in
      none c.these (c.others ++ more) a
      (subst (λ l. G l a) (ap (λ l. l ++ more) c.whole ∙ append_assoc c.these c.others more) p)
      c.are
      (shallow_front limit c.these c.others (subst (λ l. Shallow limit l) c.whole shallow))

  pub goes_nowhere : (front rest : List S) → NoneGoesOn G front rest → (ps : List (Placed S)) (a : A) → G ps a → bare ps ≡ front ++ rest → ⊥
  goes_nowhere front [] none ps a p e = none ps a p (e ∙ append-nil front)
  goes_nowhere front (s ∷ rest) none ps a p e = none ps a p rest e

  -- ---- no two answers
  pub spelled_whole : (w : List S) (a : A) (left : ℕ) → Spells limit G w a → Breaks limit G w left → ⊥
  spelled_whole w a left s b = goes_nowhere (bare b.front) b.rest b.none s.placed a s.member (sym s.whole ∙ b.split)

  pub spelled_within : (w : List S) (a : A) (left : ℕ) → Spells limit G w a → Deepens limit G w left → ⊥
  spelled_within w a left s d =
      not_within (bare d.front) d.symbol d.none s.placed [] a (subst (λ l. G l a) (sym (append-nil s.placed)) s.member) d.rest
      (sym s.whole ∙ d.split) s.shallow

  -- where nothing goes on, no spelling begins with what is further on
  passed_by : (front rest other back : List S) → NoneGoesOn G front rest → Further front rest other back → (ps : List (Placed S)) (a : A)
      → G ps a → (more : List S) → bare ps ≡ other ++ more → ⊥
  passed_by front rest other back none f ps a p more e =
      let there : NoneGoesOn G front (f.symbol ∷ (f.between ++ back)) = subst (λ l. NoneGoesOn G front l) f.shorter none in
      there ps a p (f.between ++ more) (e ∙ ap (λ l. l ++ more) f.longer ∙ append_assoc front (f.symbol ∷ f.between) more)

  -- nor with one past the limit before it, all within the limit
  deep_before : (w : List S) (left : ℕ) (d : Deepens limit G w left) (back other : List S)
      → Further (bare d.front) (d.symbol ∷ d.rest) other back → (ps more : List (Placed S)) (a : A) → G (ps ++ more) a → bare ps ≡ other
      → Shallow limit ps → ⊥
  deep_before w left d back other f ps more a p e shallow =
      let head : d.symbol ≡ f.symbol = let h = f.shorter in cc in
      not_within (bare d.front) d.symbol d.none ps more a p f.between
      (e ∙ f.longer ∙ ap (λ u. bare d.front ++ u ∷ f.between) (sym head)) shallow

  pub one_break : (w : List S) (m n : ℕ) → Breaks limit G w m → Breaks limit G w n → m ≡ n
  one_break w m n b c = by_splits (two_splits (bare b.front) b.rest (bare c.front) c.rest (sym b.split ∙ c.split))
    where
      by_splits : Splits (bare b.front) b.rest (bare c.front) c.rest → m ≡ n
      by_splits (same e f) = b.place ∙ ap length f ∙ sym c.place
      by_splits (further f) = absurd (passed_by (bare b.front) b.rest (bare c.front) c.rest b.none f (c.front ++ c.more) c.value c.goes_on
          (bare c.more) (bare-append c.front c.more))
      by_splits (nearer f) = absurd (passed_by (bare c.front) c.rest (bare b.front) b.rest c.none f (b.front ++ b.more) b.value b.goes_on
          (bare b.more) (bare-append b.front b.more))

  pub one_depth : (w : List S) (m n : ℕ) → Deepens limit G w m → Deepens limit G w n → m ≡ n
  one_depth w m n d c = by_splits (two_splits (bare d.front) (d.symbol ∷ d.rest) (bare c.front) (c.symbol ∷ c.rest) (sym d.split ∙ c.split))
    where
      by_splits : Splits (bare d.front) (d.symbol ∷ d.rest) (bare c.front) (c.symbol ∷ c.rest) → m ≡ n
      by_splits (same e f) = d.place ∙ ap length f ∙ sym c.place
      by_splits (further f) = absurd (deep_before w m d (c.symbol ∷ c.rest) (bare c.front) f c.front
          ((c.symbol, c.depth) ∷ c.more) c.value c.goes_on refl c.shallow)
      by_splits (nearer f) = absurd (deep_before w n c (d.symbol ∷ d.rest) (bare d.front) f d.front
          ((d.symbol, d.depth) ∷ d.more) d.value d.goes_on refl d.shallow)

  pub broken_within : (w : List S) (m n : ℕ) → Breaks limit G w m → Deepens limit G w n → ⊥
  broken_within w m n b d = by_splits (two_splits (bare b.front) b.rest (bare d.front) (d.symbol ∷ d.rest) (sym b.split ∙ d.split))
    where
      reached : bare (d.front ++ (d.symbol, d.depth) ∷ d.more) ≡ bare d.front ++ d.symbol ∷ bare d.more
      reached = bare-append d.front ((d.symbol, d.depth) ∷ d.more)

      by_splits : Splits (bare b.front) b.rest (bare d.front) (d.symbol ∷ d.rest) → ⊥
      by_splits (same e f) =
          let there : NoneGoesOn G (bare d.front) (d.symbol ∷ d.rest) = subst (λ l. NoneGoesOn G (bare d.front) l) f
          (subst (λ l. NoneGoesOn G l b.rest) e b.none) in
          there (d.front ++ (d.symbol, d.depth) ∷ d.more) d.value d.goes_on (bare d.more) reached
      by_splits (further f) = passed_by (bare b.front) b.rest (bare d.front) (d.symbol ∷ d.rest) b.none f
          (d.front ++ (d.symbol, d.depth) ∷ d.more) d.value d.goes_on (d.symbol ∷ bare d.more) reached
      by_splits (nearer f) = deep_before w n d b.rest (bare b.front) f b.front b.more b.value b.goes_on refl b.shallow
