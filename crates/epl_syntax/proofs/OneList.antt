-- A text has one list of leading tokens, and one place where they end.
use Rattle.std.specs.Prelude.{◌≡◌, ℕ, ◌-◌, ◌<◌, ◌≤◌, true, false, List, [], ◌∷◌, length, drop, Some, None, slice_index}
use Rattle.std.proofs.Common.{◌⊎◌, inl, inr, refl, ap, subst, arith}
use Rattle.std.proofs.lemmas.Bool.{cases_lt}
use Rattle.epl_syntax.specs.Form.{is_blank}
use Rattle.epl_syntax.specs.declared.token.Token.{Token}
use Rattle.epl_syntax.specs.declared.token.TokenKind.{TokenKind}
use Rattle.epl_syntax.specs.Token.{token_at, AreBlanks, Leads, SpellsTokens, Breaks}

blanks_le : (text : List ℕ) (from a b : ℕ) → AreBlanks text from a → AreBlanks text from b → a ≤ b
blanks_le text from a b h k = by_order (cases_lt b a)
  where
    by_order : (b < a) ⊎ (a ≤ b) → a ≤ b
    by_order (inl less) =
        let f : is_blank (slice_index text b) ≡ false = k.stops (omega (arith, h.within)) in
        let t : is_blank (slice_index text b) ≡ true = h.blank b k.forward less in
        absurd cc
    by_order (inr le) = le

blanks_one : (text : List ℕ) (from a b : ℕ) → AreBlanks text from a → AreBlanks text from b → a ≡ b
blanks_one text from a b h k = omega (arith, blanks_le text from a b h k, blanks_le text from b a k h)

-- no token and a token do not begin at one place
clash : (text : List ℕ) (a b : ℕ) (f : TokenKind × ℕ) → a ≡ b → token_at (drop a text) ≡ None → token_at (drop b text) ≡ Some f → ⊥
clash text a b f e h k =
    let same : token_at (drop a text) ≡ token_at (drop b text) = ap (λ x. token_at (drop x text)) e in
    cc

abbrev make : TokenKind → ℕ → ℕ → Token
make k a b = record { kind = k; start = a; end = b }

made_same : (k k' : TokenKind) (a a' b b' : ℕ) → k ≡ k' → a ≡ a' → b ≡ b' → make k a b ≡ make k' a' b'
made_same k k' a a' b b' p q r = cc

same_token : (text : List ℕ) (t u : Token) → t.start ≡ u.start → token_at (drop t.start text) ≡ Some (t.kind, t.end - t.start)
    → token_at (drop u.start text) ≡ Some (u.kind, u.end - u.start) → t.start ≤ t.end → u.start ≤ u.end → t ≡ u
same_token text t u e h k ht hu =
    let same : token_at (drop t.start text) ≡ token_at (drop u.start text) = ap (λ x. token_at (drop x text)) e in
    let pairs : (t.kind, t.end - t.start) ≡ (u.kind, u.end - u.start) = cc in
    let kinds : t.kind ≡ u.kind = ap (λ (p : TokenKind × ℕ). p.0) pairs in
    let sizes : t.end - t.start ≡ u.end - u.start = ap (λ (p : TokenKind × ℕ). p.1) pairs in
    let ends : t.end ≡ u.end = omega arith in
    made_same t.kind u.kind t.start u.start t.end u.end kinds e ends

joined : (t u : Token) (ts us : List Token) → t ≡ u → ts ≡ us → t ∷ ts ≡ u ∷ us
joined t u ts us h k = cc

pub leads_one : (text : List ℕ) (from : ℕ) (ts us : List Token) (a b : ℕ) → Leads text from ts a → token_at (drop a text) ≡ None
    → Leads text from us b → token_at (drop b text) ≡ None → (ts ≡ us) × (a ≡ b)
leads_one text from [] [] a b h p k q = (refl, blanks_one text from a b h k)
leads_one text from [] (u ∷ us) a b h p k q = absurd (clash text a u.start _ (blanks_one text from a u.start h k.0) p k.2)
leads_one text from (t ∷ ts) [] a b h p k q = absurd (clash text b t.start _ (blanks_one text from b t.start k h.0) q h.2)
leads_one text from (t ∷ ts) (u ∷ us) a b h p k q =
    let same = same_token text t u (blanks_one text from t.start u.start h.0 k.0) h.2 k.2 h.3 k.3 in
    let rest = leads_one text u.end ts us a b (subst (λ (x : Token). Leads text x.end ts a) same h.4) p k.4 q in
    (joined t u ts us same rest.0, rest.1)

pub nothing_left : (text : List ℕ) → token_at (drop (length text) text) ≡ None
nothing_left text = ap token_at (drop_all text)
  where
    drop_all : (bs : List ℕ) → drop (length bs) bs ≡ []
    drop_all [] = refl
    drop_all (b ∷ bs) = drop_all bs

pub one_list : (text : List ℕ) (ts us : List Token) → SpellsTokens text ts → SpellsTokens text us → ts ≡ us
one_list text ts us s t = (leads_one text 0 ts us (length text) (length text) s (nothing_left text) t (nothing_left text)).0

pub one_place : (text : List ℕ) (p q : ℕ) → Breaks text p → Breaks text q → p ≡ q
one_place text p q s t = (leads_one text 0 s.before t.before p q s.leads s.none t.leads t.none).1

pub never_both : (text : List ℕ) (ts : List Token) (p : ℕ) → SpellsTokens text ts → Breaks text p → ⊥
never_both text ts p s t =
    let e : length text ≡ p = (leads_one text 0 ts t.before (length text) p s (nothing_left text) t.leads t.none).1 in
    let l : p < length text = t.within in
    absurd (omega arith)
