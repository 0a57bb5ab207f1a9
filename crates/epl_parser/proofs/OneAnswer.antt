-- A text is answered in one way at most.
use Rattle.std.proofs.Common.{◌≡◌, ℕ, List, length, sym, ap, ◌∙◌, subst, arith, inl, inr}
use Rattle.grammar.specs.FirstFault.{Spells as SpellsShallow, Breaks as BreaksGrammar, Deepens}
use Rattle.grammar.proofs.OneAnswer.{one_break, one_depth, broken_within, spelled_whole, spelled_within}
use Rattle.epl_syntax.specs.declared.token.Token.{Token}
use Rattle.epl_syntax.proofs.OneList.{leads_one, nothing_left}
use Rattle.epl_syntax.specs.Tree.{TypeTree}
use Rattle.epl_parser.specs.Items.{IsEdentype}
use Rattle.epl_parser.specs.Program.{SpellsType, HasTokens, place_of, BreaksType, DeepensType, RefusesType}

module _ (text : List ℕ) where
  same_tokens : (ts us : List Token) (a b : ℕ) → HasTokens text ts a → HasTokens text us b → (ts ≡ us) × (a ≡ b)
  same_tokens ts us a b h k = leads_one text 0 ts us a b h.leads h.stops k.leads k.stops

  -- the tokens of a text that spells a type
  all_tokens : (e : TypeTree) (s : SpellsType text e) → HasTokens text s.tokens (length text)
  all_tokens e s = record { leads = s.spelled; stops = nothing_left text }

  same_place : (ts us : List Token) (a b m n p q : ℕ) → ts ≡ us → a ≡ b → m ≡ n → p ≡ place_of a ts m → q ≡ place_of b us n → p ≡ q
  same_place ts us a b m n p q h k e f g =
      f ∙ ap (λ l. place_of a l m) h ∙ ap (λ c. place_of c us m) k ∙ ap (λ c. place_of b us c) e ∙ sym g

  two_breaks : (p q : ℕ) → BreaksType text p → BreaksType text q → p ≡ q
  two_breaks p q b c =
      let same = same_tokens b.tokens c.tokens b.end c.end b.has c.has in
      let left =
      one_break 32 (IsEdentype text) c.tokens b.left c.left
      (subst (λ l. BreaksGrammar 32 (IsEdentype text) l b.left) same.0 b.broken) c.broken in
      same_place b.tokens c.tokens b.end c.end b.left c.left p q same.0 same.1 left b.here c.here

  two_depths : (p q : ℕ) → DeepensType text p → DeepensType text q → p ≡ q
  two_depths p q b c =
      let same = same_tokens b.tokens c.tokens b.end c.end b.has c.has in
      let left =
      one_depth 32 (IsEdentype text) c.tokens b.left c.left (subst (λ l. Deepens 32 (IsEdentype text) l b.left) same.0 b.deep) c.deep in
      same_place b.tokens c.tokens b.end c.end b.left c.left p q same.0 same.1 left b.here c.here

  break_or_depth : (p q : ℕ) → BreaksType text p → DeepensType text q → ⊥
  break_or_depth p q b d =
      let same = same_tokens b.tokens d.tokens b.end d.end b.has d.has in
      broken_within 32 (IsEdentype text) d.tokens b.left d.left
      (subst (λ l. BreaksGrammar 32 (IsEdentype text) l b.left) same.0 b.broken) d.deep

  -- tokens that spell a type break off nowhere, and none of them is past the depth
  spelled_breaks : (ts : List Token) (end : ℕ) (e : TypeTree) (p : ℕ) → HasTokens text ts end → SpellsShallow 32 (IsEdentype text) ts e
      → BreaksType text p → ⊥
  spelled_breaks ts end e p h s b =
      let same = same_tokens ts b.tokens end b.end h b.has in
      spelled_whole 32 (IsEdentype text) b.tokens e b.left (subst (λ l. SpellsShallow 32 (IsEdentype text) l e) same.0 s) b.broken

  spelled_deepens : (ts : List Token) (end : ℕ) (e : TypeTree) (p : ℕ) → HasTokens text ts end → SpellsShallow 32 (IsEdentype text) ts e
      → DeepensType text p → ⊥
  spelled_deepens ts end e p h s d =
      let same = same_tokens ts d.tokens end d.end h d.has in
      spelled_within 32 (IsEdentype text) d.tokens e d.left (subst (λ l. SpellsShallow 32 (IsEdentype text) l e) same.0 s) d.deep

  pub one_place : (p q : ℕ) → RefusesType text p → RefusesType text q → p ≡ q
  one_place p q (inl (inl b)) (inl (inl c)) = two_breaks p q b c
  one_place p q (inl (inl b)) (inl (inr g)) = absurd (spelled_breaks g.tokens q g.value p g.has g.type b)
  one_place p q (inl (inr g)) (inl (inl b)) = absurd (spelled_breaks g.tokens p g.value q g.has g.type b)
  one_place p q (inl (inr g)) (inl (inr h)) = (same_tokens g.tokens h.tokens p q g.has h.has).1
  one_place p q (inl (inl b)) (inr d) = absurd (break_or_depth p q b d)
  one_place p q (inr d) (inl (inl b)) = absurd (break_or_depth q p b d)
  one_place p q (inl (inr g)) (inr d) = absurd (spelled_deepens g.tokens p g.value q g.has g.type d)
  one_place p q (inr d) (inl (inr g)) = absurd (spelled_deepens g.tokens q g.value p g.has g.type d)
  one_place p q (inr d) (inr c) = two_depths p q d c

  pub never_both : (e : TypeTree) (p : ℕ) → SpellsType text e → RefusesType text p → ⊥
  never_both e p s (inl (inl b)) = spelled_breaks s.tokens (length text) e p (all_tokens e s) s.type b
  never_both e p s (inl (inr g)) =
      let end = (same_tokens s.tokens g.tokens (length text) p (all_tokens e s) g.has).1 in
      let more = g.within in
      absurd (omega arith)
  never_both e p s (inr d) = spelled_deepens s.tokens (length text) e p (all_tokens e s) s.type d
