-- What a text declares is one type, or one place at which it is refused.
use Rattle.std.proofs.Common.{◌≡◌, ◌∙◌, ap, sym, refl, subst, ℕ, Bool, true, false, List, [], ◌∷◌, inl, inr}
use Rattle.std.specs.Prelude.{◌||◌, nat_lt}
use Rattle.std.proofs.Common.{arith, ◌≤◌}
use Rattle.std.proofs.lemmas.Bool.{ltb-false}
use Rattle.epl_syntax.specs.Rules.First.{before, broken_at, IsOneOf, NoneBefore, IsFirst}
use Rattle.epl_syntax.specs.Rules.InItems.{broken_program}
use Rattle.epl_syntax.specs.Tree.{TypeTree}
use Rattle.epl_syntax.specs.declared.rule.Broken.{Broken}
use Rattle.epl_parser.specs.Program.{SpellsType, RefusesType}
use Rattle.eden_script.specs.Declarations.{Types, type_names, Declares, BreaksRule, RefusedAt}

-- what crate `epl_parser` promises of a text: it spells one type, or is refused at one place
pub record OneAnswer : Type 0 where
  pub one_tree : (text : List ℕ) (e f : TypeTree) → SpellsType text e → SpellsType text f → e ≡ f
  pub one_place : (text : List ℕ) (p q : ℕ) → RefusesType text p → RefusesType text q → p ≡ q
  pub never_both : (text : List ℕ) (e : TypeTree) (p : ℕ) → SpellsType text e → RefusesType text p → ⊥

-- one of several is not before one that none is before
not_before : (a b : Broken) (bs : List Broken) → IsOneOf a bs → NoneBefore b bs → before a b ≡ false
not_before a b [] m h = absurd m
not_before a b (c ∷ bs) (inl e) h = ap (λ (x : Broken). before x b) (sym e) ∙ h.0
not_before a b (c ∷ bs) (inr m) h = not_before a b bs m h.1

by_test : (m : Bool) (r : Bool) → (m || r) ≡ false → m ≡ false
by_test false r h = refl
by_test true r h = absurd cc

not_less : (a b : Broken) → before a b ≡ false → b.place ≤ a.place
not_less a b h = ltb-false a.place b.place (by_test (nat_lt a.place b.place) _ h)

-- the first place of broken rules is one
first_place : (bs : List Broken) (a b : Broken) → IsFirst bs a → IsFirst bs b → a.place ≡ b.place
first_place bs a b f g =
    omega (arith, not_less a b (not_before a b bs f.member g.none_before), not_less b a (not_before b a bs g.member f.none_before))

none_broken : (bs : List Broken) (a : Broken) → bs ≡ [] → IsOneOf a bs → ⊥
none_broken bs a e m = subst (IsOneOf a) e m

module _ (laws : OneAnswer) (types : Types) (text : List ℕ) where
  pub one_type : (t u : TypeTree) → Declares types text t → Declares types text u → t ≡ u
  one_type t u h g = laws.one_tree text t u h.spelled g.spelled

  same_rule : (p q : ℕ) → BreaksRule types text p → BreaksRule types text q → p ≡ q
  same_rule p q h g =
      first_place (broken_program (type_names types) g.value) (broken_at h.rule p) (broken_at g.rule q)
      (subst (λ (t : TypeTree). IsFirst (broken_program (type_names types) t) (broken_at h.rule p))
      (laws.one_tree text h.value g.value h.spelled g.spelled) h.first)
      g.first

  pub one_place : (p q : ℕ) → RefusedAt types text p → RefusedAt types text q → p ≡ q
  one_place p q (inl h) (inl g) = laws.one_place text p q h g
  one_place p q (inl h) (inr g) = absurd (laws.never_both text g.value p g.spelled h)
  one_place p q (inr h) (inl g) = absurd (laws.never_both text h.value q h.spelled g)
  one_place p q (inr h) (inr g) = same_rule p q h g

  pub never_both : (t : TypeTree) (p : ℕ) → Declares types text t → RefusedAt types text p → ⊥
  never_both t p h (inl g) = laws.never_both text t p h.spelled g
  never_both t p h (inr g) =
      none_broken (broken_program (type_names types) g.value) (broken_at g.rule p)
      (ap (broken_program (type_names types)) (laws.one_tree text g.value t g.spelled h.spelled) ∙ h.keeps_rules) g.first.member
