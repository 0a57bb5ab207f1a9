-- The name of a type in its tree is that of the token behind the first one.
use Rattle.std.proofs.Common.{◌≡◌, ◌∙◌, ap, sym, refl, subst, ℕ, List, ◌∷◌, ◌++◌, Some}
use Rattle.grammar.specs.Depths.{Placed, bare, Steps, no_step, step_on}
use Rattle.grammar.specs.Grammar.{Grammar}
use Rattle.grammar.proofs.Leads.{at_one}
use Rattle.epl_syntax.specs.Tree.{TypeTree}
use Rattle.epl_syntax.specs.Token.{SpellsTokens}
use Rattle.epl_syntax.specs.declared.token.Token.{Token}
use Rattle.epl_syntax.specs.declared.token.TokenKind.{TokenKind}
use Rattle.epl_syntax.specs.declared.token.TokenKind.TheVariants as kind
use Rattle.epl_syntax.specs.declared.tree.Name.{Name}
use Rattle.epl_syntax.specs.declared.word.Word.TheVariants as word
use Rattle.epl_parser.specs.OneToken.{the_word, if_upper, the_upper, name_at}
use Rattle.epl_parser.specs.Program.{SpellsType, IsNamed}
use Rattle.epl_parser.proofs.SingleTokens.{is_the_word}
use Rattle.epl_parser.specs.Items.{MemberRest, IsMember, ItemRest, IsItem, IsEdentype}
use Rattle.epl_parser.specs.declared.item.ItemHead.{ItemHead}
use Rattle.epl_parser.specs.declared.item.ItemHead.TheVariants as item
use Rattle.epl_parser.specs.declared.item.MemberHead.{MemberHead}
use Rattle.epl_parser.specs.declared.item.MemberHead.TheVariants as member

-- a grammar that makes of a type another of the same name
abbrev KeepsName : (TypeTree → Grammar (Placed Token) TypeTree) → Type 0
KeepsName G = (e : TypeTree) (ps : List (Placed Token)) (f : TypeTree) → G e ps f → f.name ≡ e.name

steps_keep : (G : TypeTree → Grammar (Placed Token) TypeTree) → KeepsName G → KeepsName (Steps G)
steps_keep G one e ps f no_step = refl
steps_keep G one e ps f (step_on {b = b} {front = front} {back = back} g h) = steps_keep G one b back f h ∙ one e front b g

member_rest : (text : List ℕ) (number : ℕ) (h : MemberHead) → KeepsName (λ e. MemberRest text number e h)
member_rest text number member.Durable e ps f t = ap (λ (x : TypeTree). x.name) t.goes_on.1
member_rest text number member.Working e ps f t = ap (λ (x : TypeTree). x.name) t.goes_on.1
member_rest text number member.Condition e ps f t = ap (λ (x : TypeTree). x.name) t.goes_on.1

member_keeps : (text : List ℕ) (number : ℕ) → KeepsName (IsMember text number)
member_keeps text number e ps f t = member_rest text number t.first e t.back f t.goes_on

item_rest : (text : List ℕ) (h : ItemHead) → KeepsName (λ e. ItemRest text e h)
item_rest text item.Durable e ps f t = ap (λ (x : TypeTree). x.name) t.goes_on.1
item_rest text item.Working e ps f t = ap (λ (x : TypeTree). x.name) t.goes_on.1
item_rest text item.Class e ps f t = ap (λ (x : TypeTree). x.name) t.goes_on.1
item_rest text item.Monitor e ps f t =
    ap (λ (x : TypeTree). x.name) t.goes_on.goes_on.goes_on.1
    ∙ steps_keep (IsMember text _) (member_keeps text _) _ t.goes_on.front t.goes_on.first t.goes_on.begins
item_rest text item.Operation e ps f t = ap (λ (x : TypeTree). x.name) t.goes_on.1
item_rest text item.Process e ps f t = ap (λ (x : TypeTree). x.name) t.goes_on.1

item_keeps : (text : List ℕ) → KeepsName (IsItem text)
item_keeps text e ps f t = item_rest text t.first e t.back f t.goes_on

upper_in : (text : List ℕ) (t : Token) (name : Name) (k : TokenKind) → if_upper text t k ≡ Some name
    → (k ≡ kind.Upper) × (name_at text t ≡ name)
upper_in text t name kind.Upper h = (refl, cc)
upper_in text t name kind.Lower h = absurd cc
upper_in text t name (kind.Int n) h = absurd cc
upper_in text t name kind.Text h = absurd cc
upper_in text t name (kind.Mark m) h = absurd cc
upper_in text t name (kind.Word w) h = absurd cc

is_the_upper : (text : List ℕ) (t : Token) (name : Name) → the_upper text t ≡ Some name
    → (t.kind ≡ kind.Upper) × (name_at text t ≡ name)
unfolding the_upper
is_the_upper text t name h = upper_in text t name t.kind h

named_by : (text : List ℕ) (tokens : List Token) (ps : List (Placed Token)) (e : TypeTree) → SpellsTokens text tokens → tokens ≡ bare ps
    → IsEdentype text ps e → IsNamed text e.name
named_by text tokens ps e spelled whole g =
    let one = at_one _ (the_word word.Edentype) g.front g.first g.begins in
    let two = at_one _ (the_upper text) g.goes_on.front g.goes_on.first g.goes_on.begins in
    let rest = g.goes_on.goes_on.goes_on in
    let same : e.name ≡ g.goes_on.first =
    ap (λ (x : TypeTree). x.name) rest.goes_on.goes_on.goes_on.1
    ∙ steps_keep (IsItem text) (item_keeps text) _ rest.front rest.first rest.begins
    in
    let upper = is_the_upper text two.0 g.goes_on.first two.1 in
    let split : tokens ≡ one.0 ∷ two.0 ∷ bare g.goes_on.back =
    whole ∙ ap bare (g.whole ∙ ap (λ (l : List (Placed Token)). l ++ g.back) one.2)
    ∙ ap (λ (l : List (Placed Token)). one.0 ∷ bare l) (g.goes_on.whole ∙ ap (λ (l : List (Placed Token)). l ++ g.goes_on.back) two.2)
    in
    record {
      first = one.0;
      second = two.0;
      more = bare g.goes_on.back;
      spelled = subst (SpellsTokens text) split spelled;
      is_word = (is_the_word word.Edentype one.0 g.first one.1).0;
      is_upper = upper.0;
      is_name = upper.1 ∙ sym same;
    }

pub is_named : (text : List ℕ) (e : TypeTree) → SpellsType text e → IsNamed text e.name
is_named text e h = named_by text h.tokens h.type.placed e h.spelled h.type.whole h.type.member
