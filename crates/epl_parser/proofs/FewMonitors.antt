-- There is a number for each monitor of a type: it has no more of them than tokens, and no more tokens than bytes.
use Rattle.std.proofs.Common.{◌≡◌, ℕ, suc, ◌+◌, ◌-◌, ◌<◌, ◌≤◌, List, [], ◌∷◌, ◌++◌, length, drop, Ok}
use Rattle.std.proofs.Common.{ap, ◌∙◌, arith, length-append}
use Rattle.grammar.specs.Grammar.{Grammar}
use Rattle.grammar.specs.Depths.{Placed, bare, Steps, no_step, step_on}
use Rattle.grammar.proofs.Leads.{at_one}
use Rattle.epl_syntax.specs.declared.token.Token.{Token}
use Rattle.epl_syntax.specs.Token.{Leads}
use Rattle.epl_syntax.specs.Tree.{TypeTree}
use Rattle.epl_syntax.proofs.Leading.{token_within}
use Rattle.epl_parser.specs.declared.item.ItemHead.{ItemHead}
use Rattle.epl_parser.specs.declared.item.ItemHead.TheVariants as item
use Rattle.epl_parser.specs.declared.item.MemberHead.{MemberHead}
use Rattle.epl_parser.specs.declared.item.MemberHead.TheVariants as member
use Rattle.epl_parser.specs.Items.{item_head, MemberRest, IsMember, ItemRest}
use Rattle.epl_parser.specs.ItemReader.{read_item}
use Rattle.epl_parser.proofs.ItemReads.{item_reads}

-- ---- tokens are no more than bytes
pub tokens_fit : (text : List ℕ) (from : ℕ) (ts : List Token) (end : ℕ) → Leads text from ts end → from + length ts ≤ end
tokens_fit text from [] end h = omega (arith, h.forward)
tokens_fit text from (t ∷ ts) end h =
    let some = (token_within (drop t.start text) t.kind (t.end - t.start) h.2).0 in
    let more = tokens_fit text t.end ts end h.4 in
    omega (arith, h.0.forward, some, more)

-- ---- an item adds one monitor at most
abbrev Adds : ℕ → (TypeTree → Grammar (Placed Token) TypeTree) → Type 0
Adds n G = (e : TypeTree) (ps : List (Placed Token)) (f : TypeTree) → G e ps f → length f.monitors ≤ n + length e.monitors

abbrev monitors : TypeTree → ℕ
monitors e = length e.monitors

steps_add : (G : TypeTree → Grammar (Placed Token) TypeTree) → Adds 0 G → Adds 0 (Steps G)
steps_add G one e ps f no_step = omega arith
steps_add G one e ps f (step_on {b = b} {front = front} {back = back} g h) =
    omega (arith, one e front b g, steps_add G one b back f h)

member_rest : (text : List ℕ) (number : ℕ) (h : MemberHead) → Adds 0 (λ e. MemberRest text number e h)
member_rest text number member.Durable e ps f t = omega (arith, ap monitors t.goes_on.1)
member_rest text number member.Working e ps f t = omega (arith, ap monitors t.goes_on.1)
member_rest text number member.Condition e ps f t = omega (arith, ap monitors t.goes_on.1)

member_adds : (text : List ℕ) (number : ℕ) → Adds 0 (IsMember text number)
member_adds text number e ps f t = member_rest text number t.first e t.back f t.goes_on

item_rest : (text : List ℕ) (h : ItemHead) → Adds 1 (λ e. ItemRest text e h)
item_rest text item.Durable e ps f t = omega (arith, ap monitors t.goes_on.1)
item_rest text item.Working e ps f t = omega (arith, ap monitors t.goes_on.1)
item_rest text item.Class e ps f t = omega (arith, ap monitors t.goes_on.1)
item_rest text item.Monitor e ps f t =
    let inside = t.goes_on in
    omega (
      arith,
      ap monitors inside.goes_on.goes_on.1,
      length-append e.monitors (t.first ∷ []),
      steps_add (IsMember text _) (member_adds text _) _ inside.front inside.first inside.begins,
    )
item_rest text item.Operation e ps f t = omega (arith, ap monitors t.goes_on.1)
item_rest text item.Process e ps f t = omega (arith, ap monitors t.goes_on.1)

-- monitors and the tokens that are left
pub item_few : (text : List ℕ) (turns : ℕ) (e f : TypeTree) (ts us : List Token) → length ts < turns
    → read_item text turns e ts ≡ Ok (f, us) → length f.monitors + length us ≤ length e.monitors + length ts
item_few text turns e f ts us few h =
    let t = (item_reads text turns e).takes ts f us few h in
    let i = t.member in
    let one = at_one _ (λ (s : Token). item_head s.kind) i.front i.first i.begins in
    let more : length f.monitors ≤ 1 + length e.monitors = item_rest text i.first e i.back f i.goes_on in
    let front : length (bare t.front) ≡ suc (length (bare i.back)) =
    ap (λ (l : List (Placed Token)). length (bare l)) (i.whole ∙ ap (λ (l : List (Placed Token)). l ++ i.back) one.2) in
    let split = ap length t.split ∙ length-append (bare t.front) us in
    omega (arith, more, front, split)
