-- Each condition of a type is of the monitor in which it stands.
use Rattle.std.proofs.Common.{◌≡◌, ◌≤◌, ◌+◌, ℕ, sym, subst, List, [], ◌∷◌, ◌++◌, length, length-append, arith}
use Rattle.std.specs.List.{AllByRecursion}
use Rattle.grammar.specs.Depths.{Placed, Steps, no_step, step_on}
use Rattle.grammar.specs.Grammar.{Grammar}
use Rattle.epl_syntax.specs.Tree.{TypeTree}
use Rattle.epl_syntax.specs.declared.token.Token.{Token}
use Rattle.epl_syntax.specs.declared.tree.CondDecl.{CondDecl}
use Rattle.epl_syntax.proofs.KeptTypes.{all_push}
use Rattle.epl_parser.specs.Program.{SpellsType, AreInMonitors}
use Rattle.epl_parser.specs.Items.{MemberRest, IsMember, ItemRest, IsItem, IsEdentype}
use Rattle.epl_parser.specs.declared.item.ItemHead.{ItemHead}
use Rattle.epl_parser.specs.declared.item.ItemHead.TheVariants as item
use Rattle.epl_parser.specs.declared.item.MemberHead.{MemberHead}
use Rattle.epl_parser.specs.declared.item.MemberHead.TheVariants as member

-- the condition is of one of so many monitors
abbrev IsWithin : ℕ → CondDecl → Type 0
IsWithin n c = (1 ≤ c.monitor) × (c.monitor ≤ n)

more_monitors : (n m : ℕ) → n ≤ m → (cs : List CondDecl) → AllByRecursion (IsWithin n) cs → AllByRecursion (IsWithin m) cs
more_monitors n m le [] h = tt
more_monitors n m le (c ∷ cs) h = ((h.0.0, omega (arith, h.0.1)), more_monitors n m le cs h.1)

-- what a grammar makes of a type keeps what its steps keep
steps_keep : (P : TypeTree → Type 0) (G : TypeTree → Grammar (Placed Token) TypeTree)
    → ((e : TypeTree) (ps : List (Placed Token)) (f : TypeTree) → G e ps f → P e → P f)
    → (e : TypeTree) (ps : List (Placed Token)) (f : TypeTree) → Steps G e ps f → P e → P f
steps_keep P G one e ps f no_step h = h
steps_keep P G one e ps f (step_on {b = b} {front = front} {back = back} g more) h = steps_keep P G one b back f more (one e front b g h)

-- inside of the monitor of this number: it is the last one so far
abbrev IsInside : ℕ → TypeTree → Type 0
IsInside number e = (length e.monitors ≡ number) × AllByRecursion (IsWithin number) e.conditions

member_rest : (text : List ℕ) (number : ℕ) → 1 ≤ number → (h : MemberHead) (e : TypeTree) (ps : List (Placed Token)) (f : TypeTree)
    → MemberRest text number e h ps f → IsInside number e → IsInside number f
member_rest text number least member.Durable e ps f t x = subst (IsInside number) (sym t.goes_on.1) x
member_rest text number least member.Working e ps f t x = subst (IsInside number) (sym t.goes_on.1) x
member_rest text number least member.Condition e ps f t x =
    subst (IsInside number) (sym t.goes_on.1) (x.0, all_push (IsWithin number) e.conditions _ x.1 (least, omega arith))

item_rest : (text : List ℕ) (h : ItemHead) (e : TypeTree) (ps : List (Placed Token)) (f : TypeTree) → ItemRest text e h ps f
    → AreInMonitors e
    → AreInMonitors f
item_rest text item.Durable e ps f t x = subst AreInMonitors (sym t.goes_on.1) x
item_rest text item.Working e ps f t x = subst AreInMonitors (sym t.goes_on.1) x
item_rest text item.Class e ps f t x = subst AreInMonitors (sym t.goes_on.1) x
item_rest text item.Monitor e ps f t x =
    let number = length e.monitors + 1 in
    let begun : length (e.monitors ++ t.first ∷ []) ≡ number = omega (arith, length-append e.monitors (t.first ∷ [])) in
    let inside = steps_keep (IsInside number) (IsMember text number)
    (λ e ps f g y. member_rest text number
    (omega arith) g.first e g.back f g.goes_on y) _ t.goes_on.front t.goes_on.first t.goes_on.begins
    (begun, more_monitors (length e.monitors) number (omega arith) e.conditions x) in
    subst AreInMonitors (sym t.goes_on.goes_on.goes_on.1)
    (subst (λ n. AllByRecursion (IsWithin n) t.goes_on.first.conditions) (sym inside.0) inside.1)
item_rest text item.Operation e ps f t x = subst AreInMonitors (sym t.goes_on.1) x
item_rest text item.Process e ps f t x = subst AreInMonitors (sym t.goes_on.1) x

type_keeps : (text : List ℕ) (ps : List (Placed Token)) (e : TypeTree) → IsEdentype text ps e → AreInMonitors e
type_keeps text ps e g =
    let rest = g.goes_on.goes_on.goes_on in
    subst AreInMonitors (sym rest.goes_on.goes_on.goes_on.1)
    (steps_keep AreInMonitors (IsItem text)
    (λ e ps f t x. item_rest text t.first e t.back f t.goes_on x) _ rest.front rest.first rest.begins tt)

pub in_monitors : (text : List ℕ) (e : TypeTree) → SpellsType text e → AreInMonitors e
in_monitors text e h = type_keeps text h.type.placed e h.type.member
