-- The bindings of names, noted in a table.
use Rattle.std.specs.Prelude.{◌≡◌, Bool, true, List, map, IsTrue}
use Rattle.std.specs.List.{list_all}
use Rattle.epl_syntax.specs.declared.binding.Binding.{Binding}
use Rattle.epl_syntax.specs.Bindings.{Names}
use Rattle.epl_check.specs.declared.noted.BodyNames.{BodyNames}

-- the names that a body sees
abbrev pub names_of : BodyNames → Names
names_of b = record {
  params = map (λ p. p.name) b.params.now;
  locals = map (λ v. v.name) b.locals.now;
  vars = map (λ v. v.name) b.vars.now;
  monitors = b.monitors.now;
  conditions = map (λ c. c.name) b.conditions.now;
}

-- A walk that answers true wrote nothing: the table was right already for each name that it came to.
abbrev pub Noted : Bool → List Binding → List Binding → Bool → Type 0
Noted answer old new right = IsTrue answer → (new ≡ old) × (right ≡ true)

-- the same of a walk through a list, as far as it has come: what is left of the list decides the whole
abbrev pub NotedFrom : {A : Type 0} → Bool → List Binding → List Binding → (A → Bool) → List A → List A → Type 0
NotedFrom answer old new right left whole = IsTrue answer → (new ≡ old) × (list_all right left ≡ list_all right whole)
