-- What each active part keeps to: its type is one of the script's, it has as many values as that has variables, each task is one of that
-- type, and returns exactly where its process serves a call; and each queued call fits the type.
use Rattle.std.proofs.Common.{◌≡◌, ◌≤◌, ℕ, Bool, true, false, List, [], ◌∷◌, length, Option, None, Some, is_some}
use Rattle.std.specs.Prelude.{IsSomeAnd, IfSome}
use Rattle.std.specs.List.{AllByRecursion, list_any}
use Rattle.std.specs.Ordering.{nat_cmp}
use Rattle.capability.specs.declared.Uid.{Uid}
use Rattle.eden_value.specs.Datum.{Datum}
use Rattle.eden_model.specs.Map.{same_text, value_at, uid_cmp}
use Rattle.eden_model.specs.Traffic.{Traffic, Call, call_at}
use Rattle.epl_syntax.specs.declared.effect.Effect.{Effect}
use Rattle.epl_syntax.specs.declared.effect.Effect.TheVariants as effect
use Rattle.epl_syntax.specs.Edentype.{Edentype, native, declared}
use Rattle.epl_syntax.specs.Tree.{TypeTree}
use Rattle.epl_syntax.specs.Rules.InItems.{broken_program}
use Rattle.epl_syntax.specs.Turns.{Left}
use Rattle.epl_syntax.specs.Meaning.{Rest, of_native, of_declared, Turned, type_of}
use Rattle.epl_syntax.specs.Monitors.{IsGuardedOf}
use Rattle.journal.specs.World.{Task, Active, Eject, Node, World, Site, node_at, site_of, eject_in}
use Rattle.journal.specs.Deliveries.{misfit}
use Rattle.journal.specs.Processes.{turn_of, serving}
use Rattle.journal.specs.Sites.{GoesOn}
use Rattle.history_laws.proofs.Fits.{times}
use Rattle.history_laws.proofs.SiteCrews.{serves_at}

-- 1. Types

-- a type of these names is one of these types
abbrev pub AreKnown : List Edentype → List (List ℕ) → Type 0
AreKnown types names = (name : List ℕ) → list_any (λ n. same_text n name) names ≡ true → is_some (type_of types name) ≡ true

-- a declared type keeps the rules behind types that there are, and its conditions are of its monitors
pub record IsRuled (types : List Edentype) (t : TypeTree) : Type 0 where
  pub earlier : List (List ℕ)
  pub keeps : broken_program earlier t ≡ []
  pub known : AreKnown types (t.name.text ∷ earlier)
  pub monitors : AllByRecursion (λ c. (1 ≤ c.monitor) × (c.monitor ≤ length t.monitors)) t.conditions

abbrev pub IsRuledType : List Edentype → Edentype → Type 0
IsRuledType types (native n) = Unit {0}
IsRuledType types (declared t) = IsRuled types t

-- each of these types, and each at a site
abbrev pub AreRuled : List Edentype → Type 0
AreRuled types = (name : List ℕ) (t : Edentype) → type_of types name ≡ Some t → IsRuledType types t

abbrev pub Ruling : List Edentype → Site → Type 0
Ruling types s = (name : List ℕ) (t : Edentype) → type_of s.types name ≡ Some t → IsRuledType types t

-- 2. Tasks

-- what is left to do of a process of a declared type, which serves a call or does not
pub record IsTask (types : List Edentype) (t : TypeTree) (serves : Bool) (left : Left) : Type 0 where
  pub earlier : List (List ℕ)
  pub known : AreKnown types (t.name.text ∷ earlier)
  pub guarded : IsGuardedOf earlier t left
  pub returns : left.returns ≡ serves

abbrev pub FitsRest : List Edentype → Edentype → Bool → Rest → Type 0
FitsRest types (native n) serves (of_native stage) = Unit {0}
FitsRest types (declared t) serves (of_declared left) = IsTask types t serves left
FitsRest types _ serves _ = ⊥

-- what its effect is: it creates Ejects of types that there are, locks a monitor that has a number, and ends alone where it serves no call
abbrev pub FitsEffect : List Edentype → Bool → Effect → Type 0
FitsEffect types serves (effect.Create name) = is_some (type_of types name) ≡ true
FitsEffect types serves (effect.Lock m) = 1 ≤ m
FitsEffect types serves effect.End = serves ≡ false
FitsEffect types serves _ = Unit {0}

-- 3. Active parts, where the calls are these

abbrev pub FitsCall : Edentype → Option Call → Type 0
FitsCall t o = IsSomeAnd o (λ c. misfit t c ≡ None)

-- as many values as a declared type has variables
abbrev pub HasValues : Edentype → List Datum → Type 0
HasValues (native n) vars = Unit {0}
HasValues (declared t) vars = length vars ≡ length t.vars

pub record FitsActive (types : List Edentype) (calls : Traffic) (queued : List ℕ) (it : Active) : Type 0 where
  pub kind : IsRuledType types it.kind
  pub values : HasValues it.kind it.vars
  pub tasks : (p : ℕ) (t : Task) → value_at nat_cmp p it.tasks ≡ Some t
      → FitsRest types it.kind (is_some (serves_at p it.crew.processes)) t.rest
  pub waiting : (k : ℕ) → 1 ≤ times k queued → FitsCall it.kind (call_at calls k)

abbrev pub FitsEject : List Edentype → Traffic → Eject → Type 0
FitsEject types calls e = IfSome e.active (FitsActive types calls e.queued)

-- all Ejects of a node, and of a site
abbrev pub NodeFits : List Edentype → Traffic → Node → Type 0
NodeFits types calls it = (u : Uid) (e : Eject) → value_at uid_cmp u it.ejects ≡ Some e → FitsEject types calls e

abbrev pub AllFitIn : List Edentype → Traffic → Site → Type 0
AllFitIn types calls s = (u : Uid) (e : Eject) → eject_in s u ≡ Some e → FitsEject types calls e

-- the effect of the next turn of this process
abbrev pub EffectFits : List Edentype → Site → Uid → ℕ → Type 0
EffectFits types s v p = (e : Eject) → eject_in s v ≡ Some e → (it : Active) → e.active ≡ Some it → (t : Turned) → turn_of v it p ≡ Some t
    → FitsEffect types (is_some (serving it p)) t.effect

-- of each process of a world
abbrev pub EffectsFit : List Edentype → World → Type 0
EffectsFit types w = (n : ℕ) (it : Node) → node_at w n ≡ Some it → (v : Uid) (p : ℕ) → EffectFits types (site_of w n it) v p

-- 4. Later calls

-- each call goes on
abbrev pub CallsKept : Traffic → Traffic → Type 0
CallsKept t later = (k : ℕ) (c : Call) → call_at t k ≡ Some c → IsSomeAnd (call_at later k) (GoesOn c)
