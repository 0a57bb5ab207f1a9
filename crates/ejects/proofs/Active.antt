-- Ejects that are active: by the code's table, and by their bodies.
use Rattle.std.proofs.Common.{◌≡◌, ℕ, Bool, true, List, Option, None, Some, refl, sym, ◌∙◌, subst}
use Rattle.std.specs.Prelude.{◌↔◌, is_some, IsSome, IsSomeAnd, IsTrue}
use Rattle.std.specs.Option.{option_map}
use Rattle.std.specs.FinMap.{get, get-insert}
use Rattle.std.proofs.lemmas.Cmp.{tied_itself}
use Rattle.capability.specs.declared.Uid.{Uid}
use Rattle.capability.proofs.Uids.{uid_cmp_total}
use Rattle.eden_model.specs.Crew.{Crew, Invocation, Runs, startable}
use Rattle.eject_table.specs.Table.{Table, active_at, active_in, with_active}
use Rattle.epl_syntax.specs.Rules.OfTypes.{TypeList}
use Rattle.invocation.specs.Mail.{Mail}
use Rattle.invocation.specs.Numbers.{item_in}
use Rattle.active_part.specs.Body.{Body}
use Rattle.active_part.specs.View.{body_of, coordination_of}
use Rattle.active_part.specs.declared.part.Part.{Part}
use Rattle.ejects.specs.Marks.{IsReady, MayBegin, may_start}
use Rattle.ejects.specs.Replies.{StartsAt}
use Rattle.ejects.proofs.Leaving.{body_in}

-- 1. In the table

-- of an active Eject this is so: its process runs, or an invocation may start
abbrev pub MayIn : (Crew → List Invocation → Type 0) → Option Part → Type 0
MayIn P o = IsSomeAnd o (λ a. P (coordination_of a).crew (coordination_of a).queued)

pub may-active : (P : Crew → List Invocation → Type 0) (o : Option Part) → MayIn P o → IsSome o
may-active P None may = absurd may
may-active P (Some a) may = refl

pub may-part : (P : Crew → List Invocation → Type 0) (o : Option Part) (a : Part) → Some a ≡ o → MayIn P o
    → P (coordination_of a).crew (coordination_of a).queued
may-part P o a is may = subst (MayIn P) (sym is) may

pub may-none : (P : Crew → List Invocation → Type 0) (o : Option Part) → o ≡ None → MayIn P o → ⊥
may-none P o is may = subst (MayIn P) is may

pub written-may : (P : Crew → List Invocation → Type 0) (t : Table Part) (u : Uid) (a : Part)
    → P (coordination_of a).crew (coordination_of a).queued → MayIn P (active_at (with_active t u a) u)
written-may P t u a may =
    let here : get (with_active t u a).standings u ≡ Some (Some a) =
    get-insert uid_cmp_total t.standings u (Some a) u ∙ rw (tied_itself uid_cmp_total u) refl in
    subst (λ o. MayIn P (active_in o)) (sym here) may

-- 2. By its body

-- so the code's process runs
pub ready-runs : (ts : TypeList) (o : Option (Option Part)) (p : ℕ) → IsReady (active_in (body_in ts o)) p
    → MayIn (λ crew queued. Runs crew p) (active_in o)
ready-runs ts None p ready = absurd ready
ready-runs ts (Some None) p ready = absurd ready
ready-runs ts (Some (Some a)) p ready = ready

-- an invocation that may begin may start
pub begin-start : (m : Mail) (o : Option Body) → MayBegin m o → may_start o ≡ true
begin-start m None may = absurd may
begin-start m (Some b) may = go (startable b.crew.crew b.crew.queued) may
  where
    go : (i : Option Invocation) → IsSomeAnd i (λ i. IsSome (item_in i.call m.calls)) → is_some i ≡ true
    go None may = absurd may
    go (Some i) may = refl

-- and its call was asked
pub begin-asked : (m : Mail) (o : Option Body) (k : ℕ) → MayBegin m o → StartsAt o k → IsSome (item_in k m.calls)
begin-asked m None k may starts = absurd may
begin-asked m (Some b) k may starts = go (startable b.crew.crew b.crew.queued) may starts
  where
    go : (i : Option Invocation) → IsSomeAnd i (λ i. IsSome (item_in i.call m.calls)) → IsSomeAnd i (λ i. k ≡ i.call)
        → IsSome (item_in k m.calls)
    go None may starts = absurd may
    go (Some i) may starts = subst (λ j. IsSome (item_in j m.calls)) (sym starts) may

-- what the code finds out of it
pub begin-found : (m : Mail) (b : Body) (call : Option ℕ) (so : Bool)
    → call ≡ option_map (λ (i : Invocation). i.call) (startable b.crew.crew b.crew.queued)
    → (IsTrue so ↔ IsSomeAnd call (λ k. IsSome (item_in k m.calls))) → IsTrue so ↔ MayBegin m (Some b)
begin-found m b call so is iff =
    go (startable b.crew.crew b.crew.queued) (subst (λ o. IsTrue so ↔ IsSomeAnd o (λ k. IsSome (item_in k m.calls))) is iff)
  where
    go : (o : Option Invocation) → (IsTrue so ↔ IsSomeAnd (option_map (λ (i : Invocation). i.call) o) (λ k. IsSome (item_in k m.calls)))
        → IsTrue so ↔ IsSomeAnd o (λ i. IsSome (item_in i.call m.calls))
    go None iff = iff
    go (Some i) iff = iff

-- so the code's invocation may start
pub begin-may : (ts : TypeList) (m : Mail) (o : Option (Option Part)) → MayBegin m (active_in (body_in ts o))
    → MayIn (λ crew queued. IsSome (startable crew queued)) (active_in o)
begin-may ts m None may = absurd may
begin-may ts m (Some None) may = absurd may
begin-may ts m (Some (Some a)) may = begin-start m (Some (body_of ts a)) may
