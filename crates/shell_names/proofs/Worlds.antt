-- Names that stand for those of a world, and of the worlds that commands lead to.
use Rattle.std.proofs.Common.{◌≡◌, ℕ, Bool, true, false, cond, List, Option, None, Some, refl, sym, ap, ◌∙◌}
use Rattle.std.specs.Prelude.{OnOk, Result, Ok, Err}
use Rattle.std.specs.List.{find}
use Rattle.capability.specs.declared.Uid.{Uid}
use Rattle.capability.specs.Capability.{full}
use Rattle.eden_model.specs.Map.{with_item, same_text}
use Rattle.epl_syntax.specs.Edentype.{Edentype}
use Rattle.epl_syntax.specs.Meaning.{type_of, first_values}
use Rattle.journal.specs.Commands.{born_as, made}
use Rattle.journal.specs.Ejects.{fresh, born}
use Rattle.journal.specs.World.{World, Meaning, capability}
use Rattle.history_laws.proofs.Frame.{only-at_node}
use Rattle.shell_names.specs.Names.{Names, NamesStand, Binds, StandsWith}

-- 1. Worlds with the same names

-- names stand for those of every world with the same names
pub same-names : (names : Names) (v w : World) → v.names ≡ w.names → NamesStand names w → NamesStand names v
same-names names v w same h name = ap (λ ns. with_item (find (λ e. same_text e.0 name) ns) (λ e. Some e.1) None) same ∙ h name

-- 2. A name is bound

first-of : (b : Bool) (name : List ℕ) (m : Meaning) (o : Option (List ℕ × Meaning))
    → with_item (cond b (Some (name, m)) o) (λ e. Some e.1) None ≡ cond b (Some m) (with_item o (λ e. Some e.1) None)
first-of true name m o = refl
first-of false name m o = refl

pub bound-stands : (old new : Names) (name : List ℕ) (m : Meaning) → Binds old new name m → StandsWith old new name m
bound-stands old new name m binds w h other =
    first-of (same_text name other) name m (find (λ e. same_text e.0 other) w.names)
    ∙ ap (λ o. cond (same_text name other) (Some m) o) (h other) ∙ sym (binds other)

-- 3. Creations

born-names : (u : Uid) (o : Option Edentype) (w : World) → (born_as u o w).names ≡ w.names
born-names u None w = refl
born-names u (Some t) w = (only-at_node u.node (born u (fresh t (first_values t))) w).names

pub created-stands : (old new : Names) (name : List ℕ) (u : Uid) → StandsWith old new name (capability (full u)) → (type_name : List ℕ)
    → (w : World) → NamesStand old w → NamesStand new (made name type_name (Some u) w)
created-stands old new name u with_it type_name w h =
    let t = type_of w.types type_name in
    with_it (born_as u t w) (same-names old (born_as u t w) w (born-names u t w) h)

-- 4. Where a call succeeds

pub where-ok : {X E A B : Type 0} (r : Result X E) → OnOk r A → (A → B) → OnOk r B
where-ok (Ok x) a f = f a
where-ok (Err e) a f = a
