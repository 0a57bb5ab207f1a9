-- A node's parts go on to stand for the site, where both change alike.
use Rattle.std.proofs.Common.{◌≡◌, Bool, true, false, Some, refl, sym, ◌∙◌, ap}
use Rattle.std.specs.Ordering.{eq_by_cmp}
use Rattle.std.specs.Option.{option_map}
use Rattle.capability.specs.declared.Uid.{Uid}
use Rattle.capability.proofs.Uids.{uid_cmp_total, uid_cmp-IsAntisymmetric}
use Rattle.eden_model.specs.Map.{uid_cmp}
use Rattle.eden_model.proofs.Laws.{eq-same, value-changed_same, value-changed_other}
use Rattle.eden_model.specs.Traffic.{Traffic}
use Rattle.journal.specs.World.{Eject, Site, eject_in, on_eject, on_traffic}
use Rattle.ejects.specs.Parts.{Parts, SameNode, known, body_at, held_of, HasClasses, Stands}
pub use Rattle.ejects.specs.Passive.{SameAt, OnlyAt}
pub use Rattle.ejects.proofs.KeptClasses.{Keeps, class-kept, all-mapped, classes-kept}

-- 1. The same node

pub same-node : (n : Parts) → SameNode n n
same-node n = record { number = refl; types = refl; epoch = refl; last_serial = refl }

-- one behind the other
pub same-nodes : (n mid new : Parts) → SameNode n mid → SameNode mid new → SameNode n new
same-nodes n mid new a b = record {
  number = b.number ∙ a.number;
  types = b.types ∙ a.types;
  epoch = b.epoch ∙ a.epoch;
  last_serial = b.last_serial ∙ a.last_serial;
}

-- 2. A change of the messages

pub stays-on_traffic : (n : Parts) (s : Site) (f : Traffic → Traffic) → Keeps s.traffic (f s.traffic) → Stands n s
    → Stands n (on_traffic f s)
unfolding on_traffic
stays-on_traffic n s f keeps h = record {
  number = h.number;
  types = h.types;
  epoch = h.epoch;
  serial = h.serial;
  ejects = h.ejects;
  classes = λ u. classes-kept s.traffic (f s.traffic) keeps (body_at n u) (h.classes u);
}

-- 3. A change of one Eject

pub same-held : (n new : Parts) (v : Uid) → SameAt n new v → held_of new v ≡ held_of n v
same-held n new v h = rw (h.standing, h.waiting) refl

pub stays-at : (n new : Parts) (s : Site) (u : Uid) (f : Eject → Eject) (e : Eject) → eject_in s u ≡ Some e → OnlyAt u n new
    → known (Some (f e)) ≡ held_of new u → HasClasses s.traffic (body_at new u) → Stands n s → Stands new (on_eject u f s)
unfolding on_eject
stays-at n new s u f e is only here class h = record {
  number = h.number ∙ sym only.node.number;
  types = h.types ∙ sym only.node.types;
  epoch = h.epoch ∙ sym only.node.epoch;
  serial = h.serial ∙ sym only.node.last_serial;
  ejects = λ v. each v (eq_by_cmp uid_cmp v u) refl;
  classes = λ v. classes v (eq_by_cmp uid_cmp v u) refl;
}
  where
    each : (v : Uid) (b : Bool) → eq_by_cmp uid_cmp v u ≡ b → known (eject_in (on_eject u f s) v) ≡ held_of new v
    each v true is_u = let same : v ≡ u = eq-same uid_cmp uid_cmp-IsAntisymmetric v u is_u in
        rw same (ap known (value-changed_same uid_cmp uid_cmp_total uid_cmp-IsAntisymmetric u f s.node.ejects
        ∙ ap (option_map f) is) ∙ here)
    each v false other = ap known (value-changed_other uid_cmp uid_cmp_total uid_cmp-IsAntisymmetric v u f s.node.ejects other)
        ∙ h.ejects v ∙ sym (same-held n new v (only.others v other))

    classes : (v : Uid) (b : Bool) → eq_by_cmp uid_cmp v u ≡ b → HasClasses s.traffic (body_at new v)
    classes v true is_u = let same : v ≡ u = eq-same uid_cmp uid_cmp-IsAntisymmetric v u is_u in rw same class
    classes v false other = rw (only.others v other).standing (h.classes v)
