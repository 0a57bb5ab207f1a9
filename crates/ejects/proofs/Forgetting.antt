-- An Eject that is not active leaves the table; and what follows from how an Eject stands there.
use Rattle.std.proofs.Common.{◌≡◌, ℕ, Bool, true, false, cond, ◌||◌, ◌&&◌, List, [], Option, None, Some, refl, sym, ◌∙◌, ap}
use Rattle.std.specs.Prelude.{is_some}
use Rattle.std.specs.Ordering.{eq_by_cmp}
use Rattle.std.specs.FinMap.{get, get-remove}
use Rattle.std.proofs.lemmas.Cmp.{tied_itself}
use Rattle.capability.specs.declared.Uid.{Uid}
use Rattle.capability.proofs.Uids.{uid_cmp_total, uid_cmp-IsAntisymmetric}
use Rattle.eden_model.proofs.Laws.{eq-same}
use Rattle.eden_model.specs.Map.{value_at, uid_cmp, same_uid}
use Rattle.eject_table.specs.Table.{Table, active_in, without_entry, standing_of, standing_at}
use Rattle.eject_table.specs.declared.EjectStanding.TheVariants.{Active, Passive, Absent}
use Rattle.epl_syntax.specs.Rules.OfTypes.{TypeList}
use Rattle.active_part.specs.Body.{Body}
use Rattle.active_part.specs.View.{body_of}
use Rattle.active_part.specs.declared.part.Part.{Part}
use Rattle.ejects.specs.Parts.{Parts, queue_of, queue_in}
use Rattle.ejects.specs.Passive.{HoldsPassive}
use Rattle.ejects.proofs.Leaving.{body_in, parts_with, flipped}
use Rattle.ejects.proofs.Removals.{AlikeAt}
use Rattle.ejects.proofs.Settles.{stays_there}

-- 1. By how it stands

pub by-active : (ts : TypeList) (W : Option Body → Type 0) (o : Option (Option Part)) → standing_of o ≡ Active
    → ((b : Body) → active_in (body_in ts o) ≡ Some b → W (Some b)) → W (active_in (body_in ts o))
by-active ts W None is f = absurd (let bad : Absent ≡ Active = is in cc bad)
by-active ts W (Some None) is f = absurd (let bad : Passive ≡ Active = is in cc bad)
by-active ts W (Some (Some a)) is f = f (body_of ts a) refl

pub none-passive : (ts : TypeList) (o : Option (Option Part)) → standing_of o ≡ Passive → active_in (body_in ts o) ≡ None
none-passive ts None is = refl
none-passive ts (Some None) is = refl
none-passive ts (Some (Some a)) is = absurd (let bad : Active ≡ Passive = is in cc bad)

-- what is not active and leaves the table takes no active part with it
pub forgotten-bodies : (ts : TypeList) (t later : Table Part) (u : Uid) → standing_at t u ≡ Passive → later ≡ without_entry t u
    → (v : Uid) → active_in (body_in ts (get later.standings v)) ≡ active_in (body_in ts (get t.standings v))
forgotten-bodies ts t later u passive after v = ap (λ (x : Table Part). active_in (body_in ts (get x.standings v))) after
    ∙ ap (λ o. active_in (body_in ts o)) (get-remove uid_cmp_total t.standings u v) ∙ go (eq_by_cmp uid_cmp v u) refl
  where
    go : (b : Bool) → eq_by_cmp uid_cmp v u ≡ b
        → active_in (body_in ts (cond b None (get t.standings v))) ≡ active_in (body_in ts (get t.standings v))
    go true e = sym (none-passive ts (get t.standings v)
        (ap (λ w. standing_at t w) (eq-same uid_cmp uid_cmp-IsAntisymmetric v u e) ∙ passive))
    go false e = refl

-- none that is absent is there
pub there-none : (ts : TypeList) (o : Option (Option Part)) → standing_of o ≡ Absent → is_some (body_in ts o) ≡ true → ⊥
there-none ts None is there = let bad : false ≡ true = there in cc bad
there-none ts (Some None) is there = let bad : Passive ≡ Absent = is in cc bad
there-none ts (Some (Some a)) is there = let bad : Active ≡ Absent = is in cc bad

-- it stays there where it is active, or noted
pub there-active : (ts : TypeList) (o : Option (Option Part)) (stays : Bool) → standing_of o ≡ Active
    → is_some (body_in ts o) ≡ (is_some (active_in (body_in ts o)) || (is_some (body_in ts o) && stays))
there-active ts None stays is = refl
there-active ts (Some None) stays is = absurd (let bad : Passive ≡ Active = is in cc bad)
there-active ts (Some (Some a)) stays is = refl

pub there-absent : (ts : TypeList) (o : Option (Option Part)) (stays : Bool) → standing_of o ≡ Absent
    → is_some (body_in ts o) ≡ (is_some (active_in (body_in ts o)) || (is_some (body_in ts o) && stays))
there-absent ts None stays is = refl
there-absent ts (Some None) stays is = absurd (let bad : Passive ≡ Absent = is in cc bad)
there-absent ts (Some (Some a)) stays is = refl

pub there-kept : (n : Parts) (u : Uid) (stays : Bool) → stays ≡ true → is_some (n.standing u) ≡ stays_there n u stays
there-kept n u stays is = go (n.standing u) ∙ ap (stays_there n u) (sym is)
  where
    go : (o : Option (Option Body)) → is_some o ≡ (is_some (active_in o) || (is_some o && true))
    go None = refl
    go (Some None) = refl
    go (Some (Some b)) = refl

-- 2. It is forgotten

module _ (ts : TypeList) (t later : Table Part) (waits : List (Uid × List ℕ)) (u : Uid)
    (passive : standing_at t u ≡ Passive) (table : later ≡ without_entry t u) where
  gone-here : get later.standings u ≡ None
  gone-here = ap (λ (t : Table Part). get t.standings u) table ∙ get-remove uid_cmp_total t.standings u u
      ∙ rw (tied_itself uid_cmp_total u) refl

  same-other : (v : Uid) → same_uid v u ≡ false → body_in ts (get later.standings v) ≡ body_in ts (get t.standings v)
  same-other v other = ap (λ (t : Table Part). body_in ts (get t.standings v)) table
      ∙ ap (body_in ts) (get-remove uid_cmp_total t.standings u v ∙ rw other refl)

  -- with its queue
  pub forgotten-passive : (now : List (Uid × List ℕ))
      → ((q : Uid) → value_at uid_cmp q now ≡ cond (eq_by_cmp uid_cmp u q) None (value_at uid_cmp q waits))
      → HoldsPassive u (parts_with ts t waits) (parts_with ts later now) [] false
  forgotten-passive now waiting = record {
    only = record {
      node = record {
        number = ap (λ (t : Table Part). t.node) table;
        types = refl;
        epoch = ap (λ (t : Table Part). t.epoch) table;
        last_serial = ap (λ (t : Table Part). t.last_serial) table;
      };
      others = λ v other. record { standing = same-other v other; waiting = waiting v ∙ rw (flipped u v other) refl };
    };
    none = ap (λ o. active_in (body_in ts o)) gone-here;
    queue = ap (λ o. queue_of o (value_at uid_cmp u now)) (ap (λ o. active_in (body_in ts o)) gone-here)
        ∙ ap queue_in nothing;
    there = ap (λ o. is_some (body_in ts o)) gone-here;
  }
    where
      nothing : value_at uid_cmp u now ≡ None
      nothing = waiting u ∙ rw (tied_itself uid_cmp_total u) refl

  -- without it
  pub forgotten-alike : AlikeAt u (parts_with ts t waits) (parts_with ts later waits)
  forgotten-alike = record {
    only = record {
      node = record {
        number = ap (λ (t : Table Part). t.node) table;
        types = refl;
        epoch = ap (λ (t : Table Part). t.epoch) table;
        last_serial = ap (λ (t : Table Part). t.last_serial) table;
      };
      others = λ v other. record { standing = same-other v other; waiting = refl };
    };
    active = active;
    queue = ap (λ o. queue_of o (value_at uid_cmp u waits)) active;
  }
    where
      active : active_in (body_in ts (get later.standings u)) ≡ active_in (body_in ts (get t.standings u))
      active = ap (λ o. active_in (body_in ts o)) gone-here ∙ sym (none-passive ts (get t.standings u) passive)

  pub forgotten-there : (stays : Bool) → stays ≡ false
      → is_some (body_in ts (get later.standings u)) ≡ stays_there (parts_with ts t waits) u stays
  forgotten-there stays is = ap (λ o. is_some (body_in ts o)) gone-here
      ∙ sym (λ i. is_some (none-passive ts (get t.standings u) passive i) || both (is_some (body_in ts (get t.standings u))) i)
    where
      both : (b : Bool) → (b && stays) ≡ false
      both true = is
      both false = refl
