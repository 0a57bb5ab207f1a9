use Rattle.std.proofs.Common.{◌≡◌, Bool, true, false, cond, Option, None, Some, Result, Ok, Err, refl, sym, ap, subst, ◌∙◌}
use Rattle.std.specs.Prelude.{IsSome, OnErr, OnOk}
use Rattle.std.proofs.lemmas.Bool.{false≢true}
use Rattle.std.specs.Option.{option_and_then}
use Rattle.std.specs.Cmp.{eq_by_cmp_equiv}
use Rattle.std.specs.BTreeMap as tree
use Rattle.std.specs.BTreeMap.{BTreeMap, Updates}
use Rattle.capability.specs.declared.Uid.{Uid}
use Rattle.capability.specs.Uids.{uid_cmp}
use Rattle.capability.proofs.Uids.{uid_cmp_total}
use Rattle.passive_store.specs.declared.index.Slot.{Slot}
use Rattle.passive_store.specs.LogState.{slot_at}
use Rattle.passive_store.proofs.index.set_slot.Goals as goal

-- an insert does not fail where the key is there
set_or_absent : {E : Type 0} {T : Type 0} (r : Result T E) (old new : BTreeMap Uid (Option Slot)) (uid : Uid) (slot : Option Slot) →
    IsSome (tree.get uid_cmp old uid) → OnErr r (tree.get uid_cmp old uid ≡ None) → OnOk r (Updates uid_cmp old new uid (Some slot))
    → Updates uid_cmp old new uid (Some slot)
set_or_absent (Ok x) old new uid slot here absent updates = updates
set_or_absent (Err e) old new uid slot here absent updates = let no : IsSome {T = Option Slot} None = subst IsSome absent here in
    absurd (false≢true no)

chosen : (b : Bool) (slot : Option Slot) (old : Option (Option Slot))
    → option_and_then (λ (s : Option Slot). s) (cond b (Some slot) old) ≡ cond b slot (option_and_then (λ (s : Option Slot). s) old)
chosen true slot old = refl
chosen false slot old = refl

kept_key : (b : Bool) (slot : Option Slot) (old : Option (Option Slot)) → IsSome old → IsSome (cond b (Some slot) old)
kept_key true slot old h = refl
kept_key false slot old h = h

pub returns-clause-sets : goal.returns-clause-sets
returns-clause-sets c = λ q.
    let u : Updates uid_cmp c.args.index.now c.insert.new.self c.args.uid (Some c.args.slot) =
    set_or_absent c.insert.result c.args.index.now c.insert.new.self c.args.uid c.args.slot c.requires c.insert.ensures.absent
    c.insert.ensures.updates in
    ap (option_and_then (λ (s : Option Slot). s)) (u.0 q) ∙ chosen _ c.args.slot (tree.get uid_cmp c.args.index.now q)
    ∙ ap (λ b. cond b c.args.slot (slot_at c.args.index.now q)) ((eq_by_cmp_equiv uid_cmp_total).symm c.args.uid q)

pub returns-clause-keys : goal.returns-clause-keys
returns-clause-keys c = λ q here.
    let u : Updates uid_cmp c.args.index.now c.insert.new.self c.args.uid (Some c.args.slot) =
    set_or_absent c.insert.result c.args.index.now c.insert.new.self c.args.uid c.args.slot c.requires c.insert.ensures.absent
    c.insert.ensures.updates in
    subst IsSome (sym (u.0 q)) (kept_key _ c.args.slot (tree.get uid_cmp c.args.index.now q) here)
