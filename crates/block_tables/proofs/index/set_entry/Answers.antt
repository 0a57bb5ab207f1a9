use Rattle.std.proofs.Common.{◌≡◌, Bool, true, false, cond, Option, None, Some, Result, Ok, Err, refl, sym, ap, subst, ◌∙◌}
use Rattle.std.specs.Prelude.{IsSome, OnErr, OnOk}
use Rattle.std.proofs.lemmas.Bool.{false≢true}
use Rattle.std.specs.Cmp.{eq_by_cmp_equiv}
use Rattle.std.specs.BTreeMap as tree
use Rattle.std.specs.BTreeMap.{BTreeMap, Updates}
use Rattle.capability.specs.declared.Uid.{Uid}
use Rattle.capability.specs.Uids.{uid_cmp}
use Rattle.capability.proofs.Uids.{uid_cmp_total}
use Rattle.block_tables.specs.declared.index.IndexEntry.{IndexEntry}
use Rattle.block_tables.specs.HeadState.{entry_at, entry_or_none}
use Rattle.block_tables.proofs.index.set_entry.Goals as goal

-- an insert does not fail where the key is there
set_or_absent : {E : Type 0} {T : Type 0} (r : Result T E) (old new : BTreeMap Uid IndexEntry) (uid : Uid) (entry : IndexEntry) →
    IsSome (tree.get uid_cmp old uid) → OnErr r (tree.get uid_cmp old uid ≡ None) → OnOk r (Updates uid_cmp old new uid (Some entry))
    → Updates uid_cmp old new uid (Some entry)
set_or_absent (Ok x) old new uid entry here absent updates = updates
set_or_absent (Err e) old new uid entry here absent updates = let no : IsSome {T = IndexEntry} None = subst IsSome absent here in
    absurd (false≢true no)

chosen : (b : Bool) (entry : IndexEntry) (old : Option IndexEntry)
    → entry_or_none (cond b (Some entry) old) ≡ cond b entry (entry_or_none old)
chosen true entry old = refl
chosen false entry old = refl

kept_key : (b : Bool) (entry : IndexEntry) (old : Option IndexEntry) → IsSome old → IsSome (cond b (Some entry) old)
kept_key true entry old h = refl
kept_key false entry old h = h

pub returns-clause-sets : goal.returns-clause-sets
returns-clause-sets c = λ q.
    let u : Updates uid_cmp c.args.index.now c.insert.new.self c.args.uid (Some c.args.entry) =
    set_or_absent c.insert.result c.args.index.now c.insert.new.self c.args.uid c.args.entry c.requires c.insert.ensures.absent
    c.insert.ensures.updates in
    ap entry_or_none (u.0 q) ∙ chosen _ c.args.entry (tree.get uid_cmp c.args.index.now q)
    ∙ ap (λ b. cond b c.args.entry (entry_at c.args.index.now q)) ((eq_by_cmp_equiv uid_cmp_total).symm c.args.uid q)

pub returns-clause-keys : goal.returns-clause-keys
returns-clause-keys c = λ q here.
    let u : Updates uid_cmp c.args.index.now c.insert.new.self c.args.uid (Some c.args.entry) =
    set_or_absent c.insert.result c.args.index.now c.insert.new.self c.args.uid c.args.entry c.requires c.insert.ensures.absent
    c.insert.ensures.updates in
    subst IsSome (sym (u.0 q)) (kept_key _ c.args.entry (tree.get uid_cmp c.args.index.now q) here)
