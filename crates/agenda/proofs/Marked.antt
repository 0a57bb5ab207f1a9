-- An agenda after what two Ejects may do was noted.
use Rattle.std.proofs.Common.{◌≡◌, Bool, true, false, cond, List, map, Option, refl, sym, ◌∙◌}
use Rattle.std.specs.Prelude.{◌||◌}
use Rattle.std.specs.Ordering.{eq_by_cmp}
use Rattle.std.specs.List.Sorted.{IsStrictlySortedBy}
use Rattle.std.proofs.lemmas.Cmp.{tied_itself}
use Rattle.capability.specs.declared.Uid.{Uid}
use Rattle.capability.proofs.Uids.{uid_cmp_total}
use Rattle.eden_model.specs.Map.{value_at, uid_cmp, same_uid}
use Rattle.ejects.specs.Parts.{Parts}
use Rattle.ejects.proofs.Leaving.{flipped}
use Rattle.agenda.specs.Keys.{Indexes, Indices, IsAgenda}
use Rattle.agenda.specs.Indexed.{entry_if, is_it}
use Rattle.agenda.specs.Marks.{marks_of, HasMarks, marked, MayBut}
use Rattle.agenda.proofs.Noted.{noted}

-- the same index, by a test that says the same
pub same-test : (us : List Uid) (test now : Uid → Bool) → ((v : Uid) → test v ≡ now v) → Indexes us test → Indexes us now
same-test us test now same is = record { ascend = is.ascend; exact = λ v. is.exact v ∙ same v }

-- an index where one Eject was noted by the new test
pub marked-one : (old new : List (Uid × Bool)) (u : Uid) (b : Bool) (test now : Uid → Bool)
    → ((q : Uid) → value_at uid_cmp q new ≡ cond (eq_by_cmp uid_cmp u q) (entry_if b) (value_at uid_cmp q old))
    → IsStrictlySortedBy uid_cmp (map (λ e. e.0) new) → Indexes (map (λ e. e.0) old) test → b ≡ now u
    → Indexes (map (λ e. e.0) new) (λ v. cond (same_uid u v) (now v) (test v))
marked-one old new u b test now at ascend was is = noted old new u b test (λ v. cond (same_uid u v) (now v) (test v)) at ascend was
    (is ∙ sym here) others
  where
    here : cond (same_uid u u) (now u) (test u) ≡ now u
    here = rw (tied_itself uid_cmp_total u) refl

    others : (v : Uid) → same_uid v u ≡ false → cond (same_uid u v) (now v) (test v) ≡ test v
    others v other = rw (flipped u v other) refl

-- noted one behind the other
both : (x y new old : Bool) → ((x || y) ≡ false → new ≡ old) → cond y new (cond x new old) ≡ new
both true true new old h = refl
both false true new old h = refl
both true false new old h = refl
both false false new old h = sym (h refl)

pub marks-both : (a : Indices) (n new : Parts) (one other : Option Uid)
    → HasMarks a (marked (is_it other) (marks_of new) (marked (is_it one) (marks_of new) (marks_of n)))
    → MayBut (λ v. is_it one v || is_it other v) n new → IsAgenda a new
marks-both a n new one other is alike = record {
  wake = same-test a.wake _ _ (λ v. both (is_it one v) (is_it other v) _ _ (alike.wake v)) is.wake;
  start = same-test a.start _ _ (λ v. both (is_it one v) (is_it other v) _ _ (alike.start v)) is.start;
  run = same-test a.run _ _ (λ v. both (is_it one v) (is_it other v) _ _ (alike.run v)) is.run;
}

-- an agenda as marks
pub marks-are : (a : Indices) (n : Parts) → IsAgenda a n → HasMarks a (marks_of n)
marks-are a n is = record { wake = is.wake; start = is.start; run = is.run }
