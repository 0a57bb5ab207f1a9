-- The Eject that is found under a uid, and what a change of it comes to.
use Rattle.std.proofs.Common.{◌≡◌, ◌∙◌, ℕ, Bool, true, false, List, Option, None, Some, refl, sym, ap, subst, cond}
use Rattle.std.proofs.Common.{slice_index_or, slice_set}
use Rattle.std.specs.FinMap.Entries.{find-put, same_entries}
use Rattle.std.specs.Ordering.{eq_by_cmp}
use Rattle.capability.specs.declared.Uid.{Uid}
use Rattle.capability.proofs.Uids.{uid_cmp_total, uid_cmp-IsAntisymmetric}
use Rattle.eden_model.specs.Map.{changed_at, put_at, uid_cmp, value_at}
use Rattle.eden_model.proofs.Laws.{eq-same}
use Rattle.epl_syntax.specs.Rules.OfTypes.{TypeList}
use Rattle.history_laws.proofs.Ordered.{order-put}
use Rattle.journal.specs.Sites.{InOrder}
use Rattle.journal.specs.World.{Eject}
use Rattle.plain_ejects.specs.View.{eject_of}
use Rattle.plain_stores.specs.declared.entries.PlainEntry.{PlainEntry}
use Rattle.plain_stores.specs.View.{IsPlaceOf, ejects_of}
use Rattle.plain_stores.proofs.Keyed.{changed-nowhere, changed-there, find-none, find-some, item-there}

-- 1. At the place of a uid

abbrev uid_in : PlainEntry → Uid
uid_in e = e.uid

placed : (u : Uid) (es ds : List PlainEntry) (o p : Option ℕ) → ds ≡ es → IsPlaceOf u ds o → o ≡ p → IsPlaceOf u es p
placed u es ds o p same at is = subst (λ l. IsPlaceOf u l p) same (subst (IsPlaceOf u ds) is at)

pub found-at : (ts : TypeList) (u : Uid) (es ds : List PlainEntry) (o : Option ℕ) (i : ℕ) (e : PlainEntry) → ds ≡ es → IsPlaceOf u ds o
    → o ≡ Some i → e ≡ slice_index_or es i e → value_at uid_cmp u (ejects_of ts es) ≡ Some (eject_of ts e.eject)
found-at ts u es ds o i e same at is read =
    let here : IsPlaceOf u es (Some i) = placed u es ds o (Some i) same at is in
    find-some uid_in (λ x. eject_of ts x.eject) u es i e here (item-there uid_in u es i e here.0 ∙ ap Some (sym read))

pub changed-at : (ts : TypeList) (u : Uid) (es ds : List PlainEntry) (o : Option ℕ) (i : ℕ) (e new : PlainEntry) (g : Eject → Eject)
    → ds ≡ es → IsPlaceOf u ds o → o ≡ Some i → e ≡ slice_index_or es i e → new.uid ≡ e.uid
    → eject_of ts new.eject ≡ g (eject_of ts e.eject) → InOrder (ejects_of ts es)
    → ejects_of ts (slice_set es i new) ≡ changed_at uid_cmp u g (ejects_of ts es)
changed-at ts u es ds o i e new g same at is read named made order =
    let here : IsPlaceOf u es (Some i) = placed u es ds o (Some i) same at is in
    changed-there uid_in (λ x. eject_of ts x.eject) u es i e new g order here
    (item-there uid_in u es i e here.0 ∙ ap Some (sym read)) named made

-- 2. Where no Eject has it

pub found-none : (ts : TypeList) (u : Uid) (es ds : List PlainEntry) (o : Option ℕ) → ds ≡ es → IsPlaceOf u ds o → o ≡ None
    → value_at uid_cmp u (ejects_of ts es) ≡ None
found-none ts u es ds o same at is = find-none uid_in (λ x. eject_of ts x.eject) u es (placed u es ds o None same at is)

pub changed-none : (ts : TypeList) (u : Uid) (es ds : List PlainEntry) (o : Option ℕ) (g : Eject → Eject) → ds ≡ es → IsPlaceOf u ds o
    → o ≡ None → ejects_of ts es ≡ changed_at uid_cmp u g (ejects_of ts es)
changed-none ts u es ds o g same at is = changed-nowhere uid_in (λ x. eject_of ts x.eject) u es g (placed u es ds o None same at is)

-- 3. What is there already

-- an Eject put where it stands
pub put-same : (u : Uid) (x : Eject) (es : List (Uid × Eject)) → InOrder es → value_at uid_cmp u es ≡ Some x → put_at uid_cmp u x es ≡ es
put-same u x es order is = same_entries uid_cmp uid_cmp_total uid_cmp-IsAntisymmetric (put_at uid_cmp u x es) es
    (order-put u x es order) order
    (λ q. find-put uid_cmp uid_cmp_total q u x es ∙ go q (eq_by_cmp uid_cmp q u) refl)
  where
    go : (q : Uid) (b : Bool) → eq_by_cmp uid_cmp q u ≡ b → cond b (Some x) (value_at uid_cmp q es) ≡ value_at uid_cmp q es
    go q true tied = sym (ap (λ w. value_at uid_cmp w es) (eq-same uid_cmp uid_cmp-IsAntisymmetric q u tied) ∙ is)
    go q false tied = refl
