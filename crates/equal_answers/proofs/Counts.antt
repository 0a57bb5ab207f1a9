-- No call lowers a count of its disk: so where none rose over many calls, none rose in any one of them.
use Rattle.std.specs.Prelude.{◌≡◌, ◌≤◌, ℕ, zero, suc, Bool, true, List, [], ◌∷◌, None, Result, All}
use Rattle.std.proofs.Common.{arith, sym, subst, ap, inl, inr}
use Rattle.std.proofs.lemmas.List.Elements.{All-head, All-tail}
use Rattle.capability.specs.declared.Uid.{Uid}
use Rattle.eden_disk.specs.Calls.{Counts, DeviceCalls, End, Fine, AtFault, AtStop, faults_after, stops_after}
use Rattle.passive_store.specs.declared.store.StoreRefusal.{StoreRefusal}
use Rattle.passive_store.specs.Kept.{Layout, end_of_store}
use Rattle.passive_store.specs.Seen.{Seen, asked, Deletes}
use Rattle.equal_answers.specs.Calls.{Call, Put, Delete, Get, Settle, BeginPut, BeginDelete, Finish, Holds, After, WorkingOn, Unsure}
use Rattle.equal_answers.specs.Calls.{Picked, Reopen, Answer, Advanced, Answered, Answers, IsUndisturbed, WantsNothing, GoWell}

-- neither count is lower
record Grows (old new : Counts) : Type 0 where
  pub faults : old.faults ≤ new.faults
  pub stops : old.stops ≤ new.stops

no_less_faults : (end : End) (n : ℕ) → n ≤ faults_after end n
no_less_faults Fine n = omega arith
no_less_faults AtFault n = omega arith
no_less_faults AtStop n = omega arith

no_less_stops : (end : End) (n : ℕ) → n ≤ stops_after end n
no_less_stops Fine n = omega arith
no_less_stops AtFault n = omega arith
no_less_stops AtStop n = omega arith

by_calls : (made : ℕ) (old new : Counts) (end : End) → DeviceCalls made old new end → Grows old new
by_calls made old new end calls = record {
  faults = subst (λ n. old.faults ≤ n) (sym calls.faults) (no_less_faults end old.faults);
  stops = subst (λ n. old.stops ≤ n) (sym calls.stops) (no_less_stops end old.stops);
}

by_none : (old new : Counts) → new ≡ old → Grows old new
by_none old new same = record {
  faults = omega (arith, ap (λ (c : Counts). c.faults) same);
  stops = omega (arith, ap (λ (c : Counts). c.stops) same);
}

by_looking : (old new : Seen) → new ≡ old → Grows old.disk.counts new.disk.counts
by_looking old new same = by_none old.disk.counts new.disk.counts (ap (λ (s : Seen). s.disk.counts) same)

by_both : (old mid new : Counts) → Grows old mid → Grows mid new → Grows old new
by_both old mid new first later = record {
  faults = omega (arith, first.faults, later.faults);
  stops = omega (arith, first.stops, later.stops);
}

by_deleting : (obeys : Bool) (layout : Layout) (uid : Uid) (r : Result (Unit {0}) StoreRefusal) (old new : Seen)
    → Deletes true obeys layout (asked uid None) r old new → Grows old.disk.counts new.disk.counts
by_deleting obeys layout uid r old new d = elim (d.changes) [
  | inl f ↦ by_calls f.settles.ran.made old.disk.counts new.disk.counts (end_of_store r) f.settles.ran.counts
  | inr m ↦ by_calls m.changes.ran.made old.disk.counts new.disk.counts (end_of_store r) m.changes.ran.counts
]

by_advancing : (obeys : Bool) (layout : Layout) (n : ℕ) (r : Result (Unit {0}) StoreRefusal) (old new : Seen)
    → Advanced obeys layout n r old new → Grows old.disk.counts new.disk.counts
by_advancing obeys layout zero r old new a = by_calls 1 old.disk.counts new.disk.counts _ a.counts
by_advancing obeys layout (suc n) r old new (mid, a, behind) = by_both old.disk.counts mid.disk.counts new.disk.counts
    (by_calls 1 old.disk.counts mid.disk.counts _ a.counts) (by_advancing obeys layout n r mid new behind)

by_call : (obeys : Bool) (layout : Layout) (call : Call) (answer : Answer) (old new : Seen) → Answered obeys layout call answer old new
    → Grows old.disk.counts new.disk.counts
by_call o l (Put uid body) x old new (r, e, h) = by_calls h.changes.ran.made old.disk.counts new.disk.counts _ h.changes.ran.counts
by_call o l (Delete uid) x old new (r, e, h) = by_deleting o l uid r old new h
by_call o l (Get uid) x old new (r, e, h) = by_calls h.ran.made old.disk.counts new.disk.counts _ h.ran.counts
by_call o l Settle x old new (r, e, h) = by_calls h.ran.made old.disk.counts new.disk.counts _ h.ran.counts
by_call o l (BeginPut uid body) x old new (r, e, h) =
    by_none old.disk.counts new.disk.counts (ap (λ d. d.counts) h.disk)
by_call o l (BeginDelete uid) x old new (r, e, h) =
    by_none old.disk.counts new.disk.counts (ap (λ d. d.counts) h.disk)
by_call o l Finish x old new (r, e, h) = by_advancing o l h.0 r old new h.1
by_call o l (Holds uid) x old new (r, e, h) = by_looking old new h.1
by_call o l (After from) x old new (r, e, h) = by_looking old new h.1
by_call o l WorkingOn x old new (r, e, h) = by_looking old new h.1
by_call o l Unsure x old new (r, e, h) = by_looking old new h.1
by_call o l Picked x old new (r, e, h) = by_looking old new h.1
by_call o l Reopen x old new (r, e, h) =
    let opened : Grows h.disk.counts new.disk.counts = by_calls h.opens.made h.disk.counts new.disk.counts _ h.opens.counts in
    record { faults = omega (arith, opened.faults, h.faults); stops = omega (arith, opened.stops, h.stops) }

by_many : (obeys : Bool) (layout : Layout) (calls : List Call) (answers : List Answer) (old new : Seen)
    → Answers obeys layout old calls answers new → Grows old.disk.counts new.disk.counts
by_many o l [] [] old new h = by_looking old new h
by_many o l [] (x ∷ xs) old new h = absurd h
by_many o l (call ∷ calls) [] old new h = absurd h
by_many o l (call ∷ calls) (x ∷ xs) old new (mid, h, behind) = by_both old.disk.counts mid.disk.counts new.disk.counts
    (by_call o l call x old mid h) (by_many o l calls xs mid new behind)

first_still : (old mid new : Counts) → Grows old mid → Grows mid new → IsUndisturbed old new → IsUndisturbed old mid
first_still old mid new first later still = record {
  no_fault = omega (arith, first.faults, later.faults, still.no_fault);
  no_stop = omega (arith, first.stops, later.stops, still.no_stop);
  faults_told = omega (arith, later.faults, still.faults_told);
  stops_told = omega (arith, later.stops, still.stops_told);
}

later_still : (old mid new : Counts) → Grows old mid → Grows mid new → IsUndisturbed old new → IsUndisturbed mid new
later_still old mid new first later still = record {
  no_fault = omega (arith, first.faults, later.faults, still.no_fault);
  no_stop = omega (arith, first.stops, later.stops, still.no_stop);
  faults_told = still.faults_told;
  stops_told = still.stops_told;
}

-- no count rose in any one of these calls, and none of them wanted room or memory
abbrev pub EachGoesWell : Bool → Layout → Seen → List Call → List Answer → Seen → Type 0
EachGoesWell obeys layout old [] [] new = new ≡ old
EachGoesWell obeys layout old [] (answer ∷ answers) new = ⊥
EachGoesWell obeys layout old (call ∷ calls) [] new = ⊥
EachGoesWell obeys layout old (call ∷ calls) (answer ∷ answers) new = (mid : Seen) × Answered obeys layout call answer old mid
    × IsUndisturbed old.disk.counts mid.disk.counts × WantsNothing answer × EachGoesWell obeys layout mid calls answers new

each_by : (obeys : Bool) (layout : Layout) (calls : List Call) (answers : List Answer) (old new : Seen)
    → Answers obeys layout old calls answers new → IsUndisturbed old.disk.counts new.disk.counts → All WantsNothing answers
    → EachGoesWell obeys layout old calls answers new
each_by o l [] [] old new h still space = h
each_by o l [] (x ∷ xs) old new h still space = absurd h
each_by o l (call ∷ calls) [] old new h still space = absurd h
each_by o l (call ∷ calls) (x ∷ xs) old new (mid, h, behind) still space =
    let first = by_call o l call x old mid h in
    let later = by_many o l calls xs mid new behind in (
      mid,
      h,
      first_still old.disk.counts mid.disk.counts new.disk.counts first later still,
      All-head WantsNothing x xs space,
      each_by o l calls xs mid new behind (later_still old.disk.counts mid.disk.counts new.disk.counts first later still)
          (All-tail WantsNothing x xs space),
    )

pub each_goes_well : (obeys : Bool) (layout : Layout) (calls : List Call) (answers : List Answer) (old new : Seen)
    → GoWell obeys layout old calls answers new → EachGoesWell obeys layout old calls answers new
each_goes_well o l calls answers old new w = each_by o l calls answers old new w.answered w.undisturbed w.want_nothing
