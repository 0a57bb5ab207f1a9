-- How many Transfers the filters of a pipeline have asked, in each world of a history. The filters stand in order from the Sink, the one
-- next to it first.
use Rattle.std.proofs.Common.{◌≡◌, ◌⊎◌, inl, inr, ℕ, ◌+◌, pos, nat_le, Bool, true, false, cond, List, [], ◌∷◌, Option, None, Some}
use Rattle.std.proofs.Common.{refl, ap, sym, ◌∙◌, subst}
use Rattle.std.specs.Prelude.{codes}
use Rattle.std.specs.Option.{option_map}
use Rattle.std.specs.Ordering.{nat_cmp, eq_by_cmp}
use Rattle.capability.specs.declared.Uid.{Uid}
use Rattle.capability.specs.declared.TheConstants.{MESSAGE_LIMIT}
use Rattle.capability.proofs.Uids.{uid_cmp-IsAntisymmetric}
use Rattle.eden_value.specs.Datum.{Datum}
use Rattle.eden_value.specs.declared.status.Status.{Status}
use Rattle.eden_value.specs.declared.status.Status.TheVariants as status
use Rattle.eden_codec.specs.Spelling.{values_size}
use Rattle.eden_model.specs.Map.{with_item, uid_cmp, same_text}
use Rattle.eden_model.proofs.Laws.{eq-same}
use Rattle.eden_model.proofs.Numbers.{same-true, same-self}
use Rattle.eden_model.specs.Crew.{Invocation}
use Rattle.eden_model.specs.declared.Asker.{Asker}
use Rattle.eden_model.specs.declared.Asker.TheVariants.{Shell, Eject as Process}
use Rattle.eden_model.specs.Traffic.{Traffic, Call, Place, asked as on_its_way, held, answered, done, call_at, asks, changed_call, at_place}
use Rattle.eden_model.specs.Traffic.{sent, replied}
use Rattle.epl_syntax.specs.declared.effect.Answer.{Answer}
use Rattle.epl_syntax.specs.declared.effect.Answer.TheVariants.{Reply as Told}
use Rattle.epl_syntax.specs.Edentype.{native as native_type}
use Rattle.epl_syntax.specs.Natives.{in_filter, in_sink}
use Rattle.epl_syntax.specs.Meaning.{Operation}
use Rattle.epl_syntax.specs.Streams.{Came, an_item, the_end, nothing, came}
use Rattle.epl_syntax.specs.Filters.{Stage as FilterStage, opens, open_saved, transfers, transfer_saved, asked, item_saved}
use Rattle.epl_syntax.specs.Sink.{Stage as SinkStage}
use Rattle.epl_syntax.specs.Sink as sink
use Rattle.epl_syntax.specs.Pipelines.{Sieve, takes as a_take, skips, keeps, numbers}
use Rattle.journal.specs.World.{World}
use Rattle.journal.specs.Deliveries.{misfit_of}
use Rattle.journal.specs.Processes.{answers}
use Rattle.history_laws.proofs.Tasks.{FitsCall}
use Rattle.history_laws.proofs.Times.{call-changed}
use Rattle.value_laws.proofs.AnswerCalls.{unanswered}
use Rattle.stream_laws.specs.Chains.{Stage, type_of_sieve}
use Rattle.stream_laws.specs.Counts.{transfers_by}
use Rattle.stream_laws.proofs.Items.{same-texts}
use Rattle.stream_laws.proofs.Instances.{position}
use Rattle.stream_laws.proofs.States.{State, absent, asleep, idle, busy, state_of}
use Rattle.stream_laws.proofs.CountTurns.{got_in, IsNone, IsOpening}
use Rattle.stream_laws.proofs.SinkCounts.{held_in}

-- 1. A filter that has taken in so many items, hands each of them on, and is asked for none

-- a Transfer of the stage that has no answer
abbrev pub IsPending : Uid → Call → Type 0
IsPending u c = (c.target.uid ≡ u) × (c.operation ≡ codes "Transfer") × (unanswered c.place ≡ true)

abbrev pub NonePending : World → Uid → Type 0
NonePending w u = (k : ℕ) (c : Call) → call_at w.traffic k ≡ Some c → IsPending u c → ⊥

abbrev pub OnlyPending : World → Uid → ℕ → Type 0
OnlyPending w u k = (j : ℕ) (c : Call) → call_at w.traffic j ≡ Some c → IsPending u c → j ≡ k

abbrev pub StillState : Sieve → ℕ → State → Type 0
StillState s m absent = m ≡ 0
StillState s m asleep = Unit {0}
StillState s m (idle vars) = got_in s vars ≡ pos m
StillState s m (busy k (in_filter st) a vars) = (got_in s vars ≡ pos m) × IsOpening st
StillState s m _ = ⊥

pub record Still (w : World) (m : ℕ) (f : Stage) : Type 0 where
  pub count : transfers_by f.uid w.traffic ≡ m
  pub none : NonePending w f.uid
  pub state : StillState f.sieve m (state_of w f.uid)

-- it and those before it
abbrev pub Quiet : World → ℕ → List Stage → Type 0
Quiet w m [] = Unit {0}
Quiet w m (f ∷ fs) = Still w m f × Quiet w m fs

-- 2. Filters of which the first is asked by call k for the item behind so many; where no item comes, nothing is known of them any more

abbrev pub IfItem : Came → Type 0 → Type 0
IfItem (an_item t) P = P
IfItem the_end P = Unit {0}
IfItem nothing P = Unit {0}

-- each open call of u
abbrev pub OpenCalls : World → Uid → (ℕ → Call → Type 0) → Type 0
OpenCalls w u P = (i p : ℕ) (c : Call) → call_at w.traffic i ≡ Some c → c.open_ ≡ true → c.asker ≡ Process u p → P i c

-- the answer to a call for item m, by the place of the call: `R` where it has none yet, and the filters are quiet where it is an item
abbrev pub Coming : World → ℕ → List Stage → Type 0 → Place → Type 0
Coming w m fs R on_its_way = R
Coming w m fs R held = R
Coming w m fs R (answered s results) = IfItem (came (Told s results)) (Quiet w (m + 1) fs)
Coming w m fs R done = Unit {0}

-- it is at this stage of a Transfer, and serves call j; `R` is the same of those before it
abbrev pub At : World → ℕ → ℕ → Stage → List Stage → (ℕ → Type 0) → ℕ → FilterStage → Answer → List Datum → Type 0
At w m k f fs R j asked a vars = (j ≡ k) × (got_in f.sieve vars ≡ pos m) × (transfers_by f.uid w.traffic ≡ m + 1)
    × IfItem (came a) (Quiet w (m + 1) fs) × OpenCalls w f.uid (λ i c. Coming w m fs (R i) c.place)
At w m k f fs R j (item_saved true) a vars = (j ≡ k) × (got_in f.sieve vars ≡ pos (m + 1)) × (transfers_by f.uid w.traffic ≡ m + 1)
    × Quiet w (m + 1) fs
At w m k f fs R j (item_saved false) a vars = ⊥
At w m k f fs R j (transfers p) a vars = (j ≡ k) × (got_in f.sieve vars ≡ pos m) × (transfers_by f.uid w.traffic ≡ m) × Quiet w m fs
At w m k f fs R j (transfer_saved p) a vars = (j ≡ k) × (got_in f.sieve vars ≡ pos m) × (transfers_by f.uid w.traffic ≡ m) × Quiet w m fs
At w m k f fs R j (opens args) a vars = (got_in f.sieve vars ≡ pos m) × (transfers_by f.uid w.traffic ≡ m) × Quiet w m fs
At w m k f fs R j open_saved a vars = (got_in f.sieve vars ≡ pos m) × (transfers_by f.uid w.traffic ≡ m) × Quiet w m fs

abbrev pub WorkingState : World → ℕ → ℕ → Stage → List Stage → (ℕ → Type 0) → State → Type 0
WorkingState w m k f fs R absent = (m ≡ 0) × (transfers_by f.uid w.traffic ≡ m) × Quiet w m fs
WorkingState w m k f fs R asleep = Unit {0}
WorkingState w m k f fs R (idle vars) = (got_in f.sieve vars ≡ pos m) × (transfers_by f.uid w.traffic ≡ m) × Quiet w m fs
WorkingState w m k f fs R (busy j (in_filter st) a vars) = At w m k f fs R j st a vars
WorkingState w m k f fs R _ = ⊥

-- call k asks this Eject for item m
abbrev pub AsksFor : World → ℕ → ℕ → Uid → Type 0
AsksFor w k m u = (c : Call) → call_at w.traffic k ≡ Some c → (c.target.uid ≡ u) × (position c.args ≡ pos m)

abbrev pub Working : World → ℕ → ℕ → List Stage → Type 0
Working w m k [] = Unit {0}
Working w m k (f ∷ fs) = AsksFor w k m f.uid × OnlyPending w f.uid k
    × WorkingState w m k f fs (λ i. Working w m i fs) (state_of w f.uid)

-- 3. The Sink asks for the item behind those that it holds

-- it serves a call and is at this stage
abbrev pub SinkAt : World → Uid → List Stage → SinkStage → Answer → List Datum → Type 0
SinkAt w u fs (sink.asked wanted taken) a vars = (transfers_by u w.traffic ≡ held_in vars + 1)
    × IfItem (came a) (Quiet w (held_in vars + 1) fs)
    × OpenCalls w u (λ i c. Coming w (held_in vars) fs (Working w (held_in vars) i fs) c.place)
SinkAt w u fs (sink.opens src) a vars = (transfers_by u w.traffic ≡ held_in vars) × Quiet w (held_in vars) fs
SinkAt w u fs sink.open_saved a vars = (transfers_by u w.traffic ≡ held_in vars) × Quiet w (held_in vars) fs
SinkAt w u fs (sink.pumps wanted) a vars = (transfers_by u w.traffic ≡ held_in vars) × Quiet w (held_in vars) fs
SinkAt w u fs (sink.item_saved wanted taken) a vars = (transfers_by u w.traffic ≡ held_in vars) × Quiet w (held_in vars) fs
SinkAt w u fs sink.reads a vars = (transfers_by u w.traffic ≡ held_in vars) × Quiet w (held_in vars) fs

abbrev pub Pumping : World → Uid → List Stage → State → Type 0
Pumping w u fs absent = (transfers_by u w.traffic ≡ 0) × Quiet w 0 fs
Pumping w u fs asleep = Unit {0}
Pumping w u fs (idle vars) = (transfers_by u w.traffic ≡ held_in vars) × Quiet w (held_in vars) fs
Pumping w u fs (busy j (in_sink st) a vars) = SinkAt w u fs st a vars
Pumping w u fs _ = ⊥

-- 4. What follows of them

pub if-map : (c : Came) (P Q : Type 0) → (P → Q) → IfItem c P → IfItem c Q
if-map (an_item t) P Q f h = f h
if-map the_end P Q f h = tt
if-map nothing P Q f h = tt

pub if-so : (c : Came) (P : Type 0) → P → IfItem c P
if-so (an_item t) P h = h
if-so the_end P h = tt
if-so nothing P h = tt

pub if-none : (c : Came) (P : Type 0) → IsNone c → IfItem c P
if-none (an_item t) P h = absurd h
if-none the_end P h = tt
if-none nothing P h = tt

pub if-nothing : (c : Came) (P : Type 0) → c ≡ nothing → IfItem c P
if-nothing c P is = subst (λ c. IfItem c P) (sym is) tt

pub none-of : (c : Came) → c ≡ nothing → IsNone c
none-of c is = subst IsNone (sym is) tt

pub asker-of : (v : Uid) (a : Asker) → asks v a ≡ true → (q : ℕ) × (a ≡ Process v q)
asker-of v (Shell name) h = absurd (cc h)
asker-of v (Process z q) h = (q, ap (λ x. Process x q) (eq-same uid_cmp uid_cmp-IsAntisymmetric z v h))

-- what a filter starts to serve, if not an Open, is a Transfer
pub transfer-op : (s : Sieve) (d : Call) → FitsCall (native_type (type_of_sieve s)) (Some d) → same_text d.operation (codes "Open") ≡ false
    → d.operation ≡ codes "Transfer"
transfer-op s d fits other = go s fits
  where
    by : (one two : Operation) (a b : Bool) → same_text (codes "Open") d.operation ≡ a → same_text (codes "Transfer") d.operation ≡ b
        → with_item (cond a (Some one) (cond b (Some two) None)) (misfit_of d) (Some status.NoOperation) ≡ None
        → d.operation ≡ codes "Transfer"
    by one two true b is is_two fits = absurd (let bad : false ≡ true = sym other
        ∙ ap (λ o. same_text o (codes "Open")) (sym (same-texts (codes "Open") d.operation is)) in cc bad)
    by one two false true is is_two fits = sym (same-texts (codes "Transfer") d.operation is_two)
    by one two false false is is_two fits = absurd (cc fits)

    go : (s : Sieve) → FitsCall (native_type (type_of_sieve s)) (Some d) → d.operation ≡ codes "Transfer"
    go (a_take n) fits = by _ _ (same_text (codes "Open") d.operation) (same_text (codes "Transfer") d.operation) refl refl fits
    go (skips n) fits = by _ _ (same_text (codes "Open") d.operation) (same_text (codes "Transfer") d.operation) refl refl fits
    go (keeps t) fits = by _ _ (same_text (codes "Open") d.operation) (same_text (codes "Transfer") d.operation) refl refl fits
    go numbers fits = by _ _ (same_text (codes "Open") d.operation) (same_text (codes "Transfer") d.operation) refl refl fits

-- 5. Where a call stands once an answer is given

abbrev pub GivenBack : Status → List Datum → Place → Type 0
GivenBack s results place = (place ≡ answered s results) ⊎ (place ≡ done)

-- call k is as it was, or it is the one that is answered
abbrev pub Stands : ℕ → ℕ → Call → Call → Type 0 → Type 0
Stands k j a d P = ((k ≡ j → ⊥) × (d ≡ a)) ⊎ ((k ≡ j) × P)

changed-place : (k j : ℕ) (place : Place) (t : Traffic) (a d : Call) → call_at t k ≡ Some a
    → call_at (changed_call j (at_place place) t) k ≡ Some d → Stands k j a d (d.place ≡ place)
changed-place k j place t a d was is = go (eq_by_cmp nat_cmp k j) refl (sym (ap (λ o. cond (eq_by_cmp nat_cmp k j)
    (option_map (at_place place) o) o) was) ∙ sym (call-changed k j (at_place place) t) ∙ is)
  where
    go : (b : Bool) → eq_by_cmp nat_cmp k j ≡ b → cond b (Some (at_place place a)) (Some a) ≡ Some d → Stands k j a d (d.place ≡ place)
    go true same e = inr (same-true k j same, (let x : at_place place a ≡ d = cc e in ap (λ (c : Call). c.place) (sym x)))
    go false apart e = inl (
      λ one. (let bad : true ≡ false = sym (same-self k) ∙ ap (eq_by_cmp nat_cmp k) one ∙ apart in cc bad),
      (let x : a ≡ d = cc e in sym x),
    )

replied-place : (s : Status) (results : List Datum) (j : ℕ) (t : Traffic) (k : ℕ) (a d : Call) → call_at t k ≡ Some a
    → call_at (replied s results j t) k ≡ Some d → Stands k j a d (GivenBack s results d.place)
replied-place s results j t k a d was is = go (call_at t j) refl is
  where
    left : Stands k j a d (d.place ≡ answered s results) → Stands k j a d (GivenBack s results d.place)
    left (inl x) = inl x
    left (inr x) = inr (x.0, inl x.1)

    right : Stands k j a d (d.place ≡ done) → Stands k j a d (GivenBack s results d.place)
    right (inl x) = inl x
    right (inr x) = inr (x.0, inr x.1)

    by : (b : Bool) → call_at (cond b (sent j (answered s results) t) (changed_call j (at_place done) t)) k ≡ Some d
        → Stands k j a d (GivenBack s results d.place)
    by true e = left (changed-place k j (answered s results) t a d was e)
    by false e = right (changed-place k j done t a d was e)

    go : (o : Option Call) → call_at t j ≡ o
        → call_at (with_item o (λ c. cond c.open_ (sent j (answered s results) t) (changed_call j (at_place done) t)) t) k ≡ Some d
        → Stands k j a d (GivenBack s results d.place)
    go None none e = inl (
      λ one. (let bad : None ≡ Some a = sym none ∙ ap (call_at t) (sym one) ∙ was in cc bad),
      (let x : Some a ≡ Some d = sym was ∙ e in let y : a ≡ d = cc x in sym y),
    )
    go (Some c) some e = by c.open_ e

pub answered-place : (i : Invocation) (results : List Datum) (t : Traffic) (k : ℕ) (a d : Call) → call_at t k ≡ Some a
    → call_at (answers (Some i) results t) k ≡ Some d
    → Stands k i.call a d (GivenBack status.Ok results d.place ⊎ GivenBack status.TooLarge [] d.place)
answered-place i results t k a d was is = go (nat_le (values_size results) MESSAGE_LIMIT) is
  where
    fine : Stands k i.call a d (GivenBack status.Ok results d.place)
        → Stands k i.call a d (GivenBack status.Ok results d.place ⊎ GivenBack status.TooLarge [] d.place)
    fine (inl x) = inl x
    fine (inr x) = inr (x.0, inl x.1)

    large : Stands k i.call a d (GivenBack status.TooLarge [] d.place)
        → Stands k i.call a d (GivenBack status.Ok results d.place ⊎ GivenBack status.TooLarge [] d.place)
    large (inl x) = inl x
    large (inr x) = inr (x.0, inr x.1)

    go : (b : Bool) → call_at (cond b (replied status.Ok results i.call t) (replied status.TooLarge [] i.call t)) k ≡ Some d
        → Stands k i.call a d (GivenBack status.Ok results d.place ⊎ GivenBack status.TooLarge [] d.place)
    go true e = fine (replied-place status.Ok results i.call t k a d was e)
    go false e = large (replied-place status.TooLarge [] i.call t k a d was e)

-- and what comes of it
pub given-back : (w : World) (m : ℕ) (fs : List Stage) (R : Type 0) (results : List Datum) (place : Place)
    → IfItem (came (Told status.Ok results)) (Quiet w (m + 1) fs)
    → GivenBack status.Ok results place ⊎ GivenBack status.TooLarge [] place → Coming w m fs R place
given-back w m fs R results place item (inl (inl is)) = subst (Coming w m fs R) (sym is) item
given-back w m fs R results place item (inl (inr is)) = subst (Coming w m fs R) (sym is) tt
given-back w m fs R results place item (inr (inl is)) = subst (Coming w m fs R) (sym is) tt
given-back w m fs R results place item (inr (inr is)) = subst (Coming w m fs R) (sym is) tt

-- an answer that was on its way, or comes up
pub coming-nothing : (w : World) (m : ℕ) (place : Place) → Coming w m [] (Unit {0}) place
coming-nothing w m on_its_way = tt
coming-nothing w m held = tt
coming-nothing w m (answered s results) = go (came (Told s results))
  where
    go : (c : Came) → IfItem c (Unit {0})
    go (an_item t) = tt
    go the_end = tt
    go nothing = tt
coming-nothing w m done = tt
