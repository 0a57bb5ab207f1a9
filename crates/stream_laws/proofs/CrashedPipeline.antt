-- A pipeline whose node stops in the middle of the Sink's save, and boots again: a worked history, held against the law at three moments.
-- At the stop the first item is in doubt; once it was taken in again, it is kept, once; and at the end the Sink holds all.
use Rattle.std.proofs.Common.{◌≡◌, ℕ, Bool, true, false, cond, not, ◌&&◌, List, [], ◌∷◌, Option, None, Some, take, refl, ap, sym, ◌∙◌}
use Rattle.std.specs.Prelude.{codes, IfSome}
use Rattle.std.specs.Fmt.{digits}
use Rattle.std.specs.List.{list_all}
use Rattle.std.specs.Ordering.{nat_cmp, eq_by_cmp}
use Rattle.capability.specs.declared.Uid.{Uid}
use Rattle.eden_value.specs.Datum.{Datum}
use Rattle.eden_value.specs.declared.status.Status.{Status}
use Rattle.eden_value.specs.declared.status.Status.TheVariants as status
use Rattle.eden_model.specs.Map.{with_item, value_at, same_text}
use Rattle.eden_model.specs.Crew.{least_number}
use Rattle.eden_model.specs.Traffic.{Call, Place, answered, call_at}
use Rattle.epl_syntax.specs.Pipelines.{IsFront, keeps, numbers, sifted}
use Rattle.journal.specs.EjectChange.{kept_of}
use Rattle.journal.specs.World.{World, Eject, at_node, on_eject, on_node, on_traffic, eject_at}
use Rattle.journal.specs.Run.{beginning, end_of}
use Rattle.journal.proofs.Scenes.{one_node, eject}
use Rattle.journal.proofs.CrashLosesTheSinksSave as crash
use Rattle.stream_laws.specs.Chains.{Stage, Chain, made_by, EachFilter}
use Rattle.stream_laws.specs.Streams.{items_held, items_stored, list_kept, HandsOut, HoldsFront, Flows}
use Rattle.stream_laws.proofs.Items.{same-texts, and-first, and-second}

-- 1. A world in which no answer is on its way flows where the Sink holds a beginning, and whether it does can be computed

-- whether one list is the beginning of another
abbrev is_front : List (List ℕ) → List (List ℕ) → Bool
is_front [] ys = true
is_front (x ∷ xs) [] = false
is_front (x ∷ xs) (y ∷ ys) = same_text x y && is_front xs ys

front-of : (xs ys : List (List ℕ)) → is_front xs ys ≡ true → IsFront xs ys
front-of [] ys is = (ys, refl)
front-of (x ∷ xs) [] is = absurd (cc is)
front-of (x ∷ xs) (y ∷ ys) is = more (front-of xs ys (and-second (same_text x y) (is_front xs ys) is))
  where
    same : x ≡ y
    same = same-texts x y (and-first (same_text x y) (is_front xs ys) is)

    more : IsFront xs ys → IsFront (x ∷ xs) (y ∷ ys)
    more h = (h.0, ap (λ l. x ∷ l) h.1 ∙ ap (λ z. z ∷ ys) same)

-- whether a test holds of what is there, if something is
abbrev if_there : {X : Type 0} → Option X → (X → Bool) → Bool
if_there o test = with_item o test true

there : {X : Type 0} (P : X → Type 0) (o : Option X) (test : X → Bool) → if_there o test ≡ true → ((x : X) → test x ≡ true → P x)
    → IfSome o P
there P None test is each = tt
there P (Some x) test is each = each x is

-- whether a Sink holds a beginning of these items: active, kept and in doubt
abbrev holds_front : List (List ℕ) → Eject → Bool
holds_front items e = if_there e.active (λ it. is_front (items_held it.vars) items)
    && (if_there e.kept (λ bytes. is_front (items_stored bytes) items)
    && if_there e.doubt (λ c. if_there (kept_of c) (λ bytes. is_front (items_stored bytes) items)))

holds : (items : List (List ℕ)) (e : Eject) → holds_front items e ≡ true → HoldsFront items e
holds items e is =
    let later = and-second (if_there e.active (λ it. is_front (items_held it.vars) items)) _ is in
    let kept = and-first (if_there e.kept (λ bytes. is_front (items_stored bytes) items)) _ later in
    let doubt = and-second (if_there e.kept (λ bytes. is_front (items_stored bytes) items)) _ later in
    record {
      active = there (λ it. IsFront (items_held it.vars) items) e.active _
          (and-first (if_there e.active (λ it. is_front (items_held it.vars) items)) _ is) (λ it. front-of (items_held it.vars) items);
      kept = there (λ bytes. IsFront (items_stored bytes) items) e.kept _ kept (λ bytes. front-of (items_stored bytes) items);
      doubt = there (λ c. IfSome (kept_of c) (λ bytes. IsFront (items_stored bytes) items)) e.doubt _ doubt
          (λ c h. there (λ bytes. IsFront (items_stored bytes) items) (kept_of c) _ h (λ bytes. front-of (items_stored bytes) items));
    }

-- whether an answer is on its way
abbrev has_answer : Place → Bool
has_answer (answered s results) = true
has_answer _ = false

-- whether none of these calls has one
abbrev are_silent : List (ℕ × Call) → Bool
are_silent calls = list_all (λ (e : ℕ × Call). not (has_answer e.1.place)) calls

silent : (calls : List (ℕ × Call)) → are_silent calls ≡ true → (k : ℕ) (c : Call) → value_at nat_cmp k calls ≡ Some c
    → (s : Status) (results : List Datum) → c.place ≡ answered s results → ⊥
silent [] is k c at s results place = cc at
silent (x ∷ calls) is k c at s results place = go (eq_by_cmp nat_cmp k x.0)
    (λ later. silent calls (and-second (not (has_answer x.1.place)) (are_silent calls) is) k c later s results place) at
  where
    go : (b : Bool) → (value_at nat_cmp k calls ≡ Some c → ⊥) → cond b (Some x.1) (value_at nat_cmp k calls) ≡ Some c → ⊥
    go true later e =
        let same : x.1 ≡ c = cc e in
        let bad : true ≡ false = sym (and-first (not (has_answer x.1.place)) (are_silent calls) is)
        ∙ ap (λ p. not (has_answer p)) (ap (λ (c : Call). c.place) same ∙ place) in
        cc bad
    go false later e = later e

-- whether no answer is on its way, and the Sink holds a beginning
abbrev is_quiet : World → Chain → Bool
is_quiet w c = are_silent w.traffic.calls
    && if_there (eject_at w c.sink) (holds_front (made_by c.filters (list_kept w c.lines)))

quiet-flows : (w : World) (c : Chain) → is_quiet w c ≡ true → Flows w c (list_kept w c.lines)
quiet-flows w c is = record {
  lines = none c.lines (list_kept w c.lines);
  filters = each c.lines (list_kept w c.lines) c.filters;
  sink = there (HoldsFront (made_by c.filters (list_kept w c.lines))) (eject_at w c.sink) _
      (and-second (are_silent w.traffic.calls) _ is) (holds (made_by c.filters (list_kept w c.lines)));
  pumps = λ k d held at to op place. absurd (over k d at _ _ place);
}
  where
    over : (k : ℕ) (d : Call) → call_at w.traffic k ≡ Some d → (s : Status) (results : List Datum) → d.place ≡ answered s results → ⊥
    over k d at s results place = silent w.traffic.calls (and-first (are_silent w.traffic.calls) _ is) k d at s results place

    none : (u : Uid) (items : List (List ℕ)) → HandsOut w.traffic u items
    none u items k d results at to op place = absurd (over k d at status.Ok results place)

    each : (before : Uid) (items : List (List ℕ)) (fs : List Stage)
        → EachFilter (λ before items f. HandsOut w.traffic f.uid (sifted f.sieve items)) before items fs
    each before items [] = tt
    each before items (f ∷ fs) = (none f.uid (sifted f.sieve items), each f.uid (sifted f.sieve items) fs)

-- 2. The history: a Lines with the items ab, b and ac, an Only of those that begin with a, a Number, and a Sink

abbrev sink : Uid
sink = eject 1 4

abbrev chain : Chain
chain = record {
  lines = eject 1 1;
  filters = record { uid = eject 1 2; sieve = keeps (codes "a") } ∷ record { uid = eject 1 3; sieve = numbers } ∷ [];
  sink = sink;
}

-- the world behind so many entries
abbrev behind : ℕ → World
behind entries = (end_of (beginning one_node 1 crash.commands) (take entries crash.history)).world

-- what the Sink has kept there, and what it may have kept instead
abbrev kept_items : World → List (List ℕ)
kept_items w = with_item (eject_at w sink) (λ e. with_item e.kept items_stored []) []

abbrev doubted_items : World → List (List ℕ)
doubted_items w = with_item (eject_at w sink) (λ e. with_item e.doubt (λ c. with_item (kept_of c) items_stored []) []) []

-- 3. At the stop: nothing is kept, and an item may be

pub flows_at_the_stop : Flows (behind 82) chain (list_kept (behind 82) chain.lines)
unfolding crash.commands crash.history digits at_node on_eject on_node on_traffic least_number
flows_at_the_stop = quiet-flows (behind 82) chain refl

pub at_the_stop : (kept_items (behind 82) ≡ []) × (doubted_items (behind 82) ≡ codes "1: ab" ∷ [])
unfolding crash.commands crash.history digits at_node on_eject on_node on_traffic least_number
at_the_stop = (refl, refl)

-- 4. The doubt was found undone, and the Sink has taken the item in again, and kept it

pub flows_once_it_is_kept : Flows (behind 99) chain (list_kept (behind 99) chain.lines)
unfolding crash.commands crash.history digits at_node on_eject on_node on_traffic least_number
flows_once_it_is_kept = quiet-flows (behind 99) chain refl

pub once_it_is_kept : kept_items (behind 99) ≡ codes "1: ab" ∷ []
unfolding crash.commands crash.history digits at_node on_eject on_node on_traffic least_number
once_it_is_kept = refl

-- 5. At the end: all of it is kept

pub flows_at_the_end : Flows (behind 159) chain (list_kept (behind 159) chain.lines)
unfolding crash.commands crash.history digits at_node on_eject on_node on_traffic least_number
flows_at_the_end = quiet-flows (behind 159) chain refl

pub at_the_end : kept_items (behind 159) ≡ codes "1: ab" ∷ codes "2: ac" ∷ []
unfolding crash.commands crash.history digits at_node on_eject on_node on_traffic least_number
at_the_end = refl
