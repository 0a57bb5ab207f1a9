-- Histories of wrong programs, and of a right one, held against the law. Each is a run of some steps that make a pipeline and of one more,
-- in
-- which the program does what no history does.
use Rattle.std.proofs.Common.{◌≡◌, ℕ, Bool, true, false, cond, List, [], ◌∷◌, Option, None, Some, refl, ap, sym, ◌∙◌, inl}
use Rattle.std.proofs.Common.{inr}
use Rattle.std.specs.Prelude.{codes, pos, slice_get}
use Rattle.std.specs.Ordering.{nat_cmp, eq_by_cmp}
use Rattle.capability.specs.declared.Uid.{Uid}
use Rattle.capability.specs.Capability.{full}
use Rattle.eden_value.specs.Datum.{Datum, number, truth, text, cap, list, data_of}
use Rattle.eden_value.specs.declared.status.Status.TheVariants as status
use Rattle.eden_codec.specs.Spelling.{spelling}
use Rattle.eden_model.specs.Map.{with_item, value_at, same_text}
use Rattle.eden_model.specs.declared.Asker.TheVariants.{Eject as Process}
use Rattle.eden_model.specs.Traffic.{Call, Place, answered}
use Rattle.epl_syntax.specs.declared.types.Native.{Native}
use Rattle.epl_syntax.specs.declared.types.Native.TheVariants as native
use Rattle.epl_syntax.specs.Edentype.{native as of_native}
use Rattle.epl_syntax.specs.Meaning.{rep_of}
use Rattle.epl_syntax.specs.Simple.{argument, text_in}
use Rattle.epl_syntax.specs.Pipelines.{takes}
use Rattle.journal.specs.World.{World, Eject}
use Rattle.journal.specs.Ejects.{fresh}
use Rattle.journal.specs.declared.event.Entry.{Entry}
use Rattle.journal.specs.declared.event.Shown.TheVariants as shown
use Rattle.journal.specs.Run.{Step, EachStep}
use Rattle.journal.proofs.Scenes.{one_node, blank_node, eject, made, turn}
use Rattle.stream_laws.specs.Chains.{Chain, AreCreated, AreJoined}
use Rattle.stream_laws.specs.Streams.{Flows, list_kept}

-- 1. A pipeline: the Lines l, a Take f of all, the Sink k
abbrev l : Uid
l = eject 1 1

abbrev f : Uid
f = eject 1 2

abbrev k : Uid
k = eject 1 3

abbrev chain : Chain
chain = record { lines = l; filters = record { uid = f; sieve = takes (pos 5) } ∷ []; sink = k }

abbrev a : List ℕ
a = codes "a"

abbrev b : List ℕ
b = codes "b"

-- whether an item is there, and is a
abbrev is_a : Option (List ℕ) → Bool
is_a o = with_item o (λ t. same_text t a) false

-- the values of a Lines that is filled, of the Take behind it that has taken in so many, and of a Sink with these items
abbrev filled_with : List (List ℕ) → List Datum
filled_with items = truth true ∷ list (data_of (texts items)) ∷ truth true ∷ []
  where
    texts : List (List ℕ) → List Datum
    texts [] = []
    texts (t ∷ ts) = text t ∷ texts ts

abbrev held : List (List ℕ) → List Datum
held items = cap (Some (full f)) ∷ list (data_of (texts items)) ∷ truth true ∷ []
  where
    texts : List (List ℕ) → List Datum
    texts [] = []
    texts (t ∷ ts) = text t ∷ texts ts

-- an Eject that was never kept, and one that was
abbrev unkept : Native → List Datum → Eject
unkept n vars = record { active = Some (fresh (of_native n) vars); queued = []; kept = None; doubt = None }

abbrev kept_as : Native → List Datum → List Datum → Eject
kept_as n vars saved =
    record { active = Some (fresh (of_native n) vars); queued = []; kept = Some (spelling (rep_of (of_native n) saved)); doubt = None }

-- a call of Transfer, which stands at this place
abbrev transfer : Uid → Uid → ℕ → Place → Call
transfer by to p place = record {
  asker = Process by 1;
  target = full to;
  operation = codes "Transfer";
  args = number (pos p) ∷ [];
  open_ = true;
  place = place;
}

abbrev item : List ℕ → Place
item t = answered status.Ok (number (pos 0) ∷ text t ∷ [])

-- a world with these Ejects and these calls
abbrev world : List (Uid × Eject) → List (ℕ × Call) → World
world ejects calls = record one_node {
  nodes = (1, record blank_node { up = true; epoch = Some 1; ejects = ejects }) ∷ [];
  traffic = record { calls = calls; transit = [] };
}

-- steps through worlds
abbrev through : World → List (Entry × World) → List Step
through w [] = []
through w (next ∷ more) = record { world = w; entry = next.0; later = next.1 } ∷ through next.1 more

-- the three stages are created, and then this comes
abbrev run_to : Entry → World → List Step
run_to e w = through one_node
    ((made (codes "l") l, world ((l, unkept native.Lines (filled_with [])) ∷ []) [])
    ∷ (made (codes "f") f, world ((f, unkept native.Take []) ∷ []) [])
    ∷ (made (codes "k") k, world ((k, unkept native.Sink (held [])) ∷ []) [])
    ∷ (e, w) ∷ [])

-- 2. The law, of a run
abbrev KeepsTheLaw : List Step → Type 0
KeepsTheLaw run = EachStep (λ past s. AreJoined s.later.traffic chain → Flows s.later chain (list_kept s.later l)) [] run

-- a run of a pipeline that breaks it
abbrev BreaksTheLaw : List Step → Type 0
BreaksTheLaw run = AreCreated run chain × (KeepsTheLaw run → ⊥)

are-created : (e : Entry) (w : World) → AreCreated (run_to e w) chain
are-created e w = record {
  lines = inl (refl, refl);
  filters = (inr (inl (refl, refl)), tt);
  sink = inr (inr (inl (refl, refl)));
}

-- none of these calls opens anything
abbrev AreTransfers : List (ℕ × Call) → Type 0
AreTransfers [] = Unit {0}
AreTransfers (c ∷ cs) = (c.1.operation ≡ codes "Transfer") × AreTransfers cs

no-open : (calls : List (ℕ × Call)) → AreTransfers calls → (k : ℕ) (c : Call) → value_at nat_cmp k calls ≡ Some c
    → c.operation ≡ codes "Open" → ⊥
no-open [] h k c is op = cc is
no-open (x ∷ calls) h k c is op = go (eq_by_cmp nat_cmp k x.0) (λ later. no-open calls h.1 k c later op) is
  where
    go : (b : Bool) → (value_at nat_cmp k calls ≡ Some c → ⊥) → cond b (Some x.1) (value_at nat_cmp k calls) ≡ Some c → ⊥
    go true later e = let same : x.1 ≡ c = cc e in
        let bad : codes "Transfer" ≡ codes "Open" = sym h.0 ∙ ap (λ (c : Call). c.operation) same ∙ op in cc bad
    go false later e = later e

joined : (calls : List (ℕ × Call)) → AreTransfers calls → AreJoined (record { calls = calls; transit = [] }) chain
joined calls h = record {
  filters = ((λ k c is to op. absurd (no-open calls h k c is op)), tt);
  sink = λ k c is to op. absurd (no-open calls h k c is op);
}

-- 3. A Lines that answers before its list is kept
abbrev answers_early : World
answers_early = world ((l, unkept native.Lines (filled_with (a ∷ []))) ∷ []) ((1, transfer f l 0 (item a)) ∷ [])

pub early : BreaksTheLaw (run_to (turn l 1 (shown.Return 1)) answers_early)
early = (
  are-created (turn l 1 (shown.Return 1)) answers_early,
  λ law. (let flows = law.1.1.1.0 (joined _ (refl, tt)) in
      flows.lines 1 _ _ refl refl refl refl),
)

-- 4. A Sink that takes an item twice after a crash
abbrev taken_twice : World
taken_twice = world ((l, kept_as native.Lines (filled_with (a ∷ b ∷ [])) (filled_with (a ∷ b ∷ [])))
    ∷ (k, kept_as native.Sink (held (a ∷ a ∷ [])) (held (a ∷ []))) ∷ []) []

pub twice : BreaksTheLaw (run_to (turn k 1 shown.Checkpoint) taken_twice)
twice = (
  are-created (turn k 1 shown.Checkpoint) taken_twice,
  λ law. (let flows = law.1.1.1.0 (joined [] tt) in
      let front = flows.sink.active in
      let bad : true ≡ false = ap (λ items. is_a (slice_get items 1)) front.1 in cc bad),
)

-- 5. A filter that passes an item over at a restart: it hands out the second item as the first
abbrev passed_over : World
passed_over = world ((l, kept_as native.Lines (filled_with (a ∷ b ∷ [])) (filled_with (a ∷ b ∷ []))) ∷ [])
    ((1, transfer k f 0 (item b)) ∷ [])

pub over : BreaksTheLaw (run_to (turn f 1 (shown.Return 1)) passed_over)
over = (
  are-created (turn f 1 (shown.Return 1)) passed_over,
  λ law. (let flows = law.1.1.1.0 (joined _ (refl, tt)) in
      let bad : false ≡ true = ap (λ l. is_a (Some (text_in (argument 0 l)))) (flows.filters.0 1 _ _ refl refl refl refl) in cc bad),
)
