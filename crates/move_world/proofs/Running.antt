-- The worlds of a log are a run, and so each Eject is held once in each of them.
use Rattle.std.proofs.Common.{◌≡◌, inl, inr, ℕ, Bool, true, false, List, [], ◌∷◌, Option, None, Some, refl, sym, subst}
use Rattle.capability.specs.declared.Uid.{Uid}
use Rattle.eden_value.specs.Datum.{Datum}
use Rattle.move_laws.specs.Wander.{Letter, Take, Known, Contains, IsFresh}
use Rattle.move_laws.specs.OneHolder.{OneHolder}
use Rattle.move_laws.specs.World.{World, Post, Call, Make, Wake, Save, Lend, Again, IsMeant, Happens, Called, Crashed}
use Rattle.move_laws.specs.World.{Restarted, Nothing, Run, Ended, Refused, Answered, view, fallen, settled_by}
use Rattle.move_laws.proofs.Holding.{Holding}
use Rattle.move_laws.proofs.KeptToo.{at-first}
use Rattle.move_laws.proofs.Says.{says, not-lost}
use Rattle.move_laws.proofs.Events.{keeps-event}
use Rattle.eden_move.specs.Records.{is_long}
use Rattle.eden_move.specs.Calls.{own_uid}
use Rattle.move_world.specs.Commands.{Command, makes, wakes, saves, moves, repeats, carries, crashes, restarts, fails, stops, IsInReach}
use Rattle.move_world.specs.Logs.{receiver, letter_at, call_by, Answer, Shows, Entry}
use Rattle.move_world.specs.Logs.{Calls, IsMisplaced, IsCalled, IsWakingOf, IsCarried, risen, IsOpened, Leads, Follows, AllInReach}
use Rattle.move_world.specs.Logs.{all_entries, blank_world}
use Rattle.move_world.specs.Laws.{LogsAreRuns, HoldsOnce, AllHoldOnce, LogsHoldOnce, ShowsFresh, AllShowFresh, LogsShowFresh}
use Rattle.move_world.proofs.Posted.{found}
use Rattle.move_world.proofs.Positive.{IsPositiveLetter, IsPositiveCall, IsPositiveWorld, falls, settles, carried, turned, called, of-sent}

-- 1. Each command is an event, and keeps generations positive

-- an event, behind which generations are positive
abbrev Goes : World Datum → World Datum → Type 0
Goes w x = Happens is_long w x × IsPositiveWorld x

same : (w x : World Datum) → IsPositiveWorld w → x ≡ w → Goes w x
same w x p e = (Nothing e, subst IsPositiveWorld (sym e) p)

misplaced : (n : ℕ) (needs : Bool) (a : Answer) (w x : World Datum) → IsPositiveWorld w → IsMisplaced n needs a w x → Goes w x
misplaced n needs a w x p m = same w x p m.same

calls : (n : ℕ) (u : Uid) (c : Call Datum) (how : Ended Datum) (w x : World Datum) → IsPositiveWorld w → (w.node n).up ≡ true
    → IsMeant n u c w → IsPositiveCall c → Calls n u c how w x → Goes w x
calls n u c how w x p up meant call k =
    let left = carried is_long u c (w.node n) how k.node call (p.node n) k.carried in (
      Called n u c how k.node up meant k.carried k.world,
      subst IsPositiveWorld (sym k.world) (called n u c how k.node w left.0 left.1 p),
    )

is-called : (n : ℕ) (u : Uid) (c : Call Datum) (a : Answer) (w x : World Datum) → IsPositiveWorld w → IsMeant n u c w → IsPositiveCall c
    → IsCalled n u c a w x → Goes w x
is-called n u c a w x p meant call k = elim k [
  | inl m ↦ misplaced n true a w x p m
  | inr l ↦ calls n u c l.1.0 w x p l.0 meant call l.1.2
]

-- what a letter asks for is meant
meant-by : (b : ℕ) (w : World Datum) (u : Uid) (from : ℕ) (l : Letter Datum)
    → Contains w.posted (record { uid = u; from = from; letter = l }) → receiver l ≡ b → IsPositiveLetter l
    → IsMeant b u (call_by from l) w × IsPositiveCall (call_by from l)
meant-by b w u from (Take to g v) sent is h =
    ((h, subst (λ k. Contains w.posted (record { uid = u; from = from; letter = Take k g v })) is sent), h)
meant-by b w u from (Known to g) sent is h =
    (subst (λ k. Contains w.posted (record { uid = u; from = from; letter = Known k g })) is sent, tt)

is-carried : (from b i : ℕ) (a : Answer) (w x : World Datum) → IsPositiveWorld w → (w.node b).up ≡ true
    → IsCarried b (letter_at from b i w.posted) a w x → Goes w x
is-carried from b i a w x p up = go (letter_at from b i w.posted) refl
  where
    go : (o : Option (Post Datum)) → letter_at from b i w.posted ≡ o → IsCarried b o a w x → Goes w x
    go None is k = same w x p k.1
    go (Some q) is k =
        let f = found from b i w.posted q is in
        let meant = meant-by b w q.uid q.from q.letter f.sent f.to (of-sent w.posted q f.sent p.posted) in
        calls b q.uid (call_by q.from q.letter) k.0 w x p up meant.0 meant.1 k.2

is-opened : (n : ℕ) (a : Answer) (w x : World Datum) → IsPositiveWorld w → IsOpened n a w x → Goes w x
is-opened n a w x p k = elim k [
  | inl o ↦ (
    Restarted n o.1 o.2 o.3,
    subst IsPositiveWorld (sym o.3)
        (turned n (risen o.1 (w.node n)) w
        (let q = falls (settled_by o.1 (w.node n)) (settles o.1 (w.node n) (p.node n)) in
        record { kept = q.kept; doubt = q.doubt; memory = q.memory }) p),
  )
  | inr e ↦ same w x p e.1
]

goes : (c : Command) (a : Answer) (w x : World Datum) → IsInReach c → IsPositiveWorld w → Leads c a w x → Goes w x
goes (makes n s v) a w x reach p k = is-called n (own_uid n s) (Make v) a w x p refl tt k
goes (wakes n u) a w x reach p k = elim k [
  | inl m ↦ misplaced n true a w x p m
  | inr l ↦ calls n u Wake l.1.0 w x p l.0 tt tt l.1.1
]
goes (saves n u v) a w x reach p k = is-called n u (Save v) a w x p tt tt k
goes (moves n u to) a w x reach p k = is-called n u (Lend to) a w x p reach.3 tt k
goes (repeats n u) a w x reach p k = is-called n u Again a w x p tt tt k
goes (carries from b i) a w x reach p k = elim k [
  | inl m ↦ misplaced b true a w x p m
  | inr l ↦ is-carried from b i a w x p l.0 l.1
]
goes (crashes n how) a w x reach p k = elim k [
  | inl m ↦ misplaced n true a w x p m
  | inr l ↦ (Crashed n l.1.1, subst IsPositiveWorld (sym l.1.1) (turned n (fallen (w.node n)) w (falls (w.node n) (p.node n)) p))
]
goes (restarts n) a w x reach p k = elim k [
  | inl m ↦ misplaced n false a w x p m
  | inr l ↦ is-opened n a w x p l.1
]
goes (fails n after) a w x reach p k = elim k [
  | inl m ↦ misplaced n true a w x p m
  | inr l ↦ same w x p l.1.1
]
goes (stops n after how) a w x reach p k = elim k [
  | inl m ↦ misplaced n true a w x p m
  | inr l ↦ same w x p l.1.1
]

-- 2. Logs

run-of : (es : List Entry) (w : World Datum) (xs : List (World Datum)) → AllInReach es → IsPositiveWorld w → Follows w es xs
    → Run is_long w xs
run-of [] w [] reach p f = tt
run-of [] w (x ∷ xs) reach p f = absurd f
run-of (e ∷ es) w [] reach p f = absurd f
run-of (e ∷ es) w (x ∷ xs) reach p f =
    let g = goes e.command e.answer w x reach.0 p f.0 in (g.0, run-of es x xs reach.1 g.1 f.1)

positive-first : IsPositiveWorld blank_world
positive-first = record { node = λ n. record { kept = λ u. tt; doubt = tt; memory = λ u. tt }; posted = tt }

pub logs-are-runs : LogsAreRuns
logs-are-runs log l = run-of (all_entries log) blank_world l.worlds l.reach positive-first l.follows

-- 3. What holds in each world

-- the invariant of each Eject
abbrev Held : World Datum → Type 0
Held w = (u : Uid) → Holding u.node (view u w)

held-first : Held blank_world
held-first u = at-first u.node (view u blank_world) (record {
  kept = λ n. refl;
  doubt = λ n. refl;
  active = λ n. refl;
  memory = λ n. refl;
  sent = refl;
  last = refl;
  cut = refl;
})

held-next : (w x : World Datum) → Held w → Happens is_long w x → Held x
held-next w x h e u = keeps-event is_long u w x (h u) e

once : (w : World Datum) → Held w → HoldsOnce w
once w h = record {
  one = λ u. says u.node (view u w) (h u);
  kept = λ n u has. not-lost u.node (view u w) (h u) n has;
}

all-once : (w : World Datum) (xs : List (World Datum)) → Held w → Run is_long w xs → AllHoldOnce xs
all-once w [] h run = tt
all-once w (x ∷ xs) h run = let k = held-next w x h run.0 in (once x k, all-once x xs k run.1)

pub logs-hold-once : LogsHoldOnce
logs-hold-once log l = all-once blank_world l.worlds held-first (logs-are-runs log l)

-- 4. What wakings show

shown : (n : ℕ) (u : Uid) (v : Datum) (x : World Datum) → OneHolder (view u x) → (how : Ended Datum)
    → IsWakingOf ((x.node n).memory u) how (Shows v) → IsFresh (view u x) v
shown n u v x one (Refused r) k = absurd (cc k)
shown n u v x one (Answered put post) k =
    let same : k.1 ≡ v = cc (sym k.3) in
    subst (IsFresh (view u x)) same (one.fresh n k.0 k.1 (inl (one.memory n k.0 k.1 k.2).0))

shows-fresh : (c : Command) (a : Answer) (w x : World Datum) → HoldsOnce x → Leads c a w x → ShowsFresh c a x
shows-fresh (wakes n u) (Shows v) w x h k = elim k [
  | inl m ↦ absurd (cc m.answer)
  | inr l ↦ shown n u v x (h.one u) l.1.0 l.1.2
]
shows-fresh c a w x h k = tt

all-fresh : (es : List Entry) (w : World Datum) (xs : List (World Datum)) → AllHoldOnce xs → Follows w es xs → AllShowFresh es xs
all-fresh [] w xs h f = tt
all-fresh (e ∷ es) w [] h f = absurd f
all-fresh (e ∷ es) w (x ∷ xs) h f = (shows-fresh e.command e.answer w x h.0 f.0, all-fresh es x xs h.1 f.1)

pub logs-show-fresh : LogsShowFresh
logs-show-fresh log l = all-fresh (all_entries log) blank_world l.worlds (logs-hold-once log l) l.follows
