-- Commands one behind the other.
use Rattle.std.proofs.Common.{◌≡◌, ℕ, zero, suc, ◌+◌, ◌≤◌, List, [], ◌∷◌, ◌++◌, map, refl, sym, ap, subst, ◌∙◌, arith, append_assoc}
use Rattle.std.proofs.Common.{append-nil}
use Rattle.std.specs.Prelude.{IsTrue, Bool}
use Rattle.move_world.specs.declared.answer.Entry.{Entry as CodedEntry}
use Rattle.std.proofs.lemmas.List.{map-append}
use Rattle.eden_value.specs.Datum.{Datum}
use Rattle.passive_store.specs.Kept.{Layout}
use Rattle.move_laws.specs.World.{World}
use Rattle.eden_move.specs.declared.letter.Letter.{Letter}
use Rattle.move_world.specs.declared.commands.MoveCommand.{MoveCommand}
use Rattle.move_world.specs.declared.commands.MoveCommand.TheVariants as command
use Rattle.move_world.specs.Commands.{Command, restarts, IsInReach}
use Rattle.move_world.specs.Logs.{Entry, Leads, Follows, AllInReach, openings_from, blank_world, IsLegalMove}
use Rattle.move_world.specs.View.{meant, entry_of, log_of}
use Rattle.move_world.specs.Seats.{Standing}
use Rattle.move_world.specs.Worlds.{IsWorld, IsOf, Steps, FollowsTo, Reaches, commands_of, AreInReach}
use Rattle.move_world.specs.Counting.{end_in, node_of}
use Rattle.move_world.specs.Counted.{CountedAt, AllCounted}
use Rattle.move_world.proofs.Counts.{counted-first, counted-more}
use Rattle.move_world.specs.declared.answer.Log.{Log as CodedLog}

-- 1. One more

follows-more : (w v x : World Datum) (es : List Entry) (xs : List (World Datum)) (e : Entry) → FollowsTo w es xs v
    → Leads e.command e.answer v x → FollowsTo w (es ++ e ∷ []) (xs ++ x ∷ []) x
follows-more w v x [] [] e f l = (subst (λ z. Leads e.command e.answer z x) f l, refl)
follows-more w v x [] (y ∷ ys) e f l = absurd f
follows-more w v x (d ∷ es) [] e f l = absurd f
follows-more w v x (d ∷ es) (y ∷ ys) e f l = (f.0, follows-more y v x es ys e f.1 l)

pub reaches-more : (layout : Layout) (w : World Datum) (es : List Entry) (e : Entry) (ss ss2 : List Standing) (ls ls2 : List (List Letter))
    → Reaches layout w es ss ls
    → ((v : World Datum) → IsOf layout ss ls v → Steps layout e.command e.answer ss2 ls2 v) → Reaches layout w (es ++ e ∷ []) ss2 ls2
reaches-more layout w es e ss ss2 ls ls2 r step =
    let s = step r.1 r.3 in (r.0 ++ s.0 ∷ [], s.0, follows-more w r.1 s.0 es r.0 e r.2 s.1, s.2)

-- 2. One list behind the other

follows-both : (w v x : World Datum) (es ds : List Entry) (xs ys : List (World Datum)) → FollowsTo w es xs v → FollowsTo v ds ys x
    → FollowsTo w (es ++ ds) (xs ++ ys) x
follows-both w v x [] ds [] ys f g = subst (λ z. FollowsTo z ds ys x) f g
follows-both w v x [] ds (y ∷ xs) ys f g = absurd f
follows-both w v x (e ∷ es) ds [] ys f g = absurd f
follows-both w v x (e ∷ es) ds (y ∷ xs) ys f g = (f.0, follows-both y v x es ds xs ys f.1 g)

follows-all : (w v : World Datum) (es : List Entry) (xs : List (World Datum)) → FollowsTo w es xs v → Follows w es xs
follows-all w v [] [] f = tt
follows-all w v [] (y ∷ ys) f = absurd f
follows-all w v (e ∷ es) [] f = absurd f
follows-all w v (e ∷ es) (y ∷ ys) f = (f.0, follows-all y v es ys f.1)

-- 3. Reach

pub openings-reach : (n count : ℕ) → 1 ≤ n → n + count ≤ 9 → AreInReach (openings_from n count)
openings-reach n zero least most = tt
openings-reach n (suc count) least most = ((least, omega (arith, most)), openings-reach (suc n) count (omega arith) (omega (arith, most)))

all-reach : (es : List Entry) → AreInReach (commands_of es) → AllInReach es
all-reach [] h = tt
all-reach (e ∷ es) h = (h.0, all-reach es h.1)

both-reach : (es ds : List Entry) → AllInReach es → AllInReach ds → AllInReach (es ++ ds)
both-reach [] ds h k = k
both-reach (e ∷ es) ds h k = (h.0, both-reach es ds h.1 k)

-- the openings with one more
pub openings-more : (n count : ℕ) → openings_from n (count + 1) ≡ openings_from n count ++ restarts (n + count) ∷ []
openings-more n count = let e : count + 1 ≡ suc count = omega arith in ap (openings_from n) e ∙ go n count
  where
    go : (n count : ℕ) → openings_from n (suc count) ≡ openings_from n count ++ restarts (n + count) ∷ []
    go n zero = let e : n ≡ n + zero = omega arith in ap (λ k. restarts k ∷ []) e
    go n (suc count) =
        let e : suc n + count ≡ n + suc count = omega arith in
        ap (λ z. restarts n ∷ z) (go (suc n) count ∙ ap (λ k. openings_from (suc n) count ++ restarts k ∷ []) e)

-- 4. A whole log

pub legal : (layout : Layout) (l : CodedLog) (commands : List Command) (ss ss2 ss3 : List Standing) (ls ls2 ls3 : List (List Letter))
    → l.nodes ≤ 8 → AreInReach commands → commands_of (map entry_of l.openings.items) ≡ openings_from 1 l.nodes
    → commands_of (map entry_of l.entries.items) ≡ commands → Reaches layout blank_world (map entry_of l.openings.items) ss2 ls2
    → ((w : World Datum) → IsOf layout ss2 ls2 w → Reaches layout w (map entry_of l.entries.items) ss3 ls3) → IsLegalMove (log_of l)
legal layout l commands ss ss2 ss3 ls ls2 ls3 few reach opened all first later =
    let second = later first.1 first.3 in
    record {
      worlds = first.0 ++ second.0;
      opened = opened;
      follows = follows-all blank_world second.1 (map entry_of l.openings.items ++ map entry_of l.entries.items) (first.0 ++ second.0)
          (follows-both blank_world first.1 second.1 (map entry_of l.openings.items) (map entry_of l.entries.items) first.0 second.0
          first.2 second.2);
      reach = both-reach (map entry_of l.openings.items) (map entry_of l.entries.items)
          (all-reach (map entry_of l.openings.items) (subst AreInReach (sym opened) (openings-reach 1 l.nodes (omega arith) (omega
          (arith, few)))))
          (all-reach (map entry_of l.entries.items) (subst AreInReach (sym all) reach));
    }

-- 5. A loop

-- These commands are carried out, with these entries, and those are to come: what is in hand is that of a world to which they led.
pub record Ran (tells : Bool) (layout : Layout) (ss ss2 : List Standing) (ls ls2 : List (List Letter)) (es : List Entry)
    (all rest : List Command) : Type 0 where
  pub world : IsWorld ss2 ls2
  pub reach : AreInReach rest
  pub cut : commands_of es ++ rest ≡ all
  pub reaches : IsTrue tells → (w : World Datum) → IsOf layout ss ls w → Reaches layout w es ss2 ls2
  pub counted : AllCounted es ss ss2

pub ran-first : (tells : Bool) (layout : Layout) (ss : List Standing) (ls : List (List Letter)) (es : List Entry) (all : List Command)
    → IsWorld ss ls → AreInReach all → es ≡ [] → Ran tells layout ss ss ls ls es all all
ran-first tells layout ss ls es all world reach none =
    subst (λ z. Ran tells layout ss ss ls ls z all all) (sym none) (record {
      world = world;
      reach = reach;
      cut = refl;
      reaches = λ so w h. ([], w, refl, h);
      counted = counted-first ss;
    })

pub ran-step : (tells : Bool) (layout : Layout) (ss ss2 ss3 : List Standing) (ls ls2 ls3 : List (List Letter)) (es later : List Entry)
    (all rest behind : List Command) (e : Entry) → Ran tells layout ss ss2 ls ls2 es all rest → rest ≡ e.command ∷ behind
    → later ≡ es ++ e ∷ [] → IsWorld ss3 ls3
    → (IsTrue tells → (w : World Datum) → IsOf layout ss2 ls2 w → Steps layout e.command e.answer ss3 ls3 w)
    → CountedAt (node_of e.command) (end_in e.answer) ss2 ss3 → Ran tells layout ss ss3 ls ls3 later all behind
ran-step tells layout ss ss2 ss3 ls ls2 ls3 es later all rest behind e r cut more world steps counted =
    subst (λ z. Ran tells layout ss ss3 ls ls3 z all behind) (sym more) (record {
      world = world;
      reach = (subst AreInReach cut r.reach).1;
      cut = ap (λ z. z ++ behind) (map-append (λ (x : Entry). x.command) es (e ∷ []))
          ∙ append_assoc (commands_of es) (e.command ∷ []) behind
          ∙ ap (λ z. commands_of es ++ z) (sym cut) ∙ r.cut;
      reaches = λ so w h. reaches-more layout w es e ss2 ss3 ls2 ls3 (r.reaches so w h) (steps so);
      counted = counted-more es e ss ss2 ss3 r.counted counted;
    })

pub ran-head : (tells : Bool) (layout : Layout) (ss ss2 : List Standing) (ls ls2 : List (List Letter)) (es : List Entry)
    (all rest behind : List Command) (c : Command) → Ran tells layout ss ss2 ls ls2 es all rest → rest ≡ c ∷ behind → IsInReach c
ran-head tells layout ss ss2 ls ls2 es all rest behind c r cut = (subst AreInReach cut r.reach).0

pub ran-all : (tells : Bool) (layout : Layout) (ss ss2 : List Standing) (ls ls2 : List (List Letter)) (es : List Entry)
    (all rest : List Command) → Ran tells layout ss ss2 ls ls2 es all rest → rest ≡ [] → commands_of es ≡ all
ran-all tells layout ss ss2 ls ls2 es all rest r none = sym (append-nil (commands_of es)) ∙ ap (λ z. commands_of es ++ z) (sym none) ∙ r.cut

pub entries-more : (es : List CodedEntry) (later : List CodedEntry) (e : CodedEntry) → later ≡ es ++ e ∷ []
    → map entry_of later ≡ map entry_of es ++ entry_of e ∷ []
entries-more es later e more = ap (map entry_of) more ∙ map-append entry_of es (e ∷ [])

pub openings-step : (old new : List MoveCommand) (n : ℕ) → map meant old ≡ openings_from 1 n → new ≡ old ++ command.Restart (n + 1) ∷ []
    → map meant new ≡ openings_from 1 (n + 1)
openings-step old new n before more =
    let e : n + 1 ≡ 1 + n = omega arith in
    ap (map meant) more ∙ map-append meant old (command.Restart (n + 1) ∷ [])
    ∙ ap (λ z. z ++ restarts (n + 1) ∷ []) before ∙ ap (λ k. openings_from 1 n ++ restarts k ∷ []) e
    ∙ sym (openings-more 1 n)

pub opening-reach : (cs : List Command) (n : ℕ) → n ≤ 8 → cs ≡ openings_from 1 n → AreInReach cs
opening-reach cs n few e = subst AreInReach (sym e) (openings-reach 1 n (omega arith) (omega (arith, few)))
