-- Where one disk is spared, it gives what was acknowledged.
use Rattle.std.proofs.Common.{◌≡◌, ◌≢◌, ◌⊎◌, inl, inr, ℕ, Bool, true, false, List, [], ◌∷◌, Option, None, Some, refl, sym, subst, ◌∙◌}
use Rattle.std.specs.Prelude.{◌==◌, ◌&&◌, ◌||◌, not, if◌then◌else◌}
use Rattle.twin_world.specs.Commands.{Command, opens, puts, gets, deletes, closes, blanks, fails, stops, is_second}
use Rattle.twin_world.specs.Logs.{Answer, WrongState, Opened, Made, Found, NoRoom, Refused, CutShort, Entry, Change, Texts, SameTexts}
use Rattle.twin_world.specs.Logs.{texts_after, Pair, blank_pair, left_by, is_claimed, closed_by, served_by, opened_by}
use Rattle.twin_world.specs.Logs.{changed_by, put_of, delete_of, behind, Opens, ChangesSo, LooksSo, Leads, known_behind, Steps}
use Rattle.twin_world.specs.Logs.{MayRefuse}
use Rattle.twin_store.specs.declared.served.TwinRefusal.{TwinRefusal}
use Rattle.twin_store.specs.declared.served.TwinRefusal.TheVariants.{Lost}
use Rattle.twin_world.specs.Logs.{is_of, Follows, no_texts, InState, OpensSo, BlanksSo, IsDone, looked_by, open_by, shut_by, blanked_by}
use Rattle.twin_world.specs.Laws.{of_disk, IsNotBlanked, Spares, AllSpare, Choices, IsAmong, none_at_first, with_made, with_begun}
use Rattle.twin_world.specs.Laws.{with_answer, with_command, with_entry, IsKept, AllKept, OneDiskIsEnough}

-- 1. What stays so

-- What is known where a disk was spared: it vouches, and what is held is one of the choices.
record Stays (second : Bool) (may : Choices) (p : Pair) (m : Texts) : Type 0 where
  sure : p.sure ≡ true
  spoiled : p.spoiled ≡ false
  vouches : of_disk second p.first_vouches p.second_vouches ≡ true
  used : p.is_open ≡ true → of_disk second p.first p.second ≡ true
  held : (serial : ℕ) → IsAmong (m serial) (may serial)
  begun : (serial : ℕ) → IsAmong (texts_after p.begun m serial) (may serial)

left-on : (b f : Bool) → b ≡ true → f ≡ false → left_by b f ≡ true
left-on true false e h = refl
left-on true true e h = absurd (cc h)
left-on false f e h = absurd (cc e)

-- a disk that vouched and met no fault vouches on
left-of : (second a b f g : Bool) → of_disk second a b ≡ true → of_disk second f g ≡ false
    → of_disk second (left_by a f) (left_by b g) ≡ true
left-of true a b f g e h = left-on b g e h
left-of false a b f g e h = left-on a f e h

same-among : (m x : Texts) (c : Option Change) (may : Choices) → SameTexts x m
    → ((serial : ℕ) → IsAmong (texts_after c m serial) (may serial)) → (serial : ℕ) → IsAmong (texts_after c x serial) (may serial)
same-among m x None may same h = λ serial. subst (λ t. IsAmong t (may serial)) (sym (same serial)) (h serial)
same-among m x (Some c) may same h = λ serial. go serial (serial == c.serial) (h serial)
  where
    go : (serial : ℕ) (b : Bool) → IsAmong (if b then c.text else m serial) (may serial)
        → IsAmong (if b then c.text else x serial) (may serial)
    go serial true k = k
    go serial false k = subst (λ t. IsAmong t (may serial)) (sym (same serial)) k

stays-same : (second : Bool) (may : Choices) (p : Pair) (m x : Texts) → SameTexts x m → Stays second may p m → Stays second may p x
stays-same second may p m x same s = record {
  sure = s.sure;
  spoiled = s.spoiled;
  vouches = s.vouches;
  used = s.used;
  held = same-among m x None may same s.held;
  begun = same-among m x p.begun may same s.begun;
}

-- behind a call that was not refused
served : (second : Bool) (may new : Choices) (p : Pair) (m x : Texts) (e : Entry) → Stays second may p m → p.is_open ≡ true
    → Spares second e → ((serial : ℕ) → IsAmong (x serial) (new serial)) → Stays second new (served_by e p) x
served second may new p m x e s up spare held = record {
  sure = s.sure;
  spoiled = refl;
  vouches = left-of second p.first p.second e.first_failed e.second_failed (s.used up) spare.met;
  used = λ is. left-of second p.first p.second e.first_failed e.second_failed (s.used up) spare.met;
  held = held;
  begun = held;
}

-- behind a refusal
closed : (second : Bool) (may new : Choices) (p : Pair) (m x : Texts) (e : Entry) (c : Option Change) → Stays second may p m
    → Spares second e → ((serial : ℕ) → IsAmong (x serial) (new serial))
    → ((serial : ℕ) → IsAmong (texts_after c x serial) (new serial)) → Stays second new (closed_by c e p) x
closed second may new p m x e c s spare held begun = record {
  sure = s.sure;
  spoiled = s.spoiled;
  vouches = left-of second p.first_vouches p.second_vouches e.first_failed e.second_failed s.vouches spare.met;
  used = λ is. absurd (cc is);
  held = held;
  begun = begun;
}

-- 2. Openings

claim : (second a b f g s w : Bool) → s ≡ true → w ≡ false → of_disk second a b ≡ true → of_disk second f g ≡ false
    → s && (not w && (left_by a f || left_by b g)) ≡ true
claim second a b f g true false hs hw e h = go second a b f g e h
  where
    go : (second a b f g : Bool) → of_disk second a b ≡ true → of_disk second f g ≡ false → (left_by a f || left_by b g) ≡ true
    go false true b false g e h = refl
    go false true b true g e h = absurd (cc h)
    go false false b f g e h = absurd (cc e)
    go true a true f true e h = absurd (cc h)
    go true a false f g e h = absurd (cc e)
    go true true true true false e h = refl
    go true true true false false e h = refl
    go true false true f false e h = refl
claim second a b f g false w hs hw e h = absurd (cc hs)
claim second a b f g true true hs hw e h = absurd (cc hw)

used-on : (second a b x y : Bool) → (a ≡ true → x ≡ true) → (b ≡ true → y ≡ true) → of_disk second a b ≡ true → of_disk second x y ≡ true
used-on true a b x y h k e = k e
used-on false a b x y h k e = h e

or-true : (a b : Bool) → b ≡ true → (a || b) ≡ true
or-true true b e = refl
or-true false b e = e

opened : (second first other : Bool) (may : Choices) (p : Pair) (m x : Texts) (e : Entry) → Stays second may p m → Spares second e
    → Opens first other e p m x → Stays second may (opened_by first other e p) x × (of_disk second first other ≡ true)
opened second first other may p m x e s spare o =
    let claimed : is_claimed p e ≡ true = claim second p.first_vouches p.second_vouches e.first_failed e.second_failed p.sure p.spoiled
    s.sure s.spoiled s.vouches spare.met in
    let gives = o.given claimed in
    let left = left-of second p.first_vouches p.second_vouches e.first_failed e.second_failed s.vouches spare.met in
    let there = used-on second (left_by p.first_vouches e.first_failed) (left_by p.second_vouches e.second_failed) first other
    gives.first_used gives.second_used left in
    let held = among gives.held in (
      record {
        sure = or-true (first && other) (is_claimed p e) claimed;
        spoiled = refl;
        vouches = there;
        used = λ is. there;
        held = held;
        begun = held;
      },
      there,
    )
  where
    among : SameTexts x m ⊎ SameTexts x (texts_after p.begun m) → (serial : ℕ) → IsAmong (x serial) (may serial)
    among (inl same) = same-among m x None may same s.held
    among (inr same) = λ serial. subst (λ t. IsAmong t (may serial)) (sym (same serial)) (s.begun serial)

-- 3. Changes and looks

both-gone : (second a b : Bool) → a ≡ false → b ≡ false → of_disk second a b ≡ true → ⊥
both-gone true a b f g e = cc (sym g ∙ e)
both-gone false a b f g e = cc (sym f ∙ e)

-- where the disk was in use and met no fault, a call is not refused as lost
not-lost : (second : Bool) (p : Pair) (e : Entry) (r : TwinRefusal) → of_disk second p.first p.second ≡ true → Spares second e
    → MayRefuse r e p → r ≢ Lost
not-lost second p e r used spare may is =
    both-gone second (left_by p.first e.first_failed) (left_by p.second e.second_failed) (may.lost is).0 (may.lost is).1
    (left-of second p.first p.second e.first_failed e.second_failed used spare.met)

puts-kept : (second : Bool) (may to : Choices) (n serial : ℕ) (text : List ℕ) (a : Answer) (p : Pair) (m x : Texts) (e : Entry)
    → Stays second may p m → Spares second e → InState true p.is_open a m x (ChangesSo (put_of serial text) a e p m x)
    → IsKept second to (puts n serial text) a
puts-kept second may to n serial text (Refused r) p m x e s spare l = not-lost second p e r (s.used l.0) spare l.1.0
puts-kept second may to n serial text WrongState p m x e s spare l = tt
puts-kept second may to n serial text Made p m x e s spare l = tt
puts-kept second may to n serial text NoRoom p m x e s spare l = tt
puts-kept second may to n serial text (Opened first other) p m x e s spare l = tt
puts-kept second may to n serial text (Found t) p m x e s spare l = tt
puts-kept second may to n serial text (CutShort stopped) p m x e s spare l = tt

deletes-kept : (second : Bool) (may to : Choices) (n serial : ℕ) (a : Answer) (p : Pair) (m x : Texts) (e : Entry)
    → Stays second may p m → Spares second e → InState true p.is_open a m x (ChangesSo (delete_of serial) a e p m x)
    → IsKept second to (deletes n serial) a
deletes-kept second may to n serial (Refused r) p m x e s spare l = not-lost second p e r (s.used l.0) spare l.1.0
deletes-kept second may to n serial WrongState p m x e s spare l = tt
deletes-kept second may to n serial Made p m x e s spare l = tt
deletes-kept second may to n serial NoRoom p m x e s spare l = tt
deletes-kept second may to n serial (Opened first other) p m x e s spare l = tt
deletes-kept second may to n serial (Found t) p m x e s spare l = tt
deletes-kept second may to n serial (CutShort stopped) p m x e s spare l = tt

made-among : (m x : Texts) (c : Option Change) (may : Choices) → SameTexts x (texts_after c m)
    → ((serial : ℕ) → IsAmong (m serial) (may serial)) → (serial : ℕ) → IsAmong (x serial) (with_made c may serial)
made-among m x None may same h = same-among m x None may same h
made-among m x (Some c) may same h = λ serial. subst (λ t. IsAmong t (with_made (Some c) may serial)) (sym (same serial))
    (go serial (serial == c.serial))
  where
    go : (serial : ℕ) (b : Bool) → IsAmong (if b then c.text else m serial) (if b then c.text ∷ [] else may serial)
    go serial true = inl refl
    go serial false = h serial

-- what was among the choices is among them where a change was begun, and so is its text
begun-held : (m : Texts) (c : Option Change) (may : Choices) → ((serial : ℕ) → IsAmong (m serial) (may serial))
    → (serial : ℕ) → IsAmong (m serial) (with_begun c may serial)
begun-held m None may h = h
begun-held m (Some c) may h = λ serial. go serial (serial == c.serial)
  where
    go : (serial : ℕ) (b : Bool) → IsAmong (m serial) (if b then c.text ∷ may serial else may serial)
    go serial true = inr (h serial)
    go serial false = h serial

begun-too : (m : Texts) (c : Option Change) (may : Choices) → ((serial : ℕ) → IsAmong (m serial) (may serial))
    → (serial : ℕ) → IsAmong (texts_after c m serial) (with_begun c may serial)
begun-too m None may h = h
begun-too m (Some c) may h = λ serial. go serial (serial == c.serial)
  where
    go : (serial : ℕ) (b : Bool) → IsAmong (if b then c.text else m serial) (if b then c.text ∷ may serial else may serial)
    go serial true = inl refl
    go serial false = h serial

begun-closed : (second : Bool) (may : Choices) (p : Pair) (m x : Texts) (e : Entry) (c : Option Change) → Stays second may p m
    → Spares second e → SameTexts x m → Stays second (with_begun c may) (closed_by c e p) x
begun-closed second may p m x e c s spare same =
    let held = same-among m x None may same s.held in
    closed second may (with_begun c may) p m x e c s spare (begun-held x c may held) (begun-too x c may held)

changes : (second : Bool) (may : Choices) (c : Option Change) (a : Answer) (p : Pair) (m x : Texts) (e : Entry) → Stays second may p m
    → Spares second e → InState true p.is_open a m x (ChangesSo c a e p m x) → Stays second (with_answer c a may) (changed_by c a e p) x
changes second may c WrongState p m x e s spare l = stays-same second may p m x l.1 s
changes second may c Made p m x e s spare l = served second may (with_made c may) p m x e s l.0 spare (made-among m x c may l.1 s.held)
changes second may c (Refused r) p m x e s spare l = begun-closed second may p m x e c s spare l.1.1
changes second may c NoRoom p m x e s spare l = stays-same second may p m x l.1.1 s
changes second may c (Opened first other) p m x e s spare l = absurd l.1
changes second may c (Found text) p m x e s spare l = absurd l.1
changes second may c (CutShort stopped) p m x e s spare l = absurd l.1

looks : (second : Bool) (may : Choices) (n serial : ℕ) (a : Answer) (p : Pair) (m x : Texts) (e : Entry) → Stays second may p m
    → Spares second e → InState true p.is_open a m x (LooksSo serial a e p m x)
    → Stays second may (looked_by a e p) x × IsKept second may (gets n serial) a
looks second may n serial WrongState p m x e s spare l = (stays-same second may p m x l.1 s, tt)
looks second may n serial (Found text) p m x e s spare l = (
  served second may may p m x e s l.0 spare (same-among m x None may l.1.1 s.held),
  subst (λ t. IsAmong t (may serial)) (sym l.1.0) (s.held serial),
)
looks second may n serial (Refused r) p m x e s spare l =
    let held = same-among m x None may l.1.1 s.held in
    (closed second may may p m x e None s spare held held, not-lost second p e r (s.used l.0) spare l.1.0)
looks second may n serial Made p m x e s spare l = absurd l.1
looks second may n serial (Opened first other) p m x e s spare l = absurd l.1
looks second may n serial (CutShort stopped) p m x e s spare l = absurd l.1
looks second may n serial NoRoom p m x e s spare l = absurd l.1

opens-so : (second : Bool) (may : Choices) (n : ℕ) (a : Answer) (p : Pair) (m x : Texts) (e : Entry) → Stays second may p m
    → Spares second e → InState false p.is_open a m x (OpensSo a e p m x)
    → Stays second may (open_by a e p) x × IsKept second may (opens n) a
opens-so second may n WrongState p m x e s spare l = (stays-same second may p m x l.1 s, tt)
opens-so second may n (Opened first other) p m x e s spare l = opened second first other may p m x e s spare l.1
opens-so second may n (Refused r) p m x e s spare l = (
  closed second may may p m x e p.begun s spare (same-among m x None may l.1.1 s.held) (same-among m x p.begun may l.1.1 s.begun),
  λ is. cc (sym (claim second p.first_vouches p.second_vouches e.first_failed e.second_failed p.sure p.spoiled s.sure s.spoiled s.vouches
      spare.met) ∙ l.1.0.lost is),
)
opens-so second may n Made p m x e s spare l = absurd l.1
opens-so second may n (Found text) p m x e s spare l = absurd l.1
opens-so second may n (CutShort stopped) p m x e s spare l = absurd l.1
opens-so second may n NoRoom p m x e s spare l = absurd l.1

-- 4. Closings and blankings

shut-stays : (second : Bool) (may : Choices) (p : Pair) (m x : Texts) → Stays second may p m → SameTexts x m
    → Stays second may (record p { is_open = false }) x
shut-stays second may p m x s same = record {
  sure = s.sure;
  spoiled = s.spoiled;
  vouches = s.vouches;
  used = λ is. absurd (cc is);
  held = same-among m x None may same s.held;
  begun = same-among m x p.begun may same s.begun;
}

closes-so : (second : Bool) (may : Choices) (a : Answer) (p : Pair) (m x : Texts) → Stays second may p m
    → InState true p.is_open a m x (IsDone a m x) → Stays second may (shut_by a p) x
closes-so second may WrongState p m x s l = stays-same second may p m x l.1 s
closes-so second may Made p m x s l = shut-stays second may p m x s l.1
closes-so second may (Opened first other) p m x s l = absurd l.1
closes-so second may (Found text) p m x s l = absurd l.1
closes-so second may (Refused r) p m x s l = absurd l.1
closes-so second may (CutShort stopped) p m x s l = absurd l.1
closes-so second may NoRoom p m x s l = absurd l.1

-- the other disk was blanked
blank-vouches : (second other a b : Bool) → other ≡ not second → of_disk second a b ≡ true
    → of_disk second (a && other) (b && not other) ≡ true
blank-vouches true false a true is e = refl
blank-vouches true false a false is e = absurd (cc e)
blank-vouches true true a b is e = absurd (cc is)
blank-vouches false true true b is e = refl
blank-vouches false true false b is e = absurd (cc e)
blank-vouches false false a b is e = absurd (cc is)

or-false : (b : Bool) → b ≡ false → (b || false) ≡ false
or-false false e = refl
or-false true e = e

blanks-so : (second other : Bool) (may : Choices) (d : ℕ) (a : Answer) (p : Pair) (m x : Texts) → other ≡ is_second d → Stays second may p m
    → IsNotBlanked second (blanks d) a → InState false p.is_open a m x (BlanksSo a m x) → Stays second may (blanked_by other a p) x
blanks-so second other may d WrongState p m x is s spare l = stays-same second may p m x l.1 s
blanks-so second other may d Made p m x is s spare l = record {
  sure = s.sure;
  spoiled = or-false p.spoiled s.spoiled;
  vouches = blank-vouches second other p.first_vouches p.second_vouches (is ∙ spare) s.vouches;
  used = s.used;
  held = same-among m x None may l.1 s.held;
  begun = same-among m x p.begun may l.1 s.begun;
}
blanks-so second other may d (CutShort stopped) p m x is s spare l = absurd spare
blanks-so second other may d (Opened first third) p m x is s spare l = absurd l.1
blanks-so second other may d (Found text) p m x is s spare l = absurd l.1
blanks-so second other may d (Refused r) p m x is s spare l = absurd l.1
blanks-so second other may d NoRoom p m x is s spare l = absurd l.1

armed : (second : Bool) (may : Choices) (a : Answer) (p : Pair) (m x : Texts) → Stays second may p m → IsDone a m x → Stays second may p x
armed second may Made p m x s l = stays-same second may p m x l s
armed second may WrongState p m x s l = absurd l
armed second may (Opened first other) p m x s l = absurd l
armed second may (Found text) p m x s l = absurd l
armed second may (Refused r) p m x s l = absurd l
armed second may (CutShort stopped) p m x s l = absurd l
armed second may NoRoom p m x s l = absurd l

-- 5. Logs

leads : (second : Bool) (may : Choices) (c : Command) (a : Answer) (p : Pair) (m x : Texts) (e : Entry) → Stays second may p m
    → Spares second e → IsNotBlanked second c a → Leads c a e p m x
    → Stays second (with_command c a may) (behind c a e p) x × IsKept second may c a
leads second may (opens n) a p m x e s spare still l = opens-so second may n a p m x e s spare l
leads second may (puts n serial text) a p m x e s spare still l =
    (changes second may (put_of serial text) a p m x e s spare l, puts-kept second may may n serial text a p m x e s spare l)
leads second may (gets n serial) a p m x e s spare still l = looks second may n serial a p m x e s spare l
leads second may (deletes n serial) a p m x e s spare still l =
    (changes second may (delete_of serial) a p m x e s spare l, deletes-kept second may may n serial a p m x e s spare l)
leads second may (closes n) a p m x e s spare still l = (closes-so second may a p m x s l, tt)
leads second may (blanks d) a p m x e s spare still l = (blanks-so second (is_second d) may d a p m x refl s still l, tt)
leads second may (fails d after) a p m x e s spare still l = (armed second may a p m x s l, tt)
leads second may (stops d after how) a p m x e s spare still l = (armed second may a p m x s l, tt)

steps : (second b : Bool) (may : Choices) (p : Pair) (m x : Texts) (e : Entry) → Stays second may p m
    → (b ≡ true → Spares second e) → Steps b e p m x
    → Stays second (with_entry b e may) (known_behind b e p) x × (b ≡ true → IsKept second may e.command e.answer)
steps second true may p m x e s spare l =
    let fine = spare refl in
    let there = leads second may e.command e.answer p m x e s fine fine.blanked l in (there.0, λ is. there.1)
steps second false may p m x e s spare l = (stays-same second may p m x l s, λ is. absurd (cc is))

follows : (n : ℕ) (second : Bool) (es : List Entry) (may : Choices) (p : Pair) (m : Texts) → Stays second may p m → AllSpare n second es
    → Follows n es p m → AllKept n second may es
follows n second [] may p m s spare l = tt
follows n second (e ∷ es) may p m s spare l =
    let there = steps second (is_of n e) may p m l.0 e s spare.0 l.1 in (
      there.1,
      follows n second es (with_entry (is_of n e) e may) (known_behind (is_of n e) e p) l.0 there.0 spare.1 l.2,
    )

both-vouch : (second : Bool) → of_disk second true true ≡ true
both-vouch true = refl
both-vouch false = refl

at-first : (second : Bool) → Stays second none_at_first blank_pair no_texts
at-first second = record {
  sure = refl;
  spoiled = refl;
  vouches = both-vouch second;
  used = λ is. both-vouch second;
  held = λ serial. inl refl;
  begun = λ serial. inl refl;
}

pub one-disk-is-enough : OneDiskIsEnough
one-disk-is-enough = λ log legal n second spare.
    follows n second log.entries none_at_first blank_pair no_texts (at-first second) spare (legal.follows n)
