-- Laws of the definitions of specs/Timed.
use Rattle.std.specs.Prelude.{◌≡◌, ◌↔◌, ℕ, ◌+◌, ◌-◌, ◌^◌, ◌≤◌, ◌<◌, List, [], ◌∷◌, ◌++◌}
use Rattle.std.proofs.Common.{refl, sym, ap, subst, ◌∙◌, inl, inr, arith, append_assoc}
use Rattle.std.proofs.lemmas.Bool.{cases_lt}
use Rattle.eden_disk.specs.Told.{Contents, Act, Wrote, Synced, Cut, Told, contents, contents_from, noted, Left}
use Rattle.eden_disk.specs.Calls.{Counts, End, Fine, AtFault, AtStop, one_more, IsCut, ReadTold, SyncTold, WriteTold, IsSpent}
use Rattle.eden_disk.proofs.Held.{only_now, from_append, contents_since}
use Rattle.eden_disk.specs.Moments.{clock_of, LeftBehind, LeftWithin, acts_since, LeftAfter, LeftIn}
use Rattle.eden_disk.proofs.Moments.{since_is}
use Rattle.eden_disk.specs.Timed.{InOrder, MayCome, Timed, clock_before}

timed_same : (before after : ℕ) (old new : Told) → before ≤ after → new ≡ old → Timed before old after new
timed_same before after old new h e = subst (Timed before old after) (sym e) (record { acts = []; image = refl; since = refl; order = h })

timed_noted : (before after : ℕ) (act : Act) (old new : Told) → clock_of act ≤ after → MayCome (contents old) act
    → before ≤ clock_before act → new ≡ noted act old → Timed before old after new
timed_noted before after act old new a may b e = subst (Timed before old after) (sym e)
    (record { acts = act ∷ []; image = refl; since = refl; order = (a, may, b) })

order_append : (c : Contents) (before between after : ℕ) (xs ys : List Act) → InOrder c before ys between
    → InOrder (contents_from c ys) between xs after → InOrder c before (xs ++ ys) after
order_append c before between after [] [] a b = omega (arith, a, b)
order_append c before between after [] (y ∷ ys) a b = (omega (arith, a.0, b), a.1, a.2)
order_append c before between after (x ∷ xs) ys a b =
    (b.0, subst (λ d. MayCome d x) (from_append c xs ys) b.1, order_append c before between (clock_before x) xs ys a b.2)

-- clocks never fall
pub order_rises : (c : Contents) (before after : ℕ) (acts : List Act) → InOrder c before acts after → before ≤ after
order_rises c before after [] o = o
order_rises c before after (Wrote k at bytes ∷ acts) o = omega (arith, o.0, order_rises c before (k - 1) acts o.2)
order_rises c before after (Synced k ∷ acts) o = omega (arith, o.0, order_rises c before (k - 1) acts o.2)
order_rises c before after (Cut k image ∷ acts) o = omega (arith, o.0, order_rises c before k acts o.2)

pub timed_join : (before between after : ℕ) (old mid new : Told) → Timed before old between mid → Timed between mid after new
    → Timed before old after new
timed_join before between after old mid new a b = record {
  acts = b.acts ++ a.acts;
  image = b.image ∙ a.image;
  since = b.since ∙ ap (λ rest. b.acts ++ rest) a.since ∙ sym (append_assoc b.acts a.acts old.acts);
  order = order_append (contents old) before between after b.acts a.acts a.order
      (subst (λ c. InOrder c between b.acts after) (contents_since old mid a.acts a.image a.since) b.order);
}

-- a power cut, and a stop in a call that changes nothing
pub timed_cut : (before clock : ℕ) (old new : Told) → before ≤ clock → IsCut clock old new → Timed before old clock new
timed_cut before clock old new h (inl cut) = timed_noted before clock (Cut clock cut.0) old new (omega arith) cut.1 h cut.2
timed_cut before clock old new h (inr same) = timed_same before clock old new h same.1

-- each device call: the clock before it, the clock behind it
pub timed_read : (before after : ℕ) (old new : Told) (end : End) → after ≡ one_more before → ReadTold after old new end
    → Timed before old after new
timed_read before after old new Fine clock told = timed_same before after old new (omega (arith, clock)) told
timed_read before after old new AtFault clock told = timed_same before after old new (omega (arith, clock)) told
timed_read before after old new AtStop clock told = timed_cut before after old new (omega (arith, clock)) told

sync_below : (before after : ℕ) (old new : Told) (end : End) → after ≡ before + 1 → SyncTold after old new end → Timed before old after new
sync_below before after old new Fine clock told = timed_noted before after (Synced after) old new (omega arith) (omega (arith, clock))
    (omega (arith, clock)) told
sync_below before after old new AtFault clock told = timed_same before after old new (omega (arith, clock)) told
sync_below before after old new AtStop clock told = timed_cut before after old new (omega (arith, clock)) told

pub timed_sync : (before after : Counts) (old new : Told) (end : End) → after.clock ≡ one_more before.clock
    → (2 ^ 64 - 1 ≤ before.clock → IsSpent before after old new end) → SyncTold after.clock old new end →
    Timed before.clock old after.clock new
timed_sync before after old new end clock spent told = elim (cases_lt before.clock (2 ^ 64 - 1)) [
  | inl below ↦ sync_below before.clock after.clock old new end (omega (arith, clock, below)) told
  | inr last ↦ timed_same before.clock after.clock old new (omega (arith, clock)) (spent last).same
]

write_below : (before after at : ℕ) (bytes : List ℕ) (old new : Told) (end : End) → after ≡ before + 1
    → WriteTold after at bytes old new end → Timed before old after new
write_below before after at bytes old new Fine clock told = timed_noted before after (Wrote after at bytes) old new (omega arith)
    (omega (arith, clock)) (omega (arith, clock)) told
write_below before after at bytes old new AtFault clock (inl same) = timed_same before after old new (omega (arith, clock)) same
write_below before after at bytes old new AtFault clock (inr some) = timed_noted before after (Wrote after at some.0) old new
    (omega arith) (omega (arith, clock)) (omega (arith, clock)) some.2
write_below before after at bytes old new AtStop clock cut =
    timed_join before after after old (noted (Wrote after at bytes) old) new
    (timed_noted before after (Wrote after at bytes) old (noted (Wrote after at bytes) old) (omega arith) (omega (arith, clock))
    (omega (arith, clock)) refl)
    (timed_cut after after (noted (Wrote after at bytes) old) new (omega arith) cut)

pub timed_write : (at : ℕ) (bytes : List ℕ) (before after : Counts) (old new : Told) (end : End) → after.clock ≡ one_more before.clock
    → (2 ^ 64 - 1 ≤ before.clock → IsSpent before after old new end) →
    WriteTold after.clock at bytes old new end → Timed before.clock old after.clock new
timed_write at bytes before after old new end clock spent told = elim (cases_lt before.clock (2 ^ 64 - 1)) [
  | inl below ↦ write_below before.clock after.clock at bytes old new end (omega (arith, clock, below)) told
  | inr last ↦ timed_same before.clock after.clock old new (omega (arith, clock)) (spent last).same
]

-- Up to the clock at which the later acts begin, they change nothing of what a crash may have left.
within_earlier : (c : Contents) (begin between after m : ℕ) (image : List ℕ) (xs ys : List Act) → m ≤ between
    → InOrder (contents_from c ys) between xs after →
    LeftWithin c begin (xs ++ ys) m image ↔ LeftWithin c begin ys m image
within_earlier c begin between after m image [] ys h o = (λ l. l, λ l. l)
within_earlier c begin between after m image (Wrote k at bytes ∷ xs) ys h o =
    let rest = within_earlier c begin between (k - 1) m image xs ys h o.2 in
    let past : m < k = omega (arith, h, o.1, order_rises (contents_from c ys) between (k - 1) xs o.2) in
    (λ l. elim l [ inl here ↦ absurd (omega (arith, here.0, past)) | inr before ↦ rest.0 before.1 ], λ l. inr (past, rest.1 l))
within_earlier c begin between after m image (Synced k ∷ xs) ys h o =
    let rest = within_earlier c begin between (k - 1) m image xs ys h o.2 in
    let past : m < k = omega (arith, h, o.1, order_rises (contents_from c ys) between (k - 1) xs o.2) in (
      λ l. elim l [ inl here ↦ absurd (omega (arith, here.0, past)) | inr before ↦ rest.0 before.1 ],
      λ l. inr (omega (arith, past), rest.1 l),
    )
within_earlier c begin between after m image (Cut k left ∷ xs) ys h o =
    let rest = within_earlier c begin between k m image xs ys h o.2 in
    let past : m ≤ k = omega (arith, h, order_rises (contents_from c ys) between k xs o.2) in
    (λ l. elim l [ inl here ↦ absurd (omega (arith, here.0, past)) | inr before ↦ rest.0 before.1 ], λ l. inr (past, rest.1 l))

-- what stands behind all acts up to a clock may be left behind that clock
behind_here : (c : Contents) (begin m : ℕ) (image : List ℕ) (acts : List Act) → InOrder c begin acts m → Left (contents_from c acts) image
    → LeftBehind c begin acts m image
behind_here c begin m image [] o l = (o, l)
behind_here c begin m image (act ∷ acts) o l = inl (o.0, l)

behind_earlier : (c : Contents) (begin between after m : ℕ) (image : List ℕ) (xs ys : List Act) → m ≤ between → InOrder c begin ys between
    → InOrder (contents_from c ys) between xs after →
    LeftBehind c begin (xs ++ ys) m image ↔ LeftBehind c begin ys m image
behind_earlier c begin between after m image [] ys h q o = (λ l. l, λ l. l)
behind_earlier c begin between after m image (Wrote k at bytes ∷ xs) ys h q o =
    let rest = behind_earlier c begin between (k - 1) m image xs ys h q o.2 in
    let past : m < k = omega (arith, h, o.1, order_rises (contents_from c ys) between (k - 1) xs o.2) in
    (λ l. elim l [ inl here ↦ absurd (omega (arith, here.0, past)) | inr before ↦ rest.0 before.1 ], λ l. inr (past, rest.1 l))
behind_earlier c begin between after m image (Synced k ∷ xs) ys h q o =
    let rest = behind_earlier c begin between (k - 1) m image xs ys h q o.2 in
    let past : m < k = omega (arith, h, o.1, order_rises (contents_from c ys) between (k - 1) xs o.2) in
    (λ l. elim l [ inl here ↦ absurd (omega (arith, here.0, past)) | inr before ↦ rest.0 before.1 ], λ l. inr (past, rest.1 l))
behind_earlier c begin between after m image (Cut k left ∷ xs) ys h q o =
    let rest = behind_earlier c begin between k m image xs ys h q o.2 in
    let past : m ≤ k = omega (arith, h, order_rises (contents_from c ys) between k xs o.2) in (
      λ l. elim l [
        | inl here ↦
            let level : m ≡ k = omega (arith, here.0, past) in
            let before : Left (contents_from (contents_from c ys) xs) image = subst (Left (contents_from (contents_from c ys) xs))
            (sym (only_now left image here.1)) o.1 in
            rest.0 (behind_here c begin m image (xs ++ ys)
            (order_append c begin between m xs ys q (subst (InOrder (contents_from c ys) between xs) (sym level) o.2))
            (subst (λ d. Left d image) (from_append c xs ys) before))
        | inr before ↦ rest.0 before.1
      ],
      λ l. inr (past, rest.1 l),
    )

-- Past that clock a crash leaves what the later acts let it leave.
within_later : (c : Contents) (begin between m : ℕ) (image : List ℕ) (xs ys : List Act) → between < m → InOrder c begin ys between
    → LeftWithin c begin (xs ++ ys) m image → LeftWithin (contents_from c ys) between xs m image
within_later c begin between m image [] [] h q l = (h, l.1)
within_later c begin between m image [] (Wrote k at bytes ∷ ys) h q (inl here) = (h, here.1)
within_later c begin between m image [] (Wrote k at bytes ∷ ys) h q (inr before) = absurd (omega (arith, h, q.0, before.0))
within_later c begin between m image [] (Synced k ∷ ys) h q (inl here) = (h, here.1)
within_later c begin between m image [] (Synced k ∷ ys) h q (inr before) = absurd (omega (arith, h, q.0, before.0))
within_later c begin between m image [] (Cut k left ∷ ys) h q (inl here) = (h, here.1)
within_later c begin between m image [] (Cut k left ∷ ys) h q (inr before) = absurd (omega (arith, h, q.0, before.0))
within_later c begin between m image (x ∷ xs) ys h q (inl here) = inl
    (here.0, subst (λ d. Left d image) (sym (from_append c (x ∷ xs) ys)) here.1)
within_later c begin between m image (x ∷ xs) ys h q (inr before) = inr (before.0, within_later c begin between m image xs ys h q before.1)

behind_later : (c : Contents) (begin between m : ℕ) (image : List ℕ) (xs ys : List Act) → between < m → InOrder c begin ys between
    → LeftBehind c begin (xs ++ ys) m image → LeftBehind (contents_from c ys) between xs m image
behind_later c begin between m image [] [] h q l = (omega (arith, h), l.1)
behind_later c begin between m image [] (Wrote k at bytes ∷ ys) h q (inl here) = (omega (arith, h), here.1)
behind_later c begin between m image [] (Wrote k at bytes ∷ ys) h q (inr before) = absurd (omega (arith, h, q.0, before.0))
behind_later c begin between m image [] (Synced k ∷ ys) h q (inl here) = (omega (arith, h), here.1)
behind_later c begin between m image [] (Synced k ∷ ys) h q (inr before) = absurd (omega (arith, h, q.0, before.0))
behind_later c begin between m image [] (Cut k left ∷ ys) h q (inl here) = (omega (arith, h), here.1)
behind_later c begin between m image [] (Cut k left ∷ ys) h q (inr before) = absurd (omega (arith, h, q.0, before.0))
behind_later c begin between m image (x ∷ xs) ys h q (inl here) = inl
    (here.0, subst (λ d. Left d image) (sym (from_append c (x ∷ xs) ys)) here.1)
behind_later c begin between m image (x ∷ xs) ys h q (inr before) = inr (before.0, behind_later c begin between m image xs ys h q before.1)

since_both : (first mid last : Told) (xs ys : List Act) → mid.acts ≡ ys ++ first.acts → last.acts ≡ xs ++ mid.acts
    → acts_since first last ≡ xs ++ ys
since_both first mid last xs ys a b = since_is first last (xs ++ ys) (b ∙ ap (λ rest. xs ++ rest) a ∙ sym (append_assoc xs ys first.acts))

-- No later call changes what a crash may have left behind an earlier call.
pub after_earlier : (begin between end m : ℕ) (first mid last : Told) (image : List ℕ) → Timed begin first between mid
    → Timed between mid end last → m ≤ between → LeftAfter first begin last m image ↔ LeftAfter first begin mid m image
after_earlier begin between end m first mid last image a b h =
    rw (since_both first mid last b.acts a.acts a.since b.since, since_is first mid a.acts a.since)
    (behind_earlier (contents first) begin between end m image b.acts a.acts h a.order
    (subst (λ c. InOrder c between b.acts end) (contents_since first mid a.acts a.image a.since) b.order))

-- Nor what it may have left in the middle of one.
pub in_earlier : (begin between end m : ℕ) (first mid last : Told) (image : List ℕ) → Timed begin first between mid
    → Timed between mid end last → m ≤ between → LeftIn first begin last m image ↔ LeftIn first begin mid m image
in_earlier begin between end m first mid last image a b h =
    rw (since_both first mid last b.acts a.acts a.since b.since, since_is first mid a.acts a.since)
    (within_earlier (contents first) begin between end m image b.acts a.acts h
    (subst (λ c. InOrder c between b.acts end) (contents_since first mid a.acts a.image a.since) b.order))

-- What it may leave in a later call, or behind it, is told by what changed since.
pub after_later : (begin between m : ℕ) (first mid last : Told) (image : List ℕ) → Timed begin first between mid → (acts : List Act)
    → last.acts ≡ acts ++ mid.acts → between < m → LeftAfter first begin last m image → LeftAfter mid between last m image
after_later begin between m first mid last image a acts s h l =
    rw (since_is mid last acts s, contents_since first mid a.acts a.image a.since)
    (behind_later (contents first) begin between m image acts a.acts h a.order
    (subst (λ x. LeftBehind (contents first) begin x m image) (since_both first mid last acts a.acts a.since s) l))

pub in_later : (begin between m : ℕ) (first mid last : Told) (image : List ℕ) → Timed begin first between mid → (acts : List Act)
    → last.acts ≡ acts ++ mid.acts → between < m → LeftIn first begin last m image → LeftIn mid between last m image
in_later begin between m first mid last image a acts s h l =
    rw (since_is mid last acts s, contents_since first mid a.acts a.image a.since)
    (within_later (contents first) begin between m image acts a.acts h a.order
    (subst (λ x. LeftWithin (contents first) begin x m image) (since_both first mid last acts a.acts a.since s) l))
