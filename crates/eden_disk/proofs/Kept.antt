-- What a disk in memory keeps after each change.
use Rattle.std.proofs.Common.{◌≡◌, ◌⊎◌, ℕ, ◌+◌, ◌-◌, suc, ◌≤◌, ◌<◌, Bool, false, List, [], ◌∷◌, ◌++◌, length, take, drop, get_or}
use Rattle.std.proofs.Common.{slice_range, map, reverse, replicate, refl, sym, ap, subst, ◌∙◌, inl, inr, arith}
use Rattle.std.specs.Prelude.{◌||◌, ◌^◌}
use Rattle.std.proofs.lemmas.List.{ext_get_or, map-append, reverse-append, length-take-le, take_all, length-drop, length-replicate}
use Rattle.std.proofs.lemmas.List.{get_or-take, get_or-drop}
use Rattle.std.proofs.lemmas.List.Elements.{All-push}
use Rattle.std.proofs.lemmas.Bool.Decides.{nat_tests}
use Rattle.eden_disk.specs.declared.disk.ImageMode.{ImageMode}
use Rattle.eden_disk.specs.declared.disk.ImageMode.TheVariants.{Keep, Lose, Garble}
use Rattle.eden_disk.specs.Calls.{IsCut}
use Rattle.eden_disk.specs.declared.medium.Span.{Span}
use Rattle.eden_disk.specs.Told.{Contents, Range, Told, Wrote, Synced, Cut, at_rest, after_act, contents, overlay, noted, Left}
use Rattle.eden_disk.specs.Told.{is_unsynced, in_range}
use Rattle.eden_disk.specs.Images.{garbled, image_left}
use Rattle.eden_disk.specs.SimDisk.{zeros}
use Rattle.eden_disk.specs.Spans.{range_of, AllFit, copied, AgreeElsewhere, IsKeptBy, AreHeld}
use Rattle.eden_disk.proofs.Overlay.{length-overlay, overlay_inside, overlay_outside}
use Rattle.eden_disk.proofs.SimDiskLaws.{length-zeros}

synced_by : (k : ℕ) (r : Range) (b : Bool) → (in_range k r || b) ≡ false → ((k < r.at) ⊎ (r.at + r.len ≤ k)) × (b ≡ false)
synced_by k r b h = grind (arith, nat_tests)

pub kept_written : (clock at : ℕ) (bytes : List ℕ) (c : Contents) (now stable : List ℕ) (spans : List Span)
    → at + length bytes ≤ length now → IsKeptBy c now stable spans →
    IsKeptBy (after_act (Wrote clock at bytes) c) (overlay at bytes now) stable (spans ++ record { at = at; len = length bytes } ∷ [])
kept_written clock at bytes c now stable spans fits k =
    let now_is : c.now ≡ now = ap (λ (x : Contents). x.now) k.holds in
    let stable_is : c.stable ≡ stable = ap (λ (x : Contents). x.stable) k.holds in
    let unsynced_is : c.unsynced ≡ map range_of (reverse spans) = ap (λ (x : Contents). x.unsynced) k.holds in
    let room : at + length bytes ≤ length c.now = omega (arith, fits, ap length now_is) in
    let span : Span = record { at = at; len = length bytes } in
    record {
      holds = ap (after_act (Wrote clock at bytes)) k.holds ∙ ap
          (λ m. record { now = overlay at bytes now; stable = stable; unsynced = m })
          (sym (ap (map range_of) (reverse-append spans (span ∷ []))));
      left = record {
        size = length-overlay at bytes c.now room ∙ k.left.size;
        outside = λ j un. let u = synced_by j (range_of span) (is_unsynced j c.unsynced) un in
            overlay_outside at j bytes c.now room u.0 ∙ k.left.outside j u.1;
      };
      same_size = length-overlay at bytes now fits ∙ k.same_size;
      fit = subst (λ n. AllFit n (spans ++ span ∷ [])) (sym (length-overlay at bytes now fits))
          (All-push (λ (s : Span). s.at + s.len ≤ length now) spans span k.fit fits);
    }

-- ranges that lie within so many bytes
abbrev pub RangesFit : ℕ → List Range → Type 0
RangesFit size [] = Unit {0}
RangesFit size (r ∷ rs) = (r.at + r.len ≤ size) × RangesFit size rs

pub length-garbled : (byte : ℕ) (rs : List Range) (bytes : List ℕ) → RangesFit (length bytes) rs
    → length (garbled byte rs bytes) ≡ length bytes
length-garbled byte [] bytes fit = refl
length-garbled byte (r ∷ rs) bytes fit =
    let before : length (garbled byte rs bytes) ≡ length bytes = length-garbled byte rs bytes fit.1 in
    length-overlay r.at (replicate r.len byte) (garbled byte rs bytes) (omega (arith, fit.0, before, length-replicate r.len byte)) ∙ before

pub garbled_outside : (byte k : ℕ) (rs : List Range) (bytes : List ℕ) → RangesFit (length bytes) rs → is_unsynced k rs ≡ false
    → get_or (garbled byte rs bytes) k 0 ≡ get_or bytes k 0
garbled_outside byte k [] bytes fit un = refl
garbled_outside byte k (r ∷ rs) bytes fit un =
    let u = synced_by k r (is_unsynced k rs) un in
    let before : length (garbled byte rs bytes) ≡ length bytes = length-garbled byte rs bytes fit.1 in
    overlay_outside r.at k (replicate r.len byte) (garbled byte rs bytes) (omega (arith, fit.0, before, length-replicate r.len byte))
    (subst (λ n. (k < r.at) ⊎ (r.at + n ≤ k)) (sym (length-replicate r.len byte)) u.0)
    ∙ garbled_outside byte k rs bytes fit.1 u.1

ranges_push : (size : ℕ) (rs ss : List Range) → RangesFit size rs → RangesFit size ss → RangesFit size (rs ++ ss)
ranges_push size [] ss a b = b
ranges_push size (r ∷ rs) ss a b = (a.0, ranges_push size rs ss a.1 b)

length-piece : (from : List ℕ) (r : Range) → r.at + r.len ≤ length from → length (slice_range from r.at (r.at + r.len)) ≡ r.len
length-piece from r fits = omega (arith, length-take-le (r.at + r.len - r.at) (drop r.at from) (omega (arith, fits, length-drop r.at from)))

length-copied : (from : List ℕ) (rs : List Range) (bytes : List ℕ) → length bytes ≡ length from → RangesFit (length from) rs
    → length (copied from rs bytes) ≡ length bytes
length-copied from [] bytes same fit = refl
length-copied from (r ∷ rs) bytes same fit =
    let before : length (copied from rs bytes) ≡ length bytes = length-copied from rs bytes same fit.1 in
    length-overlay r.at (slice_range from r.at (r.at + r.len)) (copied from rs bytes)
    (omega (arith, fit.0, before, same, length-piece from r fit.0)) ∙ before

inside_or_not : (k : ℕ) (r : Range) → ((r.at ≤ k) × (k < r.at + r.len)) ⊎ (((k < r.at) ⊎ (r.at + r.len ≤ k)) × (in_range k r ≡ false))
inside_or_not k r = grind (arith, nat_tests)

-- what was copied, and elsewhere what was there
copied_at : (from : List ℕ) (rs : List Range) (bytes : List ℕ) (k : ℕ) → length bytes ≡ length from → RangesFit (length from) rs
    → (is_unsynced k rs ≡ false → get_or bytes k 0 ≡ get_or from k 0) →
    get_or (copied from rs bytes) k 0 ≡ get_or from k 0
copied_at from [] bytes k same fit elsewhere = elsewhere refl
copied_at from (r ∷ rs) bytes k same fit elsewhere =
    let piece : List ℕ = slice_range from r.at (r.at + r.len) in
    let len : length piece ≡ r.len = length-piece from r fit.0 in
    let room : r.at + length piece ≤ length (copied from rs bytes) = omega
    (arith, fit.0, len, same, length-copied from rs bytes same fit.1) in
    elim (inside_or_not k r) [
      | inl inside ↦
          overlay_inside r.at k piece (copied from rs bytes) room inside.0 (omega (arith, inside.1, len))
          ∙ get_or-take (r.at + r.len - r.at) (drop r.at from) (k - r.at) 0 (omega (arith, inside.0, inside.1))
          ∙ get_or-drop r.at from (k - r.at) 0 ∙ ap (λ n. get_or from n 0) (omega (arith, inside.0))
      | inr outside ↦
          overlay_outside r.at k piece (copied from rs bytes) room (subst (λ n. (k < r.at) ⊎ (r.at + n ≤ k)) (sym len) outside.0)
          ∙ copied_at from rs bytes k same fit.1 (λ un. elsewhere (rw outside.1 un))
    ]

pub copied_all : (from : List ℕ) (rs : List Range) (bytes : List ℕ) → length bytes ≡ length from → RangesFit (length from) rs
    → AgreeElsewhere rs bytes from → copied from rs bytes ≡ from
copied_all from rs bytes same fit elsewhere = ext_get_or 0 (copied from rs bytes) from (length-copied from rs bytes same fit ∙ same)
    (λ k h. copied_at from rs bytes k same fit (elsewhere k))

-- the spans, the newest first
pub ranges_of_spans : (size : ℕ) (spans : List Span) → AllFit size spans → RangesFit size (map range_of (reverse spans))
ranges_of_spans size [] all = tt
ranges_of_spans size (m ∷ spans) all =
    subst (RangesFit size) (sym (ap (map range_of) (reverse-append (m ∷ []) spans) ∙ map-append range_of (reverse spans) (m ∷ [])))
    (ranges_push size (map range_of (reverse spans)) (range_of m ∷ []) (ranges_of_spans size spans (λ k d h. all (suc k) d (omega arith)))
    (all 0 m (omega arith), tt))

-- all spans copied make the lists equal
pub spans_copied : (from before after : List ℕ) (spans : List Span) (n : ℕ)
    → after ≡ copied from (map range_of (reverse (take n spans))) before → length spans ≤ n → length before ≡ length from
    → AllFit (length before) spans →
    AgreeElsewhere (map range_of (reverse spans)) before from → after ≡ from
spans_copied from before after spans n is all same fit elsewhere =
    is ∙ ap (λ l. copied from (map range_of (reverse l)) before) (take_all n spans all)
    ∙ copied_all from (map range_of (reverse spans)) before same
    (ranges_of_spans (length from) spans (subst (λ k. AllFit k spans) same fit)) elsewhere

-- what is garbled still agrees elsewhere
pub garbled_elsewhere : (byte : ℕ) (seen before after : List ℕ) (spans : List Span)
    → after ≡ garbled byte (map range_of (reverse spans)) before → length seen ≡ length before → AllFit (length seen) spans →
    AgreeElsewhere (map range_of (reverse spans)) seen before → AgreeElsewhere (map range_of (reverse spans)) seen after
garbled_elsewhere byte seen before after spans is same fit elsewhere =
    λ k un. elsewhere k un ∙ sym (garbled_outside byte k (map range_of (reverse spans)) before
    (ranges_of_spans (length before) spans (subst (λ n. AllFit n spans) same fit)) un) ∙ ap (λ l. get_or l k 0) (sym is)

-- the lists that are kept agree where nothing is unsynced
pub kept_elsewhere : (c : Contents) (now stable : List ℕ) (spans : List Span) → IsKeptBy c now stable spans
    → AgreeElsewhere (map range_of (reverse spans)) now stable
kept_elsewhere c now stable spans k = subst (λ (d : Contents). AgreeElsewhere d.unsynced d.now d.stable) k.holds k.left.outside

-- one span more, and memory for it
pub fits_pushed : (few many at len : ℕ) (spans spans1 spans2 : List Span) → spans1 ≡ spans
    → spans2 ≡ spans1 ++ record { at = at; len = len } ∷ [] → few ≤ many → at + len ≤ many → AllFit few spans → AllFit many spans2
fits_pushed few many at len spans spans1 spans2 m1 m2 le room fit =
    subst (AllFit many) (sym (m2 ∙ ap (λ l. l ++ record { at = at; len = len } ∷ []) m1))
    (All-push (λ (s : Span). s.at + s.len ≤ many) spans (record { at = at; len = len }) (λ k d h. omega (arith, fit k d h, le)) room)

none_held : (now stable : ℕ) → AreHeld now stable []
none_held now stable = record { now_held = λ k d h. absurd (omega arith); stable_held = λ k d h. absurd (omega arith) }

-- what is kept after a write
pub write_kept : (t t2 : Told) (spans spans1 spans2 : List Span) (now now2 stable stable2 bytes : List ℕ) (clock at len : ℕ) →
    t2 ≡ noted (Wrote clock at bytes) t → spans1 ≡ spans → spans2 ≡ spans1 ++ record { at = at; len = len } ∷ [] → len ≡ length bytes →
    now2 ≡ overlay at bytes now → stable2 ≡ stable → at + length bytes ≤ length now → IsKeptBy (contents t) now stable spans
    → IsKeptBy (contents t2) now2 stable2 spans2
write_kept t t2 spans spans1 spans2 now now2 stable stable2 bytes clock at len told m1 m2 size is same fits k =
    let s : Span = record { at = at; len = length bytes } in
    let ends : spans2 ≡ spans ++ s ∷ [] =
    m2 ∙ ap (λ l. l ++ record { at = at; len = len } ∷ []) m1 ∙ ap (λ n. spans ++ record { at = at; len = n } ∷ []) size in
    subst (λ u. IsKeptBy (contents u) now2 stable2 spans2) (sym told)
    (subst (λ ms. IsKeptBy (after_act (Wrote clock at bytes) (contents t)) now2 stable2 ms) (sym ends)
    (subst (λ y. IsKeptBy (after_act (Wrote clock at bytes) (contents t)) now2 y (spans ++ s ∷ [])) (sym same)
    (subst (λ x. IsKeptBy (after_act (Wrote clock at bytes) (contents t)) x stable (spans ++ s ∷ [])) (sym is)
    (kept_written clock at bytes (contents t) now stable spans fits k))))

-- nothing is unsynced, and both images are the same
pub rest_kept : (t : Told) (now stable : List ℕ) → contents t ≡ at_rest now → stable ≡ now → IsKeptBy (contents t) now stable []
rest_kept t now stable at same = record {
  holds = at ∙ ap (λ s. record { now = now; stable = s; unsynced = [] }) (sym same);
  left = subst (λ d. Left d d.now) (sym at) (record { size = refl; outside = λ j un. refl });
  same_size = ap length (sym same);
  fit = λ j d h. absurd (omega arith);
}

-- a blank disk
pub blank_kept : (t : Told) (size : ℕ) (now stable : List ℕ) (spans : List Span) (now_reach stable_reach : ℕ)
    → t ≡ record { image = zeros size; acts = [] } → now ≡ zeros size → stable ≡ zeros size → spans ≡ [] → size < 2 ^ 32
    → IsKeptBy (contents t) now stable spans × (length now < 2 ^ 32) × AreHeld now_reach stable_reach spans
blank_kept t size now stable spans now_reach stable_reach told a b none small = (
  subst (IsKeptBy (contents t) now stable) (sym none) (rest_kept t now stable (ap contents told ∙ ap at_rest (sym a)) (b ∙ sym a)),
  omega (arith, ap length a, length-zeros size, small),
  subst (AreHeld now_reach stable_reach) (sym none) (none_held now_reach stable_reach),
)

-- what is kept after a sync
pub sync_kept : (t t2 : Told) (spans : List Span) (now stable stable2 : List ℕ) (clock : ℕ) → t2 ≡ noted (Synced clock) t → stable2 ≡ now
    → IsKeptBy (contents t) now stable spans → IsKeptBy (contents t2) now stable2 []
sync_kept t t2 spans now stable stable2 clock told same k =
    rest_kept t2 now stable2 (ap contents told ∙ ap at_rest (ap (λ (x : Contents). x.now) k.holds)) same

-- what a cut leaves is one of the images that it may leave
pub image_is_left : (mode : ImageMode) (c : Contents) (now stable : List ℕ) (spans : List Span) → IsKeptBy c now stable spans
    → Left c (image_left mode c)
image_is_left Keep c now stable spans k = k.left
image_is_left Lose c now stable spans k = record { size = refl; outside = λ j un. refl }
image_is_left (Garble byte) c now stable spans k =
    let stable_is : c.stable ≡ stable = ap (λ (x : Contents). x.stable) k.holds in
    let unsynced_is : c.unsynced ≡ map range_of (reverse spans) = ap (λ (x : Contents). x.unsynced) k.holds in
    let fit : RangesFit (length c.stable) c.unsynced = subst (RangesFit (length c.stable)) (sym unsynced_is)
    (subst (λ n. RangesFit n (map range_of (reverse spans))) (k.same_size ∙ sym (ap length stable_is))
    (ranges_of_spans (length now) spans k.fit)) in
    record { size = length-garbled byte c.unsynced c.stable fit; outside = λ j un. garbled_outside byte j c.unsynced c.stable fit un }

none_unsynced : (c : Contents) (now stable : List ℕ) → IsKeptBy c now stable [] → c.now ≡ c.stable
none_unsynced c now stable k = ext_get_or 0 c.now c.stable k.left.size
    (λ j h. k.left.outside j (subst (λ m. is_unsynced j m ≡ false) (sym (ap (λ (x : Contents). x.unsynced) k.holds)) refl))

left_alone : (mode : ImageMode) (c : Contents) (now stable : List ℕ) → IsKeptBy c now stable [] → c.now ≡ image_left mode c
left_alone Keep c now stable k = refl
left_alone Lose c now stable k = none_unsynced c now stable k
left_alone (Garble byte) c now stable k = none_unsynced c now stable k ∙ sym
    (ap (λ m. garbled byte m c.stable) (ap (λ (x : Contents). x.unsynced) k.holds))

pub nothing_to_cut : (mode : ImageMode) (c : Contents) (now stable : List ℕ) (spans : List Span) → length spans ≡ 0
    → IsKeptBy c now stable spans → (c.now ≡ image_left mode c) × (c.unsynced ≡ [])
nothing_to_cut mode c now stable [] none k = (left_alone mode c now stable k, ap (λ (x : Contents). x.unsynced) k.holds)
nothing_to_cut mode c now stable (m ∷ spans) none k = absurd (omega arith)

-- what is kept after a cut
pub cut_kept : (t t2 : Told) (spans : List Span) (now now2 stable stable2 : List ℕ) (clock : ℕ) (mode : ImageMode)
    → t2 ≡ noted (Cut clock (image_left mode (contents t))) t →
    now2 ≡ image_left mode (record { now = now; stable = stable; unsynced = map range_of (reverse spans) }) → stable2 ≡ now2 →
    IsKeptBy (contents t) now stable spans → IsKeptBy (contents t2) now2 stable2 []
cut_kept t t2 spans now now2 stable stable2 clock mode told is same k =
    let image : now2 ≡ image_left mode (contents t) = is ∙ ap (image_left mode) (sym k.holds) in
    rest_kept t2 now2 stable2 (ap contents told ∙ ap at_rest (sym image)) same

pub cut_told : (t t2 : Told) (spans : List Span) (now stable : List ℕ) (clock : ℕ) (mode : ImageMode) →
    t2 ≡ noted (Cut clock (image_left mode (contents t))) t → IsKeptBy (contents t) now stable spans → IsCut clock t t2
cut_told t t2 spans now stable clock mode told k =
    inl (image_left mode (contents t), image_is_left mode (contents t) now stable spans k, told)

pub cut_size : (t t2 : Told) (spans : List Span) (now stable : List ℕ) (clock : ℕ) (mode : ImageMode) →
    t2 ≡ noted (Cut clock (image_left mode (contents t))) t → IsKeptBy (contents t) now stable spans
    → length (contents t2).now ≡ length (contents t).now
cut_size t t2 spans now stable clock mode told k =
    let c : Contents = contents t in
    ap (λ u. length (contents u).now) told ∙ (image_is_left mode c now stable spans k).size
    ∙ ap (λ (x : Contents). length x.stable) k.holds ∙ sym k.same_size ∙ sym (ap (λ (x : Contents). length x.now) k.holds)
